use Rattle.asm_state.specs.Shown.{shown_as_opened, shown_there}
use Rattle.asm_state.proofs.Counted.{IsAhead, IsCounting}
use Rattle.asm_state.proofs.state.State.count_shown.Given as goal

abbrev pub invariant-loop-at : goal.invariant-loop-at
invariant-loop-at g l = record {
  ahead : IsAhead l.first l.self.entries l.at-iterator;
  counting : IsCounting (shown_as_opened l.self l.first.name (g.L.Lookup.value_at l.shown))
      (shown_there l.self l.first.name (g.L.Lookup.value_at l.shown)) l.at-iterator l.count;
}
