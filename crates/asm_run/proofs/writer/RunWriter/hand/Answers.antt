use Rattle.std.proofs.Common.{refl}
use Rattle.asm_run.proofs.After as after
use Rattle.asm_run.proofs.writer.RunWriter.hand.Goals as goal

pub returns-clause-handed : goal.returns-clause-handed
returns-clause-handed c = record {
  name = c.in_ok-name.name;
  end = c.in_ok-name.end;
  follows = c.in_ok-name.ensures.follows;
  fired = c.in_ok-name.ensures.moves;
  answered = c.in_ok-name.ensures.events;
  title_is = c.in_ok-written.ensures;
  begun = refl;
}

pub returns-clause-ok : goal.returns-clause-ok
returns-clause-ok c = λ part history h next.
    after.hands part c.args.self.now _ (c.in_ok-written.written.items, c.args.text.now) c.args.moves c.args.events
    history (c.if-not-is_resting.ensures.0 refl) h
    (record {
      name = c.in_ok-name.name;
      end = c.in_ok-name.end;
      follows = c.in_ok-name.ensures.follows;
      fired = c.in_ok-name.ensures.moves;
      answered = c.in_ok-name.ensures.events;
      title_is = c.in_ok-written.ensures;
      begun = refl;
    })
    c.in_ok-name.ensures.digest next
