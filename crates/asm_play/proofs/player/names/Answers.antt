use Rattle.std.proofs.Common.{◌≤◌, ℕ, Option, map, sym, ap, subst, ◌∙◌}
use Rattle.std.proofs.lemmas.List.{take_all}
use Rattle.asm_storage.specs.Calls.{ReadingView}
use Rattle.asm_play.specs.StepEvents.{name_at}
use Rattle.asm_play.specs.Trying.{names_of}
use Rattle.asm_play.proofs.Readings.{named_more}
use Rattle.asm_play.proofs.player.names.Goals as goal

pub loop-i-init : goal.loop-i-init
loop-i-init c = c.new-names.ensures.items

pub loop-i-preserved : goal.loop-i-preserved
loop-i-preserved c =
    named_more c.in-Some.reading c.loop-i.i c.loop-i.names.items c.push.new.self.items c.in_ok-named.field-0
    c.loop-i.invariant
    c.in_ok-named.ensures.at c.in_ok-named.ensures.number c.in_ok-push.ensures.items

pub returns : goal.returns
returns c =
    c.loop-i.invariant
    ∙ ap (map (name_at c.in-Some.reading.number))
    (take_all c.loop-i.i c.in-Some.reading.places (subst (λ (n : ℕ). n ≤ c.loop-i.i) c.len-i-end.ensures c.loop-i-test.false))
    ∙ ap (λ (o : Option ReadingView). names_of o) (sym c.in-Some.is)
