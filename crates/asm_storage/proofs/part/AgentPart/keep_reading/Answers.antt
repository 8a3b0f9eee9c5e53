use Rattle.std.proofs.Common.{◌≡◌, List, take, OnOk, ap, sym, ◌∙◌, subst, ℕ}
use Rattle.asm_element.specs.Place.{Place}
use Rattle.asm_element.specs.declared.value.Value.{Value}
use Rattle.asm_storage.specs.declared.call.Answer.TheVariants as answer
use Rattle.asm_storage.specs.declared.call.Call.TheVariants as call
use Rattle.asm_storage.specs.Agents.{moves_seen}
use Rattle.asm_storage.specs.Calls.{ReadingView, receipt_at}
use Rattle.asm_storage.specs.Machine.{reply_to}
use Rattle.asm_storage.specs.Part.{agent_of}
use Rattle.asm_storage.specs.Storage.{machine_of, with_receipt}
use Rattle.asm_storage.proofs.part.AgentPart.keep_reading.Goals as goal

pub returns-clause-ok : goal.returns-clause-ok
returns-clause-ok g c =
    let old = agent_of c.args.storage.now c.args.self.now in
    let new = agent_of c.args.storage.now c.keep.new.self in
    let reading = c.args.reading.now in
    let view = c.reading.view_is in
    let places = c.in_ok-places.ensures (λ x y same. same) ∙ ap (λ (r : ReadingView). r.places) view in
    let values = c.in_ok-values.ensures (λ x y same. same) ∙ ap (λ (r : ReadingView). r.values) view in
    let kept : List Place → ℕ → List Value → Type 0 = λ ps n vs.
    OnOk c.keep.result (new ≡ with_receipt old (receipt_at n (call.Read ps) (answer.Read n vs))) in
    subst (λ ps. kept ps reading.number reading.values) places
    (subst (λ n. kept c.in_ok-places.places n reading.values) (ap (λ (r : ReadingView). r.number) view)
    (subst (λ vs. kept c.in_ok-places.places c.reading.inside.number vs) values c.keep.ensures.ok))

pub keep-requires-clause-reply : goal.keep-requires-clause-reply
keep-requires-clause-reply g c κs within =
    let reading = c.args.reading.now in
    let view = c.reading.view_is in
    let places = c.in_ok-places.ensures (λ x y same. same) ∙ ap (λ (r : ReadingView). r.places) view in
    let values = c.in_ok-values.ensures (λ x y same. same) ∙ ap (λ (r : ReadingView). r.values) view in
    let is_reply : List Place → ℕ → List Value → Type 0 = λ ps n vs.
    answer.Read n vs ≡ reply_to (machine_of g.A.Aggregator.meaning c.args.storage.now)
    (take n (moves_seen c.args.self.now.progress.seen)) (call.Read ps) in
    subst (λ n. is_reply c.in_ok-places.places n c.in_ok-values.values) (sym (ap (λ (r : ReadingView). r.number) view))
    (subst (λ vs. is_reply c.in_ok-places.places reading.number vs) (sym values)
    (subst (λ ps. is_reply ps reading.number reading.values) (sym places) c.requires.peek.reply))
