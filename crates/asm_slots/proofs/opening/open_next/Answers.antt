use Rattle.std.proofs.Common.{◌≡◌, None, Some, rules}
use Rattle.std.proofs.lemmas.Result.{err_from_is_err_and}
use Rattle.asm_slots.specs.Slots.{content_of}
use Rattle.asm_slots.specs.declared.content.Content.TheVariants as content
use Rattle.asm_slots.proofs.ShortLines.{not_next}
use Rattle.asm_slots.proofs.opening.open_next.Goals as goal

pub returns-in_err-storage-clause-answers : goal.returns-in_err-storage-clause-answers
returns-in_err-storage-clause-answers c =
    let p = err_from_is_err_and c.from_residual.result c.from_residual.ensures.1 in
    let empty : content_of c.args.next.now ≡ None = search rules in
    let store : content_of c.args.store.now ≡ Some (content.Store c.in-Store.kept) = search rules in
    rw (p.1, p.2) (not_next c.args.capacity (content_of c.args.store.now) (content_of c.args.next.now) c.in-Store.kept _ c.in_err-storage.field-0.0
    empty store (search rules) c.in_err-storage.ensures.refused)
