use Rattle.std.proofs.Common.{◌≡◌, Result, Ok, Err, sym, ap, subst, ◌∙◌}
use Rattle.serde_json.specs.Data.{Data, Items, array}
use Rattle.serde_json.specs.View.{view, items_view}
use Rattle.asm_journal.specs.Form.{IsRead}
use Rattle.asm_journal.specs.Set.{IsCounted}
use Rattle.asm_journal.specs.declared.form.fault.FormError.{FormError}
use Rattle.asm_journal.specs.declared.form.set.Counted.{Counted}
use Rattle.asm_journal.proofs.Arrays.{array_is, same_array}
use Rattle.asm_journal.proofs.Elements.{IsCountedForm}
use Rattle.asm_journal.proofs.form.set.CountedFromJson.from_json.Goals as goal

counted : (d : Data) (ds : Items) (r : Result Counted FormError) → d ≡ array ds → IsRead (λ c. IsCounted (c.0, c.1)) ds r → IsRead IsCountedForm d r
counted d ds (Ok x) is h = (ds, is, h)
counted d ds (Err e) is h = λ fault c k. h fault c (subst (IsCounted (c.0, c.1)) (same_array _ _ (sym k.1 ∙ is)) k.2)

pub returns-in-Some : goal.returns-in-Some
returns-in-Some c =
    let d = view c.args.json.now in
    counted d _ c.read_counted.result (array_is d _ c.in-Some.ensures ∙ ap (λ l. array (items_view l)) (sym c.deref.ensures.value)) c.read_counted.ensures
