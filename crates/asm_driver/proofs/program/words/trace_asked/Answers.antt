use Rattle.std.proofs.Common.{◌≤◌, IfSome, codes, refl, sym, ap, subst, ◌∙◌, true≢false}
use Rattle.std.specs.Prelude.{is_some}
use Rattle.std.specs.Option.{option_or}
use Rattle.std.specs.Str.Parse.{ParsesUnsigned, ExplainsUnsignedError, HasUnsignedDigitsIfOk}
use Rattle.clap.specs.Words.{found_of, rows_of}
use Rattle.asm_driver.proofs.Asking.{number_asked, none_of, some_of, trace_asked, window_asked, no_window}
use Rattle.asm_driver.proofs.program.words.trace_asked.Goals as goal

pub returns-then-is_none-clause-some : goal.returns-then-is_none-clause-some
returns-then-is_none-clause-some c =
    let f = found_of c.args.options.now in
    let is = ap is_some (sym (c.or-2.ensures ∙ ap (λ o. option_or o c.get_one-to.result) c.or.ensures)) ∙ c.is_none.ensures in
    trace_asked (rows_of f) c.get_one-part.result c.get_one-from.result c.get_one-to.result
    (number_asked (λ bs r. ParsesUnsigned 32 10 bs r × ExplainsUnsignedError 10 bs r × HasUnsignedDigitsIfOk bs r) f
    (codes "part") c.get_one-part.result (λ t r g. g.0) c.get_one-part.ensures.none c.get_one-part.ensures.value _ refl)
    (number_asked (λ bs r. ParsesUnsigned 32 10 bs r × ExplainsUnsignedError 10 bs r × HasUnsignedDigitsIfOk bs r) f
    (codes "from") c.get_one-from.result (λ t r g. g.0) c.get_one-from.ensures.none c.get_one-from.ensures.value _ refl)
    (number_asked (λ bs r. ParsesUnsigned 32 10 bs r × ExplainsUnsignedError 10 bs r × HasUnsignedDigitsIfOk bs r) f
    (codes "to") c.get_one-to.result (λ t r g. g.0) c.get_one-to.ensures.none c.get_one-to.ensures.value _ refl)
    (none_of c.get_one-part.result c.get_one-from.result c.get_one-to.result c.is_none.result is c.if-is_none.true)

pub returns-then-is_forward-clause-some : goal.returns-then-is_forward-clause-some
returns-then-is_forward-clause-some c =
    let f = found_of c.args.options.now in
    let is = ap is_some (sym (c.or-2.ensures ∙ ap (λ o. option_or o c.get_one-to.result) c.or.ensures)) ∙ c.is_none.ensures in
    rw (c.unwrap_or.ensures, c.unwrap_or-2.ensures) (window_asked (rows_of f) c.get_one-part.result c.get_one-from.result c.get_one-to.result
    (number_asked (λ bs r. ParsesUnsigned 32 10 bs r × ExplainsUnsignedError 10 bs r × HasUnsignedDigitsIfOk bs r) f
    (codes "part") c.get_one-part.result (λ t r g. g.0) c.get_one-part.ensures.none c.get_one-part.ensures.value _ refl)
    (number_asked (λ bs r. ParsesUnsigned 32 10 bs r × ExplainsUnsignedError 10 bs r × HasUnsignedDigitsIfOk bs r) f
    (codes "from") c.get_one-from.result (λ t r g. g.0) c.get_one-from.ensures.none c.get_one-from.ensures.value _ refl)
    (number_asked (λ bs r. ParsesUnsigned 32 10 bs r × ExplainsUnsignedError 10 bs r × HasUnsignedDigitsIfOk bs r) f
    (codes "to") c.get_one-to.result (λ t r g. g.0) c.get_one-to.ensures.none c.get_one-to.ensures.value _ refl)
    (some_of c.get_one-part.result c.get_one-from.result c.get_one-to.result c.is_none.result is c.if-is_none.false)
    (subst (λ n. IfSome c.get_one-to.result (λ k. n ≤ k)) c.unwrap_or-2.ensures
    (c.is_forward.ensures.0 c.if-is_forward.true)))

pub returns-else-is_forward-clause-none : goal.returns-else-is_forward-clause-none
returns-else-is_forward-clause-none c =
    let f = found_of c.args.options.now in
    let is = ap is_some (sym (c.or-2.ensures ∙ ap (λ o. option_or o c.get_one-to.result) c.or.ensures)) ∙ c.is_none.ensures in
    no_window (rows_of f) c.get_one-part.result c.get_one-from.result c.get_one-to.result
    (number_asked (λ bs r. ParsesUnsigned 32 10 bs r × ExplainsUnsignedError 10 bs r × HasUnsignedDigitsIfOk bs r) f
    (codes "part") c.get_one-part.result (λ t r g. g.0) c.get_one-part.ensures.none c.get_one-part.ensures.value _ refl)
    (number_asked (λ bs r. ParsesUnsigned 32 10 bs r × ExplainsUnsignedError 10 bs r × HasUnsignedDigitsIfOk bs r) f
    (codes "from") c.get_one-from.result (λ t r g. g.0) c.get_one-from.ensures.none c.get_one-from.ensures.value _ refl)
    (number_asked (λ bs r. ParsesUnsigned 32 10 bs r × ExplainsUnsignedError 10 bs r × HasUnsignedDigitsIfOk bs r) f
    (codes "to") c.get_one-to.result (λ t r g. g.0) c.get_one-to.ensures.none c.get_one-to.ensures.value _ refl)
    (some_of c.get_one-part.result c.get_one-from.result c.get_one-to.result c.is_none.result is c.if-is_none.false)
    (λ h. true≢false (sym (c.is_forward.ensures.1 (subst (λ n. IfSome c.get_one-to.result (λ k. n ≤ k)) (sym c.unwrap_or-2.ensures) h)) ∙ c.if-is_forward.false))
