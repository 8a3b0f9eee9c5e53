use Rattle.asm_element.specs.declared.element.Element.{Element}
use Rattle.asm_element.specs.declared.element.Element.TheVariants.{Undef}
use Rattle.std.proofs.Common.{◌≡◌, ◌<◌, ◌≤◌, ◌+◌, [], ◌∷◌, ◌++◌, List, ℕ, zero, suc, take, drop, set, length, get_or, subst, sym, ap, ◌∙◌, arith, true, false, not, refl}
use Rattle.std.specs.Prelude.{Option, None, Some, is_some, IfNone}
use Rattle.std.specs.List.{insert}
use Rattle.std.proofs.lemmas.List.{get_or_default, take-append-drop, length-take, length-drop}
use Rattle.asm_element.specs.Tests.{on_err}
use Rattle.asm_element.specs.Slots.{key_of, count_of, IsGap}
use Rattle.asm_element.specs.Entries.{at, held, assigned}
use Rattle.asm_element.specs.Chunks.{there, AreChunks, IsPlace, IsEnd, Adds}
use Rattle.asm_element.proofs.Edits.{inserted_adds}
use Rattle.asm_element.proofs.chunk_vec.add_here.Goals as goal

at_none : {X : Type 0} {P : Type 0} (r : Option X) → r ≡ None → IfNone r P → P
at_none None e p = p
at_none (Some x) e p = cc

pub returns-in-None-clause-ok : goal.returns-in-None-clause-ok
returns-in-None-clause-ok g c =
    let cs = c.args.chunks.now.items in
    let room = c.requires.room in
    let x = c.index_mut.result.now in
    let gap : IsGap x c.args.key c.args.at = subst (λ (ss : List (Element × ℕ)). IsGap ss c.args.key c.args.at) (sym (c.index_mut.ensures.value ∙ get_or_default cs c.args.index x [] room.place.in_range)) room.gap in
    let new : c.insert_here.new.self ≡ insert x c.args.at (c.args.key, c.args.n) = at_none c.in_ok-insert_here.field-0 c.in-None.is c.in_ok-insert_here.ensures.added in
    subst (λ (ss : List (Element × ℕ)). Adds cs (set cs c.args.index ss) c.args.key c.args.n) (sym new)
    (inserted_adds cs room.chunks c.args.key c.args.index room.place x c.index_mut.ensures.value c.args.at gap c.args.n c.requires.positive)
