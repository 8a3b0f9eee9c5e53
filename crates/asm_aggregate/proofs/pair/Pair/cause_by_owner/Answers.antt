use Rattle.std.proofs.Common.{◌≡◌, ◌++◌, List, [], true, refl, sym, ◌∙◌}
use Rattle.std.specs.Prelude.{Option, Some, None}
use Rattle.std.specs.List.{list_all}
use Rattle.asm_update.specs.Action.{is_of, is_partial}
use Rattle.asm_update.specs.Aggregator.{Meaning}
use Rattle.asm_update.specs.declared.action.Action.{Action}
use Rattle.asm_update.specs.declared.action.Family.{Family}
use Rattle.asm_aggregate.specs.Families.{common_family}
use Rattle.asm_aggregate.specs.PairMeaning.{by_owner}
use Rattle.asm_aggregate.specs.declared.pair.Owner.{Owner}
use Rattle.asm_aggregate.specs.declared.pair.Owner.TheVariants.{One, Other, Neither}
use Rattle.asm_aggregate.specs.laws.FamilyLemmas.{all_of_both, all_partial, common_all}
use Rattle.asm_aggregate.proofs.pair.Pair.cause_by_owner.Goals as goal

-- actions of one family that has an owner are partial, also with nothing after them
owned_partial : (a b : Meaning) (o : Option Family) (xs : List Action) (w : Owner) → o ≡ common_family xs → w ≡ by_owner a b o One Other Neither →
    (w ≡ Neither → ⊥) → list_all is_partial (xs ++ []) ≡ true
owned_partial a b None xs w is by owned = absurd (owned by)
owned_partial a b (Some f) xs w is by owned =
    all_partial f (xs ++ []) (all_of_both (is_of f) xs [] (common_all f xs (sym is)) refl)

pub cause_alone-requires-clause-partial : goal.cause_alone-requires-clause-partial
cause_alone-requires-clause-partial g c =
    owned_partial (g.A.Aggregator.meaning c.args.self.now.a) (g.B.Aggregator.meaning c.args.self.now.b) c.common_family.result
    c.args.actions.now _ c.common_family.ensures c.owner.ensures (λ e. let no = sym c.in-One.is ∙ e in cc (no))

pub cause_alone-requires-in-Other-clause-partial : goal.cause_alone-requires-in-Other-clause-partial
cause_alone-requires-in-Other-clause-partial g c =
    owned_partial (g.A.Aggregator.meaning c.args.self.now.a) (g.B.Aggregator.meaning c.args.self.now.b) c.common_family.result
    c.args.actions.now _ c.common_family.ensures c.owner.ensures (λ e. let no = sym c.in-Other.is ∙ e in cc (no))
