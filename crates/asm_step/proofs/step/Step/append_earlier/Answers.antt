use Rattle.std.proofs.Common.{◌≡◌, ◌++◌, ◌+◌, ◌≤◌, [], List, Option, length, ap, sym, ◌∙◌, subst, append-nil}
use Rattle.std.proofs.lemmas.Result.{on_ok_weaker}
use Rattle.std.specs.Option.{option_map_or}
use Rattle.asm_aggregate.specs.Compose.{placed}
use Rattle.asm_update.specs.declared.action.Action.{Action}
use Rattle.asm_step.specs.Layers.{outcomes_of}
use Rattle.asm_step.specs.Outcomes.{Outcome, actions_in}
use Rattle.asm_step.proofs.step.Step.append_earlier.Goals as goal

pub append_to-requires : goal.append_to-requires
append_to-requires c =
    let is : c.in-Some.held.actions ≡ actions_in (outcomes_of c.args.self.now) c.args.at.now =
    ap (λ (o : Option Outcome). option_map_or (λ (x : Outcome). x.actions) o []) c.in-Some.ensures in
    subst (λ (xs : List Action). length c.args.list.now + length xs ≤ 4096) (sym is) c.requires

pub returns-in-Some : goal.returns-in-Some
returns-in-Some c =
    let is : c.in-Some.held.actions ≡ actions_in (outcomes_of c.args.self.now) c.args.at.now =
    ap (λ (o : Option Outcome). option_map_or (λ (x : Outcome). x.actions) o []) c.in-Some.ensures in
    on_ok_weaker c.append_to.result (λ p. p ∙ ap (λ (xs : List Action). c.args.list.now ++ placed c.args.at.now xs) is) c.append_to.ensures

pub returns-in-None : goal.returns-in-None
returns-in-None c =
    let is : actions_in (outcomes_of c.args.self.now) c.args.at.now ≡ [] =
    ap (λ (o : Option Outcome). option_map_or (λ (x : Outcome). x.actions) o []) (sym c.in-None.ensures) in
    sym (append-nil c.args.list.now) ∙ ap (λ (xs : List Action). c.args.list.now ++ placed c.args.at.now xs) (sym is)
