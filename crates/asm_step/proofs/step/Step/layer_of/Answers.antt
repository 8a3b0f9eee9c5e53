use Rattle.std.proofs.Common.{◌++◌, ◌∷◌, [], length, length-append, ap, sym, subst, ◌∙◌, arith}
use Rattle.asm_update.specs.Move.{Move}
use Rattle.asm_step.specs.Layers.{outcomes_of}
use Rattle.asm_step.specs.Next.{AreNext}
use Rattle.asm_step.specs.Outcomes.{Outcomes, listed}
use Rattle.asm_step.proofs.Filled.{filled_both, next_from, none_so_far}
use Rattle.asm_step.proofs.step.Step.layer_of.Goals as goal

pub returns : goal.returns
returns c =
    let os = outcomes_of c.args.self.now in
    let C = c.args.composed.now in
    let O = c.args.apart.now in
    let M = c.args.instructions.now in
    let none = ap length (none_so_far os c.args.frame M c.in_ok-own.own c.mark_each.new.outcomes c.in_ok-own.ensures c.mark_each.ensures) in
    let both = filled_both C O c.mark_each.new.outcomes c.fill.new.outcomes c.fill-2.new.outcomes
    c.in_ok-added.ensures.filled c.in_ok-more.ensures.filled in
    let many = ap (λ (own : Outcomes). length (listed own)) c.of_each.ensures in (
      subst (AreNext os c.args.frame (C ++ O) M) (sym c.of_each.ensures)
          (next_from os c.args.frame (C ++ O) M c.in_ok-own.own c.mark_each.new.outcomes c.fill-2.new.outcomes c.in_ok-own.ensures c.mark_each.ensures both),
      omega (arith, none, many, c.in_ok-added.ensures.count, c.in_ok-more.ensures.count),
      omega (arith, c.if-count-gt-INSTRUCTIONS_LIMIT.false),
      c.of-moves.ensures ∙ ap (λ (N : Move). N ∷ []) c.in_ok-copy.ensures,
      c.is_first.ensures,
    )

pub returns-then-count-gt-INSTRUCTIONS_LIMIT : goal.returns-then-count-gt-INSTRUCTIONS_LIMIT
returns-then-count-gt-INSTRUCTIONS_LIMIT c =
    let os = outcomes_of c.args.self.now in
    let C = c.args.composed.now in
    let O = c.args.apart.now in
    let M = c.args.instructions.now in
    let none = ap length (none_so_far os c.args.frame M c.in_ok-own.own c.mark_each.new.outcomes c.in_ok-own.ensures c.mark_each.ensures) in
    let both = filled_both C O c.mark_each.new.outcomes c.fill.new.outcomes c.fill-2.new.outcomes
    c.in_ok-added.ensures.filled c.in_ok-more.ensures.filled in
    let long = length-append C O in (
      c.fill-2.new.outcomes,
      next_from os c.args.frame (C ++ O) M c.in_ok-own.own c.mark_each.new.outcomes c.fill-2.new.outcomes c.in_ok-own.ensures c.mark_each.ensures both,
      omega (arith, none, long, c.in_ok-added.ensures.count, c.in_ok-added.ensures.few, c.in_ok-more.ensures.count, c.in_ok-more.ensures.few),
      omega (arith, none, c.in_ok-added.ensures.count, c.in_ok-more.ensures.count, c.if-count-gt-INSTRUCTIONS_LIMIT.true),
    )

pub overflow_add-count : goal.overflow_add-count
overflow_add-count c =
    omega (arith, c.requires, c.in_ok-added.ensures.few, c.within_limit.ensures, c.in_ok-more.ensures.few, c.within_limit-2.ensures)
