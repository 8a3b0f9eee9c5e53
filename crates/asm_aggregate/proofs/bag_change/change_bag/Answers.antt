use Rattle.asm_aggregate.proofs.BagRecount.{recounted_by, put_back}
use Rattle.asm_aggregate.proofs.bag_change.change_bag.Goals as goal

pub returns-in-Ok-clause-ok : goal.returns-in-Ok-clause-ok
returns-in-Ok-clause-ok c =
    recounted_by _ _ _ _ c.args.actions.now c.counted.ensures c.counted-in-Ok.ensures c.in-Ok.ensures.ok c.lower.ensures

pub returns-in-Err-clause-err : goal.returns-in-Err-clause-err
returns-in-Err-clause-err c =
    put_back _ _ _ _ c.args.actions.now c.counted.ensures c.counted-in-Err.ensures c.requires c.in-Err.ensures.err
    c.lower-in-Err.ensures
