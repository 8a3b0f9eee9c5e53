use Rattle.std.proofs.Common.{rules}
use Rattle.std.proofs.lemmas.List.Sorted.{IsNonDecreasingBy-from_sort_by_key, answers_always}
use Rattle.asm_storage.specs.Storage.{accounts}
use Rattle.asm_storage.specs.ReceiptOrder.{key_of}
use Rattle.asm_storage.proofs.MergedReceipts.{merged_from_sort}
use Rattle.asm_storage.proofs.close.merging.merge.Goals as goal

pub returns : goal.returns
returns g c =
    merged_from_sort (accounts c.args.agents.now) c.in_ok-all.all.items c.sort_by_key.new.self.items c.in_ok-all.ensures c.sort_by_key.ensures.permutation
    (IsNonDecreasingBy-from_sort_by_key key_of _ c.in_ok-sort_by_key.ensures.sorted (λ a r q k. search rules))
    (c.sort_by_key.ensures.stable key_of (answers_always _ _ _ (λ f a r g h. search rules)))
