use Rattle.std.proofs.Common.{ltb, ltb-true, ltb-false, arith, rules}
use Rattle.std.proofs.lemmas.List.Sorted.{IsPartitionPoint-from_clause, IsPartitionedBy-ltb}
use Rattle.oer_modules.proofs.place.count_before.Goals as goal

pub returns-clause-parted : goal.returns-clause-parted
returns-clause-parted c =
    let parted = IsPartitionedBy-ltb (λ s. s.at) _ c.args.at c.requires in
    let point = IsPartitionPoint-from_clause (λ s. ltb s.at c.args.at) _ _ c.partition_point.ensures.partitioned parted (λ a r q k. search rules) in
    record {
      before = λ k d h. ltb-true _ _ (point.0 k d (omega arith) h);
      rest = λ k d l h. ltb-false _ _ (point.1 k d l h);
    }
