use Rattle.std.proofs.Common.{ltb, rules}
use Rattle.std.proofs.lemmas.List.Sorted.{IsPartitionPoint-from_clause, IsPartitionedBy-ltb}
use Rattle.table.proofs.Judging.{before_point, covers_rise}
use Rattle.table.proofs.extents.Extents.count_before.Goals as goal

pub returns : goal.returns
returns g c =
    let slots = c.args.self.now.slots.now in
    let parted = IsPartitionedBy-ltb (λ s. s.start) slots c.args.sector (covers_rise slots _ c.args.self.now.covers) in
    let point = IsPartitionPoint-from_clause (λ s. ltb s.start c.args.sector) _ _ c.partition_point.ensures.partitioned parted (λ a r q k. search rules) in
    before_point c.args.sector slots c.partition_point.result c.partition_point.ensures.bound point
