use Rattle.std.proofs.Common.{rules}
use Rattle.table.proofs.Finding.{cut_leaves}
use Rattle.table.proofs.table.View.cut.Goals as goal

pub returns-clause-cuts : goal.returns-clause-cuts
returns-clause-cuts g c =
    let normal = c.extents.ensures.normal.0 (search rules) in
    let left = cut_leaves g.met.V.Value.lawful c.args.self.now.head c.args.self.now.slots.now (record { count = c.count_before-count.result; length = c.args.length }) normal (search rules) (search rules) in
    (left, (normal, (search rules, tt)))
