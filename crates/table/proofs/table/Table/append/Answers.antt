use Rattle.std.proofs.Common.{rules}
use Rattle.table.proofs.Ends.{append_answers}
use Rattle.table.proofs.table.Table.append.Goals as goal

pub returns-clause-appends : goal.returns-clause-appends
returns-clause-appends g c =
    append_answers g.met.V.Value.lawful c.args.self.now.head c.args.self.now.slots.now c.in_ok-extents.extents.slots.now c.in_ok-extents.extents.length c.args.length c.args.value c.slot_from-next.result c.splice.new.self.head c.splice.new.self.slots.now c.splice.result
    (search rules) (search rules) (c.extents.ensures.normal.0 (search rules)) (search rules) (search rules) c.slot_from-next.ensures c.splice.ensures.same_row.1 c.splice.ensures.done c.splice.ensures.full
