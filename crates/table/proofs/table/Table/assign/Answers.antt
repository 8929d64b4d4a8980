use Rattle.std.proofs.Common.{rules}
use Rattle.table.proofs.Runs.{assign_answers}
use Rattle.table.proofs.table.Table.assign.Goals as goal

pub returns-clause-assigns : goal.returns-clause-assigns
returns-clause-assigns g c =
    assign_answers g.met.V.Value.lawful c.args.self.now.head c.args.self.now.slots.now c.in_ok-extents.extents.slots.now c.in_ok-extents.extents.length c.args.run c.args.value c.plan_assign-plan.result c.splice.new.self.head c.splice.new.self.slots.now c.splice.result
    (search rules) (search rules) (c.extents.ensures.normal.0 (search rules)) (search rules) (search rules) c.plan_assign-plan.ensures.plans c.splice.ensures.same_row.1 c.splice.ensures.done c.splice.ensures.full
