use Rattle.std.proofs.Common.{◌+◌, ◌-◌, refl, rules}
use Rattle.table.proofs.Rows.{spliced}
use Rattle.table.proofs.table.Table.splice.Goals as goal

pub returns-clause-done : goal.returns-clause-done
returns-clause-done g c = (
  refl,
  spliced c.args.self.now.slots.now c.args.self.now.head.count c.args.plan c.from.result c.from-2.result (c.args.self.now.head.count - c.args.plan.back) (c.args.plan.front + c.from.result + c.from-2.result + (c.args.self.now.head.count - c.args.plan.back)) (search rules) (search rules) c.requires.back c.requires.room refl refl
      c.copy_within.new.self c.place.new.slots c.place-2.new.slots c.if-count-self.false c.copy_within.ensures.after c.place.ensures c.place-2.ensures,
)
