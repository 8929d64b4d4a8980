use Rattle.table.specs.Extents.{at}
use Rattle.table.proofs.extents.Extents.slot_from.Goals as goal

pub returns : goal.returns
returns g c d = c.slot_at.ensures (at g.V.Value.shift c.args.self.now.slots.now d) (c.told_at.ensures d)
