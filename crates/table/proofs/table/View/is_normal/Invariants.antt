use Rattle.std.proofs.Common.{drop}
use Rattle.table.proofs.Judging.{Judged}
use Rattle.table.proofs.table.View.is_normal.Given as goal

abbrev pub invariant-loop-slot : goal.invariant-loop-slot
invariant-loop-slot g l = let k = g.V.Value in Judged k.shift k.same l.self.head l.self.slots.now l.last (drop l.slot-index l.rest)
