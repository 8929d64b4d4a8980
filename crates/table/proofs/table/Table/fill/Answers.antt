use Rattle.std.proofs.Common.{rules, arith}
use Rattle.table.proofs.Walking.{written_more}
use Rattle.table.proofs.table.Table.fill.Goals as goal

pub loop-k-preserved : goal.loop-k-preserved
loop-k-preserved g c =
    let step = c.in-Some.ensures.steps in
    let more = written_more _ _ _ _ _ _ (rw step.0 at c.loop-k.invariant.2) (omega (arith, c.loop-k.invariant.3, c.if-count-self.false)) in
    (search rules, search rules, rw (step.1, step.2) more, c.loop-k.invariant.3, search rules)
