use Rattle.std.proofs.Common.{refl, arith}
use Rattle.text.proofs.Columns.{columns_more}
use Rattle.text.proofs.step.Stripe.columns_from.Goals as goal

pub loop-column-preserved : goal.loop-column-preserved
loop-column-preserved c = (
  omega (arith, c.push.ensures.len),
  columns_more c.args.self.now.entries.now c.args.self.now.set.now c.args.skipped c.loop-column.column-index c.counted-column-items.result.now _ _ _
      (omega (arith, c.counted-column-items.ensures.many (omega (arith, c.args.self.now.usable.shaped)))) c.counted-column-items.ensures.columns refl
      c.loop-column.invariant.1 (rw (← c.spot_of.ensures) c.push.ensures.items),
)
