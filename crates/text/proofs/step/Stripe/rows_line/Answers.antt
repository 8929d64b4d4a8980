use Rattle.text.proofs.Geometry.{skipped_below, rows_line_is}
use Rattle.text.proofs.step.Stripe.rows_line.Goals as goal

pub columns_from-requires : goal.columns_from-requires
columns_from-requires c = skipped_below _ _ c.args.self.now.usable _ _ c.row-row.ensures.size c.requires

pub returns : goal.returns
returns c =
    rows_line_is _ _ c.args.self.now.usable _ _ c.row-row.ensures.size _ _ _ _ c.rows_size.ensures c.columns_from.ensures
