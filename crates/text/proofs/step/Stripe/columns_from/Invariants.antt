use Rattle.std.proofs.Common.{◌≡◌, map, length}
use Rattle.std.specs.List.{range_with_len}
use Rattle.text.specs.Lines.{further}
use Rattle.text.specs.Printing.{column_spot}
use Rattle.text.proofs.step.Stripe.columns_from.Given as goal

abbrev pub invariant-loop-column : goal.invariant-loop-column
invariant-loop-column l =
    (length l.columns.items ≡ l.column-index)
    × (l.columns.items ≡ map (further l.skipped) (map (column_spot l.self.entries.now l.self.set.now) (range_with_len 0 l.column-index)))
