use Rattle.std.proofs.Common.{◌≡◌, ◌≤◌, ◌*◌, take, length}
use Rattle.std.specs.List.{flat_map}
use Rattle.text.specs.Spelling.{spot_text}
use Rattle.text.proofs.measure.spots_size.Given as goal

abbrev pub invariant-loop-column : goal.invariant-loop-column
invariant-loop-column l =
    (l.total ≡ length (flat_map spot_text (take l.column-index l.columns))) × (l.total ≤ 63 * l.column-index)
