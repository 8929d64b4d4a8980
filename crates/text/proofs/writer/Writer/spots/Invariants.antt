use Rattle.std.proofs.Common.{take}
use Rattle.std.specs.List.{flat_map}
use Rattle.text.specs.Writers.{Adds}
use Rattle.text.specs.Spelling.{spot_text}
use Rattle.text.proofs.writer.Writer.spots.Given as goal

abbrev pub invariant-loop-column : goal.invariant-loop-column
invariant-loop-column l = Adds (flat_map spot_text (take l.column-index l.columns)) l.initial.self l.self
