use Rattle.text.specs.Spelling.{spot_text}
use Rattle.text.proofs.Adding.{adds_more, room_more}
use Rattle.text.proofs.writer.Writer.spots.Goals as goal

pub spot-requires : goal.spot-requires
spot-requires c = room_more spot_text _ _ c.loop-column.invariant _ c.loop-column-test.true c.requires

pub loop-column-preserved : goal.loop-column-preserved
loop-column-preserved c = adds_more spot_text _ _ c.loop-column.invariant _ c.loop-column-test.true c.spot.ensures
