use Rattle.std.proofs.Common.{append_assoc}
use Rattle.text.proofs.Adding.{adds_as, adds_then}
use Rattle.text.proofs.writer.Writer.spot.Goals as goal

pub returns : goal.returns
returns c = adds_as (adds_then (adds_then (adds_then c.field.ensures c.byte.ensures) c.number.ensures) c.field-2.ensures) _ (simp append_assoc)
