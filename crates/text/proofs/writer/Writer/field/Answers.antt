use Rattle.text.proofs.Adding.{adds_then}
use Rattle.text.proofs.writer.Writer.field.Goals as goal

pub returns : goal.returns
returns c = adds_then c.byte.ensures c.number.ensures
