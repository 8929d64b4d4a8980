use Rattle.text.proofs.Adding.{adds_then}
use Rattle.text.proofs.writer.Writer.word.Goals as goal

pub returns : goal.returns
returns c = adds_then c.byte.ensures c.add.ensures
