use Rattle.std.proofs.Common.{refl, arith}
use Rattle.text.proofs.Adding.{placed_adds}
use Rattle.text.proofs.writer.Writer.number.Goals as goal

pub returns : goal.returns
returns c =
    placed_adds _ _ _ _ _ c.write_digits-start.ensures.start (omega arith) refl c.requires c.write_digits-start.ensures.written c.write_digits-start.ensures.before refl
