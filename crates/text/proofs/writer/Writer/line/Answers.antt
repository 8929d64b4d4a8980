use Rattle.text.proofs.Adding.{adds_as, adds_then, spell_is}
use Rattle.text.proofs.writer.Writer.line.Goals as goal

pub returns : goal.returns
returns c =
    adds_as (adds_then (adds_then (adds_then c.number.ensures c.field.ensures) c.mapping.ensures) c.byte.ensures) _ (spell_is c.args.line.now)
