use Rattle.text.proofs.Adding.{adds_then}
use Rattle.text.proofs.writer.Writer.mapping.Goals as goal

pub returns-in-Linear : goal.returns-in-Linear
returns-in-Linear c = rw c.in-Linear.is (adds_then c.word-in-Linear.ensures c.spot.ensures)

pub returns-in-Striped : goal.returns-in-Striped
returns-in-Striped c =
    let count = rw (c.len.ensures.value, c.columns.view_is) at c.field.ensures in
    let columns = rw (c.deref.ensures.0, c.columns.view_is) at c.spots.ensures in
    rw c.in-Striped.is
    (adds_then c.word-in-Striped.ensures (adds_then count (adds_then c.field-in-Striped.ensures columns)))
