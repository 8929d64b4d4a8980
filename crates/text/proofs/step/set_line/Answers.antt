use Rattle.std.proofs.Common.{sym, ◌∙◌, arith}
use Rattle.text.proofs.Geometry.{first_chunk_is}
use Rattle.text.proofs.Rosters.{usable_set}
use Rattle.text.proofs.step.set_line.Goals as goal

pub returns : goal.returns
returns c =
    let usable = usable_set c.args.roster.now.entries c.args.roster.now.sound c.args.set c.requires.1 in
    let spot = rw c.entries-entries.ensures at c.spot_of.ensures in
    rw spot
    (first_chunk_is _ _ usable c.args.offset c.args.rest.start c.args.rest.length (omega arith) _ _ _ _
    (rw (c.deref.ensures.0, c.entries-entries.ensures, c.from.ensures) at c.row-row.ensures.size) c.else-offset-row-eq0.either
    (rw (c.deref.ensures.0, c.entries-entries.ensures, c.from.ensures) at c.min.ensures)
    (sym c.in-Some-At.field-0-is ∙ c.in-Some-At.ensures.2))
