use Rattle.table.proofs.Walking.{overlay_lays}
use Rattle.table.proofs.overlay.Pieces.new.Goals as goal

pub returns-clause-lays : goal.returns-clause-lays
returns-clause-lays g c =
    let top = c.args.top.now in
    let base = c.args.base.now in
    overlay_lays g.met.V.Value.lawful top.length top.slots.now base.slots.now top.bounded top.covers (rw (← c.requires.level) at base.covers)
