use Rattle.roster.proofs.Calls.{overlay_done}
use Rattle.roster.proofs.edit.ClosedRoster.overlay.Goals as goal

pub returns-clause-overlays : goal.returns-clause-overlays
returns-clause-overlays c =
    overlay_done _ _ _ _ _ c.args.volume.now.head _ _ _ c.in_ok-overlay.ensures.overlays c.in_ok-judge_volume.ensures.1.0 c.in_ok-judge_volume-2.ensures.1.0
