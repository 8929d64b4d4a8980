use Rattle.roster.proofs.Calls.{located}
use Rattle.roster.proofs.edit.ClosedRoster.locate.Goals as goal

pub returns : goal.returns
returns c = located _ _ _ _ _ c.in_ok-judge_volume.ensures c.in_ok-target.ensures _ c.resolve.ensures
