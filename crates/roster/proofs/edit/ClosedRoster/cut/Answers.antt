use Rattle.roster.proofs.Calls.{cut_done}
use Rattle.roster.proofs.edit.ClosedRoster.cut.Goals as goal

pub returns-clause-cuts : goal.returns-clause-cuts
returns-clause-cuts c = cut_done _ _ _ _ _ c.in_ok-judge_volume.ensures.1.0 _ c.in_ok-cut.ensures.cuts
