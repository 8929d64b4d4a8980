use Rattle.std.proofs.Common.{rules}
use Rattle.roster.proofs.Calls.{append_done}
use Rattle.roster.proofs.edit.ClosedRoster.append.Goals as goal

pub returns-clause-appends : goal.returns-clause-appends
returns-clause-appends c =
    append_done _ _ _ _ _ (rw (c.view.ensures.head, c.view.ensures.slots) at c.in_ok-judge_volume.ensures.1.0) _ _ c.in_ok-append.ensures.appends c.in_ok-judge_target.ensures

pub returns-in_err-append-clause-appends : goal.returns-in_err-append-clause-appends
returns-in_err-append-clause-appends c = search rules
