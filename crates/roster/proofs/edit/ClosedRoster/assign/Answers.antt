use Rattle.std.proofs.Common.{rules}
use Rattle.roster.proofs.Calls.{assign_done}
use Rattle.roster.proofs.edit.ClosedRoster.assign.Goals as goal

pub returns-clause-assigns : goal.returns-clause-assigns
returns-clause-assigns c =
    assign_done _ _ _ _ _ (rw (c.view.ensures.head, c.view.ensures.slots) at c.in_ok-judge_volume.ensures.1.0) _ _ c.in_ok-assign.ensures.assigns c.in_ok-judge_target.ensures

pub returns-in_err-assign-clause-assigns : goal.returns-in_err-assign-clause-assigns
returns-in_err-assign-clause-assigns c = search rules
