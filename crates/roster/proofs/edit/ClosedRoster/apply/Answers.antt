use Rattle.roster.proofs.edit.ClosedRoster.apply.Goals as goal

pub returns-in-Append-clause-does : goal.returns-in-Append-clause-does
returns-in-Append-clause-does c = rw c.in-Append.is c.append.ensures.appends

pub returns-in-Assign-clause-does : goal.returns-in-Assign-clause-does
returns-in-Assign-clause-does c = rw c.in-Assign.is c.assign.ensures.assigns

pub returns-in-Overlay-clause-does : goal.returns-in-Overlay-clause-does
returns-in-Overlay-clause-does c = rw c.in-Overlay.is c.overlay.ensures.overlays
