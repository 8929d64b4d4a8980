use Rattle.roster.proofs.lawful.ClosedRoster.judge_target.Goals as goal

pub returns-in-Linear : goal.returns-in-Linear
returns-in-Linear c = rw c.in-Linear.is c.judge_linear.ensures

pub returns-in-Striped : goal.returns-in-Striped
returns-in-Striped c = rw c.in-Striped.is c.judge_striped.ensures
