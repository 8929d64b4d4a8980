use Rattle.std.proofs.Common.{rules}
use Rattle.table.specs.Histories.{calls}
use Rattle.table.proofs.Lawful.{least_stands, equal_maps_stand, histories_stand, ran_told, commute_stands}
use Rattle.table.proofs.history.replay.Goals as goal

pub returns-clause-laws : goal.returns-clause-laws
returns-clause-laws g c =
    let laws = g.met.V.Value.lawful in
    record { least = least_stands laws; histories = histories_stand laws; equal_maps = equal_maps_stand laws; commute = commute_stands laws }

pub returns-clause-replays : goal.returns-clause-replays
returns-clause-replays g c =
    record { ran = search rules; holds = histories_stand g.met.V.Value.lawful (calls c.args.edits.now c.apply_all.new.answers) c.args.slots.now _ _ (ran_told g.met.V.Value.lawful _ _ _ _ _ (search rules)) }
