-- The numbers and layers of the refusals.
use Rattle.std.specs.Prelude.{ℕ}
use Rattle.table.specs.Refusals.{number_of as table_number_of}
use Rattle.table.specs.declared.refusal.Layer.{Layer}
use Rattle.table.specs.declared.refusal.Layer.TheVariants.{Table as table_layer, Roster as roster_layer}
use Rattle.roster.specs.declared.refusal.RosterRefusal.{RosterRefusal}
use Rattle.roster.specs.declared.refusal.RosterRefusal.TheVariants.{Table, NoDevice, NoSet, LeavesTarget, TouchesArea, RosterFull, BadDevice, BadSet, SharedArea}

-- the number of a refusal; one of the table keeps its own
abbrev pub number_of : RosterRefusal → ℕ
number_of (Table e) = table_number_of e
number_of NoDevice = 5
number_of NoSet = 6
number_of LeavesTarget = 7
number_of TouchesArea = 8
number_of RosterFull = 12
number_of BadDevice = 13
number_of BadSet = 14
number_of SharedArea = 15

-- the layer that a refusal comes from
abbrev pub layer_of : RosterRefusal → Layer
layer_of (Table e) = table_layer
layer_of _ = roster_layer
