-- The numbers and layers of the refusals.
use Rattle.std.specs.Prelude.{ℕ}
use Rattle.roster.specs.Refusals.{number_of as roster_number_of, layer_of as roster_layer_of}
use Rattle.table.specs.declared.refusal.Layer.{Layer}
use Rattle.table.specs.declared.refusal.Layer.TheVariants.{Text as text_layer}
use Rattle.text.specs.declared.refusal.TextRefusal.{TextRefusal}
use Rattle.text.specs.declared.refusal.TextRefusal.TheVariants.{Roster, TooLong}

-- the number of a refusal; one from below keeps its own
abbrev pub number_of : TextRefusal → ℕ
number_of (Roster e) = roster_number_of e
number_of TooLong = 20

-- the layer of a refusal; one from below keeps its own
abbrev pub layer_of : TextRefusal → Layer
layer_of (Roster e) = roster_layer_of e
layer_of TooLong = text_layer
