-- The numbers of the refusals, and the words of the layers.
use Rattle.std.specs.Prelude.{ℕ, List, codes}
use Rattle.table.specs.declared.refusal.Layer.{Layer}
use Rattle.table.specs.declared.refusal.Layer.TheVariants.{Table, Roster, Text}
use Rattle.table.specs.declared.refusal.Refusal.{Refusal}
use Rattle.table.specs.declared.refusal.Refusal.TheVariants.{EmptyLength, BrokenTable, Outside, PastLimit, LengthsDiffer, NoRoom}

abbrev pub number_of : Refusal → ℕ
number_of EmptyLength = 1
number_of BrokenTable = 2
number_of Outside = 3
number_of PastLimit = 4
number_of LengthsDiffer = 9
number_of NoRoom = 11

-- the word of a layer
abbrev pub layer_text : Layer → List ℕ
layer_text Table = codes "table"
layer_text Roster = codes "roster"
layer_text Text = codes "text"
