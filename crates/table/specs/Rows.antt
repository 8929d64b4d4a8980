-- The row that a table is lent.
use Rattle.std.specs.Prelude.{◌≡◌, length}
use Rattle.table.specs.declared.table.Table.{Table}

-- a table has kept its row: the reference to it, so that whoever lent it finds there what the table holds, and how many slots it has
abbrev pub SameRow : {V : Type 0} → Table V → Table V → Type 0
SameRow old new = (new.slots.ghost_name ≡ old.slots.ghost_name) × (length new.slots.now ≡ length old.slots.now)
