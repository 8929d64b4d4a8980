-- A top over a base piece by piece, and the slots that the pieces make.
use Rattle.std.specs.Prelude.{ℕ, ◌^◌, ◌≤◌, Bool, false, cond, List, [], ◌∷◌, length, nat_lt, Some, None, Option}
use Rattle.table.specs.declared.extent.Slot.{Slot}
use Rattle.table.specs.declared.overlay.Pieces.{Pieces}
use Rattle.table.specs.declared.overlay.Slots.{Slots}
use Rattle.table.specs.Extents.{value_at, at, Distinct, next}
use Rattle.table.specs.Maps.{Map, Writes, over}

-- the map of a top over a base
abbrev pub laid : {V : Type 0} → (V → ℕ → V) → (V → Bool) → List (Slot V) → List (Slot V) → Map V
laid shift clear tops bases = over clear (at shift tops) (at shift bases)

module _ {V : Type 0} (shift : V → ℕ → V) (clear : V → Bool) where
  -- the piece that starts at a sector of the extents of s and t, of the one over the other
  abbrev pub piece : Slot V → Slot V → ℕ → Slot V
  piece s t a =
      record { start = a; value = cond (clear (value_at shift s a)) (value_at shift t a) (value_at shift s a) }

  -- The pieces of a top over a base of n sectors, from sector a on: one starts wherever an extent of either does.
  abbrev pub pieces : ℕ → ℕ → List (Slot V) → List (Slot V) → List (Slot V)
  pieces n a [] bases = []
  pieces n a (s ∷ ss) [] = []
  pieces n a (s ∷ ss) (t ∷ ts) =
      piece s t a
      ∷ cond (nat_lt (next ss n) (next ts n)) (pieces n (next ss n) ss (t ∷ ts))
      (cond (nat_lt (next ts n) (next ss n)) (pieces n (next ts n) (s ∷ ss) ts) (pieces n (next ss n) ss ts))

  -- those that an iterator has left
  abbrev pub left : Pieces V → List (Slot V)
  left p = pieces p.length p.at p.tops.now p.bases.now

module _ {V : Type 0} (shift : V → ℕ → V) (same : V → V → Bool) where
  -- whether a piece continues the last slot, if there is one
  abbrev pub continues : Option (Slot V) → Slot V → Bool
  continues None p = false
  continues (Some s) p = same (value_at shift s p.start) p.value

  -- the pieces that do not continue the slot before them
  abbrev pub joined : Option (Slot V) → List (Slot V) → List (Slot V)
  joined last [] = []
  joined last (p ∷ ps) = cond (continues last p) (joined last ps) (p ∷ joined (Some p) ps)

  -- the slots that pieces make
  abbrev pub slots_of : (V → Bool) → Pieces V → List (Slot V)
  slots_of clear p = joined None (left shift clear p)

  -- those that an iterator has left
  abbrev pub slots_left : (V → Bool) → Slots V → List (Slot V)
  slots_left clear s = joined s.last (left shift clear s.pieces)

  -- slots that write a map of n sectors, as few as can be, none of which continues the one before it
  pub record Lays (m : Map V) (n : ℕ) (ys : List (Slot V)) : Type 0 where
    pub bounded : n ≤ 2 ^ 40
    pub writes : Writes shift same m ys n
    pub distinct : Distinct shift same ys
    pub few : length ys ≤ n
    pub least : (zs : List (Slot V)) → Writes shift same m zs n → length ys ≤ length zs
