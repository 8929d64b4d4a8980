-- The laws of tables, for every kind of value.
use Rattle.std.specs.Prelude.{◌≡◌, ℕ, ◌+◌, ◌<◌, ◌≤◌, Bool, true, List, [], ◌∷◌, length, take, is_ok, if◌then◌else◌, Ok, Result}
use Rattle.table.specs.declared.extent.Head.{Head}
use Rattle.table.specs.declared.extent.Run.{Run}
use Rattle.table.specs.declared.extent.Slot.{Slot}
use Rattle.table.specs.declared.refusal.Refusal.{Refusal}
use Rattle.table.specs.Extents.{Normal}
use Rattle.table.specs.Maps.{Map, Agree, Writes, appended, assigned, over}
use Rattle.table.specs.Checks.{Checks, check, untold}
use Rattle.table.specs.Calls.{map_of, AppendsBy, AssignsBy, Cuts, OverlaysBy}

-- two lists of counted slots differ in no slot
abbrev pub SameSlots : {V : Type 0} → (V → V → Bool) → List (Slot V) → List (Slot V) → Type 0
SameSlots same [] [] = Unit {0}
SameSlots same [] (t ∷ ts) = ⊥
SameSlots same (s ∷ ss) [] = ⊥
SameSlots same (s ∷ ss) (t ∷ ts) = (s.start ≡ t.start) × (same s.value t.value ≡ true) × SameSlots same ss ts

-- two tables differ in no slot
abbrev pub SameTables : {V : Type 0} → (V → V → Bool) → Head → List (Slot V) → Head → List (Slot V) → Type 0
SameTables same h xs k ys = SameSlots same (take h.count xs) (take k.count ys)

-- a sector of a run
abbrev pub In : Run → ℕ → Type 0
In run i = (run.start ≤ i) × (i < run.start + run.length)

-- A call on a table, by its arguments.
pub data Call (V : Type 0) : Type 0 where
  append : ℕ → V → Call V
  assign : Run → V → Call V
  cut : ℕ → Call V
  overlay : Head → List (Slot V) → Head → List (Slot V) → Call V

-- A map with its length.
pub record Mapped (V : Type 0) : Type 0 where
  pub length : ℕ
  pub value : Map V

module _ {V : Type 0} (shift : V → ℕ → V) (clear : V → Bool) where
  -- what an accepted call makes of a map
  abbrev pub changed : Call V → Mapped V → Mapped V
  changed (append l v) m = record { length = m.length + l; value = appended shift m.value m.length v }
  changed (assign run v) m = record { length = m.length; value = assigned shift m.value run.start run.length v }
  changed (cut n) m = record { length = n; value = m.value }
  changed (overlay t tops b bases) m = record { length = t.length; value = over clear (map_of shift t tops) (map_of shift b bases) }

  -- the calls' map, from their arguments and from which were accepted
  abbrev pub after : List (Call V × Result (Unit {0}) Refusal) → Mapped V → Mapped V
  after [] m = m
  after (c ∷ cs) m = after cs (if is_ok c.1 then changed c.0 m else m)

-- the map of a fresh table
abbrev pub fresh : {V : Type 0} → Mapped V
fresh = record { length = 0; value = λ d i. d }

abbrev pub fresh_head : Head
fresh_head = record { count = 0; length = 0 }

module _ {V : Type 0} (shift : V → ℕ → V) (same : V → V → Bool) (clear : V → Bool) where
  -- how the check of room is told of
  module _ (room : ℕ → Type 0 → Checks → Checks) where
    abbrev pub DoesBy : Call V → Head → List (Slot V) → Head → List (Slot V) → Result (Unit {0}) Refusal → Type 0
    DoesBy (append l v) h xs h' xs' r = AppendsBy shift same room h xs l v h' xs' r
    DoesBy (assign run v) h xs h' xs' r = AssignsBy shift same room h xs run v h' xs' r
    DoesBy (cut n) h xs h' xs' r = Cuts shift same h xs n h' xs' r
    DoesBy (overlay t tops b bases) h xs h' xs' r = OverlaysBy shift same room clear t tops b bases h xs h' xs' r

    abbrev pub RanBy : List (Call V × Result (Unit {0}) Refusal) → Head → List (Slot V) → Head → List (Slot V) → Type 0
    RanBy [] h xs h' xs' = (h' ≡ h) × (xs' ≡ xs)
    RanBy (c ∷ cs) h xs h' xs' =
        (k : Head) × (ys : List (Slot V)) × DoesBy c.0 h xs k ys c.1 × RanBy cs k ys h' xs'

  -- a call does what its contract says
  abbrev pub Does : Call V → Head → List (Slot V) → Head → List (Slot V) → Result (Unit {0}) Refusal → Type 0
  Does = DoesBy check

  -- calls done one after the other, each with what it gave
  abbrev pub Ran : List (Call V × Result (Unit {0}) Refusal) → Head → List (Slot V) → Head → List (Slot V) → Type 0
  Ran = RanBy check

  -- a table holds a map: it is normal, as long, and agrees at every sector
  pub record Holds (m : Mapped V) (h : Head) (xs : List (Slot V)) : Type 0 where
    pub normal : Normal shift same h xs
    pub len : h.length ≡ m.length
    pub map : Agree same m.value (map_of shift h xs) h.length

  -- A normal table has at most as many slots as any list that writes its map.
  abbrev pub Least : Type 0
  Least = (h : Head) (xs ys : List (Slot V)) → Normal shift same h xs → Writes shift same (map_of shift h xs) ys h.length → h.count ≤ length ys

  -- Two normal tables of equal length differ in no slot exactly when their maps agree at every sector.
  abbrev pub EqualMaps : Type 0
  EqualMaps =
      (h k : Head) (xs ys : List (Slot V)) → Normal shift same h xs → Normal shift same k ys → h.length ≡ k.length →
      (SameTables same h xs k ys → Agree same (map_of shift h xs) (map_of shift k ys) h.length) × (Agree same (map_of shift h xs) (map_of shift k ys) h.length → SameTables same h xs k ys)

  -- After any calls, refused ones included, a table that began fresh holds the calls' map. Whether an accepted call's result
  -- fits the row is not asked.
  abbrev pub Histories : Type 0
  Histories = (cs : List (Call V × Result (Unit {0}) Refusal)) (xs : List (Slot V)) (h' : Head) (xs' : List (Slot V)) → RanBy untold cs fresh_head xs h' xs' → Holds (after shift clear cs fresh) h' xs'

  -- Two assigns whose runs share no sector, given to two copies of a table in both orders: if all four are accepted, the copies differ in no slot.
  -- Whether the results fit the rows is not asked.
  abbrev pub Commute : Type 0
  Commute =
      (p q : Run) (v w : V) → ((i : ℕ) → In p i → In q i → ⊥) →
      (h h₁ h₂ k k₁ k₂ : Head) (xs xs₁ xs₂ ys ys₁ ys₂ : List (Slot V)) → h.length ≡ k.length → SameTables same h xs k ys →
      AssignsBy shift same untold h xs p v h₁ xs₁ (Ok tt) → AssignsBy shift same untold h₁ xs₁ q w h₂ xs₂ (Ok tt) →
      AssignsBy shift same untold k ys q w k₁ ys₁ (Ok tt) → AssignsBy shift same untold k₁ ys₁ p v k₂ ys₂ (Ok tt) → SameTables same h₂ xs₂ k₂ ys₂

  -- the laws of tables
  pub record TableLaws : Type 0 where
    pub least : Least
    pub histories : Histories
    pub equal_maps : EqualMaps
    pub commute : Commute

  -- What a list of calls leaves of a fresh table in lent slots: each did what it may, and the table holds the map that they make.
  pub record Replays (cs : List (Call V × Result (Unit {0}) Refusal)) (xs : List (Slot V)) (h' : Head) (xs' : List (Slot V)) : Type 0 where
    pub ran : Ran cs fresh_head xs h' xs'
    pub holds : Holds (after shift clear cs fresh) h' xs'
