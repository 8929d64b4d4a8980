-- What the sectors of a row of slots hold, and when a row is normal.
use Rattle.std.specs.Prelude.{◌≡◌, ℕ, suc, ◌-◌, ◌^◌, ◌<◌, ◌≤◌, Bool, false, cond, List, [], ◌∷◌, length, take, nat_lt}
use Rattle.std.specs.Coded.{×_prop, Unit-prop, le_prop, Coded-set, coded_ℕ, coded_bool}
use Rattle.table.specs.declared.extent.Head.{Head}
use Rattle.table.specs.declared.extent.Slot.{Slot}

module _ {V : Type 0} (shift : V → ℕ → V) where
  -- the value of the extent that a slot begins, at a sector of it
  abbrev pub value_at : Slot V → ℕ → V
  value_at s i = shift s.value (i - s.start)

  -- the same over the extents of s and the slots behind it
  abbrev pub value_from : Slot V → List (Slot V) → ℕ → V
  value_from s [] i = value_at s i
  value_from s (t ∷ ts) i = cond (nat_lt i t.start) (value_at s i) (value_from t ts i)

  -- the value at a sector; a list with no slot has no sector, and d stands for what is not there
  abbrev pub at : List (Slot V) → V → ℕ → V
  at [] d i = d
  at (s ∷ ss) d i = value_from s ss i

-- where the extent before these slots ends, in a table of n sectors
abbrev pub next : {V : Type 0} → List (Slot V) → ℕ → ℕ
next [] n = n
next (t ∷ ts) n = t.start

-- how many slots at the front start below a sector
abbrev pub before : {V : Type 0} → ℕ → List (Slot V) → ℕ
before a [] = 0
before a (s ∷ ss) = cond (nat_lt s.start a) (suc (before a ss)) 0

module _ {V : Type 0} where
  -- starts rise strictly and stay below n
  abbrev pub Climbs : Slot V → List (Slot V) → ℕ → Type 0
  Climbs s [] n = s.start < n
  Climbs s (t ∷ ts) n = (s.start < t.start) × Climbs t ts n

  -- extents that cover exactly the sectors below n
  abbrev pub Covers : List (Slot V) → ℕ → Type 0
  Covers [] n = n ≡ 0
  Covers (s ∷ ss) n = (s.start ≡ 0) × Climbs s ss n

module _ {V : Type 0} (shift : V → ℕ → V) (same : V → V → Bool) where
  -- no slot's value is same as what the slot before it would have at that start
  abbrev pub Breaks : Slot V → List (Slot V) → Type 0
  Breaks s [] = Unit {0}
  Breaks s (t ∷ ts) = (same (value_at shift s t.start) t.value ≡ false) × Breaks t ts

  abbrev pub Distinct : List (Slot V) → Type 0
  Distinct [] = Unit {0}
  Distinct (s ∷ ss) = Breaks s ss

  pub record Normal (h : Head) (xs : List (Slot V)) : Type 0 where
    pub room : h.count ≤ length xs
    pub bounded : h.length ≤ 2 ^ 40
    pub covers : Covers (take h.count xs) h.length
    pub distinct : Distinct (take h.count xs)

-- each of these facts has one proof at most, so that a struct can hold it
module _ {V : Type 0} where
  Climbs-prop : (s : Slot V) (ss : List (Slot V)) (n : ℕ) → IsProp (Climbs s ss n)
  Climbs-prop s [] n = le_prop
  Climbs-prop s (t ∷ ts) n = ×_prop le_prop (Climbs-prop t ts n)

  pub Covers-prop : (xs : List (Slot V)) (n : ℕ) → IsProp (Covers xs n)
  Covers-prop [] n = Coded-set coded_ℕ n 0
  Covers-prop (s ∷ ss) n = ×_prop (Coded-set coded_ℕ s.start 0) (Climbs-prop s ss n)

module _ {V : Type 0} (shift : V → ℕ → V) (same : V → V → Bool) where
  Breaks-prop : (s : Slot V) (ss : List (Slot V)) → IsProp (Breaks shift same s ss)
  Breaks-prop s [] = Unit-prop
  Breaks-prop s (t ∷ ts) = ×_prop (Coded-set coded_bool (same (value_at shift s t.start) t.value) false) (Breaks-prop t ts)

  pub Distinct-prop : (xs : List (Slot V)) → IsProp (Distinct shift same xs)
  Distinct-prop [] = Unit-prop
  Distinct-prop (s ∷ ss) = Breaks-prop s ss
