-- What the laws of a kind give of one extent and of the extents behind one another.
use Rattle.std.proofs.Common.{◌≡◌, ℕ, ◌+◌, ◌-◌, ◌<◌, ◌≤◌, Bool, true, false, ltb, List, [], ◌∷◌, refl, subst, inl, inr, arith}
use Rattle.std.proofs.lemmas.Bool.{both_ways, cases_Bool, cond-true, cond-false, lt-ltb, le-ltb}
use Rattle.table.specs.declared.extent.Slot.{Slot}
use Rattle.table.specs.Kinds.{Laws}
use Rattle.table.specs.Extents.{value_at, value_from, Climbs}

-- the slots behind the first count from their own start on
module _ {V : Type 0} (shift : V → ℕ → V) (s t : Slot V) (ts : List (Slot V)) (i : ℕ) where
  pub from_before : i < t.start → value_from shift s (t ∷ ts) i ≡ value_at shift s i
  from_before h = cond-true (ltb i t.start) (value_at shift s i) (value_from shift t ts i) (lt-ltb i t.start h)

  pub from_after : t.start ≤ i → value_from shift s (t ∷ ts) i ≡ value_from shift t ts i
  from_after h = cond-false (ltb i t.start) (value_at shift s i) (value_from shift t ts i) (le-ltb i t.start h)

pub climbs_below : {V : Type 0} (s : Slot V) (ss : List (Slot V)) (n : ℕ) → Climbs s ss n → s.start < n
climbs_below s [] n h = h
climbs_below s (t ∷ ts) n h = let k = climbs_below t ts n h.1 in omega (arith, h.0, k)

pub from_start : {V : Type 0} (shift : V → ℕ → V) (s : Slot V) (ss : List (Slot V)) (n : ℕ) → Climbs s ss n → value_from shift s ss s.start ≡ value_at shift s s.start
from_start shift s [] n h = refl
from_start shift s (t ∷ ts) n h = from_before shift s t ts s.start h.0

module _ {V : Type 0} {shift : V → ℕ → V} {same : V → V → Bool} {clear : V → Bool} (laws : Laws shift same clear) where
  pub via : {u v w : V} → same u v ≡ true → same v w ≡ true → same u w ≡ true
  via {u} {v} {w} p q = laws.same_on u v w p q

  pub back : {u v : V} → same u v ≡ true → same v u ≡ true
  back {u} {v} p = laws.same_back u v p

  -- values that are not same stay so for what is same as each
  pub apart : {u v x y : V} → same u x ≡ true → same v y ≡ true → same u v ≡ false → same x y ≡ false
  apart {u} {v} {x} {y} p q h =
      elim (cases_Bool (same x y)) [ inl e ↦ absurd (both_ways (same u v) h (via p (via e (back q)))) | inr e ↦ e ]

  pub same_is : (v w : V) → v ≡ w → same v w ≡ true
  same_is v w e = subst (λ (x : V). same v x ≡ true) e (laws.same_self v)

  pub start_value : (s : Slot V) → same (value_at shift s s.start) s.value ≡ true
  start_value s = let e : 0 ≡ s.start - s.start = omega arith in rw e at (laws.shift_none s.value)

  -- an extent goes on by shifting
  pub goes_on : (s : Slot V) (i j : ℕ) → s.start ≤ i → i ≤ j → same (shift (value_at shift s i) (j - i)) (value_at shift s j) ≡ true
  goes_on s i j h k =
      let e : (i - s.start) + (j - i) ≡ j - s.start = omega arith in
      rw e at (laws.shift_more s.value (i - s.start) (j - i))

  -- what is same as an extent at one sector goes on with it
  pub follows : (s : Slot V) (v : V) (i j : ℕ) → s.start ≤ i → i ≤ j → same v (value_at shift s i) ≡ true → same (shift v (j - i)) (value_at shift s j) ≡ true
  follows s v i j h k e =
      laws.same_on (shift v (j - i)) (shift (value_at shift s i) (j - i)) (value_at shift s j)
      (laws.shift_same v (value_at shift s i) (j - i) e) (goes_on s i j h k)

  -- two extents that are same at one sector are same at every later one
  pub both_on : (s t : Slot V) (i j : ℕ) → s.start ≤ i → t.start ≤ i → i ≤ j → same (value_at shift s i) (value_at shift t i) ≡ true → same (value_at shift s j) (value_at shift t j) ≡ true
  both_on s t i j hs ht k e =
      laws.same_on (value_at shift s j) (shift (value_at shift s i) (j - i)) (value_at shift t j)
      (laws.same_back (shift (value_at shift s i) (j - i)) (value_at shift s j) (goes_on s i j hs k))
      (follows t (value_at shift s i) i j ht k e)
