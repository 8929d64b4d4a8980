-- What the inner steps of the calls answer.
use Rattle.std.specs.Prelude.{◌≡◌, ℕ, ◌+◌, ◌-◌, ◌<◌, ◌≤◌, Bool, true, false, List, ◌++◌, length, take, drop, Some, None, Option}
use Rattle.std.specs.Option.{option_to_list}
use Rattle.table.specs.declared.row.Plan.{Plan}
use Rattle.table.specs.declared.extent.Run.{Run}
use Rattle.table.specs.Extents.{at, before}
use Rattle.table.specs.Maps.{assigned}
use Rattle.table.specs.declared.extent.Slot.{Slot}

module _ {V : Type 0} (shift : V → ℕ → V) (same : V → V → Bool) (m : ℕ → V) (p : ℕ) where
  -- the value with which what is before p goes on there, or none at sector 0
  abbrev pub Told : Option V → Type 0
  Told None = p ≡ 0
  Told (Some v) = (0 < p) × (same (shift (m (p - 1)) 1) v ≡ true)

  -- The slot that begins at p with the value x, if the map breaks there; none, if the slot before goes on.
  abbrev pub Next : V → Option (Slot V) → Type 0
  Next x None = Told (Some x)
  Next x (Some s) = (s.start ≡ p) × (s.value ≡ x) × (0 < p → same (shift (m (p - 1)) 1) x ≡ false)

-- the slots that a plan keeps and adds
abbrev pub planned : {V : Type 0} → List (Slot V) → ℕ → Plan V → List (Slot V)
planned xs count p = take p.front xs ++ (option_to_list p.middle ++ (option_to_list p.tail ++ drop p.back (take count xs)))

-- a list in the first slots of a row, which keeps the others
pub record Splices {V : Type 0} (xs ys xs' : List (Slot V)) (count' : ℕ) : Type 0 where
  pub room : count' ≤ length xs'
  pub front : take count' xs' ≡ ys
  pub kept : drop count' xs' ≡ drop count' xs

-- How n sectors of slots go on behind a run that is given the value v: not at all at their end, else with what they had there.
pub record Behind {V : Type 0} (shift : V → ℕ → V) (same : V → V → Bool) (n : ℕ) (xs : List (Slot V)) (run : Run) (v : V) (o : Option (Slot V)) : Type 0 where
  pub ends : n ≤ run.start + run.length → o ≡ None
  pub goes : run.start + run.length < n → (d : V) → Next shift same (assigned shift (at shift xs) run.start run.length v d) (run.start + run.length) (at shift xs d (run.start + run.length)) o

-- What an assign leaves of n sectors of slots: those before the run, the run's, what goes on behind it, and those past that.
pub record Plans {V : Type 0} (shift : V → ℕ → V) (same : V → V → Bool) (n : ℕ) (xs : List (Slot V)) (run : Run) (v : V) (p : Plan V) : Type 0 where
  pub front : p.front ≡ before run.start xs
  pub middle : (d : V) → Next shift same (at shift xs d) run.start v p.middle
  pub tail : Behind shift same n xs run v p.tail
  pub back : p.back ≡ before (run.start + run.length + 1) xs
  pub len : p.length ≡ n
