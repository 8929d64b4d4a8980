-- Maps: a value for each sector, and what it is to write one.
use Rattle.std.specs.Prelude.{◌≡◌, ℕ, ◌+◌, ◌-◌, ◌<◌, ◌≤◌, Bool, true, cond, List, length, nat_lt}
use Rattle.table.specs.declared.extent.Slot.{Slot}
use Rattle.table.specs.Extents.{at, Covers}

-- The value at each sector. The first argument stands for what no sector holds, and never matters below the length.
abbrev pub Map : Type 0 → Type 0
Map V = V → ℕ → V

module _ {V : Type 0} (same : V → V → Bool) where
  -- two maps agree at every sector below n
  abbrev pub Agree : Map V → Map V → ℕ → Type 0
  Agree m w n = (d : V) (i : ℕ) → i < n → same (m d i) (w d i) ≡ true

module _ {V : Type 0} (shift : V → ℕ → V) (same : V → V → Bool) where
  -- a list of starts and values writes the map m of n sectors
  abbrev pub Writes : Map V → List (Slot V) → ℕ → Type 0
  Writes m ys n = Covers ys n × Agree same m (at shift ys) n

  -- some list that writes the map has at most as many entries as the row has slots
  pub record Fits (m : Map V) (n row : ℕ) : Type 0 where
    pub list : List (Slot V)
    pub writes : Writes m list n
    pub few : length list ≤ row

module _ {V : Type 0} (shift : V → ℕ → V) where
  -- v from sector n on
  abbrev pub appended : Map V → ℕ → V → Map V
  appended m n v d i = cond (nat_lt i n) (m d i) (shift v (i - n))

  -- v from sector a on over l sectors
  abbrev pub assigned : Map V → ℕ → ℕ → V → Map V
  assigned m a l v d i = cond (nat_lt i a) (m d i) (cond (nat_lt i (a + l)) (shift v (i - a)) (m d i))

-- the top's value, or the base's where the top's is clear
abbrev pub over : {V : Type 0} → (V → Bool) → Map V → Map V → Map V
over clear top base d i = cond (clear (top d i)) (base d i) (top d i)
