-- What the parts of printing take and leave: the first line of an extent, and a walk from line to line.
use Rattle.std.specs.Prelude.{◌≡◌, ℕ, ◌+◌, ◌-◌, ◌^◌, ◌<◌, ◌≤◌, List, [], ◌∷◌, ◌++◌, length}
use Rattle.table.specs.declared.extent.Slot.{Slot}
use Rattle.roster.specs.declared.entry.Entries.{Entries}
use Rattle.roster.specs.declared.entry.SetEntry.{SetEntry}
use Rattle.roster.specs.declared.target.Target.{Target}
use Rattle.roster.specs.declared.target.Target.TheVariants.{Linear, Striped}
use Rattle.roster.specs.Rosters.{column_at, span, Shaped}
use Rattle.std.specs.Coded.{×_prop, Unit-prop, le_prop}
use Rattle.roster.specs.Targets.{shift_target}
use Rattle.table.specs.Extents.{next}
use Rattle.roster.specs.Places.{Lawful, Fair, HasDevice, HasSet, Below, Touches}
use Rattle.text.specs.declared.line.Line.{Line}
use Rattle.text.specs.Steps.{extent_lines}
use Rattle.text.specs.Printing.{whole_of, offset_of, lines_from}

-- a set that keeps its ranges, with every column on a listed device, and within the limit
pub record Usable (E : Entries) (e : SetEntry) : Type 0 where
  pub shaped : Shaped e
  pub housed : (j : ℕ) → j < e.width → ((column_at e j).device < length E.devices.items) × ((column_at e j).base + span e ≤ 2 ^ 40)

-- the lines from a sector of the first of these extents on
abbrev pub lines_on : Entries → List (Slot Target) → ℕ → ℕ → List Line
lines_on E [] n at = []
lines_on E (s ∷ ss) n at =
    extent_lines (whole_of E s.value) (offset_of s.value + (at - s.start)) at (next ss n - at) ++ lines_from E ss n

-- a sector lies in the first of these extents, if there is one
abbrev pub Within : List (Slot Target) → ℕ → ℕ → Type 0
Within [] n at = Unit {0}
Within (s ∷ ss) n at = (s.start ≤ at) × (at < next ss n)

-- every extent has sectors, ends within the table, and is lawful
abbrev pub Goes : Entries → List (Slot Target) → ℕ → Type 0
Goes E [] n = n ≤ 2 ^ 40
Goes E (s ∷ ss) n =
    (s.start < next ss n) × (next ss n ≤ n) × Lawful E s.value (next ss n - s.start) × Goes E ss n

-- one step of the lines: l comes first, and behind it the lines from sector b of the slots ys on
pub record Steps (E : Entries) (xs : List (Slot Target)) (n at : ℕ) (l : Line) (ys : List (Slot Target)) (b : ℕ) : Type 0 where
  pub lines : lines_on E xs n at ≡ l ∷ lines_on E ys n b
  pub goes : Goes E ys n
  pub within : Within ys n b

-- each of these facts has one proof at most, so that a struct can hold it
module _ (E : Entries) where
  Device-prop : (t : Target) → IsProp (HasDevice E t)
  Device-prop (Linear d s) = le_prop
  Device-prop _ = Unit-prop

  Set-prop : (t : Target) → IsProp (HasSet E t)
  Set-prop (Striped n o) = le_prop
  Set-prop _ = Unit-prop

  Below-prop : (t : Target) → IsProp (Below E t)
  Below-prop (Linear d s) = le_prop
  Below-prop (Striped n o) = le_prop
  Below-prop _ = Unit-prop

  Fair-prop : (t : Target) → IsProp (Fair E t)
  Fair-prop t x y =
      let apart : (h : Touches E t) → x.3 h ≡ y.3 h = λ h. absurd (x.3 h) in
      λ i. (Device-prop t x.0 y.0 i, Set-prop t x.1 y.1 i, Below-prop t x.2 y.2 i, λ h. apart h i)

  Lawful-prop : (t : Target) (n : ℕ) → IsProp (Lawful E t n)
  Lawful-prop t n x y = λ i k less. Fair-prop (shift_target t k) (x k less) (y k less) i

  pub Goes-prop : (xs : List (Slot Target)) (n : ℕ) → IsProp (Goes E xs n)
  Goes-prop [] n x y = le_prop x y
  Goes-prop (s ∷ ss) n x y =
      λ i. (le_prop x.0 y.0 i, le_prop x.1 y.1 i, Lawful-prop s.value (next ss n - s.start) x.2 y.2 i, Goes-prop ss n x.3 y.3 i)

pub Within-prop : (xs : List (Slot Target)) (n at : ℕ) → IsProp (Within xs n at)
Within-prop [] n at = Unit-prop
Within-prop (s ∷ ss) n at = ×_prop le_prop le_prop
