-- Where targets lie under a roster, which are lawful, and which tables of targets are volumes.
use Rattle.std.specs.Prelude.{◌≡◌, ℕ, ◌+◌, ◌-◌, ◌*◌, ◌/◌, ◌%◌, ◌^◌, ◌<◌, ◌≤◌, true, List, [], ◌∷◌, length, take, slice_index}
use Rattle.table.specs.declared.extent.Head.{Head}
use Rattle.table.specs.declared.extent.Slot.{Slot}
use Rattle.table.specs.Extents.{Normal, next}
use Rattle.roster.specs.declared.entry.SetEntry.{SetEntry}
use Rattle.roster.specs.declared.entry.Entries.{Entries}
use Rattle.roster.specs.declared.place.Place.{Place}
use Rattle.roster.specs.declared.place.Place.TheVariants.{Zero as zero_place, Error as error_place, At}
use Rattle.roster.specs.declared.target.Target.{Target}
use Rattle.roster.specs.declared.target.Target.TheVariants.{Zero, Error, Linear, Striped}
use Rattle.roster.specs.Rosters.{device_at, set_at, column_at, span, size_of, Owned}
use Rattle.roster.specs.Targets.{shift_target, same_target}

-- the column of a set that holds an offset
abbrev pub column_of : SetEntry → ℕ → ℕ
column_of e o = (o / e.chunk) % e.width

-- the row of a set that holds an offset
abbrev pub row_of : SetEntry → ℕ → ℕ
row_of e o = (o / e.chunk) / e.width

-- where an offset of a set lies
abbrev pub stripe_place : SetEntry → ℕ → Place
stripe_place e o =
    At (column_at e (column_of e o)).device ((column_at e (column_of e o)).base + (row_of e o * e.chunk + o % e.chunk))

-- every column's area lies inside a device of the size given for it
abbrev pub Roomy : SetEntry → List ℕ → Type 0
Roomy e sizes = (j : ℕ) → j < e.width → ((column_at e j).base + span e ≤ slice_index sizes j) × (slice_index sizes j ≤ 2 ^ 40)

-- every column's area ends within the limit
abbrev pub Bounded : SetEntry → Type 0
Bounded e = (j : ℕ) → j < e.width → (column_at e j).base + span e ≤ 2 ^ 40

-- the sizes given for the columns are those of the devices that they name
abbrev pub SizedBy : Entries → SetEntry → List ℕ → Type 0
SizedBy E e sizes = (j : ℕ) → j < e.width → slice_index sizes j ≡ (device_at E (column_at e j).device).size

-- where a target lies
abbrev pub place_of : Entries → Target → Place
place_of E Zero = zero_place
place_of E Error = error_place
place_of E (Linear d s) = At d s
place_of E (Striped n o) = stripe_place (set_at E n) o

-- the device that a linear target names is listed
abbrev pub HasDevice : Entries → Target → Type 0
HasDevice E (Linear d s) = d < length E.devices.items
HasDevice E _ = Unit {0}

-- the set that a striped target names is listed
abbrev pub HasSet : Entries → Target → Type 0
HasSet E (Striped n o) = n < length E.sets.items
HasSet E _ = Unit {0}

-- the sector is below the size of its device, the offset below that of its set
abbrev pub Below : Entries → Target → Type 0
Below E (Linear d s) = s < (device_at E d).size
Below E (Striped n o) = o < size_of (set_at E n)
Below E _ = Unit {0}

-- a linear target that touches an area
abbrev pub Touches : Entries → Target → Type 0
Touches E (Linear d s) = Owned E d s
Touches E _ = ⊥

-- one sector resolves inside its device or set, and touches no area if linear
abbrev pub Fair : Entries → Target → Type 0
Fair E t = HasDevice E t × HasSet E t × Below E t × (Touches E t → ⊥)

-- of targets that are fair for a sector, those with one place are same
abbrev pub PlacesTell : Entries → Type 0
PlacesTell E = (t u : Target) → Fair E t → Fair E u → place_of E t ≡ place_of E u → same_target t u ≡ true

-- every sector of a run of l stays below the size of its device or set
abbrev pub Stays : Entries → Target → ℕ → Type 0
Stays E t l = (k : ℕ) → k < l → Below E (shift_target t k)

-- no sector of a run of l touches an area
abbrev pub Clears : Entries → Target → ℕ → Type 0
Clears E t l = (k : ℕ) → k < l → Touches E (shift_target t k) → ⊥

-- a target is lawful for a run of l sectors
abbrev pub Lawful : Entries → Target → ℕ → Type 0
Lawful E t l = (k : ℕ) → k < l → Fair E (shift_target t k)

-- every extent's target is lawful over the whole extent
abbrev pub AllLawful : Entries → List (Slot Target) → ℕ → Type 0
AllLawful E [] n = Unit {0}
AllLawful E (s ∷ ss) n = Lawful E s.value (next ss n - s.start) × AllLawful E ss n

-- a table of targets that is normal and lawful in every extent
pub record Volume (E : Entries) (h : Head) (xs : List (Slot Target)) : Type 0 where
  pub normal : Normal shift_target same_target h xs
  pub lawful : AllLawful E (take h.count xs) h.length
