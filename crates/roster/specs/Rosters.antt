-- What a roster lists, and the rules that devices, stripe sets and their areas keep.
use Rattle.std.specs.Prelude.{◌≡◌, ℕ, ◌+◌, ◌*◌, ◌^◌, ◌<◌, ◌≤◌, [], length, slice_index_or, All, AllPairs}
use Rattle.roster.specs.declared.area.Area.{Area}
use Rattle.roster.specs.declared.entry.Device.{Device}
use Rattle.roster.specs.declared.entry.Column.{Column}
use Rattle.roster.specs.declared.entry.SetEntry.{SetEntry}
use Rattle.roster.specs.declared.entry.Entries.{Entries}

-- a device that is none, a set that is none, a column that is none
abbrev pub no_device : Device
no_device = record { major = 0; minor = 0; size = 0 }

abbrev pub no_set : SetEntry
no_set = record { width = 0; chunk = 0; rows = 0; columns = [] }

abbrev pub no_column : Column
no_column = record { device = 0; base = 0 }

-- the device with a number
abbrev pub device_at : Entries → ℕ → Device
device_at E d = slice_index_or E.devices.items d no_device

-- the stripe set with a number
abbrev pub set_at : Entries → ℕ → SetEntry
set_at E n = slice_index_or E.sets.items n no_set

-- a column of a set
abbrev pub column_at : SetEntry → ℕ → Column
column_at e j = slice_index_or e.columns j no_column

-- how many sectors each column's area has
abbrev pub span : SetEntry → ℕ
span e = e.chunk * e.rows

-- how many sectors the set has
abbrev pub size_of : SetEntry → ℕ
size_of e = e.width * span e

-- numbers and size are in range
abbrev pub SoundDevice : Device → Type 0
SoundDevice d = (d.major ≤ 4095) × (d.minor ≤ 1048575) × (1 ≤ d.size) × (d.size ≤ 2 ^ 40)

-- two devices have the same numbers
abbrev pub Twins : Device → Device → Type 0
Twins d e = (d.major ≡ e.major) × (d.minor ≡ e.minor)

-- columns, chunk and rows are in range
abbrev pub Shaped : SetEntry → Type 0
Shaped e = (2 ≤ e.width) × (e.width ≤ 8) × (8 ≤ e.chunk) × (e.chunk ≤ 65536) × (1 ≤ e.rows)

-- the area that a column of a set owns
abbrev pub area_on : SetEntry → Column → Area
area_on e c = record { device = c.device; from = c.base; to = c.base + span e }

-- the area that column j of a set owns
abbrev pub area_of : SetEntry → ℕ → Area
area_of e j = area_on e (column_at e j)

-- a sector of a device lies in an area
abbrev pub Holds : Area → ℕ → ℕ → Type 0
Holds a d s = (a.device ≡ d) × (a.from ≤ s) × (s < a.to)

-- two areas share a sector
pub record Share (a b : Area) : Type 0 where
  pub device : ℕ
  pub sector : ℕ
  pub here : Holds a device sector
  pub there : Holds b device sector

-- column j of set n is listed
abbrev pub Listed : Entries → ℕ → ℕ → Type 0
Listed E n j = (n < length E.sets.items) × (j < (set_at E n).width)

-- two listed columns, not one and the same, whose areas share a sector
pub record Clash (E : Entries) : Type 0 where
  pub n : ℕ
  pub j : ℕ
  pub m : ℕ
  pub k : ℕ
  pub one : Listed E n j
  pub other : Listed E m k
  pub two : (n ≡ m) × (j ≡ k) → ⊥
  pub share : Share (area_of (set_at E n) j) (area_of (set_at E m) k)

-- no area of a set shares a sector with a run
abbrev pub SetClear : SetEntry → Area → Type 0
SetClear e run = (j : ℕ) → j < e.width → Share (area_of e j) run → ⊥

-- no area of a listed set shares a sector with a run
abbrev pub AllClear : Entries → Area → Type 0
AllClear E run = All (λ e. SetClear e run) E.sets.items

-- a sector of a device lies in the area of a listed column
pub record Owned (E : Entries) (d s : ℕ) : Type 0 where
  pub n : ℕ
  pub j : ℕ
  pub listed : Listed E n j
  pub holds : Holds (area_of (set_at E n) j) d s

-- at most 32 devices
abbrev pub FewDevices : Entries → Type 0
FewDevices E = length E.devices.items ≤ 32

-- at most 16 sets
abbrev pub FewSets : Entries → Type 0
FewSets E = length E.sets.items ≤ 16

-- every listed device keeps its ranges
abbrev pub SoundDevices : Entries → Type 0
SoundDevices E = All SoundDevice E.devices.items

-- no two listed devices have the same numbers
abbrev pub NoTwins : Entries → Type 0
NoTwins E = AllPairs (λ d e. Twins d e → ⊥) E.devices.items

-- every listed set keeps its ranges
abbrev pub ShapedSets : Entries → Type 0
ShapedSets E = All Shaped E.sets.items

-- every area of a set lies inside a listed device
abbrev pub Housed : Entries → SetEntry → Type 0
Housed E e =
    (j : ℕ) → j < e.width →
    ((column_at e j).device < length E.devices.items)
    × ((column_at e j).base + span e ≤ (device_at E (column_at e j).device).size)

-- every listed set is housed
abbrev pub HousedSets : Entries → Type 0
HousedSets E = All (Housed E) E.sets.items

-- no two areas share a sector
abbrev pub NoClash : Entries → Type 0
NoClash E = Clash E → ⊥

-- all that a roster keeps
pub record Sound (E : Entries) : Type 0 where
  pub few_devices : FewDevices E
  pub few_sets : FewSets E
  pub devices : SoundDevices E
  pub twins : NoTwins E
  pub shaped : ShapedSets E
  pub housed : HousedSets E
  pub apart : NoClash E
