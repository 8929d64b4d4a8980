-- What adding to a roster answers and leaves.
use Rattle.std.specs.Prelude.{◌≡◌, ℕ, ◌+◌, ◌-◌, ◌<◌, ◌≤◌, List, [], ◌∷◌, ◌++◌, length, replicate, Result, All}
use Rattle.table.specs.Checks.{Answers, Checks, check, end}
use Rattle.roster.specs.declared.entry.Device.{Device}
use Rattle.roster.specs.declared.entry.Column.{Column}
use Rattle.roster.specs.declared.entry.SetEntry.{SetEntry}
use Rattle.roster.specs.declared.entry.Entries.{Entries}
use Rattle.roster.specs.declared.refusal.RosterRefusal.{RosterRefusal}
use Rattle.roster.specs.Refusals.{number_of}
use Rattle.roster.specs.Rosters.{no_column, device_at, column_at, span, area_of, Share, SetClear, SoundDevice, Twins, Shaped, NoClash}

-- the roster that lists nothing
abbrev pub nothing : Entries
nothing = record { devices = record { items = [] }; sets = record { items = [] } }

-- the roster with one more device
abbrev pub with_device : Entries → Device → Entries
with_device E d = record { devices = record { items = E.devices.items ++ d ∷ [] }; sets = E.sets }

-- no listed device has the same numbers
abbrev pub Unlisted : Entries → Device → Type 0
Unlisted E d = All (λ e. Twins e d → ⊥) E.devices.items

-- the checks of a device
abbrev pub device_checks : Entries → Device → Checks
device_checks E d = check 12 (length E.devices.items < 32) (check 13 (SoundDevice d × Unlisted E d) end)

abbrev pub DeviceJudged : Entries → Device → Result (Unit {0}) RosterRefusal → Type 0
DeviceJudged E d = Answers number_of (device_checks E d) (Unit {0}) (λ _. Unit {0})

-- A device that passes is listed last and its number answered; a refusal leaves the roster as it was.
abbrev pub AddsDevice : Entries → Device → Entries → Result ℕ RosterRefusal → Type 0
AddsDevice E d E' =
    Answers number_of (device_checks E d) (E' ≡ E) (λ n. (n ≡ length E.devices.items) × (E' ≡ with_device E d))

-- the columns, and behind them columns that do not count
abbrev pub padded : List Column → List Column
padded cs = cs ++ replicate (8 - length cs) no_column

-- the entry of a set with these columns
abbrev pub entry_of : ℕ → ℕ → List Column → SetEntry
entry_of chunk rows cs = record { width = length cs; chunk = chunk; rows = rows; columns = padded cs }

-- the roster with one more set
abbrev pub with_set : Entries → SetEntry → Entries
with_set E e = record { devices = E.devices; sets = record { items = E.sets.items ++ e ∷ [] } }

-- no area of one set shares a sector with an area of the other
abbrev pub Apart : SetEntry → SetEntry → Type 0
Apart a b = (j : ℕ) → j < a.width → SetClear b (area_of a j)

-- no two areas of a set share a sector
abbrev pub OwnApart : SetEntry → Type 0
OwnApart e = (k : ℕ) → k < e.width → (j : ℕ) → j < k → Share (area_of e j) (area_of e k) → ⊥

-- every column names a listed device
abbrev pub NamesListed : Entries → List Column → Type 0
NamesListed E cs = All (λ c. c.device < length E.devices.items) cs

-- every column's area lies inside the device that it names
abbrev pub FitsDevices : Entries → SetEntry → Type 0
FitsDevices E e = (j : ℕ) → j < e.width → (column_at e j).base + span e ≤ (device_at E (column_at e j).device).size

-- the checks of a set
abbrev pub set_checks : Entries → ℕ → ℕ → List Column → Checks
set_checks E chunk rows cs =
    let e : SetEntry = entry_of chunk rows cs in
    check 5 (NamesListed E cs) (check 12 (length E.sets.items < 16) (check 14 (Shaped e × FitsDevices E e) (check 15 (NoClash (with_set E e)) end)))

-- A set that passes is listed last and its number answered; a refusal leaves the roster as it was.
abbrev pub AddsSet : Entries → ℕ → ℕ → List Column → Entries → Result ℕ RosterRefusal → Type 0
AddsSet E chunk rows cs E' =
    Answers number_of (set_checks E chunk rows cs) (E' ≡ E) (λ n. (n ≡ length E.sets.items) × (E' ≡ with_set E (entry_of chunk rows cs)))
