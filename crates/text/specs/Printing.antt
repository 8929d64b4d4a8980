-- The lines and the text of a volume, and what printing it answers.
use Rattle.std.specs.Prelude.{◌≡◌, ℕ, ◌-◌, ◌%◌, ◌^◌, ◌<◌, ◌≤◌, List, [], ◌∷◌, ◌++◌, map, length, take, drop, Result}
use Rattle.std.specs.List.{range_with_len}
use Rattle.table.specs.declared.extent.Head.{Head}
use Rattle.table.specs.declared.extent.Slot.{Slot}
use Rattle.table.specs.Calls.{map_of}
use Rattle.table.specs.Checks.{Answers, check, end}
use Rattle.roster.specs.declared.entry.SetEntry.{SetEntry}
use Rattle.roster.specs.declared.entry.Entries.{Entries}
use Rattle.roster.specs.declared.place.Place.{Place}
use Rattle.roster.specs.declared.place.Place.TheVariants.{Zero as zero_place, Error as error_place, At}
use Rattle.roster.specs.declared.target.Target.{Target}
use Rattle.roster.specs.declared.target.Target.TheVariants.{Zero, Error, Linear, Striped}
use Rattle.roster.specs.Rosters.{device_at, set_at, column_at}
use Rattle.roster.specs.Targets.{shift_target}
use Rattle.table.specs.Extents.{next}
use Rattle.roster.specs.Places.{place_of, Volume}
use Rattle.text.specs.declared.refusal.TextRefusal.{TextRefusal}
use Rattle.text.specs.declared.spot.Spot.{Spot}
use Rattle.text.specs.declared.line.Line.{Line}
use Rattle.text.specs.declared.line.Mapping.{Mapping}
use Rattle.text.specs.declared.line.Mapping.TheVariants.{Linear as linear, Striped as striped, Zero as zeroes, Error as errors}
use Rattle.text.specs.Lines.{Outcome, lies, blank, fails, Tiles}
use Rattle.text.specs.Refusals.{number_of}
use Rattle.text.specs.Spelling.{text_of}
use Rattle.text.specs.Steps.{extent_lines}

-- a sector of a listed device, by the device's numbers
abbrev pub spot_of : Entries → ℕ → ℕ → Spot
spot_of E d s = record { major = (device_at E d).major; minor = (device_at E d).minor; sector = s }

-- where column j of a set begins
abbrev pub column_spot : Entries → SetEntry → ℕ → Spot
column_spot E e j = spot_of E (column_at e j).device (column_at e j).base

-- where the columns of a set begin
abbrev pub column_spots : Entries → SetEntry → List Spot
column_spots E e = map (column_spot E e) (range_with_len 0 e.width)

-- the whole that a target is a sector of: zeroes, errors, a device or a set
abbrev pub whole_of : Entries → Target → Mapping
whole_of E Zero = zeroes
whole_of E Error = errors
whole_of E (Linear d s) = linear (spot_of E d 0)
whole_of E (Striped n o) = striped (set_at E n).chunk (column_spots E (set_at E n))

-- which sector of that whole a target is; it has 64 bits
abbrev pub offset_of : Target → ℕ
offset_of Zero = 0
offset_of Error = 0
offset_of (Linear d s) = s % 2 ^ 64
offset_of (Striped n o) = o % 2 ^ 64

-- the lines of the extents that these slots begin, in a table of n sectors
abbrev pub lines_from : Entries → List (Slot Target) → ℕ → List Line
lines_from E [] n = []
lines_from E (s ∷ ss) n =
    extent_lines (whole_of E s.value) (offset_of s.value) s.start (next ss n - s.start) ++ lines_from E ss n

-- the lines of a volume
abbrev pub lines_of : Entries → Head → List (Slot Target) → List Line
lines_of E h xs = lines_from E (take h.count xs) h.length

-- the text of a volume
abbrev pub printed : Entries → Head → List (Slot Target) → List ℕ
printed E h xs = text_of (lines_of E h xs)

-- the place that sector i of a volume resolves to
abbrev pub place_at : Entries → Head → List (Slot Target) → ℕ → Place
place_at E h xs i = place_of E (map_of shift_target h xs Zero i)

-- a place as the device-mapper sees it, with the device by its numbers
abbrev pub outcome_of : Entries → Place → Outcome
outcome_of E zero_place = blank
outcome_of E error_place = fails
outcome_of E (At d s) = lies (spot_of E d s)

-- the lines tile the volume, and denote at every sector the place that it resolves to
abbrev pub ShowsPlaces : Entries → Head → List (Slot Target) → Type 0
ShowsPlaces E h xs = Tiles (λ i. outcome_of E (place_at E h xs i)) 0 h.length (lines_of E h xs)

-- two volumes resolve alike at every sector
abbrev pub SamePlaces : Entries → Head → List (Slot Target) → Head → List (Slot Target) → Type 0
SamePlaces E g xs h ys = (i : ℕ) → i < g.length → place_at E g xs i ≡ place_at E h ys i

-- Prints tell places: two volumes of equal length have equal texts exactly if every sector resolves alike in both.
abbrev pub PrintsTellPlaces : Entries → Type 0
PrintsTellPlaces E =
    (g h : Head) (xs ys : List (Slot Target)) →
    Volume E g xs → Volume E h ys → g.length ≡ h.length →
    (printed E g xs ≡ printed E h ys → SamePlaces E g xs h ys)
    × (SamePlaces E g xs h ys → printed E g xs ≡ printed E h ys)

-- what a buffer holds that a text of n bytes was written to: the text, and behind it what was there
abbrev pub Filled : List ℕ → List ℕ → List ℕ → ℕ → Type 0
Filled text b b' n = (n ≡ length text) × (take n b' ≡ text) × (drop n b' ≡ drop n b)

-- What writing a text answers: 20 if it is longer than the buffer, which stays as it was.
abbrev pub Fills : List ℕ → List ℕ → List ℕ → Result ℕ TextRefusal → Type 0
Fills text b b' = Answers number_of (check 20 (length text ≤ length b) end) (b' ≡ b) (Filled text b b')

-- What print answers: 2 if the table is no volume, 20 if its text is longer than the buffer, and else the text and its length.
abbrev pub Prints : Entries → Head → List (Slot Target) → List ℕ → List ℕ → Result ℕ TextRefusal → Type 0
Prints E h xs b b' =
    let text : List ℕ = printed E h xs in
    Answers number_of (check 2 (Volume E h xs) (check 20 (length text ≤ length b) end)) (b' ≡ b) (Filled text b b')

-- the lines of every volume tile it, and denote at every sector the place that it resolves to
abbrev pub PrintsShowPlaces : Entries → Type 0
PrintsShowPlaces E = (h : Head) (xs : List (Slot Target)) → Volume E h xs → ShowsPlaces E h xs
