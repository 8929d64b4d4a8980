-- The lines of a volume tile it, and denote at every sector the place that it resolves to.
use Rattle.std.proofs.Common.{◌≡◌, ℕ, ◌-◌, ◌^◌, ◌<◌, ◌≤◌, List, [], ◌∷◌, take, sym, refl, ap, ◌∙◌, arith}
use Rattle.table.specs.declared.extent.Head.{Head}
use Rattle.table.specs.declared.extent.Slot.{Slot}
use Rattle.table.specs.Extents.{value_at, value_from, at, Climbs, Covers, next}
use Rattle.table.proofs.Alike.{from_before, from_after}
use Rattle.roster.specs.declared.entry.Entries.{Entries}
use Rattle.roster.specs.declared.target.Target.{Target}
use Rattle.roster.specs.declared.target.Target.TheVariants.{Zero}
use Rattle.roster.specs.Rosters.{Sound}
use Rattle.roster.specs.Places.{place_of, AllLawful, Volume}
use Rattle.roster.specs.Targets.{shift_target}
use Rattle.text.specs.Lines.{Outcome, Tiles}
use Rattle.text.specs.Steps.{extent_lines}
use Rattle.text.specs.Printing.{whole_of, offset_of, lines_from, outcome_of, ShowsPlaces}
use Rattle.text.specs.Walks.{Goes, Within}
use Rattle.text.proofs.Rosters.{proper_shifted, maps_place}
use Rattle.text.proofs.Stepping.{extent_tiles, tiles_then}
use Rattle.text.proofs.Walking.{goes_few, start_fair}

-- starts that climb to n end within n
climbs_next : (s : Slot Target) (ss : List (Slot Target)) (n : ℕ) → Climbs s ss n → (s.start < next ss n) × (next ss n ≤ n)
climbs_next s [] n up = (up, omega arith)
climbs_next s (t ∷ ts) n up = (up.0, omega (arith, climbs_next t ts n up.1))

goes_climbs : (E : Entries) (s : Slot Target) (ss : List (Slot Target)) (n : ℕ) → n ≤ 2 ^ 40 → Climbs s ss n → AllLawful E (s ∷ ss) n → Goes E (s ∷ ss) n
goes_climbs E s [] n few up lawful = (up, omega arith, lawful.0, few)
goes_climbs E s (t ∷ ts) n few up lawful =
    (up.0, (climbs_next s (t ∷ ts) n up).1, lawful.0, goes_climbs E t ts n few up.1 lawful.1)

goes_covers : (E : Entries) (xs : List (Slot Target)) (n : ℕ) → n ≤ 2 ^ 40 → Covers xs n → AllLawful E xs n → Goes E xs n × Within xs n 0
goes_covers E [] n few up lawful = (few, tt)
goes_covers E (s ∷ ss) n few up lawful =
    (goes_climbs E s ss n few up.1 lawful, (omega (arith, up.0), omega (arith, up.0, (climbs_next s ss n up.1).0)))

-- a volume can be walked over from its first sector
pub goes_volume : (E : Entries) (h : Head) (xs : List (Slot Target)) → Volume E h xs → Goes E (take h.count xs) h.length × Within (take h.count xs) h.length 0
goes_volume E h xs v =
    goes_covers E (take h.count xs) h.length v.normal.bounded v.normal.covers v.lawful

module _ (E : Entries) (sound : Sound E) where
  module _ (s : Slot Target) (ss : List (Slot Target)) (n : ℕ) (goes : Goes E (s ∷ ss) n) where
    -- the lines of one extent
    tiles_extent : (w : ℕ → Outcome) → ((i : ℕ) → s.start ≤ i → i < next ss n → outcome_of E (place_of E (value_at shift_target s i)) ≡ w i) → Tiles w s.start (next ss n) (extent_lines (whole_of E s.value) (offset_of s.value) s.start (next ss n - s.start))
    tiles_extent w shows =
        extent_tiles (whole_of E s.value) (proper_shifted E sound s.value 0 (start_fair E s ss n goes)) (offset_of s.value) s.start (next ss n - s.start) (next ss n) w
        (omega (arith, goes.0))
        (λ i lo hi. maps_place E sound s.value (i - s.start) (start_fair E s ss n goes) (omega (arith, goes.1, goes_few E (s ∷ ss) n goes)) ∙ shows i lo hi)

  tiles_from : (ss : List (Slot Target)) (s : Slot Target) (n : ℕ) → Goes E (s ∷ ss) n → (w : ℕ → Outcome) → ((i : ℕ) → s.start ≤ i → i < n → outcome_of E (place_of E (value_from shift_target s ss i)) ≡ w i) → Tiles w s.start n (lines_from E (s ∷ ss) n)
  tiles_from [] s n goes w shows =
      tiles_then w s.start n n (extent_lines (whole_of E s.value) (offset_of s.value) s.start (n - s.start)) []
      (tiles_extent s [] n goes w shows) refl
  tiles_from (t ∷ ts) s n goes w shows =
      tiles_then w s.start t.start n (extent_lines (whole_of E s.value) (offset_of s.value) s.start (t.start - s.start)) (lines_from E (t ∷ ts) n)
      (tiles_extent s (t ∷ ts) n goes w
      (λ i lo hi. ap (λ v. outcome_of E (place_of E v)) (sym (from_before shift_target s t ts i hi)) ∙ shows i lo (omega (arith, goes.1))))
      (tiles_from ts t n goes.3 w
      (λ i lo hi. ap (λ v. outcome_of E (place_of E v)) (sym (from_after shift_target s t ts i lo)) ∙ shows i (omega (arith, goes.0)) hi))

  tiles_list : (xs : List (Slot Target)) (n : ℕ) → Covers xs n → Goes E xs n → Tiles (λ i. outcome_of E (place_of E (at shift_target xs Zero i))) 0 n (lines_from E xs n)
  tiles_list [] n up goes = sym up
  tiles_list (s ∷ ss) n up goes =
      rw (← up.0) (tiles_from ss s n goes _ (λ i lo hi. refl))

  pub volume_shows : (h : Head) (xs : List (Slot Target)) → Volume E h xs → ShowsPlaces E h xs
  volume_shows h xs v =
      tiles_list (take h.count xs) h.length v.normal.covers (goes_volume E h xs v).0
