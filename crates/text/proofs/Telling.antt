-- Prints tell places: equal texts have equal lines, and equal lines denote equal places; equal places come from equal slots.
use Rattle.std.proofs.Common.{◌≡◌, ℕ, ◌-◌, ◌%◌, ◌^◌, ◌<◌, ◌≤◌, true, eqb, List, [], ◌∷◌, ◌++◌, take, sym, refl, ap, ◌∙◌, inl, inr, arith, length}
use Rattle.std.proofs.lemmas.Nat.{mod_below}
use Rattle.std.proofs.lemmas.List.FromFn.{get_or-map-range_with_len}
use Rattle.std.proofs.ByRecursion.{All-append, All-from_get_or}
use Rattle.std.proofs.lemmas.Bool.{and_parts, eqb-true, cases_lt, cases_order}
use Rattle.std.specs.List.{AllByRecursion}
use Rattle.table.specs.declared.extent.Head.{Head}
use Rattle.table.specs.declared.extent.Slot.{Slot}
use Rattle.table.specs.Extents.{value_from, at, Covers, next}
use Rattle.table.specs.Laws.{SameSlots}
use Rattle.table.proofs.Alike.{from_before, from_after}
use Rattle.table.proofs.Unique.{equal_maps}
use Rattle.roster.specs.declared.entry.Entries.{Entries}
use Rattle.roster.specs.declared.place.Place.{Place}
use Rattle.roster.specs.declared.place.Place.TheVariants.{Zero as zero_place, Error as error_place, At}
use Rattle.roster.specs.declared.target.Target.{Target}
use Rattle.roster.specs.declared.target.Target.TheVariants.{Zero, Error, Linear, Striped}
use Rattle.roster.specs.Rosters.{no_device, no_set, device_at, set_at, Sound}
use Rattle.roster.specs.Places.{place_of, column_of, Fair, Volume}
use Rattle.roster.specs.Targets.{shift_target, same_target}
use Rattle.roster.proofs.Tells.{places_tell}
use Rattle.text.specs.Lines.{nowhere}
use Rattle.text.specs.Spelling.{text_of, SmallLine}
use Rattle.text.specs.Steps.{extent_lines}
use Rattle.text.specs.Printing.{spot_of, column_spot, column_spots, whole_of, offset_of, lines_from, lines_of, printed, place_at, outcome_of, SamePlaces, PrintsTellPlaces}
use Rattle.text.specs.Walks.{Goes}
use Rattle.text.proofs.Decoding.{text_same}
use Rattle.text.proofs.Geometry.{length_columns}
use Rattle.text.proofs.Kind.{target_laws}
use Rattle.text.proofs.Rosters.{size_small, proper_shifted}
use Rattle.text.proofs.Showing.{goes_volume, volume_shows}
use Rattle.text.proofs.Small.{Low, Modest, small_extent}
use Rattle.text.proofs.Stepping.{tiles_same}
use Rattle.text.proofs.Walking.{goes_few, start_fair}

-- same targets are sectors of one whole, and the same sector of it
same_whole : (E : Entries) (t u : Target) → same_target t u ≡ true → (whole_of E t ≡ whole_of E u) × (offset_of t ≡ offset_of u)
same_whole E Zero Zero e = (refl, refl)
same_whole E Zero Error e = (cc, cc)
same_whole E Zero (Linear d s) e = (cc, cc)
same_whole E Zero (Striped n o) e = (cc, cc)
same_whole E Error Zero e = (cc, cc)
same_whole E Error Error e = (refl, refl)
same_whole E Error (Linear d s) e = (cc, cc)
same_whole E Error (Striped n o) e = (cc, cc)
same_whole E (Linear d s) Zero e = (cc, cc)
same_whole E (Linear d s) Error e = (cc, cc)
same_whole E (Linear d s) (Linear f t) e =
    let parts = and_parts (eqb d f) (eqb (s % 2 ^ 64) (t % 2 ^ 64)) e in
    (ap (λ k. whole_of E (Linear k s)) (eqb-true d f parts.0), eqb-true (s % 2 ^ 64) (t % 2 ^ 64) parts.1)
same_whole E (Linear d s) (Striped n o) e = (cc, cc)
same_whole E (Striped n o) Zero e = (cc, cc)
same_whole E (Striped n o) Error e = (cc, cc)
same_whole E (Striped n o) (Linear d s) e = (cc, cc)
same_whole E (Striped n o) (Striped m p) e =
    let parts = and_parts (eqb n m) (eqb (o % 2 ^ 64) (p % 2 ^ 64)) e in
    (ap (λ k. whole_of E (Striped k o)) (eqb-true n m parts.0), eqb-true (o % 2 ^ 64) (p % 2 ^ 64) parts.1)

same_next : (xs ys : List (Slot Target)) (n : ℕ) → SameSlots same_target xs ys → next xs n ≡ next ys n
same_next [] [] n same = refl
same_next [] (t ∷ ts) n same = absurd same
same_next (s ∷ ss) [] n same = absurd same
same_next (s ∷ ss) (t ∷ ts) n same = same.0

-- slots that do not differ go out in equal lines
same_lines : (E : Entries) (xs ys : List (Slot Target)) (n : ℕ) → SameSlots same_target xs ys → lines_from E xs n ≡ lines_from E ys n
same_lines E [] [] n same = refl
same_lines E [] (t ∷ ts) n same = absurd same
same_lines E (s ∷ ss) [] n same = absurd same
same_lines E (s ∷ ss) (t ∷ ts) n same =
    let value = same_whole E s.value t.value same.1 in
    let end = same_next ss ts n same.2 in
    let rest = same_lines E ss ts n same.2 in
    λ i. extent_lines (value.0 i) (value.1 i) (same.0 i) (end i - same.0 i) ++ rest i

-- every sector of a volume has a fair target
fair_from : (E : Entries) (ss : List (Slot Target)) (s : Slot Target) (n : ℕ) → Goes E (s ∷ ss) n → (i : ℕ) → s.start ≤ i → i < n → Fair E (value_from shift_target s ss i)
fair_from E [] s n goes i lo hi = goes.2 (i - s.start) (omega arith)
fair_from E (t ∷ ts) s n goes i lo hi =
    elim (cases_lt i t.start) [
      | inl here ↦ rw (from_before shift_target s t ts i here) (goes.2 (i - s.start) (omega arith))
      | inr past ↦ rw (from_after shift_target s t ts i past) (fair_from E ts t n goes.3 i past hi)
    ]

fair_list : (E : Entries) (xs : List (Slot Target)) (n : ℕ) → Covers xs n → Goes E xs n → (i : ℕ) → i < n → Fair E (at shift_target xs Zero i)
fair_list E [] n up goes i hi = absurd (omega arith)
fair_list E (s ∷ ss) n up goes i hi = fair_from E ss s n goes i (omega (arith, up.0)) hi

module _ (E : Entries) (sound : Sound E) where
  -- the device of a place is listed
  abbrev Listing : Place → Type 0
  Listing zero_place = Unit {0}
  Listing error_place = Unit {0}
  Listing (At d s) = d < length E.devices.items

  listed_place : (t : Target) → Fair E t → Listing (place_of E t)
  listed_place Zero fair = tt
  listed_place Error fair = tt
  listed_place (Linear d s) fair = fair.0
  listed_place (Striped n o) fair =
      let shaped = sound.shaped n no_set fair.1 in
      (sound.housed n no_set fair.1 (column_of (set_at E n) o) (mod_below _ _ (omega (arith, shaped)))).0

  -- devices with the same numbers are one
  one_device : (d e : ℕ) → d < length E.devices.items → e < length E.devices.items → (device_at E d).major ≡ (device_at E e).major → (device_at E d).minor ≡ (device_at E e).minor → d ≡ e
  one_device d e ld le major minor =
      elim (cases_order d e) [
        | inl same ↦ same
        | inr other ↦
            elim other [
              | inl less ↦ absurd (sound.twins d e no_device less le (major, minor))
              | inr more ↦ absurd (sound.twins e d no_device more ld (sym major, sym minor))
            ]
      ]

  -- what the device-mapper sees of a place tells the place
  outcome_tells : (p q : Place) → Listing p → Listing q → outcome_of E p ≡ outcome_of E q → p ≡ q
  outcome_tells zero_place zero_place lp lq e = refl
  outcome_tells zero_place error_place lp lq e = cc
  outcome_tells zero_place (At d s) lp lq e = cc
  outcome_tells error_place zero_place lp lq e = cc
  outcome_tells error_place error_place lp lq e = refl
  outcome_tells error_place (At d s) lp lq e = cc
  outcome_tells (At d s) zero_place lp lq e = cc
  outcome_tells (At d s) error_place lp lq e = cc
  outcome_tells (At d s) (At f t) lp lq e =
      let spots : spot_of E d s ≡ spot_of E f t = cc in
      let device = one_device d f lp lq (ap (λ x. x.major) spots) (ap (λ x. x.minor) spots) in
      let sector : s ≡ t = ap (λ x. x.sector) spots in
      λ i. At (device i) (sector i)

  low_columns : (n : ℕ) → n < length E.sets.items → AllByRecursion Low (column_spots E (set_at E n))
  low_columns n listed =
      All-from_get_or Low (column_spots E (set_at E n)) nowhere
      (λ j less.
      let lt : j < (set_at E n).width = omega (arith, length_columns E (set_at E n)) in
      let here = sound.housed n no_set listed j lt in
      let device = sound.devices _ no_device here.0 in
      rw (get_or-map-range_with_len (column_spot E (set_at E n)) 0 (set_at E n).width j j nowhere lt (omega arith))
      (omega (arith, device), omega (arith, device), omega (arith, device, here.1)))

  -- numbers of fair targets are low
  modest_fair : (t : Target) → Fair E (shift_target t 0) → Modest (whole_of E t)
  modest_fair Zero fair = tt
  modest_fair Error fair = tt
  modest_fair (Linear d s) fair = let device = sound.devices d no_device fair.0 in (omega (arith, device), omega (arith, device), omega arith)
  modest_fair (Striped n o) fair =
      let shaped = sound.shaped n no_set fair.1 in
      (omega (arith, shaped, length_columns E (set_at E n)), omega (arith, shaped), low_columns n fair.1)

  offset_low : (t : Target) → Fair E (shift_target t 0) → offset_of t < 2 ^ 50
  offset_low Zero fair = omega arith
  offset_low Error fair = omega arith
  offset_low (Linear d s) fair = omega (arith, fair.2, (sound.devices d no_device fair.0).3)
  offset_low (Striped n o) fair = omega (arith, fair.2, size_small E sound n fair.1)

  small_list : (xs : List (Slot Target)) (n : ℕ) → Goes E xs n → AllByRecursion SmallLine (lines_from E xs n)
  small_list [] n goes = tt
  small_list (s ∷ ss) n goes =
      let fair = start_fair E s ss n goes in
      let few = goes_few E (s ∷ ss) n goes in
      All-append SmallLine (extent_lines (whole_of E s.value) (offset_of s.value) s.start (next ss n - s.start)) (lines_from E ss n)
      (small_extent (whole_of E s.value) (modest_fair s.value fair) (proper_shifted E sound s.value 0 fair) (offset_of s.value) s.start (next ss n - s.start)
      (omega (arith, offset_low s.value fair, goes.1)) (omega (arith, goes.0, goes.1)))
      (small_list ss n goes.3)

  module _ (g h : Head) (xs ys : List (Slot Target)) (v : Volume E g xs) (w : Volume E h ys) (level : g.length ≡ h.length) where
    fair_one : (i : ℕ) → i < g.length → Fair E (at shift_target (take g.count xs) Zero i)
    fair_one = fair_list E (take g.count xs) g.length v.normal.covers (goes_volume E g xs v).0

    fair_other : (i : ℕ) → i < g.length → Fair E (at shift_target (take h.count ys) Zero i)
    fair_other i less = fair_list E (take h.count ys) h.length w.normal.covers (goes_volume E h ys w).0 i (omega arith)

    texts_tell : printed E g xs ≡ printed E h ys → SamePlaces E g xs h ys
    texts_tell texts i less =
        let lines = text_same (lines_of E g xs) (lines_of E h ys) (small_list (take g.count xs) g.length (goes_volume E g xs v).0) (small_list (take h.count ys) h.length (goes_volume E h ys w).0) texts in
        let shows = volume_shows E sound h ys w in
        let other = rw (← lines, ← level) at shows in
        outcome_tells (place_at E g xs i) (place_at E h ys i) (listed_place _ (fair_one i less)) (listed_place _ (fair_other i less))
        (tiles_same _ _ 0 g.length (lines_of E g xs) (volume_shows E sound g xs v) other i (omega arith) less)

    places_tell_texts : SamePlaces E g xs h ys → printed E g xs ≡ printed E h ys
    places_tell_texts places =
        let covers = rw (← level) at w.normal.covers in
        let slots = equal_maps target_laws (take g.count xs) (take h.count ys) Zero g.length v.normal.covers v.normal.distinct covers w.normal.distinct (λ i less. places_tell E sound _ _ (fair_one i less) (fair_other i less) (places i less)) in
        ap text_of (same_lines E (take g.count xs) (take h.count ys) g.length slots ∙ ap (lines_from E (take h.count ys)) level)

  pub prints_tell_places : PrintsTellPlaces E
  prints_tell_places g h xs ys v w level = (texts_tell g h xs ys v w level, places_tell_texts g h xs ys v w level)
