-- What each call on a volume owes: the answer, and what head and slots hold at the end.
use Rattle.std.specs.Prelude.{◌≡◌, ℕ, ◌+◌, ◌^◌, ◌<◌, ◌≤◌, List, length, Result}
use Rattle.table.specs.declared.extent.Head.{Head}
use Rattle.table.specs.declared.extent.Slot.{Slot}
use Rattle.table.specs.declared.extent.Run.{Run}
use Rattle.table.specs.Checks.{Answers, check, end}
use Rattle.table.specs.Maps.{Map, Fits, appended, assigned, over}
use Rattle.table.specs.Calls.{map_of, Leaves, Kept}
use Rattle.table.specs.Laws.{Call}
use Rattle.table.specs.Laws.Call.{append, assign, cut, overlay}
use Rattle.roster.specs.declared.entry.Entries.{Entries}
use Rattle.roster.specs.declared.place.Place.{Place}
use Rattle.roster.specs.declared.refusal.RosterRefusal.{RosterRefusal}
use Rattle.roster.specs.declared.target.Target.{Target}
use Rattle.roster.specs.Targets.{shift_target, same_target, clear_target}
use Rattle.roster.specs.Places.{place_of, Volume}
use Rattle.roster.specs.Refusals.{number_of}
use Rattle.roster.specs.Judgements.{target_checks}

module _ (E : Entries) where
  -- What an accepted call leaves: a table of n sectors whose map agrees with m, and again a volume.
  abbrev pub Makes : Map Target → ℕ → List (Slot Target) → Head → List (Slot Target) → Type 0
  Makes m n xs h' xs' = Leaves shift_target same_target m n xs h' xs' × Volume E h' xs'

  -- append of l sectors with the target t
  abbrev pub AppendsVolume : Head → List (Slot Target) → ℕ → Target → Head → List (Slot Target) → Result (Unit {0}) RosterRefusal → Type 0
  AppendsVolume h xs l t h' xs' r =
      let m : Map Target = appended shift_target (map_of shift_target h xs) h.length t in
      let n : ℕ = h.length + l in
      Answers number_of (check 1 (0 < l) (check 2 (Volume E h xs) (check 4 (n ≤ 2 ^ 40) (target_checks E t l (check 11 (Fits shift_target same_target m n (length xs)) end)))))
      (Kept shift_target same_target h xs h' xs') (λ _. Makes m n xs h' xs') r

  -- assign of the target t to a run
  abbrev pub AssignsVolume : Head → List (Slot Target) → Run → Target → Head → List (Slot Target) → Result (Unit {0}) RosterRefusal → Type 0
  AssignsVolume h xs run t h' xs' r =
      let m : Map Target = assigned shift_target (map_of shift_target h xs) run.start run.length t in
      let n : ℕ = h.length in
      Answers number_of (check 1 (0 < run.length) (check 2 (Volume E h xs) (check 3 (run.start + run.length ≤ n) (target_checks E t run.length (check 11 (Fits shift_target same_target m n (length xs)) end)))))
      (Kept shift_target same_target h xs h' xs') (λ _. Makes m n xs h' xs') r

  -- cut to n sectors
  abbrev pub CutsVolume : Head → List (Slot Target) → ℕ → Head → List (Slot Target) → Result (Unit {0}) RosterRefusal → Type 0
  CutsVolume h xs n h' xs' r =
      Answers number_of (check 2 (Volume E h xs) (check 3 (n ≤ h.length) end))
      (Kept shift_target same_target h xs h' xs') (λ _. Makes (map_of shift_target h xs) n xs h' xs') r

  -- overlay of a top on a base into a third table
  abbrev pub OverlaysVolume : Head → List (Slot Target) → Head → List (Slot Target) → Head → List (Slot Target) → Head → List (Slot Target) → Result (Unit {0}) RosterRefusal → Type 0
  OverlaysVolume t tops b bases h xs h' xs' r =
      let m : Map Target = over clear_target (map_of shift_target t tops) (map_of shift_target b bases) in
      let n : ℕ = t.length in
      Answers number_of (check 2 (Volume E t tops × Volume E b bases) (check 9 (t.length ≡ b.length) (check 11 (Fits shift_target same_target m n (length xs)) end)))
      (Kept shift_target same_target h xs h' xs') (λ _. Makes m n xs h' xs') r

  -- a call on a volume does what its contract says, and a cut leaves every slot
  abbrev pub DoesVolume : Call Target → Head → List (Slot Target) → Head → List (Slot Target) → Result (Unit {0}) RosterRefusal → Type 0
  DoesVolume (append l t) h xs h' xs' r = AppendsVolume h xs l t h' xs' r
  DoesVolume (assign run t) h xs h' xs' r = AssignsVolume h xs run t h' xs' r
  DoesVolume (cut n) h xs h' xs' r = CutsVolume h xs n h' xs' r × (xs' ≡ xs)
  DoesVolume (overlay t tops b bases) h xs h' xs' r = OverlaysVolume t tops b bases h xs h' xs' r

  -- where a sector of a volume lies
  abbrev pub Locates : Head → List (Slot Target) → ℕ → Result Place RosterRefusal → Type 0
  Locates h xs i r =
      Answers number_of (check 2 (Volume E h xs) (check 3 (i < h.length) end))
      (Unit {0}) (λ p. (d : Target) → p ≡ place_of E (map_of shift_target h xs d i)) r
