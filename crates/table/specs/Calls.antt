-- What each call on a table owes: the answer, and what head and slots hold at the end.
use Rattle.std.specs.Prelude.{◌≡◌, ℕ, ◌+◌, ◌^◌, ◌<◌, ◌≤◌, Bool, List, length, take, drop, Result}
use Rattle.table.specs.declared.extent.Head.{Head}
use Rattle.table.specs.declared.extent.Slot.{Slot}
use Rattle.table.specs.declared.extent.Run.{Run}
use Rattle.table.specs.declared.refusal.Refusal.{Refusal}
use Rattle.table.specs.Extents.{at, Normal}
use Rattle.table.specs.Maps.{Map, Agree, Fits, appended, assigned, over}
use Rattle.table.specs.Checks.{Answers, Checks, check, end}
use Rattle.table.specs.Refusals.{number_of}

module _ {V : Type 0} (shift : V → ℕ → V) where
  -- the map of a table
  abbrev pub map_of : Head → List (Slot V) → Map V
  map_of h xs = at shift (take h.count xs)

module _ {V : Type 0} (shift : V → ℕ → V) (same : V → V → Bool) where
  -- What an accepted call leaves: a normal table of n sectors whose map agrees with m,
  -- and in the slots at or past its count what they held.
  pub record Leaves (m : Map V) (n : ℕ) (xs : List (Slot V)) (h' : Head) (xs' : List (Slot V)) : Type 0 where
    pub normal : Normal shift same h' xs'
    pub len : h'.length ≡ n
    pub map : Agree same m (map_of shift h' xs') n
    pub kept : drop h'.count xs' ≡ drop h'.count xs

  abbrev pub Kept : Head → List (Slot V) → Head → List (Slot V) → Type 0
  Kept h xs h' xs' = (h' ≡ h) × (xs' ≡ xs)

  -- The three calls that may want room. `room` is how they tell of its check: by `check`, or by `untold`.
  module _ (room : ℕ → Type 0 → Checks → Checks) where
    abbrev pub AppendsBy : Head → List (Slot V) → ℕ → V → Head → List (Slot V) → Result (Unit {0}) Refusal → Type 0
    AppendsBy h xs l v h' xs' r =
        let m : Map V = appended shift (map_of shift h xs) h.length v in
        let n : ℕ = h.length + l in
        Answers number_of (check 1 (0 < l) (check 2 (Normal shift same h xs) (check 4 (n ≤ 2 ^ 40) (room 11 (Fits shift same m n (length xs)) end))))
        (Kept h xs h' xs') (λ _. Leaves m n xs h' xs') r

    abbrev pub AssignsBy : Head → List (Slot V) → Run → V → Head → List (Slot V) → Result (Unit {0}) Refusal → Type 0
    AssignsBy h xs run v h' xs' r =
        let m : Map V = assigned shift (map_of shift h xs) run.start run.length v in
        let n : ℕ = h.length in
        Answers number_of (check 1 (0 < run.length) (check 2 (Normal shift same h xs) (check 3 (run.start + run.length ≤ n) (room 11 (Fits shift same m n (length xs)) end))))
        (Kept h xs h' xs') (λ _. Leaves m n xs h' xs') r

    abbrev pub OverlaysBy : (V → Bool) → Head → List (Slot V) → Head → List (Slot V) → Head → List (Slot V) → Head → List (Slot V) → Result (Unit {0}) Refusal → Type 0
    OverlaysBy clear t tops b bases h xs h' xs' r =
        let m : Map V = over clear (map_of shift t tops) (map_of shift b bases) in
        let n : ℕ = t.length in
        Answers number_of (check 2 (Normal shift same t tops × Normal shift same b bases) (check 9 (t.length ≡ b.length) (room 11 (Fits shift same m n (length xs)) end)))
        (Kept h xs h' xs') (λ _. Leaves m n xs h' xs') r

  abbrev pub Appends : Head → List (Slot V) → ℕ → V → Head → List (Slot V) → Result (Unit {0}) Refusal → Type 0
  Appends = AppendsBy check

  abbrev pub Assigns : Head → List (Slot V) → Run → V → Head → List (Slot V) → Result (Unit {0}) Refusal → Type 0
  Assigns = AssignsBy check

  abbrev pub Cuts : Head → List (Slot V) → ℕ → Head → List (Slot V) → Result (Unit {0}) Refusal → Type 0
  Cuts h xs n h' xs' r =
      let m : Map V = map_of shift h xs in
      Answers number_of (check 2 (Normal shift same h xs) (check 3 (n ≤ h.length) end))
      (Kept h xs h' xs') (λ _. Leaves m n xs h' xs') r

  abbrev pub Looks : Head → List (Slot V) → ℕ → Result V Refusal → Type 0
  Looks h xs i r =
      Answers number_of (check 2 (Normal shift same h xs) (check 3 (i < h.length) end))
      (Unit {0}) (λ v. (d : V) → v ≡ map_of shift h xs d i) r

  abbrev pub Overlays : (V → Bool) → Head → List (Slot V) → Head → List (Slot V) → Head → List (Slot V) → Head → List (Slot V) → Result (Unit {0}) Refusal → Type 0
  Overlays = OverlaysBy check
