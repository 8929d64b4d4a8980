-- A value from a sector on: how it goes on from what is before, and what an append leaves.
use Rattle.std.proofs.Common.{◌≡◌, ℕ, ◌+◌, ◌-◌, ◌^◌, ◌<◌, ◌≤◌, Bool, true, ltb, List, ◌++◌, length, take, Some, None, Option, OnOk, IfErr, Result, refl, arith}
use Rattle.std.proofs.lemmas.List.{append-nil, drop_all, length-take-le}
use Rattle.std.proofs.lemmas.Bool.{cond-true, cond-false, lt-ltb, le-ltb}
use Rattle.std.specs.Option.{option_to_list}
use Rattle.table.specs.declared.extent.Head.{Head}
use Rattle.table.specs.declared.extent.Slot.{Slot}
use Rattle.table.specs.declared.refusal.Refusal.{Refusal}
use Rattle.table.specs.declared.refusal.Refusal.TheVariants.{NoRoom}
use Rattle.table.specs.declared.row.Plan.{Plan}
use Rattle.table.specs.Kinds.{Laws}
use Rattle.table.specs.Extents.{value_at, at, Normal}
use Rattle.table.specs.Maps.{appended}
use Rattle.table.specs.Calls.{map_of, Appends}
use Rattle.table.specs.Steps.{Next, planned, Splices}
use Rattle.table.proofs.Alike.{goes_on, back}
use Rattle.table.proofs.Pieces.{Part, Flat, part_like}
use Rattle.table.proofs.Tables.{part_of, part_next, spliced_answers}

module _ {V : Type 0} {shift : V → ℕ → V} {same : V → V → Bool} {clear : V → Bool} (laws : Laws shift same clear) where
  -- another map that has the same value before p
  pub next_like : (m w : ℕ → V) (p : ℕ) (x : V) (o : Option (Slot V)) → (0 < p → w (p - 1) ≡ m (p - 1)) → Next shift same m p x o → Next shift same w p x o
  next_like m w p x None e next = (next.0, rw (e next.0) next.1)
  next_like m w p x (Some s) e next = (next.0, next.1, λ up. rw (e up) (next.2 up))

  -- whether the extent before p goes on with x there, as the extent itself tells
  pub last_tells : (s : Slot V) (m : ℕ → V) (p : ℕ) → 0 < p → s.start ≤ p - 1 → value_at shift s (p - 1) ≡ m (p - 1) → same (shift (m (p - 1)) 1) (value_at shift s p) ≡ true
  last_tells s m p up le e =
      let one : p - (p - 1) ≡ 1 = omega arith in
      rw (e, one) at (goes_on laws s (p - 1) p le (omega arith))

  -- a run of x from p to q
  module _ (w : ℕ → V) (p q : ℕ) (x : V) (is : (i : ℕ) → p ≤ i → i < q → w i ≡ shift x (i - p)) where
    pub run_first : p < q → same (w p) x ≡ true
    run_first up =
        let none : p - p ≡ 0 = omega arith in
        rw (is p (omega arith) up, none) (laws.shift_none x)

    pub run_flat : Flat shift same w p q
    run_flat i h k =
        let sum : (p - p) + (i - p) ≡ i - p = omega arith in
        rw (is i h k, is p (omega arith) (omega arith)) (back laws (rw sum at (laws.shift_more x (p - p) (i - p))))

  -- what an append writes, with its last piece or without
  pub append_parts : (h : Head) (xs : List (Slot V)) (l : ℕ) (v : V) (o : Option (Slot V)) → Normal shift same h xs → 0 < l → ((d : V) → Next shift same (map_of shift h xs d) h.length v o) → (d : V) → Part shift same (appended shift (map_of shift h xs) h.length v d) (take h.count xs ++ option_to_list o) 0 (h.length + l)
  append_parts h xs l v o normal more next d =
      part_next laws w ys n (n + l) v o (omega arith) (run_first w n (n + l) v new (omega arith)) (run_flat w n (n + l) v new)
      (next_like m w n v o (λ up. old (n - 1) (omega arith)) (next d))
      (part_like laws m w ys 0 n 0 (omega arith) (λ z. z) (λ i a b. old i b) (part_of laws ys d n normal.covers normal.distinct))
    where
      n : ℕ
      n = h.length

      ys : List (Slot V)
      ys = take h.count xs

      m : ℕ → V
      m = map_of shift h xs d

      w : ℕ → V
      w = appended shift (map_of shift h xs) h.length v d

      old : (i : ℕ) → i < n → w i ≡ m i
      old i lt = cond-true (ltb i h.length) (m i) (shift v (i - h.length)) (lt-ltb i h.length lt)

      new : (i : ℕ) → n ≤ i → i < n + l → w i ≡ shift v (i - n)
      new i le lt = cond-false (ltb i h.length) (m i) (shift v (i - h.length)) (le-ltb i h.length le)

  -- an append, by what its splice answers
  pub append_answers : (h : Head) (xs ys : List (Slot V)) (n l : ℕ) (v : V) (o : Option (Slot V)) (h' : Head) (xs' : List (Slot V)) (r : Result (Unit {0}) Refusal) → ys ≡ take h.count xs → n ≡ h.length → Normal shift same h xs → 0 < l → h.length + l ≤ 2 ^ 40 → ((d : V) → Next shift same (at shift ys d) n v o) → length xs' ≡ length xs →
      let p : Plan V = record { front = h.count; middle = o; tail = None; back = h.count; length = n + l } in
      OnOk r ((h'.length ≡ n + l) × Splices xs (planned xs h.count p) xs' h'.count) → IfErr r (λ e. (e ≡ NoRoom) × (h' ≡ h) × (xs' ≡ xs) × (length xs < length (planned xs h.count p))) → Appends shift same h xs l v h' xs' r
  append_answers h xs ys n l v o h' xs' r slots long normal more bounded next same_length done full =
      let p : Plan V = record { front = h.count; middle = o; tail = None; back = h.count; length = h.length + l } in
      let pushed : planned xs h.count p ≡ take h.count xs ++ option_to_list o = rw (drop_all h.count (take h.count xs) (omega (arith, length-take-le h.count xs normal.room)), append-nil (option_to_list o)) refl in
      spliced_answers laws (appended shift (map_of shift h xs) h.length v) (h.length + l) v xs xs' (planned xs h.count p) h h' _ _ _ 4 refl r
      (λ d. rw pushed (append_parts h xs l v o normal more (rw (slots, long) at next) d)) bounded same_length (rw long at done) full more normal bounded
