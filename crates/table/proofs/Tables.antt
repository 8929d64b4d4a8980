-- From tables to pieces and back: what a call has to show of the list that it leaves.
use Rattle.std.proofs.Common.{◌≡◌, ℕ, ◌-◌, ◌^◌, ◌<◌, ◌≤◌, Bool, true, false, ◌==◌, List, [], ◌∷◌, ◌++◌, length, take, drop, Some, None, Option, Ok, Err, Result, OnOk, IfErr, sym, refl, subst, inl, inr, arith}
use Rattle.std.proofs.lemmas.List.{append-nil, length-take-le}
use Rattle.std.proofs.lemmas.Bool.{cases_lt}
use Rattle.std.specs.Option.{option_to_list}
use Rattle.table.specs.declared.extent.Head.{Head}
use Rattle.table.specs.declared.extent.Slot.{Slot}
use Rattle.table.specs.Kinds.{Laws}
use Rattle.table.specs.Extents.{at, Covers, Distinct}
use Rattle.table.specs.Maps.{Map, Fits}
use Rattle.table.specs.Checks.{Answers, check, end}
use Rattle.table.specs.Refusals.{number_of}
use Rattle.table.specs.declared.refusal.Refusal.{Refusal}
use Rattle.table.specs.declared.refusal.Refusal.TheVariants.{NoRoom}
use Rattle.table.specs.Calls.{Kept, Leaves}
use Rattle.table.specs.Steps.{Next, Splices}
use Rattle.table.proofs.Alike.{via, back, apart}
use Rattle.table.proofs.Unique.{least}
use Rattle.table.proofs.Pieces.{Part, Flat, part_from, part_append, part_one, part_on, normal_from}

-- what a call leaves shows that it fits
pub fits_of : {V : Type 0} {shift : V → ℕ → V} {same : V → V → Bool} (m : Map V) (n : ℕ) (xs xs' : List (Slot V)) (h' : Head) → Leaves shift same m n xs h' xs' → length xs' ≡ length xs → Fits shift same m n (length xs)
fits_of m n xs xs' h' left long =
    let many = length-take-le h'.count xs' left.normal.room in
    record { list = take h'.count xs'; writes = (rw left.len at left.normal.covers, left.map); few = omega (arith, left.normal.room) }

module _ {V : Type 0} {shift : V → ℕ → V} {same : V → V → Bool} {clear : V → Bool} (laws : Laws shift same clear) where
  -- a normal list is a part of its own map
  pub part_of : (xs : List (Slot V)) (d : V) (n : ℕ) → Covers xs n → Distinct shift same xs → Part shift same (at shift xs d) xs 0 n
  part_of [] d n up breaks = sym up
  part_of (s ∷ ss) d n up breaks =
      subst (λ (a : ℕ). Part shift same (at shift (s ∷ ss) d) (s ∷ ss) a n) up.0
      (part_from laws (at shift (s ∷ ss) d) ss s n up.1 breaks (λ i h. refl) (λ z. absurd (let k : ⊥ = omega (arith, up.0) in k)))

  module _ (m : ℕ → V) where
    -- and a part from 0 on is a normal list
    pub covers_of : (ys : List (Slot V)) (n : ℕ) → Part shift same m ys 0 n → Covers ys n
    covers_of [] n p = sym p
    covers_of (s ∷ ss) n p = (p.0, (normal_from laws m ss s 0 n p).0)

    pub distinct_of : (ys : List (Slot V)) (n : ℕ) → Part shift same m ys 0 n → Distinct shift same ys
    distinct_of [] n p = tt
    distinct_of (s ∷ ss) n p = (normal_from laws m ss s 0 n p).1

    pub agree_of : (ys : List (Slot V)) (d : V) (n : ℕ) → Part shift same m ys 0 n → (i : ℕ) → i < n → same (m i) (at shift ys d i) ≡ true
    agree_of [] d n p i h = absurd (let k : ⊥ = omega (arith, p) in k)
    agree_of (s ∷ ss) d n p i h = (normal_from laws m ss s 0 n p).2 i (omega arith) h

    -- a piece from p to q, as a slot of its own or joined to what is before
    pub part_next : (ys : List (Slot V)) (p q : ℕ) (x : V) (o : Option (Slot V)) → p < q → same (m p) x ≡ true → Flat shift same m p q → Next shift same m p x o → Part shift same m ys 0 p → Part shift same m (ys ++ option_to_list o) 0 q
    part_next ys p q x None up e flat next part =
        rw (append-nil ys) (part_on laws m ys 0 p q next.0 up (via laws next.1 (back laws e)) flat part)
    part_next ys p q x (Some s) up e flat next part =
        part_append laws m ys (s ∷ []) 0 p q part
        (part_one laws m s p q next.0 up (rw next.1 e) flat
        (λ z. apart laws (laws.same_self (shift (m (p - 1)) 1)) (back laws e) (next.2 z)))

    -- what is longer than the row shows that nothing that writes the map fits it
    pub none_fits : (zs : List (Slot V)) (d : V) (n row : ℕ) → Part shift same m zs 0 n → row < length zs → (ys : List (Slot V)) → Covers ys n → ((i : ℕ) → i < n → same (m i) (at shift ys d i) ≡ true) → row < length ys
    none_fits zs d n row part more ys covers agree =
        let short : length zs ≤ length ys = least laws zs ys d n (covers_of zs n part) (distinct_of zs n part) covers (λ i h. via laws (back laws (agree_of zs d n part i h)) (agree i h)) in
        omega arith

  -- a list that is a part of every version of a map from 0 on is normal
  pub parts_normal : (m : Map V) (n : ℕ) (zs : List (Slot V)) → (0 < n → V) → ((d : V) → Part shift same (m d) zs 0 n) → Covers zs n × Distinct shift same zs
  parts_normal m n [] some parts =
      (elim (cases_lt 0 n) [ inl lt ↦ sym (parts (some lt)) | inr le ↦ omega arith ], tt)
  parts_normal m n (s ∷ ss) some parts =
      (covers_of (m s.value) (s ∷ ss) n (parts s.value), distinct_of (m s.value) (s ∷ ss) n (parts s.value))

  pub some_value : (ys : List (Slot V)) (n : ℕ) → Covers ys n → 0 < n → V
  some_value [] n covers lt = absurd (let z : ⊥ = omega (arith, covers) in z)
  some_value (s ∷ ss) n covers lt = s.value

  module _ (m : Map V) (n : ℕ) where
    -- a list that is a part of the map, in the counted slots
    pub leaves : (xs xs' zs : List (Slot V)) (h' : Head) → h'.length ≡ n → n ≤ 2 ^ 40 → h'.count ≤ length xs' → take h'.count xs' ≡ zs → drop h'.count xs' ≡ drop h'.count xs → Covers zs n → Distinct shift same zs → ((d : V) → Part shift same (m d) zs 0 n) → Leaves shift same m n xs h' xs'
    leaves xs xs' zs h' len bounded room is kept covers distinct parts =
        record {
          normal = record { room = room; bounded = omega arith; covers = rw (is, len) covers; distinct = rw is distinct };
          len = len;
          map = λ d i h. rw is (agree_of (m d) zs d n (parts d) i h);
          kept = kept;
        }

    -- the same where a value is at hand
    pub leaves_at : (v : V) (xs xs' zs : List (Slot V)) (h' : Head) → h'.length ≡ n → n ≤ 2 ^ 40 → h'.count ≤ length xs' → take h'.count xs' ≡ zs → drop h'.count xs' ≡ drop h'.count xs → ((d : V) → Part shift same (m d) zs 0 n) → Leaves shift same m n xs h' xs'
    leaves_at v xs xs' zs h' len bounded room is kept parts =
        leaves xs xs' zs h' len bounded room is kept (covers_of (m v) zs n (parts v)) (distinct_of (m v) zs n (parts v)) parts

    pub none_fits_at : (v : V) (zs : List (Slot V)) (row : ℕ) → ((d : V) → Part shift same (m d) zs 0 n) → row < length zs → Fits shift same m n row → ⊥
    none_fits_at v zs row parts more fits =
        let longer = none_fits (m v) zs v n row (parts v) more fits.list fits.writes.0 (fits.writes.1 v) in
        omega (arith, longer, fits.few)

    -- what a splice answers whose slots are a part of the map, behind three checks that were passed
    pub spliced_answers : (v : V) (xs xs' zs : List (Slot V)) (h h' : Head) (A B C : Type 0) (k : ℕ) → (11 == k) ≡ false → (r : Result (Unit {0}) Refusal) → ((d : V) → Part shift same (m d) zs 0 n) → n ≤ 2 ^ 40 → length xs' ≡ length xs → OnOk r ((h'.length ≡ n) × Splices xs zs xs' h'.count) → IfErr r (λ e. (e ≡ NoRoom) × (h' ≡ h) × (xs' ≡ xs) × (length xs < length zs)) → A → B → C → Answers number_of (check 1 A (check 2 B (check k C (check 11 (Fits shift same m n (length xs)) end)))) (Kept shift same h xs h' xs') (λ _. Leaves shift same m n xs h' xs') r
    spliced_answers v xs xs' zs h h' A B C k other (Ok u) parts bounded long done full a b c =
        let left = leaves_at v xs xs' zs h' done.0 bounded done.1.room done.1.front done.1.kept parts in
        (left, (a, (b, (c, (fits_of m n xs xs' h' left long, tt)))))
    spliced_answers v xs xs' zs h h' A B C k other (Err e) parts bounded long done full a b c =
        rw (full.0, other) ((full.1, full.2), (a, (b, (c, none_fits_at v zs (length xs) parts full.3))))
