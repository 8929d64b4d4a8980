-- What an assign leaves: the pieces before, in and behind the run, and what is past them.
use Rattle.std.proofs.Common.{◌≡◌, ℕ, ◌+◌, ◌-◌, ◌<◌, ◌≤◌, Bool, ltb, List, [], ◌∷◌, ◌++◌, length, take, drop, OnOk, IfErr, Result, refl, ap, ◌∙◌, subst, inl, inr, arith}
use Rattle.std.proofs.lemmas.List.{append-nil, append_assoc, drop_all}
use Rattle.std.proofs.lemmas.Bool.{cases_lt, cond-true, cond-false, lt-ltb, le-ltb}
use Rattle.std.specs.Option.{option_to_list}
use Rattle.table.specs.declared.extent.Head.{Head}
use Rattle.table.specs.declared.extent.Run.{Run}
use Rattle.table.specs.declared.extent.Slot.{Slot}
use Rattle.table.specs.declared.refusal.Refusal.{Refusal}
use Rattle.table.specs.declared.refusal.Refusal.TheVariants.{NoRoom}
use Rattle.table.specs.declared.row.Plan.{Plan}
use Rattle.table.specs.Kinds.{Laws}
use Rattle.table.specs.Extents.{before, Climbs, Covers, Normal}
use Rattle.table.specs.Maps.{Map, assigned}
use Rattle.table.specs.Calls.{map_of, Assigns}
use Rattle.table.specs.Steps.{Plans, planned, Splices}
use Rattle.table.proofs.Alike.{same_is, climbs_below}
use Rattle.table.proofs.Pieces.{begin, Part, Flat, part_le, part_like, part_append, part_drop, part_flat, begin_drop, before_below, before_above}
use Rattle.table.proofs.Tables.{part_of, part_next, spliced_answers}
use Rattle.table.proofs.Finding.{front_counted}
use Rattle.table.proofs.Ends.{next_like, run_first, run_flat}

module _ {V : Type 0} where
  pub before_mono : (a b : ℕ) (xs : List (Slot V)) → a ≤ b → before a xs ≤ before b xs
  before_mono a b [] le = omega arith
  before_mono a b (s ∷ ss) le =
      elim (cases_lt s.start a) [
        | inl h ↦ let rest = before_mono a b ss le in rw (before_below s ss a h, before_below s ss b (omega arith)) (omega arith)
        | inr h ↦ rw (before_above (s ∷ ss) 0 a h) (omega arith)
      ]

  -- every slot of a table starts below its end
  all_before : (ss : List (Slot V)) (s : Slot V) (n : ℕ) → Climbs s ss n → length (s ∷ ss) ≤ before (n + 1) (s ∷ ss)
  all_before [] s n up = rw (before_below s [] (n + 1) (omega (arith, up))) (omega arith)
  all_before (t ∷ ts) s n up =
      let rest = all_before ts t n up.1 in
      let lt : s.start < n = climbs_below s (t ∷ ts) n up in
      rw (before_below s (t ∷ ts) (n + 1) (omega arith)) (omega (arith, rest))

  pub past_end : (ys : List (Slot V)) (n : ℕ) → Covers ys n → drop (before (n + 1) ys) ys ≡ []
  past_end [] n covers = refl
  past_end (s ∷ ss) n covers = drop_all (before (n + 1) (s ∷ ss)) (s ∷ ss) (all_before ss s n covers.1)

module _ {V : Type 0} {shift : V → ℕ → V} {same : V → V → Bool} {clear : V → Bool} (laws : Laws shift same clear) where
  flat_like : (m w : ℕ → V) (a b : ℕ) → ((i : ℕ) → a ≤ i → i < b → w i ≡ m i) → Flat shift same m a b → Flat shift same w a b
  flat_like m w a b e flat i h k = rw (e i h k, e a (omega arith) (omega arith)) (flat i h k)

  -- a map with a run that is given the value v
  module _ (m : Map V) (run : Run) (v d : V) where
    abbrev new : ℕ → V
    new = assigned shift m run.start run.length v d

    below : (i : ℕ) → i < run.start → new i ≡ m d i
    below i lt = cond-true (ltb i run.start) (m d i) _ (lt-ltb i run.start lt)

    within : (i : ℕ) → run.start ≤ i → i < run.start + run.length → new i ≡ shift v (i - run.start)
    within i le lt =
        cond-false (ltb i run.start) (m d i) _ (le-ltb i run.start le)
        ∙ cond-true (ltb i (run.start + run.length)) (shift v (i - run.start)) (m d i) (lt-ltb i (run.start + run.length) lt)

    above : (i : ℕ) → run.start + run.length ≤ i → new i ≡ m d i
    above i le =
        cond-false (ltb i run.start) (m d i) _ (le-ltb i run.start (omega arith))
        ∙ cond-false (ltb i (run.start + run.length)) (shift v (i - run.start)) (m d i) (le-ltb i (run.start + run.length) le)

  module _ (h : Head) (xs : List (Slot V)) (run : Run) (v : V) (normal : Normal shift same h xs) (filled : 0 < run.length) (inside : run.start + run.length ≤ h.length) where
    abbrev was : V → ℕ → V
    was = map_of shift h xs

    abbrev becomes : V → ℕ → V
    becomes d = new (map_of shift h xs) run v d

    module _ (p : Plan V) (plans : Plans shift same h.length (take h.count xs) run v p) where
      up_to_run : (d : V) → Part shift same (becomes d) (take p.front xs ++ option_to_list p.middle) 0 (run.start + run.length)
      up_to_run d =
          let a : ℕ = run.start in
          let b : ℕ = run.start + run.length in
          part_next laws (becomes d) (take p.front xs) a b v p.middle (omega arith)
          (run_first laws (becomes d) a b v (within was run v d) (omega arith)) (run_flat laws (becomes d) a b v (within was run v d))
          (next_like laws (was d) (becomes d) a v p.middle (λ up. below was run v d (a - 1) (omega arith)) (plans.middle d))
          (part_like laws (was d) (becomes d) (take p.front xs) 0 a 0 (omega arith) (λ z. z) (λ i x y. below was run v d i y)
          (rw plans.front (front_counted laws h xs a normal (omega arith) d)))

      abbrev counted : List (Slot V)
      counted = take h.count xs

      abbrev past : List (Slot V)
      past = drop (before (run.start + run.length + 1) counted) counted

      -- the run is not the end of the table
      goes_past : run.start + run.length < h.length → (d : V) → Part shift same (becomes d) ((take p.front xs ++ option_to_list p.middle) ++ (option_to_list p.tail ++ past)) 0 h.length
      goes_past lt d =
          let b : ℕ = run.start + run.length in
          let n : ℕ = h.length in
          let whole = part_of laws counted d n normal.covers normal.distinct in
          let c : ℕ = begin past n in
          let later : b + 1 ≤ c = begin_drop laws (was d) counted 0 n (b + 1) (omega arith) whole in
          let rest = part_drop laws (was d) counted 0 n (before (b + 1) counted) whole in
          let ends : c ≤ n = part_le laws (was d) past c n rest in
          rw (← append_assoc (take p.front xs ++ option_to_list p.middle) (option_to_list p.tail) past)
          (part_append laws (becomes d) ((take p.front xs ++ option_to_list p.middle) ++ option_to_list p.tail) past 0 c n
          (part_next laws (becomes d) (take p.front xs ++ option_to_list p.middle) b c (was d b) p.tail (omega arith)
          (same_is laws (becomes d b) (was d b) (above was run v d b (omega arith)))
          (flat_like (was d) (becomes d) b c (λ i x y. above was run v d i x) (part_flat laws (was d) counted 0 n b (omega arith) lt whole))
          (plans.tail.goes lt d) (up_to_run d))
          (part_like laws (was d) (becomes d) past c n b (omega arith) (λ z. omega arith) (λ i x y. above was run v d i x) rest))

      -- the run is the end of the table
      ends_there : h.length ≤ run.start + run.length → (d : V) → Part shift same (becomes d) ((take p.front xs ++ option_to_list p.middle) ++ (option_to_list p.tail ++ past)) 0 h.length
      ends_there le d =
          let e : run.start + run.length ≡ h.length = omega arith in
          let none : past ≡ [] = ap (λ (j : ℕ). drop (before (j + 1) counted) counted) e ∙ past_end counted h.length normal.covers in
          rw (none, plans.tail.ends le, append-nil (take p.front xs ++ option_to_list p.middle)) (subst (Part shift same (becomes d) (take p.front xs ++ option_to_list p.middle) 0) e (up_to_run d))

      pub assign_parts : (d : V) → Part shift same (becomes d) (planned xs h.count p) 0 h.length
      assign_parts d =
          rw (plans.back, ← append_assoc (take p.front xs) (option_to_list p.middle) (option_to_list p.tail ++ past))
          (elim (cases_lt (run.start + run.length) h.length) [ inl lt ↦ goes_past lt d | inr le ↦ ends_there le d ])

  -- an assign, by what its splice answers
  pub assign_answers : (h : Head) (xs ys : List (Slot V)) (n : ℕ) (run : Run) (v : V) (p : Plan V) (h' : Head) (xs' : List (Slot V)) (r : Result (Unit {0}) Refusal) → ys ≡ take h.count xs → n ≡ h.length → Normal shift same h xs → 0 < run.length → run.start + run.length ≤ h.length → Plans shift same n ys run v p → length xs' ≡ length xs →
      OnOk r ((h'.length ≡ p.length) × Splices xs (planned xs h.count p) xs' h'.count) → IfErr r (λ e. (e ≡ NoRoom) × (h' ≡ h) × (xs' ≡ xs) × (length xs < length (planned xs h.count p))) → Assigns shift same h xs run v h' xs' r
  assign_answers h xs ys n run v p h' xs' r slots long normal filled inside plan same_length done full =
      let plans : Plans shift same h.length (take h.count xs) run v p = rw (slots, long) at plan in
      spliced_answers laws (assigned shift (map_of shift h xs) run.start run.length v) h.length v xs xs' (planned xs h.count p) h h' _ _ _ 3 refl r
      (assign_parts h xs run v normal filled inside p plans) normal.bounded same_length (rw plans.len at done) full filled normal inside
