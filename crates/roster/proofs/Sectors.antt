-- A table of targets is lawful in every extent exactly if it is fair at every sector, so what a call leaves is judged sector by sector.
use Rattle.std.proofs.Common.{◌≡◌, ℕ, ◌+◌, ◌-◌, ◌%◌, ◌^◌, ◌<◌, ◌≤◌, true, cond, eqb, ltb, List, [], ◌∷◌, take, sym, refl, ◌∙◌, subst, mod-lt, mod-eq_of_lt, arith}
use Rattle.std.proofs.lemmas.Bool.{ltb-true, ltb-false, lt-ltb, le-ltb, eqb-true, and_parts, cond_both, cond-true, cond-false, false≢true}
use Rattle.table.specs.declared.extent.Head.{Head}
use Rattle.table.specs.declared.extent.Slot.{Slot}
use Rattle.table.specs.Extents.{value_at, value_from, at, Climbs, Covers, Normal}
use Rattle.table.specs.Maps.{Map, appended, assigned, over}
use Rattle.table.specs.Calls.{map_of, Leaves}
use Rattle.roster.specs.declared.entry.Entries.{Entries}
use Rattle.roster.specs.declared.target.Target.{Target}
use Rattle.roster.specs.declared.target.Target.TheVariants.{Zero, Error, Linear, Striped}
use Rattle.roster.specs.Targets.{shift_target, same_target, clear_target}
use Rattle.roster.specs.Places.{Fair, Lawful, AllLawful, Volume}

-- sector and offset have 64 bits
abbrev pub Reduced : Target → Type 0
Reduced (Linear d s) = s < 2 ^ 64
Reduced (Striped n o) = o < 2 ^ 64
Reduced _ = Unit {0}

reduced_shift : (t : Target) (k : ℕ) → Reduced (shift_target t k)
reduced_shift Zero k = tt
reduced_shift Error k = tt
reduced_shift (Linear d s) k = mod-lt (s + k) (omega arith)
reduced_shift (Striped n o) k = mod-lt (o + k) (omega arith)

wrapped_same : (a b : ℕ) → a < 2 ^ 64 → b < 2 ^ 64 → eqb (a % 2 ^ 64) (b % 2 ^ 64) ≡ true → a ≡ b
wrapped_same a b p q e = sym (mod-eq_of_lt p) ∙ eqb-true _ _ e ∙ mod-eq_of_lt q

-- of targets that code can hold, same ones are equal
same_equal : (t u : Target) → Reduced t → Reduced u → same_target t u ≡ true → t ≡ u
same_equal Zero Zero p q e = refl
same_equal Error Error p q e = refl
same_equal (Linear d s) (Linear d' s') p q e =
    let h = and_parts (eqb d d') (eqb (s % 2 ^ 64) (s' % 2 ^ 64)) e in
    let x : d ≡ d' = eqb-true d d' h.0 in
    let y : s ≡ s' = wrapped_same s s' p q h.1 in cc
same_equal (Striped n o) (Striped n' o') p q e =
    let h = and_parts (eqb n n') (eqb (o % 2 ^ 64) (o' % 2 ^ 64)) e in
    let x : n ≡ n' = eqb-true n n' h.0 in
    let y : o ≡ o' = wrapped_same o o' p q h.1 in cc
same_equal _ _ p q e = absurd (false≢true e)

climbs_top : (s : Slot Target) (ss : List (Slot Target)) (n : ℕ) → Climbs s ss n → s.start < n
climbs_top s [] n up = up
climbs_top s (t ∷ ts) n up = omega (arith, up.0, climbs_top t ts n up.1)

module _ (E : Entries) where
  -- a target that code can hold, and that is fair for its sector
  abbrev pub Good : Target → Type 0
  Good t = Fair E t × Reduced t

  -- a map that is good at every sector below n
  abbrev pub GoodMap : Map Target → ℕ → Type 0
  GoodMap m n = (d : Target) (i : ℕ) → i < n → Good (m d i)

  good_same : (t u : Target) → Reduced u → same_target t u ≡ true → Good t → Good u
  good_same t u r e g = subst Good (same_equal t u g.1 r e) g

  pub good_shift : (t : Target) (l k : ℕ) → Lawful E t l → k < l → Good (shift_target t k)
  good_shift t l k lawful lt = (lawful k lt, reduced_shift t k)

  -- from extents to sectors
  lawful_at : (s : Slot Target) (ss : List (Slot Target)) (n : ℕ) → Climbs s ss n → AllLawful E (s ∷ ss) n → (i : ℕ) → s.start ≤ i → i < n → Good (value_from shift_target s ss i)
  lawful_at s [] n up all i from below = good_shift s.value (n - s.start) (i - s.start) all.0 (omega arith)
  lawful_at s (t ∷ ts) n up all i from below =
      cond_both (ltb i t.start) (value_at shift_target s i) (value_from shift_target t ts i) Good
      (λ e. let lt : i < t.start = ltb-true i t.start e in good_shift s.value (t.start - s.start) (i - s.start) all.0 (omega arith))
      (λ e. lawful_at t ts n up.1 all.1 i (ltb-false i t.start e) below)

  -- and back
  fair_run : (s : Slot Target) (l : ℕ) → ((i : ℕ) → s.start ≤ i → i < s.start + l → Good (value_at shift_target s i)) → Lawful E s.value l
  fair_run s l good k lt =
      let e : (s.start + k) - s.start ≡ k = omega arith in
      subst (λ m. Fair E (shift_target s.value m)) e (good (s.start + k) (omega arith) (omega arith)).0

  at_lawful : (s : Slot Target) (ss : List (Slot Target)) (n : ℕ) → Climbs s ss n → ((i : ℕ) → s.start ≤ i → i < n → Good (value_from shift_target s ss i)) → AllLawful E (s ∷ ss) n
  at_lawful s [] n up good = (fair_run s (n - s.start) (λ i p q. good i p (omega arith)), tt)
  at_lawful s (t ∷ ts) n up good =
      let top = climbs_top t ts n up.1 in (
        fair_run s (t.start - s.start)
            (λ i p q. let lt : i < t.start = omega (arith, up.0) in
            subst Good (cond-true (ltb i t.start) (value_at shift_target s i) (value_from shift_target t ts i) (lt-ltb i t.start lt)) (good i p (omega (arith, top)))),
        at_lawful t ts n up.1
            (λ i p q. subst Good (cond-false (ltb i t.start) (value_at shift_target s i) (value_from shift_target t ts i) (le-ltb i t.start p)) (good i (omega (arith, up.0)) q)),
      )

  good_list : (ys : List (Slot Target)) (n : ℕ) → Covers ys n → AllLawful E ys n → GoodMap (at shift_target ys) n
  good_list [] n up all d i lt = absurd (let z : ⊥ = omega (arith, up) in z)
  good_list (s ∷ ss) n up all d i lt = lawful_at s ss n up.1 all i (omega (arith, up.0)) lt

  list_good : (ys : List (Slot Target)) (n : ℕ) → Covers ys n → GoodMap (at shift_target ys) n → AllLawful E ys n
  list_good [] n up good = tt
  list_good (s ∷ ss) n up good = at_lawful s ss n up.1 (λ i p q. good Zero i q)

  reduced_from : (s : Slot Target) (ss : List (Slot Target)) (i : ℕ) → Reduced (value_from shift_target s ss i)
  reduced_from s [] i = reduced_shift s.value (i - s.start)
  reduced_from s (t ∷ ts) i =
      cond_both (ltb i t.start) (value_at shift_target s i) (value_from shift_target t ts i) Reduced
      (λ _. reduced_shift s.value (i - s.start)) (λ _. reduced_from t ts i)

  reduced_at : (ys : List (Slot Target)) (n : ℕ) → Covers ys n → (d : Target) (i : ℕ) → i < n → Reduced (at shift_target ys d i)
  reduced_at [] n up d i lt = absurd (let z : ⊥ = omega (arith, up) in z)
  reduced_at (s ∷ ss) n up d i lt = reduced_from s ss i

  -- a volume is good at every sector
  pub volume_good : (h : Head) (xs : List (Slot Target)) → Volume E h xs → GoodMap (map_of shift_target h xs) h.length
  volume_good h xs v = good_list (take h.count xs) h.length v.normal.covers v.lawful

  -- and a normal table that is fair at every sector is a volume
  pub fair_volume : (h : Head) (xs : List (Slot Target)) → Normal shift_target same_target h xs → ((d : Target) (i : ℕ) → i < h.length → Fair E (map_of shift_target h xs d i)) → Volume E h xs
  fair_volume h xs normal fair =
      record {
        normal = normal;
        lawful = list_good (take h.count xs) h.length normal.covers
            (λ d i lt. (fair d i lt, reduced_at (take h.count xs) h.length normal.covers d i lt));
      }

  -- what a call leaves is a volume if its map is good
  pub leaves_volume : (m : Map Target) (n : ℕ) (xs : List (Slot Target)) (h' : Head) (xs' : List (Slot Target)) → Leaves shift_target same_target m n xs h' xs' → GoodMap m n → Volume E h' xs'
  leaves_volume m n xs h' xs' left good =
      fair_volume h' xs' left.normal
      (λ d i lt. (good_same (m d i) (map_of shift_target h' xs' d i) (reduced_at (take h'.count xs') h'.length left.normal.covers d i lt)
      (left.map d i (omega (arith, left.len))) (good d i (omega (arith, left.len)))).0)

  module _ (m : Map Target) (n : ℕ) (good : GoodMap m n) where
    pub good_append : (t : Target) (l : ℕ) → Lawful E t l → GoodMap (appended shift_target m n t) (n + l)
    good_append t l lawful d i lt =
        cond_both (ltb i n) (m d i) (shift_target t (i - n)) Good
        (λ e. good d i (ltb-true i n e))
        (λ e. let ge : n ≤ i = ltb-false i n e in good_shift t l (i - n) lawful (omega arith))

    pub good_assign : (a l : ℕ) (t : Target) → Lawful E t l → GoodMap (assigned shift_target m a l t) n
    good_assign a l t lawful d i lt =
        cond_both (ltb i a) (m d i) (cond (ltb i (a + l)) (shift_target t (i - a)) (m d i)) Good
        (λ _. good d i lt)
        (λ e. let ge : a ≤ i = ltb-false i a e in
        cond_both (ltb i (a + l)) (shift_target t (i - a)) (m d i) Good
        (λ f. let below : i < a + l = ltb-true i (a + l) f in good_shift t l (i - a) lawful (omega arith))
        (λ _. good d i lt))

    pub good_cut : (k : ℕ) → k ≤ n → GoodMap m k
    good_cut k le d i lt = good d i (omega arith)

    pub good_over : (b : Map Target) → GoodMap b n → GoodMap (over clear_target m b) n
    good_over b base d i lt = cond_both (clear_target (m d i)) (b d i) (m d i) Good (λ _. base d i lt) (λ _. good d i lt)
