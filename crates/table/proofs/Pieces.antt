-- Lists of slots piece by piece: each slot continues the map over its extent, and starts where the map breaks.
use Rattle.std.proofs.Common.{◌≡◌, ℕ, zero, suc, ◌+◌, ◌-◌, ◌<◌, ◌≤◌, Bool, true, false, ltb, ◌⊎◌, List, [], ◌∷◌, ◌++◌, take, drop, sym, refl, ◌∙◌, subst, inl, inr, arith}
use Rattle.std.proofs.lemmas.Bool.{cases_lt, cond-true, cond-false, lt-ltb, le-ltb}
use Rattle.table.specs.declared.extent.Slot.{Slot}
use Rattle.table.specs.Kinds.{Laws}
use Rattle.table.specs.Extents.{value_at, value_from, before, Climbs, Breaks}
use Rattle.table.proofs.Alike.{from_before, from_after, from_start, start_value, same_is, goes_on, follows, via, back, apart}

-- where the slots begin, or n where there are none
abbrev pub begin : {V : Type 0} → List (Slot V) → ℕ → ℕ
begin [] n = n
begin (s ∷ ss) n = s.start

module _ {V : Type 0} (shift : V → ℕ → V) (same : V → V → Bool) (m : ℕ → V) where
  -- the map has no value at a that continues the sector before
  abbrev pub Break : ℕ → Type 0
  Break a = same (shift (m (a - 1)) 1) (m a) ≡ false

  -- from a to b the map continues its value at a
  abbrev pub Flat : ℕ → ℕ → Type 0
  Flat a b = (i : ℕ) → a ≤ i → i < b → same (m i) (shift (m a) (i - a)) ≡ true

  -- the slots cover exactly the sectors from a to b
  abbrev pub Part : List (Slot V) → ℕ → ℕ → Type 0
  Part [] a b = a ≡ b
  Part (s ∷ ss) a b = (s.start ≡ a) × (a < begin ss b) × ((i : ℕ) → a ≤ i → i < begin ss b → same (m i) (value_at shift s i) ≡ true) × (0 < a → Break a) × Part ss (begin ss b) b

module _ {V : Type 0} where
  pub begin_append : (ss ts : List (Slot V)) (b c : ℕ) → begin ts c ≡ b → begin (ss ++ ts) c ≡ begin ss b
  begin_append [] ts b c h = h
  begin_append (s ∷ ss) ts b c h = refl

  pub before_below : (s : Slot V) (ss : List (Slot V)) (c : ℕ) → s.start < c → before c (s ∷ ss) ≡ suc (before c ss)
  before_below s ss c h = cond-true (ltb s.start c) (suc (before c ss)) 0 (lt-ltb s.start c h)

  pub before_above : (ss : List (Slot V)) (b c : ℕ) → c ≤ begin ss b → before c ss ≡ 0
  before_above [] b c h = refl
  before_above (s ∷ ss) b c h = cond-false (ltb s.start c) (suc (before c ss)) 0 (le-ltb s.start c h)

module _ {V : Type 0} {shift : V → ℕ → V} {same : V → V → Bool} {clear : V → Bool} (laws : Laws shift same clear) where
  pub part_le : (m : ℕ → V) (ss : List (Slot V)) (a b : ℕ) → Part shift same m ss a b → a ≤ b
  part_le m [] a b p = omega (arith, p)
  part_le m (s ∷ ss) a b p = let k = part_le m ss (begin ss b) b p.4 in omega (arith, p.1)

  pub part_begin : (m : ℕ → V) (ss : List (Slot V)) (a b : ℕ) → Part shift same m ss a b → begin ss b ≡ a
  part_begin m [] a b p = sym p
  part_begin m (s ∷ ss) a b p = p.0

  -- another map with the same values from c on
  pub part_like : (m w : ℕ → V) (ss : List (Slot V)) (a b c : ℕ) → c ≤ a → (0 < a → c < a) → ((i : ℕ) → c ≤ i → i < b → w i ≡ m i) → Part shift same m ss a b → Part shift same w ss a b
  part_like m w [] a b c le lt e p = p
  part_like m w (s ∷ ss) a b c le lt e p =
      let k : begin ss b ≤ b = part_le m ss (begin ss b) b p.4 in
      let up : a < begin ss b = p.1 in (
        p.0,
        up,
        (λ i h j. rw (e i (omega arith) (omega arith)) (p.2 i h j)),
        (λ z. let y : c < a = lt z in rw (e (a - 1) (omega arith) (omega arith), e a (omega arith) (omega arith)) (p.3 z)),
        part_like m w ss (begin ss b) b c (omega arith) (λ z. omega arith) e p.4,
      )

  -- one part behind another
  pub part_append : (m : ℕ → V) (ss ts : List (Slot V)) (a b c : ℕ) → Part shift same m ss a b → Part shift same m ts b c → Part shift same m (ss ++ ts) a c
  part_append m [] ts a b c p q = rw p q
  part_append m (s ∷ ss) ts a b c p q =
      let e : begin (ss ++ ts) c ≡ begin ss b = begin_append ss ts b c (part_begin m ts b c q) in
      rw e (p.0, p.1, p.2, p.3, part_append m ss ts (begin ss b) b c p.4 q)

  -- the front of a part, up to c
  pub part_take : (m : ℕ → V) (ss : List (Slot V)) (a b c : ℕ) → a ≤ c → c ≤ b → Part shift same m ss a b → Part shift same m (take (before c ss) ss) a c
  part_take m [] a b c h k p = omega (arith, p)
  part_take m (s ∷ ss) a b c h k p =
      elim (cases_lt s.start c) [
        | inl l ↦ rw (before_below s ss c l) (taken (cases_lt c (begin ss b)) l (λ j. part_take m ss (begin ss b) b c j k p.4))
        | inr l ↦ rw (before_above (s ∷ ss) b c l) (omega (arith, p.0))
      ]
    where
      taken : (c < begin ss b) ⊎ (begin ss b ≤ c) → s.start < c → (begin ss b ≤ c → Part shift same m (take (before c ss) ss) (begin ss b) c) → Part shift same m (s ∷ take (before c ss) ss) a c
      taken (inl j) l behind =
          rw (before_above ss b c (omega arith)) (p.0, omega (arith, p.0), (λ i x y. p.2 i x (omega arith)), p.3, refl)
      taken (inr j) l behind =
          let rest = behind j in
          let e : begin (take (before c ss) ss) c ≡ begin ss b = part_begin m (take (before c ss) ss) (begin ss b) c rest in
          rw e (p.0, p.1, p.2, p.3, rest)

  -- the back of a part, from its slot k on
  pub part_drop : (m : ℕ → V) (ss : List (Slot V)) (a b k : ℕ) → Part shift same m ss a b → Part shift same m (drop k ss) (begin (drop k ss) b) b
  part_drop m [] a b zero p = refl
  part_drop m [] a b (suc k) p = refl
  part_drop m (s ∷ ss) a b zero p = subst (λ (x : ℕ). Part shift same m (s ∷ ss) x b) (sym p.0) p
  part_drop m (s ∷ ss) a b (suc k) p = part_drop m ss (begin ss b) b k p.4

  -- what starts at or past c
  pub begin_drop : (m : ℕ → V) (ss : List (Slot V)) (a b c : ℕ) → c ≤ b → Part shift same m ss a b → c ≤ begin (drop (before c ss) ss) b
  begin_drop m [] a b c h p = h
  begin_drop m (s ∷ ss) a b c h p =
      elim (cases_lt s.start c) [
        | inl l ↦ rw (before_below s ss c l) (begin_drop m ss (begin ss b) b c h p.4)
        | inr l ↦ rw (before_above (s ∷ ss) b c l) l
      ]

module _ {V : Type 0} {shift : V → ℕ → V} {same : V → V → Bool} {clear : V → Bool} (laws : Laws shift same clear) (m : ℕ → V) where
  -- one slot
  pub part_one : (s : Slot V) (a b : ℕ) → s.start ≡ a → a < b → same (m a) s.value ≡ true → Flat shift same m a b → (0 < a → Break shift same m a) → Part shift same m (s ∷ []) a b
  part_one s a b start up e flat broken =
      (start, up, (λ i h k. rw start (via laws (flat i h k) (laws.shift_same (m a) s.value (i - a) e))), broken, refl)

  -- the last slot goes on where the map does
  pub part_on : (ss : List (Slot V)) (a b c : ℕ) → a < b → b < c → same (shift (m (b - 1)) 1) (m b) ≡ true → Flat shift same m b c → Part shift same m ss a b → Part shift same m ss a c
  part_on [] a b c up lt joins flat p = absurd (let z : ⊥ = omega (arith, p) in z)
  part_on (s ∷ []) a b c up lt joins flat p =
      (p.0, omega arith, (λ i h k. elim (cases_lt i b) [ inl l ↦ p.2 i h l | inr l ↦ on i l k ]), p.3, refl)
    where
      on : (i : ℕ) → b ≤ i → i < c → same (m i) (value_at shift s i) ≡ true
      on i h k =
          let start : s.start ≡ a = p.0 in
          let e : 1 + (i - b) ≡ i - (b - 1) = omega arith in
          let along = follows laws s (m (b - 1)) (b - 1) i (omega arith) (omega arith) (p.2 (b - 1) (omega arith) (omega arith)) in
          let next = rw e at (laws.shift_more (m (b - 1)) 1 (i - b)) in
          let joined = laws.shift_same (shift (m (b - 1)) 1) (m b) (i - b) joins in
          via laws (flat i h k) (via laws (back laws joined) (via laws next along))
  part_on (s ∷ (t ∷ ts)) a b c up lt joins flat p =
      let k : begin ts b ≤ b = part_le laws m ts (begin ts b) b p.4.4 in
      (p.0, p.1, p.2, p.3, part_on (t ∷ ts) t.start b c (omega (arith, p.4.1)) lt joins flat p.4)

  -- inside one extent the map is flat
  pub part_flat : (ss : List (Slot V)) (a b i : ℕ) → a ≤ i → i < b → Part shift same m ss a b → Flat shift same m i (begin (drop (before (i + 1) ss) ss) b)
  part_flat [] a b i h k p = absurd (let z : ⊥ = omega (arith, p) in z)
  part_flat (s ∷ ss) a b i h k p =
      let start : s.start ≡ a = p.0 in
      rw (before_below s ss (i + 1) (omega arith)) (flat (cases_lt i (begin ss b)) (λ l. part_flat ss (begin ss b) b i l k p.4))
    where
      flat : (i < begin ss b) ⊎ (begin ss b ≤ i) → (begin ss b ≤ i → Flat shift same m i (begin (drop (before (i + 1) ss) ss) b)) → Flat shift same m i (begin (drop (before (i + 1) ss) ss) b)
      flat (inl l) behind =
          let start : s.start ≡ a = p.0 in
          rw (before_above ss b (i + 1) (omega arith))
          (λ j x y.
          via laws (p.2 j (omega arith) y)
          (via laws (back laws (goes_on laws s i j (omega arith) x))
          (laws.shift_same (value_at shift s i) (m i) (j - i) (back laws (p.2 i h l)))))
      flat (inr l) behind = behind l

  -- a normal list continues its own map, and starts where it breaks
  pub part_from : (ss : List (Slot V)) (s : Slot V) (n : ℕ) → Climbs s ss n → Breaks shift same s ss → ((i : ℕ) → s.start ≤ i → m i ≡ value_from shift s ss i) → (0 < s.start → Break shift same m s.start) → Part shift same m (s ∷ ss) s.start n
  part_from [] s n up breaks e broken = (refl, up, (λ i h k. same_is laws (m i) (value_at shift s i) (e i h)), broken, refl)
  part_from (t ∷ ts) s n up breaks e broken =
      let lt : s.start < t.start = up.0 in (
        refl,
        lt,
        (λ i h k. same_is laws (m i) (value_at shift s i) (e i h ∙ from_before shift s t ts i k)),
        broken,
        part_from ts t n up.1 breaks.1 (λ i h. e i (omega arith) ∙ from_after shift s t ts i h) (λ z. breaks_off lt),
      )
    where
      breaks_off : s.start < t.start → Break shift same m t.start
      breaks_off lt =
          let b : ℕ = t.start in
          let last : m (b - 1) ≡ value_at shift s (b - 1) = e (b - 1) (omega arith) ∙ from_before shift s t ts (b - 1) (omega arith) in
          let here : m b ≡ value_at shift t b = e b (omega arith) ∙ from_after shift s t ts b (omega arith) ∙ from_start shift t ts n up.1 in
          let one : b - (b - 1) ≡ 1 = omega arith in
          rw (last, here)
          (apart laws (back laws (rw one at (goes_on laws s (b - 1) b (omega arith) (omega arith)))) (back laws (start_value laws t)) breaks.0)

  -- and what continues a map and starts where it breaks is normal, and agrees with it
  pub normal_from : (ss : List (Slot V)) (s : Slot V) (a n : ℕ) → Part shift same m (s ∷ ss) a n → Climbs s ss n × Breaks shift same s ss × ((i : ℕ) → a ≤ i → i < n → same (m i) (value_from shift s ss i) ≡ true)
  normal_from [] s a n p = (omega (arith, p.0, p.1), tt, p.2)
  normal_from (t ∷ ts) s a n p =
      let rest = normal_from ts t t.start n p.4 in
      ((omega (arith, p.0, p.1), rest.0), (breaks, rest.1), λ i h k. agree rest.2 i h k)
    where
      breaks : same (value_at shift s t.start) t.value ≡ false
      breaks =
          let b : ℕ = t.start in
          let start : s.start ≡ a = p.0 in
          let lt : a < b = p.1 in
          let one : b - (b - 1) ≡ 1 = omega arith in
          let last = rw one at (follows laws s (m (b - 1)) (b - 1) b (omega arith) (omega arith) (p.2 (b - 1) (omega arith) (omega arith))) in
          let here = via laws (p.4.2 b (omega arith) p.4.1) (start_value laws t) in
          apart laws last here (p.4.3 (omega arith))

      agree : ((i : ℕ) → t.start ≤ i → i < n → same (m i) (value_from shift t ts i) ≡ true) → (i : ℕ) → a ≤ i → i < n → same (m i) (value_from shift s (t ∷ ts) i) ≡ true
      agree behind i h k =
          elim (cases_lt i t.start) [
            | inl l ↦ rw (from_before shift s t ts i l) (p.2 i h l)
            | inr l ↦ rw (from_after shift s t ts i l) (behind i l k)
          ]
