-- A normal list is the shortest that writes its map, and the only normal one.
use Rattle.std.proofs.Common.{◌≡◌, ℕ, ◌-◌, ◌<◌, ◌≤◌, Bool, true, false, List, [], ◌∷◌, length, sym, refl, ap, ◌∙◌, subst, inl, inr, arith}
use Rattle.std.proofs.lemmas.Bool.{both_ways, cases_lt, cases_order}
use Rattle.table.specs.declared.extent.Slot.{Slot}
use Rattle.table.specs.Kinds.{Laws}
use Rattle.table.specs.Extents.{value_at, value_from, at, Climbs, Covers, Breaks, Distinct}
use Rattle.table.specs.Laws.{SameSlots}
use Rattle.table.proofs.Alike.{from_before, from_after, from_start, climbs_below, start_value, both_on}

module _ {V : Type 0} {shift : V → ℕ → V} {same : V → V → Bool} {clear : V → Bool} (laws : Laws shift same clear) where
  -- the extents of s and t agree from a sector on
  abbrev AgreeFrom : Slot V → List (Slot V) → Slot V → List (Slot V) → ℕ → ℕ → Type 0
  AgreeFrom s ss t ts a n = (i : ℕ) → a ≤ i → i < n → same (value_from shift s ss i) (value_from shift t ts i) ≡ true

  -- no single extent t covers the place where r breaks off from s
  no_cover : (s r t : Slot V) → s.start < r.start → t.start ≤ s.start → same (value_at shift s r.start) r.value ≡ false → same (value_at shift s s.start) (value_at shift t s.start) ≡ true → same (value_at shift r r.start) (value_at shift t r.start) ≡ true → ⊥
  no_cover s r t up early broken first second =
      let b : ℕ = r.start in
      let along : same (value_at shift s b) (value_at shift t b) ≡ true = both_on laws s t s.start b (omega arith) early (omega arith) first in
      let there : same (value_at shift s b) (value_at shift r b) ≡ true = laws.same_on (value_at shift s b) (value_at shift t b) (value_at shift r b) along (laws.same_back (value_at shift r b) (value_at shift t b) second) in
      both_ways (same (value_at shift s b) r.value) broken
      (laws.same_on (value_at shift s b) (value_at shift r b) r.value there (start_value laws r))

  -- the same, read off the values of whole lists: t's extent goes on past the second start r
  no_cover_from : (s r t : Slot V) (rs ts : List (Slot V)) (n : ℕ) → Climbs s (r ∷ rs) n → Breaks shift same s (r ∷ rs) → t.start ≤ s.start → AgreeFrom s (r ∷ rs) t ts s.start n → ((i : ℕ) → i ≤ r.start → value_from shift t ts i ≡ value_at shift t i) → ⊥
  no_cover_from s r t rs ts n up broken early agree only =
      let below = climbs_below r rs n up.1 in
      let first = agree s.start (omega arith) (omega (arith, up.0)) in
      let second = agree r.start (omega (arith, up.0)) below in
      no_cover s r t up.0 early broken.0
      (rw (from_before shift s r rs s.start up.0, only s.start (omega (arith, up.0))) at first)
      (rw (from_after shift s r rs r.start (omega arith), from_start shift r rs n up.1, only r.start (omega arith)) at second)

  agree_behind : (s r t u : Slot V) (rs us : List (Slot V)) (n : ℕ) → s.start < r.start → u.start ≤ r.start → AgreeFrom s (r ∷ rs) t (u ∷ us) s.start n → AgreeFrom r rs u us r.start n
  agree_behind s r t u rs us n up early agree i h k =
      rw (from_after shift s r rs i h, from_after shift t u us i (omega arith)) at (agree i (omega arith) k)

  pub least_from : (ss : List (Slot V)) (s t : Slot V) (ts : List (Slot V)) (n : ℕ) → Climbs s ss n → Breaks shift same s ss → Climbs t ts n → t.start ≤ s.start → AgreeFrom s ss t ts s.start n → length ss ≤ length ts
  least_from [] s t ts n up broken climbs early agree = omega arith
  least_from (r ∷ rs) s t [] n up broken climbs early agree =
      absurd (no_cover_from s r t rs [] n up broken early agree (λ i h. refl))
  least_from (r ∷ rs) s t (u ∷ us) n up broken climbs early agree =
      elim (cases_lt r.start u.start) [
        | inl h ↦ absurd (no_cover_from s r t rs (u ∷ us) n up broken early agree (λ i k. from_before shift t u us i (omega arith)))
        | inr h ↦ let rest = least_from rs r u us n up.1 broken.1 climbs.1 h (agree_behind s r t u rs us n up.0 h agree) in omega (arith, rest)
      ]

  pub least : (xs ys : List (Slot V)) (d : V) (n : ℕ) → Covers xs n → Distinct shift same xs → Covers ys n → ((i : ℕ) → i < n → same (at shift xs d i) (at shift ys d i) ≡ true) → length xs ≤ length ys
  least [] ys d n up broken climbs agree = omega arith
  least (s ∷ ss) [] d n up broken climbs agree = absurd (let k = climbs_below s ss n up.1 in omega (arith, climbs))
  least (s ∷ ss) (t ∷ ts) d n up broken climbs agree =
      let rest = least_from ss s t ts n up.1 broken climbs.1 (omega (arith, up.0, climbs.0)) (λ i h k. agree i k) in omega (arith, rest)

  flip : (s t : Slot V) (ss ts : List (Slot V)) (n : ℕ) → s.start ≡ t.start → AgreeFrom s ss t ts s.start n → AgreeFrom t ts s ss t.start n
  flip s t ss ts n e agree i h k = laws.same_back (value_from shift s ss i) (value_from shift t ts i) (agree i (omega arith) k)

  same_heads : (s t : Slot V) (ss ts : List (Slot V)) (n : ℕ) → Climbs s ss n → Climbs t ts n → s.start ≡ t.start → AgreeFrom s ss t ts s.start n → same s.value t.value ≡ true
  same_heads s t ss ts n up climbs e agree =
      let first = rw (from_start shift s ss n up) at (agree s.start (omega arith) (climbs_below s ss n up)) in
      let other : value_from shift t ts s.start ≡ value_at shift t t.start = ap (value_from shift t ts) e ∙ from_start shift t ts n climbs in
      let there : same (value_at shift s s.start) (value_at shift t t.start) ≡ true = rw other at first in
      let back : same s.value (value_at shift s s.start) ≡ true = laws.same_back (value_at shift s s.start) s.value (start_value laws s) in
      laws.same_on s.value (value_at shift s s.start) t.value back
      (laws.same_on (value_at shift s s.start) (value_at shift t t.start) t.value there (start_value laws t))

  pub equal_from : (ss : List (Slot V)) (s t : Slot V) (ts : List (Slot V)) (n : ℕ) → Climbs s ss n → Breaks shift same s ss → Climbs t ts n → Breaks shift same t ts → s.start ≡ t.start → AgreeFrom s ss t ts s.start n → SameSlots same (s ∷ ss) (t ∷ ts)
  equal_from [] s t [] n up broken climbs breaks e agree = (e, same_heads s t [] [] n up climbs e agree, tt)
  equal_from [] s t (u ∷ us) n up broken climbs breaks e agree =
      absurd (no_cover_from t u s us [] n climbs breaks (omega arith) (flip s t [] (u ∷ us) n e agree) (λ i h. refl))
  equal_from (r ∷ rs) s t [] n up broken climbs breaks e agree =
      absurd (no_cover_from s r t rs [] n up broken (omega arith) agree (λ i h. refl))
  equal_from (r ∷ rs) s t (u ∷ us) n up broken climbs breaks e agree =
      elim (cases_order r.start u.start) [
        | inl h ↦ (
          e,
          same_heads s t (r ∷ rs) (u ∷ us) n up climbs e agree,
          equal_from rs r u us n up.1 broken.1 climbs.1 breaks.1 h
              (agree_behind s r t u rs us n up.0 (omega arith) agree),
        )
        | inr k ↦
            elim k [
              | inl h ↦ absurd (no_cover_from s r t rs (u ∷ us) n up broken (omega arith) agree (λ i l. from_before shift t u us i (omega arith)))
              | inr h ↦
                  absurd
                  (no_cover_from t u s us (r ∷ rs) n climbs breaks (omega arith) (flip s t (r ∷ rs) (u ∷ us) n e agree)
                  (λ i l. from_before shift s r rs i (omega arith)))
            ]
      ]

  pub equal_maps : (xs ys : List (Slot V)) (d : V) (n : ℕ) → Covers xs n → Distinct shift same xs → Covers ys n → Distinct shift same ys → ((i : ℕ) → i < n → same (at shift xs d i) (at shift ys d i) ≡ true) → SameSlots same xs ys
  equal_maps [] [] d n up broken climbs breaks agree = tt
  equal_maps [] (t ∷ ts) d n up broken climbs breaks agree = let k = climbs_below t ts n climbs.1 in omega (arith, up)
  equal_maps (s ∷ ss) [] d n up broken climbs breaks agree = let k = climbs_below s ss n up.1 in omega (arith, climbs)
  equal_maps (s ∷ ss) (t ∷ ts) d n up broken climbs breaks agree =
      equal_from ss s t ts n up.1 broken climbs.1 breaks (up.0 ∙ sym climbs.0) (λ i h k. agree i k)

  same_at : (s t : Slot V) (i : ℕ) → s.start ≡ t.start → same s.value t.value ≡ true → same (value_at shift s i) (value_at shift t i) ≡ true
  same_at s t i e h =
      let k : i - s.start ≡ i - t.start = omega arith in
      let moved = laws.shift_same s.value t.value (i - s.start) h in
      subst (λ (j : ℕ). same (shift s.value (i - s.start)) (shift t.value j) ≡ true) k moved

  -- lists that differ in no slot have maps that agree
  pub same_from : (ss : List (Slot V)) (s t : Slot V) (ts : List (Slot V)) (i : ℕ) → SameSlots same (s ∷ ss) (t ∷ ts) → same (value_from shift s ss i) (value_from shift t ts i) ≡ true
  same_from [] s t [] i h = same_at s t i h.0 h.1
  same_from [] s t (u ∷ us) i h = absurd h.2
  same_from (r ∷ rs) s t [] i h = absurd h.2
  same_from (r ∷ rs) s t (u ∷ us) i h =
      elim (cases_lt i r.start) [
        | inl l ↦ rw (from_before shift s r rs i l, from_before shift t u us i (omega (arith, h.2.0))) (same_at s t i h.0 h.1)
        | inr l ↦ rw (from_after shift s r rs i l, from_after shift t u us i (omega (arith, h.2.0))) (same_from rs r u us i h.2)
      ]

  pub same_maps : (xs ys : List (Slot V)) (d : V) (i : ℕ) → SameSlots same xs ys → same (at shift xs d i) (at shift ys d i) ≡ true
  same_maps [] [] d i h = laws.same_self d
  same_maps [] (t ∷ ts) d i h = absurd h
  same_maps (s ∷ ss) [] d i h = absurd h
  same_maps (s ∷ ss) (t ∷ ts) d i h = same_from ss s t ts i h
