-- The extent that holds a sector, and the front of a table up to one.
use Rattle.std.proofs.Common.{◌≡◌, ℕ, suc, ◌+◌, ◌-◌, ◌^◌, ◌<◌, ◌≤◌, Bool, List, [], ◌∷◌, length, get_or, take, sym, refl, ◌∙◌, subst, inl, inr, arith}
use Rattle.std.proofs.lemmas.List.{length-take-le, take-take}
use Rattle.std.proofs.lemmas.Bool.{cases_lt}
use Rattle.table.specs.declared.extent.Head.{Head}
use Rattle.table.specs.declared.extent.Slot.{Slot}
use Rattle.table.specs.Kinds.{Laws}
use Rattle.table.specs.Extents.{value_at, value_from, at, before, Covers, Normal}
use Rattle.table.specs.Calls.{map_of, Leaves}
use Rattle.table.proofs.Alike.{from_before, from_after}
use Rattle.table.proofs.Pieces.{Part, before_below, before_above, part_take}
use Rattle.table.proofs.Tables.{part_of, leaves, parts_normal, some_value}

pub before_le : {V : Type 0} (a : ℕ) (xs : List (Slot V)) → before a xs ≤ length xs
before_le a [] = omega arith
before_le a (s ∷ ss) =
    let rest = before_le a ss in
    elim (cases_lt s.start a) [ inl h ↦ rw (before_below s ss a h) (omega arith) | inr h ↦ rw (before_above (s ∷ ss) 0 a h) (omega arith) ]

module _ {V : Type 0} (shift : V → ℕ → V) where
  -- x holds sector i, of the extents of s and those behind it
  abbrev Holds : Slot V → Slot V → List (Slot V) → ℕ → Type 0
  Holds x s ss i = (x.start ≤ i) × (value_at shift x i ≡ value_from shift s ss i)

  held : (x s : Slot V) (ss : List (Slot V)) (i : ℕ) → x ≡ s → Holds s s ss i → Holds x s ss i
  held x s ss i e h = subst (λ (y : Slot V). Holds y s ss i) (sym e) h

  found_from : (ss : List (Slot V)) (s : Slot V) (i : ℕ) → s.start ≤ i → (x : Slot V) → x ≡ get_or (s ∷ ss) (before (i + 1) ss) x → Holds x s ss i
  found_from [] s i h x e = held x s [] i e (h, refl)
  found_from (t ∷ ts) s i h x e =
      elim (cases_lt i t.start) [
        | inl l ↦
            let read : x ≡ s = rw (before_above (t ∷ ts) 0 (i + 1) (omega arith)) at e in
            held x s (t ∷ ts) i read (h, sym (from_before shift s t ts i l))
        | inr l ↦
            let rest : Holds x t ts i = found_from ts t i l x (rw (before_below t ts (i + 1) (omega arith)) at e) in
            (rest.0, rest.1 ∙ sym (from_after shift s t ts i l))
      ]

  pub found : (xs : List (Slot V)) (n i : ℕ) → Covers xs n → i < n → (0 < before (i + 1) xs) × ((x : Slot V) → x ≡ get_or xs (before (i + 1) xs - 1) x → (x.start ≤ i) × ((d : V) → value_at shift x i ≡ at shift xs d i))
  found [] n i covers h = absurd (let z : ⊥ = omega (arith, covers) in z)
  found (s ∷ ss) n i covers h =
      let first : s.start ≡ 0 = covers.0 in
      let k : before (i + 1) (s ∷ ss) ≡ suc (before (i + 1) ss) = before_below s ss (i + 1) (omega arith) in
      let at_k : before (i + 1) (s ∷ ss) - 1 ≡ before (i + 1) ss = omega arith in (
        omega arith,
        λ x e.
            let there = found_from ss s i (omega arith) x (subst (λ (j : ℕ). x ≡ get_or (s ∷ ss) j x) at_k e) in
            (there.0, λ d. there.1),
      )

module _ {V : Type 0} {shift : V → ℕ → V} {same : V → V → Bool} {clear : V → Bool} (laws : Laws shift same clear) where
  -- the counted slots up to n
  pub front_counted : (h : Head) (xs : List (Slot V)) (n : ℕ) → Normal shift same h xs → n ≤ h.length → (d : V) → Part shift same (map_of shift h xs d) (take (before n (take h.count xs)) xs) 0 n
  front_counted h xs n normal le d =
      let ys = take h.count xs in
      let short = before_le n ys in
      let many : length ys ≡ h.count = length-take-le h.count xs normal.room in
      rw (← take-take (before n ys) h.count xs (omega arith))
      (part_take laws (at shift ys d) ys 0 h.length n (omega arith) le (part_of laws ys d h.length normal.covers normal.distinct))

  pub cut_leaves : (h : Head) (xs : List (Slot V)) (h' : Head) → Normal shift same h xs → h'.length ≤ h.length → h'.count ≡ before h'.length (take h.count xs) → Leaves shift same (map_of shift h xs) h'.length xs h' xs
  cut_leaves h xs h' normal le is =
      let both = parts_normal laws (map_of shift h xs) h'.length (take h'.count xs) (λ lt. some_value laws ys h.length normal.covers (omega arith)) parts in
      leaves laws (map_of shift h xs) h'.length xs xs (take h'.count xs) h' refl bounded room refl refl both.0 both.1 parts
    where
      ys : List (Slot V)
      ys = take h.count xs

      bounded : h'.length ≤ 2 ^ 40
      bounded = omega (arith, normal.bounded)

      room : h'.count ≤ length xs
      room = omega (arith, is, before_le h'.length (take h.count xs), length-take-le h.count xs normal.room, normal.room)

      parts : (d : V) → Part shift same (map_of shift h xs d) (take h'.count xs) 0 h'.length
      parts d = rw is (front_counted h xs h'.length normal le d)
