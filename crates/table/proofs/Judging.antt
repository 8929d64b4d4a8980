-- A loop over the counted slots: how far it has judged a table, and what is left to judge.
use Rattle.std.proofs.Common.{◌≡◌, ℕ, suc, ◌<◌, ◌≤◌, Bool, true, false, ltb, List, [], ◌∷◌, length, get_or, zero, add-one, sym, ap, arith}
use Rattle.std.proofs.lemmas.List.Sorted.{IsNonDecreasingBy-short, IsNonDecreasingBy-from_all_adjacent}
use Rattle.std.specs.List.Sorted.{IsNonDecreasingBy, IsPartitionPoint}
use Rattle.std.proofs.lemmas.Bool.{ltb-true, ltb-false}
use Rattle.table.specs.declared.extent.Head.{Head}
use Rattle.table.specs.declared.extent.Slot.{Slot}
use Rattle.table.specs.Extents.{before, Climbs, Covers, Breaks, Normal}
use Rattle.table.proofs.Pieces.{before_below, before_above}

-- where the slots that start below a sector end
pub before_point : {V : Type 0} (a : ℕ) (xs : List (Slot V)) (i : ℕ) → i ≤ length xs → IsPartitionPoint (λ (s : Slot V). ltb s.start a ≡ true) (λ (s : Slot V). ltb s.start a ≡ false) xs i → i ≡ before a xs
before_point a [] i le point = omega arith
before_point a (s ∷ ss) zero le point = sym (before_above (s ∷ ss) 0 a (ltb-false _ _ (point.1 0 s (omega arith) (omega arith))))
before_point a (s ∷ ss) (suc i) le point =
    let rest = before_point a ss i (omega arith) (λ k d low high. point.0 (suc k) d (omega arith) (omega arith), λ k d low high. point.1 (suc k) d (omega arith) (omega arith)) in
    rw (before_below s ss a (ltb-true _ _ (point.0 0 s (omega arith) (omega arith)))) (ap suc rest)

climbs_rise : {V : Type 0} (ss : List (Slot V)) (s : Slot V) (n : ℕ) → Climbs s ss n → (k : ℕ) (d : Slot V) → k < length ss → (get_or (s ∷ ss) k d).start ≤ (get_or ss k d).start
climbs_rise [] s n up k d lt = absurd (let z : ⊥ = omega arith in z)
climbs_rise (t ∷ ts) s n up zero d lt = omega (arith, up.0)
climbs_rise (t ∷ ts) s n up (suc k) d lt = climbs_rise ts t n up.1 k d (omega arith)

-- starts do not fall
pub covers_rise : {V : Type 0} (xs : List (Slot V)) (n : ℕ) → Covers xs n → IsNonDecreasingBy (λ (s : Slot V). s.start) xs
covers_rise [] n covers = IsNonDecreasingBy-short (λ (s : Slot _). s.start) [] (omega arith)
covers_rise (s ∷ ss) n covers =
    IsNonDecreasingBy-from_all_adjacent (λ (s : Slot _). s.start) (s ∷ ss) (λ k d lt. rw add-one (climbs_rise ss s n covers.1 k d (omega arith)))

module _ {V : Type 0} (shift : V → ℕ → V) (same : V → V → Bool) where
  -- a table is normal exactly if the rest goes on well behind the last slot seen
  abbrev pub Judged : Head → List (Slot V) → Slot V → List (Slot V) → Type 0
  Judged h xs last rest = (Normal shift same h xs → Climbs last rest h.length × Breaks shift same last rest) × (Climbs last rest h.length → Breaks shift same last rest → Normal shift same h xs)
