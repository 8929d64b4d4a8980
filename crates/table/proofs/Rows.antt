-- Lists that are moved and written in place.
use Rattle.std.proofs.Common.{◌≡◌, ℕ, ◌+◌, ◌-◌, ◌<◌, ◌≤◌, List, [], ◌∷◌, ◌++◌, length, take, drop, set, sym, refl, ap, ◌∙◌, add-one, arith}
use Rattle.std.proofs.Math.Seq.{paste}
use Rattle.std.proofs.lemmas.List.{append_assoc, length-append, length-take-le, length-drop, take_at, drop_at, take-append-le, drop-take, set_split, take-take, take_all}
use Rattle.std.proofs.lemmas.List.Edits.{paste-paste, length-paste}
use Rattle.std.specs.Option.{option_to_list}
use Rattle.table.specs.declared.extent.Slot.{Slot}
use Rattle.table.specs.declared.row.Plan.{Plan}
use Rattle.table.specs.Steps.{planned, Splices}

module _ {X : Type 0} where
  pub paste_one : (xs : List X) (at : ℕ) (x : X) → at < length xs → set xs at x ≡ paste xs at (x ∷ []) 1
  paste_one xs at x lt =
      rw (append_assoc (take at xs) (x ∷ []) (drop (at + 1) xs), add-one at) (set_split xs at x lt)

  -- what is moved, with what is written before it
  two_pastes : (xs s t : List X) (front n many : ℕ) → n ≡ length s → many ≤ length t → front + n + many ≤ length xs → paste (paste xs (front + n) t many) front s n ≡ (take front xs ++ s) ++ (take many t ++ drop (front + n + many) xs)
  two_pastes xs s t front n many e le room =
      let moved : List X = paste xs (front + n) t many in
      let shape : moved ≡ take (front + n) xs ++ (take many t ++ drop (front + n + many) xs) = append_assoc (take (front + n) xs) (take many t) (drop (front + n + many) xs) in
      let first : length (take (front + n) xs) ≡ front + n = length-take-le (front + n) xs (omega arith) in
      let before : take front moved ≡ take front xs =
      ap (take front) shape ∙ take-append-le front (take (front + n) xs) (take many t ++ drop (front + n + many) xs) (omega arith) ∙ take-take front (front + n) xs (omega arith) in
      let behind : drop (front + n) moved ≡ take many t ++ drop (front + n + many) xs =
      ap (drop (front + n)) shape ∙ drop_at (take (front + n) xs) (take many t ++ drop (front + n + many) xs) (front + n) first in
      let all : take n s ≡ s = take_all n s (omega arith) in
      rw (before, behind, all) refl

-- a plan carried out
module _ {V : Type 0} (xs : List (Slot V)) (count : ℕ) (p : Plan V) (m t many total : ℕ) (em : m ≡ length (option_to_list p.middle)) (et : t ≡ length (option_to_list p.tail)) (back : p.back ≤ count) (room : count ≤ length xs) (emany : many ≡ count - p.back) (etotal : total ≡ p.front + m + t + many) where
  abbrev kept_back : List (Slot V)
  kept_back = take many (drop p.back xs)

  behind : kept_back ≡ drop p.back (take count xs)
  behind =
      let sum : p.back + many ≡ count = omega arith in
      sym (drop-take p.back many xs) ∙ ap (λ (j : ℕ). drop p.back (take j xs)) sum

  regrouped : (take p.front xs ++ (option_to_list p.middle ++ option_to_list p.tail)) ++ kept_back ≡ planned xs count p
  regrouped =
      append_assoc (take p.front xs) (option_to_list p.middle ++ option_to_list p.tail) kept_back
      ∙ ap (λ (l : List (Slot V)). take p.front xs ++ l) (append_assoc (option_to_list p.middle) (option_to_list p.tail) kept_back)
      ∙ ap (λ (l : List (Slot V)). take p.front xs ++ (option_to_list p.middle ++ (option_to_list p.tail ++ l))) behind

  pub planned_length : p.front ≤ length xs → total ≡ length (planned xs count p)
  planned_length front =
      let rest : length (drop p.back xs) ≡ length xs - p.back = length-drop p.back xs in
      let kept : length kept_back ≡ many = length-take-le many (drop p.back xs) (omega arith) in
      let first : length (take p.front xs) ≡ p.front = length-take-le p.front xs front in
      let middle = length-append (option_to_list p.middle) (option_to_list p.tail) in
      let outer = length-append (take p.front xs) (option_to_list p.middle ++ option_to_list p.tail) in
      let whole = length-append (take p.front xs ++ (option_to_list p.middle ++ option_to_list p.tail)) kept_back in
      let is = ap length regrouped in
      omega arith

  module _ (xs₁ xs₂ xs₃ : List (Slot V)) (fits : total ≤ length xs) (e₁ : xs₁ ≡ paste xs (p.front + m + t) (drop p.back xs) many) (e₂ : xs₂ ≡ paste xs₁ p.front (option_to_list p.middle) (length (option_to_list p.middle))) (e₃ : xs₃ ≡ paste xs₂ (p.front + m) (option_to_list p.tail) (length (option_to_list p.tail))) where
    result : xs₃ ≡ planned xs count p ++ drop total xs
    result =
        let new : List (Slot V) = option_to_list p.middle ++ option_to_list p.tail in
        let rest : length (drop p.back xs) ≡ length xs - p.back = length-drop p.back xs in
        let sum : p.front + m + t ≡ p.front + (m + t) = omega arith in
        let end : p.front + (m + t) + many ≡ total = omega arith in
        let many_new : m + t ≡ length new = ap (λ (j : ℕ). j + t) em ∙ ap (λ (j : ℕ). length (option_to_list p.middle) + j) et ∙ sym (length-append (option_to_list p.middle) (option_to_list p.tail)) in
        let moved : xs₁ ≡ paste xs (p.front + (m + t)) (drop p.back xs) many = e₁ ∙ ap (λ (j : ℕ). paste xs j (drop p.back xs) many) sum in
        let long : length xs₁ ≡ length xs = ap length moved ∙ length-paste xs (p.front + (m + t)) (drop p.back xs) many (omega arith) (omega arith) in
        e₃ ∙ ap (paste xs₂ (p.front + m) (option_to_list p.tail)) (sym et)
        ∙ ap (λ (l : List (Slot V)). paste l (p.front + m) (option_to_list p.tail) t) (e₂ ∙ ap (paste xs₁ p.front (option_to_list p.middle)) (sym em))
        ∙ paste-paste xs₁ p.front (option_to_list p.middle) (option_to_list p.tail) m t em et (omega arith)
        ∙ ap (λ (l : List (Slot V)). paste l p.front new (m + t)) moved
        ∙ two_pastes xs new (drop p.back xs) p.front (m + t) many many_new (omega arith) (omega arith)
        ∙ sym (append_assoc (take p.front xs ++ new) kept_back (drop (p.front + (m + t) + many) xs))
        ∙ ap (λ (l : List (Slot V)). l ++ drop (p.front + (m + t) + many) xs) regrouped
        ∙ ap (λ (j : ℕ). planned xs count p ++ drop j xs) end

    pub spliced : Splices xs (planned xs count p) xs₃ total
    spliced =
        let size : total ≡ length (planned xs count p) = planned_length (omega arith) in
        let long = ap length result ∙ length-append (planned xs count p) (drop total xs) in
        record {
          room = omega arith;
          front = ap (take total) result ∙ take_at (planned xs count p) (drop total xs) total (sym size);
          kept = ap (drop total) result ∙ drop_at (planned xs count p) (drop total xs) total (sym size);
        }
