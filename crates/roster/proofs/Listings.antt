-- The places of a listing behind those that count.
use Rattle.std.proofs.Common.{◌≡◌, ℕ, ◌+◌, ◌-◌, List, drop, set, replicate, ◌∙◌, ap, sym, arith}
use Rattle.std.proofs.lemmas.List.{drop-drop, drop-replicate, drop-set-lt}

-- where one more counts, the others are blank still
pub blanks_left : {T : Type 0} (places : List T) (count n : ℕ) (blank item : T) → drop count places ≡ replicate (n - count) blank → drop (count + 1) (set places count item) ≡ replicate (n - (count + 1)) blank
blanks_left places count n blank item blanks =
    drop-set-lt (count + 1) places count item (omega arith) ∙ sym (drop-drop 1 count places) ∙ ap (drop 1) blanks
    ∙ drop-replicate 1 (n - count) blank ∙ ap (λ k. replicate k blank) {x = n - count - 1} {y = n - (count + 1)} (omega arith)
