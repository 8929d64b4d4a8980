-- What clauses see of a listing.
use Rattle.std.specs.Prelude.{◌≡◌, ℕ, ◌-◌, ◌≤◌, List, ◌++◌, length, take, drop, replicate, refl}
use Rattle.std.specs.Coded.{Coded, code_by, coded_list}
use Rattle.std.proofs.Common.{arith, take-append-drop, length-take-le}

-- what is listed, in order
pub record Items (T : Type 0) : Type 0 where
  pub items : List T

-- it is stored as the list
abbrev pub items_code : {T : Type 0} → Coded T → Coded (Items T)
items_code {T} code =
    code_by (List T) (coded_list code) (λ v. v.items) (λ xs. record { items = xs }) (λ _. refl)

-- with blanks behind them, the places that count are all places again
pub filled_up : {T : Type 0} (places : List T) (count n : ℕ) (blank : T) → count ≤ n → length places ≡ n → drop count places ≡ replicate (n - count) blank → take count places ++ replicate (n - length (take count places)) blank ≡ places
filled_up places count n blank fits long blanks =
    rw (length-take-le count places (omega arith)) (rw (← blanks) (take-append-drop count places))
