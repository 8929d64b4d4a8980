-- How many digits a number has.
use Rattle.std.proofs.Common.{◌≡◌, ℕ, zero, suc, ◌+◌, ◌*◌, ◌/◌, ◌%◌, ◌^◌, ◌<◌, ◌≤◌, List, [], ◌∷◌, ◌++◌, length, decimal, arith, length-append}
use Rattle.std.proofs.lemmas.Fmt.{decimal_by_steps, length-decimal-le}
use Rattle.std.proofs.Math.Nat.{pow-suc, one-le-pow}

long_one : (m : ℕ) (b : ℕ) → m < 10 → (k : ℕ) → 10 ^ k ≤ m → k < 1
long_one m b less zero le = omega arith
long_one m b less (suc k) le = absurd (omega (arith, pow-suc 10 k, one-le-pow k 10 (omega arith)))

long_more : (m : ℕ) (ds : List ℕ) (b : ℕ) → ((k : ℕ) → 10 ^ k ≤ m / 10 → k < length ds) → (k : ℕ) → 10 ^ k ≤ m → k < length (ds ++ (b ∷ []))
long_more m ds b h zero le = rw (length-append ds (b ∷ [])) (omega arith)
long_more m ds b h (suc k) le =
    rw (length-append ds (b ∷ [])) (omega (arith, h k (omega (arith, pow-suc 10 k))))

pub digits_by_power : (k n : ℕ) → n < 2 ^ 64 → 10 ^ k ≤ n → n < 10 * 10 ^ k → k + 1 ≡ length (decimal n)
digits_by_power k n fits low high =
    let above = decimal_by_steps (λ m ds. (j : ℕ) → 10 ^ j ≤ m → j < length ds) (λ m less. long_one m 0 less) (λ m ds more h. long_more m ds (48 + m % 10) h) n fits k low in
    let below = length-decimal-le (suc k) n (omega arith) (rw (pow-suc 10 k) (omega arith)) fits in
    omega arith
