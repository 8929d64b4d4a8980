-- What a kind of value means: its shift, same and clear, and the laws that every kind shows.
use Rattle.std.specs.Prelude.{◌≡◌, ℕ, ◌+◌, Bool, true}

pub record Laws {V : Type 0} (shift : V → ℕ → V) (same : V → V → Bool) (clear : V → Bool) : Type 0 where
  pub shift_none : (v : V) → same (shift v 0) v ≡ true
  pub shift_more : (v : V) (a b : ℕ) → same (shift (shift v a) b) (shift v (a + b)) ≡ true
  pub same_self : (v : V) → same v v ≡ true
  pub same_back : (v w : V) → same v w ≡ true → same w v ≡ true
  pub same_on : (u v w : V) → same u v ≡ true → same v w ≡ true → same u w ≡ true
  pub shift_same : (v w : V) (k : ℕ) → same v w ≡ true → same (shift v k) (shift w k) ≡ true
  pub clear_shift : (v : V) (k : ℕ) → clear (shift v k) ≡ clear v
  pub clear_same : (v w : V) → same v w ≡ true → clear v ≡ clear w
