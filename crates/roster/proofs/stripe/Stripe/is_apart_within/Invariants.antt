use Rattle.std.proofs.Common.{ℕ, ◌<◌}
use Rattle.roster.specs.Rosters.{area_of, Share}
use Rattle.roster.proofs.stripe.Stripe.is_apart_within.Given as goal

abbrev pub invariant-loop-k : goal.invariant-loop-k
invariant-loop-k l = (m : ℕ) → m < l.k → (i : ℕ) → i < m → Share (area_of l.self.numbers.now i) (area_of l.self.numbers.now m) → ⊥

abbrev pub invariant-loop-earlier : goal.invariant-loop-earlier
invariant-loop-earlier l = (i : ℕ) → i < l.earlier-index → Share (area_of l.self.numbers.now i) (area_of l.self.numbers.now l.k) → ⊥
