use Rattle.std.proofs.Common.{ℕ, ◌<◌}
use Rattle.roster.specs.Rosters.{area_of, Share}
use Rattle.roster.proofs.stripe.Stripe.is_clear.Given as goal

abbrev pub invariant-loop-column : goal.invariant-loop-column
invariant-loop-column l = (i : ℕ) → i < l.column-index → Share (area_of l.self.numbers.now i) l.run → ⊥
