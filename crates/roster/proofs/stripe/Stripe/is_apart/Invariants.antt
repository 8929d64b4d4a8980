use Rattle.std.proofs.Common.{ℕ, ◌<◌}
use Rattle.roster.specs.Rosters.{area_of, SetClear}
use Rattle.roster.proofs.stripe.Stripe.is_apart.Given as goal

abbrev pub invariant-loop-column : goal.invariant-loop-column
invariant-loop-column l = (i : ℕ) → i < l.column-index → SetClear l.other.numbers.now (area_of l.self.numbers.now i)
