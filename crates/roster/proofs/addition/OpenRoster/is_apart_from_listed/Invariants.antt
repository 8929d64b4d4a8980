use Rattle.std.proofs.Common.{ℕ, ◌<◌, get_or}
use Rattle.roster.specs.Rosters.{no_set}
use Rattle.roster.specs.Additions.{Apart}
use Rattle.roster.proofs.addition.OpenRoster.is_apart_from_listed.Given as goal

abbrev pub invariant-loop-numbers : goal.invariant-loop-numbers
invariant-loop-numbers l = (k : ℕ) → k < l.numbers-index → Apart (get_or l.sets k no_set) l.stripe.numbers.now
