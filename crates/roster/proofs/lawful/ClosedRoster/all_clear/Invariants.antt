use Rattle.std.proofs.Common.{ℕ, ◌<◌, get_or}
use Rattle.roster.specs.Rosters.{no_set, SetClear}
use Rattle.roster.proofs.lawful.ClosedRoster.all_clear.Given as goal

abbrev pub invariant-loop-numbers : goal.invariant-loop-numbers
invariant-loop-numbers l = (k : ℕ) → k < l.numbers-index → SetClear (get_or l.sets k no_set) l.run
