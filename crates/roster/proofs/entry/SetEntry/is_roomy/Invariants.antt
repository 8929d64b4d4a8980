use Rattle.std.proofs.Common.{ℕ, ◌+◌, ◌^◌, ◌<◌, ◌≤◌, get_or}
use Rattle.roster.specs.Rosters.{column_at, span}
use Rattle.roster.proofs.entry.SetEntry.is_roomy.Given as goal

abbrev pub invariant-loop-j : goal.invariant-loop-j
invariant-loop-j l = (i : ℕ) → i < l.j → ((column_at l.self i).base + span l.self ≤ get_or l.sizes i 0) × (get_or l.sizes i 0 ≤ 2 ^ 40)
