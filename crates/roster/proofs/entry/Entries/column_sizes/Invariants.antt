use Rattle.std.proofs.Common.{◌≡◌, ℕ, ◌<◌, length, get_or}
use Rattle.roster.specs.Rosters.{device_at, column_at}
use Rattle.roster.proofs.entry.Entries.column_sizes.Given as goal

abbrev pub invariant-loop-j : goal.invariant-loop-j
invariant-loop-j l = (length l.sizes ≡ 8) × ((i : ℕ) → i < l.j → get_or l.sizes i 0 ≡ (device_at l.self (column_at l.numbers i).device).size)
