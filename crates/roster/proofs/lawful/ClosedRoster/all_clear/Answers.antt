use Rattle.std.proofs.Common.{refl, arith}
use Rattle.roster.specs.Rosters.{SetClear}
use Rattle.roster.proofs.Added.{all_listed}
use Rattle.roster.proofs.lawful.ClosedRoster.all_clear.Goals as goal

pub returns : goal.returns
returns c = (λ _. all_listed (λ e. SetClear e c.args.run) c.as_slice-sets.ensures.value (omega arith) c.loop-numbers.invariant, λ _. refl)
