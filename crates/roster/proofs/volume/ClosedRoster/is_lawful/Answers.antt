use Rattle.std.proofs.Common.{rules}
use Rattle.roster.proofs.volume.ClosedRoster.is_lawful.Goals as goal

pub returns : goal.returns
returns c = search rules
