use Rattle.roster.proofs.Tells.{places_tell}
use Rattle.roster.proofs.open.OpenRoster.close.Goals as goal

pub returns-clause-tells : goal.returns-clause-tells
returns-clause-tells c = places_tell c.args.self.entries c.args.self.sound
