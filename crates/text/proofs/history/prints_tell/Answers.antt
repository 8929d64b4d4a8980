use Rattle.text.proofs.Ruling.{prints_tell}
use Rattle.text.proofs.history.prints_tell.Goals as goal

pub returns : goal.returns
returns c = prints_tell
