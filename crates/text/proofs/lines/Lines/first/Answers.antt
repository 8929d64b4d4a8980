use Rattle.std.proofs.Common.{rules, arith}
use Rattle.text.proofs.Walking.{steps_past}
use Rattle.text.proofs.lines.Lines.first.Goals as goal

pub returns : goal.returns
returns c =
    steps_past _ c.args.self.now.roster.now.sound _ _ _ (search rules) _ _ c.args.self.now.goes c.args.self.now.within
    _ _ _ c.end_of-end.ensures c.value_at.ensures c.first_line-line.ensures (omega (arith, c.if-line-rest.false))
