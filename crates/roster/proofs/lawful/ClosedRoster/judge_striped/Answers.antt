use Rattle.std.proofs.Common.{arith}
use Rattle.std.proofs.lemmas.Bool.{false≢true}
use Rattle.roster.proofs.Judged.{striped_leaves}
use Rattle.roster.proofs.lawful.ClosedRoster.judge_striped.Goals as goal

pub returns-then-not-is_inside : goal.returns-then-not-is_inside
returns-then-not-is_inside c =
    striped_leaves c.args.self.now.entries _ _ _ c.in_ok-listed_set.field-0 c.in_ok-listed_set.ensures (omega arith) (omega arith) (λ h. false≢true (c.if-not-is_inside.ensures.1 (omega (arith, h))))
