use Rattle.std.proofs.Common.{refl, arith}
use Rattle.std.proofs.lemmas.Bool.{false≢true}
use Rattle.roster.proofs.Judged.{linear_leaves, linear_touches, linear_passes}
use Rattle.roster.proofs.lawful.ClosedRoster.judge_linear.Goals as goal

pub returns-then-not-is_inside : goal.returns-then-not-is_inside
returns-then-not-is_inside c =
    linear_leaves c.args.self.now.entries c.args.self.now.sound.devices _ _ _ _ c.in_ok-size.ensures (omega arith) (omega arith) (λ h. false≢true (c.if-not-is_inside.ensures.1 h))

pub returns-then-not-all_clear : goal.returns-then-not-all_clear
returns-then-not-all_clear c =
    linear_touches c.args.self.now.entries c.args.self.now.sound.devices _ _ _ _ c.in_ok-size.ensures (c.if-not-is_inside.ensures.0 refl) (λ h. false≢true (c.if-not-all_clear.ensures.1 h))

pub returns : goal.returns
returns c =
    linear_passes c.args.self.now.entries c.args.self.now.sound.devices _ _ _ _ c.in_ok-size.ensures (c.if-not-is_inside.ensures.0 refl) (c.if-not-all_clear.ensures.0 refl)
