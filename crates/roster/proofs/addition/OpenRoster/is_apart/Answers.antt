use Rattle.std.proofs.Common.{refl}
use Rattle.roster.proofs.Added.{apart_judged}
use Rattle.roster.proofs.addition.OpenRoster.is_apart.Goals as goal

pub returns-then-is_apart_from_listed : goal.returns-then-is_apart_from_listed
returns-then-is_apart_from_listed c =
    let told = apart_judged c.args.self.now.entries c.args.stripe.now.numbers.now c.args.self.now.sound in
    (λ own. told.0 (c.if-is_apart_from_listed.ensures.0 refl, c.is_apart_within.ensures.0 own), λ clean. c.is_apart_within.ensures.1 (told.1 clean).1)
