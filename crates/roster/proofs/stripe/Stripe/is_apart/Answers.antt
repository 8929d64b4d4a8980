use Rattle.std.proofs.Common.{refl, arith}
use Rattle.roster.proofs.stripe.Stripe.is_apart.Goals as goal

pub returns : goal.returns
returns c =
    let many = c.counted-column-items.ensures.many (omega (arith, c.args.self.now.shaped)) in
    (λ _ j h. c.loop-column.invariant j (omega arith), λ _. refl)
