use Rattle.std.proofs.Common.{arith}
use Rattle.roster.proofs.Stripes.{stripe_size}
use Rattle.roster.proofs.stripe.Stripe.size.Goals as goal

pub overflow_mul-result-2 : goal.overflow_mul-result-2
overflow_mul-result-2 c = omega (arith, stripe_size c.args.self.now)
