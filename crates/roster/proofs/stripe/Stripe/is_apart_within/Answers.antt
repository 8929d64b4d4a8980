use Rattle.std.proofs.Common.{ℕ, ◌<◌, refl, arith, below_more}
use Rattle.std.proofs.lemmas.List.{length-take-le}
use Rattle.roster.specs.Rosters.{area_of, Share}
use Rattle.roster.proofs.stripe.Stripe.is_apart_within.Goals as goal

pub loop-k-preserved : goal.loop-k-preserved
loop-k-preserved c =
    below_more (λ m. (i : ℕ) → i < m → Share (area_of c.args.self.now.numbers.now i) (area_of c.args.self.now.numbers.now m) → ⊥) c.loop-k.k c.loop-k.invariant
    (λ i h. c.loop-earlier.invariant i (omega (arith, length-take-le c.loop-k.k c.counted-columns.result.now (omega arith))))

pub returns : goal.returns
returns c =
    let many = c.counted-columns.ensures.many (omega (arith, c.args.self.now.shaped)) in
    (λ _ k h. c.loop-k.invariant k (omega arith), λ _. refl)
