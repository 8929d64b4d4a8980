use Rattle.std.proofs.Common.{get_or, refl, arith, below_more}
use Rattle.std.proofs.lemmas.Bool.{false≢true}
use Rattle.roster.specs.Rosters.{no_set}
use Rattle.roster.specs.Additions.{Apart}
use Rattle.roster.proofs.Added.{all_listed}
use Rattle.roster.proofs.addition.OpenRoster.is_apart_from_listed.Goals as goal

pub returns-then-not-is_apart : goal.returns-then-not-is_apart
returns-then-not-is_apart c =
    (λ f. absurd (false≢true f), λ all. c.if-not-is_apart.ensures.1 ((rw (← c.as_slice-sets.ensures.value) at all) c.loop-numbers.numbers-index no_set (omega arith)))

pub loop-numbers-preserved : goal.loop-numbers-preserved
loop-numbers-preserved c =
    below_more (λ k. Apart (get_or c.as_slice-sets.result.now k no_set) c.args.stripe.now.numbers.now) c.loop-numbers.numbers-index c.loop-numbers.invariant (c.if-not-is_apart.ensures.0 refl)

pub returns : goal.returns
returns c = (λ _. all_listed (λ e. Apart e c.args.stripe.now.numbers.now) c.as_slice-sets.ensures.value (omega arith) c.loop-numbers.invariant, λ _. refl)
