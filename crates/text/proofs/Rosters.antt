-- Targets under a sound roster: they can be looked up, and their offsets do not wrap.
use Rattle.std.proofs.Common.{◌≡◌, ℕ, ◌+◌, ◌*◌, ◌%◌, ◌^◌, ◌<◌, ◌≤◌, refl, ap, arith, length}
use Rattle.std.proofs.lemmas.Nat.{mul-le}
use Rattle.roster.specs.declared.entry.Entries.{Entries}
use Rattle.roster.specs.declared.target.Target.{Target}
use Rattle.roster.specs.declared.target.Target.TheVariants.{Zero, Error, Linear, Striped}
use Rattle.roster.specs.Rosters.{no_device, no_set, set_at, span, size_of, Sound}
use Rattle.roster.specs.Places.{place_of, Fair}
use Rattle.roster.specs.Targets.{shift_target}
use Rattle.text.specs.Lines.{lies, maps}
use Rattle.text.specs.Walks.{Usable}
use Rattle.text.specs.Printing.{spot_of, whole_of, offset_of, outcome_of}
use Rattle.text.specs.Steps.{Proper, first_line}
use Rattle.text.proofs.Geometry.{length_columns, stripe_is}

-- a sum that does not reach 2 to the power 64
plain_on : (s k : ℕ) → (s + 0) % 2 ^ 64 < 2 ^ 50 → k ≤ 2 ^ 40 → (s + k) % 2 ^ 64 ≡ s % 2 ^ 64 + k
plain_on s k low few = omega arith

module _ (E : Entries) (sound : Sound E) where
  pub usable_set : (n : ℕ) → n < length E.sets.items → Usable E (set_at E n)
  usable_set n listed =
      record {
        shaped = sound.shaped n no_set listed;
        housed = λ j less. let here = sound.housed n no_set listed j less in (here.0, omega (arith, here.1, (sound.devices _ no_device here.0).3));
      }

  -- shifting leaves the whole that a target is a sector of
  pub proper_shifted : (t : Target) (k : ℕ) → Fair E (shift_target t k) → Proper (whole_of E t)
  proper_shifted Zero k fair = tt
  proper_shifted Error k fair = tt
  proper_shifted (Linear d s) k fair = tt
  proper_shifted (Striped n o) k fair =
      let shaped = sound.shaped n no_set fair.1 in
      (omega (arith, shaped), omega (arith, shaped, length_columns E (set_at E n)))

  -- a set is not larger than eight devices
  pub size_small : (n : ℕ) → n < length E.sets.items → size_of (set_at E n) ≤ 8 * 2 ^ 40
  size_small n listed =
      let u = usable_set n listed in
      mul-le (set_at E n).width (span (set_at E n)) 8 (2 ^ 40) (omega (arith, u.shaped))
      (omega (arith, (u.housed 0 (omega (arith, u.shaped))).1))

  -- the first line of an extent, told from a target further on
  pub first_on : (t : Target) (k at left : ℕ) → Fair E (shift_target t 0) → k ≤ 2 ^ 40 → first_line (whole_of E (shift_target t k)) (offset_of (shift_target t k)) at left ≡ first_line (whole_of E t) (offset_of t + k) at left
  first_on Zero k at left fair few = refl
  first_on Error k at left fair few = refl
  first_on (Linear d s) k at left fair few =
      let on = plain_on s k (omega (arith, fair.2, (sound.devices d no_device fair.0).3)) few in
      let same : (s + k) % 2 ^ 64 % 2 ^ 64 ≡ s % 2 ^ 64 + k = omega arith in
      ap (λ o. first_line (whole_of E (Linear d s)) o at left) same
  first_on (Striped n o) k at left fair few =
      let on = plain_on o k (omega (arith, fair.2, size_small n fair.1)) few in
      let same : (o + k) % 2 ^ 64 % 2 ^ 64 ≡ o % 2 ^ 64 + k = omega arith in
      ap (λ p. first_line (whole_of E (Striped n o)) p at left) same

  -- what the whole of a target makes of a sector is the place of the target further on
  pub maps_place : (t : Target) (k : ℕ) → Fair E (shift_target t 0) → k ≤ 2 ^ 40 → maps (whole_of E t) (offset_of t + k) ≡ outcome_of E (place_of E (shift_target t k))
  maps_place Zero k fair few = refl
  maps_place Error k fair few = refl
  maps_place (Linear d s) k fair few =
      let on = plain_on s k (omega (arith, fair.2, (sound.devices d no_device fair.0).3)) few in
      let same : 0 + (s % 2 ^ 64 + k) ≡ (s + k) % 2 ^ 64 = omega arith in
      ap (λ i. lies (spot_of E d i)) same
  maps_place (Striped n o) k fair few =
      let on = plain_on o k (omega (arith, fair.2, size_small n fair.1)) few in
      rw on (ap lies (stripe_is E (set_at E n) (usable_set n fair.1) (o % 2 ^ 64 + k)))
