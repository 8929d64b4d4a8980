-- What a target answers that is judged for a run.
use Rattle.std.proofs.Common.{◌≡◌, ℕ, ◌+◌, ◌^◌, ◌<◌, ◌≤◌, length, Ok, Err, ap, arith}
use Rattle.table.specs.Checks.{Answers, check, end}
use Rattle.roster.specs.declared.entry.Device.{Device}
use Rattle.roster.specs.declared.entry.Entries.{Entries}
use Rattle.roster.specs.declared.stripe.StripeSet.{StripeSet}
use Rattle.roster.specs.declared.refusal.RosterRefusal.TheVariants.{LeavesTarget, TouchesArea}
use Rattle.roster.specs.declared.target.Target.TheVariants.{Linear, Striped}
use Rattle.roster.specs.Refusals.{number_of}
use Rattle.roster.specs.Rosters.{device_at, set_at, size_of, SoundDevices, AllClear}
use Rattle.roster.specs.Places.{Stays}
use Rattle.roster.specs.Judgements.{TargetJudged}
use Rattle.roster.proofs.Added.{device_sound}
use Rattle.roster.proofs.Stripes.{set_size}
use Rattle.roster.proofs.Runs.{run_of, run_stays, run_ends, linear_clears}

module _ (E : Entries) (sound : SoundDevices E) (d s l : ℕ) (found : Device) (listed : Answers number_of (check 5 (d < length E.devices.items) end) (Unit {0}) (λ x. x ≡ device_at E d) (Ok found)) where
  small : (device_at E d).size ≤ 2 ^ 40
  small = (device_sound E sound d listed.1.0).3

  same : found.size ≡ (device_at E d).size
  same = ap (λ x. x.size) listed.0

  stays : s + l ≤ found.size → Stays E (Linear d s) l
  stays inside = run_stays s l (device_at E d).size (omega (arith, small)) (omega (arith, same, inside))

  pub linear_leaves : s < 2 ^ 64 → 0 < l → (s + l ≤ found.size → ⊥) → TargetJudged E (Linear d s) l (Err LeavesTarget)
  linear_leaves fits some past =
      (tt, (listed.1.0, (tt, λ below. past (omega (arith, same, run_ends s l (device_at E d).size (omega (arith, small)) fits some below)))))

  pub linear_touches : s + l ≤ found.size → (AllClear E (run_of E d s l) → ⊥) → TargetJudged E (Linear d s) l (Err TouchesArea)
  linear_touches inside meets =
      (tt, (listed.1.0, (tt, (stays inside, λ clears. meets ((linear_clears E d s l (omega (arith, small, same, inside))).1 clears)))))

  pub linear_passes : s + l ≤ found.size → AllClear E (run_of E d s l) → TargetJudged E (Linear d s) l (Ok tt)
  linear_passes inside clear =
      let clears = (linear_clears E d s l (omega (arith, small, same, inside))).0 clear in
      (λ k lt. (listed.1.0, tt, stays inside k lt, clears k lt), (listed.1.0, (tt, (stays inside, (clears, tt)))))

module _ (E : Entries) (n o l : ℕ) (found : StripeSet) (listed : Answers number_of (check 6 (n < length E.sets.items) end) (Unit {0}) (λ x. x.numbers ≡ set_at E n) (Ok found)) where
  pub striped_leaves : o < 2 ^ 64 → 0 < l → (o + l ≤ size_of found.numbers → ⊥) → TargetJudged E (Striped n o) l (Err LeavesTarget)
  striped_leaves fits some past =
      let same : size_of found.numbers ≡ size_of (set_at E n) = ap size_of listed.0 in
      (tt, (tt, (listed.1.0, λ below. past (omega (arith, same, run_ends o l (size_of (set_at E n)) (omega (arith, same, set_size found)) fits some below)))))
