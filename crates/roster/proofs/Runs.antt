-- Runs of sectors: what holds of every sector, by where the run ends and which areas it meets.
use Rattle.std.proofs.Common.{◌≡◌, ℕ, ◌+◌, ◌-◌, ◌%◌, ◌^◌, ◌<◌, ◌≤◌, length, ◌↔◌, sym, refl, ◌∙◌, mod-eq_of_lt, ⊎_elim, arith}
use Rattle.std.proofs.lemmas.Bool.{cases_lt}
use Rattle.std.proofs.lemmas.List.Elements.{All-from_get_or}
use Rattle.roster.specs.declared.area.Area.{Area}
use Rattle.roster.specs.declared.entry.Entries.{Entries}
use Rattle.roster.specs.declared.target.Target.TheVariants.{Linear}
use Rattle.roster.specs.Rosters.{no_set, set_at, SetClear, AllClear}
use Rattle.roster.specs.Places.{Clears}

module _ (s l size : ℕ) (small : size ≤ 2 ^ 50) where
  -- a run that ends within a size stays below it
  pub run_stays : s + l ≤ size → (k : ℕ) → k < l → (s + k) % 2 ^ 64 < size
  run_stays inside k lt =
      let e : (s + k) % 2 ^ 64 ≡ s + k = mod-eq_of_lt (omega arith) in omega arith

  -- and one that stays below it ends within it
  pub run_ends : s < 2 ^ 64 → 0 < l → ((k : ℕ) → k < l → (s + k) % 2 ^ 64 < size) → s + l ≤ size
  run_ends fits some stays =
      ⊎_elim
      (λ past.
      let first : (s + 0) % 2 ^ 64 ≡ s + 0 = mod-eq_of_lt (omega arith) in
      let begins : s < size = omega (arith, stays 0 some) in
      let end : (s + (size - s)) % 2 ^ 64 ≡ s + (size - s) = mod-eq_of_lt (omega arith) in
      absurd (let z : ⊥ = omega (arith, stays (size - s) (omega arith)) in z))
      (λ inside. inside)
      (cases_lt size (s + l))

module _ (E : Entries) (d s l : ℕ) where
  -- the run as an area
  abbrev pub run_of : Area
  run_of = record { device = d; from = s; to = s + l }

  pub clears_from : s + l ≤ 2 ^ 40 → AllClear E run_of → Clears E (Linear d s) l
  clears_from small clear k lt o =
      let e : (s + k) % 2 ^ 64 ≡ s + k = mod-eq_of_lt (omega arith) in
      let h = o.holds in
      clear o.n _ o.listed.0 o.j o.listed.1
      (record { device = d; sector = (s + k) % 2 ^ 64; here = h; there = (refl, omega arith, omega arith) })

  clears_set : s + l ≤ 2 ^ 40 → Clears E (Linear d s) l → (n : ℕ) → n < length E.sets.items → SetClear (set_at E n) run_of
  clears_set small clears n listed j below share =
      let h = share.here in
      let t = share.there in
      let e : (s + (share.sector - s)) % 2 ^ 64 ≡ s + (share.sector - s) = mod-eq_of_lt (omega (arith, t.1, t.2)) in
      let f : (s + (share.sector - s)) % 2 ^ 64 ≡ share.sector = e ∙ omega (arith, t.1) in
      clears (share.sector - s) (omega (arith, t.1, t.2))
      (record { n = n; j = j; listed = (listed, below); holds = (h.0 ∙ sym t.0, omega (arith, h.1), omega (arith, h.2)) })

  -- a run within the limit touches no area exactly if none of its sectors does
  pub linear_clears : s + l ≤ 2 ^ 40 → AllClear E run_of ↔ Clears E (Linear d s) l
  linear_clears small =
      (clears_from small, λ clears. All-from_get_or (λ e. SetClear e run_of) E.sets.items no_set (clears_set small clears))
