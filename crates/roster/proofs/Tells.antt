-- On fair targets the place tells the target: linear ones lie outside all areas, areas share no sector, and a set's offsets go one to one.
use Rattle.std.proofs.Common.{◌≡◌, ℕ, ◌+◌, ◌%◌, ◌^◌, ◌<◌, ◌≤◌, length, true, ◌&&◌, eqb, sym, refl, ap, ◌∙◌, subst, ⊎_elim, arith}
use Rattle.std.proofs.lemmas.Bool.{cases_eq, eq-eqb, and_from}
use Rattle.roster.specs.declared.entry.Entries.{Entries}
use Rattle.roster.specs.declared.place.Place.TheVariants.{At}
use Rattle.roster.specs.declared.target.Target.TheVariants.{Zero, Error, Linear, Striped}
use Rattle.roster.specs.Rosters.{set_at, column_at, span, size_of, area_of, Holds, Listed, Shaped, Sound}
use Rattle.roster.specs.Places.{column_of, stripe_place, Fair, PlacesTell}
use Rattle.roster.proofs.Stripes.{depth_of, column_below, depth_below, offset_back}

at_device : (d s e t : ℕ) → At d s ≡ At e t → d ≡ e
at_device d s e t p = cc

at_sector : (d s e t : ℕ) → At d s ≡ At e t → s ≡ t
at_sector d s e t p = cc

-- a target is same as one with equal parts
parts_same : (a b c d : ℕ) → a ≡ b → c ≡ d → (eqb a b && eqb (c % 2 ^ 64) (d % 2 ^ 64)) ≡ true
parts_same a b c d p q =
    and_from (eqb a b) (eqb (c % 2 ^ 64) (d % 2 ^ 64)) (eq-eqb a b p) (eq-eqb (c % 2 ^ 64) (d % 2 ^ 64) (ap (λ n. n % 2 ^ 64) q))

module _ (E : Entries) (s : Sound E) where
  -- the sector of a striped target, and the device that holds it
  abbrev sector_of : ℕ → ℕ → ℕ
  sector_of n o = (column_at (set_at E n) (column_of (set_at E n) o)).base + depth_of (set_at E n) o

  abbrev device_of : ℕ → ℕ → ℕ
  device_of n o = (column_at (set_at E n) (column_of (set_at E n) o)).device

  set_shaped : (n : ℕ) → n < length E.sets.items → Shaped (set_at E n)
  set_shaped n h = s.shaped n _ h

  module _ (n o : ℕ) (listed : n < length E.sets.items) (below : o < size_of (set_at E n)) where
    in_column : Listed E n (column_of (set_at E n) o)
    in_column = (listed, column_below (set_at E n) (set_shaped n listed) o)

    -- a striped target lies in the area of its column
    in_area : Holds (area_of (set_at E n) (column_of (set_at E n) o)) (device_of n o) (sector_of n o)
    in_area = (refl, omega arith, omega (arith, depth_below (set_at E n) (set_shaped n listed) o below))

  -- a linear target in an area is not fair
  outside : (d t n o : ℕ) → Fair E (Linear d t) → Fair E (Striped n o) → At d t ≡ stripe_place (set_at E n) o → ⊥
  outside d t n o linear striped p =
      let a = in_area n o striped.1 striped.2 in
      let q : device_of n o ≡ d = sym (at_device _ _ _ _ p) in
      let r : sector_of n o ≡ t = sym (at_sector _ _ _ _ p) in
      linear.3 (record {
        n = n;
        j = column_of (set_at E n) o;
        listed = in_column n o striped.1 striped.2;
        holds = (a.0 ∙ q, subst (λ x. (column_at (set_at E n) (column_of (set_at E n) o)).base ≤ x) r a.1, subst (λ x. x < (column_at (set_at E n) (column_of (set_at E n) o)).base + span (set_at E n)) r a.2);
      })

  module _ (n o m p : ℕ) (one : Fair E (Striped n o)) (other : Fair E (Striped m p)) (same : stripe_place (set_at E n) o ≡ stripe_place (set_at E m) p) where
    same_device : device_of n o ≡ device_of m p
    same_device = at_device _ _ _ _ same

    same_sector : sector_of n o ≡ sector_of m p
    same_sector = at_sector _ _ _ _ same

    -- were it not for one and the same column, two areas would share the sector
    clash : ((n ≡ m) × (column_of (set_at E n) o ≡ column_of (set_at E m) p) → ⊥) → ⊥
    clash differ =
        let a = in_area n o one.1 one.2 in
        let b = in_area m p other.1 other.2 in
        s.apart (record {
          n = n;
          j = column_of (set_at E n) o;
          m = m;
          k = column_of (set_at E m) p;
          one = in_column n o one.1 one.2;
          other = in_column m p other.1 other.2;
          two = differ;
          share = record {
            device = device_of m p;
            sector = sector_of m p;
            here = (same_device, subst (λ x. (column_at (set_at E n) (column_of (set_at E n) o)).base ≤ x) same_sector a.1, subst (λ x. x < (column_at (set_at E n) (column_of (set_at E n) o)).base + span (set_at E n)) same_sector a.2);
            there = b;
          };
        })

  -- within one column of one set the sector tells the offset
  same_offset : (n o p : ℕ) → Fair E (Striped n o) → column_of (set_at E n) o ≡ column_of (set_at E n) p → sector_of n o ≡ sector_of n p → o ≡ p
  same_offset n o p fair column sector =
      let bases : (column_at (set_at E n) (column_of (set_at E n) o)).base ≡ (column_at (set_at E n) (column_of (set_at E n) p)).base = ap (λ j. (column_at (set_at E n) j).base) column in
      offset_back (set_at E n) (set_shaped n fair.1) o p column (omega (arith, bases, sector))

  stripes_tell : (n o m p : ℕ) → Fair E (Striped n o) → Fair E (Striped m p) → stripe_place (set_at E n) o ≡ stripe_place (set_at E m) p → (n ≡ m) × (o ≡ p)
  stripes_tell n o m p one other same =
      ⊎_elim
      (λ e. ⊎_elim
      (λ f. (e, same_offset n o p one (f ∙ ap (λ x. column_of (set_at E x) p) (sym e)) (same_sector n o m p one other same ∙ ap (λ x. sector_of x p) (sym e))))
      (λ g. absurd (clash n o m p one other same (λ h. g h.1)))
      (cases_eq (column_of (set_at E n) o) (column_of (set_at E m) p)))
      (λ g. absurd (clash n o m p one other same (λ h. g h.0)))
      (cases_eq n m)

  pub places_tell : PlacesTell E
  places_tell Zero Zero one other p = refl
  places_tell Error Error one other p = refl
  places_tell (Linear d t) (Linear e u) one other p = parts_same d e t u (at_device d t e u p) (at_sector d t e u p)
  places_tell (Linear d t) (Striped n o) one other p = absurd (outside d t n o one other p)
  places_tell (Striped n o) (Linear d t) one other p = absurd (outside d t n o other one (sym p))
  places_tell (Striped n o) (Striped m q) one other p = let h = stripes_tell n o m q one other p in parts_same n m o q h.0 h.1
  places_tell _ _ one other p = cc
