-- Sums and products over a stripe set that a roster may list.
use Rattle.std.proofs.Common.{◌≡◌, ℕ, ◌+◌, ◌-◌, ◌*◌, ◌/◌, ◌%◌, ◌^◌, ◌<◌, ◌≤◌, min, true, false, ◌⊎◌, List, map, length, sym, refl, ap, ◌∙◌, inl, inr, mod-eq_of_lt, mul_assoc, mul_comm, add-mul, one-mul, arith}
use Rattle.std.proofs.lemmas.Nat.{mul-lt, mul-le, div_below, mod_below}
use Rattle.std.proofs.lemmas.Bool.{cond-true, cond-false, and_from, and_left, and_right, eq-eqb, ne_eqb, le-leb, lt-leb}
use Rattle.std.proofs.lemmas.List.FromFn.{length-map-range_with_len, get_or-map-range_with_len}
use Rattle.roster.specs.declared.entry.Entries.{Entries}
use Rattle.roster.specs.declared.entry.SetEntry.{SetEntry}
use Rattle.roster.specs.declared.place.Place.TheVariants.{At}
use Rattle.roster.specs.Places.{stripe_place}
use Rattle.roster.specs.Rosters.{column_at, span, size_of}
use Rattle.text.specs.declared.spot.Spot.{Spot}
use Rattle.text.specs.declared.line.Mapping.TheVariants.{Striped as striped, Linear as linear}
use Rattle.text.specs.Lines.{line, further, stripe, nowhere}
use Rattle.text.specs.Steps.{whole_rows, first_line, rows_line}
use Rattle.text.specs.Printing.{spot_of, column_spot, column_spots, outcome_of}
use Rattle.text.specs.Walks.{Usable}

pub length_columns : (E : Entries) (e : SetEntry) → length (column_spots E e) ≡ e.width
length_columns E e = length-map-range_with_len (column_spot E e) 0 e.width

module _ (E : Entries) (e : SetEntry) (u : Usable E e) where
  pub row_some : 0 < e.width * e.chunk
  row_some = mul-lt 0 0 e.width e.chunk (omega (arith, u.shaped)) (omega (arith, u.shaped))

  module _ (row o : ℕ) (size : row ≡ e.width * e.chunk) where
    -- the row of an offset is one of the set's
    pub row_below : o < size_of e → o / row < e.rows
    row_below inside =
        div_below o row e.rows (omega (arith, row_some))
        (rw size (omega (arith, mul_comm e.rows (e.width * e.chunk), mul_assoc e.width e.chunk e.rows)))

    -- whole rows in front stay within the area
    pub skipped_below : o < size_of e → o / row * e.chunk < span e
    skipped_below inside =
        let chunks = mul-le (o / row + 1) e.chunk e.rows e.chunk (omega (arith, row_below inside)) (omega arith) in
        omega (arith, u.shaped, add-mul (o / row) 1 e.chunk, one-mul e.chunk, mul_comm e.rows e.chunk)

    -- the line of whole rows, with the columns as they were collected
    pub rows_line_is : (at left n : ℕ) (cols : List Spot) → n ≡ left / row * row → cols ≡ map (further (o / row * e.chunk)) (column_spots E e) → line at n (striped e.chunk cols) ≡ rows_line e.chunk (column_spots E e) o at left
    rows_line_is at left n cols rows is = rw (length_columns E e, rows, is, size) refl

  -- the spot of an offset
  pub stripe_is : (o : ℕ) → stripe e.chunk (column_spots E e) o ≡ spot_of E (column_at e (o / e.chunk % e.width)).device ((column_at e (o / e.chunk % e.width)).base + (o / e.chunk / e.width * e.chunk + o % e.chunk))
  stripe_is o =
      let j = o / e.chunk % e.width in
      let lt = mod_below (o / e.chunk) e.width (omega (arith, u.shaped)) in
      let spot = get_or-map-range_with_len (column_spot E e) 0 e.width j j nowhere lt (omega arith) in
      rw (length_columns E e, spot)

  module _ (o at left : ℕ) (fits : o < 2 ^ 64) where
    plain : o % 2 ^ 64 ≡ o
    plain = mod-eq_of_lt fits

    pub first_rows_is : o % (e.width * e.chunk) ≡ 0 → e.width * e.chunk ≤ left → first_line (striped e.chunk (column_spots E e)) (o % 2 ^ 64) at left ≡ rows_line e.chunk (column_spots E e) o at left
    first_rows_is level more =
        let test : whole_rows e.chunk (column_spots E e) o left ≡ true = rw (length_columns E e) (and_from _ _ (eq-eqb _ _ level) (le-leb _ _ more)) in
        rw plain (cond-true _ _ _ test)

    -- the rest of a chunk, where its place is the one of the offset
    pub first_chunk_is : (row n d k : ℕ) → row ≡ e.width * e.chunk → (o % row ≡ 0) × (left < row) ⊎ (o % row ≡ 0 → ⊥) → n ≡ min left (e.chunk - o % e.chunk) → At d k ≡ stripe_place e o → line at n (linear (spot_of E d k)) ≡ first_line (striped e.chunk (column_spots E e)) (o % 2 ^ 64) at left
    first_chunk_is row n d k size why taken place =
        let seen = ap (outcome_of E) place in
        let there : spot_of E d k ≡ stripe e.chunk (column_spots E e) o = rw (stripe_is o) (cc) in
        let test : whole_rows e.chunk (column_spots E e) o left ≡ false = rw (length_columns E e, ← size)
        (elim why [ inl short ↦ and_right _ _ (lt-leb _ _ short.1) | inr uneven ↦ and_left _ _ (ne_eqb _ _ uneven) ]) in
        (λ i. line at (taken i) (linear (there i))) ∙ sym (rw plain (cond-false _ _ _ test))
