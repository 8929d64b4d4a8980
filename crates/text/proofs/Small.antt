-- Every number in the lines of an extent has 64 bits.
use Rattle.std.proofs.Common.{ℕ, zero, suc, ◌+◌, ◌-◌, ◌*◌, ◌/◌, ◌%◌, ◌^◌, ◌<◌, ◌≤◌, eqb, List, length, get_or, mul_comm, arith}
use lib.ListN.{length-map}
use Rattle.std.proofs.lemmas.Nat.{div-add-mod', mod_below, mul-le}
use Rattle.std.proofs.ByRecursion.{All-get_or, All-map, All-weaker}
use Rattle.std.proofs.lemmas.Bool.{cond_both, eqb-false}
use Rattle.std.specs.List.{AllByRecursion}
use Rattle.text.specs.declared.spot.Spot.{Spot}
use Rattle.text.specs.declared.line.Mapping.{Mapping}
use Rattle.text.specs.declared.line.Mapping.TheVariants.{Linear as linear, Striped as striped, Zero as zeroes, Error as errors}
use Rattle.text.specs.Lines.{further, nowhere}
use Rattle.text.specs.Spelling.{SpotBelow, MappingBelow, SmallSpot, SmallLine}
use Rattle.text.specs.Steps.{row_size, whole_rows, rows_line, chunk_line, first_line, lines_by, extent_lines, Proper}
use Rattle.text.proofs.Stepping.{first_plain}

-- numbers so low that offsets can be added to them
abbrev pub Low : Spot → Type 0
Low = SpotBelow (2 ^ 60)

abbrev pub Modest : Mapping → Type 0
Modest = MappingBelow (2 ^ 60)

small_further : (k : ℕ) (s : Spot) → k < 2 ^ 60 → Low s → SmallSpot (further k s)
small_further k s few low = (omega arith, omega arith, omega arith)

module _ (c : ℕ) (cols : List Spot) (modest : Modest (striped c cols)) (chunk : 0 < c) (columns : 0 < length cols) (o at left : ℕ) (few : o < 2 ^ 60) (start : at < 2 ^ 60) (size : left ≤ 2 ^ 60) where
  small_rows : SmallLine (rows_line c cols o at left)
  small_rows =
      let row = row_size c cols in
      let wide = mul-le 1 c (length cols) c columns (omega arith) in
      let here = div-add-mod' o row in
      let all = div-add-mod' left row in
      let skip = mul-le (o / row) c (o / row) row (omega arith) (omega arith) in (
        omega arith,
        omega arith,
        (
          simp length-map (omega (arith, modest.0)),
          omega (arith, modest.1),
          All-map SmallSpot (further (o / row * c)) cols (All-weaker Low (λ s. SmallSpot (further (o / row * c) s)) (λ s low. small_further (o / row * c) s (omega arith) low) cols modest.2),
        ),
      )

  small_chunk : SmallLine (chunk_line c cols o at left)
  small_chunk =
      let q = o / c in
      let there = div-add-mod' o c in
      let round = div-add-mod' q (length cols) in
      let fewer = mul-le 1 (q / length cols) (length cols) (q / length cols) columns (omega arith) in
      let less = mul-le (q / length cols) c q c (omega (arith, mul_comm (q / length cols) (length cols))) (omega arith) in (
        omega arith,
        omega arith,
        small_further (q / length cols * c + o % c) (get_or cols (q % length cols) nowhere) (omega arith)
            (All-get_or Low cols (q % length cols) nowhere (mod_below q (length cols) columns) modest.2),
      )

small_first : (m : Mapping) → Modest m → Proper m → (o at left : ℕ) → o < 2 ^ 60 → at < 2 ^ 60 → left ≤ 2 ^ 60 → SmallLine (first_line m o at left)
small_first (linear s) modest proper o at left few start size = (omega arith, omega arith, small_further o s few modest)
small_first (striped c cols) modest proper o at left few start size =
    cond_both (whole_rows c cols o left) _ _ SmallLine
    (λ _. small_rows c cols modest proper.0 proper.1 o at left few start size)
    (λ _. small_chunk c cols modest proper.0 proper.1 o at left few start size)
small_first zeroes modest proper o at left few start size = (omega arith, omega arith, tt)
small_first errors modest proper o at left few start size = (omega arith, omega arith, tt)

module _ (m : Mapping) (modest : Modest m) (proper : Proper m) where
  small_by : (f o at left : ℕ) → o + left ≤ 2 ^ 60 → at + left ≤ 2 ^ 60 → AllByRecursion SmallLine (lines_by f m o at left)
  small_by zero o at left few start = tt
  small_by (suc f) o at left few start =
      let n = (first_line m o at left).length in
      cond_both (eqb left 0) _ _ (AllByRecursion SmallLine) (λ t. tt)
      (λ t.
      let some : 0 < left = omega (arith, eqb-false left 0 t) in
      let first = first_plain m o at left some proper in (
        small_first m modest proper o at left (omega arith) (omega arith) (omega arith),
        small_by f (o + n) (at + n) (left - n) (omega (arith, first.within)) (omega (arith, first.within)),
      ))

  pub small_extent : (o at left : ℕ) → o + left ≤ 2 ^ 60 → at + left ≤ 2 ^ 60 → AllByRecursion SmallLine (extent_lines m o at left)
  small_extent o at left few start = small_by left o at left few start
