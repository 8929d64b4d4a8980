-- The lines that an extent goes out in.
use Rattle.std.specs.Prelude.{ℕ, zero, suc, ◌+◌, ◌-◌, ◌*◌, ◌/◌, ◌%◌, ◌<◌, min, Bool, cond, ◌&&◌, List, [], ◌∷◌, map, length, ◌==◌, nat_le}
use Rattle.text.specs.declared.spot.Spot.{Spot}
use Rattle.text.specs.declared.line.Line.{Line}
use Rattle.text.specs.declared.line.Mapping.{Mapping}
use Rattle.text.specs.declared.line.Mapping.TheVariants.{Linear as linear, Striped as striped, Zero as zeroes, Error as errors}
use Rattle.text.specs.Lines.{line, further, stripe}

-- the sectors of one row of a stripe, over all its columns
abbrev pub row_size : ℕ → List Spot → ℕ
row_size c cols = length cols * c

-- whether whole rows can go out from offset o on, with so many sectors left
abbrev pub whole_rows : ℕ → List Spot → ℕ → ℕ → Bool
whole_rows c cols o left = o % row_size c cols == 0 && nat_le (row_size c cols) left

-- all whole rows that remain, as one striped line whose columns begin at the row of offset o
abbrev pub rows_line : ℕ → List Spot → ℕ → ℕ → ℕ → Line
rows_line c cols o at left =
    line at (left / row_size c cols * row_size c cols) (striped c (map (further (o / row_size c cols * c)) cols))

-- the rest of the chunk that offset o lies in, or of the extent, as one linear line
abbrev pub chunk_line : ℕ → List Spot → ℕ → ℕ → ℕ → Line
chunk_line c cols o at left = line at (min left (c - o % c)) (linear (stripe c cols o))

-- The first line of an extent: it begins at sector at of the volume and has so many sectors left,
-- of which the k-th is what the mapping makes of its sector o + k.
abbrev pub first_line : Mapping → ℕ → ℕ → ℕ → Line
first_line (linear s) o at left = line at left (linear (further o s))
first_line (striped c cols) o at left = cond (whole_rows c cols o left) (rows_line c cols o at left) (chunk_line c cols o at left)
first_line zeroes o at left = line at left zeroes
first_line errors o at left = line at left errors

-- at most so many lines of an extent
abbrev pub lines_by : ℕ → Mapping → ℕ → ℕ → ℕ → List Line
lines_by zero m o at left = []
lines_by (suc more) m o at left =
    let l : Line = first_line m o at left in
    cond (left == 0) [] (l ∷ lines_by more m (o + l.length) (at + l.length) (left - l.length))

-- All lines of an extent. Each takes at least one sector, so there are at most as many as sectors;
-- the first line of a linear, zero or error extent takes all of them.
abbrev pub extent_lines : Mapping → ℕ → ℕ → ℕ → List Line
extent_lines m o at left = lines_by left m o at left

-- a stripe has columns, and its chunks have sectors
abbrev pub Proper : Mapping → Type 0
Proper (linear s) = Unit {0}
Proper (striped c cols) = (0 < c) × (0 < length cols)
Proper zeroes = Unit {0}
Proper errors = Unit {0}
