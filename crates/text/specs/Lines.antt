-- The lines of a device-mapper table, and what each means by the kernel's own rules.
use Rattle.std.specs.Prelude.{◌≡◌, ℕ, ◌+◌, ◌-◌, ◌*◌, ◌/◌, ◌%◌, ◌<◌, ◌≤◌, List, [], ◌∷◌, length, slice_index_or}
use Rattle.text.specs.declared.spot.Spot.{Spot}
use Rattle.text.specs.declared.line.Line.{Line}
use Rattle.text.specs.declared.line.Mapping.{Mapping}
use Rattle.text.specs.declared.line.Mapping.TheVariants.{Zero as zeroes, Error as errors, Linear as linear, Striped as striped}

-- START, LENGTH and what is mapped to
abbrev pub line : ℕ → ℕ → Mapping → Line
line a n m = record { start = a; length = n; mapping = m }

-- what comes of a sector: it lies on a device, reads as zeroes, or fails
pub data Outcome : Type 0 where
  lies : Spot → Outcome
  blank : Outcome
  fails : Outcome

-- k sectors further on the same device
abbrev pub further : ℕ → Spot → Spot
further k s = record { major = s.major; minor = s.minor; sector = s.sector + k }

-- what stands for a column that is not there
abbrev pub nowhere : Spot
nowhere = record { major = 0; minor = 0; sector = 0 }

-- sector k of a stripe: chunks go round the columns, and each time round is a row
abbrev pub stripe : ℕ → List Spot → ℕ → Spot
stripe c cols k = further (k / c / length cols * c + k % c) (slice_index_or cols (k / c % length cols) nowhere)

-- what a mapping makes of its sector k
abbrev pub maps : Mapping → ℕ → Outcome
maps (linear s) k = lies (further k s)
maps (striped c cols) k = lies (stripe c cols k)
maps zeroes k = blank
maps errors k = fails

-- what a line makes of sector i of the volume
abbrev pub denotes : Line → ℕ → Outcome
denotes l i = maps l.mapping (i - l.start)

-- The lines follow one another from sector a to sector e, none is empty, and each denotes w at its sectors.
abbrev pub Tiles : (ℕ → Outcome) → ℕ → ℕ → List Line → Type 0
Tiles w a e [] = a ≡ e
Tiles w a e (l ∷ ls) =
    (l.start ≡ a) × (0 < l.length) × ((i : ℕ) → a ≤ i → i < a + l.length → denotes l i ≡ w i) × Tiles w (a + l.length) e ls
