-- How lines are spelled: the bytes of a text.
use Rattle.std.specs.Prelude.{ℕ, ◌^◌, ◌<◌, List, [], ◌∷◌, ◌++◌, length, codes, decimal}
use Rattle.std.specs.List.{flat_map, AllByRecursion}
use Rattle.text.specs.declared.spot.Spot.{Spot}
use Rattle.text.specs.declared.line.Line.{Line}
use Rattle.text.specs.declared.line.Mapping.{Mapping}
use Rattle.text.specs.declared.line.Mapping.TheVariants.{Linear as linear, Striped as striped, Zero as zeroes, Error as errors}

-- MAJOR:MINOR
abbrev pub device_field : Spot → List ℕ
device_field s = decimal s.major ++ (58 ∷ decimal s.minor)

-- MAJOR:MINOR SECTOR
abbrev pub spot_fields : Spot → List (List ℕ)
spot_fields s = device_field s ∷ decimal s.sector ∷ []

-- linear MAJOR:MINOR SECTOR; striped N CHUNK and N times MAJOR:MINOR SECTOR; zero; error
abbrev pub mapping_fields : Mapping → List (List ℕ)
mapping_fields (linear s) = codes "linear" ∷ spot_fields s
mapping_fields (striped c cols) = codes "striped" ∷ decimal (length cols) ∷ decimal c ∷ flat_map spot_fields cols
mapping_fields zeroes = codes "zero" ∷ []
mapping_fields errors = codes "error" ∷ []

-- a space before each field, and a line feed at the end
abbrev pub spaced : List (List ℕ) → List ℕ
spaced [] = 10 ∷ []
spaced (f ∷ fs) = 32 ∷ (f ++ spaced fs)

-- START LENGTH and the fields of what is mapped to
abbrev pub spell : Line → List ℕ
spell l = decimal l.start ++ spaced (decimal l.length ∷ mapping_fields l.mapping)

-- one line after another
abbrev pub text_of : List Line → List ℕ
text_of ls = flat_map spell ls

-- a spot as it stands in a line: a space before each of its fields
abbrev pub spot_text : Spot → List ℕ
spot_text s = 32 ∷ (device_field s ++ (32 ∷ decimal s.sector))

-- what a line maps to, as it stands there: a space before each of its fields
abbrev pub mapping_text : Mapping → List ℕ
mapping_text (linear s) = (32 ∷ codes "linear") ++ spot_text s
mapping_text (striped c cols) = (32 ∷ codes "striped") ++ ((32 ∷ decimal (length cols)) ++ ((32 ∷ decimal c) ++ flat_map spot_text cols))
mapping_text zeroes = 32 ∷ codes "zero"
mapping_text errors = 32 ∷ codes "error"

-- every number of a spot is below a bound
abbrev pub SpotBelow : ℕ → Spot → Type 0
SpotBelow b s = (s.major < b) × (s.minor < b) × (s.sector < b)

-- every number of a mapping is below a bound
abbrev pub MappingBelow : ℕ → Mapping → Type 0
MappingBelow b (linear s) = SpotBelow b s
MappingBelow b (striped c cols) = (length cols < b) × (c < b) × AllByRecursion (SpotBelow b) cols
MappingBelow b zeroes = Unit {0}
MappingBelow b errors = Unit {0}

-- every number of a spot has 64 bits
abbrev pub SmallSpot : Spot → Type 0
SmallSpot = SpotBelow (2 ^ 64)

-- every number of a mapping has 64 bits
abbrev pub SmallMapping : Mapping → Type 0
SmallMapping = MappingBelow (2 ^ 64)

-- every number of a line has 64 bits
abbrev pub SmallLine : Line → Type 0
SmallLine l = (l.start < 2 ^ 64) × (l.length < 2 ^ 64) × SmallMapping l.mapping
