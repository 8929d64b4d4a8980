-- What resolving answers, and how a target is judged for a run and a table as a volume.
use Rattle.std.specs.Prelude.{◌≡◌, ℕ, List, Result}
use Rattle.table.specs.declared.extent.Head.{Head}
use Rattle.table.specs.declared.extent.Slot.{Slot}
use Rattle.table.specs.declared.refusal.Refusal.{Refusal}
use Rattle.table.specs.Checks.{Answers, Checks, check, end}
use Rattle.table.specs.Refusals.{number_of as table_number_of}
use Rattle.roster.specs.declared.entry.Entries.{Entries}
use Rattle.roster.specs.declared.place.Place.{Place}
use Rattle.roster.specs.declared.refusal.RosterRefusal.{RosterRefusal}
use Rattle.roster.specs.declared.target.Target.{Target}
use Rattle.roster.specs.Refusals.{number_of}
use Rattle.roster.specs.Places.{place_of, HasDevice, HasSet, Below, Stays, Clears, Lawful, Volume}

-- the place of a target
abbrev pub Resolves : Entries → Target → Result Place RosterRefusal → Type 0
Resolves E t = Answers number_of (check 5 (HasDevice E t) (check 6 (HasSet E t) (check 7 (Below E t) end))) (Unit {0}) (λ p. p ≡ place_of E t)

-- the checks of a target for a run of l sectors, and those behind them
abbrev pub target_checks : Entries → Target → ℕ → Checks → Checks
target_checks E t l rest = check 5 (HasDevice E t) (check 6 (HasSet E t) (check 7 (Stays E t l) (check 8 (Clears E t l) rest)))

-- a target that passes them is lawful for the run
abbrev pub TargetJudged : Entries → Target → ℕ → Result (Unit {0}) RosterRefusal → Type 0
TargetJudged E t l = Answers number_of (target_checks E t l end) (Unit {0}) (λ _. Lawful E t l)

-- a table that passes is a volume
abbrev pub VolumeJudged : Entries → Head → List (Slot Target) → Result (Unit {0}) Refusal → Type 0
VolumeJudged E h xs = Answers table_number_of (check 2 (Volume E h xs) end) (Unit {0}) (λ _. Unit {0})
