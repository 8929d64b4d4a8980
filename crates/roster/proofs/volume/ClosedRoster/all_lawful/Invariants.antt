use Rattle.std.proofs.Common.{◌↔◌, ◌∷◌, drop}
use Rattle.table.specs.Extents.{Climbs}
use Rattle.roster.specs.Places.{AllLawful}
use Rattle.roster.proofs.volume.ClosedRoster.all_lawful.Given as goal

abbrev pub invariant-loop-slot : goal.invariant-loop-slot
invariant-loop-slot l =
    Climbs l.last (drop l.slot-index l.rest) l.total
    × (AllLawful l.self.entries l.fn.slots l.total ↔ AllLawful l.self.entries (l.last ∷ drop l.slot-index l.rest) l.total)
