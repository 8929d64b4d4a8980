use Rattle.std.proofs.Common.{◌≡◌, length}
use Rattle.table.specs.Walks.{left, slots_left}
use Rattle.table.proofs.overlay.SlotsIterator.next.Given as goal

abbrev pub invariant-loop-piece : goal.invariant-loop-piece
invariant-loop-piece g l =
    let k = g.V.Value in
    slots_left k.shift k.same k.clear l.self ≡ slots_left k.shift k.same k.clear l.initial.self

abbrev pub decreases-loop-piece : goal.decreases-loop-piece
decreases-loop-piece g l = let k = g.V.Value in length (left k.shift k.clear l.self.pieces)
