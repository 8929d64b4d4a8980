use Rattle.std.proofs.Common.{◌≡◌, length}
use Rattle.table.specs.Walks.{slots_left, slots_of}
use Rattle.table.proofs.Walking.{Written}
use Rattle.table.proofs.table.Table.fill.Given as goal

abbrev pub invariant-loop-k : goal.invariant-loop-k
invariant-loop-k g l =
    let k = g.V.Value in
    let all = slots_of k.shift k.same k.clear l.pieces in
    (goal.iterator-loop-k g).can_next l.k-iterator
    × (goal.iterator-loop-k g).is_finite l.k-iterator
    × Written all l.initial.self.slots.now l.self.slots.now l.k-iterator.count (slots_left k.shift k.same k.clear l.k-iterator.iter)
    × (l.count ≡ length all)
    × (l.self.slots.ghost_name ≡ l.initial.self.slots.ghost_name)
