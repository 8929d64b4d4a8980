use Rattle.std.proofs.Common.{◌≡◌, length, take, drop}
use Rattle.table.specs.Histories.{calls}
use Rattle.table.specs.Laws.{Ran}
use Rattle.table.proofs.table.Table.apply_all.Given as goal

abbrev pub invariant-loop-i : goal.invariant-loop-i
invariant-loop-i g l =
    let k = g.V.Value in
    record {
      ran : Ran k.shift k.same k.clear (calls (take l.i l.edits) (take l.i l.answers)) l.initial.self.head l.initial.self.slots.now l.self.head l.self.slots.now;
      rest : drop l.i l.answers ≡ drop l.i l.initial.answers;
      same_row : (l.self.slots.ghost_name ≡ l.initial.self.slots.ghost_name) × (length l.self.slots.now ≡ length l.initial.self.slots.now);
    }
