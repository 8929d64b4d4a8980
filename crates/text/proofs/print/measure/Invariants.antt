use Rattle.text.specs.Left.{lines_left}
use Rattle.text.proofs.Passes.{Counted}
use Rattle.text.proofs.print.measure.Given as goal

abbrev pub invariant-loop-line : goal.invariant-loop-line
invariant-loop-line l =
    (goal.iterator-loop-line).can_next l.line-iterator
    × (goal.iterator-loop-line).is_finite l.line-iterator
    × Counted (lines_left l.fn.lines) l.room (lines_left l.line-iterator) l.total
