use Rattle.text.specs.Left.{lines_left}
use Rattle.text.proofs.Passes.{Written}
use Rattle.text.proofs.print.fill.Given as goal

abbrev pub invariant-loop-line : goal.invariant-loop-line
invariant-loop-line l =
    (goal.iterator-loop-line).can_next l.line-iterator
    × (goal.iterator-loop-line).is_finite l.line-iterator
    × Written (lines_left l.fn.lines) l.initial.writer (lines_left l.line-iterator) l.writer
