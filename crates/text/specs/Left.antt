-- What an iterator over lines has left.
use Rattle.std.specs.Prelude.{List}
use Rattle.text.specs.declared.line.Line.{Line}
use Rattle.text.specs.declared.lines.Lines.{Lines}
use Rattle.text.specs.Walks.{lines_on}

abbrev pub lines_left : Lines → List Line
lines_left s = lines_on s.roster.now.entries s.slots.now s.size s.at
