-- The laws of the kind of targets, for what holds of tables of every kind.
use borrow.Author.Rules.{of_blocks}
use Rattle.table.specs.Kinds.{Laws}
use Rattle.roster.specs.Targets.{shift_target, same_target, clear_target}

pub target_laws : Laws shift_target same_target clear_target
target_laws = search of_blocks
