-- The calls that a list of edits makes.
use Rattle.std.specs.Prelude.{List, map, Result}
use Rattle.std.specs.List.{zip}
use Rattle.table.specs.declared.history.Edit.{Edit}
use Rattle.table.specs.declared.history.Edit.TheVariants.{Append, Assign, Cut, Overlay}
use Rattle.table.specs.declared.refusal.Refusal.{Refusal}
use Rattle.table.specs.Laws.{Call}
use Rattle.table.specs.Laws.Call.{append, assign, cut, overlay}

abbrev pub call_of : {V : Type 0} → Edit V → Call V
call_of (Append l v) = append l v
call_of (Assign run v) = assign run v
call_of (Cut n) = cut n
call_of (Overlay t b) = overlay t.head t.slots.now b.head b.slots.now

-- edits beside their answers
abbrev pub calls : {V : Type 0} → List (Edit V) → List (Result (Unit {0}) Refusal) → List (Call V × Result (Unit {0}) Refusal)
calls es rs = zip (map call_of es) rs
