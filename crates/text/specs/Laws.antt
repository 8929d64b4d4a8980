-- What the prints of volumes tell of the places of their sectors.
use Rattle.std.specs.Prelude.{◌≡◌, ℕ, List, take, Ok}
use Rattle.table.specs.declared.extent.Head.{Head}
use Rattle.table.specs.declared.extent.Slot.{Slot}
use Rattle.roster.specs.declared.closed.Closed.{Closed}
use Rattle.roster.specs.declared.roster.Roster.{Roster}
use Rattle.roster.specs.declared.target.Target.{Target}
use Rattle.text.specs.Printing.{Prints, SamePlaces}

-- Accepted prints of two volumes of equal length under one closed roster differ in no byte exactly when every sector resolves alike in both.
abbrev pub PrintsTell : Type 0
PrintsTell =
    (roster : Roster Closed) (g h : Head) (xs ys : List (Slot Target)) (b b' c c' : List ℕ) (n k : ℕ) → g.length ≡ h.length →
    Prints roster.entries g xs b b' (Ok n) → Prints roster.entries h ys c c' (Ok k) →
    (take n b' ≡ take k c' → SamePlaces roster.entries g xs h ys) × (SamePlaces roster.entries g xs h ys → take n b' ≡ take k c')
