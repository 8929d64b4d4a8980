-- The law of prints, from what a print writes and what its text tells.
use Rattle.std.proofs.Common.{sym, ◌∙◌}
use Rattle.text.specs.Laws.{PrintsTell}
use Rattle.text.proofs.Telling.{prints_tell_places}

pub prints_tell : PrintsTell
prints_tell roster g h xs ys b b' c c' n k e p q =
    let tells = prints_tell_places roster.entries roster.sound g h xs ys p.1.0 q.1.0 e in
    ((λ bytes. tells.0 (sym p.0.1 ∙ bytes ∙ q.0.1)), λ places. p.0.1 ∙ tells.1 places ∙ sym q.0.1)
