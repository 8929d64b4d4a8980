-- The two passes of printing: counting bytes, and writing them.
use Rattle.std.proofs.Common.{◌≡◌, ℕ, ◌+◌, ◌≤◌, List, ◌∷◌, ◌++◌, length, sym, ap, ◌∙◌, append_assoc, arith, length-append}
use Rattle.text.specs.declared.line.Line.{Line}
use Rattle.text.specs.declared.writer.Writer.{Writer}
use Rattle.text.specs.Spelling.{spell, text_of}
use Rattle.text.specs.Writers.{Adds, HasRoom}
use Rattle.text.proofs.Adding.{adds_then, room_then}

module _ (all : List Line) where
  -- so many bytes are counted before the lines that are left, and they fit the room
  pub record Counted (room : ℕ) (left : List Line) (total : ℕ) : Type 0 where
    pub held : total ≤ room
    pub sum : total + length (text_of left) ≡ length (text_of all)

  -- the text before the lines that are left is written
  pub record Written (p : Writer) (left : List Line) (q : Writer) : Type 0 where
    pub text : List ℕ
    pub adds : Adds text p q
    pub whole : text ++ text_of left ≡ text_of all

  module _ (l : Line) (left rest : List Line) (first : left ≡ l ∷ rest) where
    module _ (p q : Writer) (z : Written p left q) where
      joined : (z.text ++ spell l) ++ text_of rest ≡ text_of all
      joined = append_assoc z.text (spell l) (text_of rest) ∙ ap (λ ls. z.text ++ text_of ls) (sym first) ∙ z.whole

      pub line_room : HasRoom (text_of all) p → HasRoom (spell l) q
      line_room room =
          let parts = sym (length-append (z.text ++ spell l) (text_of rest)) ∙ ap length joined in
          room_then z.adds (spell l) (omega (arith, parts, room))

      pub written_more : (r : Writer) → Adds (spell l) q r → Written p rest r
      written_more r adds = record { text = z.text ++ spell l; adds = adds_then z.adds adds; whole = joined }
