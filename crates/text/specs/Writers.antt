-- What is written to a buffer, from the place of a writer on.
use Rattle.std.specs.Prelude.{◌≡◌, ℕ, ◌+◌, ◌≤◌, List, ◌++◌, length, take, drop}
use Rattle.text.specs.declared.writer.Writer.{Writer}

-- what is written
abbrev pub content : Writer → List ℕ
content p = take p.at p.buffer.now

-- the buffer goes on for so many bytes
abbrev pub HasRoom : List ℕ → Writer → Type 0
HasRoom more p = p.at + length more ≤ length p.buffer.now

-- q has written what p has and then more, and the bytes behind are as they were
pub record Adds (more : List ℕ) (p q : Writer) : Type 0 where
  pub holds : content q ≡ content p ++ more
  pub ends : q.at ≡ p.at + length more
  pub rest : drop q.at q.buffer.now ≡ drop q.at p.buffer.now
  pub size : length q.buffer.now ≡ length p.buffer.now
  pub same : q.buffer.ghost_name ≡ p.buffer.ghost_name
