-- Checks with numbers, in the order in which they are made, and what a call answers that makes them.
use Rattle.std.specs.Prelude.{ℕ, Ok, Err, Result, Option, Some, None, ◌==◌, MatchBool}

-- what a list of checks says: of no number that all of them passed, of a number that its check is the first that failed
abbrev pub Checks : Type 1
Checks = Option ℕ → Type 0

-- all checks are made
abbrev pub end : Checks
end None = Unit {0}
end (Some k) = ⊥

-- the check with number n, and those behind it
abbrev pub check : ℕ → Type 0 → Checks → Checks
check n P rest None = P × rest None
check n P rest (Some k) = MatchBool (k == n) (P → ⊥) (P × rest (Some k))

-- the same check of a call that tells of it only by its refusal: one that passes all checks does not say that this one passed
abbrev pub untold : ℕ → Type 0 → Checks → Checks
untold n P rest None = rest None
untold n P rest (Some k) = check n P rest (Some k)

-- The refusal, by its number, is that of the first check that fails, and leaves all as it was; a call that passes all of them is done.
abbrev pub Answers : {A R : Type 0} (number : R → ℕ) (checks : Checks) (kept : Type 0) (done : A → Type 0) → Result A R → Type 0
Answers number checks kept done (Ok a) = done a × checks None
Answers number checks kept done (Err e) = kept × checks (Some (number e))
