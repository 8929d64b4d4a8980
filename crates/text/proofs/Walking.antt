-- Walking over the lines of a volume: each step takes the first of the lines that are left.
use Rattle.std.proofs.Common.{◌≡◌, ℕ, ◌+◌, ◌-◌, ◌^◌, ◌<◌, ◌≤◌, List, [], ◌∷◌, ◌++◌, sym, refl, ap, ◌∙◌, subst, arith}
use Rattle.table.specs.declared.extent.Slot.{Slot}
use Rattle.table.specs.Extents.{value_at, next}
use Rattle.roster.specs.declared.entry.Entries.{Entries}
use Rattle.roster.specs.declared.target.Target.{Target}
use Rattle.roster.specs.Rosters.{Sound}
use Rattle.roster.specs.Places.{Fair}
use Rattle.roster.specs.Targets.{shift_target}
use Rattle.text.specs.declared.line.Line.{Line}
use Rattle.text.specs.Steps.{first_line, extent_lines}
use Rattle.text.specs.Printing.{whole_of, offset_of, lines_from}
use Rattle.text.specs.Walks.{lines_on, Within, Goes, Steps}
use Rattle.text.proofs.Rosters.{proper_shifted, first_on}
use Rattle.text.proofs.Stepping.{lines_more}

-- at the start of its extent a walk has all lines of the extent before it
pub lines_on_start : (E : Entries) (ss : List (Slot Target)) (n : ℕ) → lines_on E ss n (next ss n) ≡ lines_from E ss n
lines_on_start E [] n = refl
lines_on_start E (s ∷ ss) n =
    let here : offset_of s.value + (s.start - s.start) ≡ offset_of s.value = omega arith in
    ap (λ o. extent_lines (whole_of E s.value) o s.start (next ss n - s.start) ++ lines_from E ss n) here

pub goes_few : (E : Entries) (ss : List (Slot Target)) (n : ℕ) → Goes E ss n → n ≤ 2 ^ 40
goes_few E [] n goes = goes
goes_few E (s ∷ ss) n goes = goes_few E ss n goes.3

within_start : (E : Entries) (ss : List (Slot Target)) (n : ℕ) → Goes E ss n → Within ss n (next ss n)
within_start E [] n goes = tt
within_start E (s ∷ ss) n goes = (omega arith, goes.0)

-- an extent begins with a fair target
pub start_fair : (E : Entries) (s : Slot Target) (ss : List (Slot Target)) (n : ℕ) → Goes E (s ∷ ss) n → Fair E (shift_target s.value 0)
start_fair E s ss n goes = goes.2 0 (omega (arith, goes.0))

module _ (E : Entries) (sound : Sound E) (s : Slot Target) (ss : List (Slot Target)) (n at : ℕ) (goes : Goes E (s ∷ ss) n) (within : Within (s ∷ ss) n at) where
  -- the first of the lines that are left
  module _ (l : Line) (is : l ≡ first_line (whole_of E (value_at shift_target s at)) (offset_of (value_at shift_target s at)) at (next ss n - at)) where
    step : extent_lines (whole_of E s.value) (offset_of s.value + (at - s.start)) at (next ss n - at) ≡ l ∷ extent_lines (whole_of E s.value) (offset_of s.value + (at - s.start) + l.length) (at + l.length) (next ss n - at - l.length)
    step =
        let left = next ss n - at in
        let o = offset_of s.value + (at - s.start) in
        let m = whole_of E s.value in
        let fair = start_fair E s ss n goes in
        let proper = proper_shifted E sound s.value 0 fair in
        let same : l ≡ first_line m o at left = is ∙ first_on E sound s.value (at - s.start) at left fair (omega (arith, goes_few E ss n goes.3, within, goes.1)) in
        rw same (lines_more m proper o at left (omega (arith, within)))

    -- the extent goes on
    pub step_on : l.length < next ss n - at → lines_on E (s ∷ ss) n at ≡ l ∷ lines_on E (s ∷ ss) n (at + l.length)
    step_on less =
        let offset : offset_of s.value + (at - s.start) + l.length ≡ offset_of s.value + (at + l.length - s.start) = omega (arith, within) in
        let left : next ss n - at - l.length ≡ next ss n - (at + l.length) = omega arith in
        let lines = step ∙ (λ i. l ∷ extent_lines (whole_of E s.value) (offset i) (at + l.length) (left i)) in
        ap (λ ls. ls ++ lines_from E ss n) lines

    -- the extent ends here
    pub step_end : next ss n - at ≤ l.length → lines_on E (s ∷ ss) n at ≡ l ∷ lines_on E ss n (next ss n)
    step_end more =
        let none : next ss n - at - l.length ≡ 0 = omega arith in
        let lines = step ∙ (λ i. l ∷ extent_lines (whole_of E s.value) (offset_of s.value + (at - s.start) + l.length) (at + l.length) (none i)) in
        ap (λ ls. ls ++ lines_from E ss n) lines ∙ ap (λ ls. l ∷ ls) (sym (lines_on_start E ss n))

module _ (E : Entries) (sound : Sound E) (xs ss : List (Slot Target)) (s : Slot Target) (split : xs ≡ s ∷ ss) (n at : ℕ) (goes : Goes E xs n) (within : Within xs n at) where
  goes_here : Goes E (s ∷ ss) n
  goes_here = subst (λ (ys : List (Slot Target)). Goes E ys n) split goes

  pub within_here : Within (s ∷ ss) n at
  within_here = subst (λ (ys : List (Slot Target)). Within ys n at) split within

  module _ (e : ℕ) (t : Target) (l : Line) (end : e ≡ next ss n) (is : t ≡ value_at shift_target s at) (first : l ≡ first_line (whole_of E t) (offset_of t) at (e - at)) where
    first_here : l ≡ first_line (whole_of E (value_at shift_target s at)) (offset_of (value_at shift_target s at)) at (next ss n - at)
    first_here = rw (end, is) at first

    pub steps_on : l.length < e - at → Steps E xs n at l xs (at + l.length)
    steps_on less =
        let on = step_on E sound s ss n at goes_here within_here l first_here (omega arith) in
        record { lines = rw split on; goes = goes; within = rw split (omega (arith, within_here), omega arith) }

    pub steps_past : e - at ≤ l.length → Steps E xs n at l ss e
    steps_past all =
        let on = step_end E sound s ss n at goes_here within_here l first_here (omega arith) in
        record { lines = rw (split, end) on; goes = goes_here.3; within = rw end (within_start E ss n goes_here.3) }
