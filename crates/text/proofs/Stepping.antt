-- The lines of an extent, one step at a time: they tile it, and denote what it holds.
use Rattle.std.proofs.Common.{◌≡◌, ℕ, zero, suc, ◌+◌, ◌-◌, ◌*◌, ◌/◌, ◌%◌, ◌<◌, ◌≤◌, true, eqb, leb, List, [], ◌∷◌, ◌++◌, map, length, sym, refl, ap, ◌∙◌, ⊎_elim, le_refl, add_assoc, mul_assoc, add-mul, arith}
use lib.ListN.{length-map}
use Rattle.std.proofs.lemmas.List.{get_or-map}
use Rattle.std.proofs.Math.Nat.{mul-add-div_right, mul-add-mod_self_right}
use Rattle.std.proofs.lemmas.Nat.{div-mul-add, mod-mul-add, mod_below, le-div, mul-le, mul-lt, div-add-mod'}
use Rattle.std.proofs.lemmas.Bool.{cond-true, cond-false, cond_both, and_parts, eqb-true, leb-true, ne_eqb, eqb-false, eq-eqb, cases_Bool, cases_lt}
use Rattle.text.specs.declared.spot.Spot.{Spot}
use Rattle.text.specs.declared.line.Line.{Line}
use Rattle.text.specs.declared.line.Mapping.{Mapping}
use Rattle.text.specs.declared.line.Mapping.TheVariants.{Linear as linear, Striped as striped, Zero as zeroes, Error as errors}
use Rattle.text.specs.Lines.{Outcome, lies, maps, denotes, Tiles, further, stripe, nowhere}
use Rattle.text.specs.Steps.{row_size, whole_rows, rows_line, chunk_line, first_line, lines_by, extent_lines, Proper}

-- numbers of the form a * c + b with b below c
module _ (c : ℕ) (some : 0 < c) where
  -- within a chunk only the rest grows
  pub chunk_on : (o j : ℕ) → o % c + j < c → ((o + j) / c ≡ o / c) × ((o + j) % c ≡ o % c + j)
  chunk_on o j lt =
      let whole = div-add-mod' o c in
      let split : o + j ≡ o / c * c + (o % c + j) = omega arith in
      (ap (λ n. n / c) split ∙ div-mul-add (o / c) c (o % c + j) lt, ap (λ n. n % c) split ∙ mod-mul-add (o / c) c (o % c + j) lt)

further_further : (a b : ℕ) (s : Spot) → further b (further a s) ≡ further (a + b) s
further_further a b s =
    ap (λ (n : ℕ). record { major = s.major; minor = s.minor; sector = n }) (add_assoc s.sector a b)

further_same : (a b : ℕ) (s : Spot) → a ≡ b → further a s ≡ further b s
further_same a b s e = ap (λ n. further n s) e

module _ (c : ℕ) (some : 0 < c) (cols : List Spot) where
  -- the next sectors of a chunk follow one another on its device
  pub stripe_on : (o j : ℕ) → o % c + j < c → stripe c cols (o + j) ≡ further j (stripe c cols o)
  stripe_on o j lt =
      let n = chunk_on c some o j lt in
      let row = o / c / length cols * c in
      rw (n.0, n.1)
      (further_same (row + (o % c + j)) (row + o % c + j) _ (omega arith) ∙ sym (further_further (row + o % c) j _))

  -- from whole rows on, a stripe is the stripe whose columns begin at that row
  pub stripe_rows : 0 < length cols → (r k : ℕ) → stripe c cols (r * row_size c cols + k) ≡ stripe c (map (further (r * c)) cols) k
  stripe_rows columns r k =
      let spot = get_or-map (further (r * c)) cols (k / c % length cols) nowhere nowhere (mod_below (k / c) (length cols) columns) in
      let row = k / c / length cols * c in
      rw (← mul_assoc r (length cols) c, mul-add-div_right some (r * length cols) k, mul-add-mod_self_right (r * length cols) c k, mul-add-div_right columns r (k / c), mul-add-mod_self_right r (length cols) (k / c), length-map, spot)
      (further_same ((r + k / c / length cols) * c + k % c) (r * c + (row + k % c)) _ (omega (arith, add-mul r (k / c / length cols) c))
      ∙ sym (further_further (r * c) (row + k % c) _))

-- what the first line of an extent is
pub record First (m : Mapping) (o at left : ℕ) (l : Line) : Type 0 where
  pub begins : l.start ≡ at
  pub some : 0 < l.length
  pub within : l.length ≤ left
  pub holds : (i : ℕ) → at ≤ i → i < at + l.length → denotes l i ≡ maps m (o + (i - at))

first_rows : (c : ℕ) (cols : List Spot) (o at left : ℕ) → 0 < c → 0 < length cols → whole_rows c cols o left ≡ true → First (striped c cols) o at left (rows_line c cols o at left)
first_rows c cols o at left chunk columns whole =
    let tests = and_parts (eqb (o % row_size c cols) 0) (leb (row_size c cols) left) whole in
    let level = eqb-true (o % row_size c cols) 0 tests.0 in
    let fits = leb-true (row_size c cols) left tests.1 in
    let row = o / row_size c cols in
    let wide : 0 < row_size c cols = mul-lt 0 0 (length cols) c columns chunk in
    let one = le-div 1 left (row_size c cols) wide (omega arith) in
    let more = mul-le 1 (row_size c cols) (left / row_size c cols) (row_size c cols) one (le_refl _) in
    let parts = div-add-mod' left (row_size c cols) in
    let here = div-add-mod' o (row_size c cols) in
    let offset : (k : ℕ) → o + k ≡ row * row_size c cols + k = λ k. omega arith in
    record {
      begins = refl;
      some = omega arith;
      within = omega arith;
      holds = λ i lo hi. ap lies (sym (ap (stripe c cols) (offset (i - at)) ∙ stripe_rows c chunk cols columns row (i - at)));
    }

first_chunk : (c : ℕ) (cols : List Spot) (o at left : ℕ) → 0 < c → 0 < left → First (striped c cols) o at left (chunk_line c cols o at left)
first_chunk c cols o at left chunk left0 =
    let rest = mod_below o c chunk in
    record {
      begins = refl;
      some = omega arith;
      within = omega arith;
      holds = λ i lo hi. ap lies (sym (stripe_on c chunk cols o (i - at) (omega arith)));
    }

pub first_plain : (m : Mapping) (o at left : ℕ) → 0 < left → Proper m → First m o at left (first_line m o at left)
first_plain (linear s) o at left left0 sound = record {
  begins = refl;
  some = left0;
  within = le_refl left;
  holds = λ i lo hi. ap lies (further_further o (i - at) s);
}
first_plain (striped c cols) o at left left0 sound =
    cond_both (whole_rows c cols o left) _ _ (First (striped c cols) o at left)
    (first_rows c cols o at left sound.0 sound.1)
    (λ _. first_chunk c cols o at left sound.0 left0)
first_plain zeroes o at left left0 sound = record { begins = refl; some = left0; within = le_refl left; holds = λ i lo hi. refl }
first_plain errors o at left left0 sound = record { begins = refl; some = left0; within = le_refl left; holds = λ i lo hi. refl }

module _ (m : Mapping) (sound : Proper m) where
  -- more fuel than sectors changes nothing
  fuel : (f g o at left : ℕ) → left ≤ f → left ≤ g → lines_by f m o at left ≡ lines_by g m o at left
  fuel zero zero o at left lf lg = refl
  fuel zero (suc g) o at left lf lg =
      let none : left ≡ 0 = omega arith in sym (cond-true (eqb left 0) _ _ (eq-eqb left 0 none))
  fuel (suc f) zero o at left lf lg =
      let none : left ≡ 0 = omega arith in cond-true (eqb left 0) _ _ (eq-eqb left 0 none)
  fuel (suc f) (suc g) o at left lf lg =
      let l = first_line m o at left in
      let n = l.length in
      ⊎_elim (λ t. cond-true (eqb left 0) _ _ t ∙ sym (cond-true (eqb left 0) _ _ t))
      (λ t.
      let some : 0 < left = omega (arith, eqb-false left 0 t) in
      let first = first_plain m o at left some sound in
      let rest = fuel f g (o + n) (at + n) (left - n) (omega (arith, first.some)) (omega (arith, first.some)) in
      cond-false (eqb left 0) _ _ t ∙ ap (λ ls. l ∷ ls) rest ∙ sym (cond-false (eqb left 0) _ _ t))
      (cases_Bool (eqb left 0))

  -- the first line, and the lines of what is left behind it
  pub lines_more : (o at left : ℕ) → 0 < left → extent_lines m o at left ≡ first_line m o at left ∷ extent_lines m (o + (first_line m o at left).length) (at + (first_line m o at left).length) (left - (first_line m o at left).length)
  lines_more o at left some =
      let l = first_line m o at left in
      let n = l.length in
      let first = first_plain m o at left some sound in
      let one = fuel left (suc (left - 1)) o at left (omega arith) (omega arith) in
      let rest = fuel (left - 1) (left - n) (o + n) (at + n) (left - n) (omega (arith, first.some)) (omega arith) in
      one ∙ cond-false (eqb left 0) _ _ (ne_eqb left 0 (λ e. omega arith)) ∙ ap (λ ls. l ∷ ls) rest

  -- the lines tile the extent and denote what it holds
  tiles_by : (f o at left e : ℕ) (w : ℕ → Outcome) → left ≤ f → at + left ≡ e → ((i : ℕ) → at ≤ i → i < e → maps m (o + (i - at)) ≡ w i) → Tiles w at e (lines_by f m o at left)
  tiles_by zero o at left e w lf end holds = omega arith
  tiles_by (suc f) o at left e w lf end holds =
      let l = first_line m o at left in
      let n = l.length in
      cond_both (eqb left 0) _ _ (Tiles w at e) (λ t. omega (arith, eqb-true left 0 t))
      (λ t.
      let some : 0 < left = omega (arith, eqb-false left 0 t) in
      let first = first_plain m o at left some sound in
      let onward : (i : ℕ) → at + n ≤ i → i < e → maps m (o + n + (i - (at + n))) ≡ w i =
      λ i lo hi. let same : o + n + (i - (at + n)) ≡ o + (i - at) = omega arith in rw same (holds i (omega arith) hi)
      in (
        first.begins,
        first.some,
        (λ i lo hi. first.holds i lo hi ∙ holds i lo (omega (arith, first.within))),
        tiles_by f (o + n) (at + n) (left - n) e w (omega (arith, first.some)) (omega (arith, first.within)) onward,
      ))

  pub extent_tiles : (o at left e : ℕ) (w : ℕ → Outcome) → at + left ≡ e → ((i : ℕ) → at ≤ i → i < e → maps m (o + (i - at)) ≡ w i) → Tiles w at e (extent_lines m o at left)
  extent_tiles o at left e w end holds = tiles_by left o at left e w (le_refl left) end holds

-- lines that tile one stretch, and lines that tile the next
pub tiles_then : (w : ℕ → Outcome) (a b e : ℕ) (ls ks : List Line) → Tiles w a b ls → Tiles w b e ks → Tiles w a e (ls ++ ks)
tiles_then w a b e [] ks t u = rw t u
tiles_then w a b e (l ∷ ls) ks t u = (t.0, t.1, t.2, tiles_then w (a + l.length) b e ls ks t.3 u)

-- lines that tile two maps show that these are one
pub tiles_same : (v w : ℕ → Outcome) (a e : ℕ) (ls : List Line) → Tiles v a e ls → Tiles w a e ls → (i : ℕ) → a ≤ i → i < e → v i ≡ w i
tiles_same v w a e [] t u i lo hi = absurd (omega arith)
tiles_same v w a e (l ∷ ls) t u i lo hi =
    ⊎_elim (λ here. sym (t.2 i lo here) ∙ u.2 i lo here)
    (λ past. tiles_same v w (a + l.length) e ls t.3 u.3 i past hi)
    (cases_lt i (a + l.length))
