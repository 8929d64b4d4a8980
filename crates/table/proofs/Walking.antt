-- The pieces of a top over a base, and the slots that they make.
use Rattle.std.proofs.Common.{◌≡◌, ℕ, ◌+◌, ◌-◌, ◌^◌, ◌<◌, ◌≤◌, Bool, true, cond, List, [], ◌∷◌, ◌++◌, length, take, drop, set, Some, None, sym, refl, ap, ◌∙◌, subst, inl, inr, arith}
use Rattle.std.proofs.lemmas.List.{append_assoc, length-append, length-take-le, take_more_set, length-set}
use Rattle.std.proofs.lemmas.Bool.{cases_Bool, cases_lt, cases_order, lt-ltb, le-ltb}
use Rattle.table.specs.declared.extent.Slot.{Slot}
use Rattle.table.specs.Kinds.{Laws}
use Rattle.table.specs.Extents.{value_at, value_from, at, Climbs, Breaks, Covers, next}
use Rattle.table.specs.Maps.{Map, over}
use Rattle.table.specs.Calls.{Leaves}
use Rattle.table.specs.Steps.{Splices}
use Rattle.table.specs.Walks.{laid, piece, pieces, joined, Lays}
use Rattle.table.proofs.Alike.{from_before, from_after, goes_on, start_value, both_on, same_is, via, back}
use Rattle.table.proofs.Unique.{least}
use Rattle.table.proofs.Replays.{behind_kept}

-- the slots before those that are left are written at the front of a row that held xs
pub record Written {V : Type 0} (all xs ys : List (Slot V)) (count : ℕ) (rest : List (Slot V)) : Type 0 where
  pub room : count ≤ length ys
  pub row : length ys ≡ length xs
  pub front : take count ys ++ rest ≡ all
  pub kept : drop count ys ≡ drop count xs

-- one slot more
pub written_more : {V : Type 0} (all xs ys rest : List (Slot V)) (x : Slot V) (count : ℕ) → Written all xs ys count (x ∷ rest) → length all ≤ length xs → Written all xs (set ys count x) (count + 1) rest
written_more all xs ys rest x count written few =
    let many = ap length written.front in
    let lt : count < length ys = omega (arith, many, length-append (take count ys) (x ∷ rest), length-take-le count ys written.room, written.row) in
    let long = length-set ys count x in
    record {
      room = omega arith;
      row = long ∙ written.row;
      front = rw (take_more_set ys count x lt) (append_assoc (take count ys) (x ∷ []) rest ∙ written.front);
      kept = behind_kept ys xs count x written.kept;
    }

module _ {V : Type 0} (shift : V → ℕ → V) (same : V → V → Bool) (n : ℕ) (m : Map V) where
  -- From a sector on, which the first of their extents holds, slots write a map of n sectors.
  abbrev Makes : List (Slot V) → ℕ → Type 0
  Makes [] a = a ≡ n
  Makes (s ∷ ss) a =
      (s.start ≤ a) × (a < next ss n) × ((d : V) (i : ℕ) → a ≤ i → i < next ss n → same (m d i) (value_at shift s i) ≡ true) × Makes ss (next ss n)

  -- and from a later sector of the first extent on
  makes_on : (ss : List (Slot V)) (s : Slot V) (a e : ℕ) → Makes (s ∷ ss) a → a ≤ e → e < next ss n → Makes (s ∷ ss) e
  makes_on ss s a e made le lt = (omega (arith, made.0), lt, λ d i h k. made.2 d i (omega arith) k, made.3)

-- slots that climb are at most as many as the sectors from the first one's start on
climbs_few : {V : Type 0} (ss : List (Slot V)) (s : Slot V) (n : ℕ) → Climbs s ss n → s.start + length (s ∷ ss) ≤ n
climbs_few [] s n up = omega (arith, up)
climbs_few (t ∷ ts) s n up = omega (arith, up.0, climbs_few ts t n up.1)

module _ {V : Type 0} {shift : V → ℕ → V} {same : V → V → Bool} {clear : V → Bool} (laws : Laws shift same clear) (n : ℕ) where
  makes_behind : (ss : List (Slot V)) (s : Slot V) (m : Map V) → Climbs s ss n → ((d : V) (i : ℕ) → s.start ≤ i → m d i ≡ value_from shift s ss i) → Makes shift same n m (s ∷ ss) s.start
  makes_behind [] s m up is = (omega arith, up, λ d i h k. same_is laws (m d i) (value_at shift s i) (is d i h), refl)
  makes_behind (t ∷ ts) s m up is = (
    omega arith,
    up.0,
    λ d i h k. same_is laws (m d i) (value_at shift s i) (is d i h ∙ from_before shift s t ts i k),
    makes_behind ts t m up.1 (λ d i h. is d i (omega (arith, up.0)) ∙ from_after shift s t ts i h),
  )

  -- the slots of a table write its map
  makes : (xs : List (Slot V)) → Covers xs n → Makes shift same n (at shift xs) xs 0
  makes [] covers = sym covers
  makes (s ∷ ss) covers =
      subst (Makes shift same n (at shift (s ∷ ss)) (s ∷ ss)) covers.0 (makes_behind ss s (at shift (s ∷ ss)) covers.1 (λ d i h. refl))

  -- a piece has the value of the one map over the other as long as both extents go on
  piece_goes : (s t : Slot V) (a i : ℕ) (u v : V) → s.start ≤ a → t.start ≤ a → a ≤ i → same u (value_at shift s i) ≡ true → same v (value_at shift t i) ≡ true → same (cond (clear u) v u) (value_at shift (piece shift clear s t a) i) ≡ true
  piece_goes s t a i u v above below le top base =
      let over = via laws top (back laws (goes_on laws s a i above le)) in
      let stays = laws.clear_same u (shift (value_at shift s a) (i - a)) over ∙ laws.clear_shift (value_at shift s a) (i - a) in
      elim (cases_Bool (clear (value_at shift s a))) [
        | inl e ↦ rw (stays, e) (via laws base (back laws (goes_on laws t a i below le)))
        | inr e ↦ rw (stays, e) over
      ]

  -- the pieces of what is left of two tables write the one map over the other
  module _ (top base : Map V) where
    pieces_make : (tops bases : List (Slot V)) (a : ℕ) → Makes shift same n top tops a → Makes shift same n base bases a → (next (pieces shift clear n a tops bases) n ≡ a) × Makes shift same n (over clear top base) (pieces shift clear n a tops bases) a
    pieces_make [] bases a above below = (sym above, above)
    pieces_make (s ∷ ss) [] a above below = (sym below, below)
    pieces_make (s ∷ ss) (t ∷ ts) a above below =
        elim (cases_order (next ss n) (next ts n)) [
          | inl e ↦
              rw (le-ltb (next ss n) (next ts n) (omega arith), le-ltb (next ts n) (next ss n) (omega arith))
              (more _ (next ss n) above.1 (omega arith) (omega arith) (pieces_make ss ts (next ss n) above.3 (subst (Makes shift same n base ts) (sym e) below.3)))
          | inr (inl l) ↦
              rw (lt-ltb (next ss n) (next ts n) l)
              (more _ (next ss n) above.1 (omega arith) (omega arith) (pieces_make ss (t ∷ ts) (next ss n) above.3 (makes_on shift same n base ts t a (next ss n) below (omega (arith, above.1)) l)))
          | inr (inr l) ↦
              rw (le-ltb (next ss n) (next ts n) (omega arith), lt-ltb (next ts n) (next ss n) l)
              (more _ (next ts n) below.1 (omega arith) (omega arith) (pieces_make (s ∷ ss) ts (next ts n) (makes_on shift same n top ss s a (next ts n) above (omega (arith, below.1)) l) below.3))
        ]
      where
        more : (ps : List (Slot V)) (e : ℕ) → a < e → e ≤ next ss n → e ≤ next ts n → (next ps n ≡ e) × Makes shift same n (over clear top base) ps e → (a ≡ a) × Makes shift same n (over clear top base) (piece shift clear s t a ∷ ps) a
        more ps e up le le' made = (
          refl,
          (
            omega arith,
            omega (arith, made.0),
            λ d i h k. piece_goes s t a i (top d i) (base d i) above.0 below.0 h (above.2 d i h (omega (arith, made.0))) (below.2 d i h (omega (arith, made.0))),
            rw made.0 made.1,
          ),
        )

  module _ (m : Map V) where
    -- s goes on with the value of t, and so writes the map where t does
    both_make : (s t : Slot V) (e : ℕ) → s.start < t.start → same (value_at shift s t.start) t.value ≡ true → ((d : V) (i : ℕ) → s.start ≤ i → i < t.start → same (m d i) (value_at shift s i) ≡ true) → ((d : V) (i : ℕ) → t.start ≤ i → i < e → same (m d i) (value_at shift t i) ≡ true) → (d : V) (i : ℕ) → s.start ≤ i → i < e → same (m d i) (value_at shift s i) ≡ true
    both_make s t e up goes first second d i h k =
        elim (cases_lt i t.start) [
          | inl l ↦ first d i h l
          | inr l ↦
              let along = both_on laws s t t.start i (omega arith) (omega arith) l (via laws goes (back laws (start_value laws t))) in
              via laws (second d i l k) (back laws along)
        ]

    -- the slots that pieces make behind s
    joined_make : (ts : List (Slot V)) (s : Slot V) → s.start < next ts n → ((d : V) (i : ℕ) → s.start ≤ i → i < next ts n → same (m d i) (value_at shift s i) ≡ true) → Makes shift same n m ts (next ts n) → Climbs s (joined shift same (Some s) ts) n × Breaks shift same s (joined shift same (Some s) ts) × ((d : V) (i : ℕ) → s.start ≤ i → i < n → same (m d i) (value_from shift s (joined shift same (Some s) ts) i) ≡ true)
    joined_make [] s up here behind = (up, tt, here)
    joined_make (t ∷ ts) s up here behind =
        elim (cases_Bool (same (value_at shift s t.start) t.value)) [
          | inl goes ↦
              rw goes (joined_make ts s (omega (arith, up, behind.1)) (both_make s t (next ts n) up goes here behind.2) behind.3)
          | inr breaks ↦
              let more = joined_make ts t behind.1 behind.2 behind.3 in
              rw breaks (
                (up, more.0),
                (breaks, more.1),
                λ d i h k.
                    elim (cases_lt i t.start) [
                      | inl l ↦ rw (from_before shift s t (joined shift same (Some t) ts) i l) (here d i h l)
                      | inr l ↦ rw (from_after shift s t (joined shift same (Some t) ts) i l) (more.2 d i l k)
                    ],
              )
        ]

    joined_lays : (ps : List (Slot V)) → n ≤ 2 ^ 40 → Makes shift same n m ps 0 → Lays shift same m n (joined shift same None ps)
    joined_lays [] bounded made =
        record {
          bounded = bounded;
          writes = (sym made, λ d i h. absurd (let z : ⊥ = omega (arith, made) in z));
          distinct = tt;
          few = omega arith;
          least = λ zs writes. omega arith;
        }
    joined_lays (p ∷ ps) bounded made =
        let slots = joined_make ps p (omega (arith, made.0, made.1)) (λ d i h k. made.2 d i (omega arith) k) made.3 in
        let agrees : (d : V) (i : ℕ) → i < n → same (m d i) (value_from shift p (joined shift same (Some p) ps) i) ≡ true = λ d i h. slots.2 d i (omega (arith, made.0)) h in
        record {
          bounded = bounded;
          writes = ((omega (arith, made.0), slots.0), agrees);
          distinct = slots.1;
          few = omega (arith, climbs_few (joined shift same (Some p) ps) p n slots.0);
          least = λ zs writes. least laws (p ∷ joined shift same (Some p) ps) zs p.value n (omega (arith, made.0), slots.0) slots.1 writes.0 (λ i h. via laws (back laws (agrees p.value i h)) (writes.1 p.value i h));
        }

  -- the slots of a top over a base
  pub overlay_lays : (tops bases : List (Slot V)) → n ≤ 2 ^ 40 → Covers tops n → Covers bases n → Lays shift same (laid shift clear tops bases) n (joined shift same None (pieces shift clear n 0 tops bases))
  overlay_lays tops bases bounded above below =
      joined_lays (laid shift clear tops bases) (pieces shift clear n 0 tops bases) bounded
      (pieces_make (at shift tops) (at shift bases) tops bases 0 (makes tops above) (makes bases below)).1

-- what such slots give the call that has counted them
module _ {V : Type 0} {shift : V → ℕ → V} {same : V → V → Bool} (m : Map V) (n : ℕ) (ys : List (Slot V)) (count : ℕ) (lays : Lays shift same m n ys) (many : count ≡ length ys) where
  pub lays_leaves : (xs xs' : List (Slot V)) → Splices xs ys xs' (length ys) → Leaves shift same m n xs (record { count = count; length = n }) xs'
  lays_leaves xs xs' spliced =
      let left = rw (← many) at spliced in
      record {
        normal = record { room = left.room; bounded = lays.bounded; covers = rw left.front lays.writes.0; distinct = rw left.front lays.distinct };
        len = refl;
        map = rw left.front lays.writes.1;
        kept = left.kept;
      }
