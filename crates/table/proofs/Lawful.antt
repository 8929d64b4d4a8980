-- The laws of tables, from the contracts of the calls and the laws of the kind.
use Rattle.std.proofs.Common.{◌≡◌, ℕ, ◌+◌, ◌-◌, ◌<◌, ◌≤◌, Bool, true, false, cond, ltb, ◌⊎◌, List, [], ◌∷◌, length, take, Ok, Err, Result, is_ok, sym, refl, ap, ◌∙◌, inl, inr, arith}
use Rattle.std.proofs.lemmas.List.{length-take-le}
use Rattle.std.proofs.lemmas.Bool.{cases_lt, cond-true, cond-false, lt-ltb, le-ltb}
use Rattle.table.specs.declared.extent.Head.{Head}
use Rattle.table.specs.declared.extent.Run.{Run}
use Rattle.table.specs.declared.extent.Slot.{Slot}
use Rattle.table.specs.declared.refusal.Refusal.{Refusal}
use Rattle.table.specs.Kinds.{Laws}
use Rattle.table.specs.Extents.{at, Covers, Distinct, Normal}
use Rattle.table.specs.Maps.{Map, Agree, appended, assigned, over}
use Rattle.table.specs.Checks.{check, untold}
use Rattle.table.specs.Calls.{map_of, Leaves, AssignsBy}
use Rattle.table.specs.Laws.{SameSlots, In, Call, Mapped, changed, after, fresh, fresh_head, DoesBy, RanBy, Holds, Least, EqualMaps, Histories, Commute}
use Rattle.table.specs.Laws.Call.{append, assign, cut, overlay}
use Rattle.table.proofs.Alike.{via, back}
use Rattle.table.proofs.Unique.{least, equal_maps, same_maps}

module _ {V : Type 0} {shift : V → ℕ → V} {same : V → V → Bool} {clear : V → Bool} (laws : Laws shift same clear) where
  least_list : (xs ys : List (Slot V)) (n : ℕ) → Covers xs n → Distinct shift same xs → Covers ys n → Agree same (at shift xs) (at shift ys) n → length xs ≤ length ys
  least_list [] ys n covers distinct other agree = omega arith
  least_list (s ∷ ss) ys n covers distinct other agree = least laws (s ∷ ss) ys s.value n covers distinct other (agree s.value)

  pub least_stands : Least shift same clear
  least_stands h xs ys normal writes =
      let many : length (take h.count xs) ≡ h.count = length-take-le h.count xs normal.room in
      let short = least_list (take h.count xs) ys h.length normal.covers normal.distinct writes.0 writes.1 in
      omega arith

  equal_list : (xs ys : List (Slot V)) (n : ℕ) → Covers xs n → Distinct shift same xs → Covers ys n → Distinct shift same ys → Agree same (at shift xs) (at shift ys) n → SameSlots same xs ys
  equal_list [] [] n covers distinct other distinct' agree = tt
  equal_list [] (t ∷ ts) n covers distinct other distinct' agree = equal_maps laws [] (t ∷ ts) t.value n covers distinct other distinct' (agree t.value)
  equal_list (s ∷ ss) ys n covers distinct other distinct' agree = equal_maps laws (s ∷ ss) ys s.value n covers distinct other distinct' (agree s.value)

  pub equal_maps_stand : EqualMaps shift same clear
  equal_maps_stand h k xs ys normal other e = (
    (λ slots d i lt. same_maps laws (take h.count xs) (take k.count ys) d i slots),
    λ agree. equal_list (take h.count xs) (take k.count ys) h.length normal.covers normal.distinct (rw e other.covers) other.distinct agree,
  )

  -- maps that agree still do after the same change
  cond_same : (b : Bool) (x y u v : V) → same x u ≡ true → same y v ≡ true → same (cond b x y) (cond b u v) ≡ true
  cond_same true x y u v p q = p
  cond_same false x y u v p q = q

  appended_agree : (m w : Map V) (n k : ℕ) (v : V) → Agree same m w n → Agree same (appended shift m n v) (appended shift w n v) k
  appended_agree m w n k v agree d i lt =
      elim (cases_lt i n) [
        | inl h ↦ rw (cond-true (ltb i n) (m d i) (shift v (i - n)) (lt-ltb i n h), cond-true (ltb i n) (w d i) (shift v (i - n)) (lt-ltb i n h)) (agree d i h)
        | inr h ↦ rw (cond-false (ltb i n) (m d i) (shift v (i - n)) (le-ltb i n h), cond-false (ltb i n) (w d i) (shift v (i - n)) (le-ltb i n h)) (laws.same_self (shift v (i - n)))
      ]

  assigned_agree : (m w : Map V) (a l n : ℕ) (v : V) → Agree same m w n → Agree same (assigned shift m a l v) (assigned shift w a l v) n
  assigned_agree m w a l n v agree d i lt =
      cond_same (ltb i a) (m d i) (cond (ltb i (a + l)) (shift v (i - a)) (m d i)) (w d i) (cond (ltb i (a + l)) (shift v (i - a)) (w d i)) (agree d i lt)
      (cond_same (ltb i (a + l)) (shift v (i - a)) (m d i) (shift v (i - a)) (w d i) (laws.same_self (shift v (i - a))) (agree d i lt))

  agree_on : (m w u : Map V) (n : ℕ) → Agree same m w n → Agree same w u n → Agree same m u n
  agree_on m w u n p q d i lt = via laws (p d i lt) (q d i lt)

  -- what an accepted call leaves holds the changed map
  holds_left : (m : Mapped V) (w : Map V) (n : ℕ) (xs : List (Slot V)) (h' : Head) (xs' : List (Slot V)) → n ≡ m.length → Agree same m.value w n → Leaves shift same w n xs h' xs' → Holds shift same clear m h' xs'
  holds_left m w n xs h' xs' e agree left =
      record {
        normal = left.normal;
        len = left.len ∙ e;
        map = rw left.len (agree_on m.value w (map_of shift h' xs') n agree left.map);
      }

  holds_done : (c : Call V) (m : Mapped V) (h : Head) (xs : List (Slot V)) (h' : Head) (xs' : List (Slot V)) (u : Unit {0}) → Holds shift same clear m h xs → DoesBy shift same clear untold c h xs h' xs' (Ok u) → Holds shift same clear (changed shift clear c m) h' xs'
  holds_done (append l v) m h xs h' xs' u holds does =
      holds_left (changed shift clear (append l v) m) (appended shift (map_of shift h xs) h.length v) (h.length + l) xs h' xs'
      (ap (λ (n : ℕ). n + l) holds.len)
      (rw (← holds.len) (appended_agree m.value (map_of shift h xs) h.length (h.length + l) v holds.map)) does.0
  holds_done (assign run v) m h xs h' xs' u holds does =
      holds_left (changed shift clear (assign run v) m) (assigned shift (map_of shift h xs) run.start run.length v) h.length xs h' xs' holds.len
      (assigned_agree m.value (map_of shift h xs) run.start run.length h.length v holds.map) does.0
  holds_done (cut n) m h xs h' xs' u holds does =
      holds_left (changed shift clear (cut n) m) (map_of shift h xs) n xs h' xs' refl (λ d i lt. holds.map d i (let le : n ≤ h.length = does.1.1.0 in omega arith)) does.0
  holds_done (overlay t tops b bases) m h xs h' xs' u holds does =
      holds_left (changed shift clear (overlay t tops b bases) m) (over clear (map_of shift t tops) (map_of shift b bases)) t.length xs h' xs' refl
      (λ d i lt. laws.same_self (over clear (map_of shift t tops) (map_of shift b bases) d i)) does.0

  kept_done : (c : Call V) (h : Head) (xs : List (Slot V)) (h' : Head) (xs' : List (Slot V)) (e : Refusal) → DoesBy shift same clear untold c h xs h' xs' (Err e) → (h' ≡ h) × (xs' ≡ xs)
  kept_done (append l v) h xs h' xs' e does = does.0
  kept_done (assign run v) h xs h' xs' e does = does.0
  kept_done (cut n) h xs h' xs' e does = does.0
  kept_done (overlay t tops b bases) h xs h' xs' e does = does.0

  holds_kept : (m : Mapped V) (h h' : Head) (xs xs' : List (Slot V)) → (h' ≡ h) × (xs' ≡ xs) → Holds shift same clear m h xs → Holds shift same clear m h' xs'
  holds_kept m h h' xs xs' kept holds = rw (kept.0, kept.1) holds

  -- one call, with its answer
  holds_call : (c : Call V) (answer : Result (Unit {0}) Refusal) (m : Mapped V) (h : Head) (xs : List (Slot V)) (h' : Head) (xs' : List (Slot V)) → Holds shift same clear m h xs → DoesBy shift same clear untold c h xs h' xs' answer → Holds shift same clear (cond (is_ok answer) (changed shift clear c m) m) h' xs'
  holds_call c (Ok u) m h xs h' xs' holds does = holds_done c m h xs h' xs' u holds does
  holds_call c (Err e) m h xs h' xs' holds does = holds_kept m h h' xs xs' (kept_done c h xs h' xs' e does) holds

  holds_after : (cs : List (Call V × Result (Unit {0}) Refusal)) (m : Mapped V) (h : Head) (xs : List (Slot V)) (h' : Head) (xs' : List (Slot V)) → Holds shift same clear m h xs → RanBy shift same clear untold cs h xs h' xs' → Holds shift same clear (after shift clear cs m) h' xs'
  holds_after [] m h xs h' xs' holds ran = holds_kept m h h' xs xs' ran holds
  holds_after (c ∷ cs) m h xs h' xs' holds ran =
      holds_after cs (cond (is_ok c.1) (changed shift clear c.0 m) m) ran.0 ran.1 h' xs'
      (holds_call c.0 c.1 m h xs ran.0 ran.1 holds ran.2) ran.3

  fresh_holds : (xs : List (Slot V)) → Holds shift same clear fresh fresh_head xs
  fresh_holds xs =
      record {
        normal = record { room = omega arith; bounded = omega arith; covers = refl; distinct = tt };
        len = refl;
        map = λ d i lt. absurd (let z : ⊥ = omega arith in z);
      }

  pub histories_stand : Histories shift same clear
  histories_stand cs xs h' xs' ran = holds_after cs fresh fresh_head xs h' xs' (fresh_holds xs) ran

  -- what a contract says is more than what a law asks
  pub assigns_told : (h : Head) (xs : List (Slot V)) (run : Run) (v : V) (h' : Head) (xs' : List (Slot V)) (r : Result (Unit {0}) Refusal) → AssignsBy shift same check h xs run v h' xs' r → AssignsBy shift same untold h xs run v h' xs' r
  assigns_told h xs run v h' xs' (Ok u) says = (says.0, (says.1.0, (says.1.1.0, (says.1.1.1.0, tt))))
  assigns_told h xs run v h' xs' (Err e) says = says

  does_told : (c : Call V) (h : Head) (xs : List (Slot V)) (h' : Head) (xs' : List (Slot V)) (r : Result (Unit {0}) Refusal) → DoesBy shift same clear check c h xs h' xs' r → DoesBy shift same clear untold c h xs h' xs' r
  does_told (append l v) h xs h' xs' (Ok u) says = (says.0, (says.1.0, (says.1.1.0, (says.1.1.1.0, tt))))
  does_told (append l v) h xs h' xs' (Err e) says = says
  does_told (assign run v) h xs h' xs' r says = assigns_told h xs run v h' xs' r says
  does_told (cut n) h xs h' xs' r says = says
  does_told (overlay t tops b bases) h xs h' xs' (Ok u) says = (says.0, (says.1.0, (says.1.1.0, tt)))
  does_told (overlay t tops b bases) h xs h' xs' (Err e) says = says

  pub ran_told : (cs : List (Call V × Result (Unit {0}) Refusal)) (h : Head) (xs : List (Slot V)) (h' : Head) (xs' : List (Slot V)) → RanBy shift same clear check cs h xs h' xs' → RanBy shift same clear untold cs h xs h' xs'
  ran_told [] h xs h' xs' ran = ran
  ran_told (c ∷ cs) h xs h' xs' ran = (ran.0, ran.1, does_told c.0 h xs ran.0 ran.1 c.1 ran.2, ran_told cs ran.0 ran.1 h' xs' ran.3)

  -- an assign's map in its run and outside of it
  assigned_in : (m : Map V) (p : Run) (v d : V) (i : ℕ) → In p i → assigned shift m p.start p.length v d i ≡ shift v (i - p.start)
  assigned_in m p v d i h =
      cond-false (ltb i p.start) (m d i) (cond (ltb i (p.start + p.length)) (shift v (i - p.start)) (m d i)) (le-ltb i p.start h.0)
      ∙ cond-true (ltb i (p.start + p.length)) (shift v (i - p.start)) (m d i) (lt-ltb i (p.start + p.length) h.1)

  assigned_out : (m : Map V) (p : Run) (v d : V) (i : ℕ) → (In p i → ⊥) → assigned shift m p.start p.length v d i ≡ m d i
  assigned_out m p v d i out =
      elim (cases_lt i p.start) [
        | inl lt ↦ cond-true (ltb i p.start) (m d i) (cond (ltb i (p.start + p.length)) (shift v (i - p.start)) (m d i)) (lt-ltb i p.start lt)
        | inr le ↦
            cond-false (ltb i p.start) (m d i) (cond (ltb i (p.start + p.length)) (shift v (i - p.start)) (m d i)) (le-ltb i p.start le)
            ∙ (elim (cases_lt i (p.start + p.length)) [
              | inl lt ↦ absurd (out (le, lt))
              | inr past ↦ cond-false (ltb i (p.start + p.length)) (shift v (i - p.start)) (m d i) (le-ltb i (p.start + p.length) past)
            ])
      ]

  in_or_out : (p : Run) (i : ℕ) → In p i ⊎ (In p i → ⊥)
  in_or_out p i =
      elim (cases_lt i p.start) [
        | inl lt ↦ inr (λ h. let a : p.start ≤ i = h.0 in let z : ⊥ = omega arith in z)
        | inr le ↦ elim (cases_lt i (p.start + p.length)) [ inl lt ↦ inl (le, lt) | inr past ↦ inr (λ h. let b : i < p.start + p.length = h.1 in let z : ⊥ = omega arith in z) ]
      ]

  either_order : (m : Map V) (p q : Run) (v w d : V) (i : ℕ) → (In p i → In q i → ⊥) →
      assigned shift (assigned shift m p.start p.length v) q.start q.length w d i ≡ assigned shift (assigned shift m q.start q.length w) p.start p.length v d i
  either_order m p q v w d i apart =
      elim (in_or_out p i) [
        | inl inside ↦
            assigned_out (assigned shift m p.start p.length v) q w d i (apart inside) ∙ assigned_in m p v d i inside
            ∙ sym (assigned_in (assigned shift m q.start q.length w) p v d i inside)
        | inr outside ↦
            elim (in_or_out q i) [
              | inl inside ↦
                  assigned_in (assigned shift m p.start p.length v) q w d i inside ∙ sym (assigned_in m q w d i inside)
                  ∙ sym (assigned_out (assigned shift m q.start q.length w) p v d i outside)
              | inr both ↦
                  assigned_out (assigned shift m p.start p.length v) q w d i both ∙ assigned_out m p v d i outside
                  ∙ sym (assigned_out m q w d i both) ∙ sym (assigned_out (assigned shift m q.start q.length w) p v d i outside)
            ]
      ]

  -- the map after two accepted assigns
  twice : (p q : Run) (v w : V) (h h₁ h₂ : Head) (xs xs₁ xs₂ : List (Slot V)) → AssignsBy shift same untold h xs p v h₁ xs₁ (Ok tt) → AssignsBy shift same untold h₁ xs₁ q w h₂ xs₂ (Ok tt) →
      Normal shift same h₂ xs₂ × (h₂.length ≡ h.length) × Agree same (assigned shift (assigned shift (map_of shift h xs) p.start p.length v) q.start q.length w) (map_of shift h₂ xs₂) h.length
  twice p q v w h h₁ h₂ xs xs₁ xs₂ first second =
      let left = first.0 in
      let right = second.0 in (
        right.normal,
        right.len ∙ left.len,
        agree_on (assigned shift (assigned shift (map_of shift h xs) p.start p.length v) q.start q.length w) (assigned shift (map_of shift h₁ xs₁) q.start q.length w) (map_of shift h₂ xs₂) h.length
            (assigned_agree (assigned shift (map_of shift h xs) p.start p.length v) (map_of shift h₁ xs₁) q.start q.length h.length w left.map)
            (rw left.len at right.map),
      )

  pub commute_stands : Commute shift same clear
  commute_stands p q v w apart h h₁ h₂ k k₁ k₂ xs xs₁ xs₂ ys ys₁ ys₂ e copies a b c d =
      let one = twice p q v w h h₁ h₂ xs xs₁ xs₂ a b in
      let two = twice q p w v k k₁ k₂ ys ys₁ ys₂ c d in
      (equal_maps_stand h₂ k₂ xs₂ ys₂ one.0 two.0 (one.1 ∙ e ∙ sym two.1)).1
      (λ u i lt.
      via laws (back laws (one.2 u i (let z = one.1 in omega arith)))
      (via laws (rw (either_order (map_of shift h xs) p q v w u i (apart i)) (both u i))
      (two.2 u i (let z = one.1 in omega arith))))
    where
      both : (u : V) (i : ℕ) → same (assigned shift (assigned shift (map_of shift h xs) q.start q.length w) p.start p.length v u i) (assigned shift (assigned shift (map_of shift k ys) q.start q.length w) p.start p.length v u i) ≡ true
      both u i =
          let start : Agree same (map_of shift h xs) (map_of shift k ys) (i + 1) = λ f j lt. same_maps laws (take h.count xs) (take k.count ys) f j copies in
          assigned_agree (assigned shift (map_of shift h xs) q.start q.length w) (assigned shift (map_of shift k ys) q.start q.length w) p.start p.length (i + 1) v
          (assigned_agree (map_of shift h xs) (map_of shift k ys) q.start q.length (i + 1) w start) u i (omega arith)
