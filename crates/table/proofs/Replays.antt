-- A loop over edits and their answers: one call more.
use Rattle.std.proofs.Common.{◌≡◌, ℕ, zero, suc, ◌+◌, ◌<◌, ◌≤◌, min, Bool, List, [], ◌∷◌, ◌++◌, length, get_or, take, drop, set, Result, sym, refl, ap, ◌∙◌, subst, arith}
use Rattle.std.proofs.lemmas.List.{length-take-le, take_more, take_more_set, drop-set-lt, drop-drop}
use Rattle.table.specs.declared.extent.Head.{Head}
use Rattle.table.specs.declared.extent.Slot.{Slot}
use Rattle.table.specs.declared.history.Edit.{Edit}
use Rattle.table.specs.declared.refusal.Refusal.{Refusal}
use Rattle.table.specs.Histories.{call_of, calls}
use Rattle.table.specs.Laws.{Call, Does, Ran}

module _ {V : Type 0} where
  calls_push : (es : List (Edit V)) (rs : List (Result (Unit {0}) Refusal)) (e : Edit V) (r : Result (Unit {0}) Refusal) → length es ≡ length rs → calls (es ++ (e ∷ [])) (rs ++ (r ∷ [])) ≡ calls es rs ++ ((call_of e, r) ∷ [])
  calls_push [] [] e r h = refl
  calls_push [] (s ∷ rs) e r h = absurd (let z : ⊥ = omega (arith, h) in z)
  calls_push (f ∷ es) [] e r h = absurd (let z : ⊥ = omega (arith, h) in z)
  calls_push (f ∷ es) (s ∷ rs) e r h = ap (λ (l : List (Call V × Result (Unit {0}) Refusal)). (call_of f, s) ∷ l) (calls_push es rs e r (omega (arith, h)))

  calls_more : (es : List (Edit V)) (rs : List (Result (Unit {0}) Refusal)) (i : ℕ) (e : Edit V) (r : Result (Unit {0}) Refusal) → i < length es → i < length rs → e ≡ get_or es i e → calls (take (i + 1) es) (take (i + 1) (set rs i r)) ≡ calls (take i es) (take i rs) ++ ((call_of e, r) ∷ [])
  calls_more es rs i e r lt less read =
      let front : take (i + 1) es ≡ take i es ++ (e ∷ []) = take_more es i e lt ∙ ap (λ (x : Edit V). take i es ++ (x ∷ [])) (sym read) in
      let answered : take (i + 1) (set rs i r) ≡ take i rs ++ (r ∷ []) = take_more_set rs i r less in
      rw (front, answered)
      (calls_push (take i es) (take i rs) e r (length-take-le i es (omega arith) ∙ sym (length-take-le i rs (omega arith))))

  -- as many as both lists have
  pub calls_all : (n : ℕ) (es : List (Edit V)) (rs : List (Result (Unit {0}) Refusal)) → min (length es) (length rs) ≤ n → calls (take n es) (take n rs) ≡ calls es rs
  calls_all zero [] rs h = refl
  calls_all zero (e ∷ es) [] h = refl
  calls_all zero (e ∷ es) (r ∷ rs) h = absurd (let z : ⊥ = omega arith in z)
  calls_all (suc n) [] rs h = refl
  calls_all (suc n) (e ∷ es) [] h = refl
  calls_all (suc n) (e ∷ es) (r ∷ rs) h = ap (λ (l : List (Call V × Result (Unit {0}) Refusal)). (call_of e, r) ∷ l) (calls_all n es rs (omega arith))

  module _ (shift : V → ℕ → V) (same : V → V → Bool) (clear : V → Bool) where
    ran_push : (cs : List (Call V × Result (Unit {0}) Refusal)) (c : Call V) (o : Result (Unit {0}) Refusal) (h k : Head) (xs ys : List (Slot V)) (h' : Head) (xs' : List (Slot V)) → Ran shift same clear cs h xs k ys → Does shift same clear c k ys h' xs' o → Ran shift same clear (cs ++ ((c, o) ∷ [])) h xs h' xs'
    ran_push [] c o h k xs ys h' xs' ran does =
        (h', xs', subst (λ (l : Head). Does shift same clear c l xs h' xs' o) ran.0 (subst (λ (l : List (Slot V)). Does shift same clear c k l h' xs' o) ran.1 does), (refl, refl))
    ran_push (d ∷ cs) c o h k xs ys h' xs' ran does =
        (ran.0, ran.1, ran.2, ran_push cs c o ran.0 k ran.1 ys h' xs' ran.3 does)

    pub ran_more : (es : List (Edit V)) (rs : List (Result (Unit {0}) Refusal)) (i : ℕ) (e : Edit V) (o : Result (Unit {0}) Refusal) (h k : Head) (xs ys : List (Slot V)) (h' : Head) (xs' : List (Slot V)) → i < length es → i < length rs → e ≡ get_or es i e → Ran shift same clear (calls (take i es) (take i rs)) h xs k ys → Does shift same clear (call_of e) k ys h' xs' o → Ran shift same clear (calls (take (i + 1) es) (take (i + 1) (set rs i o))) h xs h' xs'
    ran_more es rs i e o h k xs ys h' xs' lt less read ran does =
        rw (calls_more es rs i e o lt less read)
        (ran_push (calls (take i es) (take i rs)) (call_of e) o h k xs ys h' xs' ran does)

-- what is behind stays
pub behind_kept : {X : Type 0} (rs start : List X) (i : ℕ) (r : X) → drop i rs ≡ drop i start → drop (i + 1) (set rs i r) ≡ drop (i + 1) start
behind_kept rs start i r kept =
    drop-set-lt (i + 1) rs i r (omega arith) ∙ sym (drop-drop 1 i rs) ∙ ap (drop 1) kept ∙ drop-drop 1 i start
