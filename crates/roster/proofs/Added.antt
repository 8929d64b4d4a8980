-- What the sets of a roster, and one that is added, were found to be.
use Rattle.std.proofs.Common.{◌≡◌, ℕ, ◌-◌, ◌<◌, ◌≤◌, ◌≢◌, ◌⊎◌, List, [], ◌∷◌, All, drop, replicate, length, length-append, get_or, ◌↔◌, sym, ap, ◌∙◌, subst, inl, inr, ⊎_elim, arith}
use Rattle.std.proofs.lemmas.List.{get_or_append_left, drop-replicate}
use Rattle.std.proofs.lemmas.Bool.{cases_lt}
use Rattle.std.proofs.lemmas.List.Elements.{All-from_get_or}
use Rattle.std.proofs.Math.Seq.{get_or-append_seam}
use Rattle.roster.specs.declared.entry.Column.{Column}
use Rattle.roster.specs.declared.entry.SetEntry.{SetEntry}
use Rattle.roster.specs.declared.entry.Entries.{Entries}
use Rattle.roster.specs.Rosters.{no_device, no_set, no_column, device_at, set_at, SoundDevice, Sound, SoundDevices, NoClash, Share, area_of}
use Rattle.roster.proofs.Areas.{share_back}
use Rattle.roster.specs.Additions.{with_set, Apart, OwnApart}

-- what the sets of a slice were found to be, those of the list that it shows are
pub all_listed : (P : SetEntry → Type 0) {xs ys : List SetEntry} {n : ℕ} → xs ≡ ys → length xs ≤ n → ((k : ℕ) → k < n → P (get_or xs k no_set)) → All P ys
all_listed P {xs} shows all told =
    subst (All P) shows (All-from_get_or P xs no_set (λ k h. told k (omega (arith, all, h))))

-- behind n columns that were given stand columns that do not count
pub padding : (n : ℕ) (c : Column) → c ≡ no_column → drop n (c ∷ c ∷ c ∷ c ∷ c ∷ c ∷ c ∷ c ∷ []) ≡ replicate (8 - n) no_column
padding n c p = rw p (drop-replicate n 8 no_column)

pub device_sound : (E : Entries) → SoundDevices E → (d : ℕ) → d < length E.devices.items → SoundDevice (device_at E d)
device_sound E sound d h = sound d no_device h

module _ (E : Entries) (e : SetEntry) (s : Sound E) where
  new_set : set_at (with_set E e) (length E.sets.items) ≡ e
  new_set = get_or-append_seam E.sets.items e [] _

  old_set : (n : ℕ) → n < length E.sets.items → set_at (with_set E e) n ≡ set_at E n
  old_set n h = get_or_append_left E.sets.items (e ∷ []) _ n h

  -- each set listed then is an old one or the new one
  sorted_set : (n : ℕ) → n < length (with_set E e).sets.items → ((n < length E.sets.items) × (set_at (with_set E e) n ≡ set_at E n)) ⊎ ((n ≡ length E.sets.items) × (set_at (with_set E e) n ≡ e))
  sorted_set n h =
      ⊎_elim
      (λ l. inl (l, old_set n l))
      (λ g. let q : n ≡ length E.sets.items = omega (arith, length-append E.sets.items (e ∷ []), h) in inr (q, ap (λ m. set_at (with_set E e) m) q ∙ new_set))
      (cases_lt n (length E.sets.items))

  -- no two columns of a set whose areas are apart share a sector
  own_apart : OwnApart e → (j k : ℕ) → j < e.width → k < e.width → j ≢ k → Share (area_of e j) (area_of e k) → ⊥
  own_apart own j k l h differ share =
      ⊎_elim
      (λ lt. own k h j lt share)
      (λ ge. own j l k (omega arith) (share_back _ _ share))
      (cases_lt j k)

  -- a set that no listed one meets, and that does not meet itself, clashes with none
  pub apart_all : All (λ x. Apart x e) E.sets.items → OwnApart e → NoClash (with_set E e)
  apart_all others own c =
      let one : (x : SetEntry) → set_at (with_set E e) c.n ≡ x → c.j < x.width = λ x p. subst (λ y. c.j < y.width) p c.one.1 in
      let other : (x : SetEntry) → set_at (with_set E e) c.m ≡ x → c.k < x.width = λ x p. subst (λ y. c.k < y.width) p c.other.1 in
      let both : (x y : SetEntry) → set_at (with_set E e) c.n ≡ x → set_at (with_set E e) c.m ≡ y → Share (area_of x c.j) (area_of y c.k) = λ x y p q. subst (λ z. Share (area_of x c.j) (area_of z c.k)) q (subst (λ z. Share (area_of z c.j) (area_of (set_at (with_set E e) c.m) c.k)) p c.share) in
      ⊎_elim
      (λ n_old. ⊎_elim
      (λ m_old. s.apart (record { n = c.n; j = c.j; m = c.m; k = c.k; one = (n_old.0, one _ n_old.1); other = (m_old.0, other _ m_old.1); two = c.two; share = both _ _ n_old.1 m_old.1 }))
      (λ m_new. others c.n _ n_old.0 c.j (one _ n_old.1) c.k (other _ m_new.1) (share_back _ _ (both _ _ n_old.1 m_new.1)))
      (sorted_set c.m c.other.0))
      (λ n_new. ⊎_elim
      (λ m_old. others c.m _ m_old.0 c.k (other _ m_old.1) c.j (one _ n_new.1) (both _ _ n_new.1 m_old.1))
      (λ m_new. own_apart own c.j c.k (one _ n_new.1) (other _ m_new.1) (λ q. c.two (n_new.0 ∙ sym m_new.0, q)) (both _ _ n_new.1 m_new.1))
      (sorted_set c.m c.other.0))
      (sorted_set c.n c.one.0)

  -- an area that meets one of the new set is a clash
  apart_other : NoClash (with_set E e) → (n : ℕ) → n < length E.sets.items → Apart (set_at E n) e
  apart_other clean n h j l k m share =
      clean (record {
        n = n;
        j = j;
        m = length E.sets.items;
        k = k;
        one = (omega (arith, length-append E.sets.items (e ∷ []), h), rw (old_set n h) l);
        other = (omega (arith, length-append E.sets.items (e ∷ [])), rw new_set m);
        two = λ q. omega (arith, q.0, h);
        share = rw (old_set n h, new_set) (share_back _ _ share);
      })

  pub apart_others : NoClash (with_set E e) → All (λ x. Apart x e) E.sets.items
  apart_others clean = All-from_get_or (λ x. Apart x e) E.sets.items no_set (apart_other clean)

  pub apart_own : NoClash (with_set E e) → OwnApart e
  apart_own clean k h j l share =
      clean (record {
        n = length E.sets.items;
        j = j;
        m = length E.sets.items;
        k = k;
        one = (omega (arith, length-append E.sets.items (e ∷ [])), rw new_set (omega arith));
        other = (omega (arith, length-append E.sets.items (e ∷ [])), rw new_set h);
        two = λ q. omega (arith, q.1, l);
        share = rw new_set share;
      })

  -- so the test of listed sets and that within the new one tell whether there is a clash
  pub apart_judged : (All (λ x. Apart x e) E.sets.items × OwnApart e) ↔ NoClash (with_set E e)
  apart_judged = (λ h. apart_all h.0 h.1, λ clean. (apart_others clean, apart_own clean))
