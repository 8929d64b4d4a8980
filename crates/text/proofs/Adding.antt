-- One addition to a buffer after another.
use Rattle.std.proofs.Common.{◌≡◌, ℕ, ◌+◌, ◌<◌, List, [], ◌∷◌, ◌++◌, length, get_or, take, drop, sym, refl, ap, ◌∙◌, subst, append_assoc, arith, length-append, length-drop, take-append-drop, decimal}
use Rattle.std.proofs.lemmas.List.{take_more, take_at, drop_at, length-take-le, flat_map_more, drop-drop}
use Rattle.std.proofs.lemmas.Grind.{flat_map-append}
use Rattle.std.specs.List.{flat_map}
use Rattle.text.specs.declared.line.Mapping.{Mapping}
use Rattle.text.specs.declared.line.Mapping.TheVariants.{Linear as linear, Striped as striped, Zero as zeroes, Error as errors}
use Rattle.text.specs.declared.line.Line.{Line}
use Rattle.text.specs.declared.spot.Spot.{Spot}
use Rattle.text.specs.declared.writer.Writer.{Writer}
use Rattle.text.specs.Writers.{Adds, HasRoom, content}
use Rattle.text.specs.Spelling.{spaced, spell, spot_fields, spot_text, mapping_fields, mapping_text}

module _ {p q : Writer} {m : List ℕ} (h : Adds m p q) where
  -- the same addition, under another term
  pub adds_as : (n : List ℕ) → m ≡ n → Adds n p q
  adds_as n e = subst (λ (k : List ℕ). Adds k p q) e h

  pub adds_then : {r : Writer} {n : List ℕ} → Adds n q r → Adds (m ++ n) p r
  adds_then {r} {n} k = record {
    holds = k.holds ∙ ap (λ xs. xs ++ n) h.holds ∙ append_assoc (content p) m n;
    ends = simp length-append (omega (arith, h.ends, k.ends));
    rest =
        k.rest
        ∙ ap (λ j. drop j q.buffer.now) k.ends
        ∙ sym (drop-drop (length n) q.at q.buffer.now)
        ∙ ap (drop (length n)) h.rest
        ∙ drop-drop (length n) q.at p.buffer.now
        ∙ ap (λ j. drop j p.buffer.now) (sym k.ends);
    size = k.size ∙ h.size;
    same = k.same ∙ h.same;
  }

  -- what is to follow has room behind it
  pub room_then : (n : List ℕ) → HasRoom (m ++ n) p → HasRoom n q
  room_then n room = omega (arith, simp length-append at room, h.ends, h.size)

-- bytes in the place of as many others
pub put_adds : (p q : Writer) (ds : List ℕ) → q.at ≡ p.at + length ds → HasRoom ds p → q.buffer.ghost_name ≡ p.buffer.ghost_name → q.buffer.now ≡ take p.at p.buffer.now ++ (ds ++ drop (p.at + length ds) p.buffer.now) → Adds ds p q
put_adds p q ds end room same whole =
    let b : List ℕ = p.buffer.now in
    let e : ℕ = p.at + length ds in
    let front : length (take p.at b ++ ds) ≡ e = simp length-append (omega (arith, length-take-le p.at b (omega arith))) in
    let parts : q.buffer.now ≡ (take p.at b ++ ds) ++ drop e b = whole ∙ sym (append_assoc (take p.at b) ds (drop e b)) in
    record {
      holds = ap (λ j. take j q.buffer.now) end ∙ ap (take e) parts ∙ take_at (take p.at b ++ ds) (drop e b) e front;
      ends = end;
      rest =
          ap (λ j. drop j q.buffer.now) end ∙ ap (drop e) parts ∙ drop_at (take p.at b ++ ds) (drop e b) e front
          ∙ ap (λ j. drop j b) (sym end);
      size = ap length parts ∙ length-append (take p.at b ++ ds) (drop e b) ∙ omega (arith, front, length-drop e b);
      same = same;
    }

-- bytes in the place of others, where the bytes before a place and those from it on are known
pub placed_adds : (p q : Writer) (ds : List ℕ) (s e : ℕ) → s + length ds ≡ e → e ≡ p.at + length ds → q.at ≡ e → HasRoom ds p → drop s q.buffer.now ≡ ds ++ drop e p.buffer.now → take s q.buffer.now ≡ take s p.buffer.now → q.buffer.ghost_name ≡ p.buffer.ghost_name → Adds ds p q
placed_adds p q ds s e start end at room behind before same =
    let b : List ℕ = p.buffer.now in
    let first : s ≡ p.at = omega arith in
    put_adds p q ds (at ∙ end) room same
    (sym (take-append-drop s q.buffer.now) ∙ (λ i. before i ++ behind i) ∙ (λ i. take (first i) b ++ (ds ++ drop (end i) b)))

-- what each element adds, one element on
module _ {X : Type 0} (f : X → List ℕ) (xs : List X) (i : ℕ) {p q : Writer} (h : Adds (flat_map f (take i xs)) p q) where
  pub adds_more : {r : Writer} (d : X) → i < length xs → Adds (f (get_or xs i d)) q r → Adds (flat_map f (take (i + 1) xs)) p r
  adds_more d lt k =
      adds_as (adds_then h k) _ (flat_map_more f [] (take i xs) (get_or xs i d) ∙ ap (flat_map f) (sym (take_more xs i d lt)))

  pub room_more : (d : X) → i < length xs → HasRoom (flat_map f xs) p → HasRoom (f (get_or xs i d)) q
  room_more d lt room =
      let one = flat_map_more f [] (take i xs) (get_or xs i d) ∙ ap (flat_map f) (sym (take_more xs i d lt)) in
      let all = ap (flat_map f) (sym (take-append-drop (i + 1) xs)) ∙ flat_map-append f (take (i + 1) xs) (drop (i + 1) xs) in
      let whole : length (flat_map f xs) ≡ length (flat_map f (take (i + 1) xs)) + length (flat_map f (drop (i + 1) xs)) = ap length all ∙ length-append (flat_map f (take (i + 1) xs)) (flat_map f (drop (i + 1) xs)) in
      room_then h (f (get_or xs i d)) (rw one (omega (arith, whole, room)))

-- the fields of spots, spaced, are the spots as they stand in a line
pub spaced_spots : (cols : List Spot) → spaced (flat_map spot_fields cols) ≡ flat_map spot_text cols ++ (10 ∷ [])
spaced_spots [] = refl
spaced_spots (s ∷ cols) = rw (spaced_spots cols) (simp append_assoc)

spaced_mapping : (m : Mapping) → spaced (mapping_fields m) ≡ mapping_text m ++ (10 ∷ [])
spaced_mapping (linear s) = simp append_assoc
spaced_mapping (striped c cols) = rw (spaced_spots cols) (simp append_assoc)
spaced_mapping zeroes = refl
spaced_mapping errors = refl

-- a line as it is written
pub spell_is : (l : Line) → ((decimal l.start ++ (32 ∷ decimal l.length)) ++ mapping_text l.mapping) ++ (10 ∷ []) ≡ spell l
spell_is l = rw (spaced_mapping l.mapping) (simp append_assoc)

pub spell_size : (l : Line) → length (spell l) ≡ 2 + length (decimal l.start) + length (decimal l.length) + length (mapping_text l.mapping)
spell_size l = ap length (sym (spell_is l)) ∙ simp length-append (omega arith)
