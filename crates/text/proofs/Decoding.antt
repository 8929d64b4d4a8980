-- Spelling is one to one: a text has one list of lines.
use Rattle.std.proofs.Common.{◌≡◌, ℕ, ◌+◌, ◌%◌, ◌^◌, ◌<◌, Bool, true, ◌&&◌, ltb, List, [], ◌∷◌, ◌++◌, length, get_or, codes, decimal, sym, refl, ap, ◌∙◌, subst, append_assoc, arith, length-append}
use Rattle.std.proofs.lemmas.Bool.{and_parts, ltb-true}
use Rattle.std.proofs.lemmas.Fmt.{decimal_by_steps, decimal_injective}
use Rattle.std.proofs.ByRecursion.{All-append, All-push, All-weaker}
use Rattle.std.specs.List.{flat_map, AllByRecursion}
use Rattle.text.specs.declared.spot.Spot.{Spot}
use Rattle.text.specs.declared.line.Line.{Line}
use Rattle.text.specs.declared.line.Mapping.{Mapping}
use Rattle.text.specs.declared.line.Mapping.TheVariants.{Linear as linear, Striped as striped, Zero as zeroes, Error as errors}
use Rattle.text.specs.Spelling.{device_field, spot_fields, mapping_fields, spaced, spell, text_of, SmallSpot, SmallMapping, SmallLine}

-- a text that begins with a byte that is not P
abbrev Stop : (ℕ → Type 0) → List ℕ → Type 0
Stop P [] = ⊥
Stop P (b ∷ bs) = P b → ⊥

-- a word of P bytes ends where the first other byte stands
cut : (P : ℕ → Type 0) (v w r s : List ℕ) → AllByRecursion P v → AllByRecursion P w → Stop P r → Stop P s → v ++ r ≡ w ++ s → (v ≡ w) × (r ≡ s)
cut P [] [] r s av aw hr hs e = (refl, e)
cut P [] (b ∷ w) [] s av aw hr hs e = absurd hr
cut P [] (b ∷ w) (a ∷ r) s av aw hr hs e = let same : b ≡ a = cc in absurd (hr (subst P same aw.0))
cut P (a ∷ v) [] r [] av aw hr hs e = absurd hs
cut P (a ∷ v) [] r (b ∷ s) av aw hr hs e = let same : a ≡ b = cc in absurd (hs (subst P same av.0))
cut P (a ∷ v) (b ∷ w) r s av aw hr hs e =
    let first : a ≡ b = cc in
    let behind : v ++ r ≡ w ++ s = cc in
    let rest = cut P v w r s av.1 aw.1 hr hs behind in
    ((λ i. first i ∷ rest.0 i), rest.1)

-- bytes of a field: neither a space nor a line feed
abbrev Inner : ℕ → Type 0
Inner b = 32 < b

abbrev Digit : ℕ → Type 0
Digit b = (47 < b) × (b < 58)

digits_of : (n : ℕ) → n < 2 ^ 64 → AllByRecursion Digit (decimal n)
digits_of n small =
    decimal_by_steps (λ _ ds. AllByRecursion Digit ds) (λ m l. ((omega arith, omega arith), tt))
    (λ m ds l h. All-push Digit ds (48 + m % 10) h (omega arith, omega arith)) n small

inner_decimal : (n : ℕ) → n < 2 ^ 64 → AllByRecursion Inner (decimal n)
inner_decimal n small = All-weaker Digit Inner (λ b h. omega arith) (decimal n) (digits_of n small)

spaced_stops : (fs : List (List ℕ)) (x : List ℕ) → Stop Inner (spaced fs ++ x)
spaced_stops [] x = λ h. omega arith
spaced_stops (f ∷ fs) x = λ h. omega arith

-- the fields of a line, and what stands behind it
spaced_cut : (fs gs : List (List ℕ)) (x y : List ℕ) → AllByRecursion (AllByRecursion Inner) fs → AllByRecursion (AllByRecursion Inner) gs → spaced fs ++ x ≡ spaced gs ++ y → (fs ≡ gs) × (x ≡ y)
spaced_cut [] [] x y af ag e = (refl, cc)
spaced_cut [] (g ∷ gs) x y af ag e = let z : ◌≡◌ {A = ℕ} 10 32 = cc in absurd (omega arith)
spaced_cut (f ∷ fs) [] x y af ag e = let z : ◌≡◌ {A = ℕ} 32 10 = cc in absurd (omega arith)
spaced_cut (f ∷ fs) (g ∷ gs) x y af ag e =
    let behind : (f ++ spaced fs) ++ x ≡ (g ++ spaced gs) ++ y = cc in
    let regrouped = sym (append_assoc f (spaced fs) x) ∙ behind ∙ append_assoc g (spaced gs) y in
    let here = cut Inner f g (spaced fs ++ x) (spaced gs ++ y) af.0 ag.0 (spaced_stops fs x) (spaced_stops gs y) regrouped in
    let rest = spaced_cut fs gs x y af.1 ag.1 here.1 in
    ((λ i. here.0 i ∷ rest.0 i), rest.1)

inner_spot : (s : Spot) → SmallSpot s → AllByRecursion (AllByRecursion Inner) (spot_fields s)
inner_spot s small = (
  All-append Inner (decimal s.major) (58 ∷ decimal s.minor) (inner_decimal s.major small.0) (omega arith, inner_decimal s.minor small.1),
  (inner_decimal s.sector small.2, tt),
)

inner_spots : (cols : List Spot) → AllByRecursion SmallSpot cols → AllByRecursion (AllByRecursion Inner) (flat_map spot_fields cols)
inner_spots [] small = tt
inner_spots (s ∷ cols) small = All-append (AllByRecursion Inner) (spot_fields s) (flat_map spot_fields cols) (inner_spot s small.0) (inner_spots cols small.1)

-- words of letters have inner bytes, which computes
abbrev inner_bytes : List ℕ → Bool
inner_bytes [] = true
inner_bytes (b ∷ bs) = ltb 32 b && inner_bytes bs

inner_word : (bs : List ℕ) → inner_bytes bs ≡ true → AllByRecursion Inner bs
inner_word [] e = tt
inner_word (b ∷ bs) e = let t = and_parts (ltb 32 b) (inner_bytes bs) e in (ltb-true 32 b t.0, inner_word bs t.1)

inner_mapping : (m : Mapping) → SmallMapping m → AllByRecursion (AllByRecursion Inner) (mapping_fields m)
inner_mapping (linear s) small = (inner_word (codes "linear") refl, inner_spot s small)
inner_mapping (striped c cols) small =
    (inner_word (codes "striped") refl, (inner_decimal (length cols) small.0, (inner_decimal c small.1, inner_spots cols small.2)))
inner_mapping zeroes small = (inner_word (codes "zero") refl, tt)
inner_mapping errors small = (inner_word (codes "error") refl, tt)

device_same : (s t : Spot) → SmallSpot s → SmallSpot t → device_field s ≡ device_field t → (s.major ≡ t.major) × (s.minor ≡ t.minor)
device_same s t ss st e =
    let below : (n : ℕ) → n < 2 ^ 64 → AllByRecursion (λ b. b < 58) (decimal n) = λ n small. All-weaker Digit (λ b. b < 58) (λ b h. h.1) (decimal n) (digits_of n small) in
    let parts = cut (λ b. b < 58) (decimal s.major) (decimal t.major) (58 ∷ decimal s.minor) (58 ∷ decimal t.minor) (below s.major ss.0) (below t.major st.0) (λ h. omega arith) (λ h. omega arith) e in
    let behind = parts.1 in
    (decimal_injective s.major t.major ss.0 st.0 parts.0, decimal_injective s.minor t.minor ss.1 st.1 (cc))

spot_same : (s t : Spot) → SmallSpot s → SmallSpot t → device_field s ≡ device_field t → decimal s.sector ≡ decimal t.sector → s ≡ t
spot_same s t ss st d e =
    let numbers = device_same s t ss st d in
    let sector = decimal_injective s.sector t.sector ss.2 st.2 e in
    λ i. record { major = numbers.0 i; minor = numbers.1 i; sector = sector i }

spots_same : (cols ds : List Spot) → AllByRecursion SmallSpot cols → AllByRecursion SmallSpot ds → flat_map spot_fields cols ≡ flat_map spot_fields ds → cols ≡ ds
spots_same [] [] sc sd e = refl
spots_same [] (t ∷ ds) sc sd e = let z : ◌≡◌ {A = ℕ} 0 1 = cc in absurd (omega arith)
spots_same (s ∷ cols) [] sc sd e = let z : ◌≡◌ {A = ℕ} 0 1 = cc in absurd (omega arith)
spots_same (s ∷ cols) (t ∷ ds) sc sd e =
    let device : device_field s ≡ device_field t = cc in
    let sector : decimal s.sector ≡ decimal t.sector = cc in
    let behind : flat_map spot_fields cols ≡ flat_map spot_fields ds = cc in
    let rest = spots_same cols ds sc.1 sd.1 behind in
    let first = spot_same s t sc.0 sd.0 device sector in
    λ i. first i ∷ rest i

-- the first byte of a mapping's word tells the four apart
abbrev initial : List (List ℕ) → ℕ
initial fs = get_or (get_or fs 0 []) 0 0

mapping_same : (m p : Mapping) → SmallMapping m → SmallMapping p → mapping_fields m ≡ mapping_fields p → m ≡ p
mapping_same (linear s) (linear t) sm sp e =
    let device : device_field s ≡ device_field t = cc in
    let sector : decimal s.sector ≡ decimal t.sector = cc in
    ap linear (spot_same s t sm sp device sector)
mapping_same (linear s) (striped c ds) sm sp e = absurd (omega (arith, ap initial e))
mapping_same (linear s) zeroes sm sp e = absurd (omega (arith, ap initial e))
mapping_same (linear s) errors sm sp e = absurd (omega (arith, ap initial e))
mapping_same (striped b cols) (linear t) sm sp e = absurd (omega (arith, ap initial e))
mapping_same (striped b cols) (striped c ds) sm sp e =
    let chunk : decimal b ≡ decimal c = cc in
    let columns : flat_map spot_fields cols ≡ flat_map spot_fields ds = cc in
    let same = decimal_injective b c sm.1 sp.1 chunk in
    let spots = spots_same cols ds sm.2 sp.2 columns in
    λ i. striped (same i) (spots i)
mapping_same (striped b cols) zeroes sm sp e = absurd (omega (arith, ap initial e))
mapping_same (striped b cols) errors sm sp e = absurd (omega (arith, ap initial e))
mapping_same zeroes (linear t) sm sp e = absurd (omega (arith, ap initial e))
mapping_same zeroes (striped c ds) sm sp e = absurd (omega (arith, ap initial e))
mapping_same zeroes zeroes sm sp e = refl
mapping_same zeroes errors sm sp e = absurd (omega (arith, ap initial e))
mapping_same errors (linear t) sm sp e = absurd (omega (arith, ap initial e))
mapping_same errors (striped c ds) sm sp e = absurd (omega (arith, ap initial e))
mapping_same errors zeroes sm sp e = absurd (omega (arith, ap initial e))
mapping_same errors errors sm sp e = refl

-- the first line of a text, and the text behind it
line_cut : (l k : Line) (x y : List ℕ) → SmallLine l → SmallLine k → spell l ++ x ≡ spell k ++ y → (l ≡ k) × (x ≡ y)
line_cut l k x y sl sk e =
    let fs = decimal l.length ∷ mapping_fields l.mapping in
    let gs = decimal k.length ∷ mapping_fields k.mapping in
    let regrouped = sym (append_assoc (decimal l.start) (spaced fs) x) ∙ e ∙ append_assoc (decimal k.start) (spaced gs) y in
    let front = cut Inner (decimal l.start) (decimal k.start) (spaced fs ++ x) (spaced gs ++ y) (inner_decimal l.start sl.0) (inner_decimal k.start sk.0) (spaced_stops fs x) (spaced_stops gs y) regrouped in
    let fields = spaced_cut fs gs x y (inner_decimal l.length sl.1, inner_mapping l.mapping sl.2) (inner_decimal k.length sk.1, inner_mapping k.mapping sk.2) front.1 in
    let both = fields.0 in
    let size : decimal l.length ≡ decimal k.length = cc in
    let target : mapping_fields l.mapping ≡ mapping_fields k.mapping = cc in
    let starts = decimal_injective l.start k.start sl.0 sk.0 front.0 in
    let sizes = decimal_injective l.length k.length sl.1 sk.1 size in
    let mapped = mapping_same l.mapping k.mapping sl.2 sk.2 target in
    ((λ i. record { start = starts i; length = sizes i; mapping = mapped i }), fields.1)

-- no line is spelled by nothing
line_some : (l : Line) (x : List ℕ) → spell l ++ x ≡ [] → ⊥
line_some l x e = omega (arith, simp length-append at (ap length e))

pub text_same : (ls ks : List Line) → AllByRecursion SmallLine ls → AllByRecursion SmallLine ks → text_of ls ≡ text_of ks → ls ≡ ks
text_same [] [] sl sk e = refl
text_same [] (k ∷ ks) sl sk e = absurd (line_some k (text_of ks) (sym e))
text_same (l ∷ ls) [] sl sk e = absurd (line_some l (text_of ls) e)
text_same (l ∷ ls) (k ∷ ks) sl sk e =
    let first = line_cut l k (text_of ls) (text_of ks) sl.0 sk.0 e in
    let rest = text_same ls ks sl.1 sk.1 first.1 in
    λ i. first.0 i ∷ rest i
