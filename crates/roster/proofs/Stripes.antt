-- How the offsets of a stripe set go over its columns: each to its own sector of an area.
use Rattle.std.proofs.Common.{◌≡◌, ℕ, ◌+◌, ◌*◌, ◌/◌, ◌%◌, ◌^◌, ◌<◌, ◌≤◌, sym, ap, ◌∙◌, mul_assoc, mul_comm, arith}
use Rattle.std.proofs.lemmas.Nat.{div-add-mod', div_below, mod_below, mul-add-lt, mul-le, div-mul-add, mod-mul-add}
use Rattle.roster.specs.declared.entry.SetEntry.{SetEntry}
use Rattle.roster.specs.declared.stripe.Stripe.{Stripe}
use Rattle.roster.specs.declared.stripe.StripeSet.{StripeSet}
use Rattle.roster.specs.Rosters.{span, size_of, Shaped}
use Rattle.roster.specs.Places.{column_of, row_of, Bounded}

-- how far into its column's area an offset lies
abbrev pub depth_of : SetEntry → ℕ → ℕ
depth_of e o = row_of e o * e.chunk + o % e.chunk

turned : (w c r : ℕ) → w * (c * r) ≡ (r * w) * c
turned w c r = mul_comm w (c * r) ∙ mul_assoc c r w ∙ mul_comm c (r * w)

module _ (e : SetEntry) (shaped : Shaped e) where
  pub column_below : (o : ℕ) → column_of e o < e.width
  column_below o = mod_below (o / e.chunk) e.width (omega (arith, shaped.0))

  rest_below : (o : ℕ) → o % e.chunk < e.chunk
  rest_below o = mod_below o e.chunk (omega (arith, shaped.2))

  pub row_below : (o : ℕ) → o < size_of e → row_of e o < e.rows
  row_below o h =
      div_below (o / e.chunk) e.width e.rows (omega (arith, shaped.0))
      (div_below o e.chunk (e.rows * e.width) (omega (arith, shaped.2)) (omega (arith, turned e.width e.chunk e.rows)))

  pub depth_below : (o : ℕ) → o < size_of e → depth_of e o < span e
  depth_below o h = mul-add-lt (row_of e o) e.chunk (o % e.chunk) e.rows (row_below o h) (rest_below o)

  -- column and depth give the offset back
  pub offset_back : (o p : ℕ) → column_of e o ≡ column_of e p → depth_of e o ≡ depth_of e p → o ≡ p
  offset_back o p same_column same_depth =
      let same_row : row_of e o ≡ row_of e p =
      sym (div-mul-add (row_of e o) e.chunk (o % e.chunk) (rest_below o))
      ∙ ap (λ n. n / e.chunk) same_depth
      ∙ div-mul-add (row_of e p) e.chunk (p % e.chunk) (rest_below p) in
      let same_rest : o % e.chunk ≡ p % e.chunk =
      sym (mod-mul-add (row_of e o) e.chunk (o % e.chunk) (rest_below o))
      ∙ ap (λ n. n % e.chunk) same_depth
      ∙ mod-mul-add (row_of e p) e.chunk (p % e.chunk) (rest_below p) in
      let same_chunk : o / e.chunk ≡ p / e.chunk =
      sym (div-add-mod' (o / e.chunk) e.width)
      ∙ ap (λ n. n * e.width + (o / e.chunk) % e.width) same_row
      ∙ ap (λ n. row_of e p * e.width + n) same_column
      ∙ div-add-mod' (p / e.chunk) e.width in
      sym (div-add-mod' o e.chunk)
      ∙ ap (λ n. n * e.chunk + o % e.chunk) same_chunk
      ∙ ap (λ n. (p / e.chunk) * e.chunk + n) same_rest
      ∙ div-add-mod' p e.chunk

  module _ (bounded : Bounded e) where
    pub span_bounded : span e ≤ 2 ^ 40
    span_bounded = omega (arith, bounded 0 (omega (arith, shaped.0)))

    pub size_bounded : size_of e ≤ 8 * 2 ^ 40
    size_bounded = mul-le e.width (span e) 8 (2 ^ 40) shaped.1 span_bounded

-- a stripe, and a stripe set, is no larger than eight devices, by what its ghost fields say
pub stripe_size : (s : Stripe) → size_of s.numbers.now ≤ 8 * 2 ^ 40
stripe_size s = size_bounded s.numbers.now s.shaped s.bounded

pub set_size : (s : StripeSet) → size_of s.numbers ≤ 8 * 2 ^ 40
set_size s = size_bounded s.numbers s.shaped (λ j h. omega (arith, s.roomy j h))
