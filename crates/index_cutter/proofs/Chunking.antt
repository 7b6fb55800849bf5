-- Parts that were cut, and are given back in their places.
use Rattle.std.proofs.Common.{◌≡◌, ℕ, zero, suc, ◌-◌, ◌*◌, ◌<◌, ◌≤◌, min, List, [], ◌∷◌, length, refl, sym, ap, subst, ◌∙◌, zero-mul, suc-mul, inl, inr, arith}
use Rattle.std.proofs.lemmas.List.{length-map}
use Rattle.std.specs.Int.{div_ceil}
use Rattle.std.proofs.lemmas.Grind.{div_ceil_times}
use Rattle.std.proofs.lemmas.Bool.{cases_order}
use Rattle.std.proofs.Math.Nat.{mul-le-mul_right, mul_assoc}
use denote.RattleType.{RattleType}
use Rattle.buffer_parts.specs.Spans.{Span, IsCut, KeepPlaces, SideBySide, joined, lengths, start_of}
use Rattle.buffer_parts.proofs.Sides.{side_kept, starts_at, as_many, joined_as_long, lengths_many}

empty : {X : Type 0} (xs : List X) → length xs ≤ 0 → xs ≡ []
empty [] none = refl
empty (x ∷ xs) none = absurd (native.Mathlib.Nat.not-suc-le-zero none)

module _ (R : RattleType) (whole : Span R.Denot) (size count : ℕ) where
  nothing : count ≡ 0 → length whole.cells ≤ count * size → whole.cells ≡ []
  nothing none enough = empty whole.cells (subst (λ (n : ℕ). length whole.cells ≤ n) (ap (λ (k : ℕ). k * size) none ∙ zero-mul size) enough)

  -- no parts of nothing
  pub none_cut : (parts : List (Span R.Denot)) → parts ≡ [] → count ≡ 0 → length whole.cells ≤ count * size → IsCut R whole size count parts
  none_cut parts none uncounted enough =
      subst (λ (l : List (Span R.Denot)). IsCut R whole size count l) (sym none)
      (record { side = tt; cells = sym (nothing uncounted enough); lengths = sym (ap (λ (k : ℕ). lengths size k (length whole.cells)) uncounted) })

  pub none_back : (parts back : List (Span R.Denot)) → parts ≡ [] → count ≡ 0 → length whole.cells ≤ count * size → KeepPlaces parts back → whole.cells ≡ joined back
  none_back parts back none uncounted enough kept =
      let same : length back ≡ length parts = as_many parts back kept in
      let few : length back ≡ 0 = same ∙ ap length none in
      nothing uncounted enough ∙ sym (ap joined (empty back (omega arith)))

  module _ (parts back : List (Span R.Denot)) (cut : IsCut R whole size count parts) (kept : KeepPlaces parts back) where
    pub many_back : length back ≡ count
    many_back = as_many parts back kept ∙ sym (length-map parts (λ (p : Span R.Denot). length p.cells)) ∙ ap length cut.lengths ∙ lengths_many size count (length whole.cells)

    pub start_back : 0 < length back → start_of back ≡ whole.start
    start_back some = starts_at R whole.start back some (side_kept R whole.start parts back kept cut.side)

    pub side_back : 0 < length back → SideBySide R (start_of back) back
    side_back some = subst (λ p. SideBySide R p back) (sym (start_back some)) (side_kept R whole.start parts back kept cut.side)

    pub long_back : length (joined back) ≡ length whole.cells
    long_back = joined_as_long parts back kept ∙ ap length cut.cells

-- A size above the whole length cuts as that length does.
pub lengths_within : (s n t : ℕ) → t ≡ min s n → (count m : ℕ) → m ≤ n → lengths t count m ≡ lengths s count m
lengths_within s n t is zero m within = refl
lengths_within s n t is (suc count) m within =
    let head : min t m ≡ min s m = omega arith in let rest : m - t ≡ m - s = omega arith in let less : m - s ≤ n = omega arith in
    (λ i. head i ∷ lengths t count (rest i)) ∙ ap (λ (l : List ℕ). min s m ∷ l) (lengths_within s n t is count (m - s) less)

once : (positions size cell count n t : ℕ) → positions ≤ count * size → n ≡ positions * cell → t ≡ n → n ≤ count * t
once positions size cell zero n t covered long is =
    let no_size = zero-mul size in let none : positions ≡ 0 = omega arith in
    let no_cells : n ≡ 0 = long ∙ ap (λ (k : ℕ). k * cell) none ∙ zero-mul cell in
    let no_count = zero-mul t in omega arith
once positions size cell (suc count) n t covered long is = let more = suc-mul count t in omega arith

-- so many chunks of so many cells take all cells
pub enough_chunks : (positions size cell count n t : ℕ) → 0 < size → count ≡ div_ceil positions size → n ≡ positions * cell → t ≡ min (size * cell) n → n ≤ count * t
enough_chunks positions size cell count n t some counts long is =
    let covered : positions ≤ count * size = subst (λ (k : ℕ). positions ≤ k * size) (sym counts) (div_ceil_times positions size some).0 in
    let all : positions * cell ≤ (count * size) * cell = mul-le-mul_right cell covered in
    let turned : (count * size) * cell ≡ count * (size * cell) = mul_assoc count size cell in
    let fully : t ≡ size * cell → n ≤ count * t = λ whole. subst (λ (k : ℕ). n ≤ count * k) (sym whole) (omega arith) in
    elim (cases_order (size * cell) n) [
      | inl same ↦ fully (omega (arith, same))
      | inr (inl below) ↦ fully (omega (arith, below))
      | inr (inr above) ↦ once positions size cell count n t covered long (omega (arith, above))
    ]

module _ (R : RattleType) (whole : Span R.Denot) (size n t count : ℕ) where
  -- cut by a size that is not above the whole length
  pub cut_by : t ≡ min size n → length whole.cells ≡ n → (parts : List (Span R.Denot)) → IsCut R whole t count parts → IsCut R whole size count parts
  cut_by is long parts cut =
      record { side = cut.side; cells = cut.cells; lengths = cut.lengths ∙ lengths_within size n t is count (length whole.cells) (omega arith) }
