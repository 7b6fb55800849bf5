-- How many components an index has, by how many extents it has.
use Rattle.std.proofs.Common.{◌≡◌, ◌≢◌, ℕ, List, [], ◌∷◌, length, map, refl, ap, Some, None, slice_index_or, arith}
use Rattle.std.specs.Prelude.{ℤ, pos, unsigned_abs}
use Rattle.core_facts.specs.Facts.{index_count}

pub scalar_counts : (s : List ℕ) → length s ≡ 0 → Some 1 ≡ index_count s
scalar_counts [] none = refl
scalar_counts (n ∷ s) none = absurd (omega (arith, none))

pub vector_counts : (s : List ℕ) (z : ℤ) → length s ≡ 1 → z ≡ slice_index_or (map pos s) 0 z → Some (unsigned_abs z) ≡ index_count s
vector_counts [] z one is = absurd (omega (arith, one))
vector_counts (n ∷ []) z one is = ap (λ (w : ℤ). Some (unsigned_abs w)) is
vector_counts (n ∷ m ∷ s) z one is = absurd (omega (arith, one))

pub others_count : (s : List ℕ) → length s ≢ 0 → length s ≢ 1 → None ≡ index_count s
others_count [] some more = absurd (some refl)
others_count (n ∷ []) some more = absurd (more refl)
others_count (n ∷ m ∷ s) some more = refl
