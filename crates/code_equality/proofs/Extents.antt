-- Extents that are the same whole numbers are the same.
use Rattle.std.proofs.Common.{◌≡◌, ℕ, pos, List, [], ◌∷◌, map, refl, ap, sym, ◌∙◌}
use Rattle.std.specs.Prelude.{unsigned_abs}

back : (xs : List ℕ) → map unsigned_abs (map pos xs) ≡ xs
back [] = refl
back (x ∷ xs) = ap (λ ys. x ∷ ys) (back xs)

pub same_naturals : (xs ys : List ℕ) → map pos xs ≡ map pos ys → xs ≡ ys
same_naturals xs ys e = sym (back xs) ∙ ap (map unsigned_abs) e ∙ back ys
