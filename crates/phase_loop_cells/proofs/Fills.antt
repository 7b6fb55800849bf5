-- Elements that stand where an index has no cell.
use Rattle.std.proofs.Common.{◌≡◌, ℕ, ◌*◌, ◌<◌, ℤ, pos, List, [], ◌∷◌, length, take, drop, get_or, sym, ap, ◌∙◌, arith}
use Rattle.std.proofs.lemmas.List.{drop_more}

pub old_one : (elements : List ℤ) (size place : ℕ) (n : ℤ) → size ≡ 1 → place < length elements → n ≡ get_or elements place (pos 0) → take size (drop (place * size) elements) ≡ n ∷ []
old_one elements size place n one inside is =
    let at : place * 1 ≡ place = omega arith in
    ap (λ s. take s (drop (place * s) elements)) one ∙ ap (λ k. take 1 (drop k elements)) at ∙ ap (take 1) (drop_more elements place (pos 0) inside) ∙ ap (λ z. z ∷ []) (sym is)

pub default_one : (elements : List ℤ) (n : ℤ) → length elements ≡ 1 → n ≡ get_or elements 0 (pos 0) → elements ≡ n ∷ []
default_one [] n one is = absurd (omega (arith, one))
default_one (x ∷ []) n one is = ap (λ z. z ∷ []) (sym is)
default_one (x ∷ y ∷ xs) n one is = absurd (omega (arith, one))
