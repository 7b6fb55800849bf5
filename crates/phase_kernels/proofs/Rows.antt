-- A row of one element.
use Rattle.std.proofs.Common.{◌≡◌, ℕ, ◌*◌, ◌<◌, ℤ, pos, List, [], ◌∷◌, length, take, drop, get_or, set, Option, Ok, Some, ap, sym, ◌∙◌, arith}
use Rattle.std.proofs.lemmas.List.{drop_more}
use Rattle.phase_team.specs.Segments.{row_at}
use Rattle.sac_base.specs.Outcomes.{Ends}

row_one : (width j : ℕ) (rows : List ℤ) → width ≡ 1 → j < length rows → row_at width j rows ≡ get_or rows j (pos 0) ∷ []
row_one width j rows one inside =
    let at : j * 1 ≡ j = omega arith in
    ap (λ w. row_at w j rows) one ∙ ap (λ n. take 1 (drop n rows)) at ∙ ap (take 1) (drop_more rows j (pos 0) inside)

-- the cell that is one element is that row
pub row_told : (width j : ℕ) (rows : List ℤ) (cell : Ends (Option (List ℤ))) → width ≡ 1 → j < length rows → cell ≡ Ok (Some (get_or rows j (pos 0) ∷ [])) → cell ≡ Ok (Some (row_at width j rows))
row_told width j rows cell one inside is = is ∙ ap (λ (x : List ℤ). Ok (Some x)) (sym (row_one width j rows one inside))

-- one element is all
pub one_put : (xs : List ℤ) (n m : ℤ) → length xs ≡ 1 → m ≡ n → set xs 0 m ≡ n ∷ []
one_put [] n m long is = absurd (omega (arith, long))
one_put (x ∷ []) n m long is = ap (λ z. z ∷ []) is
one_put (x ∷ y ∷ xs) n m long is = absurd (omega (arith, long))
