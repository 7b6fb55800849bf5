-- Steps of the reader's loops.
use Rattle.std.proofs.Common.{◌≡◌, ℕ, List, ◌∷◌, ap, sym, ◌∙◌, Option, Some, ℤ}
use Rattle.std.specs.Prelude.{option_and_then}
use Rattle.data_text.specs.Pieces.{Piece, Word, Comma}
use Rattle.data_text.specs.Rows.{keep, keep_extents, extent_read}

-- an extent and a comma
pub extent_step : (row next : Option (List ℤ)) (ps qs rs : List Piece) (w : List ℕ) (z : Option ℤ) → ps ≡ Word w ∷ qs → qs ≡ Comma ∷ rs → Some z ≡ extent_read w → next ≡ keep 8 row z → keep_extents next rs ≡ keep_extents row ps
extent_step row next ps qs rs w z first second read kept =
    ap (λ r. keep_extents r rs) kept
    ∙ ap (λ o. option_and_then (λ y. keep_extents (keep 8 row y) rs) o) read
    ∙ ap (λ ts. keep_extents row (Word w ∷ ts)) (sym second)
    ∙ ap (keep_extents row) (sym first)
