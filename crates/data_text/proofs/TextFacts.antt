-- The lines of a text, one after another.
use Rattle.std.proofs.Common.{◌≡◌, ℕ, ◌+◌, ◌<◌, ◌≤◌, ◌==◌, nat_lt, Bool, false, List, [], ◌∷◌, ◌++◌, take, drop, length, append-nil, refl, ap, sym, ◌∙◌, Some, None, Result, Ok, Err, arith, cond, inl, inr, lt-ltb, le-ltb}
use Rattle.std.specs.Prelude.{position, ◌⊎◌}
use Rattle.std.specs.List.{slice_split, position_or_len}
use Rattle.std.specs.Str.Lines.{strip_carriage_return}
use Rattle.std.proofs.lemmas.Bool.{cases_lt}
use Rattle.std.proofs.lemmas.List.Elements.{All-from_get_or}
use Rattle.std.proofs.lemmas.List.Splits.{slice_split_first, slice_split_none}
use Rattle.std.proofs.lemmas.List.Sums.{fails_before_first}
use Rattle.std.proofs.Math.ListN.{drop_of_length-le}
use Rattle.sac_base.specs.declared.base.Base.{Base}
use Rattle.sac_base.specs.Arrays.{ArrayValue}
use Rattle.data_text.specs.Texts.{Numbered, Refusal, arrays_of, data_lines, data_lines_of, with_line, is_passed_over}

-- arrays that were read, before the rest
abbrev pub with_front : List ArrayValue → Result (List ArrayValue) Refusal → Result (List ArrayValue) Refusal
with_front front (Ok rest) = Ok (front ++ rest)
with_front front (Err refusal) = Err refusal

abbrev feed : ℕ → Bool
feed b = b == 10

found_at : (xs : List ℕ) (n end : ℕ) → n ≡ position_or_len feed xs → (n < length xs) ⊎ (length xs ≤ n) → cond (nat_lt n (length xs)) (Some n) None ≡ Some end → slice_split feed xs ≡ take end xs ∷ slice_split feed (drop (end + 1) xs)
found_at xs n end is (inl below) found =
    let same : Some n ≡ Some end = ap (λ t. cond t (Some n) None) (sym (lt-ltb n (length xs) below)) ∙ found in
    let ends : position_or_len feed xs ≡ end = cc in
    slice_split_first feed xs 0 (omega arith)
    ∙ ap (λ k. take k xs ∷ slice_split feed (drop (k + 1) xs)) ends
found_at xs n end is (inr above) found =
    let same : None ≡ Some end = ap (λ t. cond t (Some n) None) (sym (le-ltb n (length xs) above)) ∙ found in
    absurd (cc)

missing_at : (xs : List ℕ) (n : ℕ) → n ≡ position_or_len feed xs → (n < length xs) ⊎ (length xs ≤ n) → cond (nat_lt n (length xs)) (Some n) None ≡ None → slice_split feed xs ≡ xs ∷ []
missing_at xs n is (inl below) missing =
    let same : Some n ≡ None = ap (λ t. cond t (Some n) None) (sym (lt-ltb n (length xs) below)) ∙ missing in
    absurd (cc)
missing_at xs n is (inr above) missing =
    slice_split_none feed xs (All-from_get_or (λ b. feed b ≡ false) xs 0 (λ i inside. fails_before_first feed xs i 0 (omega arith)))

-- the first line of a text with a line feed
pub line_found : (xs rest : List ℕ) (end : ℕ) (line : List ℕ) → position feed xs ≡ Some end → line ≡ strip_carriage_return (take end xs) → rest ≡ drop (end + 1) xs → (before : ℕ) → data_lines before xs ≡ with_line before line (data_lines (before + 1) rest)
line_found xs rest end line found line_is rest_is before =
    ap (data_lines_of before) (found_at xs (position_or_len feed xs) end refl (cases_lt (position_or_len feed xs) (length xs)) found)
    ∙ (λ i. with_line before (sym line_is i) (data_lines (before + 1) (sym rest_is i)))

pub no_lines : (before : ℕ) → data_lines before [] ≡ []
unfolding is_passed_over
no_lines before = refl

-- the one line of a text without a line feed
pub line_missing : (xs line : List ℕ) → position feed xs ≡ None → line ≡ strip_carriage_return xs → (before : ℕ) → data_lines before xs ≡ with_line before line (data_lines (before + 1) [])
line_missing xs line missing line_is before =
    ap (data_lines_of before) (missing_at xs (position_or_len feed xs) refl (cases_lt (position_or_len feed xs) (length xs)) missing)
    ∙ (λ i. with_line before (sym line_is i) (sym (no_lines (before + 1)) i))

pub no_bytes : (before : ℕ) (xs : List ℕ) → length xs ≤ 0 → data_lines before xs ≡ []
no_bytes before [] empty = no_lines before
no_bytes before (x ∷ xs) empty = absurd (omega (arith, empty))

no_bases : (ls : List Numbered) → arrays_of ls [] ≡ Ok []
no_bases [] = refl
no_bases (l ∷ ls) = refl

nothing_left : (front : List ArrayValue) (rest whole : Result (List ArrayValue) Refusal) → rest ≡ Ok [] → with_front front rest ≡ whole → whole ≡ Ok front
nothing_left front rest whole none is = sym is ∙ ap (with_front front) none ∙ ap Ok (append-nil front)

-- no line is left
pub lines_read : (front : List ArrayValue) (ls : List Numbered) (bases : List Base) (whole : Result (List ArrayValue) Refusal) → ls ≡ [] → with_front front (arrays_of ls bases) ≡ whole → whole ≡ Ok front
lines_read front ls bases whole none is = nothing_left front (arrays_of ls bases) whole (ap (λ x. arrays_of x bases) none) is

-- no base is left
pub bases_read : (front : List ArrayValue) (ls : List Numbered) (bases : List Base) (i : ℕ) (whole : Result (List ArrayValue) Refusal) → length bases ≤ i → with_front front (arrays_of ls (drop i bases)) ≡ whole → whole ≡ Ok front
bases_read front ls bases i whole past is = nothing_left front (arrays_of ls (drop i bases)) whole (ap (arrays_of ls) (drop_of_length-le bases past) ∙ no_bases ls) is
