-- What a line of data stands for, and when it is refused.
use Rattle.std.specs.Prelude.{ℕ, Bool, not, ◌&&◌, ◌||◌, ◌==◌, if◌then◌else◌, nat_lt, List, [], ◌∷◌, map, length, Option, Some, None, option_map}
use Rattle.std.specs.Prelude.{option_and_then, Result, Ok, Err, ℤ, pos}
use Rattle.std.specs.List.{list_all}
use Rattle.sac_base.specs.declared.base.Base.{Base}
use Rattle.sac_base.specs.Arrays.{ArrayValue, size, MOST, same_base}
use Rattle.data_text.specs.declared.error.DataCode.{DataCode}
use Rattle.data_text.specs.declared.error.DataCode.TheVariants.{I1, I3, I4, I5, I6}
use Rattle.data_text.specs.Pieces.{Piece, Word, Open, Comma, Close, Colon, pieces}
use Rattle.data_text.specs.Numbers.{numeral, element, base_named, in_range}

-- what a line stands for, in whole numbers of any size
pub record LineValue : Type 0 where
  pub base : Base
  pub extents : List ℕ
  pub elements : List ℤ

-- one or more extents with commas between them up to a `]`, and what follows it
abbrev pub more_extents : List Piece → Option (List ℕ × List Piece)
more_extents (Word w ∷ Comma ∷ ps) = option_and_then (λ n. option_map (λ x. (n ∷ x.0, x.1)) (more_extents ps)) (numeral w)
more_extents (Word w ∷ Close ∷ ps) = option_map (λ n. (n ∷ [], ps)) (numeral w)
more_extents _ = None

-- the extents up to a `]`, none included, and what follows it
abbrev pub extents_at : List Piece → Option (List ℕ × List Piece)
extents_at (Close ∷ ps) = Some ([], ps)
extents_at ps = more_extents ps

-- words alone, each of which is an element
abbrev pub elements_at : Base → List Piece → Option (List ℤ)
elements_at base [] = Some []
elements_at base (Word w ∷ ps) = option_and_then (λ z. option_map (λ zs. z ∷ zs) (elements_at base ps)) (element base w)
elements_at base _ = None

-- `:` and the elements
abbrev pub colon_at : Base → List Piece → Option (List ℤ)
colon_at base (Colon ∷ ps) = elements_at base ps
colon_at base _ = None

-- the base and the `[`, and what follows them
abbrev pub base_at : List Piece → Option (Base × List Piece)
base_at (Word w ∷ Open ∷ ps) = option_map (λ base. (base, ps)) (base_named w)
base_at _ = None

-- the line of a base from behind its `[`
abbrev pub rest_at : Base → List Piece → Option LineValue
rest_at base ps = option_and_then (λ x. option_map (λ zs. record { base = base; extents = x.0; elements = zs }) (colon_at base x.1)) (extents_at ps)

-- the whole line
abbrev pub line_at : List Piece → Option LineValue
line_at ps = option_and_then (λ x. rest_at x.0 x.1) (base_at ps)

abbrev pub is_in_range : LineValue → Bool
is_in_range v = list_all in_range (map pos v.extents) && list_all in_range v.elements

abbrev pub is_too_large : LineValue → Bool
is_too_large v = nat_lt 8 (length v.extents) || nat_lt MOST (length v.elements)

-- the array that a line of this form gives for a parameter of this base, or the first refusal in their order
abbrev pub judged : Base → LineValue → Result ArrayValue DataCode
judged base v =
    if not (is_in_range v) then Err I3 else (
    if is_too_large v then Err I6 else (
    if not (length v.elements == size v.extents) then Err I4 else (
    if not (same_base v.base base) then Err I5 else
    Ok (record { base = v.base; shape = v.extents; cells = v.elements }))))

abbrev pub judged_form : Base → Option LineValue → Result ArrayValue DataCode
judged_form base None = Err I1
judged_form base (Some v) = judged base v

-- what a line gives for a parameter of this base
abbrev pub line_value : Base → List ℕ → Result ArrayValue DataCode
line_value base line = judged_form base (line_at (pieces line))
