-- The numbers of a line as the reader keeps them.
use Rattle.std.specs.Prelude.{ℕ, if◌then◌else◌, nat_le, nat_lt, not, ◌==◌, Result, Ok, Err, List, [], ◌∷◌, ◌++◌, length, Option, Some, None}
use Rattle.std.specs.Prelude.{option_map, option_and_then, ℤ, pos}
use Rattle.sac_base.specs.declared.base.Base.{Base}
use Rattle.sac_base.specs.Arrays.{ArrayValue, MOST, size, same_base}
use Rattle.sac_base.specs.Parts.{shape_of_numbers}
use Rattle.data_text.specs.declared.error.DataCode.{DataCode}
use Rattle.data_text.specs.declared.error.DataCode.TheVariants.{I1, I3, I4, I5, I6}
use Rattle.data_text.specs.Pieces.{Piece, Word, Comma, Close, Colon}
use Rattle.data_text.specs.Lines.{base_at}
use Rattle.data_text.specs.Numbers.{numeral, element, in_range}

-- the number, where it is in range
abbrev pub in_cell : ℤ → Option ℤ
in_cell z = if in_range z then Some z else None

-- the word's number, and within that its value where it is in range
abbrev pub extent_read : List ℕ → Option (Option ℤ)
extent_read w = option_map (λ n. in_cell (pos n)) (numeral w)

abbrev pub element_read : Base → List ℕ → Option (Option ℤ)
element_read base w = option_map in_cell (element base w)

-- Numbers in range, at most one more than `most`, or None once one was out of range. One number more:
abbrev pub keep : ℕ → Option (List ℤ) → Option ℤ → Option (List ℤ)
keep most None z = None
keep most (Some zs) None = None
keep most (Some zs) (Some z) = Some (if nat_le (length zs) most then zs ++ z ∷ [] else zs)

-- the extents up to a `]`, kept after others, and what follows it
abbrev pub keep_extents : Option (List ℤ) → List Piece → Option (Option (List ℤ) × List Piece)
keep_extents row (Word w ∷ Comma ∷ ps) = option_and_then (λ z. keep_extents (keep 8 row z) ps) (extent_read w)
keep_extents row (Word w ∷ Close ∷ ps) = option_map (λ z. (keep 8 row z, ps)) (extent_read w)
keep_extents row _ = None

abbrev pub keep_shape : List Piece → Option (Option (List ℤ) × List Piece)
keep_shape (Close ∷ ps) = Some (Some [], ps)
keep_shape ps = keep_extents (Some []) ps

-- the elements, kept after others
abbrev pub keep_elements : Base → Option (List ℤ) → List Piece → Option (Option (List ℤ))
keep_elements base row [] = Some row
keep_elements base row (Word w ∷ ps) = option_and_then (λ z. keep_elements base (keep MOST row z) ps) (element_read base w)
keep_elements base row _ = None

abbrev pub keep_colon : Base → List Piece → Option (Option (List ℤ))
keep_colon base (Colon ∷ ps) = keep_elements base (Some []) ps
keep_colon base _ = None

-- the array of this shape with these elements for a parameter of this base, or why they are refused
abbrev pub judged_sized : Base → Base → List ℕ → List ℤ → Result ArrayValue DataCode
judged_sized base line_base shape zs =
    if not (length zs == size shape) then Err I4 else (
    if not (same_base line_base base) then Err I5 else
    Ok (record { base = line_base; shape = shape; cells = zs }))

abbrev pub judged_short : Base → Base → Option (List ℕ) → List ℤ → Result ArrayValue DataCode
judged_short base line_base None zs = Err I6
judged_short base line_base (Some shape) zs = judged_sized base line_base shape zs

abbrev pub judged_cells : Base → Base → List ℤ → List ℤ → Result ArrayValue DataCode
judged_cells base line_base ns zs = if nat_lt MOST (length zs) then Err I6 else judged_short base line_base (shape_of_numbers (Some ns)) zs

abbrev pub judged_rows : Base → Base → Option (List ℤ) → Option (List ℤ) → Result ArrayValue DataCode
judged_rows base line_base None cells = Err I3
judged_rows base line_base (Some ns) None = Err I3
judged_rows base line_base (Some ns) (Some zs) = judged_cells base line_base ns zs

-- the same of a line, whose rows are kept

abbrev pub judged_elements : Base → Base → Option (List ℤ) → Option (Option (List ℤ)) → Result ArrayValue DataCode
judged_elements base line_base extents None = Err I1
judged_elements base line_base extents (Some elements) = judged_rows base line_base extents elements

abbrev pub judged_shape : Base → Base → Option (Option (List ℤ) × List Piece) → Result ArrayValue DataCode
judged_shape base line_base None = Err I1
judged_shape base line_base (Some x) = judged_elements base line_base x.0 (keep_colon line_base x.1)

abbrev pub judged_base : Base → Option (Base × List Piece) → Result ArrayValue DataCode
judged_base base None = Err I1
judged_base base (Some x) = judged_shape base x.0 (keep_shape x.1)

abbrev pub rows_value : Base → List Piece → Result ArrayValue DataCode
rows_value base ps = judged_base base (base_at ps)
