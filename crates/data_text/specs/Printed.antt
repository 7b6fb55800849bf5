-- What arrays are printed as.
use Rattle.std.specs.Prelude.{◌≡◌, ℕ, List, [], ◌∷◌, ◌++◌, length, codes, unsigned_abs, ℤ, pos, ◌+ℤ◌, fold, count_by, Result, Ok, Err}
use Rattle.std.specs.List.{flat_map}
use Rattle.std.specs.Fmt.{decimal, signed_decimal}
use Rattle.sac_base.specs.declared.base.Base.{Base}
use Rattle.sac_base.specs.declared.base.Base.TheVariants.{Int, Bool as Truth}
use Rattle.sac_base.specs.Arrays.{ArrayValue, is_true}
use Rattle.data_text.specs.Numbers.{base_text, truth_text}

-- a number in decimal behind a comma
abbrev pub further : ℕ → List ℕ
further n = codes "," ++ decimal n

abbrev pub further_extent : ℤ → List ℕ
further_extent z = further (unsigned_abs z)

-- numbers in decimal with commas between them
abbrev pub commas : List ℕ → List ℕ
commas [] = []
commas (n ∷ ns) = decimal n ++ flat_map further ns

-- the base, and the extents in brackets
abbrev pub form_text : Base → List ℕ → List ℕ
form_text base ns = base_text base ++ (codes "[" ++ (commas ns ++ codes "]"))

abbrev pub element_text : Base → ℤ → List ℕ
element_text Int z = signed_decimal z
element_text Truth z = truth_text (is_true z)

-- an element behind a space
abbrev pub spaced : Base → ℤ → List ℕ
spaced base z = codes " " ++ element_text base z

-- the line of an array
abbrev pub line_text : Base → List ℕ → List ℤ → List ℕ
line_text base ns zs = form_text base ns ++ (codes ":" ++ (flat_map (spaced base) zs ++ codes "\n"))

abbrev pub array_line : ArrayValue → List ℕ
array_line a = line_text a.base a.shape a.cells

-- the sum of the elements as whole numbers, or the number of true ones
abbrev pub total : Base → List ℤ → ℤ
total Int zs = fold ◌+ℤ◌ (pos 0) zs
total Truth zs = pos (count_by is_true zs)

-- the line of a summary
abbrev pub summary_text : Base → List ℕ → List ℤ → List ℕ
summary_text base ns zs = form_text base ns ++ (codes ": elements " ++
    (decimal (length zs) ++ (codes " sum " ++ (signed_decimal (total base zs) ++ codes "\n"))))

abbrev pub summary_line : ArrayValue → List ℕ
summary_line a = summary_text a.base a.shape a.cells

-- a front of a text was appended
pub record Part (old new text : List ℕ) : Type 0 where
  pub front : List ℕ
  pub rest : List ℕ
  pub text_is : text ≡ front ++ rest
  pub new_is : new ≡ old ++ front

-- a text was appended, or as much of its front as memory was found for
abbrev pub Appends : {E : Type 0} → List ℕ → List ℕ → Result (Unit {0}) E → List ℕ → Type 0
Appends old new (Ok _) text = new ≡ old ++ text
Appends old new (Err _) text = Part old new text
