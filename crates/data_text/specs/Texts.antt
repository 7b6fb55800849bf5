-- What a text of data stands for.
use Rattle.std.specs.Prelude.{ℕ, ◌+◌, Bool, not, ◌==◌, if◌then◌else◌, List, [], ◌∷◌, length, Result, Ok, Err}
use Rattle.std.specs.List.{slice_split, list_all}
use Rattle.std.specs.Str.Lines.{strip_carriage_return}
use Rattle.sac_base.specs.declared.base.Base.{Base}
use Rattle.sac_base.specs.Arrays.{ArrayValue}
use Rattle.data_text.specs.declared.error.DataCode.{DataCode}
use Rattle.data_text.specs.declared.error.DataCode.TheVariants.{I2}
use Rattle.data_text.specs.Pieces.{is_blank}
use Rattle.data_text.specs.Lines.{line_value}

-- a line that is not passed over, with its number
pub record Numbered : Type 0 where
  pub number : ℕ
  pub line : List ℕ

unfoldable pub is_passed_over : List ℕ → Bool
is_passed_over line = list_all is_blank line

-- a line that comes after so many others, before the lines behind it
abbrev pub with_line : ℕ → List ℕ → List Numbered → List Numbered
with_line before line others = if is_passed_over line then others else (record { number = before + 1; line = line }) ∷ others

-- the lines that are not passed over, of lines that come after so many others
abbrev pub data_lines_of : ℕ → List (List ℕ) → List Numbered
data_lines_of before [] = []
data_lines_of before (part ∷ parts) = with_line before (strip_carriage_return part) (data_lines_of (before + 1) parts)

-- the same of a text: a line ends with a line feed or with the text
abbrev pub data_lines : ℕ → List ℕ → List Numbered
data_lines before text = data_lines_of before (slice_split (λ b. b == 10) text)

-- a refusal, and the line that it names
pub record Refusal : Type 0 where
  pub code : DataCode
  pub number : ℕ

-- an array before others, or the first refusal
abbrev pub before_others : ℕ → Result ArrayValue DataCode → Result (List ArrayValue) Refusal → Result (List ArrayValue) Refusal
before_others number (Err code) others = Err (record { code = code; number = number })
before_others number (Ok a) (Err refusal) = Err refusal
before_others number (Ok a) (Ok as') = Ok (a ∷ as')

-- the arrays of lines for parameters of these bases, as many as there are lines
abbrev pub arrays_of : List Numbered → List Base → Result (List ArrayValue) Refusal
arrays_of [] bases = Ok []
arrays_of (l ∷ ls) [] = Ok []
arrays_of (l ∷ ls) (base ∷ bases) = before_others l.number (line_value base l.line) (arrays_of ls bases)

-- the arrays that a text gives for parameters of these bases, or the first refusal in their order
abbrev pub text_value : List ℕ → List Base → Result (List ArrayValue) Refusal
text_value text bases = if not (length (data_lines 0 text) == length bases) then Err (record { code = I2; number = 0 }) else arrays_of (data_lines 0 text) bases
