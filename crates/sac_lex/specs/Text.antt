-- What the text of a token is.
use Rattle.std.specs.Prelude.{ℕ, ◌≡◌, ◌≤◌, Bool, List, [], ◌∷◌, length, if◌then◌else◌, codes, IsTrue, IsFalse}
use Rattle.std.specs.List.{AllByRecursion-prop, list_any}
use Rattle.std.specs.Str.{bytes_eq}
use Rattle.std.specs.Str.Parse.{digits_value}
use Rattle.std.specs.Coded.{Coded-set, coded_list, coded_ℕ, ×_prop, le_prop}
use mathlib.Core.Bool.{Bool-set}
use Rattle.sac_lex.specs.declared.token.TokenKind.{TokenKind}
use Rattle.sac_lex.specs.declared.token.TokenKind.TheVariants.{Name, Number, Word, Sign, End}
use Rattle.sac_lex.specs.Spelling.{is_letter, is_digit, is_word_byte, is_sign, IsRun}

abbrev pub reserved : List (List ℕ)
reserved =
    codes "int" ∷ codes "bool" ∷ codes "true" ∷ codes "false" ∷ codes "inline" ∷ codes "return"
    ∷ codes "if" ∷ codes "else" ∷ codes "while" ∷ codes "do" ∷ codes "for"
    ∷ codes "with" ∷ codes "genarray" ∷ codes "modarray" ∷ codes "fold"
    ∷ codes "step" ∷ codes "width"
    ∷ codes "dim" ∷ codes "shape" ∷ codes "reshape"
    ∷ codes "min" ∷ codes "max" ∷ []

abbrev pub is_reserved : List ℕ → Bool
is_reserved text = list_any (λ word. bytes_eq word text) reserved

-- what a name is whose text is this: a reserved word is no name
abbrev pub name_kind : List ℕ → TokenKind
name_kind text = if is_reserved text then Word else Name

-- the texts of each kind of token, within the limits
abbrev pub IsTextOf : TokenKind → List ℕ → Type 0
IsTextOf Name text = IsRun is_letter is_word_byte text × (IsFalse (is_reserved text) × (length text ≤ 64))
IsTextOf Number text = IsRun is_digit is_digit text × (digits_value 10 text ≤ 2147483647)
IsTextOf Word text = IsTrue (is_reserved text)
IsTextOf Sign text = IsTrue (is_sign text)
IsTextOf End text = text ≡ []

pub IsRun-prop : (first next : ℕ → Bool) (text : List ℕ) → IsProp (IsRun first next text)
IsRun-prop first next [] = λ a b. absurd a
IsRun-prop first next (c ∷ cs) = ×_prop (Bool-set _ _) (AllByRecursion-prop (λ d. IsTrue (next d)) (λ d. Bool-set _ _) cs)

pub IsTextOf-prop : (kind : TokenKind) (text : List ℕ) → IsProp (IsTextOf kind text)
IsTextOf-prop Name text = ×_prop (IsRun-prop is_letter is_word_byte text) (×_prop (Bool-set _ _) le_prop)
IsTextOf-prop Number text = ×_prop (IsRun-prop is_digit is_digit text) le_prop
IsTextOf-prop Word text = Bool-set _ _
IsTextOf-prop Sign text = Bool-set _ _
IsTextOf-prop End text = Coded-set (coded_list coded_ℕ) _ _
