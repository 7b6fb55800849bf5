-- Tokens, and what a token is by its text.
use Rattle.std.specs.Prelude.{ℕ, Bool, true, false, ◌&&◌, ◌||◌, ◌==◌, not, List, [], ◌∷◌, codes}
use Rattle.std.specs.List.{list_any}
use Rattle.std.specs.Str.{bytes_eq}
use Rattle.std.specs.Char.{is_ascii_alphabetic, is_ascii_digit}
use Rattle.sac_base.specs.declared.site.Site.{Site}

-- a token: its text, and where it stands
pub record Lexeme : Type 0 where
  pub text : List ℕ
  pub site : Site

abbrev pub reserved : List (List ℕ)
reserved = codes "int" ∷ codes "bool" ∷ codes "true" ∷ codes "false" ∷ codes "inline" ∷ codes "return" ∷ codes "if" ∷ codes "else"
    ∷ codes "while" ∷ codes "do" ∷ codes "for" ∷ codes "with" ∷ codes "genarray" ∷ codes "modarray" ∷ codes "fold" ∷ codes "step"
    ∷ codes "width" ∷ codes "dim" ∷ codes "shape" ∷ codes "reshape" ∷ codes "min" ∷ codes "max" ∷ []

abbrev pub is_reserved : List ℕ → Bool
is_reserved text = list_any (λ word. bytes_eq word text) reserved

-- a name begins with a letter or `_`, and is not reserved
abbrev pub is_name : List ℕ → Bool
is_name [] = false
is_name (c ∷ cs) = (is_ascii_alphabetic c || c == 95) && not (is_reserved (c ∷ cs))

-- a number begins with a digit
abbrev pub is_number : List ℕ → Bool
is_number [] = false
is_number (c ∷ cs) = is_ascii_digit c

-- the end token alone has no text
abbrev pub is_end : List ℕ → Bool
is_end [] = true
is_end (c ∷ cs) = false
