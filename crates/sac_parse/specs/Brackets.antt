-- The tokens that are read, as far as the limit on open brackets allows it.
use Rattle.std.specs.Prelude.{ℕ, ◌≡◌, ◌<◌, ◌≤◌, ◌+◌, List, [], ◌∷◌, ◌++◌, take, length, ◌⊎◌}
use Rattle.sac_lex.specs.declared.token.Token.{Token}
use Rattle.sac_ast.specs.Texts.{Lexeme}
use Rattle.sac_ast.specs.Heights.{IsShallow}
use Rattle.sac_refusals.specs.Words.{brackets_at}
use Rattle.sac_phrases.specs.Contract.{lexemes_of}

-- with the token at this place, more brackets are open or must open than the limit allows
abbrev pub IsCrowdedAt : List Token → ℕ → Type 0
IsCrowdedAt ts i =
    (t : Lexeme) × (lexemes_of (take (i + 1) ts) ≡ lexemes_of (take i ts) ++ (t ∷ [])) × (200 < brackets_at (lexemes_of (take i ts)) t)

-- with none of the tokens are there more than the limit allows
abbrev pub HasRoom : List Lexeme → Type 0
HasRoom ts = (u w : List Lexeme) (x : Lexeme) → ts ≡ u ++ (x ∷ w) → brackets_at u x ≤ 200

-- the first such token is the one at this place
abbrev pub IsFirstCrowded : List Token → ℕ → Type 0
IsFirstCrowded ts i = (i < length ts) × IsShallow (lexemes_of (take i ts)) × HasRoom (lexemes_of (take i ts)) × IsCrowdedAt ts i

-- there is no such token
abbrev pub IsUncrowded : List Lexeme → Type 0
IsUncrowded ts = IsShallow ts × HasRoom ts

-- there is no such token, or the first one is at this place
abbrev pub IsWithinBrackets : List Token → List Token → Type 0
IsWithinBrackets ts read =
    ((read ≡ ts) × IsUncrowded (lexemes_of ts)) ⊎ ((i : ℕ) × (read ≡ take (i + 1) ts) × IsFirstCrowded ts i)
