-- The answer of the parser to a token list.
use Rattle.std.specs.Prelude.{◌≡◌, ◌<◌, ◌≤◌, true, List, [], ◌∷◌, ◌++◌, ◌⊎◌, Result, Ok, Err, ⊤, length}
use Rattle.sac_base.specs.declared.site.Site.{Site}
use Rattle.sac_ast.specs.declared.Program.{Program}
use Rattle.sac_ast.specs.Texts.{Lexeme, is_end}
use Rattle.sac_ast.specs.Grammar.{program}
use Rattle.sac_ast.specs.Heights.{IsTreeOf}
use Rattle.sac_ast.specs.Refusals.{IsStuckAt, IsTooDeepAt}
use Rattle.sac_ast.specs.View as View
use Rattle.sac_grammar.specs.Parsing.{TooTall}
use Rattle.sac_grammar.specs.Verdicts.{IsRead, NoHighBefore}
use Rattle.sac_refusals.specs.Words.{brackets_at}
use Rattle.sac_parse.specs.declared.error.ParseCode.TheVariants.{P1, P2}
use Rattle.sac_parse.specs.declared.error.ParseError.{ParseError}
use Rattle.sac_parse.specs.declared.error.ParseError.TheVariants.{Refused, Memory}

-- what an error says of the tokens
abbrev pub IsRefusalOf : List Lexeme → ParseError → Type 0
IsRefusalOf ts (Refused P1 site) = IsStuckAt ts site
IsRefusalOf ts (Refused P2 site) = IsTooDeepAt ts site
IsRefusalOf ts Memory = ⊤

-- the one tree of the tokens within the limits, or a refusal
abbrev pub IsParsed : List Lexeme → Result Program ParseError → Type 0
IsParsed ts (Ok p) = IsTreeOf ts (View.program p)
IsParsed ts (Err e) = IsRefusalOf ts e

-- the error names one of these tokens
abbrev pub IsNamedIn : List Lexeme → ParseError → Type 0
IsNamedIn ts (Refused code site) = (u : List Lexeme) × (x : Lexeme) × (r : List Lexeme) × (ts ≡ u ++ (x ∷ r)) × (site ≡ x.site)
IsNamedIn ts Memory = ⊤

-- the site is that of a token which is not behind the first one with which more brackets are open or must open than the limit allows
pub record IsBeforeCrowd (ts : List Lexeme) (site : Site) : Type 0 where
  pub before : List Lexeme
  pub token : Lexeme
  pub behind : List Lexeme
  pub whole : ts ≡ before ++ (token ∷ behind)
  pub at : site ≡ token.site
  pub least : (u w : List Lexeme) (x : Lexeme) → ts ≡ u ++ (x ∷ w) → 200 < brackets_at u x → length before ≤ length u

-- a refusal names such a token
abbrev pub IsInRoom : List Lexeme → Result Program ParseError → Type 0
IsInRoom ts (Ok p) = ⊤
IsInRoom ts (Err (Refused code site)) = IsBeforeCrowd ts site
IsInRoom ts (Err Memory) = ⊤

-- the refusal of the tokens that are read where the parser is stuck before the rest
abbrev pub IsRefusalAt : List Lexeme → List Lexeme → ParseError → Type 0
IsRefusalAt read (x ∷ r) e = e ≡ Refused P1 x.site
IsRefusalAt read [] e = (u : List Lexeme) × (x : Lexeme) × (read ≡ u ++ (x ∷ [])) × (e ≡ Refused P2 x.site)

-- the tokens that are read: with the last one too many brackets are open or must open, or it is the end token
pub record IsReadOf (ts read : List Lexeme) : Type 0 where
  pub front : IsRead ts read
  pub last : (u : List Lexeme) (x : Lexeme) → read ≡ u ++ (x ∷ []) → (200 < brackets_at u x) ⊎ (is_end x.text ≡ true)

-- a program of the tokens is too high with the first token of the rest
pub record IsTooHigh (ts read rest : List Lexeme) : Type 0 where
  pub front : IsReadOf ts read
  pub tall : TooTall 0 program read rest
  pub before : NoHighBefore read rest
