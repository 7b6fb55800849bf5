-- What a refusal of a token list means.
use Rattle.std.specs.Prelude.{ℕ, ◌≡◌, ◌+◌, ◌<◌, ◌≤◌, List, [], ◌∷◌, ◌++◌, length}
use Rattle.sac_base.specs.declared.site.Site.{Site}
use Rattle.sac_ast.specs.Texts.{Lexeme}
use Rattle.sac_ast.specs.Shape.{MatchesEach}
use Rattle.sac_ast.specs.Tree.{FunctionTree, ProgramTree}
use Rattle.sac_ast.specs.Grammar.{function, IsPhrase, IsProgram}
use Rattle.sac_ast.specs.Heights.{function_height, open_behind, IsTreeOf}

-- some program, the limits on nesting aside, starts with the tokens
abbrev pub Starts : List Lexeme → Type 0
Starts u = (w : List Lexeme) × (p : ProgramTree) × IsProgram (u ++ w) p

-- some program within the limits starts with the tokens
abbrev pub StartsWithin : List Lexeme → Type 0
StartsWithin u = (w : List Lexeme) × (p : ProgramTree) × IsTreeOf (u ++ w) p

-- a place of so many tokens is not after the first token at which too many brackets are open, nor after the end of the first function that is too high
pub record IsInReach (ts : List Lexeme) (place : ℕ) : Type 0 where
  pub brackets : (v w : List Lexeme) (y : Lexeme) → ts ≡ v ++ (y ∷ w) → 200 < open_behind 0 (v ++ (y ∷ [])) → place ≤ length v
  pub functions : (v : List Lexeme) (gs : List FunctionTree) (f w : List Lexeme) (g : FunctionTree) → ts ≡ v ++ (f ++ w)
      → MatchesEach (IsPhrase function) v gs → IsPhrase function f g → 100 < function_height g → place < length v + length f

-- no program starts with the tokens up to the one at the site, and the tokens before it start some
pub record IsStuckAt (ts : List Lexeme) (site : Site) : Type 0 where
  pub before : List Lexeme
  pub token : Lexeme
  pub behind : List Lexeme
  pub whole : ts ≡ before ++ (token ∷ behind)
  pub at : site ≡ token.site
  pub begun : Starts before
  pub none : Starts (before ++ (token ∷ [])) → ⊥
  pub reach : IsInReach ts (length before)

-- programs start with the tokens up to the one at the site, but none within the limits
pub record IsTooDeepAt (ts : List Lexeme) (site : Site) : Type 0 where
  pub before : List Lexeme
  pub token : Lexeme
  pub behind : List Lexeme
  pub whole : ts ≡ before ++ (token ∷ behind)
  pub at : site ≡ token.site
  pub begun : Starts (before ++ (token ∷ []))
  pub none : StartsWithin (before ++ (token ∷ [])) → ⊥
  pub reach : IsInReach ts (length before)
