-- What the parser knows of the tokens of a program where it stops.
use Rattle.std.specs.Prelude.{ℕ, ◌≡◌, ◌+◌, ◌<◌, ◌≤◌, List, [], ◌∷◌, ◌++◌, length}
use Rattle.sac_ast.specs.Texts.{Lexeme}
use Rattle.sac_ast.specs.Shape.{MatchesEach}
use Rattle.sac_ast.specs.Tree.{FunctionTree, ProgramTree}
use Rattle.sac_ast.specs.Grammar.{Nonterminal, Tree, program, function, IsPhrase}
use Rattle.sac_ast.specs.Heights.{function_height, open_behind}
use Rattle.sac_ast.specs.Refusals.{Starts, IsStuckAt, IsTooDeepAt}
use Rattle.sac_grammar.specs.Limits.{High}
use Rattle.sac_grammar.specs.Parsing.{Found, Lost, TooTall}

-- the tokens that are read: all of them, or as far as the first one at which too many brackets are open
pub record IsRead (ts read : List Lexeme) : Type 0 where
  pub later : List Lexeme
  pub whole : ts ≡ read ++ later
  pub brackets : (v w : List Lexeme) (y : Lexeme) → ts ≡ v ++ (y ∷ w) → 200 < open_behind 0 (v ++ (y ∷ [])) → length read ≤ length v + 1

-- no function that is too high ends among the tokens before the rest
abbrev pub NoHighBefore : List Lexeme → List Lexeme → Type 0
NoHighBefore read rest =
    (v : List Lexeme) (gs : List FunctionTree) (f w : List Lexeme) (g : FunctionTree) → read ≡ v ++ (f ++ w)
    → MatchesEach (IsPhrase function) v gs → IsPhrase function f g → 100 < function_height g → length w < length rest

-- ---- what is proved of the parser where it stops

-- the tokens before the rest begin a phrase, and none goes on with the next one
abbrev pub IsStuckBefore : Nonterminal → List Lexeme → List Lexeme → Type 0
IsStuckBefore k ts r =
    (u : List Lexeme) × (ts ≡ u ++ r) × ((w : List Lexeme) × (v : Tree k) × IsPhrase k (u ++ w) v)
    × ((x : Lexeme) (xs ys : List Lexeme) (v : Tree k) → r ≡ x ∷ xs → IsPhrase k (u ++ (x ∷ ys)) v → ⊥)

-- the tokens before the rest begin a phrase, and each that goes on with the next one is too high
abbrev pub IsTallBefore : ℕ → Nonterminal → List Lexeme → List Lexeme → Type 0
IsTallBefore d k ts r =
    (u : List Lexeme) × (ts ≡ u ++ r) × ((w : List Lexeme) × (v : Tree k) × IsPhrase k (u ++ w) v)
    × ((x : Lexeme) (xs ys : List Lexeme) (v : Tree k) → r ≡ x ∷ xs → IsPhrase k (u ++ (x ∷ ys)) v → High d k v)

-- stuck at a token: it is the fault
abbrev pub StuckTokensAreRefused : Type 0
StuckTokensAreRefused =
    (ts read : List Lexeme) (x : Lexeme) (r : List Lexeme) → IsRead ts read → Lost program read (x ∷ r)
    → NoHighBefore read (x ∷ r) → IsStuckAt ts x.site

-- stuck behind the last token that was read, with which too many brackets are open: the tokens are nested too deep there
abbrev pub OpenBracketsAreRefused : Type 0
OpenBracketsAreRefused =
    (ts u : List Lexeme) (x : Lexeme) → IsRead ts (u ++ (x ∷ [])) → 200 < open_behind 0 (u ++ (x ∷ []))
    → Lost program (u ++ (x ∷ [])) [] → NoHighBefore (u ++ (x ∷ [])) [] → IsTooDeepAt ts x.site

-- too high with the next token, with which some program goes on: they are nested too deep there
abbrev pub HighPhrasesAreRefused : Type 0
HighPhrasesAreRefused =
    (ts read : List Lexeme) (x : Lexeme) (r : List Lexeme) → IsRead ts read → TooTall 0 program read (x ∷ r)
    → ((u : List Lexeme) → read ≡ u ++ (x ∷ r) → Starts (u ++ (x ∷ []))) → NoHighBefore read (x ∷ r) → IsTooDeepAt ts x.site

-- a token behind a whole program: it is the fault
abbrev pub TokensBehindAreRefused : Type 0
TokensBehindAreRefused =
    (ts read : List Lexeme) (p : ProgramTree) (x : Lexeme) (r : List Lexeme) → IsRead ts read → Found program read p (x ∷ r)
    → NoHighBefore read (x ∷ r) → IsStuckAt ts x.site
