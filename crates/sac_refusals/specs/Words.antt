-- The words behind which a bracket opens, and how many brackets are open with it.
use Rattle.std.specs.Prelude.{ℕ, ◌≡◌, ◌+◌, ◌<◌, Bool, true, false, ◌&&◌, not, List, [], ◌∷◌, ◌++◌, if◌then◌else◌, codes}
use Rattle.std.specs.Str.{bytes_eq}
use Rattle.sac_ast.specs.Texts.{Lexeme}
use Rattle.sac_ast.specs.Shape.{Terminal, text}
use Rattle.sac_ast.specs.Heights.{open_behind, opens}
use Rattle.sac_ast.specs.Grammar.{IsProgram, program}
use Rattle.sac_ast.specs.Tree.{ProgramTree}
use Rattle.sac_ast.specs.Refusals.{StartsWithin, IsTooDeepAt}
use Rattle.sac_grammar.specs.Run.{starts}
use Rattle.sac_grammar.specs.Parsing.{Lost}
use Rattle.sac_grammar.specs.Verdicts.{IsRead, NoHighBefore}

-- the grammar has an opening bracket behind each of them, but for `min` and `max` where a fold names its operator
abbrev pub bracket_words : List Terminal
bracket_words =
    text (codes "dim") ∷ text (codes "shape") ∷ text (codes "reshape") ∷ text (codes "min") ∷ text (codes "max")
    ∷ text (codes "with") ∷ text (codes "genarray") ∷ text (codes "modarray") ∷ text (codes "fold")
    ∷ text (codes "if") ∷ text (codes "while") ∷ text (codes "do") ∷ text (codes "for") ∷ text (codes "return") ∷ []

abbrev pub is_bracket_word : Lexeme → Bool
is_bracket_word t = starts bracket_words (t ∷ [])

-- the tokens end with `fold (`, behind which its operator stands
abbrev pub ends_with_fold : List Lexeme → Bool
ends_with_fold [] = false
ends_with_fold (a ∷ []) = false
ends_with_fold (a ∷ b ∷ []) = bytes_eq (codes "fold") a.text && bytes_eq (codes "(") b.text
ends_with_fold (a ∷ b ∷ c ∷ ts) = ends_with_fold (b ∷ c ∷ ts)

-- behind the token a bracket opens, in each program
abbrev pub opens_next : List Lexeme → Lexeme → Bool
opens_next before t = is_bracket_word t && not (ends_with_fold before)

-- how many open at once behind the token: one or none
abbrev pub next_brackets : List Lexeme → Lexeme → ℕ
next_brackets before t = if opens_next before t then 1 else 0

-- how many brackets are open at the token, or at the next one where that must open one
abbrev pub brackets_at : List Lexeme → Lexeme → ℕ
brackets_at before t = open_behind 0 (before ++ (t ∷ [])) + next_brackets before t

-- the first of the tokens opens a bracket
abbrev pub IsOpened : List Lexeme → Type 0
IsOpened ts = (t : Lexeme) × (rest : List Lexeme) × (ts ≡ t ∷ rest) × (opens t.text ≡ true)

-- in a program a bracket opens behind each such word
abbrev pub WordsOpenBrackets : Type 0
WordsOpenBrackets =
    (before behind : List Lexeme) (t : Lexeme) (p : ProgramTree) → IsProgram (before ++ (t ∷ behind)) p
    → opens_next before t ≡ true → IsOpened behind

-- no program within the limits starts with a token at which there are too many of them
abbrev pub CrowdedTokensStop : Type 0
CrowdedTokensStop = (before : List Lexeme) (t : Lexeme) → 200 < brackets_at before t → StartsWithin (before ++ (t ∷ [])) → ⊥

-- stuck behind the last token that was read, at which there are too many of them: the tokens are nested too deep there
abbrev pub CrowdedTokensAreRefused : Type 0
CrowdedTokensAreRefused =
    (ts u : List Lexeme) (x : Lexeme) → IsRead ts (u ++ (x ∷ [])) → 200 < brackets_at u x
    → Lost program (u ++ (x ∷ [])) [] → NoHighBefore (u ++ (x ∷ [])) [] → IsTooDeepAt ts x.site
