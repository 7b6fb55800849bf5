-- The canonical text of a source's tree has tokens with an equal tree, aside from sites.
use Rattle.std.specs.Prelude.{◌≡◌, ℕ, List, map}
use Rattle.sac_ast.specs.Tree.{ProgramTree}
use Rattle.sac_ast.specs.Grammar.{IsProgram}
use Rattle.sac_ast.specs.Heights.{IsTreeOf}
use Rattle.sac_lex.specs.Cut.{Lexeme, IsTokenList}
use Rattle.sac_print.specs.Canonical.{canonical}
use Rattle.core_source_laws.specs.printing.Bare.{bare_program}
use Rattle.core_source_laws.specs.printing.Tokens.{plain, HasTokens}

-- of each source whose tokens have a tree in the grammar
abbrev pub ReadAgain : Type 0
ReadAgain =
    (source : List ℕ) (tokens : List Lexeme) (p : ProgramTree) → IsTokenList source tokens → IsProgram (map plain tokens) p
    → (again : List Lexeme) × (q : ProgramTree) × HasTokens (canonical p) again × IsProgram (map plain again) q
    × (bare_program q ≡ bare_program p)

-- of each source whose tokens have a tree within the limits on nesting: the canonical text keeps them
abbrev pub NestedAgain : Type 0
NestedAgain =
    (source : List ℕ) (tokens : List Lexeme) (p : ProgramTree) → IsTokenList source tokens → IsTreeOf (map plain tokens) p
    → (again : List Lexeme) × (q : ProgramTree) × HasTokens (canonical p) again × IsTreeOf (map plain again) q
    × (bare_program q ≡ bare_program p)
