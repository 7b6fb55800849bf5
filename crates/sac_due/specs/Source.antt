-- The program of a source, and why a source has none.
use Rattle.std.specs.Prelude.{ℕ, ◌≡◌, ◌<◌, ◌≤◌, List, length, map, codes}
use Rattle.sac_base.specs.declared.site.Site.{Site}
use Rattle.sac_lex.specs.declared.token.LexCode.{LexCode}
use Rattle.sac_lex.specs.Cut.{IsTokenList, IsRefusal}
use Rattle.sac_lex.specs.Cut
use Rattle.check_rules.specs.declared.code.CheckCode.{CheckCode}
use Rattle.sac_ast.specs.Texts.{Lexeme}
use Rattle.sac_ast.specs.Tree.{ProgramTree}
use Rattle.sac_ast.specs.Heights.{IsTreeOf}
use Rattle.sac_ast.specs.Refusals.{IsStuckAt, IsTooDeepAt}
use Rattle.check_rules.specs.Accepted.{IsAccepted, IsFirstViolation}
use Rattle.sac_lex.specs.Codes.{lex_code}
use Rattle.check_rules.specs.Codes.{check_code}
use Rattle.sac_due.specs.Texts.{line, refused_at}

-- the longest source, in bytes
abbrev pub SOURCE_LIMIT : ℕ
SOURCE_LIMIT = 1048576

-- a token's text and site; its kind follows from its text
abbrev pub plain : Cut.Lexeme → Lexeme
plain t = record { text = t.text; site = t.site }

abbrev pub IsTokensOf : List ℕ → List Lexeme → Type 0
IsTokensOf source tokens = (cut : List Cut.Lexeme) × IsTokenList source cut × (tokens ≡ map plain cut)

-- the source has this tree
pub record HasTree (source : List ℕ) (p : ProgramTree) : Type 0 where
  pub tokens : List Lexeme
  pub cut : IsTokensOf source tokens
  pub tree : IsTreeOf tokens p

-- the source is an accepted program
pub record IsProgramOf (source : List ℕ) (p : ProgramTree) : Type 0 where
  pub fits : length source ≤ SOURCE_LIMIT
  pub tree : HasTree source p
  pub accepted : IsAccepted p

-- the tokens are nested too deep for a tree, at the site
abbrev pub IsTooDeep : List ℕ → Site → Type 0
IsTooDeep source site = (tokens : List Lexeme) × IsTokensOf source tokens × IsTooDeepAt tokens site

-- the line with which a source is refused
pub data IsRefusedSource (source : List ℕ) : List ℕ → Type 0 where
  too_long : SOURCE_LIMIT < length source → IsRefusedSource source (line (codes "refused source size"))
  no_tokens : (code : LexCode) (site : Site) → length source ≤ SOURCE_LIMIT → IsRefusal source code site
      → IsRefusedSource source (refused_at (lex_code code) site)
  stuck : (tokens : List Lexeme) (site : Site) → length source ≤ SOURCE_LIMIT → IsTokensOf source tokens → IsStuckAt tokens site
      → IsRefusedSource source (refused_at (codes "P1") site)
  too_deep : (site : Site) → length source ≤ SOURCE_LIMIT → IsTooDeep source site → IsRefusedSource source (refused_at (codes "P2") site)
  not_accepted : (p : ProgramTree) (code : CheckCode) (site : Site) → length source ≤ SOURCE_LIMIT → HasTree source p → IsFirstViolation p code site
      → IsRefusedSource source (refused_at (check_code code) site)
