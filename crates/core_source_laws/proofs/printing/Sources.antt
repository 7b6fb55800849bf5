-- From a source to its tree, and from the tree's canonical text to an equal tree.
use Rattle.std.proofs.Common.{ℕ, ◌≡◌, ◌≤◌, Bool, true, false, not, ◌&&◌, List, [], ◌∷◌, ◌++◌, length, map, refl, sym, ap, ◌∙◌, subst, append-nil, append_assoc, arith, length-append}
use Rattle.std.specs.List.{AllByRecursion}
use Rattle.sac_base.specs.declared.site.Site.{Site}
use Rattle.sac_lex.specs.declared.piece.PieceKind.{PieceKind}
use Rattle.sac_lex.specs.declared.piece.PieceKind.TheVariants.{Blank, Comment, Open, Name, Number, Sign}
use Rattle.sac_lex.specs.declared.token.TokenKind.TheVariants.{End}
use Rattle.sac_lex.specs.Spelling.{IsSpelling, is_letter}
use Rattle.sac_lex.specs.Cut as lex
use Rattle.sac_lex.specs.Cut.{Chunk, bytes_of, IsCut, IsWithinLimits, lexemes, lexemes_of, site_after, start, IsTokenList, IsFront}
use Rattle.sac_lex.proofs.Longest.{only_name, only_number}
use Rattle.sac_ast.specs.Texts.{Lexeme, is_name, is_number, is_reserved}
use Rattle.sac_ast.specs.Tree.{ProgramTree}
use Rattle.sac_ast.specs.Grammar.{IsProgram}
use Rattle.sac_print.specs.Canonical.{program_texts, canonical}
use Rattle.sac_ast.specs.Heights.{IsTreeOf}
use Rattle.core_source_laws.proofs.printing.Nesting.{program_part, shallow_texts}
use Rattle.core_source_laws.proofs.printing.SameHeights.{low_again}
use Rattle.core_source_laws.specs.printing.Bare.{bare_program}
use Rattle.core_source_laws.specs.printing.Tokens.{plain, HasTokens}
use Rattle.core_source_laws.proofs.printing.Fits.{FitsProgram}
use Rattle.core_source_laws.proofs.printing.Given.{IsProper}
use Rattle.core_source_laws.proofs.printing.Actions.{every_tree_fits}
use Rattle.core_source_laws.proofs.printing.Programs.{program_read}
use Rattle.core_source_laws.proofs.printing.Pieces.{chunks_of, bytes, cut, within, texts, plain_texts}
use Rattle.core_source_laws.proofs.printing.WholeTexts.{program_pieces}

and_first : (a b : Bool) → (a && b) ≡ true → a ≡ true
and_first true b h = refl
and_first false b h = h

-- the first byte of a name is a letter
name_begins : (c : ℕ) (cs : List ℕ) → is_name (c ∷ cs) ≡ true → is_letter c ≡ true
name_begins c cs h = and_first (is_letter c) (not (is_reserved (c ∷ cs))) h

-- a piece of another kind is no name and no number
no_name : (k : PieceKind) (t : List ℕ) → IsSpelling k t → is_name t ≡ true → k ≡ Name
no_name k [] h n = cc
no_name k (c ∷ cs) h n = only_name c cs k (name_begins c cs n) h

no_number : (k : PieceKind) (t : List ℕ) → IsSpelling k t → is_number t ≡ true → k ≡ Number
no_number k [] h n = cc
no_number k (c ∷ cs) h n = only_number c cs k n h

proper : (k : PieceKind) (t : List ℕ) (s : Site) → IsSpelling k t → IsWithinLimits k t → IsProper (record { text = t; site = s })
proper Name t s h w = ((λ n. record { is = n; run = h; short = w }), (λ n. absurd (let e = no_number Name t h n in cc)))
proper Number t s h w = ((λ n. absurd (let e = no_name Number t h n in cc)), (λ n. omega arith))
proper Blank t s h w = ((λ n. absurd (let e = no_name Blank t h n in cc)), (λ n. absurd (let e = no_number Blank t h n in cc)))
proper Comment t s h w = ((λ n. absurd (let e = no_name Comment t h n in cc)), (λ n. absurd (let e = no_number Comment t h n in cc)))
proper Open t s h w = ((λ n. absurd (let e = no_name Open t h n in cc)), (λ n. absurd (let e = no_number Open t h n in cc)))
proper Sign t s h w = ((λ n. absurd (let e = no_name Sign t h n in cc)), (λ n. absurd (let e = no_number Sign t h n in cc)))

proper_more : (k : PieceKind) (t : List ℕ) (s : Site) (rest : List lex.Lexeme) → IsSpelling k t → IsWithinLimits k t → AllByRecursion IsProper (map plain rest) → AllByRecursion IsProper (map plain (lexemes_of s k t ++ rest))
proper_more Blank t s rest h w all = all
proper_more Comment t s rest h w all = all
proper_more Open t s rest h w all = all
proper_more Name t s rest h w all = (proper Name t s h w, all)
proper_more Number t s rest h w all = (proper Number t s h w, all)
proper_more Sign t s rest h w all = (proper Sign t s h w, all)

abbrev ended : Site → lex.Lexeme
ended s = record { kind = End; text = []; site = s }

proper_all : (s e : Site) (cs : List Chunk) (rest : List ℕ) → IsCut cs rest → AllByRecursion (λ (c : Chunk). IsWithinLimits c.kind c.text) cs → AllByRecursion IsProper (map plain (lexemes s cs ++ (ended e ∷ [])))
proper_all s e [] rest h w = (((λ n. cc), (λ n. cc)), tt)
proper_all s e (c ∷ cs) rest h w =
    subst (λ l. AllByRecursion IsProper (map plain l)) (sym (append_assoc (lexemes_of s c.kind c.text) (lexemes (site_after s c.text) cs) (ended e ∷ [])))
    (proper_more c.kind c.text s (lexemes (site_after s c.text) cs ++ (ended e ∷ [])) h.0.spelled w.0 (proper_all (site_after s c.text) e cs rest h.1 w.1))

pub source_proper : (source : List ℕ) (tokens : List lex.Lexeme) → IsTokenList source tokens → AllByRecursion IsProper (map plain tokens)
source_proper source tokens h = subst (λ l. AllByRecursion IsProper (map plain l)) (sym h.2) (proper_all start (site_after start source) h.0 [] h.1.cut h.1.within)

-- the tokens of the canonical text
pub canonical_tokens : (p : ProgramTree) → FitsProgram p → (again : List lex.Lexeme) × HasTokens (canonical p) again × (map (λ (t : Lexeme). t.text) (map plain again) ≡ program_texts p ++ ([] ∷ []))
canonical_tokens p h =
    let all = program_pieces p h in
    let chunks = chunks_of (program_texts p) all in
    let last = ended (site_after start (canonical p)) in (
      lexemes start chunks ++ (last ∷ []),
      (chunks, sym (bytes (program_texts p) all), cut (program_texts p) all, within (program_texts p) all, refl),
      plain_texts (lexemes start chunks ++ (last ∷ [])) ∙ texts start (program_texts p) all last,
    )

pub read_again : (source : List ℕ) (tokens : List lex.Lexeme) (p : ProgramTree) → IsTokenList source tokens → IsProgram (map plain tokens) p → (again : List lex.Lexeme) × (q : ProgramTree) × HasTokens (canonical p) again × IsProgram (map plain again) q × (bare_program q ≡ bare_program p)
read_again source tokens p h d =
    let fits = every_tree_fits p (map plain tokens) (source_proper source tokens h) d in
    let c = canonical_tokens p fits in
    let r = program_read p fits (map plain c.0) c.2 in
    (c.0, r.0, c.1, r.1, r.2)

-- the limits on nesting are kept
pub nested_again : (source : List ℕ) (tokens : List lex.Lexeme) (p : ProgramTree) → IsTokenList source tokens → IsTreeOf (map plain tokens) p → (again : List lex.Lexeme) × (q : ProgramTree) × HasTokens (canonical p) again × IsTreeOf (map plain again) q × (bare_program q ≡ bare_program p)
nested_again source tokens p h (d, few, low) =
    let fits = every_tree_fits p (map plain tokens) (source_proper source tokens h) d in
    let c = canonical_tokens p fits in
    let r = program_read p fits (map plain c.0) c.2 in
    (c.0, r.0, c.1, (r.1, shallow_texts (map plain c.0) (program_texts p ++ ([] ∷ [])) 101 c.2 (program_part p fits low) (omega arith), low_again p r.0 r.2 low), r.2)

-- few tokens are the token list
pub few_tokens : (source : List ℕ) (tokens : List lex.Lexeme) → HasTokens source tokens → length tokens ≤ 200001 → IsTokenList source tokens
few_tokens source tokens h few =
    let n = ap length h.4 ∙ length-append (lexemes start h.0) (ended (site_after start source) ∷ []) in
    (h.0, record { whole = h.1 ∙ sym (append-nil (bytes_of h.0)); cut = h.2; within = h.3; few = omega arith }, h.4)
