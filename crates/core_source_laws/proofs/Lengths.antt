-- A program has fewer functions than tokens, and a source few tokens.
use Rattle.std.proofs.Common.{ℕ, zero, suc, ◌≤◌, ◌<◌, List, [], ◌∷◌, length, ap, arith, length-append}
use Rattle.sac_lex.specs.Cut as lex
use Rattle.sac_lex.specs.Cut.{IsTokenList, lexemes, start, site_after}
use Rattle.sac_lex.specs.declared.token.TokenKind.TheVariants.{End}
use Rattle.sac_ast.specs.Texts.{Lexeme}
use Rattle.sac_ast.specs.Tree.{FunctionTree, ProgramTree}
use Rattle.sac_ast.specs.Shape.{MatchesEach, DerivesIn}
use Rattle.sac_ast.specs.Grammar.{Tree, rule, action, program, function, IsProgram}

abbrev Within : ℕ → List Lexeme → FunctionTree → Type 0
Within n = DerivesIn Tree rule action n function

-- a function has a token: its name
function_long : (n : ℕ) (ts : List Lexeme) (f : FunctionTree) → Within n ts f → 0 < length ts
function_long zero ts f d = absurd d
function_long (suc n) ts f (v, e, (inline, behind, cut, i, (results, rest, again, r, (name, later, whole, is, more)))) =
    let a = ap length cut in
    let b = length-append inline behind in
    let c = ap length again in
    let d = length-append results rest in
    let g = ap length whole in
    let h = length-append name later in
    let k = ap length is.0 in
    omega arith

functions_short : (n : ℕ) (ts : List Lexeme) (fs : List FunctionTree) → MatchesEach (Within n) ts fs → length fs ≤ length ts
functions_short n ts [] m = omega arith
functions_short n ts (f ∷ fs) (u, w, e, one, rest) =
    let a = ap length e in
    let b = length-append u w in
    let c = function_long n u f one in
    let d = functions_short n w fs rest in
    omega arith

program_in : (n : ℕ) (ts : List Lexeme) (p : ProgramTree) → DerivesIn Tree rule action n program ts p → length p.functions < length ts
program_in zero ts p d = absurd d
program_in (suc n) ts p ((fs, behind), e, (u, w, cut, each, last)) =
    let a = ap length cut in
    let b = length-append u w in
    let c = functions_short n u fs each in
    let d = ap length last.0 in
    let g = ap (λ (q : ProgramTree). length q.functions) e in
    omega arith

-- the end token stands behind the last function
pub functions_before_end : (ts : List Lexeme) (p : ProgramTree) → IsProgram ts p → length p.functions < length ts
functions_before_end ts p d = program_in d.0 ts p d.1

pub few_tokens : (source : List ℕ) (cut : List lex.Lexeme) → IsTokenList source cut → length cut ≤ 200001
few_tokens source cut h =
    let a = h.1.few in
    let b = ap length h.2 in
    let c = length-append (lexemes start h.0) (record { kind = End; text = []; site = site_after start source } ∷ []) in
    omega arith
