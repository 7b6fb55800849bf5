-- The tree of a source's tokens is of the form that laws of accepted programs ask for, and has few functions.
use Rattle.std.proofs.Common.{ℕ, ◌≤◌, List, length, ap, sym, subst, arith}
use Rattle.std.specs.List.{AllByRecursion}
use Rattle.std.proofs.lemmas.List.{length-map}
use Rattle.sac_ast.specs.Texts.{Lexeme}
use Rattle.sac_ast.specs.Tree.{ProgramTree}
use Rattle.sac_ast.specs.Grammar.{IsProgram}
use Rattle.core_lowering.specs.acceptance.Formed.{ProgramFormed}
use Rattle.core_source_laws.proofs.printing.Given.{IsProper}
use Rattle.core_source_laws.proofs.printing.Actions.{every_tree_fits}
use Rattle.core_source_laws.proofs.printing.Sources.{source_proper}
use Rattle.sac_due.specs.Source.{plain, IsTokensOf}
use Rattle.core_source_laws.proofs.Fitting.{program_formed}
use Rattle.core_source_laws.proofs.Lengths.{functions_before_end, few_tokens}

pub formed : (source : List ℕ) (tokens : List Lexeme) (p : ProgramTree) → IsTokensOf source tokens → IsProgram tokens p → ProgramFormed p
formed source tokens p (cut, h, e) d =
    program_formed p (every_tree_fits p tokens (subst (AllByRecursion IsProper) (sym e) (source_proper source cut h)) d)

pub few : (source : List ℕ) (tokens : List Lexeme) (p : ProgramTree) → IsTokensOf source tokens → IsProgram tokens p → length p.functions ≤ 200000
few source tokens p (cut, h, e) d =
    let a = functions_before_end tokens p d in
    let b = few_tokens source cut h in
    let c = ap length e in
    let k = length-map cut plain in
    omega arith
