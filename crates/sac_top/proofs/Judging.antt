-- Refusals of a source.
use Rattle.std.proofs.Common.{◌≡◌, ◌≤◌, ℕ, List, [], ◌∷◌, map, length, Option, Some, None, Result, Ok, Err, IfOk, refl, sym, ap, subst, ◌∙◌}
use Rattle.std.specs.Prelude.{find}
use Rattle.sac_base.specs.declared.site.Site.{Site}
use Rattle.sac_lex.specs.declared.token.LexCode.{LexCode}
use Rattle.sac_lex.specs.declared.token.LexError.{LexError}
use Rattle.sac_lex.specs.declared.token.LexError.TheVariants as lex_error
use Rattle.sac_lex.specs.Cut
use Rattle.sac_lex.specs.Cut.{IsTokenList}
use Rattle.sac_base.specs.declared.types.ArrayType.{ArrayType}
use Rattle.sac_ast.specs.declared.Param.{Param}
use Rattle.sac_ast.specs.declared.Program.{Program}
use Rattle.sac_ast.specs.Mains.{is_main}
use Rattle.sac_ast.specs.Tree.{FunctionTree, ProgramTree}
use Rattle.sac_ast.specs.View as View
use Rattle.sac_ast.specs.Heights.{IsTreeOf}
use Rattle.check_rules.specs.declared.code.CheckCode.{CheckCode}
use Rattle.sac_parse.specs.declared.error.ParseCode.{ParseCode}
use Rattle.sac_parse.specs.declared.error.ParseCode.TheVariants.{P1, P2}
use Rattle.sac_parse.specs.declared.error.ParseError.{ParseError}
use Rattle.sac_parse.specs.declared.error.ParseError.TheVariants as parse_error
use Rattle.sac_parse.specs.Tokens.{lexemes}
use Rattle.sac_parse.specs.Verdict.{IsRefusalOf}
use Rattle.check_rules.specs.Accepted.{IsAccepted}
use Rattle.check_rules.specs.Programs.{params_of, main_bases as checked_bases}
use Rattle.type_check.specs.declared.checked.Checked.{Checked}
use Rattle.type_check.specs.declared.program.CheckError.{CheckError}
use Rattle.type_check.specs.declared.program.CheckError.TheVariants as check_error
use Rattle.type_check.specs.Refusals.{IsRefusal as IsRefused}
use Rattle.sac_lex.specs.Codes.{lex_code}
use Rattle.check_rules.specs.Codes.{check_code}
use Rattle.sac_due.specs.Texts.{refused_at}
use Rattle.sac_due.specs.Input.{types_of, main_bases}
use Rattle.sac_due.specs.Source.{HasTree, IsRefusedSource, no_tokens, stuck, too_deep, not_accepted}
use Rattle.sac_parse.specs.Codes.{parse_code}
use Rattle.sac_top.specs.Steps.{RefusedWith, IsJudged}
use Rattle.sac_top.specs.declared.source.Judged.{Judged}
use Rattle.sac_top.specs.declared.source.Judged.TheVariants.{Accepted, Refused}

refused_as : {E : Type 0} (r : Result Judged E) (source text : List ℕ) → IsRefusedSource source text → IfOk r (RefusedWith text) → IfOk r (IsJudged source)
refused_as (Err e) source text is h = tt
refused_as (Ok (Accepted checked)) source text is h = absurd h
refused_as (Ok (Refused line)) source text is h = subst (IsRefusedSource source) (sym h) is

pub refused_by : {E : Type 0} (r : Result Judged E) (source code written : List ℕ) (site : Site) → written ≡ code → IsRefusedSource source (refused_at code site)
    → IfOk r (RefusedWith (refused_at written site)) → IfOk r (IsJudged source)
refused_by r source code written site e is h =
    refused_as r source (refused_at written site) (subst (λ t. IsRefusedSource source (refused_at t site)) (sym e) is) h

pub lex_refused : (source : List ℕ) (e : LexError) (code : LexCode) (site : Site) → length source ≤ 1048576 → e ≡ lex_error.Refused code site
    → Cut.IsRefusedSource source e → IsRefusedSource source (refused_at (lex_code code) site)
lex_refused source e code site fits is h = no_tokens code site fits (subst (Cut.IsRefusedSource source) is h)

parse_refused_at : (source : List ℕ) (ts : List Cut.Lexeme) (code : ParseCode) (site : Site) → length source ≤ 1048576 → IsTokenList source ts
    → IsRefusalOf (lexemes ts) (parse_error.Refused code site) → IsRefusedSource source (refused_at (parse_code code) site)
parse_refused_at source ts P1 site fits cut h = stuck (lexemes ts) site fits (ts, cut, refl) h
parse_refused_at source ts P2 site fits cut h = too_deep site fits (lexemes ts, (ts, cut, refl), h)

pub parse_refused : (source : List ℕ) (ts : List Cut.Lexeme) (e : ParseError) (code : ParseCode) (site : Site) → length source ≤ 1048576 → IsTokenList source ts
    → e ≡ parse_error.Refused code site → IsRefusalOf (lexemes ts) e → IsRefusedSource source (refused_at (parse_code code) site)
parse_refused source ts e code site fits cut is h = parse_refused_at source ts code site fits cut (subst (IsRefusalOf (lexemes ts)) is h)

pub has_tree : (source : List ℕ) (ts : List Cut.Lexeme) (p : ProgramTree) → IsTokenList source ts → IsTreeOf (lexemes ts) p → HasTree source p
has_tree source ts p cut tree = record { tokens = lexemes ts; cut = (ts, cut, refl); tree = tree }

pub check_refused : (source : List ℕ) (p : ProgramTree) (e : CheckError) (code : CheckCode) (site : Site) → length source ≤ 1048576 → HasTree source p
    → e ≡ check_error.Refused code site → IsRefused p e → IsRefusedSource source (refused_at (check_code code) site)
check_refused source p e code site fits tree is h = not_accepted p code site fits tree (subst (IsRefused p) is h)

-- ---- an accepted program

bases_same : (ps : List Param) → map (λ (ty : ArrayType). ty.base) (map (λ (p : Param). p.ty) ps) ≡ map (λ (p : Param). p.ty.base) ps
bases_same [] = refl
bases_same (p ∷ ps) = ap (λ bs. p.ty.base ∷ bs) (bases_same ps)

bases_of_main : (found : Option FunctionTree) → params_of found ≡ map (λ (ty : ArrayType). ty.base) (types_of found)
bases_of_main None = refl
bases_of_main (Some f) = sym (bases_same f.params)

-- the bases that the check finds are those of the parameters of the first `main`
main_bases_agree : (p : ProgramTree) → checked_bases p ≡ main_bases p
main_bases_agree p = bases_of_main (find is_main p.functions)

pub accepted : (source : List ℕ) (program : Program) (checked : Checked) → length source ≤ 1048576 → HasTree source (View.program program)
    → IsAccepted (View.program checked.program) → checked.program ≡ program → checked.main_bases.items ≡ checked_bases (View.program program)
    → IsJudged source (Accepted checked)
accepted source program checked fits tree accepts same bases =
    let parsed = ap View.program same in (
      record { fits = fits; tree = subst (HasTree source) (sym parsed) tree; accepted = accepts },
      bases ∙ main_bases_agree (View.program program) ∙ ap main_bases (sym parsed),
    )
