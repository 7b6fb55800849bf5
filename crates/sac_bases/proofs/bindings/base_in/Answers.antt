use Rattle.std.proofs.Common.{◌≡◌, ap, ◌∙◌, subst}
use Rattle.std.specs.Prelude.{IfOk}
use Rattle.sac_ast.specs.Bases.{base, known_in, call_bases_in}
use Rattle.sac_ast.specs.View.{expr, function, functions}
use Rattle.sac_bases.proofs.bindings.base_in.Goals as goal

pub returns : goal.returns
returns c =
    let fs = functions c.args.functions.now in
    let e = expr c.args.e.now in
    let known = c.in_ok-known.ensures ∙ ap (λ all. known_in (functions all) (function c.args.f.now)) c.in_ok-by_name.ensures in
    let whole =
    ap (λ all. base (call_bases_in (functions all)) c.in_ok-known.known.all.items e) c.in_ok-by_name.ensures
    ∙ ap (λ bindings. base (call_bases_in fs) bindings e) known in
    subst (λ m. IfOk c.base_of.result (λ b. b ≡ m)) whole c.base_of.ensures
