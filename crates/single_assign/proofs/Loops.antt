-- Trees of the code, one after another, and calls among expressions.
use Rattle.std.proofs.Common.{◌≡◌, List, [], ◌∷◌, ◌++◌, map, false, refl, sym, ap, ◌∙◌, Vec, Global}
use Rattle.sac_base.specs.declared.name.Name.{Name}
use Rattle.sac_base.specs.declared.site.Site.{Site}
use Rattle.sac_ast.specs.declared.Bound.{Bound}
use Rattle.sac_ast.specs.declared.Operation.{Operation}
use Rattle.sac_ast.specs.declared.Generator.{Generator}
use Rattle.sac_ast.specs.declared.Statement.{Statement}
use Rattle.sac_ast.specs.declared.Expression.{Expression, Expression-F, out-Expression, roll-Expression, roll-out-Expression}
use Rattle.sac_ast.specs.declared.Expression.TheVariants.{Call, rolls-Call}
use Rattle.sac_ast.specs.View.{expr}
use Rattle.sac_ast.proofs.Views.{expression_opened, expression_layer}
use Rattle.core_ir.specs.declared.tree.CoreGen.{CoreGen, CoreGen', CoreGen-F, out-CoreGen, roll-CoreGen, out-roll-CoreGen, outs-CoreGen'}
use Rattle.core_ir.specs.declared.tree.Right.TheBlock.{the_data, the_data-1, the_data-2, the_data-3, the_data-4, the_data-5, the_data-6}
use Rattle.core_ir.specs.Terms.{GenTerm}
use Rattle.core_ir.specs.View.{block_term, gen_term}
use Rattle.core_lowering.specs.steps.Parts.{is_call}

-- the term of a generator's fields
abbrev pub gen_shown : CoreGen-F the_data the_data-1 the_data-2 the_data-3 the_data-4 the_data-5 the_data-6 → GenTerm
gen_shown x = record {
  head = record { lower = x.lower; lower_closed = x.lower_closed; upper = x.upper; upper_closed = x.upper_closed; step = x.step; width = x.width; index = x.index; names = x.names.items; site = x.site };
  body = block_term x.body;
}

gen_out : (g : CoreGen) → gen_term g ≡ gen_shown (out-CoreGen g)
gen_out (CoreGen' lower lower_closed upper upper_closed step width index names body site) =
    ap gen_shown (sym (outs-CoreGen' lower lower_closed upper upper_closed step width index names body site))

pub gen_roll : (x : CoreGen-F the_data the_data-1 the_data-2 the_data-3 the_data-4 the_data-5 the_data-6) → gen_term (roll-CoreGen x) ≡ gen_shown x
gen_roll x = gen_out (roll-CoreGen x) ∙ ap gen_shown (out-roll-CoreGen x)

pub terms_next : (gs : List CoreGen) (g : CoreGen) → map gen_term (gs ++ g ∷ []) ≡ map gen_term gs ++ gen_term g ∷ []
terms_next [] g = refl
terms_next (h ∷ gs) g = ap (λ l. gen_term h ∷ l) (terms_next gs g)

pub not_call : (e : Expression) → ((name : Name) (es : Vec Expression Global) (site : Site) → e ≡ Call name es site → ⊥) → is_call (expr e) ≡ false
not_call e h = by_layer (out-Expression e) refl
  where
    by_layer : (l : Expression-F Bound Expression Operation Statement Generator) → out-Expression e ≡ l → is_call (expr e) ≡ false
    by_layer (Expression-F.Call name es site) s = absurd (h name es site (sym (roll-out-Expression e) ∙ ap roll-Expression s ∙ rolls-Call name es site))
    by_layer l s = ap is_call (expression_opened e ∙ ap expression_layer s)
