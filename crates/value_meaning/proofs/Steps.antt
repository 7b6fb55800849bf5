-- One step of a list of expressions, of a block and of a loop.
use Rattle.std.proofs.Common.{◌≡◌, ℕ, ◌+◌, ◌<◌, List, [], ◌∷◌, ◌++◌, length, get_or, drop, Bool, true, false, refl, sym, ap, ◌∙◌, subst, append_assoc, Result, Ok, Err, Vec, Global, Option}
use Rattle.sac_base.specs.declared.site.Site.{Site}
use Rattle.sac_base.specs.Arrays.{ArrayValue}
use Rattle.sac_ast.specs.declared.Expression.{Expression, Expression-F, out-Expression, roll-Expression, roll-out-Expression}
use Rattle.sac_ast.specs.declared.Bound.{Bound}
use Rattle.sac_ast.specs.declared.Operation.{Operation}
use Rattle.sac_ast.specs.declared.Generator.{Generator}
use Rattle.sac_ast.specs.declared.Expression.TheVariants.{Call, rolls-Call}
use Rattle.sac_base.specs.declared.name.Name.{Name}
use Rattle.sac_ast.specs.declared.Statement.{Statement}
use Rattle.sac_ast.specs.declared.Target.{Target}
use Rattle.sac_ast.proofs.Views.{expression_opened, expression_layer}
use Rattle.sac_ast.proofs.Lists.{exprs-drop}
use Rattle.sac_ast.specs.Tree
use Rattle.sac_ast.specs.View.{expr, exprs, index_view}
use Rattle.sac_ast.specs.View
use Rattle.value_meaning.specs.declared.evaluate.Context.{Context}
use Rattle.sac_base.specs.declared.stop.Stop.{Stop}
use Rattle.sac_base.specs.Outcomes.{Ends, Env, and_then, with_variables}
use Rattle.array_ops.specs.Tells.{TellsStop, Tells, TellsItems, TellsEnv, TellsAs}
use Rattle.array_ops.proofs.Steps.{same_stop, fault_then}
use Rattle.sac_base.specs.WithLoops.{Bounds}
use Rattle.source_meaning.specs.Meaning.{name_count, names}
use Rattle.value_meaning.specs.Evaluation.{meaning_in, meanings_in, statement_in}
use Rattle.value_meaning.specs.WithSource.{bound_in, maybe_in}

-- ---- expressions from left to right

values_next : (m : Ends ArrayValue) (rest : Ends (List ArrayValue)) (vs : List ArrayValue) (v : ArrayValue) → m ≡ Ok v → and_then (and_then m (λ a. and_then rest (λ values. Ok (a ∷ values)))) (λ r. Ok (vs ++ r)) ≡ and_then rest (λ r. Ok ((vs ++ v ∷ []) ++ r))
values_next m (Ok r) vs v e = rw e (ap Ok (sym (append_assoc vs (v ∷ []) r)))
values_next m (Err f) vs v e = rw e refl

pub values_step : (context : Context) (env : Env) (es : List Expression) (i : ℕ) (d : Expression) (vs : List ArrayValue) (v : ArrayValue) (all : Ends (List ArrayValue)) → i < length es → meaning_in context (expr (get_or es i d)) env ≡ Ok v → and_then (meanings_in context (exprs (drop i es)) env) (λ rest. Ok (vs ++ rest)) ≡ all → and_then (meanings_in context (exprs (drop (i + 1) es)) env) (λ rest. Ok ((vs ++ v ∷ []) ++ rest)) ≡ all
values_step context env es i d vs v all h e inv =
    sym (values_next (meaning_in context (expr (get_or es i d)) env) (meanings_in context (exprs (drop (i + 1) es)) env) vs v e)
    ∙ ap (λ t. and_then (meanings_in context t env) (λ rest. Ok (vs ++ rest))) (sym (exprs-drop es i d h))
    ∙ inv

-- ---- an assignment whose right side is no call

abbrev pub is_call : Tree.Expr → Bool
is_call (Tree.call name es site) = true
is_call _ = false

pub assign_plain : (context : Context) (targets : List Target) (e : Tree.Expr) (env : Env) → is_call e ≡ false → statement_in context (Tree.assign targets e) env ≡ and_then (meaning_in context e env) (λ a. Ok (with_variables (names targets) (a ∷ []) env))
assign_plain context targets (Tree.number n site) env h = refl
assign_plain context targets (Tree.truth b site) env h = refl
assign_plain context targets (Tree.variable x site) env h = refl
assign_plain context targets (Tree.literal es site) env h = refl
assign_plain context targets (Tree.unary op e site) env h = refl
assign_plain context targets (Tree.binary op e f site) env h = refl
assign_plain context targets (Tree.choice c e f site) env h = refl
assign_plain context targets (Tree.select e f site) env h = refl
assign_plain context targets (Tree.call x es site) env h = cc
assign_plain context targets (Tree.builtin b es site) env h = refl
assign_plain context targets (Tree.with_loop gs op site) env h = refl

-- a value that is no call has no call for its tree
pub not_call : (e : Expression) → ((name : Name) (es : Vec Expression Global) (site : Site) → e ≡ Call name es site → ⊥) → is_call (expr e) ≡ false
not_call e h = by_layer (out-Expression e) refl
  where
    by_layer : (l : Expression-F Bound Expression Operation Statement Generator) → out-Expression e ≡ l → is_call (expr e) ≡ false
    by_layer (Expression-F.Call name es site) s = absurd (h name es site (sym (roll-out-Expression e) ∙ ap roll-Expression s ∙ rolls-Call name es site))
    by_layer l s = ap is_call (expression_opened e ∙ ap expression_layer s)

-- ---- a stop that is passed on: where the meaning goes on from one that is a fault, it is that fault

pub stopped : {A B : Type 0} (r : Result B Stop) (stop : Stop) (m : Ends A) (next : A → Ends B) (meant : Ends B) → r ≡ Err stop → meant ≡ and_then m next → TellsStop stop m → Tells r meant
stopped r stop m next meant is whole h = subst (λ r. Tells r meant) (sym is) (same_stop stop m meant (λ f e. whole ∙ fault_then m next f e) h)

pub stopped_items : {A B : Type 0} (r : Result (Vec B Global) Stop) (stop : Stop) (m : Ends A) (next : A → Ends (List B)) (meant : Ends (List B)) → r ≡ Err stop → meant ≡ and_then m next → TellsStop stop m → TellsItems r meant
stopped_items r stop m next meant is whole h = subst (λ r. TellsItems r meant) (sym is) (same_stop stop m meant (λ f e. whole ∙ fault_then m next f e) h)

pub stopped_env : {A B E : Type 0} (r : Result B Stop) (stop : Stop) (env : E) (m : Ends A) (next : A → Ends E) (meant : Ends E) → r ≡ Err stop → meant ≡ and_then m next → TellsStop stop m → TellsEnv r env meant
stopped_env r stop env m next meant is whole h = subst (λ r. TellsEnv r env meant) (sym is) (same_stop stop m meant (λ f e. whole ∙ fault_then m next f e) h)

pub stopped_as : {A B D : Type 0} (view : D → B) (r : Result D Stop) (stop : Stop) (m : Ends A) (next : A → Ends B) (meant : Ends B) → r ≡ Err stop → meant ≡ and_then m next → TellsStop stop m → TellsAs view r meant
stopped_as view r stop m next meant is whole h = subst (λ r. TellsAs view r meant) (sym is) (same_stop stop m meant (λ f e. whole ∙ fault_then m next f e) h)

-- ---- the bounds of a generator, from each of its parts on

abbrev pub as_bounds : Generator → Option ArrayValue → Option ArrayValue → Option ArrayValue → Option ArrayValue → Ends Bounds
as_bounds g l u s w = Ok (record {
  lower = l;
  lower_closed = g.lower_closed;
  names = name_count (index_view g.index);
  upper = u;
  upper_closed = g.upper_closed;
  step = s;
  width = w;
  site = g.site;
})

abbrev pub from_step : Context → Env → Generator → Option ArrayValue → Option ArrayValue → Option ArrayValue → Ends Bounds
from_step context env g l u s = and_then (maybe_in context (View.maybe g.width) env) (as_bounds g l u s)

abbrev pub from_upper : Context → Env → Generator → Option ArrayValue → Option ArrayValue → Ends Bounds
from_upper context env g l u = and_then (maybe_in context (View.maybe g.step) env) (from_step context env g l u)

abbrev pub from_lower : Context → Env → Generator → Option ArrayValue → Ends Bounds
from_lower context env g l = and_then (bound_in context (View.bound g.upper) env) (from_upper context env g l)
