-- A fold step of a whole core keeps its outcome on arrays.
use Rattle.std.proofs.Common.{◌≡◌, ℕ, zero, suc, Bool, true, false, ◌&&◌, List, [], ◌∷◌, ◌++◌, map, length, Option, Some, None, Ok, refl, sym, ap, subst, ◌∙◌, ◌⊎◌, inl, inr, All}
use Rattle.std.specs.Prelude.{slice_get, unwrap_or}
use Rattle.std.proofs.lemmas.List.Elements.{All-head, All-tail}
use Rattle.sac_base.specs.declared.base.Base.{Base}
use Rattle.sac_base.specs.declared.base.Base.TheVariants.{Int, Bool as Truth}
use Rattle.sac_base.specs.declared.site.Site.{Site}
use Rattle.sac_base.specs.declared.types.ArrayType.{ArrayType}
use Rattle.sac_base.specs.Arrays.{ArrayValue, same_base}
use Rattle.sac_base.specs.Outcomes.{and_then}
use Rattle.sac_base.specs.Types.{has, has_shape, all_have}
use Rattle.core_ir.specs.declared.tree.Var.{Var}
use Rattle.core_ir.specs.Binders.{bound_in}
use Rattle.core_ir.specs.Scopes.{Scoped}
use Rattle.core_ir.specs.Terms.{BlockTerm, FunTerm, CoreTerm}
use Rattle.core_ir.specs.Meaning.{Env, CallMeaning, no_variables, bind_all, run}
use Rattle.core_ir.specs.Outcome.{RunMeaning, param_types, param_vars, results_in, body_of, call_by, run_inline, SameHeads, SameOutside}
use Rattle.core_ir.specs.WellFormed.{Bases, base_of, Distinct, param_bases, bases, BlockBases, IsFunction, IsWellFormed}
use Rattle.core_facts.specs.Facts.{AreSound, CallsFit}
use Rattle.core_facts.specs.Full.{FullInside}
use Rattle.core_facts.specs.calls.Arrays.{AllFull, KeepsArrays, SameBodiesOnArrays, SameOutcomeOnArrays}
use Rattle.core_facts.specs.calls.Nests.{CallsBelow}
use Rattle.core_facts.proofs.calls.OnArrays.{outcomes_on_arrays}
use Rattle.core_facts.specs.constants.Called.{called, params_facts}
use Rattle.core_facts.proofs.constants.Whole.{calls_fit, params_sound}
use Rattle.core_loops.proofs.values.Whole.{keeps_arrays}
use Rattle.core_facts.specs.bases.Typed.{Typed, CallsTyped}
use Rattle.core_facts.proofs.bases.Bound.{vars, BoundBases, bound, distinct_left, distinct_right}
use Rattle.core_facts.proofs.bases.Backward.{below}
use Rattle.core_facts.proofs.bases.Called.{calls_typed}
use Rattle.core_loops.specs.Steps.{FoldsHere}
use Rattle.core_facts.specs.calls.Replaced.{replaced_at}
use Rattle.core_facts.proofs.calls.Replaced.{heads_kept, at_place}
use Rattle.core_loops.specs.fold_steps.Step.{FoldStep}
use Rattle.core_loops.proofs.fold_steps.Places.{changed}
use Rattle.core_loops.proofs.fold_steps.Step.{fold_here}

and_both : (b c : Bool) → (b && c) ≡ true → (b ≡ true) × (c ≡ true)
and_both true c h = (refl, h)
and_both false c h = absurd (cc)

same_bases : (t u : Base) → same_base t u ≡ true → u ≡ t
same_bases Int Int h = refl
same_bases Truth Truth h = refl
same_bases Int Truth h = absurd (cc)
same_bases Truth Int h = absurd (cc)

-- ---- parameters

abbrev pairs : List (Var × ArrayType) → Bases
pairs ps = map (λ (p : Var × ArrayType). (p.0, p.1.base)) ps

pair_vars : (ps : List (Var × ArrayType)) → vars (pairs ps) ≡ map (λ (p : Var × ArrayType). p.0) ps
pair_vars [] = refl
pair_vars (p ∷ ps) = λ i. p.0 ∷ pair_vars ps i

pair_bases : (ps : List (Var × ArrayType)) (args : List ArrayValue) → all_have (map (λ (p : Var × ArrayType). p.1) ps) args ≡ true → BoundBases (pairs ps) args
pair_bases [] args h = tt
pair_bases (p ∷ ps) [] h = absurd (cc)
pair_bases (p ∷ ps) (v ∷ vs) h =
    let w = and_both (has p.1 v) (all_have (map (λ (p : Var × ArrayType). p.1) ps) vs) h in
    (same_bases p.1.base v.base (and_both (same_base p.1.base v.base) (has_shape p.1.part v.shape) w.0).0, pair_bases ps vs w.1)

no_more : (ps : Bases) (y : Var) → base_of (ps ++ []) y ≡ base_of ps y
no_more [] y = refl
no_more (p ∷ ps) y = λ i. Rattle.std.specs.Prelude.cond (Rattle.std.specs.Prelude.eqb p.0.0 y.0) (Some p.1) (no_more ps y i)

nothing : Typed [] no_variables
nothing x t p = absurd (let q : ◌≡◌ {A = Option Base} None (Some t) = p in cc)

-- where a function begins
pub params_typed : (f : FunTerm) (args : List ArrayValue) → Distinct (param_vars f) → all_have (param_types f) args ≡ true → Typed (param_bases f) (bind_all no_variables (param_vars f) args)
params_typed f args d h =
    subst (λ xs. Typed (pairs f.params) (bind_all no_variables xs args)) (pair_vars f.params)
    (λ y t p. bound (pairs f.params) [] no_variables args nothing (subst Distinct (sym (pair_vars f.params)) d) (pair_bases f.params args h) y t (no_more (pairs f.params) y ∙ p))

-- ---- functions

pub function_at : (core : CoreTerm) (fs : List FunTerm) (place : ℕ) (f : FunTerm) → All (IsFunction core) fs → slice_get fs place ≡ Some f → IsFunction core f
function_at core [] place f h e = absurd (let q : ◌≡◌ {A = Option FunTerm} None (Some f) = e in cc)
function_at core (x ∷ fs) zero f h e = subst (IsFunction core) (ap (λ o. unwrap_or o x) e) (All-head (IsFunction core) x fs h)
function_at core (x ∷ fs) (suc place) f h e = function_at core fs place f (All-tail (IsFunction core) x fs h) e

-- ---- one body changed

module _ (a : CoreTerm) (place : ℕ) (f : FunTerm) (body : BlockTerm) (found : slice_get a.functions place ≡ Some f) (well : IsWellFormed a)
    (same : (turns : ℕ) (C : CallMeaning) (args : List ArrayValue) → CallsTyped a C → CallsFit (called a) C → FullInside C turns f.body → Distinct (param_vars f ++ bound_in f.body) → Scoped (param_vars f) f.body → BlockBases a (param_bases f) f.body (bases f.results)
    → Typed (param_bases f) (bind_all no_variables (param_vars f) args) → AreSound (params_facts f) (bind_all no_variables (param_vars f) args) → run C turns f.body (bind_all no_variables (param_vars f) args) ≡ run C turns body (bind_all no_variables (param_vars f) args)) where
  abbrev stepped : CoreTerm
  stepped = record a { functions = replaced_at a.functions place (record f { body = body }) }

  same_bodies : SameBodiesOnArrays a stepped
  same_bodies turns outer nest at g args site e nested keep d fits =
      let C = call_by a outer (run_inline a turns outer nest) in
      let is = function_at a a.functions place f well.functions found in
      elim (at_place a.functions place at f (record f { body = body }) found) [
        | inl y ↦ λ i. body_of turns C (y i) args site
        | inr y ↦
            let own : g ≡ f = ap (λ o. unwrap_or o g) (sym e ∙ y.0) in
            let takes : all_have (param_types f) args ≡ true = (λ i. all_have (param_types (sym own i)) args) ∙ fits in
            let env = bind_all no_variables (param_vars f) args in
            let full = keeps_arrays a well C turns place f (λ h xs vs s k q. (keep h xs vs s q).0 k) found in
            let is_same : run C turns f.body env ≡ run C turns body env =
            same turns C args (calls_typed a C well keep) (calls_fit a C keep) full is.once is.scoped is.agreeing
            (params_typed f args (distinct_left (param_vars f) (bound_in f.body) is.once) takes) (params_sound f args d takes) in
            (λ i. body_of turns C (y.0 i) args site) ∙ (λ i. and_then (is_same i) (results_in f.results f.ends)) ∙ sym (λ i. body_of turns C (y.1 i) args site)
      ]

  -- where its body means the same, a core with one function changed keeps its outcome on arrays
  pub body_outcome : (b : CoreTerm) → b ≡ record a { functions = replaced_at a.functions place (record f { body = body }) } → IsWellFormed b → SameOutcomeOnArrays a b
  body_outcome b to other =
      subst (SameOutcomeOnArrays a) (sym to)
      (outcomes_on_arrays a stepped (record { groups = refl; main = refl; heads = heads_kept a.functions place f body found }) (below a well) (subst CallsBelow to (below b other)) (keeps_arrays a well) (subst KeepsArrays to (keeps_arrays b other)) same_bodies)

-- ---- the step

pub fold_outcome : (above : FunTerm → ℕ) (a b : CoreTerm) → FoldStep above a b → IsWellFormed a → IsWellFormed b → SameOutcomeOnArrays a b
fold_outcome above a b step well other =
    let f = step.function in
    body_outcome a step.place f step.body step.found well
    (λ turns C args typed fit full once scoped agreeing env sound.
    changed a C turns typed (called a) fit (FoldsHere (called a) (above f)) (λ k b c r scope gs ts e' q. fold_here a C turns typed (called a) fit (above f) k b c r scope gs ts e' q) step.edited (param_vars f) (param_bases f) (bases f.results) (bind_all no_variables (param_vars f) args)
    (record { bases = agreeing; once = distinct_right (param_vars f) (bound_in f.body) once; scoped = scoped; full = full; typed = env; sound = sound }))
    b step.changed other
