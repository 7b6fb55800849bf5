-- A core whose bodies are changed one by one stays well formed and keeps its outcome.
use Rattle.std.proofs.Common.{◌≡◌, ℕ, zero, suc, ◌<◌, ◌^◌, List, [], ◌∷◌, ◌++◌, map, length, get_or, Option, Some, None, refl, sym, ap, subst, ◌∙◌, All}
use Rattle.std.specs.Prelude.{AllPairs, Contains, slice_get, unwrap_or}
use Rattle.std.proofs.lemmas.List.{length-map}
use Rattle.std.proofs.lemmas.List.Elements.{All-map, All-weaker}
use Rattle.sac_base.specs.declared.base.Base.{Base}
use Rattle.sac_base.specs.Arrays.{ArrayValue}
use Rattle.sac_base.specs.Outcomes.{and_then}
use Rattle.core_ir.specs.Binders.{bound_in}
use Rattle.core_ir.specs.Meaning.{CallMeaning, no_variables, bind_all, run}
use Rattle.core_ir.specs.Outcome.{body_of, call_by, group_at, param_vars, results_in, run_inline, SameHeads}
use Rattle.core_ir.specs.Scopes.{Scoped}
use Rattle.core_ir.specs.Terms.{BlockTerm, FunTerm, CoreTerm}
use Rattle.core_ir.specs.WellFormed.{BlockBases, CallsBackward, Distinct, GroupBases, IsFunction, IsWellFormed, MayShareName, PlacesShare, bases, calls_in, param_bases}
use Rattle.core_facts.specs.Facts.{AreSound, CallsFit}
use Rattle.core_facts.specs.Full.{FullInside}
use Rattle.core_facts.specs.calls.Arrays.{SameBodiesOnArrays, SameOutcomeOnArrays}
use Rattle.core_facts.proofs.calls.OnArrays.{outcomes_on_arrays}
use Rattle.core_facts.specs.bases.Typed.{CallsTyped, Typed}
use Rattle.core_facts.proofs.bases.Backward.{below}
use Rattle.core_facts.proofs.bases.Bound.{distinct_left}
use Rattle.core_facts.proofs.bases.Called.{calls_typed}
use Rattle.core_facts.proofs.bases.Moved.{moved}
use Rattle.core_loops.proofs.fold_steps.Whole.{function_at, params_typed}
use Rattle.core_loops.proofs.values.Whole.{keeps_arrays}
use Rattle.core_facts.specs.constants.Called.{called, common_shapes, params_facts, result_shapes, shapes_at}
use Rattle.core_facts.proofs.constants.Whole.{calls_fit, params_sound}
use Rattle.core_forms.specs.cleaning.Bodies.{with_bodies}

-- ---- what a new body must keep

-- the body may stand in the place of the function's
pub record KeepsForm (core : CoreTerm) (f : FunTerm) (body : BlockTerm) : Type 0 where
  pub once : Distinct (param_vars f ++ bound_in body)
  pub scoped : Scoped (param_vars f) body
  pub agreeing : BlockBases core (param_bases f) body (bases f.results)
  pub calls : calls_in body ≡ calls_in f.body

-- it means the same, on arrays of the parameters' types
abbrev pub KeepsMeaning : CoreTerm → FunTerm → BlockTerm → Type 0
KeepsMeaning core f body =
    (turns : ℕ) (C : CallMeaning) (args : List ArrayValue) → CallsTyped core C → CallsFit (called core) C → FullInside C turns f.body
    → Typed (param_bases f) (bind_all no_variables (param_vars f) args) → AreSound (params_facts f) (bind_all no_variables (param_vars f) args)
    → run C turns body (bind_all no_variables (param_vars f) args) ≡ run C turns f.body (bind_all no_variables (param_vars f) args)

module _ (core : CoreTerm) (change : FunTerm → BlockTerm) where
  abbrev changed : FunTerm → FunTerm
  changed f = record f { body = change f }

  abbrev next : CoreTerm
  next = with_bodies change core

  -- ---- functions at places

  abbrev change_option : Option FunTerm → Option FunTerm
  change_option None = None
  change_option (Some f) = Some (changed f)

  mapped : (fs : List FunTerm) (place : ℕ) → slice_get (map changed fs) place ≡ change_option (slice_get fs place)
  mapped [] place = refl
  mapped (x ∷ fs) zero = refl
  mapped (x ∷ fs) (suc place) = mapped fs place

  at_place : (place : ℕ) (f : FunTerm) → slice_get core.functions place ≡ Some f → slice_get next.functions place ≡ Some (changed f)
  at_place place f e = mapped core.functions place ∙ ap change_option e

  no_function : (f : FunTerm) → ◌≡◌ {A = Option FunTerm} None (Some f) → ⊥
  no_function f p = cc

  -- each function of the new core is one of the old one, changed
  before : (place : ℕ) (h : FunTerm) → slice_get next.functions place ≡ Some h → (f : FunTerm) × (slice_get core.functions place ≡ Some f) × (changed f ≡ h)
  before place h e = go (slice_get core.functions place) refl (sym (mapped core.functions place) ∙ e)
    where
      go : (o : Option FunTerm) → slice_get core.functions place ≡ o → change_option o ≡ Some h → (f : FunTerm) × (slice_get core.functions place ≡ Some f) × (changed f ≡ h)
      go None q m = absurd (no_function h m)
      go (Some f) q m = (f, q, ap (λ o. unwrap_or o h) m)

  same_length : length next.functions ≡ length core.functions
  same_length = length-map core.functions changed

  groups_kept : (group : ℕ) (us ts : List Base) → GroupBases core group us ts → GroupBases next group us ts
  groups_kept group us ts h =
      let q = h.1.1.1 in
      (h.0, (h.1.0, (changed h.1.1.0, (q.0, q.1, at_place h.1.0 h.1.1.0 q.2, q.3, q.4))))

  -- ---- what is known of calls

  same_results : (o : Option FunTerm) → result_shapes (change_option o) ≡ result_shapes o
  same_results None = refl
  same_results (Some f) = refl

  results_at : (place : ℕ) → result_shapes (slice_get next.functions place) ≡ result_shapes (slice_get core.functions place)
  results_at place = ap result_shapes (mapped core.functions place) ∙ same_results (slice_get core.functions place)

  same_shapes : (places : List ℕ) → shapes_at next.functions places ≡ shapes_at core.functions places
  same_shapes [] = refl
  same_shapes (p ∷ []) = results_at p
  same_shapes (p ∷ q ∷ ps) = λ i. common_shapes (results_at p i) (same_shapes (q ∷ ps) i)

  pub same_called : called next ≡ called core
  same_called = λ i group. same_shapes (group_at core group) i

  -- ---- well formed

  name_kept : (f g : FunTerm) → MayShareName f g → MayShareName (changed f) (changed g)
  name_kept f g h = record { params = h.params; results = h.results; inlines = h.inlines; types = h.types; bases = h.bases }

  share_kept : (i j : ℕ) → PlacesShare core.functions i j → PlacesShare next.functions i j
  share_kept i j h f g ef eg =
      let a = before i f ef in
      let b = before j g eg in
      subst (λ x. MayShareName x g) a.2 (subst (MayShareName (changed a.0)) b.2 (name_kept a.0 b.0 (h a.0 b.0 a.1 b.1)))

  pairs_kept : (places : List ℕ) → AllPairs (PlacesShare core.functions) places → AllPairs (PlacesShare next.functions) places
  pairs_kept places h i j d l m = share_kept (get_or places i d) (get_or places j d) (h i j d l m)

  module _ (well : IsWellFormed core) (form : (f : FunTerm) → IsFunction core f → KeepsForm core f (change f)) where
    function_kept : (f : FunTerm) → IsFunction core f → IsFunction next (changed f)
    function_kept f is =
        let k = form f is in
        record { once = k.once; scoped = k.scoped; agreeing = moved core next groups_kept (change f) (param_bases f) (bases f.results) k.agreeing }

    same_calls : (place : ℕ) (f : FunTerm) → slice_get core.functions place ≡ Some f → calls_in (change f) ≡ calls_in f.body
    same_calls place f e = (form f (function_at core core.functions place f well.functions e)).calls

    backward_kept : CallsBackward next
    backward_kept i f ef is group at places eg j h stands eh other =
        let a = before i f ef in
        let b = before j h eh in
        let calls = subst (λ gs. Contains gs group) (ap (λ (x : FunTerm). calls_in x.body) (sym a.2) ∙ same_calls i a.0 a.1) at in
        well.backward i a.0 a.1 (ap (λ (x : FunTerm). x.is_inline) a.2 ∙ is) group calls places eg j b.0 stands b.1 (ap (λ (x : FunTerm). x.is_inline) b.2 ∙ other)

    calls_there : (f : FunTerm) → IsFunction core f → All (λ group. group < length core.groups) (calls_in f.body) → All (λ group. group < length core.groups) (calls_in (change f))
    calls_there f is h = subst (λ gs. All (λ group. group < length core.groups) gs) (sym (form f is).calls) h

    pub well_formed : IsWellFormed next
    well_formed = record {
      few = subst (λ n. n < 2 ^ 32) (sym same_length) well.few;
      functions =
          All-map (IsFunction next) changed core.functions
          (All-weaker (IsFunction core) (λ f. IsFunction next (changed f)) (λ f is. function_kept f is) core.functions well.functions);
      main = (changed well.main.0, (at_place core.main well.main.0 well.main.1.0, well.main.1.1));
      groups = subst (λ n. All (λ (places : List ℕ). All (λ place. place < n) places) core.groups) (sym same_length) well.groups;
      called =
          All-map (λ (f : FunTerm). All (λ group. group < length core.groups) (calls_in f.body)) changed core.functions
          (λ k d inside. calls_there (get_or core.functions k d) (well.functions k d inside) (well.called k d inside));
      names =
          All-weaker (λ (places : List ℕ). AllPairs (PlacesShare core.functions) places) (λ (places : List ℕ). AllPairs (PlacesShare next.functions) places)
          (λ places is. pairs_kept places is) core.groups well.names;
      backward = backward_kept;
    }

    -- ---- the outcome

    same_heads : (fs : List FunTerm) → SameHeads fs (map changed fs)
    same_heads [] = tt
    same_heads (f ∷ fs) = (record { site = refl; types = refl; inlines = refl }, same_heads fs)

    module _ (same : (f : FunTerm) → IsFunction core f → KeepsMeaning core f (change f)) where
      same_bodies : SameBodiesOnArrays core next
      same_bodies turns outer nest place f args site e nested keep d fits =
          let C = call_by core outer (run_inline core turns outer nest) in
          let is = function_at core core.functions place f well.functions e in
          let env = bind_all no_variables (param_vars f) args in
          let full = keeps_arrays core well C turns place f (λ g xs vs s k q. (keep g xs vs s q).0 k) e in
          let body : run C turns (change f) env ≡ run C turns f.body env =
          same f is turns C args (calls_typed core C well keep) (calls_fit core C keep) full
          (params_typed f args (distinct_left (param_vars f) (bound_in f.body) is.once) fits) (params_sound f args d fits) in
          (λ i. body_of turns C (e i) args site) ∙ (λ i. and_then (sym body i) (results_in f.results f.ends)) ∙ sym (λ i. body_of turns C (at_place place f e i) args site)

      pub same_outcome : SameOutcomeOnArrays core next
      same_outcome =
          outcomes_on_arrays core next (record { groups = refl; main = refl; heads = same_heads core.functions }) (below core well) (below next well_formed)
          (keeps_arrays core well) (keeps_arrays next well_formed) same_bodies
