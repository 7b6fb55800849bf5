-- The whole core: well formed, with the same outcome, and without another literal variable.
use Rattle.std.proofs.Common.{◌≡◌, ℕ, ◌<◌, ◌^◌, List, [], ◌∷◌, ◌++◌, map, length, get_or, Option, Some, None, refl, sym, ap, subst, ◌∙◌, All, append-nil}
use Rattle.std.specs.Prelude.{AllPairs, Contains, slice_get, unwrap_or}
use Rattle.std.proofs.lemmas.List.{length-map}
use Rattle.std.proofs.lemmas.List.Elements.{All-map, All-weaker}
use Rattle.sac_base.specs.declared.base.Base.{Base}
use Rattle.sac_base.specs.declared.types.ArrayType.{ArrayType}
use Rattle.core_ir.specs.declared.tree.Var.{Var}
use Rattle.core_ir.specs.Binders.{bound_in}
use Rattle.core_ir.specs.Outcome.{group_at, param_types, param_vars}
use Rattle.core_ir.specs.Terms.{FunTerm, CoreTerm}
use Rattle.core_ir.specs.WellFormed.{CallsBackward, Distinct, GroupBases, IsFunction, IsWellFormed, MayShareName, PlacesShare, bases, calls_in, param_bases}
use Rattle.core_facts.specs.Facts.{no_facts, note_all, shape_fact}
use Rattle.core_facts.specs.Settled.{IsSettled}
use Rattle.core_facts.proofs.Literals.{no_value}
use Rattle.core_facts.proofs.Settle.{is_settled}
use Rattle.core_facts.specs.calls.Arrays.{SameOutcomeOnArrays}
use Rattle.core_facts.proofs.bases.Backward.{below}
use Rattle.core_facts.proofs.bases.Bound.{distinct_left, distinct_right, vars}
use Rattle.core_loops.proofs.values.Whole.{keeps_arrays}
use Rattle.core_facts.specs.constants.Called.{called, common_shapes, params_facts, result_shapes, settled_core, settled_function, shape_of_type, shapes_at}
use Rattle.core_facts.proofs.constants.Whole.{mapped, settle_option, settled_outcome}
use Rattle.core_loops.proofs.settled_forms.Formed.{AreFormed, Formed, formed_front}
use Rattle.core_loops.proofs.settled_forms.Kept.{bound_kept, calls_kept, scoped_kept}
use Rattle.core_loops.proofs.settled_forms.Typing.{block_kept}

-- ---- where a function begins

param_names : (ps : List (Var × ArrayType)) → vars (map (λ (p : Var × ArrayType). (p.0, p.1.base)) ps) ≡ map (λ (p : Var × ArrayType). p.0) ps
param_names [] = refl
param_names (p ∷ ps) = λ i. p.0 ∷ param_names ps i

types_formed : (types : List ArrayType) (ts : List Base) → AreFormed (map (λ (ty : ArrayType). shape_fact (shape_of_type ty)) types) ts
types_formed [] ts = tt
types_formed (ty ∷ types) [] = tt
types_formed (ty ∷ types) (t ∷ ts) = (λ v p. absurd (no_value v p), types_formed types ts)

params_formed : (f : FunTerm) → Distinct (param_vars f) → Formed (param_bases f) (params_facts f)
params_formed f d =
    let ps = param_bases f in
    let fs = map (λ (ty : ArrayType). shape_fact (shape_of_type ty)) (param_types f) in
    subst (λ g. Formed g (params_facts f)) (append-nil ps)
    (subst (λ xs. Formed (ps ++ []) (note_all no_facts xs fs)) (param_names f.params)
    (formed_front ps [] no_facts fs (λ x v p. absurd (no_value v p)) (subst Distinct (sym (param_names f.params)) d) (types_formed (param_types f) (map (λ (p : Var × Base). p.1) ps))))

module _ (core : CoreTerm) where
  abbrev next : CoreTerm
  next = settled_core core

  -- ---- functions at places

  at_place : (place : ℕ) (f : FunTerm) → slice_get core.functions place ≡ Some f → slice_get next.functions place ≡ Some (settled_function core f)
  at_place place f e = mapped core core.functions place ∙ ap (settle_option core) e

  no_function : (f : FunTerm) → ◌≡◌ {A = Option FunTerm} None (Some f) → ⊥
  no_function f p = cc

  -- each function of the new core is one of the old one, settled
  before : (place : ℕ) (h : FunTerm) → slice_get next.functions place ≡ Some h → (f : FunTerm) × (slice_get core.functions place ≡ Some f) × (settled_function core f ≡ h)
  before place h e = go (slice_get core.functions place) refl (sym (mapped core core.functions place) ∙ e)
    where
      go : (o : Option FunTerm) → slice_get core.functions place ≡ o → settle_option core o ≡ Some h → (f : FunTerm) × (slice_get core.functions place ≡ Some f) × (settled_function core f ≡ h)
      go None q m = absurd (no_function h m)
      go (Some f) q m = (f, q, ap (λ o. unwrap_or o h) m)

  same_length : length next.functions ≡ length core.functions
  same_length = length-map core.functions (settled_function core)

  -- ---- functions

  groups_kept : (group : ℕ) (us ts : List Base) → GroupBases core group us ts → GroupBases next group us ts
  groups_kept group us ts h =
      let q = h.1.1.1 in
      (h.0, (h.1.0, (settled_function core h.1.1.0, (q.0, q.1, at_place h.1.0 h.1.1.0 q.2, q.3, q.4))))

  function_kept : (f : FunTerm) → IsFunction core f → IsFunction next (settled_function core f)
  function_kept f is = record {
    once = subst (λ xs. Distinct (param_vars f ++ xs)) (sym (bound_kept (called core) f.body (params_facts f))) is.once;
    scoped = scoped_kept (called core) f.body (params_facts f) (param_vars f) is.scoped;
    agreeing =
        block_kept (called core) core next groups_kept f.body (param_bases f) (params_facts f) (bases f.results) is.agreeing
        (distinct_right (param_vars f) (bound_in f.body) is.once) (params_formed f (distinct_left (param_vars f) (bound_in f.body) is.once));
  }

  same_calls : (f : FunTerm) → calls_in (settled_function core f).body ≡ calls_in f.body
  same_calls f = calls_kept (called core) f.body (params_facts f)

  -- ---- groups

  name_kept : (f g : FunTerm) → MayShareName f g → MayShareName (settled_function core f) (settled_function core g)
  name_kept f g h = record { params = h.params; results = h.results; inlines = h.inlines; types = h.types; bases = h.bases }

  share_kept : (i j : ℕ) → PlacesShare core.functions i j → PlacesShare next.functions i j
  share_kept i j h f g ef eg =
      let a = before i f ef in
      let b = before j g eg in
      subst (λ x. MayShareName x g) a.2 (subst (MayShareName (settled_function core a.0)) b.2 (name_kept a.0 b.0 (h a.0 b.0 a.1 b.1)))

  pairs_kept : (places : List ℕ) → AllPairs (PlacesShare core.functions) places → AllPairs (PlacesShare next.functions) places
  pairs_kept places h i j d l m = share_kept (get_or places i d) (get_or places j d) (h i j d l m)

  backward_kept : CallsBackward core → CallsBackward next
  backward_kept back i f ef is group at places eg j h stands eh other =
      let a = before i f ef in
      let b = before j h eh in
      let calls = subst (λ gs. Contains gs group) (ap (λ (x : FunTerm). calls_in x.body) (sym a.2) ∙ same_calls a.0) at in
      back i a.0 a.1 (ap (λ (x : FunTerm). x.is_inline) a.2 ∙ is) group calls places eg j b.0 stands b.1 (ap (λ (x : FunTerm). x.is_inline) b.2 ∙ other)

  pub well_formed : IsWellFormed core → IsWellFormed next
  well_formed h = record {
    few = subst (λ n. n < 2 ^ 32) (sym same_length) h.few;
    functions =
        All-map (IsFunction next) (settled_function core) core.functions
        (All-weaker (IsFunction core) (λ f. IsFunction next (settled_function core f)) (λ f is. function_kept f is) core.functions h.functions);
    main = (settled_function core h.main.0, (at_place core.main h.main.0 h.main.1.0, h.main.1.1));
    groups = subst (λ n. All (λ (places : List ℕ). All (λ place. place < n) places) core.groups) (sym same_length) h.groups;
    called =
        All-map (λ (f : FunTerm). All (λ group. group < length core.groups) (calls_in f.body)) (settled_function core) core.functions
        (All-weaker (λ (f : FunTerm). All (λ group. group < length core.groups) (calls_in f.body))
        (λ (f : FunTerm). All (λ group. group < length core.groups) (calls_in (settled_function core f).body))
        (λ f is. subst (λ gs. All (λ group. group < length core.groups) gs) (sym (same_calls f)) is) core.functions h.called);
    names =
        All-weaker (λ (places : List ℕ). AllPairs (PlacesShare core.functions) places) (λ (places : List ℕ). AllPairs (PlacesShare next.functions) places)
        (λ places is. pairs_kept places is) core.groups h.names;
    backward = backward_kept h.backward;
  }

  -- ---- the outcome

  pub same_outcome : IsWellFormed core → SameOutcomeOnArrays core next
  same_outcome h = let n = well_formed h in settled_outcome core (below core h) (below next n) (keeps_arrays core h) (keeps_arrays next n)

  -- ---- what is literal

  same_results : (o : Option FunTerm) → result_shapes (settle_option core o) ≡ result_shapes o
  same_results None = refl
  same_results (Some f) = refl

  results_at : (place : ℕ) → result_shapes (slice_get next.functions place) ≡ result_shapes (slice_get core.functions place)
  results_at place = ap result_shapes (mapped core core.functions place) ∙ same_results (slice_get core.functions place)

  same_shapes : (places : List ℕ) → shapes_at next.functions places ≡ shapes_at core.functions places
  same_shapes [] = refl
  same_shapes (p ∷ []) = results_at p
  same_shapes (p ∷ q ∷ ps) = λ i. common_shapes (results_at p i) (same_shapes (q ∷ ps) i)

  pub same_called : called next ≡ called core
  same_called = λ i group. same_shapes (group_at core group) i

  settled_here : (f : FunTerm) → IsSettled (called next) (settled_function core f).body (params_facts f)
  settled_here f = subst (λ c. IsSettled c (settled_function core f).body (params_facts f)) (sym same_called) (is_settled (called core) f.body (params_facts f))

  pub no_other_literal : All (λ (f : FunTerm). IsSettled (called next) f.body (params_facts f)) next.functions
  no_other_literal =
      All-map (λ (f : FunTerm). IsSettled (called next) f.body (params_facts f)) (settled_function core) core.functions (λ k d inside. settled_here (get_or core.functions k d))
