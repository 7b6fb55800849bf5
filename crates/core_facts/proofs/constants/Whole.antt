-- The core whose literal variables are bound by constants has the same outcome.
use Rattle.std.proofs.Common.{◌≡◌, ℕ, zero, suc, Bool, true, false, ◌&&◌, List, [], ◌∷◌, map, Option, Some, None, refl, sym, ap, subst, ◌∙◌, inl, inr}
use Rattle.std.specs.Prelude.{slice_get}
use Rattle.std.proofs.lemmas.Slice.Eq.{bytes_eq-Decides}
use Rattle.sac_base.specs.declared.types.ArrayType.{ArrayType}
use Rattle.sac_base.specs.declared.types.Part.{Part as TypePart}
use Rattle.sac_base.specs.declared.types.Part.TheVariants as part
use Rattle.sac_base.specs.Arrays.{ArrayValue, same_base}
use Rattle.sac_base.specs.Outcomes.{and_then}
use Rattle.sac_base.specs.Types.{has, has_shape, all_have}
use Rattle.core_ir.specs.Terms.{FunTerm, CoreTerm}
use Rattle.core_ir.specs.Meaning.{CallMeaning, no_variables, bind_all, run}
use Rattle.core_ir.specs.Outcome.{param_types, param_vars, results_in, body_of, group_at, call_by, run_inline, SameHeads}
use Rattle.core_facts.specs.Facts.{no_facts, shape_fact, ShapeIs, type_shape, one_shape, common_facts, DescribeAll, AreSound, CallsFit}
use Rattle.core_facts.proofs.Sound.{noted, just_full, common_left, common_right}
use Rattle.core_facts.proofs.Settle.{same}
use Rattle.core_facts.specs.calls.Nests.{StandsIn, CallsBelow}
use Rattle.core_facts.specs.calls.Arrays.{AllFull, CallsKeep, KeepsArrays, SameBodiesOnArrays, SameOutcomeOnArrays}
use Rattle.core_facts.proofs.calls.OnArrays.{outcomes_on_arrays}
use Rattle.core_facts.specs.constants.Called.{shape_of_type, common_shapes, result_shapes, shapes_at, called, params_facts, settled_function, settled_core}

and_both : (b c : Bool) → (b && c) ≡ true → (b ≡ true) × (c ≡ true)
and_both true c h = (refl, h)
and_both false c h = absurd (cc)

type_says : (p : TypePart) (a : ArrayValue) → has_shape p a.shape ≡ true → ShapeIs (type_shape p None) a
type_says (part.Known s) a h = sym ((bytes_eq-Decides s a.shape).0 h)
type_says (part.Rank n) a h = tt
type_says part.Plus a h = tt
type_says part.Star a h = tt

-- arrays of types are as the types say
types_say : (types : List ArrayType) (vs : List ArrayValue) → all_have types vs ≡ true → AllFull vs → DescribeAll (map (λ (ty : ArrayType). shape_fact (shape_of_type ty)) types) vs
types_say [] [] h d = tt
types_say [] (v ∷ vs) h d = absurd (cc)
types_say (ty ∷ types) [] h d = absurd (cc)
types_say (ty ∷ types) (v ∷ vs) h d =
    let w = and_both (has ty v) (all_have types vs) h in
    (record { shape = type_says ty.part v (and_both (same_base ty.base v.base) (has_shape ty.part v.shape) w.0).1; literal = tt; full = d.0 }, types_say types vs w.1 d.1)

same_facts : (ss ts : List (Option (List ℕ))) → common_facts (map shape_fact ss) (map shape_fact ts) ≡ map shape_fact (common_shapes ss ts)
same_facts [] ts = refl
same_facts (s ∷ ss) [] = refl
same_facts (s ∷ ss) (t ∷ ts) = ap (λ fs. shape_fact (one_shape s t) ∷ fs) (same_facts ss ts)

same_types : (types : List ArrayType) → map (λ (ty : ArrayType). shape_fact (shape_of_type ty)) types ≡ map shape_fact (map shape_of_type types)
same_types [] = refl
same_types (ty ∷ types) = ap (λ fs. shape_fact (shape_of_type ty) ∷ fs) (same_types types)

-- results that an instance declares are as all declare
results_say : (fs : List FunTerm) (places : List ℕ) (place : ℕ) (f : FunTerm) (vs : List ArrayValue) → StandsIn places place → slice_get fs place ≡ Some f → all_have f.results vs ≡ true → AllFull vs → DescribeAll (map shape_fact (shapes_at fs places)) vs
results_say fs [] place f vs s e h d = absurd s
results_say fs (p ∷ []) place f vs s e h d = elim s [
  | inl q ↦ subst (λ o. DescribeAll (map shape_fact (result_shapes o)) vs) (sym e ∙ ap (slice_get fs) (sym q)) (subst (λ gs. DescribeAll gs vs) (same_types f.results) (types_say f.results vs h d))
  | inr n ↦ absurd n
]
results_say fs (p ∷ r ∷ ps) place f vs s e h d =
    let ss = result_shapes (slice_get fs p) in
    let ts = shapes_at fs (r ∷ ps) in
    subst (λ gs. DescribeAll gs vs) (same_facts ss ts) (elim s [
      | inl q ↦
          common_left (map shape_fact ss) (map shape_fact ts) vs
          (subst (λ o. DescribeAll (map shape_fact (result_shapes o)) vs) (sym e ∙ ap (slice_get fs) (sym q)) (subst (λ gs. DescribeAll gs vs) (same_types f.results) (types_say f.results vs h d)))
      | inr n ↦ common_right (map shape_fact ss) (map shape_fact ts) vs (results_say fs (r ∷ ps) place f vs n e h d)
    ])

pub calls_fit : (core : CoreTerm) (calls : CallMeaning) → CallsKeep core calls → CallsFit (called core) calls
calls_fit core calls k g args vs s d p =
    let w = k g args vs s p in
    results_say core.functions (group_at core g) w.1.0 w.1.1.0 vs w.1.1.1.0 w.1.1.1.1 w.1.1.1.2 (w.0 d)

-- what is known where a function begins is so
pub params_sound : (f : FunTerm) (args : List ArrayValue) → AllFull args → all_have (param_types f) args ≡ true → AreSound (params_facts f) (bind_all no_variables (param_vars f) args)
params_sound f args d h =
    noted no_facts no_variables (param_vars f) (map (λ (ty : ArrayType). shape_fact (shape_of_type ty)) (param_types f)) args (λ x. just_full (no_variables x) refl) (types_say (param_types f) args h d)

abbrev pub settle_option : CoreTerm → Option FunTerm → Option FunTerm
settle_option core None = None
settle_option core (Some f) = Some (settled_function core f)

pub mapped : (core : CoreTerm) (fs : List FunTerm) (place : ℕ) → slice_get (map (settled_function core) fs) place ≡ settle_option core (slice_get fs place)
mapped core [] place = refl
mapped core (x ∷ fs) zero = refl
mapped core (x ∷ fs) (suc place) = mapped core fs place

same_heads : (core : CoreTerm) (fs : List FunTerm) → SameHeads fs (map (settled_function core) fs)
same_heads core [] = tt
same_heads core (f ∷ fs) = (record { site = refl; types = refl; inlines = refl }, same_heads core fs)

same_bodies : (core : CoreTerm) → KeepsArrays core → SameBodiesOnArrays core (settled_core core)
same_bodies core arrays turns outer nest place f args site e calls keep d h =
    let C = call_by core outer (run_inline core turns outer nest) in
    let env = bind_all no_variables (param_vars f) args in
    let inside = arrays C turns place f (λ g args vs s d p. (keep g args vs s p).0 d) e in
    let body : run C turns (settled_function core f).body env ≡ run C turns f.body env = same C turns (called core) (calls_fit core C keep) f.body (params_facts f) env inside (params_sound f args d h) in
    (λ i. body_of turns C (e i) args site) ∙ (λ i. and_then (sym body i) (results_in f.results f.ends))
    ∙ sym (λ i. body_of turns C ((mapped core core.functions place ∙ ap (settle_option core) e) i) args site)

pub settled_outcome : (core : CoreTerm) → CallsBelow core → CallsBelow (settled_core core) → KeepsArrays core → KeepsArrays (settled_core core) → SameOutcomeOnArrays core (settled_core core)
settled_outcome core below other arrays other_arrays =
    outcomes_on_arrays core (settled_core core) (record { groups = refl; main = refl; heads = same_heads core core.functions }) below other arrays other_arrays (same_bodies core arrays)
