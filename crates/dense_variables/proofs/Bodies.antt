-- Bodies with new numbers, and whole cores.
use Rattle.std.proofs.Common.{◌≡◌, ℕ, ◌<◌, true, false, List, [], ◌∷◌, ◌++◌, map, length, All, refl, sym, ap, subst, ◌∙◌, arith}
use Rattle.std.proofs.lemmas.Bool.{eq-eqb}
use Rattle.std.proofs.lemmas.List.Elements.{All-map, All-weaker}
use Rattle.core_ir.specs.declared.tree.Var.{Var}
use Rattle.core_ir.specs.Binders.{is_in, bound_in}
use Rattle.core_ir.specs.Meaning.{Env, no_variables, bind_all}
use Rattle.core_ir.specs.Outcome.{param_vars, SameHeads, SameOutside}
use Rattle.core_ir.specs.Renaming.{Agree, Renamed}
use Rattle.core_ir.specs.Terms.{FunTerm, CoreTerm}
use Rattle.core_ir.specs.WellFormed.{Distinct, IsFunction, IsWellFormed, base_of, bases, param_bases}
use Rattle.core_ir.proofs.Renamed as meaning
use Rattle.core_ir.proofs.Variables.{same_number}
use Rattle.core_subst.proofs.copy.Renaming.{bound_mapped}
use Rattle.core_facts.specs.calls.Arrays.{SameOutcomeOnArrays}
use Rattle.core_loops.specs.Steps.{itself}
use Rattle.core_forms.proofs.edits.Mapping.{calls_mapped}
use Rattle.core_forms.proofs.inlined_bodies.Names.{distinct_left, distinct_right, distinct_apart, distinct_both, in_left, clash, not_in}
use Rattle.core_forms.proofs.cleaning.Bodies.{KeepsForm, KeepsMeaning, well_formed, same_outcome}
use Rattle.core_forms.specs.norm.Copied.{AreFrom}
use Rattle.core_forms.proofs.norm.Copies.{alike, renamed}
use Rattle.core_forms.proofs.norm.Scopes.{copy_scoped, in_right}
use Rattle.core_forms.proofs.norm.Typing.{copy_bases}
use Rattle.dense_variables.specs.Dense.{behind_params, number_in, dense_body, dense_core, numbered_function, IsDense}
use Rattle.dense_variables.proofs.Numbers.{order, new_once, new_off, low_stays, apart, below_above}

-- an iterator with nothing left
pub none_left : {A : Type 0} (len : ℕ) (items : List A) → len ≡ 0 → len ≡ length items → items ≡ []
none_left len [] p q = refl
none_left len (x ∷ xs) p q = absurd (omega arith)

module _ (core : CoreTerm) (f : FunTerm) (is : IsFunction core f) where
  abbrev params : List Var
  params = param_vars f

  abbrev bound : List Var
  bound = bound_in f.body

  abbrev n : ℕ
  n = behind_params f

  abbrev m : Var → Var
  m = number_in f

  bound_once : Distinct bound
  bound_once = distinct_right params bound is.once

  off : (y : Var) → is_in y params ≡ true → is_in y bound ≡ false
  off = distinct_apart params bound is.once

  below : (y : Var) → is_in y params ≡ true → y.0 < n
  below = below_above params

  bound_new : bound_in (dense_body f) ≡ map m bound
  bound_new = bound_mapped m f.body

  body_once : Distinct (bound_in (dense_body f))
  body_once = subst Distinct (sym bound_new) (new_once params bound n bound_once off below)

  body_off : (y : Var) → is_in y params ≡ true → is_in y (bound_in (dense_body f)) ≡ false
  body_off y h = (λ i. is_in y (bound_new i)) ∙ new_off params bound n bound_once off below y h

  params_linked : (y : Var) → is_in y params ≡ true → itself y (m y) ≡ true
  params_linked y h = eq-eqb y.0 (m y).0 (ap (λ (v : Var). v.0) (sym (low_stays params bound n bound_once off below y h)))

  copy : Renamed itself f.body (dense_body f)
  copy = renamed m (bound ++ params) (apart params bound n bound_once off below) itself params f.body is.scoped (λ y h. in_left y bound params h) (λ y h. in_right y bound params h) params_linked

  pub keeps_form : KeepsForm core f (dense_body f)
  keeps_form = record {
    once = distinct_both params (bound_in (dense_body f)) (distinct_left params bound is.once) body_once body_off;
    scoped =
        copy_scoped itself f.body (dense_body f) params params copy (λ x y e h. (λ i. is_in (sym (same_number x y e) i) params) ∙ h) is.scoped body_once
        (λ y h. not_in y params (λ k. clash (is_in y (bound_in (dense_body f))) h (body_off y k)));
    agreeing =
        copy_bases core core (λ group us ts h. h) itself f.body (dense_body f) (param_bases f) (param_bases f) (bases f.results) copy (alike m f.body)
        (λ x y t e h. (λ i. base_of (param_bases f) (sym (same_number x y e) i)) ∙ h) is.agreeing bound_once body_once;
    calls = calls_mapped m f.body;
  }

  pub keeps_meaning : KeepsMeaning core f (dense_body f)
  keeps_meaning turns C args typed fit full env sound =
      let e : Env = bind_all no_variables params args in
      let agree : Agree itself e e = λ x y h. ap e (same_number x y h) in
      sym (meaning.renamed C turns itself e e f.body (dense_body f) agree copy)

  pub is_dense : IsDense (numbered_function f)
  is_dense = subst (AreFrom n) (sym bound_new) (order params bound n bound_once off below)

-- ---- whole cores

pub dense_well : (core : CoreTerm) → IsWellFormed core → IsWellFormed (dense_core core)
dense_well core well = well_formed core dense_body well (keeps_form core)

pub dense_outcome : (core : CoreTerm) → IsWellFormed core → SameOutcomeOnArrays core (dense_core core)
dense_outcome core well = same_outcome core dense_body well (keeps_form core) (keeps_meaning core)

pub all_dense : (core : CoreTerm) → IsWellFormed core → All IsDense (dense_core core).functions
all_dense core well =
    All-map IsDense numbered_function core.functions (All-weaker (IsFunction core) (λ f. IsDense (numbered_function f)) (λ f is. is_dense core f is) core.functions well.functions)

heads_stay : (fs : List FunTerm) → SameHeads fs (map numbered_function fs)
heads_stay [] = tt
heads_stay (f ∷ fs) = (record { site = refl; types = refl; inlines = refl }, heads_stay fs)

pub dense_outside : (core : CoreTerm) → SameOutside core (dense_core core)
dense_outside core = record { groups = refl; main = refl; heads = heads_stay core.functions }
