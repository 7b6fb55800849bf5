-- What calls give depends on the groups and on the results of functions alone.
use Rattle.std.proofs.Common.{◌≡◌, ℕ, zero, suc, List, [], ◌∷◌, map, Option, Some, None, refl, ap, ◌∙◌, sym}
use Rattle.std.specs.Prelude.{slice_get}
use Rattle.sac_base.specs.declared.base.Base.{Base}
use Rattle.sac_base.specs.declared.types.ArrayType.{ArrayType}
use Rattle.core_ir.specs.declared.tree.Core.{Core}
use Rattle.core_ir.specs.declared.tree.CoreFun.{CoreFun}
use Rattle.core_ir.specs.Outcome.{group_at}
use Rattle.core_ir.specs.Terms.{FunTerm}
use Rattle.core_ir.specs.View.{core_term, fun_term}
use Rattle.core_facts.specs.constants.Called.{called, common_shapes, result_shapes, shape_of_type, shapes_at}
use Rattle.counted_code.specs.declared.tree.Code.{Code}
use Rattle.counted_code.specs.declared.tree.CodeFun.{CodeFun}
use Rattle.counted_code.specs.Terms.{core_of_code, core_of_fun}
use Rattle.counted_code.specs.View.{code_program, code_fun_term}
use Rattle.counted_marks.specs.Bases.{bases_at, common_bases, result_bases, typed}
use Rattle.reuse_candidates.specs.Calls.{same_groups, same_results, results_of}

abbrev all_results : List FunTerm → List (List ArrayType)
all_results fs = map (λ (f : FunTerm). f.results) fs

abbrev shapes_or : Option (List ArrayType) → List (Option (List ℕ))
shapes_or None = []
shapes_or (Some ts) = map shape_of_type ts

abbrev bases_or : Option (List ArrayType) → List (Option Base)
bases_or None = []
bases_or (Some ts) = map (λ (ty : ArrayType). Some ty.base) ts

shapes_by : (fs : List FunTerm) (p : ℕ) → result_shapes (slice_get fs p) ≡ shapes_or (slice_get (all_results fs) p)
shapes_by [] p = refl
shapes_by (f ∷ fs) zero = refl
shapes_by (f ∷ fs) (suc p) = shapes_by fs p

bases_by : (fs : List FunTerm) (p : ℕ) → result_bases (slice_get fs p) ≡ bases_or (slice_get (all_results fs) p)
bases_by [] p = refl
bases_by (f ∷ fs) zero = refl
bases_by (f ∷ fs) (suc p) = bases_by fs p

module _ (fs gs : List FunTerm) (e : all_results fs ≡ all_results gs) where
  shapes_here : (p : ℕ) → result_shapes (slice_get fs p) ≡ result_shapes (slice_get gs p)
  shapes_here p = shapes_by fs p ∙ ap (λ rs. shapes_or (slice_get rs p)) e ∙ sym (shapes_by gs p)

  bases_here : (p : ℕ) → result_bases (slice_get fs p) ≡ result_bases (slice_get gs p)
  bases_here p = bases_by fs p ∙ ap (λ rs. bases_or (slice_get rs p)) e ∙ sym (bases_by gs p)

  shapes_same : (ps : List ℕ) → shapes_at fs ps ≡ shapes_at gs ps
  shapes_same [] = refl
  shapes_same (p ∷ []) = shapes_here p
  shapes_same (p ∷ q ∷ ps) = λ i. common_shapes (shapes_here p i) (shapes_same (q ∷ ps) i)

  bases_same : (ps : List ℕ) → bases_at fs ps ≡ bases_at gs ps
  bases_same [] = refl
  bases_same (p ∷ []) = bases_here p
  bases_same (p ∷ q ∷ ps) = λ i. common_bases (bases_here p i) (bases_same (q ∷ ps) i)

of_core : (fs : List CoreFun) → all_results (map fun_term fs) ≡ map (λ f. (fun_term f).results) fs
of_core [] = refl
of_core (f ∷ fs) = ap (λ rs. (fun_term f).results ∷ rs) (of_core fs)

of_code : (fs : List CodeFun) → all_results (map core_of_fun (map code_fun_term fs)) ≡ map (λ f. (code_fun_term f).results) fs
of_code [] = refl
of_code (f ∷ fs) = ap (λ rs. (code_fun_term f).results ∷ rs) (of_code fs)

module _ (core : Core) (code : Code) (groups : same_groups core ≡ (code_program code).groups) (results : same_results core ≡ results_of code) where
  both : all_results (core_term core).functions ≡ all_results (core_of_code (code_program code)).functions
  both = of_core core.functions.items ∙ results ∙ sym (of_code code.functions.items)

  pub called_same : called (core_term core) ≡ called (core_of_code (code_program code))
  called_same =
      (λ i. called (record { functions = (core_term core).functions; groups = groups i; main = (core_term core).main }))
      ∙ (λ i g. shapes_same (core_term core).functions (core_of_code (code_program code)).functions both (group_at (core_of_code (code_program code)) g) i)

  pub typed_same : typed (core_term core) ≡ typed (core_of_code (code_program code))
  typed_same =
      (λ i. typed (record { functions = (core_term core).functions; groups = groups i; main = (core_term core).main }))
      ∙ (λ i g. bases_same (core_term core).functions (core_of_code (code_program code)).functions both (group_at (core_of_code (code_program code)) g) i)
