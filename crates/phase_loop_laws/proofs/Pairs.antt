-- Two arrays of one form, combined by the operation of a fold.
use Rattle.std.proofs.Common.{◌≡◌, ℕ, List, [], ◌∷◌, length, ℤ, Option, Some, None, refl, ap, ◌∙◌, sym}
use Rattle.std.specs.Prelude.{IsTrue, fold, if◌then◌else◌}
use Rattle.sac_base.specs.declared.base.Base.{Base}
use Rattle.sac_base.specs.declared.op.Op.{Op}
use Rattle.sac_base.specs.Arrays.{ArrayValue, size}
use Rattle.sac_base.specs.Operators as operators
use Rattle.sac_base.specs.Verdict.{folds, fold_op, present}
use Rattle.sac_base.specs.WithLoops.{combined}
use Rattle.wl_core.specs.Machine.{combine}
use Rattle.wl_core.proofs.Buffers.{length-combined}
use Rattle.phase_laws.specs.Folds.{IsOf, AllOf}
use Rattle.phase_laws.proofs.Folds.{whole_of, size_of, combined_as}
use Rattle.phase_loop_laws.specs.Worked.{unfilled}
use Rattle.phase_loop_laws.proofs.Places.{elements_at}

module _ (base : Base) (op : Op) (allowed : IsTrue (folds base op)) (shape : List ℕ) where
  abbrev pub array : List ℤ → ArrayValue
  array xs = record { base = base; shape = shape; cells = xs }

  array_is : (xs : List ℤ) → length xs ≡ size shape → IsOf base shape (array xs)
  array_is xs p = record { base_is = refl; shape_is = refl; full = p }

  -- the cells of a fold are folded
  pub fold_as : (xs : List ℤ) (cs : List (Option ArrayValue)) → length xs ≡ size shape → AllOf base shape cs → fold (combined op) (array xs) cs ≡ array (fold (combine op) xs (present (elements_at unfilled cs)))
  fold_as xs [] p all = refl
  fold_as xs (None ∷ cs) p all = fold_as xs cs p all
  fold_as xs (Some b ∷ cs) p all =
      ap (λ a. fold (combined op) a cs) (combined_as base op allowed shape (array xs) b (array_is xs p) all.0)
      ∙ fold_as (combine op xs b.cells) cs (length-combined (fold_op op) xs b.cells (size_of base op allowed shape b all.0 ∙ sym p) ∙ p) all.1

  pub fold_from : (neutral : ArrayValue) (cs : List (Option ArrayValue)) → IsOf base shape neutral → AllOf base shape cs → fold (combined op) neutral cs ≡ array (fold (combine op) neutral.cells (present (elements_at unfilled cs)))
  fold_from neutral cs is all = ap (λ a. fold (combined op) a cs) (whole_of base op allowed shape neutral is) ∙ fold_as neutral.cells cs (size_of base op allowed shape neutral is) all
