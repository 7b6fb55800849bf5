-- What is made of all cells of a fold.
use Rattle.std.proofs.Common.{◌≡◌, ℕ, List, length, ℤ, Option, Result, Ok, Err, ap, ◌∙◌, sym, subst}
use Rattle.std.specs.Prelude.{IsTrue, fold}
use Rattle.sac_base.specs.declared.base.Base.{Base}
use Rattle.sac_base.specs.declared.op.Op.{Op}
use Rattle.sac_base.specs.Arrays.{ArrayValue, size}
use Rattle.sac_base.specs.Outcomes.{Ends}
use Rattle.sac_base.specs.Verdict.{folds, present}
use Rattle.sac_base.specs.WithLoops.{each, combined}
use Rattle.wl_core.specs.Machine.{combine}
use Rattle.sac_base.specs.declared.stop.Stop.{Stop}
use Rattle.sac_base.specs.declared.stop.Stop.TheVariants.{Faulted, Memory}
use Rattle.phase_team.specs.Endings.{IsCombined}
use Rattle.phase_laws.specs.Folds.{IsOf}
use Rattle.phase_team.specs.Segments.{HaveWidth}
use Rattle.phase_loop_laws.specs.Worked.{unfilled, HaveForm, IsResult}
use Rattle.phase_loop_laws.proofs.Forms.{whole_cells}
use Rattle.phase_loop_laws.proofs.Pairs.{array, fold_from}
use Rattle.phase_loop_laws.proofs.Places.{elements_at}
use Rattle.phase_loop_laws.proofs.Results.{work, values_behind, fault_first}

module _ (base : Base) (op : Op) (allowed : IsTrue (folds base op)) (shape : List ℕ) (neutral : ArrayValue) (is_neutral : IsOf base shape neutral) (cell : List ℤ → Ends (Option ArrayValue)) (forms : HaveForm base shape cell) (vs : List (List ℤ)) where
  pub fold_made : (es : List ℤ) (end : Result (Unit {0}) Stop) → IsCombined op (work cell vs unfilled) neutral.cells es end → IsResult (fold (combined op) neutral) base shape (each cell vs) es end
  fold_made es (Ok done) is =
      let behind = values_behind cell vs unfilled is.0 is.1 in
      let width : length neutral.cells ≡ size shape = is_neutral.full ∙ ap size is_neutral.shape_is in
      let wide : HaveWidth (size shape) (elements_at unfilled behind.cells) = subst (λ (n : ℕ). HaveWidth n (elements_at unfilled behind.cells)) width (subst (λ (values : List (Option (List ℤ))). HaveWidth (length neutral.cells) values) behind.elements is.3) in
      let whole = whole_cells base shape cell forms vs behind.cells behind.found wide in (
        behind.cells,
        behind.found,
        fold_from base op allowed shape neutral behind.cells is_neutral whole ∙ ap (array base op allowed shape) (sym (is.2 ∙ (λ j. fold (combine op) neutral.cells (present (behind.elements j))))),
      )
  fold_made es (Err (Faulted f)) is = fault_first cell vs unfilled f is
  fold_made es (Err Memory) is = tt
