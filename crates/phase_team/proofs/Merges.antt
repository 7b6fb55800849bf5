-- What two neighbouring workers make together.
use Rattle.std.proofs.Common.{◌≡◌, ℕ, ◌≤◌, Bool, List, ◌++◌, ℤ, length, take, Ok, Err, sym, ◌∙◌, arith}
use Rattle.std.proofs.lemmas.List.{take-append-le}
use Rattle.sac_base.specs.Verdict.{fold_op}
use Rattle.wl_core.specs.declared.setup.Job.{Job}
use Rattle.wl_core.specs.declared.setup.Job.TheVariants.{Write as Store, Fold}
use Rattle.wl_core.specs.Machine.{CellValue, TakesBase, combine, both}
use Rattle.wl_core.proofs.FoldLaws.{foldable, elementwise-foldable}
use Rattle.sac_base.specs.declared.stop.Stop.{Stop}
use Rattle.sac_base.specs.declared.stop.Stop.TheVariants.{Faulted, Memory}
use Rattle.phase_team.specs.Segments.{value_if, HasRows, MergesRows, Ran}
use Rattle.phase_team.proofs.Sequences.{each-both, each-front, each-back, joined-both, combined-both, widths_both}

module _ (width : ℕ) where
  pub stops-front : (job : Job) (xs ys : List CellValue) (mine rows : List ℤ) (stop : Stop) → Ran job width xs mine (Err stop) → Ran job width (xs ++ ys) rows (Err stop)
  stops-front job xs ys mine rows (Faulted fault) r = each-front xs ys fault r
  stops-front job xs ys mine rows Memory r = tt

  pub stops-back : (job : Job) (xs ys : List CellValue) (mine rest rows : List ℤ) (held : Bool) (stop : Stop) → Ran job width xs mine (Ok held) → Ran job width ys rest (Err stop) → Ran job width (xs ++ ys) rows (Err stop)
  stops-back job xs ys mine rest rows held (Faulted fault) r s = each-back xs ys r.0 fault r.1 s
  stops-back job xs ys mine rest rows held Memory r s = tt

  pub merged : (job : Job) → TakesBase job → (xs ys : List CellValue) (mine rest after : List ℤ) (held more result : Bool) → HasRows job width (length mine) (length rest) → MergesRows job width mine rest held more after result
      → Ran job width xs mine (Ok held) → Ran job width ys rest (Ok more) → Ran job width (xs ++ ys) (after ++ rest) (Ok result)
  merged Store takes xs ys mine rest after held more result rows m r s =
      (r.0 ++ s.0, each-both xs ys r.0 s.0 r.1 s.1, (λ j. m j ++ rest) ∙ (λ j. r.2 j ++ s.2 j) ∙ sym (joined-both r.0 s.0), widths_both width r.0 s.0 r.3 s.3)
  merged (Fold base op) takes xs ys mine rest after held more result rows m r s =
      let laws = elementwise-foldable (fold_op op) (foldable base op takes) in
      let room : width ≤ length after = (let l = m.0 in let w = rows.0 in omega arith) in
      let front : take width (after ++ rest) ≡ take width after = take-append-le width after rest room in
      (r.0 ++ s.0, each-both xs ys r.0 s.0 r.1 s.1, combined-both (combine op) laws r.0 s.0 ∙ (λ j. both (combine op) (r.2 j) (s.2 j)) ∙ sym m.1 ∙ (λ j. value_if result (sym front j)), widths_both width r.0 s.0 r.3 s.3)
