-- Parted loops by what their check has planned.
use Rattle.std.proofs.Common.{◌≡◌, ℕ, List, [], ◌∷◌, ◌++◌, map, Bool, true, false, refl, sym, ap, ◌∙◌, subst, Result, Ok, None}
use Rattle.std.specs.Prelude.{if◌then◌else◌}
use Rattle.sac_base.specs.declared.base.Base.{Base}
use Rattle.sac_base.specs.declared.faults.FaultKind.TheVariants.{F6}
use Rattle.sac_base.specs.declared.grid.Grid1.{Grid1}
use Rattle.sac_base.specs.declared.op.Op.{Op}
use Rattle.sac_base.specs.declared.site.Site.{Site}
use Rattle.sac_base.specs.Arrays.{ArrayValue, same_form}
use Rattle.sac_base.specs.Grids.{members}
use Rattle.sac_base.specs.Outcomes.{fault}
use Rattle.sac_base.specs.WithLoops.{Plan}
use Rattle.core_ir.specs.declared.tree.PartedOp.{PartedOp}
use Rattle.core_ir.specs.declared.tree.PartedOp.TheVariants as parted
use Rattle.core_ir.specs.declared.tree.Var.{Var}
use Rattle.core_ir.specs.Meaning.{cell_form, extents}
use Rattle.counted_code.specs.declared.tree.CodePart.{CodePart}
use Rattle.counted_code.specs.Loops.{Job, job_does, loop_does, parted_job}
use Rattle.counted_code.specs.Machine.{Values, one_value, reads}
use Rattle.counted_code.specs.Values.{Heap, Value, Ended, go_on, give, pure_end, read}
use Rattle.sac_base.specs.declared.stop.Stop.{Stop}
use Rattle.sac_base.specs.declared.stop.Stop.TheVariants.{Faulted}
use Rattle.run_values.specs.declared.value.RunValue.{RunValue}
use Rattle.run_loops.specs.declared.state.Context.{Context}
use Rattle.run_loops.specs.declared.state.State.{State}
use Rattle.run_loops.specs.Running.{IsAt, IsOnly, IsValue, Told, ToldStop, cells_in, fold_parts_job, parts_job}
use Rattle.run_loops.specs.Loops.{plan_of_parts}
use Rattle.run_eval.proofs.CellTold.{only_told}
use Rattle.run_loops.proofs.Steps.{raised}

module _ (context : Context) (e : Values) (m : Heap) (frame : List Grid1) (base : Base) (cell : List ℕ) (ps : List CodePart) (s : Site) where
  abbrev whole : PartedOp → Ended (List Value)
  whole op = one_value (loop_does (λ k. parted_job frame base cell op (map (cells_in context e) ps) s (reads k e)) None) m

  abbrev job_is : PartedOp → Job → Type 0
  job_is op j = parted_job frame base cell op (map (cells_in context e) ps) s (reads m e) ≡ Ok j

  told_as : (op : PartedOp) (j j' : Job) (r : Result RunValue Stop) (t : State) → job_is op j → j' ≡ j → Told IsValue r t (job_does None j' m) → Told IsOnly r t (whole op)
  told_as op j j' r t is same told =
      only_told r t (loop_does (λ k. parted_job frame base cell op (map (cells_in context e) ps) s (reads k e)) None m)
      (subst (Told IsValue r t) ((λ i. job_does None (same i) m) ∙ sym (ap (λ c. go_on (pure_end c m) (job_does None)) is)) told)

  pub parts_tell : (op : PartedOp) (plan : Plan) (qs : List CodePart) (r : Result RunValue Stop) (t : State)
      → ((o : Op) (x : Var) → op ≡ parted.Fold o x → ⊥) → plan ≡ plan_of_parts frame base cell op → qs ≡ ps
      → Told IsValue r t (job_does None (parts_job context e qs plan.indices plan.form plan.shape) m) → Told IsOnly r t (whole op)
  parts_tell parted.Genarray plan qs r t not is same told =
      told_as parted.Genarray (parts_job context e ps (members frame) (record { base = base; shape = cell }) (extents frame ++ cell)) (parts_job context e qs plan.indices plan.form plan.shape) r t refl
      (λ i. parts_job context e (same i) (is i).indices (is i).form (is i).shape) told
  parts_tell (parted.Modarray x) plan qs r t not is same told =
      told_as (parted.Modarray x) (parts_job context e ps (members frame) (record { base = base; shape = cell }) (extents frame ++ cell)) (parts_job context e qs plan.indices plan.form plan.shape) r t refl
      (λ i. parts_job context e (same i) (is i).indices (is i).form (is i).shape) told
  parts_tell (parted.Fold o x) plan qs r t not is same told = absurd (not o x refl)

  module _ (op : PartedOp) (o : Op) (x : Var) (is : op ≡ parted.Fold o x) where
    pub fold_misfits : (t : State) → IsAt t m → same_form (read m (e x)) (cell_form base cell) ≡ false → ToldStop (Faulted (record { kind = F6; site = s })) t (whole op)
    fold_misfits t at h =
        raised (Faulted (record { kind = F6; site = s })) (record { kind = F6; site = s }) t m (whole op) refl
        (ap whole is ∙ ap (λ (b : Bool). go_on (go_on (pure_end (if b then Ok (fold_parts_job context e ps (members frame) (record { base = base; shape = cell }) cell o (read m (e x))) else fault F6 s) m) (job_does None)) (λ v. give (v ∷ []))) h) at

    pub fold_tells : (plan : Plan) (neutral : ArrayValue) (qs : List CodePart) (r : Result RunValue Stop) (t : State)
        → plan ≡ plan_of_parts frame base cell op → neutral ≡ read m (e x) → qs ≡ ps → same_form (read m (e x)) (cell_form base cell) ≡ true
        → Told IsValue r t (job_does None (fold_parts_job context e qs plan.indices plan.form plan.shape o neutral) m) → Told IsOnly r t (whole op)
    fold_tells plan neutral qs r t is' ns same h told =
        let planned : plan ≡ plan_of_parts frame base cell (parted.Fold o x) = is' ∙ ap (plan_of_parts frame base cell) is in
        told_as op (fold_parts_job context e ps (members frame) (record { base = base; shape = cell }) cell o (read m (e x)))
        (fold_parts_job context e qs plan.indices plan.form plan.shape o neutral) r t
        (ap (λ op. parted_job frame base cell op (map (cells_in context e) ps) s (reads m e)) is ∙ ap (λ (b : Bool). if b then Ok (fold_parts_job context e ps (members frame) (record { base = base; shape = cell }) cell o (read m (e x))) else fault F6 s) h)
        (λ i. fold_parts_job context e (same i) (planned i).indices (planned i).form (planned i).shape o (ns i)) told
