-- With-loops by what their checks have planned.
use Rattle.std.proofs.Common.{◌≡◌, ℕ, List, [], ◌∷◌, map, length, Bool, true, false, refl, sym, ap, ◌∙◌, subst, Result, Ok, Err, None}
use Rattle.std.specs.Prelude.{not, ◌||◌}
use Rattle.sac_base.specs.declared.op.Op.{Op}
use Rattle.sac_base.specs.declared.site.Site.{Site}
use Rattle.sac_base.specs.Arrays.{ArrayValue, size}
use Rattle.sac_base.specs.Outcomes.{Ends, and_then}
use Rattle.sac_base.specs.WithLoops.{Bounds, Plan, Operation, genarray, modarray, fold_by, plan, finish, index_length}
use Rattle.core_ir.specs.declared.tree.CoreOp.{CoreOp}
use Rattle.core_ir.specs.Meaning.{operation}
use Rattle.counted_code.specs.declared.tree.CodeGen.{CodeGen}
use Rattle.counted_code.specs.Loops.{CodeGenerator, Job, claim, count_phase, holder, is_fold, job_does, loop_does, with_job}
use Rattle.counted_code.specs.Machine.{Values, bounds_of, one_value, reads}
use Rattle.counted_code.specs.Values.{Heap, go_on, give, is_small, pure_end}
use Rattle.array_with_loops.specs.Cells.{array_from}
use Rattle.array_ops.specs.Tells.{TellsStop}
use Rattle.sac_base.specs.declared.stop.Stop.{Stop}
use Rattle.sac_base.specs.declared.stop.Stop.TheVariants.{Faulted, Memory}
use Rattle.array_with_loops.proofs.CellSteps.{genarray_finish, modarray_finish}
use Rattle.run_values.specs.declared.value.RunValue.{RunValue}
use Rattle.run_loops.specs.declared.state.Context.{Context}
use Rattle.run_loops.specs.declared.state.State.{State}
use Rattle.counted_code.specs.Pieces.{gen_head}
use Rattle.run_loops.specs.Running.{IsAt, IsOnly, IsValue, Told, ToldStop, array_job, fold_job, generator_in}
use Rattle.run_eval.proofs.CellJobs.{WritesNothing, same_result}
use Rattle.run_eval.proofs.CellTold.{only_told}
use Rattle.run_loops.proofs.Steps.{raised}

claim_nothing : (b : Bool) (n : ℕ) (h : Heap) → WritesNothing (claim b None n h).target
claim_nothing true n h k c g = refl
claim_nothing false n h k c g = refl

claim_rest : (b : Bool) (n : ℕ) (h : Heap) → (claim b None n h).rest ≡ None
claim_rest true n h = refl
claim_rest false n h = refl

module _ (context : Context) (e : Values) (m : Heap) (gs : List CodeGen) (s : Site) (bs : List Bounds) (same : bs ≡ map (λ (g : CodeGen). bounds_of (gen_head g) (reads m e)) gs) where
  abbrev job_by : Operation → Plan → Job
  job_by by p = record { form = p.form; shape = p.shape; folds = is_fold by; indices = p.indices; source = holder (map (generator_in context e m) gs) p.ranges; result = finish by p }

  bounds_are : map (λ (g : CodeGenerator). g.bounds) (map (generator_in context e m) gs) ≡ bs
  bounds_are = mapped gs ∙ sym same
    where
      mapped : (gs : List CodeGen) → map (λ (g : CodeGenerator). g.bounds) (map (generator_in context e m) gs) ≡ map (λ (g : CodeGen). bounds_of (gen_head g) (reads m e)) gs
      mapped [] = refl
      mapped (g ∷ gs) = ap (λ rest. bounds_of (gen_head g) (reads m e) ∷ rest) (mapped gs)

  checked_as : (by : Operation) (r : Ends Plan) → plan bs by ≡ r → with_job (map (generator_in context e m) gs) by ≡ and_then r (λ p. Ok (job_by by p))
  checked_as by r is = ap (λ bs. and_then (plan bs by) (λ p. Ok (job_by by p))) bounds_are ∙ ap (λ r. and_then r (λ p. Ok (job_by by p))) is

  module _ (op : CoreOp) (by : Operation) (is : operation op s (reads m e) ≡ by) where
    loop_is : (r : Ends Plan) → plan bs by ≡ r → loop_does (λ k. with_job (map (generator_in context e k) gs) (operation op s (reads k e))) None m ≡ go_on (pure_end (and_then r (λ p. Ok (job_by by p))) m) (job_does None)
    loop_is r ep = ap (λ o. go_on (pure_end (with_job (map (generator_in context e m) gs) o) m) (job_does None)) is ∙ ap (λ r. go_on (pure_end r m) (job_does None)) (checked_as by r ep)

    with_tells : (p : Plan) (j : Job) (r : Result RunValue Stop) (t : State) → plan bs by ≡ Ok p → job_does None (job_by by p) m ≡ job_does None j m → Told IsValue r t (job_does None j m)
        → Told IsOnly r t (one_value (loop_does (λ k. with_job (map (generator_in context e k) gs) (operation op s (reads k e))) None) m)
    with_tells p j r t ep same told = only_told r t (loop_does (λ k. with_job (map (generator_in context e k) gs) (operation op s (reads k e))) None m) (subst (Told IsValue r t) (sym (loop_is (Ok p) ep ∙ same)) told)

    pub with_stops : (stop : Stop) (t : State) → IsAt t m → TellsStop stop (plan bs by) → ToldStop stop t (one_value (loop_does (λ k. with_job (map (generator_in context e k) gs) (operation op s (reads k e))) None) m)
    with_stops (Faulted f) t at tells = raised (Faulted f) f t m (one_value (loop_does (λ k. with_job (map (generator_in context e k) gs) (operation op s (reads k e))) None) m) refl (ap (λ e. go_on e (λ v. give (v ∷ []))) (loop_is (Err f) tells)) at
    with_stops Memory t at tells = tt

  pub genarray_tells : (op : CoreOp) (shape default : ArrayValue) (p : Plan) (r : Result RunValue Stop) (t : State) → operation op s (reads m e) ≡ genarray shape default s → plan bs (genarray shape default s) ≡ Ok p
      → Told IsValue r t (job_does None (array_job context e m gs p default false) m)
      → Told IsOnly r t (one_value (loop_does (λ k. with_job (map (generator_in context e k) gs) (operation op s (reads k e))) None) m)
  genarray_tells op shape default p r t is ep told =
      with_tells op (genarray shape default s) is p (array_job context e m gs p default false) r t ep
      (λ i. job_does None (record { form = p.form; shape = p.shape; folds = false; indices = p.indices; source = holder (map (generator_in context e m) gs) p.ranges; result = λ found. genarray_finish shape default s p found i }) m) told

  pub modarray_tells : (op : CoreOp) (array : ArrayValue) (p : Plan) (r : Result RunValue Stop) (t : State) → operation op s (reads m e) ≡ modarray array s → plan bs (modarray array s) ≡ Ok p
      → Told IsValue r t (job_does None (array_job context e m gs p array true) m)
      → Told IsOnly r t (one_value (loop_does (λ k. with_job (map (generator_in context e k) gs) (operation op s (reads k e))) None) m)
  modarray_tells op array p r t is ep told =
      let h = count_phase (false || not (is_small p.shape)) (length p.indices) m in
      let c = claim (is_small p.shape) None (size p.shape) h in
      with_tells op (modarray array s) is p (array_job context e m gs p array true) r t ep
      (same_result (job_by (modarray array s) p) (array_from true array p) c.target c refl (claim_rest (is_small p.shape) (size p.shape) h) (claim_nothing (is_small p.shape) (size p.shape) h)
      (λ found count. modarray_finish bs (index_length bs (length array.shape)) array s p ep found count)) told

  pub fold_tells : (op : CoreOp) (o : Op) (neutral : ArrayValue) (p : Plan) (r : Result RunValue Stop) (t : State) → operation op s (reads m e) ≡ fold_by o neutral s → plan bs (fold_by o neutral s) ≡ Ok p
      → Told IsValue r t (job_does None (fold_job context e m gs p o neutral) m)
      → Told IsOnly r t (one_value (loop_does (λ k. with_job (map (generator_in context e k) gs) (operation op s (reads k e))) None) m)
  fold_tells op o neutral p r t is ep told = with_tells op (fold_by o neutral s) is p (fold_job context e m gs p o neutral) r t ep refl told
