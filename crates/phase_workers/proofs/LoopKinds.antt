-- What is told of a loop, from what is told of its kind.
use Rattle.std.proofs.Common.{◌≡◌, true, sym, subst, Result, None}
use Rattle.std.specs.Prelude.{fold}
use Rattle.array_with_loops.specs.Plans.{plan_of}
use Rattle.counted_code.specs.Loops.{job_does}
use Rattle.counted_code.specs.Machine.{Values}
use Rattle.counted_code.specs.Values.{Heap, Value}
use Rattle.run_loops.specs.Jobs.{cells_job, folds_of, job_of, over_does, result_of}
use Rattle.run_loops.specs.Running.{IsValue, Told}
use Rattle.run_loops.specs.declared.cell_loop.CellLoop.{CellLoop}
use Rattle.run_loops.specs.declared.cell_loop.CellSource.{CellSource}
use Rattle.run_loops.specs.declared.cell_loop.LoopResult.{LoopResult}
use Rattle.run_loops.specs.declared.state.Context.{Context}
use Rattle.run_loops.specs.declared.state.State.{State}
use Rattle.run_values.specs.declared.value.RunValue.{RunValue}
use Rattle.sac_base.specs.declared.op.Op.{Op}
use Rattle.sac_base.specs.declared.stop.Stop.{Stop}
use Rattle.sac_base.specs.Arrays.{ArrayValue}
use Rattle.sac_base.specs.WithLoops.{combined}

-- a fold
pub of_fold : (context : Context) (e : Values) (m : Heap) (r : Result RunValue Stop) (t : State) (work : CellLoop) (folded : LoopResult) (op : Op) (neutral copy : ArrayValue)
    → work.result ≡ folded → cells_job context e m work (folds_of folded) (result_of m folded (plan_of work.plan.now)) ≡ cells_job context e m work true (fold (combined op) neutral) → copy ≡ neutral
    → Told IsValue r t (job_does None (cells_job context e m work true (fold (combined op) copy)) m) → Told IsValue r t (job_does None (job_of context e m work) m)
of_fold context e m r t work folded op neutral copy is made same told =
    subst (λ (x : LoopResult). Told IsValue r t (job_does None (cells_job context e m work (folds_of x) (result_of m x (plan_of work.plan.now))) m)) (sym is)
    (subst (λ j. Told IsValue r t (job_does None j m)) (sym made)
    (subst (λ (n : ArrayValue). Told IsValue r t (job_does None (cells_job context e m work true (fold (combined op) n)) m)) same told))

-- a loop over an array
pub over_of_kind : (context : Context) (e : Values) (m : Heap) (r : Result RunValue Stop) (t : State) (work : CellLoop) (source : CellSource) (w : Value)
    → work.source ≡ source → Told IsValue r t (over_does context e (record work { source = source }) w m) → Told IsValue r t (over_does context e work w m)
over_of_kind context e m r t work source w is told = subst (Told IsValue r t) (λ i. over_does context e (record work { source = sym is i }) w m) told
