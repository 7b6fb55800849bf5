use Rattle.std.proofs.Common.{◌∙◌, sym, subst}
use Rattle.core_facts.specs.calls.Arrays.{AllFull}
use Rattle.counted_code.specs.Values.{place_all}
use Rattle.run_eval.proofs.WholeRuns.{place_turn}
use Rattle.run_eval.proofs.program.place_all.Goals as goal

pub loop-array-preserved : goal.loop-array-preserved
loop-array-preserved c = record {
  placed = λ m stands.
      let v = c.loop-array.invariant.placed m stands in
      place_turn c.loop-array.values.items c.push.new.self.items c.in_ok-place_own.field-0 c.in-Some.array c.loop-array.array-iterator.rest.items c.next.new.self.rest.items c.place_own.new.heap v.0
      (place_all c.into_iter-array-iterator.result.rest.items m)
      c.in-Some.ensures.steps.0 c.in_ok-push.ensures.items (c.in_ok-place_own.ensures.placed v.0 v.1) v.2;
  full = λ rest. c.loop-array.invariant.full (subst AllFull (sym c.in-Some.ensures.steps.0) (c.cells.ensures.array.full, rest));
  lender = c.in_ok-place_own.ensures.lender ∙ c.loop-array.invariant.lender;
}
