use Rattle.std.proofs.Common.{◌≡◌, ◌++◌, length, map}
use Rattle.std.specs.Vec.Iter.{into_iter_items, into_iter_len}
use Rattle.counted_code.specs.View.{code_fun_term}
use Rattle.counted_marks.specs.Marking.{marking_fun}
use Rattle.reuse_candidates.specs.Calls.{given_by}
use Rattle.buffer_reuse.proofs.functions.mark_functions.Given as goal

abbrev pub invariant-loop-function : goal.invariant-loop-function
invariant-loop-function l = record {
  marked : map code_fun_term l.marked.items ++ map (λ f. marking_fun (given_by l.calls) (code_fun_term f)) (into_iter_items l.function-iterator) ≡ map (λ f. marking_fun (given_by l.calls) (code_fun_term f)) (into_iter_items l.initial.function-iterator);
  left : into_iter_len l.function-iterator ≡ length (into_iter_items l.function-iterator);
}
