use Rattle.std.proofs.Common.{◌≡◌, ◌++◌, length, map}
use Rattle.std.specs.Vec.Iter.{into_iter_items, into_iter_len}
use Rattle.core_ir.specs.View.{fun_term}
use Rattle.counted_code.specs.View.{code_fun_term}
use Rattle.counted_laws.specs.placing.Placing.{placing_fun}
use Rattle.ref_counts.proofs.functions.place_functions.Given as goal

abbrev pub invariant-loop-function : goal.invariant-loop-function
invariant-loop-function l = record {
  placed : map code_fun_term l.placed.items ++ map (λ f. placing_fun (fun_term f)) (into_iter_items l.function-iterator) ≡ map (λ f. placing_fun (fun_term f)) (into_iter_items l.initial.function-iterator);
  left : into_iter_len l.function-iterator ≡ length (into_iter_items l.function-iterator);
}
