use Rattle.std.proofs.Common.{◌≡◌, ◌++◌, drop}
use Rattle.unreached_functions.proofs.Called.{lets_calls, gens_calls, parts_calls}
use Rattle.unreached_functions.proofs.calls.+calls.Given as goal

abbrev pub invariant-add_calls-loop-binding : goal.invariant-add_calls-loop-binding
invariant-add_calls-loop-binding l = l.groups.items ++ lets_calls (drop l.binding-index l.binding-items) ≡ l.initial.groups.items ++ lets_calls l.binding-items

abbrev pub invariant-add_calls_with-loop-generator : goal.invariant-add_calls_with-loop-generator
invariant-add_calls_with-loop-generator l = l.groups.items ++ gens_calls (drop l.generator-index l.generator-items) ≡ l.initial.groups.items ++ gens_calls l.generator-items

abbrev pub invariant-add_calls_parted-loop-part : goal.invariant-add_calls_parted-loop-part
invariant-add_calls_parted-loop-part l = l.groups.items ++ parts_calls (drop l.part-index l.part-items) ≡ l.initial.groups.items ++ parts_calls l.part-items
