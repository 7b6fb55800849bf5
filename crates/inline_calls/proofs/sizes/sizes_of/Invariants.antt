use Rattle.std.proofs.Common.{◌≡◌, length}
use Rattle.core_ir.specs.View.{core_term}
use Rattle.inline_calls.specs.Measures.{AreSizes}
use Rattle.inline_calls.proofs.sizes.sizes_of.Given as goal

abbrev pub invariant-loop-k : goal.invariant-loop-k
invariant-loop-k l = record {
  sized : AreSizes (core_term l.core) l.sizes.items;
  count : length l.sizes.items ≡ l.k;
}
