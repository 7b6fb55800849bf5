use Rattle.std.proofs.Common.{◌≡◌, map, take}
use Rattle.counted_code.specs.declared.tree.CodeGen.{CodeGen}
use Rattle.counted_code.specs.Machine.{bounds_of, reads}
use Rattle.counted_code.specs.Values.{Heap}
use Rattle.run_store.specs.Stands.{Stands}
use Rattle.run_values.specs.Scopes.{current}
use Rattle.counted_code.specs.Pieces.{gen_head}
use Rattle.run_loops.proofs.bounds.all_bounds.Given as goal

abbrev pub invariant-loop-g : goal.invariant-loop-g
invariant-loop-g l = (m : Heap) → Stands l.state.heap m → l.bounds.items ≡ map (λ (g : CodeGen). bounds_of (gen_head g) (reads m (current l.state.frames))) (take l.g-index l.gens)
