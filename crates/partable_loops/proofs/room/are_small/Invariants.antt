use Rattle.std.proofs.Common.{map, drop}
use Rattle.core_ir.specs.Terms.{gens_of}
use Rattle.core_ir.specs.View.{gen_term}
use Rattle.core_loops.specs.Loops.{RoomInGens}
use Rattle.partable_loops.proofs.room.are_small.Given as goal

abbrev pub invariant-loop-generator : goal.invariant-loop-generator
invariant-loop-generator l = record {
  whole : RoomInGens (gens_of (map gen_term (drop l.generator-index l.gens))) → RoomInGens (gens_of (map gen_term l.gens));
  back : RoomInGens (gens_of (map gen_term l.gens)) → RoomInGens (gens_of (map gen_term (drop l.generator-index l.gens)));
}
