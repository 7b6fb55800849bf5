use Rattle.std.proofs.Common.{◌≡◌, drop, List}
use Rattle.core_ir.specs.declared.tree.Var.{Var}
use Rattle.core_uses.proofs.Decided.{lets_avoided, gens_avoided, parts_avoided}
use Rattle.core_uses.proofs.avoid.+avoiding.Given as goal

abbrev pub invariant-avoids-loop-binding : goal.invariant-avoids-loop-binding
invariant-avoids-loop-binding l = (rs : List Var) → lets_avoided l.x rs (drop l.binding-index l.binding-items) ≡ lets_avoided l.x rs l.binding-items

abbrev pub invariant-avoids_with-loop-generator : goal.invariant-avoids_with-loop-generator
invariant-avoids_with-loop-generator l = gens_avoided l.x (drop l.generator-index l.generator-items) ≡ gens_avoided l.x l.generator-items

abbrev pub invariant-avoids_parted-loop-part : goal.invariant-avoids_parted-loop-part
invariant-avoids_parted-loop-part l = parts_avoided l.x (drop l.part-index l.part-items) ≡ parts_avoided l.x l.part-items
