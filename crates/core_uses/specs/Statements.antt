-- What the tests decide.
use Rattle.std.specs.Prelude.{IsTrue, ◌↔◌, List}
use Rattle.core_ir.specs.declared.tree.Var.{Var}
use Rattle.core_ir.specs.Terms.{BlockTerm, RightTerm}
use Rattle.core_ir.specs.Uses.{AvoidsAll, Avoids, AvoidsRight}
use Rattle.core_uses.specs.Tests.{none_is, is_avoided, is_avoided_right}

abbrev pub BlocksAreDecided : Type 0
BlocksAreDecided = (x : Var) (b : BlockTerm) → IsTrue (is_avoided x b) ↔ Avoids x b

abbrev pub RightsAreDecided : Type 0
RightsAreDecided = (x : Var) (r : RightTerm) → IsTrue (is_avoided_right x r) ↔ AvoidsRight x r

abbrev pub ListsAreDecided : Type 0
ListsAreDecided = (x : Var) (ys : List Var) → IsTrue (none_is x ys) ↔ AvoidsAll x ys
