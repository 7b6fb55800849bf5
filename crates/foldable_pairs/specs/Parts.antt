-- The parts of the code as terms.
use Rattle.std.specs.Prelude.{List, map}
use Rattle.core_ir.specs.declared.tree.CorePart.{CorePart}
use Rattle.core_ir.specs.Terms.{PartsTerm, parts_of}
use Rattle.core_ir.specs.View.{part_term}

abbrev pub terms : List CorePart → PartsTerm
terms parts = parts_of (map part_term parts)
