-- Generators and parts alone, as terms with the references that are kept and released in them.
use Rattle.std.specs.Prelude.{[], ◌∷◌}
use Rattle.core_ir.specs.Terms.{GenTerm, PartTerm}
use Rattle.counted_code.specs.Pieces.{CodeGenTerm, CodePartTerm}
use Rattle.counted_laws.specs.placing.Placing.{placing}

abbrev pub placing_gen : GenTerm → CodeGenTerm
placing_gen g = record { head = g.head; body = placing (g.head.index ∷ g.head.names) g.body }

abbrev pub placing_part : PartTerm → CodePartTerm
placing_part p = record { head = p.head; body = placing (p.head.index ∷ []) p.body }
