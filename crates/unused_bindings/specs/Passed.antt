-- The terms of what the walk has swept.
use Rattle.std.specs.Prelude.{List, map}
use Rattle.core_ir.specs.Terms.{GenTerm, PartTerm}
use Rattle.core_ir.specs.View.{let_term, gen_term, part_term}
use Rattle.unused_bindings.specs.declared.swept.SweptLet.{SweptLet}
use Rattle.unused_bindings.specs.declared.swept.SweptGen.{SweptGen}
use Rattle.unused_bindings.specs.declared.swept.SweptPart.{SweptPart}
use Rattle.unused_bindings.specs.Swept.{PassedTerm}

abbrev pub passed_term : SweptLet → PassedTerm
passed_term l = record { binding = let_term l.binding; may_go = l.may_go }

abbrev pub gen_terms : List SweptGen → List GenTerm
gen_terms gs = map (λ (g : SweptGen). gen_term g.generator) gs

abbrev pub part_terms : List SweptPart → List PartTerm
part_terms ps = map (λ (p : SweptPart). part_term p.part) ps
