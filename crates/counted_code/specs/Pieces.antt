-- Generators and parts alone and in lists, as terms.
use Rattle.std.specs.Prelude.{List, [], ◌∷◌, map}
use Rattle.core_ir.specs.Terms.{GenHead, PartHead}
use Rattle.counted_code.specs.declared.tree.CodeGen.{CodeGen}
use Rattle.counted_code.specs.declared.tree.CodePart.{CodePart}
use Rattle.counted_code.specs.Terms.{CodeTerm, CodeGensTerm, CodePartsTerm, NoCodeGens, GenCode, NoCodeParts, PartCode}
use Rattle.counted_code.specs.View.{code_term}

-- all of a generator but its body, and of a part
abbrev pub gen_head : CodeGen → GenHead
gen_head g = record {
  lower = g.lower;
  lower_closed = g.lower_closed;
  upper = g.upper;
  upper_closed = g.upper_closed;
  step = g.step;
  width = g.width;
  index = g.index;
  names = g.names.items;
  site = g.site;
}

abbrev pub part_head : CodePart → PartHead
part_head p = record { grid = p.grid; index = p.index; site = p.site }

pub record CodeGenTerm : Type 0 where
  pub head : GenHead
  pub body : CodeTerm

pub record CodePartTerm : Type 0 where
  pub head : PartHead
  pub body : CodeTerm

abbrev pub code_gen_term : CodeGen → CodeGenTerm
code_gen_term g = record { head = gen_head g; body = code_term g.body }

abbrev pub code_part_term : CodePart → CodePartTerm
code_part_term p = record { head = part_head p; body = code_term p.body }

abbrev pub code_gens_of : List CodeGenTerm → CodeGensTerm
code_gens_of [] = NoCodeGens
code_gens_of (g ∷ gs) = GenCode g.head g.body (code_gens_of gs)

abbrev pub code_parts_of : List CodePartTerm → CodePartsTerm
code_parts_of [] = NoCodeParts
code_parts_of (p ∷ ps) = PartCode p.head p.body (code_parts_of ps)

abbrev pub gens_term : List CodeGen → CodeGensTerm
gens_term gens = code_gens_of (map code_gen_term gens)

abbrev pub parts_term : List CodePart → CodePartsTerm
parts_term parts = code_parts_of (map code_part_term parts)
