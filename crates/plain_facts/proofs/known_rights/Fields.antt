-- Generators and parts by their fields.
use Rattle.std.proofs.Common.{◌≡◌, refl, ap, ◌∙◌}
use Rattle.core_ir.specs.declared.tree.CoreGen.{CoreGen, CoreGen', CoreGen-F, out-CoreGen, roll-CoreGen, out-roll-CoreGen}
use Rattle.core_ir.specs.declared.tree.CorePart.{CorePart, CorePart', CorePart-F, out-CorePart, roll-CorePart, out-roll-CorePart}
use Rattle.core_ir.specs.declared.tree.Right.TheBlock.{the_data, the_data-1, the_data-2, the_data-3, the_data-4, the_data-5, the_data-6}
use Rattle.core_ir.specs.Terms.{GenTerm, PartTerm}
use Rattle.core_ir.specs.View.{block_term, gen_term, part_term}

abbrev pub shown_gen : CoreGen-F the_data the_data-1 the_data-2 the_data-3 the_data-4 the_data-5 the_data-6 → GenTerm
shown_gen x = record {
  head = record { lower = x.lower; lower_closed = x.lower_closed; upper = x.upper; upper_closed = x.upper_closed; step = x.step; width = x.width; index = x.index; names = x.names.items; site = x.site };
  body = block_term x.body;
}

pub gen_out : (g : CoreGen) → gen_term g ≡ shown_gen (out-CoreGen g)
unfolding out-CoreGen denote.Hole.Carrier.out
gen_out (CoreGen' a b c d e f h i j k) = refl

pub gen_roll : (x : CoreGen-F the_data the_data-1 the_data-2 the_data-3 the_data-4 the_data-5 the_data-6) → gen_term (roll-CoreGen x) ≡ shown_gen x
gen_roll x = gen_out (roll-CoreGen x) ∙ ap shown_gen (out-roll-CoreGen x)

abbrev pub shown_part : CorePart-F the_data the_data-1 the_data-2 the_data-3 the_data-4 the_data-5 the_data-6 → PartTerm
shown_part x = record { head = record { grid = x.grid; index = x.index; site = x.site }; body = block_term x.body }

pub part_out : (p : CorePart) → part_term p ≡ shown_part (out-CorePart p)
unfolding out-CorePart denote.Hole.Carrier.out
part_out (CorePart' a b c d) = refl

pub part_roll : (x : CorePart-F the_data the_data-1 the_data-2 the_data-3 the_data-4 the_data-5 the_data-6) → part_term (roll-CorePart x) ≡ shown_part x
part_roll x = part_out (roll-CorePart x) ∙ ap shown_part (out-roll-CorePart x)
