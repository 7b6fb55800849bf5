-- A part of the code as a term.
use Rattle.std.proofs.Common.{◌≡◌, refl}
use Rattle.core_ir.specs.declared.tree.CorePart.{CorePart, CorePart', CorePart-F, out-CorePart}
use Rattle.core_ir.specs.declared.tree.Right.TheBlock.{the_data, the_data-1, the_data-2, the_data-3, the_data-4, the_data-5, the_data-6}
use Rattle.core_ir.specs.Terms.{PartTerm}
use Rattle.core_ir.specs.View.{block_term, part_term}

abbrev pub shown_part : CorePart-F the_data the_data-1 the_data-2 the_data-3 the_data-4 the_data-5 the_data-6 → PartTerm
shown_part x = record { head = record { grid = x.grid; index = x.index; site = x.site }; body = block_term x.body }

pub part_out : (p : CorePart) → part_term p ≡ shown_part (out-CorePart p)
unfolding out-CorePart denote.Hole.Carrier.out
part_out (CorePart' a b c d) = refl
