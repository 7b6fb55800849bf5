use Rattle.std.proofs.Common.{◌≡◌, List, ◌++◌, drop, take, map}
use Rattle.core_ir.specs.View.{block_term, with_term, parted_term, gen_term, part_term}
use Rattle.core_ir.specs.declared.tree.Block.{out-Block}
use Rattle.ref_rules.specs.declared.listed_uses.list.Entry.{Entry}
use Rattle.ref_rules.specs.listed_uses.Latest.{section}
use Rattle.ref_counts.specs.Listing.{listed, listed_right}
use Rattle.counted_code.specs.Pieces.{code_gen_term, code_part_term}
use Rattle.ref_counts.specs.Pieces.{placing_gen, placing_part}
use Rattle.ref_counts.proofs.Collected.{gen_listed, part_listed}
use Rattle.ref_counts.proofs.Positions.{IsPlacedTo}
use Rattle.ref_counts.proofs.place.+place.Given as goal

abbrev pub invariant-place_block-loop-binding : goal.invariant-place_block-loop-binding
invariant-place_block-loop-binding l =
    (later : List Entry) → drop l.start l.uses ≡ section (listed (block_term l.block)) ++ later →
    IsPlacedTo l.uses (take l.end l.uses) l.from l.owned l.steps.items l.refs (out-Block l.block).results.items (drop l.binding-index l.binding-items) l.binding-items later

abbrev pub invariant-place_with-loop-generator : goal.invariant-place_with-loop-generator
invariant-place_with-loop-generator l =
    (later : List Entry) → drop l.from l.uses ≡ listed_right (with_term l.with) ++ later →
    (drop l.at l.uses ≡ gen_listed (drop l.generator-index l.generator-items) ++ later)
    × (map code_gen_term l.gens.items ≡ map (λ g. placing_gen (gen_term g)) (take l.generator-index l.generator-items))

abbrev pub invariant-place_parted-loop-part : goal.invariant-place_parted-loop-part
invariant-place_parted-loop-part l =
    (later : List Entry) → drop l.from l.uses ≡ listed_right (parted_term l.parted) ++ later →
    (drop l.at l.uses ≡ part_listed (drop l.part-index l.part-items) ++ later)
    × (map code_part_term l.parts.items ≡ map (λ p. placing_part (part_term p)) (take l.part-index l.part-items))
