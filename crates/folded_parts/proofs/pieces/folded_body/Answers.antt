use Rattle.std.proofs.Common.{map, subst}
use Rattle.core_ir.specs.Terms.{BlockTerm}
use Rattle.core_ir.specs.View.{block_term, part_term}
use Rattle.folded_parts.specs.Folding.{BlockFolded}
use Rattle.folded_parts.proofs.pieces.folded_body.Goals as goal

pub returns : goal.returns
returns c =
    let s = c.args.source.now in (
      c.fold_block.new.passed,
      subst (λ (b : BlockTerm). BlockFolded s.producer (map part_term s.parts.now) s.holders.now 0 c.args.progress.now.next b (block_term c.in_ok-folded.folded) c.fold_block.new.passed c.fold_block.new.progress.next)
          c.in_ok-whole.ensures c.in_ok-folded.ensures,
    )
