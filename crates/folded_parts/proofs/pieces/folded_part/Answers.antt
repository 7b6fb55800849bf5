use Rattle.std.proofs.Common.{map, ap}
use Rattle.core_ir.specs.View.{block_term, part_term}
use Rattle.parted_bodies.specs.declared.names.Progress.{Progress}
use Rattle.folded_parts.proofs.Bodies.{piece_made}
use Rattle.folded_parts.proofs.pieces.folded_part.Goals as goal

pub returns : goal.returns
returns c =
    let s = c.args.source.now in
    piece_made s.producer (map part_term s.parts.now) s.holders.now c.args.old.now c.args.grid c.args.progress.now.next c.folded_body.new.progress.next c.take.new.self.next c.renamed.new.progress.next
    (part_term c.part_of.result) (block_term c.in_ok-body.body) (block_term c.in_ok-body-2.body) c.in_ok-index.index
    c.in_ok-body.ensures c.part_of.ensures c.in_ok-body-2.ensures.body c.in_ok-index.ensures.var
    (ap (λ (q : Progress). q.next) c.in_ok-index.ensures.next) (ap (λ (q : Progress). q.next) c.in_ok-body-2.ensures.next)
