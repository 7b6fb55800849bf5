use Rattle.std.proofs.Common.{map, subst}
use Rattle.core_ir.specs.View.{part_term}
use Rattle.folded_parts.specs.Making.{PieceMade}
use Rattle.folded_parts.proofs.Gathering.{Gathered, gathered_first, gathered_on, gathered_all}
use Rattle.folded_parts.proofs.Turns.{none_left}
use Rattle.folded_parts.proofs.pieces.folded_pieces.Goals as goal

pub loop-grid-init : goal.loop-grid-init
loop-grid-init c = gathered_first c.args.producer (map part_term c.args.parts.now) (part_term c.args.old.now) c.into_iter-grid-iterator.result.rest.items c.args.progress.now.next _ c.new-made.ensures.items

pub loop-grid-preserved : goal.loop-grid-preserved
loop-grid-preserved c =
    gathered_on c.args.producer (map part_term c.args.parts.now) (part_term c.args.old.now) _ c.args.progress.now.next c.loop-grid.made.items c.push.new.self.items c.loop-grid.grid-iterator.rest.items c.next.new.self.rest.items
    c.loop-grid.progress.next c.folded_part.new.progress.next (c.in-Some.grid, c.in-Some.holders) c.in_ok-folded_part.field-0 c.loop-grid.invariant c.in-Some.ensures.steps.0 c.in_ok-push.ensures.items
    (subst (λ hs. PieceMade c.args.producer (map part_term c.args.parts.now) hs (part_term c.args.old.now) c.in-Some.grid c.loop-grid.progress.next (part_term c.in_ok-folded_part.field-0) c.folded_part.new.progress.next)
    c.deref.ensures.value c.in_ok-folded_part.ensures)

pub returns : goal.returns
returns c =
    let none = none_left c.loop-grid.grid-iterator.rest.len c.loop-grid.grid-iterator.rest.items c.in-None.ensures.steps.0 c.loop-grid.grid-iterator.rest.ok.0 in
    gathered_all c.args.producer (map part_term c.args.parts.now) (part_term c.args.old.now) c.args.pieces.items c.args.progress.now.next c.loop-grid.made.items c.loop-grid.grid-iterator.rest.items c.loop-grid.progress.next
    (subst (λ zs. Gathered c.args.producer (map part_term c.args.parts.now) (part_term c.args.old.now) zs c.args.progress.now.next c.loop-grid.made.items c.loop-grid.grid-iterator.rest.items c.loop-grid.progress.next)
    c.into_iter-grid-iterator.ensures.into_iter_gives.0 c.loop-grid.invariant) none
