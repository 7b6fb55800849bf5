use Rattle.std.proofs.Common.{rules, ◌≡◌, ◌∙◌, ap, arith}
use Rattle.std.specs.Prelude.{max}
use Rattle.foldable_pairs.proofs.Capping.{binders_turn, binders_end}
use Rattle.foldable_pairs.proofs.room.most_binders.Goals as goal

pub loop-part-preserved : goal.loop-part-preserved
loop-part-preserved c =
    let new : c.max-most.result ≡ max c.loop-part.most c.binders_of_part.result = search rules in
    record {
      most = binders_turn c.args.parts.now c.loop-part.part-index c.part-item.result c.loop-part.most c.max-most.result _ c.loop-part-test.true c.part-item.is
          (new ∙ ap (max c.loop-part.most) c.binders_of_part.ensures) c.loop-part.invariant.most;
      small = let old = c.loop-part.invariant.small in let e = c.binders_of_part.ensures in omega (arith, new, e);
    }

pub returns : goal.returns
returns c = binders_end c.args.parts.now c.loop-part.part-index c.loop-part.most _ c.loop-part-test.false c.loop-part.invariant.small c.loop-part.invariant.most
