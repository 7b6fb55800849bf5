use Rattle.std.proofs.Common.{◌≡◌, ◌∷◌, length, ap, ◌∙◌, arith}
use Rattle.std.specs.Prelude.{position}
use Rattle.sac_base.specs.Grids.{has_vector}
use Rattle.generator_sets.specs.Pieces.{lows}
use Rattle.std.specs.Vec.Iter.{into_iter_items}
use Rattle.generator_sets.proofs.Kept.{label_more}
use Rattle.generator_sets.proofs.parts.label.Goals as goal

pub loop-piece-preserved : goal.loop-piece-preserved
loop-piece-preserved c =
    let at = c.loop-piece in
    let steps : into_iter_items at.piece-iterator ≡ c.in-Some.piece ∷ into_iter_items c.next.new.self = c.in-Some.ensures.steps.0 in
    record {
      labels = label_more c.args.generators.now at.parts.items c.push.new.self.items (into_iter_items at.piece-iterator) (into_iter_items c.next.new.self) c.in-Some.piece c.first_generator-first.result _
          steps (c.first_generator-first.ensures ∙ ap (λ p. position (λ g. has_vector g (lows p)) c.args.generators.now) c.axes.ensures.axes) c.in_ok-push.ensures.items at.invariant.labels;
      left =
          let was = at.invariant.left in
          let gone = c.in-Some.ensures.steps.1 in
          let short = ap length steps in
          omega arith;
    }
