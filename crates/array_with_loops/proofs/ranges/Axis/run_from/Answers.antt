use Rattle.std.proofs.Common.{arith, sym, ap, ◌∙◌, pos, ◌+ℤ◌, ◌<ℤ◌, ◌≤ℤ◌, w32}
use Rattle.std.proofs.lemmas.Int.{ints, to_z-of_z}
use Rattle.sac_base.specs.WithLoops.{holds_at}
use Rattle.array_with_loops.proofs.RowSteps.{below_free, all_held, between, offset_kept}
use Rattle.array_with_loops.proofs.ranges.Axis.run_from.Goals as goal

pub returns-then-v-self-2-clause-same : goal.returns-then-v-self-2-clause-same
returns-then-v-self-2-clause-same c = λ j h.
    let k : (c.args.v +ℤ pos j) <ℤ c.self.inside.lower = omega (arith, ints, h, c.of-then-v-self-2.ensures.count, c.min.ensures, c.if-v-self-2.true, c.from-v.ensures) in
    ap (λ a. holds_at a (c.args.v +ℤ pos j)) (sym c.self.view_is) ∙ below_free (record { lower = c.self.inside.lower; upper = c.self.inside.upper; step = pos c.self.inside.step; width = pos c.self.inside.width }) (c.args.v +ℤ pos j) k ∙ sym c.of-then-v-self-2.ensures.held

pub returns-then-self-clause-same : goal.returns-then-self-clause-same
returns-then-self-clause-same c = λ j h.
    let i = c.self.inside in
    let low : i.lower ≤ℤ c.args.v = omega (arith, ints, c.if-v-self-2.false, c.from-v.ensures) in
    let k : (c.args.v +ℤ pos j) <ℤ i.upper = omega (arith, ints, h, c.of-then-self.ensures.count, c.min-most.ensures, c.if-v-self.false, c.from-v.ensures) in
    ap (λ a. holds_at a (c.args.v +ℤ pos j)) (sym c.self.view_is)
    ∙ all_held i.lower i.upper c.args.v i.step i.width j low k (omega (arith, ints, c.self.invariant.step.least)) c.if-self.true ∙ sym c.of-then-self.ensures.held

pub returns-clause-same : goal.returns-clause-same
returns-clause-same c = λ j h.
    let i = c.self.inside in
    let low : i.lower ≤ℤ c.args.v = omega (arith, ints, c.if-v-self-2.false, c.from-v.ensures) in
    let k : (c.args.v +ℤ pos j) <ℤ i.upper = omega (arith, ints, h, c.run_of.ensures.most, c.min-most.ensures, c.if-v-self.false, c.from-v.ensures) in
    ap (λ a. holds_at a (c.args.v +ℤ pos j)) (sym c.self.view_is)
    ∙ between i.lower i.upper c.args.v i.step i.width j _ (offset_kept c.args.v i.lower c.from-v.result (c.from-v.ensures ∙ to_z-of_z w32 c.args.v c.ranges.v) c.ranges.v c.self.invariant.lower low) k ∙ c.run_of.ensures.same j h
