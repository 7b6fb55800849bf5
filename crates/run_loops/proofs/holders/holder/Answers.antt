use Rattle.std.proofs.Common.{◌≡◌, ◌<◌, length, get_or, false, sym, ap, ◌∙◌, arith}
use Rattle.sac_base.specs.WithLoops.{holds}
use Rattle.run_loops.proofs.WithHolders.{held_on, held_past}
use Rattle.run_loops.proofs.holders.holder.Goals as goal

pub loop-k-preserved : goal.loop-k-preserved
loop-k-preserved c =
    let a = c.args in
    let k = c.loop-k.k in
    let r = c.index-ranges-k.result in
    let inside : k < length a.gens.now = omega (arith, c.loop-k-test.true, c.min-k-end.ensures) in
    let within : k < length a.ranges.now = omega (arith, c.loop-k-test.true, c.min-k-end.ensures) in
    let fails : holds (get_or a.ranges.now k r) a.index.now ≡ false = ap (λ r. holds r a.index.now) (sym c.index-ranges-k.is) ∙ sym c.holds.ensures ∙ c.if-holds.false in
    held_on a.gens.now a.ranges.now a.index.now k r inside within fails ∙ c.loop-k.invariant

pub returns : goal.returns
returns c =
    let a = c.args in
    sym (held_past a.gens.now a.ranges.now a.index.now c.loop-k.k (omega (arith, c.loop-k-test.false, c.min-k-end.ensures))) ∙ c.loop-k.invariant
