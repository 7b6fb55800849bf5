use Rattle.std.proofs.Common.{◌≡◌, ◌+◌, ◌-◌, ◌≤◌, length, drop, sym, ap, ◌∙◌, arith, rules, get_or, pos, true, false, FitsSigned, w32, to_z, of_z}
use Rattle.std.specs.Prelude.{◌&&◌}
use Rattle.std.proofs.lemmas.Int.{to_z-of_z}
use Rattle.sac_base.specs.WithLoops.{holds}
use Rattle.array_with_loops.specs.Ranges.{moved_last}
use Rattle.array_with_loops.proofs.RangeSteps.{holds_length}
use Rattle.array_with_loops.proofs.RowSteps.{moved_length, moved_step, moved_end}
use Rattle.array_with_loops.proofs.ranges.Range.run_from.Goals as goal

pub returns-then-index-len-clause-same : goal.returns-then-index-len-clause-same
returns-then-index-len-clause-same c = λ j h.
    holds_length c.args.self.now (moved_last j c.args.index.now) (λ e. c.if-index-len.true (sym (moved_length j c.args.index.now) ∙ e ∙ ap length (sym c.self.view_is) ∙ omega (arith, c.len.ensures)))
    ∙ sym c.of.ensures.held

pub returns-clause-same : goal.returns-clause-same
returns-clause-same c = λ j h.
    let v = c.args.index.now in
    let k = c.loop-k.k in
    let some : 1 ≤ length c.args.index.now = search rules in
    let same : length c.args.index.now - 1 ≡ c.loop-k.k = omega (arith, c.loop-k-test.false, c.loop-k.auto.k-end) in
    let ranks : length c.args.index.now ≡ length c.args.self.now = omega (arith, c.if-index-len.false, ap length c.self.view_is, c.len.ensures, c.self.inside.axes.ok.0) in
    let fits : FitsSigned w32 (get_or c.args.index.now (length c.args.index.now - 1) (pos 0)) = search rules in
    sym (c.loop-k.invariant j)
    ∙ moved_end c.args.self.now v k j c.index-2.result.now _ (omega (arith, some, same)) ranks
    (c.index-2.ensures ∙ ap (λ xs. get_or xs (length c.args.index.now - 1) c.index-2.result.now) c.self.view_is ∙ ap (λ n. get_or c.args.self.now n c.index-2.result.now) same)
    (to_z-of_z w32 _ fits ∙ ap (λ n. get_or v n (pos 0)) same) ∙ c.run_from.ensures.same j h

pub returns-then-not-holds-clause-same : goal.returns-then-not-holds-clause-same
returns-then-not-holds-clause-same c = λ j h.
    let v = c.args.index.now in
    let k = c.loop-k.k in
    let a = c.index.result.now in
    let ranks : length v ≡ length c.args.self.now = omega (arith, c.if-index-len.false, ap length c.self.view_is, c.len.ensures, c.self.inside.axes.ok.0) in
    let fits : FitsSigned w32 (get_or v k (pos 0)) = search rules in
    let fails : c.holds.result ≡ false = search rules in
    sym (c.loop-k.invariant j)
    ∙ moved_step c.args.self.now v k j a (to_z w32 (of_z w32 (get_or v k (pos 0)))) (omega (arith, c.loop-k-test.true)) ranks
    (c.index.ensures ∙ ap (λ xs. get_or xs k a) c.self.view_is) (to_z-of_z w32 _ fits)
    ∙ ap (λ b. b && holds (drop (k + 1) c.args.self.now) (moved_last j (drop (k + 1) v))) (sym c.holds.ensures ∙ fails)
    ∙ sym c.of-then-not-holds.ensures.held

pub loop-k-preserved : goal.loop-k-preserved
loop-k-preserved c = λ j.
    let v = c.args.index.now in
    let k = c.loop-k.k in
    let a = c.index.result.now in
    let ranks : length v ≡ length c.args.self.now = omega (arith, c.if-index-len.false, ap length c.self.view_is, c.len.ensures, c.self.inside.axes.ok.0) in
    let fits : FitsSigned w32 (get_or v k (pos 0)) = search rules in
    let held : c.holds.result ≡ true = search rules in
    sym (moved_step c.args.self.now v k j a (to_z w32 (of_z w32 (get_or v k (pos 0)))) (omega (arith, c.loop-k-test.true)) ranks
    (c.index.ensures ∙ ap (λ xs. get_or xs k a) c.self.view_is) (to_z-of_z w32 _ fits)
    ∙ ap (λ b. b && holds (drop (k + 1) c.args.self.now) (moved_last j (drop (k + 1) v))) (sym c.holds.ensures ∙ held))
    ∙ c.loop-k.invariant j
