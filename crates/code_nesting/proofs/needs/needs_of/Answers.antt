use Rattle.std.proofs.Common.{◌≡◌, ◌+◌, ◌∙◌, ℕ, zero, List, ap, length, subst, sym, arith}
use Rattle.counted_code.specs.View.{code_program}
use Rattle.code_nesting.specs.Needs.{IsBound, IsClosed}
use Rattle.code_nesting.proofs.Nested.{level_bound, all_bound}
use Rattle.code_nesting.proofs.needs.needs_of.Goals as goal

pub loop-level-init : goal.loop-level-init
loop-level-init c =
    let code = code_program c.args.code.now in
    let below = c.in_ok-below.below.items in
    let here = c.settle.new.here.items in
    let closed : IsClosed code below here = subst (λ (t : List ℕ). IsClosed code t here) c.deref.ensures.value (c.settle.ensures.closed c.if-not-settle.false) in (
      omega (arith, c.in_ok-below.ensures.len, c.len-functions.ensures),
      omega (arith, c.in_ok-here.ensures.len, c.len-functions.ensures, c.pass_over_uncalled.ensures, c.settle.ensures.sized),
      closed,
      level_bound code below here closed zero (λ k is. absurd (omega (arith, is))),
    )

pub returns-then-not-keep : goal.returns-then-not-keep
returns-then-not-keep c =
    let code = code_program c.args.code.now in
    let here = c.loop-level.here.items in
    let same : c.loop-level.below.items ≡ here = c.keep.ensures.same c.if-not-keep.true ∙ c.deref-in-loop-level.ensures.value in
    all_bound code here (subst (λ (t : List ℕ). IsClosed code t here) same c.loop-level.invariant.2) c.args.levels

pub loop-level-preserved : goal.loop-level-preserved
loop-level-preserved c =
    let code = code_program c.args.code.now in
    let level = c.loop-level._level in
    let below = c.keep.new.below.items in
    let here = c.settle-in-loop-level.new.here.items in
    let kept : below ≡ c.loop-level.here.items = c.keep.ensures.kept ∙ c.deref-in-loop-level.ensures.value in
    let closed : IsClosed code below here =
    subst (λ (t : List ℕ). IsClosed code t here) c.deref-in-loop-level-2.ensures.value (c.settle-in-loop-level.ensures.closed c.if-not-settle-2.false) in (
      ap length kept ∙ c.loop-level.invariant.1,
      c.settle-in-loop-level.ensures.sized ∙ c.loop-level.invariant.1,
      closed,
      level_bound code below here closed (level + 1)
          (λ k is. subst (λ (x : ℕ). IsBound code x below) (let e : level ≡ k = omega (arith, is) in e)
          (subst (λ (t : List ℕ). IsBound code level t) (sym kept) c.loop-level.invariant.3)),
    )
