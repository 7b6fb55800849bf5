use Rattle.std.proofs.Common.{◌≡◌, suc, ◌-◌, ◌<◌, take, slice_index_or, arith, sym, subst, ap, ◌∙◌}
use Rattle.ref_rules.specs.listed_uses.Latest.{IsLast}
use Rattle.ref_rules.proofs.listed_uses.Recorded.{IsLastFrom, all_taken, last_found, one_back, goes_down}
use Rattle.ref_rules.proofs.listed_uses.list.Uses.used_before.Goals as goal

pub loop-behind-init : goal.loop-behind-init
loop-behind-init c =
    let es = c.self.inside.entries.items in
    all_taken es c.args.x c.args.end c.behind_last-behind.result (subst (IsLast es c.args.x) (sym c.behind_last-behind.ensures) (c.self.invariant.0 c.args.x))

pub loop-behind-smaller : goal.loop-behind-smaller
loop-behind-smaller c =
    let at = c.loop-behind in
    let earlier = c.self.inside.earlier.items in
    let one : at.behind ≡ suc (at.behind - 1) = omega (arith, c.loop-behind-test.true) in
    let down = goes_down earlier c.self.inside.entries.items c.args.x c.args.end at.behind (at.behind - 1) c.self.invariant.1 at.invariant one in
    subst (λ n. n < at.behind) (sym (c.behind_earlier-behind.ensures ∙ ap (λ l. slice_index_or l (at.behind - 1) 0) c.deref.ensures.value)) down

pub loop-behind-preserved : goal.loop-behind-preserved
loop-behind-preserved c =
    let at = c.loop-behind in
    let es = c.self.inside.entries.items in
    let one : at.behind ≡ suc (at.behind - 1) = omega (arith, c.loop-behind-test.true) in
    let back = one_back c.self.inside.earlier.items es c.args.x c.args.end at.behind (at.behind - 1) c.self.invariant.1 at.invariant one (omega (arith, c.loop-behind-test.true)) in
    subst (IsLastFrom es c.args.x c.args.end) (sym (c.behind_earlier-behind.ensures ∙ ap (λ l. slice_index_or l (at.behind - 1) 0) c.deref.ensures.value)) back

pub returns : goal.returns
returns c =
    subst (λ es. IsLast (take c.args.end es) c.args.x c.loop-behind.behind) c.self.view_is
    (last_found c.self.inside.entries.items c.args.x c.args.end c.loop-behind.behind c.loop-behind.invariant c.loop-behind-test.false)
