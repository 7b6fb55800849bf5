use Rattle.std.proofs.Common.{◌≡◌, ◌∙◌, ap, sym, Some, map, pos, ◌-ℤ◌}
use Rattle.std.specs.Prelude.{option_map}
use Rattle.sac_base.specs.WithLoops.{part_or, upper_of}
use Rattle.array_with_loops.proofs.BoundSteps.{raised_part}
use Rattle.array_with_loops.proofs.bounds.Bounds.upper_bound.Goals as goal

pub returns-in_ok-bound-in-Some-clause-value : goal.returns-in_ok-bound-in-Some-clause-value
returns-in_ok-bound-in-Some-clause-value c =
    let n = c.args.n in
    let part = c.self.inside.upper in
    let p : Some c.in-Some.upper.items ≡ part_or n c.in_ok-last.last.items part = sym (ap (option_map (λ v. v.items)) c.in-Some.is) ∙ c.in_ok-part_or.ensures.value in
    let d = ap Some c.deref.ensures.value ∙ p ∙ ap (λ zs. part_or n zs part) c.in_ok-last.ensures in
    raised_part c.self.inside.upper_closed (part_or n (map (λ m. pos m -ℤ pos 1) c.args.frame.now) part) c.deref.result.now c.in_ok-bound-in-Some.bound.items d c.in_ok-bound-in-Some.ensures.value
    ∙ ap (upper_of n c.args.frame.now) c.self.view_is
