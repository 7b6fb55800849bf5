use Rattle.std.proofs.Common.{◌≡◌, ◌∙◌, ap, sym, Some, replicate, pos}
use Rattle.std.specs.Prelude.{option_map, not}
use Rattle.sac_base.specs.WithLoops.{part_or, lower_of}
use Rattle.array_with_loops.proofs.BoundSteps.{raised_part}
use Rattle.array_with_loops.proofs.bounds.Bounds.lower_bound.Goals as goal

pub returns-in_ok-bound-in-Some-clause-value : goal.returns-in_ok-bound-in-Some-clause-value
returns-in_ok-bound-in-Some-clause-value c =
    let n = c.args.n in
    let part = c.self.inside.lower in
    let p : Some c.in-Some.lower.items ≡ part_or n c.in_ok-zeros.zeros.items part = sym (ap (option_map (λ v. v.items)) c.in-Some.is) ∙ c.in_ok-part_or.ensures.value in
    let d = ap Some c.deref.ensures.value ∙ p ∙ ap (λ zs. part_or n zs part) c.in_ok-zeros.ensures in
    raised_part (not c.self.inside.lower_closed) (part_or n (replicate n (pos 0)) part) c.deref.result.now c.in_ok-bound-in-Some.bound.items d c.in_ok-bound-in-Some.ensures.value
    ∙ ap (lower_of n) c.self.view_is
