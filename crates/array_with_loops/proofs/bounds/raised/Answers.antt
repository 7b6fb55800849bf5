use Rattle.std.proofs.Common.{◌∙◌, rules, get_or, pos, w32, FitsSigned, subst, sym, All, ap, ◌++◌, ◌∷◌, [], w64, to_z, of_z, ◌+ℤ◌}
use Rattle.std.proofs.lemmas.List.Elements.{All-push}
use Rattle.array_with_loops.specs.Ranges.{IsBound}
use Rattle.array_with_loops.proofs.BoundSteps.{raised_more, raised_here}
use Rattle.array_with_loops.proofs.bounds.raised.Goals as goal

pub loop-z-preserved : goal.loop-z-preserved
loop-z-preserved c =
    let zs = c.args.zs.now in
    let k = c.loop-z.z-index in
    let f : FitsSigned w32 (get_or zs k (pos 0)) = search rules in
    let here = raised_here (get_or zs k (pos 0)) c.from.result c.from-more.result c.args.raise f c.from.ensures c.from-more.ensures in
    let x = to_z w64 (of_z w64 (to_z w64 (of_z w64 c.from.result) +ℤ to_z w64 (of_z w64 c.from-more.result))) in
    record {
      value = c.in_ok-push.ensures.items ∙ ap (λ xs. xs ++ x ∷ []) c.loop-z.invariant.value ∙ raised_more c.args.raise zs k x c.loop-z-test.true here.0;
      each = subst (All IsBound) (sym c.in_ok-push.ensures.items) (All-push IsBound c.loop-z.bounds.items x c.loop-z.invariant.each here.1);
    }
