use Rattle.std.proofs.Common.{◌≡◌, All, FitsSigned, w32, get_or, pos, rules, ◌∙◌, subst, refl, sym, arith, IfOk, ◌≤ℤ◌, ◌<ℤ◌, ap, Some, map}
use Rattle.std.proofs.lemmas.List.{take_all}
use Rattle.std.proofs.lemmas.List.Elements.{All-more}
use Rattle.std.proofs.lemmas.Int.{ints}
use Rattle.sac_base.specs.Shapes.{IsExtent, AreExtents}
use Rattle.sac_base.proofs.Extents.{extent_read, same_extents, natural_from_extents, none_from_rank, none_from_negative, shape_from_extents}
use lib.IntN.{nat_abs}
use Rattle.sac_base.proofs.shape.Shape.from_extents.Goals as goal

-- the extents were all read
all_read : (c : goal.After-unwrap-extents) → AreExtents c.args.extents.now
all_read c = record {
  rank = c.if-extents-gt-MOST.false;
  each = subst (All IsExtent) (take_all c.loop-n.n-index c.args.extents.now c.loop-n-test.false) c.loop-n.invariant;
}

copied : (c : goal.After-unwrap-extents) → c.unwrap-extents.result.items ≡ c.args.extents.now
copied c = subst (λ r. IfOk r (λ v. v.items ≡ c.args.extents.now)) c.unwrap-extents.ensures c.from_slice.ensures.ok

pub loop-n-preserved : goal.loop-n-preserved
loop-n-preserved c =
    let z = get_or c.args.extents.now c.loop-n.n-index (pos 0) in
    let fits : FitsSigned w32 z = search rules in
    let natural : pos 0 ≤ℤ z = grind (arith, ints) in
    All-more IsExtent c.args.extents.now c.loop-n.n-index (pos 0) (omega arith) c.loop-n.invariant (extent_read z fits natural)

pub invariant_of-result : goal.invariant_of-result
invariant_of-result c = subst AreExtents (sym (copied c)) (all_read c)

pub returns-clause-fits : goal.returns-clause-fits
returns-clause-fits c = (λ _. natural_from_extents _ (all_read c), λ _. refl)

pub returns-clause-value : goal.returns-clause-value
returns-clause-value c = same_extents _ (subst AreExtents (sym (copied c)) (all_read c)).each ∙ copied c

pub returns-then-extents-gt-MOST-clause-exact : goal.returns-then-extents-gt-MOST-clause-exact
returns-then-extents-gt-MOST-clause-exact c = sym (none_from_rank c.args.extents.now c.if-extents-gt-MOST.true)

pub returns-then-n-lt0-clause-exact : goal.returns-then-n-lt0-clause-exact
returns-then-n-lt0-clause-exact c =
    let z = get_or c.args.extents.now c.loop-n.n-index (pos 0) in
    let fits : FitsSigned w32 z = search rules in
    let negative : z <ℤ pos 0 = grind (arith, ints) in
    sym (none_from_negative c.args.extents.now c.loop-n.n-index c.loop-n-test.true negative)

pub returns-clause-exact : goal.returns-clause-exact
returns-clause-exact c = sym (shape_from_extents c.args.extents.now (all_read c) ∙ ap (λ zs. Some (map nat_abs zs)) (sym (copied c)))
