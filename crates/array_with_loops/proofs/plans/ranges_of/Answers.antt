use Rattle.std.proofs.Common.{◌≡◌, ◌≤◌, List, [], ◌∷◌, ◌++◌, ◌∙◌, ap, sym, subst, length, All, Ok, append_assoc}
use Rattle.std.proofs.lemmas.List.{append-nil}
use Rattle.std.proofs.lemmas.List.Elements.{All-push}
use Rattle.sac_base.specs.WithLoops.{Bounds, Range, range_of}
use Rattle.array_with_loops.specs.Plans.{frame_if}
use Rattle.array_with_loops.proofs.EachSteps.{each_step, each_end}
use Rattle.array_with_loops.proofs.plans.ranges_of.Goals as goal

-- one range more stands behind those so far
one_more : (before after rest : List Range) (r : Range) → after ≡ before ++ r ∷ [] → before ++ r ∷ rest ≡ after ++ rest
one_more before after rest r e = sym (append_assoc before (r ∷ []) rest) ∙ ap (λ rs. rs ++ rest) (sym e)

pub loop-g-preserved : goal.loop-g-preserved
loop-g-preserved c =
    let k = c.loop-g.g-index in
    let r = c.in_ok-range.range in
    let before = c.loop-g.ranges.items in
    let after = c.push.new.self.items in
    let items = c.in_ok-push.ensures.items in
    let f = range_of c.args.n c.args.most (frame_if c.args.bounded c.args.frame.now) c.args.frame.now in
    record {
      told = each_step f c.args.bounds.now k c.g-item.result r (λ rest. Ok (before ++ rest)) (λ rest. Ok (after ++ rest)) _ c.loop-g-test.true (ap f (sym c.g-item.is) ∙ c.in_ok-range.ensures.told) (λ rest. ap Ok (one_more before after rest r items)) c.loop-g.invariant.told;
      ranks = subst (All (λ (r : Range). length r ≤ 8)) (sym items) (All-push (λ (r : Range). length r ≤ 8) before r c.loop-g.invariant.ranks c.in_ok-range.ensures.rank);
      lengths = subst (All (λ (r : Range). length r ≡ c.args.n)) (sym items) (All-push (λ (r : Range). length r ≡ c.args.n) before r c.loop-g.invariant.lengths c.in_ok-range.ensures.length);
    }

pub range-requires : goal.range-requires
range-requires c = c.requires

pub returns-clause-told : goal.returns-clause-told
returns-clause-told c =
    let before = c.loop-g.ranges.items in
    let f = range_of c.args.n c.args.most (frame_if c.args.bounded c.args.frame.now) c.args.frame.now in
    each_end f c.args.bounds.now c.loop-g.g-index (λ rest. Ok (before ++ rest)) _ c.loop-g-test.false c.loop-g.invariant.told ∙ ap Ok (append-nil before)

pub returns-clause-ranks : goal.returns-clause-ranks
returns-clause-ranks c = c.loop-g.invariant.ranks

pub returns-clause-lengths : goal.returns-clause-lengths
returns-clause-lengths c = c.loop-g.invariant.lengths
