use Rattle.std.proofs.Common.{get_or, ◌≡◌, ◌∙◌, ap, sym, subst, All, map}
use Rattle.std.proofs.lemmas.List.{get_or_default, take_all, take_rest}
use Rattle.std.proofs.lemmas.List.Elements.{All-more}
use Rattle.core_ir.specs.declared.tree.Block.{out-Block}
use Rattle.core_ir.specs.declared.tree.Right.TheVariants as right
use Rattle.core_ir.specs.declared.tree.Let.{Let}
use Rattle.core_ir.specs.Terms.{Gives, chain}
use Rattle.core_ir.specs.View.{let_term}
use Rattle.core_ir.proofs.Trees.{block_out}
use Rattle.merge_plans.specs.Openings.{opened}
use Rattle.merge_plans.proofs.Opens.{IsLoopless, body_found, found_none, loop_is, not_parted}
use Rattle.merge_plans.proofs.finding.nest_of.Goals as goal

pub returns-in-Parted : goal.returns-in-Parted
returns-in-Parted c =
    let ls = c.as_slice-lets.result.now in
    let l = c.index-lets-place.result in
    let same : (d : Let) → get_or ls c.loop-place.place d ≡ l = λ d. get_or_default ls c.loop-place.place d l c.loop-place-test.true ∙ sym c.index-lets-place.is in
    body_found c.args.body.now ls c.as_slice-in-Parted.result.now c.loop-place.place l (right.Parted c.in-Parted.inner) c.as_slice.result.now _ _ c.as_slice-lets.ensures.value c.as_slice-in-Parted.ensures.value
    c.loop-place-test.true c.index-lets-place.is (c.as_slice.ensures.value ∙ ap (λ (x : Let). x.targets.items) (same _)) (ap (λ (x : Let). x.site) (same _))
    (sym c.in-Parted.is ∙ ap (λ (x : Let). x.right) (sym c.index-lets-place.is)) (take_rest ls _) (loop_is c.in-Parted.inner) c.loop-place.invariant

pub loop-place-preserved : goal.loop-place-preserved
loop-place-preserved c =
    All-more IsLoopless c.as_slice-lets.result.now c.loop-place.place c.index-lets-place.result c.loop-place-test.true c.loop-place.invariant
    (subst IsLoopless c.index-lets-place.is (not_parted c.index-lets-place.result.right (λ p e. c.in_default.not-Parted p (ap (λ x. x.right) (sym c.index-lets-place.is) ∙ e))))

pub returns : goal.returns
returns c =
    let ls = c.as_slice-lets.result.now in
    sym (ap opened (block_out c.args.body.now ∙ ap (λ xs. chain (map let_term xs) (Gives (out-Block c.args.body.now).results.items)) (sym c.as_slice-lets.ensures.value)) ∙ found_none ls (out-Block c.args.body.now).results.items (subst (All IsLoopless) (take_all c.loop-place.place ls c.loop-place-test.false) c.loop-place.invariant))
