use Rattle.std.proofs.Common.{rules, ◌≡◌, ◌≤◌, ◌∷◌, ℕ, length, ap, subst, ◌∙◌}
use Rattle.std.specs.Prelude.{filter}
use Rattle.core_loops.specs.Pairs.{all_moved_back}
use Rattle.generator_sets.specs.Counts.{IsCanonicalCount}
use Rattle.fold_pieces.specs.Cuts.{IsUniformCut}
use Rattle.fold_pieces.specs.Pieces.{vectors, is_kept}
use Rattle.fold_pieces.proofs.Verdict.{cut_is, refuted}
use Rattle.fold_pieces.proofs.cutting.fold_pieces.Goals as goal

pub returns-clause-cut : goal.returns-clause-cut
returns-clause-cut c =
    let grid = c.args.grid.now in
    let grids = c.args.grids.now in
    let at = vectors c.args.offsets.now in
    let pieces = c.in-Some-2.pieces.items in
    let moved : c.in-Some.cutting.items ≡ grid ∷ all_moved_back at grids = search rules in
    let few : IsUniformCut c.deref.result.now c.in_ok-whole.whole pieces = search rules in
    let size : c.len-count.result ≡ length pieces = search rules in
    cut_is c.args.frame.now grid grids at c.in_ok-whole.whole pieces c.in_ok-kept.kept.items c.len-count.result (c.is_inside.ensures.0 c.if-not-is_inside.false)
    c.in_ok-whole.ensures (subst (λ gs. IsUniformCut gs c.in_ok-whole.whole pieces) (c.deref.ensures.value ∙ moved) few) size
    (c.in_ok-kept.ensures.grids ∙ ap (filter (is_kept grid grids at)) c.deref-2.ensures.value) c.in_ok-kept.ensures.holders

pub returns-in_default-2-clause-none : goal.returns-in_default-2-clause-none
returns-in_default-2-clause-none c = λ dense near cut.
    let grid = c.args.grid.now in
    let grids = c.args.grids.now in
    let at = vectors c.args.offsets.now in
    let whole = c.in_ok-whole.whole in
    let moved : c.in-Some.cutting.items ≡ grid ∷ all_moved_back at grids = search rules in
    let none : (greatest count : ℕ) → IsCanonicalCount c.deref.result.now 0 whole greatest count → greatest ≤ 4096 → count ≤ 64 → ⊥ = search rules in
    refuted c.args.frame.now grid grids at whole c.in_ok-whole.ensures
    (subst (λ gs. (greatest count : ℕ) → IsCanonicalCount gs 0 whole greatest count → greatest ≤ 4096 → count ≤ 64 → ⊥) (c.deref.ensures.value ∙ moved) none) cut
