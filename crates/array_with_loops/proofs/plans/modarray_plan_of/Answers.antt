use Rattle.std.proofs.Common.{◌∙◌, ◌≡◌, ◌≤◌, ◌*◌, ap, sym, length, subst, min, take, drop}
use Rattle.sac_base.specs.Arrays.{size, MOST}
use Rattle.array_with_loops.proofs.CellSteps.{length_indices, split_size}
use Rattle.array_with_loops.proofs.plans.modarray_plan_of.Goals as goal

pub returns-clause-full : goal.returns-clause-full
returns-clause-full c array same most full =
    let s = c.args.shape.now in
    let n = c.index_length-n.result in
    let shape : c.copy.result ≡ array.shape = c.copy.ensures ∙ sym same in
    let m : c.min.result ≡ min n (length s) = c.min.ensures ∙ ap (min n) c.rank-rank.ensures.value in
    let rest : c.rest.result ≡ drop (min n (length s)) s = c.rest.ensures ∙ ap (λ k. drop k s) m in
    record {
      most = subst (λ t. size t ≤ MOST) (sym shape) most;
      all = ap (λ k. k * size c.rest.result) (ap length c.in_ok-indices.ensures ∙ length_indices c.first-frame.result)
          ∙ ap (λ t. size t * size c.rest.result) c.first-frame.ensures ∙ ap (λ t. size (take n s) * size t) rest ∙ split_size s n
          ∙ ap size (sym c.copy.ensures);
      stands = full ∙ ap size (sym shape);
    }
