use Rattle.std.proofs.Common.{◌≡◌, ◌∙◌, ℕ, ℤ, List, length, take, take_all, ap, subst, arith}
use Rattle.kernel_tree.specs.declared.tree.Held.TheVariants.{Numbers}
use Rattle.run_kernels.proofs.scope.numbers_of.Goals as goal

pub returns : goal.returns
returns c =
    let list = c.as_slice-list.result.now in
    let cells = c.loop-k.cells in
    let over : c.loop-k.k ≡ length list = omega (arith, c.loop-k-test.false, c.loop-k.auto.k-end) in
    let same : take (length list) cells ≡ list =
    subst (λ (k : ℕ). take k cells ≡ take k list) over c.loop-k.invariant.same ∙ take_all (length list) list (omega arith) in
    (cells, ap (λ (xs : List ℤ). Numbers c.args.base cells (length xs)) c.as_slice-list.ensures.numbers, subst (λ (xs : List ℤ). take (length xs) cells ≡ xs) c.as_slice-list.ensures.numbers same)
