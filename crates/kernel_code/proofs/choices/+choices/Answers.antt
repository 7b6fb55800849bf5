use Rattle.std.proofs.Common.{rules, ◌≡◌, Some, None, slice_get, sym, ◌∙◌}
use Rattle.kernel_tree.specs.View.{kernel_term}
use Rattle.kernel_code.specs.Choices.{fetches}
use Rattle.kernel_code.proofs.Chosen.{chosen_next, chosen_none}
use Rattle.kernel_code.proofs.choices.+choices.Goals as goal

pub returns-in_default : goal.returns-in_default
returns-in_default t c =
    let a = c.args in
    let none : slice_get (fetches a.to a.array) a.k ≡ None = search rules in
    chosen_none (fetches a.to a.array) a.k a.index a.to a.site (kernel_term c.in_ok-block.block) none c.in_ok-block.ensures

pub returns-in_ok-block-in-Some-2 : goal.returns-in_ok-block-in-Some-2
returns-in_ok-block-in-Some-2 t c =
    let a = c.args in
    let is : slice_get (fetches a.to a.array) a.k ≡ Some c.in-Some.step = sym c.fetch.ensures ∙ c.in-Some.is in
    let rest = rw c.in-Some-2.is at c.in_ok-others.ensures in
    chosen_next (fetches a.to a.array) a.k a.index a.to a.site c.in-Some.step (kernel_term c.in-Some-2.others) (kernel_term c.in_ok-block-in-Some-2.block) is rest c.in_ok-block-in-Some-2.ensures
