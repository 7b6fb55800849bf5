use Rattle.std.proofs.Common.{◌++◌, All, ap, subst, ◌∙◌}
use Rattle.core_ir.specs.View.{block_term}
use Rattle.core_ir.specs.WellFormed.{calls_in}
use Rattle.unreached_functions.specs.Closed.{IsMarked}
use Rattle.unreached_functions.proofs.Called.{calls_all}
use Rattle.unreached_functions.proofs.marking.calls_marked.Goals as goal

pub returns : goal.returns
returns c yes_all =
    let called = calls_in (block_term c.args.body.now) in
    calls_all (IsMarked c.args.groups.now) (block_term c.args.body.now)
    (subst (All (IsMarked c.args.groups.now)) (c.deref.ensures.value ∙ c.in_ok-add_calls.ensures ∙ ap (λ l. l ++ called) c.new-calls.ensures.items) (c.are_marked.ensures yes_all))
