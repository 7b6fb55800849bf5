use Rattle.buffer_reuse.proofs.MarkFunctions.{begins, function_marked}
use Rattle.reuse_candidates.specs.Calls.{given_by}
use Rattle.reuse_candidates.specs.Scopes.{known_in}
use Rattle.buffer_reuse.proofs.functions.mark_function.Goals as goal

pub returns : goal.returns
returns c =
    function_marked (given_by c.args.calls.now) c.args.function _ c.in_ok-marked.marked.block
    (begins c.args.function c.deref.result.now (known_in c.new-scope.result) _ c.deref.ensures.value c.new-scope.ensures.facts c.new-scope.ensures.bases c.in_ok-enter_function.ensures.facts c.in_ok-enter_function.ensures.bases)
    c.in_ok-marked.ensures.marked
