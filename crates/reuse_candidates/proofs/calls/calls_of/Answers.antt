use Rattle.std.proofs.Common.{◌∙◌}
use Rattle.reuse_candidates.proofs.Called.{called_same, typed_same}
use Rattle.reuse_candidates.proofs.calls.calls_of.Goals as goal

pub returns-clause-shapes : goal.returns-clause-shapes
returns-clause-shapes c =
    c.in_ok-of_core.ensures ∙ called_same c.in_ok-core.core c.args.code.now c.in_ok-core.ensures.groups c.in_ok-core.ensures.results

pub returns-clause-bases : goal.returns-clause-bases
returns-clause-bases c =
    c.in_ok-of_core-2.ensures ∙ typed_same c.in_ok-core.core c.args.code.now c.in_ok-core.ensures.groups c.in_ok-core.ensures.results
