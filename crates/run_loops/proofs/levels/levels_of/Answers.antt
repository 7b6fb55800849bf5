use Rattle.std.proofs.Common.{ap}
use Rattle.counted_code.specs.declared.tree.Code.{Code}
use Rattle.counted_code.specs.Outcome.{call_does, deeper_does, inline_does}
use Rattle.counted_code.specs.View.{code_program}
use Rattle.run_loops.proofs.levels.levels_of.Goals as goal

pub returns-clause-calls : goal.returns-clause-calls
returns-clause-calls c =
    let a = c.args.context.now in
    ap (λ (code : Code). call_does (code_program code) (deeper_does (code_program code) a.turns a.left) (inline_does (code_program code) a.turns (deeper_does (code_program code) a.turns a.left) a.nest)) c.plain.ensures
