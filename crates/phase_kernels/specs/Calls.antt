-- What calls mean in the cells of a loop.
use Rattle.counted_code.specs.View.{code_program}
use Rattle.kernel_callees.specs.Calls.{calls_of}
use Rattle.kernel_code.specs.Calls.{Calls}
use Rattle.run_loops.specs.declared.state.Context.{Context}

-- calls of the functions of the code that runs, with the levels that are left
abbrev pub calls_in : Context → Calls
calls_in context = calls_of (code_program context.code.now) context.left context.nest
