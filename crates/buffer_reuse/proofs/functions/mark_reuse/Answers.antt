use Rattle.std.proofs.Common.{◌≡◌, sym, subst}
use Rattle.std.specs.Prelude.{IfOk, Result, Ok, Err}
use Rattle.counted_code.specs.Counts.{IsWellCounted}
use Rattle.counted_code.specs.Prompt.{IsPrompt}
use Rattle.counted_code.specs.Terms.{CodeProgram, core_of_code}
use Rattle.counted_code.specs.View.{code_program}
use Rattle.counted_marks.specs.Marking.{marking_code}
use Rattle.counted_marks.specs.Marks.{HasNoneLeft, IsWellMarked}
use Rattle.counted_marks.proofs.Left.{code_left, code_well}
use Rattle.counted_marks.proofs.Marked.{code_marked}
use Rattle.counted_laws.proofs.mark_places.Programs.{code_core, code_counted, code_prompt}
use Rattle.buffer_reuse.proofs.functions.mark_reuse.Goals as goal

-- what holds of the program that is meant holds of the code
carried : {A E : Type 0} (view : A → CodeProgram) (p : CodeProgram) (P : CodeProgram → Type 0) (r : Result A E) → P p → IfOk r (λ a. view a ≡ p) → IfOk r (λ a. P (view a))
carried view p P (Ok a) holds e = subst P (sym e) holds
carried view p P (Err e) holds none = none

pub returns-clause-counted : goal.returns-clause-counted
returns-clause-counted c counted =
    let code = code_program c.args.code in
    carried code_program (marking_code code) IsWellCounted c.mark_code.result (code_counted code (marking_code code) (code_marked code) counted) c.mark_code.ensures

pub returns-clause-prompt : goal.returns-clause-prompt
returns-clause-prompt c prompt =
    let code = code_program c.args.code in
    carried code_program (marking_code code) IsPrompt c.mark_code.result (code_prompt code (marking_code code) (code_marked code) prompt) c.mark_code.ensures

pub returns-clause-well : goal.returns-clause-well
returns-clause-well c unmarked =
    let code = code_program c.args.code in
    carried code_program (marking_code code) IsWellMarked c.mark_code.result (code_well code unmarked) c.mark_code.ensures

pub returns-clause-none_left : goal.returns-clause-none_left
returns-clause-none_left c unmarked =
    let code = code_program c.args.code in
    carried code_program (marking_code code) HasNoneLeft c.mark_code.result (code_left code unmarked) c.mark_code.ensures

pub returns-clause-same : goal.returns-clause-same
returns-clause-same c =
    let code = code_program c.args.code in
    carried code_program (marking_code code) (λ p. core_of_code p ≡ core_of_code code) c.mark_code.result (code_core code (marking_code code) (code_marked code)) c.mark_code.ensures
