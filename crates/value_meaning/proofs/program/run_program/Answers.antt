use Rattle.std.proofs.Common.{ap, sym, ◌∙◌, subst}
use Rattle.sac_ast.specs.View.{functions}
use Rattle.sac_ast.specs.Bases.{base_in}
use Rattle.source_meaning.specs.Calls.{main_of, outcome_of}
use Rattle.value_meaning.specs.Evaluation.{main_at}
use Rattle.array_ops.specs.Tells.{TellsItems}
use Rattle.value_meaning.proofs.program.run_program.Goals as goal

pub returns-in-Some : goal.returns-in-Some
returns-in-Some c =
    let items = c.args.checked.now.functions.items in
    let end = c.args.checked.now.end in
    let args = c.args.args.now in
    let place = sym c.main_place.ensures.told ∙ c.in-Some.is in
    let whole = ap (λ p. outcome_of (functions items) (base_in (functions items)) c.args.caps args end (main_of (functions items) p)) place in
    let same = ap (λ fs. main_at fs c.in-Some.place args c.args.caps end) c.as_slice-functions.ensures.value in
    subst (λ m. TellsItems c.run_main.result m) (same ∙ sym whole) (c.run_main.ensures end)
