use Rattle.std.proofs.Common.{◌∙◌, sym, subst}
use Rattle.core_ir.specs.Terms.{CoreTerm}
use Rattle.core_ir.specs.View.{core_term}
use Rattle.counted_code.specs.Outcome.{outcome_of, whole_run}
use Rattle.counted_code.specs.View.{code_program}
use Rattle.phase_loop_laws.proofs.mark_laws.Outcomes.{marking_keeps}
use Rattle.sac_ast.specs.View.{program as tree}
use Rattle.with_norm.specs.Normed.{AllNormal}
use Rattle.scalarise.specs.Scalarised.{NoneLeft}
use Rattle.wl_folding.specs.Folded.{HasNoPairs}
use Rattle.sac_build.specs.loop_turns.Steps.{Turns}
use Rattle.sac_build.proofs.Arrays.{all_full}
use Rattle.sac_build.proofs.Mains.{main_takes_forms}
use Rattle.sac_build.proofs.compiler.compile.Goals as goal

pub returns-clause-counted : goal.returns-clause-counted
returns-clause-counted c formed =
    let special = c.in_ok-special.ensures.well (c.in_ok-inlined.ensures.well (c.in_ok-core.ensures.well_formed formed)) in
    c.in_ok-code.ensures.counted (c.in_ok-counted.ensures.counted (c.in_ok-loops.ensures.well (c.in_ok-settled.ensures.well special)))

pub returns-clause-prompt : goal.returns-clause-prompt
returns-clause-prompt c formed =
    let special = c.in_ok-special.ensures.well (c.in_ok-inlined.ensures.well (c.in_ok-core.ensures.well_formed formed)) in
    c.in_ok-code.ensures.prompt (c.in_ok-counted.ensures.prompt (c.in_ok-loops.ensures.well (c.in_ok-settled.ensures.well special)))

pub returns-clause-marked : goal.returns-clause-marked
returns-clause-marked c = c.in_ok-code.ensures.well c.in_ok-counted.ensures.unmarked

pub returns-clause-candidates : goal.returns-clause-candidates
returns-clause-candidates c = c.in_ok-code.ensures.none_left c.in_ok-counted.ensures.unmarked

pub returns-clause-outcome : goal.returns-clause-outcome
returns-clause-outcome c formed args caps arrays forms =
    let well = c.in_ok-core.ensures.well_formed formed in
    let inlined = c.in_ok-inlined.ensures.well well in
    let special = c.in_ok-special.ensures.well inlined in
    let settled = c.in_ok-settled.ensures.well special in
    let counted = code_program c.in_ok-counted.counted in
    (λ i. outcome_of (whole_run (c.in_ok-code.ensures.marked i) args caps))
    ∙ marking_keeps counted (c.in_ok-counted.ensures.counted (c.in_ok-loops.ensures.well settled)) c.in_ok-counted.ensures.unmarked args (all_full args arrays) caps
    ∙ c.in_ok-counted.ensures.outcome (c.in_ok-loops.ensures.well settled) args caps
    ∙ sym (c.in_ok-loops.ensures.outcome settled args caps (all_full args arrays))
    ∙ sym (c.in_ok-settled.ensures.outcome special args caps (all_full args arrays))
    ∙ sym (c.in_ok-special.ensures.outcome inlined args caps forms)
    ∙ sym (c.in_ok-inlined.ensures.outcome well args caps) ∙ c.in_ok-core.ensures.outcome formed args caps

pub returns-clause-main : goal.returns-clause-main
returns-clause-main c formed =
    let inlined = c.in_ok-inlined.ensures.well (c.in_ok-core.ensures.well_formed formed) in
    main_takes_forms (tree c.args.checked.now.program) c.args.forms.now (core_term c.in_ok-core.core) (core_term c.in_ok-inlined.inlined) (core_term c.in_ok-special.special)
    (core_term c.in_ok-settled.settled) (core_term c.in_ok-loops.loops.core) (code_program c.in_ok-code.code) c.in_ok-core.ensures.lowered c.in_ok-inlined.ensures.outside
    (c.in_ok-special.ensures.well inlined) (c.in_ok-special.ensures.main inlined) c.in_ok-settled.ensures.outside c.in_ok-loops.ensures.outside
    (c.in_ok-code.ensures.same ∙ c.in_ok-counted.ensures.same)

pub returns-clause-normal : goal.returns-clause-normal
returns-clause-normal c formed =
    let special = c.in_ok-special.ensures.well (c.in_ok-inlined.ensures.well (c.in_ok-core.ensures.well_formed formed)) in
    subst AllNormal (sym (c.in_ok-code.ensures.same ∙ c.in_ok-counted.ensures.same)) ((c.in_ok-loops.ensures.settled (c.in_ok-settled.ensures.well special)).normal)

pub returns-clause-pairs : goal.returns-clause-pairs
returns-clause-pairs c formed =
    let special = c.in_ok-special.ensures.well (c.in_ok-inlined.ensures.well (c.in_ok-core.ensures.well_formed formed)) in
    subst HasNoPairs (sym (c.in_ok-code.ensures.same ∙ c.in_ok-counted.ensures.same)) ((c.in_ok-loops.ensures.settled (c.in_ok-settled.ensures.well special)).pairs)

pub returns-clause-nests : goal.returns-clause-nests
returns-clause-nests c formed =
    let special = c.in_ok-special.ensures.well (c.in_ok-inlined.ensures.well (c.in_ok-core.ensures.well_formed formed)) in
    subst NoneLeft (sym (c.in_ok-code.ensures.same ∙ c.in_ok-counted.ensures.same)) (c.in_ok-loops.ensures.settled (c.in_ok-settled.ensures.well special)).nests

pub returns-clause-turns : goal.returns-clause-turns
returns-clause-turns c formed =
    let well = c.in_ok-core.ensures.well_formed formed in
    let inlined = c.in_ok-inlined.ensures.well well in
    let special = c.in_ok-special.ensures.well inlined in
    let settled = c.in_ok-settled.ensures.well special in
    let came = c.in_ok-loops.ensures.turns settled in
    record {
      core = came.core;
      well = came.well;
      outcome = λ args caps arrays forms.
          sym (came.same args caps (all_full args arrays))
          ∙ sym (c.in_ok-settled.ensures.outcome special args caps (all_full args arrays))
          ∙ sym (c.in_ok-special.ensures.outcome inlined args caps forms)
          ∙ sym (c.in_ok-inlined.ensures.outcome well args caps) ∙ c.in_ok-core.ensures.outcome formed args caps;
      turns = subst (λ (core : CoreTerm). Turns c.in_ok-loops.loops.folded c.in_ok-loops.loops.scalarised came.core core) (sym (c.in_ok-code.ensures.same ∙ c.in_ok-counted.ensures.same)) came.turns;
    }
