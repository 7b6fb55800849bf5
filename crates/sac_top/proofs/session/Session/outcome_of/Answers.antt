use Rattle.std.proofs.Common.{sym, ap, map, subst, ◌∙◌}
use Rattle.std.proofs.lemmas.Result.{IfOk-weaker}
use Rattle.sac_base.specs.Arrays.{form_of}
use Rattle.counted_code.specs.View.{code_program}
use Rattle.core_source_laws.proofs.Cores.{source_formed}
use Rattle.sac_build.specs.Loops.{CameFrom}
use Rattle.sac_build.specs.Mains.{MainTakesForms}
use Rattle.sac_top.specs.Sessions.{asked_of, program_of}
use Rattle.sac_top.proofs.Tracing.{stays, run_traced, ends_with}
use Rattle.sac_top.proofs.session.Session.outcome_of.Goals as goal

pub returns-in_err-compiled-clause-left : goal.returns-in_err-compiled-clause-left
returns-in_err-compiled-clause-left g c = stays _ c.requires.new

pub run-result-requires-clause-counted : goal.run-result-requires-clause-counted
run-result-requires-clause-counted g c κs within = c.in_ok-compiled.ensures.counted (source_formed c.requires.ready.read.0 _ c.requires.ready.read.1)

pub run-result-requires-clause-marked : goal.run-result-requires-clause-marked
run-result-requires-clause-marked g c κs within = c.in_ok-compiled.ensures.marked

pub returns-clause-outcome : goal.returns-clause-outcome
returns-clause-outcome g c =
    let formed = source_formed c.requires.ready.read.0 _ c.requires.ready.read.1 in
    let forms = ap (map form_of) (sym c.deref.ensures.value) ∙ sym c.in_ok-forms.ensures ∙ sym c.deref-2.ensures.value in
    ends_with c.outcome_told.result _ _ (c.in_ok-compiled.ensures.outcome formed _ _ c.requires.arrays forms)
    (c.outcome_told.ensures.outcome _ c.run-result.ensures.outcome)

pub returns-clause-traced : goal.returns-clause-traced
returns-clause-traced g c =
    let formed = source_formed c.requires.ready.read.0 _ c.requires.ready.read.1 in
    let forms = ap (map form_of) (sym c.deref.ensures.value) ∙ sym c.in_ok-forms.ensures ∙ sym c.deref-2.ensures.value in
    IfOk-weaker c.outcome_told.result _ _ (λ o ended. run_traced (asked_of c.args.job.now) _ _ _ c.run-result.result _ _ _ _ _ c.requires.arrays
    (record {
      counted = c.in_ok-compiled.ensures.counted formed;
      prompt = c.in_ok-compiled.ensures.prompt formed;
      marked = c.in_ok-compiled.ensures.marked;
      outcome = λ args caps arrays same. c.in_ok-compiled.ensures.outcome formed args caps arrays (same ∙ forms);
      main = subst (λ fs. MainTakesForms (program_of c.args.job.now) fs (code_program c.in_ok-compiled.compiled.code)) (sym forms) (c.in_ok-compiled.ensures.main formed);
      normal = c.in_ok-compiled.ensures.normal formed;
      pairs = c.in_ok-compiled.ensures.pairs formed;
      nests = c.in_ok-compiled.ensures.nests formed;
      candidates = c.in_ok-compiled.ensures.candidates;
    })
    c.run-result.ensures.outcome c.run-result.ensures.cost c.run-result.ensures.tally c.run-result.ensures.counters
    (subst (λ fs. CameFrom (program_of c.args.job.now) fs c.in_ok-compiled.compiled.folded c.in_ok-compiled.compiled.scalarised (code_program c.in_ok-compiled.compiled.code)) (sym forms)
    (c.in_ok-compiled.ensures.turns formed))
    ended)
    c.outcome_told.ensures.ended
