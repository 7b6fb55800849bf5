-- An inlining step keeps the outcome.
use Rattle.std.proofs.Common.{◌≡◌, ℕ, ◌<◌, List, [], ◌∷◌, Some, refl, sym, ap, subst, ◌∙◌, ◌⊎◌, inl, inr}
use Rattle.std.specs.Prelude.{slice_get, unwrap_or}
use Rattle.sac_base.specs.declared.site.Site.{Site}
use Rattle.sac_base.specs.Arrays.{ArrayValue}
use Rattle.sac_base.specs.Outcomes.{and_then}
use Rattle.core_ir.specs.Meaning.{Env, CallMeaning, bind_all, no_variables, run}
use Rattle.core_ir.specs.Outcome.{RunMeaning, param_vars, group_at, body_of, results_in, call_by, run_inline, SameOutcome}
use Rattle.core_ir.specs.Terms.{BlockTerm, FunTerm, CoreTerm, Bind, Call}
use Rattle.core_facts.specs.calls.Nests.{CallsAll, StandsIn, InlineBelow, CallsBelow, SameBodiesNested}
use Rattle.core_facts.specs.calls.Replaced.{replaced_at}
use Rattle.core_facts.proofs.calls.Nested.{outcomes_nested}
use Rattle.core_facts.proofs.calls.Replaced.{heads_kept, at_place}
use Rattle.core_forms.specs.inlining.Inlined.{inlined}
use Rattle.core_forms.specs.inlining.Step.{Nothing, InlinedHere, InlineStep}
use Rattle.core_forms.proofs.inlining.Calls.{inlined_call}
use Rattle.core_forms.proofs.inlining.Edits.{edited}

module _ (a : CoreTerm) (backward : CallsBelow a) (turns : ℕ) (outer : RunMeaning) (nest : ℕ) where
  abbrev calls : CallMeaning
  calls = call_by a outer (run_inline a turns outer nest)

  inlined_here : (k : Nothing) (b c : BlockTerm) → InlinedHere a k b c → CallsAll (InlineBelow a nest) b → run calls turns b ≡ run calls turns c
  inlined_here k b c h below =
      let lt : h.place < nest = (subst (CallsAll (InlineBelow a nest)) h.before below).0 h.place h.function (subst (λ (places : List ℕ). StandsIn places h.place) (sym h.alone) (inl refl)) h.found h.inlines in
      (λ i. run calls turns (h.before i))
      ∙ (λ i e. sym (inlined_call a turns outer backward nest h.by h.group h.place h.function h.targets h.args h.site h.rest e h.alone h.found h.inlines lt h.can) i)
      ∙ (λ i. run calls turns (sym h.after i))

pub inline_outcome : (a b : CoreTerm) → InlineStep a b → CallsBelow a → CallsBelow b → SameOutcome a b
inline_outcome a b step backward other =
    subst (SameOutcome a) (sym step.changed)
    (outcomes_nested a (record a { functions = replaced_at a.functions step.place (record step.function { body = step.body }) }) (record { groups = refl; main = refl; heads = heads_kept a.functions step.place step.function step.body step.found }) backward (subst CallsBelow step.changed other) bodies)
  where
    bodies : SameBodiesNested a (record a { functions = replaced_at a.functions step.place (record step.function { body = step.body }) })
    bodies turns outer nest place g args site e nested = go (at_place a.functions step.place place step.function (record step.function { body = step.body }) step.found)
      where
        go : (slice_get a.functions place ≡ slice_get (replaced_at a.functions step.place (record step.function { body = step.body })) place) ⊎ ((slice_get a.functions place ≡ Some step.function) × (slice_get (replaced_at a.functions step.place (record step.function { body = step.body })) place ≡ Some (record step.function { body = step.body })))
            → body_of turns (call_by a outer (run_inline a turns outer nest)) (slice_get a.functions place) args site ≡ body_of turns (call_by a outer (run_inline a turns outer nest)) (slice_get (replaced_at a.functions step.place (record step.function { body = step.body })) place) args site
        go (inl y) = λ i. body_of turns (call_by a outer (run_inline a turns outer nest)) (y i) args site
        go (inr y) =
            let own : g ≡ step.function = ap (λ o. unwrap_or o g) (sym e ∙ y.0) in
            let own_calls : CallsAll (InlineBelow a nest) step.function.body = subst (λ (h : FunTerm). CallsAll (InlineBelow a nest) h.body) own nested in
            let same = edited (call_by a outer (run_inline a turns outer nest)) turns (InlineBelow a nest) (InlinedHere a) (λ k b c h below. inlined_here a backward turns outer nest k b c h below) step.edited own_calls in
            (λ i. body_of turns (call_by a outer (run_inline a turns outer nest)) (y.0 i) args site)
            ∙ (λ i. and_then (same i (bind_all no_variables (param_vars step.function) args)) (results_in step.function.results step.function.ends))
            ∙ sym (λ i. body_of turns (call_by a outer (run_inline a turns outer nest)) (y.1 i) args site)
