-- One step of the walk that sets marks more.
use Rattle.std.proofs.lemmas.List.{at_drop_all}
use Rattle.std.proofs.Common.{◌≡◌, ◌≤◌, ℕ, Bool, true, false, cond, List, [], ◌∷◌, ◌++◌, length, drop, Option, Some, None, refl, sym, ap, ◌∙◌}
use Rattle.sac_base.specs.declared.site.Site.{Site}
use Rattle.core_ir.specs.declared.tree.Var.{Var}
use Rattle.counted_code.specs.declared.tree.CodeBlock.{CodeBlock}
use Rattle.counted_code.specs.declared.tree.CodeStep.{CodeStep}
use Rattle.counted_code.specs.declared.tree.CodeStep.TheVariants as step
use Rattle.counted_code.specs.Terms.{CodeTerm, CodeRightTerm, Giving, Binding, Keeping, Releasing, core_of, core_of_right}
use Rattle.counted_code.specs.View.{code_term, steps_before, step_term}
use Rattle.counted_marks.specs.Known.{Given, Known, learned}
use Rattle.counted_marks.specs.Marking.{choice, marking, marking_right, released_by, with_mark}
use Rattle.counted_laws.specs.mark_places.Places.{without_release}
use Rattle.fact_table.proofs.scoped_table.Marks.{earlier_on, none_gone}
use Rattle.reuse_candidates.specs.Scopes.{Told, mark_of, taken_back, told_block}
use Rattle.reuse_candidates.specs.declared.scope.Scope.{Scope}
use Rattle.reuse_candidates.proofs.Choices.{choice_same}
use Rattle.counted_code.proofs.Trees.{steps_append}
use Rattle.buffer_reuse.specs.Marked.{is_taken, made_with}
use Rattle.buffer_reuse.specs.declared.walk.Made.{Made}

-- ---- notes

pub scopes_on : (a b c : Scope) → taken_back (mark_of a) b ≡ a → taken_back (mark_of b) c ≡ b → taken_back (mark_of a) c ≡ a
scopes_on a b c p q =
    λ i. record {
      facts = earlier_on a.facts b.facts c.facts (ap (λ (s : Scope). s.facts) p) (ap (λ (s : Scope). s.facts) q) i;
      bases = earlier_on a.bases b.bases c.bases (ap (λ (s : Scope). s.bases) p) (ap (λ (s : Scope). s.bases) q) i;
    }

pub scope_stays : (a : Scope) → taken_back (mark_of a) a ≡ a
scope_stays a = λ i. record { facts = none_gone a.facts i; bases = none_gone a.bases i }

-- ---- releases that are left out

-- no release is waited for over a binding
over_binding : (taken : Option Var) (xs : List Var) (s : Site) (r : CodeRightTerm) (b : CodeTerm) → released_by taken (Binding xs s r b) ≡ Binding xs s r b
over_binding None xs s r b = refl
over_binding (Some v) xs s r b = refl

pub over_keep : (taken : Option Var) (x : Var) (b : CodeTerm) → released_by taken (Keeping x b) ≡ Keeping x (released_by taken b)
over_keep None x b = refl
over_keep (Some v) x b = refl

pub release_out : (taken : Option Var) (x : Var) (b : CodeTerm) → is_taken taken x ≡ true → b ≡ released_by taken (Releasing x b)
release_out None x b e = absurd (let q : ◌≡◌ {A = Bool} false true = e in cc)
release_out (Some v) x b e = λ i. cond (sym e i) b (Releasing x (without_release v b))

pub release_stays : (taken : Option Var) (x : Var) (b : CodeTerm) → is_taken taken x ≡ false → Releasing x (released_by taken b) ≡ released_by taken (Releasing x b)
release_stays None x b e = refl
release_stays (Some v) x b e = λ i. cond (sym e i) b (Releasing x (without_release v b))

-- ---- steps that are appended

pub pushed : (old new : List CodeStep) (s : CodeStep) (t : CodeTerm) → new ≡ old ++ (s ∷ []) → steps_before new t ≡ steps_before old (step_term s t)
pushed old new s t e = ap (λ (ss : List CodeStep). steps_before ss t) e ∙ steps_append old (s ∷ []) t

pub released : (old new : List CodeStep) (taken : Option Var) (x : Var) (rest : CodeTerm) → is_taken taken x ≡ false → new ≡ old ++ (step.Release x ∷ []) →
    steps_before new (released_by taken rest) ≡ steps_before old (released_by taken (Releasing x rest))
released old new taken x rest t e = pushed old new (step.Release x) (released_by taken rest) e ∙ ap (steps_before old) (release_stays taken x rest t)

module _ (g : Given) where
  pub kept : (k : Known) (old : Made) (new : List CodeStep) (x : Var) (rest : CodeTerm) → new ≡ old.steps.items ++ (step.Keep x ∷ []) →
      steps_before new (released_by old.taken (marking g rest k)) ≡ made_with g old k (Keeping x rest)
  kept k old new x rest e = pushed old.steps.items new (step.Keep x) (released_by old.taken (marking g rest k)) e ∙ ap (steps_before old.steps.items) (sym (over_keep old.taken x (marking g rest k)))

  -- a binding is made
  pub bound : (k k' : Known) (old new : Made) (xs : List Var) (s : Site) (r : CodeRightTerm) (later : List CodeStep) →
      ((rest : CodeTerm) → steps_before new.steps.items rest ≡ steps_before old.steps.items (Binding xs s (with_mark new.taken (marking_right g r k)) rest)) →
      new.taken ≡ choice g k xs r (steps_before later (Giving [])) → k' ≡ learned g k xs (core_of_right r) →
      (results : List Var) → made_with g new k' (steps_before later (Giving results)) ≡ made_with g old k (Binding xs s r (steps_before later (Giving results)))
  bound k k' old new xs s r later m c l results =
      let rest = steps_before later (Giving results) in
      let chosen : new.taken ≡ choice g k xs r rest = c ∙ choice_same [] results g k xs r later in
      m (released_by new.taken (marking g rest k'))
      ∙ (λ i. steps_before old.steps.items (Binding xs s (with_mark (chosen i) (marking_right g r k)) (released_by (chosen i) (marking g rest (l i)))))
      ∙ (λ i. steps_before old.steps.items (sym (over_binding old.taken xs s (with_mark (choice g k xs r rest) (marking_right g r k)) (released_by (choice g k xs r rest) (marking g rest (learned g k xs (core_of_right r))))) i))

  -- what a binding tells
  pub told_on : (k k' : Known) (xs : List Var) (s : Site) (r : CodeRightTerm) → k' ≡ learned g k xs (core_of_right r) → (rest : CodeTerm) → told_block g (core_of rest) k' ≡ told_block g (core_of (Binding xs s r rest)) k
  told_on k k' xs s r l rest = λ i. told_block g (core_of rest) (l i)

  -- one step of several
  pub turn : (k k' : Known) (m m' : Made) (x : CodeStep) (before later rest : List CodeStep) (results : List Var) (whole : CodeTerm) → before ≡ x ∷ later → rest ≡ later →
      made_with g m' k' (steps_before later (Giving results)) ≡ made_with g m k (step_term x (steps_before later (Giving results))) →
      made_with g m k (steps_before before (Giving results)) ≡ whole → made_with g m' k' (steps_before rest (Giving results)) ≡ whole
  turn k k' m m' x before later rest results whole b l e h =
      (λ i. made_with g m' k' (steps_before (l i) (Giving results))) ∙ e ∙ (λ i. made_with g m k (steps_before (sym b i) (Giving results))) ∙ h

  pub told_turn : (k k' : Known) (x : CodeStep) (before later rest : List CodeStep) (end : CodeTerm) (whole : Told) → before ≡ x ∷ later → rest ≡ later →
      told_block g (core_of (steps_before later end)) k' ≡ told_block g (core_of (step_term x (steps_before later end))) k →
      told_block g (core_of (steps_before before end)) k ≡ whole → told_block g (core_of (steps_before rest end)) k' ≡ whole
  told_turn k k' x before later rest end whole b l e h =
      (λ i. told_block g (core_of (steps_before (l i) end)) k') ∙ e ∙ (λ i. told_block g (core_of (steps_before (sym b i) end)) k) ∙ h

  -- the whole block
  pub block_marked : (k k' : Known) (b : CodeBlock) (made : Made) (out : List Var) (i : ℕ) →
      ((results : List Var) → made_with g made k' (steps_before (drop i b.steps.items) (Giving results)) ≡ marking g (steps_before b.steps.items (Giving results)) k) →
      length b.steps.items ≤ i → out ≡ b.results.items → steps_before made.steps.items (Giving out) ≡ marking g (code_term b) k
  block_marked k k' b made out i h over same =
      (λ j. steps_before made.steps.items (Giving (same j)))
      ∙ ap (steps_before made.steps.items) (sym (at_end made.taken b.results.items))
      ∙ sym (at_drop_all (λ ss. made_with g made k' (steps_before ss (Giving b.results.items))) b.steps.items i over)
      ∙ h b.results.items
    where
      at_end : (taken : Option Var) (xs : List Var) → released_by taken (Giving xs) ≡ Giving xs
      at_end None xs = refl
      at_end (Some v) xs = refl
