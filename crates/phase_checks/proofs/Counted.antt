-- Steps of the walk: what is well counted behind them is well counted with them.
use Rattle.std.proofs.Common.{◌≡◌, ℕ, ◌+◌, ◌<◌, ◌≤◌, true, List, [], ◌∷◌, ◌++◌, length, drop, get_or, ◌-◌, arith, ◌∙◌, sym, subst, inl, inr}
use Rattle.std.proofs.lemmas.List.{drop_more}
use Rattle.core_ir.specs.declared.tree.Var.{Var}
use Rattle.core_ir.specs.Binders.{is_in, NoneIn}
use Rattle.core_ir.specs.WellFormed.{Distinct}
use Rattle.counted_code.specs.declared.tree.CodeLet.{CodeLet}
use Rattle.counted_code.specs.declared.tree.CodeStep.{CodeStep}
use Rattle.counted_code.specs.declared.tree.CodeStep.TheVariants as step
use Rattle.counted_code.specs.Counts.{Reordered, stays, through, Counted, CountedRight}
use Rattle.counted_code.specs.Terms.{CodeTerm, CodeRightTerm, Giving, Binding, Keeping, Releasing, PlainCode, IfCode, LoopCode, CallCode, WithCode, PartedCode}
use Rattle.counted_code.specs.View.{code_right_term, steps_before}
use Rattle.counted_laws.proofs.placing.Lists.{in_front, in_back, in_either}
use Rattle.counted_laws.proofs.placing.Orders.{same_order, turned, reversed, reordered_in}
use Rattle.phase_checks.specs.Walks.{IsCounted, IsCountedRight, Leads}

module _ (results_of : ℕ → ℕ) where
  -- in any order of the references
  pub in_any_order : (t : CodeTerm) (n : ℕ) (outer refs others : List Var) → Reordered refs others → Counted results_of n outer others t → Counted results_of n outer refs t
  in_any_order (Giving xs) n outer refs others o c = (c.0, through o c.1)
  in_any_order (Binding xs s r b) n outer refs others o c = (c.0, c.1, through o c.2, c.3, c.4, c.5, c.6)
  in_any_order (Keeping x b) n outer refs others o c = (
    elim (in_either x others outer c.0) [ inl p ↦ in_front x refs outer (reordered_in (reversed o) x p) | inr p ↦ in_back x refs outer p ],
    in_any_order b n outer (x ∷ refs) (x ∷ others) (stays o) c.1,
  )
  in_any_order (Releasing x b) n outer refs others o c = (c.0, through o c.1, c.2)

  -- the rest of the references and the outer variables are one scope
  under : (r : CodeRightTerm) (n : ℕ) (outer mine after : List Var) → CountedRight results_of n (after ++ outer) mine [] r → CountedRight results_of n outer mine after r
  under (PlainCode p) n outer mine after c = c
  under (IfCode x a b) n outer mine after c = c
  under (LoopCode first start params test body s) n outer mine after c = c
  under (CallCode g xs) n outer mine after c = c
  under (WithCode op gens) n outer mine after c = c
  under (PartedCode f b x op parts reuse) n outer mine after c = c

  pub keep_leads : (outer before after : List Var) (x : Var) → Reordered after (x ∷ before) → is_in x (before ++ outer) ≡ true → Leads results_of outer before (step.Keep x) after
  keep_leads outer before after x o there n rest c =
      ((there, in_any_order rest n outer (x ∷ before) after (reversed o) c.0), c.1)

  pub release_leads : (outer before after : List Var) (x : Var) → before ≡ after ++ (x ∷ []) → Leads results_of outer before (step.Release x) after
  release_leads outer before after x e n rest c =
      ((after, subst (λ l. Reordered l (x ∷ after)) (sym e) (turned after (x ∷ [])), c.0), c.1)

  pub binding_leads : (l : CodeLet) (outer before mid after scope mine : List Var) → Reordered after (l.targets.items ++ mid) → scope ≡ mid ++ outer → Distinct l.targets.items → NoneIn l.targets.items scope → IsCountedRight results_of (length l.targets.items) scope mine (code_right_term l.right) → before ≡ mid ++ mine → Leads results_of outer before (step.Bind l) after
  binding_leads l outer before mid after scope mine o s d none c e n rest behind =
      let xs = l.targets.items in
      let r = code_right_term l.right in
      let right = subst (λ scope. IsCountedRight results_of (length xs) scope mine r) s c in (
        (
          mine,
          mid,
          subst (λ refs. Reordered refs (mine ++ mid)) (sym e) (turned mid mine),
          under r (length xs) outer mine mid right.0,
          d,
          subst (λ scope. NoneIn xs scope) s none,
          in_any_order rest n outer (xs ++ mid) after (reversed o) behind.0,
        ),
        (right.1, behind.1),
      )

  -- ---- blocks

  pub at_the_end : (n : ℕ) (outer refs results : List Var) (steps : List CodeStep) (k : ℕ) → length results ≡ n → refs ≡ results → drop k steps ≡ [] → IsCounted results_of n outer refs (steps_before (drop k steps) (Giving results))
  at_the_end n outer refs results steps k size e none =
      subst (λ ss. IsCounted results_of n outer refs (steps_before ss (Giving results))) (sym none) ((size, subst (λ l. Reordered l results) (sym e) (same_order results)), tt)

  pub one_back : (n : ℕ) (outer before after results : List Var) (s d : CodeStep) (steps : List CodeStep) (k : ℕ) → 0 < k → k ≤ length steps → s ≡ get_or steps (k - 1) d → Leads results_of outer before s after → IsCounted results_of n outer after (steps_before (drop k steps) (Giving results)) → IsCounted results_of n outer before (steps_before (drop (k - 1) steps) (Giving results))
  one_back n outer before after results s d steps k some within e leads c =
      let whole : (k - 1) + 1 ≡ k = omega (arith, some) in
      let here : drop (k - 1) steps ≡ s ∷ drop k steps = drop_more steps (k - 1) d (omega (arith, some, within)) ∙ (λ i. sym e i ∷ drop (whole i) steps) in
      subst (λ ss. IsCounted results_of n outer before (steps_before ss (Giving results))) (sym here) (leads n (steps_before (drop k steps) (Giving results)) c)
