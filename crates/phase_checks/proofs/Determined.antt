-- Steps of the walk: with what a step needs in front of a rest, and nothing else, the two are well counted.
use Rattle.std.proofs.Common.{◌≡◌, ℕ, zero, suc, ◌+◌, ◌-◌, ◌<◌, ◌≤◌, Bool, true, false, List, [], ◌∷◌, ◌++◌, length, drop, get_or, Option, Some, None, Vec, Global, refl, ◌∙◌, sym, subst, arith}
use Rattle.std.specs.Prelude.{IsTrue, IsSomeAnd}
use Rattle.std.proofs.lemmas.List.{drop_more, drop_all}
use Rattle.core_ir.specs.declared.tree.Var.{Var}
use Rattle.core_ir.specs.Binders.{is_in, NoneIn}
use Rattle.core_ir.specs.WellFormed.{Distinct}
use Rattle.counted_code.specs.declared.tree.CodeLet.{CodeLet}
use Rattle.counted_code.specs.declared.tree.CodeStep.{CodeStep}
use Rattle.counted_code.specs.declared.tree.CodeStep.TheVariants as step
use Rattle.counted_code.specs.Counts.{Reordered, stays, through, CountedRight}
use Rattle.counted_code.specs.Terms.{CodeTerm, CodeRightTerm, Giving, PlainCode, IfCode, LoopCode, CallCode, WithCode, PartedCode}
use Rattle.counted_code.specs.View.{code_right_term, step_term, steps_before}
use Rattle.counted_laws.specs.placing.Placing.{without}
use Rattle.counted_laws.proofs.placing.Lists.{here}
use Rattle.counted_laws.proofs.placing.Orders.{turned, behind, reversed, reordered_in}
use Rattle.phase_checks.proofs.Orders.{front_gone, in_order, opposite, same_before, none_in_same}
use Rattle.phase_checks.proofs.Scopes.{same_scope_right}
use Rattle.phase_checks.proofs.Taken.{one_taken}
use Rattle.phase_checks.specs.Walks.{IsCounted, IsCountedRight, IsCountedOnlyWith, Determines}

-- what the references after the targets say of those that are left when the targets' are taken
abbrev pub Takes : (after xs mid : List Var) → Bool → Type 0
Takes after xs mid taken = (rest : List Var) → Reordered after (xs ++ rest) → IsTrue taken × Reordered rest mid

module _ (results_of : ℕ → ℕ) where
  -- ---- steps that keep and release

  pub keep_lost : (outer before after : List Var) (x : Var) → is_in x after ≡ false → Determines results_of outer before (step.Keep x) after false
  keep_lost outer before after x lost n rest own only c =
      absurd (opposite (reordered_in (only (x ∷ own) (c.0.1, c.1)) x (here x own)) lost)

  pub keep_determines : (outer before after : List Var) (x : Var) (answer : Bool) → is_in x after ≡ true → before ≡ without x after → answer ≡ is_in x (before ++ outer) → Determines results_of outer before (step.Keep x) after answer
  keep_determines outer before after x answer there e is n rest own only c =
      let order = front_gone x own before (through (only (x ∷ own) (c.0.1, c.1)) (one_taken x after before there e)) in
      (is ∙ sym ((same_before outer (in_order own before order)).at x) ∙ c.0.0, order)

  pub release_determines : (outer before after : List Var) (x : Var) → before ≡ after ++ (x ∷ []) → Determines results_of outer before (step.Release x) after true
  release_determines outer before after x e n rest own only c =
      (refl, subst (λ l. Reordered own l) (sym e) (through c.0.1 (through (stays (only c.0.0 (c.0.2, c.1))) (turned (x ∷ []) after))))

  -- ---- bindings

  -- the rest of the references and the outer variables as one scope
  over : (r : CodeRightTerm) (n : ℕ) (outer mine after : List Var) → CountedRight results_of n outer mine after r → CountedRight results_of n (after ++ outer) mine [] r
  over (PlainCode p) n outer mine after c = c
  over (IfCode x a b) n outer mine after c = c
  over (LoopCode first start params test body s) n outer mine after c = c
  over (CallCode g xs) n outer mine after c = c
  over (WithCode op gens) n outer mine after c = c
  over (PartedCode f b x op parts reuse) n outer mine after c = c

  -- a binding that is well counted, where `mid` are the references that are neither its right side's nor its targets'
  record Bound (l : CodeLet) (outer mid own : List Var) : Type 0 where
    pub mine : List Var
    pub order : Reordered own (mid ++ mine)
    pub distinct : Distinct l.targets.items
    pub new : NoneIn l.targets.items (mid ++ outer)
    pub right : IsCountedRight results_of (length l.targets.items) (mid ++ outer) mine (code_right_term l.right)

  bound : (l : CodeLet) (outer mid after : List Var) (taken : Bool) → Takes after l.targets.items mid taken → (n : ℕ) (rest : CodeTerm) (own : List Var) → IsCountedOnlyWith results_of n outer after rest → IsCounted results_of n outer own (step_term (step.Bind l) rest) → IsTrue taken × Bound l outer mid own
  bound l outer mid after taken takes n rest own only c =
      let xs = l.targets.items in
      let r = code_right_term l.right in
      let left = takes c.0.1 (reversed (only (xs ++ c.0.1) (c.0.6, c.1.1))) in
      let scope = same_before outer (in_order c.0.1 mid left.1) in (
        left.0,
        record {
          mine = c.0.0;
          order = through c.0.2 (through (behind c.0.0 left.1) (turned c.0.0 mid));
          distinct = c.0.4;
          new = none_in_same xs scope c.0.5;
          right = (same_scope_right results_of r (length xs) (c.0.1 ++ outer) (mid ++ outer) c.0.0 [] scope (over r (length xs) outer c.0.0 c.0.1 c.0.3), c.1.0);
        },
      )

  pub targets_lost : (l : CodeLet) (outer before mid after : List Var) (taken : Bool) → Takes after l.targets.items mid taken → taken ≡ false → Determines results_of outer before (step.Bind l) after false
  targets_lost l outer before mid after taken takes lost n rest own only c =
      absurd (opposite (bound l outer mid after taken takes n rest own only c).0 lost)

  pub targets_old : (l : CodeLet) (outer before mid after scope : List Var) (taken new : Bool) → Takes after l.targets.items mid taken → scope ≡ mid ++ outer → (Distinct l.targets.items → NoneIn l.targets.items scope → IsTrue new) → new ≡ false → Determines results_of outer before (step.Bind l) after false
  targets_old l outer before mid after scope taken new takes s tells old n rest own only c =
      let b = (bound l outer mid after taken takes n rest own only c).1 in
      absurd (opposite (tells b.distinct (subst (λ scope. NoneIn l.targets.items scope) (sym s) b.new)) old)

  -- what is told of the references of a right side
  abbrev pub Tells : (n : ℕ) (scope : List Var) → CodeRightTerm → Option (Vec Var Global) → Type 0
  Tells n scope r found = (own : List Var) → IsCountedRight results_of n scope own r → IsSomeAnd found (λ mine. Reordered own mine.items)

  told : (l : CodeLet) (outer mid own scope : List Var) (found : Option (Vec Var Global)) → scope ≡ mid ++ outer → Tells (length l.targets.items) scope (code_right_term l.right) found → (b : Bound l outer mid own) → IsSomeAnd found (λ mine. Reordered b.mine mine.items)
  told l outer mid own scope found s tells b =
      tells b.mine (subst (λ scope. IsCountedRight results_of (length l.targets.items) scope b.mine (code_right_term l.right)) (sym s) b.right)

  pub right_lost : (l : CodeLet) (outer before mid after scope : List Var) (taken : Bool) → Takes after l.targets.items mid taken → scope ≡ mid ++ outer → Tells (length l.targets.items) scope (code_right_term l.right) None → Determines results_of outer before (step.Bind l) after false
  right_lost l outer before mid after scope taken takes s tells n rest own only c =
      absurd (told l outer mid own scope None s tells (bound l outer mid after taken takes n rest own only c).1)

  pub binding_determines : (l : CodeLet) (outer before mid after scope : List Var) (taken : Bool) (mine : Vec Var Global) → Takes after l.targets.items mid taken → scope ≡ mid ++ outer → Tells (length l.targets.items) scope (code_right_term l.right) (Some mine) → before ≡ mid ++ mine.items → Determines results_of outer before (step.Bind l) after true
  binding_determines l outer before mid after scope taken mine takes s tells e n rest own only c =
      let b = (bound l outer mid after taken takes n rest own only c).1 in
      (refl, subst (λ l. Reordered own l) (sym e) (through b.order (behind mid (told l outer mid own scope (Some mine) s tells b))))

  -- ---- blocks

  -- what follows a step
  next : (s : CodeStep) (t : CodeTerm) (n : ℕ) (outer own : List Var) → IsCounted results_of n outer own (step_term s t) → (behind : List Var) × IsCounted results_of n outer behind t
  next (step.Bind' targets site r) t n outer own c = (targets.items ++ c.0.1, (c.0.6, c.1.1))
  next (step.Keep x) t n outer own c = (x ∷ own, (c.0.1, c.1))
  next (step.Release x) t n outer own c = (c.0.0, (c.0.2, c.1))

  -- what follows some steps of a block
  later : (k : ℕ) (steps : List CodeStep) (t : CodeTerm) (n : ℕ) (outer own : List Var) → IsCounted results_of n outer own (steps_before steps t) → (behind : List Var) × IsCounted results_of n outer behind (steps_before (drop k steps) t)
  later zero steps t n outer own c = (own, c)
  later (suc k) [] t n outer own c = (own, c)
  later (suc k) (s ∷ ss) t n outer own c =
      let i = next s (steps_before ss t) n outer own c in
      later k ss t n outer i.0 i.1

  pub results_size : (n : ℕ) (outer own results : List Var) (steps : List CodeStep) → IsCounted results_of n outer own (steps_before steps (Giving results)) → length results ≡ n
  results_size n outer own results steps c =
      let i = later (length steps) steps (Giving results) n outer own c in
      (subst (λ ss. IsCounted results_of n outer i.0 (steps_before ss (Giving results))) (drop_all (length steps) steps (omega arith)) i.1).0.0

  pub only_at_the_end : (n : ℕ) (outer refs results : List Var) (steps : List CodeStep) (k : ℕ) → refs ≡ results → drop k steps ≡ [] → IsCountedOnlyWith results_of n outer refs (steps_before (drop k steps) (Giving results))
  only_at_the_end n outer refs results steps k e none own c =
      subst (λ l. Reordered own l) (sym e) (subst (λ ss. IsCounted results_of n outer own (steps_before ss (Giving results))) none c).0.1

  -- the step in front of the last ones
  one_more : (s d : CodeStep) (steps : List CodeStep) (k : ℕ) → 0 < k → k ≤ length steps → s ≡ get_or steps (k - 1) d → drop (k - 1) steps ≡ s ∷ drop k steps
  one_more s d steps k some within e =
      let whole : (k - 1) + 1 ≡ k = omega (arith, some) in
      drop_more steps (k - 1) d (omega (arith, some, within)) ∙ (λ i. sym e i ∷ drop (whole i) steps)

  pub only_one_back : (n : ℕ) (outer before after results : List Var) (s d : CodeStep) (steps : List CodeStep) (k : ℕ) (answer : Bool) → 0 < k → k ≤ length steps → s ≡ get_or steps (k - 1) d → Determines results_of outer before s after answer → IsCountedOnlyWith results_of n outer after (steps_before (drop k steps) (Giving results)) → IsCountedOnlyWith results_of n outer before (steps_before (drop (k - 1) steps) (Giving results))
  only_one_back n outer before after results s d steps k answer some within e determines only own c =
      (determines n (steps_before (drop k steps) (Giving results)) own only (subst (λ ss. IsCounted results_of n outer own (steps_before ss (Giving results))) (one_more s d steps k some within e) c)).1

  pub none_back : (n : ℕ) (outer before after results : List Var) (s d : CodeStep) (steps : List CodeStep) (k : ℕ) (answer : Bool) → 0 < k → k ≤ length steps → s ≡ get_or steps (k - 1) d → Determines results_of outer before s after answer → answer ≡ false → IsCountedOnlyWith results_of n outer after (steps_before (drop k steps) (Giving results)) → (own : List Var) → IsCounted results_of n outer own (steps_before steps (Giving results)) → ⊥
  none_back n outer before after results s d steps k answer some within e determines lost only own c =
      let i = later (k - 1) steps (Giving results) n outer own c in
      opposite (determines n (steps_before (drop k steps) (Giving results)) i.0 only (subst (λ ss. IsCounted results_of n outer i.0 (steps_before ss (Giving results))) (one_more s d steps k some within e) i.1)).0 lost

  pub only_at_the_start : (n : ℕ) (outer refs results : List Var) (steps : List CodeStep) (k : ℕ) → k ≤ 0 → IsCountedOnlyWith results_of n outer refs (steps_before (drop k steps) (Giving results)) → IsCountedOnlyWith results_of n outer refs (steps_before steps (Giving results))
  only_at_the_start n outer refs results steps k past only =
      let start : k ≡ 0 = omega (arith, past) in
      subst (λ k. IsCountedOnlyWith results_of n outer refs (steps_before (drop k steps) (Giving results))) start only
