-- One loop that is merged by a plan, or that cannot be.
use Rattle.std.proofs.Common.{◌≡◌, ℕ, suc, ◌+◌, List, [], ◌∷◌, map, length, All, Option, refl, sym, ap, subst, ◌∙◌, arith, inl, inr, true, true≢false}
use Rattle.std.specs.Prelude.{Result, Ok, Err, IfOk}
use Rattle.sac_base.specs.declared.memory.Memory.{Memory}
use Rattle.sac_base.specs.declared.base.Base.{Base}
use Rattle.sac_base.specs.declared.grid.Grid1.{Grid1}
use Rattle.core_ir.specs.declared.tree.PartedLoop.{PartedLoop, PartedLoop-F, out-PartedLoop, roll-PartedLoop}
use Rattle.core_ir.specs.declared.tree.PartedOp.{PartedOp}
use Rattle.core_ir.specs.declared.tree.PartedOp.TheVariants as parted
use Rattle.core_ir.specs.declared.tree.Right.{Right}
use Rattle.core_ir.specs.declared.tree.Right.TheVariants as right
use Rattle.core_ir.specs.declared.tree.Right.TheBlock.{the_data, the_data-1, the_data-2, the_data-3, the_data-4, the_data-5, the_data-6}
use Rattle.core_ir.specs.declared.tree.Var.{Var}
use Rattle.core_ir.specs.Terms.{RightTerm, PartTerm, Bind, Plain, parts_of}
use Rattle.core_ir.specs.View.{part_term, parted_term, right_term}
use Rattle.core_ir.proofs.Trees.{parted_out, parted_roll}
use Rattle.core_facts.specs.Facts.{Facts, right_facts}
use Rattle.fact_table.specs.Table.{fact_of}
use Rattle.parted_bodies.specs.Making.{binds_of}
use Rattle.parted_bodies.specs.declared.names.Progress.{Progress}
use Rattle.merge_plans.specs.declared.planning.MergePlan.{MergePlan}
use Rattle.merge_plans.specs.Mergeable.{CanMerge, PlanOf}
use Rattle.merge_plans.specs.Openings.{is_parted}
use Rattle.merge_plans.proofs.Opens.{not_parted}
use Rattle.merged_parts.specs.Merging.{merged_all, PartFits}
use Rattle.merge_walk.proofs.planned_merges.Whole.{fits}
use Rattle.plain_facts.specs.declared.known_rights.known.KnownRight.{KnownRight}
use Rattle.merge_walk.specs.Here.{BindingMerged, IsMerged, MergedOrNot}

module _ (called : ℕ → List (Option (List ℕ))) (k : Facts) where
  plan_fits : (above : ℕ) (frame : List Grid1) (base : Base) (cell : List ℕ) (op : PartedOp) (ps : List PartTerm) (plan : MergePlan) → PlanOf called above k (RightTerm.Parted frame base cell op (parts_of ps)) plan → All PartFits ps
  plan_fits above frame base cell parted.Genarray ps plan h = fits called above k frame base cell ps h.mergeable
  plan_fits above frame base cell (parted.Modarray x) ps plan h = absurd h
  plan_fits above frame base cell (parted.Fold o x) ps plan h = absurd h

  pub loop_fits : (above : ℕ) (p : PartedLoop) (plan : MergePlan) → PlanOf called above k (parted_term p) plan → All PartFits (map part_term (out-PartedLoop p).parts.items)
  loop_fits above p plan h =
      let y = out-PartedLoop p in
      plan_fits above y.frame y.base y.cell y.op (map part_term y.parts.items) plan (subst (λ r. PlanOf called above k r plan) (parted_out p) h)

  plan_merged :
      (old new : Progress) (frame : List Grid1) (base : Base) (cell : List ℕ) (op : PartedOp) (ps : List PartTerm) (plan : MergePlan) → PlanOf called old.next k (RightTerm.Parted frame base cell op (parts_of ps)) plan →
      new.next ≡ old.next + binds_of (merged_all ps old.next) → new.replaced ≡ suc old.replaced →
      IsMerged called k old new (RightTerm.Parted frame base cell op (parts_of ps)) (RightTerm.Parted plan.frame base [] parted.Genarray (parts_of (merged_all ps old.next)))
  plan_merged old new frame base cell parted.Genarray ps plan h n c = record {
    step = λ target site rest. record {
      target = target;
      site = site;
      frame = frame;
      base = base;
      cell = cell;
      old = ps;
      rest = rest;
      mergeable = h.mergeable;
      next = n;
      before = refl;
      after = λ i. Bind (target ∷ []) site (RightTerm.Parted (h.frame_is i) base [] parted.Genarray (parts_of (merged_all ps old.next))) rest;
    };
    counted = c;
  }
  plan_merged old new frame base cell (parted.Modarray x) ps plan h n c = absurd h
  plan_merged old new frame base cell (parted.Fold o x) ps plan h n c = absurd h

  pub loop_merged :
      (old new : Progress) (p : PartedLoop) (plan : MergePlan) (x : PartedLoop-F the_data the_data-1 the_data-2 the_data-3 the_data-4 the_data-5 the_data-6) → PlanOf called old.next k (parted_term p) plan →
      new.next ≡ old.next + binds_of (merged_all (map part_term (out-PartedLoop p).parts.items) old.next) → new.replaced ≡ suc old.replaced → x.frame ≡ plan.frame → x.base ≡ (out-PartedLoop p).base → x.cell ≡ [] →
      x.op ≡ parted.Genarray → map part_term x.parts.items ≡ merged_all (map part_term (out-PartedLoop p).parts.items) old.next → MergedOrNot called k old new (parted_term p) (parted_term (roll-PartedLoop x))
  loop_merged old new p plan x h n c xf xb xc xo xp =
      let y = out-PartedLoop p in
      inl (subst (λ r. IsMerged called k old new r (parted_term (roll-PartedLoop x))) (sym (parted_out p))
      (subst (λ r. IsMerged called k old new (RightTerm.Parted y.frame y.base y.cell y.op (parts_of (map part_term y.parts.items))) r)
      (sym (parted_roll x ∙ (λ i. RightTerm.Parted (xf i) (xb i) (xc i) (xo i) (parts_of (xp i)))))
      (plan_merged old new y.frame y.base y.cell y.op (map part_term y.parts.items) plan (subst (λ r. PlanOf called old.next k r plan) (parted_out p) h) n c)))

  can_parted : (above : ℕ) (r : RightTerm) → CanMerge called above k r → is_parted r ≡ true
  can_parted above (Plain p) h = absurd h
  can_parted above (RightTerm.If x a b) h = absurd h
  can_parted above (RightTerm.Loop f st ps t b s) h = absurd h
  can_parted above (RightTerm.Call g xs) h = absurd h
  can_parted above (RightTerm.With o g) h = absurd h
  can_parted above (RightTerm.Parted f b c o p) h = refl

  -- any other right side
  pub other_kept : (p : Progress) (r : Right) → ((l : PartedLoop) → r ≡ right.Parted l → ⊥) → MergedOrNot called k p p (right_term r) (right_term r)
  other_kept p r h = inr (refl, refl, λ can. true≢false (sym (can_parted p.next (right_term r) can) ∙ not_parted r h))

  -- a loop, and what was made of it, in a right side
  pub here_end :
      (old new : Progress) (r : Right) (outer made : PartedLoop) (found : Result KnownRight Memory) → r ≡ right.Parted outer → MergedOrNot called k old new (parted_term outer) (parted_term made) →
      IfOk found (λ (n : KnownRight). right_term n.right ≡ parted_term made) → IfOk found (λ (n : KnownRight). MergedOrNot called k old new (right_term r) (right_term n.right))
  here_end old new r outer made (Ok n) is h e =
      subst (λ (t : RightTerm). MergedOrNot called k old new (right_term r) t) (sym e) (subst (λ (t : RightTerm). MergedOrNot called k old new t (parted_term made)) (sym (ap right_term is)) h)
  here_end old new r outer made (Err m) is h e = tt

  -- a binding of another number of variables, and of one
  pub many_kept : (p : Progress) (xs : List Var) (r : RightTerm) → (length xs ≡ 1 → ⊥) → BindingMerged called k p p xs r r
  many_kept p [] r h = (refl, refl)
  many_kept p (x ∷ []) r h = absurd (h refl)
  many_kept p (x ∷ y ∷ xs) r h = (refl, refl)

  one_merged : (old new : Progress) (xs : List Var) (r q : RightTerm) → length xs ≡ 1 → MergedOrNot called k old new r q → BindingMerged called k old new xs r q
  one_merged old new [] r q e h = absurd (omega (arith, e))
  one_merged old new (x ∷ []) r q e h = h
  one_merged old new (x ∷ y ∷ xs) r q e h = absurd (omega (arith, e))

  pub one_end :
      (old new : Progress) (xs : List Var) (r : RightTerm) (found : Result KnownRight Memory) → length xs ≡ 1 → IfOk found (λ (n : KnownRight). MergedOrNot called k old new r (right_term n.right)) →
      IfOk found (λ (n : KnownRight). BindingMerged called k old new xs r (right_term n.right))
  one_end old new xs r (Ok n) e h = one_merged old new xs r (right_term n.right) e h
  one_end old new xs r (Err m) e h = tt

  -- what is known of what was made is known whatever else holds
  pub since_known : (found : Result KnownRight Memory) (A : Type 0) → IfOk found (λ (n : KnownRight). map fact_of n.values.items ≡ right_facts called (right_term n.right) k) →
      IfOk found (λ (n : KnownRight). A → map fact_of n.values.items ≡ right_facts called (right_term n.right) k)
  since_known (Ok n) A h = λ a. h
  since_known (Err m) A h = tt
