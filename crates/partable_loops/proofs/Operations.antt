-- From the frame of an operation's values to that under the facts of its variables.
use Rattle.std.proofs.Common.{◌≡◌, ◌≤◌, List, ℕ, ◌++◌, refl, sym, ap, subst, ◌∙◌, Some, Result, Ok, Err}
use Rattle.std.specs.Prelude.{unwrap_or}
use Rattle.sac_base.specs.declared.base.Base.{Base}
use Rattle.sac_base.specs.declared.op.Op.{Op}
use Rattle.sac_base.specs.declared.site.Site.{Site}
use Rattle.sac_base.specs.Arrays.{ArrayValue, size, MOST}
use Rattle.sac_base.specs.WithLoops.{Bounds, Plan, plan}
use Rattle.sac_base.specs.WithLoops
use Rattle.core_ir.specs.declared.tree.Var.{Var}
use Rattle.core_ir.specs.declared.tree.CoreOp.{CoreOp}
use Rattle.core_ir.specs.declared.tree.CoreOp.TheVariants as making
use Rattle.core_ir.specs.Meaning.{cell_form, extents}
use Rattle.core_facts.specs.Facts.{Facts}
use Rattle.partable_loops.specs.declared.framing.Framed.{Framed}
use Rattle.partable_loops.specs.declared.refusal.Unplanned.{Unplanned}
use Rattle.partable_loops.specs.declared.refusal.Unplanned.TheVariants.{NotPartable, Memory}
use Rattle.partable_loops.specs.Framings.{FramesPlan, FramesKnown, HasPlan}
use Rattle.partable_loops.specs.Refused.{Decides}
use Rattle.partable_loops.proofs.Sameness.{operation_same}

decides_more : {A : Type 0} (r : Result A Unplanned) (P R : A → Type 0) (Q S : Type 0) → ((a : A) → P a → R a) → (S → Q) → Decides r P Q → Decides r R S
decides_more (Ok a) P R Q S f g h = f a h
decides_more (Err NotPartable) P R Q S f g h = λ s. h (g s)
decides_more (Err Memory) P R Q S f g h = tt

module _ (k : Facts) (op : CoreOp) (bs : List Bounds) (r : Result Framed Unplanned) where
  -- what is decided of a with-loop's operation
  abbrev Known : CoreOp → Type 0
  Known o = Decides r (λ f. (s : Site) (base : Base) → FramesKnown k s o base bs f) (HasPlan k o bs)

  pub genarray_known : (x y : Var) (shape : ArrayValue) (cell : List ℕ) → op ≡ making.Genarray x y → (k x).literal ≡ Some shape → (k y).shape ≡ Some cell
      → Decides r (λ f. (f.cell ≡ cell) × ((s : Site) (base : Base) (x y : Var) → FramesPlan base (making.Genarray x y) bs (WithLoops.genarray shape (cell_form base cell) s) f))
      ((s : Site) × ((base : Base) × ((planned : Plan) × (plan bs (WithLoops.genarray shape (cell_form base cell) s) ≡ Ok planned))))
      → Known op
  genarray_known x y shape cell e literal known h =
      subst Known (sym e) (decides_more r
      (λ f. (f.cell ≡ cell) × ((s : Site) (base : Base) (x y : Var) → FramesPlan base (making.Genarray x y) bs (WithLoops.genarray shape (cell_form base cell) s) f))
      (λ f. (s : Site) (base : Base) → FramesKnown k s (making.Genarray x y) base bs f)
      ((s : Site) × ((base : Base) × ((planned : Plan) × (plan bs (WithLoops.genarray shape (cell_form base cell) s) ≡ Ok planned))))
      (HasPlan k (making.Genarray x y) bs)
      (λ f p s base. record {
        operation = WithLoops.genarray shape (cell_form base cell) s;
        known = (shape, (cell, (literal, known, refl)));
        frames = p.1 s base x y;
        shape = known ∙ ap (λ c. Some c) (sym p.0);
      })
      (λ q. (q.0, (q.1.0, (q.1.1.1.0, ap (plan bs) (operation_same k q.0 q.1.0 (making.Genarray x y) _ q.1.1.0 (shape, (cell, (literal, known, refl))) q.1.1.1.1.0) ∙ q.1.1.1.1.1))))
      h)

  pub modarray_known : (x : Var) (shape : List ℕ) → op ≡ making.Modarray x → (k x).shape ≡ Some shape
      → Decides r (λ f. (shape ≡ extents f.frame ++ f.cell) × ((s : Site) (base : Base) (x : Var) → FramesPlan base (making.Modarray x) bs (WithLoops.modarray (cell_form base shape) s) f))
      ((s : Site) × ((base : Base) × ((planned : Plan) × ((plan bs (WithLoops.modarray (cell_form base shape) s) ≡ Ok planned) × (size shape ≤ MOST)))))
      → Known op
  modarray_known x shape e known h =
      subst Known (sym e) (decides_more r
      (λ f. (shape ≡ extents f.frame ++ f.cell) × ((s : Site) (base : Base) (x : Var) → FramesPlan base (making.Modarray x) bs (WithLoops.modarray (cell_form base shape) s) f))
      (λ f. (s : Site) (base : Base) → FramesKnown k s (making.Modarray x) base bs f)
      ((s : Site) × ((base : Base) × ((planned : Plan) × ((plan bs (WithLoops.modarray (cell_form base shape) s) ≡ Ok planned) × (size shape ≤ MOST)))))
      (HasPlan k (making.Modarray x) bs)
      (λ f p s base. record {
        operation = WithLoops.modarray (cell_form base shape) s;
        known = (shape, (known, refl));
        frames = p.1 s base x;
        shape = known ∙ ap (λ c. Some c) (p.0 ∙ sym (p.1 s base x).whole);
      })
      (λ q. (
        q.0,
        (
          q.1.0,
          (
            q.1.1.1.0,
            (
              ap (plan bs) (operation_same k q.0 q.1.0 (making.Modarray x) _ q.1.1.0 (shape, (known, refl)) q.1.1.1.1.0) ∙ q.1.1.1.1.1,
              subst (λ m. size m ≤ MOST) (ap (λ o. unwrap_or o shape) (sym q.1.1.1.1.2.1.0 ∙ known)) q.1.1.1.1.2.1.1,
            ),
          ),
        ),
      ))
      h)

  pub fold_known : (o : Op) (x : Var) (cell : List ℕ) → op ≡ making.Fold o x → (k x).shape ≡ Some cell
      → Decides r (λ f. (f.cell ≡ cell) × ((s : Site) (base : Base) (o : Op) (x : Var) → FramesPlan base (making.Fold o x) bs (WithLoops.fold_by o (cell_form base cell) s) f))
      ((s : Site) × ((base : Base) × ((o : Op) × ((planned : Plan) × (plan bs (WithLoops.fold_by o (cell_form base cell) s) ≡ Ok planned)))))
      → Known op
  fold_known o x cell e known h =
      subst Known (sym e) (decides_more r
      (λ f. (f.cell ≡ cell) × ((s : Site) (base : Base) (o : Op) (x : Var) → FramesPlan base (making.Fold o x) bs (WithLoops.fold_by o (cell_form base cell) s) f))
      (λ f. (s : Site) (base : Base) → FramesKnown k s (making.Fold o x) base bs f)
      ((s : Site) × ((base : Base) × ((o : Op) × ((planned : Plan) × (plan bs (WithLoops.fold_by o (cell_form base cell) s) ≡ Ok planned)))))
      (HasPlan k (making.Fold o x) bs)
      (λ f p s base. record {
        operation = WithLoops.fold_by o (cell_form base cell) s;
        known = (cell, (known, refl));
        frames = p.1 s base o x;
        shape = known ∙ ap (λ c. Some c) (sym p.0);
      })
      (λ q. (q.0, (q.1.0, (o, (q.1.1.1.0, ap (plan bs) (operation_same k q.0 q.1.0 (making.Fold o x) _ q.1.1.0 (cell, (known, refl)) q.1.1.1.1.0) ∙ q.1.1.1.1.1)))))
      h)
