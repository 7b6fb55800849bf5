-- The parted loop in the place of a fold with-loop means the same.
use Rattle.std.specs.List.{list_any}
use Rattle.std.proofs.Common.{◌≡◌, ℕ, Bool, true, false, ◌&&◌, ◌||◌, List, [], ◌∷◌, map, length, Option, Some, None, Ok, refl, sym, ap, subst, ◌∙◌, ℤ, ◌⊎◌, inl, inr}
use Rattle.std.proofs.lemmas.Slice.Eq.{bytes_eq-Decides}
use Rattle.sac_base.specs.declared.base.Base.TheVariants.{Int}
use Rattle.sac_base.specs.declared.grid.Grid1.{Grid1}
use Rattle.sac_base.specs.declared.op.Op.{Op}
use Rattle.sac_base.specs.declared.site.Site.{Site}
use Rattle.sac_base.specs.Arrays.{ArrayValue, vector, same_form, same_base, same_shape}
use Rattle.sac_base.specs.Grids.{has_vector}
use Rattle.sac_base.specs.WithLoops.{Bounds, Generator, plan, fold_plan, index_length, holder}
use Rattle.core_ir.specs.declared.tree.Var.{Var}
use Rattle.core_ir.specs.declared.tree.CoreOp.TheVariants as making
use Rattle.core_ir.specs.declared.tree.PartedOp.TheVariants as parted
use Rattle.core_ir.specs.Terms.{BlockTerm, RightTerm, GensTerm, PartsTerm, With, NoParts, Part}
use Rattle.core_ir.specs.Meaning.{Env, Cells, CallMeaning, bind, first, one, cell_form, operation, run, right_value, generators, cells}
use Rattle.core_facts.specs.Facts.{Facts, AreSound}
use Rattle.core_facts.proofs.Settle.{has_length}
use Rattle.core_loops.specs.norm.Norm.{IsParted, Labelled, LabelFits, PartFits, held_by}
use Rattle.core_loops.proofs.norm.Cells.{parted_is_with}
use Rattle.core_loops.proofs.norm.Labels.{parts_fit, none_fits}
use Rattle.core_loops.proofs.norm.Made.{fold_made}
use Rattle.core_loops.specs.norm_steps.Fold.{FoldPartOf, FoldLabelled, FoldParted}
use Rattle.core_loops.proofs.norm_steps.Genarray.{shape_is, bounds_are, match_of, gen_is, named_cell, base_same}

-- a plan reads no cell of the neutral value
plan_neutral : (bs : List Bounds) (a c : ArrayValue) (s : Site) → a.base ≡ c.base → a.shape ≡ c.shape → fold_plan bs (index_length bs 0) a s ≡ fold_plan bs (index_length bs 0) c s
plan_neutral bs a c s p q = λ i. fold_plan bs (index_length bs 0) (record { base = p i; shape = q i; cells = [] }) s

module _ (calls : CallMeaning) (turns : ℕ) where
  fold_labelled : (e : Env) (form : ArrayValue) (n : ℕ) (gens : GensTerm) (v : List ℤ) (labels : List (List Grid1 × Option ℕ)) (parts : PartsTerm) → length v ≡ n → FoldLabelled n gens labels parts → Labelled form (generators calls turns gens e) (λ u. None) v labels (cells calls turns parts e)
  fold_labelled e form n gens v [] NoParts l h = tt
  fold_labelled e form n gens v [] (Part j b rest) l h = absurd h
  fold_labelled e form n gens v (p ∷ ps) NoParts l h = absurd h
  fold_labelled e form n gens v (p ∷ ps) (Part j b rest) l h = (h.0, fits p.1 h.1, fold_labelled e form n gens v ps rest l h.2)
    where
      fits : (label : Option ℕ) → FoldPartOf n gens label j b → LabelFits form (generators calls turns gens e) (λ u. None) v label (record { grid = j.grid; site = j.site; cell = λ index. first (run calls turns b (bind e j.index (vector Int index))) })
      fits None q = absurd q
      fits (Some m) q = λ g s.
          let is = gen_is calls turns e gens m q.0 q.1.0 g q.1.1.0 s in
          (q.1.1.1 ∙ (λ i. (sym is i).bounds.site), ap first (named_cell calls turns e n q.0 j q.1.0 b v l q.1.1.2 q.1.1.3) ∙ (λ i. (sym is i).cell v))

  same_any : (e : Env) (n : ℕ) (gens : GensTerm) (v : List ℤ) (labels : List (List Grid1 × Option ℕ)) (parts : PartsTerm) → FoldLabelled n gens labels parts → list_any (λ (c : Cells). has_vector c.grid v) (cells calls turns parts e) ≡ list_any (λ (p : List Grid1 × Option ℕ). has_vector p.0 v) labels
  same_any e n gens v [] NoParts h = refl
  same_any e n gens v [] (Part j b rest) h = absurd h
  same_any e n gens v (p ∷ ps) NoParts h = absurd h
  same_any e n gens v (p ∷ ps) (Part j b rest) h = λ i. has_vector (h.0 i) v || same_any e n gens v ps rest h.2 i

  pub fold_normal : (k : Facts) (above : ℕ) (s : Site) (o : Op) (x : Var) (gens : GensTerm) (right : RightTerm) (e : Env) → (h : FoldParted k above s o x gens right) → AreSound k e → (e x).base ≡ h.partable.base → right_value calls turns right s e ≡ right_value calls turns (With (making.Fold o x) gens) s e
  fold_normal k above s o x gens right e h sound base =
      let t = h.partable in
      let gs = generators calls turns gens e in
      let form = cell_form t.base h.cell in
      let cs = cells calls turns h.parts e in
      let op = t.known in
      let planned : plan (map (λ (g : Generator). g.bounds) gs) (operation (making.Fold o x) s e) ≡ Ok t.planned =
      (λ i. plan (bounds_are calls turns k e gens t.bounds sound t.literal i) (operation (making.Fold o x) s e))
      ∙ plan_neutral t.bounds (e x) (cell_form t.base op.0) s base (shape_is k e x op.0 sound op.1.0)
      ∙ (λ i. plan t.bounds (sym op.1.1 i)) ∙ t.valid in
      let same : same_form (e x) form ≡ true = (λ i. base_same calls turns (e x).base t.base base i && same_shape (e x).shape h.cell) ∙ (bytes_eq-Decides (e x).shape h.cell).1 (shape_is k e x h.cell sound h.known) in
      let match = match_of calls turns e t.grids t.planned.ranges gens t.ranges h.count in
      let is : IsParted gs (operation (making.Fold o x) s e) t.planned (λ v. None) t.frame t.base h.cell (parted.Fold o x) cs e = record {
        planned = planned;
        form = h.form;
        indices = t.indices;
        neutral = same;
        finished = λ os l. fold_made o x s t.planned t.frame t.base h.cell e os l;
        fitting = λ v q. elim (h.cover v q) [
          | inl y ↦ parts_fit form t.grids t.planned.ranges gs (λ u. None) v h.labels cs match h.first (fold_labelled e form (length t.frame) gens v h.labels h.parts (has_length t.frame v q) h.labelled) y
          | inr y ↦ none_fits form t.grids t.planned.ranges gs v cs match y.0 (same_any e (length t.frame) gens v h.labels h.parts h.labelled ∙ y.1)
        ];
      } in
      (λ i. right_value calls turns (h.made i) s e) ∙ ap one (parted_is_with gs (operation (making.Fold o x) s e) t.planned (λ v. None) t.frame t.base h.cell (parted.Fold o x) cs s e is)
