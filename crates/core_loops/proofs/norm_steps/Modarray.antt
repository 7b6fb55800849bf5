-- The parted loop in the place of a modarray with-loop means the same.
use Rattle.std.proofs.Common.{◌≡◌, ℕ, Bool, true, false, ◌&&◌, cond, eqb, List, [], ◌∷◌, ◌++◌, map, length, Option, Some, None, Result, Ok, Err, refl, sym, ap, subst, ◌∙◌, ℤ}
use Rattle.std.proofs.lemmas.Bool.{eq-eqb}
use Rattle.std.proofs.lemmas.Slice.Eq.{bytes_eq-Decides}
use Rattle.sac_base.specs.declared.base.Base.TheVariants.{Int}
use Rattle.sac_base.specs.declared.grid.Grid1.{Grid1}
use Rattle.sac_base.specs.declared.site.Site.{Site}
use Rattle.sac_base.specs.Arrays.{ArrayValue, vector, same_form, same_base, same_shape}
use Rattle.sac_base.specs.Grids.{has_vector}
use Rattle.sac_base.specs.Outcomes.{and_then, at_site}
use Rattle.sac_base.specs.Parts.{Part as ArrayPart, part_at, select, selected, cells_at}
use Rattle.sac_base.specs.WithLoops.{Bounds, Generator, Plan, plan, modarray_plan, index_length, cells_of_part}
use Rattle.core_ir.specs.declared.tree.Var.{Var}
use Rattle.core_ir.specs.declared.tree.CoreOp.TheVariants as making
use Rattle.core_ir.specs.declared.tree.PartedOp.TheVariants as parted
use Rattle.core_ir.specs.Terms.{BlockTerm, RightTerm, GensTerm, PartsTerm, With, NoParts, Part}
use Rattle.core_ir.specs.Meaning.{Env, CallMeaning, bind, bind_all, first, one, cell_form, operation, run, right_value, generators, cells}
use Rattle.core_facts.specs.Facts.{Facts, AreSound}
use Rattle.core_facts.proofs.Settle.{has_length}
use Rattle.core_loops.specs.norm.Norm.{IsParted, Labelled, LabelFits}
use Rattle.core_loops.proofs.norm.Cells.{parted_is_with}
use Rattle.core_loops.proofs.norm.Labels.{parts_fit}
use Rattle.core_loops.proofs.norm.Made.{modarray_made, old_cell}
use Rattle.core_loops.specs.norm_steps.Genarray.{GenAt}
use Rattle.core_loops.specs.norm_steps.Modarray.{OldPartOf, OldLabelled, ModarrayParted}
use Rattle.core_loops.proofs.norm_steps.Genarray.{shape_is, bounds_are, match_of, gen_is, named_cell, base_same}

-- a plan reads no cell of the array
plan_array : (bs : List Bounds) (a c : ArrayValue) (s : Site) → a.base ≡ c.base → a.shape ≡ c.shape → modarray_plan bs (index_length bs (length a.shape)) a s ≡ modarray_plan bs (index_length bs (length c.shape)) c s
plan_array bs a c s p q = λ i. modarray_plan bs (index_length bs (length (q i))) (record { base = p i; shape = q i; cells = [] }) s

module _ (calls : CallMeaning) (turns : ℕ) where
  old_value : (e : Env) (x i z : Var) (s : Site) (v shape : _) (cell : List ℕ) (q : ArrayPart) → eqb i.0 x.0 ≡ false → (e x).shape ≡ shape → part_at shape v ≡ Some q → q.shape ≡ cell
      → first (run calls turns (BlockTerm.Bind (z ∷ []) s (RightTerm.Plain (Rattle.core_ir.specs.Terms.PlainTerm.Select x i)) (BlockTerm.Gives (z ∷ []))) (bind e i (vector Int v))) ≡ Ok (old_cell (e x) cell v)
  old_value e x i z s v shape cell q n sh at c =
      let a = e x in
      let there : part_at a.shape v ≡ Some q = ap (λ t. part_at t v) sh ∙ at in
      let w : ArrayValue = record { base = a.base; shape = cell; cells = cells_of_part a (part_at a.shape v) } in
      let value : select (cond (eqb i.0 x.0) (vector Int v) a) (cond (eqb i.0 i.0) (vector Int v) (e i)) ≡ Ok w =
      (λ j. select (cond (n j) (vector Int v) a) (cond (eq-eqb i.0 i.0 refl j) (vector Int v) (e i)))
      ∙ (λ j. selected a (there j))
      ∙ (λ j. Ok (record { base = a.base; shape = c j; cells = cells_of_part a (sym there j) })) in
      (λ j. first (and_then (one (at_site s (value j))) (λ vs. run calls turns (BlockTerm.Gives (z ∷ [])) (bind_all (bind e i (vector Int v)) (z ∷ []) vs))))
      ∙ (λ j. Ok (cond (eq-eqb z.0 z.0 refl j) w (bind e i (vector Int v) z)))

  old_labelled : (e : Env) (form : ArrayValue) (array : Var) (n : ℕ) (shape cell : List ℕ) (gens : GensTerm) (v : List ℤ) (labels : List (List Grid1 × Option ℕ)) (parts : PartsTerm) (part : ArrayPart) → length v ≡ n → same_form (old_cell (e array) cell v) form ≡ true → (e array).shape ≡ shape → part_at shape v ≡ Some part → part.shape ≡ cell → OldLabelled array n gens labels parts
      → Labelled form (generators calls turns gens e) (λ u. Some (old_cell (e array) cell u)) v labels (cells calls turns parts e)
  old_labelled e form array n shape cell gens v [] NoParts part l same sh at c h = tt
  old_labelled e form array n shape cell gens v [] (Part j b rest) part l same sh at c h = absurd h
  old_labelled e form array n shape cell gens v (p ∷ ps) NoParts part l same sh at c h = absurd h
  old_labelled e form array n shape cell gens v (p ∷ ps) (Part j b rest) part l same sh at c h = (h.0, fits p.1 h.1, old_labelled e form array n shape cell gens v ps rest part l same sh at c h.2)
    where
      fits : (label : Option ℕ) → OldPartOf array n gens label j b → LabelFits form (generators calls turns gens e) (λ u. Some (old_cell (e array) cell u)) v label (record { grid = j.grid; site = j.site; cell = λ index. first (run calls turns b (bind e j.index (vector Int index))) })
      fits None q = ((λ i. first (run calls turns (q.1.1.0 i) (bind e j.index (vector Int v)))) ∙ old_value e array j.index q.0 q.1.0 v shape cell part q.1.1.1 sh at c, same)
      fits (Some m) q = λ g s.
          let is = gen_is calls turns e gens m q.0 q.1.0 g q.1.1.0 s in
          (q.1.1.1 ∙ (λ i. (sym is i).bounds.site), ap first (named_cell calls turns e n q.0 j q.1.0 b v l q.1.1.2 q.1.1.3) ∙ (λ i. (sym is i).cell v))

  pub modarray_normal : (k : Facts) (above : ℕ) (s : Site) (x : Var) (gens : GensTerm) (right : RightTerm) (e : Env) → (h : ModarrayParted k above s x gens right) → AreSound k e → (e x).base ≡ h.partable.base → right_value calls turns right s e ≡ right_value calls turns (With (making.Modarray x) gens) s e
  modarray_normal k above s x gens right e h sound base =
      let t = h.partable in
      let gs = generators calls turns gens e in
      let form = cell_form t.base h.cell in
      let shape : (e x).shape ≡ h.shape = shape_is k e x h.shape sound h.known in
      let op = t.known in
      let planned : plan (map (λ (g : Generator). g.bounds) gs) (operation (making.Modarray x) s e) ≡ Ok t.planned =
      (λ i. plan (bounds_are calls turns k e gens t.bounds sound t.literal i) (operation (making.Modarray x) s e))
      ∙ plan_array t.bounds (e x) (cell_form t.base op.0) s base (shape_is k e x op.0 sound op.1.0)
      ∙ (λ i. plan t.bounds (sym op.1.1 i)) ∙ t.valid in
      let same : (v : List ℤ) → same_form (old_cell (e x) h.cell v) form ≡ true = λ v. (λ i. base_same calls turns (e x).base t.base base i && same_shape h.cell h.cell) ∙ (bytes_eq-Decides h.cell h.cell).1 refl in
      let is : IsParted gs (operation (making.Modarray x) s e) t.planned (λ v. Some (old_cell (e x) h.cell v)) t.frame t.base h.cell (parted.Modarray x) (cells calls turns h.parts e) e = record {
        planned = planned;
        form = h.form;
        indices = t.indices;
        neutral = refl;
        finished = λ os l. modarray_made (e x) s t.planned t.frame t.base h.cell x e os (sym base) h.whole t.indices l;
        fitting = λ v q.
            let o = h.old v q in
            parts_fit form t.grids t.planned.ranges gs (λ u. Some (old_cell (e x) h.cell u)) v h.labels (cells calls turns h.parts e) (match_of calls turns e t.grids t.planned.ranges gens t.ranges h.count) h.first
            (old_labelled e form x (length t.frame) h.shape h.cell gens v h.labels h.parts o.0 (has_length t.frame v q) (same v) shape o.1.0 o.1.1 h.labelled) (h.cover v q);
      } in
      (λ i. right_value calls turns (h.made i) s e) ∙ ap one (parted_is_with gs (operation (making.Modarray x) s e) t.planned (λ v. Some (old_cell (e x) h.cell v)) t.frame t.base h.cell (parted.Modarray x) (cells calls turns h.parts e) s e is)
