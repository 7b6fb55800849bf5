-- The parted loop in the place of a genarray with-loop means the same.
use Rattle.std.proofs.Common.{◌≡◌, ℕ, zero, suc, ◌+◌, Bool, true, false, ◌&&◌, cond, eqb, List, [], ◌∷◌, ◌++◌, map, length, Option, Some, None, Result, Ok, Err, refl, sym, ap, subst, ◌∙◌, arith, ℤ, ◌⊎◌, inl, inr}
use Rattle.std.specs.Prelude.{slice_get, unwrap_or, option_map}
use Rattle.std.proofs.lemmas.Slice.Eq.{bytes_eq-Decides}
use Rattle.sac_base.specs.declared.base.Base.{Base}
use Rattle.sac_base.specs.declared.base.Base.TheVariants.{Int, Bool as Truth}
use Rattle.sac_base.specs.declared.grid.Grid1.{Grid1}
use Rattle.sac_base.specs.declared.site.Site.{Site}
use Rattle.sac_base.specs.Arrays.{ArrayValue, scalar, vector, same_form, same_base, same_shape}
use Rattle.sac_base.specs.Grids.{has_vector}
use Rattle.sac_base.specs.Outcomes.{Ends, and_then}
use Rattle.sac_base.specs.Parts.{shape_of_numbers, vector_of}
use Rattle.sac_base.specs.WithLoops.{Bounds, Generator, Operation, Plan, Range, holds, plan, genarray_plan, with_value}
use Rattle.core_ir.specs.declared.tree.Var.{Var}
use Rattle.core_ir.specs.declared.tree.CoreOp.TheVariants as making
use Rattle.core_ir.specs.declared.tree.PartedOp.TheVariants as parted
use Rattle.core_ir.specs.Terms.{BlockTerm, RightTerm, GensTerm, PartsTerm, GenHead, PartHead, With, NoGens, Gen, NoParts, Part}
use Rattle.core_ir.specs.Meaning.{Env, CallMeaning, Cells, bind, bind_all, first, one, cell_form, generator, operation, with_index, run, right_value, generators, cells}
use Rattle.core_ir.proofs.Renamed.{agree_bind}
use Rattle.core_ir.proofs.Variables.{same_number}
use Rattle.core_ir.specs.Renaming.{Agree, under, Renamed}
use Rattle.core_facts.specs.Facts.{Facts, ShapeIs, ValueIs, AreSound}
use Rattle.core_facts.proofs.Settle.{has_length}
use Rattle.core_loops.specs.norm.Norm.{IsParted, Match, Labelled, LabelFits}
use Rattle.core_loops.proofs.norm.Cells.{parted_is_with}
use Rattle.core_loops.proofs.norm.Labels.{parts_fit}
use Rattle.core_loops.proofs.norm.Made.{genarray_made}
use Rattle.core_loops.specs.Loops.{LiteralPart, LiteralBounds, AllLiteral, SameSets}
use Rattle.core_loops.specs.Steps.{itself}
use Rattle.core_loops.specs.norm_steps.Genarray.{GenAt, count_gens, NamedBody, PartOf, LabelledParts, GenarrayParted}
use Rattle.core_loops.proofs.norm_steps.Named.{named}

-- a plan reads no cell of the default
plan_default : (bs : List Bounds) (m : Option (List ℕ)) (d c : ArrayValue) (s : Site) → d.base ≡ c.base → d.shape ≡ c.shape → genarray_plan bs m d s ≡ genarray_plan bs m c s
plan_default bs None d c s p q = refl
plan_default bs (Some frame) d c s p q = λ i. genarray_plan bs (Some frame) (record { base = p i; shape = q i; cells = [] }) s

literal_is : (k : Facts) (e : Env) (x : Var) (v : ArrayValue) → AreSound k e → (k x).literal ≡ Some v → e x ≡ v
literal_is k e x v s h = subst (λ o. ValueIs o (e x)) h (s x).literal

pub shape_is : (k : Facts) (e : Env) (x : Var) (t : List ℕ) → AreSound k e → (k x).shape ≡ Some t → (e x).shape ≡ t
shape_is k e x t s h = subst (λ o. ShapeIs o (e x)) h (s x).shape

part_is : (k : Facts) (e : Env) (o : Option Var) (m : Option ArrayValue) → AreSound k e → LiteralPart k o m → option_map e o ≡ m
part_is k e None None s h = refl
part_is k e None (Some v) s h = absurd h
part_is k e (Some x) None s h = absurd h
part_is k e (Some x) (Some v) s h = λ i. Some (literal_is k e x v s h i)

module _ (calls : CallMeaning) (turns : ℕ) where
  pub bounds_are : (k : Facts) (e : Env) (gens : GensTerm) (bs : List Bounds) → AreSound k e → AllLiteral k gens bs → map (λ (g : Generator). g.bounds) (generators calls turns gens e) ≡ bs
  bounds_are k e NoGens [] s h = refl
  bounds_are k e NoGens (b ∷ bs) s h = absurd h
  bounds_are k e (Gen g c rest) [] s h = absurd h
  bounds_are k e (Gen g c rest) (b ∷ bs) s h =
      let w = h.0 in
      λ i. record {
        lower = part_is k e g.lower b.lower s w.lower i;
        lower_closed = sym w.closed.0 i;
        names = sym w.names i;
        upper = part_is k e g.upper b.upper s w.upper i;
        upper_closed = sym w.closed.1 i;
        step = part_is k e g.step b.step s w.step i;
        width = part_is k e g.width b.width s w.width i;
        site = sym w.site i;
      } ∷ bounds_are k e rest bs s h.1 i

  pub match_of : (e : Env) (grids : List (List Grid1)) (rs : List Range) (gens : GensTerm) → SameSets grids rs → length rs ≡ count_gens gens → Match grids rs (generators calls turns gens e)
  match_of e [] [] NoGens h l = tt
  match_of e [] [] (Gen g c rest) h l = absurd (omega (arith, l))
  match_of e [] (r ∷ rs) gens h l = absurd h
  match_of e (g ∷ grids) [] gens h l = absurd h
  match_of e (g ∷ grids) (r ∷ rs) NoGens h l = absurd (omega (arith, l))
  match_of e (g ∷ grids) (r ∷ rs) (Gen j c rest) h l = (h.0, match_of e grids rs rest h.1 (omega (arith, l)))

  pub gen_is : (e : Env) (gens : GensTerm) (n : ℕ) (head : GenHead) (body : BlockTerm) (g : Generator) → GenAt gens n head body → slice_get (generators calls turns gens e) n ≡ Some g → g ≡ generator head (λ index. first (run calls turns body (with_index e head index))) e
  gen_is e NoGens n head body g h q = absurd h
  gen_is e (Gen j c rest) zero head body g h q = ap (λ o. unwrap_or o g) (sym q) ∙ (λ i. generator (h.0 i) (λ index. first (run calls turns (h.1 i) (with_index e (h.0 i) index))) e)
  gen_is e (Gen j c rest) (suc n) head body g h q = gen_is e rest n head body g h q

  pub named_cell : (e : Env) (n : ℕ) (head : GenHead) (h : PartHead) (body b : BlockTerm) (v : List ℤ) → length v ≡ n → (head.names ≡ []) ⊎ (length head.names ≡ n) → NamedBody (under itself head.index h.index) h.index 0 head.names body b
      → run calls turns b (bind e h.index (vector Int v)) ≡ run calls turns body (with_index e head v)
  named_cell e n head h body b v l names body_is = elim names [
    | inl none ↦
        let plain : Renamed (under itself head.index h.index) body b = subst (λ xs. NamedBody (under itself head.index h.index) h.index 0 xs body b) none body_is in
        sym (Rattle.core_ir.proofs.Renamed.renamed calls turns (under itself head.index h.index) (bind e head.index (vector Int v)) (bind e h.index (vector Int v)) body b agree plain)
        ∙ (λ i. run calls turns body (bind_all (bind e head.index (vector Int v)) (sym none i) (map (scalar Int) v)))
    | inr all ↦ sym (named calls turns (under itself head.index h.index) (bind e head.index (vector Int v)) (bind e h.index (vector Int v)) h.index v 0 head.names body b agree at (omega (arith, all, l)) body_is)
  ]
    where
      agree : Agree (under itself head.index h.index) (bind e head.index (vector Int v)) (bind e h.index (vector Int v))
      agree = agree_bind itself e e head.index h.index (vector Int v) (λ x y q. ap e (same_number x y q))

      at : bind e h.index (vector Int v) h.index ≡ vector Int v
      at = λ i. cond (Rattle.std.proofs.lemmas.Bool.eq-eqb h.index.0 h.index.0 refl i) (vector Int v) (e h.index)

  labelled : (e : Env) (form : ArrayValue) (default : Var) (n : ℕ) (gens : GensTerm) (v : List ℤ) (labels : List (List Grid1 × Option ℕ)) (parts : PartsTerm) → length v ≡ n → same_form (e default) form ≡ true → LabelledParts default n gens labels parts → Labelled form (generators calls turns gens e) (λ u. Some (e default)) v labels (cells calls turns parts e)
  labelled e form default n gens v [] NoParts l same h = tt
  labelled e form default n gens v [] (Part j b rest) l same h = absurd h
  labelled e form default n gens v (p ∷ ps) NoParts l same h = absurd h
  labelled e form default n gens v (p ∷ ps) (Part j b rest) l same h = (h.0, fits p.1 h.1, labelled e form default n gens v ps rest l same h.2)
    where
      fits : (label : Option ℕ) → PartOf default n gens label j b → LabelFits form (generators calls turns gens e) (λ u. Some (e default)) v label (record { grid = j.grid; site = j.site; cell = λ index. first (run calls turns b (bind e j.index (vector Int index))) })
      fits None q = ((λ i. first (run calls turns (q.0 i) (bind e j.index (vector Int v)))) ∙ (λ i. Ok (cond (q.1 i) (vector Int v) (e default))), same)
      fits (Some m) q = λ g s.
          let is = gen_is e gens m q.0 q.1.0 g q.1.1.0 s in
          (q.1.1.1 ∙ (λ i. (sym is i).bounds.site), ap first (named_cell e n q.0 j q.1.0 b v l q.1.1.2 q.1.1.3) ∙ (λ i. (sym is i).cell v))

  pub base_same : (t u : Base) → t ≡ u → same_base t u ≡ true
  base_same t u p = subst (λ w. same_base t w ≡ true) p (go t)
    where
      go : (t : Base) → same_base t t ≡ true
      go Int = refl
      go Truth = refl

  pub genarray_normal : (k : Facts) (above : ℕ) (s : Site) (x y : Var) (gens : GensTerm) (right : RightTerm) (e : Env) → (h : GenarrayParted k above s x y gens right) → AreSound k e → (e y).base ≡ h.partable.base → right_value calls turns right s e ≡ right_value calls turns (With (making.Genarray x y) gens) s e
  genarray_normal k above s x y gens right e h sound base =
      let t = h.partable in
      let gs = generators calls turns gens e in
      let form = cell_form t.base h.cell in
      let shape : (e y).shape ≡ h.cell = shape_is k e y h.cell sound h.known in
      let same : same_form (e y) form ≡ true = (λ i. base_same (e y).base t.base base i && same_shape (e y).shape h.cell) ∙ (bytes_eq-Decides (e y).shape h.cell).1 shape in
      let op = t.known in
      let planned : plan (map (λ (g : Generator). g.bounds) gs) (operation (making.Genarray x y) s e) ≡ Ok t.planned =
      (λ i. genarray_plan (bounds_are k e gens t.bounds sound t.literal i) (shape_of_numbers (vector_of (literal_is k e x op.0 sound op.1.1.0 i))) (e y) s)
      ∙ plan_default t.bounds (shape_of_numbers (vector_of op.0)) (e y) (cell_form t.base op.1.0) s base (shape_is k e y op.1.0 sound op.1.1.1)
      ∙ (λ i. plan t.bounds (sym op.1.1.2 i)) ∙ t.valid in
      let is : IsParted gs (operation (making.Genarray x y) s e) t.planned (λ v. Some (e y)) t.frame t.base h.cell parted.Genarray (cells calls turns h.parts e) e = record {
        planned = planned;
        form = h.form;
        indices = t.indices;
        neutral = refl;
        finished = λ os l. genarray_made (e x) (e y) s t.planned t.frame t.base h.cell e os (sym base) h.whole l;
        fitting = λ v q. parts_fit form t.grids t.planned.ranges gs (λ u. Some (e y)) v h.labels (cells calls turns h.parts e) (match_of e t.grids t.planned.ranges gens t.ranges h.count) h.first (labelled e form y (length t.frame) gens v h.labels h.parts (has_length t.frame v q) same h.labelled) (h.cover v q);
      } in
      (λ i. right_value calls turns (h.made i) s e) ∙ ap one (parted_is_with gs (operation (making.Genarray x y) s e) t.planned (λ v. Some (e y)) t.frame t.base h.cell parted.Genarray (cells calls turns h.parts e) s e is)
