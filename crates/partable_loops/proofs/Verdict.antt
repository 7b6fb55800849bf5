-- The points of a partable with-loop, put together, and each refuted alone.
use Rattle.std.proofs.Common.{◌≡◌, ◌≤◌, ◌⊎◌, inl, inr, All, ◌+◌, ◌*◌, ◌^◌, ℕ, suc, List, [], ◌∷◌, ◌++◌, map, length, Bool, true, false, ◌&&◌, refl, sym, ap, subst, ◌∙◌, arith, true≢false, Some, None, ℤ, pos, negsuc, ◌+ℤ◌}
use Rattle.std.specs.Prelude.{int_lt, int_le, nat_lt, if◌then◌else◌}
use Rattle.std.proofs.lemmas.Int.{ints}
use Rattle.std.proofs.lemmas.Bool.{eqb-true}
use Rattle.std.proofs.lemmas.Bool.Decides.{nat_tests}
use Rattle.std.proofs.lemmas.List.Elements.{All-head, All-tail}
use Rattle.sac_base.specs.declared.base.Base.{Base}
use Rattle.sac_base.specs.declared.grid.Grid1.{Grid1}
use Rattle.sac_base.specs.declared.site.Site.{Site}
use Rattle.sac_base.specs.Arrays.{size}
use Rattle.sac_base.specs.Grids.{SplitsVectors, has_vector}
use Rattle.sac_base.specs.Parts.{Part, part_at, further}
use Rattle.sac_base.specs.WithLoops.{Bounds, Plan, holds, holds_at, names_fit, plan, shape_spans}
use Rattle.core_ir.specs.declared.tree.Var.{Var}
use Rattle.core_ir.specs.declared.tree.CoreOp.{CoreOp}
use Rattle.core_ir.specs.declared.tree.CoreOp.TheVariants as making
use Rattle.core_ir.specs.Meaning.{extents, name_count}
use Rattle.core_ir.specs.Terms.{GensTerm, NoGens, Gen}
use Rattle.core_ir.specs.WellFormed.{IsFrame}
use Rattle.core_facts.specs.Facts.{Facts}
use Rattle.core_facts.proofs.Shapes.{ok_same}
use Rattle.core_loops.specs.norm.Norm.{NameFirst}
use Rattle.core_loops.specs.Loops.{AllLiteral, IsPartable, RoomInGens, front, frame_spans, grid_range, spanned}
use Rattle.generator_sets.specs.Counts.{IsCanonicalCount}
use Rattle.generator_sets.proofs.CountFacts.{some_canonical}
use Rattle.partable_loops.specs.declared.framing.Framed.{Framed}
use Rattle.partable_loops.specs.declared.planning.PartPlan.{PartPlan}
use Rattle.partable_loops.specs.Counted.{generator_count}
use Rattle.partable_loops.specs.Framings.{FramesKnown, HasPlan, IsResult, NamesFitGrids}
use Rattle.partable_loops.specs.Refused.{Refutes}
use Rattle.partable_loops.specs.declared.refusal.Unplanned.{Unplanned}
use Rattle.partable_loops.specs.declared.refusal.Unplanned.TheVariants.{NotPartable, Memory}
use Rattle.partable_loops.specs.Planned.{AllNamed, Covers, Label, IsPlan, IsPlannable, PlanFits, needed_parts}
use Rattle.partable_loops.proofs.Numbers.{same_grid, same_grids, sets_are, vector_held}
use Rattle.partable_loops.proofs.Sameness.{all_same, operation_same}
use Rattle.partable_loops.proofs.Boxes.{extents_are, is_dense, members_are, shape_extents}
use Rattle.partable_loops.proofs.Labelling.{covered, held_covers, kept_first}

-- ---- old cells

both_true : (a b : Bool) → (a && b) ≡ true → (a ≡ true) × (b ≡ true)
both_true true b e = (refl, e)
both_true false b e = absurd (true≢false (sym e))

below_end : (i n : ℕ) → int_lt (pos i) (pos 0 +ℤ pos n) ≡ true → nat_lt i n ≡ true
below_end i n e = grind (arith, ints, nat_tests)

old_part : (ns cell : List ℕ) (v : List ℤ) → holds (map spanned (shape_spans ns)) v ≡ true → (q : Part) × ((part_at (ns ++ cell) v ≡ Some q) × (q.shape ≡ cell))
old_part [] cell [] e = (record { start = 0; shape = cell }, (refl, refl))
old_part [] cell (x ∷ v) e = absurd (true≢false (sym e))
old_part (n ∷ ns) cell [] e = absurd (true≢false (sym e))
old_part (n ∷ ns) cell (negsuc i ∷ v) e = absurd (true≢false (sym e))
old_part (n ∷ ns) cell (pos i ∷ v) e =
    let parts = both_true (holds_at (spanned (record { low = pos 0; extent = n })) (pos i)) (holds (map spanned (shape_spans ns)) v) e in
    let upper = both_true (int_le (pos 0) (pos i)) (int_lt (pos i) (pos 0 +ℤ pos n)) (both_true (int_le (pos 0) (pos i) && int_lt (pos i) (pos 0 +ℤ pos n)) _ parts.0).0 in
    let inner = old_part ns cell v parts.1 in
    let q = inner.0 in (
      record { start = i * size (ns ++ cell) + q.start; shape = q.shape },
      (ap (λ t. if t then further i (ns ++ cell) (part_at (ns ++ cell) v) else None) (below_end i n upper.1) ∙ ap (further i (ns ++ cell)) inner.1.0, inner.1.1),
    )

pub old_cells : (frame : List Grid1) (ns cell : List ℕ) → grid_range frame ≡ map spanned (shape_spans ns)
    → (v : List ℤ) → has_vector frame v ≡ true → (q : Part) × ((part_at (ns ++ cell) v ≡ Some q) × (q.shape ≡ cell))
old_cells frame ns cell e v h = old_part ns cell v (sym (vector_held frame v ∙ ap (λ r. holds r v) e) ∙ h)

-- ---- all points hold

bounds_count : (k : Facts) (gens : GensTerm) (bs : List Bounds) → AllLiteral k gens bs → length bs ≡ generator_count gens
bounds_count k NoGens [] h = refl
bounds_count k NoGens (b ∷ bs) h = absurd h
bounds_count k (Gen g body rest) [] h = absurd h
bounds_count k (Gen g body rest) (b ∷ bs) h = ap suc (bounds_count k rest bs h.1)

-- names that fit the grids fit the frame
no_names : (n : ℕ) (names : List Var) → names_fit n (name_count names) ≡ true → (names ≡ []) ⊎ (length names ≡ n)
no_names n [] e = inl refl
no_names n (x ∷ xs) e = inr (eqb-true (length (x ∷ xs)) n e)

names_are : (k : Facts) (gens : GensTerm) (bs : List Bounds) (gs : List (List Grid1)) (n : ℕ) → AllLiteral k gens bs → NamesFitGrids bs gs → All (λ (g : List Grid1). length g ≡ n) gs → AllNamed n gens
names_are k NoGens [] gs n h w l = tt
names_are k NoGens (b ∷ bs) gs n h w l = absurd h
names_are k (Gen j body rest) [] gs n h w l = absurd h
names_are k (Gen j body rest) (b ∷ bs) [] n h w l = absurd w
names_are k (Gen j body rest) (b ∷ bs) (g ∷ gs) n h w l = (
  no_names n j.names ((λ i. names_fit (sym (All-head (λ (g : List Grid1). length g ≡ n) g gs l) i) (sym h.0.names i)) ∙ w.0),
  names_are k rest bs gs n h.1 w.1 (All-tail (λ (g : List Grid1). length g ≡ n) g gs l),
)

-- what the cut of a frame says
pub record Cut (frame : List Grid1) (grids : List (List Grid1)) (parts : List Label) : Type 0 where
  pub due : (greatest count : ℕ) → IsCanonicalCount grids 0 frame greatest count → (greatest ≤ 4096) × (count ≤ 64)
  pub splits : SplitsVectors (map (λ (p : Label). p.0) parts) (has_vector frame)
  pub few : length parts ≤ 64
  pub same : All (λ (g : List Grid1). length g ≡ length frame) grids ⊎ (parts ≡ [])
  pub first : NameFirst grids parts

module _ (k : Facts) (above : ℕ) (s : Site) (base : Base) (gens : GensTerm) (bs : List Bounds) (f : Framed) (parts : List Label) (literal : AllLiteral k gens bs)
    (cut : Cut f.frame f.grids.items parts) (numbers : above ≤ 2 ^ 31 + 1) (room : RoomInGens gens) where
  abbrev partable : (op : CoreOp) → FramesKnown k s op base bs f → IsPartable k above s op gens
  partable op known =
      let counted = some_canonical f.grids.items 0 f.frame in
      let fits = cut.due counted.0 counted.1.0 counted.1.1 in
      record {
        base = base;
        bounds = bs;
        literal = literal;
        operation = known.operation;
        known = known.known;
        planned = known.frames.planned;
        valid = known.frames.valid;
        frame = f.frame;
        spans = known.frames.spans;
        dense = is_dense f.frame (frame_spans op known.frames.planned) known.frames.spans;
        indices = known.frames.indices ∙ sym (members_are f.frame (frame_spans op known.frames.planned) known.frames.spans);
        grids = f.grids.items;
        cut = known.frames.cut;
        ranges = sets_are f.grids.items known.frames.planned.ranges known.frames.cut;
        greatest = counted.0;
        count = counted.1.0;
        counted = counted.1.1;
        fine = fits.0;
        few = fits.1;
        numbers = numbers;
        room = room;
      }

  named : (n : ℕ) → All (λ (g : List Grid1). length g ≡ n) f.grids.items ⊎ (parts ≡ []) → NamesFitGrids bs f.grids.items → AllNamed n gens ⊎ (parts ≡ [])
  named n (inl l) w = inl (names_are k gens bs f.grids.items n literal w l)
  named n (inr e) w = inr e

  abbrev plan_is : (op : CoreOp) (plan : PartPlan) → FramesKnown k s op base bs f → plan.frame ≡ f.frame → plan.cell ≡ f.cell → NameFirst f.grids.items plan.parts.items
      → plan.parts.items ≡ needed_parts op parts → IsPlan k above s op gens base plan
  plan_is op plan known frame cell first all = record {
    partable = partable op known;
    base_is = refl;
    frame_is = sym frame;
    form = known.frames.form ∙ (λ i. record { base = base; shape = sym cell i });
    count = known.frames.count ∙ bounds_count k gens bs literal;
    first = first;
    frame = subst IsFrame (sym frame) known.frames.frame;
    result = subst (IsResult op plan.frame) (sym cell) (subst (λ g. IsResult op g f.cell) (sym frame) known.frames.result);
    labels = parts;
    splits = subst (λ g. SplitsVectors (map (λ (p : Label). p.0) parts) (has_vector g)) (sym frame) cut.splits;
    few = cut.few;
    needed = all;
    names = named (length plan.frame) (subst (λ (g : List Grid1). All (λ (h : List Grid1). length h ≡ length g) f.grids.items ⊎ (parts ≡ [])) (sym frame) cut.same) known.frames.names;
  }

  pub plan_fits : (op : CoreOp) (plan : PartPlan) → FramesKnown k s op base bs f → plan.frame ≡ f.frame → plan.cell ≡ f.cell → plan.parts.items ≡ needed_parts op parts
      → PlanFits k above s op gens base plan
  plan_fits (making.Genarray x y) plan known frame cell all = record {
    plan_is = plan_is (making.Genarray x y) plan known frame cell (subst (NameFirst f.grids.items) (sym all) cut.first) all;
    known = known.shape ∙ ap (λ c. Some c) (sym cell);
    whole = known.frames.whole ∙ ap (λ c. extents f.frame ++ c) (sym cell);
    cover = subst (Covers f.frame) (sym all) (covered f.frame parts cut.splits);
  }
  plan_fits (making.Modarray x) plan known frame cell all =
      let p = known.frames.planned in
      let ns = front p.shape p.form.shape in
      let whole : p.shape ≡ extents f.frame ++ plan.cell = known.frames.whole ∙ ap (λ c. extents f.frame ++ c) (sym cell) in
      let is : ns ++ plan.cell ≡ p.shape = ap (λ ms. ms ++ plan.cell) (sym (extents_are f.frame (shape_spans ns) known.frames.spans ∙ shape_extents ns)) ∙ sym whole in
      record {
        plan_is = plan_is (making.Modarray x) plan known frame cell (subst (NameFirst f.grids.items) (sym all) cut.first) all;
        shape = p.shape;
        known = known.shape;
        whole = whole;
        old = λ v h. subst (λ t. (q : Part) × ((part_at t v ≡ Some q) × (q.shape ≡ plan.cell))) is (old_cells f.frame ns plan.cell known.frames.spans v h);
        cover = subst (Covers f.frame) (sym all) (covered f.frame parts cut.splits);
      }
  plan_fits (making.Fold o x) plan known frame cell all = record {
    plan_is = plan_is (making.Fold o x) plan known frame cell (subst (NameFirst f.grids.items) (sym all) (kept_first f.grids.items parts cut.first)) all;
    known = known.shape ∙ ap (λ c. Some c) (sym cell);
    cover = subst (λ labels. Rattle.partable_loops.specs.Planned.CoversHeld f.frame f.grids.items labels) (sym all) (held_covers f.frame f.grids.items parts (covered f.frame parts cut.splits) cut.first);
  }

-- ---- a point fails

refutes_more : (e : Unplanned) (P Q : Type 0) → (Q → P) → Refutes e P → Refutes e Q
refutes_more NotPartable P Q f h = λ q. h (f q)
refutes_more Memory P Q f h = tt

module _ (k : Facts) (above : ℕ) (op : CoreOp) (gens : GensTerm) where
  abbrev IsExact : Type 0
  IsExact = (s : Site) × IsPlannable k above s op gens

  has_plan : (bs : List Bounds) → AllLiteral k gens bs → IsExact → HasPlan k op bs
  has_plan bs literal e =
      let t = e.1.0 in
      (e.0, (t.base, (t.operation, (t.planned, (t.known, ap (λ b. plan b t.operation) (all_same k gens bs t.bounds literal t.literal) ∙ t.valid, e.1.1)))))

  pub refutes_plan : (e : Unplanned) (bs : List Bounds) → AllLiteral k gens bs → Refutes e (HasPlan k op bs) → Refutes e IsExact
  refutes_plan e bs literal h = refutes_more e (HasPlan k op bs) IsExact (has_plan bs literal) h

  -- the count of a partable with-loop is that of the frame and the grids that are found
  pub refutes_count : (e : Unplanned) (bs : List Bounds) (f : Framed) → AllLiteral k gens bs → ((s : Site) (base : Base) → FramesKnown k s op base bs f)
      → ((greatest count : ℕ) → IsCanonicalCount f.grids.items 0 f.frame greatest count → Refutes e ((greatest ≤ 4096) × (count ≤ 64))) → Refutes e IsExact
  refutes_count Memory bs f literal known h = tt
  refutes_count NotPartable bs f literal known h = λ e.
      let t = e.1.0 in
      let here = known e.0 t.base in
      let bounds : t.bounds ≡ bs = all_same k gens t.bounds bs t.literal literal in
      let operation : t.operation ≡ here.operation = operation_same k e.0 t.base op t.operation here.operation t.known here.known in
      let planned : t.planned ≡ here.frames.planned = ok_same t.planned here.frames.planned (sym t.valid ∙ (λ i. plan (bounds i) (operation i)) ∙ here.frames.valid) in
      let frame : t.frame ≡ f.frame = same_grid t.frame f.frame (t.spans ∙ ap (λ p. map spanned (frame_spans op p)) planned ∙ sym here.frames.spans) in
      let grids : t.grids ≡ f.grids.items = same_grids t.grids f.grids.items (t.cut ∙ ap (λ (p : Plan). p.ranges) planned ∙ sym here.frames.cut) in
      h t.greatest t.count (subst (λ g. IsCanonicalCount g 0 f.frame t.greatest t.count) grids (subst (λ g. IsCanonicalCount t.grids 0 g t.greatest t.count) frame t.counted)) (t.fine, t.few)
