-- When an array or a fold has a plan, and what it is.
use Rattle.std.proofs.Common.{◌≡◌, ◌≤◌, ◌⊎◌, ℕ, zero, suc, ◌+◌, ◌-◌, min, List, [], ◌∷◌, ◌++◌, map, take, drop, length, filter, All, Bool, true, false, not, ◌&&◌, refl, sym, ap, subst, ◌∙◌, arith, Some, None, Option, Ok, Err, inl, inr, pos}
use Rattle.std.specs.Prelude.{nat_le, is_some, IsSome, ◌↔◌, fold, if◌then◌else◌}
use Rattle.std.proofs.lemmas.Bool.Decides.{nat_tests}
use Rattle.std.proofs.lemmas.List.{drop_min, length-append, length-drop, length-map, take-append-drop, take_min}
use Rattle.std.proofs.lemmas.List.Elements.{All-cons, All-nil, All-head, All-tail}
use Rattle.std.proofs.Math.Seq.{take-append_seam}
use Rattle.sac_base.specs.declared.base.Base.{Base}
use Rattle.sac_base.specs.declared.faults.FaultKind.TheVariants.{F4, F5, F8}
use Rattle.sac_base.specs.declared.grid.Grid1.{Grid1}
use Rattle.sac_base.specs.declared.op.Op.{Op}
use Rattle.sac_base.specs.declared.site.Site.{Site}
use Rattle.sac_base.specs.Arrays.{ArrayValue, form_of, size, MOST}
use Rattle.sac_base.specs.Operators.{all_of, with_first}
use Rattle.sac_base.specs.Outcomes.{Ends, and_then, fault}
use Rattle.sac_base.specs.Parts.{shape_of_numbers, vector_of}
use Rattle.sac_base.specs.Shapes.{IsShape}
use Rattle.sac_base.specs.WithLoops.{Bounds, Plan, Range, Span, box, box_size, each, fold_frame, fold_plan, genarray_plan, index_length, is_empty_box, joined_axis, joined_range, modarray_plan, names_fit, plan, range_from, range_of, lower_of, upper_of, step_of, shape_spans, span_of, within_frame}
use Rattle.sac_base.specs.WithLoops
use Rattle.array_with_loops.proofs.EachSteps.{each_length}
use Rattle.core_ir.specs.declared.tree.Var.{Var}
use Rattle.core_ir.specs.declared.tree.CoreOp.TheVariants as making
use Rattle.core_ir.specs.Meaning.{cell_form, extents}
use Rattle.core_ir.specs.WellFormed.{IsResultFrame}
use Rattle.partable_loops.specs.declared.framing.Framed.{Framed}
use Rattle.core_loops.specs.Loops.{front, grid_range, spanned}
use Rattle.partable_loops.specs.Framings.{FramesPlan, IsVoid, IsWordAxis, NamesFitGrids}
use Rattle.partable_loops.proofs.Boxes.{extents_are, shape_extents}
use Rattle.core_facts.proofs.Shapes.{ok_same}
use Rattle.partable_loops.proofs.Frames.{shape_frame, shape_result, span_frame}
use Rattle.partable_loops.proofs.Numbers.{same_head, same_tail}

-- ---- tests

passes : (a b : ℕ) → a ≤ b → nat_le a b ≡ true
passes a b h = grind (arith, nat_tests)

pub passed : (a b : ℕ) → nat_le a b ≡ true → a ≤ b
passed a b e = grind (arith, nat_tests)

pub joined_short : (ns cell : List ℕ) (o : Option (List ℕ)) (whole : List ℕ) → o ≡ Some whole → IsSome o ↔ (length ns + length cell ≤ 8) → length (ns ++ cell) ≤ 8
joined_short ns cell o whole e fits = let both = fits.0 (ap is_some e) in let all = length-append ns cell in omega arith

-- ---- lengths

length_spans : (g : List Grid1) (ss : List Span) → grid_range g ≡ map spanned ss → length g ≡ length ss
length_spans g ss e = sym (length-map g _) ∙ ap length e ∙ length-map ss _

lengths_are : (gs : List (List Grid1)) (rs : List Range) (n : ℕ) → map grid_range gs ≡ rs → All (λ (r : Range). length r ≡ n) rs → All (λ (g : List Grid1). length g ≡ n) gs
lengths_are gs rs n e h = by gs (subst (All (λ (r : Range). length r ≡ n)) (sym e) h)
  where
    by : (gs : List (List Grid1)) → All (λ (r : Range). length r ≡ n) (map grid_range gs) → All (λ (g : List Grid1). length g ≡ n) gs
    by [] h = All-nil (λ (g : List Grid1). length g ≡ n)
    by (g ∷ gs) h =
        All-cons (λ (g : List Grid1). length g ≡ n) g gs (sym (length-map g _) ∙ All-head (λ (r : Range). length r ≡ n) (grid_range g) (map grid_range gs) h)
        (by gs (All-tail (λ (r : Range). length r ≡ n) (grid_range g) (map grid_range gs) h))

-- ---- the front of a shape

front_joined : (ns cell : List ℕ) → front (ns ++ cell) cell ≡ ns
front_joined ns cell = ap (λ k. take k (ns ++ cell)) back ∙ take-append_seam ns cell
  where
    back : length (ns ++ cell) - length cell ≡ length ns
    back = let all = length-append ns cell in omega arith

front_taken : (ns : List ℕ) (n : ℕ) → front ns (drop n ns) ≡ take n ns
front_taken ns n = ap (λ k. take k ns) back ∙ take_min n ns
  where
    back : length ns - length (drop n ns) ≡ min n (length ns)
    back = let rest = length-drop n ns in omega arith

-- ---- names

name_of : (n most : ℕ) (fr : Option (List ℕ)) (dots : List ℕ) (g : Bounds) (r : Range) → range_of n most fr dots g ≡ Ok r → names_fit n g.names ≡ true
name_of n most fr dots g r e = by (nat_le n 8) (nat_le n most) (names_fit n g.names) refl e
  where
    by : (a b c : Bool) → names_fit n g.names ≡ c
        → (if a && b && c then within_frame fr g.site (range_from (lower_of n g) (upper_of n dots g) (step_of n g.step) (step_of n g.width)) else fault F5 g.site) ≡ Ok r → names_fit n g.names ≡ true
    by false b c t q = cc
    by true false c t q = cc
    by true true false t q = cc
    by true true true t q = t

all_names : (n most : ℕ) (fr : Option (List ℕ)) (dots : List ℕ) (bs : List Bounds) (rs : List Range) (gs : List (List Grid1)) → each (range_of n most fr dots) bs ≡ Ok rs → map grid_range gs ≡ rs → All (λ (r : Range). length r ≡ n) rs → NamesFitGrids bs gs
all_names n most fr dots [] [] [] e c l = tt
all_names n most fr dots [] [] (g ∷ gs) e c l = cc
all_names n most fr dots [] (r ∷ rs) gs e c l = cc
all_names n most fr dots (b ∷ bs) rs gs e c l = by (λ rest hs p w k. all_names n most fr dots bs rest hs p w k) (range_of n most fr dots b) refl e
  where
    at : ((rest : List Range) (hs : List (List Grid1)) → each (range_of n most fr dots) bs ≡ Ok rest → map grid_range hs ≡ rest → All (λ (r : Range). length r ≡ n) rest → NamesFitGrids bs hs) →
        (r : Range) (rest : List Range) → range_of n most fr dots b ≡ Ok r → each (range_of n most fr dots) bs ≡ Ok rest → (hs : List (List Grid1)) → map grid_range hs ≡ r ∷ rest → All (λ (r : Range). length r ≡ n) (r ∷ rest) → NamesFitGrids (b ∷ bs) hs
    at rec r rest f p [] w k = cc
    at rec r rest f p (g ∷ hs) w k =
        let long : length g ≡ n = sym (length-map g _) ∙ ap length (same_head (grid_range g) r (map grid_range hs) rest w) ∙ All-head (λ (r : Range). length r ≡ n) r rest k in (
          (λ i. names_fit (long i) b.names) ∙ name_of n most fr dots b r f,
          rec rest hs p (same_tail (grid_range g) r (map grid_range hs) rest w) (All-tail (λ (r : Range). length r ≡ n) r rest k),
        )

    on : ((rest : List Range) (hs : List (List Grid1)) → each (range_of n most fr dots) bs ≡ Ok rest → map grid_range hs ≡ rest → All (λ (r : Range). length r ≡ n) rest → NamesFitGrids bs hs) →
        (r : Range) → range_of n most fr dots b ≡ Ok r → (m : Ends (List Range)) → each (range_of n most fr dots) bs ≡ m → with_first r m ≡ Ok rs → NamesFitGrids (b ∷ bs) gs
    on rec r f (Err z) p q = cc
    on rec r f (Ok rest) p q = at rec r rest f p gs (c ∙ sym (ok_same (r ∷ rest) rs q)) (subst (All (λ (r : Range). length r ≡ n)) (sym (ok_same (r ∷ rest) rs q)) l)

    by : ((rest : List Range) (hs : List (List Grid1)) → each (range_of n most fr dots) bs ≡ Ok rest → map grid_range hs ≡ rest → All (λ (r : Range). length r ≡ n) rest → NamesFitGrids bs hs) →
        (m : Ends Range) → range_of n most fr dots b ≡ m → all_of (m ∷ map (range_of n most fr dots) bs) ≡ Ok rs → NamesFitGrids (b ∷ bs) gs
    by rec (Err z) f q = cc
    by rec (Ok r) f q = on rec r f (each (range_of n most fr dots) bs) refl q

-- ---- a genarray

genarray_is : (bs : List Bounds) (ns cell : List ℕ) (base : Base) (s : Site) (rs : List Range) → length (ns ++ cell) ≤ 8 → size ns ≤ MOST → size (ns ++ cell) ≤ MOST
    → each (range_of (length ns) 8 (Some ns) ns) bs ≡ Ok rs
    → genarray_plan bs (Some ns) (cell_form base cell) s ≡ Ok (record { ranges = rs; indices = box (shape_spans ns); form = record { base = base; shape = cell }; shape = ns ++ cell })
genarray_is bs ns cell base s rs short small whole found = λ i.
    if passes (length (ns ++ cell)) 8 short i then (if passes (size ns) MOST small i && passes (size (ns ++ cell)) MOST whole i then
    and_then (found i) (λ ranges. Ok (record { ranges = ranges; indices = box (shape_spans ns); form = form_of (cell_form base cell); shape = ns ++ cell }))
    else fault F8 s) else fault F4 s

-- what the code makes of it
pub genarray_frames : (bs : List Bounds) (shape : ArrayValue) (ns cell : List ℕ) (rs : List Range) (f : Framed)
    → shape_of_numbers (vector_of shape) ≡ Some ns → length (ns ++ cell) ≤ 8 → size ns ≤ MOST → size (ns ++ cell) ≤ MOST
    → each (range_of (length ns) 8 (Some ns) ns) bs ≡ Ok rs → All (λ (r : Range). length r ≡ length ns) rs
    → map grid_range f.grids.items ≡ rs → grid_range f.frame ≡ map spanned (shape_spans ns) → f.cell ≡ cell → IsShape ns → IsShape (ns ++ cell)
    → (s : Site) (base : Base) (x y : Var) → FramesPlan base (making.Genarray x y) bs (WithLoops.genarray shape (cell_form base cell) s) f
genarray_frames bs shape ns cell rs f given short small whole found long cut spans is front_shape whole_shape s base x y = record {
  planned = record { ranges = rs; indices = box (shape_spans ns); form = record { base = base; shape = cell }; shape = ns ++ cell };
  valid = ap (λ m. genarray_plan bs m (cell_form base cell) s) given ∙ genarray_is bs ns cell base s rs short small whole found;
  cut = cut;
  count = each_length _ bs rs found;
  spans = spans ∙ ap (λ ms. map spanned (shape_spans ms)) (sym (front_joined ns cell));
  indices = ap (λ ms. box (shape_spans ms)) (sym (front_joined ns cell));
  form = λ i. record { base = base; shape = sym is i };
  ranks = inl (subst (λ n. All (λ (g : List Grid1). length g ≡ n) f.grids.items) (sym (length_spans f.frame (shape_spans ns) spans ∙ length-map ns _)) (lengths_are f.grids.items rs (length ns) cut long));
  whole = λ i. sym (extents_are f.frame (shape_spans ns) spans ∙ shape_extents ns) i ++ sym is i;
  frame = shape_frame f.frame ns spans front_shape small;
  result = subst (IsResultFrame f.frame) (sym is) (shape_result f.frame ns cell spans front_shape whole_shape whole);
  names = all_names (length ns) 8 (Some ns) ns bs rs f.grids.items found cut long;
}

-- ---- a modarray

-- an index is at most as long as the shape, where there is a generator
range_fits : (n most : ℕ) (fr : Option (List ℕ)) (dots : List ℕ) (g : Bounds) (r : Range) → range_of n most fr dots g ≡ Ok r → n ≤ most
range_fits n most fr dots g r e = by (nat_le n 8) (nat_le n most) refl e
  where
    by : (a b : Bool) → nat_le n most ≡ b
        → (if a && b && names_fit n g.names then within_frame fr g.site (range_from (lower_of n g) (upper_of n dots g) (step_of n g.step) (step_of n g.width)) else fault F5 g.site) ≡ Ok r → n ≤ most
    by false b t q = cc
    by true false t q = cc
    by true true t q = passed n most t

each_fits : (n most : ℕ) (fr : Option (List ℕ)) (dots : List ℕ) (bs : List Bounds) (rs : List Range) → each (range_of n most fr dots) bs ≡ Ok rs → (rs ≡ []) ⊎ (n ≤ most)
each_fits n most fr dots [] [] e = inl refl
each_fits n most fr dots [] (r ∷ rs) e = cc
each_fits n most fr dots (b ∷ bs) rs e = by (range_of n most fr dots b) refl e
  where
    by : (m : Ends Range) → range_of n most fr dots b ≡ m → all_of (m ∷ map (range_of n most fr dots) bs) ≡ Ok rs → (rs ≡ []) ⊎ (n ≤ most)
    by (Err z) f q = cc
    by (Ok r) f q = inr (range_fits n most fr dots b r f)

taken_length : (n : ℕ) (ns : List ℕ) → n ≤ length ns → length (take n ns) ≡ n
taken_length n ns h = let all = ap length (take-append-drop n ns) in let two = length-append (take n ns) (drop n ns) in let rest = length-drop n ns in omega arith

pub modarray_whole : (shape : List ℕ) (n : ℕ) (f : Framed) → grid_range f.frame ≡ map spanned (shape_spans (take n shape)) → f.cell ≡ drop (min n (length shape)) shape
    → shape ≡ extents f.frame ++ f.cell
modarray_whole shape n f spans is =
    let front : extents f.frame ≡ take n shape = extents_are f.frame (shape_spans (take n shape)) spans ∙ shape_extents (take n shape) in
    let cell : f.cell ≡ drop n shape = is ∙ drop_min n shape in
    sym (take-append-drop n shape) ∙ (λ i. sym front i ++ sym cell i)

pub modarray_frames : (bs : List Bounds) (shape : List ℕ) (rs : List Range) (f : Framed)
    → size (take (index_length bs (length shape)) shape) ≤ MOST
    → each (range_of (index_length bs (length shape)) (length shape) (Some (take (index_length bs (length shape)) shape)) (take (index_length bs (length shape)) shape)) bs ≡ Ok rs
    → All (λ (r : Range). length r ≡ index_length bs (length shape)) rs
    → map grid_range f.grids.items ≡ rs → grid_range f.frame ≡ map spanned (shape_spans (take (index_length bs (length shape)) shape))
    → f.cell ≡ drop (min (index_length bs (length shape)) (length shape)) shape → IsShape (take (index_length bs (length shape)) shape) → IsShape shape → size shape ≤ MOST
    → (s : Site) (base : Base) (x : Var) → FramesPlan base (making.Modarray x) bs (WithLoops.modarray (cell_form base shape) s) f
modarray_frames bs shape rs f small found long cut spans is front_shape whole_shape most s base x = record {
  planned = record { ranges = rs; indices = box (shape_spans ns); form = record { base = base; shape = drop n shape }; shape = shape };
  valid = λ i. and_then (found i) (λ ranges. if passes (size ns) MOST small i then Ok (record { ranges = ranges; indices = box (shape_spans ns); form = record { base = base; shape = drop n shape }; shape = shape }) else fault F8 s);
  cut = cut;
  count = each_length _ bs rs found;
  spans = spans ∙ ap (λ ms. map spanned (shape_spans ms)) (sym (front_taken shape n));
  indices = ap (λ ms. box (shape_spans ms)) (sym (front_taken shape n));
  form = λ i. record { base = base; shape = sym cell i };
  ranks = inl (by (each_fits n (length shape) (Some ns) ns bs rs found));
  whole = modarray_whole shape n f spans is;
  frame = shape_frame f.frame ns spans front_shape small;
  result = shape_result f.frame ns f.cell spans front_shape (subst IsShape both whole_shape) (subst (λ m. size m ≤ MOST) both most);
  names = all_names n (length shape) (Some ns) ns bs rs f.grids.items found cut long;
}
  where
    n : ℕ
    n = index_length bs (length shape)

    ns : List ℕ
    ns = take n shape

    cell : f.cell ≡ drop n shape
    cell = is ∙ drop_min n shape

    both : shape ≡ ns ++ f.cell
    both = sym (take-append-drop n shape) ∙ ap (λ c. ns ++ c) (sym cell)

    by : (rs ≡ []) ⊎ (n ≤ length shape) → All (λ (g : List Grid1). length g ≡ length f.frame) f.grids.items
    by (inl none) = lengths_are f.grids.items [] (length f.frame) (cut ∙ none) (All-nil (λ (r : Range). length r ≡ length f.frame))
    by (inr fits) = subst (λ m. All (λ (g : List Grid1). length g ≡ m) f.grids.items) (sym (length_spans f.frame (shape_spans ns) spans ∙ length-map ns _ ∙ taken_length n shape fits)) (lengths_are f.grids.items rs n cut long)

-- ---- a fold

-- the ranges that count
abbrev pub solid : List Range → List Range
solid rs = filter (λ r. not (is_empty_box r)) rs

joined_length : (a b : Range) (n : ℕ) → length a ≡ n → length b ≡ n → length (joined_range a b) ≡ n
joined_length [] [] n h j = h
joined_length [] (b ∷ bs) n h j = absurd (omega (arith, h, j))
joined_length (a ∷ as') [] n h j = absurd (omega (arith, h, j))
joined_length (a ∷ as') (b ∷ bs) zero h j = absurd (omega (arith, h))
joined_length (a ∷ as') (b ∷ bs) (suc n) h j = ap suc (joined_length as' bs n (omega (arith, h)) (omega (arith, j)))

all_joined : (r : Range) (rs : List Range) (n : ℕ) → length r ≡ n → All (λ (r : Range). length r ≡ n) rs → length (fold joined_range r rs) ≡ n
all_joined r [] n h j = h
all_joined r (q ∷ rs) n h j = all_joined (joined_range r q) rs n (joined_length r q n h (All-head (λ (r : Range). length r ≡ n) q rs j)) (All-tail (λ (r : Range). length r ≡ n) q rs j)

solid_lengths : (rs : List Range) (n : ℕ) → All (λ (r : Range). length r ≡ n) rs → All (λ (r : Range). length r ≡ n) (solid rs)
solid_lengths [] n h = h
solid_lengths (r ∷ rs) n h = by (solid_lengths rs n (All-tail (λ (r : Range). length r ≡ n) r rs h)) (not (is_empty_box r)) refl
  where
    by : All (λ (r : Range). length r ≡ n) (solid rs) → (b : Bool) → not (is_empty_box r) ≡ b → All (λ (r : Range). length r ≡ n) (solid (r ∷ rs))
    by rest true e = subst (λ t. All (λ (r : Range). length r ≡ n) (if t then r ∷ solid rs else solid rs)) (sym e) (All-cons (λ (r : Range). length r ≡ n) r (solid rs) (All-head (λ (r : Range). length r ≡ n) r rs h) rest)
    by rest false e = subst (λ t. All (λ (r : Range). length r ≡ n) (if t then r ∷ solid rs else solid rs)) (sym e) rest

frame_length : (rs : List Range) (n : ℕ) → All (λ (r : Range). length r ≡ n) rs → (fold_frame rs ≡ record { low = pos 0; extent = 0 } ∷ []) ⊎ (length (fold_frame rs) ≡ n)
frame_length [] n h = inl refl
frame_length (r ∷ rs) n h = inr (length-map (fold joined_range r rs) _ ∙ all_joined r rs n (All-head (λ (r : Range). length r ≡ n) r rs h) (All-tail (λ (r : Range). length r ≡ n) r rs h))

pub fold_frames : (bs : List Bounds) (cell : List ℕ) (rs : List Range) (f : Framed) (n : ℕ)
    → each (range_of (index_length bs 0) 8 None []) bs ≡ Ok rs → All (λ (r : Range). length r ≡ n) rs → box_size (fold_frame (solid rs)) ≤ MOST
    → map grid_range f.grids.items ≡ rs → grid_range f.frame ≡ map spanned (fold_frame (solid rs)) → f.cell ≡ cell → All IsWordAxis f.frame → length f.frame ≤ 8 → index_length bs 0 ≡ n
    → (s : Site) (base : Base) (o : Op) (x : Var) → FramesPlan base (making.Fold o x) bs (WithLoops.fold_by o (cell_form base cell) s) f
fold_frames bs cell rs f n found long small cut spans is words few is_n s base o x = record {
  planned = record { ranges = rs; indices = box (fold_frame (solid rs)); form = record { base = base; shape = cell }; shape = cell };
  valid = ap (λ m. and_then m (λ ranges. if nat_le (box_size (fold_frame (solid ranges))) MOST
      then Ok (record { ranges = ranges; indices = box (fold_frame (solid ranges)); form = form_of (cell_form base cell); shape = cell }) else fault F8 s)) found
      ∙ (λ i. if passes (box_size (fold_frame (solid rs))) MOST small i then Ok (record { ranges = rs; indices = box (fold_frame (solid rs)); form = form_of (cell_form base cell); shape = cell }) else fault F8 s);
  cut = cut;
  count = each_length _ bs rs found;
  spans = spans;
  indices = refl;
  form = λ i. record { base = base; shape = sym is i };
  ranks = by (frame_length (solid rs) n (solid_lengths rs n long));
  whole = tt;
  frame = span_frame f.frame (fold_frame (solid rs)) spans few words small;
  result = tt;
  names = all_names n 8 None [] bs rs f.grids.items (subst (λ m. each (range_of m 8 None []) bs ≡ Ok rs) is_n found) cut long;
}
  where
    by : (fold_frame (solid rs) ≡ record { low = pos 0; extent = 0 } ∷ []) ⊎ (length (fold_frame (solid rs)) ≡ n) → All (λ (g : List Grid1). length g ≡ length f.frame) f.grids.items ⊎ IsVoid f.frame
    by (inl none) = inr (spans ∙ ap (map spanned) none)
    by (inr same) = inl (subst (λ m. All (λ (g : List Grid1). length g ≡ m) f.grids.items) (sym (length_spans f.frame (fold_frame (solid rs)) spans ∙ same)) (lengths_are f.grids.items rs n cut long))
