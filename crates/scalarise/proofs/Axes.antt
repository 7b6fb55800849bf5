-- Scalarisable loops of a well-formed core can be merged, where grids without members have no more axes than their frames.
use Rattle.std.proofs.Common.{true, inl, inr, ◌≡◌, ℕ, suc, ◌+◌, ◌≤◌, List, [], ◌∷◌, ◌++◌, length, zip, All, Option, refl, sym, ap, subst, ◌∙◌, arith}
use Rattle.std.specs.Prelude.{ℤ}
use Rattle.std.proofs.lemmas.List.{length-append}
use Rattle.std.proofs.lemmas.List.Elements.{All-nil, All-cons, All-head, All-tail}
use Rattle.sac_base.specs.declared.base.Base.{Base}
use Rattle.sac_base.specs.declared.base.Base.TheVariants.{Bool as Truth, Int}
use Rattle.sac_base.specs.declared.grid.Grid1.{Grid1}
use Rattle.sac_base.specs.declared.site.Site.{Site}
use Rattle.sac_base.specs.Grids.{has_vector}
use Rattle.core_ir.specs.declared.tree.Var.{Var}
use Rattle.core_ir.specs.declared.tree.PartedOp.TheVariants as parted
use Rattle.core_ir.specs.Meaning.{extents}
use Rattle.core_ir.specs.Terms.{BlockTerm, RightTerm, GensTerm, PartsTerm, LetTerm, FunTerm, CoreTerm, Gives, Bind, Plain, NoGens, Gen, NoParts, Part, chain}
use Rattle.core_ir.specs.WellFormed.{Bases, BlockBases, RightBases, GensBases, PartsBases, IsFunction, IsWellFormed, bases, ints, param_bases, part_grids}
use Rattle.core_facts.specs.Facts.{Facts, note_all, right_facts, in_part}
use Rattle.core_facts.proofs.Settle.{has_length}
use Rattle.core_loops.specs.Pairs.{IsScalarisable, Nests}
use Rattle.core_facts.specs.constants.Called.{called, params_facts}
use Rattle.core_subst.specs.Names.{above_function}
use Rattle.merge_plans.specs.Mergeable.{GridsFit, IsMergeable, MOST_AXES}
use Rattle.core_walk.specs.Editing.{EachInRight, EachInGens, EachInParts}
use Rattle.merge_walk.specs.NoneLeft.{NoneFirst, NoneHere, NoneMergeable}
use Rattle.scalarise.specs.Axes.{Axes, AxesRight, AxesGens, AxesParts, CoreAxes, HasAxes, NoneIn, NoneScalarisable, NotFirst, NotHere}
use Rattle.scalarise.specs.Scalarised.{NoneLeft, NoneLeftIn}

-- ---- grids

abbrev Few : ℕ → List Grid1 → Type 0
Few n grid = length grid ≤ n

abbrev Inside : List Grid1 → List Grid1 → Type 0
Inside frame grid = (index : List ℤ) → has_vector grid index ≡ true → has_vector frame index ≡ true

as_long : (a b n : ℕ) → n ≡ a → n ≡ b → a ≤ b
as_long a b n p q = omega (arith, p, q)

-- a member of a grid is one of the frame, so both have its length
one_few : (frame grid : List Grid1) → Inside frame grid → HasAxes (length frame) grid → Few (length frame) grid
one_few frame grid inside (inl few) = few
one_few frame grid inside (inr m) = as_long (length grid) (length frame) (length m.0) (has_length grid m.0 m.1) (has_length frame m.0 (inside m.0 m.1))

all_few : (frame : List Grid1) (gs : List (List Grid1)) → All (Inside frame) gs → All (HasAxes (length frame)) gs → All (Few (length frame)) gs
all_few frame [] inside axes = All-nil (Few (length frame))
all_few frame (g ∷ gs) inside axes =
    All-cons (Few (length frame)) g gs (one_few frame g (All-head (Inside frame) g gs inside) (All-head (HasAxes (length frame)) g gs axes))
    (all_few frame gs (All-tail (Inside frame) g gs inside) (All-tail (HasAxes (length frame)) g gs axes))

axes_few : (n m a b : ℕ) → a ≤ n → b ≤ m → n + m ≤ 8 → a + b ≤ 8
axes_few n m a b p q few = omega (arith, p, q, few)

fit_behind : (n m : ℕ) (grid : List Grid1) (gs : List (List Grid1)) → Few n grid → n + m ≤ MOST_AXES → All (Few m) gs → All (λ (g : List Grid1). length grid + length g ≤ MOST_AXES) gs
fit_behind n m grid [] own few h = All-nil (λ (g : List Grid1). length grid + length g ≤ MOST_AXES)
fit_behind n m grid (g ∷ gs) own few h =
    All-cons (λ (g : List Grid1). length grid + length g ≤ MOST_AXES) g gs (axes_few n m (length grid) (length g) own (All-head (Few m) g gs h) few)
    (fit_behind n m grid gs own few (All-tail (Few m) g gs h))

-- ---- one loop

-- the loop behind some bindings
inner_axes : (before : List LetTerm) (xs : List Var) (s : Site) (r : RightTerm) (b : BlockTerm) → Axes (chain before (Bind xs s r b)) → AxesRight r
inner_axes [] xs s r b h = h.0
inner_axes (l ∷ ls) xs s r b h = inner_axes ls xs s r b h.1

inner_bases : (core : CoreTerm) (before : List LetTerm) (xs : List Var) (s : Site) (r : RightTerm) (b : BlockTerm) (g : Bases) (ts : List Base) → BlockBases core g (chain before (Bind xs s r b)) ts →
    (h : Bases) × ((us : List Base) × RightBases core h r us)
inner_bases core [] xs s r b g ts d = (g, (d.0, d.1.0))
inner_bases core (l ∷ ls) xs s r b g ts d = inner_bases core ls xs s r b (zip l.targets d.0 ++ g) ts d.1.2

module _ (core : CoreTerm) (calls : ℕ → List (Option (List ℕ))) (k : Facts) (inner : List Grid1) (base : Base) where
  grids_fit : (n : ℕ) (parts : PartsTerm) (count : ℕ) → (w : Nests calls k inner base parts count) → n + length inner ≤ MOST_AXES → All (Few n) (part_grids parts) → AxesParts parts →
      (g : Bases) (t : Base) → PartsBases core g parts t → GridsFit calls k inner base parts count w
  grids_fit n NoParts count w few own axes g t d = tt
  grids_fit n (Part h b rest) count w few own axes g t d =
      let nest = w.1.1.0 in
      let loop = RightTerm.Parted inner base [] parted.Genarray w.0 in
      let after = chain nest.after (Gives (nest.z ∷ [])) in
      let loop_axes = inner_axes nest.before (nest.z ∷ []) nest.site loop after (subst Axes nest.whole axes.0) in
      let loop_bases = inner_bases core nest.before (nest.z ∷ []) nest.site loop after ((h.index, Int) ∷ g) (t ∷ []) (subst (λ (c : BlockTerm). BlockBases core ((h.index, Int) ∷ g) c (t ∷ [])) nest.whole d.0) in (
        fit_behind n (length inner) h.grid (part_grids w.0) (All-head (Few n) h.grid (part_grids rest) own) few (all_few inner (part_grids w.0) loop_bases.1.1.2.1.inside loop_axes.0),
        grids_fit n rest w.1.0 w.1.1.1 few (All-tail (Few n) h.grid (part_grids rest) own) axes.1 g t d.1,
      )

extents_length : (frame : List Grid1) → length (extents frame) ≡ length frame
extents_length [] = refl
extents_length (g ∷ gs) = ap suc (extents_length gs)

frames_few : (n m c a : ℕ) → n ≡ a + c → n ≤ 8 → m ≡ c → a + m ≤ 8
frames_few n m c a e few p = omega (arith, e, few, p)

mergeable : (core : CoreTerm) (calls : ℕ → List (Option (List ℕ))) (above : ℕ) (k : Facts) (frame : List Grid1) (base : Base) (cell : List ℕ) (parts : PartsTerm) (g : Bases) (ts : List Base) →
    RightBases core g (RightTerm.Parted frame base cell parted.Genarray parts) ts → AxesRight (RightTerm.Parted frame base cell parted.Genarray parts) → IsScalarisable calls above k base cell parts →
    IsMergeable calls above k frame base cell parts
mergeable core calls above k frame base cell parts g ts d a s =
    let whole : length (extents frame ++ cell) ≡ length frame + length cell = length-append (extents frame) cell ∙ ap (λ n. n + length cell) (extents_length frame) in
    let inner : length s.frame ≡ length cell = sym (extents_length s.frame) ∙ ap length s.shape in
    let both = frames_few (length (extents frame ++ cell)) (length s.frame) (length cell) (length frame) whole d.2.3.shape.rank inner in
    let own = all_few frame (part_grids parts) d.2.1.inside a.0 in
    record { scalarisable = s; frames = both; grids = grids_fit core calls k s.frame base (length frame) parts s.count s.nests both own a.1 g base d.1 }

-- ---- all loops

module _ (core : CoreTerm) (calls : ℕ → List (Option (List ℕ))) (above : ℕ) where
  not_here : (xs : List Var) (r : RightTerm) (g : Bases) (ts : List Base) (k : Facts) → RightBases core g r ts → AxesRight r → NoneHere calls above xs r k → NotHere calls above xs r k
  not_here [] r g ts k d a h = tt
  not_here (x ∷ y ∷ xs) r g ts k d a h = tt
  not_here (x ∷ []) (Plain p) g ts k d a h = λ s. s
  not_here (x ∷ []) (RightTerm.If y b c) g ts k d a h = λ s. s
  not_here (x ∷ []) (RightTerm.Loop first start params test body t) g ts k d a h = λ s. s
  not_here (x ∷ []) (RightTerm.Call group xs) g ts k d a h = λ s. s
  not_here (x ∷ []) (RightTerm.With o gens) g ts k d a h = λ s. s
  not_here (x ∷ []) (RightTerm.Parted frame base cell (parted.Modarray y) parts) g ts k d a h = λ s. s
  not_here (x ∷ []) (RightTerm.Parted frame base cell (parted.Fold o y) parts) g ts k d a h = λ s. s
  not_here (x ∷ []) (RightTerm.Parted frame base cell parted.Genarray parts) g ts k d a h = λ s. h (mergeable core calls above k frame base cell parts g ts d a s)

  mutual
    none_block : (b : BlockTerm) (g : Bases) (ts : List Base) (k : Facts) → BlockBases core g b ts → Axes b → NoneMergeable calls above b k → NoneIn calls above b k
    none_block (Gives xs) g ts k d a h = tt
    none_block (Bind xs s r b) g ts k d a h = (
      none_right r g d.0 k d.1.0 a.0 h.0,
      not_here xs r g d.0 k d.1.0 a.0 h.1,
      none_block b (zip xs d.0 ++ g) ts (note_all k xs (right_facts calls r k)) d.1.2 a.1 h.2,
    )

    none_right : (r : RightTerm) (g : Bases) (ts : List Base) (k : Facts) → RightBases core g r ts → AxesRight r → EachInRight calls (NoneFirst calls above) r k → EachInRight calls (NotFirst calls above) r k
    none_right (Plain p) g ts k d a h = tt
    none_right (RightTerm.If x b c) g ts k d a h = (none_block b g ts k d.1 a.0 h.0, none_block c g ts k d.2 a.1 h.1)
    none_right (RightTerm.Loop first start params test body s) g ts k d a h = (
      none_block test (zip params ts ++ g) (Truth ∷ []) (note_all k params []) d.2 a.0 h.0,
      none_block body (zip params ts ++ g) ts (note_all k params []) d.3 a.1 h.1,
    )
    none_right (RightTerm.Call group xs) g ts k d a h = tt
    none_right (RightTerm.With o gens) g ts k d a h = none_gens gens g d.0 k d.1.1 a h
    none_right (RightTerm.Parted frame base cell o parts) g ts k d a h = none_parts parts g base k d.1 a.1 h

    none_gens : (gens : GensTerm) (g : Bases) (t : Base) (k : Facts) → GensBases core g gens t → AxesGens gens → EachInGens calls (NoneFirst calls above) gens k → EachInGens calls (NotFirst calls above) gens k
    none_gens NoGens g t k d a h = tt
    none_gens (Gen j b rest) g t k d a h = (
      none_block b (ints (j.index ∷ j.names) ++ g) (t ∷ []) (note_all k (j.index ∷ j.names) []) d.4 a.0 h.0,
      none_gens rest g t k d.5 a.1 h.1,
    )

    none_parts : (parts : PartsTerm) (g : Bases) (t : Base) (k : Facts) → PartsBases core g parts t → AxesParts parts → EachInParts calls (NoneFirst calls above) parts k → EachInParts calls (NotFirst calls above) parts k
    none_parts NoParts g t k d a h = tt
    none_parts (Part j b rest) g t k d a h = (none_block b ((j.index, Int) ∷ g) (t ∷ []) (in_part k j) d.0 a.0 h.0, none_parts rest g t k d.1 a.1 h.1)

module _ (core : CoreTerm) where
  abbrev NotIn : FunTerm → Type 0
  NotIn f = NoneIn (called core) (above_function f) f.body (params_facts f)

  abbrev AxesIn : FunTerm → Type 0
  AxesIn f = Axes f.body

  all_functions : (fs : List FunTerm) → All (IsFunction core) fs → All AxesIn fs → All (NoneLeftIn core) fs → All NotIn fs
  all_functions [] are axes none = All-nil NotIn
  all_functions (f ∷ fs) are axes none =
      let is = All-head (IsFunction core) f fs are in
      All-cons NotIn f fs
      (none_block core (called core) (above_function f) f.body (param_bases f) (bases f.results) (params_facts f) is.agreeing (All-head AxesIn f fs axes) (All-head (NoneLeftIn core) f fs none))
      (all_functions fs (All-tail (IsFunction core) f fs are) (All-tail AxesIn f fs axes) (All-tail (NoneLeftIn core) f fs none))

pub all_left : (core : CoreTerm) → IsWellFormed core → CoreAxes core → NoneLeft core → NoneScalarisable core
all_left core well axes none = all_functions core core.functions well.functions axes none
