-- The selections for which copies stand.
use Rattle.std.proofs.Common.{◌≡◌, ℕ, Bool, true, false, eqb, List, [], ◌∷◌, ◌++◌, length, Option, Some, None, refl, ap, ◌∙◌, arith}
use Rattle.std.specs.Prelude.{if◌then◌else◌, option_map, slice_get, unwrap_or, zip}
use Rattle.sac_base.specs.declared.base.Base.{Base}
use Rattle.sac_base.specs.declared.base.Base.TheVariants.{Bool as Truth}
use Rattle.core_ir.specs.declared.tree.Var.{Var}
use Rattle.core_ir.specs.Terms.{PlainTerm, BlockTerm, RightTerm, PartTerm, CoreTerm, Gives, Bind, Plain}
use Rattle.core_ir.specs.WellFormed.{Bases, BlockBases, RightBases, PlainBases}
use Rattle.folded_parts.specs.Folding.{chosen, part_for}

-- ---- what is chosen

-- the right side is a selection from the producer, and its number is that of the part
pub record IsChosen (p : Var) (sources : List PartTerm) (holders : List ℕ) (i : ℕ) (r : RightTerm) (index : Var) (part : PartTerm) : Type 0 where
  pub array : Var
  pub same : eqb p.0 array.0 ≡ true
  pub selects : r ≡ Plain (PlainTerm.Select array index)
  pub number : ℕ
  pub held : slice_get holders i ≡ Some number
  pub there : slice_get sources number ≡ Some part

none_some : {A P : Type 0} (a : A) → ◌≡◌ {A = Option A} None (Some a) → P
none_some a e = absurd (cc)

abbrev paired : Var → Option PartTerm → Option (Var × PartTerm)
paired y o = option_map {U = Var × PartTerm} (λ part. (y, part)) o

module _ (p : Var) (sources : List PartTerm) (holders : List ℕ) (i : ℕ) where
  by_part :
      (x y index : Var) (part : PartTerm) (j : ℕ) → eqb p.0 x.0 ≡ true → slice_get holders i ≡ Some j → (o : Option PartTerm) → slice_get sources j ≡ o → paired y o ≡ Some (index, part) →
      IsChosen p sources holders i (Plain (PlainTerm.Select x y)) index part
  by_part x y index part j same held None there e = none_some (index, part) e
  by_part x y index part j same held (Some q) there e =
      let own : y ≡ index = ap (λ (o : Option (Var × PartTerm)). (unwrap_or o (y, q)).0) e in
      let body : q ≡ part = ap (λ (o : Option (Var × PartTerm)). (unwrap_or o (y, q)).1) e in
      record { array = x; same = same; selects = λ k. Plain (PlainTerm.Select x (own k)); number = j; held = held; there = there ∙ ap Some body }

  by_number :
      (x y index : Var) (part : PartTerm) → eqb p.0 x.0 ≡ true → (o : Option ℕ) → slice_get holders i ≡ o → paired y (part_for sources o) ≡ Some (index, part) →
      IsChosen p sources holders i (Plain (PlainTerm.Select x y)) index part
  by_number x y index part same None held e = none_some (index, part) e
  by_number x y index part same (Some j) held e = by_part x y index part j same held (slice_get sources j) refl e

  by_array :
      (x y index : Var) (part : PartTerm) (t : Bool) → eqb p.0 x.0 ≡ t → (if t then paired y (part_for sources (slice_get holders i)) else None) ≡ Some (index, part) →
      IsChosen p sources holders i (Plain (PlainTerm.Select x y)) index part
  by_array x y index part true same e = by_number x y index part same (slice_get holders i) refl e
  by_array x y index part false same e = none_some (index, part) e

  pub chosen_is : (r : RightTerm) (index : Var) (part : PartTerm) → chosen p sources holders i r ≡ Some (index, part) → IsChosen p sources holders i r index part
  chosen_is (Plain (PlainTerm.Select x y)) index part e = by_array x y index part (eqb p.0 x.0) refl e
  chosen_is (Plain (PlainTerm.Const a)) index part e = none_some (index, part) e
  chosen_is (Plain (PlainTerm.Copy x)) index part e = none_some (index, part) e
  chosen_is (Plain (PlainTerm.Unary o x)) index part e = none_some (index, part) e
  chosen_is (Plain (PlainTerm.Binary o x y)) index part e = none_some (index, part) e
  chosen_is (Plain (PlainTerm.Literal xs)) index part e = none_some (index, part) e
  chosen_is (Plain (PlainTerm.Dim x)) index part e = none_some (index, part) e
  chosen_is (Plain (PlainTerm.ShapeOf x)) index part e = none_some (index, part) e
  chosen_is (Plain (PlainTerm.Reshape x y)) index part e = none_some (index, part) e
  chosen_is (Plain (PlainTerm.Replace x y z)) index part e = none_some (index, part) e
  chosen_is (Plain (PlainTerm.Always k)) index part e = none_some (index, part) e
  chosen_is (Plain (PlainTerm.Check x t)) index part e = none_some (index, part) e
  chosen_is (RightTerm.If x a b) index part e = none_some (index, part) e
  chosen_is (RightTerm.Loop f xs ps a b s) index part e = none_some (index, part) e
  chosen_is (RightTerm.Call g xs) index part e = none_some (index, part) e
  chosen_is (RightTerm.With o g) index part e = none_some (index, part) e
  chosen_is (RightTerm.Parted f b c o ps) index part e = none_some (index, part) e

  -- a selection from the producer whose number names a part is chosen
  pub is_chosen : (x y : Var) (j : ℕ) (part : PartTerm) → eqb p.0 x.0 ≡ true → slice_get holders i ≡ Some j → slice_get sources j ≡ Some part → chosen p sources holders i (Plain (PlainTerm.Select x y)) ≡ Some (y, part)
  is_chosen x y j part same held there =
      (λ k. if same k then paired y (part_for sources (slice_get holders i)) else None)
      ∙ (λ k. paired y (part_for sources (held k)))
      ∙ (λ k. paired y (there k))

-- ---- a selection binds one variable

abbrev pub SinglePlain : List Var → PlainTerm → Type 0
SinglePlain xs (PlainTerm.Select x y) = (t : Var) × (xs ≡ t ∷ [])
SinglePlain xs p = Unit {0}

abbrev mutual
  pub Single : BlockTerm → Type 0
  Single (Gives xs) = Unit {0}
  Single (Bind xs s r b) = SingleRight xs r × Single b

  pub SingleRight : List Var → RightTerm → Type 0
  SingleRight xs (Plain p) = SinglePlain xs p
  SingleRight xs (RightTerm.If x a b) = Single a × Single b
  SingleRight xs (RightTerm.Loop first start params test body s) = Single test × Single body
  SingleRight xs r = Unit {0}

one_long : (xs : List Var) → length xs ≡ 1 → (t : Var) × (xs ≡ t ∷ [])
one_long [] e = absurd (omega (arith, e))
one_long (x ∷ []) e = (x, refl)
one_long (x ∷ y ∷ xs) e = absurd (omega (arith, e))

module _ (core : CoreTerm) where
  single_plain : (g : Bases) (xs : List Var) (p : PlainTerm) (us : List Base) → PlainBases g p us → length xs ≡ length us → SinglePlain xs p
  single_plain g xs (PlainTerm.Select x y) us h l = one_long xs (l ∙ ap length h.3)
  single_plain g xs (PlainTerm.Const a) us h l = tt
  single_plain g xs (PlainTerm.Copy x) us h l = tt
  single_plain g xs (PlainTerm.Unary o x) us h l = tt
  single_plain g xs (PlainTerm.Binary o x y) us h l = tt
  single_plain g xs (PlainTerm.Literal ys) us h l = tt
  single_plain g xs (PlainTerm.Dim x) us h l = tt
  single_plain g xs (PlainTerm.ShapeOf x) us h l = tt
  single_plain g xs (PlainTerm.Reshape x y) us h l = tt
  single_plain g xs (PlainTerm.Replace x y z) us h l = tt
  single_plain g xs (PlainTerm.Always k) us h l = tt
  single_plain g xs (PlainTerm.Check x t) us h l = tt

  mutual
    pub single : (b : BlockTerm) (g : Bases) (ts : List Base) → BlockBases core g b ts → Single b
    single (Gives xs) g ts h = tt
    single (Bind xs s r b) g ts h = (single_right xs r g h.0 h.1.0 h.1.1, single b (zip xs h.0 ++ g) ts h.1.2)

    single_right : (xs : List Var) (r : RightTerm) (g : Bases) (us : List Base) → RightBases core g r us → length xs ≡ length us → SingleRight xs r
    single_right xs (Plain p) g us h l = single_plain g xs p us h l
    single_right xs (RightTerm.If x a b) g us h l = (single a g us h.1, single b g us h.2)
    single_right xs (RightTerm.Loop first start params test body s) g us h l = (single test (zip params us ++ g) (Truth ∷ []) h.2, single body (zip params us ++ g) us h.3)
    single_right xs (RightTerm.Call group ys) g us h l = tt
    single_right xs (RightTerm.With o gens) g us h l = tt
    single_right xs (RightTerm.Parted f t c o ps) g us h l = tt
