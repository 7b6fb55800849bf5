-- Blocks with other variables.
use Rattle.std.proofs.Common.{◌≡◌, ℕ, suc, Bool, true, false, cond, ◌||◌, eqb, List, [], ◌∷◌, ◌++◌, map, length, zip, Option, Some, None, refl, sym, ap, subst, ◌∙◌}
use Rattle.std.specs.Prelude.{option_map, option_to_list}
use Rattle.std.proofs.lemmas.List.{map-append}
use Rattle.sac_base.specs.declared.base.Base.{Base}
use Rattle.sac_base.specs.declared.base.Base.TheVariants.{Int, Bool as Truth}
use Rattle.sac_base.specs.declared.grid.Grid1.{Grid1}
use Rattle.core_ir.specs.declared.tree.Var.{Var}
use Rattle.core_ir.specs.declared.tree.CoreOp.{CoreOp}
use Rattle.core_ir.specs.declared.tree.CoreOp.TheVariants as making
use Rattle.core_ir.specs.declared.tree.PartedOp.{PartedOp}
use Rattle.core_ir.specs.declared.tree.PartedOp.TheVariants as parted
use Rattle.core_ir.specs.Binders.{is_in, NoneIn}
use Rattle.core_ir.specs.Scopes.{AllIn, Scoped, ScopedRight, ScopedGens, ScopedParts, plain_uses, op_uses, parted_uses, head_uses}
use Rattle.core_ir.specs.Terms.{PlainTerm, BlockTerm, RightTerm, GensTerm, PartsTerm, GenHead, CoreTerm, Gives, Bind, Plain, NoGens, Gen, NoParts, Part}
use Rattle.core_ir.specs.WellFormed.{Bases, base_of, HasBase, HasBases, AllHave, OptionHas, ints, LiteralBase, PlainBases, OperationBase, PartedBase, PartedFits, part_grids, BlockBases, RightBases, GensBases, PartsBases, Distinct, calls_in, calls_in_right, calls_in_gens, calls_in_parts}
use Rattle.core_subst.specs.Substitution.{plain_with, core_op_with, parted_op_with}
use Rattle.core_subst.specs.copy.Mapped.{mapped, mapped_right, mapped_gens, mapped_parts, mapped_gen_head}
use Rattle.core_forms.specs.edits.Within.{KeepsApart, bases_mapped}

-- ---- uses and calls

module _ (f : Var → Var) where
  pub plain_uses_mapped : (p : PlainTerm) → plain_uses (plain_with f p) ≡ map f (plain_uses p)
  plain_uses_mapped (PlainTerm.Const a) = refl
  plain_uses_mapped (PlainTerm.Copy x) = refl
  plain_uses_mapped (PlainTerm.Unary o x) = refl
  plain_uses_mapped (PlainTerm.Binary o x y) = refl
  plain_uses_mapped (PlainTerm.Literal xs) = refl
  plain_uses_mapped (PlainTerm.Dim x) = refl
  plain_uses_mapped (PlainTerm.ShapeOf x) = refl
  plain_uses_mapped (PlainTerm.Reshape x y) = refl
  plain_uses_mapped (PlainTerm.Select x y) = refl
  plain_uses_mapped (PlainTerm.Replace x y z) = refl
  plain_uses_mapped (PlainTerm.Always k) = refl
  plain_uses_mapped (PlainTerm.Check x t) = refl

  pub op_uses_mapped : (o : CoreOp) → op_uses (core_op_with f o) ≡ map f (op_uses o)
  op_uses_mapped (making.Genarray x y) = refl
  op_uses_mapped (making.Modarray x) = refl
  op_uses_mapped (making.Fold o x) = refl

  pub parted_uses_mapped : (o : PartedOp) → parted_uses (parted_op_with f o) ≡ map f (parted_uses o)
  parted_uses_mapped parted.Genarray = refl
  parted_uses_mapped (parted.Modarray x) = refl
  parted_uses_mapped (parted.Fold o x) = refl

  option_mapped : (x : Option Var) → option_to_list (option_map f x) ≡ map f (option_to_list x)
  option_mapped None = refl
  option_mapped (Some x) = refl

  head_uses_mapped : (h : GenHead) → head_uses (mapped_gen_head f h) ≡ map f (head_uses h)
  head_uses_mapped h =
      (λ i. option_mapped h.lower i ++ (option_mapped h.upper i ++ (option_mapped h.step i ++ option_mapped h.width i)))
      ∙ (λ i. map f (option_to_list h.lower) ++ (map f (option_to_list h.upper) ++ sym (map-append f (option_to_list h.step) (option_to_list h.width)) i))
      ∙ (λ i. map f (option_to_list h.lower) ++ sym (map-append f (option_to_list h.upper) (option_to_list h.step ++ option_to_list h.width)) i)
      ∙ sym (map-append f (option_to_list h.lower) (option_to_list h.upper ++ (option_to_list h.step ++ option_to_list h.width)))

  mutual
    pub calls_mapped : (b : BlockTerm) → calls_in (mapped f b) ≡ calls_in b
    calls_mapped (Gives xs) = refl
    calls_mapped (Bind xs s r b) = λ i. calls_mapped_right r i ++ calls_mapped b i

    calls_mapped_right : (r : RightTerm) → calls_in_right (mapped_right f r) ≡ calls_in_right r
    calls_mapped_right (Plain p) = refl
    calls_mapped_right (RightTerm.If x a b) = λ i. calls_mapped a i ++ calls_mapped b i
    calls_mapped_right (RightTerm.Loop first start params test body s) = λ i. calls_mapped test i ++ calls_mapped body i
    calls_mapped_right (RightTerm.Call g xs) = refl
    calls_mapped_right (RightTerm.With op gens) = calls_mapped_gens gens
    calls_mapped_right (RightTerm.Parted frame base cell op parts) = calls_mapped_parts parts

    calls_mapped_gens : (g : GensTerm) → calls_in_gens (mapped_gens f g) ≡ calls_in_gens g
    calls_mapped_gens NoGens = refl
    calls_mapped_gens (Gen h b rest) = λ i. calls_mapped b i ++ calls_mapped_gens rest i

    calls_mapped_parts : (p : PartsTerm) → calls_in_parts (mapped_parts f p) ≡ calls_in_parts p
    calls_mapped_parts NoParts = refl
    calls_mapped_parts (Part h b rest) = λ i. calls_mapped b i ++ calls_mapped_parts rest i

  grids_mapped : (p : PartsTerm) → part_grids (mapped_parts f p) ≡ part_grids p
  grids_mapped NoParts = refl
  grids_mapped (Part h b rest) = ap (λ gs. h.grid ∷ gs) (grids_mapped rest)

  fits_mapped : (o : PartedOp) (frame : List Grid1) (cell : List ℕ) (grids : List (List Grid1)) → PartedFits o frame cell grids → PartedFits (parted_op_with f o) frame cell grids
  fits_mapped parted.Genarray frame cell grids h = h
  fits_mapped (parted.Modarray x) frame cell grids h = h
  fits_mapped (parted.Fold o x) frame cell grids h = h

  lengths_mapped : {A : Type 0} (xs : List Var) (ts : List A) → length xs ≡ length ts → length (map f xs) ≡ length ts
  lengths_mapped xs ts p = same xs ∙ p
    where
      same : (ys : List Var) → length (map f ys) ≡ length ys
      same [] = refl
      same (y ∷ ys) = ap suc (same ys)

  zip_mapped : (xs : List Var) (ts : List Base) (g : Bases) → zip (map f xs) ts ++ bases_mapped f g ≡ bases_mapped f (zip xs ts ++ g)
  zip_mapped [] ts g = refl
  zip_mapped (x ∷ xs) [] g = refl
  zip_mapped (x ∷ xs) (t ∷ ts) g = ap (λ ps. (f x, t) ∷ ps) (zip_mapped xs ts g)

  ints_mapped : (xs : List Var) (g : Bases) → ints (map f xs) ++ bases_mapped f g ≡ bases_mapped f (ints xs ++ g)
  ints_mapped [] g = refl
  ints_mapped (x ∷ xs) g = ap (λ ps. (f x, Int) ∷ ps) (ints_mapped xs g)

module _ (f : Var → Var) (apart : KeepsApart f) where
  -- ---- scopes

  in_mapped : (x : Var) (xs : List Var) → is_in (f x) (map f xs) ≡ is_in x xs
  in_mapped x [] = refl
  in_mapped x (y ∷ ys) = λ i. apart y x i || in_mapped x ys i

  all_mapped : (xs scope : List Var) → AllIn xs scope → AllIn (map f xs) (map f scope)
  all_mapped [] scope h = tt
  all_mapped (x ∷ xs) scope h = (in_mapped x scope ∙ h.0, all_mapped xs scope h.1)

  none_mapped : (xs scope : List Var) → NoneIn xs scope → NoneIn (map f xs) (map f scope)
  none_mapped [] scope h = tt
  none_mapped (x ∷ xs) scope h = (in_mapped x scope ∙ h.0, none_mapped xs scope h.1)

  uses_mapped : (us xs scope : List Var) → us ≡ map f xs → AllIn xs scope → AllIn us (map f scope)
  uses_mapped us xs scope p h = subst (λ (ys : List Var). AllIn ys (map f scope)) (sym p) (all_mapped xs scope h)

  pub distinct_mapped : (xs : List Var) → Distinct xs → Distinct (map f xs)
  distinct_mapped [] h = tt
  distinct_mapped (x ∷ xs) h = (in_mapped x xs ∙ h.0, distinct_mapped xs h.1)

  below : (xs scope : List Var) (c : BlockTerm) → Scoped (map f (xs ++ scope)) c → Scoped (map f xs ++ map f scope) c
  below xs scope c h = subst (λ (zs : List Var). Scoped zs c) (map-append f xs scope) h

  mutual
    pub block_scoped : (b : BlockTerm) (scope : List Var) → Scoped scope b → Scoped (map f scope) (mapped f b)
    block_scoped (Gives xs) scope h = all_mapped xs scope h
    block_scoped (Bind xs s r b) scope h = (right_scoped r scope h.0, none_mapped xs scope h.1, below xs scope (mapped f b) (block_scoped b (xs ++ scope) h.2))

    right_scoped : (r : RightTerm) (scope : List Var) → ScopedRight scope r → ScopedRight (map f scope) (mapped_right f r)
    right_scoped (Plain p) scope h = uses_mapped _ (plain_uses p) scope (plain_uses_mapped f p) h
    right_scoped (RightTerm.If x a b) scope h = (in_mapped x scope ∙ h.0, block_scoped a scope h.1, block_scoped b scope h.2)
    right_scoped (RightTerm.Loop first start params test body s) scope h =
        (all_mapped start scope h.0, none_mapped params scope h.1, below params scope (mapped f test) (block_scoped test (params ++ scope) h.2), below params scope (mapped f body) (block_scoped body (params ++ scope) h.3))
    right_scoped (RightTerm.Call g xs) scope h = all_mapped xs scope h
    right_scoped (RightTerm.With op gens) scope h = (uses_mapped _ (op_uses op) scope (op_uses_mapped f op) h.0, gens_scoped gens scope h.1)
    right_scoped (RightTerm.Parted frame base cell op parts) scope h = (uses_mapped _ (parted_uses op) scope (parted_uses_mapped f op) h.0, parts_scoped parts scope h.1)

    gens_scoped : (g : GensTerm) (scope : List Var) → ScopedGens scope g → ScopedGens (map f scope) (mapped_gens f g)
    gens_scoped NoGens scope h = tt
    gens_scoped (Gen k b rest) scope h =
        (uses_mapped _ (head_uses k) scope (head_uses_mapped f k) h.0, none_mapped (k.index ∷ k.names) scope h.1, below (k.index ∷ k.names) scope (mapped f b) (block_scoped b ((k.index ∷ k.names) ++ scope) h.2), gens_scoped rest scope h.3)

    parts_scoped : (p : PartsTerm) (scope : List Var) → ScopedParts scope p → ScopedParts (map f scope) (mapped_parts f p)
    parts_scoped NoParts scope h = tt
    parts_scoped (Part k b rest) scope h = (in_mapped k.index scope ∙ h.0, below (k.index ∷ []) scope (mapped f b) (block_scoped b ((k.index ∷ []) ++ scope) h.1), parts_scoped rest scope h.2)

  -- ---- bases

  base_mapped : (g : Bases) (x : Var) → base_of (bases_mapped f g) (f x) ≡ base_of g x
  base_mapped [] x = refl
  base_mapped (p ∷ ps) x = λ i. cond (apart p.0 x i) (Some p.1) (base_mapped ps x i)

  module _ (g : Bases) where
    has : (x : Var) (t : Base) → HasBase g x t → HasBase (bases_mapped f g) (f x) t
    has x t h = base_mapped g x ∙ h

    has_all : (xs : List Var) (ts : List Base) → HasBases g xs ts → HasBases (bases_mapped f g) (map f xs) ts
    has_all [] [] h = tt
    has_all (x ∷ xs) (t ∷ ts) h = (has x t h.0, has_all xs ts h.1)
    has_all [] (t ∷ ts) h = absurd h
    has_all (x ∷ xs) [] h = absurd h

    all_have : (xs : List Var) (t : Base) → AllHave g xs t → AllHave (bases_mapped f g) (map f xs) t
    all_have [] t h = tt
    all_have (x ∷ xs) t h = (has x t h.0, all_have xs t h.1)

    option_has : (x : Option Var) (t : Base) → OptionHas g x t → OptionHas (bases_mapped f g) (option_map f x) t
    option_has None t h = tt
    option_has (Some x) t h = has x t h

    literal_has : (xs : List Var) (t : Base) → LiteralBase g xs t → LiteralBase (bases_mapped f g) (map f xs) t
    literal_has [] t h = h
    literal_has (x ∷ xs) t h = all_have (x ∷ xs) t h

    plain_has : (p : PlainTerm) (ts : List Base) → PlainBases g p ts → PlainBases (bases_mapped f g) (plain_with f p) ts
    plain_has (PlainTerm.Const a) ts h = h
    plain_has (PlainTerm.Copy x) ts h = (h.0, has x h.0 h.1, h.2)
    plain_has (PlainTerm.Unary o x) ts h = (h.0, (h.1.0, has x h.0 h.1.1, h.1.2, h.1.3))
    plain_has (PlainTerm.Binary o x y) ts h = (h.0, (h.1.0, has x h.0 h.1.1, has y h.0 h.1.2, h.1.3, h.1.4))
    plain_has (PlainTerm.Literal xs) ts h = (h.0, literal_has xs h.0 h.1, h.2)
    plain_has (PlainTerm.Dim x) ts h = (h.0, has x h.0 h.1, h.2)
    plain_has (PlainTerm.ShapeOf x) ts h = (h.0, has x h.0 h.1, h.2)
    plain_has (PlainTerm.Reshape x y) ts h = (h.0, has x Int h.1, has y h.0 h.2, h.3)
    plain_has (PlainTerm.Select x y) ts h = (h.0, has x h.0 h.1, has y Int h.2, h.3)
    plain_has (PlainTerm.Replace x y z) ts h = (h.0, has x h.0 h.1, has y Int h.2, has z h.0 h.3, h.4)
    plain_has (PlainTerm.Always kind) ts h = tt
    plain_has (PlainTerm.Check x ty) ts h = (has x ty.base h.0, h.1)

    operation_has : (o : CoreOp) (t : Base) → OperationBase g o t → OperationBase (bases_mapped f g) (core_op_with f o) t
    operation_has (making.Genarray x y) t h = (has x Int h.0, has y t h.1)
    operation_has (making.Modarray x) t h = has x t h
    operation_has (making.Fold o x) t h = (has x t h.0, h.1)

    parted_has : (o : PartedOp) (t : Base) → PartedBase g o t → PartedBase (bases_mapped f g) (parted_op_with f o) t
    parted_has parted.Genarray t h = tt
    parted_has (parted.Modarray x) t h = has x t h
    parted_has (parted.Fold o x) t h = (has x t h.0, h.1)

  module _ (core : CoreTerm) where
    under : (xs : List Var) (us : List Base) (g : Bases) (c : BlockTerm) (ts : List Base) → BlockBases core (bases_mapped f (zip xs us ++ g)) c ts → BlockBases core (zip (map f xs) us ++ bases_mapped f g) c ts
    under xs us g c ts h = subst (λ (k : Bases). BlockBases core k c ts) (sym (zip_mapped f xs us g)) h

    mutual
      pub block_has : (b : BlockTerm) (g : Bases) (ts : List Base) → BlockBases core g b ts → BlockBases core (bases_mapped f g) (mapped f b) ts
      block_has (Gives xs) g ts h = has_all g xs ts h
      block_has (Bind xs s r b) g ts h = (h.0, (right_has r g h.0 h.1.0, lengths_mapped f xs h.0 h.1.1, under xs h.0 g (mapped f b) ts (block_has b (zip xs h.0 ++ g) ts h.1.2)))

      right_has : (r : RightTerm) (g : Bases) (ts : List Base) → RightBases core g r ts → RightBases core (bases_mapped f g) (mapped_right f r) ts
      right_has (Plain p) g ts h = plain_has g p ts h
      right_has (RightTerm.If x a b) g ts h = (has g x Truth h.0, block_has a g ts h.1, block_has b g ts h.2)
      right_has (RightTerm.Loop first start params test body s) g ts h =
          (has_all g start ts h.0, lengths_mapped f params ts h.1, under params ts g (mapped f test) (Truth ∷ []) (block_has test (zip params ts ++ g) (Truth ∷ []) h.2), under params ts g (mapped f body) ts (block_has body (zip params ts ++ g) ts h.3))
      right_has (RightTerm.Call group xs) g ts h = (h.0, (has_all g xs h.0 h.1.0, h.1.1))
      right_has (RightTerm.With o gens) g ts h = (h.0, (operation_has g o h.0 h.1.0, gens_have gens g h.0 h.1.1, h.1.2))
      right_has (RightTerm.Parted frame t cell o parts) g ts h =
          (parted_has g o t h.0, parts_have parts g t h.1, subst (λ (gs : List (List Grid1)). PartedFits (parted_op_with f o) frame cell gs) (sym (grids_mapped f parts)) (fits_mapped f o frame cell (part_grids parts) h.2), h.3)

      gens_have : (gs : GensTerm) (g : Bases) (t : Base) → GensBases core g gs t → GensBases core (bases_mapped f g) (mapped_gens f gs) t
      gens_have NoGens g t h = tt
      gens_have (Gen k b rest) g t h = (
        option_has g k.lower Int h.0,
        option_has g k.upper Int h.1,
        option_has g k.step Int h.2,
        option_has g k.width Int h.3,
        subst (λ (z : Bases). BlockBases core z (mapped f b) (t ∷ [])) (sym (ints_mapped f (k.index ∷ k.names) g)) (block_has b (ints (k.index ∷ k.names) ++ g) (t ∷ []) h.4),
        gens_have rest g t h.5,
      )

      parts_have : (ps : PartsTerm) (g : Bases) (t : Base) → PartsBases core g ps t → PartsBases core (bases_mapped f g) (mapped_parts f ps) t
      parts_have NoParts g t h = tt
      parts_have (Part k b rest) g t h = (block_has b ((k.index, Int) ∷ g) (t ∷ []) h.0, parts_have rest g t h.1)
