-- Checks that cannot fail may be copies.
use Rattle.std.proofs.Common.{◌≡◌, ℕ, Bool, true, false, ◌&&◌, List, [], ◌∷◌, ◌++◌, Option, Some, None, Ok, refl, sym, ap, ◌∙◌, ℤ}
use Rattle.std.specs.Prelude.{if◌then◌else◌, zip}
use Rattle.std.proofs.lemmas.Slice.Eq.{bytes_eq-Decides}
use Rattle.sac_base.specs.declared.base.Base.{Base}
use Rattle.sac_base.specs.declared.base.Base.TheVariants.{Int, Bool as Truth}
use Rattle.sac_base.specs.declared.faults.FaultKind.TheVariants.{F7}
use Rattle.sac_base.specs.declared.site.Site.{Site}
use Rattle.sac_base.specs.declared.types.Part.{Part as TypePart}
use Rattle.sac_base.specs.declared.types.Part.TheVariants as part
use Rattle.sac_base.specs.Arrays.{ArrayValue, same_base}
use Rattle.sac_base.specs.Outcomes.{and_then, at_site}
use Rattle.sac_base.specs.Types.{has, has_shape}
use Rattle.core_ir.specs.declared.tree.Var.{Var}
use Rattle.core_ir.specs.Binders.{bound_in, bound_in_right, bound_in_gens, bound_in_parts}
use Rattle.core_ir.specs.Meaning.{Env, CallMeaning, bind_all, first, one, plain_value, run, right_value, generators, cells}
use Rattle.core_ir.specs.Scopes.{Scoped, ScopedRight, ScopedGens, ScopedParts}
use Rattle.core_ir.specs.Terms.{PlainTerm, BlockTerm, RightTerm, GensTerm, PartsTerm, CoreTerm, Gives, Bind, Plain, NoGens, Gen, NoParts, Part}
use Rattle.core_ir.specs.WellFormed.{Bases, BlockBases, GensBases, PartedFits, PartsBases, PlainBases, RightBases, calls_in, calls_in_right, calls_in_gens, calls_in_parts, ints, part_grids}
use Rattle.core_ir.proofs.Edited.{then_same, SameCells}
use Rattle.core_facts.specs.Facts.{Facts, ShapeIs, AreSound, CallsFit, block_facts, common_facts, found, in_part, is_constant, is_some, note_all, plain_fact, plain_literal, right_facts, type_shape, values, when}
use Rattle.core_facts.specs.Settled.{IsSettled, IsSettledRight, IsSettledGens, IsSettledParts}
use Rattle.core_facts.proofs.Literals.{no_value}
use Rattle.core_facts.specs.bases.Typed.{CallsTyped, Typed}
use Rattle.core_forms.specs.cleaning.Checks.{shape_fits, fits, unchecked_plain, unchecked, unchecked_right, unchecked_gens, unchecked_parts}
use Rattle.core_forms.proofs.cleaning.Places.{At, RightAt, GensAt, PartsAt, right_at, after_bind, same_if, same_loop, same_with, same_parted, same_gen, same_part}

-- ---- what it says that a shape fits

part_says : (p : TypePart) (s : List ℕ) → has_shape p s ≡ true → type_shape p (Some s) ≡ Some s
part_says (part.Known t) s h = ap Some ((bytes_eq-Decides t s).0 h)
part_says (part.Rank n) s h = λ i. if h i then Some s else None
part_says part.Plus s h = λ i. if h i then Some s else None
part_says part.Star s h = refl

fits_says : (p : TypePart) (l : Option ArrayValue) (s : Option (List ℕ)) → (if is_some l then false else shape_fits p s) ≡ true → (l ≡ None) × (type_shape p s ≡ s) × (shape_fits p s ≡ true)
fits_says p (Some v) s h = absurd (cc)
fits_says p None None h = absurd (cc)
fits_says p None (Some s) h = (refl, part_says p s h, h)

has_it : (p : TypePart) (s : Option (List ℕ)) (a : ArrayValue) → ShapeIs s a → shape_fits p s ≡ true → has_shape p a.shape ≡ true
has_it p None a h q = absurd (cc)
has_it p (Some s) a h q = ap (has_shape p) h ∙ q

own_base : (t : Base) → same_base t t ≡ true
own_base Int = refl
own_base Truth = refl

-- ---- right sides without blocks and calls

-- as much is known of the copy
pub same_plain_fact : (p : PlainTerm) (k : Facts) → plain_fact (unchecked_plain p k) k ≡ plain_fact p k
same_plain_fact (PlainTerm.Const a) k = refl
same_plain_fact (PlainTerm.Copy x) k = refl
same_plain_fact (PlainTerm.Unary o x) k = refl
same_plain_fact (PlainTerm.Binary o x y) k = refl
same_plain_fact (PlainTerm.Literal xs) k = refl
same_plain_fact (PlainTerm.Dim x) k = refl
same_plain_fact (PlainTerm.ShapeOf x) k = refl
same_plain_fact (PlainTerm.Reshape x y) k = refl
same_plain_fact (PlainTerm.Select x y) k = refl
same_plain_fact (PlainTerm.Replace x y z) k = refl
same_plain_fact (PlainTerm.Always kind) k = refl
same_plain_fact (PlainTerm.Check x ty) k = go (fits ty (k x)) refl
  where
    go : (b : Bool) → fits ty (k x) ≡ b → plain_fact (if b then PlainTerm.Copy x else PlainTerm.Check x ty) k ≡ plain_fact (PlainTerm.Check x ty) k
    go false e = refl
    go true e =
        let w = fits_says ty.part (k x).literal (k x).shape e in
        let lit : (k x).literal ≡ plain_literal (PlainTerm.Check x ty) k =
        w.0 ∙ (λ i. when (is_some (sym w.0 i) && true) (found (plain_value (PlainTerm.Check x ty) (values k)))) in
        λ i. record { shape = sym w.1 i; literal = lit i; constant = false }

same_plain : (p : PlainTerm) (g : Bases) (ts : List Base) (k : Facts) (e : Env) → PlainBases g p ts → Typed g e → AreSound k e → plain_value (unchecked_plain p k) e ≡ plain_value p e
same_plain (PlainTerm.Const a) g ts k e b t h = refl
same_plain (PlainTerm.Copy x) g ts k e b t h = refl
same_plain (PlainTerm.Unary o x) g ts k e b t h = refl
same_plain (PlainTerm.Binary o x y) g ts k e b t h = refl
same_plain (PlainTerm.Literal xs) g ts k e b t h = refl
same_plain (PlainTerm.Dim x) g ts k e b t h = refl
same_plain (PlainTerm.ShapeOf x) g ts k e b t h = refl
same_plain (PlainTerm.Reshape x y) g ts k e b t h = refl
same_plain (PlainTerm.Select x y) g ts k e b t h = refl
same_plain (PlainTerm.Replace x y z) g ts k e b t h = refl
same_plain (PlainTerm.Always kind) g ts k e b t h = refl
same_plain (PlainTerm.Check x ty) g ts k e b t h = go (fits ty (k x)) refl
  where
    go : (c : Bool) → fits ty (k x) ≡ c → plain_value (if c then PlainTerm.Copy x else PlainTerm.Check x ty) e ≡ plain_value (PlainTerm.Check x ty) e
    go false m = refl
    go true m =
        let w = fits_says ty.part (k x).literal (k x).shape m in
        let based : same_base ty.base (e x).base ≡ true = ap (same_base ty.base) (t x ty.base b.0) ∙ own_base ty.base in
        let has_all : has ty (e x) ≡ true = (λ i. based i && has_it ty.part (k x).shape (e x) (h x).shape w.2 i) in
        sym (λ i. if has_all i then Ok (e x) else Rattle.std.specs.Prelude.Err F7)

plain_kept : (p : PlainTerm) (g : Bases) (ts : List Base) (k : Facts) → PlainBases g p ts → PlainBases g (unchecked_plain p k) ts
plain_kept (PlainTerm.Const a) g ts k b = b
plain_kept (PlainTerm.Copy x) g ts k b = b
plain_kept (PlainTerm.Unary o x) g ts k b = b
plain_kept (PlainTerm.Binary o x y) g ts k b = b
plain_kept (PlainTerm.Literal xs) g ts k b = b
plain_kept (PlainTerm.Dim x) g ts k b = b
plain_kept (PlainTerm.ShapeOf x) g ts k b = b
plain_kept (PlainTerm.Reshape x y) g ts k b = b
plain_kept (PlainTerm.Select x y) g ts k b = b
plain_kept (PlainTerm.Replace x y z) g ts k b = b
plain_kept (PlainTerm.Always kind) g ts k b = b
plain_kept (PlainTerm.Check x ty) g ts k b = go (fits ty (k x))
  where
    go : (c : Bool) → PlainBases g (if c then PlainTerm.Copy x else PlainTerm.Check x ty) ts
    go false = b
    go true = (ty.base, b.0, b.1)

plain_scoped : (p : PlainTerm) (k : Facts) (scope : List Var) → ScopedRight scope (Plain p) → ScopedRight scope (Plain (unchecked_plain p k))
plain_scoped (PlainTerm.Const a) k scope h = h
plain_scoped (PlainTerm.Copy x) k scope h = h
plain_scoped (PlainTerm.Unary o x) k scope h = h
plain_scoped (PlainTerm.Binary o x y) k scope h = h
plain_scoped (PlainTerm.Literal xs) k scope h = h
plain_scoped (PlainTerm.Dim x) k scope h = h
plain_scoped (PlainTerm.ShapeOf x) k scope h = h
plain_scoped (PlainTerm.Reshape x y) k scope h = h
plain_scoped (PlainTerm.Select x y) k scope h = h
plain_scoped (PlainTerm.Replace x y z) k scope h = h
plain_scoped (PlainTerm.Always kind) k scope h = h
plain_scoped (PlainTerm.Check x ty) k scope h = go (fits ty (k x))
  where
    go : (c : Bool) → ScopedRight scope (Plain (if c then PlainTerm.Copy x else PlainTerm.Check x ty))
    go false = h
    go true = h

-- no other literal variable appears
plain_settled : (p : PlainTerm) (k : Facts) → ((v : ArrayValue) → plain_literal p k ≡ Some v → is_constant p ≡ true) → (v : ArrayValue) → plain_literal (unchecked_plain p k) k ≡ Some v → is_constant (unchecked_plain p k) ≡ true
plain_settled (PlainTerm.Const a) k h = h
plain_settled (PlainTerm.Copy x) k h = h
plain_settled (PlainTerm.Unary o x) k h = h
plain_settled (PlainTerm.Binary o x y) k h = h
plain_settled (PlainTerm.Literal xs) k h = h
plain_settled (PlainTerm.Dim x) k h = h
plain_settled (PlainTerm.ShapeOf x) k h = h
plain_settled (PlainTerm.Reshape x y) k h = h
plain_settled (PlainTerm.Select x y) k h = h
plain_settled (PlainTerm.Replace x y z) k h = h
plain_settled (PlainTerm.Always kind) k h = h
plain_settled (PlainTerm.Check x ty) k h = go (fits ty (k x)) refl
  where
    go : (c : Bool) → fits ty (k x) ≡ c → (v : ArrayValue) → plain_literal (if c then PlainTerm.Copy x else PlainTerm.Check x ty) k ≡ Some v → is_constant (if c then PlainTerm.Copy x else PlainTerm.Check x ty) ≡ true
    go false m v q = h v q
    go true m v q = absurd (no_value v (sym (fits_says ty.part (k x).literal (k x).shape m).0 ∙ q))

-- ---- blocks

module _ (called : ℕ → List (Option (List ℕ))) where
  mutual
    pub same_block_facts : (b : BlockTerm) (k : Facts) → block_facts called (unchecked called b k) k ≡ block_facts called b k
    same_block_facts (Gives xs) k = refl
    same_block_facts (Bind xs s r b) k =
        let n = note_all k xs (right_facts called r k) in
        (λ i. block_facts called (unchecked called b n) (note_all k xs (same_right_facts r k i))) ∙ same_block_facts b n

    pub same_right_facts : (r : RightTerm) (k : Facts) → right_facts called (unchecked_right called r k) k ≡ right_facts called r k
    same_right_facts (Plain p) k = λ i. same_plain_fact p k i ∷ []
    same_right_facts (RightTerm.If x a b) k = λ i. common_facts (same_block_facts a k i) (same_block_facts b k i)
    same_right_facts (RightTerm.Loop first start params test body s) k = refl
    same_right_facts (RightTerm.Call g xs) k = refl
    same_right_facts (RightTerm.With o gens) k = refl
    same_right_facts (RightTerm.Parted frame base cell o parts) k = refl

  mutual
    pub still_settled : (b : BlockTerm) (k : Facts) → IsSettled called b k → IsSettled called (unchecked called b k) k
    still_settled (Gives xs) k h = tt
    still_settled (Bind xs s r b) k h =
        let n = note_all k xs (right_facts called r k) in
        let there : IsSettled called (unchecked called b n) (note_all k xs (right_facts called (unchecked_right called r k) k)) =
        Rattle.std.proofs.Common.subst (λ fs. IsSettled called (unchecked called b n) (note_all k xs fs)) (sym (same_right_facts r k)) (still_settled b n h.1) in
        (still_settled_right r k h.0, there)

    still_settled_right : (r : RightTerm) (k : Facts) → IsSettledRight called r k → IsSettledRight called (unchecked_right called r k) k
    still_settled_right (Plain p) k h = plain_settled p k h
    still_settled_right (RightTerm.If x a b) k h = (still_settled a k h.0, still_settled b k h.1)
    still_settled_right (RightTerm.Loop first start params test body s) k h = (still_settled test (note_all k params []) h.0, still_settled body (note_all k params []) h.1)
    still_settled_right (RightTerm.Call g xs) k h = tt
    still_settled_right (RightTerm.With o gens) k h = still_settled_gens gens k h
    still_settled_right (RightTerm.Parted frame base cell o parts) k h = still_settled_parts parts k h

    still_settled_gens : (g : GensTerm) (k : Facts) → IsSettledGens called g k → IsSettledGens called (unchecked_gens called g k) k
    still_settled_gens NoGens k h = tt
    still_settled_gens (Gen j b rest) k h = (still_settled b (note_all k (j.index ∷ j.names) []) h.0, still_settled_gens rest k h.1)

    still_settled_parts : (g : PartsTerm) (k : Facts) → IsSettledParts called g k → IsSettledParts called (unchecked_parts called g k) k
    still_settled_parts NoParts k h = tt
    still_settled_parts (Part j b rest) k h = (still_settled b (in_part k j) h.0, still_settled_parts rest k h.1)

  pub grids_kept : (ps : PartsTerm) (k : Facts) → part_grids (unchecked_parts called ps k) ≡ part_grids ps
  grids_kept NoParts k = refl
  grids_kept (Part h b rest) k = ap (λ gs. h.grid ∷ gs) (grids_kept rest k)

  mutual
    pub bound_kept : (b : BlockTerm) (k : Facts) → bound_in (unchecked called b k) ≡ bound_in b
    bound_kept (Gives xs) k = refl
    bound_kept (Bind xs s r b) k = λ i. xs ++ (bound_kept_right r k i ++ bound_kept b (note_all k xs (right_facts called r k)) i)

    bound_kept_right : (r : RightTerm) (k : Facts) → bound_in_right (unchecked_right called r k) ≡ bound_in_right r
    bound_kept_right (Plain p) k = refl
    bound_kept_right (RightTerm.If x a b) k = λ i. bound_kept a k i ++ bound_kept b k i
    bound_kept_right (RightTerm.Loop first start params test body s) k = λ i. params ++ (bound_kept test (note_all k params []) i ++ bound_kept body (note_all k params []) i)
    bound_kept_right (RightTerm.Call g xs) k = refl
    bound_kept_right (RightTerm.With o gens) k = bound_kept_gens gens k
    bound_kept_right (RightTerm.Parted f t c o parts) k = bound_kept_parts parts k

    bound_kept_gens : (gs : GensTerm) (k : Facts) → bound_in_gens (unchecked_gens called gs k) ≡ bound_in_gens gs
    bound_kept_gens NoGens k = refl
    bound_kept_gens (Gen h b rest) k = λ i. (h.index ∷ h.names) ++ (bound_kept b (note_all k (h.index ∷ h.names) []) i ++ bound_kept_gens rest k i)

    bound_kept_parts : (ps : PartsTerm) (k : Facts) → bound_in_parts (unchecked_parts called ps k) ≡ bound_in_parts ps
    bound_kept_parts NoParts k = refl
    bound_kept_parts (Part h b rest) k = λ i. (h.index ∷ []) ++ (bound_kept b (in_part k h) i ++ bound_kept_parts rest k i)

  mutual
    pub calls_kept : (b : BlockTerm) (k : Facts) → calls_in (unchecked called b k) ≡ calls_in b
    calls_kept (Gives xs) k = refl
    calls_kept (Bind xs s r b) k = λ i. calls_kept_right r k i ++ calls_kept b (note_all k xs (right_facts called r k)) i

    calls_kept_right : (r : RightTerm) (k : Facts) → calls_in_right (unchecked_right called r k) ≡ calls_in_right r
    calls_kept_right (Plain p) k = refl
    calls_kept_right (RightTerm.If x a b) k = λ i. calls_kept a k i ++ calls_kept b k i
    calls_kept_right (RightTerm.Loop first start params test body s) k = λ i. calls_kept test (note_all k params []) i ++ calls_kept body (note_all k params []) i
    calls_kept_right (RightTerm.Call g xs) k = refl
    calls_kept_right (RightTerm.With o gens) k = calls_kept_gens gens k
    calls_kept_right (RightTerm.Parted f t c o parts) k = calls_kept_parts parts k

    calls_kept_gens : (gs : GensTerm) (k : Facts) → calls_in_gens (unchecked_gens called gs k) ≡ calls_in_gens gs
    calls_kept_gens NoGens k = refl
    calls_kept_gens (Gen h b rest) k = λ i. calls_kept b (note_all k (h.index ∷ h.names) []) i ++ calls_kept_gens rest k i

    calls_kept_parts : (ps : PartsTerm) (k : Facts) → calls_in_parts (unchecked_parts called ps k) ≡ calls_in_parts ps
    calls_kept_parts NoParts k = refl
    calls_kept_parts (Part h b rest) k = λ i. calls_kept b (in_part k h) i ++ calls_kept_parts rest k i

  mutual
    pub scoped_kept : (b : BlockTerm) (k : Facts) (scope : List Var) → Scoped scope b → Scoped scope (unchecked called b k)
    scoped_kept (Gives xs) k scope h = h
    scoped_kept (Bind xs s r b) k scope h = (scoped_kept_right r k scope h.0, h.1, scoped_kept b (note_all k xs (right_facts called r k)) (xs ++ scope) h.2)

    scoped_kept_right : (r : RightTerm) (k : Facts) (scope : List Var) → ScopedRight scope r → ScopedRight scope (unchecked_right called r k)
    scoped_kept_right (Plain p) k scope h = plain_scoped p k scope h
    scoped_kept_right (RightTerm.If x a b) k scope h = (h.0, scoped_kept a k scope h.1, scoped_kept b k scope h.2)
    scoped_kept_right (RightTerm.Loop first start params test body s) k scope h =
        (h.0, h.1, scoped_kept test (note_all k params []) (params ++ scope) h.2, scoped_kept body (note_all k params []) (params ++ scope) h.3)
    scoped_kept_right (RightTerm.Call g xs) k scope h = h
    scoped_kept_right (RightTerm.With o gens) k scope h = (h.0, scoped_kept_gens gens k scope h.1)
    scoped_kept_right (RightTerm.Parted f t c o parts) k scope h = (h.0, scoped_kept_parts parts k scope h.1)

    scoped_kept_gens : (gs : GensTerm) (k : Facts) (scope : List Var) → ScopedGens scope gs → ScopedGens scope (unchecked_gens called gs k)
    scoped_kept_gens NoGens k scope h = tt
    scoped_kept_gens (Gen j b rest) k scope h = (h.0, h.1, scoped_kept b (note_all k (j.index ∷ j.names) []) ((j.index ∷ j.names) ++ scope) h.2, scoped_kept_gens rest k scope h.3)

    scoped_kept_parts : (ps : PartsTerm) (k : Facts) (scope : List Var) → ScopedParts scope ps → ScopedParts scope (unchecked_parts called ps k)
    scoped_kept_parts NoParts k scope h = tt
    scoped_kept_parts (Part j b rest) k scope h = (h.0, scoped_kept b (in_part k j) (j.index ∷ scope) h.1, scoped_kept_parts rest k scope h.2)

  module _ (core : CoreTerm) where
    mutual
      pub block_kept : (b : BlockTerm) (g : Bases) (k : Facts) (ts : List Base) → BlockBases core g b ts → BlockBases core g (unchecked called b k) ts
      block_kept (Gives xs) g k ts h = h
      block_kept (Bind xs s r b) g k ts h =
          (h.0, (right_kept r g k h.0 h.1.0, h.1.1, block_kept b (zip xs h.0 ++ g) (note_all k xs (right_facts called r k)) ts h.1.2))

      right_kept : (r : RightTerm) (g : Bases) (k : Facts) (ts : List Base) → RightBases core g r ts → RightBases core g (unchecked_right called r k) ts
      right_kept (Plain p) g k ts h = plain_kept p g ts k h
      right_kept (RightTerm.If x a b) g k ts h = (h.0, block_kept a g k ts h.1, block_kept b g k ts h.2)
      right_kept (RightTerm.Loop first start params test body s) g k ts h =
          (h.0, h.1, block_kept test (zip params ts ++ g) (note_all k params []) (Truth ∷ []) h.2, block_kept body (zip params ts ++ g) (note_all k params []) ts h.3)
      right_kept (RightTerm.Call group xs) g k ts h = h
      right_kept (RightTerm.With o gens) g k ts h = (h.0, (h.1.0, gens_kept gens g k h.0 h.1.1, h.1.2))
      right_kept (RightTerm.Parted frame t cell o parts) g k ts h =
          (h.0, parts_kept parts g k t h.1, Rattle.std.proofs.Common.subst (λ gs. PartedFits o frame cell gs) (sym (grids_kept parts k)) h.2, h.3)

      gens_kept : (gs : GensTerm) (g : Bases) (k : Facts) (t : Base) → GensBases core g gs t → GensBases core g (unchecked_gens called gs k) t
      gens_kept NoGens g k t h = tt
      gens_kept (Gen j b rest) g k t h =
          (h.0, h.1, h.2, h.3, block_kept b (ints (j.index ∷ j.names) ++ g) (note_all k (j.index ∷ j.names) []) (t ∷ []) h.4, gens_kept rest g k t h.5)

      parts_kept : (ps : PartsTerm) (g : Bases) (k : Facts) (t : Base) → PartsBases core g ps t → PartsBases core g (unchecked_parts called ps k) t
      parts_kept NoParts g k t h = tt
      parts_kept (Part j b rest) g k t h = (block_kept b ((j.index, Int) ∷ g) (in_part k j) (t ∷ []) h.0, parts_kept rest g k t h.1)

-- ---- the meaning

module _ (core : CoreTerm) (calls : CallMeaning) (turns : ℕ) (typed : CallsTyped core calls) (called : ℕ → List (Option (List ℕ))) (fit : CallsFit called calls) where
  mutual
    pub block_same : (b : BlockTerm) (g : Bases) (ts : List Base) (k : Facts) (e : Env) → At core calls turns g ts k b e → run calls turns (unchecked called b k) e ≡ run calls turns b e
    block_same (Gives xs) g ts k e a = refl
    block_same (Bind xs s r b) g ts k e a =
        let n = note_all k xs (right_facts called r k) in
        (λ i. and_then (right_same r s g a.bases.0 k e (right_at core calls turns typed called fit xs s r b g ts k e a) i) (λ vs. run calls turns (unchecked called b n) (bind_all e xs vs)))
        ∙ then_same (right_value calls turns r s e) (λ vs. run calls turns (unchecked called b n) (bind_all e xs vs)) (λ vs. run calls turns b (bind_all e xs vs))
        (λ vs q. block_same b (zip xs a.bases.0 ++ g) ts n (bind_all e xs vs) (after_bind core calls turns typed called fit xs s r b g ts k e vs a q))

    right_same : (r : RightTerm) (s : Site) (g : Bases) (ts : List Base) (k : Facts) (e : Env) → RightAt core calls turns g ts k r e → right_value calls turns (unchecked_right called r k) s e ≡ right_value calls turns r s e
    right_same (Plain p) s g ts k e a = λ i. one (at_site s (same_plain p g ts k e a.bases a.typed a.sound i))
    right_same (RightTerm.If x b c) s g ts k e a = same_if core calls turns typed called fit x b c (unchecked called b k) (unchecked called c k) s g ts k e (block_same b g ts k) (block_same c g ts k) a
    right_same (RightTerm.Loop fb start params test body u) s g ts k e a =
        let n = note_all k params [] in
        same_loop core calls turns typed called fit fb start params test body (unchecked called test n) (unchecked called body n) u s g ts k e (block_same test (zip params ts ++ g) (Truth ∷ []) n) (block_same body (zip params ts ++ g) ts n) a
    right_same (RightTerm.Call group xs) s g ts k e a = refl
    right_same (RightTerm.With op gens) s g ts k e a = same_with core calls turns typed called fit op gens (unchecked_gens called gens k) s g ts k e (λ t. gens_same gens g t k e) a
    right_same (RightTerm.Parted f t shape op parts) s g ts k e a = same_parted core calls turns typed called fit f t shape op parts (unchecked_parts called parts k) s g ts k e (parts_same parts g t k e) a

    gens_same : (gs : GensTerm) (g : Bases) (t : Base) (k : Facts) (e : Env) → GensAt core calls turns g t k gs e → generators calls turns (unchecked_gens called gs k) e ≡ generators calls turns gs e
    gens_same NoGens g t k e a = refl
    gens_same (Gen j b rest) g t k e a =
        let n = note_all k (j.index ∷ j.names) [] in
        same_gen core calls turns typed called fit j b (unchecked called b n) rest (unchecked_gens called rest k) g t k e (block_same b (ints (j.index ∷ j.names) ++ g) (t ∷ []) n) (gens_same rest g t k e) a

    parts_same : (ps : PartsTerm) (g : Bases) (t : Base) (k : Facts) (e : Env) → PartsAt core calls turns g t k ps e → SameCells (cells calls turns (unchecked_parts called ps k) e) (cells calls turns ps e)
    parts_same NoParts g t k e a = tt
    parts_same (Part j b rest) g t k e a =
        same_part core calls turns typed called fit j b (unchecked called b (in_part k j)) rest (unchecked_parts called rest k) g t k e (block_same b ((j.index, Int) ∷ g) (t ∷ []) (in_part k j)) (parts_same rest g t k e) a
