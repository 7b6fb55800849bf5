-- Cores in which one function has another body.
use Rattle.std.proofs.Common.{◌≡◌, ℕ, zero, suc, ◌^◌, ◌<◌, List, [], ◌∷◌, ◌++◌, map, length, zip, get_or, Some, refl, sym, ap, subst, ◌∙◌, ◌⊎◌, inl, inr, arith}
use Rattle.std.specs.Prelude.{All, Contains, slice_get, unwrap_or}
use Rattle.std.proofs.lemmas.Option.{slice_get_within}
use Rattle.std.proofs.lemmas.List.Elements.{All-append, All-contains}
use Rattle.sac_base.specs.declared.base.Base.{Base}
use Rattle.sac_base.specs.declared.base.Base.TheVariants.{Int, Bool as Truth}
use Rattle.sac_base.specs.declared.types.ArrayType.{ArrayType}
use Rattle.core_ir.specs.declared.tree.Var.{Var}
use Rattle.core_ir.specs.Terms.{BlockTerm, RightTerm, GensTerm, PartsTerm, FunTerm, CoreTerm, Gives, Bind, Plain, NoGens, Gen, NoParts, Part}
use Rattle.core_ir.specs.WellFormed.{Bases, bases, ints, param_bases, GroupBases, BlockBases, RightBases, GensBases, PartsBases, IsFunction, IsWellFormed, PlacesShare, CallsBackward}
use Rattle.core_ir.specs.WellFormed.{calls_in, calls_in_right, calls_in_gens, calls_in_parts}
use Rattle.core_facts.specs.calls.Nests.{CallsAll, CallsAllRight, CallsAllGens, CallsAllParts, StandsIn, InlineBelow, CallsBelow}
use Rattle.core_facts.specs.calls.Replaced.{replaced_at}
use Rattle.core_facts.proofs.bases.Moved.{moved}
use Rattle.core_facts.proofs.calls.Nested.{same_count}
use Rattle.core_facts.proofs.calls.Replaced.{heads_kept, at_place}

-- ---- the calls in a block

module _ (P : ℕ → Type 0) where
  one_call : (g : ℕ) → P g → All P (g ∷ [])
  one_call g p zero d l = p
  one_call g p (suc k) d l = absurd (omega arith)

  no_call : All P []
  no_call k d l = absurd (omega arith)

  mutual
    pub from_calls : (b : BlockTerm) → CallsAll P b → All P (calls_in b)
    from_calls (Gives xs) h = no_call
    from_calls (Bind xs s r b) h = All-append P (calls_in_right r) (calls_in b) (from_right r h.0) (from_calls b h.1)

    from_right : (r : RightTerm) → CallsAllRight P r → All P (calls_in_right r)
    from_right (Plain p) h = no_call
    from_right (RightTerm.If x a b) h = All-append P (calls_in a) (calls_in b) (from_calls a h.0) (from_calls b h.1)
    from_right (RightTerm.Loop first start params a b s) h = All-append P (calls_in a) (calls_in b) (from_calls a h.0) (from_calls b h.1)
    from_right (RightTerm.Call g xs) h = one_call g h
    from_right (RightTerm.With o gens) h = from_gens gens h
    from_right (RightTerm.Parted f t c o parts) h = from_parts parts h

    from_gens : (g : GensTerm) → CallsAllGens P g → All P (calls_in_gens g)
    from_gens NoGens h = no_call
    from_gens (Gen k b rest) h = All-append P (calls_in b) (calls_in_gens rest) (from_calls b h.0) (from_gens rest h.1)

    from_parts : (g : PartsTerm) → CallsAllParts P g → All P (calls_in_parts g)
    from_parts NoParts h = no_call
    from_parts (Part k b rest) h = All-append P (calls_in b) (calls_in_parts rest) (from_calls b h.0) (from_parts rest h.1)

-- ---- groups that are called are there

module _ (core : CoreTerm) where
  abbrev There : ℕ → Type 0
  There g = g < length core.groups

  mutual
    pub there : (b : BlockTerm) (g : Bases) (us : List Base) → BlockBases core g b us → CallsAll (λ group. group < length core.groups) b
    there (Gives xs) g us h = tt
    there (Bind xs s r b) g us h = (there_right r g h.0 h.1.0, there b (zip xs h.0 ++ g) us h.1.2)

    there_right : (r : RightTerm) (g : Bases) (us : List Base) → RightBases core g r us → CallsAllRight (λ group. group < length core.groups) r
    there_right (Plain p) g us h = tt
    there_right (RightTerm.If x c d) g us h = (there c g us h.1, there d g us h.2)
    there_right (RightTerm.Loop first start params c d s) g us h = (there c (zip params us ++ g) (Truth ∷ []) h.2, there d (zip params us ++ g) us h.3)
    there_right (RightTerm.Call group xs) g us h = slice_get_within core.groups group h.1.1.0 h.1.1.1.1.1.0
    there_right (RightTerm.With o gens) g us h = there_gens gens g h.0 h.1.1
    there_right (RightTerm.Parted f t c o parts) g us h = there_parts parts g t h.1

    there_gens : (gs : GensTerm) (g : Bases) (t : Base) → GensBases core g gs t → CallsAllGens (λ group. group < length core.groups) gs
    there_gens NoGens g t h = tt
    there_gens (Gen k c rest) g t h = (there c (ints (k.index ∷ k.names) ++ g) (t ∷ []) h.4, there_gens rest g t h.5)

    there_parts : (ps : PartsTerm) (g : Bases) (t : Base) → PartsBases core g ps t → CallsAllParts (λ group. group < length core.groups) ps
    there_parts NoParts g t h = tt
    there_parts (Part k c rest) g t h = (there c ((k.index, Int) ∷ g) (t ∷ []) h.0, there_parts rest g t h.1)

-- ---- one function changed

pub record Alike (f g : FunTerm) : Type 0 where
  pub params : f.params ≡ g.params
  pub results : f.results ≡ g.results
  pub inlines : f.is_inline ≡ g.is_inline

abbrev pub stepped : CoreTerm → ℕ → FunTerm → BlockTerm → CoreTerm
stepped a n f c = record a { functions = replaced_at a.functions n (record f { body = c }) }

pub all_replaced : (P : FunTerm → Type 0) (fs : List FunTerm) (n : ℕ) (g : FunTerm) → All P fs → P g → All P (replaced_at fs n g)
all_replaced P [] n g h p = h
all_replaced P (f ∷ fs) zero g h p = λ k d l. go k d l
  where
    go : (k : ℕ) (d : FunTerm) → k < length (g ∷ fs) → P (get_or (g ∷ fs) k d)
    go zero d l = p
    go (suc k) d l = h (suc k) d l
all_replaced P (f ∷ fs) (suc n) g h p = λ k d l. go (all_replaced P fs n g (λ k d l. h (suc k) d (omega (arith, l))) p) k d l
  where
    go : All P (replaced_at fs n g) → (k : ℕ) (d : FunTerm) → k < length (f ∷ replaced_at fs n g) → P (get_or (f ∷ replaced_at fs n g) k d)
    go rest zero d l = h zero d (omega arith)
    go rest (suc k) d l = rest k d (omega (arith, l))

pub stands : (ns : List ℕ) (n : ℕ) → Contains ns n → StandsIn ns n
stands ns n c = go ns c.0 c.1 c.2
  where
    go : (ns : List ℕ) (k : ℕ) → k < length ns → get_or ns k n ≡ n → StandsIn ns n
    go [] k l e = absurd (omega arith)
    go (m ∷ ms) zero l e = inl e
    go (m ∷ ms) (suc k) l e = inr (go ms k (omega (arith, l)) e)

module _ (a : CoreTerm) (n : ℕ) (f : FunTerm) (c : BlockTerm) (found : slice_get a.functions n ≡ Some f) where
  pub old_at : (i : ℕ) (g : FunTerm) → slice_get (stepped a n f c).functions i ≡ Some g → (h : FunTerm) × ((slice_get a.functions i ≡ Some h) × Alike h g)
  old_at i g e = go (at_place a.functions n i f (record f { body = c }) found)
    where
      go : (slice_get a.functions i ≡ slice_get (replaced_at a.functions n (record f { body = c })) i) ⊎ ((slice_get a.functions i ≡ Some f) × (slice_get (replaced_at a.functions n (record f { body = c })) i ≡ Some (record f { body = c })))
          → (h : FunTerm) × ((slice_get a.functions i ≡ Some h) × Alike h g)
      go (inl y) = (g, (y ∙ e, record { params = refl; results = refl; inlines = refl }))
      go (inr y) =
          let own : record f { body = c } ≡ g = ap (λ o. unwrap_or o g) (sym y.1 ∙ e) in
          (f, (y.0, record { params = ap (λ (h : FunTerm). h.params) own; results = ap (λ (h : FunTerm). h.results) own; inlines = ap (λ (h : FunTerm). h.is_inline) own }))

  pub new_at : (i : ℕ) (h : FunTerm) → slice_get a.functions i ≡ Some h → (g : FunTerm) × ((slice_get (stepped a n f c).functions i ≡ Some g) × Alike h g)
  new_at i h e = go (at_place a.functions n i f (record f { body = c }) found)
    where
      go : (slice_get a.functions i ≡ slice_get (replaced_at a.functions n (record f { body = c })) i) ⊎ ((slice_get a.functions i ≡ Some f) × (slice_get (replaced_at a.functions n (record f { body = c })) i ≡ Some (record f { body = c })))
          → (g : FunTerm) × ((slice_get (stepped a n f c).functions i ≡ Some g) × Alike h g)
      go (inl y) = (h, (sym y ∙ e, record { params = refl; results = refl; inlines = refl }))
      go (inr y) =
          let own : h ≡ f = ap (λ o. unwrap_or o h) (sym e ∙ y.0) in
          (record f { body = c }, (y.1, record { params = ap (λ (h : FunTerm). h.params) own; results = ap (λ (h : FunTerm). h.results) own; inlines = ap (λ (h : FunTerm). h.is_inline) own }))

  pub same_length : length a.functions ≡ length (stepped a n f c).functions
  same_length = same_count a.functions (stepped a n f c).functions (heads_kept a.functions n f c found)

  pub group_moved : (g : ℕ) (us vs : List Base) → GroupBases a g us vs → GroupBases (stepped a n f c) g us vs
  group_moved g us vs h =
      let q = h.1.1.1 in
      let w = new_at h.1.0 h.1.1.0 q.2 in
      (h.0, (h.1.0, (w.0, (q.0, q.1, w.1.0, ap (λ (ps : List (Var × ArrayType)). bases (map (λ (p : Var × ArrayType). p.1) ps)) (sym w.1.1.params) ∙ q.3, ap bases (sym w.1.1.results) ∙ q.4))))

  pub still_below : (m group : ℕ) → InlineBelow a m group → InlineBelow (stepped a n f c) m group
  still_below m group h place g s e t = let w = old_at place g e in h place w.0 s w.1.0 (w.1.1.inlines ∙ t)

  -- the new body is well formed, and inline functions call backward after it
  module _ (well : IsWellFormed a) (backward_after : CallsBelow (stepped a n f c)) (function_after : IsFunction (stepped a n f c) (record f { body = c })) where
    share : (i j : ℕ) → PlacesShare a.functions i j → PlacesShare (stepped a n f c).functions i j
    share i j h x y ex ey =
        let v = old_at i x ex in
        let w = old_at j y ey in
        let m = h v.0 w.0 v.1.0 w.1.0 in
        let p : (v.0).params ≡ x.params = v.1.1.params in
        record {
          params = (λ k. length (sym v.1.1.params k)) ∙ m.params ∙ (λ k. length (w.1.1.params k));
          results = (λ k. length (sym v.1.1.results k)) ∙ m.results ∙ (λ k. length (w.1.1.results k));
          inlines = sym v.1.1.inlines ∙ m.inlines ∙ w.1.1.inlines;
          types = (λ k. Rattle.sac_base.specs.Types.compatible (map (λ (q : Var × ArrayType). q.1) (sym v.1.1.params k)) (map (λ (q : Var × ArrayType). q.1) (sym w.1.1.params k))) ∙ m.types;
          bases = λ e. ap bases (sym v.1.1.results) ∙ m.bases (ap (λ (ps : List (Var × ArrayType)). bases (map (λ (q : Var × ArrayType). q.1) ps)) v.1.1.params ∙ e ∙ ap (λ (ps : List (Var × ArrayType)). bases (map (λ (q : Var × ArrayType). q.1) ps)) (sym w.1.1.params)) ∙ ap bases w.1.1.results;
        }

    calls_backward : CallsBackward (stepped a n f c)
    calls_backward i g e t group has places at j h stood found_h inlines =
        let calls = from_calls (InlineBelow (stepped a n f c) i) g.body (backward_after i g e t) in
        let low = All-contains (InlineBelow (stepped a n f c) i) (calls_in g.body) group calls has in
        low j h (subst (λ (ps : List ℕ). StandsIn ps j) (sym (ap (λ o. unwrap_or o []) at)) (stands places j stood)) found_h inlines

    pub well_stepped : IsWellFormed (stepped a n f c)
    well_stepped = record {
      few = subst (λ (k : ℕ). k < 2 ^ 32) same_length well.few;
      functions = all_replaced (IsFunction (stepped a n f c)) a.functions n (record f { body = c }) (λ k d l. let w = well.functions k d l in record { once = w.once; scoped = w.scoped; agreeing = moved a (stepped a n f c) group_moved _ _ _ w.agreeing }) function_after;
      main = let w = new_at a.main well.main.0 well.main.1.0 in (w.0, (w.1.0, sym w.1.1.inlines ∙ well.main.1.1));
      groups = λ k d l i e m. subst (λ (len : ℕ). get_or (get_or a.groups k d) i e < len) same_length (well.groups k d l i e m);
      called = all_replaced (λ (g : FunTerm). All (λ group. group < length a.groups) (calls_in g.body)) a.functions n (record f { body = c }) well.called (from_calls (λ group. group < length a.groups) c (there (stepped a n f c) c (param_bases f) (bases f.results) function_after.agreeing));
      names = λ k d l i j e lt m. share (get_or (get_or a.groups k d) i e) (get_or (get_or a.groups k d) j e) (well.names k d l i j e lt m);
      backward = calls_backward;
    }
