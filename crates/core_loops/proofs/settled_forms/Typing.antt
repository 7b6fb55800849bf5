-- Bases agree where literal variables are bound by constants.
use Rattle.std.proofs.Common.{◌≡◌, ℕ, List, [], ◌∷◌, ◌++◌, map, length, Option, Some, None, refl, sym, ap, subst, ◌∙◌}
use Rattle.std.specs.Prelude.{zip}
use Rattle.sac_base.specs.declared.base.Base.{Base}
use Rattle.sac_base.specs.declared.base.Base.TheVariants.{Int, Bool as Truth}
use Rattle.sac_base.specs.Arrays.{ArrayValue}
use Rattle.core_ir.specs.Binders.{bound_in, bound_in_right, bound_in_gens, bound_in_parts}
use Rattle.core_ir.specs.Terms.{PlainTerm, BlockTerm, RightTerm, GensTerm, PartsTerm, CoreTerm, Gives, Bind, Plain, NoGens, Gen, NoParts, Part}
use Rattle.core_ir.specs.WellFormed.{Bases, BlockBases, Distinct, GensBases, GroupBases, PartedFits, PartsBases, PlainBases, RightBases, ints}
use Rattle.core_facts.specs.Facts.{Fact, Facts, block_facts, common_facts, in_part, known_shape, note_all, one_shape, parted_shape, plain_fact, plain_literal, right_facts, shape_fact}
use Rattle.core_facts.specs.Settled.{constant_or, settled, settled_right, settled_gens, settled_parts}
use Rattle.core_facts.proofs.Literals.{no_value, some_same}
use Rattle.core_facts.proofs.bases.Bound.{distinct_left, distinct_right}
use Rattle.core_loops.proofs.settled_forms.Formed.{AreFormed, Formed, IsFormed, MayStand, formed_all, formed_ints, formed_one}
use Rattle.core_loops.proofs.settled_forms.Constants.{value_stands}
use Rattle.core_loops.proofs.settled_forms.Kept.{grids_kept}

shape_formed : (s : Option (List ℕ)) (t : Base) → IsFormed (shape_fact s) t
shape_formed s t v p = absurd (no_value v p)

pub shapes_formed : (ss : List (Option (List ℕ))) (ts : List Base) → AreFormed (map shape_fact ss) ts
shapes_formed [] ts = tt
shapes_formed (s ∷ ss) [] = tt
shapes_formed (s ∷ ss) (t ∷ ts) = (shape_formed s t, shapes_formed ss ts)

common_formed : (fs gs : List Fact) (ts : List Base) → AreFormed (common_facts fs gs) ts
common_formed [] gs ts = tt
common_formed (f ∷ fs) [] ts = tt
common_formed (f ∷ fs) (h ∷ hs) [] = tt
common_formed (f ∷ fs) (h ∷ hs) (t ∷ ts) = (shape_formed (one_shape f.shape h.shape) t, common_formed fs hs ts)

-- the right side, or the constant in its place
plain_kept : (g : Bases) (k : Facts) (p : PlainTerm) (ts : List Base) (o : Option ArrayValue) → Formed g k → plain_literal p k ≡ o → PlainBases g p ts → PlainBases g (constant_or o p) ts
plain_kept g k p ts None f e b = b
plain_kept g k p ts (Some v) f e b = value_stands g k f p ts v b e

nothing_literal : (f : Fact) (ts : List Base) → f.literal ≡ None → AreFormed (f ∷ []) ts
nothing_literal f [] e = tt
nothing_literal f (t ∷ ts) e = (λ v q. absurd (no_value v (sym e ∙ q)), tt)

plain_formed : (g : Bases) (k : Facts) (p : PlainTerm) (ts : List Base) (o : Option ArrayValue) → Formed g k → plain_literal p k ≡ o → PlainBases g p ts → AreFormed (plain_fact (constant_or o p) k ∷ []) ts
plain_formed g k p ts None f e b = nothing_literal (plain_fact p k) ts e
plain_formed g k p ts (Some u) f e b =
    let c = value_stands g k f p ts u b e in
    let is : IsFormed (plain_fact (PlainTerm.Const u) k) u.base = λ v q. (subst MayStand (some_same u v q) (c.0, c.1), sym (ap (λ (a : ArrayValue). a.base) (some_same u v q))) in
    subst (AreFormed (plain_fact (PlainTerm.Const u) k ∷ [])) (sym c.2) (is, tt)

module _ (called : ℕ → List (Option (List ℕ))) (core next : CoreTerm) (groups : (group : ℕ) (us ts : List Base) → GroupBases core group us ts → GroupBases next group us ts) where
  facts_formed : (r : RightTerm) (g : Bases) (k : Facts) (ts : List Base) → RightBases core g r ts → Formed g k → AreFormed (right_facts called (settled_right called r k) k) ts
  facts_formed (Plain p) g k ts h f = plain_formed g k p ts (plain_literal p k) f refl h
  facts_formed (RightTerm.If x a b) g k ts h f = common_formed (block_facts called (settled called a k) k) (block_facts called (settled called b k) k) ts
  facts_formed (RightTerm.Loop first start params test body s) g k ts h f = tt
  facts_formed (RightTerm.Call group xs) g k ts h f = shapes_formed (called group) ts
  facts_formed (RightTerm.With o gens) g k ts h f = tt
  facts_formed (RightTerm.Parted frame t cell o parts) g k ts h f = shapes_formed (known_shape (parted_shape frame cell o) ∷ []) ts

  mutual
    pub block_kept : (b : BlockTerm) (g : Bases) (k : Facts) (ts : List Base) → BlockBases core g b ts → Distinct (bound_in b) → Formed g k → BlockBases next g (settled called b k) ts
    block_kept (Gives xs) g k ts h d f = h
    block_kept (Bind xs s r b) g k ts h d f =
        let rest = distinct_right xs (bound_in_right r ++ bound_in b) d in
        let fs = right_facts called (settled_right called r k) k in
        let more = formed_all g k xs h.0 fs f (distinct_left xs (bound_in_right r ++ bound_in b) d) h.1.1 (facts_formed r g k h.0 h.1.0 f) in (
          h.0,
          (
            right_kept r g k h.0 h.1.0 (distinct_left (bound_in_right r) (bound_in b) rest) f,
            h.1.1,
            block_kept b (zip xs h.0 ++ g) (note_all k xs fs) ts h.1.2 (distinct_right (bound_in_right r) (bound_in b) rest) more,
          ),
        )

    right_kept : (r : RightTerm) (g : Bases) (k : Facts) (ts : List Base) → RightBases core g r ts → Distinct (bound_in_right r) → Formed g k → RightBases next g (settled_right called r k) ts
    right_kept (Plain p) g k ts h d f = plain_kept g k p ts (plain_literal p k) f refl h
    right_kept (RightTerm.If x a b) g k ts h d f =
        (h.0, block_kept a g k ts h.1 (distinct_left (bound_in a) (bound_in b) d) f, block_kept b g k ts h.2 (distinct_right (bound_in a) (bound_in b) d) f)
    right_kept (RightTerm.Loop first start params test body s) g k ts h d f =
        let rest = distinct_right params (bound_in test ++ bound_in body) d in
        let more = formed_all g k params ts [] f (distinct_left params (bound_in test ++ bound_in body) d) h.1 tt in (
          h.0,
          h.1,
          block_kept test (zip params ts ++ g) (note_all k params []) (Truth ∷ []) h.2 (distinct_left (bound_in test) (bound_in body) rest) more,
          block_kept body (zip params ts ++ g) (note_all k params []) ts h.3 (distinct_right (bound_in test) (bound_in body) rest) more,
        )
    right_kept (RightTerm.Call group xs) g k ts h d f = (h.0, (h.1.0, groups group h.0 ts h.1.1))
    right_kept (RightTerm.With o gens) g k ts h d f = (h.0, (h.1.0, gens_kept gens g k h.0 h.1.1 d f, h.1.2))
    right_kept (RightTerm.Parted frame t cell o parts) g k ts h d f =
        (h.0, parts_kept parts g k t h.1 d f, subst (λ gs. PartedFits o frame cell gs) (sym (grids_kept called parts k)) h.2, h.3)

    gens_kept : (gs : GensTerm) (g : Bases) (k : Facts) (t : Base) → GensBases core g gs t → Distinct (bound_in_gens gs) → Formed g k → GensBases next g (settled_gens called gs k) t
    gens_kept NoGens g k t h d f = tt
    gens_kept (Gen j b rest) g k t h d f =
        let xs = j.index ∷ j.names in
        let inner = distinct_right xs (bound_in b ++ bound_in_gens rest) d in (
          h.0,
          h.1,
          h.2,
          h.3,
          block_kept b (ints xs ++ g) (note_all k xs []) (t ∷ []) h.4 (distinct_left (bound_in b) (bound_in_gens rest) inner)
              (formed_ints g k xs f (distinct_left xs (bound_in b ++ bound_in_gens rest) d)),
          gens_kept rest g k t h.5 (distinct_right (bound_in b) (bound_in_gens rest) inner) f,
        )

    parts_kept : (ps : PartsTerm) (g : Bases) (k : Facts) (t : Base) → PartsBases core g ps t → Distinct (bound_in_parts ps) → Formed g k → PartsBases next g (settled_parts called ps k) t
    parts_kept NoParts g k t h d f = tt
    parts_kept (Part j b rest) g k t h d f =
        let s = Some (length j.grid ∷ []) in (
          block_kept b ((j.index, Int) ∷ g) (in_part k j) (t ∷ []) h.0 (distinct_left (bound_in b) (bound_in_parts rest) d.1)
              (formed_one g k j.index Int (shape_fact s) f (shape_formed s Int)),
          parts_kept rest g k t h.1 (distinct_right (bound_in b) (bound_in_parts rest) d.1) f,
        )
