-- Blocks with more variables in scope.
use Rattle.std.proofs.Common.{◌≡◌, eqb, Bool, true, false, cond, ◌||◌, List, [], ◌∷◌, ◌++◌, zip, Option, Some, None, refl, sym, ◌∙◌, subst, append_assoc}
use Rattle.sac_base.specs.declared.base.Base.{Base}
use Rattle.sac_base.specs.declared.base.Base.TheVariants.{Int, Bool as Truth}
use Rattle.core_ir.specs.declared.tree.Var.{Var}
use Rattle.core_ir.specs.declared.tree.CoreOp.{CoreOp}
use Rattle.core_ir.specs.declared.tree.CoreOp.TheVariants as making
use Rattle.core_ir.specs.declared.tree.PartedOp.{PartedOp}
use Rattle.core_ir.specs.declared.tree.PartedOp.TheVariants as parted
use Rattle.core_ir.specs.Binders.{is_in, NoneIn, bound_in, bound_in_right, bound_in_gens, bound_in_parts}
use Rattle.core_ir.specs.Scopes.{AllIn, Scoped, ScopedRight, ScopedGens, ScopedParts, plain_uses, op_uses, parted_uses, head_uses}
use Rattle.core_ir.specs.Terms.{PlainTerm, BlockTerm, RightTerm, GensTerm, PartsTerm, CoreTerm, Gives, Bind, Plain, NoGens, Gen, NoParts, Part}
use Rattle.core_ir.specs.WellFormed.{Bases, base_of, HasBase, HasBases, AllHave, OptionHas, ints, LiteralBase, PlainBases, OperationBase, PartedBase, BlockBases, RightBases, GensBases, PartsBases}
use Rattle.core_ir.proofs.Variables.{in_more, in_neither}
use Rattle.core_forms.specs.edits.Within.{AreWithin, BasesWithin}

-- ---- scopes

all_within : (xs scope wider : List Var) → AreWithin scope wider → AllIn xs scope → AllIn xs wider
all_within [] scope wider k h = tt
all_within (x ∷ xs) scope wider k h = (k x h.0, all_within xs scope wider k h.1)

within_below : (xs scope wider : List Var) → AreWithin scope wider → AreWithin (xs ++ scope) (xs ++ wider)
within_below xs scope wider k y h = in_more y xs wider ∙ go (is_in y xs) (sym (in_more y xs scope) ∙ h)
  where
    go : (b : Bool) → (b || is_in y scope) ≡ true → (b || is_in y wider) ≡ true
    go true p = refl
    go false p = k y p

pub none_left : (xs ys zs : List Var) → NoneIn (xs ++ ys) zs → NoneIn xs zs
none_left [] ys zs h = tt
none_left (x ∷ xs) ys zs h = (h.0, none_left xs ys zs h.1)

pub none_right : (xs ys zs : List Var) → NoneIn (xs ++ ys) zs → NoneIn ys zs
none_right [] ys zs h = h
none_right (x ∷ xs) ys zs h = none_right xs ys zs h.1

-- in neither of two lists
pub none_both : (ys xs zs : List Var) → NoneIn ys xs → NoneIn ys zs → NoneIn ys (xs ++ zs)
none_both [] xs zs p q = tt
none_both (y ∷ ys) xs zs p q = (in_more y xs zs ∙ (λ i. p.0 i || q.0 i), none_both ys xs zs p.1 q.1)

none_front : (ys xs zs : List Var) → NoneIn ys (xs ++ zs) → NoneIn ys xs
none_front [] xs zs h = tt
none_front (y ∷ ys) xs zs h = ((in_neither y xs zs h.0).0, none_front ys xs zs h.1)

none_behind : (ys xs zs : List Var) → NoneIn ys (xs ++ zs) → NoneIn ys zs
none_behind [] xs zs h = tt
none_behind (y ∷ ys) xs zs h = ((in_neither y xs zs h.0).1, none_behind ys xs zs h.1)

-- each of two lists
none_joined : (xs ys zs : List Var) → NoneIn xs zs → NoneIn ys zs → NoneIn (xs ++ ys) zs
none_joined [] ys zs p q = q
none_joined (x ∷ xs) ys zs p q = (p.0, none_joined xs ys zs p.1 q)

-- what a scoped block binds is not in its scope
mutual
  pub bound_new : (b : BlockTerm) (scope : List Var) → Scoped scope b → NoneIn (bound_in b) scope
  bound_new (Gives xs) scope h = tt
  bound_new (Bind xs s r b) scope h = none_joined xs _ scope h.1 (none_joined (bound_in_right r) (bound_in b) scope (bound_new_right r scope h.0) (none_behind (bound_in b) xs scope (bound_new b (xs ++ scope) h.2)))

  bound_new_right : (r : RightTerm) (scope : List Var) → ScopedRight scope r → NoneIn (bound_in_right r) scope
  bound_new_right (Plain p) scope h = tt
  bound_new_right (RightTerm.If x a b) scope h = none_joined (bound_in a) (bound_in b) scope (bound_new a scope h.1) (bound_new b scope h.2)
  bound_new_right (RightTerm.Loop first start params test body s) scope h =
      none_joined params _ scope h.1 (none_joined (bound_in test) (bound_in body) scope (none_behind (bound_in test) params scope (bound_new test (params ++ scope) h.2)) (none_behind (bound_in body) params scope (bound_new body (params ++ scope) h.3)))
  bound_new_right (RightTerm.Call g xs) scope h = tt
  bound_new_right (RightTerm.With op gens) scope h = bound_new_gens gens scope h.1
  bound_new_right (RightTerm.Parted f b c op parts) scope h = bound_new_parts parts scope h.1

  bound_new_gens : (g : GensTerm) (scope : List Var) → ScopedGens scope g → NoneIn (bound_in_gens g) scope
  bound_new_gens NoGens scope h = tt
  bound_new_gens (Gen k b rest) scope h =
      none_joined (k.index ∷ k.names) _ scope h.1 (none_joined (bound_in b) (bound_in_gens rest) scope (none_behind (bound_in b) (k.index ∷ k.names) scope (bound_new b ((k.index ∷ k.names) ++ scope) h.2)) (bound_new_gens rest scope h.3))

  bound_new_parts : (p : PartsTerm) (scope : List Var) → ScopedParts scope p → NoneIn (bound_in_parts p) scope
  bound_new_parts NoParts scope h = tt
  bound_new_parts (Part k b rest) scope h =
      (h.0, none_joined (bound_in b) (bound_in_parts rest) scope (none_behind (bound_in b) (k.index ∷ []) scope (bound_new b (k.index ∷ scope) h.1)) (bound_new_parts rest scope h.2))

-- below binders
inner : (xs : List Var) (b : BlockTerm) (scope wider : List Var) → AreWithin scope wider → NoneIn (bound_in b) wider → Scoped (xs ++ scope) b → ((s w : List Var) → AreWithin s w → NoneIn (bound_in b) w → Scoped s b → Scoped w b) → Scoped (xs ++ wider) b
inner xs b scope wider k n h rec =
    rec (xs ++ scope) (xs ++ wider) (within_below xs scope wider k) (none_both (bound_in b) xs wider (none_front (bound_in b) xs scope (bound_new b (xs ++ scope) h)) n) h

mutual
  pub block_wider : (b : BlockTerm) (scope wider : List Var) → AreWithin scope wider → NoneIn (bound_in b) wider → Scoped scope b → Scoped wider b
  block_wider (Gives xs) scope wider k n h = all_within xs scope wider k h
  block_wider (Bind xs s r b) scope wider k n h =
      let m = none_right xs (bound_in_right r ++ bound_in b) wider n in (
        right_wider r scope wider k (none_left (bound_in_right r) (bound_in b) wider m) h.0,
        none_left xs _ wider n,
        inner xs b scope wider k (none_right (bound_in_right r) (bound_in b) wider m) h.2 (λ u w. block_wider b u w),
      )

  right_wider : (r : RightTerm) (scope wider : List Var) → AreWithin scope wider → NoneIn (bound_in_right r) wider → ScopedRight scope r → ScopedRight wider r
  right_wider (Plain p) scope wider k n h = all_within (plain_uses p) scope wider k h
  right_wider (RightTerm.If x a b) scope wider k n h =
      (k x h.0, block_wider a scope wider k (none_left (bound_in a) (bound_in b) wider n) h.1, block_wider b scope wider k (none_right (bound_in a) (bound_in b) wider n) h.2)
  right_wider (RightTerm.Loop first start params test body s) scope wider k n h =
      let m = none_right params (bound_in test ++ bound_in body) wider n in (
        all_within start scope wider k h.0,
        none_left params _ wider n,
        inner params test scope wider k (none_left (bound_in test) (bound_in body) wider m) h.2 (λ u w. block_wider test u w),
        inner params body scope wider k (none_right (bound_in test) (bound_in body) wider m) h.3 (λ u w. block_wider body u w),
      )
  right_wider (RightTerm.Call g xs) scope wider k n h = all_within xs scope wider k h
  right_wider (RightTerm.With op gens) scope wider k n h = (all_within (op_uses op) scope wider k h.0, gens_wider gens scope wider k n h.1)
  right_wider (RightTerm.Parted f b c op parts) scope wider k n h = (all_within (parted_uses op) scope wider k h.0, parts_wider parts scope wider k n h.1)

  gens_wider : (g : GensTerm) (scope wider : List Var) → AreWithin scope wider → NoneIn (bound_in_gens g) wider → ScopedGens scope g → ScopedGens wider g
  gens_wider NoGens scope wider k n h = tt
  gens_wider (Gen g b rest) scope wider k n h =
      let m = none_right (g.index ∷ g.names) (bound_in b ++ bound_in_gens rest) wider n in (
        all_within (head_uses g) scope wider k h.0,
        none_left (g.index ∷ g.names) (bound_in b ++ bound_in_gens rest) wider n,
        inner (g.index ∷ g.names) b scope wider k (none_left (bound_in b) (bound_in_gens rest) wider m) h.2 (λ u w. block_wider b u w),
        gens_wider rest scope wider k (none_right (bound_in b) (bound_in_gens rest) wider m) h.3,
      )

  parts_wider : (p : PartsTerm) (scope wider : List Var) → AreWithin scope wider → NoneIn (bound_in_parts p) wider → ScopedParts scope p → ScopedParts wider p
  parts_wider NoParts scope wider k n h = tt
  parts_wider (Part g b rest) scope wider k n h =
      let m = none_right (g.index ∷ []) (bound_in b ++ bound_in_parts rest) wider n in
      (n.0, inner (g.index ∷ []) b scope wider k (none_left (bound_in b) (bound_in_parts rest) wider m) h.1 (λ u w. block_wider b u w), parts_wider rest scope wider k (none_right (bound_in b) (bound_in_parts rest) wider m) h.2)

-- ---- bases

base_more : (b : Bool) (t : Base) (s p q : Option Base) → (p ≡ Some t → q ≡ Some t) → cond b s p ≡ Some t → cond b s q ≡ Some t
base_more true t s p q k h = h
base_more false t s p q k h = k h

bases_below : (zs g wider : Bases) → BasesWithin g wider → BasesWithin (zs ++ g) (zs ++ wider)
bases_below [] g wider k x t h = k x t h
bases_below (z ∷ zs) g wider k x t h = base_more (eqb z.0.0 x.0) t (Some z.1) (base_of (zs ++ g) x) (base_of (zs ++ wider) x) (bases_below zs g wider k x t) h

module _ (g wider : Bases) (k : BasesWithin g wider) where
  pub has_wider : (xs : List Var) (ts : List Base) → HasBases g xs ts → HasBases wider xs ts
  has_wider [] [] h = tt
  has_wider (x ∷ xs) (t ∷ ts) h = (k x t h.0, has_wider xs ts h.1)
  has_wider [] (t ∷ ts) h = absurd h
  has_wider (x ∷ xs) [] h = absurd h

  all_wider : (xs : List Var) (t : Base) → AllHave g xs t → AllHave wider xs t
  all_wider [] t h = tt
  all_wider (x ∷ xs) t h = (k x t h.0, all_wider xs t h.1)

  option_wider : (x : Option Var) (t : Base) → OptionHas g x t → OptionHas wider x t
  option_wider None t h = tt
  option_wider (Some x) t h = k x t h

  literal_wider : (xs : List Var) (t : Base) → LiteralBase g xs t → LiteralBase wider xs t
  literal_wider [] t h = h
  literal_wider (x ∷ xs) t h = all_wider (x ∷ xs) t h

  pub plain_wider : (p : PlainTerm) (ts : List Base) → PlainBases g p ts → PlainBases wider p ts
  plain_wider (PlainTerm.Const a) ts h = h
  plain_wider (PlainTerm.Copy x) ts h = (h.0, k x h.0 h.1, h.2)
  plain_wider (PlainTerm.Unary o x) ts h = (h.0, (h.1.0, k x h.0 h.1.1, h.1.2, h.1.3))
  plain_wider (PlainTerm.Binary o x y) ts h = (h.0, (h.1.0, k x h.0 h.1.1, k y h.0 h.1.2, h.1.3, h.1.4))
  plain_wider (PlainTerm.Literal xs) ts h = (h.0, literal_wider xs h.0 h.1, h.2)
  plain_wider (PlainTerm.Dim x) ts h = (h.0, k x h.0 h.1, h.2)
  plain_wider (PlainTerm.ShapeOf x) ts h = (h.0, k x h.0 h.1, h.2)
  plain_wider (PlainTerm.Reshape x y) ts h = (h.0, k x Int h.1, k y h.0 h.2, h.3)
  plain_wider (PlainTerm.Select x y) ts h = (h.0, k x h.0 h.1, k y Int h.2, h.3)
  plain_wider (PlainTerm.Replace x y z) ts h = (h.0, k x h.0 h.1, k y Int h.2, k z h.0 h.3, h.4)
  plain_wider (PlainTerm.Always kind) ts h = tt
  plain_wider (PlainTerm.Check x ty) ts h = (k x ty.base h.0, h.1)

  operation_wider : (o : CoreOp) (t : Base) → OperationBase g o t → OperationBase wider o t
  operation_wider (making.Genarray x y) t h = (k x Int h.0, k y t h.1)
  operation_wider (making.Modarray x) t h = k x t h
  operation_wider (making.Fold o x) t h = (k x t h.0, h.1)

  parted_wider : (o : PartedOp) (t : Base) → PartedBase g o t → PartedBase wider o t
  parted_wider parted.Genarray t h = tt
  parted_wider (parted.Modarray x) t h = k x t h
  parted_wider (parted.Fold o x) t h = (k x t h.0, h.1)

module _ (core : CoreTerm) where
  mutual
    pub block_bases_wider : (b : BlockTerm) (g wider : Bases) (ts : List Base) → BasesWithin g wider → BlockBases core g b ts → BlockBases core wider b ts
    block_bases_wider (Gives xs) g wider ts k h = has_wider g wider k xs ts h
    block_bases_wider (Bind xs s r b) g wider ts k h =
        (h.0, (right_bases_wider r g wider h.0 k h.1.0, h.1.1, block_bases_wider b (zip xs h.0 ++ g) (zip xs h.0 ++ wider) ts (bases_below (zip xs h.0) g wider k) h.1.2))

    right_bases_wider : (r : RightTerm) (g wider : Bases) (ts : List Base) → BasesWithin g wider → RightBases core g r ts → RightBases core wider r ts
    right_bases_wider (Plain p) g wider ts k h = plain_wider g wider k p ts h
    right_bases_wider (RightTerm.If x a b) g wider ts k h = (k x Truth h.0, block_bases_wider a g wider ts k h.1, block_bases_wider b g wider ts k h.2)
    right_bases_wider (RightTerm.Loop first start params test body s) g wider ts k h = (
      has_wider g wider k start ts h.0,
      h.1,
      block_bases_wider test (zip params ts ++ g) (zip params ts ++ wider) (Truth ∷ []) (bases_below (zip params ts) g wider k) h.2,
      block_bases_wider body (zip params ts ++ g) (zip params ts ++ wider) ts (bases_below (zip params ts) g wider k) h.3,
    )
    right_bases_wider (RightTerm.Call group xs) g wider ts k h = (h.0, (has_wider g wider k xs h.0 h.1.0, h.1.1))
    right_bases_wider (RightTerm.With o gens) g wider ts k h = (h.0, (operation_wider g wider k o h.0 h.1.0, gens_bases_wider gens g wider h.0 k h.1.1, h.1.2))
    right_bases_wider (RightTerm.Parted frame t cell o parts) g wider ts k h = (parted_wider g wider k o t h.0, parts_bases_wider parts g wider t k h.1, h.2, h.3)

    gens_bases_wider : (gs : GensTerm) (g wider : Bases) (t : Base) → BasesWithin g wider → GensBases core g gs t → GensBases core wider gs t
    gens_bases_wider NoGens g wider t k h = tt
    gens_bases_wider (Gen x b rest) g wider t k h = (
      option_wider g wider k x.lower Int h.0,
      option_wider g wider k x.upper Int h.1,
      option_wider g wider k x.step Int h.2,
      option_wider g wider k x.width Int h.3,
      block_bases_wider b (ints (x.index ∷ x.names) ++ g) (ints (x.index ∷ x.names) ++ wider) (t ∷ []) (bases_below (ints (x.index ∷ x.names)) g wider k) h.4,
      gens_bases_wider rest g wider t k h.5,
    )

    parts_bases_wider : (ps : PartsTerm) (g wider : Bases) (t : Base) → BasesWithin g wider → PartsBases core g ps t → PartsBases core wider ps t
    parts_bases_wider NoParts g wider t k h = tt
    parts_bases_wider (Part x b rest) g wider t k h =
        (block_bases_wider b ((x.index, Int) ∷ g) ((x.index, Int) ∷ wider) (t ∷ []) (bases_below ((x.index, Int) ∷ []) g wider k) h.0, parts_bases_wider rest g wider t k h.1)
