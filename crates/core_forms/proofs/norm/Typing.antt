-- In copies bases agree, and so they do in the parts of a loop that stands for a with-loop.
use Rattle.std.proofs.Common.{◌≡◌, ℕ, zero, suc, ◌+◌, ◌<◌, ◌≤◌, ◌^◌, Bool, true, false, not, ◌&&◌, cond, eqb, List, [], ◌∷◌, ◌++◌, length, Option, Some, None, refl, sym, subst, ◌∙◌, inl, inr, arith}
use Rattle.std.specs.Prelude.{if◌then◌else◌, zip, pos}
use Rattle.std.proofs.lemmas.Bool.{eq-eqb}
use Rattle.std.proofs.lemmas.Int.{ints}
use Rattle.std.proofs.lemmas.List.Elements.{All-nil, All-cons}
use Rattle.sac_base.specs.declared.base.Base.{Base}
use Rattle.sac_base.specs.declared.base.Base.TheVariants.{Int, Bool as Truth}
use Rattle.sac_base.specs.declared.grid.Grid1.{Grid1}
use Rattle.sac_base.specs.declared.op.Op.{Op}
use Rattle.sac_base.specs.declared.types.ArrayType.{ArrayType}
use Rattle.sac_base.specs.Arrays.{ArrayValue, IsArray, IsCell, IsWellTyped, scalar}
use Rattle.sac_base.specs.Verdict.{folds}
use Rattle.core_ir.specs.declared.tree.Var.{Var}
use Rattle.core_ir.specs.declared.tree.CoreOp.{CoreOp}
use Rattle.core_ir.specs.declared.tree.CoreOp.TheVariants as making
use Rattle.core_ir.specs.declared.tree.PartedOp.{PartedOp}
use Rattle.core_ir.specs.declared.tree.PartedOp.TheVariants as parted
use Rattle.core_ir.specs.Binders.{is_in, bound_in, bound_in_right, bound_in_gens, bound_in_parts}
use Rattle.core_ir.specs.Renaming.{Link, Linked, LinkedOption, Renamed, RenamedRight, RenamedGens, RenamedParts, RenamedPlain, RenamedCoreOp, RenamedPartedOp, under, under_all}
use Rattle.core_ir.specs.Terms.{PlainTerm, BlockTerm, RightTerm, GensTerm, PartsTerm, GenHead, PartHead, CoreTerm, Gives, Bind, Plain, NoGens, Gen, NoParts, Part}
use Rattle.core_ir.specs.WellFormed.{Bases, base_of, HasBase, HasBases, AllHave, OptionHas, LiteralBase, PlainBases, UnaryBase, BinaryBase, OperationBase, PartedBase, PartedFits, part_grids, GroupBases, BlockBases, RightBases, GensBases, PartsBases, Distinct}
use Rattle.core_ir.specs.WellFormed as forms
use Rattle.core_ir.proofs.Variables.{same_number}
use Rattle.core_facts.proofs.bases.Bound.{swap, firsts}
use Rattle.core_loops.specs.Steps.{itself}
use Rattle.core_loops.specs.norm_steps.Genarray.{GenAt, NamedBody}
use Rattle.core_forms.proofs.inlined_bodies.Names.{clash, distinct_left, distinct_right}
use Rattle.core_forms.proofs.inlined_bodies.Names as names
use Rattle.core_forms.specs.norm.Alike.{Alike, AlikeRight, AlikeGens, AlikeParts, NamedAlike}
use Rattle.core_forms.proofs.norm.Made.{Made, MadeParts}
use Rattle.core_forms.proofs.norm.Scopes.{in_right}

-- ---- what a link gives

-- what is linked with a variable has its base
abbrev pub GivesBases : Link → Bases → Bases → Type 0
GivesBases S g wider = (x y : Var) (t : Base) → S x y ≡ true → base_of g x ≡ Some t → base_of wider y ≡ Some t

pub gives_one : (S : Link) (g wider : Bases) (x y : Var) (u : Base) → GivesBases S g wider → GivesBases (under S x y) ((x, u) ∷ g) ((y, u) ∷ wider)
gives_one S g wider x y u k a b t h m = go (eqb x.0 a.0) (eqb y.0 b.0) h m
  where
    go : (p q : Bool) → (if p then q else (not q && S a b)) ≡ true → cond p (Some u) (base_of g a) ≡ Some t → cond q (Some u) (base_of wider b) ≡ Some t
    go true true h m = m
    go true false h m = clash false h refl
    go false true h m = clash false h refl
    go false false h m = k a b t h m

gives_all : (S : Link) (g wider : Bases) (xs ys : List Var) (us : List Base) → length xs ≡ length us → length ys ≡ length us → Distinct xs → Distinct ys → GivesBases S g wider → GivesBases (under_all S xs ys) (zip xs us ++ g) (zip ys us ++ wider)
gives_all S g wider [] [] us p q d e k a b t h m = k a b t h m
gives_all S g wider (x ∷ xs) (y ∷ ys) (u ∷ us) p q d e k a b t h m =
    let lx : length xs ≡ length us = omega (arith, p) in
    let ly : length ys ≡ length us = omega (arith, q) in
    swap (zip ys us) wider (y, u) b ((λ i. is_in y (firsts ys us ly i)) ∙ e.0)
    ∙ gives_all (under S x y) ((x, u) ∷ g) ((y, u) ∷ wider) xs ys us lx ly d.1 e.1 (gives_one S g wider x y u k) a b t h
    (sym (swap (zip xs us) g (x, u) a ((λ i. is_in x (firsts xs us lx i)) ∙ d.0)) ∙ m)
gives_all S g wider (x ∷ xs) (y ∷ ys) [] p q d e k a b t h m = absurd (omega (arith, p))
gives_all S g wider [] (y ∷ ys) us p q d e k a b t h m = clash false h refl
gives_all S g wider (x ∷ xs) [] us p q d e k a b t h m = clash false h refl

ints_turned : (a x : Var) (xs : List Var) (g : Bases) → base_of ((x, Int) ∷ (forms.ints xs ++ g)) a ≡ base_of (forms.ints xs ++ ((x, Int) ∷ g)) a
ints_turned a x [] g = refl
ints_turned a x (z ∷ xs) g = shuffle (eqb x.0 a.0) (eqb z.0 a.0) ∙ (λ i. cond (eqb z.0 a.0) (Some Int) (ints_turned a x xs g i))
  where
    shuffle : (p q : Bool) → cond p (Some Int) (cond q (Some Int) (base_of (forms.ints xs ++ g) a)) ≡ cond q (Some Int) (cond p (Some Int) (base_of (forms.ints xs ++ g) a))
    shuffle true true = refl
    shuffle true false = refl
    shuffle false q = refl

gives_ints : (S : Link) (g wider : Bases) (xs ys : List Var) → GivesBases S g wider → GivesBases (under_all S xs ys) (forms.ints xs ++ g) (forms.ints ys ++ wider)
gives_ints S g wider [] [] k a b t h m = k a b t h m
gives_ints S g wider (x ∷ xs) (y ∷ ys) k a b t h m =
    ints_turned b y ys wider
    ∙ gives_ints (under S x y) ((x, Int) ∷ g) ((y, Int) ∷ wider) xs ys (gives_one S g wider x y Int k) a b t h (sym (ints_turned a x xs g) ∙ m)
gives_ints S g wider [] (y ∷ ys) k a b t h m = clash false h refl
gives_ints S g wider (x ∷ xs) [] k a b t h m = clash false h refl

module _ (S : Link) (g wider : Bases) (k : GivesBases S g wider) where
  linked_bases : (xs ys : List Var) (ts : List Base) → Linked S xs ys → HasBases g xs ts → HasBases wider ys ts
  linked_bases [] [] [] h m = tt
  linked_bases (x ∷ xs) (y ∷ ys) (t ∷ ts) h m = (k x y t h.0 m.0, linked_bases xs ys ts h.1 m.1)
  linked_bases [] [] (t ∷ ts) h m = absurd m
  linked_bases (x ∷ xs) (y ∷ ys) [] h m = absurd m
  linked_bases [] (y ∷ ys) ts h m = absurd h
  linked_bases (x ∷ xs) [] ts h m = absurd h

  linked_all : (xs ys : List Var) (t : Base) → Linked S xs ys → AllHave g xs t → AllHave wider ys t
  linked_all [] [] t h m = tt
  linked_all (x ∷ xs) (y ∷ ys) t h m = (k x y t h.0 m.0, linked_all xs ys t h.1 m.1)
  linked_all [] (y ∷ ys) t h m = absurd h
  linked_all (x ∷ xs) [] t h m = absurd h

  linked_literal : (xs ys : List Var) (t : Base) → Linked S xs ys → LiteralBase g xs t → LiteralBase wider ys t
  linked_literal [] [] t h m = m
  linked_literal (x ∷ xs) (y ∷ ys) t h m = linked_all (x ∷ xs) (y ∷ ys) t h m
  linked_literal [] (y ∷ ys) t h m = absurd h
  linked_literal (x ∷ xs) [] t h m = absurd h

  linked_option : (x y : Option Var) (t : Base) → LinkedOption S x y → OptionHas g x t → OptionHas wider y t
  linked_option None None t h m = tt
  linked_option (Some x) (Some y) t h m = k x y t h m
  linked_option None (Some y) t h m = absurd h
  linked_option (Some x) None t h m = absurd h

  plain_bases : (p q : PlainTerm) (ts : List Base) → RenamedPlain S p q → PlainBases g p ts → PlainBases wider q ts
  plain_bases (PlainTerm.Const a) (PlainTerm.Const b) ts h m = subst (λ (c : ArrayValue). PlainBases wider (PlainTerm.Const c) ts) h m
  plain_bases (PlainTerm.Copy x) (PlainTerm.Copy y) ts h m = (m.0, k x y m.0 h m.1, m.2)
  plain_bases (PlainTerm.Unary o x) (PlainTerm.Unary o' y) ts h m =
      (m.0, (m.1.0, k x y m.0 h.1 m.1.1, subst (λ (q : Op). UnaryBase q m.0 m.1.0) h.0 m.1.2, m.1.3))
  plain_bases (PlainTerm.Binary o x x') (PlainTerm.Binary o' y y') ts h m =
      (m.0, (m.1.0, k x y m.0 h.1 m.1.1, k x' y' m.0 h.2 m.1.2, subst (λ (q : Op). BinaryBase q m.0 m.1.0) h.0 m.1.3, m.1.4))
  plain_bases (PlainTerm.Literal xs) (PlainTerm.Literal ys) ts h m = (m.0, linked_literal xs ys m.0 h m.1, m.2)
  plain_bases (PlainTerm.Dim x) (PlainTerm.Dim y) ts h m = (m.0, k x y m.0 h m.1, m.2)
  plain_bases (PlainTerm.ShapeOf x) (PlainTerm.ShapeOf y) ts h m = (m.0, k x y m.0 h m.1, m.2)
  plain_bases (PlainTerm.Reshape x x') (PlainTerm.Reshape y y') ts h m = (m.0, k x y Int h.0 m.1, k x' y' m.0 h.1 m.2, m.3)
  plain_bases (PlainTerm.Select x x') (PlainTerm.Select y y') ts h m = (m.0, k x y m.0 h.0 m.1, k x' y' Int h.1 m.2, m.3)
  plain_bases (PlainTerm.Replace x x' x'') (PlainTerm.Replace y y' y'') ts h m = (m.0, k x y m.0 h.0 m.1, k x' y' Int h.1 m.2, k x'' y'' m.0 h.2 m.3, m.4)
  plain_bases (PlainTerm.Always u) (PlainTerm.Always l) ts h m = tt
  plain_bases (PlainTerm.Check x t) (PlainTerm.Check y u) ts h m =
      subst (λ (ty : ArrayType). HasBase wider y ty.base × (ts ≡ ty.base ∷ [])) h.0 (k x y t.base h.1 m.0, m.1)
  plain_bases _ _ ts h m = absurd h

  op_bases : (o p : CoreOp) (t : Base) → RenamedCoreOp S o p → OperationBase g o t → OperationBase wider p t
  op_bases (making.Genarray x x') (making.Genarray y y') t h m = (k x y Int h.0 m.0, k x' y' t h.1 m.1)
  op_bases (making.Modarray x) (making.Modarray y) t h m = k x y t h m
  op_bases (making.Fold o x) (making.Fold o' y) t h m = (k x y t h.1 m.0, (λ i. folds t (sym h.0 i)) ∙ m.1)
  op_bases _ _ t h m = absurd h

  parted_bases : (o p : PartedOp) (t : Base) → RenamedPartedOp S o p → PartedBase g o t → PartedBase wider p t
  parted_bases parted.Genarray parted.Genarray t h m = tt
  parted_bases (parted.Modarray x) (parted.Modarray y) t h m = k x y t h m
  parted_bases (parted.Fold o x) (parted.Fold o' y) t h m = (k x y t h.1 m.0, (λ i. folds t (sym h.0 i)) ∙ m.1)
  parted_bases _ _ t h m = absurd h

grids_same : (S : Link) (p q : PartsTerm) → RenamedParts S p q → part_grids p ≡ part_grids q
grids_same S NoParts NoParts h = refl
grids_same S (Part x b r) (Part y c q) h = λ i. h.0 i ∷ grids_same S r q h.3 i
grids_same S NoParts (Part y c q) h = absurd h
grids_same S (Part x b r) NoParts h = absurd h

fits_same : (S : Link) (o p : PartedOp) (f f' : List Grid1) (c c' : List ℕ) (gs gs' : List (List Grid1)) → RenamedPartedOp S o p → f ≡ f' → c ≡ c' → gs ≡ gs' → PartedFits o f c gs → PartedFits p f' c' gs'
fits_same S o p f f' c c' gs gs' h pf pc pg m =
    subst (λ (x : List (List Grid1)). PartedFits p f' c' x) pg (subst (λ (x : List ℕ). PartedFits p f' x gs) pc (subst (λ (x : List Grid1). PartedFits p x c gs) pf (alike o p h m)))
  where
    alike : (o p : PartedOp) → RenamedPartedOp S o p → PartedFits o f c gs → PartedFits p f c gs
    alike parted.Genarray parted.Genarray h m = m
    alike (parted.Modarray x) (parted.Modarray y) h m = m
    alike (parted.Fold o x) (parted.Fold o' y) h m = m
    alike _ _ h m = absurd h

-- ---- copies

pub counts : {n m l : ℕ} → n ≡ m → m ≡ l → n ≡ l
counts p q = p ∙ q

module _ (core next : CoreTerm) (into : (group : ℕ) (us ts : List Base) → GroupBases core group us ts → GroupBases next group us ts) where
  mutual
    pub copy_bases :
        (S : Link) (b c : BlockTerm) (g wider : Bases) (ts : List Base) → Renamed S b c → Alike b c → GivesBases S g wider → BlockBases core g b ts →
        Distinct (bound_in b) → Distinct (bound_in c) → BlockBases next wider c ts
    copy_bases S (Gives xs) (Gives ys) g wider ts h a k m d e = linked_bases S g wider k xs ys ts h m
    copy_bases S (Bind xs s r b) (Bind ys t q c) g wider ts h a k m d e =
        let us = m.0 in
        let dr = distinct_right xs (bound_in_right r ++ bound_in b) d in
        let er = distinct_right ys (bound_in_right q ++ bound_in c) e in
        let ly = counts a.0 m.1.1 in (
          us,
          (
            copy_bases_right S r q g wider us h.1 a.1 k m.1.0 (distinct_left (bound_in_right r) (bound_in b) dr) (distinct_left (bound_in_right q) (bound_in c) er),
            ly,
            copy_bases (under_all S xs ys) b c (zip xs us ++ g) (zip ys us ++ wider) ts h.2 a.2
                (gives_all S g wider xs ys us m.1.1 ly (distinct_left xs (bound_in_right r ++ bound_in b) d) (distinct_left ys (bound_in_right q ++ bound_in c) e) k) m.1.2
                (distinct_right (bound_in_right r) (bound_in b) dr) (distinct_right (bound_in_right q) (bound_in c) er),
          ),
        )
    copy_bases S (Gives xs) (Bind ys t q c) g wider ts h a k m d e = absurd h
    copy_bases S (Bind xs s r b) (Gives ys) g wider ts h a k m d e = absurd h

    copy_bases_right :
        (S : Link) (r q : RightTerm) (g wider : Bases) (ts : List Base) → RenamedRight S r q → AlikeRight r q → GivesBases S g wider → RightBases core g r ts →
        Distinct (bound_in_right r) → Distinct (bound_in_right q) → RightBases next wider q ts
    copy_bases_right S (Plain p) (Plain q) g wider ts h a k m d e = plain_bases S g wider k p q ts h m
    copy_bases_right S (RightTerm.If x u b) (RightTerm.If y v c) g wider ts h a k m d e = (
      k x y Truth h.0 m.0,
      copy_bases S u v g wider ts h.1 a.0 k m.1 (distinct_left (bound_in u) (bound_in b) d) (distinct_left (bound_in v) (bound_in c) e),
      copy_bases S b c g wider ts h.2 a.1 k m.2 (distinct_right (bound_in u) (bound_in b) d) (distinct_right (bound_in v) (bound_in c) e),
    )
    copy_bases_right S (RightTerm.Loop f xs ps u b w) (RightTerm.Loop f' ys qs v c w') g wider ts h a k m d e =
        let ly = counts a.0 m.1 in
        let dr = distinct_right ps (bound_in u ++ bound_in b) d in
        let er = distinct_right qs (bound_in v ++ bound_in c) e in
        let kr = gives_all S g wider ps qs ts m.1 ly (distinct_left ps (bound_in u ++ bound_in b) d) (distinct_left qs (bound_in v ++ bound_in c) e) k in (
          linked_bases S g wider k xs ys ts h.2 m.0,
          ly,
          copy_bases (under_all S ps qs) u v (zip ps ts ++ g) (zip qs ts ++ wider) (Truth ∷ []) h.3 a.1 kr m.2 (distinct_left (bound_in u) (bound_in b) dr) (distinct_left (bound_in v) (bound_in c) er),
          copy_bases (under_all S ps qs) b c (zip ps ts ++ g) (zip qs ts ++ wider) ts h.4 a.2 kr m.3 (distinct_right (bound_in u) (bound_in b) dr) (distinct_right (bound_in v) (bound_in c) er),
        )
    copy_bases_right S (RightTerm.Call n xs) (RightTerm.Call n' ys) g wider ts h a k m d e =
        (m.0, (linked_bases S g wider k xs ys m.0 h.1 m.1.0, subst (λ (n : ℕ). GroupBases next n m.0 ts) h.0 (into n m.0 ts m.1.1)))
    copy_bases_right S (RightTerm.With o gs) (RightTerm.With o' hs) g wider ts h a k m d e =
        (m.0, (op_bases S g wider k o o' m.0 h.0 m.1.0, copy_bases_gens S gs hs g wider m.0 h.1 a k m.1.1 d e, m.1.2))
    copy_bases_right S (RightTerm.Parted f t c o p) (RightTerm.Parted f' t' c' o' q) g wider ts h a k m d e =
        subst (λ (u : Base). RightBases next wider (RightTerm.Parted f' u c' o' q) ts) h.1 (
          parted_bases S g wider k o o' t h.3 m.0,
          copy_bases_parts S p q g wider t h.4 a k m.1 d e,
          fits_same S o o' f f' c c' (part_grids p) (part_grids q) h.3 h.0 h.2 (grids_same S p q h.4) m.2,
          m.3,
        )
    copy_bases_right S _ _ g wider ts h a k m d e = absurd h

    copy_bases_gens :
        (S : Link) (gs hs : GensTerm) (g wider : Bases) (t : Base) → RenamedGens S gs hs → AlikeGens gs hs → GivesBases S g wider → GensBases core g gs t →
        Distinct (bound_in_gens gs) → Distinct (bound_in_gens hs) → GensBases next wider hs t
    copy_bases_gens S NoGens NoGens g wider t h a k m d e = tt
    copy_bases_gens S (Gen x b r) (Gen y c q) g wider t h a k m d e =
        let xs = x.index ∷ x.names in
        let ys = y.index ∷ y.names in
        let dr = distinct_right xs (bound_in b ++ bound_in_gens r) d in
        let er = distinct_right ys (bound_in c ++ bound_in_gens q) e in (
          linked_option S g wider k x.lower y.lower Int h.0.4 m.0,
          linked_option S g wider k x.upper y.upper Int h.0.5 m.1,
          linked_option S g wider k x.step y.step Int h.0.6 m.2,
          linked_option S g wider k x.width y.width Int h.0.7 m.3,
          copy_bases (under_all S xs ys) b c (forms.ints xs ++ g) (forms.ints ys ++ wider) (t ∷ []) h.1 a.0 (gives_ints S g wider xs ys k) m.4
              (distinct_left (bound_in b) (bound_in_gens r) dr) (distinct_left (bound_in c) (bound_in_gens q) er),
          copy_bases_gens S r q g wider t h.2 a.1 k m.5 (distinct_right (bound_in b) (bound_in_gens r) dr) (distinct_right (bound_in c) (bound_in_gens q) er),
        )
    copy_bases_gens S _ _ g wider t h a k m d e = absurd h

    copy_bases_parts :
        (S : Link) (gs hs : PartsTerm) (g wider : Bases) (t : Base) → RenamedParts S gs hs → AlikeParts gs hs → GivesBases S g wider → PartsBases core g gs t →
        Distinct (bound_in_parts gs) → Distinct (bound_in_parts hs) → PartsBases next wider hs t
    copy_bases_parts S NoParts NoParts g wider t h a k m d e = tt
    copy_bases_parts S (Part x b r) (Part y c q) g wider t h a k m d e =
        let xs = x.index ∷ [] in
        let ys = y.index ∷ [] in
        let dr = distinct_right xs (bound_in b ++ bound_in_parts r) d in
        let er = distinct_right ys (bound_in c ++ bound_in_parts q) e in (
          copy_bases (under S x.index y.index) b c ((x.index, Int) ∷ g) ((y.index, Int) ∷ wider) (t ∷ []) h.2 a.0 (gives_one S g wider x.index y.index Int k) m.0
              (distinct_left (bound_in b) (bound_in_parts r) dr) (distinct_left (bound_in c) (bound_in_parts q) er),
          copy_bases_parts S r q g wider t h.3 a.1 k m.1 (distinct_right (bound_in b) (bound_in_parts r) dr) (distinct_right (bound_in c) (bound_in_parts q) er),
        )
    copy_bases_parts S _ _ g wider t h a k m d e = absurd h

  -- ---- parts

  -- the numbers that the variables name, each put before the bases
  abbrev flipped : List Var → Bases → Bases
  flipped [] g = g
  flipped (x ∷ xs) g = flipped xs ((x, Int) ∷ g)

  flipped_base : (a : Var) (xs : List Var) (g : Bases) → base_of (forms.ints xs ++ g) a ≡ base_of (flipped xs g) a
  flipped_base a [] g = refl
  flipped_base a (x ∷ xs) g = ints_turned a x xs g ∙ flipped_base a xs ((x, Int) ∷ g)

  -- none of the variables has a base
  abbrev pub Baseless : List Var → Bases → Type 0
  Baseless xs g = (y : Var) → is_in y xs ≡ true → base_of g y ≡ None

  no_base : (g : Bases) (x : Var) (t : Base) → base_of g x ≡ None → base_of g x ≡ Some t → ⊥
  no_base g x t p q = let r : ◌≡◌ {A = Option Base} None (Some t) = sym p ∙ q in cc

  -- another variable keeps its base
  kept : (g : Bases) (c : Var) (u t : Base) (y : Var) → base_of g c ≡ None → base_of g y ≡ Some t → base_of ((c, u) ∷ g) y ≡ Some t
  kept g c u t y n h = go (eqb c.0 y.0) refl
    where
      go : (b : Bool) → eqb c.0 y.0 ≡ b → cond (eqb c.0 y.0) (Some u) (base_of g y) ≡ Some t
      go true e = absurd (no_base g c t n ((λ i. base_of g (same_number c y e i)) ∙ h))
      go false e = (λ i. cond (e i) (Some u) (base_of g y)) ∙ h

  own : (g : Bases) (y : Var) (u : Base) → base_of ((y, u) ∷ g) y ≡ Some u
  own g y u = λ i. cond (eq-eqb y.0 y.0 refl i) (Some u) (base_of g y)

  fits_number : (j : ℕ) → j < 8 → IsCell Int (pos j)
  fits_number j h = omega (arith, ints, h)

  number_array : (j : ℕ) → j < 8 → IsArray (scalar Int (pos j)) × IsWellTyped (scalar Int (pos j))
  number_array j h = (
    record { shape = record { rank = omega arith; each = All-nil (λ n. n < 2 ^ 31) }; most = omega arith; full = refl },
    All-cons (IsCell Int) (pos j) [] (fits_number j h) (All-nil (IsCell Int)),
  )

  -- bound variables that are new stay so below one of them
  baseless_below : (x : Var) (ys : List Var) (u : Base) (g : Bases) → is_in x ys ≡ false → Baseless (x ∷ ys) g → Baseless ys ((x, u) ∷ g)
  baseless_below x ys u g d f = λ y h. go y h (eqb x.0 y.0) refl
    where
      go : (y : Var) → is_in y ys ≡ true → (b : Bool) → eqb x.0 y.0 ≡ b → cond (eqb x.0 y.0) (Some u) (base_of g y) ≡ None
      go y h true e = clash (is_in x ys) ((λ i. is_in (same_number x y e i) ys) ∙ h) d
      go y h false e = (λ i. cond (e i) (Some u) (base_of g y)) ∙ f y (names.behind_first y x ys h)

  number_step : (j n : ℕ) → j + suc n ≤ 8 → (j < 8) × (suc j + n ≤ 8)
  number_step j n h = (omega (arith, h), omega (arith, h))

  named_bases :
      (S : Link) (i : Var) (j : ℕ) (xs : List Var) (body b : BlockTerm) (full g wider : Bases) (ts : List Base) → NamedBody S i j xs body b → NamedAlike xs body b →
      GivesBases S g wider → base_of wider i ≡ Some Int → j + length xs ≤ 8 → ((a : Var) (t : Base) → base_of full a ≡ Some t → base_of (flipped xs g) a ≡ Some t) →
      BlockBases core full body ts → Distinct (bound_in body) → Distinct (bound_in b) → Baseless (bound_in b) wider → BlockBases next wider b ts
  named_bases S i j [] body b full g wider ts n a k at l f m d e w = copy_bases S body b full wider ts n a (λ x y t h q. k x y t h (f x t q)) m d e
  named_bases S i j (x ∷ xs) body b full g wider ts n a k at l f m d e w =
      let c = n.0 in
      let y = n.1.0 in
      let rest = n.1.1.1.1.0 in
      let q = n.1.1.1.1.1 in
      let step = number_step j (length xs) l in
      let e0 : Distinct (c ∷ (y ∷ bound_in rest)) = subst (λ (z : BlockTerm). Distinct (bound_in z)) q.0 e in
      let w0 : Baseless (c ∷ (y ∷ bound_in rest)) wider = subst (λ (z : BlockTerm). Baseless (bound_in z) wider) q.0 w in
      let w1 : Baseless (y ∷ bound_in rest) ((c, Int) ∷ wider) = baseless_below c (y ∷ bound_in rest) Int wider e0.0 w0 in
      let w2 : Baseless (bound_in rest) ((y, Int) ∷ ((c, Int) ∷ wider)) = baseless_below y (bound_in rest) Int ((c, Int) ∷ wider) e0.1.0 w1 in
      let nc = w0 c (names.itself c (y ∷ bound_in rest)) in
      let ny = w1 y (names.itself y (bound_in rest)) in
      let more : GivesBases S g ((c, Int) ∷ wider) = λ p z t h r. kept wider c Int t z nc (k p z t h r) in
      let at1 = kept wider c Int Int i nc at in
      subst (λ (z : BlockTerm). BlockBases next wider z ts) (sym q.0) (
        (Int ∷ []),
        (
          ((number_array j step.0).0, (number_array j step.0).1, refl),
          refl,
          (
            (Int ∷ []),
            (
              (Int, at1, own wider c Int, refl),
              refl,
              named_bases (under S x y) i (suc j) xs body rest full ((x, Int) ∷ g) ((y, Int) ∷ ((c, Int) ∷ wider)) ts q.4
                  (subst (NamedAlike (x ∷ xs) body) q.0 a) (gives_one S g ((c, Int) ∷ wider) x y Int more)
                  (kept ((c, Int) ∷ wider) y Int Int i ny at1) step.1 f m d e0.1.1 w2,
            ),
          ),
        ),
      )

  gen_bases : (gens : GensTerm) (n : ℕ) (h : GenHead) (b : BlockTerm) (g : Bases) (t : Base) → GenAt gens n h b → GensBases core g gens t → BlockBases core (forms.ints (h.index ∷ h.names) ++ g) b (t ∷ [])
  gen_bases NoGens n h b g t p s = absurd p
  gen_bases (Gen x y rest) zero h b g t p s =
      subst (λ (z : GenHead). BlockBases core (forms.ints (z.index ∷ z.names) ++ g) b (t ∷ [])) p.0 (subst (λ (z : BlockTerm). BlockBases core (forms.ints (x.index ∷ x.names) ++ g) z (t ∷ [])) p.1 s.4)
  gen_bases (Gen x y rest) (suc n) h b g t p s = gen_bases rest n h b g t p s.5

  gen_distinct : (gens : GensTerm) (n : ℕ) (h : GenHead) (b : BlockTerm) → GenAt gens n h b → Distinct (bound_in_gens gens) → Distinct (bound_in b)
  gen_distinct NoGens n h b p d = absurd p
  gen_distinct (Gen x y rest) zero h b p d =
      subst (λ (z : BlockTerm). Distinct (bound_in z)) p.1 (distinct_left (bound_in y) (bound_in_gens rest) (distinct_right (x.index ∷ x.names) (bound_in y ++ bound_in_gens rest) d))
  gen_distinct (Gen x y rest) (suc n) h b p d =
      gen_distinct rest n h b p (distinct_right (bound_in y) (bound_in_gens rest) (distinct_right (x.index ∷ x.names) (bound_in y ++ bound_in_gens rest) d))

  same_gives : (g : Bases) → GivesBases itself g g
  same_gives g x y t h m = (λ i. base_of g (sym (same_number x y h) i)) ∙ m

  made_bases :
      (axes : ℕ) (v : Var) (gens : GensTerm) (h : PartHead) (b : BlockTerm) (g : Bases) (t : Base) → axes ≤ 8 → Made axes v gens h b → base_of g v ≡ Some t → GensBases core g gens t →
      base_of g h.index ≡ None → Distinct (bound_in_gens gens) → Distinct (bound_in b) → Baseless (bound_in b) ((h.index, Int) ∷ g) → BlockBases next ((h.index, Int) ∷ g) b (t ∷ [])
  made_bases axes v gens h b g t l (inl c) at s n d e w =
      named_bases (under itself c.head.index h.index) h.index 0 c.head.names c.body b (forms.ints (c.head.index ∷ c.head.names) ++ g) ((c.head.index, Int) ∷ g) ((h.index, Int) ∷ g) (t ∷ []) c.named c.alike
      (gives_one itself g g c.head.index h.index Int (same_gives g)) (own g h.index Int) (fewer (length c.head.names) axes c.few l)
      (λ a u m. sym (flipped_base a (c.head.index ∷ c.head.names) g) ∙ m) (gen_bases gens c.place c.head c.body g t c.stands s) (gen_distinct gens c.place c.head c.body c.stands d) e w
    where
      fewer : (k a : ℕ) → k ≤ a → a ≤ 8 → 0 + k ≤ 8
      fewer k a p q = omega (arith, p, q)
  made_bases axes v gens h b g t l (inr (inl q)) at s n d e w = subst (λ (z : BlockTerm). BlockBases next ((h.index, Int) ∷ g) z (t ∷ [])) (sym q.0) (kept g h.index Int t v n at, tt)
  made_bases axes v gens h b g t l (inr (inr q)) at s n d e w =
      subst (λ (z : BlockTerm). BlockBases next ((h.index, Int) ∷ g) z (t ∷ [])) (sym q.1.1.0)
      ((t ∷ []), ((t, kept g h.index Int t v n at, own g h.index Int, refl), refl, (own ((h.index, Int) ∷ g) q.0 t, tt)))

  pub parts_bases :
      (axes : ℕ) (v : Var) (gens : GensTerm) (parts : PartsTerm) (g : Bases) (t : Base) → axes ≤ 8 → MadeParts axes v gens parts → base_of g v ≡ Some t → GensBases core g gens t →
      Distinct (bound_in_gens gens) → Distinct (bound_in_parts parts) → Baseless (bound_in_parts parts) g → PartsBases next g parts t
  parts_bases axes v gens NoParts g t l h at s d e w = tt
  parts_bases axes v gens (Part x b rest) g t l h at s d e w =
      let more = bound_in b ++ bound_in_parts rest in
      let er = distinct_right (x.index ∷ []) more e in
      let wr = baseless_below x.index more Int g e.0 w in (
        made_bases axes v gens x b g t l h.0 at s (w x.index (names.itself x.index more)) d (distinct_left (bound_in b) (bound_in_parts rest) er)
            (λ y p. wr y (names.in_left y (bound_in b) (bound_in_parts rest) p)),
        parts_bases axes v gens rest g t l h.1 at s d (distinct_right (bound_in b) (bound_in_parts rest) er)
            (λ y p. w y (in_right y (x.index ∷ []) more (in_right y (bound_in b) (bound_in_parts rest) p))),
      )
