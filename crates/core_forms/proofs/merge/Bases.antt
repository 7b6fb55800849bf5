-- The bases of merged bodies agree.
use Rattle.std.proofs.Common.{◌≡◌, ℕ, Bool, true, false, not, ◌&&◌, cond, eqb, List, [], ◌∷◌, ◌++◌, map, length, Some, refl, sym, ap, subst, ◌∙◌, inl, inr, arith}
use Rattle.std.specs.Prelude.{if◌then◌else◌, zip}
use Rattle.sac_base.specs.declared.base.Base.{Base}
use Rattle.sac_base.specs.declared.base.Base.TheVariants.{Int, Bool as Truth}
use Rattle.sac_base.specs.declared.grid.Grid1.{Grid1}
use Rattle.sac_base.specs.declared.op.Op.{Op}
use Rattle.sac_base.specs.declared.site.Site.{Site}
use Rattle.sac_base.specs.declared.types.ArrayType.{ArrayType}
use Rattle.sac_base.specs.Arrays.{ArrayValue}
use Rattle.core_ir.specs.declared.tree.Var.{Var}
use Rattle.core_ir.specs.declared.tree.PartedOp.TheVariants as parted
use Rattle.core_ir.specs.Binders.{is_in, bound_in, bound_in_right, bound_in_parts}
use Rattle.core_ir.specs.Renaming.{Link, Linked, Renamed, RenamedRight, RenamedPlain, under, under_all}
use Rattle.core_ir.specs.Scopes.{plain_uses}
use Rattle.core_ir.specs.Terms.{PlainTerm, BlockTerm, RightTerm, PartsTerm, LetTerm, PartHead, CoreTerm, Gives, Bind, Plain, NoParts, Part, Parted, chain}
use Rattle.core_ir.specs.Uses.{AvoidsAll, Avoids, AvoidsRight}
use Rattle.core_ir.specs.WellFormed.{Bases, base_of, HasBase, HasBases, AllHave, LiteralBase, PlainBases, UnaryBase, BinaryBase, GroupBases, BlockBases, RightBases, PartsBases, Distinct}
use Rattle.core_ir.proofs.Variables.{same_number}
use Rattle.core_facts.proofs.bases.Bound.{swap, firsts}
use Rattle.core_loops.specs.Pairs.{AvoidsLets}
use Rattle.core_loops.specs.Steps.{itself}
use Rattle.core_loops.specs.norm_steps.Step.{BaseTable, Within, Follows, FollowsParts}
use Rattle.core_loops.proofs.norm_steps.Places.{within_zip, within_one}
use Rattle.core_forms.proofs.inlined_bodies.Names.{clash, distinct_left, distinct_right}
use Rattle.core_forms.specs.norm.Alike.{Alike, AlikeRight}
use Rattle.core_forms.proofs.norm.Typing.{GivesBases, gives_one, copy_bases, counts}
use Rattle.core_forms.proofs.merge.Straight.{Straight, StraightRight, StraightLets}
use Rattle.core_forms.proofs.merge.Makes.{Kept, own_base}
use Rattle.core_forms.proofs.merge.Scopes.{Stands}

-- ---- what a link gives of some variables

module _ (P : Var → Type 0) where
  abbrev pub GivesWhere : Link → Bases → Bases → Type 0
  GivesWhere S g wider = (x y : Var) (t : Base) → P x → S x y ≡ true → base_of g x ≡ Some t → base_of wider y ≡ Some t

  where_one : (S : Link) (g wider : Bases) (x y : Var) (u : Base) → GivesWhere S g wider → GivesWhere (under S x y) ((x, u) ∷ g) ((y, u) ∷ wider)
  where_one S g wider x y u k a b t n h m = go (eqb x.0 a.0) (eqb y.0 b.0) h m
    where
      go : (p q : Bool) → (if p then q else (not q && S a b)) ≡ true → cond p (Some u) (base_of g a) ≡ Some t → cond q (Some u) (base_of wider b) ≡ Some t
      go true true h m = m
      go true false h m = clash false h refl
      go false true h m = clash false h refl
      go false false h m = k a b t n h m

  pub where_all : (S : Link) (g wider : Bases) (xs ys : List Var) (us : List Base) → length xs ≡ length us → length ys ≡ length us → Distinct xs → Distinct ys → GivesWhere S g wider → GivesWhere (under_all S xs ys) (zip xs us ++ g) (zip ys us ++ wider)
  where_all S g wider [] [] us p q d e k a b t n h m = k a b t n h m
  where_all S g wider (x ∷ xs) (y ∷ ys) (u ∷ us) p q d e k a b t n h m =
      let lx : length xs ≡ length us = omega (arith, p) in
      let ly : length ys ≡ length us = omega (arith, q) in
      swap (zip ys us) wider (y, u) b ((λ i. is_in y (firsts ys us ly i)) ∙ e.0)
      ∙ where_all (under S x y) ((x, u) ∷ g) ((y, u) ∷ wider) xs ys us lx ly d.1 e.1 (where_one S g wider x y u k) a b t n h
      (sym (swap (zip xs us) g (x, u) a ((λ i. is_in x (firsts xs us lx i)) ∙ d.0)) ∙ m)
  where_all S g wider (x ∷ xs) (y ∷ ys) [] p q d e k a b t n h m = absurd (omega (arith, p))
  where_all S g wider [] (y ∷ ys) us p q d e k a b t n h m = clash false h refl
  where_all S g wider (x ∷ xs) [] us p q d e k a b t n h m = clash false h refl

-- ---- straight bindings that do not use a variable

module _ (core next : CoreTerm) (z : Var) where
  abbrev Other : Var → Type 0
  Other x = eqb z.0 x.0 ≡ false

  module _ (S : Link) (g wider : Bases) (k : GivesWhere Other S g wider) where
    linked_bases : (xs ys : List Var) (ts : List Base) → Linked S xs ys → AvoidsAll z xs → HasBases g xs ts → HasBases wider ys ts
    linked_bases [] [] [] h n m = tt
    linked_bases (x ∷ xs) (y ∷ ys) (t ∷ ts) h n m = (k x y t n.0 h.0 m.0, linked_bases xs ys ts h.1 n.1 m.1)
    linked_bases [] [] (t ∷ ts) h n m = absurd m
    linked_bases (x ∷ xs) (y ∷ ys) [] h n m = absurd m
    linked_bases [] (y ∷ ys) ts h n m = absurd h
    linked_bases (x ∷ xs) [] ts h n m = absurd h

    linked_all : (xs ys : List Var) (t : Base) → Linked S xs ys → AvoidsAll z xs → AllHave g xs t → AllHave wider ys t
    linked_all [] [] t h n m = tt
    linked_all (x ∷ xs) (y ∷ ys) t h n m = (k x y t n.0 h.0 m.0, linked_all xs ys t h.1 n.1 m.1)
    linked_all [] (y ∷ ys) t h n m = absurd h
    linked_all (x ∷ xs) [] t h n m = absurd h

    linked_literal : (xs ys : List Var) (t : Base) → Linked S xs ys → AvoidsAll z xs → LiteralBase g xs t → LiteralBase wider ys t
    linked_literal [] [] t h n m = m
    linked_literal (x ∷ xs) (y ∷ ys) t h n m = linked_all (x ∷ xs) (y ∷ ys) t h n m
    linked_literal [] (y ∷ ys) t h n m = absurd h
    linked_literal (x ∷ xs) [] t h n m = absurd h

    plain_bases : (p q : PlainTerm) (ts : List Base) → RenamedPlain S p q → AvoidsAll z (plain_uses p) → PlainBases g p ts → PlainBases wider q ts
    plain_bases (PlainTerm.Const a) (PlainTerm.Const b) ts h n m = subst (λ (c : ArrayValue). PlainBases wider (PlainTerm.Const c) ts) h m
    plain_bases (PlainTerm.Copy x) (PlainTerm.Copy y) ts h n m = (m.0, k x y m.0 n.0 h m.1, m.2)
    plain_bases (PlainTerm.Unary o x) (PlainTerm.Unary o' y) ts h n m =
        (m.0, (m.1.0, k x y m.0 n.0 h.1 m.1.1, subst (λ (q : Op). UnaryBase q m.0 m.1.0) h.0 m.1.2, m.1.3))
    plain_bases (PlainTerm.Binary o x x') (PlainTerm.Binary o' y y') ts h n m =
        (m.0, (m.1.0, k x y m.0 n.0 h.1 m.1.1, k x' y' m.0 n.1.0 h.2 m.1.2, subst (λ (q : Op). BinaryBase q m.0 m.1.0) h.0 m.1.3, m.1.4))
    plain_bases (PlainTerm.Literal xs) (PlainTerm.Literal ys) ts h n m = (m.0, linked_literal xs ys m.0 h n m.1, m.2)
    plain_bases (PlainTerm.Dim x) (PlainTerm.Dim y) ts h n m = (m.0, k x y m.0 n.0 h m.1, m.2)
    plain_bases (PlainTerm.ShapeOf x) (PlainTerm.ShapeOf y) ts h n m = (m.0, k x y m.0 n.0 h m.1, m.2)
    plain_bases (PlainTerm.Reshape x x') (PlainTerm.Reshape y y') ts h n m = (m.0, k x y Int n.0 h.0 m.1, k x' y' m.0 n.1.0 h.1 m.2, m.3)
    plain_bases (PlainTerm.Select x x') (PlainTerm.Select y y') ts h n m = (m.0, k x y m.0 n.0 h.0 m.1, k x' y' Int n.1.0 h.1 m.2, m.3)
    plain_bases (PlainTerm.Replace x x' x'') (PlainTerm.Replace y y' y'') ts h n m = (m.0, k x y m.0 n.0 h.0 m.1, k x' y' Int n.1.0 h.1 m.2, k x'' y'' m.0 n.1.1.0 h.2 m.3, m.4)
    plain_bases (PlainTerm.Always u) (PlainTerm.Always l) ts h n m = tt
    plain_bases (PlainTerm.Check x t) (PlainTerm.Check y u) ts h n m =
        subst (λ (ty : ArrayType). HasBase wider y ty.base × (ts ≡ ty.base ∷ [])) h.0 (k x y t.base n.0 h.1 m.0, m.1)
    plain_bases _ _ ts h n m = absurd h

  mutual
    straight_bases :
        (S : Link) (b c : BlockTerm) (g wider : Bases) (ts : List Base) → Renamed S b c → Alike b c → Straight b → Avoids z b → GivesWhere Other S g wider → BlockBases core g b ts →
        Distinct (bound_in b) → Distinct (bound_in c) → BlockBases next wider c ts
    straight_bases S (Gives xs) (Gives ys) g wider ts h a st n k m d e = linked_bases S g wider k xs ys ts h n m
    straight_bases S (Bind xs s r b) (Bind ys t q c) g wider ts h a st n k m d e =
        let us = m.0 in
        let dr = distinct_right xs (bound_in_right r ++ bound_in b) d in
        let er = distinct_right ys (bound_in_right q ++ bound_in c) e in
        let ly = counts a.0 m.1.1 in (
          us,
          (
            right_bases S r q g wider us h.1 a.1 st.0 n.0 k m.1.0 (distinct_left (bound_in_right r) (bound_in b) dr) (distinct_left (bound_in_right q) (bound_in c) er),
            ly,
            straight_bases (under_all S xs ys) b c (zip xs us ++ g) (zip ys us ++ wider) ts h.2 a.2 st.1 n.1
                (where_all Other S g wider xs ys us m.1.1 ly (distinct_left xs (bound_in_right r ++ bound_in b) d) (distinct_left ys (bound_in_right q ++ bound_in c) e) k) m.1.2
                (distinct_right (bound_in_right r) (bound_in b) dr) (distinct_right (bound_in_right q) (bound_in c) er),
          ),
        )
    straight_bases S (Gives xs) (Bind ys t q c) g wider ts h a st n k m d e = absurd h
    straight_bases S (Bind xs s r b) (Gives ys) g wider ts h a st n k m d e = absurd h

    right_bases :
        (S : Link) (r q : RightTerm) (g wider : Bases) (ts : List Base) → RenamedRight S r q → AlikeRight r q → StraightRight r → AvoidsRight z r → GivesWhere Other S g wider → RightBases core g r ts →
        Distinct (bound_in_right r) → Distinct (bound_in_right q) → RightBases next wider q ts
    right_bases S (Plain p) (Plain q) g wider ts h a st n k m d e = plain_bases S g wider k p q ts h n m
    right_bases S (RightTerm.If x u b) (RightTerm.If y v c) g wider ts h a st n k m d e = (
      k x y Truth n.0 h.0 m.0,
      straight_bases S u v g wider ts h.1 a.0 st.0 n.1 k m.1 (distinct_left (bound_in u) (bound_in b) d) (distinct_left (bound_in v) (bound_in c) e),
      straight_bases S b c g wider ts h.2 a.1 st.1 n.2 k m.2 (distinct_right (bound_in u) (bound_in b) d) (distinct_right (bound_in v) (bound_in c) e),
    )
    right_bases S (RightTerm.Loop first start params test body u) q g wider ts h a st n k m d e = absurd st
    right_bases S (RightTerm.Call f xs) q g wider ts h a st n k m d e = absurd st
    right_bases S (RightTerm.With o gens) q g wider ts h a st n k m d e = absurd st
    right_bases S (RightTerm.Parted f b c o parts) q g wider ts h a st n k m d e = absurd st
    right_bases S _ _ g wider ts h a st n k m d e = absurd h

-- ---- bases of one table, in any order

module _ (t : BaseTable) where
  -- more bindings hide none of the table
  kept_more : (xs : List Var) (full : Bases) → Within t full → Kept full (zip xs (map t xs) ++ full)
  kept_more [] full w y u h = h
  kept_more (x ∷ xs) full w y u h = go (eqb x.0 y.0) refl (kept_more xs full w y u h)
    where
      go : (b : Bool) → eqb x.0 y.0 ≡ b → base_of (zip xs (map t xs) ++ full) y ≡ Some u → cond (eqb x.0 y.0) (Some (t x)) (base_of (zip xs (map t xs) ++ full) y) ≡ Some u
      go true e r = (λ i. cond (e i) (Some (t x)) (base_of (zip xs (map t xs) ++ full) y)) ∙ ap Some (ap t (same_number x y e) ∙ sym (w y u h))
      go false e r = (λ i. cond (e i) (Some (t x)) (base_of (zip xs (map t xs) ++ full) y)) ∙ r

  kept_zip : (xs : List Var) (us : List Base) (full : Bases) → us ≡ map t xs → Within t full → Kept full (zip xs us ++ full)
  kept_zip xs us full e w = subst (λ (vs : List Base). Kept full (zip xs vs ++ full)) (sym e) (kept_more xs full w)

  kept_number : (x : Var) (full : Bases) → Int ≡ t x → Within t full → Kept full ((x, Int) ∷ full)
  kept_number x full e w y u h = go (eqb x.0 y.0) refl
    where
      go : (b : Bool) → eqb x.0 y.0 ≡ b → cond (eqb x.0 y.0) (Some Int) (base_of full y) ≡ Some u
      go true q = (λ i. cond (q i) (Some Int) (base_of full y)) ∙ ap Some (e ∙ ap t (same_number x y q) ∙ sym (w y u h))
      go false q = (λ i. cond (q i) (Some Int) (base_of full y)) ∙ h

-- the same bindings in front of both
front_kept : (P : Var → Type 0) (ps g full : Bases) → ((y : Var) (u : Base) → P y → base_of g y ≡ Some u → base_of full y ≡ Some u)
    → (y : Var) (u : Base) → P y → base_of (ps ++ g) y ≡ Some u → base_of (ps ++ full) y ≡ Some u
front_kept P [] g full k y u n h = k y u n h
front_kept P (p ∷ ps) g full k y u n h = go (eqb p.0.0 y.0) h (λ m. front_kept P ps g full k y u n m)
  where
    go : (b : Bool) → cond b (Some p.1) (base_of (ps ++ g) y) ≡ Some u → (base_of (ps ++ g) y ≡ Some u → base_of (ps ++ full) y ≡ Some u) → cond b (Some p.1) (base_of (ps ++ full) y) ≡ Some u
    go true m r = m
    go false m r = r m

module _ (core next : CoreTerm) (into : (group : ℕ) (us ts : List Base) → GroupBases core group us ts → GroupBases next group us ts) (t : BaseTable) where
  abbrev KeptBut : Var → Bases → Bases → Type 0
  KeptBut z g full = (y : Var) (u : Base) → eqb z.0 y.0 ≡ false → base_of g y ≡ Some u → base_of full y ≡ Some u

  -- bindings in front of X are copied in front of a copy of Y: `full` has all bases in scope, but for the variable's
  lets_bases :
      (z : Var) (ls : List LetTerm) (X Y body : BlockTerm) (S : Link) (g full wider : Bases) (ts us : List Base) (m : BlockBases core g (chain ls X) ts) → Follows core t (chain ls X) g ts m
      → Renamed S (chain ls Y) body → Alike (chain ls Y) body → StraightLets ls → AvoidsLets z ls → KeptBut z g full → Within t full → GivesBases S full wider → Distinct (bound_in (chain ls X)) → Distinct (bound_in body)
      → ((T : Link) (g' fu wi : Bases) (rest : BlockTerm) (n : BlockBases core g' X ts) → Follows core t X g' ts n → Renamed T Y rest → Alike Y rest → KeptBut z g' fu → (Kept g full → Kept g' fu) → Kept full fu → Within t fu
      → GivesBases T fu wi → Distinct (bound_in X) → Distinct (bound_in rest) → BlockBases next wi rest us)
      → BlockBases next wider body us
  lets_bases z [] X Y body S g full wider ts us m fo h a st av k w gives d e go = go S g full wider body m fo h a k (λ q. q) (λ y u q. q) w gives d e
  lets_bases z (l ∷ ls) X Y (Gives ys) S g full wider ts us m fo h a st av k w gives d e go = absurd h
  lets_bases z (l ∷ ls) X Y (Bind ys s q c) S g full wider ts us m fo h a st av k w gives d e go =
      let xs = l.targets in
      let old = bound_in_right l.right ++ bound_in (chain ls X) in
      let new = bound_in_right q ++ bound_in c in
      let dr = distinct_right xs old d in
      let er = distinct_right ys new e in
      let ly = counts a.0 m.1.1 in
      let more = kept_zip t xs m.0 full fo.0 w in (
        m.0,
        (
          right_bases core next z S l.right q g wider m.0 h.1 a.1 st.0 av.0 (λ x y u n p r. gives x y u p (k x u n r)) m.1.0 (distinct_left (bound_in_right l.right) (bound_in (chain ls X)) dr) (distinct_left (bound_in_right q) (bound_in c) er),
          ly,
          lets_bases z ls X Y c (under_all S xs ys) (zip xs m.0 ++ g) (zip xs m.0 ++ full) (zip ys m.0 ++ wider) ts us m.1.2 fo.2 h.2 a.2 st.1 av.1
              (front_kept (λ x. eqb z.0 x.0 ≡ false) (zip xs m.0) g full k) (within_zip t full xs m.0 w fo.0)
              (λ x y u p r. where_all (λ v. Unit {0}) S full wider xs ys m.0 m.1.1 ly (distinct_left xs old d) (distinct_left ys new e) (λ x y u n p r. gives x y u p r) x y u tt p r)
              (distinct_right (bound_in_right l.right) (bound_in (chain ls X)) dr) (distinct_right (bound_in_right q) (bound_in c) er)
              (λ T g' fu wi rest n fn hy ay kb all sub wt gt dx dy.
              go T g' fu wi rest n fn hy ay kb (λ p. all (λ y u r. front_kept (λ x. Unit {0}) (zip xs m.0) g full (λ y u j r. p y u r) y u tt r)) (λ y u p. sub y u (more y u p)) wt gt dx dy),
        ),
      )

  -- ---- parts

  part_bases :
      (g : Bases) (b : Base) (ps : PartsTerm) (p : PartHead) (c : BlockTerm) → Stands ps p c → (m : PartsBases core g ps b) → FollowsParts core t ps g b m → Distinct (bound_in_parts ps)
      → (Int ≡ t p.index) × BlockBases core ((p.index, Int) ∷ g) c (b ∷ []) × Distinct (bound_in c)
  part_bases g b NoParts p c n m fo d = absurd n
  part_bases g b (Part h x rest) p c (inl n) m fo d =
      let dr = distinct_right (h.index ∷ []) (bound_in x ++ bound_in_parts rest) d in (
        subst (λ (j : PartHead). Int ≡ t j.index) n.0 fo.0,
        subst (λ (j : PartHead). BlockBases core ((j.index, Int) ∷ g) c (b ∷ [])) n.0 (subst (λ (y : BlockTerm). BlockBases core ((h.index, Int) ∷ g) y (b ∷ [])) n.1 m.0),
        subst (λ (y : BlockTerm). Distinct (bound_in y)) n.1 (distinct_left (bound_in x) (bound_in_parts rest) dr),
      )
  part_bases g b (Part h x rest) p c (inr n) m fo d =
      part_bases g b rest p c n m.1 fo.2 (distinct_right (bound_in x) (bound_in_parts rest) (distinct_right (h.index ∷ []) (bound_in x ++ bound_in_parts rest) d))

  same_gives : (g w : Bases) → Kept g w → GivesBases itself g w
  same_gives g w k x y u h m = (λ i. base_of w (sym (same_number x y h) i)) ∙ k x u m

  -- The copy of the outer bindings and of an inner part's body, below the two old indices: the inner loop's variable stays away.
  pub merged_bases :
      (z : Var) (s : Site) (before after : List LetTerm) (f : List Grid1) (b : Base) (cell : List ℕ) (inner : PartsTerm) (i j : Var) (p : PartHead) (c body : BlockTerm) (l : Var) (g w : Bases)
      (m : BlockBases core ((i, Int) ∷ g) (chain before (Bind (z ∷ []) s (Parted f b cell parted.Genarray inner) (chain after (Gives (z ∷ []))))) (b ∷ []))
      → Follows core t (chain before (Bind (z ∷ []) s (Parted f b cell parted.Genarray inner) (chain after (Gives (z ∷ []))))) ((i, Int) ∷ g) (b ∷ []) m → Int ≡ t i → Within t g
      → StraightLets before → StraightLets after → AvoidsLets z before → AvoidsLets z after → Stands inner p c → Int ≡ t p.index
      → Renamed (under (under itself i j) p.index l) (chain before (chain after c)) body → Alike (chain before (chain after c)) body
      → Kept g w → Distinct (bound_in (chain before (Bind (z ∷ []) s (Parted f b cell parted.Genarray inner) (chain after (Gives (z ∷ [])))))) → Distinct (bound_in body)
      → BlockBases next ((l, Int) ∷ ((j, Int) ∷ w)) body (b ∷ [])
  merged_bases z s before after f b cell inner i j p c body l g w m fo number wg sb sa ab aa st own h a sub d e =
      let X = Bind (z ∷ []) s (Parted f b cell parted.Genarray inner) (chain after (Gives (z ∷ []))) in
      let g1 = (i, Int) ∷ g in
      let full = (p.index, Int) ∷ g1 in
      let wider = (l, Int) ∷ ((j, Int) ∷ w) in
      let w1 : Within t g1 = within_one t g i Int wg number in
      let wf : Within t full = within_one t g1 p.index Int w1 own in
      let k1 : Kept g1 full = kept_number t p.index g1 own w1 in
      let gives : GivesBases (under (under itself i j) p.index l) full wider = gives_one (under itself i j) g1 ((j, Int) ∷ w) p.index l Int (gives_one itself g w i j Int (same_gives g w sub)) in
      lets_bases z before X (chain after c) body (under (under itself i j) p.index l) g1 full wider (b ∷ []) (b ∷ []) m fo h a sb ab (λ y u n q. k1 y u q) wf gives d e
      (λ T g' fu wi rest n fn hy ay kb all subf wt gt dx dy.
      let part = part_bases g' b inner p c st n.1.0.1 fn.1 (distinct_left (bound_in_parts inner) (bound_in (chain after (Gives (z ∷ [])))) dx.1) in
      let there : Kept g' fu = all k1 in
      let last : Kept ((p.index, Int) ∷ g') fu = put p.index g' fu (subf p.index Int (own_base g1 p.index Int)) there in
      lets_bases z after (Gives (z ∷ [])) c rest T (zip (z ∷ []) n.0 ++ g') fu wi (b ∷ []) (b ∷ []) n.1.2 fn.2 hy ay sa aa (λ y u q r. there y u (past n.0 g' y u q r)) wt gt
      (distinct_right (bound_in_parts inner) (bound_in (chain after (Gives (z ∷ [])))) dx.1) dy
      (λ T2 g2 fu2 wi2 end n2 fn2 h2 a2 kb2 all2 sub2 wt2 gt2 dx2 dy2. copy_bases core next into T2 c end ((p.index, Int) ∷ g') wi2 (b ∷ []) h2 a2 (λ x y u q r. gt2 x y u q (sub2 x u (last x u r))) part.1 part.2 dy2))
    where
      past : (us : List Base) (g' : Bases) (y : Var) (u : Base) → eqb z.0 y.0 ≡ false → base_of (zip (z ∷ []) us ++ g') y ≡ Some u → base_of g' y ≡ Some u
      past [] g' y u q r = r
      past (v ∷ us) g' y u q r = sym (λ k. cond (q k) (Some v) (base_of g' y)) ∙ r

      put : (x : Var) (g' fu : Bases) → base_of fu x ≡ Some Int → Kept g' fu → Kept ((x, Int) ∷ g') fu
      put x g' fu at k y u r = go (eqb x.0 y.0) refl r
        where
          go : (q : Bool) → eqb x.0 y.0 ≡ q → cond q (Some Int) (base_of g' y) ≡ Some u → base_of fu y ≡ Some u
          go true q r = (λ k. base_of fu (sym (same_number x y q) k)) ∙ at ∙ r
          go false q r = k y u r
