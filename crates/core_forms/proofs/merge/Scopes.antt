-- Merged bodies are scoped.
use Rattle.std.proofs.Common.{◌≡◌, ℕ, Bool, true, false, not, ◌&&◌, ◌||◌, eqb, List, [], ◌∷◌, ◌++◌, refl, sym, subst, ◌∙◌, ◌⊎◌, inl, inr}
use Rattle.std.specs.Prelude.{if◌then◌else◌}
use Rattle.sac_base.specs.declared.site.Site.{Site}
use Rattle.core_ir.specs.declared.tree.Var.{Var}
use Rattle.core_ir.specs.Binders.{is_in, bound_in, bound_in_right}
use Rattle.core_ir.specs.Renaming.{Link, Linked, Renamed, RenamedRight, RenamedPlain, under, under_all}
use Rattle.core_ir.specs.Scopes.{AllIn, Scoped, ScopedRight, ScopedParts, plain_uses}
use Rattle.core_ir.specs.Terms.{PlainTerm, BlockTerm, RightTerm, PartsTerm, LetTerm, PartHead, Gives, Bind, Plain, NoParts, Part, Parted, chain}
use Rattle.core_ir.specs.Uses.{AvoidsAll, Avoids, AvoidsRight}
use Rattle.core_ir.specs.WellFormed.{Distinct}
use Rattle.core_ir.proofs.Variables.{same_number}
use Rattle.core_loops.specs.Pairs.{AvoidsLets}
use Rattle.core_loops.specs.Steps.{itself}
use Rattle.core_forms.proofs.inlined_bodies.Names.{behind_first, clash, distinct_left, distinct_right, in_either, in_left, none_by}
use Rattle.core_forms.proofs.inlined_bodies.Names as names
use Rattle.core_forms.proofs.norm.Scopes.{Away, Carries, away_left, away_right, carries_all, carries_one, copy_scoped, in_right, turned}
use Rattle.core_forms.proofs.norm.Copies.{Inside}
use Rattle.core_forms.proofs.merge.Straight.{Straight, StraightRight, StraightLets}
use Rattle.core_forms.proofs.merge.Makes.{away_below}

-- ---- straight bindings that do not use a variable

module _ (z : Var) where
  -- what is linked with another variable in scope is in the other scope
  abbrev pub CarriesBut : Link → List Var → List Var → Type 0
  CarriesBut S scope wider = (x y : Var) → eqb z.0 x.0 ≡ false → S x y ≡ true → is_in x scope ≡ true → is_in y wider ≡ true

  but_one : (S : Link) (scope wider : List Var) (x y : Var) → CarriesBut S scope wider → CarriesBut (under S x y) (x ∷ scope) (y ∷ wider)
  but_one S scope wider x y k a b n h m = go (eqb x.0 a.0) (eqb y.0 b.0) h m
    where
      go : (p q : Bool) → (if p then q else (not q && S a b)) ≡ true → (p || is_in a scope) ≡ true → (q || is_in b wider) ≡ true
      go p true h m = refl
      go true false h m = clash false h refl
      go false false h m = k a b n h m

  but_all : (S : Link) (scope wider : List Var) (xs ys : List Var) → CarriesBut S scope wider → CarriesBut (under_all S xs ys) (xs ++ scope) (ys ++ wider)
  but_all S scope wider [] [] k a b n h m = k a b n h m
  but_all S scope wider (x ∷ xs) (y ∷ ys) k a b n h m =
      turned b y ys wider ∙ but_all (under S x y) (x ∷ scope) (y ∷ wider) xs ys (but_one S scope wider x y k) a b n h (sym (turned a x xs scope) ∙ m)
  but_all S scope wider [] (y ∷ ys) k a b n h m = clash false h refl
  but_all S scope wider (x ∷ xs) [] k a b n h m = clash false h refl

  linked_in : (S : Link) (scope wider : List Var) → CarriesBut S scope wider → (xs ys : List Var) → Linked S xs ys → AvoidsAll z xs → AllIn xs scope → AllIn ys wider
  linked_in S scope wider k [] [] h a m = tt
  linked_in S scope wider k (x ∷ xs) (y ∷ ys) h a m = (k x y a.0 h.0 m.0, linked_in S scope wider k xs ys h.1 a.1 m.1)
  linked_in S scope wider k [] (y ∷ ys) h a m = absurd h
  linked_in S scope wider k (x ∷ xs) [] h a m = absurd h

  module _ (S : Link) (scope wider : List Var) (k : CarriesBut S scope wider) where
    plain_in : (p q : PlainTerm) → RenamedPlain S p q → AvoidsAll z (plain_uses p) → AllIn (plain_uses p) scope → AllIn (plain_uses q) wider
    plain_in (PlainTerm.Const a) (PlainTerm.Const b) h n m = tt
    plain_in (PlainTerm.Copy x) (PlainTerm.Copy y) h n m = (k x y n.0 h m.0, tt)
    plain_in (PlainTerm.Unary o x) (PlainTerm.Unary o' y) h n m = (k x y n.0 h.1 m.0, tt)
    plain_in (PlainTerm.Binary o x x') (PlainTerm.Binary o' y y') h n m = (k x y n.0 h.1 m.0, (k x' y' n.1.0 h.2 m.1.0, tt))
    plain_in (PlainTerm.Literal xs) (PlainTerm.Literal ys) h n m = linked_in S scope wider k xs ys h n m
    plain_in (PlainTerm.Dim x) (PlainTerm.Dim y) h n m = (k x y n.0 h m.0, tt)
    plain_in (PlainTerm.ShapeOf x) (PlainTerm.ShapeOf y) h n m = (k x y n.0 h m.0, tt)
    plain_in (PlainTerm.Reshape x x') (PlainTerm.Reshape y y') h n m = (k x y n.0 h.0 m.0, (k x' y' n.1.0 h.1 m.1.0, tt))
    plain_in (PlainTerm.Select x x') (PlainTerm.Select y y') h n m = (k x y n.0 h.0 m.0, (k x' y' n.1.0 h.1 m.1.0, tt))
    plain_in (PlainTerm.Replace x x' x'') (PlainTerm.Replace y y' y'') h n m = (k x y n.0 h.0 m.0, (k x' y' n.1.0 h.1 m.1.0, (k x'' y'' n.1.1.0 h.2 m.1.1.0, tt)))
    plain_in (PlainTerm.Always u) (PlainTerm.Always l) h n m = tt
    plain_in (PlainTerm.Check x t) (PlainTerm.Check y u) h n m = (k x y n.0 h.1 m.0, tt)
    plain_in _ _ h n m = absurd h

  mutual
    straight_scoped : (S : Link) (b c : BlockTerm) (scope wider : List Var) → Renamed S b c → Straight b → Avoids z b → CarriesBut S scope wider → Scoped scope b → Distinct (bound_in c) → Away (bound_in c) wider → Scoped wider c
    straight_scoped S (Gives xs) (Gives ys) scope wider h st a k s d w = linked_in S scope wider k xs ys h a s
    straight_scoped S (Bind xs t r b) (Bind ys u q c) scope wider h st a k s d w =
        let inner = away_right ys (bound_in_right q ++ bound_in c) wider w in
        let dr = distinct_right ys (bound_in_right q ++ bound_in c) d in (
          right_scoped S r q scope wider h.1 st.0 a.0 k s.0 (distinct_left (bound_in_right q) (bound_in c) dr) (away_left (bound_in_right q) (bound_in c) wider inner),
          none_by ys wider (away_left ys (bound_in_right q ++ bound_in c) wider w),
          straight_scoped (under_all S xs ys) b c (xs ++ scope) (ys ++ wider) h.2 st.1 a.1 (but_all S scope wider xs ys k) s.2 (distinct_right (bound_in_right q) (bound_in c) dr)
              (away_right (bound_in_right q) (bound_in c) (ys ++ wider) (away_below ys (bound_in_right q ++ bound_in c) wider d w)),
        )
    straight_scoped S (Gives xs) (Bind ys t q c) scope wider h st a k s d w = absurd h
    straight_scoped S (Bind xs t r b) (Gives ys) scope wider h st a k s d w = absurd h

    right_scoped : (S : Link) (r q : RightTerm) (scope wider : List Var) → RenamedRight S r q → StraightRight r → AvoidsRight z r → CarriesBut S scope wider → ScopedRight scope r → Distinct (bound_in_right q) → Away (bound_in_right q) wider → ScopedRight wider q
    right_scoped S (Plain p) (Plain q) scope wider h st a k s d w = plain_in S scope wider k p q h a s
    right_scoped S (RightTerm.If x u b) (RightTerm.If y v e) scope wider h st a k s d w = (
      k x y a.0 h.0 s.0,
      straight_scoped S u v scope wider h.1 st.0 a.1 k s.1 (distinct_left (bound_in v) (bound_in e) d) (away_left (bound_in v) (bound_in e) wider w),
      straight_scoped S b e scope wider h.2 st.1 a.2 k s.2 (distinct_right (bound_in v) (bound_in e) d) (away_right (bound_in v) (bound_in e) wider w),
    )
    right_scoped S (RightTerm.Loop first start params test body u) q scope wider h st a k s d w = absurd st
    right_scoped S (RightTerm.Call g xs) q scope wider h st a k s d w = absurd st
    right_scoped S (RightTerm.With o gens) q scope wider h st a k s d w = absurd st
    right_scoped S (RightTerm.Parted f b c o parts) q scope wider h st a k s d w = absurd st
    right_scoped S _ _ scope wider h st a k s d w = absurd h

  -- Bindings in front of X are copied in front of a copy of Y: `full` has what is in scope, but for the variable.
  pub lets_scoped :
      (ls : List LetTerm) (X Y body : BlockTerm) (S : Link) (scope full wider : List Var) → Scoped scope (chain ls X) → Renamed S (chain ls Y) body → StraightLets ls → AvoidsLets z ls
      → ((y : Var) → eqb z.0 y.0 ≡ false → is_in y scope ≡ true → is_in y full ≡ true) → Carries S full wider → Distinct (bound_in body) → Away (bound_in body) wider
      → ((T : Link) (sc fu wi : List Var) (rest : BlockTerm) → Scoped sc X → Renamed T Y rest → ((y : Var) → eqb z.0 y.0 ≡ false → is_in y sc ≡ true → is_in y fu ≡ true) → Inside scope sc → Inside full fu
      → Carries T fu wi → Distinct (bound_in rest) → Away (bound_in rest) wi → Scoped wi rest)
      → Scoped wider body
  lets_scoped [] X Y body S scope full wider s h st a f k d w go = go S scope full wider body s h f (λ y m. m) (λ y m. m) k d w
  lets_scoped (l ∷ ls) X Y (Gives ys) S scope full wider s h st a f k d w go = absurd h
  lets_scoped (l ∷ ls) X Y (Bind ys u q c) S scope full wider s h st a f k d w go =
      let xs = l.targets in
      let inner = away_right ys (bound_in_right q ++ bound_in c) wider w in
      let dr = distinct_right ys (bound_in_right q ++ bound_in c) d in (
        right_scoped S l.right q scope wider h.1 st.0 a.0 (λ x y n p m. k x y p (f x n m)) s.0 (distinct_left (bound_in_right q) (bound_in c) dr) (away_left (bound_in_right q) (bound_in c) wider inner),
        none_by ys wider (away_left ys (bound_in_right q ++ bound_in c) wider w),
        lets_scoped ls X Y c (under_all S xs ys) (xs ++ scope) (xs ++ full) (ys ++ wider) s.2 h.2 st.1 a.1 (λ y n m. more y n (in_either y xs scope m)) (carries_all S full wider xs ys k)
            (distinct_right (bound_in_right q) (bound_in c) dr) (away_right (bound_in_right q) (bound_in c) (ys ++ wider) (away_below ys (bound_in_right q ++ bound_in c) wider d w))
            (λ T sc fu wi rest sx hy g sub subf kt e v. go T sc fu wi rest sx hy g (λ y m. sub y (in_right y xs scope m)) (λ y m. subf y (in_right y xs full m)) kt e v),
      )
    where
      more : (y : Var) → eqb z.0 y.0 ≡ false → (is_in y l.targets ≡ true) ⊎ (is_in y scope ≡ true) → is_in y (l.targets ++ full) ≡ true
      more y n (inl p) = in_left y l.targets full p
      more y n (inr p) = in_right y l.targets full (f y n p)

-- ---- parts

abbrev pub Stands : PartsTerm → PartHead → BlockTerm → Type 0
Stands NoParts g c = ⊥
Stands (Part h b rest) g c = ((h ≡ g) × (b ≡ c)) ⊎ Stands rest g c

pub part_scoped : (scope : List Var) (ps : PartsTerm) (g : PartHead) (c : BlockTerm) → Stands ps g c → ScopedParts scope ps → Scoped (g.index ∷ scope) c
part_scoped scope NoParts g c n s = absurd n
part_scoped scope (Part h b rest) g c (inl n) s = subst (λ (j : PartHead). Scoped (j.index ∷ scope) c) n.0 (subst (λ (d : BlockTerm). Scoped (h.index ∷ scope) d) n.1 s.1)
part_scoped scope (Part h b rest) g c (inr n) s = part_scoped scope rest g c n s.2

same_carries : (scope wider : List Var) → Inside scope wider → Carries itself scope wider
same_carries scope wider f x y h m = (λ i. is_in (sym (same_number x y h) i) wider) ∙ f x m

not_itself : (z y : Var) (scope : List Var) → is_in z scope ≡ false → is_in y scope ≡ true → eqb z.0 y.0 ≡ false
not_itself z y scope n m = go (eqb z.0 y.0) refl
  where
    go : (b : Bool) → eqb z.0 y.0 ≡ b → eqb z.0 y.0 ≡ false
    go true e = clash (is_in y scope) m ((λ i. is_in (sym (same_number z y e) i) scope) ∙ n)
    go false e = e

-- The copy of the outer bindings and of an inner part's body, below the two old indices: the inner loop's variable stays away.
pub merged_scoped :
    (z : Var) (s : Site) (before after : List LetTerm) (f : List Rattle.sac_base.specs.declared.grid.Grid1.Grid1) (t : Rattle.sac_base.specs.declared.base.Base.Base) (cell : List ℕ) (inner : PartsTerm) (i j : Var) (g : PartHead) (c body : BlockTerm) (l : Var) (scope w : List Var)
    → Scoped (i ∷ scope) (chain before (Bind (z ∷ []) s (Parted f t cell Rattle.core_ir.specs.declared.tree.PartedOp.TheVariants.Genarray inner) (chain after (Gives (z ∷ [])))))
    → StraightLets before → StraightLets after → AvoidsLets z before → AvoidsLets z after → Stands inner g c → Renamed (under (under itself i j) g.index l) (chain before (chain after c)) body
    → Inside scope w → Distinct (bound_in body) → Away (bound_in body) (l ∷ (j ∷ w)) → Scoped (l ∷ (j ∷ w)) body
merged_scoped z s before after f t cell inner i j g c body l scope w sc sb sa ab aa st h sub d v =
    let S = under (under itself i j) g.index l in
    let full = g.index ∷ (i ∷ scope) in
    let k : Carries S full (l ∷ (j ∷ w)) = carries_one (under itself i j) (i ∷ scope) (j ∷ w) g.index l (carries_one itself scope w i j (same_carries scope w sub)) in
    lets_scoped z before (Bind (z ∷ []) s (Parted f t cell Rattle.core_ir.specs.declared.tree.PartedOp.TheVariants.Genarray inner) (chain after (Gives (z ∷ [])))) (chain after c) body S (i ∷ scope) full (l ∷ (j ∷ w)) sc h sb ab
    (λ y n m. behind_first y g.index (i ∷ scope) m) k d v
    (λ T sc1 fu wi rest sx hy into sub1 subf kt e u.
    let own = part_scoped sc1 inner g c st sx.0.1 in
    let there : Inside sc1 fu = λ y m. into y (not_itself z y sc1 sx.1.0 m) m in
    let last : Inside (g.index ∷ sc1) fu = λ y m. one_more y g.index sc1 fu (subf g.index (names.itself g.index (i ∷ scope))) there m in
    lets_scoped z after (Gives (z ∷ [])) c rest T (z ∷ sc1) fu wi sx.2 hy sa aa (λ y n m. there y (past y n sc1 m)) kt e u
    (λ T2 sc2 fu2 wi2 end s2 h2 into2 sub2 subf2 k2 e2 u2. copy_scoped T2 c end (g.index ∷ sc1) wi2 h2 (λ x y p m. k2 x y p (subf2 x (last x m))) own e2 u2))
  where
    past : (y : Var) → eqb z.0 y.0 ≡ false → (sc1 : List Var) → is_in y (z ∷ sc1) ≡ true → is_in y sc1 ≡ true
    past y n sc1 m = sym (λ i. n i || is_in y sc1) ∙ m

    one_more : (y x : Var) (xs fu : List Var) → is_in x fu ≡ true → Inside xs fu → is_in y (x ∷ xs) ≡ true → is_in y fu ≡ true
    one_more y x xs fu at h m = go (eqb x.0 y.0) refl m
      where
        go : (b : Bool) → eqb x.0 y.0 ≡ b → (b || is_in y xs) ≡ true → is_in y fu ≡ true
        go true e n = (λ i. is_in (sym (same_number x y e) i) fu) ∙ at
        go false e n = h y n
