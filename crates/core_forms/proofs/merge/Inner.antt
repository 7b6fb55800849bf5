-- The parts of an inner loop do not use its variable, and the outer bindings in front of one of their bodies are scoped.
use Rattle.std.proofs.Common.{◌≡◌, Bool, true, false, ◌||◌, eqb, List, [], ◌∷◌, ◌++◌, refl, sym, ap, subst, ◌∙◌, ◌⊎◌, inl, inr}
use Rattle.std.proofs.lemmas.Bool.{eq-eqb}
use Rattle.std.specs.Prelude.{ℕ, Option}
use Rattle.sac_base.specs.declared.base.Base.{Base}
use Rattle.sac_base.specs.declared.grid.Grid1.{Grid1}
use Rattle.sac_base.specs.declared.site.Site.{Site}
use Rattle.core_ir.specs.declared.tree.Var.{Var}
use Rattle.core_ir.specs.declared.tree.PartedOp.TheVariants as parted
use Rattle.core_ir.specs.Binders.{is_in, bound_in, bound_in_right, bound_in_gens, bound_in_parts}
use Rattle.core_ir.specs.Scopes.{AllIn, Scoped, ScopedRight, ScopedGens, ScopedParts, plain_uses, op_uses, parted_uses, head_uses}
use Rattle.core_ir.specs.Terms.{BlockTerm, RightTerm, GensTerm, PartsTerm, LetTerm, PartHead, Gives, Bind, Plain, NoGens, Gen, NoParts, Part, Parted, chain}
use Rattle.core_ir.specs.Uses.{AvoidsAll, Avoids, AvoidsRight, AvoidsGens, AvoidsParts}
use Rattle.core_ir.specs.WellFormed.{Distinct}
use Rattle.core_ir.proofs.Variables.{in_neither, same_number}
use Rattle.core_forms.proofs.edits.Wider.{block_wider, bound_new}
use Rattle.core_facts.specs.Facts.{Facts}
use Rattle.core_loops.specs.Indices.{IndexFacts}
use Rattle.core_loops.specs.Pairs.{AvoidsLets, IsNest}
use Rattle.core_forms.proofs.inlined_bodies.Names.{behind_first, clash, distinct_apart, distinct_right, in_either, in_left, in_none, none_at, none_by, not_in}
use Rattle.core_forms.proofs.inlined_bodies.Names as names
use Rattle.core_forms.proofs.norm.Scopes.{Away, away_left, away_right, in_right}
use Rattle.core_forms.proofs.norm.Copies.{Inside}
use Rattle.core_forms.specs.merge.Built.{AllParts}
use Rattle.core_forms.proofs.merge.Straight.{Straight, StraightRight, StraightLets, around_straight, chain_append}
use Rattle.core_forms.proofs.merge.Places.{avoids_back, avoids_front, nested}
use Rattle.core_forms.proofs.merge.Scopes.{Stands, part_scoped}

other_than : (x y : Var) (xs : List Var) → is_in x xs ≡ false → is_in y xs ≡ true → eqb x.0 y.0 ≡ false
other_than x y xs n m = go (eqb x.0 y.0) refl
  where
    go : (b : Bool) → eqb x.0 y.0 ≡ b → eqb x.0 y.0 ≡ false
    go true e = clash (is_in y xs) m ((λ i. is_in (sym (same_number x y e) i) xs) ∙ n)
    go false e = e

-- ---- a variable that is neither in scope nor bound is not used

module _ (z : Var) where
  -- the variable is not in the list
  abbrev Out : List Var → Type 0
  Out xs = is_in z xs ≡ false

  unused_all : (scope : List Var) → Out scope → (xs : List Var) → AllIn xs scope → AvoidsAll z xs
  unused_all scope o [] h = tt
  unused_all scope o (x ∷ xs) h = (other_than z x scope o h.0, unused_all scope o xs h.1)

  out_left : (xs ys : List Var) → Out (xs ++ ys) → Out xs
  out_left xs ys o = (in_neither z xs ys o).0

  out_right : (xs ys : List Var) → Out (xs ++ ys) → Out ys
  out_right xs ys o = (in_neither z xs ys o).1

  mutual
    unused : (b : BlockTerm) (scope : List Var) → Out scope → Out (bound_in b) → Scoped scope b → Avoids z b
    unused (Gives xs) scope o p s = unused_all scope o xs s
    unused (Bind xs t r b) scope o p s =
        let rest = out_right xs (bound_in_right r ++ bound_in b) p in
        (unused_right r scope o (out_left (bound_in_right r) (bound_in b) rest) s.0, unused b (xs ++ scope) (in_none z xs scope (out_left xs (bound_in_right r ++ bound_in b) p) o) (out_right (bound_in_right r) (bound_in b) rest) s.2)

    unused_right : (r : RightTerm) (scope : List Var) → Out scope → Out (bound_in_right r) → ScopedRight scope r → AvoidsRight z r
    unused_right (Plain p) scope o q s = unused_all scope o (plain_uses p) s
    unused_right (RightTerm.If x a b) scope o q s =
        (other_than z x scope o s.0, unused a scope o (out_left (bound_in a) (bound_in b) q) s.1, unused b scope o (out_right (bound_in a) (bound_in b) q) s.2)
    unused_right (RightTerm.Loop fb start params test body t) scope o q s =
        let rest = out_right params (bound_in test ++ bound_in body) q in
        let below = in_none z params scope (out_left params (bound_in test ++ bound_in body) q) o in
        (unused_all scope o start s.0, unused test (params ++ scope) below (out_left (bound_in test) (bound_in body) rest) s.2, unused body (params ++ scope) below (out_right (bound_in test) (bound_in body) rest) s.3)
    unused_right (RightTerm.Call g xs) scope o q s = unused_all scope o xs s
    unused_right (RightTerm.With op gens) scope o q s = (unused_all scope o (op_uses op) s.0, unused_gens gens scope o q s.1)
    unused_right (RightTerm.Parted frame base cell op parts) scope o q s = (unused_all scope o (parted_uses op) s.0, unused_parts parts scope o q s.1)

    unused_gens : (g : GensTerm) (scope : List Var) → Out scope → Out (bound_in_gens g) → ScopedGens scope g → AvoidsGens z g
    unused_gens NoGens scope o q s = tt
    unused_gens (Gen h b rest) scope o q s =
        let xs = h.index ∷ h.names in
        let more = out_right xs (bound_in b ++ bound_in_gens rest) q in (
          unused_all scope o (head_uses h) s.0,
          unused b (xs ++ scope) (in_none z xs scope (out_left xs (bound_in b ++ bound_in_gens rest) q) o) (out_left (bound_in b) (bound_in_gens rest) more) s.2,
          unused_gens rest scope o (out_right (bound_in b) (bound_in_gens rest) more) s.3,
        )

    pub unused_parts : (p : PartsTerm) (scope : List Var) → Out scope → Out (bound_in_parts p) → ScopedParts scope p → AvoidsParts z p
    unused_parts NoParts scope o q s = tt
    unused_parts (Part h b rest) scope o q s =
        let xs = h.index ∷ [] in
        let more = out_right xs (bound_in b ++ bound_in_parts rest) q in (
          unused b (xs ++ scope) (in_none z xs scope (out_left xs (bound_in b ++ bound_in_parts rest) q) o) (out_left (bound_in b) (bound_in_parts rest) more) s.1,
          unused_parts rest scope o (out_right (bound_in b) (bound_in_parts rest) more) s.2,
        )

  -- ---- straight bindings with another scope, in which the variable may be wanting

  abbrev Into : List Var → List Var → Type 0
  Into scope wider = (y : Var) → eqb z.0 y.0 ≡ false → is_in y scope ≡ true → is_in y wider ≡ true

  into_below : (xs scope wider : List Var) → Into scope wider → Into (xs ++ scope) (xs ++ wider)
  into_below xs scope wider k y n h = go (in_either y xs scope h)
    where
      go : (is_in y xs ≡ true) ⊎ (is_in y scope ≡ true) → is_in y (xs ++ wider) ≡ true
      go (inl p) = in_left y xs wider p
      go (inr p) = in_right y xs wider (k y n p)

  -- what a block binds below binders is away from these
  away_more : (xs scope wider : List Var) (b : BlockTerm) → Scoped (xs ++ scope) b → Away (bound_in b) wider → Away (bound_in b) (xs ++ wider)
  away_more xs scope wider b s w y h = in_none y xs wider (in_neither y xs scope (none_at y (bound_in b) (xs ++ scope) (bound_new b (xs ++ scope) s) h)).0 (w y h)

  all_into : (scope wider : List Var) → Into scope wider → (xs : List Var) → AvoidsAll z xs → AllIn xs scope → AllIn xs wider
  all_into scope wider k [] a h = tt
  all_into scope wider k (x ∷ xs) a h = (k x a.0 h.0, all_into scope wider k xs a.1 h.1)

  mutual
    into_block : (b : BlockTerm) (scope wider : List Var) → Straight b → Avoids z b → Into scope wider → Away (bound_in b) wider → Scoped scope b → Scoped wider b
    into_block (Gives xs) scope wider st a k w s = all_into scope wider k xs a s
    into_block (Bind xs t r b) scope wider st a k w s =
        let rest = away_right xs (bound_in_right r ++ bound_in b) wider w in (
          into_right r scope wider st.0 a.0 k (away_left (bound_in_right r) (bound_in b) wider rest) s.0,
          none_by xs wider (away_left xs (bound_in_right r ++ bound_in b) wider w),
          into_block b (xs ++ scope) (xs ++ wider) st.1 a.1 (into_below xs scope wider k) (away_more xs scope wider b s.2 (away_right (bound_in_right r) (bound_in b) wider rest)) s.2,
        )

    into_right : (r : RightTerm) (scope wider : List Var) → StraightRight r → AvoidsRight z r → Into scope wider → Away (bound_in_right r) wider → ScopedRight scope r → ScopedRight wider r
    into_right (Plain p) scope wider st a k w s = all_into scope wider k (plain_uses p) a s
    into_right (RightTerm.If x u v) scope wider st a k w s =
        (k x a.0 s.0, into_block u scope wider st.0 a.1 k (away_left (bound_in u) (bound_in v) wider w) s.1, into_block v scope wider st.1 a.2 k (away_right (bound_in u) (bound_in v) wider w) s.2)
    into_right (RightTerm.Loop first start params test body u) scope wider st a k w s = absurd st
    into_right (RightTerm.Call g xs) scope wider st a k w s = absurd st
    into_right (RightTerm.With o gens) scope wider st a k w s = absurd st
    into_right (RightTerm.Parted f b c o parts) scope wider st a k w s = absurd st

  abbrev lets_bound : List LetTerm → List Var
  lets_bound ls = bound_in (chain ls (Gives []))

  in_chain : (ls : List LetTerm) (X : BlockTerm) → Inside (lets_bound ls) (bound_in (chain ls X))
  in_chain [] X y h = clash false h refl
  in_chain (l ∷ ls) X y h = go (in_either y l.targets (bound_in_right l.right ++ lets_bound ls) h) (λ m. in_chain ls X y m)
    where
      old : List Var
      old = bound_in_right l.right ++ bound_in (chain ls X)

      go : (is_in y l.targets ≡ true) ⊎ (is_in y (bound_in_right l.right ++ lets_bound ls) ≡ true) → (is_in y (lets_bound ls) ≡ true → is_in y (bound_in (chain ls X)) ≡ true) → is_in y (l.targets ++ (bound_in_right l.right ++ bound_in (chain ls X))) ≡ true
      go (inl p) f = in_left y l.targets (bound_in_right l.right ++ bound_in (chain ls X)) p
      go (inr p) f = in_right y l.targets (bound_in_right l.right ++ bound_in (chain ls X)) (inner (in_either y (bound_in_right l.right) (lets_bound ls) p))
        where
          inner : (is_in y (bound_in_right l.right) ≡ true) ⊎ (is_in y (lets_bound ls) ≡ true) → is_in y (bound_in_right l.right ++ bound_in (chain ls X)) ≡ true
          inner (inl q) = in_left y (bound_in_right l.right) (bound_in (chain ls X)) q
          inner (inr q) = in_right y (bound_in_right l.right) (bound_in (chain ls X)) (f q)

  -- what bindings bind is not bound behind them
  front_apart : (ls : List LetTerm) (X : BlockTerm) → Distinct (bound_in (chain ls X)) → Away (lets_bound ls) (bound_in X)
  front_apart [] X d y h = clash false h refl
  front_apart (l ∷ ls) X d y h = go (in_either y l.targets (bound_in_right l.right ++ lets_bound ls) h) (λ m. front_apart ls X (distinct_right (bound_in_right l.right) (bound_in (chain ls X)) (distinct_right l.targets (bound_in_right l.right ++ bound_in (chain ls X)) d)) y m)
    where
      old : List Var
      old = bound_in_right l.right ++ bound_in (chain ls X)

      behind : (v : Var) → is_in v (bound_in X) ≡ true → (ms : List LetTerm) → is_in v (bound_in (chain ms X)) ≡ true
      behind v m [] = m
      behind v m (k ∷ ms) = in_right v k.targets (bound_in_right k.right ++ bound_in (chain ms X)) (in_right v (bound_in_right k.right) (bound_in (chain ms X)) (behind v m ms))

      go : (is_in y l.targets ≡ true) ⊎ (is_in y (bound_in_right l.right ++ lets_bound ls) ≡ true) → (is_in y (lets_bound ls) ≡ true → is_in y (bound_in X) ≡ false) → is_in y (bound_in X) ≡ false
      go (inl p) f = not_in y (bound_in X) (λ m. clash (is_in y old) (in_right y (bound_in_right l.right) (bound_in (chain ls X)) (behind y m ls)) (distinct_apart l.targets old d y p))
      go (inr p) f = inner (in_either y (bound_in_right l.right) (lets_bound ls) p)
        where
          inner : (is_in y (bound_in_right l.right) ≡ true) ⊎ (is_in y (lets_bound ls) ≡ true) → is_in y (bound_in X) ≡ false
          inner (inl q) =
              not_in y (bound_in X) (λ m. clash (is_in y (bound_in (chain ls X))) (behind y m ls) (distinct_apart (bound_in_right l.right) (bound_in (chain ls X)) (distinct_right l.targets old d) y q))
          inner (inr q) = f q

  back_distinct : (ls : List LetTerm) (X : BlockTerm) → Distinct (bound_in (chain ls X)) → Distinct (bound_in X)
  back_distinct [] X d = d
  back_distinct (l ∷ ls) X d = back_distinct ls X (distinct_right (bound_in_right l.right) (bound_in (chain ls X)) (distinct_right l.targets (bound_in_right l.right ++ bound_in (chain ls X)) d))

  -- bindings in front of X stand in front of Y in another scope
  lets_into :
      (ls : List LetTerm) (X Y : BlockTerm) (scope wider : List Var) → Scoped scope (chain ls X) → StraightLets ls → AvoidsLets z ls → Into scope wider → Away (lets_bound ls) wider
      → ((sc wi : List Var) → Scoped sc X → Into sc wi → Inside scope sc → Inside wider wi → ((y : Var) → is_in y sc ≡ true → (is_in y scope ≡ true) ⊎ (is_in y (lets_bound ls) ≡ true))
      → ((y : Var) → is_in y wi ≡ true → (is_in y wider ≡ true) ⊎ (is_in y (lets_bound ls) ≡ true)) → Scoped wi Y)
      → Scoped wider (chain ls Y)
  lets_into [] X Y scope wider s st a k w go = go scope wider s k (λ y m. m) (λ y m. m) (λ y m. inl m) (λ y m. inl m)
  lets_into (l ∷ ls) X Y scope wider s st a k w go =
      let xs = l.targets in
      let rest = away_right xs (bound_in_right l.right ++ lets_bound ls) wider w in
      let behind : Away (lets_bound ls) (xs ++ wider) =
      λ y h. in_none y xs wider (in_neither y xs scope (none_at y (bound_in (chain ls X)) (xs ++ scope) (bound_new (chain ls X) (xs ++ scope) s.2) (in_chain ls X y h))).0
      (away_right (bound_in_right l.right) (lets_bound ls) wider rest y h) in (
        into_right l.right scope wider st.0 a.0 k (away_left (bound_in_right l.right) (lets_bound ls) wider rest) s.0,
        none_by xs wider (away_left xs (bound_in_right l.right ++ lets_bound ls) wider w),
        lets_into ls X Y (xs ++ scope) (xs ++ wider) s.2 st.1 a.1 (into_below xs scope wider k) behind
            (λ sc wi sx into sub more from to. go sc wi sx into (λ y m. sub y (in_right y xs scope m)) (λ y m. more y (in_right y xs wider m)) (λ y m. other y scope (from y m)) (λ y m. other y wider (to y m))),
      )
    where
      other : (y : Var) (sc : List Var) → (is_in y (l.targets ++ sc) ≡ true) ⊎ (is_in y (lets_bound ls) ≡ true) → (is_in y sc ≡ true) ⊎ (is_in y (lets_bound (l ∷ ls)) ≡ true)
      other y sc (inr p) = inr (in_right y l.targets (bound_in_right l.right ++ lets_bound ls) (in_right y (bound_in_right l.right) (lets_bound ls) p))
      other y sc (inl p) = turn (in_either y l.targets sc p)
        where
          turn : (is_in y l.targets ≡ true) ⊎ (is_in y sc ≡ true) → (is_in y sc ≡ true) ⊎ (is_in y (lets_bound (l ∷ ls)) ≡ true)
          turn (inl q) = inr (in_left y l.targets (bound_in_right l.right ++ lets_bound ls) q)
          turn (inr q) = inl q

-- ---- parts of the inner loop

index_in : (ps : PartsTerm) (g : PartHead) (c : BlockTerm) → Stands ps g c → is_in g.index (bound_in_parts ps) ≡ true
index_in NoParts g c n = absurd n
index_in (Part h b rest) g c (inl n) = subst (λ (j : PartHead). is_in j.index (h.index ∷ (bound_in b ++ bound_in_parts rest)) ≡ true) n.0 (names.itself h.index (bound_in b ++ bound_in_parts rest))
index_in (Part h b rest) g c (inr n) = behind_first g.index h.index (bound_in b ++ bound_in_parts rest) (in_right g.index (bound_in b) (bound_in_parts rest) (index_in rest g c n))

body_in : (ps : PartsTerm) (g : PartHead) (c : BlockTerm) → Stands ps g c → Inside (bound_in c) (bound_in_parts ps)
body_in NoParts g c n y m = absurd n
body_in (Part h b rest) g c (inl n) y m =
    behind_first y h.index (bound_in b ++ bound_in_parts rest) (in_left y (bound_in b) (bound_in_parts rest) (subst (λ (d : BlockTerm). is_in y (bound_in d) ≡ true) (sym n.1) m))
body_in (Part h b rest) g c (inr n) y m = behind_first y h.index (bound_in b ++ bound_in_parts rest) (in_right y (bound_in b) (bound_in_parts rest) (body_in rest g c n y m))

turned : (x y : Var) → eqb x.0 y.0 ≡ false → eqb y.0 x.0 ≡ false
turned x y n = go (eqb y.0 x.0) refl
  where
    go : (b : Bool) → eqb y.0 x.0 ≡ b → eqb y.0 x.0 ≡ false
    go true e = clash (eqb x.0 y.0) (eq-eqb x.0 y.0 (ap (λ (z : Var). z.0) (sym (same_number y x e)))) n
    go false e = e

past : (z y : Var) (xs : List Var) → eqb z.0 y.0 ≡ false → is_in y (z ∷ xs) ≡ true → is_in y xs ≡ true
past z y xs n m = sym (λ i. n i || is_in y xs) ∙ m

module _ (z : Var) (s : Site) (before after : List LetTerm) (f : List Grid1) (t : Base) (whole : PartsTerm) (i : Var) (outside : List Var)
    (sc : Scoped (i ∷ outside) (nested z s before after f t whole)) (once : Distinct (bound_in (nested z s before after f t whole))) where
  abbrev X : BlockTerm
  X = Bind (z ∷ []) s (Parted f t [] parted.Genarray whole) (chain after (Gives (z ∷ [])))

  abbrev E : List Var
  E = i ∷ outside

  abbrev behind_inner : List Var
  behind_inner = bound_in (chain after (Gives (z ∷ [])))

  here : Distinct (bound_in X)
  here = back_distinct z before X once

  not_in_scope : (y : Var) → is_in y (bound_in (chain before X)) ≡ true → is_in y E ≡ false
  not_in_scope y m = none_at y (bound_in (chain before X)) E (bound_new (chain before X) E sc) m

  in_X : (y : Var) → is_in y (bound_in_parts whole) ≡ true → is_in y (bound_in X) ≡ true
  in_X y m = behind_first y z (bound_in_parts whole ++ behind_inner) (in_left y (bound_in_parts whole) behind_inner m)

  in_nested : (y : Var) → is_in y (bound_in X) ≡ true → (ls : List LetTerm) → is_in y (bound_in (chain ls X)) ≡ true
  in_nested y m [] = m
  in_nested y m (l ∷ ls) = in_right y l.targets (bound_in_right l.right ++ bound_in (chain ls X)) (in_right y (bound_in_right l.right) (bound_in (chain ls X)) (in_nested y m ls))

  apart_after : (y : Var) → is_in y (bound_in_parts whole) ≡ true → is_in y behind_inner ≡ false
  apart_after y m = distinct_apart (bound_in_parts whole) behind_inner here.1 y m

  module _ (sb : StraightLets before) (sa : StraightLets after) (av : AvoidsLets z (before ++ after)) (g : PartHead) (c : BlockTerm) (st : Stands whole g c) where
    abbrev w : List Var
    w = g.index ∷ E

    g_in : is_in g.index (bound_in_parts whole) ≡ true
    g_in = index_in whole g c st

    outer : is_in g.index E ≡ false
    outer = not_in_scope g.index (in_nested g.index (in_X g.index g_in) before)

    front_away : Away (lets_bound z before) w
    front_away y h =
        let own : eqb g.index.0 y.0 ≡ false = turned y g.index (other_than y g.index (bound_in X) (front_apart z before X once y h) (in_X g.index g_in)) in
        let rest = not_in_scope y (in_chain z before X y h) in
        λ k. own k || rest k

    -- what is in the new scope is the index, or was in scope, or is bound in front
    out_of : (y : Var) (wi : List Var) → ((is_in y w ≡ true) ⊎ (is_in y (lets_bound z before) ≡ true)) → is_in y (bound_in X) ≡ true → is_in y (g.index ∷ []) ≡ false → ⊥
    out_of y wi (inr p) m n = clash (is_in y (bound_in X)) m (front_apart z before X once y p)
    out_of y wi (inl p) m n = go (in_either y (g.index ∷ []) E p)
      where
        go : (is_in y (g.index ∷ []) ≡ true) ⊎ (is_in y E ≡ true) → ⊥
        go (inl q) = clash (is_in y (g.index ∷ [])) q n
        go (inr q) = clash (is_in y E) q (not_in_scope y (in_nested y m before))

    not_index : (y : Var) → eqb g.index.0 y.0 ≡ false → is_in y (g.index ∷ []) ≡ false
    not_index y n = λ k. n k || false

    pub one_part : (is_in g.index E ≡ false) × Scoped w (chain (before ++ after) c)
    one_part = (outer, subst (Scoped w) (sym (chain_append before after c)) copied)
      where
        copied : Scoped w (chain before (chain after c))
        copied =
            lets_into z before X (chain after c) E w sc sb (avoids_front z before after av) (λ y n m. behind_first y g.index E m) front_away
            (λ sc1 wi sx into sub more from to.
            let own = part_scoped sc1 whole g c st sx.0.1 in
            let new = bound_new c (g.index ∷ sc1) own in
            let after_away : Away (lets_bound z after) wi =
            λ y h.
            let bound = in_chain z after (Gives (z ∷ [])) y h in
            let other : eqb g.index.0 y.0 ≡ false = other_than g.index y behind_inner (apart_after g.index g_in) bound in
            not_in y wi (λ m. out_of y wi (to y m) (behind_first y z (bound_in_parts whole ++ behind_inner) (in_right y (bound_in_parts whole) behind_inner bound)) (not_index y other)) in
            lets_into z after (Gives (z ∷ [])) c (z ∷ sc1) wi sx.2 sa (avoids_back z before after av) (λ y n m. into y n (past z y sc1 n m)) after_away
            (λ sc2 w2 s2 into2 sub2 more2 from2 to2.
            let inner : (y : Var) → is_in y (bound_in c) ≡ true → is_in y w2 ≡ false =
            λ y h.
            let there = body_in whole g c st y h in
            let free = none_at y (bound_in c) (g.index ∷ sc1) new h in
            not_in y w2 (λ m. either (to2 y m) (λ p. out_of y wi (to y p) (in_X y there) (in_neither y (g.index ∷ []) sc1 free).0) (λ p. clash (is_in y behind_inner) (in_chain z after (Gives (z ∷ [])) y p) (apart_after y there))) in
            block_wider c (g.index ∷ sc1) w2
            (λ y m. either (in_either y (g.index ∷ []) sc1 m) (λ p. more2 y (more y (in_left y (g.index ∷ []) E p))) (λ p. more2 y (into y (other_than z y sc1 sx.1.0 p) p)))
            (none_by (bound_in c) w2 inner) own))
          where
            either : {A B C : Type 0} → A ⊎ B → (A → C) → (B → C) → C
            either (inl a) p q = p a
            either (inr b) p q = q b

  pub inner_unused : AvoidsParts z whole
  inner_unused = go before E sc once
    where
      go : (ls : List LetTerm) (scope : List Var) → Scoped scope (chain ls X) → Distinct (bound_in (chain ls X)) → AvoidsParts z whole
      go [] scope q d = unused_parts z whole scope q.1.0 (in_neither z (bound_in_parts whole) behind_inner d.0).0 q.0.1
      go (l ∷ ls) scope q d = go ls (l.targets ++ scope) q.2 (distinct_right (bound_in_right l.right) (bound_in (chain ls X)) (distinct_right l.targets (bound_in_right l.right ++ bound_in (chain ls X)) d))

  pub all_parts :
      StraightLets before → StraightLets after → AvoidsLets z (before ++ after) → (ps : PartsTerm) → ((g : PartHead) (c : BlockTerm) → Stands ps g c → Stands whole g c)
      → AllParts (λ g c. (is_in g.index (i ∷ outside) ≡ false) × Scoped (g.index ∷ (i ∷ outside)) (chain (before ++ after) c)) ps
  all_parts sb sa av NoParts emb = tt
  all_parts sb sa av (Part g c rest) emb = (one_part sb sa av g c (emb g c (inl (refl, refl))), all_parts sb sa av rest (λ j d n. emb j d (inr n)))

pub inner_parts :
    (called : ℕ → List (Option (List ℕ))) (k : Facts) (grid : List Grid1) (m : IndexFacts) (frame : List Grid1) (base : Base) (b : BlockTerm) (inner : PartsTerm) →
    (nest : IsNest called k grid m frame base b inner) → (index : Var) (outside : List Var) → Scoped (index ∷ outside) b → Distinct (bound_in b) →
    AvoidsParts nest.z inner ×
    AllParts (λ g c. (is_in g.index (index ∷ outside) ≡ false) × Scoped (g.index ∷ (index ∷ outside)) (chain (nest.before ++ nest.after) c)) inner
inner_parts called k grid m frame base b inner nest index outside s d =
    let st = around_straight called grid nest.before nest.after (nest.z ∷ []) (nest.z ∷ []) nest.site (Parted frame base [] parted.Genarray inner) k m nest.total in
    let sc = subst (Scoped (index ∷ outside)) nest.whole s in
    let once = subst (λ (x : BlockTerm). Distinct (bound_in x)) nest.whole d in (
      inner_unused nest.z nest.site nest.before nest.after frame base inner index outside sc once,
      all_parts nest.z nest.site nest.before nest.after frame base inner index outside sc once st.0 st.1 nest.unused inner (λ g c n. n),
    )
