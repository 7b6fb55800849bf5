-- The new parts of a consumer are scoped.
use Rattle.std.proofs.Common.{◌≡◌, ℕ, ◌<◌, ◌≤◌, Bool, true, false, ◌||◌, eqb, List, [], ◌∷◌, ◌++◌, length, Option, refl, sym, subst, ◌∙◌, ◌⊎◌, inl, inr, arith}
use Rattle.std.proofs.lemmas.Bool.{eqb-true}
use Rattle.sac_base.specs.declared.grid.Grid1.{Grid1}
use Rattle.sac_base.specs.declared.site.Site.{Site}
use Rattle.core_ir.specs.declared.tree.Var.{Var}
use Rattle.core_ir.specs.Binders.{is_in, NoneIn, bound_in, bound_in_right, bound_in_parts}
use Rattle.core_ir.specs.Renaming.{under}
use Rattle.core_ir.specs.Scopes.{AllIn, Scoped, ScopedRight, ScopedGens, ScopedParts, plain_uses, op_uses, parted_uses, head_uses}
use Rattle.core_ir.specs.Terms.{PlainTerm, BlockTerm, RightTerm, GensTerm, PartsTerm, PartHead, Gives, Bind, Plain, NoGens, Gen, NoParts, Part, chain}
use Rattle.core_ir.specs.Uses.{AvoidsAll, Avoids, AvoidsRight, AvoidsGens, AvoidsParts}
use Rattle.core_ir.specs.WellFormed.{Distinct}
use Rattle.core_ir.proofs.Variables.{in_more, same_number}
use Rattle.core_forms.specs.edits.Within.{AreWithin}
use Rattle.core_forms.proofs.edits.Wider.{bound_new, block_wider}
use Rattle.core_facts.specs.Facts.{Facts, note_all, right_facts, in_part}
use Rattle.core_loops.specs.Indices.{IndexFacts, note_others, learn_index, own_index}
use Rattle.core_loops.specs.Pairs.{Producer}
use Rattle.core_loops.specs.Steps.{itself, Folded, FoldedRight, TakenAt, append_parts, PiecesFold, NewParts}
use Rattle.core_forms.proofs.inlined_bodies.Names.{Fresh, clash, none_by, none_at, in_none, in_either, fresh_below, distinct_left, distinct_right, behind_first}
use Rattle.core_forms.proofs.inlined_bodies.Names as names
use Rattle.core_forms.proofs.norm.Places.{all_member}
use Rattle.core_forms.proofs.norm.Scopes.{Away, away_left, away_right, Carries, carries_one, copy_scoped}
use Rattle.core_forms.specs.fold.Copied.{IsCopied, AllCopied, AllCopiedRight, IsOldOrNew}
use Rattle.core_forms.specs.fold.Fresh.{FreshPieces, FreshParts}
use Rattle.core_forms.proofs.fold.Lists.{all_within, within_below, within_behind, away_below}
use Rattle.core_forms.proofs.fold.Chains.{chain_bound, below, within_chain, given_behind, chain_scoped, away_chain}
use Rattle.core_forms.proofs.fold.Producers.{part_scoped}

-- ---- in a wider scope, with bindings taken from the producer

carried : (scope wider : List Var) → AreWithin scope wider → Carries itself scope wider
carried scope wider k x y h m = (λ i. is_in (sym (same_number x y h) i) wider) ∙ k x m

-- a right side as it was
kept_wider : (s : Site) (r : RightTerm) (scope wider : List Var) → AreWithin scope wider → ScopedRight scope r → Away (bound_in_right r) wider → ScopedRight wider r
kept_wider s r scope wider i h w = (block_wider (Bind [] s r (Gives [])) scope wider i (none_by (bound_in_right r ++ []) wider (λ y m. go y (in_either y (bound_in_right r) [] m))) (h, tt, tt)).0
  where
    go : (y : Var) → (is_in y (bound_in_right r) ≡ true) ⊎ (is_in y [] ≡ true) → is_in y wider ≡ false
    go y (inl m) = w y m
    go y (inr m) = clash false m refl

module _ (called : ℕ → List (Option (List ℕ))) (p : Producer) (n : ℕ) (grid : List Grid1) (low high : ℕ) (around : List Var) (scoped : ScopedParts around p.parts) where
  taken_scoped :
      (m : IndexFacts) (xs : List Var) (st : Site) (r : RightTerm) (d c : BlockTerm) (t : TakenAt p grid m xs r d c) → IsCopied p grid low high m xs r d c t → (scope wider : List Var) → AreWithin scope wider → AreWithin around wider →
      ScopedRight scope r → Distinct (bound_in c) → Away (bound_in c) wider →
      ((w : List Var) → AreWithin (xs ++ scope) w → AreWithin around w → Distinct (bound_in d) → Away (bound_in d) w → Scoped w d) → Scoped wider c
  taken_scoped m xs st r d c t a scope wider k o sc dc wc rest =
      let front = chain t.lets (Gives (t.result ∷ [])) in
      let last = Bind (t.target ∷ []) t.last (Plain (PlainTerm.Copy t.result)) d in
      let d1 : Distinct (t.own ∷ bound_in (chain t.lets last)) = subst (λ (z : BlockTerm). Distinct (bound_in z)) t.made dc in
      let w1 : Away (t.own ∷ bound_in (chain t.lets last)) wider = subst (λ (z : BlockTerm). Away (bound_in z) wider) t.made wc in
      let w2 : Away (bound_in (chain t.lets last)) (t.own ∷ wider) = away_below (t.own ∷ []) (bound_in (chain t.lets last)) wider d1 w1 in
      let split = chain_bound t.lets (t.result ∷ []) last in
      let d3 : Distinct (bound_in front ++ bound_in last) = subst Distinct split d1.1 in
      let w3 : Away (bound_in front ++ bound_in last) (t.own ∷ wider) = subst (λ (zs : List Var). Away zs (t.own ∷ wider)) split w2 in
      let uses : AllIn (p.var ∷ t.index ∷ []) scope = subst (ScopedRight scope) t.selects sc in
      let copied : Scoped (t.own ∷ wider) front =
      copy_scoped (under itself t.head.index t.own) t.body front (t.head.index ∷ around) (t.own ∷ wider) t.renamed (carries_one itself around wider t.head.index t.own (carried around wider o))
      (part_scoped p.parts t.head t.body around a.part scoped) (distinct_left (bound_in front) (bound_in last) d3) (away_left (bound_in front) (bound_in last) (t.own ∷ wider) w3) in
      let inner = below t.lets (t.own ∷ wider) in
      let w4 : Away (t.target ∷ bound_in d) inner = away_chain t.lets last (t.own ∷ wider) d1.1 w2 in
      let d4 : Distinct (t.target ∷ bound_in d) = distinct_right (bound_in front) (bound_in last) d3 in
      let up : (zs : List Var) → AreWithin zs wider → AreWithin zs inner = λ zs h. within_chain t.lets zs (t.own ∷ wider) (λ y q. behind_first y t.own wider (h y q)) in
      let behind : Scoped (t.target ∷ inner) d =
      rest (t.target ∷ inner) (subst (λ (zs : List Var). AreWithin (zs ++ scope) (t.target ∷ inner)) (sym t.targets) (within_below (t.target ∷ []) scope inner (up scope k)))
      (λ y q. behind_first y t.target inner (up around o y q)) d4.1 (away_below (t.target ∷ []) (bound_in d) inner d4 w4) in
      let tail : Scoped inner last = (given_behind t.lets (t.result ∷ []) (t.own ∷ wider) copied, (w4 t.target (names.itself t.target (bound_in d)), tt), behind) in
      subst (Scoped wider) (sym t.made) ((k t.index uses.1.0, tt), (w1 t.own (names.itself t.own (bound_in (chain t.lets last))), tt), chain_scoped t.lets (t.result ∷ []) (t.own ∷ wider) last copied tail)

  mutual
    pub folded_scoped :
        (b : BlockTerm) (k : Facts) (m : IndexFacts) (c : BlockTerm) (h : Folded called p n grid b k m c) → AllCopied called p n grid low high b k m c h → (scope wider : List Var) → AreWithin scope wider → AreWithin around wider →
        Scoped scope b → Distinct (bound_in c) → Away (bound_in c) wider → Scoped wider c
    folded_scoped (Gives xs) k m c h a scope wider i o s d w = subst (Scoped wider) (sym h) (all_within xs scope wider i s)
    folded_scoped (Bind xs st r b) k m c (inl h) a scope wider i o s d w =
        let q = h.0 in
        let e = h.1.0 in
        let d1 : Distinct (xs ++ (bound_in_right q ++ bound_in e)) = subst (λ (z : BlockTerm). Distinct (bound_in z)) h.1.1.0 d in
        let w1 : Away (xs ++ (bound_in_right q ++ bound_in e)) wider = subst (λ (z : BlockTerm). Away (bound_in z) wider) h.1.1.0 w in
        let d2 = distinct_right xs (bound_in_right q ++ bound_in e) d1 in
        let w2 = away_right xs (bound_in_right q ++ bound_in e) wider w1 in
        subst (Scoped wider) (sym h.1.1.0) (
          right_scoped st r k m q h.1.1.1 a.0 scope wider i o s.0 (distinct_left (bound_in_right q) (bound_in e) d2) (away_left (bound_in_right q) (bound_in e) wider w2),
          none_by xs wider (away_left xs (bound_in_right q ++ bound_in e) wider w1),
          folded_scoped b (note_all k xs (right_facts called r k)) (learn_index n m xs r k) e h.1.1.2 a.1 (xs ++ scope) (xs ++ wider) (within_below xs scope wider i) (within_behind xs around wider o) s.2
              (distinct_right (bound_in_right q) (bound_in e) d2) (away_right (bound_in_right q) (bound_in e) (xs ++ wider) (away_below xs (bound_in_right q ++ bound_in e) wider d1 w1)),
        )
    folded_scoped (Bind xs st r b) k m c (inr h) a scope wider i o s d w =
        taken_scoped m xs st r h.0 c h.1.0 a.0 scope wider i o s.0 d w
        (λ z j l dd wd. folded_scoped b (note_all k xs (right_facts called r k)) (learn_index n m xs r k) h.0 h.1.1 a.1 (xs ++ scope) z j l s.2 dd wd)

    right_scoped :
        (st : Site) (r : RightTerm) (k : Facts) (m : IndexFacts) (q : RightTerm) (h : FoldedRight called p n grid r k m q) → AllCopiedRight called p n grid low high r k m q h → (scope wider : List Var) → AreWithin scope wider → AreWithin around wider →
        ScopedRight scope r → Distinct (bound_in_right q) → Away (bound_in_right q) wider → ScopedRight wider q
    right_scoped st (Plain t) k m q h a scope wider i o s d w = subst (ScopedRight wider) (sym h) (all_within (plain_uses t) scope wider i s)
    right_scoped st (RightTerm.If x u v) k m q h a scope wider i o s d w =
        let b = h.0 in
        let e = h.1.0 in
        let d1 : Distinct (bound_in b ++ bound_in e) = subst (λ (z : RightTerm). Distinct (bound_in_right z)) h.1.1.0 d in
        let w1 : Away (bound_in b ++ bound_in e) wider = subst (λ (z : RightTerm). Away (bound_in_right z) wider) h.1.1.0 w in
        subst (ScopedRight wider) (sym h.1.1.0) (
          i x s.0,
          folded_scoped u k m b h.1.1.1 a.0 scope wider i o s.1 (distinct_left (bound_in b) (bound_in e) d1) (away_left (bound_in b) (bound_in e) wider w1),
          folded_scoped v k m e h.1.1.2 a.1 scope wider i o s.2 (distinct_right (bound_in b) (bound_in e) d1) (away_right (bound_in b) (bound_in e) wider w1),
        )
    right_scoped st (RightTerm.Loop first start params test body u) k m q h a scope wider i o s d w =
        let b = h.0 in
        let e = h.1.0 in
        let nk = note_all k params [] in
        let nm = note_others m params in
        let d1 : Distinct (params ++ (bound_in b ++ bound_in e)) = subst (λ (z : RightTerm). Distinct (bound_in_right z)) h.1.1.0 d in
        let w1 : Away (params ++ (bound_in b ++ bound_in e)) wider = subst (λ (z : RightTerm). Away (bound_in_right z) wider) h.1.1.0 w in
        let d2 = distinct_right params (bound_in b ++ bound_in e) d1 in
        let w2 = away_below params (bound_in b ++ bound_in e) wider d1 w1 in
        let j = within_below params scope wider i in
        let l = within_behind params around wider o in
        subst (ScopedRight wider) (sym h.1.1.0) (
          all_within start scope wider i s.0,
          none_by params wider (away_left params (bound_in b ++ bound_in e) wider w1),
          folded_scoped test nk nm b h.1.1.1 a.0 (params ++ scope) (params ++ wider) j l s.2 (distinct_left (bound_in b) (bound_in e) d2) (away_left (bound_in b) (bound_in e) (params ++ wider) w2),
          folded_scoped body nk nm e h.1.1.2 a.1 (params ++ scope) (params ++ wider) j l s.3 (distinct_right (bound_in b) (bound_in e) d2) (away_right (bound_in b) (bound_in e) (params ++ wider) w2),
        )
    right_scoped st (RightTerm.Call g xs) k m q h a scope wider i o s d w = subst (ScopedRight wider) (sym h) (all_within xs scope wider i s)
    right_scoped st (RightTerm.With f g) k m q h a scope wider i o s d w =
        subst (ScopedRight wider) (sym h) (kept_wider st (RightTerm.With f g) scope wider i s (subst (λ (z : RightTerm). Away (bound_in_right z) wider) h w))
    right_scoped st (RightTerm.Parted f t cell g ps) k m q h a scope wider i o s d w =
        subst (ScopedRight wider) (sym h) (kept_wider st (RightTerm.Parted f t cell g ps) scope wider i s (subst (λ (z : RightTerm). Away (bound_in_right z) wider) h w))

-- ---- parts

less_other : (low a b : ℕ) → a < low → low ≤ b → eqb a b ≡ true → ⊥
less_other low a b l h e = let q = eqb-true a b e in omega (arith, l, h, q)

one_other : (low : ℕ) (x y : Var) → x.0 < low → low ≤ y.0 → is_in y (x ∷ []) ≡ false
one_other low x y l h = go (eqb x.0 y.0) refl
  where
    go : (t : Bool) → eqb x.0 y.0 ≡ t → (t || false) ≡ false
    go true e = absurd (less_other low x.0 y.0 l h e)
    go false e = refl

module _ (called : ℕ → List (Option (List ℕ))) (later : Facts) (p : Producer) (low high : ℕ) (around scope : List Var) (scoped : ScopedParts around p.parts) (within : AreWithin around scope) (fresh : Fresh scope low) where
  old_or_new : (j : PartHead) (b : BlockTerm) (y : Var) → Scoped (j.index ∷ scope) b → j.index.0 < low → IsOldOrNew (bound_in b) low high y → is_in y (j.index ∷ scope) ≡ false
  old_or_new j b y s l (inl o) = none_at y (bound_in b) (j.index ∷ scope) (bound_new b (j.index ∷ scope) s) o
  old_or_new j b y s l (inr o) = in_none y (j.index ∷ []) scope (one_other low j.index y l o.0) (fresh y o.0)

  pieces_scoped :
      (j : PartHead) (b : BlockTerm) (pieces others : PartsTerm) (f : PiecesFold called later p j b pieces) → FreshPieces called later p low high j b pieces f → Scoped (j.index ∷ scope) b → j.index.0 < low →
      Distinct (bound_in_parts (append_parts pieces others)) → Away (bound_in_parts (append_parts pieces others)) scope →
      (Distinct (bound_in_parts others) → Away (bound_in_parts others) scope → ScopedParts scope others) → ScopedParts scope (append_parts pieces others)
  pieces_scoped j b NoParts others f e s l d w more = more d w
  pieces_scoped j b (Part g x rest) others f e s l d w more =
      let c = f.1.0 in
      let one = e.0 in
      let tail = append_parts rest others in
      let d1 = distinct_right (g.index ∷ []) (bound_in x ++ bound_in_parts tail) d in
      let w1 = away_below (g.index ∷ []) (bound_in x ++ bound_in_parts tail) scope d w in
      let body : Scoped (j.index ∷ scope) c =
      folded_scoped called p (length j.grid) g.grid low high around scoped b (in_part later j) (own_index (length j.grid) j.index) c f.1.1.0 one.copied (j.index ∷ scope) (j.index ∷ scope) (λ y h. h)
      (λ y h. behind_first y j.index scope (within y h)) s one.once (λ y h. old_or_new j b y s l (all_member (IsOldOrNew (bound_in b) low high) (bound_in c) y one.within h)) in (
        w g.index (names.itself g.index (bound_in x ++ bound_in_parts tail)),
        copy_scoped (under itself j.index g.index) c x (j.index ∷ scope) (g.index ∷ scope) f.1.1.1 (carries_one itself scope scope j.index g.index (carried scope scope (λ y h. h))) body
            (distinct_left (bound_in x) (bound_in_parts tail) d1) (away_left (bound_in x) (bound_in_parts tail) (g.index ∷ scope) w1),
        pieces_scoped j b rest others f.2 e.1 s l (distinct_right (bound_in x) (bound_in_parts tail) d1)
            (away_right (bound_in x) (bound_in_parts tail) scope (away_right (g.index ∷ []) (bound_in x ++ bound_in_parts tail) scope w)) more,
      )

  pub parts_scoped :
      (old new : PartsTerm) (f : NewParts called later p old new) → FreshParts called later p low high old new f → ScopedParts scope old → Fresh (bound_in_parts old) low → Distinct (bound_in_parts new) →
      Away (bound_in_parts new) scope → ScopedParts scope new
  parts_scoped NoParts new f e s v d w = subst (ScopedParts scope) (sym f) tt
  parts_scoped (Part j b rest) new f e s v d w =
      let own = j.index ∷ [] in
      let more = bound_in b ++ bound_in_parts rest in
      subst (ScopedParts scope) (sym f.1.1.0)
      (pieces_scoped j b f.0 f.1.0 f.1.1.1 e.0 s.1 (fresh_below (own ++ more) low j.index v (names.itself j.index more)) (subst (λ (z : PartsTerm). Distinct (bound_in_parts z)) f.1.1.0 d)
      (subst (λ (z : PartsTerm). Away (bound_in_parts z) scope) f.1.1.0 w)
      (λ d2 w2. parts_scoped rest f.1.0 f.1.1.3 e.3 s.2 (names.fresh_right (bound_in b) (bound_in_parts rest) low (names.fresh_right own more low v)) d2 w2))

-- ---- without a variable that is not used

-- all in scope but the variable is in the narrower scope, and no more
pub record Narrows (x : Var) (scope narrow : List Var) : Type 0 where
  pub kept : (y : Var) → is_in y scope ≡ true → eqb x.0 y.0 ≡ false → is_in y narrow ≡ true
  pub only : AreWithin narrow scope

narrow_all : (x : Var) (scope narrow ys : List Var) → Narrows x scope narrow → AvoidsAll x ys → AllIn ys scope → AllIn ys narrow
narrow_all x scope narrow [] k a h = tt
narrow_all x scope narrow (y ∷ ys) k a h = (k.kept y h.0 a.0, narrow_all x scope narrow ys k a.1 h.1)

narrow_none : (scope narrow xs : List Var) → AreWithin narrow scope → NoneIn xs scope → NoneIn xs narrow
narrow_none scope narrow xs k h = none_by xs narrow (λ y m. names.not_in y narrow (λ q. clash (is_in y scope) (k y q) (none_at y xs scope h m)))

narrow_below : (x : Var) (scope narrow xs : List Var) → Narrows x scope narrow → Narrows x (xs ++ scope) (xs ++ narrow)
narrow_below x scope narrow xs k = record {
  kept = λ y h n. in_more y xs narrow ∙ go (is_in y xs) y n (sym (in_more y xs scope) ∙ h);
  only = within_below xs narrow scope k.only;
}
  where
    go : (b : Bool) (y : Var) → eqb x.0 y.0 ≡ false → (b || is_in y scope) ≡ true → (b || is_in y narrow) ≡ true
    go true y n h = refl
    go false y n h = k.kept y h n

module _ (x : Var) where
  mutual
    pub narrow_scoped : (b : BlockTerm) (scope narrow : List Var) → Narrows x scope narrow → Avoids x b → Scoped scope b → Scoped narrow b
    narrow_scoped (Gives ys) scope narrow k a s = narrow_all x scope narrow ys k a s
    narrow_scoped (Bind xs t r b) scope narrow k a s =
        (narrow_right r scope narrow k a.0 s.0, narrow_none scope narrow xs k.only s.1, narrow_scoped b (xs ++ scope) (xs ++ narrow) (narrow_below x scope narrow xs k) a.1 s.2)

    narrow_right : (r : RightTerm) (scope narrow : List Var) → Narrows x scope narrow → AvoidsRight x r → ScopedRight scope r → ScopedRight narrow r
    narrow_right (Plain p) scope narrow k a s = narrow_all x scope narrow (plain_uses p) k a s
    narrow_right (RightTerm.If y u v) scope narrow k a s = (k.kept y s.0 a.0, narrow_scoped u scope narrow k a.1 s.1, narrow_scoped v scope narrow k a.2 s.2)
    narrow_right (RightTerm.Loop first start params test body t) scope narrow k a s =
        let j = narrow_below x scope narrow params k in (
          narrow_all x scope narrow start k a.0 s.0,
          narrow_none scope narrow params k.only s.1,
          narrow_scoped test (params ++ scope) (params ++ narrow) j a.1 s.2,
          narrow_scoped body (params ++ scope) (params ++ narrow) j a.2 s.3,
        )
    narrow_right (RightTerm.Call g ys) scope narrow k a s = narrow_all x scope narrow ys k a s
    narrow_right (RightTerm.With o gens) scope narrow k a s = (narrow_all x scope narrow (op_uses o) k a.0 s.0, narrow_gens gens scope narrow k a.1 s.1)
    narrow_right (RightTerm.Parted f t c o parts) scope narrow k a s = (narrow_all x scope narrow (parted_uses o) k a.0 s.0, narrow_parts parts scope narrow k a.1 s.1)

    narrow_gens : (g : GensTerm) (scope narrow : List Var) → Narrows x scope narrow → AvoidsGens x g → ScopedGens scope g → ScopedGens narrow g
    narrow_gens NoGens scope narrow k a s = tt
    narrow_gens (Gen h b rest) scope narrow k a s =
        let xs = h.index ∷ h.names in (
          narrow_all x scope narrow (head_uses h) k a.0 s.0,
          narrow_none scope narrow xs k.only s.1,
          narrow_scoped b (xs ++ scope) (xs ++ narrow) (narrow_below x scope narrow xs k) a.1 s.2,
          narrow_gens rest scope narrow k a.2 s.3,
        )

    narrow_parts : (g : PartsTerm) (scope narrow : List Var) → Narrows x scope narrow → AvoidsParts x g → ScopedParts scope g → ScopedParts narrow g
    narrow_parts NoParts scope narrow k a s = tt
    narrow_parts (Part h b rest) scope narrow k a s = (
      (narrow_none scope narrow (h.index ∷ []) k.only (s.0, tt)).0,
      narrow_scoped b (h.index ∷ scope) (h.index ∷ narrow) (narrow_below x scope narrow (h.index ∷ []) k) a.0 s.1,
      narrow_parts rest scope narrow k a.1 s.2,
    )

-- the scope before a binding
pub before_binding : (x : Var) (scope : List Var) → is_in x scope ≡ false → Narrows x (x ∷ scope) scope
before_binding x scope n = record { kept = λ y h e. sym (λ i. e i || is_in y scope) ∙ h; only = λ y h. behind_first y x scope h }
