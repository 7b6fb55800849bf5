-- In the new parts of a consumer bases agree.
use Rattle.std.proofs.Common.{◌≡◌, ℕ, ◌<◌, ◌≤◌, Bool, true, false, cond, eqb, List, [], ◌∷◌, ◌++◌, map, length, Option, Some, None, refl, sym, ap, subst, ◌∙◌, inl, inr, arith}
use Rattle.std.specs.Prelude.{zip, unwrap_or}
use Rattle.std.proofs.lemmas.Bool.{eqb-true, eq-eqb}
use Rattle.sac_base.specs.declared.base.Base.{Base}
use Rattle.sac_base.specs.declared.base.Base.TheVariants.{Int, Bool as Truth}
use Rattle.sac_base.specs.declared.grid.Grid1.{Grid1}
use Rattle.sac_base.specs.declared.site.Site.{Site}
use Rattle.core_ir.specs.declared.tree.Var.{Var}
use Rattle.core_ir.specs.Binders.{is_in, bound_in, bound_in_right, bound_in_parts}
use Rattle.core_ir.specs.Renaming.{under}
use Rattle.core_ir.specs.Terms.{PlainTerm, BlockTerm, RightTerm, PartsTerm, PartHead, CoreTerm, Gives, Bind, Plain, NoParts, Part, chain}
use Rattle.core_ir.specs.WellFormed.{Bases, base_of, HasBases, PlainBases, BlockBases, RightBases, PartsBases, Distinct}
use Rattle.core_ir.proofs.Variables.{same_number}
use Rattle.core_forms.specs.edits.Within.{BasesWithin}
use Rattle.core_forms.proofs.edits.Wider.{block_bases_wider, has_wider, plain_wider}
use Rattle.core_facts.specs.Facts.{Facts, note_all, right_facts, in_part}
use Rattle.core_loops.specs.Indices.{IndexFacts, note_others, learn_index, own_index}
use Rattle.core_loops.specs.Pairs.{Producer}
use Rattle.core_loops.specs.Steps.{itself, Folded, FoldedRight, TakenAt, append_parts, PiecesFold, NewParts}
use Rattle.core_loops.specs.norm_steps.Step.{BaseTable, Within, Follows, FollowsRight, FollowsParts}
use Rattle.core_loops.proofs.norm_steps.Places.{within_zip, within_one}
use Rattle.core_forms.proofs.inlined_bodies.Names.{Fresh, clash, not_in, in_left, fresh_below, distinct_left, distinct_right, distinct_apart, behind_first}
use Rattle.core_forms.proofs.inlined_bodies.Names as names
use Rattle.core_forms.specs.norm.Fresh.{IsBetween}
use Rattle.core_forms.proofs.norm.Places.{all_member}
use Rattle.core_forms.proofs.norm.Scopes.{in_right}
use Rattle.core_forms.proofs.norm.Tables.{Low}
use Rattle.core_forms.proofs.norm.Typing.{GivesBases, gives_one, copy_bases}
use Rattle.core_forms.specs.fold.Copied.{IsCopied, AllCopied, AllCopiedRight}
use Rattle.core_forms.specs.fold.Fresh.{FreshPieces, FreshParts}
use Rattle.core_forms.proofs.fold.Lists.{bases_more, bases_both, bases_zip, table_more, table_zip, Bare, bare_left, bare_right, bare_below}
use Rattle.core_forms.proofs.fold.Chains.{behind, chain_bound}
use Rattle.core_forms.proofs.fold.Producers.{part_bases, part_distinct}

-- ---- terms as they were

own_base : (g : Bases) (y : Var) (u : Base) → base_of ((y, u) ∷ g) y ≡ Some u
own_base g y u = λ i. cond (eq-eqb y.0 y.0 refl i) (Some u) (base_of g y)

-- a right side of one result
one_wider : (core : CoreTerm) (s : Site) (x : Var) (r : RightTerm) (g wider : Bases) (t : Base) → BasesWithin g wider → RightBases core g r (t ∷ []) → RightBases core wider r (t ∷ [])
one_wider core s x r g wider t k h = go (block_bases_wider core (Bind (x ∷ []) s r (Gives (x ∷ []))) g wider (t ∷ []) k ((t ∷ []), (h, refl, (own_base g x t, tt))))
  where
    same : (u : Base) → base_of ((x, u) ∷ wider) x ≡ Some t → u ≡ t
    same u e = ap (λ o. unwrap_or o u) (sym (own_base wider x u) ∙ e)

    at : (us : List Base) → RightBases core wider r us → 1 ≡ length us → HasBases (zip (x ∷ []) us ++ wider) (x ∷ []) (t ∷ []) → RightBases core wider r (t ∷ [])
    at [] q l b = absurd (omega (arith, l))
    at (u ∷ []) q l b = subst (λ (v : Base). RightBases core wider r (v ∷ [])) (same u b.0) q
    at (u ∷ v ∷ us) q l b = absurd (omega (arith, l))

    go : BlockBases core wider (Bind (x ∷ []) s r (Gives (x ∷ []))) (t ∷ []) → RightBases core wider r (t ∷ [])
    go d = at d.0 d.1.0 d.1.1 d.1.2

kept_right : (core : CoreTerm) (s : Site) (x : Var) (r : RightTerm) (g wider : Bases) (ts : List Base) → BasesWithin g wider → (t : Base) × (ts ≡ t ∷ []) → RightBases core g r ts → RightBases core wider r ts
kept_right core s x r g wider ts k e h =
    subst (RightBases core wider r) (sym e.1) (one_wider core s x r g wider e.0 k (subst (RightBases core g r) e.1 h))

same_gives : (g wider : Bases) → BasesWithin g wider → GivesBases itself g wider
same_gives g wider k x y t h m = (λ i. base_of wider (sym (same_number x y h) i)) ∙ k x t m

abbrev first_of : Base → List Base → Base
first_of t [] = t
first_of t (u ∷ us) = u

no_base : (o : Option Base) (t : Base) → o ≡ None → o ≡ Some t → ⊥
no_base o t p q = let r : ◌≡◌ {A = Option Base} None (Some t) = sym p ∙ q in cc

-- ---- folded bodies

module _ (core : CoreTerm) (table : BaseTable) (called : ℕ → List (Option (List ℕ))) (p : Producer) (low high : ℕ) (around : Bases) (known : Within table around) (base : p.base ≡ table p.var) (parts : PartsBases core around p.parts p.base) (distinct : Distinct (bound_in_parts p.parts)) where
  module _ (n : ℕ) (grid : List Grid1) where
    -- what a selection gives
    selected : (g : Bases) (r : RightTerm) (us : List Base) (index : Var) → r ≡ Plain (PlainTerm.Select p.var index) → Within table g → RightBases core g r us → (us ≡ p.base ∷ []) × (base_of g index ≡ Some Int)
    selected g r us index e w d =
        let h : PlainBases g (PlainTerm.Select p.var index) us = subst (λ (q : RightTerm). RightBases core g q us) e d in
        (h.3 ∙ (λ i. (w p.var h.0 h.1 ∙ sym base) i ∷ []), h.2)

    taken_bases :
        (m : IndexFacts) (xs : List Var) (r : RightTerm) (b d c : BlockTerm) (t : TakenAt p grid m xs r d c) → IsCopied p grid low high m xs r d c t → (g wider : Bases) (us ts : List Base) → RightBases core g r us → Within table g →
        us ≡ map table xs → BasesWithin g wider → BasesWithin around wider → Distinct (bound_in c) → Bare low (bound_in c) wider →
        ((w : Bases) → BasesWithin (zip xs us ++ g) w → BasesWithin around w → Distinct (bound_in d) → Bare low (bound_in d) w → BlockBases core w d ts) → BlockBases core wider c ts
    taken_bases m xs r b d c t a g wider us ts dr w tb k o dc bc rest =
        let front = chain t.lets (Gives (t.result ∷ [])) in
        let last = Bind (t.target ∷ []) t.last (Plain (PlainTerm.Copy t.result)) d in
        let d1 : Distinct (t.own ∷ bound_in (chain t.lets last)) = subst (λ (z : BlockTerm). Distinct (bound_in z)) t.made dc in
        let b1 : Bare low (t.own ∷ bound_in (chain t.lets last)) wider = subst (λ (z : BlockTerm). Bare low (bound_in z) wider) t.made bc in
        let split = chain_bound t.lets (t.result ∷ []) last in
        let d3 : Distinct (bound_in front ++ bound_in last) = subst Distinct split d1.1 in
        let new : (y : Var) → is_in y (t.own ∷ bound_in front) ≡ true → low ≤ y.0 = λ y h. (all_member (IsBetween low high) (t.own ∷ bound_in front) y a.new h).0 in
        let there : (y : Var) → is_in y (t.own ∷ bound_in front) ≡ true → is_in y (t.own ∷ bound_in (chain t.lets last)) ≡ true =
        λ y h. subst (λ (zs : List Var). is_in y (t.own ∷ zs) ≡ true) (sym split) (in_left y (t.own ∷ bound_in front) (bound_in last) h) in
        let bare : (y : Var) → is_in y (t.own ∷ bound_in front) ≡ true → base_of wider y ≡ None = λ y h. b1 y (there y h) (new y h) in
        let here = names.itself t.own (bound_in front) in
        let s = selected g r us t.index t.selects w dr in
        let inner : Bases = (t.own, Int) ∷ wider in
        let copied : BlockBases core inner front (p.base ∷ []) =
        copy_bases core core (λ group vs ws h. h) (under itself t.head.index t.own) t.body front ((t.head.index, Int) ∷ around) inner (p.base ∷ []) t.renamed a.alike
        (gives_one itself around wider t.head.index t.own Int (same_gives around wider o)) (part_bases core p.parts t.head t.body around p.base a.part parts) (part_distinct p.parts t.head t.body a.part distinct)
        (distinct_left (bound_in front) (bound_in last) d3) in
        let z = behind core t.lets (t.result ∷ []) (p.base ∷ []) inner copied in
        -- what has a base keeps it
        let up : (f : Bases) → BasesWithin f wider → BasesWithin f z.bases =
        λ f q y u h.
        z.same y (not_in y (bound_in front) (λ i. no_base (base_of wider y) u (bare y (behind_first y t.own (bound_in front) i)) (q y u h)))
        ∙ bases_more f wider t.own Int (bare t.own here) q y u h in
        let low_last : Bare low (t.target ∷ bound_in d) z.bases =
        λ y h l.
        z.same y (not_in y (bound_in front) (λ i. clash (is_in y (t.target ∷ bound_in d)) h (distinct_apart (bound_in front) (bound_in last) d3 y i)))
        ∙ bare_below low (t.own ∷ []) (bound_in (chain t.lets last)) (Int ∷ []) wider d1 b1 y (subst (λ (zs : List Var). is_in y zs ≡ true) (sym split) (in_right y (bound_in front) (bound_in last) h)) l in
        let d4 : Distinct (t.target ∷ bound_in d) = distinct_right (bound_in front) (bound_in last) d3 in
        let outer : Bases = (t.target, p.base) ∷ z.bases in
        let tail : BlockBases core outer d ts =
        rest outer (λ y u h. bases_both g z.bases t.target p.base (up g k) y u ((λ i. base_of (zip (sym t.targets i) (sym s.0 i) ++ g) y) ∙ h))
        (table_more table around z.bases t.target p.base known (ap (first_of p.base) (sym s.0 ∙ tb ∙ (λ i. map table (t.targets i)))) (up around o)) d4.1 (bare_below low (t.target ∷ []) (bound_in d) (p.base ∷ []) z.bases d4 low_last) in
        subst (λ (x : BlockTerm). BlockBases core wider x ts) (sym t.made)
        ((Int ∷ []), ((Int, k t.index Int s.1, refl), refl, z.back last ts ((p.base ∷ []), ((p.base, z.has.0, refl), refl, tail))))

    mutual
      pub folded_bases :
          (b : BlockTerm) (k : Facts) (m : IndexFacts) (c : BlockTerm) (h : Folded called p n grid b k m c) → AllCopied called p n grid low high b k m c h → (g wider : Bases) (ts : List Base) → (d : BlockBases core g b ts) →
          Within table g → Follows core table b g ts d → BasesWithin g wider → BasesWithin around wider → Distinct (bound_in c) → Bare low (bound_in c) wider → BlockBases core wider c ts
      folded_bases (Gives xs) k m c h a g wider ts d w f i o dc bc = subst (λ (x : BlockTerm). BlockBases core wider x ts) (sym h) (has_wider g wider i xs ts d)
      folded_bases (Bind xs s r b) k m c (inl h) a g wider ts d w f i o dc bc =
          let q = h.0 in
          let e = h.1.0 in
          let us = d.0 in
          let d1 : Distinct (xs ++ (bound_in_right q ++ bound_in e)) = subst (λ (z : BlockTerm). Distinct (bound_in z)) h.1.1.0 dc in
          let b1 : Bare low (xs ++ (bound_in_right q ++ bound_in e)) wider = subst (λ (z : BlockTerm). Bare low (bound_in z) wider) h.1.1.0 bc in
          let d2 = distinct_right xs (bound_in_right q ++ bound_in e) d1 in
          let b2 = bare_below low xs (bound_in_right q ++ bound_in e) us wider d1 b1 in
          let b0 = bare_right low xs (bound_in_right q ++ bound_in e) wider b1 in
          subst (λ (x : BlockTerm). BlockBases core wider x ts) (sym h.1.1.0) (
            us,
            (
              right_bases s r k m q h.1.1.1 a.0 g wider us d.1.0 w f.1 i o (distinct_left (bound_in_right q) (bound_in e) d2) (bare_left low (bound_in_right q) (bound_in e) wider b0),
              d.1.1,
              folded_bases b (note_all k xs (right_facts called r k)) (learn_index n m xs r k) e h.1.1.2 a.1 (zip xs us ++ g) (zip xs us ++ wider) ts d.1.2 (within_zip table g xs us w f.0) f.2 (bases_zip xs us g wider i)
                  (table_zip table xs us around wider known f.0 o) (distinct_right (bound_in_right q) (bound_in e) d2) (bare_right low (bound_in_right q) (bound_in e) (zip xs us ++ wider) b2),
            ),
          )
      folded_bases (Bind xs s r b) k m c (inr h) a g wider ts d w f i o dc bc =
          taken_bases m xs r b h.0 c h.1.0 a.0 g wider d.0 ts d.1.0 w f.0 i o dc bc
          (λ z j l dd bd. folded_bases b (note_all k xs (right_facts called r k)) (learn_index n m xs r k) h.0 h.1.1 a.1 (zip xs d.0 ++ g) z ts d.1.2 (within_zip table g xs d.0 w f.0) f.2 j l dd bd)

      right_bases :
          (s : Site) (r : RightTerm) (k : Facts) (m : IndexFacts) (q : RightTerm) (h : FoldedRight called p n grid r k m q) → AllCopiedRight called p n grid low high r k m q h → (g wider : Bases) (ts : List Base) → (d : RightBases core g r ts) →
          Within table g → FollowsRight core table r g ts d → BasesWithin g wider → BasesWithin around wider → Distinct (bound_in_right q) → Bare low (bound_in_right q) wider → RightBases core wider q ts
      right_bases s (Plain t) k m q h a g wider ts d w f i o dc bc = subst (λ (x : RightTerm). RightBases core wider x ts) (sym h) (plain_wider g wider i t ts d)
      right_bases s (RightTerm.If x u v) k m q h a g wider ts d w f i o dc bc =
          let b = h.0 in
          let e = h.1.0 in
          let d1 : Distinct (bound_in b ++ bound_in e) = subst (λ (z : RightTerm). Distinct (bound_in_right z)) h.1.1.0 dc in
          let b1 : Bare low (bound_in b ++ bound_in e) wider = subst (λ (z : RightTerm). Bare low (bound_in_right z) wider) h.1.1.0 bc in
          subst (λ (z : RightTerm). RightBases core wider z ts) (sym h.1.1.0) (
            i x Truth d.0,
            folded_bases u k m b h.1.1.1 a.0 g wider ts d.1 w f.0 i o (distinct_left (bound_in b) (bound_in e) d1) (bare_left low (bound_in b) (bound_in e) wider b1),
            folded_bases v k m e h.1.1.2 a.1 g wider ts d.2 w f.1 i o (distinct_right (bound_in b) (bound_in e) d1) (bare_right low (bound_in b) (bound_in e) wider b1),
          )
      right_bases s (RightTerm.Loop first start params test body u) k m q h a g wider ts d w f i o dc bc =
          let b = h.0 in
          let e = h.1.0 in
          let nk = note_all k params [] in
          let nm = note_others m params in
          let d1 : Distinct (params ++ (bound_in b ++ bound_in e)) = subst (λ (z : RightTerm). Distinct (bound_in_right z)) h.1.1.0 dc in
          let b1 : Bare low (params ++ (bound_in b ++ bound_in e)) wider = subst (λ (z : RightTerm). Bare low (bound_in_right z) wider) h.1.1.0 bc in
          let d2 = distinct_right params (bound_in b ++ bound_in e) d1 in
          let b2 = bare_below low params (bound_in b ++ bound_in e) ts wider d1 b1 in
          let wz = within_zip table g params ts w f.0 in
          let j = bases_zip params ts g wider i in
          let l = table_zip table params ts around wider known f.0 o in
          subst (λ (z : RightTerm). RightBases core wider z ts) (sym h.1.1.0) (
            has_wider g wider i start ts d.0,
            d.1,
            folded_bases test nk nm b h.1.1.1 a.0 (zip params ts ++ g) (zip params ts ++ wider) (Truth ∷ []) d.2 wz f.1 j l (distinct_left (bound_in b) (bound_in e) d2)
                (bare_left low (bound_in b) (bound_in e) (zip params ts ++ wider) b2),
            folded_bases body nk nm e h.1.1.2 a.1 (zip params ts ++ g) (zip params ts ++ wider) ts d.3 wz f.2 j l (distinct_right (bound_in b) (bound_in e) d2)
                (bare_right low (bound_in b) (bound_in e) (zip params ts ++ wider) b2),
          )
      right_bases s (RightTerm.Call group xs) k m q h a g wider ts d w f i o dc bc =
          subst (λ (z : RightTerm). RightBases core wider z ts) (sym h) (d.0, (has_wider g wider i xs d.0 d.1.0, d.1.1))
      right_bases s (RightTerm.With v gens) k m q h a g wider ts d w f i o dc bc =
          subst (λ (z : RightTerm). RightBases core wider z ts) (sym h) (kept_right core s p.var (RightTerm.With v gens) g wider ts i (d.0, d.1.2) d)
      right_bases s (RightTerm.Parted fr t cell v ps) k m q h a g wider ts d w f i o dc bc =
          subst (λ (z : RightTerm). RightBases core wider z ts) (sym h) (kept_right core s p.var (RightTerm.Parted fr t cell v ps) g wider ts i (t, d.3) d)

  -- ---- parts

  module _ (later : Facts) (g : Bases) (within : Within table g) (below : Low g low) (keeps : BasesWithin around g) where
    index_bare : (j : PartHead) (ys : List Var) → j.index.0 < low → Bare low ys ((j.index, Int) ∷ g)
    index_bare j ys l y h n = go (eqb j.index.0 y.0) refl
      where
        go : (t : Bool) → eqb j.index.0 y.0 ≡ t → cond (eqb j.index.0 y.0) (Some Int) (base_of g y) ≡ None
        go true e = absurd (let q = eqb-true j.index.0 y.0 e in omega (arith, l, n, q))
        go false e = (λ i. cond (e i) (Some Int) (base_of g y)) ∙ below y n

    pieces_bases :
        (j : PartHead) (b : BlockTerm) (pieces others : PartsTerm) (f : PiecesFold called later p j b pieces) → FreshPieces called later p low high j b pieces f → (t : Base) → (d : BlockBases core ((j.index, Int) ∷ g) b (t ∷ [])) →
        Int ≡ table j.index → Follows core table b ((j.index, Int) ∷ g) (t ∷ []) d → j.index.0 < low → Distinct (bound_in_parts (append_parts pieces others)) → (Distinct (bound_in_parts others) → PartsBases core g others t) →
        PartsBases core g (append_parts pieces others) t
    pieces_bases j b NoParts others f e t d q w l dn more = more dn
    pieces_bases j b (Part x body rest) others f e t d q w l dn more =
        let c = f.1.0 in
        let one = e.0 in
        let tail = append_parts rest others in
        let dr = distinct_right (x.index ∷ []) (bound_in body ++ bound_in_parts tail) dn in
        let inner : Bases = (j.index, Int) ∷ g in
        let folded : BlockBases core inner c (t ∷ []) =
        folded_bases (length j.grid) x.grid b (in_part later j) (own_index (length j.grid) j.index) c f.1.1.0 one.copied inner inner (t ∷ []) d (within_one table g j.index Int within q) w (λ y u h. h)
        (table_more table around g j.index Int known q keeps) one.once (index_bare j (bound_in c) l) in (
          copy_bases core core (λ group vs ws h. h) (under itself j.index x.index) c body inner ((x.index, Int) ∷ g) (t ∷ []) f.1.1.1 one.alike (gives_one itself g g j.index x.index Int (same_gives g g (λ y u h. h))) folded one.once
              (distinct_left (bound_in body) (bound_in_parts tail) dr),
          pieces_bases j b rest others f.2 e.1 t d q w l (distinct_right (bound_in body) (bound_in_parts tail) dr) more,
        )

    pub parts_bases :
        (old new : PartsTerm) (f : NewParts called later p old new) → FreshParts called later p low high old new f → (t : Base) → (d : PartsBases core g old t) → FollowsParts core table old g t d → Fresh (bound_in_parts old) low →
        Distinct (bound_in_parts new) → PartsBases core g new t
    parts_bases NoParts new f e t d w v dn = subst (λ (z : PartsTerm). PartsBases core g z t) (sym f) tt
    parts_bases (Part j b rest) new f e t d w v dn =
        let own = j.index ∷ [] in
        let more = bound_in b ++ bound_in_parts rest in
        subst (λ (z : PartsTerm). PartsBases core g z t) (sym f.1.1.0)
        (pieces_bases j b f.0 f.1.0 f.1.1.1 e.0 t d.0 w.0 w.1 (fresh_below (own ++ more) low j.index v (names.itself j.index more)) (subst (λ (z : PartsTerm). Distinct (bound_in_parts z)) f.1.1.0 dn)
        (λ d2. parts_bases rest f.1.0 f.1.1.3 e.3 t d.1 w.2 (names.fresh_right (bound_in b) (bound_in_parts rest) low (names.fresh_right own more low v)) d2))
