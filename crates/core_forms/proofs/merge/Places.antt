-- The parts of a merged loop: scoped, of agreeing bases, calling no other groups, and as heavy as before.
use Rattle.std.proofs.Common.{◌≡◌, ℕ, suc, ◌+◌, ◌≤◌, ◌^◌, List, [], ◌∷◌, ◌++◌, length, Option, refl, sym, ap, subst, ◌∙◌, inl, inr, arith}
use Rattle.std.proofs.lemmas.List.{append_assoc, length-append}
use Rattle.std.proofs.lemmas.List.Elements.{All-head, All-tail}
use Rattle.std.specs.Prelude.{All, zip}
use Rattle.sac_base.specs.declared.base.Base.{Base}
use Rattle.sac_base.specs.declared.base.Base.TheVariants.{Int}
use Rattle.sac_base.specs.declared.grid.Grid1.{Grid1}
use Rattle.sac_base.specs.declared.site.Site.{Site}
use Rattle.core_ir.specs.declared.tree.Var.{Var}
use Rattle.core_ir.specs.declared.tree.PartedOp.TheVariants as parted
use Rattle.core_ir.specs.Binders.{bound_in, bound_in_parts}
use Rattle.core_ir.specs.Renaming.{Renamed, under}
use Rattle.core_ir.specs.Scopes.{Scoped, ScopedParts}
use Rattle.core_ir.specs.Terms.{BlockTerm, PartsTerm, LetTerm, PartHead, CoreTerm, Gives, Bind, NoParts, Part, Parted, chain}
use Rattle.core_ir.specs.WellFormed.{Bases, BlockBases, GroupBases, PartsBases, Distinct, part_grids}
use Rattle.core_facts.specs.calls.Nests.{CallsAll, CallsAllParts}
use Rattle.core_facts.specs.Facts.{Facts, in_part}
use Rattle.core_loops.specs.Indices.{own_index}
use Rattle.core_loops.specs.Loops.{parted_in, parted_in_parts, weight, weight_parts}
use Rattle.core_loops.specs.Pairs.{AvoidsLets, IsNest, Nests, count_parts}
use Rattle.core_loops.specs.Steps.{append_parts, itself}
use Rattle.core_loops.specs.merge_steps.Step.{InnerMerged, MergedBody, MergedParts}
use Rattle.core_loops.specs.norm_steps.Step.{BaseTable, Within, Follows, FollowsParts}
use Rattle.core_forms.proofs.inlined_bodies.Names.{behind_first, distinct_left, distinct_right, in_left}
use Rattle.core_forms.proofs.inlined_bodies.Names as names
use Rattle.core_forms.specs.norm.Alike.{Alike}
use Rattle.core_forms.proofs.norm.Scopes.{Away, away_left, away_right, in_right}
use Rattle.core_forms.proofs.norm.Calls.{copy_calls}
use Rattle.core_forms.proofs.norm.Weights.{weights, copy_parted}
use Rattle.core_forms.specs.merge.Fresh.{AlikeInner, AlikeMerged}
use Rattle.core_forms.proofs.merge.Straight.{StraightLets, around_straight, calls_behind, chain_append, chain_calls, chain_parted, chain_weight, straight_both}
use Rattle.core_forms.proofs.merge.Makes.{Baseless, away_below, baseless_below, makes_bases, makes_scoped, makes_straight, own_base}
use Rattle.core_forms.proofs.merge.Scopes.{Stands, merged_scoped}
use Rattle.core_forms.proofs.merge.Bases.{merged_bases}

-- ---- parts after parts

pub bound_append : (p q : PartsTerm) → bound_in_parts (append_parts p q) ≡ bound_in_parts p ++ bound_in_parts q
bound_append NoParts q = refl
bound_append (Part h b rest) q = λ i. h.index ∷ ((λ k. bound_in b ++ bound_append rest q k) ∙ sym (append_assoc (bound_in b) (bound_in_parts rest) (bound_in_parts q))) i

pub grids_append : (p q : PartsTerm) → part_grids (append_parts p q) ≡ part_grids p ++ part_grids q
grids_append NoParts q = refl
grids_append (Part h b rest) q = λ i. h.grid ∷ grids_append rest q i

scoped_append : (scope : List Var) (p q : PartsTerm) → ScopedParts scope p → ScopedParts scope q → ScopedParts scope (append_parts p q)
scoped_append scope NoParts q s t = t
scoped_append scope (Part h b rest) q s t = (s.0, s.1, scoped_append scope rest q s.2 t)

bases_append : (core : CoreTerm) (g : Bases) (b : Base) (p q : PartsTerm) → PartsBases core g p b → PartsBases core g q b → PartsBases core g (append_parts p q) b
bases_append core g b NoParts q s t = t
bases_append core g b (Part h c rest) q s t = (s.0, bases_append core g b rest q s.1 t)

calls_append : (P : ℕ → Type 0) (p q : PartsTerm) → CallsAllParts P p → CallsAllParts P q → CallsAllParts P (append_parts p q)
calls_append P NoParts q s t = t
calls_append P (Part h c rest) q s t = (s.0, calls_append P rest q s.1 t)

sums : (a b c : ℕ) → a + (b + c) ≡ (a + b) + c
sums a b c = omega arith

nought : (n : ℕ) → n ≡ 0 + n
nought n = omega arith

weight_append : (p q : PartsTerm) → weight_parts (append_parts p q) ≡ weight_parts p + weight_parts q
weight_append NoParts q = nought (weight_parts q)
weight_append (Part h b rest) q = ap (λ n. weight b + n) (weight_append rest q) ∙ sums (weight b) (weight_parts rest) (weight_parts q)

parted_append : (p q : PartsTerm) → parted_in_parts (append_parts p q) ≡ parted_in_parts p + parted_in_parts q
parted_append NoParts q = nought (parted_in_parts q)
parted_append (Part h b rest) q = ap (λ n. parted_in b + n) (parted_append rest q) ∙ sums (parted_in b) (parted_in_parts rest) (parted_in_parts q)

pub avoids_front : (z : Var) (ls ms : List LetTerm) → AvoidsLets z (ls ++ ms) → AvoidsLets z ls
avoids_front z [] ms a = tt
avoids_front z (l ∷ ls) ms a = (a.0, avoids_front z ls ms a.1)

pub avoids_back : (z : Var) (ls ms : List LetTerm) → AvoidsLets z (ls ++ ms) → AvoidsLets z ms
avoids_back z [] ms a = a
avoids_back z (l ∷ ls) ms a = avoids_back z ls ms a.1

-- ---- behind bindings

pub behind : (core : CoreTerm) (t : BaseTable) (ls : List LetTerm) (X : BlockTerm) (g : Bases) (ts : List Base) (m : BlockBases core g (chain ls X) ts) → Follows core t (chain ls X) g ts m
    → (q : Bases) × ((n : BlockBases core q X ts) × Follows core t X q ts n)
behind core t [] X g ts m f = (g, (m, f))
behind core t (l ∷ ls) X g ts m f = behind core t ls X (zip l.targets m.0 ++ g) ts m.1.2 f.2

part_number : (core : CoreTerm) (t : BaseTable) (g : Bases) (b : Base) (ps : PartsTerm) (p : PartHead) (c : BlockTerm) → Stands ps p c → (m : PartsBases core g ps b) → FollowsParts core t ps g b m → Int ≡ t p.index
part_number core t g b NoParts p c n m f = absurd n
part_number core t g b (Part h x rest) p c (inl n) m f = subst (λ (j : PartHead). Int ≡ t j.index) n.0 f.0
part_number core t g b (Part h x rest) p c (inr n) m f = part_number core t g b rest p c n m.1 f.2

short_row : (h g j : List Grid1) → j ≡ h ++ g → length j ≤ 8 → length h + length g ≤ 2 ^ 31
short_row h g j e l = let both = length-append h g in let same : length j ≡ length (h ++ g) = ap length e in omega (arith, both, same, l)

-- ---- the pieces of one outer part

-- the inner loop behind its outer bindings
abbrev pub nested : (z : Var) (s : Site) (before after : List LetTerm) (f : List Grid1) (b : Base) (inner : PartsTerm) → BlockTerm
nested z s before after f b inner = chain before (Bind (z ∷ []) s (Parted f b [] parted.Genarray inner) (chain after (Gives (z ∷ []))))

module _ (h : PartHead) (before after : List LetTerm) (z : Var) (s : Site) (f : List Grid1) (base : Base) (whole : PartsTerm) (sb : StraightLets before) (sa : StraightLets after) (av : AvoidsLets z (before ++ after)) where
  copied : (g : PartHead) (c : BlockTerm) (j : PartHead) (e : BlockTerm) (x : MergedBody h before after g c j e) → Renamed (under (under itself h.index x.outer) g.index x.inner) (chain before (chain after c)) x.body
  copied g c j e x = subst (λ (y : BlockTerm). Renamed (under (under itself h.index x.outer) g.index x.inner) y x.body) (chain_append before after c) x.renamed

  pieces_scoped :
      (scope : List Var) → Scoped (h.index ∷ scope) (nested z s before after f base whole) → (inner pieces : PartsTerm) → InnerMerged h before after inner pieces
      → ((g : PartHead) (c : BlockTerm) → Stands inner g c → Stands whole g c) → Distinct (bound_in_parts pieces) → Away (bound_in_parts pieces) scope → ScopedParts scope pieces
  pieces_scoped scope sc NoParts pieces m emb d w = subst (ScopedParts scope) (sym m) tt
  pieces_scoped scope sc (Part g c rest) NoParts m emb d w = absurd m
  pieces_scoped scope sc (Part g c rest) (Part j e pieces) m emb d w =
      let x = m.2 in
      let own = j.index ∷ [] in
      let more = bound_in e ++ bound_in_parts pieces in
      let dr = distinct_right own more d in
      let de : Distinct (bound_in (chain x.makes x.body)) = subst (λ (y : BlockTerm). Distinct (bound_in y)) x.whole (distinct_left (bound_in e) (bound_in_parts pieces) dr) in
      let we : Away (bound_in (chain x.makes x.body)) (j.index ∷ scope) =
      subst (λ (y : BlockTerm). Away (bound_in y) (j.index ∷ scope)) x.whole (away_left (bound_in e) (bound_in_parts pieces) (own ++ scope) (away_below own more scope d w)) in (
        w j.index (names.itself j.index more),
        subst (Scoped (j.index ∷ scope)) (sym x.whole)
            (makes_scoped j.index x.outer x.inner (length h.grid) (length g.grid) x.makes x.made x.body (j.index ∷ scope) (names.itself j.index scope) de we
            (λ v sub p q. merged_scoped z s before after f base [] whole h.index x.outer g c x.body x.inner scope v sc sb sa (avoids_front z before after av) (avoids_back z before after av)
            (emb g c (inl (refl, refl))) (copied g c j e x) (λ y r. sub y (behind_first y j.index scope r)) p q)),
        pieces_scoped scope sc rest pieces m.3 (λ i y n. emb i y (inr n)) (distinct_right (bound_in e) (bound_in_parts pieces) dr) (away_right (bound_in e) (bound_in_parts pieces) scope (away_right own more scope w)),
      )

  module _ (core next : CoreTerm) (into : (group : ℕ) (us ts : List Base) → GroupBases core group us ts → GroupBases next group us ts) (t : BaseTable) (g : Bases)
      (m : BlockBases core ((h.index, Int) ∷ g) (nested z s before after f base whole) (base ∷ [])) (fo : Follows core t (nested z s before after f base whole) ((h.index, Int) ∷ g) (base ∷ []) m)
      (number : Int ≡ t h.index) (within : Within t g) (once : Distinct (bound_in (nested z s before after f base whole))) where
    pieces_bases :
        (inner pieces : PartsTerm) (w : InnerMerged h before after inner pieces) → AlikeInner h before after inner pieces w → ((p : PartHead) (c : BlockTerm) → Stands inner p c → Stands whole p c)
        → Distinct (bound_in_parts pieces) → Baseless (bound_in_parts pieces) g → All (λ (x : List Grid1). length x ≤ 8) (part_grids pieces) → PartsBases next g pieces base
    pieces_bases NoParts pieces w a emb d n short = subst (λ (ps : PartsTerm). PartsBases next g ps base) (sym w) tt
    pieces_bases (Part p c rest) NoParts w a emb d n short = absurd w
    pieces_bases (Part p c rest) (Part j e pieces) w a emb d n short =
        let x = w.2 in
        let own = j.index ∷ [] in
        let more = bound_in e ++ bound_in_parts pieces in
        let dr = distinct_right own more d in
        let nr = baseless_below j.index more Int g d.0 n in
        let de : Distinct (bound_in (chain x.makes x.body)) = subst (λ (y : BlockTerm). Distinct (bound_in y)) x.whole (distinct_left (bound_in e) (bound_in_parts pieces) dr) in
        let ne : Baseless (bound_in (chain x.makes x.body)) ((j.index, Int) ∷ g) =
        subst (λ (y : BlockTerm). Baseless (bound_in y) ((j.index, Int) ∷ g)) x.whole (λ y q. nr y (in_left y (bound_in e) (bound_in_parts pieces) q)) in
        let st = emb p c (inl (refl, refl)) in
        let at = behind core t before (Bind (z ∷ []) s (Parted f base [] parted.Genarray whole) (chain after (Gives (z ∷ [])))) ((h.index, Int) ∷ g) (base ∷ []) m fo in
        let index = part_number core t at.0 base whole p c st at.1.0.1.0.1 at.1.1.1 in
        let like : Alike (chain before (chain after c)) x.body = subst (λ (y : BlockTerm). Alike y x.body) (chain_append before after c) a.0 in
        let low = n j.index (names.itself j.index more) in (
          subst (λ (y : BlockTerm). BlockBases next ((j.index, Int) ∷ g) y (base ∷ [])) (sym x.whole)
              (makes_bases next j.index x.outer x.inner (length h.grid) (length p.grid) x.makes x.made x.body ((j.index, Int) ∷ g) (base ∷ [])
              (short_row h.grid p.grid j.grid w.0 (All-head (λ (x : List Grid1). length x ≤ 8) j.grid (part_grids pieces) short)) (own_base g j.index Int) de ne
              (λ v sub q r. merged_bases core next into t z s before after f base [] whole h.index x.outer p c x.body x.inner g v m fo number within sb sa (avoids_front z before after av) (avoids_back z before after av)
              st index (copied p c j e x) like (λ y u k. sub y u (Rattle.core_forms.proofs.merge.Makes.kept_one g j.index Int low y u k)) once q)),
          pieces_bases rest pieces w.3 a.1 (λ i y k. emb i y (inr k)) (distinct_right (bound_in e) (bound_in_parts pieces) dr)
              (λ y q. n y (in_right y own more (in_right y (bound_in e) (bound_in_parts pieces) q))) (All-tail (λ (x : List Grid1). length x ≤ 8) j.grid (part_grids pieces) short),
        )

  pieces_calls : (P : ℕ → Type 0) (inner pieces : PartsTerm) → InnerMerged h before after inner pieces → CallsAllParts P inner → CallsAllParts P pieces
  pieces_calls P NoParts pieces m k = subst (CallsAllParts P) (sym m) tt
  pieces_calls P (Part g c rest) NoParts m k = absurd m
  pieces_calls P (Part g c rest) (Part j e pieces) m k =
      let x = m.2 in (
        subst (CallsAll P) (sym x.whole)
            (chain_calls P x.makes x.body (makes_straight j.index x.outer x.inner (length h.grid) (length g.grid) x.makes x.made)
            (copy_calls P (under (under itself h.index x.outer) g.index x.inner) (chain (before ++ after) c) x.body x.renamed (chain_calls P (before ++ after) c (straight_both before after sb sa) k.0))),
        pieces_calls P rest pieces m.3 k.1,
      )

  pieces_weight : (inner pieces : PartsTerm) → InnerMerged h before after inner pieces → weight_parts pieces ≡ weight_parts inner
  pieces_weight NoParts pieces m = ap weight_parts m
  pieces_weight (Part g c rest) NoParts m = absurd m
  pieces_weight (Part g c rest) (Part j e pieces) m =
      let x = m.2 in
      let one : weight e ≡ weight c =
      ap weight x.whole ∙ chain_weight x.makes x.body (makes_straight j.index x.outer x.inner (length h.grid) (length g.grid) x.makes x.made)
      ∙ weights (under (under itself h.index x.outer) g.index x.inner) (chain (before ++ after) c) x.body x.renamed ∙ chain_weight (before ++ after) c (straight_both before after sb sa) in
      λ i. one i + pieces_weight rest pieces m.3 i

  pieces_parted : (inner pieces : PartsTerm) → InnerMerged h before after inner pieces → parted_in_parts pieces ≡ parted_in_parts inner
  pieces_parted NoParts pieces m = ap parted_in_parts m
  pieces_parted (Part g c rest) NoParts m = absurd m
  pieces_parted (Part g c rest) (Part j e pieces) m =
      let x = m.2 in
      let one : parted_in e ≡ parted_in c =
      ap parted_in x.whole ∙ chain_parted x.makes x.body (makes_straight j.index x.outer x.inner (length h.grid) (length g.grid) x.makes x.made)
      ∙ copy_parted (under (under itself h.index x.outer) g.index x.inner) (chain (before ++ after) c) x.body x.renamed ∙ chain_parted (before ++ after) c (straight_both before after sb sa) in
      λ i. one i + pieces_parted rest pieces m.3 i

  nested_weight : weight (nested z s before after f base whole) ≡ weight_parts whole
  nested_weight =
      chain_weight before (Bind (z ∷ []) s (Parted f base [] parted.Genarray whole) (chain after (Gives (z ∷ [])))) sb ∙ (λ i. weight_parts whole + chain_weight after (Gives (z ∷ [])) sa i) ∙ nothing (weight_parts whole)
    where
      nothing : (n : ℕ) → n + 0 ≡ n
      nothing n = omega arith

  nested_parted : parted_in (nested z s before after f base whole) ≡ suc (parted_in_parts whole)
  nested_parted =
      chain_parted before (Bind (z ∷ []) s (Parted f base [] parted.Genarray whole) (chain after (Gives (z ∷ [])))) sb ∙ (λ i. suc (parted_in_parts whole) + chain_parted after (Gives (z ∷ [])) sa i) ∙ nothing (suc (parted_in_parts whole))
    where
      nothing : (n : ℕ) → n + 0 ≡ n
      nothing n = omega arith

-- ---- all outer parts

module _ (called : ℕ → List (Option (List ℕ))) (k : Facts) (f : List Grid1) (base : Base) where
  abbrev NestOf : PartHead → BlockTerm → PartsTerm → Type 0
  NestOf h b inner = IsNest called (in_part k h) h.grid (own_index (length h.grid) h.index) f base b inner

  pub around : (h : PartHead) (b : BlockTerm) (inner : PartsTerm) (n : NestOf h b inner) → StraightLets n.before × StraightLets n.after
  around h b inner n = around_straight called h.grid n.before n.after (n.z ∷ []) (n.z ∷ []) n.site (Parted f base [] parted.Genarray inner) (in_part k h) (own_index (length h.grid) h.index) n.total

  pub merged_parts_scoped :
      (scope : List Var) (old : PartsTerm) (count : ℕ) (w : Nests called k f base old count) (new : PartsTerm) → MergedParts called k f base old count w new → ScopedParts scope old
      → Distinct (bound_in_parts new) → Away (bound_in_parts new) scope → ScopedParts scope new
  merged_parts_scoped scope NoParts count w new m sc d v = subst (ScopedParts scope) (sym m) tt
  merged_parts_scoped scope (Part h b rest) count w new m sc d v =
      let pieces = m.0 in
      let others = m.1.0 in
      let y = m.1.1 in
      let n = w.1.1.0 in
      let st = around h b w.0 n in
      let bound : bound_in_parts new ≡ bound_in_parts pieces ++ bound_in_parts others = (λ i. bound_in_parts (y.0 i)) ∙ bound_append pieces others in
      let d2 = subst Distinct bound d in
      let v2 : Away (bound_in_parts pieces ++ bound_in_parts others) scope = subst (λ (xs : List Var). Away xs scope) bound v in
      subst (ScopedParts scope) (sym y.0)
      (scoped_append scope pieces others
      (pieces_scoped h n.before n.after n.z n.site f base w.0 st.0 st.1 n.unused scope (subst (Scoped (h.index ∷ scope)) n.whole sc.1) w.0 pieces y.2 (λ g c q. q) (distinct_left (bound_in_parts pieces) (bound_in_parts others) d2)
      (away_left (bound_in_parts pieces) (bound_in_parts others) scope v2))
      (merged_parts_scoped scope rest w.1.0 w.1.1.1 others y.3 sc.2 (distinct_right (bound_in_parts pieces) (bound_in_parts others) d2) (away_right (bound_in_parts pieces) (bound_in_parts others) scope v2)))

  module _ (core next : CoreTerm) (into : (group : ℕ) (us ts : List Base) → GroupBases core group us ts → GroupBases next group us ts) (t : BaseTable) (g : Bases) (within : Within t g) where
    pub merged_parts_bases :
        (old : PartsTerm) (count : ℕ) (w : Nests called k f base old count) (new : PartsTerm) (m : MergedParts called k f base old count w new) → AlikeMerged called k f base old count w new m
        → (d : PartsBases core g old base) → FollowsParts core t old g base d → Distinct (bound_in_parts old) → Distinct (bound_in_parts new) → Baseless (bound_in_parts new) g
        → All (λ (x : List Grid1). length x ≤ 8) (part_grids new) → PartsBases next g new base
    merged_parts_bases NoParts count w new m a d fo o e v short = subst (λ (ps : PartsTerm). PartsBases next g ps base) (sym m) tt
    merged_parts_bases (Part h b rest) count w new m a d fo o e v short =
        let pieces = m.0 in
        let others = m.1.0 in
        let y = m.1.1 in
        let n = w.1.1.0 in
        let st = around h b w.0 n in
        let bound : bound_in_parts new ≡ bound_in_parts pieces ++ bound_in_parts others = (λ i. bound_in_parts (y.0 i)) ∙ bound_append pieces others in
        let e2 = subst Distinct bound e in
        let v2 : Baseless (bound_in_parts pieces ++ bound_in_parts others) g = subst (λ (xs : List Var). Baseless xs g) bound v in
        let s2 : All (λ (x : List Grid1). length x ≤ 8) (part_grids pieces ++ part_grids others) =
        subst (All (λ (x : List Grid1). length x ≤ 8)) ((λ i. part_grids (y.0 i)) ∙ grids_append pieces others) short in
        let o2 = distinct_right (h.index ∷ []) (bound_in b ++ bound_in_parts rest) o in
        let own : (z : BlockTerm) → b ≡ z → (q : BlockBases core ((h.index, Int) ∷ g) z (base ∷ [])) × (Follows core t z ((h.index, Int) ∷ g) (base ∷ []) q × Distinct (bound_in z)) =
        λ z q. subst (λ (x : BlockTerm). (q : BlockBases core ((h.index, Int) ∷ g) x (base ∷ [])) × (Follows core t x ((h.index, Int) ∷ g) (base ∷ []) q × Distinct (bound_in x))) q
        (d.0, (fo.1, distinct_left (bound_in b) (bound_in_parts rest) o2)) in
        let there = own (nested n.z n.site n.before n.after f base w.0) n.whole in
        subst (λ (ps : PartsTerm). PartsBases next g ps base) (sym y.0)
        (bases_append next g base pieces others
        (pieces_bases h n.before n.after n.z n.site f base w.0 st.0 st.1 n.unused core next into t g there.0 there.1.0 fo.0 within there.1.1 w.0 pieces y.2 a.0 (λ p c q. q)
        (distinct_left (bound_in_parts pieces) (bound_in_parts others) e2) (λ x q. v2 x (in_left x (bound_in_parts pieces) (bound_in_parts others) q)) (front (part_grids pieces) (part_grids others) s2))
        (merged_parts_bases rest w.1.0 w.1.1.1 others y.3 a.1 d.1 fo.2 (distinct_right (bound_in b) (bound_in_parts rest) o2) (distinct_right (bound_in_parts pieces) (bound_in_parts others) e2)
        (λ x q. v2 x (in_right x (bound_in_parts pieces) (bound_in_parts others) q)) (back (part_grids pieces) (part_grids others) s2)))
      where
        front : (xs ys : List (List Grid1)) → All (λ (x : List Grid1). length x ≤ 8) (xs ++ ys) → All (λ (x : List Grid1). length x ≤ 8) xs
        front [] ys q = Rattle.std.proofs.lemmas.List.Elements.All-nil (λ (x : List Grid1). length x ≤ 8)
        front (x ∷ xs) ys q =
            Rattle.std.proofs.lemmas.List.Elements.All-cons (λ (x : List Grid1). length x ≤ 8) x xs (All-head (λ (x : List Grid1). length x ≤ 8) x (xs ++ ys) q)
            (front xs ys (All-tail (λ (x : List Grid1). length x ≤ 8) x (xs ++ ys) q))

        back : (xs ys : List (List Grid1)) → All (λ (x : List Grid1). length x ≤ 8) (xs ++ ys) → All (λ (x : List Grid1). length x ≤ 8) ys
        back [] ys q = q
        back (x ∷ xs) ys q = back xs ys (All-tail (λ (x : List Grid1). length x ≤ 8) x (xs ++ ys) q)

  pub merged_parts_calls : (P : ℕ → Type 0) (old : PartsTerm) (count : ℕ) (w : Nests called k f base old count) (new : PartsTerm) → MergedParts called k f base old count w new → CallsAllParts P old → CallsAllParts P new
  merged_parts_calls P NoParts count w new m c = subst (CallsAllParts P) (sym m) tt
  merged_parts_calls P (Part h b rest) count w new m c =
      let pieces = m.0 in
      let others = m.1.0 in
      let y = m.1.1 in
      let n = w.1.1.0 in
      let st = around h b w.0 n in
      let X = Bind (n.z ∷ []) n.site (Parted f base [] parted.Genarray w.0) (chain n.after (Gives (n.z ∷ []))) in
      let inner = calls_behind P n.before X (subst (CallsAll P) n.whole c.0) in
      subst (CallsAllParts P) (sym y.0)
      (calls_append P pieces others (pieces_calls h n.before n.after n.z n.site f base w.0 st.0 st.1 n.unused P w.0 pieces y.2 inner.0) (merged_parts_calls P rest w.1.0 w.1.1.1 others y.3 c.1))

  pub merged_weight : (old : PartsTerm) (count : ℕ) (w : Nests called k f base old count) (new : PartsTerm) → MergedParts called k f base old count w new → weight_parts new ≡ weight_parts old
  merged_weight NoParts count w new m = ap weight_parts m
  merged_weight (Part h b rest) count w new m =
      let pieces = m.0 in
      let others = m.1.0 in
      let y = m.1.1 in
      let n = w.1.1.0 in
      let st = around h b w.0 n in
      let own : weight b ≡ weight_parts w.0 = ap weight n.whole ∙ nested_weight h n.before n.after n.z n.site f base w.0 st.0 st.1 n.unused in
      ap weight_parts y.0 ∙ weight_append pieces others
      ∙ (λ i. (pieces_weight h n.before n.after n.z n.site f base w.0 st.0 st.1 n.unused w.0 pieces y.2 ∙ sym own) i + merged_weight rest w.1.0 w.1.1.1 others y.3 i)

  pub merged_parted : (old : PartsTerm) (count : ℕ) (w : Nests called k f base old count) (new : PartsTerm) → MergedParts called k f base old count w new → parted_in_parts new + count_parts old ≡ parted_in_parts old
  merged_parted NoParts count w new m = (λ i. parted_in_parts (m i) + 0)
  merged_parted (Part h b rest) count w new m =
      let pieces = m.0 in
      let others = m.1.0 in
      let y = m.1.1 in
      let n = w.1.1.0 in
      let st = around h b w.0 n in
      let own : parted_in b ≡ suc (parted_in_parts w.0) = ap parted_in n.whole ∙ nested_parted h n.before n.after n.z n.site f base w.0 st.0 st.1 n.unused in
      let all : parted_in_parts new ≡ parted_in_parts pieces + parted_in_parts others = ap parted_in_parts y.0 ∙ parted_append pieces others in
      let mine = pieces_parted h n.before n.after n.z n.site f base w.0 st.0 st.1 n.unused w.0 pieces y.2 in
      let rest_of = merged_parted rest w.1.0 w.1.1.1 others y.3 in
      add (parted_in_parts new) (parted_in_parts pieces) (parted_in_parts others) (parted_in_parts w.0) (parted_in b) (count_parts rest) (parted_in_parts rest) all mine own rest_of
    where
      add : (n p o i b c r : ℕ) → n ≡ p + o → p ≡ i → b ≡ suc i → o + c ≡ r → n + suc c ≡ b + r
      add n p o i b c r e q s u = omega (arith, e, q, s, u)
