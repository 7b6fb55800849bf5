-- What holds at the place where a loop is merged with the loops in its cells, and in the block around.
use Rattle.std.proofs.Common.{◌≡◌, ℕ, suc, ◌+◌, ◌*◌, ◌<◌, ◌≤◌, Bool, true, false, ◌&&◌, List, [], ◌∷◌, ◌++◌, map, length, take, drop, All, Option, ◌⊎◌, inl, inr, refl, sym, ap, subst, ◌∙◌, arith}
use Rattle.std.specs.Prelude.{zip, ℤ, pos, FitsSigned}
use mir.Syntax.{w32}
use Rattle.std.proofs.lemmas.List.{length-map, map-append, take-append-drop}
use Rattle.std.proofs.lemmas.List.Elements.{All-append, All-cons, All-nil}
use Rattle.sac_base.specs.declared.base.Base.{Base}
use Rattle.sac_base.specs.declared.base.Base.TheVariants.{Int}
use Rattle.sac_base.specs.declared.grid.Grid1.{Grid1}
use Rattle.sac_base.specs.Arrays.{MOST, size}
use Rattle.sac_base.specs.Grids.{has_vector}
use Rattle.sac_base.specs.Shapes.{IsExtent, IsShape}
use Rattle.core_ir.specs.declared.tree.Var.{Var}
use Rattle.core_ir.specs.declared.tree.PartedOp.TheVariants as parted
use Rattle.core_ir.specs.Binders.{is_in, bound_in, bound_in_parts}
use Rattle.core_ir.specs.Edits.{Ways, Edited, EditedRight, EditedGens, EditedParts, here, later, inside, in_then, in_else, in_test, in_body, in_gens, in_parts, this_gen, later_gen, this_part, later_part}
use Rattle.core_ir.specs.Meaning.{extents}
use Rattle.core_ir.specs.Scopes.{Scoped}
use Rattle.core_ir.specs.Terms.{BlockTerm, RightTerm, GensTerm, PartsTerm, LetTerm, CoreTerm, Gives, Bind, NoParts, Part, Parted, chain}
use Rattle.core_ir.specs.WellFormed.{Bases, BlockBases, Covered, Distinct, Fit, GroupBases, IsFrame, IsResultFrame, PartedFits, PartsBases, part_grids}
use Rattle.core_facts.specs.calls.Nests.{CallsAll}
use Rattle.core_facts.specs.Facts.{Facts}
use Rattle.core_loops.specs.Loops.{parted_in, parted_in_right, parted_in_gens, parted_in_parts, weight, weight_right, weight_gens, weight_parts}
use Rattle.core_loops.specs.Pairs.{Nests, count_parts}
use Rattle.core_loops.specs.Steps.{fact_ways}
use Rattle.core_loops.specs.merge_steps.Step.{InnerMerged, MergedParts, MergesHere}
use Rattle.core_loops.specs.norm_steps.Step.{BaseTable, Within, Follows}
use Rattle.core_forms.proofs.inlined_bodies.Names.{Names, same, both, distinct_left, distinct_right, Fresh}
use Rattle.core_forms.specs.norm.Fresh.{IsBetween}
use Rattle.core_forms.proofs.norm.Below.{OldBases, all_new, moved}
use Rattle.core_forms.proofs.norm.Laws.{all_by, fresh_from, names_below, rises}
use Rattle.core_forms.proofs.norm.Places.{all_member}
use Rattle.core_forms.proofs.norm.Tables.{Low}
use Rattle.core_forms.proofs.norm.Walking.{names_kept}
use Rattle.core_forms.proofs.norm.Weights.{first_falls, second_falls}
use Rattle.core_forms.specs.merge.Fresh.{MergesFresh}
use Rattle.core_forms.specs.merge.Laws.{joined_grids}
use Rattle.core_forms.proofs.merge.Grids.{joined_fit, split_has}
use Rattle.core_forms.proofs.merge.Places.{grids_append, merged_parted, merged_parts_bases, merged_parts_calls, merged_parts_scoped, merged_weight}

-- ---- the joined frame

all_parts : (P : ℤ → Type 0) (n : ℕ) (x : List ℤ) → All P (take n x) → All P (drop n x) → All P x
all_parts P n x h k = subst (All P) (take-append-drop n x) (All-append P (take n x) (drop n x) h k)

both_true : (a b : Bool) → (a && b) ≡ true → (a ≡ true) × (b ≡ true)
both_true true b h = (refl, h)
both_true false b h = absurd (cc)

pub joined_frame :
    (f g : List Grid1) (cell : List ℕ) → IsFrame f → IsResultFrame f cell → IsFrame g → IsResultFrame g [] → extents g ≡ cell → IsFrame (f ++ g) × IsResultFrame (f ++ g) []
joined_frame f g cell a r b s e = (
  record {
    rank = short;
    dense = All-append (λ (x : Grid1). x.step ≡ pos 1) f g a.dense b.dense;
    most = subst (λ (ns : List ℕ). size ns ≤ MOST) (sym shape) r.most;
    words = λ x h.
        let w = both_true (has_vector f (take (length f) x)) (has_vector g (drop (length f) x)) (sym (split_has f g x) ∙ h) in
        all_parts (FitsSigned w32) (length f) x (a.words (take (length f) x) w.0) (b.words (drop (length f) x) w.1);
  },
  record {
    low = All-append (λ (x : Grid1). x.lo ≡ pos 0) f g r.low s.low;
    high = All-append (λ (x : Grid1). IsExtent x.hi) f g r.high s.high;
    shape = subst IsShape (sym whole) r.shape;
    most = subst (λ (ns : List ℕ). size ns ≤ MOST) (sym whole) r.most;
  },
)
  where
    shape : extents (f ++ g) ≡ extents f ++ cell
    shape = map-append _ f g ∙ ap (λ ns. extents f ++ ns) e

    append_nothing : (ns : List ℕ) → ns ++ [] ≡ ns
    append_nothing [] = refl
    append_nothing (n ∷ ns) = λ i. n ∷ append_nothing ns i

    whole : extents (f ++ g) ++ [] ≡ extents f ++ cell
    whole = append_nothing (extents (f ++ g)) ∙ shape

    short : length (f ++ g) ≤ 8
    short = let rank = r.shape.rank in let l : length (extents f ++ cell) ≡ length (f ++ g) = ap length (sym shape) ∙ length-map (f ++ g) _ in omega (arith, l, rank)

-- ---- the grids of inner loops

module _ (called : ℕ → List (Option (List ℕ))) (k : Facts) (f : List Grid1) (base : Base) where
  abbrev pairs : (old : PartsTerm) (count : ℕ) → Nests called k f base old count → List (List Grid1 × List (List Grid1))
  pairs NoParts count w = []
  pairs (Part h b rest) count w = (h.grid, part_grids w.0) ∷ pairs rest w.1.0 w.1.1.1

  outer_grids : (old : PartsTerm) (count : ℕ) (w : Nests called k f base old count) → map (λ (p : List Grid1 × List (List Grid1)). p.0) (pairs old count w) ≡ part_grids old
  outer_grids NoParts count w = refl
  outer_grids (Part h b rest) count w = λ i. h.grid ∷ outer_grids rest w.1.0 w.1.1.1 i

  pieces_grids : (h : Rattle.core_ir.specs.Terms.PartHead) (before after : List LetTerm) (inner pieces : PartsTerm) → InnerMerged h before after inner pieces → part_grids pieces ≡ map (λ (g : List Grid1). h.grid ++ g) (part_grids inner)
  pieces_grids h before after NoParts pieces m = ap part_grids m
  pieces_grids h before after (Part g c rest) NoParts m = absurd m
  pieces_grids h before after (Part g c rest) (Part j d pieces) m = λ i. m.0 i ∷ pieces_grids h before after rest pieces m.3 i

  merged_grids : (old : PartsTerm) (count : ℕ) (w : Nests called k f base old count) (new : PartsTerm) → MergedParts called k f base old count w new → part_grids new ≡ joined_grids (pairs old count w)
  merged_grids NoParts count w new m = ap part_grids m
  merged_grids (Part h b rest) count w new m =
      let y = m.1.1 in
      let n = w.1.1.0 in
      ap part_grids y.0 ∙ grids_append m.0 m.1.0 ∙ (λ i. pieces_grids h n.before n.after w.0 m.0 y.2 i ++ merged_grids rest w.1.0 w.1.1.1 m.1.0 y.3 i)

  right_behind : (core : CoreTerm) (ls : List LetTerm) (X : BlockTerm) (g : Bases) (ts : List Base) → BlockBases core g (chain ls X) ts → (q : Bases) × BlockBases core q X ts
  right_behind core [] X g ts m = (g, m)
  right_behind core (l ∷ ls) X g ts m = right_behind core ls X (zip l.targets m.0 ++ g) ts m.1.2

  abbrev Inner : PartsTerm → Type 0
  Inner inner = PartedFits parted.Genarray f [] (part_grids inner)

  inner_fits : (core : CoreTerm) (g : Bases) (old : PartsTerm) (count : ℕ) (w : Nests called k f base old count) → PartsBases core g old base
      → ((count_parts old ≡ 0) ⊎ ((inner : PartsTerm) × Inner inner)) × All (λ (p : List Grid1 × List (List Grid1)). Fit f p.1 × Covered f p.1) (pairs old count w)
  inner_fits core g NoParts count w d = (inl refl, All-nil (λ (p : List Grid1 × List (List Grid1)). Fit f p.1 × Covered f p.1))
  inner_fits core g (Part h b rest) count w d =
      let n = w.1.1.0 in
      let X = Bind (n.z ∷ []) n.site (Parted f base [] parted.Genarray w.0) (chain n.after (Gives (n.z ∷ []))) in
      let q = right_behind core n.before X ((h.index, Int) ∷ g) (base ∷ []) (subst (λ (x : BlockTerm). BlockBases core ((h.index, Int) ∷ g) x (base ∷ [])) n.whole d.0) in
      let fits : Inner w.0 = q.1.1.0.2 in
      let r = inner_fits core g rest w.1.0 w.1.1.1 d.1 in
      (inr (w.0, fits), All-cons (λ (p : List Grid1 × List (List Grid1)). Fit f p.1 × Covered f p.1) (h.grid, part_grids w.0) (pairs rest w.1.0 w.1.1.1) (fits.1, fits.2) r.1)

-- ---- at the place

module _ (called : ℕ → List (Option (List ℕ))) (low high : ℕ) (k : Facts) (b c : BlockTerm) (fresh : MergesFresh called low high k b c) where
  abbrev step : MergesHere called low k b c
  step = fresh.step

  abbrev frame : List Grid1
  frame = step.scalarisable.frame

  abbrev old_right : RightTerm
  old_right = Parted step.frame step.base step.cell parted.Genarray step.old

  abbrev new_right : RightTerm
  new_right = Parted (step.frame ++ frame) step.base [] parted.Genarray step.new

  in_new : (y : Var) → is_in y (bound_in_parts step.new) ≡ true → (low ≤ y.0) × (y.0 < high)
  in_new y h = all_member (IsBetween low high) (bound_in_parts step.new) y fresh.between h

  pub place_names : Names (bound_in b) (bound_in c) low high
  place_names =
      let xs = step.target ∷ [] in
      subst (λ (x : BlockTerm). Names (bound_in x) (bound_in c) low high) (sym step.before)
      (subst (λ (x : BlockTerm). Names (bound_in (Bind xs step.site old_right step.rest)) (bound_in x) low high) (sym step.after)
      (both xs (bound_in_parts step.old ++ bound_in step.rest) xs (bound_in_parts step.new ++ bound_in step.rest) low low high (omega arith) fresh.rises (same xs low low)
      (both (bound_in_parts step.old) (bound_in step.rest) (bound_in_parts step.new) (bound_in step.rest) low high high fresh.rises (omega arith)
      (record { within = λ y h. inr (in_new y h); once = λ d f. fresh.once })
      (same (bound_in step.rest) high high))))

  pub place_scoped : (scope : List Var) → Scoped scope b → Fresh scope low → Fresh (bound_in b) low → Scoped scope c
  place_scoped scope s f d =
      let old : Scoped scope (Bind (step.target ∷ []) step.site old_right step.rest) = subst (Scoped scope) step.before s in
      subst (Scoped scope) (sym step.after) (
        (
          tt,
          merged_parts_scoped called k frame step.base scope step.old step.scalarisable.count step.scalarisable.nests step.new step.parts old.0.1 fresh.once (λ y h. f y (in_new y h).0),
        ),
        old.1,
        old.2,
      )

  pub place_calls : (P : ℕ → Type 0) → CallsAll P b → CallsAll P c
  place_calls P h =
      let old : CallsAll P (Bind (step.target ∷ []) step.site old_right step.rest) = subst (CallsAll P) step.before h in
      subst (CallsAll P) (sym step.after) (merged_parts_calls called k frame step.base P step.old step.scalarisable.count step.scalarisable.nests step.new step.parts old.0, old.1)

  pub place_weight : weight c ≡ weight b
  place_weight =
      ap weight step.after ∙ (λ i. merged_weight called k frame step.base step.old step.scalarisable.count step.scalarisable.nests step.new step.parts i + weight step.rest) ∙ sym (ap weight step.before)

  pub place_parted : parted_in c < parted_in b
  place_parted =
      let sum = merged_parted called k frame step.base step.old step.scalarisable.count step.scalarisable.nests step.new step.parts in
      let some = step.scalarisable.some in
      less (parted_in c) (parted_in b) (parted_in_parts step.new) (parted_in_parts step.old) (count_parts step.old) (parted_in step.rest) (ap parted_in step.after) (ap parted_in step.before) sum some
    where
      less : (x y n o c r : ℕ) → x ≡ suc n + r → y ≡ suc o + r → n + c ≡ o → 0 < c → x < y
      less x y n o c r p q s l = omega (arith, p, q, s, l)

  module _ (core next : CoreTerm) (into : (group : ℕ) (us ts : List Base) → GroupBases core group us ts → GroupBases next group us ts) (t : BaseTable) where
    fits_after : (g : Bases) → PartsBases core g step.old step.base → PartedFits parted.Genarray step.frame step.cell (part_grids step.old) → PartedFits parted.Genarray (step.frame ++ frame) [] (part_grids step.new)
    fits_after g d m =
        let w = step.scalarisable.nests in
        let ps = pairs called k frame step.base step.old step.scalarisable.count w in
        let r = inner_fits called k frame step.base core g step.old step.scalarisable.count w d in
        let outer = outer_grids called k frame step.base step.old step.scalarisable.count w in
        let fit = joined_fit step.frame frame ps (subst (Fit step.frame) (sym outer) m.1) (subst (Covered step.frame) (sym outer) m.2) r.1 in
        let grids = merged_grids called k frame step.base step.old step.scalarisable.count w step.new step.parts in
        let one = inner_one r.0 in
        let whole = joined_frame step.frame frame step.cell m.0 m.3 one.1.0 one.1.3 step.scalarisable.shape in
        (whole.0, subst (Fit (step.frame ++ frame)) (sym grids) fit.0, subst (Covered (step.frame ++ frame)) (sym grids) fit.1, whole.1)
      where
        inner_one : (count_parts step.old ≡ 0) ⊎ ((inner : PartsTerm) × Inner called k frame step.base inner) → (inner : PartsTerm) × Inner called k frame step.base inner
        inner_one (inl none) = absurd (let some = step.scalarisable.some in omega (arith, none, some))
        inner_one (inr one) = one

    new_based :
        (g : Bases) (ts : List Base) → (d : BlockBases core g (Bind (step.target ∷ []) step.site old_right step.rest) ts) → Within t g → Follows core t (Bind (step.target ∷ []) step.site old_right step.rest) g ts d → Low g low →
        Distinct (bound_in (Bind (step.target ∷ []) step.site old_right step.rest)) → (e : BlockBases next g (Bind (step.target ∷ []) step.site new_right step.rest) ts) × OldBases next 0 t (Bind (step.target ∷ []) step.site new_right step.rest) g ts e
    new_based g ts d w f l o =
        let parts =
        merged_parts_bases called k frame step.base core next into t g w step.old step.scalarisable.count step.scalarisable.nests step.new step.parts fresh.alike d.1.0.1 f.1
        (distinct_left (bound_in_parts step.old) (bound_in step.rest) (distinct_right (step.target ∷ []) (bound_in_parts step.old ++ bound_in step.rest) o)) fresh.once (λ y h. l y (in_new y h).0) fresh.axes in
        let rest = moved 0 t core next into step.rest (zip (step.target ∷ []) d.0 ++ g) ts d.1.2 f.2 in
        let e : BlockBases next g (Bind (step.target ∷ []) step.site new_right step.rest) ts = (d.0, ((tt, parts, fits_after g d.1.0.1 d.1.0.2, d.1.0.3), d.1.1, rest.0)) in
        (e, all_new 0 t next (Bind (step.target ∷ []) step.site new_right step.rest) g ts e (λ y h. omega arith))

    pub place_bases :
        (g : Bases) (ts : List Base) → (d : BlockBases core g b ts) → Within t g → Follows core t b g ts d → Low g low → Fresh (bound_in b) low → Distinct (bound_in b) →
        (e : BlockBases next g c ts) × OldBases next 0 t c g ts e
    place_bases g ts =
        subst (λ (x : BlockTerm). (d : BlockBases core g x ts) → Within t g → Follows core t x g ts d → Low g low → Fresh (bound_in x) low → Distinct (bound_in x) → (e : BlockBases next g c ts) × OldBases next 0 t c g ts e) (sym step.before)
        (λ d w f l v o. subst (λ (x : BlockTerm). (e : BlockBases next g x ts) × OldBases next 0 t x g ts e) (sym step.after) (new_based g ts d w f l o))

-- ---- a place in a block

next_falls : (a b : ℕ) → a < b → suc a < suc b
next_falls a b h = omega arith

module _ (F : Type 0) (ways : Ways F) (Rule : F → BlockTerm → BlockTerm → Type 0) where
  module _ (rule : (k : F) (b c : BlockTerm) → Rule k b c → parted_in c < parted_in b) where
    mutual
      falls : {k : F} {b c : BlockTerm} → Edited F ways Rule k b c → parted_in c < parted_in b
      falls (here {known = k} {b = b} {c = c} h) = rule k b c h
      falls (later {r = r} {b = b} {c = c} h) = second_falls (parted_in c) (parted_in b) (parted_in_right r) (falls h)
      falls (inside {r = r} {q = q} {b = b} h) = first_falls (parted_in_right q) (parted_in_right r) (parted_in b) (falls_right h)

      falls_right : {k : F} {r q : RightTerm} → EditedRight F ways Rule k r q → parted_in_right q < parted_in_right r
      falls_right (in_then {a = a} {b = b} {c = c} h) = first_falls (parted_in c) (parted_in a) (parted_in b) (falls h)
      falls_right (in_else {a = a} {b = b} {c = c} h) = second_falls (parted_in c) (parted_in b) (parted_in a) (falls h)
      falls_right (in_test {a = a} {b = b} {c = c} h) = first_falls (parted_in c) (parted_in a) (parted_in b) (falls h)
      falls_right (in_body {a = a} {b = b} {c = c} h) = second_falls (parted_in c) (parted_in b) (parted_in a) (falls h)
      falls_right (in_gens h) = falls_gens h
      falls_right (in_parts {p = p} {q = q} h) = next_falls (parted_in_parts q) (parted_in_parts p) (falls_parts h)

      falls_gens : {k : F} {g c : GensTerm} → EditedGens F ways Rule k g c → parted_in_gens c < parted_in_gens g
      falls_gens (this_gen {b = b} {c = c} {rest = rest} h) = first_falls (parted_in c) (parted_in b) (parted_in_gens rest) (falls h)
      falls_gens (later_gen {b = b} {g = g} {k = k} h) = second_falls (parted_in_gens k) (parted_in_gens g) (parted_in b) (falls_gens h)

      falls_parts : {k : F} {p q : PartsTerm} → EditedParts F ways Rule k p q → parted_in_parts q < parted_in_parts p
      falls_parts (this_part {b = b} {c = c} {rest = rest} h) = first_falls (parted_in c) (parted_in b) (parted_in_parts rest) (falls h)
      falls_parts (later_part {b = b} {p = p} {q = q} h) = second_falls (parted_in_parts q) (parted_in_parts p) (parted_in b) (falls_parts h)

  module _ (rule : (k : F) (b c : BlockTerm) → Rule k b c → weight c ≡ weight b) where
    mutual
      stays : {k : F} {b c : BlockTerm} → Edited F ways Rule k b c → weight c ≡ weight b
      stays (here {known = k} {b = b} {c = c} h) = rule k b c h
      stays (later {r = r} h) = λ i. weight_right r + stays h i
      stays (inside {b = b} h) = λ i. stays_right h i + weight b

      stays_right : {k : F} {r q : RightTerm} → EditedRight F ways Rule k r q → weight_right q ≡ weight_right r
      stays_right (in_then {b = b} h) = λ i. stays h i + weight b
      stays_right (in_else {a = a} h) = λ i. weight a + stays h i
      stays_right (in_test {b = b} h) = λ i. stays h i + weight b
      stays_right (in_body {a = a} h) = λ i. weight a + stays h i
      stays_right (in_gens h) = ap (λ n. 1 + 65 * n) (stays_gens h)
      stays_right (in_parts h) = stays_parts h

      stays_gens : {k : F} {g c : GensTerm} → EditedGens F ways Rule k g c → weight_gens c ≡ weight_gens g
      stays_gens (this_gen {rest = rest} h) = λ i. stays h i + weight_gens rest
      stays_gens (later_gen {b = b} h) = λ i. weight b + stays_gens h i

      stays_parts : {k : F} {p q : PartsTerm} → EditedParts F ways Rule k p q → weight_parts q ≡ weight_parts p
      stays_parts (this_part {rest = rest} h) = λ i. stays h i + weight_parts rest
      stays_parts (later_part {b = b} h) = λ i. weight b + stays_parts h i

module _ (calls : ℕ → List (Option (List ℕ))) (low high : ℕ) (k : Facts) (b c : BlockTerm) (h : Edited Facts (fact_ways calls) (MergesFresh calls low high) k b c) where
  pub fewer : (weight c ≡ weight b) × (parted_in c < parted_in b)
  fewer = (stays Facts (fact_ways calls) (MergesFresh calls low high) (λ k b c r. place_weight calls low high k b c r) h, falls Facts (fact_ways calls) (MergesFresh calls low high) (λ k b c r. place_parted calls low high k b c r) h)

  pub still_rises : low ≤ high
  still_rises = rises Facts (fact_ways calls) (MergesFresh calls low high) low high (λ k b c r. r.rises) h

  pub names_after : Names (bound_in b) (bound_in c) low high
  names_after = names_kept Facts (fact_ways calls) (MergesFresh calls low high) low high still_rises (λ k b c r. place_names calls low high k b c r) h

pub still_distinct :
    (calls : ℕ → List (Option (List ℕ))) (low high : ℕ) (k : Facts) (b c : BlockTerm) → Edited Facts (fact_ways calls) (MergesFresh calls low high) k b c →
    Distinct (bound_in b) → All (λ (x : Var). x.0 < low) (bound_in b) → Distinct (bound_in c) × All (λ (x : Var). x.0 < high) (bound_in c)
still_distinct calls low high k b c h d a =
    let n = names_after calls low high k b c h in
    let f = fresh_from low (bound_in b) a in
    (n.once d f, all_by high (bound_in c) (names_below (bound_in b) (bound_in c) low high (still_rises calls low high k b c h) n f))
