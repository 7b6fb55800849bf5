-- A with-loop that a walk replaced becomes a parted loop with new variables, in the sense of the laws of such steps.
use Rattle.std.proofs.Common.{◌≡◌, ℕ, suc, ◌+◌, ◌<◌, ◌≤◌, Bool, true, false, cond, List, [], ◌∷◌, ◌++◌, map, length, All, Option, Some, None, refl, sym, ap, subst, ◌∙◌, ◌⊎◌, inl, inr, arith, ℤ}
use Rattle.std.specs.Prelude.{filter, is_some, slice_get}
use Rattle.std.specs.List.{list_any}
use Rattle.std.proofs.lemmas.List.{length-map}
use Rattle.sac_base.specs.declared.base.Base.{Base}
use Rattle.sac_base.specs.declared.grid.Grid1.{Grid1}
use Rattle.sac_base.specs.declared.op.Op.{Op}
use Rattle.sac_base.specs.declared.site.Site.{Site}
use Rattle.sac_base.specs.Grids.{SplitsVectors, has_vector, times_vector}
use Rattle.core_ir.specs.declared.tree.Var.{Var}
use Rattle.core_ir.specs.declared.tree.CoreOp.{CoreOp}
use Rattle.core_ir.specs.declared.tree.CoreOp.TheVariants as making
use Rattle.core_ir.specs.declared.tree.PartedOp.TheVariants as parted
use Rattle.core_ir.specs.Binders.{is_in, bound_in, bound_in_gens, bound_in_parts}
use Rattle.core_ir.specs.Scopes.{Scoped, ScopedRight, ScopedGens}
use Rattle.core_ir.specs.Terms.{BlockTerm, RightTerm, GensTerm, PartsTerm, GenTerm, Bind, With, Parted, gens_of, parts_of}
use Rattle.core_ir.specs.WellFormed.{Distinct, Fit, PartedFits}
use Rattle.core_facts.specs.Facts.{Facts}
use Rattle.core_forms.proofs.inlined_bodies.Names.{distinct_left, distinct_right}
use Rattle.core_loops.specs.norm.Norm.{NameFirst}
use Rattle.core_loops.specs.norm_steps.Step.{BaseTable}
use Rattle.core_loops.specs.norm_steps.Genarray.{LabelledParts, count_gens}
use Rattle.core_loops.specs.norm_steps.Modarray.{OldLabelled}
use Rattle.core_loops.specs.norm_steps.Fold.{FoldLabelled}
use Rattle.core_forms.specs.norm.Alike.{LabelledAlike}
use Rattle.core_forms.specs.norm.Copied.{IsPlaced}
use Rattle.core_forms.specs.norm.Fresh.{FreshHere, IsBetween, count_parts}
use Rattle.core_forms.proofs.norm.Grids.{splits_fit, splits_cover, some_fit}
use Rattle.core_forms.proofs.norm.Named.{in_order}
use Rattle.core_forms.proofs.norm.Places.{all_member}
use Rattle.partable_loops.specs.declared.planning.PartPlan.{PartPlan}
use Rattle.partable_loops.specs.Counted.{generator_count}
use Rattle.partable_loops.specs.Planned.{AllNamed, Label, IsPlan, needed_parts}
use Rattle.parted_bodies.specs.declared.names.Progress.{Progress}
use Rattle.parted_bodies.specs.Making.{base_var, binds_of, made_parts, parted_op}
use Rattle.norm_walk.specs.Replacing.{ReplacedAt, ReplacedHere}
use Rattle.with_norm.proofs.Parts.{kept, made_kept, kept_times, kept_names, kept_any, filter_most, made_count, made_order, gens_count, genarray_made, modarray_made, fold_made, genarray_grids, modarray_grids, fold_grids}

counted : (gens : List GenTerm) → generator_count (gens_of gens) ≡ length gens
counted [] = refl
counted (g ∷ gens) = ap suc (counted gens)

same_counts : (gens : GensTerm) → generator_count gens ≡ count_gens gens
same_counts Rattle.core_ir.specs.Terms.NoGens = refl
same_counts (Rattle.core_ir.specs.Terms.Gen h b rest) = ap suc (same_counts rest)

trans_le : (a b c : ℕ) → a ≤ b → b ≤ c → a ≤ c
trans_le a b c p q = omega (arith, p, q)

itself_le : (n : ℕ) → n ≤ n
itself_le n = omega arith

more_le : (n k m : ℕ) → m ≡ n + k → n ≤ m
more_le n k m e = omega (arith, e)

-- the grids of labels
abbrev grids_of : List Label → List (List Grid1)
grids_of labels = map (λ (p : Label). p.0) labels

-- the grids that stay of those that some generator has
abbrev held : List Label → List Label
held labels = filter (λ (p : Label). is_some p.1) labels

abbrev stays : List GenTerm → Label → Bool
stays gens (grid, None) = false
stays gens (grid, Some m) = is_some (slice_get gens m)

kept_held : (gens : List GenTerm) (labels : List Label) → filter (stays gens) labels ≡ kept gens (held labels)
kept_held gens [] = refl
kept_held gens ((grid, None) ∷ ps) = kept_held gens ps
kept_held gens ((grid, Some m) ∷ ps) = λ i. cond (is_some (slice_get gens m)) ((grid, Some m) ∷ kept_held gens ps i) (kept_held gens ps i)

-- ---- what all operations share

module _ (low : ℕ) (scope : List Var) (k : Facts) (s : Site) (op : CoreOp) (gens : List GenTerm) (base : Base) (plan : PartPlan) (h : IsPlan k low s op (gens_of gens) base plan) where
  abbrev items : List Label
  items = plan.parts.items

  abbrev some_left : List Label
  some_left = kept gens items

  abbrev parts : PartsTerm
  parts = parts_of (made_parts op s gens some_left low)

  grids_count : length h.partable.grids ≡ length gens
  grids_count = sym (length-map h.partable.grids _) ∙ ap length h.partable.cut ∙ h.count ∙ counted gens

  count_is : length h.partable.planned.ranges ≡ count_gens (gens_of gens)
  count_is = h.count ∙ same_counts (gens_of gens)

  times_is : (v : List ℤ) → times_vector (grids_of some_left) v ≡ times_vector (grids_of items) v
  times_is v = kept_times h.partable.grids gens grids_count items v h.first

  first_is : NameFirst h.partable.grids some_left
  first_is = kept_names h.partable.grids gens grids_count items h.first

  needed_most : (o : CoreOp) (labels : List Label) → length (needed_parts o labels) ≤ length labels
  needed_most (making.Genarray x y) labels = itself_le (length labels)
  needed_most (making.Modarray x) labels = itself_le (length labels)
  needed_most (making.Fold o x) labels = filter_most (λ (p : Label). is_some p.1) labels

  few_is : count_parts parts ≤ 64
  few_is =
      let all = made_count op s gens some_left low in
      let left = filter_most (Rattle.with_norm.proofs.Parts.stands gens) items in
      let most : length items ≤ length h.labels = subst (λ ps. length ps ≤ length h.labels) (sym h.needed) (needed_most op h.labels) in
      let small = h.few in
      trans_le (count_parts parts) (length some_left) 64 all (trans_le (length some_left) (length items) 64 left (trans_le (length items) (length h.labels) 64 most small))

  -- the parts bind numbers in order
  module _ (scoped : ScopedGens scope (gens_of gens)) (once : Distinct (bound_in_gens (gens_of gens))) where
    order : Distinct (bound_in_parts parts) × All (IsBetween low (low + length (bound_in_parts parts))) (bound_in_parts parts)
    order = in_order low (bound_in_parts parts) (made_order scope op s gens scoped once some_left low)

-- ---- at the place

module _ (m : BaseTable) (first : ℕ) (bases : Var → Option Base) (tells : (x : Var) (t : Base) → bases x ≡ Some t → m x ≡ t) (p q : Progress) (k : Facts) (targets : List Var) (s : Site) (gens : List GenTerm) (right : RightTerm) (rest b c : BlockTerm) (scope : List Var) (placed : IsPlaced p.next scope b) where
  abbrev low : ℕ
  low = p.next

  module _ (op : CoreOp) (at : ReplacedAt bases first p q k s op gens right) (before : b ≡ Bind targets s (With op (gens_of gens)) rest) (after : c ≡ Bind targets s right rest) where
    scoped_right : ScopedRight scope (With op (gens_of gens))
    scoped_right = (subst (Scoped scope) before placed.scoped).0

    gens_once : Distinct (bound_in_gens (gens_of gens))
    gens_once =
        distinct_left (bound_in_gens (gens_of gens)) (bound_in rest)
        (distinct_right targets (bound_in_gens (gens_of gens) ++ bound_in rest) (subst (λ (x : BlockTerm). Distinct (bound_in x)) before placed.once))

    small : (x : Var) → is_in x scope ≡ true → x.0 < low
    small x h = all_member (λ (x : Var). x.0 < low) scope x placed.scope_below h

    abbrev all_left : List Label
    all_left = kept gens at.plan.parts.items

    abbrev new_parts : PartsTerm
    new_parts = parts_of (made_parts op s gens all_left low)

    right_is : right ≡ Parted at.plan.frame at.base at.plan.cell (parted_op op) new_parts
    right_is = at.made ∙ (λ i. Parted at.plan.frame at.base at.plan.cell (parted_op op) (parts_of (made_kept op s gens at.plan.parts.items low i)))

    after_is : c ≡ Bind targets s (Parted at.plan.frame at.base at.plan.cell (parted_op op) new_parts) rest
    after_is = after ∙ ap (λ (r : RightTerm). Bind targets s r rest) right_is

    high_is : q.next ≡ low + length (bound_in_parts new_parts)
    high_is = ap (λ (r : Progress). r.next) at.after ∙ (λ i. low + binds_of (made_kept op s gens at.plan.parts.items low i))

    table_is : at.base ≡ m (base_var op)
    table_is = sym (tells (base_var op) at.base at.known)

    -- once more than the labels say it is a step
    module _ (h : IsPlan k low s op (gens_of gens) at.base at.plan) where
      between : Distinct (bound_in_parts new_parts) × All (IsBetween low q.next) (bound_in_parts new_parts)
      between =
          let both = order low scope k s op gens at.base at.plan h scoped_right.1 gens_once in
          (both.0, subst (λ (n : ℕ). All (IsBetween low n) (bound_in_parts new_parts)) (sym high_is) both.1)

      rises : low ≤ q.next
      rises = more_le low (length (bound_in_parts new_parts)) q.next high_is

      few : count_parts new_parts ≤ 64
      few = few_is low scope k s op gens at.base at.plan h

      splits : at.plan.parts.items ≡ h.labels → SplitsVectors (grids_of all_left) (has_vector at.plan.frame)
      splits e v = times_is low scope k s op gens at.base at.plan h v ∙ (λ i. times_vector (grids_of (e i)) v) ∙ h.splits v

      -- labels are as made, whether names fit or there are none
      by_names : (P : List Label → Type 0) → P [] → (AllNamed (length at.plan.frame) (gens_of gens) → P at.plan.parts.items) → (h.labels ≡ [] → at.plan.parts.items ≡ []) → P at.plan.parts.items
      by_names P none some empty = go h.names
        where
          go : AllNamed (length at.plan.frame) (gens_of gens) ⊎ (h.labels ≡ []) → P at.plan.parts.items
          go (inl named) = some named
          go (inr e) = subst P (sym (empty e)) none

  -- ---- a genarray

  pub fresh_genarray :
      (x y : Var) (at : ReplacedAt bases first p q k s (making.Genarray x y) gens right) → b ≡ Bind targets s (With (making.Genarray x y) (gens_of gens)) rest →
      c ≡ Bind targets s right rest → FreshHere first low q.next m k b c
  fresh_genarray x y at before after =
      let op = making.Genarray x y in
      let h = at.fits at.base in
      let is = h.plan_is in
      let scoped = scoped_right op at before after in
      let once = gens_once op at before after in
      let ks = all_left op at before after in
      let new = new_parts op at before after in
      let made = by_names op at before after is (λ ps. LabelledParts y (length at.plan.frame) (gens_of gens) (kept gens ps) (parts_of (made_parts op s gens (kept gens ps) low)) × LabelledAlike (gens_of gens) (kept gens ps) (parts_of (made_parts op s gens (kept gens ps) low)))
      (tt, tt)
      (λ named. genarray_made scope low placed.scope_below s gens scoped.1 once (length at.plan.frame) named x y (small op at before after y scoped.0.1.0) at.plan.parts.items low (itself_le low))
      (λ e. is.needed ∙ e) in
      let split = splits op at before after is is.needed in
      let apart = between op at before after is in
      record {
        step = record {
          targets = targets;
          site = s;
          op = op;
          gens = gens_of gens;
          right = Parted at.plan.frame at.base at.plan.cell parted.Genarray new;
          rest = rest;
          parted = (
            record {
              partable = is.partable;
              cell = at.plan.cell;
              known = h.known;
              form = is.form;
              whole = h.whole;
              count = count_is low scope k s op gens at.base at.plan is;
              labels = ks;
              cover = λ v e. times_is low scope k s op gens at.base at.plan is v ∙ h.cover v e;
              first = first_is low scope k s op gens at.base at.plan is;
              parts = new;
              labelled = subst (λ (f : List Grid1). LabelledParts y (length f) (gens_of gens) ks new) (sym is.frame_is) made.0;
              made = λ i. Parted (sym is.frame_is i) (sym is.base_is i) at.plan.cell parted.Genarray new;
            },
            is.base_is ∙ table_is op at before after,
          );
          before = before;
          after = after_is op at before after;
        };
        rises = rises op at before after is;
        known = at.old;
        once = apart.0;
        between = apart.1;
        alike = made.1;
        fits = subst (PartedFits parted.Genarray at.plan.frame at.plan.cell) (sym (genarray_grids y (length at.plan.frame) (gens_of gens) ks new made.0))
            (is.frame, splits_fit at.plan.frame (grids_of ks) split, splits_cover at.plan.frame (grids_of ks) split, is.result);
        few = few op at before after is;
      }

  -- ---- a modarray

  pub fresh_modarray :
      (x : Var) (at : ReplacedAt bases first p q k s (making.Modarray x) gens right) → b ≡ Bind targets s (With (making.Modarray x) (gens_of gens)) rest →
      c ≡ Bind targets s right rest → FreshHere first low q.next m k b c
  fresh_modarray x at before after =
      let op = making.Modarray x in
      let h = at.fits at.base in
      let is = h.plan_is in
      let scoped = scoped_right op at before after in
      let once = gens_once op at before after in
      let ks = all_left op at before after in
      let new = new_parts op at before after in
      let made = by_names op at before after is (λ ps. OldLabelled x (length at.plan.frame) (gens_of gens) (kept gens ps) (parts_of (made_parts op s gens (kept gens ps) low)) × LabelledAlike (gens_of gens) (kept gens ps) (parts_of (made_parts op s gens (kept gens ps) low)))
      (tt, tt)
      (λ named. modarray_made scope low placed.scope_below s gens scoped.1 once (length at.plan.frame) named x (small op at before after x scoped.0.0) at.plan.parts.items low (itself_le low))
      (λ e. is.needed ∙ e) in
      let split = splits op at before after is is.needed in
      let apart = between op at before after is in
      record {
        step = record {
          targets = targets;
          site = s;
          op = op;
          gens = gens_of gens;
          right = Parted at.plan.frame at.base at.plan.cell (parted.Modarray x) new;
          rest = rest;
          parted = (
            record {
              partable = is.partable;
              shape = h.shape;
              cell = at.plan.cell;
              known = h.known;
              form = is.form;
              whole = h.whole;
              count = count_is low scope k s op gens at.base at.plan is;
              old = h.old;
              labels = ks;
              cover = λ v e. times_is low scope k s op gens at.base at.plan is v ∙ h.cover v e;
              first = first_is low scope k s op gens at.base at.plan is;
              parts = new;
              labelled = subst (λ (f : List Grid1). OldLabelled x (length f) (gens_of gens) ks new) (sym is.frame_is) made.0;
              made = λ i. Parted (sym is.frame_is i) (sym is.base_is i) at.plan.cell (parted.Modarray x) new;
            },
            is.base_is ∙ table_is op at before after,
          );
          before = before;
          after = after_is op at before after;
        };
        rises = rises op at before after is;
        known = at.old;
        once = apart.0;
        between = apart.1;
        alike = made.1;
        fits = subst (PartedFits (parted.Modarray x) at.plan.frame at.plan.cell) (sym (modarray_grids x (length at.plan.frame) (gens_of gens) ks new made.0))
            (is.frame, splits_fit at.plan.frame (grids_of ks) split, splits_cover at.plan.frame (grids_of ks) split, is.result);
        few = few op at before after is;
      }

  -- ---- a fold

  pub fresh_fold :
      (o : Op) (x : Var) (at : ReplacedAt bases first p q k s (making.Fold o x) gens right) → b ≡ Bind targets s (With (making.Fold o x) (gens_of gens)) rest →
      c ≡ Bind targets s right rest → FreshHere first low q.next m k b c
  fresh_fold o x at before after =
      let op = making.Fold o x in
      let h = at.fits at.base in
      let is = h.plan_is in
      let scoped = scoped_right op at before after in
      let once = gens_once op at before after in
      let ks = all_left op at before after in
      let new = new_parts op at before after in
      let made = by_names op at before after is (λ ps. FoldLabelled (length at.plan.frame) (gens_of gens) (kept gens ps) (parts_of (made_parts op s gens (kept gens ps) low)) × LabelledAlike (gens_of gens) (kept gens ps) (parts_of (made_parts op s gens (kept gens ps) low)))
      (tt, tt)
      (λ named. subst (λ (ps : List Label). FoldLabelled (length at.plan.frame) (gens_of gens) (kept gens ps) (parts_of (made_parts op s gens (kept gens ps) low)) × LabelledAlike (gens_of gens) (kept gens ps) (parts_of (made_parts op s gens (kept gens ps) low)))
      (sym is.needed) (fold_made scope low placed.scope_below s gens scoped.1 once (length at.plan.frame) named o x is.labels low (itself_le low)))
      (λ e. is.needed ∙ ap held e) in
      let apart = between op at before after is in
      let fit = subst (λ (ps : List Label). Fit at.plan.frame (grids_of (kept gens ps))) (sym is.needed)
      (subst (λ (ps : List Label). Fit at.plan.frame (grids_of ps)) (kept_held gens is.labels) (some_fit at.plan.frame is.labels (stays gens) is.splits)) in
      record {
        step = record {
          targets = targets;
          site = s;
          op = op;
          gens = gens_of gens;
          right = Parted at.plan.frame at.base at.plan.cell (parted.Fold o x) new;
          rest = rest;
          parted = (
            record {
              partable = is.partable;
              cell = at.plan.cell;
              known = h.known;
              form = is.form;
              count = count_is low scope k s op gens at.base at.plan is;
              labels = ks;
              cover = λ v e. covered at is.partable.grids v (times_is low scope k s op gens at.base at.plan is v) (h.cover v e);
              first = first_is low scope k s op gens at.base at.plan is;
              parts = new;
              labelled = subst (λ (f : List Grid1). FoldLabelled (length f) (gens_of gens) ks new) (sym is.frame_is) made.0;
              made = λ i. Parted (sym is.frame_is i) (sym is.base_is i) at.plan.cell (parted.Fold o x) new;
            },
            is.base_is ∙ table_is op at before after,
          );
          before = before;
          after = after_is op at before after;
        };
        rises = rises op at before after is;
        known = at.old;
        once = apart.0;
        between = apart.1;
        alike = made.1;
        fits = subst (PartedFits (parted.Fold o x) at.plan.frame at.plan.cell) (sym (fold_grids (length at.plan.frame) (gens_of gens) ks new made.0)) (is.frame, fit);
        few = few op at before after is;
      }
    where
      covered :
          (at : ReplacedAt bases first p q k s (making.Fold o x) gens right) (grids : List (List Grid1)) (v : List ℤ) → times_vector (grids_of (kept gens at.plan.parts.items)) v ≡ times_vector (grids_of at.plan.parts.items) v →
          (times_vector (grids_of at.plan.parts.items) v ≡ 1) ⊎ ((list_any (λ g. has_vector g v) grids ≡ false) × (list_any (λ (p : Label). has_vector p.0 v) at.plan.parts.items ≡ false)) →
          (times_vector (grids_of (kept gens at.plan.parts.items)) v ≡ 1) ⊎ ((list_any (λ g. has_vector g v) grids ≡ false) × (list_any (λ (p : Label). has_vector p.0 v) (kept gens at.plan.parts.items) ≡ false))
      covered at grids v same (inl one) = inl (same ∙ one)
      covered at grids v same (inr none) = inr (none.0, kept_any gens at.plan.parts.items v none.1)

-- ---- a with-loop of any operation

module _ (m : BaseTable) (first : ℕ) (bases : Var → Option Base) (tells : (x : Var) (t : Base) → bases x ≡ Some t → m x ≡ t) where
  pub fresh_here : (p q : Progress) (k : Facts) (b c : BlockTerm) → ReplacedHere bases first p q k b c → (scope : List Var) → IsPlaced p.next scope b → FreshHere first p.next q.next m k b c
  fresh_here p q k b c h scope placed = go h.op h.at h.before
    where
      go : (op : CoreOp) → ReplacedAt bases first p q k h.site op h.gens h.right → b ≡ Bind h.targets h.site (With op (gens_of h.gens)) h.rest → FreshHere first p.next q.next m k b c
      go (making.Genarray x y) at before = fresh_genarray m first bases tells p q k h.targets h.site h.gens h.right h.rest b c scope placed x y at before h.now
      go (making.Modarray x) at before = fresh_modarray m first bases tells p q k h.targets h.site h.gens h.right h.rest b c scope placed x at before h.now
      go (making.Fold o x) at before = fresh_fold m first bases tells p q k h.targets h.site h.gens h.right h.rest b c scope placed o x at before h.now
