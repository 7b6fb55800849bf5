-- A loop that is merged by a plan is merged with new variables.
use Rattle.std.proofs.Common.{◌≡◌, ℕ, ◌+◌, ◌<◌, ◌≤◌, true, List, [], ◌∷◌, ◌++◌, length, All, Option, sym, subst, arith}
use Rattle.std.proofs.lemmas.List.Elements.{All-cons, All-nil}
use Rattle.sac_base.specs.declared.base.Base.{Base}
use Rattle.sac_base.specs.declared.grid.Grid1.{Grid1}
use Rattle.core_ir.specs.declared.tree.Var.{Var}
use Rattle.core_ir.specs.declared.tree.PartedOp.TheVariants as parted
use Rattle.core_ir.specs.Binders.{is_in, bound_in, bound_in_parts}
use Rattle.core_ir.specs.Terms.{BlockTerm, PartTerm, Bind, Parted, parts_of}
use Rattle.core_facts.specs.Facts.{Facts, in_part}
use Rattle.core_loops.specs.Indices.{own_index}
use Rattle.core_loops.specs.Pairs.{Nests}
use Rattle.core_forms.specs.merge.Fresh.{MergesFresh}
use Rattle.core_forms.proofs.inlined_bodies.Names.{behind_first, distinct_left, in_left}
use Rattle.core_forms.specs.norm.Copied.{IsPlaced}
use Rattle.core_forms.specs.norm.Fresh.{IsBetween}
use Rattle.core_forms.proofs.norm.Named.{in_order}
use Rattle.core_forms.proofs.norm.Places.{all_member}
use Rattle.parted_bodies.specs.Making.{binds_of}
use Rattle.merge_plans.specs.Mergeable.{GridsFit, IsMergeable}
use Rattle.merge_plans.proofs.Opens.{nest_opens}
use Rattle.merged_parts.specs.Merging.{merged_all, OpenedFits, PartFits}
use Rattle.merge_walk.specs.planned_merges.Planned.{MergesPlanned}
use Rattle.merge_walk.proofs.planned_merges.Merged.{all_merged, all_small}

pub fresh : (called : ℕ → List (Option (List ℕ))) (low high : ℕ) (k : Facts) (b c : BlockTerm) → MergesPlanned called low high k b c → (scope : List Var) → IsPlaced low scope b → MergesFresh called low high k b c
fresh called low high k b c m scope p =
    let w = m.mergeable.scalarisable in
    let loop = Bind (m.target ∷ []) m.site (Parted m.frame m.base m.cell parted.Genarray (parts_of m.old)) m.rest in
    let here : IsPlaced low scope loop = subst (IsPlaced low scope) m.before p in
    let old = bound_in_parts (parts_of m.old) in
    let below : (y : Var) → is_in y old ≡ true → y.0 < low =
    λ y h. all_member (λ (x : Var). x.0 < low) (bound_in loop) y here.bound_below (behind_first y m.target (old ++ bound_in m.rest) (in_left y old (bound_in m.rest) h)) in
    let made = all_merged called k w.frame m.base low scope (λ y h. all_member (λ (x : Var). x.0 < low) scope y here.scope_below h) m.old low (same low) here.scoped.0.1
    (distinct_left old (bound_in m.rest) here.once.1) below w.count w.nests in
    let numbers = in_order low (bound_in_parts (parts_of (merged_all m.old low))) made.order in
    record {
      step = record {
        target = m.target;
        site = m.site;
        frame = m.frame;
        base = m.base;
        cell = m.cell;
        old = parts_of m.old;
        new = parts_of (merged_all m.old low);
        rest = m.rest;
        scalarisable = w;
        parts = made.parts;
        before = m.before;
        after = m.after;
      };
      rises = subst (λ n. low ≤ n) (sym m.next) (more low (binds_of (merged_all m.old low)));
      once = numbers.0;
      between = subst (λ n. All (IsBetween low n) (bound_in_parts (parts_of (merged_all m.old low)))) (sym m.next) numbers.1;
      axes = all_small called k w.frame m.base low scope (λ y h. all_member (λ (x : Var). x.0 < low) scope y here.scope_below h) m.old low w.count w.nests m.mergeable.grids;
      alike = made.alike;
    }
  where
    same : (n : ℕ) → n ≤ n
    same n = omega arith

    more : (n d : ℕ) → n ≤ n + d
    more n d = omega arith

module _ (called : ℕ → List (Option (List ℕ))) (k : Facts) (frame : List Grid1) (base : Base) where
  nests_fit : (ps : List PartTerm) (count : ℕ) → (w : Nests called k frame base (parts_of ps) count) → GridsFit called k frame base (parts_of ps) count w → All PartFits ps
  nests_fit [] count w g = All-nil PartFits
  nests_fit (p ∷ ps) count w g =
      All-cons PartFits p ps
      (subst (OpenedFits p.head.grid) (sym (nest_opens called (in_part k p.head) p.head.grid (own_index (length p.head.grid) p.head.index) frame base p.body w.0 w.1.1.0)) g.0)
      (nests_fit ps w.1.0 w.1.1.1 g.1)

pub fits : (called : ℕ → List (Option (List ℕ))) (above : ℕ) (k : Facts) (frame : List Grid1) (base : Base) (cell : List ℕ) (parts : List PartTerm) → IsMergeable called above k frame base cell (parts_of parts) → All PartFits parts
fits called above k frame base cell parts m = nests_fit called k m.scalarisable.frame base parts m.scalarisable.count m.scalarisable.nests m.grids
