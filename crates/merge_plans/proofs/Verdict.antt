-- The points of a loop that can be merged, put together, and each refuted alone.
use Rattle.std.proofs.Common.{◌≡◌, ◌≤◌, ◌<◌, ◌+◌, ℕ, List, [], ◌∷◌, ◌++◌, map, length, Option, Some, None, refl, ap, sym, subst, ◌∙◌, arith, pos}
use Rattle.std.specs.Prelude.{unwrap_or, option_map}
use Rattle.sac_base.specs.declared.base.Base.{Base}
use Rattle.sac_base.specs.declared.grid.Grid1.{Grid1}
use Rattle.core_ir.specs.declared.tree.PartedOp.{PartedOp}
use Rattle.core_ir.specs.declared.tree.PartedOp.TheVariants as parted
use Rattle.core_ir.specs.Meaning.{extents}
use Rattle.core_ir.specs.Terms.{RightTerm, PartTerm, Parted, parts_of}
use Rattle.core_facts.specs.Facts.{Facts, in_part}
use Rattle.core_loops.specs.Indices.{own_index}
use Rattle.core_loops.specs.Pairs.{Nests, count_parts}
use Rattle.merge_plans.specs.declared.planning.MergePlan.{MergePlan}
use Rattle.merge_plans.specs.Inners.{AreInner}
use Rattle.merge_plans.specs.Mergeable.{CanMerge, GridsFit, IsMergeable, PlanOf}
use Rattle.merge_plans.specs.Openings.{Opened}
use Rattle.merge_plans.specs.Seen.{IsSeen, first_frame, frame_of}
use Rattle.merge_plans.proofs.Opens.{nest_opens}

module _ (called : ℕ → List (Option (List ℕ))) (k : Facts) (frame : List Grid1) (base : Base) where
  abbrev nests : (ps : List PartTerm) (count : ℕ) → AreInner called k frame base ps count → Nests called k frame base (parts_of ps) count
  nests [] count h = h
  nests (p ∷ ps) count h =
      let first = h.1.1.0 in
      (first.inner, (h.1.0, (first.nest, nests ps h.1.0 h.1.1.1, h.1.1.2 ∙ ap (λ c. c + h.1.0) first.number, first.room)))

  grids : (ps : List PartTerm) (count : ℕ) → (h : AreInner called k frame base ps count) → GridsFit called k frame base (parts_of ps) count (nests ps count h)
  grids [] count h = tt
  grids (p ∷ ps) count h = (h.1.1.0.fits, grids ps h.1.0 h.1.1.1)

  inners : (ps : List PartTerm) (count : ℕ) → (w : Nests called k frame base (parts_of ps) count) → GridsFit called k frame base (parts_of ps) count w → AreInner called k frame base ps count
  inners [] count w g = w
  inners (p ∷ ps) count w g =
      (count_parts w.0, (w.1.0, (record { inner = w.0; nest = w.1.1.0; number = refl; room = w.1.1.3; fits = g.0 }, inners ps w.1.0 w.1.1.1 g.1, w.1.1.2)))

  -- the frame of the first inner loop
  first_is : (outer : List Grid1) (cell : List ℕ) (op : PartedOp) (ps : List PartTerm) (count : ℕ) → Nests called k frame base (parts_of ps) count → 0 < count_parts (parts_of ps) →
      first_frame (Parted outer base cell op (parts_of ps)) ≡ Some frame
  first_is outer cell op [] count w h = absurd (omega (arith, h))
  first_is outer cell op (p ∷ ps) count w h =
      ap (option_map (λ (o : Opened). frame_of o.right)) (nest_opens called (in_part k p.head) p.head.grid (own_index (length p.head.grid) p.head.index) frame base p.body w.0 w.1.1.0)

same_numbers : (ms ns : List ℕ) → map pos ms ≡ map pos ns → ms ≡ ns
same_numbers ms ns e = sym (back ms) ∙ ap (map Rattle.std.specs.Prelude.unsigned_abs) e ∙ back ns
  where
    back : (xs : List ℕ) → map Rattle.std.specs.Prelude.unsigned_abs (map pos xs) ≡ xs
    back [] = refl
    back (x ∷ xs) = ap (λ ys. x ∷ ys) (back xs)

some_part : (outer : List Grid1) (base : Base) (cell : List ℕ) (op : PartedOp) (ps : List PartTerm) (inner : List Grid1) → first_frame (Parted outer base cell op (parts_of ps)) ≡ Some inner →
    0 < count_parts (parts_of ps)
some_part outer base cell op [] inner e = absurd (cc)
some_part outer base cell op (p ∷ ps) inner e = omega arith

same_frame : (f g : List Grid1) → Some f ≡ Some g → f ≡ g
same_frame f g e = ap (λ t. unwrap_or t []) e

module _ (called : ℕ → List (Option (List ℕ))) (above : ℕ) (k : Facts) (outer : List Grid1) (base : Base) (cell : List ℕ) (ps : List PartTerm) where
  abbrev loop : PartedOp → RightTerm
  loop op = Parted outer base cell op (parts_of ps)

  -- all points hold
  pub plan_is :
      (op : PartedOp) (inner : List Grid1) (plan : MergePlan) → first_frame (loop op) ≡ Some inner → IsSeen above (loop op) inner →
      (all : (count : ℕ) × (AreInner called k inner base ps count × (count ≤ 64))) → plan.frame ≡ outer ++ inner → PlanOf called above k (loop op) plan
  plan_is parted.Genarray inner plan first seen all e =
      record {
        mergeable = record {
          scalarisable = record {
            some = some_part outer base cell parted.Genarray ps inner first;
            frame = inner;
            count = all.0;
            nests = nests called k inner base ps all.0 all.1.0;
            shape = same_numbers (extents inner) cell seen.filled.extents_are;
            index = seen.filled.index;
            few = all.1.1;
            numbers = seen.numbers;
          };
          frames = seen.frames;
          grids = grids called k inner base ps all.0 all.1.0;
        };
        frame_is = e;
      }
  plan_is (parted.Modarray x) inner plan first seen all e = absurd (seen.makes)
  plan_is (parted.Fold o x) inner plan first seen all e = absurd (seen.makes)

  -- a point fails
  module _ (w : IsMergeable called above k outer base cell (parts_of ps)) where
    first_of_merge : first_frame (loop parted.Genarray) ≡ Some w.scalarisable.frame
    first_of_merge = first_is called k w.scalarisable.frame base outer cell parted.Genarray ps w.scalarisable.count w.scalarisable.nests w.scalarisable.some

    not_first : first_frame (loop parted.Genarray) ≡ None → ⊥
    not_first e = let f : None ≡ Some w.scalarisable.frame = sym e ∙ first_of_merge in absurd (cc)

    module _ (inner : List Grid1) (e : first_frame (loop parted.Genarray) ≡ Some inner) where
      same : w.scalarisable.frame ≡ inner
      same = same_frame w.scalarisable.frame inner (sym first_of_merge ∙ e)

      seen_is : IsSeen above (loop parted.Genarray) inner
      seen_is =
          subst (IsSeen above (loop parted.Genarray)) same (record {
            numbers = w.scalarisable.numbers;
            makes = tt;
            frames = w.frames;
            filled = record { extents_are = ap (map pos) w.scalarisable.shape; index = w.scalarisable.index };
          })

      all_are : (count : ℕ) × (AreInner called k inner base ps count × (count ≤ 64))
      all_are =
          subst (λ (f : List Grid1). (count : ℕ) × (AreInner called k f base ps count × (count ≤ 64))) same
          (w.scalarisable.count, (inners called k w.scalarisable.frame base ps w.scalarisable.count w.scalarisable.nests w.grids, w.scalarisable.few))

  pub no_first : (op : PartedOp) → first_frame (loop op) ≡ None → CanMerge called above k (loop op) → ⊥
  no_first parted.Genarray e w = not_first w e
  no_first (parted.Modarray x) e w = w
  no_first (parted.Fold o x) e w = w

  pub not_seen : (op : PartedOp) (inner : List Grid1) → first_frame (loop op) ≡ Some inner → (IsSeen above (loop op) inner → ⊥) → CanMerge called above k (loop op) → ⊥
  not_seen parted.Genarray inner e never w = never (seen_is w inner e)
  not_seen (parted.Modarray x) inner e never w = w
  not_seen (parted.Fold o x) inner e never w = w

  pub not_all :
      (op : PartedOp) (inner : List Grid1) → first_frame (loop op) ≡ Some inner → ((count : ℕ) × (AreInner called k inner base ps count × (count ≤ 64)) → ⊥) → CanMerge called above k (loop op) → ⊥
  not_all parted.Genarray inner e never w = never (all_are w inner e)
  not_all (parted.Modarray x) inner e never w = w
  not_all (parted.Fold o x) inner e never w = w
