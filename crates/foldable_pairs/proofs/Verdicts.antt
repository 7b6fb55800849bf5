-- What the numbers of holders name, and what makes a pair foldable.
use Rattle.std.proofs.Common.{◌≡◌, ◌↔◌, ℕ, zero, suc, ◌+◌, ◌^◌, ◌≤◌, List, [], ◌∷◌, Option, Some, refl, inl, inr, ℤ}
use Rattle.std.specs.List.{slice_get}
use Rattle.core_ir.specs.declared.tree.PartedOp.{PartedOp}
use Rattle.core_ir.specs.Terms.{BlockTerm, LetTerm, PartsTerm, PartTerm, parts_of}
use Rattle.core_ir.specs.Uses.{Avoids}
use Rattle.core_facts.specs.Facts.{Facts}
use Rattle.core_loops.specs.Pairs.{Producer, IsFoldable, AvoidsLets, PartsFold, grids_of}
use Rattle.core_loops.specs.Steps.{HeldIn}
use Rattle.fold_pieces.specs.Pieces.{HasFirst}
use Rattle.foldable_pairs.specs.declared.plan.PartPlan.{PartPlan}
use Rattle.foldable_pairs.specs.Pairs.{CanProduce, IsPlanned, PartsPlanned, Takes}

pub holder_held : (parts : List PartTerm) (v : List ℤ) (j : ℕ) → HasFirst (grids_of (parts_of parts)) v j
    → (part : PartTerm) × ((slice_get parts j ≡ Some part) × HeldIn (parts_of parts) v part.head part.body)
holder_held [] v j h = absurd h
holder_held (q ∷ qs) v zero h = (q, (refl, inl (h, refl, refl)))
holder_held (q ∷ qs) v (suc j) h = let rest = holder_held qs v j h.1 in (rest.0, (rest.1.0, inr (h.0, rest.1.1)))

parts_fold : (called : ℕ → List (Option (List ℕ))) (k : Facts) (p : Producer) (parts : List PartTerm) (plans : List PartPlan) (selected count : ℕ)
    → PartsPlanned called k p parts plans selected count → PartsFold called k p (parts_of parts) selected count
parts_fold called k p [] [] selected count h = h
parts_fold called k p [] (plan ∷ plans) selected count h = absurd h
parts_fold called k p (part ∷ parts) [] selected count h = absurd h
parts_fold called k p (part ∷ parts) (plan ∷ plans) selected count h =
    let w = h.1.1.1.1 in (h.0, (h.1.0, (h.1.1.0, (h.1.1.1.0, (w.0.folds, parts_fold called k p parts plans h.1.1.0 h.1.1.1.0 w.1, w.2, w.3)))))

pub plan_takes : (called : ℕ → List (Option (List ℕ))) (later : Facts) (p : Producer) (op : PartedOp) (parts : List PartTerm) (plans : List PartPlan)
    → IsPlanned called later p op parts plans → Takes called later p op (parts_of parts)
plan_takes called later p op parts plans h = record {
  selected = h.selected;
  count = h.count;
  folds = parts_fold called later p parts plans h.selected h.count h.folds;
  used = h.used;
  few = h.few;
  operation = h.operation;
}

pub pair_is : (called : ℕ → List (Option (List ℕ))) (above : ℕ) (k later : Facts) (p : Producer) (between : List LetTerm) (op : PartedOp) (parts : PartsTerm) (rest : BlockTerm)
    → IsFoldable called above k later p between op parts rest
    ↔ (CanProduce called k p.op p.parts × Takes called later p op parts × AvoidsLets p.var between × Avoids p.var rest × (above ≤ 2 ^ 31 + 1))
pair_is called above k later p between op parts rest = (
  λ f. (
    record { makes = f.makes; total = f.total },
    record { selected = f.selected; count = f.count; folds = f.folds; used = f.used; few = f.few; operation = f.operation },
    f.before,
    f.after,
    f.numbers,
  ),
  λ h. record {
    makes = h.0.makes;
    total = h.0.total;
    selected = h.1.selected;
    count = h.1.count;
    folds = h.1.folds;
    used = h.1.used;
    few = h.1.few;
    before = h.2;
    operation = h.1.operation;
    after = h.3;
    numbers = h.4;
  },
)
