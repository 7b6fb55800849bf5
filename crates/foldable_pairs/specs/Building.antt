-- Plans of the first parts of a consumer.
use Rattle.std.specs.Prelude.{◌≡◌, ◌↔◌, IsTrue, ℕ, ◌+◌, ◌*◌, ◌<◌, ◌≤◌, ◌||◌, nat_lt, List, [], ◌∷◌, ◌++◌, Option}
use Rattle.core_ir.specs.Counts.{bindings}
use Rattle.core_ir.specs.Terms.{BlockTerm, PartsTerm, PartTerm, parts_of}
use Rattle.core_facts.specs.Facts.{Facts}
use Rattle.core_loops.specs.Loops.{binders, FEW}
use Rattle.core_loops.specs.Pairs.{Producer, PartsFold, most_bindings, most_binders}
use Rattle.foldable_pairs.specs.declared.plan.PartPlan.{PartPlan}
use Rattle.foldable_pairs.specs.declared.plan.Planned.{Planned}
use Rattle.foldable_pairs.specs.declared.plan.Plans.{Plans}
use Rattle.foldable_pairs.specs.Pairs.{PartsPlanned}

-- a body stays small enough with so many selections
abbrev pub HasRoom : BlockTerm → ℕ → PartsTerm → Type 0
HasRoom b selected parts =
    (bindings b + selected * most_bindings parts ≤ 4096) × (binders b + selected * most_binders parts ≤ FEW)

-- one plan more
pub record Added (old : Plans) (planned : Planned) (new : Plans) : Type 0 where
  pub parts : new.parts.items ≡ old.parts.items ++ planned.plan ∷ []
  pub count : new.count ≡ old.count + planned.count
  pub used : new.is_used ≡ (old.is_used || nat_lt 0 planned.plan.selected)

-- The plans so far, with those of the rest, are those of the whole.
pub record Building (called : ℕ → List (Option (List ℕ))) (k : Facts) (p : Producer) (whole rest : List PartTerm) (plans : Plans) : Type 0 where
  pub selected : ℕ
  pub used : IsTrue plans.is_used ↔ (0 < selected)
  pub on : (more : List PartPlan) (s c : ℕ) → PartsPlanned called k p rest more s c →
      PartsPlanned called k p whole (plans.parts.items ++ more) (selected + s) (plans.count + c)
  pub back : (s c : ℕ) → PartsFold called k p (parts_of whole) s c →
      (t : ℕ) × ((d : ℕ) × (PartsFold called k p (parts_of rest) t d × (s ≡ selected + t) × (c ≡ plans.count + d)))

-- the parts take from the producer, and the pieces are few
abbrev pub CanTake : (ℕ → List (Option (List ℕ))) → Facts → Producer → List PartTerm → Type 0
CanTake called k p whole = (s : ℕ) × ((c : ℕ) × (PartsFold called k p (parts_of whole) s c × (c ≤ 64)))
