-- The inner loops of all parts, one after another.
use Rattle.std.proofs.Common.{◌≡◌, ◌≤◌, ◌<◌, ◌+◌, ℕ, List, [], ◌∷◌, map, drop, get_or, length, Option, refl, ap, sym, subst, ◌∙◌, arith}
use Rattle.std.proofs.lemmas.List.{drop_more, drop_all}
use Rattle.sac_base.specs.declared.base.Base.{Base}
use Rattle.sac_base.specs.declared.grid.Grid1.{Grid1}
use Rattle.core_ir.specs.declared.tree.CorePart.{CorePart}
use Rattle.core_ir.specs.Terms.{PartTerm}
use Rattle.core_ir.specs.View.{part_term}
use Rattle.core_facts.specs.Facts.{Facts}
use Rattle.merge_plans.specs.Inners.{AreInner, IsInner}
use Rattle.merge_plans.proofs.InnerLoops.{inner_same}

pub rest_is : (parts : List CorePart) (i : ℕ) (p : CorePart) → i < length parts → p ≡ get_or parts i p → map part_term (drop i parts) ≡ part_term p ∷ map part_term (drop (i + 1) parts)
rest_is parts i p h e = ap (map part_term) (drop_more parts i p h) ∙ (λ j. part_term (sym e j) ∷ map part_term (drop (i + 1) parts))

pub rest_none : (parts : List CorePart) (i : ℕ) → length parts ≤ i → map part_term (drop i parts) ≡ []
rest_none parts i h = ap (map part_term) (drop_all i parts h)

module _ (called : ℕ → List (Option (List ℕ))) (k : Facts) (frame : List Grid1) (base : Base) (parts : List PartTerm) where
  -- the parts so far have so many inner parts
  pub record SoFar (rest : List PartTerm) (count : ℕ) : Type 0 where
    pub on : (d : ℕ) → AreInner called k frame base rest d → AreInner called k frame base parts (count + d)
    pub back : (d : ℕ) → AreInner called k frame base parts d → (e : ℕ) × (AreInner called k frame base rest e × (d ≡ count + e))

  pub so_far_none : SoFar parts 0
  so_far_none = record { on = λ d h. subst (AreInner called k frame base parts) (zero_first d) h; back = λ d h. (d, (h, zero_first d)) }
    where
      zero_first : (d : ℕ) → d ≡ 0 + d
      zero_first d = omega arith

  pub so_far_more : (p : PartTerm) (rest : List PartTerm) (count all : ℕ) → (more : (c : ℕ) × (IsInner called k frame base p c × (all ≡ count + c) × (all ≤ 64))) → SoFar (p ∷ rest) count → SoFar rest all
  so_far_more p rest count all more s =
      let c = more.0 in
      record {
        on = λ d h. subst (AreInner called k frame base parts) (after c d more.1.1) (s.on (c + d) (c, (d, (more.1.0, h, refl))));
        back = λ d h.
            let b = s.back d h in
            let first = b.1.0 in
            (first.1.0, (first.1.1.1, before d b.0 first.0 c first.1.0 b.1.1 first.1.1.2 (inner_same called k frame base p first.0 c first.1.1.0 more.1.0) more.1.1));
      }
    where
      after : (c d : ℕ) → all ≡ count + c → count + (c + d) ≡ all + d
      after c d e = omega (arith, e)

      before : (d e b c others : ℕ) → d ≡ count + e → e ≡ b + others → b ≡ c → all ≡ count + c → d ≡ all + others
      before d e b c others x y z w = omega (arith, x, y, z, w)

  pub so_far_stuck : (p : PartTerm) (rest : List PartTerm) (count : ℕ) → ((c : ℕ) → IsInner called k frame base p c → count + c ≤ 64 → ⊥) → SoFar (p ∷ rest) count →
      (d : ℕ) × (AreInner called k frame base parts d × (d ≤ 64)) → ⊥
  so_far_stuck p rest count never s h =
      let b = s.back h.0 h.1.0 in
      let inner = b.1.0 in
      never inner.0 inner.1.1.0 (small h.0 b.0 inner.0 inner.1.0 b.1.1 inner.1.1.2 h.1.1)
    where
      small : (d e c others : ℕ) → d ≡ count + e → e ≡ c + others → d ≤ 64 → count + c ≤ 64
      small d e c others x y z = omega (arith, x, y, z)

  pub so_far_all : (count : ℕ) → SoFar [] count → count ≤ 64 → (d : ℕ) × (AreInner called k frame base parts d × (d ≤ 64))
  so_far_all count s h = (count, (subst (AreInner called k frame base parts) (zero_last count) (s.on 0 refl), h))
    where
      zero_last : (n : ℕ) → n + 0 ≡ n
      zero_last n = omega arith
