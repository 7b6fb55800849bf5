-- A walk is a walk of steps with new variables.
use Rattle.std.proofs.Common.{◌≡◌, ℕ, suc, ◌+◌, ◌≤◌, List, Option, Some, refl, subst, arith}
use Rattle.sac_base.specs.declared.base.Base.{Base}
use Rattle.core_ir.specs.declared.tree.Var.{Var}
use Rattle.core_ir.specs.Edits.{Edited}
use Rattle.core_ir.specs.Terms.{BlockTerm}
use Rattle.core_facts.specs.Facts.{Facts}
use Rattle.core_loops.specs.Steps.{fact_ways}
use Rattle.core_loops.specs.norm_steps.Step.{BaseTable}
use Rattle.core_forms.specs.norm.Copied.{IsPlaced}
use Rattle.core_forms.specs.norm.Fresh.{FreshHere}
use Rattle.core_forms.specs.norm.Walks.{Steps, done, step, BlockWalk}
use Rattle.core_forms.proofs.norm.Placing.{walk_placed}
use Rattle.core_forms.proofs.norm.Walking.{by_other}
use Rattle.parted_bodies.specs.declared.names.Progress.{Progress}
use Rattle.norm_walk.specs.Replacing.{ReplacedHere, Walked, stays, goes}
use Rattle.norm_walk.proofs.Walking.{one_more}
use Rattle.with_norm.proofs.Fits.{fresh_here}

module _ (called : ℕ → List (Option (List ℕ))) (m : BaseTable) (first : ℕ) (bases : Var → Option Base) (tells : (x : Var) (t : Base) → bases x ≡ Some t → m x ≡ t) where
  -- a with-loop replaced between two numbers
  abbrev Rule : ℕ → ℕ → Facts → BlockTerm → BlockTerm → Type 0
  Rule low high k b c = (p : Progress) × ((q : Progress) × ((p.next ≡ low) × (q.next ≡ high) × ReplacedHere bases first p q k b c))

  abbrev Going : Facts → ℕ → ℕ → ℕ → BlockTerm → BlockTerm → Type 0
  Going k = Steps BlockTerm (λ low high b c. Edited Facts (fact_ways called) (Rule low high) k b c)

  itself : (n : ℕ) → n ≤ n
  itself n = omega arith

  none : (n : ℕ) → n ≡ 0 + n
  none n = omega arith

  counts : (p q r n : ℕ) → q ≡ suc p → r ≡ n + q → r ≡ suc n + p
  counts p q r n e f = omega (arith, e, f)

  steps_of : {k : Facts} {p r : Progress} {b d : BlockTerm} → Walked called bases first k p r b d → (n : ℕ) × ((r.replaced ≡ n + p.replaced) × Going k n p.next r.next b d)
  steps_of (stays {p = p}) = (0, (none p.replaced, done (itself p.next)))
  steps_of (goes {k = k} {p = p} {q = q} {r = r} {b = b} {c = c} s w) =
      let rest = steps_of w in
      let one = by_other Facts (fact_ways called) (ReplacedHere bases first p q) (Rule p.next q.next) (λ k b c h. (p, (q, (refl, refl, h)))) s in
      (suc rest.0, (counts p.replaced q.replaced r.replaced rest.0 (one_more called bases first p q s) rest.1.0, step one rest.1.1))

  make : (low high : ℕ) (k : Facts) (b c : BlockTerm) → Rule low high k b c → (scope : List Var) → IsPlaced low scope b → FreshHere first low high m k b c
  make low high k b c h scope placed =
      subst (λ (n : ℕ). FreshHere first low n m k b c) h.1.1.1
      (subst (λ (n : ℕ). IsPlaced n scope b → FreshHere first n h.1.0.next m k b c) h.1.1.0 (λ at. fresh_here m first bases tells h.0 h.1.0 k b c h.1.1.2 scope at) placed)

  pub walk_is : (k : Facts) (p r : Progress) (b d : BlockTerm) → Walked called bases first k p r b d → (scope : List Var) → IsPlaced p.next scope b → (n : ℕ) × ((r.replaced ≡ n + p.replaced) × BlockWalk called first m k n p.next r.next b d)
  walk_is k p r b d w scope placed =
      let s = steps_of w in
      (s.0, (s.1.0, walk_placed called first m Rule make s.1.1 scope placed))
