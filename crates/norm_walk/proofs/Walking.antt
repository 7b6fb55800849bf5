-- Walks that replace with-loops, and those that replace none.
use Rattle.std.proofs.Common.{◌≡◌, ℕ, suc, ◌<◌, ◌≤◌, List, Option, inl, inr, refl, ap, arith}
use Rattle.sac_base.specs.declared.base.Base.{Base}
use Rattle.core_ir.specs.declared.tree.Var.{Var}
use Rattle.core_ir.specs.Edits.{Edited, EditedRight, EditedGens, EditedParts, here, later, inside, in_then, in_else, in_test, in_body, in_gens, in_parts, this_gen, later_gen, this_part, later_part}
use Rattle.core_ir.specs.Terms.{BlockTerm, RightTerm, GensTerm, PartsTerm}
use Rattle.core_facts.specs.Facts.{Fact, Facts, block_facts}
use Rattle.core_loops.specs.Steps.{fact_ways}
use Rattle.core_walk.specs.Traced.{BlockTraced, Finished}
use Rattle.core_walk.specs.Editing.{EachBinding}
use Rattle.core_walk.specs.Editing.{stays as kept, goes as more}
use Rattle.core_walk.proofs.Edits.{BlockWalk, Verdict, edited_block}
use Rattle.parted_bodies.specs.declared.names.Progress.{Progress}
use Rattle.norm_walk.specs.Replacing.{ReplacedHere, NoneAt, NormStep, IsLeft, EachWith, Walked, stays, goes, BlockWalked}

module _ (called : ℕ → List (Option (List ℕ))) (bases : Var → Option Base) (first : ℕ) where
  up_one : (p q r : ℕ) → q ≡ suc p → q ≤ r → p ≤ r
  up_one p q r a b = omega (arith, a, b)

  not_still : (p q r : ℕ) → q ≡ suc p → q ≤ r → r ≡ p → ⊥
  not_still p q r a b e = omega (arith, a, b, e)

  -- ---- how many

  module _ (p q : Progress) where
    mutual
      pub one_more : {k : Facts} {b c : BlockTerm} → Edited Facts (fact_ways called) (ReplacedHere bases first p q) k b c → q.replaced ≡ suc p.replaced
      one_more (here h) = ap (λ (r : Progress). r.replaced) h.at.after
      one_more (later s) = one_more s
      one_more (inside s) = one_more_right s

      one_more_right : {k : Facts} {b c : RightTerm} → EditedRight Facts (fact_ways called) (ReplacedHere bases first p q) k b c → q.replaced ≡ suc p.replaced
      one_more_right (in_then s) = one_more s
      one_more_right (in_else s) = one_more s
      one_more_right (in_test s) = one_more s
      one_more_right (in_body s) = one_more s
      one_more_right (in_gens s) = one_more_gens s
      one_more_right (in_parts s) = one_more_parts s

      one_more_gens : {k : Facts} {b c : GensTerm} → EditedGens Facts (fact_ways called) (ReplacedHere bases first p q) k b c → q.replaced ≡ suc p.replaced
      one_more_gens (this_gen s) = one_more s
      one_more_gens (later_gen s) = one_more_gens s

      one_more_parts : {k : Facts} {b c : PartsTerm} → EditedParts Facts (fact_ways called) (ReplacedHere bases first p q) k b c → q.replaced ≡ suc p.replaced
      one_more_parts (this_part s) = one_more s
      one_more_parts (later_part s) = one_more_parts s

  pub rises : {k : Facts} {p q : Progress} {b c : BlockTerm} → Walked called bases first k p q b c → p.replaced ≤ q.replaced
  rises stays = omega arith
  rises (goes {p = p} {q = q} {r = r} s w) = up_one p.replaced q.replaced r.replaced (one_more p q s) (rises w)

  -- a walk that replaced none changed nothing
  pub still : {k : Facts} {p q : Progress} {b c : BlockTerm} → Walked called bases first k p q b c → q.replaced ≡ p.replaced → (p ≡ q) × (b ≡ c)
  still stays e = (refl, refl)
  still (goes {p = p} {q = q} {r = r} s w) e = absurd (not_still p.replaced q.replaced r.replaced (one_more p q s) (rises w) e)

  -- ---- what was walked through

  walk_is : {k : Facts} {p q : Progress} {b c : BlockTerm} → BlockWalk called Progress (λ p. p.replaced) (ReplacedHere bases first) (NoneAt bases first) (NoneAt bases first) k p q b c → Walked called bases first k p q b c
  walk_is kept = stays
  walk_is (more n s w) = goes s (walk_is w)

  not_less : (p q : ℕ) → p < q → q ≡ p → ⊥
  not_less p q l e = omega (arith, l, e)

  none_left : (k : Facts) (p q : Progress) (b c : BlockTerm) → Verdict Progress (λ r. r.replaced) p q ((c ≡ b) × EachBinding called (NoneAt bases first p) b k) → q.replaced ≡ p.replaced →
      EachWith (IsLeft bases first p.next) called b k
  none_left k p q b c (inl h) e = h.1.1
  none_left k p q b c (inr l) e = absurd (not_less p.replaced q.replaced l e)

  pub walked_block : (k : Facts) (p q : Progress) (b c : BlockTerm) (vs : List Fact) → BlockTraced called Progress (NormStep called bases first) Finished k p q b c vs →
      BlockWalked called bases first k p q b c × (vs ≡ block_facts called c k)
  walked_block k p q b c vs t =
      let told = edited_block called Progress (λ r. r.replaced) (ReplacedHere bases first) (NoneAt bases first) t in
      (record { walked = walk_is told.0.walked; none = none_left k p q b c told.0.verdict }, told.1)
