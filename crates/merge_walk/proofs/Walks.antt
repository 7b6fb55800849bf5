-- What the walk did with a right side, and with a block.
use Rattle.std.proofs.Common.{◌≡◌, ◌⊎◌, ℕ, suc, ◌+◌, ◌<◌, List, [], ◌∷◌, ◌++◌, map, Option, inl, inr, refl, sym, subst, arith}
use Rattle.std.specs.Prelude.{Result, Ok, Err, IfOk}
use Rattle.sac_base.specs.declared.memory.Memory.{Memory}
use Rattle.sac_base.specs.declared.site.Site.{Site}
use Rattle.core_ir.specs.declared.tree.Var.{Var}
use Rattle.core_ir.specs.Terms.{BlockTerm, RightTerm, LetTerm}
use Rattle.core_ir.specs.View.{block_term, right_term}
use Rattle.core_facts.specs.Facts.{Fact, Facts, block_facts, right_facts}
use Rattle.core_walk.specs.Traced.{BlockTraced, Finished}
use Rattle.core_walk.specs.Editing.{Changed, Kept, EachBinding}
use Rattle.core_walk.specs.Editing.{stays as kept, goes as more}
use Rattle.core_walk.proofs.Edits.{BlockTold, BlockWalk, Verdict, edited_block}
use Rattle.core_walk.proofs.Turns.{append_nil}
use Rattle.fact_table.specs.Table.{fact_of}
use Rattle.parted_bodies.specs.declared.names.Progress.{Progress}
use Rattle.plain_facts.specs.declared.known_rights.known.KnownBlock.{KnownBlock}
use Rattle.plain_facts.specs.declared.known_rights.known.KnownRight.{KnownRight}
use Rattle.merge_walk.specs.planned_merges.Planned.{MergesPlanned}
use Rattle.merge_walk.specs.Here.{BindingMerged}
use Rattle.merge_walk.specs.NoneLeft.{NoneMergeable}
use Rattle.merge_walk.specs.Walking.{Walk, BlockStep, BlockWalked, MergeStep, NoneAt, stays, goes}

add_none : (r : ℕ) → r ≡ r + 0
add_none r = omega arith

add_one : (p q r n : ℕ) → q ≡ suc p → r ≡ q + n → r ≡ p + suc n
add_one p q r n e f = omega (arith, e, f)

not_less : (p q n : ℕ) → p < q → q ≡ p + n → n ≡ 0 → ⊥
not_less p q n l e z = omega (arith, l, e, z)

module _ (called : ℕ → List (Option (List ℕ))) where
  -- ---- a right side

  edit_of : (k : Facts) (p q : Progress) (xs : List Var) (s : Site) (r t : RightTerm) → BindingMerged called k p q xs r t →
      Changed called Progress (λ n. n.replaced) (λ a b. MergesPlanned called a.next b.next) (NoneAt called) k p q xs s r t
      ⊎ Kept called Progress (λ n. n.replaced) (λ a b. MergesPlanned called a.next b.next) (NoneAt called) k p q xs s r t
  edit_of k p q [] s r t h = inr (record { still = h.0; same = h.1; left = λ rest. tt })
  edit_of k p q (x ∷ []) s r t (inl h) = inl (record { counted = h.counted; rule = λ rest. h.step x s rest })
  edit_of k p q (x ∷ []) s r t (inr h) = inr (record { still = h.0; same = h.1; left = λ rest. h.2 })
  edit_of k p q (x ∷ y ∷ xs) s r t h = inr (record { still = h.0; same = h.1; left = λ rest. tt })

  pub step_end : (k : Facts) (p q : Progress) (xs : List Var) (s : Site) (r : RightTerm) (vs : List Fact) (done : List LetTerm) (new : Result KnownRight Memory) →
      IfOk new (λ (n : KnownRight). BindingMerged called k p q xs r (right_term n.right)) →
      IfOk new (λ (n : KnownRight). vs ≡ right_facts called r k → map fact_of n.values.items ≡ right_facts called (right_term n.right) k) →
      IfOk new (λ (n : KnownRight). (ms : List LetTerm) × (done ≡ done ++ ms) × MergeStep called k p q xs s r vs ms (right_term n.right) (map fact_of n.values.items))
  step_end k p q xs s r vs done (Ok n) h known = ([], sym (append_nil done), record { none = refl; known = known; edit = edit_of k p q xs s r (right_term n.right) h })
  step_end k p q xs s r vs done (Err m) h known = tt

  -- ---- a block

  walk_is : {k : Facts} {p q : Progress} {b c : BlockTerm} → BlockWalk called Progress (λ n. n.replaced) (λ a b. MergesPlanned called a.next b.next) (NoneAt called) (NoneAt called) k p q b c →
      (n : ℕ) × (Walk BlockTerm (BlockStep called k) n p.next q.next b c × (q.replaced ≡ p.replaced + n))
  walk_is (kept {p = p}) = (0, (stays, add_none p.replaced))
  walk_is (more {p = p} {q = q} {r = r} e s w) = let v = walk_is w in (suc v.0, (goes s v.1.0, add_one p.replaced q.replaced r.replaced v.0 e v.1.1))

  none_left : (k : Facts) (p q : Progress) (b c : BlockTerm) (n : ℕ) → Verdict Progress (λ m. m.replaced) p q ((c ≡ b) × EachBinding called (NoneAt called p) b k) → q.replaced ≡ p.replaced + n → n ≡ 0 →
      NoneMergeable called p.next c k
  none_left k p q b c n (inl h) e z = subst (λ (t : BlockTerm). NoneMergeable called p.next t k) (sym h.1.0) h.1.1
  none_left k p q b c n (inr l) e z = absurd (not_less p.replaced q.replaced n l e z)

  walked_block : (k : Facts) (p q : Progress) (b c : BlockTerm) → BlockTold called Progress (λ n. n.replaced) (λ a b. MergesPlanned called a.next b.next) (NoneAt called) (NoneAt called) k p q b c → BlockWalked called k p q b c
  walked_block k p q b c told =
      let w = walk_is told.walked in
      record { count = w.0; walk = w.1.0; counted = w.1.1; none = none_left k p q b c w.0 told.verdict w.1.1 }

  pub walked_end : (k : Facts) (p q : Progress) (b : BlockTerm) (new : Result KnownBlock Memory) →
      IfOk new (λ (n : KnownBlock). BlockTraced called Progress (MergeStep called) Finished k p q b (block_term n.block) (map fact_of n.results.items)) →
      IfOk new (λ (n : KnownBlock). BlockWalked called k p q b (block_term n.block))
  walked_end k p q b (Ok n) t = walked_block k p q b (block_term n.block) (edited_block called Progress (λ m. m.replaced) (λ x y. MergesPlanned called x.next y.next) (NoneAt called) t).0
  walked_end k p q b (Err m) t = tt

  pub known_end : (k : Facts) (p q : Progress) (b : BlockTerm) (new : Result KnownBlock Memory) →
      IfOk new (λ (n : KnownBlock). BlockTraced called Progress (MergeStep called) Finished k p q b (block_term n.block) (map fact_of n.results.items)) →
      IfOk new (λ (n : KnownBlock). map fact_of n.results.items ≡ block_facts called (block_term n.block) k)
  known_end k p q b (Ok n) t = (edited_block called Progress (λ m. m.replaced) (λ x y. MergesPlanned called x.next y.next) (NoneAt called) t).1
  known_end k p q b (Err m) t = tt
