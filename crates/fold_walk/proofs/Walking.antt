-- Walks that fold pairs: within a larger term, one after another, and those that fold none.
use Rattle.std.proofs.Common.{◌≡◌, ℕ, suc, ◌+◌, ◌≤◌, List, [], ◌∷◌, ◌++◌, length, Option, refl, sym, ap, ◌∙◌, arith}
use Rattle.std.proofs.lemmas.List.{length-append}
use Rattle.core_ir.specs.Edits.{Edited, EditedRight, EditedGens, EditedParts, here, later, inside, in_then, in_else, in_test, in_body, in_gens, in_parts, this_gen, later_gen, this_part, later_part}
use Rattle.core_ir.specs.Terms.{BlockTerm, RightTerm, GensTerm, PartsTerm, LetTerm, Bind, chain}
use Rattle.core_facts.specs.Facts.{Facts, note_all, right_facts}
use Rattle.core_loops.specs.Steps.{fact_ways, facts_after}
use Rattle.fold_walk.specs.declared.state.Fold.{Fold}
use Rattle.fold_walk.specs.Walking.{State, FoldedHere, Walked, stays, goes}

-- ---- lists that grow at their end

pub chain_snoc : (ls : List LetTerm) (l : LetTerm) (end : BlockTerm) → chain (ls ++ (l ∷ [])) end ≡ chain ls (Bind l.targets l.site l.right end)
chain_snoc [] l end = refl
chain_snoc (m ∷ ms) l end = ap (Bind m.targets m.site m.right) (chain_snoc ms l end)

-- what is known behind bindings
pub after_snoc : (called : ℕ → List (Option (List ℕ))) (ls : List LetTerm) (l : LetTerm) (k : Facts) → facts_after called (ls ++ (l ∷ [])) k ≡ note_all (facts_after called ls k) l.targets (right_facts called l.right (facts_after called ls k))
after_snoc called [] l k = refl
after_snoc called (m ∷ ls) l k = after_snoc called ls l (note_all k m.targets (right_facts called m.right k))

module _ (called : ℕ → List (Option (List ℕ))) (function : ℕ) where
  abbrev pub Changed : State → State → Facts → BlockTerm → BlockTerm → Type 0
  Changed p q = Edited Facts (fact_ways called) (FoldedHere called function p q)

  up_one : (p q r : ℕ) → q ≡ suc p → q ≤ r → p ≤ r
  up_one p q r a b = omega (arith, a, b)

  not_still : (p q r : ℕ) → q ≡ suc p → q ≤ r → r ≡ p → ⊥
  not_still p q r a b e = omega (arith, a, b, e)

  -- ---- within a larger term

  pub lift : {k m : Facts} {p q : State} {b c : BlockTerm} (C : BlockTerm → BlockTerm) → ((u v : State) (x y : BlockTerm) → Changed u v m x y → Changed u v k (C x) (C y)) → Walked called function m p q b c → Walked called function k p q (C b) (C c)
  lift C e stays = stays
  lift C e (goes s w) = goes (e _ _ _ _ s) (lift C e w)

  pub join : {k : Facts} {p q r : State} {b c d : BlockTerm} → Walked called function k p q b c → Walked called function k q r c d → Walked called function k p r b d
  join stays v = v
  join (goes s w) v = goes s (join w v)

  pub through : (ls : List LetTerm) {k : Facts} {p q : State} {b c : BlockTerm} → Walked called function (facts_after called ls k) p q b c → Walked called function k p q (chain ls b) (chain ls c)
  through [] w = w
  through (l ∷ ls) w = lift (Bind l.targets l.site l.right) (λ u v x y s. later s) (through ls w)

  -- ---- how many

  module _ (p q : State) where
    one_longer : (d : Fold) → q.folds ≡ p.folds ++ (d ∷ []) → length q.folds ≡ suc (length p.folds)
    one_longer d e = ap length e ∙ length-append p.folds (d ∷ []) ∙ (let one : length p.folds + 1 ≡ suc (length p.folds) = omega arith in one)

    mutual
      pub one_more : {k : Facts} {b c : BlockTerm} → Edited Facts (fact_ways called) (FoldedHere called function p q) k b c → length q.folds ≡ suc (length p.folds)
      one_more (here h) = one_longer (record { function = function; producer = h.producer; consumer = h.consumer }) h.logged
      one_more (later s) = one_more s
      one_more (inside s) = one_more_right s

      one_more_right : {k : Facts} {b c : RightTerm} → EditedRight Facts (fact_ways called) (FoldedHere called function p q) k b c → length q.folds ≡ suc (length p.folds)
      one_more_right (in_then s) = one_more s
      one_more_right (in_else s) = one_more s
      one_more_right (in_test s) = one_more s
      one_more_right (in_body s) = one_more s
      one_more_right (in_gens s) = one_more_gens s
      one_more_right (in_parts s) = one_more_parts s

      one_more_gens : {k : Facts} {b c : GensTerm} → EditedGens Facts (fact_ways called) (FoldedHere called function p q) k b c → length q.folds ≡ suc (length p.folds)
      one_more_gens (this_gen s) = one_more s
      one_more_gens (later_gen s) = one_more_gens s

      one_more_parts : {k : Facts} {b c : PartsTerm} → EditedParts Facts (fact_ways called) (FoldedHere called function p q) k b c → length q.folds ≡ suc (length p.folds)
      one_more_parts (this_part s) = one_more s
      one_more_parts (later_part s) = one_more_parts s

  pub rises : {k : Facts} {p q : State} {b c : BlockTerm} → Walked called function k p q b c → length p.folds ≤ length q.folds
  rises stays = omega arith
  rises (goes {p = p} {q = q} {r = r} s w) = up_one (length p.folds) (length q.folds) (length r.folds) (one_more p q s) (rises w)

  -- a walk that folded none changed nothing
  pub still : {k : Facts} {p q : State} {b c : BlockTerm} → Walked called function k p q b c → length q.folds ≡ length p.folds → (p ≡ q) × (b ≡ c)
  still stays e = (refl, refl)
  still (goes {p = p} {q = q} {r = r} s w) e = absurd (not_still (length p.folds) (length q.folds) (length r.folds) (one_more p q s) (rises w) e)

  pub quiet : {k : Facts} {p q : State} {b c : BlockTerm} → Walked called function k p q b c → length q.folds ≡ length p.folds → q.folds ≡ p.folds
  quiet w e = ap (λ (t : State). t.folds) (sym (still w e).0)
