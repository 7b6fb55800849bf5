-- Bindings that never fault hold neither with-loops nor parted loops nor calls.
use Rattle.std.proofs.Common.{◌≡◌, ℕ, ◌+◌, Bool, true, false, ◌&&◌, List, [], ◌∷◌, ◌++◌, Option, refl, ◌∙◌, arith}
use Rattle.std.specs.Prelude.{length}
use Rattle.sac_base.specs.declared.grid.Grid1.{Grid1}
use Rattle.core_ir.specs.declared.tree.Var.{Var}
use Rattle.core_ir.specs.Terms.{BlockTerm, RightTerm, LetTerm, Gives, Bind, Plain, chain}
use Rattle.core_facts.specs.calls.Nests.{CallsAll, CallsAllRight}
use Rattle.core_facts.specs.Facts.{Facts, note_all, right_facts}
use Rattle.core_loops.specs.Indices.{IndexFacts, is_scalar_shape, learn_index, total_block, total_right}
use Rattle.core_loops.specs.Loops.{parted_in, parted_in_right, weight, weight_right}
use Rattle.core_loops.specs.Pairs.{total_around}

abbrev mutual
  -- only right sides without blocks, and conditionals of such
  pub Straight : BlockTerm → Type 0
  Straight (Gives xs) = Unit {0}
  Straight (Bind xs s r b) = StraightRight r × Straight b

  pub StraightRight : RightTerm → Type 0
  StraightRight (Plain p) = Unit {0}
  StraightRight (RightTerm.If x a b) = Straight a × Straight b
  StraightRight _ = ⊥

abbrev pub StraightLets : List LetTerm → Type 0
StraightLets [] = Unit {0}
StraightLets (l ∷ ls) = StraightRight l.right × StraightLets ls

pub straight_both : (ls ms : List LetTerm) → StraightLets ls → StraightLets ms → StraightLets (ls ++ ms)
straight_both [] ms h k = k
straight_both (l ∷ ls) ms h k = (h.0, straight_both ls ms h.1 k)

both_true : (a b : Bool) → (a && b) ≡ true → (a ≡ true) × (b ≡ true)
both_true true b h = (refl, h)
both_true false b h = absurd (cc)

module _ (called : ℕ → List (Option (List ℕ))) (grid : List Grid1) where
  mutual
    pub total_straight : (b : BlockTerm) (k : Facts) (m : IndexFacts) → total_block called grid b k m ≡ true → Straight b
    total_straight (Gives xs) k m h = tt
    total_straight (Bind xs s r b) k m h =
        let next = total_block called grid b (note_all k xs (right_facts called r k)) (learn_index (length grid) m xs r k) in
        let w = both_true (total_right called grid r k m) next h in
        (right_straight r k m w.0, total_straight b (note_all k xs (right_facts called r k)) (learn_index (length grid) m xs r k) w.1)

    right_straight : (r : RightTerm) (k : Facts) (m : IndexFacts) → total_right called grid r k m ≡ true → StraightRight r
    right_straight (Plain p) k m h = tt
    right_straight (RightTerm.If x a b) k m h =
        let w = both_true (is_scalar_shape (k x).shape && total_block called grid a k m) (total_block called grid b k m) h in
        let v = both_true (is_scalar_shape (k x).shape) (total_block called grid a k m) w.0 in
        (total_straight a k m v.1, total_straight b k m w.1)
    right_straight (RightTerm.Loop first start params test body s) k m h = absurd (cc)
    right_straight (RightTerm.Call g xs) k m h = absurd (cc)
    right_straight (RightTerm.With o gens) k m h = absurd (cc)
    right_straight (RightTerm.Parted frame base cell o parts) k m h = absurd (cc)

  chain_straight : (ls : List LetTerm) (xs : List Var) → Straight (chain ls (Gives xs)) → StraightLets ls
  chain_straight [] xs h = tt
  chain_straight (l ∷ ls) xs h = (h.0, chain_straight ls xs h.1)

  -- each binding but one
  pub around_straight : (before after : List LetTerm) (zs xs : List Var) (s : Rattle.sac_base.specs.declared.site.Site.Site) (r : RightTerm) (k : Facts) (m : IndexFacts)
      → total_around called grid before (Bind zs s r (chain after (Gives xs))) k m ≡ true → StraightLets before × StraightLets after
  around_straight [] after zs xs s r k m h =
      (tt, chain_straight after xs (total_straight (chain after (Gives xs)) (note_all k zs (right_facts called r k)) (learn_index (length grid) m zs r k) h))
  around_straight (l ∷ ls) after zs xs s r k m h =
      let next = total_around called grid ls (Bind zs s r (chain after (Gives xs))) (note_all k l.targets (right_facts called l.right k)) (learn_index (length grid) m l.targets l.right k) in
      let w = both_true (total_right called grid l.right k m) next h in
      let v = around_straight ls after zs xs s r (note_all k l.targets (right_facts called l.right k)) (learn_index (length grid) m l.targets l.right k) w.1 in
      ((right_straight l.right k m w.0, v.0), v.1)

-- ---- they weigh nothing

mutual
  no_weight : (b : BlockTerm) → Straight b → weight b ≡ 0
  no_weight (Gives xs) h = refl
  no_weight (Bind xs s r b) h = λ i. no_weight_right r h.0 i + no_weight b h.1 i

  no_weight_right : (r : RightTerm) → StraightRight r → weight_right r ≡ 0
  no_weight_right (Plain p) h = refl
  no_weight_right (RightTerm.If x a b) h = λ i. no_weight a h.0 i + no_weight b h.1 i
  no_weight_right _ h = absurd h

mutual
  no_parted : (b : BlockTerm) → Straight b → parted_in b ≡ 0
  no_parted (Gives xs) h = refl
  no_parted (Bind xs s r b) h = λ i. no_parted_right r h.0 i + no_parted b h.1 i

  no_parted_right : (r : RightTerm) → StraightRight r → parted_in_right r ≡ 0
  no_parted_right (Plain p) h = refl
  no_parted_right (RightTerm.If x a b) h = λ i. no_parted a h.0 i + no_parted b h.1 i
  no_parted_right _ h = absurd h

nought : (n : ℕ) → 0 + n ≡ n
nought n = omega arith

pub chain_weight : (ls : List LetTerm) (b : BlockTerm) → StraightLets ls → weight (chain ls b) ≡ weight b
chain_weight [] b h = refl
chain_weight (l ∷ ls) b h = (λ i. no_weight_right l.right h.0 i + chain_weight ls b h.1 i) ∙ nought (weight b)

pub chain_parted : (ls : List LetTerm) (b : BlockTerm) → StraightLets ls → parted_in (chain ls b) ≡ parted_in b
chain_parted [] b h = refl
chain_parted (l ∷ ls) b h = (λ i. no_parted_right l.right h.0 i + chain_parted ls b h.1 i) ∙ nought (parted_in b)

-- ---- they call nothing

module _ (P : ℕ → Type 0) where
  mutual
    no_calls : (b : BlockTerm) → Straight b → CallsAll P b
    no_calls (Gives xs) h = tt
    no_calls (Bind xs s r b) h = (no_calls_right r h.0, no_calls b h.1)

    no_calls_right : (r : RightTerm) → StraightRight r → CallsAllRight P r
    no_calls_right (Plain p) h = tt
    no_calls_right (RightTerm.If x a b) h = (no_calls a h.0, no_calls b h.1)
    no_calls_right _ h = absurd h

  pub chain_calls : (ls : List LetTerm) (b : BlockTerm) → StraightLets ls → CallsAll P b → CallsAll P (chain ls b)
  chain_calls [] b h k = k
  chain_calls (l ∷ ls) b h k = (no_calls_right l.right h.0, chain_calls ls b h.1 k)

  pub calls_behind : (ls : List LetTerm) (b : BlockTerm) → CallsAll P (chain ls b) → CallsAll P b
  calls_behind [] b k = k
  calls_behind (l ∷ ls) b k = calls_behind ls b k.1

pub chain_append : (ls ms : List LetTerm) (b : BlockTerm) → chain (ls ++ ms) b ≡ chain ls (chain ms b)
chain_append [] ms b = refl
chain_append (l ∷ ls) ms b = λ i. Bind l.targets l.site l.right (chain_append ls ms b i)
