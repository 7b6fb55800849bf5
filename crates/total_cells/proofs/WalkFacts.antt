-- One binding of a walk more, and its ends.
use Rattle.std.specs.Prelude.{unwrap_or, Vec}
use Rattle.std.specs.Option.{is_some}
use Rattle.std.specs.declared.alloc.Global.{Global}
use Rattle.std.proofs.Common.{◌≡◌, ℕ, Bool, true, false, ◌&&◌, List, [], ◌∷◌, map, length, Option, Some, None, refl, sym, ap, ◌∙◌}
use Rattle.sac_base.specs.declared.grid.Grid1.{Grid1}
use Rattle.core_ir.specs.declared.tree.Let.{Let}
use Rattle.core_ir.specs.declared.tree.Block.{Block, out-Block}
use Rattle.core_ir.specs.Terms.{BlockTerm, RightTerm, Gives, chain}
use Rattle.core_ir.specs.View.{block_term, let_term, right_term}
use Rattle.core_ir.proofs.Trees.{block_out}
use Rattle.core_facts.specs.Facts.{Fact, Facts, note_all, right_facts, block_facts, common_facts}
use Rattle.core_loops.specs.Indices.{IndexFacts, learn_index, is_scalar_shape, total_block, total_right}
use Rattle.fact_table.specs.declared.known.Known.{Known}
use Rattle.fact_table.specs.Table.{fact_of}
use Rattle.total_cells.specs.Totals.{known_if, seen}

module _ (called : ℕ → List (Option (List ℕ))) (grid : List Grid1) where
  -- a binding that never faults
  pub total_turn : (k k' : Facts) (m m' : IndexFacts) (x : Let) (before rest : List Let) (end : BlockTerm) (whole : Bool) → before ≡ x ∷ rest → true ≡ total_right called grid (right_term x.right) k m
      → k' ≡ note_all k x.targets.items (right_facts called (right_term x.right) k) → m' ≡ learn_index (length grid) m x.targets.items (right_term x.right) k
      → total_block called grid (chain (map let_term before) end) k m ≡ whole → total_block called grid (chain (map let_term rest) end) k' m' ≡ whole
  total_turn k k' m m' x before rest end whole b t p q h =
      (λ i. total_block called grid (chain (map let_term rest) end) (p i) (q i))
      ∙ (λ i. t i && total_block called grid (chain (map let_term rest) end) (note_all k x.targets.items (right_facts called (right_term x.right) k)) (learn_index (length grid) m x.targets.items (right_term x.right) k))
      ∙ (λ i. total_block called grid (chain (map let_term (sym b i)) end) k m)
      ∙ h

  -- a binding that may fault
  pub total_stop : (k : Facts) (m : IndexFacts) (x : Let) (before rest : List Let) (end : BlockTerm) (whole : Bool) → before ≡ x ∷ rest → false ≡ total_right called grid (right_term x.right) k m
      → total_block called grid (chain (map let_term before) end) k m ≡ whole → whole ≡ false
  total_stop k m x before rest end whole b t h =
      sym h
      ∙ (λ i. total_block called grid (chain (map let_term (b i)) end) k m)
      ∙ (λ i. sym t i && total_block called grid (chain (map let_term rest) end) (note_all k x.targets.items (right_facts called (right_term x.right) k)) (learn_index (length grid) m x.targets.items (right_term x.right) k))

pub known_turn : (called : ℕ → List (Option (List ℕ))) (k k' : Facts) (x : Let) (before rest : List Let) (end : BlockTerm) (whole : List Fact) → before ≡ x ∷ rest
    → k' ≡ note_all k x.targets.items (right_facts called (right_term x.right) k) → block_facts called (chain (map let_term before) end) k ≡ whole → block_facts called (chain (map let_term rest) end) k' ≡ whole
known_turn called k k' x before rest end whole b p h =
    ap (block_facts called (chain (map let_term rest) end)) p ∙ (λ i. block_facts called (chain (map let_term (sym b i)) end) k) ∙ h

-- all bindings are passed
pub block_known : (called : ℕ → List (Option (List ℕ))) (grid : List Grid1) (b : Block) (k k' : Facts) (m m' : IndexFacts) (lets : List Let) (fs : List Fact) → lets ≡ (out-Block b).lets.items
    → ((end : BlockTerm) → total_block called grid (chain (map let_term lets) end) k m ≡ total_block called grid end k' m') → ((end : BlockTerm) → block_facts called (chain (map let_term lets) end) k ≡ block_facts called end k')
    → fs ≡ map k' (out-Block b).results.items → Some fs ≡ known_if (total_block called grid (block_term b) k m) (block_facts called (block_term b) k)
block_known called grid b k k' m m' lets fs l t f r =
    let end = Gives (out-Block b).results.items in
    ap Some r
    ∙ (λ i. known_if (sym (t end) i) (sym (f end) i))
    ∙ (λ i. known_if (total_block called grid (chain (map let_term (l i)) end) k m) (block_facts called (chain (map let_term (l i)) end) k))
    ∙ (λ i. known_if (total_block called grid (sym (block_out b) i) k m) (block_facts called (sym (block_out b) i) k))

-- one of them may fault
pub block_unknown : (called : ℕ → List (Option (List ℕ))) (grid : List Grid1) (b : Block) (k : Facts) (m : IndexFacts) (lets : List Let) → lets ≡ (out-Block b).lets.items
    → ((end : BlockTerm) → total_block called grid (chain (map let_term lets) end) k m ≡ false) → None ≡ known_if (total_block called grid (block_term b) k m) (block_facts called (block_term b) k)
block_unknown called grid b k m lets l t =
    let end = Gives (out-Block b).results.items in
    let fs = block_facts called (block_term b) k in
    (λ i. known_if (sym (t end) i) fs)
    ∙ (λ i. known_if (total_block called grid (chain (map let_term (l i)) end) k m) fs)
    ∙ (λ i. known_if (total_block called grid (sym (block_out b) i) k m) fs)

-- what a known answer says
pub is_known : (b : Bool) (fs gs : List Fact) → Some fs ≡ known_if b gs → (b ≡ true) × (fs ≡ gs)
is_known true fs gs e = (refl, ap (λ (o : Option (List Fact)). unwrap_or o []) e)
is_known false fs gs e = absurd (let q : ◌≡◌ {A = Option (List Fact)} (Some fs) None = e in cc)

pub is_unknown : (b : Bool) (gs : List Fact) → None ≡ known_if b gs → b ≡ false
is_unknown true gs e = absurd (let q : ◌≡◌ {A = Option (List Fact)} None (Some gs) = e in cc)
is_unknown false gs e = refl

-- ---- conditionals

pub choice_unknown : (s a b : Bool) (fs : List Fact) → b ≡ false → None ≡ known_if (s && a && b) fs
choice_unknown true true b fs e = λ i. known_if (sym e i) fs
choice_unknown true false b fs e = refl
choice_unknown false a b fs e = refl

pub choice_known : (s a b : Bool) (fs gs : List Fact) → s ≡ true → a ≡ true → b ≡ true → gs ≡ fs → Some gs ≡ known_if (s && a && b) fs
choice_known s a b fs gs p q r e = (λ i. known_if (sym p i && sym q i && sym r i) (e i))

-- whether there is an answer
pub some_is : (o : Option (Vec Known Global)) (b : Bool) (fs : List Fact) → seen o ≡ known_if b fs → is_some o ≡ b
some_is None true fs e = absurd (let q : ◌≡◌ {A = Option (List Fact)} None (Some fs) = e in cc)
some_is None false fs e = refl
some_is (Some v) true fs e = refl
some_is (Some v) false fs e = absurd (let q : ◌≡◌ {A = Option (List Fact)} (Some (map fact_of v.items)) None = e in cc)
