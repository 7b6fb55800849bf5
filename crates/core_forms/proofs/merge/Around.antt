-- Whether bindings never fault does not hang on what is known of a variable that they do not use.
use Rattle.std.proofs.Common.{◌≡◌, ℕ, true, false, not, ◌&&◌, ◌||◌, cond, eqb, List, [], ◌∷◌, map, length, Option, refl, ◌∙◌}
use Rattle.sac_base.specs.declared.grid.Grid1.{Grid1}
use Rattle.sac_base.specs.declared.op.Op.TheVariants as op
use Rattle.sac_base.specs.declared.site.Site.{Site}
use Rattle.sac_base.specs.Operators.{binary}
use Rattle.sac_base.specs.Parts.{literal}
use Rattle.core_ir.specs.declared.tree.Var.{Var}
use Rattle.core_ir.specs.Scopes.{plain_uses}
use Rattle.core_ir.specs.Terms.{PlainTerm, BlockTerm, RightTerm, LetTerm, Gives, Bind, Plain, chain}
use Rattle.core_ir.specs.Uses.{AvoidsAll, Avoids, AvoidsRight}
use Rattle.core_facts.specs.Facts.{Fact, Facts, are_literal, are_scalars, both_shapes, block_facts, common_facts, is_scalar, is_some, is_sum, note, note_all, plain_fact, right_facts, row_shape, small, unknown, values, when}
use Rattle.core_loops.specs.Indices.{IndexFact, IndexFacts, component_of, components_from, either, in_range, index_fact, is_division, is_scalar_shape, learn_index, may_be_row, no_zero, note_index, note_others, plus_literal, right_index, row_fact, total_block, total_plain, total_right, Other}
use Rattle.core_loops.specs.Pairs.{AvoidsLets, total_around}

module _ (z : Var) where
  -- the same of each variable but one
  abbrev SameFacts : Facts → Facts → Type 0
  SameFacts k k' = (y : Var) → eqb z.0 y.0 ≡ false → k y ≡ k' y

  abbrev SameIndices : IndexFacts → IndexFacts → Type 0
  SameIndices m m' = (y : Var) → eqb z.0 y.0 ≡ false → m y ≡ m' y

  -- ---- notes

  note_same : (k k' : Facts) (x : Var) (f : Fact) → SameFacts k k' → SameFacts (note k x f) (note k' x f)
  note_same k k' x f h y n = λ i. cond (eqb x.0 y.0) f (h y n i)

  notes_same : (k k' : Facts) (xs : List Var) (fs gs : List Fact) → SameFacts k k' → fs ≡ gs → SameFacts (note_all k xs fs) (note_all k' xs gs)
  notes_same k k' xs fs gs h e y n = go k k' xs fs h y n ∙ (λ i. note_all k' xs (e i) y)
    where
      go : (k k' : Facts) (xs : List Var) (fs : List Fact) → SameFacts k k' → SameFacts (note_all k xs fs) (note_all k' xs fs)
      go k k' [] fs h = h
      go k k' (x ∷ xs) [] h = go (note k x unknown) (note k' x unknown) xs [] (note_same k k' x unknown h)
      go k k' (x ∷ xs) (f ∷ fs) h = go (note k x f) (note k' x f) xs fs (note_same k k' x f h)

  index_same : (m m' : IndexFacts) (x : Var) (f g : IndexFact) → SameIndices m m' → f ≡ g → SameIndices (note_index m x f) (note_index m' x g)
  index_same m m' x f g h e y n = λ i. cond (eqb x.0 y.0) (e i) (h y n i)

  others_same : (m m' : IndexFacts) (xs : List Var) → SameIndices m m' → SameIndices (note_others m xs) (note_others m' xs)
  others_same m m' [] h = h
  others_same m m' (x ∷ xs) h = others_same (note_index m x Other) (note_index m' x Other) xs (index_same m m' x Other Other h refl)

  -- ---- right sides without blocks

  module _ (k k' : Facts) (h : SameFacts k k') where
    shapes_same : (xs : List Var) → AvoidsAll z xs → map (λ (x : Var). (k x).shape) xs ≡ map (λ (x : Var). (k' x).shape) xs
    shapes_same [] n = refl
    shapes_same (x ∷ xs) n = λ i. (h x n.0 i).shape ∷ shapes_same xs n.1 i

    literal_same : (xs : List Var) → AvoidsAll z xs → are_literal k xs ≡ are_literal k' xs
    literal_same [] n = refl
    literal_same (x ∷ xs) n = λ i. is_some (h x n.0 i).literal && literal_same xs n.1 i

    values_same : (xs : List Var) → AvoidsAll z xs → map (values k) xs ≡ map (values k') xs
    values_same [] n = refl
    values_same (x ∷ xs) n = λ i. values (λ v. h x n.0 i) x ∷ values_same xs n.1 i

    scalars_same : (xs : List Var) → AvoidsAll z xs → are_scalars k xs ≡ are_scalars k' xs
    scalars_same [] n = refl
    scalars_same (x ∷ xs) n = λ i. is_scalar (values (λ v. h x n.0 i) x) && scalars_same xs n.1 i

    plain_same : (p : PlainTerm) → AvoidsAll z (plain_uses p) → plain_fact p k ≡ plain_fact p k'
    plain_same (PlainTerm.Const a) n = refl
    plain_same (PlainTerm.Copy x) n = λ i. plain_fact (PlainTerm.Copy x) (λ v. h x n.0 i)
    plain_same (PlainTerm.Unary o x) n = λ i. plain_fact (PlainTerm.Unary o x) (λ v. h x n.0 i)
    plain_same (PlainTerm.Binary o x y) n =
        λ i. record {
          shape = both_shapes (h x n.0 i).shape (h y n.1.0 i).shape;
          literal = when (is_sum o && ((h x n.0 i).constant || (h y n.1.0 i).constant) && (is_some (h x n.0 i).literal && (is_some (h y n.1.0 i).literal && true)))
              (small (binary o (values (λ v. h x n.0 i) x) (values (λ v. h y n.1.0 i) y)));
          constant = false;
        }
    plain_same (PlainTerm.Literal xs) n =
        λ i. record { shape = row_shape (shapes_same xs n i); literal = when (literal_same xs n i && scalars_same xs n i) (small (literal (values_same xs n i))); constant = false }
    plain_same (PlainTerm.Dim x) n = λ i. plain_fact (PlainTerm.Dim x) (λ v. h x n.0 i)
    plain_same (PlainTerm.ShapeOf x) n = λ i. plain_fact (PlainTerm.ShapeOf x) (λ v. h x n.0 i)
    plain_same (PlainTerm.Reshape x y) n = λ i. plain_fact (PlainTerm.Reshape x y) (λ v. h x n.0 i)
    plain_same (PlainTerm.Select x y) n =
        λ i. record { shape = Rattle.core_facts.specs.Facts.selected_shape (h x n.0 i).shape (h y n.1.0 i).shape; literal = Option.None; constant = false }
    plain_same (PlainTerm.Replace x y v) n = λ i. plain_fact (PlainTerm.Replace x y v) (λ u. h x n.0 i)
    plain_same (PlainTerm.Always kind) n = refl
    plain_same (PlainTerm.Check x t) n = λ i. plain_fact (PlainTerm.Check x t) (λ v. h x n.0 i)

    module _ (grid : List Grid1) (axes : ℕ) (m m' : IndexFacts) (g : SameIndices m m') where
      rows_same : (xs : List Var) → AvoidsAll z xs → map m xs ≡ map m' xs
      rows_same [] n = refl
      rows_same (x ∷ xs) n = λ i. g x n.0 i ∷ rows_same xs n.1 i

      index_fact_same : (p : PlainTerm) → AvoidsAll z (plain_uses p) → index_fact axes p k m ≡ index_fact axes p k' m'
      index_fact_same (PlainTerm.Copy x) n = g x n.0
      index_fact_same (PlainTerm.Binary op.Add x y) n = λ i. either (plus_literal true (g x n.0 i) (h y n.1.0 i).literal) (plus_literal true (g y n.1.0 i) (h x n.0 i).literal)
      index_fact_same (PlainTerm.Binary op.Sub x y) n = λ i. plus_literal false (g x n.0 i) (h y n.1.0 i).literal
      index_fact_same (PlainTerm.Literal xs) n = λ i. row_fact axes (components_from 0 (rows_same xs n i))
      index_fact_same (PlainTerm.Select x y) n = λ i. component_of (g x n.0 i) (h y n.1.0 i).literal
      index_fact_same _ n = refl

      total_plain_same : (p : PlainTerm) → AvoidsAll z (plain_uses p) → total_plain grid p k m ≡ total_plain grid p k' m'
      total_plain_same (PlainTerm.Unary o x) n = λ i. is_some (h x n.0 i).shape
      total_plain_same (PlainTerm.Binary o x y) n = λ i. is_some (both_shapes (h x n.0 i).shape (h y n.1.0 i).shape) && (not (is_division o) || no_zero (h y n.1.0 i).literal)
      total_plain_same (PlainTerm.Literal xs) n = λ i. may_be_row (row_shape (shapes_same xs n i))
      total_plain_same (PlainTerm.Dim x) n = λ i. is_some (h x n.0 i).shape
      total_plain_same (PlainTerm.ShapeOf x) n = λ i. is_some (h x n.0 i).shape
      total_plain_same (PlainTerm.Select x y) n = λ i. in_range grid (h x n.0 i).shape (g y n.1.0 i) (h y n.1.0 i).literal
      total_plain_same _ n = refl

  -- ---- blocks

  module _ (called : ℕ → List (Option (List ℕ))) where
    mutual
      facts_same : (b : BlockTerm) (k k' : Facts) → SameFacts k k' → Avoids z b → block_facts called b k ≡ block_facts called b k'
      facts_same (Gives xs) k k' h n = results_same xs n
        where
          results_same : (xs : List Var) → AvoidsAll z xs → map k xs ≡ map k' xs
          results_same [] n = refl
          results_same (x ∷ xs) n = λ i. h x n.0 i ∷ results_same xs n.1 i
      facts_same (Bind xs s r b) k k' h n =
          facts_same b (note_all k xs (right_facts called r k)) (note_all k' xs (right_facts called r k')) (notes_same k k' xs (right_facts called r k) (right_facts called r k') h (right_facts_same r k k' h n.0)) n.1

      right_facts_same : (r : RightTerm) (k k' : Facts) → SameFacts k k' → AvoidsRight z r → right_facts called r k ≡ right_facts called r k'
      right_facts_same (Plain p) k k' h n = λ i. plain_same k k' h p n i ∷ []
      right_facts_same (RightTerm.If x a b) k k' h n = λ i. common_facts (facts_same a k k' h n.1 i) (facts_same b k k' h n.2 i)
      right_facts_same (RightTerm.Loop first start params test body s) k k' h n = refl
      right_facts_same (RightTerm.Call group xs) k k' h n = refl
      right_facts_same (RightTerm.With o gens) k k' h n = refl
      right_facts_same (RightTerm.Parted f b c o parts) k k' h n = refl

    module _ (grid : List Grid1) where
      right_index_same : (r : RightTerm) (k k' : Facts) (m m' : IndexFacts) → SameFacts k k' → SameIndices m m' → AvoidsRight z r → right_index (length grid) r k m ≡ right_index (length grid) r k' m'
      right_index_same (Plain p) k k' m m' h g n = index_fact_same k k' h grid (length grid) m m' g p n
      right_index_same (RightTerm.If x a b) k k' m m' h g n = refl
      right_index_same (RightTerm.Loop first start params test body s) k k' m m' h g n = refl
      right_index_same (RightTerm.Call group xs) k k' m m' h g n = refl
      right_index_same (RightTerm.With o gens) k k' m m' h g n = refl
      right_index_same (RightTerm.Parted f b c o parts) k k' m m' h g n = refl

      learned_same : (xs : List Var) (r : RightTerm) (k k' : Facts) (m m' : IndexFacts) → SameFacts k k' → SameIndices m m' → AvoidsRight z r → SameIndices (learn_index (length grid) m xs r k) (learn_index (length grid) m' xs r k')
      learned_same [] r k k' m m' h g n = g
      learned_same (x ∷ []) r k k' m m' h g n = index_same m m' x (right_index (length grid) r k m) (right_index (length grid) r k' m') g (right_index_same r k k' m m' h g n)
      learned_same (x ∷ y ∷ xs) r k k' m m' h g n = others_same m m' (x ∷ y ∷ xs) g

      mutual
        total_same : (b : BlockTerm) (k k' : Facts) (m m' : IndexFacts) → SameFacts k k' → SameIndices m m' → Avoids z b → total_block called grid b k m ≡ total_block called grid b k' m'
        total_same (Gives xs) k k' m m' h g n = refl
        total_same (Bind xs s r b) k k' m m' h g n =
            λ i. right_same r k k' m m' h g n.0 i &&
            total_same b (note_all k xs (right_facts called r k)) (note_all k' xs (right_facts called r k')) (learn_index (length grid) m xs r k) (learn_index (length grid) m' xs r k')
            (notes_same k k' xs (right_facts called r k) (right_facts called r k') h (right_facts_same r k k' h n.0)) (learned_same xs r k k' m m' h g n.0) n.1 i

        right_same : (r : RightTerm) (k k' : Facts) (m m' : IndexFacts) → SameFacts k k' → SameIndices m m' → AvoidsRight z r → total_right called grid r k m ≡ total_right called grid r k' m'
        right_same (Plain p) k k' m m' h g n = total_plain_same k k' h grid (length grid) m m' g p n
        right_same (RightTerm.If x a b) k k' m m' h g n = λ i. is_scalar_shape (h x n.0 i).shape && total_same a k k' m m' h g n.1 i && total_same b k k' m m' h g n.2 i
        right_same (RightTerm.Loop first start params test body s) k k' m m' h g n = refl
        right_same (RightTerm.Call group xs) k k' m m' h g n = refl
        right_same (RightTerm.With o gens) k k' m m' h g n = refl
        right_same (RightTerm.Parted f b c o parts) k k' m m' h g n = refl

      -- ---- bindings around one

      ends_same : (ls : List LetTerm) (xs ys : List Var) (k : Facts) (m : IndexFacts) → total_block called grid (chain ls (Gives xs)) k m ≡ total_block called grid (chain ls (Gives ys)) k m
      ends_same [] xs ys k m = refl
      ends_same (l ∷ ls) xs ys k m =
          λ i. total_right called grid l.right k m && ends_same ls xs ys (note_all k l.targets (right_facts called l.right k)) (learn_index (length grid) m l.targets l.right k) i

      unused_lets : (ls : List LetTerm) → AvoidsLets z ls → Avoids z (chain ls (Gives []))
      unused_lets [] n = tt
      unused_lets (l ∷ ls) n = (n.0, unused_lets ls n.1)

      -- what is noted of the variable alone
      only_facts : (k : Facts) (fs : List Fact) → SameFacts (note_all k (z ∷ []) fs) k
      only_facts k [] y n = λ i. cond (n i) unknown (k y)
      only_facts k (f ∷ fs) y n = λ i. cond (n i) f (k y)

      only_index : (m : IndexFacts) (f : IndexFact) → SameIndices (note_index m z f) m
      only_index m f y n = λ i. cond (n i) f (m y)

      pub around_passes : (before after : List LetTerm) (s : Site) (r : RightTerm) (xs : List Var) (k : Facts) (m : IndexFacts) → AvoidsLets z after
          → total_around called grid before (Bind (z ∷ []) s r (chain after (Gives xs))) k m ≡ total_block called grid (chain before (chain after (Gives []))) k m
      around_passes [] after s r xs k m n =
          ends_same after xs [] (note_all k (z ∷ []) (right_facts called r k)) (learn_index (length grid) m (z ∷ []) r k)
          ∙ total_same (chain after (Gives [])) (note_all k (z ∷ []) (right_facts called r k)) k (learn_index (length grid) m (z ∷ []) r k) m (only_facts k (right_facts called r k)) (only_index m (right_index (length grid) r k m)) (unused_lets after n)
      around_passes (l ∷ ls) after s r xs k m n =
          λ i. total_right called grid l.right k m && around_passes ls after s r xs (note_all k l.targets (right_facts called l.right k)) (learn_index (length grid) m l.targets l.right k) n i

pub total_alike :
    (called : ℕ → List (Option (List ℕ))) (grid : List Grid1) (before after : List LetTerm) (z : Var) (s : Site) (r : RightTerm) (xs : List Var) (k : Facts) (m : IndexFacts) → AvoidsLets z after →
    total_around called grid before (Bind (z ∷ []) s r (chain after (Gives xs))) k m ≡ total_block called grid (chain before (chain after (Gives []))) k m
total_alike called grid before after z s r xs k m n = around_passes z called grid before after s r xs k m n
