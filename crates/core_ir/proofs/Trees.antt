-- The term of a tree, by the lists that its vectors hold.
use Rattle.std.proofs.Common.{◌≡◌, ℕ, ◌≤◌, length, take, take_all, List, map, refl, ap, ◌∙◌, sym}
use Rattle.core_ir.specs.declared.tree.Var.{Var}
use Rattle.core_ir.specs.declared.tree.Block.{Block, Block', Block-F, out-Block, roll-Block, out-roll-Block, outs-Block', Row_of-Let, end_of-Let, more_of-Let, items-the_row-Let, items_shown-the_row-Let-0}
use Rattle.core_ir.specs.declared.tree.CoreGen.{CoreGen'}
use Rattle.core_ir.specs.declared.tree.CorePart.{CorePart'}
use Rattle.core_ir.specs.declared.tree.WithLoop.{WithLoop, WithLoop', WithLoop-F, out-WithLoop, roll-WithLoop, out-roll-WithLoop, outs-WithLoop', Row_of-CoreGen, end_of-CoreGen, more_of-CoreGen, items-the_row-CoreGen, items_shown-the_row-CoreGen-2}
use Rattle.core_ir.specs.declared.tree.PartedLoop.{PartedLoop, PartedLoop', PartedLoop-F, out-PartedLoop, roll-PartedLoop, out-roll-PartedLoop, outs-PartedLoop', Row_of-CorePart, end_of-CorePart, more_of-CorePart, items-the_row-CorePart, items_shown-the_row-CorePart-1}
use Rattle.core_ir.specs.declared.tree.Right.TheBlock.{the_data, the_data-1, the_data-2, the_data-3, the_data-4, the_data-5, the_data-6}
use Rattle.core_ir.specs.Terms.{RightTerm, Gives, Bind, Gen, Part, chain, gens_of, parts_of}
use Rattle.core_ir.specs.View.{block_term, lets_term, let_term, right_term, with_term, gens_term, gen_term, parted_term, parts_term, part_term}

lets_items : {n : _} → (k : Row_of-Let n) (rs : List Var) → lets_term k rs ≡ chain (map let_term (items-the_row-Let n k)) (Gives rs)
lets_items end_of-Let rs = refl
lets_items (more_of-Let targets site r rest) rs = ap (Bind targets.items site (right_term r)) (lets_items rest rs)

gens_items : {n : _} → (k : Row_of-CoreGen n) → gens_term k ≡ gens_of (map gen_term (items-the_row-CoreGen n k))
gens_items end_of-CoreGen = refl
gens_items (more_of-CoreGen (CoreGen' a b c d e f g h i j) rest) = let g = gen_term (CoreGen' a b c d e f g h i j) in ap (Gen g.head g.body) (gens_items rest)

parts_items : {n : _} → (k : Row_of-CorePart n) → parts_term k ≡ parts_of (map part_term (items-the_row-CorePart n k))
parts_items end_of-CorePart = refl
parts_items (more_of-CorePart (CorePart' a b c d) rest) = let p = part_term (CorePart' a b c d) in ap (Part p.head p.body) (parts_items rest)

pub block_out : (b : Block) → block_term b ≡ chain (map let_term (out-Block b).lets.items) (Gives (out-Block b).results.items)
block_out (Block' shape row results) =
    lets_items row results.items ∙ ap (λ ls. chain (map let_term ls) (Gives results.items)) (sym (items_shown-the_row-Let-0 shape row)) ∙ ap (λ x. chain (map let_term x.lets.items) (Gives x.results.items)) (sym (outs-Block' shape row results))

pub block_roll : (x : Block-F the_data the_data-1 the_data-2 the_data-3 the_data-4 the_data-5 the_data-6) → block_term (roll-Block x) ≡ chain (map let_term x.lets.items) (Gives x.results.items)
block_roll x = block_out (roll-Block x) ∙ ap (λ y. chain (map let_term y.lets.items) (Gives y.results.items)) (out-roll-Block x)

pub with_out : (w : WithLoop) → with_term w ≡ RightTerm.With (out-WithLoop w).op (gens_of (map gen_term (out-WithLoop w).gens.items))
with_out (WithLoop' shape row op) =
    ap (RightTerm.With op) (gens_items row) ∙ ap (λ ls. RightTerm.With op (gens_of (map gen_term ls))) (sym (items_shown-the_row-CoreGen-2 shape row)) ∙ ap (λ x. RightTerm.With x.op (gens_of (map gen_term x.gens.items))) (sym (outs-WithLoop' shape row op))

pub with_roll : (x : WithLoop-F the_data the_data-1 the_data-2 the_data-3 the_data-4 the_data-5 the_data-6) → with_term (roll-WithLoop x) ≡ RightTerm.With x.op (gens_of (map gen_term x.gens.items))
with_roll x = with_out (roll-WithLoop x) ∙ ap (λ y. RightTerm.With y.op (gens_of (map gen_term y.gens.items))) (out-roll-WithLoop x)

pub parted_out : (p : PartedLoop) → parted_term p ≡ RightTerm.Parted (out-PartedLoop p).frame (out-PartedLoop p).base (out-PartedLoop p).cell (out-PartedLoop p).op (parts_of (map part_term (out-PartedLoop p).parts.items))
parted_out (PartedLoop' frame base cell op shape row) =
    ap (RightTerm.Parted frame base cell op) (parts_items row) ∙ ap (λ ls. RightTerm.Parted frame base cell op (parts_of (map part_term ls))) (sym (items_shown-the_row-CorePart-1 shape row)) ∙ ap (λ x. RightTerm.Parted x.frame x.base x.cell x.op (parts_of (map part_term x.parts.items))) (sym (outs-PartedLoop' frame base cell op shape row))

pub parted_roll : (x : PartedLoop-F the_data the_data-1 the_data-2 the_data-3 the_data-4 the_data-5 the_data-6) → parted_term (roll-PartedLoop x) ≡ RightTerm.Parted x.frame x.base x.cell x.op (parts_of (map part_term x.parts.items))
parted_roll x = parted_out (roll-PartedLoop x) ∙ ap (λ y. RightTerm.Parted y.frame y.base y.cell y.op (parts_of (map part_term y.parts.items))) (out-roll-PartedLoop x)

-- trees whose lists stand for the same terms stand for the same term
pub block_same : (x : Block-F the_data the_data-1 the_data-2 the_data-3 the_data-4 the_data-5 the_data-6) (b : Block) → map let_term x.lets.items ≡ map let_term (out-Block b).lets.items → x.results.items ≡ (out-Block b).results.items → block_term (roll-Block x) ≡ block_term b
block_same x b p q = block_roll x ∙ (λ i. chain (p i) (Gives (q i))) ∙ sym (block_out b)

pub with_same : (x : WithLoop-F the_data the_data-1 the_data-2 the_data-3 the_data-4 the_data-5 the_data-6) (w : WithLoop) → map gen_term x.gens.items ≡ map gen_term (out-WithLoop w).gens.items → x.op ≡ (out-WithLoop w).op → with_term (roll-WithLoop x) ≡ with_term w
with_same x w p q = with_roll x ∙ (λ i. RightTerm.With (q i) (gens_of (p i))) ∙ sym (with_out w)

pub parted_same : (x : PartedLoop-F the_data the_data-1 the_data-2 the_data-3 the_data-4 the_data-5 the_data-6) (w : PartedLoop) → map part_term x.parts.items ≡ map part_term (out-PartedLoop w).parts.items → x.frame ≡ (out-PartedLoop w).frame → x.base ≡ (out-PartedLoop w).base → x.cell ≡ (out-PartedLoop w).cell → x.op ≡ (out-PartedLoop w).op → parted_term (roll-PartedLoop x) ≡ parted_term w
parted_same x w p f b c o = parted_roll x ∙ (λ i. RightTerm.Parted (f i) (b i) (c i) (o i) (parts_of (p i))) ∙ sym (parted_out w)

-- after a loop over a list: what holds of the part so far holds of the whole
pub mapped_all : {A B : Type 0} (f : A → B) (xs items : List A) (n : ℕ) (all : List A) → map f xs ≡ map f (take n items) → length items ≤ n → items ≡ all → map f xs ≡ map f all
mapped_all f xs items n all p h q = p ∙ ap (map f) (take_all n items h ∙ q)
