-- The groups that are met on the way through a term, and that each of them has a property.
use Rattle.std.proofs.Common.{◌≡◌, ℕ, zero, suc, ◌+◌, ◌<◌, ◌≤◌, get_or, arith, List, [], ◌∷◌, ◌++◌, map, length, drop, refl, ap, sym, ◌∙◌, append_assoc, append-nil}
use Rattle.std.specs.Prelude.{All}
use Rattle.std.proofs.Math.Seq.{drop-cons}
use Rattle.std.proofs.lemmas.List.{at_drop_all}
use Rattle.core_ir.specs.declared.tree.Block.{Block, out-Block}
use Rattle.core_ir.specs.declared.tree.Let.{Let}
use Rattle.core_ir.specs.declared.tree.CoreGen.{CoreGen, CoreGen', out-CoreGen}
use Rattle.core_ir.specs.declared.tree.CorePart.{CorePart, CorePart', out-CorePart}
use Rattle.core_ir.specs.declared.tree.WithLoop.{WithLoop, out-WithLoop}
use Rattle.core_ir.specs.declared.tree.PartedLoop.{PartedLoop, out-PartedLoop}
use Rattle.core_ir.specs.declared.tree.Var.{Var}
use Rattle.core_ir.specs.Terms.{BlockTerm, RightTerm, GensTerm, PartsTerm, Gives, Bind, Plain, NoGens, Gen, NoParts, Part, chain, gens_of, parts_of}
use Rattle.core_ir.specs.View.{block_term, right_term, with_term, parted_term, let_term, gen_term, part_term}
use Rattle.core_ir.specs.WellFormed.{calls_in, calls_in_right, calls_in_gens, calls_in_parts}
use Rattle.core_ir.proofs.Trees.{block_out, with_out, parted_out}
use Rattle.core_facts.specs.calls.Nests.{CallsAll, CallsAllRight, CallsAllGens, CallsAllParts}

abbrev pub lets_calls : List Let → List ℕ
lets_calls [] = []
lets_calls (l ∷ ls) = calls_in_right (right_term l.right) ++ lets_calls ls

abbrev pub gens_calls : List CoreGen → List ℕ
gens_calls [] = []
gens_calls (g ∷ gs) = calls_in (gen_term g).body ++ gens_calls gs

abbrev pub parts_calls : List CorePart → List ℕ
parts_calls [] = []
parts_calls (p ∷ ps) = calls_in (part_term p).body ++ parts_calls ps

calls_of_lets : (ls : List Let) (rs : List Var) → calls_in (chain (map let_term ls) (Gives rs)) ≡ lets_calls ls
calls_of_lets [] rs = refl
calls_of_lets (l ∷ ls) rs = ap (λ xs. calls_in_right (right_term l.right) ++ xs) (calls_of_lets ls rs)

calls_of_gens : (gs : List CoreGen) → calls_in_gens (gens_of (map gen_term gs)) ≡ gens_calls gs
calls_of_gens [] = refl
calls_of_gens (g ∷ gs) = ap (λ xs. calls_in (gen_term g).body ++ xs) (calls_of_gens gs)

calls_of_parts : (ps : List CorePart) → calls_in_parts (parts_of (map part_term ps)) ≡ parts_calls ps
calls_of_parts [] = refl
calls_of_parts (p ∷ ps) = ap (λ xs. calls_in (part_term p).body ++ xs) (calls_of_parts ps)

pub block_calls : (b : Block) → calls_in (block_term b) ≡ lets_calls (out-Block b).lets.items
block_calls b = ap calls_in (block_out b) ∙ calls_of_lets (out-Block b).lets.items (out-Block b).results.items

pub with_calls : (w : WithLoop) → calls_in_right (with_term w) ≡ gens_calls (out-WithLoop w).gens.items
with_calls w = ap calls_in_right (with_out w) ∙ calls_of_gens (out-WithLoop w).gens.items

pub parted_calls : (p : PartedLoop) → calls_in_right (parted_term p) ≡ parts_calls (out-PartedLoop p).parts.items
parted_calls p = ap calls_in_right (parted_out p) ∙ calls_of_parts (out-PartedLoop p).parts.items

-- the body of a generator, and of a part
pub gen_body : (g : CoreGen) → block_term (out-CoreGen g).body ≡ (gen_term g).body
unfolding out-CoreGen denote.Hole.Carrier.out
gen_body (CoreGen' a b c d e f h i j k) = refl

pub part_body : (p : CorePart) → block_term (out-CorePart p).body ≡ (part_term p).body
unfolding out-CorePart denote.Hole.Carrier.out
part_body (CorePart' a b c d) = refl

-- ---- loops that append

appended : (xs xs' new rest before whole : List ℕ) → xs ++ before ≡ whole → before ≡ new ++ rest → xs' ≡ xs ++ new → xs' ++ rest ≡ whole
appended xs xs' new rest before whole p b e = (λ i. e i ++ rest) ∙ append_assoc xs new rest ∙ (λ i. xs ++ sym b i) ∙ p

-- after the last turn
pub all_met : {A : Type 0} (f : List A → List ℕ) (xs start : List ℕ) (i : ℕ) (items all : List A) → f [] ≡ [] → xs ++ f (drop i items) ≡ start ++ f items → length items ≤ i → items ≡ all → xs ≡ start ++ f all
all_met f xs start i items all z p over q =
    sym (append-nil xs) ∙ (λ j. xs ++ sym (at_drop_all f items i over ∙ z) j) ∙ p ∙ ap (λ ys. start ++ f ys) q

items_step : {A : Type 0} (f : List A → List ℕ) (g : A → List ℕ) (xs : List A) (i : ℕ) (x : A) → ((y : A) (ys : List A) → f (y ∷ ys) ≡ g y ++ f ys) → i < length xs → x ≡ get_or xs i x → f (drop i xs) ≡ g x ++ f (drop (i + 1) xs)
items_step f g xs i x each h is =
    let next : suc i ≡ i + 1 = omega arith in
    ap f (drop-cons xs i x h) ∙ each (get_or xs i x) (drop (suc i) xs) ∙ (λ j. g (sym is j) ++ f (drop (next j) xs))

-- what is there, with what the rest gives, stays the whole
pub turned : {A : Type 0} (f : List A → List ℕ) (g : A → List ℕ) (xs : List A) (i : ℕ) (x : A) (old new whole : List ℕ) → ((y : A) (ys : List A) → f (y ∷ ys) ≡ g y ++ f ys) → i < length xs → x ≡ get_or xs i x → old ++ f (drop i xs) ≡ whole → new ≡ old ++ g x → new ++ f (drop (i + 1) xs) ≡ whole
turned f g xs i x old new whole each h is p e = appended old new (g x) (f (drop (i + 1) xs)) (f (drop i xs)) whole p (items_step f g xs i x each h is) e

pub let_calls : (y : Let) (ys : List Let) → lets_calls (y ∷ ys) ≡ calls_in_right (right_term y.right) ++ lets_calls ys
let_calls y ys = refl

pub gen_calls : (y : CoreGen) (ys : List CoreGen) → gens_calls (y ∷ ys) ≡ calls_in (gen_term y).body ++ gens_calls ys
gen_calls y ys = refl

pub part_calls : (y : CorePart) (ys : List CorePart) → parts_calls (y ∷ ys) ≡ calls_in (part_term y).body ++ parts_calls ys
part_calls y ys = refl

-- ---- a property of each group in the list

module _ (P : ℕ → Type 0) where
  left_half : (xs ys : List ℕ) → All P (xs ++ ys) → All P xs
  left_half [] ys h k d l = absurd (omega (arith, l))
  left_half (x ∷ xs) ys h zero d l = h zero d (omega arith)
  left_half (x ∷ xs) ys h (suc k) d l = left_half xs ys (λ j e m. h (suc j) e (omega (arith, m))) k d (omega (arith, l))

  right_half : (xs ys : List ℕ) → All P (xs ++ ys) → All P ys
  right_half [] ys h = h
  right_half (x ∷ xs) ys h = right_half xs ys (λ j e m. h (suc j) e (omega (arith, m)))

  mutual
    pub calls_all : (b : BlockTerm) → All P (calls_in b) → CallsAll P b
    calls_all (Gives xs) h = tt
    calls_all (Bind xs s r b) h = (right_all r (left_half (calls_in_right r) (calls_in b) h), calls_all b (right_half (calls_in_right r) (calls_in b) h))

    right_all : (r : RightTerm) → All P (calls_in_right r) → CallsAllRight P r
    right_all (Plain p) h = tt
    right_all (RightTerm.If x a b) h = (calls_all a (left_half (calls_in a) (calls_in b) h), calls_all b (right_half (calls_in a) (calls_in b) h))
    right_all (RightTerm.Loop first start params a b s) h = (calls_all a (left_half (calls_in a) (calls_in b) h), calls_all b (right_half (calls_in a) (calls_in b) h))
    right_all (RightTerm.Call g xs) h = h 0 0 (omega arith)
    right_all (RightTerm.With o gens) h = gens_all gens h
    right_all (RightTerm.Parted f t c o parts) h = parts_all parts h

    gens_all : (g : GensTerm) → All P (calls_in_gens g) → CallsAllGens P g
    gens_all NoGens h = tt
    gens_all (Gen k b rest) h = (calls_all b (left_half (calls_in b) (calls_in_gens rest) h), gens_all rest (right_half (calls_in b) (calls_in_gens rest) h))

    parts_all : (g : PartsTerm) → All P (calls_in_parts g) → CallsAllParts P g
    parts_all NoParts h = tt
    parts_all (Part k b rest) h = (calls_all b (left_half (calls_in b) (calls_in_parts rest) h), parts_all rest (right_half (calls_in b) (calls_in_parts rest) h))
