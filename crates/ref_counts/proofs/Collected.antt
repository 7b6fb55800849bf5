-- Lists of uses that are made one part after another.
use Rattle.std.proofs.Common.{◌≡◌, ℕ, ◌+◌, ◌-◌, ◌<◌, ◌≤◌, List, [], ◌∷◌, ◌++◌, map, length, drop, refl, ap, ◌∙◌, sym, arith}
use Rattle.std.specs.Prelude.{option_to_list, slice_set}
use Rattle.std.proofs.lemmas.List.{at_drop_all}
use Rattle.std.proofs.Math.Seq.{set-append_seam}
use lib.ListN.{length-append}
use Rattle.core_ir.specs.declared.tree.Var.{Var}
use Rattle.core_ir.specs.declared.tree.Block.{Block, out-Block}
use Rattle.core_ir.specs.declared.tree.Let.{Let}
use Rattle.core_ir.specs.declared.tree.CoreGen.{CoreGen, CoreGen', out-CoreGen}
use Rattle.core_ir.specs.declared.tree.CorePart.{CorePart}
use Rattle.core_ir.specs.declared.tree.WithLoop.{WithLoop, out-WithLoop}
use Rattle.core_ir.specs.declared.tree.PartedLoop.{PartedLoop, out-PartedLoop}
use Rattle.core_ir.specs.Scopes.{op_uses, parted_uses, head_uses}
use Rattle.core_ir.specs.Terms.{Gives, chain, gens_of, parts_of}
use Rattle.core_ir.specs.View.{block_term, right_term, with_term, parted_term, let_term, gen_term, part_term}
use Rattle.core_ir.proofs.Trees.{block_out, with_out, parted_out}
use Rattle.ref_rules.specs.declared.listed_uses.list.Entry.{Entry}
use Rattle.ref_rules.specs.declared.listed_uses.list.Entry.TheVariants.{Use, Section}
use Rattle.ref_rules.specs.listed_uses.Latest.{section}
use Rattle.ref_counts.specs.Listing.{each, listed, listed_right, listed_gens, listed_parts, Closes}

pub assoc : {A : Type 0} (xs ys zs : List A) → xs ++ (ys ++ zs) ≡ (xs ++ ys) ++ zs
assoc [] ys zs = refl
assoc (x ∷ xs) ys zs = ap (λ l. x ∷ l) (assoc xs ys zs)

pub append_nil : {A : Type 0} (xs : List A) → xs ++ [] ≡ xs
append_nil [] = refl
append_nil (x ∷ xs) = ap (λ ys. x ∷ ys) (append_nil xs)

abbrev pub let_listed : List Let → List Entry
let_listed [] = []
let_listed (l ∷ ls) = section (listed_right (right_term l.right)) ++ let_listed ls

abbrev pub gen_listed : List CoreGen → List Entry
gen_listed [] = []
gen_listed (g ∷ gs) = section (each (head_uses (gen_term g).head)) ++ (section (listed (gen_term g).body) ++ gen_listed gs)

abbrev pub part_listed : List CorePart → List Entry
part_listed [] = []
part_listed (p ∷ ps) = section (listed (part_term p).body) ++ part_listed ps

pub lets_listed : (ls : List Let) (rs : List Var) → listed (chain (map let_term ls) (Gives rs)) ≡ let_listed ls ++ each rs
lets_listed [] rs = refl
lets_listed (l ∷ ls) rs =
    ap (λ es. section (listed_right (right_term l.right)) ++ es) (lets_listed ls rs) ∙ assoc (section (listed_right (right_term l.right))) (let_listed ls) (each rs)

gens_listed : (gs : List CoreGen) → listed_gens (gens_of (map gen_term gs)) ≡ gen_listed gs
gens_listed [] = refl
gens_listed (g ∷ gs) = ap (λ es. section (each (head_uses (gen_term g).head)) ++ (section (listed (gen_term g).body) ++ es)) (gens_listed gs)

parts_listed : (ps : List CorePart) → listed_parts (parts_of (map part_term ps)) ≡ part_listed ps
parts_listed [] = refl
parts_listed (p ∷ ps) = ap (λ es. section (listed (part_term p).body) ++ es) (parts_listed ps)

pub block_listed : (b : Block) → listed (block_term b) ≡ let_listed (out-Block b).lets.items ++ each (out-Block b).results.items
block_listed b = ap listed (block_out b) ∙ lets_listed (out-Block b).lets.items (out-Block b).results.items

pub with_listed : (w : WithLoop) → listed_right (with_term w) ≡ section (each (op_uses (out-WithLoop w).op)) ++ gen_listed (out-WithLoop w).gens.items
with_listed w = ap listed_right (with_out w) ∙ ap (λ es. section (each (op_uses (out-WithLoop w).op)) ++ es) (gens_listed (out-WithLoop w).gens.items)

pub parted_listed : (p : PartedLoop) → listed_right (parted_term p) ≡ section (each (parted_uses (out-PartedLoop p).op)) ++ part_listed (out-PartedLoop p).parts.items
parted_listed p = ap listed_right (parted_out p) ∙ ap (λ es. section (each (parted_uses (out-PartedLoop p).op)) ++ es) (parts_listed (out-PartedLoop p).parts.items)

-- after a loop over a list: what is collected is the whole
pub collected_all : {A : Type 0} (f : List A → List Entry) (first out : List Entry) (i : ℕ) (items all : List A) → f [] ≡ [] → out ++ f (drop i items) ≡ first ++ f items → length items ≤ i → items ≡ all → out ≡ first ++ f all
collected_all f first out i items all z p over q =
    let none : f (drop i items) ≡ [] = at_drop_all f items i over ∙ z in
    sym (append_nil out) ∙ (λ j. out ++ sym none j) ∙ p ∙ ap (λ xs. first ++ f xs) q

-- ---- one entry after another

each_append : (xs ys : List Var) → each (xs ++ ys) ≡ each xs ++ each ys
each_append [] ys = refl
each_append (x ∷ xs) ys = ap (λ es. Use x ∷ es) (each_append xs ys)

pub each_more : (first out next : List Entry) (xs here more : List Var) (x : Var) → here ≡ x ∷ more → next ≡ out ++ Use x ∷ [] → out ++ each here ≡ first ++ each xs → next ++ each more ≡ first ++ each xs
each_more first out next xs here more x h e was = ap (λ es. es ++ each more) e ∙ sym (assoc out (Use x ∷ []) (each more)) ∙ ap (λ ys. out ++ each ys) (sym h) ∙ was

pub each_done : (first out : List Entry) (xs : List Var) (i : ℕ) → out ++ each (drop i xs) ≡ first ++ each xs → length xs ≤ i → out ≡ first ++ each xs
each_done first out xs i p over =
    let none : each (drop i xs) ≡ [] = at_drop_all each xs i over in
    sym (append_nil out) ∙ (λ j. out ++ sym none j) ∙ p

-- four lists of uses are appended
four_listed : (first o1 o2 o3 o4 : List Entry) (a b c d : List Var) → o1 ≡ first ++ each a → o2 ≡ o1 ++ each b → o3 ≡ o2 ++ each c → o4 ≡ o3 ++ each d → o4 ≡ first ++ each (a ++ (b ++ (c ++ d)))
four_listed first o1 o2 o3 o4 a b c d p q r s =
    let apart : each (a ++ (b ++ (c ++ d))) ≡ each a ++ (each b ++ (each c ++ each d)) = each_append a (b ++ (c ++ d)) ∙ ap (λ es. each a ++ es) (each_append b (c ++ d) ∙ ap (λ es. each b ++ es) (each_append c d)) in
    let joined : first ++ each (a ++ (b ++ (c ++ d))) ≡ ((first ++ each a) ++ each b) ++ (each c ++ each d) = ap (λ es. first ++ es) apart ∙ assoc first (each a) (each b ++ (each c ++ each d)) ∙ assoc (first ++ each a) (each b) (each c ++ each d) in
    s ∙ ap (λ es. es ++ each d) (r ∙ ap (λ es. es ++ each c) (q ∙ ap (λ es. es ++ each b) p)) ∙ sym (joined ∙ assoc ((first ++ each a) ++ each b) (each c) (each d))

gen_bounds : (g : CoreGen) → head_uses (gen_term g).head ≡ option_to_list (out-CoreGen g).lower ++ (option_to_list (out-CoreGen g).upper ++ (option_to_list (out-CoreGen g).step ++ option_to_list (out-CoreGen g).width))
unfolding out-CoreGen denote.Hole.Carrier.out
gen_bounds (CoreGen' lower lower_closed upper upper_closed step width index names body site) = refl

pub bounds_collected : (g : CoreGen) (first o1 o2 o3 o4 : List Entry) → o1 ≡ first ++ each (option_to_list (out-CoreGen g).lower) → o2 ≡ o1 ++ each (option_to_list (out-CoreGen g).upper) → o3 ≡ o2 ++ each (option_to_list (out-CoreGen g).step) → o4 ≡ o3 ++ each (option_to_list (out-CoreGen g).width) → o4 ≡ first ++ each (head_uses (gen_term g).head)
bounds_collected g first o1 o2 o3 o4 p q r s =
    four_listed first o1 o2 o3 o4 (option_to_list (out-CoreGen g).lower) (option_to_list (out-CoreGen g).upper) (option_to_list (out-CoreGen g).step) (option_to_list (out-CoreGen g).width) p q r s ∙ ap (λ xs. first ++ each xs) (sym (gen_bounds g))

-- the head is written that counts what stands behind it
pub closes_set : (head count : ℕ) (out end before inner : List Entry) → out ≡ (before ++ Section 0 ∷ []) ++ inner → head ≡ length before → (head < length out → end ≡ slice_set out head (Section count)) → count ≡ length out - head - 1 → end ≡ before ++ section inner
closes_set head count out end before inner h at written size =
    let all : length out ≡ (length before + 1) + length inner = ap length h ∙ length-append (before ++ Section 0 ∷ []) inner ∙ ap (λ n. n + length inner) (length-append before (Section 0 ∷ [])) in
    let lt : head < length out = omega (arith, all, at) in
    let inside : count ≡ length inner = omega (arith, all, at, size) in
    written lt ∙ (λ i. slice_set (h i) (at i) (Section (inside i))) ∙ ap (λ es. slice_set es (length before) (Section (length inner))) (sym (assoc before (Section 0 ∷ []) inner)) ∙ set-append_seam before (Section 0) inner (Section (length inner))

-- a section is opened, filled and closed
pub closed : (head : ℕ) (old first out end inner : List Entry) → first ≡ old ++ Section 0 ∷ [] → out ≡ first ++ inner → head ≡ length old → Closes head out end → end ≡ old ++ section inner
closed head old first out end inner opened filled size closes = closes old inner (filled ∙ ap (λ es. es ++ inner) opened) size

-- a binding is appended
pub let_collected : (out first end : List Entry) (b : Let) (here more items : List Let) → here ≡ b ∷ more → end ≡ out ++ section (listed_right (right_term b.right)) → out ++ let_listed here ≡ first ++ let_listed items → end ++ let_listed more ≡ first ++ let_listed items
let_collected out first end b here more items h e was =
    ap (λ es. es ++ let_listed more) e ∙ sym (assoc out (section (listed_right (right_term b.right))) (let_listed more)) ∙ ap (λ ls. out ++ let_listed ls) (sym h) ∙ was

pub block_collected : (b : Block) (old first out after end : List Entry) (rs : List Var) (head i : ℕ) (items : List Let) → first ≡ old ++ Section 0 ∷ [] → out ++ let_listed (drop i items) ≡ first ++ let_listed items → length items ≤ i → items ≡ (out-Block b).lets.items → rs ≡ (out-Block b).results.items → after ≡ out ++ each rs → head ≡ length old → Closes head after end → end ≡ old ++ section (listed (block_term b))
block_collected b old first out after end rs head i items opened p over all results last size closes =
    let whole = last ∙ (λ j. collected_all let_listed first out i items (out-Block b).lets.items refl p over all j ++ each (results j)) ∙ sym (assoc first (let_listed (out-Block b).lets.items) (each (out-Block b).results.items)) in
    closed head old first after end (let_listed (out-Block b).lets.items ++ each (out-Block b).results.items) opened whole size closes ∙ ap (λ es. old ++ section es) (sym (block_listed b))

pub with_collected : (w : WithLoop) (first start out : List Entry) (i : ℕ) (items : List CoreGen) → start ≡ first ++ section (each (op_uses (out-WithLoop w).op)) → out ++ gen_listed (drop i items) ≡ start ++ gen_listed items → length items ≤ i → items ≡ (out-WithLoop w).gens.items → out ≡ first ++ listed_right (with_term w)
with_collected w first start out i items s p over all =
    collected_all gen_listed start out i items (out-WithLoop w).gens.items refl p over all ∙ ap (λ es. es ++ gen_listed (out-WithLoop w).gens.items) s
    ∙ sym (assoc first (section (each (op_uses (out-WithLoop w).op))) (gen_listed (out-WithLoop w).gens.items)) ∙ ap (λ es. first ++ es) (sym (with_listed w))

pub parted_collected : (w : PartedLoop) (first start out : List Entry) (i : ℕ) (items : List CorePart) → start ≡ first ++ section (each (parted_uses (out-PartedLoop w).op)) → out ++ part_listed (drop i items) ≡ start ++ part_listed items → length items ≤ i → items ≡ (out-PartedLoop w).parts.items → out ≡ first ++ listed_right (parted_term w)
parted_collected w first start out i items s p over all =
    collected_all part_listed start out i items (out-PartedLoop w).parts.items refl p over all ∙ ap (λ es. es ++ part_listed (out-PartedLoop w).parts.items) s
    ∙ sym (assoc first (section (each (parted_uses (out-PartedLoop w).op))) (part_listed (out-PartedLoop w).parts.items)) ∙ ap (λ es. first ++ es) (sym (parted_listed w))
