-- Sums that stop at the greatest number of 64 bits.
use Rattle.std.proofs.Common.{◌≡◌, ℕ, suc, ◌+◌, ◌-◌, ◌^◌, ◌≤◌, List, [], ◌∷◌, map, length, drop, refl, ap, ◌∙◌, sym, arith}
use Rattle.std.proofs.lemmas.List.{at_drop_all}
use Rattle.core_ir.specs.declared.tree.Var.{Var}
use Rattle.core_ir.specs.declared.tree.Block.{Block, out-Block}
use Rattle.core_ir.specs.declared.tree.Let.{Let}
use Rattle.core_ir.specs.declared.tree.CoreGen.{CoreGen}
use Rattle.core_ir.specs.declared.tree.CorePart.{CorePart}
use Rattle.core_ir.specs.declared.tree.WithLoop.{WithLoop, out-WithLoop}
use Rattle.core_ir.specs.declared.tree.PartedLoop.{PartedLoop, out-PartedLoop}
use Rattle.core_ir.specs.Terms.{Gives, chain, gens_of, parts_of}
use Rattle.core_ir.specs.View.{block_term, right_term, with_term, parted_term, let_term, gen_term, part_term}
use Rattle.core_ir.specs.Counts.{bindings, bindings_right, bindings_gens, bindings_parts, capped}
use Rattle.core_ir.proofs.Trees.{block_out, with_out, parted_out}

pub capped_twice : (a b : ℕ) → capped (capped a + b) ≡ capped (a + b)
capped_twice a b = omega arith

pub capped_both : (a b : ℕ) → capped (capped a + capped b) ≡ capped (a + b)
capped_both a b = omega arith

abbrev pub let_count : List Let → ℕ
let_count [] = 0
let_count (l ∷ ls) = suc (bindings_right (right_term l.right) + let_count ls)

abbrev pub gen_count : List CoreGen → ℕ
gen_count [] = 0
gen_count (g ∷ gs) = bindings (gen_term g).body + gen_count gs

abbrev pub part_count : List CorePart → ℕ
part_count [] = 0
part_count (p ∷ ps) = bindings (part_term p).body + part_count ps

lets_counted : (ls : List Let) (rs : List Var) → bindings (chain (map let_term ls) (Gives rs)) ≡ let_count ls
lets_counted [] rs = refl
lets_counted (l ∷ ls) rs = ap (λ n. suc (bindings_right (right_term l.right) + n)) (lets_counted ls rs)

gens_counted : (gs : List CoreGen) → bindings_gens (gens_of (map gen_term gs)) ≡ gen_count gs
gens_counted [] = refl
gens_counted (g ∷ gs) = ap (λ n. bindings (gen_term g).body + n) (gens_counted gs)

parts_counted : (ps : List CorePart) → bindings_parts (parts_of (map part_term ps)) ≡ part_count ps
parts_counted [] = refl
parts_counted (p ∷ ps) = ap (λ n. bindings (part_term p).body + n) (parts_counted ps)

pub block_counted : (b : Block) → bindings (block_term b) ≡ let_count (out-Block b).lets.items
block_counted b = ap bindings (block_out b) ∙ lets_counted (out-Block b).lets.items (out-Block b).results.items

pub with_counted : (w : WithLoop) → bindings_right (with_term w) ≡ gen_count (out-WithLoop w).gens.items
with_counted w = ap bindings_right (with_out w) ∙ gens_counted (out-WithLoop w).gens.items

pub parted_counted : (p : PartedLoop) → bindings_right (parted_term p) ≡ part_count (out-PartedLoop p).parts.items
parted_counted p = ap bindings_right (parted_out p) ∙ parts_counted (out-PartedLoop p).parts.items

-- after a loop over a list: what is counted is the whole
pub counted_all : {A : Type 0} (f : List A → ℕ) (count i : ℕ) (items all : List A) → f [] ≡ 0 → capped (count + f (drop i items)) ≡ capped (f items) → count ≤ 2 ^ 64 - 1 → length items ≤ i → items ≡ all → count ≡ capped (f all)
counted_all f count i items all z p small over q =
    let none : f (drop i items) ≡ 0 = at_drop_all f items i over ∙ z in
    let whole : capped count ≡ count = omega arith in
    let more : count ≡ count + 0 = omega arith in
    sym whole ∙ ap capped (more ∙ (λ j. count + sym none j)) ∙ p ∙ ap (λ xs. capped (f xs)) q
