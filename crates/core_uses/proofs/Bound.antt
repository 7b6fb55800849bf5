-- Sums of what lists of the code bind.
use Rattle.std.proofs.Common.{◌≡◌, ℕ, suc, ◌+◌, List, [], ◌∷◌, ◌++◌, map, length, refl, ap, ◌∙◌, length-append}
use Rattle.core_ir.specs.declared.tree.Var.{Var}
use Rattle.core_ir.specs.declared.tree.Block.{Block, out-Block}
use Rattle.core_ir.specs.declared.tree.Let.{Let}
use Rattle.core_ir.specs.declared.tree.CoreGen.{CoreGen}
use Rattle.core_ir.specs.declared.tree.CorePart.{CorePart}
use Rattle.core_ir.specs.declared.tree.WithLoop.{WithLoop, out-WithLoop}
use Rattle.core_ir.specs.declared.tree.PartedLoop.{PartedLoop, out-PartedLoop}
use Rattle.core_ir.specs.Terms.{Gives, chain, gens_of, parts_of}
use Rattle.core_ir.specs.View.{block_term, right_term, with_term, parted_term, let_term, gen_term, part_term}
use Rattle.core_ir.specs.Binders.{bound_in, bound_in_right, bound_in_gens, bound_in_parts}
use Rattle.core_ir.proofs.Trees.{block_out, with_out, parted_out}
use Rattle.core_uses.specs.Bound.{bound_count, bound_count_right}

abbrev pub let_bound : List Let → ℕ
let_bound [] = 0
let_bound (l ∷ ls) = length l.targets.items + (bound_count_right (right_term l.right) + let_bound ls)

abbrev pub gen_bound : List CoreGen → ℕ
gen_bound [] = 0
gen_bound (g ∷ gs) = suc (length (gen_term g).head.names + (bound_count (gen_term g).body + gen_bound gs))

abbrev pub part_bound : List CorePart → ℕ
part_bound [] = 0
part_bound (p ∷ ps) = suc (bound_count (part_term p).body + part_bound ps)

pub three : (xs ys zs : List Var) → length (xs ++ (ys ++ zs)) ≡ length xs + (length ys + length zs)
three xs ys zs = length-append xs (ys ++ zs) ∙ ap (λ n. length xs + n) (length-append ys zs)

lets_bound : (ls : List Let) (rs : List Var) → length (bound_in (chain (map let_term ls) (Gives rs))) ≡ let_bound ls
lets_bound [] rs = refl
lets_bound (l ∷ ls) rs =
    three l.targets.items (bound_in_right (right_term l.right)) (bound_in (chain (map let_term ls) (Gives rs)))
    ∙ ap (λ n. length l.targets.items + (bound_count_right (right_term l.right) + n)) (lets_bound ls rs)

gens_bound : (gs : List CoreGen) → length (bound_in_gens (gens_of (map gen_term gs))) ≡ gen_bound gs
gens_bound [] = refl
gens_bound (g ∷ gs) =
    ap suc (three (gen_term g).head.names (bound_in (gen_term g).body) (bound_in_gens (gens_of (map gen_term gs)))
    ∙ ap (λ n. length (gen_term g).head.names + (bound_count (gen_term g).body + n)) (gens_bound gs))

parts_bound : (ps : List CorePart) → length (bound_in_parts (parts_of (map part_term ps))) ≡ part_bound ps
parts_bound [] = refl
parts_bound (p ∷ ps) =
    ap suc (length-append (bound_in (part_term p).body) (bound_in_parts (parts_of (map part_term ps))) ∙ ap (λ n. bound_count (part_term p).body + n) (parts_bound ps))

pub block_bound : (b : Block) → bound_count (block_term b) ≡ let_bound (out-Block b).lets.items
block_bound b = ap bound_count (block_out b) ∙ lets_bound (out-Block b).lets.items (out-Block b).results.items

pub with_bound : (w : WithLoop) → bound_count_right (with_term w) ≡ gen_bound (out-WithLoop w).gens.items
with_bound w = ap bound_count_right (with_out w) ∙ gens_bound (out-WithLoop w).gens.items

pub parted_bound : (p : PartedLoop) → bound_count_right (parted_term p) ≡ part_bound (out-PartedLoop p).parts.items
parted_bound p = ap bound_count_right (parted_out p) ∙ parts_bound (out-PartedLoop p).parts.items
