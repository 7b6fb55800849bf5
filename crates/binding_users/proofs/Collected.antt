-- Uses that are collected one after another.
use Rattle.std.proofs.Common.{◌≡◌, ℕ, ◌≤◌, List, [], ◌++◌, length, drop, refl, ap, ◌∙◌, sym, append_assoc}
use Rattle.core_ir.specs.declared.tree.Var.{Var}
use Rattle.core_ir.specs.declared.tree.Block.{Block, out-Block}
use Rattle.core_ir.specs.declared.tree.Let.{Let}
use Rattle.core_ir.specs.declared.tree.CoreGen.{CoreGen}
use Rattle.core_ir.specs.declared.tree.CorePart.{CorePart}
use Rattle.core_ir.specs.declared.tree.WithLoop.{WithLoop, out-WithLoop}
use Rattle.core_ir.specs.declared.tree.PartedLoop.{PartedLoop, out-PartedLoop}
use Rattle.core_ir.specs.Scopes.{op_uses, parted_uses}
use Rattle.core_ir.specs.View.{block_term, with_term, parted_term}
use Rattle.core_subst.specs.Names.{used_in, used_in_right}
use Rattle.core_subst.proofs.Occurrences.{lets_used, gens_used, parts_used, all_met, block_used, with_used, parted_used}

pub block_collected : (b : Block) (first out after rs : List Var) (i : ℕ) (items : List Let) → out ++ lets_used (drop i items) ≡ first ++ lets_used items → length items ≤ i → items ≡ (out-Block b).lets.items → rs ≡ (out-Block b).results.items → after ≡ out ++ rs → after ≡ first ++ used_in (block_term b)
block_collected b first out after rs i items p over all results last =
    last ∙ (λ j. all_met lets_used out first i items (out-Block b).lets.items refl p over all j ++ results j)
    ∙ append_assoc first (lets_used (out-Block b).lets.items) (out-Block b).results.items ∙ ap (λ us. first ++ us) (sym (block_used b))

pub with_collected : (w : WithLoop) (first start out : List Var) (i : ℕ) (items : List CoreGen) → start ≡ first ++ op_uses (out-WithLoop w).op → out ++ gens_used (drop i items) ≡ start ++ gens_used items → length items ≤ i → items ≡ (out-WithLoop w).gens.items → out ≡ first ++ used_in_right (with_term w)
with_collected w first start out i items s p over all =
    all_met gens_used out start i items (out-WithLoop w).gens.items refl p over all ∙ ap (λ us. us ++ gens_used (out-WithLoop w).gens.items) s
    ∙ append_assoc first (op_uses (out-WithLoop w).op) (gens_used (out-WithLoop w).gens.items) ∙ ap (λ us. first ++ us) (sym (with_used w))

pub parted_collected : (w : PartedLoop) (first start out : List Var) (i : ℕ) (items : List CorePart) → start ≡ first ++ parted_uses (out-PartedLoop w).op → out ++ parts_used (drop i items) ≡ start ++ parts_used items → length items ≤ i → items ≡ (out-PartedLoop w).parts.items → out ≡ first ++ used_in_right (parted_term w)
parted_collected w first start out i items s p over all =
    all_met parts_used out start i items (out-PartedLoop w).parts.items refl p over all ∙ ap (λ us. us ++ parts_used (out-PartedLoop w).parts.items) s
    ∙ append_assoc first (parted_uses (out-PartedLoop w).op) (parts_used (out-PartedLoop w).parts.items) ∙ ap (λ us. first ++ us) (sym (parted_used w))
