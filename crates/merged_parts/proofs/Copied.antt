-- Copies of bindings and of a body, one behind the other.
use Rattle.std.proofs.Common.{◌≡◌, List, ◌++◌, map, refl, ap, sym, ◌∙◌, append_assoc}
use Rattle.std.proofs.lemmas.List.{map-append}
use Rattle.core_ir.specs.declared.tree.Block.{Block, Block-F, out-Block, roll-Block}
use Rattle.core_ir.specs.declared.tree.Let.{Let}
use Rattle.core_ir.specs.declared.tree.Right.TheBlock.{the_data, the_data-1, the_data-2, the_data-3, the_data-4, the_data-5, the_data-6}
use Rattle.core_ir.specs.declared.tree.Var.{Var}
use Rattle.core_ir.specs.Terms.{BlockTerm, Gives, Bind, chain}
use Rattle.core_ir.specs.View.{block_term, let_term}
use Rattle.core_ir.proofs.Trees.{block_out, block_roll}
use Rattle.core_subst.specs.copy.Mapped.{mapped, mapped_right}
use Rattle.core_forms.proofs.merge.Straight.{chain_append}
use Rattle.merge_plans.specs.Openings.{lets_of}
use Rattle.merge_plans.proofs.Opens.{lets_chain}

mapped_chain : (f : Var → Var) (b c : BlockTerm) → chain (lets_of (mapped f b)) (mapped f c) ≡ mapped f (chain (lets_of b) c)
mapped_chain f (Gives xs) c = refl
mapped_chain f (Bind xs s r b) c = ap (Bind (map f xs) s (mapped_right f r)) (mapped_chain f b c)

lets_are : (b : Block) → map let_term (out-Block b).lets.items ≡ lets_of (block_term b)
lets_are b = sym (lets_chain (map let_term (out-Block b).lets.items) (out-Block b).results.items) ∙ ap lets_of (sym (block_out b))

pub copied_behind :
    (f : Var → Var) (before all : List Let) (outer inner : Block) (b c : BlockTerm) (x : Block-F the_data the_data-1 the_data-2 the_data-3 the_data-4 the_data-5 the_data-6) →
    all ≡ before ++ (out-Block outer).lets.items → x.lets.items ≡ all ++ (out-Block inner).lets.items → x.results.items ≡ (out-Block inner).results.items → block_term outer ≡ mapped f b →
    block_term inner ≡ mapped f c → block_term (roll-Block x) ≡ chain (map let_term before) (mapped f (chain (lets_of b) c))
copied_behind f before all outer inner b c x p q r e g =
    let os = (out-Block outer).lets.items in
    let is = (out-Block inner).lets.items in
    let rs = (out-Block inner).results.items in
    block_roll x ∙ (λ i. chain (map let_term ((q ∙ ap (λ l. l ++ is) p) i)) (Gives (r i)))
    ∙ ap (λ l. chain (map let_term l) (Gives rs)) (append_assoc before os is)
    ∙ ap (λ l. chain l (Gives rs)) (map-append let_term before (os ++ is) ∙ ap (λ l. map let_term before ++ l) (map-append let_term os is))
    ∙ chain_append (map let_term before) (map let_term os ++ map let_term is) (Gives rs)
    ∙ ap (chain (map let_term before)) (chain_append (map let_term os) (map let_term is) (Gives rs) ∙ (λ i. chain ((lets_are outer ∙ ap lets_of e) i) ((sym (block_out inner) ∙ g) i)) ∙ mapped_chain f b c)
