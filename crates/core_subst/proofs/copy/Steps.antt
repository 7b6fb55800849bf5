-- The lists of a copied tree.
use Rattle.std.proofs.Common.{◌≡◌, ℕ, ◌+◌, ◌<◌, ◌≤◌, List, [], ◌∷◌, ◌++◌, map, length, get_or, take, take_all, refl, sym, ap, ◌∙◌}
use Rattle.std.proofs.lemmas.List.{map_more, map-append}
use Rattle.core_ir.specs.declared.tree.Var.{Var}
use Rattle.core_ir.specs.declared.tree.Let.{Let}
use Rattle.core_ir.specs.declared.tree.CoreGen.{CoreGen}
use Rattle.core_ir.specs.declared.tree.CorePart.{CorePart}
use Rattle.core_ir.specs.declared.tree.Block.{Block, Block-F, out-Block, roll-Block}
use Rattle.core_ir.specs.declared.tree.WithLoop.{WithLoop, WithLoop-F, out-WithLoop, roll-WithLoop}
use Rattle.core_ir.specs.declared.tree.PartedLoop.{PartedLoop, PartedLoop-F, out-PartedLoop, roll-PartedLoop}
use Rattle.core_ir.specs.declared.tree.Right.TheBlock.{the_data, the_data-1, the_data-2, the_data-3, the_data-4, the_data-5, the_data-6}
use Rattle.core_ir.specs.Terms.{RightTerm, Gives, Bind, Gen, Part, chain, gens_of, parts_of}
use Rattle.core_ir.specs.View.{block_term, let_term, right_term, gen_term, part_term, with_term, parted_term}
use Rattle.core_ir.proofs.Trees.{block_out, block_roll, with_out, with_roll, parted_out, parted_roll}
use Rattle.core_subst.specs.Substitution.{core_op_with, parted_op_with}
use Rattle.core_subst.specs.copy.Mapped.{mapped, mapped_right, mapped_gens, mapped_parts, mapped_let, mapped_gen, mapped_part}

lets_mapped : (f : Var → Var) (ls : List Let) (rs : List Var) → chain (map (λ l. mapped_let f (let_term l)) ls) (Gives (map f rs)) ≡ mapped f (chain (map let_term ls) (Gives rs))
lets_mapped f [] rs = refl
lets_mapped f (l ∷ ls) rs = ap (Bind (map f l.targets.items) l.site (mapped_right f (right_term l.right))) (lets_mapped f ls rs)

gens_mapped : (f : Var → Var) (gs : List CoreGen) → gens_of (map (λ g. mapped_gen f (gen_term g)) gs) ≡ mapped_gens f (gens_of (map gen_term gs))
gens_mapped f [] = refl
gens_mapped f (g ∷ gs) = let k = mapped_gen f (gen_term g) in ap (Gen k.head k.body) (gens_mapped f gs)

parts_mapped : (f : Var → Var) (ps : List CorePart) → parts_of (map (λ p. mapped_part f (part_term p)) ps) ≡ mapped_parts f (parts_of (map part_term ps))
parts_mapped f [] = refl
parts_mapped f (p ∷ ps) = let k = mapped_part f (part_term p) in ap (Part k.head k.body) (parts_mapped f ps)

-- after a loop over a list: what holds of the part so far holds of the whole
pub mapped_whole : {A B C : Type 0} (f : A → C) (g : B → C) (xs : List A) (items : List B) (n : ℕ) (all : List B) → map f xs ≡ map g (take n items) → length items ≤ n → items ≡ all → map f xs ≡ map g all
mapped_whole f g xs items n all p h q = p ∙ ap (map g) (take_all n items h ∙ q)

-- an item more has its copy
pub item_copied : {A B T : Type 0} (shown : A → T) (meant : B → T) (done after : List A) (items : List B) (k : ℕ) (y : A) (x : B) → k < length items → x ≡ get_or items k x → after ≡ done ++ y ∷ [] → shown y ≡ meant x → map shown done ≡ map meant (take k items) → map shown after ≡ map meant (take (k + 1) items)
item_copied shown meant done after items k y x inside is e same before =
    ap (map shown) e ∙ map-append shown done (y ∷ [])
    ∙ (λ i. before i ++ same i ∷ [])
    ∙ ap (λ z. map meant (take k items) ++ meant z ∷ []) is
    ∙ sym (map_more meant items k x inside)

-- and a variable more
pub var_copied : (f : Var → Var) (xs : List Var) (i : ℕ) (d y : Var) (cs cs' : List Var) → i < length xs → cs ≡ map f (take i xs) → cs' ≡ cs ++ (y ∷ []) → y ≡ f (get_or xs i d) → cs' ≡ map f (take (i + 1) xs)
var_copied f xs i d y cs cs' h p q e = q ∙ (λ j. p j ++ (e j ∷ [])) ∙ sym (map_more f xs i d h)

pub block_copied : (f : Var → Var) (x : Block-F the_data the_data-1 the_data-2 the_data-3 the_data-4 the_data-5 the_data-6) (b : Block) → map let_term x.lets.items ≡ map (λ l. mapped_let f (let_term l)) (out-Block b).lets.items → x.results.items ≡ map f (out-Block b).results.items → block_term (roll-Block x) ≡ mapped f (block_term b)
block_copied f x b p q =
    block_roll x ∙ (λ i. chain (p i) (Gives (q i))) ∙ lets_mapped f (out-Block b).lets.items (out-Block b).results.items ∙ ap (mapped f) (sym (block_out b))

pub with_copied : (f : Var → Var) (x : WithLoop-F the_data the_data-1 the_data-2 the_data-3 the_data-4 the_data-5 the_data-6) (w : WithLoop) → map gen_term x.gens.items ≡ map (λ g. mapped_gen f (gen_term g)) (out-WithLoop w).gens.items → x.op ≡ core_op_with f (out-WithLoop w).op → with_term (roll-WithLoop x) ≡ mapped_right f (with_term w)
with_copied f x w p q =
    with_roll x ∙ (λ i. RightTerm.With (q i) (gens_of (p i))) ∙ ap (RightTerm.With (core_op_with f (out-WithLoop w).op)) (gens_mapped f (out-WithLoop w).gens.items) ∙ ap (mapped_right f) (sym (with_out w))

pub parted_copied : (f : Var → Var) (x : PartedLoop-F the_data the_data-1 the_data-2 the_data-3 the_data-4 the_data-5 the_data-6) (w : PartedLoop) → map part_term x.parts.items ≡ map (λ p. mapped_part f (part_term p)) (out-PartedLoop w).parts.items → x.op ≡ parted_op_with f (out-PartedLoop w).op → x.frame ≡ (out-PartedLoop w).frame → x.base ≡ (out-PartedLoop w).base → x.cell ≡ (out-PartedLoop w).cell → parted_term (roll-PartedLoop x) ≡ mapped_right f (parted_term w)
parted_copied f x w p q frame base cell =
    parted_roll x ∙ (λ i. RightTerm.Parted (frame i) (base i) (cell i) (q i) (parts_of (p i)))
    ∙ ap (RightTerm.Parted (out-PartedLoop w).frame (out-PartedLoop w).base (out-PartedLoop w).cell (parted_op_with f (out-PartedLoop w).op)) (parts_mapped f (out-PartedLoop w).parts.items)
    ∙ ap (mapped_right f) (sym (parted_out w))
