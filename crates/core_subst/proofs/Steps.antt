-- One turn of the loops that replace variables, and their ends.
use Rattle.std.proofs.Common.{◌≡◌, ℕ, List, [], ◌∷◌, ◌++◌, map, length, refl, sym, ap, ◌∙◌, append_assoc, append-nil, arith}
use Rattle.core_ir.specs.declared.tree.Var.{Var}
use Rattle.core_ir.specs.declared.tree.Let.{Let}
use Rattle.core_ir.specs.declared.tree.CoreGen.{CoreGen}
use Rattle.core_ir.specs.declared.tree.CorePart.{CorePart}
use Rattle.core_ir.specs.declared.tree.Block.{Block, Block-F, out-Block, roll-Block}
use Rattle.core_ir.specs.declared.tree.WithLoop.{WithLoop, WithLoop-F, out-WithLoop, roll-WithLoop}
use Rattle.core_ir.specs.declared.tree.PartedLoop.{PartedLoop, PartedLoop-F, out-PartedLoop, roll-PartedLoop}
use Rattle.core_ir.specs.declared.tree.Right.TheBlock.{the_data, the_data-1, the_data-2, the_data-3, the_data-4, the_data-5, the_data-6}
use Rattle.core_ir.specs.Terms.{BlockTerm, RightTerm, Gives, Bind, Gen, Part, LetTerm, GenTerm, PartTerm, chain, gens_of, parts_of}
use Rattle.core_ir.specs.View.{block_term, let_term, gen_term, part_term, with_term, parted_term}
use Rattle.core_ir.proofs.Trees.{block_out, block_roll, with_out, with_roll, parted_out, parted_roll}
use Rattle.core_subst.specs.Substitution.{below, core_op_with, parted_op_with, substituted, substituted_right, substituted_gens, substituted_parts, substituted_let, substituted_gen, substituted_part}

abbrev pub gens_with : (Var → Var) → List CoreGen → List GenTerm
gens_with f [] = []
gens_with f (g ∷ gs) = substituted_gen f (gen_term g) ∷ gens_with f gs

abbrev pub parts_with : (Var → Var) → List CorePart → List PartTerm
parts_with f [] = []
parts_with f (g ∷ gs) = substituted_part f (part_term g) ∷ parts_with f gs

gens_replaced : (f : Var → Var) (gs : List CoreGen) → gens_of (gens_with f gs) ≡ substituted_gens f (gens_of (map gen_term gs))
gens_replaced f [] = refl
gens_replaced f (g ∷ gs) = let k = substituted_gen f (gen_term g) in ap (Gen k.head k.body) (gens_replaced f gs)

parts_replaced : (f : Var → Var) (gs : List CorePart) → parts_of (parts_with f gs) ≡ substituted_parts f (parts_of (map part_term gs))
parts_replaced f [] = refl
parts_replaced f (g ∷ gs) = let k = substituted_part f (part_term g) in ap (Part k.head k.body) (parts_replaced f gs)

pub map_snoc : {A B : Type 0} (f : A → B) (xs : List A) (x : A) → map f (xs ++ (x ∷ [])) ≡ map f xs ++ (f x ∷ [])
map_snoc f [] x = refl
map_snoc f (y ∷ ys) x = ap (λ l. f y ∷ l) (map_snoc f ys x)

pub chain_snoc : (ls : List LetTerm) (l : LetTerm) (end : BlockTerm) → chain (ls ++ (l ∷ [])) end ≡ chain ls (Bind l.targets l.site l.right end)
chain_snoc [] l end = refl
chain_snoc (k ∷ ks) l end = ap (Bind k.targets k.site k.right) (chain_snoc ks l end)

-- a binding more has been rewritten
pub let_turn : (f f' : Var → Var) (ls ls' before rest : List Let) (x y : Let) (end whole : BlockTerm) → chain (map let_term ls) (substituted f (chain (map let_term before) end)) ≡ whole → before ≡ x ∷ rest → ls' ≡ ls ++ (y ∷ []) → let_term y ≡ substituted_let f (let_term x) → f' ≡ below x.targets.items f → chain (map let_term ls') (substituted f' (chain (map let_term rest) end)) ≡ whole
let_turn f f' ls ls' before rest x y end whole p b l k e =
    let inner = below x.targets.items f in
    (λ i. chain (map let_term (l i)) (substituted (e i) (chain (map let_term rest) end)))
    ∙ ap (λ z. chain z (substituted inner (chain (map let_term rest) end))) (map_snoc let_term ls y)
    ∙ chain_snoc (map let_term ls) (let_term y) _
    ∙ (λ i. chain (map let_term ls) (Bind (k i).targets (k i).site (k i).right (substituted inner (chain (map let_term rest) end))))
    ∙ (λ i. chain (map let_term ls) (substituted f (chain (map let_term (sym b i)) end)))
    ∙ p

-- an item more has been rewritten
pub gen_turn : (f f' : Var → Var) (done done' before rest : List CoreGen) (x y : CoreGen) (whole : List GenTerm) → map gen_term done ++ gens_with f before ≡ whole → before ≡ x ∷ rest → done' ≡ done ++ (y ∷ []) → gen_term y ≡ substituted_gen f' (gen_term x) → f' ≡ f → map gen_term done' ++ gens_with f rest ≡ whole
gen_turn f f' done done' before rest x y whole p b d k e =
    (λ i. map gen_term (d i) ++ gens_with f rest)
    ∙ ap (λ z. z ++ gens_with f rest) (map_snoc gen_term done y)
    ∙ append_assoc (map gen_term done) (gen_term y ∷ []) (gens_with f rest)
    ∙ (λ i. map gen_term done ++ ((k ∙ ap (λ z. substituted_gen z (gen_term x)) e) i ∷ gens_with f rest))
    ∙ (λ i. map gen_term done ++ gens_with f (sym b i))
    ∙ p

pub part_turn : (f f' : Var → Var) (done done' before rest : List CorePart) (x y : CorePart) (whole : List PartTerm) → map part_term done ++ parts_with f before ≡ whole → before ≡ x ∷ rest → done' ≡ done ++ (y ∷ []) → part_term y ≡ substituted_part f' (part_term x) → f' ≡ f → map part_term done' ++ parts_with f rest ≡ whole
part_turn f f' done done' before rest x y whole p b d k e =
    (λ i. map part_term (d i) ++ parts_with f rest)
    ∙ ap (λ z. z ++ parts_with f rest) (map_snoc part_term done y)
    ∙ append_assoc (map part_term done) (part_term y ∷ []) (parts_with f rest)
    ∙ (λ i. map part_term done ++ ((k ∙ ap (λ z. substituted_part z (part_term x)) e) i ∷ parts_with f rest))
    ∙ (λ i. map part_term done ++ parts_with f (sym b i))
    ∙ p

-- an iterator with nothing left
pub none_left : {A : Type 0} (len : ℕ) (items : List A) → len ≡ 0 → len ≡ length items → items ≡ []
none_left len [] p q = refl
none_left len (x ∷ xs) p q = absurd (omega arith)

-- after the last turn
pub block_end : (f outer : Var → Var) (rest before : List Let) (rs : List Var) (x : Block-F the_data the_data-1 the_data-2 the_data-3 the_data-4 the_data-5 the_data-6) (b : Block) → ((end : BlockTerm) → chain (map let_term x.lets.items) (substituted f (chain (map let_term rest) end)) ≡ substituted outer (chain (map let_term before) end)) → rest ≡ [] → before ≡ (out-Block b).lets.items → x.results.items ≡ map f rs → rs ≡ (out-Block b).results.items → block_term (roll-Block x) ≡ substituted outer (block_term b)
block_end f outer rest before rs x b p r e k q =
    block_roll x
    ∙ (λ i. chain (map let_term x.lets.items) (Gives (k i)))
    ∙ (λ i. chain (map let_term x.lets.items) (substituted f (chain (map let_term (sym r i)) (Gives rs))))
    ∙ p (Gives rs)
    ∙ (λ i. substituted outer (chain (map let_term (e i)) (Gives (q i))))
    ∙ ap (substituted outer) (sym (block_out b))

pub with_end : (f : Var → Var) (rest before : List CoreGen) (x : WithLoop-F the_data the_data-1 the_data-2 the_data-3 the_data-4 the_data-5 the_data-6) (w : WithLoop) → map gen_term x.gens.items ++ gens_with f rest ≡ gens_with f before → rest ≡ [] → before ≡ (out-WithLoop w).gens.items → x.op ≡ core_op_with f (out-WithLoop w).op → with_term (roll-WithLoop x) ≡ substituted_right f (with_term w)
with_end f rest before x w p r e k =
    with_roll x
    ∙ (λ i. RightTerm.With (k i) (gens_of ((sym (append-nil _) ∙ (λ j. map gen_term x.gens.items ++ gens_with f (sym r j)) ∙ p ∙ ap (gens_with f) e) i)))
    ∙ ap (RightTerm.With (core_op_with f (out-WithLoop w).op)) (gens_replaced f (out-WithLoop w).gens.items)
    ∙ ap (substituted_right f) (sym (with_out w))

pub parted_end : (f : Var → Var) (rest before : List CorePart) (x : PartedLoop-F the_data the_data-1 the_data-2 the_data-3 the_data-4 the_data-5 the_data-6) (w : PartedLoop) → map part_term x.parts.items ++ parts_with f rest ≡ parts_with f before → rest ≡ [] → before ≡ (out-PartedLoop w).parts.items → x.op ≡ parted_op_with f (out-PartedLoop w).op → x.frame ≡ (out-PartedLoop w).frame → x.base ≡ (out-PartedLoop w).base → x.cell ≡ (out-PartedLoop w).cell → parted_term (roll-PartedLoop x) ≡ substituted_right f (parted_term w)
parted_end f rest before x w p r e k frame base cell =
    parted_roll x
    ∙ (λ i. RightTerm.Parted (frame i) (base i) (cell i) (k i) (parts_of ((sym (append-nil _) ∙ (λ j. map part_term x.parts.items ++ parts_with f (sym r j)) ∙ p ∙ ap (parts_with f) e) i)))
    ∙ ap (RightTerm.Parted (out-PartedLoop w).frame (out-PartedLoop w).base (out-PartedLoop w).cell (parted_op_with f (out-PartedLoop w).op)) (parts_replaced f (out-PartedLoop w).parts.items)
    ∙ ap (substituted_right f) (sym (parted_out w))
