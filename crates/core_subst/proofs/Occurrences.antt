-- The variables that are met on the way through a term.
use Rattle.std.proofs.Common.{◌≡◌, ℕ, suc, ◌+◌, ◌<◌, ◌≤◌, get_or, arith, List, [], ◌∷◌, ◌++◌, map, length, drop, refl, ap, sym, ◌∙◌, append_assoc, append-nil}
use Rattle.std.specs.Prelude.{Result, Ok, Err, OnOk}
use Rattle.std.proofs.Math.Seq.{drop-cons}
use Rattle.std.proofs.lemmas.List.{at_drop_all}
use Rattle.core_ir.specs.declared.tree.Var.{Var}
use Rattle.core_ir.specs.declared.tree.Block.{Block, out-Block}
use Rattle.core_ir.specs.declared.tree.Let.{Let}
use Rattle.core_ir.specs.declared.tree.CoreGen.{CoreGen}
use Rattle.core_ir.specs.declared.tree.CorePart.{CorePart}
use Rattle.core_ir.specs.declared.tree.WithLoop.{WithLoop, out-WithLoop}
use Rattle.core_ir.specs.declared.tree.PartedLoop.{PartedLoop, out-PartedLoop}
use Rattle.core_ir.specs.Terms.{Gives, chain, gens_of, parts_of}
use Rattle.core_ir.specs.View.{block_term, right_term, with_term, parted_term, let_term, gen_term, part_term}
use Rattle.core_ir.specs.Binders.{bound_in, bound_in_right, bound_in_gens, bound_in_parts}
use Rattle.core_ir.specs.Scopes.{op_uses, parted_uses, head_uses}
use Rattle.core_ir.proofs.Trees.{block_out, with_out, parted_out}
use Rattle.core_subst.specs.Names.{used_in, used_in_right, used_in_gens, used_in_parts}

abbrev pub lets_used : List Let → List Var
lets_used [] = []
lets_used (l ∷ ls) = used_in_right (right_term l.right) ++ lets_used ls

abbrev pub lets_bound : List Let → List Var
lets_bound [] = []
lets_bound (l ∷ ls) = l.targets.items ++ (bound_in_right (right_term l.right) ++ lets_bound ls)

abbrev pub gens_used : List CoreGen → List Var
gens_used [] = []
gens_used (g ∷ gs) = head_uses (gen_term g).head ++ (used_in (gen_term g).body ++ gens_used gs)

abbrev pub gens_bound : List CoreGen → List Var
gens_bound [] = []
gens_bound (g ∷ gs) = ((gen_term g).head.index ∷ (gen_term g).head.names) ++ (bound_in (gen_term g).body ++ gens_bound gs)

abbrev pub parts_used : List CorePart → List Var
parts_used [] = []
parts_used (p ∷ ps) = used_in (part_term p).body ++ parts_used ps

abbrev pub parts_bound : List CorePart → List Var
parts_bound [] = []
parts_bound (p ∷ ps) = ((part_term p).head.index ∷ []) ++ (bound_in (part_term p).body ++ parts_bound ps)

uses_of_lets : (ls : List Let) (rs : List Var) → used_in (chain (map let_term ls) (Gives rs)) ≡ lets_used ls ++ rs
uses_of_lets [] rs = refl
uses_of_lets (l ∷ ls) rs =
    ap (λ xs. used_in_right (right_term l.right) ++ xs) (uses_of_lets ls rs) ∙ sym (append_assoc (used_in_right (right_term l.right)) (lets_used ls) rs)

binders_of_lets : (ls : List Let) (rs : List Var) → bound_in (chain (map let_term ls) (Gives rs)) ≡ lets_bound ls
binders_of_lets [] rs = refl
binders_of_lets (l ∷ ls) rs = ap (λ xs. l.targets.items ++ (bound_in_right (right_term l.right) ++ xs)) (binders_of_lets ls rs)

uses_of_gens : (gs : List CoreGen) → used_in_gens (gens_of (map gen_term gs)) ≡ gens_used gs
uses_of_gens [] = refl
uses_of_gens (g ∷ gs) = ap (λ xs. head_uses (gen_term g).head ++ (used_in (gen_term g).body ++ xs)) (uses_of_gens gs)

binders_of_gens : (gs : List CoreGen) → bound_in_gens (gens_of (map gen_term gs)) ≡ gens_bound gs
binders_of_gens [] = refl
binders_of_gens (g ∷ gs) = ap (λ xs. ((gen_term g).head.index ∷ (gen_term g).head.names) ++ (bound_in (gen_term g).body ++ xs)) (binders_of_gens gs)

uses_of_parts : (ps : List CorePart) → used_in_parts (parts_of (map part_term ps)) ≡ parts_used ps
uses_of_parts [] = refl
uses_of_parts (p ∷ ps) = ap (λ xs. used_in (part_term p).body ++ xs) (uses_of_parts ps)

binders_of_parts : (ps : List CorePart) → bound_in_parts (parts_of (map part_term ps)) ≡ parts_bound ps
binders_of_parts [] = refl
binders_of_parts (p ∷ ps) = ap (λ xs. ((part_term p).head.index ∷ []) ++ (bound_in (part_term p).body ++ xs)) (binders_of_parts ps)

pub block_used : (b : Block) → used_in (block_term b) ≡ lets_used (out-Block b).lets.items ++ (out-Block b).results.items
block_used b = ap used_in (block_out b) ∙ uses_of_lets (out-Block b).lets.items (out-Block b).results.items

pub block_bound : (b : Block) → bound_in (block_term b) ≡ lets_bound (out-Block b).lets.items
block_bound b = ap bound_in (block_out b) ∙ binders_of_lets (out-Block b).lets.items (out-Block b).results.items

pub with_used : (w : WithLoop) → used_in_right (with_term w) ≡ op_uses (out-WithLoop w).op ++ gens_used (out-WithLoop w).gens.items
with_used w = ap used_in_right (with_out w) ∙ ap (λ xs. op_uses (out-WithLoop w).op ++ xs) (uses_of_gens (out-WithLoop w).gens.items)

pub with_bound : (w : WithLoop) → bound_in_right (with_term w) ≡ gens_bound (out-WithLoop w).gens.items
with_bound w = ap bound_in_right (with_out w) ∙ binders_of_gens (out-WithLoop w).gens.items

pub parted_used : (p : PartedLoop) → used_in_right (parted_term p) ≡ parted_uses (out-PartedLoop p).op ++ parts_used (out-PartedLoop p).parts.items
parted_used p = ap used_in_right (parted_out p) ∙ ap (λ xs. parted_uses (out-PartedLoop p).op ++ xs) (uses_of_parts (out-PartedLoop p).parts.items)

pub parted_bound : (p : PartedLoop) → bound_in_right (parted_term p) ≡ parts_bound (out-PartedLoop p).parts.items
parted_bound p = ap bound_in_right (parted_out p) ∙ binders_of_parts (out-PartedLoop p).parts.items

-- ---- loops that append

-- what is there, with what the rest gives, is the whole: after a turn that appends the next item's variables
pub appended : (xs xs' new rest before whole : List Var) → xs ++ before ≡ whole → before ≡ new ++ rest → xs' ≡ xs ++ new → xs' ++ rest ≡ whole
appended xs xs' new rest before whole p b e = (λ i. e i ++ rest) ∙ append_assoc xs new rest ∙ (λ i. xs ++ sym b i) ∙ p

pub two : (xs a b ab : List Var) → ab ≡ a ++ b → (xs ++ a) ++ b ≡ xs ++ ab
two xs a b ab e = append_assoc xs a b ∙ ap (λ zs. xs ++ zs) (sym e)

-- after the last turn
pub all_met : {A : Type 0} (f : List A → List Var) (xs start : List Var) (i : ℕ) (items all : List A) → f [] ≡ [] → xs ++ f (drop i items) ≡ start ++ f items → length items ≤ i → items ≡ all → xs ≡ start ++ f all
all_met f xs start i items all z p over q =
    sym (append-nil xs) ∙ (λ j. xs ++ sym (at_drop_all f items i over ∙ z) j) ∙ p ∙ ap (λ ys. start ++ f ys) q

-- ---- one turn of a loop over a list

-- an item's variables, and those of the items behind it
items_step : {A : Type 0} (f : List A → List Var) (g : A → List Var) (xs : List A) (i : ℕ) (x : A) → ((y : A) (ys : List A) → f (y ∷ ys) ≡ g y ++ f ys) → i < length xs → x ≡ get_or xs i x → f (drop i xs) ≡ g x ++ f (drop (i + 1) xs)
items_step f g xs i x each h is =
    let next : suc i ≡ i + 1 = omega arith in
    ap f (drop-cons xs i x h) ∙ each (get_or xs i x) (drop (suc i) xs) ∙ (λ j. g (sym is j) ++ f (drop (next j) xs))

-- what is there, with what the rest gives, stays the whole
pub turned : {A : Type 0} (f : List A → List Var) (g : A → List Var) (xs : List A) (i : ℕ) (x : A) (old new whole : List Var) → ((y : A) (ys : List A) → f (y ∷ ys) ≡ g y ++ f ys) → i < length xs → x ≡ get_or xs i x → old ++ f (drop i xs) ≡ whole → new ≡ old ++ g x → new ++ f (drop (i + 1) xs) ≡ whole
turned f g xs i x old new whole each h is p e = appended old new (g x) (f (drop (i + 1) xs)) (f (drop i xs)) whole p (items_step f g xs i x each h is) e

pub let_uses : (y : Let) (ys : List Let) → lets_used (y ∷ ys) ≡ used_in_right (right_term y.right) ++ lets_used ys
let_uses y ys = refl

pub let_binds : (y : Let) (ys : List Let) → lets_bound (y ∷ ys) ≡ (y.targets.items ++ bound_in_right (right_term y.right)) ++ lets_bound ys
let_binds y ys = sym (append_assoc y.targets.items (bound_in_right (right_term y.right)) (lets_bound ys))

pub gen_uses : (y : CoreGen) (ys : List CoreGen) → gens_used (y ∷ ys) ≡ (head_uses (gen_term y).head ++ used_in (gen_term y).body) ++ gens_used ys
gen_uses y ys = sym (append_assoc (head_uses (gen_term y).head) (used_in (gen_term y).body) (gens_used ys))

pub gen_binds : (y : CoreGen) (ys : List CoreGen) → gens_bound (y ∷ ys) ≡ (((gen_term y).head.index ∷ (gen_term y).head.names) ++ bound_in (gen_term y).body) ++ gens_bound ys
gen_binds y ys = sym (append_assoc ((gen_term y).head.index ∷ (gen_term y).head.names) (bound_in (gen_term y).body) (gens_bound ys))

pub part_uses : (y : CorePart) (ys : List CorePart) → parts_used (y ∷ ys) ≡ used_in (part_term y).body ++ parts_used ys
part_uses y ys = refl

pub part_binds : (y : CorePart) (ys : List CorePart) → parts_bound (y ∷ ys) ≡ (((part_term y).head.index ∷ []) ++ bound_in (part_term y).body) ++ parts_bound ys
part_binds y ys = sym (append_assoc ((part_term y).head.index ∷ []) (bound_in (part_term y).body) (parts_bound ys))

-- two lists appended one after another
pub in_two : (old mid new xs ys : List Var) → mid ≡ old ++ xs → new ≡ mid ++ ys → new ≡ old ++ (xs ++ ys)
in_two old mid new xs ys p q = q ∙ (λ i. p i ++ ys) ∙ append_assoc old xs ys

pub glued : (old mid xs ys : List Var) → mid ≡ old ++ xs → mid ++ ys ≡ old ++ (xs ++ ys)
glued old mid xs ys p = (λ i. p i ++ ys) ∙ append_assoc old xs ys

-- what holds anyway holds where a call succeeds
pub on_ok : {T E : Type 0} (r : Result T E) (P : Type 0) → P → OnOk r P
on_ok (Ok x) P p = p
on_ok (Err e) P p = tt

-- at the end of a block
pub ended_used : (b : Block) (old met results : List Var) → met ≡ old ++ lets_used (out-Block b).lets.items → results ≡ (out-Block b).results.items → met ++ results ≡ old ++ used_in (block_term b)
ended_used b old met results p q = (λ i. p i ++ q i) ∙ append_assoc old (lets_used (out-Block b).lets.items) (out-Block b).results.items ∙ ap (λ l. old ++ l) (sym (block_used b))
