-- A block's bindings, placed one after another.
use Rattle.std.proofs.Common.{◌≡◌, ℕ, ◌+◌, ◌<◌, ◌≤◌, List, [], ◌∷◌, ◌++◌, map, length, drop, take, slice_index_or, refl, ap, ◌∙◌, sym, arith}
use Rattle.std.proofs.lemmas.List.{at_drop_all, drop-take}
use lib.Seq.{take-append_seam}
use Rattle.core_ir.specs.declared.tree.Var.{Var}
use Rattle.core_ir.specs.declared.tree.Block.{Block, out-Block}
use Rattle.core_ir.specs.declared.tree.Let.{Let}
use Rattle.core_ir.specs.Terms.{BlockTerm, Gives, chain}
use Rattle.core_ir.specs.View.{block_term, right_term, let_term}
use Rattle.core_ir.proofs.Trees.{block_out}
use Rattle.counted_code.specs.declared.tree.CodeStep.{CodeStep}
use Rattle.counted_code.specs.Terms.{Giving}
use Rattle.counted_code.specs.View.{steps_before}
use Rattle.counted_laws.specs.placing.Placing.{placing}
use Rattle.ref_rules.specs.declared.listed_uses.list.Entry.{Entry}
use Rattle.ref_rules.specs.declared.listed_uses.list.Entry.TheVariants.{Section}
use Rattle.ref_rules.specs.listed_uses.Latest.{section, EndsAt}
use Rattle.ref_counts.specs.Listing.{each, listed, listed_right}
use Rattle.ref_counts.proofs.Collected.{assoc, let_listed, lets_listed, block_listed}
use Rattle.ref_rules.proofs.Taken.{drop_here}

-- ---- places in the uses of a block

-- at a binding: its section, then those of what follows
pub at_binding : (here : List Let) (more : List Let) (b : Let) (later : List Entry) → here ≡ b ∷ more → let_listed here ++ later ≡ section (listed_right (right_term b.right)) ++ (let_listed more ++ later)
at_binding here more b later h = ap (λ ls. let_listed ls ++ later) h ∙ sym (assoc (section (listed_right (right_term b.right))) (let_listed more) later)

-- the same, in the words of blocks
pub at_let : (here more : List Let) (b : Let) (rs : List Var) → here ≡ b ∷ more → let_listed here ++ each rs ≡ section (listed_right (right_term b.right)) ++ listed (chain (map let_term more) (Gives rs))
at_let here more b rs h = at_binding here more b (each rs) h ∙ ap (λ es. section (listed_right (right_term b.right)) ++ es) (sym (lets_listed more rs))

-- what is used from the first binding on, in the list of all uses
pub all_uses : (b : Block) (uses : List Entry) (start from : ℕ) (items : List Let) (later : List Entry) → EndsAt uses start (Section (length (listed (block_term b))) ∷ []) from → drop start uses ≡ section (listed (block_term b)) ++ later → items ≡ (out-Block b).lets.items →
    drop from uses ≡ let_listed items ++ (each (out-Block b).results.items ++ later)
all_uses b uses start from items later skips h same =
    (skips (listed (block_term b) ++ later) h).1
    ∙ ap (λ es. es ++ later) (block_listed b ∙ ap (λ ls. let_listed ls ++ each (out-Block b).results.items) (sym same))
    ∙ sym (assoc (let_listed items) (each (out-Block b).results.items) later)

-- and in the list up to the block's end
pub own_uses : (b : Block) (uses : List Entry) (start end from : ℕ) (items : List Let) (later : List Entry) → EndsAt uses start (section (listed (block_term b))) end → EndsAt uses start (Section (length (listed (block_term b))) ∷ []) from → drop start uses ≡ section (listed (block_term b)) ++ later →
    items ≡ (out-Block b).lets.items → drop from (take end uses) ≡ let_listed items ++ each (out-Block b).results.items
own_uses b uses start end from items later ends skips h same =
    let inner = listed (block_term b) in
    let past = ends later h in
    let first = skips (inner ++ later) h in
    let far : end ≡ from + length inner = omega (arith, past, first) in
    ap (λ n. drop from (take n uses)) far ∙ drop-take from (length inner) uses ∙ ap (take (length inner)) first.1 ∙ take-append_seam inner later
    ∙ block_listed b ∙ ap (λ ls. let_listed ls ++ each (out-Block b).results.items) (sym same)

-- after the last
pub at_last : (i : ℕ) (items : List Let) (later : List Entry) → length items ≤ i → let_listed (drop i items) ++ later ≡ later
at_last i items later over = ap (λ es. es ++ later) (at_drop_all let_listed items i over)

-- ---- what is placed

pub block_done : (b : Block) (refs owned rs out : List Var) (items : List Let) (i : ℕ) (s1 s2 : List CodeStep) →
    steps_before s1 (placing owned (chain (map let_term (drop i items)) (Gives (out-Block b).results.items))) ≡ placing refs (chain (map let_term items) (Gives (out-Block b).results.items)) → length items ≤ i → items ≡ (out-Block b).lets.items →
    rs ≡ (out-Block b).results.items → steps_before s2 (Giving rs) ≡ steps_before s1 (placing owned (Gives rs)) → out ≡ rs → steps_before s2 (Giving out) ≡ placing refs (block_term b)
block_done b refs owned rs out items i s1 s2 placed over all results last same =
    ap (λ xs. steps_before s2 (Giving xs)) same ∙ last ∙ ap (λ xs. steps_before s1 (placing owned (Gives xs))) results
    ∙ ap (λ t. steps_before s1 (placing owned t)) (sym (at_drop_all (λ ls. chain (map let_term ls) (Gives (out-Block b).results.items)) items i over))
    ∙ placed ∙ ap (λ ls. placing refs (chain (map let_term ls) (Gives (out-Block b).results.items))) all ∙ ap (placing refs) (sym (block_out b))

-- before the first binding the references are those that the block is given
pub first_placed : (steps : List CodeStep) (owned refs : List Var) (b : BlockTerm) → steps ≡ [] → owned ≡ refs ++ [] → steps_before steps (placing owned b) ≡ placing refs b
first_placed steps owned refs b none e = (λ i. steps_before (none i) (placing (e i) b)) ∙ ap (λ xs. placing xs b) (nothing_more refs)
  where
    nothing_more : (xs : List Var) → xs ++ [] ≡ xs
    nothing_more [] = refl
    nothing_more (x ∷ xs) = ap (λ l. x ∷ l) (nothing_more xs)

-- at a place of the list
pub item_here : (items : List Let) (i : ℕ) (b : Let) → i < length items → b ≡ slice_index_or items i b → drop i items ≡ b ∷ drop (i + 1) items
item_here items i b lt e = drop_here items i b lt ∙ (λ j. sym e j ∷ drop (i + 1) items)

-- a binding is placed in front of those that follow
pub next_placed : (s0 s1 : List CodeStep) (owned later stay targets fronts rs whole : List Var) (b : Let) (here more all : List Let) → here ≡ b ∷ more → later ≡ fronts ++ stay → fronts ≡ targets →
    steps_before s1 (placing (targets ++ stay) (chain (map let_term more) (Gives rs))) ≡ steps_before s0 (placing owned (chain (let_term b ∷ []) (chain (map let_term more) (Gives rs)))) →
    steps_before s0 (placing owned (chain (map let_term here) (Gives rs))) ≡ placing whole (chain (map let_term all) (Gives rs)) → steps_before s1 (placing later (chain (map let_term more) (Gives rs))) ≡ placing whole (chain (map let_term all) (Gives rs))
next_placed s0 s1 owned later stay targets fronts rs whole b here more all h front are step was =
    ap (λ xs. steps_before s1 (placing xs (chain (map let_term more) (Gives rs)))) (front ∙ ap (λ xs. xs ++ stay) are) ∙ step ∙ ap (λ ls. steps_before s0 (placing owned (chain (map let_term ls) (Gives rs)))) (sym h) ∙ was
