-- The bindings that stand for a selection, and the parts that are made of folded bodies.
use Rattle.std.proofs.Common.{◌≡◌, ℕ, suc, ◌+◌, List, [], ◌∷◌, ◌++◌, map, length, refl, sym, ap, subst, ◌∙◌, append_assoc, arith}
use Rattle.sac_base.specs.declared.grid.Grid1.{Grid1}
use Rattle.sac_base.specs.declared.site.Site.{Site}
use Rattle.core_ir.specs.declared.tree.Block.{Block, out-Block}
use Rattle.core_ir.specs.declared.tree.CorePart.{CorePart, CorePart', CorePart-F, out-CorePart, roll-CorePart, out-roll-CorePart}
use Rattle.core_ir.specs.declared.tree.Let.{Let}
use Rattle.core_ir.specs.declared.tree.Right.TheBlock.{the_data, the_data-1, the_data-2, the_data-3, the_data-4, the_data-5, the_data-6}
use Rattle.core_ir.specs.declared.tree.Var.{Var}
use Rattle.core_ir.specs.Binders.{bound_in}
use Rattle.core_ir.specs.Terms.{PlainTerm, BlockTerm, LetTerm, PartTerm, Gives, Plain, chain}
use Rattle.core_ir.specs.View.{block_term, let_term, part_term}
use Rattle.core_ir.proofs.Trees.{block_out}
use Rattle.core_subst.specs.copy.Mapped.{mapped}
use Rattle.core_forms.specs.inlining.Inlined.{bindings, results}
use Rattle.core_subst.specs.Names.{variable}
use Rattle.parted_bodies.specs.declared.names.Progress.{Progress}
use Rattle.parted_bodies.specs.Numbering.{named, numbered}
use Rattle.folded_parts.specs.Folding.{BlockFolded, copied, copy_binds, last_copy, taken}
use Rattle.folded_parts.specs.Making.{PieceMade}
use Rattle.folded_parts.proofs.Turns.{map_both}

-- ---- parts by their fields

abbrev pub shown_part : CorePart-F the_data the_data-1 the_data-2 the_data-3 the_data-4 the_data-5 the_data-6 → PartTerm
shown_part x = record { head = record { grid = x.grid; index = x.index; site = x.site }; body = block_term x.body }

pub part_out : (p : CorePart) → part_term p ≡ shown_part (out-CorePart p)
unfolding out-CorePart denote.Hole.Carrier.out
part_out (CorePart' a b c d) = refl

pub part_roll : (x : CorePart-F the_data the_data-1 the_data-2 the_data-3 the_data-4 the_data-5 the_data-6) → part_term (roll-CorePart x) ≡ shown_part x
part_roll x = part_out (roll-CorePart x) ∙ ap shown_part (out-roll-CorePart x)

-- ---- blocks by their bindings

chain_bindings : (ls : List LetTerm) (rs : List Var) → bindings (chain ls (Gives rs)) ≡ ls
chain_bindings [] rs = refl
chain_bindings (l ∷ ls) rs = ap (λ ks. l ∷ ks) (chain_bindings ls rs)

chain_results : (ls : List LetTerm) (rs : List Var) → results (chain ls (Gives rs)) ≡ rs
chain_results [] rs = refl
chain_results (l ∷ ls) rs = chain_results ls rs

-- ---- copies

-- the names after both steps
names_made : (f0 f1 f2 : Var → Var) (x index : Var) (bound : List Var) (m : ℕ) → ((z : Var) → f0 z ≡ z) → ((z : Var) → f1 z ≡ named f0 x index z) → ((z : Var) → f2 z ≡ numbered f1 bound m z) →
    f2 ≡ numbered (named (λ w. w) x index) bound m
names_made f0 f1 f2 x index bound m e0 e1 e2 =
    let p1 : f1 ≡ named (λ w. w) x index = λ i z. (e1 z ∙ (λ j. named (λ w. e0 w j) x index z)) i in
    λ i z. (e2 z ∙ (λ j. numbered (p1 j) bound m z)) i

pub renamed_made : (x own : Var) (old new : BlockTerm) (m : ℕ) (bound : List Var) (f0 f1 f2 : Var → Var) → ((z : Var) → f0 z ≡ z) → ((z : Var) → f1 z ≡ named f0 x own z) → ((z : Var) → f2 z ≡ numbered f1 bound m z) →
    bound ≡ bound_in old → new ≡ mapped f2 old → new ≡ mapped (numbered (named (λ w. w) x own) (bound_in old) m) old
renamed_made x own old new m bound f0 f1 f2 e0 e1 e2 eb en =
    en ∙ (λ j. mapped (names_made f0 f1 f2 x own bound m e0 e1 e2 j) old) ∙ (λ j. mapped (numbered (named (λ w. w) x own) (eb j) m) old)

pub copy_made : (part : CorePart) (new : BlockTerm) (n m : ℕ) (own : Var) → new ≡ mapped (numbered (named (λ w. w) (out-CorePart part).index own) (bound_in (block_term (out-CorePart part).body)) m) (block_term (out-CorePart part).body) →
    own ≡ variable n → m ≡ suc n → new ≡ copied (part_term part) n
copy_made part new n m own e eo em =
    let x = out-CorePart part in
    e ∙ (λ j. mapped (numbered (named (λ w. w) x.index (eo j)) (bound_in (block_term x.body)) (em j)) (block_term x.body)) ∙ ap (λ t. copied t n) (sym (part_out part))

-- how many variables a copy takes
pub copy_taken : (part : CorePart) (p q r : Progress) → q ≡ record p { next = suc p.next } → r ≡ record q { next = q.next + length (bound_in (block_term (out-CorePart part).body)) } → r ≡ record p { next = p.next + copy_binds (part_term part) }
copy_taken part p q r e f =
    let bound = bound_in (block_term (out-CorePart part).body) in
    let count : suc p.next + length bound ≡ p.next + suc (length bound) = omega arith in
    f ∙ (λ j. record (e j) { next = (e j).next + length bound }) ∙ (λ j. record p { next = count j }) ∙ (λ j. record p { next = p.next + copy_binds (sym (part_out part) j) })

-- the index, the bindings of the copy, and the target
pub taken_made :
    (part : CorePart) (index : Var) (targets : List Var) (site : Site) (n : ℕ) (own : Var) (block : Block) (before first second last : List Let) (l : Let) → block_term block ≡ copied (part_term part) n → own ≡ variable n →
    let_term l ≡ record { targets = own ∷ []; site = site; right = Plain (PlainTerm.Copy index) } → first ≡ before ++ (l ∷ []) → second ≡ first ++ (out-Block block).lets.items →
    map let_term last ≡ map let_term second ++ last_copy targets (out-Block block).results.items site → map let_term last ≡ map let_term before ++ taken (part_term part) index targets site n
taken_made part index targets site n own block before first second last l eb eo el e1 e2 e3 =
    let inner = (out-Block block).lets.items in
    let rs = (out-Block block).results.items in
    let ends = last_copy targets rs site in
    let whole : map let_term second ≡ (map let_term before ++ (let_term l ∷ [])) ++ map let_term inner =
    ap (map let_term) e2 ∙ map_both let_term first inner ∙ (λ i. (ap (map let_term) e1 ∙ map_both let_term before (l ∷ [])) i ++ map let_term inner) in
    let lets : map let_term inner ≡ bindings (copied (part_term part) n) = sym (ap bindings (block_out block) ∙ chain_bindings (map let_term inner) rs) ∙ ap bindings eb in
    let gives : rs ≡ results (copied (part_term part) n) = sym (ap results (block_out block) ∙ chain_results (map let_term inner) rs) ∙ ap results eb in
    e3 ∙ (λ i. whole i ++ ends)
    ∙ append_assoc (map let_term before ++ (let_term l ∷ [])) (map let_term inner) ends
    ∙ append_assoc (map let_term before) (let_term l ∷ []) (map let_term inner ++ ends)
    ∙ (λ i. map let_term before ++ (el i ∷ (lets i ++ last_copy targets (gives i) site)))
    ∙ (λ i. map let_term before ++ (record { targets = eo i ∷ []; site = site; right = Plain (PlainTerm.Copy index) } ∷ (bindings (copied (part_term part) n) ++ last_copy targets (results (copied (part_term part) n)) site)))

-- the part of a piece
pub piece_made :
    (p : Var) (parts : List PartTerm) (holders : List ℕ) (old : CorePart) (grid : List Grid1) (n m m' after : ℕ) (new : PartTerm) (body renamed : BlockTerm) (own : Var) →
    (passed : ℕ) × BlockFolded p parts holders 0 n (block_term (out-CorePart old).body) body passed m →
    new ≡ record { head = record { grid = grid; index = own; site = (out-CorePart old).site }; body = renamed } →
    renamed ≡ mapped (numbered (named (λ w. w) (out-CorePart old).index own) (bound_in body) m') body → own ≡ variable m → m' ≡ suc m → after ≡ m' + length (bound_in body) →
    PieceMade p parts holders (part_term old) grid n new after
piece_made p parts holders old grid n m m' after new body renamed own folded en er eo em ea =
    let x = out-CorePart old in
    subst (λ (t : PartTerm). PieceMade p parts holders t grid n new after) (sym (part_out old))
    (record {
      body = body;
      passed = folded.0;
      next = m;
      folded = folded.1;
      made = en ∙ (λ i. record { head = record { grid = grid; index = eo i; site = x.site }; body = er i })
          ∙ (λ i. record { head = record { grid = grid; index = variable m; site = x.site }; body = mapped (numbered (named (λ w. w) x.index (eo i)) (bound_in body) (em i)) body });
      up_to = ea ∙ (λ i. em i + length (bound_in body));
    })
