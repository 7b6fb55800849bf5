-- One turn of the loops of the walk, and their ends.
use Rattle.std.proofs.Common.{◌≡◌, ℕ, zero, suc, ◌+◌, ◌<◌, ◌≤◌, List, [], ◌∷◌, ◌++◌, map, drop, get_or, length, Option, Some, None, refl, sym, ap, ◌∙◌, append_assoc, append-nil, arith}
use Rattle.std.proofs.lemmas.List.{drop_more}
use Rattle.std.specs.Prelude.{Result, Ok, Err, OnOk}
use Rattle.core_ir.specs.declared.tree.Block.{Block, out-Block}
use Rattle.core_ir.specs.declared.tree.WithLoop.{WithLoop, out-WithLoop}
use Rattle.core_ir.specs.declared.tree.PartedLoop.{PartedLoop, out-PartedLoop}
use Rattle.core_ir.proofs.Trees.{block_out, with_out, parted_out}
use Rattle.core_ir.specs.declared.tree.Let.{Let}
use Rattle.core_ir.specs.declared.tree.CoreGen.{CoreGen}
use Rattle.core_ir.specs.declared.tree.CorePart.{CorePart}
use Rattle.core_ir.specs.declared.tree.Var.{Var}
use Rattle.core_ir.specs.Terms.{BlockTerm, Gives, LetTerm, GenTerm, PartTerm, chain, gens_of, parts_of}
use Rattle.core_ir.specs.View.{block_term, with_term, parted_term, let_term, gen_term, part_term}
use Rattle.core_facts.specs.Facts.{Fact, Facts, note_all, right_facts, block_facts}
use Rattle.known_calls.specs.Known.{GroupAndShapes, known_in, known_right, known_gens, known_parts, shapes_known, with_shape}
use Rattle.known_calls.specs.Told.{known_gen, known_part}

abbrev pub Called : Type 0
Called = ℕ → List (Option (List ℕ))

abbrev pub lets_known : Called → List Let → BlockTerm → Facts → List GroupAndShapes
lets_known called ls end k = known_in called (chain (map let_term ls) end) k

abbrev pub gens_known : Called → List CoreGen → Facts → List GroupAndShapes
gens_known called gs k = known_gens called (gens_of (map gen_term gs)) k

abbrev pub parts_known : Called → List CorePart → Facts → List GroupAndShapes
parts_known called ps k = known_parts called (parts_of (map part_term ps)) k

-- what is there, with what the rest gives, stays the whole
appended : (old new x rest whole : List GroupAndShapes) → old ++ (x ++ rest) ≡ whole → new ≡ old ++ x → new ++ rest ≡ whole
appended old new x rest whole p e = ap (λ xs. xs ++ rest) e ∙ append_assoc old x rest ∙ p

pub let_turn : (called : Called) (ls : List Let) (i : ℕ) (l : Let) (k now : Facts) (old new whole : List GroupAndShapes) (end : BlockTerm) → i < length ls → l ≡ get_or ls i l → old ++ lets_known called (drop i ls) end k ≡ whole
    → new ≡ old ++ known_right called (let_term l).right k → now ≡ note_all k (let_term l).targets (right_facts called (let_term l).right k) → new ++ lets_known called (drop (i + 1) ls) end now ≡ whole
let_turn called ls i l k now old new whole end lt is p e n =
    ap (λ z. new ++ lets_known called (drop (i + 1) ls) end z) n
    ∙ appended old new (known_right called (let_term l).right k) (lets_known called (drop (i + 1) ls) end (note_all k (let_term l).targets (right_facts called (let_term l).right k))) whole
    (ap (λ xs. old ++ xs) (sym (ap (λ xs. lets_known called xs end k) (drop_more ls i l lt) ∙ ap (λ (x : Let). known_right called (let_term x).right k ++ lets_known called (drop (i + 1) ls) end (note_all k (let_term x).targets (right_facts called (let_term x).right k))) (sym is))) ∙ p) e

pub facts_turn : (called : Called) (ls : List Let) (i : ℕ) (l : Let) (k now : Facts) (whole : List Fact) (end : BlockTerm) → i < length ls → l ≡ get_or ls i l → block_facts called (chain (map let_term (drop i ls)) end) k ≡ whole
    → now ≡ note_all k (let_term l).targets (right_facts called (let_term l).right k) → block_facts called (chain (map let_term (drop (i + 1) ls)) end) now ≡ whole
facts_turn called ls i l k now whole end lt is p n =
    ap (block_facts called (chain (map let_term (drop (i + 1) ls)) end)) n
    ∙ sym (ap (λ xs. block_facts called (chain (map let_term xs) end) k) (drop_more ls i l lt) ∙ ap (λ (x : Let). block_facts called (chain (map let_term (drop (i + 1) ls)) end) (note_all k (let_term x).targets (right_facts called (let_term x).right k))) (sym is))
    ∙ p

pub gen_turn : (called : Called) (gs : List CoreGen) (i : ℕ) (g : CoreGen) (k : Facts) (old new whole : List GroupAndShapes) → i < length gs → g ≡ get_or gs i g → old ++ gens_known called (drop i gs) k ≡ whole
    → new ≡ old ++ known_gen called (gen_term g) k → new ++ gens_known called (drop (i + 1) gs) k ≡ whole
gen_turn called gs i g k old new whole lt is p e =
    appended old new (known_gen called (gen_term g) k) (gens_known called (drop (i + 1) gs) k) whole
    (ap (λ xs. old ++ xs) (sym (ap (λ xs. gens_known called xs k) (drop_more gs i g lt) ∙ ap (λ (x : CoreGen). known_gen called (gen_term x) k ++ gens_known called (drop (i + 1) gs) k) (sym is))) ∙ p) e

pub part_turn : (called : Called) (ps : List CorePart) (i : ℕ) (q : CorePart) (k : Facts) (old new whole : List GroupAndShapes) → i < length ps → q ≡ get_or ps i q → old ++ parts_known called (drop i ps) k ≡ whole
    → new ≡ old ++ known_part called (part_term q) k → new ++ parts_known called (drop (i + 1) ps) k ≡ whole
part_turn called ps i q k old new whole lt is p e =
    appended old new (known_part called (part_term q) k) (parts_known called (drop (i + 1) ps) k) whole
    (ap (λ xs. old ++ xs) (sym (ap (λ xs. parts_known called xs k) (drop_more ps i q lt) ∙ ap (λ (x : CorePart). known_part called (part_term x) k ++ parts_known called (drop (i + 1) ps) k) (sym is))) ∙ p) e

pub drop_over : {A : Type 0} (xs : List A) (i : ℕ) → length xs ≤ i → drop i xs ≡ []
drop_over [] zero le = refl
drop_over [] (suc i) le = refl
drop_over (x ∷ xs) zero le = absurd (omega (arith, le))
drop_over (x ∷ xs) (suc i) le = drop_over xs i (omega (arith, le))

-- ---- shapes that are known

abbrev pub prefixed : List (List ℕ) → Option (List (List ℕ)) → Option (List (List ℕ))
prefixed ss None = None
prefixed ss (Some rest) = Some (ss ++ rest)

pub nothing_before : (o : Option (List (List ℕ))) → prefixed [] o ≡ o
nothing_before None = refl
nothing_before (Some rest) = refl

one_more : (ss : List (List ℕ)) (s : List ℕ) (o : Option (List (List ℕ))) → prefixed ss (with_shape (Some s) o) ≡ prefixed (ss ++ (s ∷ [])) o
one_more ss s None = refl
one_more ss s (Some rest) = ap Some (sym (append_assoc ss (s ∷ []) rest))

front : (k : Facts) (xs : List Var) (i : ℕ) (d : Var) → i < length xs → shapes_known k (drop i xs) ≡ with_shape (k (get_or xs i d)).shape (shapes_known k (drop (i + 1) xs))
front k xs i d lt = ap (shapes_known k) (drop_more xs i d lt)

pub shape_turn : (k : Facts) (xs : List Var) (i : ℕ) (d : Var) (ss new : List (List ℕ)) (s : List ℕ) (whole : Option (List (List ℕ))) → i < length xs → (k (get_or xs i d)).shape ≡ Some s → whole ≡ prefixed ss (shapes_known k (drop i xs)) → new ≡ ss ++ (s ∷ [])
    → whole ≡ prefixed new (shapes_known k (drop (i + 1) xs))
shape_turn k xs i d ss new s whole lt e p n =
    p ∙ ap (prefixed ss) (front k xs i d lt ∙ ap (λ o. with_shape o (shapes_known k (drop (i + 1) xs))) e) ∙ one_more ss s (shapes_known k (drop (i + 1) xs)) ∙ ap (λ ts. prefixed ts (shapes_known k (drop (i + 1) xs))) (sym n)

pub no_shape : (k : Facts) (xs : List Var) (i : ℕ) (d : Var) (ss : List (List ℕ)) (whole : Option (List (List ℕ))) → i < length xs → (k (get_or xs i d)).shape ≡ None → whole ≡ prefixed ss (shapes_known k (drop i xs)) → whole ≡ None
no_shape k xs i d ss whole lt e p = p ∙ ap (prefixed ss) (front k xs i d lt ∙ ap (λ o. with_shape o (shapes_known k (drop (i + 1) xs))) e ∙ none (shapes_known k (drop (i + 1) xs)))
  where
    none : (o : Option (List (List ℕ))) → with_shape None o ≡ None
    none None = refl
    none (Some rest) = refl

pub all_shapes : (k : Facts) (xs : List Var) (i : ℕ) (ss : List (List ℕ)) (whole : Option (List (List ℕ))) → length xs ≤ i → whole ≡ prefixed ss (shapes_known k (drop i xs)) → whole ≡ Some ss
all_shapes k xs i ss whole le p = p ∙ ap (λ ys. prefixed ss (shapes_known k ys)) (drop_over xs i le) ∙ ap Some (append-nil ss)

-- ---- the ends of the loops

pub lets_end : (called : Called) (b : Block) (rest items : List Let) (k k' : Facts) (xs start : List GroupAndShapes) → ((end : BlockTerm) → xs ++ lets_known called rest end k' ≡ start ++ lets_known called items end k) → rest ≡ [] → items ≡ (out-Block b).lets.items
    → xs ≡ start ++ known_in called (block_term b) k
lets_end called b rest items k k' xs start p r e =
    let rs = (out-Block b).results.items in
    sym (append-nil xs) ∙ ap (λ ls. xs ++ lets_known called ls (Gives rs) k') (sym r) ∙ p (Gives rs) ∙ (λ i. start ++ lets_known called (e i) (Gives rs) k)
    ∙ ap (λ t. start ++ known_in called t k) (sym (block_out b))

pub known_end : (called : Called) (b : Block) (rest items : List Let) (k k' : Facts) (known : List Fact) → ((end : BlockTerm) → block_facts called (chain (map let_term rest) end) k' ≡ block_facts called (chain (map let_term items) end) k) → rest ≡ [] → items ≡ (out-Block b).lets.items
    → known ≡ map k' (out-Block b).results.items → known ≡ block_facts called (block_term b) k
known_end called b rest items k k' known p r e q =
    let rs = (out-Block b).results.items in
    q ∙ ap (λ ls. block_facts called (chain (map let_term ls) (Gives rs)) k') (sym r) ∙ p (Gives rs) ∙ (λ i. block_facts called (chain (map let_term (e i)) (Gives rs)) k)
    ∙ ap (λ t. block_facts called t k) (sym (block_out b))

pub gens_end : (called : Called) (w : WithLoop) (rest items : List CoreGen) (k : Facts) (xs start : List GroupAndShapes) → xs ++ gens_known called rest k ≡ start ++ gens_known called items k → rest ≡ [] → items ≡ (out-WithLoop w).gens.items
    → xs ≡ start ++ known_right called (with_term w) k
gens_end called w rest items k xs start p r e =
    sym (append-nil xs) ∙ ap (λ gs. xs ++ gens_known called gs k) (sym r) ∙ p ∙ (λ i. start ++ gens_known called (e i) k) ∙ ap (λ t. start ++ known_right called t k) (sym (with_out w))

pub parts_end : (called : Called) (w : PartedLoop) (rest items : List CorePart) (k : Facts) (xs start : List GroupAndShapes) → xs ++ parts_known called rest k ≡ start ++ parts_known called items k → rest ≡ [] → items ≡ (out-PartedLoop w).parts.items
    → xs ≡ start ++ known_right called (parted_term w) k
parts_end called w rest items k xs start p r e =
    sym (append-nil xs) ∙ ap (λ ps. xs ++ parts_known called ps k) (sym r) ∙ p ∙ (λ i. start ++ parts_known called (e i) k) ∙ ap (λ t. start ++ known_right called t k) (sym (parted_out w))

pub on_ok : {A E P : Type 0} (r : Result A E) → P → OnOk r P
on_ok (Ok a) p = p
on_ok (Err e) p = tt
