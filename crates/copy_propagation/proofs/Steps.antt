-- One turn of the loops of the walk, and their ends.
use Rattle.std.proofs.Common.{◌≡◌, ℕ, zero, suc, ◌+◌, ◌-◌, List, [], ◌∷◌, ◌++◌, map, length, get_or, Some, refl, sym, ap, ◌∙◌, append_assoc, append-nil, arith}
use Rattle.std.specs.Prelude.{drop}
use Rattle.std.proofs.lemmas.List.{length-drop}
use Rattle.core_ir.specs.declared.tree.Var.{Var}
use Rattle.core_ir.specs.declared.tree.Let.{Let}
use Rattle.core_ir.specs.declared.tree.CoreGen.{CoreGen}
use Rattle.core_ir.specs.declared.tree.CorePart.{CorePart}
use Rattle.core_ir.specs.declared.tree.Block.{Block, Block-F, out-Block, roll-Block}
use Rattle.core_ir.specs.declared.tree.WithLoop.{WithLoop, WithLoop-F, out-WithLoop, roll-WithLoop}
use Rattle.core_ir.specs.declared.tree.PartedLoop.{PartedLoop, PartedLoop-F, out-PartedLoop, roll-PartedLoop}
use Rattle.core_ir.specs.declared.tree.Right.TheBlock.{the_data, the_data-1, the_data-2, the_data-3, the_data-4, the_data-5, the_data-6}
use Rattle.core_ir.specs.Terms.{BlockTerm, RightTerm, Gives, Bind, Gen, Part, LetTerm, GenTerm, PartTerm, chain, gens_of, parts_of}
use Rattle.core_ir.specs.View.{block_term, let_term, right_term, gen_term, part_term, with_term, parted_term}
use Rattle.core_ir.proofs.Trees.{block_out, block_roll, with_out, with_roll, parted_out, parted_roll}
use Rattle.core_subst.specs.Substitution.{core_op_with, parted_op_with}
use Rattle.core_forms.specs.cleaning.Copies.{behind, forwarded, forwarded_right, forwarded_gens, forwarded_parts, source}
use Rattle.copy_propagation.specs.Forwarded.{forwarded_gen, forwarded_part}
use Rattle.copy_propagation.specs.Notes.{Note}
use Rattle.copy_propagation.specs.Table.{source_in}

-- ---- notes that go

drop_nothing : {A : Type 0} (k : ℕ) → ◌≡◌ {A = List A} (drop k []) []
drop_nothing zero = refl
drop_nothing (suc k) = refl

drop_twice : {A : Type 0} (m n : ℕ) (xs : List A) → drop m (drop n xs) ≡ drop (n + m) xs
drop_twice m zero xs = ap (λ j. drop j xs) (let e : m ≡ 0 + m = omega arith in e)
drop_twice m (suc n) [] = drop_nothing m ∙ sym (drop_nothing (suc n + m))
drop_twice m (suc n) (x ∷ xs) = drop_twice m n xs ∙ ap (λ j. drop j (x ∷ xs)) (let e : suc (n + m) ≡ suc n + m = omega arith in e)

-- what two learn one after the other goes at once
pub earlier_on : (a b c : List Note) → drop (length b - length a) b ≡ a → drop (length c - length b) c ≡ b → drop (length c - length a) c ≡ a
earlier_on a b c p q =
    let la = sym (length-drop (length b - length a) b) ∙ ap length p in
    let lb = sym (length-drop (length c - length b) c) ∙ ap length q in
    let sum : length c - length a ≡ (length c - length b) + (length b - length a) = omega (arith, la, lb) in
    ap (λ n. drop n c) sum ∙ sym (drop_twice (length b - length a) (length c - length b) c) ∙ ap (drop (length b - length a)) q ∙ p

-- where nothing was learned nothing goes
pub none_gone : (a : List Note) → drop (length a - length a) a ≡ a
none_gone a = let e : length a - length a ≡ 0 = omega arith in ap (λ n. drop n a) e

pub one_more : (n : Note) (a b : List Note) → b ≡ n ∷ a → drop (length b - length a) b ≡ a
one_more n a b e = ap (λ l. drop (length l - length a) l) e ∙ (let one : suc (length a) - length a ≡ 1 = omega arith in ap (λ m. drop m (n ∷ a)) one)

-- ---- a copy

pub one_target : (xs : List Var) (d x : Var) (now old : List Note) → length xs ≡ 1 → now ≡ record { variable = get_or xs 0 d; source = x } ∷ old → source_in now ≡ behind xs (Some x) (source_in old)
one_target [] d x now old l e = absurd (omega (arith, l))
one_target (t ∷ []) d x now old l e = ap source_in e
one_target (t ∷ u ∷ ts) d x now old l e = absurd (omega (arith, l))

pub other_targets : (xs : List Var) (x : Var) (f : Var → Var) → (length xs ≡ 1 → ⊥) → f ≡ behind xs (Some x) f
other_targets [] x f n = refl
other_targets (t ∷ []) x f n = absurd (n refl)
other_targets (t ∷ u ∷ ts) x f n = refl

-- ---- lists of generators and parts

module _ (f : Var → Var) where
  abbrev pub gens_with : List CoreGen → List GenTerm
  gens_with [] = []
  gens_with (g ∷ gs) = forwarded_gen (gen_term g) f ∷ gens_with gs

  abbrev pub parts_with : List CorePart → List PartTerm
  parts_with [] = []
  parts_with (p ∷ ps) = forwarded_part (part_term p) f ∷ parts_with ps

  gens_done : (gs : List CoreGen) → gens_of (gens_with gs) ≡ forwarded_gens (gens_of (map gen_term gs)) f
  gens_done [] = refl
  gens_done (g ∷ gs) = let s = forwarded_gen (gen_term g) f in ap (Gen s.head s.body) (gens_done gs)

  parts_done : (ps : List CorePart) → parts_of (parts_with ps) ≡ forwarded_parts (parts_of (map part_term ps)) f
  parts_done [] = refl
  parts_done (p ∷ ps) = let s = forwarded_part (part_term p) f in ap (Part s.head s.body) (parts_done ps)

map_snoc : {A B : Type 0} (f : A → B) (xs : List A) (x : A) → map f (xs ++ (x ∷ [])) ≡ map f xs ++ (f x ∷ [])
map_snoc f [] x = refl
map_snoc f (y ∷ ys) x = ap (λ l. f y ∷ l) (map_snoc f ys x)

chain_snoc : (ls : List LetTerm) (l : LetTerm) (end : BlockTerm) → chain (ls ++ (l ∷ [])) end ≡ chain ls (Bind l.targets l.site l.right end)
chain_snoc [] l end = refl
chain_snoc (m ∷ ms) l end = ap (Bind m.targets m.site m.right) (chain_snoc ms l end)

-- a binding more has been rewritten
pub let_turn : (f f' : Var → Var) (ls ls' before rest : List Let) (x y : Let) (end whole : BlockTerm) → chain (map let_term ls) (forwarded (chain (map let_term before) end) f) ≡ whole → before ≡ x ∷ rest → ls' ≡ ls ++ (y ∷ [])
    → let_term y ≡ record { targets = x.targets.items; site = x.site; right = forwarded_right (right_term x.right) f } → f' ≡ behind x.targets.items (source (right_term y.right)) f
    → chain (map let_term ls') (forwarded (chain (map let_term rest) end) f') ≡ whole
let_turn f f' ls ls' before rest x y end whole p b l k e =
    let inner = behind x.targets.items (source (forwarded_right (right_term x.right) f)) f in
    let same : f' ≡ inner = e ∙ (λ i. behind x.targets.items (source (k i).right) f) in
    (λ i. chain (map let_term (l i)) (forwarded (chain (map let_term rest) end) (same i)))
    ∙ ap (λ z. chain z (forwarded (chain (map let_term rest) end) inner)) (map_snoc let_term ls y)
    ∙ chain_snoc (map let_term ls) (let_term y) _
    ∙ (λ i. chain (map let_term ls) (Bind (k i).targets (k i).site (k i).right (forwarded (chain (map let_term rest) end) inner)))
    ∙ (λ i. chain (map let_term ls) (forwarded (chain (map let_term (sym b i)) end) f))
    ∙ p

-- an item more has been rewritten
pub gen_turn : (f f' : Var → Var) (done done' before rest : List CoreGen) (x y : CoreGen) (whole : List GenTerm) → map gen_term done ++ gens_with f before ≡ whole → before ≡ x ∷ rest → done' ≡ done ++ (y ∷ []) → gen_term y ≡ forwarded_gen (gen_term x) f' → f' ≡ f → map gen_term done' ++ gens_with f rest ≡ whole
gen_turn f f' done done' before rest x y whole p b d k e =
    (λ i. map gen_term (d i) ++ gens_with f rest)
    ∙ ap (λ z. z ++ gens_with f rest) (map_snoc gen_term done y)
    ∙ append_assoc (map gen_term done) (gen_term y ∷ []) (gens_with f rest)
    ∙ (λ i. map gen_term done ++ ((k ∙ ap (λ z. forwarded_gen (gen_term x) z) e) i ∷ gens_with f rest))
    ∙ (λ i. map gen_term done ++ gens_with f (sym b i))
    ∙ p

pub part_turn : (f f' : Var → Var) (done done' before rest : List CorePart) (x y : CorePart) (whole : List PartTerm) → map part_term done ++ parts_with f before ≡ whole → before ≡ x ∷ rest → done' ≡ done ++ (y ∷ []) → part_term y ≡ forwarded_part (part_term x) f' → f' ≡ f → map part_term done' ++ parts_with f rest ≡ whole
part_turn f f' done done' before rest x y whole p b d k e =
    (λ i. map part_term (d i) ++ parts_with f rest)
    ∙ ap (λ z. z ++ parts_with f rest) (map_snoc part_term done y)
    ∙ append_assoc (map part_term done) (part_term y ∷ []) (parts_with f rest)
    ∙ (λ i. map part_term done ++ ((k ∙ ap (λ z. forwarded_part (part_term x) z) e) i ∷ parts_with f rest))
    ∙ (λ i. map part_term done ++ parts_with f (sym b i))
    ∙ p

-- an iterator with nothing left
pub none_left : {A : Type 0} (len : ℕ) (items : List A) → len ≡ 0 → len ≡ length items → items ≡ []
none_left len [] p q = refl
none_left len (x ∷ xs) p q = absurd (omega arith)

-- after the last turn
pub block_end : (f outer : Var → Var) (rest before : List Let) (rs : List Var) (x : Block-F the_data the_data-1 the_data-2 the_data-3 the_data-4 the_data-5 the_data-6) (b : Block) → ((end : BlockTerm) → chain (map let_term x.lets.items) (forwarded (chain (map let_term rest) end) f) ≡ forwarded (chain (map let_term before) end) outer) → rest ≡ [] → before ≡ (out-Block b).lets.items → x.results.items ≡ map f rs → rs ≡ (out-Block b).results.items → block_term (roll-Block x) ≡ forwarded (block_term b) outer
block_end f outer rest before rs x b p r e k q =
    block_roll x
    ∙ (λ i. chain (map let_term x.lets.items) (Gives (k i)))
    ∙ (λ i. chain (map let_term x.lets.items) (forwarded (chain (map let_term (sym r i)) (Gives rs)) f))
    ∙ p (Gives rs)
    ∙ (λ i. forwarded (chain (map let_term (e i)) (Gives (q i))) outer)
    ∙ ap (λ z. forwarded z outer) (sym (block_out b))

pub with_end : (f : Var → Var) (rest before : List CoreGen) (x : WithLoop-F the_data the_data-1 the_data-2 the_data-3 the_data-4 the_data-5 the_data-6) (w : WithLoop) → map gen_term x.gens.items ++ gens_with f rest ≡ gens_with f before → rest ≡ [] → before ≡ (out-WithLoop w).gens.items → x.op ≡ core_op_with f (out-WithLoop w).op → with_term (roll-WithLoop x) ≡ forwarded_right (with_term w) f
with_end f rest before x w p r e k =
    with_roll x
    ∙ (λ i. RightTerm.With (k i) (gens_of ((sym (append-nil _) ∙ (λ j. map gen_term x.gens.items ++ gens_with f (sym r j)) ∙ p ∙ ap (gens_with f) e) i)))
    ∙ ap (RightTerm.With (core_op_with f (out-WithLoop w).op)) (gens_done f (out-WithLoop w).gens.items)
    ∙ ap (λ z. forwarded_right z f) (sym (with_out w))

pub parted_end : (f : Var → Var) (rest before : List CorePart) (x : PartedLoop-F the_data the_data-1 the_data-2 the_data-3 the_data-4 the_data-5 the_data-6) (w : PartedLoop) → map part_term x.parts.items ++ parts_with f rest ≡ parts_with f before → rest ≡ [] → before ≡ (out-PartedLoop w).parts.items → x.op ≡ parted_op_with f (out-PartedLoop w).op → x.frame ≡ (out-PartedLoop w).frame → x.base ≡ (out-PartedLoop w).base → x.cell ≡ (out-PartedLoop w).cell → parted_term (roll-PartedLoop x) ≡ forwarded_right (parted_term w) f
parted_end f rest before x w p r e k frame base cell =
    parted_roll x
    ∙ (λ i. RightTerm.Parted (frame i) (base i) (cell i) (k i) (parts_of ((sym (append-nil _) ∙ (λ j. map part_term x.parts.items ++ parts_with f (sym r j)) ∙ p ∙ ap (parts_with f) e) i)))
    ∙ ap (RightTerm.Parted (out-PartedLoop w).frame (out-PartedLoop w).base (out-PartedLoop w).cell (parted_op_with f (out-PartedLoop w).op)) (parts_done f (out-PartedLoop w).parts.items)
    ∙ ap (λ z. forwarded_right z f) (sym (parted_out w))
