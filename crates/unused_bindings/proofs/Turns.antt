-- One turn of the loops of the walk forward, and their ends.
use Rattle.std.proofs.Common.{◌≡◌, ℕ, List, [], ◌∷◌, ◌++◌, map, length, Option, refl, sym, ap, ◌∙◌, append_assoc, append-nil, arith}
use Rattle.std.specs.Prelude.{Result, Ok, Err, IfOk, OnOk, Vec}
use Rattle.std.specs.declared.alloc.Global.{Global}
use Rattle.std.proofs.lemmas.Result.{IfOk-weaker}
use Rattle.sac_base.specs.declared.memory.Memory.{Memory}
use Rattle.core_ir.specs.declared.tree.Let.{Let}
use Rattle.core_ir.specs.declared.tree.CoreGen.{CoreGen}
use Rattle.core_ir.specs.declared.tree.CorePart.{CorePart}
use Rattle.core_ir.specs.declared.tree.Block.{Block, out-Block}
use Rattle.core_ir.specs.declared.tree.WithLoop.{WithLoop, out-WithLoop}
use Rattle.core_ir.specs.declared.tree.PartedLoop.{PartedLoop, out-PartedLoop}
use Rattle.core_ir.specs.Terms.{BlockTerm, RightTerm, Gives, Gen, Part, GenTerm, PartTerm, chain, gens_of, parts_of}
use Rattle.core_ir.specs.View.{block_term, let_term, right_term, gen_term, part_term, with_term, parted_term}
use Rattle.core_ir.proofs.Trees.{block_out, with_out, parted_out}
use Rattle.core_facts.specs.Facts.{Fact, Facts, note_all, right_facts, block_facts}
use Rattle.core_forms.specs.cleaning.Unused.{bind_if_needed, is_removable, swept, swept_right, swept_gens, swept_parts}
use Rattle.fact_table.specs.declared.known.Known.{Known}
use Rattle.fact_table.specs.Table.{fact_of}
use Rattle.unused_bindings.specs.declared.swept.SweptBlock.{SweptBlock}
use Rattle.unused_bindings.specs.declared.swept.SweptRight.{SweptRight}
use Rattle.unused_bindings.specs.declared.swept.SweptLet.{SweptLet}
use Rattle.unused_bindings.specs.declared.swept.SweptGen.{SweptGen}
use Rattle.unused_bindings.specs.declared.swept.SweptPart.{SweptPart}
use Rattle.unused_bindings.specs.Passed.{passed_term, gen_terms, part_terms}
use Rattle.unused_bindings.specs.Swept.{PassedTerm, needed_before, swept_let, swept_gen, swept_part}

pub map_snoc : {A B : Type 0} (f : A → B) (xs : List A) (x : A) → map f (xs ++ (x ∷ [])) ≡ map f xs ++ (f x ∷ [])
map_snoc f [] x = refl
map_snoc f (y ∷ ys) x = ap (λ l. f y ∷ l) (map_snoc f ys x)

pub needed_snoc : (ls : List PassedTerm) (l : PassedTerm) (end : BlockTerm) → needed_before (ls ++ (l ∷ [])) end ≡ needed_before ls (bind_if_needed l.may_go l.binding.targets l.binding.site l.binding.right end)
needed_snoc [] l end = refl
needed_snoc (m ∷ ms) l end = ap (bind_if_needed m.may_go m.binding.targets m.binding.site m.binding.right) (needed_snoc ms l end)

-- an iterator with nothing left
pub none_left : {A : Type 0} (len : ℕ) (items : List A) → len ≡ 0 → len ≡ length items → items ≡ []
none_left len [] p q = refl
none_left len (x ∷ xs) p q = absurd (omega arith)

pub on_ok : {A E : Type 0} {P : Type 0} (r : Result A E) → P → OnOk r P
on_ok (Ok a) p = p
on_ok (Err e) p = tt

-- ---- bindings

-- a binding more is passed
module _ (called : ℕ → List (Option (List ℕ))) (k k' : Facts) (before rest : List Let) (x : Let) (first : before ≡ x ∷ rest)
    (learned : k' ≡ note_all k (let_term x).targets (right_facts called (let_term x).right k)) where
  abbrev next : Facts
  next = note_all k (let_term x).targets (right_facts called (let_term x).right k)

  pub let_turn : (y : SweptLet) → let_term y.binding ≡ swept_let called (let_term x) k → y.may_go ≡ is_removable (let_term x).right k → (ps ps' : List SweptLet) (end whole : BlockTerm)
      → needed_before (map passed_term ps) (swept called (chain (map let_term before) end) k) ≡ whole → ps' ≡ ps ++ (y ∷ [])
      → needed_before (map passed_term ps') (swept called (chain (map let_term rest) end) k') ≡ whole
  let_turn y new goes ps ps' end whole p l =
      let after = swept called (chain (map let_term rest) end) next in
      (λ i. needed_before (map passed_term (l i)) (swept called (chain (map let_term rest) end) (learned i)))
      ∙ ap (λ z. needed_before z after) (map_snoc passed_term ps y)
      ∙ needed_snoc (map passed_term ps) (passed_term y) after
      ∙ (λ i. needed_before (map passed_term ps) (bind_if_needed (goes i) (new i).targets (new i).site (new i).right after))
      ∙ (λ i. needed_before (map passed_term ps) (swept called (chain (map let_term (sym first i)) end) k))
      ∙ p

  pub known_turn : (end : BlockTerm) (whole : List Fact) → block_facts called (chain (map let_term before) end) k ≡ whole → block_facts called (chain (map let_term rest) end) k' ≡ whole
  known_turn end whole p =
      (λ i. block_facts called (chain (map let_term rest) end) (learned i))
      ∙ (λ i. block_facts called (chain (map let_term (sym first i)) end) k)
      ∙ p

-- all bindings are passed
block_end : (called : ℕ → List (Option (List ℕ))) (k k' : Facts) (ps : List SweptLet) (rest before : List Let) (b : Block) (new : BlockTerm)
    → ((end : BlockTerm) → needed_before (map passed_term ps) (swept called (chain (map let_term rest) end) k') ≡ swept called (chain (map let_term before) end) k)
    → rest ≡ [] → before ≡ (out-Block b).lets.items → new ≡ needed_before (map passed_term ps) (Gives (out-Block b).results.items) → new ≡ swept called (block_term b) k
block_end called k k' ps rest before b new p r e n =
    let end = Gives (out-Block b).results.items in
    n
    ∙ (λ i. needed_before (map passed_term ps) (swept called (chain (map let_term (sym r i)) end) k'))
    ∙ p end
    ∙ (λ i. swept called (chain (map let_term (e i)) end) k)
    ∙ ap (λ z. swept called z k) (sym (block_out b))

known_end : (called : ℕ → List (Option (List ℕ))) (k k' : Facts) (rest before : List Let) (b : Block) (known : List Fact)
    → ((end : BlockTerm) → block_facts called (chain (map let_term rest) end) k' ≡ block_facts called (chain (map let_term before) end) k)
    → rest ≡ [] → before ≡ (out-Block b).lets.items → known ≡ map k' (out-Block b).results.items → known ≡ block_facts called (block_term b) k
known_end called k k' rest before b known p r e q =
    let end = Gives (out-Block b).results.items in
    q
    ∙ (λ i. block_facts called (chain (map let_term (sym r i)) end) k')
    ∙ p end
    ∙ (λ i. block_facts called (chain (map let_term (e i)) end) k)
    ∙ ap (λ z. block_facts called z k) (sym (block_out b))

pub block_swept : (called : ℕ → List (Option (List ℕ))) (k k' : Facts) (ps : List SweptLet) (rest before : List Let) (b : Block) (r : Result SweptBlock Memory)
    → ((end : BlockTerm) → needed_before (map passed_term ps) (swept called (chain (map let_term rest) end) k') ≡ swept called (chain (map let_term before) end) k)
    → rest ≡ [] → before ≡ (out-Block b).lets.items → IfOk r (λ (new : SweptBlock). block_term new.block ≡ needed_before (map passed_term ps) (Gives (out-Block b).results.items))
    → IfOk r (λ (new : SweptBlock). block_term new.block ≡ swept called (block_term b) k)
block_swept called k k' ps rest before b r p e q h =
    IfOk-weaker r (λ (new : SweptBlock). block_term new.block ≡ needed_before (map passed_term ps) (Gives (out-Block b).results.items)) (λ (new : SweptBlock). block_term new.block ≡ swept called (block_term b) k)
    (λ new n. block_end called k k' ps rest before b (block_term new.block) p e q n) h

pub block_known : (called : ℕ → List (Option (List ℕ))) (k k' : Facts) (rest before : List Let) (b : Block) (known : Vec Known Global) (r : Result SweptBlock Memory)
    → ((end : BlockTerm) → block_facts called (chain (map let_term rest) end) k' ≡ block_facts called (chain (map let_term before) end) k)
    → rest ≡ [] → before ≡ (out-Block b).lets.items → map fact_of known.items ≡ map k' (out-Block b).results.items → IfOk r (λ (new : SweptBlock). new.results ≡ known)
    → IfOk r (λ (new : SweptBlock). map fact_of new.results.items ≡ block_facts called (block_term b) k)
block_known called k k' rest before b known r p e q f h =
    IfOk-weaker r (λ (new : SweptBlock). new.results ≡ known) (λ (new : SweptBlock). map fact_of new.results.items ≡ block_facts called (block_term b) k)
    (λ new n. (λ i. map fact_of (n i).items) ∙ known_end called k k' rest before b (map fact_of known.items) p e q f) h

-- ---- generators and parts

module _ (called : ℕ → List (Option (List ℕ))) (k : Facts) where
  abbrev pub gens_swept : List CoreGen → List GenTerm
  gens_swept gs = map (λ (g : CoreGen). swept_gen called (gen_term g) k) gs

  abbrev pub parts_swept : List CorePart → List PartTerm
  parts_swept ps = map (λ (p : CorePart). swept_part called (part_term p) k) ps

  gens_done : (gs : List CoreGen) → gens_of (gens_swept gs) ≡ swept_gens called (gens_of (map gen_term gs)) k
  gens_done [] = refl
  gens_done (g ∷ gs) = let s = swept_gen called (gen_term g) k in ap (Gen s.head s.body) (gens_done gs)

  parts_done : (ps : List CorePart) → parts_of (parts_swept ps) ≡ swept_parts called (parts_of (map part_term ps)) k
  parts_done [] = refl
  parts_done (p ∷ ps) = let s = swept_part called (part_term p) k in ap (Part s.head s.body) (parts_done ps)

  -- an item more is swept
  pub gen_turn : (k' : Facts) (done done' : List SweptGen) (before rest : List CoreGen) (x : CoreGen) (y : SweptGen) (whole : List GenTerm)
      → gen_terms done ++ gens_swept before ≡ whole → before ≡ x ∷ rest → done' ≡ done ++ (y ∷ []) → gen_term y.generator ≡ swept_gen called (gen_term x) k' → k' ≡ k
      → gen_terms done' ++ gens_swept rest ≡ whole
  gen_turn k' done done' before rest x y whole p b d new e =
      (λ i. gen_terms (d i) ++ gens_swept rest)
      ∙ ap (λ z. z ++ gens_swept rest) (map_snoc (λ (g : SweptGen). gen_term g.generator) done y)
      ∙ append_assoc (gen_terms done) (gen_term y.generator ∷ []) (gens_swept rest)
      ∙ (λ i. gen_terms done ++ ((new ∙ ap (swept_gen called (gen_term x)) e) i ∷ gens_swept rest))
      ∙ (λ i. gen_terms done ++ gens_swept (sym b i))
      ∙ p

  pub part_turn : (k' : Facts) (done done' : List SweptPart) (before rest : List CorePart) (x : CorePart) (y : SweptPart) (whole : List PartTerm)
      → part_terms done ++ parts_swept before ≡ whole → before ≡ x ∷ rest → done' ≡ done ++ (y ∷ []) → part_term y.part ≡ swept_part called (part_term x) k' → k' ≡ k
      → part_terms done' ++ parts_swept rest ≡ whole
  part_turn k' done done' before rest x y whole p b d new e =
      (λ i. part_terms (d i) ++ parts_swept rest)
      ∙ ap (λ z. z ++ parts_swept rest) (map_snoc (λ (p : SweptPart). part_term p.part) done y)
      ∙ append_assoc (part_terms done) (part_term y.part ∷ []) (parts_swept rest)
      ∙ (λ i. part_terms done ++ ((new ∙ ap (swept_part called (part_term x)) e) i ∷ parts_swept rest))
      ∙ (λ i. part_terms done ++ parts_swept (sym b i))
      ∙ p

  -- all are swept
  with_end : (done : List SweptGen) (rest before : List CoreGen) (w : WithLoop) (new : RightTerm) → gen_terms done ++ gens_swept rest ≡ gens_swept before → rest ≡ [] → before ≡ (out-WithLoop w).gens.items
      → new ≡ RightTerm.With (out-WithLoop w).op (gens_of (gen_terms done)) → new ≡ swept_right called (with_term w) k
  with_end done rest before w new p r e n =
      n
      ∙ ap (λ gs. RightTerm.With (out-WithLoop w).op (gens_of gs)) (sym (append-nil _) ∙ (λ j. gen_terms done ++ gens_swept (sym r j)) ∙ p ∙ ap gens_swept e)
      ∙ ap (RightTerm.With (out-WithLoop w).op) (gens_done (out-WithLoop w).gens.items)
      ∙ ap (λ z. swept_right called z k) (sym (with_out w))

  parted_end : (done : List SweptPart) (rest before : List CorePart) (w : PartedLoop) (new : RightTerm) → part_terms done ++ parts_swept rest ≡ parts_swept before → rest ≡ [] → before ≡ (out-PartedLoop w).parts.items
      → new ≡ RightTerm.Parted (out-PartedLoop w).frame (out-PartedLoop w).base (out-PartedLoop w).cell (out-PartedLoop w).op (parts_of (part_terms done)) → new ≡ swept_right called (parted_term w) k
  parted_end done rest before w new p r e n =
      let o = out-PartedLoop w in
      n
      ∙ ap (λ ps. RightTerm.Parted o.frame o.base o.cell o.op (parts_of ps)) (sym (append-nil _) ∙ (λ j. part_terms done ++ parts_swept (sym r j)) ∙ p ∙ ap parts_swept e)
      ∙ ap (RightTerm.Parted o.frame o.base o.cell o.op) (parts_done o.parts.items)
      ∙ ap (λ z. swept_right called z k) (sym (parted_out w))

  pub with_swept : (done : List SweptGen) (rest before : List CoreGen) (w : WithLoop) (r : Result SweptRight Memory) → gen_terms done ++ gens_swept rest ≡ gens_swept before → rest ≡ [] → before ≡ (out-WithLoop w).gens.items
      → IfOk r (λ (new : SweptRight). right_term new.right ≡ RightTerm.With (out-WithLoop w).op (gens_of (gen_terms done))) → IfOk r (λ (new : SweptRight). right_term new.right ≡ swept_right called (with_term w) k)
  with_swept done rest before w r p e q h =
      IfOk-weaker r (λ (new : SweptRight). right_term new.right ≡ RightTerm.With (out-WithLoop w).op (gens_of (gen_terms done))) (λ (new : SweptRight). right_term new.right ≡ swept_right called (with_term w) k)
      (λ new n. with_end done rest before w (right_term new.right) p e q n) h

  pub parted_swept : (done : List SweptPart) (rest before : List CorePart) (w : PartedLoop) (r : Result SweptRight Memory) → part_terms done ++ parts_swept rest ≡ parts_swept before → rest ≡ [] → before ≡ (out-PartedLoop w).parts.items
      → IfOk r (λ (new : SweptRight). right_term new.right ≡ RightTerm.Parted (out-PartedLoop w).frame (out-PartedLoop w).base (out-PartedLoop w).cell (out-PartedLoop w).op (parts_of (part_terms done)))
      → IfOk r (λ (new : SweptRight). right_term new.right ≡ swept_right called (parted_term w) k)
  parted_swept done rest before w r p e q h =
      let o = out-PartedLoop w in
      IfOk-weaker r (λ (new : SweptRight). right_term new.right ≡ RightTerm.Parted o.frame o.base o.cell o.op (parts_of (part_terms done))) (λ (new : SweptRight). right_term new.right ≡ swept_right called (parted_term w) k)
      (λ new n. parted_end done rest before w (right_term new.right) p e q n) h
