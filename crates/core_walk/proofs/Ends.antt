-- Blocks, right sides, generators and parts by their fields, when they have been walked through.
use Rattle.std.proofs.Common.{◌≡◌, ℕ, ◌-◌, Bool, List, [], ◌∷◌, ◌++◌, map, length, Option, refl, sym, ap, subst, ◌∙◌}
use Rattle.std.specs.Prelude.{Result, Ok, Err, IfOk, OnOk, Vec, drop}
use Rattle.std.specs.declared.alloc.Global.{Global}
use Rattle.std.proofs.lemmas.List.{append_assoc}
use Rattle.sac_base.specs.declared.memory.Memory.{Memory}
use Rattle.sac_base.specs.declared.site.Site.{Site}
use Rattle.core_ir.specs.declared.tree.Var.{Var}
use Rattle.core_ir.specs.declared.tree.Let.{Let}
use Rattle.core_ir.specs.declared.tree.Block.{Block, Block-F, out-Block, roll-Block}
use Rattle.core_ir.specs.declared.tree.CoreGen.{CoreGen, out-CoreGen, roll-CoreGen}
use Rattle.core_ir.specs.declared.tree.CorePart.{CorePart, out-CorePart, roll-CorePart}
use Rattle.core_ir.specs.declared.tree.Right.{Right}
use Rattle.core_ir.specs.declared.tree.Right.TheVariants as right
use Rattle.core_ir.specs.declared.tree.WithLoop.{WithLoop, out-WithLoop}
use Rattle.core_ir.specs.declared.tree.PartedLoop.{PartedLoop, PartedLoop-F, out-PartedLoop, roll-PartedLoop}
use Rattle.core_ir.specs.declared.tree.Right.TheBlock.{the_data, the_data-1, the_data-2, the_data-3, the_data-4, the_data-5, the_data-6}
use Rattle.core_ir.specs.Terms.{BlockTerm, RightTerm, LetTerm, GenTerm, PartTerm, Gives, Plain, With, Parted, chain, gens_of, parts_of}
use Rattle.core_ir.specs.View.{block_term, let_term, gen_term, part_term, right_term, with_term, parted_term}
use Rattle.core_ir.proofs.Trees.{block_out, block_roll, with_out, parted_out, parted_roll}
use Rattle.core_facts.specs.Facts.{Fact, Facts, common_facts, note_all, right_facts, in_part}
use Rattle.fact_table.specs.Table.{fact_of, facts_of}
use Rattle.fact_table.specs.Notes.{Note}
use Rattle.plain_facts.specs.Rights.{fact_of_right}
use Rattle.plain_facts.specs.known_rights.Anywhere.{IsKnownAnywhere}
use Rattle.plain_facts.specs.declared.known_rights.known.KnownBlock.{KnownBlock}
use Rattle.plain_facts.specs.declared.known_rights.known.KnownRight.{KnownRight}
use Rattle.plain_facts.proofs.known_rights.Fields.{shown_gen, shown_part, gen_out, gen_roll, part_out, part_roll}
use Rattle.plain_facts.proofs.known_rights.Plain.{IsOther, other_plain, plain_known}
use Rattle.core_walk.specs.Traced.{BlockTraced, LetsTraced, LetTraced, RightTraced, GensTraced, GenTraced, PartsTraced, PartTraced}
use Rattle.core_walk.specs.Traced.{finished, no_lets, more_lets, bound, plain, call, choice, turns, within_gens, within_parts, no_gens, more_gens, gen_body, no_parts, more_parts, part_body}
use Rattle.core_walk.proofs.Turns.{Going, going_first, going_on, going_done, pushed}

module _ (called : ℕ → List (Option (List ℕ))) (P : Type 0)
    (Step : Facts → P → P → List Var → Site → RightTerm → List Fact → List LetTerm → RightTerm → List Fact → Type 0)
    (Finish : Facts → P → P → BlockTerm → List Fact → BlockTerm → List Fact → Type 0) where
  -- ---- lists

  abbrev pub LetsT : (Facts × P) → (Facts × P) → List LetTerm → List LetTerm → Type 0
  LetsT s t = LetsTraced called P Step Finish s.0 t.0 s.1 t.1

  abbrev pub LetsGoing : Facts → P → List Let → Facts → P → List Let → List Let → Type 0
  LetsGoing k p all j q done rest = Going let_term LetsT (k, p) all (j, q) done rest

  abbrev pub GensGoing : Facts → P → List CoreGen → P → List CoreGen → List CoreGen → Type 0
  GensGoing k = Going gen_term (GensTraced called P Step Finish k)

  abbrev pub PartsGoing : Facts → P → List CorePart → P → List CorePart → List CorePart → Type 0
  PartsGoing k = Going part_term (PartsTraced called P Step Finish k)

  pub lets_first : (k : Facts) (p : P) (all done : List Let) → done ≡ [] → LetsGoing k p all k p done all
  lets_first k p all done e = going_first let_term LetsT (k, p) all done e

  pub lets_on : (k : Facts) (p : P) (all : List Let) (j j' : Facts) (q q' : P) (done done' before rest : List Let) (x : Let) (ms : List LetTerm) →
      LetsGoing k p all j q done before → before ≡ x ∷ rest → map let_term done' ≡ map let_term done ++ ms → LetTraced called P Step Finish j j' q q' (let_term x) ms →
      LetsGoing k p all j' q' done' rest
  lets_on k p all j j' q q' done done' before rest x ms v b d u =
      going_on let_term LetsT (k, p) all (j, q) (j', q') done done' before rest x ms v b d (λ s ns w. more_lets u w)

  pub gens_first : (k : Facts) (p : P) (all done : List CoreGen) → done ≡ [] → GensGoing k p all p done all
  gens_first k p all done e = going_first gen_term (GensTraced called P Step Finish k) p all done e

  pub gens_on : (k k' : Facts) (p : P) (all : List CoreGen) (q q' : P) (done done' before rest : List CoreGen) (x y : CoreGen) → GensGoing k p all q done before →
      before ≡ x ∷ rest → done' ≡ done ++ (y ∷ []) → k' ≡ k → GenTraced called P Step Finish k' q q' (gen_term x) (gen_term y) → GensGoing k p all q' done' rest
  gens_on k k' p all q q' done done' before rest x y v b d e u =
      let now = subst (λ (f : Facts). GenTraced called P Step Finish f q q' (gen_term x) (gen_term y)) e u in
      going_on gen_term (GensTraced called P Step Finish k) p all q q' done done' before rest x (gen_term y ∷ []) v b (pushed gen_term done' done y d) (λ s ns w. more_gens now w)

  pub parts_first : (k : Facts) (p : P) (all done : List CorePart) → done ≡ [] → PartsGoing k p all p done all
  parts_first k p all done e = going_first part_term (PartsTraced called P Step Finish k) p all done e

  pub parts_on : (k k' : Facts) (p : P) (all : List CorePart) (q q' : P) (done done' before rest : List CorePart) (x y : CorePart) → PartsGoing k p all q done before →
      before ≡ x ∷ rest → done' ≡ done ++ (y ∷ []) → k' ≡ k → PartTraced called P Step Finish k' q q' (part_term x) (part_term y) → PartsGoing k p all q' done' rest
  parts_on k k' p all q q' done done' before rest x y v b d e u =
      let now = subst (λ (f : Facts). PartTraced called P Step Finish f q q' (part_term x) (part_term y)) e u in
      going_on part_term (PartsTraced called P Step Finish k) p all q q' done done' before rest x (part_term y ∷ []) v b (pushed part_term done' done y d) (λ s ns w. more_parts now w)

  -- ---- a block

  pub block_end : (k k' : Facts) (p q r : P) (all done rest : List Let) (j : Facts) (x : Block-F the_data the_data-1 the_data-2 the_data-3 the_data-4 the_data-5 the_data-6) (b : Block)
      (vs : List Fact) (new : Result KnownBlock Memory) → LetsGoing k p all j q done rest → rest ≡ [] → all ≡ (out-Block b).lets.items → x.lets.items ≡ done →
      x.results.items ≡ (out-Block b).results.items → vs ≡ map j x.results.items → k' ≡ k →
      IfOk new (λ (n : KnownBlock). Finish k' q r (block_term (roll-Block x)) vs (block_term n.block) (map fact_of n.results.items)) →
      IfOk new (λ (n : KnownBlock). BlockTraced called P Step Finish k p r (block_term b) (block_term n.block) (map fact_of n.results.items))
  block_end k k' p q r all done rest j x b vs (Ok n) v z a d e f same h =
      let lets : LetsTraced called P Step Finish k j p q (map let_term all) (map let_term done) = going_done let_term LetsT (k, p) (j, q) all done rest v z no_lets in
      let old : chain (map let_term all) (Gives x.results.items) ≡ block_term b = (λ i. chain (map let_term (a i)) (Gives (e i))) ∙ sym (block_out b) in
      let made : block_term (roll-Block x) ≡ chain (map let_term done) (Gives x.results.items) = block_roll x ∙ ap (λ (ls : List Let). chain (map let_term ls) (Gives x.results.items)) d in
      let now : Finish k q r (chain (map let_term done) (Gives x.results.items)) (map j x.results.items) (block_term n.block) (map fact_of n.results.items) =
      subst (λ (ws : List Fact). Finish k q r (chain (map let_term done) (Gives x.results.items)) ws (block_term n.block) (map fact_of n.results.items)) f
      (subst (λ (t : BlockTerm). Finish k q r t vs (block_term n.block) (map fact_of n.results.items)) made
      (subst (λ (m : Facts). Finish m q r (block_term (roll-Block x)) vs (block_term n.block) (map fact_of n.results.items)) same h)) in
      subst (λ (t : BlockTerm). BlockTraced called P Step Finish k p r t (block_term n.block) (map fact_of n.results.items)) old (finished x.results.items lets now)
  block_end k k' p q r all done rest j x b vs (Err m) v z a d e f same h = tt

  -- ---- a binding

  pub let_end : (k inner behind j : Facts) (p q u : P) (xs ys zs : List Var) (s : Site) (r m t : RightTerm) (vs ws : List Fact) (old mid new ms : List LetTerm) → ys ≡ xs → zs ≡ xs →
      inner ≡ k → behind ≡ k → RightTraced called P Step Finish k p q r m vs → mid ≡ old ++ ms → Step inner q u ys s m vs ms t ws → j ≡ note_all behind zs ws →
      new ≡ mid ++ (record { targets = xs; site = s; right = t } ∷ []) →
      (ns : List LetTerm) × (new ≡ old ++ ns) × LetTraced called P Step Finish k j p u (record { targets = xs; site = s; right = r }) ns
  let_end k inner behind j p q u xs ys zs s r m t vs ws old mid new ms y z same still w d h learned e =
      let last : List LetTerm = record { targets = xs; site = s; right = t } ∷ [] in
      let step = subst (λ (l : List Var). Step k q u l s m vs ms t ws) y (subst (λ (f : Facts). Step f q u ys s m vs ms t ws) same h) in
      let one : LetTraced called P Step Finish k (note_all k xs ws) p u (record { targets = xs; site = s; right = r }) (ms ++ last) = bound w step in
      let known : j ≡ note_all k xs ws = learned ∙ (λ i. note_all (still i) (z i) ws) in (
        ms ++ last,
        e ∙ ap (λ (l : List LetTerm). l ++ last) d ∙ append_assoc old ms last,
        subst (λ (f : Facts). LetTraced called P Step Finish k f p u (record { targets = xs; site = s; right = r }) (ms ++ last)) (sym known) one,
      )

  -- ---- generators and parts

  pub gen_end : (k m : Facts) (p q : P) (g : CoreGen) (b : Block) (vs : List Fact) → m ≡ note_all k ((out-CoreGen g).index ∷ (out-CoreGen g).names.items) [] →
      BlockTraced called P Step Finish m p q (block_term (out-CoreGen g).body) (block_term b) vs →
      GenTraced called P Step Finish k p q (gen_term g) (gen_term (roll-CoreGen (record (out-CoreGen g) { body = b })))
  gen_end k m p q g b vs e w =
      let inner = subst (λ (f : Facts). BlockTraced called P Step Finish f p q (block_term (out-CoreGen g).body) (block_term b) vs) e w in
      subst (λ (t : GenTerm). GenTraced called P Step Finish k p q t (gen_term (roll-CoreGen (record (out-CoreGen g) { body = b })))) (sym (gen_out g))
      (subst (λ (t : GenTerm). GenTraced called P Step Finish k p q (shown_gen (out-CoreGen g)) t) (sym (gen_roll (record (out-CoreGen g) { body = b })))
      (gen_body {h = (shown_gen (out-CoreGen g)).head} inner))

  pub part_end : (k m : Facts) (p q : P) (g : CorePart) (b : Block) (vs : List Fact) → m ≡ in_part k (shown_part (out-CorePart g)).head →
      BlockTraced called P Step Finish m p q (block_term (out-CorePart g).body) (block_term b) vs →
      PartTraced called P Step Finish k p q (part_term g) (part_term (roll-CorePart (record (out-CorePart g) { body = b })))
  part_end k m p q g b vs e w =
      let inner = subst (λ (f : Facts). BlockTraced called P Step Finish f p q (block_term (out-CorePart g).body) (block_term b) vs) e w in
      subst (λ (t : PartTerm). PartTraced called P Step Finish k p q t (part_term (roll-CorePart (record (out-CorePart g) { body = b })))) (sym (part_out g))
      (subst (λ (t : PartTerm). PartTraced called P Step Finish k p q (shown_part (out-CorePart g)) t) (sym (part_roll (record (out-CorePart g) { body = b })))
      (part_body {h = (shown_part (out-CorePart g)).head} inner))

  -- ---- right sides

  -- what was made of a right side, or could not be
  abbrev pub Tells : Facts → P → P → RightTerm → Result KnownRight Memory → Type 0
  Tells k p q r new = IfOk new (λ (n : KnownRight). RightTraced called P Step Finish k p q r (right_term n.right) (map fact_of n.values.items))

  tells : (k : Facts) (p q : P) (r t : RightTerm) (vs : List Fact) (new : Result KnownRight Memory) → IfOk new (λ (n : KnownRight). right_term n.right ≡ t) →
      IfOk new (λ (n : KnownRight). map fact_of n.values.items ≡ vs) → RightTraced called P Step Finish k p q r t vs → Tells k p q r new
  tells k p q r t vs (Ok n) e f w =
      subst (λ (fs : List Fact). RightTraced called P Step Finish k p q r (right_term n.right) fs) (sym f)
      (subst (λ (m : RightTerm). RightTraced called P Step Finish k p q r m vs) (sym e) w)
  tells k p q r t vs (Err m) e f w = tt

  pub choice_end : (k k' : Facts) (p q u : P) (x : Var) (a b c d : Block) (vs ws : List Fact) (old : Right) (new : Result KnownRight Memory) → old ≡ right.If x a b → k' ≡ k →
      BlockTraced called P Step Finish k p q (block_term a) (block_term c) vs → BlockTraced called P Step Finish k' q u (block_term b) (block_term d) ws →
      IfOk new (λ (n : KnownRight). right_term n.right ≡ RightTerm.If x (block_term c) (block_term d)) → IfOk new (λ (n : KnownRight). map fact_of n.values.items ≡ common_facts vs ws) →
      Tells k p u (right_term old) new
  choice_end k k' p q u x a b c d vs ws old new is e v w made known =
      let no = subst (λ (f : Facts). BlockTraced called P Step Finish f q u (block_term b) (block_term d) ws) e w in
      tells k p u (right_term old) (RightTerm.If x (block_term c) (block_term d)) (common_facts vs ws) new made known
      (subst (λ (t : RightTerm). RightTraced called P Step Finish k p u t (RightTerm.If x (block_term c) (block_term d)) (common_facts vs ws)) (sym (ap right_term is)) (choice v no))

  pub turns_end : (k inner behind : Facts) (p q u : P) (head : Bool) (start params : Vec Var Global) (t : Site) (a b c d : Block) (vs ws : List Fact) (old : Right) (new : KnownRight) →
      old ≡ right.Loop head start params a b t → inner ≡ note_all k params.items [] → behind ≡ inner →
      BlockTraced called P Step Finish inner p q (block_term a) (block_term c) vs → BlockTraced called P Step Finish behind q u (block_term b) (block_term d) ws →
      right_term new.right ≡ RightTerm.Loop head start.items params.items (block_term c) (block_term d) t → map fact_of new.values.items ≡ [] →
      RightTraced called P Step Finish k p u (right_term old) (right_term new.right) (map fact_of new.values.items)
  turns_end k inner behind p q u head start params t a b c d vs ws old new is e f v w made known =
      let test = subst (λ (m : Facts). BlockTraced called P Step Finish m p q (block_term a) (block_term c) vs) e v in
      let body = subst (λ (m : Facts). BlockTraced called P Step Finish m q u (block_term b) (block_term d) ws) (f ∙ e) w in
      tells k p u (right_term old) (RightTerm.Loop head start.items params.items (block_term c) (block_term d) t) [] (Ok new) made known
      (subst (λ (o : RightTerm). RightTraced called P Step Finish k p u o (RightTerm.Loop head start.items params.items (block_term c) (block_term d) t) []) (sym (ap right_term is)) (turns test body))

  pub call_end : (k : Facts) (p : P) (group : ℕ) (args : Vec Var Global) (vs : List Fact) (old : Right) (new : Result KnownRight Memory) → old ≡ right.Call group args →
      IfOk new (λ (n : KnownRight). right_term n.right ≡ RightTerm.Call group args.items) → IfOk new (λ (n : KnownRight). map fact_of n.values.items ≡ vs) →
      vs ≡ right_facts called (RightTerm.Call group args.items) k → Tells k p p (right_term old) new
  call_end k p group args vs old new is made known e =
      tells k p p (right_term old) (RightTerm.Call group args.items) vs new made known
      (subst (λ (fs : List Fact). RightTraced called P Step Finish k p p (right_term old) (RightTerm.Call group args.items) fs) (sym e)
      (subst (λ (o : RightTerm). RightTraced called P Step Finish k p p o (RightTerm.Call group args.items) (right_facts called (RightTerm.Call group args.items) k)) (sym (ap right_term is)) call))

  pub plain_end : (k : Facts) (p : P) (r : Right) (new : Result KnownRight Memory) → IsOther r → IfOk new (λ (n : KnownRight). right_term n.right ≡ right_term r) →
      IfOk new (λ (n : KnownRight). map fact_of n.values.items ≡ fact_of_right (right_term r) k ∷ []) → Tells k p p (right_term r) new
  plain_end k p r new other made known =
      let w = other_plain r other in
      tells k p p (right_term r) (right_term r) (fact_of_right (right_term r) k ∷ []) new made known
      (subst (λ (fs : List Fact). RightTraced called P Step Finish k p p (right_term r) (right_term r) fs) (sym (plain_known called k (right_term r) w.0 w.1))
      (subst (λ (t : RightTerm). RightTraced called P Step Finish k p p t t (right_facts called t k)) (sym w.1) plain))

  pub with_end : (k : Facts) (p q : P) (all rest : List CoreGen) (gens : List CoreGen) (w x : WithLoop) (new : KnownRight) → right_term new.right ≡ with_term x → map fact_of new.values.items ≡ [] →
      with_term x ≡ With (out-WithLoop w).op (gens_of (map gen_term gens)) → GensGoing k p all q gens rest → rest ≡ [] → all ≡ (out-WithLoop w).gens.items →
      RightTraced called P Step Finish k p q (with_term w) (right_term new.right) (map fact_of new.values.items)
  with_end k p q all rest gens w x new made known e v z a =
      let op = (out-WithLoop w).op in
      let done = going_done gen_term (GensTraced called P Step Finish k) p q all gens rest v z no_gens in
      let old : With op (gens_of (map gen_term all)) ≡ with_term w = (λ i. With op (gens_of (map gen_term (a i)))) ∙ sym (with_out w) in
      tells k p q (with_term w) (With op (gens_of (map gen_term gens))) [] (Ok new) (made ∙ e) known
      (subst (λ (t : RightTerm). RightTraced called P Step Finish k p q t (With op (gens_of (map gen_term gens))) []) old (within_gens done))

  pub parted_end : (k : Facts) (p q : P) (new : Result KnownRight Memory) (all rest : List CorePart) (parts : Vec CorePart Global) (w : PartedLoop) →
      IfOk new (λ (n : KnownRight). right_term n.right ≡ parted_term (roll-PartedLoop (record (out-PartedLoop w) { parts = parts }))) →
      IfOk new (λ (n : KnownRight). IsKnownAnywhere (right_term n.right) (map fact_of n.values.items)) → PartsGoing k p all q parts.items rest → rest ≡ [] →
      all ≡ (out-PartedLoop w).parts.items → Tells k p q (parted_term w) new
  parted_end k p q (Ok n) all rest parts w h known v z a =
      let o = out-PartedLoop w in
      let made : RightTerm = Parted o.frame o.base o.cell o.op (parts_of (map part_term parts.items)) in
      let done = going_done part_term (PartsTraced called P Step Finish k) p q all parts.items rest v z no_parts in
      let old : Parted o.frame o.base o.cell o.op (parts_of (map part_term all)) ≡ parted_term w = (λ i. Parted o.frame o.base o.cell o.op (parts_of (map part_term (a i)))) ∙ sym (parted_out w) in
      let now : right_term n.right ≡ made = h ∙ parted_roll (record o { parts = parts }) in
      tells k p q (parted_term w) made (right_facts called made k) (Ok n) now (known called k ∙ ap (λ (t : RightTerm). right_facts called t k) now)
      (subst (λ (t : RightTerm). RightTraced called P Step Finish k p q t made (right_facts called made k)) old (within_parts done))
  parted_end k p q (Err m) all rest parts w h known v z a = tt

-- ---- tables

pub still_on : {A B : Type 0} (r : Result A B) (now mid old : List Note) → OnOk r (now ≡ mid) → mid ≡ old → OnOk r (now ≡ old)
still_on (Ok a) now mid old h e = h ∙ e
still_on (Err b) now mid old h e = tt

pub earlier_end : (now mid old : List Note) → mid ≡ old → drop (length now - length mid) now ≡ mid → drop (length now - length old) now ≡ old
earlier_end now mid old e h = ap (λ (n : List Note). drop (length now - length n) now) (sym e) ∙ h ∙ e
