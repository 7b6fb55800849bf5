-- What the walk did: the term in which selections by scalars go by vectors, and the number behind those that it takes.
use Rattle.std.proofs.Common.{◌≡◌, ℕ, suc, List, [], ◌∷◌, ◌++◌, map, Option, Some, None, refl, sym, ap, ◌∙◌}
use Rattle.std.specs.Prelude.{Result, Ok, Err, IfOk, OnOk}
use Rattle.sac_base.specs.declared.memory.Memory.{Memory}
use Rattle.sac_base.specs.declared.site.Site.{Site}
use Rattle.core_ir.specs.declared.tree.Var.{Var}
use Rattle.core_ir.specs.declared.tree.Let.{Let}
use Rattle.core_ir.specs.Terms.{PlainTerm, BlockTerm, RightTerm, LetTerm, GenTerm, PartTerm, Gives, Bind, Gen, Part, Plain, With, Parted, chain, gens_of, parts_of}
use Rattle.core_ir.specs.View.{block_term, let_term}
use Rattle.core_facts.specs.Facts.{Fact, Facts, common_facts, note_all, block_facts, right_facts}
use Rattle.core_forms.specs.selections.Vectors.{Selection, behind, bind_vector, by_scalar, next, next_right, next_gens, next_parts, vectored, vectored_right, vectored_gens, vectored_parts}
use Rattle.core_walk.specs.Traced.{BlockTraced, LetsTraced, LetTraced, RightTraced, GensTraced, PartsTraced, Finished}
use Rattle.core_walk.specs.Traced.{finished, no_lets, more_lets, bound, plain, call, choice, turns, within_gens, within_parts, no_gens, more_gens, gen_body, no_parts, more_parts, part_body}
use Rattle.core_walk.proofs.Turns.{append_nil, pushed}
use Rattle.fact_table.specs.Table.{fact_of}
use Rattle.plain_facts.specs.declared.known_rights.known.KnownBlock.{KnownBlock}
use Rattle.vector_selections.specs.declared.choice.Selection.{Selection as Choice}
use Rattle.vector_selections.specs.Choice.{chosen}
use Rattle.vector_selections.specs.Vectored.{VectorStep, before_choice, by_choice, vector_let}

chain_append : (ls ms : List LetTerm) (end : BlockTerm) → chain (ls ++ ms) end ≡ chain ls (chain ms end)
chain_append [] ms end = refl
chain_append (l ∷ ls) ms end = ap (Bind l.targets l.site l.right) (chain_append ls ms end)

chosen_is : (x : Option Selection) (n : ℕ) (xs : List Var) (s : Site) (r : RightTerm) (end : BlockTerm) →
    chain (before_choice x n s ++ (record { targets = xs; site = s; right = by_choice x n r } ∷ [])) end ≡ bind_vector x n xs s r end
chosen_is None n xs s r end = refl
chosen_is (Some x) n xs s r end = refl

-- ---- a right side

-- it goes by a vector, which is bound before it
pub taken_step : (k : Facts) (n m : ℕ) (xs : List Var) (s : Site) (r : RightTerm) (vs : List Fact) (old new : List LetTerm) (found : Option Choice) (x : Choice) (v : Var) → chosen found ≡ by_scalar r k →
    found ≡ Some x → v.0 ≡ n → new ≡ old ++ (vector_let n s x.index ∷ []) → m ≡ suc n →
    (ms : List LetTerm) × (new ≡ old ++ ms) × VectorStep k n m xs s r vs ms (Plain (PlainTerm.Select x.array v)) vs
taken_step k n m xs s r vs old new found x v h is e d number =
    let made : Some (record { array = x.array; index = x.index }) ≡ by_scalar r k = sym (ap chosen is) ∙ h in (
      vector_let n s x.index ∷ [],
      d,
      record {
        known = refl;
        number = number ∙ ap (λ (c : Option Selection). behind c n) made;
        before = ap (λ (c : Option Selection). before_choice c n s) made;
        right = (λ i. Plain (PlainTerm.Select x.array (record { 0 = e i }))) ∙ ap (λ (c : Option Selection). by_choice c n r) made;
      },
    )

-- or it stays
pub kept_step : (k : Facts) (n : ℕ) (xs : List Var) (s : Site) (r : RightTerm) (vs : List Fact) (old : List LetTerm) (found : Option Choice) → chosen found ≡ by_scalar r k → found ≡ None →
    (ms : List LetTerm) × (old ≡ old ++ ms) × VectorStep k n n xs s r vs ms r vs
kept_step k n xs s r vs old found h is =
    let made : None ≡ by_scalar r k = sym (ap chosen is) ∙ h in (
      [],
      sym (append_nil old),
      record {
        known = refl;
        number = ap (λ (c : Option Selection). behind c n) made;
        before = ap (λ (c : Option Selection). before_choice c n s) made;
        right = ap (λ (c : Option Selection). by_choice c n r) made;
      },
    )

pub vector_bound : (old new : List Let) (x : Let) (v : Var) (n : ℕ) (s : Site) (i : Var) → new ≡ old ++ (x ∷ []) → let_term x ≡ record { targets = v ∷ []; site = s; right = Plain (PlainTerm.Literal (i ∷ [])) } →
    v.0 ≡ n → map let_term new ≡ map let_term old ++ (vector_let n s i ∷ [])
vector_bound old new x v n s i e d m =
    pushed let_term new old x e ∙ (λ j. map let_term old ++ (d j ∷ [])) ∙ (λ j. map let_term old ++ (record { targets = record { 0 = m j } ∷ []; site = s; right = Plain (PlainTerm.Literal (i ∷ [])) } ∷ []))

module _ (called : ℕ → List (Option (List ℕ))) where
  -- ---- what is told of each term

  record BlockTold (k : Facts) (n m : ℕ) (b c : BlockTerm) (vs : List Fact) : Type 0 where
    pub term : c ≡ vectored called b k n
    pub number : m ≡ next called b k n
    pub known : vs ≡ block_facts called b k

  record RightTold (k : Facts) (n m : ℕ) (r t : RightTerm) (vs : List Fact) : Type 0 where
    pub term : t ≡ vectored_right called r k n
    pub number : m ≡ next_right called r k n
    pub known : vs ≡ right_facts called r k
    pub chosen : by_scalar t k ≡ by_scalar r k

  record LetTold (k j : Facts) (n m : ℕ) (l : LetTerm) (ms : List LetTerm) : Type 0 where
    pub term : (end : BlockTerm) → chain ms end ≡ bind_vector (by_scalar l.right k) (next_right called l.right k n) l.targets l.site (vectored_right called l.right k n) end
    pub number : m ≡ behind (by_scalar l.right k) (next_right called l.right k n)
    pub known : j ≡ note_all k l.targets (right_facts called l.right k)

  record LetsTold (k j : Facts) (n m : ℕ) (ls ns : List LetTerm) : Type 0 where
    pub term : (end : BlockTerm) → chain ns (vectored called end j m) ≡ vectored called (chain ls end) k n
    pub number : (end : BlockTerm) → next called end j m ≡ next called (chain ls end) k n
    pub known : (end : BlockTerm) → block_facts called end j ≡ block_facts called (chain ls end) k

  let_told : (k : Facts) (n q m : ℕ) (xs : List Var) (s : Site) (r u t : RightTerm) (vs ws : List Fact) (ms : List LetTerm) → RightTold k n q r u vs → VectorStep k q m xs s u vs ms t ws →
      LetTold k (note_all k xs ws) n m (record { targets = xs; site = s; right = r }) (ms ++ (record { targets = xs; site = s; right = t } ∷ []))
  let_told k n q m xs s r u t vs ws ms w h = record {
    term = λ end.
        (λ i. chain (h.before i ++ (record { targets = xs; site = s; right = h.right i } ∷ [])) end)
        ∙ chosen_is (by_scalar u k) q xs s u end
        ∙ (λ i. bind_vector (w.chosen i) (w.number i) xs s (w.term i) end);
    number = h.number ∙ (λ i. behind (w.chosen i) (w.number i));
    known = ap (note_all k xs) (h.known ∙ w.known);
  }

  lets_told : (k j h : Facts) (n q m : ℕ) (l : LetTerm) (ls ms ns : List LetTerm) → LetTold k j n q l ms → LetsTold j h q m ls ns → LetsTold k h n m (l ∷ ls) (ms ++ ns)
  lets_told k j h n q m l ls ms ns v w = record {
    term = λ end.
        chain_append ms ns (vectored called end h m) ∙ ap (chain ms) (w.term end) ∙ v.term (vectored called (chain ls end) j q)
        ∙ (λ i. bind_vector (by_scalar l.right k) (next_right called l.right k n) l.targets l.site (vectored_right called l.right k n) (vectored called (chain ls end) (v.known i) (v.number i)));
    number = λ end. w.number end ∙ (λ i. next called (chain ls end) (v.known i) (v.number i));
    known = λ end. w.known end ∙ (λ i. block_facts called (chain ls end) (v.known i));
  }

  -- ---- a whole trace

  mutual
    traced_block : {k : Facts} {n m : ℕ} {b c : BlockTerm} {vs : List Fact} → BlockTraced called ℕ VectorStep Finished k n m b c vs → BlockTold k n m b c vs
    traced_block (finished {k = k} {j = j} {q = q} {ns = ns} rs t f) =
        let w = traced_lets t in
        record {
          term = f.1 ∙ w.term (Gives rs);
          number = f.0 ∙ w.number (Gives rs);
          known = f.2 ∙ w.known (Gives rs);
        }

    traced_lets : {k j : Facts} {n m : ℕ} {ls ns : List LetTerm} → LetsTraced called ℕ VectorStep Finished k j n m ls ns → LetsTold k j n m ls ns
    traced_lets no_lets = record { term = λ end. refl; number = λ end. refl; known = λ end. refl }
    traced_lets (more_lets {k = k} {j = j} {h = h} {p = p} {q = q} {r = r} {l = l} {ls = ls} {ms = ms} {ns = ns} u t) = lets_told k j h p q r l ls ms ns (traced_let u) (traced_lets t)

    traced_let : {k j : Facts} {n m : ℕ} {l : LetTerm} {ms : List LetTerm} → LetTraced called ℕ VectorStep Finished k j n m l ms → LetTold k j n m l ms
    traced_let (bound {k = k} {p = p} {q = q} {u = u} {xs = xs} {s = s} {r = r} {m = m} {t = t} {vs = vs} {ws = ws} {ms = ms} w h) =
        let_told k p q u xs s r m t vs ws ms (traced_right w) h

    traced_right : {k : Facts} {n m : ℕ} {r t : RightTerm} {vs : List Fact} → RightTraced called ℕ VectorStep Finished k n m r t vs → RightTold k n m r t vs
    traced_right plain = record { term = refl; number = refl; known = refl; chosen = refl }
    traced_right call = record { term = refl; number = refl; known = refl; chosen = refl }
    traced_right (choice {k = k} {x = x} {b = b} v w) =
        let yes = traced_block v in
        let no = traced_block w in
        record {
          term = λ i. RightTerm.If x (yes.term i) ((no.term ∙ ap (vectored called b k) yes.number) i);
          number = no.number ∙ ap (next called b k) yes.number;
          known = λ i. common_facts (yes.known i) (no.known i);
          chosen = refl;
        }
    traced_right (turns {k = k} {first = first} {start = start} {params = params} {s = s} {b = b} v w) =
        let test = traced_block v in
        let body = traced_block w in
        record {
          term = λ i. RightTerm.Loop first start params (test.term i) ((body.term ∙ ap (vectored called b (note_all k params [])) test.number) i) s;
          number = body.number ∙ ap (next called b (note_all k params [])) test.number;
          known = refl;
          chosen = refl;
        }
    traced_right (within_gens {op = op} t) = let w = traced_gens t in record { term = ap (With op) w.0; number = w.1; known = refl; chosen = refl }
    traced_right (within_parts {frame = frame} {base = base} {cell = cell} {op = op} t) =
        let w = traced_parts t in record { term = ap (Parted frame base cell op) w.0; number = w.1; known = refl; chosen = refl }

    traced_gens : {k : Facts} {n m : ℕ} {gs hs : List GenTerm} → GensTraced called ℕ VectorStep Finished k n m gs hs →
        (gens_of hs ≡ vectored_gens called (gens_of gs) k n) × (m ≡ next_gens called (gens_of gs) k n)
    traced_gens no_gens = (refl, refl)
    traced_gens (more_gens {k = k} {gs = gs} (gen_body {h = h} t) u) =
        let v = traced_block t in
        let w = traced_gens u in
        ((λ i. Gen h (v.term i) ((w.0 ∙ ap (vectored_gens called (gens_of gs) k) v.number) i)), w.1 ∙ ap (next_gens called (gens_of gs) k) v.number)

    traced_parts : {k : Facts} {n m : ℕ} {gs hs : List PartTerm} → PartsTraced called ℕ VectorStep Finished k n m gs hs →
        (parts_of hs ≡ vectored_parts called (parts_of gs) k n) × (m ≡ next_parts called (parts_of gs) k n)
    traced_parts no_parts = (refl, refl)
    traced_parts (more_parts {k = k} {gs = gs} (part_body {h = h} t) u) =
        let v = traced_block t in
        let w = traced_parts u in
        ((λ i. Part h (v.term i) ((w.0 ∙ ap (vectored_parts called (parts_of gs) k) v.number) i)), w.1 ∙ ap (next_parts called (parts_of gs) k) v.number)

  pub vectored_end : (k : Facts) (n m : ℕ) (b : BlockTerm) (new : Result KnownBlock Memory) →
      IfOk new (λ (x : KnownBlock). BlockTraced called ℕ VectorStep Finished k n m b (block_term x.block) (map fact_of x.results.items)) →
      IfOk new (λ (x : KnownBlock). block_term x.block ≡ vectored called b k n)
  vectored_end k n m b (Ok x) t = (traced_block t).term
  vectored_end k n m b (Err e) t = tt

  pub next_end : (k : Facts) (n m : ℕ) (b : BlockTerm) (new : Result KnownBlock Memory) →
      IfOk new (λ (x : KnownBlock). BlockTraced called ℕ VectorStep Finished k n m b (block_term x.block) (map fact_of x.results.items)) → OnOk new (m ≡ next called b k n)
  next_end k n m b (Ok x) t = (traced_block t).number
  next_end k n m b (Err e) t = tt
