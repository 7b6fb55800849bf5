-- What the walk did: the term in which each literal variable is bound by a constant, and each other check that cannot fail is a copy.
use Rattle.std.proofs.Common.{◌≡◌, ℕ, true, false, true≢false, List, [], ◌∷◌, ◌++◌, map, Option, refl, sym, ap, ◌∙◌}
use Rattle.std.specs.Prelude.{Result, Ok, Err, IfOk}
use Rattle.sac_base.specs.declared.memory.Memory.{Memory}
use Rattle.sac_base.specs.declared.site.Site.{Site}
use Rattle.core_ir.specs.declared.tree.Var.{Var}
use Rattle.core_ir.specs.Terms.{BlockTerm, RightTerm, LetTerm, GenTerm, PartTerm, Gives, Bind, Gen, Part, Plain, With, Parted, chain, gens_of, parts_of}
use Rattle.core_ir.specs.View.{block_term, right_term}
use Rattle.core_facts.specs.Facts.{Fact, Facts, common_facts, note_all, block_facts, right_facts}
use Rattle.core_forms.specs.cleaning.Checks.{simplified, simplified_right, simplified_gens, simplified_parts}
use Rattle.core_walk.specs.Traced.{BlockTraced, LetsTraced, LetTraced, RightTraced, GensTraced, PartsTraced, Finished}
use Rattle.core_walk.specs.Traced.{finished, no_lets, more_lets, bound, plain, call, choice, turns, within_gens, within_parts, no_gens, more_gens, gen_body, no_parts, more_parts, part_body}
use Rattle.core_walk.proofs.Turns.{append_nil}
use Rattle.fact_table.specs.Table.{fact_of}
use Rattle.plain_facts.specs.Rights.{fact_of_right}
use Rattle.plain_facts.specs.declared.known_rights.known.KnownBlock.{KnownBlock}
use Rattle.plain_facts.specs.declared.known_rights.known.KnownRight.{KnownRight}
use Rattle.const_shape.specs.Settling.{SettleStep, is_plain, settled_plain}

-- ---- a right side

plain_known : (called : ℕ → List (Option (List ℕ))) (k : Facts) (r t : RightTerm) → is_plain r ≡ true → t ≡ settled_plain r k → fact_of_right t k ∷ [] ≡ right_facts called t k
plain_known called k (Plain p) t h e = ap (λ m. fact_of_right m k ∷ []) e ∙ ap (λ m. right_facts called m k) (sym e)
plain_known called k (RightTerm.If x a b) t h e = absurd (true≢false (sym h))
plain_known called k (RightTerm.Loop f xs ys a b s) t h e = absurd (true≢false (sym h))
plain_known called k (RightTerm.Call g xs) t h e = absurd (true≢false (sym h))
plain_known called k (RightTerm.With o gs) t h e = absurd (true≢false (sym h))
plain_known called k (RightTerm.Parted f b c o ps) t h e = absurd (true≢false (sym h))

other_stays : (k : Facts) (r : RightTerm) → is_plain r ≡ false → r ≡ settled_plain r k
other_stays k (Plain p) h = absurd (true≢false h)
other_stays k (RightTerm.If x a b) h = refl
other_stays k (RightTerm.Loop f xs ys a b s) h = refl
other_stays k (RightTerm.Call g xs) h = refl
other_stays k (RightTerm.With o gs) h = refl
other_stays k (RightTerm.Parted f b c o ps) h = refl

module _ (called : ℕ → List (Option (List ℕ))) where
  -- the step of a right side, before which no binding comes
  abbrev Stepped : Facts → List Var → Site → RightTerm → List Fact → List LetTerm → KnownRight → Type 0
  Stepped k xs s r vs done new = (ms : List LetTerm) × (done ≡ done ++ ms) × SettleStep called k tt tt xs s r vs ms (right_term new.right) (map fact_of new.values.items)

  pub plain_step : (k : Facts) (xs : List Var) (s : Site) (r : RightTerm) (vs : List Fact) (done : List LetTerm) (new : Result KnownRight Memory) → is_plain r ≡ true →
      IfOk new (λ (n : KnownRight). right_term n.right ≡ settled_plain r k) → IfOk new (λ (n : KnownRight). map fact_of n.values.items ≡ fact_of_right (right_term n.right) k ∷ []) →
      IfOk new (Stepped k xs s r vs done)
  plain_step k xs s r vs done (Ok n) h e f =
      ([], sym (append_nil done), record { none = refl; settled = e; known = λ _. f ∙ plain_known called k r (right_term n.right) h e })
  plain_step k xs s r vs done (Err m) h e f = tt

  pub other_step : (k : Facts) (xs : List Var) (s : Site) (new : KnownRight) (done : List LetTerm) → is_plain (right_term new.right) ≡ false →
      Stepped k xs s (right_term new.right) (map fact_of new.values.items) done new
  other_step k xs s new done h = ([], sym (append_nil done), record { none = refl; settled = other_stays k (right_term new.right) h; known = λ e. e })

  -- ---- what is told of each term

  record BlockTold (k : Facts) (b c : BlockTerm) (vs : List Fact) : Type 0 where
    pub term : c ≡ simplified called b k
    pub known : vs ≡ block_facts called c k

  record RightTold (k : Facts) (r t : RightTerm) (vs : List Fact) : Type 0 where
    pub settled : settled_plain t k ≡ simplified_right called r k
    pub known : vs ≡ right_facts called t k

  record LetTold (k j : Facts) (l : LetTerm) (ms : List LetTerm) : Type 0 where
    pub one : ms ≡ record l { right = simplified_right called l.right k } ∷ []
    pub known : j ≡ note_all k l.targets (right_facts called (simplified_right called l.right k) k)

  record LetsTold (k j : Facts) (ls ns : List LetTerm) : Type 0 where
    pub term : (end : BlockTerm) → chain ns (simplified called end j) ≡ simplified called (chain ls end) k
    pub known : (end : BlockTerm) → block_facts called (chain ns end) k ≡ block_facts called end j

  let_told : (k : Facts) (xs : List Var) (s : Site) (r m t : RightTerm) (vs ws : List Fact) (ms : List LetTerm) (p q : Unit {0}) → RightTold k r m vs → SettleStep called k p q xs s m vs ms t ws →
      LetTold k (note_all k xs ws) (record { targets = xs; site = s; right = r }) (ms ++ (record { targets = xs; site = s; right = t } ∷ []))
  let_told k xs s r m t vs ws ms p q w h =
      let right : t ≡ simplified_right called r k = h.settled ∙ w.settled in
      record {
        one = λ i. h.none i ++ (record { targets = xs; site = s; right = right i } ∷ []);
        known = ap (note_all k xs) (h.known w.known ∙ ap (λ (z : RightTerm). right_facts called z k) right);
      }

  lets_told : (k j h : Facts) (l : LetTerm) (ls ms ns : List LetTerm) → LetTold k j l ms → LetsTold j h ls ns → LetsTold k h (l ∷ ls) (ms ++ ns)
  lets_told k j h l ls ms ns v w = record {
    term = λ end.
        (λ i. chain (v.one i ++ ns) (simplified called end h))
        ∙ ap (Bind l.targets l.site (simplified_right called l.right k)) (w.term end ∙ ap (simplified called (chain ls end)) v.known);
    known = λ end.
        (λ i. block_facts called (chain (v.one i ++ ns) end) k)
        ∙ ap (block_facts called (chain ns end)) (sym v.known)
        ∙ w.known end;
  }

  -- ---- a whole trace

  mutual
    traced_block : {k : Facts} {p q : Unit {0}} {b c : BlockTerm} {vs : List Fact} → BlockTraced called (Unit {0}) (SettleStep called) Finished k p q b c vs → BlockTold k b c vs
    traced_block (finished {k = k} {j = j} {ns = ns} rs t f) =
        let w = traced_lets t in
        record {
          term = f.1 ∙ w.term (Gives rs);
          known = f.2 ∙ sym (w.known (Gives rs)) ∙ ap (λ (z : BlockTerm). block_facts called z k) (sym f.1);
        }

    traced_lets : {k j : Facts} {p q : Unit {0}} {ls ns : List LetTerm} → LetsTraced called (Unit {0}) (SettleStep called) Finished k j p q ls ns → LetsTold k j ls ns
    traced_lets no_lets = record { term = λ end. refl; known = λ end. refl }
    traced_lets (more_lets {k = k} {j = j} {h = h} {l = l} {ls = ls} {ms = ms} {ns = ns} u t) = lets_told k j h l ls ms ns (traced_let u) (traced_lets t)

    traced_let : {k j : Facts} {p q : Unit {0}} {l : LetTerm} {ms : List LetTerm} → LetTraced called (Unit {0}) (SettleStep called) Finished k j p q l ms → LetTold k j l ms
    traced_let (bound {k = k} {q = q} {u = u} {xs = xs} {s = s} {r = r} {m = m} {t = t} {vs = vs} {ws = ws} {ms = ms} w h) = let_told k xs s r m t vs ws ms q u (traced_right w) h

    traced_right : {k : Facts} {p q : Unit {0}} {r t : RightTerm} {vs : List Fact} → RightTraced called (Unit {0}) (SettleStep called) Finished k p q r t vs → RightTold k r t vs
    traced_right plain = record { settled = refl; known = refl }
    traced_right call = record { settled = refl; known = refl }
    traced_right (choice {x = x} v w) =
        let yes = traced_block v in
        let no = traced_block w in
        record { settled = λ i. RightTerm.If x (yes.term i) (no.term i); known = λ i. common_facts (yes.known i) (no.known i) }
    traced_right (turns {first = first} {start = start} {params = params} {s = s} v w) =
        let test = traced_block v in
        let body = traced_block w in
        record { settled = λ i. RightTerm.Loop first start params (test.term i) (body.term i) s; known = refl }
    traced_right (within_gens {op = op} t) = record { settled = ap (With op) (traced_gens t); known = refl }
    traced_right (within_parts {frame = frame} {base = base} {cell = cell} {op = op} t) = record { settled = ap (Parted frame base cell op) (traced_parts t); known = refl }

    traced_gens : {k : Facts} {p q : Unit {0}} {gs hs : List GenTerm} → GensTraced called (Unit {0}) (SettleStep called) Finished k p q gs hs → gens_of hs ≡ simplified_gens called (gens_of gs) k
    traced_gens no_gens = refl
    traced_gens (more_gens (gen_body {h = h} t) u) =
        let v = traced_block t in
        let w = traced_gens u in
        λ i. Gen h (v.term i) (w i)

    traced_parts : {k : Facts} {p q : Unit {0}} {gs hs : List PartTerm} → PartsTraced called (Unit {0}) (SettleStep called) Finished k p q gs hs → parts_of hs ≡ simplified_parts called (parts_of gs) k
    traced_parts no_parts = refl
    traced_parts (more_parts (part_body {h = h} t) u) =
        let v = traced_block t in
        let w = traced_parts u in
        λ i. Part h (v.term i) (w i)

  pub settled_end : (k : Facts) (p q : Unit {0}) (b : BlockTerm) (new : Result KnownBlock Memory) →
      IfOk new (λ (x : KnownBlock). BlockTraced called (Unit {0}) (SettleStep called) Finished k p q b (block_term x.block) (map fact_of x.results.items)) →
      IfOk new (λ (x : KnownBlock). block_term x.block ≡ simplified called b k)
  settled_end k p q b (Ok x) t = (traced_block t).term
  settled_end k p q b (Err e) t = tt

  pub known_end : (k : Facts) (p q : Unit {0}) (b : BlockTerm) (new : Result KnownBlock Memory) →
      IfOk new (λ (x : KnownBlock). BlockTraced called (Unit {0}) (SettleStep called) Finished k p q b (block_term x.block) (map fact_of x.results.items)) →
      IfOk new (λ (x : KnownBlock). map fact_of x.results.items ≡ block_facts called (block_term x.block) k)
  known_end k p q b (Ok x) t = (traced_block t).known
  known_end k p q b (Err e) t = tt
