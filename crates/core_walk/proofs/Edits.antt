-- What a pass did that changes one right side after another: its changes are a walk, the results are known, and where it changed none nothing is to do.
use Rattle.std.proofs.Common.{◌≡◌, ◌⊎◌, ℕ, suc, ◌<◌, List, [], ◌∷◌, ◌++◌, map, Option, inl, inr, refl, sym, ap, subst, ◌∙◌, arith}
use Rattle.sac_base.specs.declared.site.Site.{Site}
use Rattle.core_ir.specs.declared.tree.Var.{Var}
use Rattle.core_ir.specs.Edits.{Edited, EditedRight, EditedGens, EditedParts, here, later, inside, in_then, in_else, in_test, in_body, in_gens, in_parts, this_gen, later_gen, this_part, later_part}
use Rattle.core_ir.specs.Terms.{BlockTerm, RightTerm, GensTerm, PartsTerm, LetTerm, GenTerm, PartTerm, GenHead, PartHead, Gives, Bind, Plain, With, Parted, NoGens, Gen, NoParts, Part, chain, gens_of, parts_of}
use Rattle.core_facts.specs.Facts.{Fact, Facts, common_facts, note_all, block_facts, right_facts, in_part}
use Rattle.core_loops.specs.Steps.{fact_ways, facts_after}
use Rattle.core_walk.specs.Traced.{BlockTraced, LetsTraced, LetTraced, RightTraced, GensTraced, GenTraced, PartsTraced, PartTraced, Finished}
use Rattle.core_walk.specs.Traced.{finished, no_lets, more_lets, bound, plain, call, choice, turns, within_gens, within_parts, no_gens, more_gens, gen_body, no_parts, more_parts, part_body}
use Rattle.core_walk.specs.Editing.{Walk, stays, goes, EachBinding, EachInRight, EachInGens, EachInParts, EachBegun, EachInside, Changed, Kept, EditStep}

-- ---- walks

module _ (P : Type 0) (count : P → ℕ) where
  pub join : {A : Type 0} {E : P → P → A → A → Type 0} {p q r : P} {a b c : A} → Walk P count A E p q a b → Walk P count A E q r b c → Walk P count A E p r a c
  join stays v = v
  join (goes n h w) v = goes n h (join w v)

  pub lift : {A B : Type 0} {E : P → P → A → A → Type 0} {F : P → P → B → B → Type 0} (f : A → B) → ((p q : P) (a b : A) → E p q a b → F p q (f a) (f b)) →
      {p q : P} {a b : A} → Walk P count A E p q a b → Walk P count B F p q (f a) (f b)
  lift f e stays = stays
  lift f e (goes n h w) = goes n (e _ _ _ _ h) (lift f e w)

  -- nothing was changed and this holds, or something was
  abbrev pub Verdict : P → P → Type 0 → Type 0
  Verdict p q A = ((q ≡ p) × A) ⊎ (count p < count q)

  less : (a b c : ℕ) → a < b → b < c → a < c
  less a b c p q = omega (arith, p, q)

  next_less : (a b : ℕ) → b ≡ suc a → a < b
  next_less a b e = omega (arith, e)

  pub risen : (p q : P) (A : Type 0) → count q ≡ suc (count p) → Verdict p q A
  risen p q A e = inr (next_less (count p) (count q) e)

  pub both : (p q r : P) (A B C : Type 0) → Verdict p q A → Verdict q r B → ((q ≡ p) → A → B → C) → Verdict p r C
  both p q r A B C (inl a) (inl b) m = inl (b.0 ∙ a.0, m a.0 a.1 b.1)
  both p q r A B C (inl a) (inr b) m = inr (subst (λ (n : P). count n < count r) a.0 b)
  both p q r A B C (inr a) (inl b) m = inr (subst (λ (n : P). count p < count n) (sym b.0) a)
  both p q r A B C (inr a) (inr b) m = inr (less (count p) (count q) (count r) a b)

  pub told_more : (p q : P) (A B : Type 0) → Verdict p q A → (A → B) → Verdict p q B
  told_more p q A B (inl a) m = inl (a.0, m a.1)
  told_more p q A B (inr a) m = inr a

pub known_behind : (called : ℕ → List (Option (List ℕ))) (ls : List LetTerm) (rs : List Var) (k : Facts) → block_facts called (chain ls (Gives rs)) k ≡ map (facts_after called ls k) rs
known_behind called [] rs k = refl
known_behind called (l ∷ ls) rs k = known_behind called ls rs (note_all k l.targets (right_facts called l.right k))

module _ (called : ℕ → List (Option (List ℕ))) (P : Type 0) (count : P → ℕ) (Rule : P → P → Facts → BlockTerm → BlockTerm → Type 0)
    (Here Left : P → Facts → BlockTerm → Type 0) where
  abbrev pub BlockWalk : Facts → P → P → BlockTerm → BlockTerm → Type 0
  BlockWalk k = Walk P count BlockTerm (λ p q. Edited Facts (fact_ways called) (Rule p q) k)

  abbrev RightWalk : Facts → P → P → RightTerm → RightTerm → Type 0
  RightWalk k = Walk P count RightTerm (λ p q. EditedRight Facts (fact_ways called) (Rule p q) k)

  abbrev GensWalk : Facts → P → P → GensTerm → GensTerm → Type 0
  GensWalk k = Walk P count GensTerm (λ p q. EditedGens Facts (fact_ways called) (Rule p q) k)

  abbrev PartsWalk : Facts → P → P → PartsTerm → PartsTerm → Type 0
  PartsWalk k = Walk P count PartsTerm (λ p q. EditedParts Facts (fact_ways called) (Rule p q) k)

  -- ---- what is told of each term

  pub record BlockTold (k : Facts) (p q : P) (b c : BlockTerm) : Type 0 where
    pub walked : BlockWalk k p q b c
    pub verdict : Verdict P count p q ((c ≡ b) × EachBinding called (Left p) b k)

  record RightTold (k : Facts) (p q : P) (r t : RightTerm) : Type 0 where
    pub walked : RightWalk k p q r t
    pub verdict : Verdict P count p q ((t ≡ r) × EachInRight called (Left p) r k)

  record GensTold (k : Facts) (p q : P) (gs hs : List GenTerm) : Type 0 where
    pub walked : GensWalk k p q (gens_of gs) (gens_of hs)
    pub verdict : Verdict P count p q ((gens_of hs ≡ gens_of gs) × EachInGens called (Left p) (gens_of gs) k)

  record PartsTold (k : Facts) (p q : P) (gs hs : List PartTerm) : Type 0 where
    pub walked : PartsWalk k p q (parts_of gs) (parts_of hs)
    pub verdict : Verdict P count p q ((parts_of hs ≡ parts_of gs) × EachInParts called (Left p) (parts_of gs) k)

  record GenTold (k : Facts) (p q : P) (g h : GenTerm) : Type 0 where
    pub head : h.head ≡ g.head
    pub body : BlockTold (note_all k (g.head.index ∷ g.head.names) []) p q g.body h.body

  record PartTold (k : Facts) (p q : P) (g h : PartTerm) : Type 0 where
    pub head : h.head ≡ g.head
    pub body : BlockTold (in_part k g.head) p q g.body h.body

  record LetTold (k j : Facts) (p q : P) (l : LetTerm) (ms : List LetTerm) : Type 0 where
    pub new : LetTerm
    pub one : ms ≡ new ∷ []
    pub known : j ≡ note_all k new.targets (right_facts called new.right k)
    pub walked : (rest : BlockTerm) → BlockWalk k p q (Bind l.targets l.site l.right rest) (Bind new.targets new.site new.right rest)
    pub verdict : Verdict P count p q ((new ≡ l) × ((rest : BlockTerm) → Here p k (Bind l.targets l.site l.right rest)) × EachInRight called (Left p) l.right k)

  -- the bindings are as they were, and what holds behind them holds from the first one on
  abbrev LetsLeft : Facts → Facts → P → List LetTerm → List LetTerm → Type 0
  LetsLeft k j p ls ns = (ns ≡ ls) × ((end : BlockTerm) → EachInside called (Left p) end j → EachInside called (Left p) (chain ls end) k)
      × ((end : BlockTerm) → EachBegun called (Here p) end j → EachBegun called (Here p) (chain ls end) k)

  record LetsTold (k j : Facts) (p q : P) (ls ns : List LetTerm) : Type 0 where
    pub known : j ≡ facts_after called ns k
    pub walked : (end : BlockTerm) → BlockWalk k p q (chain ls end) (chain ns end)
    pub verdict : Verdict P count p q (LetsLeft k j p ls ns)

  -- ---- terms of terms

  choice_told : (k : Facts) (p q u : P) (x : Var) (a b c d : BlockTerm) → BlockTold k p q a c → BlockTold k q u b d → RightTold k p u (RightTerm.If x a b) (RightTerm.If x c d)
  choice_told k p q u x a b c d v w = record {
    walked = join P count (lift P count (λ t. RightTerm.If x t b) (λ _ _ _ _ h. in_then h) v.walked) (lift P count (λ t. RightTerm.If x c t) (λ _ _ _ _ h. in_else h) w.walked);
    verdict = both P count p q u ((c ≡ a) × EachBinding called (Left p) a k) ((d ≡ b) × EachBinding called (Left q) b k) ((RightTerm.If x c d ≡ RightTerm.If x a b) × EachInRight called (Left p) (RightTerm.If x a b) k)
        v.verdict w.verdict (λ e f g. ((λ i. RightTerm.If x (f.0 i) (g.0 i)), (f.1, subst (λ (n : P). EachBinding called (Left n) b k) e g.1)));
  }

  turns_told : (k : Facts) (p q u : P) (first : _) (start params : List Var) (s : Site) (a b c d : BlockTerm) → BlockTold (note_all k params []) p q a c →
      BlockTold (note_all k params []) q u b d → RightTold k p u (RightTerm.Loop first start params a b s) (RightTerm.Loop first start params c d s)
  turns_told k p q u first start params s a b c d v w =
      let m = note_all k params [] in
      record {
        walked = join P count (lift P count (λ t. RightTerm.Loop first start params t b s) (λ _ _ _ _ h. in_test h) v.walked)
            (lift P count (λ t. RightTerm.Loop first start params c t s) (λ _ _ _ _ h. in_body h) w.walked);
        verdict = both P count p q u ((c ≡ a) × EachBinding called (Left p) a m) ((d ≡ b) × EachBinding called (Left q) b m)
            ((RightTerm.Loop first start params c d s ≡ RightTerm.Loop first start params a b s) × EachInRight called (Left p) (RightTerm.Loop first start params a b s) k)
            v.verdict w.verdict (λ e f g. ((λ i. RightTerm.Loop first start params (f.0 i) (g.0 i) s), (f.1, subst (λ (n : P). EachBinding called (Left n) b m) e g.1)));
      }

  gens_told : (k : Facts) (p q u : P) (g h : GenTerm) (gs hs : List GenTerm) → GenTold k p q g h → GensTold k q u gs hs → GensTold k p u (g ∷ gs) (h ∷ hs)
  gens_told k p q u g h gs hs v w =
      let m = note_all k (g.head.index ∷ g.head.names) [] in
      subst (λ (x : GenHead). GensTold k p u (g ∷ gs) (record { head = x; body = h.body } ∷ hs)) (sym v.head) (record {
        walked = join P count (lift P count (λ t. Gen g.head t (gens_of gs)) (λ _ _ _ _ e. this_gen e) v.body.walked) (lift P count (Gen g.head h.body) (λ _ _ _ _ e. later_gen e) w.walked);
        verdict = both P count p q u ((h.body ≡ g.body) × EachBinding called (Left p) g.body m) ((gens_of hs ≡ gens_of gs) × EachInGens called (Left q) (gens_of gs) k)
            ((Gen g.head h.body (gens_of hs) ≡ Gen g.head g.body (gens_of gs)) × EachInGens called (Left p) (Gen g.head g.body (gens_of gs)) k)
            v.body.verdict w.verdict (λ e a b. ((λ i. Gen g.head (a.0 i) (b.0 i)), (a.1, subst (λ (n : P). EachInGens called (Left n) (gens_of gs) k) e b.1)));
      })

  parts_told : (k : Facts) (p q u : P) (g h : PartTerm) (gs hs : List PartTerm) → PartTold k p q g h → PartsTold k q u gs hs → PartsTold k p u (g ∷ gs) (h ∷ hs)
  parts_told k p q u g h gs hs v w =
      let m = in_part k g.head in
      subst (λ (x : PartHead). PartsTold k p u (g ∷ gs) (record { head = x; body = h.body } ∷ hs)) (sym v.head) (record {
        walked = join P count (lift P count (λ t. Part g.head t (parts_of gs)) (λ _ _ _ _ e. this_part e) v.body.walked) (lift P count (Part g.head h.body) (λ _ _ _ _ e. later_part e) w.walked);
        verdict = both P count p q u ((h.body ≡ g.body) × EachBinding called (Left p) g.body m) ((parts_of hs ≡ parts_of gs) × EachInParts called (Left q) (parts_of gs) k)
            ((Part g.head h.body (parts_of hs) ≡ Part g.head g.body (parts_of gs)) × EachInParts called (Left p) (Part g.head g.body (parts_of gs)) k)
            v.body.verdict w.verdict (λ e a b. ((λ i. Part g.head (a.0 i) (b.0 i)), (a.1, subst (λ (n : P). EachInParts called (Left n) (parts_of gs) k) e b.1)));
      })

  -- ---- a binding, and more of them

  edit_walked : (k : Facts) (p q : P) (xs : List Var) (s : Site) (r t : RightTerm) → Changed called P count Rule Here k p q xs s r t ⊎ Kept called P count Rule Here k p q xs s r t → (rest : BlockTerm) →
      BlockWalk k p q (Bind xs s r rest) (Bind xs s t rest)
  edit_walked k p q xs s r t (inl h) rest = goes h.counted (here (h.rule rest)) stays
  edit_walked k p q xs s r t (inr h) rest =
      subst (λ (n : P). BlockWalk k p n (Bind xs s r rest) (Bind xs s t rest)) (sym h.still) (subst (λ (m : RightTerm). BlockWalk k p p (Bind xs s r rest) (Bind xs s m rest)) (sym h.same) stays)

  edit_verdict : (k : Facts) (p q : P) (xs : List Var) (s : Site) (r t : RightTerm) → Changed called P count Rule Here k p q xs s r t ⊎ Kept called P count Rule Here k p q xs s r t →
      Verdict P count p q ((t ≡ r) × ((rest : BlockTerm) → Here p k (Bind xs s r rest)))
  edit_verdict k p q xs s r t (inl h) = risen P count p q ((t ≡ r) × ((rest : BlockTerm) → Here p k (Bind xs s r rest))) h.counted
  edit_verdict k p q xs s r t (inr h) = inl (h.still, (h.same, h.left))

  let_told : (k : Facts) (p q u : P) (xs : List Var) (s : Site) (r m t : RightTerm) (vs ws : List Fact) (ms : List LetTerm) → RightTold k p q r m → vs ≡ right_facts called m k →
      EditStep called P count Rule Here k q u xs s m vs ms t ws →
      LetTold k (note_all k xs ws) p u (record { targets = xs; site = s; right = r }) (ms ++ (record { targets = xs; site = s; right = t } ∷ []))
  let_told k p q u xs s r m t vs ws ms v known h = record {
    new = record { targets = xs; site = s; right = t };
    one = ap (λ (z : List LetTerm). z ++ (record { targets = xs; site = s; right = t } ∷ [])) h.none;
    known = ap (note_all k xs) (h.known known);
    walked = λ rest. join P count (lift P count (λ z. Bind xs s z rest) (λ _ _ _ _ e. inside e) v.walked) (edit_walked k q u xs s m t h.edit rest);
    verdict = both P count p q u ((m ≡ r) × EachInRight called (Left p) r k) ((t ≡ m) × ((rest : BlockTerm) → Here q k (Bind xs s m rest)))
        ((record { targets = xs; site = s; right = t } ≡ record { targets = xs; site = s; right = r }) × ((rest : BlockTerm) → Here p k (Bind xs s r rest)) × EachInRight called (Left p) r k)
        v.verdict (edit_verdict k q u xs s m t h.edit)
        (λ e a b. (
          (λ i. record { targets = xs; site = s; right = (b.0 ∙ a.0) i }),
          (λ rest. subst (λ (n : P). Here n k (Bind xs s r rest)) e (subst (λ (z : RightTerm). Here q k (Bind xs s z rest)) a.0 (b.1 rest))),
          a.1,
        ));
  }

  lets_told : (k j h : Facts) (p q u : P) (l : LetTerm) (ls ms ns : List LetTerm) → LetTold k j p q l ms → LetsTold j h q u ls ns → LetsTold k h p u (l ∷ ls) (ms ++ ns)
  lets_told k j h p q u l ls ms ns v w =
      let m = v.new in
      let behind = note_all k m.targets (right_facts called m.right k) in
      subst (λ (z : List LetTerm). LetsTold k h p u (l ∷ ls) (z ++ ns)) (sym v.one) (record {
        known = w.known ∙ ap (facts_after called ns) v.known;
        walked = λ end. join P count (v.walked (chain ls end))
            (lift P count (Bind m.targets m.site m.right) (λ _ _ _ _ e. later e) (subst (λ (f : Facts). BlockWalk f q u (chain ls end) (chain ns end)) v.known (w.walked end)));
        verdict = both P count p q u ((m ≡ l) × ((rest : BlockTerm) → Here p k (Bind l.targets l.site l.right rest)) × EachInRight called (Left p) l.right k)
            (LetsLeft j h q ls ns) (LetsLeft k h p (l ∷ ls) (m ∷ ns)) v.verdict w.verdict (λ e a b.
            let same : j ≡ note_all k l.targets (right_facts called l.right k) = v.known ∙ (λ i. note_all k (a.0 i).targets (right_facts called (a.0 i).right k)) in (
              (λ i. a.0 i ∷ b.0 i),
              (λ end x. (
                a.2,
                subst (λ (f : Facts). EachInside called (Left p) (chain ls end) f) same
                    (subst (λ (n : P). EachInside called (Left n) (chain ls end) j) e (b.1 end (subst (λ (n : P). EachInside called (Left n) end h) (sym e) x))),
              )),
              (λ end x. (
                a.1 (chain ls end),
                subst (λ (f : Facts). EachBegun called (Here p) (chain ls end) f) same
                    (subst (λ (n : P). EachBegun called (Here n) (chain ls end) j) e (b.2 end (subst (λ (n : P). EachBegun called (Here n) end h) (sym e) x))),
              )),
            ));
      })

  -- ---- a block at its end

  pub record EditFinish (k : Facts) (p q : P) (b : BlockTerm) (vs : List Fact) (c : BlockTerm) (ws : List Fact) : Type 0 where
    pub walked : BlockWalk k p q b c
    pub verdict : Verdict P count p q ((c ≡ b) × (EachBegun called (Here p) b k → EachBegun called (Left p) b k))
    pub known : vs ≡ block_facts called b k → ws ≡ block_facts called c k

  both_each : (H : Facts → BlockTerm → Type 0) (b : BlockTerm) (k : Facts) → EachInside called H b k → EachBegun called H b k → EachBinding called H b k
  both_each H (Gives xs) k x y = tt
  both_each H (Bind xs s r b) k x y = (x.0, y.0, both_each H b (note_all k xs (right_facts called r k)) x.1 y.1)

  block_told : (k j : Facts) (p q u : P) (ls ns : List LetTerm) (rs : List Var) (c : BlockTerm) (vs : List Fact) → LetsTold k j p q ls ns → EditFinish k q u (chain ns (Gives rs)) (map j rs) c vs →
      BlockTold k p u (chain ls (Gives rs)) c × (vs ≡ block_facts called c k)
  block_told k j p q u ls ns rs c vs w f =
      let old = chain ls (Gives rs) in (
        record {
          walked = join P count (w.walked (Gives rs)) f.walked;
          verdict = both P count p q u (LetsLeft k j p ls ns) ((c ≡ chain ns (Gives rs)) × (EachBegun called (Here q) (chain ns (Gives rs)) k → EachBegun called (Left q) (chain ns (Gives rs)) k))
              ((c ≡ old) × EachBinding called (Left p) old k) w.verdict f.verdict (λ e a b.
              let same : chain ns (Gives rs) ≡ old = ap (λ (z : List LetTerm). chain z (Gives rs)) a.0 in
              let begun : EachBegun called (Here p) old k → EachBegun called (Left p) old k =
              subst (λ (n : P). EachBegun called (Here n) old k → EachBegun called (Left n) old k) e (subst (λ (t : BlockTerm). EachBegun called (Here q) t k → EachBegun called (Left q) t k) same b.1) in
              (b.0 ∙ same, both_each (Left p) old k (a.1 (Gives rs) tt) (begun (a.2 (Gives rs) tt))));
        },
        f.known (ap (λ (m : Facts). map m rs) w.known ∙ sym (known_behind called ns rs k)),
      )

-- ---- a whole trace, whose steps and finished blocks are seen as edits

module _ (called : ℕ → List (Option (List ℕ))) (P S : Type 0) (view : P → S) (count : S → ℕ) (Rule : S → S → Facts → BlockTerm → BlockTerm → Type 0)
    (Here Left : S → Facts → BlockTerm → Type 0)
    (Step : Facts → P → P → List Var → Site → RightTerm → List Fact → List LetTerm → RightTerm → List Fact → Type 0)
    (Finish : Facts → P → P → BlockTerm → List Fact → BlockTerm → List Fact → Type 0)
    (step_is : (k : Facts) (p q : P) (xs : List Var) (s : Site) (r : RightTerm) (vs : List Fact) (ms : List LetTerm) (t : RightTerm) (ws : List Fact) → Step k p q xs s r vs ms t ws →
    EditStep called S count Rule Here k (view p) (view q) xs s r vs ms t ws)
    (finish_is : (k : Facts) (p q : P) (b : BlockTerm) (vs : List Fact) (c : BlockTerm) (ws : List Fact) → Finish k p q b vs c ws →
    EditFinish called S count Rule Here Left k (view p) (view q) b vs c ws) where
  mutual
    pub traced_block : {k : Facts} {p q : P} {b c : BlockTerm} {vs : List Fact} → BlockTraced called P Step Finish k p q b c vs →
        BlockTold called S count Rule Here Left k (view p) (view q) b c × (vs ≡ block_facts called c k)
    traced_block (finished {k = k} {j = j} {p = p} {q = q} {r = r} {ls = ls} {ns = ns} {c = c} {vs = vs} rs t f) =
        block_told called S count Rule Here Left k j (view p) (view q) (view r) ls ns rs c vs (traced_lets t) (finish_is k q r (chain ns (Gives rs)) (map j rs) c vs f)

    traced_lets : {k j : Facts} {p q : P} {ls ns : List LetTerm} → LetsTraced called P Step Finish k j p q ls ns → LetsTold called S count Rule Here Left k j (view p) (view q) ls ns
    traced_lets no_lets = record { known = refl; walked = λ end. stays; verdict = inl (refl, (refl, (λ end h. h), (λ end h. h))) }
    traced_lets (more_lets {k = k} {j = j} {h = h} {p = p} {q = q} {r = r} {l = l} {ls = ls} {ms = ms} {ns = ns} u t) = lets_told called S count Rule Here Left k j h (view p) (view q) (view r) l ls ms ns (traced_let u) (traced_lets t)

    traced_let : {k j : Facts} {p q : P} {l : LetTerm} {ms : List LetTerm} → LetTraced called P Step Finish k j p q l ms → LetTold called S count Rule Here Left k j (view p) (view q) l ms
    traced_let (bound {k = k} {p = p} {q = q} {u = u} {xs = xs} {s = s} {r = r} {m = m} {t = t} {vs = vs} {ws = ws} {ms = ms} w h) =
        let v = traced_right w in
        let_told called S count Rule Here Left k (view p) (view q) (view u) xs s r m t vs ws ms v.0 v.1 (step_is k q u xs s m vs ms t ws h)

    traced_right : {k : Facts} {p q : P} {r t : RightTerm} {vs : List Fact} → RightTraced called P Step Finish k p q r t vs →
        RightTold called S count Rule Here Left k (view p) (view q) r t × (vs ≡ right_facts called t k)
    traced_right plain = (record { walked = stays; verdict = inl (refl, (refl, tt)) }, refl)
    traced_right call = (record { walked = stays; verdict = inl (refl, (refl, tt)) }, refl)
    traced_right (choice {k = k} {p = p} {q = q} {r = r} {x = x} {a = a} {b = b} {c = c} {d = d} v w) =
        let yes = traced_block v in
        let no = traced_block w in
        (choice_told called S count Rule Here Left k (view p) (view q) (view r) x a b c d yes.0 no.0, λ i. common_facts (yes.1 i) (no.1 i))
    traced_right (turns {k = k} {p = p} {q = q} {r = r} {first = first} {start = start} {params = params} {s = s} {a = a} {b = b} {c = c} {d = d} v w) =
        (turns_told called S count Rule Here Left k (view p) (view q) (view r) first start params s a b c d (traced_block v).0 (traced_block w).0, refl)
    traced_right (within_gens {op = op} t) =
        let w = traced_gens t in
        (record { walked = lift S count (With op) (λ _ _ _ _ e. in_gens e) w.walked; verdict = told_more S count _ _ _ _ w.verdict (λ a. (ap (With op) a.0, a.1)) }, refl)
    traced_right (within_parts {frame = frame} {base = base} {cell = cell} {op = op} t) =
        let w = traced_parts t in
        (record { walked = lift S count (Parted frame base cell op) (λ _ _ _ _ e. in_parts e) w.walked; verdict = told_more S count _ _ _ _ w.verdict (λ a. (ap (Parted frame base cell op) a.0, a.1)) }, refl)

    traced_gens : {k : Facts} {p q : P} {gs hs : List GenTerm} → GensTraced called P Step Finish k p q gs hs → GensTold called S count Rule Here Left k (view p) (view q) gs hs
    traced_gens no_gens = record { walked = stays; verdict = inl (refl, (refl, tt)) }
    traced_gens (more_gens {k = k} {p = p} {q = q} {r = r} {g = g} {h = h} {gs = gs} {hs = hs} u t) = gens_told called S count Rule Here Left k (view p) (view q) (view r) g h gs hs (traced_gen u) (traced_gens t)

    traced_gen : {k : Facts} {p q : P} {g h : GenTerm} → GenTraced called P Step Finish k p q g h → GenTold called S count Rule Here Left k (view p) (view q) g h
    traced_gen (gen_body t) = record { head = refl; body = (traced_block t).0 }

    traced_parts : {k : Facts} {p q : P} {gs hs : List PartTerm} → PartsTraced called P Step Finish k p q gs hs → PartsTold called S count Rule Here Left k (view p) (view q) gs hs
    traced_parts no_parts = record { walked = stays; verdict = inl (refl, (refl, tt)) }
    traced_parts (more_parts {k = k} {p = p} {q = q} {r = r} {g = g} {h = h} {gs = gs} {hs = hs} u t) = parts_told called S count Rule Here Left k (view p) (view q) (view r) g h gs hs (traced_part u) (traced_parts t)

    traced_part : {k : Facts} {p q : P} {g h : PartTerm} → PartTraced called P Step Finish k p q g h → PartTold called S count Rule Here Left k (view p) (view q) g h
    traced_part (part_body t) = record { head = refl; body = (traced_block t).0 }

-- ---- passes that do nothing with whole blocks

module _ (called : ℕ → List (Option (List ℕ))) (P : Type 0) (count : P → ℕ) (Rule : P → P → Facts → BlockTerm → BlockTerm → Type 0) (Left : P → Facts → BlockTerm → Type 0) where
  finished_is : (k : Facts) (p q : P) (b : BlockTerm) (vs : List Fact) (c : BlockTerm) (ws : List Fact) → Finished k p q b vs c ws → EditFinish called P count Rule Left Left k p q b vs c ws
  finished_is k p q b vs c ws f = record {
    walked = subst (λ (n : P). BlockWalk called P count Rule Left Left k p n b c) (sym f.0) (subst (λ (t : BlockTerm). BlockWalk called P count Rule Left Left k p p b t) (sym f.1) stays);
    verdict = inl (f.0, (f.1, λ h. h));
    known = λ e. f.2 ∙ e ∙ ap (λ (t : BlockTerm). block_facts called t k) (sym f.1);
  }

  pub edited_block : {k : Facts} {p q : P} {b c : BlockTerm} {vs : List Fact} → BlockTraced called P (EditStep called P count Rule Left) Finished k p q b c vs →
      BlockTold called P count Rule Left Left k p q b c × (vs ≡ block_facts called c k)
  edited_block t = traced_block called P P (λ p. p) count Rule Left Left (EditStep called P count Rule Left) Finished (λ k p q xs s r vs ms u ws h. h) finished_is t
