-- What the trace of a walk over a block comes to.
use Rattle.std.proofs.Common.{◌≡◌, ◌⊎◌, ℕ, suc, ◌≤◌, ◌<◌, List, [], ◌∷◌, ◌++◌, map, length, Option, inl, inr, refl, sym, ap, subst, ◌∙◌, arith}
use Rattle.sac_base.specs.declared.site.Site.{Site}
use Rattle.core_ir.specs.declared.tree.Let.{Let}
use Rattle.core_ir.specs.declared.tree.Var.{Var}
use Rattle.core_ir.specs.declared.tree.Block.{Block, Block-F, out-Block, roll-Block}
use Rattle.core_ir.specs.declared.tree.Right.TheBlock.{the_data, the_data-1, the_data-2, the_data-3, the_data-4, the_data-5, the_data-6}
use Rattle.core_ir.specs.Terms.{BlockTerm, RightTerm, LetTerm, Gives, chain}
use Rattle.core_ir.specs.View.{block_term, let_term, right_term}
use Rattle.core_ir.proofs.Trees.{block_out, block_roll}
use Rattle.core_facts.specs.Facts.{Fact, Facts, note_all, block_facts, right_facts}
use Rattle.core_loops.specs.Steps.{facts_after}
use Rattle.core_walk.specs.Traced.{BlockTraced}
use Rattle.core_walk.specs.Editing.{EachBinding, EditStep}
use Rattle.core_walk.specs.Editing.{EachBegun as EachStarts, stays as kept, goes as more}
use Rattle.core_walk.proofs.Edits.{BlockWalk, EditFinish, Verdict, known_behind, traced_block}
use Rattle.core_walk.proofs.Turns.{append_nil}
use Rattle.fact_table.specs.Table.{fact_of}
use Rattle.plain_facts.specs.declared.known_rights.known.KnownRight.{KnownRight}
use Rattle.fold_walk.specs.Left.{EachBegun, NoPairAt}
use Rattle.fold_walk.specs.declared.state.Folding.{Folding}
use Rattle.fold_walk.specs.Walking.{State, state_of, FoldedHere, Walked, stays, goes, BlockWalked, LevelFolded, FoldStep, FoldFinish}
use Rattle.fold_walk.proofs.Walking.{one_more, rises}

above_one : (p q r : ℕ) → q ≡ suc p → q ≤ r → p < r
above_one p q r a b = omega (arith, a, b)

not_less : (p q : ℕ) → p < q → q ≡ p → ⊥
not_less p q l e = omega (arith, l, e)

-- no pair can be left where nothing is looked at
abbrev pub Anywhere : State → Facts → BlockTerm → Type 0
Anywhere p k b = Unit {0}

-- a right side that stays
pub kept_step : (k : Facts) (p : Folding) (xs : List Var) (s : Site) (new : KnownRight) (done : List LetTerm) →
    (ms : List LetTerm) × (done ≡ done ++ ms) × FoldStep k p p xs s (right_term new.right) (map fact_of new.values.items) ms (right_term new.right) (map fact_of new.values.items)
kept_step k p xs s new done = ([], sym (append_nil done), (refl, refl, refl, refl))

module _ (called : ℕ → List (Option (List ℕ))) (function : ℕ) where
  abbrev Left : State → Facts → BlockTerm → Type 0
  Left p = NoPairAt called p.next

  abbrev Folds : Facts → State → State → BlockTerm → BlockTerm → Type 0
  Folds = BlockWalk called State (λ s. length s.folds) (FoldedHere called function) Anywhere Left

  walk_of : {k : Facts} {p q : State} {b c : BlockTerm} → Walked called function k p q b c → Folds k p q b c
  walk_of stays = kept
  walk_of (goes {p = p} {q = q} s w) = more (one_more called function p q s) s (walk_of w)

  walked_of : {k : Facts} {p q : State} {b c : BlockTerm} → Folds k p q b c → Walked called function k p q b c
  walked_of kept = stays
  walked_of (more n s w) = goes s (walked_of w)

  same_or_more : {k : Facts} {p q : State} {b c : BlockTerm} → Walked called function k p q b c → ((q ≡ p) × (c ≡ b)) ⊎ (length p.folds < length q.folds)
  same_or_more stays = inl (refl, refl)
  same_or_more (goes {p = p} {q = q} {r = r} s w) = inr (above_one (length p.folds) (length q.folds) (length r.folds) (one_more called function p q s) (rises called function w))

  begun_is : (H : Facts → BlockTerm → Type 0) (ls : List LetTerm) (rs : List Var) (k : Facts) → EachBegun called H ls (Gives rs) k → EachStarts called H (chain ls (Gives rs)) k
  begun_is H [] rs k h = tt
  begun_is H (l ∷ ls) rs k h = (h.0, begun_is H ls rs (note_all k l.targets (right_facts called l.right k)) h.1)

  -- ---- steps and ends as edits

  step_is : (k : Facts) (p q : Folding) (xs : List Var) (s : Site) (r : RightTerm) (vs : List Fact) (ms : List LetTerm) (t : RightTerm) (ws : List Fact) → FoldStep k p q xs s r vs ms t ws →
      EditStep called State (λ n. length n.folds) (FoldedHere called function) Anywhere k (state_of p) (state_of q) xs s r vs ms t ws
  step_is k p q xs s r vs ms t ws h = record {
    none = h.1;
    known = λ e. h.3 ∙ e ∙ ap (λ (m : RightTerm). right_facts called m k) (sym h.2);
    edit = inr (record { still = ap state_of h.0; same = h.2; left = λ rest. tt });
  }

  verdict_is : (k : Facts) (p q : State) (ls ns : List LetTerm) (rs : List Var) → LevelFolded called function k p q ls ns rs →
      ((q ≡ p) × (chain ns (Gives rs) ≡ chain ls (Gives rs))) ⊎ (length p.folds < length q.folds) →
      Verdict State (λ n. length n.folds) p q
      ((chain ns (Gives rs) ≡ chain ls (Gives rs)) × (EachStarts called (Anywhere p) (chain ls (Gives rs)) k → EachStarts called (Left p) (chain ls (Gives rs)) k))
  verdict_is k p q ls ns rs f (inl h) = inl (h.0, (h.1, λ _. begun_is (Left p) ls rs k (f.none (ap (λ (n : State). n.folds) h.0))))
  verdict_is k p q ls ns rs f (inr l) = inr l

  finish_is : (k : Facts) (p q : Folding) (b : BlockTerm) (vs : List Fact) (c : BlockTerm) (ws : List Fact) → FoldFinish called function k p q b vs c ws →
      EditFinish called State (λ n. length n.folds) (FoldedHere called function) Anywhere Left k (state_of p) (state_of q) b vs c ws
  finish_is k p q b vs c ws f =
      let old = chain f.lets (Gives f.results) in
      let new = chain f.new (Gives f.results) in
      record {
        walked = subst (λ (t : BlockTerm). Folds k (state_of p) (state_of q) t c) (sym f.before) (subst (λ (t : BlockTerm). Folds k (state_of p) (state_of q) old t) (sym f.after) (walk_of f.folded.walked));
        verdict = subst (λ (t : BlockTerm). Verdict State (λ n. length n.folds) (state_of p) (state_of q) ((c ≡ t) × (EachStarts called (Anywhere (state_of p)) t k → EachStarts called (Left (state_of p)) t k))) (sym f.before)
            (subst (λ (t : BlockTerm). Verdict State (λ n. length n.folds) (state_of p) (state_of q) ((t ≡ old) × (EachStarts called (Anywhere (state_of p)) old k → EachStarts called (Left (state_of p)) old k))) (sym f.after)
            (verdict_is k (state_of p) (state_of q) f.lets f.new f.results f.folded (same_or_more f.folded.walked)));
        known = λ _. f.known;
      }

  -- ---- a block

  -- the pairs that are bound in it were folded
  pub level_finish : (k inner : Facts) (p q : Folding) (old : Block) (x : Block-F the_data the_data-1 the_data-2 the_data-3 the_data-4 the_data-5 the_data-6) (new : List Let) (rs : List Var) (vs ws : List Fact) →
      LevelFolded called function k (state_of p) (state_of q) (map let_term (out-Block old).lets.items) (map let_term new) rs → rs ≡ (out-Block old).results.items → x.lets.items ≡ new → x.results.items ≡ (out-Block old).results.items →
      inner ≡ facts_after called (map let_term new) k → ws ≡ map inner x.results.items → FoldFinish called function k p q (block_term old) vs (block_term (roll-Block x)) ws
  level_finish k inner p q old x new rs vs ws f e d r known w =
      let made : block_term (roll-Block x) ≡ chain (map let_term new) (Gives rs) = block_roll x ∙ (λ i. chain (map let_term (d i)) (Gives ((r ∙ sym e) i))) in
      record {
        lets = map let_term (out-Block old).lets.items;
        new = map let_term new;
        results = rs;
        folded = f;
        before = block_out old ∙ ap (λ (xs : List Var). chain (map let_term (out-Block old).lets.items) (Gives xs)) (sym e);
        after = made;
        known = w ∙ (λ i. map (known i) ((r ∙ sym e) i)) ∙ sym (known_behind called (map let_term new) rs k) ∙ ap (λ (t : BlockTerm). block_facts called t k) (sym made);
      }

  none_left : (k : Facts) (p q : State) (b c : BlockTerm) → Verdict State (λ n. length n.folds) p q ((c ≡ b) × EachBinding called (Left p) b k) → q.folds ≡ p.folds → EachBinding called (Left p) b k
  none_left k p q b c (inl h) e = h.1.1
  none_left k p q b c (inr l) e = absurd (not_less (length p.folds) (length q.folds) l (ap length e))

  pub walked_end : (k : Facts) (p q : Folding) (b c : BlockTerm) (vs : List Fact) → BlockTraced called Folding FoldStep (FoldFinish called function) k p q b c vs →
      BlockWalked called function k (state_of p) (state_of q) b c
  walked_end k p q b c vs t =
      let told = (traced_block called Folding State state_of (λ n. length n.folds) (FoldedHere called function) Anywhere Left FoldStep (FoldFinish called function) step_is finish_is t).0 in
      record { walked = walked_of told.walked; none = none_left k (state_of p) (state_of q) b c told.verdict }
