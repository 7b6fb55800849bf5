-- Total bindings are passed, also where other variables are about.
use Rattle.std.proofs.Common.{◌≡◌, ℕ, zero, suc, Bool, true, false, ◌&&◌, ◌||◌, cond, eqb, List, [], ◌∷◌, ◌++◌, map, length, Option, Some, None, Ok, Err, refl, sym, ap, subst, ◌∙◌, ℤ}
use Rattle.std.specs.Prelude.{zip}
use Rattle.sac_base.specs.declared.base.Base.{Base}
use Rattle.sac_base.specs.declared.grid.Grid1.{Grid1}
use Rattle.sac_base.specs.Arrays.{ArrayValue}
use Rattle.sac_base.specs.Grids.{has_vector}
use Rattle.sac_base.specs.Outcomes.{and_then}
use Rattle.core_ir.specs.declared.tree.Var.{Var}
use Rattle.core_ir.specs.Binders.{is_in, bound_in, bound_in_right}
use Rattle.core_ir.specs.Scopes.{AgreeOn}
use Rattle.core_ir.specs.Terms.{BlockTerm, LetTerm, CoreTerm, chain}
use Rattle.core_ir.specs.Uses.{targets_of}
use Rattle.core_ir.specs.Meaning.{Env, CallMeaning, bind, bind_all, missing, run, right_value}
use Rattle.core_ir.specs.WellFormed.{Bases}
use Rattle.core_ir.proofs.Coincide.{same_on_right}
use Rattle.core_ir.proofs.Facts.{agree_after}
use Rattle.core_ir.proofs.Splice.{bound_elsewhere}
use Rattle.core_ir.proofs.Variables.{in_front, in_more, in_neither, or_right, or_false}
use Rattle.core_facts.specs.Facts.{Facts, note_all, right_facts, CallsFit}
use Rattle.core_facts.specs.bases.Typed.{CallsTyped}
use Rattle.core_facts.proofs.bases.Bound.{distinct_left, distinct_right}
use Rattle.core_loops.specs.Indices.{IndexFacts, learn_index, total_right}
use Rattle.core_loops.specs.index_facts.Says.{SaysAll}
use Rattle.core_loops.proofs.index_facts.Members.{and_both}
use Rattle.core_loops.proofs.index_facts.Indices.{says_learned}
use Rattle.core_loops.proofs.index_facts.Blocks.{right_total}
use Rattle.core_loops.proofs.fold_steps.Places.{At, after_bind}

one_more : (x y : Var) (v : ArrayValue) (e f : Env) → (eqb x.0 y.0 ≡ false → f y ≡ e y) → bind f x v y ≡ bind e x v y
one_more x y v e f h = go (eqb x.0 y.0) h
  where
    go : (b : Bool) → (b ≡ false → f y ≡ e y) → cond b v (f y) ≡ cond b v (e y)
    go true k = refl
    go false k = k refl

bind_same : (xs : List Var) (vs : List ArrayValue) (e f : Env) (y : Var) → (is_in y xs ≡ false → f y ≡ e y) → bind_all f xs vs y ≡ bind_all e xs vs y
bind_same [] vs e f y h = h refl
bind_same (x ∷ xs) [] e f y h = bind_same xs [] (bind e x missing) (bind f x missing) y (λ q. one_more x y missing e f (λ r. h (λ i. r i || q i)))
bind_same (x ∷ xs) (v ∷ vs) e f y h = bind_same xs vs (bind e x v) (bind f x v) y (λ q. one_more x y v e f (λ r. h (λ i. r i || q i)))

pub agree_more : (xs scope : List Var) (vs : List ArrayValue) (f e : Env) → AgreeOn scope f e → AgreeOn (xs ++ scope) (bind_all f xs vs) (bind_all e xs vs)
agree_more xs scope vs f e h y i = bind_same xs vs e f y (λ q. h y (sym (in_more y xs scope ∙ (λ j. q j || is_in y scope)) ∙ i))

pub record Walked (core : CoreTerm) (calls : CallMeaning) (turns : ℕ) (own : List ℤ) (scope : List Var) (ts : List Base) (e : Env) (ls : List LetTerm) (b : BlockTerm) (T : List LetTerm → Facts → IndexFacts → Bool) : Type 0 where
  pub env : Env
  pub facts : Facts
  pub indices : IndexFacts
  pub seen : List Var
  pub bases : Bases
  pub passed : (X : BlockTerm) → run calls turns (chain ls X) e ≡ run calls turns X env
  pub at : At core calls turns seen bases ts facts b env
  pub says : SaysAll own indices env
  pub total : T [] facts indices ≡ true
  pub old : AgreeOn scope env e
  pub sub : (y : Var) → is_in y scope ≡ true → is_in y seen ≡ true
  pub fresh : (y : Var) → is_in y seen ≡ false → (is_in y scope ≡ false) × (is_in y (targets_of ls) ≡ false)
  -- other environments that agree on the scope
  pub beside : (f : Env) (x : Var) → AgreeOn scope f e → is_in x (targets_of ls) ≡ false → (q : Env) × ((X : BlockTerm) → run calls turns (chain ls X) f ≡ run calls turns X q) × AgreeOn seen q env × (q x ≡ f x)

module _ (core : CoreTerm) (calls : CallMeaning) (turns : ℕ) (typed : CallsTyped core calls) (called : ℕ → List (Option (List ℕ))) (fit : CallsFit called calls) (grid : List Grid1) (own : List ℤ) (inside : has_vector grid own ≡ true) (long : length own ≡ length grid) (b : BlockTerm) (ts : List Base)
    (T : List LetTerm → Facts → IndexFacts → Bool) (split : (l : LetTerm) (ls : List LetTerm) (k : Facts) (m : IndexFacts) → T (l ∷ ls) k m ≡ (total_right called grid l.right k m && T ls (note_all k l.targets (right_facts called l.right k)) (learn_index (length grid) m l.targets l.right k))) where
  pub walk : (ls : List LetTerm) (scope : List Var) (g : Bases) (k : Facts) (m : IndexFacts) (e : Env) → At core calls turns scope g ts k (chain ls b) e → SaysAll own m e → T ls k m ≡ true → Walked core calls turns own scope ts e ls b T
  walk [] scope g k m e a says t = record {
    env = e;
    facts = k;
    indices = m;
    seen = scope;
    bases = g;
    passed = λ X. refl;
    at = a;
    says = says;
    total = t;
    old = λ y i. refl;
    sub = λ y i. i;
    fresh = λ y h. (h, refl);
    beside = λ f x near h. (f, (λ X. refl), near, refl);
  }
  walk (l ∷ ls) scope g k m e a says t =
      let w = and_both (total_right called grid l.right k m) (T ls (note_all k l.targets (right_facts called l.right k)) (learn_index (length grid) m l.targets l.right k)) (sym (split l ls k m) ∙ t) in
      let rest = distinct_right l.targets (bound_in_right l.right ++ bound_in (chain ls b)) a.once in
      let q = right_total core calls turns typed called fit grid own inside long l.right l.site g a.bases.0 k m e w.0 a.bases.1.0 (distinct_left (bound_in_right l.right) (bound_in (chain ls b)) rest) a.full.1 a.typed a.sound says in
      let r = walk ls (l.targets ++ scope) (zip l.targets a.bases.0 ++ g) (note_all k l.targets (right_facts called l.right k)) (learn_index (length grid) m l.targets l.right k) (bind_all e l.targets q.0)
      (after_bind core calls turns typed called fit l.targets l.site l.right (chain ls b) scope g ts k e q.0 a q.1)
      (says_learned calls turns own (length grid) m k e l.targets l.right l.site q.0 long a.sound says q.1) w.1 in
      record {
        env = r.env;
        facts = r.facts;
        indices = r.indices;
        seen = r.seen;
        bases = r.bases;
        passed = λ X. (λ i. and_then (q.1 i) (λ vs. run calls turns (chain ls X) (bind_all e l.targets vs))) ∙ r.passed X;
        at = r.at;
        says = r.says;
        total = r.total;
        old = λ y i. r.old y (in_front y l.targets scope i) ∙ agree_after l.targets scope q.0 e a.scoped.1 y i;
        sub = λ y i. r.sub y (in_front y l.targets scope i);
        fresh = λ y h.
            let z = r.fresh y h in
            let s = in_neither y l.targets scope z.0 in
            (s.1, in_more y l.targets (targets_of ls) ∙ (λ i. s.0 i || z.1 i));
        beside = λ f x near h.
            let s = in_neither x l.targets (targets_of ls) h in
            let z = r.beside (bind_all f l.targets q.0) x (agree_more l.targets scope q.0 f e near) s.1 in
            let same = same_on_right calls turns scope l.right l.site f e a.scoped.0 near ∙ q.1 in
            (z.0, (λ X. (λ i. and_then (same i) (λ vs. run calls turns (chain ls X) (bind_all f l.targets vs))) ∙ z.1 X), z.2, z.3 ∙ bound_elsewhere calls turns l.targets q.0 f x s.0);
      }
