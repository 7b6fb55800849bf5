-- The cells of an outer loop are inner loops, and the merged bodies give their cells.
use Rattle.std.proofs.Common.{◌≡◌, ℕ, ◌+◌, ◌<◌, ◌⊎◌, inl, inr, Bool, true, false, ◌||◌, cond, eqb, List, [], ◌∷◌, ◌++◌, length, replicate, Option, Ok, Err, refl, sym, ap, subst, ◌∙◌, ℤ, pos}
use Rattle.std.specs.Prelude.{zip}
use Rattle.std.proofs.lemmas.Bool.{eq-eqb}
use Rattle.std.proofs.lemmas.List.{length-replicate}
use Rattle.sac_base.specs.declared.base.Base.{Base}
use Rattle.sac_base.specs.declared.base.Base.TheVariants.{Int}
use Rattle.sac_base.specs.declared.grid.Grid1.{Grid1}
use Rattle.sac_base.specs.Arrays.{ArrayValue, vector, size}
use Rattle.sac_base.specs.Grids.{has_vector}
use Rattle.sac_base.specs.Outcomes.{Ends, and_then, first_result}
use Rattle.core_ir.specs.declared.tree.Var.{Var}
use Rattle.core_ir.specs.declared.tree.PartedOp.TheVariants as parted
use Rattle.core_ir.specs.Binders.{is_in, bound_in, bound_in_right, bound_in_parts}
use Rattle.core_ir.specs.Scopes.{Scoped, ScopedParts, AgreeOn}
use Rattle.core_ir.specs.Terms.{BlockTerm, RightTerm, PartsTerm, PartHead, LetTerm, CoreTerm, Gives, Bind, NoParts, Part, Parted, chain}
use Rattle.core_ir.specs.Uses.{Avoids, AvoidsParts, targets_of}
use Rattle.core_ir.specs.Meaning.{Env, Answer, CallMeaning, bind, bind_all, first, one, extents, parted_value, run, right_value, cells}
use Rattle.core_ir.specs.WellFormed.{Bases, Distinct, Covered, part_grids}
use Rattle.core_ir.proofs.Coincide.{same_on}
use Rattle.core_ir.proofs.Facts.{agree_after}
use Rattle.core_ir.proofs.Unused.{unused}
use Rattle.core_ir.proofs.Variables.{same_number, in_front, in_more, in_neither, or_right}
use Rattle.core_facts.specs.Facts.{Facts, note_all, right_facts, CallsFit}
use Rattle.core_facts.proofs.Shapes.{ok_same}
use Rattle.core_facts.proofs.Sound.{noted, known_has, then_ok}
use Rattle.core_facts.specs.bases.Typed.{HaveBases, CallsTyped}
use Rattle.core_facts.proofs.bases.Bound.{distinct_right, bound_zip}
use Rattle.core_loops.specs.Indices.{IndexFacts, learn_index, total_block}
use Rattle.core_loops.specs.Pairs.{AvoidsLets, IsNest, total_around}
use Rattle.core_loops.specs.index_facts.Says.{SaysAll}
use Rattle.core_loops.proofs.index_facts.Indices.{says_learned, says_others}
use Rattle.core_loops.proofs.index_facts.Blocks.{block_total}
use Rattle.core_loops.proofs.fold_steps.Places.{At, after_bind}
use Rattle.core_loops.proofs.fold_steps.Step.{avoids_chain}
use Rattle.core_loops.proofs.merge_steps.Walk.{agree_more, walk}

-- ---- variables

apart_in : (x y : Var) (zs : List Var) → is_in x zs ≡ false → is_in y zs ≡ true → eqb x.0 y.0 ≡ false
apart_in x y zs h k = go (eqb x.0 y.0) refl
  where
    go : (b : Bool) → eqb x.0 y.0 ≡ b → eqb x.0 y.0 ≡ false
    go true e = absurd (let p : true ≡ false = sym k ∙ sym (λ i. is_in (same_number x y e i) zs) ∙ h in cc)
    go false e = e

distinct_apart : (xs ys : List Var) (x : Var) → Distinct (xs ++ ys) → is_in x xs ≡ true → is_in x ys ≡ false
distinct_apart [] ys x d h = absurd (cc)
distinct_apart (y ∷ xs) ys x d h = go (eqb y.0 x.0) refl (λ k. distinct_apart xs ys x d.1 k)
  where
    go : (b : Bool) → eqb y.0 x.0 ≡ b → (is_in x xs ≡ true → is_in x ys ≡ false) → is_in x ys ≡ false
    go true e f = (λ i. is_in (sym (same_number y x e) i) ys) ∙ (in_neither y xs ys d.0).1
    go false e f = f (sym (λ i. e i || is_in x xs) ∙ h)

in_left : (x : Var) (xs ys : List Var) → is_in x xs ≡ true → is_in x (xs ++ ys) ≡ true
in_left x xs ys h = in_more x xs ys ∙ (λ i. h i || is_in x ys)

targets_bound : (ls : List LetTerm) (b : BlockTerm) (x : Var) → is_in x (bound_in (chain ls b)) ≡ false → is_in x (targets_of ls) ≡ false
targets_bound [] b x h = refl
targets_bound (l ∷ ls) b x h =
    let s = in_neither x l.targets (bound_in_right l.right ++ bound_in (chain ls b)) h in
    let t = in_neither x (bound_in_right l.right) (bound_in (chain ls b)) s.1 in
    let r = targets_bound ls b x t.1 in
    in_more x l.targets (targets_of ls) ∙ (λ i. s.0 i || r i)

chain_append : (ls ms : List LetTerm) (X : BlockTerm) → chain (ls ++ ms) X ≡ chain ls (chain ms X)
chain_append [] ms X = refl
chain_append (l ∷ ls) ms X = λ i. Bind l.targets l.site l.right (chain_append ls ms X i)

lets_back : (z : Var) (ls ms : List LetTerm) → AvoidsLets z (ls ++ ms) → AvoidsLets z ms
lets_back z [] ms h = h
lets_back z (l ∷ ls) ms h = lets_back z ls ms h.1

-- ---- parts of the inner loop

abbrev pub Standing : PartsTerm → PartHead → BlockTerm → Type 0
Standing NoParts j c = ⊥
Standing (Part g d rest) j c = ((g ≡ j) × (d ≡ c)) ⊎ Standing rest j c

scoped_at : (scope : List Var) (ps : PartsTerm) (j : PartHead) (c : BlockTerm) → Standing ps j c → ScopedParts scope ps → (is_in j.index scope ≡ false) × Scoped (j.index ∷ scope) c
scoped_at scope NoParts j c s h = absurd s
scoped_at scope (Part g d rest) j c s h = elim s [
  | inl y ↦ ((λ i. is_in (sym y.0 i).index scope) ∙ h.0, subst (λ x. Scoped (j.index ∷ scope) x) y.1 (subst (λ (x : PartHead). Scoped (x.index ∷ scope) d) y.0 h.1))
  | inr r ↦ scoped_at scope rest j c r h.2
]

bound_at : (ps : PartsTerm) (j : PartHead) (c : BlockTerm) → Standing ps j c → is_in j.index (bound_in_parts ps) ≡ true
bound_at NoParts j c s = absurd s
bound_at (Part g d rest) j c s = elim s [
  | inl y ↦ λ i. eq-eqb g.index.0 j.index.0 (λ k. (y.0 k).index.0) i || is_in j.index (bound_in d ++ bound_in_parts rest)
  | inr r ↦ or_right (eqb g.index.0 j.index.0) (is_in j.index (bound_in d ++ bound_in_parts rest)) (in_front j.index (bound_in d) (bound_in_parts rest) (bound_at rest j c r))
]

avoids_at : (z : Var) (ps : PartsTerm) (j : PartHead) (c : BlockTerm) → Standing ps j c → AvoidsParts z ps → Avoids z c
avoids_at z NoParts j c s h = absurd s
avoids_at z (Part g d rest) j c s h = elim s [
  | inl y ↦ subst (Avoids z) y.1 h.0
  | inr r ↦ avoids_at z rest j c r h.1
]

-- ---- one outer part

through_one : (x : Ends ArrayValue) (N : List ArrayValue → Answer) → ((a : ArrayValue) → x ≡ Ok a → first (N (a ∷ [])) ≡ Ok a) → first (and_then (one x) N) ≡ x
through_one (Ok a) N h = h a refl
through_one (Err k) N h = refl

seen_or : (e f : Env) (a : ArrayValue) (seen : List Var) (y x : Var) → f x ≡ a → is_in y (x ∷ seen) ≡ true → (is_in y seen ≡ true → f y ≡ e y) → f y ≡ bind e x a y
seen_or e f a seen y x own i h = go (eqb x.0 y.0) refl i
  where
    go : (q : Bool) → eqb x.0 y.0 ≡ q → (q || is_in y seen) ≡ true → f y ≡ cond q a (e y)
    go true p n = ap f (sym (same_number x y p)) ∙ own
    go false p n = h n

module _ (core : CoreTerm) (calls : CallMeaning) (turns : ℕ) (typed : CallsTyped core calls) (called : ℕ → List (Option (List ℕ))) (fit : CallsFit called calls) where
  kept : (ls : List LetTerm) (z : Var) (scope : List Var) (e : Env) (vs : List ArrayValue) → Scoped scope (chain ls (Gives (z ∷ []))) → is_in z scope ≡ true → run calls turns (chain ls (Gives (z ∷ []))) e ≡ Ok vs → vs ≡ e z ∷ []
  kept [] z scope e vs s i p = sym (ok_same (e z ∷ []) vs p)
  kept (l ∷ ls) z scope e vs s i p =
      let t = then_ok (right_value calls turns l.right l.site e) (λ ws. run calls turns (chain ls (Gives (z ∷ []))) (bind_all e l.targets ws)) vs p in
      kept ls z (l.targets ++ scope) (bind_all e l.targets t.0) vs s.2 (in_front z l.targets scope i) t.2 ∙ (λ k. agree_after l.targets scope t.0 e s.1 z i k ∷ [])

  pub nest_cells : (grid : List Grid1) (v : List ℤ) (inside : has_vector grid v ≡ true) (long : length v ≡ length grid) (k : Facts) (m : IndexFacts) (frame : List Grid1) (t : Base) (b : BlockTerm) (inner : PartsTerm) (nest : IsNest called k grid m frame t b inner) (alone : AvoidsParts nest.z inner)
      (scope : List Var) (g : Bases) (e : Env) → At core calls turns scope g (t ∷ []) k b e → SaysAll v m e
      → (f : Env) × (first (run calls turns b e) ≡ parted_value frame t [] parted.Genarray (cells calls turns inner f) nest.site f)
      × ((j : PartHead) (c : BlockTerm) → Standing inner j c → (w : List ℤ) → first (run calls turns (chain (nest.before ++ nest.after) c) (bind e j.index (vector Int w))) ≡ first (run calls turns c (bind f j.index (vector Int w))))
      × Covered frame (part_grids inner)
  nest_cells grid v inside long k m frame t b inner nest alone scope g e given says =
      let z = nest.z in
      let R : RightTerm = Parted frame t [] parted.Genarray inner in
      let ch : BlockTerm = chain nest.after (Gives (z ∷ [])) in
      let B : BlockTerm = Bind (z ∷ []) nest.site R ch in
      let a : At core calls turns scope g (t ∷ []) k (chain nest.before B) e = subst (λ x. At core calls turns scope g (t ∷ []) k x e) nest.whole given in
      let W = walk core calls turns typed called fit grid v inside long B (t ∷ []) (λ ls n o. total_around called grid ls B n o) (λ l ls n o. refl) nest.before scope g k m e a says nest.total in
      let F = W.env in
      let at = W.at in
      let us = at.bases.0 in
      let P = parted_value frame t [] parted.Genarray (cells calls turns inner F) nest.site F in
      let k2 = note_all W.facts (z ∷ []) (right_facts called R W.facts) in
      let m2 = learn_index (length grid) W.indices (z ∷ []) R W.facts in
      let rest = distinct_right (z ∷ []) (bound_in_parts inner ++ bound_in ch) at.once in
      let after_value : (x : ArrayValue) → P ≡ Ok x → first (run calls turns ch (bind F z x)) ≡ Ok x =
      λ x p.
      let a2 = after_bind core calls turns typed called fit (z ∷ []) nest.site R ch W.seen W.bases (t ∷ []) W.facts F (x ∷ []) at (ap one p) in
      let s2 = says_learned calls turns v (length grid) W.indices W.facts F (z ∷ []) R nest.site (x ∷ []) long at.sound W.says (ap one p) in
      let r = block_total core calls turns typed called fit grid v inside long ch (zip (z ∷ []) us ++ W.bases) (t ∷ []) k2 m2 (bind F z x) W.total a2.bases a2.once a2.full a2.typed a2.sound s2 in
      let self : eqb z.0 z.0 ≡ true = eq-eqb z.0 z.0 refl in
      let only = kept nest.after z (z ∷ W.seen) (bind F z x) r.0 at.scoped.2 (λ i. self i || is_in z W.seen) r.1 in
      ap first r.1 ∙ (λ i. Ok (first_result (only i))) ∙ (λ i. Ok (cond (self i) x (F z))) in
      let whole_value : first (run calls turns b e) ≡ P =
      (λ i. first (run calls turns (nest.whole i) e)) ∙ ap first (W.passed B) ∙ through_one P (λ vs. run calls turns ch (bind_all F (z ∷ []) vs)) after_value in
      let shape = extents frame ++ [] in
      let a0 : ArrayValue = record { base = t; shape = shape; cells = replicate (size shape) (pos 0) } in
      let E0 = bind F z a0 in
      let d : At core calls turns (z ∷ W.seen) (zip (z ∷ []) us ++ W.bases) (t ∷ []) k2 ch E0 = record {
        bases = at.bases.1.2;
        once = distinct_right (bound_in_parts inner) (bound_in ch) rest;
        scoped = at.scoped.2;
        full = at.full.2;
        typed = bound_zip W.bases F (z ∷ []) us (a0 ∷ []) at.typed (refl, tt) at.bases.1.1 (subst (λ bs. HaveBases bs (a0 ∷ [])) (sym at.bases.1.0.3) (refl, tt));
        sound = noted W.facts F (z ∷ []) (right_facts called R W.facts) (a0 ∷ []) at.sound (record { shape = known_has shape a0 refl; literal = tt; full = length-replicate (size shape) (pos 0) }, tt);
      } in
      let V = walk core calls turns typed called fit grid v inside long (Gives (z ∷ [])) (t ∷ []) (λ ls n o. total_block called grid (chain ls (Gives (z ∷ []))) n o) (λ l ls n o. refl) nest.after (z ∷ W.seen) (zip (z ∷ []) us ++ W.bases) k2 m2 E0 d (says_others v W.indices F (z ∷ []) (a0 ∷ []) W.says) W.total in (
        F,
        whole_value,
        (λ j c st w.
            let s = scoped_at W.seen inner j c st at.scoped.0.1 in
            let fr = W.fresh j.index s.0 in
            let vw = vector Int w in
            let E1 = bind e j.index vw in
            let near : AgreeOn scope E1 e = λ y i. λ q. cond (apart_in j.index y scope fr.0 i q) vw (e y) in
            let one_side = W.beside E1 j.index near fr.1 in
            let f1 = one_side.0 in
            let E2 = bind f1 z a0 in
            let not_after = targets_bound nest.after (Gives (z ∷ [])) j.index (distinct_apart (bound_in_parts inner) (bound_in ch) j.index rest (bound_at inner j c st)) in
            let other_side = V.beside E2 j.index (agree_more (z ∷ []) W.seen (a0 ∷ []) f1 F one_side.2) not_after in
            let f2 = other_side.0 in
            let zj : eqb z.0 j.index.0 ≡ false = apart_in z j.index (bound_in_parts inner ++ bound_in ch) at.once.0 (in_left j.index (bound_in_parts inner) (bound_in ch) (bound_at inner j c st)) in
            let self : eqb j.index.0 j.index.0 ≡ true = eq-eqb j.index.0 j.index.0 refl in
            let own : f2 j.index ≡ vw = other_side.3 ∙ (λ q. cond (zj q) a0 (f1 j.index)) ∙ one_side.3 ∙ (λ q. cond (self q) vw (e j.index)) in
            let last : AgreeOn (j.index ∷ W.seen) f2 (bind F j.index vw) =
            λ y i.
            seen_or F f2 vw W.seen y j.index own i (λ n.
            let ns = or_right (eqb z.0 y.0) (is_in y W.seen) n in
            other_side.2 y (V.sub y ns) ∙ V.old y ns ∙ (λ q. cond (apart_in z y W.seen at.scoped.1.0 n q) a0 (F y))) in
            ap first (
            (λ i. run calls turns (chain_append nest.before nest.after c i) E1)
            ∙ one_side.1 (chain nest.after c)
            ∙ unused calls turns z (chain nest.after c) f1 E2 (avoids_chain z nest.after c (lets_back z nest.before nest.after nest.unused) (avoids_at z inner j c st alone)) (λ y n. sym (λ q. cond (n q) a0 (f1 y)))
            ∙ other_side.1 c
            ∙ same_on calls turns (j.index ∷ W.seen) c f2 (bind F j.index vw) s.1 last)),
        at.bases.1.0.2.2,
      )
