-- Total blocks have a value.
use Rattle.std.proofs.Common.{◌≡◌, ℕ, Bool, true, false, ◌&&◌, List, [], ◌∷◌, ◌++◌, map, length, Option, Some, None, Ok, refl, ap, ◌∙◌, ℤ}
use Rattle.std.specs.Prelude.{zip}
use Rattle.std.proofs.lemmas.Slice.Eq.{bytes_eq-Decides}
use Rattle.sac_base.specs.declared.base.Base.{Base}
use Rattle.sac_base.specs.declared.grid.Grid1.{Grid1}
use Rattle.sac_base.specs.declared.site.Site.{Site}
use Rattle.sac_base.specs.Arrays.{ArrayValue, first_cell, is_true}
use Rattle.sac_base.specs.Grids.{has_vector}
use Rattle.sac_base.specs.Outcomes.{and_then, at_site, choose}
use Rattle.sac_base.specs.Parts.{condition, truth_in}
use Rattle.core_ir.specs.Binders.{bound_in, bound_in_right}
use Rattle.core_ir.specs.Terms.{BlockTerm, RightTerm, CoreTerm, Gives, Bind, Plain}
use Rattle.core_ir.specs.Meaning.{Env, Answer, CallMeaning, bind_all, one, run, right_value}
use Rattle.core_ir.specs.WellFormed.{Bases, BlockBases, RightBases, Distinct}
use Rattle.core_facts.specs.Facts.{Facts, note_all, ShapeIs, AreSound, right_facts, CallsFit}
use Rattle.core_facts.specs.Full.{FullInside, FullInsideRight}
use Rattle.core_facts.proofs.Sound.{noted, right_sound}
use Rattle.core_facts.specs.bases.Typed.{Typed, CallsTyped}
use Rattle.core_facts.proofs.bases.Bound.{distinct_left, distinct_right, bound_zip}
use Rattle.core_facts.proofs.bases.Whole.{right_typed}
use Rattle.core_loops.specs.Indices.{IndexFacts, learn_index, is_scalar_shape, total_block, total_right}
use Rattle.core_loops.specs.index_facts.Says.{SaysAll}
use Rattle.core_loops.proofs.index_facts.Members.{and_both}
use Rattle.core_loops.proofs.index_facts.Indices.{says_learned}
use Rattle.core_loops.proofs.index_facts.Total.{plain_total}

not_false : (A : Type 0) → false ≡ true → A
not_false A p = absurd (cc)

chooses : (o : Option (List ℕ)) (a : ArrayValue) → ShapeIs o a → is_scalar_shape o ≡ true → condition a ≡ Some (is_true (first_cell a.cells))
chooses None a h p = not_false _ p
chooses (Some s) a h p = ap (λ t. truth_in t a.cells) (h ∙ (bytes_eq-Decides s []).0 p)

chosen : (s : Site) (o : Option Bool) (t : Bool) (a b : Answer) → o ≡ Some t → (vs : List ArrayValue) × (a ≡ Ok vs) → (vs : List ArrayValue) × (b ≡ Ok vs) → (vs : List ArrayValue) × (choose s o a b ≡ Ok vs)
chosen s o true a b e x y = (x.0, (λ i. choose s (e i) a b) ∙ x.1)
chosen s o false a b e x y = (y.0, (λ i. choose s (e i) a b) ∙ y.1)

module _ (core : CoreTerm) (calls : CallMeaning) (turns : ℕ) (typed : CallsTyped core calls) (called : ℕ → List (Option (List ℕ))) (fit : CallsFit called calls) (grid : List Grid1) (own : List ℤ) (inside : has_vector grid own ≡ true) (long : length own ≡ length grid) where
  mutual
    pub block_total : (b : BlockTerm) (g : Bases) (ts : List Base) (k : Facts) (m : IndexFacts) (e : Env) → total_block called grid b k m ≡ true → BlockBases core g b ts → Distinct (bound_in b) → FullInside calls turns b → Typed g e → AreSound k e → SaysAll own m e → (vs : List ArrayValue) × (run calls turns b e ≡ Ok vs)
    block_total (Gives xs) g ts k m e h b d w ty s says = (map e xs, refl)
    block_total (Bind xs u r c) g ts k m e h b d w ty s says =
        let t = and_both (total_right called grid r k m) (total_block called grid c (note_all k xs (right_facts called r k)) (learn_index (length grid) m xs r k)) h in
        let rest = distinct_right xs (bound_in_right r ++ bound_in c) d in
        let dr = distinct_left (bound_in_right r) (bound_in c) rest in
        let q = right_total r u g b.0 k m e t.0 b.1.0 dr w.1 ty s says in
        let sound = noted k e xs (right_facts called r k) q.0 s (right_sound calls turns called fit r u k e q.0 w.0 w.1 s q.1) in
        let bases = bound_zip g e xs b.0 q.0 ty (distinct_left xs (bound_in_right r ++ bound_in c) d) b.1.1 (right_typed core calls turns typed r u g b.0 e q.0 b.1.0 dr ty q.1) in
        let z = block_total c (zip xs b.0 ++ g) ts (note_all k xs (right_facts called r k)) (learn_index (length grid) m xs r k) (bind_all e xs q.0) t.1 b.1.2 (distinct_right (bound_in_right r) (bound_in c) rest) w.2 bases sound
        (says_learned calls turns own (length grid) m k e xs r u q.0 long s says q.1) in
        (z.0, (λ i. and_then (q.1 i) (λ vs. run calls turns c (bind_all e xs vs))) ∙ z.1)

    pub right_total : (r : RightTerm) (u : Site) (g : Bases) (ts : List Base) (k : Facts) (m : IndexFacts) (e : Env) → total_right called grid r k m ≡ true → RightBases core g r ts → Distinct (bound_in_right r) → FullInsideRight calls turns r → Typed g e → AreSound k e → SaysAll own m e → (vs : List ArrayValue) × (right_value calls turns r u e ≡ Ok vs)
    right_total (Plain p) u g ts k m e h b d w ty s says =
        let v = plain_total grid own p g ts k m e inside h b ty s says in
        (v.0 ∷ [], λ i. one (at_site u (v.1 i)))
    right_total (RightTerm.If x a c) u g ts k m e h b d w ty s says =
        let t = and_both (is_scalar_shape (k x).shape && total_block called grid a k m) (total_block called grid c k m) h in
        let t' = and_both (is_scalar_shape (k x).shape) (total_block called grid a k m) t.0 in
        chosen u (condition (e x)) (is_true (first_cell (e x).cells)) (run calls turns a e) (run calls turns c e) (chooses (k x).shape (e x) (s x).shape t'.0)
        (block_total a g ts k m e t'.1 b.1 (distinct_left (bound_in a) (bound_in c) d) w.0 ty s says)
        (block_total c g ts k m e t.1 b.2 (distinct_right (bound_in a) (bound_in c) d) w.1 ty s says)
    right_total (RightTerm.Loop fb start params test body v) u g ts k m e h b d w ty s says = not_false _ h
    right_total (RightTerm.Call group xs) u g ts k m e h b d w ty s says = not_false _ h
    right_total (RightTerm.With o gens) u g ts k m e h b d w ty s says = not_false _ h
    right_total (RightTerm.Parted f t cell o parts) u g ts k m e h b d w ty s says = not_false _ h
