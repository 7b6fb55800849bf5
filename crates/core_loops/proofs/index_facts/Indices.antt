-- What is known of variables beside the index is so.
use Rattle.std.proofs.Common.{◌≡◌, ℕ, zero, suc, ◌+◌, ◌*◌, ◌<◌, Bool, true, false, cond, eqb, List, [], ◌∷◌, ◌++◌, map, length, drop, take, replicate, get_or, Option, Some, None, Ok, refl, sym, ap, subst, ◌∙◌, arith, ℤ, pos, negsuc, ◌+ℤ◌, All, FitsSigned, w32, lt-ltb, ltb-true, eqb-true}
use Rattle.std.specs.Prelude.{if◌then◌else◌, nat_lt, ◌==◌}
use Rattle.std.proofs.lemmas.Int.{int_wrap_fits}
use Rattle.std.proofs.lemmas.List.{length-map, length-replicate}
use Rattle.std.proofs.lemmas.List.Elements.{All-head, All-tail}
use lib.IntN.{+ℤ_idr}
use Rattle.sac_base.specs.declared.base.Base.TheVariants.{Int}
use Rattle.sac_base.specs.declared.faults.FaultKind.TheVariants.{F3, F4, F8}
use Rattle.sac_base.specs.declared.op.Op.TheVariants as op
use Rattle.sac_base.specs.declared.site.Site.{Site}
use Rattle.sac_base.specs.Arrays.{ArrayValue, scalar, vector}
use Rattle.sac_base.specs.Operators.{wrap}
use Rattle.sac_base.specs.Parts.{literal, cells_of_all, numbers_of, further, part_at, part_at_index, selected, select}
use Rattle.core_ir.specs.declared.tree.Var.{Var}
use Rattle.core_ir.specs.Terms.{PlainTerm, RightTerm, Plain}
use Rattle.core_ir.specs.Meaning.{Env, CallMeaning, missing, bind, bind_all, plain_value, right_value}
use Rattle.core_facts.specs.Facts.{Facts, ValueIs, AreSound}
use Rattle.core_facts.proofs.Shapes.{ok_same, check_ok}
use Rattle.core_facts.proofs.Sound.{plain_ok}
use Rattle.core_loops.specs.Indices.{IndexFact, IndexFacts, Plus, Component, Other, Says, wrapped, note_index, note_others, own_index, either, plus_literal, component_at, component_of, only_number, components_from, prefixed, row_fact, index_fact, learn_index}
use Rattle.core_loops.specs.index_facts.Says.{SaysAll}
use Rattle.core_loops.proofs.index_facts.Sums.{length_wrapped, plus_sound, add_swap}

-- ---- sums

either_says : (own : List ℤ) (f g : IndexFact) (v : ArrayValue) → Says own f v → Says own g v → Says own (either f g) v
either_says own Other g v p q = q
either_says own (Plus c) g v p q = p
either_says own (Component k d) g v p q = p

-- ---- components

at_place : (own c : List ℤ) (k : ℕ) → length c ≡ length own → k < length c → take 1 (drop k (wrapped own c)) ≡ wrap (get_or own k (pos 0) +ℤ get_or c k (pos 0)) ∷ []
at_place own [] k h l = absurd (omega (arith, l))
at_place [] (d ∷ c) k h l = absurd (omega (arith, h))
at_place (v ∷ own) (d ∷ c) zero h l = refl
at_place (v ∷ own) (d ∷ c) (suc k) h l = at_place own c k (omega (arith, h)) (omega (arith, l))

abbrev list_or : Option (List ℤ) → List ℤ
list_or None = []
list_or (Some zs) = zs

chosen : (own c : List ℤ) (a b l v : ArrayValue) (k : ℕ) → length c ≡ length own → a ≡ vector Int (wrapped own c) → b ≡ l → k < length c → numbers_of l ≡ Some (pos k ∷ []) → select a b ≡ Ok v → v ≡ scalar Int (wrap (get_or own k (pos 0) +ℤ get_or c k (pos 0)))
chosen own c a b l v k h ea eb lt n p =
    let long : k < length (wrapped own c) = omega (arith, lt, length_wrapped own c h, h) in
    let there : part_at (length (wrapped own c) ∷ []) (pos k ∷ []) ≡ Some (record { start = k; shape = [] }) =
    ap (λ t. if t then further k [] (part_at [] []) else None) (lt-ltb k (length (wrapped own c)) long) ∙ (λ i. Some (record { start = place k i; shape = [] })) in
    let is : select a b ≡ Ok (record { base = Int; shape = []; cells = take 1 (drop k (wrapped own c)) }) =
    (λ i. select (ea i) (eb i)) ∙ (λ i. selected (vector Int (wrapped own c)) (part_at_index (vector Int (wrapped own c)) (n i))) ∙ (λ i. selected (vector Int (wrapped own c)) (there i)) in
    sym (ok_same _ v (sym is ∙ p)) ∙ (λ i. record { base = Int; shape = []; cells = at_place own c k h lt i })
  where
    place : (k : ℕ) → k * 1 + 0 ≡ k
    place k = omega arith

component_sound : (own : List ℤ) (f : IndexFact) (o : Option ArrayValue) (a b v : ArrayValue) → Says own f a → ValueIs o b → select a b ≡ Ok v → Says own (component_of f o) v
component_sound own (Component k d) o a b v s h p = tt
component_sound own Other o a b v s h p = tt
component_sound own (Plus c) None a b v s h p = tt
component_sound own (Plus c) (Some l) a b v s h p = by (numbers_of l) refl
  where
    at : (k : ℕ) → numbers_of l ≡ Some (pos k ∷ []) → (t : Bool) → nat_lt k (length c) ≡ t → Says own (if t then Component k (get_or c k (pos 0)) else Other) v
    at k n true e = let lt : k < length c = ltb-true k (length c) e in (omega (arith, lt, s.0), chosen own c a b l v k s.0 s.1 h lt n p)
    at k n false e = tt

    by : (m : Option (List ℤ)) → numbers_of l ≡ m → Says own (component_at c (only_number m)) v
    by None n = tt
    by (Some []) n = tt
    by (Some (pos k ∷ [])) n = at k n (nat_lt k (length c)) refl
    by (Some (negsuc k ∷ [])) n = tt
    by (Some (z ∷ y ∷ zs)) n = tt

-- ---- components one after another

no_list : (A : Type 0) (cs : List ℤ) → ◌≡◌ {A = Option (List ℤ)} None (Some cs) → A
no_list A cs p = absurd (cc)

-- the values of the variables are the components from the k-th on
abbrev Scalars : List ℤ → Env → ℕ → List Var → List ℤ → Type 0
Scalars own e k [] cs = cs ≡ []
Scalars own e k (x ∷ xs) [] = ⊥
Scalars own e k (x ∷ xs) (d ∷ ds) = (k < length own) × (e x ≡ scalar Int (wrap (get_or own k (pos 0) +ℤ d))) × Scalars own e (suc k) xs ds

prefixed_ok : (d : ℤ) (o : Option (List ℤ)) (cs : List ℤ) → prefixed d o ≡ Some cs → (ds : List ℤ) × (o ≡ Some ds) × (cs ≡ d ∷ ds)
prefixed_ok d None cs p = no_list _ cs p
prefixed_ok d (Some ds) cs p = (ds, refl, sym (ap list_or p))

components : (own : List ℤ) (m : IndexFacts) (e : Env) (k : ℕ) (xs : List Var) (cs : List ℤ) → SaysAll own m e → components_from k (map m xs) ≡ Some cs → Scalars own e k xs cs
components own m e k [] cs s p = sym (ap list_or p)
components own m e k (x ∷ xs) cs s p = go (m x) (s x) (λ ds r. components own m e (suc k) xs ds s r) p
  where
    go : (f : IndexFact) → Says own f (e x) → ((ds : List ℤ) → components_from (suc k) (map m xs) ≡ Some ds → Scalars own e (suc k) xs ds) → components_from k (f ∷ map m xs) ≡ Some cs → Scalars own e k (x ∷ xs) cs
    go Other h more q = no_list _ cs q
    go (Plus c) h more q = no_list _ cs q
    go (Component j d) h more q = by (j == k) refl q
      where
        by : (t : Bool) → (j == k) ≡ t → (if t then prefixed d (components_from (suc k) (map m xs)) else None) ≡ Some cs → Scalars own e k (x ∷ xs) cs
        by false t r = no_list _ cs r
        by true t r =
            let w = prefixed_ok d (components_from (suc k) (map m xs)) cs r in
            let same : j ≡ k = eqb-true j k t in
            subst (Scalars own e k (x ∷ xs)) (sym w.2) (subst (λ i. i < length own) same h.0, subst (λ i. e x ≡ scalar Int (wrap (get_or own i (pos 0) +ℤ d))) same h.1, more w.0 w.1)

count_of : (own : List ℤ) (e : Env) (k : ℕ) (xs : List Var) (cs : List ℤ) → Scalars own e k xs cs → length xs ≡ length cs
count_of own e k [] cs h = ap length (sym h)
count_of own e k (x ∷ xs) [] h = absurd h
count_of own e k (x ∷ xs) (d ∷ ds) h = ap suc (count_of own e (suc k) xs ds h.2)

from_place : (own : List ℤ) (k : ℕ) → k < length own → drop k own ≡ get_or own k (pos 0) ∷ drop (suc k) own
from_place [] k h = absurd (omega (arith, h))
from_place (v ∷ own) zero h = refl
from_place (v ∷ own) (suc k) h = from_place own k (omega (arith, h))

wrapped_none : (vs : List ℤ) → wrapped vs [] ≡ []
wrapped_none [] = refl
wrapped_none (v ∷ vs) = refl

joined_cells : (own : List ℤ) (e : Env) (k : ℕ) (xs : List Var) (cs : List ℤ) → Scalars own e k xs cs → cells_of_all (map e xs) ≡ wrapped (drop k own) cs
joined_cells own e k [] cs h = sym (ap (wrapped (drop k own)) h ∙ wrapped_none (drop k own))
joined_cells own e k (x ∷ xs) [] h = absurd h
joined_cells own e k (x ∷ xs) (d ∷ ds) h =
    (λ i. (h.1 i).cells ++ cells_of_all (map e xs)) ∙ (λ i. wrap (get_or own k (pos 0) +ℤ d) ∷ joined_cells own e (suc k) xs ds h.2 i) ∙ sym (ap (λ vs. wrapped vs (d ∷ ds)) (from_place own k h.0))

literal_is : (a : ArrayValue) (rest : List ArrayValue) (v : ArrayValue) → literal (a ∷ rest) ≡ Ok v → v ≡ record { base = a.base; shape = length (a ∷ rest) ∷ a.shape; cells = cells_of_all (a ∷ rest) }
literal_is a rest v p =
    let q = (check_ok _ F3 _ v p).1 in
    let r = (check_ok _ F4 _ v q).1 in
    sym (ok_same _ v (check_ok _ F8 _ v r).1)

row_value : (own : List ℤ) (e : Env) (xs : List Var) (cs : List ℤ) (v : ArrayValue) → Scalars own e 0 xs cs → length cs ≡ length own → literal (map e xs) ≡ Ok v → v ≡ vector Int (wrapped own cs)
row_value own e [] cs v h l p = sym (ok_same (vector Int []) v p) ∙ sym (ap (vector Int) (ap (wrapped own) h ∙ wrapped_none own))
row_value own e (x ∷ xs) [] v h l p = absurd h
row_value own e (x ∷ xs) (d ∷ ds) v h l p =
    let cs = d ∷ ds in
    let long : suc (length (map e xs)) ≡ length (wrapped own cs) = ap suc (length-map xs e ∙ count_of own e 1 xs ds h.2) ∙ l ∙ sym (length_wrapped own cs l) in
    literal_is (e x) (map e xs) v p ∙ (λ i. record { base = (h.1 i).base; shape = long i ∷ (h.1 i).shape; cells = joined_cells own e 0 (x ∷ xs) cs h i })

row_sound : (own : List ℤ) (n : ℕ) (m : IndexFacts) (e : Env) (xs : List Var) (v : ArrayValue) → length own ≡ n → SaysAll own m e → literal (map e xs) ≡ Ok v → Says own (row_fact n (components_from 0 (map m xs))) v
row_sound own n m e xs v w s p = go (components_from 0 (map m xs)) refl
  where
    go : (o : Option (List ℤ)) → components_from 0 (map m xs) ≡ o → Says own (row_fact n o) v
    go None q = tt
    go (Some cs) q = by (length cs == n) refl
      where
        by : (t : Bool) → (length cs == n) ≡ t → Says own (if t then Plus cs else Other) v
        by false t = tt
        by true t = let l : length cs ≡ length own = eqb-true (length cs) n t ∙ sym w in (l, row_value own e xs cs v (components own m e 0 xs cs s q) l p)

-- ---- right sides

pub index_sound : (own : List ℤ) (n : ℕ) (p : PlainTerm) (k : Facts) (m : IndexFacts) (e : Env) (v : ArrayValue) → length own ≡ n → AreSound k e → SaysAll own m e → plain_value p e ≡ Ok v → Says own (index_fact n p k m) v
index_sound own n (PlainTerm.Const a) k m e v w h s p = tt
index_sound own n (PlainTerm.Copy x) k m e v w h s p = subst (Says own (m x)) (ok_same (e x) v p) (s x)
index_sound own n (PlainTerm.Unary o x) k m e v w h s p = tt
index_sound own n (PlainTerm.Binary op.Add x y) k m e v w h s p =
    either_says own (plus_literal true (m x) (k y).literal) (plus_literal true (m y) (k x).literal) v
    (plus_sound true own (m x) (k y).literal (e x) (e y) v (s x) (h y).literal (h y).full p)
    (plus_sound true own (m y) (k x).literal (e y) (e x) v (s y) (h x).literal (h x).full (add_swap (e y) (e x) ∙ p))
index_sound own n (PlainTerm.Binary op.Sub x y) k m e v w h s p = plus_sound false own (m x) (k y).literal (e x) (e y) v (s x) (h y).literal (h y).full p
index_sound own n (PlainTerm.Binary op.Mul x y) k m e v w h s p = tt
index_sound own n (PlainTerm.Binary op.Div x y) k m e v w h s p = tt
index_sound own n (PlainTerm.Binary op.Rem x y) k m e v w h s p = tt
index_sound own n (PlainTerm.Binary op.Min x y) k m e v w h s p = tt
index_sound own n (PlainTerm.Binary op.Max x y) k m e v w h s p = tt
index_sound own n (PlainTerm.Binary op.Neg x y) k m e v w h s p = tt
index_sound own n (PlainTerm.Binary op.Not x y) k m e v w h s p = tt
index_sound own n (PlainTerm.Binary op.Eq x y) k m e v w h s p = tt
index_sound own n (PlainTerm.Binary op.Ne x y) k m e v w h s p = tt
index_sound own n (PlainTerm.Binary op.Lt x y) k m e v w h s p = tt
index_sound own n (PlainTerm.Binary op.Le x y) k m e v w h s p = tt
index_sound own n (PlainTerm.Binary op.Gt x y) k m e v w h s p = tt
index_sound own n (PlainTerm.Binary op.Ge x y) k m e v w h s p = tt
index_sound own n (PlainTerm.Binary op.And x y) k m e v w h s p = tt
index_sound own n (PlainTerm.Binary op.Or x y) k m e v w h s p = tt
index_sound own n (PlainTerm.Literal xs) k m e v w h s p = row_sound own n m e xs v w s p
index_sound own n (PlainTerm.Dim x) k m e v w h s p = tt
index_sound own n (PlainTerm.ShapeOf x) k m e v w h s p = tt
index_sound own n (PlainTerm.Reshape x y) k m e v w h s p = tt
index_sound own n (PlainTerm.Select x y) k m e v w h s p = component_sound own (m x) (k y).literal (e x) (e y) v (s x) (h y).literal p
index_sound own n (PlainTerm.Replace x y z) k m e v w h s p = tt
index_sound own n (PlainTerm.Always kind) k m e v w h s p = tt
index_sound own n (PlainTerm.Check x ty) k m e v w h s p = tt

-- ---- environments

pub says_one : (own : List ℤ) (m : IndexFacts) (e : Env) (x : Var) (f : IndexFact) (v : ArrayValue) → SaysAll own m e → Says own f v → SaysAll own (note_index m x f) (bind e x v)
says_one own m e x f v s h = λ y. go y (eqb x.0 y.0)
  where
    go : (y : Var) (b : Bool) → Says own (cond b f (m y)) (cond b v (e y))
    go y true = h
    go y false = s y

pub says_others : (own : List ℤ) (m : IndexFacts) (e : Env) (xs : List Var) (vs : List ArrayValue) → SaysAll own m e → SaysAll own (note_others m xs) (bind_all e xs vs)
says_others own m e [] vs s = s
says_others own m e (x ∷ xs) [] s = says_others own (note_index m x Other) (bind e x missing) xs [] (says_one own m e x Other missing s tt)
says_others own m e (x ∷ xs) (v ∷ vs) s = says_others own (note_index m x Other) (bind e x v) xs vs (says_one own m e x Other v s tt)

module _ (calls : CallMeaning) (turns : ℕ) where
  -- what is known after a binding
  pub says_learned : (own : List ℤ) (n : ℕ) (m : IndexFacts) (k : Facts) (e : Env) (xs : List Var) (r : RightTerm) (s : Site) (vs : List ArrayValue) → length own ≡ n → AreSound k e → SaysAll own m e → right_value calls turns r s e ≡ Ok vs → SaysAll own (learn_index n m xs r k) (bind_all e xs vs)
  says_learned own n m k e [] r s vs w h q p = says_others own m e [] vs q
  says_learned own n m k e (x ∷ []) (Plain t) s vs w h q p =
      let u = plain_ok s t e vs p in
      subst (λ ws. SaysAll own (learn_index n m (x ∷ []) (Plain t) k) (bind_all e (x ∷ []) ws)) (sym u.2) (says_one own m e x (index_fact n t k m) u.0 q (index_sound own n t k m e u.0 w h q u.1))
  says_learned own n m k e (x ∷ []) (RightTerm.If c a b) s vs w h q p = says_others own m e (x ∷ []) vs q
  says_learned own n m k e (x ∷ []) (RightTerm.Loop fb start params test body u) s vs w h q p = says_others own m e (x ∷ []) vs q
  says_learned own n m k e (x ∷ []) (RightTerm.Call g ys) s vs w h q p = says_others own m e (x ∷ []) vs q
  says_learned own n m k e (x ∷ []) (RightTerm.With o g) s vs w h q p = says_others own m e (x ∷ []) vs q
  says_learned own n m k e (x ∷ []) (RightTerm.Parted f t c o ps) s vs w h q p = says_others own m e (x ∷ []) vs q
  says_learned own n m k e (x ∷ y ∷ xs) r s vs w h q p = says_others own m e (x ∷ y ∷ xs) vs q

-- ---- the index itself

pub moved_none : (v : List ℤ) → All (FitsSigned w32) v → v ≡ wrapped v (replicate (length v) (pos 0))
moved_none [] h = refl
moved_none (x ∷ v) h = λ i. sym (ap wrap (+ℤ_idr x) ∙ int_wrap_fits w32 x (All-head (FitsSigned w32) x v h)) i ∷ moved_none v (All-tail (FitsSigned w32) x v h) i

-- where the body of a part begins
pub says_own : (n : ℕ) (index : Var) (e : Env) (v : List ℤ) → length v ≡ n → All (FitsSigned w32) v → SaysAll v (own_index n index) (bind e index (vector Int v))
says_own n index e v w h =
    says_one v (λ x. Other) e index (Plus (replicate n (pos 0))) (vector Int v) (λ x. tt)
    (length-replicate n (pos 0) ∙ sym w, ap (vector Int) (moved_none v h ∙ ap (λ k. wrapped v (replicate k (pos 0))) w))
