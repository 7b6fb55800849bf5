-- Trees of variables, and those that are taken out of them.
use Rattle.std.proofs.Common.{◌≡◌, ℕ, ◌<◌, ◌≤◌, Bool, true, false, cond, eqb, not, List, [], ◌∷◌, ◌++◌, refl, ap, ◌∙◌, sym, subst, arith, true≢false, inl, inr}
use Rattle.std.specs.Prelude.{◌&&◌, ◌⊎◌, filter, min, Result, Ok, Err, IfOk}
use Rattle.std.proofs.lemmas.Bool.{lt-ltb, le-ltb}
use Rattle.std.proofs.lemmas.List.Elements.{filter-append}
use Rattle.core_ir.specs.declared.tree.Var.{Var}
use Rattle.core_ir.specs.Binders.{is_in}
use Rattle.counted_laws.proofs.placing.Lists.{same_var, self, or_left, or_right, or_either, append_assoc}
use Rattle.core_ir.specs.Terms.{RightTerm}
use Rattle.ref_rules.specs.declared.listed_uses.list.Entry.{Entry}
use Rattle.ref_rules.specs.listed_uses.Latest.{is_used, IsLast}
use Rattle.ref_rules.proofs.listed_uses.Recorded.{in_append}
use Rattle.ref_counts.specs.declared.held.Owned.{Owned, Gone, One}
use Rattle.ref_counts.specs.Endings.{ends_some, ends_in, read_place}
use Rattle.ref_counts.specs.Owning.{owned_vars, IsBound, IsSound, ends, EndsOf}

append_nil : (xs : List Var) → xs ++ [] ≡ xs
append_nil [] = refl
append_nil (x ∷ xs) = ap (λ ys. x ∷ ys) (append_nil xs)

-- ---- filters that nothing passes

-- a test that fails at each of the variables
abbrev Fails : (Var → Bool) → List Var → Type 0
Fails e xs = (x : Var) → is_in x xs ≡ true → e x ≡ false

fails_rest : (e : Var → Bool) (x : Var) (xs : List Var) → Fails e (x ∷ xs) → Fails e xs
fails_rest e x xs h y i = h y (or_right (eqb x.0 y.0) (is_in y xs) i)

fails_first : (e : Var → Bool) (x : Var) (xs : List Var) → Fails e (x ∷ xs) → e x ≡ false
fails_first e x xs h = h x (or_left (eqb x.0 x.0) (is_in x xs) (self x))

filter_none : (e : Var → Bool) (xs : List Var) → Fails e xs → filter e xs ≡ []
filter_none e [] h = refl
filter_none e (x ∷ xs) h = ap (λ b. cond b (x ∷ filter e xs) (filter e xs)) (fails_first e x xs h) ∙ filter_none e xs (fails_rest e x xs h)

filter_whole : (e : Var → Bool) (xs : List Var) → Fails e xs → filter (λ x. not (e x)) xs ≡ xs
filter_whole e [] h = refl
filter_whole e (x ∷ xs) h = ap (λ b. cond (not b) (x ∷ filter (λ x. not (e x)) xs) (filter (λ x. not (e x)) xs)) (fails_first e x xs h) ∙ ap (λ ys. x ∷ ys) (filter_whole e xs (fails_rest e x xs h))

-- ---- places before which variables are used

pub bound_none : (es : List Entry) (n : ℕ) → IsBound es [] n
bound_none es n x from i lt = elim (true≢false (sym i)) [ ]

pub bound_one : (es : List Entry) (x : Var) (n : ℕ) → IsLast es x n → IsBound es (x ∷ []) n
bound_one es x n known y from i lt = ap (is_used es from) (sym (that_one (or_either (eqb x.0 y.0) false i))) ∙ known from ∙ lt-ltb from n lt
  where
    that_one : (eqb x.0 y.0 ≡ true) ⊎ (false ≡ true) → x ≡ y
    that_one (inl p) = same_var x y p
    that_one (inr p) = elim (true≢false (sym p)) [ ]

pub bound_both : (es : List Entry) (xs ys : List Var) (m n k : ℕ) → IsBound es xs m → IsBound es ys n → k ≡ min m n → IsBound es (xs ++ ys) k
bound_both es xs ys m n k a b e x from i lt = go (or_either (is_in x xs) (is_in x ys) (sym (in_append x xs ys) ∙ i))
  where
    go : (is_in x xs ≡ true) ⊎ (is_in x ys ≡ true) → is_used es from x ≡ true
    go (inl p) = a x from p (omega (arith, lt, e))
    go (inr p) = b x from p (omega (arith, lt, e))

-- ---- what is taken out

-- a leaf that was taken out before
pub gone_ends : (es : List Entry) (e : Var → Bool) (tree : Owned) (out : List Var) → tree ≡ Gone → EndsOf es e tree Gone out out
gone_ends es e tree out is = subst (λ a. EndsOf es e a Gone out out) (sym is) (record { taken = sym (append_nil out); left = refl; sound = tt })

pub one_ends : (es : List Entry) (from : ℕ) (tree : Owned) (x : Var) (behind : ℕ) (out after : List Var) → tree ≡ One x behind → behind ≤ from → after ≡ out ++ (x ∷ []) → IsSound es tree → EndsOf es (ends es from) tree Gone out after
one_ends es from tree x behind out after is le q sound =
    let ended : ends es from x ≡ true = ap not (subst (IsSound es) is sound from ∙ le-ltb from behind le) in
    subst (λ a. EndsOf es (ends es from) a Gone out after) (sym is) (record {
      taken = q ∙ ap (λ b. out ++ cond b (x ∷ []) []) (sym ended);
      left = ap (λ b. cond (not b) (x ∷ []) []) (sym ended);
      sound = tt;
    })

pub one_stays : (es : List Entry) (from : ℕ) (tree : Owned) (x : Var) (behind : ℕ) (out : List Var) → tree ≡ One x behind → from < behind → IsSound es tree → EndsOf es (ends es from) tree (One x behind) out out
one_stays es from tree x behind out is lt sound =
    let known = subst (IsSound es) is sound in
    let stays : ends es from x ≡ false = ap not (known from ∙ lt-ltb from behind lt) in
    subst (λ a. EndsOf es (ends es from) a (One x behind) out out) (sym is) (record {
      taken = sym (append_nil out) ∙ ap (λ b. out ++ cond b (x ∷ []) []) (sym stays);
      left = ap (λ b. cond (not b) (x ∷ []) []) (sym stays);
      sound = known;
    })

pub all_stay : (es : List Entry) (from : ℕ) (tree : Owned) (n : ℕ) (out : List Var) → IsSound es tree → IsBound es (owned_vars tree) n → from < n → EndsOf es (ends es from) tree tree out out
all_stay es from tree n out sound bound lt =
    let fails : Fails (ends es from) (owned_vars tree) = λ x i. ap not (bound x from i lt) in
    record {
      taken = sym (append_nil out) ∙ ap (λ xs. out ++ xs) (sym (filter_none (ends es from) (owned_vars tree) fails));
      left = sym (filter_whole (ends es from) (owned_vars tree) fails);
      sound = sound;
    }

pub both_end : (es : List Entry) (e : Var → Bool) (tree a b c d t : Owned) (o1 o2 o3 : List Var) → owned_vars tree ≡ owned_vars a ++ owned_vars b → EndsOf es e a c o1 o2 → EndsOf es e b d o2 o3 → owned_vars t ≡ owned_vars c ++ owned_vars d → (IsSound es c → IsSound es d → IsSound es t) → EndsOf es e tree t o1 o3
both_end es e tree a b c d t o1 o2 o3 whole first second joined sound = record {
  taken = second.taken ∙ ap (λ xs. xs ++ filter e (owned_vars b)) first.taken ∙ sym (append_assoc o1 (filter e (owned_vars a)) (filter e (owned_vars b))) ∙ ap (λ xs. o1 ++ xs) (sym (filter-append e (owned_vars a) (owned_vars b))) ∙ ap (λ xs. o1 ++ filter e xs) (sym whole);
  left = joined ∙ (λ i. first.left i ++ second.left i) ∙ sym (filter-append (λ x. not (e x)) (owned_vars a) (owned_vars b)) ∙ ap (filter (λ x. not (e x))) (sym whole);
  sound = sound first.sound second.sound;
}

-- where the last call may give up
pub forked_ends : {E : Type 0} (r : Result Owned E) (es : List Entry) (from : ℕ) (tree a b c d : Owned) (o1 o2 o3 : List Var) → owned_vars tree ≡ owned_vars a ++ owned_vars b → EndsOf es (ends es from) a c o1 o2 → EndsOf es (ends es from) b d o2 o3 →
    IfOk r (λ t. owned_vars t ≡ owned_vars c ++ owned_vars d) → (IsSound es c → IsSound es d → IfOk r (λ t. IsSound es t)) → IfOk r (λ t. EndsOf es (ends es from) tree t o1 o3)
forked_ends (Ok t) es from tree a b c d o1 o2 o3 whole first second joined sound = both_end es (ends es from) tree a b c d t o1 o2 o3 whole first second joined sound
forked_ends (Err why) es from tree a b c d o1 o2 o3 whole first second joined sound = joined

-- where each variable is used once more, nothing is taken out
pub pruned : (es : List Entry) (from : ℕ) (tree rest : Owned) (n : ℕ) (out : List Var) → tree ≡ rest → (IsSound es rest → IsBound es (owned_vars rest) n) → from < n → IsSound es tree → EndsOf es (ends es from) tree rest out out
pruned es from tree rest n out e bound lt sound =
    let s = subst (IsSound es) e sound in
    subst (λ a. EndsOf es (ends es from) a rest out out) (sym e) (all_stay es from rest n out s (bound s) lt)

pub fork_sound : (es : List Entry) (a b first second : Owned) (m n k : ℕ) → first ≡ a → second ≡ b → (IsSound es a → IsBound es (owned_vars a) m) → (IsSound es b → IsBound es (owned_vars b) n) → k ≡ min m n → IsSound es a → IsSound es b →
    IsBound es (owned_vars first ++ owned_vars second) k × IsSound es first × IsSound es second
fork_sound es a b first second m n k p q bound_a bound_b e sound_a sound_b = (
  subst (λ xs. IsBound es xs k) (λ i. owned_vars (sym p i) ++ owned_vars (sym q i)) (bound_both es (owned_vars a) (owned_vars b) m n k (bound_a sound_a) (bound_b sound_b) e),
  subst (IsSound es) (sym p) sound_a,
  subst (IsSound es) (sym q) sound_b,
)

-- ---- in a right side

-- nothing ends in one that neither hands on nor branches
pub none_given : (es : List Entry) (r : RightTerm) (from to : ℕ) (tree : Owned) (out : List Var) → ends_some r ≡ false → IsSound es tree → EndsOf es (ends_in es r from to) tree tree out out
none_given es r from to tree out none sound =
    let fails : Fails (ends_in es r from to) (owned_vars tree) = λ x i. ap (λ b. b && ends es (read_place r from to) x) none in
    record {
      taken = sym (append_nil out) ∙ ap (λ xs. out ++ xs) (sym (filter_none (ends_in es r from to) (owned_vars tree) fails));
      left = sym (filter_whole (ends_in es r from to) (owned_vars tree) fails);
      sound = sound;
    }

-- and in any other what is not used from its reading on
pub some_given : {E : Type 0} (answer : Result Owned E) (es : List Entry) (r : RightTerm) (from to read : ℕ) (tree : Owned) (out after : List Var) → ends_some r ≡ true → read ≡ read_place r from to →
    (IsSound es tree → IfOk answer (λ t. EndsOf es (ends es read) tree t out after)) → IsSound es tree → IfOk answer (λ t. EndsOf es (ends_in es r from to) tree t out after)
some_given (Ok t) es r from to read tree out after some at ended sound =
    subst (λ b. EndsOf es (λ x. b && ends es (read_place r from to) x) tree t out after) (sym some) (subst (λ n. EndsOf es (ends es n) tree t out after) at (ended sound))
some_given (Err why) es r from to read tree out after some at ended sound = ended sound
