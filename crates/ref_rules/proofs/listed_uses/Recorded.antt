-- Uses at places of a list.
use Rattle.std.proofs.Common.{◌≡◌, ℕ, zero, suc, ◌+◌, ◌-◌, ◌^◌, ◌<◌, ◌≤◌, Bool, true, false, cond, eqb, List, [], ◌∷◌, ◌++◌, length, take, drop, Some, refl, ap, ◌∙◌, sym, subst, arith, true≢false, add-one, inl, inr}
use Rattle.std.specs.Prelude.{◌||◌, ◌⊎◌, min, nat_lt, nat_eq, slice_index_or, slice_get}
use Rattle.std.specs.HashMap.{get, HashMap}
use lib.Dec.{leb-suc-suc}
use Rattle.std.proofs.lemmas.Bool.{eqb-true, eq-eqb, lt-ltb, le-ltb, ltb-false, cases_lt}
use Rattle.std.proofs.lemmas.List.{take_more, drop_all, drop_more}
use lib.Seq.{length-take-le, take_all, take-nil, drop-nil, drop-drop, drop-append_seam, get_or-append_seam}
use lib.ListN.{length-take, length-drop, length-append, get_or-append}
use Rattle.core_ir.specs.declared.tree.Var.{Var}
use Rattle.core_ir.specs.Binders.{is_in}
use Rattle.ref_rules.specs.declared.listed_uses.list.Entry.{Entry}
use Rattle.ref_rules.specs.declared.listed_uses.list.Entry.TheVariants.{Use, Section}
use Rattle.ref_rules.specs.listed_uses.Latest.{or_none, behind_of, vars_of, section, head_of, is_used, IsLast, AreLast, AreChained}

or_false : (b : Bool) → (b || false) ≡ b
or_false true = refl
or_false false = refl

or_true : (b : Bool) → (b || true) ≡ true
or_true true = refl
or_true false = refl

or_left : (a b : Bool) → a ≡ true → (a || b) ≡ true
or_left true b p = refl
or_left false b p = elim (true≢false (sym p)) [ ]

or_right : (a b : Bool) → b ≡ true → (a || b) ≡ true
or_right true b p = refl
or_right false b p = p

neither : (a b : Bool) → (a || b) ≡ false → (a ≡ false) × (b ≡ false)
neither true b p = elim (true≢false p) [ ]
neither false b p = (refl, p)

same_var : (x y : Var) → eqb x.0 y.0 ≡ true → x ≡ y
same_var x y p = λ i. record { 0 = eqb-true x.0 y.0 p i }

self : (x : Var) → eqb x.0 x.0 ≡ true
self x = eq-eqb x.0 x.0 refl

or_assoc : (a b c : Bool) → (a || (b || c)) ≡ ((a || b) || c)
or_assoc true b c = refl
or_assoc false b c = refl

pub in_append : (x : Var) (xs ys : List Var) → is_in x (xs ++ ys) ≡ (is_in x xs || is_in x ys)
in_append x [] ys = refl
in_append x (z ∷ zs) ys = ap (λ b. eqb z.0 x.0 || b) (in_append x zs ys) ∙ or_assoc (eqb z.0 x.0) (is_in x zs) (is_in x ys)

pub vars_append : (xs ys : List Entry) → vars_of (xs ++ ys) ≡ vars_of xs ++ vars_of ys
vars_append [] ys = refl
vars_append (Use x ∷ xs) ys = ap (λ vs. x ∷ vs) (vars_append xs ys)
vars_append (Section n ∷ xs) ys = vars_append xs ys

none_used : (from : ℕ) (x : Var) → is_used [] from x ≡ false
none_used from x = ap (λ l. is_in x (vars_of l)) (drop-nil from)

-- ---- one entry more

same_more : (es : List Entry) (e : Entry) (x : Var) (from : ℕ) → is_in x (vars_of (e ∷ [])) ≡ false → is_used (es ++ e ∷ []) from x ≡ is_used es from x
same_more es e x zero n = ap (is_in x) (vars_append es (e ∷ [])) ∙ in_append x (vars_of es) (vars_of (e ∷ [])) ∙ ap (λ b. is_in x (vars_of es) || b) n ∙ or_false (is_in x (vars_of es))
same_more [] e x (suc from) n = none_used from x
same_more (a ∷ es) e x (suc from) n = same_more es e x from n

here_more : (es : List Entry) (y x : Var) (from : ℕ) → eqb y.0 x.0 ≡ true → is_used (es ++ Use y ∷ []) from x ≡ nat_lt from (suc (length es))
here_more es y x zero e =
    ap (is_in x) (vars_append es (Use y ∷ [])) ∙ in_append x (vars_of es) (y ∷ []) ∙ ap (λ b. is_in x (vars_of es) || (b || false)) e ∙ or_true (is_in x (vars_of es))
    ∙ sym (lt-ltb 0 (suc (length es)) (omega arith))
here_more [] y x (suc from) e = none_used from x ∙ sym (le-ltb (suc from) 1 (omega arith))
here_more (a ∷ es) y x (suc from) e = here_more es y x from e ∙ sym (leb-suc-suc (suc from) (suc (length es)))

module _ {S : Type 0} where
  pub last_use : (m n : HashMap ℕ ℕ S) (es : List Entry) (y : Var) → AreLast m es → ((q : ℕ) → get nat_eq n q ≡ cond (nat_eq y.0 q) (Some (length es + 1)) (get nat_eq m q)) → AreLast n (es ++ Use y ∷ [])
  last_use m n es y known writes x from = go (eqb y.0 x.0) refl
    where
      go : (b : Bool) → eqb y.0 x.0 ≡ b → is_used (es ++ Use y ∷ []) from x ≡ nat_lt from (behind_of n x)
      go true e =
          here_more es y x from e ∙ ap (nat_lt from) (sym (add-one (length es)))
          ∙ ap (λ o. nat_lt from (or_none o)) (sym (writes x.0 ∙ ap (λ b. cond b (Some (length es + 1)) (get nat_eq m x.0)) e))
      go false e =
          same_more es (Use y) x from (ap (λ b. b || false) e) ∙ known x from
          ∙ ap (λ o. nat_lt from (or_none o)) (sym (writes x.0 ∙ ap (λ b. cond b (Some (length es + 1)) (get nat_eq m x.0)) e))

  pub last_head : (m : HashMap ℕ ℕ S) (es : List Entry) (k : ℕ) → AreLast m es → AreLast m (es ++ Section k ∷ [])
  last_head m es k known x from = same_more es (Section k) x from refl ∙ known x from

  -- after the entries up to a place, those up to the next
  pub use_more : (m n : HashMap ℕ ℕ S) (es : List Entry) (i : ℕ) (d : Entry) (y : Var) → AreLast m (take i es) → i < length es → slice_index_or es i d ≡ Use y → ((q : ℕ) → get nat_eq n q ≡ cond (nat_eq y.0 q) (Some (i + 1)) (get nat_eq m q)) → AreLast n (take (i + 1) es)
  use_more m n es i d y known lt here writes =
      let size = length-take-le i es (omega (arith, lt)) in
      subst (AreLast n) (sym (take_more es i d lt ∙ ap (λ e. take i es ++ e ∷ []) here))
      (last_use m n (take i es) y known (subst (λ k. (q : ℕ) → get nat_eq n q ≡ cond (nat_eq y.0 q) (Some (k + 1)) (get nat_eq m q)) (sym size) writes))

  pub head_more : (m : HashMap ℕ ℕ S) (es : List Entry) (i : ℕ) (d : Entry) (k : ℕ) → AreLast m (take i es) → i < length es → slice_index_or es i d ≡ Section k → AreLast m (take (i + 1) es)
  head_more m es i d k known lt here = subst (AreLast m) (sym (take_more es i d lt ∙ ap (λ e. take i es ++ e ∷ []) here)) (last_head m (take i es) k known)

-- ---- the uses before uses

-- those up to a place are chained
abbrev pub AreChainedTo : ℕ → List ℕ → List Entry → Type 0
AreChainedTo i earlier es = (place : ℕ) (x : Var) (rest : List Entry) → place < i → drop place es ≡ Use x ∷ rest → IsLast (take place es) x (slice_index_or earlier place 0)

abbrev first_of : Entry → List Entry → Entry
first_of d [] = d
first_of d (e ∷ es) = e

abbrev var_of : Var → Entry → Var
var_of d (Use x) = x
var_of d (Section n) = d

abbrev is_use : Entry → Bool
is_use (Use x) = true
is_use (Section n) = false

here_first : (es : List Entry) (i : ℕ) (d e : Entry) (rest : List Entry) → i < length es → drop i es ≡ e ∷ rest → slice_index_or es i d ≡ e
here_first es i d e rest lt h = ap (first_of d) (sym (drop_more es i d lt) ∙ h)

module _ {S : Type 0} where
  -- of a use that is recorded the table has the last one before it
  pub use_chained : (m : HashMap ℕ ℕ S) (es : List Entry) (i : ℕ) (d : Entry) (y : Var) (behind : ℕ) → AreLast m (take i es) → i < length es → slice_index_or es i d ≡ Use y → behind ≡ behind_of m y → (x : Var) (rest : List Entry) → drop i es ≡ Use x ∷ rest → IsLast (take i es) x behind
  use_chained m es i d y behind known lt here e x rest h =
      let same : y ≡ x = ap (var_of y) (sym here ∙ here_first es i d (Use x) rest lt h) in
      subst (IsLast (take i es) x) (sym (e ∙ ap (behind_of m) same)) (known x)

-- a head is no use
pub head_chained : (es : List Entry) (i : ℕ) (d : Entry) (k behind : ℕ) → i < length es → slice_index_or es i d ≡ Section k → (x : Var) (rest : List Entry) → drop i es ≡ Use x ∷ rest → IsLast (take i es) x behind
head_chained es i d k behind lt here x rest h = elim (true≢false (sym (ap is_use (sym here ∙ here_first es i d (Use x) rest lt h)))) [ ]

pub chained_more : (earlier next : List ℕ) (es : List Entry) (i behind : ℕ) → next ≡ earlier ++ behind ∷ [] → length earlier ≡ i → ((x : Var) (rest : List Entry) → drop i es ≡ Use x ∷ rest → IsLast (take i es) x behind) → AreChainedTo i earlier es → AreChainedTo (i + 1) next es
chained_more earlier next es i behind e size last chained place x rest lt h = go (cases_lt place i)
  where
    go : (place < i) ⊎ (i ≤ place) → IsLast (take place es) x (slice_index_or next place 0)
    go (inl p) =
        subst (IsLast (take place es) x) (sym (ap (λ l. slice_index_or l place 0) e ∙ get_or-append earlier (behind ∷ []) 0 place (omega (arith, p, size)))) (chained place x rest p h)
    go (inr p) =
        let same : place ≡ length earlier = omega (arith, p, lt, size) in
        let at : i ≡ place = omega (arith, p, lt) in
        subst (IsLast (take place es) x) (sym (ap (λ l. slice_index_or l place 0) e ∙ ap (λ n. slice_index_or (earlier ++ behind ∷ []) n 0) same ∙ get_or-append_seam earlier behind [] 0))
        (subst (λ n. IsLast (take n es) x behind) at (last x rest (ap (λ n. drop n es) at ∙ h)))

pub one_longer : (earlier next : List ℕ) (i behind : ℕ) → next ≡ earlier ++ behind ∷ [] → length earlier ≡ i → length next ≡ i + 1
one_longer earlier next i behind e size = ap length e ∙ length-append earlier (behind ∷ []) ∙ ap (λ n. n + 1) size

pub all_chained : (earlier : List ℕ) (es : List Entry) (i : ℕ) → length es ≤ i → AreChainedTo i earlier es → AreChained earlier es
all_chained earlier es i over chained place x rest h =
    let size = sym (length-drop place es) ∙ ap length h in
    chained place x rest (omega (arith, size, over)) h

-- ---- the last use before a place

pub found : (es : List Entry) (k : ℕ) (x : Var) (m : ℕ) → is_used (take k es) m x ≡ true → is_used (take k es) (suc m) x ≡ false → (m < k) × (rest : List Entry) × (drop m es ≡ Use x ∷ rest)
found [] k x m is then_not = elim (true≢false (sym is ∙ ap (λ l. is_used l m x) (take-nil k) ∙ none_used m x)) [ ]
found (e ∷ es) zero x m is then_not = elim (true≢false (sym is ∙ none_used m x)) [ ]
found (Use y ∷ es) (suc k) x zero is then_not = (omega arith, es, ap (λ v. Use v ∷ es) (same_var y x (sym (or_false (eqb y.0 x.0)) ∙ ap (λ b. eqb y.0 x.0 || b) (sym then_not) ∙ is)))
found (Section n ∷ es) (suc k) x zero is then_not = elim (true≢false (sym is ∙ then_not)) [ ]
found (e ∷ es) (suc k) x (suc m) is then_not =
    let r = found es k x m is then_not in
    let lt = r.0 in
    (omega (arith, lt), r.1, r.2)

used_behind : (e : Entry) (es : List Entry) (x : Var) → is_in x (vars_of es) ≡ true → is_in x (vars_of (e ∷ es)) ≡ true
used_behind (Use y) es x p = or_right (eqb y.0 x.0) (is_in x (vars_of es)) p
used_behind (Section n) es x p = p

there : (es : List Entry) (from m end : ℕ) (x : Var) (rest : List Entry) → from ≤ m → m < end → drop m es ≡ Use x ∷ rest → is_used (take end es) from x ≡ true
there [] from m end x rest le lt h = elim (no (ap length (sym (drop-nil m) ∙ h))) [ ]
  where
    no : 0 ≡ suc (length rest) → ⊥
    no p = omega (arith, p)
there (e ∷ es) from m zero x rest le lt h = elim (no lt) [ ]
  where
    no : m < 0 → ⊥
    no p = omega (arith, p)
there (e ∷ es) zero zero (suc end) x rest le lt h = ap (λ a. is_in x (vars_of (a ∷ take end es))) (ap (first_of e) h) ∙ or_left (eqb x.0 x.0) (is_in x (vars_of (take end es))) (self x)
there (e ∷ es) zero (suc m) (suc end) x rest le lt h = used_behind e (take end es) x (there es zero m end x rest (omega arith) (omega (arith, lt)) h)
there (e ∷ es) (suc from) zero (suc end) x rest le lt h = elim (no le) [ ]
  where
    no : suc from ≤ 0 → ⊥
    no p = omega (arith, p)
there (e ∷ es) (suc from) (suc m) (suc end) x rest le lt h = there es from m end x rest (omega (arith, le)) (omega (arith, lt)) h

unused_behind : (e : Entry) (es later : List Entry) (x : Var) → is_in x (vars_of (e ∷ later)) ≡ false → (is_in x (vars_of later) ≡ false → is_in x (vars_of es) ≡ false) → is_in x (vars_of (e ∷ es)) ≡ false
unused_behind (Use y) es later x p q =
    let both = neither (eqb y.0 x.0) (is_in x (vars_of later)) p in
    ap (λ b. b || is_in x (vars_of es)) both.0 ∙ q both.1
unused_behind (Section n) es later x p q = q p

fewer : (es : List Entry) (end k from : ℕ) (x : Var) → end ≤ k → is_used (take k es) from x ≡ false → is_used (take end es) from x ≡ false
fewer [] end k from x le none = ap (λ l. is_used l from x) (take-nil end) ∙ none_used from x
fewer (e ∷ es) zero k from x le none = none_used from x
fewer (e ∷ es) (suc end) zero from x le none = elim (no le) [ ]
  where
    no : suc end ≤ 0 → ⊥
    no p = omega (arith, p)
fewer (e ∷ es) (suc end) (suc k) zero x le none = unused_behind e (take end es) (take k es) x none (fewer es end k zero x (omega (arith, le)))
fewer (e ∷ es) (suc end) (suc k) (suc from) x le none = fewer es end k from x (omega (arith, le)) none

-- at the place before the one behind the last use the variable is used
use_at : (es : List Entry) (k : ℕ) (x : Var) (m n : ℕ) → IsLast (take k es) x n → n ≡ suc m → (m < k) × (rest : List Entry) × (drop m es ≡ Use x ∷ rest)
use_at es k x m n known e = found es k x m (known m ∙ lt-ltb m n (omega (arith, e))) (known (suc m) ∙ le-ltb (suc m) n (omega (arith, e)))

pub last_within : (es : List Entry) (k end : ℕ) (x : Var) (n : ℕ) → IsLast (take k es) x n → n ≤ end → end ≤ k → IsLast (take end es) x n
last_within es k end x n known le within from = go (cases_lt from n)
  where
    go : (from < n) ⊎ (n ≤ from) → is_used (take end es) from x ≡ nat_lt from n
    go (inl p) =
        let is_at = use_at es k x (n - 1) n known (omega (arith, p)) in
        there es from (n - 1) end x is_at.1 (omega (arith, p)) (omega (arith, p, le)) is_at.2 ∙ sym (lt-ltb from n p)
    go (inr p) = fewer es end k from x within (known from ∙ le-ltb from n p) ∙ sym (le-ltb from n p)

-- one use back
abbrev pub IsLastFrom : List Entry → Var → (end behind : ℕ) → Type 0
IsLastFrom es x end behind = (k : ℕ) × (end ≤ k) × IsLast (take k es) x behind

-- before the first step the list is taken whole
pub all_taken : (es : List Entry) (x : Var) (end behind : ℕ) → IsLast es x behind → IsLastFrom es x end behind
all_taken es x end behind known = (end + length es, omega arith, subst (λ l. IsLast l x behind) (sym (take_all (end + length es) es (omega arith))) known)

-- behind the last step the place is not behind the end
pub last_found : (es : List Entry) (x : Var) (end behind : ℕ) → IsLastFrom es x end behind → behind ≤ end → IsLast (take end es) x behind
last_found es x end behind was le = last_within es was.0 end x behind was.2 le was.1

pub last_below : (es : List Entry) (x : Var) (m n : ℕ) → IsLast (take m es) x n → n ≤ m
last_below es x m n known =
    let size = length-take m es in
    ltb-false m n (sym (known m) ∙ ap (λ l. is_in x (vars_of l)) (drop_all m (take m es) (omega (arith, size))))

pub one_back : (earlier : List ℕ) (es : List Entry) (x : Var) (end behind m : ℕ) → AreChained earlier es → IsLastFrom es x end behind → behind ≡ suc m → end ≤ m → IsLastFrom es x end (slice_index_or earlier m 0)
one_back earlier es x end behind m chained was e within =
    let is_at = use_at es was.0 x m behind was.2 e in
    (m, within, chained m x is_at.1 is_at.2)

pub goes_down : (earlier : List ℕ) (es : List Entry) (x : Var) (end behind m : ℕ) → AreChained earlier es → IsLastFrom es x end behind → behind ≡ suc m → slice_index_or earlier m 0 < behind
goes_down earlier es x end behind m chained was e =
    let is_at = use_at es was.0 x m behind was.2 e in
    let below = last_below es x m (slice_index_or earlier m 0) (chained m x is_at.1 is_at.2) in
    omega (arith, below, e)

-- ---- sections

pub skipped : (es : List Entry) (place count end : ℕ) (inner later : List Entry) → end ≡ min (place + count) (2 ^ 64 - 1) → length es < 2 ^ 64 → place < 2 ^ 64 → count ≡ length inner → drop place es ≡ inner ++ later → (end ≡ place + length inner) × (drop end es ≡ later)
skipped es place count end inner later e small fits size h =
    let all = sym (length-drop place es) ∙ ap length h ∙ length-append inner later in
    let at : end ≡ place + length inner = omega (arith, e, small, fits, size, all) in
    (at, ap (λ n. drop n es) at ∙ sym (drop-drop (length inner) place es) ∙ ap (drop (length inner)) h ∙ drop-append_seam inner later)

here_is : (es : List Entry) (place : ℕ) (e : Entry) (rest : List Entry) → drop place es ≡ e ∷ rest → slice_get es place ≡ Some e
here_is [] place e rest h = elim (no (ap length (sym (drop-nil place) ∙ h))) [ ]
  where
    no : 0 ≡ suc (length rest) → ⊥
    no p = omega (arith, p)
here_is (a ∷ es) zero e rest h = ap (λ l. Some (first_of a l)) h
here_is (a ∷ es) (suc place) e rest h = here_is es place e rest h

pub section_counted : (es : List Entry) (place at count : ℕ) (inner later : List Entry) → at ≡ head_of (slice_get es place) → count ≡ min (at + 1) (2 ^ 64 - 1) → length es < 2 ^ 64 → drop place es ≡ section inner ++ later → count ≡ length (section inner)
section_counted es place at count inner later head e small h =
    let is = head ∙ ap head_of (here_is es place (Section (length inner)) (inner ++ later) h) in
    let all = sym (length-drop place es) ∙ ap length h ∙ length-append (section inner) later in
    omega (arith, is, e, small, all)
