-- What the components of a generator hold.
use Rattle.std.proofs.Common.{◌≡◌, ℕ, zero, suc, ◌+◌, ◌-◌, ◌%◌, ◌/◌, ◌<◌, ◌≤◌, List, [], ◌∷◌, ◌++◌, length, get_or, drop, map, Bool, true, false, ltb, leb, T, refl, sym, ap, ◌∙◌, subst, arith, ℤ, pos, negsuc, ◌+ℤ◌, ◌-ℤ◌, ◌<ℤ◌, ◌≤ℤ◌, Decides, inl, inr, ◌⊎◌, ◌^◌, All, true≢false, to_z, of_z, w32, w64, FitsSigned, append_assoc}
use Rattle.std.specs.Prelude.{int_le, int_lt, not, ◌&&◌, ◌||◌, filter, flat_map, cond}
use Rattle.std.specs.Int.{int_rem_euclid}
use Rattle.std.specs.List.{list_all}
use Rattle.std.proofs.lemmas.Int.{ints, by_lt_z, to_z-of_z}
use Rattle.std.specs.Int.Signed.{lt_z_yes}
use Rattle.std.proofs.lemmas.List.{drop_more}
use Rattle.std.proofs.lemmas.List.Elements.{All-head, All-tail}
use lib.IntN.{nat_abs}
use Rattle.std.proofs.lemmas.Bool.{cases_lt}
use Rattle.std.proofs.lemmas.Bool.Decides.{nat_tests, same_from_decides, Decides-ltb, Decides-and, Decides-like}
use Rattle.std.proofs.Math.Nat.{mul-le-mul_left}
use Rattle.sac_base.specs.WithLoops.{Axis, Range, holds, holds_at, span_of, numbers_from, axes, box, members, lies_in, is_empty_box, distance}
use Rattle.array_with_loops.specs.Ranges.{IsAxis, IsBound, IsStep, is_empty_axis, axis_within, axes_within}

pub holds_length : (r : Range) (v : List ℤ) → (length v ≡ length r → ⊥) → holds r v ≡ false
holds_length [] [] h = absurd (h refl)
holds_length [] (v ∷ vs) h = refl
holds_length (a ∷ rest) [] h = refl
holds_length (a ∷ rest) (v ∷ vs) h = by (holds_at a v) (holds_length rest vs (λ e. h (ap suc e)))
  where
    by : (b : Bool) → holds rest vs ≡ false → (b && holds rest vs) ≡ false
    by true e = e
    by false e = refl

pub last_is_greatest : (extent step width : ℕ) → 1 ≤ extent → 1 ≤ step → 1 ≤ width → width ≤ (extent - 1) % step → (n : ℕ) → n < extent → n % step < width → n ≤ extent - 1 - (extent - 1) % step + (width - 1)
last_is_greatest extent step width e s w over n h k =
    elim (cases_lt ((extent - 1) / step) (n / step)) [
      | inl lt ↦ absurd (omega (arith, mul-le-mul_left {m = (extent - 1) / step + 1} {n = n / step} step (omega arith)))
      | inr le ↦ omega (arith, mul-le-mul_left {m = n / step} {n = (extent - 1) / step} step le)
    ]

-- ---- tests of whole numbers

is_true_of : (b : Bool) → T b → b ≡ true
is_true_of true t = refl
is_true_of false t = absurd t

pub le_true : (a b : ℤ) → a ≤ℤ b → int_le a b ≡ true
le_true a b h = is_true_of (int_le a b) h.le

pub lt_true : (a b : ℤ) → a <ℤ b → int_lt a b ≡ true
lt_true a b h = is_true_of (int_lt a b) h.lt

-- ---- all numbers of a span

pub numbers_all : (p : ℤ → Bool) (z : ℤ) (m : ℕ) → Decides (list_all p (numbers_from z m)) ((k : ℕ) → k < m → p (z +ℤ pos k) ≡ true)
numbers_all p z zero = (λ _. λ k h. absurd (omega arith), λ _. refl)
numbers_all p z (suc m) =
    Decides-like (p z && list_all p (numbers_from (z +ℤ pos 1) m)) forward backward
    (Decides-and (p z) (list_all p (numbers_from (z +ℤ pos 1) m)) (λ e. e, λ e. e) (numbers_all p (z +ℤ pos 1) m))
  where
    at : (k : ℕ) → (z +ℤ pos 1) +ℤ pos k ≡ z +ℤ pos (suc k)
    at k = omega (arith, ints)

    first : z +ℤ pos 0 ≡ z
    first = omega (arith, ints)

    forward : (p z ≡ true) × ((k : ℕ) → k < m → p ((z +ℤ pos 1) +ℤ pos k) ≡ true) → (k : ℕ) → k < suc m → p (z +ℤ pos k) ≡ true
    forward h zero lt = ap p first ∙ h.0
    forward h (suc k) lt = ap p (sym (at k)) ∙ h.1 k (omega arith)

    backward : ((k : ℕ) → k < suc m → p (z +ℤ pos k) ≡ true) → (p z ≡ true) × ((k : ℕ) → k < m → p ((z +ℤ pos 1) +ℤ pos k) ≡ true)
    backward h = (ap p (sym first) ∙ h 0 (omega arith), λ k lt. ap p (at k) ∙ h (suc k) (omega arith))

-- ---- one component

abbrev axis : ℤ → ℤ → ℕ → ℕ → Axis
axis l u s w = record { lower = l; upper = u; step = pos s; width = pos w }

-- what is held, by its place above the lower bound
pub held : (l u : ℤ) (s w m k : ℕ) → distance (u -ℤ l) ≡ m → k < m → holds_at (axis l u s w) (l +ℤ pos k) ≡ ltb (k % s) w
held l u s w m k e h =
    ap (λ b. b && int_lt (l +ℤ pos k) u && int_lt (int_rem_euclid ((l +ℤ pos k) -ℤ l) (pos s)) (pos w)) (le_true l (l +ℤ pos k) (omega (arith, ints)))
    ∙ ap (λ b. b && int_lt (int_rem_euclid ((l +ℤ pos k) -ℤ l) (pos s)) (pos w)) (lt_true (l +ℤ pos k) u (below (u -ℤ l) refl))
    ∙ ap (λ z. int_lt (int_rem_euclid z (pos s)) (pos w)) back
  where
    back : (l +ℤ pos k) -ℤ l ≡ pos k
    back = omega (arith, ints)

    below : (d : ℤ) → u -ℤ l ≡ d → (l +ℤ pos k) <ℤ u
    below (pos n) f = let same : n ≡ m = ap distance (sym f) ∙ e in omega (arith, ints)
    below (negsuc n) f = let same : 0 ≡ m = ap distance (sym f) ∙ e in absurd (omega arith)

abbrev lies : ℕ → ℤ → Bool
lies n v = int_le (pos 0) v && int_lt v (pos n)

module _ (l n : ℕ) (u : ℤ) (s w m : ℕ) (e : distance (u -ℤ pos l) ≡ m) where
  inside : (k : ℕ) → k < m → (not (holds_at (axis (pos l) u s w) (pos l +ℤ pos k)) || lies n (pos l +ℤ pos k)) ≡ (not (ltb (k % s) w) || ltb (l + k) n)
  inside k h = let z : leb 0 (l + k) ≡ true = grind (arith, nat_tests) in ap (λ b. not b || lies n (pos l +ℤ pos k)) (held (pos l) u s w m k e h) ∙ ap (λ b. not (ltb (k % s) w) || (b && ltb (l + k) n)) z

  forward : ((k : ℕ) → k < m → (not (holds_at (axis (pos l) u s w) (pos l +ℤ pos k)) || lies n (pos l +ℤ pos k)) ≡ true) → (k : ℕ) → k < m → k % s < w → l + k < n
  forward h k lt held' = let t : (not (ltb (k % s) w) || ltb (l + k) n) ≡ true = sym (inside k lt) ∙ h k lt in grind (arith, nat_tests)

  backward : ((k : ℕ) → k < m → k % s < w → l + k < n) → (k : ℕ) → k < m → (not (holds_at (axis (pos l) u s w) (pos l +ℤ pos k)) || lies n (pos l +ℤ pos k)) ≡ true
  backward h k lt = inside k lt ∙ by (cases_lt (k % s) w)
    where
      by : (k % s < w) ⊎ (w ≤ k % s) → (not (ltb (k % s) w) || ltb (l + k) n) ≡ true
      by (inl held') = let below = h k lt held' in grind (arith, nat_tests)
      by (inr over) = grind (arith, nat_tests)

  pub within_by_last : (last : ℕ) → last < m → last % s < w → ((k : ℕ) → k < m → k % s < w → k ≤ last) → axis_within n (axis (pos l) u s w) ≡ ltb (l + last) n
  within_by_last last lt held' greatest =
      same_from_decides _ _
      (Decides-like (list_all (λ v. not (holds_at (axis (pos l) u s w) v) || lies n v) (numbers_from (pos l) (distance (u -ℤ pos l)))) (λ (h : (k : ℕ) → k < m → k % s < w → l + k < n). h last lt held') (λ (h : l + last < n). λ k a b. omega (arith, greatest k a b))
      (Decides-like _ forward backward (subst (λ d. Decides (list_all (λ v. not (holds_at (axis (pos l) u s w) v) || lies n v) (numbers_from (pos l) (distance (u -ℤ pos l)))) ((k : ℕ) → k < d → (not (holds_at (axis (pos l) u s w) (pos l +ℤ pos k)) || lies n (pos l +ℤ pos k)) ≡ true)) e (numbers_all (λ v. not (holds_at (axis (pos l) u s w) v) || lies n v) (pos l) (distance (u -ℤ pos l))))))
      (Decides-ltb (l + last) n)

-- a component with a negative lower bound holds it
pub below_zero : (l n : ℕ) (u : ℤ) (s w m : ℕ) → distance (u -ℤ negsuc l) ≡ suc m → 1 ≤ s → 1 ≤ w → axis_within n (axis (negsuc l) u s w) ≡ false
below_zero l n u s w m e hs hw =
    let first : negsuc l +ℤ pos 0 ≡ negsuc l = omega (arith, ints) in
    let rem : 0 % s ≡ 0 = omega arith in
    let low : ltb (0 % s) w ≡ true = grind (arith, nat_tests) in
    let here : holds_at (axis (negsuc l) u s w) (negsuc l) ≡ true = ap (holds_at (axis (negsuc l) u s w)) (sym first) ∙ held (negsuc l) u s w (suc m) 0 e (omega arith) ∙ low in
    ap (λ d. list_all (λ v. not (holds_at (axis (negsuc l) u s w) v) || lies n v) (numbers_from (negsuc l) d)) e
    ∙ ap (λ b. (not b || false) && list_all (λ v. not (holds_at (axis (negsuc l) u s w) v) || lies n v) (numbers_from (negsuc l +ℤ pos 1) m)) here

-- ---- all members

module _ {B : Type 0} (P Q : B → Bool) where
  all_cons : (x : B) (xs : List B) → list_all P (filter Q (x ∷ xs)) ≡ ((not (Q x) || P x) && list_all P (filter Q xs))
  all_cons x xs = by (Q x)
    where
      by : (q : Bool) → list_all P (cond q (x ∷ filter Q xs) (filter Q xs)) ≡ ((not q || P x) && list_all P (filter Q xs))
      by true = refl
      by false = refl

  all_append : (xs ys : List B) → list_all P (filter Q (xs ++ ys)) ≡ (list_all P (filter Q xs) && list_all P (filter Q ys))
  all_append [] ys = refl
  all_append (x ∷ xs) ys =
      all_cons x (xs ++ ys) ∙ ap (λ b. (not (Q x) || P x) && b) (all_append xs ys)
      ∙ sym (and_assoc (not (Q x) || P x) (list_all P (filter Q xs)) (list_all P (filter Q ys)))
      ∙ ap (λ b. b && list_all P (filter Q ys)) (sym (all_cons x xs))
    where
      and_assoc : (a b c : Bool) → ((a && b) && c) ≡ (a && (b && c))
      and_assoc true b c = refl
      and_assoc false b c = refl

  pub all_flat : {A : Type 0} (f : A → List B) (xs : List A) → list_all P (filter Q (flat_map f xs)) ≡ list_all (λ x. list_all P (filter Q (f x))) xs
  all_flat f [] = refl
  all_flat f (x ∷ xs) = all_append (f x) (flat_map f xs) ∙ ap (λ b. list_all P (filter Q (f x)) && b) (all_flat f xs)

abbrev none : {A : Type 0} → List A → Bool
none [] = true
none (x ∷ xs) = false

-- the members of a component's number followed by those of the rest
module _ (a : Axis) (rest : Range) (n : ℕ) (ns : List ℕ) (v : ℤ) where
  of_held : holds_at a v ≡ true → (vs : List (List ℤ)) → filter (holds (a ∷ rest)) (map (λ w. v ∷ w) vs) ≡ map (λ w. v ∷ w) (filter (holds rest) vs)
  of_held h [] = refl
  of_held h (w ∷ vs) =
      ap (λ b. cond (b && holds rest w) ((v ∷ w) ∷ filter (holds (a ∷ rest)) (map (λ w. v ∷ w) vs)) (filter (holds (a ∷ rest)) (map (λ w. v ∷ w) vs))) h
      ∙ ap (λ ws. cond (holds rest w) ((v ∷ w) ∷ ws) ws) (of_held h vs)
      ∙ by (holds rest w)
    where
      by : (b : Bool) → cond b ((v ∷ w) ∷ map (λ w. v ∷ w) (filter (holds rest) vs)) (map (λ w. v ∷ w) (filter (holds rest) vs)) ≡ map (λ w. v ∷ w) (cond b (w ∷ filter (holds rest) vs) (filter (holds rest) vs))
      by true = refl
      by false = refl

  of_other : holds_at a v ≡ false → (vs : List (List ℤ)) → filter (holds (a ∷ rest)) (map (λ w. v ∷ w) vs) ≡ []
  of_other h [] = refl
  of_other h (w ∷ vs) =
      ap (λ b. cond (b && holds rest w) ((v ∷ w) ∷ filter (holds (a ∷ rest)) (map (λ w. v ∷ w) vs)) (filter (holds (a ∷ rest)) (map (λ w. v ∷ w) vs))) h
      ∙ of_other h vs

  in_frame : lies n v ≡ true → (ws : List (List ℤ)) → list_all (lies_in (n ∷ ns)) (map (λ w. v ∷ w) ws) ≡ list_all (lies_in ns) ws
  in_frame h [] = refl
  in_frame h (w ∷ ws) = ap (λ b. (b && lies_in ns w) && list_all (lies_in (n ∷ ns)) (map (λ w. v ∷ w) ws)) h ∙ ap (λ b. lies_in ns w && b) (in_frame h ws)

  out_of_frame : lies n v ≡ false → (ws : List (List ℤ)) → list_all (lies_in (n ∷ ns)) (map (λ w. v ∷ w) ws) ≡ none ws
  out_of_frame h [] = refl
  out_of_frame h (w ∷ ws) = ap (λ b. (b && lies_in ns w) && list_all (lies_in (n ∷ ns)) (map (λ w. v ∷ w) ws)) h

  -- where the rest has members
  pub with_rest : (vs : List (List ℤ)) → none (filter (holds rest) vs) ≡ false
      → list_all (lies_in (n ∷ ns)) (filter (holds (a ∷ rest)) (map (λ w. v ∷ w) vs)) ≡ (not (holds_at a v) || (lies n v && list_all (lies_in ns) (filter (holds rest) vs)))
  with_rest vs some = by (holds_at a v) (lies n v) refl refl
    where
      by : (h l : Bool) → holds_at a v ≡ h → lies n v ≡ l → list_all (lies_in (n ∷ ns)) (filter (holds (a ∷ rest)) (map (λ w. v ∷ w) vs)) ≡ (not h || (l && list_all (lies_in ns) (filter (holds rest) vs)))
      by false l e f = ap (list_all (lies_in (n ∷ ns))) (of_other e vs)
      by true true e f = ap (list_all (lies_in (n ∷ ns))) (of_held e vs) ∙ in_frame f (filter (holds rest) vs)
      by true false e f = ap (list_all (lies_in (n ∷ ns))) (of_held e vs) ∙ out_of_frame f (filter (holds rest) vs) ∙ some

-- a test of each number that is held, and a fact
all_and : (h l : ℤ → Bool) (b : Bool) (v : ℤ) (vs : List ℤ) → h v ≡ true → list_all (λ x. not (h x) || (l x && b)) (v ∷ vs) ≡ (list_all (λ x. not (h x) || l x) (v ∷ vs) && b)
all_and h l true v vs e = same (v ∷ vs)
  where
    one : (p q : Bool) → (not p || (q && true)) ≡ (not p || q)
    one true true = refl
    one true false = refl
    one false q = refl

    and_true : (p : Bool) → (p && true) ≡ p
    and_true true = refl
    and_true false = refl

    each : (xs : List ℤ) → list_all (λ x. not (h x) || (l x && true)) xs ≡ list_all (λ x. not (h x) || l x) xs
    each [] = refl
    each (x ∷ xs) = ap (λ p. p && list_all (λ x. not (h x) || (l x && true)) xs) (one (h x) (l x)) ∙ ap (λ p. (not (h x) || l x) && p) (each xs)

    same : (xs : List ℤ) → list_all (λ x. not (h x) || (l x && true)) xs ≡ (list_all (λ x. not (h x) || l x) xs && true)
    same xs = each xs ∙ sym (and_true _)
all_and h l false v vs e =
    ap (λ p. (not p || (l v && false)) && list_all (λ x. not (h x) || (l x && false)) vs) e
    ∙ ap (λ p. p && list_all (λ x. not (h x) || (l x && false)) vs) (and_false (l v)) ∙ sym (and_false _)
  where
    and_false : (p : Bool) → (p && false) ≡ false
    and_false true = refl
    and_false false = refl

-- a component that is not empty holds its lower bound
abbrev Holds : Axis → Type 0
Holds a = (1 ≤ (span_of a).extent) × (holds_at a a.lower ≡ true)

abbrev AllHold : Range → Type 0
AllHold [] = Unit {0}
AllHold (a ∷ rest) = Holds a × AllHold rest

numbers_some : (z : ℤ) (n : ℕ) → 1 ≤ n → numbers_from z n ≡ z ∷ numbers_from (z +ℤ pos 1) (n - 1)
numbers_some z zero h = absurd (omega arith)
numbers_some z (suc n) h = let e : suc n - 1 ≡ n = omega arith in ap (λ k. z ∷ numbers_from (z +ℤ pos 1) k) (sym e)

-- the lower bounds are the first vector of the box, and a member
first_of_box : (r : Range) → AllHold r → (vs : List (List ℤ)) × (box (map span_of r) ≡ map (λ (a : Axis). a.lower) r ∷ vs)
first_of_box [] h = ([], refl)
first_of_box (a ∷ rest) h =
    let inner = first_of_box rest h.1 in
    let f = λ (v : ℤ). map (λ w. v ∷ w) (box (map span_of rest)) in (
      map (λ w. a.lower ∷ w) inner.0 ++ flat_map f (numbers_from (a.lower +ℤ pos 1) ((span_of a).extent - 1)),
      ap (flat_map f) (numbers_some a.lower (span_of a).extent h.0.0)
          ∙ ap (λ vs. map (λ w. a.lower ∷ w) vs ++ flat_map f (numbers_from (a.lower +ℤ pos 1) ((span_of a).extent - 1))) inner.1,
    )

lowers_held : (r : Range) → AllHold r → holds r (map (λ (a : Axis). a.lower) r) ≡ true
lowers_held [] h = refl
lowers_held (a ∷ rest) h = ap (λ b. b && holds rest (map (λ (a : Axis). a.lower) rest)) h.0.1 ∙ lowers_held rest h.1

some_member : (r : Range) → AllHold r → none (members r) ≡ false
some_member r h =
    let first = first_of_box r h in
    ap (λ vs. none (filter (holds r) vs)) first.1
    ∙ ap (λ b. none (cond b (map (λ (a : Axis). a.lower) r ∷ filter (holds r) first.0) (filter (holds r) first.0))) (lowers_held r h)

-- where no component is empty, all members lie in the frame exactly where each component does
pub members_within : (ns : List ℕ) (r : Range) → length r ≡ length ns → AllHold r → list_all (lies_in ns) (members r) ≡ axes_within ns r
members_within [] [] e h = refl
members_within [] (a ∷ rest) e h = absurd (omega arith)
members_within (n ∷ ns) [] e h = absurd (omega arith)
members_within (n ∷ ns) (a ∷ rest) e h =
    let B = box (map span_of rest) in
    let some = some_member rest h.1 in
    let F = list_all (lies_in ns) (members rest) in
    let V = numbers_from a.lower (span_of a).extent in
    let V' = numbers_from (a.lower +ℤ pos 1) ((span_of a).extent - 1) in
    let split = numbers_some a.lower (span_of a).extent h.0.0 in
    all_flat (lies_in (n ∷ ns)) (holds (a ∷ rest)) (λ v. map (λ w. v ∷ w) B) V
    ∙ ap (λ (g : ℤ → Bool). list_all g V) (λ i. λ v. with_rest a rest n ns v B some i)
    ∙ ap (list_all (λ v. not (holds_at a v) || (lies n v && F))) split
    ∙ all_and (holds_at a) (lies n) F a.lower V' h.0.1
    ∙ ap (λ vs. list_all (λ v. not (holds_at a v) || lies n v) vs && F) (sym split)
    ∙ ap (λ b. axis_within n a && b) (members_within ns rest (omega arith) h.1)

-- ---- empty components

not_below : (a b : ℤ) → not (int_lt a b) ≡ true → b ≤ℤ a
not_below a b e = by_lt_z a b (λ lt. absurd (true≢false (sym e ∙ ap not (lt_true a b lt)))) (λ le. le)

none_above : (d : ℤ) → d ≤ℤ pos 0 → distance d ≡ 0
none_above (pos n) h = omega (arith, ints)
none_above (negsuc n) h = refl

empty_extent : (a : Axis) → is_empty_axis a ≡ true → (span_of a).extent ≡ 0
empty_extent a e = let le = not_below a.lower a.upper e in none_above (a.upper -ℤ a.lower) (omega (arith, ints))

some_above : (d : ℤ) → pos 1 ≤ℤ d → 1 ≤ distance d
some_above (pos n) h = omega (arith, ints)
some_above (negsuc n) h = absurd (omega (arith, ints))

pub some_extent : (a : Axis) → is_empty_axis a ≡ false → 1 ≤ (span_of a).extent
some_extent a e = by_lt_z a.lower a.upper (λ lt. some_above (a.upper -ℤ a.lower) (omega (arith, ints))) (λ le. absurd (below (int_lt a.lower a.upper) refl le))
  where
    below : (b : Bool) → int_lt a.lower a.upper ≡ b → a.upper ≤ℤ a.lower → ⊥
    below true f le = let lt : a.lower <ℤ a.upper = lt_z_yes (subst T (sym f) tt) in omega (arith, ints)
    below false f le = true≢false (ap not (sym f) ∙ e)

flat_none : {A B : Type 0} (xs : List A) (f : A → List B) → ((x : A) → f x ≡ []) → flat_map f xs ≡ []
flat_none [] f e = refl
flat_none (x ∷ xs) f e = ap (λ ys. ys ++ flat_map f xs) (e x) ∙ flat_none xs f e

box_none : (r : Range) → is_empty_box r ≡ true → box (map span_of r) ≡ []
box_none [] e = absurd (true≢false (sym e))
box_none (a ∷ rest) e = by (box_none rest) (is_empty_axis a) refl
  where
    by : (is_empty_box rest ≡ true → box (map span_of rest) ≡ []) → (b : Bool) → is_empty_axis a ≡ b → box (map span_of (a ∷ rest)) ≡ []
    by more true f = ap (λ n. flat_map (λ v. map (λ w. v ∷ w) (box (map span_of rest))) (numbers_from a.lower n)) (empty_extent a f)
    by more false f =
        let inner = more (ap (λ b. b || is_empty_box rest) (sym f) ∙ e) in
        flat_none (numbers_from a.lower (span_of a).extent) (λ v. map (λ w. v ∷ w) (box (map span_of rest))) (λ v. ap (map (λ w. v ∷ w)) inner)

-- where a component is empty, there is no member
pub members_none : (ns : List ℕ) (r : Range) → is_empty_box r ≡ true → list_all (lies_in ns) (members r) ≡ true
members_none ns r h = ap (λ vs. list_all (lies_in ns) (filter (holds r) vs)) (box_none r h)

lower_held : (l u s w : ℤ) → IsStep s → IsStep w → 1 ≤ distance (u -ℤ l) → holds_at (record { lower = l; upper = u; step = s; width = w }) l ≡ true
lower_held l u (negsuc s) w hs hw e = absurd (omega (arith, ints, hs.least))
lower_held l u (pos s) (negsuc w) hs hw e = absurd (omega (arith, ints, hw.least))
lower_held l u (pos s) (pos w) hs hw e =
    let first : l +ℤ pos 0 ≡ l = omega (arith, ints) in
    let ws : 1 ≤ w = omega (arith, ints, hw.least) in
    let ss : 1 ≤ s = omega (arith, ints, hs.least) in
    let rem : 0 % s ≡ 0 = omega arith in
    let low : ltb (0 % s) w ≡ true = grind (arith, nat_tests) in
    ap (holds_at (axis l u s w)) (sym first) ∙ held l u s w (distance (u -ℤ l)) 0 refl (omega arith) ∙ low

pub all_hold : (r : Range) → All IsAxis r → is_empty_box r ≡ false → AllHold r
all_hold [] each e = tt
all_hold (a ∷ rest) each e = by (all_hold rest (All-tail IsAxis a rest each)) (is_empty_axis a) refl
  where
    by : (is_empty_box rest ≡ false → AllHold rest) → (b : Bool) → is_empty_axis a ≡ b → AllHold (a ∷ rest)
    by more true f = absurd (true≢false (ap (λ b. b || is_empty_box rest) (sym f) ∙ e))
    by more false f =
        let some = some_extent a f in
        let mine = All-head IsAxis a rest each in
        ((some, lower_held a.lower a.upper a.step a.width mine.step mine.width some), more (ap (λ b. b || is_empty_box rest) (sym f) ∙ e))

-- where no component is empty, the one at a place is not
pub some_at : (r : Range) (k : ℕ) (d : Axis) → is_empty_box r ≡ false → k < length r → is_empty_axis (get_or r k d) ≡ false
some_at [] k d e h = absurd (omega arith)
some_at (a ∷ rest) k d e h = by (λ j. some_at rest j d) (is_empty_axis a) refl k h
  where
    by : ((j : ℕ) → is_empty_box rest ≡ false → j < length rest → is_empty_axis (get_or rest j d) ≡ false) → (b : Bool) → is_empty_axis a ≡ b → (k : ℕ) → k < suc (length rest) → is_empty_axis (get_or (a ∷ rest) k d) ≡ false
    by more true f k h = absurd (true≢false (ap (λ b. b || is_empty_box rest) (sym f) ∙ e))
    by more false f zero h = f
    by more false f (suc k) h = more k (ap (λ b. b || is_empty_box rest) (sym f) ∙ e) (omega arith)

-- ---- as the code has them

pub bound_kept : (z : ℤ) → IsBound z → to_z w64 (of_z w64 z) ≡ z
bound_kept z b = to_z-of_z w64 z (fits z b)
  where
    fits : (z : ℤ) → IsBound z → FitsSigned w64 z
    fits (pos n) b = record { sfits = omega (arith, ints, b.most) }
    fits (negsuc n) b = record { sfits = omega (arith, ints, b.least) }

pub step_kept : (z : ℤ) (n : ℕ) → IsStep z → n ≡ nat_abs (to_z w32 (of_z w32 z)) → pos n ≡ z
step_kept (negsuc m) n b e = absurd (omega (arith, ints, b.least))
step_kept (pos m) n b e =
    let small : m < 2 ^ 31 = omega (arith, ints, b.most) in
    ap pos (e ∙ ap nat_abs (to_z-of_z w32 (pos m) (record { sfits = small })))

pub within_at : (l u : ℤ) (s w n m la last : ℕ) → int_lt l (pos 0) ≡ false → la ≡ nat_abs l → distance (u -ℤ l) ≡ m → last < m → last % s < w → ((k : ℕ) → k < m → k % s < w → k ≤ last) → axis_within n (axis l u s w) ≡ ltb (la + last) n
within_at (pos l) u s w n m la last h e f lt held' greatest = within_by_last l n u s w m f last lt held' greatest ∙ ap (λ x. ltb (x + last) n) (sym e)
within_at (negsuc l) u s w n m la last h e f lt held' greatest = absurd (true≢false h)

pub below_at : (l u : ℤ) (s w n : ℕ) → int_lt l (pos 0) ≡ true → is_empty_axis (axis l u s w) ≡ false → 1 ≤ s → 1 ≤ w → axis_within n (axis l u s w) ≡ false
below_at (pos l) u s w n h some hs hw = absurd (true≢false (sym h ∙ grind (arith, nat_tests)))
below_at (negsuc l) u s w n h some hs hw = by (distance (u -ℤ negsuc l)) refl (some_extent (axis (negsuc l) u s w) some)
  where
    by : (m : ℕ) → distance (u -ℤ negsuc l) ≡ m → 1 ≤ distance (u -ℤ negsuc l) → axis_within n (axis (negsuc l) u s w) ≡ false
    by zero e k = absurd (omega arith)
    by (suc m) e k = below_zero l n u s w m e hs hw

-- an element of a part of a range
pub within_step : (ns : List ℤ) (r : Range) (k : ℕ) (n : ℤ) (a : Axis) → k < length ns → length r ≡ length ns → n ≡ get_or ns k (pos 0) → a ≡ get_or r k a → axes_within (map nat_abs (drop k ns)) (drop k r) ≡ (axis_within (nat_abs n) a && axes_within (map nat_abs (drop (k + 1) ns)) (drop (k + 1) r))
within_step ns r k n a h e en ea =
    ap (λ xs. axes_within (map nat_abs xs) (drop k r)) (drop_more ns k (pos 0) h)
    ∙ ap (axes_within (nat_abs (get_or ns k (pos 0)) ∷ map nat_abs (drop (k + 1) ns))) (drop_more r k a (omega arith))
    ∙ ap (λ z. axis_within (nat_abs z) (get_or r k a) && axes_within (map nat_abs (drop (k + 1) ns)) (drop (k + 1) r)) (sym en)
    ∙ ap (λ b. axis_within (nat_abs n) b && axes_within (map nat_abs (drop (k + 1) ns)) (drop (k + 1) r)) (sym ea)

pub axes_step : (ls us ss ws : List ℤ) (k : ℕ) (done all : List Axis) (a : Axis) → k < length ls → length us ≡ length ls → length ss ≡ length ls → length ws ≡ length ls
    → a ≡ record { lower = get_or ls k (pos 0); upper = get_or us k (pos 0); step = get_or ss k (pos 0); width = get_or ws k (pos 0) }
    → done ++ axes (drop k ls) (drop k us) (drop k ss) (drop k ws) ≡ all → (done ++ a ∷ []) ++ axes (drop (k + 1) ls) (drop (k + 1) us) (drop (k + 1) ss) (drop (k + 1) ws) ≡ all
axes_step ls us ss ws k done all a h eu es ew ea inv =
    append_assoc done (a ∷ []) _
    ∙ ap (λ x. done ++ x ∷ axes (drop (k + 1) ls) (drop (k + 1) us) (drop (k + 1) ss) (drop (k + 1) ws)) ea
    ∙ ap (λ xs. done ++ xs) (sym (ap (λ xs. axes xs (drop k us) (drop k ss) (drop k ws)) (drop_more ls k (pos 0) h)
    ∙ ap (λ xs. axes (get_or ls k (pos 0) ∷ drop (k + 1) ls) xs (drop k ss) (drop k ws)) (drop_more us k (pos 0) (omega arith))
    ∙ ap (λ xs. axes (get_or ls k (pos 0) ∷ drop (k + 1) ls) (get_or us k (pos 0) ∷ drop (k + 1) us) xs (drop k ws)) (drop_more ss k (pos 0) (omega arith))
    ∙ ap (λ xs. axes (get_or ls k (pos 0) ∷ drop (k + 1) ls) (get_or us k (pos 0) ∷ drop (k + 1) us) (get_or ss k (pos 0) ∷ drop (k + 1) ss) xs) (drop_more ws k (pos 0) (omega arith))))
    ∙ inv

pub axes_length : (ls us ss ws : List ℤ) → length us ≡ length ls → length ss ≡ length ls → length ws ≡ length ls → length (axes ls us ss ws) ≡ length ls
axes_length [] us ss ws a b c = refl
axes_length (l ∷ ls) [] ss ws a b c = absurd (omega arith)
axes_length (l ∷ ls) (u ∷ us) [] ws a b c = absurd (omega arith)
axes_length (l ∷ ls) (u ∷ us) (s ∷ ss) [] a b c = absurd (omega arith)
axes_length (l ∷ ls) (u ∷ us) (s ∷ ss) (w ∷ ws) a b c = ap suc (axes_length ls us ss ws (omega arith) (omega arith) (omega arith))

pub abs_pos : (ns : List ℕ) → map nat_abs (map pos ns) ≡ ns
abs_pos [] = refl
abs_pos (n ∷ ns) = ap (λ ms. n ∷ ms) (abs_pos ns)
