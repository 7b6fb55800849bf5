use Rattle.std.proofs.Common.{◌≡◌, ℕ, ◌+◌, ◌-◌, ◌%◌, ◌<◌, ◌≤◌, inl, inr, arith, refl, sym, ap, subst, ◌∙◌, nat_lt, nat_le, List, [], ◌∷◌, ◌++◌}
use Rattle.std.specs.Prelude.{ℤ, pos, ◌+ℤ◌, ◌-ℤ◌, ◌≤ℤ◌, ◌<ℤ◌, unsigned_abs, Bool, true, false, ◌&&◌, cond, min}
use Rattle.std.specs.List.{All}
use Rattle.std.proofs.lemmas.Int.{ints}
use Rattle.std.proofs.lemmas.Bool.{cases_lt, lt-ltb, le-ltb, le-leb, lt-leb, ltb-true, leb-true, and_parts}
use Rattle.std.proofs.lemmas.Nat.{mod_below}
use Rattle.std.proofs.Math.Nat.{mod-le}
use Rattle.std.proofs.lemmas.List.Sums.{fold_push}
use Rattle.std.proofs.lemmas.List.Elements.{All-push}
use Rattle.sac_base.specs.Grids.{has_index, within, times, Splits}
use Rattle.grid_sets.specs.Segments.{alike, IsUniform, IsRun, place_of}
use Rattle.grid_sets.proofs.Repeating.{Repeats}
use Rattle.grid_sets.proofs.Likeness.{alike_from}
use Rattle.sac_base.specs.declared.grid.Grid1.{Grid1}
use Rattle.sac_base.proofs.GridFacts.{gap_is, within_is, has_facts}
use Rattle.grid_sets.proofs.Residues.{residue_run, RunAt}

same_bool : (a b : Bool) → (a ≡ true → b ≡ true) → (b ≡ true → a ≡ true) → a ≡ b
same_bool true b f g = sym (f refl)
same_bool false true f g = g refl
same_bool false false f g = refl

-- a test on the distance below `n`, from either side
run_tests : (n p start stop d : ℕ) → start < stop → stop ≤ p → start ≤ n → d ≡ n - start
    → nat_lt (d % p) (stop - start) ≡ (nat_le start (n % p) && nat_lt (n % p) stop)
run_tests n p start stop d h k l e =
    let at : RunAt n p start stop = residue_run n p start stop h k l in
    let f : d % p ≡ (n - start) % p = ap (λ m. m % p) e in
    same_bool (nat_lt (d % p) (stop - start)) (nat_le start (n % p) && nat_lt (n % p) stop)
    (λ t. let low : (n - start) % p < stop - start = omega (arith, f, ltb-true (d % p) (stop - start) t) in
    let both = at.into low in
    let a : nat_le start (n % p) ≡ true = le-leb start (n % p) both.0 in
    let b : nat_lt (n % p) stop ≡ true = lt-ltb (n % p) stop both.1 in
    rw (a, b))
    (λ t. let parts = and_parts (nat_le start (n % p)) (nat_lt (n % p) stop) t in
    let low = at.back (leb-true start (n % p) parts.0) (ltb-true (n % p) stop parts.1) in
    lt-ltb (d % p) (stop - start) (omega arith))

early : (n p start stop : ℕ) → n < start → start < p → nat_le start (n % p) ≡ false
early n p start stop h k = lt-leb start (n % p) (omega (arith, mod-le n p))

pub run_is : (g : Grid1) (from to : ℤ) (p start stop : ℕ) → g.lo ≡ from +ℤ pos start → g.hi ≡ to → g.step ≡ pos p → g.width ≡ pos (stop - start)
    → start < stop → stop ≤ p → IsRun from to p start stop g
run_is g from to p start stop lo hi step width h k x =
    let wide : pos 1 ≤ℤ g.width = omega (arith, ints) in
    elim (within_is from to x) [
      | inl y ↦
          let n : ℕ = unsigned_abs (x -ℤ from) in
          let gap = gap_is x from y.0 in
          elim (has_facts g x wide) [
            | inl z ↦
                let late : start ≤ unsigned_abs (x -ℤ from) = omega (arith, ints) in
                let d : unsigned_abs (x -ℤ g.lo) ≡ unsigned_abs (x -ℤ from) - start = omega (arith, ints, gap_is x g.lo z.0) in
                let s : unsigned_abs g.step ≡ p = ap unsigned_abs step in
                let w : unsigned_abs g.width ≡ stop - start = ap unsigned_abs width in
                z.2 ∙ rw (s, w, y.2) (run_tests (unsigned_abs (x -ℤ from)) p start stop (unsigned_abs (x -ℤ g.lo)) h k late d)
            | inr z ↦ elim z.0 [
              | inl below ↦
                  let soon : unsigned_abs (x -ℤ from) < start = omega (arith, ints) in
                  z.1 ∙ sym (rw (y.2, early (unsigned_abs (x -ℤ from)) p start stop soon (omega arith)))
              | inr above ↦ absurd (omega (arith, ints))
            ]
          ]
      | inr y ↦
          elim (has_facts g x wide) [
            | inl z ↦ absurd (elim y.0 [ inl a ↦ omega (arith, ints) | inr a ↦ omega (arith, ints) ])
            | inr z ↦ z.1 ∙ sym (rw y.1)
          ]
    ]

pub times_push : (xs ys : List Grid1) (g : Grid1) (x : ℤ) → ys ≡ xs ++ g ∷ [] → times ys x ≡ times xs x + cond (has_index g x) 1 0
times_push xs ys g x e =
    ap (λ l. times l x) e ∙ fold_push (λ a p. a + cond (has_index p x) 1 0) 0 xs g

-- the numbers of the segment in the places below `stop`, each once
abbrev pub SplitsBelow : List Grid1 → ℤ → ℤ → ℕ → ℕ → Type 0
SplitsBelow pieces from to p stop = (x : ℤ) → times pieces x ≡ cond (within from to x && nat_lt (place_of from p x) stop) 1 0

one_of : (t : Bool) → 0 + cond t 1 0 ≡ cond t 1 0
one_of true = refl
one_of false = refl

add_tests : (w : Bool) (r start stop : ℕ) → start < stop
    → cond (w && nat_lt r start) 1 0 + cond (w && (nat_le start r && nat_lt r stop)) 1 0 ≡ cond (w && nat_lt r stop) 1 0
add_tests false r start stop h = refl
add_tests true r start stop h = elim (cases_lt r start) [
  | inl a ↦ rw (lt-ltb r start a, lt-leb start r a, lt-ltb r stop (omega arith))
  | inr b ↦ rw (le-ltb r start b, le-leb start r b) (one_of (nat_lt r stop))
]

pub split_more : (xs ys : List Grid1) (g : Grid1) (from to : ℤ) (p start stop : ℕ) → ys ≡ xs ++ g ∷ [] → start < stop
    → SplitsBelow xs from to p start → IsRun from to p start stop g → SplitsBelow ys from to p stop
split_more xs ys g from to p start stop e h before run x =
    times_push xs ys g x e
    ∙ ap (λ n. n + cond (has_index g x) 1 0) (before x)
    ∙ ap (λ t. cond (within from to x && nat_lt (place_of from p x) start) 1 0 + cond t 1 0) (run x)
    ∙ add_tests (within from to x) (place_of from p x) start stop h

pub even_more : (grids xs ys : List Grid1) (g : Grid1) (from to : ℤ) (p start stop : ℕ) → ys ≡ xs ++ g ∷ []
    → All (Repeats from to p) grids → ((k : ℕ) → start ≤ k → k < stop → alike grids g.lo (from +ℤ pos k) ≡ true)
    → IsRun from to p start stop g → All (IsUniform grids) xs → All (IsUniform grids) ys
even_more grids xs ys g from to p start stop e repeats same run before =
    let here : IsUniform grids g = λ x h.
    let parts = and_parts (within from to x) (nat_le start (place_of from p x) && nat_lt (place_of from p x) stop) (sym (run x) ∙ h) in
    let places = and_parts (nat_le start (place_of from p x)) (nat_lt (place_of from p x) stop) parts.1 in
    alike_from grids g.lo (from +ℤ pos (place_of from p x)) x
    (same (place_of from p x) (leb-true start (place_of from p x) places.0) (ltb-true (place_of from p x) stop places.1))
    (λ k d l. repeats k d l x parts.0) in
    subst (All (IsUniform grids)) (sym e) (All-push (IsUniform grids) xs g before here)

-- the whole segment is in the first places
pub split_all : (xs : List Grid1) (from to : ℤ) (p reach : ℕ) → 0 < p → reach ≡ min (unsigned_abs (to -ℤ from)) p
    → SplitsBelow xs from to p reach → Splits xs (within from to)
split_all xs from to p reach some e all x =
    elim (within_is from to x) [
      | inl y ↦
          let gap = gap_is x from y.0 in
          let long : from ≤ℤ to = omega (arith, ints) in
          let span = gap_is to from long in
          let low : place_of from p x < reach =
          omega (arith, ints, mod-le (unsigned_abs (x -ℤ from)) p, mod_below (unsigned_abs (x -ℤ from)) p some) in
          all x ∙ rw (y.2, lt-ltb (place_of from p x) reach low)
      | inr y ↦ all x ∙ rw y.1
    ]

none_below : (w : Bool) (r : ℕ) → let none : ℕ = 0 in none ≡ cond (w && nat_lt r 0) 1 0
none_below false r = refl
none_below true r = sym (rw (le-ltb r 0 (omega arith)))

pub nothing_yet : (xs : List Grid1) (from to : ℤ) (p : ℕ) → xs ≡ [] → SplitsBelow xs from to p 0
nothing_yet xs from to p e x = ap (λ l. times l x) e ∙ none_below (within from to x) (place_of from p x)

-- a number by its distance
pub at_distance : (from x : ℤ) → from ≤ℤ x → x ≡ from +ℤ pos (unsigned_abs (x -ℤ from))
at_distance from x h = omega (arith, ints)

-- a run by the distances of its ends
pub width_is : (from f t : ℤ) → from ≤ℤ f → f <ℤ t
    → (unsigned_abs (f -ℤ from) < unsigned_abs (t -ℤ from)) × (unsigned_abs (t -ℤ f) ≡ unsigned_abs (t -ℤ from) - unsigned_abs (f -ℤ from))
width_is from f t h l =
    let low = gap_is f from h in
    let high = gap_is t from (omega (arith, ints)) in
    let gap = gap_is t f (omega (arith, ints)) in
    (omega (arith, ints), omega (arith, ints))
