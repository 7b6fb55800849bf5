-- The ends of a grid.
use Rattle.std.proofs.Common.{◌≡◌, ℕ, ◌+◌, ◌-◌, ◌*◌, ◌/◌, ◌%◌, ◌<◌, ◌≤◌, inl, inr, arith, refl, sym, ap, subst, ◌∙◌, nat_lt}
use Rattle.std.specs.Prelude.{cond, ℤ, pos, ◌-ℤ◌, ◌≤ℤ◌, ◌<ℤ◌, unsigned_abs, Bool, true, false}
use Rattle.std.proofs.lemmas.Int.{ints}
use Rattle.std.proofs.lemmas.Nat.{mod-mul-add, mod_below, div-add-mod'}
use Rattle.std.proofs.lemmas.Bool.{cases_lt}
use Rattle.std.proofs.lemmas.Bool.Decides.{nat_tests}
use Rattle.sac_base.specs.declared.grid.Grid1.{Grid1}
use Rattle.sac_base.specs.Grids.{has_index}
use Rattle.sac_base.proofs.GridFacts.{has_facts}
use Rattle.std.proofs.Math.Nat.{mod-le, zero-mod}
use Rattle.grid_spans.specs.Spans.{IsLeast, IsGreatest, gap_after}

-- a little further down the remainder falls as much
mod_back : (n s g : ℕ) → 0 < s → g ≤ n % s → (n - g) % s ≡ n % s - g
mod_back n s g h l =
    let split : n / s * s + n % s ≡ n = div-add-mod' n s in
    let low : n % s < s = mod_below n s h in
    let e : n - g ≡ n / s * s + (n % s - g) = omega arith in
    ap (λ k. k % s) e ∙ mod-mul-add (n / s) s (n % s - g) (omega arith)

-- behind the end of the run there is nothing up to n
pub none_behind : (n m s w : ℕ) → 0 < s → m ≤ n → m % s < w → w ≤ n % s → m + (n % s - w) + 1 ≤ n
none_behind n m s w h l r k =
    elim (cases_lt n (m + (n % s - w) + 1)) [
      | inl over ↦
          let near : n - m ≤ n % s = omega arith in
          let back : (n - (n - m)) % s ≡ n % s - (n - m) = mod_back n s (n - m) h near in
          let same : n - (n - m) ≡ m = omega arith in
          let e : m % s ≡ n % s - (n - m) = ap (λ j. j % s) (sym same) ∙ back in
          absurd (omega arith)
      | inr fine ↦ fine
    ]

-- the end of the run is a member
pub end_in : (n s w : ℕ) → 0 < s → 0 < w → w ≤ n % s → (n - (n % s - w + 1)) % s ≡ w - 1
end_in n s w h o k = mod_back n s (n % s - w + 1) h (omega arith) ∙ (omega arith)

lesser : (n w : ℕ) → n < w → nat_lt n w ≡ true
lesser n w h = first_of (grind (arith, nat_tests))

not_lesser : (n w : ℕ) → w ≤ n → nat_lt n w ≡ false
not_lesser n w h = first_of (grind (arith, nat_tests))

is_less : (n w : ℕ) → nat_lt n w ≡ true → n < w
is_less n w h = first_of (grind (arith, nat_tests))

is_not_less : (n w : ℕ) → nat_lt n w ≡ false → w ≤ n
is_not_less n w h = first_of (grind (arith, nat_tests))

pub gap_is : (g : Grid1) (x : ℤ) (n s w : ℕ) → n ≡ unsigned_abs (x -ℤ g.lo) → s ≡ unsigned_abs g.step → w ≡ unsigned_abs g.width → w ≤ n % s → n % s - w + 1 ≡ gap_after g x
gap_is g x n s w p q r h =
    (λ i. cond (sym (not_lesser (n % s) w h) i) 0 (n % s - w + 1)) ∙ (λ i. cond (nat_lt (p i % q i) (r i)) 0 (p i % q i - r i + 1))

above_zero : (z : ℤ) → pos 1 ≤ℤ z → 0 < unsigned_abs z
above_zero z h = omega (arith, ints)

-- the first number is a member
pub least_is : (g : Grid1) → g.lo <ℤ g.hi → pos 1 ≤ℤ g.step → pos 1 ≤ℤ g.width → IsLeast g g.lo
least_is g h s w = record {
  member = elim (has_facts g g.lo w) [
    | inl y ↦
        let z : unsigned_abs (g.lo -ℤ g.lo) ≡ 0 = omega (arith, ints) in
        let low : 0 < unsigned_abs g.width = above_zero g.width w in
        y.2 ∙ ap (λ d. nat_lt (d % unsigned_abs g.step) (unsigned_abs g.width)) z ∙ ap (λ d. nat_lt d (unsigned_abs g.width)) (zero-mod (unsigned_abs g.step)) ∙ lesser 0 (unsigned_abs g.width) low
    | inr n ↦ absurd (let out = n.0 in omega (arith, ints))
  ];
  below = λ y m. elim (has_facts g y w) [
    | inl i ↦ i.0
    | inr n ↦ absurd (let e : true ≡ false = sym m ∙ n.1 in cc)
  ];
}

pub none_is : (g : Grid1) → g.hi ≤ℤ g.lo → pos 1 ≤ℤ g.width → (x : ℤ) → has_index g x ≡ false
none_is g h w x = elim (has_facts g x w) [
  | inl i ↦ absurd (let a = i.0 in let b = i.1 in omega (arith, ints))
  | inr n ↦ n.1
]

module _ (g : Grid1) (last : ℤ) (some : g.lo <ℤ g.hi) (ends : last ≡ g.hi -ℤ pos 1) (steps : pos 1 ≤ℤ g.step) (wide : pos 1 ≤ℤ g.width) where
  abbrev far : ℕ
  far = unsigned_abs (last -ℤ g.lo)

  abbrev step : ℕ
  step = unsigned_abs g.step

  abbrev width : ℕ
  width = unsigned_abs g.width

  -- a number not above the last one is a member by its remainder
  has_is : (x : ℤ) → g.lo ≤ℤ x → x ≤ℤ last → has_index g x ≡ nat_lt (unsigned_abs (x -ℤ g.lo) % step) width
  has_is x l h = elim (has_facts g x wide) [
    | inl i ↦ i.2
    | inr n ↦ absurd (let out = n.0 in omega (arith, ints))
  ]

  -- a member does not lie above the last number
  inside : (x : ℤ) → has_index g x ≡ true → (g.lo ≤ℤ x) × (x ≤ℤ last) × (unsigned_abs (x -ℤ g.lo) % step < width)
  inside x m = elim (has_facts g x wide) [
    | inl i ↦ (i.0, (let b = i.1 in omega (arith, ints)), is_less (unsigned_abs (x -ℤ g.lo) % step) width (sym i.2 ∙ m))
    | inr n ↦ absurd (let e : true ≡ false = sym m ∙ n.1 in cc)
  ]

  gap_in : (b : Bool) → nat_lt (far % step) width ≡ b → gap_after g last ≤ far
  gap_in true e = let z : gap_after g last ≡ 0 = λ i. cond (e i) 0 (far % step - width + 1) in omega arith
  gap_in false e =
      let z : gap_after g last ≡ far % step - width + 1 = λ i. cond (e i) 0 (far % step - width + 1) in
      let le = mod-le far step in
      let low = is_not_less (far % step) width e in
      let w = above_zero g.width wide in omega arith

  -- the end of the last run
  pub gap_fits : gap_after g last ≤ far
  gap_fits = gap_in (nat_lt (far % step) width) refl

  at_end : (b : Bool) → nat_lt (far % step) width ≡ b → IsGreatest g (last -ℤ pos (gap_after g last))
  at_end true e =
      let z : gap_after g last ≡ 0 = λ i. cond (e i) 0 (far % step - width + 1) in
      let r : last -ℤ pos (gap_after g last) ≡ last = ap (λ k. last -ℤ pos k) z ∙ (omega (arith, ints)) in
      subst (IsGreatest g) (sym r) (record {
        member = has_is last (omega (arith, ints)) (omega (arith, ints)) ∙ e;
        above = λ y m. (inside y m).1;
      })
  at_end false e =
      let z : gap_after g last ≡ far % step - width + 1 = λ i. cond (e i) 0 (far % step - width + 1) in
      let low = is_not_less (far % step) width e in
      let s = above_zero g.step steps in
      let w = above_zero g.width wide in
      let fits = gap_fits in
      let r = last -ℤ pos (gap_after g last) in
      let d : unsigned_abs (r -ℤ g.lo) ≡ far - (far % step - width + 1) = distance (gap_after g last) (far % step - width + 1) fits z in
      let m : unsigned_abs (r -ℤ g.lo) % step ≡ width - 1 = ap (λ k. k % step) d ∙ end_in far step width s w low in
      record {
        member = has_is r (above_low fits) (below_last (gap_after g last)) ∙ ap (λ k. nat_lt k width) m ∙ lesser (width - 1) width (omega arith);
        above = λ y h.
            let i = inside y h in
            let near : unsigned_abs (y -ℤ g.lo) ≤ far = nearer y i.0 i.1 in
            let behind = none_behind far (unsigned_abs (y -ℤ g.lo)) step width s near i.2 low in
            lower y (gap_after g last) i.0 (let q = z in omega arith);
      }
    where
      distance : (gap k : ℕ) → gap ≤ far → gap ≡ k → unsigned_abs ((last -ℤ pos gap) -ℤ g.lo) ≡ far - k
      distance gap k f q = omega (arith, ints)

      above_low : gap_after g last ≤ far → g.lo ≤ℤ (last -ℤ pos (gap_after g last))
      above_low f = generic (gap_after g last) f
        where
          generic : (gap : ℕ) → gap ≤ far → g.lo ≤ℤ (last -ℤ pos gap)
          generic gap f = omega (arith, ints)

      below_last : (gap : ℕ) → (last -ℤ pos gap) ≤ℤ last
      below_last gap = omega (arith, ints)

      nearer : (y : ℤ) → g.lo ≤ℤ y → y ≤ℤ last → unsigned_abs (y -ℤ g.lo) ≤ far
      nearer y a b = omega (arith, ints)

      lower : (y : ℤ) (gap : ℕ) → g.lo ≤ℤ y → unsigned_abs (y -ℤ g.lo) + gap ≤ far → y ≤ℤ (last -ℤ pos gap)
      lower y gap a b = omega (arith, ints)

  pub greatest_is : IsGreatest g (last -ℤ pos (gap_after g last))
  greatest_is = at_end (nat_lt (far % step) width) refl
