-- Digits, read from the left up to a bound.
use Rattle.std.proofs.Common.{◌≡◌, ℕ, ◌+◌, ◌*◌, ◌-◌, ◌<◌, true, false, ◌&&◌, List, [], ◌∷◌, drop, length, get_or, ap, sym, ◌∙◌, Option, Some, None, arith, add-one, drop-cons}
use Rattle.std.specs.Prelude.{if◌then◌else◌, min}
use Rattle.std.specs.Str.{all_ascii_digits}
use Rattle.std.specs.Char.{is_ascii_digit}
use Rattle.data_text.specs.Numbers.{value_after}

abbrev pub BOUND : ℕ
BOUND = 4294967296

-- the number that digits stand for after the number so far, up to the bound
abbrev pub bounded_after : ℕ → List ℕ → Option ℕ
bounded_after n ds = if all_ascii_digits ds then Some (min BOUND (value_after n ds)) else None

bounded_step : (a b d : ℕ) → min BOUND a ≡ min BOUND b → min BOUND (10 * a + d) ≡ min BOUND (10 * b + d)
bounded_step a b d same = omega arith

bounded : (ds : List ℕ) (a b : ℕ) → min BOUND a ≡ min BOUND b → min BOUND (value_after a ds) ≡ min BOUND (value_after b ds)
bounded [] a b same = same
bounded (d ∷ ds) a b same = bounded ds (10 * a + (d - 48)) (10 * b + (d - 48)) (bounded_step a b (d - 48) same)

pub one_digit : (n d : ℕ) (ds : List ℕ) → is_ascii_digit d ≡ true → bounded_after (min BOUND (10 * n + (d - 48))) ds ≡ bounded_after n (d ∷ ds)
one_digit n d ds is =
    ap (λ m. if all_ascii_digits ds then Some m else None) (bounded ds (min BOUND (10 * n + (d - 48))) (10 * n + (d - 48)) (omega arith))
    ∙ ap (λ t. if t && all_ascii_digits ds then Some (min BOUND (value_after n (d ∷ ds))) else None) (sym is)

pub no_digit : (n d : ℕ) (ds : List ℕ) → is_ascii_digit d ≡ false → bounded_after n (d ∷ ds) ≡ None
no_digit n d ds is = ap (λ t. if t && all_ascii_digits ds then Some (min BOUND (value_after n (d ∷ ds))) else None) is

pub digit_more : (n i m : ℕ) (ds : List ℕ) → i < length ds → is_ascii_digit (get_or ds i 0) ≡ true → m ≡ min BOUND (10 * n + (get_or ds i 0 - 48)) → bounded_after m (drop (i + 1) ds) ≡ bounded_after n (drop i ds)
digit_more n i m ds inside is value_is =
    ap (λ k. bounded_after k (drop (i + 1) ds)) value_is
    ∙ one_digit n (get_or ds i 0) (drop (i + 1) ds) is
    ∙ ap (λ k. bounded_after n (get_or ds i 0 ∷ drop k ds)) (add-one i)
    ∙ ap (bounded_after n) (sym (drop-cons ds i 0 inside))
