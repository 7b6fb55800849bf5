-- A list sorted by chunks, by index and by the list's recursion; and how often a number stands in a list of keys.
use Rattle.std.proofs.Common.{◌≡◌, ℕ, suc, ◌+◌, ◌<◌, ◌≤◌, Bool, true, false, cond, eqb, List, [], ◌∷◌, refl, sym, ap, ◌∙◌, length, map, arith}
use Rattle.std.specs.Prelude.{sum_by, slice_index_or}
use Rattle.std.specs.List.Sorted.{IsPermutation}
use Rattle.std.proofs.lemmas.List.Sorted.{sum_by-IsPermutation}
use Rattle.std.proofs.lemmas.List.Sums.{sum_by-cons}
use Rattle.std.proofs.lemmas.Bool.{eqb-true}
use Rattle.count_table.specs.Views.{times}
use Rattle.chunk_reports.specs.declared.reports.Report.{Report}
use Rattle.chunk_reports.proofs.Sorting.{Ascends}

head_or_tail : (b : Bool) (y z : ℕ) (n : ℕ) (x : ℕ) → eqb z y ≡ b → x ≤ z → (0 < n → z ≤ y) → 0 < cond {A = ℕ} b 1 0 + n → x ≤ y
head_or_tail true y z n x e low later h = let s = eqb-true z y e in omega arith
head_or_tail false y z n x e low later h = let l = later (omega arith) in omega arith

module _ {T : Type 0} where
  abbrev chunk : Report T → ℕ
  chunk w = w.chunk

  abbrev one_at : ℕ → Report T → ℕ
  one_at x w = cond {A = ℕ} (eqb (chunk w) x) 1 0

  as_sum : (x : ℕ) (ws : List (Report T)) → times x (map chunk ws) ≡ sum_by (one_at x) ws
  as_sum x [] = refl
  as_sum x (w ∷ ws) = ap (λ (n : ℕ). one_at x w + n) (as_sum x ws) ∙ sym (sum_by-cons (one_at x) w ws)

  pub same_times : (x : ℕ) (ws vs : List (Report T)) → IsPermutation ws vs → times x (map chunk vs) ≡ times x (map chunk ws)
  same_times x ws vs p = as_sum x vs ∙ sum_by-IsPermutation (one_at x) ws vs p ∙ sym (as_sum x ws)

  abbrev pub UpBy : List (Report T) → Type 0
  UpBy ws = (k : ℕ) (d : Report T) → suc k < length ws → chunk (slice_index_or ws k d) ≤ chunk (slice_index_or ws (suc k) d)

  pub ascending : (ws : List (Report T)) → UpBy ws → Ascends (map chunk ws)
  ascending [] up = tt
  ascending (w ∷ []) up = ((λ y h. absurd (native.Mathlib.Nat.not-suc-le-zero h)), tt)
  ascending (w ∷ v ∷ ws) up =
      let rest = ascending (v ∷ ws) (λ k d lt. up (suc k) d (omega arith)) in
      ((λ y h. head_or_tail (eqb (chunk v) y) y (chunk v) (times y (map chunk ws)) (chunk w) refl (up 0 w (omega arith)) (rest.0 y) h), rest)
