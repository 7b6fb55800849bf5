-- Cells that were stored together.
use Rattle.std.proofs.Common.{◌≡◌, ℕ, zero, suc, ◌+◌, ◌-◌, ◌*◌, ◌<◌, ◌≤◌, List, [], ◌∷◌, ◌++◌, ℤ, length, take, drop, Option, Some, Ok, Err, refl, sym, ap, subst, ◌∙◌, arith}
use Rattle.std.proofs.lemmas.List.{length-take-le, take-append-le, take_rest}
use Rattle.std.proofs.Math.Seq.{take-append-add, take-append_seam, take-add}
use Rattle.std.proofs.Math.Nat.{suc-mul, add-mul}
use borrow.Rule.Slice.PartMut.{put_mid, post_of}
use Rattle.sac_base.specs.Verdict.{each, present, joined}
use Rattle.sac_base.specs.declared.stop.Stop.{Stop}
use Rattle.sac_base.specs.declared.stop.Stop.TheVariants.{Faulted, Memory}
use Rattle.phase_team.specs.declared.cells.CellEnd.TheVariants.{Stopped}
use Rattle.wl_core.specs.declared.setup.Job.TheVariants.{Write as Store}
use Rattle.wl_core.specs.Machine.{CellValue}
use Rattle.phase_team.specs.Segments.{cells_from, cost_from, Costs, HaveWidth, Ran, Same, row_at, Tells}
use Rattle.phase_team.proofs.Sequences.{cells-append, cost-append, each-both, each-back, joined-both, same_sum, same_of, same_then, widths_both, widths_more, widths_none}
use Rattle.phase_team.proofs.Steps.{stored_more, stops_here}

-- the values of n cells, whose elements these are
abbrev pub Are : (ℕ → CellValue) → ℕ → ℕ → ℕ → List ℤ → Type 0
Are cell start n width rows = (values : List (Option (List ℤ))) × (each (cells_from cell start n) ≡ Ok values) × (rows ≡ joined (present values)) × HaveWidth width values

rows_more : (k w : ℕ) → (k + 1) * w ≡ k * w + w
rows_more k w = (let e : k + 1 ≡ suc k = omega arith in ap (λ (n : ℕ). n * w) e) ∙ suc-mul k w

pub rows_fit : (k n w : ℕ) → k ≤ n → k * w ≤ n * w
rows_fit zero n w h = omega arith
rows_fit (suc k) zero w h = absurd (omega arith)
rows_fit (suc k) (suc n) w h = let i = rows_fit k n w (omega arith) in let a = suc-mul k w in let b = suc-mul n w in omega arith

length_drop : (i : ℕ) (xs : List ℤ) → length (drop i xs) ≡ length xs - i
length_drop zero xs = omega arith
length_drop (suc i) [] = omega arith
length_drop (suc i) (x ∷ xs) = length_drop i xs ∙ omega arith

-- the rows that are left
pub room_left : (d n w : ℕ) (rows : List ℤ) → d ≤ n → length rows ≡ n * w → length (take (length rows - d * w) (drop (d * w) rows)) ≡ (n - d) * w
room_left d n w rows le len =
    let whole : n ≡ d + (n - d) = omega arith in
    let split : n * w ≡ d * w + (n - d) * w = ap (λ (m : ℕ). m * w) whole ∙ add-mul d (n - d) w in
    ap (λ (xs : List ℤ). length xs) (take_rest rows (d * w)) ∙ length_drop (d * w) rows ∙ omega arith

row_long : (w j n : ℕ) (rows : List ℤ) → j < n → length rows ≡ n * w → length (row_at w j rows) ≡ w
row_long w j n rows lt len =
    let fits = rows_fit (j + 1) n w (omega arith) in
    let more = rows_more j w in
    length-take-le w (drop (j * w) rows) (let l = length_drop (j * w) rows in omega arith)

-- cells that are told one by one
pub stretched : (cell : ℕ → CellValue) (start n all width : ℕ) (rows : List ℤ) → n ≤ all → length rows ≡ all * width → ((j : ℕ) → j < n → cell (start + j) ≡ Ok (Some (row_at width j rows)))
    → Are cell start n width (take (n * width) rows)
stretched cell start zero all width rows le len tells = ([], refl, (let z : 0 * width ≡ 0 = omega arith in ap (λ (m : ℕ). take m rows) z), widths_none width)
stretched cell start (suc k) all width rows le len tells =
    let before = stretched cell start k all width rows (omega arith) len (λ j lt. tells j (omega arith)) in
    let next : k + 1 ≡ suc k = omega arith in
    subst (λ (m : ℕ). Are cell start m width (take (m * width) rows)) next
    (stored_more cell start k before.0 before.1 width (row_at width k rows) (take (k * width) rows) (take ((k + 1) * width) rows) (tells k (omega arith)) (row_long width k all rows (omega arith) len) before.2 before.3
    (ap (λ (m : ℕ). take m rows) (rows_more k width) ∙ take-add (k * width) width rows))

-- one cell by itself
pub one_stored : (cell : ℕ → CellValue) (start width : ℕ) (into behind : List ℤ) → cell start ≡ Ok (Some into) → length into ≡ width → Are cell start 1 width (take (1 * width) (into ++ behind))
one_stored cell start width into behind is len =
    let once : 1 * width ≡ length into = omega arith in (
      Some into ∷ [],
      (λ j. each (is j ∷ [])),
      ap (λ (m : ℕ). take m (into ++ behind)) once ∙ take-append_seam into behind ∙ sym (no_more into),
      widths_more width [] into (widths_none width) len,
    )
  where
    no_more : (l : List ℤ) → l ++ [] ≡ l
    no_more [] = refl
    no_more (y ∷ l) = λ j. y ∷ no_more l j

pub one_stops : (cell : ℕ → CellValue) (start n width : ℕ) (into rows : List ℤ) (stop : Stop) → 1 ≤ n → Tells (cell start) into (Stopped stop) → Ran Store width (cells_from cell start n) rows (Err stop)
one_stops cell start n width into rows stop some tells =
    let here : start ≡ start + 0 = omega arith in
    stops_here cell start 0 [] refl Store width n into rows stop (omega arith) (subst (λ (p : ℕ). Tells (cell p) into (Stopped stop)) here tells)

-- ---- a part that was written

pub part_written : (a b k : ℕ) (xs ys : List ℤ) → a ≤ length xs → b ≤ length ys → take (a + b) (put_mid a k xs ys) ≡ take a xs ++ take b ys
part_written a b k xs ys le short =
    let front : List ℤ = take a xs in
    let rest : List ℤ = ys ++ post_of a k xs in
    let len : length front ≡ a = length-take-le a xs le in
    ap (λ (n : ℕ). take (n + b) (front ++ rest)) (sym len) ∙ take-append-add front rest b ∙ ap (λ (l : List ℤ). front ++ l) (take-append-le b ys (post_of a k xs) short)

-- ---- what follows

pub stored_both : (cell : ℕ → CellValue) (start i k width : ℕ) (front back rows : List ℤ) → Are cell start i width front → Are cell (start + i) k width back → rows ≡ front ++ back → Are cell start (i + k) width rows
stored_both cell start i k width front back rows a b is = (
  a.0 ++ b.0,
  ap (λ l. each l) (cells-append cell start i k) ∙ each-both (cells_from cell start i) (cells_from cell (start + i) k) a.0 b.0 a.1 b.1,
  is ∙ (λ j. a.2 j ++ b.2 j) ∙ sym (joined-both a.0 b.0),
  widths_both width a.0 b.0 a.3 b.3,
)

pub stops_behind : (cell : ℕ → CellValue) (start i n width : ℕ) (front rows rows' : List ℤ) (stop : Stop) → i ≤ n → Are cell start i width front → Ran Store width (cells_from cell (start + i) (n - i)) rows (Err stop)
    → Ran Store width (cells_from cell start n) rows' (Err stop)
stops_behind cell start i n width front rows rows' Memory le a b = tt
stops_behind cell start i n width front rows rows' (Faulted fault) le a b =
    let whole : n ≡ i + (n - i) = omega arith in
    ap (λ (m : ℕ). each (cells_from cell start m)) whole ∙ ap (λ l. each l) (cells-append cell start i (n - i)) ∙ each-back (cells_from cell start i) (cells_from cell (start + i) (n - i)) a.0 fault a.1 b

pub costs_both : (cost : ℕ → ℕ → ℕ) (start i k : ℕ) (a b c : ℕ → ℕ) → Costs cost start i a b → Costs cost (start + i) k b c → Costs cost start (i + k) a c
costs_both cost start i k a b c first second kind =
    let x = cost_from (cost kind) start i in
    let y = cost_from (cost kind) (start + i) k in
    let s : Same kind (b kind + y) ((a kind + x) + y) = same_sum kind (b kind) (a kind + x) y y (first kind) (same_of kind y y refl) in
    let e : (a kind + x) + y ≡ a kind + cost_from (cost kind) start (i + k) = (let all = cost-append (cost kind) start i k in omega arith) in
    same_then kind (c kind) (b kind + y) (a kind + cost_from (cost kind) start (i + k)) (second kind) (same_then kind (b kind + y) ((a kind + x) + y) (a kind + cost_from (cost kind) start (i + k)) s (same_of kind ((a kind + x) + y) (a kind + cost_from (cost kind) start (i + k)) e))

no_cost : (cost : ℕ → ℕ) (start n : ℕ) → ((j : ℕ) → j < n → cost (start + j) ≡ 0) → cost_from cost start n ≡ 0
no_cost cost start zero free = refl
no_cost cost start (suc n) free =
    let first : cost start ≡ 0 = (let e : start ≡ start + 0 = omega arith in ap cost e) ∙ free 0 (omega arith) in
    let rest = no_cost cost (suc start) n (λ j lt. (let e : suc start + j ≡ start + suc j = omega arith in ap cost e) ∙ free (suc j) (omega arith)) in
    omega arith

pub costs_free : (cost : ℕ → ℕ → ℕ) (start n : ℕ) (a b : ℕ → ℕ) → ((j kind : ℕ) → j < n → cost kind (start + j) ≡ 0) → ((kind : ℕ) → b kind ≡ a kind) → Costs cost start n a b
costs_free cost start n a b free same kind =
    let none = no_cost (cost kind) start n (λ j lt. free j kind lt) in
    let s = same kind in
    let e : b kind ≡ a kind + cost_from (cost kind) start n = omega arith in
    same_of kind (b kind) (a kind + cost_from (cost kind) start n) e
