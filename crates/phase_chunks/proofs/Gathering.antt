-- Values that are combined some at a time.
use Rattle.std.proofs.Common.{◌≡◌, ℕ, ◌+◌, ◌-◌, ◌≤◌, List, [], ◌∷◌, ◌++◌, ℤ, pos, length, map, get_or, set, drop, Bool, true, false, Option, Some, None, Ok, Err, refl, sym, ap, subst, ◌∙◌, arith}
use Rattle.std.specs.Prelude.{fold, All}
use Rattle.std.proofs.lemmas.List.Elements.{All-head, All-tail}
use Rattle.std.proofs.lemmas.List.Sums.{fold-append}
use Rattle.sac_base.specs.declared.op.Op.{Op}
use Rattle.sac_base.specs.declared.stop.Stop.{Stop}
use Rattle.sac_base.specs.declared.stop.Stop.TheVariants.{Faulted, Memory}
use Rattle.sac_base.specs.Verdict.{combined, each, fold_op, joined, present}
use Rattle.wl_core.proofs.Combining.{present-append}
use Rattle.wl_core.specs.Machine.{CellValue, combine, both}
use Rattle.phase_team.specs.Segments.{cells_from, value_if, Gathered, HaveWidth, Tells}
use Rattle.phase_team.proofs.Sequences.{cells-append, each-back, each-both, widths_both, widths_more, widths_none, widths_same}
use Rattle.phase_team.proofs.Steps.{stops_gather}
use Rattle.phase_team.proofs.Stored.{Are}
use Rattle.phase_team.specs.declared.cells.CellEnd.TheVariants.{Stopped}
use Rattle.phase_chunks.specs.Gathering.{combined_on, GatheredNext}

-- the values of two lists one after another
pub combined_then : {A : Type 0} (op : A → A → A) (xs ys : List A) → combined op (xs ++ ys) ≡ combined_on op (combined op xs) ys
combined_then op [] ys = refl
combined_then op (x ∷ xs) ys = ap (λ z. Some z) (fold-append op x xs ys)

-- one value
pub combined_one : {A : Type 0} (op : A → A → A) (before : Option A) (x : A) → combined_on op before (x ∷ []) ≡ both op before (Some x)
combined_one op None x = refl
combined_one op (Some a) x = refl

pub combined_none : {A : Type 0} (op : A → A → A) (before : Option A) → combined_on op before [] ≡ before
combined_none op None = refl
combined_none op (Some a) = refl

-- ---- values of one element

abbrev IsSingle : List ℤ → Type 0
IsSingle x = length x ≡ 1

abbrev pub single : ℤ → List ℤ
single n = n ∷ []

-- values of one element each are their elements
pub singles : (xs : List (List ℤ)) → All IsSingle xs → map single (joined xs) ≡ xs
singles [] one = refl
singles ([] ∷ xs) one = absurd (let no = All-head IsSingle [] xs one in omega (arith, no))
singles ((n ∷ []) ∷ xs) one = ap (λ ys. (n ∷ []) ∷ ys) (singles xs (All-tail IsSingle (n ∷ []) xs one))
singles ((n ∷ m ∷ ns) ∷ xs) one = absurd (let no = All-head IsSingle (n ∷ m ∷ ns) xs one in omega (arith, no))

pub fold_singles : (op : Op) (a : ℤ) (ns : List ℤ) → fold (combine op) (a ∷ []) (map single ns) ≡ single (fold (fold_op op) a ns)
fold_singles op a [] = refl
fold_singles op a (n ∷ ns) = fold_singles op (fold_op op a n) ns

-- ---- cells that are combined some at a time

-- the values of n cells, which come to this together
abbrev pub Come : (ℕ → CellValue) → ℕ → ℕ → Op → ℕ → Option (List ℤ) → Type 0
Come cell start n op width value =
    (values : List (Option (List ℤ))) × (each (cells_from cell start n) ≡ Ok values) × (combined (combine op) (present values) ≡ value) × HaveWidth width values

-- the values of n cells, which come to this with what was there
abbrev pub ComeOn : (ℕ → CellValue) → ℕ → ℕ → Op → ℕ → Option (List ℤ) → Option (List ℤ) → Type 0
ComeOn cell start n op width before after =
    (values : List (Option (List ℤ))) × (each (cells_from cell start n) ≡ Ok values) × (after ≡ combined_on (combine op) before (present values)) × HaveWidth width values

pub gathered_both : (cell : ℕ → CellValue) (start i k : ℕ) (op : Op) (width : ℕ) (before after : Option (List ℤ)) → Come cell start i op width before → ComeOn cell (start + i) k op width before after
    → Come cell start (i + k) op width after
gathered_both cell start i k op width before after a b = (
  a.0 ++ b.0,
  ap (λ l. each l) (cells-append cell start i k) ∙ each-both (cells_from cell start i) (cells_from cell (start + i) k) a.0 b.0 a.1 b.1,
  ap (combined (combine op)) (present-append a.0 b.0) ∙ combined_then (combine op) (present a.0) (present b.0) ∙ ap (λ v. combined_on (combine op) v (present b.0)) a.2 ∙ sym b.2,
  widths_both width a.0 b.0 a.3 b.3,
)

pub stops_after : (cell : ℕ → CellValue) (start i n : ℕ) (op : Op) (width : ℕ) (before : Option (List ℤ)) (row : List ℤ) (stop : Stop) → i ≤ n → Come cell start i op width before
    → Gathered op width (cells_from cell (start + i) (n - i)) [] (Err stop) → Gathered op width (cells_from cell start n) row (Err stop)
stops_after cell start i n op width before row Memory le a b = tt
stops_after cell start i n op width before row (Faulted fault) le a b =
    let whole : n ≡ i + (n - i) = omega (arith, le) in
    ap (λ (m : ℕ). each (cells_from cell start m)) whole ∙ ap (λ l. each l) (cells-append cell start i (n - i)) ∙ each-back (cells_from cell start i) (cells_from cell (start + i) (n - i)) a.0 fault a.1 b

-- cells of one element each whose elements these are
pub come_together : (cell : ℕ → CellValue) (start n : ℕ) (op : Op) (before : Option (List ℤ)) (numbers after : List ℤ) → Are cell start n 1 numbers
    → Some after ≡ combined_on (combine op) before (map single numbers) → ComeOn cell start n op 1 before (Some after)
come_together cell start n op before numbers after a is =
    (a.0, a.1, is ∙ ap (λ ns. combined_on (combine op) before (map single ns)) a.2 ∙ ap (combined_on (combine op) before) (singles (present a.0) a.3), a.3)

-- one cell
pub comes_one : (cell : ℕ → CellValue) (start : ℕ) (op : Op) (width : ℕ) (before after : Option (List ℤ)) (x : List ℤ) → cell start ≡ Ok (Some x) → length x ≡ width → after ≡ both (combine op) before (Some x)
    → ComeOn cell start 1 op width before after
comes_one cell start op width before after x e len is =
    (Some x ∷ [], (λ j. each (e j ∷ [])), is ∙ sym (combined_one (combine op) before x), widths_more width [] x (widths_none width) len)

pub comes_none : (cell : ℕ → CellValue) (start : ℕ) (op : Op) (width : ℕ) (before after : Option (List ℤ)) → cell start ≡ Ok None → after ≡ before → ComeOn cell start 1 op width before after
comes_none cell start op width before after e is =
    (None ∷ [], (λ j. each (e j ∷ [])), is ∙ sym (combined_none (combine op) before), widths_same width [] (widths_none width))

-- ---- numbers

pub numbers_behind : (op : Op) (held : Bool) (into ns : List ℤ) (r : ℤ) → held ≡ true → length into ≡ 1 → r ≡ fold (fold_op op) (get_or into 0 (pos 0)) ns
    → Some (set into 0 r) ≡ combined_on (combine op) (value_if held into) (map single ns)
numbers_behind op held [] ns r e one is = absurd (omega (arith, one))
numbers_behind op held (a ∷ []) ns r e one is =
    ap (λ z. Some (single z)) is ∙ ap (λ x. Some x) (sym (fold_singles op a ns)) ∙ ap (λ h. combined_on (combine op) (value_if h (a ∷ [])) (map single ns)) (sym e)
numbers_behind op held (a ∷ b ∷ xs) ns r e one is = absurd (omega (arith, one))

pub numbers_alone : (op : Op) (held : Bool) (into ns : List ℤ) (r : ℤ) → held ≡ false → length into ≡ 1 → 1 ≤ length ns → r ≡ fold (fold_op op) (get_or ns 0 (pos 0)) (drop 1 ns)
    → Some (set into 0 r) ≡ combined_on (combine op) (value_if held into) (map single ns)
numbers_alone op held [] ns r e one some is = absurd (omega (arith, one))
numbers_alone op held (a ∷ []) [] r e one some is = absurd (omega (arith, some))
numbers_alone op held (a ∷ []) (n ∷ ns) r e one some is =
    ap (λ z. Some (single z)) is ∙ ap (λ x. Some x) (sym (fold_singles op n ns)) ∙ ap (λ h. combined_on (combine op) (value_if h (a ∷ [])) (map single (n ∷ ns))) (sym e)
numbers_alone op held (a ∷ b ∷ xs) ns r e one some is = absurd (omega (arith, one))

-- ---- the next cells

-- so many cells, at least one and at most n
pub next_cells : (cell : ℕ → CellValue) (start k n : ℕ) (op : Op) (width : ℕ) (before after : Option (List ℤ)) → 1 ≤ k → k ≤ n → ComeOn cell start k op width before after
    → GatheredNext op width cell start n before after (Ok k)
next_cells cell start k n op width before after some most come = (some, most, come.0, come.1, come.2, come.3)

pub stops_next : (cell : ℕ → CellValue) (start n : ℕ) (op : Op) (width : ℕ) (into : List ℤ) (before after : Option (List ℤ)) (stop : Stop) → 1 ≤ n → Tells (cell start) into (Stopped stop)
    → GatheredNext op width cell start n before after (Err stop)
stops_next cell start n op width into before after stop some tells =
    let here : start ≡ start + 0 = omega arith in
    stops_gather cell start 0 [] refl op width n into [] stop some (subst (λ (p : ℕ). Tells (cell p) into (Stopped stop)) here tells)
