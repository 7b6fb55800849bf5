-- Tables in one buffer.
use Rattle.std.proofs.Common.{◌≡◌, ◌≢◌, ℕ, zero, suc, ◌+◌, ◌-◌, ◌*◌, ◌<◌, ◌≤◌, Bool, true, false, cond, ltb, List, [], ◌∷◌, ◌++◌, length, take, drop, set, get_or, ℤ, pos, refl, sym, ap, ◌∙◌, subst, ⊎_elim, arith, append-nil, length-append, length-take, length-drop, take-append-drop}
use Rattle.std.proofs.lemmas.Bool.{cases_lt, lt-ltb, le-ltb}
use Rattle.std.proofs.lemmas.List.{drop-take, take-take, take_all, get_or-set_same, get_or-set_other, drop_all}
use Rattle.std.proofs.lemmas.Slice.{take-put_mid_below, drop-put_mid, between-put_mid}
use Rattle.std.proofs.Math.Nat.{mul-le-mul_right}
use borrow.Rule.Slice.PartMut.{put_mid}
use Rattle.sac_base.specs.Verdict.{joined, elementwise}
use Rattle.std.proofs.Common.{Some, None}
use Rattle.sac_base.specs.declared.op.Op.{Op}
use Rattle.wl_core.specs.Machine.{put, listed, both, combine}
use Rattle.wl_core.specs.Rows.{RowsValue, row_of, PutsRow, HoldsValue, times_of, SetsTimes, partial_of, AddsValue}
use Rattle.wl_core.proofs.Functions.{put_is, put_same, put_other, joined-append}

pub later_row : (p q width : ℕ) → p < q → p * width + width ≤ q * width
later_row p q width lt = let m : suc p * width ≤ q * width = mul-le-mul_right width lt in let e : suc p * width ≡ p * width + width = omega arith in omega arith

cut : (width at n : ℕ) (xs : List ℤ) → n ≡ at + width → take width (drop at xs) ≡ drop at (take n xs)
cut width at n xs e = sym (ap (λ (k : ℕ). drop at (take k xs)) e ∙ drop-take at width xs)

-- one row is written
pub rows_put : (rows : RowsValue) (index : ℕ) (value : List ℤ) → length rows.cells ≡ rows.count * rows.width → index < rows.count → length value ≡ rows.width
    → row_of (record rows { cells = put_mid (index * rows.width) rows.width rows.cells value }) ≡ put (row_of rows) index value
rows_put rows index value full lt len =
    let w = rows.width in
    let at : ℕ = index * w in
    let new : List ℤ = put_mid at w rows.cells value in
    let room : at + w ≤ length rows.cells = let l = later_row index rows.count w lt in omega arith in
    put_is (row_of (record rows { cells = new })) (row_of rows) index value
    (let b = between-put_mid at w rows.cells value (at + w) (omega arith) (omega arith) in let e : (at + w) - at ≡ w = omega arith in ap (λ (k : ℕ). take k (drop at new)) (sym e) ∙ b)
    (λ p ne. ⊎_elim
    (λ (l : p < index). let below = later_row p index w l in
    cut w (p * w) (p * w + w) new refl ∙ ap (λ (l : List ℤ). drop (p * w) l) (take-put_mid_below at w rows.cells value (p * w + w) below (omega arith)) ∙ sym (cut w (p * w) (p * w + w) rows.cells refl))
    (λ (g : index ≤ p). let above = later_row index p w (omega arith) in ap (λ (l : List ℤ). take w l) (drop-put_mid at w rows.cells value (p * w) above (omega arith) len))
    (cases_lt p index))

joined_front : (rows : RowsValue) (n : ℕ) → n * rows.width ≤ length rows.cells → joined (listed (row_of rows) n) ≡ take (n * rows.width) rows.cells
joined_front rows zero le = let z : 0 * rows.width ≡ 0 = omega arith in sym (ap (λ (k : ℕ). take k rows.cells) z)
joined_front rows (suc n) le =
    let w = rows.width in
    let e : suc n * w ≡ n * w + w = omega arith in
    joined-append (listed (row_of rows) n) (row_of rows n ∷ []) ∙ (λ j. joined_front rows n (omega arith) j ++ append-nil (row_of rows n) j)
    ∙ sym (ap (λ (k : ℕ). take k rows.cells) e ∙ sym (take-append-drop (n * w) (take (n * w + w) rows.cells)) ∙ (λ j. take_front (n * w) w rows.cells j ++ drop-take (n * w) w rows.cells j))
  where
    take_front : (m k : ℕ) (xs : List ℤ) → take m (take (m + k) xs) ≡ take m xs
    take_front m k xs = take-take m (m + k) xs (omega arith)

-- all rows one after another are the buffer
pub joined_rows : (rows : RowsValue) → length rows.cells ≡ rows.count * rows.width → rows.cells ≡ joined (listed (row_of rows) rows.count)
joined_rows rows full = sym (joined_front rows rows.count (omega arith) ∙ take_all (rows.count * rows.width) rows.cells (omega arith))

-- a step of combining cell by cell
pub combined_more : (op : ℤ → ℤ → ℤ) (xs ys : List ℤ) (i : ℕ) (x y : ℤ) → i < length xs → length ys ≡ length xs
    → elementwise op (take (i + 1) xs) (take (i + 1) ys) ++ drop (i + 1) xs ≡ set (elementwise op (take i xs) (take i ys) ++ drop i xs) i (op (get_or xs i x) (get_or ys i y))
combined_more op (a ∷ xs) (b ∷ ys) zero x y lt len = refl
combined_more op (a ∷ xs) (b ∷ ys) (suc i) x y lt len =
    let s : suc i + 1 ≡ suc (i + 1) = omega arith in
    ap (λ (k : ℕ). elementwise op (take k (a ∷ xs)) (take k (b ∷ ys)) ++ drop k (a ∷ xs)) s ∙ ap (λ (l : List ℤ). op a b ∷ l) (combined_more op xs ys i x y (omega arith) (omega arith))
combined_more op (a ∷ xs) [] i x y lt len = absurd (omega arith)
combined_more op [] ys i x y lt len = absurd (omega arith)

pub get_or-combined : (op : ℤ → ℤ → ℤ) (xs ys : List ℤ) (i : ℕ) (x : ℤ) → i < length xs → length ys ≡ length xs → get_or (elementwise op (take i xs) (take i ys) ++ drop i xs) i x ≡ get_or xs i x
get_or-combined op (a ∷ xs) (b ∷ ys) zero x lt len = refl
get_or-combined op (a ∷ xs) (b ∷ ys) (suc i) x lt len = get_or-combined op xs ys i x (omega arith) (omega arith)
get_or-combined op (a ∷ xs) [] i x lt len = absurd (omega arith)
get_or-combined op [] ys i x lt len = absurd (omega arith)

pub length-combined : (op : ℤ → ℤ → ℤ) (xs ys : List ℤ) → length ys ≡ length xs → length (elementwise op xs ys) ≡ length xs
length-combined op [] ys len = refl
length-combined op (a ∷ xs) (b ∷ ys) len = ap suc (length-combined op xs ys (omega arith))
length-combined op (a ∷ xs) [] len = absurd (omega arith)

pub combined_all : (op : ℤ → ℤ → ℤ) (xs ys : List ℤ) (n : ℕ) → length xs ≤ n → length ys ≤ n → elementwise op (take n xs) (take n ys) ++ drop n xs ≡ elementwise op xs ys
combined_all op xs ys n lx ly = (λ j. elementwise op (take_all n xs lx j) (take_all n ys ly j) ++ drop_all n xs lx j) ∙ append-nil (elementwise op xs ys)

-- one number of holds changes
pub times_set : (holds : HoldsValue) (w b n : ℕ) → length holds.numbers ≡ holds.workers * holds.buffers → w < holds.workers → b < holds.buffers
    → times_of (record holds { numbers = set holds.numbers (w * holds.buffers + b) n }) ≡ put (times_of holds) w (put (times_of holds w) b n)
times_set holds w b n full lw lb =
    let B = holds.buffers in
    let at : ℕ = w * B + b in
    let room : at < length holds.numbers = let l = later_row w holds.workers B lw in omega arith in
    let within : (c : ℕ) → c < B → ltb c B ≡ true = λ c l. lt-ltb c B l in
    let new : List ℕ = set holds.numbers at n in
    put_is (times_of (record holds { numbers = new })) (times_of holds) w (put (times_of holds w) b n)
    (put_is (times_of (record holds { numbers = new }) w) (times_of holds w) b n
    (let t = within b lb in rw t (get_or-set_same holds.numbers at n 0 room))
    (λ c ne. ap (λ (x : ℕ). cond (ltb c B) x 0) (get_or-set_other holds.numbers at (w * B + c) n 0 (λ e. ne (omega arith)))))
    (λ v ne. λ j c. row v ne c j)
  where
    row : (v : ℕ) → v ≢ w → (c : ℕ) → times_of (record holds { numbers = set holds.numbers (w * holds.buffers + b) n }) v c ≡ times_of holds v c
    row v ne c = ⊎_elim
        (λ (l : c < holds.buffers). ap (λ (x : ℕ). cond (ltb c holds.buffers) x 0) (get_or-set_other holds.numbers (w * holds.buffers + b) (v * holds.buffers + c) n 0
        (λ e. ⊎_elim (λ (lt : v < w). absurd (let l' = later_row v w holds.buffers lt in omega arith)) (λ (ge : w ≤ v). absurd (let l' = later_row w v holds.buffers (omega arith) in omega arith)) (cases_lt v w))))
        (λ (g : holds.buffers ≤ c). let t : ltb c holds.buffers ≡ false = le-ltb c holds.buffers g in rw t refl)
        (cases_lt c holds.buffers)

-- what the code's writes leave
pub puts_row : (old : RowsValue) (width count index k : ℕ) (cells from part value cells' : List ℤ) → record { width = width; count = count; cells = cells } ≡ old → from ≡ cells → k ≡ width → part ≡ value → cells' ≡ put_mid (index * width) k from part
    → length cells ≡ count * width → index < old.count → length value ≡ old.width → PutsRow old (record { width = width; count = count; cells = cells' }) index value
puts_row old width count index k cells from part value cells' is from_is k_is part_is cells_is full lt len =
    let was : RowsValue = record { width = width; count = count; cells = cells } in
    let lt' : index < count = let e = ap (λ (r : RowsValue). r.count) is in omega arith in
    let len' : length value ≡ width = let e = ap (λ (r : RowsValue). r.width) is in omega arith in
    let now : cells' ≡ put_mid (index * width) width cells value = cells_is ∙ (λ j. put_mid (index * width) (k_is j) (from_is j) (part_is j)) in
    subst (λ (r : RowsValue). PutsRow r (record { width = width; count = count; cells = cells' }) index value) is (record {
      width = refl;
      count = refl;
      rows = ap (λ (l : List ℤ). row_of (record was { cells = l })) now ∙ rows_put was index value full lt' len';
    })

pub sets_times : (old : HoldsValue) (workers buffers w b n : ℕ) (numbers : List ℕ) → record { workers = workers; buffers = buffers; numbers = numbers } ≡ old → length numbers ≡ workers * buffers → w < old.workers → b < old.buffers
    → SetsTimes old (record { workers = workers; buffers = buffers; numbers = set numbers (w * buffers + b) n }) w b n
sets_times old workers buffers w b n numbers is full lw lb =
    let was : HoldsValue = record { workers = workers; buffers = buffers; numbers = numbers } in
    let lw' : w < workers = let e = ap (λ (r : HoldsValue). r.workers) is in omega arith in
    let lb' : b < buffers = let e = ap (λ (r : HoldsValue). r.buffers) is in omega arith in
    subst (λ (r : HoldsValue). SetsTimes r (record { workers = workers; buffers = buffers; numbers = set numbers (w * buffers + b) n }) w b n) is (record { workers = refl; buffers = refl; times = times_set was w b n full lw' lb' })

pub combine_step : (op : ℤ → ℤ → ℤ) (xs ys now : List ℤ) (i : ℕ) (r : ℤ) → i < length xs → length ys ≡ length xs → now ≡ elementwise op (take i xs) (take i ys) ++ drop i xs → r ≡ op (get_or now i (pos 0)) (get_or ys i (pos 0))
    → set now i r ≡ elementwise op (take (i + 1) xs) (take (i + 1) ys) ++ drop (i + 1) xs
combine_step op xs ys now i r lt len is r_is =
    (λ j. set (is j) i ((r_is ∙ ap (λ (l : List ℤ). op (get_or l i (pos 0)) (get_or ys i (pos 0))) is ∙ ap (λ (z : ℤ). op z (get_or ys i (pos 0))) (get_or-combined op xs ys i (pos 0) lt len)) j))
    ∙ sym (combined_more op xs ys i (pos 0) (pos 0) lt len)

-- the length of a buffer of which a part was written
pub length-written : (at k n : ℕ) (xs ys : List ℤ) → length xs ≡ n → length ys ≡ k → at + k ≤ n → length (put_mid at k xs ys) ≡ n
length-written at k n xs ys lx ly room = simp (length-append, length-take, length-drop) (omega arith)

pub length_row : (rows : RowsValue) (index : ℕ) → length rows.cells ≡ rows.count * rows.width → index < rows.count → length (row_of rows index) ≡ rows.width
length_row rows index full lt = let l = later_row index rows.count rows.width lt in simp (length-take, length-drop) (omega arith)

-- a worker that has begun combines its row with a value
pub adds_more : (started : List Bool) (old rows : RowsValue) (w : ℕ) (op : Op) (value : List ℤ) → get_or started w false ≡ true → PutsRow old rows w (combine op (row_of old w) value)
    → AddsValue (record { started = started; rows = old }) (record { started = started; rows = rows }) w op value
adds_more started old rows w op value began put = record {
  width = put.width;
  count = put.count;
  partials = put_is (partial_of (record { started = started; rows = rows })) (partial_of (record { started = started; rows = old })) w _
      ((λ j. cond (began j) (Some ((ap (λ (f : ℕ → List ℤ). f w) put.rows ∙ put_same (row_of old) w (combine op (row_of old w) value) w refl) j)) None)
      ∙ sym (ap (λ (b : Bool). both (combine op) (cond b (Some (row_of old w)) None) (Some value)) began))
      (λ i ne. ap (λ (l : List ℤ). cond (get_or started i false) (Some l) None) (ap (λ (f : ℕ → List ℤ). f i) put.rows ∙ put_other (row_of old) w (combine op (row_of old w) value) i ne));
}

-- one that has not begun takes it as its first
pub adds_first : (started : List Bool) (old rows : RowsValue) (w : ℕ) (op : Op) (value : List ℤ) → w < length started → get_or started w false ≡ false → PutsRow old rows w value
    → AddsValue (record { started = started; rows = old }) (record { started = set started w true; rows = rows }) w op value
adds_first started old rows w op value lt fresh put = record {
  width = put.width;
  count = put.count;
  partials = put_is (partial_of (record { started = set started w true; rows = rows })) (partial_of (record { started = started; rows = old })) w _
      ((λ j. cond (get_or-set_same started w true false lt j) (Some ((ap (λ (f : ℕ → List ℤ). f w) put.rows ∙ put_same (row_of old) w value w refl) j)) None)
      ∙ sym (ap (λ (b : Bool). both (combine op) (cond b (Some (row_of old w)) None) (Some value)) fresh))
      (λ i ne. (λ j. cond (get_or-set_other started w i true false ne j) (Some ((ap (λ (f : ℕ → List ℤ). f i) put.rows ∙ put_other (row_of old) w value i ne) j)) None));
}
