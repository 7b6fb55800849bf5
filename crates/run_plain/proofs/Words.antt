-- Words as operands, alone and beside short vectors, and in literals.
use Rattle.std.proofs.Common.{◌≡◌, ℕ, ◌+◌, ◌*◌, ◌≤◌, ◌<◌, ℤ, pos, Bool, true, cond, List, [], ◌∷◌, ◌++◌, length, map, take, get_or, replicate, Ok, Err, Some, None, refl, sym, ap, ◌∙◌, arith}
use Rattle.std.specs.Prelude.{◌&&◌, if◌then◌else◌, nat_lt}
use Rattle.std.proofs.lemmas.Bool.{eq-eqb, lt-ltb, true≢false}
use Rattle.std.proofs.lemmas.List.{length-map, length-take-le, map_more, map-append}
use Rattle.sac_base.specs.declared.base.Base.{Base}
use Rattle.sac_base.specs.declared.base.Base.TheVariants as base
use Rattle.sac_base.specs.declared.faults.FaultKind.TheVariants.{F2}
use Rattle.sac_base.specs.declared.op.Op.{Op}
use Rattle.sac_base.specs.declared.op.ZeroDivisor.{ZeroDivisor}
use Rattle.sac_base.specs.Arrays.{scalar, vector, same_base, same_shape}
use Rattle.sac_base.specs.Operators.{apply_two, all_of, binary, combined, in_shape, result_base, with_cells}
use Rattle.sac_base.specs.Parts.{literal}
use Rattle.core_ir.specs.declared.tree.Var.{Var}
use Rattle.counted_code.specs.Machine.{Values}
use Rattle.counted_code.specs.Values.{Heap, Value, Small, read}
use Rattle.run_plain.specs.Reads.{arrays_of}
use Rattle.run_plain.proofs.Literals.{literal_words}

-- ---- operators

pub word_ok : (op : Op) (s t : Base) (x y v : ℤ) → apply_two op x y ≡ Ok v → binary op (scalar s x) (scalar t y) ≡ Ok (scalar (result_base op) v)
word_ok op s t x y v is = ap (λ r. with_cells op [] (all_of (r ∷ []))) is

pub word_fault : (op : Op) (s t : Base) (x y : ℤ) (zero_divisor : ZeroDivisor) → apply_two op x y ≡ Err zero_divisor → binary op (scalar s x) (scalar t y) ≡ Err F2
word_fault op s t x y zero_divisor is = ap (λ r. with_cells op [] (all_of (r ∷ []))) is

same_one : (m n : ℕ) → m ≡ n → same_shape (m ∷ []) (n ∷ []) ≡ true
same_one m n is = ap (λ t. t && true) (eq-eqb m n is)

repeated : (n : ℤ) (ys : List ℤ) → map (λ y. n) ys ≡ replicate (length ys) n
repeated n [] = refl
repeated n (y ∷ ys) = ap (λ rest. n ∷ rest) (repeated n ys)

-- a list of one number in each place, one place more
pub one_place_more : (n : ℤ) (room : Bool) (old new items : List ℤ) (k : ℕ) → k < length items → length items ≤ 8 → room ≡ nat_lt (length old) 8 → new ≡ cond room (old ++ n ∷ []) old → old ≡ map (λ _. n) (take k items) → new ≡ map (λ _. n) (take (k + 1) items)
one_place_more n room old new items k below few free is done =
    let size = ap length done ∙ length-map (take k items) (λ _. n) ∙ length-take-le k items (omega (arith, below)) in
    let fits = free ∙ lt-ltb (length old) 8 (omega (arith, size, below, few)) in
    is ∙ ap (λ t. cond t (old ++ n ∷ []) old) fits ∙ ap (λ ns. ns ++ n ∷ []) done ∙ sym (map_more (λ _. n) items k (pos 0) below)

once : (n : ℕ) → n ≡ n * 1
once n = omega arith

-- a word beside a short vector is as a vector that has it in each place
pub right_word : (op : Op) (s t : Base) (xs : List ℤ) (n : ℤ) → binary op (vector s xs) (vector t (map (λ x. n) xs)) ≡ binary op (vector s xs) (scalar t n)
right_word op s t xs n =
    ap (λ same. in_shape op (if same then Some (length xs ∷ []) else None) (vector s xs) (vector t (map (λ x. n) xs))) (same_one (length xs) (length (map (λ x. n) xs)) (sym (length-map xs (λ x. n))))
    ∙ ap (λ ys. with_cells op (length xs ∷ []) (combined op xs ys)) (repeated n xs ∙ ap (λ k. replicate k n) (once (length xs)))

pub left_word : (op : Op) (s t : Base) (n : ℤ) (ys : List ℤ) → binary op (vector s (map (λ y. n) ys)) (vector t ys) ≡ binary op (scalar s n) (vector t ys)
left_word op s t n ys =
    let size = length-map ys (λ y. n) in
    ap (λ same. in_shape op (if same then Some (length (map (λ y. n) ys) ∷ []) else None) (vector s (map (λ y. n) ys)) (vector t ys)) (same_one (length (map (λ y. n) ys)) (length ys) size)
    ∙ (λ i. with_cells op (size i ∷ []) (combined op ((repeated n ys ∙ ap (λ k. replicate k n) (once (length ys))) i) ys))

-- ---- literals

abbrev pub word : Base → ℤ → Value
word b n = Small (scalar b n)

pub same_is : (b c : Base) → same_base b c ≡ true → b ≡ c
same_is base.Int base.Int is = refl
same_is base.Int base.Bool is = absurd (true≢false (sym is))
same_is base.Bool base.Int is = absurd (true≢false (sym is))
same_is base.Bool base.Bool is = refl

-- one word more
pub one_word_more : (e : Values) (xs : List Var) (k : ℕ) (x : Var) (b c : Base) (n : ℤ) (ns new : List ℤ) → k < length xs → x ≡ get_or xs k x → word c n ≡ e x → b ≡ c → new ≡ ns ++ n ∷ []
    → map e (take k xs) ≡ map (word b) ns → map e (take (k + 1) xs) ≡ map (word b) new
one_word_more e xs k x b c n ns new below is here same pushed done =
    map_more e xs k x below
    ∙ (λ i. done i ++ (ap e (sym is) ∙ sym here ∙ ap (λ d. word d n) (sym same)) i ∷ [])
    ∙ sym (map-append (word b) ns (n ∷ []))
    ∙ ap (map (word b)) (sym pushed)

all_read : (m : Heap) (e : Values) (xs : List Var) → arrays_of m e xs ≡ map (read m) (map e xs)
all_read m e [] = refl
all_read m e (x ∷ xs) = ap (λ rest. read m (e x) ∷ rest) (all_read m e xs)

words_read : (m : Heap) (b : Base) (ns : List ℤ) → map (read m) (map (word b) ns) ≡ map (scalar b) ns
words_read m b [] = refl
words_read m b (n ∷ ns) = ap (λ rest. scalar b n ∷ rest) (words_read m b ns)

none_there : (e : Values) (xs : List Var) → 1 ≤ length xs → map e xs ≡ [] → ⊥
none_there e xs some is =
    let none = ap length is in
    let size = length-map xs e in
    omega (arith, some, none, size)

-- a literal of words is their vector
pub words_literal : (m : Heap) (e : Values) (xs : List Var) (b : Base) (ns : List ℤ) → 1 ≤ length xs → length ns ≤ 8 → map e xs ≡ map (word b) ns → literal (arrays_of m e xs) ≡ Ok (vector b ns)
words_literal m e xs b [] some few is = absurd (none_there e xs some is)
words_literal m e xs b (n ∷ ns) some few is =
    ap literal (all_read m e xs ∙ ap (map (read m)) is ∙ words_read m b (n ∷ ns)) ∙ literal_words b n ns few

pub empty_literal : (m : Heap) (e : Values) (xs : List Var) (ns : List ℤ) → xs ≡ [] → ns ≡ [] → literal (arrays_of m e xs) ≡ Ok (vector base.Int ns)
empty_literal m e xs ns none is = ap (λ ys. literal (arrays_of m e ys)) none ∙ ap (λ zs. Ok (vector base.Int zs)) (sym is)
