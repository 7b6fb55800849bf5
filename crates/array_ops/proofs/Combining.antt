-- An operator at the cells of two operands, one pair after another.
use Rattle.std.proofs.Common.{◌≡◌, ℕ, ◌+◌, ◌<◌, ap, ◌∙◌, sym, refl, List, [], ◌∷◌, ◌++◌, length, drop, get_or, ℤ, pos, Result, Ok, Err, append_assoc, arith, map}
use Rattle.std.specs.List.{zip}
use Rattle.std.proofs.lemmas.List.{drop_more, get_or-replicate, length-replicate}
use Rattle.sac_base.specs.declared.op.Op.{Op}
use Rattle.sac_base.specs.declared.op.ZeroDivisor.{ZeroDivisor}
use Rattle.array_ops.specs.declared.elements.Operand.{Operand}
use Rattle.array_ops.specs.declared.elements.Operand.TheVariants.{Each, Same}
use Rattle.array_ops.specs.Operands.{cells_of, cell_at, HasCells}
use Rattle.sac_base.specs.Operators.{apply_two, all_of, with_first, combined}

-- the values so far before those of the rest
abbrev pub with_done : List ℤ → Result (List ℤ) ZeroDivisor → Result (List ℤ) ZeroDivisor
with_done done (Ok rest) = Ok (done ++ rest)
with_done done (Err e) = Err e

with_done_first : (done : List ℤ) (v : ℤ) (r : Result (List ℤ) ZeroDivisor) → with_done done (with_first v r) ≡ with_done (done ++ v ∷ []) r
with_done_first done v (Ok rest) = ap Ok (sym (append_assoc done (v ∷ []) rest))
with_done_first done v (Err e) = refl

opened : (op : Op) (xs ys : List ℤ) (k : ℕ) (x y : ℤ) → k < length xs → k < length ys → get_or xs k (pos 0) ≡ x → get_or ys k (pos 0) ≡ y
    → combined op (drop k xs) (drop k ys) ≡ combined op (x ∷ drop (k + 1) xs) (y ∷ drop (k + 1) ys)
opened op xs ys k x y a b ex ey =
    ap (λ zs. combined op zs (drop k ys)) (drop_more xs k (pos 0) a ∙ ap (λ z. z ∷ drop (k + 1) xs) ex)
    ∙ ap (combined op (x ∷ drop (k + 1) xs)) (drop_more ys k (pos 0) b ∙ ap (λ z. z ∷ drop (k + 1) ys) ey)

-- a result before those of the pairs that are left
abbrev before : Op → Result ℤ ZeroDivisor → List ℤ → List ℤ → Result (List ℤ) ZeroDivisor
before op r xs ys = all_of (r ∷ map (λ (p : ℤ × ℤ). apply_two op p.0 p.1) (zip xs ys))

pub pair_done : (op : Op) (xs ys done : List ℤ) (k : ℕ) (x y v : ℤ) (whole : Result (List ℤ) ZeroDivisor) → k < length xs → k < length ys → get_or xs k (pos 0) ≡ x → get_or ys k (pos 0) ≡ y
    → apply_two op x y ≡ Ok v → with_done done (combined op (drop k xs) (drop k ys)) ≡ whole
    → with_done (done ++ v ∷ []) (combined op (drop (k + 1) xs) (drop (k + 1) ys)) ≡ whole
pair_done op xs ys done k x y v whole a b ex ey ok h =
    sym (with_done_first done v (combined op (drop (k + 1) xs) (drop (k + 1) ys)))
    ∙ ap (λ r. with_done done (before op r (drop (k + 1) xs) (drop (k + 1) ys))) (sym ok)
    ∙ ap (with_done done) (sym (opened op xs ys k x y a b ex ey)) ∙ h

pub pair_fails : (op : Op) (xs ys done : List ℤ) (k : ℕ) (x y : ℤ) (e : ZeroDivisor) (whole : Result (List ℤ) ZeroDivisor) → k < length xs → k < length ys → get_or xs k (pos 0) ≡ x → get_or ys k (pos 0) ≡ y
    → apply_two op x y ≡ Err e → with_done done (combined op (drop k xs) (drop k ys)) ≡ whole
    → whole ≡ Err e
pair_fails op xs ys done k x y e whole a b ex ey err h =
    sym h ∙ ap (with_done done) (opened op xs ys k x y a b ex ey) ∙ ap (λ r. with_done done (before op r (drop (k + 1) xs) (drop (k + 1) ys))) err

-- the cell at a place of an operand
pub cell_read : (o : Operand) (n k : ℕ) → k < n → HasCells o n → (k < length (cells_of n o)) × (get_or (cells_of n o) k (pos 0) ≡ cell_at o k)
cell_read (Each cells) n k lt h = (omega arith, refl)
cell_read (Same a) n k lt h = (omega (arith, length-replicate n a), get_or-replicate n k a (pos 0) lt)
