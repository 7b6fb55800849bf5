-- Short vectors, element by element.
use Rattle.std.proofs.Common.{◌≡◌, ℕ, zero, suc, ◌+◌, ◌<◌, Bool, true, cond, List, [], ◌∷◌, ◌++◌, length, drop, get_or, ℤ, pos, Option, Some, None, Ok, refl, ap, ◌∙◌, arith}
use Rattle.std.specs.Prelude.{IfSome}
use Rattle.std.proofs.lemmas.List.{length_push}
use Rattle.sac_base.specs.declared.base.Base.{Base}
use Rattle.sac_base.specs.declared.op.Op.{Op}
use Rattle.sac_base.specs.Arrays.{size, vector}
use Rattle.sac_base.specs.Operators.{apply_two, combined}
use Rattle.array_ops.proofs.Combining.{with_done, pair_done}
use Rattle.counted_code.specs.Values.{Small}
use Rattle.run_values.specs.declared.value.RunValue.{RunValue}
use Rattle.run_values.specs.Shown.{value_of}

-- a list that is not full takes a number
pub pushed : (room : Bool) (old new : List ℤ) (n : ℤ) → room ≡ true → new ≡ cond room (old ++ n ∷ []) old → new ≡ old ++ n ∷ []
pushed room old new n free is = is ∙ ap (λ t. cond t (old ++ n ∷ []) old) free

pub pair_pushed : (op : Op) (xs ys done new : List ℤ) (k : ℕ) (v : ℤ) → k < length xs → k < length ys → apply_two op (get_or xs k (pos 0)) (get_or ys k (pos 0)) ≡ Ok v
    → new ≡ done ++ v ∷ [] → length done ≡ k → with_done done (combined op (drop k xs) (drop k ys)) ≡ combined op xs ys
    → (with_done new (combined op (drop (k + 1) xs) (drop (k + 1) ys)) ≡ combined op xs ys) × (length new ≡ k + 1)
pair_pushed op xs ys done new k v a b ok is size h = (
  ap (λ zs. with_done zs (combined op (drop (k + 1) xs) (drop (k + 1) ys))) is ∙ pair_done op xs ys done k (get_or xs k (pos 0)) (get_or ys k (pos 0)) v (combined op xs ys) a b refl refl ok h,
  ap length is ∙ length_push done v ∙ ap (λ m. m + 1) size,
)

not_one : (n : ℕ) → zero ≡ suc n → ⊥
not_one n is = omega (arith, is)

not_two : (n : ℕ) → suc (suc n) ≡ 1 → ⊥
not_two n is = omega (arith, is)

-- a vector by its shape
pub vector_as : (base : Base) (shape : List ℕ) (cells : List ℤ) (o : Option RunValue) → length shape ≡ 1 → length cells ≡ size shape → IfSome o (λ v. value_of v ≡ Small (vector base cells)) → IfSome o (λ v. value_of v ≡ Small (record { base = base; shape = shape; cells = cells }))
vector_as base [] cells o one full is = elim (not_one zero one) [ ]
vector_as base (m ∷ (n ∷ ns)) cells o one full is = elim (not_two (length ns) one) [ ]
vector_as base (n ∷ []) cells None one full is = is
vector_as base (n ∷ []) cells (Some v) one full is =
    let m : length cells ≡ n = omega (arith, full) in
    is ∙ (λ i. Small (record { base = base; shape = m i ∷ []; cells = cells }))
