-- Generated arrays.
use Rattle.std.specs.Prelude.{ℕ, ◌+◌, ◌*◌, ◌%◌, ◌==◌, ◌||◌, if◌then◌else◌, nat_lt, List, [], ◌∷◌, length, map, replicate, Result, Ok, Err, ℤ, pos}
use Rattle.std.specs.List.{range_with_len}
use Rattle.sac_base.specs.declared.base.Base.{Base}
use Rattle.sac_base.specs.declared.base.Base.TheVariants.{Int, Bool as Truth}
use Rattle.sac_base.specs.declared.types.ArrayType.{ArrayType}
use Rattle.sac_base.specs.declared.types.Part.{Part}
use Rattle.sac_base.specs.declared.types.Part.TheVariants.{Known, Rank, Plus, Star}
use Rattle.sac_base.specs.Arrays.{ArrayValue, size, MOST}
use Rattle.data_text.specs.declared.error.DataCode.TheVariants.{I6}
use Rattle.data_text.specs.Texts.{Refusal}

-- the shape of a generated array of a type whose other extents are n
abbrev pub generated_shape : Part → ℕ → List ℕ
generated_shape (Known shape) n = shape
generated_shape (Rank rank) n = replicate rank n
generated_shape Plus n = n ∷ []
generated_shape Star n = n ∷ []

-- element k of the array for parameter p
abbrev pub generated_number : ℕ → ℕ → ℕ
generated_number p k = (k * 1103 + p * 12345 + 7) % 1000

abbrev pub generated_element : Base → ℕ → ℤ
generated_element Int m = pos m
generated_element Truth m = if m % 2 == 0 then pos 1 else pos 0

-- the elements, in row-major order
abbrev pub generated_cells : Base → ℕ → ℕ → List ℤ
generated_cells base p count = map (λ k. generated_element base (generated_number p k)) (range_with_len 0 count)

-- the array for parameter p, or its refusal
abbrev pub generated_of : Base → ℕ → List ℕ → Result ArrayValue Refusal
generated_of base p shape =
    if nat_lt 8 (length shape) || nat_lt MOST (size shape) then Err (record { code = I6; number = p + 1 }) else
    Ok (record { base = base; shape = shape; cells = generated_cells base p (size shape) })

abbrev pub generated : ArrayType → ℕ → ℕ → Result ArrayValue Refusal
generated ty p n = generated_of ty.base p (generated_shape ty.part n)

abbrev pub with_array : Result ArrayValue Refusal → Result (List ArrayValue) Refusal → Result (List ArrayValue) Refusal
with_array (Err refusal) others = Err refusal
with_array (Ok a) (Err refusal) = Err refusal
with_array (Ok a) (Ok as') = Ok (a ∷ as')

-- the arrays for parameters from p on, or the first refusal
abbrev pub generated_all : List ArrayType → ℕ → ℕ → Result (List ArrayValue) Refusal
generated_all [] p n = Ok []
generated_all (ty ∷ tys) p n = with_array (generated ty p n) (generated_all tys (p + 1) n)
