-- Literals, selection, replacement, and the built-in functions.
use Rattle.std.specs.Prelude.{ℕ, ◌+◌, ◌*◌, List, [], ◌∷◌, ◌++◌, ℤ, pos, negsuc, Bool, true, false, if◌then◌else◌, Option, Some, None, Result, Ok, Err}
use Rattle.std.specs.Prelude.{map, length, take, drop, flat_map, option_map, nat_lt, nat_le, ◌==◌}
use Rattle.std.specs.List.{list_all}
use Rattle.sac_base.specs.declared.base.Base.TheVariants.{Int}
use Rattle.sac_base.specs.declared.faults.FaultKind.{FaultKind}
use Rattle.sac_base.specs.declared.faults.FaultKind.TheVariants.{F1, F3, F4, F6, F8}
use Rattle.sac_base.specs.Arrays.{ArrayValue, size, MOST, scalar, vector, first_cell, same_form, is_true}

-- the value, if a condition holds, and else a fault
abbrev pub check : {A : Type 0} → Bool → FaultKind → Result A FaultKind → Result A FaultKind
check true kind next = next
check false kind next = Err kind

-- the cells of arrays, one after another
abbrev pub cells_of_all : List ArrayValue → List ℤ
cells_of_all items = flat_map (λ (a : ArrayValue). a.cells) items

-- an array literal
abbrev pub literal : List ArrayValue → Result ArrayValue FaultKind
literal [] = Ok (vector Int [])
literal (a ∷ rest) =
    let shape = length (a ∷ rest) ∷ a.shape in
    check (list_all (same_form a) rest) F3 (
    check (nat_le (length shape) 8) F4 (
    check (nat_le (size shape) MOST) F8 (
    Ok (record { base = a.base; shape = shape; cells = cells_of_all (a ∷ rest) }))))

-- the numbers of a vector, where a scalar counts as one of one element; None for any other array
abbrev pub numbers_of : ArrayValue → Option (List ℤ)
numbers_of a = if nat_le (length a.shape) 1 then Some a.cells else None

-- the same for what has to be a vector
abbrev pub vector_of : ArrayValue → Option (List ℤ)
vector_of a = if length a.shape == 1 then Some a.cells else None

-- a number as one that is not negative
abbrev pub natural : ℤ → Option ℕ
natural (pos n) = Some n
natural (negsuc n) = None

-- a part of an array: where its cells begin, and its shape
pub record Part : Type 0 where
  pub start : ℕ
  pub shape : List ℕ

abbrev pub further : ℕ → List ℕ → Option Part → Option Part
further i ns None = None
further i ns (Some part) = Some (record { start = i * size ns + part.start; shape = part.shape })

-- the part of an array of this shape at an index vector, or none where there is no such part
abbrev pub part_at : List ℕ → List ℤ → Option Part
part_at ns [] = Some (record { start = 0; shape = ns })
part_at [] (i ∷ is) = None
part_at (n ∷ ns) (negsuc i ∷ is) = None
part_at (n ∷ ns) (pos i ∷ is) = if nat_lt i n then further i ns (part_at ns is) else None

abbrev pub part_at_index : ArrayValue → Option (List ℤ) → Option Part
part_at_index a None = None
part_at_index a (Some index) = part_at a.shape index

abbrev pub cells_at : ArrayValue → Part → List ℤ
cells_at a part = take (size part.shape) (drop part.start a.cells)

abbrev pub selected : ArrayValue → Option Part → Result ArrayValue FaultKind
selected a None = Err F1
selected a (Some part) = Ok (record { base = a.base; shape = part.shape; cells = cells_at a part })

-- the part of an array at an index
abbrev pub select : ArrayValue → ArrayValue → Result ArrayValue FaultKind
select a index = selected a (part_at_index a (numbers_of index))

abbrev pub replaced : ArrayValue → Option Part → ArrayValue → Result ArrayValue FaultKind
replaced a None v = Err F1
replaced a (Some part) v =
    check (same_form v (record { base = a.base; shape = part.shape; cells = [] })) F6 (
    Ok (record { base = a.base; shape = a.shape; cells = take part.start a.cells ++ (v.cells ++ drop (part.start + size part.shape) a.cells) }))

-- the array with another part at an index
abbrev pub replace : ArrayValue → ArrayValue → ArrayValue → Result ArrayValue FaultKind
replace a index v = replaced a (part_at_index a (numbers_of index)) v

abbrev pub naturals : List ℤ → Option (List ℕ)
naturals [] = Some []
naturals (negsuc n ∷ rest) = None
naturals (pos n ∷ rest) = option_map (λ others. n ∷ others) (naturals rest)

abbrev pub short : Option (List ℕ) → Option (List ℕ)
short None = None
short (Some ns) = if nat_le (length ns) 8 then Some ns else None

-- the shape that a vector of at most 8 numbers gives, none of them negative
abbrev pub shape_of_numbers : Option (List ℤ) → Option (List ℕ)
shape_of_numbers None = None
shape_of_numbers (Some zs) = short (naturals zs)

abbrev pub reshaped : Option (List ℕ) → ArrayValue → Result ArrayValue FaultKind
reshaped None a = Err F4
reshaped (Some shape) a =
    check (size shape == length a.cells) F3 (Ok (record { base = a.base; shape = shape; cells = a.cells }))

abbrev pub reshape : ArrayValue → ArrayValue → Result ArrayValue FaultKind
reshape shape a = reshaped (shape_of_numbers (vector_of shape)) a

abbrev pub dim : ArrayValue → ArrayValue
dim a = scalar Int (pos (length a.shape))

abbrev pub shape_vector : ArrayValue → ArrayValue
shape_vector a = vector Int (map pos a.shape)

abbrev pub truth_in : List ℕ → List ℤ → Option Bool
truth_in [] cells = Some (is_true (first_cell cells))
truth_in (n ∷ ns) cells = None

-- what a condition says, or none where it is no scalar
abbrev pub condition : ArrayValue → Option Bool
condition a = truth_in a.shape a.cells
