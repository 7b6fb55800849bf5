-- Selections from values.
use Rattle.std.specs.Prelude.{◌≡◌, ℕ, List, ℤ, Option, IfSome, Ok}
use Rattle.sac_base.specs.declared.base.Base.{Base}
use Rattle.sac_base.specs.declared.site.Site.{Site}
use Rattle.sac_base.specs.Arrays.{ArrayValue, scalar}
use Rattle.sac_base.specs.Outcomes.{Ends, at_site}
use Rattle.sac_base.specs.Parts.{part_at, selected, select}
use Rattle.counted_code.specs.Values.{Heap, read, cells_of}
use Rattle.run_values.specs.declared.value.RunValue.{RunValue}
use Rattle.run_values.specs.Shown.{value_of}

-- the part of a value at the index that another is
abbrev pub selected_in : Heap → RunValue → RunValue → Site → Ends ArrayValue
selected_in m array index site = at_site site (select (read m (value_of array)) (read m (value_of index)))

-- the part of an array of these cells at an index vector
abbrev pub part_of : Base → List ℕ → List ℤ → List ℤ → Site → Ends ArrayValue
part_of base shape cells index site = at_site site (selected (record { base = base; shape = shape; cells = cells }) (part_at shape index))

-- the same of an array in a buffer
abbrev pub part_in : Heap → ℕ → Base → List ℕ → List ℤ → Site → Ends ArrayValue
part_in m buffer base shape index site = part_of base shape (cells_of m buffer) index site

-- the element, if there is one, is what the selection gives
abbrev pub IsElement : ArrayValue → List ℤ → Option ℤ → Type 0
IsElement a index element = IfSome element (λ n. selected a (part_at a.shape index) ≡ Ok (scalar a.base n))

abbrev pub IsCellAt : Heap → RunValue → RunValue → Option ℤ → Type 0
IsCellAt m array index element = IfSome element (λ n. select (read m (value_of array)) (read m (value_of index)) ≡ Ok (scalar (read m (value_of array)).base n))
