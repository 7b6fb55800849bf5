-- What a with-loop gives, once its bounds and the arguments of its operation are known.
use Rattle.std.specs.Prelude.{ℕ, zero, suc, ◌+◌, List, [], ◌∷◌, ◌++◌, ℤ, pos, ◌+ℤ◌, ◌-ℤ◌, int_lt, int_le, Bool, true, false, ◌&&◌, ◌||◌, not}
use Rattle.std.specs.Prelude.{if◌then◌else◌, Option, Some, None, Result, Ok, Err, map, length, take, drop, replicate, flat_map, filter, fold, nat_le}
use Rattle.std.specs.Prelude.{◌==◌}
use Rattle.std.specs.List.{list_all, list_any, zip}
use Rattle.std.specs.Int.{int_min, int_max, int_rem_euclid}
use Rattle.sac_base.specs.declared.op.Op.{Op}
use Rattle.sac_base.specs.declared.site.Site.{Site}
use Rattle.sac_base.specs.declared.form.Form.{Form}
use Rattle.sac_base.specs.declared.faults.FaultKind.{FaultKind}
use Rattle.sac_base.specs.declared.faults.FaultKind.TheVariants.{F4, F5, F6, F8}
use Rattle.sac_base.specs.Arrays.{ArrayValue, size, MOST, form_of, same_base, same_shape}
use Rattle.sac_base.specs.Operators.{binary, all_of}
use Rattle.sac_base.specs.Parts.{vector_of, shape_of_numbers, part_at, cells_at, Part}
use Rattle.sac_base.specs.Outcomes.{Ends, and_then, fault}

-- the parts of a generator that say which indices it holds, evaluated; a bound that is none is a dot, and a step or width that is none is left out
pub record Bounds : Type 0 where
  pub lower : Option ArrayValue
  pub lower_closed : Bool
  -- how many names its index has, where it is a list
  pub names : Option ℕ
  pub upper : Option ArrayValue
  pub upper_closed : Bool
  pub step : Option ArrayValue
  pub width : Option ArrayValue
  pub site : Site

pub record Generator : Type 0 where
  pub bounds : Bounds
  -- what its block and its expression give at an index vector
  pub cell : List ℤ → Ends ArrayValue

-- an operation whose arguments have been evaluated
pub data Operation : Type 0 where
  genarray : (shape : ArrayValue) (default : ArrayValue) (site : Site) → Operation
  modarray : (array : ArrayValue) (site : Site) → Operation
  fold_by : (op : Op) (neutral : ArrayValue) (site : Site) → Operation

-- ---- boxes

-- so many whole numbers, from the first on
pub record Span : Type 0 where
  pub low : ℤ
  pub extent : ℕ

abbrev pub numbers_from : ℤ → ℕ → List ℤ
numbers_from low zero = []
numbers_from low (suc n) = low ∷ numbers_from (low +ℤ pos 1) n

-- the vectors whose components lie in the spans, in row-major order
abbrev pub box : List Span → List (List ℤ)
box [] = [] ∷ []
box (a ∷ rest) = flat_map (λ v. map (λ vs. v ∷ vs) (box rest)) (numbers_from a.low a.extent)

-- how many they are
abbrev pub box_size : List Span → ℕ
box_size spans = size (map (λ (a : Span). a.extent) spans)

-- from 0 to below each extent
abbrev pub shape_spans : List ℕ → List Span
shape_spans shape = map (λ n. record { low = pos 0; extent = n }) shape

-- the vector is an index of the shape
abbrev pub lies_in : List ℕ → List ℤ → Bool
lies_in [] [] = true
lies_in (n ∷ ns) (v ∷ vs) = int_le (pos 0) v && int_lt v (pos n) && lies_in ns vs
lies_in [] (v ∷ vs) = false
lies_in (n ∷ ns) [] = false

-- ---- ranges

-- one component of a generator whose bounds have been checked, the lower bound in it and the upper one not
pub record Axis : Type 0 where
  pub lower : ℤ
  pub upper : ℤ
  pub step : ℤ
  pub width : ℤ

abbrev pub Range : Type 0
Range = List Axis

abbrev pub holds_at : Axis → ℤ → Bool
holds_at a v = int_le a.lower v && int_lt v a.upper && int_lt (int_rem_euclid (v -ℤ a.lower) a.step) a.width

-- the vector is a member of the range: lower <= v < upper and (v - lower) mod step < width in every component
abbrev pub holds : Range → List ℤ → Bool
holds [] [] = true
holds (a ∷ rest) (v ∷ vs) = holds_at a v && holds rest vs
holds [] (v ∷ vs) = false
holds (a ∷ rest) [] = false

-- a whole number that is not negative, and 0 for another
abbrev pub distance : ℤ → ℕ
distance (pos n) = n
distance _ = 0

-- from the lower bound up to, and not with, the upper one
abbrev pub span_of : Axis → Span
span_of a = record { low = a.lower; extent = distance (a.upper -ℤ a.lower) }

-- the members of a range in row-major order
abbrev pub members : Range → List (List ℤ)
members r = filter (holds r) (box (map span_of r))

-- ---- the parts of generators, checked

abbrev pub cell_count : Option ArrayValue → Option ℕ
cell_count None = None
cell_count (Some a) = Some (length a.cells)

abbrev pub first_of : List (Option ℕ) → ℕ → ℕ
first_of [] otherwise = otherwise
first_of (None ∷ rest) otherwise = first_of rest otherwise
first_of (Some n ∷ rest) otherwise = n

-- the numbers of elements of a generator's parts, in order
abbrev pub counts : Bounds → List (Option ℕ)
counts g = g.names ∷ cell_count g.lower ∷ cell_count g.upper ∷ cell_count g.step ∷ cell_count g.width ∷ []

-- the length of the index: that of the first part that is given
abbrev pub index_length : List Bounds → ℕ → ℕ
index_length gs otherwise = first_of (flat_map counts gs) otherwise

-- a vector of n elements
abbrev pub as_vector : ℕ → Option (List ℤ) → Option (List ℤ)
as_vector n None = None
as_vector n (Some zs) = if length zs == n then Some zs else None

-- a part that is given, or what stands for one that is not
abbrev pub part_or : ℕ → List ℤ → Option ArrayValue → Option (List ℤ)
part_or n otherwise None = as_vector n (Some otherwise)
part_or n otherwise (Some a) = as_vector n (vector_of a)

abbrev pub raised : Bool → Option (List ℤ) → Option (List ℤ)
raised false zs = zs
raised true None = None
raised true (Some zs) = Some (map (λ z. z +ℤ pos 1) zs)

abbrev pub all_positive : Option (List ℤ) → Option (List ℤ)
all_positive None = None
all_positive (Some zs) = if list_all (int_le (pos 1)) zs then Some zs else None

abbrev pub names_fit : ℕ → Option ℕ → Bool
names_fit n None = true
names_fit n (Some m) = m == n

-- a lower dot is zeros, and a lower bound that is no member is raised by 1
abbrev pub lower_of : ℕ → Bounds → Option (List ℤ)
lower_of n g = raised (not g.lower_closed) (part_or n (replicate n (pos 0)) g.lower)

-- an upper dot is the last index of the frame, and an upper bound that may be a member is raised by 1
abbrev pub upper_of : ℕ → List ℕ → Bounds → Option (List ℤ)
upper_of n frame g = raised g.upper_closed (part_or n (map (λ m. pos m -ℤ pos 1) frame) g.upper)

-- a step or a width: a missing one is ones
abbrev pub step_of : ℕ → Option ArrayValue → Option (List ℤ)
step_of n part = all_positive (part_or n (replicate n (pos 1)) part)

abbrev pub axes : List ℤ → List ℤ → List ℤ → List ℤ → Range
axes (l ∷ ls) (u ∷ us) (s ∷ ss) (w ∷ ws) = record { lower = l; upper = u; step = s; width = w } ∷ axes ls us ss ws
axes _ _ _ _ = []

abbrev pub range_from : Option (List ℤ) → Option (List ℤ) → Option (List ℤ) → Option (List ℤ) → Option Range
range_from (Some lower) (Some upper) (Some step) (Some width) = Some (axes lower upper step width)
range_from _ _ _ _ = None

-- no member lies outside the frame; a fold has no such bound
abbrev pub all_within : Option (List ℕ) → Range → Bool
all_within None r = true
all_within (Some frame) r = list_all (lies_in frame) (members r)

abbrev pub within_frame : Option (List ℕ) → Site → Option Range → Ends Range
within_frame frame site None = fault F5 site
within_frame frame site (Some r) = if all_within frame r then Ok r else fault F5 site

-- a generator whose index has n components, which are at most `most`; `frame` is where its members must lie, and `dots` is the frame that an upper
-- dot speaks of
abbrev pub range_of : ℕ → ℕ → Option (List ℕ) → List ℕ → Bounds → Ends Range
range_of n most frame dots g =
    if nat_le n 8 && nat_le n most && names_fit n g.names
    then within_frame frame g.site (range_from (lower_of n g) (upper_of n dots g) (step_of n g.step) (step_of n g.width))
    else fault F5 g.site

-- what each of a list gives, or the first fault
abbrev pub each : {A B : Type 0} → (A → Ends B) → List A → Ends (List B)
each f xs = all_of (map f xs)

-- ---- the plan: all that is known before the first cell

pub record Plan : Type 0 where
  -- the range of each generator
  pub ranges : List Range
  -- the indices of the frame in row-major order
  pub indices : List (List ℤ)
  -- what each cell must be
  pub form : Form
  -- the shape of the result
  pub shape : List ℕ

abbrev pub genarray_plan : List Bounds → Option (List ℕ) → ArrayValue → Site → Ends Plan
genarray_plan gs None default site = fault F4 site
genarray_plan gs (Some frame) default site =
    if nat_le (length (frame ++ default.shape)) 8 then
    (if nat_le (size frame) MOST && nat_le (size (frame ++ default.shape)) MOST then
    and_then (each (range_of (length frame) 8 (Some frame) frame) gs) (λ ranges.
    Ok (record { ranges = ranges; indices = box (shape_spans frame); form = form_of default; shape = frame ++ default.shape }))
    else fault F8 site) else fault F4 site

-- the frame is the first n extents of the array, and a cell has the rest
abbrev pub modarray_plan : List Bounds → ℕ → ArrayValue → Site → Ends Plan
modarray_plan gs n array site =
    let frame = take n array.shape in
    and_then (each (range_of n (length array.shape) (Some frame) frame) gs) (λ ranges.
    if nat_le (size frame) MOST
    then Ok (record {
      ranges = ranges;
      indices = box (shape_spans frame);
      form = record { base = array.base; shape = drop n array.shape };
      shape = array.shape;
    })
    else fault F8 site)

-- the box from the lower to the upper bound is empty
abbrev pub is_empty_box : Range → Bool
is_empty_box r = list_any (λ (a : Axis). not (int_lt a.lower a.upper)) r

-- the least span that holds both
abbrev pub joined_axis : Axis → Axis → Axis
joined_axis a b = record a { lower = int_min a.lower b.lower; upper = int_max a.upper b.upper }

abbrev pub joined_range : Range → Range → Range
joined_range (a ∷ as') (b ∷ bs) = joined_axis a b ∷ joined_range as' bs
joined_range _ _ = []

-- the least box that holds the boxes of these ranges; where there are none it has no index
abbrev pub fold_frame : List Range → List Span
fold_frame [] = record { low = pos 0; extent = 0 } ∷ []
fold_frame (r ∷ rest) = map span_of (fold joined_range r rest)

abbrev pub fold_plan : List Bounds → ℕ → ArrayValue → Site → Ends Plan
fold_plan gs n neutral site =
    and_then (each (range_of n 8 None []) gs) (λ ranges.
    let frame = fold_frame (filter (λ r. not (is_empty_box r)) ranges) in
    if nat_le (box_size frame) MOST
    then Ok (record { ranges = ranges; indices = box frame; form = form_of neutral; shape = neutral.shape })
    else fault F8 site)

abbrev pub plan : List Bounds → Operation → Ends Plan
plan gs (genarray shape default site) = genarray_plan gs (shape_of_numbers (vector_of shape)) default site
plan gs (modarray array site) = modarray_plan gs (index_length gs (length array.shape)) array site
plan gs (fold_by op neutral site) = fold_plan gs (index_length gs 0) neutral site

-- ---- the cells

-- the first generator whose range holds the index
abbrev pub holder : List Generator → List Range → List ℤ → Option Generator
holder (g ∷ gs) (r ∷ rs) v = if holds r v then Some g else holder gs rs v
holder _ _ v = None

abbrev pub fits_form : Form → ArrayValue → Bool
fits_form form a = same_base a.base form.base && same_shape a.shape form.shape

-- its cell, which must have the given form, or none
abbrev pub held_cell : Form → Option Generator → List ℤ → Ends (Option ArrayValue)
held_cell form None v = Ok None
held_cell form (Some g) v =
    and_then (g.cell v) (λ c. if fits_form form c then Ok (Some c) else fault F6 g.bounds.site)

abbrev pub cell_at : Form → List Generator → List Range → List ℤ → Ends (Option ArrayValue)
cell_at form gs ranges v = held_cell form (holder gs ranges v) v

-- the cells of all indices, or the fault of the first index that has one
abbrev pub cells_of : Form → List Generator → List Range → List (List ℤ) → Ends (List (Option ArrayValue))
cells_of form gs ranges = each (cell_at form gs ranges)

-- ---- what is made of the cells

abbrev pub cell_or : ArrayValue → Option ArrayValue → List ℤ
cell_or otherwise None = otherwise.cells
cell_or otherwise (Some c) = c.cells

abbrev pub cells_of_part : ArrayValue → Option Part → List ℤ
cells_of_part array None = []
cells_of_part array (Some part) = cells_at array part

-- the new cell at an index, or the old one
abbrev pub cell_or_old : ArrayValue → List ℤ → Option ArrayValue → List ℤ
cell_or_old array v None = cells_of_part array (part_at array.shape v)
cell_or_old array v (Some c) = c.cells

abbrev pub or_first : ArrayValue → Result ArrayValue FaultKind → ArrayValue
or_first a (Ok b) = b
or_first a (Err kind) = a

-- the operator between a value and a cell of its shape
abbrev pub combined : Op → ArrayValue → Option ArrayValue → ArrayValue
combined op a None = a
combined op a (Some c) = or_first a (binary op a c)

-- the result, from the cells of the generators that hold
abbrev pub finish : Operation → Plan → List (Option ArrayValue) → ArrayValue
finish (genarray shape default site) p found =
    record { base = default.base; shape = p.shape; cells = flat_map (cell_or default) found }
finish (modarray array site) p found =
    record { base = array.base; shape = p.shape; cells = flat_map (λ (q : List ℤ × Option ArrayValue). cell_or_old array q.0 q.1) (zip p.indices found) }
finish (fold_by op neutral site) p found = fold (combined op) neutral found

-- the value of a with-loop
abbrev pub with_value : List Generator → Operation → Ends ArrayValue
with_value gs op =
    and_then (plan (map (λ (g : Generator). g.bounds) gs) op) (λ p.
    and_then (cells_of p.form gs p.ranges p.indices) (λ found.
    Ok (finish op p found)))
