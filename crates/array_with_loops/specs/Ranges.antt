-- What the evaluator keeps of a range's components: their bounds come from elements of arrays.
use Rattle.std.specs.Prelude.{ℕ, ℤ, ◌≤ℤ◌, ◌+ℤ◌, pos, negsuc, Bool, true, not, ◌&&◌, ◌||◌, int_le, int_lt, List, [], ◌∷◌}
use Rattle.std.specs.List.{list_all}
use Rattle.sac_base.specs.WithLoops.{Axis, Range, holds_at, span_of, numbers_from}

-- an element of an array, or one more
pub record IsBound (z : ℤ) : Type 0 where
  pub least : negsuc 2147483647 ≤ℤ z
  pub most : z ≤ℤ pos 2147483648

pub record IsStep (z : ℤ) : Type 0 where
  pub least : pos 1 ≤ℤ z
  pub most : z ≤ℤ pos 2147483647

pub record IsAxis (a : Axis) : Type 0 where
  pub lower : IsBound a.lower
  pub upper : IsBound a.upper
  pub step : IsStep a.step
  pub width : IsStep a.width

abbrev pub is_empty_axis : Axis → Bool
is_empty_axis a = not (int_lt a.lower a.upper)

-- each number that the component holds lies from 0 to below an extent
abbrev pub axis_within : ℕ → Axis → Bool
axis_within n a = list_all (λ v. not (holds_at a v) || (int_le (pos 0) v && int_lt v (pos n))) (numbers_from (span_of a).low (span_of a).extent)

abbrev pub axes_within : List ℕ → Range → Bool
axes_within (n ∷ ns) (a ∷ as') = axis_within n a && axes_within ns as'
axes_within _ _ = true

-- an index vector further by so many along the last axis
abbrev pub moved_last : ℕ → List ℤ → List ℤ
moved_last n [] = []
moved_last n (v ∷ []) = (v +ℤ pos n) ∷ []
moved_last n (v ∷ w ∷ vs) = v ∷ moved_last n (w ∷ vs)
