-- What the evaluator keeps of a frame.
use Rattle.std.specs.Prelude.{ℕ, ℤ, pos, ◌+ℤ◌, ◌≤ℤ◌, ◌≡◌, ◌≤◌, List, [], ◌∷◌, length, not, filter, fold, map, Option, Some, None, false, if◌then◌else◌}
use Rattle.sac_base.specs.Arrays.{size, MOST}
use Rattle.sac_base.specs.WithLoops.{Span, Range, fold_frame, is_empty_box, joined_range, span_of}

abbrev pub spans : List ℤ → List ℕ → List Span
spans (l ∷ ls) (n ∷ ns) = record { low = l; extent = n } ∷ spans ls ns
spans _ _ = []

-- each number of each span is one of 32 bits
abbrev pub EachFits : List ℤ → List ℕ → Type 0
EachFits (l ∷ ls) (n ∷ ns) = ((l +ℤ pos n) ≤ℤ pos 2147483648) × EachFits ls ns
EachFits _ _ = Unit {0}

pub record IsFrame (low : List ℤ) (extents : List ℕ) (count : ℕ) : Type 0 where
  pub ranks : length low ≡ length extents
  pub all : size extents ≡ count
  pub most : count ≤ MOST
  pub fits : EachFits low extents

abbrev pub joined_frame : List Range → List Span
joined_frame ranges = fold_frame (filter (λ r. not (is_empty_box r)) ranges)

-- numbers of two lists added one by one
abbrev pub added : List ℤ → List ℤ → List ℤ
added (a ∷ as') (b ∷ bs) = (a +ℤ b) ∷ added as' bs
added _ _ = []

-- the box of what is joined so far, and a further range
abbrev pub range_with : Option Range → Range → Range
range_with None r = r
range_with (Some before) r = joined_range before r

-- a range whose box is empty does not count
abbrev pub joined_next : Option Range → Range → Option Range
joined_next o r = if is_empty_box r then o else Some (range_with o r)

-- the frame of what is joined so far, and further ranges
abbrev pub frame_with : Option Range → List Range → List Span
frame_with None rest = joined_frame rest
frame_with (Some before) rest = map span_of (fold joined_range before (filter (λ r. not (is_empty_box r)) rest))

pub record IsSomeBox (r : Range) : Type 0 where
  pub some : is_empty_box r ≡ false
  pub rank : length r ≤ 8
