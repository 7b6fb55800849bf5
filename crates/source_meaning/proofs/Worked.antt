-- The meaning of some programs, computed.
use Rattle.std.proofs.Common.{refl}
use Rattle.std.specs.Int.{int_wrap}
use Rattle.source_meaning.specs.Rows.{WorkedPrograms}

pub worked : WorkedPrograms
unfolding int_wrap
worked = record {
  sum_and_product = refl;
  sum_wraps = refl;
  quotient_wraps = refl;
  quotient_goes_to_zero = refl;
  both_operands = refl;
  last_period_is_cut = refl;
  no_index = refl;
  one_index = refl;
  missing_default = refl;
  empty_fold = refl;
  neutral_once = refl;
  fold_of_two = refl;
  least_fault = refl;
  least_index_of_two = refl;
  first_generator_wins = refl;
  closed_dots = refl;
  open_dots = refl;
  bound_beyond = refl;
  unselected_fault = refl;
  nest = refl;
  empty_inner_frame = refl;
  blinker = refl;
  some_cells_anew = refl;
  negative_extent = refl;
  too_many_elements = refl;
  member_outside = refl;
  cell_of_other_shape = refl;
  scalar_bound = refl;
  shapes_differ = refl;
  no_instance = refl;
  index_too_large = refl;
  index_too_small = refl;
  replaced_cell = refl;
  ten_turns = refl;
  too_many_turns = refl;
  first_turn_untested = refl;
  ten_turns_of_do = refl;
  too_many_turns_of_do = refl;
  deep_enough = refl;
  too_deep = refl;
  inline_is_free = refl;
  least_instance = refl;
  argument_excluded = refl;
}
