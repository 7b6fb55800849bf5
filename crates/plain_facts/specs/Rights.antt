-- What is known of a right side that has no block and no call, and nothing of any other.
use Rattle.std.specs.Prelude.{ℕ, Bool, false, List, Option, None}
use Rattle.sac_base.specs.Arrays.{ArrayValue}
use Rattle.core_ir.specs.Terms.{RightTerm, Plain}
use Rattle.core_facts.specs.Facts.{Fact, Facts, plain_shape, plain_literal, is_constant}

abbrev pub right_shape : RightTerm → Facts → Option (List ℕ)
right_shape (Plain p) k = plain_shape p k
right_shape _ k = None

abbrev pub right_literal : RightTerm → Facts → Option ArrayValue
right_literal (Plain p) k = plain_literal p k
right_literal _ k = None

abbrev pub right_constant : RightTerm → Bool
right_constant (Plain p) = is_constant p
right_constant _ = false

-- of `Plain p` it is `plain_fact p`
abbrev pub fact_of_right : RightTerm → Facts → Fact
fact_of_right r k = record { shape = right_shape r k; literal = right_literal r k; constant = right_constant r }
