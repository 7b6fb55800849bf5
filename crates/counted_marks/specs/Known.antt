-- What is known of variables at a place of counted code: facts of the core that it is, and bases.
use Rattle.std.specs.Prelude.{ℕ, List, [], ◌∷◌, map, Option}
use Rattle.sac_base.specs.declared.base.Base.{Base}
use Rattle.core_ir.specs.declared.tree.Var.{Var}
use Rattle.core_ir.specs.Terms.{RightTerm, FunTerm, CoreTerm, GenHead, PartHead}
use Rattle.core_facts.specs.Facts.{Facts, note_all, right_facts}
use Rattle.core_facts.specs.Facts
use Rattle.core_facts.specs.constants.Called.{called, params_facts}
use Rattle.counted_marks.specs.Bases.{BaseFacts, note_bases, note_ints, right_bases, typed, params_bases}

-- what calls of each group give
pub record Given : Type 0 where
  pub shapes : ℕ → List (Option (List ℕ))
  pub bases : ℕ → List (Option Base)

pub record Known : Type 0 where
  pub facts : Facts
  pub bases : BaseFacts

-- after a binding
abbrev pub learned : Given → Known → List Var → RightTerm → Known
learned given k xs r = record {
  facts = note_all k.facts xs (right_facts given.shapes r k.facts);
  bases = note_bases k.bases xs (right_bases given.bases r k.bases);
}

-- in the blocks of a loop, where of its parameters only the bases are known
abbrev pub in_loop : Known → List Var → List Var → Known
in_loop k params start = record { facts = note_all k.facts params []; bases = note_bases k.bases params (map k.bases start) }

abbrev pub in_gen : Known → GenHead → Known
in_gen k h = record { facts = note_all k.facts (h.index ∷ h.names) []; bases = note_ints k.bases (h.index ∷ h.names) }

abbrev pub in_part : Known → PartHead → Known
in_part k h = record { facts = Facts.in_part k.facts h; bases = note_ints k.bases (h.index ∷ []) }

-- where a function begins
abbrev pub at_start : FunTerm → Known
at_start f = record { facts = params_facts f; bases = params_bases f }

abbrev pub given : CoreTerm → Given
given core = record { shapes = called core; bases = typed core }
