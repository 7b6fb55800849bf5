-- What is known of variables at a place, by the notes of its tables, and of values.
use Rattle.std.specs.Prelude.{ℕ, ◌-◌, List, [], ◌∷◌, drop, length, map, Option, Some}
use Rattle.sac_base.specs.declared.base.Base.{Base}
use Rattle.core_ir.specs.declared.tree.Var.{Var}
use Rattle.core_ir.specs.Terms.{BlockTerm, RightTerm}
use Rattle.core_facts.specs.Facts.{Fact, note, note_all, shape_fact, block_facts, right_facts}
use Rattle.fact_table.specs.Table.{fact_of, facts_of}
use Rattle.counted_marks.specs.Bases.{note_bases, note_ints, block_bases, right_bases}
use Rattle.counted_marks.specs.Known.{Given, Known}
use Rattle.reuse_candidates.specs.Tables.{bases_of}
use Rattle.reuse_candidates.specs.declared.scope.Scope.{Scope}
use Rattle.reuse_candidates.specs.declared.scope.ScopeMark.{ScopeMark}
use Rattle.reuse_candidates.specs.declared.scope.Values.{Values}

abbrev pub known_in : Scope → Known
known_in s = record { facts = facts_of s.facts; bases = bases_of s.bases }

-- how many notes there are
abbrev pub mark_of : Scope → ScopeMark
mark_of s = record { facts = length s.facts; bases = length s.bases }

-- the latest notes taken back, down to so many
abbrev pub taken_back : ScopeMark → Scope → Scope
taken_back m s = record { facts = drop (length s.facts - m.facts) s.facts; bases = drop (length s.bases - m.bases) s.bases }

-- ---- values

pub record Told : Type 0 where
  pub facts : List Fact
  pub bases : List (Option Base)

abbrev pub told : Values → Told
told v = record { facts = map fact_of v.known.items; bases = v.bases.items }

abbrev pub told_vars : Known → List Var → Told
told_vars k xs = record { facts = map k.facts xs; bases = map k.bases xs }

-- what is known of the results of a block, and of the values of a right side
abbrev pub told_block : Given → BlockTerm → Known → Told
told_block g b k = record { facts = block_facts g.shapes b k.facts; bases = block_bases g.bases b k.bases }

abbrev pub told_right : Given → RightTerm → Known → Told
told_right g r k = record { facts = right_facts g.shapes r k.facts; bases = right_bases g.bases r k.bases }

-- ---- what variables are bound to

abbrev pub learned_in : Known → List Var → Told → Known
learned_in k xs t = record { facts = note_all k.facts xs t.facts; bases = note_bases k.bases xs t.bases }

-- an index and the names of its components
abbrev pub of_indices : Known → List Var → Known
of_indices k xs = record { facts = note_all k.facts xs []; bases = note_ints k.bases xs }

-- an index of so many components
abbrev pub of_index : Known → Var → ℕ → Known
of_index k x n = record { facts = note k.facts x (shape_fact (Some (n ∷ []))); bases = note_ints k.bases (x ∷ []) }
