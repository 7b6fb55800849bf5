-- What is known of variables in a cell of a loop, by the notes of its tables, and what uses an array there at the own index alone.
use Rattle.std.specs.Prelude.{ℕ, ◌-◌, ◌&&◌, Bool, true, false, List, [], ◌∷◌, drop, length, map, pos, replicate, Option, Some, None, Vec}
use Rattle.std.specs.declared.alloc.Global.{Global}
use Rattle.core_ir.specs.declared.tree.Var.{Var}
use Rattle.core_ir.specs.Terms.{GenHead, PartHead, RightTerm}
use Rattle.core_facts.specs.Facts.{Fact, Facts, block_facts, note_all, right_facts}
use Rattle.core_facts.specs.Facts
use Rattle.core_loops.specs.Indices.{IndexFact, IndexFacts, Plus, learn_index, note_index, note_others}
use Rattle.core_uses.specs.Tests.{head_avoided}
use Rattle.counted_code.specs.Pieces.{CodeGenTerm, CodePartTerm}
use Rattle.counted_code.specs.Terms.{CodeTerm, CodeRightTerm, CodeGensTerm, CodePartsTerm, core_of, core_of_right}
use Rattle.counted_marks.specs.Marks.{own_gens, own_inner, own_only, own_right}
use Rattle.fact_table.specs.declared.known.Known.{Known}
use Rattle.fact_table.specs.Table.{fact_of, facts_of}
use Rattle.index_table.specs.Table.{indices_of, no_indices}
use Rattle.plain_facts.specs.Called.{shapes_of}
use Rattle.reuse_candidates.specs.declared.cells.CellMark.{CellMark}
use Rattle.reuse_candidates.specs.declared.cells.CellScope.{CellScope}
use Rattle.reuse_candidates.specs.declared.cells.Search.{Search}

pub record CellKnown : Type 0 where
  pub facts : Facts
  pub indices : IndexFacts

abbrev pub known_in_cell : CellScope → CellKnown
known_in_cell a = record { facts = facts_of a.facts; indices = indices_of a.indices }

-- how many notes there are
abbrev pub cell_mark : CellScope → CellMark
cell_mark a = record { facts = length a.facts; indices = length a.indices }

-- the latest notes taken back, down to so many
abbrev pub undone : CellMark → CellScope → CellScope
undone m a = record { facts = drop (length a.facts - m.facts) a.facts; indices = drop (length a.indices - m.indices) a.indices }

-- ---- what is learned

abbrev pub learned_in_cell : ℕ → CellKnown → List Var → RightTerm → List Fact → CellKnown
learned_in_cell n k xs r fs = record { facts = note_all k.facts xs fs; indices = learn_index n k.indices xs r k.facts }

abbrev pub in_turn : CellKnown → List Var → CellKnown
in_turn k params = record { facts = note_all k.facts params []; indices = note_others k.indices params }

abbrev pub in_gen : CellKnown → GenHead → CellKnown
in_gen k h = in_turn k (h.index ∷ h.names)

abbrev pub in_part : CellKnown → PartHead → IndexFact → CellKnown
in_part k h f = record { facts = Facts.in_part k.facts h; indices = note_index k.indices h.index f }

-- ---- uses at the own index

module _ (s : Search) where
  abbrev pub is_own : CodeTerm → CellKnown → Bool
  is_own t k = own_only (shapes_of s.called.now) s.array s.axes t k.facts k.indices

  abbrev pub right_is_own : CodeRightTerm → CellKnown → Bool
  right_is_own r k = own_right (shapes_of s.called.now) s.array s.axes r k.facts k.indices

  abbrev pub gens_are_own : CodeGensTerm → CellKnown → Bool
  gens_are_own gs k = own_gens (shapes_of s.called.now) s.array s.axes gs k.facts k.indices

  abbrev pub parts_are_own : CodePartsTerm → CellKnown → Bool
  parts_are_own ps k = own_inner (shapes_of s.called.now) s.array s.axes ps k.facts k.indices

  abbrev pub gen_is_own : CodeGenTerm → CellKnown → Bool
  gen_is_own g k = head_avoided s.array g.head && is_own g.body (in_gen k g.head)

  -- a part whose index is this beside the index that is looked for
  abbrev pub part_is_own : IndexFact → CodePartTerm → CellKnown → Bool
  part_is_own f p k = is_own p.body (in_part k p.head f)

  -- a part of the loop itself
  abbrev pub outer_is_own : CodePartTerm → Facts → Bool
  outer_is_own p k = part_is_own (Plus (replicate s.axes (pos 0))) p (record { facts = k; indices = no_indices })

-- ---- what is known of values, where the array is used at the own index alone

abbrev pub known_if : Bool → List Fact → Option (List Fact)
known_if true fs = Some fs
known_if false fs = None

abbrev pub told_if : Bool → Option (List Fact) → Option (List Fact)
told_if true found = found
told_if false found = None

abbrev pub seen : Option (Vec Known Global) → Option (List Fact)
seen None = None
seen (Some known) = Some (map fact_of known.items)

module _ (s : Search) where
  abbrev pub block_tells : CodeTerm → CellKnown → Option (List Fact)
  block_tells t k = known_if (is_own s t k) (block_facts (shapes_of s.called.now) (core_of t) k.facts)

  abbrev pub right_tells : CodeRightTerm → CellKnown → Option (List Fact)
  right_tells r k = known_if (right_is_own s r k) (right_facts (shapes_of s.called.now) (core_of_right r) k.facts)
