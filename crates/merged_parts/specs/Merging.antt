-- The parts that are made of a loop and the loops in its cells, whose variables have the numbers from n on.
use Rattle.std.specs.Prelude.{ℕ, zero, suc, ◌+◌, ◌≤◌, List, [], ◌∷◌, ◌++◌, length, take, drop, Option, Some, None}
use Rattle.sac_base.specs.declared.grid.Grid1.{Grid1}
use Rattle.core_ir.specs.declared.tree.Var.{Var}
use Rattle.core_ir.specs.Binders.{bound_in}
use Rattle.core_ir.specs.Terms.{BlockTerm, PartsTerm, LetTerm, PartTerm, PartHead, NoParts, Part, chain}
use Rattle.core_subst.specs.Names.{variable}
use Rattle.core_forms.specs.merge.Built.{merged_body}
use Rattle.parted_bodies.specs.Making.{binds_of}
use Rattle.parted_bodies.specs.Numbering.{numbered}
use Rattle.merge_plans.specs.Inners.{parts_in}
use Rattle.merge_plans.specs.Mergeable.{FitBehind}
use Rattle.merge_plans.specs.Openings.{Opened, opened}

-- so many variables, of every other number
abbrev pub every_other : ℕ → ℕ → List Var
every_other zero n = []
every_other (suc k) n = variable n ∷ every_other k (suc (suc n))

-- what stands for the two old indices, and for what a block binds
abbrev pub merged_names : Var → Var → BlockTerm → ℕ → Var → Var
merged_names outer inner b n = numbered (λ x. x) (outer ∷ inner ∷ bound_in b) n

-- the part for one inner part: the components of the new index, the two old ones, and copies of the outer bindings and of the inner part's body
abbrev pub merged_at : List Grid1 → Var → List LetTerm → PartTerm → ℕ → PartTerm
merged_at grid outer lets g n =
    let axes = length grid + length g.head.grid in
    let components = every_other axes (suc (suc n)) in
    record {
      head = record { grid = grid ++ g.head.grid; index = variable n; site = g.head.site };
      body = merged_body g.head.site (variable n) (take (length grid) components) (drop (length grid) components) (every_other axes (suc n))
          (merged_names outer g.head.index (chain lets g.body) (suc n + (axes + axes))) outer g.head.index lets g.body;
    }

abbrev pub merged_inner : List Grid1 → Var → List LetTerm → List PartTerm → ℕ → List PartTerm
merged_inner grid outer lets [] n = []
merged_inner grid outer lets (g ∷ gs) n =
    let first = merged_at grid outer lets g n in
    first ∷ merged_inner grid outer lets gs (n + binds_of (first ∷ []))

abbrev pub part_list : PartsTerm → List PartTerm
part_list NoParts = []
part_list (Part h b rest) = record { head = h; body = b } ∷ part_list rest

-- one part for each part of the inner loop
abbrev pub merged_opened : PartHead → Option Opened → ℕ → List PartTerm
merged_opened h None n = []
merged_opened h (Some o) n = merged_inner h.grid h.index (o.before ++ o.after) (part_list (parts_in o.right)) n

abbrev pub merged_part : PartTerm → ℕ → List PartTerm
merged_part p n = merged_opened p.head (opened p.body) n

abbrev pub merged_all : List PartTerm → ℕ → List PartTerm
merged_all [] n = []
merged_all (p ∷ ps) n =
    let first = merged_part p n in
    first ++ merged_all ps (n + binds_of first)

-- the grids of a part's inner loop fit behind its own
abbrev pub OpenedFits : List Grid1 → Option Opened → Type 0
OpenedFits grid None = Unit {0}
OpenedFits grid (Some o) = FitBehind grid (parts_in o.right)

abbrev pub PartFits : PartTerm → Type 0
PartFits p = OpenedFits p.head.grid (opened p.body)

abbrev pub GridFits : List Grid1 → PartTerm → Type 0
GridFits grid g = length grid + length g.head.grid ≤ 8
