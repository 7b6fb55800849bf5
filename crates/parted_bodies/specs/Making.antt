-- The parts that are made of a with-loop, whose variables have the numbers from n on.
use Rattle.std.specs.Prelude.{ℕ, suc, ◌+◌, List, [], ◌∷◌, ◌++◌, length, pos, Option, Some, None, option_map, option_to_list, slice_get}
use Rattle.sac_base.specs.declared.base.Base.TheVariants.{Int}
use Rattle.sac_base.specs.declared.grid.Grid1.{Grid1}
use Rattle.sac_base.specs.declared.site.Site.{Site}
use Rattle.sac_base.specs.Arrays.{scalar}
use Rattle.core_ir.specs.declared.tree.Var.{Var}
use Rattle.core_ir.specs.declared.tree.CoreOp.{CoreOp}
use Rattle.core_ir.specs.declared.tree.CoreOp.TheVariants as making
use Rattle.core_ir.specs.declared.tree.PartedOp.{PartedOp}
use Rattle.core_ir.specs.declared.tree.PartedOp.TheVariants as parted
use Rattle.core_ir.specs.Binders.{bound_in, bound_in_parts}
use Rattle.core_ir.specs.Terms.{PlainTerm, BlockTerm, LetTerm, GenTerm, PartTerm, Gives, Bind, Plain, chain, parts_of}
use Rattle.core_subst.specs.copy.Mapped.{mapped}
use Rattle.core_subst.specs.Names.{variable}
use Rattle.parted_bodies.specs.Numbering.{named, numbered}

-- the j-th component of the index and those after it: each by a constant and a selection
abbrev pub component_lets : Site → Var → ℕ → List Var → ℕ → List LetTerm
component_lets s i j [] n = []
component_lets s i j (x ∷ xs) n =
    record { targets = variable n ∷ []; site = s; right = Plain (PlainTerm.Const (scalar Int (pos j))) }
    ∷ record { targets = variable (suc n) ∷ []; site = s; right = Plain (PlainTerm.Select i (variable n)) }
    ∷ component_lets s i (suc j) xs (suc (suc n))

-- the components stand for their names
abbrev pub component_names : (Var → Var) → List Var → ℕ → Var → Var
component_names f [] n = f
component_names f (x ∷ xs) n = component_names (named f x (variable (suc n))) xs (suc (suc n))

-- the body of a generator below the components of the index i
abbrev pub part_body : GenTerm → Var → ℕ → BlockTerm
part_body g i n =
    chain (component_lets g.head.site i 0 g.head.names n)
    (mapped (numbered (component_names (named (λ x. x) g.head.index i) g.head.names n) (bound_in g.body)
    (n + (length g.head.names + length g.head.names))) g.body)

abbrev pub generator_part : GenTerm → List Grid1 → ℕ → PartTerm
generator_part g grid n = record {
  head = record { grid = grid; index = variable n; site = g.head.site };
  body = part_body g (variable n) (suc n);
}

abbrev pub default_part : Var → Site → List Grid1 → ℕ → PartTerm
default_part default s grid n = record { head = record { grid = grid; index = variable n; site = s }; body = Gives (default ∷ []) }

abbrev pub old_part : Var → Site → List Grid1 → ℕ → PartTerm
old_part array s grid n = record {
  head = record { grid = grid; index = variable n; site = s };
  body = Bind (variable (suc n) ∷ []) s (Plain (PlainTerm.Select array (variable n))) (Gives (variable (suc n) ∷ []));
}

-- the part of a grid whose members no generator has
abbrev pub gap_part : CoreOp → Site → List Grid1 → ℕ → Option PartTerm
gap_part (making.Genarray shape default) s grid n = Some (default_part default s grid n)
gap_part (making.Modarray array) s grid n = Some (old_part array s grid n)
gap_part (making.Fold o neutral) s grid n = None

-- the part of a grid with its first generator
abbrev pub label_part : CoreOp → Site → List GenTerm → List Grid1 → Option ℕ → ℕ → Option PartTerm
label_part op s gens grid None n = gap_part op s grid n
label_part op s gens grid (Some m) n = option_map (λ g. generator_part g grid n) (slice_get gens m)

-- how many variables parts bind
abbrev pub binds_of : List PartTerm → ℕ
binds_of ps = length (bound_in_parts (parts_of ps))

abbrev pub made_parts : CoreOp → Site → List GenTerm → List (List Grid1 × Option ℕ) → ℕ → List PartTerm
made_parts op s gens [] n = []
made_parts op s gens (p ∷ ps) n =
    let first = option_to_list (label_part op s gens p.0 p.1 n) in
    first ++ made_parts op s gens ps (n + binds_of first)

abbrev pub parted_op : CoreOp → PartedOp
parted_op (making.Genarray shape default) = parted.Genarray
parted_op (making.Modarray array) = parted.Modarray array
parted_op (making.Fold o neutral) = parted.Fold o neutral

-- the variable whose base the loop's result has
abbrev pub base_var : CoreOp → Var
base_var (making.Genarray shape default) = default
base_var (making.Modarray array) = array
base_var (making.Fold o neutral) = neutral
