-- Loops over cells as the evaluator runs them: nothing is written into the heap before the last cell, but where the loop is marked.
use Rattle.std.specs.Prelude.{◌≡◌, ◌≤ℤ◌, pos, negsuc, ℕ, List, [], ◌∷◌, ◌++◌, ℤ, Option, Some, None}
use Rattle.std.specs.Prelude.{if◌then◌else◌, length, map, option_map, slice_get, ⊤}
use Rattle.sac_base.specs.declared.base.Base.{Base}
use Rattle.sac_base.specs.declared.base.Base.TheVariants.{Int}
use Rattle.sac_base.specs.declared.form.Form.{Form}
use Rattle.sac_base.specs.declared.grid.Grid1.{Grid1}
use Rattle.sac_base.specs.declared.site.Site.{Site}
use Rattle.sac_base.specs.Arrays.{ArrayValue, scalar, size, vector}
use Rattle.sac_base.specs.Grids.{has_vector, members}
use Rattle.sac_base.specs.WithLoops.{Plan, Range, holds}
use Rattle.core_ir.specs.declared.tree.PartedOp.{PartedOp}
use Rattle.core_ir.specs.declared.tree.PartedOp.TheVariants as parted
use Rattle.core_ir.specs.Meaning.{extents}
use Rattle.core_ir.specs.declared.tree.Var.{Var}
use Rattle.counted_code.specs.declared.tree.CodeBlock.{CodeBlock}
use Rattle.counted_code.specs.declared.tree.CodeGen.{CodeGen}
use Rattle.counted_code.specs.declared.tree.CodePart.{CodePart}
use Rattle.counted_code.specs.Loops as machine
use Rattle.counted_code.specs.Loops.{Source, Claimed, Inside, Old, cell_does, cells_do, write_cell}
use Rattle.counted_code.specs.Machine.{Values, bind_value, bind_values, with_index_value, first_value}
use Rattle.counted_code.specs.Values.{Heap, Value, Small, Ref, Doing, cells_of, give, then_go, apart}
use Rattle.counted_code.specs.View.{code_term}
use Rattle.run_store.specs.Targets.{target_of}
use Rattle.run_store.specs.declared.target.Target.{Target}
use Rattle.run_values.specs.declared.value.RunValue.{RunValue}
use Rattle.run_values.specs.Shown.{value_of}
use Rattle.run_loops.specs.declared.cell_loop.CellBody.{CellBody}
use Rattle.run_loops.specs.declared.cell_loop.CellLoop.{CellLoop}
use Rattle.run_loops.specs.declared.cell_loop.CellSource.{CellSource}
use Rattle.run_loops.specs.declared.cell_loop.CellSource.TheVariants.{Generators, Parts}
use Rattle.run_loops.specs.declared.folds.Sum.{Sum}
use Rattle.run_loops.specs.declared.folds.Sum.TheVariants.{Word, Whole}
use Rattle.run_loops.specs.declared.state.Context.{Context}
use Rattle.run_loops.specs.declared.state.State.{State}
use Rattle.counted_code.specs.Pieces.{gen_head}
use Rattle.run_loops.specs.Running.{does_in, formed, IsAt}

-- ---- where a cell comes from

-- the first generator whose range holds an index
abbrev pub held : List CodeGen → List Range → List ℤ → Option CodeGen
held (g ∷ gs) (r ∷ rs) v = if holds r v then Some g else held gs rs v
held _ _ v = None

-- the first part whose grid contains an index
abbrev pub part_held : List CodePart → List ℤ → Option CodePart
part_held [] v = None
part_held (p ∷ ps) v = if has_vector p.grid v then Some p else part_held ps v

-- the cell of a generator, and of a part, at an index
abbrev pub gen_source : Context → Values → List ℤ → CodeGen → Source
gen_source context e index g =
    record { cell = first_value (does_in context (code_term g.body) (with_index_value e (gen_head g) index)); site = g.site }

abbrev pub part_source : Context → Values → List ℤ → CodePart → Source
part_source context e index p =
    record { cell = first_value (does_in context (code_term p.body) (bind_value e p.index (Small (vector Int index)))); site = p.site }

abbrev pub source_in : Context → Values → List CodeGen → List Range → List ℤ → Option Source
source_in context e gens ranges index = option_map (gen_source context e index) (held gens ranges index)

abbrev pub part_source_in : Context → Values → List CodePart → List ℤ → Option Source
part_source_in context e parts index = option_map (part_source context e index) (part_held parts index)

-- what computes the cell of an index, and where it is a fault that it has another form
pub record Body : Type 0 where
  pub block : CodeBlock
  pub index : Var
  pub names : List Var
  pub site : Site

abbrev pub body_of : CellBody → Body
body_of b = record { block = b.block.now; index = b.index; names = b.names.now; site = b.site }

abbrev pub gen_body : CodeGen → Body
gen_body g = record { block = g.body; index = g.index; names = g.names.items; site = g.site }

abbrev pub part_body : CodePart → Body
part_body p = record { block = p.body; index = p.index; names = []; site = p.site }

abbrev pub held_body : CellSource → List Range → List ℤ → Option Body
held_body (Generators gens) ranges v = option_map gen_body (held gens.now ranges v)
held_body (Parts parts) ranges v = option_map part_body (part_held parts.now v)

-- the body of the generator or part at a place
abbrev pub placed_body : CellSource → ℕ → Option Body
placed_body (Generators gens) k = option_map gen_body (slice_get gens.now k)
placed_body (Parts parts) k = option_map part_body (slice_get parts.now k)

-- the variables of a body
abbrev pub body_env : Values → Body → List ℤ → Values
body_env e b index = bind_values (bind_value e b.index (Small (vector Int index))) b.names (map (λ z. Small (scalar Int z)) index)

abbrev pub body_source : Context → Values → List ℤ → Body → Source
body_source context e index b =
    record { cell = first_value (does_in context (code_term b.block) (body_env e b index)); site = b.site }

abbrev pub source_of_body : Context → Values → List ℤ → Option CellBody → Option Source
source_of_body context e index b = option_map (body_source context e index) (option_map body_of b)

-- where the cells of a loop come from
abbrev pub source_at : Context → Values → CellSource → List Range → List ℤ → Option Source
source_at context e (Generators gens) ranges = source_in context e gens.now ranges
source_at context e (Parts parts) ranges = part_source_in context e parts.now

abbrev pub loop_source : Context → Values → CellLoop → List ℤ → Option Source
loop_source context e work = source_at context e work.source work.plan.now.ranges.items

-- ---- cells

-- a cell that has its form and is not released yet
abbrev pub unreleased : Form → Option Source → Doing (Option Value)
unreleased form None = give None
unreleased form (Some s) = then_go (then_go (apart s.cell) (formed form s.site)) (λ v. give (Some v))

abbrev pub IsPresent : Option RunValue → Option Value → Type 0
IsPresent o w = option_map value_of o ≡ w

-- the cells of these indices one after another
abbrev pub cells_run : Form → (List ℤ → Option Source) → List (List ℤ) → Doing (List (Option ArrayValue))
cells_run form source [] = give []
cells_run form source (v ∷ vs) = then_go (cell_does form (source v)) (λ c. then_go (cells_run form source vs) (λ cs. give (c ∷ cs)))

abbrev pub loop_cells : Context → Values → CellLoop → Doing (List (Option ArrayValue))
loop_cells context e work = cells_run work.plan.now.form (loop_source context e work) work.plan.now.frame

-- the same where each cell is written into the buffer of the marked variable before the next one is computed
abbrev pub cells_written : ℕ → Context → Values → CellLoop → Doing (List (Option ArrayValue))
cells_written buffer context e work = cells_do work.plan.now.form (loop_source context e work) (write_cell (Old buffer)) 0 work.plan.now.frame

-- a cell that has its form, of a body
abbrev pub body_cell : Context → Body → Form → List ℤ → Values → Doing Value
body_cell context b form index e = then_go (apart (body_source context e index b).cell) (formed form b.site)

-- ---- results that are not finished

-- the result's place is the machine's, in whose heap the state stands, and nothing is left to release after the loop
pub record IsBegun (place : machine.Target) (s : State) (c : Claimed) : Type 0 where
  pub target : place ≡ c.target
  pub rest : c.rest ≡ None
  pub stands : IsAt s c.heap

abbrev pub fold_target : Option Target → machine.Target
fold_target None = Inside
fold_target (Some t) = target_of t

-- the array that the cells of a fold have come to
abbrev pub array_of : Sum → ArrayValue
array_of (Word base n) = scalar base n
array_of (Whole a) = a

-- ---- old arrays

-- a buffer has as many cells as an array of this shape
abbrev pub IsFull : List ℕ → Value → Heap → Type 0
IsFull shape (Small a) m = ⊤
IsFull shape (Ref buffer base extents) m = length (cells_of m buffer) ≡ size shape

-- ---- parted loops

-- a fold has the shape of a cell, and any other loop that of the frame and of a cell
abbrev pub shape_of_parts : List Grid1 → List ℕ → PartedOp → List ℕ
shape_of_parts frame cell (parted.Fold op neutral) = cell
shape_of_parts frame cell parted.Genarray = extents frame ++ cell
shape_of_parts frame cell (parted.Modarray x) = extents frame ++ cell

-- parts have grids, and no ranges
abbrev pub plan_of_parts : List Grid1 → Base → List ℕ → PartedOp → Plan
plan_of_parts frame base cell op =
    record { ranges = []; indices = members frame; form = record { base = base; shape = cell }; shape = shape_of_parts frame cell op }

-- no gaps, and numbers of 32 bits
pub record IsWordAxis (a : Grid1) : Type 0 where
  pub dense : a.step ≡ pos 1
  pub least : negsuc 2147483647 ≤ℤ a.lo
  pub most : a.hi ≤ℤ pos 2147483648
