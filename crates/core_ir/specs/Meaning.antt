-- What blocks mean: under an environment, with calls by a given meaning, and with at most `turns` turns in each execution of a loop.
use Rattle.std.specs.Prelude.{ℕ, zero, suc, ◌-◌, Bool, true, false, cond, eqb, List, [], ◌∷◌, ◌++◌, map, flat_map, length, fold, ℤ, pos, ◌-ℤ◌, Option}
use Rattle.std.specs.Prelude.{Some, None, Result, Ok, Err, if◌then◌else◌, option_map}
use Rattle.sac_base.specs.declared.base.Base.{Base}
use Rattle.sac_base.specs.declared.base.Base.TheVariants.{Int}
use Rattle.sac_base.specs.declared.faults.FaultKind.{FaultKind}
use Rattle.sac_base.specs.declared.faults.FaultKind.TheVariants.{F6, F7, F9}
use Rattle.sac_base.specs.declared.grid.Grid1.{Grid1}
use Rattle.sac_base.specs.declared.site.Site.{Site}
use Rattle.sac_base.specs.declared.types.ArrayType.{ArrayType}
use Rattle.sac_base.specs.Arrays.{ArrayValue, scalar, vector, same_form}
use Rattle.sac_base.specs.Grids.{has_vector, members}
use Rattle.sac_base.specs.Operators.{unary, binary}
use Rattle.sac_base.specs.Outcomes.{Ends, and_then, fault, at_site, choose, first_result}
use Rattle.sac_base.specs.Parts.{literal, select, replace, reshape, dim, shape_vector, condition}
use Rattle.sac_base.specs.Types.{has}
use Rattle.sac_base.specs.WithLoops.{Generator, Operation, with_value, each, distance, combined}
use Rattle.sac_base.specs.WithLoops
use Rattle.core_ir.specs.declared.tree.Var.{Var}
use Rattle.core_ir.specs.declared.tree.CoreOp.{CoreOp}
use Rattle.core_ir.specs.declared.tree.CoreOp.TheVariants as making
use Rattle.core_ir.specs.declared.tree.PartedOp.{PartedOp}
use Rattle.core_ir.specs.declared.tree.PartedOp.TheVariants as parted
use Rattle.core_ir.specs.Terms.{PlainTerm, BlockTerm, RightTerm, GensTerm, PartsTerm, GenHead, Gives, Bind, Plain, NoGens, Gen, NoParts, Part}

-- ---- environments

-- the array of each variable
abbrev pub Env : Type 0
Env = Var → ArrayValue

-- the number 0 stands for what is not there
abbrev pub missing : ArrayValue
missing = scalar Int (pos 0)

abbrev pub no_variables : Env
no_variables x = missing

-- the environment with one more variable
abbrev pub bind : Env → Var → ArrayValue → Env
bind e x a y = cond (eqb x.0 y.0) a (e y)

-- the environment with these variables
abbrev pub bind_all : Env → List Var → List ArrayValue → Env
bind_all e [] vs = e
bind_all e (x ∷ xs) [] = bind_all (bind e x missing) xs []
bind_all e (x ∷ xs) (v ∷ vs) = bind_all (bind e x v) xs vs

-- ---- what evaluations come to

-- arrays, or the first fault
abbrev pub Answer : Type 0
Answer = Ends (List ArrayValue)

-- what a call of a group gives for arguments, at a site
abbrev pub CallMeaning : Type 0
CallMeaning = ℕ → List ArrayValue → Site → Answer

-- the only result
abbrev pub one : Ends ArrayValue → Answer
one answer = and_then answer (λ a. Ok (a ∷ []))

-- the first of the results
abbrev pub first : Answer → Ends ArrayValue
first answer = and_then answer (λ vs. Ok (first_result vs))

-- ---- right sides without blocks and calls

abbrev pub checked : ArrayType → ArrayValue → Result ArrayValue FaultKind
checked ty a = if has ty a then Ok a else Err F7

abbrev pub plain_value : PlainTerm → Env → Result ArrayValue FaultKind
plain_value (PlainTerm.Const a) e = Ok a
plain_value (PlainTerm.Copy x) e = Ok (e x)
plain_value (PlainTerm.Unary op x) e = Ok (unary op (e x))
plain_value (PlainTerm.Binary op x y) e = binary op (e x) (e y)
plain_value (PlainTerm.Literal xs) e = literal (map e xs)
plain_value (PlainTerm.Dim x) e = Ok (dim (e x))
plain_value (PlainTerm.ShapeOf x) e = Ok (shape_vector (e x))
plain_value (PlainTerm.Reshape x y) e = reshape (e x) (e y)
plain_value (PlainTerm.Select x y) e = select (e x) (e y)
plain_value (PlainTerm.Replace x y z) e = replace (e x) (e y) (e z)
plain_value (PlainTerm.Always kind) e = Err kind
plain_value (PlainTerm.Check x ty) e = checked ty (e x)

-- ---- loops

-- A loop that may make so many turns more. Its test is tried before each of them.
abbrev pub repeat : ℕ → Site → Site → (List ArrayValue → Ends ArrayValue) → (List ArrayValue → Answer) → List ArrayValue → Answer
repeat zero site test_site test body vs =
    and_then (test vs) (λ c. choose test_site (condition c) (fault F9 site) (Ok vs))
repeat (suc left) site test_site test body vs =
    and_then (test vs) (λ c. choose test_site (condition c) (and_then (body vs) (repeat left site test_site test body)) (Ok vs))

-- with `first_body` the first turn is made before the first test
abbrev pub loop_value : Bool → ℕ → Site → Site → (List ArrayValue → Ends ArrayValue) → (List ArrayValue → Answer) → List ArrayValue → Answer
loop_value false turns site test_site test body vs = repeat turns site test_site test body vs
loop_value true turns site test_site test body vs = and_then (body vs) (repeat (turns - 1) site test_site test body)

-- ---- parted loops

-- a part whose body is given as a function of the index
pub record Cells : Type 0 where
  pub grid : List Grid1
  pub site : Site
  pub cell : List ℤ → Ends ArrayValue

-- an array of the form that each cell must have
abbrev pub cell_form : Base → List ℕ → ArrayValue
cell_form base shape = record { base = base; shape = shape; cells = [] }

-- the cell, if it has the form, and else a fault of its part
abbrev pub held : ArrayValue → Site → ArrayValue → Ends (Option ArrayValue)
held form site a = if same_form a form then Ok (Some a) else fault F6 site

-- the cell at an index: that of the part whose grid contains it, and none where no part does
abbrev pub cell_at : ArrayValue → List Cells → List ℤ → Ends (Option ArrayValue)
cell_at form [] index = Ok None
cell_at form (p ∷ ps) index =
    if has_vector p.grid index then and_then (p.cell index) (held form p.site) else cell_at form ps index

-- the numbers of indices along the axes of a frame
abbrev pub extents : List Grid1 → List ℕ
extents frame = map (λ (axis : Grid1). distance (axis.hi -ℤ axis.lo)) frame

abbrev pub elements_of : Option ArrayValue → List ℤ
elements_of None = []
elements_of (Some a) = a.cells

-- the elements of cells one after another
abbrev pub joined : Base → List ℕ → List (Option ArrayValue) → ArrayValue
joined base shape found = record { base = base; shape = shape; cells = flat_map elements_of found }

-- the neutral value of a fold has the form of the cells
abbrev pub neutral_fits : ArrayValue → PartedOp → Env → Bool
neutral_fits form (parted.Fold op x) e = same_form (e x) form
neutral_fits form _ e = true

-- what a parted loop makes of its cells
abbrev pub made_of : List Grid1 → Base → List ℕ → PartedOp → Env → List (Option ArrayValue) → ArrayValue
made_of frame base cell parted.Genarray e found = joined base (extents frame ++ cell) found
made_of frame base cell (parted.Modarray x) e found = joined base (extents frame ++ cell) found
made_of frame base cell (parted.Fold op x) e found = fold (combined op) (e x) found

-- the cells of the frame's indices in row-major order, or the fault of the least index that has one; before any cell, F6 at the loop's site where
-- the neutral value has another form
abbrev pub parted_value : List Grid1 → Base → List ℕ → PartedOp → List Cells → Site → Env → Ends ArrayValue
parted_value frame base cell op parts site e =
    if neutral_fits (cell_form base cell) op e
    then and_then (each (cell_at (cell_form base cell) parts) (members frame)) (λ found. Ok (made_of frame base cell op e found))
    else fault F6 site

-- ---- with-loops

-- the number of index names, where there are names
abbrev pub name_count : List Var → Option ℕ
name_count [] = None
name_count (x ∷ xs) = Some (length (x ∷ xs))

-- a generator with its operands and its cells
abbrev pub generator : GenHead → (List ℤ → Ends ArrayValue) → Env → Generator
generator h cell e = record {
  bounds = record {
    lower = option_map e h.lower;
    lower_closed = h.lower_closed;
    names = name_count h.names;
    upper = option_map e h.upper;
    upper_closed = h.upper_closed;
    step = option_map e h.step;
    width = option_map e h.width;
    site = h.site;
  };
  cell = cell;
}

abbrev pub operation : CoreOp → Site → Env → Operation
operation (making.Genarray x y) site e = WithLoops.genarray (e x) (e y) site
operation (making.Modarray x) site e = WithLoops.modarray (e x) site
operation (making.Fold op x) site e = WithLoops.fold_by op (e x) site

-- the environment in a generator's body: the index, and its components under the names
abbrev pub with_index : Env → GenHead → List ℤ → Env
with_index e h index = bind_all (bind e h.index (vector Int index)) h.names (map (scalar Int) index)

-- ---- blocks

module _ (calls : CallMeaning) (turns : ℕ) where
  abbrev mutual
    pub run : BlockTerm → Env → Answer
    run (Gives xs) e = Ok (map e xs)
    run (Bind xs s r b) e = and_then (right_value r s e) (λ vs. run b (bind_all e xs vs))

    pub right_value : RightTerm → Site → Env → Answer
    right_value (Plain p) s e = one (at_site s (plain_value p e))
    right_value (RightTerm.If x a b) s e = choose s (condition (e x)) (run a e) (run b e)
    right_value (RightTerm.Loop first_body start params test body test_site) s e =
        loop_value first_body turns s test_site (λ vs. first (run test (bind_all e params vs))) (λ vs. run body (bind_all e params vs)) (map e start)
    right_value (RightTerm.Call group xs) s e = calls group (map e xs) s
    right_value (RightTerm.With op gens) s e = one (with_value (generators gens e) (operation op s e))
    right_value (RightTerm.Parted frame base cell op parts) s e =
        one (parted_value frame base cell op (cells parts e) s e)

    pub generators : GensTerm → Env → List Generator
    generators NoGens e = []
    generators (Gen h b rest) e = generator h (λ index. first (run b (with_index e h index))) e ∷ generators rest e

    pub cells : PartsTerm → Env → List Cells
    cells NoParts e = []
    cells (Part h b rest) e =
        record { grid = h.grid; site = h.site; cell = λ index. first (run b (bind e h.index (vector Int index))) } ∷ cells rest e
