-- What the evaluator's functions tell of the machine.
use Rattle.std.specs.Prelude.{◌≡◌, ℕ, ◌+◌, ◌++◌, Bool, true, false, List, [], ◌∷◌, ℤ, length, map, fold, Option, Some, None, Result, Ok}
use Rattle.std.specs.Prelude.{Err, if◌then◌else◌, ⊤}
use Rattle.sac_base.specs.declared.base.Base.TheVariants.{Int}
use Rattle.sac_base.specs.declared.faults.FaultKind.TheVariants.{F3, F6, F10}
use Rattle.sac_base.specs.declared.faults.Fault.{Fault}
use Rattle.sac_base.specs.declared.form.Form.{Form}
use Rattle.sac_base.specs.declared.site.Site.{Site}
use Rattle.sac_base.specs.declared.op.Op.{Op}
use Rattle.sac_base.specs.declared.types.ArrayType.{ArrayType}
use Rattle.sac_base.specs.Arrays.{ArrayValue, vector}
use Rattle.sac_base.specs.Parts.{condition}
use Rattle.sac_base.specs.WithLoops.{Plan, combined, fits_form}
use Rattle.core_ir.specs.declared.tree.Var.{Var}
use Rattle.core_ir.specs.Terms.{GenHead, PartHead}
use Rattle.core_ir.specs.Meaning.{joined}
use Rattle.counted_code.specs.declared.tree.CodeGen.{CodeGen}
use Rattle.counted_code.specs.declared.tree.CodePart.{CodePart}
use Rattle.counted_code.specs.declared.tree.CodeStep.{CodeStep}
use Rattle.counted_code.specs.Loops.{CodeGenerator, CodeCells, Job, holder, part_holder}
use Rattle.counted_code.specs.Pieces.{gen_head}
use Rattle.counted_code.specs.Terms.{CodeTerm, CodeRightTerm}
use Rattle.counted_code.specs.Values.{Heap, Value, Small, Ended, Done, Failed, Doing, give, then_go, choose_does, fails, apart, read, release}
use Rattle.counted_code.specs.Machine.{Values, DoesCalls, reads, bounds_of, bind_value, bind_values, with_index_value, first_value, first_of, does, right_does}
use Rattle.counted_code.specs.Outcome.{call_does, deeper_does, inline_does}
use Rattle.counted_code.specs.View.{code_program, code_term, steps_before}
use Rattle.array_with_loops.specs.Cells.{array_from}
use Rattle.sac_base.specs.declared.stop.Stop.{Stop}
use Rattle.sac_base.specs.declared.stop.Stop.TheVariants.{Faulted, Memory}
use Rattle.phase_count.specs.Tallies.{Counts}
use Rattle.run_store.specs.Stands.{Stands}
use Rattle.run_values.specs.declared.frames.Frames.{Frames}
use Rattle.run_values.specs.declared.value.RunValue.{RunValue}
use Rattle.run_values.specs.Scopes.{current, outer}
use Rattle.run_values.specs.Shown.{value_of}
use Rattle.run_loops.specs.declared.state.Context.{Context}
use Rattle.run_loops.specs.declared.state.State.{State}

-- ---- the machine as it runs here

-- what calls do, with the levels that are left
abbrev pub calls_in : Context → DoesCalls
calls_in context =
    let code = code_program context.code.now in
    let outer = deeper_does code context.turns context.left in
    call_does code outer (inline_does code context.turns outer context.nest)

abbrev pub does_in : Context → CodeTerm → Values → Doing (List Value)
does_in context t e = does (calls_in context) context.turns t e

abbrev pub right_in : Context → CodeRightTerm → Site → Values → Doing (List Value)
right_in context r s e = right_does (calls_in context) context.turns r s e

-- a turn of a loop, and its test
abbrev pub turn_in : Context → List Var → CodeTerm → Values → List Value → Doing (List Value)
turn_in context params body e vs = does_in context body (bind_values e params vs)

-- what the value of a test says, which is released
abbrev pub truth_of : Site → Value → Doing Bool
truth_of site c h = choose_does site (condition (read h c)) (give true) (give false) (release c h)

abbrev pub test_in : Context → List Var → CodeTerm → Values → List Value → Doing Value
test_in context params test e vs = first_value (turn_in context params test e vs)

-- a cell that has its form, and that is not released yet
abbrev pub formed : Form → Site → Value → Doing Value
formed form site v h = if fits_form form (read h v) then Done v h else fails F6 site h

abbrev pub cell_in : Context → GenHead → CodeTerm → Form → List ℤ → Values → Doing Value
cell_in context head body form index e = then_go (apart (first_value (does_in context body (with_index_value e head index)))) (formed form head.site)

abbrev pub part_in : Context → PartHead → CodeTerm → Form → List ℤ → Values → Doing Value
part_in context head body form index e =
    then_go (apart (first_value (does_in context body (bind_value e head.index (Small (vector Int index)))))) (formed form head.site)

-- ---- what is told

-- the state stands for a heap of the machine
pub record IsAt (s : State) (m : Heap) : Type 0 where
  pub heap : Stands s.heap m
  pub phases : Counts s.phases m.phases

-- the machine has the same fault, and as many phases; want of memory says nothing
abbrev pub ToldStop : {B : Type 0} → Stop → State → Ended B → Type 0
ToldStop (Faulted f) s (Failed g phases) = (f ≡ g) × Counts s.phases phases
ToldStop Memory s m = ⊤
ToldStop _ _ _ = ⊥

-- the answer agrees with the machine's, in whose heap the state stands, or both have the same fault
abbrev pub Told : {A B : Type 0} → (A → B → Type 0) → Result A Stop → State → Ended B → Type 0
Told Agrees (Ok a) s (Done b k) = Agrees a b × IsAt s k
Told Agrees (Err stop) s m = ToldStop stop s m
Told _ _ _ _ = ⊥

-- the value is the machine's
abbrev pub IsValue : RunValue → Value → Type 0
IsValue v w = value_of v ≡ w

-- the first of the machine's values
abbrev pub IsFirst : RunValue → List Value → Type 0
IsFirst v ws = value_of v ≡ first_of ws

-- the only one of the machine's values
abbrev pub IsOnly : RunValue → List Value → Type 0
IsOnly v ws = ws ≡ value_of v ∷ []

-- the machine's values are appended
abbrev pub Appends : List RunValue → List RunValue → List Value → Type 0
Appends old new ws = map value_of new ≡ map value_of old ++ ws

-- the scopes are as before
abbrev pub SameScopes : Frames → Frames → Type 0
SameScopes f g = (current g ≡ current f) × (outer g ≡ outer f)

-- the scopes around the last one are as before
abbrev pub SameOuter : Frames → Frames → Type 0
SameOuter f g = outer g ≡ outer f

-- the last scope has ended
abbrev pub EndsScope : Frames → Frames → Type 0
EndsScope f g = (e : Values) (es : List Values) → outer f ≡ e ∷ es → (current g ≡ e) × (outer g ≡ es)

-- variables are bound in the last scope, which then has these values; all else is as before
pub record Binds (s t : State) (e : Values) : Type 0 where
  pub inside : current t.frames ≡ e
  pub outside : outer t.frames ≡ outer s.frames
  pub heap : t.heap ≡ s.heap
  pub phases : t.phases ≡ s.phases

abbrev pub vars_of : List (Var × ArrayType) → List Var
vars_of params = map (λ (p : Var × ArrayType). p.0) params

-- after these steps the machine has the steps that are left and whatever comes, in the scope as it is then
pub record Reaches (context : Context) (steps : List CodeStep) (s : State) (m : Heap) (left : List CodeStep) (t : State) : Type 0 where
  pub heap : Heap
  pub stands : IsAt t heap
  pub goes_on : (rest : CodeTerm) → does_in context (steps_before steps rest) (current s.frames) m
      ≡ does_in context (steps_before left rest) (current t.frames) heap

-- the machine fails in these steps, whatever comes
pub record FailsIn (context : Context) (steps : List CodeStep) (s : State) (m : Heap) (f : Fault) (t : State) : Type 0 where
  pub phases : List ℕ
  pub counted : Counts t.phases phases
  pub always : (rest : CodeTerm) → does_in context (steps_before steps rest) (current s.frames) m ≡ Failed f phases

-- these steps are made, or the machine fails in them
abbrev pub ToldSteps : Context → List CodeStep → State → State → Heap → Result (Unit {0}) Stop → Type 0
ToldSteps context steps s t m (Ok _) = Reaches context steps s m [] t
ToldSteps context steps s t m (Err (Faulted f)) = FailsIn context steps s m f t
ToldSteps context steps s t m (Err Memory) = ⊤

-- ---- with-loops

-- a generator with its operands in a heap, and a part, with what their bodies do
abbrev pub generator_in : Context → Values → Heap → CodeGen → CodeGenerator
generator_in context e k g =
    record {
      bounds = bounds_of (gen_head g) (reads k e);
      cell = λ index. first_value (does_in context (code_term g.body) (with_index_value e (gen_head g) index));
    }

abbrev pub cells_in : Context → Values → CodePart → CodeCells
cells_in context e p =
    record { grid = p.grid; cell = λ index. first_value (does_in context (code_term p.body) (bind_value e p.index (Small (vector Int index)))); site = p.site }

-- an array of the cells of generators
abbrev pub array_job : Context → Values → Heap → List CodeGen → Plan → ArrayValue → Bool → Job
array_job context e k gens p background old =
    record {
      form = p.form;
      shape = p.shape;
      folds = false;
      indices = p.indices;
      source = holder (map (generator_in context e k) gens) p.ranges;
      result = array_from old background p;
    }

-- their combination
abbrev pub fold_job : Context → Values → Heap → List CodeGen → Plan → Op → ArrayValue → Job
fold_job context e k gens p op neutral =
    record {
      form = p.form;
      shape = p.shape;
      folds = true;
      indices = p.indices;
      source = holder (map (generator_in context e k) gens) p.ranges;
      result = fold (combined op) neutral;
    }

-- the same of the parts of a parted loop
abbrev pub parts_job : Context → Values → List CodePart → List (List ℤ) → Form → List ℕ → Job
parts_job context e parts indices form shape =
    record {
      form = form;
      shape = shape;
      folds = false;
      indices = indices;
      source = part_holder (map (cells_in context e) parts);
      result = joined form.base shape;
    }

abbrev pub fold_parts_job : Context → Values → List CodePart → List (List ℤ) → Form → List ℕ → Op → ArrayValue → Job
fold_parts_job context e parts indices form shape op neutral =
    record {
      form = form;
      shape = shape;
      folds = true;
      indices = indices;
      source = part_holder (map (cells_in context e) parts);
      result = fold (combined op) neutral;
    }

-- ---- small steps

-- what a condition says
abbrev pub SaysTruth : Result Bool Stop → Site → Option Bool → Type 0
SaysTruth (Ok b) site said = said ≡ Some b
SaysTruth (Err (Faulted f)) site said = (said ≡ None) × (f ≡ record { kind = F3; site = site })
SaysTruth (Err Memory) site said = ⊤

-- the levels of a function that is called here, or the fault where none is left
abbrev pub Deeper : Result Context Stop → Context → Bool → Site → Type 0
Deeper (Ok inner) context true site = (context.nest ≡ inner.nest + 1) × (inner.left ≡ context.left)
    × (inner.turns ≡ context.turns) × (inner.code.now ≡ context.code.now)
Deeper (Ok inner) context false site = (context.left ≡ inner.left + 1) × (inner.nest ≡ length context.code.now.functions.items)
    × (inner.turns ≡ context.turns) × (inner.code.now ≡ context.code.now)
Deeper (Err (Faulted f)) context true site = (context.nest ≡ 0) × (f ≡ record { kind = F10; site = site })
Deeper (Err (Faulted f)) context false site = (context.left ≡ 0) × (f ≡ record { kind = F10; site = site })
Deeper (Err Memory) context inline site = ⊤
