-- What counted code does: the meaning of its core, in the same words, with values in a heap and steps that keep and release.
use Rattle.std.specs.Prelude.{ℕ, zero, suc, ◌-◌, Bool, true, false, cond, eqb, List, [], ◌∷◌, map, ℤ, None, option_map, Ok}
use Rattle.sac_base.specs.declared.base.Base.TheVariants.{Int}
use Rattle.sac_base.specs.declared.faults.FaultKind.TheVariants.{F9}
use Rattle.sac_base.specs.declared.site.Site.{Site}
use Rattle.sac_base.specs.Arrays.{scalar, vector}
use Rattle.sac_base.specs.Outcomes.{at_site}
use Rattle.sac_base.specs.Parts.{condition}
use Rattle.sac_base.specs.WithLoops.{Bounds}
use Rattle.core_ir.specs.declared.tree.Var.{Var}
use Rattle.core_ir.specs.Terms.{PlainTerm, GenHead}
use Rattle.core_ir.specs.Meaning.{Env, missing, checked, plain_value, generator, operation}
use Rattle.counted_code.specs.Terms.{CodeTerm, CodeRightTerm, CodeGensTerm, CodePartsTerm, Giving, Binding, Keeping, Releasing, PlainCode, IfCode}
use Rattle.counted_code.specs.Terms.{LoopCode, CallCode, WithCode, PartedCode, NoCodeGens, GenCode, NoCodeParts, PartCode}
use Rattle.counted_code.specs.Values.{Heap, Value, Small, Done, Doing, give, then_go, pure_end, fails, choose_does, keep, release, read, place_value}
use Rattle.counted_code.specs.Loops.{CodeGenerator, CodeCells, with_job, parted_job, loop_does}

-- ---- values of variables

abbrev pub Values : Type 0
Values = Var → Value

-- what a call of a group does with values, at a site
abbrev pub DoesCalls : Type 0
DoesCalls = ℕ → List Value → Site → Doing (List Value)

-- the number 0 stands for what is not there
abbrev pub missing_value : Value
missing_value = Small missing

abbrev pub no_values : Values
no_values x = missing_value

-- one more variable has a value
abbrev pub bind_value : Values → Var → Value → Values
bind_value e x v y = cond (eqb x.0 y.0) v (e y)

-- these variables have these values
abbrev pub bind_values : Values → List Var → List Value → Values
bind_values e [] vs = e
bind_values e (x ∷ xs) [] = bind_values (bind_value e x missing_value) xs []
bind_values e (x ∷ xs) (v ∷ vs) = bind_values (bind_value e x v) xs vs

-- the arrays of the variables in a heap
abbrev pub reads : Heap → Values → Env
reads heap e x = read heap (e x)

-- the only value
abbrev pub one_value : Doing Value → Doing (List Value)
one_value m = then_go m (λ v. give (v ∷ []))

abbrev pub first_of : List Value → Value
first_of [] = missing_value
first_of (v ∷ vs) = v

-- the first of the values
abbrev pub first_value : Doing (List Value) → Doing Value
first_value m = then_go m (λ vs. give (first_of vs))

-- ---- right sides without blocks and calls

-- a copy and a check hand their reference on; all else reads, and its result is placed
abbrev pub plain_does : PlainTerm → Site → Values → Doing Value
plain_does (PlainTerm.Copy x) s e heap = Done (e x) heap
plain_does (PlainTerm.Check x t) s e heap = then_go (pure_end (at_site s (checked t (reads heap e x)))) (λ a. give (e x)) heap
plain_does p s e heap = then_go (pure_end (at_site s (plain_value p (reads heap e)))) place_value heap

-- ---- loops

-- goes on by the value of a loop's test, which is read and released
abbrev pub tested : Site → Value → Doing (List Value) → Doing (List Value) → Doing (List Value)
tested site c more done heap = choose_does site (condition (read heap c)) more done (release c heap)

-- A loop that may make so many turns more. Its test is tried before each of them.
abbrev pub repeat_does : ℕ → Site → Site → (List Value → Doing Value) → (List Value → Doing (List Value)) → List Value → Doing (List Value)
repeat_does zero site test_site test body vs =
    then_go (test vs) (λ c. tested test_site c (fails F9 site) (give vs))
repeat_does (suc left) site test_site test body vs =
    then_go (test vs) (λ c. tested test_site c (then_go (body vs) (repeat_does left site test_site test body)) (give vs))

-- with `first_body` the first turn is made before the first test
abbrev pub turns_do : Bool → ℕ → Site → Site → (List Value → Doing Value) → (List Value → Doing (List Value)) → List Value → Doing (List Value)
turns_do false turns site test_site test body vs = repeat_does turns site test_site test body vs
turns_do true turns site test_site test body vs = then_go (body vs) (repeat_does (turns - 1) site test_site test body)

-- ---- with-loops

-- the operands of a generator
abbrev pub bounds_of : GenHead → Env → Bounds
bounds_of head e = (generator head (λ index. Ok missing) e).bounds

-- the values in a generator's body: the index, and its components under the names
abbrev pub with_index_value : Values → GenHead → List ℤ → Values
with_index_value e head index =
    bind_values (bind_value e head.index (Small (vector Int index))) head.names (map (λ z. Small (scalar Int z)) index)

-- ---- blocks

module _ (calls : DoesCalls) (turns : ℕ) where
  abbrev mutual
    pub does : CodeTerm → Values → Doing (List Value)
    does (Giving xs) e heap = Done (map e xs) heap
    does (Binding xs s r b) e heap = then_go (right_does r s e) (λ vs. does b (bind_values e xs vs)) heap
    does (Keeping x b) e heap = does b e (keep (e x) heap)
    does (Releasing x b) e heap = does b e (release (e x) heap)

    pub right_does : CodeRightTerm → Site → Values → Doing (List Value)
    right_does (PlainCode p) s e heap = one_value (plain_does p s e) heap
    right_does (IfCode x a b) s e heap = choose_does s (condition (read heap (e x))) (does a e) (does b e) heap
    right_does (LoopCode first_body start params test body test_site) s e heap =
        turns_do first_body turns s test_site (λ vs. first_value (does test (bind_values e params vs)))
        (λ vs. does body (bind_values e params vs)) (map e start) heap
    right_does (CallCode group xs) s e heap = calls group (map e xs) s heap
    right_does (WithCode op gens) s e heap =
        one_value (loop_does (λ before. with_job (code_generators gens e before) (operation op s (reads before e))) None) heap
    right_does (PartedCode frame base cell op parts reuse) s e heap =
        one_value (loop_does (λ before. parted_job frame base cell op (code_cells parts e) s (reads before e)) (option_map e reuse)) heap

    -- the generators, with the operands that they have in a heap
    pub code_generators : CodeGensTerm → Values → Heap → List CodeGenerator
    code_generators NoCodeGens e heap = []
    code_generators (GenCode g b rest) e heap =
        record { bounds = bounds_of g (reads heap e); cell = λ index. first_value (does b (with_index_value e g index)) } ∷ code_generators rest e heap

    pub code_cells : CodePartsTerm → Values → List CodeCells
    code_cells NoCodeParts e = []
    code_cells (PartCode g b rest) e =
        record { grid = g.grid; cell = λ index. first_value (does b (bind_value e g.index (Small (vector Int index)))); site = g.site } ∷ code_cells rest e
