-- What a run spends: how many buffers it takes, and its phases. These are functions on arrays: no heap is spoken of.
use Rattle.std.specs.Prelude.{ℕ, zero, suc, ◌+◌, ◌-◌, Bool, true, false, cond, ◌||◌, not, List, [], ◌∷◌, ◌++◌, map, length, ℤ, Option, Some, None}
use Rattle.std.specs.Prelude.{Result, Ok, Err, if◌then◌else◌, slice_get}
use Rattle.sac_base.specs.declared.faults.Caps.{Caps}
use Rattle.sac_base.specs.declared.base.Base.TheVariants.{Int}
use Rattle.sac_base.specs.declared.site.Site.{Site}
use Rattle.sac_base.specs.Arrays.{ArrayValue, vector}
use Rattle.sac_base.specs.Grids.{has_vector, members}
use Rattle.sac_base.specs.Outcomes.{Ends}
use Rattle.sac_base.specs.Parts.{condition}
use Rattle.sac_base.specs.Types.{all_have}
use Rattle.sac_base.specs.WithLoops.{Generator, Range, holds, plan}
use Rattle.core_ir.specs.Meaning.{Env, CallMeaning, bind, bind_all, with_index, no_variables, first, plain_value, operation, generators, cell_form}
use Rattle.core_ir.specs.Meaning.{neutral_fits, run, right_value}
use Rattle.core_ir.specs.Outcome.{RunMeaning, call_by, call_at, chosen, run_deeper, run_inline}
use Rattle.core_ir.specs.Terms.{PlainTerm}
use Rattle.counted_code.specs.Loops.{is_fold, parted_folds, parted_shape}
use Rattle.counted_code.specs.Outcome.{code_param_types, code_param_vars}
use Rattle.counted_code.specs.Terms.{CodeTerm, CodeRightTerm, CodeGensTerm, CodePartsTerm, CodeFunTerm, CodeProgram, Giving, Binding, Keeping}
use Rattle.counted_code.specs.Terms.{Releasing, PlainCode, IfCode, LoopCode, CallCode, WithCode, PartedCode, NoCodeGens, GenCode, NoCodeParts}
use Rattle.counted_code.specs.Terms.{PartCode, core_of, core_of_right, core_of_gens, core_of_code}
use Rattle.counted_code.specs.Values.{is_small}

-- the number of buffers that are taken, where there is no fault; and the number of positions of each phase, up to the fault where there is one
pub record Spending : Type 0 where
  pub taken : ℕ
  pub phases : List ℕ

abbrev pub nothing : Spending
nothing = record { taken = 0; phases = [] }

-- one after the other
abbrev pub both : Spending → Spending → Spending
both first second = record { taken = first.taken + second.taken; phases = first.phases ++ second.phases }

-- what follows a value is spent; after a fault nothing is
abbrev pub after : {A E : Type 0} → Result A E → (A → Spending) → Spending
after (Ok a) next = next a
after (Err f) next = nothing

-- by what a condition says
abbrev pub choice : Option Bool → Spending → Spending → Spending
choice None one other = nothing
choice (Some true) one other = one
choice (Some false) one other = other

-- the sum over a list
abbrev pub total : {A : Type 0} → (A → ℕ) → List A → ℕ
total amount [] = 0
total amount (x ∷ xs) = amount x + total amount xs

-- an array of this shape stands in a buffer of its own, or is small
abbrev pub buffers_of : List ℕ → ℕ
buffers_of shape = cond (is_small shape) 0 1

abbrev pub placing : ArrayValue → Spending
placing a = record { taken = buffers_of a.shape; phases = [] }

-- ---- right sides

-- a copy and a check hand their reference on
abbrev pub plain_spends : PlainTerm → Env → Spending
plain_spends (PlainTerm.Copy x) ρ = nothing
plain_spends (PlainTerm.Check x t) ρ = nothing
plain_spends p ρ = after (plain_value p ρ) placing

-- what a loop's test or body comes to, and what it spends
pub record Step (A : Type 0) : Type 0 where
  pub value : List ArrayValue → Ends A
  pub spends : List ArrayValue → Spending

-- a loop that may make so many turns more
abbrev pub repeat_spends : ℕ → Step ArrayValue → Step (List ArrayValue) → List ArrayValue → Spending
repeat_spends zero test body vs = test.spends vs
repeat_spends (suc left) test body vs =
    both (test.spends vs) (after (test.value vs) (λ c.
    choice (condition c) (both (body.spends vs) (after (body.value vs) (repeat_spends left test body))) nothing))

abbrev pub turns_spend : Bool → ℕ → Step ArrayValue → Step (List ArrayValue) → List ArrayValue → Spending
turns_spend false turns test body vs = repeat_spends turns test body vs
turns_spend true turns test body vs = both (body.spends vs) (after (body.value vs) (repeat_spends (turns - 1) test body))

-- A loop over cells: its result's buffer and what each cell takes. With-loops within a cell are no phases.
abbrev pub cells_spend : Bool → List ℕ → List (List ℤ) → (List ℤ → ℕ) → Spending
cells_spend folds shape indices cell = record {
  taken = buffers_of shape + total cell indices;
  phases = cond (folds || not (is_small shape)) (length indices ∷ []) [];
}

-- ---- blocks

-- what a call of a group spends on arguments
abbrev pub CallSpending : Type 0
CallSpending = ℕ → List ArrayValue → Spending

module _ (calls : CallMeaning) (turns : ℕ) (call_spends : CallSpending) where
  abbrev mutual
    pub spends : CodeTerm → Env → Spending
    spends (Giving xs) ρ = nothing
    spends (Binding xs s r t) ρ =
        both (right_spends r s ρ) (after (right_value calls turns (core_of_right r) s ρ) (λ vs. spends t (bind_all ρ xs vs)))
    spends (Keeping x t) ρ = spends t ρ
    spends (Releasing x t) ρ = spends t ρ

    pub right_spends : CodeRightTerm → Site → Env → Spending
    right_spends (PlainCode p) s ρ = plain_spends p ρ
    right_spends (IfCode x a b) s ρ = choice (condition (ρ x)) (spends a ρ) (spends b ρ)
    right_spends (LoopCode first_body start params test body u) s ρ =
        turns_spend first_body turns
        (record { value = λ vs. first (run calls turns (core_of test) (bind_all ρ params vs)); spends = λ vs. spends test (bind_all ρ params vs) })
        (record { value = λ vs. run calls turns (core_of body) (bind_all ρ params vs); spends = λ vs. spends body (bind_all ρ params vs) }) (map ρ start)
    right_spends (CallCode group xs) s ρ = call_spends group (map ρ xs)
    right_spends (WithCode op gens) s ρ =
        after (plan (map (λ (g : Generator). g.bounds) (generators calls turns (core_of_gens gens) ρ)) (operation op s ρ))
        (λ p. cells_spend (is_fold (operation op s ρ)) p.shape p.indices (gens_take gens ρ p.ranges))
    right_spends (PartedCode frame base cell op parts reuse) s ρ =
        if neutral_fits (cell_form base cell) op ρ
        then cells_spend (parted_folds op) (parted_shape frame cell op) (members frame) (parts_take parts ρ)
        else nothing

    -- how many buffers the cell at an index takes: that of the first generator whose range holds it
    pub gens_take : CodeGensTerm → Env → List Range → List ℤ → ℕ
    gens_take NoCodeGens ρ rs v = 0
    gens_take (GenCode g b rest) ρ [] v = 0
    gens_take (GenCode g b rest) ρ (r ∷ rs) v = if holds r v then (spends b (with_index ρ g v)).taken else gens_take rest ρ rs v

    -- that of the part whose grid contains it
    pub parts_take : CodePartsTerm → Env → List ℤ → ℕ
    parts_take NoCodeParts ρ v = 0
    parts_take (PartCode g b rest) ρ v = if has_vector g.grid v then (spends b (bind ρ g.index (vector Int v))).taken else parts_take rest ρ v

-- ---- calls

-- what the function at a place spends on arguments
abbrev pub RunSpending : Type 0
RunSpending = ℕ → List ArrayValue → Spending

abbrev pub body_spends : ℕ → CallMeaning → CallSpending → Option CodeFunTerm → List ArrayValue → Spending
body_spends turns calls call_spends None args = nothing
body_spends turns calls call_spends (Some f) args = spends calls turns call_spends f.body (bind_all no_variables (code_param_vars f) args)

abbrev pub run_spends : RunSpending → RunSpending → ℕ → Option CodeFunTerm → List ArrayValue → Spending
run_spends outer inner place None args = nothing
run_spends outer inner place (Some f) args = if f.is_inline then inner place args else outer place args

module _ (code : CodeProgram) where
  abbrev pub chosen_spends : RunSpending → RunSpending → Option ℕ → List ArrayValue → Spending
  chosen_spends outer inner None args = nothing
  chosen_spends outer inner (Some place) args = run_spends outer inner place (slice_get code.functions place) args

  -- the instance that a call takes; `outer` is for one that is not inline, and `inner` for one that is
  abbrev pub calls_spend : RunSpending → RunSpending → CallSpending
  calls_spend outer inner group args = chosen_spends outer inner (chosen (core_of_code code) group args) args

  module _ (turns : ℕ) where
    -- an inline function, at its caller's depth
    abbrev pub inline_spends : RunMeaning → RunSpending → ℕ → RunSpending
    inline_spends outer_value outer zero place args = nothing
    inline_spends outer_value outer (suc nest) place args =
        body_spends turns (call_by (core_of_code code) outer_value (run_inline (core_of_code code) turns outer_value nest))
        (calls_spend outer (inline_spends outer_value outer nest)) (slice_get code.functions place) args

    -- one that is not inline, where so many levels are left
    abbrev pub deeper_spends : ℕ → RunSpending
    deeper_spends zero place args = nothing
    deeper_spends (suc left) place args =
        body_spends turns (call_at (core_of_code code) turns left)
        (calls_spend (deeper_spends left) (inline_spends (run_deeper (core_of_code code) turns left) (deeper_spends left) (length code.functions)))
        (slice_get code.functions place) args

    -- calls, where so many levels are left
    abbrev pub calls_spend_at : ℕ → CallSpending
    calls_spend_at left =
        calls_spend (deeper_spends left) (inline_spends (run_deeper (core_of_code code) turns left) (deeper_spends left) (length code.functions))

-- ---- a whole run

-- the arguments are placed before main
abbrev pub main_spends : CodeProgram → ℕ → ℕ → Option CodeFunTerm → List ArrayValue → Spending
main_spends code turns depth None args = nothing
main_spends code turns depth (Some f) args =
    if all_have (code_param_types f) args
    then both (record { taken = total (λ (a : ArrayValue). buffers_of a.shape) args; phases = [] })
    (body_spends turns (call_at (core_of_code code) turns depth) (calls_spend_at code turns depth) (Some f) args)
    else nothing

abbrev pub whole_spends : CodeProgram → List ArrayValue → Caps → Spending
whole_spends code args caps = main_spends code caps.turns caps.depth (slice_get code.functions code.main) args
