-- Code without its marks spends on arrays what the code spends.
use Rattle.std.proofs.Common.{◌≡◌, ℕ, zero, suc, List, [], ◌∷◌, map, length, ℤ, Option, Some, None, refl, ◌∙◌}
use Rattle.std.specs.Prelude.{if◌then◌else◌, option_map, slice_get}
use Rattle.std.proofs.lemmas.List.{length-map}
use Rattle.std.proofs.lemmas.Option.{slice_get-map}
use Rattle.sac_base.specs.declared.base.Base.TheVariants.{Int}
use Rattle.sac_base.specs.Arrays.{ArrayValue, vector}
use Rattle.sac_base.specs.Grids.{has_vector, members}
use Rattle.sac_base.specs.Parts.{condition}
use Rattle.sac_base.specs.WithLoops.{Generator, Range, holds, plan}
use Rattle.core_ir.specs.declared.tree.Var.{Var}
use Rattle.core_ir.specs.Meaning.{Env, CallMeaning, no_variables, bind, bind_all, with_index, first, operation, generators, cell_form, neutral_fits, run, right_value}
use Rattle.core_ir.specs.Outcome.{RunMeaning, call_by, call_at, chosen, run_deeper, run_inline}
use Rattle.counted_code.specs.Loops.{is_fold, parted_folds, parted_shape}
use Rattle.counted_code.specs.Outcome.{code_param_vars}
use Rattle.counted_code.specs.Terms.{CodeTerm, CodeRightTerm, CodeGensTerm, CodePartsTerm, CodeFunTerm, CodeProgram, Giving, Binding, Keeping, Releasing, PlainCode, IfCode, LoopCode, CallCode, WithCode, PartedCode, NoCodeGens, GenCode, NoCodeParts, PartCode, core_of_code}
use Rattle.counted_laws.specs.mark_removal.Removal.{mark_of, released, unmark, unmark_right, unmark_gens, unmark_parts, unmark_fun, without_marks}
use Rattle.counted_laws.proofs.mark_removal.Removed.{block_core, right_core, gens_core, code_core}
use Rattle.phase_laws.specs.Spending.{CallSpending, RunSpending, nothing, both, after, choice, turns_spend, cells_spend, spends, right_spends, gens_take, parts_take, body_spends, run_spends, chosen_spends, calls_spend, inline_spends, deeper_spends}
use Rattle.phase_loop_laws.specs.Levels.{means_at, spends_at}

-- ---- blocks

module _ (calls : CallMeaning) (turns : ℕ) (call_spends : CallSpending) where
  released_spend : (m : Option Var) (t : CodeTerm) → spends calls turns call_spends (released m t) ≡ spends calls turns call_spends t
  released_spend None t = refl
  released_spend (Some v) t = refl

  mutual
    block_spend : (t : CodeTerm) → spends calls turns call_spends (unmark t) ≡ spends calls turns call_spends t
    block_spend (Giving xs) = refl
    block_spend (Binding xs s r b) =
        λ i ρ. both (right_spend r i s ρ) (after (right_value calls turns (right_core r i) s ρ) (λ vs. (released_spend (mark_of r) (unmark b) ∙ block_spend b) i (bind_all ρ xs vs)))
    block_spend (Keeping x b) = block_spend b
    block_spend (Releasing x b) = block_spend b

    right_spend : (r : CodeRightTerm) → right_spends calls turns call_spends (unmark_right r) ≡ right_spends calls turns call_spends r
    right_spend (PlainCode p) = refl
    right_spend (IfCode x a b) = λ i s ρ. choice (condition (ρ x)) (block_spend a i ρ) (block_spend b i ρ)
    right_spend (LoopCode first_body start params test body u) =
        λ i s ρ. turns_spend first_body turns
        (record { value = λ vs. first (run calls turns (block_core test i) (bind_all ρ params vs)); spends = λ vs. block_spend test i (bind_all ρ params vs) })
        (record { value = λ vs. run calls turns (block_core body i) (bind_all ρ params vs); spends = λ vs. block_spend body i (bind_all ρ params vs) }) (map ρ start)
    right_spend (CallCode g xs) = refl
    right_spend (WithCode op gens) =
        λ i s ρ. after (plan (map (λ (g : Generator). g.bounds) (generators calls turns (gens_core gens i) ρ)) (operation op s ρ))
        (λ p. cells_spend (is_fold (operation op s ρ)) p.shape p.indices (λ v. gens_spend gens ρ p.ranges v i))
    right_spend (PartedCode f b cell op parts reuse) =
        λ i s ρ. if neutral_fits (cell_form b cell) op ρ then cells_spend (parted_folds op) (parted_shape f cell op) (members f) (λ v. parts_spend parts ρ v i) else nothing

    gens_spend : (gens : CodeGensTerm) (ρ : Env) (rs : List Range) (v : List ℤ) → gens_take calls turns call_spends (unmark_gens gens) ρ rs v ≡ gens_take calls turns call_spends gens ρ rs v
    gens_spend NoCodeGens ρ rs v = refl
    gens_spend (GenCode g b rest) ρ [] v = refl
    gens_spend (GenCode g b rest) ρ (r ∷ rs) v = λ i. if holds r v then (block_spend b i (with_index ρ g v)).taken else gens_spend rest ρ rs v i

    parts_spend : (parts : CodePartsTerm) (ρ : Env) (v : List ℤ) → parts_take calls turns call_spends (unmark_parts parts) ρ v ≡ parts_take calls turns call_spends parts ρ v
    parts_spend NoCodeParts ρ v = refl
    parts_spend (PartCode g b rest) ρ v = λ i. if has_vector g.grid v then (block_spend b i (bind ρ g.index (vector Int v))).taken else parts_spend rest ρ v i

-- ---- calls

body_spend : (turns : ℕ) (calls : CallMeaning) (call_spends : CallSpending) (x : Option CodeFunTerm) (args : List ArrayValue) → body_spends turns calls call_spends (option_map unmark_fun x) args ≡ body_spends turns calls call_spends x args
body_spend turns calls call_spends None args = refl
body_spend turns calls call_spends (Some f) args = λ i. block_spend calls turns call_spends f.body i (bind_all no_variables (code_param_vars f) args)

run_spend : (outer inner : RunSpending) (place : ℕ) (x : Option CodeFunTerm) (args : List ArrayValue) → run_spends outer inner place (option_map unmark_fun x) args ≡ run_spends outer inner place x args
run_spend outer inner place None args = refl
run_spend outer inner place (Some f) args = refl

module _ (code : CodeProgram) where
  abbrev bare : CodeProgram
  bare = without_marks code

  calls_spend_same : (outer inner : RunSpending) → calls_spend bare outer inner ≡ calls_spend code outer inner
  calls_spend_same outer inner = λ i g args. whole g args i
    where
      at : (o : Option ℕ) (args : List ArrayValue) → chosen_spends bare outer inner o args ≡ chosen_spends code outer inner o args
      at None args = refl
      at (Some place) args =
          (λ i. run_spends outer inner place (slice_get-map unmark_fun code.functions place i) args)
          ∙ run_spend outer inner place (slice_get code.functions place) args

      whole : (g : ℕ) (args : List ArrayValue) → calls_spend bare outer inner g args ≡ calls_spend code outer inner g args
      whole g args =
          (λ i. chosen_spends bare outer inner (chosen (code_core code i) g args) args) ∙ at (chosen (core_of_code code) g args) args

  module _ (turns : ℕ) where
    -- a body, where calls mean and spend the same
    body_same : (values others : CallMeaning) (spent more : CallSpending) → values ≡ others → spent ≡ more → (place : ℕ) (args : List ArrayValue) → body_spends turns values spent (slice_get bare.functions place) args ≡ body_spends turns others more (slice_get code.functions place) args
    body_same values others spent more p q place args =
        (λ i. body_spends turns (p i) (q i) (slice_get-map unmark_fun code.functions place i) args)
        ∙ body_spend turns others more (slice_get code.functions place) args

    values_same : (value other : RunMeaning) → value ≡ other → (nest : ℕ) → call_by (core_of_code bare) value (run_inline (core_of_code bare) turns value nest) ≡ call_by (core_of_code code) other (run_inline (core_of_code code) turns other nest)
    values_same value other p nest = λ i. call_by (code_core code i) (p i) (run_inline (code_core code i) turns (p i) nest)

    inline_same : (value other : RunMeaning) (outer another : RunSpending) → value ≡ other → outer ≡ another → (nest : ℕ) → inline_spends bare turns value outer nest ≡ inline_spends code turns other another nest
    inline_same value other outer another p q zero = refl
    inline_same value other outer another p q (suc nest) =
        λ i place args. body_same (call_by (core_of_code bare) value (run_inline (core_of_code bare) turns value nest)) (call_by (core_of_code code) other (run_inline (core_of_code code) turns other nest))
        (calls_spend bare outer (inline_spends bare turns value outer nest)) (calls_spend code another (inline_spends code turns other another nest))
        (values_same value other p nest) (calls_spend_same outer (inline_spends bare turns value outer nest) ∙ (λ j. calls_spend code (q j) (inline_same value other outer another p q nest j))) place args i

    deeper_value : (left : ℕ) → run_deeper (core_of_code bare) turns left ≡ run_deeper (core_of_code code) turns left
    deeper_value left = λ i. run_deeper (code_core code i) turns left

    count : length bare.functions ≡ length code.functions
    count = length-map code.functions unmark_fun

    deeper_same : (left : ℕ) → deeper_spends bare turns left ≡ deeper_spends code turns left
    deeper_same zero = refl
    deeper_same (suc left) =
        λ i place args. body_same (call_at (core_of_code bare) turns left) (call_at (core_of_code code) turns left)
        (calls_spend bare (deeper_spends bare turns left) (inline_spends bare turns (run_deeper (core_of_code bare) turns left) (deeper_spends bare turns left) (length bare.functions)))
        (calls_spend code (deeper_spends code turns left) (inline_spends code turns (run_deeper (core_of_code code) turns left) (deeper_spends code turns left) (length code.functions)))
        (λ j. call_at (code_core code j) turns left) (at_level left (deeper_same left) (length bare.functions) ∙ (λ j. calls_spend code (deeper_spends code turns left) (inline_spends code turns (run_deeper (core_of_code code) turns left) (deeper_spends code turns left) (count j)))) place args i
      where
        at_level : (n : ℕ) → deeper_spends bare turns n ≡ deeper_spends code turns n → (nest : ℕ) → calls_spend bare (deeper_spends bare turns n) (inline_spends bare turns (run_deeper (core_of_code bare) turns n) (deeper_spends bare turns n) nest) ≡ calls_spend code (deeper_spends code turns n) (inline_spends code turns (run_deeper (core_of_code code) turns n) (deeper_spends code turns n) nest)
        at_level n same nest =
            calls_spend_same (deeper_spends bare turns n) (inline_spends bare turns (run_deeper (core_of_code bare) turns n) (deeper_spends bare turns n) nest)
            ∙ (λ j. calls_spend code (same j) (inline_same (run_deeper (core_of_code bare) turns n) (run_deeper (core_of_code code) turns n) (deeper_spends bare turns n) (deeper_spends code turns n) (deeper_value n) same nest j))

    pub meaning_same : (left nest : ℕ) → means_at bare turns left nest ≡ means_at code turns left nest
    meaning_same left nest = values_same (run_deeper (core_of_code bare) turns left) (run_deeper (core_of_code code) turns left) (deeper_value left) nest

    pub spending_same : (left nest : ℕ) → spends_at bare turns left nest ≡ spends_at code turns left nest
    spending_same left nest =
        calls_spend_same (deeper_spends bare turns left) (inline_spends bare turns (run_deeper (core_of_code bare) turns left) (deeper_spends bare turns left) nest)
        ∙ (λ j. calls_spend code (deeper_same left j) (inline_same (run_deeper (core_of_code bare) turns left) (run_deeper (core_of_code code) turns left) (deeper_spends bare turns left) (deeper_spends code turns left) (deeper_value left) (deeper_same left) nest j))
