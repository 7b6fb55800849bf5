-- The machine that runs the cells of each phase in chunks, each chunk from the same heap. A with-loop within a cell is no phase, and is run as ever.
use Rattle.std.specs.Prelude.{ℕ, zero, suc, Bool, true, false, ◌||◌, not, if◌then◌else◌, List, map, length, ℤ, Option, Some, None, slice_get, option_map}
use Rattle.sac_base.specs.declared.faults.Caps.{Caps}
use Rattle.sac_base.specs.declared.faults.FaultKind.TheVariants.{F7, F10}
use Rattle.sac_base.specs.declared.form.Form.{Form}
use Rattle.sac_base.specs.declared.site.Site.{Site}
use Rattle.sac_base.specs.Arrays.{ArrayValue, size}
use Rattle.sac_base.specs.Outcomes.{Ends}
use Rattle.sac_base.specs.Parts.{condition}
use Rattle.sac_base.specs.Types.{all_have}
use Rattle.core_ir.specs.Meaning.{operation}
use Rattle.core_ir.specs.Outcome.{start_of_source}
use Rattle.counted_code.specs.Loops.{Source, Job, Claimed, Target, Inside, Fresh, Old, cells_do, write_cell, release_rest, settled, claim}
use Rattle.counted_code.specs.Loops.{count_phase, with_job, parted_job}
use Rattle.counted_code.specs.Machine.{Values, DoesCalls, no_values, bind_values, reads, one_value, first_value, plain_does, turns_do}
use Rattle.counted_code.specs.Machine.{code_generators, code_cells}
use Rattle.counted_code.specs.Outcome.{DoesRun, code_param_types, code_param_vars, results_do, call_does, inline_does, deeper_does, call_does_at, copied_out}
use Rattle.counted_code.specs.Terms.{CodeTerm, CodeRightTerm, CodeFunTerm, CodeProgram, Giving, Binding, Keeping, Releasing, PlainCode, IfCode}
use Rattle.counted_code.specs.Terms.{LoopCode, CallCode, WithCode, PartedCode}
use Rattle.counted_code.specs.Values.{Heap, empty_heap, Value, Ended, Done, Doing, then_go, pure_end, fails, choose_does, is_small, keep, release}
use Rattle.counted_code.specs.Values.{read, place_all}
use Rattle.phase_laws.specs.Chunks.{pieces, chunks_do}

-- the lengths of the chunks that so many positions are cut into
abbrev pub Cut : Type 0
Cut = ℕ → List ℕ

-- the cells of a phase in chunks; those of no phase, and those that are written into an old buffer, one after another
abbrev pub phase_cells : Option Cut → Bool → Target → Form → (List ℤ → Option Source) → List (List ℤ) → Doing (List (Option ArrayValue))
phase_cells None phase t form source vs = cells_do form source (write_cell t) 0 vs
phase_cells (Some cut) false t form source vs = cells_do form source (write_cell t) 0 vs
phase_cells (Some cut) true (Old b) form source vs = cells_do form source (write_cell (Old b)) 0 vs
phase_cells (Some cut) true (Fresh b) form source vs = chunks_do form source (write_cell (Fresh b)) 0 (pieces (cut (length vs)) vs)
phase_cells (Some cut) true Inside form source vs = chunks_do form source (write_cell Inside) 0 (pieces (cut (length vs)) vs)

-- without a cut all cells are run one after another, and this is the machine of counted code
module _ (cut : Option Cut) where
  abbrev pub claimed_phase : Bool → Job → Claimed → Ended Value
  claimed_phase phase j c =
      then_go (phase_cells cut phase c.target j.form j.source j.indices)
      (λ found h. then_go (settled c.target (j.result found)) (λ v k. Done v (release_rest c.rest k)) h) c.heap

  abbrev pub phase_does : Option Value → Job → Doing Value
  phase_does mark j h =
      let small = is_small j.shape in
      claimed_phase (j.folds || not small) j (claim small mark (size j.shape) (count_phase (j.folds || not small) (length j.indices) h))

  abbrev pub phased_loop : (Heap → Ends Job) → Option Value → Doing Value
  phased_loop checks mark h = then_go (pure_end (checks h)) (phase_does mark) h

  -- ---- blocks

  -- `cell_calls` are the calls within cells
  module _ (cell_calls calls : DoesCalls) (turns : ℕ) where
    abbrev mutual
      pub phased : CodeTerm → Values → Doing (List Value)
      phased (Giving xs) e h = Done (map e xs) h
      phased (Binding xs s r t) e h = then_go (right_phased r s e) (λ vs. phased t (bind_values e xs vs)) h
      phased (Keeping x t) e h = phased t e (keep (e x) h)
      phased (Releasing x t) e h = phased t e (release (e x) h)

      pub right_phased : CodeRightTerm → Site → Values → Doing (List Value)
      right_phased (PlainCode p) s e h = one_value (plain_does p s e) h
      right_phased (IfCode x a b) s e h = choose_does s (condition (read h (e x))) (phased a e) (phased b e) h
      right_phased (LoopCode first_body start params test body test_site) s e h =
          turns_do first_body turns s test_site (λ vs. first_value (phased test (bind_values e params vs)))
          (λ vs. phased body (bind_values e params vs)) (map e start) h
      right_phased (CallCode group xs) s e h = calls group (map e xs) s h
      right_phased (WithCode op gens) s e h =
          one_value (phased_loop (λ k. with_job (code_generators cell_calls turns gens e k) (operation op s (reads k e))) None) h
      right_phased (PartedCode frame base cell op parts reuse) s e h =
          one_value (phased_loop (λ k. parted_job frame base cell op (code_cells cell_calls turns parts e) s (reads k e)) (option_map e reuse)) h

  -- ---- calls

  abbrev pub function_phased : ℕ → DoesCalls → DoesCalls → CodeFunTerm → List Value → Doing (List Value)
  function_phased turns cell_calls calls f vs =
      then_go (phased cell_calls calls turns f.body (bind_values no_values (code_param_vars f) vs)) (results_do f.results f.ends)

  abbrev pub body_phased : ℕ → DoesCalls → DoesCalls → Option CodeFunTerm → List Value → Site → Doing (List Value)
  body_phased turns cell_calls calls None vs site = fails F7 site
  body_phased turns cell_calls calls (Some f) vs site = function_phased turns cell_calls calls f vs

  module _ (code : CodeProgram) (turns : ℕ) where
    -- an inline function runs at its caller's depth
    abbrev pub inline_phased : (cells_outer outer : DoesRun) → ℕ → DoesRun
    inline_phased cells_outer outer zero place vs site = fails F10 site
    inline_phased cells_outer outer (suc nest) place vs site =
        body_phased turns (call_does code cells_outer (inline_does code turns cells_outer nest))
        (call_does code outer (inline_phased cells_outer outer nest)) (slice_get code.functions place) vs site

    -- one that is not inline, one level deeper
    abbrev pub deeper_phased : ℕ → DoesRun
    deeper_phased zero place vs site = fails F10 site
    deeper_phased (suc left) place vs site =
        body_phased turns (call_does_at code turns left)
        (call_does code (deeper_phased left) (inline_phased (deeper_does code turns left) (deeper_phased left) (length code.functions)))
        (slice_get code.functions place) vs site

    -- what calls do outside of cells, where so many levels are left
    abbrev pub calls_phased : ℕ → DoesCalls
    calls_phased left = call_does code (deeper_phased left) (inline_phased (deeper_does code turns left) (deeper_phased left) (length code.functions))

  -- ---- a whole run

  abbrev pub main_phased : ℕ → DoesCalls → DoesCalls → Option CodeFunTerm → List ArrayValue → Doing (List ArrayValue)
  main_phased turns cell_calls calls None args = fails F7 start_of_source
  main_phased turns cell_calls calls (Some f) args =
      if all_have (code_param_types f) args
      then then_go (place_all args) (λ vs. then_go (function_phased turns cell_calls calls f vs) copied_out)
      else fails F7 f.site

  abbrev pub phased_run : CodeProgram → List ArrayValue → Caps → Ended (List ArrayValue)
  phased_run code args caps =
      main_phased caps.turns (call_does_at code caps.turns caps.depth) (calls_phased code caps.turns caps.depth)
      (slice_get code.functions code.main) args empty_heap
