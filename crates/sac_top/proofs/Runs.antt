-- What an accepted program comes to, over plain values.
use Rattle.std.proofs.Common.{◌≡◌, ◌≤◌, ◌<◌, ℕ, List, [], Option, Some, None, length, Result, Ok, Err, IfOk, refl, sym, ap, subst, ◌∙◌, codes, ◌+◌, replicate, arith}
use Rattle.std.proofs.Math.ListN.{length-replicate}
use Rattle.std.specs.Prelude.{IsSomeAnd, MatchOption}
use Rattle.std.proofs.lemmas.Result.{IfOk-weaker}
use Rattle.sac_base.specs.Arrays.{ArrayValue}
use Rattle.sac_base.specs.Outcomes.{Ends}
use Rattle.sac_base.specs.declared.memory.Memory.{Memory as NoMemory}
use Rattle.sac_base.specs.declared.faults.FaultKind.{FaultKind}
use Rattle.sac_base.specs.declared.faults.FaultKind.TheVariants.{F1, F2, F3, F4, F5, F6, F7, F8, F9, F10}
use Rattle.sac_ast.specs.Tree.{ProgramTree}
use Rattle.sac_io.specs.Files.{Contents, Holds, HoldsLonger, Lacks}
use Rattle.sac_print.specs.Canonical.{canonical}
use Rattle.data_text.specs.Texts.{Refusal, text_value}
use Rattle.sac_words.specs.declared.options.Mode.TheVariants.{Run, Check, Print}
use Rattle.sac_words.specs.Meaning.{Meant, empty, file, generated}
use Rattle.sac_due.specs.Status.{fault_status}
use Rattle.sac_due.specs.Texts.{line}
use Rattle.sac_due.specs.Report.{Numbers}
use Rattle.sac_due.specs.Input.{IsMissing, IsTooLong, IsText, arguments, main_bases}
use Rattle.sac_due.specs.Due
use Rattle.sac_due.specs.Due.{Ending, IsRunDue, IsProgramDue, ended, run_on}
use Rattle.sac_due.specs.Answer.{Finds, input_fault}
use Rattle.sac_due.specs.declared.status.Status.TheVariants.{Done, Input, ReadFault}
use Rattle.sac_top.specs.Steps.{ending, file_of, file_in, IsFileAnswer, due, fails, IsPlainRun, IsRunAnswer, IsPlainAnswer, IsProgramAnswer}
use Rattle.sac_top.specs.declared.line.Answer.{Answer}

-- ---- what a fetch shows of the files

pub finds_whole : (files : Option Contents) (name bytes : List ℕ) → Holds files name bytes → Finds files name (Some bytes)
finds_whole None name bytes h = refl
finds_whole (Some contents) name bytes h = h

pub finds_none : (files : Option Contents) (name : List ℕ) → Lacks files name → Finds files name None
finds_none None name h = absurd h
finds_none (Some contents) name h = h

the_value : (o : Option (List ℕ)) (P : List ℕ → Type 0) → IsSomeAnd o P → (bytes : List ℕ) × P bytes × (o ≡ Some bytes)
the_value None P h = absurd h
the_value (Some bytes) P h = (bytes, h, refl)

-- a list that is longer than a number
some_longer : (n : ℕ) → (bytes : List ℕ) × (n < length bytes)
some_longer n = (replicate (n + 1) 0, omega (arith, length-replicate {A = ℕ} (n + 1) 0))

pub finds_longer : (files : Option Contents) (name : List ℕ) (limit : ℕ) → HoldsLonger files name limit
    → (bytes : List ℕ) × (limit < length bytes) × Finds files name (Some bytes)
finds_longer None name limit h = let more = some_longer limit in (more.0, more.1, refl)
finds_longer (Some contents) name limit h = the_value (contents name) (λ bytes. limit < length bytes) h

-- ---- no run ends with a read fault but by its files

no_read_fault : (kind : FaultKind) → fault_status kind ≡ ReadFault → ⊥
no_read_fault F1 e = cc (e)
no_read_fault F2 e = cc (e)
no_read_fault F3 e = cc (e)
no_read_fault F4 e = cc (e)
no_read_fault F5 e = cc (e)
no_read_fault F6 e = cc (e)
no_read_fault F7 e = cc (e)
no_read_fault F8 e = cc (e)
no_read_fault F9 e = cc (e)
no_read_fault F10 e = cc (e)

ended_not_read : (asked : Meant) (numbers : Numbers) (m : Ends (List ArrayValue)) → (ended asked numbers m).status ≡ ReadFault → ⊥
ended_not_read asked numbers (Ok values) e = cc (e)
ended_not_read asked numbers (Err fault) e = no_read_fault fault.kind e

run_not_read : (asked : Meant) (p : ProgramTree) (numbers : Numbers) (r : Result (List ArrayValue) Refusal) → (run_on asked p numbers r).status ≡ ReadFault → ⊥
run_not_read asked p numbers (Err refusal) e = cc (e)
run_not_read asked p numbers (Ok args) e = ended_not_read asked numbers _ e

not_read : (asked : Meant) (p : ProgramTree) (numbers : Numbers) (r : Result (List ArrayValue) Refusal) (end : Ending) → end ≡ run_on asked p numbers r → end.status ≡ ReadFault → ⊥
not_read asked p numbers r end is e = run_not_read asked p numbers r (sym (ap (λ (x : Ending). x.status) is) ∙ e)

-- ---- a file is fetched

module _ (asked : Meant) (p : ProgramTree) (files : Option Contents) (numbers : Numbers) (failed : Type 0) (name : List ℕ) (named : asked.input ≡ file name) where
  pub whole : (r : Result Answer NoMemory) (bytes : List ℕ) → Holds files name bytes → length bytes ≤ 67108864
      → IfOk r (λ a. ending a ≡ run_on asked p numbers (text_value bytes (main_bases p))) → IfOk r (λ a. IsFileAnswer asked p files numbers failed name (ending a))
  whole r bytes holds fits h = IfOk-weaker r _ _ (λ a e.
      due (Some bytes) (ending a) (finds_whole files name bytes holds)
      (Due.run bytes (ending a) (subst (λ o. IsText o (Some bytes) bytes) (sym named) (refl, fits)) (e ∙ ap (λ o. run_on asked p numbers (arguments p o bytes)) (sym named)))
      (λ read. absurd (not_read asked p numbers _ (ending a) e read))) h

  pub longer : (r : Result Answer NoMemory) → HoldsLonger files name 67108864
      → IfOk r (λ a. ending a ≡ record { status = Input; text = line (codes "refused input size") }) → IfOk r (λ a. IsFileAnswer asked p files numbers failed name (ending a))
  longer r holds h =
      let more = finds_longer files name 67108864 holds in
      IfOk-weaker r _ _ (λ a e. subst (IsFileAnswer asked p files numbers failed name) (sym e)
      (due (Some more.0) _ more.2 (Due.too_long (subst (λ o. IsTooLong o (Some more.0)) (sym named) (more.0, refl, more.1))) (λ read. absurd (cc (read))))) h

  pub missing : (r : Result Answer NoMemory) → Lacks files name
      → IfOk r (λ a. ending a ≡ input_fault) → IfOk r (λ a. IsFileAnswer asked p files numbers failed name (ending a))
  missing r lacks h =
      IfOk-weaker r _ _ (λ a e. subst (IsFileAnswer asked p files numbers failed name) (sym e)
      (due None _ (finds_none files name lacks) (Due.missing (subst (λ o. IsMissing o None) (sym named) refl)) (λ read. (lacks, refl)))) h

  pub file_failed : (r : Result Answer NoMemory) → failed
      → IfOk r (λ a. ending a ≡ input_fault) → IfOk r (λ a. IsFileAnswer asked p files numbers failed name (ending a))
  file_failed r f h = IfOk-weaker r _ _ (λ a e. subst (IsFileAnswer asked p files numbers failed name) (sym e) (fails f)) h

-- ---- no file is fetched

module _ (asked : Meant) (p : ProgramTree) (files : Option Contents) (numbers : Numbers) (failed : Type 0) where
  plain_run : (end : Ending) → ((input : Option (List ℕ)) → IsText asked.input input []) → end ≡ run_on asked p numbers (arguments p asked.input []) → IsPlainRun asked p numbers end
  plain_run end text e = record { due = λ input. Due.run [] end (text input) e; other = not_read asked p numbers _ end e }

  pub run_empty : (r : Result Answer NoMemory) → asked.input ≡ empty
      → IfOk r (λ a. ending a ≡ run_on asked p numbers (text_value [] (main_bases p))) → IfOk r (λ a. IsRunAnswer asked p files numbers failed (ending a))
  run_empty r is h = IfOk-weaker r _ _ (λ a e.
      subst (λ o. MatchOption (file_of o) (IsPlainRun asked p numbers (ending a)) (λ name. IsFileAnswer asked p files numbers failed name (ending a))) (sym is)
      (plain_run (ending a) (λ input. subst (λ o. IsText o input []) (sym is) refl) (e ∙ ap (λ o. run_on asked p numbers (arguments p o [])) (sym is)))) h

  pub run_generated : (r : Result Answer NoMemory) (n : ℕ) → asked.input ≡ generated n
      → IfOk r (λ a. ending a ≡ run_on asked p numbers (arguments p (generated n) [])) → IfOk r (λ a. IsRunAnswer asked p files numbers failed (ending a))
  run_generated r n is h = IfOk-weaker r _ _ (λ a e.
      subst (λ o. MatchOption (file_of o) (IsPlainRun asked p numbers (ending a)) (λ name. IsFileAnswer asked p files numbers failed name (ending a))) (sym is)
      (plain_run (ending a) (λ input. subst (λ o. IsText o input []) (sym is) refl) (e ∙ ap (λ o. run_on asked p numbers (arguments p o [])) (sym is)))) h

  from_file : (o : Option (List ℕ)) (end : Ending) → asked.mode ≡ Run
      → MatchOption o (IsPlainRun asked p numbers end) (λ name. IsFileAnswer asked p files numbers failed name end)
      → MatchOption o (IsPlainAnswer asked p numbers end) (λ name. IsFileAnswer asked p files numbers failed name end)
  from_file None end runs h = record { due = λ input. Due.run end runs (h.due input); other = h.other }
  from_file (Some name) end runs h = h

  pub runs : (r : Result Answer NoMemory) → asked.mode ≡ Run
      → IfOk r (λ a. IsRunAnswer asked p files numbers failed (ending a)) → IfOk r (λ a. IsProgramAnswer asked p files numbers failed (ending a))
  runs r is h = IfOk-weaker r _ _ (λ a e.
      subst (λ m. MatchOption (file_in m asked.input) (IsPlainAnswer asked p numbers (ending a)) (λ name. IsFileAnswer asked p files numbers failed name (ending a))) (sym is)
      (from_file (file_of asked.input) (ending a) is e)) h

  pub checks : (r : Result Answer NoMemory) → asked.mode ≡ Check
      → IfOk r (λ a. ending a ≡ record { status = Done; text = line (codes "accepted") }) → IfOk r (λ a. IsProgramAnswer asked p files numbers failed (ending a))
  checks r is h = IfOk-weaker r _ _ (λ a e.
      subst (λ m. MatchOption (file_in m asked.input) (IsPlainAnswer asked p numbers (ending a)) (λ name. IsFileAnswer asked p files numbers failed name (ending a))) (sym is)
      (subst (IsPlainAnswer asked p numbers) (sym e) (record { due = λ input. Due.checked is; other = λ read. cc (read) }))) h

  pub prints : (end : Ending) → asked.mode ≡ Print → end ≡ record { status = Done; text = canonical p } → IsProgramAnswer asked p files numbers failed end
  prints end is e =
      subst (λ m. MatchOption (file_in m asked.input) (IsPlainAnswer asked p numbers end) (λ name. IsFileAnswer asked p files numbers failed name end)) (sym is)
      (subst (IsPlainAnswer asked p numbers) (sym e) (record { due = λ input. Due.printed is; other = λ read. cc (read) }))
