-- The text and the status that are due, by cases in the order of the run. The numbers are those of the report, and matter only where it is asked for.
use Rattle.std.specs.Prelude.{◌≡◌, ℕ, List, ◌++◌, Option, Some, None, Result, Ok, Err, codes, flat_map}
use Rattle.sac_base.specs.Arrays.{ArrayValue}
use Rattle.sac_base.specs.Outcomes.{Ends}
use Rattle.sac_ast.specs.Tree.{ProgramTree}
use Rattle.sac_print.specs.Canonical.{canonical}
use Rattle.source_meaning.specs.Calls.{outcome}
use Rattle.data_text.specs.Texts.{Refusal}
use Rattle.data_text.specs.Printed.{array_line, summary_line}
use Rattle.sac_words.specs.declared.options.Mode.TheVariants.{Run, Check, Print}
use Rattle.sac_words.specs.Meaning.{Meant, Origin, generated, words_mean}
use Rattle.sac_due.specs.Status.{fault_status}
use Rattle.sac_due.specs.Texts.{line, usage_text, fault_line, refused_input}
use Rattle.sac_due.specs.Report.{Numbers, report_text}
use Rattle.sac_due.specs.Source.{IsProgramOf, IsRefusedSource}
use Rattle.sac_due.specs.Input.{IsMissing, IsTooLong, IsText, arguments}
use Rattle.sac_due.specs.declared.status.Status.{Status}
use Rattle.sac_due.specs.declared.status.Status.TheVariants.{Done, Source, Input, ReadFault, Usage}

-- a status and the text that is due with it
pub record Ending : Type 0 where
  pub status : Status
  pub text : List ℕ

-- the line of a result: where the input is generated, its summary
abbrev pub result_line : Origin → ArrayValue → List ℕ
result_line (generated n) = summary_line
result_line origin = array_line

-- what a run comes to by the outcome of the program: a line for each result, and the report, or the line of the fault
abbrev pub ended : Meant → Numbers → Ends (List ArrayValue) → Ending
ended asked numbers (Ok values) = record { status = Done; text = flat_map (result_line asked.input) values ++ report_text asked.report numbers }
ended asked numbers (Err fault) = record { status = fault_status fault.kind; text = fault_line fault }

-- the same by what the input gives
abbrev pub run_on : Meant → ProgramTree → Numbers → Result (List ArrayValue) Refusal → Ending
run_on asked p numbers (Err refusal) = record { status = Input; text = refused_input refusal }
run_on asked p numbers (Ok args) = ended asked numbers (outcome p args asked.caps)

-- what is due for a run of an accepted program, and for what stands under the input's name
pub data IsRunDue (asked : Meant) (p : ProgramTree) (input : Option (List ℕ)) (numbers : Numbers) : Ending → Type 0 where
  missing : IsMissing asked.input input → IsRunDue asked p input numbers (record { status = ReadFault; text = line (codes "read fault input") })
  too_long : IsTooLong asked.input input → IsRunDue asked p input numbers (record { status = Input; text = line (codes "refused input size") })
  run : (bytes : List ℕ) (end : Ending) → IsText asked.input input bytes → end ≡ run_on asked p numbers (arguments p asked.input bytes)
      → IsRunDue asked p input numbers end

-- what is due for an accepted program
pub data IsProgramDue (asked : Meant) (p : ProgramTree) (input : Option (List ℕ)) (numbers : Numbers) : Ending → Type 0 where
  printed : asked.mode ≡ Print → IsProgramDue asked p input numbers (record { status = Done; text = canonical p })
  checked : asked.mode ≡ Check → IsProgramDue asked p input numbers (record { status = Done; text = line (codes "accepted") })
  run : (end : Ending) → asked.mode ≡ Run → IsRunDue asked p input numbers end → IsProgramDue asked p input numbers end

-- what is due for the words, and for what stands under the names of the source and of the input
pub data IsDue (words : List (List ℕ)) (source input : Option (List ℕ)) (numbers : Numbers) : Ending → Type 0 where
  usage : words_mean words ≡ None → IsDue words source input numbers (record { status = Usage; text = line usage_text })
  missing : (asked : Meant) → words_mean words ≡ Some asked → source ≡ None
      → IsDue words source input numbers (record { status = ReadFault; text = line (codes "read fault source") })
  refused : (asked : Meant) (bytes text : List ℕ) → words_mean words ≡ Some asked → source ≡ Some bytes → IsRefusedSource bytes text
      → IsDue words source input numbers (record { status = Source; text = text })
  accepted : (asked : Meant) (bytes : List ℕ) (p : ProgramTree) (end : Ending) → words_mean words ≡ Some asked → source ≡ Some bytes
      → IsProgramOf bytes p → IsProgramDue asked p input numbers end → IsDue words source input numbers end
