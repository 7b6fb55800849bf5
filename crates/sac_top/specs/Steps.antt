-- What the steps of a run come to.
use Rattle.std.specs.Prelude.{◌≡◌, ◌≤◌, ⊤, ℕ, List, Option, Some, None, Result, Ok, Err, MatchOption}
use Rattle.sac_base.specs.declared.outcome.Outcome.{Outcome}
use Rattle.sac_base.specs.declared.outcome.Outcome.TheVariants.{Values, Faulted}
use Rattle.sac_base.specs.Arrays.{ArrayValue}
use Rattle.sac_base.specs.Outcomes.{Ends}
use Rattle.sac_io.specs.Files.{Contents, Lacks}
use Rattle.sac_ast.specs.Tree.{ProgramTree}
use Rattle.sac_ast.specs.View as View
use Rattle.type_check.specs.declared.checked.Checked.{Checked}
use Rattle.sac_base.specs.declared.stop.Stop.{Stop}
use Rattle.sac_base.specs.declared.stop.Stop.TheVariants as stop
use Rattle.sac_words.specs.declared.options.Mode.{Mode}
use Rattle.sac_words.specs.declared.options.Mode.TheVariants.{Run}
use Rattle.sac_words.specs.Meaning.{Meant, Origin, file}
use Rattle.sac_due.specs.Report.{Numbers}
use Rattle.sac_due.specs.Input.{main_bases}
use Rattle.sac_due.specs.Source.{IsProgramOf, IsRefusedSource}
use Rattle.sac_due.specs.Due.{Ending, IsRunDue, IsProgramDue}
use Rattle.sac_due.specs.Answer.{Finds, input_fault}
use Rattle.sac_due.specs.declared.status.Status.TheVariants.{ReadFault, Source}
use Rattle.sac_top.specs.declared.line.Answer.{Answer}
use Rattle.sac_top.specs.declared.source.Judged.{Judged}
use Rattle.sac_top.specs.declared.source.Judged.TheVariants.{Accepted, Refused}

abbrev pub tree : Checked → ProgramTree
tree checked = View.program checked.program

abbrev pub ending : Answer → Ending
ending answer = record { status = answer.status; text = answer.text.items }

-- some source is this program, and is accepted
abbrev pub IsRead : ProgramTree → Type 0
IsRead p = (source : List ℕ) × IsProgramOf source p

-- the line with which a source is refused
abbrev pub RefusedWith : List ℕ → Judged → Type 0
RefusedWith text (Refused line) = line.items ≡ text
RefusedWith text (Accepted checked) = ⊥

-- an accepted program has the bases of its main function's parameters
abbrev pub HasBases : Checked → Type 0
HasBases checked = checked.main_bases.items ≡ main_bases (tree checked)

-- the source is a program, or is refused
abbrev pub IsJudged : List ℕ → Judged → Type 0
IsJudged source (Accepted checked) = IsProgramOf source (tree checked) × HasBases checked
IsJudged source (Refused line) = IsRefusedSource source line.items

abbrev pub ends_of : Outcome → Ends (List ArrayValue)
ends_of (Values values) = Ok values.items
ends_of (Faulted fault) = Err fault

-- a run that came to its end, and did not want memory
abbrev pub HasEnded : {A : Type 0} → Result A Stop → Type 0
HasEnded (Ok values) = ⊤
HasEnded (Err (stop.Faulted fault)) = ⊤
HasEnded (Err stop.Memory) = ⊥

-- there are 1 to 64 workers
abbrev pub HasWorkers : ℕ → Type 0
HasWorkers workers = (1 ≤ workers) × (workers ≤ 64)

-- the file that is fetched for an accepted program
abbrev pub file_of : Origin → Option (List ℕ)
file_of (file name) = Some name
file_of origin = None

abbrev pub file_in : Mode → Origin → Option (List ℕ)
file_in Run origin = file_of origin
file_in mode origin = None

-- what an accepted program comes to where a file is fetched for it
pub data IsFileAnswer (asked : Meant) (p : ProgramTree) (files : Option Contents) (numbers : Numbers) (failed : Type 0) (name : List ℕ) : Ending → Type 0 where
  due : (input : Option (List ℕ)) (end : Ending) → Finds files name input → IsRunDue asked p input numbers end
      → (end.status ≡ ReadFault → Lacks files name × (end ≡ input_fault)) → IsFileAnswer asked p files numbers failed name end
  fails : failed → IsFileAnswer asked p files numbers failed name input_fault

-- where none is fetched, what is due is so whatever stands under the input's name
pub record IsPlainRun (asked : Meant) (p : ProgramTree) (numbers : Numbers) (end : Ending) : Type 0 where
  pub due : (input : Option (List ℕ)) → IsRunDue asked p input numbers end
  pub other : end.status ≡ ReadFault → ⊥

abbrev pub IsRunAnswer : Meant → ProgramTree → Option Contents → Numbers → Type 0 → Ending → Type 0
IsRunAnswer asked p files numbers failed end =
    MatchOption (file_of asked.input) (IsPlainRun asked p numbers end) (λ name. IsFileAnswer asked p files numbers failed name end)

pub record IsPlainAnswer (asked : Meant) (p : ProgramTree) (numbers : Numbers) (end : Ending) : Type 0 where
  pub due : (input : Option (List ℕ)) → IsProgramDue asked p input numbers end
  pub other : end.status ≡ ReadFault → ⊥

abbrev pub IsProgramAnswer : Meant → ProgramTree → Option Contents → Numbers → Type 0 → Ending → Type 0
IsProgramAnswer asked p files numbers failed end =
    MatchOption (file_in asked.mode asked.input) (IsPlainAnswer asked p numbers end) (λ name. IsFileAnswer asked p files numbers failed name end)

-- what a source comes to, with so many fetches more
pub data IsSourceAnswer (asked : Meant) (source : List ℕ) (files : Option Contents) (numbers : Numbers) (failed : Type 0) : ℕ → Ending → Type 0 where
  refused : (text : List ℕ) → IsRefusedSource source text → IsSourceAnswer asked source files numbers failed 0 (record { status = Source; text = text })
  plain : (p : ProgramTree) (end : Ending) → IsProgramOf source p → IsPlainAnswer asked p numbers end → IsSourceAnswer asked source files numbers failed 0 end
  fetched : (p : ProgramTree) (name : List ℕ) (end : Ending) → IsProgramOf source p → file_in asked.mode asked.input ≡ Some name
      → IsFileAnswer asked p files numbers failed name end → IsSourceAnswer asked source files numbers failed 1 end

-- so many fetches more may be made for a source
pub data MayFetchMore (asked : Meant) (source : List ℕ) : ℕ → Type 0 where
  none : MayFetchMore asked source 0
  one : (p : ProgramTree) (name : List ℕ) → IsProgramOf source p → file_in asked.mode asked.input ≡ Some name → MayFetchMore asked source 1
