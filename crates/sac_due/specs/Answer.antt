-- What a run may come to, over files that may fail and need not tell.
use Rattle.std.specs.Prelude.{◌≡◌, ℕ, zero, suc, ◌+◌, ◌%◌, ◌^◌, List, Option, Some, None, IsSome, codes, MatchOption, IfSome}
use Rattle.sac_io.specs.Files.{Contents, Lacks}
use Rattle.sac_io.specs.Sink.{with_more, AppendsFront}
use Rattle.sac_ast.specs.Tree.{ProgramTree}
use Rattle.sac_words.specs.declared.options.Mode.TheVariants.{Run}
use Rattle.sac_words.specs.Meaning.{Meant, file, words_mean}
use Rattle.sac_due.specs.Texts.{line, usage_text}
use Rattle.sac_due.specs.Report.{Numbers}
use Rattle.sac_due.specs.Source.{IsProgramOf}
use Rattle.sac_due.specs.Due.{Ending, IsDue}
use Rattle.sac_due.specs.declared.status.Status.{Status}
use Rattle.sac_due.specs.declared.status.Status.TheVariants.{ReadFault, Usage, Memory}

-- what stands under a name: what the files tell, or, where they do not tell, some bytes
abbrev pub Finds : Option Contents → List ℕ → Option (List ℕ) → Type 0
Finds files name found = MatchOption files (IsSome found) (λ contents. contents name ≡ found)

-- due for these words and files, where these are the numbers of the report
pub record IsDueFor (words : List (List ℕ)) (files : Option Contents) (numbers : Numbers) (end : Ending) : Type 0 where
  pub source : Option (List ℕ)
  pub input : Option (List ℕ)
  pub finds_source : (asked : Meant) → words_mean words ≡ Some asked → Finds files asked.source source
  pub finds_input : (asked : Meant) (name : List ℕ) → words_mean words ≡ Some asked → asked.input ≡ file name → Finds files name input
  pub due : IsDue words source input numbers end

-- The input is fetched: a file was named, the mode runs the program and, where the files are told, the source is an accepted program.
pub record FetchesInput (words : List (List ℕ)) (files : Option Contents) : Type 0 where
  pub asked : Meant
  pub name : List ℕ
  pub means : words_mean words ≡ Some asked
  pub runs : asked.mode ≡ Run
  pub named : asked.input ≡ file name
  pub accepted : IfSome files (λ contents. (bytes : List ℕ) × (p : ProgramTree) × (contents asked.source ≡ Some bytes) × IsProgramOf bytes p)

-- the files tell that there is no source, or, after an accepted source, no input
pub record LacksSource (words : List (List ℕ)) (files : Option Contents) : Type 0 where
  pub asked : Meant
  pub means : words_mean words ≡ Some asked
  pub lacks : Lacks files asked.source

pub record LacksInput (words : List (List ℕ)) (files : Option Contents) : Type 0 where
  pub fetches : FetchesInput words files
  pub lacks : Lacks files fetches.name

abbrev pub source_fault : Ending
source_fault = record { status = ReadFault; text = line (codes "read fault source") }

abbrev pub input_fault : Ending
input_fault = record { status = ReadFault; text = line (codes "read fault input") }

-- What a run comes to before it writes, after so many fetches: what is due, or a fault of the files. A read fault names what was fetched last.
pub data IsAnswer (words : List (List ℕ)) (files : Option Contents) (numbers : Numbers) (failed : Type 0) : ℕ → Ending → Type 0 where
  refused : words_mean words ≡ None → IsAnswer words files numbers failed 0 (record { status = Usage; text = line usage_text })
  by_source : (end : Ending) → IsSome (words_mean words) → IsDueFor words files numbers end
      → (end.status ≡ ReadFault → LacksSource words files × (end ≡ source_fault)) → IsAnswer words files numbers failed 1 end
  by_input : (end : Ending) → FetchesInput words files → IsDueFor words files numbers end
      → (end.status ≡ ReadFault → LacksInput words files × (end ≡ input_fault)) → IsAnswer words files numbers failed 2 end
  source_failed : IsSome (words_mean words) → failed → IsAnswer words files numbers failed 1 source_fault
  input_failed : FetchesInput words files → failed → IsAnswer words files numbers failed 2 input_fault

-- so many fetches may be made
pub data MayFetch (words : List (List ℕ)) (files : Option Contents) (status : Status) : ℕ → Type 0 where
  refused : words_mean words ≡ None → MayFetch words files status 0
  memory : status ≡ Memory → MayFetch words files status 0
  source : IsSome (words_mean words) → MayFetch words files status 1
  input : FetchesInput words files → MayFetch words files status 2

-- the number of calls, which is counted modulo 2 ^ 64, rose so
abbrev pub Calls : ℕ → ℕ → ℕ → Type 0
Calls before after zero = after ≡ before
Calls before after (suc count) = after ≡ (before + suc count) % 2 ^ 64

abbrev pub Fetches : List (List ℕ) → Option Contents → Status → ℕ → ℕ → Type 0
Fetches words files status before after = (count : ℕ) × MayFetch words files status count × Calls before after count

-- the status is due, and the text that is due with it was written
pub record EndsAsDue (words : List (List ℕ)) (files : Option Contents) (numbers : Numbers) (old new : Option (List ℕ)) (status : Status) : Type 0 where
  pub text : List ℕ
  pub due : IsDueFor words files numbers (record { status = status; text = text })
  pub written : new ≡ with_more old text

-- the line of a read fault was written, which names what was fetched last
pub data SaysReadFault (words : List (List ℕ)) (files : Option Contents) (before after : ℕ) (old new : Option (List ℕ)) : Type 0 where
  source : Calls before after 1 → new ≡ with_more old (line (codes "read fault source")) → SaysReadFault words files before after old new
  input : Calls before after 2 → FetchesInput words files → new ≡ with_more old (line (codes "read fault input"))
      → SaysReadFault words files before after old new

-- A front of the text that the run came to was written, where the number of fetches with which it came to it is that of the calls that were made.
pub record EndsCutShort (words : List (List ℕ)) (files : Option Contents) (numbers : Numbers) (failed : Type 0) (before after : ℕ)
    (old new : Option (List ℕ)) : Type 0 where
  pub count : ℕ
  pub end : Ending
  pub answer : IsAnswer words files numbers failed count end
  pub calls : Calls before after count
  pub front : AppendsFront old new end.text
