-- From the source to the whole run, over plain values.
use Rattle.std.proofs.Common.{◌≡◌, ◌⊎◌, ◌≤◌, ◌+◌, ◌%◌, ℕ, zero, suc, List, [], Option, Some, None, Result, Ok, Err, IfOk, inl, inr, refl, sym, ap, subst, ◌∙◌, codes, arith}
use Rattle.std.specs.Prelude.{IfSome, IsSome, MatchOption, OnErr}
use Rattle.std.proofs.lemmas.Result.{IfOk-weaker}
use Rattle.std.proofs.lemmas.Bool.{cases_lt}
use Rattle.sac_base.specs.declared.memory.Memory.{Memory as NoMemory}
use Rattle.sac_ast.specs.Tree.{ProgramTree}
use Rattle.sac_io.specs.Count.{Rose, most}
use Rattle.sac_io.specs.Files.{Contents, Holds, HoldsLonger, Lacks}
use Rattle.sac_words.specs.declared.options.Mode.{Mode}
use Rattle.sac_words.specs.declared.options.Mode.TheVariants.{Run, Check, Print}
use Rattle.sac_words.specs.Meaning.{Meant, Origin, empty, file, generated, words_mean}
use Rattle.sac_base.specs.Arrays.{ArrayValue}
use Rattle.sac_base.specs.Outcomes.{Ends}
use Rattle.sac_base.specs.declared.faults.FaultKind.{FaultKind}
use Rattle.sac_base.specs.declared.faults.FaultKind.TheVariants.{F1, F2, F3, F4, F5, F6, F7, F8, F9, F10}
use Rattle.sac_io.specs.Sink.{with_more}
use Rattle.data_text.specs.Texts.{Refusal}
use Rattle.sac_due.specs.Status.{fault_status}
use Rattle.sac_due.specs.Texts.{line, usage_text}
use Rattle.sac_due.specs.Report.{Numbers}
use Rattle.sac_due.specs.Source.{IsProgramOf, IsRefusedSource, too_long}
use Rattle.sac_due.specs.Due
use Rattle.sac_due.specs.Due.{Ending, IsRunDue, IsProgramDue, IsDue, ended, run_on}
use Rattle.sac_due.specs.Answer
use Rattle.sac_due.specs.Answer.{Finds, IsDueFor, FetchesInput, LacksSource, LacksInput, IsAnswer, MayFetch, Calls, Fetches, SaysReadFault, source_fault, input_fault}
use Rattle.sac_due.specs.declared.status.Status.{Status}
use Rattle.sac_due.specs.declared.status.Status.TheVariants.{Source, ReadFault, WriteFault, Usage, Memory}
use Rattle.sac_top.specs.Steps
use Rattle.sac_top.specs.Steps.{ending, file_of, file_in, IsFileAnswer, IsPlainAnswer, IsSourceAnswer, MayFetchMore}
use Rattle.sac_top.specs.declared.line.Answer.{Answer as Written}
use Rattle.sac_top.proofs.Runs.{finds_whole, finds_none, finds_longer}

-- numbers of which nothing is read
abbrev pub no_numbers : Numbers
no_numbers = record { folded = 0; scalarised = 0; taken = 0; given = 0; reused = 0; phases = 0 }

-- ---- counts

more_calls : (b m a k : ℕ) → m ≡ (b + 1) % 18446744073709551616 → a ≡ (m + suc k) % 18446744073709551616 → a ≡ (b + suc (suc k)) % 18446744073709551616
more_calls b m a k e f = omega (arith, e, f)

same_some : {A : Type 0} (a b : A) → Some a ≡ Some b → a ≡ b
same_some a b e = cc (e)

same_name : (a b : List ℕ) → file a ≡ file b → a ≡ b
same_name a b e = cc (e)

file_named : (m : Mode) (o : Origin) (name : List ℕ) → file_in m o ≡ Some name → (m ≡ Run) × (o ≡ file name)
file_named Run (file n) name e = (refl, ap file (same_some n name e))
file_named Run empty name e = absurd (cc (e))
file_named Run (generated n) name e = absurd (cc (e))
file_named Check o name e = absurd (cc (e))
file_named Print o name e = absurd (cc (e))

pub rose_later : (a b c : ℕ) → a ≤ b → Rose b c → Rose a c
rose_later a b c l (inl r) = inl (omega (arith, r))
rose_later a b c l (inr top) = elim (cases_lt a most) [
  | inl below ↦ inl (omega (arith, below, top.1))
  | inr above ↦ inr (omega (arith, above, top.0), top.1)
]

pub calls_then : (before between after count : ℕ) → Calls before between 1 → Calls between after count → Calls before after (suc count)
calls_then before between after zero e f = f ∙ e
calls_then before between after (suc count) e f = more_calls before between after count e f

-- ---- what stands under the names

some_found : (files : Option Contents) (name : List ℕ) → (found : Option (List ℕ)) × Finds files name found
some_found None name = (Some [], refl)
some_found (Some contents) name = (contents name, refl)

named_found : (files : Option Contents) (o : Origin) → (found : Option (List ℕ)) × ((name : List ℕ) → o ≡ file name → Finds files name found)
named_found files (file name) = let found = some_found files name in (found.0, λ other e. subst (λ n. Finds files n found.0) (same_name name other e) found.1)
named_found files empty = (None, λ name e. absurd (cc (e)))
named_found files (generated n) = (None, λ name e. absurd (cc (e)))

-- ---- the words

module _ (words : List (List ℕ)) (files : Option Contents) (numbers : Numbers) (failed : Type 0) where
  pub refused_words : (r : Result Written NoMemory) (before after : ℕ) → words_mean words ≡ None → after ≡ before
      → IfOk r (λ a. ending a ≡ record { status = Usage; text = line usage_text })
      → IfOk r (λ a. (count : ℕ) × IsAnswer words files numbers failed count (ending a) × Calls before after count)
  refused_words r before after refused same h = IfOk-weaker r _ _ (λ a e.
      (0, subst (IsAnswer words files numbers failed 0) (sym e) (Answer.refused refused), same)) h

  module _ (asked : Meant) (means : words_mean words ≡ Some asked) where
    same_asked : (other : Meant) → words_mean words ≡ Some other → other ≡ asked
    same_asked other e = same_some other asked (sym e ∙ means)

    is_asked : IsSome (words_mean words)
    is_asked = rw means refl

    -- due for what was found under the source's name, whatever stands under the input's
    due_for : (found : Option (List ℕ)) (end : Ending) → Finds files asked.source found → ((input : Option (List ℕ)) → IsDue words found input numbers end) → IsDueFor words files numbers end
    due_for found end finds d =
        let input = named_found files asked.input in
        record {
          source = found;
          input = input.0;
          finds_source = λ other e. subst (λ (a : Meant). Finds files a.source found) (sym (same_asked other e)) finds;
          finds_input = λ other name e named. input.1 name (ap (λ (a : Meant). a.input) (sym (same_asked other e)) ∙ named);
          due = d input.0;
        }

    pub source_missing : Lacks files asked.source → IsAnswer words files numbers failed 1 source_fault
    source_missing lacks = Answer.by_source source_fault is_asked
        (due_for None source_fault (finds_none files asked.source lacks) (λ input. Due.missing asked means refl))
        (λ read. (record { asked = asked; means = means; lacks = lacks }, refl))

    pub source_failed : failed → IsAnswer words files numbers failed 1 source_fault
    source_failed f = Answer.source_failed is_asked f

    refused_source : (bytes text : List ℕ) → Finds files asked.source (Some bytes) → IsRefusedSource bytes text → IsAnswer words files numbers failed 1 (record { status = Source; text = text })
    refused_source bytes text finds r = Answer.by_source _ is_asked
        (due_for (Some bytes) _ finds (λ input. Due.refused asked bytes text means refl r)) (λ read. absurd (cc (read)))

    pub source_longer : HoldsLonger files asked.source 1048576 → IsAnswer words files numbers failed 1 (record { status = Source; text = line (codes "refused source size") })
    source_longer holds =
        let more = finds_longer files asked.source 1048576 holds in
        refused_source more.0 _ more.2 (too_long more.1)

    told_source : (o : Option Contents) (bytes : List ℕ) (p : ProgramTree) → Holds o asked.source bytes → IsProgramOf bytes p
        → IfSome o (λ contents. (b : List ℕ) × (q : ProgramTree) × (contents asked.source ≡ Some b) × IsProgramOf b q)
    told_source None bytes p h is = tt
    told_source (Some contents) bytes p h is = (bytes, p, h, is)

    needs_input : (bytes : List ℕ) (p : ProgramTree) (name : List ℕ) → Holds files asked.source bytes → IsProgramOf bytes p → file_in asked.mode asked.input ≡ Some name → FetchesInput words files
    needs_input bytes p name holds is fetches =
        let named = file_named asked.mode asked.input name fetches in
        record { asked = asked; name = name; means = means; runs = named.0; named = named.1; accepted = told_source files bytes p holds is }

    from_file : (bytes : List ℕ) (p : ProgramTree) (name : List ℕ) (end : Ending) → Holds files asked.source bytes → IsProgramOf bytes p → file_in asked.mode asked.input ≡ Some name
        → IsFileAnswer asked p files numbers failed name end → IsAnswer words files numbers failed 2 end
    unfolding needs_input
    from_file bytes p name end holds is fetches (Steps.due input _ finds d read) =
        let needs = needs_input bytes p name holds is fetches in
        Answer.by_input end needs
        (record {
          source = Some bytes;
          input = input;
          finds_source = λ other e. subst (λ (a : Meant). Finds files a.source (Some bytes)) (sym (same_asked other e)) (finds_whole files asked.source bytes holds);
          finds_input = λ other n e named. subst (λ m. Finds files m input) (same_name name n (sym needs.named ∙ ap (λ (a : Meant). a.input) (sym (same_asked other e)) ∙ named)) finds;
          due = Due.accepted asked bytes p end means refl is (Due.run end needs.runs d);
        })
        (λ r. (record { fetches = needs; lacks = (read r).0 }, (read r).1))
    from_file bytes p name _ holds is fetches (Steps.fails f) = Answer.input_failed (needs_input bytes p name holds is fetches) f

    pub from_source : (bytes : List ℕ) (count : ℕ) (end : Ending) → Holds files asked.source bytes → IsSourceAnswer asked bytes files numbers failed count end → IsAnswer words files numbers failed (suc count) end
    from_source bytes _ _ holds (Steps.refused text r) = refused_source bytes text (finds_whole files asked.source bytes holds) r
    from_source bytes _ end holds (Steps.plain p _ is a) = Answer.by_source end is_asked
        (due_for (Some bytes) end (finds_whole files asked.source bytes holds) (λ input. Due.accepted asked bytes p end means refl is (a.due input)))
        (λ read. absurd (a.other read))
    from_source bytes _ end holds (Steps.fetched p name _ is fetches a) = from_file bytes p name end holds is fetches a

    pub may_fetch : (bytes : List ℕ) (count : ℕ) (status : Status) → Holds files asked.source bytes → MayFetchMore asked bytes count → MayFetch words files status (suc count)
    may_fetch bytes _ status holds Steps.none = Answer.source is_asked
    may_fetch bytes _ status holds (Steps.one p name is fetches) = Answer.input (needs_input bytes p name holds is fetches)

    pub fetched_once : (r : Result Written NoMemory) (before after : ℕ) (end : Ending) → Calls before after 1 → IsAnswer words files numbers failed 1 end
        → IfOk r (λ a. ending a ≡ end) → IfOk r (λ a. (count : ℕ) × IsAnswer words files numbers failed count (ending a) × Calls before after count)
    fetched_once r before after end calls answer h = IfOk-weaker r _ _ (λ a e. (1, subst (IsAnswer words files numbers failed 1) (sym e) answer, calls)) h

    pub once : (before after : ℕ) (status : Status) → Calls before after 1 → Fetches words files status before after
    once before after status calls = (1, Answer.source is_asked, calls)

-- a failure after the source was fetched is one of the whole
later_file : (asked : Meant) (p : ProgramTree) (files : Option Contents) (numbers : Numbers) (f g : Type 0) (name : List ℕ) (end : Ending) → (f → g) → IsFileAnswer asked p files numbers f name end → IsFileAnswer asked p files numbers g name end
later_file asked p files numbers f g name _ up (Steps.due input end finds d read) = Steps.due input end finds d read
later_file asked p files numbers f g name _ up (Steps.fails x) = Steps.fails (up x)

pub later : (asked : Meant) (source : List ℕ) (files : Option Contents) (numbers : Numbers) (f g : Type 0) (count : ℕ) (end : Ending) → (f → g) → IsSourceAnswer asked source files numbers f count end → IsSourceAnswer asked source files numbers g count end
later asked source files numbers f g _ _ up (Steps.refused text r) = Steps.refused text r
later asked source files numbers f g _ _ up (Steps.plain p end is a) = Steps.plain p end is a
later asked source files numbers f g _ _ up (Steps.fetched p name end is e a) = Steps.fetched p name end is e (later_file asked p files numbers f g name end up a)

-- ---- a source is answered

module _ (asked : Meant) (source : List ℕ) (files : Option Contents) (numbers : Numbers) (failed : Type 0) where
  pub answer_accepted : (r : Result Written NoMemory) (p : ProgramTree) (before after : ℕ) → IsProgramOf source p
      → MatchOption (file_in asked.mode asked.input) (after ≡ before) (λ name. after ≡ (before + 1) % 18446744073709551616)
      → IfOk r (λ a. MatchOption (file_in asked.mode asked.input) (IsPlainAnswer asked p numbers (ending a)) (λ name. IsFileAnswer asked p files numbers failed name (ending a)))
      → IfOk r (λ a. (count : ℕ) × IsSourceAnswer asked source files numbers failed count (ending a) × Calls before after count)
  answer_accepted r p before after is calls h = IfOk-weaker r _ _ (λ a. go (ending a) (file_in asked.mode asked.input) refl calls) h
    where
      go : (end : Ending) (o : Option (List ℕ)) → file_in asked.mode asked.input ≡ o → MatchOption o (after ≡ before) (λ name. after ≡ (before + 1) % 18446744073709551616)
          → MatchOption o (IsPlainAnswer asked p numbers end) (λ name. IsFileAnswer asked p files numbers failed name end)
          → (count : ℕ) × IsSourceAnswer asked source files numbers failed count end × Calls before after count
      go end None e c x = (0, Steps.plain p end is x, c)
      go end (Some name) e c x = (1, Steps.fetched p name end is e x, c)

  pub may_accepted : (p : ProgramTree) (before after : ℕ) → IsProgramOf source p
      → MatchOption (file_in asked.mode asked.input) (after ≡ before) (λ name. after ≡ (before + 1) % 18446744073709551616)
      → (count : ℕ) × MayFetchMore asked source count × Calls before after count
  may_accepted p before after is calls = go (file_in asked.mode asked.input) refl calls
    where
      go : (o : Option (List ℕ)) → file_in asked.mode asked.input ≡ o → MatchOption o (after ≡ before) (λ name. after ≡ (before + 1) % 18446744073709551616)
          → (count : ℕ) × MayFetchMore asked source count × Calls before after count
      go None e c = (0, Steps.none, c)
      go (Some name) e c = (1, Steps.one p name is e, c)

-- ---- the end of a run

fault_not : (s : Status) (kind : FaultKind) → (fault_status kind ≡ s) → (s ≡ WriteFault) ⊎ (s ≡ Memory) → ⊥
fault_not s F1 e w = elim w [ inl a ↦ cc (e, a) | inr a ↦ cc (e, a) ]
fault_not s F2 e w = elim w [ inl a ↦ cc (e, a) | inr a ↦ cc (e, a) ]
fault_not s F3 e w = elim w [ inl a ↦ cc (e, a) | inr a ↦ cc (e, a) ]
fault_not s F4 e w = elim w [ inl a ↦ cc (e, a) | inr a ↦ cc (e, a) ]
fault_not s F5 e w = elim w [ inl a ↦ cc (e, a) | inr a ↦ cc (e, a) ]
fault_not s F6 e w = elim w [ inl a ↦ cc (e, a) | inr a ↦ cc (e, a) ]
fault_not s F7 e w = elim w [ inl a ↦ cc (e, a) | inr a ↦ cc (e, a) ]
fault_not s F8 e w = elim w [ inl a ↦ cc (e, a) | inr a ↦ cc (e, a) ]
fault_not s F9 e w = elim w [ inl a ↦ cc (e, a) | inr a ↦ cc (e, a) ]
fault_not s F10 e w = elim w [ inl a ↦ cc (e, a) | inr a ↦ cc (e, a) ]

abbrev NotWritten : Ending → Type 0
NotWritten end = (end.status ≡ WriteFault) ⊎ (end.status ≡ Memory) → ⊥

ended_not : (asked : Meant) (numbers : Numbers) (m : Ends (List ArrayValue)) → NotWritten (ended asked numbers m)
ended_not asked numbers (Ok values) w = elim w [ inl a ↦ cc (a) | inr a ↦ cc (a) ]
ended_not asked numbers (Err fault) w = fault_not (fault_status fault.kind) fault.kind refl w

run_not : (asked : Meant) (p : ProgramTree) (numbers : Numbers) (r : Result (List ArrayValue) Refusal) → NotWritten (run_on asked p numbers r)
run_not asked p numbers (Err refusal) w = elim w [ inl a ↦ cc (a) | inr a ↦ cc (a) ]
run_not asked p numbers (Ok args) w = ended_not asked numbers _ w

run_due_not : (asked : Meant) (p : ProgramTree) (input : Option (List ℕ)) (numbers : Numbers) (end : Ending) → IsRunDue asked p input numbers end → NotWritten end
run_due_not asked p input numbers _ (Due.missing m) w = elim w [ inl a ↦ cc (a) | inr a ↦ cc (a) ]
run_due_not asked p input numbers _ (Due.too_long l) w = elim w [ inl a ↦ cc (a) | inr a ↦ cc (a) ]
run_due_not asked p input numbers end (Due.run bytes _ t e) w = run_not asked p numbers _ (subst (λ x. (x.status ≡ WriteFault) ⊎ (x.status ≡ Memory)) e w)

program_due_not : (asked : Meant) (p : ProgramTree) (input : Option (List ℕ)) (numbers : Numbers) (end : Ending) → IsProgramDue asked p input numbers end → NotWritten end
program_due_not asked p input numbers _ (Due.printed m) w = elim w [ inl a ↦ cc (a) | inr a ↦ cc (a) ]
program_due_not asked p input numbers _ (Due.checked m) w = elim w [ inl a ↦ cc (a) | inr a ↦ cc (a) ]
program_due_not asked p input numbers end (Due.run _ m d) w = run_due_not asked p input numbers end d w

due_not : (words : List (List ℕ)) (source input : Option (List ℕ)) (numbers : Numbers) (end : Ending) → IsDue words source input numbers end → NotWritten end
due_not words source input numbers _ (Due.usage r) w = elim w [ inl a ↦ cc (a) | inr a ↦ cc (a) ]
due_not words source input numbers _ (Due.missing k m n) w = elim w [ inl a ↦ cc (a) | inr a ↦ cc (a) ]
due_not words source input numbers _ (Due.refused k bs t m s r) w = elim w [ inl a ↦ cc (a) | inr a ↦ cc (a) ]
due_not words source input numbers end (Due.accepted k bs p _ m s i d) w = program_due_not k p input numbers end d w

module _ (words : List (List ℕ)) (files : Option Contents) (numbers : Numbers) (failed : Type 0) where
  pub answer_not : (count : ℕ) (end : Ending) → IsAnswer words files numbers failed count end → NotWritten end
  answer_not _ _ (Answer.refused r) w = elim w [ inl a ↦ cc (a) | inr a ↦ cc (a) ]
  answer_not _ end (Answer.by_source _ m d read) w = due_not words d.source d.input numbers end d.due w
  answer_not _ end (Answer.by_input _ m d read) w = due_not words d.source d.input numbers end d.due w
  answer_not _ _ (Answer.source_failed m f) w = elim w [ inl a ↦ cc (a) | inr a ↦ cc (a) ]
  answer_not _ _ (Answer.input_failed m f) w = elim w [ inl a ↦ cc (a) | inr a ↦ cc (a) ]

  refused_due : words_mean words ≡ None → IsDueFor words files numbers (record { status = Usage; text = line usage_text })
  refused_due refused = record {
    source = None;
    input = None;
    finds_source = λ asked e. absurd (cc (e, refused));
    finds_input = λ asked name e named. absurd (cc (e, refused));
    due = Due.usage refused;
  }

  -- any other answer is due
  pub answer_due : (count : ℕ) (end : Ending) → IsAnswer words files numbers failed count end → (end.status ≡ ReadFault → ⊥) ⊎ (failed → ⊥) → IsDueFor words files numbers end
  answer_due _ _ (Answer.refused r) other = refused_due r
  answer_due _ end (Answer.by_source _ m d read) other = d
  answer_due _ end (Answer.by_input _ m d read) other = d
  answer_due _ _ (Answer.source_failed m f) other = absurd (elim other [ inl not_read ↦ not_read refl | inr not_failed ↦ not_failed f ])
  answer_due _ _ (Answer.input_failed m f) other = absurd (elim other [ inl not_read ↦ not_read refl | inr not_failed ↦ not_failed f ])

  -- a read fault has its cause
  pub answer_read : (count : ℕ) (end : Ending) → IsAnswer words files numbers failed count end → end.status ≡ ReadFault → failed ⊎ (LacksSource words files ⊎ LacksInput words files)
  answer_read _ _ (Answer.refused r) is = absurd (cc (is))
  answer_read _ end (Answer.by_source _ m d read) is = inr (inl (read is).0)
  answer_read _ end (Answer.by_input _ m d read) is = inr (inr (read is).0)
  answer_read _ _ (Answer.source_failed m f) is = inl f
  answer_read _ _ (Answer.input_failed m f) is = inl f

  -- and names what was fetched last
  pub answer_says : (count : ℕ) (end : Ending) (before after : ℕ) (old new : Option (List ℕ)) → IsAnswer words files numbers failed count end → Calls before after count
      → new ≡ with_more old end.text → end.status ≡ ReadFault → SaysReadFault words files before after old new
  answer_says _ _ before after old new (Answer.refused r) calls w is = absurd (cc (is))
  answer_says _ end before after old new (Answer.by_source _ m d read) calls w is =
      Answer.source calls (w ∙ ap (λ (x : Ending). with_more old x.text) (read is).1)
  answer_says _ end before after old new (Answer.by_input _ m d read) calls w is =
      Answer.input calls m (w ∙ ap (λ (x : Ending). with_more old x.text) (read is).1)
  answer_says _ _ before after old new (Answer.source_failed m f) calls w is = Answer.source calls w
  answer_says _ _ before after old new (Answer.input_failed m f) calls w is = Answer.input calls m w

  pub answer_fetches : (count : ℕ) (end : Ending) (status : Status) → IsAnswer words files numbers failed count end → MayFetch words files status count
  answer_fetches _ _ status (Answer.refused r) = Answer.refused r
  answer_fetches _ end status (Answer.by_source _ m d read) = Answer.source m
  answer_fetches _ end status (Answer.by_input _ m d read) = Answer.input m
  answer_fetches _ _ status (Answer.source_failed m f) = Answer.source m
  answer_fetches _ _ status (Answer.input_failed m f) = Answer.input m

-- ---- answers of calls

pub on_err : {T E : Type 0} (r : Result T E) (P : Type 0) → P → OnErr r P
on_err (Ok x) P p = tt
on_err (Err e) P p = p

on_err_from : {T E : Type 0} (r : Result T E) (P Q : Type 0) → (P → Q) → OnErr r P → OnErr r Q
on_err_from (Ok x) P Q f p = tt
on_err_from (Err e) P Q f p = f p

-- where the files are as before, so is the number of their calls
pub same_calls : {A : Type 0} (calls : A → ℕ) (after before : A) (o : Option (List ℕ))
    → MatchOption o (after ≡ before) (λ name. calls after ≡ (calls before + 1) % 18446744073709551616)
    → MatchOption o (calls after ≡ calls before) (λ name. calls after ≡ (calls before + 1) % 18446744073709551616)
same_calls calls after before None e = ap calls e
same_calls calls after before (Some name) e = e

module _ (words : List (List ℕ)) (files between : Option Contents) (asked : Meant) (means : words_mean words ≡ Some asked) (source : List ℕ) (r : Result Written NoMemory)
    (holds : Holds files asked.source source) (same : between ≡ files) (c0 c1 c2 : ℕ) (first : Calls c0 c1 1) where
  pub whole_answer : (numbers : Numbers) (f0 f1 f2 : ℕ) → f0 ≤ f1
      → IfOk r (λ a. (count : ℕ) × IsSourceAnswer asked source between numbers (Rose f1 f2) count (ending a) × Calls c1 c2 count)
      → IfOk r (λ a. (count : ℕ) × IsAnswer words files numbers (Rose f0 f2) count (ending a) × Calls c0 c2 count)
  whole_answer numbers f0 f1 f2 low h = IfOk-weaker r _ _ (λ a x. (
    suc x.0,
    from_source words files numbers (Rose f0 f2) asked means source x.0 (ending a) holds
        (later asked source files numbers (Rose f1 f2) (Rose f0 f2) x.0 (ending a) (rose_later f0 f1 f2 low)
        (subst (λ fs. IsSourceAnswer asked source fs numbers (Rose f1 f2) x.0 (ending a)) same x.1)),
    calls_then c0 c1 c2 x.0 first x.2,
  )) h

  pub whole_calls : OnErr r ((count : ℕ) × MayFetchMore asked source count × Calls c1 c2 count) → OnErr r (Fetches words files Memory c0 c2)
  whole_calls h = on_err_from r _ _ (λ x. (suc x.0, may_fetch words files no_numbers (Rose 0 0) asked means source x.0 Memory holds x.1, calls_then c0 c1 c2 x.0 first x.2)) h

pub none_fetched : {T E : Type 0} (r : Result T E) (asked : Meant) (source : List ℕ) (calls : ℕ) → OnErr r ((count : ℕ) × MayFetchMore asked source count × Calls calls calls count)
none_fetched r asked source calls = on_err r _ (0, Steps.none, refl)

pub accepted_fetched : {T E : Type 0} (r : Result T E) (asked : Meant) (source : List ℕ) (p : ProgramTree) (before after : ℕ) → IsProgramOf source p
    → MatchOption (file_in asked.mode asked.input) (after ≡ before) (λ name. after ≡ (before + 1) % 18446744073709551616)
    → OnErr r ((count : ℕ) × MayFetchMore asked source count × Calls before after count)
accepted_fetched r asked source p before after is calls = on_err r _ (may_accepted asked source None no_numbers (Unit {0}) p before after is calls)

pub refused_fetched : {T E : Type 0} (r : Result T E) (words : List (List ℕ)) (files : Option Contents) (calls : ℕ) → words_mean words ≡ None → OnErr r (Fetches words files Memory calls calls)
refused_fetched r words files calls refused = on_err r _ (0, Answer.refused refused, refl)
