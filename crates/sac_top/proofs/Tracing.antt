-- What a run leaves in the trace and in the heap, over plain values.
use Rattle.std.proofs.Common.{◌≡◌, ◌≤◌, ℕ, zero, suc, List, [], Option, Some, None, Result, Ok, Err, IfOk, length, map, refl, sym, ap, subst, ◌∙◌}
use Rattle.std.proofs.lemmas.Result.{IfOk-weaker}
use Rattle.std.specs.Prelude.{Vec}
use Rattle.std.specs.declared.alloc.Global.{Global}
use Rattle.sac_base.specs.Arrays.{ArrayValue, form_of}
use Rattle.sac_base.specs.Outcomes.{Ends}
use Rattle.sac_base.specs.declared.memory.Memory.{Memory as NoMemory}
use Rattle.sac_base.specs.declared.outcome.Outcome.{Outcome}
use Rattle.sac_io.specs.Files.{Contents, Holds}
use Rattle.sac_ast.specs.Tree.{ProgramTree}
use Rattle.source_meaning.specs.Calls.{outcome}
use Rattle.data_text.specs.Texts.{Refusal}
use Rattle.buffer_heap.specs.Heaps.{HeapValue, at}
use Rattle.count_table.specs.Tallied.{PhaseTotals}
use Rattle.counted_code.specs.declared.tree.Code.{Code}
use Rattle.counted_code.specs.declared.tree.Cost.{Cost}
use Rattle.counted_code.specs.View.{code_program}
use Rattle.counted_code.specs.Outcome.{whole_run, outcome_of, cost_of}
use Rattle.sac_base.specs.declared.stop.Stop.{Stop}
use Rattle.sac_base.specs.declared.stop.Stop.TheVariants as stop
use Rattle.array_ops.specs.Tells.{TellsItems}
use Rattle.run_eval.specs.declared.trace.Trace.{Trace}
use Rattle.run_eval.specs.Outcomes.{new_heap, IsCleared, HasCounters, TellsCost, TellsTally}
use Rattle.sac_words.specs.declared.options.Mode.TheVariants.{Run}
use Rattle.sac_words.specs.Meaning.{Meant, Origin, empty, file, generated, words_mean}
use Rattle.sac_build.specs.Arguments.{AreArrays}
use Rattle.sac_build.specs.Loops.{CameFrom}
use Rattle.sac_due.specs.Report.{Numbers}
use Rattle.sac_due.specs.Input.{IsText, arguments}
use Rattle.sac_due.specs.Source.{IsProgramOf}
use Rattle.sac_due.specs.Due.{Ending, ended, run_on}
use Rattle.sac_due.specs.Answer.{Finds}
use Rattle.sac_top.specs.Traced.{draws_asked, numbers_of, IsRunStatus, HasCost, IsCodeFor, IsRunTraced, IsGivenTraced, IsProgramTraced, IsTraced}
use Rattle.sac_top.specs.Steps.{ending, ends_of, HasEnded}
use Rattle.sac_top.specs.Sessions.{IsLeft}
use Rattle.sac_top.specs.declared.line.Answer.{Answer}
use Rattle.sac_top.specs.declared.session.Session.{Session}
use Rattle.sac_top.proofs.Runs.{finds_whole}

-- ---- the heap

nothing_at : (b : ℕ) → at new_heap b ≡ None
nothing_at zero = refl
nothing_at (suc b) = refl

-- a heap that was not touched
untouched : (h : HeapValue) → h ≡ new_heap → IsCleared h
untouched h new = subst IsCleared (sym new) (nothing_at, refl)

-- a session whose heap was not touched
pub stays : {G R : Type 0} (session : Session G R) → session.heap.now ≡ new_heap → IsLeft session session
stays session new = record { heap = refl; trace = refl; cleared = untouched session.heap.now new }

-- ---- the code and its run

pub ends_with : (r : Result Outcome NoMemory) (m n : Ends (List ArrayValue)) → m ≡ n → IfOk r (λ o. m ≡ ends_of o) → IfOk r (λ o. ends_of o ≡ n)
ends_with r m n same h = IfOk-weaker r _ _ (λ o e. sym e ∙ same) h

-- what the cost tells after results
after_results : (ended : Ends (List ArrayValue)) (t : Trace) (cost : Cost) (m : Ends (List ArrayValue)) → m ≡ ended → IfOk m (λ results. HasCost t cost) → IfOk ended (λ results. HasCost t cost)
after_results ended t cost m is h = subst (λ o. IfOk o (λ results. HasCost t cost)) is h

-- whatever ended the run but want of memory
pub run_traced : (asked : Meant) (p : ProgramTree) (args : List ArrayValue) (code : Code) (r : Result (Vec ArrayValue Global) Stop) (before : PhaseTotals) (t : Trace) (h : HeapValue) (folded scalarised : ℕ)
    → AreArrays args → IsCodeFor p (map form_of args) (code_program code) → TellsItems r (outcome_of (whole_run (code_program code) args asked.caps)) → TellsCost r t (cost_of (whole_run (code_program code) args asked.caps))
    → TellsTally r before t.tally (cost_of (whole_run (code_program code) args asked.caps)) (draws_asked asked (code_program code) args) → HasCounters t h → CameFrom p (map form_of args) folded scalarised (code_program code) → HasEnded r
    → IsRunTraced asked p args before (record t { code = Some code; folded = folded; scalarised = scalarised }) h
run_traced asked p args code (Ok v) before t h folded scalarised arrays sound tells cost tally counters turns other = record {
  code = code;
  kept = refl;
  sound = sound;
  turns = turns;
  cost = after_results (outcome p args asked.caps) t (cost_of (whole_run (code_program code) args asked.caps)) (Ok v.items) (sym tells ∙ sound.outcome args asked.caps arrays refl) cost;
  phases = cost.3;
  tally = tally;
  counters = counters;
}
run_traced asked p args code (Err (stop.Faulted e)) before t h folded scalarised arrays sound tells cost tally counters turns other = record {
  code = code;
  kept = refl;
  sound = sound;
  turns = turns;
  cost = after_results (outcome p args asked.caps) t (cost_of (whole_run (code_program code) args asked.caps)) (Err e) (sym tells ∙ sound.outcome args asked.caps arrays refl) tt;
  phases = cost;
  tally = tally;
  counters = counters;
}
run_traced asked p args code (Err stop.Memory) before t h folded scalarised arrays sound tells cost tally counters turns other = absurd other

-- what holds whatever the answer
pub whatever : {T E : Type 0} (r : Result T E) (P : Type 0) → P → IfOk r (λ x. P)
whatever (Ok x) P p = p
whatever (Err e) P p = tt

pub ends_as : (r : Result Answer NoMemory) (asked : Meant) (numbers : Numbers) (m n : Ends (List ArrayValue)) → m ≡ n
    → IfOk r (λ a. ending a ≡ ended asked numbers m) → IfOk r (λ a. ending a ≡ ended asked numbers n)
ends_as r asked numbers m n e h = subst (λ o. IfOk r (λ a. ending a ≡ ended asked numbers o)) e h

pub runs_on : (r : Result Answer NoMemory) (asked : Meant) (p : ProgramTree) (numbers : Numbers) (args : List ArrayValue) (given : Result (List ArrayValue) Refusal) → given ≡ Ok args
    → IfOk r (λ a. ending a ≡ ended asked numbers (outcome p args asked.caps)) → IfOk r (λ a. ending a ≡ run_on asked p numbers given)
runs_on r asked p numbers args given e h = subst (λ g. IfOk r (λ a. ending a ≡ run_on asked p numbers g)) (sym e) h

-- ---- an answer with another status

pub not_run : (r : Result Answer NoMemory) (end : Ending) (X : Answer → Type 0) → (IsRunStatus end.status → ⊥)
    → IfOk r (λ a. ending a ≡ end) → IfOk r (λ a. IsRunStatus a.status → X a)
not_run r end X other h =
    IfOk-weaker r _ _ (λ a e is. absurd (other (subst IsRunStatus (ap (λ (x : Ending). x.status) e) is))) h

-- ---- the arguments, the input and the source

pub given_traced : (r : Result Answer NoMemory) (asked : Meant) (p : ProgramTree) (given : Result (List ArrayValue) Refusal) (args : List ArrayValue) (before : PhaseTotals) (t : Trace) (h : HeapValue) → given ≡ Ok args
    → IfOk r (λ a. ending a ≡ ended asked (numbers_of t) (outcome p args asked.caps)) → IfOk r (λ a. IsRunTraced asked p args before t h)
    → IfOk r (λ a. IsRunStatus a.status → IsGivenTraced asked p given (ending a) before t h)
given_traced (Err e) asked p given args before t h are ends run = tt
given_traced (Ok a) asked p given args before t h are ends run = λ is. record { args = args; are = are; ends = ends; run = run }

same_name : (a b : List ℕ) → file a ≡ file b → a ≡ b
same_name a b e = cc (e)

module _ (asked : Meant) (p : ProgramTree) (files : Option Contents) (before : PhaseTotals) (t : Trace) (h : HeapValue) (r : Result Answer NoMemory) where
  abbrev pub GivenBy : Origin → List ℕ → Type 0
  GivenBy origin bytes = IfOk r (λ a. IsRunStatus a.status → IsGivenTraced asked p (arguments p origin bytes) (ending a) before t h)

  abbrev pub ForProgram : Type 0
  ForProgram = IfOk r (λ a. IsRunStatus a.status → IsProgramTraced asked p files (ending a) before t h)

  pub whole_traced : (name bytes : List ℕ) → asked.input ≡ file name → Holds files name bytes → length bytes ≤ 67108864 → GivenBy (file name) bytes → ForProgram
  whole_traced name bytes named holds fits x = IfOk-weaker r _ _ (λ a given is. record {
    input = Some bytes;
    text = bytes;
    found = λ other e. subst (λ n. Finds files n (Some bytes)) (same_name name other (sym named ∙ e)) (finds_whole files name bytes holds);
    read = subst (λ o. IsText o (Some bytes) bytes) (sym named) (refl, fits);
    given = subst (λ o. IsGivenTraced asked p (arguments p o bytes) (ending a) before t h) (sym named) (given is);
  }) x

  pub empty_traced : asked.input ≡ empty → GivenBy empty [] → ForProgram
  empty_traced named x = IfOk-weaker r _ _ (λ a given is. record {
    input = None;
    text = [];
    found = λ other e. absurd (cc (named, e));
    read = subst (λ o. IsText o None []) (sym named) refl;
    given = subst (λ o. IsGivenTraced asked p (arguments p o []) (ending a) before t h) (sym named) (given is);
  }) x

  pub generated_traced : (n : ℕ) → asked.input ≡ generated n → GivenBy (generated n) [] → ForProgram
  generated_traced n named x = IfOk-weaker r _ _ (λ a given is. record {
    input = None;
    text = [];
    found = λ other e. absurd (cc (named, e));
    read = subst (λ o. IsText o None []) (sym named) refl;
    given = subst (λ o. IsGivenTraced asked p (arguments p o []) (ending a) before t h) (sym named) (given is);
  }) x

pub accepted_traced : (r : Result Answer NoMemory) (asked : Meant) (source : List ℕ) (p : ProgramTree) (files : Option Contents) (before : PhaseTotals) (t : Trace) (h : HeapValue) → IsProgramOf source p
    → IfOk r (λ a. IsRunStatus a.status → IsProgramTraced asked p files (ending a) before t h)
    → IfOk r (λ a. IsRunStatus a.status → (q : ProgramTree) × IsProgramOf source q × IsProgramTraced asked q files (ending a) before t h)
accepted_traced r asked source p files before t h of x = IfOk-weaker r _ _ (λ a run is. (p, of, run is)) x

same_some : {A : Type 0} (a b : A) → Some a ≡ Some b → a ≡ b
same_some a b e = cc (e)

-- the words mean one thing, and the files stay as they were
pub source_traced : (r : Result Answer NoMemory) (words : List (List ℕ)) (files between : Option Contents) (asked other : Meant) (source : List ℕ) (before : PhaseTotals) (t : Trace) (h : HeapValue)
    → words_mean words ≡ Some asked → words_mean words ≡ Some other → Holds files asked.source source → between ≡ files
    → IfOk r (λ a. IsRunStatus a.status → (q : ProgramTree) × IsProgramOf source q × IsProgramTraced asked q between (ending a) before t h)
    → IfOk r (λ a. IsRunStatus a.status → IsTraced other files (ending a) before t h)
source_traced r words files between asked other source before t h means too holds same x =
    subst (λ (k : Meant). IfOk r (λ a. IsRunStatus a.status → IsTraced k files (ending a) before t h)) (same_some asked other (sym means ∙ too))
    (IfOk-weaker r _ _ (λ a run is. let of = run is in record {
      source = source;
      program = of.0;
      found = finds_whole files asked.source source holds;
      read = of.1;
      run = subst (λ fs. IsProgramTraced asked of.0 fs (ending a) before t h) same of.2;
    }) x)

pub same_mode : (words : List (List ℕ)) (asked other : Meant) → words_mean words ≡ Some asked → words_mean words ≡ Some other → other.mode ≡ Run → asked.mode ≡ Run
same_mode words asked other means too run = ap (λ (k : Meant). k.mode) (same_some asked other (sym means ∙ too)) ∙ run

-- the same of a trace and a heap that are as those were
pub retold : (r : Result Answer NoMemory) (asked : Meant) (files : Option Contents) (old before : PhaseTotals) (s t : Trace) (k h : HeapValue) → old ≡ before → s ≡ t → k ≡ h
    → IfOk r (λ a. IsRunStatus a.status → IsTraced asked files (ending a) old s k)
    → IfOk r (λ a. IsRunStatus a.status → IsTraced asked files (ending a) before t h)
retold r asked files old before s t k h b same heap x =
    subst (λ (m : HeapValue). IfOk r (λ a. IsRunStatus a.status → IsTraced asked files (ending a) before t m)) heap
    (subst (λ (u : Trace). IfOk r (λ a. IsRunStatus a.status → IsTraced asked files (ending a) before u k)) same
    (subst (λ (w : PhaseTotals). IfOk r (λ a. IsRunStatus a.status → IsTraced asked files (ending a) w s k)) b x))
