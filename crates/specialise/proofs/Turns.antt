-- One turn of the work on all functions.
use Rattle.std.proofs.Common.{◌≡◌, ℕ, suc, ◌+◌, ◌<◌, ◌≤◌, List, [], ◌∷◌, length, All, Option, Some, refl, sym, ap, subst, ◌∙◌, arith, ◌⊎◌, inl, inr}
use Rattle.std.specs.Prelude.{slice_get}
use Rattle.std.proofs.lemmas.Bool.{cases_lt}
use Rattle.std.proofs.lemmas.List.Elements.{All-nil, All-cons, All-weaker}
use Rattle.std.proofs.lemmas.Option.{slice_get_within}
use Rattle.core_ir.specs.Outcome.{param_vars}
use Rattle.core_ir.specs.Terms.{FunTerm, CoreTerm}
use Rattle.core_ir.specs.WellFormed.{IsWellFormed}
use Rattle.specialise.proofs.groups.Lists.{some_same, some_within}
use Rattle.core_facts.specs.constants.Called.{called}
use Rattle.known_calls.specs.declared.calls.KnownCall.{KnownCall}
use Rattle.known_calls.specs.Known.{GroupAndShapes, known_in, typed_facts}
use Rattle.known_calls.specs.Told.{told}
use Rattle.specialise.specs.Plans.{Entry, IsPlan}
use Rattle.specialise.specs.Progress.{Grows, CallPlanned, EntryPlanned, EntryPlannedAt, AllPlanned, AreCallsAt}
use Rattle.specialise.proofs.Progress.{call_stays}

-- ---- the calls of a function

-- those below a number are served
abbrev pub CallsTo : CoreTerm → List Entry → List (List ℕ) → List KnownCall → ℕ → Type 0
CallsTo core es gs calls k = (i : ℕ) (c : KnownCall) → i < k → slice_get calls i ≡ Some c → CallPlanned core es gs (c.group, c.shapes.items)

pub call_done : (core : CoreTerm) → IsWellFormed core → (es : List Entry) (gs : List (List ℕ)) → IsPlan core es gs → (more : List Entry) (others : List (List ℕ)) → Grows es gs more others
    → (calls : List KnownCall) (k : ℕ) (here : KnownCall) → slice_get calls k ≡ Some here → CallPlanned core more others (here.group, here.shapes.items)
    → CallsTo core es gs calls k → CallsTo core more others calls (k + 1)
call_done core well es gs plan more others g calls k here at done h i c lt found = elim (cases_lt i k) [
  | inl l ↦ call_stays core well es gs plan more others g (c.group, c.shapes.items) (h i c l found)
  | inr m ↦
      let same : i ≡ k = omega (arith, lt, m) in
      subst (λ (d : KnownCall). CallPlanned core more others (d.group, d.shapes.items)) (some_same here c (sym at ∙ ap (slice_get calls) (sym same) ∙ found)) done
]

all_told : (P : GroupAndShapes → Type 0) (calls : List KnownCall) → ((i : ℕ) (c : KnownCall) → slice_get calls i ≡ Some c → P (c.group, c.shapes.items)) → All P (told calls)
all_told P [] h = All-nil P
all_told P (c ∷ calls) h = All-cons P (c.group, c.shapes.items) (told calls) (h 0 c refl) (all_told P calls (λ i d e. h (suc i) d e))

pub all_calls : (core : CoreTerm) (shapes : ℕ → List (Option (List ℕ))) → shapes ≡ called core → (old es : List Entry) (gs : List (List ℕ)) (n : ℕ) (calls : List KnownCall) (k : ℕ) → length calls ≤ k
    → AreCallsAt core shapes old n calls → CallsTo core es gs calls k → EntryPlannedAt core old n es gs
all_calls core shapes same old es gs n calls k le are h e found f there =
    subst (All (CallPlanned core es gs)) (are e f found there ∙ (λ i. known_in (same i) f.body (typed_facts (param_vars f) e.types)))
    (all_told (CallPlanned core es gs) calls (λ i c q. h i c (let lt = slice_get_within calls i c q in omega (arith, lt, le)) q))

-- ---- the functions

-- the entries below a number
abbrev pub EntriesTo : CoreTerm → List Entry → List (List ℕ) → ℕ → Type 0
EntriesTo core es gs k = (n : ℕ) (e : Entry) → n < k → slice_get es n ≡ Some e → EntryPlanned core es gs e

entry_stays : (core : CoreTerm) → IsWellFormed core → (es : List Entry) (gs : List (List ℕ)) → IsPlan core es gs → (more : List Entry) (others : List (List ℕ)) → Grows es gs more others
    → (e : Entry) → EntryPlanned core es gs e → EntryPlanned core more others e
entry_stays core well es gs plan more others g e h f there =
    All-weaker (CallPlanned core es gs) (CallPlanned core more others) (λ c p. call_stays core well es gs plan more others g c p)
    (known_in (called core) f.body (typed_facts (param_vars f) e.types)) (h f there)

pub entry_done : (core : CoreTerm) → IsWellFormed core → (es : List Entry) (gs : List (List ℕ)) → IsPlan core es gs → (more : List Entry) (others : List (List ℕ)) → Grows es gs more others
    → (k : ℕ) → k < length es → EntryPlannedAt core es k more others → EntriesTo core es gs k → EntriesTo core more others (k + 1)
entry_done core well es gs plan more others g k inside done h n e lt found =
    let d = some_within es n (omega (arith, lt, inside)) in
    let same : d.0 ≡ e = some_same d.0 e (sym (g.kept n d.0 d.1) ∙ found) in
    subst (EntryPlanned core more others) same (elim (cases_lt n k) [
      | inl l ↦ entry_stays core well es gs plan more others g d.0 (h n d.0 l d.1)
      | inr m ↦ let here : k ≡ n = omega (arith, lt, m) in done d.0 (ap (slice_get es) here ∙ d.1)
    ])

pub all_entries : (core : CoreTerm) (es : List Entry) (gs : List (List ℕ)) (k : ℕ) → length es ≤ k → EntriesTo core es gs k → AllPlanned core es gs
all_entries core es gs k le h n e found = h n e (let lt = slice_get_within es n e found in omega (arith, lt, le)) found
