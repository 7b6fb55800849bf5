-- What holds for every list of events, as statements.
use Rattle.std.specs.Prelude.{◌≡◌, ℕ, ◌<◌, ◌≤◌, ℤ, List, length, IsPermutation}
use Rattle.sac_base.specs.Verdict.{joined, combined}
use Rattle.wl_core.specs.declared.events.Event.{Event}
use Rattle.wl_core.specs.declared.events.Refused.{Refused}
use Rattle.wl_core.specs.Machine.{SetupValue, StateValue, IsSetup, Steps, Refuses, Reached, Finished, listed}
use Rattle.wl_core.specs.Facts.{Facts, Settled}
use Rattle.wl_core.specs.Combining.{IsFoldable, all_combined, all_taken}

-- the facts hold in every state that events lead to
abbrev pub FactsWhenReached : Type 0
FactsWhenReached = (u : SetupValue) (s : StateValue) → IsSetup u → Reached u s → Facts u s

-- each event keeps the facts together
abbrev pub EventsKeepFacts : Type 0
EventsKeepFacts = (u : SetupValue) (s : StateValue) (t : StateValue) (e : Event) → IsSetup u → Facts u s → Steps u s e t → Facts u t

-- a buffer that a worker holds has a count of at least 2
abbrev pub HeldTwice : Type 0
HeldTwice =
    (u : SetupValue) (s : StateValue) (w : ℕ) (b : ℕ)
    → IsSetup u → Reached u s → w < u.workers → b < length u.counts → 0 < s.holds w b → 2 ≤ s.count b

-- a finished state has the verdict of the cells taken one after another, however it was reached
abbrev pub OrdersAgree : Type 0
OrdersAgree = (u : SetupValue) (s : StateValue) → IsSetup u → Reached u s → Finished u s → Settled u s

-- an event is refused for one reason
abbrev pub OneReason : Type 0
OneReason = (u : SetupValue) (s : StateValue) (e : Event) (r : Refused) (q : Refused) → Refuses u s e r → Refuses u s e q → r ≡ q

-- no event is both refused and done
abbrev pub NotBoth : Type 0
NotBoth = (u : SetupValue) (s : StateValue) (t : StateValue) (e : Event) (r : Refused) → IsSetup u → Reached u s → Refuses u s e r → Steps u s e t → ⊥

-- an operation on lists of numbers
abbrev pub ListOp : Type 0
ListOp = List ℤ → List ℤ → List ℤ

-- values combined part by part combine to what they combine to at once
abbrev pub PartsCombine : Type 0
PartsCombine = (op : ListOp) (parts : List (List (List ℤ))) → IsFoldable op → combined op (all_combined op parts) ≡ combined op (joined parts)

-- values in another order combine to the same
abbrev pub OrdersCombine : Type 0
OrdersCombine = (op : ListOp) (xs : List (List ℤ)) (ys : List (List ℤ)) → IsFoldable op → IsPermutation xs ys → combined op xs ≡ combined op ys

-- the values of chunks that are there once each combine to the same, whoever took them
abbrev pub ChunksCombine : Type 0
ChunksCombine =
    (op : ListOp) (cells : ℕ → List (List ℤ)) (count : ℕ) (drawn : List (List ℕ))
    → IsFoldable op → IsPermutation (listed (λ c. c) count) (joined drawn)
    → combined op (all_combined op (all_taken cells drawn)) ≡ combined op (joined (listed cells count))
