-- What holds of every table in which the rule holds, as statements.
use Rattle.std.specs.Prelude.{◌≡◌, ℕ, List, [], length}
use mathlib.Core.Option.{Option as Home}
use Rattle.std.specs.declared.option.Option.{Option}
use Rattle.wl_core.specs.Machine.{SetupValue, StateValue, chunks, opened as opened_state}
use Rattle.count_table.specs.declared.view.FrameView.{FrameView}
use Rattle.count_table.specs.declared.view.View.{View}
use Rattle.count_table.specs.Rule.{Counted}
use Rattle.count_table.specs.Facts.{RuleFacts}
use Rattle.count_table.specs.Opening.{opened}
use Rattle.count_table.specs.Reading.{IsReading, StepsAreEvents}
use Rattle.count_table.specs.HoldsReading.{IsHoldsReading, HoldsAreEvents}

-- the facts follow from the rule
abbrev pub RuleHasFacts : Type 0 → Type 0
RuleHasFacts T =
    (next : ℕ) (counts : List ℕ) (homes : List (Home (Option T))) (f : FrameView T) (vs : List (View T))
    → Counted next counts homes f vs → RuleFacts next counts f vs

-- a table that was just opened, with a part for each chunk, stands for the machine's opening state
abbrev pub OpensAtOpening : Type 0 → Type 0
OpensAtOpening T = (u : SetupValue) (parts : List T) → length parts ≡ chunks u → IsReading u 0 u.counts (opened u.counts parts) [] (opened_state u)

-- wherever a table in which the rule holds stands for a state, its steps are events of the machine
abbrev pub ReadingStepsAreEvents : Type 0 → Type 0
ReadingStepsAreEvents T =
    (u : SetupValue) (s : StateValue) (next : ℕ) (counts : List ℕ) (homes : List (Home (Option T))) (f : FrameView T) (vs : List (View T))
    → Counted next counts homes f vs → IsReading u next counts f vs s → StepsAreEvents u s next counts f vs

-- the same of a table that no chunk is drawn from, with whatever parts it was opened
abbrev pub HoldsAtOpening : Type 0 → Type 0
HoldsAtOpening T = (u : SetupValue) (parts : List T) → IsHoldsReading u u.counts (opened u.counts parts) [] (opened_state u)

abbrev pub HoldsStepsAreEvents : Type 0 → Type 0
HoldsStepsAreEvents T =
    (u : SetupValue) (s : StateValue) (next : ℕ) (counts : List ℕ) (homes : List (Home (Option T))) (f : FrameView T) (vs : List (View T))
    → Counted next counts homes f vs → IsHoldsReading u counts f vs s → HoldsAreEvents u s counts f vs
