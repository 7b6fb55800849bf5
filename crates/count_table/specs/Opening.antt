-- The frame's first view, and the parts that stand in slots.
use Rattle.std.specs.Prelude.{ℕ, List, [], ◌∷◌, drop}
use Rattle.std.specs.declared.option.Option.{Option}
use Rattle.std.specs.declared.option.Option.TheVariants.{None, Some}
use Rattle.count_table.specs.declared.view.FrameView.{FrameView}
use Rattle.count_table.specs.declared.view.View.{View}
use Rattle.count_table.specs.declared.view.View.TheVariants.{Frame}
use Rattle.count_table.specs.declared.rule.Opening.{Opening}

abbrev pub opened : {T : Type 0} → List ℕ → List T → FrameView T
opened counts parts = record { opening = counts; parts = parts; made = 0; out = 0; drawn = []; nones = 0 }

abbrev pub first_view : {T : Type 0} → Opening T → View T
first_view o = Frame (opened (drop 1 o.words.value.items) o.parts.value.items)

-- the parts in the slots
abbrev pub present : {T : Type 0} → List (Option T) → List T
present [] = []
present (None ∷ slots) = present slots
present (Some part ∷ slots) = part ∷ present slots
