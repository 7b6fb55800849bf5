use Rattle.core_loops.specs.fold_steps.Step.{SameAt}
use Rattle.core_loops.proofs.fold_steps.Places.{changed}
use Rattle.core_loops.proofs.fold_steps.places_may_change.Goals as goal

pub returns : goal.returns
returns c = λ core calls turns called k b d typed fit edited scope g ts e bases once scoped full ty sound.
    changed core calls turns typed called fit (SameAt core calls turns) (λ k b c r scope g ts e a. r scope g ts e a.bases a.once a.scoped a.full a.typed a.sound) edited scope g ts e (record { bases = bases; once = once; scoped = scoped; full = full; typed = ty; sound = sound })
