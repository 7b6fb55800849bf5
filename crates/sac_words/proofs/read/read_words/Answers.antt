use Rattle.std.proofs.Common.{sym, ◌∙◌}
use Rattle.sac_words.proofs.Taken.{refused_by, taken_as}
use Rattle.sac_words.proofs.read.read_words.Goals as goal
use Rattle.sac_words.proofs.read.read_words.Goals.{in-OutOfMemory, in_default-kind}

pub returns-in-Err-clause-refused : goal.returns-in-Err-clause-refused
returns-in-Err-clause-refused c =
    λ is. elim c.match-kind.branch [
      | in-OutOfMemory w ↦ absurd (cc (is, w.result-is))
      | in_default-kind w ↦ refused_by _ _ c.in-Err.error c.in-Ok.ensures c.in-Err.ensures.kinds (λ memory. w.in_default-kind.not-OutOfMemory (c.kind.ensures ∙ memory))
    ]

pub returns-in-Some-clause-read : goal.returns-in-Some-clause-read
returns-in-Some-clause-read c =
    let e = c.in-Ok-try_get_matches_from.ensures in
    taken_as _ _ _ c.in-Ok.ensures e.kinds e.matches ∙ sym c.in-Some.ensures.exact

pub returns-clause-refused : goal.returns-clause-refused
returns-clause-refused c =
    let e = c.in-Ok-try_get_matches_from.ensures in
    λ is. taken_as _ _ _ c.in-Ok.ensures e.kinds e.matches ∙ sym c.in-None.ensures.exact
