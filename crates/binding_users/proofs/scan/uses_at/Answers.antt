use Rattle.std.proofs.Common.{length, refl}
use Rattle.std.proofs.lemmas.Option.{slice_get_past, slice_get_read}
use Rattle.binding_users.proofs.Found.{avoids_here, none_here, uses_here}
use Rattle.binding_users.proofs.scan.uses_at.Goals as goal

pub returns-in-Some-clause-uses : goal.returns-in-Some-clause-uses
returns-in-Some-clause-uses c =
    let ls = c.args.lets.now in
    uses_here c.args.x ls c.args.place c.in-Some.binding.now c.avoids_right.result (slice_get_read ls (length ls) c.args.place c.in-Some.binding.now refl c.in-Some.ensures.lookup.3.0 c.in-Some.ensures.lookup.1) c.avoids_right.ensures

pub returns-in-Some-clause-avoids : goal.returns-in-Some-clause-avoids
returns-in-Some-clause-avoids c =
    let ls = c.args.lets.now in
    avoids_here c.args.x ls c.args.place c.in-Some.binding.now c.avoids_right.result (slice_get_read ls (length ls) c.args.place c.in-Some.binding.now refl c.in-Some.ensures.lookup.3.0 c.in-Some.ensures.lookup.1) c.avoids_right.ensures

pub returns-in-None-clause-avoids : goal.returns-in-None-clause-avoids
returns-in-None-clause-avoids c = λ e. none_here c.args.x c.args.lets.now c.args.place (slice_get_past c.args.lets.now c.args.place c.in-None.ensures.lookup.3)
