-- The whole pass.
use Rattle.std.proofs.Common.{◌∙◌, All, List, [], ◌∷◌, map, refl}
use Rattle.core_ir.specs.Outcome.{SameHeads, SameOutside}
use Rattle.core_ir.specs.Terms.{BlockTerm, FunTerm, CoreTerm}
use Rattle.core_ir.specs.WellFormed.{IsWellFormed}
use Rattle.core_facts.specs.Settled.{IsSettled}
use Rattle.core_facts.specs.calls.Arrays.{SameOutcomeOnArrays}
use Rattle.core_facts.specs.constants.Called.{called, params_facts}
use Rattle.core_forms.specs.cleaning.Bodies.{with_bodies}
use Rattle.core_forms.specs.cleaning.Checks.{simplified, simplified_core}
use Rattle.core_forms.specs.cleaning.Copies.{forwarded, forwarded_core}
use Rattle.core_forms.specs.cleaning.Unused.{swept, swept_core}
use Rattle.core_forms.proofs.cleaning.Simplified.{simplified_well, simplified_outcome, simplified_settled}
use Rattle.core_forms.proofs.cleaning.Laws.{forwarded_well, forwarded_outcome, swept_well, swept_outcome}
use Rattle.const_shape.specs.Cleaned.{cleaned}

pub cleaned_well : (core : CoreTerm) → IsWellFormed core → IsWellFormed (cleaned core)
cleaned_well core well =
    simplified_well (swept_core (forwarded_core (simplified_core core)))
    (swept_well (forwarded_core (simplified_core core)) (forwarded_well (simplified_core core) (simplified_well core well)))

pub cleaned_outcome : (core : CoreTerm) → IsWellFormed core → SameOutcomeOnArrays core (cleaned core)
cleaned_outcome core well args caps full =
    let one = simplified_core core in
    let two = forwarded_core one in
    let three = swept_core two in
    let w1 = simplified_well core well in
    let w2 = forwarded_well one w1 in
    let w3 = swept_well two w2 in
    simplified_outcome core well args caps full ∙ forwarded_outcome one w1 args caps full ∙ swept_outcome two w2 args caps full ∙ simplified_outcome three w3 args caps full

pub cleaned_settled : (core : CoreTerm) → All (λ (f : FunTerm). IsSettled (called (cleaned core)) f.body (params_facts f)) (cleaned core).functions
cleaned_settled core = simplified_settled (swept_core (forwarded_core (simplified_core core)))

-- ---- other bodies change nothing outside

heads_on : (change : FunTerm → BlockTerm) (fs gs : List FunTerm) → SameHeads fs gs → SameHeads fs (map (λ (g : FunTerm). record g { body = change g }) gs)
heads_on change [] [] h = tt
heads_on change [] (g ∷ gs) h = absurd h
heads_on change (f ∷ fs) [] h = absurd h
heads_on change (f ∷ fs) (g ∷ gs) h = (record { site = h.0.site; types = h.0.types; inlines = h.0.inlines }, heads_on change fs gs h.1)

heads_itself : (fs : List FunTerm) → SameHeads fs fs
heads_itself [] = tt
heads_itself (f ∷ fs) = (record { site = refl; types = refl; inlines = refl }, heads_itself fs)

outside_on : (change : FunTerm → BlockTerm) (a b : CoreTerm) → SameOutside a b → SameOutside a (with_bodies change b)
outside_on change a b h = record { groups = h.groups; main = h.main; heads = heads_on change a.functions b.functions h.heads }

pub cleaned_outside : (core : CoreTerm) → SameOutside core (cleaned core)
cleaned_outside core =
    let one = simplified_core core in
    let two = forwarded_core one in
    let three = swept_core two in
    let h0 : SameOutside core core = record { groups = refl; main = refl; heads = heads_itself core.functions } in
    let h1 = outside_on (λ (f : FunTerm). simplified (called core) f.body (params_facts f)) core core h0 in
    let h2 = outside_on (λ (f : FunTerm). forwarded f.body (λ x. x)) core one h1 in
    let h3 = outside_on (λ (f : FunTerm). swept (called two) f.body (params_facts f)) core two h2 in
    outside_on (λ (f : FunTerm). simplified (called three) f.body (params_facts f)) core three h3
