-- Cores that look the same from outside.
use Rattle.std.proofs.Common.{◌≡◌, ℕ, List, [], ◌∷◌, Some, refl, sym, ap, subst, ◌∙◌, ◌⊎◌, inl, inr}
use Rattle.std.specs.Prelude.{slice_get}
use Rattle.core_ir.specs.Outcome.{param_types, SameHeads, SameOutside}
use Rattle.core_ir.specs.Terms.{BlockTerm, FunTerm, CoreTerm}
use Rattle.core_facts.specs.calls.Replaced.{replaced_at}
use Rattle.core_facts.proofs.calls.Replaced.{heads_kept}
use Rattle.unreached_functions.specs.Emptied.{empty_body, FunctionEmptied}

heads_itself : (fs : List FunTerm) → SameHeads fs fs
heads_itself [] = tt
heads_itself (f ∷ fs) = (record { site = refl; types = refl; inlines = refl }, heads_itself fs)

pub outside_itself : (core : CoreTerm) → SameOutside core core
outside_itself core = record { groups = refl; main = refl; heads = heads_itself core.functions }

heads_through : (fs gs hs : List FunTerm) → SameHeads fs gs → SameHeads gs hs → SameHeads fs hs
heads_through [] [] [] p q = tt
heads_through [] [] (h ∷ hs) p q = absurd q
heads_through [] (g ∷ gs) hs p q = absurd p
heads_through (f ∷ fs) [] hs p q = absurd p
heads_through (f ∷ fs) (g ∷ gs) [] p q = absurd q
heads_through (f ∷ fs) (g ∷ gs) (h ∷ hs) p q =
    (record { site = p.0.site ∙ q.0.site; types = p.0.types ∙ q.0.types; inlines = p.0.inlines ∙ q.0.inlines }, heads_through fs gs hs p.1 q.1)

pub outside_through : (a b c : CoreTerm) → SameOutside a b → SameOutside b c → SameOutside a c
outside_through a b c p q = record {
  groups = p.groups ∙ q.groups;
  main = p.main ∙ q.main;
  heads = heads_through a.functions b.functions c.functions p.heads q.heads;
}

-- another body in one function
pub outside_replaced : (a b : CoreTerm) (place : ℕ) (f : FunTerm) (body : BlockTerm) → slice_get a.functions place ≡ Some f
    → b ≡ record a { functions = replaced_at a.functions place (record f { body = body }) } → SameOutside a b
outside_replaced a b place f body found changed =
    subst (SameOutside a) (sym changed) (record { groups = refl; main = refl; heads = heads_kept a.functions place f body found })

pub outside_emptied : (a b : CoreTerm) (place : ℕ) → (a ≡ b) ⊎ FunctionEmptied a b place → SameOutside a b
outside_emptied a b place h = elim h [
  | inl e ↦ subst (SameOutside a) e (outside_itself a)
  | inr s ↦ outside_replaced a b place s.function (empty_body s.function) s.found s.changed
]
