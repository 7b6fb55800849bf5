-- An event is done, or it is refused for one reason.
use Rattle.std.proofs.Common.{◌≡◌, ℕ, ◌<◌, ◌≤◌, ◌⊎◌, List, ℤ, Option, Some, Ok, Err, refl, sym, ap, ◌∙◌, inl, inr, arith}
use Rattle.std.specs.Prelude.{slice_get}
use Rattle.sac_base.specs.declared.faults.Fault.{Fault}
use Rattle.wl_core.specs.declared.events.Event.{Event}
use Rattle.wl_core.specs.declared.events.Event.TheVariants.{Draw, Keep, Release, Write, Stop}
use Rattle.wl_core.specs.declared.events.Refused.{Refused}
use Rattle.wl_core.specs.declared.events.Refused.TheVariants.{NoChunk, HasChunk, NoOwn, AtFault, NotFault, NotHeld, NoSuch, Full}
use Rattle.wl_core.specs.Machine.{SetupValue, StateValue, Works, Steps, Refuses}

-- a worker and a buffer that are there
outside : {w n b m : ℕ} → (n ≤ w) ⊎ (m ≤ b) → w < n → b < m → ⊥
outside (inl x) y z = omega arith
outside (inr x) y z = omega arith

pub one_reason : (u : SetupValue) (s : StateValue) (e : Event) (r q : Refused) → Refuses u s e r → Refuses u s e q → r ≡ q
one_reason u s (Draw w) NoSuch NoSuch a b = refl
one_reason u s (Draw w) NoSuch HasChunk a b = absurd ((let x = b.0 in omega arith))
one_reason u s (Draw w) NoSuch NoChunk a b = absurd ((let x = b.0 in omega arith))
one_reason u s (Draw w) NoSuch _ a b = absurd b
one_reason u s (Draw w) HasChunk NoSuch a b = absurd ((let x = a.0 in omega arith))
one_reason u s (Draw w) HasChunk HasChunk a b = refl
one_reason u s (Draw w) HasChunk NoChunk a b = absurd (b.1 a.1.0 a.1.1)
one_reason u s (Draw w) HasChunk _ a b = absurd b
one_reason u s (Draw w) NoChunk NoSuch a b = absurd ((let x = a.0 in omega arith))
one_reason u s (Draw w) NoChunk HasChunk a b = absurd (a.1 b.1.0 b.1.1)
one_reason u s (Draw w) NoChunk NoChunk a b = refl
one_reason u s (Draw w) NoChunk _ a b = absurd b
one_reason u s (Draw w) _ q a b = absurd a
one_reason u s (Keep w b) NoSuch NoSuch a b' = refl
one_reason u s (Keep w b) NoSuch Full a k = absurd (outside a k.0 k.1)
one_reason u s (Keep w b) NoSuch _ a k = absurd k
one_reason u s (Keep w b) Full NoSuch a k = absurd (outside k a.0 a.1)
one_reason u s (Keep w b) Full Full a b' = refl
one_reason u s (Keep w b) Full _ a k = absurd k
one_reason u s (Keep w b) _ q a k = absurd a
one_reason u s (Release w b) NoSuch NoSuch a b' = refl
one_reason u s (Release w b) NoSuch NotHeld a k = absurd (outside a k.0 k.1)
one_reason u s (Release w b) NoSuch _ a k = absurd k
one_reason u s (Release w b) NotHeld NoSuch a k = absurd (outside k a.0 a.1)
one_reason u s (Release w b) NotHeld NotHeld a b' = refl
one_reason u s (Release w b) NotHeld _ a k = absurd k
one_reason u s (Release w b) _ q a k = absurd a
one_reason u s (Write w) NoSuch NoSuch a b = refl
one_reason u s (Write w) NoSuch NoOwn a b = absurd ((let x = b.0 in omega arith))
one_reason u s (Write w) NoSuch AtFault a b = absurd ((let x = b.0 in omega arith))
one_reason u s (Write w) NoSuch _ a b = absurd b
one_reason u s (Write w) NoOwn NoSuch a b = absurd ((let x = a.0 in omega arith))
one_reason u s (Write w) NoOwn NoOwn a b = refl
one_reason u s (Write w) NoOwn AtFault a b = absurd (a.1 b.1.0 b.1.2)
one_reason u s (Write w) NoOwn _ a b = absurd b
one_reason u s (Write w) AtFault NoSuch a b = absurd ((let x = a.0 in omega arith))
one_reason u s (Write w) AtFault NoOwn a b = absurd (b.1 a.1.0 a.1.2)
one_reason u s (Write w) AtFault AtFault a b = refl
one_reason u s (Write w) AtFault _ a b = absurd b
one_reason u s (Write w) _ q a b = absurd a
one_reason u s (Stop w) NoSuch NoSuch a b = refl
one_reason u s (Stop w) NoSuch NoOwn a b = absurd ((let x = b.0 in omega arith))
one_reason u s (Stop w) NoSuch NotFault a b = absurd ((let x = b.0 in omega arith))
one_reason u s (Stop w) NoSuch _ a b = absurd b
one_reason u s (Stop w) NoOwn NoSuch a b = absurd ((let x = a.0 in omega arith))
one_reason u s (Stop w) NoOwn NoOwn a b = refl
one_reason u s (Stop w) NoOwn NotFault a b = absurd (a.1 b.1.0 b.1.2)
one_reason u s (Stop w) NoOwn _ a b = absurd b
one_reason u s (Stop w) NotFault NoSuch a b = absurd ((let x = a.0 in omega arith))
one_reason u s (Stop w) NotFault NoOwn a b = absurd (b.1 a.1.0 a.1.2)
one_reason u s (Stop w) NotFault NotFault a b = refl
one_reason u s (Stop w) NotFault _ a b = absurd b
one_reason u s (Stop w) _ q a b = absurd a

same_own : (u : SetupValue) (s : StateValue) (w c d : ℕ) → ((w c d : ℕ) → Works u s w c → Works u s w d → c ≡ d) → Works u s w c → Works u s w d → s.next c ≡ s.next d
same_own u s w c d each k l = ap s.next (each w c d k l)

pub not_both : (u : SetupValue) (s t : StateValue) (e : Event) (r : Refused) → ((w c d : ℕ) → Works u s w c → Works u s w d → c ≡ d) → Refuses u s e r → Steps u s e t → ⊥
not_both u s t (Draw w) NoSuch each a k = let x = k.0 in omega arith
not_both u s t (Draw w) HasChunk each a k = k.1 a.1.0 a.1.1
not_both u s t (Draw w) NoChunk each a k = let x = k.2 in let y = a.2 in omega arith
not_both u s t (Draw w) _ each a k = a
not_both u s t (Keep w b) NoSuch each a k = outside a k.0 k.1
not_both u s t (Keep w b) Full each a k = let x = k.2 in let y = a.2 in omega arith
not_both u s t (Keep w b) _ each a k = a
not_both u s t (Release w b) NoSuch each a k = outside a k.0 k.1
not_both u s t (Release w b) NotHeld each a k = let x = k.2 in let y = a.2 in omega arith
not_both u s t (Release w b) _ each a k = a
not_both u s t (Write w) NoSuch each a k = let x = k.0 in omega arith
not_both u s t (Write w) NoOwn each a k = a.1 k.1.0 k.1.2
not_both u s t (Write w) AtFault each a k = differ (sym a.1.3 ∙ ap (slice_get u.cells) (same_own u s w a.1.0 k.1.0 each a.1.2 k.1.2) ∙ k.1.3)
  where
    differ : {x : Fault} {y : Option (List ℤ)} → Some (Err x) ≡ Some (Ok y) → ⊥
    differ e = cc
not_both u s t (Write w) _ each a k = a
not_both u s t (Stop w) NoSuch each a k = let x = k.0 in omega arith
not_both u s t (Stop w) NoOwn each a k = a.1 k.1.0 k.1.2
not_both u s t (Stop w) NotFault each a k = differ (sym k.1.3 ∙ ap (slice_get u.cells) (same_own u s w k.1.0 a.1.0 each k.1.2 a.1.2) ∙ a.1.3)
  where
    differ : {x : Fault} {y : Option (List ℤ)} → Some (Err x) ≡ Some (Ok y) → ⊥
    differ e = cc
not_both u s t (Stop w) _ each a k = a
