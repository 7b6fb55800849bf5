-- Calls of a well-formed core give the bases that the instances give.
use Rattle.std.proofs.Common.{◌≡◌, ℕ, zero, suc, ◌<◌, ◌⊎◌, inl, inr, Bool, true, false, ◌&&◌, List, [], ◌∷◌, length, get_or, Option, Some, None, refl, sym, ap, subst, ◌∙◌, arith}
use Rattle.std.specs.Prelude.{Contains, AllPairs, slice_get, unwrap_or}
use Rattle.std.proofs.lemmas.List.Elements.{All-contains}
use Rattle.sac_base.specs.declared.base.Base.{Base}
use Rattle.sac_base.specs.declared.base.Base.TheVariants.{Int, Bool as Truth}
use Rattle.sac_base.specs.declared.types.ArrayType.{ArrayType}
use Rattle.sac_base.specs.Arrays.{ArrayValue, same_base}
use Rattle.sac_base.specs.Types.{has, has_shape, all_have}
use Rattle.core_ir.specs.Terms.{FunTerm, CoreTerm}
use Rattle.core_ir.specs.Meaning.{CallMeaning}
use Rattle.core_ir.specs.Outcome.{param_types, group_at}
use Rattle.core_ir.specs.WellFormed.{PlacesShare, IsWellFormed, bases}
use Rattle.core_facts.specs.calls.Nests.{StandsIn}
use Rattle.core_facts.specs.calls.Arrays.{CallsKeep}
use Rattle.core_facts.specs.bases.Typed.{HaveBases, CallsTyped}

and_both : (b c : Bool) → (b && c) ≡ true → (b ≡ true) × (c ≡ true)
and_both true c h = (refl, h)
and_both false c h = absurd (cc)

same_bases : (t u : Base) → same_base t u ≡ true → u ≡ t
same_bases Int Int h = refl
same_bases Truth Truth h = refl
same_bases Int Truth h = absurd (cc)
same_bases Truth Int h = absurd (cc)

-- values in types have their bases
pub typed_values : (types : List ArrayType) (vs : List ArrayValue) → all_have types vs ≡ true → HaveBases (bases types) vs
typed_values [] [] h = tt
typed_values [] (v ∷ vs) h = absurd (cc)
typed_values (ty ∷ types) [] h = absurd (cc)
typed_values (ty ∷ types) (v ∷ vs) h =
    let w = and_both (has ty v) (all_have types vs) h in
    (same_bases ty.base v.base (and_both (same_base ty.base v.base) (has_shape ty.part v.shape) w.0).0, typed_values types vs w.1)

-- values have one list of bases
one_list : (us ts : List Base) (vs : List ArrayValue) → HaveBases us vs → HaveBases ts vs → us ≡ ts
one_list [] [] vs h k = refl
one_list [] (t ∷ ts) [] h k = absurd k
one_list [] (t ∷ ts) (v ∷ vs) h k = absurd h
one_list (u ∷ us) [] [] h k = absurd h
one_list (u ∷ us) [] (v ∷ vs) h k = absurd k
one_list (u ∷ us) (t ∷ ts) [] h k = absurd h
one_list (u ∷ us) (t ∷ ts) (v ∷ vs) h k = λ i. (sym h.0 ∙ k.0) i ∷ one_list us ts vs h.1 k.1 i

stands : (ns : List ℕ) (n : ℕ) → StandsIn ns n → (i : ℕ) × (i < length ns) × (get_or ns i 0 ≡ n)
stands [] n s = absurd s
stands (m ∷ ns) n s = elim s [
  | inl e ↦ (0, omega arith, e)
  | inr r ↦ let w = stands ns n r in (suc w.0, omega (arith, w.1), w.2)
]

within : (ns : List ℕ) (n : ℕ) → Contains ns n → (i : ℕ) × (i < length ns) × (get_or ns i 0 ≡ n)
within ns n c = (c.0, c.1, other ns c.0 n 0 c.1 ∙ c.2)
  where
    other : (ns : List ℕ) (i d e : ℕ) → i < length ns → get_or ns i e ≡ get_or ns i d
    other [] i d e h = absurd (omega arith)
    other (n ∷ ns) zero d e h = refl
    other (n ∷ ns) (suc i) d e h = other ns i d e (omega arith)

cases : (i j : ℕ) → (i ≡ j) ⊎ ((i < j) ⊎ (j < i))
cases zero zero = inl refl
cases zero (suc j) = inr (inl (omega arith))
cases (suc i) zero = inr (inr (omega arith))
cases (suc i) (suc j) = elim (cases i j) [
  | inl e ↦ inl (ap suc e)
  | inr r ↦ elim r [ inl l ↦ inr (inl (omega (arith, l))) | inr l ↦ inr (inr (omega (arith, l))) ]
]

-- functions of one group whose parameters have equal bases give equal bases
shared : (core : CoreTerm) (places : List ℕ) (i j : ℕ) (f h : FunTerm) → AllPairs (PlacesShare core.functions) places → Contains places i → StandsIn places j → slice_get core.functions i ≡ Some f → slice_get core.functions j ≡ Some h
    → bases (param_types f) ≡ bases (param_types h) → bases f.results ≡ bases h.results
shared core places i j f h share c s ef eh same =
    let m = within places i c in
    let n = stands places j s in
    elim (cases m.0 n.0) [
      | inl e ↦ ap (λ (x : FunTerm). bases x.results) (some_function f h (sym ef ∙ ap (slice_get core.functions) (sym m.2 ∙ ap (λ k. get_or places k 0) e ∙ n.2) ∙ eh))
      | inr r ↦ elim r [
        | inl l ↦ (share m.0 n.0 0 l n.1 f h (ap (slice_get core.functions) m.2 ∙ ef) (ap (slice_get core.functions) n.2 ∙ eh)).bases same
        | inr l ↦ sym ((share n.0 m.0 0 l m.1 h f (ap (slice_get core.functions) n.2 ∙ eh) (ap (slice_get core.functions) m.2 ∙ ef)).bases (sym same))
      ]
    ]
  where
    some_function : (f g : FunTerm) → ◌≡◌ {A = Option FunTerm} (Some f) (Some g) → f ≡ g
    some_function f g p = ap (λ o. unwrap_or o f) p

contained : (groups : List (List ℕ)) (g : ℕ) (places : List ℕ) → slice_get groups g ≡ Some places → Contains groups places
contained [] g places e = absurd (let q : ◌≡◌ {A = Option (List ℕ)} None (Some places) = e in cc)
contained (x ∷ groups) zero places e = (0, omega arith, ap (λ o. unwrap_or o x) e)
contained (x ∷ groups) (suc g) places e = let w = contained groups g places e in (suc w.0, omega (arith, w.1), w.2)

pub calls_typed : (core : CoreTerm) (calls : CallMeaning) → IsWellFormed core → CallsKeep core calls → CallsTyped core calls
calls_typed core calls well keep g args vs s us ts group have p =
    let places = group.0 in
    let i = group.1.0 in
    let f = group.1.1.0 in
    let q = group.1.1.1 in
    let w = (keep g args vs s p).1 in
    let j = w.0 in
    let h = w.1.0 in
    let at : group_at core g ≡ places = ap (λ o. unwrap_or o []) q.0 in
    let share = All-contains (λ (ps : List ℕ). AllPairs (PlacesShare core.functions) ps) core.groups places well.names (contained core.groups g places q.0) in
    let takes : bases (param_types f) ≡ bases (param_types h) = q.3 ∙ one_list us (bases (param_types h)) args have (typed_values (param_types h) args w.1.1.3) in
    let gives : bases h.results ≡ ts = sym (shared core places i j f h share q.1 (subst (λ ps. StandsIn ps j) at w.1.1.0) q.2 w.1.1.1 takes) ∙ q.4 in
    subst (λ bs. HaveBases bs vs) gives (typed_values h.results vs w.1.1.2)
