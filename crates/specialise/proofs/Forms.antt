-- Types of arrays of given forms alone.
use Rattle.std.proofs.Common.{◌≡◌, ℕ, suc, Bool, true, false, ◌&&◌, ◌||◌, List, [], ◌∷◌, ◌++◌, map, length, refl, sym, ap, subst, ◌∙◌, ◌⊎◌, inl, inr}
use Rattle.std.proofs.lemmas.Bool.{false≢true}
use Rattle.sac_base.specs.declared.base.Base.{Base}
use Rattle.sac_base.specs.declared.base.Base.TheVariants.{Int, Bool as Truth}
use Rattle.sac_base.specs.declared.form.Form.{Form}
use Rattle.sac_base.specs.declared.types.ArrayType.{ArrayType}
use Rattle.sac_base.specs.declared.types.Part.{Part}
use Rattle.sac_base.specs.declared.types.Part.TheVariants.{Known, Rank, Plus, Star}
use Rattle.sac_base.specs.Arrays.{same_base, same_shape}
use Rattle.sac_base.specs.Types.{has_form, has_shape, part_below, below, all_have_forms, all_below}
use Rattle.shape_types.proofs.Inclusion.{and_left, and_right, and_both, same-shape, same_itself}
use Rattle.core_ir.specs.WellFormed.{bases}
use Rattle.core_facts.specs.calls.Nests.{StandsIn}
use Rattle.specialise.specs.groups.Specialised.{is_known, all_known}
use Rattle.specialise.specs.Plans.{Entry}
use Rattle.specialise.specs.Tables.{types_at, exact, are_same, has_same}

pub base_turned : (t u : Base) → same_base t u ≡ same_base u t
base_turned Int Int = refl
base_turned Int Truth = refl
base_turned Truth Int = refl
base_turned Truth Truth = refl

base_equal : (t u : Base) → same_base t u ≡ true → u ≡ t
base_equal Int Int h = refl
base_equal Truth Truth h = refl
base_equal Int Truth h = absurd (false≢true h)
base_equal Truth Int h = absurd (false≢true h)

pub exact_known : (forms : List Form) → all_known (exact forms) ≡ true
exact_known [] = refl
exact_known (form ∷ forms) = exact_known forms

-- types contain the forms exactly where the forms' own types lie in them
pub exact_below : (types : List ArrayType) (forms : List Form) → all_below (exact forms) types ≡ all_have_forms types forms
exact_below [] [] = refl
exact_below [] (form ∷ forms) = refl
exact_below (ty ∷ types) [] = refl
exact_below (ty ∷ types) (form ∷ forms) = λ i. (base_turned form.base ty.base i && has_shape ty.part form.shape) && exact_below types forms i

pub exact_itself : (forms : List Form) → all_below (exact forms) (exact forms) ≡ true
exact_itself forms = exact_below (exact forms) forms ∙ contain forms
  where
    same : (t : Base) → same_base t t ≡ true
    same Int = refl
    same Truth = refl

    contain : (forms : List Form) → all_have_forms (exact forms) forms ≡ true
    contain [] = refl
    contain (form ∷ forms) =
        and_both (same_base form.base form.base && same_shape form.shape form.shape) (all_have_forms (exact forms) forms)
        (and_both (same_base form.base form.base) (same_shape form.shape form.shape) (same form.base) (same_itself form.shape)) (contain forms)

pub below_bases : (cs ts : List ArrayType) → all_below cs ts ≡ true → bases ts ≡ bases cs
below_bases [] [] h = refl
below_bases [] (t ∷ ts) h = absurd (false≢true h)
below_bases (c ∷ cs) [] h = absurd (false≢true h)
below_bases (c ∷ cs) (t ∷ ts) h =
    λ i. base_equal c.base t.base (and_left (same_base c.base t.base) (part_below c.part t.part) (and_left (below c t) (all_below cs ts) h)) i ∷ below_bases cs ts (and_right (below c t) (all_below cs ts) h) i

part_turned : (p q : Part) → is_known p ≡ true → is_known q ≡ true → part_below p q ≡ true → part_below q p ≡ true
part_turned (Known a) (Known b) k m h = subst (λ x. same_shape a x ≡ true) (sym (same-shape b a h)) (same_itself a)
part_turned (Known a) (Rank n) k m h = absurd (false≢true m)
part_turned (Known a) Plus k m h = absurd (false≢true m)
part_turned (Known a) Star k m h = absurd (false≢true m)
part_turned (Rank n) q k m h = absurd (false≢true k)
part_turned Plus q k m h = absurd (false≢true k)
part_turned Star q k m h = absurd (false≢true k)

-- of known shapes those that lie in others are the same
pub known_turned : (cs ts : List ArrayType) → all_known cs ≡ true → all_known ts ≡ true → all_below cs ts ≡ true → all_below ts cs ≡ true
known_turned [] [] k m h = refl
known_turned [] (t ∷ ts) k m h = absurd (false≢true h)
known_turned (c ∷ cs) [] k m h = absurd (false≢true h)
known_turned (c ∷ cs) (t ∷ ts) k m h =
    let b = and_left (below c t) (all_below cs ts) h in
    and_both (below t c) (all_below ts cs)
    (and_both (same_base t.base c.base) (part_below t.part c.part) (sym (base_turned c.base t.base) ∙ and_left (same_base c.base t.base) (part_below c.part t.part) b)
    (part_turned c.part t.part (and_left (is_known c.part) (all_known cs) k) (and_left (is_known t.part) (all_known ts) m) (and_right (same_base c.base t.base) (part_below c.part t.part) b)))
    (known_turned cs ts (and_right (is_known c.part) (all_known cs) k) (and_right (is_known t.part) (all_known ts) m) (and_right (below c t) (all_below cs ts) h))

or_left : (b c : Bool) → b ≡ true → (b || c) ≡ true
or_left true c h = refl
or_left false c h = absurd (false≢true h)

or_right : (b c : Bool) → c ≡ true → (b || c) ≡ true
or_right true c h = refl
or_right false c h = h

-- an instance whose types are the same as these
pub found_same : (es : List Entry) (ns : List ℕ) (n : ℕ) (types : List ArrayType) → StandsIn ns n → all_below (types_at es n) types ≡ true → all_below types (types_at es n) ≡ true → has_same (map (types_at es) ns) types ≡ true
found_same es [] n types s h g = absurd s
found_same es (m ∷ ns) n types s h g = elim s [
  | inl e ↦ or_left (are_same (types_at es m) types) (has_same (map (types_at es) ns) types)
      (and_both (all_below (types_at es m) types) (all_below types (types_at es m)) (ap (λ k. all_below (types_at es k) types) e ∙ h) (ap (λ k. all_below types (types_at es k)) e ∙ g))
  | inr r ↦ or_right (are_same (types_at es m) types) (has_same (map (types_at es) ns) types) (found_same es ns n types r h g)
]
