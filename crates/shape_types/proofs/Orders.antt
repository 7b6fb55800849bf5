-- The order of types as a test, and as inclusion of sets of forms.
use Rattle.std.proofs.Common.{◌≡◌, ℕ, ◌∙◌, sym, refl, subst, true, false, List, inl, inr, ◌⊎◌}
use Rattle.std.proofs.lemmas.Bool.{false≢true, false_from_ne_true}
use Rattle.sac_base.specs.declared.base.Base.{Base}
use Rattle.sac_base.specs.declared.base.Base.TheVariants.{Int, Bool as Truth}
use Rattle.sac_base.specs.declared.form.Form.{Form}
use Rattle.sac_base.specs.declared.types.ArrayType.{ArrayType}
use Rattle.sac_base.specs.declared.types.Part.{Part}
use Rattle.sac_base.specs.Arrays.{same_base}
use Rattle.sac_base.specs.Types.{has_shape, has_form, part_below, parts_overlap, below, overlap, IsBelow, Overlap}
use Rattle.shape_types.specs.Bounds.{IsMeet, IsJoin}
use Rattle.shape_types.proofs.Joins.{IsPartJoin}
use Rattle.shape_types.proofs.Inclusion.{included, below_from_included, share, overlap_from_share, one_below, some_shape, and_left, and_right, and_both}

pub same-base : (a b : Base) → same_base a b ≡ true → a ≡ b
same-base Int Int h = refl
same-base Truth Truth h = refl
same-base Int Truth h = absurd (false≢true h)
same-base Truth Int h = absurd (false≢true h)

pub base_itself : (a : Base) → same_base a a ≡ true
base_itself Int = refl
base_itself Truth = refl

pub inclusion : (a b : ArrayType) → below a b ≡ true → IsBelow a b
inclusion a b h form e =
    let bases = same-base a.base b.base (and_left (same_base a.base b.base) (part_below a.part b.part) h) in
    let parts = and_right (same_base a.base b.base) (part_below a.part b.part) h in
    and_both (same_base b.base form.base) (has_shape b.part form.shape)
    (subst (λ x. same_base x form.base ≡ true) bases (and_left (same_base a.base form.base) (has_shape a.part form.shape) e))
    (included a.part b.part parts form.shape (and_right (same_base a.base form.base) (has_shape a.part form.shape) e))

form_in : (a : ArrayType) (s : List ℕ) → has_shape a.part s ≡ true → has_form a (record { base = a.base; shape = s }) ≡ true
form_in a s h = and_both (same_base a.base a.base) (has_shape a.part s) (base_itself a.base) h

pub below_from_inclusion : (a b : ArrayType) → IsBelow a b → below a b ≡ true
below_from_inclusion a b h =
    let w = some_shape a.part in
    let there = h (record { base = a.base; shape = w.0 }) (form_in a w.0 w.1) in
    let bases = same-base b.base a.base (and_left (same_base b.base a.base) (has_shape b.part w.0) there) in
    and_both (same_base a.base b.base) (part_below a.part b.part) (subst (λ x. same_base a.base x ≡ true) (sym bases) (base_itself a.base))
    (below_from_included a.part b.part (λ s e. and_right (same_base b.base a.base) (has_shape b.part s) (h (record { base = a.base; shape = s }) (form_in a s e))))

pub common_form : (a b : ArrayType) → overlap a b ≡ true → Overlap a b
common_form a b h =
    let bases = same-base a.base b.base (and_left (same_base a.base b.base) (parts_overlap a.part b.part) h) in
    let w = share a.part b.part (and_right (same_base a.base b.base) (parts_overlap a.part b.part) h) in
    (record { base = a.base; shape = w.0 }, form_in a w.0 w.1, and_both (same_base b.base a.base) (has_shape b.part w.0) (subst (λ x. same_base x a.base ≡ true) bases (base_itself a.base)) w.2)

pub overlap_from_common : (a b : ArrayType) → Overlap a b → overlap a b ≡ true
overlap_from_common a b w =
    let form = w.0 in
    let first = same-base a.base form.base (and_left (same_base a.base form.base) (has_shape a.part form.shape) w.1) in
    let second = same-base b.base form.base (and_left (same_base b.base form.base) (has_shape b.part form.shape) w.2) in
    and_both (same_base a.base b.base) (parts_overlap a.part b.part)
    (subst (λ x. same_base a.base x ≡ true) (first ∙ sym second) (base_itself a.base))
    (overlap_from_share a.part b.part (form.shape, and_right (same_base a.base form.base) (has_shape a.part form.shape) w.1, and_right (same_base b.base form.base) (has_shape b.part form.shape) w.2))

base_sym : (a b : Base) → same_base a b ≡ true → same_base b a ≡ true
base_sym Int Int h = refl
base_sym Truth Truth h = refl
base_sym Int Truth h = h
base_sym Truth Int h = h

-- types that have an array in common lie one in the other
pub one_within : (a b : ArrayType) → overlap a b ≡ true → (below a b ≡ true) ⊎ (below b a ≡ true)
one_within a b h =
    let bases = and_left (same_base a.base b.base) (parts_overlap a.part b.part) h in
    elim (one_below a.part b.part (and_right (same_base a.base b.base) (parts_overlap a.part b.part) h)) [
      | inl e ↦ inl (and_both (same_base a.base b.base) (part_below a.part b.part) bases e)
      | inr e ↦ inr (and_both (same_base b.base a.base) (part_below b.part a.part) (base_sym a.base b.base bases) e)
    ]

pub overlap_from_below : (a b : ArrayType) → below a b ≡ true → overlap a b ≡ true
overlap_from_below a b h =
    let w = some_shape a.part in
    let form : Form = record { base = a.base; shape = w.0 } in
    overlap_from_common a b (form, form_in a w.0 w.1, inclusion a b h form (form_in a w.0 w.1))

pub overlap_from_above : (a b : ArrayType) → below b a ≡ true → overlap a b ≡ true
overlap_from_above a b h =
    let w = some_shape b.part in
    let form : Form = record { base = b.base; shape = w.0 } in
    overlap_from_common a b (form, inclusion b a h form (form_in b w.0 w.1), form_in b w.0 w.1)

pub disjoint : (a b : ArrayType) → below a b ≡ false → below b a ≡ false → overlap a b ≡ false
disjoint a b h g =
    false_from_ne_true (overlap a b) (λ e. elim (one_within a b e) [ inl x ↦ false≢true (sym h ∙ x) | inr x ↦ false≢true (sym g ∙ x) ])

pub meet_below : (a b : ArrayType) → below a b ≡ true → IsMeet a b a
meet_below a b h form = (λ e. (e, inclusion a b h form e), λ w. w.0)

pub meet_above : (a b : ArrayType) → below b a ≡ true → IsMeet a b b
meet_above a b h form = (λ e. (inclusion b a h form e, e), λ w. w.1)

-- a least part above two parts makes a least type above two types
pub join_is : (a b : ArrayType) (r : Part) → same_base a.base b.base ≡ true → IsPartJoin a.part b.part r → IsJoin a b (record { base = a.base; part = r })
join_is a b r h j = record {
  first = inclusion a (record { base = a.base; part = r }) (and_both (same_base a.base a.base) (part_below a.part r) (base_itself a.base) j.first);
  second = inclusion b (record { base = a.base; part = r }) (and_both (same_base b.base a.base) (part_below b.part r) (base_sym a.base b.base h) j.second);
  least = λ u f g.
      let x = below_from_inclusion a u f in
      let y = below_from_inclusion b u g in
      inclusion (record { base = a.base; part = r }) u (and_both (same_base a.base u.base) (part_below r u.part) (and_left (same_base a.base u.base) (part_below a.part u.part) x)
      (j.least u.part (and_right (same_base a.base u.base) (part_below a.part u.part) x) (and_right (same_base b.base u.base) (part_below b.part u.part) y)));
}
