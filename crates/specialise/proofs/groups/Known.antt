-- Types that have one shape each.
use Rattle.std.proofs.Common.{◌≡◌, ℕ, Bool, true, false, ◌&&◌, ◌||◌, not, List, [], ◌∷◌, length, refl, sym, ap, subst, ◌∙◌, arith}
use Rattle.std.proofs.lemmas.Bool.{false≢true}
use Rattle.sac_base.specs.declared.base.Base.{Base}
use Rattle.sac_base.specs.declared.base.Base.TheVariants.{Int, Bool as Truth}
use Rattle.sac_base.specs.declared.types.ArrayType.{ArrayType}
use Rattle.sac_base.specs.declared.types.Part.{Part}
use Rattle.sac_base.specs.declared.types.Part.TheVariants.{Known, Rank, Plus, Star}
use Rattle.sac_base.specs.Arrays.{ArrayValue, same_base, same_shape}
use Rattle.sac_base.specs.Types.{has, has_shape, part_below, below, parts_overlap, overlap, all_have, all_below, apart, strictly_below, compatible}
use Rattle.shape_types.proofs.Inclusion.{and_left, and_right, and_both, same-shape, same_itself, included, below_from_included}
use Rattle.specialise.specs.groups.Specialised.{is_known, all_known}

-- ---- bases

pub base_through : (t u v : Base) → same_base t v ≡ true → same_base u v ≡ true → same_base t u ≡ true
base_through Int Int v h g = refl
base_through Truth Truth v h g = refl
base_through Int Truth Int h g = absurd (false≢true g)
base_through Int Truth Truth h g = absurd (false≢true h)
base_through Truth Int Int h g = absurd (false≢true h)
base_through Truth Int Truth h g = absurd (false≢true g)

base_along : (t u v : Base) → same_base t u ≡ true → same_base t v ≡ true → same_base u v ≡ true
base_along Int Int v h g = g
base_along Truth Truth v h g = g
base_along Int Truth v h g = absurd (false≢true h)
base_along Truth Int v h g = absurd (false≢true h)

base_on : (t u v : Base) → same_base t u ≡ true → same_base u v ≡ true → same_base t v ≡ true
base_on Int Int v h g = g
base_on Truth Truth v h g = g
base_on Int Truth v h g = absurd (false≢true h)
base_on Truth Int v h g = absurd (false≢true h)

base_turned : (t u : Base) → same_base t u ≡ same_base u t
base_turned Int Int = refl
base_turned Int Truth = refl
base_turned Truth Int = refl
base_turned Truth Truth = refl

-- ---- single types

known_below : (p q : Part) (s : List ℕ) → is_known p ≡ true → has_shape p s ≡ true → has_shape q s ≡ true → part_below p q ≡ true
known_below (Known a) q s k h g = subst (λ x. has_shape q x ≡ true) (sym (same-shape a s h)) g
known_below (Rank n) q s k h g = absurd (false≢true k)
known_below Plus q s k h g = absurd (false≢true k)
known_below Star q s k h g = absurd (false≢true k)

below_of : (c t : ArrayType) (a : ArrayValue) → is_known c.part ≡ true → has c a ≡ true → has t a ≡ true → below c t ≡ true
below_of c t a k h g =
    and_both (same_base c.base t.base) (part_below c.part t.part)
    (base_through c.base t.base a.base (and_left (same_base c.base a.base) (has_shape c.part a.shape) h) (and_left (same_base t.base a.base) (has_shape t.part a.shape) g))
    (known_below c.part t.part a.shape k (and_right (same_base c.base a.base) (has_shape c.part a.shape) h) (and_right (same_base t.base a.base) (has_shape t.part a.shape) g))

has_of : (c t : ArrayType) (a : ArrayValue) → below c t ≡ true → has c a ≡ true → has t a ≡ true
has_of c t a h g =
    and_both (same_base t.base a.base) (has_shape t.part a.shape)
    (base_along c.base t.base a.base (and_left (same_base c.base t.base) (part_below c.part t.part) h) (and_left (same_base c.base a.base) (has_shape c.part a.shape) g))
    (included c.part t.part (and_right (same_base c.base t.base) (part_below c.part t.part) h) a.shape (and_right (same_base c.base a.base) (has_shape c.part a.shape) g))

below_on : (a b c : ArrayType) → below a b ≡ true → below b c ≡ true → below a c ≡ true
below_on a b c h g =
    and_both (same_base a.base c.base) (part_below a.part c.part)
    (base_on a.base b.base c.base (and_left (same_base a.base b.base) (part_below a.part b.part) h) (and_left (same_base b.base c.base) (part_below b.part c.part) g))
    (below_from_included a.part c.part (λ s e. included b.part c.part (and_right (same_base b.base c.base) (part_below b.part c.part) g) s (included a.part b.part (and_right (same_base a.base b.base) (part_below a.part b.part) h) s e)))

shape_turned : (a b : List ℕ) → same_shape a b ≡ same_shape b a
shape_turned a b = go (same_shape a b) (same_shape b a) refl refl
  where
    go : (x y : Bool) → same_shape a b ≡ x → same_shape b a ≡ y → x ≡ y
    go true true e f = refl
    go false false e f = refl
    go true false e f = absurd (false≢true (sym f ∙ ap (λ s. same_shape s a) (sym (same-shape a b e)) ∙ same_itself a))
    go false true e f = absurd (false≢true (sym e ∙ ap (λ s. same_shape s b) (sym (same-shape b a f)) ∙ same_itself b))

parts_meet : (p q : Part) → is_known p ≡ true → parts_overlap q p ≡ part_below p q
parts_meet (Known a) (Known b) k = shape_turned a b
parts_meet (Known a) (Rank n) k = refl
parts_meet (Known a) Plus k = refl
parts_meet (Known a) Star k = refl
parts_meet (Rank n) q k = absurd (false≢true k)
parts_meet Plus q k = absurd (false≢true k)
parts_meet Star q k = absurd (false≢true k)

-- a type meets one that has one shape exactly where it contains it
meets : (t c : ArrayType) → is_known c.part ≡ true → overlap t c ≡ below c t
meets t c k = λ i. base_turned t.base c.base i && parts_meet c.part t.part k i

-- ---- lists of types

module _ where
  head_known : (c : ArrayType) (cs : List ArrayType) → all_known (c ∷ cs) ≡ true → is_known c.part ≡ true
  head_known c cs h = and_left (is_known c.part) (all_known cs) h

  tail_known : (c : ArrayType) (cs : List ArrayType) → all_known (c ∷ cs) ≡ true → all_known cs ≡ true
  tail_known c cs h = and_right (is_known c.part) (all_known cs) h

-- known shapes lie in all types that contain the same arrays
pub all_below_of : (cs ts : List ArrayType) (vs : List ArrayValue) → all_known cs ≡ true → all_have cs vs ≡ true → all_have ts vs ≡ true → all_below cs ts ≡ true
all_below_of [] [] vs k h g = refl
all_below_of [] (t ∷ ts) [] k h g = absurd (false≢true g)
all_below_of [] (t ∷ ts) (v ∷ vs) k h g = absurd (false≢true h)
all_below_of (c ∷ cs) ts [] k h g = absurd (false≢true h)
all_below_of (c ∷ cs) [] (v ∷ vs) k h g = absurd (false≢true g)
all_below_of (c ∷ cs) (t ∷ ts) (v ∷ vs) k h g =
    and_both (below c t) (all_below cs ts)
    (below_of c t v (head_known c cs k) (and_left (has c v) (all_have cs vs) h) (and_left (has t v) (all_have ts vs) g))
    (all_below_of cs ts vs (tail_known c cs k) (and_right (has c v) (all_have cs vs) h) (and_right (has t v) (all_have ts vs) g))

-- types contain what types below them contain
pub all_have_of : (cs ts : List ArrayType) (vs : List ArrayValue) → all_below cs ts ≡ true → all_have cs vs ≡ true → all_have ts vs ≡ true
all_have_of [] [] vs h g = g
all_have_of [] (t ∷ ts) vs h g = absurd (false≢true h)
all_have_of (c ∷ cs) [] vs h g = absurd (false≢true h)
all_have_of (c ∷ cs) (t ∷ ts) [] h g = absurd (false≢true g)
all_have_of (c ∷ cs) (t ∷ ts) (v ∷ vs) h g =
    and_both (has t v) (all_have ts vs)
    (has_of c t v (and_left (below c t) (all_below cs ts) h) (and_left (has c v) (all_have cs vs) g))
    (all_have_of cs ts vs (and_right (below c t) (all_below cs ts) h) (and_right (has c v) (all_have cs vs) g))

pub all_below_on : (as' bs cs : List ArrayType) → all_below as' bs ≡ true → all_below bs cs ≡ true → all_below as' cs ≡ true
all_below_on [] [] cs h g = g
all_below_on [] (b ∷ bs) cs h g = absurd (false≢true h)
all_below_on (a ∷ as') [] cs h g = absurd (false≢true h)
all_below_on (a ∷ as') (b ∷ bs) [] h g = absurd (false≢true g)
all_below_on (a ∷ as') (b ∷ bs) (c ∷ cs) h g =
    and_both (below a c) (all_below as' cs) (below_on a b c (and_left (below a b) (all_below as' bs) h) (and_left (below b c) (all_below bs cs) g))
    (all_below_on as' bs cs (and_right (below a b) (all_below as' bs) h) (and_right (below b c) (all_below bs cs) g))

-- lists that contain the same arrays are not apart
not_apart : (as' bs : List ArrayType) (vs : List ArrayValue) → all_below as' bs ≡ true → all_below bs as' ≡ true → compatible as' bs ≡ apart as' bs
not_apart as' bs vs h g = ap (λ x. apart as' bs || ((x && not (all_below bs as')) || strictly_below bs as')) h ∙ ap (λ x. apart as' bs || (not x || (x && not (all_below as' bs)))) g ∙ ap (λ x. apart as' bs || not x) h ∙ or_none (apart as' bs)
  where
    or_none : (x : Bool) → (x || false) ≡ x
    or_none true = refl
    or_none false = refl

-- types that contain the same arrays at each place meet
below_meets : (a b : ArrayType) → below a b ≡ true → overlap a b ≡ true
below_meets a b h =
    let w = Rattle.shape_types.proofs.Inclusion.some_shape a.part in
    and_both (same_base a.base b.base) (parts_overlap a.part b.part) (and_left (same_base a.base b.base) (part_below a.part b.part) h)
    (Rattle.shape_types.proofs.Inclusion.overlap_from_share a.part b.part (w.0, w.1, included a.part b.part (and_right (same_base a.base b.base) (part_below a.part b.part) h) w.0 w.1))

never_apart : (as' bs : List ArrayType) → all_below as' bs ≡ true → apart as' bs ≡ false
never_apart [] bs h = refl
never_apart (a ∷ as') [] h = refl
never_apart (a ∷ as') (b ∷ bs) h =
    ap (λ x. not x || apart as' bs) (below_meets a b (and_left (below a b) (all_below as' bs) h)) ∙ never_apart as' bs (and_right (below a b) (all_below as' bs) h)

-- two lists that lie in each other may not stand together
pub clash : (as' bs : List ArrayType) → all_below as' bs ≡ true → all_below bs as' ≡ true → compatible as' bs ≡ false
clash as' bs h g = not_apart as' bs [] h g ∙ never_apart as' bs h

apart_by : (t c : ArrayType) (ts cs : List ArrayType) (x : Bool) → below c t ≡ x → overlap t c ≡ below c t → (below c t && all_below cs ts) ≡ false → (all_below cs ts ≡ false → apart ts cs ≡ true) → (not (overlap t c) || apart ts cs) ≡ true
apart_by t c ts cs false e met h rest = ap (λ y. not y || apart ts cs) (met ∙ e)
apart_by t c ts cs true e met h rest = ap (λ y. not y || apart ts cs) (met ∙ e) ∙ rest (ap (λ y. y && all_below cs ts) (sym e) ∙ h)

-- known shapes that do not lie in types are apart from them
pub apart_from : (ts cs : List ArrayType) → length ts ≡ length cs → all_known cs ≡ true → all_below cs ts ≡ false → apart ts cs ≡ true
apart_from [] [] l k h = absurd (false≢true (sym h))
apart_from [] (c ∷ cs) l k h = absurd (omega (arith, l))
apart_from (t ∷ ts) [] l k h = absurd (omega (arith, l))
apart_from (t ∷ ts) (c ∷ cs) l k h =
    apart_by t c ts cs (below c t) refl (meets t c (head_known c cs k)) h (λ g. apart_from ts cs (let q : length ts ≡ length cs = omega (arith, l) in q) (tail_known c cs k) g)

-- types may stand before known shapes, if they do not lie in them where these lie in the types
pub stand_before : (ts cs : List ArrayType) → length ts ≡ length cs → all_known cs ≡ true → (all_below cs ts ≡ true → all_below ts cs ≡ false) → compatible ts cs ≡ true
stand_before ts cs l k h = by (all_below cs ts) refl
  where
    last : (x : Bool) → (x || true) ≡ true
    last true = refl
    last false = refl

    by : (x : Bool) → all_below cs ts ≡ x → compatible ts cs ≡ true
    by false e = ap (λ y. y || (strictly_below ts cs || strictly_below cs ts)) (apart_from ts cs l k e)
    by true e = ap (λ y. apart ts cs || ((y && not (all_below cs ts)) || (all_below cs ts && not y))) (h e) ∙ ap (λ y. apart ts cs || (false || (y && true))) e ∙ last (apart ts cs)
