-- A part that is made of a generator is a copy of its body below the components of the index, and what it binds is numbered in order.
use Rattle.std.proofs.Common.{◌≡◌, ℕ, zero, suc, ◌+◌, ◌<◌, ◌≤◌, Bool, true, false, ◌||◌, eqb, List, [], ◌∷◌, ◌++◌, length, All, Option, Some, None, refl, sym, ap, subst, ◌∙◌, ◌⊎◌, inl, inr, append_assoc, arith, pos}
use Rattle.std.specs.Prelude.{slice_get, unwrap_or}
use Rattle.sac_base.specs.declared.base.Base.TheVariants.{Int}
use Rattle.sac_base.specs.declared.site.Site.{Site}
use Rattle.sac_base.specs.Arrays.{scalar}
use Rattle.core_ir.specs.declared.tree.Var.{Var}
use Rattle.core_ir.specs.Binders.{NoneIn, is_in, bound_in, bound_in_gens}
use Rattle.core_ir.specs.Renaming.{under}
use Rattle.core_ir.specs.Scopes.{Scoped, ScopedGens}
use Rattle.core_ir.specs.Terms.{PlainTerm, BlockTerm, GensTerm, GenTerm, Bind, Plain, chain, gens_of}
use Rattle.core_ir.specs.WellFormed.{Distinct}
use Rattle.core_ir.proofs.Variables.{same_number}
use Rattle.core_subst.specs.Names.{variable}
use Rattle.core_subst.specs.copy.Mapped.{mapped}
use Rattle.core_subst.proofs.copy.Renaming.{bound_mapped}
use Rattle.core_forms.proofs.edits.Wider.{bound_new}
use Rattle.core_forms.proofs.inlined_bodies.Names.{clash, distinct_left, distinct_right, in_either, in_left, itself, none_at}
use Rattle.core_loops.specs.Steps as loops
use Rattle.core_loops.specs.norm_steps.Genarray.{GenAt, NamedBody}
use Rattle.parted_bodies.specs.Numbering.{named, numbered}
use Rattle.parted_bodies.specs.Making.{component_lets, component_names, part_body}
use Rattle.core_forms.specs.norm.Alike.{NamedAlike}
use Rattle.core_forms.specs.norm.Copied.{AreFrom, components}
use Rattle.core_forms.proofs.norm.Named.{copies_named}
use Rattle.core_forms.proofs.norm.Places.{all_member}
use Rattle.dense_variables.proofs.numbered.Numbered.{Good, And, Those, AreComponents, apart_if, components_good, components_off, components_order, components_same, named_at, named_good, named_off, numbered_good, numbered_off, numbered_order}

-- ---- a generator at its place

pub record GenPlace (scope : List Var) (gens : GensTerm) (m : ℕ) (g : GenTerm) : Type 0 where
  pub stands : GenAt gens m g.head g.body
  pub none : NoneIn (g.head.index ∷ g.head.names) scope
  pub scoped : Scoped ((g.head.index ∷ g.head.names) ++ scope) g.body
  pub once : Distinct ((g.head.index ∷ g.head.names) ++ bound_in g.body)

pub gen_place : (gens : List GenTerm) (m : ℕ) (g : GenTerm) (scope : List Var) → slice_get gens m ≡ Some g → ScopedGens scope (gens_of gens) → Distinct (bound_in_gens (gens_of gens)) → GenPlace scope (gens_of gens) m g
gen_place [] m g scope e s d = absurd (let q : ◌≡◌ {A = Option GenTerm} None (Some g) = e in cc)
gen_place (x ∷ gens) zero g scope e s d =
    let own : x ≡ g = ap (λ o. unwrap_or o x) e in
    let names = x.head.index ∷ x.head.names in
    subst (λ (y : GenTerm). GenPlace scope (gens_of (x ∷ gens)) zero y) own
    (record {
      stands = (refl, refl);
      none = s.1;
      scoped = s.2;
      once = distinct_left (names ++ bound_in x.body) (bound_in_gens (gens_of gens)) (subst Distinct (sym (append_assoc names (bound_in x.body) (bound_in_gens (gens_of gens)))) d);
    })
gen_place (x ∷ gens) (suc m) g scope e s d =
    let names = x.head.index ∷ x.head.names in
    let more = distinct_right (bound_in x.body) (bound_in_gens (gens_of gens)) (distinct_right names (bound_in x.body ++ bound_in_gens (gens_of gens)) d) in
    let rest = gen_place gens m g scope e s.3 more in
    record { stands = rest.stands; none = rest.none; scoped = rest.scoped; once = rest.once }

-- ---- components

-- the constants of the components
abbrev pub constants : List Var → ℕ → List Var
constants [] n = []
constants (x ∷ xs) n = variable n ∷ constants xs (suc (suc n))

constants_count : (xs : List Var) (n : ℕ) → length (constants xs n) ≡ length xs
constants_count [] n = refl
constants_count (x ∷ xs) n = ap suc (constants_count xs (suc (suc n)))

or_later : {P : Type 0} (a b : Bool) → (a || b) ≡ true → (a ≡ true → P) → (b ≡ true → P) → P
or_later true b e f g = f refl
or_later false b e f g = g e

less_two : (n c : ℕ) → suc (suc n) ≤ c → n ≤ c
less_two n c p = omega (arith, p)

below_two : (n c k : ℕ) → c < suc (suc n) + (k + k) → c < n + (suc k + suc k)
below_two n c k p = omega (arith, p)

constants_from : (xs : List Var) (n : ℕ) (c : Var) → is_in c (constants xs n) ≡ true → n ≤ c.0
constants_from [] n c h = clash false h refl
constants_from (x ∷ xs) n c h =
    or_later (eqb n c.0) (is_in c (constants xs (suc (suc n)))) h (λ e. let p : n ≡ c.0 = ap (λ (v : Var). v.0) (same_number (variable n) c e) in omega (arith, p))
    (λ r. less_two n c.0 (constants_from xs (suc (suc n)) c r))

constants_below : (xs : List Var) (n : ℕ) (c : Var) → is_in c (constants xs n) ≡ true → c.0 < n + (length xs + length xs)
constants_below [] n c h = clash false h refl
constants_below (x ∷ xs) n c h =
    or_later (eqb n c.0) (is_in c (constants xs (suc (suc n)))) h (λ e. let p : n ≡ c.0 = ap (λ (v : Var). v.0) (same_number (variable n) c e) in omega (arith, p))
    (λ r. below_two n c.0 (length xs) (constants_below xs (suc (suc n)) c r))

no_less : (n : ℕ) → suc (suc n) ≤ n → ⊥
no_less n p = omega (arith, p)

constants_once : (xs : List Var) (n : ℕ) → Distinct (constants xs n)
constants_once [] n = tt
constants_once (x ∷ xs) n = (absent (is_in (variable n) (constants xs (suc (suc n)))) refl, constants_once xs (suc (suc n)))
  where
    absent : (t : Bool) → is_in (variable n) (constants xs (suc (suc n))) ≡ t → is_in (variable n) (constants xs (suc (suc n))) ≡ false
    absent true e = absurd (no_less n (constants_from xs (suc (suc n)) (variable n) e))
    absent false e = e

at_next : (n v : ℕ) → v ≡ suc n → n < v
at_next n v p = omega (arith, p)

past_two : (n v : ℕ) → suc (suc n) < v → n < v
past_two n v p = omega (arith, p)

-- the variable of a component is none of a constant
component_from : (f : Var → Var) (xs : List Var) (n : ℕ) (x : Var) → AreComponents f xs n → is_in x xs ≡ true → n < (f x).0
component_from f [] n x c h = clash false h refl
component_from f (y ∷ xs) n x c h =
    or_later (eqb y.0 x.0) (is_in x xs) h (λ e. at_next n (f x).0 (ap (λ (v : Var). v.0) (ap f (sym (same_number y x e)) ∙ c.0)))
    (λ r. past_two n (f x).0 (component_from f xs (suc (suc n)) x c.1 r))

first_first : (n c v : ℕ) → n ≡ c → v ≡ suc n → c ≡ v → ⊥
first_first n c v p q e = omega (arith, p, q, e)

first_late : (n c v : ℕ) → n ≡ c → suc (suc n) < v → c ≡ v → ⊥
first_late n c v p q e = omega (arith, p, q, e)

late_first : (n c v : ℕ) → suc (suc n) ≤ c → v ≡ suc n → c ≡ v → ⊥
late_first n c v p q e = omega (arith, p, q, e)

constant_apart : (f : Var → Var) (xs : List Var) (n : ℕ) (c x : Var) → AreComponents f xs n → is_in c (constants xs n) ≡ true → is_in x xs ≡ true → c.0 ≡ (f x).0 → ⊥
constant_apart f [] n c x a h k e = clash false h refl
constant_apart f (y ∷ xs) n c x a h k e =
    or_later (eqb n c.0) (is_in c (constants xs (suc (suc n)))) h
    (λ p. or_later (eqb y.0 x.0) (is_in x xs) k
    (λ q. first_first n c.0 (f x).0 (ap (λ (v : Var). v.0) (same_number (variable n) c p)) (ap (λ (v : Var). v.0) (ap f (sym (same_number y x q)) ∙ a.0)) e)
    (λ q. first_late n c.0 (f x).0 (ap (λ (v : Var). v.0) (same_number (variable n) c p)) (component_from f xs (suc (suc n)) x a.1 q) e))
    (λ p. or_later (eqb y.0 x.0) (is_in x xs) k
    (λ q. late_first n c.0 (f x).0 (constants_from xs (suc (suc n)) c p) (ap (λ (v : Var). v.0) (ap f (sym (same_number y x q)) ∙ a.0)) e)
    (λ q. constant_apart f xs (suc (suc n)) c x a.1 p q e))

-- the bindings of the components
lets_are : (s : Site) (i : Var) (j : ℕ) (f : Var → Var) (xs : List Var) (n : ℕ) (b : BlockTerm) → AreComponents f xs n → chain (component_lets s i j xs n) b ≡ components s i j f xs (constants xs n) b
lets_are s i j f [] n b c = refl
lets_are s i j f (x ∷ xs) n b c = λ k.
    Bind (variable n ∷ []) s (Plain (PlainTerm.Const (scalar Int (pos j)))) (Bind (sym c.0 k ∷ []) s (Plain (PlainTerm.Select i (variable n))) (lets_are s i (suc j) f xs (suc (suc n)) b c.1 k))

lets_order : (s : Site) (i : Var) (j : ℕ) (xs : List Var) (n : ℕ) (b : BlockTerm) → AreFrom (n + (length xs + length xs)) (bound_in b) → AreFrom n (bound_in (chain (component_lets s i j xs n) b))
lets_order s i j [] n b h = subst (λ m. AreFrom m (bound_in b)) (omega arith) h
lets_order s i j (x ∷ xs) n b h = (refl, (refl, lets_order s i (suc j) xs (suc (suc n)) b (subst (λ m. AreFrom m (bound_in b)) (omega arith) h)))

at_least : (k v : ℕ) → v ≡ k → k ≤ v
at_least k v p = omega (arith, p)

at_more : (k v : ℕ) → suc k ≤ v → k ≤ v
at_more k v p = omega (arith, p)

over_top : (t c v : ℕ) → t ≤ v → c < t → c ≡ v → ⊥
over_top t c v p q e = omega (arith, p, q, e)

over_index : (n c v : ℕ) → suc n ≤ c → v ≡ n → c ≡ v → ⊥
over_index n c v p q e = omega (arith, p, q, e)

over_scope : (n c v y low : ℕ) → suc n ≤ c → v ≡ y → y < low → low ≤ n → c ≡ v → ⊥
over_scope n c v y low p q r s e = omega (arith, p, q, r, s, e)

-- ---- the copy

abbrev named_copy : GenTerm → ℕ → Var → Var
named_copy g n = component_names (named (λ x. x) g.head.index (variable n)) g.head.names (suc n)

abbrev copy_map : GenTerm → ℕ → Var → Var
copy_map g n = numbered (named_copy g n) (bound_in g.body) (suc n + (length g.head.names + length g.head.names))

abbrev In : List Var → Var → Type 0
In xs a = is_in a xs ≡ true

pub part_order : (g : GenTerm) (n : ℕ) → Distinct (bound_in g.body) → AreFrom (suc n) (bound_in (part_body g (variable n) (suc n)))
part_order g n d =
    let m = suc n + (length g.head.names + length g.head.names) in
    lets_order g.head.site (variable n) 0 g.head.names (suc n) (mapped (copy_map g n) g.body)
    (subst (AreFrom m) (sym (bound_mapped (copy_map g n) g.body)) (numbered_order (bound_in g.body) (named_copy g n) m d))

module _ (scope : List Var) (low : ℕ) (below : All (λ (x : Var). x.0 < low) scope) (gens : GensTerm) (m : ℕ) (g : GenTerm) (at : GenPlace scope gens m g) (n : ℕ) (high : low ≤ n) where
  abbrev index : Var
  index = g.head.index

  abbrev names : List Var
  names = g.head.names

  abbrev bound : List Var
  bound = bound_in g.body

  abbrev f : Var → Var
  f = copy_map g n

  abbrev top : ℕ
  top = suc n + (length names + length names)

  names_once : Distinct (index ∷ names)
  names_once = distinct_left (index ∷ names) bound at.once

  bound_once : Distinct bound
  bound_once = distinct_right (index ∷ names) bound at.once

  bound_out : NoneIn bound ((index ∷ names) ++ scope)
  bound_out = bound_new g.body ((index ∷ names) ++ scope) at.scoped

  in_scope : (a : Var) → is_in a scope ≡ true → a.0 < low
  in_scope a h = all_member (λ (x : Var). x.0 < low) scope a below h

  -- what is in scope stands for itself
  outer_good : Good (λ x. x) (In scope) low
  outer_good = record { apart = λ a b p q. refl; below = in_scope }

  index_good : Good (named (λ x. x) index (variable n)) (And index (In scope)) (suc n)
  index_good = named_good (λ x. x) (In scope) low n index outer_good high (λ a s. apart_if index.0 a.0 (λ p. clash (is_in index scope) ((λ i. is_in (record { 0 = p i }) scope) ∙ s) at.none.0))

  names_off : (a : Var) → is_in a names ≡ true → And index (In scope) a → ⊥
  names_off a h (inl e) = clash (is_in index names) ((λ i. is_in (same_number index a e i) names) ∙ h) names_once.0
  names_off a h (inr s) = clash (is_in a scope) s (none_at a names scope at.none.1 h)

  names_good : Good (named_copy g n) (Those names (And index (In scope))) top
  names_good = components_good names (named (λ x. x) index (variable n)) (And index (In scope)) (suc n) index_good names_once.1 names_off

  in_all : (a : Var) → Those names (And index (In scope)) a → is_in a ((index ∷ names) ++ scope) ≡ true
  in_all a (inl h) = Rattle.core_forms.proofs.inlined_bodies.Names.behind_first a index (names ++ scope) (in_left a names scope h)
  in_all a (inr (inl e)) = in_left a (index ∷ names) scope (λ i. e i || is_in a names)
  in_all a (inr (inr s)) = Rattle.core_forms.proofs.norm.Scopes.in_right a (index ∷ names) scope s

  bound_off : (a : Var) → is_in a bound ≡ true → Those names (And index (In scope)) a → ⊥
  bound_off a h t = clash (is_in a ((index ∷ names) ++ scope)) (in_all a t) (none_at a bound ((index ∷ names) ++ scope) bound_out h)

  whole_good : Good f (Those bound (Those names (And index (In scope)))) (top + length bound)
  whole_good = numbered_good bound (named_copy g n) (Those names (And index (In scope))) top names_good bound_once bound_off

  split : (a : Var) → is_in a (bound ++ ((index ∷ names) ++ scope)) ≡ true → Those bound (Those names (And index (In scope))) a
  split a h = first (in_either a bound ((index ∷ names) ++ scope) h)
    where
      third : (is_in a names ≡ true) ⊎ (is_in a scope ≡ true) → Those names (And index (In scope)) a
      third (inl p) = inl p
      third (inr p) = inr (inr p)

      second : is_in a ((index ∷ names) ++ scope) ≡ true → Those names (And index (In scope)) a
      second p = or_later (eqb index.0 a.0) (is_in a (names ++ scope)) p (λ e. inr (inl e)) (λ q. third (in_either a names scope q))

      first : (is_in a bound ≡ true) ⊎ (is_in a ((index ∷ names) ++ scope) ≡ true) → Those bound (Those names (And index (In scope))) a
      first (inl p) = inl p
      first (inr p) = inr (second p)

  apart : (x y : Var) → is_in x (bound ++ ((index ∷ names) ++ scope)) ≡ true → is_in y (bound ++ ((index ∷ names) ++ scope)) ≡ true → eqb (f x).0 (f y).0 ≡ eqb x.0 y.0
  apart x y p q = whole_good.apart x y (split x p) (split y q)

  -- which variable stands for one
  unbound : (x : Var) → Those names (And index (In scope)) x → is_in x bound ≡ false
  unbound x t = Rattle.core_forms.proofs.inlined_bodies.Names.not_in x bound (λ h. bound_off x h t)

  unnamed : (x : Var) → And index (In scope) x → is_in x names ≡ false
  unnamed x t = Rattle.core_forms.proofs.inlined_bodies.Names.not_in x names (λ h. names_off x h t)

  outer_stays : (x : Var) → is_in x scope ≡ true → f x ≡ x
  outer_stays x h =
      numbered_off bound (named_copy g n) top x (unbound x (inr (inr h)))
      ∙ components_off names (named (λ y. y) index (variable n)) (suc n) x (unnamed x (inr h))
      ∙ named_off (λ y. y) index (variable n) x (apart_if index.0 x.0 (λ p. clash (is_in index scope) ((λ i. is_in (record { 0 = p i }) scope) ∙ h) at.none.0))

  index_is : f index ≡ variable n
  index_is =
      let own : eqb index.0 index.0 ≡ true = Rattle.std.proofs.lemmas.Bool.eq-eqb index.0 index.0 refl in
      numbered_off bound (named_copy g n) top index (unbound index (inr (inl own)))
      ∙ components_off names (named (λ y. y) index (variable n)) (suc n) index (unnamed index (inl own))
      ∙ named_at (λ y. y) index (variable n) index own

  components_are : AreComponents f names (suc n)
  components_are =
      components_same names (named_copy g n) f (suc n) (λ x h. numbered_off bound (named_copy g n) top x (unbound x (inl h)))
      (components_order names (named (λ y. y) index (variable n)) (suc n) names_once.1)

  -- no constant stands for a variable
  bound_from : (xs : List Var) (h : Var → Var) (k : ℕ) (x : Var) → Distinct xs → is_in x xs ≡ true → k ≤ (numbered h xs k x).0
  bound_from [] h k x d p = clash false p refl
  bound_from (y ∷ xs) h k x d p =
      or_later (eqb y.0 x.0) (is_in x xs) p
      (λ e. let one : numbered h (y ∷ xs) k x ≡ variable k =
      (λ i. numbered h (y ∷ xs) k (sym (same_number y x e) i)) ∙ numbered_off xs (named h y (variable k)) (suc k) y d.0 ∙ named_at h y (variable k) y (Rattle.std.proofs.lemmas.Bool.eq-eqb y.0 y.0 refl) in
      at_least k (numbered h (y ∷ xs) k x).0 (ap (λ (v : Var). v.0) one))
      (λ r. at_more k (numbered h (y ∷ xs) k x).0 (bound_from xs (named h y (variable k)) (suc k) x d.1 r))

  alone : (c x : Var) → is_in c (constants names (suc n)) ≡ true → is_in x (bound ++ ((index ∷ names) ++ scope)) ≡ true → eqb c.0 (f x).0 ≡ false
  alone c x p q = apart_if c.0 (f x).0 (by (split x q))
    where
      late : suc n ≤ c.0
      late = constants_from names (suc n) c p

      early : c.0 < top
      early = constants_below names (suc n) c p

      by : Those bound (Those names (And index (In scope))) x → c.0 ≡ (f x).0 → ⊥
      by (inl h) e = over_top top c.0 (f x).0 (bound_from bound (named_copy g n) top x bound_once h) early e
      by (inr (inl h)) e = constant_apart f names (suc n) c x components_are p h e
      by (inr (inr (inl h))) e = over_index n c.0 (f x).0 late (ap (λ (v : Var). v.0) (ap f (sym (same_number index x h)) ∙ index_is)) e
      by (inr (inr (inr h))) e = over_scope n c.0 (f x).0 x.0 low late (ap (λ (v : Var). v.0) (outer_stays x h)) (in_scope x h) high e

  pub copy_is : NamedBody (under loops.itself index (variable n)) (variable n) 0 names g.body (part_body g (variable n) (suc n)) × NamedAlike names g.body (part_body g (variable n) (suc n))
  copy_is =
      let made = copies_named f g.head.site index names (constants names (suc n)) scope g.body at.scoped apart names_once (constants_count names (suc n)) (constants_once names (suc n)) outer_stays alone in
      let at_index = subst (λ (v : Var). NamedBody (under loops.itself index v) v 0 names g.body (components g.head.site v 0 f names (constants names (suc n)) (mapped f g.body))
      × NamedAlike names g.body (components g.head.site v 0 f names (constants names (suc n)) (mapped f g.body))) index_is made in
      subst (λ (b : BlockTerm). NamedBody (under loops.itself index (variable n)) (variable n) 0 names g.body b × NamedAlike names g.body b)
      (sym (lets_are g.head.site (variable n) 0 f names (suc n) (mapped f g.body) components_are)) at_index
