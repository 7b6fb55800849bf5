-- A core with further instances is well formed.
use Rattle.std.proofs.Common.{◌≡◌, ℕ, ◌<◌, Bool, true, false, List, [], ◌∷◌, ◌++◌, map, zip, length, Some, All, refl, sym, ap, subst, ◌∙◌, inl, inr}
use Rattle.std.specs.Prelude.{slice_get, AllPairs, Contains}
use Rattle.std.proofs.lemmas.Bool.{false≢true}
use Rattle.std.proofs.lemmas.List.{length-map}
use Rattle.std.proofs.lemmas.Option.{slice_get_within}
use Rattle.sac_base.specs.declared.base.Base.{Base}
use Rattle.sac_base.specs.declared.types.ArrayType.{ArrayType}
use Rattle.sac_base.specs.Types.{all_below, compatible}
use Rattle.core_ir.specs.declared.tree.Var.{Var}
use Rattle.core_ir.specs.Binders.{bound_in}
use Rattle.core_ir.specs.Scopes.{Scoped}
use Rattle.core_ir.specs.Terms.{FunTerm, CoreTerm}
use Rattle.core_ir.specs.Outcome.{param_types, param_vars, group_at}
use Rattle.core_ir.specs.WellFormed.{GroupBases, BlockBases, Distinct, IsFunction, MayShareName, PlacesShare, CallsBackward, IsWellFormed, bases, param_bases, calls_in}
use Rattle.core_facts.specs.calls.Nests.{StandsIn}
use Rattle.core_facts.proofs.bases.Moved.{moved}
use Rattle.specialise.specs.groups.Specialised.{IsCopy, IsSpecialised, LaterElsewhere}
use Rattle.specialise.proofs.groups.Known.{stand_before, all_below_on}
use Rattle.specialise.proofs.groups.Lists.{some_same, stands_left, stands_map, mapped_stands, stands_contained, contained_stands, all_by, pairs_append, pairs_map, pairs_weaker, some_within, all_found, all_by_place}
use Rattle.specialise.proofs.groups.Choice.{group_is, member, sharing, member_cases}

-- ---- copies

zipped : (ps : List (Var × ArrayType)) → map (λ (p : Var × ArrayType). (p.0, p.1.base)) ps ≡ zip (map (λ (p : Var × ArrayType). p.0) ps) (bases (map (λ (p : Var × ArrayType). p.1) ps))
zipped [] = refl
zipped (p ∷ ps) = λ i. (p.0, p.1.base) ∷ zipped ps i

bound_same : (f g : FunTerm) → IsCopy f g → param_bases f ≡ param_bases g
bound_same f g k = zipped f.params ∙ (λ i. zip (k.vars i) (k.bases i)) ∙ sym (zipped g.params)

-- all that two functions of one name share but the order of their types
record Alike (f g : FunTerm) : Type 0 where
  params : length f.params ≡ length g.params
  results : length f.results ≡ length g.results
  inlines : f.is_inline ≡ g.is_inline
  same : bases (param_types f) ≡ bases (param_types g) → bases f.results ≡ bases g.results

alike_itself : (f : FunTerm) → Alike f f
alike_itself f = record { params = refl; results = refl; inlines = refl; same = λ e. refl }

alike_of : (f g : FunTerm) → MayShareName f g → Alike f g
alike_of f g m = record { params = m.params; results = m.results; inlines = m.inlines; same = m.bases }

alike_turned : (f g : FunTerm) → Alike f g → Alike g f
alike_turned f g m = record { params = sym m.params; results = sym m.results; inlines = sym m.inlines; same = λ e. sym (m.same (sym e)) }

copied_length : (f g : FunTerm) → IsCopy f g → length f.params ≡ length g.params
copied_length f g k = sym (length-map f.params (λ (p : Var × ArrayType). p.0)) ∙ ap length k.vars ∙ length-map g.params (λ (p : Var × ArrayType). p.0)

alike_copies : (f g h k : FunTerm) → Alike f h → IsCopy f g → IsCopy h k → Alike g k
alike_copies f g h k m c d = record {
  params = sym (copied_length f g c) ∙ m.params ∙ copied_length h k d;
  results = ap length (sym c.results) ∙ m.results ∙ ap length d.results;
  inlines = sym c.inlines ∙ m.inlines ∙ d.inlines;
  same = λ e. ap bases (sym c.results) ∙ m.same (c.bases ∙ e ∙ sym d.bases) ∙ ap bases d.results;
}

copy_itself : (f : FunTerm) → IsCopy f f
copy_itself f = record { name = refl; site = refl; vars = refl; bases = refl; results = refl; inlines = refl; body = refl; ends = refl }

types_length : (f g : FunTerm) → Alike f g → length (param_types f) ≡ length (param_types g)
types_length f g m = length-map f.params (λ (p : Var × ArrayType). p.1) ∙ m.params ∙ sym (length-map g.params (λ (p : Var × ArrayType). p.1))

may_share : (f g : FunTerm) → Alike f g → compatible (param_types f) (param_types g) ≡ true → MayShareName f g
may_share f g m c = record { params = m.params; results = m.results; inlines = m.inlines; types = c; bases = m.same }

module _ (a b : CoreTerm) (well : IsWellFormed a) (s : IsSpecialised a b) where
  -- ---- functions

  group_moved : (g : ℕ) (us vs : List Base) → GroupBases a g us vs → GroupBases b g us vs
  group_moved g us vs h =
      let places = h.0 in
      let q = h.1.1.1 in (
        map s.at places ++ s.further g,
        (
          s.at h.1.0,
          (
            h.1.1.0,
            (
              s.groups g places q.0,
              contained_stands (map s.at places ++ s.further g) (s.at h.1.0) (stands_left (map s.at places) (s.further g) (s.at h.1.0) (stands_map s.at places h.1.0 (stands_contained places h.1.0 q.1))),
              (s.kept h.1.0 h.1.1.0 q.2).0,
              q.3,
              q.4,
            ),
          ),
        ),
      )

  function : (i : ℕ) (g : FunTerm) → slice_get b.functions i ≡ Some g → IsFunction b g
  function i g e =
      let w = s.source i g e in
      let f = w.0 in
      let k = w.1.1 in
      let is = all_found (IsFunction a) a.functions (s.of i) f well.functions w.1.0 in
      record {
        once = subst (λ xs. Distinct (xs ++ bound_in g.body)) k.vars (subst (λ c. Distinct (param_vars f ++ bound_in c)) k.body is.once);
        scoped = subst (λ xs. Scoped xs g.body) k.vars (subst (Scoped (param_vars f)) k.body is.scoped);
        agreeing =
            subst (λ xs. BlockBases b xs g.body (bases g.results)) (bound_same f g k)
            (subst (λ c. BlockBases b (param_bases f) c (bases g.results)) k.body
            (subst (λ ts. BlockBases b (param_bases f) f.body (bases ts)) k.results (moved a b group_moved f.body (param_bases f) (bases f.results) is.agreeing)));
      }

  main_is : (g : FunTerm) × ((slice_get b.functions b.main ≡ Some g) × (g.is_inline ≡ false))
  main_is =
      let w = s.source b.main s.main.0 s.main.1.0 in
      let same : well.main.0 ≡ w.0 = some_same well.main.0 w.0 (sym well.main.1.0 ∙ ap (slice_get a.functions) (sym s.main.1.1) ∙ w.1.0) in
      (s.main.0, (s.main.1.0, sym w.1.1.inlines ∙ (λ i. (sym same i).is_inline) ∙ well.main.1.1))

  -- ---- groups

  stood : (g : ℕ) (places : List ℕ) (place : ℕ) → slice_get b.groups g ≡ Some places → StandsIn places place → StandsIn (group_at b g) place
  stood g places place e t = subst (λ ps. StandsIn ps place) (sym (group_is b g places e)) t

  there : (g place : ℕ) → StandsIn (group_at b g) place → place < length b.functions
  there g place t = elim (member_cases a b well s g place t) [
    | inl w ↦
        let h = member a well g w.0 w.1.0 in
        slice_get_within b.functions place h.0 (ap (slice_get b.functions) (sym w.1.1) ∙ (s.kept w.0 h.0 h.1).0)
    | inr r ↦ let w = s.instances g place r in slice_get_within b.functions place w.0 w.1.0
  ]

  calls : (i : ℕ) (g : FunTerm) → slice_get b.functions i ≡ Some g → All (λ group. group < length b.groups) (calls_in g.body)
  calls i g e =
      let w = s.source i g e in
      subst (λ n. All (λ group. group < n) (calls_in g.body)) (sym s.count)
      (subst (λ c. All (λ group. group < length a.groups) (calls_in c)) w.1.1.body
      (all_found (λ (f : FunTerm). All (λ group. group < length a.groups) (calls_in f.body)) a.functions (s.of i) w.0 well.called w.1.0))

  alike : (g i j : ℕ) (f h : FunTerm) → StandsIn (group_at a g) i → StandsIn (group_at a g) j → slice_get a.functions i ≡ Some f → slice_get a.functions j ≡ Some h → Alike f h
  alike g i j f h t u ef eh = elim (sharing a well g i j t u) [
    | inl e ↦ subst (Alike f) (some_same f h (sym ef ∙ ap (slice_get a.functions) e ∙ eh)) (alike_itself f)
    | inr r ↦ elim r [ inl q ↦ alike_of f h (q f h ef eh) | inr q ↦ alike_turned h f (alike_of h f (q h f eh ef)) ]
  ]

  -- an instance of the first core before a further one
  own_further : (g m n : ℕ) → StandsIn (group_at a g) m → StandsIn (s.further g) n → PlacesShare b.functions (s.at m) n
  own_further g m n t r f k ef ek =
      let h = member a well g m t in
      let w = s.instances g n r in
      let v = s.source n w.0 w.1.0 in
      let narrow = w.1.1 in
      let own : h.0 ≡ f = some_same h.0 f (sym (s.kept m h.0 h.1).0 ∙ ef) in
      let new : w.0 ≡ k = some_same w.0 k (sym w.1.0 ∙ ek) in
      let source : narrow.function ≡ v.0 = some_same narrow.function v.0 (sym narrow.there ∙ v.1.0) in
      let m1 = alike_copies h.0 h.0 v.0 w.0 (alike g m (s.of n) h.0 v.0 t narrow.stands h.1 v.1.0) (copy_itself h.0) v.1.1 in
      let wide : all_below (param_types w.0) (param_types h.0) ≡ true → all_below (param_types h.0) (param_types w.0) ≡ false =
      λ e. not_both (all_below (param_types h.0) (param_types w.0)) refl (λ q. all_below_on (param_types narrow.function) (param_types h.0) (param_types w.0) (narrow.least m h.0 t h.1 e) q) narrow.narrower in
      subst (λ (x : FunTerm). MayShareName x k) own (subst (MayShareName h.0) new
      (may_share h.0 w.0 m1 (stand_before (param_types h.0) (param_types w.0) (types_length h.0 w.0 m1) narrow.known wide)))
    where
      not_both : {c : Bool} (t : Bool) → t ≡ t → (t ≡ true → c ≡ true) → c ≡ false → t ≡ false
      not_both true e f q = absurd (false≢true (sym q ∙ f refl))
      not_both false e f q = refl

  further_both : (g m n : ℕ) → StandsIn (s.further g) m → StandsIn (s.further g) n → LaterElsewhere b.functions m n → PlacesShare b.functions m n
  further_both g m n t r elsewhere f k ef ek =
      let u = s.instances g m t in
      let w = s.instances g n r in
      let x = s.source m u.0 u.1.0 in
      let y = s.source n w.0 w.1.0 in
      let first : u.0 ≡ f = some_same u.0 f (sym u.1.0 ∙ ef) in
      let second : w.0 ≡ k = some_same w.0 k (sym w.1.0 ∙ ek) in
      let both = alike_copies x.0 u.0 y.0 w.0 (alike g (s.of m) (s.of n) x.0 y.0 u.1.1.stands w.1.1.stands x.1.0 y.1.0) x.1.1 y.1.1 in
      subst (λ (z : FunTerm). MayShareName z k) first (subst (MayShareName u.0) second
      (may_share u.0 w.0 both (stand_before (param_types u.0) (param_types w.0) (types_length u.0 w.0 both) w.1.1.known
      (λ e. absurd (false≢true (sym (elsewhere u.0 w.0 u.1.0 w.1.0) ∙ e))))))

  names : (g : ℕ) (places : List ℕ) → slice_get b.groups g ≡ Some places → AllPairs (PlacesShare b.functions) places
  names g places e =
      let own = some_within a.groups g (subst (λ n. g < n) s.count (slice_get_within b.groups g places e)) in
      let ps = own.0 in
      let same : map s.at ps ++ s.further g ≡ places = some_same _ places (sym (s.groups g ps own.1) ∙ e) in
      let at = group_is a g ps own.1 in
      let stand : (n : ℕ) → StandsIn ps n → StandsIn (group_at a g) n = λ n t. subst (λ qs. StandsIn qs n) (sym at) t in
      subst (AllPairs (PlacesShare b.functions)) same
      (pairs_append (PlacesShare b.functions) (map s.at ps) (s.further g)
      (pairs_map (PlacesShare a.functions) (PlacesShare b.functions) s.at ps (λ m n t u r. own_both m n (member a well g m (stand m t)) (member a well g n (stand n u)) r)
      (all_found (AllPairs (PlacesShare a.functions)) a.groups g ps well.names own.1))
      (pairs_weaker (LaterElsewhere b.functions) (PlacesShare b.functions) (s.further g) (λ m n t u r. further_both g m n t u r) (s.apart g))
      (λ m n t u. let v = mapped_stands s.at ps m t in subst (λ k. PlacesShare b.functions k n) v.1.1 (own_further g v.0 n (stand v.0 v.1.0) u)))
    where
      own_both : (m n : ℕ) → (h : FunTerm) × (slice_get a.functions m ≡ Some h) → (h : FunTerm) × (slice_get a.functions n ≡ Some h) → PlacesShare a.functions m n → PlacesShare b.functions (s.at m) (s.at n)
      own_both m n h k r f g ef eg =
          subst (λ (x : FunTerm). MayShareName x g) (some_same h.0 f (sym (s.kept m h.0 h.1).0 ∙ ef)) (subst (MayShareName h.0) (some_same k.0 g (sym (s.kept n k.0 k.1).0 ∙ eg)) (r h.0 k.0 h.1 k.1))

  -- the source of an instance is one of the first core's
  source_stands : (g place : ℕ) → StandsIn (group_at b g) place → StandsIn (group_at a g) (s.of place)
  source_stands g place t = elim (member_cases a b well s g place t) [
    | inl w ↦ let h = member a well g w.0 w.1.0 in subst (StandsIn (group_at a g)) (sym (s.kept w.0 h.0 h.1).1 ∙ ap s.of w.1.1) w.1.0
    | inr r ↦ (s.instances g place r).1.1.stands
  ]

  backward : CallsBackward b
  backward i f e t group c places eg j h cj eh th =
      let w = s.source i f e in
      let v = s.source j h eh in
      let own = some_within a.groups group (subst (λ n. group < n) s.count (slice_get_within b.groups group places eg)) in
      let stands = source_stands group j (stood group places j eg (stands_contained places j cj)) in
      s.ordered i j (slice_get_within b.functions i f e) (slice_get_within b.functions j h eh)
      (well.backward (s.of i) w.0 w.1.0 (w.1.1.inlines ∙ t) group (subst (λ x. Contains (calls_in x) group) (sym w.1.1.body) c) own.0 own.1 (s.of j) v.0
      (contained_stands own.0 (s.of j) (subst (λ ps. StandsIn ps (s.of j)) (group_is a group own.0 own.1) stands)) v.1.0 (v.1.1.inlines ∙ th))

  pub formed : IsWellFormed b
  formed = record {
    few = s.few;
    functions = all_by_place (IsFunction b) b.functions function;
    main = main_is;
    groups = all_by_place (λ (places : List ℕ). All (λ place. place < length b.functions) places) b.groups (λ g places e. all_by (λ place. place < length b.functions) places (λ place t. there g place (stood g places place e t)));
    called = all_by_place (λ (f : FunTerm). All (λ group. group < length b.groups) (calls_in f.body)) b.functions calls;
    names = all_by_place (λ (places : List ℕ). AllPairs (PlacesShare b.functions) places) b.groups names;
    backward = backward;
  }
