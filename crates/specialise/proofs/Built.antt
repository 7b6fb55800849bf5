-- The core that a plan tells has its instances.
use Rattle.std.proofs.Common.{◌≡◌, ℕ, zero, suc, ◌^◌, ◌+◌, ◌<◌, ◌≤◌, false, List, [], ◌∷◌, ◌++◌, map, zip, drop, length, get_or, Option, Some, None, All, refl, sym, ap, subst, ◌∙◌, arith, ◌⊎◌, inl, inr}
use Rattle.std.specs.Prelude.{slice_get, unwrap_or, option_map, AllPairs}
use Rattle.std.proofs.lemmas.List.{length-map}
use Rattle.std.proofs.lemmas.Option.{slice_get-map, slice_get_within, get_or_from_slice_get, slice_get-get_or}
use Rattle.sac_base.specs.declared.types.ArrayType.{ArrayType}
use Rattle.sac_base.specs.Types.{all_below}
use Rattle.core_ir.specs.declared.tree.Var.{Var}
use Rattle.core_ir.specs.Outcome.{param_types, param_vars, group_at}
use Rattle.core_ir.specs.Terms.{FunTerm, CoreTerm}
use Rattle.core_ir.specs.WellFormed.{bases}
use Rattle.core_facts.specs.calls.Nests.{StandsIn}
use Rattle.specialise.specs.groups.Specialised.{IsCopy, IsNarrowed, IsSpecialised}
use Rattle.specialise.specs.groups.Specialised
use Rattle.specialise.proofs.groups.Lists.{some_same, none_some, mapped_stands, pairs_map, some_within, none_either}
use Rattle.specialise.specs.declared.order.Key.{Key}
use Rattle.specialise.specs.Plans.{Entry, retyped, made_by, function_at, IsEntry, LaterElsewhere, HasFurther, IsPlan}
use Rattle.specialise.specs.Orders.{numbers, IsBuilt}

-- ---- functions with other types

zip_first : (xs : List Var) (ts : List ArrayType) → length xs ≡ length ts → map (λ (p : Var × ArrayType). p.0) (zip xs ts) ≡ xs
zip_first [] [] l = refl
zip_first [] (t ∷ ts) l = refl
zip_first (x ∷ xs) [] l = absurd (omega (arith, l))
zip_first (x ∷ xs) (t ∷ ts) l = λ i. x ∷ zip_first xs ts (let q : length xs ≡ length ts = omega (arith, l) in q) i

zip_second : (xs : List Var) (ts : List ArrayType) → length xs ≡ length ts → map (λ (p : Var × ArrayType). p.1) (zip xs ts) ≡ ts
zip_second [] [] l = refl
zip_second [] (t ∷ ts) l = absurd (omega (arith, l))
zip_second (x ∷ xs) [] l = refl
zip_second (x ∷ xs) (t ∷ ts) l = λ i. t ∷ zip_second xs ts (let q : length xs ≡ length ts = omega (arith, l) in q) i

zip_both : (ps : List (Var × ArrayType)) → zip (map (λ (p : Var × ArrayType). p.0) ps) (map (λ (p : Var × ArrayType). p.1) ps) ≡ ps
zip_both [] = refl
zip_both (p ∷ ps) = λ i. p ∷ zip_both ps i

itself : (f : FunTerm) → retyped f (param_types f) ≡ f
itself f = λ i. record f { params = zip_both f.params i }

equally_long : (f : FunTerm) (types : List ArrayType) → bases (param_types f) ≡ bases types → length (param_vars f) ≡ length types
equally_long f types h =
    length-map f.params (λ (p : Var × ArrayType). p.0) ∙ sym (length-map f.params (λ (p : Var × ArrayType). p.1))
    ∙ sym (length-map (param_types f) (λ (t : ArrayType). t.base)) ∙ ap length h ∙ length-map types (λ (t : ArrayType). t.base)

new_types : (f : FunTerm) (types : List ArrayType) → bases (param_types f) ≡ bases types → param_types (retyped f types) ≡ types
new_types f types h = zip_second (param_vars f) types (equally_long f types h)

copy : (f : FunTerm) (types : List ArrayType) → bases (param_types f) ≡ bases types → IsCopy f (retyped f types)
copy f types h = record {
  name = refl;
  site = refl;
  vars = sym (zip_first (param_vars f) types (equally_long f types h));
  bases = h ∙ ap bases (sym (new_types f types h));
  results = refl;
  inlines = refl;
  body = refl;
  ends = refl;
}

-- ---- lists

sides : (i j : ℕ) → (j < i) ⊎ (i ≤ j)
sides zero j = inr (omega arith)
sides (suc i) zero = inl (omega arith)
sides (suc i) (suc j) = elim (sides i j) [ inl l ↦ inl (omega (arith, l)) | inr l ↦ inr (omega (arith, l)) ]

behind : (xs ys : List ℕ) → drop (length xs) (xs ++ ys) ≡ ys
behind [] ys = refl
behind (x ∷ xs) ys = behind xs ys

map_apart : (f : ℕ → ℕ) (xs ys : List ℕ) → map f (xs ++ ys) ≡ map f xs ++ map f ys
map_apart f [] ys = refl
map_apart f (x ∷ xs) ys = λ i. f x ∷ map_apart f xs ys i

read : (ms : List ℕ) (ns places : List ℕ) → map (λ (n : ℕ). Some n) ms ≡ map (slice_get places) ns → ms ≡ map (λ n. unwrap_or (slice_get places n) 0) ns
read ms ns places h = unsome ms ∙ ap (map (λ (o : Option ℕ). unwrap_or o 0)) h ∙ through ns
  where
    unsome : (ms : List ℕ) → ms ≡ map (λ (o : Option ℕ). unwrap_or o 0) (map (λ (n : ℕ). Some n) ms)
    unsome [] = refl
    unsome (m ∷ ms) = λ i. m ∷ unsome ms i

    through : (ns : List ℕ) → map (λ (o : Option ℕ). unwrap_or o 0) (map (slice_get places) ns) ≡ map (λ n. unwrap_or (slice_get places n) 0) ns
    through [] = refl
    through (n ∷ ns) = λ i. unwrap_or (slice_get places n) 0 ∷ through ns i

abbrev source_in : Option Entry → ℕ
source_in None = 0
source_in (Some e) = e.source

abbrev source_of : List Entry → Option ℕ → ℕ
source_of es None = 0
source_of es (Some n) = source_in (slice_get es n)

module _ (core new : CoreTerm) (es : List Entry) (gs : List (List ℕ)) (main : ℕ) (plan : IsPlan core es gs) (built : IsBuilt core es gs main new) where
  abbrev order : List ℕ
  order = numbers built.keys

  abbrev of : ℕ → ℕ
  of place = source_of es (slice_get order place)

  abbrev pub at : ℕ → ℕ
  at n = unwrap_or (slice_get built.places n) 0

  -- ---- places of entries

  found : (n : ℕ) → n < length es → (place : ℕ) × ((slice_get built.places n ≡ Some place) × (slice_get order place ≡ Some n))
  found n lt =
      let w = built.are.all n lt in
      let k = w.0 in
      let c = w.1.0 in
      let here : slice_get order c.0 ≡ Some n =
      slice_get-map (λ (q : Key). q.number) built.keys c.0 ∙ ap (option_map (λ (q : Key). q.number)) (slice_get-get_or built.keys c.0 k c.1 ∙ ap Some c.2) ∙ ap Some w.1.1 in
      built.inverse c.0 n here (omega (arith, lt, built.are.count, length-map built.keys (λ (q : Key). q.number)))

  stands : (n place : ℕ) → slice_get built.places n ≡ Some place → at n ≡ place
  stands n place e = ap (λ o. unwrap_or o 0) e

  new_at : (place n : ℕ) (e : Entry) (f : FunTerm) → slice_get order place ≡ Some n → slice_get es n ≡ Some e → slice_get core.functions e.source ≡ Some f → slice_get new.functions place ≡ Some (retyped f e.types)
  new_at place n e f o ee ef = go (slice_get new.functions place) refl
    where
      whole : option_map (λ (g : FunTerm). Some g) (slice_get new.functions place) ≡ Some (Some (retyped f e.types))
      whole =
          sym (slice_get-map (λ (g : FunTerm). Some g) new.functions place) ∙ ap (λ xs. slice_get xs place) built.functions
          ∙ slice_get-map (function_at core es) order place ∙ ap (option_map (function_at core es)) o
          ∙ ap Some (ap (made_by core) ee ∙ ap (option_map (λ (h : FunTerm). retyped h e.types)) ef)

      go : (x : Option FunTerm) → slice_get new.functions place ≡ x → slice_get new.functions place ≡ Some (retyped f e.types)
      go None q = absurd (none_some (Some (retyped f e.types)) (sym (ap (option_map (λ (g : FunTerm). Some g)) q) ∙ whole))
      go (Some g) q = q ∙ some_same (Some g) (Some (retyped f e.types)) (sym (ap (option_map (λ (h : FunTerm). Some h)) q) ∙ whole)

  record Told (place : ℕ) (g : FunTerm) : Type 0 where
    number : ℕ
    entry : Entry
    function : FunTerm
    order_at : slice_get order place ≡ Some number
    entry_at : slice_get es number ≡ Some entry
    there : slice_get core.functions entry.source ≡ Some function
    same : bases (param_types function) ≡ bases entry.types
    is : retyped function entry.types ≡ g

  told : (place : ℕ) (g : FunTerm) → slice_get new.functions place ≡ Some g → Told place g
  told place g q = go (slice_get order place) refl
    where
      whole : option_map (function_at core es) (slice_get order place) ≡ Some (Some g)
      whole =
          sym (slice_get-map (function_at core es) order place) ∙ ap (λ xs. slice_get xs place) (sym built.functions)
          ∙ slice_get-map (λ (h : FunTerm). Some h) new.functions place ∙ ap (option_map (λ (h : FunTerm). Some h)) q

      at_entry : (n : ℕ) → slice_get order place ≡ Some n → function_at core es n ≡ Some g → (x : Option Entry) → slice_get es n ≡ x → Told place g
      at_entry n o m None e = absurd (none_some g (sym (ap (made_by core) e) ∙ m))
      at_entry n o m (Some e) ee =
          let w = plan.made n e ee in
          record {
            number = n;
            entry = e;
            function = w.function;
            order_at = o;
            entry_at = ee;
            there = w.there;
            same = w.bases;
            is = some_same (retyped w.function e.types) g (sym (ap (made_by core) ee ∙ ap (option_map (λ (h : FunTerm). retyped h e.types)) w.there) ∙ m);
          }

      go : (o : Option ℕ) → slice_get order place ≡ o → Told place g
      go None o = absurd (none_some (Some g) (sym (ap (option_map (function_at core es)) o) ∙ whole))
      go (Some n) o = at_entry n o (some_same (function_at core es n) (Some g) (sym (ap (option_map (function_at core es)) o) ∙ whole)) (slice_get es n) refl

  of_told : (place : ℕ) (g : FunTerm) (t : Told place g) → of place ≡ (t.entry).source
  of_told place g t = ap (source_of es) t.order_at ∙ ap source_in t.entry_at

  -- ---- an entry in the new core

  record Placed (n : ℕ) (e : Entry) : Type 0 where
    function : FunTerm
    there : slice_get core.functions e.source ≡ Some function
    new_there : slice_get new.functions (at n) ≡ Some (retyped function e.types)
    of_is : of (at n) ≡ e.source
    types : param_types (retyped function e.types) ≡ e.types

  placed : (n : ℕ) (e : Entry) → slice_get es n ≡ Some e → Placed n e
  placed n e ee =
      let w = found n (slice_get_within es n e ee) in
      let m = plan.made n e ee in
      let here = stands n w.0 w.1.0 in
      record {
        function = m.function;
        there = m.there;
        new_there = ap (slice_get new.functions) here ∙ new_at w.0 n e m.function w.1.1 ee m.there;
        of_is = ap of here ∙ ap (source_of es) w.1.1 ∙ ap source_in ee;
        types = new_types m.function e.types m.bases;
      }

  kept : (place : ℕ) (f : FunTerm) → slice_get core.functions place ≡ Some f → (slice_get new.functions (at place) ≡ Some f) × (of (at place) ≡ place)
  kept place f e =
      let p = placed place (record { source = place; types = param_types f }) (plan.own place f e) in
      let same : p.function ≡ f = some_same p.function f (sym p.there ∙ e) in
      (p.new_there ∙ ap Some (ap (λ (h : FunTerm). retyped h (param_types f)) same ∙ itself f), p.of_is)

  source : (place : ℕ) (g : FunTerm) → slice_get new.functions place ≡ Some g → (f : FunTerm) × ((slice_get core.functions (of place) ≡ Some f) × IsCopy f g)
  source place g e =
      let t = told place g e in
      (t.function, (ap (slice_get core.functions) (of_told place g t) ∙ t.there, subst (IsCopy t.function) t.is (copy t.function (t.entry).types t.same)))

  long : length new.functions ≡ length order
  long = sym (length-map new.functions (λ (g : FunTerm). Some g)) ∙ ap length built.functions ∙ length-map order (function_at core es)

  key_at : (i : ℕ) → i < length new.functions → (k : Key) × ((slice_get built.keys i ≡ Some k) × (of i ≡ k.source))
  key_at i lt =
      let w = some_within built.keys i (omega (arith, lt, long, length-map built.keys (λ (q : Key). q.number))) in
      let e = built.are.told i w.0 (slice_get_within built.keys i w.0 w.1) in
      let k : get_or built.keys i w.0 ≡ w.0 = get_or_from_slice_get built.keys i w.0 w.0 w.1 in
      let o : slice_get order i ≡ Some (w.0).number = slice_get-map (λ (q : Key). q.number) built.keys i ∙ ap (option_map (λ (q : Key). q.number)) w.1 in
      (w.0, (w.1, ap (source_of es) (o ∙ (λ j. Some ((sym k j).number))) ∙ ap source_in e.1.0 ∙ sym e.1.1 ∙ (λ j. (k j).source)))

  ordered : (i j : ℕ) → i < length new.functions → j < length new.functions → of j < of i → j < i
  ordered i j li lj lt = elim (sides i j) [
    | inl l ↦ l
    | inr l ↦
        let k = key_at i li in
        let m = key_at j lj in
        let within = slice_get_within built.keys j m.0 m.1.0 in
        let up = built.sorted i j k.0 l within in
        let first : get_or built.keys i k.0 ≡ k.0 = get_or_from_slice_get built.keys i k.0 k.0 k.1.0 in
        let second : get_or built.keys j k.0 ≡ m.0 = get_or_from_slice_get built.keys j m.0 k.0 m.1.0 in
        let low : (k.0).source ≤ (m.0).source = subst (λ (x : Key). x.source ≤ (m.0).source) first (subst (λ (x : Key). (get_or built.keys i k.0).source ≤ x.source) second up) in
        absurd (omega (arith, lt, low, k.1.1, m.1.1))
  ]

  -- ---- groups

  abbrev members_at : ℕ → List ℕ
  members_at group = unwrap_or (slice_get gs group) []

  abbrev further : ℕ → List ℕ
  further group = map at (drop (length (group_at core group)) (members_at group))

  further_is : (group : ℕ) (places : List ℕ) (e : slice_get core.groups group ≡ Some places) → drop (length (group_at core group)) (members_at group) ≡ (plan.groups group places e).further
  further_is group places e =
      let h = plan.groups group places e in
      ap (λ o. drop (length (unwrap_or o [])) (members_at group)) e ∙ ap (λ o. drop (length places) (unwrap_or o [])) h.all ∙ behind places h.further

  none_further : (group : ℕ) → slice_get core.groups group ≡ None → further group ≡ []
  none_further group e = ap (λ o. map at (drop (length (group_at core group)) (unwrap_or o []))) (none_either core.groups gs group (sym plan.count) e) ∙ nothing (length (group_at core group))
    where
      nothing : (n : ℕ) → map at (drop n []) ≡ []
      nothing zero = refl
      nothing (suc n) = refl

  count : length new.groups ≡ length core.groups
  count =
      sym (length-map new.groups (map (λ (n : ℕ). Some n))) ∙ ap length built.groups ∙ length-map gs (map (slice_get built.places)) ∙ plan.count

  -- the members of a group, own and further ones
  pub members_new : (group : ℕ) (places : List ℕ) (e : slice_get core.groups group ≡ Some places) → slice_get new.groups group ≡ Some (map at (places ++ (plan.groups group places e).further))
  members_new group places e = go (slice_get new.groups group) refl
    where
      whole : option_map (map (λ (n : ℕ). Some n)) (slice_get new.groups group) ≡ Some (map (slice_get built.places) (places ++ (plan.groups group places e).further))
      whole =
          sym (slice_get-map (map (λ (n : ℕ). Some n)) new.groups group) ∙ ap (λ xs. slice_get xs group) built.groups
          ∙ slice_get-map (map (slice_get built.places)) gs group ∙ ap (option_map (map (slice_get built.places))) (plan.groups group places e).all

      go : (o : Option (List ℕ)) → slice_get new.groups group ≡ o → slice_get new.groups group ≡ Some (map at (places ++ (plan.groups group places e).further))
      go None q = absurd (none_some _ (sym (ap (option_map (map (λ (n : ℕ). Some n))) q) ∙ whole))
      go (Some ms) q =
          q ∙ ap Some (read ms (places ++ (plan.groups group places e).further) built.places (some_same _ _ (sym (ap (option_map (map (λ (n : ℕ). Some n))) q) ∙ whole)))

  groups : (group : ℕ) (places : List ℕ) → slice_get core.groups group ≡ Some places → slice_get new.groups group ≡ Some (map at places ++ further group)
  groups group places e =
      members_new group places e
      ∙ ap Some (map_apart at places (plan.groups group places e).further ∙ ap (λ ns. map at places ++ map at ns) (sym (further_is group places e)))

  instances : (group place : ℕ) → StandsIn (further group) place → (g : FunTerm) × ((slice_get new.functions place ≡ Some g) × IsNarrowed core group (of place) (param_types g))
  instances group place t = go (slice_get core.groups group) refl
    where
      go : (o : Option (List ℕ)) → slice_get core.groups group ≡ o → (g : FunTerm) × ((slice_get new.functions place ≡ Some g) × IsNarrowed core group (of place) (param_types g))
      go None e = absurd (subst (λ ns. StandsIn ns place) (none_further group e) t)
      go (Some places) e =
          let h = plan.groups group places e in
          let w = mapped_stands at h.further place (subst (λ ns. StandsIn (map at ns) place) (further_is group places e) t) in
          let n = h.narrowed w.0 w.1.0 in
          let p = placed w.0 n.0 n.1.0 in
          let g = retyped p.function (n.0).types in (
            g,
            (
              ap (slice_get new.functions) (sym w.1.1) ∙ p.new_there,
              subst (λ m. IsNarrowed core group m (param_types g)) (sym p.of_is ∙ ap of w.1.1) (subst (IsNarrowed core group (n.0).source) (sym p.types) n.1.1),
            ),
          )

  apart : (group : ℕ) → AllPairs (Specialised.LaterElsewhere new.functions) (further group)
  apart group = go (slice_get core.groups group) refl
    where
      go : (o : Option (List ℕ)) → slice_get core.groups group ≡ o → AllPairs (Specialised.LaterElsewhere new.functions) (further group)
      go None e = subst (AllPairs (Specialised.LaterElsewhere new.functions)) (sym (none_further group e)) (λ i j d l m. absurd (omega (arith, m)))
      go (Some places) e =
          let h = plan.groups group places e in
          subst (λ ns. AllPairs (Specialised.LaterElsewhere new.functions) (map at ns)) (sym (further_is group places e))
          (pairs_map (LaterElsewhere es) (Specialised.LaterElsewhere new.functions) at h.further
          (λ m n s t r f g ef eg.
          let u = h.narrowed m s in
          let w = h.narrowed n t in
          let p = placed m u.0 u.1.0 in
          let q = placed n w.0 w.1.0 in
          let first : param_types f ≡ (u.0).types = ap param_types (some_same f (retyped p.function (u.0).types) (sym ef ∙ p.new_there)) ∙ p.types in
          let second : param_types g ≡ (w.0).types = ap param_types (some_same g (retyped q.function (w.0).types) (sym eg ∙ q.new_there)) ∙ q.types in
          (λ i. all_below (second i) (first i)) ∙ r u.0 w.0 u.1.0 w.1.0) h.apart)

  pub specialised : (e : Entry) → slice_get es main ≡ Some e → e.source ≡ core.main → length new.functions < 2 ^ 32 → IsSpecialised core new
  specialised e ee same few =
      let p = placed main e ee in
      let here : at main ≡ new.main = ap (λ o. unwrap_or o 0) (sym built.main_is) in
      record {
        of = of;
        at = at;
        further = further;
        kept = kept;
        source = source;
        ordered = ordered;
        count = count;
        groups = groups;
        instances = instances;
        apart = apart;
        main = (retyped p.function e.types, (ap (slice_get new.functions) (sym here) ∙ p.new_there, ap of (sym here) ∙ p.of_is ∙ same));
        few = few;
      }

  -- the types of main's parameters
  pub main_types : (e : Entry) → slice_get es main ≡ Some e → (g : FunTerm) → slice_get new.functions new.main ≡ Some g → param_types g ≡ e.types
  main_types e ee g eg =
      let p = placed main e ee in
      let here : at main ≡ new.main = ap (λ o. unwrap_or o 0) (sym built.main_is) in
      ap param_types (some_same g (retyped p.function e.types) (sym eg ∙ ap (slice_get new.functions) (sym here) ∙ p.new_there)) ∙ p.types

  -- each group has its own instances, and at most 16 more
  pub few_added : (group : ℕ) (places ms : List ℕ) → slice_get core.groups group ≡ Some places → slice_get new.groups group ≡ Some ms → length ms ≤ length places + 16
  few_added group places ms e q =
      let h = plan.groups group places e in
      let same : ms ≡ map at places ++ further group = some_same ms (map at places ++ further group) (sym q ∙ groups group places e) in
      let long : length ms ≡ length (map at places) + length (map at h.further) = ap length same ∙ joined_long (map at places) (further group) ∙ ap (λ ns. length (map at places) + length (map at ns)) (further_is group places e) in
      omega (arith, long, length-map places at, length-map h.further at, h.few)
    where
      joined_long : (xs ys : List ℕ) → length (xs ++ ys) ≡ length xs + length ys
      joined_long [] ys = let r : length ys ≡ 0 + length ys = omega arith in r
      joined_long (x ∷ xs) ys = let r = joined_long xs ys in let g : suc (length (xs ++ ys)) ≡ suc (length xs) + length ys = omega (arith, r) in g

  -- where an entry stands
  pub entry_there : (n : ℕ) (e : Entry) → slice_get es n ≡ Some e → (g : FunTerm) × ((slice_get new.functions (at n) ≡ Some g) × (param_types g ≡ e.types))
  entry_there n e h = let p = placed n e h in (retyped p.function e.types, (p.new_there, p.types))

  -- the entry of which a function was made, and the function of the first core
  pub record FromEntry (g : FunTerm) : Type 0 where
    pub number : ℕ
    pub entry : Entry
    pub function : FunTerm
    pub found : slice_get es number ≡ Some entry
    pub there : slice_get core.functions (entry).source ≡ Some function
    pub vars : param_vars g ≡ param_vars function
    pub types : param_types g ≡ (entry).types
    pub body : g.body ≡ (function).body

  pub from_entry : (place : ℕ) (g : FunTerm) → slice_get new.functions place ≡ Some g → FromEntry g
  from_entry place g q =
      let t = told place g q in
      record {
        number = t.number;
        entry = t.entry;
        function = t.function;
        found = t.entry_at;
        there = t.there;
        vars = sym (ap param_vars t.is) ∙ zip_first (param_vars t.function) (t.entry).types (equally_long t.function (t.entry).types t.same);
        types = sym (ap param_types t.is) ∙ new_types t.function (t.entry).types t.same;
        body = sym (ap (λ (h : FunTerm). h.body) t.is);
      }
