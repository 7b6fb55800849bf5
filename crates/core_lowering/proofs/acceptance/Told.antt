-- What acceptance finds names bound to first is what the list of all bindings says of them.
use Rattle.std.proofs.Common.{◌≡◌, Bool, true, false, not, ◌||◌, List, [], ◌∷◌, ◌++◌, map, length, Option, Some, None, is_some, refl, ap, sym, ◌∙◌, append_assoc, arith}
use Rattle.std.specs.Prelude.{bytes_eq, find, if◌then◌else◌}
use Rattle.std.specs.List.{list_any}
use Rattle.std.proofs.lemmas.List.{append-nil}
use Rattle.std.proofs.lemmas.Slice.Eq.{bytes_eq-Decides}
use Rattle.sac_base.specs.declared.base.Base.{Base}
use Rattle.sac_base.specs.declared.base.Base.TheVariants.{Int, Bool as Truth}
use Rattle.sac_base.specs.declared.name.Name.{Name}
use Rattle.sac_base.specs.Arrays.{same_base}
use Rattle.check_rules.specs.declared.code.CheckCode.TheVariants.{C4, C9}
use Rattle.sac_ast.specs.declared.Known.{Known as Binding}
use Rattle.sac_ast.specs.declared.Target.{Target}
use Rattle.sac_ast.specs.declared.Param.{Param}
use Rattle.sac_ast.specs.Tree.{IndexTree, named, parts}
use Rattle.sac_ast.specs.Bases.{Bases, base_bound, base_of_name, may_be, may_match, first_base, with_bases, index_bases, bound_params}
use Rattle.check_rules.specs.Accepted.{Names, Known, with_names, unless, target_names, index_targets, param_names, bound_first, bind, base_first, base_of, later_bases, in_targets, in_index_names, known_params, repeated}
use Rattle.source_meaning.specs.Meaning.{or_int}
use Rattle.core_lowering.specs.Typed.{TargetsTyped, IntTargets, ParamsTyped}
use Rattle.core_lowering.proofs.Scopes.{same_name}
use Rattle.core_lowering.proofs.acceptance.Clean.{nil2, holds}

-- ---- names and bases

pub itself : (x : Name) → bytes_eq x x ≡ true
itself x = grind (arith, bytes_eq-Decides x x)

pub flip : (x y : Name) → bytes_eq x y ≡ bytes_eq y x
flip x y = go (bytes_eq x y) refl (bytes_eq y x) refl
  where
    go : (b : Bool) → bytes_eq x y ≡ b → (c : Bool) → bytes_eq y x ≡ c → b ≡ c
    go true e true q = refl
    go false e false q = refl
    go true e false q = absurd (let p : bytes_eq y x ≡ bytes_eq y y = ap (bytes_eq y) (same_name x y e) in let w = itself y in cc)
    go false e true q = absurd (let p : bytes_eq x y ≡ bytes_eq x x = ap (bytes_eq x) (same_name y x q) in let w = itself x in cc)

pub same : (a b : Base) → same_base a b ≡ true → a ≡ b
same Int Int h = refl
same Truth Truth h = refl
same Int Truth h = absurd (cc)
same Truth Int h = absurd (cc)

-- ---- what a list of bindings says

abbrev pub bound_to : Option Binding → Option (Option Base)
bound_to None = None
bound_to (Some k) = Some k.base

abbrev pub told : Bases → Known
told bs name = bound_to (find (λ (k : Binding). bytes_eq k.name name) bs)

told_at : (bs : Bases) (x : Binding) (name : Name) → told (bs ++ x ∷ []) name ≡ bind x.name x.base (told bs) name
told_at [] x name = (λ i. bound_to (if flip x.name name i then Some x else None)) ∙ by (bytes_eq name x.name)
  where
    by : (b : Bool) → bound_to (if b then Some x else None) ≡ (if b then Some x.base else None)
    by true = refl
    by false = refl
told_at (k ∷ bs) x name = by (bytes_eq k.name name) (told_at bs x name)
  where
    either : (b : Bool) → Some k.base ≡ (if b then Some k.base else Some k.base)
    either true = refl
    either false = refl

    by : (b : Bool) → told (bs ++ x ∷ []) name ≡ bind x.name x.base (told bs) name
        → bound_to (if b then Some k else find (λ (k : Binding). bytes_eq k.name name) (bs ++ x ∷ []))
        ≡ (if bytes_eq name x.name then bound_first (bound_to (if b then Some k else find (λ (k : Binding). bytes_eq k.name name) bs)) x.base else bound_to (if b then Some k else find (λ (k : Binding). bytes_eq k.name name) bs))
    by true e = either (bytes_eq name x.name)
    by false e = e

pub told_append : (bs : Bases) (x : Binding) → told (bs ++ x ∷ []) ≡ bind x.name x.base (told bs)
told_append bs x = λ i name. told_at bs x name i

pub targets_told : (ts : List Target) (bs : List (Option Base)) (K : Bases) → (in_targets ts bs (told K)).known ≡ told (with_bases ts bs K)
targets_told [] bs K = refl
targets_told (t ∷ ts) [] K =
    let x : Binding = record { name = t.name; base = None } in
    ap (λ (k : Known). (in_targets ts [] k).known) (sym (told_append K x)) ∙ targets_told ts [] (K ++ x ∷ [])
targets_told (t ∷ ts) (b ∷ bs) K =
    let x : Binding = record { name = t.name; base = b } in
    ap (λ (k : Known). (in_targets ts bs k).known) (sym (told_append K x)) ∙ targets_told ts bs (K ++ x ∷ [])

names_told : (ts : List Target) (K : Bases) → (in_index_names ts (told K)).known ≡ told (K ++ map (λ (t : Target). record { name = t.name; base = Some Int }) ts)
names_told [] K = ap told (sym (append-nil K))
names_told (t ∷ ts) K =
    let x : Binding = record { name = t.name; base = Some Int } in
    ap (λ (k : Known). (in_index_names ts k).known) (sym (told_append K x)) ∙ names_told ts (K ++ x ∷ [])
    ∙ ap told (append_assoc K (x ∷ []) (map (λ (t : Target). record { name = t.name; base = Some Int }) ts))

pub index_told : (index : IndexTree) (K : Bases) → (in_index_names (index_targets index) (told K)).known ≡ told (K ++ index_bases index)
index_told (named t) K = names_told (t ∷ []) K
index_told (parts ts) K = names_told ts K

pub params_told : (ps : List Param) (K : Bases) → known_params ps (told K) ≡ told (K ++ bound_params ps)
params_told [] K = ap told (sym (append-nil K))
params_told (p ∷ ps) K =
    let x : Binding = record { name = p.name; base = Some p.ty.base } in
    ap (known_params ps) (sym (told_append K x)) ∙ params_told ps (K ++ x ∷ []) ∙ ap told (append_assoc K (x ∷ []) (bound_params ps))

-- ---- what is known stays known

abbrev pub Extends : Known → Known → Type 0
Extends known after = (name : Name) (b : Option Base) → known name ≡ Some b → after name ≡ Some b

-- each binding tells a base
abbrev pub Based : Known → Type 0
Based known = (name : Name) → known name ≡ Some None → ⊥

abbrev pub Covered : Names → Known → Type 0
Covered bound known = (name : Name) → bound name ≡ true → is_some (known name) ≡ true

pub extends_self : (known : Known) → Extends known known
extends_self known name b h = h

pub extends_more : (f g h : Known) → Extends f g → Extends g h → Extends f h
extends_more f g h p q name b e = q name b (p name b e)

pub extends_bind : (name : Name) (b : Option Base) (known : Known) → Extends known (bind name b known)
extends_bind name b known other c h = go (bytes_eq other name)
  where
    go : (e : Bool) → (if e then bound_first (known other) b else known other) ≡ Some c
    go true = ap (λ (o : Option (Option Base)). bound_first o b) h
    go false = h

based_first : (o : Option (Option Base)) (b : Base) → (o ≡ Some None → ⊥) → bound_first o (Some b) ≡ Some None → ⊥
based_first None b g h = cc
based_first (Some c) b g h = g h

pub based_bind : (name : Name) (b : Base) (known : Known) → Based known → Based (bind name (Some b) known)
based_bind name b known g other h = go (bytes_eq other name) h
  where
    go : (e : Bool) → (if e then bound_first (known other) (Some b) else known other) ≡ Some None → ⊥
    go true k = based_first (known other) b (g other) k
    go false k = g other k

some_first : (o : Option (Option Base)) (b : Option Base) → is_some (bound_first o b) ≡ true
some_first None b = refl
some_first (Some c) b = refl

-- a binding of a name that has one changes nothing
pub based_again : (name : Name) (b : Option Base) (known : Known) → is_some (known name) ≡ true → Based known → Based (bind name b known)
based_again name b known s g other h = go (bytes_eq other name) refl h
  where
    kept : (o : Option (Option Base)) → is_some o ≡ true → bound_first o b ≡ o
    kept None q = absurd (cc)
    kept (Some c) q = refl

    go : (e : Bool) → bytes_eq other name ≡ e → (if e then bound_first (known other) b else known other) ≡ Some None → ⊥
    go true e k = g other (sym (kept (known other) (ap (λ (x : Name). is_some (known x)) (same_name other name e) ∙ s)) ∙ k)
    go false e k = g other k

pub covered_bind : (name : Name) (b : Option Base) (bound : Names) (known : Known) → Covered bound known → Covered (with_names (name ∷ []) bound) (bind name b known)
covered_bind name b bound known c other h = go (bytes_eq other name) h
  where
    go : (e : Bool) → ((e || false) || bound other) ≡ true → is_some (if e then bound_first (known other) b else known other) ≡ true
    go true k = some_first (known other) b
    go false k = c other k

pub covered_later : (bound : Names) (known after : Known) → Covered bound known → Extends known after → Covered bound after
covered_later bound known after c l name h = go (known name) refl (c name h)
  where
    go : (o : Option (Option Base)) → known name ≡ o → is_some o ≡ true → is_some (after name) ≡ true
    go None e s = absurd (cc)
    go (Some b) e s = ap is_some (l name b e)

moved : (a l b : Bool) → ((a || l) || b) ≡ true → (l || ((a || false) || b)) ≡ true
moved true true b h = refl
moved true false b h = refl
moved false true b h = refl
moved false false b h = h

pub covered_targets : (ts : List Target) (bs : List (Option Base)) (bound : Names) (known : Known) → Covered bound known → Covered (with_names (target_names ts) bound) (in_targets ts bs known).known
covered_targets [] bs bound known c name h = c name h
covered_targets (t ∷ ts) bs bound known c name h =
    covered_targets ts (later_bases bs) (with_names (t.name ∷ []) bound) (bind t.name (first_base bs) known) (covered_bind t.name (first_base bs) bound known c) name
    (moved (bytes_eq name t.name) (list_any (bytes_eq name) (target_names ts)) (bound name) h)

pub covered_names : (ts : List Target) (bound : Names) (known : Known) → Covered bound known → Covered (with_names (target_names ts) bound) (in_index_names ts known).known
covered_names [] bound known c name h = c name h
covered_names (t ∷ ts) bound known c name h =
    covered_names ts (with_names (t.name ∷ []) bound) (bind t.name (Some Int) known) (covered_bind t.name (Some Int) bound known c) name
    (moved (bytes_eq name t.name) (list_any (bytes_eq name) (target_names ts)) (bound name) h)

pub covered_params : (ps : List Param) (bound : Names) (known : Known) → Covered bound known → Covered (with_names (param_names ps) bound) (known_params ps known)
covered_params [] bound known c name h = c name h
covered_params (p ∷ ps) bound known c name h =
    covered_params ps (with_names (p.name ∷ []) bound) (bind p.name (Some p.ty.base) known) (covered_bind p.name (Some p.ty.base) bound known c) name
    (moved (bytes_eq name p.name) (list_any (bytes_eq name) (param_names ps)) (bound name) h)

pub extends_targets : (ts : List Target) (bs : List (Option Base)) (known : Known) → Extends known (in_targets ts bs known).known
extends_targets [] bs known name c h = h
extends_targets (t ∷ ts) bs known name c h = extends_targets ts (later_bases bs) (bind t.name (first_base bs) known) name c (extends_bind t.name (first_base bs) known name c h)

pub extends_names : (ts : List Target) (known : Known) → Extends known (in_index_names ts known).known
extends_names [] known name c h = h
extends_names (t ∷ ts) known name c h = extends_names ts (bind t.name (Some Int) known) name c (extends_bind t.name (Some Int) known name c h)

pub extends_params : (ps : List Param) (known : Known) → Extends known (known_params ps known)
extends_params [] known name c h = h
extends_params (p ∷ ps) known name c h = extends_params ps (bind p.name (Some p.ty.base) known) name c (extends_bind p.name (Some p.ty.base) known name c h)

pub based_names : (ts : List Target) (known : Known) → Based known → Based (in_index_names ts known).known
based_names [] known g = g
based_names (t ∷ ts) known g = based_names ts (bind t.name (Some Int) known) (based_bind t.name Int known g)

pub based_params : (ps : List Param) (known : Known) → Based known → Based (known_params ps known)
based_params [] known g = g
based_params (p ∷ ps) known g = based_params ps (bind p.name (Some p.ty.base) known) (based_bind p.name p.ty.base known g)

abbrev pub somes : List Base → List (Option Base)
somes bs = map (λ b. Some b) bs

pub based_targets : (ts : List Target) (bs : List Base) (known : Known) → length ts ≡ length bs → Based known → Based (in_targets ts (somes bs) known).known
based_targets [] bs known n g = g
based_targets (t ∷ ts) [] known n g = absurd (cc)
based_targets (t ∷ ts) (b ∷ bs) known n g = based_targets ts bs (bind t.name (Some b) known) (omega (arith, n)) (based_bind t.name b known g)

-- ---- bases of names

abbrev pub name_bases : Bases → Name → Base
name_bases L name = or_int (base_of_name L name)

pub base_told : (L : Bases) (name : Name) → base_of_name L name ≡ base_of (told L) name
base_told L name = by (find (λ (k : Binding). bytes_eq k.name name) L)
  where
    by : (o : Option Binding) → base_bound o ≡ base_first (bound_to o)
    by None = refl
    by (Some k) = refl

pub name_is : (L : Bases) (known : Known) (name : Name) (b : Base) → Extends known (told L) → known name ≡ Some (Some b) → name_bases L name ≡ b
name_is L known name b l h = ap or_int (base_told L name ∙ ap base_first (l name (Some b) h))

bound_here : (name : Name) (b : Option Base) (known : Known) → bind name b known name ≡ bound_first (known name) b
bound_here name b known = ap (λ (e : Bool). if e then bound_first (known name) b else known name) (itself name)

first_is : (o : Option (Option Base)) (b : Base) → (o ≡ Some None → ⊥) → ((c : Base) → bound_first o (Some b) ≡ Some (Some c) → c ≡ b) → bound_first o (Some b) ≡ Some (Some b)
first_is None b g k = refl
first_is (Some None) b g k = absurd (g refl)
first_is (Some (Some c)) b g k = ap (λ (x : Base). Some (Some x)) (k c refl)

-- a name has the base that it is bound to, where that agrees with its first
pub bound_is : (name : Name) (b : Base) (known : Known) → Based known → may_match (base_of (bind name (Some b) known) name) (Some b) ≡ true → bind name (Some b) known name ≡ Some (Some b)
bound_is name b known g h =
    let here = bound_here name (Some b) known in
    here ∙ first_is (known name) b (g name) (λ c e. same c b (ap (λ (o : Option (Option Base)). may_match (base_first o) (Some b)) (sym (here ∙ e)) ∙ h))

pub bound_int : (name : Name) (known : Known) → Based known → may_be Int (base_of (bind name (Some Int) known) name) ≡ true → bind name (Some Int) known name ≡ Some (Some Int)
bound_int name known g h =
    let here = bound_here name (Some Int) known in
    here ∙ first_is (known name) Int (g name) (λ c e. sym (same Int c (ap (λ (o : Option (Option Base)). may_be Int (base_first o)) (sym (here ∙ e)) ∙ h)))

pub targets_typed : (ts : List Target) (bs : List Base) (known : Known) (L : Bases) → length ts ≡ length bs → Based known → (in_targets ts (somes bs) known).violations ≡ [] → Extends (in_targets ts (somes bs) known).known (told L) → TargetsTyped (name_bases L) ts bs
targets_typed [] [] known L n g h l = tt
targets_typed [] (b ∷ bs) known L n g h l = absurd (omega (arith, n))
targets_typed (t ∷ ts) [] known L n g h l = absurd (omega (arith, n))
targets_typed (t ∷ ts) (b ∷ bs) known L n g h l =
    let here = bind t.name (Some b) known in
    let r = nil2 (unless (may_match (base_of here t.name) (Some b)) C4 t.site) (in_targets ts (somes bs) here).violations h in (
      name_is L here t.name b (extends_more here (in_targets ts (somes bs) here).known (told L) (extends_targets ts (somes bs) here) l) (bound_is t.name b known g (holds (may_match (base_of here t.name) (Some b)) C4 t.site r.0)),
      targets_typed ts bs here L (omega (arith, n)) (based_bind t.name b known g) r.1 l,
    )

pub index_typed : (ts : List Target) (known : Known) (L : Bases) → Based known → (in_index_names ts known).violations ≡ [] → Extends (in_index_names ts known).known (told L) → IntTargets (name_bases L) ts
index_typed [] known L g h l = tt
index_typed (t ∷ ts) known L g h l =
    let here = bind t.name (Some Int) known in
    let r = nil2 (unless (may_be Int (base_of here t.name)) C4 t.site) (in_index_names ts here).violations h in (
      name_is L here t.name Int (extends_more here (in_index_names ts here).known (told L) (extends_names ts here) l) (bound_int t.name known g (holds (may_be Int (base_of here t.name)) C4 t.site r.0)),
      index_typed ts here L (based_bind t.name Int known g) r.1 l,
    )

not_false : (b : Bool) → not b ≡ true → b ≡ false
not_false true h = absurd (cc)
not_false false h = refl

neither : (a b : Bool) → ((a || false) || b) ≡ false → (a ≡ false) × (b ≡ false)
neither true b h = absurd (cc)
neither false b h = (refl, h)

-- names that are not met yet are not bound
abbrev Unmet : Names → Known → Type 0
Unmet met known = (name : Name) → met name ≡ false → known name ≡ None

unmet_bind : (name : Name) (b : Option Base) (met : Names) (known : Known) → Unmet met known → Unmet (with_names (name ∷ []) met) (bind name b known)
unmet_bind name b met known u other h =
    let q = neither (bytes_eq other name) (met other) h in
    ap (λ (e : Bool). if e then bound_first (known other) b else known other) q.0 ∙ u other q.1

pub params_typed : (ps : List Param) (met : Names) (known : Known) (L : Bases) → Unmet met known → repeated met (map (λ (p : Param). (p.name, p.site)) ps) ≡ [] → Extends (known_params ps known) (told L) → ParamsTyped (name_bases L) ps
params_typed [] met known L u h l = tt
params_typed (p ∷ ps) met known L u h l =
    let b = p.ty.base in
    let here = bind p.name (Some b) known in
    let r = nil2 (unless (not (met p.name)) C9 p.site) (repeated (with_names (p.name ∷ []) met) (map (λ (p : Param). (p.name, p.site)) ps)) h in
    let new = u p.name (not_false (met p.name) (holds (not (met p.name)) C9 p.site r.0)) in (
      name_is L here p.name b (extends_more here (known_params ps here) (told L) (extends_params ps here) l) (bound_here p.name (Some b) known ∙ ap (λ (o : Option (Option Base)). bound_first o (Some b)) new),
      params_typed ps (with_names (p.name ∷ []) met) here L (unmet_bind p.name (Some b) met known u) r.1 l,
    )
