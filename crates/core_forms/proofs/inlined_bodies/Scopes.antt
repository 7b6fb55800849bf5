-- Blocks with calls inlined stay scoped.
use Rattle.std.proofs.Common.{◌≡◌, ℕ, ◌+◌, ◌<◌, ◌≤◌, Bool, true, false, ◌||◌, eqb, List, [], ◌∷◌, ◌++◌, map, length, All, refl, sym, ap, ◌∙◌, arith, ◌⊎◌, inl, inr}
use Rattle.std.proofs.lemmas.Bool.{eqb-true, eq-eqb}
use Rattle.std.proofs.lemmas.List.{map-append}
use Rattle.sac_base.specs.declared.site.Site.{Site}
use Rattle.sac_base.specs.declared.types.ArrayType.{ArrayType}
use Rattle.core_ir.specs.declared.tree.Var.{Var}
use Rattle.core_ir.specs.Binders.{is_in, NoneIn, bound_in, bound_in_right, bound_in_gens, bound_in_parts}
use Rattle.core_ir.specs.Outcome.{param_types, param_vars}
use Rattle.core_ir.specs.Scopes.{AllIn, Scoped, ScopedRight, ScopedGens, ScopedParts}
use Rattle.core_ir.specs.Terms.{BlockTerm, RightTerm, GensTerm, PartsTerm, FunTerm, CoreTerm, Gives, Bind, chain}
use Rattle.core_ir.specs.Uses.{targets_of}
use Rattle.core_ir.specs.WellFormed.{Distinct, IsFunction}
use Rattle.core_ir.proofs.Variables.{in_more, or_false, all_more, or_right}
use Rattle.core_subst.specs.Names.{above_function}
use Rattle.core_subst.specs.copy.Mapped.{raised, mapped}
use Rattle.core_subst.proofs.copy.Renaming.{bound_mapped}
use Rattle.core_subst.proofs.copy.Within.{raised_apart}
use Rattle.core_forms.proofs.edits.Mapping.{block_scoped}
use Rattle.core_forms.proofs.edits.Wider.{block_wider, bound_new}
use Rattle.core_forms.specs.inlining.Inlined.{bindings, results, checks, inlined, CanInline}
use Rattle.core_forms.proofs.inlining.Bodies.{results_mapped}
use Rattle.core_forms.specs.declared.inlined_bodies.growth.Growth.{Growth}
use Rattle.core_forms.specs.inlined_bodies.Inlining.{BlockInlined, RightInlined, GensInlined, PartsInlined, ends, placed, kept, plain, left, branches, turns, generated, divided, no_gens, a_gen, no_parts, a_part}
use Rattle.core_forms.proofs.inlined_bodies.Counts.{rises, rises_right, rises_gens, rises_parts, mapped_length, trans}
use Rattle.core_forms.proofs.inlined_bodies.Names.{in_either, in_left, clash, not_in, none_by, none_at, distinct_left, distinct_right, Fresh, fresh_both, fresh_left, fresh_right, fresh_more, fresh_below, own_vars, own_fresh, raised_between}

-- ---- what the bindings of an inlined call have in scope

pub other_way : (m n : ℕ) → eqb m n ≡ false → eqb n m ≡ false
other_way m n h = go (eqb n m) refl
  where
    go : (t : Bool) → eqb n m ≡ t → eqb n m ≡ false
    go true e = clash (eqb m n) (eq-eqb m n (sym (eqb-true n m e))) h
    go false e = e

none_more : (t : Var) (ts scope : List Var) → is_in t ts ≡ false → NoneIn ts scope → NoneIn ts (t ∷ scope)
none_more t [] scope h n = tt
none_more t (u ∷ us) scope h n =
    let w = or_false (eqb u.0 t.0) (is_in t us) h in
    ((λ i. other_way u.0 t.0 w.0 i || n.0 i), none_more t us scope w.1 n.1)

-- the variables in scope after bindings: the targets, and those before
abbrev Widened : List Var → List Var → List Var → Type 0
Widened ts scope wider = (y : Var) → is_in y wider ≡ (is_in y ts || is_in y scope)

turned_or : (a b c : Bool) → (b || (a || c)) ≡ ((a || b) || c)
turned_or true true c = refl
turned_or true false c = refl
turned_or false true c = refl
turned_or false false c = refl

checks_scoped : (s : Site) (ts : List Var) (tys : List ArrayType) (zs : List Var) (rest : BlockTerm) (scope : List Var) → length ts ≡ length tys → length zs ≡ length tys → AllIn zs scope → NoneIn ts scope → Distinct ts
    → ((wider : List Var) → Widened ts scope wider → Scoped wider rest) → Scoped scope (chain (checks s ts tys zs) rest)
checks_scoped s [] [] [] rest scope p q a n d k = k scope (λ y. refl)
checks_scoped s (t ∷ ts) (ty ∷ tys) (z ∷ zs) rest scope p q a n d k = (
  (a.0, tt),
  (n.0, tt),
  checks_scoped s ts tys zs rest (t ∷ scope) (omega (arith, p)) (omega (arith, q)) (all_more zs (t ∷ []) scope a.1) (none_more t ts scope d.0 n.1) d.1
      (λ wider w. k wider (λ y. w y ∙ turned_or (eqb t.0 y.0) (is_in y ts) (is_in y scope))),
)
checks_scoped s [] (ty ∷ tys) zs rest scope p q a n d k = absurd (omega arith)
checks_scoped s (t ∷ ts) [] zs rest scope p q a n d k = absurd (omega arith)
checks_scoped s [] [] (z ∷ zs) rest scope p q a n d k = absurd (omega arith)
checks_scoped s (t ∷ ts) (ty ∷ tys) [] rest scope p q a n d k = absurd (omega arith)

turned_in : (y : Var) (xs zs scope : List Var) → (is_in y zs || is_in y (xs ++ scope)) ≡ (is_in y (xs ++ zs) || is_in y scope)
turned_in y xs zs scope = (λ i. is_in y zs || in_more y xs scope i) ∙ turned_or (is_in y xs) (is_in y zs) (is_in y scope) ∙ (λ i. sym (in_more y xs zs) i || is_in y scope)

bindings_scoped : (b rest : BlockTerm) (scope : List Var) → Scoped scope b → ((wider : List Var) → Widened (targets_of (bindings b)) scope wider → AllIn (results b) wider → Scoped wider rest) → Scoped scope (chain (bindings b) rest)
bindings_scoped (Gives xs) rest scope h k = k scope (λ y. refl) h
bindings_scoped (Bind xs s r b) rest scope h k =
    (h.0, h.1, bindings_scoped b rest (xs ++ scope) h.2 (λ wider w a. k wider (λ y. w y ∙ turned_in y xs (targets_of (bindings b)) scope) a))

targets_bound : (b : BlockTerm) (y : Var) → is_in y (targets_of (bindings b)) ≡ true → is_in y (bound_in b) ≡ true
targets_bound (Gives xs) y h = h
targets_bound (Bind xs s r b) y h = go (in_either y xs (targets_of (bindings b)) h) (λ k. targets_bound b y k)
  where
    go : (is_in y xs ≡ true) ⊎ (is_in y (targets_of (bindings b)) ≡ true) → (is_in y (targets_of (bindings b)) ≡ true → is_in y (bound_in b) ≡ true) → is_in y (xs ++ (bound_in_right r ++ bound_in b)) ≡ true
    go (inl p) rec = in_left y xs (bound_in_right r ++ bound_in b) p
    go (inr p) rec =
        in_more y xs (bound_in_right r ++ bound_in b) ∙ or_right (is_in y xs) (is_in y (bound_in_right r ++ bound_in b)) (in_more y (bound_in_right r) (bound_in b) ∙ or_right (is_in y (bound_in_right r)) (is_in y (bound_in b)) (rec p))

-- ---- numbers that are put in

module _ (f : FunTerm) (by : ℕ) where
  all_put : (y : Var) → is_in y (map (raised by) (own_vars f)) ≡ true → (by ≤ y.0) × (y.0 < by + above_function f)
  all_put y h = raised_between by (above_function f) (own_vars f) y (own_fresh f) h

  pub params_put : (y : Var) → is_in y (map (raised by) (param_vars f)) ≡ true → (by ≤ y.0) × (y.0 < by + above_function f)
  params_put y h = all_put y ((λ i. is_in y (map-append (raised by) (param_vars f) (bound_in f.body) i)) ∙ in_left y (map (raised by) (param_vars f)) (map (raised by) (bound_in f.body)) h)

  pub bound_put : (y : Var) → is_in y (bound_in (mapped (raised by) f.body)) ≡ true → (by ≤ y.0) × (y.0 < by + above_function f)
  bound_put y h =
      all_put y ((λ i. is_in y (map-append (raised by) (param_vars f) (bound_in f.body) i)) ∙ in_more y (map (raised by) (param_vars f)) (map (raised by) (bound_in f.body)) ∙ or_right (is_in y (map (raised by) (param_vars f))) (is_in y (map (raised by) (bound_in f.body))) ((λ i. is_in y (sym (bound_mapped (raised by) f.body) i)) ∙ h))

  pub targets_put : (y : Var) → is_in y (targets_of (bindings (mapped (raised by) f.body))) ≡ true → (by ≤ y.0) × (y.0 < by + above_function f)
  targets_put y h = bound_put y (targets_bound (mapped (raised by) f.body) y h)

not_both : (a y : ℕ) → a ≤ y → y < a → ⊥
not_both a y p q = omega arith

-- a number outside is in none of the lists
pub outside_low : (xs : List Var) (by a : ℕ) (y : Var) → ((y : Var) → is_in y xs ≡ true → (by ≤ y.0) × (y.0 < by + a)) → y.0 < by → is_in y xs ≡ false
outside_low xs by a y f l = not_in y xs (λ h. not_both by y.0 (f y h).0 l)

pub outside_high : (xs : List Var) (by a : ℕ) (y : Var) → ((y : Var) → is_in y xs ≡ true → (by ≤ y.0) × (y.0 < by + a)) → by + a ≤ y.0 → is_in y xs ≡ false
outside_high xs by a y f l = not_in y xs (λ h. not_both (by + a) y.0 l (f y h).1)

-- ---- an inlined call

module _ (f : FunTerm) (by : ℕ) (ts xs : List Var) (s : Site) (old rest : BlockTerm) (scope : List Var) (can : CanInline by f ts xs old) (once : Distinct (map (raised by) (param_vars f))) where
  abbrev P : List Var
  P = map (raised by) (param_vars f)

  abbrev T : List Var
  T = targets_of (bindings (mapped (raised by) f.body))

  -- all that is in scope behind it
  abbrev pub Behind : List Var → Type 0
  Behind wider = (y : Var) → is_in y wider ≡ (is_in y ts || (is_in y (targets_of (bindings (mapped (raised by) f.body))) || (is_in y (map (raised by) (param_vars f)) || is_in y scope)))

  in_three : (y : Var) → is_in y T ≡ false → is_in y P ≡ false → is_in y scope ≡ false → (is_in y T || (is_in y P || is_in y scope)) ≡ false
  in_three y p q r = λ i. p i || (q i || r i)

  pub call_scoped : Fresh scope by → Fresh ts by → Distinct ts → AllIn xs scope → NoneIn ts scope → ((wider : List Var) → Behind wider → Scoped wider rest) → Scoped scope (inlined by f ts s xs rest)
  call_scoped fresh low distinct args new k =
      checks_scoped s P (param_types f) xs (chain (bindings (mapped (raised by) f.body)) (chain (checks f.ends ts f.results (results (mapped (raised by) f.body))) rest)) scope
      (mapped_length (raised by) (param_vars f) ∙ mapped_length (λ (p : Var × ArrayType). p.0) f.params ∙ sym (mapped_length (λ (p : Var × ArrayType). p.1) f.params))
      (can.takes ∙ sym (mapped_length (λ (p : Var × ArrayType). p.1) f.params)) args (none_by P scope (λ y h. fresh y (params_put f by y h).0)) once
      (λ first w. bindings_scoped (mapped (raised by) f.body) (chain (checks f.ends ts f.results (results (mapped (raised by) f.body))) rest) first (inner first w)
      (λ second v given. checks_scoped f.ends ts f.results (results (mapped (raised by) f.body)) rest second can.gives
      (ap length (results_mapped (raised by) f.body) ∙ mapped_length (raised by) (results f.body) ∙ can.ends) given
      (none_by ts second (λ y h. let l = fresh_below ts by y low h in v y ∙ (λ i. is_in y T || w y i) ∙ in_three y (outside_low T by (above_function f) y (targets_put f by) l) (outside_low P by (above_function f) y (params_put f by) l) (none_at y ts scope new h)))
      distinct (λ third u. k third (λ y. u y ∙ (λ i. is_in y ts || (v y ∙ (λ j. is_in y T || w y j)) i)))))
    where
      inner : (first : List Var) → Widened P scope first → Scoped first (mapped (raised by) f.body)
      inner first w =
          let own = block_scoped (raised by) (raised_apart by) f.body (param_vars f) can.scoped in
          block_wider (mapped (raised by) f.body) P first (λ y h. w y ∙ (λ i. h i || is_in y scope))
          (none_by (bound_in (mapped (raised by) f.body)) first (λ y h. w y ∙ (λ i. none_at y (bound_in (mapped (raised by) f.body)) P (bound_new (mapped (raised by) f.body) P own) h i || fresh y (bound_put f by y h).0 i))) own

-- ---- the whole

module _ (core : CoreTerm) (well : All (IsFunction core) core.functions) where
  raised_once : (f : FunTerm) (by : ℕ) → Distinct (own_vars f) → Distinct (map (raised by) (param_vars f))
  raised_once f by d = Rattle.core_forms.proofs.edits.Mapping.distinct_mapped (raised by) (raised_apart by) (param_vars f) (distinct_left (param_vars f) (bound_in f.body) d)

  mutual
    pub scoped : {s t : Growth} {b c : BlockTerm} → BlockInlined core CanInline s b c t → (scope : List Var) → Fresh scope s.above → Fresh (bound_in b) s.above → Distinct (bound_in b) → Scoped scope b → Scoped scope c
    scoped ends scope fs fb d h = h
    scoped (placed {s = s} {place = place} {f = f} {ts = ts} {xs = xs} {site = site} {rest = rest} {new = new} i fits can e) scope fs fb d h =
        let by = s.above in
        let a = above_function f in
        let P = map (raised by) (param_vars f) in
        let T = targets_of (bindings (mapped (raised by) f.body)) in
        let is = Rattle.core_forms.proofs.inlined_bodies.Counts.all_at (IsFunction core) core.functions place f well i.found in
        let low : Fresh ts by = fresh_left ts (bound_in rest) by fb in
        let inner : Fresh (bound_in rest) by = fresh_right ts (bound_in rest) by fb in
        let more : by ≤ by + a = omega arith in
        call_scoped f by ts xs site rest new scope can (raised_once f by is.once) fs low (distinct_left ts (bound_in rest) d) h.0 h.1
        (λ wider w. scoped e wider
        (λ y l. w y ∙ (λ j. low y (trans by (by + a) y.0 more l) j || (outside_high T by a y (targets_put f by) l j || (outside_high P by a y (params_put f by) l j || fs y (trans by (by + a) y.0 more l) j))))
        (fresh_more (bound_in rest) by (by + a) more inner)
        (distinct_right ts (bound_in rest) d)
        (block_wider rest (ts ++ scope) wider (λ y p. w y ∙ wide (is_in y ts) (is_in y T) (is_in y P) (is_in y scope) (sym (in_more y ts scope) ∙ p))
        (none_by (bound_in rest) wider (λ y p.
        let l = fresh_below (bound_in rest) by y inner p in
        let q = or_false (is_in y ts) (is_in y scope) (sym (in_more y ts scope) ∙ none_at y (bound_in rest) (ts ++ scope) (bound_new rest (ts ++ scope) h.2) p) in
        w y ∙ (λ j. q.0 j || (outside_low T by a y (targets_put f by) l j || (outside_low P by a y (params_put f by) l j || q.1 j)))))
        h.2))
      where
        wide : (a b c d : Bool) → (a || d) ≡ true → (a || (b || (c || d))) ≡ true
        wide true b c d p = refl
        wide false true c d p = refl
        wide false false true d p = refl
        wide false false false d p = p
    scoped (kept {s = s} {m = m} {xs = xs} {r = r} {rest = rest} e k) scope fs fb d h =
        let low = fresh_left xs (bound_in_right r ++ bound_in rest) s.above fb in
        let inner = fresh_right xs (bound_in_right r ++ bound_in rest) s.above fb in
        let l = (rises_right core CanInline e).above in
        let dr = distinct_right xs (bound_in_right r ++ bound_in rest) d in (
          scoped_right e scope fs (fresh_left (bound_in_right r) (bound_in rest) s.above inner) (distinct_left (bound_in_right r) (bound_in rest) dr) h.0,
          h.1,
          scoped k (xs ++ scope) (fresh_more (xs ++ scope) s.above m.above l (fresh_both xs scope s.above low fs)) (fresh_more (bound_in rest) s.above m.above l (fresh_right (bound_in_right r) (bound_in rest) s.above inner)) (distinct_right (bound_in_right r) (bound_in rest) dr) h.2,
        )

    pub scoped_right : {s t : Growth} {b c : RightTerm} → RightInlined core CanInline s b c t → (scope : List Var) → Fresh scope s.above → Fresh (bound_in_right b) s.above → Distinct (bound_in_right b) → ScopedRight scope b → ScopedRight scope c
    scoped_right plain scope fs fb d h = h
    scoped_right (left l) scope fs fb d h = h
    scoped_right (branches {s = s} {m = m} {a = a} {b = b} e k) scope fs fb d h =
        let l = (rises core CanInline e).above in (
          h.0,
          scoped e scope fs (fresh_left (bound_in a) (bound_in b) s.above fb) (distinct_left (bound_in a) (bound_in b) d) h.1,
          scoped k scope (fresh_more scope s.above m.above l fs) (fresh_more (bound_in b) s.above m.above l (fresh_right (bound_in a) (bound_in b) s.above fb)) (distinct_right (bound_in a) (bound_in b) d) h.2,
        )
    scoped_right (turns {s = s} {m = m} {params = params} {a = a} {b = b} e k) scope fs fb d h =
        let l = (rises core CanInline e).above in
        let sc = fresh_both params scope s.above (fresh_left params (bound_in a ++ bound_in b) s.above fb) fs in
        let inner = fresh_right params (bound_in a ++ bound_in b) s.above fb in
        let dr = distinct_right params (bound_in a ++ bound_in b) d in (
          h.0,
          h.1,
          scoped e (params ++ scope) sc (fresh_left (bound_in a) (bound_in b) s.above inner) (distinct_left (bound_in a) (bound_in b) dr) h.2,
          scoped k (params ++ scope) (fresh_more (params ++ scope) s.above m.above l sc) (fresh_more (bound_in b) s.above m.above l (fresh_right (bound_in a) (bound_in b) s.above inner)) (distinct_right (bound_in a) (bound_in b) dr) h.3,
        )
    scoped_right (generated e) scope fs fb d h = (h.0, scoped_gens e scope fs fb d h.1)
    scoped_right (divided e) scope fs fb d h = (h.0, scoped_parts e scope fs fb d h.1)

    scoped_gens : {s t : Growth} {b c : GensTerm} → GensInlined core CanInline s b c t → (scope : List Var) → Fresh scope s.above → Fresh (bound_in_gens b) s.above → Distinct (bound_in_gens b) → ScopedGens scope b → ScopedGens scope c
    scoped_gens no_gens scope fs fb d h = h
    scoped_gens (a_gen {s = s} {m = m} {h = v} {b = b} {g = g} e k) scope fs fb d h =
        let xs = v.index ∷ v.names in
        let l = (rises core CanInline e).above in
        let inner = fresh_right xs (bound_in b ++ bound_in_gens g) s.above fb in
        let dr = distinct_right xs (bound_in b ++ bound_in_gens g) d in (
          h.0,
          h.1,
          scoped e (xs ++ scope) (fresh_both xs scope s.above (fresh_left xs (bound_in b ++ bound_in_gens g) s.above fb) fs) (fresh_left (bound_in b) (bound_in_gens g) s.above inner) (distinct_left (bound_in b) (bound_in_gens g) dr) h.2,
          scoped_gens k scope (fresh_more scope s.above m.above l fs) (fresh_more (bound_in_gens g) s.above m.above l (fresh_right (bound_in b) (bound_in_gens g) s.above inner)) (distinct_right (bound_in b) (bound_in_gens g) dr) h.3,
        )

    scoped_parts : {s t : Growth} {b c : PartsTerm} → PartsInlined core CanInline s b c t → (scope : List Var) → Fresh scope s.above → Fresh (bound_in_parts b) s.above → Distinct (bound_in_parts b) → ScopedParts scope b → ScopedParts scope c
    scoped_parts no_parts scope fs fb d h = h
    scoped_parts (a_part {s = s} {m = m} {h = v} {b = b} {p = g} e k) scope fs fb d h =
        let xs = v.index ∷ [] in
        let l = (rises core CanInline e).above in
        let inner = fresh_right xs (bound_in b ++ bound_in_parts g) s.above fb in
        let dr = distinct_right xs (bound_in b ++ bound_in_parts g) d in (
          h.0,
          scoped e (xs ++ scope) (fresh_both xs scope s.above (fresh_left xs (bound_in b ++ bound_in_parts g) s.above fb) fs) (fresh_left (bound_in b) (bound_in_parts g) s.above inner) (distinct_left (bound_in b) (bound_in_parts g) dr) h.1,
          scoped_parts k scope (fresh_more scope s.above m.above l fs) (fresh_more (bound_in_parts g) s.above m.above l (fresh_right (bound_in b) (bound_in_parts g) s.above inner)) (distinct_right (bound_in b) (bound_in_parts g) dr) h.2,
        )
