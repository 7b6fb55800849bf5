-- Each variable is bound once after calls are inlined.
use Rattle.std.proofs.Common.{◌≡◌, ℕ, suc, ◌+◌, ◌-◌, ◌<◌, ◌≤◌, Bool, true, false, ◌||◌, eqb, List, [], ◌∷◌, ◌++◌, map, length, All, refl, sym, ap, subst, ◌∙◌, append_assoc, arith, ◌⊎◌, inl, inr}
use Rattle.std.specs.Prelude.{max}
use Rattle.std.proofs.lemmas.Bool.{eqb-true, eq-eqb, cases_lt}
use Rattle.std.proofs.lemmas.List.{map-append}
use Rattle.sac_base.specs.declared.site.Site.{Site}
use Rattle.sac_base.specs.declared.types.ArrayType.{ArrayType}
use Rattle.core_ir.specs.declared.tree.Var.{Var}
use Rattle.core_ir.specs.Binders.{is_in, NoneIn, bound_in, bound_in_right, bound_in_gens, bound_in_parts}
use Rattle.core_ir.specs.Outcome.{param_types, param_vars}
use Rattle.core_ir.specs.Terms.{BlockTerm, RightTerm, GensTerm, PartsTerm, FunTerm, CoreTerm, Gives, Bind, chain}
use Rattle.core_ir.specs.WellFormed.{Distinct, IsFunction}
use Rattle.core_ir.proofs.Variables.{in_more, or_false}
use Rattle.core_subst.specs.Names.{above, above_all, above_function, variable}
use Rattle.core_subst.proofs.Above.{block_new}
use Rattle.core_subst.specs.copy.Mapped.{raised, mapped}
use Rattle.core_subst.proofs.copy.Renaming.{bound_mapped}
use Rattle.core_subst.proofs.copy.Within.{raised_apart}
use Rattle.core_forms.proofs.edits.Mapping.{distinct_mapped}
use Rattle.core_forms.specs.inlining.Inlined.{bindings, results, checks, inlined, CanInline}
use Rattle.core_forms.proofs.inlining.Bodies.{results_mapped}
use Rattle.core_forms.specs.declared.inlined_bodies.growth.Growth.{Growth}
use Rattle.core_forms.specs.inlined_bodies.Inlining.{BlockInlined, RightInlined, GensInlined, PartsInlined, ends, placed, kept, plain, left, branches, turns, generated, divided, no_gens, a_gen, no_parts, a_part}
use Rattle.core_forms.proofs.inlined_bodies.Counts.{rises, rises_right, rises_gens, rises_parts, mapped_length, all_at, trans}

-- ---- members of lists

pub in_either : (y : Var) (xs zs : List Var) → is_in y (xs ++ zs) ≡ true → (is_in y xs ≡ true) ⊎ (is_in y zs ≡ true)
in_either y xs zs h = go (is_in y xs) refl
  where
    go : (t : Bool) → is_in y xs ≡ t → (is_in y xs ≡ true) ⊎ (is_in y zs ≡ true)
    go true e = inl e
    go false e = inr (sym (λ i. e i || is_in y zs) ∙ sym (in_more y xs zs) ∙ h)

pub in_none : (y : Var) (xs zs : List Var) → is_in y xs ≡ false → is_in y zs ≡ false → is_in y (xs ++ zs) ≡ false
in_none y xs zs p q = in_more y xs zs ∙ (λ i. p i || q i)

pub in_left : (y : Var) (xs zs : List Var) → is_in y xs ≡ true → is_in y (xs ++ zs) ≡ true
in_left y xs zs p = in_more y xs zs ∙ (λ i. p i || is_in y zs)

pub itself : (x : Var) (xs : List Var) → is_in x (x ∷ xs) ≡ true
itself x xs = λ i. eq-eqb x.0 x.0 refl i || is_in x xs

pub behind_first : (y x : Var) (xs : List Var) → is_in y xs ≡ true → is_in y (x ∷ xs) ≡ true
behind_first y x xs p = go (eqb x.0 y.0)
  where
    go : (t : Bool) → (t || is_in y xs) ≡ true
    go true = refl
    go false = p

pub clash : {A : Type 0} (b : Bool) → b ≡ true → b ≡ false → A
clash b p q = absurd (let r = sym p ∙ q in cc)

-- what is in no list is not in the one
pub not_in : (y : Var) (xs : List Var) → (is_in y xs ≡ true → ⊥) → is_in y xs ≡ false
not_in y xs f = go (is_in y xs) refl
  where
    go : (t : Bool) → is_in y xs ≡ t → is_in y xs ≡ false
    go true e = absurd (f e)
    go false e = e

pub none_by : (xs zs : List Var) → ((y : Var) → is_in y xs ≡ true → is_in y zs ≡ false) → NoneIn xs zs
none_by [] zs f = tt
none_by (x ∷ xs) zs f = (f x (itself x xs), none_by xs zs (λ y h. f y (behind_first y x xs h)))

pub none_at : (y : Var) (xs zs : List Var) → NoneIn xs zs → is_in y xs ≡ true → is_in y zs ≡ false
none_at y [] zs n h = clash false h refl
none_at y (x ∷ xs) zs n h = go (eqb x.0 y.0) refl (λ k. none_at y xs zs n.1 k)
  where
    go : (t : Bool) → eqb x.0 y.0 ≡ t → (is_in y xs ≡ true → is_in y zs ≡ false) → is_in y zs ≡ false
    go true e rec = (λ i. is_in (record { 0 = sym (eqb-true x.0 y.0 e) i }) zs) ∙ n.0
    go false e rec = rec (sym (λ i. e i || is_in y xs) ∙ h)

pub distinct_both : (xs zs : List Var) → Distinct xs → Distinct zs → ((y : Var) → is_in y xs ≡ true → is_in y zs ≡ false) → Distinct (xs ++ zs)
distinct_both [] zs p q f = q
distinct_both (x ∷ xs) zs p q f = (in_none x xs zs p.0 (f x (itself x xs)), distinct_both xs zs p.1 q (λ y h. f y (behind_first y x xs h)))

pub distinct_left : (xs zs : List Var) → Distinct (xs ++ zs) → Distinct xs
distinct_left [] zs h = tt
distinct_left (x ∷ xs) zs h = ((or_false (is_in x xs) (is_in x zs) (sym (in_more x xs zs) ∙ h.0)).0, distinct_left xs zs h.1)

pub distinct_right : (xs zs : List Var) → Distinct (xs ++ zs) → Distinct zs
distinct_right [] zs h = h
distinct_right (x ∷ xs) zs h = distinct_right xs zs h.1

pub distinct_apart : (xs zs : List Var) → Distinct (xs ++ zs) → (y : Var) → is_in y xs ≡ true → is_in y zs ≡ false
distinct_apart [] zs h y p = clash false p refl
distinct_apart (x ∷ xs) zs h y p = go (eqb x.0 y.0) refl (λ k. distinct_apart xs zs h.1 y k)
  where
    go : (t : Bool) → eqb x.0 y.0 ≡ t → (is_in y xs ≡ true → is_in y zs ≡ false) → is_in y zs ≡ false
    go true e rec = (λ i. is_in (record { 0 = sym (eqb-true x.0 y.0 e) i }) zs) ∙ (or_false (is_in x xs) (is_in x zs) (sym (in_more x xs zs) ∙ h.0)).1
    go false e rec = rec (sym (λ i. e i || is_in y xs) ∙ p)

-- ---- lists that grow by numbers between two bounds

-- no number from the bound on is in the list
abbrev pub Fresh : List Var → ℕ → Type 0
Fresh xs a = (y : Var) → a ≤ y.0 → is_in y xs ≡ false

pub fresh_both : (xs zs : List Var) (a : ℕ) → Fresh xs a → Fresh zs a → Fresh (xs ++ zs) a
fresh_both xs zs a p q y l = in_none y xs zs (p y l) (q y l)

pub fresh_left : (xs zs : List Var) (a : ℕ) → Fresh (xs ++ zs) a → Fresh xs a
fresh_left xs zs a p y l = (or_false (is_in y xs) (is_in y zs) (sym (in_more y xs zs) ∙ p y l)).0

pub fresh_right : (xs zs : List Var) (a : ℕ) → Fresh (xs ++ zs) a → Fresh zs a
fresh_right xs zs a p y l = (or_false (is_in y xs) (is_in y zs) (sym (in_more y xs zs) ∙ p y l)).1

pub fresh_more : (xs : List Var) (a m : ℕ) → a ≤ m → Fresh xs a → Fresh xs m
fresh_more xs a m l p y k = p y (trans a m y.0 l k)

-- a member is below the bound
pub fresh_below : (xs : List Var) (a : ℕ) (y : Var) → Fresh xs a → is_in y xs ≡ true → y.0 < a
fresh_below xs a y f h = go (cases_lt y.0 a)
  where
    go : (y.0 < a) ⊎ (a ≤ y.0) → y.0 < a
    go (inl p) = p
    go (inr p) = clash (is_in y xs) h (f y p)

apart_numbers : (a m y : ℕ) → y < a → m ≤ y → a ≤ m → ⊥
apart_numbers a m y p q r = omega arith

pub record Names (old new : List Var) (a t : ℕ) : Type 0 where
  pub within : (y : Var) → is_in y new ≡ true → (is_in y old ≡ true) ⊎ ((a ≤ y.0) × (y.0 < t))
  pub once : Distinct old → Fresh old a → Distinct new

pub same : (xs : List Var) (a t : ℕ) → Names xs xs a t
same xs a t = record { within = λ y h. inl h; once = λ d f. d }

below_more : (y m t : ℕ) → y < m → m ≤ t → y < t
below_more y m t p q = omega arith

pub both : (xs zs xs' zs' : List Var) (a m t : ℕ) → a ≤ m → m ≤ t → Names xs xs' a m → Names zs zs' m t → Names (xs ++ zs) (xs' ++ zs') a t
both xs zs xs' zs' a m t am mt p q = record { within = whole; once = λ d f. distinct_both xs' zs' (p.once (distinct_left xs zs d) (fresh_left xs zs a f)) (q.once (distinct_right xs zs d) (fresh_more zs a m am (fresh_right xs zs a f))) (apart d f) }
  where
    in_right : (y : Var) → is_in y zs ≡ true → is_in y (xs ++ zs) ≡ true
    in_right y h = in_more y xs zs ∙ Rattle.core_ir.proofs.Variables.or_right (is_in y xs) (is_in y zs) h

    front : (y : Var) → (is_in y xs ≡ true) ⊎ ((a ≤ y.0) × (y.0 < m)) → (is_in y (xs ++ zs) ≡ true) ⊎ ((a ≤ y.0) × (y.0 < t))
    front y (inl o) = inl (in_left y xs zs o)
    front y (inr n) = inr (n.0, below_more y.0 m t n.1 mt)

    back : (y : Var) → (is_in y zs ≡ true) ⊎ ((m ≤ y.0) × (y.0 < t)) → (is_in y (xs ++ zs) ≡ true) ⊎ ((a ≤ y.0) × (y.0 < t))
    back y (inl o) = inl (in_right y o)
    back y (inr n) = inr (trans a m y.0 am n.0, n.1)

    parts : (y : Var) → (is_in y xs' ≡ true) ⊎ (is_in y zs' ≡ true) → (is_in y (xs ++ zs) ≡ true) ⊎ ((a ≤ y.0) × (y.0 < t))
    parts y (inl h) = front y (p.within y h)
    parts y (inr h) = back y (q.within y h)

    whole : (y : Var) → is_in y (xs' ++ zs') ≡ true → (is_in y (xs ++ zs) ≡ true) ⊎ ((a ≤ y.0) × (y.0 < t))
    whole y h = parts y (in_either y xs' zs' h)

    apart : Distinct (xs ++ zs) → Fresh (xs ++ zs) a → (y : Var) → is_in y xs' ≡ true → is_in y zs' ≡ false
    apart d f y h = not_in y zs' (λ k. cases (p.within y h) (q.within y k))
      where
        cases : (is_in y xs ≡ true) ⊎ ((a ≤ y.0) × (y.0 < m)) → (is_in y zs ≡ true) ⊎ ((m ≤ y.0) × (y.0 < t)) → ⊥
        cases (inl o) (inl w) = clash (is_in y zs) w (distinct_apart xs zs d y o)
        cases (inl o) (inr w) = clash (is_in y xs) o (fresh_left xs zs a f y (trans a m y.0 am w.0))
        cases (inr o) (inl w) = clash (is_in y zs) w (fresh_right xs zs a f y o.0)
        cases (inr o) (inr w) = apart_numbers m m y.0 o.1 w.0 (omega arith)

-- ---- raised variables

shifted : (z y n : ℕ) → z + n ≡ y → (n ≤ y) × (z ≡ y - n)
shifted z y n e = (omega arith, omega arith)

pub range : (n : ℕ) (zs : List Var) (y : Var) → is_in y (map (raised n) zs) ≡ true → (n ≤ y.0) × (is_in (variable (y.0 - n)) zs ≡ true)
range n [] y h = clash false h refl
range n (z ∷ zs) y h = go (eqb (z.0 + n) y.0) refl (λ k. range n zs y k)
  where
    go : (t : Bool) → eqb (z.0 + n) y.0 ≡ t → (is_in y (map (raised n) zs) ≡ true → (n ≤ y.0) × (is_in (variable (y.0 - n)) zs ≡ true)) → (n ≤ y.0) × (is_in (variable (y.0 - n)) (z ∷ zs) ≡ true)
    go true e rec = let w = shifted z.0 y.0 n (eqb-true (z.0 + n) y.0 e) in (w.0, (λ i. eq-eqb z.0 (y.0 - n) w.1 i || is_in (variable (y.0 - n)) zs))
    go false e rec = let w = rec (sym (λ i. e i || is_in y (map (raised n) zs)) ∙ h) in (w.0, behind_first (variable (y.0 - n)) z zs w.1)

back_to : (y n a : ℕ) → n ≤ y → y - n < a → y < n + a
back_to y n a p q = omega arith

-- raised variables lie between the two bounds
pub raised_between : (n a : ℕ) (zs : List Var) (y : Var) → Fresh zs a → is_in y (map (raised n) zs) ≡ true → (n ≤ y.0) × (y.0 < n + a)
raised_between n a zs y f h = let w = range n zs y h in (w.0, back_to y.0 n a w.0 (fresh_below zs a (variable (y.0 - n)) f w.1))

pub news : (n a : ℕ) (zs : List Var) → Distinct zs → Fresh zs a → Names [] (map (raised n) zs) n (n + a)
news n a zs d f = record { within = λ y h. inr (raised_between n a zs y f h); once = λ e g. distinct_mapped (raised n) (raised_apart n) zs d }

-- ---- what the bindings of an inlined call bind

pub bound_checks : (s : Site) (ts : List Var) (tys : List ArrayType) (zs : List Var) (rest : BlockTerm) → length ts ≡ length tys → length zs ≡ length tys → bound_in (chain (checks s ts tys zs) rest) ≡ ts ++ bound_in rest
bound_checks s [] [] [] rest p q = refl
bound_checks s (t ∷ ts) (ty ∷ tys) (z ∷ zs) rest p q = ap (λ (ys : List Var). t ∷ ys) (bound_checks s ts tys zs rest (omega (arith, p)) (omega (arith, q)))
bound_checks s [] (ty ∷ tys) zs rest p q = absurd (omega arith)
bound_checks s (t ∷ ts) [] zs rest p q = absurd (omega arith)
bound_checks s [] [] (z ∷ zs) rest p q = absurd (omega arith)
bound_checks s (t ∷ ts) (ty ∷ tys) [] rest p q = absurd (omega arith)

pub bound_bindings : (b rest : BlockTerm) → bound_in (chain (bindings b) rest) ≡ bound_in b ++ bound_in rest
bound_bindings (Gives xs) rest = refl
bound_bindings (Bind xs s r b) rest =
    (λ i. xs ++ (bound_in_right r ++ bound_bindings b rest i))
    ∙ (λ i. xs ++ sym (append_assoc (bound_in_right r) (bound_in b) (bound_in rest)) i)
    ∙ sym (append_assoc xs (bound_in_right r ++ bound_in b) (bound_in rest))

-- the variables of a function
abbrev pub own_vars : FunTerm → List Var
own_vars f = param_vars f ++ bound_in f.body

pub bound_inlined : (by : ℕ) (f : FunTerm) (ts xs : List Var) (s : Site) (old rest : BlockTerm) → CanInline by f ts xs old → bound_in (inlined by f ts s xs rest) ≡ map (raised by) (own_vars f) ++ (ts ++ bound_in rest)
bound_inlined by f ts xs s old rest can =
    let body = mapped (raised by) f.body in
    let P = map (raised by) (param_vars f) in
    let end = chain (checks f.ends ts f.results (results body)) rest in
    bound_checks s P (param_types f) xs (chain (bindings body) end) (mapped_length (raised by) (param_vars f) ∙ mapped_length (λ (p : Var × ArrayType). p.0) f.params ∙ sym (mapped_length (λ (p : Var × ArrayType). p.1) f.params)) (can.takes ∙ sym (mapped_length (λ (p : Var × ArrayType). p.1) f.params))
    ∙ (λ i. P ++ bound_bindings body end i)
    ∙ (λ i. P ++ (bound_mapped (raised by) f.body i ++ bound_checks f.ends ts f.results (results body) rest can.gives (ap length (results_mapped (raised by) f.body) ∙ mapped_length (raised by) (results f.body) ∙ can.ends) i))
    ∙ sym (append_assoc P (map (raised by) (bound_in f.body)) (ts ++ bound_in rest))
    ∙ (λ i. sym (map-append (raised by) (param_vars f) (bound_in f.body)) i ++ (ts ++ bound_in rest))

pub own_fresh : (f : FunTerm) → Fresh (own_vars f) (above_function f)
own_fresh f y l = in_none y (param_vars f) (bound_in f.body) (params_fresh (param_vars f) (max_left (above_all (param_vars f)) (above f.body) y.0 l)) (block_new f.body y.0 (max_right (above_all (param_vars f)) (above f.body) y.0 l)).1
  where
    max_left : (a b n : ℕ) → max a b ≤ n → a ≤ n
    max_left a b n h = omega arith

    max_right : (a b n : ℕ) → max a b ≤ n → b ≤ n
    max_right a b n h = omega arith

    params_fresh : (xs : List Var) → above_all xs ≤ y.0 → is_in y xs ≡ false
    params_fresh [] h = refl
    params_fresh (x ∷ xs) h = λ i. other x.0 (max_left (suc x.0) (above_all xs) y.0 h) i || params_fresh xs (max_right (suc x.0) (above_all xs) y.0 h) i
      where
        other : (n : ℕ) → suc n ≤ y.0 → eqb n y.0 ≡ false
        other n h = go (eqb n y.0) refl
          where
            go : (t : Bool) → eqb n y.0 ≡ t → eqb n y.0 ≡ false
            go true e = absurd (let p = eqb-true n y.0 e in omega arith)
            go false e = e

module _ (core : CoreTerm) (well : All (IsFunction core) core.functions) where
  mutual
    pub names : {s t : Growth} {b c : BlockTerm} → BlockInlined core CanInline s b c t → Names (bound_in b) (bound_in c) s.above t.above
    names (ends {s = s}) = same [] s.above s.above
    names (placed {s = s} {t = t} {place = place} {f = f} {ts = ts} {xs = xs} {site = site} {rest = rest} {new = new} i fits can d) =
        let m = s.above + above_function f in
        let is = all_at (IsFunction core) core.functions place f well i.found in
        subst (λ (ys : List Var). Names (ts ++ bound_in rest) ys s.above t.above) (sym (bound_inlined s.above f ts xs site rest new can))
        (both [] (ts ++ bound_in rest) (map (raised s.above) (own_vars f)) (ts ++ bound_in new) s.above m t.above (omega arith) (rises core CanInline d).above
        (news s.above (above_function f) (own_vars f) is.once (own_fresh f))
        (both ts (bound_in rest) ts (bound_in new) m m t.above (omega arith) (rises core CanInline d).above (same ts m m) (names d)))
    names (kept {s = s} {m = m} {t = t} {xs = xs} {r = r} {q = q} {rest = rest} {new = new} d e) =
        both xs (bound_in_right r ++ bound_in rest) xs (bound_in_right q ++ bound_in new) s.above s.above t.above (omega arith) (trans s.above m.above t.above (rises_right core CanInline d).above (rises core CanInline e).above) (same xs s.above s.above)
        (both (bound_in_right r) (bound_in rest) (bound_in_right q) (bound_in new) s.above m.above t.above (rises_right core CanInline d).above (rises core CanInline e).above (names_right d) (names e))

    pub names_right : {s t : Growth} {b c : RightTerm} → RightInlined core CanInline s b c t → Names (bound_in_right b) (bound_in_right c) s.above t.above
    names_right (plain {s = s}) = same [] s.above s.above
    names_right (left {s = s} l) = same [] s.above s.above
    names_right (branches {s = s} {m = m} {t = t} {a = a} {b = b} {c = c} {d = z} d e) =
        both (bound_in a) (bound_in b) (bound_in c) (bound_in z) s.above m.above t.above (rises core CanInline d).above (rises core CanInline e).above (names d) (names e)
    names_right (turns {s = s} {m = m} {t = t} {params = params} {a = a} {b = b} {c = c} {d = z} d e) =
        both params (bound_in a ++ bound_in b) params (bound_in c ++ bound_in z) s.above s.above t.above (omega arith) (trans s.above m.above t.above (rises core CanInline d).above (rises core CanInline e).above) (same params s.above s.above)
        (both (bound_in a) (bound_in b) (bound_in c) (bound_in z) s.above m.above t.above (rises core CanInline d).above (rises core CanInline e).above (names d) (names e))
    names_right (generated d) = names_gens d
    names_right (divided d) = names_parts d

    names_gens : {s t : Growth} {b c : GensTerm} → GensInlined core CanInline s b c t → Names (bound_in_gens b) (bound_in_gens c) s.above t.above
    names_gens (no_gens {s = s}) = same [] s.above s.above
    names_gens (a_gen {s = s} {m = m} {t = t} {h = h} {b = b} {c = c} {g = g} {k = k} d e) =
        both (h.index ∷ h.names) (bound_in b ++ bound_in_gens g) (h.index ∷ h.names) (bound_in c ++ bound_in_gens k) s.above s.above t.above (omega arith) (trans s.above m.above t.above (rises core CanInline d).above (rises_gens core CanInline e).above) (same (h.index ∷ h.names) s.above s.above)
        (both (bound_in b) (bound_in_gens g) (bound_in c) (bound_in_gens k) s.above m.above t.above (rises core CanInline d).above (rises_gens core CanInline e).above (names d) (names_gens e))

    names_parts : {s t : Growth} {b c : PartsTerm} → PartsInlined core CanInline s b c t → Names (bound_in_parts b) (bound_in_parts c) s.above t.above
    names_parts (no_parts {s = s}) = same [] s.above s.above
    names_parts (a_part {s = s} {m = m} {t = t} {h = h} {b = b} {c = c} {p = p} {q = q} d e) =
        both (h.index ∷ []) (bound_in b ++ bound_in_parts p) (h.index ∷ []) (bound_in c ++ bound_in_parts q) s.above s.above t.above (omega arith) (trans s.above m.above t.above (rises core CanInline d).above (rises_parts core CanInline e).above) (same (h.index ∷ []) s.above s.above)
        (both (bound_in b) (bound_in_parts p) (bound_in c) (bound_in_parts q) s.above m.above t.above (rises core CanInline d).above (rises_parts core CanInline e).above (names d) (names_parts e))
