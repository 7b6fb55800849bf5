-- In blocks with calls inlined bases agree.
use Rattle.std.proofs.Common.{◌≡◌, ℕ, suc, ◌+◌, ◌<◌, ◌≤◌, Bool, true, false, cond, ◌||◌, eqb, List, [], ◌∷◌, ◌++◌, map, length, zip, Option, Some, None, All, refl, sym, ap, subst, ◌∙◌, arith, ◌⊎◌, inl, inr}
use Rattle.std.proofs.lemmas.Bool.{eqb-true, cases_lt}
use Rattle.sac_base.specs.declared.base.Base.{Base}
use Rattle.sac_base.specs.declared.base.Base.TheVariants.{Int, Bool as Truth}
use Rattle.sac_base.specs.declared.grid.Grid1.{Grid1}
use Rattle.sac_base.specs.declared.site.Site.{Site}
use Rattle.sac_base.specs.declared.types.ArrayType.{ArrayType}
use Rattle.core_ir.specs.declared.tree.Var.{Var}
use Rattle.core_ir.specs.Binders.{is_in, NoneIn, bound_in, bound_in_right, bound_in_gens, bound_in_parts}
use Rattle.core_ir.specs.Outcome.{param_types, param_vars}
use Rattle.core_ir.specs.Terms.{BlockTerm, RightTerm, GensTerm, PartsTerm, FunTerm, CoreTerm, Gives, Bind, chain}
use Rattle.core_ir.specs.Uses.{targets_of}
use Rattle.core_ir.specs.WellFormed.{Bases, base_of, HasBases, bases, ints, part_grids, PartedFits, param_bases, BlockBases, RightBases, GensBases, PartsBases, Distinct, IsFunction}
use Rattle.core_ir.proofs.Variables.{or_false, same_number, in_more}
use Rattle.core_subst.specs.Names.{above_all, above_function}
use Rattle.core_subst.specs.copy.Mapped.{raised, mapped}
use Rattle.core_subst.proofs.copy.Within.{raised_apart}
use Rattle.core_forms.specs.edits.Within.{bases_mapped}
use Rattle.core_forms.proofs.edits.Mapping.{block_has, distinct_mapped}
use Rattle.core_forms.proofs.edits.Wider.{block_bases_wider}
use Rattle.core_forms.specs.inlining.Inlined.{bindings, results, checks, inlined, CanInline}
use Rattle.core_forms.proofs.inlining.Bodies.{results_mapped}
use Rattle.core_forms.specs.declared.inlined_bodies.growth.Growth.{Growth}
use Rattle.core_forms.specs.inlined_bodies.Inlining.{BlockInlined, RightInlined, GensInlined, PartsInlined, ends, placed, kept, plain, left, branches, turns, generated, divided, no_gens, a_gen, no_parts, a_part}
use Rattle.core_forms.proofs.inlined_bodies.Counts.{rises, rises_right, mapped_length, all_at, at_call, lower, upper, trans}
use Rattle.core_forms.proofs.inlined_bodies.Names.{clash, not_in, none_by, distinct_left, distinct_right, Fresh, fresh_left, fresh_right, fresh_more, fresh_below, range}
use Rattle.core_forms.proofs.inlined_bodies.Scopes.{other_way, params_put, targets_put, outside_low, outside_high}

-- ---- bases of variables

-- no number from the bound on has a base
abbrev pub Low : Bases → ℕ → Type 0
Low g a = (y : Var) → a ≤ y.0 → base_of g y ≡ None

pub low_more : (g : Bases) (a m : ℕ) → a ≤ m → Low g a → Low g m
low_more g a m l p y k = p y (trans a m y.0 l k)

-- other variables keep their bases
abbrev pub Keeps : List Var → Bases → Bases → Type 0
Keeps ts g wider = (y : Var) → is_in y ts ≡ false → base_of wider y ≡ base_of g y

zip_keeps : (xs : List Var) (us : List Base) (g : Bases) (y : Var) → is_in y xs ≡ false → base_of (zip xs us ++ g) y ≡ base_of g y
zip_keeps [] us g y h = refl
zip_keeps (x ∷ xs) [] g y h = refl
zip_keeps (x ∷ xs) (u ∷ us) g y h =
    let w = or_false (eqb x.0 y.0) (is_in y xs) h in
    (λ i. cond (w.0 i) (Some u) (base_of (zip xs us ++ g) y)) ∙ zip_keeps xs us g y w.1

ints_keep : (xs : List Var) (g : Bases) (y : Var) → is_in y xs ≡ false → base_of (ints xs ++ g) y ≡ base_of g y
ints_keep [] g y h = refl
ints_keep (x ∷ xs) g y h = let w = or_false (eqb x.0 y.0) (is_in y xs) h in (λ i. cond (w.0 i) (Some Int) (base_of (ints xs ++ g) y)) ∙ ints_keep xs g y w.1

low_zip : (xs : List Var) (us : List Base) (g : Bases) (a : ℕ) → Fresh xs a → Low g a → Low (zip xs us ++ g) a
low_zip xs us g a f l y k = zip_keeps xs us g y (f y k) ∙ l y k

low_ints : (xs : List Var) (g : Bases) (a : ℕ) → Fresh xs a → Low g a → Low (ints xs ++ g) a
low_ints xs g a f l y k = ints_keep xs g y (f y k) ∙ l y k

-- a variable with a base is below the bound
has_low : (g : Bases) (a : ℕ) (x : Var) (t : Base) → Low g a → base_of g x ≡ Some t → x.0 < a
has_low g a x t l h = go (cases_lt x.0 a)
  where
    go : (x.0 < a) ⊎ (a ≤ x.0) → x.0 < a
    go (inl p) = p
    go (inr p) = absurd (let q : ◌≡◌ {A = Option Base} None (Some t) = sym (l x p) ∙ h in cc)

-- ---- what bindings give a base

has_kept : (zs : List Var) (us : List Base) (g wider : Bases) (t : Var) → Keeps (t ∷ []) g wider → is_in t zs ≡ false → HasBases g zs us → HasBases wider zs us
has_kept [] [] g wider t k n h = tt
has_kept (z ∷ zs) (u ∷ us) g wider t k n h =
    let w = or_false (eqb z.0 t.0) (is_in t zs) n in
    (k z (λ i. other_way z.0 t.0 w.0 i || false) ∙ h.0, has_kept zs us g wider t k w.1 h.1)
has_kept [] (u ∷ us) g wider t k n h = absurd h
has_kept (z ∷ zs) [] g wider t k n h = absurd h

none_rest : (ts zs : List Var) (z : Var) → NoneIn ts (z ∷ zs) → NoneIn ts zs
none_rest [] zs z h = tt
none_rest (t ∷ ts) zs z h = ((or_false (eqb z.0 t.0) (is_in t zs) h.0).1, none_rest ts zs z h.1)

module _ (core : CoreTerm) where
  checks_typed : (s : Site) (ts : List Var) (tys : List ArrayType) (zs : List Var) (rest : BlockTerm) (g : Bases) (us : List Base) → length ts ≡ length tys → HasBases g zs (bases tys) → NoneIn ts zs → Distinct ts
      → ((wider : Bases) → Keeps ts g wider → HasBases wider ts (bases tys) → BlockBases core wider rest us) → BlockBases core g (chain (checks s ts tys zs) rest) us
  checks_typed s [] [] [] rest g us p h n d k = k g (λ y e. refl) tt
  checks_typed s (t ∷ ts) (ty ∷ tys) (z ∷ zs) rest g us p h n d k =
      let b = ty.base in
      let next : Bases = (t, b) ∷ g in
      let keeps : Keeps (t ∷ []) g next = λ y e. λ i. cond ((or_false (eqb t.0 y.0) false e).0 i) (Some b) (base_of g y) in (
        (b ∷ []),
        (
          (h.0, refl),
          refl,
          checks_typed s ts tys zs rest next us (omega (arith, p)) (has_kept zs (bases tys) g next t keeps (or_false (eqb z.0 t.0) (is_in t zs) n.0).1 h.1) (none_rest ts zs z n.1) d.1
              (λ wider w m. k wider
              (λ y e. let v = or_false (eqb t.0 y.0) (is_in y ts) e in w y v.1 ∙ keeps y (λ i. v.0 i || false))
              (w t d.0 ∙ (λ i. cond (Rattle.std.proofs.lemmas.Bool.eq-eqb t.0 t.0 refl i) (Some b) (base_of g t)), m)),
        ),
      )
  checks_typed s [] (ty ∷ tys) zs rest g us p h n d k = absurd (omega arith)
  checks_typed s (t ∷ ts) [] zs rest g us p h n d k = absurd (omega arith)
  checks_typed s [] [] (z ∷ zs) rest g us p h n d k = absurd h
  checks_typed s (t ∷ ts) (ty ∷ tys) [] rest g us p h n d k = absurd h

  bindings_typed : (b rest : BlockTerm) (g : Bases) (rs us : List Base) → BlockBases core g b rs
      → ((wider : Bases) → Keeps (targets_of (bindings b)) g wider → HasBases wider (results b) rs → BlockBases core wider rest us) → BlockBases core g (chain (bindings b) rest) us
  bindings_typed (Gives xs) rest g rs us h k = k g (λ y e. refl) h
  bindings_typed (Bind xs s r b) rest g rs us h k = (
    h.0,
    (
      h.1.0,
      h.1.1,
      bindings_typed b rest (zip xs h.0 ++ g) rs us h.1.2
          (λ wider w m. k wider (λ y e. let v = or_false (is_in y xs) (is_in y (targets_of (bindings b))) (sym (in_more y xs (targets_of (bindings b))) ∙ e) in w y v.1 ∙ zip_keeps xs h.0 g y v.0) m),
    ),
  )

-- ---- a list of variables with bases, within others

params_within : (by : ℕ) (ps : List (Var × ArrayType)) (wider : Bases) → HasBases wider (map (raised by) (map (λ (p : Var × ArrayType). p.0) ps)) (bases (map (λ (p : Var × ArrayType). p.1) ps)) → (x : Var) (t : Base)
    → base_of (bases_mapped (raised by) (map (λ (p : Var × ArrayType). (p.0, p.1.base)) ps)) x ≡ Some t → base_of wider x ≡ Some t
params_within by [] wider h x t e = absurd (let q : ◌≡◌ {A = Option Base} None (Some t) = e in cc)
params_within by (p ∷ ps) wider h x t e = go (eqb (p.0.0 + by) x.0) refl (λ k. params_within by ps wider h.1 x t k)
  where
    go : (b : Bool) → eqb (p.0.0 + by) x.0 ≡ b → (base_of (bases_mapped (raised by) (map (λ (k : Var × ArrayType). (k.0, k.1.base)) ps)) x ≡ Some t → base_of wider x ≡ Some t) → base_of wider x ≡ Some t
    go true q rec = (λ i. base_of wider (sym (same_number (raised by p.0) x q) i)) ∙ h.0 ∙ sym (λ i. cond (q i) (Some p.1.base) (base_of (bases_mapped (raised by) (map (λ (k : Var × ArrayType). (k.0, k.1.base)) ps)) x)) ∙ e
    go false q rec = rec (sym (λ i. cond (q i) (Some p.1.base) (base_of (bases_mapped (raised by) (map (λ (k : Var × ArrayType). (k.0, k.1.base)) ps)) x)) ∙ e)

zip_within : (ts : List Var) (us : List Base) (g wider : Bases) → HasBases wider ts us → (x : Var) (t : Base) → (is_in x ts ≡ false → base_of g x ≡ Some t → base_of wider x ≡ Some t) → base_of (zip ts us ++ g) x ≡ Some t → base_of wider x ≡ Some t
zip_within [] us g wider h x t k e = k refl e
zip_within (y ∷ ts) (u ∷ us) g wider h x t k e = go (eqb y.0 x.0) refl (λ m n. zip_within ts us g wider h.1 x t m n)
  where
    go : (b : Bool) → eqb y.0 x.0 ≡ b → ((is_in x ts ≡ false → base_of g x ≡ Some t → base_of wider x ≡ Some t) → base_of (zip ts us ++ g) x ≡ Some t → base_of wider x ≡ Some t) → base_of wider x ≡ Some t
    go true q rec = (λ i. base_of wider (sym (same_number y x q) i)) ∙ h.0 ∙ sym (λ i. cond (q i) (Some u) (base_of (zip ts us ++ g) x)) ∙ e
    go false q rec = rec (λ n f. k (λ i. q i || n i) f) (sym (λ i. cond (q i) (Some u) (base_of (zip ts us ++ g) x)) ∙ e)
zip_within (y ∷ ts) [] g wider h x t k e = absurd h

below_above : (xs : List Var) (n : ℕ) (y : Var) → above_all xs ≤ n → is_in y xs ≡ true → y.0 < n
below_above [] n y l h = clash false h refl
below_above (x ∷ xs) n y l h = go (eqb x.0 y.0) refl (λ k. below_above xs n y (upper (suc x.0) (above_all xs) n l) k)
  where
    go : (b : Bool) → eqb x.0 y.0 ≡ b → (is_in y xs ≡ true → y.0 < n) → y.0 < n
    go true q rec = let e = eqb-true x.0 y.0 q in let k = lower (suc x.0) (above_all xs) n l in omega (arith, e, k)
    go false q rec = rec (sym (λ i. q i || is_in y xs) ∙ h)

-- ---- an inlined call

module _ (core : CoreTerm) (f : FunTerm) (by : ℕ) (ts xs : List Var) (s : Site) (old rest : BlockTerm) (g : Bases) (us : List Base) (can : CanInline by f ts xs old) (is : IsFunction core f) where
  abbrev P : List Var
  P = map (raised by) (param_vars f)

  abbrev T : List Var
  T = targets_of (bindings (mapped (raised by) f.body))

  -- what has a base behind it
  pub record Behind (wider : Bases) : Type 0 where
    pub keeps : (y : Var) → is_in y ts ≡ false → is_in y (targets_of (bindings (mapped (raised by) f.body))) ≡ false → is_in y (map (raised by) (param_vars f)) ≡ false → base_of wider y ≡ base_of g y
    pub has : HasBases wider ts (bases f.results)

  raised_results : (y : Var) → is_in y (results (mapped (raised by) f.body)) ≡ true → by ≤ y.0
  raised_results y h = (range by (results f.body) y ((λ i. is_in y (sym (results_mapped (raised by) f.body) i)) ∙ h)).0

  both_sides : (a n : ℕ) → a < n → n ≤ a → ⊥
  both_sides a n p q = omega arith

  pub call_typed : Fresh ts by → Distinct ts → HasBases g xs (bases (param_types f)) → ((wider : Bases) → Behind wider → BlockBases core wider rest us) → BlockBases core g (inlined by f ts s xs rest) us
  call_typed low distinct args k =
      checks_typed core s P (param_types f) xs (chain (bindings (mapped (raised by) f.body)) (chain (checks f.ends ts f.results (results (mapped (raised by) f.body))) rest)) g us
      (mapped_length (raised by) (param_vars f) ∙ mapped_length (λ (p : Var × ArrayType). p.0) f.params ∙ sym (mapped_length (λ (p : Var × ArrayType). p.1) f.params)) args
      (none_by P xs (λ y h. not_in y xs (λ m. both_sides y.0 by (below_above xs by y can.sources m) (params_put f by y h).0)))
      (distinct_mapped (raised by) (raised_apart by) (param_vars f) (distinct_left (param_vars f) (bound_in f.body) is.once))
      (λ first w m. bindings_typed core (mapped (raised by) f.body) (chain (checks f.ends ts f.results (results (mapped (raised by) f.body))) rest) first (bases f.results) us
      (block_bases_wider core (mapped (raised by) f.body) (bases_mapped (raised by) (param_bases f)) first (bases f.results) (params_within by f.params first m) (block_has (raised by) (raised_apart by) core f.body (param_bases f) (bases f.results) is.agreeing))
      (λ second v n. checks_typed core f.ends ts f.results (results (mapped (raised by) f.body)) rest second us can.gives n
      (none_by ts (results (mapped (raised by) f.body)) (λ y h. not_in y (results (mapped (raised by) f.body)) (λ q. both_sides y.0 by (fresh_below ts by y low h) (raised_results y q)))) distinct
      (λ third u o. k third (record { keeps = λ y a b c. u y a ∙ v y b ∙ w y c; has = o }))))

-- ---- the whole

module _ (core : CoreTerm) (well : All (IsFunction core) core.functions) where
  mutual
    pub typed : {s t : Growth} {b c : BlockTerm} → BlockInlined core CanInline s b c t → (g : Bases) (us : List Base) → Low g s.above → Fresh (bound_in b) s.above → Distinct (bound_in b) → BlockBases core g b us → BlockBases core g c us
    typed ends g us l f d h = h
    typed (placed {s = s} {group = group} {place = place} {f = f} {ts = ts} {xs = xs} {site = site} {rest = rest} {new = new} i fits can e) g us l fb d h =
        let by = s.above in
        let a = above_function f in
        let P = map (raised by) (param_vars f) in
        let T = targets_of (bindings (mapped (raised by) f.body)) in
        let is = all_at (IsFunction core) core.functions place f well i.found in
        let w = at_call core g group place xs h.0 f h.1.0 i in
        let low : Fresh ts by = fresh_left ts (bound_in rest) by fb in
        let more : by ≤ by + a = omega arith in
        call_typed core f by ts xs site rest new g us can is low (distinct_left ts (bound_in rest) d) w.0
        (λ wider v. typed e wider us
        (λ y k. v.keeps y (low y (trans by (by + a) y.0 more k)) (outside_high T by a y (targets_put f by) k) (outside_high P by a y (params_put f by) k) ∙ l y (trans by (by + a) y.0 more k))
        (fresh_more (bound_in rest) by (by + a) more (fresh_right ts (bound_in rest) by fb))
        (distinct_right ts (bound_in rest) d)
        (block_bases_wider core rest (zip ts h.0 ++ g) wider us
        (λ x t p. zip_within ts h.0 g wider (subst (λ (bs : List Base). HasBases wider ts bs) w.1 v.has) x t
        (λ n q. let k = has_low g by x t l q in v.keeps x n (outside_low T by a x (targets_put f by) k) (outside_low P by a x (params_put f by) k) ∙ q) p)
        h.1.2))
    typed (kept {s = s} {m = m} {xs = xs} {r = r} {rest = rest} e k) g us l fb d h =
        let low = fresh_left xs (bound_in_right r ++ bound_in rest) s.above fb in
        let inner = fresh_right xs (bound_in_right r ++ bound_in rest) s.above fb in
        let up = (rises_right core CanInline e).above in
        let dr = distinct_right xs (bound_in_right r ++ bound_in rest) d in (
          h.0,
          (
            typed_right e g h.0 l (fresh_left (bound_in_right r) (bound_in rest) s.above inner) (distinct_left (bound_in_right r) (bound_in rest) dr) h.1.0,
            h.1.1,
            typed k (zip xs h.0 ++ g) us (low_more (zip xs h.0 ++ g) s.above m.above up (low_zip xs h.0 g s.above low l)) (fresh_more (bound_in rest) s.above m.above up (fresh_right (bound_in_right r) (bound_in rest) s.above inner)) (distinct_right (bound_in_right r) (bound_in rest) dr) h.1.2,
          ),
        )

    pub typed_right : {s t : Growth} {b c : RightTerm} → RightInlined core CanInline s b c t → (g : Bases) (us : List Base) → Low g s.above → Fresh (bound_in_right b) s.above → Distinct (bound_in_right b) → RightBases core g b us → RightBases core g c us
    typed_right plain g us l f d h = h
    typed_right (left _) g us l f d h = h
    typed_right (branches {s = s} {m = m} {a = a} {b = b} e k) g us l f d h =
        let up = (rises core CanInline e).above in (
          h.0,
          typed e g us l (fresh_left (bound_in a) (bound_in b) s.above f) (distinct_left (bound_in a) (bound_in b) d) h.1,
          typed k g us (low_more g s.above m.above up l) (fresh_more (bound_in b) s.above m.above up (fresh_right (bound_in a) (bound_in b) s.above f)) (distinct_right (bound_in a) (bound_in b) d) h.2,
        )
    typed_right (turns {s = s} {m = m} {params = params} {a = a} {b = b} e k) g us l f d h =
        let up = (rises core CanInline e).above in
        let low = low_zip params us g s.above (fresh_left params (bound_in a ++ bound_in b) s.above f) l in
        let inner = fresh_right params (bound_in a ++ bound_in b) s.above f in
        let dr = distinct_right params (bound_in a ++ bound_in b) d in (
          h.0,
          h.1,
          typed e (zip params us ++ g) (Truth ∷ []) low (fresh_left (bound_in a) (bound_in b) s.above inner) (distinct_left (bound_in a) (bound_in b) dr) h.2,
          typed k (zip params us ++ g) us (low_more (zip params us ++ g) s.above m.above up low) (fresh_more (bound_in b) s.above m.above up (fresh_right (bound_in a) (bound_in b) s.above inner)) (distinct_right (bound_in a) (bound_in b) dr) h.3,
        )
    typed_right (generated e) g us l f d h = (h.0, (h.1.0, typed_gens e g h.0 l f d h.1.1, h.1.2))
    typed_right (divided {frame = frame} {base = t} {cell = cell} {op = op} {p = p} {q = q} e) g us l f d h =
        (h.0, typed_parts e g t l f d h.1, subst (λ (gs : List (List Grid1)). PartedFits op frame cell gs) (grids_kept e) h.2, h.3)

    typed_gens : {s t : Growth} {b c : GensTerm} → GensInlined core CanInline s b c t → (g : Bases) (u : Base) → Low g s.above → Fresh (bound_in_gens b) s.above → Distinct (bound_in_gens b) → GensBases core g b u → GensBases core g c u
    typed_gens no_gens g u l f d h = h
    typed_gens (a_gen {s = s} {m = m} {h = v} {b = b} {g = gs} e k) g u l f d h =
        let xs = v.index ∷ v.names in
        let up = (rises core CanInline e).above in
        let inner = fresh_right xs (bound_in b ++ bound_in_gens gs) s.above f in
        let dr = distinct_right xs (bound_in b ++ bound_in_gens gs) d in (
          h.0,
          h.1,
          h.2,
          h.3,
          typed e (ints xs ++ g) (u ∷ []) (low_ints xs g s.above (fresh_left xs (bound_in b ++ bound_in_gens gs) s.above f) l) (fresh_left (bound_in b) (bound_in_gens gs) s.above inner) (distinct_left (bound_in b) (bound_in_gens gs) dr) h.4,
          typed_gens k g u (low_more g s.above m.above up l) (fresh_more (bound_in_gens gs) s.above m.above up (fresh_right (bound_in b) (bound_in_gens gs) s.above inner)) (distinct_right (bound_in b) (bound_in_gens gs) dr) h.5,
        )

    typed_parts : {s t : Growth} {b c : PartsTerm} → PartsInlined core CanInline s b c t → (g : Bases) (u : Base) → Low g s.above → Fresh (bound_in_parts b) s.above → Distinct (bound_in_parts b) → PartsBases core g b u → PartsBases core g c u
    typed_parts no_parts g u l f d h = h
    typed_parts (a_part {s = s} {m = m} {h = v} {b = b} {p = ps} e k) g u l f d h =
        let xs = v.index ∷ [] in
        let up = (rises core CanInline e).above in
        let inner = fresh_right xs (bound_in b ++ bound_in_parts ps) s.above f in
        let dr = distinct_right xs (bound_in b ++ bound_in_parts ps) d in (
          typed e ((v.index, Int) ∷ g) (u ∷ []) (low_ints xs g s.above (fresh_left xs (bound_in b ++ bound_in_parts ps) s.above f) l) (fresh_left (bound_in b) (bound_in_parts ps) s.above inner) (distinct_left (bound_in b) (bound_in_parts ps) dr) h.0,
          typed_parts k g u (low_more g s.above m.above up l) (fresh_more (bound_in_parts ps) s.above m.above up (fresh_right (bound_in b) (bound_in_parts ps) s.above inner)) (distinct_right (bound_in b) (bound_in_parts ps) dr) h.1,
        )

    grids_kept : {s t : Growth} {b c : PartsTerm} → PartsInlined core CanInline s b c t → part_grids b ≡ part_grids c
    grids_kept no_parts = refl
    grids_kept (a_part {h = v} e k) = ap (λ gs. v.grid ∷ gs) (grids_kept k)
