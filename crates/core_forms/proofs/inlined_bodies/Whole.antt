-- Whole cores in one function of which calls are inlined.
use Rattle.std.proofs.Common.{◌≡◌, ℕ, zero, suc, ◌<◌, ◌≤◌, Bool, true, false, List, [], ◌∷◌, map, length, Option, Some, None, refl, sym, ap, subst, ◌∙◌, ◌⊎◌, inl, inr, arith}
use Rattle.std.specs.Prelude.{slice_get, unwrap_or}
use Rattle.std.proofs.lemmas.Bool.{cases_lt}
use Rattle.std.proofs.lemmas.Option.{slice_get_within}
use Rattle.sac_base.specs.declared.types.ArrayType.{ArrayType}
use Rattle.sac_base.specs.Outcomes.{and_then}
use Rattle.core_ir.specs.declared.tree.Var.{Var}
use Rattle.core_ir.specs.Binders.{is_in, bound_in}
use Rattle.core_ir.specs.Meaning.{bind_all, no_variables}
use Rattle.core_ir.specs.Outcome.{param_vars, body_of, results_in, call_by, run_inline, SameOutcome}
use Rattle.core_ir.specs.Terms.{BlockTerm, RightTerm, GensTerm, PartsTerm, FunTerm, CoreTerm, Gives, Bind, Plain, NoGens, Gen, NoParts, Part}
use Rattle.core_ir.specs.WellFormed.{base_of, bases, param_bases, BlockBases, Distinct, IsFunction, IsWellFormed}
use Rattle.core_facts.proofs.bases.Backward.{below}
use Rattle.core_facts.specs.calls.Nests.{CallsAll, CallsAllRight, CallsAllGens, CallsAllParts, StandsIn, InlineBelow, CallsBelow, SameBodiesNested}
use Rattle.core_facts.specs.calls.Replaced.{replaced_at}
use Rattle.core_facts.proofs.calls.Agreeing.{weaker, everywhere}
use Rattle.core_facts.proofs.calls.Nested.{outcomes_nested}
use Rattle.core_facts.proofs.calls.Replaced.{heads_kept, at_place}
use Rattle.core_facts.proofs.bases.Moved.{moved}
use Rattle.core_subst.specs.Names.{above, above_all, above_function}
use Rattle.core_forms.specs.inlining.Inlined.{CanInline}
use Rattle.core_forms.proofs.inlining.Backward.{inlined_calls}
use Rattle.core_forms.specs.declared.inlined_bodies.growth.Growth.{Growth}
use Rattle.core_forms.specs.inlined_bodies.Inlining.{IsInstance, BlockInlined, RightInlined, GensInlined, PartsInlined, ends, placed, kept, plain, left, branches, turns, generated, divided, no_gens, a_gen, no_parts, a_part}
use Rattle.core_forms.specs.inlined_bodies.Functions.{Anywhere, unchanged, FunctionInlined, AreTooLarge, LeavesLarge, DoneBelow, ComeTo}
use Rattle.core_forms.proofs.inlined_bodies.Counts.{all_at, counted, upper}
use Rattle.core_forms.proofs.inlined_bodies.Running.{running}
use Rattle.core_forms.proofs.inlined_bodies.Names.{names, both, same, Fresh, fresh_left, fresh_right, distinct_right, own_fresh, own_vars}
use Rattle.core_forms.proofs.inlined_bodies.Scopes.{scoped}
use Rattle.core_forms.proofs.inlined_bodies.Bases.{Low, typed}
use Rattle.core_forms.proofs.inlined_bodies.Left.{sized, calls_left, large_left}
use Rattle.core_forms.proofs.inlined_bodies.Stepped.{stepped, group_moved, still_below, well_stepped}

-- ---- the calls in a block

-- two properties at once
module _ (P Q : ℕ → Type 0) where
  mutual
    two : (b : BlockTerm) → CallsAll P b → CallsAll Q b → CallsAll (λ g. P g × Q g) b
    two (Gives xs) h k = tt
    two (Bind xs s r b) h k = (two_right r h.0 k.0, two b h.1 k.1)

    two_right : (r : RightTerm) → CallsAllRight P r → CallsAllRight Q r → CallsAllRight (λ g. P g × Q g) r
    two_right (Plain p) h k = tt
    two_right (RightTerm.If x a b) h k = (two a h.0 k.0, two b h.1 k.1)
    two_right (RightTerm.Loop first start params a b s) h k = (two a h.0 k.0, two b h.1 k.1)
    two_right (RightTerm.Call g xs) h k = (h, k)
    two_right (RightTerm.With o gens) h k = two_gens gens h k
    two_right (RightTerm.Parted f t c o parts) h k = two_parts parts h k

    two_gens : (g : GensTerm) → CallsAllGens P g → CallsAllGens Q g → CallsAllGens (λ g. P g × Q g) g
    two_gens NoGens h k = tt
    two_gens (Gen v b rest) h k = (two b h.0 k.0, two_gens rest h.1 k.1)

    two_parts : (g : PartsTerm) → CallsAllParts P g → CallsAllParts Q g → CallsAllParts (λ g. P g × Q g) g
    two_parts NoParts h k = tt
    two_parts (Part v b rest) h k = (two b h.0 k.0, two_parts rest h.1 k.1)

-- a property of the groups called, that goes over to those called by the functions that are inlined
module _ (core : CoreTerm) (May : ℕ → FunTerm → List Var → List Var → BlockTerm → Type 0) (P : ℕ → Type 0) (into : (group place : ℕ) (f : FunTerm) → IsInstance core group place f → P group → CallsAll P f.body) where
  mutual
    calls_kept : {s t : Growth} {b c : BlockTerm} → BlockInlined core May s b c t → CallsAll P b → CallsAll P c
    calls_kept ends h = h
    calls_kept (placed {s = s} {group = group} {place = place} {f = f} {ts = ts} {xs = xs} {site = site} {new = new} i fits may d) h =
        inlined_calls P s.above f ts xs site new (into group place f i h.0) (calls_kept d h.1)
    calls_kept (kept d e) h = (calls_kept_right d h.0, calls_kept e h.1)

    calls_kept_right : {s t : Growth} {b c : RightTerm} → RightInlined core May s b c t → CallsAllRight P b → CallsAllRight P c
    calls_kept_right plain h = h
    calls_kept_right (left l) h = h
    calls_kept_right (branches d e) h = (calls_kept d h.0, calls_kept e h.1)
    calls_kept_right (turns d e) h = (calls_kept d h.0, calls_kept e h.1)
    calls_kept_right (generated d) h = calls_kept_gens d h
    calls_kept_right (divided d) h = calls_kept_parts d h

    calls_kept_gens : {s t : Growth} {b c : GensTerm} → GensInlined core May s b c t → CallsAllGens P b → CallsAllGens P c
    calls_kept_gens no_gens h = h
    calls_kept_gens (a_gen d e) h = (calls_kept d h.0, calls_kept_gens e h.1)

    calls_kept_parts : {s t : Growth} {b c : PartsTerm} → PartsInlined core May s b c t → CallsAllParts P b → CallsAllParts P c
    calls_kept_parts no_parts h = h
    calls_kept_parts (a_part d e) h = (calls_kept d h.0, calls_kept_parts e h.1)

-- ---- one function changed

module _ (a : CoreTerm) (n : ℕ) (f : FunTerm) (c : BlockTerm) (found : slice_get a.functions n ≡ Some f) where
  module _ (well : IsWellFormed a) (last : Growth) (steps : BlockInlined a Anywhere (unchanged f) f.body c last) where
    backward : CallsBelow a
    backward = below a well

    is : IsFunction a f
    is = all_at (IsFunction a) a.functions n f well.functions found

    fine : BlockInlined a CanInline (unchanged f) f.body c last
    fine = counted a well.functions steps (param_bases f) (bases f.results) is.agreeing (upper (above_all (param_vars f)) (above f.body) (above_function f) (omega arith))

    into_below : (m : ℕ) → (group place : ℕ) (h : FunTerm) → IsInstance a group place h → InlineBelow a m group → CallsAll (InlineBelow a m) h.body
    into_below m group place h i low =
        let lt : place < m = low place h (subst (λ (places : List ℕ). StandsIn places place) (sym i.alone) (inl refl)) i.found i.inlines in
        weaker (InlineBelow a place) (InlineBelow a m) (λ g w j k s e t. omega (arith, w j k s e t, lt)) h.body (backward place h i.found i.inlines)

    new_below : (m : ℕ) → CallsAll (InlineBelow a m) f.body → CallsAll (InlineBelow a m) c
    new_below m h = calls_kept a Anywhere (InlineBelow a m) (into_below m) steps h

    pub backward_after : CallsBelow (stepped a n f c)
    backward_after place g e t = go (at_place a.functions n place f (record f { body = c }) found)
      where
        go : (slice_get a.functions place ≡ slice_get (replaced_at a.functions n (record f { body = c })) place) ⊎ ((slice_get a.functions place ≡ Some f) × (slice_get (replaced_at a.functions n (record f { body = c })) place ≡ Some (record f { body = c })))
            → CallsAll (InlineBelow (stepped a n f c) place) g.body
        go (inl y) = weaker (InlineBelow a place) (InlineBelow (stepped a n f c) place) (λ group h. still_below a n f c found place group h) g.body (backward place g (y ∙ e) t)
        go (inr y) =
            let own : record f { body = c } ≡ g = ap (λ o. unwrap_or o g) (sym y.1 ∙ e) in
            let inlines : f.is_inline ≡ true = ap (λ (o : FunTerm). o.is_inline) own ∙ t in
            subst (λ (o : FunTerm). CallsAll (InlineBelow (stepped a n f c) place) o.body) own
            (weaker (InlineBelow a place) (InlineBelow (stepped a n f c) place) (λ group h. still_below a n f c found place group h) c (new_below place (backward place f y.0 inlines)))

    pub outcome_kept : SameOutcome a (stepped a n f c)
    outcome_kept = outcomes_nested a (stepped a n f c) (record { groups = refl; main = refl; heads = heads_kept a.functions n f c found }) backward backward_after bodies
      where
        bodies : SameBodiesNested a (stepped a n f c)
        bodies count outer nest place g args site e nested = go (at_place a.functions n place f (record f { body = c }) found)
          where
            go : (slice_get a.functions place ≡ slice_get (replaced_at a.functions n (record f { body = c })) place) ⊎ ((slice_get a.functions place ≡ Some f) × (slice_get (replaced_at a.functions n (record f { body = c })) place ≡ Some (record f { body = c })))
                → body_of count (call_by a outer (run_inline a count outer nest)) (slice_get a.functions place) args site ≡ body_of count (call_by a outer (run_inline a count outer nest)) (slice_get (replaced_at a.functions n (record f { body = c })) place) args site
            go (inl y) = λ i. body_of count (call_by a outer (run_inline a count outer nest)) (y i) args site
            go (inr y) =
                let own : g ≡ f = ap (λ o. unwrap_or o g) (sym e ∙ y.0) in
                let own_calls : CallsAll (InlineBelow a nest) f.body = subst (λ (h : FunTerm). CallsAll (InlineBelow a nest) h.body) own nested in
                let p = running a count outer backward nest fine own_calls in
                (λ i. body_of count (call_by a outer (run_inline a count outer nest)) (y.0 i) args site)
                ∙ (λ i. and_then (p i (bind_all no_variables (param_vars f) args)) (results_in f.results f.ends))
                ∙ sym (λ i. body_of count (call_by a outer (run_inline a count outer nest)) (y.1 i) args site)

    -- ---- well formed

    fresh : Fresh (own_vars f) (above_function f)
    fresh = own_fresh f

    low : Low (param_bases f) (above_function f)
    low = go f.params (fresh_left (param_vars f) (bound_in f.body) (above_function f) fresh)
      where
        go : (ps : List (Var × ArrayType)) → Fresh (map (λ (p : Var × ArrayType). p.0) ps) (above_function f) → Low (map (λ (p : Var × ArrayType). (p.0, p.1.base)) ps) (above_function f)
        go [] h y k = refl
        go (p ∷ ps) h y k =
            let w = Rattle.core_ir.proofs.Variables.or_false (Rattle.std.specs.Prelude.eqb p.0.0 y.0) (is_in y (map (λ (p : Var × ArrayType). p.0) ps)) (h y k) in
            (λ i. Rattle.std.specs.Prelude.cond (w.0 i) (Some p.1.base) (base_of (map (λ (p : Var × ArrayType). (p.0, p.1.base)) ps) y)) ∙ go ps (λ z l. (Rattle.core_ir.proofs.Variables.or_false (Rattle.std.specs.Prelude.eqb p.0.0 z.0) (is_in z (map (λ (p : Var × ArrayType). p.0) ps)) (h z l)).1) y k

    bound_fresh : Fresh (bound_in f.body) (above_function f)
    bound_fresh = fresh_right (param_vars f) (bound_in f.body) (above_function f) fresh

    body_once : Distinct (bound_in f.body)
    body_once = distinct_right (param_vars f) (bound_in f.body) is.once

    body_agrees : BlockBases (stepped a n f c) (param_bases f) c (bases f.results)
    body_agrees = moved a (stepped a n f c) (group_moved a n f c found) c (param_bases f) (bases f.results) (typed a well.functions fine (param_bases f) (bases f.results) low bound_fresh body_once is.agreeing)

    function_after : IsFunction (stepped a n f c) (record f { body = c })
    function_after = record {
      once = (both (param_vars f) (bound_in f.body) (param_vars f) (bound_in c) (above_function f) (above_function f) last.above (omega arith) (Rattle.core_forms.proofs.inlined_bodies.Counts.rises a CanInline fine).above (same (param_vars f) (above_function f) (above_function f)) (names a well.functions fine)).once is.once fresh;
      scoped = scoped a well.functions fine (param_vars f) (fresh_left (param_vars f) (bound_in f.body) (above_function f) fresh) bound_fresh body_once is.scoped;
      agreeing = body_agrees;
    }

    pub well_after : IsWellFormed (stepped a n f c)
    well_after = well_stepped a n f c found well backward_after function_after

    -- ---- what is left

    -- another place keeps its function
    others_stay : (fs : List FunTerm) (n place : ℕ) (g : FunTerm) → place < n → slice_get fs place ≡ slice_get (replaced_at fs n g) place
    others_stay [] n place g q = refl
    others_stay (x ∷ fs) zero place g q = absurd (omega arith)
    others_stay (x ∷ fs) (suc n) zero g q = refl
    others_stay (x ∷ fs) (suc n) (suc place) g q = others_stay fs n place g (omega (arith, q))

    -- a function whose inline calls go to other functions
    elsewhere : (m : ℕ) (g : FunTerm) → CallsAll (InlineBelow a m) g.body → (m ≤ n) ⊎ (f.is_inline ≡ false) → LeavesLarge a g → LeavesLarge (stepped a n f c) g
    elsewhere m g below out l =
        weaker (λ group. ((place : ℕ) (h : FunTerm) → IsInstance a group place h → AreTooLarge g h) × InlineBelow a m group) (λ group. (place : ℕ) (h : FunTerm) → IsInstance (stepped a n f c) group place h → AreTooLarge g h)
        (λ group w place h i. go group w place h i (at_place a.functions n place f (record f { body = c }) found)) g.body
        (two (λ group. (place : ℕ) (h : FunTerm) → IsInstance a group place h → AreTooLarge g h) (InlineBelow a m) g.body l below)
      where
        clashes : f.is_inline ≡ true → f.is_inline ≡ false → ⊥
        clashes p q = let r = sym p ∙ q in cc

        apart : (m ≤ n) ⊎ (f.is_inline ≡ false) → n < m → f.is_inline ≡ true → ⊥
        apart (inl p) q t = omega arith
        apart (inr p) q t = clashes t p

        go : (group : ℕ) → ((place : ℕ) (h : FunTerm) → IsInstance a group place h → AreTooLarge g h) × InlineBelow a m group → (place : ℕ) (h : FunTerm) → IsInstance (stepped a n f c) group place h
            → (slice_get a.functions place ≡ slice_get (replaced_at a.functions n (record f { body = c })) place) ⊎ ((slice_get a.functions place ≡ Some f) × (slice_get (replaced_at a.functions n (record f { body = c })) place ≡ Some (record f { body = c })))
            → AreTooLarge g h
        go group w place h i (inl y) = w.0 place h (record { alone = i.alone; found = y ∙ i.found; inlines = i.inlines })
        go group w place h i (inr y) = at (cases_lt n place) (cases_lt place n)
          where
            inline : f.is_inline ≡ true
            inline = ap (λ (o : FunTerm). o.is_inline) (ap (λ o. unwrap_or o h) (sym y.1 ∙ i.found)) ∙ i.inlines

            lt : place < m
            lt = w.1 place f (subst (λ (places : List ℕ). StandsIn places place) (sym i.alone) (inl refl)) y.0 inline

            at : (n < place) ⊎ (place ≤ n) → (place < n) ⊎ (n ≤ place) → AreTooLarge g h
            at (inl p) q = absurd (apart out (omega (arith, p, lt)) inline)
            at (inr p) (inr q) = absurd (apart out (omega (arith, p, q, lt)) inline)
            at (inr p) (inl q) = w.0 place h (record { alone = i.alone; found = others_stay a.functions n place (record f { body = c }) q ∙ i.found; inlines = i.inlines })

    large_after : (m : ℕ) → CallsAll (InlineBelow a m) f.body → DoneBelow a true m → (m ≤ n) ⊎ (f.is_inline ≡ false) → LeavesLarge (stepped a n f c) (record f { body = c })
    large_after m h done out = elsewhere m (record f { body = c }) (new_below m h) out (large_left a f c last (sized a fine) (calls_left a m done Anywhere steps h))

    -- ---- a pass goes on

    all_below : (g : ℕ) → InlineBelow a (length a.functions) g
    all_below g place h s e t = slice_get_within a.functions place h e

    itself_at : (fs : List FunTerm) (n : ℕ) (f g : FunTerm) → slice_get fs n ≡ Some f → slice_get (replaced_at fs n g) n ≡ Some g
    itself_at [] n f g e = absurd (let q : ◌≡◌ {A = Option FunTerm} None (Some f) = e in cc)
    itself_at (x ∷ fs) zero f g e = refl
    itself_at (x ∷ fs) (suc n) f g e = itself_at fs n f g e

    -- the functions of one kind up to this one
    up_to : (inlines : Bool) → DoneBelow a inlines n → LeavesLarge (stepped a n f c) (record f { body = c }) → ((place : ℕ) (g : FunTerm) → place < n → slice_get a.functions place ≡ Some g → g.is_inline ≡ inlines → LeavesLarge a g → LeavesLarge (stepped a n f c) g)
        → DoneBelow (stepped a n f c) inlines (suc n)
    up_to inlines done own others place g lt e t = go (cases_lt place n)
      where
        go : (place < n) ⊎ (n ≤ place) → LeavesLarge (stepped a n f c) g
        go (inl p) = let o = others_stay a.functions n place (record f { body = c }) p ∙ e in others place g p o t (done place g p o t)
        go (inr p) =
            let here : place ≡ n = omega (arith, p, lt) in
            let same_g : record f { body = c } ≡ g = ap (λ o. unwrap_or o g) (sym (itself_at a.functions n f (record f { body = c }) found) ∙ sym (ap (slice_get (replaced_at a.functions n (record f { body = c }))) here) ∙ e) in
            subst (λ (o : FunTerm). LeavesLarge (stepped a n f c) o) same_g own

    still_inline : f.is_inline ≡ false → DoneBelow a true (length a.functions) → DoneBelow (stepped a n f c) true (length (stepped a n f c).functions)
    still_inline e done place g lt found_g t = go (at_place a.functions n place f (record f { body = c }) found)
      where
        go : (slice_get a.functions place ≡ slice_get (replaced_at a.functions n (record f { body = c })) place) ⊎ ((slice_get a.functions place ≡ Some f) × (slice_get (replaced_at a.functions n (record f { body = c })) place ≡ Some (record f { body = c })))
            → LeavesLarge (stepped a n f c) g
        go (inl y) =
            elsewhere (length a.functions) g (everywhere (InlineBelow a (length a.functions)) all_below g.body) (inr e) (done place g (slice_get_within a.functions place g (y ∙ found_g)) (y ∙ found_g) t)
        go (inr y) =
            let own : record f { body = c } ≡ g = ap (λ o. unwrap_or o g) (sym y.1 ∙ found_g) in
            let inline : f.is_inline ≡ true = ap (λ (o : FunTerm). o.is_inline) own ∙ t in
            absurd (let q = sym inline ∙ e in cc)

    pub goes_on : (inlines : Bool) → f.is_inline ≡ inlines → ComeTo a inlines n → ComeTo (stepped a n f c) inlines (suc n)
    goes_on true e come = (
      up_to true come.0 (large_after n (backward n f found e) come.0 (inl (omega arith)))
          (λ place g p o t l. elsewhere place g (backward place g o t) (inl (omega (arith, p))) l),
      λ q. absurd (cc),
    )
    goes_on false e come =
        let all = everywhere (InlineBelow a (length a.functions)) all_below in
        let before = come.1 refl in
        (up_to false come.0 (large_after (length a.functions) (all f.body) before (inr e)) (λ place g p o t l. elsewhere (length a.functions) g (all g.body) (inr e) l), λ q. still_inline e before)

pub functions_may_be_inlined : (a b : CoreTerm) (place : ℕ) → FunctionInlined a b place → IsWellFormed a → SameOutcome a b × IsWellFormed b
functions_may_be_inlined a b place step well =
    subst (λ (x : CoreTerm). SameOutcome a x × IsWellFormed x) (sym step.changed)
    (outcome_kept a place step.function step.body step.found well step.last step.inlined, well_after a place step.function step.body step.found well step.last step.inlined)

pub passes_go_on : (a b : CoreTerm) (place : ℕ) (inlines : Bool) (step : FunctionInlined a b place) → IsWellFormed a → step.function.is_inline ≡ inlines → ComeTo a inlines place → ComeTo b inlines (suc place)
passes_go_on a b place inlines step well e come =
    subst (λ (x : CoreTerm). ComeTo x inlines (suc place)) (sym step.changed) (goes_on a place step.function step.body step.found well step.last step.inlined inlines e come)
