-- Inlining steps keep inline calls backward.
use Rattle.std.proofs.Common.{◌≡◌, ℕ, ◌<◌, true, List, [], ◌∷◌, Some, refl, sym, ap, subst, ◌∙◌, ◌⊎◌, inl, inr, arith}
use Rattle.std.specs.Prelude.{slice_get, unwrap_or}
use Rattle.sac_base.specs.declared.site.Site.{Site}
use Rattle.sac_base.specs.declared.types.ArrayType.{ArrayType}
use Rattle.core_ir.specs.declared.tree.Var.{Var}
use Rattle.core_ir.specs.Edits.{Edited, EditedRight, EditedGens, EditedParts, here, later, inside, in_then, in_else, in_test, in_body, in_gens, in_parts, this_gen, later_gen, this_part, later_part}
use Rattle.core_ir.specs.Outcome.{group_at, param_types, param_vars, SameOutcome}
use Rattle.core_ir.specs.Terms.{BlockTerm, RightTerm, GensTerm, PartsTerm, FunTerm, CoreTerm, Gives, Bind, Plain, NoGens, Gen, NoParts, Part, Call, chain}
use Rattle.core_facts.specs.calls.Nests.{CallsAll, CallsAllRight, CallsAllGens, CallsAllParts, StandsIn, InlineBelow, CallsBelow}
use Rattle.core_facts.specs.calls.Replaced.{replaced_at}
use Rattle.core_facts.proofs.calls.Agreeing.{weaker}
use Rattle.core_facts.proofs.calls.Replaced.{at_place}
use Rattle.core_subst.specs.copy.Mapped.{mapped, mapped_right, mapped_gens, mapped_parts, raised}
use Rattle.core_forms.specs.inlining.Inlined.{bindings, checks, inlined, results}
use Rattle.core_forms.specs.inlining.Step.{Nothing, no_ways, InlinedHere, InlineStep, InlineSteps, none, step}
use Rattle.core_forms.proofs.inlining.Step.{inline_outcome}

module _ (P : ℕ → Type 0) where
  -- other variables change no call
  module _ (f : Var → Var) where
    mutual
      mapped_calls : (b : BlockTerm) → CallsAll P b → CallsAll P (mapped f b)
      mapped_calls (Gives xs) h = tt
      mapped_calls (Bind xs s r b) h = (mapped_calls_right r h.0, mapped_calls b h.1)

      mapped_calls_right : (r : RightTerm) → CallsAllRight P r → CallsAllRight P (mapped_right f r)
      mapped_calls_right (Plain p) h = tt
      mapped_calls_right (RightTerm.If x a b) h = (mapped_calls a h.0, mapped_calls b h.1)
      mapped_calls_right (RightTerm.Loop first start params test body u) h = (mapped_calls test h.0, mapped_calls body h.1)
      mapped_calls_right (RightTerm.Call g xs) h = h
      mapped_calls_right (RightTerm.With op gens) h = mapped_calls_gens gens h
      mapped_calls_right (RightTerm.Parted fr t shape op parts) h = mapped_calls_parts parts h

      mapped_calls_gens : (g : GensTerm) → CallsAllGens P g → CallsAllGens P (mapped_gens f g)
      mapped_calls_gens NoGens h = tt
      mapped_calls_gens (Gen g b rest) h = (mapped_calls b h.0, mapped_calls_gens rest h.1)

      mapped_calls_parts : (p : PartsTerm) → CallsAllParts P p → CallsAllParts P (mapped_parts f p)
      mapped_calls_parts NoParts h = tt
      mapped_calls_parts (Part g b rest) h = (mapped_calls b h.0, mapped_calls_parts rest h.1)

  checks_call : (s : Site) (ts : List Var) (tys : List ArrayType) (zs : List Var) (rest : BlockTerm) → CallsAll P rest → CallsAll P (chain (checks s ts tys zs) rest)
  checks_call s [] tys zs rest h = h
  checks_call s (t ∷ ts) [] zs rest h = h
  checks_call s (t ∷ ts) (ty ∷ tys) [] rest h = h
  checks_call s (t ∷ ts) (ty ∷ tys) (z ∷ zs) rest h = (tt, checks_call s ts tys zs rest h)

  bindings_call : (b rest : BlockTerm) → CallsAll P b → CallsAll P rest → CallsAll P (chain (bindings b) rest)
  bindings_call (Gives xs) rest h k = k
  bindings_call (Bind xs s r b) rest h k = (h.0, bindings_call b rest h.1 k)

  pub inlined_calls : (by : ℕ) (f : FunTerm) (ts xs : List Var) (s : Site) (rest : BlockTerm) → CallsAll P f.body → CallsAll P rest → CallsAll P (inlined by f ts s xs rest)
  inlined_calls by f ts xs s rest h k =
      checks_call s _ (param_types f) xs _
      (bindings_call (mapped (raised by) f.body) _ (mapped_calls (raised by) f.body h)
      (checks_call f.ends ts f.results (results (mapped (raised by) f.body)) rest k))

  -- one place is changed
  module _ (Rule : Nothing → BlockTerm → BlockTerm → Type 0) (keeps : (k : Nothing) (b c : BlockTerm) → Rule k b c → CallsAll P b → CallsAll P c) where
    mutual
      edited_calls : {k : Nothing} {b c : BlockTerm} → Edited Nothing no_ways Rule k b c → CallsAll P b → CallsAll P c
      edited_calls (here r) h = keeps _ _ _ r h
      edited_calls (later d) h = (h.0, edited_calls d h.1)
      edited_calls (inside d) h = (edited_calls_right d h.0, h.1)

      edited_calls_right : {k : Nothing} {r q : RightTerm} → EditedRight Nothing no_ways Rule k r q → CallsAllRight P r → CallsAllRight P q
      edited_calls_right (in_then d) h = (edited_calls d h.0, h.1)
      edited_calls_right (in_else d) h = (h.0, edited_calls d h.1)
      edited_calls_right (in_test d) h = (edited_calls d h.0, h.1)
      edited_calls_right (in_body d) h = (h.0, edited_calls d h.1)
      edited_calls_right (in_gens d) h = edited_calls_gens d h
      edited_calls_right (in_parts d) h = edited_calls_parts d h

      edited_calls_gens : {k : Nothing} {g h : GensTerm} → EditedGens Nothing no_ways Rule k g h → CallsAllGens P g → CallsAllGens P h
      edited_calls_gens (this_gen d) h = (edited_calls d h.0, h.1)
      edited_calls_gens (later_gen d) h = (h.0, edited_calls_gens d h.1)

      edited_calls_parts : {k : Nothing} {p q : PartsTerm} → EditedParts Nothing no_ways Rule k p q → CallsAllParts P p → CallsAllParts P q
      edited_calls_parts (this_part d) h = (edited_calls d h.0, h.1)
      edited_calls_parts (later_part d) h = (h.0, edited_calls_parts d h.1)

-- ---- whole cores

module _ (a : CoreTerm) (n : ℕ) (f : FunTerm) (body : BlockTerm) (found : slice_get a.functions n ≡ Some f) where
  abbrev other : FunTerm
  other = record f { body = body }

  abbrev stepped : CoreTerm
  stepped = record a { functions = replaced_at a.functions n (record f { body = body }) }

  still_below : (m group : ℕ) → InlineBelow a m group → InlineBelow stepped m group
  still_below m group h place g s e t = go (at_place a.functions n place f (record f { body = body }) found)
    where
      go : (slice_get a.functions place ≡ slice_get (replaced_at a.functions n (record f { body = body })) place) ⊎ ((slice_get a.functions place ≡ Some f) × (slice_get (replaced_at a.functions n (record f { body = body })) place ≡ Some (record f { body = body }))) → place < m
      go (inl y) = h place g s (y ∙ e) t
      go (inr y) = h place f s y.0 (ap (λ (o : FunTerm). o.is_inline) (ap (λ o. unwrap_or o g) (sym y.1 ∙ e)) ∙ t)

pub backward_kept : (a b : CoreTerm) → InlineStep a b → CallsBelow a → CallsBelow b
backward_kept a b s below = subst CallsBelow (sym s.changed) kept
  where
    kept : CallsBelow (record a { functions = replaced_at a.functions s.place (record s.function { body = s.body }) })
    kept place g e t = go (at_place a.functions s.place place s.function (record s.function { body = s.body }) s.found)
      where
        go : (slice_get a.functions place ≡ slice_get (replaced_at a.functions s.place (record s.function { body = s.body })) place) ⊎ ((slice_get a.functions place ≡ Some s.function) × (slice_get (replaced_at a.functions s.place (record s.function { body = s.body })) place ≡ Some (record s.function { body = s.body })))
            → CallsAll (InlineBelow (record a { functions = replaced_at a.functions s.place (record s.function { body = s.body }) }) place) g.body
        go (inl y) =
            weaker (InlineBelow a place) (InlineBelow (stepped a s.place s.function s.body s.found) place) (λ group h. still_below a s.place s.function s.body s.found place group h) g.body (below place g (y ∙ e) t)
        go (inr y) =
            let own : record s.function { body = s.body } ≡ g = ap (λ o. unwrap_or o g) (sym y.1 ∙ e) in
            let inlines : s.function.is_inline ≡ true = ap (λ (o : FunTerm). o.is_inline) own ∙ t in
            let old : CallsAll (InlineBelow a place) s.function.body = below place s.function y.0 inlines in
            let new : CallsAll (InlineBelow a place) s.body = edited_calls (InlineBelow a place) (InlinedHere a) (λ k b c h calls. at_call place b c k h calls) s.edited old in
            subst (λ (o : FunTerm). CallsAll (InlineBelow (stepped a s.place s.function s.body s.found) place) o.body) own
            (weaker (InlineBelow a place) (InlineBelow (stepped a s.place s.function s.body s.found) place) (λ group h. still_below a s.place s.function s.body s.found place group h) s.body new)
          where
            at_call : (m : ℕ) (b c : BlockTerm) (k : Nothing) → InlinedHere a k b c → CallsAll (InlineBelow a m) b → CallsAll (InlineBelow a m) c
            at_call m b c k h calls =
                let there = subst (CallsAll (InlineBelow a m)) h.before calls in
                let lt : h.place < m = there.0 h.place h.function (subst (λ (places : List ℕ). StandsIn places h.place) (sym h.alone) (inl refl)) h.found h.inlines in
                subst (CallsAll (InlineBelow a m)) (sym h.after)
                (inlined_calls (InlineBelow a m) h.by h.function h.targets h.args h.site h.rest
                (weaker (InlineBelow a h.place) (InlineBelow a m) (λ group w j g s e t. omega (arith, w j g s e t, lt)) h.function.body (below h.place h.function h.found h.inlines)) there.1)

-- one step after another
pub steps_outcome : (a b : CoreTerm) → InlineSteps a b → CallsBelow a → SameOutcome a b × CallsBelow b
steps_outcome a b none below = (λ args caps. refl, below)
steps_outcome a c (step {b = b} s more) below =
    let middle = backward_kept a b s below in
    let w = steps_outcome b c more middle in
    (λ args caps. inline_outcome a b s below middle args caps ∙ w.0 args caps, w.1)
