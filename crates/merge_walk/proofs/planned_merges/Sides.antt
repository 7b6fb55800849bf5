-- What a part's body binds around its inner loop, and in each part of it: each variable once.
use Rattle.std.proofs.Common.{◌≡◌, true, false, List, [], ◌∷◌, ◌++◌, refl, sym, ap, subst, ◌∙◌, append_assoc, ◌⊎◌, inl, inr}
use Rattle.sac_base.specs.declared.base.Base.{Base}
use Rattle.sac_base.specs.declared.grid.Grid1.{Grid1}
use Rattle.sac_base.specs.declared.site.Site.{Site}
use Rattle.core_ir.specs.declared.tree.Var.{Var}
use Rattle.core_ir.specs.declared.tree.PartedOp.TheVariants as parted
use Rattle.core_ir.specs.Binders.{is_in, bound_in, bound_in_right, bound_in_parts}
use Rattle.core_ir.specs.Scopes.{Scoped}
use Rattle.core_ir.specs.Terms.{BlockTerm, PartsTerm, LetTerm, PartHead, Gives, Bind, NoParts, Part, Parted, chain}
use Rattle.core_ir.specs.WellFormed.{Distinct}
use Rattle.core_forms.proofs.edits.Wider.{bound_new}
use Rattle.core_forms.proofs.inlined_bodies.Names.{behind_first, clash, distinct_apart, distinct_both, distinct_left, distinct_right, in_either, in_left, itself, none_at, not_in}
use Rattle.core_forms.specs.merge.Built.{AllParts}
use Rattle.core_forms.proofs.merge.Straight.{chain_append}
use Rattle.core_forms.proofs.norm.Scopes.{in_right}

abbrev pub ends : List LetTerm → List Var
ends ls = bound_in (chain ls (Gives []))

-- what bindings bind stands before what is behind them
pub bound_chain : (ls : List LetTerm) (b : BlockTerm) → bound_in (chain ls b) ≡ ends ls ++ bound_in b
bound_chain [] b = refl
bound_chain (l ∷ ls) b =
    (λ i. l.targets ++ (bound_in_right l.right ++ bound_chain ls b i)) ∙ ap (λ xs. l.targets ++ xs) (sym (append_assoc (bound_in_right l.right) (ends ls) (bound_in b)))
    ∙ sym (append_assoc l.targets (bound_in_right l.right ++ ends ls) (bound_in b))

-- ---- each part of an inner loop

-- each variable is bound once, and all are of the loop
pub record Inside (whole : List Var) (g : PartHead) (c : BlockTerm) : Type 0 where
  pub once : Distinct (bound_in c)
  pub index : is_in g.index whole ≡ true
  pub within : (y : Var) → is_in y (bound_in c) ≡ true → is_in y whole ≡ true

pub parts_inside : (whole : List Var) (inner : PartsTerm) → ((y : Var) → is_in y (bound_in_parts inner) ≡ true → is_in y whole ≡ true) → Distinct (bound_in_parts inner) → AllParts (Inside whole) inner
parts_inside whole NoParts f d = tt
parts_inside whole (Part g c rest) f d =
    let more = bound_in c ++ bound_in_parts rest in (
      record {
        once = distinct_left (bound_in c) (bound_in_parts rest) d.1;
        index = f g.index (itself g.index more);
        within = λ y h. f y (behind_first y g.index more (in_left y (bound_in c) (bound_in_parts rest) h));
      },
      parts_inside whole rest (λ y h. f y (behind_first y g.index more (in_right y (bound_in c) (bound_in_parts rest) h))) (distinct_right (bound_in c) (bound_in_parts rest) d.1),
    )

-- ---- a body

module _ (before after : List LetTerm) (z : Var) (s : Site) (frame : List Grid1) (base : Base) (inner : PartsTerm) where
  abbrev pub nested : BlockTerm
  nested = chain before (Bind (z ∷ []) s (Parted frame base [] parted.Genarray inner) (chain after (Gives (z ∷ []))))

  abbrev all : List Var
  all = bound_in_parts inner

  tail_is : bound_in (chain after (Gives (z ∷ []))) ≡ ends after ++ []
  tail_is = bound_chain after (Gives (z ∷ []))

  bound_is : bound_in nested ≡ ends before ++ (z ∷ (all ++ bound_in (chain after (Gives (z ∷ [])))))
  bound_is = bound_chain before (Bind (z ∷ []) s (Parted frame base [] parted.Genarray inner) (chain after (Gives (z ∷ []))))

  module _ (d : Distinct (bound_in nested)) where
    whole_once : Distinct (ends before ++ (z ∷ (all ++ bound_in (chain after (Gives (z ∷ []))))))
    whole_once = subst Distinct bound_is d

    behind_once : Distinct (all ++ bound_in (chain after (Gives (z ∷ []))))
    behind_once = (distinct_right (ends before) (z ∷ (all ++ bound_in (chain after (Gives (z ∷ []))))) whole_once).1

    after_in : (y : Var) → is_in y (ends after) ≡ true → is_in y (bound_in (chain after (Gives (z ∷ [])))) ≡ true
    after_in y h = ap (is_in y) tail_is ∙ in_left y (ends after) [] h

    after_once : Distinct (ends after)
    after_once = distinct_left (ends after) [] (subst Distinct tail_is (distinct_right all (bound_in (chain after (Gives (z ∷ [])))) behind_once))

    pub inner_once : Distinct all
    inner_once = distinct_left all (bound_in (chain after (Gives (z ∷ [])))) behind_once

    before_apart : (y : Var) → is_in y (ends before) ≡ true → is_in y (z ∷ (all ++ bound_in (chain after (Gives (z ∷ []))))) ≡ false
    before_apart = distinct_apart (ends before) (z ∷ (all ++ bound_in (chain after (Gives (z ∷ []))))) whole_once

    in_whole : (y : Var) → is_in y (all ++ bound_in (chain after (Gives (z ∷ [])))) ≡ true → is_in y (z ∷ (all ++ bound_in (chain after (Gives (z ∷ []))))) ≡ true
    in_whole y h = behind_first y z (all ++ bound_in (chain after (Gives (z ∷ [])))) h

    -- the bindings around the loop and the body of a part
    pub around_once : (c : BlockTerm) → Distinct (bound_in c) → ((y : Var) → is_in y (bound_in c) ≡ true → is_in y all ≡ true) → Distinct (bound_in (chain (before ++ after) c))
    around_once c o within =
        subst Distinct (sym (ap bound_in (chain_append before after c) ∙ bound_chain before (chain after c) ∙ ap (λ xs. ends before ++ xs) (bound_chain after c)))
        (distinct_both (ends before) (ends after ++ bound_in c) (distinct_left (ends before) (z ∷ (all ++ bound_in (chain after (Gives (z ∷ []))))) whole_once)
        (distinct_both (ends after) (bound_in c) after_once o after_apart) front_apart)
      where
        after_apart : (y : Var) → is_in y (ends after) ≡ true → is_in y (bound_in c) ≡ false
        after_apart y h = not_in y (bound_in c) (λ m. clash (is_in y (bound_in (chain after (Gives (z ∷ []))))) (after_in y h) (distinct_apart all (bound_in (chain after (Gives (z ∷ [])))) behind_once y (within y m)))

        front_apart : (y : Var) → is_in y (ends before) ≡ true → is_in y (ends after ++ bound_in c) ≡ false
        front_apart y h = not_in y (ends after ++ bound_in c) (λ m. go (in_either y (ends after) (bound_in c) m))
          where
            go : (is_in y (ends after) ≡ true) ⊎ (is_in y (bound_in c) ≡ true) → ⊥
            go (inl m) = clash (is_in y (z ∷ (all ++ bound_in (chain after (Gives (z ∷ [])))))) (in_whole y (in_right y all (bound_in (chain after (Gives (z ∷ [])))) (after_in y m))) (before_apart y h)
            go (inr m) = clash (is_in y (z ∷ (all ++ bound_in (chain after (Gives (z ∷ [])))))) (in_whole y (in_left y all (bound_in (chain after (Gives (z ∷ [])))) (within y m))) (before_apart y h)

    -- what they bind, the body binds
    pub around_within : (c : BlockTerm) → ((y : Var) → is_in y (bound_in c) ≡ true → is_in y all ≡ true) → (y : Var) → is_in y (bound_in (chain (before ++ after) c)) ≡ true → is_in y (bound_in nested) ≡ true
    around_within c within y h =
        ap (is_in y) bound_is
        ∙ go (in_either y (ends before) (ends after ++ bound_in c) (sym (ap (is_in y) (ap bound_in (chain_append before after c) ∙ bound_chain before (chain after c) ∙ ap (λ xs. ends before ++ xs) (bound_chain after c))) ∙ h))
      where
        side : (is_in y (ends after) ≡ true) ⊎ (is_in y (bound_in c) ≡ true) → is_in y (z ∷ (all ++ bound_in (chain after (Gives (z ∷ []))))) ≡ true
        side (inl m) = in_whole y (in_right y all (bound_in (chain after (Gives (z ∷ [])))) (after_in y m))
        side (inr m) = in_whole y (in_left y all (bound_in (chain after (Gives (z ∷ [])))) (within y m))

        go : (is_in y (ends before) ≡ true) ⊎ (is_in y (ends after ++ bound_in c) ≡ true) → is_in y (ends before ++ (z ∷ (all ++ bound_in (chain after (Gives (z ∷ [])))))) ≡ true
        go (inl m) = in_left y (ends before) (z ∷ (all ++ bound_in (chain after (Gives (z ∷ []))))) m
        go (inr m) = in_right y (ends before) (z ∷ (all ++ bound_in (chain after (Gives (z ∷ []))))) (side (in_either y (ends after) (bound_in c) m))

    pub parts_within : (y : Var) → is_in y all ≡ true → is_in y (bound_in nested) ≡ true
    parts_within y h = ap (is_in y) bound_is ∙ in_right y (ends before) (z ∷ (all ++ bound_in (chain after (Gives (z ∷ []))))) (in_whole y (in_left y all (bound_in (chain after (Gives (z ∷ [])))) h))

-- ---- what is in scope is not bound

pub scope_apart : (b : BlockTerm) (scope : List Var) (y : Var) → Scoped scope b → is_in y scope ≡ true → is_in y (bound_in b) ≡ false
scope_apart b scope y s h = not_in y (bound_in b) (λ m. clash (is_in y scope) h (none_at y (bound_in b) scope (bound_new b scope s) m))
