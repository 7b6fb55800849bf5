-- The parts that are made are merged parts, with bodies that bind what they are copies of.
use Rattle.std.proofs.Common.{◌≡◌, ℕ, zero, suc, ◌+◌, ◌<◌, ◌≤◌, Bool, true, false, ◌||◌, eqb, List, [], ◌∷◌, ◌++◌, length, take, drop, All, Option, refl, sym, ap, subst, ◌∙◌, arith, ◌⊎◌, inl, inr}
use Rattle.std.proofs.lemmas.List.{length-append, length-drop, length-take-le, take-append-drop}
use Rattle.std.proofs.lemmas.List.Elements.{All-append, All-cons, All-head, All-nil, All-tail}
use Rattle.sac_base.specs.declared.base.Base.{Base}
use Rattle.sac_base.specs.declared.grid.Grid1.{Grid1}
use Rattle.sac_base.specs.declared.site.Site.{Site}
use Rattle.core_ir.specs.declared.tree.Var.{Var}
use Rattle.core_ir.specs.Binders.{is_in, bound_in, bound_in_parts}
use Rattle.core_ir.specs.Scopes.{Scoped, ScopedParts}
use Rattle.core_ir.specs.Terms.{BlockTerm, PartsTerm, LetTerm, PartTerm, PartHead, Gives, Bind, NoParts, Part, Parted, chain, parts_of}
use Rattle.core_ir.specs.Uses.{AvoidsParts, targets_of}
use Rattle.core_ir.specs.WellFormed.{Distinct, part_grids}
use Rattle.core_ir.proofs.Variables.{or_false}
use Rattle.core_facts.specs.Facts.{Facts, in_part}
use Rattle.core_subst.specs.copy.Mapped.{mapped}
use Rattle.core_loops.specs.Indices.{own_index}
use Rattle.core_loops.specs.Pairs.{IsNest, Nests}
use Rattle.core_loops.specs.Steps.{append_parts}
use Rattle.core_loops.specs.merge_steps.Step.{IndicesMade, InnerMerged, MergedBody, MergedParts, Picks}
use Rattle.core_forms.specs.merge.Built.{AllParts, index_lets, picks}
use Rattle.core_forms.specs.merge.Fresh.{AlikeInner, AlikeMerged}
use Rattle.core_forms.proofs.merge.Built.{bodies_merged}
use Rattle.core_forms.proofs.merge.Inner.{inner_parts}
use Rattle.core_forms.proofs.inlined_bodies.Names.{behind_first, clash, distinct_left, distinct_right, in_either, in_left, itself}
use Rattle.core_forms.specs.norm.Alike.{Alike}
use Rattle.core_forms.proofs.norm.Named.{order_between, order_distinct}
use Rattle.core_forms.proofs.norm.Scopes.{in_right}
use Rattle.core_subst.specs.Names.{variable}
use Rattle.parted_bodies.specs.Making.{binds_of}
use Rattle.merge_plans.specs.Mergeable.{FitBehind, GridsFit}
use Rattle.merge_plans.specs.Openings.{Opened}
use Rattle.merge_plans.proofs.Opens.{nest_opens}
use Rattle.merged_parts.specs.Merging.{every_other, merged_all, merged_at, merged_inner, merged_opened, merged_part, part_list}
use Rattle.core_forms.specs.norm.Copied.{AreFrom}
use Rattle.merge_walk.proofs.planned_merges.Made.{bound_parts, inner_from, front_count, front_from, names_of, number_of, own_picks, OneEach}
use Rattle.merge_walk.proofs.planned_merges.Numbering.{from_both, keeps, not_new, old_stays, other_than, turned}
use Rattle.merge_walk.proofs.planned_merges.Sides.{Inside, around_once, around_within, inner_once, nested, parts_inside, parts_within, scope_apart}

-- ---- bodies behind equally many bindings

abbrev rest_of : BlockTerm → BlockTerm
rest_of (Gives xs) = Gives xs
rest_of (Bind xs s r b) = b

chain_same : (ls ms : List LetTerm) (b c : BlockTerm) → length ls ≡ length ms → chain ls b ≡ chain ms c → b ≡ c
chain_same [] [] b c h e = e
chain_same [] (m ∷ ms) b c h e = absurd (omega (arith, h))
chain_same (l ∷ ls) [] b c h e = absurd (omega (arith, h))
chain_same (l ∷ ls) (m ∷ ms) b c h e = chain_same ls ms b c (omega (arith, h)) (ap rest_of e)

picks_long : (s : Site) (u : Var) (j : ℕ) (xs cs : List Var) → length cs ≡ length xs → length (picks s u j xs cs) ≡ length xs + length xs
picks_long s u j [] cs h = refl
picks_long s u j (x ∷ xs) [] h = absurd (omega (arith, h))
picks_long s u j (x ∷ xs) (c ∷ cs) h = let rest = picks_long s u (suc j) xs cs (omega (arith, h)) in omega (arith, rest)

picked_long : (u : Var) (j : ℕ) (xs : List Var) (ls : List LetTerm) → Picks u j xs ls → length ls ≡ length xs + length xs
picked_long u j [] ls h = ap length h
picked_long u j (x ∷ xs) ls h =
    let w = h.1.1.1 in
    let rest = picked_long u (suc j) xs w.0 w.1.4 in
    let e = ap length w.1.0 in
    omega (arith, rest, e)

makes_long : (u i l : Var) (n m : ℕ) (makes : List LetTerm) → IndicesMade u i l n m makes → length makes ≡ suc (suc ((n + m) + (n + m)))
makes_long u i l n m makes h =
    let one = ap length h.made in
    let two = length-append h.picks (record { targets = i ∷ []; site = h.first; right = Rattle.core_ir.specs.Terms.Plain (Rattle.core_ir.specs.Terms.PlainTerm.Literal h.front) }
    ∷ record { targets = l ∷ []; site = h.second; right = Rattle.core_ir.specs.Terms.Plain (Rattle.core_ir.specs.Terms.PlainTerm.Literal h.back) } ∷ []) in
    let three = picked_long u 0 (h.front ++ h.back) h.picks h.picked in
    let four = length-append h.front h.back in
    let five = h.in_front in
    let six = h.behind in
    omega (arith, one, two, three, four, five, six)

every_long : (k n : ℕ) → length (every_other k n) ≡ k
every_long zero n = refl
every_long (suc k) n = ap suc (every_long k (suc (suc n)))

-- ---- one part

-- what is known at a part of an inner loop: `outside` is in scope around the outer loop, and all old variables are below `low`
pub record Stands (low : ℕ) (outside : List Var) (outer : Var) (lets : List LetTerm) (g : PartHead) (c : BlockTerm) : Type 0 where
  pub apart : is_in g.index (outer ∷ outside) ≡ false
  pub scoped : Scoped (g.index ∷ (outer ∷ outside)) (chain lets c)
  pub once : Distinct (bound_in (chain lets c))
  pub bound_below : (y : Var) → is_in y (bound_in (chain lets c)) ≡ true → y.0 < low
  pub index_below : g.index.0 < low

module _ (low n : ℕ) (outside : List Var) (h : PartHead) (before after : List LetTerm) (late : low ≤ n) (hidden : is_in h.index outside ≡ false) (own_below : h.index.0 < low)
    (scope_below : (y : Var) → is_in y outside ≡ true → y.0 < low) (g : PartHead) (c : BlockTerm) (w : Stands low outside h.index (before ++ after) g c) where
  abbrev lets : List LetTerm
  lets = before ++ after

  abbrev part : PartTerm
  part = record { head = g; body = c }

  abbrev vars : List Var
  vars = every_other (length h.grid + length g.grid) (suc (suc n))

  abbrev f : Var → Var
  f = names_of h.grid h.index lets part n

  abbrev bound : List Var
  bound = bound_in (chain lets c)

  in_scope_index : is_in g.index (g.index ∷ (h.index ∷ outside)) ≡ true
  in_scope_index = itself g.index (h.index ∷ outside)

  in_scope_outer : is_in h.index (g.index ∷ (h.index ∷ outside)) ≡ true
  in_scope_outer = behind_first h.index g.index (h.index ∷ outside) (itself h.index outside)

  pub each_once : OneEach h.grid h.index lets g c
  each_once = (
    Rattle.core_forms.proofs.inlined_bodies.Names.in_none h.index (g.index ∷ []) bound
        ((λ i. turned h.index.0 g.index.0 ((or_false (eqb h.index.0 g.index.0) (is_in g.index outside) w.apart).0) i || false)) (scope_apart (chain lets c) (g.index ∷ (h.index ∷ outside)) h.index w.scoped in_scope_outer),
    (scope_apart (chain lets c) (g.index ∷ (h.index ∷ outside)) g.index w.scoped in_scope_index, w.once),
  )

  number_late : low ≤ number_of h.grid h.index lets part n
  number_late = omega (arith, late)

  -- all old variables are below the new ones
  old_below : (y : Var) → is_in y (bound ++ ((g.index ∷ h.index ∷ []) ++ outside)) ≡ true → y.0 < low
  old_below y m = go (in_either y bound ((g.index ∷ h.index ∷ []) ++ outside) m)
    where
      one : (b : Bool) (x : Var) → eqb x.0 y.0 ≡ b → x.0 < low → (b || is_in y outside) ≡ true → (is_in y outside ≡ true → y.0 < low) → y.0 < low
      one true x e k p q = subst (λ (v : Var). v.0 < low) (Rattle.core_ir.proofs.Variables.same_number x y e) k
      one false x e k p q = q p

      two : (b : Bool) → eqb g.index.0 y.0 ≡ b → (b || is_in y (h.index ∷ outside)) ≡ true → y.0 < low
      two true e p = subst (λ (v : Var). v.0 < low) (Rattle.core_ir.proofs.Variables.same_number g.index y e) w.index_below
      two false e p = one (eqb h.index.0 y.0) h.index refl own_below p (λ k. scope_below y k)

      go : (is_in y bound ≡ true) ⊎ (is_in y ((g.index ∷ h.index ∷ []) ++ outside) ≡ true) → y.0 < low
      go (inl k) = w.bound_below y k
      go (inr k) = two (eqb g.index.0 y.0) refl k

  trans : (a b d : ℕ) → a < b → b ≤ d → a < d
  trans a b d p q = omega arith

  below_number : (y : Var) → is_in y (bound ++ ((g.index ∷ h.index ∷ []) ++ outside)) ≡ true → y.0 < number_of h.grid h.index lets part n
  below_number y m = trans y.0 low (number_of h.grid h.index lets part n) (old_below y m) number_late

  vars_long : length vars ≡ length h.grid + length g.grid
  vars_long = every_long (length h.grid + length g.grid) (suc (suc n))

  both_is : take (length h.grid) vars ++ drop (length h.grid) vars ≡ vars
  both_is = take-append-drop (length h.grid) vars

  front_long : length (take (length h.grid) vars) ≡ length h.grid
  front_long = let l = vars_long in length-take-le (length h.grid) vars (omega (arith, l))

  back_long : length (drop (length h.grid) vars) ≡ length g.grid
  back_long = let l = vars_long in let d = length-drop (length h.grid) vars in omega (arith, l, d)

  picks_are : picks g.site (variable n) 0 (take (length h.grid) vars ++ drop (length h.grid) vars) (every_other (length h.grid + length g.grid) (suc n)) ≡ own_picks h.grid h.index lets part n
  picks_are = ap (λ xs. picks g.site (variable n) 0 xs (every_other (length h.grid + length g.grid) (suc n))) both_is

  front_list : List Var
  front_list = variable n ∷ targets_of (own_picks h.grid h.index lets part n)

  pub merged_here : (m : MergedBody h before after g c (merged_at h.grid h.index lets part n).head (merged_at h.grid h.index lets part n).body) × Alike (chain lets c) m.body
  merged_here =
      let j = (merged_at h.grid h.index lets part n).head in
      let s = g.site in
      let cs = every_other (length h.grid + length g.grid) (suc n) in
      let front = take (length h.grid) vars in
      let back = drop (length h.grid) vars in
      let long : length cs ≡ length (front ++ back) = every_long (length h.grid + length g.grid) (suc n) ∙ sym vars_long ∙ ap length (sym both_is) in
      let made = bodies_merged f s h g j before after c outside front back cs w.scoped
      ((λ i. (or_false (eqb h.index.0 g.index.0) (is_in g.index outside) w.apart).0 i || false), (refl, tt))
      (λ x y p q. keeps (h.index ∷ g.index ∷ bound) (number_of h.grid h.index lets part n) each_once x y (below_number x p) (below_number y q))
      (λ x m. old_stays (h.index ∷ g.index ∷ bound) (number_of h.grid h.index lets part n) each_once x (not_copied x m))
      front_long back_long long
      (subst (λ ls. Distinct (variable n ∷ targets_of ls)) (sym picks_are) (order_distinct n (variable n ∷ targets_of (own_picks h.grid h.index lets part n)) (front_from h.grid h.index lets part n)))
      (λ x y p q. apart x y (ap (λ ls. is_in x (variable n ∷ targets_of ls)) (sym picks_are) ∙ p) q) in
      let same : mapped f (chain lets c) ≡ made.0.body =
      chain_same (index_lets s (variable n) front back cs (f h.index) (f g.index)) made.0.makes (mapped f (chain lets c)) made.0.body (equal made.0 long) made.0.whole in
      (made.0, subst (λ (b : BlockTerm). Alike (chain lets c) b) same made.1)
    where
      not_copied : (x : Var) → is_in x outside ≡ true → is_in x (h.index ∷ g.index ∷ bound) ≡ false
      not_copied x m =
          Rattle.core_forms.proofs.inlined_bodies.Names.in_none x (h.index ∷ g.index ∷ []) bound
          (Rattle.core_forms.proofs.inlined_bodies.Names.in_none x (h.index ∷ []) (g.index ∷ []) (λ i. other_than h.index x outside hidden m i || false)
          (λ i. other_than g.index x outside (or_false (eqb h.index.0 g.index.0) (is_in g.index outside) w.apart).1 m i || false))
          (scope_apart (chain lets c) (g.index ∷ (h.index ∷ outside)) x w.scoped (behind_first x g.index (h.index ∷ outside) (behind_first x h.index outside m)))

      apart : (x y : Var) → is_in x (variable n ∷ targets_of (own_picks h.grid h.index lets part n)) ≡ true → is_in y (bound ++ ((g.index ∷ h.index ∷ []) ++ outside)) ≡ true → eqb x.0 (f y).0 ≡ false
      apart x y p q =
          let b = order_between n (variable n ∷ targets_of (own_picks h.grid h.index lets part n)) (front_from h.grid h.index lets part n) x p in
          let low_x = b.0 in
          let high_x = b.1 in
          let count = front_count h.grid h.index lets part n in
          not_new (h.index ∷ g.index ∷ bound) (number_of h.grid h.index lets part n) each_once low x y (omega (arith, late, low_x)) (omega (arith, high_x, count)) (old_below y q)

      equal : (m : MergedBody h before after g c (merged_at h.grid h.index lets part n).head (merged_at h.grid h.index lets part n).body) →
          length (every_other (length h.grid + length g.grid) (suc n)) ≡ length (take (length h.grid) vars ++ drop (length h.grid) vars) →
          length (index_lets g.site (variable n) (take (length h.grid) vars) (drop (length h.grid) vars) (every_other (length h.grid + length g.grid) (suc n)) (f h.index) (f g.index)) ≡ length m.makes
      equal m long =
          let one = makes_long (variable n) m.outer m.inner (length h.grid) (length g.grid) m.makes m.made in
          let both = take (length h.grid) vars ++ drop (length h.grid) vars in
          let cs = every_other (length h.grid + length g.grid) (suc n) in
          let two = picks_long g.site (variable n) 0 both cs long in
          let three = length-append (picks g.site (variable n) 0 both cs)
          (record { targets = f h.index ∷ []; site = g.site; right = Rattle.core_ir.specs.Terms.Plain (Rattle.core_ir.specs.Terms.PlainTerm.Literal (take (length h.grid) vars)) }
          ∷ record { targets = f g.index ∷ []; site = g.site; right = Rattle.core_ir.specs.Terms.Plain (Rattle.core_ir.specs.Terms.PlainTerm.Literal (drop (length h.grid) vars)) } ∷ []) in
          let four = ap length both_is in
          let five = vars_long in
          omega (arith, one, two, three, four, five)

-- ---- the parts of an inner loop

module _ (low : ℕ) (outside : List Var) (h : PartHead) (before after : List LetTerm) (hidden : is_in h.index outside ≡ false) (own_below : h.index.0 < low)
    (scope_below : (y : Var) → is_in y outside ≡ true → y.0 < low) where
  pub inner_merged :
      (n : ℕ) → low ≤ n → (inner : PartsTerm) → AllParts (Stands low outside h.index (before ++ after)) inner →
      (m : InnerMerged h before after inner (parts_of (merged_inner h.grid h.index (before ++ after) (part_list inner) n))) × AlikeInner h before after inner (parts_of (merged_inner h.grid h.index (before ++ after) (part_list inner) n)) m
  inner_merged n late NoParts w = (refl, tt)
  inner_merged n late (Part g c rest) w =
      let first = merged_here low n outside h before after late hidden own_below scope_below g c w.0 in
      let count = binds_of (merged_at h.grid h.index (before ++ after) (record { head = g; body = c }) n ∷ []) in
      let others = inner_merged (n + count) (omega (arith, late)) rest w.1 in
      ((refl, refl, first.0, others.0), (first.1, others.1))

  pub all_once : (n : ℕ) → low ≤ n → (inner : PartsTerm) → AllParts (Stands low outside h.index (before ++ after)) inner → AllParts (OneEach h.grid h.index (before ++ after)) inner
  all_once n late NoParts w = tt
  all_once n late (Part g c rest) w = (each_once low n outside h before after late hidden own_below scope_below g c w.0, all_once n late rest w.1)

-- ---- what is known at each part

both_all : (P Q R : PartHead → BlockTerm → Type 0) → ((g : PartHead) (c : BlockTerm) → P g c → Q g c → R g c) → (inner : PartsTerm) → AllParts P inner → AllParts Q inner → AllParts R inner
both_all P Q R f NoParts p q = tt
both_all P Q R f (Part g c rest) p q = (f g c p.0 q.0, both_all P Q R f rest p.1 q.1)

module _ (called : ℕ → List (Option (List ℕ))) (k : Facts) (frame : List Grid1) (base : Base) (low : ℕ) (scope : List Var) (scope_below : (y : Var) → is_in y scope ≡ true → y.0 < low) where
  pub record AtPart (h : PartHead) (b : BlockTerm) : Type 0 where
    pub hidden : is_in h.index scope ≡ false
    pub scoped : Scoped (h.index ∷ scope) b
    pub once : Distinct (bound_in b)
    pub below : (y : Var) → is_in y (bound_in b) ≡ true → y.0 < low
    pub own : h.index.0 < low

  abbrev NestAt : PartHead → BlockTerm → PartsTerm → Type 0
  NestAt h b inner = IsNest called (in_part k h) h.grid (own_index (length h.grid) h.index) frame base b inner

  avoids : (h : PartHead) (b : BlockTerm) (inner : PartsTerm) → (w : NestAt h b inner) → AtPart h b → AvoidsParts w.z inner
  avoids h b inner w a = (inner_parts called (in_part k h) h.grid (own_index (length h.grid) h.index) frame base b inner w h.index scope a.scoped a.once).0

  stand : (h : PartHead) (b : BlockTerm) (inner : PartsTerm) → (w : NestAt h b inner) → AtPart h b → AllParts (Stands low scope h.index (w.before ++ w.after)) inner
  stand h b inner w a =
      both_all (λ g c. (is_in g.index (h.index ∷ scope) ≡ false) × Scoped (g.index ∷ (h.index ∷ scope)) (chain (w.before ++ w.after) c)) (Inside (bound_in_parts inner)) (Stands low scope h.index (w.before ++ w.after))
      (λ g c p q. record {
        apart = p.0;
        scoped = p.1;
        once = around_once w.before w.after w.z w.site frame base inner once c q.once q.within;
        bound_below = λ y m. a.below y (ap (λ x. is_in y (bound_in x)) w.whole ∙ around_within w.before w.after w.z w.site frame base inner once c q.within y m);
        index_below = a.below g.index (ap (λ x. is_in g.index (bound_in x)) w.whole ∙ parts_within w.before w.after w.z w.site frame base inner once g.index q.index);
      }) inner
      (inner_parts called (in_part k h) h.grid (own_index (length h.grid) h.index) frame base b inner w h.index scope a.scoped a.once).1
      (parts_inside (bound_in_parts inner) inner (λ y m. m) (inner_once w.before w.after w.z w.site frame base inner once))
    where
      once : Distinct (bound_in (nested w.before w.after w.z w.site frame base inner))
      once = subst (λ (x : BlockTerm). Distinct (bound_in x)) w.whole a.once

  -- ---- all parts

  parts_append : (xs ys : List PartTerm) → parts_of (xs ++ ys) ≡ append_parts (parts_of xs) (parts_of ys)
  parts_append [] ys = refl
  parts_append (x ∷ xs) ys = ap (Part x.head x.body) (parts_append xs ys)

  pub record Result (ps : List PartTerm) (n count : ℕ) (w : Nests called k frame base (parts_of ps) count) : Type 0 where
    pub parts : MergedParts called k frame base (parts_of ps) count w (parts_of (merged_all ps n))
    pub alike : AlikeMerged called k frame base (parts_of ps) count w (parts_of (merged_all ps n)) parts
    pub order : AreFrom n (bound_in_parts (parts_of (merged_all ps n)))

  part_made : (p : PartTerm) (n : ℕ) (inner : PartsTerm) → (w : NestAt p.head p.body inner) → merged_part p n ≡ merged_inner p.head.grid p.head.index (w.before ++ w.after) (part_list inner) n
  part_made p n inner w =
      ap (λ (t : Option Opened). merged_opened p.head t n) (nest_opens called (in_part k p.head) p.head.grid (own_index (length p.head.grid) p.head.index) frame base p.body inner w)

  pub all_merged :
      (ps : List PartTerm) (n : ℕ) → low ≤ n → ScopedParts scope (parts_of ps) → Distinct (bound_in_parts (parts_of ps)) → ((y : Var) → is_in y (bound_in_parts (parts_of ps)) ≡ true → y.0 < low) →
      (count : ℕ) → (w : Nests called k frame base (parts_of ps) count) → Result ps n count w
  all_merged [] n late s d low_of count w = record { parts = refl; alike = tt; order = tt }
  all_merged (p ∷ ps) n late s d low_of count w =
      let h = p.head in
      let more = bound_in p.body ++ bound_in_parts (parts_of ps) in
      let nest = w.1.1.0 in
      let at : AtPart h p.body = record {
        hidden = s.0;
        scoped = s.1;
        once = distinct_left (bound_in p.body) (bound_in_parts (parts_of ps)) d.1;
        below = λ y m. low_of y (behind_first y h.index more (in_left y (bound_in p.body) (bound_in_parts (parts_of ps)) m));
        own = low_of h.index (itself h.index more);
      } in
      let stands = stand h p.body w.0 nest at in
      let own = merged_inner h.grid h.index (nest.before ++ nest.after) (part_list w.0) n in
      let made = part_made p n w.0 nest in
      let next = n + binds_of (merged_part p n) in
      let rest = all_merged ps next (omega (arith, late)) s.2 (distinct_right (bound_in p.body) (bound_in_parts (parts_of ps)) d.1)
      (λ y m. low_of y (behind_first y h.index more (in_right y (bound_in p.body) (bound_in_parts (parts_of ps)) m))) w.1.0 w.1.1.1 in
      let inner = inner_merged low scope h nest.before nest.after s.0 at.own scope_below n late w.0 stands in
      let first = inner_from h.grid h.index (nest.before ++ nest.after) w.0 n (all_once low scope h nest.before nest.after s.0 at.own scope_below n late w.0 stands) in
      record {
        parts = (parts_of own, (parts_of (merged_all ps next), (parts_append (merged_part p n) (merged_all ps next) ∙ ap (λ xs. append_parts (parts_of xs) (parts_of (merged_all ps next))) made, avoids h p.body w.0 nest at, inner.0, rest.parts)));
        alike = (inner.1, rest.alike);
        order = subst (AreFrom n) (sym (bound_parts (merged_part p n) (merged_all ps next)))
            (from_both n (bound_in_parts (parts_of (merged_part p n))) (bound_in_parts (parts_of (merged_all ps next)))
            (subst (λ xs. AreFrom n (bound_in_parts (parts_of xs))) (sym made) first) rest.order);
      }

  -- ---- axes

  abbrev Small : List Grid1 → Type 0
  Small g = length g ≤ 8

  inner_small : (grid : List Grid1) (outer : Var) (lets : List LetTerm) (inner : PartsTerm) (n : ℕ) → FitBehind grid inner → All Small (part_grids (parts_of (merged_inner grid outer lets (part_list inner) n)))
  inner_small grid outer lets NoParts n h = All-nil Small
  inner_small grid outer lets (Part g c rest) n h =
      let count = binds_of (merged_at grid outer lets (record { head = g; body = c }) n ∷ []) in
      let fits = All-head (λ (x : List Grid1). length grid + length x ≤ 8) g.grid (part_grids rest) h in
      let long = length-append grid g.grid in
      All-cons Small (grid ++ g.grid) (part_grids (parts_of (merged_inner grid outer lets (part_list rest) (n + count)))) (omega (arith, fits, long))
      (inner_small grid outer lets rest (n + count) (All-tail (λ (x : List Grid1). length grid + length x ≤ 8) g.grid (part_grids rest) h))

  grids_parts : (xs ys : List PartTerm) → part_grids (parts_of (xs ++ ys)) ≡ part_grids (parts_of xs) ++ part_grids (parts_of ys)
  grids_parts [] ys = refl
  grids_parts (x ∷ xs) ys = ap (λ l. x.head.grid ∷ l) (grids_parts xs ys)

  pub all_small : (ps : List PartTerm) (n count : ℕ) → (w : Nests called k frame base (parts_of ps) count) → GridsFit called k frame base (parts_of ps) count w → All Small (part_grids (parts_of (merged_all ps n)))
  all_small [] n count w g = All-nil Small
  all_small (p ∷ ps) n count w g =
      let nest = w.1.1.0 in
      let next = n + binds_of (merged_part p n) in
      subst (All Small) (sym (grids_parts (merged_part p n) (merged_all ps next)))
      (All-append Small (part_grids (parts_of (merged_part p n))) (part_grids (parts_of (merged_all ps next)))
      (subst (λ xs. All Small (part_grids (parts_of xs))) (sym (part_made p n w.0 nest)) (inner_small p.head.grid p.head.index (nest.before ++ nest.after) w.0 n g.0)) (all_small ps next w.1.0 w.1.1.1 g.1))
