-- A copy behind bindings that make the two old indices is a merged body.
use Rattle.std.proofs.Common.{◌≡◌, ℕ, suc, Bool, true, false, ◌||◌, eqb, List, [], ◌∷◌, ◌++◌, length, refl, sym, ap, subst, ◌∙◌, arith}
use Rattle.std.proofs.lemmas.Bool.{eq-eqb}
use Rattle.sac_base.specs.declared.site.Site.{Site}
use Rattle.core_ir.specs.declared.tree.Var.{Var}
use Rattle.core_ir.specs.Binders.{is_in, bound_in}
use Rattle.core_ir.specs.Renaming.{Renamed, under}
use Rattle.core_ir.specs.Scopes.{Scoped}
use Rattle.core_ir.specs.Terms.{BlockTerm, LetTerm, PartHead, Bind, chain}
use Rattle.core_ir.specs.Uses.{Avoids, AvoidsEach, targets_of}
use Rattle.core_ir.specs.WellFormed.{Distinct}
use Rattle.core_ir.proofs.Variables.{or_false, same_number}
use Rattle.core_subst.specs.copy.Mapped.{mapped}
use Rattle.core_loops.specs.Steps.{itself}
use Rattle.core_loops.specs.merge_steps.Step.{MergedBody, Picks}
use Rattle.core_forms.proofs.inlined_bodies.Names.{behind_first, clash, in_either, in_left, not_in}
use Rattle.core_forms.proofs.inlined_bodies.Names as names
use Rattle.core_forms.specs.norm.Alike.{Alike}
use Rattle.core_forms.proofs.norm.Copies.{Inside, alike, links_one, renamed}
use Rattle.core_forms.proofs.norm.Named.{copies_named}
use Rattle.core_forms.proofs.norm.Scopes.{in_right}
use Rattle.core_forms.specs.merge.Built.{index_lets, merged_body, picks}

-- ---- components

other_than : (x y : Var) (xs : List Var) → is_in x xs ≡ false → is_in y xs ≡ true → eqb x.0 y.0 ≡ false
other_than x y xs n m = go (eqb x.0 y.0) refl
  where
    go : (b : Bool) → eqb x.0 y.0 ≡ b → eqb x.0 y.0 ≡ false
    go true e = clash (is_in y xs) m ((λ i. is_in (sym (same_number x y e) i) xs) ∙ n)
    go false e = e

turned : (x y : Var) → eqb x.0 y.0 ≡ false → eqb y.0 x.0 ≡ false
turned x y n = go (eqb y.0 x.0) refl
  where
    go : (b : Bool) → eqb y.0 x.0 ≡ b → eqb y.0 x.0 ≡ false
    go true e = clash (eqb x.0 y.0) (eq-eqb x.0 y.0 (ap (λ (z : Var). z.0) (sym (same_number y x e)))) n
    go false e = e

pub picked : (s : Site) (u : Var) (j : ℕ) (xs cs : List Var) → length cs ≡ length xs → Distinct (u ∷ targets_of (picks s u j xs cs)) → Picks u j xs (picks s u j xs cs)
picked s u j [] cs l d = refl
picked s u j (x ∷ xs) [] l d = absurd (omega (arith, l))
picked s u j (x ∷ xs) (c ∷ cs) l d =
    let more = picks s u (suc j) xs cs in
    let all = c ∷ (x ∷ targets_of more) in
    let first = or_false (eqb c.0 u.0) (is_in u (x ∷ targets_of more)) d.0 in
    let second = or_false (eqb x.0 u.0) (is_in u (targets_of more)) first.1 in
    (c, (s, (s, (more, (refl, first.0, second.0, d.1.1.0, picked s u (suc j) xs cs (omega (arith, l)) (second.1, d.1.1.1))))))

-- each component is bound
pub in_picks : (s : Site) (u : Var) (j : ℕ) (xs cs : List Var) → length cs ≡ length xs → (y : Var) → is_in y xs ≡ true → is_in y (targets_of (picks s u j xs cs)) ≡ true
in_picks s u j [] cs l y h = clash false h refl
in_picks s u j (x ∷ xs) [] l y h = absurd (omega (arith, l))
in_picks s u j (x ∷ xs) (c ∷ cs) l y h = go (eqb x.0 y.0) h (in_picks s u (suc j) xs cs (omega (arith, l)) y)
  where
    rest : List Var
    rest = targets_of (picks s u (suc j) xs cs)

    over : (b : Bool) (t : Bool) → t ≡ true → (b || t) ≡ true
    over true t e = refl
    over false t e = e

    go : (b : Bool) → (b || is_in y xs) ≡ true → (is_in y xs ≡ true → is_in y rest ≡ true) → (eqb c.0 y.0 || (b || is_in y rest)) ≡ true
    go true m f = over (eqb c.0 y.0) true refl
    go false m f = over (eqb c.0 y.0) (is_in y rest) (f m)

-- ---- what a copy does not use

abbrev first_target : Var → BlockTerm → Var
first_target v (Bind (x ∷ xs) s r b) = x
first_target v _ = v

abbrev after_two : BlockTerm → BlockTerm → BlockTerm
after_two v (Bind xs s r (Bind ys t q b)) = b
after_two v _ = v

module _ (f : Var → Var) (s : Site) (index below : Var) (outside : List Var) (body : BlockTerm) (scoped : Scoped ((index ∷ below ∷ []) ++ outside) body) (two : Distinct (index ∷ below ∷ []))
    (apart : (x y : Var) → is_in x (bound_in body ++ ((index ∷ below ∷ []) ++ outside)) ≡ true → is_in y (bound_in body ++ ((index ∷ below ∷ []) ++ outside)) ≡ true → eqb (f x).0 (f y).0 ≡ eqb x.0 y.0)
    (same : (x : Var) → is_in x outside ≡ true → f x ≡ x) where
  abbrev all : List Var
  all = bound_in body ++ ((index ∷ below ∷ []) ++ outside)

  not_copied : (c : Var) → ((x : Var) → is_in x all ≡ true → eqb c.0 (f x).0 ≡ false) → Avoids c (mapped f body)
  not_copied c other =
      let n =
      (copies_named f s index (below ∷ []) (c ∷ []) outside body scoped apart two refl (refl, tt) same
      (λ d x h m. (λ i. eqb ((one d h) i).0 (f x).0) ∙ other x m)).0 in
      let q = n.1.1.1.1.1 in
      let own : c ≡ n.0 = ap (first_target c) q.0 in
      let rest : mapped f body ≡ n.1.1.1.1.0 = ap (after_two body) q.0 in
      subst (λ (v : Var). Avoids v (mapped f body)) (sym own) (subst (λ (b : BlockTerm). Avoids n.0 b) (sym rest) q.3)
    where
      one : (d : Var) → is_in d (c ∷ []) ≡ true → d ≡ c
      one d h = go (eqb c.0 d.0) refl h
        where
          go : (b : Bool) → eqb c.0 d.0 ≡ b → (b || false) ≡ true → d ≡ c
          go true e m = sym (same_number c d e)
          go false e m = clash false m refl

  not_copied_each : (cs : List Var) → ((c x : Var) → is_in c cs ≡ true → is_in x all ≡ true → eqb c.0 (f x).0 ≡ false) → AvoidsEach cs (mapped f body)
  not_copied_each [] other = tt
  not_copied_each (c ∷ cs) other = (not_copied c (λ x m. other c x (names.itself c cs) m), not_copied_each cs (λ d x h m. other d x (behind_first d c cs h) m))

  own_in : is_in index all ≡ true
  own_in = in_right index (bound_in body) ((index ∷ below ∷ []) ++ outside) (names.itself index (below ∷ outside))

  below_in : is_in below all ≡ true
  below_in = in_right below (bound_in body) ((index ∷ below ∷ []) ++ outside) (behind_first below index (below ∷ outside) (names.itself below outside))

  scope_in : Inside ((index ∷ below ∷ []) ++ outside) all
  scope_in = λ y m. in_right y (bound_in body) ((index ∷ below ∷ []) ++ outside) m

  -- a copy below the two indices, the outer one first
  copied : Renamed (under (under itself below (f below)) index (f index)) body (mapped f body)
  copied =
      renamed f all apart (under (under itself below (f below)) index (f index)) ((index ∷ below ∷ []) ++ outside) body scoped (λ y m. in_left y (bound_in body) ((index ∷ below ∷ []) ++ outside) m) scope_in
      (links_one f all apart (under itself below (f below)) (below ∷ outside) index own_in (λ y m. scope_in y (behind_first y index (below ∷ outside) m))
      (links_one f all apart itself outside below below_in (λ y m. scope_in y (behind_first y index (below ∷ outside) (behind_first y below outside m)))
      (λ x m. eq-eqb x.0 (f x).0 (ap (λ (y : Var). y.0) (sym (same x m))))))

pub bodies_merged :
    (f : Var → Var) (s : Site) (h g j : PartHead) (before after : List LetTerm) (c : BlockTerm) (outside front back cs : List Var) →
    Scoped ((g.index ∷ h.index ∷ []) ++ outside) (chain (before ++ after) c) → Distinct (g.index ∷ h.index ∷ []) →
    ((x y : Var) → is_in x (bound_in (chain (before ++ after) c) ++ ((g.index ∷ h.index ∷ []) ++ outside)) ≡ true →
    is_in y (bound_in (chain (before ++ after) c) ++ ((g.index ∷ h.index ∷ []) ++ outside)) ≡ true → eqb (f x).0 (f y).0 ≡ eqb x.0 y.0) →
    ((x : Var) → is_in x outside ≡ true → f x ≡ x) → length front ≡ length h.grid → length back ≡ length g.grid → length cs ≡ length (front ++ back) →
    Distinct (j.index ∷ targets_of (picks s j.index 0 (front ++ back) cs)) →
    ((x y : Var) → is_in x (j.index ∷ targets_of (picks s j.index 0 (front ++ back) cs)) ≡ true →
    is_in y (bound_in (chain (before ++ after) c) ++ ((g.index ∷ h.index ∷ []) ++ outside)) ≡ true → eqb x.0 (f y).0 ≡ false) →
    MergedBody h before after g c j (merged_body s j.index front back cs f h.index g.index (before ++ after) c)
    × Alike (chain (before ++ after) c) (mapped f (chain (before ++ after) c))
bodies_merged f s h g j before after c outside front back cs scoped two apart same lf lb lc d alone =
    let body = chain (before ++ after) c in
    let there = own_in f s g.index h.index outside body scoped two apart same in
    let below = below_in f s g.index h.index outside body scoped two apart same in (
      record {
        outer = f h.index;
        inner = f g.index;
        makes = index_lets s j.index front back cs (f h.index) (f g.index);
        made = record {
          front = front;
          back = back;
          picks = picks s j.index 0 (front ++ back) cs;
          first = s;
          second = s;
          in_front = lf;
          behind = lb;
          picked = picked s j.index 0 (front ++ back) cs lc d;
          alone = not_in (f h.index) back (λ m. absurd (never below (in_picks s j.index 0 (front ++ back) cs lc (f h.index) (in_right (f h.index) front back m))));
          apart = apart g.index h.index there below ∙ turned h.index g.index (or_false (eqb h.index.0 g.index.0) false two.0).0;
          made = refl;
        };
        body = mapped f body;
        whole = refl;
        renamed = copied f s g.index h.index outside body scoped two apart same;
        avoids = not_copied_each f s g.index h.index outside body scoped two apart same (j.index ∷ targets_of (picks s j.index 0 (front ++ back) cs)) alone;
      },
      alike f body,
    )
  where
    never :
        is_in h.index (bound_in (chain (before ++ after) c) ++ ((g.index ∷ h.index ∷ []) ++ outside)) ≡ true → is_in (f h.index) (targets_of (picks s j.index 0 (front ++ back) cs)) ≡ true → ⊥
    never b m =
        let n = alone (f h.index) h.index (behind_first (f h.index) j.index (targets_of (picks s j.index 0 (front ++ back) cs)) m) b in
        clash (eqb (f h.index).0 (f h.index).0) (eq-eqb (f h.index).0 (f h.index).0 refl) n
