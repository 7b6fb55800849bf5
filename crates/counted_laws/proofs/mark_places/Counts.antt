-- Marked code is well counted.
use Rattle.std.proofs.Common.{◌≡◌, ℕ, Bool, true, false, cond, eqb, List, [], ◌∷◌, ◌++◌, length, Some, None, refl, ap, ◌∙◌, sym, subst, true≢false, inl, inr}
use Rattle.std.specs.Prelude.{◌||◌, option_to_list}
use Rattle.sac_base.specs.declared.base.Base.{Base}
use Rattle.sac_base.specs.declared.grid.Grid1.{Grid1}
use Rattle.core_ir.specs.declared.tree.Var.{Var}
use Rattle.core_ir.specs.declared.tree.PartedOp.{PartedOp}
use Rattle.core_ir.specs.Binders.{is_in, NoneIn}
use Rattle.core_ir.specs.Scopes.{AllIn, plain_uses, op_uses, parted_uses, head_uses}
use Rattle.counted_code.specs.Counts.{Reordered, none, stays, swaps, through, Alive, Counted, CountedRight, CountedGens, CountedParts}
use Rattle.counted_code.specs.Terms.{CodeTerm, CodeRightTerm, CodeGensTerm, CodePartsTerm, Giving, Binding, Keeping, Releasing, PlainCode, IfCode, LoopCode, CallCode, WithCode, PartedCode, NoCodeGens, GenCode, NoCodeParts, PartCode}
use Rattle.counted_laws.specs.placing.Placing.{without}
use Rattle.counted_laws.proofs.placing.Lists.{Within, all_in, within_of, none_less, in_front, in_back, in_either, or_right, or_either, same_var, self, here, is_false}
use Rattle.counted_laws.proofs.placing.Orders.{reversed, same_order, reordered_in, behind}
use Rattle.counted_laws.specs.mark_places.Places.{releases_next, without_release, Marked, MarkedRight, MarkedGens, MarkedParts, giving, binding, taking, keeping, releasing, plain, branches, turns, call, cells, parts, no_gens, gen, no_parts, part}
use Rattle.counted_laws.proofs.mark_places.Orders.{same_front, two_fronts, within_order, taken_out}
use Rattle.counted_laws.proofs.mark_places.Cores.{releases_same}

-- ---- lists

pub both_within : (xs xs' ys ys' : List Var) → Within xs xs' → Within ys ys' → Within (xs ++ ys) (xs' ++ ys')
both_within xs xs' ys ys' p q x i = elim (in_either x xs ys i) [ inl a ↦ in_front x xs' ys' (p x a) | inr b ↦ in_back x xs' ys' (q x b) ]

pub behind_within : (xs ys ys' : List Var) → Within ys ys' → Within (xs ++ ys) (xs ++ ys')
behind_within xs ys ys' q = both_within xs xs ys ys' (λ x i. i) q

pub all_more : (xs ys zs : List Var) → Within ys zs → AllIn xs ys → AllIn xs zs
all_more xs ys zs w a = all_in xs zs (λ x i. w x (within_of xs ys a x i))

fresh_less : (x : Var) (ys zs : List Var) → Within ys zs → is_in x zs ≡ false → is_in x ys ≡ false
fresh_less x ys zs w n = is_false (is_in x ys) (λ p. true≢false (sym (w x p) ∙ n))

-- ---- what is read may stand in any order

module _ (results_of : ℕ → ℕ) where
  mutual
    pub counted_moved : (t : CodeTerm) (n : ℕ) (outer outer' refs refs' : List Var) → Within outer outer' → Within outer' outer → Reordered refs refs' → Counted results_of n outer refs t → Counted results_of n outer' refs' t
    counted_moved (Giving xs) n outer outer' refs refs' w u r c = (c.0, through (reversed r) c.1)
    counted_moved (Binding xs s q b) n outer outer' refs refs' w u r c =
        let mine = c.0 in
        let after = c.1 in (
          mine,
          after,
          through (reversed r) c.2,
          right_moved q (length xs) outer outer' mine after w u c.3,
          c.4,
          none_less xs (after ++ outer') (after ++ outer) (behind_within after outer' outer u) c.5,
          counted_moved b n outer outer' (xs ++ after) (xs ++ after) w u (same_order (xs ++ after)) c.6,
        )
    counted_moved (Keeping x b) n outer outer' refs refs' w u r c =
        (both_within refs refs' outer outer' (within_order r) w x c.0, counted_moved b n outer outer' (x ∷ refs) (x ∷ refs') w u (stays r) c.1)
    counted_moved (Releasing x b) n outer outer' refs refs' w u r c =
        (c.0, through (reversed r) c.1, counted_moved b n outer outer' c.0 c.0 w u (same_order c.0) c.2)

    pub right_moved : (r : CodeRightTerm) (n : ℕ) (outer outer' mine after : List Var) → Within outer outer' → Within outer' outer → CountedRight results_of n outer mine after r → CountedRight results_of n outer' mine after r
    right_moved (PlainCode p) n outer outer' mine after w u c =
        (c.0, c.1, all_more (plain_uses p) (mine ++ (after ++ outer)) (mine ++ (after ++ outer')) (behind_within mine (after ++ outer) (after ++ outer') (behind_within after outer outer' w)) c.2)
    right_moved (IfCode x a b) n outer outer' mine after w u c =
        let v = behind_within after outer outer' w in
        let z = behind_within after outer' outer u in
        (behind_within mine (after ++ outer) (after ++ outer') v x c.0, counted_moved a n (after ++ outer) (after ++ outer') mine mine v z (same_order mine) c.1, counted_moved b n (after ++ outer) (after ++ outer') mine mine v z (same_order mine) c.2)
    right_moved (LoopCode first start params test body s) n outer outer' mine after w u c =
        let v = behind_within after outer outer' w in
        let z = behind_within after outer' outer u in (
          c.0,
          c.1,
          c.2,
          none_less params (after ++ outer') (after ++ outer) z c.3,
          c.4,
          counted_moved test 1 (params ++ (after ++ outer)) (params ++ (after ++ outer')) [] [] (behind_within params (after ++ outer) (after ++ outer') v) (behind_within params (after ++ outer') (after ++ outer) z) none c.5,
          counted_moved body n (after ++ outer) (after ++ outer') params params v z (same_order params) c.6,
        )
    right_moved (CallCode g xs) n outer outer' mine after w u c = c
    right_moved (WithCode o gens) n outer outer' mine after w u c =
        let v = behind_within after outer outer' w in
        let z = behind_within after outer' outer u in
        (c.0, c.1, all_more (op_uses o) (after ++ outer) (after ++ outer') v c.2, gens_moved gens (after ++ outer) (after ++ outer') v z c.3)
    right_moved (PartedCode f t l o ps reuse) n outer outer' mine after w u c =
        let v = behind_within mine (after ++ outer) (after ++ outer') (behind_within after outer outer' w) in
        let z = behind_within mine (after ++ outer') (after ++ outer) (behind_within after outer' outer u) in
        (c.0, c.1, all_more (parted_uses o) (mine ++ (after ++ outer)) (mine ++ (after ++ outer')) v c.2, parts_moved ps (mine ++ (after ++ outer)) (mine ++ (after ++ outer')) v z c.3)

    pub gens_moved : (gens : CodeGensTerm) (outer outer' : List Var) → Within outer outer' → Within outer' outer → CountedGens results_of outer gens → CountedGens results_of outer' gens
    gens_moved NoCodeGens outer outer' w u c = tt
    gens_moved (GenCode h b rest) outer outer' w u c = (
      all_more (head_uses h) outer outer' w c.0,
      none_less (h.index ∷ h.names) outer' outer u c.1,
      counted_moved b 1 outer outer' (h.index ∷ h.names) (h.index ∷ h.names) w u (same_order (h.index ∷ h.names)) c.2,
      gens_moved rest outer outer' w u c.3,
    )

    pub parts_moved : (ps : CodePartsTerm) (outer outer' : List Var) → Within outer outer' → Within outer' outer → CountedParts results_of outer ps → CountedParts results_of outer' ps
    parts_moved NoCodeParts outer outer' w u c = tt
    parts_moved (PartCode h b rest) outer outer' w u c =
        (fresh_less h.index outer' outer u c.0, counted_moved b 1 outer outer' (h.index ∷ []) (h.index ∷ []) w u (same_order (h.index ∷ [])) c.1, parts_moved rest outer outer' w u c.2)

  -- ---- a release that is left out

  -- what is released next has a reference
  pub not_kept : (v x : Var) (refs : List Var) → eqb v.0 x.0 ≡ false → is_in v (x ∷ refs) ≡ true → is_in v refs ≡ true
  not_kept v x refs e i = go (eqb x.0 v.0) refl i
    where
      go : (same : Bool) → eqb x.0 v.0 ≡ same → (same || is_in v refs) ≡ true → is_in v refs ≡ true
      go true f q = elim (true≢false (sym (ap (λ (y : Var). eqb v.0 y.0) (same_var x v f) ∙ self v) ∙ e)) [ ]
      go false f q = q

  pub released_here : (v x : Var) (refs after : List Var) → Reordered refs (x ∷ after) → eqb v.0 x.0 ≡ true → is_in v refs ≡ true
  released_here v x refs after r e = reordered_in (reversed r) v (subst (λ y. is_in v (y ∷ after) ≡ true) (same_var v x e) (here v after))

  pub released_behind : (v x : Var) (refs after : List Var) → Reordered refs (x ∷ after) → is_in v after ≡ true → is_in v refs ≡ true
  released_behind v x refs after r i = reordered_in (reversed r) v (or_right (eqb x.0 v.0) (is_in v after) i)

  pub released_in : (v : Var) (t : CodeTerm) (n : ℕ) (outer refs : List Var) → Counted results_of n outer refs t → releases_next v t ≡ true → is_in v refs ≡ true
  released_in v (Giving xs) n outer refs c p = elim (true≢false (sym p)) [ ]
  released_in v (Binding xs s r b) n outer refs c p = elim (true≢false (sym p)) [ ]
  released_in v (Keeping x b) n outer refs c p = go (eqb v.0 x.0) refl p (released_in v b n outer (x ∷ refs) c.1)
    where
      go : (same : Bool) → eqb v.0 x.0 ≡ same → cond same false (releases_next v b) ≡ true → (releases_next v b ≡ true → is_in v (x ∷ refs) ≡ true) → is_in v refs ≡ true
      go true e q rest = elim (true≢false (sym q)) [ ]
      go false e q rest = not_kept v x refs e (rest q)
  released_in v (Releasing x b) n outer refs c p = go (eqb v.0 x.0) refl p (released_in v b n outer c.0 c.2)
    where
      go : (same : Bool) → eqb v.0 x.0 ≡ same → cond same true (releases_next v b) ≡ true → (releases_next v b ≡ true → is_in v c.0 ≡ true) → is_in v refs ≡ true
      go true e q rest = released_here v x refs c.0 c.1 e
      go false e q rest = released_behind v x refs c.0 c.1 (rest q)

  -- another variable stays alive
  alive_still : (v x : Var) (refs left outer : List Var) → eqb v.0 x.0 ≡ false → Reordered refs (v ∷ left) → Alive x (refs ++ outer) → Alive x (left ++ outer)
  alive_still v x refs left outer e r a = elim (in_either x refs outer a) [ inl p ↦ in_front x left outer (go (eqb v.0 x.0) e (reordered_in r x p)) | inr q ↦ in_back x left outer q ]
    where
      go : (same : Bool) → same ≡ false → (same || is_in x left) ≡ true → is_in x left ≡ true
      go true f q = elim (true≢false f) [ ]
      go false f q = q

  pub unreleased : (v : Var) (t : CodeTerm) (n : ℕ) (outer refs left : List Var) → Counted results_of n outer refs t → releases_next v t ≡ true → Reordered refs (v ∷ left) → Counted results_of n outer left (without_release v t)
  unreleased v (Giving xs) n outer refs left c p r = elim (true≢false (sym p)) [ ]
  unreleased v (Binding xs s q b) n outer refs left c p r = elim (true≢false (sym p)) [ ]
  unreleased v (Keeping x b) n outer refs left c p r = go (λ q. unreleased v b n outer (x ∷ refs) (x ∷ left) c.1 q (through (stays r) swaps)) (eqb v.0 x.0) refl p
    where
      go : (releases_next v b ≡ true → Counted results_of n outer (x ∷ left) (without_release v b)) → (same : Bool) → eqb v.0 x.0 ≡ same → cond same false (releases_next v b) ≡ true → Counted results_of n outer left (Keeping x (without_release v b))
      go next true e q = elim (true≢false (sym q)) [ ]
      go next false e q = (alive_still v x refs left outer e r c.0, next q)
  unreleased v (Releasing x b) n outer refs left c p r = go (λ rest q there. unreleased v b n outer c.0 rest c.2 q there) (eqb v.0 x.0) refl p
    where
      go : ((rest : List Var) → releases_next v b ≡ true → Reordered c.0 (v ∷ rest) → Counted results_of n outer rest (without_release v b)) → (same : Bool) → eqb v.0 x.0 ≡ same → cond same true (releases_next v b) ≡ true → Counted results_of n outer left (cond same b (Releasing x (without_release v b)))
      go next true e q = counted_moved b n outer outer c.0 left (λ y i. i) (λ y i. i) (same_front v c.0 left (through (subst (λ (y : Var). Reordered (y ∷ c.0) refs) (sym (same_var v x e)) (reversed c.1)) r)) c.2
      go next false e q =
          let rest = taken_out v c.0 (released_in v b n outer c.0 c.2 q) in
          (without v c.0, two_fronts v x refs left c.0 (without v c.0) r c.1 rest, next (without v c.0) q rest)

  -- ---- marked code

  -- what is read where v's reference stands in front
  pub moved_to : (v : Var) (mine after left outer : List Var) → mine ≡ [] → Reordered after (v ∷ left) → Within (mine ++ (after ++ outer)) ((v ∷ []) ++ (left ++ outer))
  moved_to v mine after left outer e r x i = both_within after (v ∷ left) outer outer (within_order r) (λ y j. j) x (subst (λ l. is_in x (l ++ (after ++ outer)) ≡ true) e i)

  pub moved_from : (v : Var) (mine after left outer : List Var) → mine ≡ [] → Reordered after (v ∷ left) → Within ((v ∷ []) ++ (left ++ outer)) (mine ++ (after ++ outer))
  moved_from v mine after left outer e r x i =
      subst (λ l. is_in x (l ++ (after ++ outer)) ≡ true) (sym e) (both_within (v ∷ left) after outer outer (within_order (reversed r)) (λ y j. j) x i)

  pub nothing_mine : (mine : List Var) → Reordered mine [] → mine ≡ []
  nothing_mine [] r = refl
  nothing_mine (x ∷ xs) r = elim (true≢false (sym (reordered_in r x (here x xs)))) [ ]

  -- the target is another
  pub not_target : (v : Var) (xs after : List Var) → is_in v xs ≡ false → is_in v (xs ++ after) ≡ true → is_in v after ≡ true
  not_target v xs after e i = elim (in_either v xs after i) [ inl p ↦ elim (true≢false (sym p ∙ e)) [ ] | inr q ↦ q ]

  pub over_front : (v : Var) (xs after left : List Var) → Reordered after (v ∷ left) → Reordered (xs ++ after) (v ∷ (xs ++ left))
  over_front v [] after left r = r
  over_front v (x ∷ xs) after left r = through (stays (over_front v xs after left r)) swaps

  -- a loop that takes over v, where its parts are well counted as before
  pub taken_counted : (ps qs : CodePartsTerm) (f : List Grid1) (t : Base) (l : List ℕ) (o : PartedOp) (n : ℕ) (outer mine after left : List Var) (v : Var) → mine ≡ [] → Reordered after (v ∷ left) → CountedParts results_of (mine ++ (after ++ outer)) qs → CountedRight results_of n outer mine after (PartedCode f t l o ps None) → CountedRight results_of n outer (v ∷ []) left (PartedCode f t l o qs (Some v))
  taken_counted ps qs f t l o n outer mine after left v empty r counted c =
      let w = moved_to v mine after left outer empty r in
      let u = moved_from v mine after left outer empty r in
      (c.0, same_order (v ∷ []), all_more (parted_uses o) (mine ++ (after ++ outer)) ((v ∷ []) ++ (left ++ outer)) w c.2, parts_moved qs (mine ++ (after ++ outer)) ((v ∷ []) ++ (left ++ outer)) w u counted)

  mutual
    pub marked_counted : {a b : CodeTerm} → Marked a b → (n : ℕ) (outer refs : List Var) → Counted results_of n outer refs a → Counted results_of n outer refs b
    marked_counted giving n outer refs c = c
    marked_counted (binding {xs} m k) n outer refs c =
        (c.0, c.1, c.2, marked_right m (length xs) outer c.0 c.1 c.3, c.4, c.5, marked_counted k n outer (xs ++ c.1) c.6)
    marked_counted (taking {xs} {s} {f} {t} {l} {o} {ps} {qs} {v} {b} {c = d} p q m k) n outer refs c =
        let mine = c.0 in
        let after = c.1 in
        let loop = c.3 in
        let empty = nothing_mine mine loop.1 in
        let there = not_target v xs after p (released_in v b n outer (xs ++ after) c.6 q) in
        let left = without v after in
        let r = taken_out v after there in (
          v ∷ [],
          left,
          through c.2 (subst (λ l. Reordered (l ++ after) (v ∷ left)) (sym empty) r),
          taken_counted ps qs f t l o (length xs) outer mine after left v empty r (marked_parts m (mine ++ (after ++ outer)) loop.3) loop,
          c.4,
          none_less xs (left ++ outer) (after ++ outer) (λ x i. both_within (v ∷ left) after outer outer (within_order (reversed r)) (λ y j. j) x (or_right (eqb v.0 x.0) (is_in x (left ++ outer)) i)) c.5,
          unreleased v d n outer (xs ++ after) (xs ++ left) (marked_counted k n outer (xs ++ after) c.6) (releases_same v k ∙ q) (over_front v xs after left r),
        )
    marked_counted (keeping {x} k) n outer refs c = (c.0, marked_counted k n outer (x ∷ refs) c.1)
    marked_counted (releasing k) n outer refs c = (c.0, c.1, marked_counted k n outer c.0 c.2)

    pub marked_right : {r q : CodeRightTerm} → MarkedRight r q → (n : ℕ) (outer mine after : List Var) → CountedRight results_of n outer mine after r → CountedRight results_of n outer mine after q
    marked_right plain n outer mine after c = c
    marked_right (branches m k) n outer mine after c = (c.0, marked_counted m n (after ++ outer) mine c.1, marked_counted k n (after ++ outer) mine c.2)
    marked_right (turns {first} {start} {params} m k) n outer mine after c =
        (c.0, c.1, c.2, c.3, c.4, marked_counted m 1 (params ++ (after ++ outer)) [] c.5, marked_counted k n (after ++ outer) params c.6)
    marked_right call n outer mine after c = c
    marked_right (cells m) n outer mine after c = (c.0, c.1, c.2, marked_gens m (after ++ outer) c.3)
    marked_right (parts m) n outer mine after c = (c.0, c.1, c.2, marked_parts m (mine ++ (after ++ outer)) c.3)

    pub marked_gens : {gs hs : CodeGensTerm} → MarkedGens gs hs → (outer : List Var) → CountedGens results_of outer gs → CountedGens results_of outer hs
    marked_gens no_gens outer c = tt
    marked_gens (gen {h} m k) outer c = (c.0, c.1, marked_counted m 1 outer (h.index ∷ h.names) c.2, marked_gens k outer c.3)

    pub marked_parts : {ps qs : CodePartsTerm} → MarkedParts ps qs → (outer : List Var) → CountedParts results_of outer ps → CountedParts results_of outer qs
    marked_parts no_parts outer c = tt
    marked_parts (part {h} m k) outer c = (c.0, marked_counted m 1 outer (h.index ∷ []) c.1, marked_parts k outer c.2)
