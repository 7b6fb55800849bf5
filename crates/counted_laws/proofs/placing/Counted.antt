-- The references are well counted.
use Rattle.std.proofs.Common.{◌≡◌, ℕ, true, false, List, [], ◌∷◌, ◌++◌, length, None, refl, ◌∙◌, sym, subst, true≢false, inl, inr}
use Rattle.core_ir.specs.declared.tree.Var.{Var}
use Rattle.core_ir.specs.Binders.{is_in}
use Rattle.core_ir.specs.Scopes.{plain_uses, op_uses, parted_uses, head_uses, Scoped, ScopedRight, ScopedGens, ScopedParts}
use Rattle.core_ir.specs.Terms.{BlockTerm, RightTerm, GensTerm, PartsTerm, Gives, Bind, Plain, NoGens, Gen, NoParts, Part}
use Rattle.counted_code.specs.Terms.{CodeTerm, Giving, Binding, PartedCode}
use Rattle.counted_code.specs.Counts.{Reordered, none, through, plain_hands, Counted, CountedRight, CountedGens, CountedParts}
use Rattle.counted_code.specs.Prompt.{uses, uses_right, uses_gens, uses_parts, hands}
use Rattle.counted_laws.specs.placing.Placing.{keeps, releases, used, unused, surplus, passes, takes, given, left, placing, placing_right, placing_gens, placing_parts}
use Rattle.counted_laws.proofs.placing.Lists.{Within, is_false, in_front, in_back, in_either, here, all_in, within_of, none_less, in_filter, append_assoc}
use Rattle.counted_laws.proofs.placing.Orders.{same_order, to_front, behind, reversed, parted, reordered_in, times_fewer, surplus_order, surplus_in, nothing_left}
use Rattle.counted_laws.proofs.placing.Sizes.{Sized, SizedRight, SizedGens, SizedParts}
use Rattle.counted_laws.proofs.placing.Splits.{Fits, Split, unused_first, used_in, used_distinct, hands_used, hands_scoped, split_of, rest_fits, alive_there, branch_fits, body_fits, test_fits, ended_times}

-- what a right side that takes nothing uses is there
pub read_there : (r : RightTerm) (scope outer mine rest : List Var) → Split scope outer mine rest r → (x : Var) → (passes r x ≡ true → ⊥) → is_in x scope ≡ true → is_in x (uses_right r) ≡ true → is_in x (rest ++ outer) ≡ true
read_there r scope outer mine rest split x takes_none s u = elim (split.alive x s u) [ inl p ↦ elim (takes_none (split.passed x p)) [ ] | inr p ↦ p ]

pub none_one : (x : Var) (ys zs : List Var) → Within ys zs → is_in x zs ≡ false → is_in x ys ≡ false
none_one x ys zs w p = is_false (is_in x ys) (λ q. true≢false (sym (w x q) ∙ p))

module _ (results_of : ℕ → ℕ) where
  -- releases in front of a term that has the rest
  releases_counted : (n : ℕ) (outer refs xs after : List Var) (t : CodeTerm) → Reordered refs (xs ++ after) → ((current : List Var) → Reordered current after → Counted results_of n outer current t) → Counted results_of n outer refs (releases xs t)
  releases_counted n outer refs [] after t order next = next refs order
  releases_counted n outer refs (x ∷ xs) after t order next = (xs ++ after, order, releases_counted n outer (xs ++ after) xs after t (same_order (xs ++ after)) next)

  -- keeps in front of a term that has the references kept besides
  keeps_counted : (n : ℕ) (outer refs xs : List Var) (t : CodeTerm) → Within xs (refs ++ outer) → ((current : List Var) → Reordered current (xs ++ refs) → Counted results_of n outer current t) → Counted results_of n outer refs (keeps xs t)
  keeps_counted n outer refs [] t w next = next refs (same_order refs)
  keeps_counted n outer refs (x ∷ xs) t w next =
      (w x (here x xs), keeps_counted n outer (x ∷ refs) xs t (λ z p. in_back z (x ∷ []) (refs ++ outer) (w z (in_back z (x ∷ []) xs p))) (λ current order. next current (through order (to_front xs x refs))))

  -- the two lists in front of each other
  pub split_order : (r : RightTerm) (later live current first : List Var) → Reordered current (surplus (hands r) (given r later live) ++ first) → Reordered first live → Reordered current ((surplus (hands r) (given r later live) ++ given r later live) ++ left r later live)
  split_order r later live current first o p =
      let extra = surplus (hands r) (given r later live) in
      through o (through (behind extra (through p (parted (takes r later) live)))
      (subst (λ l. Reordered (extra ++ (given r later live ++ left r later live)) l) (append_assoc extra (given r later live) (left r later live)) (same_order (extra ++ (given r later live ++ left r later live)))))

  mutual
    pub counts : (t : BlockTerm) (n : ℕ) (scope outer refs : List Var) → Sized results_of n t → Scoped scope t → Fits scope outer refs (uses t) → Counted results_of n outer refs (placing refs t)
    counts (Gives ys) n scope outer refs size scoped fits =
        releases_counted n outer refs (unused refs ys) (used refs ys) (keeps (surplus ys (used refs ys)) (Giving ys)) (unused_first refs ys) (λ first o.
        keeps_counted n outer first (surplus ys (used refs ys)) (Giving ys)
        (λ x p. elim (in_either x refs outer (fits.alive x (within_of ys scope scoped x (surplus_in x ys (used refs ys) p)) (surplus_in x ys (used refs ys) p))) [
          | inl q ↦ in_front x first outer (reordered_in (reversed o) x (in_filter (λ y. is_in y ys) refs x q (surplus_in x ys (used refs ys) p)))
          | inr q ↦ in_back x first outer q
        ])
        (λ current p. (size, through p (through (behind (surplus ys (used refs ys)) o) (surplus_order ys (used refs ys) (times_fewer (used refs ys) ys (used_distinct refs ys fits.distinct) (used_in refs ys)))))))
    counts (Bind xs s r b) n scope outer refs size scoped fits =
        let us = uses_right r ++ uses b in
        let live = used refs us in
        let mine = given r (uses b) live in
        let rest = left r (uses b) live in
        let next : CodeTerm = Binding xs s (placing_right mine r) (placing (xs ++ rest) b) in
        let split = split_of r (uses b) scope outer refs fits in
        releases_counted n outer refs (unused refs us) live (keeps (surplus (hands r) mine) next) (unused_first refs us) (λ first o.
        keeps_counted n outer first (surplus (hands r) mine) next
        (λ x p. (let i = surplus_in x (hands r) mine p in elim (in_either x refs outer (fits.alive x (hands_scoped r scope scoped.0 x i) (in_front x (uses_right r) (uses b) (hands_used r x i)))) [
          | inl q ↦ in_front x first outer (reordered_in (reversed o) x (in_filter (λ y. is_in y us) refs x q (in_front x (uses_right r) (uses b) (hands_used r x i))))
          | inr q ↦ in_back x first outer q
        ]))
        (λ current p. (
          surplus (hands r) mine ++ mine,
          rest,
          split_order r (uses b) live current first p o,
          counts_right r (length xs) scope outer mine rest size.0 scoped.0 split,
          size.1,
          none_less xs (rest ++ outer) scope split.inside scoped.1,
          counts b n (xs ++ scope) outer (xs ++ rest) size.2 scoped.2 (rest_fits r (uses b) scope outer refs fits xs size.1 scoped.1),
        )))

    pub counts_right : (r : RightTerm) (n : ℕ) (scope outer mine rest : List Var) → SizedRight results_of n r → ScopedRight scope r → Split scope outer mine rest r → CountedRight results_of n outer (surplus (hands r) mine ++ mine) rest (placing_right mine r)
    counts_right (Plain p) n scope outer mine rest size scoped split = (
      size,
      surplus_order (plain_hands p) mine (ended_times scope outer mine rest (Plain p) split (λ x q. q)),
      all_in (plain_uses p) ((surplus (plain_hands p) mine ++ mine) ++ (rest ++ outer)) (λ x u. subst (λ l. is_in x l ≡ true) (append_assoc (surplus (plain_hands p) mine) mine (rest ++ outer)) (in_back x (surplus (plain_hands p) mine) (mine ++ (rest ++ outer)) (alive_there scope outer mine rest (Plain p) split x (within_of (plain_uses p) scope scoped x u) u))),
    )
    counts_right (RightTerm.If c a b) n scope outer mine rest size scoped split = (
      alive_there scope outer mine rest (RightTerm.If c a b) split c scoped.0 (here c (uses a ++ uses b)),
      counts a n scope (rest ++ outer) mine size.0 scoped.1 (branch_fits scope outer mine rest (uses a) (RightTerm.If c a b) split (λ x u. in_back x (c ∷ []) (uses a ++ uses b) (in_front x (uses a) (uses b) u))),
      counts b n scope (rest ++ outer) mine size.1 scoped.2 (branch_fits scope outer mine rest (uses b) (RightTerm.If c a b) split (λ x u. in_back x (c ∷ []) (uses a ++ uses b) (in_back x (uses a) (uses b) u))),
    )
    counts_right (RightTerm.Loop first start params test body u) n scope outer mine rest size scoped split = (
      size.0,
      size.1,
      size.2,
      none_less params (rest ++ outer) scope split.inside scoped.1,
      surplus_order start mine (ended_times scope outer mine rest (RightTerm.Loop first start params test body u) split (λ x q. q)),
      counts test 1 (params ++ scope) (params ++ (rest ++ outer)) [] size.3 scoped.2 (test_fits scope (rest ++ outer) params (uses test) split.inside (λ x s i. split.after x s (in_front x (uses test) (uses body) i))),
      counts body n (params ++ scope) (rest ++ outer) params size.4 scoped.3 (body_fits scope (rest ++ outer) params (uses body) size.2 split.inside (λ x s i. split.after x s (in_back x (uses test) (uses body) i))),
    )
    counts_right (RightTerm.Call g xs) n scope outer mine rest size scoped split =
        (size, surplus_order xs mine (ended_times scope outer mine rest (RightTerm.Call g xs) split (λ x q. q)))
    counts_right (RightTerm.With op gens) n scope outer mine rest size scoped split = (
      size.0,
      surplus_order [] mine (ended_times scope outer mine rest (RightTerm.With op gens) split (λ x q. q)),
      all_in (op_uses op) (rest ++ outer) (λ x u. read_there (RightTerm.With op gens) scope outer mine rest split x (λ q. true≢false (sym q)) (within_of (op_uses op) scope scoped.0 x u) (in_front x (op_uses op) (uses_gens gens) u)),
      counts_gens gens scope (rest ++ outer) size.1 scoped.1 split.inside (λ x s u. read_there (RightTerm.With op gens) scope outer mine rest split x (λ q. true≢false (sym q)) s (in_back x (op_uses op) (uses_gens gens) u)),
    )
    counts_right (RightTerm.Parted f b c op parts) n scope outer mine rest size scoped split =
        let empty = nothing_left mine (ended_times scope outer mine rest (RightTerm.Parted f b c op parts) split (λ x q. q)) in
        subst (λ m. CountedRight results_of n outer m rest (PartedCode f b c op (placing_parts parts) None)) (sym empty) (
          size.0,
          none,
          all_in (parted_uses op) (rest ++ outer) (λ x u. read_there (RightTerm.Parted f b c op parts) scope outer mine rest split x (λ q. true≢false (sym q)) (within_of (parted_uses op) scope scoped.0 x u) (in_front x (parted_uses op) (uses_parts parts) u)),
          counts_parts parts scope (rest ++ outer) size.1 scoped.1 split.inside (λ x s u. read_there (RightTerm.Parted f b c op parts) scope outer mine rest split x (λ q. true≢false (sym q)) s (in_back x (parted_uses op) (uses_parts parts) u)),
        )

    pub counts_gens : (gens : GensTerm) (scope outer : List Var) → SizedGens results_of gens → ScopedGens scope gens → Within outer scope → ((x : Var) → is_in x scope ≡ true → is_in x (uses_gens gens) ≡ true → is_in x outer ≡ true) → CountedGens results_of outer (placing_gens gens)
    counts_gens NoGens scope outer size scoped w alive = tt
    counts_gens (Gen h b rest) scope outer size scoped w alive = (
      all_in (head_uses h) outer (λ x u. alive x (within_of (head_uses h) scope scoped.0 x u) (in_front x (head_uses h) (uses b ++ uses_gens rest) u)),
      none_less (h.index ∷ h.names) outer scope w scoped.1,
      counts b 1 ((h.index ∷ h.names) ++ scope) outer (h.index ∷ h.names) size.1 scoped.2 (body_fits scope outer (h.index ∷ h.names) (uses b) size.0 w (λ x s u. alive x s (in_back x (head_uses h) (uses b ++ uses_gens rest) (in_front x (uses b) (uses_gens rest) u)))),
      counts_gens rest scope outer size.2 scoped.3 w (λ x s u. alive x s (in_back x (head_uses h) (uses b ++ uses_gens rest) (in_back x (uses b) (uses_gens rest) u))),
    )

    pub counts_parts : (parts : PartsTerm) (scope outer : List Var) → SizedParts results_of parts → ScopedParts scope parts → Within outer scope → ((x : Var) → is_in x scope ≡ true → is_in x (uses_parts parts) ≡ true → is_in x outer ≡ true) → CountedParts results_of outer (placing_parts parts)
    counts_parts NoParts scope outer size scoped w alive = tt
    counts_parts (Part h b rest) scope outer size scoped w alive = (
      none_one h.index outer scope w scoped.0,
      counts b 1 (h.index ∷ scope) outer (h.index ∷ []) size.0 scoped.1 (body_fits scope outer (h.index ∷ []) (uses b) (refl, tt) w (λ x s u. alive x s (in_front x (uses b) (uses_parts rest) u))),
      counts_parts rest scope outer size.1 scoped.2 w (λ x s u. alive x s (in_back x (uses b) (uses_parts rest) u)),
    )
