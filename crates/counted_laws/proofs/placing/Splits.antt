-- How the references that a block has are split at a binding.
use Rattle.std.proofs.Common.{◌≡◌, ◌+◌, ◌≤◌, Bool, true, false, not, List, [], ◌++◌, refl, ap, ◌∙◌, sym, subst, arith, true≢false, inl, inr}
use Rattle.std.specs.Prelude.{◌&&◌, ◌⊎◌}
use Rattle.core_ir.specs.declared.tree.Var.{Var}
use Rattle.core_ir.specs.Binders.{is_in, NoneIn}
use Rattle.core_ir.specs.Scopes.{plain_uses, ScopedRight}
use Rattle.core_ir.specs.Terms.{PlainTerm, RightTerm, Plain}
use Rattle.core_ir.specs.WellFormed.{Distinct}
use Rattle.counted_code.specs.Counts.{Reordered, through, plain_hands}
use Rattle.counted_code.specs.Prompt.{uses, uses_right, hands, times}
use Rattle.counted_laws.specs.placing.Placing.{used, unused, read_after, passes, takes, given, left}
use Rattle.counted_laws.proofs.placing.Lists.{Within, and_left, and_right, not_true, is_false, either, in_front, in_back, in_either, within_of, none_less, in_filter, of_filter, filter_distinct, both_distinct, append_assoc}
use Rattle.counted_laws.proofs.placing.Orders.{parted, turned, times_append, times_fewer}

-- the references of a block stand for distinct variables in scope, and what it uses is among them or may be read
pub record Fits (scope outer refs us : List Var) : Type 0 where
  pub distinct : Distinct refs
  pub inside : Within (refs ++ outer) scope
  pub alive : (x : Var) → is_in x scope ≡ true → is_in x us ≡ true → is_in x (refs ++ outer) ≡ true

-- of those that a binding's right side finds it ends `mine`, and `rest` stay
pub record Split (scope outer mine rest : List Var) (r : RightTerm) : Type 0 where
  pub distinct : Distinct mine
  pub ended : Within mine scope
  pub inside : Within (rest ++ outer) scope
  pub passed : (x : Var) → is_in x mine ≡ true → passes r x ≡ true
  pub alive : (x : Var) → is_in x scope ≡ true → is_in x (uses_right r) ≡ true → (is_in x mine ≡ true) ⊎ (is_in x (rest ++ outer) ≡ true)
  pub after : (x : Var) → is_in x scope ≡ true → is_in x (read_after r) ≡ true → is_in x (rest ++ outer) ≡ true

-- ---- those that are used, and those that are not

pub unused_first : (refs us : List Var) → Reordered refs (unused refs us ++ used refs us)
unused_first refs us = through (parted (λ x. is_in x us) refs) (turned (used refs us) (unused refs us))

pub used_in : (refs us : List Var) → Within (used refs us) us
used_in refs us x p = (of_filter (λ y. is_in y us) refs x p).1

pub used_of : (refs us : List Var) → Within (used refs us) refs
used_of refs us x p = (of_filter (λ y. is_in y us) refs x p).0

pub used_distinct : (refs us : List Var) → Distinct refs → Distinct (used refs us)
used_distinct refs us d = filter_distinct (λ x. is_in x us) refs d

-- ---- what a right side takes

-- it takes nothing that is read later
pub read_later : (r : RightTerm) (later : List Var) (x : Var) → is_in x (read_after r ++ later) ≡ true → takes r later x ≡ false
read_later r later x p = is_false (takes r later x) (λ t. true≢false (sym p ∙ not_true (is_in x (read_after r ++ later)) (and_right (passes r x) (not (is_in x (read_after r ++ later))) t)))

pub after_used : (r : RightTerm) → Within (read_after r) (uses_right r)
after_used (Plain p) x i = elim (true≢false (sym i)) [ ]
after_used (RightTerm.If c a b) x i = elim (true≢false (sym i)) [ ]
after_used (RightTerm.Loop first start params test body s) x i = in_back x start (uses test ++ uses body) i
after_used (RightTerm.Call g xs) x i = elim (true≢false (sym i)) [ ]
after_used (RightTerm.With op gens) x i = elim (true≢false (sym i)) [ ]
after_used (RightTerm.Parted f b c op parts) x i = elim (true≢false (sym i)) [ ]

plain_handed : (p : PlainTerm) (x : Var) → times x (plain_hands p) ≤ times x (plain_uses p)
plain_handed (PlainTerm.Const a) x = omega arith
plain_handed (PlainTerm.Copy y) x = omega arith
plain_handed (PlainTerm.Unary op y) x = omega arith
plain_handed (PlainTerm.Binary op y z) x = omega arith
plain_handed (PlainTerm.Literal ys) x = omega arith
plain_handed (PlainTerm.Dim y) x = omega arith
plain_handed (PlainTerm.ShapeOf y) x = omega arith
plain_handed (PlainTerm.Reshape y z) x = omega arith
plain_handed (PlainTerm.Select y z) x = omega arith
plain_handed (PlainTerm.Replace y z w) x = omega arith
plain_handed (PlainTerm.Always k) x = omega arith
plain_handed (PlainTerm.Check y t) x = omega arith

-- what it hands on and what it reads after are uses of their own
pub handed_times : (r : RightTerm) (x : Var) → times x (hands r) + times x (read_after r) ≤ times x (uses_right r)
handed_times (Plain p) x = let h = plain_handed p x in omega (arith, h)
handed_times (RightTerm.If c a b) x = omega arith
handed_times (RightTerm.Loop first start params test body s) x = let e = times_append x start (uses test ++ uses body) in omega (arith, e)
handed_times (RightTerm.Call g xs) x = omega arith
handed_times (RightTerm.With op gens) x = omega arith
handed_times (RightTerm.Parted f b c op parts) x = omega arith

plain_hands_used : (p : PlainTerm) → Within (plain_hands p) (plain_uses p)
plain_hands_used (PlainTerm.Const a) x i = elim (true≢false (sym i)) [ ]
plain_hands_used (PlainTerm.Copy y) x i = i
plain_hands_used (PlainTerm.Unary op y) x i = elim (true≢false (sym i)) [ ]
plain_hands_used (PlainTerm.Binary op y z) x i = elim (true≢false (sym i)) [ ]
plain_hands_used (PlainTerm.Literal ys) x i = elim (true≢false (sym i)) [ ]
plain_hands_used (PlainTerm.Dim y) x i = elim (true≢false (sym i)) [ ]
plain_hands_used (PlainTerm.ShapeOf y) x i = elim (true≢false (sym i)) [ ]
plain_hands_used (PlainTerm.Reshape y z) x i = elim (true≢false (sym i)) [ ]
plain_hands_used (PlainTerm.Select y z) x i = elim (true≢false (sym i)) [ ]
plain_hands_used (PlainTerm.Replace y z w) x i = elim (true≢false (sym i)) [ ]
plain_hands_used (PlainTerm.Always k) x i = elim (true≢false (sym i)) [ ]
plain_hands_used (PlainTerm.Check y t) x i = i

pub hands_used : (r : RightTerm) → Within (hands r) (uses_right r)
hands_used (Plain p) x i = plain_hands_used p x i
hands_used (RightTerm.If c a b) x i = elim (true≢false (sym i)) [ ]
hands_used (RightTerm.Loop first start params test body s) x i = in_front x start (uses test ++ uses body) i
hands_used (RightTerm.Call g xs) x i = i
hands_used (RightTerm.With op gens) x i = elim (true≢false (sym i)) [ ]
hands_used (RightTerm.Parted f b c op parts) x i = elim (true≢false (sym i)) [ ]

pub hands_scoped : (r : RightTerm) (scope : List Var) → ScopedRight scope r → Within (hands r) scope
hands_scoped (Plain p) scope s x i = within_of (plain_uses p) scope s x (plain_hands_used p x i)
hands_scoped (RightTerm.If c a b) scope s x i = elim (true≢false (sym i)) [ ]
hands_scoped (RightTerm.Loop first start params test body u) scope s x i = within_of start scope s.0 x i
hands_scoped (RightTerm.Call g xs) scope s x i = within_of xs scope s x i
hands_scoped (RightTerm.With op gens) scope s x i = elim (true≢false (sym i)) [ ]
hands_scoped (RightTerm.Parted f b c op parts) scope s x i = elim (true≢false (sym i)) [ ]

-- ---- the split at a binding

module _ (r : RightTerm) (later scope outer refs : List Var) (fits : Fits scope outer refs (uses_right r ++ later)) where
  abbrev live : List Var
  live = used refs (uses_right r ++ later)

  live_of : (x : Var) → is_in x refs ≡ true → is_in x (uses_right r ++ later) ≡ true → is_in x live ≡ true
  live_of x p u = in_filter (λ y. is_in y (uses_right r ++ later)) refs x p u

  kept : (x : Var) → is_in x (refs ++ outer) ≡ true → is_in x (uses_right r ++ later) ≡ true → takes r later x ≡ false → is_in x (left r later live ++ outer) ≡ true
  kept x p u t = elim (in_either x refs outer p) [
    | inl q ↦ in_front x (left r later live) outer (in_filter (λ y. not (takes r later y)) live x (live_of x q u) (ap not t))
    | inr q ↦ in_back x (left r later live) outer q
  ]

  pub split_of : Split scope outer (given r later live) (left r later live) r
  split_of = record {
    distinct = filter_distinct (takes r later) live (used_distinct refs (uses_right r ++ later) fits.distinct);
    ended = λ x p. fits.inside x (in_front x refs outer (used_of refs (uses_right r ++ later) x (of_filter (takes r later) live x p).0));
    inside = λ x p. elim (in_either x (left r later live) outer p) [
      | inl q ↦ fits.inside x (in_front x refs outer (used_of refs (uses_right r ++ later) x (of_filter (λ y. not (takes r later y)) live x q).0))
      | inr q ↦ fits.inside x (in_back x refs outer q)
    ];
    passed = λ x p. and_left (passes r x) (not (is_in x (read_after r ++ later))) (of_filter (takes r later) live x p).1;
    alive = λ x s u. sides x (fits.alive x s (in_front x (uses_right r) later u)) (in_front x (uses_right r) later u) (either (takes r later x));
    after = λ x s u. kept x (fits.alive x s (in_front x (uses_right r) later (after_used r x u))) (in_front x (uses_right r) later (after_used r x u)) (read_later r later x (in_front x (read_after r) later u));
  }
    where
      sides : (x : Var) → is_in x (refs ++ outer) ≡ true → is_in x (uses_right r ++ later) ≡ true → (takes r later x ≡ true) ⊎ (takes r later x ≡ false) → (is_in x (given r later live) ≡ true) ⊎ (is_in x (left r later live ++ outer) ≡ true)
      sides x p u (inr t) = inr (kept x p u t)
      sides x p u (inl t) = elim (in_either x refs outer p) [
        | inl q ↦ inl (in_filter (takes r later) live x (live_of x q u) t)
        | inr q ↦ inr (in_back x (left r later live) outer q)
      ]

  -- after the binding of these targets
  pub rest_fits : (xs : List Var) → Distinct xs → NoneIn xs scope → Fits (xs ++ scope) outer (xs ++ left r later live) later
  rest_fits xs d n = record {
    distinct = both_distinct xs (left r later live) d (filter_distinct (λ y. not (takes r later y)) live (used_distinct refs (uses_right r ++ later) fits.distinct)) (none_less xs (left r later live) scope (λ x p. split_of.inside x (in_front x (left r later live) outer p)) n);
    inside = λ x p. elim (in_either x (xs ++ left r later live) outer p) [
      | inl q ↦ elim (in_either x xs (left r later live) q) [ inl a ↦ in_front x xs scope a | inr a ↦ in_back x xs scope (split_of.inside x (in_front x (left r later live) outer a)) ]
      | inr q ↦ in_back x xs scope (split_of.inside x (in_back x (left r later live) outer q))
    ];
    alive = λ x s u. elim (in_either x xs scope s) [
      | inl a ↦ in_front x (xs ++ left r later live) outer (in_front x xs (left r later live) a)
      | inr a ↦ subst (λ l. is_in x l ≡ true) (append_assoc xs (left r later live) outer) (in_back x xs (left r later live ++ outer) (kept x (fits.alive x a (in_back x (uses_right r) later u)) (in_back x (uses_right r) later u) (read_later r later x (in_back x (read_after r) later u))))
    ];
  }

  -- what stays is read later, where branches take all else
  pub stays_read : (x : Var) → passes r x ≡ true → is_in x (left r later live) ≡ true → is_in x (read_after r ++ later) ≡ true
  stays_read x p i = go (is_in x (read_after r ++ later)) refl
    where
      go : (b : Bool) → is_in x (read_after r ++ later) ≡ b → b ≡ true
      go true e = refl
      go false e =
          let t = of_filter (λ y. not (takes r later y)) live x i in
          elim (true≢false (sym (λ k. p k && not (e k)) ∙ not_true (takes r later x) t.1)) [ ]

-- ---- inside a right side

either_side : (x : Var) (mine rest : List Var) → (is_in x mine ≡ true) ⊎ (is_in x rest ≡ true) → is_in x (mine ++ rest) ≡ true
either_side x mine rest (inl p) = in_front x mine rest p
either_side x mine rest (inr p) = in_back x mine rest p

pub alive_there : (scope outer mine rest : List Var) (r : RightTerm) → Split scope outer mine rest r → (x : Var) → is_in x scope ≡ true → is_in x (uses_right r) ≡ true → is_in x (mine ++ (rest ++ outer)) ≡ true
alive_there scope outer mine rest r split x s u = either_side x mine (rest ++ outer) (split.alive x s u)

-- a block that ends what the right side ends, as a branch
pub branch_fits : (scope outer mine rest us : List Var) (r : RightTerm) → Split scope outer mine rest r → Within us (uses_right r) → Fits scope (rest ++ outer) mine us
branch_fits scope outer mine rest us r split w = record {
  distinct = split.distinct;
  inside = λ x p. elim (in_either x mine (rest ++ outer) p) [ inl q ↦ split.ended x q | inr q ↦ split.inside x q ];
  alive = λ x s u. alive_there scope outer mine rest r split x s (w x u);
}

-- a block with variables of its own, which it ends: a loop's body, and a cell
pub body_fits : (scope outer xs us : List Var) → Distinct xs → Within outer scope → ((x : Var) → is_in x scope ≡ true → is_in x us ≡ true → is_in x outer ≡ true) → Fits (xs ++ scope) outer xs us
body_fits scope outer xs us d w alive = record {
  distinct = d;
  inside = λ x p. elim (in_either x xs outer p) [ inl q ↦ in_front x xs scope q | inr q ↦ in_back x xs scope (w x q) ];
  alive = λ x s u. elim (in_either x xs scope s) [ inl q ↦ in_front x xs outer q | inr q ↦ in_back x xs outer (alive x q u) ];
}

-- a loop's test, which only reads the parameters
pub test_fits : (scope outer xs us : List Var) → Within outer scope → ((x : Var) → is_in x scope ≡ true → is_in x us ≡ true → is_in x outer ≡ true) → Fits (xs ++ scope) (xs ++ outer) [] us
test_fits scope outer xs us w alive = record {
  distinct = tt;
  inside = λ x p. elim (in_either x xs outer p) [ inl q ↦ in_front x xs scope q | inr q ↦ in_back x xs scope (w x q) ];
  alive = λ x s u. elim (in_either x xs scope s) [ inl q ↦ in_front x xs outer q | inr q ↦ in_back x xs outer (alive x q u) ];
}

-- what a right side ends is what it hands on
pub ended_times : (scope outer mine rest : List Var) (r : RightTerm) → Split scope outer mine rest r → ((x : Var) → passes r x ≡ true → is_in x (hands r) ≡ true) → (x : Var) → times x mine ≤ times x (hands r)
ended_times scope outer mine rest r split w = times_fewer mine (hands r) split.distinct (λ x p. w x (split.passed x p))
