-- The truth values say whether there are marks and which groups are called.
use Rattle.std.proofs.Common.{◌≡◌, ℕ, Bool, true, false, true≢false, ◌&&◌, not, Option, Some, None, refl, ap, sym, ◌∙◌}
use Rattle.std.specs.Prelude.{is_some}
use Rattle.core_ir.specs.declared.tree.Var.{Var}
use Rattle.counted_code.specs.Counts.{Unmarked, UnmarkedRight, UnmarkedGens, UnmarkedParts}
use Rattle.counted_code.specs.Terms.{CodeTerm, CodeRightTerm, CodeGensTerm, CodePartsTerm, Giving, Binding, Keeping, Releasing, PlainCode, IfCode, LoopCode, CallCode, WithCode, PartedCode, NoCodeGens, GenCode, NoCodeParts, PartCode, core_of, core_of_right, core_of_gens, core_of_parts}
use Rattle.core_facts.specs.calls.Nests.{CallsAll, CallsAllRight, CallsAllGens, CallsAllParts}
use Rattle.counted_laws.specs.mark_removal.Reached.{IsOne}
use Rattle.reach_checks.specs.Clear.{is_clear, right_is_clear, gens_are_clear, parts_are_clear}

pub first : (a b : Bool) → (a && b) ≡ true → a ≡ true
first true b e = refl
first false b e = e

pub second : (a b : Bool) → (a && b) ≡ true → b ≡ true
second true b e = e
second false b e = elim (true≢false (sym e)) [ ]

pub both : (a b : Bool) → a ≡ true → b ≡ true → (a && b) ≡ true
both a b x y = ap (λ a. a && b) x ∙ y

mark_gone : (o : Option Var) → not (is_some o) ≡ true → o ≡ None
mark_gone None e = refl
mark_gone (Some x) e = elim (true≢false (sym e)) [ ]

module _ (clear : ℕ → Bool) where
  mutual
    pub block_has_none : (t : CodeTerm) → is_clear clear t ≡ true → Unmarked t
    block_has_none (Giving xs) e = tt
    block_has_none (Binding xs s r b) e = (right_has_none r (first (right_is_clear clear r) (is_clear clear b) e), block_has_none b (second (right_is_clear clear r) (is_clear clear b) e))
    block_has_none (Keeping x b) e = block_has_none b e
    block_has_none (Releasing x b) e = block_has_none b e

    right_has_none : (r : CodeRightTerm) → right_is_clear clear r ≡ true → UnmarkedRight r
    right_has_none (PlainCode p) e = tt
    right_has_none (IfCode c a b) e = (block_has_none a (first (is_clear clear a) (is_clear clear b) e), block_has_none b (second (is_clear clear a) (is_clear clear b) e))
    right_has_none (LoopCode turned start params test body s) e =
        (block_has_none test (first (is_clear clear test) (is_clear clear body) e), block_has_none body (second (is_clear clear test) (is_clear clear body) e))
    right_has_none (CallCode g xs) e = tt
    right_has_none (WithCode op gens) e = gens_have_none gens e
    right_has_none (PartedCode f b c op parts reuse) e =
        (mark_gone reuse (first (not (is_some reuse)) (parts_are_clear clear parts) e), parts_have_none parts (second (not (is_some reuse)) (parts_are_clear clear parts) e))

    pub gens_have_none : (gens : CodeGensTerm) → gens_are_clear clear gens ≡ true → UnmarkedGens gens
    gens_have_none NoCodeGens e = tt
    gens_have_none (GenCode h b rest) e =
        (block_has_none b (first (is_clear clear b) (gens_are_clear clear rest) e), gens_have_none rest (second (is_clear clear b) (gens_are_clear clear rest) e))

    pub parts_have_none : (parts : CodePartsTerm) → parts_are_clear clear parts ≡ true → UnmarkedParts parts
    parts_have_none NoCodeParts e = tt
    parts_have_none (PartCode h b rest) e =
        (block_has_none b (first (is_clear clear b) (parts_are_clear clear rest) e), parts_have_none rest (second (is_clear clear b) (parts_are_clear clear rest) e))

  mutual
    pub block_calls : (t : CodeTerm) → is_clear clear t ≡ true → CallsAll (IsOne clear) (core_of t)
    block_calls (Giving xs) e = tt
    block_calls (Binding xs s r b) e = (right_calls r (first (right_is_clear clear r) (is_clear clear b) e), block_calls b (second (right_is_clear clear r) (is_clear clear b) e))
    block_calls (Keeping x b) e = block_calls b e
    block_calls (Releasing x b) e = block_calls b e

    right_calls : (r : CodeRightTerm) → right_is_clear clear r ≡ true → CallsAllRight (IsOne clear) (core_of_right r)
    right_calls (PlainCode p) e = tt
    right_calls (IfCode c a b) e = (block_calls a (first (is_clear clear a) (is_clear clear b) e), block_calls b (second (is_clear clear a) (is_clear clear b) e))
    right_calls (LoopCode turned start params test body s) e =
        (block_calls test (first (is_clear clear test) (is_clear clear body) e), block_calls body (second (is_clear clear test) (is_clear clear body) e))
    right_calls (CallCode g xs) e = e
    right_calls (WithCode op gens) e = gens_call gens e
    right_calls (PartedCode f b c op parts reuse) e = parts_call parts (second (not (is_some reuse)) (parts_are_clear clear parts) e)

    pub gens_call : (gens : CodeGensTerm) → gens_are_clear clear gens ≡ true → CallsAllGens (IsOne clear) (core_of_gens gens)
    gens_call NoCodeGens e = tt
    gens_call (GenCode h b rest) e = (block_calls b (first (is_clear clear b) (gens_are_clear clear rest) e), gens_call rest (second (is_clear clear b) (gens_are_clear clear rest) e))

    pub parts_call : (parts : CodePartsTerm) → parts_are_clear clear parts ≡ true → CallsAllParts (IsOne clear) (core_of_parts parts)
    parts_call NoCodeParts e = tt
    parts_call (PartCode h b rest) e = (block_calls b (first (is_clear clear b) (parts_are_clear clear rest) e), parts_call rest (second (is_clear clear b) (parts_are_clear clear rest) e))

  -- what calls groups of a set that has no more than the clear ones is clear
  module _ (reached : ℕ → Bool) (more : (g : ℕ) → reached g ≡ true → clear g ≡ true) where
    mutual
      pub block_says : (t : CodeTerm) → Unmarked t → CallsAll (IsOne reached) (core_of t) → is_clear clear t ≡ true
      block_says (Giving xs) u k = refl
      block_says (Binding xs s r b) u k = both (right_is_clear clear r) (is_clear clear b) (right_says r u.0 k.0) (block_says b u.1 k.1)
      block_says (Keeping x b) u k = block_says b u k
      block_says (Releasing x b) u k = block_says b u k

      right_says : (r : CodeRightTerm) → UnmarkedRight r → CallsAllRight (IsOne reached) (core_of_right r) → right_is_clear clear r ≡ true
      right_says (PlainCode p) u k = refl
      right_says (IfCode c a b) u k = both (is_clear clear a) (is_clear clear b) (block_says a u.0 k.0) (block_says b u.1 k.1)
      right_says (LoopCode turned start params test body s) u k = both (is_clear clear test) (is_clear clear body) (block_says test u.0 k.0) (block_says body u.1 k.1)
      right_says (CallCode g xs) u k = more g k
      right_says (WithCode op gens) u k = gens_say gens u k
      right_says (PartedCode f b c op parts reuse) u k =
          both (not (is_some reuse)) (parts_are_clear clear parts) (ap (λ (o : Option Var). not (is_some o)) u.0) (parts_say parts u.1 k)

      pub gens_say : (gens : CodeGensTerm) → UnmarkedGens gens → CallsAllGens (IsOne reached) (core_of_gens gens) → gens_are_clear clear gens ≡ true
      gens_say NoCodeGens u k = refl
      gens_say (GenCode h b rest) u k = both (is_clear clear b) (gens_are_clear clear rest) (block_says b u.0 k.0) (gens_say rest u.1 k.1)

      pub parts_say : (parts : CodePartsTerm) → UnmarkedParts parts → CallsAllParts (IsOne reached) (core_of_parts parts) → parts_are_clear clear parts ≡ true
      parts_say NoCodeParts u k = refl
      parts_say (PartCode h b rest) u k = both (is_clear clear b) (parts_are_clear clear rest) (block_says b u.0 k.0) (parts_say rest u.1 k.1)
