-- Sums of numbers that stop at the greatest number of 64 bits, and greatest numbers.
use Rattle.std.proofs.Common.{◌≡◌, ◌↔◌, IsTrue, ℕ, zero, suc, ◌+◌, ◌-◌, ◌*◌, ◌^◌, ◌<◌, ◌≤◌, Bool, List, ◌∷◌, length, drop, get_or, sym, ap, subst, ◌∙◌, arith}
use Rattle.std.specs.Prelude.{max}
use Rattle.std.proofs.Math.Nat.{suc-mul, zero-mul}
use Rattle.std.proofs.lemmas.List.{drop_more, drop_all}
use Rattle.std.proofs.lemmas.Nat.{mul-le}
use Rattle.core_ir.specs.declared.tree.CorePart.{CorePart}
use Rattle.core_ir.specs.Counts.{bindings, capped}
use Rattle.core_ir.specs.View.{part_term}
use Rattle.core_loops.specs.Loops.{binders}
use Rattle.core_loops.specs.Pairs.{most_bindings, most_binders}
use Rattle.foldable_pairs.specs.Parts.{terms}

-- a factor above 0 makes no number smaller
grown : (s m : ℕ) → m ≤ suc s * m
grown s m = let e : suc s * m ≡ s * m + m = suc-mul s m in omega (arith, e)

capped_low : (m limit : ℕ) → limit < 2 ^ 64 - 1 → capped m ≤ limit → capped m ≡ m
capped_low m limit l h = omega (arith, l, h)

in_capped : (a m s limit : ℕ) → limit < 2 ^ 64 - 1 → capped a + s * capped m ≤ limit → a + s * m ≤ limit
in_capped a m zero limit l h =
    let one : zero * capped m ≡ 0 = zero-mul (capped m) in
    let two : zero * m ≡ 0 = zero-mul m in
    let low : capped a ≤ limit = omega (arith, h, one) in
    let same = capped_low a limit l low in
    omega (arith, h, one, two, same)
in_capped a m (suc s) limit l h =
    let more = grown s (capped m) in
    let same = capped_low m limit l (omega (arith, h, more)) in
    let own = capped_low a limit l (omega (arith, h)) in
    subst (λ n. n + suc s * m ≤ limit) own (subst (λ n. capped a + suc s * n ≤ limit) same h)

of_capped : (a m s limit : ℕ) → a + s * m ≤ limit → capped a + s * capped m ≤ limit
of_capped a m s limit h =
    let own : capped a ≤ a = omega arith in
    let each : capped m ≤ m = omega arith in
    let all : s * capped m ≤ s * m = mul-le s (capped m) s m (omega arith) each in
    omega (arith, own, all, h)

-- with the true numbers
pub room_is : (b : Bool) (a m s limit : ℕ) → limit < 2 ^ 64 - 1 → (IsTrue b ↔ (capped a + s * capped m ≤ limit)) → IsTrue b ↔ (a + s * m ≤ limit)
room_is b a m s limit l h = (λ t. in_capped a m s limit l (h.0 t), λ r. h.1 (of_capped a m s limit r))

-- ---- the greatest of all parts

next_is : (xs : List CorePart) (i : ℕ) (x : CorePart) → i < length xs → x ≡ get_or xs i x → drop i xs ≡ x ∷ drop (i + 1) xs
next_is xs i x low is = drop_more xs i x low ∙ ap (λ y. y ∷ drop (i + 1) xs) (sym is)

-- what is greatest so far, with the rest, is the greatest of all
most_turn : (a b c now next : ℕ) → next ≡ max now (capped a) → capped (max now (max a b)) ≡ c → capped (max next b) ≡ c
most_turn a b c now next e h = let w : capped (max next b) ≡ capped (max now (max a b)) = omega (arith, e) in w ∙ h

pub nodes_turn : (parts : List CorePart) (i : ℕ) (x : CorePart) (now next whole : ℕ) → i < length parts → x ≡ get_or parts i x → next ≡ max now (capped (bindings (part_term x).body))
    → capped (max now (most_bindings (terms (drop i parts)))) ≡ whole → capped (max next (most_bindings (terms (drop (i + 1) parts)))) ≡ whole
nodes_turn parts i x now next whole low is e h =
    most_turn (bindings (part_term x).body) (most_bindings (terms (drop (i + 1) parts))) whole now next e
    (ap (λ l. capped (max now (most_bindings (terms l)))) (sym (next_is parts i x low is)) ∙ h)

pub binders_turn : (parts : List CorePart) (i : ℕ) (x : CorePart) (now next whole : ℕ) → i < length parts → x ≡ get_or parts i x → next ≡ max now (capped (binders (part_term x).body))
    → capped (max now (most_binders (terms (drop i parts)))) ≡ whole → capped (max next (most_binders (terms (drop (i + 1) parts)))) ≡ whole
binders_turn parts i x now next whole low is e h =
    most_turn (binders (part_term x).body) (most_binders (terms (drop (i + 1) parts))) whole now next e
    (ap (λ l. capped (max now (most_binders (terms l)))) (sym (next_is parts i x low is)) ∙ h)

most_end : (now whole : ℕ) → now ≤ 2 ^ 64 - 1 → capped (max now 0) ≡ whole → now ≡ whole
most_end now whole small h = let w : now ≡ capped (max now 0) = omega (arith, small) in w ∙ h

pub nodes_end : (parts : List CorePart) (i now whole : ℕ) → length parts ≤ i → now ≤ 2 ^ 64 - 1 → capped (max now (most_bindings (terms (drop i parts)))) ≡ whole → now ≡ whole
nodes_end parts i now whole past small h = most_end now whole small (ap (λ l. capped (max now (most_bindings (terms l)))) (sym (drop_all i parts past)) ∙ h)

pub binders_end : (parts : List CorePart) (i now whole : ℕ) → length parts ≤ i → now ≤ 2 ^ 64 - 1 → capped (max now (most_binders (terms (drop i parts)))) ≡ whole → now ≡ whole
binders_end parts i now whole past small h = most_end now whole small (ap (λ l. capped (max now (most_binders (terms l)))) (sym (drop_all i parts past)) ∙ h)
