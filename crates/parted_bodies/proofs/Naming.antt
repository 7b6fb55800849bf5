-- What stands for variables after a step.
use Rattle.std.proofs.Common.{◌≡◌, ℕ, suc, ◌+◌, ◌<◌, ◌≤◌, List, length, drop, get_or, sym, ◌∙◌, arith}
use Rattle.std.proofs.Math.Seq.{drop-cons}
use Rattle.std.proofs.lemmas.List.{at_drop_all}
use Rattle.core_ir.specs.declared.tree.Var.{Var}
use Rattle.core_subst.specs.Names.{variable}
use Rattle.parted_bodies.specs.declared.names.Progress.{Progress}
use Rattle.parted_bodies.specs.Numbering.{named, numbered}

-- one variable more has a new one
pub numbered_turn : (xs : List Var) (i n : ℕ) (d y : Var) (f g whole : Var → Var) → i < length xs → y ≡ variable n → ((z : Var) → g z ≡ named f (get_or xs i d) y z) → ((z : Var) → numbered f (drop i xs) n z ≡ whole z) → (z : Var) → numbered g (drop (i + 1) xs) (suc n) z ≡ whole z
numbered_turn xs i n d y f g whole h e q p z =
    let next : i + 1 ≡ suc i = omega arith in
    (λ j. numbered (λ w. q w j) (drop (next j) xs) (suc n) z)
    ∙ (λ j. numbered (named f (get_or xs i d) (e j)) (drop (suc i) xs) (suc n) z)
    ∙ (λ j. numbered f (sym (drop-cons xs i d h) j) n z)
    ∙ p z

pub numbered_done : (xs : List Var) (i n : ℕ) (f whole : Var → Var) → length xs ≤ i → ((z : Var) → numbered f (drop i xs) n z ≡ whole z) → (z : Var) → f z ≡ whole z
numbered_done xs i n f whole over p z = sym (at_drop_all (λ l. numbered f l n z) xs i over) ∙ p z

-- all numbers were taken
pub counted_done : (p q : Progress) (i : ℕ) (xs : List Var) → i ≤ length xs → length xs ≤ i → p ≡ record q { next = q.next + i } → p ≡ record q { next = q.next + length xs }
counted_done p q i xs a b e = let same : i ≡ length xs = omega arith in e ∙ (λ j. record q { next = q.next + same j })

pub counted_turn : (p q r : Progress) (i : ℕ) → p ≡ record q { next = q.next + i } → r ≡ record p { next = suc p.next } → r ≡ record q { next = q.next + (i + 1) }
counted_turn p q r i e f = let one : suc (q.next + i) ≡ q.next + (i + 1) = omega arith in f ∙ (λ j. record (e j) { next = suc (e j).next }) ∙ (λ j. record q { next = one j })
