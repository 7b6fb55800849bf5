-- Extents that were read as numbers.
use Rattle.std.proofs.Common.{ℕ, zero, suc, ◌≡◌, ◌≤◌, ◌+◌, List, [], ◌∷◌, inr, inl, refl, length, map, ℤ, pos, arith}
use Rattle.std.proofs.Common.{Option, Some, subst}
use Rattle.std.specs.Prelude.{IfSome}
use Rattle.std.specs.Str.Parse.{digits_value}
use Rattle.sac_ast.specs.Texts.{Lexeme}
use Rattle.sac_ast.specs.Grammar.{Rule, V, up_to, parts}
use Rattle.sac_parse.specs.Leaves.{numbers_of}

-- a shape of these numbers
pub numbers_shape : (shape : List ℕ) (ts : List Lexeme) → map pos shape ≡ numbers_of ts → shape ≡ map (λ (t : Lexeme). digits_value 10 t.text) ts
numbers_shape [] [] e = refl
numbers_shape [] (t ∷ ts) e = cc
numbers_shape (n ∷ shape) [] e = cc
numbers_shape (n ∷ shape) (t ∷ ts) e =
    let h : n ≡ digits_value 10 t.text = cc in
    let r : map pos shape ≡ numbers_of ts = cc in
    λ i. h i ∷ numbers_shape shape ts r i

pub few_parts : (n : ℕ) (a : Rule) (v : V (up_to n a)) → length (parts n a v) ≤ n + 1
few_parts zero a v = omega arith
few_parts (suc n) a (v, inl w) = let h = few_parts n a w.1 in omega arith
few_parts (suc n) a (v, inr u) = omega arith

pub shape_of : (r : Option (List ℕ)) (shape : List ℕ) (zs : List ℤ) → IfSome r (λ s. map pos s ≡ zs) → r ≡ Some shape → map pos shape ≡ zs
shape_of r shape zs v e = let P : Option (List ℕ) → Type 0 = λ o. IfSome o (λ s. map pos s ≡ zs) in subst P e v
