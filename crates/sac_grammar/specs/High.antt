-- A parser that gives up where the tree would become too high.
use Rattle.std.specs.Prelude.{ℕ, ◌≡◌, ◌+◌, ◌≤◌, Bool, true, false, ◌&&◌, List, [], ◌∷◌, ◌++◌, ◌⊎◌, length}
use mathlib.Core.Logic.{inl, inr}
use Rattle.sac_ast.specs.Texts.{Lexeme}
use Rattle.sac_ast.specs.Shape.{Terminal, Shape, nothing, term, ref, seq, alt, many, Value, Derives}
use Rattle.sac_grammar.specs.Run.{starts, first, SameFirst, Readers, Stuck, SticksAfter, Runs, RunsIn}

abbrev pub AnyOf : {V : Type 0} → (V → Type 0) → List V → Type 0
AnyOf P [] = ⊥
AnyOf P (v ∷ vs) = P v ⊎ AnyOf P vs

-- the right side ends with a terminal
abbrev pub ends_so : {N : Type 0} → Shape N → Bool
ends_so nothing = false
ends_so (term t) = true
ends_so (ref k) = false
ends_so (seq a b) = ends_so b
ends_so (alt a b) = ends_so a && ends_so b
ends_so (many a) = false

module _ {N : Type 0} (Tree : N → Type 0) (first_of : N → List Terminal) where
  -- some tree in the value is too high
  abbrev pub HasHigh : ((k : N) → Tree k → Type 0) → (s : Shape N) → Value Tree s → Type 0
  HasHigh H nothing v = ⊥
  HasHigh H (term t) v = ⊥
  HasHigh H (ref k) v = H k v
  HasHigh H (seq a b) v = HasHigh H a v.0 ⊎ HasHigh H b v.1
  HasHigh H (alt a b) (inl v) = HasHigh H a v
  HasHigh H (alt a b) (inr v) = HasHigh H b v
  HasHigh H (many a) vs = AnyOf (HasHigh H a) vs

  -- the parser stands in such a phrase or behind it, before the rest
  abbrev pub Tops : Readers Tree → Stuck N → (s : Shape N) → List Lexeme → List Lexeme → Type 0
  Tops R S nothing ts rest = ⊥
  Tops R S (term t) ts rest = ⊥
  Tops R S (ref k) ts rest = S k ts rest
  Tops R S (seq a b) ts rest = Tops R S a ts rest ⊎ ((v : Value Tree a) × (mid : List Lexeme) × Runs Tree first_of R a ts v mid × Tops R S b mid rest)
  Tops R S (alt a b) ts rest =
      ((starts (first first_of a) ts ≡ true) × Tops R S a ts rest) ⊎ ((starts (first first_of a) ts ≡ false) × Tops R S b ts rest)
  Tops R S (many a) ts rest = (vs : List (Value Tree a)) × SticksAfter (first first_of a) (Runs Tree first_of R a) (Tops R S a) ts vs rest

  module _ (rule : N → Shape N) (action : (k : N) → Value Tree (rule k) → Tree k) where
    -- the tokens before the rest begin a phrase, and each phrase that begins with them and the next token has G and does not end before the rest;
    -- with a gap of 1 it ends behind the next token
    pub record Tall (gap : ℕ) (k : N) (G : Tree k → Type 0) (ts rest : List Lexeme) : Type 0 where
      pub front : List Lexeme
      pub split : ts ≡ front ++ rest
      pub begun : (w : List Lexeme) × (v : Tree k) × Derives Tree rule action k (front ++ w) v
      pub high :
          (n : ℕ) (q : List Lexeme) (v : Tree k) (z : List Lexeme) → SameFirst rest q
          → RunsIn Tree first_of rule action n k (front ++ q) v z → G v × (length z + gap ≤ length q)
