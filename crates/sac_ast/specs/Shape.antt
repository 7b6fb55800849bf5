-- Grammars whose right sides are regular expressions over terminals and nonterminals, with the value of each phrase.
use Rattle.std.specs.Prelude.{ℕ, zero, suc, ◌≡◌, Bool, List, [], ◌∷◌, ◌++◌, ◌⊎◌, IsTrue}
use Rattle.std.specs.Str.{bytes_eq}
use mathlib.Core.Logic.{inl, inr}
use Rattle.sac_ast.specs.Texts.{Lexeme, is_name, is_number, is_end}

-- a sign or word by its bytes, any name, any number, or the end
pub data Terminal : Type 0 where
  text : List ℕ → Terminal
  name : Terminal
  number : Terminal
  end : Terminal

abbrev pub matches : Terminal → Lexeme → Bool
matches (text bytes) t = bytes_eq bytes t.text
matches name t = is_name t.text
matches number t = is_number t.text
matches end t = is_end t.text

-- a right side, over nonterminals N
pub data Shape (N : Type 0) : Type 0 where
  nothing : Shape N
  term : Terminal → Shape N
  ref : N → Shape N
  seq : Shape N → Shape N → Shape N
  alt : Shape N → Shape N → Shape N
  many : Shape N → Shape N

-- what a phrase of a right side means, where a phrase of k means a Tree k
abbrev pub Value : {N : Type 0} → (N → Type 0) → Shape N → Type 0
Value Tree nothing = Unit {0}
Value Tree (term t) = Lexeme
Value Tree (ref k) = Tree k
Value Tree (seq a b) = Value Tree a × Value Tree b
Value Tree (alt a b) = Value Tree a ⊎ Value Tree b
Value Tree (many a) = List (Value Tree a)

-- each of the parts that tokens are cut into is a phrase
abbrev pub MatchesEach : {V : Type 0} → (List Lexeme → V → Type 0) → List Lexeme → List V → Type 0
MatchesEach P ts [] = ts ≡ []
MatchesEach P ts (v ∷ vs) = (u w : List Lexeme) × (ts ≡ u ++ w) × P u v × MatchesEach P w vs

module _ {N : Type 0} (Tree : N → Type 0) where
  -- the tokens are a phrase of the right side with this meaning, where R is that of the nonterminals
  abbrev pub Matches : ((k : N) → List Lexeme → Tree k → Type 0) → (s : Shape N) → List Lexeme → Value Tree s → Type 0
  Matches R nothing ts v = ts ≡ []
  Matches R (term t) ts v = (ts ≡ v ∷ []) × IsTrue (matches t v)
  Matches R (ref k) ts v = R k ts v
  Matches R (seq a b) ts v = (u w : List Lexeme) × (ts ≡ u ++ w) × Matches R a u v.0 × Matches R b w v.1
  Matches R (alt a b) ts (inl v) = Matches R a ts v
  Matches R (alt a b) ts (inr v) = Matches R b ts v
  Matches R (many a) ts vs = MatchesEach (Matches R a) ts vs

  module _ (rule : N → Shape N) (action : (k : N) → Value Tree (rule k) → Tree k) where
    -- a derivation of at most n levels gives the tree
    abbrev pub DerivesIn : ℕ → (k : N) → List Lexeme → Tree k → Type 0
    DerivesIn zero k ts tree = ⊥
    DerivesIn (suc n) k ts tree = (v : Value Tree (rule k)) × (tree ≡ action k v) × Matches (DerivesIn n) (rule k) ts v

    -- the tokens are a phrase of k with this tree
    abbrev pub Derives : (k : N) → List Lexeme → Tree k → Type 0
    Derives k ts tree = (n : ℕ) × DerivesIn n k ts tree
