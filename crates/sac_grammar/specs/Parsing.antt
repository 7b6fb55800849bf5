-- What a parser of the language has done: it read a phrase, or it stopped, stuck at a token or where the tree would become too high.
use Rattle.std.specs.Prelude.{ℕ, zero, suc, ◌≡◌, ◌≤◌, ◌&&◌, Bool, true, List, [], ◌∷◌, ◌++◌, length}
use mathlib.Core.Logic.{inl, inr}
use Rattle.sac_ast.specs.Texts.{Lexeme}
use Rattle.sac_ast.specs.Shape.{nothing, term, ref, seq, alt, many, Matches, Derives}
use Rattle.sac_ast.specs.Grammar.{Nonterminal, Tree, rule, action, Rule, V}
use Rattle.sac_grammar.specs.Run.{starts, first, are_apart, SameFirst, Runs, RunsIn, Sticks, Reads, Fails}
use Rattle.sac_grammar.specs.High.{Tops, Tall}
use Rattle.sac_grammar.specs.Tables.{first_of}
use Rattle.sac_grammar.specs.Limits.{High, gap_of}

-- the parser reads a phrase of k with this tree
abbrev pub Found : (k : Nonterminal) → List Lexeme → Tree k → List Lexeme → Type 0
Found = Reads Tree first_of rule action

-- it is stuck in one, at the first token of the rest
abbrev pub Lost : (k : Nonterminal) → List Lexeme → List Lexeme → Type 0
Lost = Fails Tree first_of rule action

-- with the tokens before the rest and the next one, each phrase is too high for a place with so many nodes around it
abbrev pub TooTall : ℕ → (k : Nonterminal) → List Lexeme → List Lexeme → Type 0
TooTall d k = Tall Tree first_of rule action (gap_of k) k (High d k)

-- it reads a phrase of a right side
pub record Reading (s : Rule) (ts : List Lexeme) (v : V s) (rest : List Lexeme) : Type 0 where
  pub run : Runs Tree first_of Found s ts v rest

-- why it stops, and before which tokens
pub data Stop : Type 0 where
  stuck : List Lexeme → Stop
  high : List Lexeme → Stop

abbrev pub StopsAt : ℕ → (k : Nonterminal) → List Lexeme → Stop → Type 0
StopsAt d k ts (stuck r) = Lost k ts r
StopsAt d k ts (high r) = TooTall d k ts r

abbrev pub StopsIn : (Nonterminal → ℕ) → (s : Rule) → List Lexeme → Stop → Type 0
StopsIn D s ts (stuck r) = Sticks Tree first_of Found Lost s ts r
StopsIn D s ts (high r) = Tops Tree first_of Found (λ (j : Nonterminal). TooTall (D j) j) s ts r

-- each stop that P tells is one in a phrase of k, and one for the height comes only where heights are checked
pub record Halted (P : Stop → Type 0) (checked : Bool) (d : ℕ) (k : Nonterminal) (ts : List Lexeme) : Type 0 where
  pub at : (x : Stop) → P x → StopsAt d k ts x
  pub only : (r : List Lexeme) → P (high r) → checked ≡ true

-- the same of a right side, with so many nodes around each phrase in it
pub record Halts (P : Stop → Type 0) (checked : Bool) (D : Nonterminal → ℕ) (s : Rule) (ts : List Lexeme) : Type 0 where
  pub at : (x : Stop) → P x → StopsIn D s ts x
  pub only : (r : List Lexeme) → P (high r) → checked ≡ true

-- ---- values that are too high

-- the tokens before the rest begin a part of a phrase, and each value of it that begins with them and the next token has G and does not end before the rest
pub record TallPart (s : Rule) (G : V s → Type 0) (ts rest : List Lexeme) : Type 0 where
  pub front : List Lexeme
  pub split : ts ≡ front ++ rest
  pub begun : (w : List Lexeme) × (v : V s) × Matches Tree (Derives Tree rule action) s (front ++ w) v
  pub high :
      (n : ℕ) (q : List Lexeme) (v : V s) (z : List Lexeme) → SameFirst rest q
      → Runs Tree first_of (RunsIn Tree first_of rule action n) s (front ++ q) v z → G v × (length z ≤ length q)

abbrev pub StopsSo : (s : Rule) → (V s → Type 0) → List Lexeme → Stop → Type 0
StopsSo s G ts (stuck r) = Sticks Tree first_of Found Lost s ts r
StopsSo s G ts (high r) = TallPart s G ts r

-- each stop that P tells is one in a part whose value has G where it is one for the height, and those come only where heights are checked
pub record HaltsSo (P : Stop → Type 0) (checked : Bool) (s : Rule) (G : V s → Type 0) (ts : List Lexeme) : Type 0 where
  pub at : (x : Stop) → P x → StopsSo s G ts x
  pub only : (r : List Lexeme) → P (high r) → checked ≡ true

-- ---- one of several alternatives

abbrev pub nth : ℕ → Rule → Rule
nth zero (alt a b) = a
nth (suc n) (alt a b) = nth n b
nth n s = s

abbrev pub inject : (n : ℕ) (s : Rule) → V (nth n s) → V s
inject zero (alt a b) v = inl v
inject (suc n) (alt a b) v = inr (inject n b v)
inject zero nothing v = v
inject zero (term t) v = v
inject zero (ref k) v = v
inject zero (seq a b) v = v
inject zero (many a) v = v
inject (suc n) nothing v = v
inject (suc n) (term t) v = v
inject (suc n) (ref k) v = v
inject (suc n) (seq a b) v = v
inject (suc n) (many a) v = v

-- the first token of alternative n begins none of those before it
abbrev pub is_apart : ℕ → Rule → Bool
is_apart zero s = true
is_apart (suc n) (alt a b) = are_apart (first first_of (nth n b)) (first first_of a) && is_apart n b
is_apart n s = true

-- ---- one part after another

-- these parts were read, and the rest is left
abbrev pub ReadEach : (a : Rule) → List Lexeme → List (V a) → List Lexeme → Type 0
ReadEach a ts [] rest = rest ≡ ts
ReadEach a ts (v ∷ vs) rest =
    (starts (first first_of a) ts ≡ true) × ((mid : List Lexeme) × Runs Tree first_of Found a ts v mid × ReadEach a mid vs rest)

pub record Parts (a : Rule) (ts : List Lexeme) (vs : List (V a)) (rest : List Lexeme) : Type 0 where
  pub each : ReadEach a ts vs rest
