-- How a predictive parser runs over a grammar: one token of lookahead decides each choice.
use Rattle.std.specs.Prelude.{ℕ, zero, suc, ◌≡◌, Bool, true, false, ◌&&◌, ◌||◌, not, List, [], ◌∷◌, ◌++◌, ◌⊎◌, IsTrue, if◌then◌else◌, nat_lt, ⊤}
use Rattle.std.specs.List.{list_any, list_all}
use Rattle.std.specs.Str.{bytes_eq}
use mathlib.Core.Logic.{inl, inr}
use Rattle.sac_ast.specs.Texts.{Lexeme, is_name, is_number, is_end}
use Rattle.sac_ast.specs.Shape.{Terminal, text, name, number, end, matches, Shape, nothing, term, ref, seq, alt, many, Value}

-- the first token is one of these
abbrev pub starts : List Terminal → List Lexeme → Bool
starts fs [] = false
starts fs (t ∷ ts) = list_any (λ f. matches f t) fs

-- what follows the first token is left open
abbrev pub SameFirst : List Lexeme → List Lexeme → Type 0
SameFirst [] [] = ⊤
SameFirst (x ∷ xs) (y ∷ ys) = x ≡ y
SameFirst xs ys = ⊥

-- no phrase of a nonterminal is empty; first_of has the terminals that its phrases begin with
abbrev pub is_nullable : {N : Type 0} → Shape N → Bool
is_nullable nothing = true
is_nullable (term t) = false
is_nullable (ref k) = false
is_nullable (seq a b) = is_nullable a && is_nullable b
is_nullable (alt a b) = is_nullable a || is_nullable b
is_nullable (many a) = true

abbrev pub first : {N : Type 0} → (N → List Terminal) → Shape N → List Terminal
first first_of nothing = []
first first_of (term t) = t ∷ []
first first_of (ref k) = first_of k
first first_of (seq a b) = first first_of a ++ (if is_nullable a then first first_of b else [])
first first_of (alt a b) = first first_of a ++ first first_of b
first first_of (many a) = first first_of a

-- a parser reads phrases of each nonterminal from tokens, with a tree and a rest; and it gets stuck in them, before a rest
abbrev pub Readers : {N : Type 0} → (N → Type 0) → Type 1
Readers {N} Tree = (k : N) → List Lexeme → Tree k → List Lexeme → Type 0

abbrev pub Stuck : Type 0 → Type 1
Stuck N = (k : N) → List Lexeme → List Lexeme → Type 0

-- the same of one part: from these tokens, with this value and this rest
abbrev pub Reader : Type 0 → Type 1
Reader V = List Lexeme → V → List Lexeme → Type 0

-- one part after another, as long as the first token begins one
abbrev pub RunsEach : {V : Type 0} → List Terminal → Reader V → List Lexeme → List V → List Lexeme → Type 0
RunsEach fs P ts [] rest = (rest ≡ ts) × (starts fs ts ≡ false)
RunsEach fs P ts (v ∷ vs) rest = (starts fs ts ≡ true) × ((mid : List Lexeme) × P ts v mid × RunsEach fs P mid vs rest)

-- some parts, and then one that gets stuck
abbrev pub SticksAfter : {V : Type 0} → List Terminal → Reader V → (List Lexeme → List Lexeme → Type 0) → List Lexeme → List V → List Lexeme → Type 0
SticksAfter fs P Q ts [] rest = (starts fs ts ≡ true) × Q ts rest
SticksAfter fs P Q ts (v ∷ vs) rest = (starts fs ts ≡ true) × ((mid : List Lexeme) × P ts v mid × SticksAfter fs P Q mid vs rest)

module _ {N : Type 0} (Tree : N → Type 0) (first_of : N → List Terminal) where
  -- the parser reads a phrase from the tokens, with this value and this rest
  abbrev pub Runs : Readers Tree → (s : Shape N) → List Lexeme → Value Tree s → List Lexeme → Type 0
  Runs R nothing ts v rest = rest ≡ ts
  Runs R (term t) ts v rest = (ts ≡ v ∷ rest) × IsTrue (matches t v)
  Runs R (ref k) ts v rest = R k ts v rest
  Runs R (seq a b) ts v rest = (mid : List Lexeme) × Runs R a ts v.0 mid × Runs R b mid v.1 rest
  Runs R (alt a b) ts (inl v) rest = (starts (first first_of a) ts ≡ true) × Runs R a ts v rest
  Runs R (alt a b) ts (inr v) rest = (starts (first first_of a) ts ≡ false) × Runs R b ts v rest
  Runs R (many a) ts vs rest = RunsEach (first first_of a) (Runs R a) ts vs rest

  -- the parser gets stuck at the first token of the rest
  abbrev pub Sticks : Readers Tree → Stuck N → (s : Shape N) → List Lexeme → List Lexeme → Type 0
  Sticks R S nothing ts rest = ⊥
  Sticks R S (term t) ts rest = (rest ≡ ts) × (starts (t ∷ []) ts ≡ false)
  Sticks R S (ref k) ts rest = S k ts rest
  Sticks R S (seq a b) ts rest = Sticks R S a ts rest ⊎ ((v : Value Tree a) × (mid : List Lexeme) × Runs R a ts v mid × Sticks R S b mid rest)
  Sticks R S (alt a b) ts rest =
      ((starts (first first_of a) ts ≡ true) × Sticks R S a ts rest) ⊎ ((starts (first first_of a) ts ≡ false) × Sticks R S b ts rest)
  Sticks R S (many a) ts rest = (vs : List (Value Tree a)) × SticksAfter (first first_of a) (Runs R a) (Sticks R S a) ts vs rest

  module _ (rule : N → Shape N) (action : (k : N) → Value Tree (rule k) → Tree k) where
    abbrev pub RunsIn : ℕ → (k : N) → List Lexeme → Tree k → List Lexeme → Type 0
    RunsIn zero k ts tree rest = ⊥
    RunsIn (suc n) k ts tree rest = (v : Value Tree (rule k)) × (tree ≡ action k v) × Runs (RunsIn n) (rule k) ts v rest

    abbrev pub SticksIn : ℕ → (k : N) → List Lexeme → List Lexeme → Type 0
    SticksIn zero k ts rest = ⊥
    SticksIn (suc n) k ts rest = Sticks (RunsIn n) (SticksIn n) (rule k) ts rest

    -- the parser reads a phrase of k, or gets stuck in one
    pub record Reads (k : N) (ts : List Lexeme) (tree : Tree k) (rest : List Lexeme) : Type 0 where
      pub levels : ℕ
      pub run : RunsIn levels k ts tree rest

    pub record Fails (k : N) (ts rest : List Lexeme) : Type 0 where
      pub levels : ℕ
      pub run : SticksIn levels k ts rest

-- ---- when a right side needs no more than one token of lookahead

-- some token may match both
abbrev pub clash : Terminal → Terminal → Bool
clash (text a) (text b) = bytes_eq a b
clash (text a) name = is_name a
clash (text a) number = is_number a
clash (text a) end = is_end a
clash name (text b) = is_name b
clash number (text b) = is_number b
clash end (text b) = is_end b
clash name name = true
clash number number = true
clash end end = true
clash name number = false
clash name end = false
clash number name = false
clash number end = false
clash end name = false
clash end number = false

-- they are one
abbrev pub same : Terminal → Terminal → Bool
same (text a) (text b) = bytes_eq a b
same name name = true
same number number = true
same end end = true
same a b = false

abbrev pub are_apart : List Terminal → List Terminal → Bool
are_apart xs ys = list_all (λ a. list_all (λ b. not (clash a b)) ys) xs

-- the terminals by which a whole phrase may go on
abbrev pub extends : {N : Type 0} → (N → List Terminal) → (N → List Terminal) → Shape N → List Terminal
extends first_of ext_of nothing = []
extends first_of ext_of (term t) = []
extends first_of ext_of (ref k) = ext_of k
extends first_of ext_of (seq a b) = extends first_of ext_of b ++ (if is_nullable b then extends first_of ext_of a else [])
extends first_of ext_of (alt a b) = extends first_of ext_of a ++ (extends first_of ext_of b ++ (if is_nullable b then first first_of a else []))
extends first_of ext_of (many a) = first first_of a ++ extends first_of ext_of a

-- one token decides each choice
abbrev pub is_predictive : {N : Type 0} → (N → List Terminal) → (N → List Terminal) → Shape N → Bool
is_predictive f e nothing = true
is_predictive f e (term t) = true
is_predictive f e (ref k) = true
is_predictive f e (seq a b) = is_predictive f e a && (is_predictive f e b && are_apart (extends f e a) (first f b))
is_predictive f e (alt a b) = (is_predictive f e a && is_predictive f e b) && (not (is_nullable a) && are_apart (first f a) (first f b))
is_predictive f e (many a) = is_predictive f e a && (not (is_nullable a) && are_apart (extends f e a) (first f a))

-- every terminal of the one list is in the other
abbrev pub covers : List Terminal → List Terminal → Bool
covers fs gs = list_all (λ f. list_any (same f) gs) fs

-- some phrase of the right side needs only nonterminals of lower rank
abbrev pub is_below : {N : Type 0} → (N → ℕ) → ℕ → Shape N → Bool
is_below rank m nothing = true
is_below rank m (term t) = true
is_below rank m (ref k) = nat_lt (rank k) m
is_below rank m (seq a b) = is_below rank m a && is_below rank m b
is_below rank m (alt a b) = is_below rank m a || is_below rank m b
is_below rank m (many a) = true

-- the tables of a grammar fit it, and one token of lookahead decides each choice
pub record IsPredictive {N : Type 0} (first_of ext_of : N → List Terminal) (rank : N → ℕ) (rule : N → Shape N) : Type 0 where
  pub choices : (k : N) → is_predictive first_of ext_of (rule k) ≡ true
  pub some : (k : N) → is_nullable (rule k) ≡ false
  pub firsts : (k : N) → covers (first first_of (rule k)) (first_of k) ≡ true
  pub extensions : (k : N) → covers (extends first_of ext_of (rule k)) (ext_of k) ≡ true
  pub ranks : (k : N) → is_below rank (rank k) (rule k) ≡ true
