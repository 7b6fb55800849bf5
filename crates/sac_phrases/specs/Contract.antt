-- What the functions of the parser promise.
use Rattle.std.specs.Prelude.{ℕ, ◌≡◌, ◌+◌, ◌≤◌, ◌<◌, Bool, true, false, List, [], ◌∷◌, Result, Ok, Err, map, Option, Some, None, if◌then◌else◌}
use Rattle.std.specs.Borrow.{Bor}
use Rattle.std.specs.Global.{Box}
use Rattle.sac_lex.specs.declared.token.Token.{Token}
use Rattle.sac_lex.specs.declared.token.TokenKind.TheVariants.{Name, Number}
use Rattle.sac_base.specs.declared.op.Op.{Op}
use Rattle.sac_base.specs.declared.site.Site.{Site}
use Rattle.sac_ast.specs.Texts.{Lexeme}
use Rattle.sac_ast.specs.Shape.{Terminal, text, matches}
use Rattle.sac_ast.specs.Grammar.{Nonterminal, Tree, Rule, V, rule}
use Rattle.sac_ast.specs.Tree.{Expr}
use Rattle.sac_ast.specs.View as View
use Rattle.sac_ast.specs.declared.Expression.{Expression}
use Rattle.sac_grammar.specs.Run.{starts}
use Rattle.sac_grammar.specs.Parsing.{Found, Reading, Stop, stuck, high, Halted, Halts}
use Rattle.sac_phrases.specs.declared.halt.Halt.{Halt}
use Rattle.sac_phrases.specs.declared.halt.Halt.TheVariants.{Stuck, High, Memory}
use Rattle.sac_phrases.specs.declared.place.Place.{Place}
use Rattle.sac_phrases.specs.declared.place.Measured.{Measured}

abbrev pub lexeme : Token → Lexeme
lexeme t = record { text = t.text.now; site = t.site }

abbrev pub lexemes_of : List Token → List Lexeme
lexemes_of ts = map lexeme ts

-- the tree of an expression on the heap
abbrev pub unboxed : Box Expression → Expr
unboxed e = View.expr e.value

-- the stop of the parser that an error tells
abbrev pub StopOf : Halt → Stop → Type 0
StopOf (Stuck rest) x = x ≡ stuck (lexemes_of rest.now)
StopOf (High rest) x = x ≡ high (lexemes_of rest.now)
StopOf Memory x = ⊥

-- the height of a tree, within the limit at its place, where heights are checked
abbrev pub IsLowAt : Place → ℕ → ℕ → Type 0
IsLowAt place n is = place.checked ≡ true → (n ≡ is) × (place.depth + is ≤ 99)

-- the same without a limit that depends on the place
abbrev pub IsLow : Place → ℕ → ℕ → Type 0
IsLow place n is = place.checked ≡ true → (n ≡ is) × (is ≤ 99)

-- the same for a phrase whose own node is not checked
abbrev pub IsNear : Place → ℕ → ℕ → Type 0
IsNear place n is = place.checked ≡ true → (n ≡ is) × (is ≤ 100)

-- the height alone
abbrev pub IsTall : Place → ℕ → ℕ → Type 0
IsTall place n is = place.checked ≡ true → n ≡ is

-- the parser is stuck at the first of these tokens
abbrev pub IsStuckAt : List Lexeme → Halt → Type 0
IsStuckAt ts (Stuck rest) = lexemes_of rest.now ≡ ts
IsStuckAt ts (High rest) = ⊥
IsStuckAt ts Memory = ⊥

-- a token is read, or there is none that matches
abbrev pub IsToken : {X : Type 0} → Terminal → (X → Lexeme) → List Lexeme → Result (X × Bor (List Token)) Halt → Type 0
IsToken t token ts (Ok x) = (ts ≡ token x.0 ∷ lexemes_of x.1.now) × (matches t (token x.0) ≡ true)
IsToken t token ts (Err e) = IsStuckAt ts e × (starts (t ∷ []) ts ≡ false)

-- a token is there, or none that matches
abbrev pub IsAccepted : Terminal → List Lexeme → Option (Token × Bor (List Token)) → Type 0
IsAccepted t ts (Some x) = (ts ≡ lexeme x.0 ∷ lexemes_of x.1.now) × (matches t (lexeme x.0) ≡ true)
IsAccepted t ts None = starts (t ∷ []) ts ≡ false

abbrev pub texts : List (List ℕ) → List Terminal
texts = map text

abbrev pub is_name_token : Token → Type 0
is_name_token t = t.kind ≡ Name

abbrev pub is_number_token : Token → Type 0
is_number_token t = t.kind ≡ Number

-- the operator that the first token is, by a table of spellings
abbrev pub operator_of : List (List ℕ × Op) → List Lexeme → Option (Op × Site)
operator_of table [] = None
operator_of [] (t ∷ ts) = None
operator_of (o ∷ ps) (t ∷ ts) = if matches (text o.0) t then Some (o.1, t.site) else operator_of ps (t ∷ ts)

-- an operator of the table with its site and the tokens behind it, if the first token is one
abbrev pub IsOperator : List (List ℕ × Op) → List Lexeme → Option (Op × Site × Bor (List Token)) → Type 0
IsOperator table ts None = operator_of table ts ≡ None
IsOperator table ts (Some x) = (operator_of table ts ≡ Some (x.0, x.1)) × ((t : Lexeme) × (ts ≡ t ∷ lexemes_of x.2.now))

-- the node is kept, or it is too high for the place
abbrev pub IsKept : {X : Type 0} → Place → Measured X → List Token → Result (Measured X × Bor (List Token)) Halt → Type 0
IsKept place node rest (Ok x) = (x.0 ≡ node) × (x.1.now ≡ rest) × (place.checked ≡ true → place.depth + node.height ≤ 99)
IsKept place node rest (Err (High r)) = (r.now ≡ rest) × (place.checked ≡ true) × (99 < place.depth + node.height)
IsKept place node rest (Err Memory) = ⊥
IsKept place node rest (Err (Stuck r)) = ⊥

-- what was read, and the tokens behind it
abbrev pub ReadOf : Type 0 → Type 0
ReadOf X = Result (Measured X × Bor (List Token)) Halt

-- a phrase of a nonterminal is read, whose tree has such a height
abbrev pub IsPhraseAt : {X : Type 0} → Place → (k : Nonterminal) → (X → Tree k) → (Tree k → ℕ) → List Lexeme → ReadOf X → Type 0
IsPhraseAt place k view tall ts (Ok x) = Found k ts (view x.0.tree) (lexemes_of x.1.now) × IsLowAt place x.0.height (tall (view x.0.tree))
IsPhraseAt place k view tall ts (Err e) = Halted (StopOf e) place.checked place.depth k ts

-- the same for a phrase that ends with a sign: it may be too high, and the phrase around it tells
abbrev pub IsPhraseNear : {X : Type 0} → Place → (k : Nonterminal) → (X → Tree k) → (Tree k → ℕ) → List Lexeme → ReadOf X → Type 0
IsPhraseNear place k view tall ts (Ok x) = Found k ts (view x.0.tree) (lexemes_of x.1.now) × IsNear place x.0.height (tall (view x.0.tree))
IsPhraseNear place k view tall ts (Err e) = Halted (StopOf e) place.checked place.depth k ts

-- a part of a phrase is read, whose value is as Means says
abbrev pub IsPartAt : {X : Type 0} → Place → (s : Rule) → (X → V s → Type 0) → List Lexeme → Result (X × Bor (List Token)) Halt → Type 0
IsPartAt place s Means ts (Ok x) = (v : V s) × Reading s ts v (lexemes_of x.1.now) × Means x.0 v
IsPartAt place s Means ts (Err e) = Halts (StopOf e) place.checked (λ _. place.depth) s ts

-- the right side of a phrase is read, whose value is as Means says; an error is one of the phrase
abbrev pub IsNodeAt : {X : Type 0} → Place → (k : Nonterminal) → (X → V (rule k) → Type 0) → List Lexeme → Result (X × Bor (List Token)) Halt → Type 0
IsNodeAt place k Means ts (Ok x) = (v : V (rule k)) × Reading (rule k) ts v (lexemes_of x.1.now) × Means x.0 v
IsNodeAt place k Means ts (Err e) = Halted (StopOf e) place.checked place.depth k ts

-- the same where no part of it can be too high
abbrev pub IsLeafAt : {X : Type 0} → (s : Rule) → (X → V s → Type 0) → List Lexeme → Result (X × Bor (List Token)) Halt → Type 0
IsLeafAt s Means ts (Ok x) = (v : V s) × Reading s ts v (lexemes_of x.1.now) × Means x.0 v
IsLeafAt s Means ts (Err e) = (checked : Bool) (D : Nonterminal → ℕ) → Halts (StopOf e) checked D s ts
