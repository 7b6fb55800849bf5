-- What the stop of a part means for the phrase around it.
use Rattle.std.specs.Prelude.{ℕ, ◌+◌, max, List, Result, Ok, Err}
use Rattle.std.specs.Borrow.{Bor}
use Rattle.sac_base.specs.declared.site.Site.{Site}
use Rattle.sac_lex.specs.declared.token.Token.{Token}
use Rattle.sac_ast.specs.Texts.{Lexeme}
use Rattle.sac_ast.specs.Shape.{ref}
use Rattle.sac_ast.specs.Grammar.{Rule, V, rule, action, listed, items, index_of, expression, generator, statement, assign}
use Rattle.sac_ast.specs.declared.Statement.{Statement}
use Rattle.sac_ast.specs.Heights.{height, stmt_height}
use Rattle.sac_grammar.specs.Limits.{Over, High}
use Rattle.sac_grammar.specs.Parsing.{Reading, Halted, HaltsSo, nth, inject}
use Rattle.sac_phrases.specs.declared.halt.Halt.{Halt}
use Rattle.sac_phrases.specs.declared.place.Place.{Place}
use Rattle.sac_phrases.specs.Contract.{StopOf, lexemes_of, ReadOf}
use Rattle.sac_phrases.specs.Parts.{AssignRest, IsAssignedOf}

-- a generator stops whose parts stand at the place: it is too high for each place with one node fewer around it
abbrev pub StopsAround : Place → List Lexeme → Halt → Type 0
StopsAround place ts e = (d : ℕ) → ((n : ℕ) → Over place.depth n → Over d (1 + n)) → Halted (StopOf e) place.checked d generator ts

-- a part of a phrase is read, whose value is as Means says, or it stops: where it does so for the height, each value has TooHigh
abbrev pub IsPartSo : {X : Type 0} → Place → (s : Rule) → (X → V s → Type 0) → (V s → Type 0) → List Lexeme → Result (X × Bor (List Token)) Halt → Type 0
IsPartSo place s Means TooHigh ts (Ok x) = (v : V s) × Reading s ts v (lexemes_of x.1.now) × Means x.0 v
IsPartSo place s Means TooHigh ts (Err e) = HaltsSo (StopOf e) place.checked s TooHigh ts

-- an index by these expressions is too high with so many nodes around it
abbrev pub IndexOver : ℕ → V (listed (ref expression)) → Type 0
IndexOver d v = (site : Site) → Over d (height (index_of site (items v)))

-- the index or the value of a replacement is
abbrev pub ReplaceOver : ℕ → V (nth 1 AssignRest) → Type 0
ReplaceOver d v = Over d (max (height (index_of v.0.site (items v.1.0))) (height v.1.1.1.1))

-- an assignment is, with this behind its name
abbrev pub AssignOver : ℕ → Lexeme → V AssignRest → Type 0
AssignOver d t v = Over d (stmt_height (action assign (t, v)))

-- what stands behind the name of an assignment is read, or the assignment stops
abbrev pub IsRestAt : Place → Lexeme → List Lexeme → ReadOf Statement → Type 0
IsRestAt place t ts result = IsPartSo place AssignRest (IsAssignedOf place t) (AssignOver place.depth t) ts result

-- the statements of a `for` are
abbrev pub ForOver : ℕ → V (nth 4 (rule statement)) → Type 0
ForOver d v = High d statement (action statement (inject 4 (rule statement) v))
