-- What the functions of the parser for functions and programs promise.
use Rattle.std.specs.Prelude.{◌≡◌, ◌≤◌, Bool, true, List, ◌⊎◌, Result, Ok, Err, map, codes}
use Rattle.std.specs.Borrow.{Bor}
use Rattle.sac_lex.specs.declared.token.Token.{Token}
use Rattle.sac_ast.specs.declared.Function.{Function}
use Rattle.sac_ast.specs.declared.Program.{Program}
use Rattle.sac_ast.specs.Texts.{Lexeme}
use Rattle.sac_ast.specs.Shape.{seq, ref}
use Rattle.sac_ast.specs.Grammar.{Rule, V, sign, parens, listed, items, expression, function, program}
use Rattle.sac_ast.specs.Heights.{heights, function_height, IsLow}
use Rattle.sac_ast.specs.View as View
use Rattle.sac_ast.specs.View.{exprs_of}
use Rattle.sac_grammar.specs.Parsing.{Found, stuck, high, Halted}
use Rattle.sac_grammar.specs.Verdicts.{NoHighBefore}
use Rattle.sac_phrases.specs.declared.halt.Halt.{Halt}
use Rattle.sac_phrases.specs.declared.place.Place.{Place}
use Rattle.sac_phrases.specs.Contract.{lexemes_of, StopOf, IsLowAt}
use Rattle.sac_parse.specs.declared.program.Returned.{Returned}

-- how a function ends
abbrev pub Ending : Rule
Ending = seq (sign (codes "return")) (seq (parens (listed (ref expression))) (seq (sign (codes ";")) (sign (codes "}"))))

-- the values that a function returns, and the site of the word
pub record IsReturned (place : Place) (returned : Returned) (v : V Ending) : Type 0 where
  pub trees : map View.expr returned.values.tree.items ≡ items v.1.0.1.0
  pub low : IsLowAt place returned.values.height (heights (exprs_of (items v.1.0.1.0)))
  pub site : returned.site ≡ v.0.site

-- a function is read, within the limit on its height where heights are checked
abbrev pub IsFunctionAt : Bool → List Lexeme → Result (Function × Bor (List Token)) Halt → Type 0
IsFunctionAt checked ts (Ok x) = Found function ts (View.function x.0) (lexemes_of x.1.now) × (checked ≡ true → function_height (View.function x.0) ≤ 100)
IsFunctionAt checked ts (Err e) = Halted (StopOf e) checked 0 function ts

-- no function that is too high ends before the place of the stop
abbrev pub IsNotLate : Halt → Bool → List Lexeme → Type 0
IsNotLate e checked ts = checked ≡ true → (r : List Lexeme) → StopOf e (stuck r) ⊎ StopOf e (high r) → NoHighBefore ts r

-- a program is read, within the limit on its height where heights are checked
abbrev pub IsProgramAt : Bool → List Lexeme → Result (Program × Bor (List Token)) Halt → Type 0
IsProgramAt checked ts (Ok x) = Found program ts (View.program x.0) (lexemes_of x.1.now) × (checked ≡ true → IsLow (View.program x.0))
IsProgramAt checked ts (Err e) = Halted (StopOf e) checked 0 program ts × IsNotLate e checked ts
