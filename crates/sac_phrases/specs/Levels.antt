-- The levels of binary operators.
use Rattle.std.specs.Prelude.{ℕ, List, Result}
use Rattle.std.specs.Borrow.{Bor}
use Rattle.std.specs.Global.{Box}
use Rattle.sac_lex.specs.declared.token.Token.{Token}
use Rattle.sac_base.specs.declared.op.Op.{Op}
use Rattle.sac_ast.specs.Texts.{Lexeme}
use Rattle.sac_ast.specs.Grammar.{disjunction, conjunction, equality, comparison, sum, product, prefix}
use Rattle.sac_ast.specs.Grammar.{Signs, disjunction_signs, conjunction_signs, equality_signs, comparison_signs, sum_signs, product_signs}
use Rattle.sac_ast.specs.Heights.{height}
use Rattle.sac_ast.specs.declared.Expression.{Expression}
use Rattle.sac_phrases.specs.declared.halt.Halt.{Halt}
use Rattle.sac_phrases.specs.declared.level.Level.{Level}
use Rattle.sac_phrases.specs.declared.level.Level.TheVariants.{Disjunction, Conjunction, Equality, Comparison, Sum, Product}
use Rattle.sac_phrases.specs.declared.place.Place.{Place}
use Rattle.sac_phrases.specs.declared.place.Measured.{Measured}
use Rattle.sac_phrases.specs.Contract.{IsPhraseAt, unboxed}

-- the operators of a level
abbrev pub signs_of : Level → Signs
signs_of Disjunction = disjunction_signs
signs_of Conjunction = conjunction_signs
signs_of Equality = equality_signs
signs_of Comparison = comparison_signs
signs_of Sum = sum_signs
signs_of Product = product_signs

-- the first of them, and the others
abbrev pub first_operator : Level → List ℕ × Op
first_operator level = (signs_of level).0

abbrev pub more_operators : Level → List (List ℕ × Op)
more_operators level = (signs_of level).1

-- a phrase of the level is read
abbrev pub IsLevelAt : Level → Place → List Lexeme → Result (Measured (Box Expression) × Bor (List Token)) Halt → Type 0
IsLevelAt Disjunction place = IsPhraseAt place disjunction unboxed height
IsLevelAt Conjunction place = IsPhraseAt place conjunction unboxed height
IsLevelAt Equality place = IsPhraseAt place equality unboxed height
IsLevelAt Comparison place = IsPhraseAt place comparison unboxed height
IsLevelAt Sum place = IsPhraseAt place sum unboxed height
IsLevelAt Product place = IsPhraseAt place product unboxed height

-- an operand of the level is read
abbrev pub IsOperandAt : Level → Place → List Lexeme → Result (Measured (Box Expression) × Bor (List Token)) Halt → Type 0
IsOperandAt Disjunction place = IsPhraseAt place conjunction unboxed height
IsOperandAt Conjunction place = IsPhraseAt place equality unboxed height
IsOperandAt Equality place = IsPhraseAt place comparison unboxed height
IsOperandAt Comparison place = IsPhraseAt place sum unboxed height
IsOperandAt Sum place = IsPhraseAt place product unboxed height
IsOperandAt Product place = IsPhraseAt place prefix unboxed height
