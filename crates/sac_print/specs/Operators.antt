-- How operators are spelled, and how tightly they bind.
use Rattle.std.specs.Prelude.{ℕ, Bool, true, false, List, [], nat_lt, codes, if◌then◌else◌}
use Rattle.sac_base.specs.declared.op.Op.{Op}
use Rattle.sac_base.specs.declared.op.Op.TheVariants.{Add, Sub, Mul, Div, Rem, Min, Max, Neg, Not, Eq, Ne, Lt, Le, Gt, Ge, And, Or}
use Rattle.sac_ast.specs.declared.Builtin.{Builtin}
use Rattle.sac_ast.specs.declared.Builtin.TheVariants.{Dim, Shape, Reshape}
use Rattle.sac_print.specs.declared.level.Level.{Level}
use Rattle.sac_print.specs.declared.level.Level.TheVariants as level
use Rattle.sac_print.specs.Texts.{Texts, one}

abbrev pub operator_text : Op → List ℕ
operator_text Add = codes "+"
operator_text Sub = codes "-"
operator_text Mul = codes "*"
operator_text Div = codes "/"
operator_text Rem = codes "%"
operator_text Min = codes "min"
operator_text Max = codes "max"
operator_text Neg = codes "-"
operator_text Not = codes "!"
operator_text Eq = codes "=="
operator_text Ne = codes "!="
operator_text Lt = codes "<"
operator_text Le = codes "<="
operator_text Gt = codes ">"
operator_text Ge = codes ">="
operator_text And = codes "&&"
operator_text Or = codes "||"

abbrev pub builtin_text : Builtin → List ℕ
builtin_text Dim = codes "dim"
builtin_text Shape = codes "shape"
builtin_text Reshape = codes "reshape"

-- operators that are written as calls
abbrev pub is_function : Op → Bool
is_function Min = true
is_function Max = true
is_function op = false

-- the level of the grammar at which an operator of two operands stands
abbrev pub level_of : Op → Level
level_of Or = level.Disjunction
level_of And = level.Conjunction
level_of Eq = level.Equality
level_of Ne = level.Equality
level_of Lt = level.Comparison
level_of Le = level.Comparison
level_of Gt = level.Comparison
level_of Ge = level.Comparison
level_of Add = level.Sum
level_of Sub = level.Sum
level_of Mul = level.Product
level_of Div = level.Product
level_of Rem = level.Product
level_of op = level.Prefix

-- the next tighter level
abbrev pub tighter : Level → Level
tighter level.Expression = level.Disjunction
tighter level.Disjunction = level.Conjunction
tighter level.Conjunction = level.Equality
tighter level.Equality = level.Comparison
tighter level.Comparison = level.Sum
tighter level.Sum = level.Product
tighter level.Product = level.Prefix
tighter level.Prefix = level.Postfix
tighter level.Postfix = level.Postfix

abbrev pub tightness : Level → ℕ
tightness level.Expression = 0
tightness level.Disjunction = 1
tightness level.Conjunction = 2
tightness level.Equality = 3
tightness level.Comparison = 4
tightness level.Sum = 5
tightness level.Product = 6
tightness level.Prefix = 7
tightness level.Postfix = 8

-- whether a phrase of one level has to be in parentheses where a phrase of another is wanted
abbrev pub is_looser : Level → Level → Bool
is_looser own wanted = nat_lt (tightness own) (tightness wanted)

abbrev pub opening : Bool → Texts
opening needed = if needed then one (codes "(") else []

abbrev pub closing : Bool → Texts
closing needed = if needed then one (codes ")") else []
