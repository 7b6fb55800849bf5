-- What a parser with one token of lookahead goes by.
use Rattle.std.specs.Prelude.{ℕ, List, [], ◌∷◌, codes}
use Rattle.sac_ast.specs.Shape.{Terminal, text, name, number, end}
use Rattle.sac_ast.specs.Grammar.{Nonterminal, program, function, param, type', statement, if_statement, else_branch, block, assign, expression}
use Rattle.sac_ast.specs.Grammar.{disjunction, conjunction, equality, comparison, sum, product, prefix, postfix, primary}
use Rattle.sac_ast.specs.Grammar.{generator, bound, index, operation}

-- the words and brackets that a primary expression may begin with
abbrev pub of_form : List Terminal
of_form =
    text (codes "true") ∷ text (codes "false") ∷ text (codes "dim") ∷ text (codes "shape")
    ∷ text (codes "reshape") ∷ text (codes "min") ∷ text (codes "max")
    ∷ text (codes "(") ∷ text (codes "[") ∷ text (codes "with") ∷ []

abbrev pub of_primary : List Terminal
of_primary = number ∷ name ∷ of_form

abbrev pub of_expression : List Terminal
of_expression = number ∷ name ∷ text (codes "-") ∷ text (codes "!") ∷ of_form

-- the terminals that the phrases of a nonterminal begin with
abbrev pub first_of : Nonterminal → List Terminal
first_of program = text (codes "inline") ∷ text (codes "int") ∷ text (codes "bool") ∷ end ∷ []
first_of function = text (codes "inline") ∷ text (codes "int") ∷ text (codes "bool") ∷ []
first_of param = text (codes "int") ∷ text (codes "bool") ∷ []
first_of type' = text (codes "int") ∷ text (codes "bool") ∷ []
first_of statement = name ∷ text (codes "if") ∷ text (codes "while") ∷ text (codes "do") ∷ text (codes "for") ∷ []
first_of if_statement = text (codes "if") ∷ []
first_of else_branch = text (codes "{") ∷ text (codes "if") ∷ []
first_of block = text (codes "{") ∷ []
first_of assign = name ∷ []
first_of expression = of_expression
first_of disjunction = of_expression
first_of conjunction = of_expression
first_of equality = of_expression
first_of comparison = of_expression
first_of sum = of_expression
first_of product = of_expression
first_of prefix = of_expression
first_of postfix = of_primary
first_of primary = of_primary
first_of generator = text (codes "(") ∷ []
first_of bound = text (codes ".") ∷ of_expression
first_of index = name ∷ text (codes "[") ∷ []
first_of operation = text (codes "genarray") ∷ text (codes "modarray") ∷ text (codes "fold") ∷ []

-- the terminals by which a whole phrase of each level may go on: those of its own operators, and those of its operands
abbrev pub after_primary : List Terminal
after_primary = text (codes "(") ∷ []

abbrev pub after_postfix : List Terminal
after_postfix = text (codes "[") ∷ after_primary

abbrev pub after_product : List Terminal
after_product = text (codes "*") ∷ text (codes "/") ∷ text (codes "%") ∷ after_postfix

abbrev pub after_sum : List Terminal
after_sum = text (codes "+") ∷ text (codes "-") ∷ after_product

abbrev pub after_comparison : List Terminal
after_comparison = text (codes "<") ∷ text (codes "<=") ∷ text (codes ">") ∷ text (codes ">=") ∷ after_sum

abbrev pub after_equality : List Terminal
after_equality = text (codes "==") ∷ text (codes "!=") ∷ after_comparison

abbrev pub after_conjunction : List Terminal
after_conjunction = text (codes "&&") ∷ after_equality

abbrev pub after_disjunction : List Terminal
after_disjunction = text (codes "||") ∷ after_conjunction

abbrev pub after_expression : List Terminal
after_expression = text (codes "?") ∷ after_disjunction

abbrev pub ext_of : Nonterminal → List Terminal
ext_of program = []
ext_of function = []
ext_of param = []
ext_of type' = text (codes "[") ∷ []
ext_of statement = text (codes "else") ∷ []
ext_of if_statement = text (codes "else") ∷ []
ext_of else_branch = text (codes "else") ∷ []
ext_of block = []
ext_of assign = after_expression
ext_of expression = after_expression
ext_of disjunction = after_disjunction
ext_of conjunction = after_conjunction
ext_of equality = after_equality
ext_of comparison = after_comparison
ext_of sum = after_sum
ext_of product = after_product
ext_of prefix = after_postfix
ext_of postfix = after_postfix
ext_of primary = after_primary
ext_of generator = []
ext_of bound = after_sum
ext_of index = []
ext_of operation = []

-- how many levels its shortest phrase needs, at most
abbrev pub rank_of : Nonterminal → ℕ
rank_of program = 0
rank_of function = 12
rank_of param = 1
rank_of type' = 0
rank_of statement = 11
rank_of if_statement = 10
rank_of else_branch = 1
rank_of block = 0
rank_of assign = 10
rank_of expression = 9
rank_of disjunction = 8
rank_of conjunction = 7
rank_of equality = 6
rank_of comparison = 5
rank_of sum = 4
rank_of product = 3
rank_of prefix = 2
rank_of postfix = 1
rank_of primary = 0
rank_of generator = 11
rank_of bound = 0
rank_of index = 0
rank_of operation = 10
