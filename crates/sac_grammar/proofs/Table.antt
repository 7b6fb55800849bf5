-- The grammar needs one token of lookahead.
use Rattle.std.proofs.Common.{◌≡◌, true, false, refl}
use Rattle.sac_grammar.specs.Run.{is_nullable, first, extends, is_predictive, covers, is_below, IsPredictive}
use Rattle.sac_ast.specs.Grammar.{Nonterminal, program, function, param, type', statement, if_statement, else_branch, block, assign, expression, disjunction, conjunction, equality, comparison, sum, product, prefix, postfix, primary, generator, bound, index, operation, rule}
use Rattle.sac_grammar.specs.Tables.{first_of, ext_of, rank_of}

choices : (k : Nonterminal) → is_predictive first_of ext_of (rule k) ≡ true
choices program = refl
choices function = refl
choices param = refl
choices type' = refl
choices statement = refl
choices if_statement = refl
choices else_branch = refl
choices block = refl
choices assign = refl
choices expression = refl
choices disjunction = refl
choices conjunction = refl
choices equality = refl
choices comparison = refl
choices sum = refl
choices product = refl
choices prefix = refl
choices postfix = refl
choices primary = refl
choices generator = refl
choices bound = refl
choices index = refl
choices operation = refl

some : (k : Nonterminal) → is_nullable (rule k) ≡ false
some program = refl
some function = refl
some param = refl
some type' = refl
some statement = refl
some if_statement = refl
some else_branch = refl
some block = refl
some assign = refl
some expression = refl
some disjunction = refl
some conjunction = refl
some equality = refl
some comparison = refl
some sum = refl
some product = refl
some prefix = refl
some postfix = refl
some primary = refl
some generator = refl
some bound = refl
some index = refl
some operation = refl

firsts : (k : Nonterminal) → covers (first first_of (rule k)) (first_of k) ≡ true
firsts program = refl
firsts function = refl
firsts param = refl
firsts type' = refl
firsts statement = refl
firsts if_statement = refl
firsts else_branch = refl
firsts block = refl
firsts assign = refl
firsts expression = refl
firsts disjunction = refl
firsts conjunction = refl
firsts equality = refl
firsts comparison = refl
firsts sum = refl
firsts product = refl
firsts prefix = refl
firsts postfix = refl
firsts primary = refl
firsts generator = refl
firsts bound = refl
firsts index = refl
firsts operation = refl

extensions : (k : Nonterminal) → covers (extends first_of ext_of (rule k)) (ext_of k) ≡ true
extensions program = refl
extensions function = refl
extensions param = refl
extensions type' = refl
extensions statement = refl
extensions if_statement = refl
extensions else_branch = refl
extensions block = refl
extensions assign = refl
extensions expression = refl
extensions disjunction = refl
extensions conjunction = refl
extensions equality = refl
extensions comparison = refl
extensions sum = refl
extensions product = refl
extensions prefix = refl
extensions postfix = refl
extensions primary = refl
extensions generator = refl
extensions bound = refl
extensions index = refl
extensions operation = refl

ranks : (k : Nonterminal) → is_below rank_of (rank_of k) (rule k) ≡ true
ranks program = refl
ranks function = refl
ranks param = refl
ranks type' = refl
ranks statement = refl
ranks if_statement = refl
ranks else_branch = refl
ranks block = refl
ranks assign = refl
ranks expression = refl
ranks disjunction = refl
ranks conjunction = refl
ranks equality = refl
ranks comparison = refl
ranks sum = refl
ranks product = refl
ranks prefix = refl
ranks postfix = refl
ranks primary = refl
ranks generator = refl
ranks bound = refl
ranks index = refl
ranks operation = refl

pub table : IsPredictive first_of ext_of rank_of rule
table = record { choices = choices; some = some; firsts = firsts; extensions = extensions; ranks = ranks }
