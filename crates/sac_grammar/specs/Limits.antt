-- When a phrase is too high, at a place with so many nodes around it.
use Rattle.std.specs.Prelude.{ℕ, ◌+◌, ◌<◌, List, [], ◌∷◌, if◌then◌else◌, codes}
use Rattle.sac_ast.specs.Texts.{Lexeme}
use Rattle.sac_ast.specs.Shape.{Terminal, text}
use Rattle.sac_ast.specs.Grammar.{Nonterminal, Tree, rule, program, function, param, type', statement, if_statement, else_branch, block, assign}
use Rattle.sac_ast.specs.Grammar.{expression, disjunction, conjunction, equality, comparison, sum, product, prefix, postfix, primary, generator}
use Rattle.sac_ast.specs.Grammar.{bound, index, operation}
use Rattle.sac_ast.specs.View.{block_of}
use Rattle.sac_ast.specs.Heights.{height, stmt_height, block_height, gen_height, bound_height, operation_height, function_height}
use Rattle.sac_grammar.specs.Run.{starts}
use Rattle.sac_grammar.specs.High.{AnyOf, ends_so}

-- with the nodes around it, above what a function may have in it
abbrev pub Over : ℕ → ℕ → Type 0
Over depth n = 99 < depth + n

abbrev pub High : ℕ → (k : Nonterminal) → Tree k → Type 0
High d program p = AnyOf (λ f. 100 < function_height f) p.functions
High d function f = 100 < function_height f
High d param p = ⊥
High d type' t = ⊥
High d statement ss = Over d (block_height (block_of ss))
High d if_statement s = Over d (stmt_height s)
High d else_branch ss = Over d (block_height (block_of ss))
High d block ss = Over d (block_height (block_of ss))
High d assign s = Over d (stmt_height s)
High d expression e = Over d (height e)
High d disjunction e = Over d (height e)
High d conjunction e = Over d (height e)
High d equality e = Over d (height e)
High d comparison e = Over d (height e)
High d sum e = Over d (height e)
High d product e = Over d (height e)
High d prefix e = Over d (height e)
High d postfix e = Over d (height e)
High d primary e = Over d (height e)
High d generator g = Over d (gen_height g)
High d bound b = Over d (bound_height b)
High d index i = ⊥
High d operation o = Over d (operation_height o)

-- how many nodes stand around a part of a phrase, where so many stand around the phrase
abbrev pub depth_in : ℕ → Nonterminal → Nonterminal → ℕ
depth_in d function j = 0
depth_in d expression disjunction = d
depth_in d expression j = d + 1
depth_in d prefix postfix = d
depth_in d prefix j = d + 1
depth_in d if_statement expression = d
depth_in d if_statement j = d + 1
depth_in d k j = d

-- when a part of a phrase is too high
abbrev pub Within : ℕ → Nonterminal → (j : Nonterminal) → Tree j → Type 0
Within d k j = High (depth_in d k j) j

-- a program and a function end behind every part of them
abbrev pub gap_of : Nonterminal → ℕ
gap_of k = if ends_so (rule k) then 1 else 0

-- the words of primary expressions that have an expression or an operation in them
abbrev pub with_words : List Terminal
with_words = text (codes "with") ∷ []

abbrev pub pair_words : List Terminal
pair_words = text (codes "dim") ∷ text (codes "shape") ∷ text (codes "reshape") ∷ text (codes "min") ∷ text (codes "max") ∷ []

-- how high the parts of a primary expression are at least, by its first token
abbrev pub least_parts : List Lexeme → ℕ
least_parts ts = if starts with_words ts then 2 else (if starts pair_words ts then 1 else 0)
