use Rattle.std.proofs.Common.{◌≡◌, ◌+◌, ◌*◌, ◌<◌, ◌≤◌, length, true}
use Rattle.sac_ast.specs.Heights.{height}
use Rattle.sac_phrases.specs.Contract.{lexemes_of, unboxed}
use Rattle.sac_descent.proofs.LevelSteps.{LevelSoFar}
use Rattle.sac_descent.proofs.ListSteps.{ListRead, PostRead, GensRead, StmtsRead}
use Rattle.sac_phrases.specs.Heights.{rank}
use Rattle.sac_descent.proofs.descent.+phrase.Given as goal

abbrev pub decreases-alternative : goal.decreases-alternative
decreases-alternative l = 64 * length l.tokens.now + 10

abbrev pub decreases-any_statement : goal.decreases-any_statement
decreases-any_statement l = 64 * length l.tokens.now + 20

abbrev pub decreases-arguments : goal.decreases-arguments
decreases-arguments l = 64 * length l.tokens.now + 42

abbrev pub decreases-array : goal.decreases-array
decreases-array l = 64 * length l.tokens.now + 6

abbrev pub decreases-assign : goal.decreases-assign
decreases-assign l = 64 * length l.tokens.now + 16

abbrev pub decreases-assigned : goal.decreases-assigned
decreases-assigned l = 64 * length l.tokens.now + 12

abbrev pub decreases-assignment : goal.decreases-assignment
decreases-assignment l = 64 * length l.tokens.now + 18

abbrev pub decreases-block : goal.decreases-block
decreases-block l = 64 * length l.tokens.now + 6

abbrev pub decreases-bound : goal.decreases-bound
decreases-bound l = 64 * length l.tokens.now + 34

abbrev pub decreases-builtin : goal.decreases-builtin
decreases-builtin l = 64 * length l.tokens.now + 8

abbrev pub decreases-compound : goal.decreases-compound
decreases-compound l = 64 * length l.tokens.now + 6

abbrev pub decreases-conditional : goal.decreases-conditional
decreases-conditional l = 64 * length l.tokens.now + 8

abbrev pub decreases-do_loop : goal.decreases-do_loop
decreases-do_loop l = 64 * length l.tokens.now + 6

abbrev pub decreases-else_branch : goal.decreases-else_branch
decreases-else_branch l = 64 * length l.tokens.now + 10

abbrev pub decreases-expression : goal.decreases-expression
decreases-expression l = 64 * length l.tokens.now + 36

abbrev pub decreases-extreme : goal.decreases-extreme
decreases-extreme l = 64 * length l.tokens.now + 8

abbrev pub decreases-fold : goal.decreases-fold
decreases-fold l = 64 * length l.tokens.now + 6

abbrev pub decreases-for_loop : goal.decreases-for_loop
decreases-for_loop l = 64 * length l.tokens.now + 6

abbrev pub decreases-genarray : goal.decreases-genarray
decreases-genarray l = 64 * length l.tokens.now + 6

abbrev pub decreases-generator : goal.decreases-generator
decreases-generator l = 64 * length l.tokens.now + 6

abbrev pub decreases-generators : goal.decreases-generators
decreases-generators l = 64 * length l.tokens.now + 8

abbrev pub decreases-if_statement : goal.decreases-if_statement
decreases-if_statement l = 64 * length l.tokens.now + 6

abbrev pub decreases-list : goal.decreases-list
decreases-list l = 64 * length l.tokens.now + 40

abbrev pub decreases-indices : goal.decreases-indices
decreases-indices l = 64 * length l.tokens.now + 40

abbrev pub decreases-maybe_block : goal.decreases-maybe_block
decreases-maybe_block l = 64 * length l.tokens.now + 8

abbrev pub decreases-maybe_default : goal.decreases-maybe_default
decreases-maybe_default l = 64 * length l.tokens.now + 6

abbrev pub decreases-maybe_else : goal.decreases-maybe_else
decreases-maybe_else l = 64 * length l.tokens.now + 12

abbrev pub decreases-maybe_sum : goal.decreases-maybe_sum
decreases-maybe_sum l = 64 * length l.tokens.now + 6

abbrev pub decreases-modarray : goal.decreases-modarray
decreases-modarray l = 64 * length l.tokens.now + 8

abbrev pub decreases-name_or_call : goal.decreases-name_or_call
decreases-name_or_call l = 64 * length l.tokens.now + 6

abbrev pub decreases-operation : goal.decreases-operation
decreases-operation l = 64 * length l.tokens.now + 12

abbrev pub decreases-pair : goal.decreases-pair
decreases-pair l = 64 * length l.tokens.now + 6

abbrev pub decreases-parens : goal.decreases-parens
decreases-parens l = 64 * length l.tokens.now + 6

abbrev pub decreases-postfix : goal.decreases-postfix
decreases-postfix l = 64 * length l.tokens.now + 14

abbrev pub decreases-prefix : goal.decreases-prefix
decreases-prefix l = 64 * length l.tokens.now + 16

abbrev pub decreases-primary : goal.decreases-primary
decreases-primary l = 64 * length l.tokens.now + 12

abbrev pub decreases-replacement : goal.decreases-replacement
decreases-replacement l = 64 * length l.tokens.now + 6

abbrev pub decreases-reshape : goal.decreases-reshape
decreases-reshape l = 64 * length l.tokens.now + 8

abbrev pub decreases-several : goal.decreases-several
decreases-several l = 64 * length l.tokens.now + 6

abbrev pub decreases-statement : goal.decreases-statement
decreases-statement l = 64 * length l.tokens.now + 22

abbrev pub decreases-statements : goal.decreases-statements
decreases-statements l = 64 * length l.tokens.now + 24

abbrev pub decreases-while_loop : goal.decreases-while_loop
decreases-while_loop l = 64 * length l.tokens.now + 6

abbrev pub decreases-with_loop : goal.decreases-with_loop
decreases-with_loop l = 64 * length l.tokens.now + 6

abbrev pub decreases-chain : goal.decreases-chain
decreases-chain l = 64 * length l.tokens.now + 2 * rank l.level + 5

abbrev pub decreases-operand : goal.decreases-operand
decreases-operand l = 64 * length l.tokens.now + 2 * rank l.level + 4

abbrev pub invariant-list-loop-comma : goal.invariant-list-loop-comma
invariant-list-loop-comma l = record { shorter : length l.rest < length l.tokens; so_far : ListRead l.place (lexemes_of l.tokens) l.found.items l.height (lexemes_of l.rest) }

abbrev pub decreases-list-loop-comma : goal.decreases-list-loop-comma
decreases-list-loop-comma l = length l.rest

abbrev pub invariant-indices-loop-comma : goal.invariant-indices-loop-comma
invariant-indices-loop-comma l = record { shorter : length l.rest < length l.tokens; so_far : ListRead l.place (lexemes_of l.tokens) l.found.items l.height (lexemes_of l.rest) }

abbrev pub decreases-indices-loop-comma : goal.decreases-indices-loop-comma
decreases-indices-loop-comma l = length l.rest

abbrev pub invariant-postfix-loop-open : goal.invariant-postfix-loop-open
invariant-postfix-loop-open l = record { shorter : length l.rest < length l.tokens; so_far : PostRead (lexemes_of l.tokens) (unboxed l.array.tree) (lexemes_of l.rest); tall : l.place.checked ≡ true → l.array.height ≡ height (unboxed l.array.tree) }

abbrev pub decreases-postfix-loop-open : goal.decreases-postfix-loop-open
decreases-postfix-loop-open l = length l.rest

abbrev pub invariant-chain-loop-op : goal.invariant-chain-loop-op
invariant-chain-loop-op l = record { shorter : length l.rest < length l.tokens; so_far : LevelSoFar l.level (lexemes_of l.tokens) (unboxed l.left.tree) (lexemes_of l.rest); tall : l.place.checked ≡ true → l.left.height ≡ height (unboxed l.left.tree) }

abbrev pub decreases-chain-loop-op : goal.decreases-chain-loop-op
decreases-chain-loop-op l = length l.rest

abbrev pub invariant-generators-loop-place : goal.invariant-generators-loop-place
invariant-generators-loop-place l = record { shorter : length l.rest ≤ length l.tokens; so_far : GensRead l.place (lexemes_of l.tokens) l.found.items l.height (lexemes_of l.rest) }

abbrev pub decreases-generators-loop-place : goal.decreases-generators-loop-place
decreases-generators-loop-place l = length l.rest

abbrev pub invariant-statements-loop-place : goal.invariant-statements-loop-place
invariant-statements-loop-place l = record { shorter : length l.rest ≤ length l.tokens; so_far : StmtsRead l.place (lexemes_of l.tokens) l.found.items l.height (lexemes_of l.rest) }

abbrev pub decreases-statements-loop-place : goal.decreases-statements-loop-place
decreases-statements-loop-place l = length l.rest
