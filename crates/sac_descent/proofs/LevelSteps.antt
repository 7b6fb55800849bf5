-- Steps over a level of binary operators.
use Rattle.std.proofs.Common.{ℕ, zero, suc, ◌≡◌, ◌<◌, ◌≤◌, ◌+◌, max, true, List, ◌∷◌, Some, None, Result, Ok, Err, refl, sym, ap, ◌∙◌, subst, arith, Bor}
use Rattle.std.specs.Global.{Box}
use Rattle.sac_lex.specs.declared.token.Token.{Token}
use Rattle.sac_base.specs.declared.op.Op.{Op}
use Rattle.sac_base.specs.declared.site.Site.{Site}
use Rattle.sac_ast.specs.Texts.{Lexeme}
use Rattle.sac_ast.specs.Shape.{ref, seq}
use Rattle.sac_ast.specs.Grammar.{Tree, V, rule, action, one_of, chain, disjunction, conjunction, equality, comparison, sum, product, prefix}
use Rattle.sac_ast.specs.Heights.{height}
use Rattle.sac_ast.specs.Tree as tree
use Rattle.sac_ast.specs.Tree.{Expr}
use Rattle.sac_ast.specs.declared.Expression.{Expression}
use Rattle.sac_grammar.specs.Run.{Runs, RunsIn}
use Rattle.sac_grammar.specs.Tables.{first_of}
use Rattle.sac_grammar.specs.Limits.{High}
use Rattle.sac_grammar.specs.Parsing.{Found}
use Rattle.sac_grammar.proofs.Levels.{derives_rule}
use Rattle.sac_grammar.proofs.Parsing.{read_ref, found, stops, stop_ref, stop_left}
use Rattle.sac_phrases.specs.declared.halt.Halt.{Halt}
use Rattle.sac_phrases.specs.declared.halt.Halt.TheVariants.{High as TooHigh, Memory}
use Rattle.sac_phrases.specs.declared.level.Level.{Level}
use Rattle.sac_phrases.specs.declared.level.Level.TheVariants.{Disjunction, Conjunction, Equality, Comparison, Sum, Product}
use Rattle.sac_phrases.specs.declared.place.Place.{Place}
use Rattle.sac_phrases.specs.declared.place.Measured.{Measured}
use Rattle.sac_phrases.specs.Heights.{IsAbove}
use Rattle.sac_phrases.specs.Contract.{lexemes_of, IsLowAt, IsKept, operator_of, unboxed}
use Rattle.sac_phrases.specs.Levels.{first_operator, more_operators, IsLevelAt, IsOperandAt}
use Rattle.sac_phrases.proofs.Steps.{operator_found, operator_none, kept_phrase, high_halted, memory_halted}
use Rattle.sac_descent.proofs.Grown.{tall_more}
use Rattle.sac_descent.proofs.Chains.{Chain, chain_begin, chain_more, chain_done, chain_over, starts_part, pairs_same}

-- what the loop over a level knows of the trees
abbrev pub LevelSoFar : Level → List Lexeme → Expr → List Lexeme → Type 0
LevelSoFar Disjunction = Chain (first_operator Disjunction) (more_operators Disjunction) (ref conjunction) (λ (e : Expr). e)
LevelSoFar Conjunction = Chain (first_operator Conjunction) (more_operators Conjunction) (ref equality) (λ (e : Expr). e)
LevelSoFar Equality = Chain (first_operator Equality) (more_operators Equality) (ref comparison) (λ (e : Expr). e)
LevelSoFar Comparison = Chain (first_operator Comparison) (more_operators Comparison) (ref sum) (λ (e : Expr). e)
LevelSoFar Sum = Chain (first_operator Sum) (more_operators Sum) (ref product) (λ (e : Expr). e)
LevelSoFar Product = Chain (first_operator Product) (more_operators Product) (ref prefix) (λ (e : Expr). e)

-- the next token is an operator of the level
abbrev pub IsNext : Level → List Lexeme → Op → Site → Bor (List Token) → Type 0
IsNext level rest op site behind = (operator_of (first_operator level ∷ more_operators level) rest ≡ Some (op, site)) × ((t : Lexeme) × (rest ≡ t ∷ lexemes_of behind.now))

pub level_begin : (level : Level) (place : Place) (ts : List Lexeme) (x : Measured (Box Expression)) (rest : Bor (List Token)) → IsOperandAt level place ts (Ok (x, rest)) → LevelSoFar level ts (unboxed x.tree) (lexemes_of rest.now)
level_begin Disjunction place ts x rest f = chain_begin (first_operator Disjunction) (more_operators Disjunction) (ref conjunction) (λ (e : Expr). e) (read_ref f.0)
level_begin Conjunction place ts x rest f = chain_begin (first_operator Conjunction) (more_operators Conjunction) (ref equality) (λ (e : Expr). e) (read_ref f.0)
level_begin Equality place ts x rest f = chain_begin (first_operator Equality) (more_operators Equality) (ref comparison) (λ (e : Expr). e) (read_ref f.0)
level_begin Comparison place ts x rest f = chain_begin (first_operator Comparison) (more_operators Comparison) (ref sum) (λ (e : Expr). e) (read_ref f.0)
level_begin Sum place ts x rest f = chain_begin (first_operator Sum) (more_operators Sum) (ref product) (λ (e : Expr). e) (read_ref f.0)
level_begin Product place ts x rest f = chain_begin (first_operator Product) (more_operators Product) (ref prefix) (λ (e : Expr). e) (read_ref f.0)

pub level_low : (level : Level) (place : Place) (ts : List Lexeme) (x : Measured (Box Expression)) (rest : Bor (List Token)) → IsOperandAt level place ts (Ok (x, rest)) → IsLowAt place x.height (height (unboxed x.tree))
level_low Disjunction place ts x rest f = f.1
level_low Conjunction place ts x rest f = f.1
level_low Equality place ts x rest f = f.1
level_low Comparison place ts x rest f = f.1
level_low Sum place ts x rest f = f.1
level_low Product place ts x rest f = f.1

pub level_fail : (level : Level) (place : Place) (ts : List Lexeme) (e : Halt) → IsOperandAt level place ts (Err e) → IsLevelAt level place ts (Err e)
level_fail Disjunction place ts e h = stops (stop_left (stop_ref h))
level_fail Conjunction place ts e h = stops (stop_left (stop_ref h))
level_fail Equality place ts e h = stops (stop_left (stop_ref h))
level_fail Comparison place ts e h = stops (stop_left (stop_ref h))
level_fail Sum place ts e h = stops (stop_left (stop_ref h))
level_fail Product place ts e h = stops (stop_left (stop_ref h))

pub level_memory : (level : Level) (place : Place) (ts : List Lexeme) (e : Halt) → e ≡ Memory → IsLevelAt level place ts (Err e)
level_memory Disjunction place ts e m = memory_halted e m
level_memory Conjunction place ts e m = memory_halted e m
level_memory Equality place ts e m = memory_halted e m
level_memory Comparison place ts e m = memory_halted e m
level_memory Sum place ts e m = memory_halted e m
level_memory Product place ts e m = memory_halted e m

pub level_more : (level : Level) (place : Place) (ts : List Lexeme) (left : Expr) (rest : List Lexeme) (op : Op) (site : Site) (behind : Bor (List Token)) (x : Measured (Box Expression)) (after : Bor (List Token)) → LevelSoFar level ts left rest → IsNext level rest op site behind → IsOperandAt level place (lexemes_of behind.now) (Ok (x, after)) → LevelSoFar level ts (tree.binary op left (unboxed x.tree) site) (lexemes_of after.now)
level_more Disjunction place ts left rest op site behind x after c n f = chain_more (first_operator Disjunction) (more_operators Disjunction) (ref conjunction) (λ (e : Expr). e) c (operator_found (first_operator Disjunction) (more_operators Disjunction) n.0 n.1.1) (read_ref f.0)
level_more Conjunction place ts left rest op site behind x after c n f = chain_more (first_operator Conjunction) (more_operators Conjunction) (ref equality) (λ (e : Expr). e) c (operator_found (first_operator Conjunction) (more_operators Conjunction) n.0 n.1.1) (read_ref f.0)
level_more Equality place ts left rest op site behind x after c n f = chain_more (first_operator Equality) (more_operators Equality) (ref comparison) (λ (e : Expr). e) c (operator_found (first_operator Equality) (more_operators Equality) n.0 n.1.1) (read_ref f.0)
level_more Comparison place ts left rest op site behind x after c n f = chain_more (first_operator Comparison) (more_operators Comparison) (ref sum) (λ (e : Expr). e) c (operator_found (first_operator Comparison) (more_operators Comparison) n.0 n.1.1) (read_ref f.0)
level_more Sum place ts left rest op site behind x after c n f = chain_more (first_operator Sum) (more_operators Sum) (ref product) (λ (e : Expr). e) c (operator_found (first_operator Sum) (more_operators Sum) n.0 n.1.1) (read_ref f.0)
level_more Product place ts left rest op site behind x after c n f = chain_more (first_operator Product) (more_operators Product) (ref prefix) (λ (e : Expr). e) c (operator_found (first_operator Product) (more_operators Product) n.0 n.1.1) (read_ref f.0)

pub level_end : (level : Level) (place : Place) (ts : List Lexeme) (node : Measured (Box Expression)) (rest : List Token) (result : Result (Measured (Box Expression) × Bor (List Token)) Halt) → LevelSoFar level ts (unboxed node.tree) (lexemes_of rest) → operator_of (first_operator level ∷ more_operators level) (lexemes_of rest) ≡ None → (place.checked ≡ true → node.height ≡ height (unboxed node.tree)) → IsKept place node rest result → IsLevelAt level place ts result
level_end Disjunction place ts node rest result c n tall kept = kept_phrase place disjunction unboxed height ts node rest (unboxed node.tree) result refl kept (λ e h. h) tall refl (subst (λ (e : Expr). Found disjunction ts e (lexemes_of rest)) (sym (c.same ∙ ap (chain (first_operator Disjunction) (more_operators Disjunction) c.head) (pairs_same c.tail))) (found (chain_done (first_operator Disjunction) (more_operators Disjunction) (ref conjunction) (λ (e : Expr). e) c (operator_none (first_operator Disjunction) (more_operators Disjunction) (lexemes_of rest) n))))
level_end Conjunction place ts node rest result c n tall kept = kept_phrase place conjunction unboxed height ts node rest (unboxed node.tree) result refl kept (λ e h. h) tall refl (subst (λ (e : Expr). Found conjunction ts e (lexemes_of rest)) (sym (c.same ∙ ap (chain (first_operator Conjunction) (more_operators Conjunction) c.head) (pairs_same c.tail))) (found (chain_done (first_operator Conjunction) (more_operators Conjunction) (ref equality) (λ (e : Expr). e) c (operator_none (first_operator Conjunction) (more_operators Conjunction) (lexemes_of rest) n))))
level_end Equality place ts node rest result c n tall kept = kept_phrase place equality unboxed height ts node rest (unboxed node.tree) result refl kept (λ e h. h) tall refl (subst (λ (e : Expr). Found equality ts e (lexemes_of rest)) (sym (c.same ∙ ap (chain (first_operator Equality) (more_operators Equality) c.head) (pairs_same c.tail))) (found (chain_done (first_operator Equality) (more_operators Equality) (ref comparison) (λ (e : Expr). e) c (operator_none (first_operator Equality) (more_operators Equality) (lexemes_of rest) n))))
level_end Comparison place ts node rest result c n tall kept = kept_phrase place comparison unboxed height ts node rest (unboxed node.tree) result refl kept (λ e h. h) tall refl (subst (λ (e : Expr). Found comparison ts e (lexemes_of rest)) (sym (c.same ∙ ap (chain (first_operator Comparison) (more_operators Comparison) c.head) (pairs_same c.tail))) (found (chain_done (first_operator Comparison) (more_operators Comparison) (ref sum) (λ (e : Expr). e) c (operator_none (first_operator Comparison) (more_operators Comparison) (lexemes_of rest) n))))
level_end Sum place ts node rest result c n tall kept = kept_phrase place sum unboxed height ts node rest (unboxed node.tree) result refl kept (λ e h. h) tall refl (subst (λ (e : Expr). Found sum ts e (lexemes_of rest)) (sym (c.same ∙ ap (chain (first_operator Sum) (more_operators Sum) c.head) (pairs_same c.tail))) (found (chain_done (first_operator Sum) (more_operators Sum) (ref product) (λ (e : Expr). e) c (operator_none (first_operator Sum) (more_operators Sum) (lexemes_of rest) n))))
level_end Product place ts node rest result c n tall kept = kept_phrase place product unboxed height ts node rest (unboxed node.tree) result refl kept (λ e h. h) tall refl (subst (λ (e : Expr). Found product ts e (lexemes_of rest)) (sym (c.same ∙ ap (chain (first_operator Product) (more_operators Product) c.head) (pairs_same c.tail))) (found (chain_done (first_operator Product) (more_operators Product) (ref prefix) (λ (e : Expr). e) c (operator_none (first_operator Product) (more_operators Product) (lexemes_of rest) n))))

binary_tall : (d l r node k n : ℕ) → d + (l + 1) ≤ 99 → l ≡ k → (r ≡ n) × (d + n ≤ 99) → IsAbove node (max l r) → node ≡ 1 + max k n
binary_tall d l r node k n room h g above = let e : node ≡ 1 + max l r = above (omega arith) in omega arith

pub level_tall : (d l r node : ℕ) (a b : Expr) (op : Op) (site : Site) (e : Expr) → d + (l + 1) ≤ 99 → l ≡ height a → (r ≡ height b) × (d + height b ≤ 99) → IsAbove node (max l r) → e ≡ tree.binary op a b site → node ≡ height e
level_tall d l r node a b op site e room h g above whole = binary_tall d l r node (height a) (height b) room h g above ∙ ap height (sym whole)

over_by : (d n m : ℕ) → n ≡ m → 99 < d + (n + 1) → 99 < d + (m + 1)
over_by d n m e h = omega arith

opened_disjunction : (n : ℕ) (q : List Lexeme) (w : Tree disjunction) (z : List Lexeme) → RunsIn Tree first_of rule action n disjunction q w z → (m : ℕ) × (x : V (rule disjunction)) × (w ≡ chain (first_operator Disjunction) (more_operators Disjunction) x.0 x.1) × Runs Tree first_of (RunsIn Tree first_of rule action m) (rule disjunction) q x z
opened_disjunction zero q w z d = absurd d
opened_disjunction (suc n) q w z (x, is, r) = (n, x, is, r)

opened_conjunction : (n : ℕ) (q : List Lexeme) (w : Tree conjunction) (z : List Lexeme) → RunsIn Tree first_of rule action n conjunction q w z → (m : ℕ) × (x : V (rule conjunction)) × (w ≡ chain (first_operator Conjunction) (more_operators Conjunction) x.0 x.1) × Runs Tree first_of (RunsIn Tree first_of rule action m) (rule conjunction) q x z
opened_conjunction zero q w z d = absurd d
opened_conjunction (suc n) q w z (x, is, r) = (n, x, is, r)

opened_equality : (n : ℕ) (q : List Lexeme) (w : Tree equality) (z : List Lexeme) → RunsIn Tree first_of rule action n equality q w z → (m : ℕ) × (x : V (rule equality)) × (w ≡ chain (first_operator Equality) (more_operators Equality) x.0 x.1) × Runs Tree first_of (RunsIn Tree first_of rule action m) (rule equality) q x z
opened_equality zero q w z d = absurd d
opened_equality (suc n) q w z (x, is, r) = (n, x, is, r)

opened_comparison : (n : ℕ) (q : List Lexeme) (w : Tree comparison) (z : List Lexeme) → RunsIn Tree first_of rule action n comparison q w z → (m : ℕ) × (x : V (rule comparison)) × (w ≡ chain (first_operator Comparison) (more_operators Comparison) x.0 x.1) × Runs Tree first_of (RunsIn Tree first_of rule action m) (rule comparison) q x z
opened_comparison zero q w z d = absurd d
opened_comparison (suc n) q w z (x, is, r) = (n, x, is, r)

opened_sum : (n : ℕ) (q : List Lexeme) (w : Tree sum) (z : List Lexeme) → RunsIn Tree first_of rule action n sum q w z → (m : ℕ) × (x : V (rule sum)) × (w ≡ chain (first_operator Sum) (more_operators Sum) x.0 x.1) × Runs Tree first_of (RunsIn Tree first_of rule action m) (rule sum) q x z
opened_sum zero q w z d = absurd d
opened_sum (suc n) q w z (x, is, r) = (n, x, is, r)

opened_product : (n : ℕ) (q : List Lexeme) (w : Tree product) (z : List Lexeme) → RunsIn Tree first_of rule action n product q w z → (m : ℕ) × (x : V (rule product)) × (w ≡ chain (first_operator Product) (more_operators Product) x.0 x.1) × Runs Tree first_of (RunsIn Tree first_of rule action m) (rule product) q x z
opened_product zero q w z d = absurd d
opened_product (suc n) q w z (x, is, r) = (n, x, is, r)

-- before an operator, with which each phrase is too high
pub level_high : (level : Level) (place : Place) (ts : List Lexeme) (left : Measured (Box Expression)) (rest : Bor (List Token)) (op : Op) (site : Site) (behind : Bor (List Token)) → LevelSoFar level ts (unboxed left.tree) (lexemes_of rest.now) → IsNext level (lexemes_of rest.now) op site behind → (place.checked ≡ true → left.height ≡ height (unboxed left.tree)) → (place.checked ≡ true) × (99 < place.depth + (left.height + 1)) → IsLevelAt level place ts (Err (TooHigh rest))
level_high Disjunction place ts left rest op site behind c n tall h =
    high_halted rest
    (tall_more disjunction (ref conjunction) (seq (one_of (first_operator Disjunction) (more_operators Disjunction)) (ref conjunction)) (λ (e : Expr) (ws : List (V (seq (one_of (first_operator Disjunction) (more_operators Disjunction)) (ref conjunction)))). chain (first_operator Disjunction) (more_operators Disjunction) e ws) opened_disjunction (λ u x d. derives_rule Tree first_of rule action disjunction u x d) (High place.depth disjunction) c.begins c.goes_on
    (starts_part (first_operator Disjunction) (more_operators Disjunction) (ref conjunction) (λ (e : Expr). e) (operator_found (first_operator Disjunction) (more_operators Disjunction) n.0 n.1.1))
    (chain_over place.depth (first_operator Disjunction) (more_operators Disjunction) c.head (unboxed left.tree) c.tail (c.same ∙ ap (chain (first_operator Disjunction) (more_operators Disjunction) c.head) (pairs_same c.tail)) (over_by place.depth left.height (height (unboxed left.tree)) (tall h.0) h.1)))
    h.0
level_high Conjunction place ts left rest op site behind c n tall h =
    high_halted rest
    (tall_more conjunction (ref equality) (seq (one_of (first_operator Conjunction) (more_operators Conjunction)) (ref equality)) (λ (e : Expr) (ws : List (V (seq (one_of (first_operator Conjunction) (more_operators Conjunction)) (ref equality)))). chain (first_operator Conjunction) (more_operators Conjunction) e ws) opened_conjunction (λ u x d. derives_rule Tree first_of rule action conjunction u x d) (High place.depth conjunction) c.begins c.goes_on
    (starts_part (first_operator Conjunction) (more_operators Conjunction) (ref equality) (λ (e : Expr). e) (operator_found (first_operator Conjunction) (more_operators Conjunction) n.0 n.1.1))
    (chain_over place.depth (first_operator Conjunction) (more_operators Conjunction) c.head (unboxed left.tree) c.tail (c.same ∙ ap (chain (first_operator Conjunction) (more_operators Conjunction) c.head) (pairs_same c.tail)) (over_by place.depth left.height (height (unboxed left.tree)) (tall h.0) h.1)))
    h.0
level_high Equality place ts left rest op site behind c n tall h =
    high_halted rest
    (tall_more equality (ref comparison) (seq (one_of (first_operator Equality) (more_operators Equality)) (ref comparison)) (λ (e : Expr) (ws : List (V (seq (one_of (first_operator Equality) (more_operators Equality)) (ref comparison)))). chain (first_operator Equality) (more_operators Equality) e ws) opened_equality (λ u x d. derives_rule Tree first_of rule action equality u x d) (High place.depth equality) c.begins c.goes_on
    (starts_part (first_operator Equality) (more_operators Equality) (ref comparison) (λ (e : Expr). e) (operator_found (first_operator Equality) (more_operators Equality) n.0 n.1.1))
    (chain_over place.depth (first_operator Equality) (more_operators Equality) c.head (unboxed left.tree) c.tail (c.same ∙ ap (chain (first_operator Equality) (more_operators Equality) c.head) (pairs_same c.tail)) (over_by place.depth left.height (height (unboxed left.tree)) (tall h.0) h.1)))
    h.0
level_high Comparison place ts left rest op site behind c n tall h =
    high_halted rest
    (tall_more comparison (ref sum) (seq (one_of (first_operator Comparison) (more_operators Comparison)) (ref sum)) (λ (e : Expr) (ws : List (V (seq (one_of (first_operator Comparison) (more_operators Comparison)) (ref sum)))). chain (first_operator Comparison) (more_operators Comparison) e ws) opened_comparison (λ u x d. derives_rule Tree first_of rule action comparison u x d) (High place.depth comparison) c.begins c.goes_on
    (starts_part (first_operator Comparison) (more_operators Comparison) (ref sum) (λ (e : Expr). e) (operator_found (first_operator Comparison) (more_operators Comparison) n.0 n.1.1))
    (chain_over place.depth (first_operator Comparison) (more_operators Comparison) c.head (unboxed left.tree) c.tail (c.same ∙ ap (chain (first_operator Comparison) (more_operators Comparison) c.head) (pairs_same c.tail)) (over_by place.depth left.height (height (unboxed left.tree)) (tall h.0) h.1)))
    h.0
level_high Sum place ts left rest op site behind c n tall h =
    high_halted rest
    (tall_more sum (ref product) (seq (one_of (first_operator Sum) (more_operators Sum)) (ref product)) (λ (e : Expr) (ws : List (V (seq (one_of (first_operator Sum) (more_operators Sum)) (ref product)))). chain (first_operator Sum) (more_operators Sum) e ws) opened_sum (λ u x d. derives_rule Tree first_of rule action sum u x d) (High place.depth sum) c.begins c.goes_on
    (starts_part (first_operator Sum) (more_operators Sum) (ref product) (λ (e : Expr). e) (operator_found (first_operator Sum) (more_operators Sum) n.0 n.1.1))
    (chain_over place.depth (first_operator Sum) (more_operators Sum) c.head (unboxed left.tree) c.tail (c.same ∙ ap (chain (first_operator Sum) (more_operators Sum) c.head) (pairs_same c.tail)) (over_by place.depth left.height (height (unboxed left.tree)) (tall h.0) h.1)))
    h.0
level_high Product place ts left rest op site behind c n tall h =
    high_halted rest
    (tall_more product (ref prefix) (seq (one_of (first_operator Product) (more_operators Product)) (ref prefix)) (λ (e : Expr) (ws : List (V (seq (one_of (first_operator Product) (more_operators Product)) (ref prefix)))). chain (first_operator Product) (more_operators Product) e ws) opened_product (λ u x d. derives_rule Tree first_of rule action product u x d) (High place.depth product) c.begins c.goes_on
    (starts_part (first_operator Product) (more_operators Product) (ref prefix) (λ (e : Expr). e) (operator_found (first_operator Product) (more_operators Product) n.0 n.1.1))
    (chain_over place.depth (first_operator Product) (more_operators Product) c.head (unboxed left.tree) c.tail (c.same ∙ ap (chain (first_operator Product) (more_operators Product) c.head) (pairs_same c.tail)) (over_by place.depth left.height (height (unboxed left.tree)) (tall h.0) h.1)))
    h.0
