-- Steps of statements with parts that stand one node deeper.
use Rattle.std.proofs.Common.{ℕ, zero, suc, ◌≡◌, ◌<◌, ◌+◌, true, List, [], ◌∷◌, inl, inr, Result, Ok, Err, refl, sym, ap, ◌∙◌, subst, codes, arith, Bor}
use Rattle.std.specs.Global.{Vec, Box}
use Rattle.sac_lex.specs.declared.token.Token.{Token}
use Rattle.sac_ast.specs.Texts.{Lexeme}
use Rattle.sac_ast.specs.Shape.{text, ref, seq}
use Rattle.sac_ast.specs.Grammar.{Nonterminal, Tree, Rule, V, rule, action, sign, parens, expression, statement, if_statement, block, assign}
use Rattle.sac_ast.specs.Heights.{height, stmt_height, block_height}
use Rattle.sac_ast.specs.Tree as tree
use Rattle.sac_ast.specs.Tree.{Stmt}
use Rattle.sac_ast.specs.View.{block_of}
use Rattle.sac_ast.specs.declared.Expression.{Expression}
use Rattle.sac_ast.specs.declared.Statement.{Statement}
use Rattle.sac_grammar.specs.Run.{starts, first, RunsIn}
use Rattle.sac_grammar.specs.Tables.{first_of, ext_of, rank_of}
use Rattle.sac_grammar.specs.High.{HasHigh}
use Rattle.sac_grammar.specs.Limits.{Over, High}
use Rattle.sac_grammar.specs.Parsing.{Reading, Halted, Halts, HaltsSo, nth, inject, is_apart}
use Rattle.sac_grammar.proofs.High.{tall_before}
use Rattle.sac_grammar.proofs.Grows.{grows_statement}
use Rattle.sac_grammar.proofs.Parsing.{read_nth}
use Rattle.sac_grammar.proofs.Table.{table}
use Rattle.sac_grammar.proofs.TallParts.{tall_here, so_of, so_map, so_right, so_nth, so_phrase}
use Rattle.sac_grammar.proofs.Deeper.{Deeper, height_some}
use Rattle.sac_phrases.specs.declared.halt.Halt.{Halt}
use Rattle.sac_phrases.specs.declared.halt.Halt.TheVariants.{High as TooHigh}
use Rattle.sac_phrases.specs.declared.place.Place.{Place}
use Rattle.sac_phrases.specs.declared.place.Measured.{Measured}
use Rattle.sac_phrases.specs.Contract.{StopOf, lexemes_of, IsLow, IsPartAt, IsNodeAt}
use Rattle.sac_phrases.specs.Parts.{IsInParens, IsStatement, IsStatementOf}
use Rattle.sac_phrases.proofs.Steps.{At, NoneBefore, high_halted, token_read, part_last}
use Rattle.sac_descent.proofs.PhraseSteps.{IsInside}
use Rattle.sac_descent.specs.Around.{IsPartSo, ForOver}
use Rattle.sac_descent.proofs.ListSteps.{stmts_append}
use Rattle.sac_descent.proofs.DeepSteps.{so_left, so_last, low_weaker, operand_so}
use Rattle.sac_descent.proofs.IndexLists.{high_so}

abbrev HighAt : ℕ → (s : Rule) → V s → Type 0
HighAt e = HasHigh Tree first_of (λ (j : Nonterminal). High e j)

-- ---- the least heights of statements

stmt_some : (s : Stmt) → 1 < stmt_height s
stmt_some (tree.assign xs e) = let h = height_some e in omega arith
stmt_some (tree.replace x s i e) = let h = height_some e in omega arith
stmt_some (tree.if_else c a b s) = let h = height_some c in omega arith
stmt_some (tree.while_do c b s) = let h = height_some c in omega arith
stmt_some (tree.do_while b c s u) = let h = height_some c in omega arith

statement_some : (v : V (rule statement)) → 1 < block_height (block_of (action statement v))
statement_some (inl (a, t)) = let h = stmt_some a in omega arith
statement_some (inr (inl s)) = let h = stmt_some s in omega arith
statement_some (inr (inr (inl (w, ((l, (c, r)), b))))) = let h = height_some c in omega arith
statement_some (inr (inr (inr (inl (d, (b, (w, ((l, (c, r)), t)))))))) = let h = height_some c in omega arith
statement_some (inr (inr (inr (inr (f, ((l, ((a, (p, (c, (q, s)))), r)), b)))))) = let h = stmt_some a in omega arith

statement_over : (d n : ℕ) (q : List Lexeme) (v : List Stmt) (z : List Lexeme) → 99 < d + (1 + 1) → RunsIn Tree first_of rule action n statement q v z → 99 < d + block_height (block_of v)
statement_over d zero q v z h r = absurd r
statement_over d (suc n) q v z h (x, is, r) = let k = statement_some x in let g = ap (λ (ss : List Stmt). block_height (block_of ss)) is in omega arith

-- before a statement, for which there is no room
pub statement_high : (place : Place) (tokens : Bor (List Token)) → (place.checked ≡ true) × (99 < place.depth + (1 + 1)) → Halted (StopOf (TooHigh tokens)) place.checked place.depth statement (lexemes_of tokens.now)
statement_high place tokens h =
    high_halted tokens (tall_before Tree first_of ext_of rank_of rule action table statement (High place.depth statement) (lexemes_of tokens.now) (λ n q v z e r. statement_over place.depth n q v z h.1 r)) h.0

if_over : (d n : ℕ) (q : List Lexeme) (v : Stmt) (z : List Lexeme) → 99 < d + (1 + 1) → RunsIn Tree first_of rule action n if_statement q v z → 99 < d + stmt_height v
if_over d n q v z h r = let k = stmt_some v in omega arith

pub if_high : (place : Place) (tokens : Bor (List Token)) → (place.checked ≡ true) × (99 < place.depth + (1 + 1)) → Halted (StopOf (TooHigh tokens)) place.checked place.depth if_statement (lexemes_of tokens.now)
if_high place tokens h =
    high_halted tokens (tall_before Tree first_of ext_of rank_of rule action table if_statement (High place.depth if_statement) (lexemes_of tokens.now) (λ n q v z e r. if_over place.depth n q v z h.1 r)) h.0

-- ---- alternatives

module _ (d e : ℕ) (up : Deeper d e) where
  pub while_deeper : (v : V (nth 2 (rule statement))) → HighAt e (nth 2 (rule statement)) v → High d statement (action statement (inject 2 (rule statement) v))
  while_deeper (w, ((l, (c, r)), b)) (inl h) = absurd h
  while_deeper (w, ((l, (c, r)), b)) (inr (inl (inl h))) = absurd h
  while_deeper (w, ((l, (c, r)), b)) (inr (inl (inr (inl h)))) = let k = up (height c) h in omega arith
  while_deeper (w, ((l, (c, r)), b)) (inr (inl (inr (inr h)))) = absurd h
  while_deeper (w, ((l, (c, r)), b)) (inr (inr h)) = let k = up (block_height (block_of b)) h in omega arith

  pub do_deeper : (v : V (nth 3 (rule statement))) → HighAt e (nth 3 (rule statement)) v → High d statement (action statement (inject 3 (rule statement) v))
  do_deeper (o, (b, (w, ((l, (c, r)), t)))) (inl h) = absurd h
  do_deeper (o, (b, (w, ((l, (c, r)), t)))) (inr (inl h)) = let k = up (block_height (block_of b)) h in omega arith
  do_deeper (o, (b, (w, ((l, (c, r)), t)))) (inr (inr (inl h))) = absurd h
  do_deeper (o, (b, (w, ((l, (c, r)), t)))) (inr (inr (inr (inl (inl h))))) = absurd h
  do_deeper (o, (b, (w, ((l, (c, r)), t)))) (inr (inr (inr (inl (inr (inl h)))))) = let k = up (height c) h in omega arith
  do_deeper (o, (b, (w, ((l, (c, r)), t)))) (inr (inr (inr (inl (inr (inr h)))))) = absurd h
  do_deeper (o, (b, (w, ((l, (c, r)), t)))) (inr (inr (inr (inr h)))) = absurd h

  cond_deeper : (w : V (rule if_statement)) → HighAt e (parens (ref expression)) w.1.0 → High d if_statement (action if_statement w)
  cond_deeper (i, ((l, (c, r)), (b, x))) (inl h) = absurd h
  cond_deeper (i, ((l, (c, r)), (b, x))) (inr (inl h)) = let k = up (height c) h in omega arith
  cond_deeper (i, ((l, (c, r)), (b, x))) (inr (inr h)) = absurd h

pub statement_nth : (place inner : Place) (n : ℕ) (ts : List Lexeme) (result : Result (Measured (Vec Statement) × Bor (List Token)) Halt) → is_apart n (rule statement) ≡ true → starts (first first_of (nth n (rule statement))) ts ≡ true → inner.checked ≡ place.checked → ((v : V (nth n (rule statement))) → HighAt inner.depth (nth n (rule statement)) v → High place.depth statement (action statement (inject n (rule statement) v))) → IsPartAt inner (nth n (rule statement)) (IsStatement inner n) ts result → IsNodeAt place statement (IsStatementOf place) ts result
statement_nth place inner n ts (Ok x) apart so c f (v, r, m) = (inject n (rule statement) v, read_nth n (rule statement) apart so r, record { trees = m.trees; tall = λ k. m.tall (c ∙ k) })
statement_nth place inner n ts (Err e) apart so c f h =
    so_phrase refl (λ k w g. subst (λ (u : V (rule statement)). High place.depth statement (action statement u)) (sym g.1) (f g.0 g.2))
    (so_nth n (rule statement) (HighAt inner.depth (nth n (rule statement))) apart so (so_of (subst (λ b. Halts (StopOf e) b (λ _. inner.depth) (nth n (rule statement)) ts) c h)))

-- the last one
pub statement_last : (place : Place) (ts : List Lexeme) (result : Result (Measured (Vec Statement) × Bor (List Token)) Halt) → NoneBefore 4 (rule statement) ts → IsPartSo place (nth 4 (rule statement)) (IsStatement place 4) (ForOver place.depth) ts result → IsNodeAt place statement (IsStatementOf place) ts result
statement_last place ts (Ok x) none h = part_last place 4 (rule statement) (IsStatementOf place) ts (Ok x) none h
statement_last place ts (Err e) none h =
    so_phrase refl (λ k w g. subst (λ (u : V (rule statement)). High place.depth statement (action statement u)) (sym g.1) g.2)
    (so_last 4 (rule statement) (ForOver place.depth) ts none h)

-- ---- loops with a step

-- what stands behind the first assignment of a `for`
abbrev ForRest : Rule
ForRest = seq (sign (codes ";")) (seq (ref expression) (seq (sign (codes ";")) (ref assign)))

abbrev ForHead : Rule
ForHead = parens (seq (ref assign) ForRest)

for_least : (d : ℕ) (v : V (nth 4 (rule statement))) → 99 < d + (2 + 1) → ForOver d v
for_least d (f, ((l, ((a, (p, (c, (q, s)))), r)), b)) h = let k = stmt_some s in let g = stmts_append b (s ∷ []) in omega arith

for_rest_deeper : (d e : ℕ) → Deeper d e → (v : V (nth 4 (rule statement))) → HighAt e ForRest v.1.0.1.0.1 → ForOver d v
for_rest_deeper d e up (f, ((l, ((a, (p, (c, (q, s)))), r)), b)) (inl h) = absurd h
for_rest_deeper d e up (f, ((l, ((a, (p, (c, (q, s)))), r)), b)) (inr (inl h)) = let k = up (height c) h in omega arith
for_rest_deeper d e up (f, ((l, ((a, (p, (c, (q, s)))), r)), b)) (inr (inr (inl h))) = absurd h
for_rest_deeper d e up (f, ((l, ((a, (p, (c, (q, s)))), r)), b)) (inr (inr (inr h))) = let k = up (stmt_height s) h in let g = stmts_append b (s ∷ []) in omega arith

for_body_deeper : (d e : ℕ) → Deeper d e → (v : V (nth 4 (rule statement))) → Over e (block_height (block_of v.1.1)) → ForOver d v
for_body_deeper d e up (f, ((l, ((a, (p, (c, (q, s)))), r)), b)) h = let k = up (block_height (block_of b)) h in let g = stmts_append b (s ∷ []) in omega arith

-- before the word, with which each loop is too high
pub for_high : (place : Place) (tokens : Bor (List Token)) → (place.checked ≡ true) × (99 < place.depth + (2 + 1)) → HaltsSo (StopOf (TooHigh tokens)) place.checked (nth 4 (rule statement)) (ForOver place.depth) (lexemes_of tokens.now)
for_high place tokens h = high_so tokens (tall_here (nth 4 (rule statement)) (ForOver place.depth) (lexemes_of tokens.now) (λ n q v z e d. for_least place.depth v h.1)) h.0

-- where no part stops that stands one node deeper
pub for_halts : (place : Place) (ts : List Lexeme) (e : Halt) → Halts (StopOf e) place.checked (λ (j : Nonterminal). place.depth) (nth 4 (rule statement)) ts → HaltsSo (StopOf e) place.checked (nth 4 (rule statement)) (ForOver place.depth) ts
for_halts place ts e h = so_map (λ k v g. grows_statement place.depth (inject 4 (rule statement) v) g) (so_of h)

-- the condition or the step stops
pub for_rest_halts : (place inner : Place) (ts : List Lexeme) {a b c : List Lexeme} {w l : Lexeme} {start : Stmt} (e : Halt) → inner.checked ≡ place.checked → Deeper place.depth inner.depth → At (text (codes "for")) ts w a → At (text (codes "(")) a l b → Reading (ref assign) b start c → Halts (StopOf e) inner.checked (λ (j : Nonterminal). inner.depth) ForRest c → HaltsSo (StopOf e) place.checked (nth 4 (rule statement)) (ForOver place.depth) ts
for_rest_halts place inner ts {a} {b} {c} {w} {l} {start} e k up f o r h =
    so_map (λ q v g. for_rest_deeper place.depth inner.depth up v g.1.1.1)
    (so_right (token_read f) (so_left (so_right (token_read o) (so_left (so_right r (so_of (subst (λ x. Halts (StopOf e) x (λ (j : Nonterminal). inner.depth) ForRest c) k h)))))))

-- the body stops
pub for_body_halts : (place inner : Place) (ts : List Lexeme) {a b : List Lexeme} {w : Lexeme} {v : V ForHead} (e : Halt) → inner.checked ≡ place.checked → Deeper place.depth inner.depth → At (text (codes "for")) ts w a → Reading ForHead a v b → Halted (StopOf e) inner.checked inner.depth block b → HaltsSo (StopOf e) place.checked (nth 4 (rule statement)) (ForOver place.depth) ts
for_body_halts place inner ts {a} {b} {w} {v} e k up f r h =
    so_map (λ q v g. for_body_deeper place.depth inner.depth up v g.1.1)
    (so_right (token_read f) (so_right r (operand_so inner.depth block b (subst (λ x. Halted (StopOf e) x inner.depth block b) k h))))

-- what is low at a place is low where heights are checked as there
pub for_low : (place inner : Place) (n k : ℕ) → inner.checked ≡ place.checked → IsLow inner n k → IsLow place n k
for_low place inner n k c low q = low (c ∙ q)

-- ---- conditions

pub cond_halts : (place inner : Place) (ts : List Lexeme) (t : Lexeme) (a : List Lexeme) (e : Halt) → inner.checked ≡ place.checked → Deeper place.depth inner.depth → At (text (codes "if")) ts t a → Halts (StopOf e) inner.checked (λ _. inner.depth) (parens (ref expression)) a → Halted (StopOf e) place.checked place.depth if_statement ts
cond_halts place inner ts t a e c up f h =
    so_phrase refl (λ k w g. cond_deeper place.depth inner.depth up w g.1)
    (so_right (token_read f) (so_left (so_of (subst (λ b. Halts (StopOf e) b (λ _. inner.depth) (parens (ref expression)) a) c h))))

pub parens_weaker : (place inner : Place) (x : Measured (Box Expression)) (v : V (parens (ref expression))) → IsInside place inner → IsInParens inner x v → IsInParens place x v
parens_weaker place inner x v i m = record { tree = m.tree; low = low_weaker place inner x.height (height v.1.0) i m.low }
