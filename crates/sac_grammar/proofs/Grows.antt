-- A phrase with a part that is too high is too high.
use Rattle.std.proofs.Common.{Bool, true, false, ◌&&◌, ℕ, ◌≡◌, ◌≤◌, max, List, [], ◌∷◌, ◌++◌, ◌⊎◌, inl, inr, refl, arith, codes, map}
use Rattle.sac_ast.specs.Texts.{Lexeme}
use Rattle.sac_base.specs.declared.site.Site.{Site}
use Rattle.sac_base.specs.declared.op.Op.{Op}
use Rattle.sac_base.specs.declared.op.Op.TheVariants.{Add, Sub, Mul, Div, Rem, Min, Max, Neg, Not, Eq, Ne, Lt, Le, Gt, Ge, And, Or}
use Rattle.sac_ast.specs.Shape.{name, nothing, term, ref, seq, alt, many}
use Rattle.sac_ast.specs.Tree as tree
use Rattle.sac_ast.specs.Tree.{Expr, Exprs, Stmt, Gen}
use Rattle.sac_ast.specs.View.{exprs_of, block_of, gens_of}
use Rattle.sac_ast.specs.Grammar.{Nonterminal, program, function, param, type', statement, if_statement, else_branch, block, assign, expression, disjunction, conjunction, equality, comparison, sum, product, prefix, postfix, primary, generator, bound, index, operation, Rule, V, Tree, rule, action, one_of, chosen, chain, selects, index_of, items, concat, sign, opt, listed, parens, update_signs, maybe_items, maybe, body_or_none, name_or_call}
use Rattle.sac_grammar.specs.Tables.{first_of}
use Rattle.sac_grammar.proofs.Machine.{false_true, and_left, and_right}
use Rattle.sac_grammar.specs.High.{AnyOf, HasHigh}
use Rattle.sac_ast.specs.Heights.{height, heights, maybe_height, block_height, gen_height, gens_height}
use Rattle.sac_grammar.specs.Limits.{Over, High, Within}

-- no operator is high
pub no_op : {P : Type 0} (H : (k : Nonterminal) → Tree k → Type 0) (o : List ℕ × Op) (ps : List (List ℕ × Op)) (v : V (one_of o ps)) → HasHigh Tree first_of H (one_of o ps) v → P
no_op H o [] v h = absurd h
no_op H o (p ∷ ps) (inl v) h = absurd h
no_op H o (p ∷ ps) (inr v) h = no_op H p ps v h

-- a place with d nodes around it
module _ (d : ℕ) where
  abbrev pub HH : (s : Rule) → V s → Type 0
  HH = HasHigh Tree first_of (High d)

  -- a chain is no lower than its first operand, and each operand is in it
  pub chain_first : (o : List ℕ × Op) (ps : List (List ℕ × Op)) (e : Expr) (rest : List (V (one_of o ps) × Expr)) → height e ≤ height (chain o ps e rest)
  chain_first o ps e [] = omega arith
  chain_first o ps e ((v, x) ∷ rest) = let h = chain_first o ps (tree.binary (chosen o ps v).0 e x (chosen o ps v).1) rest in omega arith

  chain_rest : (o : List ℕ × Op) (ps : List (List ℕ × Op)) (e : Expr) (rest : List (V (one_of o ps) × Expr)) → AnyOf (λ w. HH (one_of o ps) w.0 ⊎ Over d (height w.1)) rest → Over d (height (chain o ps e rest))
  chain_rest o ps e [] h = absurd h
  chain_rest o ps e ((v, x) ∷ rest) (inl (inl h)) = no_op (High d) o ps v h
  chain_rest o ps e ((v, x) ∷ rest) (inl (inr h)) = let g = chain_first o ps (tree.binary (chosen o ps v).0 e x (chosen o ps v).1) rest in omega arith
  chain_rest o ps e ((v, x) ∷ rest) (inr h) = chain_rest o ps (tree.binary (chosen o ps v).0 e x (chosen o ps v).1) rest h

  chain_high : (o : List ℕ × Op) (ps : List (List ℕ × Op)) (e : Expr) (rest : List (V (one_of o ps) × Expr)) → Over d (height e) ⊎ AnyOf (λ w. HH (one_of o ps) w.0 ⊎ Over d (height w.1)) rest → Over d (height (chain o ps e rest))
  chain_high o ps e rest (inl h) = let g = chain_first o ps e rest in omega arith
  chain_high o ps e rest (inr h) = chain_rest o ps e rest h

  -- lists of expressions
  AnyItem : List (Lexeme × Expr) → Type 0
  AnyItem = AnyOf (λ w. ⊥ ⊎ Over d (height w.1))

  more_high : (rest : List (Lexeme × Expr)) → AnyOf (λ w. ⊥ ⊎ Over d (height w.1)) rest → Over d (heights (exprs_of (map (λ p. p.1) rest)))
  more_high [] h = absurd h
  more_high ((t, x) ∷ rest) (inl (inl h)) = absurd h
  more_high ((t, x) ∷ rest) (inl (inr h)) = omega arith
  more_high ((t, x) ∷ rest) (inr h) = let g = more_high rest h in omega arith

  pub list_high : (v : Expr × List (Lexeme × Expr)) → Over d (height v.0) ⊎ AnyOf (λ w. ⊥ ⊎ Over d (height w.1)) v.1 → Over d (heights (exprs_of (items v)))
  list_high (x, rest) (inl h) = omega arith
  list_high (x, rest) (inr h) = let g = more_high rest h in omega arith

  pub index_high : (s : Site) (es : List Expr) → Over d (heights (exprs_of es)) → Over d (height (index_of s es))
  index_high s [] h = omega arith
  index_high s (e ∷ []) h = omega arith
  index_high s (e ∷ f ∷ es) h = omega arith

  pub selects_first : (e : Expr) (rest : List (Lexeme × ((Expr × List (Lexeme × Expr)) × Lexeme))) → height e ≤ height (selects e rest)
  selects_first e [] = omega arith
  selects_first e ((t, (v, u)) ∷ rest) = let h = selects_first (tree.select e (index_of t.site (items v)) t.site) rest in omega arith

  selects_high : (e : Expr) (rest : List (Lexeme × ((Expr × List (Lexeme × Expr)) × Lexeme))) → Over d (height e) ⊎ AnyOf (λ w. ⊥ ⊎ ((Over d (height w.1.0.0) ⊎ AnyOf (λ z. ⊥ ⊎ Over d (height z.1)) w.1.0.1) ⊎ ⊥)) rest → Over d (height (selects e rest))
  selects_high e rest (inl h) = let g = selects_first e rest in omega arith
  selects_high e [] (inr h) = absurd h
  selects_high e ((t, (v, u)) ∷ rest) (inr (inl (inl h))) = absurd h
  selects_high e ((t, (v, u)) ∷ rest) (inr (inl (inr (inr h)))) = absurd h
  selects_high e ((t, (v, u)) ∷ rest) (inr (inl (inr (inl h)))) =
      let i = index_high t.site (items v) (list_high v h) in
      let g = selects_first (tree.select e (index_of t.site (items v)) t.site) rest in
      omega arith
  selects_high e ((t, (v, u)) ∷ rest) (inr (inr h)) = selects_high (tree.select e (index_of t.site (items v)) t.site) rest (inr h)

  -- the levels of expressions
  pub grows_disjunction : (v : V (rule disjunction)) → HH (rule disjunction) v → High d disjunction (action disjunction v)
  grows_disjunction (e, rest) h = chain_high (codes "||", Or) [] e rest h

  pub grows_conjunction : (v : V (rule conjunction)) → HH (rule conjunction) v → High d conjunction (action conjunction v)
  grows_conjunction (e, rest) h = chain_high (codes "&&", And) [] e rest h

  pub grows_equality : (v : V (rule equality)) → HH (rule equality) v → High d equality (action equality v)
  grows_equality (e, rest) h = chain_high (codes "==", Eq) ((codes "!=", Ne) ∷ []) e rest h

  pub grows_comparison : (v : V (rule comparison)) → HH (rule comparison) v → High d comparison (action comparison v)
  grows_comparison (e, rest) h = chain_high (codes "<", Lt) ((codes "<=", Le) ∷ (codes ">", Gt) ∷ (codes ">=", Ge) ∷ []) e rest h

  pub grows_sum : (v : V (rule sum)) → HH (rule sum) v → High d sum (action sum v)
  grows_sum (e, rest) h = chain_high (codes "+", Add) ((codes "-", Sub) ∷ []) e rest h

  pub grows_product : (v : V (rule product)) → HH (rule product) v → High d product (action product v)
  grows_product (e, rest) h = chain_high (codes "*", Mul) ((codes "/", Div) ∷ (codes "%", Rem) ∷ []) e rest h

  pub grows_prefix : (v : V (rule prefix)) → HasHigh Tree first_of (Within d prefix) (rule prefix) v → High d prefix (action prefix v)
  grows_prefix (inr e) h = h
  grows_prefix (inl (o, e)) (inl h) = no_op (Within d prefix) (codes "-", Neg) ((codes "!", Not) ∷ []) o h
  grows_prefix (inl (o, e)) (inr h) = omega arith

  pub grows_postfix : (v : V (rule postfix)) → HH (rule postfix) v → High d postfix (action postfix v)
  grows_postfix (e, rest) h = selects_high e rest h

  pub grows_expression : (v : V (rule expression)) → HasHigh Tree first_of (Within d expression) (rule expression) v → High d expression (action expression v)
  grows_expression (c, inr u) (inl h) = h
  grows_expression (c, inr u) (inr h) = absurd h
  grows_expression (c, inl (q, (a, (k, b)))) (inl h) = omega arith
  grows_expression (c, inl (q, (a, (k, b)))) (inr (inl h)) = absurd h
  grows_expression (c, inl (q, (a, (k, b)))) (inr (inr (inl h))) = omega arith
  grows_expression (c, inl (q, (a, (k, b)))) (inr (inr (inr (inl h)))) = absurd h
  grows_expression (c, inl (q, (a, (k, b)))) (inr (inr (inr (inr h)))) = omega arith

  -- ---- right sides without a part that has a height

  abbrev is_flat : Rule → Bool
  is_flat nothing = true
  is_flat (term t) = true
  is_flat (ref param) = true
  is_flat (ref type') = true
  is_flat (ref index) = true
  is_flat (ref k) = false
  is_flat (seq a b) = is_flat a && is_flat b
  is_flat (alt a b) = is_flat a && is_flat b
  is_flat (many a) = is_flat a

  any_none : {A : Type 0} (P : A → Type 0) → ((v : A) → P v → ⊥) → (vs : List A) → AnyOf P vs → ⊥
  any_none P f [] h = h
  any_none P f (v ∷ vs) (inl h) = f v h
  any_none P f (v ∷ vs) (inr h) = any_none P f vs h

  flat : (s : Rule) (v : V s) → is_flat s ≡ true → HH s v → ⊥
  flat nothing v e h = h
  flat (term t) v e h = h
  flat (ref param) v e h = h
  flat (ref type') v e h = h
  flat (ref index) v e h = h
  flat (ref program) v e h = false_true e
  flat (ref function) v e h = false_true e
  flat (ref statement) v e h = false_true e
  flat (ref if_statement) v e h = false_true e
  flat (ref else_branch) v e h = false_true e
  flat (ref block) v e h = false_true e
  flat (ref assign) v e h = false_true e
  flat (ref expression) v e h = false_true e
  flat (ref disjunction) v e h = false_true e
  flat (ref conjunction) v e h = false_true e
  flat (ref equality) v e h = false_true e
  flat (ref comparison) v e h = false_true e
  flat (ref sum) v e h = false_true e
  flat (ref product) v e h = false_true e
  flat (ref prefix) v e h = false_true e
  flat (ref postfix) v e h = false_true e
  flat (ref primary) v e h = false_true e
  flat (ref generator) v e h = false_true e
  flat (ref bound) v e h = false_true e
  flat (ref operation) v e h = false_true e
  flat (seq a b) v e (inl h) = flat a v.0 (and_left (is_flat a) (is_flat b) e) h
  flat (seq a b) v e (inr h) = flat b v.1 (and_right (is_flat a) (is_flat b) e) h
  flat (alt a b) (inl v) e h = flat a v (and_left (is_flat a) (is_flat b) e) h
  flat (alt a b) (inr v) e h = flat b v (and_right (is_flat a) (is_flat b) e) h
  flat (many a) vs e h = any_none (HH a) (λ v g. flat a v e g) vs h

  -- ---- statements

  stmts_append : (a b : List Stmt) → block_height (block_of (a ++ b)) ≡ max (block_height (block_of a)) (block_height (block_of b))
  stmts_append [] b = omega arith
  stmts_append (s ∷ a) b = let h = stmts_append a b in omega arith

  concat_high : (ss : List (List Stmt)) → AnyOf (λ s. Over d (block_height (block_of s))) ss → Over d (block_height (block_of (concat ss)))
  concat_high [] h = absurd h
  concat_high (s ∷ ss) (inl h) = let e = stmts_append s (concat ss) in omega arith
  concat_high (s ∷ ss) (inr h) = let e = stmts_append s (concat ss) in let g = concat_high ss h in omega arith

  pub grows_block : (v : V (rule block)) → HH (rule block) v → High d block (action block v)
  grows_block (l, (ss, r)) (inl h) = absurd h
  grows_block (l, (ss, r)) (inr (inl h)) = concat_high ss h
  grows_block (l, (ss, r)) (inr (inr h)) = absurd h

  pub grows_else : (v : V (rule else_branch)) → HH (rule else_branch) v → High d else_branch (action else_branch v)
  grows_else (inl b) h = h
  grows_else (inr s) h = omega arith

  pub grows_if : (v : V (rule if_statement)) → HasHigh Tree first_of (Within d if_statement) (rule if_statement) v → High d if_statement (action if_statement v)
  grows_if (i, ((l, (c, r)), (b, e))) (inl h) = absurd h
  grows_if (i, ((l, (c, r)), (b, e))) (inr (inl (inl h))) = absurd h
  grows_if (i, ((l, (c, r)), (b, e))) (inr (inl (inr (inl h)))) = omega arith
  grows_if (i, ((l, (c, r)), (b, e))) (inr (inl (inr (inr h)))) = absurd h
  grows_if (i, ((l, (c, r)), (b, e))) (inr (inr (inl h))) = omega arith
  grows_if (i, ((l, (c, r)), (b, inl (t, ss)))) (inr (inr (inr (inl h)))) = absurd h
  grows_if (i, ((l, (c, r)), (b, inl (t, ss)))) (inr (inr (inr (inr h)))) = omega arith
  grows_if (i, ((l, (c, r)), (b, inr u))) (inr (inr (inr h))) = absurd h

  pub grows_statement : (v : V (rule statement)) → HH (rule statement) v → High d statement (action statement v)
  grows_statement (inl (a, t)) (inl h) = omega arith
  grows_statement (inl (a, t)) (inr h) = absurd h
  grows_statement (inr (inl s)) h = omega arith
  grows_statement (inr (inr (inl (w, ((l, (c, r)), b))))) (inl h) = absurd h
  grows_statement (inr (inr (inl (w, ((l, (c, r)), b))))) (inr (inl (inl h))) = absurd h
  grows_statement (inr (inr (inl (w, ((l, (c, r)), b))))) (inr (inl (inr (inl h)))) = omega arith
  grows_statement (inr (inr (inl (w, ((l, (c, r)), b))))) (inr (inl (inr (inr h)))) = absurd h
  grows_statement (inr (inr (inl (w, ((l, (c, r)), b))))) (inr (inr h)) = omega arith
  grows_statement (inr (inr (inr (inl (d, (b, (w, ((l, (c, r)), t)))))))) (inl h) = absurd h
  grows_statement (inr (inr (inr (inl (d, (b, (w, ((l, (c, r)), t)))))))) (inr (inl h)) = omega arith
  grows_statement (inr (inr (inr (inl (d, (b, (w, ((l, (c, r)), t)))))))) (inr (inr (inl h))) = absurd h
  grows_statement (inr (inr (inr (inl (d, (b, (w, ((l, (c, r)), t)))))))) (inr (inr (inr (inl (inl h))))) = absurd h
  grows_statement (inr (inr (inr (inl (d, (b, (w, ((l, (c, r)), t)))))))) (inr (inr (inr (inl (inr (inl h)))))) = omega arith
  grows_statement (inr (inr (inr (inl (d, (b, (w, ((l, (c, r)), t)))))))) (inr (inr (inr (inl (inr (inr h)))))) = absurd h
  grows_statement (inr (inr (inr (inl (d, (b, (w, ((l, (c, r)), t)))))))) (inr (inr (inr (inr h)))) = absurd h
  grows_statement (inr (inr (inr (inr (f, ((l, ((a, (p, (c, (q, s)))), r)), b)))))) (inl h) = absurd h
  grows_statement (inr (inr (inr (inr (f, ((l, ((a, (p, (c, (q, s)))), r)), b)))))) (inr (inl (inl h))) = absurd h
  grows_statement (inr (inr (inr (inr (f, ((l, ((a, (p, (c, (q, s)))), r)), b)))))) (inr (inl (inr (inl (inl h))))) = omega arith
  grows_statement (inr (inr (inr (inr (f, ((l, ((a, (p, (c, (q, s)))), r)), b)))))) (inr (inl (inr (inl (inr (inl h)))))) = absurd h
  grows_statement (inr (inr (inr (inr (f, ((l, ((a, (p, (c, (q, s)))), r)), b)))))) (inr (inl (inr (inl (inr (inr (inl h))))))) = omega arith
  grows_statement (inr (inr (inr (inr (f, ((l, ((a, (p, (c, (q, s)))), r)), b)))))) (inr (inl (inr (inl (inr (inr (inr (inl h)))))))) = absurd h
  grows_statement (inr (inr (inr (inr (f, ((l, ((a, (p, (c, (q, s)))), r)), b)))))) (inr (inl (inr (inl (inr (inr (inr (inr h)))))))) = let e = stmts_append b (s ∷ []) in omega arith
  grows_statement (inr (inr (inr (inr (f, ((l, ((a, (p, (c, (q, s)))), r)), b)))))) (inr (inl (inr (inr h)))) = absurd h
  grows_statement (inr (inr (inr (inr (f, ((l, ((a, (p, (c, (q, s)))), r)), b)))))) (inr (inr h)) = let e = stmts_append b (s ∷ []) in omega arith

  pub grows_assign : (v : V (rule assign)) → HH (rule assign) v → High d assign (action assign v)
  grows_assign (n, v) (inl h) = absurd h
  grows_assign (n, inl (ns, (t, e))) (inr (inl h)) = absurd (flat (many (seq (sign (codes ",")) (term name))) ns refl h)
  grows_assign (n, inl (ns, (t, e))) (inr (inr (inl h))) = absurd h
  grows_assign (n, inl (ns, (t, e))) (inr (inr (inr h))) = omega arith
  grows_assign (n, inr (inl (l, (v, (r, (t, e)))))) (inr (inl h)) = absurd h
  grows_assign (n, inr (inl (l, (v, (r, (t, e)))))) (inr (inr (inl h))) = let g = index_high l.site (items v) (list_high v h) in omega arith
  grows_assign (n, inr (inl (l, (v, (r, (t, e)))))) (inr (inr (inr (inl h)))) = absurd h
  grows_assign (n, inr (inl (l, (v, (r, (t, e)))))) (inr (inr (inr (inr (inl h))))) = absurd h
  grows_assign (n, inr (inl (l, (v, (r, (t, e)))))) (inr (inr (inr (inr (inr h))))) = omega arith
  grows_assign (n, inr (inr (inl (o, e)))) (inr (inl h)) = no_op (High d) update_signs.0 update_signs.1 o h
  grows_assign (n, inr (inr (inl (o, e)))) (inr (inr h)) = omega arith
  grows_assign (n, inr (inr (inr o))) (inr h) = no_op (High d) (codes "++", Add) ((codes "--", Sub) ∷ []) o h

  pub grows_bound : (v : V (rule bound)) → HH (rule bound) v → High d bound (action bound v)
  grows_bound (inl t) h = absurd h
  grows_bound (inr e) h = h

  pub grows_operation : (v : V (rule operation)) → HH (rule operation) v → High d operation (action operation v)
  grows_operation (inl (t, (l, ((e, d), r)))) (inl h) = absurd h
  grows_operation (inl (t, (l, ((e, d), r)))) (inr (inl h)) = absurd h
  grows_operation (inl (t, (l, ((e, d), r)))) (inr (inr (inl (inl h)))) = omega arith
  grows_operation (inl (t, (l, ((e, inl (c, x)), r)))) (inr (inr (inl (inr (inl h))))) = absurd h
  grows_operation (inl (t, (l, ((e, inl (c, x)), r)))) (inr (inr (inl (inr (inr h))))) = omega arith
  grows_operation (inl (t, (l, ((e, inr u), r)))) (inr (inr (inl (inr h)))) = absurd h
  grows_operation (inl (t, (l, ((e, d), r)))) (inr (inr (inr h))) = absurd h
  grows_operation (inr (inl (t, (l, (e, r))))) (inl h) = absurd h
  grows_operation (inr (inl (t, (l, (e, r))))) (inr (inl h)) = absurd h
  grows_operation (inr (inl (t, (l, (e, r))))) (inr (inr (inl h))) = omega arith
  grows_operation (inr (inl (t, (l, (e, r))))) (inr (inr (inr h))) = absurd h
  grows_operation (inr (inr (t, (l, ((o, (c, e)), r))))) (inl h) = absurd h
  grows_operation (inr (inr (t, (l, ((o, (c, e)), r))))) (inr (inl h)) = absurd h
  grows_operation (inr (inr (t, (l, ((o, (c, e)), r))))) (inr (inr (inl (inl h)))) = no_op (High d) (codes "+", Add) ((codes "*", Mul) ∷ (codes "min", Min) ∷ (codes "max", Max) ∷ (codes "&&", And) ∷ (codes "||", Or) ∷ []) o h
  grows_operation (inr (inr (t, (l, ((o, (c, e)), r))))) (inr (inr (inl (inr (inl h))))) = absurd h
  grows_operation (inr (inr (t, (l, ((o, (c, e)), r))))) (inr (inr (inl (inr (inr h))))) = omega arith
  grows_operation (inr (inr (t, (l, ((o, (c, e)), r))))) (inr (inr (inr h))) = absurd h

  -- ---- primaries and generators

  pub in_parens : {P : Type 0} → ⊥ ⊎ (P ⊎ ⊥) → P
  in_parens (inl h) = absurd h
  in_parens (inr (inl h)) = h
  in_parens (inr (inr h)) = absurd h

  pub in_both : (a b : ℕ) → Over d a ⊎ (⊥ ⊎ Over d b) → Over d (max a b)
  in_both a b (inl h) = omega arith
  in_both a b (inr (inl h)) = absurd h
  in_both a b (inr (inr h)) = omega arith

  pub maybe_list_high : (es : V (opt (listed (ref expression)))) → HH (opt (listed (ref expression))) es → Over d (heights (exprs_of (maybe_items es)))
  maybe_list_high (inl v) h = list_high v h
  maybe_list_high (inr u) h = absurd h

  pub gens_high : (gs : List Gen) → AnyOf (λ g. Over d (gen_height g)) gs → Over d (gens_height (gens_of gs))
  gens_high [] h = absurd h
  gens_high (g ∷ gs) (inl h) = omega arith
  gens_high (g ∷ gs) (inr h) = let k = gens_high gs h in omega arith

  call_high : (t : Lexeme) (v : V (opt (parens (opt (listed (ref expression)))))) → HH (opt (parens (opt (listed (ref expression))))) v → Over d (height (name_or_call t v))
  call_high t (inl (l, (es, r))) h = let g = maybe_list_high es (in_parens h) in omega arith
  call_high t (inr u) h = absurd h

  pub grows_primary : (v : V (rule primary)) → HH (rule primary) v → High d primary (action primary v)
  grows_primary (inl t) h = absurd h
  grows_primary (inr (inl t)) h = absurd h
  grows_primary (inr (inr (inl t))) h = absurd h
  grows_primary (inr (inr (inr (inl (t, v))))) (inl h) = absurd h
  grows_primary (inr (inr (inr (inl (t, v))))) (inr h) = call_high t v h
  grows_primary (inr (inr (inr (inr (inl (inl t, (l, (e, r)))))))) (inl h) = absurd h
  grows_primary (inr (inr (inr (inr (inl (inl t, (l, (e, r)))))))) (inr h) = let g : Over d (height e) = in_parens h in omega arith
  grows_primary (inr (inr (inr (inr (inl (inr t, (l, (e, r)))))))) (inl h) = absurd h
  grows_primary (inr (inr (inr (inr (inl (inr t, (l, (e, r)))))))) (inr h) = let g : Over d (height e) = in_parens h in omega arith
  grows_primary (inr (inr (inr (inr (inr (inl (t, (l, ((a, (c, b)), r))))))))) (inl h) = absurd h
  grows_primary (inr (inr (inr (inr (inr (inl (t, (l, ((a, (c, b)), r))))))))) (inr h) = let g = in_both (height a) (height b) (in_parens h) in omega arith
  grows_primary (inr (inr (inr (inr (inr (inr (inl (o, (l, ((a, (c, b)), r)))))))))) (inl h) = no_op (High d) (codes "min", Min) ((codes "max", Max) ∷ []) o h
  grows_primary (inr (inr (inr (inr (inr (inr (inl (o, (l, ((a, (c, b)), r)))))))))) (inr h) = let g = in_both (height a) (height b) (in_parens h) in omega arith
  grows_primary (inr (inr (inr (inr (inr (inr (inr (inl (l, (e, r)))))))))) h = in_parens h
  grows_primary (inr (inr (inr (inr (inr (inr (inr (inr (inl (l, (es, r))))))))))) h = let g = maybe_list_high es (in_parens h) in omega arith
  grows_primary (inr (inr (inr (inr (inr (inr (inr (inr (inr (w, (l, (gs, (r, (c, o)))))))))))))) (inl h) = absurd h
  grows_primary (inr (inr (inr (inr (inr (inr (inr (inr (inr (w, (l, (gs, (r, (c, o)))))))))))))) (inr (inl h)) = absurd h
  grows_primary (inr (inr (inr (inr (inr (inr (inr (inr (inr (w, (l, (gs, (r, (c, o)))))))))))))) (inr (inr (inl h))) = let g = gens_high gs h in omega arith
  grows_primary (inr (inr (inr (inr (inr (inr (inr (inr (inr (w, (l, (gs, (r, (c, o)))))))))))))) (inr (inr (inr (inl h)))) = absurd h
  grows_primary (inr (inr (inr (inr (inr (inr (inr (inr (inr (w, (l, (gs, (r, (c, o)))))))))))))) (inr (inr (inr (inr (inl h))))) = absurd h
  grows_primary (inr (inr (inr (inr (inr (inr (inr (inr (inr (w, (l, (gs, (r, (c, o)))))))))))))) (inr (inr (inr (inr (inr h))))) = omega arith

  maybe_high : (t : List ℕ) (v : V (opt (seq (sign t) (ref sum)))) → HH (opt (seq (sign t) (ref sum))) v → Over d (maybe_height (maybe v))
  maybe_high t (inl v) (inl h) = absurd h
  maybe_high t (inl v) (inr h) = h
  maybe_high t (inr u) h = absurd h

  body_high : (b : V (opt (ref block))) → HH (opt (ref block)) b → Over d (block_height (block_of (body_or_none b)))
  body_high (inl b) h = h
  body_high (inr u) h = absurd h

  pub grows_generator : (v : V (rule generator)) → HH (rule generator) v → High d generator (action generator v)
  grows_generator ((l, ((low, (lc, (i, (uc, (up, (s, w)))))), r)), (b, (c, (e, z)))) (inl (inl h)) = absurd h
  grows_generator ((l, ((low, (lc, (i, (uc, (up, (s, w)))))), r)), (b, (c, (e, z)))) (inl (inr (inl (inl h)))) = omega arith
  grows_generator ((l, ((low, (lc, (i, (uc, (up, (s, w)))))), r)), (b, (c, (e, z)))) (inl (inr (inl (inr (inl h))))) = absurd (flat (alt (sign (codes "<=")) (sign (codes "<"))) lc refl h)
  grows_generator ((l, ((low, (lc, (i, (uc, (up, (s, w)))))), r)), (b, (c, (e, z)))) (inl (inr (inl (inr (inr (inl h)))))) = absurd h
  grows_generator ((l, ((low, (lc, (i, (uc, (up, (s, w)))))), r)), (b, (c, (e, z)))) (inl (inr (inl (inr (inr (inr (inl h))))))) = absurd (flat (alt (sign (codes "<=")) (sign (codes "<"))) uc refl h)
  grows_generator ((l, ((low, (lc, (i, (uc, (up, (s, w)))))), r)), (b, (c, (e, z)))) (inl (inr (inl (inr (inr (inr (inr (inl h)))))))) = omega arith
  grows_generator ((l, ((low, (lc, (i, (uc, (up, (s, w)))))), r)), (b, (c, (e, z)))) (inl (inr (inl (inr (inr (inr (inr (inr (inl h))))))))) = let g = maybe_high (codes "step") s h in omega arith
  grows_generator ((l, ((low, (lc, (i, (uc, (up, (s, w)))))), r)), (b, (c, (e, z)))) (inl (inr (inl (inr (inr (inr (inr (inr (inr h))))))))) = let g = maybe_high (codes "width") w h in omega arith
  grows_generator ((l, ((low, (lc, (i, (uc, (up, (s, w)))))), r)), (b, (c, (e, z)))) (inl (inr (inr h))) = absurd h
  grows_generator ((l, ((low, (lc, (i, (uc, (up, (s, w)))))), r)), (b, (c, (e, z)))) (inr (inl h)) = let g = body_high b h in omega arith
  grows_generator ((l, ((low, (lc, (i, (uc, (up, (s, w)))))), r)), (b, (c, (e, z)))) (inr (inr (inl h))) = absurd h
  grows_generator ((l, ((low, (lc, (i, (uc, (up, (s, w)))))), r)), (b, (c, (e, z)))) (inr (inr (inr (inl h)))) = omega arith
  grows_generator ((l, ((low, (lc, (i, (uc, (up, (s, w)))))), r)), (b, (c, (e, z)))) (inr (inr (inr (inr h)))) = absurd h

pub grows_function : (v : V (rule function)) → HasHigh Tree first_of (High 0) (rule function) v → High 0 function (action function v)
grows_function (i, (ts, (n, ((l, (ps, r)), (k, (b, (t, ((m, (vs, o)), z)))))))) (inl h) = absurd (flat 0 (opt (sign (codes "inline"))) i refl h)
grows_function (i, (ts, (n, ((l, (ps, r)), (k, (b, (t, ((m, (vs, o)), z)))))))) (inr (inl h)) = absurd (flat 0 (listed (ref type')) ts refl h)
grows_function (i, (ts, (n, ((l, (ps, r)), (k, (b, (t, ((m, (vs, o)), z)))))))) (inr (inr (inl h))) = absurd h
grows_function (i, (ts, (n, ((l, (ps, r)), (k, (b, (t, ((m, (vs, o)), z)))))))) (inr (inr (inr (inl h)))) = absurd (flat 0 (parens (opt (listed (ref param)))) (l, (ps, r)) refl h)
grows_function (i, (ts, (n, ((l, (ps, r)), (k, (b, (t, ((m, (vs, o)), z)))))))) (inr (inr (inr (inr (inl h))))) = absurd h
grows_function (i, (ts, (n, ((l, (ps, r)), (k, (b, (t, ((m, (vs, o)), z)))))))) (inr (inr (inr (inr (inr (inl h)))))) = let g = concat_high 0 b h in omega arith
grows_function (i, (ts, (n, ((l, (ps, r)), (k, (b, (t, ((m, (vs, o)), z)))))))) (inr (inr (inr (inr (inr (inr (inl h))))))) = absurd h
grows_function (i, (ts, (n, ((l, (ps, r)), (k, (b, (t, ((m, (vs, o)), z)))))))) (inr (inr (inr (inr (inr (inr (inr (inl (inl h))))))))) = absurd h
grows_function (i, (ts, (n, ((l, (ps, r)), (k, (b, (t, ((m, (vs, o)), z)))))))) (inr (inr (inr (inr (inr (inr (inr (inl (inr (inl h)))))))))) = let g = list_high 0 vs h in omega arith
grows_function (i, (ts, (n, ((l, (ps, r)), (k, (b, (t, ((m, (vs, o)), z)))))))) (inr (inr (inr (inr (inr (inr (inr (inl (inr (inr h)))))))))) = absurd h
grows_function (i, (ts, (n, ((l, (ps, r)), (k, (b, (t, ((m, (vs, o)), z)))))))) (inr (inr (inr (inr (inr (inr (inr (inr (inl h))))))))) = absurd h
grows_function (i, (ts, (n, ((l, (ps, r)), (k, (b, (t, ((m, (vs, o)), z)))))))) (inr (inr (inr (inr (inr (inr (inr (inr (inr h))))))))) = absurd h

pub grows_program : (d : ℕ) (v : V (rule program)) → HasHigh Tree first_of (High d) (rule program) v → High d program (action program v)
grows_program d (fs, e) (inl h) = h
grows_program d (fs, e) (inr h) = absurd h

-- ---- all of them

pub grows : (d : ℕ) (k : Nonterminal) (v : V (rule k)) → HasHigh Tree first_of (Within d k) (rule k) v → High d k (action k v)
grows d program v h = grows_program d v h
grows d function v h = grows_function v h
grows d param v h = absurd (flat d (rule param) v refl h)
grows d type' v h = absurd (flat d (rule type') v refl h)
grows d statement v h = grows_statement d v h
grows d if_statement v h = grows_if d v h
grows d else_branch v h = grows_else d v h
grows d block v h = grows_block d v h
grows d assign v h = grows_assign d v h
grows d expression v h = grows_expression d v h
grows d disjunction v h = grows_disjunction d v h
grows d conjunction v h = grows_conjunction d v h
grows d equality v h = grows_equality d v h
grows d comparison v h = grows_comparison d v h
grows d sum v h = grows_sum d v h
grows d product v h = grows_product d v h
grows d prefix v h = grows_prefix d v h
grows d postfix v h = grows_postfix d v h
grows d primary v h = grows_primary d v h
grows d generator v h = grows_generator d v h
grows d bound v h = grows_bound d v h
grows d index v h = absurd (flat d (rule index) v refl h)
grows d operation v h = grows_operation d v h
