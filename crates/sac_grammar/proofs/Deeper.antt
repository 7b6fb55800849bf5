-- A phrase with a part that is too high one node deeper is too high.
use Rattle.std.proofs.Common.{ℕ, zero, suc, ◌≡◌, ◌+◌, ◌<◌, ◌≤◌, max, Bool, true, false, not, List, [], ◌∷◌, ◌++◌, ◌⊎◌, inl, inr, refl, sym, ap, ◌∙◌, subst, arith, codes, cond}
use Rattle.std.proofs.str.Laws.{order}
use Rattle.sac_ast.specs.Texts.{Lexeme}
use Rattle.sac_base.specs.declared.op.Op.{Op}
use Rattle.sac_base.specs.declared.op.Op.TheVariants.{Min, Max}
use Rattle.sac_ast.specs.Shape.{Terminal, number, term, ref}
use Rattle.sac_ast.specs.Tree as tree
use Rattle.sac_ast.specs.Tree.{Expr, OperationTree}
use Rattle.sac_ast.specs.View.{exprs_of, gens_of}
use Rattle.sac_ast.specs.Grammar.{Nonterminal, expression, primary, Rule, V, Tree, rule, action, one_of, chosen, chain, maybe_items, name_or_call, sign, parens, NameOrCall, DimOrShape, Reshape, Extreme, Literal}
use Rattle.sac_ast.specs.Heights.{height, heights, gens_height, operation_height}
use Rattle.sac_grammar.specs.Run.{starts, first, SameFirst, Runs, RunsIn, are_apart}
use Rattle.sac_grammar.specs.Tables.{first_of}
use Rattle.sac_grammar.specs.High.{HasHigh}
use Rattle.sac_grammar.specs.Limits.{Over, High, with_words, pair_words, least_parts}
use Rattle.sac_grammar.specs.Parsing.{nth, inject}
use Rattle.sac_grammar.proofs.Machine.{false_true, apart_not, starts_same}
use Rattle.sac_grammar.proofs.Grows.{no_op, in_parens, in_both, maybe_list_high, gens_high, chain_first}

-- ---- the heights of phrases

pub height_some : (e : Expr) → 0 < height e
height_some (tree.number n s) = omega arith
height_some (tree.truth b s) = omega arith
height_some (tree.variable x s) = omega arith
height_some (tree.literal es s) = omega arith
height_some (tree.unary o e s) = omega arith
height_some (tree.binary o a b s) = omega arith
height_some (tree.choice c a b s) = omega arith
height_some (tree.select a i s) = omega arith
height_some (tree.call x es s) = omega arith
height_some (tree.builtin b es s) = omega arith
height_some (tree.with_loop gs o s) = omega arith

operation_some : (o : OperationTree) → 1 < operation_height o
operation_some (tree.genarray e d s) = let h = height_some e in omega arith
operation_some (tree.modarray e s) = let h = height_some e in omega arith
operation_some (tree.fold o e s) = let h = height_some e in omega arith

-- ---- parts of primary expressions, with d nodes around the expression and e around the parts

-- what is too high inside is too high with one more node above it
abbrev pub Deeper : ℕ → ℕ → Type 0
Deeper d e = (n : ℕ) → Over e n → Over d (1 + n)

pub deeper : (d e : ℕ) → (d ≤ 99 → e ≡ d + 1) → Deeper d e
deeper d e f n h = go (order d 100)
  where
    go : (d < 100) ⊎ (100 ≤ d) → Over d (1 + n)
    go (inl less) = let k : e ≡ d + 1 = f (omega arith) in omega arith
    go (inr more) = omega arith

module _ (d e : ℕ) (up : Deeper d e) where
  abbrev pub HighIn : (s : Rule) → V s → Type 0
  HighIn = HasHigh Tree first_of (λ (j : Nonterminal). High e j)

  abbrev pub Primary : (n : ℕ) → V (nth n (rule primary)) → Type 0
  Primary n v = High d primary (action primary (inject n (rule primary) v))

  pub call_deeper : (v : V (nth 3 (rule primary))) → HighIn (nth 3 (rule primary)) v → Primary 3 v
  call_deeper (t, w) (inl h) = absurd h
  call_deeper (t, inl (l, (es, r))) (inr h) = up (heights (exprs_of (maybe_items es))) (maybe_list_high e es (in_parens e h))
  call_deeper (t, inr u) (inr h) = absurd h

  pub builtin_deeper : (v : V (nth 4 (rule primary))) → HighIn (nth 4 (rule primary)) v → Primary 4 v
  builtin_deeper (inl t, (l, (x, r))) (inl h) = absurd h
  builtin_deeper (inl t, (l, (x, r))) (inr h) = let g : Over e (height x) = in_parens e h in let k = up (height x) g in omega arith
  builtin_deeper (inr t, (l, (x, r))) (inl h) = absurd h
  builtin_deeper (inr t, (l, (x, r))) (inr h) = let g : Over e (height x) = in_parens e h in let k = up (height x) g in omega arith

  pub reshape_deeper : (v : V (nth 5 (rule primary))) → HighIn (nth 5 (rule primary)) v → Primary 5 v
  reshape_deeper (t, (l, ((a, (c, b)), r))) (inl h) = absurd h
  reshape_deeper (t, (l, ((a, (c, b)), r))) (inr h) = let g = in_both e (height a) (height b) (in_parens e h) in let k = up (max (height a) (height b)) g in omega arith

  pub extreme_deeper : (v : V (nth 6 (rule primary))) → HighIn (nth 6 (rule primary)) v → Primary 6 v
  extreme_deeper (o, (l, ((a, (c, b)), r))) (inl h) = no_op (λ (j : Nonterminal). High e j) (codes "min", Min) ((codes "max", Max) ∷ []) o h
  extreme_deeper (o, (l, ((a, (c, b)), r))) (inr h) = let g = in_both e (height a) (height b) (in_parens e h) in up (max (height a) (height b)) g

  pub literal_deeper : (v : V (nth 8 (rule primary))) → HighIn (nth 8 (rule primary)) v → Primary 8 v
  literal_deeper (l, (es, r)) h = up (heights (exprs_of (maybe_items es))) (maybe_list_high e es (in_parens e h))

  pub with_deeper : (v : V (nth 9 (rule primary))) → HighIn (nth 9 (rule primary)) v → Primary 9 v
  with_deeper (w, (l, (gs, (r, (c, o))))) (inl h) = absurd h
  with_deeper (w, (l, (gs, (r, (c, o))))) (inr (inl h)) = absurd h
  with_deeper (w, (l, (gs, (r, (c, o))))) (inr (inr (inl h))) = let k = up (gens_height (gens_of gs)) (gens_high e gs h) in omega arith
  with_deeper (w, (l, (gs, (r, (c, o))))) (inr (inr (inr (inl h)))) = absurd h
  with_deeper (w, (l, (gs, (r, (c, o))))) (inr (inr (inr (inr (inl h))))) = absurd h
  with_deeper (w, (l, (gs, (r, (c, o))))) (inr (inr (inr (inr (inr h))))) = let k = up (operation_height o) h in omega arith

  -- an operand behind another one in a chain
  chain_next : (o : List ℕ × Op) (ps : List (List ℕ × Op)) (x : Expr) (t : V (one_of o ps) × Expr) (us : List (V (one_of o ps) × Expr)) → 1 + height t.1 ≤ height (chain o ps x (t ∷ us))
  chain_next o ps x (v, y) us = let h = chain_first d o ps (tree.binary (chosen o ps v).0 x y (chosen o ps v).1) us in omega arith

  chain_at : (o : List ℕ × Op) (ps : List (List ℕ × Op)) (x : Expr) (vs : List (V (one_of o ps) × Expr)) (t : V (one_of o ps) × Expr) (us : List (V (one_of o ps) × Expr)) → 1 + height t.1 ≤ height (chain o ps x (vs ++ (t ∷ us)))
  chain_at o ps x [] t us = chain_next o ps x t us
  chain_at o ps x ((v, y) ∷ vs) t us = chain_at o ps (tree.binary (chosen o ps v).0 x y (chosen o ps v).1) vs t us

  pub chain_deeper : (o : List ℕ × Op) (ps : List (List ℕ × Op)) (x : Expr) (vs : List (V (one_of o ps) × Expr)) (t : V (one_of o ps) × Expr) (us : List (V (one_of o ps) × Expr)) → Over e (height t.1) → Over d (height (chain o ps x (vs ++ (t ∷ us))))
  chain_deeper o ps x vs t us h = let k = up (height t.1) h in let l = chain_at o ps x vs t us in omega arith

-- ---- the least height of a primary expression, by its first token

few : (b c : Bool) → b ≡ false → c ≡ false → cond {A = ℕ} b 2 (cond c 1 0) ≡ 0
few true c p q = false_true (sym p)
few false true p q = false_true (sym q)
few false false p q = refl

some : (b c : Bool) → b ≡ false → cond {A = ℕ} b 2 (cond c 1 0) ≤ 1
some true c p = false_true (sym p)
some false true p = omega arith
some false false p = omega arith

most : (b c : Bool) → cond {A = ℕ} b 2 (cond c 1 0) ≤ 2
most true c = omega arith
most false true = omega arith
most false false = omega arith

least_none : (fs : List Terminal) (q : List Lexeme) → are_apart fs with_words ≡ true → are_apart fs pair_words ≡ true → starts fs q ≡ true → least_parts q ≡ 0
least_none fs q a b s = few (starts with_words q) (starts pair_words q) (apart_not fs with_words q a s) (apart_not fs pair_words q b s)

least_some : (fs : List Terminal) (q : List Lexeme) → are_apart fs with_words ≡ true → starts fs q ≡ true → least_parts q ≤ 1
least_some fs q a s = some (starts with_words q) (starts pair_words q) (apart_not fs with_words q a s)

least_of : (n : ℕ) (q : List Lexeme) (x : V (rule primary)) (z : List Lexeme) → Runs Tree first_of (RunsIn Tree first_of rule action n) (rule primary) q x z → least_parts q < height (action primary x)
least_of n q (inl t) z d = let k = least_none (first first_of (term number)) q refl refl d.0 in omega arith
least_of n q (inr (inl t)) z d = let k = least_none (first first_of (sign (codes "true"))) q refl refl d.1.0 in omega arith
least_of n q (inr (inr (inl t))) z d = let k = least_none (first first_of (sign (codes "false"))) q refl refl d.1.1.0 in omega arith
least_of n q (inr (inr (inr (inl (t, v))))) z d = let k = least_none (first first_of NameOrCall) q refl refl d.1.1.1.0 in let h = height_some (name_or_call t v) in omega arith
least_of n q (inr (inr (inr (inr (inl (inl t, (l, (x, r)))))))) z d = let k = least_some (first first_of DimOrShape) q refl d.1.1.1.1.0 in let h = height_some x in omega arith
least_of n q (inr (inr (inr (inr (inl (inr t, (l, (x, r)))))))) z d = let k = least_some (first first_of DimOrShape) q refl d.1.1.1.1.0 in let h = height_some x in omega arith
least_of n q (inr (inr (inr (inr (inr (inl (t, (l, ((a, (c, b)), r))))))))) z d = let k = least_some (first first_of Reshape) q refl d.1.1.1.1.1.0 in let h = height_some a in omega arith
least_of n q (inr (inr (inr (inr (inr (inr (inl (o, (l, ((a, (c, b)), r)))))))))) z d = let k = least_some (first first_of Extreme) q refl d.1.1.1.1.1.1.0 in let h = height_some a in omega arith
least_of n q (inr (inr (inr (inr (inr (inr (inr (inl (l, (x, r)))))))))) z d = let k = least_none (first first_of (parens (ref expression))) q refl refl d.1.1.1.1.1.1.1.0 in let h = height_some x in omega arith
least_of n q (inr (inr (inr (inr (inr (inr (inr (inr (inl (l, (es, r))))))))))) z d = let k = least_none (first first_of Literal) q refl refl d.1.1.1.1.1.1.1.1.0 in omega arith
least_of n q (inr (inr (inr (inr (inr (inr (inr (inr (inr (w, (l, (gs, (r, (c, o)))))))))))))) z d = let k = most (starts with_words q) (starts pair_words q) in let h = operation_some o in omega arith

least_same : (ts q : List Lexeme) → SameFirst ts q → least_parts ts ≡ least_parts q
least_same ts q e = λ i. cond {A = ℕ} (starts_same with_words ts q e i) 2 (cond (starts_same pair_words ts q e i) 1 0)

pub primary_least : (n : ℕ) (ts q : List Lexeme) (v : Expr) (z : List Lexeme) → SameFirst ts q → RunsIn Tree first_of rule action n primary q v z → least_parts ts < height v
primary_least zero ts q v z e d = absurd d
primary_least (suc n) ts q v z e (x, is, d) = let k = least_same ts q e in let h = least_of n q x z d in let g = ap height is in omega arith
