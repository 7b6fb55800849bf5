-- Each action makes a tree that fits of parts that fit.
use Rattle.std.proofs.Common.{ℕ, zero, suc, ◌≡◌, ◌≤◌, ◌<◌, ◌^◌, true, List, [], ◌∷◌, ◌++◌, length, map, inl, inr, codes, refl, arith}
use Rattle.std.specs.List.{AllByRecursion}
use Rattle.std.specs.Str.Parse.{digits_value}
use Rattle.sac_base.specs.declared.site.Site.{Site}
use Rattle.sac_base.specs.declared.op.Op.{Op}
use Rattle.sac_base.specs.declared.op.Op.TheVariants.{Add, Sub, Mul, Div, Rem, Min, Max, Neg, Not, Eq, Ne, Lt, Le, Gt, Ge, And, Or}
use Rattle.sac_ast.specs.declared.Param.{Param}
use Rattle.sac_base.specs.declared.types.ArrayType.{ArrayType}
use Rattle.sac_ast.specs.Texts.{Lexeme}
use Rattle.sac_ast.specs.Shape.{nothing, term, ref, seq, alt, many, name, number}
use Rattle.sac_ast.specs.Grammar.{Nonterminal, program, function, param, type', statement, if_statement, else_branch, block, assign, expression, disjunction, conjunction, equality, comparison, sum, product, prefix, postfix, primary, generator, bound, index, operation, Rule, Tree, rule, action, V, sign, one_of, chosen, chain, selects, index_of, items, concat, body_or_none, maybe, target, up_to, parts, IsProgram}
use Rattle.sac_ast.specs.View.{exprs_of, block_of, gens_of}
use Rattle.sac_ast.specs.Tree as tree
use Rattle.sac_ast.specs.Tree.{Expr, Exprs, no_exprs, expr_and, Stmt, Block, no_stmts, stmt_and, Gen}
use Rattle.core_source_laws.proofs.printing.Fits.{Fits, FitAll, FitsMaybe, FitsStmt, FitBlock, FitsBound, FitsGen, FitGens, FitsOperation, FitsIndex, FitsTarget, FitsFunction, FitsProgram, FitsParam, FitsType, is_binary, is_prefix, is_foldop}
use Rattle.core_source_laws.proofs.printing.Given.{FitsValue, IsProper, fits_in}

abbrev pub FitsTree : (k : Nonterminal) → Tree k → Type 0
FitsTree program p = FitsProgram p
FitsTree function f = FitsFunction f
FitsTree param p = FitsParam p
FitsTree type' ty = FitsType ty
FitsTree statement ss = FitBlock (block_of ss)
FitsTree if_statement s = FitsStmt s
FitsTree else_branch ss = FitBlock (block_of ss)
FitsTree block ss = FitBlock (block_of ss)
FitsTree assign s = FitsStmt s
FitsTree expression e = Fits e
FitsTree disjunction e = Fits e
FitsTree conjunction e = Fits e
FitsTree equality e = Fits e
FitsTree comparison e = Fits e
FitsTree sum e = Fits e
FitsTree product e = Fits e
FitsTree prefix e = Fits e
FitsTree postfix e = Fits e
FitsTree primary e = Fits e
FitsTree generator g = FitsGen g
FitsTree bound b = FitsBound b
FitsTree index i = FitsIndex i
FitsTree operation o = FitsOperation o

abbrev FV : (s : Rule) → V s → Type 0
FV = FitsValue FitsTree

chained : (o : List ℕ × Op) (ps : List (List ℕ × Op)) (k : (v : V (one_of o ps)) → is_binary (chosen o ps v).0 ≡ true) (e : Expr) (rest : List (V (one_of o ps) × Expr)) → Fits e → AllByRecursion (λ v. FV (one_of o ps) v.0 × Fits v.1) rest → Fits (chain o ps e rest)
chained o ps k e [] h all = h
chained o ps k e (v ∷ rest) h all = chained o ps k _ rest (k v.0, h, all.0.1) all.1

fit_behind : (vs : List (V (seq (sign (codes ",")) (ref expression)))) → AllByRecursion (FV (seq (sign (codes ",")) (ref expression))) vs → FitAll (exprs_of (map (λ p. p.1) vs))
fit_behind [] h = tt
fit_behind (v ∷ vs) h = (h.0.1, fit_behind vs h.1)

fit_index : (s : Site) (v : V (seq (ref expression) (many (seq (sign (codes ",")) (ref expression))))) → FV (seq (ref expression) (many (seq (sign (codes ",")) (ref expression)))) v → Fits (index_of s (items v))
fit_index s (e, []) h = h.0
fit_index s (e, (v ∷ vs)) h = (h.0, fit_behind (v ∷ vs) h.1)

fit_more_stmts : (ss rest : List Stmt) → FitBlock (block_of ss) → FitBlock (block_of rest) → FitBlock (block_of (ss ++ rest))
fit_more_stmts [] rest h k = k
fit_more_stmts (s ∷ ss) rest h k = (h.0, fit_more_stmts ss rest h.1 k)

fit_concat : (vs : List (List Stmt)) → AllByRecursion (λ (ss : List Stmt). FitBlock (block_of ss)) vs → FitBlock (block_of (concat vs))
fit_concat [] h = tt
fit_concat (s ∷ vs) h = fit_more_stmts s (concat vs) h.0 (fit_concat vs h.1)

disjunction_ok : (x : V (one_of (codes "||", Or) [])) → is_binary (chosen (codes "||", Or) [] x).0 ≡ true
disjunction_ok x = refl

conjunction_ok : (x : V (one_of (codes "&&", And) [])) → is_binary (chosen (codes "&&", And) [] x).0 ≡ true
conjunction_ok x = refl

equality_ok : (x : V (one_of (codes "==", Eq) ((codes "!=", Ne) ∷ []))) → is_binary (chosen (codes "==", Eq) ((codes "!=", Ne) ∷ []) x).0 ≡ true
equality_ok (inl x) = refl
equality_ok (inr x) = refl

comparison_ok : (x : V (one_of (codes "<", Lt) ((codes "<=", Le) ∷ (codes ">", Gt) ∷ (codes ">=", Ge) ∷ []))) → is_binary (chosen (codes "<", Lt) ((codes "<=", Le) ∷ (codes ">", Gt) ∷ (codes ">=", Ge) ∷ []) x).0 ≡ true
comparison_ok (inl x) = refl
comparison_ok (inr (inl x)) = refl
comparison_ok (inr (inr (inl x))) = refl
comparison_ok (inr (inr (inr x))) = refl

sum_ok : (x : V (one_of (codes "+", Add) ((codes "-", Sub) ∷ []))) → is_binary (chosen (codes "+", Add) ((codes "-", Sub) ∷ []) x).0 ≡ true
sum_ok (inl x) = refl
sum_ok (inr x) = refl

product_ok : (x : V (one_of (codes "*", Mul) ((codes "/", Div) ∷ (codes "%", Rem) ∷ []))) → is_binary (chosen (codes "*", Mul) ((codes "/", Div) ∷ (codes "%", Rem) ∷ []) x).0 ≡ true
product_ok (inl x) = refl
product_ok (inr (inl x)) = refl
product_ok (inr (inr x)) = refl

prefix_ok : (x : V (one_of (codes "-", Neg) ((codes "!", Not) ∷ []))) → is_prefix (chosen (codes "-", Neg) ((codes "!", Not) ∷ []) x).0 ≡ true
prefix_ok (inl x) = refl
prefix_ok (inr x) = refl

least_ok : (x : V (one_of (codes "min", Min) ((codes "max", Max) ∷ []))) → is_binary (chosen (codes "min", Min) ((codes "max", Max) ∷ []) x).0 ≡ true
least_ok (inl x) = refl
least_ok (inr x) = refl

abbrev assign_rest : List (List ℕ × Op)
assign_rest = (codes "-=", Sub) ∷ (codes "*=", Mul) ∷ (codes "/=", Div) ∷ (codes "%=", Rem) ∷ []

assign_ok : (x : V (one_of (codes "+=", Add) assign_rest)) → is_binary (chosen (codes "+=", Add) assign_rest x).0 ≡ true
assign_ok (inl x) = refl
assign_ok (inr (inl x)) = refl
assign_ok (inr (inr (inl x))) = refl
assign_ok (inr (inr (inr (inl x)))) = refl
assign_ok (inr (inr (inr (inr x)))) = refl

step_ok : (x : V (one_of (codes "++", Add) ((codes "--", Sub) ∷ []))) → is_binary (chosen (codes "++", Add) ((codes "--", Sub) ∷ []) x).0 ≡ true
step_ok (inl x) = refl
step_ok (inr x) = refl

abbrev fold_rest : List (List ℕ × Op)
fold_rest = (codes "*", Mul) ∷ (codes "min", Min) ∷ (codes "max", Max) ∷ (codes "&&", And) ∷ (codes "||", Or) ∷ []

fold_ok : (x : V (one_of (codes "+", Add) fold_rest)) → is_foldop (chosen (codes "+", Add) fold_rest x).0 ≡ true
fold_ok (inl x) = refl
fold_ok (inr (inl x)) = refl
fold_ok (inr (inr (inl x))) = refl
fold_ok (inr (inr (inr (inl x)))) = refl
fold_ok (inr (inr (inr (inr (inl x))))) = refl
fold_ok (inr (inr (inr (inr (inr x))))) = refl

abbrev IndexRule : Rule
IndexRule = seq (sign (codes "[")) (seq (seq (ref expression) (many (seq (sign (codes ",")) (ref expression)))) (sign (codes "]")))

selected : (e : Expr) (rest : List (V IndexRule)) → Fits e → AllByRecursion (FV IndexRule) rest → Fits (selects e rest)
selected e [] h all = h
selected e ((t, (v, u)) ∷ rest) h all = selected _ rest (h, fit_index t.site v all.0.1.0) all.1

fit_targets : (vs : List (Lexeme × Lexeme)) → AllByRecursion (FV (seq (sign (codes ",")) (term name))) vs → AllByRecursion FitsTarget (map (λ p. target p.1) vs)
fit_targets [] h = tt
fit_targets (v ∷ vs) h = (h.0.1, fit_targets vs h.1)

fit_items : (vs : List (Lexeme × Lexeme)) → AllByRecursion (FV (seq (sign (codes ",")) (term name))) vs → AllByRecursion FitsTarget (map target (map (λ p. p.1) vs))
fit_items [] h = tt
fit_items (v ∷ vs) h = (h.0.1, fit_items vs h.1)

fit_types : (vs : List (Lexeme × ArrayType)) → AllByRecursion (FV (seq (sign (codes ",")) (ref type'))) vs → AllByRecursion FitsType (map (λ p. p.1) vs)
fit_types [] h = tt
fit_types (v ∷ vs) h = (h.0.1, fit_types vs h.1)

fit_params : (vs : List (Lexeme × Param)) → AllByRecursion (FV (seq (sign (codes ",")) (ref param))) vs → AllByRecursion FitsParam (map (λ p. p.1) vs)
fit_params [] h = tt
fit_params (v ∷ vs) h = (h.0.1, fit_params vs h.1)

fit_gens : (gs : List Gen) → AllByRecursion FitsGen gs → FitGens (gens_of gs)
fit_gens [] h = tt
fit_gens (g ∷ gs) h = (h.0, fit_gens gs h.1)

some_dots : (k : ℕ) (v : V (up_to k (sign (codes ".")))) → (1 ≤ length (parts k (sign (codes ".")) v)) × (length (parts k (sign (codes ".")) v) ≤ suc k)
some_dots zero v = (omega arith, omega arith)
some_dots (suc k) (v, inl w) = let h = some_dots k w.1 in (omega arith, let b = h.1 in omega arith)
some_dots (suc k) (v, inr u) = (omega arith, omega arith)

abbrev extents : (k : ℕ) → V (up_to k (term number)) → List ℕ
extents k v = map (λ (t : Lexeme). digits_value 10 t.text) (parts k (term number) v)

some_extents : (k : ℕ) (v : V (up_to k (term number))) → FV (up_to k (term number)) v → (length (extents k v) ≤ suc k) × AllByRecursion (λ n. n < 2 ^ 31) (extents k v)
some_extents zero v h = (omega arith, (h, tt))
some_extents (suc k) (v, inl w) h = let r = some_extents k w.1 h.1.1 in ((let b = r.0 in omega arith), (h.0, r.1))
some_extents (suc k) (v, inr u) h = (omega arith, (h.0, tt))

fit_maybe : (word : List ℕ) (v : V (alt (seq (sign word) (ref sum)) nothing)) → FV (alt (seq (sign word) (ref sum)) nothing) v → FitsMaybe (maybe v)
fit_maybe word (inl v) h = h.1
fit_maybe word (inr u) h = tt

fit_body : (v : V (alt (ref block) nothing)) → FV (alt (ref block) nothing) v → FitBlock (block_of (body_or_none v))
fit_body (inl b) h = h
fit_body (inr u) h = tt

pub acts : (k : Nonterminal) (v : V (rule k)) → FV (rule k) v → FitsTree k (action k v)
acts program (fs, e) h = h.0
acts function (i, (ts, (n, ((_, (inl ps, _)), (_, (b, (r, ((_, (vs, _)), _)))))))) h = record { results = (h.1.0.0, fit_types ts.1 h.1.0.1); name = h.1.1.0; params = (h.1.1.1.0.1.0.0, fit_params ps.1 h.1.1.1.0.1.0.1); body = fit_concat b h.1.1.1.1.1.0; values = (h.1.1.1.1.1.1.1.0.1.0.0, fit_behind vs.1 h.1.1.1.1.1.1.1.0.1.0.1) }
acts function (i, (ts, (n, ((_, (inr ps, _)), (_, (b, (r, ((_, (vs, _)), _)))))))) h = record { results = (h.1.0.0, fit_types ts.1 h.1.0.1); name = h.1.1.0; params = tt; body = fit_concat b h.1.1.1.1.1.0; values = (h.1.1.1.1.1.1.1.0.1.0.0, fit_behind vs.1 h.1.1.1.1.1.1.1.0.1.0.1) }
acts param (t, n) h = (h.0, h.1)
acts type' (b, inl (l, (inl (inl t), r))) h = tt
acts type' (b, inl (l, (inl (inr (inl t)), r))) h = tt
acts type' (b, inl (l, (inl (inr (inr (inl v))), r))) h = some_dots 7 v
acts type' (b, inl (l, (inl (inr (inr (inr v))), r))) h = some_extents 7 v h.1.1.0
acts type' (b, inl (l, (inr u, r))) h = (omega arith, tt)
acts type' (b, inr u) h = (omega arith, tt)
acts statement (inl (a, _)) h = (h.0, tt)
acts statement (inr (inl s)) h = (h, tt)
acts statement (inr (inr (inl (w, ((_, (c, _)), b))))) h = ((h.1.0.1.0, h.1.1), tt)
acts statement (inr (inr (inr (inl (d, (b, (w, ((_, (c, _)), _)))))))) h = ((h.1.0, h.1.1.1.0.1.0), tt)
acts statement (inr (inr (inr (inr (f, ((_, ((a, (_, (c, (_, s)))), _)), b)))))) h = (h.1.0.1.0.0, ((h.1.0.1.0.1.1.0, fit_more_stmts b (s ∷ []) h.1.1 (h.1.0.1.0.1.1.1.1, tt)), tt))
acts if_statement (i, ((_, (c, _)), (b, inl e))) h = (h.1.0.1.0, h.1.1.0, h.1.1.1.1)
acts if_statement (i, ((_, (c, _)), (b, inr e))) h = (h.1.0.1.0, h.1.1.0, tt)
acts else_branch (inl b) h = h
acts else_branch (inr s) h = (h, tt)
acts block (_, (ss, _)) h = fit_concat ss h.1.0
acts assign (n, inl (ns, (_, e))) h = ((h.0, fit_targets ns h.1.0), h.1.1.1)
acts assign (n, inr (inl (l, (v, (_, (_, e)))))) h = (h.0, fit_index l.site v h.1.1.0, h.1.1.1.1.1)
acts assign (n, inr (inr (inl (o, e)))) h = ((h.0, tt), (assign_ok o, h.0, h.1.1))
acts assign (n, inr (inr (inr o))) h = ((h.0, tt), (step_ok o, h.0, (omega arith)))
acts expression (c, inl (q, (a, (_, b)))) h = (h.0, h.1.1.0, h.1.1.1.1)
acts expression (c, inr u) h = h.0
acts disjunction (e, rest) h = chained (codes "||", Or) [] disjunction_ok e rest h.0 h.1
acts conjunction (e, rest) h = chained (codes "&&", And) [] conjunction_ok e rest h.0 h.1
acts equality (e, rest) h = chained (codes "==", Eq) ((codes "!=", Ne) ∷ []) equality_ok e rest h.0 h.1
acts comparison (e, rest) h = chained (codes "<", Lt) ((codes "<=", Le) ∷ (codes ">", Gt) ∷ (codes ">=", Ge) ∷ []) comparison_ok e rest h.0 h.1
acts sum (e, rest) h = chained (codes "+", Add) ((codes "-", Sub) ∷ []) sum_ok e rest h.0 h.1
acts product (e, rest) h = chained (codes "*", Mul) ((codes "/", Div) ∷ (codes "%", Rem) ∷ []) product_ok e rest h.0 h.1
acts prefix (inr e) h = h
acts prefix (inl (o, e)) h = (prefix_ok o, h.1)
acts postfix (e, rest) h = selected e rest h.0 h.1
acts primary (inl t) h = h
acts primary (inr (inl t)) h = tt
acts primary (inr (inr (inl t))) h = tt
acts primary (inr (inr (inr (inl (t, inl (l, (inl es, r))))))) h = (h.0, (h.1.1.0.0, fit_behind es.1 h.1.1.0.1))
acts primary (inr (inr (inr (inl (t, inl (l, (inr es, r))))))) h = (h.0, tt)
acts primary (inr (inr (inr (inl (t, inr v))))) h = h.0
acts primary (inr (inr (inr (inr (inl (inl t, (_, (e, _)))))))) h = (refl, (h.1.1.0, tt))
acts primary (inr (inr (inr (inr (inl (inr t, (_, (e, _)))))))) h = (refl, (h.1.1.0, tt))
acts primary (inr (inr (inr (inr (inr (inl (t, (_, ((a, (_, b)), _))))))))) h = (refl, (h.1.1.0.0, (h.1.1.0.1.1, tt)))
acts primary (inr (inr (inr (inr (inr (inr (inl (o, (_, ((a, (_, b)), _)))))))))) h = (least_ok o, h.1.1.0.0, h.1.1.0.1.1)
acts primary (inr (inr (inr (inr (inr (inr (inr (inl (_, (e, _)))))))))) h = h.1.0
acts primary (inr (inr (inr (inr (inr (inr (inr (inr (inl (l, (inl es, _))))))))))) h = (h.1.0.0, fit_behind es.1 h.1.0.1)
acts primary (inr (inr (inr (inr (inr (inr (inr (inr (inl (l, (inr es, _))))))))))) h = tt
acts primary (inr (inr (inr (inr (inr (inr (inr (inr (inr (w, (_, (gs, (_, (_, o)))))))))))))) h = (fit_gens gs h.1.1.0, h.1.1.1.1.1)
acts generator ((l, ((low, (lc, (i, (uc, (up, (s, w)))))), _)), (b, (_, (e, _)))) h =
    let k = h.0.1.0 in (k.0, k.1.1.0, k.1.1.1.1.0, fit_maybe (codes "step") s k.1.1.1.1.1.0, fit_maybe (codes "width") w k.1.1.1.1.1.1, fit_body b h.1.0, h.1.1.1.0)
acts bound (inl t) h = tt
acts bound (inr e) h = h
acts index (inl t) h = h
acts index (inr (_, (v, _))) h = (h.1.0.0, fit_items v.1 h.1.0.1)
acts operation (inl (t, (_, ((e, inl d), _)))) h = (h.1.1.0.0, h.1.1.0.1.1)
acts operation (inl (t, (_, ((e, inr d), _)))) h = (h.1.1.0.0, tt)
acts operation (inr (inl (t, (_, (e, _))))) h = h.1.1.0
acts operation (inr (inr (t, (_, ((o, (_, e)), _))))) h = (fold_ok o, h.1.1.0.1.1)

-- the tree of tokens whose numbers are within the limit fits
pub every_tree_fits : (p : tree.ProgramTree) (ts : List Lexeme) → AllByRecursion IsProper ts → IsProgram ts p → FitsProgram p
every_tree_fits p ts small d = fits_in FitsTree acts d.0 program ts p small d.1
