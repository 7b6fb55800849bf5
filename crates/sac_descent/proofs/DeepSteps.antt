-- Steps of phrases with parts that stand one node deeper.
use Rattle.std.proofs.Common.{ℕ, zero, suc, ◌≡◌, ◌<◌, ◌≤◌, ◌+◌, Bool, true, List, ◌∷◌, ◌++◌, inl, inr, Result, Ok, Err, refl, sym, ap, ◌∙◌, subst, codes, arith, Bor}
use Rattle.std.specs.Global.{Box}
use Rattle.sac_lex.specs.declared.token.Token.{Token}
use Rattle.sac_base.specs.declared.op.Op.{Op}
use Rattle.sac_base.specs.declared.site.Site.{Site}
use Rattle.sac_ast.specs.Texts.{Lexeme}
use Rattle.sac_ast.specs.Shape.{text, nothing, term, ref, seq, alt, many}
use Rattle.sac_ast.specs.Grammar.{Nonterminal, Tree, Rule, V, rule, action, one_of, chain, selects, index_of, items, sign, listed, opt}
use Rattle.sac_ast.specs.Grammar.{expression, disjunction, conjunction, equality, comparison, sum, product, prefix, postfix, primary}
use Rattle.sac_ast.specs.Heights.{height}
use Rattle.sac_ast.specs.Tree as tree
use Rattle.sac_ast.specs.Tree.{Expr}
use Rattle.sac_ast.specs.declared.Expression.{Expression}
use Rattle.sac_grammar.specs.Run.{starts, first, SameFirst, Runs, RunsIn}
use Rattle.sac_grammar.specs.Tables.{first_of, ext_of, rank_of}
use Rattle.sac_grammar.specs.High.{HasHigh}
use Rattle.sac_grammar.specs.Limits.{Over, High, gap_of, least_parts}
use Rattle.sac_grammar.specs.Parsing.{Found, Stop, stuck, high, StopsAt, StopsIn, StopsSo, Halted, Halts, HaltsSo, nth, inject, is_apart}
use Rattle.sac_grammar.proofs.Machine.{false_true, starts_same}
use Rattle.sac_grammar.proofs.High.{tall_before, tall_rule}
use Rattle.sac_grammar.proofs.Levels.{fails_rule}
use Rattle.sac_grammar.proofs.Grows.{in_parens}
use Rattle.sac_grammar.proofs.Parsing.{read_nth, read_ref, stop_ref}
use Rattle.sac_grammar.proofs.Table.{table}
use Rattle.sac_grammar.proofs.TallParts.{HasNext, tall_here, tall_left, tall_right, tall_phrase, so_of, so_map, so_right, so_nth, so_second, so_parts, so_phrase}
use Rattle.sac_grammar.proofs.Deeper.{Deeper, chain_deeper, primary_least}
use Rattle.sac_phrases.specs.declared.halt.Halt.{Halt}
use Rattle.sac_phrases.specs.declared.halt.Halt.TheVariants.{High as TooHigh}
use Rattle.sac_phrases.specs.declared.level.Level.{Level}
use Rattle.sac_phrases.specs.declared.level.Level.TheVariants.{Disjunction, Conjunction, Equality, Comparison, Sum, Product}
use Rattle.sac_phrases.specs.declared.place.Place.{Place}
use Rattle.sac_phrases.specs.declared.place.Measured.{Measured}
use Rattle.sac_phrases.specs.Contract.{StopOf, lexemes_of, IsLowAt, IsPartAt, IsNodeAt, unboxed}
use Rattle.sac_phrases.specs.Levels.{first_operator, more_operators, IsLevelAt, IsOperandAt}
use Rattle.sac_phrases.specs.Parts.{IsPrimary, IsPrimaryOf}
use Rattle.sac_phrases.proofs.Steps.{At, TheOperator, NoneBefore, last, into, operator_found, high_halted, token_read, starts_there, part_last}
use Rattle.sac_descent.specs.Around.{IndexOver}
use Rattle.sac_descent.proofs.Chains.{Chain, starts_part}
use Rattle.sac_descent.proofs.LevelSteps.{LevelSoFar, IsNext}
use Rattle.sac_descent.proofs.ListSteps.{Bracketed, PostRead, selects_append, selects_first}
use Rattle.sac_descent.proofs.PhraseSteps.{IsInside}

-- ---- heights

-- what is low one node deeper is low
pub low_weaker : (place inner : Place) (n k : ℕ) → IsInside place inner → IsLowAt inner n k → IsLowAt place n k
low_weaker place inner n k i low c = let h = low (i.checked ∙ c) in let a = h.1 in let d = i.depth c in (h.0, omega arith)

over_same : (d n m : ℕ) → n ≡ m → 99 < d + (n + 1) → 99 < d + (m + 1)
over_same d n m e h = omega arith

-- ---- stops

module _ {P : Stop → Type 0} {checked : Bool} where
  pub so_left : {a b : Rule} {G : V a → Type 0} {ts : List Lexeme} → HaltsSo P checked a G ts → HaltsSo P checked (seq a b) (λ w. G w.0) ts
  so_left {a} {b} {G} {ts} h = record { at = λ x p. at x (h.at x p); only = h.only }
    where
      at : (x : Stop) → StopsSo a G ts x → StopsSo (seq a b) (λ w. G w.0) ts x
      at (stuck r) s = inl s
      at (high r) t = tall_left t

  pub so_last : (n : ℕ) (s : Rule) (G : V (last n s) → Type 0) (ts : List Lexeme) → NoneBefore n s ts → HaltsSo P checked (last n s) G ts → HaltsSo P checked s (λ w. (x : V (last n s)) × (w ≡ into n s x) × G x) ts
  so_last zero s G ts none h = so_map (λ c w g. (w, refl, g)) h
  so_last (suc n) (alt a b) G ts none h = so_map (λ c w g. (g.2.0, g.1 ∙ ap inr g.2.1, g.2.2)) (so_second none.0 (so_last n b G ts none.1 h))
  so_last (suc n) nothing G ts none h = so_map (λ c w g. (w, refl, g)) h
  so_last (suc n) (term t) G ts none h = so_map (λ c w g. (w, refl, g)) h
  so_last (suc n) (ref k) G ts none h = so_map (λ c w g. (w, refl, g)) h
  so_last (suc n) (seq a b) G ts none h = so_map (λ c w g. (w, refl, g)) h
  so_last (suc n) (many a) G ts none h = so_map (λ c w g. (w, refl, g)) h

  -- a phrase all of whose parts stand one node deeper
  pub stops_deep : {d e : ℕ} {k : Nonterminal} {ts : List Lexeme} → ((v : V (rule k)) → HasHigh Tree first_of (λ (j : Nonterminal). High e j) (rule k) v → High d k (action k v)) → Halts P checked (λ _. e) (rule k) ts → Halted P checked d k ts
  stops_deep {d} {e} {k} {ts} grows h = record { at = λ x p. at x (h.at x p); only = h.only }
    where
      at : (x : Stop) → StopsIn (λ (j : Nonterminal). e) (rule k) ts x → StopsAt d k ts x
      at (stuck r) s = fails_rule Tree first_of rule action k ts r s
      at (high r) s = tall_rule Tree first_of ext_of rank_of rule action table gap_of (λ (j : Nonterminal). High e j) k (High d k) grows ts r s

-- ---- primary expressions

abbrev HighAt : ℕ → (s : Rule) → V s → Type 0
HighAt e = HasHigh Tree first_of (λ (j : Nonterminal). High e j)

-- one alternative, which is read at another place
pub node_nth : (place inner : Place) (n : ℕ) (ts : List Lexeme) (result : Result (Measured (Box Expression) × Bor (List Token)) Halt) → is_apart n (rule primary) ≡ true → starts (first first_of (nth n (rule primary))) ts ≡ true → inner.checked ≡ place.checked → ((v : V (nth n (rule primary))) → HighAt inner.depth (nth n (rule primary)) v → High place.depth primary (action primary (inject n (rule primary) v))) → IsPartAt inner (nth n (rule primary)) (IsPrimary inner n) ts result → IsNodeAt place primary (IsPrimaryOf place) ts result
node_nth place inner n ts (Ok x) apart so c f (v, r, m) = (inject n (rule primary) v, read_nth n (rule primary) apart so r, record { tree = m.tree; tall = λ k. m.tall (c ∙ k) })
node_nth place inner n ts (Err e) apart so c f h =
    so_phrase refl (λ k w g. subst (λ (u : V (rule primary)). High place.depth primary (action primary u)) (sym g.1) (f g.0 g.2))
    (so_nth n (rule primary) (HighAt inner.depth (nth n (rule primary))) apart so (so_of (subst (λ b. Halts (StopOf e) b (λ _. inner.depth) (nth n (rule primary)) ts) c h)))

-- the last one
pub node_last : (place inner : Place) (ts : List Lexeme) (result : Result (Measured (Box Expression) × Bor (List Token)) Halt) → NoneBefore 9 (rule primary) ts → inner.checked ≡ place.checked → ((v : V (nth 9 (rule primary))) → HighAt inner.depth (nth 9 (rule primary)) v → High place.depth primary (action primary (inject 9 (rule primary) v))) → IsPartAt inner (nth 9 (rule primary)) (IsPrimary inner 9) ts result → IsNodeAt place primary (IsPrimaryOf place) ts result
node_last place inner ts (Ok x) none c f (v, r, m) = part_last place 9 (rule primary) (IsPrimaryOf place) ts (Ok x) none (v, r, record { tree = m.tree; tall = λ k. m.tall (c ∙ k) })
node_last place inner ts (Err e) none c f h =
    so_phrase refl (λ k w g. subst (λ (u : V (rule primary)). High place.depth primary (action primary u)) (sym g.1) (f g.0 g.2))
    (so_last 9 (rule primary) (HighAt inner.depth (nth 9 (rule primary))) ts none (so_of (subst (λ b. Halts (StopOf e) b (λ _. inner.depth) (nth 9 (rule primary)) ts) c h)))

pub parens_same : (d : ℕ) (v : V (nth 7 (rule primary))) → HighAt d (nth 7 (rule primary)) v → High d primary (action primary (inject 7 (rule primary) v))
parens_same d (l, (e, r)) h = in_parens d h

over_least : (d m n k : ℕ) → m ≡ n → 99 < d + (m + 1) → n < k → 99 < d + k
over_least d m n k e h g = omega arith

-- before a word, with which each expression is too high
pub primary_high : (place : Place) (tokens : Bor (List Token)) (n : ℕ) → n ≡ least_parts (lexemes_of tokens.now) → (place.checked ≡ true) × (99 < place.depth + (n + 1)) → Halted (StopOf (TooHigh tokens)) place.checked place.depth primary (lexemes_of tokens.now)
primary_high place tokens n is h =
    let ts = lexemes_of tokens.now in
    high_halted tokens (tall_before Tree first_of ext_of rank_of rule action table primary (High place.depth primary) ts (λ m q v z e r. over_least place.depth n (least_parts ts) (height v) is h.1 (primary_least m ts q v z e r))) h.0

-- ---- selections

select_deep : (d e : ℕ) → Deeper d e → (array index whole : Expr) (s : Site) → Over e (height index) → height (tree.select array index s) ≤ height whole → Over d (height whole)
select_deep d e up array index whole s h g = let k = up (height index) h in omega arith

postfix_deep : (d e : ℕ) → Deeper d e → (vs : List (V Bracketed)) (w : V (rule postfix)) → HasNext Bracketed (λ t. IndexOver e t.1.0) vs w.1 → High d postfix (action postfix w)
postfix_deep d e up vs (x, ws) ((l, (v, r)), us, is, h) =
    let array = selects x vs in
    let index = index_of l.site (items v) in
    let whole = selects array ((l, (v, r)) ∷ us) in
    subst (λ y. Over d (height y)) (sym (ap (selects x) is ∙ selects_append x vs ((l, (v, r)) ∷ us)))
    (select_deep d e up array index whole l.site (h l.site) (selects_first (tree.select array index l.site) us))

-- an index that is too high
pub index_stop : (place inner : Place) (ts : List Lexeme) (array : Expr) (rest : List Lexeme) (t : Lexeme) (behind : List Lexeme) (e : Halt) → inner.checked ≡ place.checked → Deeper place.depth inner.depth → PostRead ts array rest → At (text (codes "[")) rest t behind → HaltsSo (StopOf e) inner.checked (listed (ref expression)) (IndexOver inner.depth) behind → Halted (StopOf e) place.checked place.depth postfix ts
index_stop place inner ts array rest t behind e c up p open' h =
    so_phrase refl (λ k w g. postfix_deep place.depth inner.depth up p.tail w (g.1.0, g.1.1, g.1.2, g.1.3.1))
    (so_right p.begins (so_parts p.goes_on (starts_there (text (codes "[")) open') (so_right (token_read open') (so_left (subst (λ b. HaltsSo (StopOf e) b (listed (ref expression)) (IndexOver inner.depth) behind) c h)))))

-- ---- operands

abbrev Pairs : List ℕ × Op → List (List ℕ × Op) → Type 0
Pairs o ps = List (V (one_of o ps) × Expr)

chain_high_at : (d e : ℕ) → Deeper d e → (o : List ℕ × Op) (ps : List (List ℕ × Op)) (x : Expr) (ws vs : Pairs o ps) → (t : V (one_of o ps) × Expr) (us : Pairs o ps) → ws ≡ vs ++ (t ∷ us) → Over e (height t.1) → Over d (height (chain o ps x ws))
chain_high_at d e up o ps x ws vs t us is h = subst (λ l. Over d (height (chain o ps x l))) (sym is) (chain_deeper d e up o ps x vs t us h)

-- a phrase with so many nodes around it stops
pub operand_so : {P : Stop → Type 0} {checked : Bool} (e : ℕ) (k : Nonterminal) (ts : List Lexeme) → Halted P checked e k ts → HaltsSo P checked (ref k) (HighAt e (ref k)) ts
operand_so {P} {checked} e k ts h = so_of at
  where
    at : Halts P checked (λ (j : Nonterminal). e) (ref k) ts
    at = stop_ref h

-- the next operand of a chain stops
chain_so : {P : Stop → Type 0} {checked : Bool} (o : List ℕ × Op) (ps : List (List ℕ × Op)) (a : Rule) (see : V a → Expr) (G : V a → Type 0) {ts rest behind : List Lexeme} {left : Expr} {x : Op × Site} (c : Chain o ps a see ts left rest) → TheOperator o ps rest x behind → HaltsSo P checked a G behind → HaltsSo P checked (seq a (many (seq (one_of o ps) a))) (λ w. HasNext (seq (one_of o ps) a) (λ u. G u.1) c.tail w.1) ts
chain_so o ps a see G c f h =
    so_map (λ k w g. (g.1.0, g.1.1, g.1.2, g.1.3.1))
    (so_right c.begins (so_parts c.goes_on (starts_part o ps a see f) (so_right f.reads h)))

disjunction_deep : (d e : ℕ) → Deeper d e → (vs : Pairs (first_operator Disjunction) (more_operators Disjunction)) (w : V (rule disjunction)) → HasNext (seq (one_of (first_operator Disjunction) (more_operators Disjunction)) (ref conjunction)) (λ u. HighAt e (ref conjunction) u.1) vs w.1 → High d disjunction (action disjunction w)
disjunction_deep d e up vs (x, ws) (t, us, is, h) = chain_high_at d e up (first_operator Disjunction) (more_operators Disjunction) x ws vs t us is h

conjunction_deep : (d e : ℕ) → Deeper d e → (vs : Pairs (first_operator Conjunction) (more_operators Conjunction)) (w : V (rule conjunction)) → HasNext (seq (one_of (first_operator Conjunction) (more_operators Conjunction)) (ref equality)) (λ u. HighAt e (ref equality) u.1) vs w.1 → High d conjunction (action conjunction w)
conjunction_deep d e up vs (x, ws) (t, us, is, h) = chain_high_at d e up (first_operator Conjunction) (more_operators Conjunction) x ws vs t us is h

equality_deep : (d e : ℕ) → Deeper d e → (vs : Pairs (first_operator Equality) (more_operators Equality)) (w : V (rule equality)) → HasNext (seq (one_of (first_operator Equality) (more_operators Equality)) (ref comparison)) (λ u. HighAt e (ref comparison) u.1) vs w.1 → High d equality (action equality w)
equality_deep d e up vs (x, ws) (t, us, is, h) = chain_high_at d e up (first_operator Equality) (more_operators Equality) x ws vs t us is h

comparison_deep : (d e : ℕ) → Deeper d e → (vs : Pairs (first_operator Comparison) (more_operators Comparison)) (w : V (rule comparison)) → HasNext (seq (one_of (first_operator Comparison) (more_operators Comparison)) (ref sum)) (λ u. HighAt e (ref sum) u.1) vs w.1 → High d comparison (action comparison w)
comparison_deep d e up vs (x, ws) (t, us, is, h) = chain_high_at d e up (first_operator Comparison) (more_operators Comparison) x ws vs t us is h

sum_deep : (d e : ℕ) → Deeper d e → (vs : Pairs (first_operator Sum) (more_operators Sum)) (w : V (rule sum)) → HasNext (seq (one_of (first_operator Sum) (more_operators Sum)) (ref product)) (λ u. HighAt e (ref product) u.1) vs w.1 → High d sum (action sum w)
sum_deep d e up vs (x, ws) (t, us, is, h) = chain_high_at d e up (first_operator Sum) (more_operators Sum) x ws vs t us is h

product_deep : (d e : ℕ) → Deeper d e → (vs : Pairs (first_operator Product) (more_operators Product)) (w : V (rule product)) → HasNext (seq (one_of (first_operator Product) (more_operators Product)) (ref prefix)) (λ u. HighAt e (ref prefix) u.1) vs w.1 → High d product (action product w)
product_deep d e up vs (x, ws) (t, us, is, h) = chain_high_at d e up (first_operator Product) (more_operators Product) x ws vs t us is h

pub level_deep : (level : Level) (place inner : Place) (ts : List Lexeme) (left : Expr) (rest : List Lexeme) (op : Op) (site : Site) (behind : Bor (List Token)) (e : Halt) → inner.checked ≡ place.checked → Deeper place.depth inner.depth → LevelSoFar level ts left rest → IsNext level rest op site behind → IsOperandAt level inner (lexemes_of behind.now) (Err e) → IsLevelAt level place ts (Err e)
level_deep Disjunction place inner ts left rest op site behind e k up c n h =
    so_phrase refl (λ q w g. disjunction_deep place.depth inner.depth up c.tail w g)
    (chain_so (first_operator Disjunction) (more_operators Disjunction) (ref conjunction) (λ (x : Expr). x) (HighAt inner.depth (ref conjunction)) c (operator_found (first_operator Disjunction) (more_operators Disjunction) n.0 n.1.1)
    (operand_so inner.depth conjunction (lexemes_of behind.now) (subst (λ b. Halted (StopOf e) b inner.depth conjunction (lexemes_of behind.now)) k h)))
level_deep Conjunction place inner ts left rest op site behind e k up c n h =
    so_phrase refl (λ q w g. conjunction_deep place.depth inner.depth up c.tail w g)
    (chain_so (first_operator Conjunction) (more_operators Conjunction) (ref equality) (λ (x : Expr). x) (HighAt inner.depth (ref equality)) c (operator_found (first_operator Conjunction) (more_operators Conjunction) n.0 n.1.1)
    (operand_so inner.depth equality (lexemes_of behind.now) (subst (λ b. Halted (StopOf e) b inner.depth equality (lexemes_of behind.now)) k h)))
level_deep Equality place inner ts left rest op site behind e k up c n h =
    so_phrase refl (λ q w g. equality_deep place.depth inner.depth up c.tail w g)
    (chain_so (first_operator Equality) (more_operators Equality) (ref comparison) (λ (x : Expr). x) (HighAt inner.depth (ref comparison)) c (operator_found (first_operator Equality) (more_operators Equality) n.0 n.1.1)
    (operand_so inner.depth comparison (lexemes_of behind.now) (subst (λ b. Halted (StopOf e) b inner.depth comparison (lexemes_of behind.now)) k h)))
level_deep Comparison place inner ts left rest op site behind e k up c n h =
    so_phrase refl (λ q w g. comparison_deep place.depth inner.depth up c.tail w g)
    (chain_so (first_operator Comparison) (more_operators Comparison) (ref sum) (λ (x : Expr). x) (HighAt inner.depth (ref sum)) c (operator_found (first_operator Comparison) (more_operators Comparison) n.0 n.1.1)
    (operand_so inner.depth sum (lexemes_of behind.now) (subst (λ b. Halted (StopOf e) b inner.depth sum (lexemes_of behind.now)) k h)))
level_deep Sum place inner ts left rest op site behind e k up c n h =
    so_phrase refl (λ q w g. sum_deep place.depth inner.depth up c.tail w g)
    (chain_so (first_operator Sum) (more_operators Sum) (ref product) (λ (x : Expr). x) (HighAt inner.depth (ref product)) c (operator_found (first_operator Sum) (more_operators Sum) n.0 n.1.1)
    (operand_so inner.depth product (lexemes_of behind.now) (subst (λ b. Halted (StopOf e) b inner.depth product (lexemes_of behind.now)) k h)))
level_deep Product place inner ts left rest op site behind e k up c n h =
    so_phrase refl (λ q w g. product_deep place.depth inner.depth up c.tail w g)
    (chain_so (first_operator Product) (more_operators Product) (ref prefix) (λ (x : Expr). x) (HighAt inner.depth (ref prefix)) c (operator_found (first_operator Product) (more_operators Product) n.0 n.1.1)
    (operand_so inner.depth prefix (lexemes_of behind.now) (subst (λ b. Halted (StopOf e) b inner.depth prefix (lexemes_of behind.now)) k h)))

-- ---- conditional expressions

abbrev Branches : Rule
Branches = seq (sign (codes "?")) (seq (ref expression) (seq (sign (codes ":")) (ref expression)))

abbrev IsThere : V (opt Branches) → Type 0
IsThere (inl x) = Unit {0}
IsThere (inr u) = ⊥

there : (ts : List Lexeme) → starts (first first_of Branches) ts ≡ true → (n : ℕ) (q : List Lexeme) (v : V (opt Branches)) (z : List Lexeme) → SameFirst ts q → Runs Tree first_of (RunsIn Tree first_of rule action n) (opt Branches) q v z → IsThere v
there ts s n q (inl x) z e d = tt
there ts s n q (inr u) z e d = false_true (sym d.0 ∙ sym (starts_same (first first_of Branches) ts q e) ∙ s)

choice_deep : (d : ℕ) (c : Expr) → 99 < d + (height c + 1) → (w : V (rule expression)) → (w.0 ≡ c) × IsThere w.1 → High d expression (action expression w)
choice_deep d c over (x, inl (q, (a, (k, b)))) (is, t) = let e : height x ≡ height c = ap height is in omega arith
choice_deep d c over (x, inr u) (is, t) = absurd t

-- before a `?`, with which each expression is too high
pub choice_high : (place : Place) (ts : List Lexeme) (x : Measured (Box Expression)) (rest : Bor (List Token)) (q : Lexeme) (behind : List Lexeme) → Found disjunction ts (unboxed x.tree) (lexemes_of rest.now) × IsLowAt place x.height (height (unboxed x.tree)) → At (text (codes "?")) (lexemes_of rest.now) q behind → (place.checked ≡ true) × (99 < place.depth + (x.height + 1)) → Halted (StopOf (TooHigh rest)) place.checked place.depth expression ts
choice_high place ts x rest q behind f s h =
    let over = over_same place.depth x.height (height (unboxed x.tree)) (f.1 h.0).0 h.1 in
    high_halted rest
    (tall_phrase (High place.depth expression) (choice_deep place.depth (unboxed x.tree) over)
    (tall_right (read_ref f.0) (tall_here (opt Branches) IsThere (lexemes_of rest.now) (there (lexemes_of rest.now) (starts_there (text (codes "?")) s)))))
    h.0
