-- Steps of the functions on expressions: what they have read.
use Rattle.std.proofs.Common.{ℕ, zero, suc, ◌≡◌, ◌<◌, ◌≤◌, ◌+◌, max, Bool, true, false, List, [], ◌∷◌, inl, inr, Result, Ok, Err, refl, sym, ap, ◌∙◌, subst, map, codes, arith, Bor, Some, None}
use Rattle.std.specs.Global.{Vec, Box}
use Rattle.sac_lex.specs.declared.token.Token.{Token}
use Rattle.sac_base.specs.declared.op.Op.{Op}
use Rattle.sac_base.specs.declared.op.Op.TheVariants.{Min, Max, Neg, Not}
use Rattle.sac_base.specs.declared.site.Site.{Site}
use Rattle.sac_ast.specs.declared.Builtin.{Builtin}
use Rattle.sac_ast.specs.declared.Builtin.TheVariants as built
use Rattle.sac_ast.specs.declared.Target.{Target}
use Rattle.sac_ast.specs.declared.Expression.{Expression}
use Rattle.sac_ast.specs.declared.Generator.{Generator}
use Rattle.sac_ast.specs.declared.Operation.{Operation}
use Rattle.sac_ast.specs.Texts.{Lexeme}
use Rattle.sac_ast.specs.Shape.{Terminal, text, name, nothing, ref, seq, alt, many}
use Rattle.sac_ast.specs.Grammar.{Nonterminal, Tree, V, rule, action, sign, listed, opt, parens, items, maybe_items, one_of, chosen, target, expression, disjunction, prefix, postfix, primary, generator, operation}
use Rattle.sac_ast.specs.Heights.{height, heights, gens_height, operation_height}
use Rattle.sac_ast.specs.Tree as tree
use Rattle.sac_ast.specs.Tree.{Expr}
use Rattle.sac_ast.specs.View as View
use Rattle.sac_ast.specs.View.{exprs_of, gens_of}
use Rattle.sac_grammar.specs.Run.{starts, first, SameFirst, RunsIn}
use Rattle.sac_grammar.specs.Tables.{first_of, ext_of, rank_of}
use Rattle.sac_grammar.specs.Limits.{High}
use Rattle.sac_grammar.specs.Parsing.{Found, Reading, Stop, Halts, Halted, nth}
use Rattle.sac_grammar.proofs.Machine.{false_true}
use Rattle.sac_grammar.proofs.High.{tall_before}
use Rattle.sac_grammar.proofs.Table.{table}
use Rattle.sac_grammar.proofs.Parsing.{stop_agree, read_ref, read_then, read_first, read_second, read_none, found, stops, stop_ref, stop_ref_at, stop_right, stop_first, stop_second}
use Rattle.sac_phrases.specs.declared.halt.Halt.{Halt}
use Rattle.sac_phrases.specs.declared.halt.Halt.TheVariants.{High as TooHigh}
use Rattle.sac_phrases.specs.declared.place.Place.{Place}
use Rattle.sac_phrases.specs.declared.place.Measured.{Measured}
use Rattle.sac_phrases.specs.Heights.{IsAbove}
use Rattle.sac_phrases.specs.Contract.{StopOf, lexemes_of, IsLowAt, IsNear, IsKept, IsPhraseAt, IsPartAt, operator_of, unboxed}
use Rattle.sac_phrases.specs.Parts.{IsListOf, IsArguments, IsInParens, IsPair, IsPrimary, IsPrimaryOf, IsGenerators, IsBuiltinWord, Comma}
use Rattle.sac_phrases.proofs.Steps.{At, operator_found, operator_none, high_halted, token_read, starts_there, kept_phrase, part_first, part_means}

-- ---- heights

pub low_of : (d n k : ℕ) → (n ≡ k) × (d + k ≤ 99) → (n ≡ k) × (k ≤ 99)
low_of d n k h = (h.0, omega arith)

above_one : (node n k : ℕ) → IsAbove node n → (n ≡ k) × (k ≤ 99) → node ≡ 1 + k
above_one node n k a h = let g : node ≡ 1 + n = a (omega arith) in omega arith

above_two : (node n m k l : ℕ) → IsAbove node (max n m) → (n ≡ k) × (k ≤ 99) → (m ≡ l) × (l ≤ 99) → node ≡ 1 + max k l
above_two node n m k l a h g = let e : node ≡ 1 + max n m = a (omega arith) in omega arith

-- ---- lists in brackets and parentheses

pub arguments_some : (place : Place) (ts : List Lexeme) (result : Result (Measured (Vec Expression) × Bor (List Token)) Halt) → starts (first_of expression) ts ≡ true → IsPartAt place (listed (ref expression)) (IsListOf place) ts result → IsPartAt place (opt (listed (ref expression))) (IsArguments place) ts result
arguments_some place ts result s h = part_first place (listed (ref expression)) nothing (IsArguments place) ts result s (part_means place (listed (ref expression)) (IsListOf place) (λ x v. IsArguments place x (inl v)) ts result (λ x v l. record { trees = l.trees; low = λ c. low_of place.depth x.height (heights (exprs_of (items v))) (l.low c) }) h)

pub arguments_none : (place : Place) (ts : List Lexeme) (list : Measured (Vec Expression)) → starts (first_of expression) ts ≡ false → list.tree.items ≡ [] → list.height ≡ 0 → (v : V (opt (listed (ref expression)))) × Reading (opt (listed (ref expression))) ts v ts × IsArguments place list v
arguments_none place ts list s e n = (inr tt, read_none s, record { trees = ap (map View.expr) e; low = λ c. (n, omega arith) })

pub parens_read : (place : Place) {ts mid after rest : List Lexeme} {l r : Lexeme} (node : Measured (Box Expression)) → At (text (codes "(")) ts l mid → Found expression mid (unboxed node.tree) after × IsLowAt place node.height (height (unboxed node.tree)) → At (text (codes ")")) after r rest → (v : V (parens (ref expression))) × Reading (parens (ref expression)) ts v rest × IsInParens place node v
parens_read place {ts} {mid} {after} {rest} {l} {r} node o f c = ((l, (unboxed node.tree, r)), read_then (token_read o) (read_then (read_ref f.0) (token_read c)), record { tree = refl; low = f.1 })

pub pair_read : (place : Place) {ts a b c d rest : List Lexeme} {l m r : Lexeme} (x y : Measured (Box Expression)) → At (text (codes "(")) ts l a → Found expression a (unboxed x.tree) b × IsLowAt place x.height (height (unboxed x.tree)) → At (text (codes ",")) b m c → Found expression c (unboxed y.tree) d × IsLowAt place y.height (height (unboxed y.tree)) → At (text (codes ")")) d r rest → (v : V (parens (Comma (ref expression)))) × Reading (parens (Comma (ref expression))) ts v rest × IsPair place (x, y) v
pair_read place {ts} {a} {b} {c} {d} {rest} {l} {m} {r} x y o f comma g close = ((l, ((unboxed x.tree, (m, unboxed y.tree)), r)), read_then (token_read o) (read_then (read_then (read_ref f.0) (read_then (token_read comma) (read_ref g.0))) (token_read close)), record { first = refl; second = refl; first_low = f.1; second_low = g.1 })

-- ---- primary expressions

abbrev Primary : Place → ℕ → Measured (Box Expression) → List Lexeme → List Lexeme → Type 0
Primary place n node ts rest = (v : V (nth n (rule primary))) × Reading (nth n (rule primary)) ts v rest × IsPrimary place n node v

pub variable_read : (place : Place) {ts rest : List Lexeme} {t : Lexeme} (node : Measured (Box Expression)) (x : Target) → At name ts t rest → starts (text (codes "(") ∷ []) rest ≡ false → x ≡ target t → unboxed node.tree ≡ tree.variable x.name x.site → node.height ≡ 1 → Primary place 3 node ts rest
variable_read place {ts} {rest} {t} node x f s e tr h = (
  (t, inr tt),
  read_then (token_read f) (read_none s),
  record {
    tree = tr ∙ ap (λ (y : Target). tree.variable y.name y.site) e;
    tall = λ c. h;
  },
)

pub call_read : (place : Place) {ts a b c rest : List Lexeme} {t l r : Lexeme} (node : Measured (Box Expression)) (x : Target) (list : Measured (Vec Expression)) (v : V (opt (listed (ref expression)))) → At name ts t a → At (text (codes "(")) a l b → Reading (opt (listed (ref expression))) b v c → IsArguments place list v → At (text (codes ")")) c r rest → x ≡ target t → unboxed node.tree ≡ tree.call x.name (View.exprs list.tree.items) x.site → IsAbove node.height list.height → Primary place 3 node ts rest
call_read place {ts} {a} {b} {c} {rest} {t} {l} {r} node x list v f o g m close e tr h = (
  (t, inl (l, (v, r))),
  read_then (token_read f) (read_first (starts_there (text (codes "(")) o) (read_then (token_read o) (read_then g (token_read close)))),
  record {
    tree = tr ∙ ap (λ (y : Target). tree.call y.name (View.exprs list.tree.items) y.site) e ∙ ap (λ es. tree.call t.text (exprs_of es) t.site) m.trees;
    tall = λ k. above_one node.height list.height (heights (exprs_of (maybe_items v))) h (m.low k);
  },
)

pub builtin_read : (place : Place) {ts a rest : List Lexeme} (node : Measured (Box Expression)) (w : Builtin × Site) (x : Measured (Box Expression)) (u : V (alt (sign (codes "dim")) (sign (codes "shape")))) (v : V (parens (ref expression))) → Reading (alt (sign (codes "dim")) (sign (codes "shape"))) ts u a → IsBuiltinWord w u → Reading (parens (ref expression)) a v rest → IsInParens place x v → unboxed node.tree ≡ tree.builtin w.0 (exprs_of (unboxed x.tree ∷ [])) w.1 → IsAbove node.height x.height → Primary place 4 node ts rest
builtin_read place {ts} {a} {rest} node w x (inl t) v f b g m tr h = (
  (inl t, v),
  read_then f g,
  record {
    tree = tr ∙ ap (λ e. tree.builtin w.0 (exprs_of (e ∷ [])) w.1) m.tree ∙ ap (λ c. tree.builtin c (exprs_of (v.1.0 ∷ [])) w.1) b.0 ∙ ap (λ s. tree.builtin built.Dim (exprs_of (v.1.0 ∷ [])) s) b.1;
    tall = λ k. above_low node.height x.height (height v.1.0) place.depth h (m.low k);
  },
)
  where
    above_low : (node n k d : ℕ) → IsAbove node n → (n ≡ k) × (d + k ≤ 99) → node ≡ 1 + max k 0
    above_low node n k d a h = let g : node ≡ 1 + n = a (omega arith) in omega arith
builtin_read place {ts} {a} {rest} node w x (inr t) v f b g m tr h = (
  (inr t, v),
  read_then f g,
  record {
    tree = tr ∙ ap (λ e. tree.builtin w.0 (exprs_of (e ∷ [])) w.1) m.tree ∙ ap (λ c. tree.builtin c (exprs_of (v.1.0 ∷ [])) w.1) b.0 ∙ ap (λ s. tree.builtin built.Shape (exprs_of (v.1.0 ∷ [])) s) b.1;
    tall = λ k. above_low node.height x.height (height v.1.0) place.depth h (m.low k);
  },
)
  where
    above_low : (node n k d : ℕ) → IsAbove node n → (n ≡ k) × (d + k ≤ 99) → node ≡ 1 + max k 0
    above_low node n k d a h = let g : node ≡ 1 + n = a (omega arith) in omega arith

reshape_tall : (node n m k l d : ℕ) → IsAbove node (max n m) → (n ≡ k) × (d + k ≤ 99) → (m ≡ l) × (d + l ≤ 99) → node ≡ 1 + max k (max l 0)
reshape_tall node n m k l d a h g = let e : node ≡ 1 + max n m = a (omega arith) in omega arith

pub reshape_read : (place : Place) {ts a rest : List Lexeme} {t : Lexeme} (node x y : Measured (Box Expression)) (v : V (parens (Comma (ref expression)))) → At (text (codes "reshape")) ts t a → Reading (parens (Comma (ref expression))) a v rest → IsPair place (x, y) v → unboxed node.tree ≡ tree.builtin built.Reshape (exprs_of (unboxed x.tree ∷ unboxed y.tree ∷ [])) t.site → IsAbove node.height (max x.height y.height) → Primary place 5 node ts rest
reshape_read place {ts} {a} {rest} {t} node x y v f g m tr h = (
  (t, v),
  read_then (token_read f) g,
  record {
    tree = tr ∙ ap (λ e. tree.builtin built.Reshape (exprs_of (e ∷ unboxed y.tree ∷ [])) t.site) m.first ∙ ap (λ e. tree.builtin built.Reshape (exprs_of (v.1.0.0 ∷ e ∷ [])) t.site) m.second;
    tall = λ k. reshape_tall node.height x.height y.height (height v.1.0.0) (height v.1.0.1.1) place.depth h (m.first_low k) (m.second_low k);
  },
)

pair_tall : (node n m k l d : ℕ) → IsAbove node (max n m) → (n ≡ k) × (d + k ≤ 99) → (m ≡ l) × (d + l ≤ 99) → node ≡ 1 + max k l
pair_tall node n m k l d a h g = let e : node ≡ 1 + max n m = a (omega arith) in omega arith

pub extreme_read : (place : Place) {ts a rest : List Lexeme} (node x y : Measured (Box Expression)) (op : Op) (site : Site) (t : Lexeme) (v : V (parens (Comma (ref expression)))) → operator_of ((codes "min", Min) ∷ (codes "max", Max) ∷ []) ts ≡ Some (op, site) → ts ≡ t ∷ a → Reading (parens (Comma (ref expression))) a v rest → IsPair place (x, y) v → unboxed node.tree ≡ tree.binary op (unboxed x.tree) (unboxed y.tree) site → IsAbove node.height (max x.height y.height) → Primary place 6 node ts rest
extreme_read place {ts} {a} {rest} node x y op site t v o split g m tr h =
    let f = operator_found (codes "min", Min) ((codes "max", Max) ∷ []) o split in (
      (f.value, v),
      read_then f.reads g,
      record {
        tree = tr ∙ ap (λ e. tree.binary op e (unboxed y.tree) site) m.first ∙ ap (λ e. tree.binary op v.1.0.0 e site) m.second ∙ ap (λ (c : Op × Site). tree.binary c.0 v.1.0.0 v.1.0.1.1 c.1) (sym f.is);
        tall = λ k. pair_tall node.height x.height y.height (height v.1.0.0) (height v.1.0.1.1) place.depth h (m.first_low k) (m.second_low k);
      },
    )

pub array_read : (place : Place) {ts a b rest : List Lexeme} {l r : Lexeme} (node : Measured (Box Expression)) (list : Measured (Vec Expression)) (v : V (opt (listed (ref expression)))) → At (text (codes "[")) ts l a → Reading (opt (listed (ref expression))) a v b → IsArguments place list v → At (text (codes "]")) b r rest → unboxed node.tree ≡ tree.literal (View.exprs list.tree.items) l.site → IsAbove node.height list.height → Primary place 8 node ts rest
array_read place {ts} {a} {b} {rest} {l} {r} node list v o g m close tr h = (
  (l, (v, r)),
  read_then (token_read o) (read_then g (token_read close)),
  record {
    tree = tr ∙ ap (λ es. tree.literal (exprs_of es) l.site) m.trees;
    tall = λ k. above_one node.height list.height (heights (exprs_of (maybe_items v))) h (m.low k);
  },
)

pub parens_primary : (place : Place) (ts : List Lexeme) (result : Result (Measured (Box Expression) × Bor (List Token)) Halt) → IsPartAt place (parens (ref expression)) (IsInParens place) ts result → IsPartAt place (nth 7 (rule primary)) (IsPrimary place 7) ts result
parens_primary place ts result h = part_means place (parens (ref expression)) (IsInParens place) (IsPrimary place 7) ts result (λ x v l. record { tree = l.tree; tall = λ c. (l.low c).0 }) h

with_tall : (node n m k l : ℕ) → IsAbove node (max n m) → (n ≡ k) × (k ≤ 100) → (m ≡ l) × (l ≤ 100) → node ≡ 1 + max k l
with_tall node n m k l a h g = let e : node ≡ 1 + max n m = a (omega arith) in omega arith

pub with_read : (place : Place) {ts a b c d rest : List Lexeme} {w l r k : Lexeme} (node : Measured (Box Expression)) (gs : Measured (Vec Generator)) (o : Measured Operation) (v : V (many (ref generator))) → At (text (codes "with")) ts w a → At (text (codes "{")) a l b → Reading (many (ref generator)) b v c → IsGenerators place gs v → At (text (codes "}")) c r d → (e : List Lexeme) → At (text (codes ":")) d k e → Found operation e (View.operation o.tree) rest × IsNear place o.height (operation_height (View.operation o.tree)) → unboxed node.tree ≡ tree.with_loop (View.generators gs.tree.items) (View.operation o.tree) w.site → IsAbove node.height (max gs.height o.height) → Primary place 9 node ts rest
with_read place {ts} {a} {b} {c} {d} {rest} {w} {l} {r} {k} node gs o v f open' g m close e colon h tr n = (
  (w, (l, (v, (r, (k, View.operation o.tree))))),
  read_then (token_read f) (read_then (token_read open') (read_then g (read_then (token_read close) (read_then (token_read colon) (read_ref h.0))))),
  record {
    tree = tr ∙ ap (λ xs. tree.with_loop (gens_of xs) (View.operation o.tree) w.site) m.trees;
    tall = λ q. with_tall node.height gs.height o.height (gens_height (gens_of v)) (operation_height (View.operation o.tree)) n (m.low q) (h.1 q);
  },
)

-- ---- prefix operators

abbrev neg : List ℕ × Op
neg = (codes "-", Neg)

abbrev nots : List (List ℕ × Op)
nots = (codes "!", Not) ∷ []

pub prefix_postfix : (place : Place) (ts : List Lexeme) (result : Result (Measured (Box Expression) × Bor (List Token)) Halt) → operator_of (neg ∷ nots) ts ≡ None → IsPhraseAt place postfix unboxed height ts result → IsPhraseAt place prefix unboxed height ts result
prefix_postfix place ts (Ok x) n h = (found (read_second (operator_none neg nots ts n) (read_ref h.0)), h.1)
prefix_postfix place ts (Err e) n h = stops (stop_second (operator_none neg nots ts n) (stop_ref h))

height_some : (e : Expr) → 1 ≤ height e
height_some (tree.number n s) = omega arith
height_some (tree.truth b s) = omega arith
height_some (tree.variable x s) = omega arith
height_some (tree.literal es s) = omega arith
height_some (tree.unary o e s) = omega arith
height_some (tree.binary o a b s) = omega arith
height_some (tree.choice c a b s) = omega arith
height_some (tree.select a i s) = omega arith
height_some (tree.call x es s) = omega arith
height_some (tree.builtin b es s) = omega arith
height_some (tree.with_loop gs o s) = omega arith

unary_over : (d : ℕ) (o : Op) (e : Expr) (s : Site) → 99 < d + (1 + 1) → 99 < d + height (tree.unary o e s)
unary_over d o e s h = let p = height_some e in omega arith

starts_alike : (fs : List Terminal) (r q : List Lexeme) → SameFirst r q → starts fs r ≡ starts fs q
starts_alike fs [] [] e = refl
starts_alike fs [] (y ∷ q) e = absurd e
starts_alike fs (x ∷ r) [] e = absurd e
starts_alike fs (x ∷ r) (y ∷ q) e = ap (λ z. starts fs (z ∷ [])) e

prefix_over : (d : ℕ) (ts : List Lexeme) → 99 < d + (1 + 1) → starts (first first_of (one_of neg nots)) ts ≡ true → (n : ℕ) (q : List Lexeme) (v : Expr) (z : List Lexeme) → SameFirst ts q → RunsIn Tree first_of rule action n prefix q v z → 99 < d + height v
prefix_over d ts h s zero q v z e r = absurd r
prefix_over d ts h s (suc n) q v z e (inl x, is, r) = subst (λ w. 99 < d + height w) (sym is) (unary_over d (chosen neg nots x.0).0 x.1 (chosen neg nots x.0).1 h)
prefix_over d ts h s (suc n) q v z e (inr x, is, r) = false_true (sym r.0 ∙ sym (starts_alike (first first_of (one_of neg nots)) ts q e) ∙ s)

-- before an operator, with which each phrase is too high
pub prefix_high : (place : Place) (tokens : Bor (List Token)) (op : Op) (site : Site) (behind : Bor (List Token)) → (operator_of (neg ∷ nots) (lexemes_of tokens.now) ≡ Some (op, site)) × ((t : Lexeme) × (lexemes_of tokens.now ≡ t ∷ lexemes_of behind.now)) → (place.checked ≡ true) × (99 < place.depth + (1 + 1)) → Halted (StopOf (TooHigh tokens)) place.checked place.depth prefix (lexemes_of tokens.now)
prefix_high place tokens op site behind o h =
    high_halted tokens (tall_before Tree first_of ext_of rank_of rule action table prefix (High place.depth prefix) (lexemes_of tokens.now) (prefix_over place.depth (lexemes_of tokens.now) h.1 (operator_found neg nots o.0 o.1.1).starts_so)) h.0

-- the place inside one more node
pub record IsInside (place inner : Place) : Type 0 where
  pub checked : inner.checked ≡ place.checked
  pub depth : place.checked ≡ true → inner.depth ≡ place.depth + 1

pub inside : (place inner : Place) → inner.checked ≡ place.checked → (place.depth ≤ 99 → inner.depth ≡ place.depth + 1) → (place.checked ≡ true → place.depth ≤ 99) → IsInside place inner
inside place inner c d few = record { checked = c; depth = λ k. d (few k) }

pub small_depth : (d n k : ℕ) → (n ≡ k) × (d + k ≤ 99) → d ≤ 99
small_depth d n k h = omega arith

pub room_depth : (d n : ℕ) → d + (n + 1) ≤ 99 → d ≤ 99
room_depth d n h = omega arith

-- a phrase that stops inside one more node
pub stop_inside : {D : Nonterminal → ℕ} {k : Nonterminal} {ts : List Lexeme} (place inner : Place) (e : Halt) → IsInside place inner → D k ≡ place.depth + 1 → Halted (StopOf e) inner.checked inner.depth k ts → Halts (StopOf e) place.checked D (ref k) ts
stop_inside {D} {k} {ts} place inner e i d h = stop_ref_at inner.depth (λ c. d ∙ sym (i.depth c)) (subst (λ b. Halted (StopOf e) b inner.depth k ts) i.checked h)

low_inside : (place inner : Place) (n k : ℕ) → IsInside place inner → IsLowAt inner n k → place.checked ≡ true → (n ≡ k) × (place.depth + (1 + k) ≤ 99)
low_inside place inner n k i low c = let h = low (i.checked ∙ c) in let d = i.depth c in (h.0, omega arith)

pub prefix_stop : (place inner : Place) (ts : List Lexeme) (op : Op) (site : Site) (behind : Bor (List Token)) (e : Halt) → (operator_of (neg ∷ nots) ts ≡ Some (op, site)) × ((t : Lexeme) × (ts ≡ t ∷ lexemes_of behind.now)) → IsInside place inner → Halted (StopOf e) inner.checked inner.depth prefix (lexemes_of behind.now) → Halted (StopOf e) place.checked place.depth prefix ts
prefix_stop place inner ts op site behind e o i h = let f = operator_found neg nots o.0 o.1.1 in stops (stop_first f.starts_so (stop_right f.reads (stop_inside place inner e i refl h)))

unary_low : (d node n k : ℕ) → IsAbove node n → (n ≡ k) × (d + (1 + k) ≤ 99) → (node ≡ 1 + k) × (d + (1 + k) ≤ 99)
unary_low d node n k a h = let g : node ≡ 1 + n = a (omega arith) in (omega arith, h.1)

pub prefix_read : (place inner : Place) (ts : List Lexeme) (op : Op) (site : Site) (behind : Bor (List Token)) (x node : Measured (Box Expression)) (after : List Lexeme) → (operator_of (neg ∷ nots) ts ≡ Some (op, site)) × ((t : Lexeme) × (ts ≡ t ∷ lexemes_of behind.now)) → IsInside place inner → Found prefix (lexemes_of behind.now) (unboxed x.tree) after × IsLowAt inner x.height (height (unboxed x.tree)) → unboxed node.tree ≡ tree.unary op (unboxed x.tree) site → IsAbove node.height x.height → Found prefix ts (unboxed node.tree) after × IsLowAt place node.height (height (unboxed node.tree))
prefix_read place inner ts op site behind x node after o i h tr above =
    let f = operator_found neg nots o.0 o.1.1 in
    let whole : tree.unary (chosen neg nots f.value).0 (unboxed x.tree) (chosen neg nots f.value).1 ≡ unboxed node.tree = ap (λ (c : Op × Site). tree.unary c.0 (unboxed x.tree) c.1) f.is ∙ sym tr in (
      subst (λ (e : Expr). Found prefix ts e after) whole (found (read_first f.starts_so (read_then f.reads (read_ref h.0)))),
      λ c. subst (λ (e : Expr). (node.height ≡ height e) × (place.depth + height e ≤ 99)) (sym tr) (unary_low place.depth node.height x.height (height (unboxed x.tree)) above (low_inside place inner x.height (height (unboxed x.tree)) i h.1 c)),
    )

-- ---- conditional expressions

pub plain_read : (place : Place) (ts rest : List Lexeme) (x : Measured (Box Expression)) → Found disjunction ts (unboxed x.tree) rest × IsLowAt place x.height (height (unboxed x.tree)) → starts (text (codes "?") ∷ []) rest ≡ false → Found expression ts (unboxed x.tree) rest × IsLowAt place x.height (height (unboxed x.tree))
plain_read place ts rest x f s = (found (read_then (read_ref f.0) (read_none s)), f.1)

pub choice_stop : {P : Stop → Type 0} {checked : Bool} {d : ℕ} {ts rest behind : List Lexeme} {v : Expr} {q : Lexeme} → Found disjunction ts v rest → At (text (codes "?")) rest q behind → Halts P checked (λ _. d + 1) (seq (ref expression) (seq (sign (codes ":")) (ref expression))) behind → Halted P checked d expression ts
choice_stop {P} {checked} {d} {ts} {rest} {behind} {v} {q} f s h = stops (stop_right (read_ref f) (stop_first (starts_there (text (codes "?")) s) (stop_right (token_read s) (stop_agree (λ c. (refl, (tt, refl))) h))))

choice_tall : (d node n m l k p r : ℕ) → IsAbove node (max n (max m l)) → (n ≡ k) × (d + k ≤ 99) → (m ≡ p) × (d + (1 + p) ≤ 99) → (l ≡ r) × (d + (1 + r) ≤ 99) → node ≡ 1 + max k (max p r)
choice_tall d node n m l k p r a f g h = let e : node ≡ 1 + max n (max m l) = a (omega arith) in omega arith

pub choice_read : (place one two : Place) {ts a b c d : List Lexeme} {q k : Lexeme} (rest : List Token) (x y z node : Measured (Box Expression)) (result : Result (Measured (Box Expression) × Bor (List Token)) Halt) → IsInside place one → IsInside place two → Found disjunction ts (unboxed x.tree) a × IsLowAt place x.height (height (unboxed x.tree)) → At (text (codes "?")) a q b → Found expression b (unboxed y.tree) c × IsLowAt one y.height (height (unboxed y.tree)) → At (text (codes ":")) c k d → Found expression d (unboxed z.tree) (lexemes_of rest) × IsLowAt two z.height (height (unboxed z.tree)) → unboxed node.tree ≡ tree.choice (unboxed x.tree) (unboxed y.tree) (unboxed z.tree) q.site → IsAbove node.height (max x.height (max y.height z.height)) → IsKept place node rest result → IsPhraseAt place expression unboxed height ts result
choice_read place one two {ts} {a} {b} {c} {d} {q} {k} rest x y z node result i j f s g colon h tr above kept =
    kept_phrase place expression unboxed height ts node rest (tree.choice (unboxed x.tree) (unboxed y.tree) (unboxed z.tree) q.site) result refl kept (λ e w. w)
    (λ w. choice_tall place.depth node.height x.height y.height z.height (height (unboxed x.tree)) (height (unboxed y.tree)) (height (unboxed z.tree)) above (f.1 w) (low_inside place one y.height (height (unboxed y.tree)) i g.1 w) (low_inside place two z.height (height (unboxed z.tree)) j h.1 w))
    tr
    (found (read_then (read_ref f.0) (read_first (starts_there (text (codes "?")) s) (read_then (token_read s) (read_then (read_ref g.0) (read_then (token_read colon) (read_ref h.0)))))))

-- ---- primary expressions and their limit

pub primary_kept : (place : Place) (ts : List Lexeme) (node : Measured (Box Expression)) (rest : List Token) (v : V (rule primary)) (result : Result (Measured (Box Expression) × Bor (List Token)) Halt) → Reading (rule primary) ts v (lexemes_of rest) → IsPrimaryOf place node v → IsKept place node rest result → IsPhraseAt place primary unboxed height ts result
primary_kept place ts node rest v result f m kept = kept_phrase place primary unboxed height ts node rest (action primary v) result refl kept (λ e h. h) m.tall m.tree (found f)
