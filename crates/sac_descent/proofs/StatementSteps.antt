-- Steps of the functions on statements: what they have read.
use Rattle.std.proofs.Common.{ℕ, ◌≡◌, ◌≢◌, ◌<◌, ◌≤◌, ◌+◌, max, true, false, List, [], ◌∷◌, ◌++◌, inl, Result, Ok, Err, refl, sym, ap, ◌∙◌, subst, length, map, codes, arith, Bor, Some}
use Rattle.std.specs.Global.{Vec, Box}
use Rattle.sac_lex.specs.declared.token.Token.{Token}
use Rattle.sac_base.specs.declared.op.Op.{Op}
use Rattle.sac_base.specs.declared.site.Site.{Site}
use Rattle.sac_ast.specs.declared.Expression.{Expression}
use Rattle.sac_ast.specs.declared.Statement.{Statement}
use Rattle.sac_ast.specs.declared.Target.{Target}
use Rattle.sac_ast.specs.Texts.{Lexeme}
use Rattle.sac_ast.specs.Shape.{text, name, term, ref, seq, many}
use Rattle.sac_ast.specs.Grammar.{Rule, V, rule, action, sign, listed, items, opt, parens, update_signs, target, to_variable, index_of, concat, block_or_none, expression, statement, if_statement, else_branch, block, assign}
use Rattle.sac_ast.specs.Heights.{height, heights, stmt_height, block_height}
use Rattle.sac_ast.specs.Tree as tree
use Rattle.sac_ast.specs.Tree.{Expr, Stmt, Block}
use Rattle.sac_ast.specs.View as View
use Rattle.sac_ast.specs.View.{exprs_of, block_of}
use Rattle.sac_grammar.specs.Run.{starts}
use Rattle.sac_grammar.specs.Limits.{depth_in}
use Rattle.sac_grammar.specs.Parsing.{Found, TooTall, Reading, Halts, nth}
use Rattle.sac_grammar.proofs.Parsing.{read_ref, read_then, read_first, read_second, found, stops, stop_ref, stop_right, stop_first, tall_after, stop_agree}
use Rattle.sac_phrases.specs.declared.halt.Halt.{Halt}
use Rattle.sac_phrases.specs.declared.halt.Halt.TheVariants.{Stuck, High as TooHigh, Memory}
use Rattle.sac_phrases.specs.declared.place.Place.{Place}
use Rattle.sac_phrases.specs.declared.place.Measured.{Measured}
use Rattle.sac_phrases.specs.Heights.{IsAbove}
use Rattle.sac_phrases.specs.Contract.{StopOf, lexemes_of, IsLowAt, IsLow, IsKept, IsPhraseAt, IsPartAt, operator_of, unboxed}
use Rattle.sac_phrases.specs.Parts.{IsListOf, IsInParens, AreStatements, IsStatement, IsStatementOf, IsBlockOf, IsElse, IsBlockAt, itself, AssignRest, IsAssigned, IsAssignedOf, AreTargets}
use Rattle.sac_phrases.proofs.Steps.{At, operator_found, token_read, starts_there, kept_phrase, high_halted}
use Rattle.sac_descent.proofs.ListSteps.{stmts_append, index_tall, length_map}
use Rattle.sac_descent.proofs.PhraseSteps.{IsInside}

-- ---- blocks

pub block_read : (place : Place) {ts a b rest : List Lexeme} {l r : Lexeme} (list : Measured (Vec Statement)) (v : V (many (ref statement))) → At (text (codes "{")) ts l a → Reading (many (ref statement)) a v b → AreStatements place list (concat v) → At (text (codes "}")) b r rest → Found block ts (map View.stmt list.tree.items) rest × IsLow place list.height (block_height (block_of (map View.stmt list.tree.items)))
block_read place {ts} {a} {b} {rest} {l} {r} list v o f m close = (
  subst (λ (ss : List Stmt). Found block ts ss rest) (sym m.trees) (found (read_then (token_read o) (read_then f (token_read close)))),
  subst (λ ss. IsLow place list.height (block_height (block_of ss))) (sym m.trees) m.low,
)

-- a block that is a part
pub body_some : (place : Place) (ts : List Lexeme) (result : Result (Measured (Vec Statement) × Bor (List Token)) Halt) → starts (text (codes "{") ∷ []) ts ≡ true → IsBlockAt place block itself ts result → IsPartAt place (opt (ref block)) (IsBlockOf place) ts result
body_some place ts (Ok x) s f = (inl (map View.stmt x.0.tree.items), read_first s (read_ref f.0), record { trees = refl; low = f.1 })
body_some place ts (Err e) s h = stop_first s (stop_ref h)

pub none_read : (place : Place) (list : Measured (Vec Statement)) → list.tree.items ≡ [] → list.height ≡ 0 → AreStatements place list []
none_read place list e n = record { trees = ap (map View.stmt) e; low = λ c. (n, omega arith) }

pub else_some : (place : Place) (ts behind : List Lexeme) (t : Lexeme) (result : Result (Measured (Vec Statement) × Bor (List Token)) Halt) → At (text (codes "else")) ts t behind → IsBlockAt place else_branch itself behind result → IsPartAt place (opt (seq (sign (codes "else")) (ref else_branch))) (IsElse place) ts result
else_some place ts behind t (Ok x) s f = (inl (t, map View.stmt x.0.tree.items), read_first (starts_there (text (codes "else")) s) (read_then (token_read s) (read_ref f.0)), record { trees = refl; low = f.1 })
else_some place ts behind t (Err e) s h = stop_first (starts_there (text (codes "else")) s) (stop_right (token_read s) (stop_ref h))

pub else_block : (place : Place) (ts : List Lexeme) (result : Result (Measured (Vec Statement) × Bor (List Token)) Halt) → starts (text (codes "{") ∷ []) ts ≡ true → IsBlockAt place block itself ts result → IsBlockAt place else_branch itself ts result
else_block place ts (Ok x) s f = (found (read_first s (read_ref f.0)), f.1)
else_block place ts (Err e) s h = stops (stop_first s (stop_ref h))

one_low : (d n m k : ℕ) → m ≡ n → (n ≡ k) × (d + k ≤ 99) → (m ≡ max k 0) × (max k 0 ≤ 99)
one_low d n m k e h = (omega arith, omega arith)

pub else_if : (place : Place) (ts rest : List Lexeme) (x : Measured Statement) (list : Measured (Vec Statement)) → starts (text (codes "{") ∷ []) ts ≡ false → Found if_statement ts (View.stmt x.tree) rest × IsLowAt place x.height (stmt_height (View.stmt x.tree)) → list.tree.items ≡ x.tree ∷ [] → list.height ≡ x.height → Found else_branch ts (map View.stmt list.tree.items) rest × IsLow place list.height (block_height (block_of (map View.stmt list.tree.items)))
else_if place ts rest x list s f e n = subst (λ (l : List Statement). Found else_branch ts (map View.stmt l) rest × IsLow place list.height (block_height (block_of (map View.stmt l)))) (sym e) (found (read_second s (read_ref f.0)), λ c. one_low place.depth x.height list.height (stmt_height (View.stmt x.tree)) n (f.1 c))

-- ---- statements

abbrev StatementAt : Place → ℕ → Measured (Vec Statement) → List Lexeme → List Lexeme → Type 0
StatementAt place n list ts rest = (v : V (nth n (rule statement))) × Reading (nth n (rule statement)) ts v rest × IsStatement place n list v

one_tall : (n m k : ℕ) → m ≡ n → n ≡ k → m ≡ max k 0
one_tall n m k e h = omega arith

pub assignment_read : (place : Place) {ts a rest : List Lexeme} {t : Lexeme} (x : Measured Statement) (list : Measured (Vec Statement)) → Found assign ts (View.stmt x.tree) a × IsLowAt place x.height (stmt_height (View.stmt x.tree)) → At (text (codes ";")) a t rest → list.tree.items ≡ x.tree ∷ [] → list.height ≡ x.height → StatementAt place 0 list ts rest
assignment_read place {ts} {a} {rest} {t} x list f s e n = ((View.stmt x.tree, t), read_then (read_ref f.0) (token_read s), record { trees = ap (map View.stmt) e; tall = λ c. one_tall x.height list.height (stmt_height (View.stmt x.tree)) n (f.1 c).0 })

pub conditional_read : (place : Place) {ts rest : List Lexeme} (x : Measured Statement) (list : Measured (Vec Statement)) → Found if_statement ts (View.stmt x.tree) rest × IsLowAt place x.height (stmt_height (View.stmt x.tree)) → list.tree.items ≡ x.tree ∷ [] → list.height ≡ x.height → StatementAt place 1 list ts rest
conditional_read place {ts} {rest} x list f e n = (View.stmt x.tree, read_ref f.0, record { trees = ap (map View.stmt) e; tall = λ c. one_tall x.height list.height (stmt_height (View.stmt x.tree)) n (f.1 c).0 })

while_tall : (d m node n b k l : ℕ) → m ≡ node → IsAbove node (max n b) → (n ≡ k) × (d + k ≤ 99) → (b ≡ l) × (l ≤ 99) → m ≡ max (1 + max k l) 0
while_tall d m node n b k l e a h g = let p : node ≡ 1 + max n b = a (omega arith) in omega arith

pub while_read : (place : Place) {ts a b rest : List Lexeme} {t : Lexeme} (c : Measured (Box Expression)) (body : Measured (Vec Statement)) (node : Measured Statement) (list : Measured (Vec Statement)) (v : V (parens (ref expression))) → At (text (codes "while")) ts t a → Reading (parens (ref expression)) a v b → IsInParens place c v → Found block b (map View.stmt body.tree.items) rest × IsLow place body.height (block_height (block_of (map View.stmt body.tree.items))) → View.stmt node.tree ≡ tree.while_do (unboxed c.tree) (View.block body.tree.items) t.site → IsAbove node.height (max c.height body.height) → list.tree.items ≡ node.tree ∷ [] → list.height ≡ node.height → StatementAt place 2 list ts rest
while_read place {ts} {a} {b} {rest} {t} c body node list v f g m h tr above e n = (
  (t, (v, map View.stmt body.tree.items)),
  read_then (token_read f) (read_then g (read_ref h.0)),
  record {
    trees = ap (map View.stmt) e ∙ ap (λ s. s ∷ []) (tr ∙ ap (λ x. tree.while_do x (View.block body.tree.items) t.site) m.tree);
    tall = λ q. while_tall place.depth list.height node.height c.height body.height (height v.1.0) (block_height (block_of (map View.stmt body.tree.items))) n above (m.low q) (h.1 q);
  },
)

do_tall : (d m node n b k l : ℕ) → m ≡ node → IsAbove node (max b n) → (n ≡ k) × (d + k ≤ 99) → (b ≡ l) × (l ≤ 99) → m ≡ max (1 + max l k) 0
do_tall d m node n b k l e a h g = let p : node ≡ 1 + max b n = a (omega arith) in omega arith

pub do_read : (place : Place) {ts a b c d rest : List Lexeme} {t w s : Lexeme} (x : Measured (Box Expression)) (body : Measured (Vec Statement)) (node : Measured Statement) (list : Measured (Vec Statement)) (v : V (parens (ref expression))) → At (text (codes "do")) ts t a → Found block a (map View.stmt body.tree.items) b × IsLow place body.height (block_height (block_of (map View.stmt body.tree.items))) → At (text (codes "while")) b w c → Reading (parens (ref expression)) c v d → IsInParens place x v → At (text (codes ";")) d s rest → View.stmt node.tree ≡ tree.do_while (View.block body.tree.items) (unboxed x.tree) t.site w.site → IsAbove node.height (max body.height x.height) → list.tree.items ≡ node.tree ∷ [] → list.height ≡ node.height → StatementAt place 3 list ts rest
do_read place {ts} {a} {b} {c} {d} {rest} {t} {w} {s} x body node list v f h g i m semi tr above e n = (
  (t, (map View.stmt body.tree.items, (w, (v, s)))),
  read_then (token_read f) (read_then (read_ref h.0) (read_then (token_read g) (read_then i (token_read semi)))),
  record {
    trees = ap (map View.stmt) e ∙ ap (λ s. s ∷ []) (tr ∙ ap (λ y. tree.do_while (View.block body.tree.items) y t.site w.site) m.tree);
    tall = λ q. do_tall place.depth list.height node.height x.height body.height (height v.1.0) (block_height (block_of (map View.stmt body.tree.items))) n above (m.low q) (h.1 q);
  },
)

for_tall : (d m a c b s ka kc kb ks body : ℕ) → (max c (max b s) ≤ 100 → m ≡ max a (1 + max c (max b s))) → (a ≡ ka) × (d + ka ≤ 99) → (c ≡ kc) × (d + kc ≤ 99) → (b ≡ kb) × (kb ≤ 99) → (s ≡ ks) × (d + ks ≤ 99) → body ≡ max kb (max ks 0) → m ≡ max ka (max (1 + max kc body) 0)
for_tall d m a c b s ka kc kb ks body f ha hc hb hs e = let p : m ≡ max a (1 + max c (max b s)) = f (omega arith) in let q : max b s ≡ body = omega arith in let r : max c (max b s) ≡ max kc body = omega arith in omega arith

pub for_read : (place : Place) {ts a b c d e f g h rest : List Lexeme} {t l s1 s2 r : Lexeme} (start : Measured Statement) (x : Measured (Box Expression)) (step : Measured Statement) (body list : Measured (Vec Statement)) → At (text (codes "for")) ts t a → At (text (codes "(")) a l b → Found assign b (View.stmt start.tree) c × IsLowAt place start.height (stmt_height (View.stmt start.tree)) → At (text (codes ";")) c s1 d → Found expression d (unboxed x.tree) e × IsLowAt place x.height (height (unboxed x.tree)) → At (text (codes ";")) e s2 f → Found assign f (View.stmt step.tree) g × IsLowAt place step.height (stmt_height (View.stmt step.tree)) → At (text (codes ")")) g r h → Found block h (map View.stmt body.tree.items) rest × IsLow place body.height (block_height (block_of (map View.stmt body.tree.items))) → map View.stmt list.tree.items ≡ View.stmt start.tree ∷ tree.while_do (unboxed x.tree) (block_of (map View.stmt body.tree.items ++ (View.stmt step.tree ∷ []))) t.site ∷ [] → (max x.height (max body.height step.height) ≤ 100 → list.height ≡ max start.height (1 + max x.height (max body.height step.height))) → StatementAt place 4 list ts rest
for_read place {ts} {a} {b} {c} {d} {e} {f} {g} {h} {rest} {t} {l} {s1} {s2} {r} start x step body list w o fa semi fx semi2 fs close fb tr tall = (
  (t, ((l, ((View.stmt start.tree, (s1, (unboxed x.tree, (s2, View.stmt step.tree)))), r)), map View.stmt body.tree.items)),
  read_then (token_read w) (read_then (read_then (token_read o) (read_then (read_then (read_ref fa.0) (read_then (token_read semi) (read_then (read_ref fx.0) (read_then (token_read semi2) (read_ref fs.0))))) (token_read close))) (read_ref fb.0)),
  record {
    trees = tr;
    tall = λ q. for_tall place.depth list.height start.height x.height body.height step.height (stmt_height (View.stmt start.tree)) (height (unboxed x.tree)) (block_height (block_of (map View.stmt body.tree.items))) (stmt_height (View.stmt step.tree)) (block_height (block_of (map View.stmt body.tree.items ++ (View.stmt step.tree ∷ [])))) tall (fa.1 q) (fx.1 q) (fb.1 q) (fs.1 q) (stmts_append (map View.stmt body.tree.items) (View.stmt step.tree ∷ []));
  },
)

low_kept : (d n k : ℕ) → n ≡ k → d + n ≤ 99 → (n ≡ k) × (k ≤ 99)
low_kept d n k e h = (e, omega arith)

pub statement_kept : (place : Place) (ts : List Lexeme) (node : Measured (Vec Statement)) (rest : List Token) (v : V (rule statement)) (result : Result (Measured (Vec Statement) × Bor (List Token)) Halt) → Reading (rule statement) ts v (lexemes_of rest) → IsStatementOf place node v → IsKept place node rest result → IsBlockAt place statement itself ts result
statement_kept place ts node rest v (Ok x) f m (same, at, low) =
    let trees : map View.stmt x.0.tree.items ≡ action statement v = ap (λ (n : Measured (Vec Statement)). map View.stmt n.tree.items) same ∙ m.trees in (
      subst (λ (ss : List Stmt). Found statement ts ss (lexemes_of x.1.now)) (sym trees) (subst (λ l. Found statement ts (action statement v) (lexemes_of l)) (sym at) (found f)),
      λ c. subst (λ (ss : List Stmt). (x.0.height ≡ block_height (block_of ss)) × (block_height (block_of ss) ≤ 99)) (sym trees) (low_kept place.depth x.0.height (block_height (block_of (action statement v))) (ap (λ (n : Measured (Vec Statement)). n.height) same ∙ m.tall c) (subst (λ (n : Measured (Vec Statement)). place.depth + n.height ≤ 99) (sym same) (low c))),
    )
statement_kept place ts node rest v (Err (TooHigh r)) f m (at, c, over) = high_halted r (subst (λ l. TooTall place.depth statement ts (lexemes_of l)) (sym at) (tall_after place.depth refl (found f) (subst (λ n. 99 < place.depth + n) (m.tall c) over))) c
statement_kept place ts node rest v (Err Memory) f m h = absurd h
statement_kept place ts node rest v (Err (Stuck r)) f m h = absurd h

-- ---- conditional statements

if_tall : (d node n a b k l m : ℕ) → IsAbove node (max n (max a b)) → (n ≡ k) × (d + k ≤ 99) → (a ≡ l) × (l ≤ 99) → (b ≡ m) × (m ≤ 99) → node ≡ 1 + max k (max l m)
if_tall d node n a b k l m f h g i = let e : node ≡ 1 + max n (max a b) = f (omega arith) in omega arith

pub if_read : (place one two : Place) {ts a b c : List Lexeme} {t : Lexeme} (rest : List Token) (x : Measured (Box Expression)) (first' second' : Measured (Vec Statement)) (node : Measured Statement) (v : V (parens (ref expression))) (w : V (opt (seq (sign (codes "else")) (ref else_branch)))) (result : Result (Measured Statement × Bor (List Token)) Halt) → IsInside place one → IsInside place two → At (text (codes "if")) ts t a → Reading (parens (ref expression)) a v b → IsInParens place x v → Found block b (map View.stmt first'.tree.items) c × IsLow one first'.height (block_height (block_of (map View.stmt first'.tree.items))) → Reading (opt (seq (sign (codes "else")) (ref else_branch))) c w (lexemes_of rest) → AreStatements two second' (block_or_none w) → View.stmt node.tree ≡ tree.if_else (unboxed x.tree) (View.block first'.tree.items) (View.block second'.tree.items) t.site → IsAbove node.height (max x.height (max first'.height second'.height)) → IsKept place node rest result → IsPhraseAt place if_statement View.stmt stmt_height ts result
if_read place one two {ts} {a} {b} {c} {t} rest x first' second' node v w result i j f g m fb h mb tr above kept =
    let u : V (rule if_statement) = (t, (v, (map View.stmt first'.tree.items, w))) in
    kept_phrase place if_statement View.stmt stmt_height ts node rest (action if_statement u) result refl kept (λ e q. q)
    (λ q. if_tall place.depth node.height x.height first'.height second'.height (height v.1.0) (block_height (block_of (map View.stmt first'.tree.items))) (block_height (block_of (block_or_none w))) above (m.low q) (fb.1 (i.checked ∙ q)) (mb.low (j.checked ∙ q)))
    (tr ∙ ap (λ e. tree.if_else e (View.block first'.tree.items) (View.block second'.tree.items) t.site) m.tree ∙ ap (λ ss. tree.if_else v.1.0 (View.block first'.tree.items) (block_of ss) t.site) mb.trees)
    (found (read_then (token_read f) (read_then g (read_then (read_ref fb.0) h))))

-- what stops in a part where heights are checked one node deeper
pub halts_inside : {ts : List Lexeme} (s : Rule) (place inner : Place) (e : Halt) → IsInside place inner → Halts (StopOf e) inner.checked (λ _. inner.depth) s ts → Halts (StopOf e) place.checked (λ _. inner.depth) s ts
halts_inside {ts} s place inner e i h = record { at = h.at; only = λ r p. sym i.checked ∙ h.only r p }

pub else_stop : {ts : List Lexeme} (place inner : Place) (e : Halt) → IsInside place inner → Halts (StopOf e) inner.checked (λ _. inner.depth) (opt (seq (sign (codes "else")) (ref else_branch))) ts → Halts (StopOf e) place.checked (depth_in place.depth if_statement) (opt (seq (sign (codes "else")) (ref else_branch))) ts
else_stop {ts} place inner e i h = stop_agree (λ c. ((tt, i.depth c), tt)) (halts_inside (opt (seq (sign (codes "else")) (ref else_branch))) place inner e i h)

-- ---- assignments

abbrev AssignedAt : Place → Lexeme → ℕ → Measured Statement → List Lexeme → List Lexeme → Type 0
AssignedAt place t n node ts rest = (v : V (nth n AssignRest)) × Reading (nth n AssignRest) ts v rest × IsAssigned place t n node v

assign_tall : (node n k d : ℕ) → IsAbove node n → (n ≡ k) × (d + k ≤ 99) → node ≡ 1 + k
assign_tall node n k d a h = let e : node ≡ 1 + n = a (omega arith) in omega arith

pub several_read : (place : Place) (t : Lexeme) {ts a b rest : List Lexeme} {q : Lexeme} (list : Vec Target) (x : Measured (Box Expression)) (node : Measured Statement) (ns : V (many (seq (sign (codes ",")) (term name)))) → Reading (many (seq (sign (codes ",")) (term name))) ts ns a → AreTargets t list ns → At (text (codes "=")) a q b → Found expression b (unboxed x.tree) rest × IsLowAt place x.height (height (unboxed x.tree)) → View.stmt node.tree ≡ tree.assign list.items (unboxed x.tree) → IsAbove node.height x.height → AssignedAt place t 0 node ts rest
several_read place t {ts} {a} {b} {rest} {q} list x node ns f m s g tr above = (
  (ns, (q, unboxed x.tree)),
  read_then f (read_then (token_read s) (read_ref g.0)),
  record {
    tree = tr ∙ ap (λ xs. tree.assign xs (unboxed x.tree)) m;
    tall = λ c. assign_tall node.height x.height (height (unboxed x.tree)) place.depth above (g.1 c);
  },
)

replace_tall : (node i n k l d : ℕ) → IsAbove node (max i n) → (i ≡ k) × (i ≤ 100) → (n ≡ l) × (d + l ≤ 99) → node ≡ 1 + max k l
replace_tall node i n k l d a h g = let e : node ≡ 1 + max i n = a (omega arith) in omega arith

pub index_low : (place : Place) (site : Site) (list : Measured (Vec Expression)) (index : Measured (Box Expression)) (v : V (listed (ref expression))) → IsListOf place list v → unboxed index.tree ≡ index_of site (map View.expr list.tree.items) → (length list.tree.items ≡ 1 → index.height ≡ list.height) → (length list.tree.items ≢ 1 → IsAbove index.height list.height) → place.checked ≡ true → (index.height ≡ height (unboxed index.tree)) × (index.height ≤ 100)
index_low place site list index v l is one several c =
    let low : (list.height ≡ heights (exprs_of (map View.expr list.tree.items))) × (heights (exprs_of (map View.expr list.tree.items)) ≤ 99) = subst (λ xs. (list.height ≡ heights (exprs_of xs)) × (heights (exprs_of xs) ≤ 99)) (sym l.trees) (few place.depth list.height (heights (exprs_of (items v))) (l.low c)) in
    let i = index_tall site (map View.expr list.tree.items) list.height index.height (λ e. one (sym (length_map View.expr list.tree.items) ∙ e)) (λ ne. several (λ e. ne (length_map View.expr list.tree.items ∙ e))) low in
    (i.0 ∙ ap height (sym is), i.1)
  where
    few : (d n k : ℕ) → (n ≡ k) × (d + k ≤ 99) → (n ≡ k) × (k ≤ 99)
    few d n k h = (h.0, omega arith)

pub replace_read : (place : Place) (t : Lexeme) {ts a b c d rest : List Lexeme} {l r q : Lexeme} (y : Target) (list : Measured (Vec Expression)) (index x : Measured (Box Expression)) (node : Measured Statement) (v : V (listed (ref expression))) → At (text (codes "[")) ts l a → Reading (listed (ref expression)) a v b → IsListOf place list v → At (text (codes "]")) b r c → At (text (codes "=")) c q d → Found expression d (unboxed x.tree) rest × IsLowAt place x.height (height (unboxed x.tree)) → y ≡ target t → unboxed index.tree ≡ index_of l.site (map View.expr list.tree.items) → (length list.tree.items ≡ 1 → index.height ≡ list.height) → (length list.tree.items ≢ 1 → IsAbove index.height list.height) → View.stmt node.tree ≡ tree.replace y l.site (unboxed index.tree) (unboxed x.tree) → IsAbove node.height (max index.height x.height) → AssignedAt place t 1 node ts rest
replace_read place t {ts} {a} {b} {c} {d} {rest} {l} {r} {q} y list index x node v o f m close s g e is one several tr above =
    let is' : unboxed index.tree ≡ index_of l.site (items v) = is ∙ ap (index_of l.site) m.trees in (
      (l, (v, (r, (q, unboxed x.tree)))),
      read_then (token_read o) (read_then f (read_then (token_read close) (read_then (token_read s) (read_ref g.0)))),
      record {
        tree = tr ∙ ap (λ z. tree.replace z l.site (unboxed index.tree) (unboxed x.tree)) e ∙ ap (λ i. tree.replace (target t) l.site i (unboxed x.tree)) is';
        tall = λ k. replace_tall node.height index.height x.height (height (index_of l.site (items v))) (height (unboxed x.tree)) place.depth above (let i = index_low place l.site list index v m is one several k in (i.0 ∙ ap height is', i.1)) (g.1 k);
      },
    )

update_tall : (node n k d : ℕ) → (n ≤ 99 → node ≡ 1 + (1 + max 1 n)) → (n ≡ k) × (d + k ≤ 99) → node ≡ 1 + (1 + max 1 k)
update_tall node n k d a h = let e : node ≡ 1 + (1 + max 1 n) = a (omega arith) in omega arith

pub compound_read : (place : Place) (t : Lexeme) {ts a rest : List Lexeme} (op : Op) (site : Site) (x : Measured (Box Expression)) (node : Measured Statement) (u : Lexeme) → operator_of (update_signs.0 ∷ update_signs.1) ts ≡ Some (op, site) → ts ≡ u ∷ a → Found expression a (unboxed x.tree) rest × IsLowAt place x.height (height (unboxed x.tree)) → View.stmt node.tree ≡ tree.assign (target t ∷ []) (tree.binary op (to_variable t) (unboxed x.tree) site) → (x.height ≤ 99 → node.height ≡ 1 + (1 + max 1 x.height)) → AssignedAt place t 2 node ts rest
compound_read place t {ts} {a} {rest} op site x node u o split g tr above =
    let f = operator_found update_signs.0 update_signs.1 o split in (
      (f.value, unboxed x.tree),
      read_then f.reads (read_ref g.0),
      record {
        tree = tr ∙ ap (λ (c : Op × Site). tree.assign (target t ∷ []) (tree.binary c.0 (to_variable t) (unboxed x.tree) c.1)) (sym f.is);
        tall = λ k. update_tall node.height x.height (height (unboxed x.tree)) place.depth above (g.1 k);
      },
    )

pub assign_kept : (place : Place) {ts a : List Lexeme} (t : Lexeme) (node : Measured Statement) (rest : List Token) (v : V AssignRest) (result : Result (Measured Statement × Bor (List Token)) Halt) → At name ts t a → Reading AssignRest a v (lexemes_of rest) → IsAssignedOf place t node v → IsKept place node rest result → IsPhraseAt place assign View.stmt stmt_height ts result
assign_kept place {ts} {a} t node rest v result n f m kept = kept_phrase place assign View.stmt stmt_height ts node rest (action assign (t, v)) result refl kept (λ e h. h) m.tall m.tree (found (read_then (token_read n) f))
