-- Steps of the loops that read lists of expressions, selections, generators and statements.
use Rattle.std.proofs.Common.{ℕ, zero, suc, ◌≡◌, ◌≢◌, ◌<◌, ◌≤◌, ◌+◌, max, Bool, true, false, List, [], ◌∷◌, ◌++◌, Result, Ok, refl, sym, ap, ◌∙◌, subst, length, map, codes, arith, append_assoc, append-nil, Bor}
use Rattle.std.specs.Global.{Vec, Box}
use Rattle.sac_lex.specs.declared.token.Token.{Token}
use Rattle.sac_base.specs.declared.site.Site.{Site}
use Rattle.sac_ast.specs.declared.Expression.{Expression}
use Rattle.sac_ast.specs.declared.Statement.{Statement}
use Rattle.sac_ast.specs.declared.Generator.{Generator}
use Rattle.sac_ast.specs.Texts.{Lexeme}
use Rattle.sac_ast.specs.Shape.{text, matches, ref, seq, many}
use Rattle.sac_ast.specs.Grammar.{Nonterminal, Tree, Rule, V, rule, action, sign, listed, items, concat, index_of, selects, expression, primary, postfix, generator, statement}
use Rattle.sac_ast.specs.Heights.{height, heights, gen_height, gens_height, block_height}
use Rattle.sac_ast.specs.Tree as tree
use Rattle.sac_ast.specs.Tree.{Expr, Stmt, Gen}
use Rattle.sac_ast.specs.View as View
use Rattle.sac_ast.specs.View.{exprs_of, block_of, gens_of}
use Rattle.sac_grammar.specs.Run.{starts, Runs, RunsIn}
use Rattle.sac_grammar.specs.Tables.{first_of}
use Rattle.sac_grammar.specs.Limits.{High}
use Rattle.sac_grammar.specs.Parsing.{Found, Reading, Stop, Halts, Halted, Parts}
use Rattle.sac_grammar.proofs.Levels.{derives_rule}
use Rattle.sac_grammar.proofs.Parsing.{read_ref, read_then, found, stop_ref, stop_right, stop_parts, no_parts, one_more_part, read_parts}
use Rattle.sac_phrases.specs.declared.halt.Halt.{Halt}
use Rattle.sac_phrases.specs.declared.halt.Halt.TheVariants.{High as TooHigh}
use Rattle.sac_phrases.specs.declared.place.Place.{Place}
use Rattle.sac_phrases.specs.declared.place.Measured.{Measured}
use Rattle.sac_phrases.specs.Heights.{IsAbove}
use Rattle.sac_phrases.specs.Contract.{StopOf, lexemes_of, IsLowAt, IsLow, IsNear, IsKept, IsPhraseAt, IsPhraseNear, unboxed}
use Rattle.sac_phrases.specs.Parts.{IsListOf, IsGenerators, AreStatements, IsBlockAt, itself}
use Rattle.sac_phrases.proofs.Steps.{SoFar, list_start, list_more, list_end, list_stop, token_read, starts_there, kept_phrase, high_halted}
use Rattle.sac_descent.proofs.Grown.{tall_more}

map_append : {A B : Type 0} (f : A → B) (xs ys : List A) → map f (xs ++ ys) ≡ map f xs ++ map f ys
map_append f [] ys = refl
map_append f (x ∷ xs) ys = ap (λ l. f x ∷ l) (map_append f xs ys)

-- ---- heights

heights_push : (es : List Expr) (e : Expr) → heights (exprs_of (es ++ (e ∷ []))) ≡ max (heights (exprs_of es)) (height e)
heights_push [] e = omega arith
heights_push (x ∷ es) e = let h = heights_push es e in omega arith

gens_push : (es : List Gen) (e : Gen) → gens_height (gens_of (es ++ (e ∷ []))) ≡ max (gens_height (gens_of es)) (gen_height e)
gens_push [] e = omega arith
gens_push (x ∷ es) e = let h = gens_push es e in omega arith

pub stmts_append : (a b : List Stmt) → block_height (block_of (a ++ b)) ≡ max (block_height (block_of a)) (block_height (block_of b))
stmts_append [] b = omega arith
stmts_append (s ∷ a) b = let h = stmts_append a b in omega arith

low_max : (d n m k l x : ℕ) → (n ≡ k) × (d + k ≤ 99) → (m ≡ l) × (d + l ≤ 99) → x ≡ max k l → (max n m ≡ x) × (d + x ≤ 99)
low_max d n m k l x a b e = (omega arith, omega arith)

low_one : (d n k : ℕ) → (n ≡ k) × (d + k ≤ 99) → (n ≡ max k 0) × (d + max k 0 ≤ 99)
low_one d n k h = (omega arith, omega arith)

flat_max : (n m k l x : ℕ) → (n ≡ k) × (k ≤ 99) → (m ≡ l) × (l ≤ 99) → x ≡ max k l → (max n m ≡ x) × (x ≤ 99)
flat_max n m k l x a b e = (omega arith, omega arith)

near_max : (n m k l x : ℕ) → (n ≡ k) × (k ≤ 100) → (m ≡ l) × (l ≤ 100) → x ≡ max k l → (max n m ≡ x) × (x ≤ 100)
near_max n m k l x a b e = (omega arith, omega arith)

-- ---- lists of expressions

-- expressions that were read so far, and what is left
pub record ListRead (place : Place) (ts : List Lexeme) (es : List Expression) (n : ℕ) (rest : List Lexeme) : Type 0 where
  pub so_far : SoFar (ref expression) (λ (e : Expr). e) ts (map View.expr es) rest
  pub low : IsLowAt place n (heights (exprs_of (map View.expr es)))

pub list_begin : (place : Place) (ts : List Lexeme) (x : Measured (Box Expression)) (rest : Bor (List Token)) (es : List Expression) → es ≡ x.tree.value ∷ [] → IsPhraseAt place expression unboxed height ts (Ok (x, rest)) → ListRead place ts es x.height (lexemes_of rest.now)
list_begin place ts x rest es e f = subst (λ l. ListRead place ts l x.height (lexemes_of rest.now)) (sym e) (record {
  so_far = list_start (λ (e : Expr). e) (read_ref f.0);
  low = λ c. low_one place.depth x.height (height (unboxed x.tree)) (f.1 c);
})

pub list_next : (place : Place) (ts : List Lexeme) (es : List Expression) (n : ℕ) (mid behind : List Lexeme) (t : Lexeme) (x : Measured (Box Expression)) (rest : Bor (List Token)) (fs : List Expression) → ListRead place ts es n mid → (mid ≡ t ∷ behind) × (matches (text (codes ",")) t ≡ true) → fs ≡ es ++ (x.tree.value ∷ []) → IsPhraseAt place expression unboxed height behind (Ok (x, rest)) → ListRead place ts fs (max n x.height) (lexemes_of rest.now)
list_next place ts es n mid behind t x rest fs l comma e f =
    let more : map View.expr (es ++ (x.tree.value ∷ [])) ≡ map View.expr es ++ (unboxed x.tree ∷ []) = map_append View.expr es (x.tree.value ∷ []) in
    subst (λ l. ListRead place ts l (max n x.height) (lexemes_of rest.now)) (sym e) (record {
      so_far = subst (λ l. SoFar (ref expression) (λ (e : Expr). e) ts l (lexemes_of rest.now)) (sym more) (list_more l.so_far comma (read_ref f.0));
      low = λ c. low_max place.depth n x.height (heights (exprs_of (map View.expr es))) (height (unboxed x.tree)) (heights (exprs_of (map View.expr (es ++ (x.tree.value ∷ []))))) (l.low c) (f.1 c) (ap (λ l. heights (exprs_of l)) more ∙ heights_push (map View.expr es) (unboxed x.tree));
    })

pub list_whole : (place : Place) (ts : List Lexeme) (list : Measured (Vec Expression)) (rest : List Lexeme) → ListRead place ts list.tree.items list.height rest → starts (text (codes ",") ∷ []) rest ≡ false → (v : V (listed (ref expression))) × Reading (listed (ref expression)) ts v rest × IsListOf place list v
list_whole place ts list rest l s = ((l.so_far.head, l.so_far.tail), list_end l.so_far s, record { trees = l.so_far.same; low = subst (λ xs. IsLowAt place list.height (heights (exprs_of xs))) l.so_far.same l.low })

pub list_halts : {P : Stop → Type 0} {checked : Bool} {D : Nonterminal → ℕ} (place : Place) (ts : List Lexeme) (es : List Expression) (n : ℕ) (mid behind : List Lexeme) (t : Lexeme) → ListRead place ts es n mid → (mid ≡ t ∷ behind) × (matches (text (codes ",")) t ≡ true) → Halted P checked (D expression) expression behind → Halts P checked D (listed (ref expression)) ts
list_halts {P} {checked} {D} place ts es n mid behind t l comma h = list_stop l.so_far comma (stop_ref h)

-- ---- selections

abbrev pub Bracketed : Rule
Bracketed = seq (sign (codes "[")) (seq (listed (ref expression)) (sign (codes "]")))

pub selects_append : (e : Expr) (xs ys : List (V Bracketed)) → selects e (xs ++ ys) ≡ selects (selects e xs) ys
selects_append e [] ys = refl
selects_append e ((t, (v, u)) ∷ xs) ys = selects_append (tree.select e (index_of t.site (items v)) t.site) xs ys

pub selects_first : (e : Expr) (xs : List (V Bracketed)) → height e ≤ height (selects e xs)
selects_first e [] = omega arith
selects_first e ((t, (v, u)) ∷ xs) = let h = selects_first (tree.select e (index_of t.site (items v)) t.site) xs in omega arith

select_over : (d n : ℕ) (e i : Expr) (s : Site) → 99 < d + (height e + 1) → height (tree.select e i s) ≤ n → 99 < d + n
select_over d n e i s h g = omega arith

selects_over : (d : ℕ) (e array : Expr) (xs : List (V Bracketed)) → array ≡ selects e xs → 99 < d + (height array + 1) → (t : V Bracketed) (us : List (V Bracketed)) → 99 < d + height (selects e (xs ++ (t ∷ us)))
selects_over d e array xs same h (t, (v, u)) us =
    subst (λ x. 99 < d + height x) (ap (λ l. selects l ((t, (v, u)) ∷ us)) same ∙ sym (selects_append e xs ((t, (v, u)) ∷ us)))
    (select_over d (height (selects array ((t, (v, u)) ∷ us))) array (index_of t.site (items v)) t.site h (selects_first (tree.select array (index_of t.site (items v)) t.site) us))

pub record PostRead (ts : List Lexeme) (array : Expr) (rest : List Lexeme) : Type 0 where
  pub head : Expr
  pub mid : List Lexeme
  pub tail : List (V Bracketed)
  pub begins : Reading (ref primary) ts head mid
  pub goes_on : Parts Bracketed mid tail rest
  pub same : array ≡ selects head tail

pub post_begin : (ts : List Lexeme) (e : Expr) (rest : List Lexeme) → Found primary ts e rest → PostRead ts e rest
post_begin ts e rest f = record { head = e; mid = rest; tail = []; begins = read_ref f; goes_on = no_parts; same = refl }

pub post_next : (ts : List Lexeme) (array : Expr) (rest : List Lexeme) (t : Lexeme) (behind mid : List Lexeme) (u : Lexeme) (after : List Lexeme) (es : List Expr) (v : V (listed (ref expression))) → PostRead ts array rest → (rest ≡ t ∷ behind) × (matches (text (codes "[")) t ≡ true) → Reading (listed (ref expression)) behind v mid → es ≡ items v → (mid ≡ u ∷ after) × (matches (text (codes "]")) u ≡ true) → PostRead ts (tree.select array (index_of t.site es) t.site) after
post_next ts array rest t behind mid u after es v p open' f e close = record {
  head = p.head;
  mid = p.mid;
  tail = p.tail ++ ((t, (v, u)) ∷ []);
  begins = p.begins;
  goes_on = one_more_part p.goes_on (starts_there (text (codes "[")) open') (read_then (token_read open') (read_then f (token_read close)));
  same = ap (λ l. tree.select array (index_of t.site l) t.site) e ∙ ap (λ a. tree.select a (index_of t.site (items v)) t.site) p.same ∙ sym (selects_append p.head p.tail ((t, (v, u)) ∷ []));
}

pub post_halts : {P : Stop → Type 0} {checked : Bool} {D : Nonterminal → ℕ} (ts : List Lexeme) (array : Expr) (rest : List Lexeme) (t : Lexeme) (behind : List Lexeme) → PostRead ts array rest → (rest ≡ t ∷ behind) × (matches (text (codes "[")) t ≡ true) → Halts P checked D (seq (listed (ref expression)) (sign (codes "]"))) behind → Halts P checked D (rule postfix) ts
post_halts {P} {checked} {D} ts array rest t behind p open' h = stop_right p.begins (stop_parts p.goes_on (starts_there (text (codes "[")) open') (stop_right (token_read open') h))

pub post_end : (place : Place) (ts : List Lexeme) (node : Measured (Box Expression)) (rest : List Token) (result : Result (Measured (Box Expression) × Bor (List Token)) Halt) → PostRead ts (unboxed node.tree) (lexemes_of rest) → starts (text (codes "[") ∷ []) (lexemes_of rest) ≡ false → (place.checked ≡ true → node.height ≡ height (unboxed node.tree)) → IsKept place node rest result → IsPhraseAt place postfix unboxed height ts result
post_end place ts node rest result p s tall kept = kept_phrase place postfix unboxed height ts node rest (unboxed node.tree) result refl kept (λ e h. h) tall refl (subst (λ (e : Expr). Found postfix ts e (lexemes_of rest)) (sym p.same) (found (read_then p.begins (read_parts p.goes_on s))))

opened : (n : ℕ) (q : List Lexeme) (w : Tree postfix) (z : List Lexeme) → RunsIn Tree first_of rule action n postfix q w z → (m : ℕ) × (x : V (rule postfix)) × (w ≡ selects x.0 x.1) × Runs Tree first_of (RunsIn Tree first_of rule action m) (rule postfix) q x z
opened zero q w z d = absurd d
opened (suc n) q w z (x, is, r) = (n, x, is, r)

over_by : (d n m : ℕ) → n ≡ m → 99 < d + (n + 1) → 99 < d + (m + 1)
over_by d n m e h = omega arith

-- before a bracket, with which each phrase is too high
pub post_high : (place : Place) (ts : List Lexeme) (array : Measured (Box Expression)) (rest : Bor (List Token)) (t : Lexeme) (behind : List Lexeme) → PostRead ts (unboxed array.tree) (lexemes_of rest.now) → (lexemes_of rest.now ≡ t ∷ behind) × (matches (text (codes "[")) t ≡ true) → (place.checked ≡ true → array.height ≡ height (unboxed array.tree)) → (place.checked ≡ true) × (99 < place.depth + (array.height + 1)) → Halted (StopOf (TooHigh rest)) place.checked place.depth postfix ts
post_high place ts array rest t behind p open' tall h =
    high_halted rest
    (tall_more postfix (ref primary) Bracketed (λ (e : Expr) (ws : List (V Bracketed)). selects e ws) opened (λ u x d. derives_rule Tree first_of rule action postfix u x d) (High place.depth postfix) p.begins p.goes_on
    (starts_there (text (codes "[")) open')
    (selects_over place.depth p.head (unboxed array.tree) p.tail p.same (over_by place.depth array.height (height (unboxed array.tree)) (tall h.0) h.1)))
    h.0

pub length_map : {A B : Type 0} (f : A → B) (xs : List A) → length (map f xs) ≡ length xs
length_map f [] = refl
length_map f (x ∷ xs) = ap suc (length_map f xs)

-- the height of an index
pub index_tall : (s : Site) (es : List Expr) (n m : ℕ) → (length es ≡ 1 → m ≡ n) → (length es ≢ 1 → IsAbove m n) → (n ≡ heights (exprs_of es)) × (heights (exprs_of es) ≤ 99) → (m ≡ height (index_of s es)) × (m ≤ 100)
index_tall s [] n m one several h = let a : m ≡ 1 + n = several (λ (e : 0 ≡ 1). absurd (omega arith)) (omega arith) in (omega arith, omega arith)
index_tall s (e ∷ []) n m one several h = let a : m ≡ n = one refl in (omega arith, omega arith)
index_tall s (e ∷ f ∷ es) n m one several h = let a : m ≡ 1 + n = several (λ (q : length (e ∷ f ∷ es) ≡ 1). absurd (omega arith)) (omega arith) in (omega arith, omega arith)

above_two : (node n m k l : ℕ) → IsAbove node (max n m) → n ≤ 100 → m ≤ 100 → n ≡ k → m ≡ l → node ≡ 1 + max k l
above_two node n m k l a small little e f = let h : node ≡ 1 + max n m = a (omega arith) in omega arith

-- the height of a selection
pub select_tall : (place : Place) (site : Site) (array node : Measured (Box Expression)) (es : List Expression) (v : V (listed (ref expression))) (n m : ℕ) (index tree' : Expr) → place.depth + (array.height + 1) ≤ 99 → array.height ≡ height (unboxed array.tree) → (map View.expr es ≡ items v) → (n ≡ heights (exprs_of (items v))) × (place.depth + heights (exprs_of (items v)) ≤ 99) → (length es ≡ 1 → m ≡ n) → (length es ≢ 1 → IsAbove m n) → IsAbove node.height (max array.height m) → index ≡ index_of site (map View.expr es) → tree' ≡ tree.select (unboxed array.tree) index site → node.height ≡ height tree'
select_tall place site array node es v n m index tree' room tall trees low one several above is whole =
    let low' : (n ≡ heights (exprs_of (map View.expr es))) × (heights (exprs_of (map View.expr es)) ≤ 99) = subst (λ l. (n ≡ heights (exprs_of l)) × (heights (exprs_of l) ≤ 99)) (sym trees) (low.0, omega (arith, low.1)) in
    let i = index_tall site (map View.expr es) n m (λ e. one (sym (length_map View.expr es) ∙ e)) (λ ne. several (λ e. ne (length_map View.expr es ∙ e))) low' in
    above_two node.height array.height m (height (unboxed array.tree)) (height index) above (omega arith) i.1 tall (i.0 ∙ ap height (sym is)) ∙ ap height (sym whole)

-- ---- generators

pub record GensRead (place : Place) (ts : List Lexeme) (gs : List Generator) (n : ℕ) (rest : List Lexeme) : Type 0 where
  pub parts : Parts (ref generator) ts (map View.generator gs) rest
  pub low : IsNear place n (gens_height (gens_of (map View.generator gs)))

pub gens_begin : (place : Place) (ts rest : List Lexeme) (gs : List Generator) → gs ≡ [] → rest ≡ ts → GensRead place ts gs 0 rest
gens_begin place ts rest gs e r = subst (λ l. GensRead place ts gs 0 l) (sym r) (subst (λ l. GensRead place ts l 0 ts) (sym e) (record { parts = no_parts; low = λ c. (refl, omega arith) }))

pub gens_next : (place : Place) (ts : List Lexeme) (gs : List Generator) (n : ℕ) (mid : List Lexeme) (x : Measured Generator) (rest : Bor (List Token)) (hs : List Generator) → GensRead place ts gs n mid → starts (text (codes "(") ∷ []) mid ≡ true → hs ≡ gs ++ (x.tree ∷ []) → IsPhraseNear place generator View.generator gen_height mid (Ok (x, rest)) → GensRead place ts hs (max n x.height) (lexemes_of rest.now)
gens_next place ts gs n mid x rest hs l s e f =
    let more : map View.generator (gs ++ (x.tree ∷ [])) ≡ map View.generator gs ++ (View.generator x.tree ∷ []) = map_append View.generator gs (x.tree ∷ []) in
    subst (λ l. GensRead place ts l (max n x.height) (lexemes_of rest.now)) (sym e) (record {
      parts = subst (λ l. Parts (ref generator) ts l (lexemes_of rest.now)) (sym more) (one_more_part l.parts s (read_ref f.0));
      low = λ c. near_max n x.height (gens_height (gens_of (map View.generator gs))) (gen_height (View.generator x.tree)) (gens_height (gens_of (map View.generator (gs ++ (x.tree ∷ []))))) (l.low c) (f.1 c) (ap (λ l. gens_height (gens_of l)) more ∙ gens_push (map View.generator gs) (View.generator x.tree));
    })

pub gens_whole : (place : Place) (ts : List Lexeme) (list : Measured (Vec Generator)) (rest : List Lexeme) → GensRead place ts list.tree.items list.height rest → starts (text (codes "(") ∷ []) rest ≡ false → (v : V (many (ref generator))) × Reading (many (ref generator)) ts v rest × IsGenerators place list v
gens_whole place ts list rest l s = (map View.generator list.tree.items, read_parts l.parts s, record { trees = refl; low = l.low })

pub gens_halts : {P : Stop → Type 0} {checked : Bool} {D : Nonterminal → ℕ} (place : Place) (ts : List Lexeme) (gs : List Generator) (n : ℕ) (mid : List Lexeme) → GensRead place ts gs n mid → starts (text (codes "(") ∷ []) mid ≡ true → Halted P checked (D generator) generator mid → Halts P checked D (many (ref generator)) ts
gens_halts {P} {checked} {D} place ts gs n mid l s h = stop_parts l.parts s (stop_ref h)

-- ---- statements

concat_append : (xs ys : List (List Stmt)) → concat (xs ++ ys) ≡ concat xs ++ concat ys
concat_append [] ys = refl
concat_append (x ∷ xs) ys = ap (λ l. x ++ l) (concat_append xs ys) ∙ sym (append_assoc x (concat xs) (concat ys))

pub record StmtsRead (place : Place) (ts : List Lexeme) (ss : List Statement) (n : ℕ) (rest : List Lexeme) : Type 0 where
  pub vs : List (List Stmt)
  pub parts : Parts (ref statement) ts vs rest
  pub trees : map View.stmt ss ≡ concat vs
  pub low : IsLow place n (block_height (block_of (map View.stmt ss)))

pub stmts_begin : (place : Place) (ts rest : List Lexeme) (ss : List Statement) → ss ≡ [] → rest ≡ ts → StmtsRead place ts ss 0 rest
stmts_begin place ts rest ss e r = subst (λ l. StmtsRead place ts ss 0 l) (sym r) (subst (λ l. StmtsRead place ts l 0 ts) (sym e) (record { vs = []; parts = no_parts; trees = refl; low = λ c. (refl, omega arith) }))

pub stmts_next : (place : Place) (ts : List Lexeme) (ss : List Statement) (n : ℕ) (mid : List Lexeme) (x : Measured (Vec Statement)) (rest : Bor (List Token)) (us : List Statement) → StmtsRead place ts ss n mid → starts (first_of statement) mid ≡ true → us ≡ ss ++ x.tree.items → IsBlockAt place statement itself mid (Ok (x, rest)) → StmtsRead place ts us (max n x.height) (lexemes_of rest.now)
stmts_next place ts ss n mid x rest us l s e f =
    let more : map View.stmt (ss ++ x.tree.items) ≡ map View.stmt ss ++ map View.stmt x.tree.items = map_append View.stmt ss x.tree.items in
    subst (λ l. StmtsRead place ts l (max n x.height) (lexemes_of rest.now)) (sym e) (record {
      vs = l.vs ++ (map View.stmt x.tree.items ∷ []);
      parts = one_more_part l.parts s (read_ref f.0);
      trees = more ∙ ap (λ l. l ++ map View.stmt x.tree.items) l.trees ∙ ap (λ r. concat l.vs ++ r) (sym (append-nil (map View.stmt x.tree.items))) ∙ sym (concat_append l.vs (map View.stmt x.tree.items ∷ []));
      low = λ c. flat_max n x.height (block_height (block_of (map View.stmt ss))) (block_height (block_of (map View.stmt x.tree.items))) (block_height (block_of (map View.stmt (ss ++ x.tree.items)))) (l.low c) (f.1 c) (ap (λ l. block_height (block_of l)) more ∙ stmts_append (map View.stmt ss) (map View.stmt x.tree.items));
    })

pub stmts_whole : (place : Place) (ts : List Lexeme) (list : Measured (Vec Statement)) (rest : List Lexeme) → StmtsRead place ts list.tree.items list.height rest → starts (first_of statement) rest ≡ false → (v : V (many (ref statement))) × Reading (many (ref statement)) ts v rest × AreStatements place list (concat v)
stmts_whole place ts list rest l s = (l.vs, read_parts l.parts s, record { trees = l.trees; low = subst (λ xs. IsLow place list.height (block_height (block_of xs))) l.trees l.low })

pub stmts_halts : {P : Stop → Type 0} {checked : Bool} {D : Nonterminal → ℕ} (place : Place) (ts : List Lexeme) (ss : List Statement) (n : ℕ) (mid : List Lexeme) → StmtsRead place ts ss n mid → starts (first_of statement) mid ≡ true → Halted P checked (D statement) statement mid → Halts P checked D (many (ref statement)) ts
stmts_halts {P} {checked} {D} place ts ss n mid l s h = stop_parts l.parts s (stop_ref h)
