-- Steps of the functions on with-loops: what they have read.
use Rattle.std.proofs.Common.{ℕ, ◌≡◌, ◌≤◌, ◌+◌, max, Bool, true, false, List, [], ◌∷◌, inl, inr, Result, Ok, Err, refl, sym, ap, ◌∙◌, subst, codes, arith, Bor, Option, Some, None}
use Rattle.std.specs.Global.{Vec, Box}
use Rattle.sac_lex.specs.declared.token.Token.{Token}
use Rattle.sac_base.specs.declared.op.Op.{Op}
use Rattle.sac_base.specs.declared.op.Op.TheVariants.{Add, Mul, Min, Max, And, Or}
use Rattle.sac_base.specs.declared.site.Site.{Site}
use Rattle.sac_ast.specs.declared.Expression.{Expression}
use Rattle.sac_ast.specs.declared.Statement.{Statement}
use Rattle.sac_ast.specs.declared.Bound.{Bound}
use Rattle.sac_ast.specs.declared.Index.{Index}
use Rattle.sac_ast.specs.declared.Generator.{Generator}
use Rattle.sac_ast.specs.declared.Operation.{Operation}
use Rattle.sac_ast.specs.Texts.{Lexeme}
use Rattle.sac_ast.specs.Shape.{text, ref, seq, alt}
use Rattle.sac_ast.specs.Grammar.{Nonterminal, Tree, Rule, V, rule, action, sign, opt, parens, maybe, is_there, body_or_none, expression, sum, generator, bound, index, operation, block}
use Rattle.sac_ast.specs.Heights.{height, maybe_height, bound_height, block_height, gen_height, operation_height}
use Rattle.sac_ast.specs.Tree as tree
use Rattle.sac_ast.specs.Tree.{Expr, BoundTree, MaybeExpr, IndexTree, Block, Gen, OperationTree}
use Rattle.sac_ast.specs.View as View
use Rattle.sac_ast.specs.View.{block_of, maybe_of}
use Rattle.sac_ast.proofs.Views.{generator_is}
use Rattle.sac_grammar.specs.Run.{starts, first}
use Rattle.sac_grammar.specs.Tables.{first_of}
use Rattle.sac_grammar.specs.High.{HasHigh}
use Rattle.sac_grammar.specs.Limits.{High, Over}
use Rattle.sac_grammar.specs.Parsing.{Found, Reading, Halts, nth, is_apart}
use Rattle.sac_grammar.proofs.Grows.{no_op}
use Rattle.sac_grammar.proofs.Deeper.{Deeper}
use Rattle.sac_grammar.proofs.Parsing.{read_ref, read_then, read_first, read_second, found}
use Rattle.sac_phrases.specs.declared.halt.Halt.{Halt}
use Rattle.sac_phrases.specs.declared.place.Place.{Place}
use Rattle.sac_phrases.specs.declared.place.Measured.{Measured}
use Rattle.sac_phrases.specs.Heights.{IsAbove}
use Rattle.sac_phrases.specs.Contract.{StopOf, lexemes_of, IsLowAt, IsNear, IsKept, IsPhraseAt, IsPhraseNear, IsPartAt, operator_of, unboxed}
use Rattle.sac_phrases.specs.Parts.{IsInParens, IsMaybe, IsOperation, IsOperationOf, IsBlockOf, IsRelation}
use Rattle.sac_phrases.proofs.Steps.{At, operator_found, token_read, starts_there, kept_phrase, part_nth, part_second}
use Rattle.sac_descent.proofs.DeepSteps.{stops_deep}

-- ---- bounds

pub dot_read : (place : Place) (ts : List Lexeme) (t : Lexeme) (node : Measured Bound) (rest : List Token) (result : Result (Measured Bound × Bor (List Token)) Halt) → At (text (codes ".")) ts t (lexemes_of rest) → View.bound node.tree ≡ tree.dot t.site → node.height ≡ 0 → IsKept place node rest result → IsPhraseAt place bound View.bound bound_height ts result
dot_read place ts t node rest result f tr h kept = kept_phrase place bound View.bound bound_height ts node rest (tree.dot t.site) result refl kept (λ e w. w) (λ c. h) tr (found (read_first (starts_there (text (codes ".")) f) (token_read f)))

pub given_read : (place : Place) (ts rest : List Lexeme) (x : Measured (Box Expression)) (node : Measured Bound) → starts (text (codes ".") ∷ []) ts ≡ false → Found sum ts (unboxed x.tree) rest × IsLowAt place x.height (height (unboxed x.tree)) → View.bound node.tree ≡ tree.at (unboxed x.tree) → node.height ≡ x.height → Found bound ts (View.bound node.tree) rest × IsLowAt place node.height (bound_height (View.bound node.tree))
given_read place ts rest x node s f tr h = (
  subst (λ (b : BoundTree). Found bound ts b rest) (sym tr) (found (read_second s (read_ref f.0))),
  λ c. subst (λ (b : BoundTree). (node.height ≡ bound_height b) × (place.depth + bound_height b ≤ 99)) (sym tr) (h ∙ (f.1 c).0, (f.1 c).1),
)

-- ---- what may be left out

flat_of : (d n m k : ℕ) → m ≡ n → (n ≡ k) × (d + k ≤ 99) → (m ≡ k) × (k ≤ 99)
flat_of d n m k e h = (omega arith, omega arith)

pub maybe_none : (place : Place) (s : Rule) (ts : List Lexeme) (node : Measured (Option Expression)) → (node.tree ≡ None) × (node.height ≡ 0) → IsMaybe place node (inr tt)
maybe_none place s ts node h = record { tree = ap View.maybe h.0; low = λ c. (h.1, omega arith) }

pub maybe_some : (place : Place) (t : Lexeme) (x : Measured (Box Expression)) (node : Measured (Option Expression)) → IsLowAt place x.height (height (unboxed x.tree)) → (node.tree ≡ Some x.tree.value) × (node.height ≡ x.height) → IsMaybe place node (inl (t, unboxed x.tree))
maybe_some place t x node low h = record { tree = ap View.maybe h.0; low = λ c. flat_of place.depth x.height node.height (height (unboxed x.tree)) h.1 (low c) }

-- ---- operations

abbrev OperationAt : Place → ℕ → Measured Operation → List Lexeme → List Lexeme → Type 0
OperationAt place n node ts rest = (v : V (nth n (rule operation))) × Reading (nth n (rule operation)) ts v rest × IsOperation place n node v

genarray_tall : (node n m k l d : ℕ) → IsAbove node (max n m) → (n ≡ k) × (d + k ≤ 99) → (m ≡ l) × (l ≤ 99) → (node ≡ 1 + max k l) × (1 + max k l ≤ 100)
genarray_tall node n m k l d a h g = let e : node ≡ 1 + max n m = a (omega arith) in (omega arith, omega arith)

modarray_tall : (node n k d : ℕ) → IsAbove node n → (n ≡ k) × (d + k ≤ 99) → (node ≡ 1 + k) × (1 + k ≤ 100)
modarray_tall node n k d a h = let e : node ≡ 1 + n = a (omega arith) in (omega arith, omega arith)

pub genarray_read : (place : Place) {ts a b c d rest : List Lexeme} {w l r : Lexeme} (x : Measured (Box Expression)) (y : Measured (Option Expression)) (node : Measured Operation) (v : V (opt (seq (sign (codes ",")) (ref expression)))) → At (text (codes "genarray")) ts w a → At (text (codes "(")) a l b → Found expression b (unboxed x.tree) c × IsLowAt place x.height (height (unboxed x.tree)) → Reading (opt (seq (sign (codes ",")) (ref expression))) c v d → IsMaybe place y v → At (text (codes ")")) d r rest → View.operation node.tree ≡ tree.genarray (unboxed x.tree) (View.maybe y.tree) w.site → IsAbove node.height (max x.height y.height) → OperationAt place 0 node ts rest
genarray_read place {ts} {a} {b} {c} {d} {rest} {w} {l} {r} x y node v f o g h m close tr above = (
  (w, (l, ((unboxed x.tree, v), r))),
  read_then (token_read f) (read_then (token_read o) (read_then (read_then (read_ref g.0) h) (token_read close))),
  record {
    tree = tr ∙ ap (λ e. tree.genarray (unboxed x.tree) e w.site) m.tree;
    low = λ q. genarray_tall node.height x.height y.height (height (unboxed x.tree)) (maybe_height (maybe v)) place.depth above (g.1 q) (m.low q);
  },
)

pub modarray_read : (place : Place) {ts a rest : List Lexeme} {w : Lexeme} (x : Measured (Box Expression)) (node : Measured Operation) (v : V (parens (ref expression))) → At (text (codes "modarray")) ts w a → Reading (parens (ref expression)) a v rest → IsInParens place x v → View.operation node.tree ≡ tree.modarray (unboxed x.tree) w.site → IsAbove node.height x.height → OperationAt place 1 node ts rest
modarray_read place {ts} {a} {rest} {w} x node v f g m tr above = (
  (w, v),
  read_then (token_read f) g,
  record {
    tree = tr ∙ ap (λ e. tree.modarray e w.site) m.tree;
    low = λ q. modarray_tall node.height x.height (height v.1.0) place.depth above (m.low q);
  },
)

abbrev first_fold : List ℕ × Op
first_fold = (codes "+", Add)

abbrev folds : List (List ℕ × Op)
folds = (codes "*", Mul) ∷ (codes "min", Min) ∷ (codes "max", Max) ∷ (codes "&&", And) ∷ (codes "||", Or) ∷ []

pub fold_read : (place : Place) {ts a b c d e rest : List Lexeme} {w l k r : Lexeme} (op : Op) (site : Site) (x : Measured (Box Expression)) (node : Measured Operation) (t : Lexeme) → At (text (codes "fold")) ts w a → At (text (codes "(")) a l b → operator_of (first_fold ∷ folds) b ≡ Some (op, site) → b ≡ t ∷ c → At (text (codes ",")) c k d → Found expression d (unboxed x.tree) e × IsLowAt place x.height (height (unboxed x.tree)) → At (text (codes ")")) e r rest → View.operation node.tree ≡ tree.fold op (unboxed x.tree) w.site → IsAbove node.height x.height → OperationAt place 2 node ts rest
fold_read place {ts} {a} {b} {c} {d} {e} {rest} {w} {l} {k} {r} op site x node t f o p split comma g close tr above =
    let q = operator_found first_fold folds p split in (
      (w, (l, ((q.value, (k, unboxed x.tree)), r))),
      read_then (token_read f) (read_then (token_read o) (read_then (read_then q.reads (read_then (token_read comma) (read_ref g.0))) (token_read close))),
      record {
        tree = tr ∙ ap (λ (y : Op × Site). tree.fold y.0 (unboxed x.tree) w.site) (sym q.is);
        low = λ z. modarray_tall node.height x.height (height (unboxed x.tree)) place.depth above (g.1 z);
      },
    )

operation_deeper : (d e : ℕ) → Deeper d e → (v : V (rule operation)) → HasHigh Tree first_of (λ (j : Nonterminal). High e j) (rule operation) v → High d operation (action operation v)
operation_deeper d e up (inl (t, (l, ((x, y), r)))) (inl h) = absurd h
operation_deeper d e up (inl (t, (l, ((x, y), r)))) (inr (inl h)) = absurd h
operation_deeper d e up (inl (t, (l, ((x, y), r)))) (inr (inr (inl (inl h)))) = let k = up (height x) h in omega arith
operation_deeper d e up (inl (t, (l, ((x, inl (c, y)), r)))) (inr (inr (inl (inr (inl h))))) = absurd h
operation_deeper d e up (inl (t, (l, ((x, inl (c, y)), r)))) (inr (inr (inl (inr (inr h))))) = let k = up (height y) h in omega arith
operation_deeper d e up (inl (t, (l, ((x, inr u), r)))) (inr (inr (inl (inr h)))) = absurd h
operation_deeper d e up (inl (t, (l, ((x, y), r)))) (inr (inr (inr h))) = absurd h
operation_deeper d e up (inr (inl (t, (l, (x, r))))) (inl h) = absurd h
operation_deeper d e up (inr (inl (t, (l, (x, r))))) (inr (inl h)) = absurd h
operation_deeper d e up (inr (inl (t, (l, (x, r))))) (inr (inr (inl h))) = up (height x) h
operation_deeper d e up (inr (inl (t, (l, (x, r))))) (inr (inr (inr h))) = absurd h
operation_deeper d e up (inr (inr (t, (l, ((o, (c, x)), r))))) (inl h) = absurd h
operation_deeper d e up (inr (inr (t, (l, ((o, (c, x)), r))))) (inr (inl h)) = absurd h
operation_deeper d e up (inr (inr (t, (l, ((o, (c, x)), r))))) (inr (inr (inl (inl h)))) = no_op (λ (j : Nonterminal). High e j) first_fold folds o h
operation_deeper d e up (inr (inr (t, (l, ((o, (c, x)), r))))) (inr (inr (inl (inr (inl h))))) = absurd h
operation_deeper d e up (inr (inr (t, (l, ((o, (c, x)), r))))) (inr (inr (inl (inr (inr h))))) = up (height x) h
operation_deeper d e up (inr (inr (t, (l, ((o, (c, x)), r))))) (inr (inr (inr h))) = absurd h

operation_part : (place inner : Place) (ts : List Lexeme) (result : Result (Measured Operation × Bor (List Token)) Halt) → inner.checked ≡ place.checked → Deeper place.depth inner.depth → IsPartAt inner (rule operation) (IsOperationOf inner) ts result → IsPhraseNear place operation View.operation operation_height ts result
operation_part place inner ts (Ok x) k up (v, f, m) = (subst (λ (o : OperationTree). Found operation ts o (lexemes_of x.1.now)) (sym m.tree) (found f), λ c. subst (λ (o : OperationTree). (x.0.height ≡ operation_height o) × (operation_height o ≤ 100)) (sym m.tree) (m.low (k ∙ c)))
operation_part place inner ts (Err e) k up h = stops_deep (operation_deeper place.depth inner.depth up) (subst (λ b. Halts (StopOf e) b (λ _. inner.depth) (rule operation) ts) k h)

pub operation_nth : (place inner : Place) (n : ℕ) (ts : List Lexeme) (result : Result (Measured Operation × Bor (List Token)) Halt) → inner.checked ≡ place.checked → Deeper place.depth inner.depth → is_apart n (rule operation) ≡ true → starts (first first_of (nth n (rule operation))) ts ≡ true → IsPartAt inner (nth n (rule operation)) (IsOperation inner n) ts result → IsPhraseNear place operation View.operation operation_height ts result
operation_nth place inner n ts result k up apart s h = operation_part place inner ts result k up (part_nth inner n (rule operation) (IsOperationOf inner) ts result apart s h)

-- the last alternative, where no other begins
pub operation_last : (place inner : Place) (ts : List Lexeme) (result : Result (Measured Operation × Bor (List Token)) Halt) → inner.checked ≡ place.checked → Deeper place.depth inner.depth → starts (text (codes "genarray") ∷ []) ts ≡ false → starts (text (codes "modarray") ∷ []) ts ≡ false → IsPartAt inner (nth 2 (rule operation)) (IsOperation inner 2) ts result → IsPhraseNear place operation View.operation operation_height ts result
operation_last place inner ts result k up s t h = operation_part place inner ts result k up (part_second inner (nth 0 (rule operation)) (alt (nth 1 (rule operation)) (nth 2 (rule operation))) (IsOperationOf inner) ts result s (part_second inner (nth 1 (rule operation)) (nth 2 (rule operation)) (λ x v. IsOperationOf inner x (inr v)) ts result t h))

-- ---- generators

abbrev pub Relation : Rule
Relation = alt (sign (codes "<=")) (sign (codes "<"))

abbrev pub Step : List ℕ → Rule
Step word = opt (seq (sign word) (ref sum))

gen_tall : (node a b c d e f p q r s t u w : ℕ) → IsAbove node (max a (max b (max c (max d (max e f))))) → (a ≡ p) × (w + p ≤ 99) → (b ≡ q) × (w + q ≤ 99) → (c ≡ r) × (r ≤ 99) → (d ≡ s) × (s ≤ 99) → (e ≡ t) × (t ≤ 99) → (f ≡ u) × (w + u ≤ 99) → (node ≡ 1 + max p (max q (max r (max s (max t u))))) × (1 + max p (max q (max r (max s (max t u)))) ≤ 100)
gen_tall node a b c d e f p q r s t u w above ha hb hc hd he hf =
    let h1 : max e f ≡ max t u = omega arith in
    let h2 : max d (max e f) ≡ max s (max t u) = omega arith in
    let h3 : max c (max d (max e f)) ≡ max r (max s (max t u)) = omega arith in
    let h4 : max b (max c (max d (max e f))) ≡ max q (max r (max s (max t u))) = omega arith in
    let l1 : max t u ≤ 99 = omega arith in
    let l2 : max s (max t u) ≤ 99 = omega arith in
    let l3 : max r (max s (max t u)) ≤ 99 = omega arith in
    let l4 : max q (max r (max s (max t u))) ≤ 99 = omega arith in
    final node a (max b (max c (max d (max e f)))) p (max q (max r (max s (max t u)))) w above ha h4 l4
  where
    final : (node a m p k w : ℕ) → IsAbove node (max a m) → (a ≡ p) × (w + p ≤ 99) → m ≡ k → k ≤ 99 → (node ≡ 1 + max p k) × (1 + max p k ≤ 100)
    final node a m p k w above ha e l = let g : node ≡ 1 + max a m = above (omega arith) in (omega arith, omega arith)

-- the parts of a generator, and its tree
pub record IsGen (place : Place) (g : Generator) (height' : ℕ) (low up : Measured Bound) (lc uc : Bool) (i : Index) (st w : Measured (Option Expression)) (b : Measured (Vec Statement)) (e : Measured (Box Expression)) (site : Site) : Type 0 where
  pub tree : View.generator g ≡ tree.gen (View.bound low.tree) lc (View.index_view i) (View.bound up.tree) uc (View.maybe st.tree) (View.maybe w.tree) (View.block b.tree.items) (unboxed e.tree) site
  pub above : IsAbove height' (max low.height (max up.height (max st.height (max w.height (max b.height e.height)))))

-- the tree of a generator whose cell was in a box
pub gen_cell : (g : Generator) (e : Box Expression) → g.cell ≡ e.value → View.generator g ≡ tree.gen (View.bound g.lower) g.lower_closed (View.index_view g.index) (View.bound g.upper) g.upper_closed (View.maybe g.step) (View.maybe g.width) (View.block g.body.items) (unboxed e) g.site
gen_cell g e same = generator_is g ∙ ap (λ (x : Expression). tree.gen (View.bound g.lower) g.lower_closed (View.index_view g.index) (View.bound g.upper) g.upper_closed (View.maybe g.step) (View.maybe g.width) (View.block g.body.items) (View.expr x) g.site) same

abbrev pub Inside : Rule
Inside = seq (ref bound) (seq Relation (seq (ref index) (seq Relation (seq (ref bound) (seq (Step (codes "step")) (Step (codes "width")))))))

gen_same : (l : BoundTree) (lc lc' : Bool) (i i' : IndexTree) (u : BoundTree) (uc uc' : Bool) (st st' w w' : MaybeExpr) (b b' : Block) (e : Expr) (s : Site) → lc ≡ lc' → i ≡ i' → uc ≡ uc' → st ≡ st' → w ≡ w' → b ≡ b' → tree.gen l lc i u uc st w b e s ≡ tree.gen l lc' i' u uc' st' w' b' e s
gen_same l lc lc' i i' u uc uc' st st' w w' b b' e s p q r x y z = λ j. tree.gen l (p j) (q j) u (r j) (x j) (y j) (z j) e s

pub generator_read : (place : Place) (ts : List Lexeme) {p a b c d f g h k m n o : List Lexeme} (rest : List Lexeme) (l cl co sc : Lexeme) (low up : Measured Bound) (lc uc : Bool) (i : Index) (st w : Measured (Option Expression)) (body : Measured (Vec Statement)) (e : Measured (Box Expression)) (node : Measured Generator) (vlc vuc : V Relation) (vi : Tree index) (vst : V (Step (codes "step"))) (vw : V (Step (codes "width"))) (vb : V (opt (ref block))) →
    At (text (codes "(")) ts l p → Found bound p (View.bound low.tree) a × IsLowAt place low.height (bound_height (View.bound low.tree)) → Reading Relation a vlc b → IsRelation lc vlc → Reading (ref index) b vi c → View.index_view i ≡ vi → Reading Relation c vuc d → IsRelation uc vuc → Found bound d (View.bound up.tree) f × IsLowAt place up.height (bound_height (View.bound up.tree)) → Reading (Step (codes "step")) f vst g → IsMaybe place st vst → Reading (Step (codes "width")) g vw h → IsMaybe place w vw → At (text (codes ")")) h cl k →
    Reading (opt (ref block)) k vb m → IsBlockOf place body vb → At (text (codes ":")) m co n → Found expression n (unboxed e.tree) o × IsLowAt place e.height (height (unboxed e.tree)) → At (text (codes ";")) o sc rest → IsGen place node.tree node.height low up lc uc i st w body e l.site → Found generator ts (View.generator node.tree) rest × IsNear place node.height (gen_height (View.generator node.tree))
generator_read place ts {p} {a} {b} {c} {d} {f} {g} {h} {k} {m} {n} {o} rest l cl co sc low up lc uc i st w body e node vlc vuc vi vst vw vb open' rlow rlc mlc ri mi ruc muc rup rst mst rw' mw close rb mb colon re semi gen =
    let v : V (rule generator) = ((l, ((View.bound low.tree, (vlc, (vi, (vuc, (View.bound up.tree, (vst, vw)))))), cl)), (vb, (co, (unboxed e.tree, sc)))) in
    let tree' : View.generator node.tree ≡ action generator v = gen.tree ∙ gen_same (View.bound low.tree) lc (is_there vlc) (View.index_view i) vi (View.bound up.tree) uc (is_there vuc) (View.maybe st.tree) (maybe vst) (View.maybe w.tree) (maybe vw) (View.block body.tree.items) (block_of (body_or_none vb)) (unboxed e.tree) l.site mlc mi muc mst.tree mw.tree (ap block_of mb.trees) in (
      subst (λ (x : Gen). Found generator ts x rest) (sym tree') (found (read_then (read_then (token_read open') (read_then (read_then (read_ref rlow.0) (read_then rlc (read_then ri (read_then ruc (read_then (read_ref rup.0) (read_then rst rw')))))) (token_read close))) (read_then rb (read_then (token_read colon) (read_then (read_ref re.0) (token_read semi)))))),
      λ q. subst (λ (x : Gen). (node.height ≡ gen_height x) × (gen_height x ≤ 100)) (sym tree') (gen_tall node.height low.height up.height st.height w.height body.height e.height (bound_height (View.bound low.tree)) (bound_height (View.bound up.tree)) (maybe_height (maybe vst)) (maybe_height (maybe vw)) (block_height (block_of (body_or_none vb))) (height (unboxed e.tree)) place.depth gen.above (rlow.1 q) (rup.1 q) (mst.low q) (mw.low q) (mb.low q) (re.1 q)),
    )

-- ---- a generator with a part that is too high one node deeper

no_relation : (e : ℕ) (v : V Relation) → HasHigh Tree first_of (λ (j : Nonterminal). High e j) Relation v → ⊥
no_relation e (inl t) h = h
no_relation e (inr t) h = h

step_deeper : (e : ℕ) (word : List ℕ) (v : V (Step word)) → HasHigh Tree first_of (λ (j : Nonterminal). High e j) (Step word) v → Over e (maybe_height (maybe v))
step_deeper e word (inl v) (inl h) = absurd h
step_deeper e word (inl v) (inr h) = h
step_deeper e word (inr u) h = absurd h

block_deeper : (e : ℕ) (b : V (opt (ref block))) → HasHigh Tree first_of (λ (j : Nonterminal). High e j) (opt (ref block)) b → Over e (block_height (block_of (body_or_none b)))
block_deeper e (inl b) h = h
block_deeper e (inr u) h = absurd h

pub generator_deeper : (d e : ℕ) → Deeper d e → (v : V (rule generator)) → HasHigh Tree first_of (λ (j : Nonterminal). High e j) (rule generator) v → High d generator (action generator v)
generator_deeper d e up ((l, ((low, (lc, (i, (uc, (ub, (s, w)))))), r)), (b, (c, (x, z)))) (inl (inl h)) = absurd h
generator_deeper d e up ((l, ((low, (lc, (i, (uc, (ub, (s, w)))))), r)), (b, (c, (x, z)))) (inl (inr (inl (inl h)))) = let k = up (bound_height low) h in omega arith
generator_deeper d e up ((l, ((low, (lc, (i, (uc, (ub, (s, w)))))), r)), (b, (c, (x, z)))) (inl (inr (inl (inr (inl h))))) = absurd (no_relation e lc h)
generator_deeper d e up ((l, ((low, (lc, (i, (uc, (ub, (s, w)))))), r)), (b, (c, (x, z)))) (inl (inr (inl (inr (inr (inl h)))))) = absurd h
generator_deeper d e up ((l, ((low, (lc, (i, (uc, (ub, (s, w)))))), r)), (b, (c, (x, z)))) (inl (inr (inl (inr (inr (inr (inl h))))))) = absurd (no_relation e uc h)
generator_deeper d e up ((l, ((low, (lc, (i, (uc, (ub, (s, w)))))), r)), (b, (c, (x, z)))) (inl (inr (inl (inr (inr (inr (inr (inl h)))))))) = let k = up (bound_height ub) h in omega arith
generator_deeper d e up ((l, ((low, (lc, (i, (uc, (ub, (s, w)))))), r)), (b, (c, (x, z)))) (inl (inr (inl (inr (inr (inr (inr (inr (inl h))))))))) = let k = up (maybe_height (maybe s)) (step_deeper e (codes "step") s h) in omega arith
generator_deeper d e up ((l, ((low, (lc, (i, (uc, (ub, (s, w)))))), r)), (b, (c, (x, z)))) (inl (inr (inl (inr (inr (inr (inr (inr (inr h))))))))) = let k = up (maybe_height (maybe w)) (step_deeper e (codes "width") w h) in omega arith
generator_deeper d e up ((l, ((low, (lc, (i, (uc, (ub, (s, w)))))), r)), (b, (c, (x, z)))) (inl (inr (inr h))) = absurd h
generator_deeper d e up ((l, ((low, (lc, (i, (uc, (ub, (s, w)))))), r)), (b, (c, (x, z)))) (inr (inl h)) = let k = up (block_height (block_of (body_or_none b))) (block_deeper e b h) in omega arith
generator_deeper d e up ((l, ((low, (lc, (i, (uc, (ub, (s, w)))))), r)), (b, (c, (x, z)))) (inr (inr (inl h))) = absurd h
generator_deeper d e up ((l, ((low, (lc, (i, (uc, (ub, (s, w)))))), r)), (b, (c, (x, z)))) (inr (inr (inr (inl h)))) = let k = up (height x) h in omega arith
generator_deeper d e up ((l, ((low, (lc, (i, (uc, (ub, (s, w)))))), r)), (b, (c, (x, z)))) (inr (inr (inr (inr h)))) = absurd h
