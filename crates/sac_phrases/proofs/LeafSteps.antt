-- Steps of the functions on phrases without expressions.
use Rattle.std.proofs.Common.{ℕ, ◌≡◌, ◌≤◌, ◌+◌, max, Bool, true, false, List, [], ◌∷◌, ◌++◌, refl, sym, ap, ◌∙◌, subst, map, codes, arith, pos, Some, IsTrue}
use Rattle.std.specs.List.{All, AllByRecursion}
use Rattle.std.specs.Str.Parse.{digits_value}
use Rattle.std.specs.Global.{Vec, Box}
use Rattle.std.proofs.lemmas.List.Elements.{All-from_recursion}
use Rattle.sac_lex.specs.declared.token.TokenKind.{TokenKind}
use Rattle.sac_lex.specs.declared.token.TokenKind.TheVariants as kind
use Rattle.sac_lex.specs.Text.{IsTextOf}
use Rattle.sac_lex.specs.Spelling.{is_digit}
use Rattle.sac_base.specs.declared.op.Op.{Op}
use Rattle.sac_base.specs.declared.op.Op.TheVariants.{Add, Sub}
use Rattle.sac_base.specs.declared.site.Site.{Site}
use Rattle.sac_ast.specs.declared.Target.{Target}
use Rattle.sac_ast.specs.declared.Index.TheVariants.{Named, Parts as PartsOf}
use Rattle.sac_ast.specs.declared.Expression.{Expression}
use Rattle.sac_ast.specs.declared.Statement.{Statement}
use Rattle.sac_ast.specs.Texts.{Lexeme}
use Rattle.sac_ast.specs.Shape.{text, name, number, term, ref, seq, many}
use Rattle.sac_ast.specs.Grammar.{Nonterminal, Tree, Rule, V, rule, sign, items, target, to_variable, primary, index}
use Rattle.sac_ast.specs.Tree as tree
use Rattle.sac_ast.specs.Tree.{Expr, Stmt, IndexTree}
use Rattle.sac_ast.specs.View as View
use Rattle.sac_grammar.specs.Run.{starts}
use Rattle.sac_grammar.specs.Parsing.{Reading, Stop, Halts, Parts, nth}
use Rattle.sac_grammar.proofs.Parsing.{read_ref, read_then, read_first, read_second, found, stop_right, stop_parts, no_parts, one_more_part, read_parts}
use Rattle.sac_phrases.specs.declared.place.Place.{Place}
use Rattle.sac_phrases.specs.declared.place.Measured.{Measured}
use Rattle.sac_phrases.specs.Heights.{IsAbove}
use Rattle.sac_phrases.specs.Contract.{operator_of, unboxed}
use Rattle.sac_phrases.specs.Parts.{IsPrimary, AreTargets, Counts, IsCount}
use Rattle.sac_phrases.proofs.Steps.{At, operator_found, token_read, starts_there}

-- ---- numbers

digits_all : (t : List ℕ) → IsTextOf kind.Number t → AllByRecursion (λ d. IsTrue (is_digit d)) t
digits_all [] p = absurd p.0
digits_all (c ∷ cs) p = p.0

pub number_digits : (k : TokenKind) (t : List ℕ) → k ≡ kind.Number → IsTextOf k t → All (λ d. IsTrue (is_digit d)) t
number_digits k t e p = All-from_recursion (λ d. IsTrue (is_digit d)) t (digits_all t (subst (λ i. IsTextOf i t) e p))

pub number_small : (k : TokenKind) (t : List ℕ) → k ≡ kind.Number → IsTextOf k t → digits_value 10 t ≤ 2147483647
number_small k t e p = (let q : IsTextOf kind.Number t = subst (λ i. IsTextOf i t) e p in q.1)

-- ---- names with commas between them

abbrev pub CommaName : Rule
CommaName = seq (sign (codes ",")) (term name)

pub record NamesRead (first' : Lexeme) (ts : List Lexeme) (found' : List Target) (rest : List Lexeme) : Type 0 where
  pub tail : List (V CommaName)
  pub parts : Parts CommaName ts tail rest
  pub same : found' ≡ target first' ∷ map (λ (p : Lexeme × Lexeme). target p.1) tail

pub names_begin : (first' : Lexeme) (ts rest : List Lexeme) (x : Target) (found' : List Target) → x ≡ target first' → found' ≡ x ∷ [] → rest ≡ ts → NamesRead first' ts found' rest
names_begin first' ts rest x found' e f r = subst (λ l. NamesRead first' ts found' l) (sym r) (record { tail = []; parts = no_parts; same = f ∙ ap (λ y. y ∷ []) e })

map_append : {A B : Type 0} (f : A → B) (xs ys : List A) → map f (xs ++ ys) ≡ map f xs ++ map f ys
map_append f [] ys = refl
map_append f (x ∷ xs) ys = ap (λ l. f x ∷ l) (map_append f xs ys)

pub names_next : (first' : Lexeme) (ts : List Lexeme) (found' : List Target) (mid behind rest : List Lexeme) (t u : Lexeme) (x : Target) (more : List Target) → NamesRead first' ts found' mid → At (text (codes ",")) mid t behind → At name behind u rest → x ≡ target u → more ≡ found' ++ (x ∷ []) → NamesRead first' ts more rest
names_next first' ts found' mid behind rest t u x more n comma f e g = record {
  tail = n.tail ++ ((t, u) ∷ []);
  parts = one_more_part n.parts (starts_there (text (codes ",")) comma) (read_then (token_read comma) (token_read f));
  same = g ∙ ap (λ l. l ++ (x ∷ [])) n.same ∙ ap (λ y. target first' ∷ (map (λ (p : Lexeme × Lexeme). target p.1) n.tail ++ (y ∷ []))) e ∙ ap (λ l. target first' ∷ l) (sym (map_append (λ (p : Lexeme × Lexeme). target p.1) n.tail ((t, u) ∷ [])));
}

pub names_whole : (first' : Lexeme) (ts : List Lexeme) (list : Vec Target) (rest : List Lexeme) → NamesRead first' ts list.items rest → starts (text (codes ",") ∷ []) rest ≡ false → (v : V (many CommaName)) × Reading (many CommaName) ts v rest × AreTargets first' list v
names_whole first' ts list rest n s = (n.tail, read_parts n.parts s, n.same)

pub names_halts : {P : Stop → Type 0} {checked : Bool} {D : Nonterminal → ℕ} (first' : Lexeme) (ts : List Lexeme) (found' : List Target) (mid behind : List Lexeme) (t : Lexeme) → NamesRead first' ts found' mid → At (text (codes ",")) mid t behind → Halts P checked D (term name) behind → Halts P checked D (many CommaName) ts
names_halts {P} {checked} {D} first' ts found' mid behind t n comma h = stop_parts n.parts (starts_there (text (codes ",")) comma) (stop_right (token_read comma) h)

-- ---- indices

pub named_read : (ts rest : List Lexeme) (t : Lexeme) (x : Target) → At name ts t rest → x ≡ target t → (v : Tree index) × Reading (ref index) ts v rest × (View.index_view (Named x) ≡ v)
named_read ts rest t x f e = (tree.named (target t), read_ref (found (read_first (starts_there name f) (token_read f))), ap tree.named e)

map_twice : (ns : List (Lexeme × Lexeme)) → map (λ (p : Lexeme × Lexeme). target p.1) ns ≡ map target (map (λ (p : Lexeme × Lexeme). p.1) ns)
map_twice [] = refl
map_twice (n ∷ ns) = ap (λ l. target n.1 ∷ l) (map_twice ns)

pub names_read : (ts : List Lexeme) {a b c rest : List Lexeme} {l t r : Lexeme} (list : Vec Target) (ns : V (many CommaName)) → starts (name ∷ []) ts ≡ false → At (text (codes "[")) ts l a → At name a t b → Reading (many CommaName) b ns c → AreTargets t list ns → At (text (codes "]")) c r rest → (v : Tree index) × Reading (ref index) ts v rest × (View.index_view (PartsOf list) ≡ v)
names_read ts {a} {b} {c} {rest} {l} {t} {r} list ns s o f g m close = (tree.parts (map target (items (t, ns))), read_ref (found (read_second s (read_then (token_read o) (read_then (read_then (token_read f) g) (token_read close))))), ap tree.parts (m ∙ ap (λ xs. target t ∷ xs) (map_twice ns)))

-- ---- the assignment of an operator's result

pub update_tree : (t : Lexeme) (op : Op) (site : Site) (operand value' e : Expr) (list : List Target) (s : Stmt) → operand ≡ to_variable t → value' ≡ tree.binary op operand e site → list ≡ target t ∷ [] → s ≡ tree.assign list value' → s ≡ tree.assign (target t ∷ []) (tree.binary op (to_variable t) e site)
update_tree t op site operand value' e list s f g h k =
    k ∙ ap (λ l. tree.assign l value') h ∙ ap (tree.assign (target t ∷ [])) (g ∙ ap (λ v. tree.binary op v e site) f)

pub update_tall : (node binary variable n : ℕ) → variable ≡ 1 → IsAbove binary (max variable n) → IsAbove node binary → n ≤ 99 → node ≡ 1 + (1 + max 1 n)
update_tall node binary variable n e f g h = let p : binary ≡ 1 + max variable n = f (omega arith) in let q : node ≡ 1 + binary = g (omega arith) in omega arith

step_tall : (node n : ℕ) → n ≡ 1 → (n ≤ 99 → node ≡ 1 + (1 + max 1 n)) → node ≡ 1 + (1 + max 1 1)
step_tall node n e f = let p : node ≡ 1 + (1 + max 1 n) = f (omega arith) in omega arith

pub step_read : (place : Place) (t : Lexeme) {ts rest : List Lexeme} (op : Op) (site : Site) (one : Measured (Box Expression)) (node : Measured Statement) (u : Lexeme) → operator_of ((codes "++", Add) ∷ (codes "--", Sub) ∷ []) ts ≡ Some (op, site) → ts ≡ u ∷ rest → unboxed one.tree ≡ tree.number (pos 1) site → one.height ≡ 1 → View.stmt node.tree ≡ tree.assign (target t ∷ []) (tree.binary op (to_variable t) (unboxed one.tree) site) → (one.height ≤ 99 → node.height ≡ 1 + (1 + max 1 one.height)) → (v : V Counts) × Reading Counts ts v rest × IsCount place t node v
step_read place t {ts} {rest} op site one node u o split e h whole above =
    let f = operator_found (codes "++", Add) ((codes "--", Sub) ∷ []) o split in (
      f.value,
      f.reads,
      record {
        tree = whole ∙ ap (λ x. tree.assign (target t ∷ []) (tree.binary op (to_variable t) x site)) e ∙ ap (λ (c : Op × Site). tree.assign (target t ∷ []) (tree.binary c.0 (to_variable t) (tree.number (pos 1) c.1) c.1)) (sym f.is);
        tall = λ k. step_tall node.height one.height h above;
      },
    )

-- ---- numbers and truth values as expressions

pub number_read : (place : Place) {ts rest : List Lexeme} {t : Lexeme} (node : Measured (Box Expression)) → At number ts t rest → unboxed node.tree ≡ tree.number (pos (digits_value 10 t.text)) t.site → node.height ≡ 1 → (v : V (nth 0 (rule primary))) × Reading (nth 0 (rule primary)) ts v rest × IsPrimary place 0 node v
number_read place {ts} {rest} {t} node f tr h = (t, token_read f, record { tree = tr; tall = λ c. h })

pub true_read : (place : Place) {ts rest : List Lexeme} {t : Lexeme} (node : Measured (Box Expression)) → At (text (codes "true")) ts t rest → unboxed node.tree ≡ tree.truth true t.site → node.height ≡ 1 → (v : V (nth 1 (rule primary))) × Reading (nth 1 (rule primary)) ts v rest × IsPrimary place 1 node v
true_read place {ts} {rest} {t} node f tr h = (t, token_read f, record { tree = tr; tall = λ c. h })

pub false_read : (place : Place) {ts rest : List Lexeme} {t : Lexeme} (node : Measured (Box Expression)) → At (text (codes "false")) ts t rest → unboxed node.tree ≡ tree.truth false t.site → node.height ≡ 1 → (v : V (nth 2 (rule primary))) × Reading (nth 2 (rule primary)) ts v rest × IsPrimary place 2 node v
false_read place {ts} {rest} {t} node f tr h = (t, token_read f, record { tree = tr; tall = λ c. h })
