-- The texts of each tree are read as it, aside from sites.
use Rattle.std.proofs.Common.{ℕ, ◌≡◌, ◌<◌, ◌^◌, Bool, true, false, ◌&&◌, List, [], ◌∷◌, ◌++◌, map, ◌⊎◌, inl, inr, codes, refl, sym, ap, ◌∙◌, subst, append_assoc, append-nil, arith, pos}
use Rattle.std.specs.Fmt.{decimal}
use Rattle.std.specs.Str.Parse.{digits_value, IsNumeral}
use Rattle.std.proofs.lemmas.Str.Parse.{numerals_by_value, tells_all_ascii_digits}
use Rattle.std.proofs.lemmas.Fmt.{decimal_is_IsNumeral}
use Rattle.std.specs.Char.{is_ascii_digit}
use Rattle.std.specs.Str.{all_ascii_digits}
use Rattle.sac_base.specs.declared.site.Site.{Site}
use Rattle.sac_base.specs.declared.op.Op.{Op}
use Rattle.sac_base.specs.declared.op.Op.TheVariants.{Add, Sub, Mul, Div, Rem, Min, Max, Neg, Not, Eq, Ne, Lt, Le, Gt, Ge, And, Or}
use Rattle.sac_ast.specs.declared.Builtin.TheVariants as built
use Rattle.sac_ast.specs.Texts.{Lexeme, is_name, is_number}
use Rattle.sac_ast.specs.Shape.{seq, ref, many}
use Rattle.sac_ast.specs.Grammar.{expression, postfix, primary, Rule, Tree, rule, action, V, sign, opt, selects, index_of, items, maybe_items}
use Rattle.sac_ast.specs.View.{exprs_of}
use Rattle.sac_ast.specs.Tree as tree
use Rattle.sac_ast.specs.Tree.{Expr, Exprs, no_exprs, expr_and}
use Rattle.sac_grammar.proofs.Levels.{derives_rule}
use Rattle.sac_print.specs.declared.level.Level.{Level}
use Rattle.sac_print.specs.declared.level.Level.TheVariants as level
use Rattle.sac_print.specs.Texts.{Texts, ◌⋅◌, one}
use Rattle.sac_print.specs.Operators.{operator_text, level_of, tighter, tightness, is_looser, opening, closing, is_function}
use Rattle.sac_print.specs.Canonical.{brackets, spell, spell_list, spell_more, spell_index}
use Rattle.sac_print.proofs.Trees.{infix_is, select_is}
use Rattle.core_source_laws.specs.printing.Bare.{nowhere, bare, bare_list}
use Rattle.core_source_laws.proofs.printing.Fits.{is_infix, is_binary, is_prefix}
use Rattle.core_source_laws.proofs.printing.Readings.{Reading, Reads, Phrase, split, ◌⨟◌, left, right, token, a_name, a_number, a_ref, by_rule, alone, no_more, opened, each_more, ReadsEach, no_parts, a_part, absent, alike}
use Rattle.core_source_laws.proofs.printing.LevelReads.{At, from_primary, fit, operated, negated, anywhere}

-- the phrase of this level, where it is wanted
abbrev pub Spelled : Expr → Type 0
Spelled e = (l : Level) → At (tightness l) (spell e l) e

pub primary_at : (wanted : Level) (t : Texts) (e : Expr) → Phrase primary t (λ q. bare q ≡ bare e) → At (tightness wanted) t e
primary_at wanted t e p = anywhere wanted t e (from_primary t e p)

and_first : (a b : Bool) → (a && b) ≡ true → a ≡ true
and_first true b h = refl
and_first false b h = h

pub number_text : (ds : List ℕ) → IsNumeral 10 ds → is_number ds ≡ true
number_text [] h = absurd (let k = h.0 in omega arith)
number_text (c ∷ cs) h = and_first (is_ascii_digit c) (all_ascii_digits cs) ((numerals_by_value (λ ds. all_ascii_digits ds ≡ true) tells_all_ascii_digits).from (c ∷ cs) h.1)

pub number_is : (m : ℕ) → m < 2 ^ 31 → (s : Site) → Spelled (tree.number (pos m) s)
number_is m h s l =
    let n = decimal_is_IsNumeral m (omega arith) in
    primary_at l _ (tree.number (pos m) s)
    (by_rule primary (left (a_number (decimal m) (number_text (decimal m) n.0))) (λ x is. ap (λ k. tree.number (pos k) nowhere) (ap (digits_value 10) is ∙ n.1)))

pub truth_is : (b : Bool) (s : Site) → Spelled (tree.truth b s)
truth_is true s l = primary_at l _ (tree.truth true s) (by_rule primary (right (left (token (codes "true")))) (λ x is. refl))
truth_is false s l = primary_at l _ (tree.truth false s) (by_rule primary (right (right (left (token (codes "false"))))) (λ x is. refl))

pub variable_is : (x : List ℕ) → is_name x ≡ true → (s : Site) → Spelled (tree.variable x s)
variable_is x h s l = primary_at l _ (tree.variable x s) (by_rule primary (right (right (right (left (alone (a_name x h)))))) (λ y is. ap (λ n. tree.variable n nowhere) is))

-- the expressions behind commas
abbrev pub Behind : Rule
Behind = seq (sign (codes ",")) (ref expression)

abbrev pub behind : List (V Behind) → Exprs
behind vs = exprs_of (map (λ p. p.1) vs)

abbrev pub ListRead : Exprs → Type 0
ListRead es = ReadsEach Behind (spell_more es) (λ vs. bare_list (behind vs) ≡ bare_list es)

pub nothing_more : ListRead no_exprs
nothing_more = record { at = λ ts h. let x = (no_parts {a = Behind}).at ts h in (x.0, x.1, ap (λ vs. bare_list (behind vs)) x.2) }

pub one_more : (e : Expr) (es : Exprs) → At 0 (spell e level.Expression) e → ListRead es → ListRead (expr_and e es)
one_more e es p q = record {
  at = λ ts h.
      let x = (a_part (token (codes ",") ⨟ a_ref p) q).at ts h in
      let w = x.2 in
      (x.0, x.1, ap (λ vs. bare_list (behind vs)) w.2 ∙ (λ i. expr_and (w.3.1 i) (w.4 i)));
}

abbrev pub Listed : Rule
Listed = seq (ref expression) (many Behind)

abbrev pub listed_items : V Listed → Exprs
listed_items v = expr_and v.0 (behind v.1)

-- one expression or more
abbrev pub WholeList : Exprs → Type 0
WholeList es = Reads {X = V Listed} Listed (spell_list es) (λ v. v) (λ v. bare_list (listed_items v) ≡ bare_list es)

pub whole_list : (e : Expr) (es : Exprs) → At 0 (spell e level.Expression) e → ListRead es → WholeList (expr_and e es)
whole_list e es p q = record { at = λ ts h. let x = (a_ref p ⨟ q).at ts h in (x.0, x.1, (λ i. expr_and (x.2.0 i) (x.2.1 i))) }

-- an index, whatever the site of its bracket
abbrev pub IndexRead : Expr → Type 0
IndexRead i = Reads {X = V Listed} Listed (spell_index i) (λ v. v) (λ v. (s : Site) → bare (index_of s (items v)) ≡ bare i)

long_index : (s u : Site) (v : V Listed) (x y : Expr) (es : Exprs) → bare_list (listed_items v) ≡ expr_and (bare x) (expr_and (bare y) (bare_list es)) → bare (index_of s (items v)) ≡ tree.literal (expr_and (bare x) (expr_and (bare y) (bare_list es))) nowhere
long_index s u (e, []) x y es h = absurd (cc)
long_index s u (e, (w ∷ ws)) x y es h = ap (λ l. tree.literal l nowhere) h

pub list_index : (x y : Expr) (es : Exprs) (u : Site) → WholeList (expr_and x (expr_and y es)) → IndexRead (tree.literal (expr_and x (expr_and y es)) u)
list_index x y es u p = record { at = λ ts h. let v = p.at ts h in (v.0, v.1, (λ s. long_index s u v.0 x y es v.2)) }

pub single : (i : Expr) → At 0 (spell i level.Expression) i → Reads {X = V Listed} Listed (spell i level.Expression) (λ v. v) (λ v. (s : Site) → bare (index_of s (items v)) ≡ bare i)
single i p = record { at = λ ts h. let v = (no_more {b = Behind} (a_ref p)).at ts h in ((v.0, []), v.1, (λ s. v.2)) }

selects-more : (e : Expr) (rest : List (Lexeme × (V Listed × Lexeme))) (v : Lexeme × (V Listed × Lexeme)) → selects e (rest ++ (v ∷ [])) ≡ tree.select (selects e rest) (index_of v.0.site (items v.1.0)) v.0.site
selects-more e [] v = refl
selects-more e (w ∷ rest) v = selects-more (tree.select e (index_of w.0.site (items w.1.0)) w.0.site) rest v

Index : Rule
Index = seq (sign (codes "[")) (seq Listed (sign (codes "]")))

pub selected : (t : Texts) (a i : Expr) → At 8 t a → IndexRead i → At 8 (t ⋅ brackets (spell_index i)) (tree.select a i nowhere)
selected t a i p q = record {
  at = λ ts h.
      let c = split t (brackets (spell_index i)) ts h in
      let x = p.at c.0 c.3 in
      let y = (token (codes "[") ⨟ q ⨟ token (codes "]")).at c.1 c.4 in
      let w = opened postfix c.0 x.0 x.1 in
      let v : V (rule postfix) = (w.0.0, w.0.1 ++ (y.0 ∷ [])) in
      let whole : ts ≡ w.2.0 ++ (w.2.1 ++ c.1) = c.2 ∙ (λ j. w.2.2 j ++ c.1) ∙ append_assoc w.2.0 w.2.1 c.1 in
      let before : bare (selects w.0.0 w.0.1) ≡ bare a = ap bare (sym w.1) ∙ x.2 in (
        selects v.0 v.1,
        derives_rule Tree (λ _. []) rule action postfix ts v (w.2.0, w.2.1 ++ c.1, whole, w.2.3, each_more (Reading (seq (sign (codes "[")) (seq Listed (sign (codes "]"))))) w.2.1 w.0.1 c.1 y.0 w.2.4 y.1),
        ap bare (selects-more w.0.0 w.0.1 y.0) ∙ (λ j. tree.select (before j) (y.2.1.0 y.0.0.site j) nowhere),
      );
}

pub select_spelled : (a i : Expr) (s : Site) → Spelled a → IndexRead i → Spelled (tree.select a i s)
select_spelled a i s p q l = subst (λ t. At (tightness l) t (tree.select a i s)) (sym (select_is a i s l)) (anywhere l _ (tree.select a i s) (selected (spell a level.Postfix) a i (p level.Postfix) q))

pub unary_spelled : (o : Op) → is_prefix o ≡ true → (e : Expr) (s : Site) → Spelled e → Spelled (tree.unary o e s)
unary_spelled o h e s p l = fit level.Prefix l (operator_text o ∷ spell e level.Prefix) (tree.unary o e s) (negated o h (spell e level.Prefix) e (p level.Prefix))

pub infix_spelled : (o : Op) → is_infix o ≡ true → is_function o ≡ false → (a b : Expr) (s : Site) → Spelled a → Spelled b → Spelled (tree.binary o a b s)
infix_spelled o h k a b s p q l =
    let first = spell a (level_of o) in
    let second = spell b (tighter (level_of o)) in
    let c = closing (is_looser (level_of o) l) in
    subst (λ t. At (tightness l) t (tree.binary o a b s)) (ap (λ t. opening (is_looser (level_of o) l) ++ t) (append_assoc first (operator_text o ∷ second) c) ∙ sym (infix_is o a b s l k))
    (fit (level_of o) l (first ++ (operator_text o ∷ second)) (tree.binary o a b s) (operated o h s first second a b (p (level_of o)) (q (tighter (level_of o)))))

pub function_spelled : (o : Op) → is_binary o ≡ true → is_infix o ≡ false → (a b : Expr) (s : Site) → Spelled a → Spelled b → Spelled (tree.binary o a b s)
function_spelled Min h k a b s p q l =
    primary_at l _ (tree.binary Min a b s)
    (by_rule primary (right (right (right (right (right (right (left (left (token (codes "min")) ⨟ token (codes "(") ⨟ (a_ref (p level.Expression) ⨟ token (codes ",") ⨟ a_ref (q level.Expression)) ⨟ token (codes ")")))))))))
    (λ x is. (λ i. tree.binary Min (is.1.1.0.0 i) (is.1.1.0.1.1 i) nowhere)))
function_spelled Max h k a b s p q l =
    primary_at l _ (tree.binary Max a b s)
    (by_rule primary (right (right (right (right (right (right (left (right (token (codes "max")) ⨟ token (codes "(") ⨟ (a_ref (p level.Expression) ⨟ token (codes ",") ⨟ a_ref (q level.Expression)) ⨟ token (codes ")")))))))))
    (λ x is. (λ i. tree.binary Max (is.1.1.0.0 i) (is.1.1.0.1.1 i) nowhere)))
function_spelled Add h k a b s p q l = absurd (cc)
function_spelled Sub h k a b s p q l = absurd (cc)
function_spelled Mul h k a b s p q l = absurd (cc)
function_spelled Div h k a b s p q l = absurd (cc)
function_spelled Rem h k a b s p q l = absurd (cc)
function_spelled Neg h k a b s p q l = absurd (cc)
function_spelled Not h k a b s p q l = absurd (cc)
function_spelled Eq h k a b s p q l = absurd (cc)
function_spelled Ne h k a b s p q l = absurd (cc)
function_spelled Lt h k a b s p q l = absurd (cc)
function_spelled Le h k a b s p q l = absurd (cc)
function_spelled Gt h k a b s p q l = absurd (cc)
function_spelled Ge h k a b s p q l = absurd (cc)
function_spelled And h k a b s p q l = absurd (cc)
function_spelled Or h k a b s p q l = absurd (cc)

-- an operator stands between its operands or before them
kind_of : (o : Op) → is_binary o ≡ true → ((is_infix o ≡ true) × (is_function o ≡ false)) ⊎ (is_infix o ≡ false)
kind_of Add h = inl (refl, refl)
kind_of Sub h = inl (refl, refl)
kind_of Mul h = inl (refl, refl)
kind_of Div h = inl (refl, refl)
kind_of Rem h = inl (refl, refl)
kind_of Eq h = inl (refl, refl)
kind_of Ne h = inl (refl, refl)
kind_of Lt h = inl (refl, refl)
kind_of Le h = inl (refl, refl)
kind_of Gt h = inl (refl, refl)
kind_of Ge h = inl (refl, refl)
kind_of And h = inl (refl, refl)
kind_of Or h = inl (refl, refl)
kind_of Min h = inr refl
kind_of Max h = inr refl
kind_of Neg h = inr refl
kind_of Not h = inr refl

pub binary_spelled : (o : Op) → is_binary o ≡ true → (a b : Expr) (s : Site) → Spelled a → Spelled b → Spelled (tree.binary o a b s)
binary_spelled o h a b s p q =
    elim (kind_of o h) [
      | inl k ↦ infix_spelled o k.0 k.1 a b s p q
      | inr k ↦ function_spelled o h k a b s p q
    ]

pub choice_spelled : (c a b : Expr) (s : Site) → Spelled c → Spelled a → Spelled b → Spelled (tree.choice c a b s)
choice_spelled c a b s r p q l =
    let test = spell c level.Disjunction in
    let first = spell a level.Expression in
    let second = spell b level.Expression in
    let end = closing (is_looser level.Expression l) in
    let inner : (second' : Texts) → (first ++ (codes ":" ∷ second')) ++ end ≡ first ++ (codes ":" ∷ (second' ++ end)) = λ u. append_assoc first (codes ":" ∷ u) end in
    subst (λ t. At (tightness l) t (tree.choice c a b s))
    (ap (λ t. opening (is_looser level.Expression l) ++ t) (append_assoc test (codes "?" ∷ (first ++ (codes ":" ∷ second))) end ∙ ap (λ t. test ++ (codes "?" ∷ t)) (inner second)))
    (fit level.Expression l (test ++ (codes "?" ∷ (first ++ (codes ":" ∷ second)))) (tree.choice c a b s)
    (by_rule expression (a_ref (r level.Disjunction) ⨟ left (token (codes "?") ⨟ a_ref (p level.Expression) ⨟ token (codes ":") ⨟ a_ref (q level.Expression))) (λ x is. (λ i. tree.choice (is.0 i) (is.1.1.0 i) (is.1.1.1.1 i) nowhere))))

-- a list that may be empty
abbrev pub MaybeListRead : Exprs → Type 0
MaybeListRead es = Reads {X = V (opt Listed)} (opt Listed) (spell_list es) (λ v. v) (λ v. bare_list (exprs_of (maybe_items v)) ≡ bare_list es)

pub empty_list : MaybeListRead no_exprs
empty_list = record { at = λ ts h. let x = (absent {a = Listed}).at ts h in (inr tt, x.1, refl) }

pub some_list : (e : Expr) (es : Exprs) → WholeList (expr_and e es) → MaybeListRead (expr_and e es)
some_list e es p = record { at = λ ts h. let x = p.at ts h in (inl x.0, x.1, x.2) }

pub literal_spelled : (es : Exprs) (s : Site) → MaybeListRead es → Spelled (tree.literal es s)
literal_spelled es s p l =
    primary_at l _ (tree.literal es s)
    (by_rule primary (right (right (right (right (right (right (right (right (left (token (codes "[") ⨟ p ⨟ token (codes "]"))))))))))) (λ x is. ap (λ k. tree.literal k nowhere) is.1.0))

pub call_spelled : (x : List ℕ) → is_name x ≡ true → (es : Exprs) (s : Site) → MaybeListRead es → Spelled (tree.call x es s)
call_spelled x h es s p l =
    primary_at l _ (tree.call x es s)
    (by_rule primary (right (right (right (left (a_name x h ⨟ left (token (codes "(") ⨟ p ⨟ token (codes ")"))))))) (λ y is. (λ i. tree.call (is.0 i) (is.1.1.0 i) nowhere)))

pub dim_spelled : (e : Expr) (s : Site) → Spelled e → Spelled (tree.builtin built.Dim (expr_and e no_exprs) s)
dim_spelled e s p l =
    primary_at l _ (tree.builtin built.Dim (expr_and e no_exprs) s)
    (alike (ap (λ t. codes "dim" ∷ codes "(" ∷ (t ++ one (codes ")"))) (append-nil (spell e level.Expression)))
    (by_rule primary (right (right (right (right (left (left (token (codes "dim")) ⨟ token (codes "(") ⨟ a_ref (p level.Expression) ⨟ token (codes ")"))))))) (λ x is. ap (λ q. tree.builtin built.Dim (expr_and q no_exprs) nowhere) is.1.1.0)))

pub shape_spelled : (e : Expr) (s : Site) → Spelled e → Spelled (tree.builtin built.Shape (expr_and e no_exprs) s)
shape_spelled e s p l =
    primary_at l _ (tree.builtin built.Shape (expr_and e no_exprs) s)
    (alike (ap (λ t. codes "shape" ∷ codes "(" ∷ (t ++ one (codes ")"))) (append-nil (spell e level.Expression)))
    (by_rule primary (right (right (right (right (left (right (token (codes "shape")) ⨟ token (codes "(") ⨟ a_ref (p level.Expression) ⨟ token (codes ")"))))))) (λ x is. ap (λ q. tree.builtin built.Shape (expr_and q no_exprs) nowhere) is.1.1.0)))

pub reshape_spelled : (e f : Expr) (s : Site) → Spelled e → Spelled f → Spelled (tree.builtin built.Reshape (expr_and e (expr_and f no_exprs)) s)
reshape_spelled e f s p q l =
    primary_at l _ (tree.builtin built.Reshape (expr_and e (expr_and f no_exprs)) s)
    (alike (ap (λ t. codes "reshape" ∷ codes "(" ∷ ((spell e level.Expression ++ (codes "," ∷ t)) ++ one (codes ")"))) (append-nil (spell f level.Expression)))
    (by_rule primary (right (right (right (right (right (left (token (codes "reshape") ⨟ token (codes "(") ⨟ (a_ref (p level.Expression) ⨟ token (codes ",") ⨟ a_ref (q level.Expression)) ⨟ token (codes ")")))))))) (λ x is. (λ i. tree.builtin built.Reshape (expr_and (is.1.1.0.0 i) (expr_and (is.1.1.0.1.1 i) no_exprs)) nowhere))))
