-- Behind some words the grammar has an opening bracket.
use Rattle.std.proofs.Common.{ℕ, zero, suc, ◌≡◌, ◌<◌, ◌+◌, ◌-◌, Bool, true, false, not, cond, ◌&&◌, ◌||◌, List, [], ◌∷◌, ◌++◌, ◌⊎◌, inl, inr, refl, sym, ap, ◌∙◌, subst, append_assoc, arith, codes, ⊎_elim}
use Rattle.std.specs.List.{list_any, list_all}
use Rattle.std.specs.Str.{bytes_eq}
use Rattle.sac_ast.specs.Texts.{Lexeme}
use Rattle.sac_ast.specs.Shape.{Terminal, text, name, number, end, matches, nothing, term, ref, seq, alt, many, MatchesEach, Matches, DerivesIn}
use Rattle.sac_ast.specs.Tree.{ProgramTree}
use Rattle.sac_ast.specs.Heights.{open_behind, opens, closes}
use Rattle.sac_ast.specs.Grammar.{Nonterminal, Tree, Rule, V, rule, action, sign, operator, fold_signs, Genarray, Modarray, IsProgram}
use Rattle.sac_ast.specs.Grammar.{program, function, param, type', statement, if_statement, else_branch, block, assign, expression, disjunction, conjunction, equality, comparison, sum, product, prefix, postfix, primary, generator, bound, index, operation}
use Rattle.sac_ast.specs.Refusals.{StartsWithin}
use Rattle.sac_grammar.specs.Run.{clash}
use Rattle.sac_grammar.proofs.Machine.{false_true, and_left, and_right, or_cases, bytes_same, clash_text}
use Rattle.sac_refusals.specs.Words.{bracket_words, is_bracket_word, ends_with_fold, opens_next, brackets_at, IsOpened}

-- a bracket opens behind each such word, unless the word stands behind `fold (`
abbrev IsLed : List Lexeme → Type 0
IsLed ts = (u w : List Lexeme) (x : Lexeme) → ts ≡ u ++ (x ∷ w) → is_bracket_word x ≡ true → IsOpened w ⊎ (ends_with_fold u ≡ true)

fold_more : (c : Lexeme) (u : List Lexeme) → ends_with_fold u ≡ true → ends_with_fold (c ∷ u) ≡ true
fold_more c [] e = false_true e
fold_more c (a ∷ []) e = false_true e
fold_more c (a ∷ b ∷ u) e = e

no_cons : (y : Lexeme) (l : List Lexeme) → [] ≡ y ∷ l → ⊥
no_cons y l e = cc

led_none : IsLed []
led_none [] w x e word = absurd (no_cons x w e)
led_none (a ∷ u) w x e word = absurd (no_cons a (u ++ (x ∷ w)) e)

opened_more : (w b : List Lexeme) → IsOpened w → IsOpened (w ++ b)
opened_more w b (t, rest, e, o) = (t, rest ++ b, ap (λ l. l ++ b) e, o)

fold_append : (a u : List Lexeme) → ends_with_fold u ≡ true → ends_with_fold (a ++ u) ≡ true
fold_append [] u e = e
fold_append (c ∷ a) u e = fold_more c (a ++ u) (fold_append a u e)

-- a token of two lists stands in the first or in the second
abbrev Stands : List Lexeme → List Lexeme → List Lexeme → Lexeme → List Lexeme → Type 0
Stands a b u x w = ((v : List Lexeme) × (a ≡ u ++ (x ∷ v)) × (w ≡ v ++ b)) ⊎ ((v : List Lexeme) × (u ≡ a ++ v) × (b ≡ v ++ (x ∷ w)))

stands : (a b u w : List Lexeme) (x : Lexeme) → a ++ b ≡ u ++ (x ∷ w) → Stands a b u x w
stands [] b u w x e = inr (u, refl, e)
stands (c ∷ a) b [] w x e =
    let h : c ≡ x = cc in
    let t : a ++ b ≡ w = cc in
    inl (a, ap (λ y. y ∷ a) h, sym t)
stands (c ∷ a) b (d ∷ u) w x e =
    let h : c ≡ d = cc in
    let t : a ++ b ≡ u ++ (x ∷ w) = cc in
    ⊎_elim
    (λ (f : (v : List Lexeme) × (a ≡ u ++ (x ∷ v)) × (w ≡ v ++ b)). let r : Stands (c ∷ a) b (d ∷ u) x w = inl (f.0, λ i. h i ∷ f.1 i, f.2) in r)
    (λ (f : (v : List Lexeme) × (u ≡ a ++ v) × (b ≡ v ++ (x ∷ w))). let r : Stands (c ∷ a) b (d ∷ u) x w = inr (f.0, λ i. sym h i ∷ f.1 i, f.2) in r)
    (stands a b u w x t)

abbrev Led : List Lexeme → List Lexeme → Type 0
Led u w = IsOpened w ⊎ (ends_with_fold u ≡ true)

led_append : (a b : List Lexeme) → IsLed a → IsLed b → IsLed (a ++ b)
led_append a b p q u w x e word =
    ⊎_elim
    (λ (f : (v : List Lexeme) × (a ≡ u ++ (x ∷ v)) × (w ≡ v ++ b)). ⊎_elim
    (λ (o : IsOpened f.0). let r : Led u w = inl (subst IsOpened (sym f.2) (opened_more f.0 b o)) in r)
    (λ (k : ends_with_fold u ≡ true). let r : Led u w = inr k in r)
    (p u f.0 x f.1 word))
    (λ (f : (v : List Lexeme) × (u ≡ a ++ v) × (b ≡ v ++ (x ∷ w))). ⊎_elim
    (λ (o : IsOpened w). let r : Led u w = inl o in r)
    (λ (k : ends_with_fold f.0 ≡ true). let r : Led u w = inr (subst (λ l. ends_with_fold l ≡ true) (sym f.1) (fold_append a f.0 k)) in r)
    (q f.0 w x f.2 word))
    (stands a b u w x e)

-- any token before an opening bracket
led_opened : (t : Lexeme) (b : List Lexeme) → IsOpened b → IsLed b → IsLed (t ∷ b)
led_opened t b o q [] w x e word = inl (let h : b ≡ w = cc in subst IsOpened h o)
led_opened t b o q (d ∷ u) w x e word =
    let h : b ≡ u ++ (x ∷ w) = cc in
    ⊎_elim
    (λ (p : IsOpened w). let r : Led (d ∷ u) w = inl p in r)
    (λ (k : ends_with_fold u ≡ true). let r : Led (d ∷ u) w = inr (fold_more d u k) in r)
    (q u w x h word)

led_plain : (t : Lexeme) → is_bracket_word t ≡ false → IsLed (t ∷ [])
led_plain t n [] w x e word = let h : t ≡ x = cc in false_true (sym n ∙ subst (λ y. is_bracket_word y ≡ true) (sym h) word)
led_plain t n (d ∷ u) w x e word = let h : [] ≡ u ++ (x ∷ w) = cc in absurd (empty u w x h)
  where
    empty : (v z : List Lexeme) (y : Lexeme) → [] ≡ v ++ (y ∷ z) → ⊥
    empty [] z y k = no_cons y z k
    empty (a ∷ v) z y k = no_cons a (v ++ (y ∷ z)) k

-- ---- by the shape of a right side

-- no token of the terminal is such a word
abbrev is_plain : Terminal → Bool
is_plain t = list_all (λ word. not (clash word t)) bracket_words

-- one terminal, or one of several
abbrev is_single : Rule → Bool
is_single (term t) = true
is_single (alt a b) = is_single a && is_single b
is_single s = false

abbrev is_block : Nonterminal → Bool
is_block block = true
is_block k = false

-- it begins with an opening bracket
abbrev begins_open : Rule → Bool
begins_open (term (text bytes)) = opens bytes
begins_open (ref k) = is_block k
begins_open (seq a b) = begins_open a
begins_open s = false

-- such words stand in it before opening brackets alone
abbrev is_led : Rule → Bool
is_led nothing = true
is_led (term t) = is_plain t
is_led (ref k) = true
is_led (seq a b) = is_led b && (is_led a || (is_single a && begins_open b))
is_led (alt a b) = is_led a && is_led b
is_led (many a) = is_led a

plain_token : (words : List Terminal) (t : Terminal) (x : Lexeme) → list_all (λ word. not (clash word t)) words ≡ true → matches t x ≡ true → list_any (λ word. matches word x) words ≡ false
plain_token [] t x n m = refl
plain_token (f ∷ words) t x n m =
    none (matches f x) (list_any (λ word. matches word x) words)
    (λ is. false_true (sym (not_so (clash f t) (and_left (not (clash f t)) _ n)) ∙ clash_text f t x is m))
    (plain_token words t x (and_right (not (clash f t)) _ n) m)
  where
    not_so : (b : Bool) → not b ≡ true → b ≡ false
    not_so true e = false_true e
    not_so false e = refl

    none : (a b : Bool) → (a ≡ true → a ≡ false) → b ≡ false → (a || b) ≡ false
    none true b h e = h refl
    none false b h e = e

-- the token of a single terminal
single_token : (R : (k : Nonterminal) → List Lexeme → Tree k → Type 0) (s : Rule) → is_single s ≡ true → (ts : List Lexeme) (v : V s) → Matches Tree R s ts v → (t : Lexeme) × (ts ≡ t ∷ [])
single_token R nothing i ts v m = false_true i
single_token R (term t) i ts v m = (v, m.0)
single_token R (ref k) i ts v m = false_true i
single_token R (seq a b) i ts v m = false_true i
single_token R (alt a b) i ts (inl v) m = single_token R a (and_left (is_single a) (is_single b) i) ts v m
single_token R (alt a b) i ts (inr v) m = single_token R b (and_right (is_single a) (is_single b) i) ts v m
single_token R (many a) i ts v m = false_true i

opened_text : (bytes : List ℕ) (t : Lexeme) → opens bytes ≡ true → bytes_eq bytes t.text ≡ true → opens t.text ≡ true
opened_text bytes t o e = subst (λ b. opens b ≡ true) (bytes_same bytes t.text e) o

opened_tokens : (R : (k : Nonterminal) → List Lexeme → Tree k → Type 0) → ((k : Nonterminal) → is_block k ≡ true → (ts : List Lexeme) (v : Tree k) → R k ts v → IsOpened ts) → (s : Rule) → begins_open s ≡ true → (ts : List Lexeme) (v : V s) → Matches Tree R s ts v → IsOpened ts
opened_tokens R g nothing i ts v m = false_true i
opened_tokens R g (term (text bytes)) i ts v (e, m) = (v, [], e, opened_text bytes v i m)
opened_tokens R g (term name) i ts v m = false_true i
opened_tokens R g (term number) i ts v m = false_true i
opened_tokens R g (term end) i ts v m = false_true i
opened_tokens R g (ref k) i ts v m = g k i ts v m
opened_tokens R g (seq a b) i ts v (u, w, e, p, q) = subst IsOpened (sym e) (opened_more u w (opened_tokens R g a i u v.0 p))
opened_tokens R g (alt a b) i ts v m = false_true i
opened_tokens R g (many a) i ts v m = false_true i

begins_block : (k : Nonterminal) → is_block k ≡ true → begins_open (rule k) ≡ true
begins_block program i = false_true i
begins_block function i = false_true i
begins_block param i = false_true i
begins_block type' i = false_true i
begins_block statement i = false_true i
begins_block if_statement i = false_true i
begins_block else_branch i = false_true i
begins_block block i = refl
begins_block assign i = false_true i
begins_block expression i = false_true i
begins_block disjunction i = false_true i
begins_block conjunction i = false_true i
begins_block equality i = false_true i
begins_block comparison i = false_true i
begins_block sum i = false_true i
begins_block product i = false_true i
begins_block prefix i = false_true i
begins_block postfix i = false_true i
begins_block primary i = false_true i
begins_block generator i = false_true i
begins_block bound i = false_true i
begins_block index i = false_true i
begins_block operation i = false_true i

opened_block : (n : ℕ) (k : Nonterminal) → is_block k ≡ true → (ts : List Lexeme) (v : Tree k) → DerivesIn Tree rule action n k ts v → IsOpened ts
opened_block zero k i ts v d = absurd d
opened_block (suc n) k i ts v (x, e, d) = opened_tokens (DerivesIn Tree rule action n) (opened_block n) (rule k) (begins_block k i) ts x d

led_each : {A : Type 0} (P : List Lexeme → A → Type 0) → ((ts : List Lexeme) (v : A) → P ts v → IsLed ts) → (ts : List Lexeme) (vs : List A) → MatchesEach P ts vs → IsLed ts
led_each P f ts [] e = subst IsLed (sym e) led_none
led_each P f ts (v ∷ vs) (u, w, e, p, q) = subst IsLed (sym e) (led_append u w (f u v p) (led_each P f w vs q))

led_shape : (R : (k : Nonterminal) → List Lexeme → Tree k → Type 0) → ((k : Nonterminal) (ts : List Lexeme) (v : Tree k) → R k ts v → IsLed ts) → ((k : Nonterminal) → is_block k ≡ true → (ts : List Lexeme) (v : Tree k) → R k ts v → IsOpened ts) → (s : Rule) → is_led s ≡ true → (ts : List Lexeme) (v : V s) → Matches Tree R s ts v → IsLed ts
led_shape R f g nothing i ts v e = subst IsLed (sym e) led_none
led_shape R f g (term t) i ts v (e, m) = subst IsLed (sym e) (led_plain v (plain_token bracket_words t v i m))
led_shape R f g (ref k) i ts v m = f k ts v m
led_shape R f g (seq a b) i ts v (u, w, e, p, q) =
    let behind = led_shape R f g b (and_left (is_led b) _ i) w v.1 q in
    ⊎_elim
    (λ (j : is_led a ≡ true). let r : IsLed ts = subst IsLed (sym e) (led_append u w (led_shape R f g a j u v.0 p) behind) in r)
    (λ (j : (is_single a && begins_open b) ≡ true).
    let t = single_token R a (and_left (is_single a) (begins_open b) j) u v.0 p in
    let o = opened_tokens R g b (and_right (is_single a) (begins_open b) j) w v.1 q in
    let r : IsLed ts = subst IsLed (sym (e ∙ ap (λ l. l ++ w) t.1)) (led_opened t.0 w o behind) in
    r)
    (or_cases (is_led a) (is_single a && begins_open b) (and_right (is_led b) _ i))
led_shape R f g (alt a b) i ts (inl v) m = led_shape R f g a (and_left (is_led a) (is_led b) i) ts v m
led_shape R f g (alt a b) i ts (inr v) m = led_shape R f g b (and_right (is_led a) (is_led b) i) ts v m
led_shape R f g (many a) i ts vs m = led_each (Matches Tree R a) (led_shape R f g a i) ts vs m

-- ---- folds

both_so : (a b : Bool) → a ≡ true → b ≡ true → (a && b) ≡ true
both_so true b e f = f
both_so false b e f = false_true e

-- a fold's operator stands behind `fold (`
led_fold : (t l o : Lexeme) (b : List Lexeme) → bytes_eq (codes "fold") t.text ≡ true → bytes_eq (codes "(") l.text ≡ true → IsLed b → IsLed (t ∷ l ∷ o ∷ b)
led_fold t l o b s c q [] w x e word = inl (let h : l ∷ o ∷ b ≡ w = cc in (l, o ∷ b, sym h, opened_text (codes "(") l refl c))
led_fold t l o b s c q (d ∷ []) w x e word =
    let h : l ≡ x = cc in
    false_true (sym (plain_token bracket_words (text (codes "(")) l refl c) ∙ subst (λ y. is_bracket_word y ≡ true) (sym h) word)
led_fold t l o b s c q (d ∷ g ∷ []) w x e word =
    let h : t ≡ d = cc in
    let k : l ≡ g = cc in
    inr (both_so (bytes_eq (codes "fold") d.text) (bytes_eq (codes "(") g.text) (subst (λ (y : Lexeme). bytes_eq (codes "fold") y.text ≡ true) h s) (subst (λ (y : Lexeme). bytes_eq (codes "(") y.text ≡ true) k c))
led_fold t l o b s c q (d ∷ g ∷ j ∷ u) w x e word =
    let h : b ≡ u ++ (x ∷ w) = cc in
    ⊎_elim
    (λ (p : IsOpened w). let r : Led (d ∷ g ∷ j ∷ u) w = inl p in r)
    (λ (k : ends_with_fold u ≡ true). let r : Led (d ∷ g ∷ j ∷ u) w = inr (fold_more d (g ∷ j ∷ u) (fold_more g (j ∷ u) (fold_more j u k))) in r)
    (q u w x h word)

led_operation : (R : (k : Nonterminal) → List Lexeme → Tree k → Type 0) → ((k : Nonterminal) (ts : List Lexeme) (v : Tree k) → R k ts v → IsLed ts) → ((k : Nonterminal) → is_block k ≡ true → (ts : List Lexeme) (v : Tree k) → R k ts v → IsOpened ts) → (ts : List Lexeme) (v : V (rule operation)) → Matches Tree R (rule operation) ts v → IsLed ts
led_operation R f g ts (inl v) m = led_shape R f g Genarray refl ts v m
led_operation R f g ts (inr (inl v)) m = led_shape R f g Modarray refl ts v m
led_operation R f g ts (inr (inr v)) (u, w, e, (et, mt), (u', w', e', (el, ml), (u2, w2, e2, (u3, w3, e3, mo, mr), mc))) =
    let o = single_token R (operator fold_signs) refl u3 v.1.1.0.0 mo in
    let b = led_append w3 w2 (led_shape R f g (seq (sign (codes ",")) (ref expression)) refl w3 v.1.1.0.1 mr) (led_shape R f g (sign (codes ")")) refl w2 v.1.1.1 mc) in
    let inner : w' ≡ o.0 ∷ (w3 ++ w2) = e2 ∙ ap (λ l. l ++ w2) (e3 ∙ ap (λ l. l ++ w3) o.1) in
    let whole : ts ≡ v.0 ∷ v.1.0 ∷ o.0 ∷ (w3 ++ w2) = e ∙ ap (λ l. l ++ w) et ∙ ap (λ l. v.0 ∷ l) (e' ∙ ap (λ l. l ++ w') el ∙ ap (λ l. v.1.0 ∷ l) inner) in
    subst IsLed (sym whole) (led_fold v.0 v.1.0 o.0 (w3 ++ w2) mt ml b)

-- ---- all phrases

led_rule : (R : (k : Nonterminal) → List Lexeme → Tree k → Type 0) → ((k : Nonterminal) (ts : List Lexeme) (v : Tree k) → R k ts v → IsLed ts) → ((k : Nonterminal) → is_block k ≡ true → (ts : List Lexeme) (v : Tree k) → R k ts v → IsOpened ts) → (k : Nonterminal) (ts : List Lexeme) (v : V (rule k)) → Matches Tree R (rule k) ts v → IsLed ts
led_rule R f g program ts v m = led_shape R f g (rule program) refl ts v m
led_rule R f g function ts v m = led_shape R f g (rule function) refl ts v m
led_rule R f g param ts v m = led_shape R f g (rule param) refl ts v m
led_rule R f g type' ts v m = led_shape R f g (rule type') refl ts v m
led_rule R f g statement ts v m = led_shape R f g (rule statement) refl ts v m
led_rule R f g if_statement ts v m = led_shape R f g (rule if_statement) refl ts v m
led_rule R f g else_branch ts v m = led_shape R f g (rule else_branch) refl ts v m
led_rule R f g block ts v m = led_shape R f g (rule block) refl ts v m
led_rule R f g assign ts v m = led_shape R f g (rule assign) refl ts v m
led_rule R f g expression ts v m = led_shape R f g (rule expression) refl ts v m
led_rule R f g disjunction ts v m = led_shape R f g (rule disjunction) refl ts v m
led_rule R f g conjunction ts v m = led_shape R f g (rule conjunction) refl ts v m
led_rule R f g equality ts v m = led_shape R f g (rule equality) refl ts v m
led_rule R f g comparison ts v m = led_shape R f g (rule comparison) refl ts v m
led_rule R f g sum ts v m = led_shape R f g (rule sum) refl ts v m
led_rule R f g product ts v m = led_shape R f g (rule product) refl ts v m
led_rule R f g prefix ts v m = led_shape R f g (rule prefix) refl ts v m
led_rule R f g postfix ts v m = led_shape R f g (rule postfix) refl ts v m
led_rule R f g primary ts v m = led_shape R f g (rule primary) refl ts v m
led_rule R f g generator ts v m = led_shape R f g (rule generator) refl ts v m
led_rule R f g bound ts v m = led_shape R f g (rule bound) refl ts v m
led_rule R f g index ts v m = led_shape R f g (rule index) refl ts v m
led_rule R f g operation ts v m = led_operation R f g ts v m

led_phrase : (n : ℕ) (k : Nonterminal) (ts : List Lexeme) (v : Tree k) → DerivesIn Tree rule action n k ts v → IsLed ts
led_phrase zero k ts v d = absurd d
led_phrase (suc n) k ts v (x, e, d) = led_rule (DerivesIn Tree rule action n) (led_phrase n) (opened_block n) k ts x d

not_fold : (b : Bool) {P : Type 0} → not b ≡ true → b ≡ true → P
not_fold true n e = false_true n
not_fold false n e = false_true e

pub words_open : (before behind : List Lexeme) (t : Lexeme) (p : ProgramTree) → IsProgram (before ++ (t ∷ behind)) p → opens_next before t ≡ true → IsOpened behind
words_open before behind t p d o =
    ⊎_elim
    (λ (f : IsOpened behind). f)
    (λ (f : ends_with_fold before ≡ true). not_fold (ends_with_fold before) (and_right (is_bracket_word t) _ o) f)
    (led_phrase d.0 program (before ++ (t ∷ behind)) p d.1 before behind t refl (and_left (is_bracket_word t) _ o))

-- ---- too many of them

pub open_more : (n : ℕ) (ts : List Lexeme) (t : Lexeme) → open_behind n (ts ++ (t ∷ [])) ≡ open_behind (open_behind n ts) (t ∷ [])
open_more n [] t = refl
open_more n (x ∷ ts) t = open_more (cond (opens x.text) (n + 1) (cond (closes x.text) (n - 1) n)) ts t

one_more : (n k : ℕ) (b : Bool) → b ≡ true → cond b (n + 1) k ≡ n + 1
one_more n k true e = refl
one_more n k false e = false_true e

crowd_by : (u : List Lexeme) (t : Lexeme) (b : Bool) → opens_next u t ≡ b → 200 < open_behind 0 (u ++ (t ∷ [])) + cond b 1 0 → StartsWithin (u ++ (t ∷ [])) → ⊥
crowd_by u t false o h s = let few = s.2.1 (u ++ (t ∷ [])) s.0 refl in absurd (omega arith)
crowd_by u t true o h s =
    let w = words_open u s.0 t s.1 (subst (λ l. IsProgram l s.1) (append_assoc u (t ∷ []) s.0) s.2.0) o in
    let here = u ++ (t ∷ []) in
    let few = s.2.1 (here ++ (w.0 ∷ [])) w.1 (ap (λ l. here ++ l) w.2 ∙ sym (append_assoc here (w.0 ∷ []) w.1)) in
    let more = open_more 0 here w.0 ∙ one_more (open_behind 0 here) (cond (closes w.0.text) (open_behind 0 here - 1) (open_behind 0 here)) (opens w.0.text) w.3 in
    absurd (omega arith)

pub crowd_stops : (before : List Lexeme) (t : Lexeme) → 200 < brackets_at before t → StartsWithin (before ++ (t ∷ [])) → ⊥
crowd_stops before t h s = crowd_by before t (opens_next before t) refl h s
