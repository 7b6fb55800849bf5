-- Phrases of each level, from phrases of tighter levels and with operators.
use Rattle.std.proofs.Common.{ℕ, zero, suc, ◌≡◌, ◌≤◌, ◌<◌, ◌+◌, ◌-◌, Bool, true, false, List, [], ◌∷◌, ◌++◌, inl, inr, codes, refl, sym, ap, ◌∙◌, subst, append_assoc, append-nil, arith, nat_lt}
use Rattle.std.specs.Bool.{⊤}
use Rattle.std.proofs.lemmas.Grind.{common_steps}
use Rattle.sac_base.specs.declared.site.Site.{Site}
use Rattle.sac_base.specs.declared.op.Op.{Op}
use Rattle.sac_base.specs.declared.op.Op.TheVariants.{Add, Sub, Mul, Div, Rem, Min, Max, Neg, Not, Eq, Ne, Lt, Le, Gt, Ge, And, Or}
use Rattle.sac_ast.specs.Texts.{Lexeme}
use Rattle.sac_ast.specs.Shape.{MatchesEach}
use Rattle.sac_ast.specs.Grammar.{expression, disjunction, conjunction, equality, comparison, sum, product, prefix, postfix, primary, Rule, Tree, rule, action, V, IsPhrase, one_of, chosen, chain}
use Rattle.sac_ast.specs.Tree as tree
use Rattle.sac_ast.specs.Tree.{Expr}
use Rattle.sac_grammar.proofs.Levels.{derives_rule}
use Rattle.sac_print.specs.declared.level.Level.{Level}
use Rattle.sac_print.specs.declared.level.Level.TheVariants as level
use Rattle.sac_print.specs.Texts.{Texts, ◌⋅◌, one}
use Rattle.sac_print.specs.Operators.{operator_text, level_of, tighter, tightness, is_looser, opening, closing}
use Rattle.core_source_laws.specs.printing.Bare.{nowhere, bare}
use Rattle.core_source_laws.proofs.printing.Fits.{is_infix, is_prefix}
use Rattle.core_source_laws.proofs.printing.Readings.{texts_of, Reading, Reads, Phrase, split, ◌⨟◌, left, right, token, a_ref, by_rule, alone, no_more, opened, each_more}

-- the texts are a phrase of the nonterminal with this tree, aside from sites
abbrev pub At : ℕ → Texts → Expr → Type 0
At zero t e = Phrase expression t (λ q. bare q ≡ bare e)
At (suc zero) t e = Phrase disjunction t (λ q. bare q ≡ bare e)
At (suc (suc zero)) t e = Phrase conjunction t (λ q. bare q ≡ bare e)
At (suc (suc (suc zero))) t e = Phrase equality t (λ q. bare q ≡ bare e)
At (suc (suc (suc (suc zero)))) t e = Phrase comparison t (λ q. bare q ≡ bare e)
At (suc (suc (suc (suc (suc zero))))) t e = Phrase sum t (λ q. bare q ≡ bare e)
At (suc (suc (suc (suc (suc (suc zero)))))) t e = Phrase product t (λ q. bare q ≡ bare e)
At (suc (suc (suc (suc (suc (suc (suc zero))))))) t e = Phrase prefix t (λ q. bare q ≡ bare e)
At (suc (suc (suc (suc (suc (suc (suc (suc n)))))))) t e = Phrase postfix t (λ q. bare q ≡ bare e)

loosen : (n : ℕ) (t : Texts) (e : Expr) → n < 8 → At (suc n) t e → At n t e
loosen zero t e h p = by_rule expression (alone (a_ref p)) (λ x is. is)
loosen (suc zero) t e h p = by_rule disjunction (no_more (a_ref p)) (λ x is. is)
loosen (suc (suc zero)) t e h p = by_rule conjunction (no_more (a_ref p)) (λ x is. is)
loosen (suc (suc (suc zero))) t e h p = by_rule equality (no_more (a_ref p)) (λ x is. is)
loosen (suc (suc (suc (suc zero)))) t e h p = by_rule comparison (no_more (a_ref p)) (λ x is. is)
loosen (suc (suc (suc (suc (suc zero))))) t e h p = by_rule sum (no_more (a_ref p)) (λ x is. is)
loosen (suc (suc (suc (suc (suc (suc zero)))))) t e h p = by_rule product (no_more (a_ref p)) (λ x is. is)
loosen (suc (suc (suc (suc (suc (suc (suc zero))))))) t e h p = by_rule prefix (right (a_ref p)) (λ x is. is)
loosen (suc (suc (suc (suc (suc (suc (suc (suc n)))))))) t e h p = absurd (omega arith)

looser_by : (d w o : ℕ) (t : Texts) (e : Expr) → o ≡ w + d → o ≤ 8 → At o t e → At w t e
looser_by zero w o t e is h p = subst (λ n. At n t e) (let same : o ≡ w = omega arith in same) p
looser_by (suc d) w o t e is h p =
    looser_by d w (w + d) t e refl (omega arith) (loosen (w + d) t e (omega arith) (subst (λ n. At n t e) (let same : o ≡ suc (w + d) = omega arith in same) p))

pub looser : (w o : ℕ) (t : Texts) (e : Expr) → w ≤ o → o ≤ 8 → At o t e → At w t e
looser w o t e h k p = looser_by (o - w) w o t e (omega arith) k p

pub from_primary : (t : Texts) (e : Expr) → Phrase primary t (λ q. bare q ≡ bare e) → At 8 t e
from_primary t e p = by_rule postfix (no_more (a_ref p)) (λ x is. is)

pub in_parens : (t : Texts) (e : Expr) → At 0 t e → Phrase primary (one (codes "(") ⋅ t ⋅ one (codes ")")) (λ q. bare q ≡ bare e)
in_parens t e p = by_rule primary (right (right (right (right (right (right (right (left (token (codes "(") ⨟ a_ref p ⨟ token (codes ")")))))))))) (λ x is. is.1.0)

tight : (l : Level) → tightness l ≤ 8
tight level.Expression = omega arith
tight level.Disjunction = omega arith
tight level.Conjunction = omega arith
tight level.Equality = omega arith
tight level.Comparison = omega arith
tight level.Sum = omega arith
tight level.Product = omega arith
tight level.Prefix = omega arith
tight level.Postfix = omega arith

-- in parentheses, where they are needed
fit_by : (own wanted : Level) (b : Bool) (t : Texts) (e : Expr) → nat_lt (tightness own) (tightness wanted) ≡ b → At (tightness own) t e → At (tightness wanted) (opening b ⋅ t ⋅ closing b) e
fit_by own wanted true t e is p = looser (tightness wanted) 8 _ e (tight wanted) (omega arith) (from_primary _ e (in_parens t e (looser 0 (tightness own) t e (omega arith) (tight own) p)))
fit_by own wanted false t e is p = subst (λ l. At (tightness wanted) l e) (sym (append-nil t)) (looser (tightness wanted) (tightness own) t e (grind (arith, common_steps)) (tight own) p)

pub fit : (own wanted : Level) (t : Texts) (e : Expr) → At (tightness own) t e → At (tightness wanted) (opening (is_looser own wanted) ⋅ t ⋅ closing (is_looser own wanted)) e
fit own wanted t e p = fit_by own wanted (is_looser own wanted) t e refl p

chain-more : (o : List ℕ × Op) (ps : List (List ℕ × Op)) (e : Expr) (rest : List (V (one_of o ps) × Expr)) (v : V (one_of o ps)) (x : Expr) → chain o ps e (rest ++ ((v, x) ∷ [])) ≡ tree.binary (chosen o ps v).0 (chain o ps e rest) x (chosen o ps v).1
chain-more o ps e [] v x = refl
chain-more o ps e ((w, y) ∷ rest) v x = chain-more o ps (tree.binary (chosen o ps w).0 e y (chosen o ps w).1) rest v x

-- an operator and an operand more behind a chain
module _ (o : List ℕ × Op) (ps : List (List ℕ × Op)) (K K' : List Lexeme → Expr → Type 0) where
  abbrev Ops : Rule
  Ops = one_of o ps

  abbrev Item : List Lexeme → V Ops × Expr → Type 0
  Item ts v = (u w : List Lexeme) × (ts ≡ u ++ w) × Reading Ops u v.0 × K' w v.1

  abbrev Chain : List Lexeme → Expr × List (V Ops × Expr) → Type 0
  Chain ts v = (u w : List Lexeme) × (ts ≡ u ++ w) × K' u v.0 × MatchesEach Item w v.1

  chained : ((ts : List Lexeme) (q : Expr) → K ts q → (v : Expr × List (V Ops × Expr)) × (q ≡ chain o ps v.0 v.1) × Chain ts v)
      → ((ts : List Lexeme) (v : Expr × List (V Ops × Expr)) → Chain ts v → K ts (chain o ps v.0 v.1))
      → (op : Op) (sign : List ℕ) (make : Lexeme → V Ops) → Reads Ops (sign ∷ []) make (λ x. ⊤) → ((x : Lexeme) → (chosen o ps (make x)).0 ≡ op)
      → (t u : Texts) (a b : Expr)
      → ((ts : List Lexeme) → texts_of ts ≡ t → (q : Expr) × K ts q × (bare q ≡ bare a))
      → ((ts : List Lexeme) → texts_of ts ≡ u → (q : Expr) × K' ts q × (bare q ≡ bare b))
      → (ts : List Lexeme) → texts_of ts ≡ t ++ (sign ∷ u) → (q : Expr) × K ts q × (bare q ≡ bare (tree.binary op a b nowhere))
  chained opens closes op sign make reads is t u a b f g ts e =
      let c = split t (sign ∷ u) ts e in
      let d = split (sign ∷ []) u c.1 c.4 in
      let x = f c.0 c.3 in
      let y = reads.at d.0 d.3 in
      let z = g d.1 d.4 in
      let w = opens c.0 x.0 x.1 in
      let v : Expr × List (V Ops × Expr) = (w.0.0, w.0.1 ++ ((make y.0, z.0) ∷ [])) in
      let whole : ts ≡ w.2.0 ++ (w.2.1 ++ c.1) = c.2 ∙ (λ i. w.2.2 i ++ c.1) ∙ append_assoc w.2.0 w.2.1 c.1 in
      let before : bare (chain o ps w.0.0 w.0.1) ≡ bare a = ap bare (sym w.1) ∙ x.2 in (
        chain o ps v.0 v.1,
        closes ts v (w.2.0, w.2.1 ++ c.1, whole, w.2.3, each_more Item w.2.1 w.0.1 c.1 (make y.0, z.0) w.2.4 (d.0, d.1, d.2, y.1, z.1)),
        ap bare (chain-more o ps w.0.0 w.0.1 (make y.0) z.0) ∙ (λ i. tree.binary (is y.0 i) (before i) (z.2 i) nowhere),
      )

-- for each level: an operator, as it is read there

at_disjunction : (op : Op) (sign : List ℕ) (make : Lexeme → V (one_of (codes "||", Or) [])) → Reads (one_of (codes "||", Or) []) (sign ∷ []) make (λ x. ⊤) → ((x : Lexeme) → (chosen (codes "||", Or) [] (make x)).0 ≡ op) → (t u : Texts) (a b : Expr) → At 1 t a → At 2 u b → At 1 (t ++ (sign ∷ u)) (tree.binary op a b nowhere)
at_disjunction op sign make reads is t u a b p q = record {
  at = chained (codes "||", Or) [] (IsPhrase disjunction) (IsPhrase conjunction) (opened disjunction) (derives_rule Tree (λ _. []) rule action disjunction) op sign make reads is t u a b p.at q.at;
}

at_conjunction : (op : Op) (sign : List ℕ) (make : Lexeme → V (one_of (codes "&&", And) [])) → Reads (one_of (codes "&&", And) []) (sign ∷ []) make (λ x. ⊤) → ((x : Lexeme) → (chosen (codes "&&", And) [] (make x)).0 ≡ op) → (t u : Texts) (a b : Expr) → At 2 t a → At 3 u b → At 2 (t ++ (sign ∷ u)) (tree.binary op a b nowhere)
at_conjunction op sign make reads is t u a b p q = record {
  at = chained (codes "&&", And) [] (IsPhrase conjunction) (IsPhrase equality) (opened conjunction) (derives_rule Tree (λ _. []) rule action conjunction) op sign make reads is t u a b p.at q.at;
}

at_equality : (op : Op) (sign : List ℕ) (make : Lexeme → V (one_of (codes "==", Eq) ((codes "!=", Ne) ∷ []))) → Reads (one_of (codes "==", Eq) ((codes "!=", Ne) ∷ [])) (sign ∷ []) make (λ x. ⊤) → ((x : Lexeme) → (chosen (codes "==", Eq) ((codes "!=", Ne) ∷ []) (make x)).0 ≡ op) → (t u : Texts) (a b : Expr) → At 3 t a → At 4 u b → At 3 (t ++ (sign ∷ u)) (tree.binary op a b nowhere)
at_equality op sign make reads is t u a b p q = record {
  at = chained (codes "==", Eq) ((codes "!=", Ne) ∷ []) (IsPhrase equality) (IsPhrase comparison) (opened equality) (derives_rule Tree (λ _. []) rule action equality) op sign make reads is t u a b p.at q.at;
}

at_comparison : (op : Op) (sign : List ℕ) (make : Lexeme → V (one_of (codes "<", Lt) ((codes "<=", Le) ∷ (codes ">", Gt) ∷ (codes ">=", Ge) ∷ []))) → Reads (one_of (codes "<", Lt) ((codes "<=", Le) ∷ (codes ">", Gt) ∷ (codes ">=", Ge) ∷ [])) (sign ∷ []) make (λ x. ⊤) → ((x : Lexeme) → (chosen (codes "<", Lt) ((codes "<=", Le) ∷ (codes ">", Gt) ∷ (codes ">=", Ge) ∷ []) (make x)).0 ≡ op) → (t u : Texts) (a b : Expr) → At 4 t a → At 5 u b → At 4 (t ++ (sign ∷ u)) (tree.binary op a b nowhere)
at_comparison op sign make reads is t u a b p q = record {
  at = chained (codes "<", Lt) ((codes "<=", Le) ∷ (codes ">", Gt) ∷ (codes ">=", Ge) ∷ []) (IsPhrase comparison) (IsPhrase sum) (opened comparison) (derives_rule Tree (λ _. []) rule action comparison) op sign make reads is t u a b p.at q.at;
}

at_sum : (op : Op) (sign : List ℕ) (make : Lexeme → V (one_of (codes "+", Add) ((codes "-", Sub) ∷ []))) → Reads (one_of (codes "+", Add) ((codes "-", Sub) ∷ [])) (sign ∷ []) make (λ x. ⊤) → ((x : Lexeme) → (chosen (codes "+", Add) ((codes "-", Sub) ∷ []) (make x)).0 ≡ op) → (t u : Texts) (a b : Expr) → At 5 t a → At 6 u b → At 5 (t ++ (sign ∷ u)) (tree.binary op a b nowhere)
at_sum op sign make reads is t u a b p q = record {
  at = chained (codes "+", Add) ((codes "-", Sub) ∷ []) (IsPhrase sum) (IsPhrase product) (opened sum) (derives_rule Tree (λ _. []) rule action sum) op sign make reads is t u a b p.at q.at;
}

at_product : (op : Op) (sign : List ℕ) (make : Lexeme → V (one_of (codes "*", Mul) ((codes "/", Div) ∷ (codes "%", Rem) ∷ []))) → Reads (one_of (codes "*", Mul) ((codes "/", Div) ∷ (codes "%", Rem) ∷ [])) (sign ∷ []) make (λ x. ⊤) → ((x : Lexeme) → (chosen (codes "*", Mul) ((codes "/", Div) ∷ (codes "%", Rem) ∷ []) (make x)).0 ≡ op) → (t u : Texts) (a b : Expr) → At 6 t a → At 7 u b → At 6 (t ++ (sign ∷ u)) (tree.binary op a b nowhere)
at_product op sign make reads is t u a b p q = record {
  at = chained (codes "*", Mul) ((codes "/", Div) ∷ (codes "%", Rem) ∷ []) (IsPhrase product) (IsPhrase prefix) (opened product) (derives_rule Tree (λ _. []) rule action product) op sign make reads is t u a b p.at q.at;
}

-- an operator between two operands
pub operated : (o : Op) → is_infix o ≡ true → (s : Site) (t u : Texts) (a b : Expr) → At (tightness (level_of o)) t a → At (tightness (tighter (level_of o))) u b → At (tightness (level_of o)) (t ++ (operator_text o ∷ u)) (tree.binary o a b s)
operated Or h s t u a b p q = at_disjunction Or (codes "||") (λ x. x) (token (codes "||")) (λ x. refl) t u a b p q
operated And h s t u a b p q = at_conjunction And (codes "&&") (λ x. x) (token (codes "&&")) (λ x. refl) t u a b p q
operated Eq h s t u a b p q = at_equality Eq (codes "==") (λ x. inl x) (left (token (codes "=="))) (λ x. refl) t u a b p q
operated Ne h s t u a b p q = at_equality Ne (codes "!=") (λ x. inr x) (right (token (codes "!="))) (λ x. refl) t u a b p q
operated Lt h s t u a b p q = at_comparison Lt (codes "<") (λ x. inl x) (left (token (codes "<"))) (λ x. refl) t u a b p q
operated Le h s t u a b p q = at_comparison Le (codes "<=") (λ x. inr (inl x)) (right (left (token (codes "<=")))) (λ x. refl) t u a b p q
operated Gt h s t u a b p q = at_comparison Gt (codes ">") (λ x. inr (inr (inl x))) (right (right (left (token (codes ">"))))) (λ x. refl) t u a b p q
operated Ge h s t u a b p q = at_comparison Ge (codes ">=") (λ x. inr (inr (inr x))) (right (right (right (token (codes ">="))))) (λ x. refl) t u a b p q
operated Add h s t u a b p q = at_sum Add (codes "+") (λ x. inl x) (left (token (codes "+"))) (λ x. refl) t u a b p q
operated Sub h s t u a b p q = at_sum Sub (codes "-") (λ x. inr x) (right (token (codes "-"))) (λ x. refl) t u a b p q
operated Mul h s t u a b p q = at_product Mul (codes "*") (λ x. inl x) (left (token (codes "*"))) (λ x. refl) t u a b p q
operated Div h s t u a b p q = at_product Div (codes "/") (λ x. inr (inl x)) (right (left (token (codes "/")))) (λ x. refl) t u a b p q
operated Rem h s t u a b p q = at_product Rem (codes "%") (λ x. inr (inr x)) (right (right (token (codes "%")))) (λ x. refl) t u a b p q
operated Min h s t u a b p q = absurd (cc)
operated Max h s t u a b p q = absurd (cc)
operated Neg h s t u a b p q = absurd (cc)
operated Not h s t u a b p q = absurd (cc)

pub negated : (o : Op) → is_prefix o ≡ true → (t : Texts) (a : Expr) → At 7 t a → At 7 (operator_text o ∷ t) (tree.unary o a nowhere)
negated Neg h t a p = by_rule prefix (left (left (token (codes "-")) ⨟ a_ref p)) (λ x is. ap (λ q. tree.unary Neg q nowhere) is.1)
negated Not h t a p = by_rule prefix (left (right (token (codes "!")) ⨟ a_ref p)) (λ x is. ap (λ q. tree.unary Not q nowhere) is.1)
negated Add h t a p = absurd (cc)
negated Sub h t a p = absurd (cc)
negated Mul h t a p = absurd (cc)
negated Div h t a p = absurd (cc)
negated Rem h t a p = absurd (cc)
negated Min h t a p = absurd (cc)
negated Max h t a p = absurd (cc)
negated Eq h t a p = absurd (cc)
negated Ne h t a p = absurd (cc)
negated Lt h t a p = absurd (cc)
negated Le h t a p = absurd (cc)
negated Gt h t a p = absurd (cc)
negated Ge h t a p = absurd (cc)
negated And h t a p = absurd (cc)
negated Or h t a p = absurd (cc)

-- the loosest phrase
pub loosest : (l : Level) (t : Texts) (e : Expr) → At (tightness l) t e → At 0 t e
loosest l t e p = looser 0 (tightness l) t e (omega arith) (tight l) p

-- a phrase that needs no parentheses anywhere
pub anywhere : (wanted : Level) (t : Texts) (e : Expr) → At 8 t e → At (tightness wanted) t e
anywhere wanted t e p = looser (tightness wanted) 8 t e (tight wanted) (omega arith) p
