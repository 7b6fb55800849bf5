-- Right sides that are read from texts, whatever the sites of the tokens.
use Rattle.std.proofs.Common.{ℕ, zero, suc, ◌≡◌, true, List, [], ◌∷◌, ◌++◌, map, inl, inr, refl, sym, ap, ◌∙◌, subst, append_assoc, append-nil}
use Rattle.std.specs.Bool.{⊤}
use Rattle.std.specs.Str.{bytes_eq}
use Rattle.std.proofs.lemmas.Slice.Eq.{bytes_eq-Decides}
use Rattle.sac_ast.specs.Texts.{Lexeme, is_name, is_number}
use Rattle.sac_ast.specs.Shape.{text, name, number, nothing, term, ref, seq, alt, many, MatchesEach, Matches, DerivesIn}
use Rattle.sac_ast.specs.Grammar.{Nonterminal, Rule, Tree, rule, action, V, IsPhrase, opt}
use Rattle.sac_grammar.proofs.Levels.{derives_rule}
use Rattle.sac_print.specs.Texts.{Texts}

abbrev pub texts_of : List Lexeme → Texts
texts_of ts = map (λ (t : Lexeme). t.text) ts

abbrev pub Reading : (s : Rule) → List Lexeme → V s → Type 0
Reading s ts v = Matches Tree IsPhrase s ts v

-- the right side reads these texts, with a value of this form that has the property
pub record Reads {X : Type 0} (s : Rule) (texts : Texts) (make : X → V s) (P : X → Type 0) : Type 0 where
  pub at : (ts : List Lexeme) → texts_of ts ≡ texts → (x : X) × Reading s ts (make x) × P x

-- the texts are a phrase with a tree that has the property
pub record Phrase (k : Nonterminal) (texts : Texts) (P : Tree k → Type 0) : Type 0 where
  pub at : (ts : List Lexeme) → texts_of ts ≡ texts → (q : Tree k) × IsPhrase k ts q × P q

pub split : (a b : Texts) (ts : List Lexeme) → texts_of ts ≡ a ++ b → (u w : List Lexeme) × (ts ≡ u ++ w) × (texts_of u ≡ a) × (texts_of w ≡ b)
split [] b ts e = ([], ts, refl, refl, e)
split (t ∷ a) b [] e = absurd (cc)
split (t ∷ a) b (x ∷ ts) e =
    let head : x.text ≡ t = cc in
    let tail : texts_of ts ≡ a ++ b = cc in
    let c = split a b ts tail in
    (x ∷ c.0, c.1, ap (λ l. x ∷ l) c.2, (λ i. head i ∷ c.3 i), c.4)

pub no_tokens : (ts : List Lexeme) → texts_of ts ≡ [] → ts ≡ []
no_tokens [] e = refl
no_tokens (x ∷ ts) e = absurd (cc)

infixr 25 ◌⨟◌
pub ◌⨟◌ : {X Y : Type 0} {a b : Rule} {t u : Texts} {m : X → V a} {n : Y → V b} {P : X → Type 0} {Q : Y → Type 0} → Reads a t m P → Reads b u n Q → Reads {X = X × Y} (seq a b) (t ++ u) (λ x. (m x.0, n x.1)) (λ x. P x.0 × Q x.1)
◌⨟◌ {t} {u} f g = record {
  at = λ ts e.
      let c = split t u ts e in
      let x = f.at c.0 c.3 in
      let y = g.at c.1 c.4 in
      ((x.0, y.0), (c.0, c.1, c.2, x.1, y.1), (x.2, y.2));
}

pub left : {X : Type 0} {a b : Rule} {t : Texts} {m : X → V a} {P : X → Type 0} → Reads a t m P → Reads (alt a b) t (λ x. inl (m x)) P
left f = record { at = λ ts e. let x = f.at ts e in (x.0, x.1, x.2) }

pub right : {X : Type 0} {a b : Rule} {t : Texts} {m : X → V b} {P : X → Type 0} → Reads b t m P → Reads (alt a b) t (λ x. inr (m x)) P
right f = record { at = λ ts e. let x = f.at ts e in (x.0, x.1, x.2) }

pub absent : {a : Rule} → Reads {X = Unit {0}} (opt a) [] (λ x. inr tt) (λ x. ⊤)
absent = record { at = λ ts e. (tt, no_tokens ts e, tt) }

same_bytes : (t : List ℕ) → bytes_eq t t ≡ true
same_bytes t = (bytes_eq-Decides t t).1 refl

pub one_token : (t : List ℕ) (ts : List Lexeme) → texts_of ts ≡ t ∷ [] → (x : Lexeme) × (ts ≡ x ∷ []) × (x.text ≡ t)
one_token t [] e = absurd (cc)
one_token t (x ∷ ts) e =
    let head : x.text ≡ t = cc in
    let tail : texts_of ts ≡ [] = cc in
    (x, ap (λ l. x ∷ l) (no_tokens ts tail), head)

pub token : (t : List ℕ) → Reads {X = Lexeme} (term (text t)) (t ∷ []) (λ x. x) (λ x. ⊤)
token t = record { at = λ ts e. let x = one_token t ts e in (x.0, (x.1, ap (bytes_eq t) x.2 ∙ same_bytes t), tt) }

pub a_name : (t : List ℕ) → is_name t ≡ true → Reads {X = Lexeme} (term name) (t ∷ []) (λ x. x) (λ x. x.text ≡ t)
a_name t h = record { at = λ ts e. let x = one_token t ts e in (x.0, (x.1, ap is_name x.2 ∙ h), x.2) }

pub a_number : (t : List ℕ) → is_number t ≡ true → Reads {X = Lexeme} (term number) (t ∷ []) (λ x. x) (λ x. x.text ≡ t)
a_number t h = record { at = λ ts e. let x = one_token t ts e in (x.0, (x.1, ap is_number x.2 ∙ h), x.2) }

pub a_ref : {k : Nonterminal} {t : Texts} {P : Tree k → Type 0} → Phrase k t P → Reads {X = Tree k} (ref k) t (λ q. q) P
a_ref f = record { at = f.at }

pub by_rule : (k : Nonterminal) {X : Type 0} {t : Texts} {m : X → V (rule k)} {P : X → Type 0} {Q : Tree k → Type 0} → Reads (rule k) t m P → ((x : X) → P x → Q (action k (m x))) → Phrase k t Q
by_rule k {m} f g = record {
  at = λ ts e.
      let x = f.at ts e in
      (action k (m x.0), derives_rule Tree (λ _. []) rule action k ts (m x.0) x.1, g x.0 x.2);
}

-- a right side that may go on and does not
pub alone : {X : Type 0} {a b : Rule} {t : Texts} {m : X → V a} {P : X → Type 0} → Reads a t m P → Reads (seq a (opt b)) t (λ x. (m x, inr tt)) P
alone f = record { at = λ ts e. let x = f.at ts e in (x.0, (ts, [], sym (append-nil ts), x.1, refl), x.2) }

pub no_more : {X : Type 0} {a b : Rule} {t : Texts} {m : X → V a} {P : X → Type 0} → Reads a t m P → Reads (seq a (many b)) t (λ x. (m x, [])) P
no_more f = record { at = λ ts e. let x = f.at ts e in (x.0, (ts, [], sym (append-nil ts), x.1, refl), x.2) }

-- a list of parts, with a property of the whole list
abbrev pub ReadsEach : (a : Rule) → Texts → (List (V a) → Type 0) → Type 0
ReadsEach a t P = Reads {X = List (V a)} (many a) t (λ vs. vs) P

pub no_parts : {a : Rule} → ReadsEach a [] (λ vs. vs ≡ [])
no_parts = record { at = λ ts e. ([], no_tokens ts e, refl) }

pub a_part : {X : Type 0} {a : Rule} {t u : Texts} {m : X → V a} {P : X → Type 0} {Q : List (V a) → Type 0} → Reads a t m P → ReadsEach a u Q → ReadsEach a (t ++ u) (λ vs. (x : X) × (ws : List (V a)) × (vs ≡ m x ∷ ws) × P x × Q ws)
a_part {t} {u} {m} f g = record {
  at = λ ts e.
      let c = split t u ts e in
      let x = f.at c.0 c.3 in
      let y = g.at c.1 c.4 in
      (m x.0 ∷ y.0, (c.0, c.1, c.2, x.1, y.1), (x.0, y.0, refl, x.2, y.2));
}

pub such : {X : Type 0} {a : Rule} {t : Texts} {m : X → V a} {P Q : X → Type 0} → Reads a t m P → ((x : X) → P x → Q x) → Reads a t m Q
such f g = record { at = λ ts e. let x = f.at ts e in (x.0, x.1, g x.0 x.2) }

pub such_phrase : {k : Nonterminal} {t : Texts} {P Q : Tree k → Type 0} → Phrase k t P → ((q : Tree k) → P q → Q q) → Phrase k t Q
such_phrase f g = record { at = λ ts e. let x = f.at ts e in (x.0, x.1, g x.0 x.2) }

-- a phrase is one of its right side
each_map : {A : Type 0} (P Q : List Lexeme → A → Type 0) → ((ts : List Lexeme) (v : A) → P ts v → Q ts v) → (ts : List Lexeme) (vs : List A) → MatchesEach P ts vs → MatchesEach Q ts vs
each_map P Q f ts [] m = m
each_map P Q f ts (v ∷ vs) (u, w, e, p, q) = (u, w, e, f u v p, each_map P Q f w vs q)

in_phrases : (n : ℕ) (s : Rule) (ts : List Lexeme) (v : V s) → Matches Tree (DerivesIn Tree rule action n) s ts v → Reading s ts v
in_phrases n nothing ts v m = m
in_phrases n (term t) ts v m = m
in_phrases n (ref k) ts v m = (n, m)
in_phrases n (seq a b) ts v (u, w, e, p, q) = (u, w, e, in_phrases n a u v.0 p, in_phrases n b w v.1 q)
in_phrases n (alt a b) ts (inl v) m = in_phrases n a ts v m
in_phrases n (alt a b) ts (inr v) m = in_phrases n b ts v m
in_phrases n (many a) ts vs m = each_map (Matches Tree (DerivesIn Tree rule action n) a) (Reading a) (in_phrases n a) ts vs m

pub opened : (k : Nonterminal) (ts : List Lexeme) (q : Tree k) → IsPhrase k ts q → (v : V (rule k)) × (q ≡ action k v) × Reading (rule k) ts v
opened k ts q (zero, d) = absurd d
opened k ts q (suc n, d) = (d.0, d.1, in_phrases n (rule k) ts d.0 d.2)

pub each_more : {A : Type 0} (P : List Lexeme → A → Type 0) (ts : List Lexeme) (vs : List A) (xs : List Lexeme) (v : A) → MatchesEach P ts vs → P xs v → MatchesEach P (ts ++ xs) (vs ++ (v ∷ []))
each_more P ts [] xs v m p = (xs, [], (λ i. m i ++ xs) ∙ sym (append-nil xs), p, refl)
each_more P ts (w ∷ vs) xs v (a, b, e, p', q) p = (a, b ++ xs, (λ i. e i ++ xs) ∙ append_assoc a b xs, p', each_more P b vs xs v q p)

-- the same texts by another name
pub alike : {k : Nonterminal} {t u : Texts} {P : Tree k → Type 0} → u ≡ t → Phrase k t P → Phrase k u P
alike {k} {P} e p = subst (λ l. Phrase k l P) (sym e) p
