-- Steps of the function on index lists, whose expressions stand one node deeper from the second one on.
use Rattle.std.proofs.Common.{ℕ, ◌≡◌, ◌<◌, ◌≤◌, ◌+◌, max, Bool, true, List, [], ◌∷◌, ◌++◌, inl, Ok, sym, ap, ◌∙◌, subst, map, codes, arith, Bor}
use Rattle.std.specs.Global.{Box}
use Rattle.sac_lex.specs.declared.token.Token.{Token}
use Rattle.sac_base.specs.declared.site.Site.{Site}
use Rattle.sac_ast.specs.Texts.{Lexeme}
use Rattle.sac_ast.specs.Shape.{text, ref}
use Rattle.sac_ast.specs.Grammar.{Rule, V, listed, items, index_of, expression}
use Rattle.sac_ast.specs.Heights.{height, heights}
use Rattle.sac_ast.specs.Tree.{Expr}
use Rattle.sac_ast.specs.View.{exprs_of}
use Rattle.sac_ast.specs.declared.Expression.{Expression}
use Rattle.sac_grammar.specs.Limits.{Over}
use Rattle.sac_grammar.specs.Parsing.{StopsSo, high, TallPart, Halted, HaltsSo}
use Rattle.sac_grammar.proofs.Grows.{list_high, index_high}
use Rattle.sac_grammar.proofs.TallParts.{HasNext, tall_here, so_map, so_right, so_parts}
use Rattle.sac_grammar.proofs.Deeper.{Deeper}
use Rattle.sac_phrases.specs.declared.halt.Halt.{Halt}
use Rattle.sac_phrases.specs.declared.halt.Halt.TheVariants.{High as TooHigh, Memory}
use Rattle.sac_phrases.specs.declared.place.Place.{Place}
use Rattle.sac_phrases.specs.declared.place.Measured.{Measured}
use Rattle.sac_phrases.specs.Contract.{StopOf, lexemes_of, IsPhraseAt, unboxed}
use Rattle.sac_phrases.proofs.Steps.{At, After, token_read, starts_there}
use Rattle.sac_descent.specs.Around.{IndexOver}
use Rattle.sac_descent.proofs.ListSteps.{ListRead}
use Rattle.sac_descent.proofs.PhraseSteps.{IsInside}
use Rattle.sac_descent.proofs.DeepSteps.{so_left, low_weaker, operand_so}

-- ---- stops

-- before a token, with which each value is too high
pub high_so : {checked : Bool} {s : Rule} {G : V s → Type 0} {ts : List Lexeme} (rest : Bor (List Token)) → TallPart s G ts (lexemes_of rest.now) → checked ≡ true → HaltsSo (StopOf (TooHigh rest)) checked s G ts
high_so {checked} {s} {G} {ts} rest t c = record { at = λ x p. subst (StopsSo s G ts) (sym p) t; only = λ r p. c }

pub memory_so : {checked : Bool} {s : Rule} {G : V s → Type 0} {ts : List Lexeme} (e : Halt) → e ≡ Memory → HaltsSo (StopOf e) checked s G ts
memory_so {checked} {s} {G} {ts} e m = record {
  at = λ x p. absurd (subst (λ h. StopOf h x) m p);
  only = λ r p. absurd (subst (λ h. StopOf h (high r)) m p);
}

-- ---- heights

abbrev More : Type 0
More = List (Lexeme × Expr)

-- two expressions and more are the elements of an array
several_tall : (site : Site) (x : Expr) (vs us : More) (u : Lexeme × Expr) → height (index_of site (x ∷ map (λ (p : Lexeme × Expr). p.1) (vs ++ (u ∷ us)))) ≡ 1 + heights (exprs_of (x ∷ map (λ (p : Lexeme × Expr). p.1) (vs ++ (u ∷ us))))
several_tall site x [] us u = omega arith
several_tall site x (v ∷ vs) us u = omega arith

at_least : (vs us : More) (u : Lexeme × Expr) → max (heights (exprs_of (map (λ (p : Lexeme × Expr). p.1) vs))) (height u.1) ≤ heights (exprs_of (map (λ (p : Lexeme × Expr). p.1) (vs ++ (u ∷ us))))
at_least [] us u = omega arith
at_least (v ∷ vs) us u = let h = at_least vs us u in omega arith

items_same : (x y : Expr) (ws vs : More) → y ≡ x → ws ≡ vs → y ∷ map (λ (p : Lexeme × Expr). p.1) ws ≡ x ∷ map (λ (p : Lexeme × Expr). p.1) vs
items_same x y ws vs e g = λ i. e i ∷ map (λ (p : Lexeme × Expr). p.1) (g i)

several_over : (d n m l k whole index : ℕ) → 99 < d + (n + 1) → n ≡ max m l → max l k ≤ whole → index ≡ 1 + max m whole → 99 < d + index
several_over d n m l k whole index h e g i = omega arith

-- so many nodes stand in the expressions before a comma
comma_over : (d n : ℕ) (x : Expr) (vs : More) → 99 < d + (n + 1) → n ≡ heights (exprs_of (x ∷ map (λ (p : Lexeme × Expr). p.1) vs)) → (w : V (listed (ref expression))) → (w.0 ≡ x) × HasNext (After (ref expression)) (λ u. Unit {0}) vs w.1 → IndexOver d w
comma_over d n x vs h e (y, ws) (same, (u, us, is, t)) site =
    subst (λ (es : List Expr). Over d (height (index_of site es))) (sym (items_same x y ws (vs ++ (u ∷ us)) same is))
    (several_over d n (height x) (heights (exprs_of (map (λ (p : Lexeme × Expr). p.1) vs))) (height u.1) (heights (exprs_of (map (λ (p : Lexeme × Expr). p.1) (vs ++ (u ∷ us))))) (height (index_of site (x ∷ map (λ (p : Lexeme × Expr). p.1) (vs ++ (u ∷ us))))) h e (at_least vs us u) (several_tall site x vs us u))

next_over : (d e : ℕ) → Deeper d e → (x : Expr) (vs : More) (w : V (listed (ref expression))) → (w.0 ≡ x) × HasNext (After (ref expression)) (λ u. Over e (height u.1)) vs w.1 → IndexOver d w
next_over d e up x vs (y, ws) (same, (u, us, is, t)) site =
    subst (λ (es : List Expr). Over d (height (index_of site es))) (sym (items_same x y ws (vs ++ (u ∷ us)) same is))
    (above (height u.1) (heights (exprs_of (map (λ (p : Lexeme × Expr). p.1) vs))) (heights (exprs_of (map (λ (p : Lexeme × Expr). p.1) (vs ++ (u ∷ us))))) (height x) (height (index_of site (x ∷ map (λ (p : Lexeme × Expr). p.1) (vs ++ (u ∷ us))))) (up (height u.1) t) (at_least vs us u) (several_tall site x vs us u))
  where
    above : (k l whole m index : ℕ) → 99 < d + (1 + k) → max l k ≤ whole → index ≡ 1 + max m whole → 99 < d + index
    above k l whole m index h g i = omega arith

-- ---- steps

-- the first expression stops
pub indices_first : (place : Place) (ts : List Lexeme) (e : Halt) → Halted (StopOf e) place.checked place.depth expression ts → HaltsSo (StopOf e) place.checked (listed (ref expression)) (IndexOver place.depth) ts
indices_first place ts e h = so_map (λ k w g site. index_high place.depth site (items w) (list_high place.depth w (inl g))) (so_left (operand_so place.depth expression ts h))

tall_items : (place : Place) (ts rest : List Lexeme) (es : List Expression) (n : ℕ) (l : ListRead place ts es n rest) → place.checked ≡ true → n ≡ heights (exprs_of (l.so_far.head ∷ map (λ (p : Lexeme × Expr). p.1) l.so_far.tail))
tall_items place ts rest es n l c = (l.low c).0 ∙ ap (λ xs. heights (exprs_of xs)) l.so_far.same

-- before a comma, with which each index is too high
pub indices_high : (place : Place) (ts : List Lexeme) (es : List Expression) (n : ℕ) (rest : Bor (List Token)) (t : Lexeme) (behind : List Lexeme) → ListRead place ts es n (lexemes_of rest.now) → At (text (codes ",")) (lexemes_of rest.now) t behind → (place.checked ≡ true) × (99 < place.depth + (n + 1)) → HaltsSo (StopOf (TooHigh rest)) place.checked (listed (ref expression)) (IndexOver place.depth) ts
indices_high place ts es n rest t behind l comma h =
    so_map (λ k w g. comma_over place.depth n l.so_far.head l.so_far.tail h.1 (tall_items place ts (lexemes_of rest.now) es n l h.0) w g)
    (so_right l.so_far.begins (so_parts l.so_far.goes_on (starts_there (text (codes ",")) comma)
    (high_so rest (tall_here (After (ref expression)) (λ u. Unit {0}) (lexemes_of rest.now) (λ m q v z e d. tt)) h.0)))

-- an expression behind a comma stops
pub indices_next : (place inner : Place) (ts : List Lexeme) (es : List Expression) (n : ℕ) (rest : List Lexeme) (t : Lexeme) (behind : List Lexeme) (e : Halt) → inner.checked ≡ place.checked → Deeper place.depth inner.depth → ListRead place ts es n rest → At (text (codes ",")) rest t behind → Halted (StopOf e) inner.checked inner.depth expression behind → HaltsSo (StopOf e) place.checked (listed (ref expression)) (IndexOver place.depth) ts
indices_next place inner ts es n rest t behind e c up l comma h =
    so_map (λ k w g. next_over place.depth inner.depth up l.so_far.head l.so_far.tail w (g.0, (g.1.0, g.1.1, g.1.2, g.1.3.1)))
    (so_right l.so_far.begins (so_parts l.so_far.goes_on (starts_there (text (codes ",")) comma) (so_right (token_read comma) (operand_so inner.depth expression behind (subst (λ b. Halted (StopOf e) b inner.depth expression behind) c h)))))

-- what was read one node deeper is low here
pub indices_low : (place inner : Place) (behind : List Lexeme) (x : Measured (Box Expression)) (rest : Bor (List Token)) → IsInside place inner → IsPhraseAt inner expression unboxed height behind (Ok (x, rest)) → IsPhraseAt place expression unboxed height behind (Ok (x, rest))
indices_low place inner behind x rest i f = (f.0, low_weaker place inner x.height (height (unboxed x.tree)) i f.1)
