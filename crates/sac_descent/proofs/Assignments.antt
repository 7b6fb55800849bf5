-- Steps of the functions on what stands behind the name of an assignment.
use Rattle.std.proofs.Common.{ℕ, ◌≡◌, ◌<◌, ◌+◌, max, true, List, [], ◌∷◌, inl, inr, Result, Ok, Err, refl, sym, ◌∙◌, subst, codes, arith, Bor}
use Rattle.sac_lex.specs.declared.token.Token.{Token}
use Rattle.sac_ast.specs.Texts.{Lexeme}
use Rattle.sac_ast.specs.Shape.{text, name, term, ref, seq, alt, many}
use Rattle.sac_ast.specs.Grammar.{Nonterminal, Tree, Rule, V, rule, action, sign, listed, items, index_of, update_signs, count_signs, expression, assign}
use Rattle.sac_ast.specs.Heights.{height, stmt_height}
use Rattle.sac_ast.specs.declared.Statement.{Statement}
use Rattle.sac_grammar.specs.Run.{starts, first}
use Rattle.sac_grammar.specs.Tables.{first_of}
use Rattle.sac_grammar.specs.High.{HasHigh}
use Rattle.sac_grammar.specs.Limits.{Over, High}
use Rattle.sac_grammar.specs.Parsing.{Halted, Halts, HaltsSo, nth, inject, is_apart}
use Rattle.sac_grammar.proofs.Grows.{no_op, list_high, index_high}
use Rattle.sac_grammar.proofs.Parsing.{read_nth}
use Rattle.sac_grammar.proofs.TallParts.{tall_here, so_of, so_map, so_right, so_nth, so_phrase}
use Rattle.sac_grammar.proofs.Deeper.{Deeper, height_some}
use Rattle.sac_phrases.specs.declared.halt.Halt.{Halt}
use Rattle.sac_phrases.specs.declared.halt.Halt.TheVariants.{High as TooHigh}
use Rattle.sac_phrases.specs.declared.place.Place.{Place}
use Rattle.sac_phrases.specs.declared.place.Measured.{Measured}
use Rattle.sac_phrases.specs.Contract.{StopOf, lexemes_of, IsPartAt}
use Rattle.sac_phrases.specs.Parts.{AssignRest, Counts, IsAssigned, IsAssignedOf, IsCount}
use Rattle.sac_phrases.proofs.Steps.{At, NoneBefore, token_read, part_last}
use Rattle.sac_descent.specs.Around.{IsPartSo, IndexOver, ReplaceOver, AssignOver}
use Rattle.sac_descent.proofs.DeepSteps.{so_left, so_last}
use Rattle.sac_descent.proofs.IndexLists.{high_so}

abbrev HighAt : ℕ → (s : Rule) → V s → Type 0
HighAt e = HasHigh Tree first_of (λ (j : Nonterminal). High e j)

-- ---- assignments with a part that is too high where it stands

no_names : (e : ℕ) (ns : V (many (seq (sign (codes ",")) (term name)))) → HighAt e (many (seq (sign (codes ",")) (term name))) ns → ⊥
no_names e [] h = h
no_names e (n ∷ ns) (inl (inl h)) = h
no_names e (n ∷ ns) (inl (inr h)) = h
no_names e (n ∷ ns) (inr h) = no_names e ns h

several_deeper : (d e : ℕ) → Deeper d e → (t : Lexeme) (v : V (nth 0 AssignRest)) → HighAt e (nth 0 AssignRest) v → AssignOver d t (inject 0 AssignRest v)
several_deeper d e up t (ns, (q, x)) (inl h) = absurd (no_names e ns h)
several_deeper d e up t (ns, (q, x)) (inr (inl h)) = absurd h
several_deeper d e up t (ns, (q, x)) (inr (inr h)) = let k = up (height x) h in omega arith

replace_deeper : (d e : ℕ) → Deeper d e → (t : Lexeme) (v : V (nth 1 AssignRest)) → ReplaceOver e v → AssignOver d t (inject 1 AssignRest v)
replace_deeper d e up t (l, (v, (r, (q, x)))) h = let k = up (max (height (index_of l.site (items v))) (height x)) h in omega arith

-- with the node of the operator around it
compound_deeper : (d e f : ℕ) → Deeper d e → Deeper e f → (t : Lexeme) (v : V (nth 2 AssignRest)) → HighAt f (nth 2 AssignRest) v → AssignOver d t (inject 2 AssignRest v)
compound_deeper d e f up more t (o, x) (inl h) = no_op (λ (j : Nonterminal). High f j) update_signs.0 update_signs.1 o h
compound_deeper d e f up more t (o, x) (inr h) = let k = up (1 + height x) (more (height x) h) in omega arith

-- an operator's result, and a count by one
least_three : (d : ℕ) (t : Lexeme) (v : V (alt (nth 2 AssignRest) Counts)) → 99 < d + (2 + 1) → AssignOver d t (inr (inr v))
least_three d t (inl (o, x)) h = let k = height_some x in omega arith
least_three d t (inr o) h = omega arith

-- ---- replacements

replace_high : (d : ℕ) (v : V (nth 1 AssignRest)) → HighAt d (nth 1 AssignRest) v → ReplaceOver d v
replace_high d (l, (v, (r, (q, x)))) (inl h) = absurd h
replace_high d (l, (v, (r, (q, x)))) (inr (inl h)) = let k = index_high d l.site (items v) (list_high d v h) in omega arith
replace_high d (l, (v, (r, (q, x)))) (inr (inr (inl h))) = absurd h
replace_high d (l, (v, (r, (q, x)))) (inr (inr (inr (inl h)))) = absurd h
replace_high d (l, (v, (r, (q, x)))) (inr (inr (inr (inr h)))) = omega arith

pub replace_halts : (place : Place) (ts : List Lexeme) (e : Halt) → Halts (StopOf e) place.checked (λ (j : Nonterminal). place.depth) (nth 1 AssignRest) ts → HaltsSo (StopOf e) place.checked (nth 1 AssignRest) (ReplaceOver place.depth) ts
replace_halts place ts e h = so_map (λ k v g. replace_high place.depth v g) (so_of h)

replace_index_over : (d : ℕ) (v : V (nth 1 AssignRest)) → IndexOver d v.1.0 → ReplaceOver d v
replace_index_over d (l, (v, (r, (q, x)))) h = let k = h l.site in omega arith

-- its index stops
pub replace_index : (place : Place) (ts : List Lexeme) (t : Lexeme) (a : List Lexeme) (e : Halt) → At (text (codes "[")) ts t a → HaltsSo (StopOf e) place.checked (listed (ref expression)) (IndexOver place.depth) a → HaltsSo (StopOf e) place.checked (nth 1 AssignRest) (ReplaceOver place.depth) ts
replace_index place ts t a e f h = so_map (λ k v g. replace_index_over place.depth v g.1) (so_right (token_read f) (so_left h))

-- ---- alternatives

part_so : (place : Place) (t : Lexeme) (n : ℕ) (ts : List Lexeme) (result : Result (Measured Statement × Bor (List Token)) Halt) → IsPartAt place (nth n AssignRest) (IsAssigned place t n) ts result → IsPartSo place (nth n AssignRest) (IsAssigned place t n) (HighAt place.depth (nth n AssignRest)) ts result
part_so place t n ts (Ok x) h = h
part_so place t n ts (Err e) h = so_of h

rest_nth : (place inner : Place) (t : Lexeme) (n : ℕ) (G : V (nth n AssignRest) → Type 0) (ts : List Lexeme) (result : Result (Measured Statement × Bor (List Token)) Halt) → is_apart n AssignRest ≡ true → starts (first first_of (nth n AssignRest)) ts ≡ true → inner.checked ≡ place.checked → ((v : V (nth n AssignRest)) → G v → AssignOver place.depth t (inject n AssignRest v)) → IsPartSo inner (nth n AssignRest) (IsAssigned inner t n) G ts result → IsPartSo place AssignRest (IsAssignedOf place t) (AssignOver place.depth t) ts result
rest_nth place inner t n G ts (Ok x) apart so c f (v, r, m) = (inject n AssignRest v, read_nth n AssignRest apart so r, record { tree = m.tree; tall = λ k. m.tall (c ∙ k) })
rest_nth place inner t n G ts (Err e) apart so c f h =
    so_map (λ k w g. subst (AssignOver place.depth t) (sym g.1) (f g.0 g.2))
    (so_nth n AssignRest G apart so (subst (λ b. HaltsSo (StopOf e) b (nth n AssignRest) G ts) c h))

pub rest_several : (place inner : Place) (t : Lexeme) (ts : List Lexeme) (result : Result (Measured Statement × Bor (List Token)) Halt) → starts (first first_of (nth 0 AssignRest)) ts ≡ true → inner.checked ≡ place.checked → Deeper place.depth inner.depth → IsPartAt inner (nth 0 AssignRest) (IsAssigned inner t 0) ts result → IsPartSo place AssignRest (IsAssignedOf place t) (AssignOver place.depth t) ts result
rest_several place inner t ts result so c up h = rest_nth place inner t 0 (HighAt inner.depth (nth 0 AssignRest)) ts result refl so c (several_deeper place.depth inner.depth up t) (part_so inner t 0 ts result h)

pub rest_replace : (place inner : Place) (t : Lexeme) (ts : List Lexeme) (result : Result (Measured Statement × Bor (List Token)) Halt) → starts (first first_of (nth 1 AssignRest)) ts ≡ true → inner.checked ≡ place.checked → Deeper place.depth inner.depth → IsPartSo inner (nth 1 AssignRest) (IsAssigned inner t 1) (ReplaceOver inner.depth) ts result → IsPartSo place AssignRest (IsAssignedOf place t) (AssignOver place.depth t) ts result
rest_replace place inner t ts result so c up h = rest_nth place inner t 1 (ReplaceOver inner.depth) ts result refl so c (replace_deeper place.depth inner.depth up t) h

pub rest_compound : (place inner more : Place) (t : Lexeme) (ts : List Lexeme) (result : Result (Measured Statement × Bor (List Token)) Halt) → starts (first first_of (nth 2 AssignRest)) ts ≡ true → inner.checked ≡ place.checked → more.checked ≡ inner.checked → Deeper place.depth inner.depth → Deeper inner.depth more.depth → IsPartAt more (nth 2 AssignRest) (IsAssigned more t 2) ts result → IsPartSo place AssignRest (IsAssignedOf place t) (AssignOver place.depth t) ts result
rest_compound place inner more t ts result so c k up deep h = rest_nth place more t 2 (HighAt more.depth (nth 2 AssignRest)) ts result refl so (k ∙ c) (compound_deeper place.depth inner.depth more.depth up deep t) (part_so more t 2 ts result h)

pub rest_last : (place : Place) (t : Lexeme) (ts : List Lexeme) (result : Result (Measured Statement × Bor (List Token)) Halt) → NoneBefore 3 AssignRest ts → IsPartAt place Counts (IsCount place t) ts result → IsPartSo place AssignRest (IsAssignedOf place t) (AssignOver place.depth t) ts result
rest_last place t ts (Ok x) none h = part_last place 3 AssignRest (IsAssignedOf place t) ts (Ok x) none h
rest_last place t ts (Err e) none h =
    so_map (λ k w g. no_op (λ (j : Nonterminal). High place.depth j) count_signs.0 count_signs.1 g.0 g.2)
    (so_last 3 AssignRest (HighAt place.depth Counts) ts none (so_of h))

-- before a sign, with which each assignment is too high
pub rest_high : (place : Place) (t : Lexeme) (tokens : Bor (List Token)) → NoneBefore 2 AssignRest (lexemes_of tokens.now) → (place.checked ≡ true) × (99 < place.depth + (2 + 1)) → IsPartSo place AssignRest (IsAssignedOf place t) (AssignOver place.depth t) (lexemes_of tokens.now) (Err (TooHigh tokens))
rest_high place t tokens none h =
    let G = λ (v : V (alt (nth 2 AssignRest) Counts)). AssignOver place.depth t (inr (inr v)) in
    so_map (λ k w g. subst (AssignOver place.depth t) (sym g.1) g.2)
    (so_last 2 AssignRest G (lexemes_of tokens.now) none (high_so tokens (tall_here (alt (nth 2 AssignRest) Counts) G (lexemes_of tokens.now) (λ n q v z e d. least_three place.depth t v h.1)) h.0))

-- ---- assignments

assign_over : (d : ℕ) (t : Lexeme) (w : V (rule assign)) → (w.0 ≡ t) × AssignOver d t w.1 → High d assign (action assign w)
assign_over d t (n, v) (same, h) = subst (λ (y : Lexeme). Over d (stmt_height (action assign (y, v)))) (sym same) h

pub assign_halts : (place : Place) (ts : List Lexeme) (t : Lexeme) (a : List Lexeme) (e : Halt) → At name ts t a → HaltsSo (StopOf e) place.checked AssignRest (AssignOver place.depth t) a → Halted (StopOf e) place.checked place.depth assign ts
assign_halts place ts t a e f h = so_phrase refl (λ k w g. assign_over place.depth t w g) (so_right (token_read f) h)
