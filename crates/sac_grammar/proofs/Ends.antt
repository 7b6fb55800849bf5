-- No part of a program has an end token in it: it is the last token, and the parser is never stuck behind it.
use Rattle.std.proofs.Common.{ℕ, zero, suc, ◌≡◌, Bool, true, false, not, ◌&&◌, List, [], ◌∷◌, ◌++◌, inl, inr, refl, sym, ap, ◌∙◌, subst, append_assoc, append-nil, arith, length, length-append}
use Rattle.std.specs.List.{AllByRecursion}
use Rattle.sac_ast.specs.Texts.{Lexeme, is_end}
use Rattle.sac_ast.specs.Shape.{nothing, term, ref, seq, alt, many, end, MatchesEach, Matches, DerivesIn}
use Rattle.sac_ast.specs.Tree.{ProgramTree}
use Rattle.sac_ast.specs.Grammar.{Nonterminal, Tree, Rule, V, rule, action, program, function, param, type', statement, if_statement, else_branch, block, assign, expression, disjunction, conjunction, equality, comparison, sum, product, prefix, postfix, primary, generator, bound, index, operation}
use Rattle.sac_grammar.specs.Run.{clash}
use Rattle.sac_grammar.specs.Tables.{first_of, ext_of, rank_of}
use Rattle.sac_grammar.specs.Parsing.{Found, Lost}
use Rattle.sac_grammar.proofs.Machine.{false_true, and_left, and_right, clash_text}
use Rattle.sac_grammar.proofs.Table.{table}
use Rattle.sac_grammar.proofs.Exact.{stuck_at}
use Rattle.sac_grammar.proofs.Stops.{program_read, found_not_lost}
use Rattle.sac_grammar.proofs.Verdicts.{front_of}

abbrev HasNoEnd : List Lexeme → Type 0
HasNoEnd = AllByRecursion (λ (t : Lexeme). is_end t.text ≡ false)

both_parts : (u w : List Lexeme) → HasNoEnd u → HasNoEnd w → HasNoEnd (u ++ w)
both_parts [] w p q = q
both_parts (t ∷ u) w p q = (p.0, both_parts u w p.1 q)

last_is_no_end : (u w : List Lexeme) (t : Lexeme) → HasNoEnd (u ++ (t ∷ w)) → is_end t.text ≡ false
last_is_no_end [] w t p = p.0
last_is_no_end (s ∷ u) w t p = last_is_no_end u w t p.1

abbrev is_part : Nonterminal → Bool
is_part program = false
is_part k = true

-- no end token stands in the right side itself, and no program
abbrev is_inner : Rule → Bool
is_inner nothing = true
is_inner (term t) = not (clash t end)
is_inner (ref k) = is_part k
is_inner (seq a b) = is_inner a && is_inner b
is_inner (alt a b) = is_inner a && is_inner b
is_inner (many a) = is_inner a

inner : (k : Nonterminal) → is_part k ≡ true → is_inner (rule k) ≡ true
inner program p = false_true p
inner function p = refl
inner param p = refl
inner type' p = refl
inner statement p = refl
inner if_statement p = refl
inner else_branch p = refl
inner block p = refl
inner assign p = refl
inner expression p = refl
inner disjunction p = refl
inner conjunction p = refl
inner equality p = refl
inner comparison p = refl
inner sum p = refl
inner product p = refl
inner prefix p = refl
inner postfix p = refl
inner primary p = refl
inner generator p = refl
inner bound p = refl
inner index p = refl
inner operation p = refl

no_end_each : {A : Type 0} (P : List Lexeme → A → Type 0) → ((ts : List Lexeme) (v : A) → P ts v → HasNoEnd ts) → (ts : List Lexeme) (vs : List A) → MatchesEach P ts vs → HasNoEnd ts
no_end_each P f ts [] e = subst HasNoEnd (sym e) tt
no_end_each P f ts (v ∷ vs) (u, w, e, p, q) = subst HasNoEnd (sym e) (both_parts u w (f u v p) (no_end_each P f w vs q))

not_end : (b c : Bool) → not b ≡ true → (c ≡ true → b ≡ true) → c ≡ false
not_end b false n f = refl
not_end true true n f = false_true n
not_end false true n f = sym (f refl)

no_end_shape : (R : (k : Nonterminal) → List Lexeme → Tree k → Type 0) → ((k : Nonterminal) → is_part k ≡ true → (ts : List Lexeme) (v : Tree k) → R k ts v → HasNoEnd ts) → (s : Rule) → is_inner s ≡ true → (ts : List Lexeme) (v : V s) → Matches Tree R s ts v → HasNoEnd ts
no_end_shape R f nothing i ts v e = subst HasNoEnd (sym e) tt
no_end_shape R f (term t) i ts v (e, m) = subst HasNoEnd (sym e) (not_end (clash t end) (is_end v.text) i (λ x. clash_text t end v m x), tt)
no_end_shape R f (ref k) i ts v m = f k i ts v m
no_end_shape R f (seq a b) i ts v (u, w, e, p, q) = subst HasNoEnd (sym e) (both_parts u w (no_end_shape R f a (and_left (is_inner a) (is_inner b) i) u v.0 p) (no_end_shape R f b (and_right (is_inner a) (is_inner b) i) w v.1 q))
no_end_shape R f (alt a b) i ts (inl v) m = no_end_shape R f a (and_left (is_inner a) (is_inner b) i) ts v m
no_end_shape R f (alt a b) i ts (inr v) m = no_end_shape R f b (and_right (is_inner a) (is_inner b) i) ts v m
no_end_shape R f (many a) i ts vs m = no_end_each (Matches Tree R a) (no_end_shape R f a i) ts vs m

no_end : (n : ℕ) (k : Nonterminal) → is_part k ≡ true → (ts : List Lexeme) (v : Tree k) → DerivesIn Tree rule action n k ts v → HasNoEnd ts
no_end zero k p ts v d = absurd d
no_end (suc n) k p ts v (x, e, d) = no_end_shape (DerivesIn Tree rule action n) (no_end n) (rule k) (inner k p) ts x d

-- behind an end token no program goes on
nothing_behind : (u w : List Lexeme) (e y : Lexeme) → is_end e.text ≡ true → (v : ProgramTree) (n : ℕ) → DerivesIn Tree rule action n program ((u ++ (e ∷ [])) ++ (y ∷ w)) v → ⊥
nothing_behind u w e y is v zero d = d
nothing_behind u w e y is v (suc n) (x, same, (fs, last, cut, each, (at, ends))) =
    let a = ap length cut in
    let b = length-append (u ++ (e ∷ [])) (y ∷ w) in
    let c = length-append fs last in
    let l = ap length at in
    let f = front_of (u ++ (e ∷ [])) fs (y ∷ w) last cut (omega arith) in
    let none = no_end_each (DerivesIn Tree rule action n function) (no_end n function refl) fs x.0 each in
    false_true (sym (last_is_no_end u f.0 e (subst HasNoEnd (f.1 ∙ append_assoc u (e ∷ []) f.0) none)) ∙ is)

ended_by : (u : List Lexeme) (e : Lexeme) → is_end e.text ≡ true → Lost program (u ++ (e ∷ [])) [] → (w : List Lexeme) (v : ProgramTree) (n : ℕ) → DerivesIn Tree rule action n program ((u ++ (e ∷ [])) ++ w) v → ⊥
ended_by u e is l [] v n d = found_not_lost program (u ++ (e ∷ [])) v [] [] (subst (λ ts. Found program ts v []) (append-nil ((u ++ (e ∷ [])) ++ []) ∙ append-nil (u ++ (e ∷ []))) (program_read ((u ++ (e ∷ [])) ++ []) [] v (n, d))) l
ended_by u e is l (y ∷ w) v n d = nothing_behind u w e y is v n d

-- the parser is not stuck behind all tokens of a source
pub ended : (u : List Lexeme) (e : Lexeme) → is_end e.text ≡ true → Lost program (u ++ (e ∷ [])) [] → ⊥
ended u e is l =
    let s = stuck_at Tree first_of ext_of rank_of rule action table program (u ++ (e ∷ [])) [] l in
    let begun = s.2 in
    ended_by u e is l begun.0 begun.1 begun.2.0 (subst (λ ts. DerivesIn Tree rule action begun.2.0 program (ts ++ begun.0) begun.1) (sym (s.1 ∙ append-nil s.0)) begun.2.1)
