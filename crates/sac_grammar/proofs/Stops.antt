-- From what the parser has done over the tokens of a program to the meaning of its answer.
use Rattle.std.proofs.Common.{ℕ, ◌≡◌, ◌<◌, ◌≤◌, ◌+◌, false, List, [], ◌∷◌, ◌++◌, ◌⊎◌, inl, inr, refl, sym, ap, ◌∙◌, subst, append_assoc, append-nil, arith, length, length-append}
use Rattle.std.specs.List.{AllByRecursion}
use Rattle.sac_ast.specs.Texts.{Lexeme}
use Rattle.sac_ast.specs.Shape.{MatchesEach, ref}
use Rattle.sac_ast.specs.Tree.{FunctionTree, ProgramTree}
use Rattle.sac_ast.specs.Grammar.{Nonterminal, Tree, rule, action, program, function, IsPhrase, IsProgram}
use Rattle.sac_ast.specs.Heights.{function_height}
use Rattle.sac_grammar.specs.Run.{starts, SameFirst, RunsIn}
use Rattle.sac_grammar.specs.Tables.{first_of, ext_of, rank_of}
use Rattle.sac_grammar.specs.Limits.{High}
use Rattle.sac_grammar.specs.Parsing.{Found, Lost, TooTall, ReadEach}
use Rattle.sac_grammar.proofs.Machine.{false_true, SameEnd}
use Rattle.sac_grammar.proofs.Table.{table}
use Rattle.sac_grammar.proofs.High.{same_first_self}
use Rattle.sac_grammar.proofs.Exact.{phrase_read, same_read, only_read, derives_begins}

-- ---- phrases and reading

-- a phrase is read, whatever follows a function or a program
pub read_phrase : (k : Nonterminal) → ((z : List Lexeme) → starts (ext_of k) z ≡ false) → (w z : List Lexeme) (v : Tree k) → IsPhrase k w v → Found k (w ++ z) v z
read_phrase k free w z v d = record { levels = d.0; run = phrase_read Tree first_of ext_of rank_of rule action table d.0 k w v z d.1 (free z) }

ends_free : (z : List Lexeme) → starts [] z ≡ false
ends_free [] = refl
ends_free (x ∷ z) = refl

pub function_read : (w z : List Lexeme) (g : FunctionTree) → IsPhrase function w g → Found function (w ++ z) g z
function_read = read_phrase function ends_free

pub program_read : (w z : List Lexeme) (p : ProgramTree) → IsProgram w p → Found program (w ++ z) p z
program_read = read_phrase program ends_free

pub same_found : (k : Nonterminal) (ts : List Lexeme) (v w : Tree k) (r q : List Lexeme) → Found k ts v r → Found k ts w q → SameEnd v w r q
same_found k ts v w r q f g = same_read Tree first_of ext_of rank_of rule action table f.levels g.levels k ts v w r q f.run g.run

pub found_not_lost : (k : Nonterminal) (ts : List Lexeme) (v : Tree k) (r q : List Lexeme) → Found k ts v r → Lost k ts q → ⊥
found_not_lost k ts v r q f l = only_read Tree first_of ext_of rank_of rule action table f.levels l.levels k ts v r q f.run l.run

same_first_of : (r : List Lexeme) (x : Lexeme) (xs ys : List Lexeme) → r ≡ x ∷ xs → SameFirst r (x ∷ ys)
same_first_of r x xs ys e = subst (λ l. SameFirst l (x ∷ ys)) (sym e) refl

pub tall_at : (d : ℕ) (k : Nonterminal) (ts r : List Lexeme) → TooTall d k ts r → (u : List Lexeme) × (ts ≡ u ++ r) × ((w : List Lexeme) × (v : Tree k) × IsPhrase k (u ++ w) v) × ((x : Lexeme) (xs ys : List Lexeme) (v : Tree k) → r ≡ x ∷ xs → IsPhrase k (u ++ (x ∷ ys)) v → High d k v)
tall_at d k ts r t = (
  t.front,
  t.split,
  t.begun,
  λ x xs ys v e p.
      let run = phrase_read Tree first_of ext_of rank_of rule action table p.0 k (t.front ++ (x ∷ ys)) v [] p.1 refl in
      (t.high p.0 (x ∷ ys) v [] (same_first_of r x xs ys e) (subst (λ l. RunsIn Tree first_of rule action p.0 k l v []) (append-nil (t.front ++ (x ∷ ys))) run)).0,
)

-- ---- no function that is too high ends before the place where the parser stopped

-- the parser stopped in a function, or none begins here
abbrev pub StopsBefore : List Lexeme → List Lexeme → Type 0
StopsBefore mid r = Lost function mid r ⊎ (TooTall 0 function mid r ⊎ (starts (first_of function) mid ≡ false))

-- a function that stands where the parser stopped ends behind the place
function_after : (mid r : List Lexeme) → StopsBefore mid r → (w z : List Lexeme) (g : FunctionTree) → mid ≡ w ++ z → IsPhrase function w g → length z < length r
function_after mid r (inl l) w z g e d = absurd (found_not_lost function mid g z r (subst (λ l. Found function l g z) (sym e) (function_read w z g d)) l)
function_after mid r (inr (inl t)) w z g e d =
    let f : Found function mid g z = subst (λ l. Found function l g z) (sym e) (function_read w z g d) in
    let h = t.high f.levels r g z (same_first_self r) (subst (λ l. RunsIn Tree first_of rule action f.levels function l g z) t.split f.run) in
    let gap : length z + 1 ≤ length r = h.1 in
    omega arith
function_after mid r (inr (inr n)) w z g e d =
    false_true (sym (subst (λ l. starts (first_of function) l ≡ false) e n) ∙ derives_begins Tree first_of ext_of rank_of rule action table d.0 function w g d.1 z)

pub reached : (ts mid r : List Lexeme) (fs : List FunctionTree) → ReadEach (ref function) ts fs mid → AllByRecursion (λ (f : FunctionTree). function_height f ≤ 100) fs → StopsBefore mid r → (v : List Lexeme) (gs : List FunctionTree) (f w : List Lexeme) (g : FunctionTree) → ts ≡ v ++ (f ++ w) → MatchesEach (IsPhrase function) v gs → IsPhrase function f g → 100 < function_height g → length w < length r
reached ts mid r [] e low s v [] f w g whole gs d h = function_after mid r s f w g (e ∙ whole ∙ ap (λ l. l ++ (f ++ w)) gs) d
reached ts mid r [] e low s v (g1 ∷ gs) f w g whole (u, x, cut, d1, m) d h =
    let a : mid ≡ u ++ (x ++ (f ++ w)) = e ∙ whole ∙ ap (λ l. l ++ (f ++ w)) cut ∙ append_assoc u x (f ++ w) in
    let b = function_after mid r s u (x ++ (f ++ w)) g1 a d1 in
    let n = length-append x (f ++ w) in
    let k = length-append f w in
    omega arith
reached ts mid r (F ∷ fs) (t, (m, run, each)) low s v [] f w g whole gs d h =
    let q : Found function ts g w = subst (λ l. Found function l g w) (sym (whole ∙ ap (λ l. l ++ (f ++ w)) gs)) (function_read f w g d) in
    let one = same_found function ts g F w m q run in
    let k = ap function_height one.value in
    let l = low.0 in
    absurd (omega arith)
reached ts mid r (F ∷ fs) (t, (m, run, each)) low s v (g1 ∷ gs) f w g whole (u, x, cut, d1, more) d h =
    let a : ts ≡ u ++ (x ++ (f ++ w)) = whole ∙ ap (λ l. l ++ (f ++ w)) cut ∙ append_assoc u x (f ++ w) in
    let q : Found function ts g1 (x ++ (f ++ w)) = subst (λ l. Found function l g1 (x ++ (f ++ w))) (sym a) (function_read u (x ++ (f ++ w)) g1 d1) in
    let one = same_found function ts F g1 m (x ++ (f ++ w)) run q in
    reached m mid r fs each low.1 s x gs f w g one.rest more d h
