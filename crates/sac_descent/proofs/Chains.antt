-- Operands with operators between them, which group to the left.
use Rattle.std.proofs.Common.{ℕ, ◌≡◌, ◌<◌, ◌≤◌, ◌+◌, true, false, cond, List, [], ◌∷◌, ◌++◌, refl, sym, ap, ◌∙◌, subst, map, arith, append-nil}
use Rattle.sac_base.specs.declared.op.Op.{Op}
use Rattle.sac_base.specs.declared.site.Site.{Site}
use Rattle.sac_ast.specs.Texts.{Lexeme}
use Rattle.sac_ast.specs.Shape.{seq, many}
use Rattle.sac_ast.specs.Grammar.{Rule, V, one_of, chosen, chain}
use Rattle.sac_ast.specs.Heights.{height}
use Rattle.sac_ast.specs.Tree as tree
use Rattle.sac_ast.specs.Tree.{Expr}
use Rattle.sac_grammar.specs.Run.{starts, first, is_nullable}
use Rattle.sac_grammar.specs.Tables.{first_of}
use Rattle.sac_grammar.specs.Parsing.{Reading, Parts}
use Rattle.sac_grammar.proofs.Parsing.{read_then, no_parts, one_more_part, read_parts}
use Rattle.sac_phrases.proofs.Steps.{TheOperator}

nullable_ops : (o : List ℕ × Op) (ps : List (List ℕ × Op)) → is_nullable (one_of o ps) ≡ false
nullable_ops o [] = refl
nullable_ops o (p ∷ ps) = nullable_ops p ps

pub first_ops : (o : List ℕ × Op) (ps : List (List ℕ × Op)) (a : Rule) → first first_of (seq (one_of o ps) a) ≡ first first_of (one_of o ps)
first_ops o ps a = ap (λ b. first first_of (one_of o ps) ++ cond b (first first_of a) []) (nullable_ops o ps) ∙ append-nil (first first_of (one_of o ps))

-- ---- trees

chain_append : (o : List ℕ × Op) (ps : List (List ℕ × Op)) (e : Expr) (xs ys : List (V (one_of o ps) × Expr)) → chain o ps e (xs ++ ys) ≡ chain o ps (chain o ps e xs) ys
chain_append o ps e [] ys = refl
chain_append o ps e ((v, x) ∷ xs) ys = chain_append o ps (tree.binary (chosen o ps v).0 e x (chosen o ps v).1) xs ys

chain_first : (o : List ℕ × Op) (ps : List (List ℕ × Op)) (e : Expr) (xs : List (V (one_of o ps) × Expr)) → height e ≤ height (chain o ps e xs)
chain_first o ps e [] = omega arith
chain_first o ps e ((v, x) ∷ xs) = let h = chain_first o ps (tree.binary (chosen o ps v).0 e x (chosen o ps v).1) xs in omega arith

over_more : (d l n : ℕ) → 99 < d + (l + 1) → 1 + l ≤ n → 99 < d + n
over_more d l n h g = omega arith

binary_over : (d : ℕ) (e : Expr) (n : ℕ) (x : Expr) (c : Op × Site) → 99 < d + (height e + 1) → height (tree.binary c.0 e x c.1) ≤ n → 99 < d + n
binary_over d e n x c h g = omega arith

-- one more operand makes it too high
pub chain_over : (d : ℕ) (o : List ℕ × Op) (ps : List (List ℕ × Op)) (e left : Expr) (xs : List (V (one_of o ps) × Expr)) → left ≡ chain o ps e xs → 99 < d + (height left + 1) → (t : V (one_of o ps) × Expr) (us : List (V (one_of o ps) × Expr)) → 99 < d + height (chain o ps e (xs ++ (t ∷ us)))
chain_over d o ps e left xs same h t us =
    subst (λ x. 99 < d + height x) (ap (λ l. chain o ps l (t ∷ us)) same ∙ sym (chain_append o ps e xs (t ∷ us)))
    (binary_over d left (height (chain o ps left (t ∷ us))) t.1 (chosen o ps t.0) h (chain_first o ps (tree.binary (chosen o ps t.0).0 left t.1 (chosen o ps t.0).1) us))

-- ---- steps

-- operands that were read so far, and what is left
pub record Chain (o : List ℕ × Op) (ps : List (List ℕ × Op)) (a : Rule) (see : V a → Expr) (ts : List Lexeme) (left : Expr) (rest : List Lexeme) : Type 0 where
  pub head : V a
  pub mid : List Lexeme
  pub tail : List (V (seq (one_of o ps) a))
  pub begins : Reading a ts head mid
  pub goes_on : Parts (seq (one_of o ps) a) mid tail rest
  pub same : left ≡ chain o ps (see head) (map (λ (p : V (seq (one_of o ps) a)). (p.0, see p.1)) tail)

map_append : {A B : Type 0} (f : A → B) (xs ys : List A) → map f (xs ++ ys) ≡ map f xs ++ map f ys
map_append f [] ys = refl
map_append f (x ∷ xs) ys = ap (λ l. f x ∷ l) (map_append f xs ys)

pub pairs_same : {A B : Type 0} (xs : List (A × B)) → map (λ (p : A × B). (p.0, p.1)) xs ≡ xs
pairs_same [] = refl
pairs_same (x ∷ xs) = ap (λ l. x ∷ l) (pairs_same xs)

module _ (o : List ℕ × Op) (ps : List (List ℕ × Op)) (a : Rule) (see : V a → Expr) where
  pub chain_begin : {ts rest : List Lexeme} {v : V a} → Reading a ts v rest → Chain o ps a see ts (see v) rest
  chain_begin {ts} {rest} {v} f = record { head = v; mid = rest; tail = []; begins = f; goes_on = no_parts; same = refl }

  pub starts_part : {ts behind : List Lexeme} {x : Op × Site} → TheOperator o ps ts x behind → starts (first first_of (seq (one_of o ps) a)) ts ≡ true
  starts_part {ts} {behind} {x} f = ap (λ fs. starts fs ts) (first_ops o ps a) ∙ f.starts_so

  pub chain_more : {ts rest behind after : List Lexeme} {left : Expr} {x : Op × Site} {v : V a} → Chain o ps a see ts left rest → TheOperator o ps rest x behind → Reading a behind v after → Chain o ps a see ts (tree.binary x.0 left (see v) x.1) after
  chain_more {ts} {rest} {behind} {after} {left} {x} {v} c f g =
      let more : map (λ (p : V (seq (one_of o ps) a)). (p.0, see p.1)) (c.tail ++ ((f.value, v) ∷ [])) ≡ map (λ (p : V (seq (one_of o ps) a)). (p.0, see p.1)) c.tail ++ ((f.value, see v) ∷ []) = map_append (λ (p : V (seq (one_of o ps) a)). (p.0, see p.1)) c.tail ((f.value, v) ∷ []) in
      record {
        head = c.head;
        mid = c.mid;
        tail = c.tail ++ ((f.value, v) ∷ []);
        begins = c.begins;
        goes_on = one_more_part c.goes_on (starts_part f) (read_then f.reads g);
        same = ap (λ (y : Op × Site). tree.binary y.0 left (see v) y.1) (sym f.is) ∙ ap (λ l. tree.binary (chosen o ps f.value).0 l (see v) (chosen o ps f.value).1) c.same ∙ sym (chain_append o ps (see c.head) (map (λ (p : V (seq (one_of o ps) a)). (p.0, see p.1)) c.tail) ((f.value, see v) ∷ [])) ∙ ap (chain o ps (see c.head)) (sym more);
      }

  pub chain_done : {ts rest : List Lexeme} {left : Expr} (c : Chain o ps a see ts left rest) → starts (first first_of (one_of o ps)) rest ≡ false → Reading (seq a (many (seq (one_of o ps) a))) ts (c.head, c.tail) rest
  chain_done {ts} {rest} {left} c s = read_then c.begins (read_parts c.goes_on (ap (λ fs. starts fs rest) (first_ops o ps a) ∙ s))
