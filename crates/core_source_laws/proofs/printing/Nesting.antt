-- In the canonical texts of a tree no more brackets are open at once than the tree is high.
use Rattle.std.proofs.Common.{ℕ, zero, suc, ◌≡◌, ◌≤◌, ◌<◌, ◌+◌, ◌-◌, ◌^◌, max, Bool, true, false, cond, ◌||◌, List, [], ◌∷◌, ◌++◌, map, replicate, refl, sym, ap, ◌∙◌, subst, arith, pos, negsuc, codes}
use Rattle.std.specs.List.{AllByRecursion}
use Rattle.std.specs.Str.{bytes_eq}
use Rattle.std.specs.Fmt.{decimal}
use Rattle.sac_base.specs.declared.op.Op.{Op}
use Rattle.sac_base.specs.declared.op.Op.TheVariants.{Add, Sub, Mul, Div, Rem, Min, Max, Neg, Not, Eq, Ne, Lt, Le, Gt, Ge, And, Or}
use Rattle.sac_base.specs.declared.base.Base.{Base}
use Rattle.sac_base.specs.declared.base.Base.TheVariants as base
use Rattle.sac_base.specs.declared.types.ArrayType.{ArrayType}
use Rattle.sac_base.specs.declared.types.Part.{Part as Part'}
use Rattle.sac_base.specs.declared.types.Part.TheVariants.{Known, Rank, Plus, Star}
use Rattle.sac_ast.specs.declared.Target.{Target}
use Rattle.sac_ast.specs.declared.Param.{Param}
use Rattle.sac_ast.specs.declared.Builtin.{Builtin}
use Rattle.sac_ast.specs.declared.Builtin.TheVariants as built
use Rattle.sac_ast.specs.Texts.{Lexeme, is_name, is_number}
use Rattle.sac_ast.specs.Tree as tree
use Rattle.sac_ast.specs.Tree.{IndexTree, named, parts, Expr, Exprs, no_exprs, expr_and, MaybeExpr, left_out, given, Stmt, Block, no_stmts, stmt_and, BoundTree, Gen, gen, Gens, no_gens, gen_and, OperationTree, FunctionTree, ProgramTree}
use Rattle.sac_ast.specs.Heights.{opens, closes, open_behind, IsShallow, height, heights, maybe_height, stmt_height, block_height, bound_height, gen_height, gens_height, operation_height, function_height}
use Rattle.sac_print.specs.declared.level.Level.{Level}
use Rattle.sac_print.specs.declared.level.Level.TheVariants as level
use Rattle.sac_print.specs.Texts.{Texts, one, commas}
use Rattle.sac_print.specs.Operators.{operator_text, builtin_text, is_function, level_of, tighter, is_looser, opening, closing}
use Rattle.sac_print.specs.Canonical.{parens, brackets, braces, target_texts, targets_texts, index_texts, bound_sign, truth_text, spell, spell_list, spell_more, spell_maybe, spell_stmt, spell_block, spell_else, spell_body, spell_bound, spell_gen, spell_gens, spell_operation, base_text, part_texts, type_texts, param_texts, inline_texts, function_texts, functions_texts, program_texts}
use Rattle.sac_grammar.proofs.Machine.{bytes_same}
use Rattle.std.proofs.lemmas.Fmt.{decimal_is_IsNumeral}
use Rattle.core_source_laws.proofs.printing.Spelled.{number_text}
use Rattle.core_source_laws.proofs.printing.Fits.{FitsName, Fits, FitAll, FitsMaybe, FitsStmt, FitBlock, FitsBound, FitsGen, FitGens, FitsOperation, FitsTarget, FitTargets, FitsIndex, FitsPart, FitsType, FitsParam, FitResults, FitValues, FitsFunction, FitsProgram}

-- ---- brackets along texts

abbrev pub step : ℕ → List ℕ → ℕ
step n x = cond (opens x) (n + 1) (cond (closes x) (n - 1) n)

-- how many are open behind the texts, and at most along them
abbrev pub behind : ℕ → Texts → ℕ
behind n [] = n
behind n (x ∷ xs) = behind (step n x) xs

abbrev pub top : ℕ → Texts → ℕ
top n [] = n
top n (x ∷ xs) = max n (top (step n x) xs)

-- the texts close k brackets that were open before them, and at most m are open along them
pub record Part (k m : ℕ) (t : Texts) : Type 0 where
  pub back : (n : ℕ) → behind (n + k) t ≡ n
  pub low : (n : ℕ) → top (n + k) t ≤ n + m

-- a text that is no bracket
pub record IsPlain (x : List ℕ) : Type 0 where
  pub no_open : opens x ≡ false
  pub no_close : closes x ≡ false

behind_both : (n : ℕ) (a b : Texts) → behind n (a ++ b) ≡ behind (behind n a) b
behind_both n [] b = refl
behind_both n (x ∷ a) b = behind_both (step n x) a b

top_both : (n : ℕ) (a b : Texts) → top n (a ++ b) ≤ max (top n a) (top (behind n a) b)
top_both n [] b = omega arith
top_both n (x ∷ a) b = let h = top_both (step n x) a b in omega arith

step_plain : (n : ℕ) (x : List ℕ) → IsPlain x → step n x ≡ n
step_plain n x p = ap (λ b. cond b (n + 1) (cond (closes x) (n - 1) n)) p.no_open ∙ ap (λ b. cond b (n - 1) n) p.no_close

step_open : (n : ℕ) (x : List ℕ) → opens x ≡ true → step n x ≡ n + 1
step_open n x o = ap (λ b. cond b (n + 1) (cond (closes x) (n - 1) n)) o

step_close : (n : ℕ) (x : List ℕ) → opens x ≡ false → closes x ≡ true → step n x ≡ n - 1
step_close n x o c = ap (λ b. cond b (n + 1) (cond (closes x) (n - 1) n)) o ∙ ap (λ b. cond b (n - 1) n) c

nil : (m : ℕ) → Part 0 m []
nil m = record { back = λ n. omega arith; low = λ n. omega arith }

plain : {k m : ℕ} {t : Texts} (x : List ℕ) → IsPlain x → k ≤ m → Part k m t → Part k m (x ∷ t)
plain {k} {m} {t} x p le r = record {
  back = λ n. ap (λ j. behind j t) (step_plain (n + k) x p) ∙ r.back n;
  low = λ n. let e = ap (λ j. top j t) (step_plain (n + k) x p) in let h = r.low n in omega arith;
}

opened : {k m : ℕ} {t : Texts} (x : List ℕ) → opens x ≡ true → k ≤ m → Part (k + 1) m t → Part k m (x ∷ t)
opened {k} {m} {t} x o le r = record {
  back = λ n. ap (λ j. behind j t) (step_open (n + k) x o ∙ same n) ∙ r.back n;
  low = λ n. let e = ap (λ j. top j t) (step_open (n + k) x o ∙ same n) in let h = r.low n in omega arith;
}
  where
    same : (n : ℕ) → n + k + 1 ≡ n + (k + 1)
    same n = omega arith

closed : {k m : ℕ} {t : Texts} (x : List ℕ) → opens x ≡ false → closes x ≡ true → k + 1 ≤ m → Part k m t → Part (k + 1) m (x ∷ t)
closed {k} {m} {t} x o c le r = record {
  back = λ n. ap (λ j. behind j t) (step_close (n + (k + 1)) x o c ∙ same n) ∙ r.back n;
  low = λ n. let e = ap (λ j. top j t) (step_close (n + (k + 1)) x o c ∙ same n) in let h = r.low n in omega arith;
}
  where
    same : (n : ℕ) → n + (k + 1) - 1 ≡ n + k
    same n = omega arith

-- one part, and then the rest
then_part : {h k m : ℕ} {a t : Texts} → h + k ≤ m → Part 0 h a → Part k m t → Part k m (a ++ t)
then_part {h} {k} {m} {a} {t} le p r = record {
  back = λ n. behind_both (n + k) a t ∙ ap (λ j. behind j t) (here n) ∙ r.back n;
  low = λ n.
      let b = top_both (n + k) a t in
      let e = ap (λ j. top j t) (here n) in
      let x = p.low (n + k) in
      let z : n + k + 0 ≡ n + k = omega arith in
      let y = ap (λ j. top j a) z in
      let w = r.low n in
      omega arith;
}
  where
    here : (n : ℕ) → behind (n + k) a ≡ n + k
    here n = let z : n + k ≡ n + k + 0 = omega arith in ap (λ j. behind j a) z ∙ p.back (n + k)

up : {h k m : ℕ} {t : Texts} → h ≤ m → Part k h t → Part k m t
up {h} {k} {m} {t} le p = record { back = p.back; low = λ n. let x = p.low n in omega arith }

in_parens : {m : ℕ} (a : Texts) → Part 0 m a → Part 0 (1 + m) (parens a)
in_parens {m} a p = opened (codes "(") refl (omega arith) (then_part {h = m} {k = 1} {m = 1 + m} (omega arith) p (closed {k = 0} {m = 1 + m} (codes ")") refl refl (omega arith) (nil (1 + m))))

in_brackets : {m : ℕ} (a : Texts) → Part 0 m a → Part 0 (1 + m) (brackets a)
in_brackets {m} a p = opened (codes "[") refl (omega arith) (then_part {h = m} {k = 1} {m = 1 + m} (omega arith) p (closed {k = 0} {m = 1 + m} (codes "]") refl refl (omega arith) (nil (1 + m))))

in_braces : {m : ℕ} (a : Texts) → Part 0 m a → Part 0 (1 + m) (braces a)
in_braces {m} a p = opened (codes "{") refl (omega arith) (then_part {h = m} {k = 1} {m = 1 + m} (omega arith) p (closed {k = 0} {m = 1 + m} (codes "}") refl refl (omega arith) (nil (1 + m))))

-- parentheses that may be there
abbrev held : Bool → ℕ
held b = cond b 1 0

held_one : (b : Bool) → held b ≤ 1
held_one true = omega arith
held_one false = omega arith

closing_part : (b : Bool) (m : ℕ) → Part (held b) (1 + m) (closing b)
closing_part true m = closed {k = 0} {m = 1 + m} (codes ")") refl refl (omega arith) (nil (1 + m))
closing_part false m = nil (1 + m)

opening_part : (b : Bool) (m : ℕ) {t : Texts} → Part (held b) (1 + m) t → Part 0 (1 + m) (opening b ++ t)
opening_part true m {t} p = opened {k = 0} {m = 1 + m} (codes "(") refl (omega arith) p
opening_part false m p = p

-- ---- texts that are no brackets

no_bracket_false : (x : List ℕ) (b : List ℕ) (P : List ℕ → Bool) → P b ≡ false → P x ≡ true → bytes_eq b x ≡ false
no_bracket_false x b P isnt is = go (bytes_eq b x) (λ e. subst (λ t. P t ≡ true) (sym (bytes_same b x e)) is)
  where
    go : (v : Bool) → (v ≡ true → P b ≡ true) → v ≡ false
    go true f = absurd (let e : true ≡ false = sym (f refl) ∙ isnt in cc)
    go false f = refl

plain_by : (P : List ℕ → Bool) → P (codes "(") ≡ false → P (codes "[") ≡ false → P (codes "{") ≡ false → P (codes ")") ≡ false → P (codes "]") ≡ false → P (codes "}") ≡ false → (x : List ℕ) → P x ≡ true → IsPlain x
plain_by P a b c d e f x is = record {
  no_open = (λ i. no_bracket_false x (codes "(") P a is i || (no_bracket_false x (codes "[") P b is i || no_bracket_false x (codes "{") P c is i));
  no_close = (λ i. no_bracket_false x (codes ")") P d is i || (no_bracket_false x (codes "]") P e is i || no_bracket_false x (codes "}") P f is i));
}

name_plain : (x : List ℕ) → FitsName x → IsPlain x
name_plain x h = plain_by is_name refl refl refl refl refl refl x h.is

number_plain : (n : ℕ) → n < 2 ^ 31 → IsPlain (decimal n)
number_plain n h = plain_by is_number refl refl refl refl refl refl (decimal n) (number_text (decimal n) (decimal_is_IsNumeral n (omega arith)).0)

computed : (x : List ℕ) → opens x ≡ false → closes x ≡ false → IsPlain x
computed x o c = record { no_open = o; no_close = c }

operator_plain : (o : Op) → IsPlain (operator_text o)
operator_plain Add = computed _ refl refl
operator_plain Sub = computed _ refl refl
operator_plain Mul = computed _ refl refl
operator_plain Div = computed _ refl refl
operator_plain Rem = computed _ refl refl
operator_plain Min = computed _ refl refl
operator_plain Max = computed _ refl refl
operator_plain Neg = computed _ refl refl
operator_plain Not = computed _ refl refl
operator_plain Eq = computed _ refl refl
operator_plain Ne = computed _ refl refl
operator_plain Lt = computed _ refl refl
operator_plain Le = computed _ refl refl
operator_plain Gt = computed _ refl refl
operator_plain Ge = computed _ refl refl
operator_plain And = computed _ refl refl
operator_plain Or = computed _ refl refl

truth_plain : (b : Bool) → IsPlain (truth_text b)
truth_plain true = computed _ refl refl
truth_plain false = computed _ refl refl

bound_plain : (b : Bool) → IsPlain (bound_sign b)
bound_plain true = computed _ refl refl
bound_plain false = computed _ refl refl

builtin_plain : (b : Builtin) → IsPlain (builtin_text b)
builtin_plain built.Dim = computed _ refl refl
builtin_plain built.Shape = computed _ refl refl
builtin_plain built.Reshape = computed _ refl refl

base_plain : (b : Base) → IsPlain (base_text b)
base_plain base.Int = computed _ refl refl
base_plain base.Bool = computed _ refl refl

-- a word or sign of the grammar
word : {k m : ℕ} {t : Texts} (x : List ℕ) → opens x ≡ false → closes x ≡ false → k ≤ m → Part k m t → Part k m (x ∷ t)
word x o c le p = plain x (computed x o c) le p

-- ---- trees

with_commas : {A : Type 0} (f : A → Texts) (P : A → Type 0) (m : ℕ) → ((x : A) → P x → Part 0 m (f x)) → (xs : List A) → AllByRecursion P xs → Part 0 m (commas (map f xs))
with_commas f P m g [] h = nil m
with_commas f P m g (x ∷ []) h = g x h.0
with_commas f P m g (x ∷ y ∷ xs) h = then_part (omega arith) (g x h.0) (word (codes ",") refl refl (omega arith) (with_commas f P m g (y ∷ xs) h.1))

target_part : (t : Target) → FitsTarget t → Part 0 0 (target_texts t)
target_part t h = plain t.name (name_plain t.name h) (omega arith) (nil 0)

targets_part : (ts : List Target) → FitTargets ts → Part 0 0 (targets_texts ts)
targets_part [] h = absurd h
targets_part (t ∷ ts) h = with_commas target_texts FitsTarget 0 target_part (t ∷ ts) h

index_part : (i : IndexTree) → FitsIndex i → Part 0 1 (index_texts i)
index_part (named t) h = up (omega arith) (target_part t h)
index_part (parts ts) h = in_brackets (targets_texts ts) (targets_part ts h)

either : (b : Bool) {m : ℕ} (x y : Texts) → Part 0 m x → Part 0 m y → Part 0 m (cond b x y)
either true x y p q = p
either false x y p q = q

-- every expression is a node
some_height : (e : Expr) → 1 ≤ height e
some_height (tree.number n s) = omega arith
some_height (tree.truth b s) = omega arith
some_height (tree.variable x s) = omega arith
some_height (tree.literal es s) = omega arith
some_height (tree.unary o e s) = omega arith
some_height (tree.binary o a b s) = omega arith
some_height (tree.choice c a b s) = omega arith
some_height (tree.select a i s) = omega arith
some_height (tree.call x es s) = omega arith
some_height (tree.builtin b es s) = omega arith
some_height (tree.with_loop gs o s) = omega arith

-- one part, and then the rest, where no bracket is open around
beside : {h m : ℕ} {a t : Texts} → h ≤ m → Part 0 h a → Part 0 m t → Part 0 m (a ++ t)
beside {h} {m} {a} {t} le p r = then_part (omega arith) p r

-- an operand between parentheses that may be there
operand : (b : Bool) (m : ℕ) {h : ℕ} {a t : Texts} → h ≤ m → Part 0 h a → Part (held b) (1 + m) t → Part (held b) (1 + m) (a ++ t)
operand b m {h} {a} {t} le p r = let k = held_one b in then_part (omega arith) p r

-- a sign between them
sign_in : (b : Bool) (m : ℕ) {t : Texts} (x : List ℕ) → IsPlain x → Part (held b) (1 + m) t → Part (held b) (1 + m) (x ∷ t)
sign_in b m {t} x p r = let k = held_one b in plain x p (omega arith) r

free : {m : ℕ} {t : Texts} (x : List ℕ) → IsPlain x → Part 0 m t → Part 0 m (x ∷ t)
free x p r = plain x p (omega arith) r

free_word : {m : ℕ} {t : Texts} (x : List ℕ) → opens x ≡ false → closes x ≡ false → Part 0 m t → Part 0 m (x ∷ t)
free_word x o c r = plain x (computed x o c) (omega arith) r

-- a value that is bound
valued : {m : ℕ} (a : Texts) → Part 0 m a → Part 0 m (codes "=" ∷ (a ++ (codes ";" ∷ [])))
valued {m} a p = free_word (codes "=") refl refl (beside (omega arith) p (free_word (codes ";") refl refl (nil m)))

mutual
  pub expr : (e : Expr) → Fits e → (l : Level) → Part 0 (height e) (spell e l)
  expr (tree.number (pos n) s) h l = free (decimal n) (number_plain n h) (nil 1)
  expr (tree.number (negsuc n) s) h l = absurd h
  expr (tree.truth b s) h l = free (truth_text b) (truth_plain b) (nil 1)
  expr (tree.variable x s) h l = free x (name_plain x h) (nil 1)
  expr (tree.literal es s) h l = in_brackets (spell_list es) (list es h)
  expr (tree.unary o e s) h l =
      let b = is_looser level.Prefix l in
      opening_part b (height e) (sign_in b (height e) (operator_text o) (operator_plain o) (operand b (height e) (omega arith) (expr e h.1 level.Prefix) (closing_part b (height e))))
  expr (tree.binary o a b s) h l =
      let c = is_looser (level_of o) l in
      let m = max (height a) (height b) in
      either (is_function o) _ _
      (free (operator_text o) (operator_plain o) (in_parens _ (beside {m = m} (omega arith) (expr a h.1 level.Expression) (free_word (codes ",") refl refl (up (omega arith) (expr b h.2 level.Expression))))))
      (opening_part c m (operand c m (omega arith) (expr a h.1 (level_of o)) (sign_in c m (operator_text o) (operator_plain o) (operand c m (omega arith) (expr b h.2 (tighter (level_of o))) (closing_part c m)))))
  expr (tree.choice c a b s) h l =
      let p = is_looser level.Expression l in
      let m = max (height c) (max (height a) (height b)) in
      opening_part p m
      (operand p m (omega arith) (expr c h.0 level.Disjunction) (sign_in p m (codes "?") (computed _ refl refl) (operand p m (omega arith) (expr a h.1 level.Expression) (sign_in p m (codes ":") (computed _ refl refl) (operand p m (omega arith) (expr b h.2 level.Expression) (closing_part p m))))))
  expr (tree.select a (tree.literal (expr_and x (expr_and y es)) u) s) h l =
      let m = max (height x) (max (height y) (heights es)) in
      beside {m = 1 + max (height a) (1 + m)} (omega arith) (expr a h.0 level.Postfix)
      (up (omega arith) (in_brackets {m = m} _ (beside (omega arith) (expr x h.1.0 level.Expression) (free_word (codes ",") refl refl (beside (omega arith) (expr y h.1.1.0 level.Expression) (up (omega arith) (more es h.1.1.1)))))))
  expr (tree.select a i s) h l = beside {m = 1 + max (height a) (height i)} (omega arith) (expr a h.0 level.Postfix) (up (omega arith) (in_brackets (spell i level.Expression) (expr i h.1 level.Expression)))
  expr (tree.call x es s) h l = free x (name_plain x h.0) (in_parens (spell_list es) (list es h.1))
  expr (tree.builtin b es s) h l = free (builtin_text b) (builtin_plain b) (in_parens (spell_list es) (list es h.1))
  expr (tree.with_loop gs o s) h l = free_word (codes "with") refl refl (beside {m = 1 + max (gens_height gs) (operation_height o)} (omega arith) (in_braces (spell_gens gs) (generators gs h.0)) (free_word (codes ":") refl refl (up (omega arith) (operation o h.1))))

  list : (es : Exprs) → FitAll es → Part 0 (heights es) (spell_list es)
  list no_exprs h = nil 0
  list (expr_and e es) h = beside {m = max (height e) (heights es)} (omega arith) (expr e h.0 level.Expression) (up (omega arith) (more es h.1))

  more : (es : Exprs) → FitAll es → Part 0 (heights es) (spell_more es)
  more no_exprs h = nil 0
  more (expr_and e es) h = free_word (codes ",") refl refl (beside {m = max (height e) (heights es)} (omega arith) (expr e h.0 level.Expression) (up (omega arith) (more es h.1)))

  maybe : (m : MaybeExpr) → FitsMaybe m → (x : List ℕ) → IsPlain x → Part 0 (maybe_height m) (spell_maybe m x)
  maybe left_out h x p = nil 0
  maybe (given e) h x p = free x p (expr e h level.Sum)

  statement : (s : Stmt) → FitsStmt s → Part 0 (stmt_height s) (spell_stmt s)
  statement (tree.assign ts e) h = beside {m = 1 + height e} (omega arith) (targets_part ts h.0) (up (omega arith) (valued (spell e level.Expression) (expr e h.1 level.Expression)))
  statement (tree.replace t s (tree.literal (expr_and x (expr_and y es)) u) e) h =
      let m = max (height x) (max (height y) (heights es)) in
      free t.name (name_plain t.name h.0) (beside {m = 1 + max (1 + m) (height e)} (omega arith) (in_brackets {m = m} _ (beside (omega arith) (expr x h.1.0 level.Expression) (free_word (codes ",") refl refl (beside (omega arith) (expr y h.1.1.0 level.Expression) (up (omega arith) (more es h.1.1.1))))))
      (up (omega arith) (valued (spell e level.Expression) (expr e h.2 level.Expression))))
  statement (tree.replace t s i e) h =
      free t.name (name_plain t.name h.0) (beside {m = 1 + max (height i) (height e)} (omega arith) (in_brackets (spell i level.Expression) (expr i h.1 level.Expression)) (up (omega arith) (valued (spell e level.Expression) (expr e h.2 level.Expression))))
  statement (tree.if_else c a b s) h = free_word (codes "if") refl refl (beside {m = 1 + max (height c) (max (block_height a) (block_height b))} (omega arith) (in_parens (spell c level.Expression) (expr c h.0 level.Expression)) (beside (omega arith) (in_braces (spell_block a) (block a h.1)) (up (omega arith) (other b h.2))))
  statement (tree.while_do c b s) h = free_word (codes "while") refl refl (beside {m = 1 + max (height c) (block_height b)} (omega arith) (in_parens (spell c level.Expression) (expr c h.0 level.Expression)) (up (omega arith) (in_braces (spell_block b) (block b h.1))))
  statement (tree.do_while b c s u) h = free_word (codes "do") refl refl (beside {m = 1 + max (block_height b) (height c)} (omega arith) (in_braces (spell_block b) (block b h.0)) (free_word (codes "while") refl refl (beside (omega arith) (in_parens (spell c level.Expression) (expr c h.1 level.Expression)) (free_word (codes ";") refl refl (nil _)))))

  block : (b : Block) → FitBlock b → Part 0 (block_height b) (spell_block b)
  block no_stmts h = nil 0
  block (stmt_and s ss) h = beside {m = max (stmt_height s) (block_height ss)} (omega arith) (statement s h.0) (up (omega arith) (block ss h.1))

  other : (b : Block) → FitBlock b → Part 0 (1 + block_height b) (spell_else b)
  other no_stmts h = nil 1
  other (stmt_and s ss) h = free_word (codes "else") refl refl (in_braces {m = max (stmt_height s) (block_height ss)} _ (beside (omega arith) (statement s h.0) (up (omega arith) (block ss h.1))))

  body : (b : Block) → FitBlock b → Part 0 (1 + block_height b) (spell_body b)
  body no_stmts h = nil 1
  body (stmt_and s ss) h = in_braces {m = max (stmt_height s) (block_height ss)} _ (beside (omega arith) (statement s h.0) (up (omega arith) (block ss h.1)))

  bound : (b : BoundTree) → FitsBound b → Part 0 (bound_height b) (spell_bound b)
  bound (tree.dot s) h = free_word (codes ".") refl refl (nil 0)
  bound (tree.at e) h = expr e h level.Sum

  generator : (g : Gen) → FitsGen g → Part 0 (gen_height g) (spell_gen g)
  generator (gen l lc i u uc s w b e site) h =
      let m = max (bound_height l) (max (bound_height u) (max (maybe_height s) (max (maybe_height w) (max (block_height b) (height e))))) in
      let some = some_height e in
      beside {m = 1 + m} (omega arith)
      (in_parens {m = m} _ (beside (omega arith) (bound l h.0) (free (bound_sign lc) (bound_plain lc) (beside (omega arith) (index_part i h.1) (free (bound_sign uc) (bound_plain uc) (beside (omega arith) (bound u h.2) (beside (omega arith) (maybe s h.3 (codes "step") (computed _ refl refl)) (up (omega arith) (maybe w h.4 (codes "width") (computed _ refl refl))))))))))
      (beside (omega arith) (body b h.5) (free_word (codes ":") refl refl (beside (omega arith) (expr e h.6 level.Expression) (free_word (codes ";") refl refl (nil (1 + m))))))

  generators : (gs : Gens) → FitGens gs → Part 0 (gens_height gs) (spell_gens gs)
  generators no_gens h = nil 0
  generators (gen_and g gs) h = beside {m = max (gen_height g) (gens_height gs)} (omega arith) (generator g h.0) (up (omega arith) (generators gs h.1))

  operation : (o : OperationTree) → FitsOperation o → Part 0 (operation_height o) (spell_operation o)
  operation (tree.genarray e left_out s) h = free_word (codes "genarray") refl refl (up (omega arith) (in_parens (spell e level.Expression) (expr e h.0 level.Expression)))
  operation (tree.genarray e (given d) s) h = free_word (codes "genarray") refl refl (in_parens {m = max (height e) (height d)} _ (beside (omega arith) (expr e h.0 level.Expression) (free_word (codes ",") refl refl (up (omega arith) (expr d h.1 level.Expression)))))
  operation (tree.modarray e s) h = free_word (codes "modarray") refl refl (in_parens (spell e level.Expression) (expr e h level.Expression))
  operation (tree.fold o e s) h = free_word (codes "fold") refl refl (in_parens (operator_text o ∷ codes "," ∷ spell e level.Expression) (free (operator_text o) (operator_plain o) (free_word (codes ",") refl refl (expr e h.1 level.Expression))))

-- ---- types, functions and programs

dots : (n : ℕ) → Part 0 0 (commas (replicate n (one (codes "."))))
dots zero = nil 0
dots (suc zero) = free_word (codes ".") refl refl (nil 0)
dots (suc (suc n)) = free_word (codes ".") refl refl (free_word (codes ",") refl refl (dots (suc n)))

extents_part : (p : Part') → FitsPart p → Part 0 1 (part_texts p)
extents_part (Known []) h = nil 1
extents_part (Known (n ∷ ns)) h = in_brackets _ (with_commas (λ m. one (decimal m)) (λ m. m < 2 ^ 31) 0 (λ m k. free (decimal m) (number_plain m k) (nil 0)) (n ∷ ns) h.1)
extents_part (Rank n) h = in_brackets _ (dots n)
extents_part Plus h = in_brackets (one (codes "+")) (free_word (codes "+") refl refl (nil 0))
extents_part Star h = in_brackets (one (codes "*")) (free_word (codes "*") refl refl (nil 0))

type_part : (ty : ArrayType) → FitsType ty → Part 0 1 (type_texts ty)
type_part ty h = free (base_text ty.base) (base_plain ty.base) (extents_part ty.part h)

types_part : (ts : List ArrayType) → FitResults ts → Part 0 1 (commas (map type_texts ts))
types_part [] h = absurd h
types_part (t ∷ ts) h = with_commas type_texts FitsType 1 type_part (t ∷ ts) h

param_part : (p : Param) → FitsParam p → Part 0 1 (param_texts p)
param_part p h = beside (omega arith) (type_part p.ty h.0) (free p.name (name_plain p.name h.1) (nil 1))

inline_part : (b : Bool) → Part 0 0 (inline_texts b)
inline_part true = free_word (codes "inline") refl refl (nil 0)
inline_part false = nil 0

values_part : (es : Exprs) → FitValues es → Part 0 (heights es) (spell_list es)
values_part no_exprs h = absurd h
values_part (expr_and e es) h = list (expr_and e es) h

function_part : (f : FunctionTree) → FitsFunction f → function_height f ≤ 100 → Part 0 101 (function_texts f)
function_part f h low =
    beside (omega arith) (inline_part f.inline)
    (beside (omega arith) (types_part f.results h.results)
    (free f.name (name_plain f.name h.name)
    (beside (omega arith) (in_parens _ (with_commas param_texts FitsParam 1 param_part f.params h.params))
    (in_braces {m = 100} _ (beside (omega arith) (block f.body h.body) (free_word (codes "return") refl refl (beside (omega arith) (in_parens (spell_list f.values) (values_part f.values h.values)) (free_word (codes ";") refl refl (nil 100)))))))))

functions_part : (fs : List FunctionTree) → AllByRecursion FitsFunction fs → AllByRecursion (λ (f : FunctionTree). function_height f ≤ 100) fs → Part 0 101 (functions_texts fs)
functions_part [] h low = nil 101
functions_part (f ∷ fs) h low = beside (omega arith) (function_part f h.0 low.0) (functions_part fs h.1 low.1)

pub program_part : (p : ProgramTree) → FitsProgram p → AllByRecursion (λ (f : FunctionTree). function_height f ≤ 100) p.functions → Part 0 101 (program_texts p ++ ([] ∷ []))
program_part p h low = beside (omega arith) (functions_part p.functions h low) (free_word [] refl refl (nil 101))

-- ---- the tokens with these texts

under_top : (n : ℕ) (a b : Texts) → behind n a ≤ top n (a ++ b)
under_top n [] [] = omega arith
under_top n [] (x ∷ b) = omega arith
under_top n (x ∷ a) b = let h = under_top (step n x) a b in omega arith

open_texts : (n : ℕ) (ts : List Lexeme) → open_behind n ts ≡ behind n (map (λ (t : Lexeme). t.text) ts)
open_texts n [] = refl
open_texts n (t ∷ ts) = open_texts (step n t.text) ts

texts_both : (u r : List Lexeme) → map (λ (t : Lexeme). t.text) (u ++ r) ≡ map (λ (t : Lexeme). t.text) u ++ map (λ (t : Lexeme). t.text) r
texts_both [] r = refl
texts_both (t ∷ u) r = ap (λ l. t.text ∷ l) (texts_both u r)

pub shallow_texts : (ts : List Lexeme) (t : Texts) (m : ℕ) → map (λ (x : Lexeme). x.text) ts ≡ t → Part 0 m t → m ≤ 200 → IsShallow ts
shallow_texts ts t m e p few = λ u r split.
    let a = open_texts 0 u in
    let b = under_top 0 (map (λ (x : Lexeme). x.text) u) (map (λ (x : Lexeme). x.text) r) in
    let c = ap (top 0) (sym (texts_both u r) ∙ sym (ap (map (λ (x : Lexeme). x.text)) split) ∙ e) in
    let d = p.low 0 in
    omega arith
