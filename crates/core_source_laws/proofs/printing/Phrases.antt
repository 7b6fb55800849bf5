-- The texts of with-loops and statements are read as them, aside from sites.
use Rattle.std.proofs.Common.{ℕ, ◌≡◌, Bool, true, false, List, [], ◌∷◌, ◌++◌, map, inl, inr, codes, refl, sym, ap, ◌∙◌, append_assoc}
use Rattle.std.specs.List.{AllByRecursion}
use Rattle.sac_base.specs.declared.site.Site.{Site}
use Rattle.sac_base.specs.declared.op.Op.{Op}
use Rattle.sac_base.specs.declared.op.Op.TheVariants.{Add, Sub, Mul, Div, Rem, Min, Max, Neg, Not, Eq, Ne, Lt, Le, Gt, Ge, And, Or}
use Rattle.sac_ast.specs.declared.Target.{Target}
use Rattle.sac_ast.specs.Texts.{Lexeme}
use Rattle.sac_ast.specs.Shape.{seq, alt, ref, term, name}
use Rattle.sac_ast.specs.Grammar.{statement, if_statement, else_branch, block, assign, expression, primary, sum, generator, bound, index, operation, Rule, V, sign, opt, is_there, maybe, block_or_none, body_or_none, concat, target}
use Rattle.sac_ast.specs.View.{block_of, gens_of}
use Rattle.sac_ast.specs.Tree as tree
use Rattle.sac_ast.specs.Tree.{IndexTree, named, parts, Expr, MaybeExpr, left_out, given, Stmt, Block, no_stmts, stmt_and, BoundTree, Gen, gen, Gens, no_gens, gen_and, OperationTree}
use Rattle.sac_print.specs.declared.level.Level.TheVariants as level
use Rattle.sac_print.specs.Texts.{Texts, one}
use Rattle.sac_print.specs.Canonical.{brackets, braces, targets_texts, index_texts, bound_sign, spell, spell_index, spell_maybe, spell_stmt, spell_block, spell_else, spell_body, spell_bound, spell_gen, spell_gens, spell_operation, spell_default}
use Rattle.sac_print.proofs.Trees.{replace_is, genarray_is}
use Rattle.core_source_laws.specs.printing.Bare.{nowhere, bare, bare_target, bare_index, bare_maybe, bare_stmt, bare_block, bare_bound, bare_gen, bare_gens, bare_operation}
use Rattle.core_source_laws.proofs.printing.Fits.{is_foldop, FitsTarget, FitTargets, FitsIndex}
use Rattle.core_source_laws.proofs.printing.Readings.{Reads, Phrase, ◌⨟◌, left, right, token, a_name, a_ref, by_rule, ReadsEach, no_parts, a_part, absent, alike}
use Rattle.core_source_laws.proofs.printing.Spelled.{Spelled, IndexRead, primary_at}

-- ---- names

abbrev NameBehind : Rule
NameBehind = seq (sign (codes ",")) (term name)

abbrev more_names : List Target → Texts
more_names [] = []
more_names (t ∷ ts) = codes "," ∷ t.name ∷ more_names ts

names_are : (t : Target) (ts : List Target) → targets_texts (t ∷ ts) ≡ t.name ∷ more_names ts
names_are t [] = refl
names_are t (u ∷ ts) = ap (λ l. t.name ∷ codes "," ∷ l) (names_are u ts)

abbrev named_by : Lexeme × Lexeme → Target
named_by p = bare_target (target p.1)

read_names : (ts : List Target) → AllByRecursion FitsTarget ts → ReadsEach NameBehind (more_names ts) (λ vs. map named_by vs ≡ map bare_target ts)
read_names [] h = record { at = λ ts e. let x = (no_parts {a = NameBehind}).at ts e in (x.0, x.1, ap (map named_by) x.2) }
read_names (t ∷ us) h = record {
  at = λ ts e.
      let x = (a_part (token (codes ",") ⨟ a_name t.name h.0.is) (read_names us h.1)).at ts e in
      let w = x.2 in
      (x.0, x.1, ap (map named_by) w.2 ∙ (λ i. record { name = w.3.1 i; site = nowhere } ∷ w.4 i));
}

bare_targets : (vs : List (Lexeme × Lexeme)) → map bare_target (map (λ p. target p.1) vs) ≡ map named_by vs
bare_targets [] = refl
bare_targets (v ∷ vs) = ap (λ l. named_by v ∷ l) (bare_targets vs)

bare_items : (vs : List (Lexeme × Lexeme)) → map bare_target (map target (map (λ p. p.1) vs)) ≡ map named_by vs
bare_items [] = refl
bare_items (v ∷ vs) = ap (λ l. named_by v ∷ l) (bare_items vs)

-- ---- generators

closed_read : (b : Bool) → Reads {X = V (alt (sign (codes "<=")) (sign (codes "<")))} (alt (sign (codes "<=")) (sign (codes "<"))) (one (bound_sign b)) (λ v. v) (λ v. is_there v ≡ b)
closed_read true = record { at = λ ts e. let x = (left {b = sign (codes "<")} (token (codes "<="))).at ts e in (inl x.0, x.1, refl) }
closed_read false = record { at = λ ts e. let x = (right {a = sign (codes "<=")} (token (codes "<"))).at ts e in (inr x.0, x.1, refl) }

abbrev pub IndexPhrase : IndexTree → Type 0
IndexPhrase i = Phrase index (index_texts i) (λ q. bare_index q ≡ bare_index i)

pub index_read : (i : IndexTree) → FitsIndex i → IndexPhrase i
index_read (named t) h = by_rule index (left (a_name t.name h.is)) (λ x is. ap (λ n. named (record { name = n; site = nowhere })) is)
index_read (parts []) h = absurd h
index_read (parts (t ∷ ts)) h =
    alike (ap brackets (names_are t ts))
    (by_rule index (right (token (codes "[") ⨟ (a_name t.name h.0.is ⨟ read_names ts h.1) ⨟ token (codes "]")))
    (λ x is. ap parts ((λ i. record { name = is.1.0.0 i; site = nowhere } ∷ bare_items x.1.0.1 i) ∙ (λ i. record { name = t.name; site = nowhere } ∷ is.1.0.1 i))))

abbrev pub BoundPhrase : BoundTree → Type 0
BoundPhrase b = Phrase bound (spell_bound b) (λ q. bare_bound q ≡ bare_bound b)

pub dot_read : (s : Site) → BoundPhrase (tree.dot s)
dot_read s = by_rule bound (left (token (codes "."))) (λ x is. refl)

pub given_read : (e : Expr) → Spelled e → BoundPhrase (tree.at e)
given_read e p = by_rule bound (right (a_ref (p level.Sum))) (λ x is. ap tree.at is)

abbrev Given : List ℕ → Rule
Given word = seq (sign word) (ref sum)

abbrev pub MaybeRead : List ℕ → MaybeExpr → Type 0
MaybeRead word m = Reads {X = V (opt (Given word))} (opt (Given word)) (spell_maybe m word) (λ v. v) (λ v. bare_maybe (maybe v) ≡ bare_maybe m)

pub left_out_read : (word : List ℕ) → MaybeRead word left_out
left_out_read word = record { at = λ ts h. let x = (absent {a = Given word}).at ts h in (inr tt, x.1, refl) }

pub there_read : (word : List ℕ) (e : Expr) → Spelled e → MaybeRead word (given e)
there_read word e p = record { at = λ ts h. let x = (token word ⨟ a_ref (p level.Sum)).at ts h in (inl x.0, x.1, ap given x.2.1) }

-- ---- statements

abbrev pub StmtPhrase : Stmt → Type 0
StmtPhrase s = Phrase statement (spell_stmt s) (λ q. (r : Stmt) × (q ≡ r ∷ []) × (bare_stmt r ≡ bare_stmt s))

abbrev pub BlockRead : Block → Type 0
BlockRead b = ReadsEach (ref statement) (spell_block b) (λ vs. bare_block (block_of (concat vs)) ≡ bare_block b)

pub no_stmts_read : BlockRead no_stmts
no_stmts_read = record { at = λ ts h. let x = (no_parts {a = ref statement}).at ts h in (x.0, x.1, ap (λ (vs : List (List Stmt)). bare_block (block_of (concat vs))) x.2) }

pub stmts_read : (s : Stmt) (ss : Block) → StmtPhrase s → BlockRead ss → BlockRead (stmt_and s ss)
stmts_read s ss p q = record {
  at = λ ts h.
      let x = (a_part (a_ref p) q).at ts h in
      let w = x.2 in
      (x.0, x.1, ap (λ (vs : List (List Stmt)). bare_block (block_of (concat vs))) (w.2 ∙ ap (λ l. l ∷ w.1) w.3.1) ∙ (λ i. stmt_and (w.3.2 i) (w.4 i)));
}

abbrev pub BlockPhrase : Block → Type 0
BlockPhrase b = Phrase block (braces (spell_block b)) (λ q. bare_block (block_of q) ≡ bare_block b)

pub block_read : (b : Block) → BlockRead b → BlockPhrase b
block_read b p = by_rule block (token (codes "{") ⨟ p ⨟ token (codes "}")) (λ x is. is.1.0)

abbrev pub BodyRead : Block → Type 0
BodyRead b = Reads {X = V (opt (ref block))} (opt (ref block)) (spell_body b) (λ v. v) (λ v. bare_block (block_of (body_or_none v)) ≡ bare_block b)

pub body_read : (b : Block) → BlockRead b → BodyRead b
body_read no_stmts p = record { at = λ ts h. let x = (absent {a = ref block}).at ts h in (inr tt, x.1, refl) }
body_read (stmt_and s ss) p = record { at = λ ts h. let x = (a_ref (block_read (stmt_and s ss) p)).at ts h in (inl x.0, x.1, x.2) }

abbrev Else : Rule
Else = seq (sign (codes "else")) (ref else_branch)

abbrev pub ElseRead : Block → Type 0
ElseRead b = Reads {X = V (opt Else)} (opt Else) (spell_else b) (λ v. v) (λ v. bare_block (block_of (block_or_none v)) ≡ bare_block b)

pub else_read : (b : Block) → BlockRead b → ElseRead b
else_read no_stmts p = record { at = λ ts h. let x = (absent {a = Else}).at ts h in (inr tt, x.1, refl) }
else_read (stmt_and s ss) p = record { at = λ ts h. let x = (token (codes "else") ⨟ a_ref (by_rule else_branch (left (a_ref (block_read (stmt_and s ss) p))) (λ y is. is))).at ts h in (inl x.0, x.1, x.2.1) }

pub assign_read : (ts : List Target) (e : Expr) → FitTargets ts → Spelled e → StmtPhrase (tree.assign ts e)
assign_read [] e h p = absurd h
assign_read (t ∷ ts) e h p =
    alike ((λ i. names_are t ts i ++ (codes "=" ∷ (spell e level.Expression ++ one (codes ";")))) ∙ ap (λ l. t.name ∷ l) (sym (append_assoc (more_names ts) (codes "=" ∷ spell e level.Expression) (one (codes ";")))))
    (by_rule statement (left (a_ref (by_rule assign {Q = λ q. bare_stmt q ≡ tree.assign (map bare_target (t ∷ ts)) (bare e)} (a_name t.name h.0.is ⨟ left (read_names ts h.1 ⨟ token (codes "=") ⨟ a_ref (p level.Expression)))
    (λ x is. (λ i. tree.assign (record { name = is.0 i; site = nowhere } ∷ (bare_targets x.1.0 ∙ is.1.0) i) (is.1.1.1 i)))) ⨟ token (codes ";")))
    (λ x is. (x.0, refl, is.0)))

pub replace_read : (t : Target) (u : Site) (i e : Expr) → FitsTarget t → IndexRead i → Spelled e → StmtPhrase (tree.replace t u i e)
replace_read t u i e h q p =
    let value = spell e level.Expression in
    let inner = spell_index i in
    alike (replace_is t u i e ∙ ap (λ l. t.name ∷ codes "[" ∷ l) (append_assoc inner (one (codes "]")) (codes "=" ∷ (value ++ one (codes ";"))) ∙ sym (append_assoc inner (codes "]" ∷ codes "=" ∷ value) (one (codes ";")))))
    (by_rule statement (left (a_ref (by_rule assign {Q = λ q. bare_stmt q ≡ tree.replace (bare_target t) nowhere (bare i) (bare e)} (a_name t.name h.is ⨟ right (left (token (codes "[") ⨟ q ⨟ token (codes "]") ⨟ token (codes "=") ⨟ a_ref (p level.Expression))))
    (λ x is. (λ j. tree.replace (record { name = is.0 j; site = nowhere }) nowhere (is.1.1.0 x.1.0.site j) (is.1.1.1.1.1 j)))) ⨟ token (codes ";")))
    (λ x is. (x.0, refl, is.0)))

pub if_read : (c : Expr) (a b : Block) (s : Site) → Spelled c → BlockRead a → BlockRead b → StmtPhrase (tree.if_else c a b s)
if_read c a b s p q r =
    by_rule statement (right (left (a_ref (by_rule if_statement {Q = λ q. bare_stmt q ≡ tree.if_else (bare c) (bare_block a) (bare_block b) nowhere} (token (codes "if") ⨟ (token (codes "(") ⨟ a_ref (p level.Expression) ⨟ token (codes ")")) ⨟ a_ref (block_read a q) ⨟ else_read b r)
    (λ x is. (λ i. tree.if_else (is.1.0.1.0 i) (is.1.1.0 i) (is.1.1.1 i) nowhere))))))
    (λ x is. (x, refl, is))

pub while_read : (c : Expr) (b : Block) (s : Site) → Spelled c → BlockRead b → StmtPhrase (tree.while_do c b s)
while_read c b s p q =
    by_rule statement (right (right (left (token (codes "while") ⨟ (token (codes "(") ⨟ a_ref (p level.Expression) ⨟ token (codes ")")) ⨟ a_ref (block_read b q)))))
    (λ x is. (tree.while_do x.1.0.1.0 (block_of x.1.1) x.0.site, refl, (λ i. tree.while_do (is.1.0.1.0 i) (is.1.1 i) nowhere)))

pub do_read : (b : Block) (c : Expr) (s u : Site) → BlockRead b → Spelled c → StmtPhrase (tree.do_while b c s u)
do_read b c s u q p =
    by_rule statement (right (right (right (left (token (codes "do") ⨟ a_ref (block_read b q) ⨟ token (codes "while") ⨟ (token (codes "(") ⨟ a_ref (p level.Expression) ⨟ token (codes ")")) ⨟ token (codes ";"))))))
    (λ x is. (tree.do_while (block_of x.1.0) x.1.1.1.0.1.0 x.0.site x.1.1.0.site, refl, (λ i. tree.do_while (is.1.0 i) (is.1.1.1.0.1.0 i) nowhere nowhere)))

-- ---- with-loops

abbrev pub GenPhrase : Gen → Type 0
GenPhrase g = Phrase generator (spell_gen g) (λ q. bare_gen q ≡ bare_gen g)

pub gen_read : (l : BoundTree) (lc : Bool) (i : IndexTree) (u : BoundTree) (uc : Bool) (s w : MaybeExpr) (b : Block) (e : Expr) (site : Site) → BoundPhrase l → IndexPhrase i → BoundPhrase u → MaybeRead (codes "step") s → MaybeRead (codes "width") w → BlockRead b → Spelled e → GenPhrase (gen l lc i u uc s w b e site)
gen_read l lc i u uc s w b e site pl pi pu ps pw pb pe =
    by_rule generator
    ((token (codes "(") ⨟ (a_ref pl ⨟ closed_read lc ⨟ a_ref pi ⨟ closed_read uc ⨟ a_ref pu ⨟ ps ⨟ pw) ⨟ token (codes ")")) ⨟ body_read b pb ⨟ token (codes ":") ⨟ a_ref (pe level.Expression) ⨟ token (codes ";"))
    (λ x is.
    let h = is.0.1.0 in
    (λ j. gen (h.0 j) (h.1.0 j) (h.1.1.0 j) (h.1.1.1.1.0 j) (h.1.1.1.0 j) (h.1.1.1.1.1.0 j) (h.1.1.1.1.1.1 j) (is.1.0 j) (is.1.1.1.0 j) nowhere))

abbrev pub GensRead : Gens → Type 0
GensRead gs = ReadsEach (ref generator) (spell_gens gs) (λ vs. bare_gens (gens_of vs) ≡ bare_gens gs)

pub no_gens_read : GensRead no_gens
no_gens_read = record { at = λ ts h. let x = (no_parts {a = ref generator}).at ts h in (x.0, x.1, ap (λ (vs : List Gen). bare_gens (gens_of vs)) x.2) }

pub gens_read : (g : Gen) (gs : Gens) → GenPhrase g → GensRead gs → GensRead (gen_and g gs)
gens_read g gs p q = record {
  at = λ ts h.
      let x = (a_part (a_ref p) q).at ts h in
      let w = x.2 in
      (x.0, x.1, ap (λ (vs : List Gen). bare_gens (gens_of vs)) w.2 ∙ (λ i. gen_and (w.3 i) (w.4 i)));
}

abbrev pub OperationPhrase : OperationTree → Type 0
OperationPhrase o = Phrase operation (spell_operation o) (λ q. bare_operation q ≡ bare_operation o)

abbrev Default : Rule
Default = seq (sign (codes ",")) (ref expression)

abbrev DefaultRead : MaybeExpr → Type 0
DefaultRead d = Reads {X = V (opt Default)} (opt Default) (spell_default d) (λ v. v) (λ v. bare_maybe (maybe v) ≡ bare_maybe d)

genarray_by : (e : Expr) (d : MaybeExpr) (s : Site) → Spelled e → DefaultRead d → OperationPhrase (tree.genarray e d s)
genarray_by e d s p q =
    alike (genarray_is e d s)
    (by_rule operation (left (token (codes "genarray") ⨟ (token (codes "(") ⨟ (a_ref (p level.Expression) ⨟ q) ⨟ token (codes ")")))) (λ x is. (λ i. tree.genarray (is.1.1.0.0 i) (is.1.1.0.1 i) nowhere)))

pub genarray_read : (e : Expr) (s : Site) → Spelled e → OperationPhrase (tree.genarray e left_out s)
genarray_read e s p = genarray_by e left_out s p (record { at = λ ts h. let x = (absent {a = Default}).at ts h in (inr tt, x.1, refl) })

pub default_read : (e d : Expr) (s : Site) → Spelled e → Spelled d → OperationPhrase (tree.genarray e (given d) s)
default_read e d s p q = genarray_by e (given d) s p (record { at = λ ts h. let x = (token (codes ",") ⨟ a_ref (q level.Expression)).at ts h in (inl x.0, x.1, ap given x.2.1) })

pub modarray_read : (e : Expr) (s : Site) → Spelled e → OperationPhrase (tree.modarray e s)
modarray_read e s p = by_rule operation (right (left (token (codes "modarray") ⨟ (token (codes "(") ⨟ a_ref (p level.Expression) ⨟ token (codes ")"))))) (λ x is. ap (λ q. tree.modarray q nowhere) is.1.1.0)

pub fold_read : (o : Op) → is_foldop o ≡ true → (e : Expr) (s : Site) → Spelled e → OperationPhrase (tree.fold o e s)
fold_read Add h e s p = by_rule operation (right (right (token (codes "fold") ⨟ (token (codes "(") ⨟ ((left (token (codes "+"))) ⨟ token (codes ",") ⨟ a_ref (p level.Expression)) ⨟ token (codes ")"))))) (λ x is. ap (λ q. tree.fold Add q nowhere) is.1.1.0.1.1)
fold_read Mul h e s p = by_rule operation (right (right (token (codes "fold") ⨟ (token (codes "(") ⨟ ((right (left (token (codes "*")))) ⨟ token (codes ",") ⨟ a_ref (p level.Expression)) ⨟ token (codes ")"))))) (λ x is. ap (λ q. tree.fold Mul q nowhere) is.1.1.0.1.1)
fold_read Min h e s p = by_rule operation (right (right (token (codes "fold") ⨟ (token (codes "(") ⨟ ((right (right (left (token (codes "min"))))) ⨟ token (codes ",") ⨟ a_ref (p level.Expression)) ⨟ token (codes ")"))))) (λ x is. ap (λ q. tree.fold Min q nowhere) is.1.1.0.1.1)
fold_read Max h e s p = by_rule operation (right (right (token (codes "fold") ⨟ (token (codes "(") ⨟ ((right (right (right (left (token (codes "max")))))) ⨟ token (codes ",") ⨟ a_ref (p level.Expression)) ⨟ token (codes ")"))))) (λ x is. ap (λ q. tree.fold Max q nowhere) is.1.1.0.1.1)
fold_read And h e s p = by_rule operation (right (right (token (codes "fold") ⨟ (token (codes "(") ⨟ ((right (right (right (right (left (token (codes "&&"))))))) ⨟ token (codes ",") ⨟ a_ref (p level.Expression)) ⨟ token (codes ")"))))) (λ x is. ap (λ q. tree.fold And q nowhere) is.1.1.0.1.1)
fold_read Or h e s p = by_rule operation (right (right (token (codes "fold") ⨟ (token (codes "(") ⨟ ((right (right (right (right (right (token (codes "||"))))))) ⨟ token (codes ",") ⨟ a_ref (p level.Expression)) ⨟ token (codes ")"))))) (λ x is. ap (λ q. tree.fold Or q nowhere) is.1.1.0.1.1)
fold_read Sub h e s p = absurd (cc)
fold_read Div h e s p = absurd (cc)
fold_read Rem h e s p = absurd (cc)
fold_read Neg h e s p = absurd (cc)
fold_read Not h e s p = absurd (cc)
fold_read Eq h e s p = absurd (cc)
fold_read Ne h e s p = absurd (cc)
fold_read Lt h e s p = absurd (cc)
fold_read Le h e s p = absurd (cc)
fold_read Gt h e s p = absurd (cc)
fold_read Ge h e s p = absurd (cc)

pub with_spelled : (gs : Gens) (o : OperationTree) (s : Site) → GensRead gs → OperationPhrase o → Spelled (tree.with_loop gs o s)
with_spelled gs o s p q l =
    primary_at l _ (tree.with_loop gs o s)
    (alike (ap (λ t. codes "with" ∷ codes "{" ∷ t) (append_assoc (spell_gens gs) (one (codes "}")) (codes ":" ∷ spell_operation o)))
    (by_rule primary (right (right (right (right (right (right (right (right (right (token (codes "with") ⨟ token (codes "{") ⨟ p ⨟ token (codes "}") ⨟ token (codes ":") ⨟ a_ref q)))))))))) (λ x is. (λ i. tree.with_loop (is.1.1.0 i) (is.1.1.1.1.1 i) nowhere))))
