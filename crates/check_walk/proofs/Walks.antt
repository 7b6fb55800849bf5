-- What the walk finds in a phrase, from what it finds in the parts.
use Rattle.std.proofs.Common.{◌≡◌, ℕ, ◌+◌, ◌<◌, List, [], ◌∷◌, ◌++◌, length, take, drop, get_or, Bool, true, false, ◌&&◌, ◌||◌, Option, None, Vec, Global, refl, sym, ap, ◌∙◌, append_assoc, bytes_eq}
use Rattle.std.proofs.lemmas.List.Folds.{list_any-append}
use Rattle.std.proofs.lemmas.List.{take-append-drop, drop_more}
use Rattle.sac_base.specs.declared.base.Base.{Base}
use Rattle.sac_base.specs.declared.name.Name.{Name}
use Rattle.sac_base.specs.declared.site.Site.{Site}
use Rattle.sac_ast.specs.declared.Target.{Target}
use Rattle.sac_ast.specs.declared.Bound.{Bound}
use Rattle.sac_ast.specs.declared.Operation.{Operation}
use Rattle.sac_ast.specs.declared.Generator.{Generator}
use Rattle.sac_ast.specs.declared.Statement.{Statement}
use Rattle.sac_ast.specs.declared.Expression.{Expression, Expression-F, out-Expression, roll-Expression, roll-out-Expression}
use Rattle.sac_ast.specs.declared.Expression.TheVariants.{Call, rolls-Call}
use Rattle.sac_ast.specs.Tree
use Rattle.sac_ast.specs.View.{expr, exprs, stmt, block, generator, generators}
use Rattle.sac_ast.proofs.Views.{expression_opened, expression_layer}
use Rattle.sac_ast.proofs.Lists.{exprs-drop, generators-drop}
use Rattle.check_rules.specs.Accepted.{Names, Known, Place, bind, base_of, no_names, bound_after, bound_behind}
use Rattle.check_rules.specs.declared.violation.Violation.{Violation}
use Rattle.check_rules.specs.declared.judged.Cell.{Cell}
use Rattle.check_rules.specs.First.{earlier}
use Rattle.check_rules.specs.Tables.{among, with_common}
use Rattle.check_rules.specs.Walk.{Walked, in_value, in_values, in_generator, in_generators, in_statement, in_block, in_targets, repeated_targets, several_targets, call_first, call_bases, replaced_first, use_rules, bound_by_both}
use Rattle.check_rules.proofs.Earliest.{earlier_grouped}
use denote.Ref.{Bor}

-- ---- the loops over lists of phrases

module _ (p : Place) (es : List Expression) (k : ℕ) (e : Expression) (h : k < length es) (at : e ≡ get_or es k e) (b b' : Names) (n n' : Known)
    (same : b' ≡ b) (more : n' ≡ (in_value p (expr e) b n).known) where
  next_value : exprs (drop k es) ≡ Tree.expr_and (expr e) (exprs (drop (k + 1) es))
  next_value = exprs-drop es k e h ∙ ap (λ x. Tree.expr_and (expr x) (exprs (drop (k + 1) es))) (sym at)

  pub values_first : (acc f : Option Violation) → f ≡ (in_value p (expr e) b n).first
      → earlier (earlier acc f) (in_values p (exprs (drop (k + 1) es)) b' n').first ≡ earlier acc (in_values p (exprs (drop k es)) b n).first
  values_first acc f ef =
      earlier_grouped acc f (in_values p (exprs (drop (k + 1) es)) b' n').first
      ∙ (λ i. earlier acc (earlier (ef i) (in_values p (exprs (drop (k + 1) es)) (same i) (more i)).first))
      ∙ ap (λ t. earlier acc (in_values p t b n).first) (sym next_value)

  pub values_bases : (bs : List (Option Base)) (a : Option Base) → a ≡ (in_value p (expr e) b n).base
      → (bs ++ a ∷ []) ++ (in_values p (exprs (drop (k + 1) es)) b' n').bases ≡ bs ++ (in_values p (exprs (drop k es)) b n).bases
  values_bases bs a ea =
      append_assoc bs (a ∷ []) (in_values p (exprs (drop (k + 1) es)) b' n').bases
      ∙ (λ i. bs ++ (ea i ∷ (in_values p (exprs (drop (k + 1) es)) (same i) (more i)).bases))
      ∙ ap (λ t. bs ++ (in_values p t b n).bases) (sym next_value)

  pub values_known : (in_values p (exprs (drop (k + 1) es)) b' n').known ≡ (in_values p (exprs (drop k es)) b n).known
  values_known =
      (λ i. (in_values p (exprs (drop (k + 1) es)) (same i) (more i)).known) ∙ ap (λ t. (in_values p t b n).known) (sym next_value)

module _ (p : Place) (gs : List Generator) (folds : Bool) (k : ℕ) (g : Generator) (h : k < length gs) (at : g ≡ get_or gs k g) (b b' : Names) (n n' : Known)
    (same : b' ≡ b) (more : n' ≡ (in_generator p (generator g) folds b n).known) where
  next_generator : generators (drop k gs) ≡ Tree.gen_and (generator g) (generators (drop (k + 1) gs))
  next_generator = generators-drop gs k g h ∙ ap (λ x. Tree.gen_and (generator x) (generators (drop (k + 1) gs))) (sym at)

  pub generators_first : (acc f : Option Violation) → f ≡ (in_generator p (generator g) folds b n).first
      → earlier (earlier acc f) (in_generators p (generators (drop (k + 1) gs)) folds b' n').first ≡ earlier acc (in_generators p (generators (drop k gs)) folds b n).first
  generators_first acc f ef =
      earlier_grouped acc f (in_generators p (generators (drop (k + 1) gs)) folds b' n').first
      ∙ (λ i. earlier acc (earlier (ef i) (in_generators p (generators (drop (k + 1) gs)) folds (same i) (more i)).first))
      ∙ ap (λ t. earlier acc (in_generators p t folds b n).first) (sym next_generator)

  pub generators_cells : (cs : List Cell) (c : Cell) → (c ∷ []) ≡ (in_generator p (generator g) folds b n).cells
      → (cs ++ c ∷ []) ++ (in_generators p (generators (drop (k + 1) gs)) folds b' n').cells ≡ cs ++ (in_generators p (generators (drop k gs)) folds b n).cells
  generators_cells cs c ec =
      append_assoc cs (c ∷ []) (in_generators p (generators (drop (k + 1) gs)) folds b' n').cells
      ∙ (λ i. cs ++ (ec i ++ (in_generators p (generators (drop (k + 1) gs)) folds (same i) (more i)).cells))
      ∙ ap (λ t. cs ++ (in_generators p t folds b n).cells) (sym next_generator)

  pub generators_known : (in_generators p (generators (drop (k + 1) gs)) folds b' n').known ≡ (in_generators p (generators (drop k gs)) folds b n).known
  generators_known =
      (λ i. (in_generators p (generators (drop (k + 1) gs)) folds (same i) (more i)).known) ∙ ap (λ t. (in_generators p t folds b n).known) (sym next_generator)

block-drop : (ss : List Statement) (i : ℕ) (d : Statement) → i < length ss → block (drop i ss) ≡ Tree.stmt_and (stmt (get_or ss i d)) (block (drop (i + 1) ss))
block-drop ss i d h = ap block (drop_more ss i d h)

module _ (p : Place) (ss : List Statement) (k : ℕ) (s : Statement) (h : k < length ss) (at : s ≡ get_or ss k s) (b b' : Names) (n n' : Known)
    (after : b' ≡ bound_after (stmt s) b) (more : n' ≡ (in_statement p (stmt s) b n).known) where
  next_statement : block (drop k ss) ≡ Tree.stmt_and (stmt s) (block (drop (k + 1) ss))
  next_statement = block-drop ss k s h ∙ ap (λ x. Tree.stmt_and (stmt x) (block (drop (k + 1) ss))) (sym at)

  pub block_first : (acc f : Option Violation) → f ≡ (in_statement p (stmt s) b n).first
      → earlier (earlier acc f) (in_block p (block (drop (k + 1) ss)) b' n').first ≡ earlier acc (in_block p (block (drop k ss)) b n).first
  block_first acc f ef =
      earlier_grouped acc f (in_block p (block (drop (k + 1) ss)) b' n').first
      ∙ (λ i. earlier acc (earlier (ef i) (in_block p (block (drop (k + 1) ss)) (after i) (more i)).first))
      ∙ ap (λ t. earlier acc (in_block p t b n).first) (sym next_statement)

  pub block_known : (in_block p (block (drop (k + 1) ss)) b' n').known ≡ (in_block p (block (drop k ss)) b n).known
  block_known = (λ i. (in_block p (block (drop (k + 1) ss)) (after i) (more i)).known) ∙ ap (λ t. (in_block p t b n).known) (sym next_statement)

  pub block_names : bound_behind (block (drop (k + 1) ss)) b' ≡ bound_behind (block (drop k ss)) b
  block_names = (λ i. bound_behind (block (drop (k + 1) ss)) (after i)) ∙ ap (λ t. bound_behind t b) (sym next_statement)

-- ---- assignments

module _ (p : Place) (targets : List Target) (name : Name) (es : Tree.Exprs) (site : Site) (b : Names) (n n1 : Known) (af cf tw fits : Option Violation) (ab cb : List (Option Base))
    (eaf : af ≡ (in_values p es b n).first) (eab : ab ≡ (in_values p es b n).bases) (en1 : n1 ≡ (in_values p es b n).known)
    (ecb : cb ≡ call_bases p name af ab (length targets) site) where
  bases_made : cb ≡ call_bases p name (in_values p es b n).first (in_values p es b n).bases (length targets) site
  bases_made = ecb ∙ (λ i. call_bases p name (eaf i) (eab i) (length targets) site)

  pub called_first : cf ≡ call_first p name af ab (length targets) site → tw ≡ repeated_targets no_names targets → fits ≡ (in_targets targets cb n1).first
      → earlier (earlier cf tw) fits ≡ (in_statement p (Tree.assign targets (Tree.call name es site)) b n).first
  called_first ecf etw efits =
      let cf' = ecf ∙ (λ i. call_first p name (eaf i) (eab i) (length targets) site) in
      let fits' = efits ∙ (λ i. (in_targets targets (bases_made i) (en1 i)).first) in
      λ i. earlier (earlier (cf' i) (etw i)) (fits' i)

  pub called_known : (n2 : Known) → n2 ≡ (in_targets targets cb n1).known → n2 ≡ (in_statement p (Tree.assign targets (Tree.call name es site)) b n).known
  called_known n2 e = e ∙ (λ i. (in_targets targets (bases_made i) (en1 i)).known)

abbrev is_call : Tree.Expr → Bool
is_call (Tree.call name es site) = true
is_call _ = false

abbrev plain_assigned : Place → List Target → Tree.Expr → Names → Known → Walked
plain_assigned p targets e b n =
    let value = in_value p e b n in
    let rest = in_targets targets (value.base ∷ []) value.known in
    record { first = earlier (earlier (earlier (several_targets targets) value.first) (repeated_targets no_names targets)) rest.first; known = rest.known }

plain : (p : Place) (targets : List Target) (e : Tree.Expr) (b : Names) (n : Known) → is_call e ≡ false → in_statement p (Tree.assign targets e) b n ≡ plain_assigned p targets e b n
plain p targets (Tree.number m site) b n h = refl
plain p targets (Tree.truth m site) b n h = refl
plain p targets (Tree.variable x site) b n h = refl
plain p targets (Tree.literal es site) b n h = refl
plain p targets (Tree.unary op e site) b n h = refl
plain p targets (Tree.binary op e f site) b n h = refl
plain p targets (Tree.choice c e f site) b n h = refl
plain p targets (Tree.select e f site) b n h = refl
plain p targets (Tree.call x es site) b n h = cc
plain p targets (Tree.builtin m es site) b n h = refl
plain p targets (Tree.with_loop gs op site) b n h = refl

not_call : (e : Expression) → ((name : Name) (es : Vec Expression Global) (site : Site) → e ≡ Call name es site → ⊥) → is_call (expr e) ≡ false
not_call e h = by_layer (out-Expression e) refl
  where
    by_layer : (l : Expression-F Bound Expression Operation Statement Generator) → out-Expression e ≡ l → is_call (expr e) ≡ false
    by_layer (Expression-F.Call name es site) s = absurd (h name es site (sym (roll-out-Expression e) ∙ ap roll-Expression s ∙ rolls-Call name es site))
    by_layer l s = ap is_call (expression_opened e ∙ ap expression_layer s)

module _ (p : Place) (targets : List Target) (e : Expression) (no_call : (name : Name) (es : Vec Expression Global) (site : Site) → e ≡ Call name es site → ⊥) (b : Names) (n n1 : Known)
    (a : Option Base) (ea : a ≡ (in_value p (expr e) b n).base) (en1 : n1 ≡ (in_value p (expr e) b n).known) where
  pub plain_first : (several v tw fits : Option Violation) → several ≡ several_targets targets → v ≡ (in_value p (expr e) b n).first → tw ≡ repeated_targets no_names targets → fits ≡ (in_targets targets (a ∷ []) n1).first
      → earlier (earlier (earlier several v) tw) fits ≡ (in_statement p (Tree.assign targets (expr e)) b n).first
  plain_first several v tw fits es ev etw efits =
      let fits' = efits ∙ (λ i. (in_targets targets (ea i ∷ []) (en1 i)).first) in
      (λ i. earlier (earlier (earlier (es i) (ev i)) (etw i)) (fits' i)) ∙ ap (λ (w : Walked). w.first) (sym (plain p targets (expr e) b n (not_call e no_call)))

  pub plain_known : (n2 : Known) → n2 ≡ (in_targets targets (a ∷ []) n1).known → n2 ≡ (in_statement p (Tree.assign targets (expr e)) b n).known
  plain_known n2 e2 = e2 ∙ (λ i. (in_targets targets (ea i ∷ []) (en1 i)).known) ∙ ap (λ (w : Walked). w.known) (sym (plain p targets (expr e) b n (not_call e no_call)))

-- ---- replacements

pub replaced_from : (p : Place) (target : Target) (bracket : Site) (index e : Tree.Expr) (b b1 : Names) (n n1 n2 n3 : Known) (own v1 v2 : Option Violation) (a1 a2 a3 : Option Base)
    → own ≡ use_rules p target.name target.site b
    → v1 ≡ (in_value p index b n).first → a1 ≡ (in_value p index b n).base → n1 ≡ (in_value p index b n).known → b1 ≡ b
    → v2 ≡ (in_value p e b1 n1).first → a2 ≡ (in_value p e b1 n1).base → n2 ≡ (in_value p e b1 n1).known
    → n3 ≡ bind target.name None n2 → a3 ≡ base_of n3 target.name
    → replaced_first own v1 a1 bracket v2 a2 a3 target.site ≡ (in_statement p (Tree.replace target bracket index e) b n).first
replaced_from p target bracket index e b b1 n n1 n2 n3 own v1 v2 a1 a2 a3 eown ev1 ea1 en1 eb1 ev2 ea2 en2 en3 ea3 =
    let v2' = ev2 ∙ (λ i. (in_value p e (eb1 i) (en1 i)).first) in
    let a2' = ea2 ∙ (λ i. (in_value p e (eb1 i) (en1 i)).base) in
    let n2' = en2 ∙ (λ i. (in_value p e (eb1 i) (en1 i)).known) in
    let n3' = en3 ∙ (λ i. bind target.name None (n2' i)) in
    let a3' = ea3 ∙ (λ i. base_of (n3' i) target.name) in
    λ i. replaced_first (eown i) (ev1 i) (ea1 i) bracket (v2' i) (a2' i) (a3' i) target.site

-- ---- conditionals

either_common : (t f s : Bool) → (t || (f && s)) ≡ ((t || f) && (t || s))
either_common true f s = refl
either_common false f s = refl

split_names : (texts start : List (Bor (List ℕ))) (mark : ℕ) (name : Name) → take mark texts ≡ start → among texts name ≡ (among start name || among (drop mark texts) name)
split_names texts start mark name e =
    ap (λ ts. among ts name) (sym (take-append-drop mark texts))
    ∙ list_any-append (λ (k : Bor (List ℕ)). bytes_eq name k.now) (take mark texts) (drop mark texts)
    ∙ ap (λ ts. among ts name || among (drop mark texts) name) e

pub both_bound : (start one other : List (Bor (List ℕ))) (mark : ℕ) (yes' no' : Tree.Block) (first second : Names)
    → take mark one ≡ start → take mark other ≡ start → first ≡ among (drop mark one) → second ≡ among (drop mark other)
    → among one ≡ bound_behind yes' (among start) → among other ≡ bound_behind no' (among start)
    → with_common first second (among start) ≡ bound_by_both yes' no' (among start)
both_bound start one other mark yes' no' first second e1 e2 f1 f2 n1 n2 = λ i name.
    ((λ j. among start name || (f1 j name && f2 j name))
    ∙ either_common (among start name) (among (drop mark one) name) (among (drop mark other) name)
    ∙ (λ j. sym (split_names one start mark name e1) j && sym (split_names other start mark name e2) j)
    ∙ (λ j. n1 j name && n2 j name)) i
