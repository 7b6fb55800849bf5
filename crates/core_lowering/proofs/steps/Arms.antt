-- Arms of a lowering that goes on from what its calls made: each call's fact in the order of the calls, then what is made of them.
use Rattle.std.proofs.Common.{◌≡◌, ℕ, List, [], ◌++◌, Bool, true, false, Option, Some, refl, ◌∙◌}
use Rattle.std.specs.Prelude.{pos}
use Rattle.sac_base.specs.declared.base.Base.{Base}
use Rattle.sac_base.specs.declared.name.Name.{Name}
use Rattle.sac_base.specs.declared.op.Op.{Op}
use Rattle.sac_base.specs.declared.site.Site.{Site}
use Rattle.sac_base.specs.Arrays.{scalar}
use Rattle.sac_ast.specs.declared.Builtin.{Builtin}
use Rattle.sac_ast.specs.declared.Target.{Target}
use Rattle.sac_ast.specs.Tree.{IndexTree, Expr, Exprs, MaybeExpr, left_out, given, Stmt, Block, BoundTree, at, Gen, gen, Gens, gen_and, OperationTree, number, truth, variable, choice, call, builtin, with_loop, assign, if_else, while_do, do_while, genarray, modarray, expr_and, stmt_and}
use Rattle.sac_ast.specs.Tree
use Rattle.core_ir.specs.declared.tree.Var.{Var}
use Rattle.core_ir.specs.declared.tree.CoreOp.TheVariants as making
use Rattle.core_ir.specs.Terms.{PlainTerm, RightTerm, Plain}
use Rattle.source_meaning.specs.Meaning.{names, default_base}
use Rattle.core_lowering.specs.Lowering.{once, names_bound, built_in}
use Rattle.core_lowering.specs.steps.Looks.{Look, with_var, vars_of}
use Rattle.core_lowering.specs.steps.Building.{Built, Made, MadeList, MadeOption, MadeScope, MadeNames, MadeBlock, MadeGen, MadeGens, MadeOperation, MadeGiven, with_let, bound_at, fresh_at, nested, use_at, declared, given_bound, index_declared, first_var, block_of, block_giving, bound_in, bound_in_both, make_starts, make, make_all, make_maybe, make_bound, make_gen, make_gens, make_operation, make_stmt, make_block}
use Rattle.core_lowering.specs.steps.Parts.{is_call, make_default, make_inside, make_cell, make_turn, make_if, make_while, make_do}

-- names that a right side is bound to
pub given_arm : (site : Site) (look : Look) (m : MadeGiven) {d : MadeNames} {t : Built} → d ≡ declared m.names look m.state → t ≡ with_let d.state d.results site m.right → record { state = t; scope = d.scope } ≡ given_bound site look m
given_arm site look m {d} {t} p q =
    (λ i. record { state = q i; scope = d.scope })
    ∙ (λ i. record { state = with_let (p i).state (p i).results site m.right; scope = (p i).scope })

module _ (G : Name → ℕ) (B : Expr → Option Base) (N : Name → Base) where
  -- ---- expressions

  pub literal_arm : (site : Site) (es : Exprs) (look : Look) (s : Built) {a : MadeList} {m : Made}
      → a ≡ make_all G B N es look s → m ≡ bound_at a.state site (Plain (PlainTerm.Literal a.results)) → m ≡ make G B N (Tree.literal es site) look s
  literal_arm site es look s p q = q ∙ (λ i. bound_at (p i).state site (Plain (PlainTerm.Literal (p i).results)))

  pub unary_arm : (op : Op) (site : Site) (e : Expr) (look : Look) (s : Built) {a m : Made}
      → a ≡ make G B N e look s → m ≡ bound_at a.state site (Plain (PlainTerm.Unary op a.result)) → m ≡ make G B N (Tree.unary op e site) look s
  unary_arm op site e look s p q = q ∙ (λ i. bound_at (p i).state site (Plain (PlainTerm.Unary op (p i).result)))

  pub binary_arm : (op : Op) (site : Site) (e f : Expr) (look : Look) (s : Built) {a b m : Made}
      → a ≡ make G B N e look s → b ≡ make G B N f look a.state → m ≡ bound_at b.state site (Plain (PlainTerm.Binary op a.result b.result)) → m ≡ make G B N (Tree.binary op e f site) look s
  binary_arm op site e f look s {a} p q r =
      r
      ∙ (λ i. bound_at (q i).state site (Plain (PlainTerm.Binary op a.result (q i).result)))
      ∙ (λ i. let b = make G B N f look (p i).state in bound_at b.state site (Plain (PlainTerm.Binary op (p i).result b.result)))

  pub choice_arm : (site : Site) (c e f : Expr) (look : Look) (s : Built) {a m : Made} {b d : MadeBlock}
      → a ≡ make G B N c look s → b ≡ make_inside G B N e look a.state → d ≡ make_inside G B N f look b.state → m ≡ bound_at d.state site (RightTerm.If a.result b.block d.block)
      → m ≡ make G B N (choice c e f site) look s
  choice_arm site c e f look s {a} {m} {b} {d} p q r t =
      t
      ∙ (λ i. bound_at (r i).state site (RightTerm.If a.result b.block (r i).block))
      ∙ (λ i. let d' = make_inside G B N f look (q i).state in bound_at d'.state site (RightTerm.If a.result (q i).block d'.block))
      ∙ (λ i. let b' = make_inside G B N e look (p i).state in let d' = make_inside G B N f look b'.state in bound_at d'.state site (RightTerm.If (p i).result b'.block d'.block))

  pub select_arm : (site : Site) (e f : Expr) (look : Look) (s : Built) {a b m : Made}
      → a ≡ make G B N e look s → b ≡ make G B N f look a.state → m ≡ bound_at b.state site (Plain (PlainTerm.Select a.result b.result)) → m ≡ make G B N (Tree.select e f site) look s
  select_arm site e f look s {a} p q r =
      r
      ∙ (λ i. bound_at (q i).state site (Plain (PlainTerm.Select a.result (q i).result)))
      ∙ (λ i. let b = make G B N f look (p i).state in bound_at b.state site (Plain (PlainTerm.Select (p i).result b.result)))

  pub call_arm : (name : Name) (site : Site) (es : Exprs) (look : Look) (s : Built) {a : MadeList} {group : ℕ} {m : Made}
      → a ≡ make_all G B N es look s → group ≡ G name → m ≡ bound_at a.state site (RightTerm.Call group a.results) → m ≡ make G B N (call name es site) look s
  call_arm name site es look s {a} p h q =
      q
      ∙ (λ i. bound_at a.state site (RightTerm.Call (h i) a.results))
      ∙ (λ i. bound_at (p i).state site (RightTerm.Call (G name) (p i).results))

  pub builtin_arm : (f : Builtin) (site : Site) (es : Exprs) (look : Look) (s : Built) {a : MadeList} {right : RightTerm} {m : Made}
      → a ≡ make_all G B N es look s → right ≡ Plain (built_in f a.results) → m ≡ bound_at a.state site right → m ≡ make G B N (builtin f es site) look s
  builtin_arm f site es look s {a} p h q =
      q
      ∙ (λ i. bound_at a.state site (h i))
      ∙ (λ i. bound_at (p i).state site (Plain (built_in f (p i).results)))

  pub with_arm : (site : Site) (gs : Gens) (op : OperationTree) (look : Look) (s : Built) {a : MadeGens} {base : Base} {b : MadeOperation} {m : Made}
      → a ≡ make_gens G B N gs look s → base ≡ default_base B gs → b ≡ make_operation G B N op base look a.state → m ≡ bound_at b.state b.site (RightTerm.With b.op a.gens)
      → m ≡ make G B N (with_loop gs op site) look s
  with_arm site gs op look s {a} p h q r =
      r
      ∙ (λ i. bound_at (q i).state (q i).site (RightTerm.With (q i).op a.gens))
      ∙ (λ i. let b = make_operation G B N op (h i) look a.state in bound_at b.state b.site (RightTerm.With b.op a.gens))
      ∙ (λ i. let b = make_operation G B N op (default_base B gs) look (p i).state in bound_at b.state b.site (RightTerm.With b.op (p i).gens))

  -- ---- blocks of their own

  pub inside_arm : (e : Expr) (look : Look) (s : Built) {n : Built} {a : Made} {m : MadeBlock}
      → n ≡ nested s → a ≡ make G B N e look n → m ≡ block_of s a → m ≡ make_inside G B N e look s
  inside_arm e look s p q r = r ∙ (λ i. block_of s (q i)) ∙ (λ i. block_of s (make G B N e look (p i)))

  pub cell_arm : (body : Block) (cell : Expr) (look : Look) (s : Built) {n : Built} {b : MadeScope} {a : Made} {m : MadeBlock}
      → n ≡ nested s → b ≡ make_block G B N body look n → a ≡ make G B N cell b.scope b.state → m ≡ block_of s a → m ≡ make_cell G B N body cell look s
  cell_arm body cell look s p q r t =
      t
      ∙ (λ i. block_of s (r i))
      ∙ (λ i. block_of s (make G B N cell (q i).scope (q i).state))
      ∙ (λ i. let b = make_block G B N body look (p i) in block_of s (make G B N cell b.scope b.state))

  pub turn_arm : (xs : List Name) (body : Block) (look : Look) {inner : Look} (s : Built) {n : Built} {b : MadeScope} {m : MadeBlock}
      → n ≡ nested s → inner ≡ look → b ≡ make_block G B N body inner n → m ≡ block_giving xs s b → m ≡ make_turn G B N xs body look s
  turn_arm xs body look {inner} s {n} p h q r =
      r
      ∙ (λ i. block_giving xs s (q i))
      ∙ (λ i. block_giving xs s (make_block G B N body (h i) (p i)))

  -- ---- generators and operations

  pub given_maybe : (e : Expr) (look : Look) (s : Built) {a : Made} → a ≡ make G B N e look s → record { state = a.state; result = Some a.result } ≡ make_maybe G B N (given e) look s
  given_maybe e look s p = λ i. record { state = (p i).state; result = Some (p i).result }

  pub given_bound_is : (e : Expr) (look : Look) (s : Built) {a : Made} → a ≡ make G B N e look s → record { state = a.state; result = Some a.result } ≡ make_bound G B N (at e) look s
  given_bound_is e look s p = λ i. record { state = (p i).state; result = Some (p i).result }

  pub generator_arm : (lower upper : BoundTree) (lower_closed upper_closed : Bool) (step width : MaybeExpr) (index : IndexTree) (body : Block) (cell : Expr) (site : Site)
      (look : Look) {inner : Look} (s : Built) {l u t w : MadeOption} {f : Made} {n : MadeNames} {c : MadeBlock}
      → l ≡ make_bound G B N lower look s → u ≡ make_bound G B N upper look l.state → t ≡ make_maybe G B N step look u.state → w ≡ make_maybe G B N width look t.state
      → f ≡ fresh_at w.state → inner ≡ look → n ≡ index_declared index f.result inner f.state → c ≡ make_cell G B N body cell n.scope n.state
      → record { state = c.state; gen = record { head = record { lower = l.result; lower_closed = lower_closed; upper = u.result; upper_closed = upper_closed; step = t.result; width = w.result; index = f.result; names = n.results; site = site }; body = c.block } }
      ≡ make_gen G B N (gen lower lower_closed index upper upper_closed step width body cell site) look s
  generator_arm lower upper lower_closed upper_closed step width index body cell site look {inner} s {l} {u} {t} {w} {f} {n} {c} pl pu pt pw pf ph pn pc =
      let whole : MadeOption → MadeOption → MadeOption → MadeOption → Made → MadeNames → MadeBlock → MadeGen = λ l u t w f n c.
      record { state = c.state; gen = record { head = record { lower = l.result; lower_closed = lower_closed; upper = u.result; upper_closed = upper_closed; step = t.result; width = w.result; index = f.result; names = n.results; site = site }; body = c.block } } in
      let from_names : MadeOption → MadeOption → MadeOption → MadeOption → Made → MadeNames → MadeGen = λ l u t w f n. whole l u t w f n (make_cell G B N body cell n.scope n.state) in
      let from_width : MadeOption → MadeOption → MadeOption → MadeOption → MadeGen = λ l u t w.
      let f = fresh_at w.state in from_names l u t w f (index_declared index f.result look f.state) in
      let from_step : MadeOption → MadeOption → MadeOption → MadeGen = λ l u t. from_width l u t (make_maybe G B N width look t.state) in
      let from_upper : MadeOption → MadeOption → MadeGen = λ l u. from_step l u (make_maybe G B N step look u.state) in
      (λ i. whole l u t w f n (pc i))
      ∙ (λ i. from_names l u t w f (pn i))
      ∙ (λ i. from_names l u t w f (index_declared index f.result (ph i) f.state))
      ∙ (λ i. from_names l u t w (pf i) (index_declared index (pf i).result look (pf i).state))
      ∙ (λ i. from_width l u t (pw i))
      ∙ (λ i. from_step l u (pt i))
      ∙ (λ i. from_upper l (pu i))
      ∙ (λ i. from_upper (pl i) (make_bound G B N upper look (pl i).state))

  pub genarray_arm : (site : Site) (shape : Expr) (default : MaybeExpr) (base : Base) (look : Look) (s : Built) {a b : Made}
      → a ≡ make G B N shape look s → b ≡ make_default G B N default base site look a.state
      → record { state = b.state; op = making.Genarray a.result b.result; site = site } ≡ make_operation G B N (genarray shape default site) base look s
  genarray_arm site shape left_out base look s {a} p q =
      (λ i. record { state = (q i).state; op = making.Genarray a.result (q i).result; site = site })
      ∙ (λ i. let b = bound_at (p i).state site (Plain (PlainTerm.Const (scalar base (pos 0)))) in record { state = b.state; op = making.Genarray (p i).result b.result; site = site })
  genarray_arm site shape (given e) base look s {a} p q =
      (λ i. record { state = (q i).state; op = making.Genarray a.result (q i).result; site = site })
      ∙ (λ i. let b = make G B N e look (p i).state in record { state = b.state; op = making.Genarray (p i).result b.result; site = site })

  pub modarray_arm : (site : Site) (array : Expr) (base : Base) (look : Look) (s : Built) {a : Made}
      → a ≡ make G B N array look s → record { state = a.state; op = making.Modarray a.result; site = site } ≡ make_operation G B N (modarray array site) base look s
  modarray_arm site array base look s p = λ i. record { state = (p i).state; op = making.Modarray (p i).result; site = site }

  pub fold_arm : (op : Op) (site : Site) (neutral : Expr) (base : Base) (look : Look) (s : Built) {a : Made}
      → a ≡ make G B N neutral look s → record { state = a.state; op = making.Fold op a.result; site = site } ≡ make_operation G B N (Tree.fold op neutral site) base look s
  fold_arm op site neutral base look s p = λ i. record { state = (p i).state; op = making.Fold op (p i).result; site = site }

  -- ---- statements

  pub assign_call_arm : (targets : List Target) (name : Name) (site : Site) (es : Exprs) (look : Look) (s : Built) {a : MadeList} {group : ℕ} {xs : List Name} {d : MadeNames} {t : Built}
      → a ≡ make_all G B N es look s → group ≡ G name → xs ≡ names targets → d ≡ declared xs look a.state → t ≡ with_let d.state d.results site (RightTerm.Call group a.results)
      → record { state = t; scope = d.scope } ≡ make_stmt G B N (assign targets (call name es site)) look s
  assign_call_arm targets name site es look s {a} {group} {xs} {d} {t} p h k q r =
      let whole : MadeNames → ℕ → List Var → MadeScope = λ d group vs. record { state = with_let d.state d.results site (RightTerm.Call group vs); scope = d.scope } in
      (λ i. record { state = r i; scope = d.scope })
      ∙ (λ i. whole (q i) (h i) a.results)
      ∙ (λ i. whole (declared (k i) look a.state) (G name) a.results)
      ∙ (λ i. whole (declared (names targets) look (p i).state) (G name) (p i).results)

  -- a right side that is no call
  pub assign_is : (targets : List Target) (e : Expr) (look : Look) (s : Built) → is_call e ≡ false
      → record { state = (make G B N e look s).state; scope = first_var targets (make G B N e look s).result look } ≡ make_stmt G B N (assign targets e) look s
  assign_is targets (number z site) look s h = refl
  assign_is targets (truth b site) look s h = refl
  assign_is targets (variable name site) look s h = refl
  assign_is targets (Tree.literal es site) look s h = refl
  assign_is targets (Tree.unary op e site) look s h = refl
  assign_is targets (Tree.binary op e f site) look s h = refl
  assign_is targets (choice c e f site) look s h = refl
  assign_is targets (Tree.select e f site) look s h = refl
  assign_is targets (call name es site) look s h = absurd (cc)
  assign_is targets (builtin b es site) look s h = refl
  assign_is targets (with_loop gs op site) look s h = refl

  pub assign_arm : (targets : List Target) (e : Expr) (look : Look) {after : Look} (s : Built) {a : Made}
      → is_call e ≡ false → a ≡ make G B N e look s → after ≡ first_var targets a.result look → record { state = a.state; scope = after } ≡ make_stmt G B N (assign targets e) look s
  assign_arm targets e look {after} s {a} h p q =
      (λ i. record { state = a.state; scope = q i })
      ∙ (λ i. record { state = (p i).state; scope = first_var targets (p i).result look })
      ∙ assign_is targets e look s h

  pub replace_arm : (target : Target) (bracket : Site) (index e : Expr) (look : Look) {after : Look} (s : Built) {x v a m : Made}
      → x ≡ make G B N index look s → v ≡ make G B N e look x.state → a ≡ use_at v.state bracket (look target.name)
      → m ≡ bound_at a.state bracket (Plain (PlainTerm.Replace a.result x.result v.result)) → after ≡ with_var target.name m.result look
      → record { state = m.state; scope = after } ≡ make_stmt G B N (Tree.replace target bracket index e) look s
  replace_arm target bracket index e look {after} s {x} {v} {a} {m} px pv pa pm pq =
      let whole : Made → MadeScope = λ m. record { state = m.state; scope = with_var target.name m.result look } in
      let at_value : Made → Made → MadeScope = λ x v.
      let a = use_at v.state bracket (look target.name) in
      whole (bound_at a.state bracket (Plain (PlainTerm.Replace a.result x.result v.result))) in
      (λ i. record { state = m.state; scope = pq i })
      ∙ (λ i. whole (pm i))
      ∙ (λ i. whole (bound_at (pa i).state bracket (Plain (PlainTerm.Replace (pa i).result x.result v.result))))
      ∙ (λ i. at_value x (pv i))
      ∙ (λ i. at_value (px i) (make G B N e look (px i).state))

  pub if_arm : (site : Site) (c : Expr) (first second : Block) (look : Look) (s : Built) {g : MadeGiven} {m : MadeScope}
      → g ≡ make_if G B N c first second look s → m ≡ given_bound site look g → m ≡ make_stmt G B N (if_else c first second site) look s
  if_arm site c first second look s p q = q ∙ (λ i. given_bound site look (p i))

  pub while_arm : (site : Site) (c : Expr) (body : Block) (look : Look) (s : Built) {g : MadeGiven} {m : MadeScope}
      → g ≡ make_while G B N c body site look s → m ≡ given_bound site look g → m ≡ make_stmt G B N (while_do c body site) look s
  while_arm site c body look s p q = q ∙ (λ i. given_bound site look (p i))

  pub do_arm : (site test : Site) (c : Expr) (body : Block) (look : Look) (s : Built) {g : MadeGiven} {m : MadeScope}
      → g ≡ make_do G B N body c site test look s → m ≡ given_bound site look g → m ≡ make_stmt G B N (do_while body c site test) look s
  do_arm site test c body look s p q = q ∙ (λ i. given_bound site look (p i))

  -- ---- what conditionals and loops give

  pub if_parts : (c : Expr) (first second : Block) (look : Look) {in_first in_second : Look} (s : Built) {n1 n2 : Built} {bound both : List Name} {a : Made} {b d : MadeScope} {p q : MadeBlock}
      → a ≡ make G B N c look s → bound ≡ once [] (names_bound first ++ names_bound second)
      → in_first ≡ look → n1 ≡ nested a.state → b ≡ make_block G B N first in_first n1
      → in_second ≡ look → n2 ≡ nested b.state → d ≡ make_block G B N second in_second n2
      → both ≡ bound_in_both b.scope d.scope bound → p ≡ block_giving both a.state b → q ≡ block_giving both p.state d
      → record { state = q.state; names = both; right = RightTerm.If a.result p.block q.block } ≡ make_if G B N c first second look s
  if_parts c first second look {in_first} {in_second} s {n1} {n2} {bound} {both} {a} {b} {d} {p} {q} ha hs hf h1 hb hg h2 hd hn hp hq =
      let whole : Made → List Name → MadeBlock → MadeBlock → MadeGiven = λ a both p q. record { state = q.state; names = both; right = RightTerm.If a.result p.block q.block } in
      let closed : Made → List Name → MadeScope → MadeScope → MadeGiven = λ a both b d.
      let p = block_giving both a.state b in whole a both p (block_giving both p.state d) in
      let merged_in : Made → List Name → MadeScope → MadeScope → MadeGiven = λ a bound b d. closed a (bound_in_both b.scope d.scope bound) b d in
      let from_first : Made → MadeScope → MadeGiven = λ a b. merged_in a (once [] (names_bound first ++ names_bound second)) b (make_block G B N second look (nested b.state)) in
      (λ i. whole a both p (hq i))
      ∙ (λ i. whole a both (hp i) (block_giving both (hp i).state d))
      ∙ (λ i. closed a (hn i) b d)
      ∙ (λ i. merged_in a (hs i) b (hd i))
      ∙ (λ i. merged_in a (once [] (names_bound first ++ names_bound second)) b (make_block G B N second (hg i) (h2 i)))
      ∙ (λ i. from_first a (hb i))
      ∙ (λ i. from_first a (make_block G B N first (hf i) (h1 i)))
      ∙ (λ i. from_first (ha i) (make_block G B N first look (nested (ha i).state)))

  pub while_parts : (c : Expr) (body : Block) (site : Site) (look : Look) {inside : Look} (s : Built) {bound all : List Name} {start : List Var} {d : MadeNames} {t b : MadeBlock}
      → bound ≡ once [] (names_bound body) → all ≡ bound_in look bound → start ≡ vars_of look all → inside ≡ look → d ≡ declared all inside s
      → t ≡ make_inside G B N c d.scope d.state → b ≡ make_turn G B N all body d.scope t.state
      → record { state = b.state; names = all; right = RightTerm.Loop false start d.results t.block b.block site } ≡ make_while G B N c body site look s
  while_parts c body site look {inside} s {bound} {all} {start} {d} {t} {b} hs ha hv hi hd ht hb =
      let whole : List Name → List Var → MadeNames → MadeBlock → MadeBlock → MadeGiven = λ all start d t b.
      record { state = b.state; names = all; right = RightTerm.Loop false start d.results t.block b.block site } in
      let from_test : List Name → List Var → MadeNames → MadeBlock → MadeGiven = λ all start d t. whole all start d t (make_turn G B N all body d.scope t.state) in
      let from_params : List Name → List Var → MadeNames → MadeGiven = λ all start d. from_test all start d (make_inside G B N c d.scope d.state) in
      let from_names : List Name → MadeGiven = λ all. from_params all (vars_of look all) (declared all look s) in
      (λ i. whole all start d t (hb i))
      ∙ (λ i. from_test all start d (ht i))
      ∙ (λ i. from_params all (hv i) (hd i))
      ∙ (λ i. from_params all (vars_of look all) (declared all (hi i) s))
      ∙ (λ i. from_names (ha i))
      ∙ (λ i. from_names (bound_in look (hs i)))

  pub do_parts : (c : Expr) (body : Block) (site test : Site) (look : Look) {inside : Look} (s : Built) {all : List Name} {x : MadeList} {d : MadeNames} {t b : MadeBlock}
      → all ≡ once [] (names_bound body) → x ≡ make_starts N site all look s → inside ≡ look → d ≡ declared all inside x.state
      → b ≡ make_turn G B N all body d.scope d.state → t ≡ make_inside G B N c d.scope b.state
      → record { state = t.state; names = all; right = RightTerm.Loop true x.results d.results t.block b.block test } ≡ make_do G B N body c site test look s
  do_parts c body site test look {inside} s {all} {x} {d} {t} {b} ha hx hi hd hb ht =
      let whole : List Name → MadeList → MadeNames → MadeBlock → MadeBlock → MadeGiven = λ all x d b t.
      record { state = t.state; names = all; right = RightTerm.Loop true x.results d.results t.block b.block test } in
      let from_body : List Name → MadeList → MadeNames → MadeBlock → MadeGiven = λ all x d b. whole all x d b (make_inside G B N c d.scope b.state) in
      let from_params : List Name → MadeList → MadeNames → MadeGiven = λ all x d. from_body all x d (make_turn G B N all body d.scope d.state) in
      let from_starts : List Name → MadeList → MadeGiven = λ all x. from_params all x (declared all look x.state) in
      (λ i. whole all x d b (ht i))
      ∙ (λ i. from_body all x d (hb i))
      ∙ (λ i. from_params all x (hd i))
      ∙ (λ i. from_params all x (declared all (hi i) x.state))
      ∙ (λ i. from_starts all (hx i))
      ∙ (λ i. from_starts (ha i) (make_starts N site (ha i) look s))
