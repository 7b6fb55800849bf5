-- The walk finds the earliest of the violations, and the bases and bindings that the rules speak of.
use Rattle.std.proofs.Common.{◌≡◌, ℕ, List, [], ◌∷◌, ◌++◌, length, map, Bool, not, ◌&&◌, ◌||◌, Option, Some, None, refl, sym, ap, ◌∙◌, if◌then◌else◌, is_some}
use Rattle.sac_base.specs.declared.base.Base.{Base}
use Rattle.sac_base.specs.declared.base.Base.TheVariants.{Int, Bool as Truth}
use Rattle.sac_base.specs.declared.name.Name.{Name}
use Rattle.sac_base.specs.declared.site.Site.{Site}
use Rattle.sac_base.specs.Operators.{result_base}
use Rattle.sac_ast.specs.declared.Builtin.{Builtin}
use Rattle.sac_ast.specs.declared.Builtin.TheVariants.{Dim, Shape, Reshape}
use Rattle.check_rules.specs.declared.code.CheckCode.{CheckCode}
use Rattle.check_rules.specs.declared.code.CheckCode.TheVariants.{C1, C2, C3, C4, C5, C8, C9, C10}
use Rattle.sac_ast.specs.declared.Target.{Target}
use Rattle.sac_ast.specs.declared.Param.{Param}
use Rattle.sac_ast.specs.Tree.{Expr, Exprs, no_exprs, expr_and, MaybeExpr, left_out, given, Stmt, Block, no_stmts, stmt_and, BoundTree, dot, at, Gen, gen, Gens, no_gens, gen_and, OperationTree, number, truth, variable, literal, unary, binary, choice, select, call, builtin, with_loop, assign, replace, if_else, while_do, do_while, genarray, modarray, fold}
use Rattle.sac_ast.specs.Bases.{where_holds, may_be, may_match, operand_base, operands_fit, agree, common_base, literal_base, builtin_base, first_base, all_known, known_bases, call_bases_in, first_named, are_int}
use Rattle.check_rules.specs.declared.violation.Violation.{Violation}
use Rattle.check_rules.specs.declared.judged.Cell.{Cell}
use Rattle.check_rules.specs.Accepted.{Names, Known, Place, with_names, no_names, index_targets, index_names, bound_after, bound_behind, bind, base_of, later_bases, numbers_fit, some_takes, stands_earlier, is_fold}
use Rattle.check_rules.specs.Accepted as a
use Rattle.check_rules.specs.Walk as w
use Rattle.check_rules.specs.First.{earlier, unless, is_clean, first_of}
use Rattle.check_rules.proofs.Earliest.{earlier_grouped, first_of_append, first_of_unless, clean_first}

-- ---- what the walk keeps of a list of violations

abbrev pub summary : a.Finding → w.Judgement
summary f = record { first = first_of f.violations; base = f.base; known = f.known }

abbrev pub summaries : a.Findings → w.Judgements
summaries f = record { first = first_of f.violations; bases = f.bases; known = f.known }

abbrev pub passed : a.Passage → w.Walked
passed f = record { first = first_of f.violations; known = f.known }

abbrev pub celled : a.Cells → w.CellJudgements
celled f = record { first = first_of f.violations; cells = f.cells; known = f.known }

pub joined : (xs ys : List Violation) → earlier (first_of xs) (first_of ys) ≡ first_of (xs ++ ys)
joined xs ys = sym (first_of_append xs ys)

pub one : (b : Bool) (code : CheckCode) (site : Site) → unless b code site ≡ first_of (a.unless b code site)
one b code site = sym (first_of_unless b code site)

pub and_then_one : (x : Option Violation) (xs : List Violation) (b : Bool) (code : CheckCode) (site : Site) → x ≡ first_of xs → earlier x (unless b code site) ≡ first_of (xs ++ a.unless b code site)
and_then_one x xs b code site e = (λ i. earlier (e i) (one b code site i)) ∙ joined xs (a.unless b code site)

pub behind : (x : Option Violation) (xs ys : List Violation) → x ≡ first_of xs → earlier x (first_of ys) ≡ first_of (xs ++ ys)
behind x xs ys e = ap (λ z. earlier z (first_of ys)) e ∙ joined xs ys

found_is : (own inside : List Violation) (b : Option Base) (n : Known) → w.judged (first_of own) (first_of inside) b n ≡ summary (a.finding own inside b n)
found_is own inside b n = λ i. record { first = joined own inside i; base = where_holds ((ap is_clean (joined own inside) ∙ clean_first (own ++ inside)) i) b; known = n }

own_is : (holds : Bool) (code : CheckCode) (site : Site) (inside : List Violation) (b : Option Base) (n : Known)
    → w.judged (unless holds code site) (first_of inside) b n ≡ summary (a.finding (a.unless holds code site) inside b n)
own_is holds code site inside b n = (λ i. w.judged (one holds code site i) (first_of inside) b n) ∙ found_is (a.unless holds code site) inside b n

-- ---- rules of single phrases

use_is : (p : Place) (name : Name) (site : Site) (b : Names) → w.use_rules p name site b ≡ first_of (a.use_rules p name site b)
use_is p name site b = and_then_one (unless (p.listed name) C1 site) (a.unless (p.listed name) C1 site) (not (p.listed name) || b name) C5 site (one (p.listed name) C1 site)

builtin_is : (m : Builtin) (bs : List (Option Base)) (site : Site) → w.builtin_rules m bs site ≡ first_of (a.builtin_rules m bs site)
builtin_is Reshape bs site = one (may_be Int (first_base bs)) C4 site
builtin_is Dim bs site = refl
builtin_is Shape bs site = refl

several_is : (ts : List Target) → w.several_targets ts ≡ first_of (a.several_targets ts)
several_is [] = refl
several_is (t ∷ []) = refl
several_is (t ∷ u ∷ ts) = refl

cells_is : (wanted : Option Base) (cs : List Cell) → w.cell_rules wanted cs ≡ first_of (a.cell_rules wanted cs)
cells_is wanted [] = refl
cells_is wanted (c ∷ cs) =
    (λ i. earlier (one (c.fits && may_match wanted c.base) C4 c.site i) (cells_is wanted cs i)) ∙ joined (a.unless (c.fits && may_match wanted c.base) C4 c.site) (a.cell_rules wanted cs)

pub repeated_is : (before : Names) (ts : List Target) → w.repeated_targets before ts ≡ first_of (a.repeated before (map (λ (t : Target). (t.name, t.site)) ts))
repeated_is before [] = refl
repeated_is before (t ∷ ts) =
    (λ i. earlier (one (not (before t.name)) C9 t.site i) (repeated_is (with_names (t.name ∷ []) before) ts i))
    ∙ joined (a.unless (not (before t.name)) C9 t.site) (a.repeated (with_names (t.name ∷ []) before) (map (λ (t : Target). (t.name, t.site)) ts))

pub repeated_params_is : (before : Names) (ps : List Param) → w.repeated_params before ps ≡ first_of (a.repeated before (map (λ (t : Param). (t.name, t.site)) ps))
repeated_params_is before [] = refl
repeated_params_is before (t ∷ ts) =
    (λ i. earlier (one (not (before t.name)) C9 t.site i) (repeated_params_is (with_names (t.name ∷ []) before) ts i))
    ∙ joined (a.unless (not (before t.name)) C9 t.site) (a.repeated (with_names (t.name ∷ []) before) (map (λ (t : Param). (t.name, t.site)) ts))

targets_is : (ts : List Target) (bs : List (Option Base)) (n : Known) → w.in_targets ts bs n ≡ passed (a.in_targets ts bs n)
targets_is [] bs n = refl
targets_is (t ∷ ts) bs n =
    let here = bind t.name (first_base bs) n in
    let rest = a.in_targets ts (later_bases bs) here in
    (λ i. record {
      first = earlier (one (may_match (base_of here t.name) (first_base bs)) C4 t.site i) (targets_is ts (later_bases bs) here i).first;
      known = (targets_is ts (later_bases bs) here i).known;
    })
    ∙ (λ i. record { first = joined (a.unless (may_match (base_of here t.name) (first_base bs)) C4 t.site) rest.violations i; known = rest.known })

index_is : (ts : List Target) (n : Known) → w.in_index_names ts n ≡ passed (a.in_index_names ts n)
index_is [] n = refl
index_is (t ∷ ts) n =
    let here = bind t.name (Some Int) n in
    let rest = a.in_index_names ts here in
    (λ i. record {
      first = earlier (one (may_be Int (base_of here t.name)) C4 t.site i) (index_is ts here i).first;
      known = (index_is ts here i).known;
    })
    ∙ (λ i. record { first = joined (a.unless (may_be Int (base_of here t.name)) C4 t.site) rest.violations i; known = rest.known })

call_rules_is : (p : Place) (name : Name) (args : List (Option Base)) (results : ℕ) (site : Site) → w.call_rules p name args results site ≡ first_of (a.call_rules p name args results site)
call_rules_is p name args results site =
    let first = first_named p.functions name in
    let v2 = a.unless (is_some first) C2 site in
    let v3 = a.unless (numbers_fit first (length args) results) C3 site in
    let v4 = a.unless (not (is_some first) || some_takes p.functions name (all_known args)) C4 site in
    and_then_one _ (v2 ++ v3 ++ v4) (stands_earlier p name) C8 site
    (and_then_one _ (v2 ++ v3) (not (is_some first) || some_takes p.functions name (all_known args)) C4 site
    (and_then_one _ v2 (numbers_fit first (length args) results) C3 site (one (is_some first) C2 site)))

call_is : (p : Place) (name : Name) (results : ℕ) (site : Site) (args : a.Findings) → w.in_call p name results site (summaries args) ≡ summaries (a.in_call p name results site args)
call_is p name results site args =
    let rules = a.call_rules p name args.bases results site in
    let all : w.call_first p name (first_of args.violations) args.bases results site ≡ first_of (rules ++ args.violations) = behind _ rules args.violations (call_rules_is p name args.bases results site) in
    λ i. record {
      first = all i;
      bases = (if (ap is_clean all ∙ clean_first (rules ++ args.violations)) i then known_bases (call_bases_in p.functions name args.bases) else []);
      known = args.known;
    }

-- the base of the first cell
first_is : (cs : List Cell) → w.first_cell cs ≡ a.first_cell cs
first_is [] = refl
first_is (c ∷ cs) = refl

-- ---- a generator's parts

eight : (l r i m s d b v : List Violation)
    → earlier (earlier (earlier (earlier (earlier (first_of l) (earlier (first_of r) (first_of i))) (first_of m)) (first_of s)) (first_of d)) (earlier (first_of b) (first_of v))
    ≡ first_of (l ++ r ++ i ++ m ++ s ++ d ++ b ++ v)
eight l r i m s d b v =
    let head = ap (λ x. earlier (earlier (earlier x (first_of m)) (first_of s)) (first_of d)) (sym (earlier_grouped (first_of l) (first_of r) (first_of i))) in
    let six = head ∙ behind _ (l ++ r ++ i ++ m ++ s) d (behind _ (l ++ r ++ i ++ m) s (behind _ (l ++ r ++ i) m (behind _ (l ++ r) i (joined l r)))) in
    ap (λ x. earlier x (earlier (first_of b) (first_of v))) six
    ∙ sym (earlier_grouped (first_of (l ++ r ++ i ++ m ++ s ++ d)) (first_of b) (first_of v))
    ∙ behind _ (l ++ r ++ i ++ m ++ s ++ d ++ b) v (joined (l ++ r ++ i ++ m ++ s ++ d) b)

-- ---- phrases

module _ (p : Place) where
  pair_is : (own : List Violation) (xs ys : List Violation) (b : Option Base) (n : Known) → w.judged (first_of own) (earlier (first_of xs) (first_of ys)) b n ≡ summary (a.finding own (xs ++ ys) b n)
  pair_is own xs ys b n = ap (λ x. w.judged (first_of own) x b n) (joined xs ys) ∙ found_is own (xs ++ ys) b n

  plain_is : (ts : List Target) (value : w.Judgement) (f : a.Finding) → value ≡ summary f
      → (let rest = w.in_targets ts (value.base ∷ []) value.known in
      let wanted : w.Walked = record { first = earlier (earlier (earlier (w.several_targets ts) value.first) (w.repeated_targets no_names ts)) rest.first; known = rest.known } in wanted)
      ≡ passed (let rest = a.in_targets ts (f.base ∷ []) f.known in
      let wanted : a.Passage = record { violations = a.several_targets ts ++ f.violations ++ a.repeated_targets ts ++ rest.violations; known = rest.known } in wanted)
  plain_is ts value f e =
      let rest = a.in_targets ts (f.base ∷ []) f.known in
      (λ i. let here = w.in_targets ts ((e i).base ∷ []) (e i).known in
      let made : w.Walked = record { first = earlier (earlier (earlier (several_is ts i) (e i).first) (repeated_is no_names ts i)) here.first; known = here.known } in made)
      ∙ (λ i. let here = targets_is ts (f.base ∷ []) f.known i in
      let made : w.Walked = record { first = earlier (earlier (earlier (first_of (a.several_targets ts)) (first_of f.violations)) (first_of (a.repeated_targets ts))) here.first; known = here.known } in made)
      ∙ (λ i. record { first = behind _ (a.several_targets ts ++ f.violations ++ a.repeated_targets ts) rest.violations (behind _ (a.several_targets ts ++ f.violations) (a.repeated_targets ts) (joined (a.several_targets ts) f.violations)) i; known = rest.known })

  mutual
    pub value_is : (e : Expr) (b : Names) (n : Known) → w.in_value p e b n ≡ summary (a.in_value p e b n)
    value_is (number m site) b n = refl
    value_is (truth m site) b n = refl
    value_is (variable name site) b n = ap (λ own. w.judged own None (base_of n name) n) (use_is p name site b) ∙ found_is (a.use_rules p name site b) [] (base_of n name) n
    value_is (literal es site) b n =
        let all = a.in_values p es b n in
        ap (λ (r : w.Judgements). w.judged (unless (agree r.bases) C4 site) r.first (literal_base r.bases) r.known) (values_is es b n)
        ∙ own_is (agree all.bases) C4 site all.violations (literal_base all.bases) all.known
    value_is (unary op e site) b n =
        let f = a.in_value p e b n in
        ap (λ (r : w.Judgement). w.judged (unless (may_be (operand_base op) r.base) C4 site) r.first (Some (result_base op)) r.known) (value_is e b n)
        ∙ own_is (may_be (operand_base op) f.base) C4 site f.violations (Some (result_base op)) f.known
    value_is (binary op e f site) b n =
        let left = a.in_value p e b n in
        let right = a.in_value p f b left.known in
        let second = ap (λ (r : w.Judgement). w.in_value p f b r.known) (value_is e b n) ∙ value_is f b left.known in
        (λ i. w.judged (unless (operands_fit op (value_is e b n i).base (second i).base) C4 site) (earlier (value_is e b n i).first (second i).first) (Some (result_base op)) (second i).known)
        ∙ (λ i. w.judged (one (operands_fit op left.base right.base) C4 site i) (earlier (first_of left.violations) (first_of right.violations)) (Some (result_base op)) right.known)
        ∙ pair_is (a.unless (operands_fit op left.base right.base) C4 site) left.violations right.violations (Some (result_base op)) right.known
    value_is (choice c e f site) b n =
        let test = a.in_value p c b n in
        let first = a.in_value p e b test.known in
        let second = a.in_value p f b first.known in
        let two = ap (λ (r : w.Judgement). w.in_value p e b r.known) (value_is c b n) ∙ value_is e b test.known in
        let three = ap (λ (r : w.Judgement). w.in_value p f b r.known) two ∙ value_is f b first.known in
        let base = common_base (first.base ∷ second.base ∷ []) in
        let rule = a.unless (may_be Truth test.base && may_match first.base second.base) C4 site in
        (λ i. w.judged (unless (may_be Truth (value_is c b n i).base && may_match (two i).base (three i).base) C4 site) (earlier (earlier (value_is c b n i).first (two i).first) (three i).first)
        (common_base ((two i).base ∷ (three i).base ∷ [])) (three i).known)
        ∙ (λ i. w.judged (one (may_be Truth test.base && may_match first.base second.base) C4 site i) (earlier (joined test.violations first.violations i) (first_of second.violations)) base second.known)
        ∙ pair_is rule (test.violations ++ first.violations) second.violations base second.known
    value_is (select e x site) b n =
        let array = a.in_value p e b n in
        let index = a.in_value p x b array.known in
        let second = ap (λ (r : w.Judgement). w.in_value p x b r.known) (value_is e b n) ∙ value_is x b array.known in
        (λ i. w.judged (unless (may_be Int (second i).base) C4 site) (earlier (value_is e b n i).first (second i).first) (value_is e b n i).base (second i).known)
        ∙ (λ i. w.judged (one (may_be Int index.base) C4 site i) (earlier (first_of array.violations) (first_of index.violations)) array.base index.known)
        ∙ pair_is (a.unless (may_be Int index.base) C4 site) array.violations index.violations array.base index.known
    value_is (call name es site) b n =
        let args = a.in_values p es b n in
        ap (λ (r : w.Judgements). let called = w.in_call p name 1 site r in let made : w.Judgement = record { first = called.first; base = first_base called.bases; known = called.known } in made) (values_is es b n)
        ∙ ap (λ (called : w.Judgements). let made : w.Judgement = record { first = called.first; base = first_base called.bases; known = called.known } in made) (call_is p name 1 site args)
    value_is (builtin m es site) b n =
        let args = a.in_values p es b n in
        ap (λ (r : w.Judgements). w.judged (w.builtin_rules m r.bases site) r.first (builtin_base m r.bases) r.known) (values_is es b n)
        ∙ ap (λ own. w.judged own (first_of args.violations) (builtin_base m args.bases) args.known) (builtin_is m args.bases site)
        ∙ found_is (a.builtin_rules m args.bases site) args.violations (builtin_base m args.bases) args.known
    value_is (with_loop gs op site) b n =
        let loops = a.in_generators p gs (is_fold op) b n in
        let cells = a.in_operation p op (a.first_cell loops.cells) b loops.known in
        let second = ap (λ (r : w.CellJudgements). w.in_operation p op (w.first_cell r.cells) b r.known) (generators_is gs (is_fold op) b n) ∙ operation_is op (w.first_cell loops.cells) b loops.known in
        let rest = ap (λ cell. summary (a.in_operation p op cell b loops.known)) (first_is loops.cells) in
        let whole = second ∙ rest in
        (λ i. w.judged (w.cell_rules (whole i).base (generators_is gs (is_fold op) b n i).cells) (earlier (generators_is gs (is_fold op) b n i).first (whole i).first) (whole i).base (whole i).known)
        ∙ ap (λ own. w.judged own (earlier (first_of loops.violations) (first_of cells.violations)) cells.base cells.known) (cells_is cells.base loops.cells)
        ∙ pair_is (a.cell_rules cells.base loops.cells) loops.violations cells.violations cells.base cells.known

    pub values_is : (es : Exprs) (b : Names) (n : Known) → w.in_values p es b n ≡ summaries (a.in_values p es b n)
    values_is no_exprs b n = refl
    values_is (expr_and e es) b n =
        let first = a.in_value p e b n in
        let rest = a.in_values p es b first.known in
        let second = ap (λ (r : w.Judgement). w.in_values p es b r.known) (value_is e b n) ∙ values_is es b first.known in
        (λ i. let made : w.Judgements = record { first = earlier (value_is e b n i).first (second i).first; bases = (value_is e b n i).base ∷ (second i).bases; known = (second i).known } in made)
        ∙ (λ i. record { first = joined first.violations rest.violations i; bases = first.base ∷ rest.bases; known = rest.known })

    pub maybe_is : (e : MaybeExpr) (other : Option Base) (b : Names) (n : Known) → w.in_maybe p e other b n ≡ summary (a.in_maybe p e other b n)
    maybe_is left_out other b n = refl
    maybe_is (given e) other b n = value_is e b n

    pub limit_is : (x : BoundTree) (folds : Bool) (b : Names) (n : Known) → w.in_bound p x folds b n ≡ summary (a.in_bound p x folds b n)
    limit_is (dot site) folds b n = own_is (not folds) C10 site [] (Some Int) n
    limit_is (at e) folds b n = value_is e b n

    pub generator_is : (g : Gen) (folds : Bool) (b : Names) (n : Known) → w.in_generator p g folds b n ≡ celled (a.in_generator p g folds b n)
    generator_is (gen lower lc index upper uc step width body cell site) folds b n =
        let inside = with_names (index_names index) b in
        let ts = index_targets index in
        let least = a.in_bound p lower folds b n in
        let indices = a.in_index_names ts least.known in
        let most = a.in_bound p upper folds b indices.known in
        let steps = a.in_maybe p step (Some Int) b most.known in
        let widths = a.in_maybe p width (Some Int) b steps.known in
        let block = a.in_block p body inside widths.known in
        let value = a.in_value p cell (bound_behind body inside) block.known in
        let e1 = limit_is lower folds b n in
        let e2 = ap (λ (r : w.Judgement). w.in_index_names ts r.known) e1 ∙ index_is ts least.known in
        let e3 = ap (λ (r : w.Walked). w.in_bound p upper folds b r.known) e2 ∙ limit_is upper folds b indices.known in
        let e4 = ap (λ (r : w.Judgement). w.in_maybe p step (Some Int) b r.known) e3 ∙ maybe_is step (Some Int) b most.known in
        let e5 = ap (λ (r : w.Judgement). w.in_maybe p width (Some Int) b r.known) e4 ∙ maybe_is width (Some Int) b steps.known in
        let e6 = ap (λ (r : w.Judgement). w.in_block p body inside r.known) e5 ∙ block_is body inside widths.known in
        let e7 = ap (λ (r : w.Walked). w.in_value p cell (bound_behind body inside) r.known) e6 ∙ value_is cell (bound_behind body inside) block.known in
        (λ i. let made : w.CellJudgements = record {
          first = earlier (earlier (earlier (earlier (earlier (e1 i).first (earlier (repeated_is no_names ts i) (e2 i).first)) (e3 i).first) (e4 i).first) (e5 i).first) (earlier (e6 i).first (e7 i).first);
          cells = record { fits = are_int (e1 i).base (e3 i).base (e4 i).base (e5 i).base; base = (e7 i).base; site = site } ∷ [];
          known = (e7 i).known;
        } in made)
        ∙ (λ i. record {
          first = eight least.violations (a.repeated_targets ts) indices.violations most.violations steps.violations widths.violations block.violations value.violations i;
          cells = record { fits = are_int least.base most.base steps.base widths.base; base = value.base; site = site } ∷ [];
          known = value.known;
        })

    pub generators_is : (gs : Gens) (folds : Bool) (b : Names) (n : Known) → w.in_generators p gs folds b n ≡ celled (a.in_generators p gs folds b n)
    generators_is no_gens folds b n = refl
    generators_is (gen_and g gs) folds b n =
        let first = a.in_generator p g folds b n in
        let rest = a.in_generators p gs folds b first.known in
        let second = ap (λ (r : w.CellJudgements). w.in_generators p gs folds b r.known) (generator_is g folds b n) ∙ generators_is gs folds b first.known in
        (λ i. let made : w.CellJudgements = record { first = earlier (generator_is g folds b n i).first (second i).first; cells = (generator_is g folds b n i).cells ++ (second i).cells; known = (second i).known } in made)
        ∙ (λ i. record { first = joined first.violations rest.violations i; cells = first.cells ++ rest.cells; known = rest.known })

    pub operation_is : (op : OperationTree) (cell : Option Base) (b : Names) (n : Known) → w.in_operation p op cell b n ≡ summary (a.in_operation p op cell b n)
    operation_is (genarray shape default site) cell b n =
        let extents = a.in_value p shape b n in
        let value = a.in_maybe p default cell b extents.known in
        let rule = a.unless (may_be Int extents.base) C4 site in
        let second = ap (λ (r : w.Judgement). w.in_maybe p default cell b r.known) (value_is shape b n) ∙ maybe_is default cell b extents.known in
        (λ i. let made : w.Judgement = record { first = earlier (earlier (unless (may_be Int (value_is shape b n i).base) C4 site) (value_is shape b n i).first) (second i).first; base = (second i).base; known = (second i).known } in made)
        ∙ (λ i. record { first = behind _ (rule ++ extents.violations) value.violations (behind _ rule extents.violations (one (may_be Int extents.base) C4 site)) i; base = value.base; known = value.known })
    operation_is (modarray array site) cell b n = value_is array b n
    operation_is (fold op neutral site) cell b n =
        let value = a.in_value p neutral b n in
        let rule = a.unless (operands_fit op value.base value.base) C4 site in
        (λ i. let r = value_is neutral b n i in let made : w.Judgement = record { first = earlier (unless (operands_fit op r.base r.base) C4 site) r.first; base = r.base; known = r.known } in made)
        ∙ (λ i. record { first = behind _ rule value.violations (one (operands_fit op value.base value.base) C4 site) i; base = value.base; known = value.known })

    pub statement_is : (s : Stmt) (b : Names) (n : Known) → w.in_statement p s b n ≡ passed (a.in_statement p s b n)
    statement_is (assign ts (call name es site)) b n =
        let args = a.in_values p es b n in
        let called = a.in_call p name (length ts) site args in
        let rest = a.in_targets ts called.bases called.known in
        let made : w.Judgements → w.Walked = λ (c : w.Judgements). let r = w.in_targets ts c.bases c.known in record { first = earlier (earlier c.first (w.repeated_targets no_names ts)) r.first; known = r.known } in
        ap (λ (r : w.Judgements). made (w.in_call p name (length ts) site r)) (values_is es b n)
        ∙ ap made (call_is p name (length ts) site args)
        ∙ (λ i. record { first = earlier (earlier (first_of called.violations) (repeated_is no_names ts i)) (targets_is ts called.bases called.known i).first; known = (targets_is ts called.bases called.known i).known })
        ∙ (λ i. record { first = behind _ (called.violations ++ a.repeated_targets ts) rest.violations (joined called.violations (a.repeated_targets ts)) i; known = rest.known })
    statement_is (assign ts (number m site)) b n = plain_is ts _ _ (value_is (number m site) b n)
    statement_is (assign ts (truth m site)) b n = plain_is ts _ _ (value_is (truth m site) b n)
    statement_is (assign ts (variable name site)) b n = plain_is ts _ _ (value_is (variable name site) b n)
    statement_is (assign ts (literal es site)) b n = plain_is ts _ _ (value_is (literal es site) b n)
    statement_is (assign ts (unary op e site)) b n = plain_is ts _ _ (value_is (unary op e site) b n)
    statement_is (assign ts (binary op e f site)) b n = plain_is ts _ _ (value_is (binary op e f site) b n)
    statement_is (assign ts (choice c e f site)) b n = plain_is ts _ _ (value_is (choice c e f site) b n)
    statement_is (assign ts (select e f site)) b n = plain_is ts _ _ (value_is (select e f site) b n)
    statement_is (assign ts (builtin m es site)) b n = plain_is ts _ _ (value_is (builtin m es site) b n)
    statement_is (assign ts (with_loop gs op site)) b n = plain_is ts _ _ (value_is (with_loop gs op site) b n)
    statement_is (replace t bracket x e) b n =
        let place = a.in_value p x b n in
        let value = a.in_value p e b place.known in
        let here = bind t.name None value.known in
        let second = ap (λ (r : w.Judgement). w.in_value p e b r.known) (value_is x b n) ∙ value_is e b place.known in
        let used = a.use_rules p t.name t.site b in
        let index = a.unless (may_be Int place.base) C4 bracket in
        let target = a.unless (may_match (base_of here t.name) value.base) C4 t.site in
        (λ i. let known = bind t.name None (second i).known in
        let made : w.Walked = record { first = earlier (earlier (earlier (earlier (use_is p t.name t.site b i) (unless (may_be Int (value_is x b n i).base) C4 bracket)) (unless (may_match (base_of known t.name) (second i).base) C4 t.site)) (value_is x b n i).first) (second i).first; known = known } in made)
        ∙ (λ i. record {
          first = behind _ (used ++ index ++ target ++ place.violations) value.violations
              (behind _ (used ++ index ++ target) place.violations
              (and_then_one _ (used ++ index) (may_match (base_of here t.name) value.base) C4 t.site (and_then_one _ used (may_be Int place.base) C4 bracket refl))) i;
          known = here;
        })
    statement_is (if_else c first second site) b n =
        let test = a.in_value p c b n in
        let yes' = a.in_block p first b test.known in
        let no' = a.in_block p second b yes'.known in
        let rule = a.unless (may_be Truth test.base) C4 site in
        let e2 = ap (λ (r : w.Judgement). w.in_block p first b r.known) (value_is c b n) ∙ block_is first b test.known in
        let e3 = ap (λ (r : w.Walked). w.in_block p second b r.known) e2 ∙ block_is second b yes'.known in
        (λ i. let made : w.Walked = record { first = earlier (earlier (unless (may_be Truth (value_is c b n i).base) C4 site) (value_is c b n i).first) (earlier (e2 i).first (e3 i).first); known = (e3 i).known } in made)
        ∙ (λ i. record {
          first = (sym (earlier_grouped (earlier (unless (may_be Truth test.base) C4 site) (first_of test.violations)) (first_of yes'.violations) (first_of no'.violations))
              ∙ behind _ (rule ++ test.violations ++ yes'.violations) no'.violations (behind _ (rule ++ test.violations) yes'.violations (behind _ rule test.violations (one (may_be Truth test.base) C4 site)))) i;
          known = no'.known;
        })
    statement_is (while_do c body site) b n =
        let test = a.in_value p c b n in
        let turn = a.in_block p body b test.known in
        let rule = a.unless (may_be Truth test.base) C4 site in
        let e2 = ap (λ (r : w.Judgement). w.in_block p body b r.known) (value_is c b n) ∙ block_is body b test.known in
        (λ i. let made : w.Walked = record { first = earlier (earlier (unless (may_be Truth (value_is c b n i).base) C4 site) (value_is c b n i).first) (e2 i).first; known = (e2 i).known } in made)
        ∙ (λ i. record { first = behind _ (rule ++ test.violations) turn.violations (behind _ rule test.violations (one (may_be Truth test.base) C4 site)) i; known = turn.known })
    statement_is (do_while body c site test) b n =
        let turn = a.in_block p body b n in
        let again = a.in_value p c (bound_behind body b) turn.known in
        let rule = a.unless (may_be Truth again.base) C4 test in
        let e2 = ap (λ (r : w.Walked). w.in_value p c (bound_behind body b) r.known) (block_is body b n) ∙ value_is c (bound_behind body b) turn.known in
        (λ i. let made : w.Walked = record { first = earlier (earlier (block_is body b n i).first (unless (may_be Truth (e2 i).base) C4 test)) (e2 i).first; known = (e2 i).known } in made)
        ∙ (λ i. record { first = behind _ (turn.violations ++ rule) again.violations (and_then_one _ turn.violations (may_be Truth again.base) C4 test refl) i; known = again.known })

    pub block_is : (ss : Block) (b : Names) (n : Known) → w.in_block p ss b n ≡ passed (a.in_block p ss b n)
    block_is no_stmts b n = refl
    block_is (stmt_and s rest) b n =
        let first = a.in_statement p s b n in
        let later = a.in_block p rest (bound_after s b) first.known in
        let second = ap (λ (r : w.Walked). w.in_block p rest (bound_after s b) r.known) (statement_is s b n) ∙ block_is rest (bound_after s b) first.known in
        (λ i. let made : w.Walked = record { first = earlier (statement_is s b n i).first (second i).first; known = (second i).known } in made)
        ∙ (λ i. record { first = joined first.violations later.violations i; known = later.known })
