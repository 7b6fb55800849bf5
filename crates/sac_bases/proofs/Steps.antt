-- One step of the loops that gather bases.
use Rattle.std.proofs.Common.{◌≡◌, ℕ, zero, suc, ◌+◌, ◌<◌, List, [], ◌∷◌, ◌++◌, length, get_or, drop, Bool, true, false, refl, sym, ap, ◌∙◌, arith, Option, Some, Vec, Global}
use Rattle.std.proofs.lemmas.List.{drop_more, drop_all}
use Rattle.sac_base.specs.declared.base.Base.{Base}
use Rattle.sac_base.specs.declared.base.Base.TheVariants.{Int}
use Rattle.sac_base.specs.declared.name.Name.{Name}
use Rattle.sac_base.specs.declared.site.Site.{Site}
use Rattle.sac_ast.specs.declared.Bound.{Bound}
use Rattle.sac_ast.specs.declared.Operation.{Operation}
use Rattle.sac_ast.specs.declared.Generator.{Generator}
use Rattle.sac_ast.specs.declared.Statement.{Statement}
use Rattle.sac_ast.specs.declared.Target.{Target}
use Rattle.sac_ast.specs.declared.Expression.{Expression, Expression-F, out-Expression, roll-Expression, roll-out-Expression}
use Rattle.sac_ast.specs.declared.Expression.TheVariants.{Call, rolls-Call}
use Rattle.sac_ast.specs.Tree
use Rattle.sac_ast.specs.View.{expr, generator, bound, maybe}
use Rattle.sac_ast.specs.Bases.{Bases, CallBases, base, bound_base, maybe_base, are_int, generator_fits, with_base_of, cell_base, operation_base, where_holds, with_bases, in_expr, in_stmt}
use Rattle.sac_ast.proofs.Views.{expression_opened, expression_layer, generator_is}
use Rattle.sac_bases.specs.declared.base.Given.{Given}
use Rattle.sac_bases.specs.Generators.{one_given, all_given, first_cell, fitting}
use Rattle.sac_bases.specs.Lookup.{base_at}

-- ---- the base at a place

at_next : (bs : List (Option Base)) (k : ℕ) → base_at (drop k bs) 0 ≡ base_at bs k
at_next bs zero = refl
at_next [] (suc k) = refl
at_next (b ∷ bs) (suc k) = at_next bs k

-- ---- targets

with_cons : (target : Target) (targets : List Target) (bs : List (Option Base)) (known : Bases)
    → with_bases (target ∷ targets) bs known ≡ with_bases targets (drop 1 bs) (known ++ record { name = target.name; base = base_at bs 0 } ∷ [])
with_cons target targets [] known = refl
with_cons target targets (b ∷ bs) known = refl

drop_next : {A : Type 0} (xs : List A) (k : ℕ) → drop 1 (drop k xs) ≡ drop (k + 1) xs
drop_next [] zero = refl
drop_next [] (suc k) = sym (drop_all (suc k + 1) [] (omega arith))
drop_next (x ∷ xs) zero = refl
drop_next (x ∷ xs) (suc k) = let same : suc (k + 1) ≡ suc k + 1 = omega arith in drop_next xs k ∙ ap (λ n. drop n (x ∷ xs)) same

pub targets_step : (targets : List Target) (bs : List (Option Base)) (known : Bases) (k : ℕ) (d : Target) → k < length targets
    → with_bases (drop (k + 1) targets) (drop (k + 1) bs) (known ++ record { name = (get_or targets k d).name; base = base_at bs k } ∷ []) ≡ with_bases (drop k targets) (drop k bs) known
targets_step targets bs known k d h = sym (
    ap (λ ts. with_bases ts (drop k bs) known) (drop_more targets k d h)
    ∙ with_cons (get_or targets k d) (drop (k + 1) targets) (drop k bs) known
    ∙ ap (λ b. with_bases (drop (k + 1) targets) (drop 1 (drop k bs)) (known ++ record { name = (get_or targets k d).name; base = b } ∷ [])) (at_next bs k)
    ∙ ap (λ rest. with_bases (drop (k + 1) targets) rest (known ++ record { name = (get_or targets k d).name; base = base_at bs k } ∷ [])) (drop_next bs k))

-- ---- a generator from its parts

pub given_from : (calls : CallBases) (known : Bases) (g : Generator) (l u s w b : Option Base)
    → l ≡ bound_base calls known (bound g.lower) → u ≡ bound_base calls known (bound g.upper)
    → s ≡ maybe_base calls known (maybe g.step) (Some Int) → w ≡ maybe_base calls known (maybe g.width) (Some Int) → b ≡ base calls known (expr g.cell)
    → record { are_int = are_int l u s w; cell = b } ≡ one_given calls known (generator g)
given_from calls known g l u s w b el eu es ew eb = sym (
    ap (λ tree. one_given calls known tree) (generator_is g)
    ∙ λ i. record { are_int = are_int (sym el i) (sym eu i) (sym es i) (sym ew i); cell = sym eb i })

-- ---- a with-loop from what its generators have

with_given : (calls : CallBases) (known : Bases) (gs : Tree.Gens) (wanted : Option Base) → fitting wanted (all_given calls known gs) ≡ with_base_of calls known gs wanted
with_given calls known Tree.no_gens wanted = refl
with_given calls known (Tree.gen_and (Tree.gen lower lower_closed index upper upper_closed step width body cell site) gs) wanted =
    ap (where_holds (generator_fits calls known (Tree.gen lower lower_closed index upper upper_closed step width body cell site) wanted)) (with_given calls known gs wanted)

first_given : (calls : CallBases) (known : Bases) (gs : Tree.Gens) → first_cell (all_given calls known gs) ≡ cell_base calls known gs
first_given calls known Tree.no_gens = refl
first_given calls known (Tree.gen_and (Tree.gen lower lower_closed index upper upper_closed step width body cell site) gs) = refl

pub with_from : (calls : CallBases) (known : Bases) (gs : Tree.Gens) (op : Tree.OperationTree) (given : List Given) (wanted : Option Base)
    → given ≡ all_given calls known gs → wanted ≡ operation_base calls known op (first_cell given)
    → fitting wanted given ≡ with_base_of calls known gs (operation_base calls known op (cell_base calls known gs))
with_from calls known gs op given wanted e w =
    ap (fitting wanted) e
    ∙ with_given calls known gs wanted
    ∙ ap (with_base_of calls known gs) (w ∙ ap (operation_base calls known op) (ap first_cell e ∙ first_given calls known gs))

-- ---- an assignment whose right side is no call

abbrev is_call : Tree.Expr → Bool
is_call (Tree.call name es site) = true
is_call _ = false

plain : (calls : CallBases) (targets : List Target) (e : Tree.Expr) (known : Bases) → is_call e ≡ false
    → in_stmt calls (Tree.assign targets e) known ≡ with_bases targets (base calls (in_expr calls e known) e ∷ []) (in_expr calls e known)
plain calls targets (Tree.number n site) known h = refl
plain calls targets (Tree.truth b site) known h = refl
plain calls targets (Tree.variable x site) known h = refl
plain calls targets (Tree.literal es site) known h = refl
plain calls targets (Tree.unary op e site) known h = refl
plain calls targets (Tree.binary op e f site) known h = refl
plain calls targets (Tree.choice c e f site) known h = refl
plain calls targets (Tree.select e f site) known h = refl
plain calls targets (Tree.call x es site) known h = cc
plain calls targets (Tree.builtin b es site) known h = refl
plain calls targets (Tree.with_loop gs op site) known h = refl

not_call : (e : Expression) → ((name : Name) (es : Vec Expression Global) (site : Site) → e ≡ Call name es site → ⊥) → is_call (expr e) ≡ false
not_call e h = by_layer (out-Expression e) refl
  where
    by_layer : (l : Expression-F Bound Expression Operation Statement Generator) → out-Expression e ≡ l → is_call (expr e) ≡ false
    by_layer (Expression-F.Call name es site) s = absurd (h name es site (sym (roll-out-Expression e) ∙ ap roll-Expression s ∙ rolls-Call name es site))
    by_layer l s = ap is_call (expression_opened e ∙ ap expression_layer s)

pub assign_plain : (calls : CallBases) (targets : List Target) (e : Expression) (known : Bases) → ((name : Name) (es : Vec Expression Global) (site : Site) → e ≡ Call name es site → ⊥)
    → in_stmt calls (Tree.assign targets (expr e)) known ≡ with_bases targets (base calls (in_expr calls (expr e) known) (expr e) ∷ []) (in_expr calls (expr e) known)
assign_plain calls targets e known h = plain calls targets (expr e) known (not_call e h)
