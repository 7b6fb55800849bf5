-- The only instance of a group, and a call of it.
use Rattle.std.proofs.Common.{◌≡◌, ℕ, zero, suc, ◌^◌, ◌<◌, ◌≤◌, Bool, true, false, ◌⊎◌, inl, inr, List, [], ◌∷◌, map, length, get_or, Option, Some, None, refl, sym, ap, subst, ◌∙◌, arith}
use Rattle.std.specs.Prelude.{slice_get, unwrap_or, nat_lt, if◌then◌else◌}
use Rattle.std.proofs.lemmas.Bool.{cases_lt}
use Rattle.sac_base.specs.declared.site.Site.{Site}
use Rattle.core_ir.specs.declared.tree.Var.{Var}
use Rattle.core_ir.specs.Outcome.{group_at}
use Rattle.core_ir.specs.Terms.{BlockTerm, RightTerm, LetTerm, FunTerm, CoreTerm, Bind}
use Rattle.core_forms.specs.inlining.Inlined.{inlined}
use Rattle.core_forms.specs.declared.inlined_bodies.growth.Growth.{Growth}
use Rattle.core_forms.specs.inlined_bodies.Inlining.{IsInstance, Fits, grown, BlockInlined, placed}
use Rattle.core_subst.specs.Names.{variable, variable_at, above_function}
use Rattle.core_facts.specs.calls.Replaced.{replaced_at}
use Rattle.core_forms.specs.inlined_bodies.Functions.{Anywhere, unchanged, FunctionInlined}
use Rattle.inline_calls.proofs.Turns.{unchanged_block}
use Rattle.inline_calls.proofs.Passes.{itself_there}
use Rattle.inline_calls.specs.Placed.{StandFor}
use Rattle.inline_calls.specs.Bindings.{CallInlined}

pub mapped_at : {A B : Type 0} (f : A → B) (xs : List A) (i : ℕ) (x : A) → slice_get xs i ≡ Some x → slice_get (map f xs) i ≡ Some (f x)
mapped_at f [] i x e = absurd (let q : ◌≡◌ {A = Option _} None (Some x) = e in cc)
mapped_at f (y ∷ ys) zero x e = ap (λ o. Some (f (unwrap_or o y))) e
mapped_at f (y ∷ ys) (suc i) x e = mapped_at f ys i x e

pub mapped_none : {A B : Type 0} (f : A → B) (xs : List A) (i : ℕ) → slice_get xs i ≡ None → slice_get (map f xs) i ≡ None
mapped_none f [] i e = refl
mapped_none f (y ∷ ys) zero e = absurd (let q : ◌≡◌ {A = Option _} (Some y) None = e in cc)
mapped_none f (y ∷ ys) (suc i) e = mapped_none f ys i e

pub one_item : (ps : List ℕ) (p : ℕ) → length ps ≡ 1 → p ≡ get_or ps 0 p → ps ≡ p ∷ []
one_item [] p l e = absurd (omega arith)
one_item (q ∷ []) p l e = ap (λ r. r ∷ []) (sym e)
one_item (q ∷ r ∷ ps) p l e = absurd (omega arith)

pub call_placed : (core : CoreTerm) (s t : Growth) (group place by : ℕ) (f : FunTerm) (ts xs : List Var) (site : Site) (lets : List LetTerm) → IsInstance core group place f → Fits s f → t ≡ grown s f → by ≡ s.above → StandFor by f ts site xs lets
    → CallInlined core s ts site group xs lets t
call_placed core s t group place by f ts xs site lets i fits g e stand rest new u d =
    subst (λ (y : BlockTerm). BlockInlined core Anywhere s (Bind ts site (RightTerm.Call group xs) rest) y u) (sym (stand new ∙ (λ k. inlined (e k) f ts site xs new)))
    (placed i fits tt (subst (λ (h : Growth). BlockInlined core Anywhere h rest new u) g d))

pub read_at : {A : Type 0} (xs : List A) (i : ℕ) (x : A) → i < length xs → x ≡ get_or xs i x → slice_get xs i ≡ Some x
read_at [] i x l e = absurd (omega arith)
read_at (y ∷ ys) zero x l e = ap Some (sym e)
read_at (y ∷ ys) (suc i) x l e = read_at ys i x (omega (arith, l)) e

pub is_instance : (core : CoreTerm) (group p : ℕ) (f : FunTerm) → group_at core group ≡ p ∷ [] → slice_get core.functions p ≡ Some f → f.is_inline ≡ true → (place : ℕ) × IsInstance core group place f
is_instance core group p f a e t = (p, record { alone = a; found = e; inlines = t })

pub no_instance : (core : CoreTerm) (group p : ℕ) (g : FunTerm) → group_at core group ≡ p ∷ [] → slice_get core.functions p ≡ Some g → g.is_inline ≡ false → (place : ℕ) (f : FunTerm) → IsInstance core group place f → ⊥
no_instance core group p g a e t place f i =
    let same : p ≡ place = ap (λ xs. get_or xs 0 0) (sym a ∙ i.alone) in
    let own : g ≡ f = ap (λ o. unwrap_or o g) (sym e ∙ ap (slice_get core.functions) same ∙ i.found) in
    absurd (let q = sym t ∙ ap (λ (h : FunTerm). h.is_inline) own ∙ i.inlines in cc)

-- ---- numbers of new variables

pub none_full : (n : ℕ) → variable_at n ≡ None → 2 ^ 32 ≤ n
none_full n e = go (nat_lt n (2 ^ 32)) refl (cases_lt n (2 ^ 32))
  where
    go : (b : Bool) → nat_lt n (2 ^ 32) ≡ b → (n < 2 ^ 32) ⊎ (2 ^ 32 ≤ n) → 2 ^ 32 ≤ n
    go b p (inr q) = q
    go true p (inl q) = absurd (let r : ◌≡◌ {A = Option Var} (Some (variable n)) None = (λ i. if sym p i then Some (variable n) else None) ∙ e in cc)
    go false p (inl q) = absurd (grind arith)

pub some_exact : (n : ℕ) (x : Var) → variable_at n ≡ Some x → x.0 ≡ n
some_exact n x e = go (nat_lt n (2 ^ 32)) refl
  where
    go : (b : Bool) → nat_lt n (2 ^ 32) ≡ b → x.0 ≡ n
    go true p = ap (λ (o : Option Var). (unwrap_or o x).0) (sym e ∙ (λ i. if p i then Some (variable n) else None))
    go false p = absurd (let r : ◌≡◌ {A = Option Var} None (Some x) = (λ i. if sym p i then Some (variable n) else None) ∙ e in cc)

-- ---- one function

pub function_stays : (core : CoreTerm) (place : ℕ) (f : FunTerm) → slice_get core.functions place ≡ Some f → 2 ^ 32 ≤ above_function f → FunctionInlined core core place
function_stays core place f e full =
    record { function = f; body = f.body; last = unchanged f; found = e; inlined = unchanged_block core (unchanged f) full f.body; changed = λ i. record core { functions = itself_there core.functions place f e i } }

pub function_put : (core : CoreTerm) (fs : List FunTerm) (place : ℕ) (f : FunTerm) (body : BlockTerm) (s t : Growth) → slice_get core.functions place ≡ Some f → s ≡ unchanged f → BlockInlined core Anywhere s f.body body t → fs ≡ replaced_at core.functions place (record f { body = body })
    → FunctionInlined core (record core { functions = fs }) place
function_put core fs place f body s t e g d p =
    record { function = f; body = body; last = t; found = e; inlined = subst (λ (h : Growth). BlockInlined core Anywhere h f.body body t) g d; changed = λ i. record core { functions = p i } }
