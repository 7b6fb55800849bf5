-- Passes over the functions of a core.
use Rattle.std.proofs.Common.{◌≡◌, ℕ, zero, suc, ◌+◌, ◌<◌, ◌≤◌, Bool, true, false, List, [], ◌∷◌, map, length, set, get_or, Option, Some, refl, sym, ap, subst, ◌∙◌, ◌⊎◌, inl, inr, arith}
use Rattle.std.specs.Prelude.{slice_get, unwrap_or}
use Rattle.std.proofs.Math.Bool.{beq}
use Rattle.std.proofs.lemmas.Bool.{cases_lt}
use Rattle.std.proofs.lemmas.Option.{slice_get_within}
use Rattle.core_ir.specs.declared.tree.CoreFun.{CoreFun}
use Rattle.core_ir.specs.Outcome.{SameOutcome, SameOutside}
use Rattle.core_ir.specs.Terms.{FunTerm, CoreTerm}
use Rattle.core_ir.specs.View.{fun_term}
use Rattle.core_ir.specs.WellFormed.{IsWellFormed}
use Rattle.core_facts.specs.calls.Replaced.{replaced_at}
use Rattle.core_forms.proofs.inlined_bodies.Whole.{functions_may_be_inlined, passes_go_on}
use Rattle.unreached_functions.proofs.Outside.{outside_replaced}
use Rattle.core_forms.specs.inlined_bodies.Functions.{FunctionInlined, LeavesLarge, DoneBelow, ComeTo, OnlyLargeLeft}

no_place : (n : ℕ) → n < 0 → ⊥
no_place n h = omega arith

-- nothing is done at first
pub first_pass : (core : CoreTerm) → ComeTo core true 0
first_pass core = (λ place f h e t. absurd (no_place place h), λ q. absurd (cc))

pub second_pass : (core : CoreTerm) → DoneBelow core true (length core.functions) → ComeTo core false 0
second_pass core done = (λ place f h e t. absurd (no_place place h), λ q. done)

-- a function of the other kind is passed over
pub passed_over : (core : CoreTerm) (inlines : Bool) (n : ℕ) (f : FunTerm) → slice_get core.functions n ≡ Some f → (f.is_inline ≡ inlines → ⊥) → ComeTo core inlines n → ComeTo core inlines (suc n)
passed_over core inlines n f found other come = (λ place g h e t. go place g h e t (cases_lt place n), come.1)
  where
    go : (place : ℕ) (g : FunTerm) → place < suc n → slice_get core.functions place ≡ Some g → g.is_inline ≡ inlines → (place < n) ⊎ (n ≤ place) → LeavesLarge core g
    go place g h e t (inl p) = come.0 place g p e t
    go place g h e t (inr p) =
        let here : place ≡ n = omega (arith, h, p) in
        let own : g ≡ f = ap (λ o. unwrap_or o g) (sym e ∙ ap (slice_get core.functions) here ∙ found) in
        absurd (other (ap (λ (o : FunTerm). o.is_inline) (sym own) ∙ t))

-- both passes are through
pub all_done : (core : CoreTerm) → DoneBelow core true (length core.functions) → DoneBelow core false (length core.functions) → OnlyLargeLeft core
all_done core p q place f e = go f.is_inline refl
  where
    go : (b : Bool) → f.is_inline ≡ b → LeavesLarge core f
    go true t = p place f (slice_get_within core.functions place f e) e t
    go false t = q place f (slice_get_within core.functions place f e) e t

pub same_all : (a b c : CoreTerm) → SameOutcome a b → SameOutcome b c → SameOutcome a c
same_all a b c p q args caps = p args caps ∙ q args caps

-- inlining in one function changes nothing outside
pub outside_inlined : (a b : CoreTerm) (place : ℕ) → FunctionInlined a b place → SameOutside a b
outside_inlined a b place s = outside_replaced a b place s.function s.body s.found s.changed

-- ---- the function at a place

pub found_at : (fs : List CoreFun) (i : ℕ) (d : CoreFun) → i < length fs → slice_get (map fun_term fs) i ≡ Some (fun_term (get_or fs i d))
found_at [] i d h = absurd (omega arith)
found_at (f ∷ fs) zero d h = refl
found_at (f ∷ fs) (suc i) d h = found_at fs i d (omega (arith, h))

pub set_term : (fs : List CoreFun) (i : ℕ) (g : CoreFun) → map fun_term (set fs i g) ≡ replaced_at (map fun_term fs) i (fun_term g)
set_term [] i g = refl
set_term (f ∷ fs) zero g = refl
set_term (f ∷ fs) (suc i) g = ap (λ gs. fun_term f ∷ gs) (set_term fs i g)

-- a function in the place of itself
pub itself_there : (fs : List FunTerm) (i : ℕ) (f : FunTerm) → slice_get fs i ≡ Some f → fs ≡ replaced_at fs i f
itself_there [] i f e = refl
itself_there (g ∷ fs) zero f e = ap (λ h. h ∷ fs) (ap (λ o. unwrap_or o g) e)
itself_there (g ∷ fs) (suc i) f e = ap (λ hs. g ∷ hs) (itself_there fs i f e)

-- ---- a turn of a pass

pub record HasCome (start core : CoreTerm) (inlines : Bool) (place : ℕ) : Type 0 where
  pub outcome : IsWellFormed start → SameOutcome start core
  pub well : IsWellFormed start → IsWellFormed core
  pub come : IsWellFormed start → ComeTo start inlines 0 → ComeTo core inlines place

next : (n : ℕ) → suc n ≡ n + 1
next n = omega arith

pub function_turn : (start old new : CoreTerm) (inlines : Bool) (place : ℕ) (g : FunTerm) → HasCome start old inlines place → FunctionInlined old new place → slice_get old.functions place ≡ Some g → g.is_inline ≡ inlines → HasCome start new inlines (place + 1)
function_turn start old new inlines place g h step found e =
    let own : step.function.is_inline ≡ inlines = ap (λ (o : Option FunTerm). (unwrap_or o g).is_inline) (sym step.found ∙ found) ∙ e in
    record {
      outcome = λ w. same_all start old new (h.outcome w) (functions_may_be_inlined old new place step (h.well w)).0;
      well = λ w. (functions_may_be_inlined old new place step (h.well w)).1;
      come = λ w c. subst (ComeTo new inlines) (next place) (passes_go_on old new place inlines step (h.well w) own (h.come w c));
    }

pub function_passed : (start core : CoreTerm) (inlines : Bool) (place : ℕ) (g : FunTerm) → HasCome start core inlines place → slice_get core.functions place ≡ Some g → (g.is_inline ≡ inlines → ⊥) → HasCome start core inlines (place + 1)
function_passed start core inlines place g h found e =
    record {
      outcome = h.outcome;
      well = h.well;
      come = λ w c. subst (ComeTo core inlines) (next place) (passed_over core inlines place g found e (h.come w c));
    }

mapped_count : (fs : List CoreFun) → length (map fun_term fs) ≡ length fs
mapped_count [] = refl
mapped_count (f ∷ fs) = ap suc (mapped_count fs)

pub all_through : (core : CoreTerm) (fs : List CoreFun) → core.functions ≡ map fun_term fs → ComeTo core false (length fs) → OnlyLargeLeft core
all_through core fs e come =
    all_done core (come.1 refl) (subst (DoneBelow core false) (sym (mapped_count fs) ∙ ap length (sym e)) come.0)

-- the pass over the functions that are not inline may begin
pub goes_on : (core : CoreTerm) (fs : List CoreFun) → core.functions ≡ map fun_term fs → ComeTo core true (length fs) → ComeTo core false 0
goes_on core fs e come =
    second_pass core (subst (DoneBelow core true) (sym (mapped_count fs) ∙ ap length (sym e)) come.0)

pub alike : (a b : Bool) → beq a b ≡ true → a ≡ b
alike true true h = refl
alike false false h = refl
alike true false h = absurd (cc)
alike false true h = absurd (cc)

pub unlike : (a b : Bool) → beq a b ≡ false → a ≡ b → ⊥
unlike true true h e = absurd (cc)
unlike false false h e = absurd (cc)
unlike true false h e = absurd (cc)
unlike false true h e = absurd (cc)
