-- Bindings before a block.
use Rattle.std.proofs.Common.{◌≡◌, ℕ, ◌+◌, ◌≤◌, false, List, [], ◌∷◌, ◌++◌, refl, sym, ◌∙◌, append_assoc, arith}
use Rattle.std.specs.Prelude.{zip}
use Rattle.sac_base.specs.declared.base.Base.{Base}
use Rattle.core_ir.specs.declared.tree.Var.{Var}
use Rattle.core_ir.specs.Binders.{is_in, bound_in, bound_in_right}
use Rattle.core_ir.specs.Scopes.{AllIn, Scoped}
use Rattle.core_ir.specs.Terms.{BlockTerm, CoreTerm, LetTerm, Gives, chain}
use Rattle.core_ir.specs.WellFormed.{Bases, base_of, HasBases, BlockBases, Distinct}
use Rattle.core_ir.proofs.Variables.{in_neither}
use Rattle.core_facts.specs.calls.Nests.{CallsAll}
use Rattle.core_forms.specs.edits.Within.{AreWithin}
use Rattle.core_loops.specs.Loops.{weight, weight_right, parted_in, parted_in_right}
use Rattle.core_forms.proofs.inlined_bodies.Names.{Names, both, same, distinct_right}
use Rattle.core_forms.proofs.norm.Scopes.{Away, away_right, in_right}
use Rattle.core_forms.proofs.norm.Tables.{zip_keeps}
use Rattle.core_forms.proofs.fold.Lists.{away_below}

-- ---- what is bound

pub chain_bound : (ls : List LetTerm) (ys : List Var) (x : BlockTerm) → bound_in (chain ls x) ≡ bound_in (chain ls (Gives ys)) ++ bound_in x
chain_bound [] ys x = refl
chain_bound (l ∷ ls) ys x =
    (λ i. l.targets ++ (bound_in_right l.right ++ chain_bound ls ys x i))
    ∙ (λ i. l.targets ++ sym (append_assoc (bound_in_right l.right) (bound_in (chain ls (Gives ys))) (bound_in x)) i)
    ∙ sym (append_assoc l.targets (bound_in_right l.right ++ bound_in (chain ls (Gives ys))) (bound_in x))

pub chain_names : (low high : ℕ) (ls : List LetTerm) (x y : BlockTerm) → low ≤ high → Names (bound_in x) (bound_in y) low high → Names (bound_in (chain ls x)) (bound_in (chain ls y)) low high
chain_names low high [] x y rise n = n
chain_names low high (l ∷ ls) x y rise n =
    let rest = chain_names low high ls x y rise n in
    both l.targets (bound_in_right l.right ++ bound_in (chain ls x)) l.targets (bound_in_right l.right ++ bound_in (chain ls y)) low low high (omega arith) rise (same l.targets low low)
    (both (bound_in_right l.right) (bound_in (chain ls x)) (bound_in_right l.right) (bound_in (chain ls y)) low low high (omega arith) rise (same (bound_in_right l.right) low low) rest)

-- ---- numbers

plus : (a b c d : ℕ) → b ≡ c + d → a + b ≡ (a + c) + d
plus a b c d e = omega (arith, e)

pub chain_weight : (ls : List LetTerm) (ys : List Var) (x : BlockTerm) → weight (chain ls x) ≡ weight (chain ls (Gives ys)) + weight x
chain_weight [] ys x = omega arith
chain_weight (l ∷ ls) ys x = plus (weight_right l.right) (weight (chain ls x)) (weight (chain ls (Gives ys))) (weight x) (chain_weight ls ys x)

pub chain_parted : (ls : List LetTerm) (ys : List Var) (x : BlockTerm) → parted_in (chain ls x) ≡ parted_in (chain ls (Gives ys)) + parted_in x
chain_parted [] ys x = omega arith
chain_parted (l ∷ ls) ys x = plus (parted_in_right l.right) (parted_in (chain ls x)) (parted_in (chain ls (Gives ys))) (parted_in x) (chain_parted ls ys x)

-- ---- calls and uses

pub chain_calls : (P : ℕ → Type 0) (ls : List LetTerm) (x y : BlockTerm) → CallsAll P (chain ls x) → (CallsAll P x → CallsAll P y) → CallsAll P (chain ls y)
chain_calls P [] x y h k = k h
chain_calls P (l ∷ ls) x y h k = (h.0, chain_calls P ls x y h.1 k)

-- ---- scopes

-- the scope behind bindings
abbrev pub below : List LetTerm → List Var → List Var
below [] scope = scope
below (l ∷ ls) scope = below ls (l.targets ++ scope)

pub within_chain : (ls : List LetTerm) (scope wider : List Var) → AreWithin scope wider → AreWithin scope (below ls wider)
within_chain [] scope wider k = k
within_chain (l ∷ ls) scope wider k = within_chain ls scope (l.targets ++ wider) (λ y h. in_right y l.targets wider (k y h))

-- what the last of the bindings gives is in scope behind them
pub given_behind : (ls : List LetTerm) (ys scope : List Var) → Scoped scope (chain ls (Gives ys)) → AllIn ys (below ls scope)
given_behind [] ys scope h = h
given_behind (l ∷ ls) ys scope h = given_behind ls ys (l.targets ++ scope) h.2

pub chain_scoped : (ls : List LetTerm) (ys scope : List Var) (x : BlockTerm) → Scoped scope (chain ls (Gives ys)) → Scoped (below ls scope) x → Scoped scope (chain ls x)
chain_scoped [] ys scope x h k = k
chain_scoped (l ∷ ls) ys scope x h k = (h.0, h.1, chain_scoped ls ys (l.targets ++ scope) x h.2 k)

pub away_chain : (ls : List LetTerm) (x : BlockTerm) (wider : List Var) → Distinct (bound_in (chain ls x)) → Away (bound_in (chain ls x)) wider → Away (bound_in x) (below ls wider)
away_chain [] x wider d w = w
away_chain (l ∷ ls) x wider d w =
    let more = bound_in_right l.right ++ bound_in (chain ls x) in
    away_chain ls x (l.targets ++ wider) (distinct_right (bound_in_right l.right) (bound_in (chain ls x)) (distinct_right l.targets more d))
    (away_right (bound_in_right l.right) (bound_in (chain ls x)) (l.targets ++ wider) (away_below l.targets more wider d w))

-- ---- bases

pub record Behind (core : CoreTerm) (ls : List LetTerm) (ys : List Var) (us : List Base) (g : Bases) : Type 0 where
  pub bases : Bases
  pub has : HasBases bases ys us
  pub back : (x : BlockTerm) (ts : List Base) → BlockBases core bases x ts → BlockBases core g (chain ls x) ts
  pub same : (y : Var) → is_in y (bound_in (chain ls (Gives ys))) ≡ false → base_of bases y ≡ base_of g y

-- the bases behind bindings
pub behind : (core : CoreTerm) (ls : List LetTerm) (ys : List Var) (us : List Base) (g : Bases) → BlockBases core g (chain ls (Gives ys)) us → Behind core ls ys us g
behind core [] ys us g d = record { bases = g; has = d; back = λ x ts h. h; same = λ y h. refl }
behind core (l ∷ ls) ys us g d =
    let rest = behind core ls ys us (zip l.targets d.0 ++ g) d.1.2 in
    record {
      bases = rest.bases;
      has = rest.has;
      back = λ x ts h. (d.0, (d.1.0, d.1.1, rest.back x ts h));
      same = λ y h.
          let n = in_neither y l.targets (bound_in_right l.right ++ bound_in (chain ls (Gives ys))) h in
          rest.same y (in_neither y (bound_in_right l.right) (bound_in (chain ls (Gives ys))) n.1).1 ∙ zip_keeps l.targets d.0 g y n.0;
    }
