-- Right sides as the machine does them.
use Rattle.std.proofs.Common.{◌≡◌, ℕ, Bool, true, false, List, [], ◌∷◌, Result, Ok, Err, refl, sym, subst}
use Rattle.sac_base.specs.declared.faults.Fault.{Fault}
use Rattle.sac_base.specs.declared.faults.FaultKind.{FaultKind}
use Rattle.sac_base.specs.declared.op.Op.{Op}
use Rattle.sac_base.specs.declared.site.Site.{Site}
use Rattle.sac_base.specs.declared.types.ArrayType.{ArrayType}
use Rattle.sac_base.specs.Arrays.{ArrayValue}
use Rattle.sac_base.specs.Operators.{unary, binary}
use Rattle.sac_base.specs.Outcomes.{Ends, at_site}
use Rattle.sac_base.specs.Parts.{dim, literal, reshape, select, shape_vector, replace}
use Rattle.core_ir.specs.declared.tree.Var.{Var}
use Rattle.core_ir.specs.Meaning.{checked}
use Rattle.core_ir.specs.Terms.{PlainTerm}
use Rattle.run_store.specs.declared.store.Store.{Store}
use Rattle.counted_code.specs.Machine.{Values, DoesCalls, right_does, plain_does}
use Rattle.counted_code.specs.Terms.{CodeRightTerm, PlainCode, IfCode, LoopCode, CallCode, WithCode, PartedCode}
use Rattle.counted_code.specs.Values.{Heap, Value, Ended, Done, Failed, Small, give, go_on, then_go, pure_end, read, is_small, place_as, place_value}
use Rattle.sac_base.specs.declared.stop.Stop.{Stop}
use Rattle.sac_base.specs.declared.stop.Stop.TheVariants.{Faulted, Memory}
use Rattle.run_store.specs.Stands.{Stands, Placed, TellsPlaced}
use Rattle.run_values.specs.declared.value.RunValue.{RunValue}
use Rattle.run_values.specs.Shown.{value_of}
use Rattle.run_plain.specs.Reads.{arrays_of, TellsEnd, TellsPlain, TellsChecked, IsPlain}

-- ---- what is placed leaves the phases as they were

as_end : (v : RunValue) (h : Store) (small : Bool) (a : ArrayValue) (m : Heap) → Placed v h (place_as small a m) → TellsEnd (Ok v) h m.phases (place_as small a m)
as_end v h true a m p = (p.0, p.1, refl)
as_end v h false a m p = (p.0, p.1, refl)

pub placed_end : (result : Result RunValue Stop) (h : Store) (m : Heap) (meant : Ends ArrayValue) → TellsPlaced result h m meant → TellsEnd result h m.phases (then_go (pure_end meant) place_value m)
placed_end (Ok v) h m (Ok a) p = as_end v h (is_small a.shape) a m p
placed_end (Ok v) h m (Err g) p = absurd p
placed_end (Err (Faulted f)) h m (Ok a) p = absurd p
placed_end (Err (Faulted f)) h m (Err g) p = (p, refl)
placed_end (Err Memory) h m meant p = tt

checked_end : (result : Result RunValue Stop) (v : RunValue) (h : Store) (m : Heap) (w : Value) (meant : Ends ArrayValue) → value_of v ≡ w → Stands h m → TellsChecked result v meant → TellsEnd result h m.phases (then_go (pure_end meant) (λ a. give w) m)
checked_end (Ok u) v h m w (Ok a) is stands p = (subst (λ (z : RunValue). value_of z ≡ w) (sym p) is, stands, refl)
checked_end (Ok u) v h m w (Err g) is stands p = absurd p
checked_end (Err (Faulted f)) v h m w (Ok a) is stands p = absurd p
checked_end (Err (Faulted f)) v h m w (Err g) is stands p = (p, refl)
checked_end (Err Memory) v h m w meant is stands p = absurd p

-- ---- right sides by what their operands are

module _ (result : Result RunValue Stop) (h : Store) (m : Heap) (s : Site) (e : Values) where
  pub const_plain : (a : ArrayValue) → TellsPlaced result h m (Ok a) → TellsPlain (PlainCode (PlainTerm.Const a)) s e result h m
  const_plain a p = placed_end result h m (Ok a) p

  pub literal_plain : (xs : List Var) → TellsPlaced result h m (at_site s (literal (arrays_of m e xs))) → TellsPlain (PlainCode (PlainTerm.Literal xs)) s e result h m
  literal_plain xs p = placed_end result h m (at_site s (literal (arrays_of m e xs))) p

  pub shape_plain : (x : Var) (v : Value) → v ≡ e x → TellsPlaced result h m (Ok (shape_vector (read m v))) → TellsPlain (PlainCode (PlainTerm.ShapeOf x)) s e result h m
  shape_plain x v is p = placed_end result h m (Ok (shape_vector (read m (e x)))) (subst (λ (w : Value). TellsPlaced result h m (Ok (shape_vector (read m w)))) is p)

  pub unary_plain : (op : Op) (x : Var) (v : Value) → v ≡ e x → TellsPlaced result h m (Ok (unary op (read m v))) → TellsPlain (PlainCode (PlainTerm.Unary op x)) s e result h m
  unary_plain op x v is p = placed_end result h m (Ok (unary op (read m (e x)))) (subst (λ (w : Value). TellsPlaced result h m (Ok (unary op (read m w)))) is p)

  -- an operation of two values, and one of three
  module _ (does : ArrayValue → ArrayValue → Result ArrayValue FaultKind) (x y : Var) (v w : Value) (first : v ≡ e x) (second : w ≡ e y) where
    pub two_values : TellsPlaced result h m (at_site s (does (read m v) (read m w))) → TellsEnd result h m.phases (then_go (pure_end (at_site s (does (read m (e x)) (read m (e y))))) place_value m)
    two_values p = placed_end result h m (at_site s (does (read m (e x)) (read m (e y)))) (subst (λ (u : Value). TellsPlaced result h m (at_site s (does (read m (e x)) (read m u)))) second (subst (λ (u : Value). TellsPlaced result h m (at_site s (does (read m u) (read m w)))) first p))

  pub binary_plain : (op : Op) (x y : Var) (v w : Value) → v ≡ e x → w ≡ e y → TellsPlaced result h m (at_site s (binary op (read m v) (read m w))) → TellsPlain (PlainCode (PlainTerm.Binary op x y)) s e result h m
  binary_plain op x y v w p q told = two_values (binary op) x y v w p q told

  pub reshape_plain : (x y : Var) (v w : Value) → v ≡ e x → w ≡ e y → TellsPlaced result h m (at_site s (reshape (read m v) (read m w))) → TellsPlain (PlainCode (PlainTerm.Reshape x y)) s e result h m
  reshape_plain x y v w p q told = two_values reshape x y v w p q told

  pub select_plain : (x y : Var) (v w : Value) → v ≡ e x → w ≡ e y → TellsPlaced result h m (at_site s (select (read m v) (read m w))) → TellsPlain (PlainCode (PlainTerm.Select x y)) s e result h m
  select_plain x y v w p q told = two_values select x y v w p q told

  pub replace_plain : (x y z : Var) (u v w : Value) → u ≡ e x → v ≡ e y → w ≡ e z → TellsPlaced result h m (at_site s (replace (read m u) (read m v) (read m w))) → TellsPlain (PlainCode (PlainTerm.Replace x y z)) s e result h m
  replace_plain x y z u v w p q r told = two_values (replace (read m (e x))) y z v w q r (subst (λ (t : Value). TellsPlaced result h m (at_site s (replace (read m t) (read m v) (read m w)))) p told)

  pub check_plain : (x : Var) (t : ArrayType) (v : RunValue) → value_of v ≡ e x → Stands h m → TellsChecked result v (at_site s (checked t (read m (value_of v)))) → TellsPlain (PlainCode (PlainTerm.Check x t)) s e result h m
  check_plain x t v is stands p = checked_end result v h m (e x) (at_site s (checked t (read m (e x)))) is stands (subst (λ (w : Value). TellsChecked result v (at_site s (checked t (read m w)))) is p)

pub dim_plain : (h : Store) (m : Heap) (s : Site) (e : Values) (x : Var) (v : Value) (d : RunValue) → v ≡ e x → Stands h m → value_of d ≡ Small (dim (read m v)) → TellsPlain (PlainCode (PlainTerm.Dim x)) s e (Ok d) h m
dim_plain h m s e x v d is stands p = (subst (λ (w : Value). value_of d ≡ Small (dim (read m w))) is p, stands, refl)

-- ---- for callers

-- what holds of a value with the phases as they were, of a fault with them, and of want of memory, holds of a right side that has no block and no call
module _ (P : Result RunValue Stop → Ended (List Value) → Type 0) (h : Store) (m : Heap)
    (there : (v : RunValue) (k : Heap) → Stands h k → k.phases ≡ m.phases → P (Ok v) (Done (value_of v ∷ []) k))
    (faulted : (f : Fault) → P (Err (Faulted f)) (Failed f m.phases))
    (wanting : (end : Ended (List Value)) → P (Err Memory) end) where
  end_told : (result : Result RunValue Stop) (end : Ended Value) → TellsEnd result h m.phases end → P result (go_on end (λ w. give (w ∷ [])))
  end_told (Ok v) (Done w k) t = subst (λ (u : Value). P (Ok v) (Done (u ∷ []) k)) t.0 (there v k t.1 t.2)
  end_told (Ok v) (Failed g after) t = absurd t
  end_told (Err (Faulted f)) (Done w k) t = absurd t
  end_told (Err (Faulted f)) (Failed g after) t = subst (λ (i : Fault). P (Err (Faulted f)) (Failed i after)) t.0 (subst (λ (n : List ℕ). P (Err (Faulted f)) (Failed f n)) (sym t.1) (faulted f))
  end_told (Err Memory) end t = wanting (go_on end (λ w. give (w ∷ [])))

  pub right_told : (calls : DoesCalls) (turns : ℕ) (r : CodeRightTerm) (s : Site) (e : Values) (result : Result RunValue Stop) → IsPlain r → TellsPlain r s e result h m → P result (right_does calls turns r s e m)
  right_told calls turns (PlainCode p) s e result plain t = end_told result (plain_does p s e m) t
  right_told calls turns (IfCode x a b) s e result plain t = absurd plain
  right_told calls turns (LoopCode first start params test body site) s e result plain t = absurd plain
  right_told calls turns (CallCode group xs) s e result plain t = absurd plain
  right_told calls turns (WithCode op gens) s e result plain t = absurd plain
  right_told calls turns (PartedCode frame base cell op parts reuse) s e result plain t = absurd plain
