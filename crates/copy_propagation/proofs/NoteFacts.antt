-- The sources that notes say, as the table below keeps them.
use Rattle.std.proofs.Common.{◌≡◌, ℕ, zero, suc, ◌-◌, Bool, true, false, cond, eqb, List, [], ◌∷◌, map, length, Option, refl, ap, ◌∙◌, sym}
use Rattle.std.specs.Prelude.{drop, unwrap_or}
use Rattle.std.proofs.lemmas.Bool.{eqb-true}
use Rattle.core_ir.specs.declared.tree.Var.{Var}
use Rattle.fact_table.specs.scoped_table.Notes as scoped
use Rattle.fact_table.specs.scoped_table.Notes.{noted}
use Rattle.copy_propagation.specs.Table.{source_in, source_note}

same_var : (x y : Var) → x.0 ≡ y.0 → x ≡ y
same_var x y p = λ i. record { 0 = p i }

chosen : (same : Bool) (x y : Var) (value rest : Option Var) (source : Var) → eqb x.0 y.0 ≡ same → unwrap_or rest y ≡ source
    → unwrap_or (cond same value rest) y ≡ cond same (unwrap_or value x) source
chosen true x y value rest source e p = ap (unwrap_or value) (same_var y x (sym (eqb-true x.0 y.0 e)))
chosen false x y value rest source e p = p

-- the latest note of a variable says its source
pub found : (ns : List (scoped.Note Var)) (x : Var) → unwrap_or (noted ns x) x ≡ source_in (map source_note ns) x
found [] x = refl
found (n ∷ ns) x = chosen (eqb n.variable.0 x.0) n.variable x n.value (noted ns x) (source_in (map source_note ns) x) refl (found ns x)

pub count : (ns : List (scoped.Note Var)) → length ns ≡ length (map source_note ns)
count [] = refl
count (n ∷ ns) = ap suc (count ns)

dropped : (k : ℕ) (ns : List (scoped.Note Var)) → map source_note (drop k ns) ≡ drop k (map source_note ns)
dropped zero ns = refl
dropped (suc k) [] = refl
dropped (suc k) (n ∷ ns) = dropped k ns

pub undone : (mark : ℕ) (old : List (scoped.Note Var)) → map source_note (drop (length old - mark) old) ≡ drop (length (map source_note old) - mark) (map source_note old)
undone mark old = dropped (length old - mark) old ∙ ap (λ n. drop (n - mark) (map source_note old)) (count old)
