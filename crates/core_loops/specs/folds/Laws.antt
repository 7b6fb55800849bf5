-- The statements of the laws.
use Rattle.std.specs.Prelude.{◌≡◌, ℕ, List, [], ◌∷◌, ◌++◌, ℤ, true, Ok}
use Rattle.std.specs.List.{list_any}
use Rattle.core_ir.specs.declared.tree.Var.{Var}
use Rattle.core_ir.specs.Known.{Known, Holds}
use Rattle.core_ir.specs.Renaming.{Link, Agree, Renamed}
use Rattle.core_ir.specs.Terms.{BlockTerm, PartsTerm, PartHead, LetTerm, Gives, Bind, Plain, Parted, Select, Copy, chain}
use Rattle.core_ir.specs.Uses.{Avoids, AvoidsEach, targets_of}
use Rattle.sac_base.specs.declared.base.Base.{Base}
use Rattle.sac_base.specs.declared.base.Base.TheVariants.{Int}
use Rattle.sac_base.specs.declared.grid.Grid1.{Grid1}
use Rattle.sac_base.specs.declared.site.Site.{Site}
use Rattle.sac_base.specs.Arrays.{ArrayValue, scalar, vector}
use Rattle.sac_base.specs.Grids.{has_vector}
use Rattle.sac_base.specs.Parts.{select}
use Rattle.core_ir.specs.declared.tree.PartedOp.{PartedOp}
use Rattle.core_ir.specs.Meaning.{Env, CallMeaning, Cells, bind, first, cell_at, parted_value, run, cells}
use Rattle.core_loops.specs.folds.Cells.{IsBox, HasCells, MakesArray, HeldBy, PassedIn, PiecesOf}

-- a parted genarray or modarray whose cells are scalars and never fault has a value, and a selection from it at an index of the frame is the cell
-- there
abbrev pub CellsAreSelected : Type 0
CellsAreSelected =
    (frame : List Grid1) (base : Base) (op : PartedOp) (parts : List Cells) (s : Site) (e : Env) (at : List ℤ → ℤ) → IsBox frame → MakesArray op →
    HasCells frame base parts at →
    (a : ArrayValue) × ((parted_value frame base [] op parts s e ≡ Ok a) ×
    ((v : List ℤ) → has_vector frame v ≡ true → select a (vector Int v) ≡ Ok (scalar base (at v))))

-- where the binding of a producer was passed on the way, a selection from it at an index in its frame, inside a consumer, is the bindings of the part
-- that holds the index, with other variables
abbrev pub SelectionsAreCells : Type 0
SelectionsAreCells =
    (call : CallMeaning) (turns : ℕ) (k : Known) (f : Env) (frame : List Grid1) (base : Base) (op : PartedOp) (parts : PartsTerm) (at : List ℤ → ℤ)
    (h : PartHead) (body : BlockTerm) (link : Link) (p i t j z : Var) (s0 s s1 s2 : Site) (ls : List LetTerm) (rest : BlockTerm) (v : List ℤ) →
    Holds call turns k f → PassedIn k.passed (record { targets = p ∷ []; site = s0; right = Parted frame base [] op parts }) → IsBox frame →
    MakesArray op → HasCells frame base (cells call turns parts f) at → f i ≡ vector Int v → has_vector frame v ≡ true →
    HeldBy (cells call turns parts f) v (record { grid = h.grid; site = h.site; cell = λ u. first (run call turns body (bind f h.index (vector Int u))) }) →
    Renamed link body (chain ls (Gives (z ∷ []))) → Agree link (bind f h.index (vector Int v)) (bind f j (vector Int v)) →
    AvoidsEach (targets_of ls) rest → Avoids j rest →
    run call turns (Bind (t ∷ []) s (Plain (Select p i)) rest) f ≡
    run call turns (Bind (j ∷ []) s1 (Plain (Copy i)) (chain ls (Bind (t ∷ []) s2 (Plain (Copy z)) rest))) f

-- a part may be cut into pieces with its site and its cells that together have its indices
abbrev pub PartsMayBeCut : Type 0
PartsMayBeCut =
    (form : ArrayValue) (p : Cells) (cs before after : List Cells) (v : List ℤ) → PiecesOf p cs v →
    list_any (λ (c : Cells). has_vector c.grid v) cs ≡ has_vector p.grid v →
    cell_at form (before ++ (p ∷ after)) v ≡ cell_at form (before ++ (cs ++ after)) v
