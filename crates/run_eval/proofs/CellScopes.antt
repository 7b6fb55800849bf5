-- A cell in a scope of its own.
use Rattle.std.proofs.Common.{◌≡◌, ◌∷◌, sym, ap, ◌∙◌, subst, Result, Ok, Err}
use Rattle.std.specs.Prelude.{IfOk, OnOk}
use Rattle.sac_base.specs.declared.form.Form.{Form}
use Rattle.sac_base.specs.declared.site.Site.{Site}
use Rattle.counted_code.specs.Values.{Heap, Value, Ended, Doing, apart, go_on, then_go}
use Rattle.sac_base.specs.declared.stop.Stop.{Stop}
use Rattle.run_store.specs.Stands.{Stands}
use Rattle.run_values.specs.declared.frames.Frames.{Frames}
use Rattle.run_values.specs.declared.value.RunValue.{RunValue}
use Rattle.run_values.specs.Scopes.{current, outer}
use Rattle.run_loops.specs.declared.state.State.{State}
use Rattle.run_loops.specs.Running.{EndsScope, IsValue, SameScopes, Told, formed}
use Rattle.run_eval.proofs.CellTold.{apart_told}
use Rattle.run_store.proofs.Targets.{phases_stand}
use Rattle.phase_count.specs.Tallies.{Counts}

pub scopes_after : (f g h : Frames) → SameScopes f g → SameScopes g h → SameScopes f h
scopes_after f g h s t = (t.0 ∙ s.0, t.1 ∙ s.1)

pub scopes_join : (f g h k : Frames) → g ≡ f → SameScopes g h → k ≡ h → SameScopes f k
scopes_join f g h k p s q = (ap current q ∙ s.0 ∙ ap current p, ap outer q ∙ s.1 ∙ ap outer p)

-- the scope of a cell has ended with it
pub cell_scopes : (answer result : Result RunValue Stop) (f f1 g : Frames) → IfOk result (λ v. answer ≡ Ok v) → OnOk answer (EndsScope f1 g) → outer f1 ≡ current f ∷ outer f → OnOk result (SameScopes f g)
cell_scopes answer (Err stop) f f1 g same ends at = tt
cell_scopes answer (Ok v) f f1 g same ends at =
    let over : EndsScope f1 g = subst (λ (r : Result RunValue Stop). OnOk r (EndsScope f1 g)) same ends in
    over (current f) (outer f) at

-- its loops are no phases, and it must have its form
pub cell_tells : (answer result : Result RunValue Stop) (s t : State) (m : Heap) (cell : Doing Value) (form : Form) (site : Site)
    → t.heap ≡ s.heap → Counts t.phases m.phases
    → ((u : State) (e : Ended Value) → Told IsValue answer u e → Told IsValue result u (go_on e (formed form site)))
    → Told IsValue answer s (cell m) → Told IsValue result t (then_go (apart cell) (formed form site) m)
cell_tells answer result s t m cell form site heap phases formed' told =
    formed' t (apart cell m)
    (apart_told IsValue answer s t m (cell m) (λ k st. subst (λ h. Stands h (record k { phases = m.phases })) (sym heap) (phases_stand s.heap k m.phases st)) phases told)
