-- Tables that have the bases in scope, and the bases that a block gives.
use Rattle.std.proofs.Common.{◌≡◌, List, [], ◌∷◌, ◌++◌, map, refl, sym, ◌∙◌}
use Rattle.std.specs.Prelude.{zip}
use Rattle.sac_base.specs.declared.base.Base.{Base}
use Rattle.core_ir.specs.declared.tree.Var.{Var}
use Rattle.core_ir.specs.Terms.{BlockTerm, LetTerm, CoreTerm, Gives, Bind, chain}
use Rattle.core_ir.specs.WellFormed.{Bases, HasBases, BlockBases}
use Rattle.core_loops.specs.norm_steps.Step.{BaseTable, Within, Follows}
use Rattle.core_loops.proofs.norm_steps.Places.{within_zip}
use Rattle.variable_bases.specs.Sources.{results}

pub have_all : (m : BaseTable) (g : Bases) (xs : List Var) (ts : List Base) → Within m g → HasBases g xs ts → map m xs ≡ ts
have_all m g [] [] w h = refl
have_all m g [] (t ∷ ts) w h = absurd h
have_all m g (x ∷ xs) [] w h = absurd h
have_all m g (x ∷ xs) (t ∷ ts) w h = λ i. sym (w x t h.0) i ∷ have_all m g xs ts w h.1 i

pub results_chain : (ls : List LetTerm) (xs : List Var) → results (chain ls (Gives xs)) ≡ xs
results_chain [] xs = refl
results_chain (l ∷ ls) xs = results_chain ls xs

pub ends :
    (core : CoreTerm) (m : BaseTable) (b : BlockTerm) (g : Bases) (ts : List Base) (d : BlockBases core g b ts) → Within m g → Follows core m b g ts d →
    map m (results b) ≡ ts
ends core m (Gives xs) g ts d w f = have_all m g xs ts w d
ends core m (Bind xs s r b) g ts d w f = ends core m b (zip xs d.0 ++ g) ts d.1.2 (within_zip m g xs d.0 w f.0) f.2
