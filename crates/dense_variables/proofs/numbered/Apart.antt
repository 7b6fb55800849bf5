-- New numbers keep variables apart from each other and from those in scope.
use Rattle.std.proofs.Common.{◌≡◌, ◌<◌, true, refl}
use Rattle.core_ir.specs.declared.tree.Var.{Var}
use Rattle.core_ir.specs.Binders.{is_in}
use Rattle.core_forms.proofs.inlined_bodies.Names.{clash, in_either, none_at}
use Rattle.core_forms.proofs.norm.Places.{all_member}
use Rattle.dense_variables.specs.numbered.Laws.{NumbersKeepApart}
use Rattle.dense_variables.proofs.numbered.Numbered.{numbered_good}

pub kept_apart : NumbersKeepApart
kept_apart xs scope n once none below a b p q =
    let good = numbered_good xs (λ x. x) (λ (x : Var). is_in x scope ≡ true) n (record { apart = λ x y s t. refl; below = λ x s. all_member (λ (y : Var). y.0 < n) scope x below s }) once (λ x h s. clash (is_in x scope) s (none_at x xs scope none h)) in
    good.apart a b (in_either a xs scope p) (in_either b xs scope q)
