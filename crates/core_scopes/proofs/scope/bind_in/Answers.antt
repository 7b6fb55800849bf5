use Rattle.std.proofs.Common.{ap, ◌∙◌, Some}
use Rattle.std.specs.Prelude.{if◌then◌else◌}
use Rattle.std.specs.String.{string_bytes}
use Rattle.std.proofs.lemmas.Map.Text.{hash_map_updates_text}
use Rattle.core_lowering.specs.steps.Looks.{with_var}
use Rattle.core_scopes.specs.Looks.{own}
use Rattle.core_scopes.proofs.Scopes.{name_turned}
use Rattle.core_scopes.proofs.scope.bind_in.Goals as goal

pub returns : goal.returns
returns c =
    let text = string_bytes c.in_ok-key.key in
    let old = c.args.vars.now in
    λ i. λ other.
    (hash_map_updates_text text old c.insert.new.self (Some c.args.var) c.in_ok-insert.ensures.updates other
    ∙ ap (λ b. if b then Some c.args.var else own old other) (name_turned text other)
    ∙ ap (λ n. with_var n c.args.var (own old) other) c.in_ok-key.ensures.ok) i
