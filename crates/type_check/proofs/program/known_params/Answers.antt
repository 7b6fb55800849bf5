use Rattle.std.proofs.Common.{◌≡◌, ℕ, List, Bor, ap, ◌∙◌, bytes_eq}
use Rattle.std.specs.Map.{lookup}
use Rattle.check_rules.specs.Accepted.{known_params, none_known}
use Rattle.check_rules.specs.Tables.{entered}
use Rattle.type_check.proofs.program.known_params.Goals as goal

pub returns : goal.returns
returns c =
    let nothing : entered c.new-known.result ≡ none_known = λ i name. lookup {K = Bor (List ℕ)} (λ k. bytes_eq name k.now) (c.new-known.ensures.empty i) in
    c.in_ok-bind_params.ensures ∙ ap (known_params c.args.params.now) nothing
