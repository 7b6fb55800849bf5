use Rattle.std.proofs.Common.{ap₂, ◌∙◌}
use Rattle.std.proofs.lemmas.Result.{IfOk-weaker}
use Rattle.clap.specs.Words.{with_rule}
use Rattle.sac_words.specs.Command.{sac_command}
use Rattle.sac_words.proofs.read.command.Goals as goal

pub returns : goal.returns
unfolding sac_command
returns c =
    let file = c.in_ok-arg.ensures.shape c.required.ensures.local ∙ ap₂ with_rule c.new.ensures.app c.required.ensures.rule in
    let input = c.in_ok-arg-2.ensures.shape c.choice.ensures.local ∙ ap₂ with_rule file c.choice.ensures.rule in
    let workers = c.in_ok-arg-3.ensures.shape c.choice-2.ensures.local ∙ ap₂ with_rule input c.choice-2.ensures.rule in
    let chunk = c.in_ok-arg-4.ensures.shape c.choice-3.ensures.local ∙ ap₂ with_rule workers c.choice-3.ensures.rule in
    let turns = c.in_ok-arg-5.ensures.shape c.choice-4.ensures.local ∙ ap₂ with_rule chunk c.choice-4.ensures.rule in
    let depth = c.in_ok-arg-6.ensures.shape c.choice-5.ensures.local ∙ ap₂ with_rule turns c.choice-5.ensures.rule in
    let mode = c.in_ok-arg-7.ensures.shape c.choice-6.ensures.local ∙ ap₂ with_rule depth c.choice-6.ensures.rule in
    let report = c.in_ok-arg-8.ensures.shape c.flag.ensures.local ∙ ap₂ with_rule mode c.flag.ensures.rule in
    IfOk-weaker c.arg-9.result _ _ (λ r h. h.shape c.choice-7.ensures.local ∙ ap₂ with_rule report c.choice-7.ensures.rule) c.arg-9.ensures
