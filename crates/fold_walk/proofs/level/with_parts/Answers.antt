use Rattle.std.proofs.Common.{◌++◌, ◌∷◌, [], ◌∙◌, ap, refl}
use Rattle.core_ir.specs.declared.tree.PartedLoop.{out-PartedLoop}
use Rattle.fold_walk.proofs.Consumers.{made_let}
use Rattle.fold_walk.proofs.level.with_parts.Goals as goal

pub returns : goal.returns
returns c =
    let old = out-PartedLoop c.args.parted.now in
    made_let c.push.new.self c.args.target c.args.site c.args.parted.now (record { frame = c.in_ok-copy.field-0; base = old.base; cell = c.copy-2.result; op = old.op; parts = c.args.parts })
    (c.in_ok-push.ensures.items ∙ ap (λ zs. zs ++ (c.args.target ∷ [])) c.new-targets.ensures.items) c.in_ok-copy.ensures refl c.copy-2.ensures refl
