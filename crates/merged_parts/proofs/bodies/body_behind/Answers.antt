use Rattle.std.proofs.Common.{refl}
use Rattle.core_ir.specs.View.{block_term}
use Rattle.parted_bodies.specs.Numbering.{named_in}
use Rattle.merged_parts.proofs.Copied.{copied_behind}
use Rattle.merged_parts.proofs.bodies.body_behind.Goals as goal

pub returns : goal.returns
returns c =
    copied_behind (named_in c.args.names.now) c.args.before.lets.items c.append.new.self.items c.in_ok-outer.field-0 c.in_ok-inner.field-0 (block_term c.args.around.now) (block_term c.args.body.now) _
    c.in_ok-append.ensures.items c.in_ok-append-2.ensures.items refl c.in_ok-outer.ensures c.in_ok-inner.ensures
