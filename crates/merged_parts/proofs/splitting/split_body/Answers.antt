use Rattle.std.proofs.Common.{refl, sym}
use Rattle.core_ir.specs.declared.tree.Block.{out-Block}
use Rattle.merged_parts.proofs.Taken.{place_inside, taken_is, taken_not}
use Rattle.merged_parts.proofs.splitting.split_body.Goals as goal

pub remove-right-requires : goal.remove-right-requires
remove-right-requires c = place_inside c.args.body c.nest_of.result c.in-Some.nest c.nest_of.ensures c.in-Some.is _ (out-Block c.args.body).lets.ok.0

pub returns-in-Parted : goal.returns-in-Parted
returns-in-Parted c =
    taken_is c.args.body c.nest_of.result c.in-Some.nest c.nest_of.ensures c.in-Some.is c.remove-right.result _ c.remove-right.new.self.items c.in-Parted.inner _ c.remove-right.ensures.value
    c.remove-right.ensures.by_index.2 (sym c.in-Parted.is) refl c.new.ensures.items

pub returns : goal.returns
returns c =
    absurd (taken_not c.args.body c.nest_of.result c.in-Some.nest c.nest_of.ensures c.in-Some.is c.remove-right.result _ c.remove-right.ensures.value c.in_default.not-Parted)
