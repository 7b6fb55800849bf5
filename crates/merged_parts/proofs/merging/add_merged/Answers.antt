use Rattle.std.proofs.Common.{◌≡◌, ◌∙◌, ◌+◌, ◌++◌, ap, sym, subst, map, refl}
use Rattle.std.specs.Prelude.{option_map, OnOk}
use Rattle.core_ir.specs.View.{part_term}
use Rattle.parted_bodies.specs.Making.{binds_of}
use Rattle.merged_parts.specs.Splitting.{split_term}
use Rattle.merged_parts.proofs.Assembled.{inner_fits, merged_is}
use Rattle.merged_parts.proofs.merging.add_merged.Goals as goal

pub add_inner-requires : goal.add_inner-requires
add_inner-requires c = record {
  fits = inner_fits c.args.part (split_term c.in-Some.split) c.in-Some.split.inner c.deref.result.now (sym c.split_body.ensures ∙ ap (option_map split_term) c.in-Some.is) refl c.deref.ensures.value c.requires.fits;
}

pub returns-in-Some-clause-parts : goal.returns-in-Some-clause-parts
returns-in-Some-clause-parts c =
    let found = sym c.split_body.ensures ∙ ap (option_map split_term) c.in-Some.is in
    let is = merged_is c.args.part (split_term c.in-Some.split) c.in-Some.split.inner c.deref.result.now c.args.progress.now.next found refl c.deref.ensures.value in
    subst (λ ps. OnOk c.add_inner.result (map part_term c.add_inner.new.merged.items ≡ map part_term c.args.merged.now.items ++ ps)) is c.add_inner.ensures.parts

pub returns-in-Some-clause-next : goal.returns-in-Some-clause-next
returns-in-Some-clause-next c =
    let found = sym c.split_body.ensures ∙ ap (option_map split_term) c.in-Some.is in
    let is = merged_is c.args.part (split_term c.in-Some.split) c.in-Some.split.inner c.deref.result.now c.args.progress.now.next found refl c.deref.ensures.value in
    subst (λ ps. OnOk c.add_inner.result (c.add_inner.new.progress ≡ record c.args.progress.now { next = c.args.progress.now.next + binds_of ps })) is c.add_inner.ensures.next
