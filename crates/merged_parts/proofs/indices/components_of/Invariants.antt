use Rattle.std.proofs.Common.{◌≡◌, ◌+◌, ◌-◌, ◌++◌, suc, map}
use Rattle.core_ir.specs.View.{let_term}
use Rattle.core_forms.specs.merge.Built.{picks}
use Rattle.merged_parts.specs.Merging.{every_other}
use Rattle.merged_parts.proofs.indices.components_of.Given as goal

abbrev pub invariant-loop-place : goal.invariant-loop-place
invariant-loop-place l = record {
  lets : map let_term l.lets.items ++ picks l.site l.index l.place (every_other (l.axes - l.place) (suc l.progress.next)) (every_other (l.axes - l.place) l.progress.next)
      ≡ picks l.site l.index 0 (every_other l.axes (suc l.initial.progress.next)) (every_other l.axes l.initial.progress.next);
  vars : l.vars.items ++ every_other (l.axes - l.place) (suc l.progress.next) ≡ every_other l.axes (suc l.initial.progress.next);
  next : l.progress ≡ record l.initial.progress { next = l.initial.progress.next + (l.place + l.place) };
}
