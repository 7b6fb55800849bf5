-- Blocks part by part.
use Rattle.std.proofs.Common.{◌≡◌, ℕ, suc, ◌+◌, ◌<◌, Bool, true, false, ◌&&◌, List, length, get_or, drop, drop-cons, ℤ, nat_le, refl, ap, sym, ◌∙◌}
use Rattle.std.proofs.Math.Numerals.{add-one}
use Rattle.std.specs.List.{list_all}
use Rattle.sac_base.specs.declared.site.Site.{Site}
use Rattle.kernel_tree.specs.declared.tree.KernelBlock.{KernelBlock}
use Rattle.kernel_tree.specs.declared.tree.KernelPart.{KernelPart}
use Rattle.kernel_tree.specs.declared.tree.KernelPart.TheVariants as part
use Rattle.kernel_tree.specs.Terms.{KernelTerm, Over}
use Rattle.kernel_tree.specs.View.{kernel_term, part_then, parts_then}
use Rattle.kernel_tree.proofs.Trees.{between_part, each_part, if_part, turns_part}
use Rattle.own_kernels.specs.Steps.{is_own, own_step}
use Rattle.own_kernels.proofs.Bools.{and_over}

module _ (rank buffer : ℕ) where
  -- a part, and what follows it
  own_over : (p : KernelPart) (t : KernelTerm) → is_own rank buffer (part_then p t) ≡ (is_own rank buffer (part_then p Over) && is_own rank buffer t)
  own_over (part.Line ss) t = and_over (list_all (own_step rank buffer) ss.items) (is_own rank buffer t)
  own_over (part.If' c sa a sb b) t = and_over _ (is_own rank buffer t)
  own_over (part.Turns' first sa a c sb b site) t = and_over _ (is_own rank buffer t)
  own_over (part.Each' index from to sa a) t = and_over _ (is_own rank buffer t)
  own_over (part.Between' index from low to high sa a site) t = and_over _ (is_own rank buffer t)

  -- a part more
  pub own_at : (ps : List KernelPart) (k : ℕ) (d : KernelPart) → k < length ps → is_own rank buffer (parts_then (drop k ps) Over) ≡ (is_own rank buffer (part_then (get_or ps k d) Over) && is_own rank buffer (parts_then (drop (k + 1) ps) Over))
  own_at ps k d lt =
      ap (λ (qs : List KernelPart). is_own rank buffer (parts_then qs Over)) (drop-cons ps k d lt) ∙ own_over (get_or ps k d) (parts_then (drop (suc k) ps) Over)
      ∙ ap (λ n. is_own rank buffer (part_then (get_or ps k d) Over) && is_own rank buffer (parts_then (drop n ps) Over)) (sym (add-one k))

  pub own_next : (ps : List KernelPart) (k : ℕ) (d p : KernelPart) → k < length ps → p ≡ get_or ps k d → is_own rank buffer (part_then p Over) ≡ true
      → is_own rank buffer (parts_then (drop (k + 1) ps) Over) ≡ is_own rank buffer (parts_then (drop k ps) Over)
  own_next ps k d p lt is own =
      sym (own_at ps k d lt ∙ ap (λ (q : KernelPart). is_own rank buffer (part_then q Over) && is_own rank buffer (parts_then (drop (k + 1) ps) Over)) (sym is)
      ∙ ap (λ b. b && is_own rank buffer (parts_then (drop (k + 1) ps) Over)) own)

  pub not_own : (ps : List KernelPart) (k : ℕ) (d p : KernelPart) → k < length ps → p ≡ get_or ps k d → is_own rank buffer (part_then p Over) ≡ false → is_own rank buffer (parts_then (drop k ps) Over) ≡ false
  not_own ps k d p lt is own =
      own_at ps k d lt ∙ ap (λ (q : KernelPart). is_own rank buffer (part_then q Over) && is_own rank buffer (parts_then (drop (k + 1) ps) Over)) (sym is)
      ∙ ap (λ b. b && is_own rank buffer (parts_then (drop (k + 1) ps) Over)) own

  two_over : (a b : Bool) → ((a && b) && true) ≡ (a && b)
  two_over true true = refl
  two_over true false = refl
  two_over false b = refl

  pub own_if : (p : KernelPart) (c : ℕ) (a b : KernelBlock) → p ≡ part.If c a b → is_own rank buffer (part_then p Over) ≡ (is_own rank buffer (kernel_term a) && is_own rank buffer (kernel_term b))
  own_if p c a b is = ap (λ (q : KernelPart). is_own rank buffer (part_then q Over)) is ∙ ap (is_own rank buffer) (if_part c a b Over) ∙ two_over (is_own rank buffer (kernel_term a)) (is_own rank buffer (kernel_term b))

  pub own_turns : (p : KernelPart) (first : Bool) (a : KernelBlock) (c : ℕ) (b : KernelBlock) (site : Site) → p ≡ part.Turns first a c b site
      → is_own rank buffer (part_then p Over) ≡ (is_own rank buffer (kernel_term a) && is_own rank buffer (kernel_term b))
  own_turns p first a c b site is =
      ap (λ (q : KernelPart). is_own rank buffer (part_then q Over)) is ∙ ap (is_own rank buffer) (turns_part first a c b site Over) ∙ two_over (is_own rank buffer (kernel_term a)) (is_own rank buffer (kernel_term b))

  pub own_each : (p : KernelPart) (index : ℕ) (from to : ℤ) (a : KernelBlock) → p ≡ part.Each index from to a → is_own rank buffer (part_then p Over) ≡ (nat_le rank index && is_own rank buffer (kernel_term a))
  own_each p index from to a is =
      ap (λ (q : KernelPart). is_own rank buffer (part_then q Over)) is ∙ ap (is_own rank buffer) (each_part index from to a Over) ∙ two_over (nat_le rank index) (is_own rank buffer (kernel_term a))

  pub own_between : (p : KernelPart) (index from : ℕ) (low : Bool) (to : ℕ) (high : Bool) (a : KernelBlock) (site : Site) → p ≡ part.Between index from low to high a site
      → is_own rank buffer (part_then p Over) ≡ (nat_le rank index && is_own rank buffer (kernel_term a))
  own_between p index from low to high a site is =
      ap (λ (q : KernelPart). is_own rank buffer (part_then q Over)) is ∙ ap (is_own rank buffer) (between_part index from low to high a site Over) ∙ two_over (nat_le rank index) (is_own rank buffer (kernel_term a))
