-- Operators by what their operands are.
use Rattle.std.proofs.Common.{◌≡◌, ℤ, map, Result, sym, ap, ◌∙◌, subst}
use Rattle.sac_base.specs.declared.base.Base.{Base}
use Rattle.sac_base.specs.declared.faults.FaultKind.{FaultKind}
use Rattle.sac_base.specs.declared.op.Op.{Op}
use Rattle.sac_base.specs.declared.site.Site.{Site}
use Rattle.sac_base.specs.Arrays.{ArrayValue, scalar, vector}
use Rattle.sac_base.specs.Operators.{binary}
use Rattle.sac_base.specs.Outcomes.{at_site}
use Rattle.run_store.specs.declared.store.Store.{Store}
use Rattle.counted_code.specs.Values.{Heap, read}
use Rattle.sac_base.specs.declared.stop.Stop.{Stop}
use Rattle.run_store.specs.Stands.{TellsPlaced}
use Rattle.run_values.specs.declared.few.Few.{Few}
use Rattle.run_values.specs.declared.value.RunValue.{RunValue}
use Rattle.run_values.specs.declared.value.RunValue.TheVariants.{Word, Short}
use Rattle.run_values.specs.Numbers.{numbers}
use Rattle.run_values.specs.Shown.{value_of}
use Rattle.run_plain.proofs.Words.{left_word, right_word}

module _ (result : Result RunValue Stop) (h : Store) (m : Heap) (site : Site) (op : Op) (a b : RunValue) where
  by_operands : (c d : RunValue) → a ≡ c → b ≡ d → TellsPlaced result h m (at_site site (binary op (read m (value_of c)) (read m (value_of d)))) → TellsPlaced result h m (at_site site (binary op (read m (value_of a)) (read m (value_of b))))
  by_operands c d first second told =
      subst (λ (v : RunValue). TellsPlaced result h m (at_site site (binary op (read m (value_of v)) (read m (value_of b))))) (sym first)
      (subst (λ (w : RunValue). TellsPlaced result h m (at_site site (binary op (read m (value_of c)) (read m (value_of w))))) (sym second) told)

  pub two_words : (s t : Base) (x y v w : ℤ) → a ≡ Word s x → b ≡ Word t y → v ≡ x → w ≡ y → TellsPlaced result h m (at_site site (binary op (scalar s v) (scalar t w))) → TellsPlaced result h m (at_site site (binary op (read m (value_of a)) (read m (value_of b))))
  two_words s t x y v w first second p q told =
      by_operands (Word s x) (Word t y) first second
      (subst (λ (r : Result ArrayValue FaultKind). TellsPlaced result h m (at_site site r)) (λ i. binary op (scalar s (p i)) (scalar t (q i))) told)

  pub word_and_short : (s t : Base) (n : ℤ) (few all : Few) → a ≡ Word s n → b ≡ Short t few → numbers all ≡ map (λ _. n) (numbers few) → TellsPlaced result h m (at_site site (binary op (vector s (numbers all)) (vector t (numbers few))))
      → TellsPlaced result h m (at_site site (binary op (read m (value_of a)) (read m (value_of b))))
  word_and_short s t n few all first second is told =
      by_operands (Word s n) (Short t few) first second
      (subst (λ (r : Result ArrayValue FaultKind). TellsPlaced result h m (at_site site r)) (ap (λ ns. binary op (vector s ns) (vector t (numbers few))) is ∙ left_word op s t n (numbers few)) told)

  pub short_and_word : (s t : Base) (few all : Few) (n : ℤ) → a ≡ Short s few → b ≡ Word t n → numbers all ≡ map (λ _. n) (numbers few) → TellsPlaced result h m (at_site site (binary op (vector s (numbers few)) (vector t (numbers all))))
      → TellsPlaced result h m (at_site site (binary op (read m (value_of a)) (read m (value_of b))))
  short_and_word s t few all n first second is told =
      by_operands (Short s few) (Word t n) first second
      (subst (λ (r : Result ArrayValue FaultKind). TellsPlaced result h m (at_site site r)) (ap (λ ns. binary op (vector s (numbers few)) (vector t ns)) is ∙ right_word op s t (numbers few) n) told)
