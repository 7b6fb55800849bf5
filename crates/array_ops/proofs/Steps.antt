-- Steps of evaluations: faults that are passed on, values that are gone on with, and what is done by a test.
use Rattle.std.proofs.Common.{◌≡◌, Bool, true, false, refl, Some, None, Ok, Err, Option}
use Rattle.sac_base.specs.declared.faults.Fault.{Fault}
use Rattle.sac_base.specs.declared.site.Site.{Site}
use Rattle.sac_base.specs.Arrays.{ArrayValue}
use Rattle.sac_base.specs.Parts.{condition}
use Rattle.sac_base.specs.Outcomes.{Ends, and_then, choose}
use Rattle.sac_base.specs.declared.stop.Stop.{Stop}
use Rattle.sac_base.specs.declared.stop.Stop.TheVariants.{Faulted, Memory}
use Rattle.array_ops.specs.Tells.{TellsStop}

-- ---- faults

-- where one meaning's fault is another's
pub same_stop : {A B : Type 0} (stop : Stop) (m : Ends A) (m' : Ends B) → ((f : Fault) → m ≡ Err f → m' ≡ Err f) → TellsStop stop m → TellsStop stop m'
same_stop (Faulted f) m m' keeps h = keeps f h
same_stop Memory m m' keeps h = tt

pub fault_then : {A B : Type 0} (m : Ends A) (next : A → Ends B) (f : Fault) → m ≡ Err f → and_then m next ≡ Err f
fault_then m next f e = rw e refl

pub value_then : {A B : Type 0} (m : Ends A) (next : A → Ends B) (a : A) → m ≡ Ok a → and_then m next ≡ next a
value_then m next a e = rw e refl

-- four values, one after another
pub four_then : {A B C D R : Type 0} (a : Ends A) (b : Ends B) (c : Ends C) (d : Ends D) (next : A → B → C → D → R) (x : A) (y : B) (z : C) (w : D) → a ≡ Ok x → b ≡ Ok y → c ≡ Ok z → d ≡ Ok w → and_then a (λ p. and_then b (λ q. and_then c (λ r. and_then d (λ s. Ok (next p q r s))))) ≡ Ok (next x y z w)
four_then a b c d next x y z w e1 e2 e3 e4 = rw (e1, e2, e3, e4) refl

-- two ways to go on that agree on the value that is there
pub then_same : {A B : Type 0} (m : Ends A) (f g : A → Ends B) → ((a : A) → m ≡ Ok a → f a ≡ g a) → and_then m f ≡ and_then m g
then_same (Err fault) f g same = refl
then_same (Ok a) f g same = same a refl

-- ---- tests

-- what a test says, once its array is known
abbrev pub said : Site → Ends ArrayValue → Ends Bool
said site m = and_then m (λ c. choose site (condition c) (Ok true) (Ok false))

abbrev pub by_test : {A : Type 0} → Site → Ends ArrayValue → Ends A → Ends A → Ends A
by_test site m first second = and_then m (λ c. choose site (condition c) first second)

module _ {A : Type 0} (site : Site) (first second : Ends A) where
  chosen_fault : (o : Option Bool) (f : Fault) → choose site o (Ok true) (Ok false) ≡ Err f → choose site o first second ≡ Err f
  chosen_fault None f e = cc
  chosen_fault (Some true) f e = cc
  chosen_fault (Some false) f e = cc

  chosen_true : (o : Option Bool) → choose site o (Ok true) (Ok false) ≡ Ok true → choose site o first second ≡ first
  chosen_true None e = cc
  chosen_true (Some true) e = refl
  chosen_true (Some false) e = cc

  chosen_false : (o : Option Bool) → choose site o (Ok true) (Ok false) ≡ Ok false → choose site o first second ≡ second
  chosen_false None e = cc
  chosen_false (Some true) e = cc
  chosen_false (Some false) e = refl

  pub test_fault : (m : Ends ArrayValue) (f : Fault) → said site m ≡ Err f → by_test site m first second ≡ Err f
  test_fault (Err g) f e = cc
  test_fault (Ok c) f e = chosen_fault (condition c) f e

  pub test_true : (m : Ends ArrayValue) → said site m ≡ Ok true → by_test site m first second ≡ first
  test_true (Err g) e = cc
  test_true (Ok c) e = chosen_true (condition c) e

  pub test_false : (m : Ends ArrayValue) → said site m ≡ Ok false → by_test site m first second ≡ second
  test_false (Err g) e = cc
  test_false (Ok c) e = chosen_false (condition c) e
