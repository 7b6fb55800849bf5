-- Tests one after another.
use Rattle.std.proofs.Common.{◌≡◌, ℕ, ◌≤◌, Bool, true, false, not, ◌&&◌, ◌||◌, nat_le, refl}
use Rattle.std.proofs.lemmas.Bool.{leb-true}

pub and_left : (a b : Bool) → (a && b) ≡ true → a ≡ true
and_left true b e = refl
and_left false b e = absurd (cc)

pub and_right : (a b : Bool) → (a && b) ≡ true → b ≡ true
and_right true b e = e
and_right false b e = absurd (cc)

-- what holds, or else something follows
pub then_other : (a b : Bool) → (not a || b) ≡ true → a ≡ true → b ≡ true
then_other true b e is = e
then_other false b e is = absurd (cc)

pub not_first : (a b : Bool) → (not a || b) ≡ true → b ≡ false → a ≡ false
not_first true b e is = absurd (cc)
not_first false b e is = refl

pub le_first : (a b : ℕ) (rest : Bool) → (nat_le a b && rest) ≡ true → a ≤ b
le_first a b rest e = leb-true a b (and_left (nat_le a b) rest e)

pub and_over : (a u : Bool) → (a && u) ≡ ((a && true) && u)
and_over true u = refl
and_over false u = refl
