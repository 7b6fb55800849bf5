-- The shape of what a parted fold gives.
use Rattle.std.proofs.Common.{◌≡◌, ℕ, Bool, true, false, ◌&&◌, List, [], ◌∷◌, map, Option, Some, None, Result, Ok, Err, refl, sym, subst, ◌∙◌, ℤ}
use Rattle.std.specs.Prelude.{if◌then◌else◌, fold}
use Rattle.std.proofs.lemmas.Slice.Eq.{bytes_eq-Decides}
use Rattle.sac_base.specs.declared.faults.FaultKind.{FaultKind}
use Rattle.sac_base.specs.declared.faults.FaultKind.TheVariants.{F6}
use Rattle.sac_base.specs.declared.op.Op.{Op}
use Rattle.sac_base.specs.declared.site.Site.{Site}
use Rattle.sac_base.specs.Arrays.{ArrayValue, same_form, same_base}
use Rattle.sac_base.specs.Grids.{has_vector}
use Rattle.sac_base.specs.Operators.{binary, common_shape, all_of, with_first}
use Rattle.sac_base.specs.Outcomes.{Ends, and_then, fault}
use Rattle.sac_base.specs.WithLoops.{combined, or_first, each}
use Rattle.core_ir.specs.Meaning.{Cells, held, cell_at}
use Rattle.core_facts.specs.Facts.{ShapeIs}
use Rattle.core_facts.proofs.Shapes.{ok_same, no_ok, both}

-- the cells that are there have this form
abbrev pub HasForm : ArrayValue → Option ArrayValue → Type 0
HasForm form None = Unit {0}
HasForm form (Some a) = same_form a form ≡ true

abbrev pub AllHaveForm : ArrayValue → List (Option ArrayValue) → Type 0
AllHaveForm form [] = Unit {0}
AllHaveForm form (o ∷ os) = HasForm form o × AllHaveForm form os

held_form : (form : ArrayValue) (s : Site) (a : ArrayValue) (o : Option ArrayValue) → held form s a ≡ Ok o → HasForm form o
held_form form s a o p = go (same_form a form) refl p
  where
    go : (b : Bool) → same_form a form ≡ b → (if b then Ok (Some a) else fault F6 s) ≡ Ok o → HasForm form o
    go true e m = subst (HasForm form) (ok_same (Some a) o m) e
    go false e m = absurd (no_ok (record { kind = F6; site = s }) o m)

then_held : (form : ArrayValue) (s : Site) (x : Ends ArrayValue) (o : Option ArrayValue) → and_then x (held form s) ≡ Ok o → HasForm form o
then_held form s (Ok a) o p = held_form form s a o p
then_held form s (Err k) o p = absurd (no_ok k o p)

pub cell_form_held : (form : ArrayValue) (ps : List Cells) (v : List ℤ) (o : Option ArrayValue) → cell_at form ps v ≡ Ok o → HasForm form o
cell_form_held form [] v o p = subst (HasForm form) (ok_same None o p) tt
cell_form_held form (c ∷ ps) v o p = go (has_vector c.grid v) (λ q. cell_form_held form ps v o q) p
  where
    go : (b : Bool) → (cell_at form ps v ≡ Ok o → HasForm form o) → (if b then and_then (c.cell v) (held form c.site) else cell_at form ps v) ≡ Ok o → HasForm form o
    go true f m = then_held form c.site (c.cell v) o m
    go false f m = f m

-- the values, or the first error, of a list that begins so
abbrev step : Ends (Option ArrayValue) → Ends (List (Option ArrayValue)) → Ends (List (Option ArrayValue))
step (Ok o) rest = with_first o rest
step (Err k) rest = Err k

first_step : (r : Ends (Option ArrayValue)) (rs : List (Ends (Option ArrayValue))) → all_of (r ∷ rs) ≡ step r (all_of rs)
first_step (Ok o) rs = refl
first_step (Err k) rs = refl

-- one result after another
pub each_ok : (f : List ℤ → Ends (Option ArrayValue)) (form : ArrayValue) (vs : List (List ℤ)) (found : List (Option ArrayValue)) → ((v : List ℤ) (o : Option ArrayValue) → f v ≡ Ok o → HasForm form o) → each f vs ≡ Ok found → AllHaveForm form found
each_ok f form [] found h p = subst (AllHaveForm form) (ok_same [] found p) tt
each_ok f form (v ∷ vs) found h p = go (f v) (all_of (map f vs)) (h v) (λ os q. each_ok f form vs os h q) (sym (first_step (f v) (map f vs)) ∙ p)
  where
    go : (r : Ends (Option ArrayValue)) (rest : Ends (List (Option ArrayValue))) → ((o : Option ArrayValue) → r ≡ Ok o → HasForm form o) → ((os : List (Option ArrayValue)) → rest ≡ Ok os → AllHaveForm form os)
        → step r rest ≡ Ok found → AllHaveForm form found
    go (Ok o) (Ok os) a b m = subst (AllHaveForm form) (ok_same (o ∷ os) found m) (a o refl, b os refl)
    go (Ok o) (Err k) a b m = absurd (no_ok k found m)
    go (Err k) rest a b m = absurd (no_ok k found m)

same_common : (s : List ℕ) → common_shape s s ≡ Some s
same_common [] = refl
same_common (n ∷ ns) = λ i. if (bytes_eq-Decides (n ∷ ns) (n ∷ ns)).1 refl i then Some (n ∷ ns) else None

first_shape : (s : List ℕ) (a : ArrayValue) (r : Result ArrayValue FaultKind) → a.shape ≡ s → ((v : ArrayValue) → r ≡ Ok v → v.shape ≡ s) → (or_first a r).shape ≡ s
first_shape s a (Ok b) h k = k b refl
first_shape s a (Err kind) h k = h

form_shape : (a form : ArrayValue) → same_form a form ≡ true → a.shape ≡ form.shape
form_shape a form p = (bytes_eq-Decides a.shape form.shape).0 (right (same_base a.base form.base) _ p)
  where
    right : (b c : Bool) → (b && c) ≡ true → c ≡ true
    right true c h = h
    right false c h = absurd (cc)

combined_shape : (o : Op) (form a : ArrayValue) (c : Option ArrayValue) → a.shape ≡ form.shape → HasForm form c → (combined o a c).shape ≡ form.shape
combined_shape o form a None h k = h
combined_shape o form a (Some c) h k =
    first_shape form.shape a (binary o a c) h (λ v p. subst (λ m. ShapeIs m v) (same_common form.shape) (both (Some form.shape) (Some form.shape) o a c v p h (form_shape c form k)))

pub folded_shape : (o : Op) (form a : ArrayValue) (found : List (Option ArrayValue)) → a.shape ≡ form.shape → AllHaveForm form found → (fold (combined o) a found).shape ≡ form.shape
folded_shape o form a [] h k = h
folded_shape o form a (c ∷ cs) h k = folded_shape o form (combined o a c) cs (combined_shape o form a c h k.0) k.1

pub neutral_shape : (a form : ArrayValue) → same_form a form ≡ true → a.shape ≡ form.shape
neutral_shape = form_shape
