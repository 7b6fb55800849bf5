-- The instance that a call takes by the bases of its arguments.
use Rattle.std.proofs.Common.{◌≡◌, suc, List, [], ◌∷◌, length, Bool, true, false, refl, sym, ap, ◌∙◌, Option, Some, None}
use Rattle.std.specs.Prelude.{find, ◌&&◌, if◌then◌else◌, bytes_eq}
use Rattle.sac_base.specs.declared.base.Base.{Base}
use Rattle.sac_base.specs.declared.name.Name.{Name}
use Rattle.sac_base.specs.Arrays.{same_base}
use Rattle.sac_ast.specs.Tree.{FunctionTree}
use Rattle.sac_ast.specs.Bases.{instance_by, all_known, with_base, first_named, counts_beside, same_bases, bases_of_params}
use Rattle.check_rules.specs.Groups.{takes_beside, has_each, is_known}

-- the same bases, none of which is missing
abbrev same_known : List Base → Option (List Base) → Bool
same_known wanted None = false
same_known wanted (Some bs) = same_bases wanted bs

and_no : (a : Bool) → (a && false) ≡ false
and_no true = refl
and_no false = refl

and_false : (a b : Bool) → (a && b && false) ≡ false
and_false true b = and_no b
and_false false b = refl

abbrev takes_by : List FunctionTree → Name → Option (List Base) → FunctionTree → Bool
takes_by fs name bs f = bytes_eq f.name name && counts_beside (first_named fs name) f && same_known (bases_of_params f) bs

none_takes : (fs gs : List FunctionTree) (name : Name) → find (takes_by fs name None) gs ≡ None
none_takes fs [] name = refl
none_takes fs (g ∷ gs) name =
    ap (λ b. if b then Some g else find (takes_by fs name None) gs) (and_false (bytes_eq g.name name) (counts_beside (first_named fs name) g))
    ∙ none_takes fs gs name

by_known : (fs : List FunctionTree) (name : Name) (bs : Option (List Base)) → find (takes_by fs name bs) fs ≡ instance_by fs name bs
by_known fs name None = none_takes fs fs name
by_known fs name (Some bs) = refl

each_same : (wanted : List Base) (bs : List (Option Base)) → same_known wanted (all_known bs) ≡ has_each wanted bs
each_same [] [] = refl
each_same [] (b ∷ bs) = by b (all_known bs)
  where
    by : (b : Option Base) (r : Option (List Base)) → same_known [] (with_base b r) ≡ false
    by None r = refl
    by (Some b) None = refl
    by (Some b) (Some bs) = refl
each_same (a ∷ wanted) [] = refl
each_same (a ∷ wanted) (None ∷ bs) = refl
each_same (a ∷ wanted) (Some b ∷ bs) = by (all_known bs) (each_same wanted bs)
  where
    by : (r : Option (List Base)) → same_known wanted r ≡ has_each wanted bs → same_known (a ∷ wanted) (with_base (Some b) r) ≡ (same_base a b && has_each wanted bs)
    by None e = sym (ap (λ x. same_base a b && x) (sym e) ∙ and_no (same_base a b))
    by (Some cs) e = ap (λ x. same_base a b && x) e

pub instance_is : (fs : List FunctionTree) (name : Name) (bs : List (Option Base)) → find (takes_beside (first_named fs name) name bs) fs ≡ instance_by fs name (all_known bs)
instance_is fs name bs = ap (λ (p : FunctionTree → Bool). find p fs) (λ i f. same f i) ∙ by_known fs name (all_known bs)
  where
    same : (f : FunctionTree) → takes_beside (first_named fs name) name bs f ≡ takes_by fs name (all_known bs) f
    same f = ap (λ b. bytes_eq f.name name && counts_beside (first_named fs name) f && b) (sym (each_same (bases_of_params f) bs))

pub has_length : (wanted : List Base) (bs : List (Option Base)) → (length wanted ≡ length bs → ⊥) → has_each wanted bs ≡ false
has_length [] [] h = absurd (h refl)
has_length [] (b ∷ bs) h = refl
has_length (a ∷ wanted) [] h = refl
has_length (a ∷ wanted) (b ∷ bs) h = ap (λ x. is_known a b && x) (has_length wanted bs (λ e. h (ap suc e))) ∙ and_no (is_known a b)
