-- Two lists place by place: behind the end of one of them there is nothing more.
use Rattle.std.proofs.Common.{◌≡◌, ◌≤◌, ◌<◌, ◌+◌, ℕ, zero, suc, List, [], ◌∷◌, drop, length, Option, None, get_or, refl, ap, ◌∙◌, sym, min, arith}
use Rattle.sac_base.specs.declared.base.Base.{Base}
use Rattle.core_ir.specs.declared.tree.Var.{Var}
use Rattle.std.proofs.lemmas.List.{drop_more}
use Rattle.counted_marks.specs.Bases.{BaseFacts, note_base, note_bases, common_bases, either_bases}

no_common : (as' : List (Option Base)) → common_bases as' [] ≡ []
no_common [] = refl
no_common (a ∷ as') = refl

no_either : (as' : List (Option Base)) → either_bases as' [] ≡ []
no_either [] = refl
no_either (a ∷ as') = refl

pub common_end : (as' bs : List (Option Base)) (k : ℕ) → min (length as') (length bs) ≤ k → common_bases (drop k as') (drop k bs) ≡ []
common_end [] bs zero le = refl
common_end [] bs (suc k) le = refl
common_end (a ∷ as') [] zero le = refl
common_end (a ∷ as') [] (suc k) le = no_common (drop k as')
common_end (a ∷ as') (b ∷ bs) zero le = absurd (omega (arith, le))
common_end (a ∷ as') (b ∷ bs) (suc k) le = common_end as' bs k (omega (arith, le))

pub either_end : (as' bs : List (Option Base)) (k : ℕ) → min (length as') (length bs) ≤ k → either_bases (drop k as') (drop k bs) ≡ []
either_end [] bs zero le = refl
either_end [] bs (suc k) le = refl
either_end (a ∷ as') [] zero le = refl
either_end (a ∷ as') [] (suc k) le = no_either (drop k as')
either_end (a ∷ as') (b ∷ bs) zero le = absurd (omega (arith, le))
either_end (a ∷ as') (b ∷ bs) (suc k) le = either_end as' bs k (omega (arith, le))

-- ---- bases beside variables

pub base_there : (g : BaseFacts) (x : Var) (xs : List Var) (bs : List (Option Base)) (k : ℕ) (d : Option Base) → k < length bs → note_bases (note_base g x (get_or bs k d)) xs (drop (k + 1) bs) ≡ note_bases g (x ∷ xs) (drop k bs)
base_there g x xs bs k d lt = ap (note_bases g (x ∷ xs)) (sym (drop_more bs k d lt))

pub drop_over : {A : Type 0} (ys : List A) (i : ℕ) → length ys ≤ i → drop i ys ≡ []
drop_over [] zero le = refl
drop_over [] (suc i) le = refl
drop_over (y ∷ ys) zero le = absurd (omega (arith, le))
drop_over (y ∷ ys) (suc i) le = drop_over ys i (omega (arith, le))

pub base_behind : (g : BaseFacts) (x : Var) (xs : List Var) (bs : List (Option Base)) (k : ℕ) → length bs ≤ k → note_bases (note_base g x None) xs (drop (k + 1) bs) ≡ note_bases g (x ∷ xs) (drop k bs)
base_behind g x xs bs k le = ap (note_bases (note_base g x None) xs) (drop_over bs (k + 1) (omega (arith, le))) ∙ ap (note_bases g (x ∷ xs)) (sym (drop_over bs k le))
