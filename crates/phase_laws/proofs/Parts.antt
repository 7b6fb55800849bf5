-- What is made of cells, part by part.
use Rattle.std.proofs.Common.{◌≡◌, ℕ, suc, List, [], ◌∷◌, ◌++◌, length, ℤ, Option, refl, ap, ◌∙◌, sym}
use Rattle.std.specs.Prelude.{flat_map}
use Rattle.std.specs.List.{zip}
use Rattle.std.proofs.lemmas.List.{append_assoc}
use Rattle.sac_base.specs.declared.form.Form.{Form}
use Rattle.sac_base.specs.Arrays.{ArrayValue}
use Rattle.counted_code.specs.Loops.{Source, Writing, cell_does, cells_do}
use Rattle.counted_code.specs.Values.{Heap, Ended, Done, Failed, Doing, give, go_on, then_go}
use Rattle.counted_laws.proofs.Bound.{zero_not_suc, suc_same}
use Rattle.phase_laws.specs.Chunks.{GivesAsMany}

one_more : {A : Type 0} (a : A) (n : ℕ) (m : Ended (List A)) → GivesAsMany n m → GivesAsMany (suc n) (go_on m (λ xs. give (a ∷ xs)))
one_more a n (Done xs h) p = ap suc p
one_more a n (Failed f phases) p = tt

rest_as_many : {A : Type 0} (n : ℕ) (m : Ended A) (next : A → Doing (List A)) → ((a : A) (h : Heap) → GivesAsMany n (next a h)) → GivesAsMany (suc n) (go_on m (λ a. then_go (next a) (λ xs. give (a ∷ xs))))
rest_as_many n (Done a h) next p = one_more a n (next a h) (p a h)
rest_as_many n (Failed f phases) next p = tt

pub cells_as_many : (form : Form) (source : List ℤ → Option Source) (writing : Writing) (place : ℕ) (vs : List (List ℤ)) (h : Heap) → GivesAsMany (length vs) (cells_do form source writing place vs h)
cells_as_many form source writing place [] h = refl
cells_as_many form source writing place (v ∷ vs) h =
    rest_as_many (length vs) (cell_does form (source v) h) (λ c k. cells_do form source writing (suc place) vs (writing place c k)) (λ c k. cells_as_many form source writing (suc place) vs (writing place c k))

pub made_in_parts : (each_cell : List ℤ × Option ArrayValue → List ℤ) (vs us : List (List ℤ)) (cs ds : List (Option ArrayValue)) → length cs ≡ length vs → flat_map each_cell (zip (vs ++ us) (cs ++ ds)) ≡ flat_map each_cell (zip vs cs) ++ flat_map each_cell (zip us ds)
made_in_parts each_cell [] us [] ds same = refl
made_in_parts each_cell (v ∷ vs) us (c ∷ cs) ds same =
    ap (λ zs. each_cell (v, c) ++ zs) (made_in_parts each_cell vs us cs ds (suc_same same))
    ∙ sym (append_assoc (each_cell (v, c)) (flat_map each_cell (zip vs cs)) (flat_map each_cell (zip us ds)))
made_in_parts each_cell [] us (c ∷ cs) ds same = elim (zero_not_suc (sym same)) [ ]
made_in_parts each_cell (v ∷ vs) us [] ds same = elim (zero_not_suc same) [ ]
