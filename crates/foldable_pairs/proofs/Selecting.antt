-- What a walk finds of a part's selections.
use Rattle.std.proofs.Common.{◌≡◌, ℕ, ◌+◌, ◌<◌, ◌≤◌, Bool, true, false, List, [], ◌∷◌, ◌++◌, map, length, drop, get_or, refl, sym, ap, ◌∙◌, inl, inr, ℤ, Option, Some, None, append_assoc, append-nil}
use Rattle.std.specs.Prelude.{Vec}
use Rattle.std.specs.declared.alloc.Global.{Global}
use Rattle.std.proofs.lemmas.List.{drop_more, drop_all}
use Rattle.core_ir.specs.declared.tree.Var.{Var}
use Rattle.core_ir.specs.Terms.{PartTerm}
use Rattle.core_facts.specs.Facts.{Fact, Facts, note, shape_fact}
use Rattle.core_loops.specs.Indices.{note_index, Plus, Other}
use Rattle.core_uses.specs.Tests.{is_avoided}
use Rattle.core_uses.proofs.Decided.{block_decided}
use Rattle.fold_pieces.specs.Pieces.{vectors}
use Rattle.total_cells.specs.loop_selections.Selecting.{is_selecting}
use Rattle.total_cells.specs.loop_selections.Statements.{SelectingIsDecided}
use Rattle.total_cells.specs.loop_selections.Told.{offset_told, told, known_if}
use Rattle.foldable_pairs.specs.Selected.{part_offsets, OnlySelects, FlatSelects}
use Rattle.foldable_pairs.proofs.Avoiding.{avoids_none, none_avoids}

never : {P : Type 0} (b : Bool) → b ≡ true → b ≡ false → P
never b p q = absurd (let e : true ≡ false = sym p ∙ q in cc)

abbrev pub somes : List (List ℤ) → List (Option (List ℤ))
somes at = map (λ (c : List ℤ). Some c) at

module _ (called : ℕ → List (Option (List ℕ))) (k : Facts) (p : Var) (part : PartTerm) where
  pub avoiding : is_avoided p part.body ≡ true → OnlySelects called k p part []
  avoiding h =
      let n = length part.head.grid in
      let w = avoids_none called p n part.body (note k part.head.index (shape_fact (Some (n ∷ [])))) (note_index (λ x. Other) part.head.index (Plus _)) ((block_decided p part.body).0 h) in
      record { only = w.0; offsets = sym w.1; flat = inl refl }

  pub only_flat : (at : List (List ℤ)) → FlatSelects called k p part at → OnlySelects called k p part at
  only_flat at h = record { only = h.only; offsets = h.offsets; flat = inr (h.weightless, h.loopless) }

  -- what uses the variable and only selects is flat
  pub flat_only : is_avoided p part.body ≡ false → (at : List (List ℤ)) → OnlySelects called k p part at → FlatSelects called k p part at
  flat_only u at h = elim h.flat [
    | inl none ↦
        let n = length part.head.grid in
        let nothing = sym h.offsets ∙ ap somes none in
        never (is_avoided p part.body) ((block_decided p part.body).1 (none_avoids called p n part.body _ _ h.only nothing)) u
    | inr flat ↦ record { only = h.only; offsets = h.offsets; weightless = flat.0; loopless = flat.1 }
  ]

  pub flat_found : SelectingIsDecided → (at : List (List ℤ)) (all : List (Option (List ℤ))) → is_selecting p part.body ≡ true → all ≡ part_offsets called k p part → somes at ≡ all
      → FlatSelects called k p part at
  flat_found law at all h e f = let w = (law p part.body).0 h in record { only = w.0; offsets = f ∙ e; weightless = w.1; loopless = w.2 }

  pub flat_unknown : (all : List (Option (List ℤ))) → all ≡ part_offsets called k p part → ((at : List (List ℤ)) → somes at ≡ all → ⊥) → (at : List (List ℤ))
      → FlatSelects called k p part at → ⊥
  flat_unknown all e none at h = none at (h.offsets ∙ sym e)

  pub not_flat : SelectingIsDecided → is_selecting p part.body ≡ false → (at : List (List ℤ)) → FlatSelects called k p part at → ⊥
  not_flat law h at f = never (is_selecting p part.body) ((law p part.body).1 (f.only, f.weightless, f.loopless)) h

-- ---- known offsets

next_is : {X : Type 0} (xs : List X) (i : ℕ) (x : X) → i < length xs → x ≡ get_or xs i x → drop i xs ≡ x ∷ drop (i + 1) xs
next_is xs i x low is = drop_more xs i x low ∙ ap (λ y. y ∷ drop (i + 1) xs) (sym is)

pub known_turn : (found : List (Option (Vec ℤ Global))) (i : ℕ) (x : Option (Vec ℤ Global)) (old new whole : List (Option (List ℤ))) → i < length found → x ≡ get_or found i x
    → new ≡ old ++ offset_told x ∷ [] → old ++ told (drop i found) ≡ whole → new ++ told (drop (i + 1) found) ≡ whole
known_turn found i x old new whole low is e h =
    let rest = told (drop (i + 1) found) in
    ap (λ l. l ++ rest) e ∙ append_assoc old (offset_told x ∷ []) rest ∙ ap (λ l. old ++ told l) (sym (next_is found i x low is)) ∙ h

pub known_end : (found : List (Option (Vec ℤ Global))) (i : ℕ) (old whole : List (Option (List ℤ))) → length found ≤ i → old ++ told (drop i found) ≡ whole → old ≡ whole
known_end found i old whole past h = sym (append-nil old) ∙ ap (λ l. old ++ told l) (sym (drop_all i found past)) ∙ h

none_inside : (at : List (List ℤ)) (old rest : List (Option (List ℤ))) → somes at ≡ old ++ None ∷ rest → ⊥
none_inside [] [] rest e = cc
none_inside [] (o ∷ old) rest e = cc
none_inside (c ∷ cs) [] rest e = let f : ◌≡◌ {A = Option (List ℤ)} (Some c) None = ap (λ l. get_or l 0 None) e in cc
none_inside (c ∷ cs) (o ∷ old) rest e = none_inside cs old rest (ap (drop 1) e)

pub known_none : (found : List (Option (Vec ℤ Global))) (i : ℕ) (x : Option (Vec ℤ Global)) (old whole : List (Option (List ℤ))) → i < length found → x ≡ get_or found i x
    → offset_told x ≡ None → old ++ told (drop i found) ≡ whole → (at : List (List ℤ)) → somes at ≡ whole → ⊥
known_none found i x old whole low is none h at e =
    none_inside at old (told (drop (i + 1) found)) (e ∙ sym h ∙ ap (λ l. old ++ told l) (next_is found i x low is) ∙ (λ j. old ++ none j ∷ told (drop (i + 1) found)))

-- one known offset more
pub pushed_known : (old new : List (Vec ℤ Global)) (v : Vec ℤ Global) (xs : List ℤ) → new ≡ old ++ v ∷ [] → v.items ≡ xs → somes (vectors new) ≡ somes (vectors old) ++ Some xs ∷ []
pushed_known old new v xs e f = ap (λ l. somes (vectors l)) e ∙ two old ∙ (λ i. somes (vectors old) ++ Some (f i) ∷ [])
  where
    two : (old : List (Vec ℤ Global)) → somes (vectors (old ++ v ∷ [])) ≡ somes (vectors old) ++ Some v.items ∷ []
    two [] = refl
    two (x ∷ old) = ap (λ l. Some x.items ∷ l) (two old)

pub is_known : (t : Bool) (fs gs : List Fact) → Some fs ≡ known_if t gs → t ≡ true
is_known true fs gs e = refl
is_known false fs gs e = absurd (let q : ◌≡◌ {A = Option (List Fact)} (Some fs) None = e in cc)
