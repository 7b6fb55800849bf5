-- One note more.
use Rattle.std.proofs.Common.{◌≡◌, ℕ, zero, suc, ◌+◌, ◌<◌, ◌≤◌, Bool, true, false, cond, eqb, List, [], ◌∷◌, map, drop, length, get_or, Option, Some, None, All, refl, sym, ap, ◌∙◌, arith}
use Rattle.std.specs.Prelude.{unwrap_or}
use Rattle.std.proofs.lemmas.List.{drop_more}
use Rattle.sac_base.specs.declared.base.Base.{Base}
use Rattle.sac_base.specs.declared.base.Base.TheVariants.{Int}
use Rattle.sac_base.specs.declared.types.ArrayType.{ArrayType}
use Rattle.core_ir.specs.declared.tree.Var.{Var}
use Rattle.core_ir.specs.WellFormed.{Bases, base_of}
use Rattle.core_ir.proofs.Variables.{same_number}
use Rattle.core_loops.specs.norm_steps.Step.{BaseTable as AllBases, AllNumbers}
use Rattle.variable_bases.specs.declared.table.BaseTable.{BaseTable}
use Rattle.variable_bases.specs.Learned.{HasParams, Noted, Keeps, Notes, Takes, Numbers}
use Rattle.variable_bases.specs.Table.{base_in, Tells, IsTold}
use Rattle.variable_bases.proofs.Scopes.{FrontTold, front_all, front_more, noted_keeps, noted_told}

-- of a variable that has the base
pub noted : (x : Var) (t : Base) (before after : BaseTable) (m : AllBases) → Noted x t before after → m x ≡ t → Tells before m → Tells after m
noted x t before after m note is old y u h = go (eqb x.0 y.0) refl
  where
    go : (b : Bool) → eqb x.0 y.0 ≡ b → m y ≡ u
    go true e =
        let told : Some t ≡ Some u = (λ i. cond (sym e i) (Some t) (base_in before y)) ∙ sym (note y) ∙ h in
        ap m (sym (same_number x y e)) ∙ is ∙ ap (λ o. unwrap_or o t) told
    go false e = old y u ((λ i. cond (sym e i) (Some t) (base_in before y)) ∙ sym (note y) ∙ h)

number_at : (m : AllBases) (xs : List Var) (k : ℕ) (d : Var) → AllNumbers m xs → k < length xs → m (get_or xs k d) ≡ Int
number_at m [] k d are less = absurd (omega (arith, less))
number_at m (x ∷ xs) zero d are less = sym are.0
number_at m (x ∷ xs) (suc k) d are less = number_at m xs k d are.1 (omega (arith, less))

-- so many numbers noted
pub record NumbersSoFar (xs : List Var) (k : ℕ) (start t : BaseTable) : Type 0 where
  pub tells : (m : AllBases) → AllNumbers m xs → Tells start m → Tells t m
  pub keeps : Keeps start t
  pub front : FrontTold xs k t

pub number_noted :
    (xs : List Var) (k : ℕ) (d : Var) (start t u : BaseTable) → k < length xs → NumbersSoFar xs k start t → Noted (get_or xs k d) Int t u → NumbersSoFar xs (k + 1) start u
number_noted xs k d start t u less so_far note =
    let keep = noted_keeps (get_or xs k d) Int t u note in
    record {
      tells = λ m are old. noted (get_or xs k d) Int t u m note (number_at m xs k d are less) (so_far.tells m are old);
      keeps = λ x h. keep x (so_far.keeps x h);
      front = front_more xs k d t u less keep (noted_told (get_or xs k d) Int t u note) so_far.front;
    }

pub no_number : (xs : List Var) (t : BaseTable) → NumbersSoFar xs 0 t t
no_number xs t = record { tells = λ m are old. old; keeps = λ x h. h; front = λ j d low. absurd (omega (arith, low)) }

pub numbers : (xs : List Var) (k : ℕ) (start t : BaseTable) → length xs ≤ k → NumbersSoFar xs k start t → Numbers xs start t
numbers xs k start t over so_far = record { tells = so_far.tells; keeps = so_far.keeps; told = front_all xs k t over so_far.front }

base_at : (m : AllBases) (xs : List Var) (ts : List Base) (k : ℕ) (d : Var) (c : Base) → map m xs ≡ ts → k < length xs → m (get_or xs k d) ≡ get_or ts k c
base_at m [] ts k d c e less = absurd (omega (arith, less))
base_at m (x ∷ xs) [] k d c e less = absurd (let z : length (map m (x ∷ xs)) ≡ length {A = Base} [] = ap length e in omega (arith, z))
base_at m (x ∷ xs) (t ∷ ts) zero d c e less = ap (λ (us : List Base). get_or us 0 c) e
base_at m (x ∷ xs) (t ∷ ts) (suc k) d c e less = base_at m xs ts k d c (ap (λ (us : List Base). drop 1 us) e) (omega (arith, less))

-- so many bases noted
pub record NotesSoFar (xs : List Var) (ts : List Base) (k : ℕ) (start t : BaseTable) : Type 0 where
  pub tells : (m : AllBases) → map m xs ≡ ts → Tells start m → Tells t m
  pub keeps : Keeps start t
  pub front : FrontTold xs k t

pub base_noted :
    (xs : List Var) (ts : List Base) (k : ℕ) (d : Var) (c : Base) (start here next : BaseTable) → k < length xs → NotesSoFar xs ts k start here →
    Noted (get_or xs k d) (get_or ts k c) here next → NotesSoFar xs ts (k + 1) start next
base_noted xs ts k d c start here next less so_far note =
    let keep = noted_keeps (get_or xs k d) (get_or ts k c) here next note in
    record {
      tells = λ m are old. noted (get_or xs k d) (get_or ts k c) here next m note (base_at m xs ts k d c are less) (so_far.tells m are old);
      keeps = λ x h. keep x (so_far.keeps x h);
      front = front_more xs k d here next less keep (noted_told (get_or xs k d) (get_or ts k c) here next note) so_far.front;
    }

pub no_note : (xs : List Var) (ts : List Base) (t : BaseTable) → NotesSoFar xs ts 0 t t
no_note xs ts t = record { tells = λ m are old. old; keeps = λ x h. h; front = λ j d low. absurd (omega (arith, low)) }

-- up to the end of one of the lists
pub notes : (xs : List Var) (ts : List Base) (k : ℕ) (start t : BaseTable) → (length xs ≤ length ts → length xs ≤ k) → NotesSoFar xs ts k start t → Notes xs ts start t
notes xs ts k start t over so_far = record {
  tells = so_far.tells;
  keeps = so_far.keeps;
  told = λ fits. front_all xs k t (over fits) so_far.front;
}

at_map : (m : AllBases) (xs : List Var) (k : ℕ) (d : Var) → get_or (map m xs) k (m d) ≡ m (get_or xs k d)
at_map m [] k d = refl
at_map m (x ∷ xs) zero d = refl
at_map m (x ∷ xs) (suc k) d = at_map m xs k d

-- so many bases taken
pub record TakesSoFar (xs ys : List Var) (k : ℕ) (start t : BaseTable) : Type 0 where
  pub tells : (m : AllBases) → map m xs ≡ map m ys → Tells start m → Tells t m
  pub keeps : Keeps start t
  pub front : All (IsTold start) ys → FrontTold xs k t

pub base_taken :
    (xs ys : List Var) (k : ℕ) (d e : Var) (t : Base) (start here next : BaseTable) → k < length xs → base_in here (get_or ys k e) ≡ Some t →
    TakesSoFar xs ys k start here → Noted (get_or xs k d) t here next → TakesSoFar xs ys (k + 1) start next
base_taken xs ys k d e t start here next less has so_far note =
    let keep = noted_keeps (get_or xs k d) t here next note in
    record {
      tells = λ m are old. noted (get_or xs k d) t here next m note (base_at m xs (map m ys) k d (m e) are less ∙ at_map m ys k e ∙ so_far.tells m are old (get_or ys k e) t has) (so_far.tells m are old);
      keeps = λ x h. keep x (so_far.keeps x h);
      front = λ told. front_more xs k d here next less keep (noted_told (get_or xs k d) t here next note) (so_far.front told);
    }

-- a source without a base
pub none_taken :
    (xs ys : List Var) (k : ℕ) (e : Var) (start here : BaseTable) → k < length ys → base_in here (get_or ys k e) ≡ None → TakesSoFar xs ys k start here →
    TakesSoFar xs ys (k + 1) start here
none_taken xs ys k e start here less none so_far = record {
  tells = so_far.tells;
  keeps = so_far.keeps;
  front = λ told j d low. absurd (let h = so_far.keeps (get_or ys k e) (told k e less) in let z : ◌≡◌ {A = Option Base} None (Some h.0) = sym none ∙ h.1 in cc);
}

pub no_take : (xs ys : List Var) (t : BaseTable) → TakesSoFar xs ys 0 t t
no_take xs ys t = record { tells = λ m are old. old; keeps = λ x h. h; front = λ told j d low. absurd (omega (arith, low)) }

-- up to the end of one of the lists
pub takes : (xs ys : List Var) (k : ℕ) (start t : BaseTable) → (length xs ≤ length ys → length xs ≤ k) → TakesSoFar xs ys k start t → Takes xs ys start t
takes xs ys k start t over so_far = record {
  tells = so_far.tells;
  keeps = so_far.keeps;
  told = λ fits told. front_all xs k t (over fits) (so_far.front told);
}

-- one parameter more at the front
abbrev pairs : List (Var × ArrayType) → Bases
pairs ps = map (λ (p : Var × ArrayType). (p.0, p.1.base)) ps

pub param_noted :
    (ps : List (Var × ArrayType)) (left k : ℕ) (p : Var × ArrayType) (here next : BaseTable) → left ≤ length ps → left ≡ k + 1 → p ≡ get_or ps k p →
    HasParams (drop left ps) here → Noted p.0 p.1.base here next → HasParams (drop k ps) next
param_noted ps left k p here next low is this so_far note y =
    note y ∙ ap (λ o. cond (eqb p.0.0 y.0) (Some p.1.base) o) (so_far y ∙ (λ i. base_of (pairs (drop (is i) ps)) y)) ∙ (λ i. base_of (pairs (this i ∷ drop (k + 1) ps)) y)
    ∙ sym (ap (λ qs. base_of (pairs qs) y) (drop_more ps k p (omega (arith, low, is))))
