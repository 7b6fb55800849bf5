-- Sources may be used in the place of copies.
use Rattle.std.proofs.Common.{◌≡◌, ℕ, Bool, true, false, cond, eqb, List, [], ◌∷◌, ◌++◌, map, Option, Some, None, Ok, refl, sym, ap, subst, ◌∙◌}
use Rattle.std.specs.Prelude.{if◌then◌else◌, option_map, option_to_list, zip}
use Rattle.sac_base.specs.declared.base.Base.{Base}
use Rattle.sac_base.specs.declared.base.Base.TheVariants.{Int, Bool as Truth}
use Rattle.sac_base.specs.declared.faults.FaultKind.TheVariants.{F6}
use Rattle.sac_base.specs.declared.site.Site.{Site}
use Rattle.sac_base.specs.declared.grid.Grid1.{Grid1}
use Rattle.sac_base.specs.Arrays.{ArrayValue, scalar, vector}
use Rattle.sac_base.specs.Grids.{members}
use Rattle.sac_base.specs.Operators.{binary, unary}
use Rattle.sac_base.specs.Outcomes.{and_then, fault, at_site, choose}
use Rattle.sac_base.specs.Parts.{condition, dim, literal, replace, reshape, select, shape_vector}
use Rattle.sac_base.specs.WithLoops.{Operation, with_value, each}
use Rattle.core_ir.specs.declared.tree.Var.{Var}
use Rattle.core_ir.specs.declared.tree.CoreOp.{CoreOp}
use Rattle.core_ir.specs.declared.tree.CoreOp.TheVariants as making
use Rattle.core_ir.specs.declared.tree.PartedOp.{PartedOp}
use Rattle.core_ir.specs.declared.tree.PartedOp.TheVariants as parted
use Rattle.core_ir.specs.Binders.{is_in, NoneIn, bound_in, bound_in_right, bound_in_gens, bound_in_parts}
use Rattle.core_ir.specs.Meaning.{Env, Cells, CallMeaning, bind, bind_all, checked, first, loop_value, name_count, one, made_of, neutral_fits, cell_form, cell_at, generator, operation, plain_value, with_index, run, right_value, generators, cells}
use Rattle.core_ir.specs.Scopes.{AllIn, Scoped, ScopedRight, ScopedGens, ScopedParts, head_uses, op_uses, parted_uses, plain_uses}
use Rattle.core_ir.specs.Terms.{PlainTerm, BlockTerm, RightTerm, GensTerm, PartsTerm, GenHead, CoreTerm, Gives, Bind, Plain, NoGens, Gen, NoParts, Part}
use Rattle.core_ir.specs.WellFormed.{AllHave, Bases, BlockBases, GensBases, HasBases, LiteralBase, OperationBase, OptionHas, PartedBase, PartedFits, PartsBases, PlainBases, RightBases, base_of, calls_in, calls_in_right, calls_in_gens, calls_in_parts, ints, part_grids}
use Rattle.core_ir.proofs.Edited.{then_same}
use Rattle.core_ir.proofs.Splice.{bound_elsewhere}
use Rattle.core_ir.proofs.Variables.{in_front, in_neither, not_bound, or_false}
use Rattle.core_facts.proofs.Shapes.{ok_same}
use Rattle.core_subst.specs.Substitution.{plain_with, core_op_with, parted_op_with, gen_head_with}
use Rattle.core_forms.specs.cleaning.Copies.{source, behind, forwarded, forwarded_right, forwarded_gens, forwarded_parts}
use Rattle.core_forms.proofs.cleaning.Lists.{zip_elsewhere, ints_elsewhere}

-- ---- what stands for the variables in scope

-- a variable in scope stands for each in scope, and any other for itself
pub record Keeps (scope : List Var) (f : Var → Var) : Type 0 where
  pub outside : (y : Var) → is_in y scope ≡ false → f y ≡ y
  pub inside : (y : Var) → is_in y scope ≡ true → is_in (f y) scope ≡ true

-- with the same value
abbrev pub Follows : (Var → Var) → Env → Type 0
Follows f e = (y : Var) → e (f y) ≡ e y

-- and of the same base
abbrev pub SameBases : (Var → Var) → Bases → Type 0
SameBases f g = (y : Var) → base_of g (f y) ≡ base_of g y

-- ---- behind binders

keeps_more : (xs scope : List Var) (f : Var → Var) → Keeps scope f → Keeps (xs ++ scope) f
keeps_more xs scope f k = record {
  outside = λ y n. k.outside y (in_neither y xs scope n).1;
  inside = λ y p. go y (is_in y scope) refl p;
}
  where
    go : (y : Var) (b : Bool) → is_in y scope ≡ b → is_in y (xs ++ scope) ≡ true → is_in (f y) (xs ++ scope) ≡ true
    go y true e p = in_front (f y) xs scope (k.inside y e)
    go y false e p = ap (λ z. is_in z (xs ++ scope)) (k.outside y e) ∙ p

-- what holds of a list at its start, and is read beside further binders
follows_more : (calls : CallMeaning) (turns : ℕ) (xs scope : List Var) (f : Var → Var) (e : Env) (vs : List ArrayValue) → NoneIn xs scope → Keeps scope f → Follows f e → Follows f (bind_all e xs vs)
follows_more calls turns xs scope f e vs n k h = λ y. go y (is_in y scope) refl
  where
    go : (y : Var) (b : Bool) → is_in y scope ≡ b → bind_all e xs vs (f y) ≡ bind_all e xs vs y
    go y true p = bound_elsewhere calls turns xs vs e (f y) (not_bound xs scope (f y) n (k.inside y p)) ∙ h y ∙ sym (bound_elsewhere calls turns xs vs e y (not_bound xs scope y n p))
    go y false p = ap (bind_all e xs vs) (k.outside y p)

-- bases that only variables of a list get
bases_more : (xs scope : List Var) (f : Var → Var) (g new : Bases) → ((y : Var) → is_in y xs ≡ false → base_of new y ≡ base_of g y) → NoneIn xs scope → Keeps scope f → SameBases f g → SameBases f new
bases_more xs scope f g new elsewhere n k h = λ y. go y (is_in y scope) refl
  where
    go : (y : Var) (b : Bool) → is_in y scope ≡ b → base_of new (f y) ≡ base_of new y
    go y true p = elsewhere (f y) (not_bound xs scope (f y) n (k.inside y p)) ∙ h y ∙ sym (elsewhere y (not_bound xs scope y n p))
    go y false p = ap (base_of new) (k.outside y p)

-- ---- behind a binding

keeps_behind : (xs : List Var) (o : Option Var) (scope : List Var) (f : Var → Var) → ((x : Var) → o ≡ Some x → is_in x scope ≡ true) → Keeps scope f → Keeps (xs ++ scope) (behind xs o f)
keeps_behind [] o scope f h k = k
keeps_behind (t ∷ []) None scope f h k = keeps_more (t ∷ []) scope f k
keeps_behind (t ∷ u ∷ ts) o scope f h k = keeps_more (t ∷ u ∷ ts) scope f k
keeps_behind (t ∷ []) (Some x) scope f h k = record {
  outside = λ y n. let w = or_false (eqb t.0 y.0) (is_in y scope) n in (λ i. cond (w.0 i) x (f y)) ∙ k.outside y w.1;
  inside = λ y p. go y p (eqb t.0 y.0);
}
  where
    go : (y : Var) → is_in y (t ∷ scope) ≡ true → (b : Bool) → is_in (cond b x (f y)) (t ∷ scope) ≡ true
    go y p true = in_front x (t ∷ []) scope (h x refl)
    go y p false = (keeps_more (t ∷ []) scope f k).inside y p

follows_behind : (calls : CallMeaning) (turns : ℕ) (xs : List Var) (o : Option Var) (scope : List Var) (f : Var → Var) (e : Env) (vs : List ArrayValue)
    → ((x : Var) → o ≡ Some x → (is_in x scope ≡ true) × (vs ≡ e x ∷ [])) → NoneIn xs scope → Keeps scope f → Follows f e → Follows (behind xs o f) (bind_all e xs vs)
follows_behind calls turns [] o scope f e vs h n k w = w
follows_behind calls turns (t ∷ []) None scope f e vs h n k w = follows_more calls turns (t ∷ []) scope f e vs n k w
follows_behind calls turns (t ∷ u ∷ ts) o scope f e vs h n k w = follows_more calls turns (t ∷ u ∷ ts) scope f e vs n k w
follows_behind calls turns (t ∷ []) (Some x) scope f e vs h n k w = λ y. go y (eqb t.0 y.0) refl
  where
    go : (y : Var) (b : Bool) → eqb t.0 y.0 ≡ b → bind_all e (t ∷ []) vs (cond b x (f y)) ≡ bind_all e (t ∷ []) vs y
    go y true p =
        let q = h x refl in
        bound_elsewhere calls turns (t ∷ []) vs e x (not_bound (t ∷ []) scope x n q.0)
        ∙ sym ((λ i. bind_all e (t ∷ []) (q.1 i) y) ∙ (λ i. cond (p i) (e x) (e y)))
    go y false p = follows_more calls turns (t ∷ []) scope f e vs n k w y

bases_behind : (xs : List Var) (o : Option Var) (scope : List Var) (f : Var → Var) (g : Bases) (ts : List Base)
    → ((x : Var) → o ≡ Some x → (is_in x scope ≡ true) × ((u : Base) × (base_of g x ≡ Some u) × (ts ≡ u ∷ []))) → NoneIn xs scope → Keeps scope f → SameBases f g → SameBases (behind xs o f) (zip xs ts ++ g)
bases_behind [] o scope f g ts h n k w = w
bases_behind (t ∷ []) None scope f g ts h n k w = bases_more (t ∷ []) scope f g (zip (t ∷ []) ts ++ g) (zip_elsewhere (t ∷ []) ts g) n k w
bases_behind (t ∷ u ∷ us) o scope f g ts h n k w = bases_more (t ∷ u ∷ us) scope f g (zip (t ∷ u ∷ us) ts ++ g) (zip_elsewhere (t ∷ u ∷ us) ts g) n k w
bases_behind (t ∷ []) (Some x) scope f g ts h n k w = λ y. go y (eqb t.0 y.0) refl
  where
    go : (y : Var) (b : Bool) → eqb t.0 y.0 ≡ b → base_of (zip (t ∷ []) ts ++ g) (cond b x (f y)) ≡ base_of (zip (t ∷ []) ts ++ g) y
    go y true p =
        let q = h x refl in
        zip_elsewhere (t ∷ []) ts g x (not_bound (t ∷ []) scope x n q.0)
        ∙ q.1.1
        ∙ sym ((λ i. base_of (zip (t ∷ []) (q.1.2 i) ++ g) y) ∙ (λ i. cond (p i) (Some q.1.0) (base_of g y)))
    go y false p = bases_more (t ∷ []) scope f g (zip (t ∷ []) ts ++ g) (zip_elsewhere (t ∷ []) ts g) n k w y

-- ---- copies

abbrev var_or : Var → Option Var → Var
var_or x None = x
var_or x (Some y) = y

no_var : {A : Type 0} (x : Var) → ◌≡◌ {A = Option Var} None (Some x) → A
no_var x p = absurd (cc)

source_says : (r : RightTerm) (f : Var → Var) (x : Var) → source (forwarded_right r f) ≡ Some x → (z : Var) × (r ≡ Plain (PlainTerm.Copy z)) × (f z ≡ x)
source_says (Plain (PlainTerm.Copy z)) f x p = (z, refl, ap (var_or x) p)
source_says (Plain (PlainTerm.Const a)) f x p = no_var x p
source_says (Plain (PlainTerm.Unary o y)) f x p = no_var x p
source_says (Plain (PlainTerm.Binary o y z)) f x p = no_var x p
source_says (Plain (PlainTerm.Literal ys)) f x p = no_var x p
source_says (Plain (PlainTerm.Dim y)) f x p = no_var x p
source_says (Plain (PlainTerm.ShapeOf y)) f x p = no_var x p
source_says (Plain (PlainTerm.Reshape y z)) f x p = no_var x p
source_says (Plain (PlainTerm.Select y z)) f x p = no_var x p
source_says (Plain (PlainTerm.Replace y z w)) f x p = no_var x p
source_says (Plain (PlainTerm.Always kind)) f x p = no_var x p
source_says (Plain (PlainTerm.Check y ty)) f x p = no_var x p
source_says (RightTerm.If y a b) f x p = no_var x p
source_says (RightTerm.Loop first start params test body s) f x p = no_var x p
source_says (RightTerm.Call g ys) f x p = no_var x p
source_says (RightTerm.With o gens) f x p = no_var x p
source_says (RightTerm.Parted frame base cell o parts) f x p = no_var x p

source_scoped : (r : RightTerm) (scope : List Var) (f : Var → Var) → ScopedRight scope r → Keeps scope f → (x : Var) → source (forwarded_right r f) ≡ Some x → is_in x scope ≡ true
source_scoped r scope f h k x p =
    let w = source_says r f x p in
    ap (λ y. is_in y scope) (sym w.2) ∙ k.inside w.0 (subst (ScopedRight scope) w.1 h).0

source_value : (calls : CallMeaning) (turns : ℕ) (r : RightTerm) (s : Site) (f : Var → Var) (e : Env) (vs : List ArrayValue) → Follows f e → right_value calls turns r s e ≡ Ok vs → (x : Var) → source (forwarded_right r f) ≡ Some x → vs ≡ e x ∷ []
source_value calls turns r s f e vs h q x p =
    let w = source_says r f x p in
    let given : ◌≡◌ {A = Rattle.core_ir.specs.Meaning.Answer} (Ok (e w.0 ∷ [])) (Ok vs) = sym (ap (λ z. right_value calls turns z s e) w.1) ∙ q in
    sym (ok_same (e w.0 ∷ []) vs given) ∙ (λ i. (sym (h w.0) ∙ ap e w.2) i ∷ [])

source_base : (core : CoreTerm) (r : RightTerm) (f : Var → Var) (g : Bases) (ts : List Base) → SameBases f g → RightBases core g r ts → (x : Var) → source (forwarded_right r f) ≡ Some x → (u : Base) × (base_of g x ≡ Some u) × (ts ≡ u ∷ [])
source_base core r f g ts h b x p =
    let w = source_says r f x p in
    let c = subst (λ z. RightBases core g z ts) w.1 b in
    (c.0, ap (base_of g) (sym w.2) ∙ h w.0 ∙ c.1, c.2)

-- ---- what does not change

mutual
  pub bound_kept : (b : BlockTerm) (f : Var → Var) → bound_in (forwarded b f) ≡ bound_in b
  bound_kept (Gives xs) f = refl
  bound_kept (Bind xs s r b) f = λ i. xs ++ (bound_kept_right r f i ++ bound_kept b (behind xs (source (forwarded_right r f)) f) i)

  bound_kept_right : (r : RightTerm) (f : Var → Var) → bound_in_right (forwarded_right r f) ≡ bound_in_right r
  bound_kept_right (Plain p) f = refl
  bound_kept_right (RightTerm.If x a b) f = λ i. bound_kept a f i ++ bound_kept b f i
  bound_kept_right (RightTerm.Loop first start params test body s) f = λ i. params ++ (bound_kept test f i ++ bound_kept body f i)
  bound_kept_right (RightTerm.Call g xs) f = refl
  bound_kept_right (RightTerm.With o gens) f = bound_kept_gens gens f
  bound_kept_right (RightTerm.Parted frame t c o parts) f = bound_kept_parts parts f

  bound_kept_gens : (gs : GensTerm) (f : Var → Var) → bound_in_gens (forwarded_gens gs f) ≡ bound_in_gens gs
  bound_kept_gens NoGens f = refl
  bound_kept_gens (Gen h b rest) f = λ i. (h.index ∷ h.names) ++ (bound_kept b f i ++ bound_kept_gens rest f i)

  bound_kept_parts : (ps : PartsTerm) (f : Var → Var) → bound_in_parts (forwarded_parts ps f) ≡ bound_in_parts ps
  bound_kept_parts NoParts f = refl
  bound_kept_parts (Part h b rest) f = λ i. (h.index ∷ []) ++ (bound_kept b f i ++ bound_kept_parts rest f i)

mutual
  pub calls_kept : (b : BlockTerm) (f : Var → Var) → calls_in (forwarded b f) ≡ calls_in b
  calls_kept (Gives xs) f = refl
  calls_kept (Bind xs s r b) f = λ i. calls_kept_right r f i ++ calls_kept b (behind xs (source (forwarded_right r f)) f) i

  calls_kept_right : (r : RightTerm) (f : Var → Var) → calls_in_right (forwarded_right r f) ≡ calls_in_right r
  calls_kept_right (Plain p) f = refl
  calls_kept_right (RightTerm.If x a b) f = λ i. calls_kept a f i ++ calls_kept b f i
  calls_kept_right (RightTerm.Loop first start params test body s) f = λ i. calls_kept test f i ++ calls_kept body f i
  calls_kept_right (RightTerm.Call g xs) f = refl
  calls_kept_right (RightTerm.With o gens) f = calls_kept_gens gens f
  calls_kept_right (RightTerm.Parted frame t c o parts) f = calls_kept_parts parts f

  calls_kept_gens : (gs : GensTerm) (f : Var → Var) → calls_in_gens (forwarded_gens gs f) ≡ calls_in_gens gs
  calls_kept_gens NoGens f = refl
  calls_kept_gens (Gen h b rest) f = λ i. calls_kept b f i ++ calls_kept_gens rest f i

  calls_kept_parts : (ps : PartsTerm) (f : Var → Var) → calls_in_parts (forwarded_parts ps f) ≡ calls_in_parts ps
  calls_kept_parts NoParts f = refl
  calls_kept_parts (Part h b rest) f = λ i. calls_kept b f i ++ calls_kept_parts rest f i

grids_kept : (ps : PartsTerm) (f : Var → Var) → part_grids (forwarded_parts ps f) ≡ part_grids ps
grids_kept NoParts f = refl
grids_kept (Part h b rest) f = ap (λ gs. h.grid ∷ gs) (grids_kept rest f)

-- ---- scopes

all_in : (xs scope : List Var) (f : Var → Var) → Keeps scope f → AllIn xs scope → AllIn (map f xs) scope
all_in [] scope f k h = tt
all_in (x ∷ xs) scope f k h = (k.inside x h.0, all_in xs scope f k h.1)

plain_in : (p : PlainTerm) (scope : List Var) (f : Var → Var) → Keeps scope f → AllIn (plain_uses p) scope → AllIn (plain_uses (plain_with f p)) scope
plain_in (PlainTerm.Const a) scope f k h = tt
plain_in (PlainTerm.Copy x) scope f k h = all_in (x ∷ []) scope f k h
plain_in (PlainTerm.Unary o x) scope f k h = all_in (x ∷ []) scope f k h
plain_in (PlainTerm.Binary o x y) scope f k h = all_in (x ∷ y ∷ []) scope f k h
plain_in (PlainTerm.Literal xs) scope f k h = all_in xs scope f k h
plain_in (PlainTerm.Dim x) scope f k h = all_in (x ∷ []) scope f k h
plain_in (PlainTerm.ShapeOf x) scope f k h = all_in (x ∷ []) scope f k h
plain_in (PlainTerm.Reshape x y) scope f k h = all_in (x ∷ y ∷ []) scope f k h
plain_in (PlainTerm.Select x y) scope f k h = all_in (x ∷ y ∷ []) scope f k h
plain_in (PlainTerm.Replace x y z) scope f k h = all_in (x ∷ y ∷ z ∷ []) scope f k h
plain_in (PlainTerm.Always kind) scope f k h = tt
plain_in (PlainTerm.Check x ty) scope f k h = all_in (x ∷ []) scope f k h

op_in : (o : CoreOp) (scope : List Var) (f : Var → Var) → Keeps scope f → AllIn (op_uses o) scope → AllIn (op_uses (core_op_with f o)) scope
op_in (making.Genarray x y) scope f k h = all_in (x ∷ y ∷ []) scope f k h
op_in (making.Modarray x) scope f k h = all_in (x ∷ []) scope f k h
op_in (making.Fold o x) scope f k h = all_in (x ∷ []) scope f k h

parted_in : (o : PartedOp) (scope : List Var) (f : Var → Var) → Keeps scope f → AllIn (parted_uses o) scope → AllIn (parted_uses (parted_op_with f o)) scope
parted_in parted.Genarray scope f k h = tt
parted_in (parted.Modarray x) scope f k h = all_in (x ∷ []) scope f k h
parted_in (parted.Fold o x) scope f k h = all_in (x ∷ []) scope f k h

-- the operands of a generator, one list after another
map_joined : (f : Var → Var) (xs ys : List Var) → map f (xs ++ ys) ≡ map f xs ++ map f ys
map_joined f [] ys = refl
map_joined f (x ∷ xs) ys = ap (λ l. f x ∷ l) (map_joined f xs ys)

option_mapped : (f : Var → Var) (o : Option Var) → option_to_list (option_map f o) ≡ map f (option_to_list o)
option_mapped f None = refl
option_mapped f (Some x) = refl

head_mapped : (f : Var → Var) (h : GenHead) → head_uses (gen_head_with f h) ≡ map f (head_uses h)
head_mapped f h =
    let a = option_to_list h.lower in
    let b = option_to_list h.upper in
    let c = option_to_list h.step in
    let d = option_to_list h.width in
    (λ i. option_mapped f h.lower i ++ (option_mapped f h.upper i ++ (option_mapped f h.step i ++ option_mapped f h.width i)))
    ∙ sym (map_joined f a (b ++ (c ++ d)) ∙ (λ i. map f a ++ map_joined f b (c ++ d) i) ∙ (λ i. map f a ++ (map f b ++ map_joined f c d i)))

head_in : (h : GenHead) (scope : List Var) (f : Var → Var) → Keeps scope f → AllIn (head_uses h) scope → AllIn (head_uses (gen_head_with f h)) scope
head_in h scope f k a = subst (λ xs. AllIn xs scope) (sym (head_mapped f h)) (all_in (head_uses h) scope f k a)

mutual
  pub scoped_kept : (b : BlockTerm) (scope : List Var) (f : Var → Var) → Keeps scope f → Scoped scope b → Scoped scope (forwarded b f)
  scoped_kept (Gives xs) scope f k h = all_in xs scope f k h
  scoped_kept (Bind xs s r b) scope f k h = (
    scoped_kept_right r scope f k h.0,
    h.1,
    scoped_kept b (xs ++ scope) (behind xs (source (forwarded_right r f)) f) (keeps_behind xs (source (forwarded_right r f)) scope f (source_scoped r scope f h.0 k) k) h.2,
  )

  scoped_kept_right : (r : RightTerm) (scope : List Var) (f : Var → Var) → Keeps scope f → ScopedRight scope r → ScopedRight scope (forwarded_right r f)
  scoped_kept_right (Plain p) scope f k h = plain_in p scope f k h
  scoped_kept_right (RightTerm.If x a b) scope f k h = (k.inside x h.0, scoped_kept a scope f k h.1, scoped_kept b scope f k h.2)
  scoped_kept_right (RightTerm.Loop first start params test body s) scope f k h =
      (all_in start scope f k h.0, h.1, scoped_kept test (params ++ scope) f (keeps_more params scope f k) h.2, scoped_kept body (params ++ scope) f (keeps_more params scope f k) h.3)
  scoped_kept_right (RightTerm.Call g xs) scope f k h = all_in xs scope f k h
  scoped_kept_right (RightTerm.With o gens) scope f k h = (op_in o scope f k h.0, scoped_kept_gens gens scope f k h.1)
  scoped_kept_right (RightTerm.Parted frame t c o parts) scope f k h = (parted_in o scope f k h.0, scoped_kept_parts parts scope f k h.1)

  scoped_kept_gens : (gs : GensTerm) (scope : List Var) (f : Var → Var) → Keeps scope f → ScopedGens scope gs → ScopedGens scope (forwarded_gens gs f)
  scoped_kept_gens NoGens scope f k h = tt
  scoped_kept_gens (Gen j b rest) scope f k h =
      (head_in j scope f k h.0, h.1, scoped_kept b ((j.index ∷ j.names) ++ scope) f (keeps_more (j.index ∷ j.names) scope f k) h.2, scoped_kept_gens rest scope f k h.3)

  scoped_kept_parts : (ps : PartsTerm) (scope : List Var) (f : Var → Var) → Keeps scope f → ScopedParts scope ps → ScopedParts scope (forwarded_parts ps f)
  scoped_kept_parts NoParts scope f k h = tt
  scoped_kept_parts (Part j b rest) scope f k h =
      (h.0, scoped_kept b (j.index ∷ scope) f (keeps_more (j.index ∷ []) scope f k) h.1, scoped_kept_parts rest scope f k h.2)

-- ---- bases

module _ (f : Var → Var) (g : Bases) (same : SameBases f g) where
  its_base : (x : Var) (t : Base) → base_of g x ≡ Some t → base_of g (f x) ≡ Some t
  its_base x t p = same x ∙ p

  bases_mapped : (xs : List Var) (ts : List Base) → HasBases g xs ts → HasBases g (map f xs) ts
  bases_mapped [] [] h = tt
  bases_mapped (x ∷ xs) (t ∷ ts) h = (its_base x t h.0, bases_mapped xs ts h.1)
  bases_mapped [] (t ∷ ts) h = absurd h
  bases_mapped (x ∷ xs) [] h = absurd h

  all_mapped : (xs : List Var) (t : Base) → AllHave g xs t → AllHave g (map f xs) t
  all_mapped [] t h = tt
  all_mapped (x ∷ xs) t h = (its_base x t h.0, all_mapped xs t h.1)

  option_based : (x : Option Var) (t : Base) → OptionHas g x t → OptionHas g (option_map f x) t
  option_based None t h = tt
  option_based (Some x) t h = its_base x t h

  literal_based : (xs : List Var) (t : Base) → LiteralBase g xs t → LiteralBase g (map f xs) t
  literal_based [] t h = h
  literal_based (x ∷ xs) t h = all_mapped (x ∷ xs) t h

  plain_based : (p : PlainTerm) (ts : List Base) → PlainBases g p ts → PlainBases g (plain_with f p) ts
  plain_based (PlainTerm.Const a) ts h = h
  plain_based (PlainTerm.Copy x) ts h = (h.0, its_base x h.0 h.1, h.2)
  plain_based (PlainTerm.Unary o x) ts h = (h.0, (h.1.0, its_base x h.0 h.1.1, h.1.2, h.1.3))
  plain_based (PlainTerm.Binary o x y) ts h = (h.0, (h.1.0, its_base x h.0 h.1.1, its_base y h.0 h.1.2, h.1.3, h.1.4))
  plain_based (PlainTerm.Literal xs) ts h = (h.0, literal_based xs h.0 h.1, h.2)
  plain_based (PlainTerm.Dim x) ts h = (h.0, its_base x h.0 h.1, h.2)
  plain_based (PlainTerm.ShapeOf x) ts h = (h.0, its_base x h.0 h.1, h.2)
  plain_based (PlainTerm.Reshape x y) ts h = (h.0, its_base x Int h.1, its_base y h.0 h.2, h.3)
  plain_based (PlainTerm.Select x y) ts h = (h.0, its_base x h.0 h.1, its_base y Int h.2, h.3)
  plain_based (PlainTerm.Replace x y z) ts h = (h.0, its_base x h.0 h.1, its_base y Int h.2, its_base z h.0 h.3, h.4)
  plain_based (PlainTerm.Always kind) ts h = tt
  plain_based (PlainTerm.Check x ty) ts h = (its_base x ty.base h.0, h.1)

  operation_based : (o : CoreOp) (t : Base) → OperationBase g o t → OperationBase g (core_op_with f o) t
  operation_based (making.Genarray x y) t h = (its_base x Int h.0, its_base y t h.1)
  operation_based (making.Modarray x) t h = its_base x t h
  operation_based (making.Fold o x) t h = (its_base x t h.0, h.1)

  parted_based : (o : PartedOp) (t : Base) → PartedBase g o t → PartedBase g (parted_op_with f o) t
  parted_based parted.Genarray t h = tt
  parted_based (parted.Modarray x) t h = its_base x t h
  parted_based (parted.Fold o x) t h = (its_base x t h.0, h.1)

parted_fits : (o : PartedOp) (f : Var → Var) (frame : List Grid1) (cell : List ℕ) (gs : List (List Grid1)) → PartedFits o frame cell gs → PartedFits (parted_op_with f o) frame cell gs
parted_fits parted.Genarray f frame cell gs h = h
parted_fits (parted.Modarray x) f frame cell gs h = h
parted_fits (parted.Fold o x) f frame cell gs h = h

module _ (core : CoreTerm) where
  mutual
    pub block_kept : (b : BlockTerm) (scope : List Var) (f : Var → Var) (g : Bases) (ts : List Base) → Keeps scope f → SameBases f g → Scoped scope b → BlockBases core g b ts → BlockBases core g (forwarded b f) ts
    block_kept (Gives xs) scope f g ts k w h b = bases_mapped f g w xs ts b
    block_kept (Bind xs s r rest) scope f g ts k w h b =
        let o = source (forwarded_right r f) in (
          b.0,
          (
            right_kept r scope f g b.0 k w h.0 b.1.0,
            b.1.1,
            block_kept rest (xs ++ scope) (behind xs o f) (zip xs b.0 ++ g) ts (keeps_behind xs o scope f (source_scoped r scope f h.0 k) k)
                (bases_behind xs o scope f g b.0 (λ x p. (source_scoped r scope f h.0 k x p, source_base core r f g b.0 w b.1.0 x p)) h.1 k w) h.2 b.1.2,
          ),
        )

    right_kept : (r : RightTerm) (scope : List Var) (f : Var → Var) (g : Bases) (ts : List Base) → Keeps scope f → SameBases f g → ScopedRight scope r → RightBases core g r ts → RightBases core g (forwarded_right r f) ts
    right_kept (Plain p) scope f g ts k w h b = plain_based f g w p ts b
    right_kept (RightTerm.If x c d) scope f g ts k w h b = (its_base f g w x Truth b.0, block_kept c scope f g ts k w h.1 b.1, block_kept d scope f g ts k w h.2 b.2)
    right_kept (RightTerm.Loop first start params test body s) scope f g ts k w h b =
        let more = bases_more params scope f g (zip params ts ++ g) (zip_elsewhere params ts g) h.1 k w in
        let keep = keeps_more params scope f k in
        (bases_mapped f g w start ts b.0, b.1, block_kept test (params ++ scope) f (zip params ts ++ g) (Truth ∷ []) keep more h.2 b.2, block_kept body (params ++ scope) f (zip params ts ++ g) ts keep more h.3 b.3)
    right_kept (RightTerm.Call group xs) scope f g ts k w h b = (b.0, (bases_mapped f g w xs b.0 b.1.0, b.1.1))
    right_kept (RightTerm.With o gens) scope f g ts k w h b = (b.0, (operation_based f g w o b.0 b.1.0, gens_kept gens scope f g b.0 k w h.1 b.1.1, b.1.2))
    right_kept (RightTerm.Parted frame t cell o parts) scope f g ts k w h b =
        (parted_based f g w o t b.0, parts_kept parts scope f g t k w h.1 b.1, subst (λ gs. PartedFits (parted_op_with f o) frame cell gs) (sym (grids_kept parts f)) (parted_fits o f frame cell (part_grids parts) b.2), b.3)

    gens_kept : (gs : GensTerm) (scope : List Var) (f : Var → Var) (g : Bases) (t : Base) → Keeps scope f → SameBases f g → ScopedGens scope gs → GensBases core g gs t → GensBases core g (forwarded_gens gs f) t
    gens_kept NoGens scope f g t k w h b = tt
    gens_kept (Gen j c rest) scope f g t k w h b =
        let xs = j.index ∷ j.names in (
          option_based f g w j.lower Int b.0,
          option_based f g w j.upper Int b.1,
          option_based f g w j.step Int b.2,
          option_based f g w j.width Int b.3,
          block_kept c (xs ++ scope) f (ints xs ++ g) (t ∷ []) (keeps_more xs scope f k) (bases_more xs scope f g (ints xs ++ g) (ints_elsewhere xs g) h.1 k w) h.2 b.4,
          gens_kept rest scope f g t k w h.3 b.5,
        )

    parts_kept : (ps : PartsTerm) (scope : List Var) (f : Var → Var) (g : Bases) (t : Base) → Keeps scope f → SameBases f g → ScopedParts scope ps → PartsBases core g ps t → PartsBases core g (forwarded_parts ps f) t
    parts_kept NoParts scope f g t k w h b = tt
    parts_kept (Part j c rest) scope f g t k w h b =
        (block_kept c (j.index ∷ scope) f ((j.index, Int) ∷ g) (t ∷ []) (keeps_more (j.index ∷ []) scope f k) (bases_more (j.index ∷ []) scope f g ((j.index, Int) ∷ g) (ints_elsewhere (j.index ∷ []) g) (h.0, tt) k w) h.1 b.0, parts_kept rest scope f g t k w h.2 b.1)

-- ---- the meaning

module _ (f : Var → Var) (e : Env) (h : Follows f e) where
  map_same : (xs : List Var) → map e (map f xs) ≡ map e xs
  map_same [] = refl
  map_same (x ∷ xs) = λ i. h x i ∷ map_same xs i

  option_same : (x : Option Var) → option_map e (option_map f x) ≡ option_map e x
  option_same None = refl
  option_same (Some x) = λ i. Some (h x i)

  plain_same : (p : PlainTerm) → plain_value (plain_with f p) e ≡ plain_value p e
  plain_same (PlainTerm.Const a) = refl
  plain_same (PlainTerm.Copy x) = λ i. Ok (h x i)
  plain_same (PlainTerm.Unary o x) = λ i. Ok (unary o (h x i))
  plain_same (PlainTerm.Binary o x y) = λ i. binary o (h x i) (h y i)
  plain_same (PlainTerm.Literal xs) = ap literal (map_same xs)
  plain_same (PlainTerm.Dim x) = λ i. Ok (dim (h x i))
  plain_same (PlainTerm.ShapeOf x) = λ i. Ok (shape_vector (h x i))
  plain_same (PlainTerm.Reshape x y) = λ i. reshape (h x i) (h y i)
  plain_same (PlainTerm.Select x y) = λ i. select (h x i) (h y i)
  plain_same (PlainTerm.Replace x y z) = λ i. replace (h x i) (h y i) (h z i)
  plain_same (PlainTerm.Always kind) = refl
  plain_same (PlainTerm.Check x ty) = λ i. checked ty (h x i)

  operation_same : (o : CoreOp) (s : Site) → operation (core_op_with f o) s e ≡ operation o s e
  operation_same (making.Genarray x y) s = λ i. Rattle.sac_base.specs.WithLoops.genarray (h x i) (h y i) s
  operation_same (making.Modarray x) s = λ i. Rattle.sac_base.specs.WithLoops.modarray (h x i) s
  operation_same (making.Fold o x) s = λ i. Rattle.sac_base.specs.WithLoops.fold_by o (h x i) s

  fits_same : (form : ArrayValue) (o : PartedOp) → neutral_fits form (parted_op_with f o) e ≡ neutral_fits form o e
  fits_same form parted.Genarray = refl
  fits_same form (parted.Modarray x) = refl
  fits_same form (parted.Fold o x) = λ i. Rattle.sac_base.specs.Arrays.same_form (h x i) form

  made_same : (frame : List Grid1) (b : Base) (c : List ℕ) (o : PartedOp) (found : List (Option ArrayValue)) → made_of frame b c (parted_op_with f o) e found ≡ made_of frame b c o e found
  made_same frame b c parted.Genarray found = refl
  made_same frame b c (parted.Modarray x) found = refl
  made_same frame b c (parted.Fold o x) found = λ i. Rattle.std.specs.Prelude.fold (Rattle.sac_base.specs.WithLoops.combined o) (h x i) found

module _ (calls : CallMeaning) (turns : ℕ) where
  mutual
    pub block_same : (b : BlockTerm) (scope : List Var) (f : Var → Var) (e : Env) → Scoped scope b → Keeps scope f → Follows f e → run calls turns (forwarded b f) e ≡ run calls turns b e
    block_same (Gives xs) scope f e h k w = ap Ok (map_same f e w xs)
    block_same (Bind xs s r b) scope f e h k w =
        let o = source (forwarded_right r f) in
        (λ i. and_then (right_same r s scope f e h.0 k w i) (λ vs. run calls turns (forwarded b (behind xs o f)) (bind_all e xs vs)))
        ∙ then_same (right_value calls turns r s e) (λ vs. run calls turns (forwarded b (behind xs o f)) (bind_all e xs vs)) (λ vs. run calls turns b (bind_all e xs vs))
        (λ vs q. block_same b (xs ++ scope) (behind xs o f) (bind_all e xs vs) h.2 (keeps_behind xs o scope f (source_scoped r scope f h.0 k) k)
        (follows_behind calls turns xs o scope f e vs (λ x p. (source_scoped r scope f h.0 k x p, source_value calls turns r s f e vs w q x p)) h.1 k w))

    right_same : (r : RightTerm) (s : Site) (scope : List Var) (f : Var → Var) (e : Env) → ScopedRight scope r → Keeps scope f → Follows f e → right_value calls turns (forwarded_right r f) s e ≡ right_value calls turns r s e
    right_same (Plain p) s scope f e h k w = λ i. one (at_site s (plain_same f e w p i))
    right_same (RightTerm.If x a b) s scope f e h k w = λ i. choose s (condition (w x i)) (block_same a scope f e h.1 k w i) (block_same b scope f e h.2 k w i)
    right_same (RightTerm.Loop fb start params test body u) s scope f e h k w =
        let keep = keeps_more params scope f k in
        λ i. loop_value fb turns s u
        (λ vs. first (block_same test (params ++ scope) f (bind_all e params vs) h.2 keep (follows_more calls turns params scope f e vs h.1 k w) i))
        (λ vs. block_same body (params ++ scope) f (bind_all e params vs) h.3 keep (follows_more calls turns params scope f e vs h.1 k w) i)
        (map_same f e w start i)
    right_same (RightTerm.Call g xs) s scope f e h k w = λ i. calls g (map_same f e w xs i) s
    right_same (RightTerm.With op gens) s scope f e h k w = λ i. one (with_value (gens_same gens scope f e h.1 k w i) (operation_same f e w op s i))
    right_same (RightTerm.Parted frame b c o parts) s scope f e h k w =
        λ i. one (if fits_same f e w (cell_form b c) o i then and_then (each (cell_at (cell_form b c) (parts_same parts scope f e h.1 k w i)) (members frame)) (λ found. Ok (made_same f e w frame b c o found i)) else fault F6 s)

    gens_same : (gs : GensTerm) (scope : List Var) (f : Var → Var) (e : Env) → ScopedGens scope gs → Keeps scope f → Follows f e → generators calls turns (forwarded_gens gs f) e ≡ generators calls turns gs e
    gens_same NoGens scope f e h k w = refl
    gens_same (Gen j b rest) scope f e h k w =
        let xs = j.index ∷ j.names in
        λ i. record {
          bounds = record { lower = option_same f e w j.lower i; lower_closed = j.lower_closed; names = name_count j.names; upper = option_same f e w j.upper i; upper_closed = j.upper_closed; step = option_same f e w j.step i; width = option_same f e w j.width i; site = j.site };
          cell = λ ix. first (block_same b (xs ++ scope) f (with_index e j ix) h.2 (keeps_more xs scope f k) (follows_more calls turns xs scope f e (vector Int ix ∷ map (scalar Int) ix) h.1 k w) i);
        } ∷ gens_same rest scope f e h.3 k w i

    parts_same : (ps : PartsTerm) (scope : List Var) (f : Var → Var) (e : Env) → ScopedParts scope ps → Keeps scope f → Follows f e → cells calls turns (forwarded_parts ps f) e ≡ cells calls turns ps e
    parts_same NoParts scope f e h k w = refl
    parts_same (Part j b rest) scope f e h k w =
        λ i. record {
          grid = j.grid;
          site = j.site;
          cell = λ ix. first (block_same b (j.index ∷ scope) f (bind e j.index (vector Int ix)) h.1 (keeps_more (j.index ∷ []) scope f k) (follows_more calls turns (j.index ∷ []) scope f e (vector Int ix ∷ []) (h.0, tt) k w) i);
        } ∷ parts_same rest scope f e h.2 k w i
