-- Terms that agree in all but the numbers of variables mean the same under environments that agree.
use Rattle.std.proofs.Common.{◌≡◌, ℕ, Bool, true, false, not, ◌&&◌, cond, eqb, List, [], ◌∷◌, map, Option, Some, None, Ok, Err, refl, ap, ◌∙◌, ◌++◌}
use Rattle.std.specs.Prelude.{ℤ, option_map, fold, if◌then◌else◌}
use Rattle.sac_base.specs.declared.base.Base.{Base}
use Rattle.sac_base.specs.declared.base.Base.TheVariants.{Int}
use Rattle.sac_base.specs.declared.faults.FaultKind.TheVariants.{F6}
use Rattle.sac_base.specs.declared.grid.Grid1.{Grid1}
use Rattle.sac_base.specs.declared.site.Site.{Site}
use Rattle.sac_base.specs.Arrays.{ArrayValue, scalar, vector, same_form}
use Rattle.sac_base.specs.Grids.{members}
use Rattle.sac_base.specs.Operators.{unary, binary}
use Rattle.sac_base.specs.Outcomes.{and_then, fault, at_site, choose}
use Rattle.sac_base.specs.Parts.{literal, select, replace, reshape, dim, shape_vector, condition}
use Rattle.sac_base.specs.WithLoops.{with_value, each, combined}
use Rattle.sac_base.specs.WithLoops
use Rattle.core_ir.specs.declared.tree.Var.{Var}
use Rattle.core_ir.specs.declared.tree.CoreOp.{CoreOp}
use Rattle.core_ir.specs.declared.tree.CoreOp.TheVariants as making
use Rattle.core_ir.specs.declared.tree.PartedOp.{PartedOp}
use Rattle.core_ir.specs.declared.tree.PartedOp.TheVariants as parted
use Rattle.core_ir.specs.Terms.{PlainTerm, BlockTerm, RightTerm, GensTerm, PartsTerm, Gives, Bind, Plain, NoGens, Gen, NoParts, Part}
use Rattle.core_ir.specs.Meaning.{Env, CallMeaning, bind, bind_all, plain_value, checked, first, loop_value, one, made_of, neutral_fits, joined, extents, cell_form, cell_at, operation, with_index, run, right_value, generators, cells}
use Rattle.core_ir.specs.Renaming.{Link, Agree, Linked, LinkedOption, under, under_all, RenamedPlain, RenamedCoreOp, RenamedPartedOp, Renamed, RenamedRight, RenamedGens, RenamedParts}

-- the two are linked below their binders
pub under_here : (S : Link) (x y a b : Var) → eqb x.0 a.0 ≡ true → eqb y.0 b.0 ≡ true → under S x y a b ≡ true
under_here S x y a b p q = (λ i. if p i then eqb y.0 b.0 else (not (eqb y.0 b.0) && S a b)) ∙ q

-- others are linked as before
pub under_there : (S : Link) (x y a b : Var) → eqb x.0 a.0 ≡ false → eqb y.0 b.0 ≡ false → S a b ≡ true → under S x y a b ≡ true
under_there S x y a b p q r = (λ i. if p i then eqb y.0 b.0 else (not (q i) && S a b)) ∙ r

pub agree_bind : (S : Link) (e f : Env) (x y : Var) (a : ArrayValue) → Agree S e f → Agree (under S x y) (bind e x a) (bind f y a)
agree_bind S e f x y a h u v k = go (eqb x.0 u.0) (eqb y.0 v.0) k
  where
    go : (p q : Bool) → (if p then q else (not q && S u v)) ≡ true → cond p a (e u) ≡ cond q a (f v)
    go true true m = refl
    go true false m = absurd (cc)
    go false true m = absurd (cc)
    go false false m = h u v m

pub agree_bind_all : (S : Link) (e f : Env) (xs ys : List Var) (vs : List ArrayValue) → Agree S e f → Agree (under_all S xs ys) (bind_all e xs vs) (bind_all f ys vs)
agree_bind_all S e f [] [] vs h = h
agree_bind_all S e f (x ∷ xs) (y ∷ ys) [] h = agree_bind_all (under S x y) _ _ xs ys [] (agree_bind S e f x y _ h)
agree_bind_all S e f (x ∷ xs) (y ∷ ys) (v ∷ vs) h = agree_bind_all (under S x y) _ _ xs ys vs (agree_bind S e f x y v h)
agree_bind_all S e f [] (y ∷ ys) vs h = λ u v b. absurd (cc)
agree_bind_all S e f (x ∷ xs) [] vs h = λ u v b. absurd (cc)

pub linked_map : (S : Link) (e f : Env) (xs ys : List Var) → Agree S e f → Linked S xs ys → map e xs ≡ map f ys
linked_map S e f [] [] h l = refl
linked_map S e f (x ∷ xs) (y ∷ ys) h l = λ i. h x y l.0 i ∷ linked_map S e f xs ys h l.1 i
linked_map S e f [] (y ∷ ys) h l = absurd l
linked_map S e f (x ∷ xs) [] h l = absurd l

pub linked_option : (S : Link) (e f : Env) (x y : Option Var) → Agree S e f → LinkedOption S x y → option_map e x ≡ option_map f y
linked_option S e f None None h l = refl
linked_option S e f (Some x) (Some y) h l = ap Some (h x y l)
linked_option S e f None (Some y) h l = absurd l
linked_option S e f (Some x) None h l = absurd l

pub renamed_plain : (S : Link) (e f : Env) (p q : PlainTerm) → Agree S e f → RenamedPlain S p q → plain_value p e ≡ plain_value q f
renamed_plain S e f (PlainTerm.Const a) (PlainTerm.Const b) h r = ap Ok r
renamed_plain S e f (PlainTerm.Copy x) (PlainTerm.Copy y) h r = ap Ok (h x y r)
renamed_plain S e f (PlainTerm.Unary o x) (PlainTerm.Unary o' y) h r = λ i. Ok (unary (r.0 i) (h x y r.1 i))
renamed_plain S e f (PlainTerm.Binary o x x') (PlainTerm.Binary o' y y') h r = λ i. binary (r.0 i) (h x y r.1 i) (h x' y' r.2 i)
renamed_plain S e f (PlainTerm.Literal xs) (PlainTerm.Literal ys) h r = ap literal (linked_map S e f xs ys h r)
renamed_plain S e f (PlainTerm.Dim x) (PlainTerm.Dim y) h r = λ i. Ok (dim (h x y r i))
renamed_plain S e f (PlainTerm.ShapeOf x) (PlainTerm.ShapeOf y) h r = λ i. Ok (shape_vector (h x y r i))
renamed_plain S e f (PlainTerm.Reshape x x') (PlainTerm.Reshape y y') h r = λ i. reshape (h x y r.0 i) (h x' y' r.1 i)
renamed_plain S e f (PlainTerm.Select x x') (PlainTerm.Select y y') h r = λ i. select (h x y r.0 i) (h x' y' r.1 i)
renamed_plain S e f (PlainTerm.Replace x x' x'') (PlainTerm.Replace y y' y'') h r = λ i. replace (h x y r.0 i) (h x' y' r.1 i) (h x'' y'' r.2 i)
renamed_plain S e f (PlainTerm.Always k) (PlainTerm.Always l) h r = ap Err r
renamed_plain S e f (PlainTerm.Check x t) (PlainTerm.Check y u) h r = λ i. checked (r.0 i) (h x y r.1 i)
renamed_plain S e f _ _ h r = absurd r

pub renamed_operation : (S : Link) (e f : Env) (o p : CoreOp) (s t : Site) → Agree S e f → s ≡ t → RenamedCoreOp S o p → operation o s e ≡ operation p t f
renamed_operation S e f (making.Genarray x x') (making.Genarray y y') s t h st r = λ i. WithLoops.genarray (h x y r.0 i) (h x' y' r.1 i) (st i)
renamed_operation S e f (making.Modarray x) (making.Modarray y) s t h st r = λ i. WithLoops.modarray (h x y r i) (st i)
renamed_operation S e f (making.Fold o x) (making.Fold o' y) s t h st r = λ i. WithLoops.fold_by (r.0 i) (h x y r.1 i) (st i)
renamed_operation S e f _ _ s t h st r = absurd r

pub renamed_fits : (S : Link) (e f : Env) (c d : ArrayValue) (o p : PartedOp) → Agree S e f → c ≡ d → RenamedPartedOp S o p → neutral_fits c o e ≡ neutral_fits d p f
renamed_fits S e f c d parted.Genarray parted.Genarray h cd r = refl
renamed_fits S e f c d (parted.Modarray x) (parted.Modarray y) h cd r = refl
renamed_fits S e f c d (parted.Fold o x) (parted.Fold o' y) h cd r = λ i. same_form (h x y r.1 i) (cd i)
renamed_fits S e f c d _ _ h cd r = absurd r

pub renamed_made : (S : Link) (e f : Env) (fr fr' : List Grid1) (b b' : Base) (c d : List ℕ) (o p : PartedOp) (found : List (Option ArrayValue)) → Agree S e f → fr ≡ fr' → b ≡ b' → c ≡ d → RenamedPartedOp S o p → made_of fr b c o e found ≡ made_of fr' b' d p f found
renamed_made S e f fr fr' b b' c d parted.Genarray parted.Genarray found h p q r k = λ i. joined (q i) (extents (p i) ++ r i) found
renamed_made S e f fr fr' b b' c d (parted.Modarray x) (parted.Modarray y) found h p q r k = λ i. joined (q i) (extents (p i) ++ r i) found
renamed_made S e f fr fr' b b' c d (parted.Fold o x) (parted.Fold o' y) found h p q r k = λ i. fold (combined (k.0 i)) (h x y k.1 i) found
renamed_made S e f fr fr' b b' c d _ _ found h p q r k = absurd k

module _ (calls : CallMeaning) (turns : ℕ) where
  mutual
    pub renamed : (S : Link) (e f : Env) (b c : BlockTerm) → Agree S e f → Renamed S b c → run calls turns b e ≡ run calls turns c f
    renamed S e f (Gives xs) (Gives ys) h r = ap Ok (linked_map S e f xs ys h r)
    renamed S e f (Bind xs s r b) (Bind ys t q c) h k =
        let p = renamed_right S e f r q s t h k.0 k.1 in
        λ i. and_then (p i) (λ vs. renamed (under_all S xs ys) (bind_all e xs vs) (bind_all f ys vs) b c (agree_bind_all S e f xs ys vs h) k.2 i)
    renamed S e f (Gives xs) (Bind ys t q c) h r = absurd r
    renamed S e f (Bind xs s r b) (Gives ys) h k = absurd k

    pub renamed_right : (S : Link) (e f : Env) (r q : RightTerm) (s t : Site) → Agree S e f → s ≡ t → RenamedRight S r q → right_value calls turns r s e ≡ right_value calls turns q t f
    renamed_right S e f (Plain p) (Plain q) s t h st k = let x = renamed_plain S e f p q h k in λ i. one (at_site (st i) (x i))
    renamed_right S e f (RightTerm.If x a b) (RightTerm.If y c d) s t h st k =
        let p = h x y k.0 in let q = renamed S e f a c h k.1 in let r = renamed S e f b d h k.2 in
        λ i. choose (st i) (condition (p i)) (q i) (r i)
    renamed_right S e f (RightTerm.Loop fb xs ps a b u) (RightTerm.Loop gb ys qs c d w) s t h st k =
        let m = linked_map S e f xs ys h k.2 in
        λ i. loop_value (k.0 i) turns (st i) (k.1 i)
        (λ vs. first (renamed (under_all S ps qs) (bind_all e ps vs) (bind_all f qs vs) a c (agree_bind_all S e f ps qs vs h) k.3 i))
        (λ vs. renamed (under_all S ps qs) (bind_all e ps vs) (bind_all f qs vs) b d (agree_bind_all S e f ps qs vs h) k.4 i) (m i)
    renamed_right S e f (RightTerm.Call g xs) (RightTerm.Call g' ys) s t h st k = let m = linked_map S e f xs ys h k.1 in λ i. calls (k.0 i) (m i) (st i)
    renamed_right S e f (RightTerm.With o g) (RightTerm.With p g') s t h st k =
        let m = renamed_operation S e f o p s t h st k.0 in let x = renamed_gens S e f g g' h k.1 in
        λ i. one (with_value (x i) (m i))
    renamed_right S e f (RightTerm.Parted fr b c o p) (RightTerm.Parted fr' b' c' o' q) s t h st k =
        let m = renamed_parts S e f p q h k.4 in
        let form : cell_form b c ≡ cell_form b' c' = λ i. cell_form (k.1 i) (k.2 i) in
        let fit = renamed_fits S e f (cell_form b c) (cell_form b' c') o o' h form k.3 in
        λ i. one (if fit i then and_then (each (cell_at (form i) (m i)) (members (k.0 i))) (λ found. Ok (renamed_made S e f fr fr' b b' c c' o o' found h k.0 k.1 k.2 k.3 i)) else fault F6 (st i))
    renamed_right S e f _ _ s t h st k = absurd k

    pub renamed_gens : (S : Link) (e f : Env) (g c : GensTerm) → Agree S e f → RenamedGens S g c → generators calls turns g e ≡ generators calls turns c f
    renamed_gens S e f NoGens NoGens h k = refl
    renamed_gens S e f (Gen x b r) (Gen y c q) h k =
        let m = renamed_gens S e f r q h k.2 in
        let l = linked_option S e f x.lower y.lower h k.0.4 in let u = linked_option S e f x.upper y.upper h k.0.5 in
        let p = linked_option S e f x.step y.step h k.0.6 in let w = linked_option S e f x.width y.width h k.0.7 in
        let S' = under_all (under S x.index y.index) x.names y.names in
        let in_body = λ (ix : List ℤ). agree_bind_all (under S x.index y.index) _ _ x.names y.names (map (scalar Int) ix) (agree_bind S e f x.index y.index (vector Int ix) h) in
        λ i. record { bounds = record { lower = l i; lower_closed = k.0.0 i; names = k.0.3 i; upper = u i; upper_closed = k.0.1 i; step = p i; width = w i; site = k.0.2 i }; cell = λ ix. first (renamed S' (with_index e x ix) (with_index f y ix) b c (in_body ix) k.1 i) } ∷ m i
    renamed_gens S e f _ _ h k = absurd k

    pub renamed_parts : (S : Link) (e f : Env) (g c : PartsTerm) → Agree S e f → RenamedParts S g c → cells calls turns g e ≡ cells calls turns c f
    renamed_parts S e f NoParts NoParts h k = refl
    renamed_parts S e f (Part x b r) (Part y c q) h k =
        let m = renamed_parts S e f r q h k.3 in
        λ i. record { grid = k.0 i; site = k.1 i; cell = λ ix. first (renamed (under S x.index y.index) (bind e x.index (vector Int ix)) (bind f y.index (vector Int ix)) b c (agree_bind S e f x.index y.index (vector Int ix) h) k.2 i) } ∷ m i
    renamed_parts S e f _ _ h k = absurd k
