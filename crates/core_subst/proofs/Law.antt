-- The law of substitution: what the new block means is what the old one means with the values of the images.
use Rattle.std.proofs.Common.{◌≡◌, ℕ, Bool, true, false, cond, ◌||◌, eqb, List, [], ◌∷◌, ◌++◌, map, Option, Some, None, Ok, refl, sym, ap, ◌∙◌, append_assoc, append-nil}
use Rattle.std.specs.Prelude.{option_map, if◌then◌else◌}
use Rattle.sac_base.specs.declared.base.Base.{Base}
use Rattle.sac_base.specs.declared.base.Base.TheVariants.{Int}
use Rattle.sac_base.specs.declared.faults.FaultKind.TheVariants.{F6}
use Rattle.sac_base.specs.declared.grid.Grid1.{Grid1}
use Rattle.sac_base.specs.declared.site.Site.{Site}
use Rattle.sac_base.specs.Arrays.{ArrayValue, scalar, vector}
use Rattle.sac_base.specs.Outcomes.{and_then, fault, at_site, choose}
use Rattle.sac_base.specs.Parts.{literal, condition}
use Rattle.sac_base.specs.Grids.{members}
use Rattle.sac_base.specs.WithLoops.{with_value, each}
use Rattle.core_ir.specs.declared.tree.Var.{Var}
use Rattle.core_ir.specs.declared.tree.CoreOp.{CoreOp}
use Rattle.core_ir.specs.declared.tree.CoreOp.TheVariants as making
use Rattle.core_ir.specs.declared.tree.PartedOp.{PartedOp}
use Rattle.core_ir.specs.declared.tree.PartedOp.TheVariants as parted
use Rattle.core_ir.specs.Terms.{PlainTerm, BlockTerm, RightTerm, GensTerm, PartsTerm, Gives, Bind, Plain, NoGens, Gen, NoParts, Part}
use Rattle.core_ir.specs.Meaning.{Env, CallMeaning, missing, bind, bind_all, plain_value, first, loop_value, one, made_of, neutral_fits, cell_form, cell_at, operation, with_index, name_count, run, right_value, generators, cells}
use Rattle.core_ir.specs.Binders.{is_in, NoneIn, bound_in, bound_in_right, bound_in_gens, bound_in_parts}
use Rattle.core_ir.proofs.Variables.{or_false, in_more}
use Rattle.core_subst.specs.Substitution.{partner, below, MeansThrough, seconds, plain_with, core_op_with, parted_op_with, substituted, substituted_right, substituted_gens, substituted_parts}

-- the environment in which each variable has the value of what stands for it below binders
abbrev pub through : List Var → List (Var × Var) → Env → Env
through hidden ps e x = e (below hidden (partner ps) x)

hidden_twice : (a b : Bool) (x y : Var) → cond b x (cond a x y) ≡ cond (a || b) x y
hidden_twice true true x y = refl
hidden_twice true false x y = refl
hidden_twice false b x y = refl

-- further binders
pub grown : (ps : List (Var × Var)) (h xs : List Var) → below xs (below h (partner ps)) ≡ below (h ++ xs) (partner ps)
grown ps h xs = λ i y. (hidden_twice (is_in y h) (is_in y xs) y (partner ps y) ∙ sym (ap (λ b. cond b y (partner ps y)) (in_more y h xs))) i

pub none_left : (xs ys zs : List Var) → NoneIn xs (ys ++ zs) → NoneIn xs ys
none_left [] ys zs h = tt
none_left (x ∷ xs) ys zs h = ((or_false _ _ (sym (in_more x ys zs) ∙ h.0)).0, none_left xs ys zs h.1)

pub none_right : (xs ys zs : List Var) → NoneIn xs (ys ++ zs) → NoneIn xs zs
none_right [] ys zs h = tt
none_right (x ∷ xs) ys zs h = ((or_false _ _ (sym (in_more x ys zs) ∙ h.0)).1, none_right xs ys zs h.1)

-- a partner is no variable that no second member is
partner-other : (ps : List (Var × Var)) (x y : Var) → NoneIn (seconds ps) (x ∷ []) → eqb x.0 y.0 ≡ false → eqb x.0 (partner ps y).0 ≡ false
partner-other [] x y h n = n
partner-other (p ∷ ps) x y h n = go (eqb p.0.0 y.0) (partner-other ps x y h.1 n)
  where
    go : (b : Bool) → eqb x.0 (partner ps y).0 ≡ false → eqb x.0 (cond b p.1 (partner ps y)).0 ≡ false
    go true e = (or_false _ _ h.0).0
    go false e = e

or_true : (a : Bool) → (a || true) ≡ true
or_true true = refl
or_true false = refl

-- below one binder
through_bind : (ps : List (Var × Var)) (h : List Var) (e : Env) (x : Var) (v : ArrayValue) (y : Var) → NoneIn (seconds ps) (x ∷ []) → bind e x v (below (h ++ (x ∷ [])) (partner ps) y) ≡ bind (through h ps e) x v y
through_bind ps h e x v y n = at (eqb x.0 y.0) refl (is_in y h) refl
  where
    at : (b : Bool) → eqb x.0 y.0 ≡ b → (c : Bool) → is_in y h ≡ c → bind e x v (below (h ++ (x ∷ [])) (partner ps) y) ≡ bind (through h ps e) x v y
    at true p c q =
        let inn = in_more y h (x ∷ []) ∙ (λ i. is_in y h || (p i || false)) ∙ or_true (is_in y h) in
        (λ i. bind e x v (cond (inn i) y (partner ps y))) ∙ (λ i. cond (p i) v (e y)) ∙ sym (λ i. cond (p i) v (through h ps e y))
    at false p true q =
        let inn = in_more y h (x ∷ []) ∙ (λ i. q i || (p i || false)) in
        (λ i. bind e x v (cond (inn i) y (partner ps y))) ∙ (λ i. cond (p i) v (e y)) ∙ sym (λ i. cond (p i) v (e (cond (q i) y (partner ps y))))
    at false p false q =
        let inn = in_more y h (x ∷ []) ∙ (λ i. q i || (p i || false)) in
        let o = partner-other ps x y n p in
        (λ i. bind e x v (cond (inn i) y (partner ps y))) ∙ (λ i. cond (o i) v (e (partner ps y))) ∙ sym (λ i. cond (p i) v (e (cond (q i) y (partner ps y))))

-- below binders
pub through_all : (ps : List (Var × Var)) (h : List Var) (e : Env) (xs : List Var) (vs : List ArrayValue) → NoneIn (seconds ps) xs → through (h ++ xs) ps (bind_all e xs vs) ≡ bind_all (through h ps e) xs vs
through_all ps h e [] vs n = λ i y. e (below (append-nil h i) (partner ps) y)
through_all ps h e (x ∷ xs) [] n =
    let first_one = none_left (seconds ps) (x ∷ []) xs n in
    (λ i. through (sym (append_assoc h (x ∷ []) xs) i) ps (bind_all (bind e x missing) xs []))
    ∙ through_all ps (h ++ (x ∷ [])) (bind e x missing) xs [] (none_right (seconds ps) (x ∷ []) xs n)
    ∙ (λ i. bind_all (λ y. through_bind ps h e x missing y first_one i) xs [])
through_all ps h e (x ∷ xs) (v ∷ vs) n =
    let first_one = none_left (seconds ps) (x ∷ []) xs n in
    (λ i. through (sym (append_assoc h (x ∷ []) xs) i) ps (bind_all (bind e x v) xs vs))
    ∙ through_all ps (h ++ (x ∷ [])) (bind e x v) xs vs (none_right (seconds ps) (x ∷ []) xs n)
    ∙ (λ i. bind_all (λ y. through_bind ps h e x v y first_one i) xs vs)

pub map_through : (ps : List (Var × Var)) (h : List Var) (e : Env) (xs : List Var) → map e (map (below h (partner ps)) xs) ≡ map (through h ps e) xs
map_through ps h e [] = refl
map_through ps h e (x ∷ xs) = ap (λ l. e (below h (partner ps) x) ∷ l) (map_through ps h e xs)

option_through : (ps : List (Var × Var)) (h : List Var) (e : Env) (x : Option Var) → option_map e (option_map (below h (partner ps)) x) ≡ option_map (through h ps e) x
option_through ps h e None = refl
option_through ps h e (Some x) = refl

plain_through : (ps : List (Var × Var)) (h : List Var) (e : Env) (p : PlainTerm) → plain_value (plain_with (below h (partner ps)) p) e ≡ plain_value p (through h ps e)
plain_through ps h e (PlainTerm.Literal xs) = ap literal (map_through ps h e xs)
plain_through ps h e (PlainTerm.Const a) = refl
plain_through ps h e (PlainTerm.Copy x) = refl
plain_through ps h e (PlainTerm.Unary op x) = refl
plain_through ps h e (PlainTerm.Binary op x y) = refl
plain_through ps h e (PlainTerm.Dim x) = refl
plain_through ps h e (PlainTerm.ShapeOf x) = refl
plain_through ps h e (PlainTerm.Reshape x y) = refl
plain_through ps h e (PlainTerm.Select x y) = refl
plain_through ps h e (PlainTerm.Replace x y z) = refl
plain_through ps h e (PlainTerm.Always k) = refl
plain_through ps h e (PlainTerm.Check x t) = refl

operation_through : (ps : List (Var × Var)) (h : List Var) (e : Env) (o : CoreOp) (s : Site) → operation (core_op_with (below h (partner ps)) o) s e ≡ operation o s (through h ps e)
operation_through ps h e (making.Genarray x y) s = refl
operation_through ps h e (making.Modarray x) s = refl
operation_through ps h e (making.Fold op x) s = refl

fits_through : (ps : List (Var × Var)) (h : List Var) (e : Env) (form : ArrayValue) (o : PartedOp) → neutral_fits form (parted_op_with (below h (partner ps)) o) e ≡ neutral_fits form o (through h ps e)
fits_through ps h e form parted.Genarray = refl
fits_through ps h e form (parted.Modarray x) = refl
fits_through ps h e form (parted.Fold op x) = refl

made_through : (ps : List (Var × Var)) (h : List Var) (e : Env) (f : List Grid1) (b : Base) (c : List ℕ) (o : PartedOp) (found : List (Option ArrayValue)) → made_of f b c (parted_op_with (below h (partner ps)) o) e found ≡ made_of f b c o (through h ps e) found
made_through ps h e f b c parted.Genarray found = refl
made_through ps h e f b c (parted.Modarray x) found = refl
made_through ps h e f b c (parted.Fold op x) found = refl

module _ (calls : CallMeaning) (turns : ℕ) (ps : List (Var × Var)) where
  mutual
    pub run_through : (h : List Var) (b : BlockTerm) (e : Env) → NoneIn (seconds ps) (bound_in b) → run calls turns (substituted (below h (partner ps)) b) e ≡ run calls turns b (through h ps e)
    run_through h (Gives xs) e n = ap Ok (map_through ps h e xs)
    run_through h (Bind xs s r b) e n =
        let nx = none_left (seconds ps) xs _ n in
        let nr = none_left (seconds ps) (bound_in_right r) (bound_in b) (none_right (seconds ps) xs _ n) in
        let nb = none_right (seconds ps) (bound_in_right r) (bound_in b) (none_right (seconds ps) xs _ n) in
        λ i. and_then (right_through h r s e nr i) (λ vs. (ap (λ f. run calls turns (substituted f b) (bind_all e xs vs)) (grown ps h xs) ∙ run_through (h ++ xs) b (bind_all e xs vs) nb ∙ ap (run calls turns b) (through_all ps h e xs vs nx)) i)

    pub right_through : (h : List Var) (r : RightTerm) (s : Site) (e : Env) → NoneIn (seconds ps) (bound_in_right r) → right_value calls turns (substituted_right (below h (partner ps)) r) s e ≡ right_value calls turns r s (through h ps e)
    right_through h (Plain p) s e n = ap (λ v. one (at_site s v)) (plain_through ps h e p)
    right_through h (RightTerm.If x a b) s e n =
        let p = run_through h a e (none_left (seconds ps) (bound_in a) (bound_in b) n) in
        let q = run_through h b e (none_right (seconds ps) (bound_in a) (bound_in b) n) in
        λ i. choose s (condition (through h ps e x)) (p i) (q i)
    right_through h (RightTerm.Loop first_body start params a b u) s e n =
        let nx = none_left (seconds ps) params _ n in
        let na = none_left (seconds ps) (bound_in a) (bound_in b) (none_right (seconds ps) params _ n) in
        let nb = none_right (seconds ps) (bound_in a) (bound_in b) (none_right (seconds ps) params _ n) in
        λ i. loop_value first_body turns s u
        (λ vs. first ((ap (λ f. run calls turns (substituted f a) (bind_all e params vs)) (grown ps h params) ∙ run_through (h ++ params) a (bind_all e params vs) na ∙ ap (run calls turns a) (through_all ps h e params vs nx)) i))
        (λ vs. (ap (λ f. run calls turns (substituted f b) (bind_all e params vs)) (grown ps h params) ∙ run_through (h ++ params) b (bind_all e params vs) nb ∙ ap (run calls turns b) (through_all ps h e params vs nx)) i)
        (map_through ps h e start i)
    right_through h (RightTerm.Call g xs) s e n = λ i. calls g (map_through ps h e xs i) s
    right_through h (RightTerm.With op gens) s e n = λ i. one (with_value (gens_through h gens e n i) (operation_through ps h e op s i))
    right_through h (RightTerm.Parted f b c o parts) s e n =
        λ i. one (if fits_through ps h e (cell_form b c) o i then and_then (each (cell_at (cell_form b c) (parts_through h parts e n i)) (members f)) (λ found. Ok (made_through ps h e f b c o found i)) else fault F6 s)

    pub gens_through : (h : List Var) (g : GensTerm) (e : Env) → NoneIn (seconds ps) (bound_in_gens g) → generators calls turns (substituted_gens (below h (partner ps)) g) e ≡ generators calls turns g (through h ps e)
    gens_through h NoGens e n = refl
    gens_through h (Gen g b rest) e n =
        let nx = none_left (seconds ps) (g.index ∷ g.names) _ n in
        let nb = none_left (seconds ps) (bound_in b) (bound_in_gens rest) (none_right (seconds ps) (g.index ∷ g.names) _ n) in
        let nr = none_right (seconds ps) (bound_in b) (bound_in_gens rest) (none_right (seconds ps) (g.index ∷ g.names) _ n) in
        λ i. record {
          bounds = record { lower = option_through ps h e g.lower i; lower_closed = g.lower_closed; names = name_count g.names; upper = option_through ps h e g.upper i; upper_closed = g.upper_closed; step = option_through ps h e g.step i; width = option_through ps h e g.width i; site = g.site };
          cell = λ ix. first ((ap (λ f. run calls turns (substituted f b) (with_index e g ix)) (grown ps h (g.index ∷ g.names)) ∙ run_through (h ++ (g.index ∷ g.names)) b (with_index e g ix) nb ∙ ap (run calls turns b) (through_all ps h e (g.index ∷ g.names) (vector Int ix ∷ map (scalar Int) ix) nx)) i);
        } ∷ gens_through h rest e nr i

    pub parts_through : (h : List Var) (g : PartsTerm) (e : Env) → NoneIn (seconds ps) (bound_in_parts g) → cells calls turns (substituted_parts (below h (partner ps)) g) e ≡ cells calls turns g (through h ps e)
    parts_through h NoParts e n = refl
    parts_through h (Part g b rest) e n =
        let nx = none_left (seconds ps) (g.index ∷ []) _ n in
        let nb = none_left (seconds ps) (bound_in b) (bound_in_parts rest) (none_right (seconds ps) (g.index ∷ []) _ n) in
        let nr = none_right (seconds ps) (bound_in b) (bound_in_parts rest) (none_right (seconds ps) (g.index ∷ []) _ n) in
        λ i. record {
          grid = g.grid;
          site = g.site;
          cell = λ ix. first ((ap (λ f. run calls turns (substituted f b) (bind e g.index (vector Int ix))) (grown ps h (g.index ∷ [])) ∙ run_through (h ++ (g.index ∷ [])) b (bind e g.index (vector Int ix)) nb ∙ ap (run calls turns b) (through_all ps h e (g.index ∷ []) (vector Int ix ∷ []) nx)) i);
        } ∷ parts_through h rest e nr i

pub substituted_means : (ps : List (Var × Var)) (f : Var → Var) (b c : BlockTerm) → NoneIn (seconds ps) (bound_in b) → ((x : Var) → f x ≡ partner ps x) → c ≡ substituted f b → MeansThrough ps b c
substituted_means ps f b c n same p calls turns e = (λ i. run calls turns ((p ∙ ap (λ (g : Var → Var). substituted g b) (λ j x. same x j)) i) e) ∙ run_through calls turns ps [] b e n
