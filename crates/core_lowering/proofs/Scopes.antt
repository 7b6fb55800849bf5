-- Scopes, and environments of a source that environments of the core show.
use Rattle.std.proofs.Common.{◌≡◌, ℕ, zero, suc, ◌+◌, ◌<◌, ◌≤◌, Bool, true, false, ◌||◌, ◌&&◌, cond, eqb, List, [], ◌∷◌, ◌++◌, map, length, Option, Some, None, refl, ap, sym, subst, ◌∙◌, arith}
use Rattle.std.specs.Prelude.{bytes_eq, is_some, if◌then◌else◌, filter}
use Rattle.std.proofs.lemmas.Bool.{eqb-true, eq-eqb}
use Rattle.std.proofs.lemmas.Slice.Eq.{bytes_eq-Decides}
use Rattle.sac_base.specs.declared.name.Name.{Name}
use Rattle.sac_base.specs.Arrays.{ArrayValue}
use Rattle.sac_base.specs.Outcomes
use Rattle.sac_base.specs.Outcomes.{with_variable, with_variables, or_zero}
use Rattle.core_ir.specs.declared.tree.Var.{Var}
use Rattle.core_ir.specs.Meaning.{Env, missing, bind, bind_all}
use Rattle.core_lowering.specs.Definite.{Names, with_names}
use Rattle.core_lowering.specs.Lowering.{Scope, var_in, numbered, variables_from, pushed, has_name, once, is_known, merged, carried}

-- ---- numbers of variables

pub not_itself : (a n : ℕ) → a < n → eqb n a ≡ false
not_itself a n h = go (eqb n a) refl
  where
    go : (t : Bool) → eqb n a ≡ t → eqb n a ≡ false
    go true e = absurd (let p = eqb-true n a e in omega arith)
    go false e = e

-- the second environment has the variables below a number from the first
abbrev pub Extends : ℕ → Env → Env → Type 0
Extends n f g = (y : Var) → y.0 < n → g y ≡ f y

pub extends_self : (n : ℕ) (f : Env) → Extends n f f
extends_self n f = λ y h. refl

pub extends_more : (m n : ℕ) (f g h : Env) → m ≤ n → Extends m f g → Extends n g h → Extends m f h
extends_more m n f g h le p q = λ y l. q y (omega arith) ∙ p y l

pub extends_less : (m n : ℕ) (f g : Env) → m ≤ n → Extends n f g → Extends m f g
extends_less m n f g le p = λ y l. p y (omega arith)

pub bind_same : (n : ℕ) (f : Env) (a : ArrayValue) → bind f (numbered n) a (numbered n) ≡ a
bind_same n f a = λ i. cond (eq-eqb n n refl i) a (f (numbered n))

pub bind_extends : (n : ℕ) (f : Env) (a : ArrayValue) → Extends n f (bind f (numbered n) a)
bind_extends n f a = λ y l. λ i. cond (not_itself y.0 n l i) a (f y)

pub bind_all_extends : (n count : ℕ) (f : Env) (vs : List ArrayValue) → Extends n f (bind_all f (variables_from n count) vs)
bind_all_extends n zero f vs = extends_self n f
bind_all_extends n (suc count) f [] =
    extends_more n (suc n) f (bind f (numbered n) missing) _ (omega arith) (bind_extends n f missing) (bind_all_extends (suc n) count _ [])
bind_all_extends n (suc count) f (v ∷ vs) =
    extends_more n (suc n) f (bind f (numbered n) v) _ (omega arith) (bind_extends n f v) (bind_all_extends (suc n) count _ vs)

-- ---- variables below a number

abbrev pub Below : ℕ → Scope → Type 0
Below n scope = (name : Name) (x : Var) → var_in scope name ≡ Some x → x.0 < n

pub below_more : (m n : ℕ) (scope : Scope) → Below m scope → m ≤ n → Below n scope
below_more m n scope h le = λ name x p. let l = h name x p in omega arith

pub below_with : (n : ℕ) (x : Var) (name : Name) (scope : Scope) → Below n scope → x.0 < n → Below n ((name, x) ∷ scope)
below_with n x name scope h l other y p = go (bytes_eq other name) p
  where
    go : (b : Bool) → (if b then Some x else var_in scope other) ≡ Some y → y.0 < n
    go true q = let same : x ≡ y = cc in subst (λ (z : Var). z.0 < n) same l
    go false q = h other y q

pub below_pushed : (xs : List Name) (n m : ℕ) (scope : Scope) → Below n scope → n + length xs ≤ m → Below m (pushed xs n scope)
below_pushed [] n m scope h le = below_more n m scope h (omega arith)
below_pushed (x ∷ xs) n m scope h le =
    below_pushed xs (suc n) m _ (below_with (suc n) (numbered n) x scope (below_more n (suc n) scope h (omega arith)) (omega arith)) (omega arith)

abbrev pub AllBelow : ℕ → List Var → Type 0
AllBelow n [] = Unit {0}
AllBelow n (x ∷ xs) = (x.0 < n) × AllBelow n xs

pub all_below_more : (m n : ℕ) (xs : List Var) → AllBelow m xs → m ≤ n → AllBelow n xs
all_below_more m n [] h le = tt
all_below_more m n (x ∷ xs) h le = (let l = h.0 in omega arith, all_below_more m n xs h.1 le)

pub same_values : (n : ℕ) (f g : Env) (xs : List Var) → Extends n f g → AllBelow n xs → map g xs ≡ map f xs
same_values n f g [] h b = refl
same_values n f g (x ∷ xs) h b = λ i. h x b.0 i ∷ same_values n f g xs h b.1 i

abbrev pub OptionBelow : ℕ → Option Var → Type 0
OptionBelow n None = Unit {0}
OptionBelow n (Some x) = x.0 < n

-- ---- what an environment shows

-- a name's variable has its value
pub record ShowsAt (x : Option Var) (v : Option ArrayValue) (f : Env) : Type 0 where
  pub var : Var
  pub value : ArrayValue
  pub known : x ≡ Some var
  pub has : v ≡ Some value
  pub shows : f var ≡ value

-- the variables of the names that are bound have their values
abbrev pub Shows : Names → Scope → Outcomes.Env → Env → Type 0
Shows bound scope env f = (name : Name) → bound name ≡ true → ShowsAt (var_in scope name) (env name) f

pub shows_later : (n : ℕ) (bound : Names) (scope : Scope) (env : Outcomes.Env) (f g : Env) → Below n scope → Extends n f g → Shows bound scope env f → Shows bound scope env g
shows_later n bound scope env f g b h s name p =
    let a = s name p in
    record { var = a.var; value = a.value; known = a.known; has = a.has; shows = h a.var (b name a.var a.known) ∙ a.shows }

pub shows_fewer : (some all : Names) (scope : Scope) (env : Outcomes.Env) (f : Env) → ((name : Name) → some name ≡ true → all name ≡ true) → Shows all scope env f → Shows some scope env f
shows_fewer some all scope env f h s name p = s name (h name p)

-- one name more
pub shows_with : (n : ℕ) (bound : Names) (scope : Scope) (env : Outcomes.Env) (f g : Env) (x : Name) (z : Var) (v : ArrayValue) → Below n scope → Extends n f g → Shows bound scope env f → g z ≡ v → Shows (with_names (x ∷ []) bound) ((x, z) ∷ scope) (with_variable x v env) g
shows_with n bound scope env f g x z v b h s e name p = go (bytes_eq name x) refl
  where
    at_old : bound name ≡ true → ShowsAt (var_in scope name) (env name) g
    at_old q = shows_later n bound scope env f g b h s name q

    go : (t : Bool) → bytes_eq name x ≡ t → ShowsAt (if t then Some z else var_in scope name) (if t then Some v else env name) g
    go true q = record { var = z; value = v; known = refl; has = refl; shows = e }
    go false q = at_old (sym (λ i. (q i || false) || bound name) ∙ p)

first_apart : (a b c : Bool) → ((a || b) || c) ≡ true → (b || ((a || false) || c)) ≡ true
first_apart true true c h = refl
first_apart true false c h = refl
first_apart false true c h = refl
first_apart false false c h = h

-- names bound one after another to as many values
pub shows_pushed : (xs : List Name) (vs : List ArrayValue) (n : ℕ) (bound : Names) (scope : Scope) (env : Outcomes.Env) (f : Env) → length vs ≡ length xs → Below n scope → Shows bound scope env f → Shows (with_names xs bound) (pushed xs n scope) (with_variables xs vs env) (bind_all f (variables_from n (length xs)) vs)
shows_pushed [] vs n bound scope env f l b s = λ name p. s name p
shows_pushed (x ∷ xs) [] n bound scope env f l b s = absurd (omega arith)
shows_pushed (x ∷ xs) (v ∷ vs) n bound scope env f l b s =
    let below : Below (suc n) ((x, numbered n) ∷ scope) = below_with (suc n) (numbered n) x scope (below_more n (suc n) scope b (omega arith)) (omega arith) in
    shows_fewer _ (with_names xs (with_names (x ∷ []) bound)) _ _ _ (λ name p. first_apart (bytes_eq name x) (has_name xs name) (bound name) p)
    (shows_pushed xs vs (suc n) (with_names (x ∷ []) bound) _ (with_variable x v env) (bind f (numbered n) v) (omega arith) below
    (shows_with n bound scope env f (bind f (numbered n) v) x (numbered n) v b (bind_extends n f v) s (bind_same n f v)))

-- ---- lists of names

pub same_name : (x y : Name) → bytes_eq x y ≡ true → x ≡ y
same_name x y p = grind (arith, bytes_eq-Decides x y)

or_cases : (a b : Bool) → (a || b) ≡ true → (a ≡ false) → b ≡ true
or_cases true b h k = absurd (cc)
or_cases false b h k = h

pub or_none : (a b : Bool) → (a || b) ≡ false → (a ≡ false) × (b ≡ false)
or_none false b h = (refl, h)
or_none true b h = absurd (cc)

or_more : (a b : Bool) → b ≡ true → (a || b) ≡ true
or_more true b p = refl
or_more false b p = p

or_assoc : (a b c : Bool) → (a || (b || c)) ≡ ((a || b) || c)
or_assoc true b c = refl
or_assoc false b c = refl

pub has_more : (xs ys : List Name) (x : Name) → has_name (xs ++ ys) x ≡ (has_name xs x || has_name ys x)
has_more [] ys x = refl
has_more (y ∷ xs) ys x = ap (λ b. bytes_eq x y || b) (has_more xs ys x) ∙ or_assoc (bytes_eq x y) (has_name xs x) (has_name ys x)

pub has_neither : (xs ys : List Name) (x : Name) → has_name (xs ++ ys) x ≡ false → (has_name xs x ≡ false) × (has_name ys x ≡ false)
has_neither xs ys x h = or_none (has_name xs x) (has_name ys x) (sym (has_more xs ys x) ∙ h)

-- a name of the list is met or taken
once_has : (met xs : List Name) (x : Name) → has_name xs x ≡ true → has_name met x ≡ false → has_name (once met xs) x ≡ true
once_has met [] x h k = absurd (cc)
once_has met (y ∷ xs) x h k = go (has_name met y) refl (bytes_eq x y) refl (λ m a b. once_has m xs x a b)
  where
    go : (t : Bool) → has_name met y ≡ t → (u : Bool) → bytes_eq x y ≡ u → ((m : List Name) → has_name xs x ≡ true → has_name m x ≡ false → has_name (once m xs) x ≡ true) → has_name (if t then once met xs else y ∷ once (y ∷ met) xs) x ≡ true
    go true e true q again = absurd (let w : has_name met x ≡ true = ap (has_name met) (same_name x y q) ∙ e in cc)
    go true e false q again = again met (sym (λ i. q i || has_name xs x) ∙ h) k
    go false e true q again = λ i. q i || has_name (once (y ∷ met) xs) x
    go false e false q again = (λ i. q i || has_name (once (y ∷ met) xs) x) ∙ again (y ∷ met) (sym (λ i. q i || has_name xs x) ∙ h) ((λ i. q i || has_name met x) ∙ k)

once_none : (met xs : List Name) (x : Name) → has_name xs x ≡ false → has_name (once met xs) x ≡ false
once_none met [] x h = refl
once_none met (y ∷ xs) x h =
    go (has_name met y) (once_none met xs x (or_none (bytes_eq x y) (has_name xs x) h).1) (once_none (y ∷ met) xs x (or_none (bytes_eq x y) (has_name xs x) h).1)
  where
    go : (t : Bool) → has_name (once met xs) x ≡ false → has_name (once (y ∷ met) xs) x ≡ false → has_name (if t then once met xs else y ∷ once (y ∷ met) xs) x ≡ false
    go true a b = a
    go false a b = λ i. (or_none (bytes_eq x y) (has_name xs x) h).0 i || b i

pub listed_once : (xs : List Name) (x : Name) → has_name xs x ≡ true → has_name (once [] xs) x ≡ true
listed_once xs x h = once_has [] xs x h refl

pub never_listed : (xs : List Name) (x : Name) → has_name xs x ≡ false → has_name (once [] xs) x ≡ false
never_listed xs x h = once_none [] xs x h

filter_has : (p : Name → Bool) (xs : List Name) (x : Name) → has_name xs x ≡ true → p x ≡ true → has_name (filter p xs) x ≡ true
filter_has p [] x h k = absurd (cc)
filter_has p (y ∷ xs) x h k = go (p y) refl (bytes_eq x y) refl (λ a. filter_has p xs x a k)
  where
    go : (t : Bool) → p y ≡ t → (u : Bool) → bytes_eq x y ≡ u → (has_name xs x ≡ true → has_name (filter p xs) x ≡ true) → has_name (cond t (y ∷ filter p xs) (filter p xs)) x ≡ true
    go true e true q again = λ i. q i || has_name (filter p xs) x
    go true e false q again = (λ i. q i || has_name (filter p xs) x) ∙ again (sym (λ i. q i || has_name xs x) ∙ h)
    go false e true q again = absurd (let w : p x ≡ false = ap p (same_name x y q) ∙ e in cc)
    go false e false q again = again (sym (λ i. q i || has_name xs x) ∙ h)

filter_none : (p : Name → Bool) (xs : List Name) (x : Name) → has_name xs x ≡ false → has_name (filter p xs) x ≡ false
filter_none p [] x h = refl
filter_none p (y ∷ xs) x h = go (p y) (filter_none p xs x (or_none (bytes_eq x y) (has_name xs x) h).1)
  where
    go : (t : Bool) → has_name (filter p xs) x ≡ false → has_name (cond t (y ∷ filter p xs) (filter p xs)) x ≡ false
    go true a = λ i. (or_none (bytes_eq x y) (has_name xs x) h).0 i || a i
    go false a = a

pub carried_has : (xs : List Name) (scope : Scope) (x : Name) → has_name xs x ≡ true → is_known scope x ≡ true → has_name (carried xs scope) x ≡ true
carried_has xs scope x h k = filter_has (is_known scope) (once [] xs) x (listed_once xs x h) k

pub carried_none : (xs : List Name) (scope : Scope) (x : Name) → has_name xs x ≡ false → has_name (carried xs scope) x ≡ false
carried_none xs scope x h = filter_none (is_known scope) (once [] xs) x (never_listed xs x h)

pub merged_has : (xs : List Name) (s t : Scope) (x : Name) → has_name xs x ≡ true → is_known s x ≡ true → is_known t x ≡ true → has_name (merged xs s t) x ≡ true
merged_has xs s t x h k l = filter_has (λ y. is_known s y && is_known t y) (once [] xs) x (listed_once xs x h) (λ i. k i && l i)

pub merged_none : (xs : List Name) (s t : Scope) (x : Name) → has_name xs x ≡ false → has_name (merged xs s t) x ≡ false
merged_none xs s t x h = filter_none (λ y. is_known s y && is_known t y) (once [] xs) x (never_listed xs x h)

-- ---- names pushed on a scope

pub push_kept : (xs : List Name) (n : ℕ) (scope : Scope) (x : Name) → has_name xs x ≡ false → var_in (pushed xs n scope) x ≡ var_in scope x
push_kept [] n scope x h = refl
push_kept (y ∷ xs) n scope x h =
    let e = or_none (bytes_eq x y) (has_name xs x) h in
    push_kept xs (suc n) _ x e.1 ∙ (λ i. if e.0 i then Some (numbered n) else var_in scope x)

pub push_known : (xs : List Name) (n : ℕ) (scope : Scope) (x : Name) → has_name xs x ≡ true → is_known (pushed xs n scope) x ≡ true
push_known [] n scope x h = absurd (cc)
push_known (y ∷ xs) n scope x h = go (has_name xs x) refl (λ e. push_known xs (suc n) ((y, numbered n) ∷ scope) x e)
  where
    or_last : (a b : Bool) → (a || b) ≡ true → b ≡ false → a ≡ true
    or_last true b k l = refl
    or_last false b k l = absurd (cc)

    go : (t : Bool) → has_name xs x ≡ t → (has_name xs x ≡ true → is_known (pushed xs (suc n) ((y, numbered n) ∷ scope)) x ≡ true) → is_known (pushed xs (suc n) ((y, numbered n) ∷ scope)) x ≡ true
    go true e again = again e
    go false e again =
        let q : bytes_eq x y ≡ true = or_last (bytes_eq x y) (has_name xs x) h e in
        ap is_some (push_kept xs (suc n) ((y, numbered n) ∷ scope) x e) ∙ (λ i. is_some (if q i then Some (numbered n) else var_in scope x))

pub push_knows : (xs : List Name) (n : ℕ) (scope : Scope) (x : Name) → is_known scope x ≡ true → is_known (pushed xs n scope) x ≡ true
push_knows xs n scope x k = go (has_name xs x) refl
  where
    go : (t : Bool) → has_name xs x ≡ t → is_known (pushed xs n scope) x ≡ true
    go true e = push_known xs n scope x e
    go false e = ap is_some (push_kept xs n scope x e) ∙ k

-- the new variable of a name, and that it has the name's value
pub record Found (x : Option Var) (f : Env) (v : ArrayValue) : Type 0 where
  pub var : Var
  pub known : x ≡ Some var
  pub shows : f var ≡ v

pub push_found : (value : Name → ArrayValue) (xs : List Name) (n : ℕ) (scope : Scope) (f : Env) (x : Name) → has_name xs x ≡ true → Found (var_in (pushed xs n scope) x) (bind_all f (variables_from n (length xs)) (map value xs)) (value x)
push_found value [] n scope f x h = absurd (cc)
push_found value (y ∷ xs) n scope f x h = go (has_name xs x) refl (λ e. push_found value xs (suc n) ((y, numbered n) ∷ scope) (bind f (numbered n) (value y)) x e)
  where
    or_last : (a b : Bool) → (a || b) ≡ true → b ≡ false → a ≡ true
    or_last true b k l = refl
    or_last false b k l = absurd (cc)

    go : (t : Bool) → has_name xs x ≡ t → (has_name xs x ≡ true → Found (var_in (pushed xs (suc n) ((y, numbered n) ∷ scope)) x) (bind_all (bind f (numbered n) (value y)) (variables_from (suc n) (length xs)) (map value xs)) (value x)) → Found (var_in (pushed xs (suc n) ((y, numbered n) ∷ scope)) x) (bind_all (bind f (numbered n) (value y)) (variables_from (suc n) (length xs)) (map value xs)) (value x)
    go true e again = again e
    go false e again =
        let q : bytes_eq x y ≡ true = or_last (bytes_eq x y) (has_name xs x) h e in
        record {
          var = numbered n;
          known = push_kept xs (suc n) ((y, numbered n) ∷ scope) x e ∙ (λ i. if q i then Some (numbered n) else var_in scope x);
          shows = bind_all_extends (suc n) (length xs) (bind f (numbered n) (value y)) (map value xs) (numbered n) (omega arith) ∙ bind_same n f (value y) ∙ ap value (sym (same_name x y q));
        }

-- names that get new variables with values as they have them, and the others as they were
pub shows_merged : (value : Name → ArrayValue) (xs : List Name) (n : ℕ) (bound : Names) (scope : Scope) (env : Outcomes.Env) (f : Env) → Below n scope → ((x : Name) → bound x ≡ true → has_name xs x ≡ true → env x ≡ Some (value x)) → ((x : Name) → bound x ≡ true → has_name xs x ≡ false → ShowsAt (var_in scope x) (env x) f) → Shows bound (pushed xs n scope) env (bind_all f (variables_from n (length xs)) (map value xs))
shows_merged value xs n bound scope env f b h k x p = go (has_name xs x) refl
  where
    go : (t : Bool) → has_name xs x ≡ t → ShowsAt (var_in (pushed xs n scope) x) (env x) (bind_all f (variables_from n (length xs)) (map value xs))
    go true e =
        let a = push_found value xs n scope f x e in
        record { var = a.var; value = value x; known = a.known; has = h x p e; shows = a.shows }
    go false e =
        let a = k x p e in
        record { var = a.var; value = a.value; known = push_kept xs n scope x e ∙ a.known; has = a.has; shows = bind_all_extends n (length xs) f (map value xs) a.var (b x a.var a.known) ∙ a.shows }
