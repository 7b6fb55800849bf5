-- Binding a variable.
use Rattle.std.proofs.Common.{◌≡◌, ℕ, zero, suc, ◌+◌, ◌<◌, List, [], ◌∷◌, ◌++◌, length, get_or, Bool, true, false, cond, refl, sym, ap, ◌∙◌, subst, arith, Option, Some, None, Ok, Err, Result, OnOk, true≢false}
use Rattle.std.specs.Prelude.{bytes_eq, slice_set, if◌then◌else◌}
use Rattle.std.proofs.lemmas.Slice.Eq.{bytes_eq-Decides}
use Rattle.sac_base.specs.declared.name.Name.{Name}
use Rattle.sac_base.specs.Arrays.{ArrayValue}
use Rattle.source_meaning.specs.declared.environment.Binding.{Binding}
use Rattle.source_meaning.specs.declared.environment.Environment.{Environment, out-Environment, roll-Environment, map-Environment, fold-roll-Environment, fold_out-Environment}
use Rattle.sac_base.specs.Outcomes.{Env, with_variable}
use Rattle.source_meaning.specs.Environments.{env_of, env_of_bindings, env_step, over, outer_of, or_else}

names_same : (a b : Name) → bytes_eq a b ≡ true → a ≡ b
names_same a b e = (bytes_eq-Decides a b).0 e

same_names : (a : Name) → bytes_eq a a ≡ true
same_names a = (bytes_eq-Decides a a).1 refl

-- two names that differ: what is the one is not the other
apart : (a b c : Name) → bytes_eq a b ≡ false → bytes_eq a c ≡ true → bytes_eq c b ≡ false
apart a b c differ same = subst (λ x. bytes_eq x b ≡ false) (names_same a c same) differ

turned : (a b : Name) → bytes_eq a b ≡ false → bytes_eq b a ≡ false
turned a b differ = by (bytes_eq b a) refl
  where
    by : (t : Bool) → bytes_eq b a ≡ t → bytes_eq b a ≡ false
    by false e = e
    by true e = absurd (true≢false (sym (same_names b) ∙ ap (λ x. bytes_eq x b) (names_same b a e) ∙ differ))

-- what is found in a list that begins with a binding
found : (b : Binding) (bs : List Binding) (name : Name) (t : Bool) → bytes_eq b.name name ≡ t → env_of_bindings (b ∷ bs) name ≡ (if t then Some b.value else env_of_bindings bs name)
found b bs name true e = rw e refl
found b bs name false e = rw e refl

head_set : (b : Binding) (bs : List Binding) (name : Name) (value : ArrayValue) (other : Name) (t : Bool) → bytes_eq b.name name ≡ true → bytes_eq other name ≡ t → env_of_bindings (record { name = b.name; value = value } ∷ bs) other ≡ (if t then Some value else env_of_bindings (b ∷ bs) other)
head_set b bs name value other true here same =
    let at : bytes_eq b.name other ≡ true = subst (λ x. bytes_eq b.name x ≡ true) (sym (names_same other name same)) here in
    found (record { name = b.name; value = value }) bs other true at
head_set b bs name value other false here differ =
    let at : bytes_eq b.name other ≡ false = turned other b.name (subst (λ x. bytes_eq other x ≡ false) (sym (names_same b.name name here)) differ) in
    found (record { name = b.name; value = value }) bs other false at ∙ sym (found b bs other false at)

-- the first binding of the name gets another value
pub set_found : (bs : List Binding) (i : ℕ) (d : Binding) (name : Name) (value : ArrayValue) (other : Name) → i < length bs → bytes_eq (get_or bs i d).name name ≡ true → ((k : ℕ) (d : Binding) → k < i → bytes_eq (get_or bs k d).name name ≡ false) → env_of_bindings (slice_set bs i (record { name = (get_or bs i d).name; value = value })) other ≡ with_variable name value (env_of_bindings bs) other
set_found [] i d name value other h here before = absurd (omega arith)
set_found (b ∷ bs) zero d name value other h here before = head_set b bs name value other (bytes_eq other name) here refl
set_found (b ∷ bs) (suc i) d name value other h here before =
    let rest = set_found bs i d name value other (omega arith) here (λ k e lt. before (suc k) e (omega arith)) in
    by (bytes_eq b.name other) refl rest
  where
    by : (t : Bool) → bytes_eq b.name other ≡ t → env_of_bindings (slice_set bs i (record { name = (get_or bs i d).name; value = value })) other ≡ with_variable name value (env_of_bindings bs) other → env_of_bindings (b ∷ slice_set bs i (record { name = (get_or bs i d).name; value = value })) other ≡ with_variable name value (env_of_bindings (b ∷ bs)) other
    by true e rest =
        let differ : bytes_eq other name ≡ false = apart b.name name other (before 0 d (omega arith)) e in
        found b _ other true e ∙ sym (ap (λ t. if t then Some value else env_of_bindings (b ∷ bs) other) differ ∙ found b bs other true e)
    by false e rest =
        found b _ other false e ∙ rest ∙ ap (λ (o : Option ArrayValue). if bytes_eq other name then Some value else o) (sym (found b bs other false e))

-- where no binding has the name, it is bound at the end
pub bound_last : (bs : List Binding) (b : Binding) (other : Name) → ((k : ℕ) (d : Binding) → k < length bs → bytes_eq (get_or bs k d).name b.name ≡ false) → env_of_bindings (bs ++ b ∷ []) other ≡ with_variable b.name b.value (env_of_bindings bs) other
bound_last [] b other none = by (bytes_eq other b.name) refl
  where
    by : (t : Bool) → bytes_eq other b.name ≡ t → env_of_bindings (b ∷ []) other ≡ with_variable b.name b.value (env_of_bindings []) other
    by true e = found b [] other true (subst (λ x. bytes_eq b.name x ≡ true) (sym (names_same other b.name e)) (same_names b.name)) ∙ sym (ap (λ t. if t then Some b.value else None) e)
    by false e = found b [] other false (turned other b.name e) ∙ sym (ap (λ t. if t then Some b.value else None) e)
bound_last (c ∷ bs) b other none =
    by (bytes_eq c.name other) refl (bound_last bs b other (λ k d lt. none (suc k) d (omega arith)))
  where
    by : (t : Bool) → bytes_eq c.name other ≡ t → env_of_bindings (bs ++ b ∷ []) other ≡ with_variable b.name b.value (env_of_bindings bs) other → env_of_bindings (c ∷ (bs ++ b ∷ [])) other ≡ with_variable b.name b.value (env_of_bindings (c ∷ bs)) other
    by true e rest =
        let differ : bytes_eq other b.name ≡ false = apart c.name b.name other (none 0 c (omega arith)) e in
        found c _ other true e ∙ sym (ap (λ t. if t then Some b.value else env_of_bindings (c ∷ bs) other) differ ∙ found c bs other true e)
    by false e rest =
        found c _ other false e ∙ rest ∙ ap (λ (o : Option ArrayValue). if bytes_eq other b.name then Some b.value else o) (sym (found c bs other false e))

-- environments that give each name the same are the same
pub same_env : (a b : Env) → ((name : Name) → a name ≡ b name) → a ≡ b
same_env a b e = λ i. λ name. e name i

-- a variable of the inner scope hides one of the outer
pub over_with : (name : Name) (value : ArrayValue) (inner outer : Env) (other : Name) → over (with_variable name value inner) outer other ≡ with_variable name value (over inner outer) other
over_with name value inner outer other = by (bytes_eq other name)
  where
    by : (t : Bool) → or_else (if t then Some value else inner other) (outer other) ≡ (if t then Some value else or_else (inner other) (outer other))
    by true = refl
    by false = refl

pub assigned : (env : Environment) (v : Rattle.std.proofs.Common.Vec Binding Rattle.std.proofs.Common.Global) (name : Name) (value : ArrayValue) → env_of_bindings v.items ≡ with_variable name value (env_of_bindings (out-Environment env).bindings.items) → env_of (roll-Environment (record { outer = (out-Environment env).outer; bindings = v })) ≡ with_variable name value (env_of env)
assigned env v name value e =
    let outer : Env = outer_of (map-Environment Environment Env env_of (out-Environment env)).outer in
    fold-roll-Environment Env env_step (record { outer = (out-Environment env).outer; bindings = v })
    ∙ ap (λ inner. over inner outer) e
    ∙ same_env _ _ (over_with name value (env_of_bindings (out-Environment env).bindings.items) outer)
    ∙ ap (with_variable name value) (sym (fold_out-Environment Env env_step env))

pub same_item : (bs : List Binding) (i : ℕ) (d e : Binding) → i < length bs → get_or bs i d ≡ get_or bs i e
same_item [] i d e h = absurd (omega arith)
same_item (b ∷ bs) zero d e h = refl
same_item (b ∷ bs) (suc i) d e h = same_item bs i d e (omega arith)

pub on_ok_then : {A E P Q : Type 0} (r : Result A E) → (P → Q) → OnOk r P → OnOk r Q
on_ok_then (Ok a) f h = f h
on_ok_then (Err e) f h = h
