-- A list that is walked through from its front, beside the list that is made.
use Rattle.std.proofs.Common.{◌≡◌, ℕ, List, [], ◌∷◌, ◌++◌, map, length, refl, sym, ap, subst, ◌∙◌, arith}
use Rattle.std.proofs.lemmas.List.{append_assoc}

pub append_nil : {A : Type 0} (xs : List A) → xs ++ [] ≡ xs
append_nil [] = refl
append_nil (x ∷ xs) = ap (λ l. x ∷ l) (append_nil xs)

pub map_snoc : {A B : Type 0} (f : A → B) (xs : List A) (x : A) → map f (xs ++ (x ∷ [])) ≡ map f xs ++ (f x ∷ [])
map_snoc f [] x = refl
map_snoc f (y ∷ ys) x = ap (λ l. f y ∷ l) (map_snoc f ys x)

pub pushed : {A B : Type 0} (f : A → B) (new old : List A) (x : A) → new ≡ old ++ (x ∷ []) → map f new ≡ map f old ++ (f x ∷ [])
pushed f new old x e = ap (map f) e ∙ map_snoc f old x

-- an iterator with nothing left
pub none_left : {A : Type 0} (len : ℕ) (items : List A) → len ≡ 0 → len ≡ length items → items ≡ []
none_left len [] p q = refl
none_left len (x ∷ xs) p q = absurd (omega arith)

-- `T` says what is made of a list from one state to another. Whatever the rest becomes, it becomes behind what is done.
module _ {A B S : Type 0} (f : A → B) (T : S → S → List B → List B → Type 0) where
  abbrev pub Going : S → List A → S → List A → List A → Type 0
  Going s all t done rest = (u : S) (ns : List B) → T t u (map f rest) ns → T s u (map f all) (map f done ++ ns)

  pub going_first : (s : S) (all done : List A) → done ≡ [] → Going s all s done all
  going_first s all done e = λ u ns t. subst (λ (ds : List A). T s u (map f all) (map f ds ++ ns)) (sym e) t

  pub going_on : (s : S) (all : List A) (t t' : S) (done done' before rest : List A) (x : A) (ms : List B) → Going s all t done before → before ≡ x ∷ rest →
      map f done' ≡ map f done ++ ms → ((u : S) (ns : List B) → T t' u (map f rest) ns → T t u (f x ∷ map f rest) (ms ++ ns)) → Going s all t' done' rest
  going_on s all t t' done done' before rest x ms v b d more = λ u ns w.
      let now = subst (λ (ls : List A). Going s all t done ls) b v in
      subst (λ (z : List B). T s u (map f all) z) (sym (append_assoc (map f done) ms ns) ∙ ap (λ z. z ++ ns) (sym d)) (now u (ms ++ ns) (more u ns w))

  pub going_done : (s t : S) (all done rest : List A) → Going s all t done rest → rest ≡ [] → T t t [] [] → T s t (map f all) (map f done)
  going_done s t all done rest v r e =
      subst (λ (z : List B). T s t (map f all) z) (append_nil (map f done)) (v t [] (subst (λ (ls : List A). T t t (map f ls) []) (sym r) e))
