-- Slots that stand behind others, which are only read.
use Rattle.std.proofs.Common.{◌≡◌, ℕ, zero, suc, ◌+◌, ◌-◌, ◌<◌, ◌≤◌, Bool, true, false, cond, eqb, List, [], ◌∷◌, ◌++◌, length, take, reverse, refl, ap, ◌∙◌, sym, subst, slice_set, arith}
use Rattle.std.specs.Prelude.{All, drop, nat_lt}
use Rattle.std.proofs.lemmas.Bool.{eqb-true, le-ltb, ltb-true, ltb-false}
use Rattle.std.proofs.lemmas.List.{drop-append-le, get_or_past, get_or-take, length-append, length-take, reverse-append, set-append_right}
use Rattle.std.proofs.lemmas.List.Elements.{All-head, All-push, All-tail}
use Rattle.std.proofs.Math.Seq.{drop-append-add, take-append-add}
use Rattle.run_values.specs.declared.frames.Undo.{Undo}
use Rattle.run_values.specs.declared.frames.Undo.TheVariants.{Bound, Scope, Call}
use Rattle.run_values.specs.declared.value.RunValue.{RunValue}
use Rattle.run_values.specs.declared.value.RunValue.TheVariants.{Unbound}
use Rattle.run_values.specs.Scopes.{IsBehind, Slots, around, below, own_below, own_without, seen, slots_of, without}
use Rattle.run_values.proofs.Slots.{set_at, take_whole}

later : (x : RunValue) (xs ys : List RunValue) → slots_of xs ≡ slots_of ys → slots_of (x ∷ xs) ≡ slots_of (x ∷ ys)
later x xs ys same = λ j i. at i j
  where
    at : (i : ℕ) → slots_of (x ∷ xs) i ≡ slots_of (x ∷ ys) i
    at zero = refl
    at (suc i) = ap (λ s. s i) same

pub behind : (o xs ys : List RunValue) → slots_of xs ≡ slots_of ys → slots_of (o ++ xs) ≡ slots_of (o ++ ys)
behind [] xs ys same = same
behind (x ∷ o) xs ys same = later x (o ++ xs) (o ++ ys) (behind o xs ys same)

pub set_behind : (o xs : List RunValue) (slot own : ℕ) (v : RunValue) → slot ≡ length o + own → o ++ slice_set xs own v ≡ slice_set (o ++ xs) slot v
set_behind o xs slot own v is = sym (set-append_right o xs (length o) slot v refl (omega (arith, is)) ∙ ap (λ k. o ++ slice_set xs k v) (omega (arith, is)))

-- a slot of those behind is free again
pub freed_behind : (o xs : List RunValue) (slot own : ℕ) → slot ≡ length o + own → own < length xs → slots_of (o ++ slice_set xs own Unbound) ≡ own_without (length o) slot (slots_of (o ++ xs))
freed_behind o xs slot own is there =
    ap slots_of (set_behind o xs slot own Unbound is)
    ∙ (λ j i. set_at (o ++ xs) slot i Unbound (omega (arith, length-append o xs, is, there)) j)
    ∙ ap (λ t. cond t (slots_of (o ++ xs)) (without slot (slots_of (o ++ xs)))) (sym (le-ltb slot (length o) (omega (arith, is))))

-- and where there is no slot, nothing is bound
pub freed_past : (o xs : List RunValue) (slot own : ℕ) → slot ≡ length o + own → length xs ≤ own → slots_of (o ++ xs) ≡ own_without (length o) slot (slots_of (o ++ xs))
freed_past o xs slot own is past =
    (λ j i. at i (eqb slot i) refl j)
    ∙ ap (λ t. cond t (slots_of (o ++ xs)) (without slot (slots_of (o ++ xs)))) (sym (le-ltb slot (length o) (omega (arith, is))))
  where
    at : (i : ℕ) (same : Bool) → eqb slot i ≡ same → slots_of (o ++ xs) i ≡ cond same Unbound (slots_of (o ++ xs) i)
    at i true e = get_or_past (o ++ xs) i Unbound (omega (arith, length-append o xs, is, past, eqb-true slot i e))
    at i false e = refl

cut_at : (ys : List RunValue) (m i : ℕ) → slots_of (take m ys) i ≡ below m (slots_of ys) i
cut_at ys m i = go (nat_lt i m) refl
  where
    go : (inside : Bool) → nat_lt i m ≡ inside → slots_of (take m ys) i ≡ cond inside (slots_of ys i) Unbound
    go true e = get_or-take m ys i Unbound (ltb-true i m e)
    go false e = get_or_past (take m ys) i Unbound (omega (arith, length-take m ys, ltb-false i m e))

-- a last slot in which nothing is bound may be left out
pub trimmed : (xs : List RunValue) (k : ℕ) → slots_of xs k ≡ Unbound → slots_of (take (k + 1) xs) ≡ slots_of xs → slots_of (take k xs) ≡ slots_of xs
trimmed xs k free same = λ j i. (cut_at xs k i ∙ at i (nat_lt i k) (nat_lt i (k + 1)) refl refl) j
  where
    at : (i : ℕ) (below next : Bool) → nat_lt i k ≡ below → nat_lt i (k + 1) ≡ next → cond below (slots_of xs i) Unbound ≡ slots_of xs i
    at i true next e f = refl
    at i false true e f = sym (ap (slots_of xs) (omega (arith, ltb-false i k e, ltb-true i (k + 1) f)) ∙ free)
    at i false false e f = sym (ap (λ s. s i) (sym same) ∙ get_or_past (take (k + 1) xs) i Unbound (omega (arith, length-take (k + 1) xs, ltb-false i (k + 1) f)))

pub cut_behind : (o xs ys : List RunValue) (base : ℕ) → ys ≡ take (base - length o) xs → slots_of (o ++ ys) ≡ own_below (length o) base (slots_of (o ++ xs))
cut_behind o xs ys base is =
    ap (λ zs. slots_of (o ++ zs)) is
    ∙ ap slots_of (sym (take-append-add o xs (base - length o)))
    ∙ (λ j i. cut_at (o ++ xs) (length o + (base - length o)) i j)

-- where a call begins behind all slots, none of them goes at its end
pub call_around : (o xs : List RunValue) (us ts : List Undo) (base caller : ℕ) → us ≡ ts ++ Call caller ∷ [] → base ≡ length o + length xs → around (length o) (reverse us) (slots_of (o ++ xs)) base ≡ seen (slots_of (o ++ xs)) caller ∷ around (length o) (reverse ts) (slots_of (o ++ xs)) caller
call_around o xs us ts base caller is all =
    ap (λ ws. around (length o) ws (slots_of (o ++ xs)) base) (ap reverse is ∙ reverse-append ts (Call caller ∷ []))
    ∙ ap (λ s. seen s caller ∷ around (length o) (reverse ts) s caller) (sym (cut_behind o xs xs base (sym (take_whole xs (base - length o) (omega (arith, all))))))

-- what writes no slot outside does the same where no slot stands outside
pub none_outside : (us : List Undo) (n : ℕ) (s : Slots) (base : ℕ) → All (IsBehind n) us → around 0 us s base ≡ around n us s base
none_outside [] n s base are = refl
none_outside (Bound k ∷ us) n s base are =
    ap (λ t. around 0 us (cond t s (without k s)) base) (le-ltb k 0 (omega arith))
    ∙ none_outside us n (without k s) base (All-tail (IsBehind n) (Bound k) us are)
    ∙ ap (λ t. around n us (cond t s (without k s)) base) (sym (le-ltb k n (All-head (IsBehind n) (Bound k) us are)))
none_outside (Scope ∷ us) n s base are = ap (λ es. seen s base ∷ es) (none_outside us n s base (All-tail (IsBehind n) Scope us are))
none_outside (Call caller ∷ us) n s base are = elim (All-head (IsBehind n) (Call caller) us are) [ ]

pub turned : (n : ℕ) (us : List Undo) → All (IsBehind n) us → All (IsBehind n) (reverse us)
turned n [] are = are
turned n (u ∷ us) are = subst (All (IsBehind n)) (sym (reverse-append (u ∷ []) us)) (All-push (IsBehind n) (reverse us) u (turned n us (All-tail (IsBehind n) u us are)) (All-head (IsBehind n) u us are))

-- the slots of a call that stand behind, as slots of their own
pub lent_behind : (o xs ys : List RunValue) (base own : ℕ) → base ≡ length o + own → ys ≡ drop own xs → ys ≡ drop base (o ++ xs)
lent_behind o xs ys base own is rest = rest ∙ sym (ap (λ k. drop k (o ++ xs)) is ∙ drop-append-add o xs own)

-- and those that stand on both sides
pub lent_both : (o xs ys : List RunValue) (base : ℕ) → base < length o → ys ≡ drop base o ++ xs → ys ≡ drop base (o ++ xs)
lent_both o xs ys base lt are = are ∙ sym (drop-append-le base o xs (omega (arith, lt)))
