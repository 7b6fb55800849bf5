-- The runs of the positions before a place.
use Rattle.std.proofs.Common.{◌≡◌, ℕ, ◌+◌, ◌-◌, ◌<◌, ◌≤◌, inl, inr, ℤ, List, [], ◌∷◌, ◌++◌, length, refl, sym, subst, ◌∙◌, arith, true, false, true≢false, Option, Some, None}
use Rattle.std.specs.Prelude.{All, AllPairs, Any, slice_index_or}
use Rattle.std.proofs.lemmas.Bool.{cases_lt}
use Rattle.std.proofs.lemmas.List.{length-append, get_or_append_left}
use Rattle.std.proofs.lemmas.List.Elements.{All-nil, All-push}
use Rattle.std.proofs.lemmas.List.Quantifiers.{Any-push, all_pairs_push}
use Rattle.sac_base.specs.declared.grid.Grid1.{Grid1}
use Rattle.sac_base.specs.Grids.{has_vector}
use Rattle.loop_code.specs.Runs.{AreRunsOver, HasFirst, HasFrom, IsIn, IsRunOf, pushed}
use Rattle.loop_code.specs.declared.positions.Run.{Run}

abbrev pub IsSome : Run → Type 0
IsSome r = 1 ≤ r.count

abbrev pub IsBefore : Run → Run → Type 0
IsBefore r s = r.from + r.count ≤ s.from

abbrev pub EndsAt : ℕ → Run → Type 0
EndsAt place r = r.from + r.count ≤ place

pub record AreRunsBefore (indices : List (List ℤ)) (parts : List (List Grid1)) (place : ℕ) (runs : List Run) : Type 0 where
  pub some : All IsSome runs
  pub ascending : AllPairs IsBefore runs
  pub ends : All (EndsAt place) runs
  pub each : All (IsRunOf indices parts) runs
  pub all : (p k : ℕ) → p < place → k < length parts → has_vector (slice_index_or parts k []) (slice_index_or indices p []) ≡ true → Any (IsIn p) runs

none_pairs : AllPairs IsBefore []
none_pairs i j d below inside = absurd (omega (arith, inside))

pub no_runs : (indices : List (List ℤ)) (parts : List (List Grid1)) (runs : List Run) → runs ≡ [] → AreRunsBefore indices parts 0 runs
no_runs indices parts runs e = subst (AreRunsBefore indices parts 0) (sym e) (record {
  some = All-nil IsSome;
  ascending = none_pairs;
  ends = All-nil (EndsAt 0);
  each = All-nil (IsRunOf indices parts);
  all = λ p k lt inside has. absurd (omega (arith, lt));
})

further : (place more : ℕ) (runs : List Run) → All (EndsAt place) runs → All (EndsAt (place + more)) runs
further place more runs ends k r inside = let before = ends k r inside in omega (arith, before)

-- a position behind the place is so much further
behind : (place p : ℕ) → place ≤ p → place + (p - place) ≡ p
behind place p h = omega arith

module _ (indices : List (List ℤ)) (parts : List (List Grid1)) (place count : ℕ) (runs : List Run) (before : AreRunsBefore indices parts place runs) where
  -- no part has the indices from the place on
  pub none_more : HasFrom indices parts place None count → AreRunsBefore indices parts (place + count) runs
  none_more none = record {
    some = before.some;
    ascending = before.ascending;
    ends = further place count runs before.ends;
    each = before.each;
    all = λ p k lt inside has. elim (cases_lt p place) [
      | inl low ↦ before.all p k low inside has
      | inr high ↦
          let not_here : has_vector (slice_index_or parts k []) (slice_index_or indices p []) ≡ false =
          subst (λ q. has_vector (slice_index_or parts k []) (slice_index_or indices q []) ≡ false) (behind place p high) (none (p - place) (omega (arith, lt, high)) k inside) in
          absurd (true≢false (sym has ∙ not_here))
    ];
  }

  -- a part has them
  module _ (part : ℕ) (r : Run) (some : 1 ≤ count) (inside : place + count ≤ length indices) (has : HasFrom indices parts place (Some part) count) (from : r.from ≡ place) (long : r.count ≡ count) (same : r.part ≡ part) where
    is_run : IsRunOf indices parts r
    is_run p at =
        let low : place ≤ p = omega (arith, from, at.0) in
        let here = subst (λ q. HasFirst parts (slice_index_or indices q []) part) (behind place p low) (has (p - place) (omega (arith, from, long, at.1, low))) in
        (omega (arith, from, long, at.1, inside), subst (HasFirst parts (slice_index_or indices p [])) (sym same) here)

    pub run_more : (new : List Run) → new ≡ runs ++ r ∷ [] → AreRunsBefore indices parts (place + count) new
    run_more new e = subst (AreRunsBefore indices parts (place + count)) (sym e) (record {
      some = All-push IsSome runs r before.some (omega (arith, some, long));
      ascending = all_pairs_push IsBefore runs r before.ascending (λ k d lt. let end = before.ends k d lt in omega (arith, end, from));
      ends = All-push (EndsAt (place + count)) runs r (further place count runs before.ends) (omega (arith, from, long));
      each = All-push (IsRunOf indices parts) runs r before.each is_run;
      all = λ p k lt within there. elim (cases_lt p place) [
        | inl low ↦ more_any (before.all p k low within there)
        | inr high ↦ Any-push (IsIn p) runs r (omega (arith, from, high), omega (arith, from, long, lt))
      ];
    })
      where
        more_any : {P : Run → Type 0} → Any P runs → Any P (runs ++ r ∷ [])
        more_any {P} a = (a.0, a.1, omega (arith, a.2, length-append runs (r ∷ [])), get_or_append_left runs (r ∷ []) a.1 a.0 a.2 ∙ a.3, a.4)

pub runs_more : (indices : List (List ℤ)) (parts : List (List Grid1)) (place count : ℕ) (runs : List Run) (part : Option ℕ) → AreRunsBefore indices parts place runs → 1 ≤ count → place + count ≤ length indices → HasFrom indices parts place part count
    → AreRunsBefore indices parts (place + count) (pushed runs place part count)
runs_more indices parts place count runs None before some inside has = none_more indices parts place count runs before has
runs_more indices parts place count runs (Some part) before some inside has =
    run_more indices parts place count runs before part (record { from = place; count = count; part = part }) some inside has refl refl refl (pushed runs place (Some part) count) refl

pub all_runs : (indices : List (List ℤ)) (parts : List (List Grid1)) (place : ℕ) (runs : List Run) → length indices ≤ place → AreRunsBefore indices parts place runs → AreRunsOver indices parts runs
all_runs indices parts place runs end before = record {
  some = before.some;
  ascending = before.ascending;
  each = before.each;
  all = λ p k lt. before.all p k (omega (arith, lt, end));
}
