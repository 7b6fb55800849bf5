-- Where views stand: the frame's first, and those of the workers behind it.
use Rattle.std.proofs.Common.{◌≡◌, ℕ, zero, suc, List, [], ◌∷◌, sym, subst}
use mathlib.Core.Option.{some, Option as Home}
use lib.ListN.{get_elem?}
use Rattle.std.specs.declared.option.Option.{Option}
use Rattle.count_table.specs.declared.view.FrameView.{FrameView}
use Rattle.count_table.specs.declared.view.WorkerView.{WorkerView}
use Rattle.count_table.specs.declared.view.View.{View}
use Rattle.count_table.specs.declared.view.View.TheVariants.{Frame, Worker, Spent}
use Rattle.count_table.specs.Rule.{Keeps}
use Rattle.count_table.proofs.Facts.{frame_no_worker}

module _ {T : Type 0} (hs : List (Home (Option T))) where
  -- what holds where a frame's view is the first
  pub at_frame : (C : List ℕ → List (View T) → Type 0) → ((n : ℕ) (cs : List ℕ) (f : FrameView T) (vs : List (View T)) → Keeps (n ∷ cs) hs (Frame f ∷ vs) → C (n ∷ cs) (Frame f ∷ vs))
      → (ws : List ℕ) (vs : List (View T)) → Keeps ws hs vs → C ws vs
  at_frame C found [] vs k = absurd k
  at_frame C found (n ∷ cs) [] k = absurd k
  at_frame C found (n ∷ cs) (Worker w ∷ vs) k = absurd k
  at_frame C found (n ∷ cs) (Spent ∷ vs) k = absurd k
  at_frame C found (n ∷ cs) (Frame f ∷ vs) k = found n cs f vs k

  -- where this frame's view is the first
  pub at_first : (f : FrameView T) (C : List ℕ → List (View T) → Type 0) → ((n : ℕ) (cs : List ℕ) (vs : List (View T)) → Keeps (n ∷ cs) hs (Frame f ∷ vs) → C (n ∷ cs) (Frame f ∷ vs))
      → (ws : List ℕ) (vs : List (View T)) → Keeps ws hs vs → get_elem? vs 0 ≡ some (Frame f) → C ws vs
  at_first f C found = at_frame (λ ws vs. get_elem? vs 0 ≡ some (Frame f) → C ws vs) first
    where
      first : (n : ℕ) (cs : List ℕ) (g : FrameView T) (vs : List (View T)) → Keeps (n ∷ cs) hs (Frame g ∷ vs) → get_elem? (Frame g ∷ vs) 0 ≡ some (Frame f) → C (n ∷ cs) (Frame g ∷ vs)
      first n cs g vs k at =
          let e : g ≡ f = cc in
          subst (λ (x : FrameView T). Keeps (n ∷ cs) hs (Frame x ∷ vs) → C (n ∷ cs) (Frame x ∷ vs)) (sym e) (found n cs vs) k

  -- where this worker's view stands behind the frame's
  pub at_worker : (w : WorkerView T) (C : List ℕ → List (View T) → ℕ → Type 0)
      → ((n : ℕ) (cs : List ℕ) (f : FrameView T) (vs : List (View T)) (i : ℕ) → Keeps (n ∷ cs) hs (Frame f ∷ vs) → get_elem? vs i ≡ some (Worker w) → C (n ∷ cs) (Frame f ∷ vs) (suc i))
      → (ws : List ℕ) (vs : List (View T)) (id : ℕ) → Keeps ws hs vs → get_elem? vs id ≡ some (Worker w) → C ws vs id
  at_worker w C found ws vs id k = at_frame (λ us xs. get_elem? xs id ≡ some (Worker w) → C us xs id) (λ n cs f xs. behind n cs f xs id) ws vs k
    where
      behind : (n : ℕ) (cs : List ℕ) (f : FrameView T) (vs : List (View T)) (id : ℕ) → Keeps (n ∷ cs) hs (Frame f ∷ vs) → get_elem? (Frame f ∷ vs) id ≡ some (Worker w) → C (n ∷ cs) (Frame f ∷ vs) id
      behind n cs f vs zero k at = absurd (frame_no_worker f w at)
      behind n cs f vs (suc i) k at = found n cs f vs i k at
