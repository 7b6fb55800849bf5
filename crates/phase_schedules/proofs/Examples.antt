-- A phase of two workers and two chunks, as an interleaving: each draws a chunk, the second writes first, the first keeps and releases a shared
-- buffer meanwhile, both draw until none is left, and both leave.
use Rattle.std.proofs.Common.{◌≡◌, ◌≢◌, ℕ, zero, suc, ◌<◌, ◌≤◌, ◌^◌, true, false, cond, eqb, pos, List, [], ◌∷◌, Some, Ok, refl, inl, ⊎_elim, arith}
use Rattle.std.proofs.lemmas.Bool.{cases_eq, ne_eqb}
use Rattle.atomic_table.specs.Table.{keeps, stepped, takes}
use Rattle.wl_core.specs.declared.setup.Job.TheVariants.{Write as Store}
use Rattle.wl_core.specs.Facts.{made_by}
use Rattle.wl_core.specs.Machine.{SetupValue, Cells, chunks}
use Rattle.count_table.specs.declared.view.FrameView.{FrameView}
use Rattle.count_table.specs.declared.view.WorkerView.{WorkerView}
use Rattle.count_table.specs.declared.view.View.TheVariants.{Frame, Worker, Spent}
use Rattle.count_table.specs.Views.{times}
use Rattle.count_table.specs.Plays.{after_draw, after_keep, both_of, fresh, joined, left_of, moved_left, moved_right, right_of, seated}
use Rattle.count_table.specs.Opening.{opened}
use Rattle.phase_schedules.specs.Interleavings.{Action, AtTable, DrawBy, Interleaved, JoinSeat, KeepBy, MakeSeat, MoveSeat, ReleaseBy, WriteBy, merged, parted}
use Rattle.phase_schedules.specs.Leaving.{WorkersLeft}
use Rattle.phase_schedules.specs.Moments.{Dynamic, Moment, ending, open_moment, wrote}
use Rattle.phase_schedules.specs.Readings.{CellsDone}

abbrev setup : SetupValue
setup = record { cells = Ok (Some (pos 5 ∷ [])) ∷ Ok (Some (pos 7 ∷ [])) ∷ []; size = 1; workers = 2; job = Store; counts = 1 ∷ [] }

abbrev parts : List ℕ
parts = 10 ∷ 20 ∷ []

abbrev actions : List Action
actions =
    AtTable MakeSeat ∷ AtTable MakeSeat ∷ AtTable (DrawBy 1) ∷ AtTable (KeepBy 1 0) ∷ AtTable (DrawBy 2) ∷ WriteBy 2 1 ∷ WriteBy 1 0 ∷ AtTable (ReleaseBy 1 0)
    ∷ AtTable (DrawBy 1) ∷ AtTable (DrawBy 2) ∷ AtTable (MoveSeat 1) ∷ AtTable (JoinSeat 3) ∷ AtTable (MoveSeat 2) ∷ AtTable (JoinSeat 4) ∷ []

abbrev frame : FrameView ℕ
frame = opened (1 ∷ []) parts

abbrev one : WorkerView ℕ
one = fresh frame

abbrev two : WorkerView ℕ
two = fresh (seated frame)

abbrev one_left : WorkerView ℕ
one_left = record one { drawn = 0 ∷ []; ended = true }

abbrev two_left : WorkerView ℕ
two_left = record two { drawn = 1 ∷ []; ended = true }

abbrev m0 : Moment ℕ
m0 = open_moment setup parts

abbrev m1 : Moment ℕ
m1 = record m0 { table = parted m0.table 0 (left_of (Frame frame)) (right_of (Frame frame)) }

abbrev m2 : Moment ℕ
m2 = record m1 { table = parted m1.table 0 (left_of (Frame (seated frame))) (right_of (Frame (seated frame))) }

abbrev m3 : Moment ℕ
m3 = record m2 { table = stepped m2.table 0 1 1 [] (Worker (after_draw one 0)) (takes 0 (Some 10)) }

abbrev m4 : Moment ℕ
m4 = record m3 { table = stepped m3.table 1 2 1 [] (Worker (after_keep (after_draw one 0) 0)) keeps }

abbrev m5 : Moment ℕ
m5 = record m4 { table = stepped m4.table 0 2 2 [] (Worker (after_draw two 1)) (takes 1 (Some 20)) }

abbrev m6 : Moment ℕ
m6 = record m5 { work = wrote setup m5.work 1 1 (Some (pos 7 ∷ [])) }

abbrev m7 : Moment ℕ
m7 = record m6 { work = wrote setup m6.work 0 0 (Some (pos 5 ∷ [])) }

abbrev m8 : Moment ℕ
m8 = record m7 { table = stepped m7.table 1 1 1 [] (Worker (after_draw one 0)) keeps }

abbrev m9 : Moment ℕ
m9 = record m8 { table = stepped m8.table 0 3 1 [] (Worker one_left) keeps }

abbrev m10 : Moment ℕ
m10 = record m9 { table = stepped m9.table 0 4 2 [] (Worker two_left) keeps }

abbrev m11 : Moment ℕ
m11 = record m10 { table = parted m10.table 1 (moved_left (Worker one_left)) (moved_right (Worker one_left)) }

abbrev m12 : Moment ℕ
m12 = record m11 { table = merged m11.table 0 (both_of (Frame (seated (seated frame))) (Worker one_left)) 3 Spent }

abbrev m13 : Moment ℕ
m13 = record m12 { table = parted m12.table 2 (moved_left (Worker two_left)) (moved_right (Worker two_left)) }

abbrev m14 : Moment ℕ
m14 = record m13 { table = merged m13.table 0 (both_of (Frame (joined (seated (seated frame)) one_left)) (Worker two_left)) 4 Spent }

-- chunks that a worker drew lie below a number
below : (c d n : ℕ) → d < n → 0 < times c (d ∷ []) → c < n
below c d n lt has = ⊎_elim (λ (e : d ≡ c). omega arith) (λ (ne : d ≢ c). absurd (let f : eqb d c ≡ false = ne_eqb d c ne in let z : cond {A = ℕ} (eqb d c) 1 0 ≡ 0 = rw f refl in omega arith)) (cases_eq d c)

steps : Interleaved Dynamic setup m0 actions m14
steps = (
  m1,
  (m1.table, (frame, refl, (let g : 0 < 2 = omega arith in g), refl), refl),
  (
    m2,
    (m2.table, (seated frame, refl, (let g : 1 < 2 = omega arith in g), refl), refl),
    (
      m3,
      (m3.table, (one, refl, refl, ([], Worker (after_draw one 0), takes 0 (Some 10), tt, refl, (refl, λ c has. absurd (omega arith)), refl)), refl),
      (
        m4,
        (m4.table, (after_draw one 0, refl, (let g : 0 < 1 = omega arith in g), (let g : 0 < 2 ^ 56 = omega arith in g), ([], Worker (after_keep (after_draw one 0) 0), keeps, tt, tt, refl, refl)), refl),
        (
          m5,
          (m5.table, (two, refl, refl, ([], Worker (after_draw two 1), takes 1 (Some 20), tt, refl, (refl, λ c has. absurd (omega arith)), refl)), refl),
          (
            m6,
            (after_draw two 1, Some (pos 7 ∷ []), refl, (let g : 0 < 1 = omega arith in g), (let g : 1 < 2 = omega arith in g), refl, refl, refl),
            (
              m7,
              (after_keep (after_draw one 0) 0, Some (pos 5 ∷ []), refl, (let g : 0 < 1 = omega arith in g), (let g : 0 < 1 = omega arith in g), refl, refl, refl),
              (
                m8,
                (m8.table, (after_keep (after_draw one 0) 0, refl, (let g : 0 < 1 = omega arith in g), ([], Worker (after_draw one 0), keeps, tt, tt, (refl, (let g : 2 ≤ 2 = omega arith in g)), refl)), refl),
                (
                  m9,
                  (m9.table, (after_draw one 0, refl, refl, ([], Worker one_left, keeps, tt, tt, (refl, λ c has. below c 0 2 (let g : 0 < 2 = omega arith in g) has), refl)), refl),
                  (
                    m10,
                    (m10.table, (after_draw two 1, refl, refl, ([], Worker two_left, keeps, tt, tt, (refl, λ c has. below c 1 3 (let g : 1 < 3 = omega arith in g) has), refl)), refl),
                    (
                      m11,
                      (m11.table, (one_left, refl, refl), refl),
                      (m12, (m12.table, (seated (seated frame), one_left, refl, refl, refl, refl), refl), (m13, (m13.table, (two_left, refl, refl), refl), (m14, (m14.table, (joined (seated (seated frame)) one_left, two_left, refl, refl, refl, refl), refl), refl))),
                    ),
                  ),
                ),
              ),
            ),
          ),
        ),
      ),
    ),
  ),
)

-- every seat has left, and every chunk is done
left : WorkersLeft m14
left = (joined (joined (seated (seated frame)) one_left) two_left, refl, refl, (let g : 1 ≤ 2 = omega arith in g))

done : CellsDone setup m14.work
done zero lt = inl refl
done (suc zero) lt = inl refl
done (suc (suc c)) lt = absurd (let few : chunks setup ≡ 2 = refl in omega arith)

-- what the workers stored is the sequential verdict
stored : made_by Store 2 2 (ending setup m14.work) ≡ Cells (pos 5 ∷ pos 7 ∷ [])
stored = refl
