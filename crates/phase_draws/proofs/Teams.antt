-- A worker and the others.
use Rattle.std.proofs.Common.{◌≡◌, ℕ, zero, suc, ◌+◌, ◌-◌, ◌*◌, ◌<◌, ◌≤◌, Bool, false, ℤ, List, [], ◌∷◌, ◌++◌, length, length-append, append-nil, Option, None, Some, Result, Ok, Err, IfOk, refl, sym, ap, subst, ◌∙◌, arith, map, Vec, vec_capacity, vec_len}
use Rattle.std.specs.Global.{Global}
use Rattle.std.proofs.lemmas.List.{take-append-le, append_assoc, length_push}
use Rattle.std.proofs.Math.Nat.{suc-mul}
use Rattle.sac_base.specs.Verdict.{fold_op}
use Rattle.sac_base.specs.declared.memory.Memory.{Memory}
use Rattle.wl_core.specs.declared.setup.Job.{Job}
use Rattle.wl_core.specs.declared.setup.Job.TheVariants.{Write as Store, Fold}
use Rattle.wl_core.specs.Combining.{IsFoldable}
use Rattle.wl_core.specs.Machine.{CellValue, TakesBase, combine, both}
use Rattle.wl_core.proofs.FoldLaws.{foldable, elementwise-foldable}
use Rattle.count_table.specs.Seats.{FrameState, PhaseId}
use Rattle.phase_team.specs.Segments.{value_if, HasRows, MergesRows, Same}
use Rattle.phase_team.proofs.Sequences.{same_of}
use Rattle.phase_chunks.specs.declared.shares.Share.{Share}
use Rattle.phase_chunks.specs.Chunks.{ChunkPart, ChunkReport, HasThreeRows}
use Rattle.phase_draws.specs.Crews.{AreRooms, IsBack, IsRun, IsSettled}
use Rattle.phase_draws.specs.Rosters.{CameBack, HasPlaces}
use Rattle.phase_draws.specs.declared.members.Roster.{Roster}
use Rattle.phase_draws.specs.Reports.{AllOk, AreCombined, AreDone, AreFrames, Combine, CostOf, Grew, GrewBoth, HasRowsFor, Told, gathered}
use Rattle.phase_draws.proofs.Reported.{costs_both, done_both, gathered_both, ok_both}

-- ---- rooms

pub room_last : (n : ℕ) (vs : List (Vec ChunkReport Global)) (v : Vec ChunkReport Global) → AreRooms n (vs ++ v ∷ []) → AreRooms n vs × (v.items ≡ []) × (n ≤ vec_capacity v)
room_last n [] v all = (tt, all.0, all.1)
room_last n (w ∷ vs) v all = let rest = room_last n vs v all.2 in ((all.0, all.1, rest.0), rest.1, rest.2)

pub rooms_push : (n : ℕ) (vs : List (Vec ChunkReport Global)) (v : Vec ChunkReport Global) → AreRooms n vs → v.items ≡ [] → n ≤ vec_capacity v → AreRooms n (vs ++ v ∷ [])
rooms_push n [] v all none fits = (none, fits, tt)
rooms_push n (w ∷ vs) v all none fits = (all.0, all.1, rooms_push n vs v all.2 none fits)

-- a worker's rows, and those of the others
pub rows_apart : (job : Job) (width n len own : ℕ) → HasRowsFor job width (n + 1) len → HasThreeRows job width own → HasRowsFor job width n (len - own)
rows_apart Store width n len own all mine = tt
rows_apart (Fold base op) width n len own all mine =
    let e : (n + 1) * (width + (width + width)) ≡ n * (width + (width + width)) + (width + (width + width)) =
    ap (λ (k : ℕ). k * (width + (width + width))) (let k : n + 1 ≡ suc n = omega arith in k) ∙ suc-mul n (width + (width + width)) in
    omega arith

-- the rows of a worker are within those of all
pub rows_within : (job : Job) (width n len : ℕ) → HasRowsFor job width (n + 1) len → (own : ℕ) × HasThreeRows job width own × (own ≤ len)
rows_within Store width n len all = (0, tt, omega arith)
rows_within (Fold base op) width n len all =
    let e : (n + 1) * (width + (width + width)) ≡ n * (width + (width + width)) + (width + (width + width)) =
    ap (λ (k : ℕ). k * (width + (width + width))) (let k : n + 1 ≡ suc n = omega arith in k) ∙ suc-mul n (width + (width + width)) in
    (width + (width + width), refl, omega arith)

pub rows_of_one : (job : Job) (width n len : ℕ) → n ≡ 0 → HasRowsFor job width (n + 1) len → HasThreeRows job width len
rows_of_one Store width n len none all = tt
rows_of_one (Fold base op) width n len none all =
    let e : (n + 1) * (width + (width + width)) ≡ (0 + 1) * (width + (width + width)) = ap (λ (k : ℕ). (k + 1) * (width + (width + width))) none in
    let f : (0 + 1) * (width + (width + width)) ≡ width + (width + width) = omega arith in
    omega arith

pub rows_of_both : (job : Job) (width n own rest : ℕ) → 0 < n → HasThreeRows job width own → HasRowsFor job width n rest → HasRows job width own rest
rows_of_both Store width n own rest some mine others = tt
rows_of_both (Fold base op) width zero own rest some mine others = absurd (omega arith)
rows_of_both (Fold base op) width (suc n) own rest some mine others =
    let e : suc n * (width + (width + width)) ≡ n * (width + (width + width)) + (width + (width + width)) = suc-mul n (width + (width + width)) in
    (omega arith, omega arith)

-- ---- space for reports

pub one_more : (n parts : ℕ) → (n + 1) * parts ≡ n * parts + parts
one_more n parts = ap (λ (k : ℕ). k * parts) (let k : n + 1 ≡ suc n = omega arith in k) ∙ suc-mul n parts

-- ---- what a worker and the others make

pub told_none : (cell : ℕ → CellValue) (cost : ℕ → ℕ → ℕ) (share : Share) (h : ℕ → ℕ) (rows : List ℤ) → Told cell cost share [] h h false rows
told_none cell cost share h rows all = ((λ kind. let z : h kind ≡ h kind + 0 = omega arith in same_of kind (h kind) (h kind + 0) z), none share.job)
  where
    none : (job : Job) → Combine job cell share [] false rows
    none Store = tt
    none (Fold base op) = refl

pub grew_none : (cell : ℕ → CellValue) (cost : ℕ → ℕ → ℕ) (share : Share) (old : List ChunkReport) (h : ℕ → ℕ) (rows : List ℤ) → Grew cell cost share old old h h rows (Ok false)
grew_none cell cost share old h rows = ([], sym (append-nil old), told_none cell cost share h rows)

pub grew_alone : (cell : ℕ → CellValue) (cost : ℕ → ℕ → ℕ) (share : Share) (mine old : List ChunkReport) (h s s' : ℕ → ℕ) (held : Bool) (rows : List ℤ) → Told cell cost share mine s s' held rows
    → GrewBoth cell cost share mine old old h h s s' rows (Ok held)
grew_alone cell cost share mine old h s s' held rows told =
    ([], sym (append-nil old), λ none all. ((λ kind. let z : h kind ≡ h kind + 0 = omega arith in same_of kind (h kind) (h kind + 0) z), (told all).0, (told all).1))

both-comm : {A : Type 0} (op : A → A → A) → IsFoldable op → (a b : Option A) → both op a b ≡ both op b a
both-comm op laws None None = refl
both-comm op laws None (Some y) = refl
both-comm op laws (Some x) None = refl
both-comm op laws (Some x) (Some y) = ap (λ w. Some w) (laws.comm x y)

merged : (job : Job) → TakesBase job → (cell : ℕ → CellValue) (share : Share) (mine more : List ChunkReport) (own rest after : List ℤ) (held others result : Bool)
    → HasRows job share.width (length own) (length rest) → MergesRows job share.width own rest held others after result
    → Combine job cell share mine held own → Combine job cell share more others rest → Combine job cell share (more ++ mine) result (after ++ rest)
merged Store takes cell share mine more own rest after held others result rows m a b = tt
merged (Fold base op) takes cell share mine more own rest after held others result rows m a b =
    let laws = elementwise-foldable (fold_op op) (foldable base op takes) in
    let room : share.width ≤ length after = (let l = m.0 in let w = rows.0 in omega arith) in
    ap (λ (l : List ℤ). value_if result l) (take-append-le share.width after rest room) ∙ m.1 ∙ (λ j. both (combine op) (a j) (b j))
    ∙ both-comm (combine op) laws (gathered op cell share mine) (gathered op cell share more) ∙ sym (gathered_both op laws cell share more mine)

pub grew_both : (cell : ℕ → CellValue) (cost : ℕ → ℕ → ℕ) (share : Share) → TakesBase share.job → (mine old new : List ChunkReport) (h h' s s' : ℕ → ℕ) (own rest after : List ℤ) (held others result : Bool) (later : Result Bool Memory)
    → HasRows share.job share.width (length own) (length rest) → MergesRows share.job share.width own rest held others after result → later ≡ Ok others
    → Told cell cost share mine s s' held own → Grew cell cost share old new h h' rest later → GrewBoth cell cost share mine old new h h' s s' (after ++ rest) (Ok result)
grew_both cell cost share takes mine old new h h' s s' own rest after held others result later rows m is own_told grew =
    let told : Told cell cost share grew.0 h h' others rest = subst (λ (r : Result Bool Memory). IfOk r (λ b. Told cell cost share grew.0 h h' b rest)) is grew.2 in
    (grew.0, grew.1, λ all every. let t = told all in (t.0, (own_told every).0, merged share.job takes cell share mine grew.0 own rest after held others result rows m (own_told every).1 t.1))

pub grew_err : (cell : ℕ → CellValue) (cost : ℕ → ℕ → ℕ) (share : Share) (mine old new : List ChunkReport) (h h' s s' : ℕ → ℕ) (rest rows : List ℤ) (later : Result Bool Memory) (e : Memory)
    → Grew cell cost share old new h h' rest later → GrewBoth cell cost share mine old new h h' s s' rows (Err e)
grew_err cell cost share mine old new h h' s s' rest rows later e grew = (grew.0, grew.1, tt)

-- a team: its first worker began with nothing and was settled behind the others
pub grew_team : (cell : ℕ → CellValue) (cost : ℕ → ℕ → ℕ) (share : Share) (mine old mid new : List ChunkReport) (h h' k s s' : ℕ → ℕ) (rows : List ℤ) (end result : Result Bool Memory)
    → GrewBoth cell cost share mine old mid h h' s s' rows end → new ≡ mid ++ mine → ((kind : ℕ) → s kind ≡ 0) → end ≡ result → ((kind : ℕ) → Same kind (k kind) (h' kind + s' kind))
    → Grew cell cost share old new h k rows result
grew_team cell cost share mine old mid new h h' k s s' rows end result grew all none is back =
    let items : new ≡ old ++ (grew.0 ++ mine) = all ∙ ap (λ (l : List ChunkReport). l ++ mine) grew.1 ∙ append_assoc old grew.0 mine in
    (grew.0 ++ mine, items, subst (λ (r : Result Bool Memory). IfOk r (λ held. Told cell cost share (grew.0 ++ mine) h k held rows)) is (by end grew.2))
  where
    by : (r : Result Bool Memory) → IfOk r (λ held. AllOk grew.0 → AllOk mine → CostOf cost share grew.0 h h' × CostOf cost share mine s s' × AreCombined cell share (grew.0 ++ mine) held rows)
        → IfOk r (λ held. Told cell cost share (grew.0 ++ mine) h k held rows)
    by (Ok held) told = λ every. let apart = ok_both grew.0 mine every in let t = told apart.0 apart.1 in (costs_both cost share grew.0 mine h h' k s s' t.0 t.1 none back, t.2)
    by (Err e) told = tt

pub grew_lost : (cell : ℕ → CellValue) (cost : ℕ → ℕ → ℕ) (share : Share) (mine old mid new : List ChunkReport) (h h' s s' : ℕ → ℕ) (rows : List ℤ) (end : Result Bool Memory)
    → GrewBoth cell cost share mine old mid h h' s s' rows end → new ≡ mid ++ mine → (more : List ChunkReport) × (new ≡ old ++ more) × Unit {0}
grew_lost cell cost share mine old mid new h h' s s' rows end grew all =
    (grew.0 ++ mine, all ∙ ap (λ (l : List ChunkReport). l ++ mine) grew.1 ∙ append_assoc old grew.0 mine, tt)

-- ---- seats

pub back_here : (f : FrameState ChunkPart) → IsBack f f
back_here f = record { phase = refl; opening = refl; out = refl; nones = omega arith }

pub back_run : (f g : FrameState ChunkPart) → IsRun f g → IsBack f g
back_run f g is = record { phase = is.phase; opening = is.opening; out = is.out; nones = (let e = is.ended in omega arith) }

pub run_of : (f₀ f₁ f₂ f₃ : FrameState ChunkPart) → f₁ ≡ record f₀ { made = f₀.made + 1; out = f₀.out + 1 } → IsBack f₁ f₂ → IsSettled f₂ f₃ → IsRun f₀ f₃
run_of f₀ f₁ f₂ f₃ seated is settled =
    let out₁ = ap (λ (f : FrameState ChunkPart). f.out) seated in
    let out₂ = is.out in
    let out₃ = settled.out in
    let nones₁ = ap (λ (f : FrameState ChunkPart). f.nones) seated in
    let nones₂ = is.nones in
    let nones₃ = settled.ended in
    record {
      phase = settled.phase ∙ is.phase ∙ ap (λ (f : FrameState ChunkPart). f.phase) seated;
      opening = settled.opening ∙ is.opening ∙ ap (λ (f : FrameState ChunkPart). f.opening) seated;
      out = omega arith;
      ended = omega arith;
    }

pub frames_seated : (f₀ f₁ : FrameState ChunkPart) (rs : List ChunkReport) → f₁ ≡ record f₀ { made = f₀.made + 1; out = f₀.out + 1 } → AreFrames rs f₀ → AreFrames rs f₁
frames_seated f₀ f₁ rs seated is = is ∙ sym (ap (λ (f : FrameState ChunkPart). map (λ (p : ℕ × ℕ). p.0) f.drawn) seated)

-- ---- the roster

-- a phase was opened, and nobody has begun
pub places_opened : (cell : ℕ → CellValue) (share : Share) (table : PhaseId ChunkPart) (opening : List ℕ) (n : ℕ) (slots : List ChunkPart) (roster : Roster)
    → roster.frame ≡ record { phase = table; opening = opening; made = 0; out = 0; drawn = []; nones = 0 } → table.parts ≡ slots → roster.begun ≡ 0 → n ≤ 64 → AreRooms (length slots) roster.rooms.items
    → roster.reports.items ≡ [] → n * length slots ≤ vec_capacity roster.reports → HasPlaces cell share table n roster
places_opened cell share table opening n slots roster opened parts none few rooms empty space =
    let long : length table.parts ≡ length slots = ap (λ (l : List ChunkPart). length l) parts in
    let all : n * length table.parts ≡ n * length slots = ap (λ (k : ℕ). n * k) long in
    let len = ap (λ (l : List ChunkReport). length l) empty in
    let a = roster.reports.ok.0 in
    let seats = ap (λ (f : FrameState ChunkPart). f.made) opened in
    record {
      phase = ap (λ (f : FrameState ChunkPart). f.phase) opened;
      made = omega arith;
      begun = omega arith;
      rooms = subst (λ (k : ℕ). AreRooms k roster.rooms.items) (sym long) rooms;
      done = subst (λ (l : List ChunkReport). AreDone cell share table.parts l) (sym empty) tt;
      frames = ap (λ (l : List ChunkReport). map (λ (r : ChunkReport). r.chunk) l) empty ∙ sym (ap (λ (f : FrameState ChunkPart). map (λ (p : ℕ × ℕ). p.0) f.drawn) opened);
      space = omega arith;
    }

-- one worker is seated
pub places_seated : (cell : ℕ → CellValue) (share : Share) (table : PhaseId ChunkPart) (roster : Roster) (f : FrameState ChunkPart) → HasPlaces cell share table (vec_len roster.rooms + 1) roster
    → f ≡ record roster.frame { made = roster.frame.made + 1; out = roster.frame.out + 1 } → HasPlaces cell share table (vec_len roster.rooms) (record roster { frame = f; begun = roster.begun + 1 })
places_seated cell share table roster f has seated =
    let more = one_more (vec_len roster.rooms) (length table.parts) in
    let made = ap (λ (g : FrameState ChunkPart). g.made) seated in
    record {
      phase = ap (λ (g : FrameState ChunkPart). g.phase) seated ∙ has.phase;
      made = (let m = has.made in omega arith);
      begun = (let b = has.begun in omega arith);
      rooms = has.rooms;
      done = has.done;
      frames = frames_seated roster.frame f roster.reports.items seated has.frames;
      space = (let s = has.space in omega arith);
    }

-- a room is taken for one worker
pub places_popped : (cell : ℕ → CellValue) (share : Share) (table : PhaseId ChunkPart) (roster : Roster) (rooms : Vec (Vec ChunkReport Global) Global) (room : Vec ChunkReport Global)
    → HasPlaces cell share table (vec_len roster.rooms) roster → roster.rooms.items ≡ rooms.items ++ room ∷ [] → HasPlaces cell share table (vec_len rooms + 1) (record roster { rooms = rooms })
places_popped cell share table roster rooms room has items =
    let long = ap (λ (l : List (Vec ChunkReport Global)). length l) items ∙ length_push rooms.items room in
    let a = roster.rooms.ok.0 in
    let b = rooms.ok.0 in
    let len : vec_len roster.rooms ≡ vec_len rooms + 1 = omega arith in
    let at = subst (λ (n : ℕ). HasPlaces cell share table n roster) len has in
    record {
      phase = at.phase;
      made = at.made;
      begun = at.begun;
      rooms = (room_last (length table.parts) rooms.items room (subst (λ (l : List (Vec ChunkReport Global)). AreRooms (length table.parts) l) items at.rooms)).0;
      done = at.done;
      frames = at.frames;
      space = at.space;
    }

-- nobody came back
pub back_nobody : (cell : ℕ → CellValue) (share : Share) (table : PhaseId ChunkPart) (roster : Roster) (rooms : Vec (Vec ChunkReport Global) Global) (n : ℕ) → HasPlaces cell share table n roster
    → CameBack cell share table n roster (record roster { rooms = rooms })
back_nobody cell share table roster rooms n has = record { done = has.done; frames = has.frames; few = omega arith; capacity = refl }

-- the others came back, and then this one
pub back_settled : (cell : ℕ → CellValue) (share : Share) (table : PhaseId ChunkPart) (n : ℕ) (begun roster mid after : Roster) (mine : Vec ChunkReport Global) → begun.reports ≡ roster.reports
    → CameBack cell share table n begun mid → AreDone cell share table.parts mine.items → length mine.items ≤ length table.parts → after.reports.items ≡ mid.reports.items ++ mine.items
    → vec_capacity after.reports ≡ vec_capacity mid.reports → AreFrames after.reports.items after.frame → CameBack cell share table (n + 1) roster after
back_settled cell share table n begun roster mid after mine same back done few items capacity frames =
    let more = one_more n (length table.parts) in
    let old = ap (λ (v : Vec ChunkReport Global). vec_len v) same in
    let long = ap (λ (l : List ChunkReport). length l) items ∙ length-append mid.reports.items mine.items in
    let a = after.reports.ok.0 in
    let b = mid.reports.ok.0 in
    record {
      done = subst (λ (l : List ChunkReport). AreDone cell share table.parts l) (sym items) (done_both cell share table.parts mid.reports.items mine.items back.done done);
      frames = frames;
      few = (let f = back.few in omega arith);
      capacity = capacity ∙ back.capacity ∙ ap (λ (v : Vec ChunkReport Global). vec_capacity v) same;
    }

-- there is room for the reports of one more worker
pub room_for : (cell : ℕ → CellValue) (share : Share) (table : PhaseId ChunkPart) (n : ℕ) (begun roster mid : Roster) (mine : ℕ) → begun.reports ≡ roster.reports → HasPlaces cell share table (n + 1) roster
    → CameBack cell share table n begun mid → mine ≤ length table.parts → vec_len mid.reports + mine ≤ vec_capacity mid.reports
room_for cell share table n begun roster mid mine same has back few =
    let more = one_more n (length table.parts) in
    let old = ap (λ (v : Vec ChunkReport Global). vec_len v) same in
    let cap = back.capacity ∙ ap (λ (v : Vec ChunkReport Global). vec_capacity v) same in
    let s = has.space in
    let f = back.few in
    omega arith
