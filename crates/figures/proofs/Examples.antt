-- Queues worked through, each word computed: round the end twice; gaps at the second place, at the last, and everywhere but the first. Assumes nothing.
use Rattle.std.specs.Prelude.{None, Some}
use mathlib.Core.Path.{◌≡◌, refl}
use mathlib.Core.List.{List, [], ◌∷◌}
use Prim.Native.Nat.{ℕ}
use Rattle.words.specs.Words.{more}
use Rattle.settings.specs.declared.Settings.{Settings}
use Rattle.queues.specs.declared.Kind.{Kind}
use Rattle.queues.specs.Queue.{run, send_kind}
use Rattle.queues.specs.Moves.{counted, added, appended, dropped}
use Rattle.queues.specs.Items.{live, gap_flag}
use Rattle.gaps.specs.Close.{laid, closed, cramped, roomy, task_appended}
use Rattle.taking.specs.Find.{from, wanted, first_from}
use Rattle.taking.specs.Take.{cleared, first_out, out, flagged, taken_out}
use Rattle.figures.specs.Table.{settings}

-- ---- a send queue of 2 slots: start, items, full count, slots
abbrev send : Kind
send = send_kind (settings 8 4 2 2 2)

abbrev add : ℕ → List ℕ → List ℕ
add x l = appended send l 0 x

abbrev next : ℕ → List ℕ → List ℕ
next x l = appended send (dropped send l 0) 0 x

-- 1 and 2 go in, 3 finds no room
pub full : add 3 (add 2 (add 1 (0 ∷ 0 ∷ 0 ∷ 0 ∷ 0 ∷ []))) ≡ 0 ∷ 2 ∷ 1 ∷ 1 ∷ 2 ∷ []
unfolding appended added counted more
full = refl

-- each drop makes room for the next: round the end once, and twice
pub once-round : next 4 (next 3 (0 ∷ 2 ∷ 1 ∷ 1 ∷ 2 ∷ [])) ≡ 0 ∷ 2 ∷ 1 ∷ 3 ∷ 4 ∷ []
unfolding appended added counted dropped more
once-round = refl

pub twice_round : next 6 (next 5 (next 4 (next 3 (0 ∷ 2 ∷ 1 ∷ 1 ∷ 2 ∷ [])))) ≡ 0 ∷ 2 ∷ 1 ∷ 5 ∷ 6 ∷ []
unfolding appended added counted dropped more
twice_round = refl

pub emptied : dropped send (dropped send (0 ∷ 2 ∷ 1 ∷ 5 ∷ 6 ∷ []) 0) 0 ≡ 0 ∷ 0 ∷ 1 ∷ 0 ∷ 0 ∷ []
unfolding dropped
emptied = refl

-- ---- a task queue of 4 slots that starts with slot 2 and holds 3, 5, 7, 9: start, items, gap flag, full count, empty count, slots
abbrev s : Settings
s = settings 8 4 2 2 4

abbrev task : List ℕ
task = 2 ∷ 4 ∷ 0 ∷ 0 ∷ 0 ∷ 7 ∷ 9 ∷ 3 ∷ 5 ∷ []

abbrev close : List ℕ → List ℕ
close l = closed s l 0

abbrev append : ℕ → List ℕ → List ℕ
append x l = task_appended s l 0 x

abbrev take : ℕ → List ℕ → List ℕ
take i l = taken_out s l 0 i

-- no gap and no room: an append counts
pub refused : append 11 task ≡ 2 ∷ 4 ∷ 0 ∷ 1 ∷ 0 ∷ 7 ∷ 9 ∷ 3 ∷ 5 ∷ []
unfolding roomy cramped closed laid run live gap_flag appended added counted more
refused = refl

-- and at the greatest word the count stops
pub stopped : append 11 (2 ∷ 4 ∷ 0 ∷ 4294967295 ∷ 0 ∷ 7 ∷ 9 ∷ 3 ∷ 5 ∷ []) ≡ 2 ∷ 4 ∷ 0 ∷ 4294967295 ∷ 0 ∷ 7 ∷ 9 ∷ 3 ∷ 5 ∷ []
unfolding roomy cramped closed laid run live gap_flag appended added counted more
stopped = refl

-- ---- a gap at the second place: 3, 0, 7, 9
abbrev second : List ℕ
second = 2 ∷ 4 ∷ 1 ∷ 0 ∷ 0 ∷ 7 ∷ 9 ∷ 3 ∷ 0 ∷ []

pub second_is : take 1 task ≡ second
unfolding out first_out flagged cleared dropped run gap_flag
second_is = refl

pub second_closed : close second ≡ 2 ∷ 3 ∷ 0 ∷ 0 ∷ 0 ∷ 9 ∷ 0 ∷ 3 ∷ 7 ∷ []
unfolding closed laid run live gap_flag
second_closed = refl

pub second_dropped : take 0 second ≡ 0 ∷ 2 ∷ 0 ∷ 0 ∷ 0 ∷ 7 ∷ 9 ∷ 0 ∷ 0 ∷ []
unfolding out first_out flagged cleared dropped run gap_flag
second_dropped = refl

pub second_appended : append 11 second ≡ 2 ∷ 4 ∷ 0 ∷ 0 ∷ 0 ∷ 9 ∷ 11 ∷ 3 ∷ 7 ∷ []
unfolding roomy cramped closed laid run live gap_flag appended added counted more
second_appended = refl

-- ---- a gap at the last place: 3, 5, 7, 0
abbrev last : List ℕ
last = 2 ∷ 4 ∷ 1 ∷ 0 ∷ 0 ∷ 7 ∷ 0 ∷ 3 ∷ 5 ∷ []

pub last_is : take 3 task ≡ last
unfolding out first_out flagged cleared dropped run gap_flag
last_is = refl

pub last_closed : close last ≡ 2 ∷ 3 ∷ 0 ∷ 0 ∷ 0 ∷ 7 ∷ 0 ∷ 3 ∷ 5 ∷ []
unfolding closed laid run live gap_flag
last_closed = refl

pub last_dropped : take 0 last ≡ 3 ∷ 3 ∷ 1 ∷ 0 ∷ 0 ∷ 7 ∷ 0 ∷ 0 ∷ 5 ∷ []
unfolding out first_out flagged cleared dropped run gap_flag
last_dropped = refl

pub last_appended : append 11 last ≡ 2 ∷ 4 ∷ 0 ∷ 0 ∷ 0 ∷ 7 ∷ 11 ∷ 3 ∷ 5 ∷ []
unfolding roomy cramped closed laid run live gap_flag appended added counted more
last_appended = refl

-- ---- gaps everywhere but at the first place: 3, 0, 0, 0
abbrev one : List ℕ
one = 2 ∷ 4 ∷ 1 ∷ 0 ∷ 0 ∷ 0 ∷ 0 ∷ 3 ∷ 0 ∷ []

pub one_is : take 3 (take 2 (take 1 task)) ≡ one
unfolding out first_out flagged cleared dropped run gap_flag
one_is = refl

pub one-closed : close one ≡ 2 ∷ 1 ∷ 0 ∷ 0 ∷ 0 ∷ 0 ∷ 0 ∷ 3 ∷ 0 ∷ []
unfolding closed laid run live gap_flag
one-closed = refl

pub one-dropped : take 0 one ≡ 2 ∷ 0 ∷ 0 ∷ 0 ∷ 0 ∷ 0 ∷ 0 ∷ 0 ∷ 0 ∷ []
unfolding out first_out flagged cleared dropped run gap_flag
one-dropped = refl

pub one-appended : append 11 one ≡ 2 ∷ 2 ∷ 0 ∷ 0 ∷ 0 ∷ 0 ∷ 0 ∷ 3 ∷ 11 ∷ []
unfolding roomy cramped closed laid run live gap_flag appended added counted more
one-appended = refl

-- ---- gaps are passed over: the first letter among 0, 0, 7, 9 stands at place 2, and among 0, 0 there is none
pub found_past : first_from (wanted s [] 0) 0 (0 ∷ 0 ∷ 7 ∷ 9 ∷ []) ≡ Some 2
unfolding first_from wanted from
found_past = refl

pub found_none : first_from (wanted s [] 0) 0 (0 ∷ 0 ∷ []) ≡ None
unfolding first_from wanted from
found_none = refl
