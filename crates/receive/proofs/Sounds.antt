-- What a sound memory gives to receive, the stretch that is lent and comes back, and the call's outcome by the tests on the way. Assumes nothing.
use Rattle.std.specs.Prelude.{Err, Result}
use mathlib.Core.Path.{◌≡◌, ap, ◌∙◌}
use mathlib.Core.Bool.{true, false, ◌||◌}
use mathlib.Core.List.{List}
use Prim.Native.Nat.{ℕ, ◌+◌, ◌-◌, ◌≤◌, ◌<◌}
use native.Mathlib.Omega.{arith}
use borrow.Rule.Slice.PartMut.{put_mid}
use lib.Dec.{eqb}
use lib.ListN.{length, get_or}
use Rattle.words.specs.Words.{part}
use Rattle.words.proofs.Parts.{back}
use Rattle.settings.specs.declared.Settings.{Settings}
use Rattle.layout.specs.Places.{task_at, nodes_at, node_at, node_size, node}
use Rattle.layout.proofs.Fits.{nodes_fit}
use Rattle.layout.proofs.MemoryRows.{stretch-fits}
use Rattle.tasks.specs.Table.{node_of, queue_of, is_bound}
use Rattle.tasks.specs.Seat.{seat_of}
use Rattle.std.specs.Prelude.{Some}
use Rattle.queues.specs.Queue.{Queue, task_kind, items, item_at}
use Rattle.queues.proofs.Views.{length-contents, contents_item}
use Rattle.sound.specs.Reading.{settings_in, table_in, task_items}
use Rattle.sound.specs.Sound.{sound}
use Rattle.sound.proofs.Gives.{gives_table, gives_sized, gives_stretch, gives_task}
use Rattle.sound.proofs.Held.{task_most, task_right}
use Rattle.receive.specs.declared.Received.{Received}
use Rattle.receive.specs.declared.ReceiveRefusal.{ReceiveRefusal}
use Rattle.receive.specs.declared.ReceiveRefusal.TheVariants.{DestinationNotBound, SourceNotBound}
use Rattle.receive.specs.Take.{Took, took}
use Rattle.receive.specs.Outcome.{Outcome, collected, receive}
use Rattle.receive.specs.Asked.{Whole, Kept, Seated, Collects}
use Rattle.receive.proofs.Outcomes.{left}
use Rattle.tasks.proofs.Laws.{told_at, seat_below}

-- ---- a sound memory
module _ (m : List ℕ) (e : sound m ≡ true) (i q : ℕ) (h : i < 6) (g : q < 64) where
  abbrev s : Settings
  s = settings_in m

  abbrev w : List ℕ
  w = node s m i

  queue : Queue (task_kind s) w (task_at s q)
  queue = (gives_task m e i h q g).queue

  module _ (k : ℕ) (l : k < items (task_kind s) w (task_at s q)) where
    in_items : k < length (task_items s m i q)
    in_items = rw (length-contents (task_kind s) w (task_at s q) queue) l

    there : item_at (task_kind s) w (task_at s q) k ≡ get_or (task_items s m i q) k 0
    there = contents_item (task_kind s) w (task_at s q) queue k (omega (arith, queue.count))

    item_block : item_at (task_kind s) w (task_at s q) k ≤ s.m
    item_block = omega (arith, there, task_most m e i h q g k in_items)

    item_whole : (item_at (task_kind s) w (task_at s q) k ≡ 0 → ⊥) → Whole s w (item_at (task_kind s) w (task_at s q) k)
    item_whole z =
        let r = task_right m e i h q g k in_items (λ y. z (there ∙ y)) in
        rw there (record { stretch = gives_stretch m e i h; ends = r.ends; long = r.long })

  sound-seated : Seated m i q
  sound-seated =
      record {
        sized = gives_sized m e;
        home = h;
        kept = record { stretch = gives_stretch m e i h; place = g; queue = queue; blocks = item_block; letters = item_whole };
      }

-- where a bound task sits
pub seat-seated : (m : List ℕ) → sound m ≡ true → (task i q : ℕ) → seat_of (table_in m) task ≡ Some (record { node = i; queue = q }) → Seated m i q
seat-seated m e task i q f =
    let b = told_at (table_in m) task i q f in
    let r = seat_below (table_in m) task (gives_table m e) b.0 in
    sound-seated m e i q (omega (arith, b.1.0, r.0)) (omega (arith, b.1.1, r.1))

-- its words before the stretches
pub sound_front : (m : List ℕ) → sound m ≡ true → nodes_at ≤ length m
sound_front m e = omega (arith, nodes_fit (settings_in m), (gives_sized m e).long)

-- ---- the stretch that is lent, by its place and size as the code computes them
module _ (m : List ℕ) (i q : ℕ) (h : Seated m i q) where
  pub seated_front : 5 ≤ length m
  seated_front = omega (arith, nodes_fit (settings_in m), h.sized.long)

  module _ {s : Settings} (e : s ≡ settings_in m) {a n : ℕ} (x : a ≡ node_at s i) (y : n ≡ node_size s) where
    pub lent_fits : a + n ≤ length m
    lent_fits = omega (arith, stretch-fits (settings_in m) i h.home, h.sized.long, x ∙ ap (λ (z : Settings). node_at z i) e, y ∙ ap node_size e)

    pub lent-kept : Kept s (part m a (a + n)) q
    lent-kept = rw (x, y, e) h.kept

    pub lent_back : (source : ℕ) (out : List ℕ) {r : Result Received ReceiveRefusal} {p o : List ℕ} → left r p o ≡ took s (part m a (a + n)) q source out
        → Collects m i q source out r (put_mid a (a + n - a) m p) o
    lent_back source out {r} {p} {o} f =
        let t : left r p o ≡ took (settings_in m) (node (settings_in m) m i) q source out = rw (x, y, e) at f in
        record {
          answer = ap (λ (u : Took). u.answer) t;
          stored = back a (a + n) m (omega arith) (ap (λ (u : Took). u.stretch) t)
              ∙ rw (x, y, e);
          got = ap (λ (u : Took). u.out) t;
        }

-- ---- the outcome
abbrev whole : Result Received ReceiveRefusal → List ℕ → List ℕ → Outcome
whole r m o = record { answer = r; memory = m; out = o }

module _ (m : List ℕ) (destination source : ℕ) (out : List ℕ) (e : sound m ≡ true) where
  pub refused_first : is_bound (table_in m) destination ≡ false → whole (Err DestinationNotBound) m out ≡ receive m destination source out
  unfolding receive
  refused_first f = rw (e, f)

  module _ (f : is_bound (table_in m) destination ≡ true) where
    pub refused_other : (eqb source 0 || is_bound (table_in m) source) ≡ false → whole (Err SourceNotBound) m out ≡ receive m destination source out
    unfolding receive
    refused_other g = rw (e, f, g)

    pub received_is : (eqb source 0 || is_bound (table_in m) source) ≡ true → {i q : ℕ} → i ≡ node_of (table_in m) destination → q ≡ queue_of (table_in m) destination
        → {r : Result Received ReceiveRefusal} {after given : List ℕ} → Collects m i q source out r after given → whole r after given ≡ receive m destination source out
    unfolding receive collected
    received_is g x y c = rw (e, f, g, c.answer, c.stored, c.got, x, y)
