-- What a sound memory gives to the functions that walk its letters. Assumes nothing.
use mathlib.Core.Path.{◌≡◌, sym, ap₂, ◌∙◌}
use mathlib.Core.Bool.{true}
use mathlib.Core.List.{List}
use Prim.Native.Nat.{ℕ, ◌+◌, ◌-◌, ◌≤◌, ◌<◌}
use native.Mathlib.Omega.{arith}
use lib.Dec.{eqb, ltb}
use lib.ListN.{length, get_or}
use borrow.Author.Tests.{eqb-true, ltb-true}
use Rattle.words.proofs.Lists.{and-true}
use Rattle.settings.specs.declared.Settings.{Settings}
use Rattle.layout.specs.Places.{nodes, task_ids, task_queues, nodes_at, send_at, task_at, node}
use Rattle.layout.specs.Numbers.{source_task_word, source_node_word, destination_task_word, destination_node_word}
use Rattle.layout.specs.Asked.{Sized}
use Rattle.layout.proofs.Fits.{nodes_fit}
use Rattle.layout.proofs.NodeRows.{by-send}
use Rattle.tasks.specs.Table.{node_of, is_bound, right_table}
use Rattle.tasks.proofs.Laws.{told_at, seat_below}
use Rattle.tasks.specs.Seat.{seat_of}
use Rattle.std.specs.Prelude.{Some}
use Rattle.letters.specs.Letter.{word}
use Rattle.letters.specs.Asked.{Lies}
use Rattle.queues.specs.declared.Kind.{Kind}
use Rattle.queues.specs.Queue.{send_kind, task_kind, items, item_at, Queue}
use Rattle.queues.proofs.Views.{length-contents, contents_item}
use Rattle.sound.specs.Reading.{settings_in, table_in, send_items, task_items}
use Rattle.sound.specs.Queues.{task_of}
use Rattle.sound.specs.Letters.{words_from, right_header, from_to, right_place}
use Rattle.sound.proofs.Gives.{gives_table, gives_sized, gives_send, gives_task}
use Rattle.sound.proofs.Held.{Right, send_right, task_right}
use Rattle.showing.specs.declared.Shown.{Shown}
use Rattle.showing.specs.List.{word_in, shown}
use Rattle.showing.specs.Asked.{Begins}
use Rattle.showing.proofs.Given.{begins-lies, begins-word}
use Rattle.listing.specs.Asked.{Asked}

-- ---- a task that is bound on node k
pub record Named (table : List ℕ) (k d : ℕ) : Type 0 where
  pub bound : is_bound table d ≡ true
  pub sits : node_of table d ≡ k

-- a letter of send queue k is for one
right_named : (s : Settings) (w table : List ℕ) (i k : ℕ) → k < nodes → (b : ℕ) → Right s w table i (1 + k) b → Named table k (get_or (words_from s w b) destination_task_word 0)
unfolding right_header right_place
right_named s w table i k g b r =
    let ws : List ℕ = words_from s w b in
    let x = and-true (is_bound table (get_or ws source_task_word 0)) _ r.header in
    let y = and-true (eqb (node_of table (get_or ws source_task_word 0)) (get_or ws source_node_word 0)) _ x.1 in
    let z = and-true (is_bound table (get_or ws destination_task_word 0)) _ y.1 in
    let d : 1 + k - 1 ≡ k = omega arith in
    let f : from_to i (1 + k - 1) ws ≡ true = sym (by-send (1 + k) true (from_to i (1 + k - 1) ws) (from_to i (1 + k - 7) ws) (eqb (get_or ws destination_task_word 0) (task_of table i (1 + k - 13))) true (omega arith) (omega arith)) ∙ r.place in
    let v = and-true (eqb (get_or ws source_node_word 0) i) _ f in
    record {
      bound = z.0;
      sits = eqb-true (node_of table (get_or ws destination_task_word 0)) (get_or ws destination_node_word 0) z.1 ∙ eqb-true (get_or ws destination_node_word 0) (1 + k - 1) v.1 ∙ d;
    }

-- so its number is an id
pub named_id : (table : List ℕ) (k d : ℕ) → Named table k d → d < task_ids
unfolding is_bound
named_id table k d n = ltb-true d task_ids (and-true (ltb d task_ids) _ n.bound).0

-- a letter that is shown for a task is for it
pub shown_for : (s : Settings) (memory : List ℕ) (task place i b : ℕ) (x : Shown) → x ≡ shown s memory task place i b → task < task_ids → x.destination < task_ids
unfolding shown
shown_for s memory task place i b x e h = rw e h

-- a task that the answer seats sits on a node and a queue
pub told-seat : (t : List ℕ) → right_table t ≡ true → (id i q : ℕ) → seat_of t id ≡ Some (record { node = i; queue = q }) → (i < nodes) × (q < task_queues)
told-seat t r id i q e = let b = told_at t id i q e in rw (b.1.0, b.1.1) (seat_below t id r b.0)

-- ---- a sound memory and its settings
module _ (s : Settings) (memory : List ℕ) (a : Asked s memory) where
  pub asked-sized : Sized s memory
  asked-sized = rw a.is (gives_sized memory a.holds)

  pub asked-long : nodes_at ≤ length memory
  asked-long = omega (arith, asked-sized.long, nodes_fit s)

  pub asked-table : right_table (table_in memory) ≡ true
  asked-table = gives_table memory a.holds

  module _ (i : ℕ) (h : i < nodes) where
    pub asked-send : (k : ℕ) → k < nodes → Queue (send_kind s) (node s memory i) (send_at s k)
    asked-send k g = rw a.is (gives_send memory a.holds i h k g)

    pub asked_task : (q : ℕ) → q < task_queues → Queue (task_kind s) (node s memory i) (task_at s q)
    asked_task q g = rw a.is (gives_task memory a.holds i h q g).queue

    -- each item of a send queue begins a letter
    module _ (k : ℕ) (g : k < nodes) (c : ℕ) (l : c < items (send_kind s) (node s memory i) (send_at s k)) where
      asked-sent : Begins s memory i (item_at (send_kind s) (node s memory i) (send_at s k) c)
      asked-sent =
          let u = asked-send k g in
          let e = contents_item (send_kind s) (node s memory i) (send_at s k) u c (omega (arith, u.count)) in
          let d : c < length (send_items s memory i k) = rw (length-contents (send_kind s) (node s memory i) (send_at s k) u) l in
          let r : Right s (node s memory i) (table_in memory) i (1 + k) (get_or (send_items s memory i k) c 0) = right d in
          rw e (record { sized = asked-sized; there = h; ends = r.ends; long = r.long })
        where
          right : c < length (send_items s memory i k) → Right s (node s memory i) (table_in memory) i (1 + k) (get_or (send_items s memory i k) c 0)
          right d = rw a.is (send_right memory a.holds i h k g c (rw a.is at d))

      -- which is for a task that is bound on the node that the queue is for
      pub asked-named : Named (table_in memory) k (word_in s memory i (item_at (send_kind s) (node s memory i) (send_at s k) c) destination_task_word)
      asked-named =
          let u = asked-send k g in
          let e = contents_item (send_kind s) (node s memory i) (send_at s k) u c (omega (arith, u.count)) in
          let d : c < length (send_items s memory i k) = rw (length-contents (send_kind s) (node s memory i) (send_at s k) u) l in
          rw e (named d)
        where
          named : c < length (send_items s memory i k) → Named (table_in memory) k (word_in s memory i (get_or (send_items s memory i k) c 0) destination_task_word)
          named d = rw a.is (right_named (settings_in memory) (node (settings_in memory) memory i) (table_in memory) i k g _ (send_right memory a.holds i h k g c (rw a.is at d)))

    -- and so does each item of a task queue that is not 0
    module _ (q : ℕ) (g : q < task_queues) (c : ℕ) (l : c < items (task_kind s) (node s memory i) (task_at s q)) where
      asked-kept : (item_at (task_kind s) (node s memory i) (task_at s q) c ≡ 0 → ⊥) → Begins s memory i (item_at (task_kind s) (node s memory i) (task_at s q) c)
      asked-kept n =
          let u = asked_task q g in
          let e = contents_item (task_kind s) (node s memory i) (task_at s q) u c (omega (arith, u.count)) in
          let d : c < length (task_items s memory i q) = rw (length-contents (task_kind s) (node s memory i) (task_at s q) u) l in
          let r : Right s (node s memory i) (table_in memory) i (13 + q) (get_or (task_items s memory i q) c 0) = right d (λ z. n (e ∙ z)) in
          rw e (record { sized = asked-sized; there = h; ends = r.ends; long = r.long })
        where
          right : c < length (task_items s memory i q) → (get_or (task_items s memory i q) c 0 ≡ 0 → ⊥) → Right s (node s memory i) (table_in memory) i (13 + q) (get_or (task_items s memory i q) c 0)
          right d z = rw a.is (task_right memory a.holds i h q g c (rw a.is at d) (rw a.is at z))

-- ---- a queue of node i as the code reads it: the node's stretch, the queue's kind and its word there, and its number of items
pub record Read (s : Settings) (memory : List ℕ) (i : ℕ) (kind : Kind) (word : ℕ) (v : List ℕ) (k : Kind) (q count : ℕ) : Type 0 where
  pub asked : Asked s memory
  pub there : i < nodes
  pub own : v ≡ node s memory i
  pub is : k ≡ kind
  pub stands : q ≡ word
  pub queue : Queue k v q
  pub many : count ≡ items k v q

module _ {s : Settings} {memory : List ℕ} {i : ℕ} {kind : Kind} {word : ℕ} {v : List ℕ} {k : Kind} {q count : ℕ} (r : Read s memory i kind word v k q count) where
  pub read-small : (c : ℕ) → c < count → c < 255
  read-small c l = omega (arith, r.many, r.queue.count, r.queue.placed.small)

  pub read_item : (c b : ℕ) → b ≡ item_at k v q c → b ≡ item_at kind (node s memory i) word c
  read_item c b e = rw (r.own, r.is, r.stands) at e

  pub read-many : count ≡ items kind (node s memory i) word
  read-many = r.many ∙ ap₂ (λ (x : List ℕ) (y : ℕ). items kind x y) r.own r.stands

module _ (s : Settings) (memory : List ℕ) (a : Asked s memory) (i : ℕ) (h : i < nodes) {v : List ℕ} {k : Kind} {at : ℕ} (ev : v ≡ node s memory i) where
  module _ (q : ℕ) (g : q < task_queues) (ek : k ≡ task_kind s) (eq : at ≡ task_at s q) where
    pub task_queue : Queue k v at
    task_queue = rw (ev, ek, eq) (asked_task s memory a i h q g)

    pub read_task : (count : ℕ) → count ≡ items k v at → Read s memory i (task_kind s) (task_at s q) v k at count
    read_task count e = record { asked = a; there = h; own = ev; is = ek; stands = eq; queue = task_queue; many = e }

  module _ (j : ℕ) (g : j < nodes) (ek : k ≡ send_kind s) (eq : at ≡ send_at s j) where
    pub send-queue : Queue k v at
    send-queue = rw (ev, ek, eq) (asked-send s memory a i h j g)

    pub read_send : (count : ℕ) → count ≡ items k v at → Read s memory i (send_kind s) (send_at s j) v k at count
    read_send count e = record { asked = a; there = h; own = ev; is = ek; stands = eq; queue = send-queue; many = e }

-- ---- an item of it
module _ {s : Settings} {memory : List ℕ} {i : ℕ} {v : List ℕ} {k : Kind} {at count : ℕ} where
  pub kept-begins : {q : ℕ} → Read s memory i (task_kind s) (task_at s q) v k at count → q < task_queues → (c b : ℕ) → c < count → b ≡ item_at k v at c → (b ≡ 0 → ⊥)
      → Begins s memory i b
  kept-begins {q} r g c b l e n =
      let f = read_item r c b e in
      rw f (asked-kept s memory r.asked i r.there q g c (omega (arith, read-many r)) (λ z. n (f ∙ z)))

  module _ {j : ℕ} (r : Read s memory i (send_kind s) (send_at s j) v k at count) (g : j < nodes) (c b : ℕ) (l : c < count) (e : b ≡ item_at k v at c) where
    pub sent-begins : Begins s memory i b
    sent-begins = rw (read_item r c b e) (asked-sent s memory r.asked i r.there j g c (omega (arith, read-many r)))

    pub sent-lies : Lies s v (destination_task_word + 1) b
    sent-lies = begins-lies s memory i b sent-begins v r.own 3 (omega arith)

    module _ (d : ℕ) (n : d ≡ word s v b destination_task_word) where
      pub sent-task : d ≡ word_in s memory i b destination_task_word
      sent-task = n ∙ begins-word s memory i b sent-begins v r.own destination_task_word (omega arith)

      pub sent-named : d < task_ids
      sent-named = rw (sent-task, read_item r c b e) (named_id (table_in memory) j _ (asked-named s memory r.asked i r.there j g c (omega (arith, read-many r))))
