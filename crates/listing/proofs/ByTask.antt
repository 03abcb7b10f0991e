-- The letters of a sound memory by task: of those in its queue and of all that wait, those for a task are what the list shows of it. Assumes nothing.
use mathlib.Core.Path.{◌≡◌, refl, sym, ap, ap₂, ◌∙◌}
use mathlib.Core.Bool.{true, false, cond, false≢true}
use mathlib.Core.List.{List, [], ◌∷◌, ◌++◌, append-nil, append_assoc}
use Prim.Native.Nat.{ℕ, zero, suc, ◌+◌, ◌-◌, ◌*◌, ◌/◌, ◌%◌, ◌≤◌, ◌<◌}
use native.Mathlib.Nat.{mod-lt, mod-eq_of_lt, div-eq_of_lt-le, div-lt_iff_lt-mul, mul-add-mod_self_right}
use native.Mathlib.Omega.{arith}
use borrow.Author.Tests.{eq-eqb, ne_eqb}
use Rattle.words.proofs.Lists.{split, same?}
use Rattle.settings.specs.declared.Settings.{Settings}
use Rattle.layout.specs.Places.{nodes, task_ids, send_at, node}
use Rattle.layout.specs.Numbers.{destination_task_word}
use Rattle.tasks.specs.Table.{node_of, is_bound}
use Rattle.tasks.proofs.Laws.{seat_below}
use Rattle.queues.specs.declared.Kind.{Kind}
use Rattle.queues.specs.Queue.{send_kind, items, item_at, run}
use Rattle.sound.specs.Reading.{table_in}
use Rattle.showing.specs.declared.Shown.{Shown}
use Rattle.showing.specs.List.{word_in, shown, handed_over, from_task, from_send, waiting, from_nodes, of_task, of_tasks}
use Rattle.showing.proofs.Waiting.{waiting-run}
use Rattle.listing.specs.Asked.{Asked, kept_of, kept_below, sent_from, sent_below, every_letter}
use Rattle.listing.proofs.Given.{named_id, asked-table, asked-named}
use Rattle.listing.proofs.Orders.{below}
use Rattle.listing.proofs.Placing.{for_task, for_append}
use Rattle.listing.proofs.Spread.{Ids, sorted}

ids_append : (xs ys : List Shown) → Ids xs → Ids ys → Ids (xs ++ ys)
ids_append [] ys a b = b
ids_append (x ∷ xs) ys a b = (a.0, ids_append xs ys a.1 b)

module _ (s : Settings) (memory : List ℕ) where
  -- ---- the letters of a queue of task u: those for task t
  for_own : (t i : ℕ) (bs : List ℕ) → for_task t (from_task s memory t i bs) ≡ from_task s memory t i bs
  unfolding from_task shown
  for_own t i [] = refl
  for_own t i (b ∷ bs) = rw (eq-eqb t t refl) (ap (λ (l : List Shown). shown s memory t 1 i b ∷ l) (for_own t i bs))

  for_other : (t u i : ℕ) → (u ≡ t → ⊥) → (bs : List ℕ) → for_task t (from_task s memory u i bs) ≡ []
  unfolding from_task shown
  for_other t u i h [] = refl
  for_other t u i h (b ∷ bs) = rw (ne_eqb u t h) (for_other t u i h bs)

  own-kept : (t : ℕ) → for_task t (kept_of s memory t) ≡ kept_of s memory t
  unfolding kept_of
  own-kept t = split (is_bound (table_in memory) t) (λ e. rw e (for_own t (node_of (table_in memory) t) _)) (λ e. rw e)

  other-kept : (t u : ℕ) → (u ≡ t → ⊥) → for_task t (kept_of s memory u) ≡ []
  unfolding kept_of
  other-kept t u h = split (is_bound (table_in memory) u) (λ e. rw e (for_other t u (node_of (table_in memory) u) h _)) (λ e. rw e)

  before_kept : (t n : ℕ) → n ≤ t → for_task t (kept_below s memory n) ≡ []
  unfolding kept_below
  before_kept t zero h = refl
  before_kept t (suc n) h =
      for_append t (kept_below s memory n) (kept_of s memory n)
      ∙ ap₂ (λ (x y : List Shown). x ++ y) (before_kept t n (omega arith)) (other-kept t n (λ e. omega arith))

  all-kept : (t n : ℕ) → t < n → for_task t (kept_below s memory n) ≡ kept_of s memory t
  unfolding kept_below
  all-kept t zero h = absurd (omega arith)
  all-kept t (suc n) h =
      for_append t (kept_below s memory n) (kept_of s memory n)
      ∙ same? n t
      (λ q e. rw q (ap₂ (λ (x y : List Shown). x ++ y) (before_kept t t (omega arith)) (own-kept t)))
      (λ q e. ap₂ (λ (x y : List Shown). x ++ y) (all-kept t n (below t n (omega arith) (λ z. q (sym z)))) (other-kept t n q) ∙ append-nil (kept_of s memory t))

  -- ---- the letters that wait: those for task t
  for_sent : (t j : ℕ) (bs : List ℕ) → for_task t (sent_from s memory j bs) ≡ from_send s memory t j bs
  unfolding sent_from from_send shown
  for_sent t j [] = refl
  for_sent t j (b ∷ bs) =
      same? (word_in s memory j b destination_task_word) t
      (λ q e. rw e (ap₂ (λ (d : ℕ) (l : List Shown). shown s memory d 2 j b ∷ l) q (for_sent t j bs)))
      (λ q e. rw e (for_sent t j bs))

  for_nodes : (t i j : ℕ) → j ≤ nodes → for_task t (sent_below s memory (i * nodes + j)) ≡ for_task t (sent_below s memory (i * nodes)) ++ from_nodes s memory t i j
  unfolding from_nodes sent_below
  for_nodes t i zero h = let e : i * 6 + 0 ≡ i * 6 = omega arith in ap (λ (c : ℕ). for_task t (sent_below s memory c)) e ∙ sym (append-nil (for_task t (sent_below s memory (i * 6))))
  for_nodes t i (suc j) h =
      let c : ℕ = i * 6 + j in
      let e : i * 6 + suc j ≡ suc c = omega arith in
      let m : c % 6 ≡ j = mul-add-mod_self_right i 6 j ∙ mod-eq_of_lt {n = j} {m = 6} (omega arith) in
      let d : c / 6 ≡ i = div-eq_of_lt-le {k = i} 6 {m = c} (omega arith) (omega arith) in
      ap (λ (c : ℕ). for_task t (sent_below s memory c)) e
      ∙ for_append t (sent_below s memory c) (sent_from s memory (c % 6) (waiting s memory (c / 6) (c % 6)))
      ∙ ap₂ (λ (x y : List Shown). x ++ y) (for_nodes t i j (omega arith))
      (for_sent t (c % 6) (waiting s memory (c / 6) (c % 6)) ∙ ap₂ (λ (x y : ℕ). from_send s memory t y (waiting s memory x y)) d m)
      ∙ append_assoc (for_task t (sent_below s memory (i * 6))) (from_nodes s memory t i j) (from_send s memory t j (waiting s memory i j))

  for_row : (t i : ℕ) → for_task t (sent_below s memory (suc i * nodes)) ≡ for_task t (sent_below s memory (i * nodes)) ++ from_nodes s memory t i nodes
  for_row t i = let e : suc i * 6 ≡ i * 6 + 6 = omega arith in ap (λ (c : ℕ). for_task t (sent_below s memory c)) e ∙ for_nodes t i 6 (omega arith)

  none-run : (t j : ℕ) (k : Kind) (w : List ℕ) (q f n : ℕ) → ((c : ℕ) → f ≤ c → c < f + n → word_in s memory j (item_at k w q c) destination_task_word ≡ t → ⊥) → from_send s memory t j (run k w q f n) ≡ []
  unfolding from_send run
  none-run t j k w q f zero h = refl
  none-run t j k w q f (suc n) h =
      rw (ne_eqb (word_in s memory j (item_at k w q f) destination_task_word) t (h f (omega arith) (omega arith)))
      (none-run t j k w q (f + 1) n (λ c l m. h c (omega arith) (omega arith)))

  module _ (a : Asked s memory) (t : ℕ) where
    -- the task is not bound on node i
    abbrev Elsewhere : ℕ → Type 0
    Elsewhere i = is_bound (table_in memory) t ≡ true → node_of (table_in memory) t ≡ i → ⊥

    none-waiting : (i j : ℕ) → i < nodes → j < nodes → Elsewhere i → from_send s memory t j (waiting s memory i j) ≡ []
    none-waiting i j h g away =
        let f : ℕ = cond (handed_over memory i j) 1 0 in
        let n : ℕ = items (send_kind s) (node s memory j) (send_at s i) in
        rw (waiting-run s memory i j f refl)
        (none-run t j (send_kind s) (node s memory j) (send_at s i) f (n - f)
        (λ c l m e. let d = asked-named s memory a j g i h c (omega arith) in away (rw e at d.bound) (rw e at d.sits)))

    none-nodes : (i : ℕ) → i < nodes → Elsewhere i → (j : ℕ) → j ≤ nodes → from_nodes s memory t i j ≡ []
    unfolding from_nodes
    none-nodes i h away zero g = refl
    none-nodes i h away (suc j) g = ap₂ (λ (x y : List Shown). x ++ y) (none-nodes i h away j (omega arith)) (none-waiting i j h (omega arith) away)

    -- none waits for a node on which the task is not bound
    before_sent : (i : ℕ) → i ≤ nodes → ((k : ℕ) → k < i → Elsewhere k) → for_task t (sent_below s memory (i * nodes)) ≡ []
    unfolding sent_below
    before_sent zero h away = refl
    before_sent (suc i) h away =
        for_row t i
        ∙ ap₂ (λ (x y : List Shown). x ++ y) (before_sent i (omega arith) (λ k l. away k (omega arith))) (none-nodes i (omega arith) (away i (omega arith)) 6 (omega arith))

    all-sent : (i : ℕ) → node_of (table_in memory) t ≡ i → (n : ℕ) → i < n → n ≤ nodes → for_task t (sent_below s memory (n * nodes)) ≡ from_nodes s memory t i nodes
    all-sent i e zero h g = absurd (omega arith)
    all-sent i e (suc n) h g =
        for_row t n
        ∙ same? n i
        (λ q z. rw q (ap (λ (x : List Shown). x ++ from_nodes s memory t i 6) (before_sent i (omega arith) (λ k l b m. omega arith))))
        (λ q z. ap₂ (λ (x y : List Shown). x ++ y) (all-sent i e n (below i n (omega arith) (λ y. q (sym y))) (omega arith)) (none-nodes n (omega arith) (λ b m. q (sym m ∙ e)) 6 (omega arith)) ∙ append-nil (from_nodes s memory t i 6))

    -- a task's letters: those of its queue, and those that wait for it
    of_task_lem : of_task s memory t ≡ kept_of s memory t ++ for_task t (sent_below s memory (nodes * nodes))
    unfolding of_task kept_of
    of_task_lem =
        split (is_bound (table_in memory) t)
        (λ e.
        let b = seat_below (table_in memory) t (asked-table s memory a) e in
        rw (e, all-sent (node_of (table_in memory) t) refl 6 b.0 (omega arith)))
        (λ e. rw (e, before_sent 6 (omega arith) (λ k l b m. let z : true ≡ false = sym b ∙ e in false≢true (sym z))))

  -- ---- all letters of a sound memory
  module _ (a : Asked s memory) where
    by_task : (t : ℕ) → t < task_ids → for_task t (every_letter s memory) ≡ of_task s memory t
    unfolding every_letter
    by_task t h =
        for_append t (kept_below s memory task_ids) (sent_below s memory 36)
        ∙ ap (λ (x : List Shown). x ++ for_task t (sent_below s memory 36)) (all-kept t task_ids h)
        ∙ sym (of_task_lem a t)

    pub sorted_tasks : (n : ℕ) → n ≤ task_ids → sorted (every_letter s memory) n ≡ of_tasks s memory n
    unfolding sorted of_tasks
    sorted_tasks zero h = refl
    sorted_tasks (suc n) h = ap₂ (λ (x y : List Shown). x ++ y) (sorted_tasks n (omega arith)) (by_task n (omega arith))

    -- each is for a task
    ids_task : (t i : ℕ) → t < task_ids → (bs : List ℕ) → Ids (from_task s memory t i bs)
    unfolding from_task shown
    ids_task t i h [] = tt
    ids_task t i h (b ∷ bs) = (h, ids_task t i h bs)

    ids_of : (t : ℕ) → t < task_ids → Ids (kept_of s memory t)
    unfolding kept_of
    ids_of t h = split (is_bound (table_in memory) t) (λ e. rw e (ids_task t (node_of (table_in memory) t) h _)) (λ e. rw e tt)

    ids_below : (n : ℕ) → n ≤ task_ids → Ids (kept_below s memory n)
    unfolding kept_below
    ids_below zero h = tt
    ids_below (suc n) h = ids_append (kept_below s memory n) (kept_of s memory n) (ids_below n (omega arith)) (ids_of n (omega arith))

    ids_run : (j : ℕ) (k : Kind) (w : List ℕ) (q f n : ℕ) → ((c : ℕ) → f ≤ c → c < f + n → word_in s memory j (item_at k w q c) destination_task_word < task_ids) → Ids (sent_from s memory j (run k w q f n))
    unfolding sent_from run shown
    ids_run j k w q f zero h = tt
    ids_run j k w q f (suc n) h = (h f (omega arith) (omega arith), ids_run j k w q (f + 1) n (λ c l m. h c (omega arith) (omega arith)))

    ids_waiting : (i j : ℕ) → i < nodes → j < nodes → Ids (sent_from s memory j (waiting s memory i j))
    ids_waiting i j h g =
        let f : ℕ = cond (handed_over memory i j) 1 0 in
        let n : ℕ = items (send_kind s) (node s memory j) (send_at s i) in
        rw (waiting-run s memory i j f refl)
        (ids_run j (send_kind s) (node s memory j) (send_at s i) f (n - f) (λ c l m. named_id (table_in memory) i _ (asked-named s memory a j g i h c (omega arith))))

    ids_sent : (c : ℕ) → c ≤ 36 → Ids (sent_below s memory c)
    unfolding sent_below
    ids_sent zero h = tt
    ids_sent (suc c) h =
        let i : c / 6 < 6 = (div-lt_iff_lt-mul {k = 6} {x = c} {y = 6} (omega arith)).1 (omega arith) in
        let j : c % 6 < 6 = mod-lt c {m = 6} (omega arith) in
        ids_append (sent_below s memory c) (sent_from s memory (c % 6) (waiting s memory (c / 6) (c % 6))) (ids_sent c (omega arith)) (ids_waiting (c / 6) (c % 6) i j)

    pub ids_all : Ids (every_letter s memory)
    unfolding every_letter
    ids_all = ids_append (kept_below s memory task_ids) (sent_below s memory 36) (ids_below 256 (omega arith)) (ids_sent 36 (omega arith))
