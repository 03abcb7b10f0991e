-- DEMAND 3: after any calls from a successful set-up on, the letters accepted are those received and then those on the way. Assumes nothing.
--     begins     a successful set-up; goes_on     one call; runs     any calls
--     holds     DEMAND 3 after them
use Rattle.std.specs.Prelude.{Err, Ok, Result}
use mathlib.Core.Path.{◌≡◌, refl, sym, ap, ap₂, ◌∙◌, subst}
use mathlib.Core.Bool.{Bool, true, false, cond, ◌&&◌, false≢true}
use mathlib.Core.List.{List, [], ◌∷◌, ◌++◌, map, append-nil, append_assoc}
use Prim.Native.Nat.{ℕ, ◌+◌, ◌≤◌}
use native.Mathlib.Omega.{arith}
use lib.Dec.{eqb}
use lib.ListN.{length, get_or, take, drop}
use lib.Seq.{take-append_seam}
use borrow.Author.Tests.{eq-eqb}
use Rattle.words.proofs.Count.{down_in}
use Rattle.words.proofs.Lists.{split}
use Rattle.settings.specs.declared.Settings.{Settings}
use Rattle.settings.specs.Range.{in_range}
use Rattle.settings.specs.Made.{settings_of}
use Rattle.layout.specs.Places.{memory_size}
use Rattle.tasks.specs.Table.{node_of, queue_of, is_bound, right_table}
use Rattle.tasks.proofs.Laws.{seat_below, right_length_lem}
use Rattle.letters.specs.Letter.{onto}
use Rattle.sound.specs.Reading.{settings_in, table_in}
use Rattle.sound.specs.Sound.{sound}
use Rattle.sound.proofs.Gives.{gives_table}
use Rattle.setup.specs.declared.SetUpRefusal.{SetUpRefusal}
use Rattle.setup.specs.declared.SetUpRefusal.TheVariants.{SettingOutOfRange, WrongTable, OtherSize}
use Rattle.setup.specs.Outcome.{set_up}
use Rattle.setup.specs.Fresh.{fresh_memory}
use Rattle.settings.proofs.Laws.{range-true}
use Rattle.letters.specs.Made.{letter_of}
use Rattle.posting.specs.declared.Sent.{Sent}
use Rattle.posting.specs.declared.SendRefusal.{SendRefusal}
use Rattle.posting.specs.declared.SendRefusal.TheVariants.{NotSound as Sent-not-sound, SourceNotBound as Sent-source, DestinationNotBound as Sent-destination, BodyTooLong, TooFewBlocks, QueueFull}
use Rattle.send.specs.Outcome.{send}
use Rattle.receive.specs.declared.Received.{Received}
use Rattle.receive.specs.declared.ReceiveRefusal.{ReceiveRefusal}
use Rattle.receive.specs.declared.ReceiveRefusal.TheVariants.{NotSound as Received-not-sound, DestinationNotBound as Received-destination, SourceNotBound as Received-source, NoLetter, NoLetterQueueFull, OutTooShort}
use Rattle.receive.specs.Outcome.{Outcome as Received-outcome, receive}
use Rattle.receive.proofs.Sounds.{refused_first}
use Rattle.turn.specs.Outcome.{turn}
use Rattle.machine.specs.Machine.{Letter, first, Live, words_of, All, many}
use Rattle.machine.specs.Spelled.{machine_of}
use Rattle.machine.specs.Fresh.{fresh_machine}
use Rattle.machine.specs.Represents.{Right, RepresentsAt, Represents}
use Rattle.machine.proofs.Letters.{all_parts, alive}
use Rattle.machine.proofs.Counts.{sum_last}
use Rattle.machine.proofs.Sound.{sound_represents}
use Rattle.machine.proofs.Fresh.{fresh-sound, fresh_represents, fresh-settings, fresh-table}
use Rattle.machine.proofs.Back.{same_letters}
use Rattle.moves.specs.Letters.{live_ones}
use Rattle.stages_keep.specs.Way.{those, between, in_queue, to_carry, on_the_way}
use Rattle.moves.proofs.Items.{all_live}
use Rattle.send_keeps.proofs.Send.{send-sound, send_fixed, send_refused, send-done, send_allowed}
use Rattle.receive_keeps.specs.Receives.{Receives}
use Rattle.receive_keeps.proofs.Receive.{receive-sound, receive_fixed, receive_refused, receive-done}
use Rattle.turn_keeps.proofs.Turn.{turn-sound, turn_fixed, turn-turns}
use Rattle.stages_keep.proofs.Headers.{Header, header-says, task_says}
use Rattle.stages_keep.proofs.Way.{those-append}
use Rattle.history.specs.Runs.{Call, SetsUp, Sends as Sends-call, Receives as Receives-call, Turns as Turns-call, Lists, Past, sent_letter, accepted_by, received_by, after_set_up, after_call, after_all}
use Rattle.history.specs.Demand.{Holds}
use Rattle.history.specs.Lively.{Lively}
use Rattle.history.proofs.Way.{refused_way, sends-way, receives-way}
use Rattle.history.proofs.Shown.{list-shows}
use Rattle.history.proofs.Stuck.{never_stuck, has_room_lem}

-- what holds after each call: the memory is sound, and for each pair the letters accepted are those received and then those on the way
pub record Kept (p : Past) : Type 0 where
  pub safe : sound p.memory ≡ true
  pub way : (a b : ℕ) → is_bound (table_in p.memory) a ≡ true → is_bound (table_in p.memory) b ≡ true
      → those (between a b) p.accepted ≡ those (between a b) p.received ++ on_the_way (table_in p.memory) (machine_of p.memory) a b

-- ---- a letter by its header and body
whole : (ws : List ℕ) → 5 ≤ length ws → ws ≡ get_or ws 0 0 ∷ get_or ws 1 0 ∷ get_or ws 2 0 ∷ get_or ws 3 0 ∷ get_or ws 4 0 ∷ drop 5 ws
whole [] h = absurd (omega arith)
whole (a ∷ []) h = absurd (omega arith)
whole (a ∷ b ∷ []) h = absurd (omega arith)
whole (a ∷ b ∷ c ∷ []) h = absurd (omega arith)
whole (a ∷ b ∷ c ∷ d ∷ []) h = absurd (omega arith)
whole (a ∷ b ∷ c ∷ d ∷ e ∷ ws) h = refl

-- a right letter in the task queue of a bound task is the letter from its source to that task, with its body
module _ (table : List ℕ) (right : right_table table ≡ true) (destination : ℕ) (bound : is_bound table destination ≡ true) (ws : List ℕ)
    (ok : Right table (node_of table destination) (13 + queue_of table destination) ws) where
  pub for_destination : get_or ws 2 0 ≡ destination
  for_destination = task_says table right destination bound ws ok.place

  says : Header table ws
  says = header-says table ws ok.header

  body_long : get_or ws 4 0 ≡ 5 + length (drop 5 ws)
  body_long = ok.told ∙ ap length (whole ws ok.least) ∙ omega arith

  pub letter_is : sent_letter table (get_or ws 0 0) destination (drop 5 ws) ≡ ws
  unfolding letter_of
  letter_is = sym (whole ws ok.least ∙ rw (← says.from, ← says.to, body_long, for_destination))

-- ---- A SUCCESSFUL SET-UP: no letter accepted, received or on the way
module _ (s : Settings) (table : List ℕ) (r : in_range s ≡ true) (ok : right_table table ≡ true) where
  abbrev m : List ℕ
  m = fresh_memory s table

  table_is : table_in m ≡ table
  table_is = fresh-table s (range-true s r) table (right_length_lem table ok)

  rep : Represents m (fresh_machine s)
  rep =
      subst (λ (x : Settings). RepresentsAt x m (fresh_machine s)) (sym (fresh-settings s (range-true s r) table (right_length_lem table ok)))
      (fresh_represents s (range-true s r) table (right_length_lem table ok) ok)

  nothing : (a b : ℕ) → is_bound table a ≡ true → is_bound table b ≡ true → on_the_way table (machine_of m) a b ≡ []
  unfolding on_the_way in_queue to_carry live_ones those
  nothing a b x y =
      let i = seat_below table a ok x in
      let k = seat_below table b ok y in
      rw (same_letters m (fresh_machine s) rep (node_of table b) (13 + queue_of table b) k.0 (omega (arith, k.1)), same_letters m (fresh_machine s) rep (node_of table a) (1 + node_of table b) i.0 (omega (arith, k.0)))
      (none (eqb ((machine_of m).stage (node_of table b)) 3 && eqb ((machine_of m).other (node_of table b)) (node_of table a)))
    where
      none : (c : Bool) → those (between a b) (map words_of (cond c (drop 1 []) [])) ≡ []
      none true = refl
      none false = refl

  fresh_kept : Kept (record { memory = fresh_memory s table; accepted = []; received = [] })
  unfolding those
  fresh_kept =
      record {
        safe = fresh-sound s table r ok;
        way = λ a b x y. sym (ap (λ (t : List ℕ). on_the_way t (machine_of m) a b) table_is ∙ nothing a b (rw table_is at x) (rw table_is at y));
      }

-- what a set-up answers, and then leaves
module _ (s : Settings) (table : List ℕ) (p : Past) where
  pub set_up_kept : (set_up s table p.memory).answer ≡ Ok tt → Kept (after_set_up (set_up s table p.memory).answer p (set_up s table p.memory).memory)
  unfolding set_up
  set_up_kept e =
      split (in_range s)
      (λ r. rw r (split (right_table table)
      (λ t. rw t (split (eqb (length p.memory) (memory_size s))
      (λ z. rw z (fresh_kept s table r t))
      (λ z. absurd (apart OtherSize (rw (r, t, z) at e)))))
      (λ t. absurd (apart WrongTable (rw (r, t) at e)))))
      (λ r. absurd (apart SettingOutOfRange (rw r at e)))
    where
      apart : (r : SetUpRefusal) → ◌≡◌ {A = Result Unit SetUpRefusal} (Err r) (Ok tt) → ⊥
      apart r q = let z : ◌≡◌ {A = ℕ} 0 1 = cc in omega arith

  set_up_goes : Kept p → Kept (after_set_up (set_up s table p.memory).answer p (set_up s table p.memory).memory)
  unfolding set_up
  set_up_goes k =
      split (in_range s)
      (λ r. rw r (split (right_table table)
      (λ t. rw t (split (eqb (length p.memory) (memory_size s))
      (λ z. rw z (fresh_kept s table r t))
      (λ z. rw z (record { safe = k.safe; way = k.way }))))
      (λ t. rw t (record { safe = k.safe; way = k.way }))))
      (λ r. rw r (record { safe = k.safe; way = k.way }))

-- ---- whether a send, or a receive, was done
abbrev sent_sort : Result Sent SendRefusal → ℕ
sent_sort (Ok _) = 0
sent_sort (Err Sent-not-sound) = 1
sent_sort (Err Sent-source) = 1
sent_sort (Err Sent-destination) = 1
sent_sort (Err BodyTooLong) = 1
sent_sort (Err TooFewBlocks) = 1
sent_sort (Err QueueFull) = 1

sent? {ℓ} : {P : Type ℓ} (x : Result Sent SendRefusal) → ((n : ℕ) → x ≡ Ok (record { blocks = n }) → P) → (sent_sort x ≡ 1 → P) → P
sent? (Ok sent) f g = f sent.blocks refl
sent? (Err Sent-not-sound) f g = g refl
sent? (Err Sent-source) f g = g refl
sent? (Err Sent-destination) f g = g refl
sent? (Err BodyTooLong) f g = g refl
sent? (Err TooFewBlocks) f g = g refl
sent? (Err QueueFull) f g = g refl

none-accepted : (x : Result Sent SendRefusal) (w : List ℕ) → sent_sort x ≡ 1 → accepted_by x w ≡ []
none-accepted (Ok _) w e = absurd (omega arith)
none-accepted (Err Sent-not-sound) w e = refl
none-accepted (Err Sent-source) w e = refl
none-accepted (Err Sent-destination) w e = refl
none-accepted (Err BodyTooLong) w e = refl
none-accepted (Err TooFewBlocks) w e = refl
none-accepted (Err QueueFull) w e = refl

abbrev received_sort : Result Received ReceiveRefusal → ℕ
received_sort (Ok _) = 0
received_sort (Err Received-not-sound) = 1
received_sort (Err Received-destination) = 1
received_sort (Err Received-source) = 1
received_sort (Err NoLetter) = 1
received_sort (Err NoLetterQueueFull) = 1
received_sort (Err OutTooShort) = 1

received? {ℓ} : {P : Type ℓ} (x : Result Received ReceiveRefusal) → ((a n : ℕ) → x ≡ Ok (record { source = a; words = n }) → P) → (received_sort x ≡ 1 → P) → P
received? (Ok got) f g = f got.source got.words refl
received? (Err Received-not-sound) f g = g refl
received? (Err Received-destination) f g = g refl
received? (Err Received-source) f g = g refl
received? (Err NoLetter) f g = g refl
received? (Err NoLetterQueueFull) f g = g refl
received? (Err OutTooShort) f g = g refl

none-received : (table : List ℕ) (destination : ℕ) (x : Result Received ReceiveRefusal) (out : List ℕ) → received_sort x ≡ 1 → received_by table destination x out ≡ []
none-received table destination (Ok _) out e = absurd (omega arith)
none-received table destination (Err Received-not-sound) out e = refl
none-received table destination (Err Received-destination) out e = refl
none-received table destination (Err Received-source) out e = refl
none-received table destination (Err NoLetter) out e = refl
none-received table destination (Err NoLetterQueueFull) out e = refl
none-received table destination (Err OutTooShort) out e = refl

-- ---- a call that leaves the table, the letters on the way, and what was accepted and received
quiet : (p p' : Past) → Kept p → sound p'.memory ≡ true → table_in p'.memory ≡ table_in p.memory → p'.accepted ≡ p.accepted → p'.received ≡ p.received
    → ((a b : ℕ) → is_bound (table_in p.memory) a ≡ true → is_bound (table_in p.memory) b ≡ true
    → on_the_way (table_in p.memory) (machine_of p'.memory) a b ≡ on_the_way (table_in p.memory) (machine_of p.memory) a b)
    → Kept p'
quiet p p' k safe same acc rec f =
    record {
      safe = safe;
      way = λ a b x y.
          let x' : is_bound (table_in p.memory) a ≡ true = rw same at x in
          let y' : is_bound (table_in p.memory) b ≡ true = rw same at y in
          ap (those (between a b)) acc ∙ k.way a b x' y'
          ∙ ap₂ (λ (l n : List (List ℕ)). those (between a b) l ++ n) (sym rec) (sym (f a b x' y') ∙ ap (λ (t : List ℕ). on_the_way t (machine_of p'.memory) a b) (sym same));
    }

-- ---- A SEND
module _ (p : Past) (k : Kept p) (source destination : ℕ) (body : List ℕ) where
  abbrev m₀ : List ℕ
  m₀ = p.memory

  abbrev t₀ : List ℕ
  t₀ = table_in p.memory

  abbrev w₀ : List ℕ
  w₀ = sent_letter (table_in p.memory) source destination body

  abbrev m₁ : List ℕ
  m₁ = (send p.memory source destination body).memory

  abbrev answer₁ : Result Sent SendRefusal
  answer₁ = (send p.memory source destination body).answer

  safe₁ : sound m₁ ≡ true
  safe₁ = send-sound m₀ source destination body k.safe

  same₁ : table_in m₁ ≡ t₀
  same₁ = (send_fixed m₀ source destination body).table

  -- done: the letter is behind those on the way
  sent-way : (n : ℕ) → answer₁ ≡ Ok (record { blocks = n }) → (a b : ℕ) → is_bound t₀ a ≡ true → is_bound t₀ b ≡ true
      → on_the_way t₀ (machine_of m₁) a b ≡ on_the_way t₀ (machine_of m₀) a b ++ those (between a b) (w₀ ∷ [])
  unfolding letter_of
  sent-way n e a b u v =
      let z = send_allowed m₀ source destination body n e in
      let f = (sound_represents m₀ k.safe).formed in
      sends-way t₀ (gives_table m₀ k.safe) (machine_of m₀) (machine_of m₁) source destination n w₀ z.from z.to refl refl a b u v (send-done m₀ source destination body n e) f.order.itself f.positions

  abbrev p₁ : Past
  p₁ = record { memory = m₁; accepted = p.accepted ++ accepted_by answer₁ w₀; received = p.received }

  send-kept : Kept p₁
  send-kept =
      sent? answer₁
      (λ n e.
      record {
        safe = safe₁;
        way = λ a b x y.
            let x' : is_bound t₀ a ≡ true = rw same₁ at x in
            let y' : is_bound t₀ b ≡ true = rw same₁ at y in
            let t : List ℕ → Bool = between a b in
            let r : List (List ℕ) = those t p.received in
            ap (λ (z : Result Sent SendRefusal). those t (p.accepted ++ accepted_by z w₀)) e ∙ those-append t p.accepted (w₀ ∷ [])
            ∙ ap (λ (l : List (List ℕ)). l ++ those t (w₀ ∷ [])) (k.way a b x' y')
            ∙ append_assoc r (on_the_way t₀ (machine_of m₀) a b) (those t (w₀ ∷ []))
            ∙ ap (λ (l : List (List ℕ)). r ++ l) (sym (sent-way n e a b x' y') ∙ ap (λ (u : List ℕ). on_the_way u (machine_of m₁) a b) (sym same₁));
      })
      (λ e. quiet p p₁ k safe₁ same₁ (ap (λ (l : List (List ℕ)). p.accepted ++ l) (none-accepted answer₁ w₀ e) ∙ append-nil p.accepted) refl
      (refused_way t₀ (gives_table m₀ k.safe) (machine_of m₀) (machine_of m₁)
      (send_refused m₀ source destination body (λ n z. omega (arith, e, ap sent_sort z)))))

-- ---- A RECEIVE
-- the letters that are no gaps are live
live_ones_lem : (ls : List Letter) → All Live (live_ones ls)
unfolding live_ones
live_ones_lem [] = tt
live_ones_lem (L ∷ ls) = split (eqb (first L) 0) (λ e. rw e (live_ones_lem ls)) (λ e. rw e (alive L (λ z. some z e), live_ones_lem ls))
  where
    some : first L ≡ 0 → eqb (first L) 0 ≡ false → ⊥
    some z e = false≢true (sym e ∙ eq-eqb (first L) 0 z)

module _ (p : Past) (k : Kept p) (destination source : ℕ) (out : List ℕ) where
  abbrev m₂ : List ℕ
  m₂ = (receive p.memory destination source out).memory

  abbrev answer₂ : Result Received ReceiveRefusal
  answer₂ = (receive p.memory destination source out).answer

  abbrev given : List ℕ
  given = (receive p.memory destination source out).out

  abbrev t₂ : List ℕ
  t₂ = table_in p.memory

  safe₂ : sound m₂ ≡ true
  safe₂ = receive-sound p.memory destination source out k.safe

  same₂ : table_in m₂ ≡ t₂
  same₂ = (receive_fixed p.memory destination source out).table

  table₂ : right_table t₂ ≡ true
  table₂ = gives_table p.memory k.safe

  abbrev p₂ : Past
  p₂ = record { memory = m₂; accepted = p.accepted; received = p.received ++ received_by t₂ destination answer₂ given }

  -- a receive that is done is one of a bound task
  bound₂ : (a n : ℕ) → answer₂ ≡ Ok (record { source = a; words = n }) → is_bound t₂ destination ≡ true
  bound₂ a n e =
      split (is_bound t₂ destination) (λ b. b)
      (λ b. absurd (let z = ap (λ (o : Received-outcome). received_sort o.answer) (refused_first p.memory destination source out k.safe b) in omega (arith, z, ap received_sort e)))

  module _ (a n : ℕ) (e : (receive p.memory destination source out).answer ≡ Ok (record { source = a; words = n })) where
    r : Receives (machine_of p.memory) (machine_of m₂) (node_of t₂ destination) (queue_of t₂ destination) source a n out given
    r = receive-done p.memory destination source out a n e

    abbrev v : List ℕ
    v = r.letter.words

    b₂ : is_bound t₂ destination ≡ true
    b₂ = bound₂ a n e

    -- the letter is right where it stood
    right : Right t₂ (node_of t₂ destination) (13 + queue_of t₂ destination) v
    right =
        let seat = seat_below t₂ destination table₂ b₂ in
        let i : ℕ = node_of t₂ destination in
        let q : ℕ = queue_of t₂ destination in
        let P : Letter → Type 0 = λ L. Live L → Right t₂ i (13 + q) L.words in
        let ls : List Letter = ((machine_of p.memory).node i).letters (13 + q) in
        let o : All P (r.earlier ++ r.letter ∷ r.later) = subst (All P) r.was (all_live P ls ((sound_represents p.memory k.safe).formed.order.letters i (13 + q) seat.0 (omega (arith, seat.1)))) in
        let l : All Live (r.earlier ++ r.letter ∷ r.later) = subst (All Live) r.was (live_ones_lem ls) in
        (all_parts P r.earlier (r.letter ∷ r.later) o).1.0 (all_parts Live r.earlier (r.letter ∷ r.later) l).1.0

    handed-letter : sent_letter t₂ a destination (take n given) ≡ v
    unfolding onto
    handed-letter =
        ap₂ (λ (x : ℕ) (l : List ℕ). sent_letter t₂ x destination l) r.source_told
        (ap₂ (λ (x : ℕ) (l : List ℕ). take x l) r.length-told r.written ∙ take-append_seam (drop 5 v) (drop (length (drop 5 v)) out))
        ∙ letter_is t₂ table₂ destination b₂ v right

    -- what is handed over is that letter
    handed : received_by t₂ destination answer₂ given ≡ v ∷ []
    handed = ap (λ (x : Result Received ReceiveRefusal). received_by t₂ destination x given) e ∙ ap (λ (l : List ℕ). l ∷ []) handed-letter

    -- its source is a bound task
    source_bound : is_bound t₂ a ≡ true
    source_bound = rw r.source_told (header-says t₂ v right.header).source

    -- it is the first on the way from its source
    first-letter : get_or v 2 0 ≡ destination → on_the_way t₂ (machine_of p.memory) a destination ≡ v ∷ on_the_way t₂ (machine_of m₂) a destination
    unfolding between those
    first-letter d =
        receives-way t₂ table₂ (machine_of p.memory) (machine_of m₂) destination source a n out given r d a destination source_bound b₂
        ∙ rw (eq-eqb (get_or v 0 0) a (sym r.source_told), eq-eqb (get_or v 2 0) destination d)

    done-kept : Kept p₂
    done-kept =
        record {
          safe = safe₂;
          way = λ x y f g.
              let f' : is_bound t₂ x ≡ true = rw same₂ at f in
              let g' : is_bound t₂ y ≡ true = rw same₂ at g in
              let t : List ℕ → Bool = between x y in
              let o : List (List ℕ) = those t p.received in
              k.way x y f' g'
              ∙ ap (λ (l : List (List ℕ)). o ++ l) (receives-way t₂ table₂ (machine_of p.memory) (machine_of m₂) destination source a n out given r (for_destination t₂ table₂ destination b₂ v right) x y f' g')
              ∙ sym (append_assoc o (those t (v ∷ [])) (on_the_way t₂ (machine_of m₂) x y))
              ∙ ap₂ (λ (l m : List (List ℕ)). l ++ m)
              (sym (ap (λ (l : List (List ℕ)). those t (p.received ++ l)) handed ∙ those-append t p.received (v ∷ [])))
              (ap (λ (u : List ℕ). on_the_way u (machine_of m₂) x y) (sym same₂));
        }

  receive-kept : Kept p₂
  receive-kept =
      received? answer₂ done-kept
      (λ e. quiet p p₂ k safe₂ same₂ refl (ap (λ (l : List (List ℕ)). p.received ++ l) (none-received t₂ destination answer₂ given e) ∙ append-nil p.received)
      (refused_way t₂ table₂ (machine_of p.memory) (machine_of m₂)
      (receive_refused p.memory destination source out (λ a n z. omega (arith, e, ap received_sort z))).0))

-- ---- A TURN
turn-kept : (p : Past) → Kept p → Kept (record { memory = (turn p.memory).memory; accepted = p.accepted; received = p.received })
turn-kept p k =
    quiet p (record { memory = (turn p.memory).memory; accepted = p.accepted; received = p.received }) k
    (turn-sound p.memory k.safe) (turn_fixed p.memory k.safe).table refl refl (turn-turns p.memory k.safe).way

-- ---- ANY CALL, AND ANY CALLS
pub goes_on : (p : Past) → Kept p → (c : Call) → Kept (after_call p c)
unfolding after_call
goes_on p k (SetsUp b m s a t table) = set_up_goes (settings_of b m s a t) table p k
goes_on p k (Sends-call source destination body) = send-kept p k source destination body
goes_on p k (Receives-call destination source out) = receive-kept p k destination source out
goes_on p k Turns-call = turn-kept p k
goes_on p k (Lists out) = k

pub runs : (p : Past) → Kept p → (cs : List Call) → Kept (after_all p cs)
unfolding after_all
runs p k [] = k
runs p k (c ∷ cs) = runs (after_call p c) (goes_on p k c) cs

-- ---- WHAT IS KEPT IS DEMAND 3
pub kept-holds : (p : Past) → Kept p → Holds p
kept-holds p k =
    let rep = sound_represents p.memory k.safe in
    record {
      order = λ a b x y out n e. k.way a b x y ∙ ap (λ (l : List (List ℕ)). those (between a b) p.received ++ l) (sym (list-shows p.memory a b k.safe y x out n e));
      once = λ i b h lo hi.
          let o = rep.core.once i b h in
          let z : many b (((machine_of p.memory).node i).letters 77) ≡ 0 = ap (many b) (rep.formed.order.still i h) in
          omega (arith, o, z, sum_last 77 (λ q. many b (((machine_of p.memory).node i).letters q)), down_in (settings_in p.memory).m b lo hi);
      room = has_room_lem p.memory k.safe p.accepted p.received;
      stuck = never_stuck p.memory k.safe p.accepted p.received;
    }

-- ---- and it is not empty
pub kept_lively : (p : Past) → Kept p → Lively p
unfolding after_call
kept_lively p k =
    record {
      accepts = λ source destination body n e. rw e;
      receives = λ destination wanted out a n e.
          let t : List ℕ = table_in p.memory in
          let x = r p k destination wanted out a n e in
          let w = right p k destination wanted out a n e in
          let b = bound₂ p k destination wanted out a n e in
          let d = for_destination t (gives_table p.memory k.safe) destination b x.letter.words w in
          record {
            letter = x.letter.words;
            handed = sym (handed-letter p k destination wanted out a n e);
            received = ap (λ (l : List (List ℕ)). p.received ++ l) (handed p k destination wanted out a n e);
            first = first-letter p k destination wanted out a n e d;
          };
      carries = turn-turns p.memory k.safe;
    }

-- DEMAND 3: from a successful set-up on, under any calls in any order, refused ones too
pub demand_3 : (p : Past) (b m s a t : ℕ) (table : List ℕ) → (set_up (settings_of b m s a t) table p.memory).answer ≡ Ok tt
    → (cs : List Call) → Holds (after_all (after_call p (SetsUp b m s a t table)) cs)
unfolding after_call
demand_3 p b m s a t table e cs =
    kept-holds (after_all (after_call p (SetsUp b m s a t table)) cs) (runs (after_call p (SetsUp b m s a t table)) (set_up_kept (settings_of b m s a t) table p e) cs)

pub lively : (p : Past) (b m s a t : ℕ) (table : List ℕ) → (set_up (settings_of b m s a t) table p.memory).answer ≡ Ok tt
    → (cs : List Call) → Lively (after_all (after_call p (SetsUp b m s a t table)) cs)
unfolding after_call
lively p b m s a t table e cs =
    kept_lively (after_all (after_call p (SetsUp b m s a t table)) cs) (runs (after_call p (SetsUp b m s a t table)) (set_up_kept (settings_of b m s a t) table p e) cs)
