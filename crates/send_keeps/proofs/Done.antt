-- A letter that is put into a node: its first block, the stretch's length, and the room that the queue has. Assumes nothing.
use mathlib.Core.Path.{◌≡◌, sym, ap, ◌∙◌, subst}
use mathlib.Core.Bool.{true, false≢true}
use mathlib.Core.List.{List}
use Prim.Native.Nat.{ℕ, ◌+◌, ◌≤◌, ◌<◌}
use native.Mathlib.Omega.{arith}
use lib.ListN.{length, get_or}
use lib.Seq.{length-take-le}
use borrow.Author.Tests.{ltb-true}
use Rattle.words.specs.Count.{occurs}
use Rattle.words.proofs.Count.{occurs-split, down_zero}
use Rattle.settings.specs.declared.Settings.{Settings}
use Rattle.layout.specs.Places.{node_size, first_free_at, node, send_at, task_at}
use Rattle.blocks.specs.Chain.{needs}
use Rattle.blocks.specs.Moves.{taken}
use Rattle.blocks.proofs.Moves.{length_taken}
use Rattle.letters.specs.Letter.{written}
use Rattle.letters.proofs.Rows.{length-laid}
use Rattle.queues.specs.Queue.{send_kind, items}
use Rattle.queues.specs.Moves.{appended, append_answer}
use Rattle.queues.specs.Items.{gap_flag}
use Rattle.queues.proofs.Tasks.{TaskRing}
use Rattle.queues.proofs.Views.{length-appended}
use Rattle.gaps.specs.Close.{task_appended, task_answer}
use Rattle.gaps.proofs.Closed.{append_full, append_cases}
use Rattle.posting.specs.Post.{took_it}
use Rattle.posting.proofs.Rooms.{send_below}
use Rattle.machine.specs.Machine.{Letter, first, firsts, Machine}
use Rattle.machine.specs.Core.{rows_of}
use Rattle.machine.specs.Represents.{RepresentsAt}
use Rattle.machine.proofs.Letters.{length-firsts, first_in_lem}
use Rattle.machine.proofs.Gives.{gives_stretch, gives_send, gives_flagged}
use Rattle.moves.proofs.Core.{free-most}
use Rattle.moves.proofs.Queues.{length_task_appended}
use Rattle.send_keeps.specs.Sends.{new_letter}

-- a stretch whose first free blocks hold the words of a letter
abbrev pub laid_in : Settings → List ℕ → List ℕ → List ℕ
laid_in s l ws = written s (taken s l (needs s (length ws))) (get_or l first_free_at 0) ws

module _ (s : Settings) (memory : List ℕ) (m : Machine) (rep : RepresentsAt s memory m) (i : ℕ) (h : i < 6) where
  abbrev l : List ℕ
  l = node s memory i

  -- its first block is no 0
  pub begins : (n : ℕ) (ws : List ℕ) → 1 ≤ n → n ≤ length (m.node i).free → first (new_letter (m.node i).free n ws) ≡ 0 → ⊥
  begins n ws some has e =
      let L : Letter = new_letter (m.node i).free n ws in
      let o : 1 ≤ occurs 0 L.chain = subst (λ (x : ℕ). 1 ≤ occurs x L.chain) e (first_in_lem L (omega (arith, length-take-le n (m.node i).free has))) in
      omega (arith, occurs-split 0 n (m.node i).free, free-most s (rows_of s memory) m.node rep.core i 0 h, down_zero s.m)

  module _ (ws : List ℕ) where
    long_in : length (laid_in s l ws) ≡ node_size s
    long_in =
        length-laid s (needs s (length ws)) (taken s l (needs s (length ws))) (get_or l 0 0) ws
        ∙ length_taken s l (needs s (length ws))
        ∙ (gives_stretch s memory rep.size m.node rep.core i h).long

    pub send-long : (k : ℕ) → length (appended (send_kind s) (laid_in s (node s memory i) ws) (send_at s k) (get_or (node s memory i) first_free_at 0)) ≡ node_size s
    send-long k = length-appended (send_kind s) (laid_in s l ws) (send_at s k) (get_or l 0 0) ∙ long_in

    pub task_long : (q : ℕ) → length (task_appended s (laid_in s (node s memory i) ws) (task_at s q) (get_or (node s memory i) first_free_at 0)) ≡ node_size s
    task_long q = length_task_appended s (laid_in s l ws) (task_at s q) (get_or l 0 0) ∙ long_in

  -- a send queue that takes one more is below its length
  pub send_less : (k : ℕ) → k < 6 → took_it (append_answer (send_kind s) (node s memory i) (send_at s k)) ≡ true → length ((m.node i).letters (1 + k)) < s.s
  send_less k g room =
      let z = ltb-true (items (send_kind s) l (send_at s k)) s.s (send_below s l (send_at s k) ∙ room) in
      omega (arith, (gives_send s memory rep.size m.node rep.core i k h g).count, length-firsts ((m.node i).letters (1 + k)))

  -- a task queue that takes one more is below its length, or has a gap to close
  pub task_cases {ℓ} : {P : Type ℓ} (q : ℕ) → q < 64 → took_it (task_answer s (node s memory i) (task_at s q)) ≡ true
      → (length ((m.node i).letters (13 + q)) < s.t → P) → (length ((m.node i).letters (13 + q)) ≡ s.t → gap_flag (firsts ((m.node i).letters (13 + q))) ≡ 1 → P) → P
  task_cases q g room f₁ f₂ =
      let ls : List Letter = (m.node i).letters (13 + q) in
      let ring : TaskRing s l (task_at s q) (firsts ls) =
      gives_flagged s memory rep.size m.node rep.core i q h g (rep.shows.flags i q h g) (rep.formed.order.fronts i q h g) in
      append_cases s l (task_at s q) (firsts ls) ring
      (λ z. f₁ (omega (arith, length-firsts ls)))
      (λ z gaps. f₂ (sym (length-firsts ls) ∙ z) gaps)
      (λ z none. absurd (false≢true (sym (ap took_it (append_full s l (task_at s q) (firsts ls) ring 1 z none).1) ∙ room)))
