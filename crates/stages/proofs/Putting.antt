-- Stages 2 and 3: what an append leaves. Assumes nothing.
use Rattle.std.specs.Prelude.{Result}
use mathlib.Core.Path.{◌≡◌, refl, ap, ap₂, ◌∙◌}
use mathlib.Core.List.{List}
use Prim.Native.Nat.{ℕ, ◌≤◌, ◌<◌}
use native.Mathlib.Omega.{arith}
use lib.ListN.{length, get_or}
use Rattle.settings.specs.declared.Settings.{Settings}
use Rattle.settings.specs.Range.{InRange}
use Rattle.layout.specs.Places.{ack_at, node, with_node}
use Rattle.layout.specs.Numbers.{destination_task_word}
use Rattle.tasks.specs.Table.{queue_of}
use Rattle.queues.specs.declared.Kind.{Kind}
use Rattle.queues.specs.declared.Full.{Full}
use Rattle.queues.specs.Queue.{ack_kind}
use Rattle.queues.specs.Moves.{appended, append_answer}
use Rattle.gaps.specs.Close.{task_appended, task_answer}
use Rattle.sound.specs.Reading.{table_in, send_items}
use Rattle.sound.specs.Letters.{words_from}
use Rattle.postman.specs.declared.Stage.{Stage}
use Rattle.postman.specs.Position.{at}
use Rattle.postman.specs.Round.{did}
use Rattle.postman.specs.Asked.{SoundAt}
use Rattle.stages_keep.specs.Steps.{on_append, first_of, queue_for, queued, acknowledged}
use Rattle.stages_keep.proofs.Laws.{names_in, names-waits}
use Rattle.lending.specs.Asked.{Addressed, HasQueue, HasTaskQueue, HasFirst}
use Rattle.lending.proofs.Queues.{queue-small}
use Rattle.stages.specs.Asked.{Holds}
use Rattle.stages.proofs.Stood.{stood_lent, stood_sized, stood_table, stood_send, stood_ack, stood_task, stood_held}

-- ---- stage 2
module _ (s : Settings) (m : List ℕ) (j c : ℕ) (h : Holds s m j c) where
  pub holds_addressed : Addressed s m j c
  holds_addressed =
      let g = h.stands in
      let r = stood_held s m j 2 h.other c g refl in
      record {
        begins = record { lent = stood_lent s m j (at 2 h.other c) g j g.postman; ends = r.ends; long = r.long };
        table = stood_table s m j (at 2 h.other c) g;
        header = r.header;
      }

  module _ {q : ℕ} (eq : q ≡ queue_for s j m c) where
    pub holds-queue : HasTaskQueue s m j q
    holds-queue =
        let g = h.stands in
        rw eq
        (record {
          lent = stood_lent s m j (at 2 h.other c) g j g.postman;
          queue = stood_task s m j (at 2 h.other c) g j g.postman (queue_of (table_in m) (get_or (words_from s (node s m j) c) destination_task_word 0)) (queue-small s m j c holds_addressed);
        })

    pub queued_is : {m₁ : List ℕ} {a : Result Unit Full} {r : Stage} → m₁ ≡ with_node s m j (task_appended s (node s m j) q c) → a ≡ task_answer s (node s m j) q → r ≡ on_append a 6
        → did m₁ r ≡ queued s j m c
    unfolding queued
    queued_is em ea er = ap₂ did (em ∙ ap (λ (z : ℕ). with_node s m j (task_appended s (node s m j) z c)) eq) (er ∙ ap (λ (z : Result Unit Full). on_append z 6) (ea ∙ ap (λ (z : ℕ). task_answer s (node s m j) z) eq))

-- ---- stage 3
module _ (s : Settings) (m : List ℕ) (j i : ℕ) (g : SoundAt s m j (at 3 i 0)) where
  names : (i < 6) × (1 ≤ length (send_items s m i j))
  names = (names_in s m j i 3 0 g (omega arith), names-waits s m j i 3 0 g (omega arith))

  pub stands-range : InRange s × (i < 6)
  stands-range = ((stood_sized s m j (at 3 i 0) g).range, names.0)

  pub stands_first : HasFirst s m i j
  stands_first =
      record {
        lent = stood_lent s m j (at 3 i 0) g i names.0;
        own = g.postman;
        queue = stood_send s m j (at 3 i 0) g i names.0 j g.postman;
        some = names.1;
      }

  module _ {k : Kind} {q : ℕ} (ek : k ≡ ack_kind s) (eq : q ≡ ack_at s i) where
    pub stands_ack : HasQueue s m j k q
    stands_ack = rw (ek, eq) (record { lent = stood_lent s m j (at 3 i 0) g j g.postman; queue = stood_ack s m j (at 3 i 0) g j g.postman i names.0 })

    pub acknowledged_is : {m₁ : List ℕ} {x : ℕ} {a : Result Unit Full} {r : Stage} → x ≡ first_of s j m i → m₁ ≡ with_node s m j (appended k (node s m j) q x)
        → a ≡ append_answer k (node s m j) q → r ≡ on_append a 10 → did m₁ r ≡ acknowledged s j m i
    unfolding acknowledged
    acknowledged_is {m₁} {x} {a} {r} ex em ea er =
        let f : m₁ ≡ with_node s m j (appended (ack_kind s) (node s m j) (ack_at s i) (first_of s j m i)) = em ∙ rw (ek, eq, ex) in
        let h : a ≡ append_answer (ack_kind s) (node s m j) (ack_at s i) = ea ∙ rw (ek, eq) in
        ap₂ did f (er ∙ ap (λ (z : Result Unit Full). on_append z 10) h)
