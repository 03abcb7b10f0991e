-- A loop that looks at the letters of a queue: what is left from place j on decides as much as the whole did. Assumes nothing.
use mathlib.Core.Path.{◌≡◌, sym, ap, ◌∙◌}
use mathlib.Core.Bool.{Bool, true, false, ◌&&◌, false≢true}
use mathlib.Core.List.{List, [], ◌∷◌, ◌++◌}
use Prim.Native.Nat.{ℕ, ◌+◌, ◌-◌, ◌≤◌, ◌<◌}
use native.Mathlib.Omega.{arith}
use Rattle.settings.specs.declared.Settings.{Settings}
use Rattle.queues.specs.declared.Kind.{Kind}
use Rattle.queues.specs.Queue.{item_at, items, run, contents}
use Rattle.queues.specs.Items.{live}
use Rattle.queues.proofs.Items.{live-append}
use Rattle.sound.specs.Blocks.{chains}
use Rattle.queues.proofs.Ring.{run_step, run_none}
use Rattle.visits.specs.declared.Asks.{Asks}
use Rattle.visits.specs.Marks.{marked}
use Rattle.visits.specs.Letters.{letters_right, Judged}
use Rattle.visits.proofs.Judge.{right_none, marks_none, right_append, marks-append}

module _ (s : Settings) (l t : List ℕ) (asks : Asks) (k : Kind) (queue : List ℕ) (q : ℕ) (old : List ℕ) where
  -- the letters from place j on, of n items
  abbrev rest : ℕ → ℕ → List ℕ
  rest j n = live (run k queue q j (n - j))

  pub record Turn (marks : List ℕ) (j n : ℕ) : Type 0 where
    pub right : letters_right s l t asks old (live (contents k queue q)) ≡ letters_right s l t asks marks (live (run k queue q j (n - j)))
    pub due : marked old (chains s l (live (contents k queue q))) ≡ marked marks (chains s l (live (run k queue q j (n - j))))

  pub turn_start : (n : ℕ) → n ≡ items k queue q → Turn old 0 n
  turn_start n e =
      let d : items k queue q ≡ n - 0 = omega arith in
      record {
        right = ap (λ (m : ℕ). letters_right s l t asks old (live (run k queue q 0 m))) d;
        due = ap (λ (m : ℕ). marked old (chains s l (live (run k queue q 0 m)))) d;
      }

  module _ (marks : List ℕ) (j n x : ℕ) (w : Turn marks j n) where
    -- none left
    pub turn_end : n ≤ j → Judged (letters_right s l t asks old (live (contents k queue q))) (marked old (chains s l (live (contents k queue q)))) true marks
    unfolding live
    turn_end h =
        let e = run_none k queue q j n h in
        record {
          is = sym (w.right ∙ ap (λ (c : List ℕ). letters_right s l t asks marks (live c)) e ∙ right_none s l t asks marks);
          marks = λ f. sym (w.due ∙ ap (λ (c : List ℕ). marked marks (chains s l (live c))) e ∙ marks_none s l t asks marks);
        }

    module _ (h : j < n) (ex : x ≡ item_at k queue q j) (r : Bool) (new : List ℕ) (v : Judged (letters_right s l t asks marks (live (x ∷ []))) (marked marks (chains s l (live (x ∷ [])))) r new) where
      cut : live (run k queue q j (n - j)) ≡ live (x ∷ []) ++ live (run k queue q (j + 1) (n - (j + 1)))
      cut =
          ap live (run_step k queue q j n h ∙ ap (λ (y : ℕ). y ∷ run k queue q (j + 1) (n - (j + 1))) (sym ex))
          ∙ live-append (x ∷ []) (run k queue q (j + 1) (n - (j + 1)))

      both : letters_right s l t asks old (live (contents k queue q))
          ≡ letters_right s l t asks marks (live (x ∷ [])) && letters_right s l t asks (marked marks (chains s l (live (x ∷ [])))) (live (run k queue q (j + 1) (n - (j + 1))))
      both = w.right ∙ ap (letters_right s l t asks marks) cut ∙ right_append s l t asks marks (live (x ∷ [])) (live (run k queue q (j + 1) (n - (j + 1))))

      -- a letter that is not right
      pub turn_bad : r ≡ false → Judged (letters_right s l t asks old (live (contents k queue q))) (marked old (chains s l (live (contents k queue q)))) false new
      turn_bad f = record { is = sym (both ∙ rw (sym v.is ∙ f)); marks = λ z. absurd (false≢true z) }

      -- a letter that is
      pub turn_next : r ≡ true → Turn new (j + 1) n
      turn_next f =
          let e = v.marks f in
          record {
            right = both ∙ rw (sym v.is ∙ f, e);
            due = w.due ∙ ap (λ (c : List ℕ). marked marks (chains s l c)) cut
                ∙ marks-append s l t asks marks (live (x ∷ [])) (live (run k queue q (j + 1) (n - (j + 1)))) ∙ rw e;
          }
