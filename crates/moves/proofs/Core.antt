-- What keeps the core: a queue's row put anew with letters to or from the transit place; blocks of the free list and of the transit place anew; letters to or from the hand. Assumes nothing.
--     queue-put, word-put     every move of a queue, of any kind and on any node
--     chain_change     every move of blocks
--     pass_keeps, hold_keeps, resume_keeps     between the hand and the transit place: no row shows it
--     head_put     the room count
use mathlib.Core.Path.{◌≡◌, refl, sym, ap, ◌∙◌}
use mathlib.Core.List.{List, [], ◌∷◌}
use Prim.Native.Nat.{ℕ, ◌+◌, ◌≤◌, ◌<◌}
use native.Mathlib.Omega.{arith}
use lib.ListN.{length, get_or}
use Rattle.words.specs.Count.{occurs, sum, down_from}
use Rattle.words.proofs.Count.{sum-put, sum_le, sum_two, down_range, down_once}
use Rattle.words.proofs.Lists.{put, put_same, put_other, same?}
use Rattle.settings.specs.declared.Settings.{Settings}
use Rattle.layout.specs.Rows.{width}
use Rattle.blocks.proofs.Chains.{Leads, first_in, Same, leads_same}
use Rattle.queues.proofs.Ring.{Ring}
use Rattle.machine.specs.Machine.{Letter, firsts, Node, All, many}
use Rattle.machine.specs.Core.{seat, line, kind, Held, Core}
use Rattle.machine.proofs.Letters.{all_same}
use Rattle.machine.proofs.Places.{line_in}
use Rattle.moves.proofs.Made.{put_row, moved, freed}
use Rattle.moves.proofs.Rows.{row_same, row_other, row_apart, row-long, place_one, moved_at, moved_transit, moved_other, freed_transit, freed_other, put_none, moved_none, freed_none}

-- how often block b stands in a node
abbrev total : ℕ → Node → ℕ
total b X = occurs b X.free + sum 78 (λ p. many b (X.letters p))

total_moved : (b : ℕ) (N : Node) (p : ℕ) (ls hs : List Letter) → p < 77 → many b ls + many b hs ≡ many b (N.letters p) + many b (N.letters 77)
    → total b (moved N p ls hs) ≡ total b N
unfolding moved
total_moved b N p ls hs l c =
    omega (
      arith,
      sum-put (many b) N.letters p ls 78 (omega arith),
      sum-put (many b) (put N.letters p ls) 77 hs 78 (omega arith),
      ap (many b) (put_other N.letters p ls 77 (λ e. omega arith)),
    )

total_freed : (b : ℕ) (N : Node) (fr : List ℕ) (hs : List Letter) → occurs b fr + many b hs ≡ occurs b N.free + many b (N.letters 77) → total b (freed N fr hs) ≡ total b N
unfolding freed
total_freed b N fr hs c = omega (arith, sum-put (many b) N.letters 77 hs 78 (omega arith))

free_moved : (N : Node) (p : ℕ) (ls hs : List Letter) → (moved N p ls hs).free ≡ N.free
unfolding moved
free_moved N p ls hs = refl

free_freed : (N : Node) (fr : List ℕ) (hs : List Letter) → (freed N fr hs).free ≡ fr
unfolding freed
free_freed N fr hs = refl

module _ (s : Settings) (R : ℕ → ℕ → List ℕ) (N : ℕ → Node) (core : Core s R N) where
  -- ---- what the core says of blocks
  pub many-most : (i p b : ℕ) → i < 6 → p < 78 → many b ((N i).letters p) ≤ occurs b (down_from s.m)
  many-most i p b h g = omega (arith, core.once i b h, sum_le 78 (λ k. many b ((N i).letters k)) p g)

  pub free-most : (i b : ℕ) → i < 6 → occurs b (N i).free ≤ occurs b (down_from s.m)
  free-most i b h = omega (arith, core.once i b h)

  -- two places have no block in common, nor has the free list with a place
  pub two_most : (i p q b : ℕ) → i < 6 → p < 78 → q < 78 → (p ≡ q → ⊥) → occurs b (N i).free + (many b ((N i).letters p) + many b ((N i).letters q)) ≤ occurs b (down_from s.m)
  two_most i p q b h g k n = omega (arith, core.once i b h, sum_two 78 (λ x. many b ((N i).letters x)) p q g k n)

  pub block-long : (i b : ℕ) → i < 6 → 1 ≤ occurs b (down_from s.m) → length (R i (76 + b)) ≡ width s (76 + b)
  block-long i b h o = let r = down_range s.m b o in core.sizes i (76 + b) h (omega arith)

  -- ---- Q: A QUEUE'S ROW ANEW, and letters between it and the transit place
  module _ (i p : ℕ) (h : i < 6) (lo : 1 ≤ p) (hi : p < 77) (w : List ℕ) (ls hs : List Letter) (long : length w ≡ length (R (seat i p) (line i p)))
      (ring : Ring (kind s p) w 0 (firsts ls)) (hl : All (Held s (R i)) ls) (hh : All (Held s (R i)) hs)
      (count : (b : ℕ) → many b ls + many b hs ≡ many b ((N i).letters p) + many b ((N i).letters 77)) where
    abbrev R' : ℕ → ℕ → List ℕ
    R' = put_row R (seat i p) (line i p) w

    abbrev X : Node
    X = moved (N i) p ls hs

    not_77 : p ≡ 77 → ⊥
    not_77 e = omega arith

    block_row : (k b : ℕ) → 1 ≤ b → R' k (76 + b) ≡ R k (76 + b)
    block_row k b o = row_other R (seat i p) (line i p) w k (76 + b) (λ e. omega (arith, line_in i p h lo hi))

    head_row : (k : ℕ) → R' k 0 ≡ R k 0
    head_row k = row_other R (seat i p) (line i p) w k 0 (λ e. omega (arith, line_in i p h lo hi))

    frame : (k : ℕ) (l : List Letter) → ((b : ℕ) → many b l ≤ occurs b (down_from s.m)) → All (Held s (R k)) l → All (Held s (R' k)) l
    frame k l m a = all_same s (R k) (R' k) l (λ b o. block_row k b (down_range s.m b (omega (arith, m b))).0) a

    both_most : (b : ℕ) → many b ls + many b hs ≤ occurs b (down_from s.m)
    both_most b = omega (arith, count b, two_most i p 77 b h (omega arith) (omega arith) not_77)

    letters_here : (q : ℕ) → q < 78 → All (Held s (R' i)) (X.letters q)
    letters_here q g =
        same? q 77
        (λ e t. rw (e, moved_transit (N i) p ls hs not_77) (frame i hs (λ b. omega (arith, both_most b)) hh))
        (λ e t. same? q p
        (λ e' t'. rw (e', moved_at (N i) p ls hs not_77) (frame i ls (λ b. omega (arith, both_most b)) hl))
        (λ e' t'. rw (moved_other (N i) p ls hs not_77 q e' e) (frame i ((N i).letters q) (λ b. many-most i q b h g) (core.letters i q h g))))

    letters' : (k q : ℕ) → k < 6 → q < 78 → All (Held s (R' k)) ((put N i X k).letters q)
    letters' k q a g =
        same? k i
        (λ e t. rw t (rw e (letters_here q g)))
        (λ e t. rw t (frame k ((N k).letters q) (λ b. many-most k q b a g) (core.letters k q a g)))

    -- another place's row is as it was
    ring_other : (k q : ℕ) → k < 6 → 1 ≤ q → q < 77 → (k ≡ i → q ≡ p → ⊥) → (l : List Letter) → l ≡ (N k).letters q → Ring (kind s q) (R' (seat k q) (line k q)) 0 (firsts l)
    ring_other k q a b g n l e =
        rw (e, row_apart R (seat i p) (line i p) w (seat k q) (line k q) (λ u v. let o = place_one i p k q lo hi b g h a u v in n o.0 o.1))
        (core.queues k q a b g)

    queues' : (k q : ℕ) → k < 6 → 1 ≤ q → q < 77 → Ring (kind s q) (R' (seat k q) (line k q)) 0 (firsts ((put N i X k).letters q))
    queues' k q a b g =
        same? k i
        (λ e t. same? q p
        (λ e' t'. rw (e, e') (rw (put_same N i X, moved_at (N i) p ls hs not_77, row_same R (seat i p) (line i p) w) ring))
        (λ e' t'. ring_other k q a b g (λ u v. e' v) ((put N i X k).letters q)
        (rw e (ap (λ (Y : Node). Y.letters q) (put_same N i X) ∙ moved_other (N i) p ls hs not_77 q e' (λ z. omega arith)))))
        (λ e t. ring_other k q a b g (λ u v. e u) ((put N i X k).letters q) (ap (λ (Y : Node). Y.letters q) (put_other N i X k e)))

    free' : (k : ℕ) → k < 6 → Leads s.b (R' k) (first_in (R' k)) (put N i X k).free 0
    unfolding Same
    free' k a =
        let f : (put N i X k).free ≡ (N k).free = same? k i (λ e t. rw (t, e) (free_moved (N i) p ls hs)) (λ e t. rw t) in
        rw (f, head_row k)
        (leads_same s.b (R k) (R' k) (first_in (R k)) (N k).free 0 (λ b o. block_row k b (down_range s.m b (omega (arith, free-most k b a))).0) (core.free k a))

    pub queue-put : Core s (put_row R (seat i p) (line i p) w) (put N i (moved (N i) p ls hs))
    queue-put =
        record {
          range = core.range;
          sizes = λ k r a g. row-long R (seat i p) (line i p) w long k r ∙ core.sizes k r a g;
          free = free';
          queues = queues';
          letters = letters';
          once = λ k b a. same? k i
              (λ e t. rw t (total_moved b (N i) p ls hs hi (count b) ∙ core.once i b h))
              (λ e t. rw t (core.once k b a));
        }

  -- the row anew, the letters as they were: a word of its head, a count
  module _ (i p : ℕ) (h : i < 6) (lo : 1 ≤ p) (hi : p < 77) (w : List ℕ) (long : length w ≡ length (R (seat i p) (line i p))) (ring : Ring (kind s p) w 0 (firsts ((N i).letters p))) where
    pub word-put : Core s (put_row R (seat i p) (line i p) w) N
    word-put =
        let c = queue-put i p h lo hi w ((N i).letters p) ((N i).letters 77) long ring (core.letters i p h (omega arith)) (core.letters i 77 h (omega arith)) (λ b. refl) in
        let e : put N i (moved (N i) p ((N i).letters p) ((N i).letters 77)) ≡ N = ap (put N i) (moved_none (N i) p (λ z. omega arith)) ∙ put_none N i in
        subst-core e c
      where
        subst-core : {N' N'' : ℕ → Node} {Q : ℕ → ℕ → List ℕ} → N' ≡ N'' → Core s Q N' → Core s Q N''
        subst-core e c = rw (← e) c

  -- ---- P: LETTERS BETWEEN THE HAND AND THE TRANSIT PLACE
  module _ (i : ℕ) (h : i < 6) (ls hs : List Letter) (hl : All (Held s (R i)) ls) (hh : All (Held s (R i)) hs)
      (count : (b : ℕ) → many b ls + many b hs ≡ many b ((N i).letters 0) + many b ((N i).letters 77)) where
    abbrev Y : Node
    Y = moved (N i) 0 ls hs

    zero_77 : ◌≡◌ {A = ℕ} 0 77 → ⊥
    zero_77 e = omega arith

    here : (q : ℕ) → q < 78 → All (Held s (R i)) (Y.letters q)
    here q g =
        same? q 77
        (λ e t. rw (e, moved_transit (N i) 0 ls hs zero_77) hh)
        (λ e t. same? q 0
        (λ e' t'. rw (e', moved_at (N i) 0 ls hs zero_77) hl)
        (λ e' t'. rw (moved_other (N i) 0 ls hs zero_77 q e' e) (core.letters i q h g)))

    pub pass_keeps : Core s R (put N i (moved (N i) 0 ls hs))
    pass_keeps =
        record {
          range = core.range;
          sizes = core.sizes;
          free = λ k a. same? k i (λ e t. rw t (rw (free_moved (N i) 0 ls hs, e) (core.free i h))) (λ e t. rw t (core.free k a));
          queues = λ k q a b g. same? k i
              (λ e t. rw t (rw (e, moved_other (N i) 0 ls hs zero_77 q (λ z. omega arith) (λ z. omega arith)) (core.queues i q h b g)))
              (λ e t. rw t (core.queues k q a b g));
          letters = λ k q a g. same? k i (λ e t. rw t (rw e (here q g))) (λ e t. rw t (core.letters k q a g));
          once = λ k b a. same? k i
              (λ e t. rw t (total_moved b (N i) 0 ls hs (omega arith) (count b) ∙ core.once i b h))
              (λ e t. rw t (core.once k b a));
        }

  -- ---- C: BLOCKS OF THE FREE LIST AND OF THE TRANSIT PLACE ANEW, and no others
  module _ (i : ℕ) (h : i < 6) (Q : ℕ → List ℕ) (fr : List ℕ) (hs : List Letter) (keeps : (r : ℕ) → length (Q r) ≡ length (R i r)) (same : (r : ℕ) → 1 ≤ r → r < 77 → Q r ≡ R i r)
      (others : (b : ℕ) → 1 ≤ b → occurs b (N i).free + many b ((N i).letters 77) ≡ 0 → Q (76 + b) ≡ R i (76 + b)) (leads : Leads s.b Q (first_in Q) fr 0) (hh : All (Held s Q) hs)
      (count : (b : ℕ) → occurs b fr + many b hs ≡ occurs b (N i).free + many b ((N i).letters 77)) where
    abbrev Z : Node
    Z = freed (N i) fr hs

    abbrev R'' : ℕ → ℕ → List ℕ
    R'' = put R i Q

    place_same : (q : ℕ) → q < 77 → All (Held s Q) ((N i).letters q)
    place_same q g =
        all_same s (R i) Q ((N i).letters q)
        (λ b o.
        let z = two_most i q 77 b h (omega arith) (omega arith) (λ e. omega arith) in
        others b (down_range s.m b (omega (arith, many-most i q b h (omega arith)))).0 (omega (arith, down_once s.m b)))
        (core.letters i q h (omega arith))

    here_c : (q : ℕ) → q < 78 → All (Held s Q) (Z.letters q)
    here_c q g =
        same? q 77
        (λ e t. rw (e, freed_transit (N i) fr hs) hh)
        (λ e t. rw (freed_other (N i) fr hs q e) (place_same q (omega arith)))

    queue-row : (k r : ℕ) → 1 ≤ r → r < 77 → R'' k r ≡ R k r
    queue-row k r a b = same? k i (λ e t. rw t (same r a b ∙ ap (λ (x : ℕ). R x r) (sym e))) (λ e t. rw t)

    letters_c : (k q : ℕ) → q < 77 → (put N i Z k).letters q ≡ (N k).letters q
    letters_c k q g = same? k i (λ e t. rw t (freed_other (N i) fr hs q (λ z. omega arith) ∙ ap (λ (x : ℕ). (N x).letters q) (sym e))) (λ e t. rw t)

    pub chain_change : Core s (put R i Q) (put N i (freed (N i) fr hs))
    chain_change =
        record {
          range = core.range;
          sizes = λ k r a g. same? k i (λ e t. rw t (keeps r ∙ core.sizes i r h g)) (λ e t. rw t (core.sizes k r a g));
          free = λ k a. same? k i (λ e t. rw t (rw (free_freed (N i) fr hs) leads)) (λ e t. rw t (core.free k a));
          queues = λ k q a b g.
              let l = line_in k q a b g in
              rw (letters_c k q g, queue-row (seat k q) (line k q) l.0 l.1) (core.queues k q a b g);
          letters = λ k q a g. same? k i (λ e t. rw t (here_c q g)) (λ e t. rw t (core.letters k q a g));
          once = λ k b a. same? k i
              (λ e t. rw t (total_freed b (N i) fr hs (count b) ∙ core.once i b h))
              (λ e t. rw t (core.once k b a));
        }

  -- ---- H: THE FIRST ROW ANEW, its first free block as it was: the room count
  module _ (i : ℕ) (h : i < 6) (w : List ℕ) (long : length w ≡ length (R i 0)) (same : get_or w 0 0 ≡ get_or (R i 0) 0 0) where
    abbrev H : ℕ → List ℕ
    H = put (R i) 0 w

    block_h : (b : ℕ) → H (76 + b) ≡ R i (76 + b)
    block_h b = put_other (R i) 0 w (76 + b) (λ e. omega arith)

    pub head_put : Core s (put_row R i 0 w) N
    unfolding put_row Same
    head_put =
        let f : first_in H ≡ first_in (R i) = ap (λ (l : List ℕ). get_or l 0 0) (put_same (R i) 0 w) ∙ same in
        let c = chain_change i h H (N i).free ((N i).letters 77)
        (λ r. same? r 0 (λ e t. rw (t, e) long) (λ e t. rw t))
        (λ r a b. put_other (R i) 0 w r (λ e. omega arith))
        (λ b a z. block_h b)
        (rw f (leads_same s.b (R i) H (first_in (R i)) (N i).free 0 (λ b o. block_h b) (core.free i h)))
        (all_same s (R i) H ((N i).letters 77) (λ b o. block_h b) (core.letters i 77 h (omega arith)))
        (λ b. refl) in
        let e : put N i (freed (N i) (N i).free ((N i).letters 77)) ≡ N = ap (put N i) (freed_none (N i)) ∙ put_none N i in
        rw e at c

-- ---- the letter on its way is held in the hand; and the letter in the hand goes on its way
module _ (s : Settings) (R : ℕ → ℕ → List ℕ) (N : ℕ → Node) (core : Core s R N) (i : ℕ) (h : i < 6) (L : Letter) where
  pub hold_keeps : (N i).letters 0 ≡ [] → (N i).letters 77 ≡ L ∷ [] → Core s R (put N i (moved (N i) 0 (L ∷ []) []))
  hold_keeps none one =
      let a : All (Held s (R i)) (L ∷ []) = rw one at (core.letters i 77 h (omega arith)) in
      pass_keeps s R N core i h (L ∷ []) [] a tt (λ b. omega (arith, ap (many b) one, ap (many b) none))

  pub resume_keeps : (N i).letters 0 ≡ L ∷ [] → (N i).letters 77 ≡ [] → Core s R (put N i (moved (N i) 0 [] (L ∷ [])))
  resume_keeps one none =
      let a : All (Held s (R i)) (L ∷ []) = rw one at (core.letters i 0 h (omega arith)) in
      pass_keeps s R N core i h [] (L ∷ []) tt a (λ b. omega (arith, ap (many b) one, ap (many b) none))
