-- The outcome of a send, by the tests on the way, and what a sound memory gives to it. Assumes nothing.
use Rattle.std.specs.Prelude.{Err, Result}
use mathlib.Core.Path.{◌≡◌, sym, ap, ap₂, ◌∙◌}
use mathlib.Core.Bool.{true, false}
use mathlib.Core.List.{List}
use Prim.Native.Nat.{ℕ, ◌+◌, ◌-◌, ◌≤◌, ◌<◌}
use native.Mathlib.Omega.{arith}
use lib.Dec.{leb}
use lib.ListN.{length}
use borrow.Author.Tests.{le-leb, lt-leb, leb-true, eq-eqb, ne_eqb}
use borrow.Rule.Slice.PartMut.{put_mid}
use Rattle.words.specs.Words.{part, splice}
use Rattle.words.proofs.Lists.{same?, and-true}
use Rattle.words.proofs.Parts.{back}
use Rattle.settings.specs.declared.Settings.{Settings}
use Rattle.layout.specs.Places.{nodes_at, node, node_at, node_size}
use Rattle.layout.specs.Numbers.{header_words}
use Rattle.layout.proofs.Fits.{nodes_fit}
use Rattle.tasks.specs.Table.{node_of, queue_of, is_bound}
use Rattle.tasks.specs.Seat.{seat_of}
use Rattle.std.specs.Prelude.{Some, None}
use Rattle.tasks.proofs.Laws.{told-unbound, told_at, seat-within}
use Rattle.blocks.specs.Chain.{needs}
use Rattle.sound.specs.Reading.{settings_in, table_in}
use Rattle.sound.specs.Sound.{sound}
use Rattle.sound.proofs.Gives.{gives_table, gives_sized, gives_stretch, gives_send, gives_task, gives_free}
use Rattle.letters.specs.Made.{letter_of}
use Rattle.posting.specs.Post.{Posted, posted}
use Rattle.posting.specs.Asked.{Queued, Posts}
use Rattle.posting.specs.declared.Goal.{Goal}
use Rattle.posting.specs.declared.Goal.TheVariants.{Task, Node}
use Rattle.posting.specs.declared.Sent.{Sent}
use Rattle.posting.specs.declared.SendRefusal.{SendRefusal}
use Rattle.posting.specs.declared.SendRefusal.TheVariants.{SourceNotBound, DestinationNotBound, BodyTooLong}
use Rattle.send.specs.Outcome.{Outcome, refused_by, fits, goal_of, posted_in, delivered, send}
use Rattle.send.specs.Asked.{Delivers}

-- ---- whether a body fits
module _ (s : Settings) (n : ℕ) where
  pub too_long : 1019 < n → false ≡ fits s n
  unfolding fits
  too_long h = rw (lt-leb n 1019 h)

  pub by_blocks : (k : ℕ) → n ≤ 1019 → k ≡ needs s (5 + n) → leb k s.m ≡ fits s n
  unfolding fits
  by_blocks k h e = rw (le-leb n 1019 h, e)

  pub fits_both : true ≡ fits s n → (n ≤ 1019) × (needs s (header_words + n) ≤ s.m)
  unfolding fits
  fits_both e =
      let h = and-true (leb n 1019) (leb (needs s (header_words + n)) s.m) (sym e) in
      (leb-true n 1019 h.0, leb-true (needs s (header_words + n)) s.m h.1)

-- ---- the goal
module _ (from to queue : ℕ) where
  pub goal_same : from ≡ to → Task queue ≡ goal_of from to queue
  unfolding goal_of
  goal_same e = rw (eq-eqb from to e)

  pub goal_other : (from ≡ to → ⊥) → Node to ≡ goal_of from to queue
  unfolding goal_of
  goal_other e = rw (ne_eqb from to e)

-- ---- the lent stretch
module _ (s : Settings) (memory : List ℕ) (i a size : ℕ) (ea : a ≡ node_at s i) (es : size ≡ node_size s) where
  lent : part memory a (a + size) ≡ node s memory i
  lent = rw (ea, es)

  pub posts-lent : (goal : Goal) (n : ℕ) → Posts s (node s memory i) goal n → Posts s (part memory a (a + size)) goal n
  posts-lent goal n p = rw lent p

  pub posted-back : (goal : Goal) (ws : List ℕ) (r : Result Sent SendRefusal) (p : List ℕ) → record { answer = r; stretch = p } ≡ posted s (part memory a (a + size)) goal ws
      → record { answer = r; memory = put_mid a (a + size - a) memory p } ≡ posted_in s memory i goal ws
  unfolding posted_in
  posted-back goal ws r p e =
      let o : Posted = posted s (node s memory i) goal ws in
      let f : record { answer = r; stretch = p } ≡ o = e ∙ ap (λ (l : List ℕ). posted s l goal ws) lent in
      ap₂ (λ (x : Result Sent SendRefusal) (y : List ℕ). refused_by x y) (ap (λ (x : Posted). x.answer) f)
      (back a (a + size) memory (omega arith) (ap (λ (x : Posted). x.stretch) f) ∙ ap₂ (λ (k z : ℕ). splice memory k (k + z) o.stretch) ea es)

-- ---- a sound memory
module _ (memory : List ℕ) (e : sound memory ≡ true) where
  pub sound-long : nodes_at ≤ length memory
  sound-long = omega (arith, (gives_sized memory e).long, nodes_fit (settings_in memory))

  module _ (source destination : ℕ) (body : List ℕ) where
    pub out-source : seat_of (table_in memory) source ≡ None → refused_by (Err SourceNotBound) memory ≡ send memory source destination body
    unfolding send
    out-source u = rw (e, told-unbound (table_in memory) source u)

    module _ (from own : ℕ) (a : seat_of (table_in memory) source ≡ Some (record { node = from; queue = own })) where
      bound : (is_bound (table_in memory) source ≡ true) × ((from ≡ node_of (table_in memory) source) × (own ≡ queue_of (table_in memory) source))
      bound = told_at (table_in memory) source from own a

      pub out-destination : seat_of (table_in memory) destination ≡ None → refused_by (Err DestinationNotBound) memory ≡ send memory source destination body
      unfolding send
      out-destination u = rw (e, bound.0, told-unbound (table_in memory) destination u)

      module _ (to queue : ℕ) (b : seat_of (table_in memory) destination ≡ Some (record { node = to; queue = queue })) (s : Settings) (es : s ≡ settings_in memory) where
        bound₂ : (is_bound (table_in memory) destination ≡ true) × ((to ≡ node_of (table_in memory) destination) × (queue ≡ queue_of (table_in memory) destination))
        bound₂ = told_at (table_in memory) destination to queue b

        pub out_body : false ≡ fits s (length body) → refused_by (Err BodyTooLong) memory ≡ send memory source destination body
        unfolding send
        out_body f = let g : fits (settings_in memory) (length body) ≡ false = rw es at (sym f) in rw (e, bound.0, bound₂.0, g)

        module _ (f : true ≡ fits s (length body)) (goal : Goal) (eg : goal ≡ goal_of from to queue) where
          pub out-done : (o : Outcome) → o ≡ posted_in s memory from goal (letter_of (record { source = source; from = from; destination = destination; to = to }) body)
              → o ≡ send memory source destination body
          unfolding send delivered
          out-done o p =
              let g : fits (settings_in memory) (length body) ≡ true = rw es at (sym f) in
              rw (e, bound.0, bound₂.0, g, p, eg, es, bound.1.0, bound₂.1.0, bound₂.1.1)

          inside : from < 6
          inside = omega (arith, bound.1.0, (seat-within (table_in memory) source (gives_table memory e) bound.0).0)

          queued : Queued (settings_in memory) (node (settings_in memory) memory from) (goal_of from to queue)
          unfolding Queued goal_of
          queued =
              let w = seat-within (table_in memory) destination (gives_table memory e) bound₂.0 in
              let ht : to < 6 = omega (arith, bound₂.1.0) in
              let hq : queue < 64 = omega (arith, bound₂.1.1) in
              same? from to
              (λ q y. rw y (hq, gives_task memory e from inside queue hq))
              (λ q y. rw y (ht, gives_send memory e from inside to ht))

          pub gives_delivers : Delivers s memory from goal (header_words + length body)
          gives_delivers =
              let h = fits_both s (length body) f in
              let k : needs (settings_in memory) (header_words + length body) ≤ (settings_in memory).m = rw es at h.1 in
              rw (es, eg)
              (record {
                sized = gives_sized memory e;
                inside = inside;
                posts =
                    record {
                      aims = record { stretch = gives_stretch memory e from inside; queue = queued };
                      free = gives_free memory e from inside;
                      least = omega arith;
                      most = omega arith;
                      fits = k;
                    };
              })
