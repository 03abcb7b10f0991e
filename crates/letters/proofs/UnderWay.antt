-- Reading and writing under way: what stands after some blocks, and what is left. Assumes nothing.
use mathlib.Core.Path.{◌≡◌, refl, sym, ap, ap₂, ◌∙◌}
use mathlib.Core.List.{List, [], ◌∷◌, ◌++◌, append-nil, append_assoc}
use Prim.Native.Nat.{ℕ, suc, ◌+◌, ◌-◌, ◌*◌, ◌≤◌, ◌<◌, min}
use native.Mathlib.Nat.{suc-mul, div-add-mod, sub-add-eq}
use native.Mathlib.Omega.{arith}
use lib.ListN.{length, get_or, set, take, drop, length-append, length-take, length-drop}
use lib.Seq.{sets, length-sets, take_all, take_at, take-suc, drop-drop, length-take-le, get_or-drop}
use borrow.Rule.Slice.PartMut.{put_mid}
use Rattle.words.specs.Words.{part, splice}
use Rattle.words.proofs.Over.{sets-append}
use Rattle.words.proofs.Parts.{back, length_part, length-splice, take-least}
use Rattle.settings.specs.declared.Settings.{Settings}
use Rattle.layout.specs.Places.{block_at}
use Rattle.blocks.specs.Chain.{needs, link, chain, text}
use Rattle.blocks.specs.Asked.{Block, Walks}
use Rattle.blocks.proofs.Steps.{down}
use Rattle.letters.specs.declared.Header.{Header}
use Rattle.letters.specs.Letter.{onto, letter, piece, laid, written}
use Rattle.letters.specs.Made.{letter_of}
use Rattle.letters.specs.Asked.{Lies, Carries}
use Rattle.letters.proofs.Steps.{Covers, Stepped, head_block, skip_text, piece-text, piece-carried, covers_skip, covers_rest, covers_lies, letter-part, laid_none, walks-laid, laid_step}

-- ---- reading under way: `done` words stand in out, and those from word `skip` on of the `owed` blocks from `block` on are still to be read
pub record Reading (s : Settings) (node : List ℕ) (b at : ℕ) (out₀ out : List ℕ) (block skip done : ℕ) : Type 0 where
  pub owed : ℕ
  pub long : length out ≡ length out₀
  pub within : done ≤ length out₀
  pub covers : Covers s node owed block (skip + (length out₀ - done))
  pub is : take done out ++ take (length out₀ - done) (drop skip (text s node (chain s node owed block))) ≡ drop at (letter s node (at + length out₀) b)

pub read_starts : (s : Settings) (node : List ℕ) (b at : ℕ) (out : List ℕ) → Lies s node (at + length out) b → Reading s node b at out out b at 0
read_starts s node b at out l =
    let z : length out - 0 ≡ length out = omega arith in
    record {
      owed = needs s (at + length out);
      long = refl;
      within = omega arith;
      covers = rw z (covers_lies s node (at + length out) b (needs s (at + length out)) l refl);
      is = rw z (letter-part s node at (length out) b);
    }

module _ (s : Settings) (node : List ℕ) (b at : ℕ) (out₀ out : List ℕ) (block skip done : ℕ) (r : Reading s node b at out₀ out block skip done) where
  pub read_ends : length out₀ ≤ done → out ≡ drop at (letter s node (at + length out₀) b)
  read_ends h =
      let w = r.within in
      let l = r.long in
      let z : length out₀ - done ≡ 0 = omega arith in
      sym (ap₂ (λ (u : List ℕ) (k : ℕ). u ++ take k (drop skip (text s node (chain s node r.owed block)))) (take_all done out (omega arith)) z ∙ append-nil out)
      ∙ r.is

  module _ (k next : ℕ) (q : Stepped s node r.owed block skip (length out₀ - done) k next) where
    abbrev left : ℕ
    left = length out₀ - done

    -- a block that lies wholly before the words is passed over
    passed : k ≡ 0 → s.b - 1 ≤ skip
    passed e = let w = q.some in let c = q.carries in omega arith

    pub read_passes : k ≡ 0 → (s.b - 1 ≤ skip) × Reading s node b at out₀ out next (skip - (s.b - 1)) done
    read_passes e =
        let h = passed e in (
          h,
          record {
            owed = r.owed - 1;
            long = r.long;
            within = r.within;
            covers = covers_skip s node r.owed block r.covers.walks q.owes skip left next r.covers.room q.follows h;
            is = ap (λ (x : ℕ). take done out ++ take left (drop (skip - (s.b - 1)) (text s node (chain s node (r.owed - 1) x)))) q.follows
                ∙ ap (λ (l : List ℕ). take done out ++ take left l) (sym (skip_text s node r.owed block r.covers.walks q.owes skip h))
                ∙ r.is;
          },
        )

    -- what the block carries of them is read
    module _ (some : k ≡ 0 → ⊥) where
      pub read_inside : Carries s node block skip
      read_inside =
          let c = q.carries in
          record { block = head_block s node r.owed block r.covers.walks q.owes; inside = omega arith }

      abbrev held : List ℕ
      held = part out done (length out₀)

      abbrev got : List ℕ
      got = piece s node block skip left

      got-long : k ≡ length got
      got-long = piece-carried s node r.owed block r.covers.walks q.owes skip left k read_inside.inside q.carries

      got-within : done + k ≤ length out₀
      got-within = let w = r.within in let c = q.carries in omega arith

      held-long : length held ≡ left
      held-long = let l = r.long in length_part out done (length out₀) r.within (omega arith)

      module _ (p : List ℕ) (e : p ≡ onto (piece s node block skip (length (part out done (length out₀)))) (part out done (length out₀))) where
        p_is : p ≡ got ++ drop k held
        unfolding onto
        p_is = e ∙ ap (λ (i : ℕ). piece s node block skip i ++ drop (length (piece s node block skip i)) held) held-long ∙ ap (λ (i : ℕ). got ++ drop i held) (sym got-long)

        p_long : length p ≡ left
        p_long =
            let g = got-long in
            let h = held-long in
            let c = q.carries in
            ap length p_is ∙ length-append got (drop k held) ∙ rw length-drop (omega arith)

        abbrev new : List ℕ
        new = put_mid done (length out₀ - done) out p

        new_is : new ≡ splice out done (length out₀) p
        new_is = back done (length out₀) out {p = p} r.within refl

        new_front : take (done + k) new ≡ take done out ++ got
        new_front =
            let g = got-long in
            let l = r.long in
            let w = r.within in
            ap (take (done + k)) (new_is ∙ ap (λ (z : List ℕ). take done out ++ (z ++ drop (length out₀) out)) p_is)
            ∙ ap (take (done + k)) (simp append_assoc)
            ∙ take_at (take done out ++ got) (drop k held ++ drop (length out₀) out) (done + k) (length-append (take done out) got ∙ rw (length-take-le done out (omega arith)) (omega arith))

        pub read_goes : Reading s node b at out₀ (put_mid done (length out₀ - done) out p) next 0 (done + k)
        read_goes =
            let g = got-long in
            let l = r.long in
            let w = r.within in
            let c = q.carries in
            let z : length out₀ - (done + k) ≡ left - k = sub-add-eq (length out₀) done k in
            record {
              owed = r.owed - 1;
              long = ap length new_is ∙ length-splice out done (length out₀) w (omega arith) p p_long ∙ l;
              within = got-within;
              covers = rw z (covers_rest s node r.owed block r.covers.walks q.owes skip left next r.covers.room q.follows k read_inside.inside c);
              is = ap₂ (λ (u : List ℕ) (i : ℕ). u ++ take i (text s node (chain s node (r.owed - 1) next))) new_front z
                  ∙ ap₂ (λ (i x : ℕ). (take done out ++ got) ++ take (left - i) (text s node (chain s node (r.owed - 1) x))) g q.follows
                  ∙ append_assoc (take done out) got (take (left - length got) (text s node (chain s node (r.owed - 1) (link s node block))))
                  ∙ ap (λ (u : List ℕ). take done out ++ u) (sym (piece-text s node r.owed block r.covers.walks q.owes skip left read_inside.inside))
                  ∙ r.is;
            }

-- ---- a run of stores: the words up to k stand; one more
pub sets_more : (p l : List ℕ) (a k : ℕ) → k < length p → set (sets l a (take k p)) (a + k) (get_or p k 0) ≡ sets l a (take (k + 1) p)
sets_more p l a k h =
    let lq : length (take k p) ≡ k = length-take-le k p (omega arith) in
    let c : suc k ≡ k + 1 = omega arith in
    ap (λ (i : ℕ). set (sets l a (take k p)) (a + i) (get_or p k 0)) (sym lq)
    ∙ sym (sets-append (take k p) (get_or p k 0 ∷ []) l a)
    ∙ ap (sets l a) (sym (take-suc p k 0 h))
    ∙ ap (λ (i : ℕ). sets l a (take i p)) c

-- ---- the words of a letter that is made anew
module _ (h : Header) (body : List ℕ) where
  pub made_long : length (letter_of h body) ≡ 5 + length body
  unfolding letter_of
  made_long = omega arith

  pub needs_made : (s : Settings) → needs s (5 + length body) ≡ needs s (length (letter_of h body))
  needs_made s = ap (needs s) (sym made_long)

  pub made_body : (k : ℕ) → 5 ≤ k → get_or body (k - 5) 0 ≡ get_or (letter_of h body) k 0
  unfolding letter_of
  made_body k e = let q : k ≡ suc (suc (suc (suc (suc (k - 5))))) = omega arith in sym (ap (λ (i : ℕ). get_or (letter_of h body) i 0) q)

-- the words of a made letter from word k on, laid into a block one by one
module _ (h : Header) (body : List ℕ) (k n room : ℕ) (en : n ≡ min (5 + length body - k) room) where
  abbrev ws : List ℕ
  ws = drop k (letter_of h body)

  ws_long : length ws ≡ 5 + length body - k
  ws_long = length-drop k (letter_of h body) ∙ ap (λ (i : ℕ). i - k) (made_long h body)

  pub block_more : (node l : List ℕ) (a i x : ℕ) → i < n → l ≡ sets node a (take i (drop k (letter_of h body))) → x ≡ get_or (letter_of h body) (k + i) 0
      → set l (a + i) x ≡ sets node a (take (i + 1) (drop k (letter_of h body)))
  block_more node l a i x lt e q =
      ap₂ (λ (m : List ℕ) (v : ℕ). set m (a + i) v) e (q ∙ sym (get_or-drop k (letter_of h body) i 0))
      ∙ sets_more ws node a i (rw ws_long (omega arith))

  pub block_all : (node l : List ℕ) (a place i : ℕ) → a ≡ place → i ≡ n → l ≡ sets node a (take i (drop k (letter_of h body))) → l ≡ sets node place (take room (drop k (letter_of h body)))
  block_all node l a place i ea ei e =
      e ∙ ap₂ (λ (z j : ℕ). sets node z (take j ws)) ea (ei ∙ en ∙ ap (λ (j : ℕ). min j room) (sym ws_long))
      ∙ ap (sets node place) (sym (take-least (length ws) room ws) ∙ take_all (length ws) (take room ws) (rw length-take (omega arith)))

-- ---- writing under way: the words from word k on are still to be laid into the `owed` blocks from `block` on
pub record Writing (s : Settings) (node₀ : List ℕ) (b : ℕ) (ws node : List ℕ) (owed block k : ℕ) : Type 0 where
  pub long : length node ≡ length node₀
  pub walks : Walks s node owed block
  pub room : k + owed * (s.b - 1) ≤ length ws + (s.b - 2)
  pub is : laid s node owed block (drop k ws) ≡ written s node₀ b ws

pub write_starts : (s : Settings) (node : List ℕ) (b : ℕ) (ws : List ℕ) (owed : ℕ) → Lies s node (length ws) b → owed ≡ needs s (length ws) → Writing s node b ws node owed b 0
unfolding needs
write_starts s node b ws owed l e =
    rw e (record { long = refl; walks = l.walks; room = omega (arith, div-add-mod (length ws + (s.b - 2)) (s.b - 1)); is = refl })

module _ (s : Settings) (node₀ : List ℕ) (b : ℕ) (ws node : List ℕ) (owed block k : ℕ) (w : Writing s node₀ b ws node owed block k) where
  pub write_ends : owed ≡ 0 → node ≡ written s node₀ b ws
  write_ends e = sym (laid_none s node owed block w.walks (drop k ws) e) ∙ w.is

  module _ (some : 1 ≤ owed) where
    pub write_inside : (Block s node block) × (k < length ws)
    write_inside =
        let r = w.walks.stretch.range.b.low in
        let m = w.room in
        (head_block s node owed block w.walks some, omega (arith, suc-mul (owed - 1) (s.b - 1), ap (λ (i : ℕ). i * (s.b - 1)) (down owed some)))

    pub write_goes : (next : ℕ) (mid : List ℕ) → next ≡ link s node block → mid ≡ sets node (block_at s block) (take (s.b - 1) (drop k ws))
        → Writing s node₀ b ws mid (owed - 1) next (k + (s.b - 1))
    write_goes next mid el em =
        let m = w.room in
        record {
          long = ap length em ∙ length-sets node (block_at s block) (take (s.b - 1) (drop k ws)) ∙ w.long;
          walks = walks-laid s node owed block w.walks (drop k ws) some next mid el em;
          room = omega (arith, suc-mul (owed - 1) (s.b - 1), ap (λ (i : ℕ). i * (s.b - 1)) (down owed some));
          is = ap (laid s mid (owed - 1) next) (sym (drop-drop (s.b - 1) k ws))
              ∙ laid_step s node owed block w.walks (drop k ws) some next mid el em
              ∙ w.is;
        }
