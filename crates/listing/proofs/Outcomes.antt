-- The outcome of a list of a sound memory, by whether out has room. Assumes nothing.
use Rattle.std.specs.Prelude.{Err, Ok, Result}
use mathlib.Core.Path.{◌≡◌, refl, ap, ◌∙◌}
use mathlib.Core.Bool.{true}
use mathlib.Core.List.{List, [], ◌∷◌, ◌++◌}
use mathlib.Core.Logic.{⊎_elim}
use Prim.Native.Nat.{ℕ, zero, suc, ◌+◌, ◌*◌, ◌≤◌, ◌<◌}
use native.Mathlib.Omega.{arith}
use lib.ListN.{length, get_or, replicate, length-append, length-replicate, get_or-replicate, get_or-eq_default}
use borrow.Author.Tests.{le-leb, lt-leb}
use Rattle.words.specs.Count.{sum}
use Rattle.words.proofs.Lists.{le_or_lt}
use Rattle.settings.specs.declared.Settings.{Settings}
use Rattle.layout.specs.Places.{nodes, task_ids}
use Rattle.layout.specs.Numbers.{list_words}
use Rattle.letters.specs.Letter.{onto}
use Rattle.sound.specs.Reading.{settings_in}
use Rattle.sound.specs.Sound.{sound}
use Rattle.showing.specs.declared.Shown.{Shown}
use Rattle.showing.specs.List.{listed, laid_out}
use Rattle.listing.specs.declared.Listed.{Listed}
use Rattle.listing.specs.declared.ListRefusal.{ListRefusal}
use Rattle.listing.specs.declared.ListRefusal.TheVariants.{OutTooShort}
use Rattle.listing.specs.Asked.{Asked, Rows, placed, Low, every_letter, numbers, Ranked}
use Rattle.listing.specs.Outcome.{Outcome, list}
use Rattle.listing.proofs.Given.{asked-long}
use Rattle.listing.proofs.Few.{few-letters}
use Rattle.listing.proofs.Placing.{rows, length_for, so_long, so_rank}
use Rattle.listing.proofs.Spread.{sorted, spread, spread_none, all_stand}
use Rattle.listing.proofs.ByTask.{sorted_tasks, ids_all}

abbrev leaving : Result Listed ListRefusal → List ℕ → Outcome
leaving a l = record { answer = a; out = l }

asked : (s : Settings) (memory : List ℕ) → sound memory ≡ true → s ≡ settings_in memory → Asked s memory
asked s memory e q = record { holds = e; is = q }

pub sound-long : (memory : List ℕ) → sound memory ≡ true → 5 ≤ length memory
sound-long memory e = omega (arith, asked-long (settings_in memory) memory (asked (settings_in memory) memory e refl))

-- ---- a row of ranks 0
abbrev zeroes : List ℕ
zeroes = replicate task_ids 0

zeroes-long : length zeroes ≡ task_ids
zeroes-long = length-replicate {A = ℕ} task_ids 0

zero_rank : (t : ℕ) → ◌≡◌ {A = ℕ} (get_or zeroes t 0) 0
zero_rank t =
    ⊎_elim
    (λ h. get_or-eq_default zeroes 0 {n = t} (rw zeroes-long h))
    (λ h. get_or-replicate {A = ℕ} task_ids t 0 0 h)
    (le_or_lt 256 t)

pub zeroes-low : (n : ℕ) → n ≤ 4294967295 → Low zeroes n
zeroes-low n h = record { long = zeroes-long; few = λ t. omega (arith, zero_rank t) }

-- a row of no words in front changes nothing
none_before : (l out : List ℕ) → length l ≡ 0 → l ++ out ≡ out
none_before [] out e = refl
none_before (x ∷ l) out e = absurd (omega arith)

module _ (s : Settings) (memory : List ℕ) (e : sound memory ≡ true) (q : s ≡ settings_in memory) where
  abbrev a : Asked s memory
  a = asked s memory e q

  abbrev all : List Shown
  all = every_letter s memory

  abbrev xs : List Shown
  xs = listed s memory

  few_sorted : (t : ℕ) → length (sorted all t) ≤ t * 74460
  unfolding sorted
  few_sorted zero = omega arith
  few_sorted (suc t) = rw length-append (omega (arith, few_sorted t, length_for t all, few-letters s memory a))

  -- ---- the letters are counted, by a walk that is lent no room
  module _ (row l : List ℕ) (counted : rows row l ≡ placed all (rows zeroes [])) where
    same : (out : List ℕ) → l ++ out ≡ out
    same out = none_before l out (so_long all zeroes [] row l counted)

    sum_all : (t : ℕ) → t ≤ task_ids → sum t (numbers row) ≡ length (sorted all t)
    unfolding sum sorted
    sum_all zero h = refl
    sum_all (suc t) h =
        rw length-append
        (omega (arith, sum_all t (omega arith), so_rank all zeroes [] row l counted t (rw zeroes-long (omega arith)), zero_rank t))

    pub sum-few : sum task_ids (numbers row) ≤ 4294967295
    sum-few = omega (arith, sum_all task_ids (omega arith), few_sorted 256)

    -- ---- and added up
    module _ (ranks : List ℕ) (r : ℕ) (ranked : Ranked (numbers row) ranks r) where
      total : r ≡ length xs
      total = ranked.all ∙ sum_all task_ids (omega arith) ∙ ap length (sorted_tasks s memory a task_ids (omega arith))

      pub out_short : (out : List ℕ) → length (l ++ out) < r * list_words → leaving (Err (OutTooShort r)) (l ++ out) ≡ list memory out
      unfolding list
      out_short out g =
          let d : length out < length xs * list_words = rw (same out, total) at g in
          rw (e, ← q, lt-leb (length xs * list_words) (length out) d, same out, total)

      each : (t : ℕ) → t < task_ids → get_or ranks t 0 ≡ length (sorted all t)
      each t h = ranked.each t h ∙ sum_all t (omega arith)

      pub ranks-low : Low ranks ((task_ids + nodes * nodes) * 255)
      ranks-low = record { long = ranked.long; few = few }
        where
          few : (t : ℕ) → get_or ranks t 0 + 74460 ≤ 4294967295
          few t =
              ⊎_elim
              (λ h. omega (arith, get_or-eq_default ranks 0 {n = t} (omega (arith, ranked.long))))
              (λ h. omega (arith, each t h, few_sorted t))
              (le_or_lt 256 t)

      -- ---- and laid, each at its place
      module _ (out last-ranks last : List ℕ) (laid : rows last-ranks last ≡ placed all (rows ranks (l ++ out))) where
        stand : length xs * list_words ≤ length out → last ≡ onto (laid_out xs) out
        stand h =
            let w = sorted_tasks s memory a task_ids (omega arith) in
            let room : length (sorted all task_ids) * list_words ≤ length out = rw w h in
            ap (λ (r : Rows). r.out) (laid ∙ ap (λ (o : List ℕ). placed all (rows ranks o)) (same out))
            ∙ all_stand all out room (placed all (rows ranks out)) (spread all out room all [] (rows ranks out) refl (ids_all s memory a) (spread_none all out room ranks ranked.long each))
            ∙ ap (λ (ys : List Shown). onto (laid_out ys) out) w

        pub out-done : r * list_words ≤ length (l ++ out) → leaving (Ok (record { letters = r })) last ≡ list memory out
        unfolding list
        out-done g =
            let d : length xs * list_words ≤ length out = rw (same out, total) at g in
            rw (e, ← q, le-leb (length xs * list_words) (length out) d, stand d, total)
