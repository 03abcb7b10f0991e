-- One turn of the loops that fill and sum. Assumes nothing.
use Rattle.std.proofs.Common.{◌≡◌, ℕ, zero, suc, ◌+◌, ◌*◌, ◌%◌, ◌<◌, ◌≤◌, List, [], ◌∷◌, ◌++◌, length, get_or, drop, set, sym, refl, ap, ◌∙◌, append_assoc, append-nil, add-zero, add_assoc, mod-eq_of_lt, add-one, arith, length-append, drop_of_length-le, drop-cons}
use native.Mathlib.Nat.{mod-add-mod}
use lib.Seq.{set_at}
use Rattle.script.specs.Words.{rising, summed}

pub length-rising : (f n : ℕ) → length (rising f n) ≡ n
unfolding rising
length-rising f zero = refl
length-rising f (suc n) = length-append (rising f n) ((f + n) % 4294967296 ∷ []) ∙ omega (arith, length-rising f n)

-- the word stored at n is the next of the rising words
pub rising_more : (f n v : ℕ) (d : List ℕ) → n < length d → v ≡ (f + n) % 4294967296 → set (rising f n ++ drop n d) n v ≡ rising f (n + 1) ++ drop (n + 1) d
unfolding rising
rising_more f n v d h e =
    ap (λ (l : List ℕ). set (rising f n ++ l) n v) (drop-cons d n 0 h)
    ∙ set_at (rising f n) (get_or d n 0) (drop (suc n) d) v n (length-rising f n)
    ∙ rw (add-one n, e, append_assoc (rising f n) ((f + n) % 4294967296 ∷ []) (drop (suc n) d))

pub rising_all : (f n : ℕ) (d : List ℕ) → length d ≡ n → rising f n ++ drop n d ≡ rising f n
rising_all f n d e = rw (drop_of_length-le d {i = n} (omega arith), append-nil)

pub rising_first : (f : ℕ) → f < 4294967296 → f ≡ (f + 0) % 4294967296
rising_first f h = rw add-zero (sym (mod-eq_of_lt h))

pub rising_next : (f n v w : ℕ) → v ≡ (f + n) % 4294967296 → w ≡ (v + 1) % 4294967296 → w ≡ (f + (n + 1)) % 4294967296
rising_next f n v w e g = g ∙ ap (λ (k : ℕ). (k + 1) % 4294967296) e ∙ mod-add-mod (f + n) 4294967296 1 ∙ ap (λ (k : ℕ). k % 4294967296) (add_assoc f n 1)

-- a word more is in the sum
pub summed_more : (h i w : ℕ) (ws : List ℕ) (t : ℕ) → i < length ws → w ≡ get_or ws i 0 → summed h (drop i ws) ≡ t → summed ((h * 31 + w) % 4294967291) (drop (i + 1) ws) ≡ t
unfolding summed
summed_more h i w ws t l v e = rw (add-one i, v) ((rw (drop-cons ws i 0 l) at e))

pub summed_all : (h i : ℕ) (ws : List ℕ) (t : ℕ) → length ws ≤ i → summed h (drop i ws) ≡ t → h ≡ t
unfolding summed
summed_all h i ws t l e = rw (drop_of_length-le ws l) at e
