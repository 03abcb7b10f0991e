-- Whether the source of a receive is known: any, or a bound task. Assumes nothing.
use mathlib.Core.Path.{◌≡◌}
use mathlib.Core.Bool.{Bool, true, false, ◌||◌}
use mathlib.Core.List.{List}
use Prim.Native.Nat.{ℕ}
use lib.Dec.{eqb}
use borrow.Author.Tests.{eq-eqb, ne_eqb}
use Rattle.tasks.specs.Table.{is_bound}
use Rattle.tasks.specs.Seat.{seat_of}
use Rattle.std.specs.Prelude.{Option, Some, None, is_some}
use Rattle.tasks.specs.declared.Seat.{Seat}
use Rattle.words.proofs.Lists.{option?}
use Rattle.tasks.proofs.Laws.{told_at, told-unbound}

-- ---- 'other task not bound (receive: and not 0)'
module _ (t : List ℕ) (source : ℕ) where
  pub known_any : source ≡ 0 → true ≡ (eqb source 0 || is_bound t source)
  known_any e = rw (eq-eqb source 0 e)

  module _ (n : source ≡ 0 → ⊥) where
    pub known_seat : (x : Seat) → seat_of t source ≡ Some x → true ≡ (eqb source 0 || is_bound t source)
    known_seat x e = rw (ne_eqb source 0 n, (told_at t source x.node x.queue e).0)

    pub known_not : seat_of t source ≡ None → false ≡ (eqb source 0 || is_bound t source)
    known_not e = rw (ne_eqb source 0 n, told-unbound t source e)

    pub known_is : {x : Option Seat} {b : Bool} → x ≡ seat_of t source → b ≡ is_some x → b ≡ (eqb source 0 || is_bound t source)
    known_is e f = rw (f, e) (option? (seat_of t source) (λ x q. rw q (known_seat x q)) (λ q. rw q (known_not q)))
