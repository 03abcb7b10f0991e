-- `places::are_right_places` meets its contract. Assumes nothing.
use native.Mathlib.Omega.{arith}
use Rattle.places.proofs.Seen.{seen_none, seen_all, seen_bad, seen_next, range-hand}
use Rattle.places.proofs.Begun.{place_is, judged_at}
use Rattle.places.proofs.are_right_places.Goals as goal

pub returns-then-not-is_right_hand : goal.returns-then-not-is_right_hand
returns-then-not-is_right_hand c = seen_bad _ _ _ _ _ 0 (seen_none _ _ _ _) _ _ (range-hand _ _ _ _ _ _ c.is_right_hand.ensures) (omega arith) c.if-not-is_right_hand.true

pub loop-p-init : goal.loop-p-init
loop-p-init c = seen_next _ _ _ _ _ 0 (seen_none _ _ _ _) _ _ (range-hand _ _ _ _ _ _ c.is_right_hand.ensures) c.if-not-is_right_hand.false

pub are_right_letters-requires-clause-stands : goal.are_right_letters-requires-clause-stands
are_right_letters-requires-clause-stands c =
    let e = c.place_at-place.ensures in
    (place_is _ _ _ c.requires.looked c.requires.small c.loop-p.p _ c.requires.seats (omega arith) (omega arith) _ e.sends e.acks e.tasks).stands

pub returns-then-not-are_right_letters : goal.returns-then-not-are_right_letters
returns-then-not-are_right_letters c =
    let e = c.place_at-place.ensures in
    seen_bad _ _ _ _ _ _ c.loop-p.invariant _ _
    (judged_at _ _ _ _ _ (place_is _ _ _ c.requires.looked c.requires.small c.loop-p.p _ c.requires.seats (omega arith) (omega arith) _ e.sends e.acks e.tasks) _ _ _ c.are_right_letters.ensures)
    (omega arith) c.if-not-are_right_letters.true

pub loop-p-preserved : goal.loop-p-preserved
loop-p-preserved c =
    let e = c.place_at-place.ensures in
    seen_next _ _ _ _ _ _ c.loop-p.invariant _ _
    (judged_at _ _ _ _ _ (place_is _ _ _ c.requires.looked c.requires.small c.loop-p.p _ c.requires.seats (omega arith) (omega arith) _ e.sends e.acks e.tasks) _ _ _ c.are_right_letters.ensures)
    c.if-not-are_right_letters.false

pub returns : goal.returns
returns c = seen_all _ _ _ _ _ _ c.loop-p.invariant (omega arith)
