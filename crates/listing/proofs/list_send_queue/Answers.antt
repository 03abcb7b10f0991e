-- `listing::list_send_queue` meets its contract: after each turn the letters of the items from the first that is not left out up to place c are placed. Assumes nothing.
use mathlib.Core.Path.{◌≡◌}
use Prim.Native.Nat.{ℕ, ◌-◌}
use native.Mathlib.Omega.{arith}
use Rattle.layout.specs.Places.{send_at, node}
use Rattle.queues.specs.Queue.{send_kind, items}
use Rattle.showing.proofs.Waiting.{waiting-run}
use Rattle.listing.proofs.Given.{asked-sized, asked-long, read-small, read_item, read-many, send-queue, read_send, sent-begins, sent-lies, sent-task, sent-named, shown_for}
use Rattle.listing.proofs.Few.{so_sent}
use Rattle.listing.proofs.Letters.{sent_start, sent_more}
use Rattle.listing.proofs.list_send_queue.Goals as goal

pub stretch-node-requires-clause-sized : goal.stretch-node-requires-clause-sized
stretch-node-requires-clause-sized c = asked-sized _ _ c.requires.asked

pub send-queue-requires-clause-in_range : goal.send-queue-requires-clause-in_range
send-queue-requires-clause-in_range c = (asked-sized _ _ c.requires.asked).range

pub left_out-first-requires-clause-nodes_at_in_bounds : goal.left_out-first-requires-clause-nodes_at_in_bounds
left_out-first-requires-clause-nodes_at_in_bounds c = asked-long _ _ c.requires.asked

pub items-c-end-requires : goal.items-c-end-requires
items-c-end-requires c = send-queue _ _ c.requires.asked _ c.requires.i_lt_nodes.1 c.stretch-node.ensures.0 _ c.requires.i_lt_nodes.0 c.send-queue.ensures.kind c.send-queue.ensures.at.is

pub loop-c-init : goal.loop-c-init
loop-c-init c =
    record { within = omega arith; read = read_send _ _ c.requires.asked _ c.requires.i_lt_nodes.1 c.stretch-node.ensures.0 _ c.requires.i_lt_nodes.0 c.send-queue.ensures.kind c.send-queue.ensures.at.is _ c.items-c-end.ensures; laid = sent_start _ _ _ _ _ _ _ _ }

pub word_of-task-requires : goal.word_of-task-requires
word_of-task-requires c = sent-lies c.loop-c.invariant.read c.requires.i_lt_nodes.0 c.loop-c.c _ c.loop-c-test.true c.item-b.ensures

pub shown_at-x-requires : goal.shown_at-x-requires
shown_at-x-requires c = sent-begins c.loop-c.invariant.read c.requires.i_lt_nodes.0 c.loop-c.c _ c.loop-c-test.true c.item-b.ensures

pub list_letter-requires : goal.list_letter-requires
list_letter-requires c =
    let l = c.loop-c in
    let p = read-small l.invariant.read l.c c.loop-c-test.true in
    record {
      destination_lt_task_ids = shown_for _ _ _ _ _ _ _ c.shown_at-x.ensures (sent-named l.invariant.read c.requires.i_lt_nodes.0 l.c _ c.loop-c-test.true c.item-b.ensures _ c.word_of-task.ensures);
      low = so_sent _ _ _ _ _ _ _ _ _ _ (omega arith) c.requires.low _ _ l.invariant.laid;
    }

pub loop-c-preserved : goal.loop-c-preserved
loop-c-preserved c =
    let l = c.loop-c in
    record {
      within = omega arith;
      read = l.invariant.read;
      laid = sent_more _ _ _ _ _ _ _ _ _ _ (read_item l.invariant.read l.c _ c.item-b.ensures) _ _ _ (omega arith) l.invariant.laid (sent-task l.invariant.read c.requires.i_lt_nodes.0 l.c _ c.loop-c-test.true c.item-b.ensures _ c.word_of-task.ensures) _ c.shown_at-x.ensures c.list_letter.ensures;
    }

pub returns : goal.returns
returns c =
    let l = c.loop-c in
    let x = c.args in
    let many = read-many l.invariant.read in
    let f : ℕ = c.left_out-first.result in
    let e : l.c - f ≡ items (send_kind x.s) (node x.s x.memory.now x.j) (send_at x.s x.i) - f = omega (arith, l.invariant.within) in
    rw (waiting-run x.s x.memory.now x.i x.j f c.left_out-first.ensures) (rw e at l.invariant.laid)
