-- `listing::list_task_queue` meets its contract: after c turns the letters of the first c items are placed. Assumes nothing.
use mathlib.Core.Path.{refl}
use Rattle.queues.specs.Queue.{run}
use Rattle.queues.specs.Items.{live}
use Rattle.showing.specs.List.{from_task}
use Rattle.listing.specs.Asked.{placed}
use Rattle.listing.proofs.Given.{asked-sized, read-small, read_item, task_queue, read_task, kept-begins, shown_for}
use Rattle.listing.proofs.Few.{so_kept}
use Rattle.listing.proofs.Letters.{kept-gap, kept_more}
use Rattle.listing.proofs.Placing.{rows}
use Rattle.listing.proofs.list_task_queue.Goals.{then-b-ne0, else-b-ne0}
use Rattle.listing.proofs.list_task_queue.Goals as goal

pub stretch-node-requires-clause-sized : goal.stretch-node-requires-clause-sized
stretch-node-requires-clause-sized c = asked-sized _ _ c.requires.asked

pub task-queue-requires-clause-in_range : goal.task-queue-requires-clause-in_range
task-queue-requires-clause-in_range c = (asked-sized _ _ c.requires.asked).range

pub items-c-end-requires : goal.items-c-end-requires
items-c-end-requires c = task_queue _ _ c.requires.asked _ c.requires.i_lt_nodes.0 c.stretch-node.ensures.0 _ c.requires.i_lt_nodes.1 c.task-queue.ensures.kind c.task-queue.ensures.at.is

pub loop-c-init : goal.loop-c-init
unfolding from_task live run placed
loop-c-init c =
    record { read = read_task _ _ c.requires.asked _ c.requires.i_lt_nodes.0 c.stretch-node.ensures.0 _ c.requires.i_lt_nodes.1 c.task-queue.ensures.kind c.task-queue.ensures.at.is _ c.items-c-end.ensures; laid = refl }

pub shown_at-x-requires : goal.shown_at-x-requires
shown_at-x-requires c =
    kept-begins c.loop-c.invariant.read c.requires.i_lt_nodes.1 c.loop-c.c _ c.loop-c-test.true c.item-b.ensures c.if-b-ne0.true

pub list_letter-requires : goal.list_letter-requires
list_letter-requires c =
    let l = c.loop-c in record { destination_lt_task_ids = shown_for _ _ _ _ _ _ _ c.shown_at-x.ensures c.requires.task_lt_task_ids; low = so_kept _ _ _ _ _ _ _ _ _ _ (read-small c.loop-c.invariant.read l.c c.loop-c-test.true) c.requires.low _ _ l.invariant.laid }

pub loop-c-preserved : goal.loop-c-preserved
loop-c-preserved c =
    let l = c.loop-c in
    let eb = read_item l.invariant.read l.c _ c.item-b.ensures in
    elim c.if-b-ne0.branch [
      | then-b-ne0 u ↦ record { read = l.invariant.read; laid = rw (u.ranks-is, u.out-is) (kept_more _ _ _ _ _ _ _ _ _ _ eb _ _ l.invariant.laid u.if-b-ne0.true _ u.shown_at-x.ensures u.list_letter.ensures) }
      | else-b-ne0 u ↦ record { read = l.invariant.read; laid = rw (u.ranks-is, u.out-is) (kept-gap _ _ _ _ (rows l.ranks l.out) _ _ _ _ _ eb _ _ l.invariant.laid u.if-b-ne0.false) }
    ]
