-- `listing::list_task` meets its contract. Assumes nothing.
use mathlib.Core.Path.{sym, ◌∙◌}
use Rattle.tasks.proofs.Laws.{told_at, told-unbound}
use Rattle.listing.specs.Asked.{kept_of, placed}
use Rattle.listing.proofs.Given.{asked-long, asked-table, told-seat}
use Rattle.listing.proofs.Letters.{task_all}
use Rattle.listing.proofs.Placing.{rows}
use Rattle.listing.proofs.list_task.Goals as goal

pub table-requires : goal.table-requires
table-requires c = asked-long _ _ c.requires.asked

pub returns-in_default : goal.returns-in_default
unfolding kept_of placed
returns-in_default c = rw (told-unbound _ c.args.task (sym (rw c.table.ensures at c.seat_of.ensures) ∙ c.in_default.is))

pub list_task_queue-requires-clause-i_lt_nodes : goal.list_task_queue-requires-clause-i_lt_nodes
list_task_queue-requires-clause-i_lt_nodes c = told-seat _ (asked-table _ _ c.requires.asked) c.args.task _ _ (sym (rw c.table.ensures at c.seat_of.ensures) ∙ c.in-Some.is)

pub returns : goal.returns
returns c =
    let x = c.args in
    let b = told_at _ x.task _ _ (sym (rw c.table.ensures at c.seat_of.ensures) ∙ c.in-Some.is) in
    task_all x.s x.memory.now x.task (rows x.ranks.now x.out.now) _ _ _ b.0 b.1.0 b.1.1 c.list_task_queue.ensures
