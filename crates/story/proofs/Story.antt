-- THE RUN, moment by moment: what the checker computes of it. Assumes nothing.
--     stops_at_3, stops_at_2, finishes     what the turns of node 1 answer
--     at_3, at_2, at_end     what was accepted and received, and the words that list writes
use mathlib.Core.Path.{◌≡◌, refl}
use mathlib.Core.List.{List, [], ◌∷◌}
use Prim.Native.Nat.{ℕ, zero, suc}
use lib.ListN.{replicate}
use Rattle.words.specs.Words.{every, more}
use Rattle.settings.specs.declared.Settings.{Settings}
use Rattle.settings.specs.Limits.{within}
use Rattle.settings.specs.Range.{in_range}
use Rattle.settings.specs.Made.{settings_of}
use Rattle.layout.specs.Places.{send_at, ack_at, task_at, blocks_at, block_at, node_size, node_at, memory_size}
use Rattle.tasks.specs.Table.{holds_none, is_bound, has_seat, share_seat, seated, apart, right_table}
use Rattle.blocks.specs.Chain.{needs, chain, after as after_links, list, text}
use Rattle.blocks.specs.Moves.{enough, taken_from, taken as blocks_taken, given_back}
use Rattle.letters.specs.Letter.{laid, onto, letter, copied}
use Rattle.queues.specs.Queue.{run}
use Rattle.queues.specs.Moves.{counted, added, appended, append_answer, dropped}
use Rattle.queues.specs.Items.{live, gap_flag}
use Rattle.gaps.specs.Close.{laid as gaps_laid, closed, cramped, roomy}
use Rattle.taking.specs.Find.{from, wanted, first_from}
use Rattle.taking.specs.Take.{cleared, first_out, out, flagged}
use Rattle.sound.specs.Reading.{stage_of, other_of, held_of}
use Rattle.sound.specs.Letters.{words_from}
use Rattle.setup.specs.Outcome.{set_up}
use Rattle.setup.specs.Fresh.{next_free, fresh_block, fresh_blocks, fresh_front, fresh_node, fresh_nodes, fresh_head, fresh_memory}
use Rattle.letters.specs.Made.{letter_of}
use Rattle.posting.specs.Post.{has_room, appended_to, full_of, put_in, posted}
use Rattle.send.specs.Outcome.{fits, goal_of, posted_in, delivered as send_delivered}
use Rattle.receive.specs.Take.{filled, in_vain, emptied, took_at, took}
use Rattle.receive.specs.Outcome.{collected as receive_collected}
use Rattle.postman.specs.Position.{standing, kept}
use Rattle.postman.specs.Round.{stage, and_then, into}
use Rattle.stages_keep.specs.Steps.{collected as collected_one, collected_all, collected_from, copied_in, queued, acknowledged, handed_on, delivered as delivered_on, carried, carried_all, carried_from, clears_first, resumed, gone}
use Rattle.std.specs.Prelude.{Ok}
use Rattle.postman.specs.declared.Stage.TheVariants.{Done, Stopped}
use Rattle.turn.specs.Outcome.{taken as turn_taken}
use Rattle.showing.specs.List.{handed_over, shown, from_task, from_send, waiting, from_nodes, of_task, of_tasks, listed, laid_out}
use Rattle.history.specs.Runs.{Sends, Receives, Turns, Past, after_call, after_all}
use Rattle.history.proofs.History.{set_up_kept}
use Rattle.story.specs.Run.{table, start, one, early, middle, late}
use Rattle.story.proofs.Going.{At, sends, receives, turns}

abbrev small : Settings
small = settings_of 8 4 3 2 2

-- ---- the memories, call by call
abbrev fresh : List ℕ
fresh = fresh_memory small table

abbrev sent : List ℕ → ℕ → ℕ → List ℕ
sent m to word = (send_delivered m 1 to (word ∷ [])).memory

abbrev turned : List ℕ → List ℕ
turned m = (turn_taken m).memory

abbrev m₁ : List ℕ
m₁ = sent fresh 2 7

abbrev m₂ : List ℕ
m₂ = sent m₁ 3 8

abbrev m₃ : List ℕ
m₃ = sent m₂ 2 9

abbrev m₄ : List ℕ
m₄ = turned m₃

abbrev m₅ : List ℕ
m₅ = turned m₄

abbrev m₆ : List ℕ
m₆ = sent m₅ 2 10

abbrev m₁₁ : List ℕ
m₁₁ = turned (turned (turned (turned (turned m₆))))

abbrev m₁₂ : List ℕ
m₁₂ = turned m₁₁

abbrev m₁₃ : List ℕ
m₁₃ = (receive_collected m₁₂ 2 0 (0 ∷ 0 ∷ [])).memory

abbrev m₁₈ : List ℕ
m₁₈ = turned (turned (turned (turned (turned m₁₃))))

abbrev m₁₉ : List ℕ
m₁₉ = turned m₁₈

-- ---- the turns of node 1: node, letters appended, blocks given back
pub stops_at_3 : (turn_taken m₄).answer ≡ Ok (record { node = 1; letters = 3; back = 0; how = Stopped 10 })
unfolding send_delivered goal_of posted_in posted has_room appended_to full_of put_in fits letter_of laid onto enough taken_from blocks_taken given_back needs chain list after_links text words_from letter copied counted appended append_answer added dropped closed cramped roomy gaps_laid live gap_flag run more is_bound holds_none node_at task_at send_at ack_at block_at blocks_at node_size memory_size next_free fresh_block fresh_blocks fresh_front fresh_node fresh_nodes fresh_head fresh_memory standing kept stage and_then into collected_one collected_all collected_from copied_in queued acknowledged handed_on delivered_on carried carried_all carried_from clears_first resumed gone turn_taken
stops_at_3 = refl

pub stops_at_2 : (turn_taken m₁₁).answer ≡ Ok (record { node = 1; letters = 0; back = 0; how = Stopped 6 })
unfolding send_delivered goal_of posted_in posted has_room appended_to full_of put_in fits letter_of laid onto enough taken_from blocks_taken given_back needs chain list after_links text words_from letter copied counted appended append_answer added dropped closed cramped roomy gaps_laid live gap_flag run more is_bound holds_none node_at task_at send_at ack_at block_at blocks_at node_size memory_size next_free fresh_block fresh_blocks fresh_front fresh_node fresh_nodes fresh_head fresh_memory standing kept stage and_then into collected_one collected_all collected_from copied_in queued acknowledged handed_on delivered_on carried carried_all carried_from clears_first resumed gone turn_taken
stops_at_2 = refl

pub finishes : (turn_taken m₁₈).answer ≡ Ok (record { node = 1; letters = 1; back = 0; how = Done })
unfolding send_delivered goal_of posted_in posted has_room appended_to full_of put_in fits letter_of laid onto enough taken_from blocks_taken given_back needs chain list after_links text words_from letter copied counted appended append_answer added dropped closed cramped roomy gaps_laid live gap_flag run more is_bound holds_none node_at task_at send_at ack_at block_at blocks_at node_size memory_size next_free fresh_block fresh_blocks fresh_front fresh_node fresh_nodes fresh_head fresh_memory standing kept stage and_then into collected_one collected_all collected_from copied_in queued acknowledged handed_on delivered_on carried carried_all carried_from clears_first resumed gone turn_taken receive_collected took took_at in_vain filled emptied cleared first_out out flagged wanted from first_from
finishes = refl

-- the position kept: stage, other node, held block
pub stage_3 : (stage_of m₅ 1 ≡ 3) × (other_of m₅ 1 ≡ 0) × (held_of m₅ 1 ≡ 0)
unfolding send_delivered goal_of posted_in posted has_room appended_to full_of put_in fits letter_of laid onto enough taken_from blocks_taken given_back needs chain list after_links text words_from letter copied counted appended append_answer added dropped closed cramped roomy gaps_laid live gap_flag run more is_bound holds_none node_at task_at send_at ack_at block_at blocks_at node_size memory_size next_free fresh_block fresh_blocks fresh_front fresh_node fresh_nodes fresh_head fresh_memory standing kept stage and_then into collected_one collected_all collected_from copied_in queued acknowledged handed_on delivered_on carried carried_all carried_from clears_first resumed gone turn_taken
stage_3 = (refl, refl, refl)

pub stage_2 : (stage_of m₁₂ 1 ≡ 2) × (other_of m₁₂ 1 ≡ 0) × (held_of m₁₂ 1 ≡ 4)
unfolding send_delivered goal_of posted_in posted has_room appended_to full_of put_in fits letter_of laid onto enough taken_from blocks_taken given_back needs chain list after_links text words_from letter copied counted appended append_answer added dropped closed cramped roomy gaps_laid live gap_flag run more is_bound holds_none node_at task_at send_at ack_at block_at blocks_at node_size memory_size next_free fresh_block fresh_blocks fresh_front fresh_node fresh_nodes fresh_head fresh_memory standing kept stage and_then into collected_one collected_all collected_from copied_in queued acknowledged handed_on delivered_on carried carried_all carried_from clears_first resumed gone turn_taken
stage_2 = (refl, refl, refl)

-- ---- the run itself comes to these memories
set_up_done : (set_up small table (replicate 3824 0)).answer ≡ Ok tt
unfolding set_up in_range within right_table holds_none is_bound has_seat share_seat seated apart every node_size memory_size
set_up_done = refl

set_up_memory : start.memory ≡ fresh
unfolding after_call set_up in_range within right_table holds_none is_bound has_seat share_seat seated apart every node_size memory_size
set_up_memory = refl

abbrev empty : Past
empty = record { memory = replicate 3824 0; accepted = []; received = [] }

at_0 : At start fresh [] []
unfolding after_call
at_0 = record { kept = set_up_kept small table empty set_up_done; memory = set_up_memory; taken_in = in_none; given_out = out_none }
  where
    in_none : start.accepted ≡ []
    in_none = rw set_up_done

    out_none : start.received ≡ []
    out_none = rw set_up_done

abbrev p₁ : Past
p₁ = after_call start (Sends 1 2 (7 ∷ []))

at_1 : At p₁ m₁ (one 2 7 ∷ []) []
unfolding send_delivered goal_of posted_in posted has_room appended_to full_of put_in fits letter_of laid onto enough taken_from blocks_taken given_back needs chain list after_links text words_from letter copied counted appended append_answer added dropped closed cramped roomy gaps_laid live gap_flag run more is_bound holds_none node_at task_at send_at ack_at block_at blocks_at node_size memory_size next_free fresh_block fresh_blocks fresh_front fresh_node fresh_nodes fresh_head fresh_memory standing kept stage and_then into collected_one collected_all collected_from copied_in queued acknowledged handed_on delivered_on carried carried_all carried_from clears_first resumed gone turn_taken
at_1 = sends start fresh [] [] at_0 1 2 (7 ∷ []) 1 refl refl refl refl

abbrev p₂ : Past
p₂ = after_call p₁ (Sends 1 3 (8 ∷ []))

at_2' : At p₂ m₂ (one 2 7 ∷ one 3 8 ∷ []) []
unfolding send_delivered goal_of posted_in posted has_room appended_to full_of put_in fits letter_of laid onto enough taken_from blocks_taken given_back needs chain list after_links text words_from letter copied counted appended append_answer added dropped closed cramped roomy gaps_laid live gap_flag run more is_bound holds_none node_at task_at send_at ack_at block_at blocks_at node_size memory_size next_free fresh_block fresh_blocks fresh_front fresh_node fresh_nodes fresh_head fresh_memory standing kept stage and_then into collected_one collected_all collected_from copied_in queued acknowledged handed_on delivered_on carried carried_all carried_from clears_first resumed gone turn_taken
at_2' = sends p₁ m₁ (one 2 7 ∷ []) [] at_1 1 3 (8 ∷ []) 1 refl refl refl refl

abbrev p₃ : Past
p₃ = after_call p₂ (Sends 1 2 (9 ∷ []))

at_3' : At p₃ m₃ (one 2 7 ∷ one 3 8 ∷ one 2 9 ∷ []) []
unfolding send_delivered goal_of posted_in posted has_room appended_to full_of put_in fits letter_of laid onto enough taken_from blocks_taken given_back needs chain list after_links text words_from letter copied counted appended append_answer added dropped closed cramped roomy gaps_laid live gap_flag run more is_bound holds_none node_at task_at send_at ack_at block_at blocks_at node_size memory_size next_free fresh_block fresh_blocks fresh_front fresh_node fresh_nodes fresh_head fresh_memory standing kept stage and_then into collected_one collected_all collected_from copied_in queued acknowledged handed_on delivered_on carried carried_all carried_from clears_first resumed gone turn_taken
at_3' = sends p₂ m₂ (one 2 7 ∷ one 3 8 ∷ []) [] at_2' 1 2 (9 ∷ []) 1 refl refl refl refl

abbrev three : List (List ℕ)
three = one 2 7 ∷ one 3 8 ∷ one 2 9 ∷ []

abbrev four : List (List ℕ)
four = one 2 7 ∷ one 3 8 ∷ one 2 9 ∷ one 2 10 ∷ []

-- THE STOP AT STAGE 3
pub at_3 : At (after_all start early) m₅ three []
unfolding after_all
at_3 = turns (after_call p₃ Turns) m₄ three [] (turns p₃ m₃ three [] at_3')

abbrev p₅ : Past
p₅ = after_all start early

abbrev p₆ : Past
p₆ = after_call p₅ (Sends 1 2 (10 ∷ []))

at_6 : At p₆ m₆ four []
unfolding send_delivered goal_of posted_in posted has_room appended_to full_of put_in fits letter_of laid onto enough taken_from blocks_taken given_back needs chain list after_links text words_from letter copied counted appended append_answer added dropped closed cramped roomy gaps_laid live gap_flag run more is_bound holds_none node_at task_at send_at ack_at block_at blocks_at node_size memory_size next_free fresh_block fresh_blocks fresh_front fresh_node fresh_nodes fresh_head fresh_memory standing kept stage and_then into collected_one collected_all collected_from copied_in queued acknowledged handed_on delivered_on carried carried_all carried_from clears_first resumed gone turn_taken
at_6 = sends p₅ m₅ three [] at_3 1 2 (10 ∷ []) 1 refl refl refl refl

-- so many turns
abbrev after : ℕ → Past → Past
after zero p = p
after (suc n) p = after_call (after n p) Turns

abbrev turned_by : ℕ → List ℕ → List ℕ
turned_by zero m = m
turned_by (suc n) m = turned (turned_by n m)

many : (n : ℕ) (p : Past) (o : List ℕ) (acc rec : List (List ℕ)) → At p o acc rec → At (after n p) (turned_by n o) acc rec
many zero p o acc rec at = at
many (suc n) p o acc rec at = turns (after n p) (turned_by n o) acc rec (many n p o acc rec at)

-- THE STOP AT STAGE 2
pub at_2 : At (after_all (after_all start early) middle) m₁₂ four []
unfolding after_all
at_2 = many 6 p₆ m₆ four [] at_6

abbrev p₁₂ : Past
p₁₂ = after_all (after_all start early) middle

at_13 : At (after_call p₁₂ (Receives 2 0 (0 ∷ 0 ∷ []))) m₁₃ four (one 2 7 ∷ [])
unfolding send_delivered goal_of posted_in posted has_room appended_to full_of put_in fits letter_of laid onto enough taken_from blocks_taken given_back needs chain list after_links text words_from letter copied counted appended append_answer added dropped closed cramped roomy gaps_laid live gap_flag run more is_bound holds_none node_at task_at send_at ack_at block_at blocks_at node_size memory_size next_free fresh_block fresh_blocks fresh_front fresh_node fresh_nodes fresh_head fresh_memory standing kept stage and_then into collected_one collected_all collected_from copied_in queued acknowledged handed_on delivered_on carried carried_all carried_from clears_first resumed gone turn_taken receive_collected took took_at in_vain filled emptied cleared first_out out flagged wanted from first_from
at_13 = receives p₁₂ m₁₂ four [] at_2 2 0 (0 ∷ 0 ∷ []) refl refl

-- THE END
pub at_end : At (after_all (after_all (after_all start early) middle) late) m₁₉ four (one 2 7 ∷ [])
unfolding after_all
at_end = many 6 (after_call p₁₂ (Receives 2 0 (0 ∷ 0 ∷ []))) m₁₃ four (one 2 7 ∷ []) at_13

-- ---- THE WORDS THAT LIST WRITES: destination, source, place, node, block, body length
-- at stage 3 the letter with body 9 is in the task queue, and left out of the send queue in which it still stands
pub lists_at_3 : laid_out (listed small m₅) ≡ 2 ∷ 1 ∷ 1 ∷ 1 ∷ 1 ∷ 1 ∷ 2 ∷ 1 ∷ 1 ∷ 1 ∷ 3 ∷ 1 ∷ 3 ∷ 1 ∷ 1 ∷ 1 ∷ 2 ∷ 1 ∷ []
unfolding send_delivered goal_of posted_in posted has_room appended_to full_of put_in fits letter_of laid onto enough taken_from blocks_taken given_back needs chain list after_links text words_from letter copied counted appended append_answer added dropped closed cramped roomy gaps_laid live gap_flag run more is_bound holds_none node_at task_at send_at ack_at block_at blocks_at node_size memory_size next_free fresh_block fresh_blocks fresh_front fresh_node fresh_nodes fresh_head fresh_memory standing kept stage and_then into collected_one collected_all collected_from copied_in queued acknowledged handed_on delivered_on carried carried_all carried_from clears_first resumed gone turn_taken handed_over shown from_task from_send waiting from_nodes of_task of_tasks laid_out
lists_at_3 = refl

-- at stage 2 the letter with body 10 is in node 0's send queue, and its held copy is not shown
pub lists_at_2 : laid_out (listed small m₁₂) ≡ 2 ∷ 1 ∷ 1 ∷ 1 ∷ 1 ∷ 1 ∷ 2 ∷ 1 ∷ 1 ∷ 1 ∷ 3 ∷ 1 ∷ 2 ∷ 1 ∷ 2 ∷ 0 ∷ 4 ∷ 1 ∷ 3 ∷ 1 ∷ 1 ∷ 1 ∷ 2 ∷ 1 ∷ []
unfolding send_delivered goal_of posted_in posted has_room appended_to full_of put_in fits letter_of laid onto enough taken_from blocks_taken given_back needs chain list after_links text words_from letter copied counted appended append_answer added dropped closed cramped roomy gaps_laid live gap_flag run more is_bound holds_none node_at task_at send_at ack_at block_at blocks_at node_size memory_size next_free fresh_block fresh_blocks fresh_front fresh_node fresh_nodes fresh_head fresh_memory standing kept stage and_then into collected_one collected_all collected_from copied_in queued acknowledged handed_on delivered_on carried carried_all carried_from clears_first resumed gone turn_taken handed_over shown from_task from_send waiting from_nodes of_task of_tasks laid_out
lists_at_2 = refl

-- at the end one letter is received, and two and one are on their way
pub lists_at_end : laid_out (listed small m₁₉) ≡ 2 ∷ 1 ∷ 1 ∷ 1 ∷ 3 ∷ 1 ∷ 2 ∷ 1 ∷ 1 ∷ 1 ∷ 4 ∷ 1 ∷ 3 ∷ 1 ∷ 1 ∷ 1 ∷ 2 ∷ 1 ∷ []
unfolding send_delivered goal_of posted_in posted has_room appended_to full_of put_in fits letter_of laid onto enough taken_from blocks_taken given_back needs chain list after_links text words_from letter copied counted appended append_answer added dropped closed cramped roomy gaps_laid live gap_flag run more is_bound holds_none node_at task_at send_at ack_at block_at blocks_at node_size memory_size next_free fresh_block fresh_blocks fresh_front fresh_node fresh_nodes fresh_head fresh_memory standing kept stage and_then into collected_one collected_all collected_from copied_in queued acknowledged handed_on delivered_on carried carried_all carried_from clears_first resumed gone turn_taken receive_collected took took_at in_vain filled emptied cleared first_out out flagged wanted from first_from handed_over shown from_task from_send waiting from_nodes of_task of_tasks laid_out
lists_at_end = refl
