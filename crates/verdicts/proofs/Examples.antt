-- What the definition says of two small memories, and of them broken in each of the rules: the checker computes it. Assumes nothing.
use mathlib.Core.Path.{◌≡◌, refl}
use mathlib.Core.Bool.{true, false}
use Prim.Native.Nat.{◌+◌}
use lib.ListN.{set}
use Rattle.words.specs.Words.{every, all, alike}
use Rattle.settings.specs.Limits.{within}
use Rattle.settings.specs.Range.{in_range}
use Rattle.layout.specs.Places.{first_free_at, gap_word, turn_at, table_at, position_at, send_at, ack_at, task_at, blocks_at, block_at, node_size, node_at, memory_size}
use Rattle.tasks.specs.Table.{holds_none, is_bound, has_seat, share_seat, seated, apart, right_table}
use Rattle.blocks.specs.Chain.{needs, chain, after, list, text}
use Rattle.queues.specs.Queue.{run}
use Rattle.queues.specs.Items.{live, gap_flag}
use Rattle.setup.specs.Fresh.{next_free, fresh_block, fresh_blocks, fresh_front, fresh_node, fresh_nodes, fresh_head, fresh_memory}
use Rattle.sound.specs.Queues.{in_shape, sitter, right_send, right_ack, right_task, right_queues}
use Rattle.sound.specs.Letters.{ends_well, words_from, right_length, right_header, right_place, right_letter}
use Rattle.sound.specs.Positions.{names_other, holds_copy, right_position, held}
use Rattle.sound.specs.Blocks.{chains, begun, standing, visits, each_once, right_letters}
use Rattle.sound.specs.Sound.{right_size, sound}
use Rattle.verdicts.specs.Memories.{small, put, good, carried}

-- ---- sound
pub good-sound : sound (good) ≡ true
unfolding sound right_size in_range within right_table holds_none is_bound has_seat share_seat seated apart right_queues right_send right_ack right_task in_shape sitter right_position names_other holds_copy each_once right_letters right_letter right_length right_header right_place words_from visits standing begun chains held ends_well needs chain list after text live gap_flag every all alike run node_at task_at send_at ack_at block_at blocks_at node_size memory_size next_free fresh_block fresh_blocks fresh_front fresh_node fresh_nodes fresh_head fresh_memory
good-sound = refl

pub carried-sound : sound (carried) ≡ true
unfolding sound right_size in_range within right_table holds_none is_bound has_seat share_seat seated apart right_queues right_send right_ack right_task in_shape sitter right_position names_other holds_copy each_once right_letters right_letter right_length right_header right_place words_from visits standing begun chains held ends_well needs chain list after text live gap_flag every all alike run node_at task_at send_at ack_at block_at blocks_at node_size memory_size next_free fresh_block fresh_blocks fresh_front fresh_node fresh_nodes fresh_head fresh_memory
carried-sound = refl

-- ---- broken, a rule each
-- the first rule: 'turn at most 5'
pub turn_six : sound (set good turn_at 6) ≡ false
unfolding sound right_size in_range within right_table holds_none is_bound has_seat share_seat seated apart right_queues right_send right_ack right_task in_shape sitter right_position names_other holds_copy each_once right_letters right_letter right_length right_header right_place words_from visits standing begun chains held ends_well needs chain list after text live gap_flag every all alike run node_at task_at send_at ack_at block_at blocks_at node_size memory_size next_free fresh_block fresh_blocks fresh_front fresh_node fresh_nodes fresh_head fresh_memory
turn_six = refl

-- the second: task 4 sits where task 3 does
pub two_on_one-queue : sound (set (set good (table_at + 8) 3) (table_at + 9) 16) ≡ false
unfolding sound right_size in_range within right_table holds_none is_bound has_seat share_seat seated apart right_queues right_send right_ack right_task in_shape sitter right_position names_other holds_copy each_once right_letters right_letter right_length right_header right_place words_from visits standing begun chains held ends_well needs chain list after text live gap_flag every all alike run node_at task_at send_at ack_at block_at blocks_at node_size memory_size next_free fresh_block fresh_blocks fresh_front fresh_node fresh_nodes fresh_head fresh_memory
two_on_one-queue = refl

-- the third: 'the gap flag is 1 exactly when an item is 0'
pub flag-without-gap : sound (put 2 (task_at small 5 + gap_word) 1 good) ≡ false
unfolding sound right_size in_range within right_table holds_none is_bound has_seat share_seat seated apart right_queues right_send right_ack right_task in_shape sitter right_position names_other holds_copy each_once right_letters right_letter right_length right_header right_place words_from visits standing begun chains held ends_well needs chain list after text live gap_flag every all alike run node_at task_at send_at ack_at block_at blocks_at node_size memory_size next_free fresh_block fresh_blocks fresh_front fresh_node fresh_nodes fresh_head fresh_memory
flag-without-gap = refl

-- the fourth: 'name another node whose send queue to this one has an item'
pub names_empty_queue : sound (set (set good (position_at 3) 1) (position_at 3 + 1) 2) ≡ false
unfolding sound right_size in_range within right_table holds_none is_bound has_seat share_seat seated apart right_queues right_send right_ack right_task in_shape sitter right_position names_other holds_copy each_once right_letters right_letter right_length right_header right_place words_from visits standing begun chains held ends_well needs chain list after text live gap_flag every all alike run node_at task_at send_at ack_at block_at blocks_at node_size memory_size next_free fresh_block fresh_blocks fresh_front fresh_node fresh_nodes fresh_head fresh_memory
names_empty_queue = refl

-- the fourth: 'the letter in its chain equals the first letter of that queue, header and body'
pub other_body : sound (put 3 (block_at small 2 + 2) 98 carried) ≡ false
unfolding sound right_size in_range within right_table holds_none is_bound has_seat share_seat seated apart right_queues right_send right_ack right_task in_shape sitter right_position names_other holds_copy each_once right_letters right_letter right_length right_header right_place words_from visits standing begun chains held ends_well needs chain list after text live gap_flag every all alike run node_at task_at send_at ack_at block_at blocks_at node_size memory_size next_free fresh_block fresh_blocks fresh_front fresh_node fresh_nodes fresh_head fresh_memory
other_body = refl

-- the fifth: block 2 is free and in a letter
pub block_twice : sound (put 2 first_free_at 2 good) ≡ false
unfolding sound right_size in_range within right_table holds_none is_bound has_seat share_seat seated apart right_queues right_send right_ack right_task in_shape sitter right_position names_other holds_copy each_once right_letters right_letter right_length right_header right_place words_from visits standing begun chains held ends_well needs chain list after text live gap_flag every all alike run node_at task_at send_at ack_at block_at blocks_at node_size memory_size next_free fresh_block fresh_blocks fresh_front fresh_node fresh_nodes fresh_head fresh_memory
block_twice = refl

-- the fifth: block 3 is in no place
pub block_nowhere : sound (put 2 first_free_at 0 good) ≡ false
unfolding sound right_size in_range within right_table holds_none is_bound has_seat share_seat seated apart right_queues right_send right_ack right_task in_shape sitter right_position names_other holds_copy each_once right_letters right_letter right_length right_header right_place words_from visits standing begun chains held ends_well needs chain list after text live gap_flag every all alike run node_at task_at send_at ack_at block_at blocks_at node_size memory_size next_free fresh_block fresh_blocks fresh_front fresh_node fresh_nodes fresh_head fresh_memory
block_nowhere = refl

-- the sixth: 'a header of bound tasks on their nodes'
pub other-node : sound (put 2 (block_at small 1 + 1) 3 good) ≡ false
unfolding sound right_size in_range within right_table holds_none is_bound has_seat share_seat seated apart right_queues right_send right_ack right_task in_shape sitter right_position names_other holds_copy each_once right_letters right_letter right_length right_header right_place words_from visits standing begun chains held ends_well needs chain list after text live gap_flag every all alike run node_at task_at send_at ack_at block_at blocks_at node_size memory_size next_free fresh_block fresh_blocks fresh_front fresh_node fresh_nodes fresh_head fresh_memory
other-node = refl
