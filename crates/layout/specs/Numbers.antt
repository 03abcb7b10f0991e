-- Numbers of a letter and of a list record: 'Letters' and 'List'.
use Rattle.std.specs.Prelude.{ℕ, ◌-◌}

-- 'Header, five words: source task, source node, destination task, destination node, length'
abbrev pub header_words : ℕ
header_words = 5

abbrev pub source_task_word : ℕ
source_task_word = 0

abbrev pub source_node_word : ℕ
source_node_word = 1

abbrev pub destination_task_word : ℕ
destination_task_word = 2

abbrev pub destination_node_word : ℕ
destination_node_word = 3

abbrev pub length_word : ℕ
length_word = 4

-- 'Length counts header and body in words, not links: 5 to 1,024, so a body has 0 to 1,019'
abbrev pub greatest_length : ℕ
greatest_length = 1024

abbrev pub greatest_body : ℕ
greatest_body = greatest_length - header_words

-- 'Six words each'
abbrev pub list_words : ℕ
list_words = 6
