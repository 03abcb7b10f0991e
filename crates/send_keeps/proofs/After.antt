-- A memory with one node's stretch put anew represents a machine with the same turn and positions: it is sound, and spells that machine. Assumes nothing.
use mathlib.Core.Path.{◌≡◌, sym, ap, ◌∙◌, subst}
use mathlib.Core.Bool.{true}
use mathlib.Core.List.{List}
use Prim.Native.Nat.{ℕ, ◌+◌, ◌*◌, ◌<◌}
use native.Mathlib.Omega.{arith}
use lib.ListN.{length, get_or}
use Rattle.settings.specs.declared.Settings.{Settings}
use Rattle.layout.specs.Places.{node_size, with_node}
use Rattle.tasks.specs.Table.{right_table}
use Rattle.sound.specs.Reading.{settings_in, table_in}
use Rattle.sound.specs.Sound.{sound}
use Rattle.machine.specs.Machine.{Letter, firsts, Node, Machine}
use Rattle.machine.specs.Spelled.{machine_of}
use Rattle.machine.specs.Core.{rows_of, Core}
use Rattle.machine.specs.Represents.{WellFormed, Flagged, RepresentsAt, Represents}
use Rattle.machine.proofs.Back.{represents_sound_at, same_turn, same_stage, same_other, same_free, same_letters}
use Rattle.moves.proofs.Memory.{with_long, with_word, with_settings, with_table}
use Rattle.machine.specs.Same.{Fixed, Stands}
use Rattle.moves.proofs.Formed.{with_nodes}

module _ (s : Settings) (memory : List ℕ) (m : Machine) (rep : RepresentsAt s memory m) (i : ℕ) (h : i < 6) (l : List ℕ) (long : length l ≡ node_size s) where
  abbrev new : List ℕ
  new = with_node s memory i l

  word : (k : ℕ) → k < 536 → get_or new k 0 ≡ get_or memory k 0
  word = with_word s memory rep.size i h l long

  pub represents_with : (N : ℕ → Node) → Core s (rows_of s (with_node s memory i l)) N → ((k : ℕ) → k < 6 → (N k).letters 0 ≡ (m.node k).letters 0)
      → Flagged (rows_of s (with_node s memory i l)) N → WellFormed (table_in memory) (with_nodes m N) → RepresentsAt s (with_node s memory i l) (with_nodes m N)
  represents_with N core hands flags formed =
      let t : table_in new ≡ table_in memory = with_table s memory rep.size i h l long in
      record {
        size = with_long s memory rep.size i h l long ∙ rep.size;
        table = subst (λ (x : List ℕ). right_table x ≡ true) (sym t) rep.table;
        core = core;
        shows =
            record {
              turn = word 5 (omega arith) ∙ rep.shows.turn;
              stage = λ j g. word (6 + j * 3) (omega arith) ∙ rep.shows.stage j g;
              other = λ j g. word (6 + j * 3 + 1) (omega arith) ∙ rep.shows.other j g;
              hand = λ j g. word (6 + j * 3 + 2) (omega arith) ∙ rep.shows.hand j g ∙ ap (λ (ls : List Letter). get_or (firsts ls) 0 0) (sym (hands j g));
              flags = flags;
            };
        formed = subst (λ (x : List ℕ). WellFormed x (with_nodes m N)) (sym t) formed;
      }

  module _ (own : settings_in memory ≡ s) (N : ℕ → Node) (e : RepresentsAt s (with_node s memory i l) (with_nodes m N)) where
    settings_new : settings_in new ≡ s
    settings_new = with_settings s memory rep.size i h l long ∙ own

    spells : Represents new (with_nodes m N)
    spells = subst (λ (x : Settings). RepresentsAt x new (with_nodes m N)) (sym settings_new) e

    pub new_sound : sound (with_node s memory i l) ≡ true
    new_sound = represents_sound_at s new (with_nodes m N) settings_new e

    pub new_fixed : Fixed memory (with_node s memory i l)
    new_fixed =
        record {
          size = with_long s memory rep.size i h l long;
          settings = with_settings s memory rep.size i h l long;
          table = with_table s memory rep.size i h l long;
        }

    pub new_stands : Stands m (machine_of (with_node s memory i l))
    new_stands =
        record {
          turn = same_turn new (with_nodes m N) spells;
          stage = same_stage new (with_nodes m N) spells;
          other = same_other new (with_nodes m N) spells;
        }

    pub new_free : (k : ℕ) → k < 6 → ((machine_of (with_node s memory i l)).node k).free ≡ (N k).free
    new_free = same_free new (with_nodes m N) spells

    pub new_letters : (k p : ℕ) → k < 6 → p < 78 → ((machine_of (with_node s memory i l)).node k).letters p ≡ (N k).letters p
    new_letters = same_letters new (with_nodes m N) spells
