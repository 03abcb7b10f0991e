-- `turn::turn_sound` meets its contract. Assumes nothing.
use mathlib.Core.Path.{refl}
use native.Mathlib.Omega.{arith}
use Rattle.turn.proofs.Outcomes.{sound-long, sound-turn, sound-stands, sound-turned}
use Rattle.turn.proofs.turn_sound.Goals as goal

pub settings_in-s-requires : goal.settings_in-s-requires
settings_in-s-requires c = omega (arith, sound-long c.args.memory.now c.requires)

pub bounds-memory-5 : goal.bounds-memory-5
bounds-memory-5 c = omega (arith, sound-long c.args.memory.now c.requires)

pub position_of-p-requires : goal.position_of-p-requires
position_of-p-requires c = record { nodes_at_in_bounds = sound-long c.args.memory.now c.requires; j_lt_nodes = sound-turn c.args.memory.now c.requires }

pub go-r-requires : goal.go-r-requires
go-r-requires c = sound-stands c.args.memory.now c.requires c.settings_in-s.ensures refl c.position_of-p.ensures

pub keep-requires : goal.keep-requires
keep-requires c = record { nodes_at_in_bounds = omega (arith, sound-long c.args.memory.now c.requires, c.go-r.auto.memory); j_lt_nodes = sound-turn c.args.memory.now c.requires }

pub returns : goal.returns
returns c = sound-turned c.args.memory.now c.requires c.settings_in-s.ensures refl c.position_of-p.ensures c.go-r.ensures c.keep.ensures c.answer_of.ensures
