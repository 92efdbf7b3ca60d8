-- A struct that a pointer leads to stands at its place.
use Rattle.std.proofs.Common.{ℕ, ◌≡◌, ap, subst}
use Rattle.capnp_wire.specs.Edits.{struct_in}
use Rattle.capnp_arena.specs.Facts.Laws.{struct_planted}
use Rattle.capnp_arena.specs.Facts.Structs.{tree_struct}
use Rattle.capnp_arena.specs.Forest.{Forest, tree}
use Rattle.capnp_arena.specs.Shape.{StructIn, shape_at}
use Rattle.capnp_schema.specs.StructHandles.{number_of, set_of}
use Rattle.capnp_records.specs.Writes.Slots.{Fits}
use Rattle.capnp_arena.specs.Segment.{segment}
use Rattle.capnp_arena.specs.declared.arena.Arena.{Arena}
use Rattle.capnp_arena.specs.declared.arena.Place.{Place}
use Rattle.capnp_schema.specs.declared.schema.structs.StructSchema.{StructSchema}
use Rattle.capnp_slots.specs.Standing.{IsStanding}

pub here_stands : (schema : StructSchema) (arena : Arena) (w : ℕ) (p : Place) → Forest (segment arena) w → shape_at (segment arena) w ≡ StructIn p.start p.data_words p.pointers →
    Fits (set_of schema) (number_of schema) (struct_in (tree (segment arena) w)) → IsStanding schema arena p
here_stands schema arena w p f place fits = record {
  planted = struct_planted (segment arena) w p.start p.data_words p.pointers f place;
  room = subst (Fits (set_of schema) (number_of schema)) (ap struct_in (tree_struct (segment arena) w p.start p.data_words p.pointers f place)) fits;
}
