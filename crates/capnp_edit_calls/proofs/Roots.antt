-- The root that a run without calls leaves.
use Rattle.std.proofs.Common.{ℕ, ◌≡◌, List, [], ◌∷◌, sym, subst}
use Rattle.capnp_wire.specs.Edits.{struct_in}
use Rattle.capnp_wire.specs.Facts.Lengths.{HasAtLeast_zero_struct}
use Rattle.capnp_wire.specs.Tree.{StructTree, Tree}
use Rattle.capnp_wire.specs.declared.pointer_reader.PointerReader.{PointerReader}
use Rattle.capnp_wire.specs.Standing.{tree_of}
use Rattle.capnp_schema.specs.Plan.{brand_size}
use Rattle.capnp_schema.specs.Schema.{Schemas}
use Rattle.capnp_schema.specs.StructHandles.{number_of, set_of}
use Rattle.capnp_schema.specs.declared.schema.structs.StructSchema.{StructSchema}
use Rattle.capnp_records.specs.Facts.Extension.{fits_extended}
use Rattle.capnp_records.specs.Record.{Record}
use Rattle.capnp_slots.specs.Standing.{IsUnder}
use Rattle.capnp_call.specs.Messages.{IsRoot, LeavesRun, copied_root, new_root}
use Rattle.capnp_call.specs.Runs.{MakesCalls}
use Rattle.capnp_call.specs.declared.calls.Reply.{Reply}
use Rattle.capnp_call.proofs.Starts.{is_struct_root}

nothing_made : (set : Schemas) (b : ℕ) (start now : StructTree) (replies : List Reply) → MakesCalls set b start [] replies now → now ≡ start
unfolding MakesCalls
nothing_made set b start now [] h = h
nothing_made set b start now (r ∷ replies) h = absurd h

pub start_is : (schema : StructSchema) (start : StructTree) (replies : List Reply) (t : Tree) → MakesCalls (set_of schema) (number_of schema) start [] replies (struct_in t) → struct_in t ≡ start
start_is schema start replies t made = nothing_made (set_of schema) (number_of schema) start (struct_in t) replies made

pub root_is : (schema : StructSchema) (start : StructTree) (r : Record) (replies : List Reply) (t : Tree) → IsUnder schema start → LeavesRun schema r [] replies t → MakesCalls (set_of schema) (number_of schema) start [] replies (struct_in t) → IsRoot schema t
root_is schema start r replies t room left made = record {
  here = is_struct_root _ _ left.root;
  room = subst (IsUnder schema) (sym (start_is schema start replies t made)) room;
  formed = left.formed;
}

pub new_room : (schema : StructSchema) → IsUnder schema (new_root schema)
new_room schema = HasAtLeast_zero_struct (brand_size (set_of schema) (number_of schema))

pub copied_room : (schema : StructSchema) (source : PointerReader) → IsUnder schema (copied_root schema source)
copied_room schema source = fits_extended (set_of schema) (number_of schema) (struct_in (tree_of source))
