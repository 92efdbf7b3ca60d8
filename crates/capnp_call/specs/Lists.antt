-- Lists along a path: what the code knows of one, and what a call does from it on.
use Rattle.std.specs.Prelude.{◌≡◌, false, true}
use Rattle.capnp_wire.specs.Elements.{reads_list}
use Rattle.capnp_wire.specs.Reading.{is_null_tree}
use Rattle.capnp_wire.specs.Tree.{Tree}
use Rattle.capnp_wire.specs.WellFormed.{IsWellFormed}
use Rattle.capnp_schema.specs.Schema.{Schemas}
use Rattle.capnp_schema.specs.Types.{ListType, SchemaType, element_size}
use Rattle.capnp_records.specs.Writes.Stand.{ListSound, OnList}
use Rattle.capnp_call.specs.Seen.{reply_seen}
use Rattle.capnp_call.specs.Walks.{EndsAt}
use Rattle.capnp_call.specs.declared.calls.Reply.{Reply}
use Rattle.capnp_call.specs.declared.calls.Ending.{Ending}

-- a list as a step leaves it: a null, or of elements that are read as a type; structs have at least their schema's sections
pub record IsListStand (set : Schemas) (e : SchemaType) (x : Tree) : Type 0 where
  pub reads_it : is_null_tree x ≡ false → reads_list (element_size e) x ≡ true
  pub sound : ListSound set e x
  pub formed : IsWellFormed x

-- what is done where a path ends at a list
abbrev pub ListEnds : Schemas → SchemaType → Ending → Tree → Reply → Tree → Type 0
ListEnds set e end old reply new = EndsAt set end (ListType e) (OnList old) (reply_seen reply) (OnList new)
