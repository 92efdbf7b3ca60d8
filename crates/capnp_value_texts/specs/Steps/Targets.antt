-- What parts are of, as the definitions have it: steps of the code.
use Rattle.capnp_schema.specs.Entries.{lists_seen}
use Rattle.capnp_schema.specs.Schema.{Schemas}
use Rattle.capnp_schema.specs.StructHandles.{number_of, set_of}
use Rattle.capnp_schema.specs.Types.{seen_type}
use Rattle.capnp_value_texts.specs.Calls.{Holder, InList, InStruct}
use Rattle.capnp_value_texts.specs.declared.target.Holder.{Holder as HolderHeld}
use Rattle.capnp_value_texts.specs.declared.target.Holder.TheVariants as holder

abbrev pub holder_set : HolderHeld → Schemas
holder_set (holder.Struct schema) = set_of schema
holder_set (holder.List schemas element floats) = lists_seen schemas.now

abbrev pub holder_seen : HolderHeld → Holder
holder_seen (holder.Struct schema) = InStruct (number_of schema)
holder_seen (holder.List schemas element floats) = InList (seen_type element) floats
