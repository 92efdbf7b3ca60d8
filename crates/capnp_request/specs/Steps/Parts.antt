-- What is read of the parts of a request's record: steps of the code.
use Rattle.std.specs.Prelude.{ℕ}
use Rattle.capnp_schema.specs.Types.{SchemaType, ListType}
use Rattle.capnp_request.specs.Parts.{request_struct}

abbrev pub request_structs : ℕ → SchemaType
request_structs number = ListType (request_struct number)
