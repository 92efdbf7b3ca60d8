-- What is written and told for the bytes of a stream.
use Rattle.std.specs.Prelude.{ℕ, ◌≡◌, ◌⊎◌, ◌<◌, ◌≤◌, List, Bool, length, take, Option, Ok, Err}
use Rattle.std.specs.Io.KnownBytes.{Appends}
use Rattle.capnp_device.specs.declared.error.Error.{Error}
use Rattle.capnp_device.specs.declared.error.ErrorKind.{ErrorKind}
use Rattle.capnp_device.specs.declared.error.ErrorKind.TheVariants.{SizePastFormat, UnknownKind}
use Rattle.capnp_wire.specs.Depth.{root_levels}
use Rattle.capnp_wire.specs.Stream.{message_tree_of}
use Rattle.capnp_wire.specs.Tree.{StructTree}
use Rattle.capnp_schema.specs.Accepted.{IsAccepted}
use Rattle.capnp_schema.specs.Broken.{IsRefusalOf}
use Rattle.capnp_request.specs.RequestSet.{request_set}
use Rattle.capnp_schema.specs.Schema.{Schemas, seen_schemas}
use Rattle.capnp_records.specs.Reading.{struct_record}
use Rattle.capnp_records.specs.Record.{Left, Record}
use Rattle.capnp_request.specs.Conversion.{Note}
use Rattle.capnp_request.specs.Order.{and_said, conversion_of}
use Rattle.capnp_request.specs.ProgressSeen.{seen_lists}
use Rattle.capnp_request.specs.Reading.{request_said}
use Rattle.capnp_request.specs.Refusals.{IsRefusal}
use Rattle.capnp_request.specs.Sizes.{lists_bytes}
use Rattle.capnp_request.specs.Terms.{Said}
use Rattle.capnp_request.specs.Within.{IsLargeConversion}
use Rattle.capnp_request.specs.declared.conversion.Converted.{Converted}
use Rattle.capnp_set_writer.specs.Limits.{HasFormless, IsPastFormat}
use Rattle.capnp_set_writer.specs.Message.{IsReadAsSet, set_message}
use Rattle.capnp_set_writer.specs.Writes.{IsWriteRefusal}
use Rattle.capnp_sets.specs.Message.{root_struct}
use Rattle.capnp_show_engine.specs.Command.{IsTold}
use Rattle.capnp_show_engine.specs.Show.{IsRead}
use Rattle.capnp_set_engine.specs.Notes.{note_lines}

-- the root of the first message in these bytes is read as this struct
abbrev pub IsRootRead : List ℕ → StructTree → Type 0
IsRootRead bytes root = root_struct (message_tree_of bytes) ≡ Ok root

-- the record that a request's root stands for, with the levels that are left below it
abbrev pub request_record : StructTree → Record
request_record root = struct_record request_set (Left root_levels) root 0

-- the lists and notes that a request with this root stands for, or a refusal whose cause stands in what is read of it
unfoldable pub conversion_from : (strict : Bool) → StructTree → Said (Schemas × List Note)
conversion_from strict root = and_said (request_said (request_record root)) (λ r. conversion_of r strict)

-- the lists of a conversion, as definitions see them
abbrev pub set_in : Converted → Schemas
set_in c = seen_schemas c.nodes.items c.brands.items c.enums.items

-- the lines of its notes
abbrev pub lines_in : Converted → List ℕ
lines_in c = note_lines (set_in c) c.notes.items

-- a message and lines are those of a conversion: its lists are accepted, and the message is theirs and is read as them
pub record IsConvertedMessage (c : Converted) (message lines : List ℕ) : Type 0 where
  pub accepted : IsAccepted (set_in c)
  pub written : message ≡ set_message (set_in c)
  pub read : IsReadAsSet (set_in c) message
  pub noted : lines ≡ lines_in c

-- a conversion is what the request in these bytes stands for
pub record IsConvertedFrom (strict : Bool) (bytes : List ℕ) (c : Converted) : Type 0 where
  pub root : StructTree
  pub request : IsRootRead bytes root
  pub converted : conversion_from strict root ≡ Ok (seen_lists c)

-- a message and lines are those of what the request in these bytes stands for
pub record IsSetOf (strict : Bool) (bytes message lines : List ℕ) : Type 0 where
  pub conversion : Converted
  pub request : IsConvertedFrom strict bytes conversion
  pub made : IsConvertedMessage conversion message lines

-- ---- refusals ----

-- no request is read: of a stream that is refused, of a root that is no struct, or of a request that stands for a refusal
abbrev pub IsRequestUnread : (strict : Bool) → List ℕ → ErrorKind → Type 0
IsRequestUnread strict bytes kind =
    (root_struct (message_tree_of bytes) ≡ Err kind) ⊎ ((root : StructTree) × IsRootRead bytes root × (conversion_from strict root ≡ Err kind) × IsRefusal strict kind)

-- an accepted set has no message: a value of it has no kind in the form, or a text or list is too long
pub record IsUnwritable (set : Schemas) (kind : ErrorKind) : Type 0 where
  pub accepted : IsAccepted set
  pub cause : IsWriteRefusal kind
  pub formless : kind ≡ UnknownKind → HasFormless set
  pub past : kind ≡ SizePastFormat → IsPastFormat set

-- no message is made of a conversion: its lists break a rule, or they are accepted and have none
abbrev pub IsUnwritten : Converted → Error → Type 0
IsUnwritten c e = IsRefusalOf (set_in c) e ⊎ IsUnwritable (set_in c) e.kind

-- no message is made of the request in these bytes
abbrev pub HasNoSet : (strict : Bool) → List ℕ → Error → Type 0
HasNoSet strict bytes e =
    IsRequestUnread strict bytes e.kind ⊎ ((c : Converted) × IsConvertedFrom strict bytes c × IsUnwritten c e)

-- ---- within so many bytes ----

-- the lists that the request in these bytes stands for have at most so many
pub record HasFewBytes (limit : ℕ) (strict : Bool) (bytes : List ℕ) : Type 0 where
  pub conversion : Converted
  pub request : IsConvertedFrom strict bytes conversion
  pub few : lists_bytes (set_in conversion) ≤ limit

-- those that the first steps of a conversion make have more, and so have all
unfoldable pub IsLargeFrom : (limit : ℕ) → (strict : Bool) → StructTree → Type 0
IsLargeFrom limit strict root = IsLargeConversion limit (request_said (request_record root)) strict

-- those that the first steps of the conversion of the request in these bytes make have more
pub record HasManyBytes (limit : ℕ) (strict : Bool) (bytes : List ℕ) : Type 0 where
  pub root : StructTree
  pub request : IsRootRead bytes root
  pub large : IsLargeFrom limit strict root

-- ---- what a conversion did to its source and sinks, by what was left before and after, what was written, and the counts of
-- failures ----

-- some bytes were read to the end, the message of their set was written and nothing else, and the lines of its notes were told
pub record IsWritten (strict : Bool) (left left' written written' told told' : Option (List ℕ)) (failures failures' : ℕ) : Type 0 where
  pub bytes : List ℕ
  pub read : IsRead bytes left left'
  pub message : List ℕ
  pub lines : List ℕ
  pub set : IsSetOf strict bytes message lines
  pub wrote : Appends written written' message
  pub notes : IsTold lines told told' failures failures'

-- some bytes were read to the end, of whose request no message is made
pub record IsRefused (strict : Bool) (e : Error) (left left' : Option (List ℕ)) : Type 0 where
  pub bytes : List ℕ
  pub read : IsRead bytes left left'
  pub none : HasNoSet strict bytes e

-- some bytes were read to the end, and a beginning of the message of their set, not the whole, was written
pub record IsCutShort (strict : Bool) (left left' written written' : Option (List ℕ)) : Type 0 where
  pub bytes : List ℕ
  pub read : IsRead bytes left left'
  pub message : List ℕ
  pub lines : List ℕ
  pub set : IsSetOf strict bytes message lines
  pub count : ℕ
  pub proper : count < length message
  pub wrote : Appends written written' (take count message)
