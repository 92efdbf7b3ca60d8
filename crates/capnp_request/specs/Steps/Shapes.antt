-- Brands and the nodes that they are of: brand i is of node i, and has a type for each of its fields and annotations: steps of the code.
use Rattle.std.specs.Prelude.{ℕ, ◌≡◌, Bool, true, false, List, [], ◌∷◌}
use Rattle.capnp_schema.specs.declared.record.StructRecord.{StructRecord}
use Rattle.capnp_request.specs.Terms.{StructPart}
use Rattle.capnp_request.specs.declared.notes.Note.{Note}
use Rattle.capnp_request.specs.declared.notes.StandIn.{StandIn}

-- a note, and notes where something was seen
abbrev pub note : (entry field : ℕ) → StandIn → Note
note entry field stand_in = record { entry = entry; field = field; stand_in = stand_in }

abbrev pub noted_where : Bool → Note → List Note
noted_where true n = n ∷ []
noted_where false n = []

-- the sections, the group mark and the discriminant of a struct are those that the struct part of its node says
pub record HasParts (part : StructPart) (body : StructRecord) : Type 0 where
  pub data_words : part.data_words ≡ body.data_word_count
  pub pointers : part.pointers ≡ body.pointer_count
  pub group : part.is_group ≡ body.is_group
  pub discriminant_count : part.discriminant_count ≡ body.discriminant_count
  pub discriminant_offset : part.discriminant_offset ≡ body.discriminant_offset
