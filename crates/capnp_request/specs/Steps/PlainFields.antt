-- Fields that are slots of a type that its member says, without annotations, and the lists that parts of fields are put to.
use Rattle.std.specs.Prelude.{ℕ, ◌≡◌, Bool, List, [], ◌∷◌, ◌++◌, map, Ok}
use Rattle.capnp_schema.specs.Schema.{Slot, Value}
use Rattle.capnp_schema.specs.Types.{SchemaType}
use Rattle.capnp_request.specs.Conversion.{Converted, field_of}
use Rattle.capnp_request.specs.Steps.ConvertedSeen.{seen_converted}
use Rattle.capnp_request.specs.Steps.Work.{Numbered, named_with}
use Rattle.capnp_request.specs.Terms.{FieldTerm, SchemaNode}
use Rattle.capnp_request.specs.Work.{Bound, nothing_seen}
use Rattle.capnp_request.specs.declared.field_lists.FieldLists.{FieldLists}
use Rattle.capnp_request.specs.declared.fields.ConvertedField.{ConvertedField}

-- such a field
abbrev pub plain_slot : (name : List ℕ) (discriminant offset : ℕ) → Value → SchemaType → Converted
plain_slot name discriminant offset default t = record {
  field = record { name = name; discriminant_value = discriminant; annotations = []; kind = Slot offset default };
  type = t;
  annotation_types = [];
  notes = [];
}

-- a field stands behind those that were put to the lists before
pub record IsPut (made : ConvertedField) (before after : FieldLists) : Type 0 where
  pub records : after.records.items ≡ before.records.items ++ made.record ∷ []
  pub types : after.types.items ≡ before.types.items ++ made.field_type ∷ []
  pub children : map (λ types. types.items) after.annotation_types.items ≡ map (λ types. types.items) before.annotation_types.items ++ made.annotation_types.items ∷ []

-- what a term stands for wherever it is met: it names nothing, and nothing is noted of it
pub record IsPlain (f : FieldTerm) (made : ConvertedField) : Type 0 where
  pub done : (nodes : List SchemaNode) (strict : Bool) (inside : List Bound) (n i : ℕ) (s : Numbered)
      → field_of nodes strict inside n i f (named_with s nothing_seen) ≡ Ok (seen_converted n i made, named_with s nothing_seen)
  pub notes : (n i : ℕ) → (seen_converted n i made).notes ≡ []
