-- The work on a field that is a slot of a type that its member says, without annotations.
use Rattle.std.proofs.Common.{ℕ, ◌≡◌, ◌∙◌, ap, pos, refl, sym, Bool, false, ◌&&◌, List, [], Some, Ok}
use Rattle.capnp_schema.specs.Schema.{Slot, Value}
use Rattle.capnp_schema.specs.Types.{SchemaType}
use Rattle.capnp_records.specs.Part.{which_of}
use Rattle.capnp_records.specs.Record as value
use Rattle.capnp_records.specs.Record.{Record}
use Rattle.capnp_request.specs.Conversion.{annotations_of, converted_name, field_of, is_untyped, is_untyped_default, kind_of}
use Rattle.capnp_request.specs.Parts.{request_read_at}
use Rattle.capnp_request.specs.Reading.{annotation_terms_in, field_said, type_levels, type_said, value_said}
use Rattle.capnp_request.specs.Steps.PlainFields.{plain_slot}
use Rattle.capnp_request.specs.Steps.Work.{Numbered, named_with}
use Rattle.capnp_request.specs.Terms.{MemberTerm, SchemaNode}
use Rattle.capnp_request.specs.Types.{type_of}
use Rattle.capnp_request.specs.Values.{value_stated}
use Rattle.capnp_request.specs.Work.{Bound, nothing_seen, plain}
use Rattle.capnp_request.proofs.FieldsDone.{field_done, is_slot, slot_done}

-- what was read of such a slot
pub record IsReadSlot (r : Record) (offset : ℕ) (default : Value) (t : SchemaType) : Type 0 where
  pub active : which_of r ≡ Some 3
  pub slot : Record
  pub there : value.Struct slot ≡ request_read_at 8 3 r
  pub number : value.Number (pos offset) ≡ request_read_at 9 0 slot
  -- its type
  pub term : Record
  pub typed : value.Struct term ≡ request_read_at 9 1 slot
  pub said : type_said type_levels term ≡ MemberTerm t
  pub not_untyped : is_untyped t ≡ false
  -- its default
  pub stored : Record
  pub valued : value.Struct stored ≡ request_read_at 9 2 slot
  pub stated : value_stated (value_said stored) ≡ Ok default

-- and of the field that it is
pub record IsReadField (r : Record) (name : List ℕ) (discriminant : ℕ) : Type 0 where
  pub bytes : List ℕ
  pub text : value.Text bytes ≡ request_read_at 8 0 r
  pub named : converted_name bytes ≡ Ok name
  pub number : value.Number (pos discriminant) ≡ request_read_at 8 2 r
  pub none : annotation_terms_in (request_read_at 8 1 r) ≡ Ok []

module _ (nodes : List SchemaNode) (strict : Bool) (inside : List Bound) (n i : ℕ) (r : Record) (offset : ℕ) (default : Value) (t : SchemaType) (slot : IsReadSlot r offset default t) (s : Numbered) where
  plain_kind : kind_of nodes strict inside n i (field_said r).kind (named_with s nothing_seen) ≡ Ok ((Slot offset default, plain t, []), named_with s nothing_seen)
  plain_kind =
      ap (λ k. kind_of nodes strict inside n i k (named_with s nothing_seen)) (is_slot nodes strict inside n i r (named_with s nothing_seen) 3 slot.active refl)
      ∙ slot_done nodes strict inside n i (request_read_at 8 3 r) slot.slot offset slot.there slot.number s slot.term slot.typed type_levels refl (plain t) s nothing_seen
      (ap (λ k. type_of nodes strict inside k (named_with s nothing_seen)) slot.said) slot.stored slot.valued default false slot.stated
      (ap (λ b. b && is_untyped_default (value_said slot.stored)) (sym slot.not_untyped))

  pub plain_done : (name : List ℕ) (discriminant : ℕ) → IsReadField r name discriminant → field_of nodes strict inside n i (field_said r) (named_with s nothing_seen) ≡ Ok (plain_slot name discriminant offset default t, named_with s nothing_seen)
  plain_done name discriminant field =
      field_done nodes strict inside n i r (named_with s nothing_seen) field.bytes field.text name field.named discriminant field.number (Slot offset default, plain t, []) (named_with s nothing_seen) plain_kind [] (named_with s nothing_seen)
      (ap (λ x. annotations_of nodes strict inside x (named_with s nothing_seen)) field.none)
