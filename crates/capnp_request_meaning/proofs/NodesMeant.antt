-- The node and the brand of an entry.
use Rattle.std.proofs.Common.{ℕ, ◌+◌, ◌≡◌, ◌∙◌, ap, arith, refl, Bool, List, map, slice_get, Ok, Err}
use Rattle.capnp_schema.specs.Schema.{Annotation, Brand, Node}
use Rattle.capnp_schema.specs.Types.{SchemaType}
use Rattle.capnp_request.specs.Conversion.{Converted, Note, annotations_of, fields_of}
use Rattle.capnp_request.specs.Order.{all_fields, all_notes, firsts, seconds, struct_made}
use Rattle.capnp_request.specs.Terms.{FieldTerm, Said, SchemaNode, StructNode, StructPart}
use Rattle.capnp_request.specs.Work.{Bound, Entry, Named, Work, work_of, work_said, ◌>>=◌}
use Rattle.capnp_request_meaning.specs.Meaning.{AreFieldsFrom, IsAnnotationOf, IsSaidList, Numbers}
use Rattle.capnp_request_meaning.proofs.AnnotationsMeant.{annotations_meant}
use Rattle.capnp_request_meaning.proofs.EntriesKept.{KeepsWhole}
use Rattle.capnp_request_meaning.proofs.FieldsMeant.{AreMembersFrom, KeepsGroups, fields_meant}
use Rattle.capnp_request_meaning.proofs.TypesMeant.{numbers}
use Rattle.capnp_request_meaning.proofs.Works.{IsWork, bind, of_work, struct_bind}

-- what a struct is made of, and what is made
pub record IsMade (k : Numbers) (number id : ℕ) (bound : List Bound) (name : List ℕ) (node : SchemaNode) (n : Node) (b : Brand) : Type 0 where
  pub part : StructPart
  pub members : List (Said FieldTerm)
  pub struct : node.kind ≡ StructNode part
  pub listed : part.fields ≡ Ok members
  pub is_id : n.id ≡ id
  pub is_name : n.display_name ≡ name
  pub annotations : IsSaidList (IsAnnotationOf k bound) node.annotations n.annotations b.annotation_types.own
  pub data_words : n.data_word_count ≡ part.data_words
  pub pointers : n.pointer_count ≡ part.pointers
  pub group : n.is_group ≡ part.is_group
  pub discriminant_count : n.discriminant_count ≡ part.discriminant_count
  pub discriminant_offset : n.discriminant_offset ≡ part.discriminant_offset
  pub brand : b.node ≡ number
  pub fields : AreFieldsFrom k bound number 0 members n.fields b.field_types b.annotation_types.children

-- What is kept of the entries is kept where a group is added that a field of the node names.
abbrev pub KeepsFields : (List Entry → Type 0) → (bound : List Bound) → (number : ℕ) → SchemaNode → Type 0
KeepsFields K bound number node = (part : StructPart) (members : List (Said FieldTerm)) → node.kind ≡ StructNode part → part.fields ≡ Ok members → KeepsGroups K bound number members

module _ (K : List Entry → Type 0) (nodes : List SchemaNode) (whole : KeepsWhole K nodes) (strict : Bool) (number id : ℕ) (bound : List Bound) (name : List ℕ) (node : SchemaNode) where
  abbrev pub made_with : StructPart → List Converted → List (Annotation × SchemaType) → Node × Brand × List Note
  made_with part fields own = (
    record { id = id; display_name = name; annotations = firsts own; data_word_count = part.data_words; pointer_count = part.pointers; is_group = part.is_group; discriminant_count = part.discriminant_count; discriminant_offset = part.discriminant_offset; fields = map (λ (f : Converted). f.field) fields },
    record { node = number; field_types = map (λ (f : Converted). f.type) fields; annotation_types = record { own = seconds own; children = map (λ (f : Converted). f.annotation_types) fields } },
    all_notes fields,
  )

  abbrev pub with_own : StructPart → List Converted → List (Annotation × SchemaType) → Work (Node × Brand × List Note)
  with_own part fields own = work_of (made_with part fields own)

  abbrev pub with_fields : StructPart → List Converted → Work (Node × Brand × List Note)
  with_fields part fields = annotations_of nodes strict bound node.annotations >>= with_own part fields

  abbrev with_part : StructPart → Work (Node × Brand × List Note)
  with_part part = all_fields nodes strict bound number part.fields >>= with_fields part

  abbrev IsMadeLater : Node × Brand × List Note → Named → Type 0
  IsMadeLater made z = IsMade (numbers nodes strict z) number id bound name node made.0 made.1

  abbrev AreFieldsLater : List (Said FieldTerm) → List Converted → Named → Type 0
  AreFieldsLater members fields z = AreFieldsFrom (numbers nodes strict z) bound number 0 members (map (λ (f : Converted). f.field) fields) (map (λ (f : Converted). f.type) fields) (map (λ (f : Converted). f.annotation_types) fields)

  abbrev AreOwnLater : List (Annotation × SchemaType) → Named → Type 0
  AreOwnLater own z = IsSaidList (IsAnnotationOf (numbers nodes strict z) bound) node.annotations (firsts own) (seconds own)

  pub all_members : (members : List (Said FieldTerm)) → AreMembersFrom members 0 members
  all_members members j x h = let e : 0 + j ≡ j = omega arith in ap (λ i. slice_get members i) e ∙ h

  fields_then : (part : StructPart) (members : List (Said FieldTerm)) → node.kind ≡ StructNode part → part.fields ≡ Ok members → KeepsGroups K bound number members → IsWork K (fields_of nodes strict bound number 0 members >>= with_fields part) IsMadeLater
  fields_then part members struct listed groups =
      bind K (fields_of nodes strict bound number 0 members) (with_fields part) (AreFieldsLater members) IsMadeLater (fields_meant K nodes whole strict bound number members groups 0 members (all_members members))
      (λ fields. bind K (annotations_of nodes strict bound node.annotations) (with_own part fields) AreOwnLater (λ made z. AreFieldsLater members fields z → IsMadeLater made z) (annotations_meant K nodes whole strict bound node.annotations)
      (λ own. of_work K (made_with part fields own) (λ made z. AreOwnLater own z → AreFieldsLater members fields z → IsMadeLater made z) (λ z annotated meant. record {
        part = part;
        members = members;
        struct = struct;
        listed = listed;
        is_id = refl;
        is_name = refl;
        annotations = annotated;
        data_words = refl;
        pointers = refl;
        group = refl;
        discriminant_count = refl;
        discriminant_offset = refl;
        brand = refl;
        fields = meant;
      })))

  part_then : (part : StructPart) → node.kind ≡ StructNode part → KeepsFields K bound number node → (d : Said (List (Said FieldTerm))) → part.fields ≡ d → IsWork K ((work_said d >>= fields_of nodes strict bound number 0) >>= with_fields part) IsMadeLater
  part_then part struct keeps (Ok members) listed = fields_then part members struct listed (keeps part members struct listed)
  part_then part struct keeps (Err kind) listed = λ s. tt

  pub struct_meant : KeepsFields K bound number node → IsWork K (struct_made nodes strict number id bound name node) IsMadeLater
  struct_meant keeps = struct_bind K node.kind with_part IsMadeLater (λ part struct. part_then part struct keeps part.fields refl)
