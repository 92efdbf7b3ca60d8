-- Worked rows of what notes tell.
use Rattle.std.proofs.Common.{ℕ, ◌≡◌, ◌∙◌, ◌⊎◌, ap, codes, inl, inr, refl, subst, sym, true, false, List, [], ◌∷◌, map, slice_get, Option, Some, None, Ok, Err}
use Rattle.std.specs.Str.{chars, is_utf8}
use lib.Utf8.{encode}
use Rattle.capnp_wire.specs.Tree.{Null, Tree, Voids}
use Rattle.capnp_schema.specs.Schema.{Brand, Node, Schemas, VoidValue}
use Rattle.capnp_schema.specs.Types.{AnyPointerType, TextType, UIntType}
use Rattle.capnp_request.specs.Conversion.{Float32Note, InterfaceNote, Note, UntypedDefaultNote, note_at}
use Rattle.capnp_request.specs.Order.{conversion_of}
use Rattle.capnp_request.specs.Scopes.{node_named}
use Rattle.capnp_request.specs.Terms.{AnnotationNode, Binds, EnumNode, FieldKindTerm, FieldTerm, Float32, GroupTerm, Interface, ListTerm, MemberTerm, MoreBindings, MoreScopes, NoBindings, NoScopes, NodeKind, OtherNode, Parameter, RequestTerm, Said, SchemaNode, SlotTerm, Stands, StructNode, StructTerm, TypeTerm, UnreadField, Untyped}
use Rattle.capnp_request_meaning.specs.Meaning.{StandsIn}
use Rattle.capnp_request_meaning.specs.Noted.{IsNoteOf}
use Rattle.capnp_request_meaning.proofs.ListsFound.{same_some}
use Rattle.capnp_request_meaning.proofs.Rows.{field, node, slot, struct_part}

abbrev untyped : List ℕ → Tree → FieldTerm
untyped name tree = field name 65535 (SlotTerm 1 (MemberTerm AnyPointerType) (Untyped tree))

abbrev noted_fields : List FieldTerm
noted_fields = slot (codes "f") 65535 0 (ListTerm Float32) ∷ slot (codes "n") 65535 0 (MemberTerm (UIntType 4)) ∷ untyped (codes "p") (Voids 0) ∷ untyped (codes "q") Null ∷ slot (codes "i") 65535 2 Interface ∷ []

abbrev noted_node : SchemaNode
noted_node = node 2 (codes "x.capnp:A") 1 [] (StructNode (struct_part false 0 noted_fields))

abbrev noted_request : RequestTerm
noted_request = record { nodes = node 1 (codes "x.capnp") 0 (2 ∷ []) OtherNode ∷ noted_node ∷ []; files = Ok (1 ∷ []) }

abbrev noted_struct : Node
noted_struct = record { id = 2; display_name = codes "A"; annotations = []; data_word_count = 1; pointer_count = 2; is_group = false; discriminant_count = 0; discriminant_offset = 3; fields = [] }

abbrev noted_brand : Brand
noted_brand = record { node = 0; field_types = UIntType 4 ∷ UIntType 4 ∷ AnyPointerType ∷ AnyPointerType ∷ AnyPointerType ∷ []; annotation_types = record { own = []; children = [] } }

abbrev notes_in : Said (Schemas × List Note) → Said (List Note)
notes_in (Ok p) = Ok p.1
notes_in (Err kind) = Err kind

-- a list of floats, a default that is left out, and an interface; neither a number nor a null
row_notes : notes_in (conversion_of noted_request false) ≡ Ok (note_at 0 0 Float32Note ∷ note_at 0 2 UntypedDefaultNote ∷ note_at 0 4 InterfaceNote ∷ [])
unfolding is_utf8 chars encode
row_notes = refl

abbrev IsRowNote : Note → Type 0
IsRowNote x = IsNoteOf noted_request false (noted_struct ∷ []) (noted_brand ∷ []) x

row_float : IsRowNote (note_at 0 0 Float32Note)
row_float = record {
  struct = noted_struct;
  brand = noted_brand;
  node = noted_node;
  part = struct_part false 0 noted_fields;
  field = slot (codes "f") 65535 0 (ListTerm Float32);
  offset = 0;
  type = ListTerm Float32;
  default = Stands VoidValue;
  stands = UIntType 4;
  numbered = refl;
  branded = refl;
  first = refl;
  is_struct = refl;
  read = record { list = map (λ (f : FieldTerm). Ok f) noted_fields; said = refl; there = refl };
  slot = refl;
  typed = refl;
  notable = (refl, inr refl);
}

-- a float that is bound to a parameter is noted where that is written
abbrev box_of : TypeTerm → TypeTerm
box_of t = StructTerm 4 (MoreScopes 4 (Binds (MoreBindings t NoBindings)) NoScopes)

abbrev boxed_request : RequestTerm
boxed_request = record {
  nodes =
      node 1 (codes "x.capnp") 0 (4 ∷ 5 ∷ []) OtherNode ∷ (record (node 4 (codes "x.capnp:Box") 1 [] (StructNode (struct_part false 0 (slot (codes "t") 65535 0 (Parameter 4 0) ∷ [])))) { parameters = Ok 1 })
      ∷ node 5 (codes "x.capnp:U") 1 [] (StructNode (struct_part false 0 (slot (codes "a") 65535 0 (box_of (MemberTerm TextType)) ∷ slot (codes "b") 65535 1 (box_of Float32) ∷ []))) ∷ [];
  files = Ok (1 ∷ []);
}

row_boxed : notes_in (conversion_of boxed_request false) ≡ Ok (note_at 1 1 Float32Note ∷ [])
unfolding is_utf8 chars encode
row_boxed = refl

row_boxed_stands : StandsIn boxed_request.nodes (box_of Float32) Float32
row_boxed_stands = inr (record { scope = 4; distance = 0; parameters = 1; types = [] } ∷ [], refl, inl (inl (refl, inl refl)))

-- ---- what isn't noted ----

abbrev list_in : Said (List (Said FieldTerm)) → List (Said FieldTerm)
list_in (Ok xs) = xs
list_in (Err kind) = []

abbrev kinds_in : NodeKind → List (Said FieldTerm)
kinds_in (StructNode part) = list_in part.fields
kinds_in (EnumNode members) = []
kinds_in (AnnotationNode t) = []
kinds_in OtherNode = []

abbrev fields_at : Option SchemaNode → List (Said FieldTerm)
fields_at (Some n) = kinds_in n.kind
fields_at None = []

abbrev type_of_kind : FieldKindTerm → TypeTerm
type_of_kind (SlotTerm offset t default) = t
type_of_kind (GroupTerm id) = Float32
type_of_kind (UnreadField kind) = Float32

abbrev type_at : Option (Said FieldTerm) → TypeTerm
type_at (Some (Ok f)) = type_of_kind f.kind
type_at (Some (Err kind)) = Float32
type_at None = Float32

-- the type of a field that is noted is that of the request
noted_type : (x : Note) (h : IsRowNote x) → x.entry ≡ 0 → type_at (slice_get (map (λ (f : FieldTerm). Ok f) noted_fields) x.field) ≡ h.type
noted_type x h first =
    let struct : noted_struct ≡ h.struct = same_some (ap (λ i. slice_get (noted_struct ∷ []) i) (sym first) ∙ h.numbered) in
    let found : fields_at (node_named noted_request.nodes h.struct.id) ≡ h.read.list = ap fields_at h.first ∙ (ap kinds_in h.is_struct ∙ ap list_in h.read.said) in
    let list : map (λ (f : FieldTerm). Ok f) noted_fields ≡ h.read.list = ap (λ (n : Node). fields_at (node_named noted_request.nodes n.id)) struct ∙ found in
    ap (λ xs. type_at (slice_get xs x.field)) list ∙ (ap type_at h.read.there ∙ ap type_of_kind h.slot)

-- a number has no note of a float
pub row_number : IsRowNote (note_at 0 1 Float32Note) → ⊥
row_number h =
    let type : MemberTerm (UIntType 4) ≡ h.type = noted_type (note_at 0 1 Float32Note) h refl in
    let e : Float32 ≡ MemberTerm (UIntType 4) = subst (λ t. StandsIn noted_request.nodes t Float32) (sym type) h.notable.1 in
    cc

-- nor has a list of floats one of an interface
row_other : IsRowNote (note_at 0 0 InterfaceNote) → ⊥
row_other h =
    let type : ListTerm Float32 ≡ h.type = noted_type (note_at 0 0 InterfaceNote) h refl in
    go (subst (λ t. StandsIn noted_request.nodes t Interface) (sym type) h.notable.1)
  where
    go : (Interface ≡ ListTerm Float32) ⊎ (Interface ≡ Float32) → ⊥
    go (inl e) = cc
    go (inr e) = cc

-- and under strict none of a float is there
row_strict : IsNoteOf noted_request true (noted_struct ∷ []) (noted_brand ∷ []) (note_at 0 0 Float32Note) → ⊥
row_strict h = let e : true ≡ false = h.notable.0 in cc
