-- The lists and notes that a request stands for.
use Rattle.std.specs.Prelude.{ℕ, ◌+◌, List, [], ◌∷◌, ◌++◌, Bool, true, false, not, ◌&&◌, map, Option, Some, None, Ok, Err}
use Rattle.std.specs.Str.{is_utf8}
use Rattle.capnp_device.specs.declared.error.ErrorKind.TheVariants.{NameNotUtf8, NodeNotFound}
use Rattle.capnp_wire.specs.Reading.{is_null_tree}
use Rattle.capnp_schema.specs.Schema.{Annotation, Field, FieldKind, Group, Slot, VoidValue}
use Rattle.capnp_schema.specs.Types.{SchemaType, AnyPointerType, StructType, VoidType}
use Rattle.capnp_request.specs.Scopes.{node_named}
use Rattle.capnp_request.specs.Terms.{AnnotationNode, AnnotationTerm, BrandTerm, EnumNode, FieldKindTerm, FieldTerm, GroupTerm, ListWords, NodeKind, OtherNode, Said, SchemaNode, SlotTerm, Stands, StructNode, StructWords, TypeTerm, UnreadField, UnreadValue, Untyped, ValueTerm}
use Rattle.capnp_request.specs.Types.{add_entry, is_struct_kind, named_scopes, type_of, where_node}
use Rattle.capnp_request.specs.Values.{value_stated}
use Rattle.capnp_request.specs.Work.{Bound, GroupOf, MarkedType, Seen, Work, each_read, plain, work_of, work_refused, work_said, seen_in, work_unnoted, ◌>>=◌}

-- ---- notes ----

pub data StandIn : Type 0 where
  Float32Note : StandIn
  Float64Note : StandIn
  InterfaceNote : StandIn
  UntypedDefaultNote : StandIn

pub record Note : Type 0 where
  pub entry : ℕ
  pub field : ℕ
  pub stand_in : StandIn

abbrev pub note_where : Bool → Note → List Note
note_where true n = n ∷ []
note_where false n = []

abbrev pub note_at : (entry field : ℕ) → StandIn → Note
note_at entry field stand_in = record { entry = entry; field = field; stand_in = stand_in }

-- at most one of each for a field, in this order
abbrev pub notes_of : (entry field : ℕ) → Seen → (untyped_default : Bool) → List Note
notes_of entry field seen untyped_default =
    note_where seen.float32 (note_at entry field Float32Note)
    ++ note_where seen.float64 (note_at entry field Float64Note)
    ++ note_where seen.interface (note_at entry field InterfaceNote)
    ++ note_where untyped_default (note_at entry field UntypedDefaultNote)

abbrev pub is_untyped : SchemaType → Bool
is_untyped AnyPointerType = true
is_untyped t = false

-- a default of an untyped pointer that isn't null
abbrev pub is_untyped_default : ValueTerm → Bool
is_untyped_default (Stands v) = false
is_untyped_default (StructWords t) = false
is_untyped_default (ListWords t) = false
is_untyped_default (Untyped t) = not (is_null_tree t)
is_untyped_default (UnreadValue kind) = false

-- a name as it stands
abbrev pub converted_name : List ℕ → Said (List ℕ)
converted_name bytes = elim (is_utf8 bytes) [ true ↦ Ok bytes | false ↦ Err NameNotUtf8 ]

-- a field with its type, the types of its annotations, and what is noted of it
pub record Converted : Type 0 where
  pub field : Field
  pub type : SchemaType
  pub annotation_types : List SchemaType
  pub notes : List Note

-- the type that an annotation node is declared with
abbrev pub kind_declared : NodeKind → Option TypeTerm
kind_declared (AnnotationNode t) = Some t
kind_declared (StructNode part) = None
kind_declared (EnumNode enumerants) = None
kind_declared OtherNode = None

abbrev pub declared_term : Option SchemaNode → Option TypeTerm
declared_term (Some n) = kind_declared n.kind
declared_term None = None

-- ---- marks ----

-- An annotation of a field that says that the numbers of the field are floats.
abbrev pub mark : Annotation
mark = record { id = 17442370646614463749; value = VoidValue }

-- the mark, with its type, of a field of floats
abbrev pub marks : (is_float : Bool) → List (Annotation × SchemaType)
marks true = (mark, VoidType) ∷ []
marks false = []

-- A field of a name and discriminant value, with its kind, type and notes, and annotations with their types. The mark stands
-- behind them.
abbrev pub converted_field : (name : List ℕ) → (discriminant : ℕ) → FieldKind × MarkedType × List Note → List (Annotation × SchemaType) → Converted
converted_field name discriminant kind annotations = record {
  field = record { name = name; discriminant_value = discriminant; annotations = map (λ (p : Annotation × SchemaType). p.0) (annotations ++ marks kind.1.is_float); kind = kind.0 };
  type = kind.1.type;
  annotation_types = map (λ (p : Annotation × SchemaType). p.1) (annotations ++ marks kind.1.is_float);
  notes = kind.2;
}

module _ (nodes : List SchemaNode) (strict : Bool) where
  -- ---- annotations ----

  -- the type of an annotation: that of its declaration, read inside what its brand binds there
  abbrev pub declared_in : Option TypeTerm → Work (List Bound) → Work MarkedType
  declared_in (Some t) bindings = bindings >>= (λ bound. type_of nodes strict bound t)
  declared_in None bindings = work_refused NodeNotFound

  abbrev pub declared_type : ℕ → List Bound → BrandTerm → Work MarkedType
  declared_type id inside brand =
      declared_in (declared_term (node_named nodes id)) (named_scopes nodes strict inside id brand)

  abbrev pub annotation_of : List Bound → AnnotationTerm → Work (Annotation × SchemaType)
  annotation_of inside a =
      work_said (value_stated a.value) >>= (λ v. work_unnoted (declared_type a.id inside a.brand) >>= (λ t. work_of (record { id = a.id; value = v }, t.type)))

  abbrev pub annotations_of : List Bound → Said (List (Said AnnotationTerm)) → Work (List (Annotation × SchemaType))
  annotations_of inside list = work_said list >>= each_read (annotation_of inside)

  -- ---- fields ----

  -- field i of entry n inside what is bound there: a slot with its type and default, or a group, an entry for itself
  abbrev pub kind_of : List Bound → (n i : ℕ) → FieldKindTerm → Work (FieldKind × MarkedType × List Note)
  kind_of inside n i (SlotTerm offset t default) =
      seen_in (type_of nodes strict inside t) >>= (λ typed. work_said (value_stated default)
      >>= (λ v. work_of (Slot offset v, typed.0, notes_of n i typed.1 (is_untyped typed.0.type && is_untyped_default default))))
  kind_of inside n i (GroupTerm id) =
      where_node is_struct_kind nodes id (add_entry (record { node = id; bound = inside; place = GroupOf n i })) >>= (λ number. work_of (Group number, plain (StructType number number), []))
  kind_of inside n i (UnreadField kind) = work_refused kind

  abbrev pub field_of : List Bound → (n i : ℕ) → FieldTerm → Work Converted
  field_of inside n i f =
      work_said f.name >>= (λ bytes. work_said (converted_name bytes) >>= (λ name. kind_of inside n i f.kind >>= (λ kind. annotations_of inside f.annotations
      >>= (λ annotations. work_of (converted_field name f.discriminant_value kind annotations)))))

  -- the fields of an entry, by index
  abbrev pub fields_of : List Bound → (n i : ℕ) → List (Said FieldTerm) → Work (List Converted)
  fields_of inside n i [] s = Ok ([], s)
  fields_of inside n i (f ∷ fs) s = ((work_said f >>= field_of inside n i) >>= (λ first. fields_of inside n (i + 1) fs >>= (λ rest. work_of (first ∷ rest)))) s
