-- Which entries a conversion makes, in which order, and the lists and notes that a request stands for.
use Rattle.std.specs.Prelude.{ℕ, zero, suc, ◌+◌, List, [], ◌∷◌, ◌++◌, Bool, true, false, not, ◌&&◌, drop, length, map, nat_lt, slice_get, Option, Some, None, Result, Ok, Err}
use Rattle.capnp_device.specs.declared.error.ErrorKind.{ErrorKind}
use Rattle.capnp_device.specs.declared.error.ErrorKind.TheVariants.{NodeNotFound, TooManyTypes}
use Rattle.capnp_schema.specs.Schema.{Annotation, Brand, Enum, Enumerant, Node, Schemas}
use Rattle.capnp_schema.specs.Types.{SchemaType}
use Rattle.capnp_request.specs.Conversion.{Converted, Note, annotations_of, fields_of, converted_name}
use Rattle.capnp_request.specs.Names.{Holder, dotted_of, enum_name, group_name, struct_name}
use Rattle.capnp_request.specs.Scopes.{is_met, node_named, scopes_of}
use Rattle.capnp_request.specs.Terms.{AnnotationNode, EnumNode, EnumerantTerm, FieldTerm, NodeKind, OtherNode, RequestTerm, Said, SchemaNode, StructNode, StructPart}
use Rattle.capnp_request.specs.Types.{is_root, number_struct}
use Rattle.capnp_request.specs.Work.{Bound, Entry, GroupOf, Named, Place, Whole, Work, each_read, work_of, nothing_seen, work_refused, work_said, ◌>>=◌}

-- what is made so far, the names of the enums that were named by types, and the dotted names that entries had
pub record Made : Type 0 where
  pub nodes : List Node
  pub brands : List Brand
  pub enums : List Enum
  pub notes : List Note
  pub enum_names : List (List ℕ)
  pub holders : List Holder

-- what an entry begins with: its name, who has a dotted name from then on, and its schema node
pub record Begun : Type 0 where
  pub enum_names : List (List ℕ)
  pub name : List ℕ
  pub holders : List Holder
  pub node : SchemaNode

abbrev pub firsts : List (Annotation × SchemaType) → List Annotation
firsts annotations = map (λ (p : Annotation × SchemaType). p.0) annotations

abbrev pub seconds : List (Annotation × SchemaType) → List SchemaType
seconds annotations = map (λ (p : Annotation × SchemaType). p.1) annotations

abbrev pub all_notes : List Converted → List Note
all_notes [] = []
all_notes (f ∷ fs) = f.notes ++ all_notes fs

-- work on a node that is there
abbrev pub at_node : {A : Type 0} → Option SchemaNode → (SchemaNode → Work A) → Work A
at_node (Some n) f = f n
at_node None f = work_refused NodeNotFound

abbrev pub node_there : Option SchemaNode → Said SchemaNode
node_there (Some n) = Ok n
node_there None = Err NodeNotFound

-- what is said, and then what is said of that
abbrev pub and_said : {A B : Type 0} → Said A → (A → Said B) → Said B
and_said (Ok a) f = f a
and_said (Err kind) f = Err kind

-- where a test holds, else a refusal
abbrev pub said_where : {A : Type 0} → Bool → ErrorKind → Said A → Said A
said_where true kind r = r
said_where false kind r = Err kind

abbrev pub at_struct : {A : Type 0} → NodeKind → (StructPart → Work A) → Work A
at_struct (StructNode part) f = f part
at_struct (EnumNode enumerants) f = work_refused NodeNotFound
at_struct (AnnotationNode t) f = work_refused NodeNotFound
at_struct OtherNode f = work_refused NodeNotFound

abbrev pub at_enum : {A : Type 0} → NodeKind → (Said (List (Said EnumerantTerm)) → Work A) → Work A
at_enum (EnumNode enumerants) f = f enumerants
at_enum (StructNode part) f = work_refused NodeNotFound
at_enum (AnnotationNode t) f = work_refused NodeNotFound
at_enum OtherNode f = work_refused NodeNotFound

abbrev pub is_node_there : Option SchemaNode → Bool
is_node_there None = false
is_node_there (Some n) = true

-- the ids among these that a node has and that weren't met, each once
abbrev pub new_ids : List SchemaNode → List ℕ → (met : List ℕ) → List ℕ
new_ids nodes [] met = []
new_ids nodes (id ∷ ids) met = elim (not (is_met met id) && is_node_there (node_named nodes id)) [ true ↦ id ∷ new_ids nodes ids (id ∷ met) | false ↦ new_ids nodes ids met ]

-- ---- names ----

module _ (nodes : List SchemaNode) where
  -- the name of an enum, and its schema node
  abbrev pub begin_enum : ℕ → Said (List ℕ × SchemaNode)
  begin_enum id = and_said (node_there (node_named nodes id)) (λ n. and_said n.display_name (λ display. and_said (enum_name display) (λ name. Ok (name, n))))

  -- the names of the enums of these ids, behind the names before them
  abbrev pub enum_names : List ℕ → (before : List (List ℕ)) → Said (List (List ℕ))
  enum_names [] before = Ok before
  enum_names (id ∷ ids) before = and_said (begin_enum id) (λ b. enum_names ids (before ++ b.0 ∷ []))

  -- the name of an entry among the structs that were made, and who has its dotted name from now on
  abbrev pub name_entry : List Node → (enums : List (List ℕ)) → List Holder → Entry → Place → Said (List ℕ × List Holder)
  name_entry made enums holders e Whole =
      and_said (node_there (node_named nodes e.node)) (λ n. and_said n.display_name (λ display.
      and_said (struct_name (map (λ (n : Node). n.display_name) made) enums holders e.node e.bound display)
      (λ name. Ok (name, record { id = e.node; dotted = dotted_of display } ∷ holders))))
  name_entry made enums holders e (GroupOf parent field) = and_said (group_name (slice_get made parent) field) (λ name. Ok (name, holders))

  -- An entry begins with its name, among the names of all enums that were named; numbers have 32 bits.
  abbrev pub begin_struct : Made → Entry → (enums : List ℕ) → Said Begun
  begin_struct m e enums =
      said_where (nat_lt (length m.nodes) 4294967296) TooManyTypes (and_said (enum_names (drop (length m.enum_names) enums) m.enum_names) (λ names.
      and_said (name_entry m.nodes names m.holders e e.place) (λ named.
      and_said (node_there (node_named nodes e.node)) (λ n. Ok (record { enum_names = names; name = named.0; holders = named.1; node = n })))))

module _ (nodes : List SchemaNode) (strict : Bool) where
  -- ---- structs ----

  abbrev pub all_fields : List Bound → (number : ℕ) → Said (List (Said FieldTerm)) → Work (List Converted)
  all_fields bound number fields = work_said fields >>= fields_of nodes strict bound number 0

  -- The node, the brand and the notes of an entry of this number, name and schema node, inside what is bound there: its
  -- fields by index, and then its own annotations.
  abbrev pub struct_made : (number id : ℕ) → List Bound → (name : List ℕ) → SchemaNode → Work (Node × Brand × List Note)
  struct_made number id bound name n =
      at_struct n.kind (λ part. all_fields bound number part.fields >>= (λ fields. annotations_of nodes strict bound n.annotations
      >>= (λ own. work_of (
        record { id = id; display_name = name; annotations = firsts own; data_word_count = part.data_words; pointer_count = part.pointers; is_group = part.is_group; discriminant_count = part.discriminant_count; discriminant_offset = part.discriminant_offset; fields = map (λ (f : Converted). f.field) fields },
        record { node = number; field_types = map (λ (f : Converted). f.type) fields; annotation_types = record { own = seconds own; children = map (λ (f : Converted). f.annotation_types) fields } },
        all_notes fields,
      ))))

  -- with one more entry
  abbrev pub with_struct : Made → Begun → Node × Brand × List Note → Made
  with_struct m b made = record {
    nodes = m.nodes ++ made.0 ∷ [];
    brands = m.brands ++ made.1 ∷ [];
    enums = m.enums;
    notes = m.notes ++ made.2;
    enum_names = b.enum_names;
    holders = b.holders;
  }

  -- the next entry, which begins so
  abbrev pub add_struct : Made → (id : ℕ) → List Bound → Begun → Work Made
  add_struct m id bound b = struct_made (length m.nodes) id bound b.name b.node >>= (λ made. work_of (with_struct m b made))

  abbrev pub make_struct : Made → Entry → Work Made
  make_struct m e s = (work_said (begin_struct nodes m e s.enums) >>= add_struct m e.node e.bound) s

  -- ---- enums ----

  abbrev pub enumerant_of : EnumerantTerm → Work (Enumerant × List SchemaType)
  enumerant_of x =
      work_said x.name >>= (λ bytes. work_said (converted_name bytes) >>= (λ name. annotations_of nodes strict [] x.annotations
      >>= (λ annotations. work_of (record { name = name; annotations = firsts annotations }, seconds annotations))))

  abbrev pub all_enumerants : Said (List (Said EnumerantTerm)) → Work (List (Enumerant × List SchemaType))
  all_enumerants enumerants = work_said enumerants >>= each_read enumerant_of

  -- an enum of this name and schema node: its enumerants, and then its own annotations; nothing is bound there
  abbrev pub enum_made : (id : ℕ) → (name : List ℕ) → SchemaNode → Work Enum
  enum_made id name n =
      at_enum n.kind (λ enumerants. all_enumerants enumerants >>= (λ children. annotations_of nodes strict [] n.annotations
      >>= (λ own. work_of (record {
        id = id;
        display_name = name;
        annotations = firsts own;
        enumerants = map (λ (c : Enumerant × List SchemaType). c.0) children;
        annotation_types = record { own = seconds own; children = map (λ (c : Enumerant × List SchemaType). c.1) children };
      }))))

  abbrev pub make_enum : Made → ℕ → Work Made
  make_enum m id = work_said (begin_enum nodes id) >>= (λ b. enum_made id b.0 b.1 >>= (λ e. work_of (record m { enums = m.enums ++ e ∷ [] })))

  -- ---- the order ----

  -- The next entry is made, where one isn't, and else the next enum; the work is done where all are made.
  abbrev pub make_next : (Made → Work Made) → Made → Option Entry → Option ℕ → Work Made
  make_next again m (Some e) enum = make_struct m e >>= again
  make_next again m None (Some id) = make_enum m id >>= again
  make_next again m None None = work_of m

  abbrev pub make_all : ℕ → Made → Work Made
  make_all zero m s = Err TooManyTypes
  make_all (suc steps) m s = make_next (make_all steps) m (slice_get s.entries (length m.nodes)) (slice_get s.enums (length m.enums)) s

  -- ---- the roots ----

  -- a struct that is no group is a root, with nothing bound
  abbrev pub name_root : (id : ℕ) → (is_root : Bool) → Work (List ℕ)
  name_root id true = work_said (scopes_of nodes id) >>= (λ bound. number_struct id bound >>= (λ number. work_of []))
  name_root id false = work_of []

  -- The nodes of a queue of ids, breadth first: what is nested in the first goes to the queue's end. There are at most as many
  -- as there are nodes.
  abbrev pub name_roots : ℕ → (met queue : List ℕ) → Work (List ℕ)
  name_roots zero met queue = work_of []
  name_roots (suc steps) met [] = work_of []
  name_roots (suc steps) met (id ∷ ids) =
      at_node (node_named nodes id) (λ n. work_said n.nested >>= (λ nested. name_root id (is_root n.kind)
      >>= (λ none. name_roots steps (new_ids nodes nested met ++ met) (ids ++ new_ids nodes nested met))))

-- ---- a whole request ----

abbrev pub nothing_made : Made
nothing_made = record { nodes = []; brands = []; enums = []; notes = []; enum_names = []; holders = [] }

abbrev pub nothing_named : Named
nothing_named = record { entries = []; enums = []; seen = nothing_seen }

-- the structs of the requested files
abbrev pub name_files : List SchemaNode → (strict : Bool) → Said (List ℕ) → Work (List ℕ)
name_files nodes strict files = work_said files >>= (λ ids. name_roots nodes strict (length nodes) (new_ids nodes ids []) (new_ids nodes ids []))

abbrev pub convert : RequestTerm → (strict : Bool) → Work Made
convert r strict = name_files r.nodes strict r.files >>= (λ none. make_all r.nodes strict (65536 + suc (length r.nodes)) nothing_made)

abbrev pub schemas_made : Made → Schemas
schemas_made m = record { nodes = m.nodes; brands = m.brands; enums = m.enums }

abbrev pub result_of : Result (Made × Named) ErrorKind → Said (Schemas × List Note)
result_of (Ok p) = Ok (schemas_made p.0, p.0.notes)
result_of (Err kind) = Err kind

-- the lists and notes that a request stands for, or a refusal whose cause stands in what is read of it
abbrev pub conversion_of : RequestTerm → (strict : Bool) → Said (Schemas × List Note)
conversion_of r strict = result_of (convert r strict nothing_named)
