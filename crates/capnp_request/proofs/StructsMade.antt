-- The parts of structs, as the definition sees them.
use Rattle.std.proofs.Common.{Vec, string_bytes, ℕ, ◌+◌, ◌≡◌, ◌∙◌, suc, arith, ap, refl, sym, append_assoc, Bool, false, List, [], ◌∷◌, ◌++◌, length, map, Ok, Err, Result}
use Rattle.std.proofs.lemmas.List.{append-nil, map-append}
use Rattle.capnp_base.specs.declared.introspect.«Type».{«Type» as TypeHandle}
use Rattle.capnp_device.specs.declared.error.ErrorKind.{ErrorKind}
use Rattle.std.specs.Global.{Global}
use Rattle.capnp_device.specs.declared.error.ErrorKind.TheVariants.{NodeNotFound}
use Rattle.capnp_records.specs.Record.{Record, Value}
use Rattle.capnp_request.specs.Steps.Seen.{list_seen}
use Rattle.capnp_request.specs.declared.handles.RequestList.{RequestList}
use Rattle.capnp_schema.specs.Schema.{Annotation, Brand, Field, Node, seen_annotation, seen_annotations, seen_brand, seen_field, seen_node}
use Rattle.capnp_schema.specs.Types.{SchemaType, seen_type}
use Rattle.capnp_schema.specs.declared.record.AnnotationRecord.{AnnotationRecord}
use Rattle.capnp_schema.specs.declared.record.BrandRecord.{BrandRecord}
use Rattle.capnp_schema.specs.declared.record.NodeRecord.{NodeRecord}
use Rattle.capnp_request.specs.Conversion.{Converted, Note, annotations_of, fields_of}
use Rattle.capnp_request.specs.Steps.ConvertedSeen.{seen_converted, typed_annotations}
use Rattle.capnp_request.specs.Order.{all_fields, all_notes, at_struct, firsts, seconds, struct_made}
use Rattle.capnp_request.specs.Steps.Handles.{values_left}
use Rattle.capnp_request.specs.Parts.{request_read_at}
use Rattle.capnp_request.specs.Reading.{annotation_terms_in, each_said, field_said, list_said, node_said, struct_said}
use Rattle.capnp_request.specs.Shapes.{IsBrandOf}
use Rattle.capnp_request.specs.StructsSeen.{seen_note, seen_notes}
use Rattle.capnp_request.specs.Steps.StructsSeen.{converted_child_types, field_records, field_types, seen_fields}
use Rattle.capnp_request.specs.Terms.{AnnotationNode, EnumNode, FieldTerm, NodeKind, OtherNode, Said, SchemaNode, StructNode, StructPart}
use Rattle.capnp_request.specs.Types.{is_struct_kind}
use Rattle.capnp_request.specs.Work.{Bound, Named, Work, work_of, work_said, ◌>>=◌, work_continued}
use Rattle.capnp_request.specs.declared.fields.ConvertedField.{ConvertedField}
use Rattle.capnp_request.specs.declared.notes.Note.{Note as NoteRecord}
use Rattle.capnp_request.proofs.ListsSaid.{said_all}
use Rattle.capnp_request.proofs.Works.{then_err, then_ok}

-- ---- annotations ----

pub first_annotations : (xs : List AnnotationRecord) (ts : List TypeHandle) → length ts ≡ length xs → firsts (typed_annotations xs ts) ≡ seen_annotations xs
first_annotations [] ts e = refl
first_annotations (a ∷ xs) [] e = absurd (omega (arith, e))
first_annotations (a ∷ xs) (t ∷ ts) e = ap (λ ys. seen_annotation a ∷ ys) (first_annotations xs ts (omega (arith, e)))

pub second_types : (xs : List AnnotationRecord) (ts : List TypeHandle) → length ts ≡ length xs → seconds (typed_annotations xs ts) ≡ map seen_type ts
second_types [] [] e = refl
second_types [] (t ∷ ts) e = absurd (omega (arith, e))
second_types (a ∷ xs) [] e = absurd (omega (arith, e))
second_types (a ∷ xs) (t ∷ ts) e = ap (λ ys. seen_type t ∷ ys) (second_types xs ts (omega (arith, e)))

-- ---- notes ----

-- one note after another
pub notes_more : (before after added : List NoteRecord) (new : List Note) → after ≡ before ++ added → seen_notes added ≡ new → seen_notes after ≡ seen_notes before ++ new
notes_more before after added new e is = ap seen_notes e ∙ (map-append seen_note before added ∙ ap (λ xs. seen_notes before ++ xs) is)

all_notes_append : (xs ys : List Converted) → all_notes (xs ++ ys) ≡ all_notes xs ++ all_notes ys
all_notes_append [] ys = refl
all_notes_append (x ∷ xs) ys = ap (λ ns. x.notes ++ ns) (all_notes_append xs ys) ∙ sym (append_assoc x.notes (all_notes xs) (all_notes ys))

pub notes_of_more : (xs : List Converted) (x : Converted) → all_notes (xs ++ x ∷ []) ≡ all_notes xs ++ x.notes
notes_of_more xs x = all_notes_append xs (x ∷ []) ∙ ap (λ ns. all_notes xs ++ ns) (append-nil x.notes)

-- ---- fields ----

pub fields_more : (n i : ℕ) (fs : List ConvertedField) (f : ConvertedField) (j : ℕ) → i + length fs ≡ j → seen_fields n i (fs ++ f ∷ []) ≡ seen_fields n i fs ++ seen_converted n j f ∷ []
fields_more n i [] f j e = let h : i ≡ j = omega (arith, e) in ap (λ k. seen_converted n k f ∷ []) h
fields_more n i (g ∷ fs) f j e = ap (λ xs. seen_converted n i g ∷ xs) (fields_more n (i + 1) fs f j (omega (arith, e)))

-- a part of one field more
pub more_parts : {A : Type 0} (part : ConvertedField → A) (xs : List A) (fs : List ConvertedField) (f : ConvertedField) → xs ≡ map part fs → xs ++ part f ∷ [] ≡ map part (fs ++ f ∷ [])
more_parts part xs fs f e = ap (λ ys. ys ++ part f ∷ []) e ∙ sym (map-append part fs (f ∷ []))

pub fields_seen : (n i : ℕ) (fs : List ConvertedField) → map (λ (c : Converted). c.field) (seen_fields n i fs) ≡ map seen_field (field_records fs)
fields_seen n i [] = refl
fields_seen n i (f ∷ fs) = ap (λ xs. seen_field f.record ∷ xs) (fields_seen n (i + 1) fs)

pub types_seen : (n i : ℕ) (fs : List ConvertedField) → map (λ (c : Converted). c.type) (seen_fields n i fs) ≡ map seen_type (field_types fs)
types_seen n i [] = refl
types_seen n i (f ∷ fs) = ap (λ xs. seen_type f.field_type ∷ xs) (types_seen n (i + 1) fs)

pub children_seen : (n i : ℕ) (fs : List ConvertedField) → map (λ (c : Converted). c.annotation_types) (seen_fields n i fs) ≡ map (λ types. map seen_type types) (converted_child_types fs)
children_seen n i [] = refl
children_seen n i (f ∷ fs) = ap (λ xs. map seen_type f.annotation_types.items ∷ xs) (children_seen n (i + 1) fs)

-- ---- a struct ----

pub fields_opened : (nodes : List SchemaNode) (strict : Bool) (bound : List Bound) (number : ℕ) (fields : Said (List (Said FieldTerm))) (terms : List (Said FieldTerm)) (s : Named) → fields ≡ Ok terms →
    all_fields nodes strict bound number fields s ≡ fields_of nodes strict bound number 0 terms s
fields_opened nodes strict bound number fields terms s e = ap (λ r. work_continued (fields_of nodes strict bound number 0) (work_said r s)) e

pub fields_unread : (nodes : List SchemaNode) (strict : Bool) (bound : List Bound) (number : ℕ) (fields : Said (List (Said FieldTerm))) (kind : ErrorKind) (s : Named) → fields ≡ Err kind →
    all_fields nodes strict bound number fields s ≡ Err kind
fields_unread nodes strict bound number fields kind s e = ap (λ r. work_continued (fields_of nodes strict bound number 0) (work_said r s)) e

-- what the struct part of a node says of its fields
pub fields_in : (part : Record) (v : Value) → v ≡ request_read_at 3 5 part → (struct_said part).fields ≡ list_said 8 field_said v
unfolding struct_said
fields_in part v e = ap (list_said 8 field_said) (sym e)

-- and where a list was read
pub listed_fields : (part : Record) (l : RequestList) → list_seen l ≡ request_read_at 3 5 part → (struct_said part).fields ≡ Ok (each_said 8 field_said (values_left l 0))
listed_fields part l e = fields_in part (list_seen l) e ∙ said_all l 8 field_said

-- the notes of one field more
pub notes_of_fields : (n i : ℕ) (fs : List ConvertedField) (f : ConvertedField) (all : List ConvertedField) (notes after : List NoteRecord) → seen_notes notes ≡ all_notes (seen_fields n 0 fs) → length fs ≡ i → all ≡ fs ++ f ∷ [] →
    seen_notes after ≡ seen_notes notes ++ (seen_converted n i f).notes → seen_notes after ≡ all_notes (seen_fields n 0 all)
notes_of_fields n i fs f all notes after e count more is =
    let at : 0 + length fs ≡ i = omega (arith, count) in
    is ∙ (ap (λ ns. ns ++ (seen_converted n i f).notes) e ∙ (sym (notes_of_more (seen_fields n 0 fs) (seen_converted n i f)) ∙ ap all_notes (sym (ap (seen_fields n 0) more ∙ fields_more n 0 fs f i at))))

pub annotations_on : (r : Record) → (node_said r).annotations ≡ annotation_terms_in (request_read_at 2 4 r)
unfolding node_said
annotations_on r = refl

no_struct : {A : Type 0} (kind : NodeKind) (f : StructPart → Work A) (s : Named) → is_struct_kind kind ≡ false → at_struct kind f s ≡ Err NodeNotFound
no_struct (StructNode part) f s e = cc
no_struct (EnumNode enumerants) f s e = refl
no_struct (AnnotationNode t) f s e = refl
no_struct OtherNode f s e = refl

module _ (nodes : List SchemaNode) (strict : Bool) (number id : ℕ) (bound : List Bound) (name : List ℕ) (n : SchemaNode) (s : Named) where
  abbrev node_made : StructPart → List Converted → List (Annotation × SchemaType) → Node
  node_made part fields own = record { id = id; display_name = name; annotations = firsts own; data_word_count = part.data_words; pointer_count = part.pointers; is_group = part.is_group; discriminant_count = part.discriminant_count; discriminant_offset = part.discriminant_offset; fields = map (λ (f : Converted). f.field) fields }

  abbrev brand_made : List Converted → List (Annotation × SchemaType) → Brand
  brand_made fields own = record { node = number; field_types = map (λ (f : Converted). f.type) fields; annotation_types = record { own = seconds own; children = map (λ (f : Converted). f.annotation_types) fields } }

  abbrev with_own : StructPart → List Converted → List (Annotation × SchemaType) → Work (Node × Brand × List Note)
  with_own part fields own = work_of (node_made part fields own, brand_made fields own, all_notes fields)

  abbrev with_fields : StructPart → List Converted → Work (Node × Brand × List Note)
  with_fields part fields = annotations_of nodes strict bound n.annotations >>= with_own part fields

  abbrev with_part : StructPart → Work (Node × Brand × List Note)
  with_part part = all_fields nodes strict bound number part.fields >>= with_fields part

  pub struct_missing : (kind : ErrorKind) → is_struct_kind n.kind ≡ false → kind ≡ NodeNotFound → struct_made nodes strict number id bound name n s ≡ Err kind
  struct_missing kind e k = no_struct n.kind with_part s e ∙ ap (λ (x : ErrorKind). Err x) (sym k)

  module _ (part : StructPart) (is : n.kind ≡ StructNode part) where
    opened : struct_made nodes strict number id bound name n s ≡ with_part part s
    opened = ap (λ k. at_struct k with_part s) is

    pub struct_fields_refused : (kind : ErrorKind) → all_fields nodes strict bound number part.fields s ≡ Err kind → struct_made nodes strict number id bound name n s ≡ Err kind
    struct_fields_refused kind e = opened ∙ then_err (all_fields nodes strict bound number part.fields) (with_fields part) s kind e

    module _ (fields : List Converted) (after : Named) (made : all_fields nodes strict bound number part.fields s ≡ Ok (fields, after)) where
      behind : struct_made nodes strict number id bound name n s ≡ with_fields part fields after
      behind = opened ∙ then_ok (all_fields nodes strict bound number part.fields) (with_fields part) s after fields made

      pub struct_annotations_refused : (kind : ErrorKind) → annotations_of nodes strict bound n.annotations after ≡ Err kind → struct_made nodes strict number id bound name n s ≡ Err kind
      struct_annotations_refused kind e = behind ∙ then_err (annotations_of nodes strict bound n.annotations) (with_own part fields) after kind e

      pub struct_given : (own : List (Annotation × SchemaType)) (last : Named) → annotations_of nodes strict bound n.annotations after ≡ Ok (own, last) →
          struct_made nodes strict number id bound name n s ≡ Ok ((node_made part fields own, brand_made fields own, all_notes fields), last)
      struct_given own last e = behind ∙ then_ok (annotations_of nodes strict bound n.annotations) (with_own part fields) after last own e

map_map : {A B C : Type 0} (f : B → C) (g : A → B) (xs : List A) → map (λ x. f (g x)) xs ≡ map f (map g xs)
map_map f g [] = refl
map_map f g (x ∷ xs) = ap (λ ys. f (g x) ∷ ys) (map_map f g xs)

-- the parts of a struct, as they are seen
pub children_of : (ts : List (Vec TypeHandle Global)) (types : List (List TypeHandle)) → map (λ (v : Vec TypeHandle Global). v.items) ts ≡ types → map (λ (v : Vec TypeHandle Global). map seen_type v.items) ts ≡ map (λ (xs : List TypeHandle). map seen_type xs) types
children_of ts types e = map_map (λ (xs : List TypeHandle). map seen_type xs) (λ (v : Vec TypeHandle Global). v.items) ts ∙ ap (map (λ (xs : List TypeHandle). map seen_type xs)) e

-- a node by its parts
abbrev node_by : ℕ → List ℕ → List Annotation → ℕ → ℕ → Bool → ℕ → ℕ → List Field → Node
node_by id name own words pointers group count offset fields = record { id = id; display_name = name; annotations = own; data_word_count = words; pointer_count = pointers; is_group = group; discriminant_count = count; discriminant_offset = offset; fields = fields }

-- each part of a node is that of a record, as it is seen
pub record HasPartsOf (r : NodeRecord) (n : Node) : Type 0 where
  -- what the node is called, and the annotations on it
  pub id : n.id ≡ r.id
  pub display_name : n.display_name ≡ string_bytes r.display_name
  pub annotations : n.annotations ≡ seen_annotations r.annotations.items
  -- the sections of its structs
  pub data_word_count : n.data_word_count ≡ r.body.data_word_count
  pub pointer_count : n.pointer_count ≡ r.body.pointer_count
  pub is_group : n.is_group ≡ r.body.is_group
  -- its union and its fields
  pub discriminant_count : n.discriminant_count ≡ r.body.discriminant_count
  pub discriminant_offset : n.discriminant_offset ≡ r.body.discriminant_offset
  pub fields : n.fields ≡ map seen_field r.body.fields.items

-- so it is the node that is seen in the record
pub node_seen : (r : NodeRecord) (n : Node) → HasPartsOf r n → n ≡ seen_node r
node_seen r n parts =
    let s : Node = seen_node r in
    ap (λ (x : ℕ). node_by x n.display_name n.annotations n.data_word_count n.pointer_count n.is_group n.discriminant_count n.discriminant_offset n.fields) parts.id
    ∙ (ap (λ (x : List ℕ). node_by s.id x n.annotations n.data_word_count n.pointer_count n.is_group n.discriminant_count n.discriminant_offset n.fields) parts.display_name
    ∙ (ap (λ (x : List Annotation). node_by s.id s.display_name x n.data_word_count n.pointer_count n.is_group n.discriminant_count n.discriminant_offset n.fields) parts.annotations
    ∙ (ap (λ (x : ℕ). node_by s.id s.display_name s.annotations x n.pointer_count n.is_group n.discriminant_count n.discriminant_offset n.fields) parts.data_word_count
    ∙ (ap (λ (x : ℕ). node_by s.id s.display_name s.annotations s.data_word_count x n.is_group n.discriminant_count n.discriminant_offset n.fields) parts.pointer_count
    ∙ (ap (λ (x : Bool). node_by s.id s.display_name s.annotations s.data_word_count s.pointer_count x n.discriminant_count n.discriminant_offset n.fields) parts.is_group
    ∙ (ap (λ (x : ℕ). node_by s.id s.display_name s.annotations s.data_word_count s.pointer_count s.is_group x n.discriminant_offset n.fields) parts.discriminant_count
    ∙ (ap (λ (x : ℕ). node_by s.id s.display_name s.annotations s.data_word_count s.pointer_count s.is_group s.discriminant_count x n.fields) parts.discriminant_offset
    ∙ (ap (λ (x : List Field). node_by s.id s.display_name s.annotations s.data_word_count s.pointer_count s.is_group s.discriminant_count s.discriminant_offset x) parts.fields))))))))

-- a brand by its parts
abbrev brand_by : ℕ → List SchemaType → List SchemaType → List (List SchemaType) → Brand
brand_by number types own children = record { node = number; field_types = types; annotation_types = record { own = own; children = children } }

pub brand_seen : (b : BrandRecord) (number : ℕ) (types : List SchemaType) (own : List SchemaType) (children : List (List SchemaType)) → number ≡ b.node → types ≡ map seen_type b.field_types.items → own ≡ map seen_type b.annotation_types.own.items → children ≡ map (λ (v : Vec TypeHandle Global). map seen_type v.items) b.annotation_types.children.items
    → brand_by number types own children ≡ seen_brand b
brand_seen b number types own children e0 e1 e2 e3 =
    ap (λ (x : ℕ). brand_by x types own children) e0
    ∙ (ap (λ (x : List SchemaType). brand_by (b.node) x own children) e1
    ∙ (ap (λ (x : List SchemaType). brand_by (b.node) (map seen_type b.field_types.items) x children) e2
    ∙ (ap (λ (x : List (List SchemaType)). brand_by (b.node) (map seen_type b.field_types.items) (map seen_type b.annotation_types.own.items) x) e3)))

counted : {A B : Type 0} (f : A → B) (xs : List A) → length (map f xs) ≡ length xs
counted f [] = refl
counted f (x ∷ xs) = ap suc (counted f xs)

-- as many types, and lists of them, as fields
pub brand_counted : (n : NodeRecord) (b : BrandRecord) (i : ℕ) (fs : List ConvertedField) → b.node ≡ i → b.field_types.items ≡ field_types fs → n.body.fields.items ≡ field_records fs → length b.annotation_types.own.items ≡ length n.annotations.items
    → map (λ (v : Vec TypeHandle Global). v.items) b.annotation_types.children.items ≡ converted_child_types fs → IsBrandOf i n b
brand_counted n b i fs number types records own children = record {
  number = number;
  fields = ap length types ∙ (counted (λ (f : ConvertedField). f.field_type) fs ∙ all);
  own = own;
  children = sym (counted (λ (v : Vec TypeHandle Global). v.items) b.annotation_types.children.items) ∙ (ap length children ∙ (counted (λ (f : ConvertedField). f.annotation_types.items) fs ∙ all));
}
  where
    all : length fs ≡ length n.body.fields.items
    all = sym (counted (λ (f : ConvertedField). f.record) fs) ∙ ap length (sym records)

pub three_seen : (n u : Node) (b v : Brand) (t w : List Note) (s : Named) → n ≡ u → b ≡ v → t ≡ w → ◌≡◌ {A = Result ((Node × Brand × List Note) × Named) ErrorKind} (Ok ((n, b, t), s)) (Ok ((u, v, w), s))
three_seen n u b v t w s p q r = ap (λ (x : Node). Ok ((x, b, t), s)) p ∙ (ap (λ (x : Brand). Ok ((u, x, t), s)) q ∙ ap (λ (x : List Note). Ok ((u, v, x), s)) r)
