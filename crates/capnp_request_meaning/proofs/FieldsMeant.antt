-- The fields of an entry, one after another.
use Rattle.std.proofs.Common.{ℕ, suc, ◌+◌, ◌≡◌, ◌∙◌, ◌&&◌, ap, arith, refl, Bool, List, [], ◌∷◌, ◌++◌, map, slice_get, Some, Ok, Err, length, nat_lt, true, false}
use Rattle.std.proofs.lemmas.List.{append-nil, map-append}
use Rattle.std.specs.Str.{is_utf8}
use Rattle.capnp_device.specs.declared.error.ErrorKind.TheVariants.{NodeNotFound}
use Rattle.capnp_schema.specs.Schema.{Annotation, FieldKind, Group, Slot}
use Rattle.capnp_schema.specs.Types.{SchemaType, StructType}
use Rattle.capnp_request.specs.Conversion.{Converted, Note, annotations_of, converted_field, converted_name, field_of, fields_of, is_untyped, is_untyped_default, kind_of, marks, notes_of}
use Rattle.capnp_request.specs.Scopes.{node_named}
use Rattle.capnp_request.specs.Terms.{FieldKindTerm, FieldTerm, GroupTerm, Said, SchemaNode, SlotTerm, TypeTerm, UnreadField, ValueTerm}
use Rattle.capnp_request.specs.Types.{add_entry, is_of_kind, is_struct_kind, type_of, where_node}
use Rattle.capnp_request.specs.Values.{value_stated}
use Rattle.capnp_request.specs.Work.{Bound, Entry, GroupOf, MarkedType, Named, Seen, Work, plain, seen_in, work_of, work_said, ◌>>=◌}
use Rattle.capnp_request_meaning.specs.Meaning.{AreFieldsFrom, AreMarked, IsAnnotationOf, IsFieldOf, IsKindOf, IsSaidList, IsTypeOf}
use Rattle.capnp_request_meaning.proofs.AnnotationsMeant.{annotations_meant, named_as, text_taken}
use Rattle.capnp_request_meaning.proofs.EntriesKept.{KeepsWhole, entry_added}
use Rattle.capnp_request_meaning.proofs.TypesMeant.{numbers, type_meant}
use Rattle.capnp_request_meaning.proofs.Works.{Done, IsWork, bind, done_where, of_work, said_bind, seen_alone}

abbrev pub group_entry : ℕ → List Bound → (n i : ℕ) → Entry
group_entry id inside n i = record { node = id; bound = inside; place = GroupOf n i }

-- What is kept of the entries is kept where the group is added that field i of entry n names.
abbrev pub KeepsGroups : (List Entry → Type 0) → (inside : List Bound) → (n : ℕ) → List (Said FieldTerm) → Type 0
KeepsGroups K inside n members = (es : List Entry) (i id : ℕ) (f : FieldTerm) → nat_lt (length es) 65536 ≡ true → slice_get members i ≡ Some (Ok f) → f.kind ≡ GroupTerm id → K es → K (es ++ group_entry id inside n i ∷ [])

-- fields from i on, as they stand among all
abbrev pub AreMembersFrom : List (Said FieldTerm) → ℕ → List (Said FieldTerm) → Type 0
AreMembersFrom members i fs = (j : ℕ) (x : Said FieldTerm) → slice_get fs j ≡ Some x → slice_get members (i + j) ≡ Some x

pub first_member : (members : List (Said FieldTerm)) (i : ℕ) (x : Said FieldTerm) (fs : List (Said FieldTerm)) → AreMembersFrom members i (x ∷ fs) → slice_get members i ≡ Some x
first_member members i x fs h = let e : i ≡ i + 0 = omega arith in ap (λ k. slice_get members k) e ∙ h 0 x refl

pub other_members : (members : List (Said FieldTerm)) (i : ℕ) (x : Said FieldTerm) (fs : List (Said FieldTerm)) → AreMembersFrom members i (x ∷ fs) → AreMembersFrom members (i + 1) fs
other_members members i x fs h j y there = let e : (i + 1) + j ≡ i + suc j = omega arith in ap (λ k. slice_get members k) e ∙ h (suc j) y there

-- the mark stands behind the others
are_marked : (ps : List (Annotation × SchemaType)) (q : Bool) → AreMarked q (map (λ (p : Annotation × SchemaType). p.0) ps) (map (λ (p : Annotation × SchemaType). p.1) ps) (map (λ (p : Annotation × SchemaType). p.0) (ps ++ marks q)) (map (λ (p : Annotation × SchemaType). p.1) (ps ++ marks q))
are_marked ps true = (map-append (λ (p : Annotation × SchemaType). p.0) ps (marks true), map-append (λ (p : Annotation × SchemaType). p.1) ps (marks true))
are_marked ps false = (ap (map (λ (p : Annotation × SchemaType). p.0)) (append-nil ps), ap (map (λ (p : Annotation × SchemaType). p.1)) (append-nil ps))

module _ (K : List Entry → Type 0) (nodes : List SchemaNode) (whole : KeepsWhole K nodes) (strict : Bool) (inside : List Bound) (n : ℕ) (members : List (Said FieldTerm)) (groups : KeepsGroups K inside n members) where
  abbrev slot_made : (i offset : ℕ) → ValueTerm → MarkedType × Seen → Work (FieldKind × MarkedType × List Note)
  slot_made i offset default typed = work_said (value_stated default) >>= (λ v. work_of (Slot offset v, typed.0, notes_of n i typed.1 (is_untyped typed.0.type && is_untyped_default default)))

  slot_meant : (i offset : ℕ) (t : TypeTerm) (default : ValueTerm) → IsWork K (kind_of nodes strict inside n i (SlotTerm offset t default)) (λ q z. IsKindOf (numbers nodes strict z) inside n i (SlotTerm offset t default) q.0 q.1)
  slot_meant i offset t default =
      bind K (seen_in (type_of nodes strict inside t)) (slot_made i offset default) (λ typed z. IsTypeOf (numbers nodes strict z) inside t typed.0) (λ q z. IsKindOf (numbers nodes strict z) inside n i (SlotTerm offset t default) q.0 q.1)
      (seen_alone K (type_of nodes strict inside t) (λ u z. IsTypeOf (numbers nodes strict z) inside t u) (type_meant K nodes whole strict inside t))
      (λ typed. said_bind K (value_stated default) (λ v. work_of (Slot offset v, typed.0, notes_of n i typed.1 (is_untyped typed.0.type && is_untyped_default default))) (λ q z. IsTypeOf (numbers nodes strict z) inside t typed.0 → IsKindOf (numbers nodes strict z) inside n i (SlotTerm offset t default) q.0 q.1)
      (λ v is. of_work K (Slot offset v, typed.0, notes_of n i typed.1 (is_untyped typed.0.type && is_untyped_default default)) (λ (q : FieldKind × MarkedType × List Note) z. IsTypeOf (numbers nodes strict z) inside t typed.0 → IsKindOf (numbers nodes strict z) inside n i (SlotTerm offset t default) q.0 q.1) (λ z h. (refl, is, h))))

  group_added : (i id : ℕ) (f : FieldTerm) → slice_get members i ≡ Some (Ok f) → f.kind ≡ GroupTerm id → IsWork K (where_node is_struct_kind nodes id (add_entry (group_entry id inside n i))) (λ number z. slice_get z.entries number ≡ Some (group_entry id inside n i))
  group_added i id f there is s = done_where K (is_of_kind is_struct_kind (node_named nodes id)) NodeNotFound (λ number t. Done K s t (λ z. slice_get z.entries number ≡ Some (group_entry id inside n i))) (add_entry (group_entry id inside n i) s)
      (λ found. entry_added K (group_entry id inside n i) s (λ few. groups s.entries i id f few there is))

  group_meant : (i id : ℕ) (f : FieldTerm) → slice_get members i ≡ Some (Ok f) → f.kind ≡ GroupTerm id → IsWork K (kind_of nodes strict inside n i (GroupTerm id)) (λ q z. IsKindOf (numbers nodes strict z) inside n i (GroupTerm id) q.0 q.1)
  group_meant i id f there is =
      bind K (where_node is_struct_kind nodes id (add_entry (group_entry id inside n i))) (λ number. work_of (Group number, plain (StructType number number), [])) (λ number z. slice_get z.entries number ≡ Some (group_entry id inside n i)) (λ q z. IsKindOf (numbers nodes strict z) inside n i (GroupTerm id) q.0 q.1)
      (group_added i id f there is)
      (λ number. of_work K (Group number, plain (StructType number number), []) (λ (q : FieldKind × MarkedType × List Note) z. slice_get z.entries number ≡ Some (group_entry id inside n i) → IsKindOf (numbers nodes strict z) inside n i (GroupTerm id) q.0 q.1) (λ z h. (refl, h)))

  pub kind_meant : (i : ℕ) (f : FieldTerm) → slice_get members i ≡ Some (Ok f) → (k : FieldKindTerm) → f.kind ≡ k → IsWork K (kind_of nodes strict inside n i k) (λ q z. IsKindOf (numbers nodes strict z) inside n i k q.0 q.1)
  kind_meant i f there (SlotTerm offset t default) is = slot_meant i offset t default
  kind_meant i f there (GroupTerm id) is = group_meant i id f there is
  kind_meant i f there (UnreadField kind) is = λ s. tt

  abbrev field_made : FieldTerm → List ℕ → FieldKind × MarkedType × List Note → List (Annotation × SchemaType) → Converted
  field_made f name kind annotations = converted_field name f.discriminant_value kind annotations

  abbrev pub IsConvertedOf : (i : ℕ) → FieldTerm → Converted → Named → Type 0
  IsConvertedOf i f c z = IsFieldOf (numbers nodes strict z) inside n i f c.field c.type c.annotation_types

  abbrev AreAnnotations : FieldTerm → List (Annotation × SchemaType) → Named → Type 0
  AreAnnotations f ps z = IsSaidList (IsAnnotationOf (numbers nodes strict z) inside) f.annotations (map (λ (p : Annotation × SchemaType). p.0) ps) (map (λ (p : Annotation × SchemaType). p.1) ps)

  field_named : (i : ℕ) (f : FieldTerm) → slice_get members i ≡ Some (Ok f) → (name : List ℕ) → f.name ≡ Ok name → is_utf8 name ≡ true → IsWork K (kind_of nodes strict inside n i f.kind >>= (λ kind. annotations_of nodes strict inside f.annotations >>= (λ annotations. work_of (field_made f name kind annotations)))) (IsConvertedOf i f)
  field_named i f there name is text =
      bind K (kind_of nodes strict inside n i f.kind) (λ kind. annotations_of nodes strict inside f.annotations >>= (λ annotations. work_of (field_made f name kind annotations))) (λ q z. IsKindOf (numbers nodes strict z) inside n i f.kind q.0 q.1) (IsConvertedOf i f) (kind_meant i f there f.kind refl)
      (λ kind. bind K (annotations_of nodes strict inside f.annotations) (λ annotations. work_of (field_made f name kind annotations)) (AreAnnotations f) (λ c z. IsKindOf (numbers nodes strict z) inside n i f.kind kind.0 kind.1 → IsConvertedOf i f c z) (annotations_meant K nodes whole strict inside f.annotations)
      (λ annotations. of_work K (field_made f name kind annotations) (λ c z. AreAnnotations f annotations z → IsKindOf (numbers nodes strict z) inside n i f.kind kind.0 kind.1 → IsConvertedOf i f c z)
      (λ z h k. record { said = kind.1; own = map (λ (p : Annotation × SchemaType). p.0) annotations; own_types = map (λ (p : Annotation × SchemaType). p.1) annotations; name = is; text = text; discriminant_value = refl; annotations = h; marked = are_marked annotations kind.1.is_float; kind = k; stands = refl })))

  pub field_meant : (i : ℕ) (f : FieldTerm) → slice_get members i ≡ Some (Ok f) → IsWork K (field_of nodes strict inside n i f) (IsConvertedOf i f)
  field_meant i f there =
      said_bind K f.name (λ bytes. work_said (converted_name bytes) >>= (λ name. kind_of nodes strict inside n i f.kind >>= (λ kind. annotations_of nodes strict inside f.annotations >>= (λ annotations. work_of (field_made f name kind annotations))))) (IsConvertedOf i f)
      (λ bytes read. said_bind K (converted_name bytes) (λ name. kind_of nodes strict inside n i f.kind >>= (λ kind. annotations_of nodes strict inside f.annotations >>= (λ annotations. work_of (field_made f name kind annotations)))) (IsConvertedOf i f)
      (λ name taken. field_named i f there name (named_as f.name bytes name read taken) (text_taken bytes name taken)))

  abbrev pub AreConverted : (i : ℕ) → List (Said FieldTerm) → List Converted → Named → Type 0
  AreConverted i fs cs z = AreFieldsFrom (numbers nodes strict z) inside n i fs (map (λ (c : Converted). c.field) cs) (map (λ (c : Converted). c.type) cs) (map (λ (c : Converted). c.annotation_types) cs)

  pub fields_meant : (i : ℕ) (fs : List (Said FieldTerm)) → AreMembersFrom members i fs → IsWork K (fields_of nodes strict inside n i fs) (AreConverted i fs)
  fields_meant i [] h = of_work K [] (AreConverted i []) (λ z. tt)
  fields_meant i (Err kind ∷ fs) h = λ s. tt
  fields_meant i (Ok f ∷ fs) h =
      bind K (field_of nodes strict inside n i f) (λ first. fields_of nodes strict inside n (i + 1) fs >>= (λ rest. work_of (first ∷ rest))) (IsConvertedOf i f) (AreConverted i (Ok f ∷ fs)) (field_meant i f (first_member members i (Ok f) fs h))
      (λ first. bind K (fields_of nodes strict inside n (i + 1) fs) (λ rest. work_of (first ∷ rest)) (AreConverted (i + 1) fs) (λ cs z. IsConvertedOf i f first z → AreConverted i (Ok f ∷ fs) cs z) (fields_meant (i + 1) fs (other_members members i (Ok f) fs h))
      (λ rest. of_work K (first ∷ rest) (λ cs z. AreConverted (i + 1) fs rest z → IsConvertedOf i f first z → AreConverted i (Ok f ∷ fs) cs z) (λ z others one. (one, others))))
