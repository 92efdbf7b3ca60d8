-- The work on a field, step by step.
use Rattle.std.proofs.Common.{ℕ, ◌+◌, ◌≡◌, ◌∙◌, ap, arith, pos, refl, sym, zero, suc, Bool, true, false, ◌&&◌, List, [], ◌∷◌, ◌++◌, length, map, Option, Some, None, Result, Ok, Err, slice_get}
use Rattle.std.proofs.lemmas.List.{length-append}
use Rattle.std.specs.Option.{unwrap_or}
use Rattle.capnp_device.specs.declared.error.ErrorKind.{ErrorKind}
use Rattle.capnp_device.specs.declared.error.ErrorKind.TheVariants.{NodeNotFound, UnknownKind}
use Rattle.capnp_schema.specs.Schema.{Annotation, FieldKind, Group, Slot, Value, seen_annotation}
use Rattle.capnp_schema.specs.Types.{SchemaType, StructType, VoidType, seen_type}
use Rattle.capnp_schema.specs.declared.record.AnnotationRecord.{AnnotationRecord}
use Rattle.capnp_base.specs.declared.introspect.«Type».{«Type» as TypeHandle}
use Rattle.capnp_records.specs.Part.{which_of}
use Rattle.capnp_records.specs.Record as value
use Rattle.capnp_records.specs.Record.{Record, Value as RecordValue}
use Rattle.capnp_request.specs.Conversion.{Converted, Note, annotations_of, converted_field, field_of, marks, is_untyped, is_untyped_default, kind_of, converted_name, mark, notes_of}
use Rattle.capnp_request.specs.Steps.ConvertedSeen.{typed_annotations}
use Rattle.capnp_request.specs.Parts.{request_read_at}
use Rattle.capnp_request.specs.Reading.{annotation_terms_in, by_member, field_kinds, field_said, group_said, in_struct, number_in, slot_said, text_term, type_levels, type_said, value_in, value_said, whole_type}
use Rattle.capnp_request.specs.Scopes.{node_named}
use Rattle.capnp_request.specs.Terms.{AnnotationTerm, FieldKindTerm, GroupTerm, Said, SchemaNode, SlotTerm, TypeTerm, UnreadField, UnreadType, UnreadValue, ValueTerm}
use Rattle.capnp_request.specs.Types.{add_entry, is_of_kind, is_struct_kind, type_of}
use Rattle.capnp_request.specs.Values.{value_stated}
use Rattle.capnp_request.specs.Work.{Bound, Entry, GroupOf, MarkedType, Named, Seen, Work, plain, work_of, nothing_seen, work_said, seen_in, where_so, ◌>>=◌, work_continued}
use Rattle.capnp_request.specs.Steps.Work.{Numbered, named_with}
use Rattle.capnp_request.proofs.AnnotationsDone.{seen_done, seen_refused}

module _ (nodes : List SchemaNode) (strict : Bool) (inside : List Bound) (n i : ℕ) where
  abbrev kinds : FieldKindTerm → Work (FieldKind × MarkedType × List Note)
  kinds = kind_of nodes strict inside n i

  -- ---- slots ----

  module _ (v : RecordValue) (s : Record) (offset : ℕ) (there : value.Struct s ≡ v) (number : value.Number (pos offset) ≡ request_read_at 9 0 s) (m : Numbered) where
    abbrev start : Named
    start = named_with m nothing_seen

    abbrev with_default : ValueTerm → MarkedType × Seen → Work (FieldKind × MarkedType × List Note)
    with_default default typed =
        work_said (value_stated default) >>= (λ d. work_of (Slot offset d, typed.0, notes_of n i typed.1 (is_untyped typed.0.type && is_untyped_default default)))

    slot_by : (t : TypeTerm) → in_struct UnreadType whole_type (request_read_at 9 1 s) ≡ t → kinds (in_struct UnreadField slot_said v) start ≡ work_continued (with_default (value_in (request_read_at 9 2 s))) (seen_in (type_of nodes strict inside t) start)
    unfolding slot_said
    slot_by t e =
        ap (λ k. kinds (in_struct UnreadField slot_said k) start) (sym there)
        ∙ (ap (λ o. kinds (SlotTerm (number_in o) (in_struct UnreadType whole_type (request_read_at 9 1 s)) (value_in (request_read_at 9 2 s))) start) (sym number)
        ∙ ap (λ k. work_continued (with_default (value_in (request_read_at 9 2 s))) (seen_in (type_of nodes strict inside k) start)) e)

    pub slot_unread : (kind : ErrorKind) → value.Fault kind ≡ request_read_at 9 1 s → kinds (in_struct UnreadField slot_said v) start ≡ Err kind
    slot_unread kind e = slot_by (UnreadType kind) (ap (in_struct UnreadType whole_type) (sym e))

    module _ (term : Record) (typed : value.Struct term ≡ request_read_at 9 1 s) (levels : ℕ) (deep : levels ≡ type_levels) where
      slot_typed : kinds (in_struct UnreadField slot_said v) start ≡ work_continued (with_default (value_in (request_read_at 9 2 s))) (seen_in (type_of nodes strict inside (type_said levels term)) start)
      slot_typed = slot_by (type_said levels term) (ap (in_struct UnreadType whole_type) (sym typed) ∙ ap (λ l. type_said l term) (sym deep))

      pub slot_refused : (kind : ErrorKind) → type_of nodes strict inside (type_said levels term) start ≡ Err kind → kinds (in_struct UnreadField slot_said v) start ≡ Err kind
      slot_refused kind e = slot_typed ∙ ap (work_continued (with_default (value_in (request_read_at 9 2 s)))) (seen_refused (type_of nodes strict inside (type_said levels term)) m kind e)

      module _ (z : MarkedType) (o : Numbered) (seen : Seen) (done : type_of nodes strict inside (type_said levels term) start ≡ Ok (z, named_with o seen)) where
        slot_valued : (d : ValueTerm) → value_in (request_read_at 9 2 s) ≡ d → kinds (in_struct UnreadField slot_said v) start ≡ with_default d (z, seen) (named_with o nothing_seen)
        slot_valued d e =
            slot_typed
            ∙ (ap (work_continued (with_default (value_in (request_read_at 9 2 s)))) (seen_done (type_of nodes strict inside (type_said levels term)) m z o seen done)
            ∙ ap (λ x. with_default x (z, seen) (named_with o nothing_seen)) e)

        pub default_unread : (kind : ErrorKind) → value.Fault kind ≡ request_read_at 9 2 s → kinds (in_struct UnreadField slot_said v) start ≡ Err kind
        default_unread kind e = slot_valued (UnreadValue kind) (ap value_in (sym e))

        module _ (d : Record) (default : value.Struct d ≡ request_read_at 9 2 s) where
          slot_default : kinds (in_struct UnreadField slot_said v) start ≡ with_default (value_said d) (z, seen) (named_with o nothing_seen)
          slot_default = slot_valued (value_said d) (ap value_in (sym default))

          pub default_refused : (kind : ErrorKind) → value_stated (value_said d) ≡ Err kind → kinds (in_struct UnreadField slot_said v) start ≡ Err kind
          default_refused kind e = slot_default ∙ ap (λ x. (work_said x >>= (λ y. work_of (Slot offset y, z, notes_of n i seen (is_untyped z.type && is_untyped_default (value_said d))))) (named_with o nothing_seen)) e

          pub slot_done : (x : Value) (q : Bool) → value_stated (value_said d) ≡ Ok x → q ≡ (is_untyped z.type && is_untyped_default (value_said d)) → kinds (in_struct UnreadField slot_said v) start ≡ Ok ((Slot offset x, z, notes_of n i seen q), named_with o nothing_seen)
          slot_done x q e same =
              slot_default
              ∙ (ap (λ x. (work_said x >>= (λ y. work_of (Slot offset y, z, notes_of n i seen (is_untyped z.type && is_untyped_default (value_said d))))) (named_with o nothing_seen)) e
              ∙ ap (λ b. Ok ((Slot offset x, z, notes_of n i seen b), named_with o nothing_seen)) (sym same))

  -- ---- groups ----

  module _ (v : RecordValue) (g : Record) (id : ℕ) (there : value.Struct g ≡ v) (number : value.Number (pos id) ≡ request_read_at 10 0 g) (s : Named) where
    abbrev group : Entry
    group = record { node = id; bound = inside; place = GroupOf n i }

    abbrev numbered_group : ℕ → Work (FieldKind × MarkedType × List Note)
    numbered_group number = work_of (Group number, plain (StructType number number), [])

    group_by : (q : Bool) → is_of_kind is_struct_kind (node_named nodes id) ≡ q → kinds (in_struct UnreadField group_said v) s ≡ work_continued numbered_group (where_so q NodeNotFound (add_entry group s))
    group_by q e =
        ap (λ k. kinds (in_struct UnreadField group_said k) s) (sym there)
        ∙ (ap (λ o. kinds (GroupTerm (number_in o)) s) (sym number)
        ∙ ap (λ b. work_continued numbered_group (where_so b NodeNotFound (add_entry group s))) e)

    pub group_missing : is_of_kind is_struct_kind (node_named nodes id) ≡ false → kinds (in_struct UnreadField group_said v) s ≡ Err NodeNotFound
    group_missing e = group_by false e

    module _ (found : is_of_kind is_struct_kind (node_named nodes id) ≡ true) where
      pub group_refused : (kind : ErrorKind) → add_entry group s ≡ Err kind → kinds (in_struct UnreadField group_said v) s ≡ Err kind
      group_refused kind e = group_by true found ∙ ap (work_continued numbered_group) e

      pub group_done : (k : ℕ) (t : Named) (z : MarkedType) → add_entry group s ≡ Ok (k, t) → z ≡ plain (StructType k k) → kinds (in_struct UnreadField group_said v) s ≡ Ok ((Group k, z, []), t)
      group_done k t z e same = group_by true found ∙ (ap (work_continued numbered_group) e ∙ ap (λ y. Ok ((Group k, y, []), t)) (sym same))

  -- ---- fields ----

  module _ (r : Record) (s : Named) where
    kind_by : (o : Option ℕ) → which_of r ≡ o → (field_said r).kind ≡ by_member (UnreadField UnknownKind) field_kinds 8 o r
    unfolding field_said
    kind_by o which = ap (λ w. by_member (UnreadField UnknownKind) field_kinds 8 w r) which

    pub kind_none : which_of r ≡ None → kinds (field_said r).kind s ≡ Err UnknownKind
    kind_none which = ap (λ k. kinds k s) (kind_by None which)

    pub is_slot : (m : ℕ) → which_of r ≡ Some m → m ≡ 3 → (field_said r).kind ≡ in_struct UnreadField slot_said (request_read_at 8 3 r)
    is_slot m which is = kind_by (Some m) which ∙ ap (λ j. unwrap_or (slice_get field_kinds j) (λ (v : RecordValue). UnreadField UnknownKind) (request_read_at 8 j r)) is

    pub is_group : (m : ℕ) → which_of r ≡ Some m → m ≡ 4 → (field_said r).kind ≡ in_struct UnreadField group_said (request_read_at 8 4 r)
    is_group m which is = kind_by (Some m) which ∙ ap (λ j. unwrap_or (slice_get field_kinds j) (λ (v : RecordValue). UnreadField UnknownKind) (request_read_at 8 j r)) is

    pub kind_other : (m : ℕ) → which_of r ≡ Some m → (m ≡ 3 → ⊥) → (m ≡ 4 → ⊥) → kinds (field_said r).kind s ≡ Err UnknownKind
    kind_other m which three four = ap (λ k. kinds k s) (kind_by (Some m) which) ∙ go m three four
      where
        go : (j : ℕ) → (j ≡ 3 → ⊥) → (j ≡ 4 → ⊥) → kinds (unwrap_or (slice_get field_kinds j) (λ (v : RecordValue). UnreadField UnknownKind) (request_read_at 8 m r)) s ≡ Err UnknownKind
        go zero three four = refl
        go (suc zero) three four = refl
        go (suc (suc zero)) three four = refl
        go (suc (suc (suc zero))) three four = absurd (three refl)
        go (suc (suc (suc (suc zero)))) three four = absurd (four refl)
        go (suc (suc (suc (suc (suc j))))) three four = refl

    abbrev rest : List ℕ → ℕ → FieldKindTerm → Said (List (Said AnnotationTerm)) → Work Converted
    rest name discriminant k annotations = kinds k >>= (λ kind. annotations_of nodes strict inside annotations >>= (λ annotations. work_of (converted_field name discriminant kind annotations)))

    abbrev named_rest : ℕ → FieldKindTerm → Said (List (Said AnnotationTerm)) → Said (List ℕ) → Work Converted
    named_rest discriminant k annotations x = work_said x >>= (λ bytes. work_said (converted_name bytes) >>= (λ name. rest name discriminant k annotations))

    field_by : (x : Said (List ℕ)) → text_term (request_read_at 8 0 r) ≡ x → field_of nodes strict inside n i (field_said r) s ≡ named_rest (number_in (request_read_at 8 2 r)) (field_said r).kind (annotation_terms_in (request_read_at 8 1 r)) x s
    unfolding field_said
    field_by x e = ap (λ y. named_rest (number_in (request_read_at 8 2 r)) (field_said r).kind (annotation_terms_in (request_read_at 8 1 r)) y s) e

    pub name_unread : (kind : ErrorKind) → value.Fault kind ≡ request_read_at 8 0 r → field_of nodes strict inside n i (field_said r) s ≡ Err kind
    name_unread kind e = field_by (Err kind) (ap text_term (sym e))

    module _ (bytes : List ℕ) (there : value.Text bytes ≡ request_read_at 8 0 r) where
      pub name_refused : (kind : ErrorKind) → converted_name bytes ≡ Err kind → field_of nodes strict inside n i (field_said r) s ≡ Err kind
      name_refused kind e = field_by (Ok bytes) (ap text_term (sym there)) ∙ ap (λ y. (work_said y >>= (λ name. rest name (number_in (request_read_at 8 2 r)) (field_said r).kind (annotation_terms_in (request_read_at 8 1 r)))) s) e

      module _ (name : List ℕ) (is : converted_name bytes ≡ Ok name) (discriminant : ℕ) (number : value.Number (pos discriminant) ≡ request_read_at 8 2 r) where
        named_by : field_of nodes strict inside n i (field_said r) s ≡ rest name discriminant (field_said r).kind (annotation_terms_in (request_read_at 8 1 r)) s
        named_by =
            field_by (Ok bytes) (ap text_term (sym there))
            ∙ (ap (λ y. (work_said y >>= (λ name. rest name (number_in (request_read_at 8 2 r)) (field_said r).kind (annotation_terms_in (request_read_at 8 1 r)))) s) is
            ∙ ap (λ d. rest name (number_in d) (field_said r).kind (annotation_terms_in (request_read_at 8 1 r)) s) (sym number))

        pub kind_refused : (kind : ErrorKind) → kinds (field_said r).kind s ≡ Err kind → field_of nodes strict inside n i (field_said r) s ≡ Err kind
        kind_refused kind e = named_by ∙ ap (work_continued (λ kind. annotations_of nodes strict inside (annotation_terms_in (request_read_at 8 1 r)) >>= (λ annotations. work_of (converted_field name discriminant kind annotations)))) e

        module _ (kind : FieldKind × MarkedType × List Note) (t : Named) (done : kinds (field_said r).kind s ≡ Ok (kind, t)) where
          kind_done : field_of nodes strict inside n i (field_said r) s ≡ work_continued (λ annotations. work_of (converted_field name discriminant kind annotations)) (annotations_of nodes strict inside (annotation_terms_in (request_read_at 8 1 r)) t)
          kind_done = named_by ∙ ap (work_continued (λ kind. annotations_of nodes strict inside (annotation_terms_in (request_read_at 8 1 r)) >>= (λ annotations. work_of (converted_field name discriminant kind annotations)))) done

          pub annotations_refused : (k : ErrorKind) → annotations_of nodes strict inside (annotation_terms_in (request_read_at 8 1 r)) t ≡ Err k → field_of nodes strict inside n i (field_said r) s ≡ Err k
          annotations_refused k e = kind_done ∙ ap (work_continued (λ annotations. work_of (converted_field name discriminant kind annotations))) e

          pub field_done : (annotations : List (Annotation × SchemaType)) (u : Named) → annotations_of nodes strict inside (annotation_terms_in (request_read_at 8 1 r)) t ≡ Ok (annotations, u) → field_of nodes strict inside n i (field_said r) s ≡ Ok (converted_field name discriminant kind annotations, u)
          field_done annotations u e = kind_done ∙ ap (work_continued (λ annotations. work_of (converted_field name discriminant kind annotations))) e

-- nothing is noted of a group
pub nothing_noted : (n i : ℕ) (s : Seen) (d : Bool) → s ≡ nothing_seen → d ≡ false → [] ≡ notes_of n i s d
nothing_noted n i s d seen default = ap (λ (x : Seen). notes_of n i x false) (sym seen) ∙ ap (λ b. notes_of n i s b) (sym default)

-- ---- annotations with their types ----

pub firsts_typed : (xs : List AnnotationRecord) (ts : List TypeHandle) → length ts ≡ length xs → map (λ (p : Annotation × SchemaType). p.0) (typed_annotations xs ts) ≡ map seen_annotation xs
firsts_typed [] ts e = refl
firsts_typed (x ∷ xs) [] e = absurd (omega (arith, e))
firsts_typed (x ∷ xs) (t ∷ ts) e = ap (λ rest. seen_annotation x ∷ rest) (firsts_typed xs ts (omega (arith, e)))

pub seconds_typed : (xs : List AnnotationRecord) (ts : List TypeHandle) → length ts ≡ length xs → map (λ (p : Annotation × SchemaType). p.1) (typed_annotations xs ts) ≡ map seen_type ts
seconds_typed [] [] e = refl
seconds_typed [] (t ∷ ts) e = absurd (omega (arith, e))
seconds_typed (x ∷ xs) [] e = absurd (omega (arith, e))
seconds_typed (x ∷ xs) (t ∷ ts) e = ap (λ rest. seen_type t ∷ rest) (seconds_typed xs ts (omega (arith, e)))

pub typed_more : (xs ys : List AnnotationRecord) (ts us : List TypeHandle) (x : AnnotationRecord) (t : TypeHandle) → length ts ≡ length xs → ys ≡ xs ++ x ∷ [] → us ≡ ts ++ t ∷ [] →
    typed_annotations ys us ≡ typed_annotations xs ts ++ (seen_annotation x, seen_type t) ∷ []
typed_more xs ys ts us x t e more other = ap (λ a. typed_annotations a us) more ∙ (ap (typed_annotations (xs ++ x ∷ [])) other ∙ go xs ts e)
  where
    go : (xs : List AnnotationRecord) (ts : List TypeHandle) → length ts ≡ length xs → typed_annotations (xs ++ x ∷ []) (ts ++ t ∷ []) ≡ typed_annotations xs ts ++ (seen_annotation x, seen_type t) ∷ []
    go [] [] e = refl
    go [] (u ∷ ts) e = absurd (omega (arith, e))
    go (a ∷ xs) [] e = absurd (omega (arith, e))
    go (a ∷ xs) (u ∷ ts) e = ap (λ rest. (seen_annotation a, seen_type u) ∷ rest) (go xs ts (omega (arith, e)))

-- the mark behind the others
behind : List (Annotation × SchemaType) → Annotation → SchemaType → List (Annotation × SchemaType)
behind xs a u = xs ++ (a, u) ∷ []

mark_behind : (xs : List (Annotation × SchemaType)) (a : Annotation) (u : SchemaType) → a ≡ mark → u ≡ VoidType → (q : Bool) → q ≡ true → behind xs a u ≡ xs ++ marks q
unfolding behind
mark_behind xs a u is void q holds = ap (λ (b : Annotation). behind xs b u) is ∙ (ap (λ (v : SchemaType). behind xs mark v) void ∙ ap (λ (b : Bool). xs ++ marks b) (sym holds))

pub marked_more : (xs ys : List AnnotationRecord) (ts us : List TypeHandle) (x : AnnotationRecord) (t : TypeHandle) → length ts ≡ length xs → ys ≡ xs ++ x ∷ [] → us ≡ ts ++ t ∷ [] → seen_annotation x ≡ mark → seen_type t ≡ VoidType → (q : Bool) → q ≡ true →
    typed_annotations ys us ≡ typed_annotations xs ts ++ marks q
unfolding behind
marked_more xs ys ts us x t e more other is void q holds = typed_more xs ys ts us x t e more other ∙ mark_behind (typed_annotations xs ts) (seen_annotation x) (seen_type t) is void q holds

-- a field as it was made, with the mark of a field of floats
pub field_made : (name : List ℕ) (discriminant : ℕ) (kind : FieldKind × MarkedType × List Note) (listed : List (Annotation × SchemaType)) (xs : List AnnotationRecord) (ts : List TypeHandle) (u : Named) → typed_annotations xs ts ≡ listed ++ marks kind.1.is_float → length ts ≡ length xs →
    ◌≡◌ {A = Result (Converted × Named) ErrorKind}
    (Ok (converted_field name discriminant kind listed, u))
    (Ok (
      record {
        field = record { name = name; discriminant_value = discriminant; annotations = map seen_annotation xs; kind = kind.0 };
        type = kind.1.type;
        annotation_types = map seen_type ts;
        notes = kind.2;
      },
      u,
    ))
field_made name discriminant kind listed xs ts u is e = λ i. Ok (
  record {
    field = record { name = name; discriminant_value = discriminant; annotations = (ap (map (λ (p : Annotation × SchemaType). p.0)) (sym is) ∙ firsts_typed xs ts e) i; kind = kind.0 };
    type = kind.1.type;
    annotation_types = (ap (map (λ (p : Annotation × SchemaType). p.1)) (sym is) ∙ seconds_typed xs ts e) i;
    notes = kind.2;
  },
  u,
)

pub typed_longer : (xs : List AnnotationRecord) (ts : List TypeHandle) (x : AnnotationRecord) (t : TypeHandle) → length ts ≡ length xs → length (ts ++ t ∷ []) ≡ length (xs ++ x ∷ [])
typed_longer xs ts x t e = length-append ts (t ∷ []) ∙ (ap (λ n. n + 1) e ∙ sym (length-append xs (x ∷ [])))
