-- The notes of all structs that are made, and so of a set.
use Rattle.std.proofs.Common.{ℕ, zero, suc, ◌+◌, ◌<◌, ◌≡◌, ◌∙◌, ◌⊎◌, ap, arith, inl, inr, refl, subst, sym, Bool, List, [], ◌∷◌, ◌++◌, length, map, slice_get, Option, Some, None, Result, Ok, Err}
use Rattle.std.proofs.lemmas.List.{length-append}
use Rattle.std.proofs.lemmas.Option.{slice_get_within}
use Rattle.capnp_device.specs.declared.error.ErrorKind.{ErrorKind}
use Rattle.capnp_schema.specs.Schema.{Brand, Node, Schemas}
use Rattle.capnp_schema.specs.Types.{SchemaType}
use Rattle.capnp_request.specs.Conversion.{Converted, Note, annotations_of, fields_of}
use Rattle.capnp_request.specs.Order.{Begun, Made, add_struct, all_fields, all_notes, begin_enum, begin_struct, enum_made, make_all, make_enum, make_next, make_struct, name_files, nothing_made, nothing_named, result_of, schemas_made, struct_made, with_struct}
use Rattle.capnp_request.specs.Scopes.{node_named}
use Rattle.capnp_request.specs.Terms.{FieldTerm, NodeKind, RequestTerm, Said, SchemaNode, StructNode, StructPart}
use Rattle.capnp_request.specs.Work.{Bound, Entry, Named, Work, work_of, work_said, ◌>>=◌}
use Rattle.capnp_request_meaning.specs.Laws.{NotesTellWhatStands}
use Rattle.capnp_request_meaning.specs.Meaning.{IsRead}
use Rattle.capnp_request_meaning.specs.Noted.{AreNotesOf, IsNoteOf}
use Rattle.capnp_request_meaning.proofs.EnumsMeant as enums
use Rattle.capnp_request_meaning.proofs.FieldsNoted.{AreNoted, Gives, IsFieldNotable, IsNoteFrom, among_left, among_parts, among_right, fields_noted, gives_any, gives_bind, gives_said, gives_struct, none_among}
use Rattle.capnp_request_meaning.proofs.Leads.{AnyEntries, any_whole}
use Rattle.capnp_request_meaning.proofs.ListsFound.{IsAmong, before_or_last, last_at, still_at}
use Rattle.capnp_request_meaning.proofs.NamesMeant.{IsBegun, struct_begun}
use Rattle.capnp_request_meaning.proofs.NodesMeant as nodes
use Rattle.capnp_request_meaning.proofs.Works.{IfDone}

-- ---- a struct ----

-- a note of a slot of a schema node, with the types that stand for those of its fields
record IsNoteIn (nodes : List SchemaNode) (strict : Bool) (node : SchemaNode) (types : List SchemaType) (x : Note) : Type 0 where
  part : StructPart
  field : FieldTerm
  stands : SchemaType
  is_struct : node.kind ≡ StructNode part
  read : IsRead part.fields x.field field
  typed : slice_get types x.field ≡ Some stands
  notable : IsFieldNotable nodes strict field.kind stands x.stand_in

record IsStructNoted (nodes : List SchemaNode) (strict : Bool) (n id : ℕ) (node : SchemaNode) (made : Node × Brand × List Note) : Type 0 where
  is_id : made.0.id ≡ id
  to : (x : Note) → IsAmong made.2 x → (x.entry ≡ n) × IsNoteIn nodes strict node made.1.field_types x
  from : (x : Note) → x.entry ≡ n → IsNoteIn nodes strict node made.1.field_types x → IsAmong made.2 x

same_ok : {A : Type 0} (d : Said A) (a b : A) → d ≡ Ok a → d ≡ Ok b → a ≡ b
same_ok {A = A} d a b e f = let h : ◌≡◌ {A = Said A} (Ok a) (Ok b) = sym e ∙ f in cc

same_some_of : {A : Type 0} (o : Option A) (a b : A) → o ≡ Some a → o ≡ Some b → a ≡ b
same_some_of {A = A} o a b e f = let h : ◌≡◌ {A = Option A} (Some a) (Some b) = sym e ∙ f in cc

same_part : (k : NodeKind) (a b : StructPart) → k ≡ StructNode a → k ≡ StructNode b → a ≡ b
same_part k a b e f = let h : StructNode a ≡ StructNode b = sym e ∙ f in cc

module _ (r : RequestTerm) (strict : Bool) where
  module _ (n id : ℕ) (inside : List Bound) (name : List ℕ) (node : SchemaNode) where
    abbrev with_all : StructPart → List Converted → Work (Node × Brand × List Note)
    with_all part = nodes.with_fields AnyEntries r.nodes (any_whole r.nodes) strict n id inside name node part

    abbrev IsNoted : Node × Brand × List Note → Type 0
    IsNoted made = IsStructNoted r.nodes strict n id node made

    module _ (part : StructPart) (struct : node.kind ≡ StructNode part) (members : List (Said FieldTerm)) (listed : part.fields ≡ Ok members) (fields : List Converted) (noted : AreNoted r.nodes strict inside n 0 members fields) where
      abbrev types : List SchemaType
      types = map (λ (c : Converted). c.type) fields

      noted_to : (x : Note) → IsAmong (all_notes fields) x → (x.entry ≡ n) × IsNoteIn r.nodes strict node types x
      noted_to x h =
          let is : IsNoteFrom r.nodes strict inside n 0 members types x = (noted x).0 h in
          let at : x.field ≡ is.index = omega (arith, is.numbered) in (
            is.entry,
            record {
              part = part;
              field = is.field;
              stands = is.stands;
              is_struct = struct;
              read = record { list = members; said = listed; there = ap (λ i. slice_get members i) at ∙ is.there };
              typed = ap (λ i. slice_get types i) at ∙ is.typed;
              notable = is.notable;
            },
          )

      noted_from : (x : Note) → x.entry ≡ n → IsNoteIn r.nodes strict node types x → IsAmong (all_notes fields) x
      noted_from x entry h =
          let same : h.part ≡ part = same_part node.kind h.part part h.is_struct struct in
          let list : h.read.list ≡ members = same_ok part.fields h.read.list members (ap (λ (p : StructPart). p.fields) (sym same) ∙ h.read.said) listed in
          let at : x.field ≡ 0 + x.field = omega arith in
          (noted x).1 (record { index = x.field; field = h.field; stands = h.stands; entry = entry; numbered = at; there = ap (λ xs. slice_get xs x.field) (sym list) ∙ h.read.there; typed = h.typed; notable = h.notable })

    struct_then : (part : StructPart) → node.kind ≡ StructNode part → (d : Said (List (Said FieldTerm))) → part.fields ≡ d → Gives ((work_said d >>= fields_of r.nodes strict inside n 0) >>= with_all part) IsNoted
    struct_then part struct (Err kind) listed = λ s. tt
    struct_then part struct (Ok members) listed =
        gives_bind (fields_of r.nodes strict inside n 0 members) (with_all part) (AreNoted r.nodes strict inside n 0 members) IsNoted (fields_noted r.nodes strict inside n 0 members)
        (λ fields noted. gives_bind (annotations_of r.nodes strict inside node.annotations) (nodes.with_own AnyEntries r.nodes (any_whole r.nodes) strict n id inside name node part fields) (λ own. Unit {0}) IsNoted (gives_any (annotations_of r.nodes strict inside node.annotations))
        (λ own any s. record { is_id = refl; to = noted_to part struct members listed fields noted; from = noted_from part struct members listed fields noted }))

    struct_noted : Gives (struct_made r.nodes strict n id inside name node) IsNoted
    struct_noted = gives_struct node.kind (λ part. all_fields r.nodes strict inside n part.fields >>= with_all part) IsNoted (λ part struct. struct_then part struct part.fields refl)

  -- ---- what is made ----

  abbrev IsNote : Made → Note → Type 0
  IsNote m x = IsNoteOf r strict m.nodes m.brands x

  record AreKept (m : Made) : Type 0 where
    counted : length m.brands ≡ length m.nodes
    to : (x : Note) → IsAmong m.notes x → IsNote m x
    from : (x : Note) → IsNote m x → IsAmong m.notes x

  none_kept : AreKept nothing_made
  none_kept = record { counted = refl; to = λ x h. absurd (none_among x h.index h.there); from = λ x h. absurd (none_among h.struct x.entry h.numbered) }

  module _ (m : Made) (e : Entry) (b : Begun) (begun : IsBegun r.nodes m e b) (made : Node × Brand × List Note) (kept : AreKept m) (noted : IsStructNoted r.nodes strict (length m.nodes) e.node b.node made) where
    abbrev after : Made
    after = with_struct r.nodes strict m b made

    older : (x : Note) → IsNote m x → IsNote after x
    older x h = record {
      struct = h.struct;
      brand = h.brand;
      node = h.node;
      part = h.part;
      field = h.field;
      offset = h.offset;
      type = h.type;
      default = h.default;
      stands = h.stands;
      numbered = still_at m.nodes (made.0 ∷ []) x.entry h.struct h.numbered;
      branded = still_at m.brands (made.1 ∷ []) x.entry h.brand h.branded;
      first = h.first;
      is_struct = h.is_struct;
      read = h.read;
      slot = h.slot;
      typed = h.typed;
      notable = h.notable;
    }

    newer : (x : Note) → x.entry ≡ length m.nodes → IsNoteIn r.nodes strict b.node made.1.field_types x → IsNote after x
    newer x at h = record {
      struct = made.0;
      brand = made.1;
      node = b.node;
      part = h.part;
      field = h.field;
      offset = h.notable.offset;
      type = h.notable.type;
      default = h.notable.default;
      stands = h.stands;
      numbered = ap (λ i. slice_get (m.nodes ++ made.0 ∷ []) i) at ∙ last_at m.nodes made.0;
      branded = ap (λ i. slice_get (m.brands ++ made.1 ∷ []) i) (at ∙ sym kept.counted) ∙ last_at m.brands made.1;
      first = ap (λ i. node_named r.nodes i) noted.is_id ∙ begun.first;
      is_struct = h.is_struct;
      read = h.read;
      slot = h.notable.slot;
      typed = h.typed;
      notable = h.notable.notable;
    }

    after_to : (x : Note) → IsAmong (m.notes ++ made.2) x → IsNote after x
    after_to x h = go (among_parts m.notes made.2 x h)
      where
        go : IsAmong m.notes x ⊎ IsAmong made.2 x → IsNote after x
        go (inl k) = older x (kept.to x k)
        go (inr k) = let is = noted.to x k in newer x is.0 is.1

    was_older : (x : Note) (h : IsNote after x) → slice_get m.nodes x.entry ≡ Some h.struct → IsNote m x
    was_older x h there = go (before_or_last m.brands made.1 x.entry h.brand h.branded)
      where
        inside : x.entry < length m.nodes
        inside = slice_get_within m.nodes x.entry h.struct there

        go : (slice_get m.brands x.entry ≡ Some h.brand) ⊎ ((x.entry ≡ length m.brands) × (made.1 ≡ h.brand)) → IsNote m x
        go (inr k) = absurd (omega (arith, inside, k.0, kept.counted))
        go (inl k) = record {
          struct = h.struct;
          brand = h.brand;
          node = h.node;
          part = h.part;
          field = h.field;
          offset = h.offset;
          type = h.type;
          default = h.default;
          stands = h.stands;
          numbered = there;
          branded = k;
          first = h.first;
          is_struct = h.is_struct;
          read = h.read;
          slot = h.slot;
          typed = h.typed;
          notable = h.notable;
        }

    was_newer : (x : Note) (h : IsNote after x) → x.entry ≡ length m.nodes → made.0 ≡ h.struct → IsNoteIn r.nodes strict b.node made.1.field_types x
    was_newer x h at same = go (before_or_last m.brands made.1 x.entry h.brand h.branded)
      where
        is_node : h.node ≡ b.node
        is_node = same_some_of (node_named r.nodes h.struct.id) h.node b.node h.first (ap (λ (k : Node). node_named r.nodes k.id) (sym same) ∙ (ap (λ i. node_named r.nodes i) noted.is_id ∙ begun.first))

        go : (slice_get m.brands x.entry ≡ Some h.brand) ⊎ ((x.entry ≡ length m.brands) × (made.1 ≡ h.brand)) → IsNoteIn r.nodes strict b.node made.1.field_types x
        go (inl k) = let inside : x.entry < length m.brands = slice_get_within m.brands x.entry h.brand k in absurd (omega (arith, inside, at, kept.counted))
        go (inr k) = record {
          part = h.part;
          field = h.field;
          stands = h.stands;
          is_struct = ap (λ (n : SchemaNode). n.kind) (sym is_node) ∙ h.is_struct;
          read = h.read;
          typed = ap (λ (y : Brand). slice_get y.field_types x.field) k.1 ∙ h.typed;
          notable = record { offset = h.offset; type = h.type; default = h.default; slot = h.slot; notable = h.notable };
        }

    after_from : (x : Note) → IsNote after x → IsAmong (m.notes ++ made.2) x
    after_from x h = go (before_or_last m.nodes made.0 x.entry h.struct h.numbered)
      where
        go : (slice_get m.nodes x.entry ≡ Some h.struct) ⊎ ((x.entry ≡ length m.nodes) × (made.0 ≡ h.struct)) → IsAmong (m.notes ++ made.2) x
        go (inl k) = among_left m.notes made.2 x (kept.from x (was_older x h k))
        go (inr k) = among_right m.notes made.2 x (noted.from x k.0 (was_newer x h k.0 k.1))

    after_kept : AreKept after
    after_kept =
        let structs : length (m.nodes ++ made.0 ∷ []) ≡ length m.nodes + 1 = length-append m.nodes (made.0 ∷ []) in
        let brands : length (m.brands ++ made.1 ∷ []) ≡ length m.brands + 1 = length-append m.brands (made.1 ∷ []) in
        record { counted = omega (arith, structs, brands, kept.counted); to = after_to; from = after_from }

  struct_kept : (m : Made) (e : Entry) → AreKept m → Gives (make_struct r.nodes strict m e) AreKept
  struct_kept m e kept s = gives_said (begin_struct r.nodes m e s.enums) (add_struct r.nodes strict m e.node e.bound) AreKept (λ b h.
      gives_bind (struct_made r.nodes strict (length m.nodes) e.node e.bound b.name b.node) (λ made. work_of (with_struct r.nodes strict m b made)) (IsStructNoted r.nodes strict (length m.nodes) e.node b.node) AreKept (struct_noted (length m.nodes) e.node e.bound b.name b.node)
      (λ made noted u. after_kept m e b (struct_begun r.nodes m e s.enums b h) made kept noted)) s

  enum_kept : (m : Made) (id : ℕ) → AreKept m → Gives (make_enum r.nodes strict m id) AreKept
  enum_kept m id kept = gives_said (begin_enum r.nodes id) (enums.with_begun AnyEntries r.nodes (any_whole r.nodes) strict m id) AreKept (λ b h.
      gives_bind (enum_made r.nodes strict id b.0 b.1) (enums.with_enum AnyEntries r.nodes (any_whole r.nodes) strict m id) (λ e. Unit {0}) AreKept (gives_any (enum_made r.nodes strict id b.0 b.1))
      (λ e any s. record { counted = kept.counted; to = kept.to; from = kept.from }))

  abbrev IsKeeping : (Made → Work Made) → Type 0
  IsKeeping again = (m : Made) → AreKept m → Gives (again m) AreKept

  next_kept : (again : Made → Work Made) → IsKeeping again → (m : Made) (o : Option Entry) (q : Option ℕ) → AreKept m → Gives (make_next r.nodes strict again m o q) AreKept
  next_kept again h m (Some e) q kept = gives_bind (make_struct r.nodes strict m e) again AreKept AreKept (struct_kept m e kept) h
  next_kept again h m None (Some id) kept = gives_bind (make_enum r.nodes strict m id) again AreKept AreKept (enum_kept m id kept) h
  next_kept again h m None None kept = λ s. kept

  all_kept : (steps : ℕ) → IsKeeping (make_all r.nodes strict steps)
  all_kept zero m kept = λ s. tt
  all_kept (suc steps) m kept = λ s. next_kept (make_all r.nodes strict steps) (all_kept steps) m (slice_get s.entries (length m.nodes)) (slice_get s.enums (length m.enums)) kept s

  -- ---- the notes of a set ----

  abbrev notes_or : List Note → Said (Schemas × List Note) → List Note
  notes_or other (Ok p) = p.1
  notes_or other (Err kind) = other

  abbrev set_or : Schemas → Said (Schemas × List Note) → Schemas
  set_or other (Ok p) = p.0
  set_or other (Err kind) = other

  told_of : (m : Made) → AreKept m → AreNotesOf r strict (schemas_made m) m.notes
  told_of m kept x = (λ i there. kept.to x (record { index = i; there = there }), λ h. let a : IsAmong m.notes x = kept.from x h in (a.index, a.there))

  told_from : (set : Schemas) (notes : List Note) (d : Result (Made × Named) ErrorKind) → IfDone (λ (m : Made) t. AreKept m) d → result_of d ≡ Ok (set, notes) → AreNotesOf r strict set notes
  told_from set notes (Err kind) h e = absurd (cc)
  told_from set notes (Ok p) h e =
      let sets : schemas_made p.0 ≡ set = ap (set_or set) e in
      let lists : p.0.notes ≡ notes = ap (notes_or notes) e in
      subst (λ xs. AreNotesOf r strict set xs) lists (subst (λ y. AreNotesOf r strict y p.0.notes) sets (told_of p.0 h))

  whole_kept : Gives (name_files r.nodes strict r.files >>= (λ none. make_all r.nodes strict (65536 + suc (length r.nodes)) nothing_made)) AreKept
  whole_kept = gives_bind (name_files r.nodes strict r.files) (λ none. make_all r.nodes strict (65536 + suc (length r.nodes)) nothing_made) (λ none. Unit {0}) AreKept (gives_any (name_files r.nodes strict r.files)) (λ none any. all_kept (65536 + suc (length r.nodes)) nothing_made none_kept)

pub notes_tell : NotesTellWhatStands
notes_tell r strict set notes e = told_from r strict set notes ((name_files r.nodes strict r.files >>= (λ none. make_all r.nodes strict (65536 + suc (length r.nodes)) nothing_made)) nothing_named) (whole_kept r strict nothing_named) e
