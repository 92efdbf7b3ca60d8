-- What was named is of its kind, and stays so; structs and enums of it are not refused for a cause.
use Rattle.std.proofs.Common.{ℕ, ◌+◌, ◌<◌, ◌≡◌, ◌∙◌, ◌⊎◌, ap, inl, inr, refl, subst, sym, true, false, List, [], ◌∷◌, ◌++◌, length, map, slice_get, Some, Ok, Err, arith}
use Rattle.std.proofs.lemmas.Option.{slice_get_within}
use Rattle.capnp_device.specs.declared.error.ErrorKind.TheVariants.{NodeNotFound}
use Rattle.capnp_schema.specs.Schema.{Annotation, Brand, Enum, Enumerant, Node}
use Rattle.capnp_schema.specs.Types.{SchemaType}
use Rattle.capnp_request.specs.Conversion.{Converted, Note, annotations_of, converted_name, fields_of}
use Rattle.capnp_request.specs.Order.{all_enumerants, all_fields, at_enum, at_struct, enum_made, enumerant_of, struct_made, all_notes, firsts, seconds}
use Rattle.capnp_request.specs.Scopes.{node_named}
use Rattle.capnp_request.specs.Terms.{AnnotationNode, EnumNode, EnumerantTerm, FieldTerm, GroupTerm, NodeKind, OtherNode, Said, SchemaNode, StructNode, StructPart}
use Rattle.capnp_request.specs.Types.{is_enum, is_struct_kind}
use Rattle.capnp_request.specs.Work.{Bound, Entry, GroupOf, Named, Place, Whole, Work, work_of, work_said, ◌>>=◌}
use Rattle.capnp_request_meaning.specs.Meaning.{IsGroupEntry}
use Rattle.capnp_request_meaning.specs.Sound.{AnySaid, EachSaidSo, IsEnumerantSound, IsFieldSound, IsNodeKindSound, IsNodeSound, IsNodeOfKind, IsSaidSo, IsTextFor, Refusal}
use Rattle.capnp_request_meaning.proofs.EntriesKept.{whole_entry}
use Rattle.capnp_request_meaning.proofs.FieldsMeant.{AreMembersFrom, group_entry}
use Rattle.capnp_request_meaning.proofs.ListsFound.{before_or_last, still_at}
use Rattle.capnp_request_meaning.proofs.NamesSound.{AreEnumIds, ids_more}
use Rattle.capnp_request_meaning.proofs.WorkSound.{IsGood, IsOther, good_all, good_bind, good_said}
use Rattle.capnp_request_meaning.proofs.TypesSound.{AreNodesSound, Keeps, annotations_good, fields_good, name_said}

-- ---- entries ----

-- a group's parent has a smaller number
abbrev pub IsFinePlace : List SchemaNode → List Entry → ℕ → Entry → Place → Type 0
IsFinePlace nodes entries n e Whole = Unit {0}
IsFinePlace nodes entries n e (GroupOf p i) = (p < n) × IsGroupEntry nodes entries e p i

pub record IsFineAt (cause : Refusal) (nodes : List SchemaNode) (entries : List Entry) (n : ℕ) (e : Entry) : Type 0 where
  pub struct : IsNodeOfKind cause is_struct_kind nodes e.node
  pub place : IsFinePlace nodes entries n e e.place

abbrev pub AreFine : Refusal → List SchemaNode → List Entry → Type 0
AreFine cause nodes es = (n : ℕ) (e : Entry) → slice_get es n ≡ Some e → IsFineAt cause nodes es n e

group_still : (nodes : List SchemaNode) (es more : List Entry) (e : Entry) (p i : ℕ) → IsGroupEntry nodes es e p i → IsGroupEntry nodes (es ++ more) e p i
group_still nodes es more e p i g = record { parent = g.parent; node = g.node; part = g.part; members = g.members; field = g.field; numbered = still_at es more p g.parent g.numbered; same_bound = g.same_bound; first = g.first; struct = g.struct; listed = g.listed; member = g.member; group = g.group }

place_still : (nodes : List SchemaNode) (es more : List Entry) (n : ℕ) (e : Entry) (p : Place) → IsFinePlace nodes es n e p → IsFinePlace nodes (es ++ more) n e p
place_still nodes es more n e Whole h = tt
place_still nodes es more n e (GroupOf p i) h = (h.0, group_still nodes es more e p i h.1)

fine_more : (cause : Refusal) (nodes : List SchemaNode) (es : List Entry) (g : Entry) → AreFine cause nodes es → IsFineAt cause nodes (es ++ g ∷ []) (length es) g → AreFine cause nodes (es ++ g ∷ [])
fine_more cause nodes es g fine last n e there = go (before_or_last es g n e there)
  where
    go : (slice_get es n ≡ Some e) ⊎ ((n ≡ length es) × (g ≡ e)) → IsFineAt cause nodes (es ++ g ∷ []) n e
    go (inl a) = let f : IsFineAt cause nodes es n e = fine n e a in record { struct = f.struct; place = place_still nodes es (g ∷ []) n e e.place f.place }
    go (inr b) = subst (λ i. IsFineAt cause nodes (es ++ g ∷ []) i e) (sym b.0) (subst (λ y. IsFineAt cause nodes (es ++ g ∷ []) (length es) y) b.1 last)

-- entries and enums are of their kinds
pub record Fine (cause : Refusal) (nodes : List SchemaNode) (s : Named) : Type 0 where
  pub entries : AreFine cause nodes s.entries
  pub enums : AreEnumIds cause nodes s.enums

whole_fine : (cause : Refusal) (nodes : List SchemaNode) (es : List Entry) (id : ℕ) (bound : List Bound) → IsNodeOfKind cause is_struct_kind nodes id → AreFine cause nodes es → AreFine cause nodes (es ++ whole_entry id bound ∷ [])
whole_fine cause nodes es id bound is fine = fine_more cause nodes es (whole_entry id bound) fine (record { struct = is; place = tt })

pub fine_keeps : (cause : Refusal) (nodes : List SchemaNode) → Keeps cause nodes (Fine cause nodes)
fine_keeps cause nodes = record {
  seen = λ s x i. record { entries = i.entries; enums = i.enums };
  whole = λ s id bound is i. record { entries = whole_fine cause nodes s.entries id bound is i.entries; enums = i.enums };
  enums = λ s id is i. record { entries = i.entries; enums = ids_more cause nodes s.enums id i.enums is };
}

-- with an entry at its number
pub record FineWith (cause : Refusal) (nodes : List SchemaNode) (n : ℕ) (parent : Entry) (s : Named) : Type 0 where
  pub there : slice_get s.entries n ≡ Some parent
  pub entries : AreFine cause nodes s.entries
  pub enums : AreEnumIds cause nodes s.enums

pub with_keeps : (cause : Refusal) (nodes : List SchemaNode) (n : ℕ) (parent : Entry) → Keeps cause nodes (FineWith cause nodes n parent)
with_keeps cause nodes n parent = record {
  seen = λ s x i. record { there = i.there; entries = i.entries; enums = i.enums };
  whole = λ s id bound is i. record { there = still_at s.entries (whole_entry id bound ∷ []) n parent i.there; entries = whole_fine cause nodes s.entries id bound is i.entries; enums = i.enums };
  enums = λ s id is i. record { there = i.there; entries = i.entries; enums = ids_more cause nodes s.enums id i.enums is };
}

-- ---- structs ----

module _ (cause : Refusal) (other : IsOther cause) (nodes : List SchemaNode) (named : AreNodesSound cause nodes) (number : ℕ) (parent : Entry) (name : List ℕ) (node : SchemaNode) (first : node_named nodes parent.node ≡ Some node) where
  abbrev I : Named → Type 0
  I = FineWith cause nodes number parent

  groups_kept : (part : StructPart) (members : List (Said FieldTerm)) → node.kind ≡ StructNode part → part.fields ≡ Ok members → (s : Named) (i id : ℕ) (f : FieldTerm) → slice_get members i ≡ Some (Ok f) → f.kind ≡ GroupTerm id → IsNodeOfKind cause is_struct_kind nodes id → I s → I (record s { entries = s.entries ++ group_entry id parent.bound number i ∷ [] })
  groups_kept part members struct listed s i id f there is kind k =
      let g : Entry = group_entry id parent.bound number i in
      let here : slice_get (s.entries ++ g ∷ []) number ≡ Some parent = still_at s.entries (g ∷ []) number parent k.there in
      let less : number < length s.entries = slice_get_within s.entries number parent k.there in
      let group : IsGroupEntry nodes (s.entries ++ g ∷ []) g number i = record { parent = parent; node = node; part = part; members = members; field = f; numbered = here; same_bound = refl; first = first; struct = struct; listed = listed; member = there; group = is } in
      record { there = here; entries = fine_more cause nodes s.entries g k.entries (record { struct = kind; place = (less, group) }); enums = k.enums }

  fields_fine : (part : StructPart) → node.kind ≡ StructNode part → (d : Said (List (Said FieldTerm))) → part.fields ≡ d → IsSaidSo cause (EachSaidSo cause (IsFieldSound cause nodes)) d → IsGood cause I (work_said d >>= fields_of nodes cause.strict parent.bound number 0)
  fields_fine part struct (Err kind) listed is = λ s i. is
  fields_fine part struct (Ok members) listed is = fields_good cause other nodes named I (with_keeps cause nodes number parent) parent.bound number members (groups_kept part members struct listed) 0 members all_members is
    where
      all_members : AreMembersFrom members 0 members
      all_members j x h = let e : 0 + j ≡ j = omega arith in ap (λ i. slice_get members i) e ∙ h

  abbrev made_with : StructPart → List Converted → List (Annotation × SchemaType) → Node × Brand × List Note
  made_with part fields own = (
    record { id = parent.node; display_name = name; annotations = firsts own; data_word_count = part.data_words; pointer_count = part.pointers; is_group = part.is_group; discriminant_count = part.discriminant_count; discriminant_offset = part.discriminant_offset; fields = map (λ (f : Converted). f.field) fields },
    record { node = number; field_types = map (λ (f : Converted). f.type) fields; annotation_types = record { own = seconds own; children = map (λ (f : Converted). f.annotation_types) fields } },
    all_notes fields,
  )

  abbrev with_part : StructPart → Work (Node × Brand × List Note)
  with_part part = all_fields nodes cause.strict parent.bound number part.fields >>= (λ fields. annotations_of nodes cause.strict parent.bound node.annotations >>= (λ own. work_of (made_with part fields own)))

  part_fine : (part : StructPart) → node.kind ≡ StructNode part → IsGood cause I (with_part part)
  part_fine part struct =
      let is : IsNodeSound cause nodes node = named parent.node node first in
      let fields : IsSaidSo cause (EachSaidSo cause (IsFieldSound cause nodes)) part.fields = subst (IsNodeKindSound cause nodes) struct is.kind in
      good_bind cause I (all_fields nodes cause.strict parent.bound number part.fields) (λ fields. annotations_of nodes cause.strict parent.bound node.annotations >>= (λ own. work_of (made_with part fields own))) (fields_fine part struct part.fields refl fields)
      (λ made. good_bind cause I (annotations_of nodes cause.strict parent.bound node.annotations) (λ own. work_of (made_with part made own)) (annotations_good cause other nodes named I (with_keeps cause nodes number parent) parent.bound node.annotations is.annotations) (λ own s i. i))

  pub struct_fine : (NodeNotFound ≡ cause.kind → is_struct_kind node.kind ≡ true) → IsGood cause I (struct_made nodes cause.strict number parent.node parent.bound name node)
  struct_fine kind = go node.kind refl kind
    where
      go : (k : NodeKind) → node.kind ≡ k → (NodeNotFound ≡ cause.kind → is_struct_kind k ≡ true) → IsGood cause I (at_struct k with_part)
      go (StructNode part) is e = part_fine part is
      go (EnumNode members) is e = λ s i same. let f : false ≡ true = e same in cc
      go (AnnotationNode t) is e = λ s i same. let f : false ≡ true = e same in cc
      go OtherNode is e = λ s i same. let f : false ≡ true = e same in cc

-- ---- enums ----

module _ (cause : Refusal) (other : IsOther cause) (nodes : List SchemaNode) (named : AreNodesSound cause nodes) where
  enumerant_fine : (x : EnumerantTerm) → IsEnumerantSound cause nodes x → IsGood cause (Fine cause nodes) (enumerant_of nodes cause.strict x)
  enumerant_fine x is =
      good_said cause (Fine cause nodes) x.name (λ bytes. work_said (converted_name bytes) >>= (λ name. annotations_of nodes cause.strict [] x.annotations >>= (λ annotations. work_of (record { name = name; annotations = firsts annotations }, seconds annotations)))) (IsTextFor cause) is.name
      (λ bytes e text. good_said cause (Fine cause nodes) (converted_name bytes) (λ name. annotations_of nodes cause.strict [] x.annotations >>= (λ annotations. work_of (record { name = name; annotations = firsts annotations }, seconds annotations))) AnySaid (name_said cause bytes text)
      (λ name f v. good_bind cause (Fine cause nodes) (annotations_of nodes cause.strict [] x.annotations) (λ annotations. work_of (record { name = name; annotations = firsts annotations }, seconds annotations)) (annotations_good cause other nodes named (Fine cause nodes) (fine_keeps cause nodes) [] x.annotations is.annotations) (λ annotations s i. i)))

  module _ (id : ℕ) (name : List ℕ) (node : SchemaNode) (first : node_named nodes id ≡ Some node) where
    abbrev enum_with : List (Enumerant × List SchemaType) → List (Annotation × SchemaType) → Enum
    enum_with children own = record {
      id = id;
      display_name = name;
      annotations = firsts own;
      enumerants = map (λ (c : Enumerant × List SchemaType). c.0) children;
      annotation_types = record { own = seconds own; children = map (λ (c : Enumerant × List SchemaType). c.1) children };
    }

    abbrev with_children : List (Enumerant × List SchemaType) → Work Enum
    with_children children = annotations_of nodes cause.strict [] node.annotations >>= (λ own. work_of (enum_with children own))

    abbrev with_members : Said (List (Said EnumerantTerm)) → Work Enum
    with_members members = all_enumerants nodes cause.strict members >>= with_children

    members_fine : (members : Said (List (Said EnumerantTerm))) → node.kind ≡ EnumNode members → IsGood cause (Fine cause nodes) (with_members members)
    members_fine members enumeration =
        let is : IsNodeSound cause nodes node = named id node first in
        let all : IsSaidSo cause (EachSaidSo cause (IsEnumerantSound cause nodes)) members = subst (IsNodeKindSound cause nodes) enumeration is.kind in
        good_bind cause (Fine cause nodes) (all_enumerants nodes cause.strict members) with_children (good_all cause (Fine cause nodes) (enumerant_of nodes cause.strict) (IsEnumerantSound cause nodes) enumerant_fine members all)
        (λ children. good_bind cause (Fine cause nodes) (annotations_of nodes cause.strict [] node.annotations) (λ own. work_of (enum_with children own)) (annotations_good cause other nodes named (Fine cause nodes) (fine_keeps cause nodes) [] node.annotations is.annotations) (λ own s i. i))

    pub enum_fine : (NodeNotFound ≡ cause.kind → is_enum node.kind ≡ true) → IsGood cause (Fine cause nodes) (enum_made nodes cause.strict id name node)
    enum_fine kind = go node.kind refl kind
      where
        go : (k : NodeKind) → node.kind ≡ k → (NodeNotFound ≡ cause.kind → is_enum k ≡ true) → IsGood cause (Fine cause nodes) (at_enum k with_members)
        go (EnumNode members) is e = members_fine members is
        go (StructNode part) is e = λ s i same. let f : false ≡ true = e same in cc
        go (AnnotationNode t) is e = λ s i same. let f : false ≡ true = e same in cc
        go OtherNode is e = λ s i same. let f : false ≡ true = e same in cc
