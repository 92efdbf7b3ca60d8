-- What the fields and annotations of an entry or an enum that is reached lead to.
use Rattle.std.proofs.Common.{ℕ, ◌+◌, ◌≡◌, ◌&&◌, refl, subst, sym, Bool, List, [], ◌∷◌, ◌++◌, length, slice_get, Some, Ok, Err}
use Rattle.capnp_device.specs.declared.error.ErrorKind.TheVariants.{NodeNotFound}
use Rattle.capnp_schema.specs.Schema.{Brand, Enumerant, FieldKind, Group, Node, Slot}
use Rattle.capnp_schema.specs.Types.{SchemaType, StructType}
use Rattle.capnp_request.specs.Conversion.{Converted, Note, annotations_of, converted_field, converted_name, field_of, fields_of, is_untyped, is_untyped_default, kind_of, notes_of}
use Rattle.capnp_request.specs.Order.{Made, add_struct, all_enumerants, all_fields, begin_enum, begin_struct, enum_made, enumerant_of, firsts, make_enum, make_struct, seconds, struct_made, with_struct}
use Rattle.capnp_request.specs.Scopes.{node_named}
use Rattle.capnp_request.specs.Terms.{AnnotationTerm, EnumNode, EnumerantTerm, FieldKindTerm, FieldTerm, GroupTerm, RequestTerm, Said, SchemaNode, SlotTerm, StructNode, StructPart, TypeTerm, UnreadField, ValueTerm}
use Rattle.capnp_request.specs.Types.{add_entry, is_of_kind, is_struct_kind, type_of, where_node}
use Rattle.capnp_request.specs.Values.{value_stated}
use Rattle.capnp_request.specs.Work.{Bound, Entry, MarkedType, Named, Seen, Work, plain, seen_in, work_of, work_said, ◌>>=◌}
use Rattle.capnp_request_meaning.specs.Meaning.{ByAnnotation, ByField, ByGroup, EntryAt, EnumAt, HasAnnotation, IsNodeAt, IsReached, IsRead, OfEnumerant, OfField, OfNode, StandsIn, Target}
use Rattle.capnp_request_meaning.proofs.EnumsMeant as enums
use Rattle.capnp_request_meaning.proofs.FieldsMeant.{AreMembersFrom, first_member, group_entry, other_members}
use Rattle.capnp_request_meaning.proofs.Leads.{AnyEntries, IsLed, OneLeads, any_whole, led_all, led_bind, led_enum, led_of, led_said, led_seen, led_struct, led_weaken, led_where}
use Rattle.capnp_request_meaning.proofs.NamesMeant.{IsBegun, IsEnumBegun, enum_begun, struct_begun}
use Rattle.capnp_request_meaning.proofs.NodesMeant as nodes
use Rattle.capnp_request_meaning.proofs.TypesLed.{AnnotationLed, IsAdded, Leads, annotations_led, entry_led, type_led}
use Rattle.capnp_request_meaning.proofs.TypesMeant.{numbers}

module _ (r : RequestTerm) (strict : Bool) where
  abbrev pub Reached : Target → Named → Type 0
  Reached x z = IsReached r (numbers r.nodes strict z) x

  -- what is reached where something of a node is, with types bound inside
  abbrev pub Hence : (y : Target) → SchemaNode → List Bound → Target → Named → Type 0
  Hence y node inside x z = Reached y z → IsNodeAt (numbers r.nodes strict z) y node inside → Reached x z

  -- by an annotation
  noted : (y : Target) (node : SchemaNode) (inside : List Bound) (d : Said (List (Said AnnotationTerm))) → ((i : ℕ) (a : AnnotationTerm) → IsRead d i a → HasAnnotation node a) → IsLed (annotations_of r.nodes strict inside d) (Hence y node inside)
  noted y node inside d has = led_weaken (annotations_of r.nodes strict inside d) (OneLeads d (AnnotationLed r.nodes strict inside)) (Hence y node inside)
      (λ x z o reached at. ByAnnotation x y node inside o.one reached at (has o.index o.one o.read) o.leads)
      (annotations_led r.nodes strict inside d)

  -- ---- fields ----

  module _ (n : ℕ) (inside : List Bound) (node : SchemaNode) (part : StructPart) (struct : node.kind ≡ StructNode part) where
    abbrev pub On : Target → Named → Type 0
    On = Hence (EntryAt n) node inside

    slot_led : (i offset : ℕ) (t : TypeTerm) (default : ValueTerm) (f : FieldTerm) → IsRead part.fields i f → f.kind ≡ SlotTerm offset t default → IsLed (kind_of r.nodes strict inside n i (SlotTerm offset t default)) On
    slot_led i offset t default f read is =
        led_bind (seen_in (type_of r.nodes strict inside t)) (λ (typed : MarkedType × Seen). work_said (value_stated default) >>= (λ v. work_of (Slot offset v, typed.0, notes_of n i typed.1 (is_untyped typed.0.type && is_untyped_default default)))) On
        (led_weaken (seen_in (type_of r.nodes strict inside t)) (Leads r.nodes strict inside (StandsIn r.nodes t)) On (λ x z k reached at. ByField x (EntryAt n) node inside part i f offset t default reached at struct read is k)
        (led_seen (type_of r.nodes strict inside t) (Leads r.nodes strict inside (StandsIn r.nodes t)) (type_led r.nodes strict inside t)))
        (λ typed. led_said (value_stated default) (λ v. work_of (Slot offset v, typed.0, notes_of n i typed.1 (is_untyped typed.0.type && is_untyped_default default))) On
        (λ v said. led_of {A = FieldKind × MarkedType × List Note} (Slot offset v, typed.0, notes_of n i typed.1 (is_untyped typed.0.type && is_untyped_default default)) On))

    grouped : (i id : ℕ) (x : Target) (z : Named) → IsAdded (group_entry id inside n i) x z → On x z
    grouped i id x z h reached at = subst (λ y. Reached y z) (sym h.1) (ByGroup h.0 n i (group_entry id inside n i) reached h.2 refl)

    group_led : (i id : ℕ) → IsLed (kind_of r.nodes strict inside n i (GroupTerm id)) On
    group_led i id =
        led_bind (where_node is_struct_kind r.nodes id (add_entry (group_entry id inside n i))) (λ number. work_of (Group number, plain (StructType number number), [])) On
        (λ s. led_where (is_of_kind is_struct_kind (node_named r.nodes id)) NodeNotFound s On (add_entry (group_entry id inside n i) s)
        (λ found. led_weaken (add_entry (group_entry id inside n i)) (IsAdded (group_entry id inside n i)) On (grouped i id) (entry_led (group_entry id inside n i)) s))
        (λ number. led_of {A = FieldKind × MarkedType × List Note} (Group number, plain (StructType number number), []) On)

    pub kind_led : (i : ℕ) (f : FieldTerm) → IsRead part.fields i f → (k : FieldKindTerm) → f.kind ≡ k → IsLed (kind_of r.nodes strict inside n i k) On
    kind_led i f read (SlotTerm offset t default) is = slot_led i offset t default f read is
    kind_led i f read (GroupTerm id) is = group_led i id
    kind_led i f read (UnreadField kind) is = λ s. tt

    pub field_led : (i : ℕ) (f : FieldTerm) → IsRead part.fields i f → IsLed (field_of r.nodes strict inside n i f) On
    field_led i f read =
        led_said f.name (λ bytes. work_said (converted_name bytes) >>= (λ name. kind_of r.nodes strict inside n i f.kind >>= (λ kind. annotations_of r.nodes strict inside f.annotations >>= (λ annotations. work_of (converted_field name f.discriminant_value kind annotations))))) On
        (λ bytes said. led_said (converted_name bytes) (λ name. kind_of r.nodes strict inside n i f.kind >>= (λ kind. annotations_of r.nodes strict inside f.annotations >>= (λ annotations. work_of (converted_field name f.discriminant_value kind annotations)))) On
        (λ name taken. led_bind (kind_of r.nodes strict inside n i f.kind) (λ kind. annotations_of r.nodes strict inside f.annotations >>= (λ annotations. work_of (converted_field name f.discriminant_value kind annotations))) On (kind_led i f read f.kind refl)
        (λ kind. led_bind (annotations_of r.nodes strict inside f.annotations) (λ annotations. work_of (converted_field name f.discriminant_value kind annotations)) On
        (noted (EntryAt n) node inside f.annotations (λ j a said. OfField part i j f struct read said))
        (λ annotations. led_of (converted_field name f.discriminant_value kind annotations) On))))

    module _ (members : List (Said FieldTerm)) (listed : part.fields ≡ Ok members) where
      pub fields_led : (i : ℕ) (fs : List (Said FieldTerm)) → AreMembersFrom members i fs → IsLed (fields_of r.nodes strict inside n i fs) On
      fields_led i [] h = led_of {A = List Converted} [] On
      fields_led i (Err kind ∷ fs) h = λ s. tt
      fields_led i (Ok f ∷ fs) h =
          led_bind (field_of r.nodes strict inside n i f) (λ first. fields_of r.nodes strict inside n (i + 1) fs >>= (λ rest. work_of (first ∷ rest))) On
          (field_led i f (record { list = members; said = listed; there = first_member members i (Ok f) fs h }))
          (λ first. led_bind (fields_of r.nodes strict inside n (i + 1) fs) (λ rest. work_of (first ∷ rest)) On (fields_led (i + 1) fs (other_members members i (Ok f) fs h)) (λ rest. led_of (first ∷ rest) On))

    all_fields_led : (d : Said (List (Said FieldTerm))) → part.fields ≡ d → IsLed (work_said d >>= fields_of r.nodes strict inside n 0) On
    all_fields_led (Ok members) listed = fields_led members listed 0 members (nodes.all_members AnyEntries r.nodes (any_whole r.nodes) strict n 0 inside [] node members)
    all_fields_led (Err kind) listed = λ s. tt

  -- ---- entries ----

  -- where the entry at n is reached, and still there
  abbrev pub HenceEntry : (n : ℕ) → Entry → Target → Named → Type 0
  HenceEntry n e x z = Reached (EntryAt n) z → slice_get z.entries n ≡ Some e → Reached x z

  abbrev pub HenceEnum : (n id : ℕ) → Target → Named → Type 0
  HenceEnum n id x z = Reached (EnumAt n) z → slice_get z.enums n ≡ Some id → Reached x z

  module _ (n id : ℕ) (inside : List Bound) (name : List ℕ) (node : SchemaNode) where
    abbrev with_all : StructPart → List Converted → Work (Node × Brand × List Note)
    with_all part = nodes.with_fields AnyEntries r.nodes (any_whole r.nodes) strict n id inside name node part

    struct_made_led : IsLed (struct_made r.nodes strict n id inside name node) (Hence (EntryAt n) node inside)
    struct_made_led = led_struct node.kind (λ part. all_fields r.nodes strict inside n part.fields >>= with_all part) (Hence (EntryAt n) node inside) (λ part struct.
        led_bind (all_fields r.nodes strict inside n part.fields) (with_all part) (Hence (EntryAt n) node inside) (all_fields_led n inside node part struct part.fields refl)
        (λ fields. led_bind (annotations_of r.nodes strict inside node.annotations) (nodes.with_own AnyEntries r.nodes (any_whole r.nodes) strict n id inside name node part fields) (Hence (EntryAt n) node inside) (noted (EntryAt n) node inside node.annotations (λ i a said. OfNode i said))
        (λ own. led_of (nodes.made_with AnyEntries r.nodes (any_whole r.nodes) strict n id inside name node part fields own) (Hence (EntryAt n) node inside))))

  module _ (m : Made) (e : Entry) where
    pub struct_step_led : IsLed (make_struct r.nodes strict m e) (HenceEntry (length m.nodes) e)
    struct_step_led s = led_said (begin_struct r.nodes m e s.enums) (add_struct r.nodes strict m e.node e.bound) (HenceEntry (length m.nodes) e) (λ b h.
        let begun : IsBegun r.nodes m e b = struct_begun r.nodes m e s.enums b h in
        led_bind (struct_made r.nodes strict (length m.nodes) e.node e.bound b.name b.node) (λ made. work_of (with_struct r.nodes strict m b made)) (HenceEntry (length m.nodes) e)
        (led_weaken (struct_made r.nodes strict (length m.nodes) e.node e.bound b.name b.node) (Hence (EntryAt (length m.nodes)) b.node e.bound) (HenceEntry (length m.nodes) e)
        (λ x z k reached there. k reached (e, there, refl, begun.first)) (struct_made_led (length m.nodes) e.node e.bound b.name b.node))
        (λ made. led_of (with_struct r.nodes strict m b made) (HenceEntry (length m.nodes) e))) s

  -- ---- enums ----

  module _ (n : ℕ) (node : SchemaNode) where
    abbrev pub OnEnum : Target → Named → Type 0
    OnEnum = Hence (EnumAt n) node []

    module _ (members : Said (List (Said EnumerantTerm))) (enumeration : node.kind ≡ EnumNode members) where
      abbrev pub OneLed : EnumerantTerm → Target → Named → Type 0
      OneLed x y z = (i : ℕ) → IsRead members i x → OnEnum y z

      pub enumerant_led : (x : EnumerantTerm) → IsLed (enumerant_of r.nodes strict x) (OneLed x)
      enumerant_led x =
          led_said x.name (λ bytes. work_said (converted_name bytes) >>= enums.enumerant_named AnyEntries r.nodes (any_whole r.nodes) strict x) (OneLed x)
          (λ bytes said. led_said (converted_name bytes) (enums.enumerant_named AnyEntries r.nodes (any_whole r.nodes) strict x) (OneLed x)
          (λ name taken. led_bind (annotations_of r.nodes strict [] x.annotations) (enums.enumerant_with AnyEntries r.nodes (any_whole r.nodes) strict name) (OneLed x) (one_noted x)
          (λ annotations. led_of {A = Enumerant × List SchemaType} (record { name = name; annotations = firsts annotations }, seconds annotations) (OneLed x))))
        where
          one_noted : (x : EnumerantTerm) → IsLed (annotations_of r.nodes strict [] x.annotations) (OneLed x)
          one_noted x = led_weaken (annotations_of r.nodes strict [] x.annotations) (OneLeads x.annotations (AnnotationLed r.nodes strict [])) (OneLed x)
              (λ y z o i read reached at. ByAnnotation y (EnumAt n) node [] o.one reached at (OfEnumerant members i o.index x enumeration read o.read) o.leads)
              (annotations_led r.nodes strict [] x.annotations)

      pub enumerants_led : IsLed (all_enumerants r.nodes strict members) OnEnum
      enumerants_led = led_weaken (all_enumerants r.nodes strict members) (OneLeads members OneLed) OnEnum (λ y z o. o.leads o.index o.read) (led_all (enumerant_of r.nodes strict) OneLed enumerant_led members)

    enum_made_led : (id : ℕ) (name : List ℕ) → IsLed (enum_made r.nodes strict id name node) OnEnum
    enum_made_led id name = led_enum node.kind (enums.with_members AnyEntries r.nodes (any_whole r.nodes) strict id name node) OnEnum (λ members is.
        led_bind (all_enumerants r.nodes strict members) (enums.with_children AnyEntries r.nodes (any_whole r.nodes) strict id name node) OnEnum (enumerants_led members is)
        (λ children. led_bind (annotations_of r.nodes strict [] node.annotations) (enums.with_own AnyEntries r.nodes (any_whole r.nodes) strict id name node children) OnEnum (noted (EnumAt n) node [] node.annotations (λ i a said. OfNode i said))
        (λ own. led_of (enums.enum_with AnyEntries r.nodes (any_whole r.nodes) strict id name node children own) OnEnum)))

  module _ (m : Made) (id : ℕ) where
    pub enum_step_led : IsLed (make_enum r.nodes strict m id) (HenceEnum (length m.enums) id)
    enum_step_led = led_said (begin_enum r.nodes id) (enums.with_begun AnyEntries r.nodes (any_whole r.nodes) strict m id) (HenceEnum (length m.enums) id) (λ b h.
        let begun : IsEnumBegun r.nodes id b.0 b.1 = enum_begun r.nodes id b h in
        led_bind (enum_made r.nodes strict id b.0 b.1) (enums.with_enum AnyEntries r.nodes (any_whole r.nodes) strict m id) (HenceEnum (length m.enums) id)
        (led_weaken (enum_made r.nodes strict id b.0 b.1) (Hence (EnumAt (length m.enums)) b.1 []) (HenceEnum (length m.enums) id)
        (λ x z k reached there. k reached (id, there, refl, begun.first)) (enum_made_led (length m.enums) b.1 id b.0))
        (λ e. led_of (record m { enums = m.enums ++ e ∷ [] }) (HenceEnum (length m.enums) id)))
