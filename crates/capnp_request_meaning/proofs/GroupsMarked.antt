-- In an accepted set the groups of fields are marked as groups, and no other entry is.
use Rattle.std.proofs.Common.{ℕ, ◌+◌, ◌<◌, ◌≡◌, ◌∙◌, ap, arith, refl, subst, sym, Bool, true, false, List, [], length, slice_get, Option, Some, Ok}
use Rattle.std.specs.Option.{unwrap_or}
use Rattle.std.proofs.lemmas.Option.{slice_get_within}
use Rattle.capnp_schema.specs.Accepted.{GroupFits, HasOneParent, IsAccepted, IsGroupOf, IsParent}
use Rattle.capnp_schema.specs.Schema.{Brand, Field, FieldKind, Group, Node, Schemas, Slot, TypedField, brand_at, field_at, fields_of, no_brand, no_field, node_of, typed_fields}
use Rattle.capnp_schema.specs.Types.{SchemaType, StructType, struct_brand}
use Rattle.capnp_request.specs.Scopes.{node_named}
use Rattle.capnp_request.specs.Terms.{FieldKindTerm, FieldTerm, GroupTerm, NodeKind, RequestTerm, Said, SchemaNode, SlotTerm, StructNode, StructPart, UnreadField}
use Rattle.capnp_request.specs.Work.{Bound, Entry, GroupOf, MarkedType, Place, Whole, plain}
use Rattle.capnp_request_meaning.specs.Found.{IsEntryNode, is_group_place}
use Rattle.capnp_request_meaning.specs.Laws.{GroupsAreMarked}
use Rattle.capnp_request_meaning.specs.Meaning.{IsEntryAt, IsGroupEntry, IsKindOf, IsSetOf, Numbers, numbers_in}
use Rattle.capnp_request_meaning.proofs.FieldsMeant.{group_entry}
use Rattle.capnp_request_meaning.proofs.GroupsOnce.{group_is_one}
use Rattle.capnp_request_meaning.proofs.ListsFound.{same_some, there_below}
use Rattle.capnp_request_meaning.proofs.NamesDiffer.{entry_at}
use Rattle.capnp_request_meaning.proofs.NodesFound.{FieldAt, MadeAt, brand_node, brands_counted, field_found, fields_counted, made_at, typed_at, typed_below}

pub same_part : (k : NodeKind) (a b : StructPart) → k ≡ StructNode a → k ≡ StructNode b → a ≡ b
same_part k a b e f = let h : StructNode a ≡ StructNode b = sym e ∙ f in cc

pub same_members : (d : Said (List (Said FieldTerm))) (a b : List (Said FieldTerm)) → d ≡ Ok a → d ≡ Ok b → a ≡ b
same_members d a b e f = let h : ◌≡◌ {A = Said (List (Said FieldTerm))} (Ok a) (Ok b) = sym e ∙ f in cc

pub same_term : {a b : FieldTerm} → ◌≡◌ {A = Option (Said FieldTerm)} (Some (Ok a)) (Some (Ok b)) → a ≡ b
same_term e = cc

-- a group's field names an entry of its place
pub record NamesGroup (k : Numbers) (inside : List Bound) (n i number : ℕ) (u : MarkedType) : Type 0 where
  pub id : ℕ
  pub type : u ≡ plain (StructType number number)
  pub entry : slice_get k.entries number ≡ Some (group_entry id inside n i)

pub names_group : (k : Numbers) (inside : List Bound) (n i number : ℕ) (u : MarkedType) (q : FieldKindTerm) → IsKindOf k inside n i q (Group number) u → NamesGroup k inside n i number u
names_group k inside n i number u (GroupTerm id) h = record { id = id; type = h.0; entry = h.1 }
names_group k inside n i number u (SlotTerm offset t default) h = absurd h
names_group k inside n i number u (UnreadField kind) h = absurd h

pub group_kind : (k : Numbers) (inside : List Bound) (n i : ℕ) (u : MarkedType) (q : FieldKindTerm) (g : FieldKind) (id : ℕ) → q ≡ GroupTerm id → IsKindOf k inside n i q g u → (number : ℕ) × (g ≡ Group number)
group_kind k inside n i u (GroupTerm id) (Group number) other e h = (number, refl)
group_kind k inside n i u (GroupTerm id) (Slot offset default) other e h = absurd h
group_kind k inside n i u (SlotTerm offset t default) g id e h = absurd (cc)
group_kind k inside n i u (UnreadField kind) g id e h = absurd (cc)

module _ (r : RequestTerm) (strict : Bool) (set : Schemas) (is : IsSetOf r strict set) where
  abbrev pub k : Numbers
  k = numbers_in r strict is.entries set

  module _ (i : ℕ) (e : Entry) (there : slice_get is.entries i ≡ Some e) where
    abbrev pub made : MadeAt k set.nodes set.brands e i i
    made = made_at k is.entries set.nodes set.brands i e is.nodes there

    pub brand_within : i < length set.brands
    brand_within = slice_get_within set.brands i made.brand made.branded

    pub own_node : node_of set i ≡ made.node
    own_node = brand_node set i made.node made.brand made.branded (made.is.brand ∙ made.count) made.numbered

    pub own_brand : brand_at set i ≡ made.brand
    own_brand = ap (λ o. unwrap_or o (no_brand set)) made.branded

    pub own_fields : fields_of set i ≡ typed_fields made.node.fields made.brand.field_types
    own_fields = ap (λ (n : Node). typed_fields n.fields (brand_at set i).field_types) own_node ∙ ap (λ (b : Brand). typed_fields made.node.fields b.field_types) own_brand

    -- a field by its index
    pub field_within : (j : ℕ) → j < length made.node.fields → FieldAt k e.bound i 0 j made.is.members made.node.fields made.brand.field_types
    field_within j less = subst (λ l. FieldAt k e.bound l 0 j made.is.members made.node.fields made.brand.field_types) made.count (field_found k e.bound (length made.before) 0 j made.is.members made.node.fields made.brand.field_types made.brand.annotation_types.children made.is.fields less)

    -- each that can be read stands in the node
    pub member_within : (j : ℕ) (x : Said FieldTerm) → slice_get made.is.members j ≡ Some x → j < length made.node.fields
    member_within j x h =
        let inside : j < length made.is.members = slice_get_within made.is.members j x h in
        let count : length made.is.members ≡ length made.node.fields = fields_counted k e.bound (length made.before) 0 made.is.members made.node.fields made.brand.field_types made.brand.annotation_types.children made.is.fields in
        omega (arith, inside, count)

    pub typed_within : (j : ℕ) (f : FieldAt k e.bound i 0 j made.is.members made.node.fields made.brand.field_types) → slice_get (fields_of set i) j ≡ Some (record { field = f.field; type = f.type })
    typed_within j f = ap (λ fs. slice_get fs j) own_fields ∙ typed_at made.node.fields made.brand.field_types j f.field f.type f.there f.typed

    pub own_field : (j : ℕ) (f : FieldAt k e.bound i 0 j made.is.members made.node.fields made.brand.field_types) → field_at set i j ≡ record { field = f.field; type = f.type }
    own_field j f = ap (λ o. unwrap_or o no_field) (typed_within j f)

  -- the field that a group's place is, in its parent
  pub record GroupField (j p l : ℕ) : Type 0 where
    pub parent : Entry
    pub there : slice_get is.entries p ≡ Some parent
    pub node : SchemaNode
    pub part : StructPart
    pub members : List (Said FieldTerm)
    pub term : FieldTerm
    pub id : ℕ
    pub first : node_named r.nodes parent.node ≡ Some node
    pub struct : node.kind ≡ StructNode part
    pub listed : part.fields ≡ Ok members
    pub member : slice_get members l ≡ Some (Ok term)
    pub group : term.kind ≡ GroupTerm id
    pub field : Field
    pub stands : slice_get (made p parent there).node.fields l ≡ Some field
    pub name : term.name ≡ Ok field.name
    pub kind : field.kind ≡ Group j
    pub typed : field_at set p l ≡ record { field = field; type = StructType j j }
    pub inside : l < length (fields_of set p)

  module _ (j : ℕ) (e : Entry) (there : slice_get is.entries j ≡ Some e) (p l : ℕ) (place : e.place ≡ GroupOf p l) where
    abbrev named_by : IsGroupEntry r.nodes is.entries e p l
    named_by = subst (λ q. IsEntryAt r.nodes is.entries e q) place (entry_at r.nodes is.entries is.entries j e is.bound there)

    abbrev parent_made : MadeAt k set.nodes set.brands named_by.parent p p
    parent_made = made p named_by.parent named_by.numbered

    same_members_there : named_by.members ≡ parent_made.is.members
    same_members_there =
        let nodes : named_by.node ≡ parent_made.is.node = same_some (sym named_by.first ∙ parent_made.is.first) in
        let parts : named_by.part ≡ parent_made.is.part = same_part parent_made.is.node.kind named_by.part parent_made.is.part (ap (λ (n : SchemaNode). n.kind) (sym nodes) ∙ named_by.struct) parent_made.is.struct in
        same_members parent_made.is.part.fields named_by.members parent_made.is.members (ap (λ (q : StructPart). q.fields) (sym parts) ∙ named_by.listed) parent_made.is.listed

    said_there : slice_get parent_made.is.members l ≡ Some (Ok named_by.field)
    said_there = ap (λ xs. slice_get xs l) (sym same_members_there) ∙ named_by.member

    abbrev field_here : FieldAt k named_by.parent.bound p 0 l parent_made.is.members parent_made.node.fields parent_made.brand.field_types
    field_here = field_within p named_by.parent named_by.numbered l (member_within p named_by.parent named_by.numbered l (Ok named_by.field) said_there)

    same_field : field_here.term ≡ named_by.field
    same_field = same_term (sym field_here.said ∙ said_there)

    is_group_term : field_here.term.kind ≡ GroupTerm e.node
    is_group_term = ap (λ (f : FieldTerm). f.kind) same_field ∙ named_by.group

    group_field_of : (number : ℕ) → field_here.field.kind ≡ Group number → GroupField j p l
    group_field_of number kind =
        let names : NamesGroup k named_by.parent.bound p (0 + l) number field_here.is.said = names_group k named_by.parent.bound p (0 + l) number field_here.is.said field_here.term.kind (subst (λ g. IsKindOf k named_by.parent.bound p (0 + l) field_here.term.kind g field_here.is.said) kind field_here.is.kind) in
        let here : GroupOf p (0 + l) ≡ GroupOf p l = (let q : 0 + l ≡ l = omega arith in ap (λ x. GroupOf p x) q) in
        let one : number ≡ j = group_is_one is.entries is.distinct_groups number j p l (group_entry names.id named_by.parent.bound p (0 + l)) e names.entry there here place in
        let type : field_here.type ≡ StructType j j = field_here.is.stands ∙ (ap (λ (u : MarkedType). u.type) names.type ∙ ap (λ x. StructType x x) one) in
        record {
          parent = named_by.parent;
          there = named_by.numbered;
          node = named_by.node;
          part = named_by.part;
          members = named_by.members;
          term = named_by.field;
          id = e.node;
          first = named_by.first;
          struct = named_by.struct;
          listed = named_by.listed;
          member = named_by.member;
          group = named_by.group;
          field = field_here.field;
          stands = field_here.there;
          name = ap (λ (f : FieldTerm). f.name) (sym same_field) ∙ field_here.is.name;
          kind = kind ∙ ap (λ x. Group x) one;
          typed = own_field p named_by.parent named_by.numbered l field_here ∙ ap (λ (t : SchemaType). record { field = field_here.field; type = t }) type;
          inside = slice_get_within (fields_of set p) l (record { field = field_here.field; type = field_here.type }) (typed_within p named_by.parent named_by.numbered l field_here);
        }

    pub group_field : GroupField j p l
    group_field = let q = group_kind k named_by.parent.bound p (0 + l) field_here.is.said field_here.term.kind field_here.field.kind e.node is_group_term field_here.is.kind in group_field_of q.0 q.1

  -- ---- marks ----

  module _ (accepted : IsAccepted set) where
    group_marked : (j p l : ℕ) (e : Entry) → slice_get is.entries j ≡ Some e → e.place ≡ GroupOf p l → (node_of set j).is_group ≡ true
    group_marked j p l e there place =
        let g : GroupField j p l = group_field j e there p l place in
        let fits : GroupFits set (field_at set p l).field.kind (field_at set p l).type = accepted.rule7 p l (brand_within p g.parent g.there) g.inside in
        let here : GroupFits set g.field.kind (StructType j j) = subst (λ (f : TypedField). GroupFits set f.field.kind f.type) g.typed fits in
        let group : GroupFits set (Group j) (StructType j j) = subst (λ (q : FieldKind). GroupFits set q (StructType j j)) g.kind here in
        group.1

    named_group : (q : FieldKind) (t : SchemaType) (j : ℕ) → IsGroupOf q t j → (number : ℕ) × (q ≡ Group number) × (struct_brand t ≡ Some j)
    named_group (Slot offset default) t j h = absurd h
    named_group (Group number) t j h = (number, refl, h)

    module _ (j : ℕ) (e : Entry) (there : slice_get is.entries j ≡ Some e) (whole : e.place ≡ Whole) where
      no_parent : (b i : ℕ) → IsParent set j b i → ⊥
      no_parent b i h =
          let count : length is.entries ≡ length set.brands = brands_counted k [] [] is.entries set.nodes set.brands is.nodes in
          let less : b < length set.brands = h.brand in
          let parent : (x : Entry) × (slice_get is.entries b ≡ Some x) = there_below is.entries b (omega (arith, less, count)) in
          let below : i < length (typed_fields (made b parent.0 parent.1).node.fields (made b parent.0 parent.1).brand.field_types) = subst (λ fs. i < length fs) (own_fields b parent.0 parent.1) h.field in
          let f : FieldAt k parent.0.bound b 0 i (made b parent.0 parent.1).is.members (made b parent.0 parent.1).node.fields (made b parent.0 parent.1).brand.field_types = field_within b parent.0 parent.1 i (typed_below (made b parent.0 parent.1).node.fields (made b parent.0 parent.1).brand.field_types i below) in
          let q : (number : ℕ) × (f.field.kind ≡ Group number) × (struct_brand f.type ≡ Some j) = named_group f.field.kind f.type j (subst (λ (t : TypedField). IsGroupOf t.field.kind t.type j) (own_field b parent.0 parent.1 i f) h.names) in
          let names : NamesGroup k parent.0.bound b (0 + i) q.0 f.is.said = names_group k parent.0.bound b (0 + i) q.0 f.is.said f.term.kind (subst (λ g. IsKindOf k parent.0.bound b (0 + i) f.term.kind g f.is.said) q.1 f.is.kind) in
          let one : q.0 ≡ j = same_some (sym (ap struct_brand (f.is.stands ∙ ap (λ (u : MarkedType). u.type) names.type)) ∙ q.2) in
          let entry : group_entry names.id parent.0.bound b (0 + i) ≡ e = same_some (sym names.entry ∙ (ap (λ x. slice_get is.entries x) one ∙ there)) in
          let place : GroupOf b (0 + i) ≡ Whole = ap (λ (x : Entry). x.place) entry ∙ whole in
          absurd (cc)

      whole_unmarked : (node_of set j).is_group ≡ false
      whole_unmarked = go (node_of set j).is_group refl
        where
          go : (q : Bool) → (node_of set j).is_group ≡ q → (node_of set j).is_group ≡ false
          go false h = h
          go true h = let one : HasOneParent set j = (accepted.rule8 j (brand_within j e there) h).0 in absurd (no_parent one.parent one.index one.is_parent)

    pub marked_by : (j : ℕ) (e : Entry) (there : slice_get is.entries j ≡ Some e) (p : Place) → e.place ≡ p → (node_of set j).is_group ≡ is_group_place p
    marked_by j e there Whole place = whole_unmarked j e there place
    marked_by j e there (GroupOf p l) place = group_marked j p l e there place

    pub marked : (j : ℕ) (e : Entry) (n : Node) → IsEntryNode is.entries set j e n → n.is_group ≡ is_group_place e.place
    marked j e n h =
        let node : node_of set j ≡ n = own_node j e h.there ∙ same_some (sym (made j e h.there).numbered ∙ h.node) in
        ap (λ (x : Node). x.is_group) (sym node) ∙ marked_by j e h.there e.place refl

pub groups_marked : GroupsAreMarked
groups_marked r strict set is accepted i e n h = marked r strict set is accepted i e n h
