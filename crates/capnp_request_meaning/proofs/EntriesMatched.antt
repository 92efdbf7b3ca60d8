-- Each entry and each enum that a request leads to, by whatever numbers, is one of the set that the request is converted to.
use Rattle.std.proofs.Common.{ℕ, zero, suc, ◌+◌, ◌≡◌, ◌∙◌, ap, arith, refl, subst, sym, Bool, false, List, [], ◌∷◌, map, slice_get, Some, Ok, Err}
use Rattle.capnp_schema.specs.Schema.{Annotation, Enum, Enumerant, FieldKind, Group, Schemas, Slot}
use Rattle.capnp_schema.specs.Types.{SchemaType, StructType}
use Rattle.capnp_request.specs.Scopes.{node_named, scopes_of}
use Rattle.capnp_request.specs.Terms.{AnnotationNode, AnnotationTerm, EnumNode, EnumTerm, EnumerantTerm, FieldKindTerm, FieldTerm, Float32, Float64, GroupTerm, Interface, ListTerm, MemberTerm, NodeKind, Parameter, RequestTerm, Said, SchemaNode, SlotTerm, StructNode, StructPart, StructTerm, TypeTerm, UnreadField, UnreadType, ValueTerm}
use Rattle.capnp_request.specs.Work.{Bound, Entry, GroupOf, MarkedType, Whole, plain}
use Rattle.capnp_request_meaning.specs.Meaning.{AnnotationLeads, AnyBound, AreEnumsOf, AreUnbound, ByAnnotation, ByBrand, ByDeclaration, ByField, ByGroup, EachBound, EachSaid, EntryAt, EnumAt, HasAnnotation, IsAnnotationOf, IsBindingOf, IsBoundBy, IsEntryAt, IsEnumOf, IsEnumerantOf, IsFound, IsGroupEntry, IsKindOf, IsListed, IsNodeAt, IsReached, IsRead, IsSaidList, IsSetOf, IsTarget, IsTypeOf, Numbers, OfEnumerant, OfField, OfNode, Requested, StandsIn, Target, numbers_in, without_types}
use Rattle.capnp_request_meaning.specs.Passed.{AreLed, AtField, InBrand, InDeclaration, StandsAt, numbers_of}
use Rattle.capnp_request_meaning.specs.Plain.{AreNodesPlain, IsAnnotationPlain, IsFieldPlain, IsKindPlain, IsNodeKindPlain, IsNodePlain, IsTermPlain}
use Rattle.capnp_request_meaning.proofs.EntriesKept.{FoundAt, found_enum}
use Rattle.capnp_request_meaning.proofs.FieldsMeant.{group_entry}
use Rattle.capnp_request_meaning.proofs.GroupsMarked.{field_within, group_kind, made, member_within, same_members, same_part, same_term}
use Rattle.capnp_request_meaning.proofs.ListsFound.{same_some}
use Rattle.capnp_request_meaning.proofs.NamesDiffer.{entry_at}
use Rattle.capnp_request_meaning.proofs.NodesFound.{FieldAt, MadeAt}
use Rattle.capnp_request_meaning.proofs.TermsMatched.{HasType, any_inner, bounds_same, brand_same, inner_bound, inner_type, type_same, unbound_same}
use Rattle.capnp_request_meaning.proofs.TypesMatched.{NoBounds, SameBounds, SameEnums, SameKinds, SameMarked, SameStructs, SameType}
use Rattle.capnp_request_meaning.proofs.TypesTidy.{annotation_plain, any_of, binding_plain, entry_in, kind_in, read_at, stands_plain}

-- ---- entries of two numberings that stand for the same ----

pub data SameEntry (k l : Numbers) : ℕ → ℕ → Type 0 where
  BothWhole : (a b : ℕ) (e f : Entry) → slice_get k.entries a ≡ Some e → slice_get l.entries b ≡ Some f → e.place ≡ Whole → f.place ≡ Whole → e.node ≡ f.node → SameBounds k l e.bound f.bound → SameEntry k l a b
  BothGroups : (a b p q i : ℕ) (e f : Entry) → slice_get k.entries a ≡ Some e → slice_get l.entries b ≡ Some f → e.place ≡ GroupOf p i → f.place ≡ GroupOf q i → e.node ≡ f.node → SameBounds k l e.bound f.bound → SameEntry k l p q → SameEntry k l a b

pub record ArePaired (k l : Numbers) (a b : ℕ) : Type 0 where
  pub one : Entry
  pub two : Entry
  pub there : slice_get k.entries a ≡ Some one
  pub other : slice_get l.entries b ≡ Some two
  pub node : one.node ≡ two.node
  pub bound : SameBounds k l one.bound two.bound

pub paired : (k l : Numbers) (a b : ℕ) → SameEntry k l a b → ArePaired k l a b
paired k l a b (BothWhole a2 b2 e f there other whole other_whole node bound) = record { one = e; two = f; there = there; other = other; node = node; bound = bound }
paired k l a b (BothGroups a2 b2 p q i e f there other place other_place node bound parents) = record { one = e; two = f; there = there; other = other; node = node; bound = bound }

abbrev pub SameTarget : (k l : Numbers) → Target → Target → Type 0
SameTarget k l (EntryAt a) (EntryAt b) = SameEntry k l a b
SameTarget k l (EnumAt a) (EnumAt b) = (id : ℕ) × (slice_get k.enums a ≡ Some id) × (slice_get l.enums b ≡ Some id)
SameTarget k l x y = ⊥

abbrev pub IsMatched : (k l : Numbers) → Target → Type 0
IsMatched k l x = (y : Target) × SameTarget k l x y

-- one of a list that is read stands for it
said_at : {A B C : Type 0} (R : A → B → C → Type 0) (xs : List (Said A)) (ys : List B) (zs : List C) (j : ℕ) (x : A) → EachSaid R xs ys zs → slice_get xs j ≡ Some (Ok x) → (y : B) × (z : C) × R x y z
said_at R [] ys zs j x h e = absurd (cc)
said_at {A = A} R (Ok a ∷ xs) (y ∷ ys) (z ∷ zs) zero x h e = let same : a ≡ x = cc in (y, z, subst (λ (w : A). R w y z) same h.0)
said_at R (Ok a ∷ xs) (y ∷ ys) (z ∷ zs) (suc j) x h e = said_at R xs ys zs j x h.1 e
said_at R (Err kind ∷ xs) ys zs j x h e = absurd h
said_at R (Ok a ∷ xs) [] zs j x h e = absurd h
said_at R (Ok a ∷ xs) (y ∷ ys) [] j x h e = absurd h

list_at : {A B C : Type 0} (R : A → B → C → Type 0) (d : Said (List (Said A))) (ys : List B) (zs : List C) (j : ℕ) (x : A) → IsSaidList R d ys zs → IsRead d j x → (y : B) × (z : C) × R x y z
list_at {A = A} R d ys zs j x h read = said_at R read.list ys zs j x (subst (λ (q : Said (List (Said A))). IsSaidList R q ys zs) read.said h) read.there

no_enum_struct : (q : NodeKind) (part : StructPart) (members : Said (List (Said EnumerantTerm))) → q ≡ StructNode part → q ≡ EnumNode members → ⊥
no_enum_struct q part members e f = let h : StructNode part ≡ EnumNode members = sym e ∙ f in absurd (cc)

same_enumerants : (q : NodeKind) (a b : Said (List (Said EnumerantTerm))) → q ≡ EnumNode a → q ≡ EnumNode b → a ≡ b
same_enumerants q a b e f = let h : EnumNode a ≡ EnumNode b = sym e ∙ f in cc

same_declared : (q : NodeKind) (t u : TypeTerm) → q ≡ AnnotationNode t → q ≡ AnnotationNode u → t ≡ u
same_declared q t u e f = let h : AnnotationNode t ≡ AnnotationNode u = sym e ∙ f in cc

same_scopes : {xs ys : List Bound} → ◌≡◌ {A = Said (List Bound)} (Ok xs) (Ok ys) → xs ≡ ys
same_scopes e = cc

pub enum_of_number : (k : Numbers) (es : List Enum) (m id : ℕ) → AreEnumsOf k es → slice_get (map (λ (e : Enum). e.id) es) m ≡ Some id → (e : Enum) × (e.id ≡ id) × IsEnumOf k e
enum_of_number k [] m id h e = absurd (cc)
enum_of_number k (x ∷ es) zero id h e = (x, same_some e, h.0)
enum_of_number k (x ∷ es) (suc m) id h e = enum_of_number k es m id h.1 e

slot_type : (k : Numbers) (inside : List Bound) (n i offset : ℕ) (t : TypeTerm) (default : ValueTerm) (q : FieldKindTerm) (g : FieldKind) (u : MarkedType) → q ≡ SlotTerm offset t default → IsKindOf k inside n i q g u → IsTypeOf k inside t u
slot_type k inside n i offset t default (SlotTerm offset2 t2 default2) (Slot o d) u e h = let same : t2 ≡ t = cc in subst (λ x. IsTypeOf k inside x u) same h.2
slot_type k inside n i offset t default (SlotTerm offset2 t2 default2) (Group number) u e h = absurd h
slot_type k inside n i offset t default (GroupTerm id) g u e h = absurd (cc)
slot_type k inside n i offset t default (UnreadField kind) g u e h = absurd (cc)

group_there : (k : Numbers) (inside : List Bound) (n i number id : ℕ) (u : MarkedType) (q : FieldKindTerm) → q ≡ GroupTerm id → IsKindOf k inside n i q (Group number) u → slice_get k.entries number ≡ Some (group_entry id inside n i)
group_there k inside n i number id u (GroupTerm other) e h = let same : other ≡ id = cc in h.1 ∙ ap (λ x. Some (group_entry x inside n i)) same
group_there k inside n i number id u (SlotTerm offset t default) e h = absurd (cc)
group_there k inside n i number id u (UnreadField kind) e h = absurd (cc)

-- The set of a request, whose member types are no structs or enums by number, and entries and enums that the request leads to by
-- other numbers.
pub record AreBeside (r : RequestTerm) (strict : Bool) (set : Schemas) (entries : List Entry) (enums : List ℕ) : Type 0 where
  pub is : IsSetOf r strict set
  pub are_plain : AreNodesPlain r.nodes
  pub led : AreLed r (numbers_of r strict entries enums)

-- an annotation's declaration, inside what its brand binds there
record IsDeclaredIn (k : Numbers) (inside : List Bound) (a : AnnotationTerm) (declaring : SchemaNode) (declared : TypeTerm) (bound : List Bound) : Type 0 where
  first : node_named k.nodes a.id ≡ Some declaring
  annotation : declaring.kind ≡ AnnotationNode declared
  scopes : scopes_of k.nodes a.id ≡ Ok (map without_types bound)
  brand : EachBound (IsBoundBy k inside a.brand) bound

module _ (r : RequestTerm) (strict : Bool) (set : Schemas) (entries : List Entry) (enums : List ℕ) (beside : AreBeside r strict set entries enums) where
  abbrev pub is : IsSetOf r strict set
  is = beside.is

  abbrev pub are_plain : AreNodesPlain r.nodes
  are_plain = beside.are_plain

  abbrev pub led : AreLed r (numbers_of r strict entries enums)
  led = beside.led

  abbrev pub k : Numbers
  k = numbers_of r strict entries enums

  abbrev pub l : Numbers
  l = numbers_in r strict is.entries set

  -- ---- what stands at a node of the set ----

  module _ (m : ℕ) (f : Entry) (other : slice_get is.entries m ≡ Some f) (node : SchemaNode) (named : node_named r.nodes f.node ≡ Some node) where
    abbrev at : MadeAt l set.nodes set.brands f m m
    at = made r strict set is m f other

    same_node : node ≡ at.is.node
    same_node = same_some (sym named ∙ at.is.first)

    module _ (part : StructPart) (struct : node.kind ≡ StructNode part) (i : ℕ) (t : FieldTerm) (read : IsRead part.fields i t) where
      members_there : slice_get at.is.members i ≡ Some (Ok t)
      members_there =
          let parts : part ≡ at.is.part = same_part at.is.node.kind part at.is.part (ap (λ (n : SchemaNode). n.kind) (sym same_node) ∙ struct) at.is.struct in
          let list : read.list ≡ at.is.members = same_members at.is.part.fields read.list at.is.members (ap (λ (q : StructPart). q.fields) (sym parts) ∙ read.said) at.is.listed in
          ap (λ xs. slice_get xs i) (sym list) ∙ read.there

      abbrev field_there : FieldAt l f.bound m 0 i at.is.members at.node.fields at.brand.field_types
      field_there = field_within r strict set is m f other i (member_within r strict set is m f other i (Ok t) members_there)

      same_field : field_there.term ≡ t
      same_field = same_term (sym field_there.said ∙ members_there)

  abbrev HasAnnotated : List Bound → AnnotationTerm → Type 0
  HasAnnotated outside a = (y : Annotation) × (u : SchemaType) × IsAnnotationOf l outside a y u

  entry_annotation : (m : ℕ) (f : Entry) → slice_get is.entries m ≡ Some f → (node : SchemaNode) → node_named r.nodes f.node ≡ Some node → (a : AnnotationTerm) → HasAnnotation node a → HasAnnotated f.bound a
  entry_annotation m f other node named a (OfNode i read) =
      let made_here : MadeAt l set.nodes set.brands f m m = at m f other node named in
      list_at (IsAnnotationOf l f.bound) made_here.is.node.annotations made_here.node.annotations made_here.brand.annotation_types.own i a made_here.is.annotations (subst (λ (n : SchemaNode). IsRead n.annotations i a) (same_node m f other node named) read)
  entry_annotation m f other node named a (OfField part i j t struct one read) =
      let here = field_there m f other node named part struct i t one in
      list_at (IsAnnotationOf l f.bound) here.term.annotations here.is.own here.is.own_types j a here.is.annotations (subst (λ (x : FieldTerm). IsRead x.annotations j a) (sym (same_field m f other node named part struct i t one)) read)
  entry_annotation m f other node named a (OfEnumerant members i j x enumeration one read) =
      let made_here : MadeAt l set.nodes set.brands f m m = at m f other node named in
      absurd (no_enum_struct made_here.is.node.kind made_here.is.part members made_here.is.struct (ap (λ (n : SchemaNode). n.kind) (sym (same_node m f other node named)) ∙ enumeration))

  module _ (m id : ℕ) (there : slice_get l.enums m ≡ Some id) (node : SchemaNode) (named : node_named r.nodes id ≡ Some node) where
    abbrev enum_at : (e : Enum) × (e.id ≡ id) × IsEnumOf l e
    enum_at = enum_of_number l set.enums m id is.enums there

    enum_node : node ≡ enum_at.2.node
    enum_node = same_some (sym named ∙ (ap (λ x. node_named r.nodes x) (sym enum_at.1) ∙ enum_at.2.first))

    enum_kind : node.kind ≡ EnumNode enum_at.2.members
    enum_kind = ap (λ (n : SchemaNode). n.kind) enum_node ∙ enum_at.2.enumeration

    enum_annotation : (a : AnnotationTerm) → HasAnnotation node a → HasAnnotated [] a
    enum_annotation a (OfNode i read) =
        list_at (IsAnnotationOf l []) enum_at.2.node.annotations enum_at.0.annotations enum_at.0.annotation_types.own i a enum_at.2.annotations (subst (λ (n : SchemaNode). IsRead n.annotations i a) enum_node read)
    enum_annotation a (OfField part i j t struct one read) = absurd (no_enum_struct node.kind part enum_at.2.members struct enum_kind)
    enum_annotation a (OfEnumerant members i j x enumeration one read) =
        let list : members ≡ enum_at.2.members = same_enumerants node.kind members enum_at.2.members enumeration enum_kind in
        let member : (y : Enumerant) × (z : List SchemaType) × IsEnumerantOf l x y z = list_at (IsEnumerantOf l) enum_at.2.members enum_at.0.enumerants enum_at.0.annotation_types.children i x enum_at.2.enumerants (subst (λ d. IsRead d i x) list one) in
        list_at (IsAnnotationOf l []) x.annotations member.0.annotations member.1 j a member.2.annotations read

  -- ---- a place that has its like in the set ----

  record IsNodeLike (y z : Target) (node : SchemaNode) (inside : List Bound) : Type 0 where
    outside : List Bound
    same : SameBounds k l inside outside
    at : IsNodeAt l z node outside

  node_like : (y z : Target) (node : SchemaNode) (inside : List Bound) → SameTarget k l y z → IsNodeAt k y node inside → IsNodeLike y z node inside
  node_like (EntryAt n) (EntryAt m) node inside h here =
      let p : ArePaired k l n m = paired k l n m h in
      let one : here.0 ≡ p.one = same_some (sym here.1 ∙ p.there) in
      record {
        outside = p.two.bound;
        same = subst (λ bs. SameBounds k l bs p.two.bound) (ap (λ (e : Entry). e.bound) (sym one) ∙ sym here.2) p.bound;
        at = (p.two, p.other, refl, ap (λ x. node_named r.nodes x) (sym p.node) ∙ (ap (λ (e : Entry). node_named r.nodes e.node) (sym one) ∙ here.3));
      }
  node_like (EnumAt n) (EnumAt m) node inside h here =
      let id : here.0 ≡ h.0 = same_some (sym here.1 ∙ h.1) in
      record { outside = []; same = subst (λ bs. SameBounds k l bs []) (sym here.2) NoBounds; at = (h.0, h.2, refl, ap (λ x. node_named r.nodes x) (sym id) ∙ here.3) }
  node_like (EntryAt n) (EnumAt m) node inside h here = absurd h
  node_like (EnumAt n) (EntryAt m) node inside h here = absurd h

  -- a type that stands there does in the set, inside what stands for the same
  pub record StandsThere (inside : List Bound) (inner : TypeTerm) : Type 0 where
    pub outside : List Bound
    pub same : SameBounds k l inside outside
    pub type : HasType r.nodes l is.bound outside inner
    pub plain_inner : IsTermPlain inner

  place_plain : (y : Target) (node : SchemaNode) (inside : List Bound) → IsNodeAt k y node inside → IsNodePlain node
  place_plain (EntryAt n) node inside here = are_plain here.0.node node here.3
  place_plain (EnumAt n) node inside here = are_plain here.0 node here.3

  module _ (y z : Target) (node : SchemaNode) (inside : List Bound) (like : SameTarget k l y z) (here : IsNodeAt k y node inside) where
    abbrev there : IsNodeLike y z node inside
    there = node_like y z node inside like here

    slot_there : (w : Target) (outside : List Bound) → IsNodeAt l w node outside → (part : StructPart) → node.kind ≡ StructNode part → (i : ℕ) (f : FieldTerm) → IsRead part.fields i f → (offset : ℕ) (t : TypeTerm) (default : ValueTerm) → f.kind ≡ SlotTerm offset t default → HasType r.nodes l is.bound outside t
    slot_there (EntryAt m) outside h part struct i f read offset t default slot =
        let field = field_there m h.0 h.1 node h.3 part struct i f read in
        let type : IsTypeOf l h.0.bound t field.is.said = slot_type l h.0.bound m (0 + i) offset t default field.term.kind field.field.kind field.is.said (ap (λ (x : FieldTerm). x.kind) (same_field m h.0 h.1 node h.3 part struct i f read) ∙ slot) field.is.kind in
        (field.is.said, subst (λ bs. IsTypeOf l bs t field.is.said) (sym h.2) type)
    slot_there (EnumAt m) outside h part struct i f read offset t default slot = absurd (no_enum_struct node.kind part (enum_at m h.0 h.1 node h.3).2.members struct (enum_kind m h.0 h.1 node h.3))

    annotated_there : (w : Target) (outside : List Bound) → IsNodeAt l w node outside → (a : AnnotationTerm) → HasAnnotation node a → HasAnnotated outside a
    annotated_there (EntryAt m) outside h a has = subst (λ bs. HasAnnotated bs a) (sym h.2) (entry_annotation m h.0 h.1 node h.3 a has)
    annotated_there (EnumAt m) outside h a has = subst (λ bs. HasAnnotated bs a) (sym h.2) (enum_annotation m h.0 h.1 node h.3 a has)

    at_field : (part : StructPart) (i : ℕ) (f : FieldTerm) (offset : ℕ) (t : TypeTerm) (default : ValueTerm) (inner : TypeTerm) → node.kind ≡ StructNode part → IsRead part.fields i f → f.kind ≡ SlotTerm offset t default → StandsIn r.nodes t inner → StandsThere inside inner
    at_field part i f offset t default inner struct read slot stands =
        let whole : HasType r.nodes l is.bound there.outside t = slot_there z there.outside there.at part struct i f read offset t default slot in
        let field : IsFieldPlain f = read_at IsFieldPlain part.fields i f (subst IsNodeKindPlain struct (place_plain y node inside here).0) read in
        let type : IsTermPlain t = subst IsKindPlain slot field.0 in
        record { outside = there.outside; same = there.same; type = inner_type r.nodes l is.bound there.outside t inner whole.0 whole.1 stands; plain_inner = stands_plain r.nodes t inner type stands }

    module _ (a : AnnotationTerm) (has : HasAnnotation node a) where
      abbrev annotated : HasAnnotated there.outside a
      annotated = annotated_there z there.outside there.at a has

      brand_plain : IsAnnotationPlain a
      brand_plain = annotation_plain node a (place_plain y node inside here) has

      in_brand : (scopes : List Bound) (inner : TypeTerm) → scopes_of r.nodes a.id ≡ Ok scopes → AnyBound (λ (b : Bound). IsBindingOf r.nodes a.brand b inner) scopes → StandsThere inside inner
      in_brand scopes inner said any = record {
        outside = there.outside;
        same = there.same;
        type = any_inner r.nodes l is.bound there.outside a.brand (inner_bound r.nodes l is.bound there.outside a.brand) inner scopes annotated.2.bound (same_scopes (sym said ∙ annotated.2.scopes)) any annotated.2.brand;
        plain_inner = any_of (λ (b : Bound). IsBindingOf r.nodes a.brand b inner) scopes (IsTermPlain inner) (λ b. binding_plain r.nodes a.brand b inner brand_plain) any;
      }

      in_declaration : (declaring : SchemaNode) (declared : TypeTerm) (bound : List Bound) (inner : TypeTerm) → IsDeclaredIn k inside a declaring declared bound → StandsIn r.nodes declared inner → StandsThere bound inner
      in_declaration declaring declared bound inner h stands =
          let node_is : declaring ≡ annotated.2.node = same_some (sym h.first ∙ annotated.2.first) in
          let type_is : declared ≡ annotated.2.declared = same_declared annotated.2.node.kind declared annotated.2.declared (ap (λ (n : SchemaNode). n.kind) (sym node_is) ∙ h.annotation) annotated.2.annotation in
          let shapes : map without_types bound ≡ map without_types annotated.2.bound = same_scopes (sym h.scopes ∙ annotated.2.scopes) in
          let same : SameBounds k l bound annotated.2.bound = bounds_same k l (IsBoundBy k inside a.brand) (IsBoundBy l there.outside a.brand) (brand_same r.nodes k l led.bound is.bound inside there.outside there.same a.brand brand_plain) bound annotated.2.bound shapes h.brand annotated.2.brand in
          let declared_plain : IsTermPlain declared = subst IsNodeKindPlain h.annotation (are_plain a.id declaring h.first).0 in
          record {
            outside = annotated.2.bound;
            same = same;
            type = inner_type r.nodes l is.bound annotated.2.bound declared inner annotated.2.said (subst (λ t. IsTypeOf l annotated.2.bound t annotated.2.said) (sym type_is) annotated.2.type) stands;
            plain_inner = stands_plain r.nodes declared inner declared_plain stands;
          }

  -- ---- what it leads to has its like ----

  struct_number : (n m : ℕ) (t u : SchemaType) → t ≡ StructType n n → u ≡ StructType m m → SameType k l t u → SameEntry k l n m
  struct_number n m t u e f (SameKinds t2 u2 lists kinds no_struct no_enum) = absurd (no_struct (ap kind_in e))
  struct_number n m t u e f (SameEnums t2 u2 id lists first second a b) = let apart : 12 ≡ 14 = sym (ap kind_in e) ∙ first in absurd (omega (arith, apart))
  struct_number n m t u e f (SameStructs t2 u2 x y lists first second a b node whole other bound) = BothWhole n m x y (ap (λ i. slice_get entries i) (sym (ap entry_in e)) ∙ a) (ap (λ i. slice_get is.entries i) (sym (ap entry_in f)) ∙ b) whole other node bound

  pub target_matched : (inside : List Bound) (inner : TypeTerm) (x : Target) → StandsThere inside inner → IsTarget k inside inner x → IsMatched k l x
  target_matched inside (StructTerm id brand) (EntryAt n) h t =
      let same : SameMarked k l (plain (StructType n n)) h.type.0 = type_same r.nodes k l led.bound is.bound inside h.outside h.same (StructTerm id brand) h.plain_inner (plain (StructType n n)) h.type.0 t h.type.1 in
      (EntryAt h.type.1.0, struct_number n h.type.1.0 (StructType n n) h.type.0.type refl (ap (λ (u : MarkedType). u.type) h.type.1.1) same.type)
  target_matched inside (EnumTerm id) (EnumAt n) h t =
      let f : FoundAt (λ x. x ≡ id) enums 0 n = found_enum enums id 0 n t.0 in
      let at_number : n ≡ f.index = omega (arith, f.number) in
      (EnumAt h.type.1.0, (id, ap (λ i. slice_get enums i) at_number ∙ (f.there ∙ ap (λ x. Some x) f.holds), h.type.1.2))
  target_matched inside (StructTerm id brand) (EnumAt n) h t = absurd t
  target_matched inside (EnumTerm id) (EntryAt n) h t = absurd t
  target_matched inside (MemberTerm u) x h t = absurd t
  target_matched inside Float32 x h t = absurd t
  target_matched inside Float64 x h t = absurd t
  target_matched inside Interface x h t = absurd t
  target_matched inside (ListTerm u) x h t = absurd t
  target_matched inside (Parameter scope index) x h t = absurd t
  target_matched inside (UnreadType kind) x h t = absurd t

  by_annotation : (x y z : Target) (node : SchemaNode) (inside : List Bound) (a : AnnotationTerm) → SameTarget k l y z → IsNodeAt k y node inside → HasAnnotation node a → AnnotationLeads k inside a x → IsMatched k l x
  by_annotation x y z node inside a like here has (ByBrand scopes said leads) = target_matched inside leads.inner x (in_brand y z node inside like here a has scopes leads.inner said leads.stands) leads.target
  by_annotation x y z node inside a like here has (ByDeclaration declaring declared bound first annotation scopes brand leads) =
      target_matched bound leads.inner x (in_declaration y z node inside like here a has declaring declared bound leads.inner (record { first = first; annotation = annotation; scopes = scopes; brand = brand }) leads.stands) leads.target

  -- a struct of a requested file
  requested : (n : ℕ) (e : Entry) (node : SchemaNode) (part : StructPart) → slice_get entries n ≡ Some e → e.place ≡ Whole → AreUnbound e.bound → IsListed r e.node → node_named r.nodes e.node ≡ Some node → node.kind ≡ StructNode part → part.is_group ≡ false → IsMatched k l (EntryAt n)
  requested n e node part here whole unbound listed first struct group =
      let f : IsFound is.entries set e.node node = is.roots e.node node part listed first struct group in
      let one : scopes_of r.nodes e.node ≡ Ok (map without_types e.bound) = subst (λ p. IsEntryAt r.nodes entries e p) whole (entry_at r.nodes entries entries n e led.bound here) in
      let two : scopes_of r.nodes f.entry.node ≡ Ok (map without_types f.entry.bound) = subst (λ p. IsEntryAt r.nodes is.entries f.entry p) f.whole (entry_at r.nodes is.entries is.entries f.number f.entry is.bound f.there) in
      let shapes : map without_types e.bound ≡ map without_types f.entry.bound = same_scopes (sym one ∙ (ap (λ x. scopes_of r.nodes x) (sym f.same_node) ∙ two)) in
      (EntryAt f.number, BothWhole n f.number e f.entry here f.there whole f.whole (sym f.same_node) (unbound_same k l e.bound f.entry.bound shapes unbound f.unbound))

  -- the group of a field
  group_matched : (n p q i : ℕ) (e : Entry) → slice_get entries n ≡ Some e → e.place ≡ GroupOf p i → SameEntry k l p q → IsMatched k l (EntryAt n)
  group_matched n p q i e here place parents =
      let by : IsGroupEntry r.nodes entries e p i = subst (λ x. IsEntryAt r.nodes entries e x) place (entry_at r.nodes entries entries n e led.bound here) in
      let pair : ArePaired k l p q = paired k l p q parents in
      let parent : by.parent ≡ pair.one = same_some (sym by.numbered ∙ pair.there) in
      let named : node_named r.nodes pair.two.node ≡ Some by.node = ap (λ x. node_named r.nodes x) (sym pair.node) ∙ (ap (λ (x : Entry). node_named r.nodes x.node) (sym parent) ∙ by.first) in
      let read : IsRead by.part.fields i by.field = record { list = by.members; said = by.listed; there = by.member } in
      let field = field_there q pair.two pair.other by.node named by.part by.struct i by.field read in
      let term : field.term.kind ≡ GroupTerm e.node = ap (λ (x : FieldTerm). x.kind) (same_field q pair.two pair.other by.node named by.part by.struct i by.field read) ∙ by.group in
      let kind : (number : ℕ) × (field.field.kind ≡ Group number) = group_kind l pair.two.bound q (0 + i) field.is.said field.term.kind field.field.kind e.node term field.is.kind in
      let group : slice_get is.entries kind.0 ≡ Some (group_entry e.node pair.two.bound q (0 + i)) = group_there l pair.two.bound q (0 + i) kind.0 e.node field.is.said field.term.kind term (subst (λ g. IsKindOf l pair.two.bound q (0 + i) field.term.kind g field.is.said) kind.1 field.is.kind) in
      let index : 0 + i ≡ i = omega arith in
      let bound : SameBounds k l e.bound pair.two.bound = subst (λ bs. SameBounds k l bs pair.two.bound) (ap (λ (x : Entry). x.bound) (sym parent) ∙ sym by.same_bound) pair.bound in
      (EntryAt kind.0, BothGroups n kind.0 p q i e (group_entry e.node pair.two.bound q (0 + i)) here group place (ap (λ x. GroupOf q x) index) refl bound parents)

  by_group : (n p i : ℕ) (e : Entry) → slice_get entries n ≡ Some e → e.place ≡ GroupOf p i → IsMatched k l (EntryAt p) → IsMatched k l (EntryAt n)
  by_group n p i e here place (EntryAt q, h) = group_matched n p q i e here place h
  by_group n p i e here place (EnumAt q, h) = absurd h

  pub matched : (x : Target) → IsReached r k x → IsMatched k l x
  matched x (Requested n e node part here whole unbound listed first struct group) = requested n e node part here whole unbound listed first struct group
  matched x (ByGroup n p i e reached here place) = by_group n p i e here place (matched (EntryAt p) reached)
  matched x (ByField x2 y node inside part i f offset t default reached here struct read slot leads) =
      let m : IsMatched k l y = matched y reached in
      target_matched inside leads.inner x (at_field y m.0 node inside m.1 here part i f offset t default leads.inner struct read slot leads.stands) leads.target
  matched x (ByAnnotation x2 y node inside a reached here has leads) = let m : IsMatched k l y = matched y reached in by_annotation x y m.0 node inside a m.1 here has leads

  pub stands_there : (inside : List Bound) (inner : TypeTerm) → StandsAt r k inside inner → StandsThere inside inner
  stands_there inside inner (AtField y node inside2 part i f offset t default inner2 reached here struct read slot stands) =
      let m : IsMatched k l y = matched y reached in at_field y m.0 node inside m.1 here part i f offset t default inner struct read slot stands
  stands_there inside inner (InBrand y node inside2 a scopes inner2 reached here has said any) = let m : IsMatched k l y = matched y reached in in_brand y m.0 node inside m.1 here a has scopes inner said any
  stands_there inside inner (InDeclaration y node place a declaring declared bound inner2 reached here has first annotation scopes brand stands) =
      let m : IsMatched k l y = matched y reached in in_declaration y m.0 node place m.1 here a has declaring declared inside inner (record { first = first; annotation = annotation; scopes = scopes; brand = brand }) stands
