-- Rules of single entries of a set, as tests that compute.
use Rattle.std.proofs.Common.{IsTrue, bytes_eq, ℕ, ◌≡◌, ◌<◌, ◌^◌, ◌&&◌, ◌==◌, nat_lt, nat_le, ⊎_elim, Bool, true, false, not, List, length, map, refl}
use Rattle.std.specs.List.{list_all, list_any}
use Rattle.std.proofs.lemmas.Bool.{ltb-true, leb-true}
use Rattle.std.proofs.lemmas.Bool.Decides.{Decides-eqb}
use Rattle.std.proofs.lemmas.Map.Views.{Contains-from_any}
use Rattle.std.proofs.lemmas.Slice.Eq.{bytes_eq-Decides}
use Rattle.capnp_schema.specs.Types.{SchemaType}
use Rattle.capnp_schema.specs.Schema.{Schemas, Node, Brand, Enum, Enumerant, Field, Annotation, AnnotationTypes, brand_at, node_of, is_member}
use Rattle.capnp_schema.specs.Accepted.{AllName, BrandHasTypes, DefaultIsOfType, DiscriminantFits, EachOfEnum, EachOfNode, EnumHasTypes, HasEachMember, HasFewAnnotations, HasFewEnumerants, HasFewFields, HasNamedType, HasOwnName, HasTypes, NamesEntries, NamesOwnGroup, Rule1, Rule10, Rule2, Rule3, Rule4, Rule5, Rule7, Rule9, SlotLiesInside, TypesName}
use Rattle.capnp_schema.specs.Facts.ComputedEntries.{is_shown, shown, named, inside, slot_default, group_fits, discriminant_fits}
use Rattle.capnp_schema.specs.Facts.Fields.{All_entry}
use Rattle.capnp_schema.specs.Facts.Computed.{both, not_so, not_both, all_below, passes_below, all_pass, all_pairs, each_pair, all_fields, each_field}

-- ---- rule 1 ----

abbrev pub is_named : Schemas → SchemaType → Bool
is_named set t = is_shown (named set t)

abbrev pub types_name : Schemas → AnnotationTypes → Bool
types_name set types = list_all (is_named set) types.own && list_all (list_all (is_named set)) types.children

abbrev pub meets_rule1 : Schemas → Bool
meets_rule1 set = all_fields set (λ b i f. is_named set f.type) && (list_all (λ (b : Brand). types_name set b.annotation_types) set.brands && list_all (λ (e : Enum). types_name set e.annotation_types) set.enums)

all_named : (set : Schemas) (types : List SchemaType) → list_all (is_named set) types ≡ true → AllName set types
all_named set types = all_pass (is_named set) (NamesEntries set) types (λ t. shown (named set t))

named_types : (set : Schemas) (types : AnnotationTypes) → types_name set types ≡ true → TypesName set types
named_types set types e =
    let parts = both (list_all (is_named set) types.own) (list_all (list_all (is_named set)) types.children) e in
    (all_named set types.own parts.0, all_pass (list_all (is_named set)) (AllName set) types.children (all_named set) parts.1)

pub rule1 : (set : Schemas) → meets_rule1 set ≡ true → Rule1 set
rule1 set e =
    let parts = both _ _ e in
    let lists = both _ _ parts.1 in
    record {
      fields = each_field set _ (λ b i f. HasNamedType set f) (λ b i f. shown (named set f.type)) parts.0;
      brands = all_pass _ (λ (b : Brand). TypesName set b.annotation_types) set.brands (λ b. named_types set b.annotation_types) lists.0;
      enums = all_pass _ (λ (x : Enum). TypesName set x.annotation_types) set.enums (λ x. named_types set x.annotation_types) lists.1;
    }

-- ---- rule 2 ----

abbrev pub has_types : List Annotation → List (List Annotation) → AnnotationTypes → Bool
has_types own children types = (length types.own == length own) && bytes_eq (map length types.children) (map length children)

abbrev pub brand_has_types : Node → Brand → Bool
brand_has_types n b = (length b.field_types == length n.fields) && has_types n.annotations (map (λ (f : Field). f.annotations) n.fields) b.annotation_types

abbrev pub enum_has_types : Enum → Bool
enum_has_types e = has_types e.annotations (map (λ (x : Enumerant). x.annotations) e.enumerants) e.annotation_types

abbrev pub meets_rule2 : Schemas → Bool
meets_rule2 set = all_below (length set.brands) (λ b. nat_lt (brand_at set b).node (length set.nodes)) && (all_below (length set.brands) (λ b. brand_has_types (node_of set b) (brand_at set b)) && list_all enum_has_types set.enums)

types_there : (own : List Annotation) (children : List (List Annotation)) (types : AnnotationTypes) → has_types own children types ≡ true → HasTypes own children types
types_there own children types e =
    let parts = both (length types.own == length own) (bytes_eq (map length types.children) (map length children)) e in
    ((Decides-eqb (length types.own) (length own)).0 parts.0, (bytes_eq-Decides (map length types.children) (map length children)).0 parts.1)

brand_types_there : (n : Node) (b : Brand) → brand_has_types n b ≡ true → BrandHasTypes n b
brand_types_there n b e =
    let parts = both (length b.field_types == length n.fields) (has_types n.annotations (map (λ (f : Field). f.annotations) n.fields) b.annotation_types) e in
    ((Decides-eqb (length b.field_types) (length n.fields)).0 parts.0, types_there n.annotations (map (λ (f : Field). f.annotations) n.fields) b.annotation_types parts.1)

pub rule2 : (set : Schemas) → meets_rule2 set ≡ true → Rule2 set
rule2 set e =
    let parts = both _ _ e in
    let lists = both _ _ parts.1 in
    record {
      brands = λ b b_in. record {
        node = ltb-true (brand_at set b).node (length set.nodes) (passes_below (length set.brands) (λ b. nat_lt (brand_at set b).node (length set.nodes)) parts.0 b b_in);
        types = brand_types_there (node_of set b) (brand_at set b) (passes_below (length set.brands) (λ b. brand_has_types (node_of set b) (brand_at set b)) lists.0 b b_in);
      };
      enums = all_pass _ EnumHasTypes set.enums (λ x. types_there x.annotations (map (λ (y : Enumerant). y.annotations) x.enumerants) x.annotation_types) lists.1;
    }

-- ---- rule 3 ----

abbrev pub names_differ : Field → Field → Bool
names_differ f g = not (bytes_eq f.name g.name)

abbrev pub has_few : List Annotation → Bool
has_few annotations = nat_lt (length annotations) (2 ^ 29)

abbrev pub passes_node : (List Annotation → Bool) → Node → Bool
passes_node test n = test n.annotations && list_all (λ (f : Field). test f.annotations) n.fields

abbrev pub passes_enum : (List Annotation → Bool) → Enum → Bool
passes_enum test e = test e.annotations && list_all (λ (x : Enumerant). test x.annotations) e.enumerants

abbrev pub node_has_few : Node → Bool
node_has_few n = nat_le (length n.fields) 65535 && passes_node has_few n

abbrev pub enum_has_few : Enum → Bool
enum_has_few e = nat_le (length e.enumerants) 65535 && passes_enum has_few e

abbrev pub has_counts : Schemas → Bool
has_counts set = list_all node_has_few set.nodes && list_all enum_has_few set.enums

abbrev pub meets_rule3 : Schemas → Bool
meets_rule3 set = list_all (λ (n : Node). all_pairs names_differ n.fields) set.nodes && has_counts set

pub of_node : (test : List Annotation → Bool) (P : List Annotation → Type 0) → ((xs : List Annotation) → test xs ≡ true → P xs) → (n : Node) → passes_node test n ≡ true → EachOfNode P n
of_node test P gives n e =
    let parts = both (test n.annotations) (list_all (λ (f : Field). test f.annotations) n.fields) e in
    (gives n.annotations parts.0, all_pass _ (λ (f : Field). P f.annotations) n.fields (λ f. gives f.annotations) parts.1)

pub of_enum : (test : List Annotation → Bool) (P : List Annotation → Type 0) → ((xs : List Annotation) → test xs ≡ true → P xs) → (x : Enum) → passes_enum test x ≡ true → EachOfEnum P x
of_enum test P gives x e =
    let parts = both (test x.annotations) (list_all (λ (y : Enumerant). test y.annotations) x.enumerants) e in
    (gives x.annotations parts.0, all_pass _ (λ (y : Enumerant). P y.annotations) x.enumerants (λ y. gives y.annotations) parts.1)

few_of_node : (n : Node) → node_has_few n ≡ true → HasFewFields n
few_of_node n e =
    let parts = both (nat_le (length n.fields) 65535) (passes_node has_few n) e in
    record { fields = leb-true (length n.fields) 65535 parts.0; annotations = of_node has_few HasFewAnnotations (λ xs. ltb-true (length xs) (2 ^ 29)) n parts.1 }

few_of_enum : (x : Enum) → enum_has_few x ≡ true → HasFewEnumerants x
few_of_enum x e =
    let parts = both (nat_le (length x.enumerants) 65535) (passes_enum has_few x) e in
    record { enumerants = leb-true (length x.enumerants) 65535 parts.0; annotations = of_enum has_few HasFewAnnotations (λ xs. ltb-true (length xs) (2 ^ 29)) x parts.1 }

own_names : (n : Node) → all_pairs names_differ n.fields ≡ true → (i : ℕ) → HasOwnName n.fields i
own_names n e i j f g at_i at_j same = ⊎_elim
    (λ here. here)
    (λ apart. absurd (not_so (bytes_eq f.name g.name) apart ((bytes_eq-Decides f.name g.name).1 same)))
    (each_pair names_differ n.fields e i j f g at_i at_j)

pub rule3 : (set : Schemas) → meets_rule3 set ≡ true → Rule3 set
rule3 set e =
    let parts = both _ _ e in
    let counts = both _ _ parts.1 in
    record {
      names = all_pass _ (λ (n : Node). (i : ℕ) → HasOwnName n.fields i) set.nodes own_names parts.0;
      counts = record {
        nodes = all_pass _ HasFewFields set.nodes few_of_node counts.0;
        enums = all_pass _ HasFewEnumerants set.enums few_of_enum counts.1;
      };
    }

-- ---- rules 4, 5, 7 and 10 ----

abbrev pub meets_rule4 : Schemas → Bool
meets_rule4 set = all_fields set (λ b i f. is_shown (inside (node_of set b) f.field.kind f.type))

pub rule4 : (set : Schemas) → meets_rule4 set ≡ true → Rule4 set
rule4 set = each_field set _ (λ b i f. SlotLiesInside (node_of set b) f) (λ b i f. shown (inside (node_of set b) f.field.kind f.type))

abbrev pub meets_rule5 : Schemas → Bool
meets_rule5 set = all_fields set (λ b i f. is_shown (slot_default f.field.kind f.type))

pub rule5 : (set : Schemas) → meets_rule5 set ≡ true → Rule5 set
rule5 set = each_field set _ (λ b i f. DefaultIsOfType f) (λ b i f. shown (slot_default f.field.kind f.type))

abbrev pub meets_rule7 : Schemas → Bool
meets_rule7 set = all_fields set (λ b i f. is_shown (group_fits set f.field.kind f.type))

pub rule7 : (set : Schemas) → meets_rule7 set ≡ true → Rule7 set
rule7 set = each_field set _ (λ b i f. NamesOwnGroup set f) (λ b i f. shown (group_fits set f.field.kind f.type))

abbrev pub meets_rule10 : Schemas → Bool
meets_rule10 set = list_all (λ (n : Node). is_shown (discriminant_fits n)) set.nodes

pub rule10 : (set : Schemas) → meets_rule10 set ≡ true → Rule10 set
rule10 set = all_pass (λ (n : Node). is_shown (discriminant_fits n)) DiscriminantFits set.nodes (λ n. shown (discriminant_fits n))

-- ---- rule 9 ----

abbrev pub member_is_below : ℕ → Field → Bool
member_is_below count f = not (is_member f && not (nat_lt f.discriminant_value count))

abbrev pub values_differ : Field → Field → Bool
values_differ f g = not (is_member f && (f.discriminant_value == g.discriminant_value))

abbrev pub has_value : List Field → ℕ → Bool
has_value fields d = list_any (λ y. d == y) (map (λ (f : Field). f.discriminant_value) fields)

abbrev pub has_each_member : Node → Bool
has_each_member n = list_all (member_is_below n.discriminant_count) n.fields && (all_below n.discriminant_count (has_value n.fields) && all_pairs values_differ n.fields)

abbrev pub meets_rule9 : Schemas → Bool
meets_rule9 set = list_all has_each_member set.nodes

each_member : (n : Node) → has_each_member n ≡ true → HasEachMember n
each_member n e =
    let parts = both (list_all (member_is_below n.discriminant_count) n.fields) (all_below n.discriminant_count (has_value n.fields) && all_pairs values_differ n.fields) e in
    let values = both (all_below n.discriminant_count (has_value n.fields)) (all_pairs values_differ n.fields) parts.1 in
    let bounded = all_pass (member_is_below n.discriminant_count) (λ (f : Field). IsTrue (is_member f) → f.discriminant_value < n.discriminant_count) n.fields (λ f below member. ltb-true f.discriminant_value n.discriminant_count (inside (is_member f) (nat_lt f.discriminant_value n.discriminant_count) below member)) parts.0 in
    record {
      apart = record {
        below = λ k f at. All_entry (λ (x : Field). IsTrue (is_member x) → x.discriminant_value < n.discriminant_count) n.fields k f bounded at;
        once = λ i j f g at_i at_j member same. ⊎_elim
            (λ here. here)
            (λ apart. absurd (not_both (is_member f) (f.discriminant_value == g.discriminant_value) apart member ((Decides-eqb f.discriminant_value g.discriminant_value).1 same)))
            (each_pair values_differ n.fields values.1 i j f g at_i at_j);
      };
      some = λ d d_in. Contains-from_any {eq = λ x y. x == y} (λ x y. (Decides-eqb x y).0) d (map (λ (f : Field). f.discriminant_value) n.fields) (passes_below n.discriminant_count (has_value n.fields) values.0 d d_in);
    }
  where
    inside : (a b : Bool) → not (a && not b) ≡ true → a ≡ true → b ≡ true
    inside true true e p = refl
    inside true false e p = cc
    inside false b e p = cc

pub rule9 : (set : Schemas) → meets_rule9 set ≡ true → Rule9 set
rule9 set = all_pass has_each_member HasEachMember set.nodes each_member
