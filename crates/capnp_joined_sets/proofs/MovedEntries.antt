-- Nodes and enums meet the rules that are about one entry when their numbers move.
use Rattle.std.proofs.Common.{ℕ, zero, suc, ◌<◌, ◌≡◌, refl, List, [], ◌∷◌, ◌++◌, All, Contains, length, map, slice_get, arith, ap, ap₂, sym, subst, ◌∙◌, Some}
use Rattle.std.proofs.lemmas.List.{length-map}
use Rattle.std.proofs.lemmas.List.Elements.{All-append, All-map, All-weaker}
use Rattle.std.proofs.lemmas.Option.{same_Some}
use Rattle.capnp_schema.specs.Types.{SchemaType}
use Rattle.capnp_schema.specs.Schema.{Schemas, Node, Brand, Enum, Field, Annotation, AnnotationTypes, Value, is_member}
use Rattle.capnp_schema.specs.Accepted.{AllName, BrandHasTypes, Decodes, DefaultStands, EachOfNode, EnumHasTypes, HasEachMember, HasFewAnnotations, HasFewEnumerants, HasFewFields, HasOwnName, HasTypes, HasWords, HaveWords, IsAccepted, NamesEntries, NodeHasWords, TypesName}
use Rattle.capnp_joined_sets.specs.declared.moves.Moves.{Moves}
use Rattle.capnp_joined_sets.specs.declared.moves.TheConstants.{NO_MOVES}
use Rattle.capnp_joined_sets.specs.Joined.{moved_annotation_types, moved_brand, moved_enum, moved_field, moved_node, moved_type, moved_types}
use Rattle.capnp_joined_sets.proofs.Embedded.{IsIn}
use Rattle.capnp_joined_sets.proofs.MovedTypes.{names_entries, same_default}

-- ---- lists ----

-- what holds of all of the first, and of all of the second, moved
pub all_of_both : {X : Type 0} (F : Moves → X → X) (kept : (x : X) → F NO_MOVES x ≡ x) (to : Moves) (Q R P : X → Type 0) (xs ys : List X) →
    ((x : X) → Q x → P (F NO_MOVES x)) → ((y : X) → R y → P (F to y)) → All Q xs → All R ys → All P (xs ++ map (F to) ys)
all_of_both F kept to Q R P xs ys first second all every =
    All-append P xs (map (F to) ys) (All-weaker Q P (λ x q. subst P (kept x) (first x q)) xs all) (All-map P (F to) ys (All-weaker R (λ y. P (F to y)) second ys every))

-- an entry that is found among moved ones stood there before
found_before : {X Y : Type 0} (f : X → Y) (xs : List X) (i : ℕ) (y : Y) → slice_get (map f xs) i ≡ Some y → (x : X) × (slice_get xs i ≡ Some x) × (f x ≡ y)
found_before f [] i y e = cc
found_before f (x ∷ xs) zero y e = (x, refl, same_Some (f x) y e)
found_before f (x ∷ xs) (suc i) y e = found_before f xs i y e

map_through : {X : Type 0} (by : Moves) (g : Field → X) (same : (f : Field) → g (moved_field by f) ≡ g f) (fs : List Field) → map g (map (moved_field by) fs) ≡ map g fs
map_through by g same [] = refl
map_through by g same (f ∷ fs) = ap₂ (λ x xs. x ∷ xs) (same f) (map_through by g same fs)

lengths_same : (by : Moves) (lists : List (List SchemaType)) → map (λ (l : List SchemaType). length l) (map (moved_types by) lists) ≡ map (λ (l : List SchemaType). length l) lists
lengths_same by [] = refl
lengths_same by (l ∷ ls) = ap₂ (λ x xs. x ∷ xs) (length-map l (moved_type by)) (lengths_same by ls)

-- ---- types of annotations ----

has_types : (by : Moves) (own : List Annotation) (children : List (List Annotation)) (types : AnnotationTypes) → HasTypes own children types → HasTypes own children (moved_annotation_types by types)
has_types by own children types h = (length-map types.own (moved_type by) ∙ h.0, lengths_same by types.children ∙ h.1)

pub brand_has_types : (by : Moves) (n : Node) (b : Brand) → BrandHasTypes n b → BrandHasTypes (moved_node by n) (moved_brand by b)
brand_has_types by n b h = (
  length-map b.field_types (moved_type by) ∙ h.0 ∙ sym (length-map n.fields (moved_field by)),
  subst (λ (lists : List (List Annotation)). HasTypes n.annotations lists (moved_annotation_types by b.annotation_types))
      (sym (map_through by (λ (f : Field). f.annotations) (λ f. refl) n.fields))
      (has_types by n.annotations (map (λ (f : Field). f.annotations) n.fields) b.annotation_types h.1),
)

pub enum_has_types : (by : Moves) (e : Enum) → EnumHasTypes e → EnumHasTypes (moved_enum by e)
enum_has_types by e h = has_types by e.annotations _ e.annotation_types h

pub types_name : (by : Moves) (s t : Schemas) → IsAccepted s → IsIn by s t → (types : AnnotationTypes) → TypesName s types → TypesName t (moved_annotation_types by types)
types_name by s t accepted within types h = (
  all_name types.own h.0,
  All-map (AllName t) (moved_types by) types.children (All-weaker (AllName s) (λ ts. AllName t (moved_types by ts)) all_name types.children h.1),
)
  where
    all_name : (ts : List SchemaType) → AllName s ts → AllName t (moved_types by ts)
    all_name ts all = All-map (NamesEntries t) (moved_type by) ts (All-weaker (NamesEntries s) (λ x. NamesEntries t (moved_type by x)) (names_entries by s t accepted within) ts all)

-- ---- nodes ----

each_of_node : (P : List Annotation → Type 0) (by : Moves) (n : Node) → EachOfNode P n → EachOfNode P (moved_node by n)
each_of_node P by n h = (h.0, All-map (λ (f : Field). P f.annotations) (moved_field by) n.fields h.1)

pub own_names : (by : Moves) (n : Node) → ((i : ℕ) → HasOwnName n.fields i) → (i : ℕ) → HasOwnName (moved_node by n).fields i
own_names by n own i j f g at_i at_j same =
    let x = found_before (moved_field by) n.fields i f at_i in
    let y = found_before (moved_field by) n.fields j g at_j in
    own i j x.0 y.0 x.1 y.1 (ap (λ (f : Field). f.name) x.2 ∙ same ∙ sym (ap (λ (f : Field). f.name) y.2))

pub few_fields : (by : Moves) (n : Node) → HasFewFields n → HasFewFields (moved_node by n)
few_fields by n h = record {
  fields = let few = h.fields in omega (arith, length-map n.fields (moved_field by));
  annotations = each_of_node HasFewAnnotations by n h.annotations;
}

pub node_words : (by : Moves) (n : Node) → NodeHasWords n → NodeHasWords (moved_node by n)
node_words by n h = record {
  defaults = All-map DefaultStands (moved_field by) n.fields (All-weaker DefaultStands (λ f. DefaultStands (moved_field by f)) stands n.fields h.defaults);
  annotations = each_of_node HaveWords by n h.annotations;
}
  where
    stands : (f : Field) → DefaultStands f → DefaultStands (moved_field by f)
    stands f d = subst (λ (v : Value). HasWords v × Decodes v) (sym (same_default by f.kind)) d

pub each_member : (by : Moves) (n : Node) → HasEachMember n → HasEachMember (moved_node by n)
each_member by n h = record {
  apart = record {
    below = λ k f at member.
        let x = found_before (moved_field by) n.fields k f at in
        subst (λ (f : Field). f.discriminant_value < n.discriminant_count) x.2 (h.apart.below k x.0 x.1 (ap (λ (f : Field). is_member f) x.2 ∙ member));
    once = λ i j f g at_i at_j member same.
        let x = found_before (moved_field by) n.fields i f at_i in
        let y = found_before (moved_field by) n.fields j g at_j in
        h.apart.once i j x.0 y.0 x.1 y.1 (ap (λ (f : Field). is_member f) x.2 ∙ member)
        (ap (λ (f : Field). f.discriminant_value) x.2 ∙ same ∙ sym (ap (λ (f : Field). f.discriminant_value) y.2));
  };
  some = λ d below. subst (λ (values : List ℕ). Contains values d) (sym (map_through by (λ (f : Field). f.discriminant_value) (λ f. refl) n.fields)) (h.some d below);
}

-- ---- enums ----

pub few_enumerants : (by : Moves) (e : Enum) → HasFewEnumerants e → HasFewEnumerants (moved_enum by e)
few_enumerants by e h = record { enumerants = h.enumerants; annotations = h.annotations }
