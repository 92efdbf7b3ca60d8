-- Brands of an embedded set meet the rules in the set that they are in.
use Rattle.std.proofs.Common.{ℕ, zero, suc, ◌+◌, ◌<◌, ◌≡◌, length, arith, ap, sym, subst, ◌∙◌}
use Rattle.capnp_schema.specs.Schema.{Schemas, Node, Brand, TypedField, brand_at, node_of, fields_of, field_at, is_member}
use Rattle.capnp_schema.specs.Footprint.{Spot, footprint}
use Rattle.capnp_schema.specs.Accepted.{BrandHasTypes, BrandStands, DefaultIsOfType, DiscriminantApart, EndsAtStruct, FieldsApart, GroupStands, HasNamedType, HasOneParent, IsAccepted, IsGroupOf, IsParent, NamesOwnGroup, ReadsDefault, SlotLiesInside, StandsInStruct}
use Rattle.capnp_joined_sets.specs.declared.moves.Moves.{Moves}
use Rattle.capnp_joined_sets.specs.Joined.{moved_node}
use Rattle.capnp_joined_sets.proofs.Embedded.{IsIn, brand_in, count_in, field_in, moved_typed, node_in}
use Rattle.capnp_joined_sets.proofs.Footprints.{discriminant_in, footprint_in}
use Rattle.capnp_joined_sets.proofs.MovedEntries.{brand_has_types}
use Rattle.capnp_joined_sets.proofs.MovedTypes.{group_fits, kind_default_stays, kind_reads_stays, lies_inside, named_before, names_entries, names_moved}

module _ (by : Moves) (s t : Schemas) (accepted : IsAccepted s) (within : IsIn by s t) where
  module _ (b : ℕ) (below : b < length s.brands) where
    typed : (i : ℕ) → field_at t (b + by.brands) i ≡ moved_typed by (field_at s b i)
    typed i = field_in by s t accepted within b below i

    pub there : (i : ℕ) → i < length (fields_of t (b + by.brands)) → i < length (fields_of s b)
    there i h = let same = count_in by s t accepted within b below in omega arith

    pub named : (i : ℕ) → i < length (fields_of t (b + by.brands)) → HasNamedType t (field_at t (b + by.brands) i)
    named i h = subst (λ (f : TypedField). HasNamedType t f) (sym (typed i)) (names_entries by s t accepted within (field_at s b i).type (accepted.rule1.fields b i below (there i h)))

    pub stands : BrandStands t (b + by.brands)
    stands = record {
      node = subst (λ (x : Brand). x.node < length t.nodes) (sym (brand_in by s t accepted within b below)) (within.nodes (brand_at s b).node (accepted.rule2.brands b below).node).0;
      types =
          subst (λ (n : Node). BrandHasTypes n (brand_at t (b + by.brands))) (sym (node_in by s t accepted within b below))
          (subst (λ (x : Brand). BrandHasTypes (moved_node by (node_of s b)) x) (sym (brand_in by s t accepted within b below)) (brand_has_types by (node_of s b) (brand_at s b) (accepted.rule2.brands b below).types));
    }

    pub inside : (i : ℕ) → i < length (fields_of t (b + by.brands)) → SlotLiesInside (node_of t (b + by.brands)) (field_at t (b + by.brands) i)
    inside i h =
        subst (λ (n : Node). SlotLiesInside n (field_at t (b + by.brands) i)) (sym (node_in by s t accepted within b below))
        (subst (λ (f : TypedField). SlotLiesInside (moved_node by (node_of s b)) f) (sym (typed i)) (lies_inside by (node_of s b) (field_at s b i).field.kind (field_at s b i).type (accepted.rule4 b i below (there i h))))

    pub default : (i : ℕ) → i < length (fields_of t (b + by.brands)) → DefaultIsOfType (field_at t (b + by.brands) i)
    default i h = subst DefaultIsOfType (sym (typed i)) (kind_default_stays by (field_at s b i).field.kind (field_at s b i).type (accepted.rule5 b i below (there i h)))

    pub list_reads : (i : ℕ) → i < length (fields_of t (b + by.brands)) → ReadsDefault (field_at t (b + by.brands) i)
    list_reads i h = subst ReadsDefault (sym (typed i)) (kind_reads_stays by (field_at s b i).field.kind (field_at s b i).type (accepted.rule6.lists b i below (there i h)))

    pub own_group : (i : ℕ) → i < length (fields_of t (b + by.brands)) → NamesOwnGroup t (field_at t (b + by.brands) i)
    own_group i h =
        subst (NamesOwnGroup t) (sym (typed i))
        (group_fits by s t accepted within (field_at s b i).field.kind (field_at s b i).type (accepted.rule1.fields b i below (there i h)) (accepted.rule7 b i below (there i h)))

    -- the same spots
    spots : (more : ℕ) → length t.brands ≡ more + length s.brands → (i : ℕ) → i < length (fields_of t (b + by.brands)) → (p : Spot) → footprint t (field_at t (b + by.brands) i) p ≡ footprint s (field_at s b i) p
    spots more counted i h p = ap (λ (f : TypedField). footprint t f p) (typed i) ∙ footprint_in by s t accepted within b i below (there i h) more counted p

    pub apart : (more : ℕ) → length t.brands ≡ more + length s.brands → (i : ℕ) → i < length (fields_of t (b + by.brands)) → FieldsApart t (b + by.brands) i (field_at t (b + by.brands) i)
    apart more counted i h = λ j p j_in differ outside names.
        spots more counted j j_in p
        ∙ accepted.rule11 b i below (there i h) j p (there j j_in) differ
        (sym (ap (λ (f : TypedField). is_member f.field) (typed i)) ∙ outside)
        (sym (spots more counted i h p) ∙ names)

    pub discriminant_apart : (more : ℕ) → length t.brands ≡ more + length s.brands → (i : ℕ) → i < length (fields_of t (b + by.brands)) → DiscriminantApart t (b + by.brands) (field_at t (b + by.brands) i)
    discriminant_apart more counted i h = λ p names.
        spots more counted i h p
        ∙ accepted.rule12 b i below (there i h) p (sym (discriminant_in by s t accepted within b below p) ∙ names)

    same_group : (node_of t (b + by.brands)).is_group ≡ (node_of s b).is_group
    same_group = ap (λ (n : Node). n.is_group) (node_in by s t accepted within b below)

  parent_in : (g p i : ℕ) → IsParent s g p i → IsParent t (g + by.brands) (p + by.brands) i
  parent_in g p i h = record {
    brand = (within.brands p h.brand).0;
    field = let here = h.field in let same = count_in by s t accepted within p h.brand in omega arith;
    names = subst (λ (f : TypedField). IsGroupOf f.field.kind f.type (g + by.brands)) (sym (typed p h.brand i)) (names_moved by (field_at s p i).field.kind (field_at s p i).type g h.names);
  }

  parent_before : (g p i : ℕ) → p < length s.brands → IsParent t (g + by.brands) (p + by.brands) i → IsParent s g p i
  parent_before g p i p_in h =
      let was = named_before by (field_at s p i).field.kind (field_at s p i).type (g + by.brands) (subst (λ (f : TypedField). IsGroupOf f.field.kind f.type (g + by.brands)) (typed p p_in i) h.names) in
      let sum = was.2 in
      let same : was.0 ≡ g = omega arith in record {
        brand = p_in;
        field = there p p_in i h.field;
        names = subst (λ x. IsGroupOf (field_at s p i).field.kind (field_at s p i).type x) same was.1;
      }

  ends_in : (steps g : ℕ) → g < length s.brands → EndsAtStruct steps s g → EndsAtStruct steps t (g + by.brands)
  ends_in zero g below h = same_group g below ∙ h
  ends_in (suc steps) g below (is, (p, i, parent, ends)) = (same_group g below ∙ is, (p + by.brands, i, parent_in g p i parent, ends_in steps p parent.brand ends))

  -- where a group's parents in the whole are all of its own set
  pub group_stands : (more : ℕ) → length t.brands ≡ more + length s.brands →
      ((g c i : ℕ) → g < length s.brands → IsParent t (g + by.brands) c i → (d : ℕ) × (d < length s.brands) × (c ≡ d + by.brands)) →
      (g : ℕ) → g < length s.brands → GroupStands t (g + by.brands)
  group_stands more counted own g below group = of_side (accepted.rule8 g below (sym (same_group g below) ∙ group))
    where
      one_parent : HasOneParent s g → HasOneParent t (g + by.brands)
      one_parent one = record {
        parent = one.parent + by.brands;
        index = one.index;
        is_parent = parent_in g one.parent one.index one.is_parent;
        only = λ c i h.
            let d = own g c i below h in
            let was = one.only d.0 i (parent_before g d.0 i d.1 (subst (λ x. IsParent t (g + by.brands) x i) d.2 h)) in
            (d.2 ∙ ap (λ x. x + by.brands) was.0, was.1);
        sizes = (
          ap (λ (n : Node). n.data_word_count) (node_in by s t accepted within g below) ∙ one.sizes.0 ∙ sym (ap (λ (n : Node). n.data_word_count) (node_in by s t accepted within one.parent one.is_parent.brand)),
          ap (λ (n : Node). n.pointer_count) (node_in by s t accepted within g below) ∙ one.sizes.1 ∙ sym (ap (λ (n : Node). n.pointer_count) (node_in by s t accepted within one.parent one.is_parent.brand)),
        );
      }

      of_side : HasOneParent s g × StandsInStruct s g → HasOneParent t (g + by.brands) × StandsInStruct t (g + by.brands)
      of_side h = (one_parent h.0, (h.1.0, let few = h.1.1 in omega arith, ends_in h.1.0 g below h.1.2))
