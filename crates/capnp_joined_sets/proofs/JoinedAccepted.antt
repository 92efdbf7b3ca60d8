-- Two sets that meet the twelve rules meet them together.
use Rattle.std.proofs.Common.{ℕ, ◌+◌, ◌<◌, ◌≡◌, refl, All, length, map, arith, subst}
use Rattle.std.proofs.lemmas.List.{length-append, length-map}
use Rattle.capnp_schema.specs.Schema.{Schemas, Node, Brand, Enum, TypedField, node_of, fields_of, field_at}
use Rattle.capnp_schema.specs.Accepted.{BrandStands, DefaultIsOfType, DiscriminantApart, DiscriminantFits, EachField, EachOfEnum, EnumHasTypes, FieldsApart, GroupStands, HasEachMember, HasFewEnumerants, HasFewFields, HasNamedType, HasOwnName, HaveWords, IsAccepted, IsGroupOf, IsParent, NamesOwnGroup, NodeHasWords, ReadsDefault, SlotLiesInside, TypesName}
use Rattle.capnp_schema.specs.Facts.Groups.{group_in_set}
use Rattle.capnp_joined_sets.specs.declared.moves.Moves.{Moves}
use Rattle.capnp_joined_sets.specs.declared.moves.TheConstants.{NO_MOVES}
use Rattle.capnp_joined_sets.specs.Joined.{ends_of, joined, moved_brand, moved_enum, moved_node}
use Rattle.capnp_joined_sets.proofs.BrandRules as rule
use Rattle.capnp_joined_sets.proofs.Embedded.{either_brand, field_in, newer_in, older_in}
use Rattle.capnp_joined_sets.proofs.Kept.{brand_kept, enum_kept, node_kept}
use Rattle.capnp_joined_sets.proofs.MovedEntries.{all_of_both, each_member, enum_has_types, few_enumerants, few_fields, node_words, own_names, types_name}
use Rattle.capnp_joined_sets.proofs.MovedTypes.{named_before}

module _ (older newer : Schemas) (first : IsAccepted older) (second : IsAccepted newer) where
  -- what holds of all nodes of both
  nodes : (P : Node → Type 0) → ((by : Moves) (n : Node) → P n → P (moved_node by n)) → All P older.nodes → All P newer.nodes → All P (joined older newer).nodes
  nodes P stays all every = all_of_both moved_node node_kept (ends_of older) P P P older.nodes newer.nodes (stays NO_MOVES) (stays (ends_of older)) all every

  enums : (P : Enum → Type 0) → ((by : Moves) (e : Enum) → P e → P (moved_enum by e)) → All P older.enums → All P newer.enums → All P (joined older newer).enums
  enums P stays all every = all_of_both moved_enum enum_kept (ends_of older) P P P older.enums newer.enums (stays NO_MOVES) (stays (ends_of older)) all every

  -- what holds of each field of each brand of both
  fields : (P : ℕ → ℕ → TypedField → Type 0) →
      ((b : ℕ) → b < length older.brands → (i : ℕ) → i < length (fields_of (joined older newer) (b + NO_MOVES.brands)) → P (b + NO_MOVES.brands) i (field_at (joined older newer) (b + NO_MOVES.brands) i)) →
      ((b : ℕ) → b < length newer.brands → (i : ℕ) → i < length (fields_of (joined older newer) (b + (ends_of older).brands)) → P (b + (ends_of older).brands) i (field_at (joined older newer) (b + (ends_of older).brands) i)) →
      EachField (joined older newer) P
  fields P here there b i below inside = either_brand older newer (λ c. (i : ℕ) → i < length (fields_of (joined older newer) c) → P c i (field_at (joined older newer) c i)) here there b below i inside

  counted_first : length (joined older newer).brands ≡ length newer.brands + length older.brands
  counted_first =
      let all = length-append older.brands (map (moved_brand (ends_of older)) newer.brands) in
      let those = length-map newer.brands (moved_brand (ends_of older)) in omega arith

  counted_second : length (joined older newer).brands ≡ length older.brands + length newer.brands
  counted_second = let e = counted_first in omega arith

  -- no field of the second set names a group of the first, and none of the first one of the second
  own_first : (g c i : ℕ) → g < length older.brands → IsParent (joined older newer) (g + NO_MOVES.brands) c i → (d : ℕ) × (d < length older.brands) × (c ≡ d + NO_MOVES.brands)
  own_first g c i below h = either_brand older newer
      (λ c. IsParent (joined older newer) (g + NO_MOVES.brands) c i → (d : ℕ) × (d < length older.brands) × (c ≡ d + NO_MOVES.brands))
      (λ b b_in h. (b, b_in, refl))
      (λ b b_in h.
      let f = field_at newer b i in
      let was = named_before (ends_of older) f.field.kind f.type (g + NO_MOVES.brands)
      (subst (λ (f : TypedField). IsGroupOf f.field.kind f.type (g + NO_MOVES.brands)) (field_in (ends_of older) newer (joined older newer) second (newer_in older newer) b b_in i) h.names) in
      let sum = was.2 in absurd (omega arith))
      c h.brand h

  own_second : (g c i : ℕ) → g < length newer.brands → IsParent (joined older newer) (g + (ends_of older).brands) c i → (d : ℕ) × (d < length newer.brands) × (c ≡ d + (ends_of older).brands)
  own_second g c i below h = either_brand older newer
      (λ c. IsParent (joined older newer) (g + (ends_of older).brands) c i → (d : ℕ) × (d < length newer.brands) × (c ≡ d + (ends_of older).brands))
      (λ b b_in h.
      let f = field_at older b i in
      let was = named_before NO_MOVES f.field.kind f.type (g + (ends_of older).brands)
      (subst (λ (f : TypedField). IsGroupOf f.field.kind f.type (g + (ends_of older).brands)) (field_in NO_MOVES older (joined older newer) first (older_in older newer) b b_in i) h.names) in
      let sum = was.2 in
      let low = group_in_set older first b i was.0 b_in (rule.there NO_MOVES older (joined older newer) first (older_in older newer) b b_in i h.field) was.1 in absurd (omega arith))
      (λ b b_in h. (b, b_in, refl))
      c h.brand h

  pub joined_accepted : IsAccepted (joined older newer)
  joined_accepted = record {
    rule1 = record {
      fields = fields (λ b i f. HasNamedType (joined older newer) f) (rule.named NO_MOVES older (joined older newer) first (older_in older newer)) (rule.named (ends_of older) newer (joined older newer) second (newer_in older newer));
      brands = all_of_both moved_brand brand_kept (ends_of older)
          (λ (b : Brand). TypesName older b.annotation_types) (λ (b : Brand). TypesName newer b.annotation_types) (λ (b : Brand). TypesName (joined older newer) b.annotation_types) older.brands newer.brands
          (λ b h. types_name NO_MOVES older (joined older newer) first (older_in older newer) b.annotation_types h) (λ b h. types_name (ends_of older) newer (joined older newer) second (newer_in older newer) b.annotation_types h) first.rule1.brands second.rule1.brands;
      enums = all_of_both moved_enum enum_kept (ends_of older)
          (λ (e : Enum). TypesName older e.annotation_types) (λ (e : Enum). TypesName newer e.annotation_types) (λ (e : Enum). TypesName (joined older newer) e.annotation_types) older.enums newer.enums
          (λ e h. types_name NO_MOVES older (joined older newer) first (older_in older newer) e.annotation_types h) (λ e h. types_name (ends_of older) newer (joined older newer) second (newer_in older newer) e.annotation_types h) first.rule1.enums second.rule1.enums;
    };
    rule2 = record {
      brands = either_brand older newer (λ b. BrandStands (joined older newer) b) (rule.stands NO_MOVES older (joined older newer) first (older_in older newer)) (rule.stands (ends_of older) newer (joined older newer) second (newer_in older newer));
      enums = enums EnumHasTypes enum_has_types first.rule2.enums second.rule2.enums;
    };
    rule3 = record {
      names = nodes (λ (n : Node). (i : ℕ) → HasOwnName n.fields i) own_names first.rule3.names second.rule3.names;
      counts = record {
        nodes = nodes HasFewFields few_fields first.rule3.counts.nodes second.rule3.counts.nodes;
        enums = enums HasFewEnumerants few_enumerants first.rule3.counts.enums second.rule3.counts.enums;
      };
    };
    rule4 = fields (λ b i f. SlotLiesInside (node_of (joined older newer) b) f) (rule.inside NO_MOVES older (joined older newer) first (older_in older newer)) (rule.inside (ends_of older) newer (joined older newer) second (newer_in older newer));
    rule5 = fields (λ b i f. DefaultIsOfType f) (rule.default NO_MOVES older (joined older newer) first (older_in older newer)) (rule.default (ends_of older) newer (joined older newer) second (newer_in older newer));
    rule6 = record {
      values = record {
        nodes = nodes NodeHasWords node_words first.rule6.values.nodes second.rule6.values.nodes;
        enums = enums (EachOfEnum HaveWords) (λ by e h. h) first.rule6.values.enums second.rule6.values.enums;
      };
      lists = fields (λ b i f. ReadsDefault f) (rule.list_reads NO_MOVES older (joined older newer) first (older_in older newer)) (rule.list_reads (ends_of older) newer (joined older newer) second (newer_in older newer));
    };
    rule7 = fields (λ b i f. NamesOwnGroup (joined older newer) f) (rule.own_group NO_MOVES older (joined older newer) first (older_in older newer)) (rule.own_group (ends_of older) newer (joined older newer) second (newer_in older newer));
    rule8 = either_brand older newer (λ g. GroupStands (joined older newer) g)
        (rule.group_stands NO_MOVES older (joined older newer) first (older_in older newer) (length newer.brands) counted_first own_first)
        (rule.group_stands (ends_of older) newer (joined older newer) second (newer_in older newer) (length older.brands) counted_second own_second);
    rule9 = nodes HasEachMember each_member first.rule9 second.rule9;
    rule10 = nodes DiscriminantFits (λ by n h. h) first.rule10 second.rule10;
    rule11 = fields (λ b i f. FieldsApart (joined older newer) b i f)
        (λ b below. rule.apart NO_MOVES older (joined older newer) first (older_in older newer) b below (length newer.brands) counted_first)
        (λ b below. rule.apart (ends_of older) newer (joined older newer) second (newer_in older newer) b below (length older.brands) counted_second);
    rule12 = fields (λ b i f. DiscriminantApart (joined older newer) b f)
        (λ b below. rule.discriminant_apart NO_MOVES older (joined older newer) first (older_in older newer) b below (length newer.brands) counted_first)
        (λ b below. rule.discriminant_apart (ends_of older) newer (joined older newer) second (newer_in older newer) b below (length older.brands) counted_second);
  }
