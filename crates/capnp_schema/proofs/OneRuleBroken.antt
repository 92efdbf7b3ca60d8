-- Sets in which a type names no brand or a group field has no struct type: rule 1 or rule 7 is broken, and no other.
use Rattle.std.proofs.Common.{List, [], ◌∷◌, codes, ℕ, ◌≡◌, ◌==◌, ◌||◌, Bool, true, false, refl, ap}
use Rattle.capnp_device.specs.declared.error.SchemaTable.{SchemaTable}
use Rattle.capnp_wire.specs.Place.{tree_at, tree_below}
use Rattle.capnp_schema.specs.Types.{VoidType, UIntType, StructType}
use Rattle.capnp_schema.specs.Schema.{Schemas, Node, Field, VoidValue, UIntValue, StructValue}
use Rattle.capnp_schema.specs.Accepted.{Rule1, Rule7}
use Rattle.capnp_schema.specs.Broken.{IsBroken}
use Rattle.capnp_schema.specs.BrokenLaw.{RuleHolds}
use Rattle.capnp_schema.specs.Builtin.{builtin_field, member, group_member, builtin_struct_node, union_node, builtin_brand, zero_word}
use Rattle.capnp_schema.proofs.BrokenSets.{broken_rule_fails}
use Rattle.capnp_schema.specs.Facts.ComputedRules.{meets_rule1, meets_rule2, meets_rule3, meets_rule4, meets_rule5, meets_rule7, meets_rule9, meets_rule10, rule1, rule2, rule3, rule4, rule5, rule7, rule9, rule10}
use Rattle.capnp_schema.specs.Facts.ComputedValues.{meets_rule6, rule6}
use Rattle.capnp_schema.specs.Facts.ComputedGroups.{meets_rule8, rule8}
use Rattle.capnp_schema.specs.Facts.ComputedSpans.{meets_rule11, meets_rule12, rule11, rule12}

-- only rules of such numbers are broken
abbrev OnlyBroken : Schemas → (ℕ → Bool) → Type 0
OnlyBroken set broken = (rule entry field : ℕ) (table : SchemaTable) → IsBroken set rule table entry field → broken rule ≡ true

only : (set : Schemas) (broken : ℕ → Bool) → ((rule : ℕ) → broken rule ≡ false → RuleHolds set rule) → OnlyBroken set broken
only set broken others rule entry field table w = at (broken rule) refl
  where
    at : (q : Bool) → broken rule ≡ q → q ≡ true
    at true e = refl
    at false e = absurd (broken_rule_fails set rule entry field table w (others rule e))

-- a rule of a number that may be broken
exempt : (A : Type 0) (broken : ℕ → Bool) (rule k : ℕ) → broken k ≡ true → broken rule ≡ false → rule ≡ k → A
exempt A broken rule k is not_so e = absurd (clash (ap broken e))
  where
    clash : broken rule ≡ broken k → ⊥
    clash same = cc

-- all rules but 1 and 7 hold
record Others (set : Schemas) (parents : ℕ → ℕ × ℕ) : Type 0 where
  two : meets_rule2 set ≡ true
  three : meets_rule3 set ≡ true
  four : meets_rule4 set ≡ true
  five : meets_rule5 set ≡ true
  six : meets_rule6 set ≡ true
  eight : meets_rule8 set parents ≡ true
  nine : meets_rule9 set ≡ true
  ten : meets_rule10 set ≡ true
  eleven : meets_rule11 set ≡ true
  twelve : meets_rule12 set ≡ true

all_others : (set : Schemas) (parents : ℕ → ℕ × ℕ) (rule : ℕ) → Others set parents → (rule ≡ 1 → Rule1 set) → (rule ≡ 7 → Rule7 set) → RuleHolds set rule
all_others set parents rule o one seven = record {
  rule1 = one;
  rule2 = λ _. rule2 set o.two;
  rule3 = λ _. rule3 set o.three;
  rule4 = λ _. rule4 set o.four;
  rule5 = λ _. rule5 set o.five;
  rule6 = λ _. rule6 set o.six;
  rule7 = seven;
  rule8 = λ _. rule8 set parents o.eight;
  rule9 = λ _. rule9 set o.nine;
  rule10 = λ _. rule10 set o.ten;
  rule11 = λ _. rule11 set o.eleven;
  rule12 = λ _. rule12 set o.twelve;
}

abbrev is_one : ℕ → Bool
is_one rule = rule == 1

abbrev is_seven : ℕ → Bool
is_seven rule = rule == 7

abbrev is_either : ℕ → Bool
is_either rule = (rule == 1) || (rule == 7)

abbrev group_node : List Field → Node
group_node fields = record { id = 1; display_name = codes "G"; annotations = []; data_word_count = 1; pointer_count = 1; is_group = true; discriminant_count = 0; discriminant_offset = 0; fields = fields }

-- a non-union field that is a group
abbrev group_field : List ℕ → ℕ → Field
group_field name node = group_member 65535 name node

-- ---- a slot of a brand that isn't there, beside a group that nothing names ----

abbrev missing_brand : Schemas
missing_brand = record {
  nodes = group_node [] ∷ builtin_struct_node 2 (codes "S") 1 1 (builtin_field (codes "p") 0 (StructValue zero_word) ∷ []) ∷ [];
  brands = builtin_brand 1 (StructType 9 9 ∷ []) ∷ [];
  enums = [];
}

missing_brand_others : Others missing_brand (λ g. (0, 0))
unfolding tree_at tree_below
missing_brand_others = record { two = refl; three = refl; four = refl; five = refl; six = refl; eight = refl; nine = refl; ten = refl; eleven = refl; twelve = refl }

missing_brand_groups : meets_rule7 missing_brand ≡ true
missing_brand_groups = refl

pub missing_brand_breaks_rule1 : OnlyBroken missing_brand is_one
missing_brand_breaks_rule1 = only missing_brand is_one (λ rule e. all_others missing_brand (λ g. (0, 0)) rule missing_brand_others (exempt (Rule1 missing_brand) is_one rule 1 refl e) (λ _. rule7 missing_brand missing_brand_groups))

-- ---- a group field of a type that is no struct type, beside a non-union field ----

abbrev void_group : Schemas
void_group = record {
  nodes = builtin_struct_node 2 (codes "S") 1 1 (group_field (codes "g") 0 ∷ builtin_field (codes "n") 0 (UIntValue 2 0) ∷ []) ∷ [];
  brands = builtin_brand 0 (VoidType ∷ UIntType 2 ∷ []) ∷ [];
  enums = [];
}

void_group_others : Others void_group (λ g. (0, 0))
unfolding tree_at tree_below
void_group_others = record { two = refl; three = refl; four = refl; five = refl; six = refl; eight = refl; nine = refl; ten = refl; eleven = refl; twelve = refl }

void_group_types : meets_rule1 void_group ≡ true
void_group_types = refl

pub void_group_breaks_rule7 : OnlyBroken void_group is_seven
void_group_breaks_rule7 = only void_group is_seven (λ rule e. all_others void_group (λ g. (0, 0)) rule void_group_others (λ _. rule1 void_group void_group_types) (exempt (Rule7 void_group) is_seven rule 7 refl e))

-- ---- a group field of a brand that isn't there, in a struct with a union ----

abbrev missing_group : Schemas
missing_group = record {
  nodes = union_node 2 (codes "S") 1 1 1 0 (group_field (codes "g") 0 ∷ member 0 (codes "x") 0 VoidValue ∷ []) ∷ [];
  brands = builtin_brand 0 (StructType 9 0 ∷ VoidType ∷ []) ∷ [];
  enums = [];
}

missing_group_others : Others missing_group (λ g. (0, 0))
unfolding tree_at tree_below
missing_group_others = record { two = refl; three = refl; four = refl; five = refl; six = refl; eight = refl; nine = refl; ten = refl; eleven = refl; twelve = refl }

pub missing_group_breaks_rules1_and_7 : OnlyBroken missing_group is_either
missing_group_breaks_rules1_and_7 = only missing_group is_either (λ rule e. all_others missing_group (λ g. (0, 0)) rule missing_group_others (exempt (Rule1 missing_group) is_either rule 1 refl e) (exempt (Rule7 missing_group) is_either rule 7 refl e))

-- ---- group brand 0, rightly named once, and another group field of a type that is no struct type ----

abbrev second_group : Schemas
second_group = record {
  nodes = group_node (builtin_field (codes "n") 0 (UIntValue 2 0) ∷ []) ∷ builtin_struct_node 2 (codes "S") 1 1 (group_field (codes "g") 0 ∷ group_field (codes "h") 0 ∷ []) ∷ [];
  brands = builtin_brand 0 (UIntType 2 ∷ []) ∷ builtin_brand 1 (StructType 0 0 ∷ VoidType ∷ []) ∷ [];
  enums = [];
}

second_group_others : Others second_group (λ g. (1, 0))
unfolding tree_at tree_below
second_group_others = record { two = refl; three = refl; four = refl; five = refl; six = refl; eight = refl; nine = refl; ten = refl; eleven = refl; twelve = refl }

second_group_types : meets_rule1 second_group ≡ true
second_group_types = refl

pub second_group_breaks_rule7 : OnlyBroken second_group is_seven
second_group_breaks_rule7 = only second_group is_seven (λ rule e. all_others second_group (λ g. (1, 0)) rule second_group_others (λ _. rule1 second_group second_group_types) (exempt (Rule7 second_group) is_seven rule 7 refl e))
