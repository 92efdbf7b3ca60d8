-- Where a rule is broken at a place the rule doesn't hold, and the set isn't accepted.
use Rattle.std.proofs.Common.{All, slice_get, Some, ◌≡◌, refl, ℕ, ◌<◌, List, Option, ap, length, subst}
use Rattle.std.specs.Option.{unwrap_or}
use Rattle.std.proofs.lemmas.Option.{slice_get_within, get_or_from_slice_get}
use Rattle.std.proofs.lemmas.List.Elements.{All-get_or}
use Rattle.capnp_device.specs.declared.error.SchemaTable.{SchemaTable}
use Rattle.capnp_device.specs.declared.error.Error.{Error}
use Rattle.capnp_device.specs.declared.error.ErrorKind.{ErrorKind}
use Rattle.capnp_device.specs.declared.error.ErrorKind.TheVariants as error
use Rattle.capnp_schema.specs.Schema.{Schemas, Node, Brand, Enum, no_brand}
use Rattle.capnp_schema.specs.Accepted.{IsAccepted, TypesName, EnumHasTypes, HasFewEnumerants, HasFewFields, HasOwnName, EachOfEnum, HaveWords, NodeHasWords, HasEachMember, DiscriminantFits}
use Rattle.capnp_schema.specs.Broken as broken
use Rattle.capnp_schema.specs.Broken.{IsBroken, EntryBreaks, ChildBreaks, IsKindOf, IsRefusalOf}
use Rattle.capnp_schema.specs.BrokenLaw.{RuleHolds, BrokenRuleFails, BrokenIsRefused}

all_at : {A : Type 0} (P : A → Type 0) (xs : List A) (i : ℕ) (x : A) → slice_get xs i ≡ Some x → All P xs → P x
all_at P xs i x found all = subst P (get_or_from_slice_get xs i x x found) (All-get_or P xs i x (slice_get_within xs i x found) all)

-- an entry of a list of which all are Q, where Q gives P
entry_stands : {A : Type 0} (Q P : A → Type 0) (xs : List A) (i : ℕ) → ((x : A) → Q x → P x) → EntryBreaks xs P i → All Q xs → ⊥
entry_stands Q P xs i gives w all = w.broken (gives w.entry (all_at Q xs i w.entry w.is all))

-- a child of such an entry, where Q gives P of all its children
child_stands : {A B : Type 0} (Q : A → Type 0) (children : A → List B) (P : B → Type 0) (xs : List A) (e i : ℕ) → ((x : A) → Q x → All P (children x)) → ChildBreaks xs children P e i → All Q xs → ⊥
child_stands Q children P xs e i gives w all =
    entry_stands P P (children w.entry) i (λ y so. so) w.child (gives w.entry (all_at Q xs e w.entry w.is all))

fails : (set : Schemas) (rule : ℕ) (table : SchemaTable) (entry field : ℕ) → IsBroken set rule table entry field → RuleHolds set rule → ⊥
fails set _ _ _ _ (broken.field_type b i w) h = w.broken ((h.rule1 refl).fields b i w.brand w.field)
fails set _ _ _ _ (broken.brand_types b w) h = entry_stands (λ (x : Brand). TypesName set x.annotation_types) _ set.brands b (λ x so. so.0) w (h.rule1 refl).brands
fails set _ _ _ _ (broken.brand_child_types b i w) h = child_stands (λ (x : Brand). TypesName set x.annotation_types) _ _ set.brands b i (λ x so. so.1) w (h.rule1 refl).brands
fails set _ _ _ _ (broken.enum_types e w) h = entry_stands (λ (x : Enum). TypesName set x.annotation_types) _ set.enums e (λ x so. so.0) w (h.rule1 refl).enums
fails set _ _ _ _ (broken.enum_child_types e i w) h = child_stands (λ (x : Enum). TypesName set x.annotation_types) _ _ set.enums e i (λ x so. so.1) w (h.rule1 refl).enums
fails set _ _ _ _ (broken.brand_node b w) h = w.broken (subst (λ (x : Brand). x.node < length set.nodes) (ap (λ (o : Option Brand). unwrap_or o (no_brand set)) w.is) ((h.rule2 refl).brands b (slice_get_within set.brands b w.entry w.is)).node)
fails set _ _ _ _ (broken.brand_lengths b inside w) h = w ((h.rule2 refl).brands b inside).types
fails set _ _ _ _ (broken.enum_lengths e w) h = entry_stands EnumHasTypes _ set.enums e (λ x so. so) w (h.rule2 refl).enums
fails set _ _ _ _ (broken.name n i w) h = entry_stands (λ (x : Node). (i : ℕ) → HasOwnName x.fields i) _ set.nodes n (λ x so. so i) w (h.rule3 refl).names
fails set _ _ _ _ (broken.field_count n w) h = entry_stands HasFewFields _ set.nodes n (λ x so. so.fields) w (h.rule3 refl).counts.nodes
fails set _ _ _ _ (broken.enumerant_count e w) h = entry_stands HasFewEnumerants _ set.enums e (λ x so. so.enumerants) w (h.rule3 refl).counts.enums
fails set _ _ _ _ (broken.node_annotation_count n w) h = entry_stands HasFewFields _ set.nodes n (λ x so. so.annotations.0) w (h.rule3 refl).counts.nodes
fails set _ _ _ _ (broken.field_annotation_count n i w) h = child_stands HasFewFields _ _ set.nodes n i (λ x so. so.annotations.1) w (h.rule3 refl).counts.nodes
fails set _ _ _ _ (broken.enum_annotation_count e w) h = entry_stands HasFewEnumerants _ set.enums e (λ x so. so.annotations.0) w (h.rule3 refl).counts.enums
fails set _ _ _ _ (broken.enumerant_annotation_count e i w) h = child_stands HasFewEnumerants _ _ set.enums e i (λ x so. so.annotations.1) w (h.rule3 refl).counts.enums
fails set _ _ _ _ (broken.slot_outside b i w) h = w.broken ((h.rule4 refl) b i w.brand w.field)
fails set _ _ _ _ (broken.default_kind b i w) h = w.broken ((h.rule5 refl) b i w.brand w.field)
fails set _ _ _ _ (broken.default_words n i w) h = child_stands NodeHasWords _ _ set.nodes n i (λ x so. so.defaults) w (h.rule6 refl).values.nodes
fails set _ _ _ _ (broken.default_list b i w) h = w.broken ((h.rule6 refl).lists b i w.brand w.field)
fails set _ _ _ _ (broken.node_annotation_words n w) h = entry_stands NodeHasWords _ set.nodes n (λ x so. so.annotations.0) w (h.rule6 refl).values.nodes
fails set _ _ _ _ (broken.field_annotation_words n i w) h = child_stands NodeHasWords _ _ set.nodes n i (λ x so. so.annotations.1) w (h.rule6 refl).values.nodes
fails set _ _ _ _ (broken.enum_annotation_words e w) h = entry_stands (EachOfEnum HaveWords) _ set.enums e (λ x so. so.0) w (h.rule6 refl).values.enums
fails set _ _ _ _ (broken.enumerant_annotation_words e i w) h = child_stands (EachOfEnum HaveWords) _ _ set.enums e i (λ x so. so.1) w (h.rule6 refl).values.enums
fails set _ _ _ _ (broken.group_type b i w) h = w.broken ((h.rule7 refl) b i w.brand w.field)
fails set _ _ _ _ (broken.group_parent g inside w) h = w ((h.rule8 refl) g inside)
fails set _ _ _ _ (broken.members n w) h = entry_stands HasEachMember _ set.nodes n (λ x so. so) w (h.rule9 refl)
fails set _ _ _ _ (broken.discriminant_outside n w) h = entry_stands DiscriminantFits _ set.nodes n (λ x so. so) w (h.rule10 refl)
fails set _ _ _ _ (broken.fields_meet b i w) h = w.broken ((h.rule11 refl) b i w.brand w.field)
fails set _ _ _ _ (broken.discriminant_met b i w) h = w.broken ((h.rule12 refl) b i w.brand w.field)

pub broken_rule_fails : BrokenRuleFails
broken_rule_fails set rule entry field table w h = fails set rule table entry field w h

all_hold : (set : Schemas) (rule : ℕ) → IsAccepted set → RuleHolds set rule
all_hold set rule a = record {
  rule1 = λ _. a.rule1;
  rule2 = λ _. a.rule2;
  rule3 = λ _. a.rule3;
  rule4 = λ _. a.rule4;
  rule5 = λ _. a.rule5;
  rule6 = λ _. a.rule6;
  rule7 = λ _. a.rule7;
  rule8 = λ _. a.rule8;
  rule9 = λ _. a.rule9;
  rule10 = λ _. a.rule10;
  rule11 = λ _. a.rule11;
  rule12 = λ _. a.rule12;
}

pub broken_is_refused : BrokenIsRefused
broken_is_refused set rule entry field table w a = fails set rule table entry field w (all_hold set rule a)

-- a refusal of a set that is accepted is for memory
pub refused_for_memory : (set : Schemas) (e : Error) → IsRefusalOf set e → IsAccepted set → e.kind ≡ error.OutOfMemory
refused_for_memory set e refused accepted = at e.kind refused
  where
    at : (kind : ErrorKind) → IsKindOf set kind → kind ≡ error.OutOfMemory
    at error.OutOfMemory h = refl
    at (error.Schema table field rule entry) h = absurd (broken_is_refused set rule entry field table h accepted)
    at kind h = absurd h
