-- What the code looks up about groups is what the rules speak of.
use Rattle.std.proofs.Common.{ℕ, ◌≡◌, ◌<◌, ◌≤◌, ⊎_elim, List, [], length, arith, refl, sym, ap, ◌∙◌, subst, Option, Some, None, slice_get, get_or}
use Rattle.std.proofs.lemmas.Option.{slice_get_past, same_Some, slice_get-get_or}
use Rattle.std.proofs.lemmas.Bool.{cases_lt}
use Rattle.std.specs.Option.{unwrap_or}
use Rattle.capnp_schema.specs.Types.{SchemaType, VoidType, BoolType, IntType, UIntType, EnumType, TextType, DataType, StructType, ListType, AnyPointerType, struct_brand}
use Rattle.capnp_schema.specs.Schema.{Schemas, Node, Brand, FieldKind, Slot, Group, TypedField, node_of, node_at, no_node, no_brand, no_field, fields_of, field_at, typed_fields, kind_target}
use Rattle.capnp_schema.specs.Entries.{brand_entry}
use Rattle.capnp_schema.specs.Steps.Entries.{brand_node, node_of_entry}
use Rattle.capnp_schema.specs.Accepted.{Rule1, Rule7, NamesEntries, GroupFits, IsGroupBrand, IsParent, IsGroupOf}
use Rattle.capnp_schema.specs.Steps.Checking.Parents.{group_target, entry_target, TargetsAreGroups}
use Rattle.capnp_schema.specs.Facts.Fields.{typed_nothing}

-- ---- nodes ----

pub node_missing : (set : Schemas) (b : ℕ) → None ≡ brand_node set b → node_of set b ≡ no_node
node_missing set b e = at (brand_entry set b) e
  where
    at_node : (o : Option Node) → None ≡ o → unwrap_or o no_node ≡ no_node
    at_node o e = ap (λ (m : Option Node). unwrap_or m no_node) (sym e)

    at : (o : Option Brand) → None ≡ node_of_entry set o → node_at set (unwrap_or o (no_brand set)).node ≡ no_node
    at None e = at_node (slice_get set.nodes (length set.nodes)) (sym (slice_get_past set.nodes (length set.nodes) (omega arith)))
    at (Some r) e = at_node (slice_get set.nodes r.node) e

-- past the brands stands a node with nothing in it
pub node_past : (set : Schemas) (b : ℕ) → length set.brands ≤ b → node_of set b ≡ no_node
node_past set b past = node_missing set b (sym (ap (node_of_entry set) (slice_get_past set.brands b past)))

-- ---- targets ----

-- past the brands there are no fields
pub no_fields : (set : Schemas) (b : ℕ) → length set.brands ≤ b → fields_of set b ≡ []
no_fields set b past = let none : slice_get set.brands b ≡ None = slice_get_past set.brands b past in
    ap (λ (o : Option Brand). typed_fields (node_of set b).fields (unwrap_or o (no_brand set)).field_types) none ∙ typed_nothing (node_of set b).fields

pub past_fields : (set : Schemas) (b i : ℕ) → length (fields_of set b) ≤ i → group_target set b i ≡ None
past_fields set b i h = ap entry_target (slice_get_past (fields_of set b) i h)

pub past_brands : (set : Schemas) (b i : ℕ) → length set.brands ≤ b → group_target set b i ≡ None
past_brands set b i h = ap (λ (fs : List TypedField). entry_target (slice_get fs i)) (no_fields set b h)

pub within_brands : (set : Schemas) (b i g : ℕ) → group_target set b i ≡ Some g → b < length set.brands
within_brands set b i g e = ⊎_elim (λ h. h) (λ h. absurd (let n : group_target set b i ≡ None = past_brands set b i h in cc)) (cases_lt b (length set.brands))

pub within_fields : (set : Schemas) (b i g : ℕ) → group_target set b i ≡ Some g → i < length (fields_of set b)
within_fields set b i g e = ⊎_elim (λ h. h) (λ h. absurd (let n : group_target set b i ≡ None = past_fields set b i h in cc)) (cases_lt i (length (fields_of set b)))

-- a field that is there
pub field_is : (set : Schemas) (b i : ℕ) → i < length (fields_of set b) → slice_get (fields_of set b) i ≡ Some (field_at set b i)
field_is set b i h = at (slice_get (fields_of set b) i) (slice_get-get_or (fields_of set b) i no_field h)
  where
    at : (o : Option TypedField) → o ≡ Some (get_or (fields_of set b) i no_field) → o ≡ Some (unwrap_or o no_field)
    at None e = cc
    at (Some f) e = refl

pub target_is : (set : Schemas) (b i : ℕ) → i < length (fields_of set b) → group_target set b i ≡ kind_target (field_at set b i).field.kind (field_at set b i).type
target_is set b i h = ap entry_target (field_is set b i h)

pub is_parent : (set : Schemas) (g b i : ℕ) → group_target set b i ≡ Some g → IsParent set g b i
is_parent set g b i e = record {
  brand = within_brands set b i g e;
  field = within_fields set b i g e;
  names = names (field_at set b i).field.kind (field_at set b i).type (sym (target_is set b i (within_fields set b i g e)) ∙ e);
}
  where
    names : (k : FieldKind) (t : SchemaType) → kind_target k t ≡ Some g → IsGroupOf k t g
    names (Slot offset default) t e = cc
    names (Group node) t e = e

pub from_parent : (set : Schemas) (g b i : ℕ) → IsParent set g b i → group_target set b i ≡ Some g
from_parent set g b i p = target_is set b i p.field ∙ target (field_at set b i).field.kind (field_at set b i).type p.names
  where
    target : (k : FieldKind) (t : SchemaType) → IsGroupOf k t g → kind_target k t ≡ Some g
    target (Slot offset default) t e = absurd e
    target (Group node) t e = e

pub targets_are_groups : (set : Schemas) → Rule1 set → Rule7 set → TargetsAreGroups set
targets_are_groups set one seven b i g e =
    let p : IsParent set g b i = is_parent set g b i e in
    at (field_at set b i).field.kind (field_at set b i).type p.names (one.fields b i p.brand p.field) (seven b i p.brand p.field)
  where
    at_group : (node : ℕ) (t : SchemaType) → struct_brand t ≡ Some g → NamesEntries set t → GroupFits set (Group node) t → (g < length set.brands) × IsGroupBrand set g
    at_group node VoidType n there fits = absurd fits
    at_group node BoolType n there fits = absurd fits
    at_group node (IntType bytes) n there fits = absurd fits
    at_group node (UIntType bytes) n there fits = absurd fits
    at_group node (EnumType number) n there fits = absurd fits
    at_group node TextType n there fits = absurd fits
    at_group node DataType n there fits = absurd fits
    at_group node (StructType number generic) n there fits = let same : number ≡ g = same_Some number g n in (subst (λ (x : ℕ). x < length set.brands) same there.0, subst (IsGroupBrand set) same fits.1)
    at_group node (ListType element) n there fits = absurd fits
    at_group node AnyPointerType n there fits = absurd fits

    at : (k : FieldKind) (t : SchemaType) → IsGroupOf k t g → NamesEntries set t → GroupFits set k t → (g < length set.brands) × IsGroupBrand set g
    at (Slot offset default) t n there fits = absurd n
    at (Group node) t n there fits = at_group node t n there fits
