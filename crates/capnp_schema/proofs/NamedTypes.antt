-- The types of an accepted set name its entries.
use Rattle.std.proofs.Common.{All, IfSome, ℕ, ◌≡◌, ◌<◌, ⊎_elim, List, get_or, length, map, slice_get, Option, Some, None, Vec, sym, ap, subst, arith}
use Rattle.std.specs.declared.alloc.Global.{Global}
use Rattle.std.proofs.lemmas.List.{get_or-map, length-map}
use Rattle.std.specs.Option.{option_map}
use Rattle.std.proofs.lemmas.Bool.{cases_lt}
use Rattle.std.proofs.lemmas.Option.{slice_get_within}
use Rattle.capnp_base.specs.declared.introspect.«Type».{«Type» as TypeHandle}
use Rattle.capnp_schema.specs.declared.record.BrandRecord.{BrandRecord}
use Rattle.capnp_schema.specs.declared.record.EnumRecord.{EnumRecord}
use Rattle.capnp_schema.specs.Types.{seen_type}
use Rattle.capnp_schema.specs.Schema.{Schemas, Brand, Enum, TypedField, field_at, fields_of, seen_brand, seen_enum}
use Rattle.capnp_schema.specs.Accepted.{AllName, HasNamedType, IsAccepted, NamesEntries, TypesName}
use Rattle.capnp_schema.specs.Entries.{lists_seen}
use Rattle.capnp_schema.specs.Steps.Entries.{seen_typed}
use Rattle.capnp_schema.specs.declared.lists.Lists.{Lists}
use Rattle.capnp_schema.specs.declared.lists.TypedField.{TypedField as TypedRecord}
use Rattle.capnp_schema.proofs.AnnotatedPlaces.{child_seen}
use Rattle.capnp_schema.proofs.EntryWalk.{entry_has}
use Rattle.capnp_schema.proofs.FoundEntries.{found_field}
use Rattle.capnp_schema.proofs.GroupTargets.{no_fields}

-- a brand with a field is there
pub brand_of_field : (set : Schemas) (b i : ℕ) → i < length (fields_of set b) → b < length set.brands
brand_of_field set b i h = ⊎_elim (λ less. less) (λ past. let none = ap (λ fs. length fs) (no_fields set b past) in absurd (omega (arith, none, h))) (cases_lt b (length set.brands))

pub field_named : (set : Schemas) → IsAccepted set → (b i : ℕ) → i < length (fields_of set b) → HasNamedType set (field_at set b i)
field_named set accepted b i h = accepted.rule1.fields b i (brand_of_field set b i h) h

pub found_named : (set : Schemas) → IsAccepted set → (b i : ℕ) (f : TypedField) → Some f ≡ slice_get (fields_of set b) i → HasNamedType set f
found_named set accepted b i f is = subst (HasNamedType set) (found_field set b i f is) (field_named set accepted b i (slice_get_within (fields_of set b) i f (sym is)))

-- the same of the lists of a set, as they are read
pub record_named : (lists set : Lists) → lists ≡ set → IsAccepted (lists_seen lists) → (b i : ℕ) (o : Option TypedRecord) → option_map seen_typed o ≡ slice_get (fields_of (lists_seen lists) b) i → IfSome o (λ f. NamesEntries (lists_seen set) (seen_type f.field_type.now))
record_named lists set same accepted b i None is = tt
record_named lists set same accepted b i (Some f) is = subst (λ (l : Lists). NamesEntries (lists_seen l) (seen_type f.field_type.now)) same (found_named (lists_seen lists) accepted b i (seen_typed f) is)

-- ---- types of annotations ----

-- of a list that is read
pub entry_named : (set : Schemas) (ts : List TypeHandle) (i : ℕ) (d : TypeHandle) → i < length ts → AllName set (map seen_type ts) → NamesEntries set (seen_type (get_or ts i d))
entry_named set ts i d h all = subst (NamesEntries set) (get_or-map seen_type ts i d (seen_type d) h) (all i (seen_type d) (subst (λ n. i < n) (sym (length-map ts seen_type)) h))

-- in a set that the lists are
named_through : (lists set : Lists) (slice items : List TypeHandle) → lists ≡ set → slice ≡ items → AllName (lists_seen lists) (map seen_type items) → AllName (lists_seen set) (map seen_type slice)
named_through lists set slice items same is all =
    subst (λ (l : Lists). AllName (lists_seen l) (map seen_type slice)) same (subst (λ (ts : List TypeHandle). AllName (lists_seen lists) (map seen_type ts)) (sym is) all)

-- the types of one field's or enumerant's annotations
child_of : (set : Schemas) (records kept : List (Vec TypeHandle Global)) (types : Vec TypeHandle Global) (i : ℕ) → records ≡ kept → Some types ≡ slice_get records i
    → All (AllName set) (map (λ (ts : Vec TypeHandle Global). map seen_type ts.items) kept) → AllName set (map seen_type types.items)
child_of set records kept types i same at all =
    entry_has (AllName set) (map (λ (ts : Vec TypeHandle Global). map seen_type ts.items) kept) i (map seen_type types.items) all
    (child_seen kept types i (subst (λ (l : List (Vec TypeHandle Global)). Some types ≡ slice_get l i) same at))

module _ (lists set : Lists) (same : lists ≡ set) (accepted : IsAccepted (lists_seen lists)) (n : ℕ) where
  module _ (x : BrandRecord) (is : Some (seen_brand x) ≡ slice_get (lists_seen lists).brands n) where
    brand_names : TypesName (lists_seen lists) (seen_brand x).annotation_types
    brand_names = entry_has (λ (b : Brand). TypesName (lists_seen lists) b.annotation_types) (lists_seen lists).brands n (seen_brand x) accepted.rule1.brands is

    pub brand_own_named : (slice : List TypeHandle) → slice ≡ x.annotation_types.own.items → AllName (lists_seen set) (map seen_type slice)
    brand_own_named slice e = named_through lists set slice x.annotation_types.own.items same e brand_names.0

    pub brand_child_named : (records : List (Vec TypeHandle Global)) (types : Vec TypeHandle Global) (i : ℕ) (slice : List TypeHandle) → records ≡ x.annotation_types.children.items → Some types ≡ slice_get records i → slice ≡ types.items
        → AllName (lists_seen set) (map seen_type slice)
    brand_child_named records types i slice kept at e = named_through lists set slice types.items same e (child_of (lists_seen lists) records x.annotation_types.children.items types i kept at brand_names.1)

  module _ (x : EnumRecord) (is : Some (seen_enum x) ≡ slice_get (lists_seen lists).enums n) where
    enum_names : TypesName (lists_seen lists) (seen_enum x).annotation_types
    enum_names = entry_has (λ (e : Enum). TypesName (lists_seen lists) e.annotation_types) (lists_seen lists).enums n (seen_enum x) accepted.rule1.enums is

    pub enum_own_named : (slice : List TypeHandle) → slice ≡ x.annotation_types.own.items → AllName (lists_seen set) (map seen_type slice)
    enum_own_named slice e = named_through lists set slice x.annotation_types.own.items same e enum_names.0

    pub enum_child_named : (records : List (Vec TypeHandle Global)) (types : Vec TypeHandle Global) (i : ℕ) (slice : List TypeHandle) → records ≡ x.annotation_types.children.items → Some types ≡ slice_get records i → slice ≡ types.items
        → AllName (lists_seen set) (map seen_type slice)
    enum_child_named records types i slice kept at e = named_through lists set slice types.items same e (child_of (lists_seen lists) records x.annotation_types.children.items types i kept at enum_names.1)
