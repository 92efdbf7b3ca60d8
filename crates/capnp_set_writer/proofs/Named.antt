-- The types of an accepted set name brands whose nodes are their generic numbers: so the records of the brands say these.
use Rattle.std.proofs.Common.{All, map, slice_get, ◌≡◌, ℕ, zero, suc, ◌<◌, refl, ap, subst, ◌∙◌, arith, List, [], ◌∷◌, length, get_or, Ok}
use Rattle.std.specs.Option.{unwrap_or}
use Rattle.capnp_schema.specs.Accepted.{AllName, IsAccepted, NamesEntries}
use Rattle.capnp_schema.specs.Schema.{Brand, Enum, Field, Schemas, TypedField, brand_at, fields_of, no_brand, no_field, node_of, typed_fields}
use Rattle.capnp_schema.specs.Types.{SchemaType, VoidType, BoolType, IntType, UIntType, EnumType, TextType, DataType, StructType, ListType, AnyPointerType}
use Rattle.capnp_records.specs.Record.{Left, Values}
use Rattle.capnp_sets.specs.Types.{generic_in}
use Rattle.capnp_set_writer.specs.Kept.{BrandKept, EnumKept, TypeKept}
use Rattle.capnp_set_writer.specs.Trees.{brand_tree}
use Rattle.capnp_set_writer.proofs.Lists.{all_head, all_tail, elements_from, rest_shifted}
use Rattle.capnp_set_writer.proofs.Numbers.{read_ok}
use Rattle.capnp_set_writer.proofs.Records.{BrandRead, EnumRead, brand_node}
use Rattle.capnp_set_writer.proofs.TypesRead.{IsNamed, IsTypeRead}

-- the node of a brand, 0 past the end
abbrev node_in : List Brand → ℕ → ℕ
node_in [] n = 0
node_in (b ∷ bs) zero = b.node
node_in (b ∷ bs) (suc n) = node_in bs n

-- the values of the records of a set's brands
abbrev pub brand_values : List Brand → Values
brand_values bs = elements_from (Left 62) 6 (map brand_tree bs) 0

generic_rows : (bs : List Brand) → All BrandKept bs → (n : ℕ) → generic_in (brand_values bs) n ≡ Ok (node_in bs n)
unfolding generic_in
generic_rows [] k n = refl
generic_rows (b ∷ bs) k zero = brand_node (Left 61) b (all_head BrandKept b bs k).node
generic_rows (b ∷ bs) k (suc n) = ap (λ vs. generic_in vs n) (rest_shifted (Left 62) 6 (brand_tree b) (map brand_tree bs)) ∙ generic_rows bs (all_tail BrandKept b bs k) n

there : {A : Type 0} (xs : List A) (n : ℕ) (d d' : A) → n < length xs → unwrap_or (slice_get xs n) d ≡ get_or xs n d'
there [] n d d' h = absurd (omega arith)
there (x ∷ xs) zero d d' h = refl
there (x ∷ xs) (suc n) d d' h = there xs n d d' (omega (arith, h))

node_there : (bs : List Brand) (n : ℕ) (d : Brand) → n < length bs → node_in bs n ≡ (unwrap_or (slice_get bs n) d).node
node_there [] n d h = absurd (omega arith)
node_there (b ∷ bs) zero d h = refl
node_there (b ∷ bs) (suc n) d h = node_there bs n d (omega (arith, h))

named : (s : Schemas) → All BrandKept s.brands → (t : SchemaType) → NamesEntries s t → IsNamed (brand_values s.brands) t
named s k VoidType h = tt
named s k BoolType h = tt
named s k (IntType bytes) h = tt
named s k (UIntType bytes) h = tt
named s k (EnumType number) h = tt
named s k TextType h = tt
named s k DataType h = tt
named s k (StructType number generic) h = generic_rows s.brands k number ∙ ap read_ok (node_there s.brands number (no_brand s) h.0 ∙ h.1)
named s k (ListType element) h = named s k element h
named s k AnyPointerType h = tt

types_named : (s : Schemas) → All BrandKept s.brands → (ts : List SchemaType) → All TypeKept ts → AllName s ts → All (IsTypeRead (brand_values s.brands)) ts
types_named s k ts kept names = λ i d a. (kept i d a, named s k (get_or ts i d) (names i d a))

lists_named : (s : Schemas) → All BrandKept s.brands → (rows : List (List SchemaType)) → All (All TypeKept) rows → All (AllName s) rows → All (All (IsTypeRead (brand_values s.brands))) rows
lists_named s k rows kept names = λ i d a. types_named s k (get_or rows i d) (kept i d a) (names i d a)

-- ---- the types of fields ----

typed_length : (fs : List Field) (ts : List SchemaType) → length ts ≡ length fs → length (typed_fields fs ts) ≡ length ts
typed_length [] [] e = refl
typed_length [] (t ∷ ts) e = absurd (omega (arith, e))
typed_length (f ∷ fs) [] e = absurd (omega (arith, e))
typed_length (f ∷ fs) (t ∷ ts) e = ap suc (typed_length fs ts (omega (arith, e)))

typed_type : (fs : List Field) (ts : List SchemaType) → length ts ≡ length fs → (i : ℕ) (d : SchemaType) (d' : TypedField) → i < length ts → (unwrap_or (slice_get (typed_fields fs ts) i) d').type ≡ get_or ts i d
typed_type fs [] e i d d' h = absurd (omega arith)
typed_type [] (t ∷ ts) e i d d' h = absurd (omega (arith, e))
typed_type (f ∷ fs) (t ∷ ts) e zero d d' h = refl
typed_type (f ∷ fs) (t ∷ ts) e (suc i) d d' h = typed_type fs ts (omega (arith, e)) i d d' (omega (arith, h))

fields_named : (s : Schemas) → IsAccepted s → (b : ℕ) → b < length s.brands → AllName s (brand_at s b).field_types
fields_named s accepted b inside = λ i d a.
    let same : length (brand_at s b).field_types ≡ length (node_of s b).fields = (accepted.rule2.brands b inside).types.0 in
    let here : i < length (fields_of s b) = omega (arith, a, typed_length (node_of s b).fields (brand_at s b).field_types same) in
    subst (NamesEntries s) (typed_type (node_of s b).fields (brand_at s b).field_types same i d no_field a) (accepted.rule1.fields b i inside here)

-- ---- brands and enums ----

pub brands_named : (s : Schemas) → IsAccepted s → All BrandKept s.brands → All (BrandRead (brand_values s.brands)) s.brands
brands_named s accepted k = λ i d a.
    let b : Brand = get_or s.brands i d in
    let kept : BrandKept b = k i d a in
    let fields : AllName s b.field_types = subst (λ (x : Brand). AllName s x.field_types) (there s.brands i (no_brand s) d a) (fields_named s accepted i a) in
    record {
      kept = kept;
      field_types = types_named s k b.field_types kept.field_types fields;
      own = types_named s k b.annotation_types.own kept.own (accepted.rule1.brands i d a).0;
      children = lists_named s k b.annotation_types.children kept.children (accepted.rule1.brands i d a).1;
    }

pub enums_named : (s : Schemas) → IsAccepted s → All BrandKept s.brands → All EnumKept s.enums → All (EnumRead (brand_values s.brands)) s.enums
enums_named s accepted k kept = λ i d a.
    let x : Enum = get_or s.enums i d in
    record {
      kept = kept i d a;
      own = types_named s k x.annotation_types.own (kept i d a).own (accepted.rule1.enums i d a).0;
      children = lists_named s k x.annotation_types.children (kept i d a).children (accepted.rule1.enums i d a).1;
    }
