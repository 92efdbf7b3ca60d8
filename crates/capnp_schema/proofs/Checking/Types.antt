-- Types of annotations, one after another.
use Rattle.std.proofs.Common.{All, MatchOption, ℕ, ◌≡◌, ◌≤◌, Bool, true, false, List, length, map, slice_get, Option, Some, None, Vec, refl, sym, ap, ◌∙◌, subst, arith}
use Rattle.std.specs.Bool.{Decides}
use Rattle.std.specs.Option.{unwrap_or}
use Rattle.std.proofs.lemmas.Bool.Decides.{not_from_Decides}
use Rattle.capnp_device.specs.declared.error.SchemaTable.TheVariants.{Brand as InBrands, Enum as InEnums}
use Rattle.std.specs.declared.alloc.Global.{Global}
use Rattle.std.proofs.lemmas.List.{length-map}
use Rattle.std.proofs.lemmas.Option.{slice_get_within, get_or_from_slice_get}
use Rattle.capnp_base.specs.declared.introspect.«Type».{«Type» as TypeHandle}
use Rattle.capnp_schema.specs.Types.{seen_type}
use Rattle.capnp_schema.specs.Schema.{Schemas, Brand, Enum, Field, Enumerant, AnnotationTypes, no_brand, node_of, brand_at}
use Rattle.capnp_schema.specs.Accepted.{AllName, EnumHasTypes, Rule2, Rule3, TypesName}
use Rattle.capnp_schema.specs.Broken.{EntryBreaks, IsBroken, brand_types, brand_child_types, enum_types, enum_child_types}
use Rattle.capnp_schema.specs.Steps.Checking.Types.{seen_children, IsUnnamed, own, child, TypesStand}
use Rattle.capnp_schema.specs.Steps.Checking.Fields.{FieldsStand}
use Rattle.capnp_schema.proofs.FieldCounts.{few_fields}

pub not_all : {A : Type 0} (entries : List A) (P : A → Type 0) (n : ℕ) (x : A) → Some x ≡ slice_get entries n → (P x → ⊥) → Decides false (All P entries)
not_all entries P n x is broken = (λ e. cc, λ all. absurd (broken (subst P (get_or_from_slice_get entries n x x (sym is)) (all n x (slice_get_within entries n x (sym is))))))

pub all_hold : {A : Type 0} (entries : List A) (P : A → Type 0) → All P entries → Decides true (All P entries)
all_hold entries P all = (λ _. all, λ _. refl)

pub own_or_child : (set : Schemas) (types : AnnotationTypes) (r : Option ℕ) → AllName set types.own → MatchOption r (All (AllName set) types.children) (λ i. EntryBreaks types.children (AllName set) i) → MatchOption r (TypesName set types) (IsUnnamed set types)
own_or_child set types None named h = (named, h)
own_or_child set types (Some i) named h = child i h

-- ---- through a slice of the same items ----

pub decided_at : (set : Schemas) (b : Bool) (slice items : List TypeHandle) → slice ≡ items → Decides b (AllName set (map seen_type slice)) → b ≡ true → AllName set (map seen_type items)
decided_at set b slice items same d e = subst (λ (ts : List TypeHandle). AllName set (map seen_type ts)) same (d.0 e)

pub decided_not : (set : Schemas) (b : Bool) (slice items : List TypeHandle) → slice ≡ items → Decides b (AllName set (map seen_type slice)) → b ≡ false → AllName set (map seen_type items) → ⊥
decided_not set b slice items same d e all = not_from_Decides b d e (subst (λ (ts : List TypeHandle). AllName set (map seen_type ts)) (sym same) all)

abbrev ChildrenNamed : Schemas → Option ℕ → List (Vec TypeHandle Global) → Type 0
ChildrenNamed set r children = MatchOption r (All (AllName set) (seen_children children)) (λ i. EntryBreaks (seen_children children) (AllName set) i)

pub of_children : (set : Schemas) (r : Option ℕ) (slice items : List (Vec TypeHandle Global)) → slice ≡ items → ChildrenNamed set r slice → ChildrenNamed set r items
of_children set r slice items same h = subst (ChildrenNamed set r) same h

pub children_length : (children : List (Vec TypeHandle Global)) → length (seen_children children) ≡ length children
children_length children = length-map children (λ (ts : Vec TypeHandle Global). map seen_type ts.items)

-- ---- brands and enums ----

same_lengths : {A B : Type 0} (xs : List (List A)) (ys : List (List B)) → map length xs ≡ map length ys → length xs ≡ length ys
same_lengths xs ys e = sym (length-map xs length) ∙ ap length e ∙ length-map ys length

pub few_brand_children : (set : Schemas) → Rule3 set → Rule2 set → (b : ℕ) (x : Brand) → Some x ≡ slice_get set.brands b → length x.annotation_types.children ≤ 65535
few_brand_children set rule3 lengths b x is =
    let same : brand_at set b ≡ x = ap (λ o. unwrap_or o (no_brand set)) (sym is) in
    let types = lengths.brands b (slice_get_within set.brands b x (sym is)) in
    let counted = same_lengths (brand_at set b).annotation_types.children (map (λ (f : Field). f.annotations) (node_of set b).fields) types.types.1.1 in
    let h : length (brand_at set b).annotation_types.children ≤ 65535 = omega (arith, counted, length-map (node_of set b).fields (λ (f : Field). f.annotations), few_fields set rule3.counts (brand_at set b).node) in
    subst (λ (y : Brand). length y.annotation_types.children ≤ 65535) same h

pub few_enum_children : (set : Schemas) → Rule3 set → Rule2 set → (e : ℕ) (x : Enum) → Some x ≡ slice_get set.enums e → length x.annotation_types.children ≤ 65535
few_enum_children set rule3 lengths e x is =
    let there = slice_get_within set.enums e x (sym is) in
    let at = get_or_from_slice_get set.enums e x x (sym is) in
    let types = subst EnumHasTypes at (lengths.enums e x there) in
    let count = subst (λ (y : Enum). length y.enumerants ≤ 65535) at (rule3.counts.enums e x there).enumerants in
    let counted = same_lengths x.annotation_types.children (map (λ (y : Enumerant). y.annotations) x.enumerants) types.1 in
    omega (arith, counted, length-map x.enumerants (λ (y : Enumerant). y.annotations))

pub brand_unnamed : (set : Schemas) (b place : ℕ) (x : Brand) → Some x ≡ slice_get set.brands b → IsUnnamed set x.annotation_types place → IsBroken set 1 InBrands b place
brand_unnamed set b place x is (own broken) = brand_types b (record { entry = x; is = sym is; broken = broken })
brand_unnamed set b place x is (child i broken) = brand_child_types b i (record { entry = x; is = sym is; child = broken })

pub enum_unnamed : (set : Schemas) (e place : ℕ) (x : Enum) → Some x ≡ slice_get set.enums e → IsUnnamed set x.annotation_types place → IsBroken set 1 InEnums e place
enum_unnamed set e place x is (own broken) = enum_types e (record { entry = x; is = sym is; broken = broken })
enum_unnamed set e place x is (child i broken) = enum_child_types e i (record { entry = x; is = sym is; child = broken })

pub types_stand : (set : Schemas) → FieldsStand set → All (λ (b : Brand). TypesName set b.annotation_types) set.brands → All (λ (e : Enum). TypesName set e.annotation_types) set.enums → TypesStand set
types_stand set fields brands enums = record { rule1 = record { fields = fields.types; brands = brands; enums = enums }; rule4 = fields.rule4; rule5 = fields.rule5; rule7 = fields.rule7 }
