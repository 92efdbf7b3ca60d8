-- What an element is given, and what stands there then.
use Rattle.std.proofs.Common.{ℕ, ◌^◌, ◌<◌, ◌≡◌, refl, Bool, Result, Ok, Err, IfOk, IfErr, OnOk, ap, sym, subst, ◌∙◌}
use Rattle.capnp_device.specs.declared.error.Error.{Error}
use Rattle.capnp_device.specs.declared.error.ErrorKind.{ErrorKind}
use Rattle.capnp_device.specs.declared.error.ErrorKind.TheVariants.{TypeMismatch}
use Rattle.capnp_base.specs.declared.introspect.RawBrandedStructSchema.{RawBrandedStructSchema}
use Rattle.capnp_wire.specs.Tree.{StructTree, Tree}
use Rattle.capnp_base.specs.declared.introspect.TypeVariant.{TypeVariant}
use Rattle.capnp_base.specs.declared.introspect.TypeVariant.TheVariants as variant
use Rattle.capnp_schema.specs.Schema.{Schemas}
use Rattle.capnp_schema.specs.Types.{SchemaType, VoidType, BoolType, IntType, UIntType, EnumType, TextType, DataType, StructType, ListType, AnyPointerType, width, seen_variant}
use Rattle.capnp_records.specs.Call.{Source, BoolSource, IntSource, UIntSource, EnumSource, TextSource, DataSource, StructSource, ListSource}
use Rattle.capnp_records.specs.Given.{Given, Gives, Copies, CopiesGroup, Fails, given_element, given_slot}
use Rattle.capnp_records.specs.Writes.Contents.{SourceFits}
use Rattle.capnp_records.specs.Writes.ElementEnds.{element_written, with_element_number}
use Rattle.capnp_slots.specs.ElementSets.{IsElementSet, element_given}
use Rattle.capnp_slots.specs.Steps.ElementSets.{IsBlobOrList, IsPointerElement, NoStruct, TakesInto}
use Rattle.capnp_slots.specs.Primitives.{primitive_source}
use Rattle.capnp_slots.specs.Steps.Primitives.{GivesNumber, IsGivenAs}
use Rattle.capnp_slots.specs.Sources.{IsPointed, IsSetRefusal, IsTaken}
use Rattle.capnp_slots.specs.Steps.Sources.{GivesCopy, source_copied}
use Rattle.capnp_records.specs.Record.{Levels, Value}
use Rattle.capnp_records.specs.Facts.NewTrees.{fails_copies, gives_copies}
use Rattle.capnp_slots.proofs.CopiedSources.{void_only}
use Rattle.capnp_slots.specs.declared.primitive.Primitive.{Primitive}
use Rattle.capnp_slots.specs.declared.primitive.Primitive.TheVariants as primitive
use Rattle.capnp_slots.proofs.Stored.{given_err, given_ok}

no_struct : (p : Primitive) → NoStruct (primitive_source p)
no_struct primitive.Void = tt
no_struct (primitive.Bool b) = tt
no_struct (primitive.Int8 x) = tt
no_struct (primitive.Int16 x) = tt
no_struct (primitive.Int32 x) = tt
no_struct (primitive.Int64 x) = tt
no_struct (primitive.UInt8 x) = tt
no_struct (primitive.UInt16 x) = tt
no_struct (primitive.UInt32 x) = tt
no_struct (primitive.UInt64 x) = tt
no_struct (primitive.Enum x) = tt

struct_plain : (set : Schemas) (b g : ℕ) (s : Source) → NoStruct s → given_element set (StructType b g) s ≡ given_slot set (StructType b g) s
struct_plain set b g (StructSource l x from) h = absurd h
struct_plain set b g s h = refl

-- what is no struct is given to an element as to a slot, but for an untyped one
element_plain : (set : Schemas) (v : TypeVariant) (s : Source) → NoStruct s → (v ≡ variant.AnyPointer → ⊥) → given_element set (seen_variant v) s ≡ given_slot set (seen_variant v) s
element_plain set variant.AnyPointer s h none = absurd (none refl)
element_plain set (variant.Struct x) s h none = struct_plain set x.number x.generic s h
element_plain set variant.Void s h none = refl
element_plain set variant.Bool s h none = refl
element_plain set variant.Int8 s h none = refl
element_plain set variant.Int16 s h none = refl
element_plain set variant.Int32 s h none = refl
element_plain set variant.Int64 s h none = refl
element_plain set variant.UInt8 s h none = refl
element_plain set variant.UInt16 s h none = refl
element_plain set variant.UInt32 s h none = refl
element_plain set variant.UInt64 s h none = refl
element_plain set variant.Text s h none = refl
element_plain set variant.«Data» s h none = refl
element_plain set (variant.Enum e) s h none = refl
element_plain set (variant.List t) s h none = refl

module _ (set : Schemas) (p : Primitive) (v : TypeVariant) (t : SchemaType) (e : seen_variant v ≡ t) (none : v ≡ variant.AnyPointer → ⊥) where
  same_given : given_element set t (primitive_source p) ≡ given_slot set t (primitive_source p)
  same_given = subst (λ u. given_element set u (primitive_source p) ≡ given_slot set u (primitive_source p)) e (element_plain set v (primitive_source p) (no_struct p) none)

  pub same_ok : {E : Type 0} (r : Result ℕ E) → OnOk r (given_element set t (primitive_source p) ≡ given_slot set t (primitive_source p))
  same_ok (Ok n) = same_given
  same_ok (Err k) = tt

  pub number_ok : (r : Result ℕ Error) → SourceFits (primitive_source p) → ((set : Schemas) → GivesNumber (seen_variant v) (given_slot set (seen_variant v) (primitive_source p)) r) → IfOk r (IsGivenAs set t (primitive_source p))
  number_ok r fits h = given_ok set t (primitive_source p) r fits (subst (λ u. GivesNumber u (given_slot set u (primitive_source p)) r) e (h set))

  pub number_err : (r : Result ℕ Error) → ((set : Schemas) → GivesNumber (seen_variant v) (given_slot set (seen_variant v) (primitive_source p)) r) → IfErr r (λ k. given_element set t (primitive_source p) ≡ Fails k.kind)
  number_err r h = go r (given_err set t (primitive_source p) r (subst (λ u. GivesNumber u (given_slot set u (primitive_source p)) r) e (h set)))
    where
      go : (r : Result ℕ Error) → IfErr r (λ k. given_slot set t (primitive_source p) ≡ Fails k.kind) → IfErr r (λ k. given_element set t (primitive_source p) ≡ Fails k.kind)
      go (Ok n) h = tt
      go (Err k) h = same_given ∙ h

-- ---- what is set ----

pub number_small : (set : Schemas) (t u : SchemaType) (s : Source) (n : ℕ) → t ≡ u → IsGivenAs set t s n → n < 2 ^ width u
number_small set t u s n e h = subst (λ w. n < 2 ^ width w) e (subst (λ m. m < 2 ^ width t) (sym h.number) h.is_stored.small)

pub number_set : (set : Schemas) (t u : SchemaType) (s : Source) (n j : ℕ) (old new : Tree) → u ≡ t → IsGivenAs set t s n → given_element set t s ≡ given_slot set t s → new ≡ with_element_number u old j n → IsElementSet set t s j old new
number_set set t u s n j old new e h same written =
    let given : given_element set t s ≡ Gives h.value = same ∙ h.given in
    record {
      taken = subst IsTaken (sym given) tt;
      written = written ∙ (ap (λ w. with_element_number w old j n) e ∙ (ap (with_element_number t old j) h.number ∙ sym (ap (λ g. element_written t old j (element_given t s g)) given)));
    }

-- ---- copies ----

-- a type that is not untyped
no_untyped : (v : TypeVariant) → (v ≡ variant.AnyPointer → ⊥) → seen_variant v ≡ AnyPointerType → ⊥
no_untyped variant.AnyPointer none e = none refl
no_untyped variant.Void none e = cc
no_untyped variant.Bool none e = cc
no_untyped variant.Int8 none e = cc
no_untyped variant.Int16 none e = cc
no_untyped variant.Int32 none e = cc
no_untyped variant.Int64 none e = cc
no_untyped variant.UInt8 none e = cc
no_untyped variant.UInt16 none e = cc
no_untyped variant.UInt32 none e = cc
no_untyped variant.UInt64 none e = cc
no_untyped variant.Text none e = cc
no_untyped variant.«Data» none e = cc
no_untyped (variant.Struct x) none e = cc
no_untyped (variant.Enum n) none e = cc
no_untyped (variant.List c) none e = cc

-- what is copied into an element that is not untyped, and is no struct, stands behind its pointer
pub record IsInto (t : SchemaType) (s : Source) : Type 0 where
  pub copy : IsBlobOrList s
  pub pointer : IsPointerElement t

copied_into : (set : Schemas) (t : SchemaType) (s : Source) (x : Tree) (past : Bool) (w : Value) → IsPointed s → NoStruct s → (t ≡ AnyPointerType → ⊥) → given_slot set t s ≡ Copies x past w → IsInto t s
copied_into set AnyPointerType s x past w p h none e = absurd (none refl)
copied_into set TextType (TextSource bytes) x past w p h none e = record { copy = tt; pointer = record { room = λ x j h. h; writes = λ x j y. refl } }
copied_into set DataType (DataSource bytes) x past w p h none e = record { copy = tt; pointer = record { room = λ x j h. h; writes = λ x j y. refl } }
copied_into set (ListType c) (ListSource l y from) x past w p h none e = record { copy = tt; pointer = record { room = λ x j h. h; writes = λ x j y. refl } }
copied_into set (StructType b g) (StructSource l y from) x past w p h none e = absurd h
copied_into set BoolType (BoolSource b) x past w p h none e = absurd p
copied_into set (IntType k) (IntSource n y) x past w p h none e = absurd p
copied_into set (UIntType k) (UIntSource n y) x past w p h none e = absurd p
copied_into set (EnumType m) (EnumSource n) x past w p h none e = absurd p
copied_into set VoidType s x past w p h none e = absurd (gives_copies e)
copied_into set t s x past w p h none e = absurd (fails_copies e)

module _ (set : Schemas) (s : Source) (p : IsPointed s) (h : NoStruct s) where
  module _ (t : SchemaType) (same : given_element set t s ≡ given_slot set t s) (none : t ≡ AnyPointerType → ⊥) where
    takes_into : (g : Given) → given_slot set t s ≡ g → (r : Result Bool Error) → GivesCopy s g r → IfOk r (TakesInto set t s)
    takes_into (Gives w) is (Ok q) c = subst (TakesInto set t s) (sym c) (void_only set t s w p is)
    takes_into (Gives w) is (Err k) c = tt
    takes_into (Copies x past w) is (Ok q) c =
        let into = copied_into set t s x past w p h none is in
        subst (TakesInto set t s) (sym c.0) (into.copy, into.pointer, (w, same ∙ (is ∙ (ap (λ y. Copies y past w) c.1 ∙ ap (λ b. Copies (source_copied s) b w) c.2))))
    takes_into (Copies x past w) is (Err k) c = tt
    takes_into (CopiesGroup l x b) is r c = absurd c
    takes_into (Fails kind) is (Ok q) c = absurd c
    takes_into (Fails kind) is (Err k) c = tt

    fails_into : (g : Given) → given_slot set t s ≡ g → (r : Result Bool Error) → GivesCopy s g r → IfErr r (λ k. given_element set t s ≡ Fails k.kind)
    fails_into (Gives w) is (Ok q) c = tt
    fails_into (Gives w) is (Err k) c = absurd c
    fails_into (Copies x past w) is (Ok q) c = tt
    fails_into (Copies x past w) is (Err k) c = absurd c
    fails_into (CopiesGroup l x b) is r c = absurd c
    fails_into (Fails kind) is (Ok q) c = absurd c
    fails_into (Fails kind) is (Err k) c = same ∙ (is ∙ ap Fails (sym c))

  module _ (v : TypeVariant) (t : SchemaType) (e : seen_variant v ≡ t) (none : v ≡ variant.AnyPointer → ⊥) (r : Result Bool Error) (gives : (set : Schemas) → GivesCopy s (given_slot set (seen_variant v) s) r) where
    plain : given_element set t s ≡ given_slot set t s
    plain = subst (λ u. given_element set u s ≡ given_slot set u s) e (element_plain set v s h none)

    typed : t ≡ AnyPointerType → ⊥
    typed f = no_untyped v none (e ∙ f)

    given_here : GivesCopy s (given_slot set t s) r
    given_here = subst (λ u. GivesCopy s (given_slot set u s) r) e (gives set)

    pub into_ok : IfOk r (TakesInto set t s)
    into_ok = takes_into t plain typed (given_slot set t s) refl r given_here

    pub into_err : IfErr r (λ k. given_element set t s ≡ Fails k.kind)
    into_err = fails_into t plain typed (given_slot set t s) refl r given_here

-- ---- structs ----

-- an element of another kind takes no struct
struct_fails : (set : Schemas) (v : TypeVariant) (l : Levels) (x : StructTree) (from : ℕ) → (v ≡ variant.Void → ⊥) → ((r : RawBrandedStructSchema) → v ≡ variant.Struct r → ⊥) → (v ≡ variant.AnyPointer → ⊥) →
    given_element set (seen_variant v) (StructSource l x from) ≡ Fails TypeMismatch
struct_fails set variant.Void l x from a b c = absurd (a refl)
struct_fails set (variant.Struct r) l x from a b c = absurd (b r refl)
struct_fails set variant.AnyPointer l x from a b c = absurd (c refl)
struct_fails set variant.Bool l x from a b c = refl
struct_fails set variant.Int8 l x from a b c = refl
struct_fails set variant.Int16 l x from a b c = refl
struct_fails set variant.Int32 l x from a b c = refl
struct_fails set variant.Int64 l x from a b c = refl
struct_fails set variant.UInt8 l x from a b c = refl
struct_fails set variant.UInt16 l x from a b c = refl
struct_fails set variant.UInt32 l x from a b c = refl
struct_fails set variant.UInt64 l x from a b c = refl
struct_fails set variant.Text l x from a b c = refl
struct_fails set variant.«Data» l x from a b c = refl
struct_fails set (variant.Enum n) l x from a b c = refl
struct_fails set (variant.List e) l x from a b c = refl

pub struct_refused : (set : Schemas) (v : TypeVariant) (t : SchemaType) (l : Levels) (x : StructTree) (from : ℕ) (kind : ErrorKind) → seen_variant v ≡ t → (v ≡ variant.Void → ⊥) →
    ((r : RawBrandedStructSchema) → v ≡ variant.Struct r → ⊥) → (v ≡ variant.AnyPointer → ⊥) → kind ≡ TypeMismatch → IsSetRefusal (given_element set t (StructSource l x from)) kind
struct_refused set v t l x from kind e a b c is =
    subst (λ g. IsSetRefusal g kind) (sym (subst (λ u. given_element set u (StructSource l x from) ≡ Fails TypeMismatch) e (struct_fails set v l x from a b c))) is
