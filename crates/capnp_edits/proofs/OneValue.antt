-- A list of one element is read as the value that it took.
use Rattle.std.proofs.Common.{◌≡◌, ℕ, refl, sym, ap, ◌∙◌, Bool, true, false, cond, ◌==◌, None, Some, Option, inl, inr, arith, true≢false}
use Rattle.std.proofs.lemmas.Bool.Decides.{nat_tests}
use Rattle.capnp_device.specs.declared.error.ErrorKind.{ErrorKind}
use Rattle.capnp_device.specs.declared.error.ErrorKind.TheVariants.{OutOfMemory, TypeMismatch}
use Rattle.capnp_wire.specs.Tree.{StructTree, Tree}
use Rattle.capnp_schema.specs.Accepted.{IsAccepted, NamesEntries}
use Rattle.capnp_schema.specs.Plan.{brand_size}
use Rattle.capnp_schema.specs.Schema.{Schemas, VoidValue}
use Rattle.capnp_schema.specs.Types.{AnyPointerType, BoolType, DataType, EnumType, IntType, ListType, SchemaType, StructType, TextType, UIntType, VoidType}
use Rattle.capnp_records.proofs.ElementEnd.{ElementContentLaw, element_content_holds, element_put}
use Rattle.capnp_records.specs.Call.{Done, Refused, Set, Source, StructSource}
use Rattle.capnp_records.specs.Facts.Extension.{reads_extended, reads_rounded}
use Rattle.capnp_records.specs.Facts.ListValues.{list_from}
use Rattle.capnp_records.specs.Facts.NewTrees.{initn_value}
use Rattle.capnp_records.specs.Given.{Copies, CopiesGroup, Fails, Given, Gives, copied_struct, copy_refusal, given_element}
use Rattle.capnp_records.specs.Operation.{CopiesWhole, Sets}
use Rattle.capnp_records.specs.Reading.{reads, value_of}
use Rattle.capnp_records.specs.Record as value
use Rattle.capnp_records.specs.Record.{Endless, Levels, MoreValues, NoValues, Value}
use Rattle.capnp_records.specs.Step.{StepTarget}
use Rattle.capnp_records.specs.Steps.ElementEnds.{element_content_value}
use Rattle.capnp_records.specs.Writes.Contents.{new_list}
use Rattle.capnp_records.specs.Writes.ElementEnds.{ElementSetContent}
use Rattle.capnp_records.specs.Writes.Stand.{ListSound}
use Rattle.capnp_slots.specs.ElementSets.{element_content, element_given}
use Rattle.capnp_slots.specs.Sources.{IsTaken}
use Rattle.capnp_splices.specs.Alone.{struct_alone, whole_size}
use Rattle.capnp_edits.specs.Added.{IsOne, IsSetAlone, IsStructAlone, given_value}
use Rattle.capnp_edits.specs.Steps.Plain.{IsPlain}

-- ---- a struct ----

same_brand : (b : ℕ) → (b == b) ≡ true
same_brand b = grind (arith, nat_tests)

given_struct : (set : Schemas) (b g : ℕ) (l : Levels) (s : StructTree) → given_value (given_element set (StructType b g) (StructSource l s b)) ≡ value.Struct (reads set s b)
given_struct set b g l s =
    ap (λ q. given_value (cond q (Copies (copied_struct s) false (value_of set (copied_struct s) Endless (StructType b g))) (Fails TypeMismatch))) {x = b == b} {y = true} (same_brand b)
    ∙ ap value.Struct (reads_rounded set s b)

struct_alone_value : (set : Schemas) (b g : ℕ) (l : Levels) (s : StructTree) (from : ℕ) (t : Tree) → IsStructAlone set b l s from t
    → value_of set t Endless (ListType (StructType b g)) ≡ value.Elements (MoreValues (given_value (given_element set (StructType b g) (StructSource l s from))) NoValues)
struct_alone_value set b g l s from t h =
    ap (λ x. value_of set x Endless (ListType (StructType b g))) h.list
    ∙ (list_from set (struct_alone (brand_size set b) s) (StructType b g) refl
    ∙ ap (λ v. value.Elements (MoreValues v NoValues))
    (ap value.Struct (reads_extended set (whole_size (brand_size set b) s) s b)
    ∙ (sym (given_struct set b g l s) ∙ ap (λ k. given_value (given_element set (StructType b g) (StructSource l s k))) (sym h.schema))))

-- ---- what is no struct ----

-- an element alone: its value is the whole
abbrev alone : SchemaType → StepTarget
alone e = record {
  type = e;
  default = VoidValue;
  is_group = false;
  is_element = true;
  inactive = false;
  part = value.Void;
  put = λ w. w;
}

taken_content : (e : SchemaType) (s : Source) (g : Given) → IsTaken g → ElementSetContent (alone e) s g (element_given e s g)
taken_content e s (Gives v) h = refl
taken_content e s (Copies x past v) h = (h.0, h.1, refl)
taken_content e s (CopiesGroup l x b) h = absurd h
taken_content e s (Fails kind) h = absurd h

not_refused : (kind : ErrorKind) → Done ≡ Refused kind → ⊥
not_refused kind h = cc

whole : (x : StepTarget) (v w : Value) (o : Option ErrorKind) (past : Bool) → o ≡ None → past ≡ false → CopiesWhole x v value.Void Done w o past → w ≡ x.put v
whole x v w None true e f h = absurd (true≢false f)
whole x v w None false e f h = h.1
whole x v w (Some kind) past e f h = absurd (not_refused kind h.0)

put_value : (set : Schemas) (e : SchemaType) (g : Given) (w : Value) → IsTaken g → Sets set (alone e) g value.Void Done w → w ≡ given_value g
put_value set e (Gives v) w h k = k.1
put_value set e (Copies x past v) w h k = elim k [ inl r ↦ absurd (not_refused OutOfMemory r.0) | inr r ↦ whole (alone e) v w (copy_refusal x) past h.0 h.1 r ]
put_value set e (CopiesGroup l x b) w h k = absurd h
put_value set e (Fails kind) w h k = absurd h

plain_sound : (set : Schemas) (e : SchemaType) (x : Tree) → IsPlain e → ListSound set e x
plain_sound set VoidType x p = tt
plain_sound set BoolType x p = tt
plain_sound set (IntType k) x p = tt
plain_sound set (UIntType k) x p = tt
plain_sound set (EnumType k) x p = tt
plain_sound set TextType x p = tt
plain_sound set DataType x p = tt
plain_sound set (StructType b g) x p = absurd p
plain_sound set (ListType e) x p = tt
plain_sound set AnyPointerType x p = tt

set_alone_value : (set : Schemas) → IsAccepted set → (e : SchemaType) → NamesEntries set e → IsPlain e → (s : Source) (t : Tree) → IsSetAlone set e s t
    → value_of set t Endless (ListType e) ≡ value.Elements (MoreValues (given_value (given_element set e s)) NoValues)
set_alone_value set accepted e entries plain s t h =
    ap (λ x. value_of set x Endless (ListType e)) h.set_there.written
    ∙ ((element_put set accepted e (new_list set e 1) 0 _ (element_content set e s) entries (plain_sound set e (new_list set e 1) plain) h.room law.suits (initn_value set e 1)).reads_as
    ∙ ap (λ v. value.Elements (MoreValues v NoValues)) (put_value set e (given_element set e s) (element_content_value set e (element_content set e s)) h.set_there.taken (law.does value.Void)))
  where
    law : ElementContentLaw set (Set s) (alone e) (element_content set e s)
    law = element_content_holds set (Set s) (alone e) (element_content set e s) refl refl (h.fits, taken_content e s (given_element set e s) h.set_there.taken)

-- ---- both ----

pub one_value : (set : Schemas) → IsAccepted set → (e : SchemaType) → NamesEntries set e → (s : Source) (t : Tree) → IsOne set e s t
    → value_of set t Endless (ListType e) ≡ value.Elements (MoreValues (given_value (given_element set e s)) NoValues)
one_value set accepted (StructType b g) entries (StructSource l s from) t h = struct_alone_value set b g l s from t h
one_value set accepted (StructType b g) entries s t h = absurd h
one_value set accepted VoidType entries s t h = set_alone_value set accepted VoidType entries tt s t h
one_value set accepted BoolType entries s t h = set_alone_value set accepted BoolType entries tt s t h
one_value set accepted (IntType k) entries s t h = set_alone_value set accepted (IntType k) entries tt s t h
one_value set accepted (UIntType k) entries s t h = set_alone_value set accepted (UIntType k) entries tt s t h
one_value set accepted (EnumType k) entries s t h = set_alone_value set accepted (EnumType k) entries tt s t h
one_value set accepted TextType entries s t h = set_alone_value set accepted TextType entries tt s t h
one_value set accepted DataType entries s t h = set_alone_value set accepted DataType entries tt s t h
one_value set accepted (ListType e) entries s t h = set_alone_value set accepted (ListType e) entries tt s t h
one_value set accepted AnyPointerType entries s t h = set_alone_value set accepted AnyPointerType entries tt s t h
