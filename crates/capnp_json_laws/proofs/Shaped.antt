-- What readers see is shaped as its schema says.
use Rattle.std.proofs.Common.{◌≡◌, ℕ, zero, suc, ◌-◌, ◌*◌, ◌/◌, ◌^◌, ◌<◌, ◌==◌, ◌&&◌, nat_lt, IsTrue, Bool, true, false, cond, List, [], ◌∷◌, length, get_or, take, Result, Ok, Err, refl, ap, sym, subst, ◌∙◌, arith}
use Rattle.std.proofs.lemmas.Bool.{and_parts, eqb-true, le-ltb}
use Rattle.std.proofs.lemmas.List.{length-take}
use Rattle.std.proofs.lemmas.Nat.{pow_pos}
use Rattle.std.proofs.lemmas.Option.{slice_get_within}
use Rattle.capnp_device.specs.declared.error.ErrorKind.{ErrorKind}
use Rattle.capnp_device.specs.declared.error.ErrorKind.TheVariants.{TextNotTerminated, TooDeep, WrongElementSize}
use Rattle.capnp_wire.specs.Locate.{words_past_format}
use Rattle.capnp_wire.specs.Reading.{as_data, as_list, as_struct, as_text, element_number, list_length, terminated_text}
use Rattle.capnp_wire.specs.Tree as tree
use Rattle.capnp_wire.specs.Tree.{StructTree, Structs, Tree, Trees, nth_struct}
use Rattle.capnp_wire.specs.WellFormed.{AreBytes, AreElements as AreFormedElements, AreWellFormed, IsWellFormed, is_width}
use Rattle.capnp_wire.specs.declared.fault.Fault.TheVariants as fault
use Rattle.capnp_schema.specs.Accepted.{GroupFits, IsAccepted, IsGroupOf, NamesEntries}
use Rattle.capnp_schema.specs.Facts.Groups.{IsShallow, is_shallow}
use Rattle.capnp_schema.specs.Ranges.{HasRanges, HasWidths}
use Rattle.capnp_schema.specs.Schema.{FieldKind, Group, Schemas, Slot, TypedField, field_at, fields_of, is_member, kind_default, node_of, Value as SchemaValue}
use Rattle.capnp_schema.specs.SlotValue.{default_bits, slot_number}
use Rattle.capnp_schema.specs.Types.{SchemaType, VoidType, BoolType, IntType, UIntType, EnumType, TextType, DataType, StructType, ListType, AnyPointerType, element_size, is_pointer, width}
use Rattle.capnp_records.proofs.Readings.{AllBelow, AllReadings, bytes_below_are, nth_body_reads, nth_reading_is, pointers_below_are, struct_below_are, AllBodies}
use Rattle.capnp_records.specs.Facts.Members.{once_from_members}
use Rattle.capnp_records.specs.Reading.{Below, Body, Reading, active_among, bodies_of, bytes_below, discriminant, element_value, elements_value, entered_value, first_pointer, kind_value, nth_body, nth_reading, non_union_parts, null, number_value, of_read, pointers_below, record_of, record_within, slot_value, struct_below, structs_below, tree_value, value_of, values_of}
use Rattle.capnp_records.specs.Record as value
use Rattle.capnp_records.specs.Record.{Levels, Value, Union, Record, NoUnion, Active, is_there, levels_asked, one_less, values_from}
use Rattle.capnp_from_json.specs.Leaves.{OfElement, OfSlot}
use Rattle.capnp_from_json.specs.Records.{part_of_kind}
use Rattle.capnp_json_laws.specs.Fitting.{AllFit, Fits, HasUnion, IsShaped, MayBeNull, PartsFit, UnionFits, field_part}
use Rattle.capnp_json_laws.specs.Shaped.{ReadersAreShaped}
use Rattle.capnp_json_laws.proofs.Numerals.{all_bytes, number_fits, run_small, slot_small}
use Rattle.capnp_json_laws.proofs.RecordsRead.{AreAt, first_at, here_at, is_there_at, next_at}

abbrev either : Bool → Value → Value → Value
either q v w = elim q as (λ _. Value) [ true ↦ v | false ↦ w ]

module _ (set : Schemas) (accepted : IsAccepted set) (ranges : HasRanges set) where
  -- a type of the set, with widths of numbers
  abbrev IsTyped : SchemaType → Type 0
  IsTyped t = NamesEntries set t × HasWidths t

  -- what a pointer reads as is of each pointer type under which it is read
  abbrev FitsAll : Reading → Type 0
  FitsAll r = (l : Levels) (t : SchemaType) → is_pointer t ≡ true → IsTyped t → Fits set OfSlot t (r l t)

  null_fits : FitsAll null
  null_fits l t pointer typed = pointer

  -- ---- records ----

  slot_fits : (l : Levels) (bytes : List ℕ) (rs : List Reading) → AllReadings FitsAll rs → (offset : ℕ) (d : SchemaValue) (t : SchemaType) → IsTyped t → default_bits d < 2 ^ width t
      → Fits set OfSlot t (slot_value l bytes rs offset d t)
  slot_fits l bytes rs all offset d t typed small = go (is_pointer t) refl
    where
      go : (q : Bool) → is_pointer t ≡ q → Fits set OfSlot t (elim q as (λ _. Value) [ true ↦ nth_reading rs offset l t | false ↦ number_value t (slot_number bytes offset d t) ])
      go true e = nth_reading_is FitsAll null_fits rs all offset l t e typed
      go false e = number_fits set OfSlot t (slot_number bytes offset d t) tt typed.1 e (slot_small bytes offset d t small)

  module _ (l : Levels) (bytes : List ℕ) (rs : List Reading) (all : AllReadings FitsAll rs) where
    abbrev AreShapedWithin : ℕ → Type 0
    AreShapedWithin n = (b : ℕ) → b < length set.brands → IsShallow n set b → IsShaped set b (record_within n set l bytes rs b)

    abbrev part_within : ℕ → TypedField → Value
    part_within n f = kind_value (record_within n set l bytes rs) l bytes rs f.field.kind f.type

    kind_fits : (n : ℕ) → AreShapedWithin n → (kind : FieldKind) (t : SchemaType) → IsTyped t → default_bits (kind_default kind) < 2 ^ width t → GroupFits set kind t
        → ((g : ℕ) → IsGroupOf kind t g → IsShallow n set g) → Fits set (part_of_kind kind) t (kind_value (record_within n set l bytes rs) l bytes rs kind t)
    kind_fits n shaped (Slot offset d) t typed small group shallow = slot_fits l bytes rs all offset d t typed small
    kind_fits n shaped (Group m) (StructType g generic) typed small group shallow = (refl, g, generic, refl, shaped g typed.0.0 (shallow g refl))
    kind_fits n shaped (Group m) t typed small group shallow = absurd group

    part_fits : (n b i : ℕ) → AreShapedWithin n → b < length set.brands → IsShallow (suc n) set b → i < length (fields_of set b)
        → Fits set (field_part (field_at set b i)) (field_at set b i).type (part_within n (field_at set b i))
    part_fits n b i shaped b_in shallow i_in =
        kind_fits n shaped (field_at set b i).field.kind (field_at set b i).type (accepted.rule1.fields b i b_in i_in, ranges.types b i b_in i_in) (ranges.masks b i b_in i_in)
        (accepted.rule7 b i b_in i_in) (shallow i i_in)

    -- of a field that is at an index
    field_fits : (n b i : ℕ) (f : TypedField) (fs : List TypedField) → AreShapedWithin n → b < length set.brands → IsShallow (suc n) set b → AreAt set b i (f ∷ fs) → Fits set (field_part f) f.type (part_within n f)
    field_fits n b i f fs shaped b_in shallow at =
        let here = here_at set b i f fs at in
        subst (λ (g : TypedField). Fits set (field_part g) g.type (part_within n g)) (is_there_at set b i f here)
        (part_fits n b i shaped b_in shallow (slice_get_within (fields_of set b) i f here))

    plain_by : (n : ℕ) (f : TypedField) (q : Bool) → is_member f.field ≡ q → Fits set (field_part f) f.type (part_within n f)
        → (is_member f.field ≡ true → either q value.Elsewhere (part_within n f) ≡ value.Elsewhere) × (is_member f.field ≡ false → Fits set (field_part f) f.type (either q value.Elsewhere (part_within n f)))
    plain_by n f true e fits = (λ _. refl, λ no. let bad : ⊥ = cc in absurd bad)
    plain_by n f false e fits = (λ no. let bad : ⊥ = cc in absurd bad, λ _. fits)

    plain_fits : (n b i : ℕ) (fs : List TypedField) → AreShapedWithin n → b < length set.brands → IsShallow (suc n) set b → AreAt set b i fs → PartsFit set fs (non_union_parts (part_within n) fs)
    plain_fits n b i [] shaped b_in shallow at = tt
    plain_fits n b i (f ∷ fs) shaped b_in shallow at =
        let both = plain_by n f (is_member f.field) refl (field_fits n b i f fs shaped b_in shallow at) in
        (both.0, both.1, plain_fits n b (suc i) fs shaped b_in shallow (next_at set b i f fs at))

    active_by : (n b i d : ℕ) (f : TypedField) (fs : List TypedField) → AreShapedWithin n → b < length set.brands → IsShallow (suc n) set b → HasUnion set b → AreAt set b i (f ∷ fs) → (q : Bool)
        → (is_member f.field && (f.field.discriminant_value == d)) ≡ q → UnionFits set b (active_among (part_within n) fs (suc i) d)
        → UnionFits set b (elim q as (λ _. Union) [ true ↦ Active i (part_within n f) | false ↦ active_among (part_within n) fs (suc i) d ])
    active_by n b i d f fs shaped b_in shallow has at true e rest =
        let here = here_at set b i f fs at in
        let inside : i < length (fields_of set b) = slice_get_within (fields_of set b) i f here in
        let member : is_member (field_at set b i).field ≡ true = ap (λ (g : TypedField). is_member g.field) (is_there_at set b i f here) ∙ (and_parts (is_member f.field) (f.field.discriminant_value == d) e).0 in (
          has,
          record { inside = inside; member = member; only = λ j j_in other same. once_from_members set accepted b i j b_in inside j_in other same },
          subst (λ (g : TypedField). Fits set (field_part g) g.type (part_within n f)) (sym (is_there_at set b i f here)) (field_fits n b i f fs shaped b_in shallow at),
        )
    active_by n b i d f fs shaped b_in shallow has at false e rest = rest

    active_fits : (n b i d : ℕ) (fs : List TypedField) → AreShapedWithin n → b < length set.brands → IsShallow (suc n) set b → HasUnion set b → AreAt set b i fs → UnionFits set b (active_among (part_within n) fs i d)
    active_fits n b i d [] shaped b_in shallow has at = has
    active_fits n b i d (f ∷ fs) shaped b_in shallow has at =
        active_by n b i d f fs shaped b_in shallow has at (is_member f.field && (f.field.discriminant_value == d)) refl (active_fits n b (suc i) d fs shaped b_in shallow has (next_at set b i f fs at))

    union_fits : (n b : ℕ) → AreShapedWithin n → b < length set.brands → IsShallow (suc n) set b → (q : Bool) → ((node_of set b).discriminant_count == 0) ≡ q
        → UnionFits set b (elim q as (λ _. Union) [ true ↦ NoUnion | false ↦ active_among (part_within n) (fields_of set b) 0 (discriminant (node_of set b) bytes) ])
    union_fits n b shaped b_in shallow true e = e
    union_fits n b shaped b_in shallow false e = active_fits n b 0 (discriminant (node_of set b) bytes) (fields_of set b) shaped b_in shallow e (first_at set b)

    shaped_within : (n : ℕ) → AreShapedWithin n
    shaped_within zero b b_in shallow = absurd shallow
    shaped_within (suc n) b b_in shallow =
        (plain_fits n b 0 (fields_of set b) (shaped_within n) b_in shallow (first_at set b), union_fits n b (shaped_within n) b_in shallow ((node_of set b).discriminant_count == 0) refl)

    pub record_shaped : (b : ℕ) → b < length set.brands → IsShaped set b (record_of set l bytes rs b)
    record_shaped b b_in = shaped_within (suc (length set.brands)) b b_in (is_shallow set accepted b b_in)

  -- ---- texts and data ----

  read_fits : {A : Type 0} (t : SchemaType) (f : A → Value) (r : Result A ErrorKind) → ((a : A) → r ≡ Ok a → Fits set OfSlot t (f a)) → Fits set OfSlot t (of_read f r)
  read_fits t f (Ok a) h = h a refl
  read_fits t f (Err kind) h = tt

  terminated_short : (bytes text : List ℕ) → length bytes < words_past_format → terminated_text bytes ≡ Ok text → nat_lt (words_past_format - 2) (length text) ≡ false
  terminated_short bytes text short e = go (get_or bytes (length bytes - 1) 1 == 0) e
    where
      go : (q : Bool) → cond q (Ok (take (length bytes - 1) bytes)) (Err TextNotTerminated) ≡ Ok text → nat_lt (words_past_format - 2) (length text) ≡ false
      go true k = let same : take (length bytes - 1) bytes ≡ text = cc in
          subst (λ x. nat_lt (words_past_format - 2) (length x) ≡ false) same
          (le-ltb (words_past_format - 2) (length (take (length bytes - 1) bytes)) (simp length-take (omega arith)))
      go false k = let no : ⊥ = cc in absurd no

  text_by : (w : ℕ) (bytes : List ℕ) → IsWellFormed (tree.Numbers w bytes) → (q : Bool) → (w == 1) ≡ q → Fits set OfSlot TextType (of_read value.Text (cond q (terminated_text bytes) (Err WrongElementSize)))
  text_by w bytes formed true e =
      let one : w ≡ 1 = eqb-true w 1 e in
      let few : length bytes / 1 < words_past_format = subst (λ n. length bytes / n < words_past_format) one formed.3 in
      read_fits TextType value.Text (terminated_text bytes) (λ text k. (tt, refl, terminated_short bytes text (omega arith) k))
  text_by w bytes formed false e = tt

  text_fits : (x : Tree) → IsWellFormed x → Fits set OfSlot TextType (of_read value.Text (as_text x))
  text_fits tree.Null formed = (tt, refl, refl)
  text_fits (tree.Struct bytes ps) formed = tt
  text_fits (tree.Voids n) formed = tt
  text_fits (tree.Bits bs) formed = tt
  text_fits (tree.Numbers w bytes) formed = text_by w bytes formed (w == 1) refl
  text_fits (tree.Pointers ps) formed = tt
  text_fits (tree.Composite d p es) formed = tt
  text_fits (tree.FaultLeaf k) formed = tt

  data_by : (w : ℕ) (bytes : List ℕ) → IsWellFormed (tree.Numbers w bytes) → (q : Bool) → (w == 1) ≡ q → Fits set OfSlot DataType (of_read value.Data (cond q (Ok bytes) (Err WrongElementSize)))
  data_by w bytes formed true e =
      let one : w ≡ 1 = eqb-true w 1 e in
      let few : length bytes / 1 < words_past_format = subst (λ n. length bytes / n < words_past_format) one formed.3 in
      (tt, refl, le-ltb (words_past_format - 1) (length bytes) (omega arith), all_bytes bytes formed.0)
  data_by w bytes formed false e = tt

  data_fits : (x : Tree) → IsWellFormed x → Fits set OfSlot DataType (of_read value.Data (as_data x))
  data_fits tree.Null formed = (tt, refl, refl, all_bytes [] (λ i. omega arith))
  data_fits (tree.Struct bytes ps) formed = tt
  data_fits (tree.Voids n) formed = tt
  data_fits (tree.Bits bs) formed = tt
  data_fits (tree.Numbers w bytes) formed = data_by w bytes formed (w == 1) refl
  data_fits (tree.Pointers ps) formed = tt
  data_fits (tree.Composite d p es) formed = tt
  data_fits (tree.FaultLeaf k) formed = tt

  -- ---- elements ----

  bytes_formed : (d p : ℕ) (es : Structs) (i : ℕ) → AreFormedElements d p es → AreBytes (nth_struct es i).bytes
  bytes_formed d p tree.NoStructs i formed = λ j. omega arith
  bytes_formed d p (tree.MoreStructs bytes ps es) zero formed = formed.0
  bytes_formed d p (tree.MoreStructs bytes ps es) (suc i) formed = bytes_formed d p es i formed.4

  element_small : (w : ℕ) (x : Tree) (i : ℕ) → IsTrue (is_width w) → IsWellFormed x → element_number w x i < 2 ^ (8 * w)
  element_small w tree.Null i h formed = pow_pos (8 * w)
  element_small w (tree.Struct bytes ps) i h formed = pow_pos (8 * w)
  element_small w (tree.Voids n) i h formed = pow_pos (8 * w)
  element_small w (tree.Bits bs) i h formed = pow_pos (8 * w)
  element_small w (tree.Numbers k bytes) i h formed = run_small w i bytes h formed.0
  element_small w (tree.Pointers ps) i h formed = pow_pos (8 * w)
  element_small w (tree.Composite d p es) i h formed = run_small w 0 (nth_struct es i).bytes h (bytes_formed d p es i formed.4)
  element_small w (tree.FaultLeaf k) i h formed = pow_pos (8 * w)

  -- a slot's value in a list, where it may be missing there
  in_list : (t : SchemaType) (v : Value) → MayBeNull OfElement t → Fits set OfSlot t v → Fits set OfElement t v
  in_list t value.Void may h = h
  in_list t (value.Truth b) may h = h
  in_list t (value.Number n) may h = h
  in_list t (value.Enum n) may h = h
  in_list t (value.Text bytes) may h = h
  in_list t (value.Data bytes) may h = h
  in_list t (value.Struct r) may h = h
  in_list t (value.Group r) may h = let no : ⊥ = cc in absurd no
  in_list t (value.Elements vs) may h = h
  in_list t (value.Untyped x) may h = h
  in_list t (value.Fault kind) may h = h
  in_list t (value.Missing levels) may h = may
  in_list t value.Elsewhere may h = absurd h

  entered_fits : (l : Levels) (b g : ℕ) (r : Record) → IsShaped set b r → Fits set OfElement (StructType b g) (entered_value l (value.Struct r))
  entered_fits l b g r shaped = go (levels_asked l == 0)
    where
      go : (q : Bool) → Fits set OfElement (StructType b g) (elim q as (λ _. Value) [ true ↦ value.Fault TooDeep | false ↦ value.Struct r ])
      go true = tt
      go false = (tt, b, g, refl, shaped)

  element_fits : (x : Tree) (below : Below) → IsWellFormed x → AllBelow FitsAll below → (l : Levels) (e : SchemaType) → IsTyped e → (i : ℕ) → Fits set OfElement e (element_value set x below l e i)
  element_fits x below formed all l VoidType typed i = (tt, refl)
  element_fits x below formed all l BoolType typed i = (tt, refl)
  element_fits x below formed all l (IntType w) typed i = number_fits set OfElement (IntType w) (element_number w x i) tt typed.1 refl (element_small w x i typed.1 formed)
  element_fits x below formed all l (UIntType w) typed i = number_fits set OfElement (UIntType w) (element_number w x i) tt typed.1 refl (element_small w x i typed.1 formed)
  element_fits x below formed all l (EnumType n) typed i = number_fits set OfElement (EnumType n) (element_number 2 x i) tt typed.1 refl (element_small 2 x i refl formed)
  element_fits x below formed all l TextType typed i = in_list TextType (below.element_pointer i l TextType) tt (all.element_pointers i l TextType refl typed)
  element_fits x below formed all l DataType typed i = in_list DataType (below.element_pointer i l DataType) tt (all.element_pointers i l DataType refl typed)
  element_fits x below formed all l (StructType b g) typed i =
      entered_fits l b g (record_of set (one_less l) (below.element_body i).bytes (below.element_body i).pointers b)
      (record_shaped (one_less l) (below.element_body i).bytes (below.element_body i).pointers (all.element_bodies i) b typed.0.0)
  element_fits x below formed all l (ListType e) typed i = in_list (ListType e) (below.element_pointer i l (ListType e)) tt (all.element_pointers i l (ListType e) refl typed)
  element_fits x below formed all l AnyPointerType typed i = in_list AnyPointerType (below.element_pointer i l AnyPointerType) tt (all.element_pointers i l AnyPointerType refl typed)

  row_fits : (e : SchemaType) (f : ℕ → Value) → ((i : ℕ) → Fits set OfElement e (f i)) → (a n : ℕ) → AllFit set e (values_from f a n)
  row_fits e f h a zero = tt
  row_fits e f h a (suc n) = (h a, row_fits e f h (suc a) n)

  -- ---- trees ----

  tree_fits : (x : Tree) (below : Below) → IsWellFormed x → AllBelow FitsAll below → FitsAll (tree_value set x below)
  tree_fits x below formed all l VoidType pointer typed = let no : ⊥ = cc in absurd no
  tree_fits x below formed all l BoolType pointer typed = let no : ⊥ = cc in absurd no
  tree_fits x below formed all l (IntType w) pointer typed = let no : ⊥ = cc in absurd no
  tree_fits x below formed all l (UIntType w) pointer typed = let no : ⊥ = cc in absurd no
  tree_fits x below formed all l (EnumType n) pointer typed = let no : ⊥ = cc in absurd no
  tree_fits x below formed all l TextType pointer typed = text_fits x formed
  tree_fits x below formed all l DataType pointer typed = data_fits x formed
  tree_fits x below formed all l (StructType b g) pointer typed =
      read_fits (StructType b g) (λ (s : StructTree). value.Struct (record_of set (one_less l) s.bytes below.pointers b)) (as_struct x (levels_asked l))
      (λ s k. (tt, b, g, refl, record_shaped (one_less l) s.bytes below.pointers all.pointers b typed.0.0))
  tree_fits x below formed all l (ListType e) pointer typed =
      read_fits (ListType e) (λ (_ : Tree). elements_value set x below (one_less l) e) (as_list (element_size e) x (levels_asked l))
      (λ y k. (tt, e, refl, row_fits e (element_value set x below (one_less l) e) (element_fits x below formed all (one_less l) e typed) 0 (list_length x)))
  tree_fits x below formed all l AnyPointerType pointer typed = tt

  first_fits : (body : Body) → AllReadings FitsAll body.pointers → FitsAll (first_pointer set body)
  first_fits body all l t pointer typed = go (is_there (nth_reading body.pointers 0 l t) && (levels_asked l == 0))
    where
      go : (q : Bool) → Fits set OfSlot t (elim q as (λ _. Value) [ true ↦ tree_value set (tree.FaultLeaf fault.TooDeep) (struct_below []) l t | false ↦ nth_reading body.pointers 0 (one_less l) t ])
      go true = tree_fits (tree.FaultLeaf fault.TooDeep) (struct_below []) tt (struct_below_are FitsAll null_fits [] tt) l t pointer typed
      go false = nth_reading_is FitsAll null_fits body.pointers all 0 (one_less l) t pointer typed

  structs_fit : (bs : List Body) → AllBodies FitsAll bs → AllBelow FitsAll (structs_below set bs)
  structs_fit bs all = record { pointers = tt; element_pointers = λ i. first_fits (nth_body bs i) (nth_body_reads FitsAll null_fits bs all i); element_bodies = nth_body_reads FitsAll null_fits bs all }

  mutual
    pub reading_fits : (x : Tree) → IsWellFormed x → FitsAll (value_of set x)
    reading_fits tree.Null formed = null_fits
    reading_fits (tree.Struct bytes ps) formed = tree_fits (tree.Struct bytes ps) (struct_below (values_of set ps)) formed (struct_below_are FitsAll null_fits (values_of set ps) (pointers_fit ps formed.4))
    reading_fits (tree.Voids n) formed = tree_fits (tree.Voids n) (bytes_below (tree.Voids n)) formed (bytes_below_are FitsAll null_fits (tree.Voids n))
    reading_fits (tree.Bits bs) formed = tree_fits (tree.Bits bs) (bytes_below (tree.Bits bs)) formed (bytes_below_are FitsAll null_fits (tree.Bits bs))
    reading_fits (tree.Numbers w bytes) formed = tree_fits (tree.Numbers w bytes) (bytes_below (tree.Numbers w bytes)) formed (bytes_below_are FitsAll null_fits (tree.Numbers w bytes))
    reading_fits (tree.Pointers ps) formed = tree_fits (tree.Pointers ps) (pointers_below (values_of set ps)) formed (pointers_below_are FitsAll null_fits (values_of set ps) (pointers_fit ps formed.1))
    reading_fits (tree.Composite d p es) formed = tree_fits (tree.Composite d p es) (structs_below set (bodies_of set es)) formed (structs_fit (bodies_of set es) (bodies_fit es d p formed.4))
    reading_fits (tree.FaultLeaf k) formed = tree_fits (tree.FaultLeaf k) (struct_below []) formed (struct_below_are FitsAll null_fits [] tt)

    pub pointers_fit : (ps : Trees) → AreWellFormed ps → AllReadings FitsAll (values_of set ps)
    pointers_fit tree.NoTrees formed = tt
    pointers_fit (tree.MoreTrees x ps) formed = (reading_fits x formed.0, pointers_fit ps formed.1)

    bodies_fit : (es : Structs) (d p : ℕ) → AreFormedElements d p es → AllBodies FitsAll (bodies_of set es)
    bodies_fit tree.NoStructs d p formed = tt
    bodies_fit (tree.MoreStructs bytes ps es) d p formed = (pointers_fit ps formed.3, bodies_fit es d p formed.4)

pub readers_shaped : ReadersAreShaped
readers_shaped set l s b accepted ranges b_in formed =
    record_shaped set accepted ranges l s.bytes (values_of set s.pointers) (pointers_fit set accepted ranges s.pointers formed) b b_in
