-- Lists of structs, read element by element.
use Rattle.std.proofs.Common.{ℕ, ◌+◌, ◌-◌, ◌<◌, ◌≤◌, ◌≡◌, ◌∙◌, ap, refl, sym, zero, suc, arith, [], ◌∷◌, Result, Ok, Err}
use Rattle.capnp_device.specs.declared.error.ErrorKind.{ErrorKind}
use Rattle.capnp_wire.specs.Reading.{element_struct, list_length, with_level}
use Rattle.capnp_wire.specs.Standing.{list_levels, list_of, struct_levels, struct_of, struct_read}
use Rattle.capnp_wire.specs.Tree.{StructTree}
use Rattle.capnp_wire.specs.declared.struct_reader.StructReader.{StructReader}
use Rattle.capnp_schema.specs.Schema.{VoidValue}
use Rattle.capnp_records.specs.Default.{read_of}
use Rattle.capnp_records.specs.Facts.ListValues.{below_of}
use Rattle.capnp_records.specs.Facts.Readers.{element_is_read}
use Rattle.capnp_records.specs.Reading.{element_value, of_read, struct_record}
use Rattle.capnp_records.specs.Record as value
use Rattle.capnp_records.specs.Record.{Left, MoreValues, NoValues, Record, Value, values_from}
use Rattle.capnp_known.specs.Known.{record_in}
use Rattle.capnp_request.specs.RequestSet.{request_set}
use Rattle.capnp_request.specs.Steps.Handles.{IsListOf, values_left}
use Rattle.capnp_request.specs.Steps.Seen.{element_in, element_seen, list_seen}
use Rattle.capnp_request.specs.Parts.{element_read, request_struct}
use Rattle.capnp_request.specs.Reading.{all_said, each_said, in_struct, list_said, list_value_count, whole_list}
use Rattle.capnp_request.specs.declared.handles.RequestList.{RequestList}

-- how many elements there are
abbrev pub count_of : RequestList → ℕ
count_of l = list_length (list_of l.elements)

pub none_left : (l : RequestList) (i : ℕ) → count_of l ≤ i → values_left l i ≡ NoValues
unfolding values_left
none_left l i h = let e : count_of l - i ≡ 0 = omega (arith, h) in ap (values_from (element_in l) i) e

pub one_left : (l : RequestList) (i : ℕ) → i < count_of l → values_left l i ≡ MoreValues (element_in l i) (values_left l (i + 1))
unfolding values_left
one_left l i h =
    let e : count_of l - i ≡ suc (count_of l - (i + 1)) = omega (arith, h) in
    let next : suc i ≡ i + 1 = omega arith in
    ap (values_from (element_in l) i) e ∙ ap (λ j. MoreValues (element_in l i) (values_from (element_in l) j (count_of l - (i + 1)))) next

pub all_left : (l : RequestList) → list_seen l ≡ value.Elements (values_left l 0)
unfolding values_left
all_left l = let e : count_of l ≡ count_of l - 0 = omega arith in ap (λ n. value.Elements (values_from (element_in l) 0 n)) e

pub element_is : (l : RequestList) (b i : ℕ) → IsListOf b l → element_read b (element_in l i) ≡ element_seen l i
element_is l b i is = ap (λ n. element_read n (element_in l i)) (sym is.number)

pub count_left : (l : RequestList) → list_value_count (values_left l 0) ≡ count_of l
unfolding values_left
count_left l = counted (element_in l) 0 (count_of l - 0) ∙ omega arith
  where
    counted : (f : ℕ → Value) (i n : ℕ) → list_value_count (values_from f i n) ≡ n
    counted f i zero = refl
    counted f i (suc n) = ap (λ m. suc m) (counted f (suc i) n)

-- the read of a struct, or its fault, is the read of the element
module _ (l : RequestList) (b i : ℕ) (is : IsListOf b l) where
  abbrev read_by : ℕ → Result StructTree ErrorKind → Value
  read_by n r = read_of request_set VoidValue (request_struct b) (of_read (λ (s : StructTree). value.Struct (struct_record request_set (Left n) s b)) r)

  abbrev element_under : ℕ → Value
  element_under n = read_of request_set VoidValue (request_struct n) (element_value request_set (list_of l.elements) (below_of request_set (list_of l.elements)) (Left (list_levels l.elements)) (request_struct n) i)

  element_by : read_by (list_levels l.elements - 1) (with_level (list_levels l.elements) (Ok (element_struct (list_of l.elements) i))) ≡ element_seen l i
  element_by =
      ap (read_of request_set VoidValue (request_struct b)) (sym (element_is_read request_set (list_of l.elements) (list_levels l.elements) (request_struct b) i))
      ∙ ap element_under (sym is.number)

  pub record_there : (s : StructReader) → struct_read (Ok s) ≡ with_level (list_levels l.elements) (Ok (element_struct (list_of l.elements) i)) → struct_levels s + 1 ≡ list_levels l.elements → value.Struct (record_in request_set b s) ≡ element_seen l i
  record_there s read levels =
      ap (λ n. read_by n (Ok (struct_of s))) (omega (arith, levels))
      ∙ (ap (read_by (list_levels l.elements - 1)) read ∙ element_by)

  pub fault_there : (kind : ErrorKind) → Err kind ≡ with_level (list_levels l.elements) (Ok (element_struct (list_of l.elements) i)) → value.Fault kind ≡ element_seen l i
  fault_there kind read = ap (read_by (list_levels l.elements - 1)) read ∙ element_by

module _ {A : Type 0} (b : ℕ) (f : Record → A) (l : RequestList) where
  pub each_none : (i : ℕ) → count_of l ≤ i → each_said b f (values_left l i) ≡ []
  each_none i h = ap (each_said b f) (none_left l i h)

  pub each_ok : (i : ℕ) (r : Record) → IsListOf b l → i < count_of l → value.Struct r ≡ element_seen l i → each_said b f (values_left l i) ≡ Ok (f r) ∷ each_said b f (values_left l (i + 1))
  each_ok i r is h e =
      ap (each_said b f) (one_left l i h)
      ∙ ap (λ (v : Value). in_struct Err (λ x. Ok (f x)) v ∷ each_said b f (values_left l (i + 1))) (element_is l b i is ∙ sym e)

  pub each_err : (i : ℕ) (kind : ErrorKind) → IsListOf b l → i < count_of l → value.Fault kind ≡ element_seen l i → each_said b f (values_left l i) ≡ Err kind ∷ each_said b f (values_left l (i + 1))
  each_err i kind is h e =
      ap (each_said b f) (one_left l i h)
      ∙ ap (λ (v : Value). in_struct Err (λ x. Ok (f x)) v ∷ each_said b f (values_left l (i + 1))) (element_is l b i is ∙ sym e)

  pub each_whole : list_said b f (list_seen l) ≡ Ok (each_said b f (values_left l 0))
  each_whole = ap (list_said b f) (all_left l)

  pub all_whole : whole_list b f (list_seen l) ≡ all_said (each_said b f (values_left l 0))
  all_whole = ap (whole_list b f) (all_left l)
