-- What edits make of lists.
use Rattle.std.specs.Prelude.{ℕ, ◌-◌, ◌≡◌, true, cond, min, nat_lt, None, Some, List, [], ◌∷◌, ◌++◌, Result, Ok, Err}
use Rattle.capnp_device.specs.declared.error.ErrorKind.{ErrorKind}
use Rattle.capnp_device.specs.declared.error.ErrorKind.TheVariants.{NoSuchElement, SizePastFormat, TooDeep}
use Rattle.capnp_wire.specs.Depth.{IsShallow}
use Rattle.capnp_wire.specs.Reading.{list_length}
use Rattle.capnp_wire.specs.Tree.{Tree}
use Rattle.capnp_wire.specs.declared.size.StructSize.{StructSize}
use Rattle.capnp_splices.specs.Splices.{IsSplice, Splice, splice_refusal, spliced_list}
use Rattle.capnp_schema.specs.Plan.{brand_size}
use Rattle.capnp_schema.specs.Schema.{Schemas}
use Rattle.capnp_schema.specs.Types.{SchemaType, StructType, element_size}
use Rattle.capnp_records.specs.Call.{Source}
use Rattle.capnp_records.specs.Given.{given_element}
use Rattle.capnp_records.specs.Operation.{elements_past, new_element}
use Rattle.capnp_records.specs.Record.{Values}
use Rattle.capnp_records.specs.Writes.Contents.{new_list}
use Rattle.capnp_slots.specs.Sources.{IsSetRefusal}
use Rattle.capnp_edits.specs.Added.{IsOne, added_values, given_value}
use Rattle.capnp_edits.specs.Edits.{appended, inserted, resized, without}

-- values behind the last element, one in front of another, one taken out, or another length
pub data Edit : Type 0 where
  Append : List Source → Edit
  Insert : (index : ℕ) → Source → Edit
  Remove : (index : ℕ) → Edit
  Resize : (count : ℕ) → Edit

-- ---- of records ----

-- the elements then
abbrev pub edited_values : Schemas → SchemaType → Edit → Values → Values
edited_values set e (Append sources) vs = appended (added_values set e sources) vs
edited_values set e (Insert i s) vs = inserted i (given_value (given_element set e s)) vs
edited_values set e (Remove i) vs = without i vs
edited_values set e (Resize n) vs = resized n (new_element set e) vs

-- ---- where ----

-- the index where elements are put, and how many are taken out there
pub record Place : Type 0 where
  pub at : ℕ
  pub removed : ℕ

-- in a list of so many elements; an index past the end is none, of an insertion one past the length
abbrev pub place_of : Edit → (length : ℕ) → Result Place ErrorKind
place_of (Append sources) length = Ok (record { at = length; removed = 0 })
place_of (Insert i s) length = cond (nat_lt length i) (Err NoSuchElement) (Ok (record { at = i; removed = 0 }))
place_of (Remove i) length = cond (nat_lt i length) (Ok (record { at = i; removed = 1 })) (Err NoSuchElement)
place_of (Resize n) length = Ok (record { at = min n length; removed = length - n })

-- ---- of trees ----

-- what structs have at least that are elements of a type
abbrev pub least_size : Schemas → SchemaType → StructSize
least_size set (StructType b g) = brand_size set b
least_size set e = record { data_words = 0; pointers = 0 }

-- two lists one after another
abbrev pub joined : Tree → Tree → Splice
joined t u = record { old = t; added = u; at = list_length t; removed = 0 }

-- lists of values, each as a set of an element takes it, whole; longer ones are made of shorter ones
pub data AreListed (set : Schemas) (e : SchemaType) : List Source → Tree → Type 0 where
  none : AreListed set e [] (new_list set e 0)
  one : (s : Source) (t : Tree) → IsOne set e s t → AreListed set e (s ∷ []) t
  both : (ss us : List Source) (t u : Tree) → AreListed set e ss t → AreListed set e us u → IsSplice (joined t u) → AreListed set e (ss ++ us) (spliced_list (element_size e) (least_size set e) (joined t u))

-- the list of what an edit adds
abbrev pub IsAdded : Schemas → SchemaType → Edit → (length : ℕ) → Tree → Type 0
IsAdded set e (Append sources) length t = AreListed set e sources t
IsAdded set e (Insert i s) length t = IsOne set e s t
IsAdded set e (Remove i) length t = t ≡ new_list set e 0
IsAdded set e (Resize n) length t = t ≡ new_list set e (n - length)

abbrev pub splice_at : Tree → Tree → Place → Splice
splice_at old added p = record { old = old; added = added; at = p.at; removed = p.removed }

-- what an edit makes of a list: what it adds is spliced in at its place
pub record IsChanged (set : Schemas) (e : SchemaType) (old : Tree) (edit : Edit) (new : Tree) : Type 0 where
  pub place : Place
  pub found : place_of edit (list_length old) ≡ Ok place
  pub added : Tree
  pub is_added : IsAdded set e edit (list_length old) added
  pub formed : IsSplice (splice_at old added place)
  pub list : new ≡ spliced_list (element_size e) (least_size set e) (splice_at old added place)
  pub sound : splice_refusal (element_size e) (least_size set e) (splice_at old added place) ≡ None

-- ---- refusals, memory aside ----

-- two lists are not joined: one is more than 64 levels deep, or they don't stand in one list
pub data IsSpliceRefusal (set : Schemas) (e : SchemaType) (s : Splice) : ErrorKind → Type 0 where
  first_deep : (IsShallow s.old → ⊥) → IsSpliceRefusal set e s TooDeep
  second_deep : (IsShallow s.added → ⊥) → IsSpliceRefusal set e s TooDeep
  unspliced : (kind : ErrorKind) → splice_refusal (element_size e) (least_size set e) s ≡ Some kind → IsSpliceRefusal set e s kind

-- values are not listed: one of them is refused, or two lists of them are not joined
pub data AreRefused (set : Schemas) (e : SchemaType) : List Source → ErrorKind → Type 0 where
  one_refused : (s : Source) (kind : ErrorKind) → IsSetRefusal (given_element set e s) kind → AreRefused set e (s ∷ []) kind
  first_refused : (ss us : List Source) (kind : ErrorKind) → AreRefused set e ss kind → AreRefused set e (ss ++ us) kind
  second_refused : (ss us : List Source) (t : Tree) (kind : ErrorKind) → AreListed set e ss t → AreRefused set e us kind → AreRefused set e (ss ++ us) kind
  not_joined : (ss us : List Source) (t u : Tree) (kind : ErrorKind) → AreListed set e ss t → AreListed set e us u → IsSpliceRefusal set e (joined t u) kind → AreRefused set e (ss ++ us) kind

-- more new elements than the format has
pub record IsPast (set : Schemas) (e : SchemaType) (count : ℕ) (kind : ErrorKind) : Type 0 where
  pub kind_is : kind ≡ SizePastFormat
  pub past : elements_past set e count ≡ true

abbrev pub IsAddedRefusal : Schemas → SchemaType → Edit → (length : ℕ) → ErrorKind → Type 0
IsAddedRefusal set e (Append sources) length kind = AreRefused set e sources kind
IsAddedRefusal set e (Insert i s) length kind = IsSetRefusal (given_element set e s) kind
IsAddedRefusal set e (Remove i) length kind = ⊥
IsAddedRefusal set e (Resize n) length kind = IsPast set e (n - length) kind

-- why an edit makes nothing of a list: its place is none, what it adds is refused, or that and the list are not spliced
pub data IsChangeRefusal (set : Schemas) (e : SchemaType) (old : Tree) (edit : Edit) : ErrorKind → Type 0 where
  no_place : (kind : ErrorKind) → place_of edit (list_length old) ≡ Err kind → IsChangeRefusal set e old edit kind
  not_added : (p : Place) (kind : ErrorKind) → place_of edit (list_length old) ≡ Ok p → IsAddedRefusal set e edit (list_length old) kind → IsChangeRefusal set e old edit kind
  added_deep : (p : Place) (added : Tree) → place_of edit (list_length old) ≡ Ok p → IsAdded set e edit (list_length old) added → (IsShallow added → ⊥) → IsChangeRefusal set e old edit TooDeep
  not_spliced : (p : Place) (added : Tree) (kind : ErrorKind) → place_of edit (list_length old) ≡ Ok p → IsAdded set e edit (list_length old) added → splice_refusal (element_size e) (least_size set e) (splice_at old added p) ≡ Some kind → IsChangeRefusal set e old edit kind
