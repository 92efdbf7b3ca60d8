-- The elements of a list, read one after another.
use Rattle.std.proofs.Common.{ℕ, ◌+◌, ◌<◌, ◌≡◌, subst, sym, List, [], ◌∷◌, ◌++◌, Ok}
use Rattle.capnp_device.specs.declared.error.ErrorKind.{ErrorKind}
use Rattle.capnp_wire.specs.Reading.{list_length}
use Rattle.capnp_wire.specs.Standing.{list_of}
use Rattle.capnp_wire.specs.declared.list_reader.ListReader.{ListReader}
use Rattle.capnp_schema.specs.Meta.{meta}
use Rattle.capnp_schema.specs.Schema.{VoidValue}
use Rattle.capnp_schema.specs.Types.{SchemaType}
use Rattle.capnp_records.specs.Default.{read_of}
use Rattle.capnp_records.specs.Record as value
use Rattle.capnp_records.specs.Record.{Value}
use Rattle.capnp_sets.specs.Causes.{HasCause, SetRead}
use Rattle.capnp_sets.specs.Steps.Handles.{list_in}
use Rattle.capnp_sets.specs.Parts.{list, unless_fault}
use Rattle.capnp_sets.proofs.Elements.{element_caused, element_made, element_refused}
use Rattle.capnp_sets.proofs.RowsRead.{IsReadTo, element_in, element_seen, read_all, read_more, read_none, read_stopped}

abbrev pub count_of : ListReader → ℕ
count_of l = list_length (list_of l)

-- what an element of a list stands for
abbrev pub one_of : {A : Type 0} → SchemaType → (Value → SetRead A) → Value → SetRead A
one_of t f v = unless_fault f (read_of meta VoidValue t v)

-- what a list stands for, where some of its elements were read
abbrev pub ListReadTo : {A : Type 0} → SchemaType → (Value → SetRead A) → ListReader → List A → ℕ → Type 0
ListReadTo t f l xs i = IsReadTo (one_of t f) (element_in t l) (count_of l) (list t f (list_in t l)) xs i

module _ {A : Type 0} (t : SchemaType) (f : Value → SetRead A) (l : ListReader) where
  pub list_none : (xs : List A) → xs ≡ [] → ListReadTo t f l xs 0
  list_none xs e = subst (λ ys. ListReadTo t f l ys 0) (sym e) (read_none (one_of t f) (element_in t l) (count_of l))

  pub list_more : (xs ys : List A) (a : A) (i : ℕ) (v : Value) → i < count_of l → ListReadTo t f l xs i → v ≡ element_seen t l i → unless_fault f v ≡ f v → f v ≡ Ok a → ys ≡ xs ++ a ∷ [] → ListReadTo t f l ys (i + 1)
  list_more xs ys a i v inside so_far seen there made e =
      subst (λ zs. ListReadTo t f l zs (i + 1)) (sym e)
      (read_more (one_of t f) (element_in t l) (count_of l) (list t f (list_in t l)) xs a i inside so_far (element_made t f l i v a seen there made))

  pub list_all : (xs : List A) (i : ℕ) → i ≡ count_of l → ListReadTo t f l xs i → list t f (list_in t l) ≡ Ok xs
  list_all xs i e so_far = read_all (one_of t f) (element_in t l) (count_of l) (list t f (list_in t l)) xs i e so_far

  pub list_part_refused : (xs : List A) (i : ℕ) (kind : ErrorKind) → i < count_of l → ListReadTo t f l xs i → value.Fault kind ≡ element_seen t l i → HasCause (list t f (list_in t l)) kind
  list_part_refused xs i kind inside so_far seen =
      read_stopped (one_of t f) (element_in t l) (count_of l) (list t f (list_in t l)) xs i kind inside so_far (element_refused t f l i kind seen)

  pub list_made_refused : (xs : List A) (i : ℕ) (kind : ErrorKind) (v : Value) → i < count_of l → ListReadTo t f l xs i → v ≡ element_seen t l i → unless_fault f v ≡ f v → HasCause (f v) kind → HasCause (list t f (list_in t l)) kind
  list_made_refused xs i kind v inside so_far seen there here =
      read_stopped (one_of t f) (element_in t l) (count_of l) (list t f (list_in t l)) xs i kind inside so_far (element_caused t f l i v kind seen there here)
