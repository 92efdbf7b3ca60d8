-- The node of a brand among the records of brands.
use Rattle.std.proofs.Common.{ℕ, ◌≡◌, ◌+◌, ◌<◌, ◌≤◌, ◌∙◌, zero, suc, arith, ap, refl, sym, Ok}
use Rattle.capnp_schema.specs.Meta.{meta, meta_struct}
use Rattle.capnp_schema.specs.Schema.{VoidValue}
use Rattle.capnp_records.specs.Default.{read_of}
use Rattle.capnp_device.specs.declared.error.ErrorKind.{ErrorKind}
use Rattle.capnp_records.specs.Record as value
use Rattle.capnp_records.specs.Record.{Value, values_from}
use Rattle.capnp_sets.specs.Causes.{HasCause}
use Rattle.capnp_sets.proofs.AppliedReads.{only_cause}
use Rattle.capnp_wire.specs.Reading.{list_length}
use Rattle.capnp_wire.specs.Standing.{list_of}
use Rattle.capnp_wire.specs.declared.list_reader.ListReader.{ListReader}
use Rattle.capnp_sets.specs.Steps.Handles.{values_in}
use Rattle.capnp_sets.proofs.RowsRead.{element_in, element_seen}
use Rattle.capnp_sets.specs.Types.{generic_in, node_number}

pub generic_there : (g : ℕ → Value) (a n b : ℕ) → b < n → generic_in (values_from g a n) b ≡ node_number (read_of meta VoidValue (meta_struct 6) (g (a + b)))
unfolding generic_in
generic_there g a zero b h = absurd (omega (arith, h))
generic_there g a (suc n) zero h = let e : a ≡ a + 0 = omega arith in ap (λ i. node_number (read_of meta VoidValue (meta_struct 6) (g i))) e
generic_there g a (suc n) (suc b) h = let e : suc a + b ≡ a + suc b = omega arith in generic_there g (suc a) n b (omega (arith, h)) ∙ ap (λ i. node_number (read_of meta VoidValue (meta_struct 6) (g i))) e

pub generic_past : (g : ℕ → Value) (a n b : ℕ) → n ≤ b → generic_in (values_from g a n) b ≡ Ok 0
unfolding generic_in
generic_past g a zero b h = refl
generic_past g a (suc n) zero h = absurd (omega (arith, h))
generic_past g a (suc n) (suc b) h = generic_past g (suc a) n b (omega (arith, h))

-- the same of all records of brands
pub generic_first : (g : ℕ → Value) (n b : ℕ) → b < n → generic_in (values_from g 0 n) b ≡ node_number (read_of meta VoidValue (meta_struct 6) (g b))
generic_first g n b h = let e : 0 + b ≡ b = omega arith in generic_there g 0 n b h ∙ ap (λ i. node_number (read_of meta VoidValue (meta_struct 6) (g i))) e

-- the same of a list of records of brands, by what is read of an element
pub generic_here : (l : ListReader) (b : ℕ) → b < list_length (list_of l) → (v : Value) → v ≡ element_seen (meta_struct 6) l b → generic_in (values_in l) b ≡ node_number v
generic_here l b h v e = generic_first (element_in (meta_struct 6) l) (list_length (list_of l)) b h ∙ ap node_number (sym e)

pub generic_refused : (l : ListReader) (b : ℕ) → b < list_length (list_of l) → (kind : ErrorKind) → value.Fault kind ≡ element_seen (meta_struct 6) l b → HasCause (generic_in (values_in l) b) kind
generic_refused l b h kind e = only_cause kind _ (generic_here l b h (value.Fault kind) e)
