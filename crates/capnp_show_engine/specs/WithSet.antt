-- What is shown where the set comes as a message.
use Rattle.std.specs.Prelude.{ℕ, ◌≡◌, ◌⊎◌, List, Bool, Option, Some, None}
use Rattle.capnp_device.specs.Device.{HasFailed}
use Rattle.capnp_device.specs.declared.error.Error.{Error}
use Rattle.capnp_device.specs.declared.error.ErrorKind.TheVariants.{NameNotFound}
use Rattle.capnp_schema.specs.Accepted.{IsAccepted}
use Rattle.capnp_schema.specs.ByName.{brand_asked}
use Rattle.capnp_schema.specs.Schema.{Schemas}
use Rattle.capnp_sets.specs.Message.{IsMessageRefusal, message_set}
use Rattle.capnp_show_engine.specs.Show.{IsRead, IsShowRefused}

-- bytes were read to the end of the set's source, and they stand for a set that is accepted
pub record IsSetRead (set : Schemas) (left left' : Option (List ℕ)) : Type 0 where
  pub bytes : List ℕ
  pub read : IsRead bytes left left'
  pub stands : message_set bytes ≡ Some set
  pub accepted : IsAccepted set

-- the set was read, and a struct of that name stands in it; something is so of its brand
pub record IsStructNamed (name : List ℕ) (left left' : Option (List ℕ)) (so : Schemas → ℕ → Type 0) : Type 0 where
  pub set : Schemas
  pub read : IsSetRead set left left'
  pub brand : ℕ
  pub named : brand_asked set name ≡ Some brand
  pub is_so : so set brand

-- the set was read and no struct of that name stands in it
pub record IsNameMissing (name : List ℕ) (left left' : Option (List ℕ)) : Type 0 where
  pub set : Schemas
  pub read : IsSetRead set left left'
  pub missing : brand_asked set name ≡ None

-- bytes were read to the end of the set's source that give no set, with this refusal
pub record IsSetRefused (e : Error) (left left' : Option (List ℕ)) : Type 0 where
  pub bytes : List ℕ
  pub read : IsRead bytes left left'
  pub refused : IsMessageRefusal bytes e

-- a show was refused, neither for memory nor by a device: by the set or for the name, and then the message's source is as it
-- was, or by the message
abbrev pub IsRefusedWithSet : List ℕ → (indented : Bool) → Error → (untouched : Type 0) → (sets sets' left left' : Option (List ℕ)) → Type 0
IsRefusedWithSet name indented e untouched sets sets' left left' =
    (IsSetRefused e sets sets' × untouched)
    ⊎ (((e.kind ≡ NameNotFound) × IsNameMissing name sets sets' × untouched)
    ⊎ IsStructNamed name sets sets' (λ set b. IsShowRefused set b indented e.kind left left'))

-- one of two sources failed: that of the set, and then the message's is as it was, or that of the message
abbrev pub HasReadFailed : (untouched : Type 0) → (reads reads' : ℕ) → (message_reads message_reads' : ℕ) → Type 0
HasReadFailed untouched reads reads' message_reads message_reads' = (HasFailed reads reads' × untouched) ⊎ HasFailed message_reads message_reads'
