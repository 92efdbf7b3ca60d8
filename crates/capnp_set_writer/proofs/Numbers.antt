-- Numbers that are spelled among others, as the slots of their fields read them; and parts that stand for something.
use Rattle.std.proofs.Common.{pos, bit_xor, ◌≡◌, ℕ, refl, ap, sym, subst, ◌∙◌, List, [], Bool, true, false, Result, Ok}
use Rattle.std.specs.Int.Bits.{xor_zero_r}
use Rattle.std.specs.Str.{is_utf8}
use Rattle.capnp_device.specs.declared.error.ErrorKind.{ErrorKind}
use Rattle.capnp_wire.specs.Reading.{as_text}
use Rattle.capnp_wire.specs.Slot.{number_at}
use Rattle.capnp_wire.specs.WellFormed.{AreBytes}
use Rattle.capnp_base.specs.ReadBack.{as_text_text_tree}
use Rattle.capnp_base.specs.Text.{text_tree}
use Rattle.capnp_schema.specs.SlotValue.{slot_number}
use Rattle.capnp_schema.specs.Meta.{meta}
use Rattle.capnp_schema.specs.Schema.{UIntValue, IntValue, TextValue}
use Rattle.capnp_schema.specs.Types.{UIntType, IntType, TextType}
use Rattle.capnp_schema.specs.Facts.Bits.{bits_at_number, xor_undone}
use Rattle.capnp_records.specs.Default.{read_of}
use Rattle.capnp_records.specs.Reading.{of_read}
use Rattle.capnp_records.specs.Record as value
use Rattle.capnp_device.specs.declared.error.ErrorKind.TheVariants.{NameNotUtf8}
use Rattle.capnp_sets.specs.Causes.{SetRead, refused_read, ◌<*>◌}
use Rattle.capnp_sets.specs.Parts.{name}

-- ---- slots ----

-- a number whose field has the default 0
pub uint_slot : (bytes : List ℕ) (width offset n : ℕ) → AreBytes bytes → number_at width offset bytes ≡ n → slot_number bytes offset (UIntValue width 0) (UIntType width) ≡ n
uint_slot bytes width offset n h e = xor_zero_r _ ∙ (bits_at_number bytes width offset h ∙ e)

-- and one with another default, which was stored with it
pub masked_slot : (bytes : List ℕ) (width offset n mask : ℕ) → AreBytes bytes → number_at width offset bytes ≡ bit_xor n mask → slot_number bytes offset (UIntValue width mask) (UIntType width) ≡ n
masked_slot bytes width offset n mask h e = ap (λ x. bit_xor x mask) (bits_at_number bytes width offset h ∙ e) ∙ xor_undone n mask

pub int_slot : (bytes : List ℕ) (width offset n : ℕ) → AreBytes bytes → number_at width offset bytes ≡ n → slot_number bytes offset (IntValue width (pos 0)) (IntType width) ≡ n
int_slot bytes width offset n h e = xor_zero_r _ ∙ (bits_at_number bytes width offset h ∙ e)

-- ---- parts ----

abbrev pub read_ok : ℕ → SetRead ℕ
read_ok n = Ok n

ok_ok : {A B : Type 0} (f : A → B) (a : A) → Ok f <*> Ok a ≡ Ok (f a)
unfolding ◌<*>◌
ok_ok f a = refl

-- a function of what a part stands for
pub applied : {A B : Type 0} {x : SetRead (A → B)} {y : SetRead A} {f : A → B} {a : A} → x ≡ Ok f → y ≡ Ok a → x <*> y ≡ Ok (f a)
applied {x = x} {y = y} {f = f} {a = a} e h = subst (λ z. x <*> z ≡ Ok (f a)) (sym h) (subst (λ z. z <*> Ok a ≡ Ok (f a)) (sym e) (ok_ok f a))

-- ---- texts ----

abbrev pub text_in : Result (List ℕ) ErrorKind → value.Value
text_in r = read_of meta (TextValue []) TextType (of_read value.Text r)

pub name_read : (bytes : List ℕ) → is_utf8 bytes ≡ true → name (text_in (as_text (text_tree bytes))) ≡ Ok bytes
name_read bytes h = ap (λ r. name (text_in r)) (as_text_text_tree bytes) ∙ named (is_utf8 bytes) h
  where
    named : (q : Bool) → q ≡ true → elim q as (λ _. SetRead (List ℕ)) [ true ↦ Ok bytes | false ↦ refused_read NameNotUtf8 ] ≡ Ok bytes
    named true e = refl
    named false e = cc
