-- What the record of a value says, by its active member.
use Rattle.std.proofs.Common.{ℕ, subst, zero, ◌^◌, ◌<◌, ◌≤◌, ◌≡◌, suc, arith, nat_lt, true, false, ◌∙◌, ap, refl, sym, List, [], ◌∷◌, length, min, ◌⊎◌, inl, inr, Ok, Err, Option, Some, None, slice_get, drop}
use Rattle.std.proofs.lemmas.Bool.Decides.{nat_tests}
use Rattle.std.proofs.lemmas.Option.{slice_get_past}
use Rattle.std.specs.Option.{option_map, unwrap_or}
use Rattle.capnp_device.specs.declared.error.ErrorKind.{ErrorKind}
use Rattle.capnp_device.specs.declared.error.ErrorKind.TheVariants.{UnknownKind}
use Rattle.capnp_wire.specs.Encoding.{message_of}
use Rattle.capnp_wire.specs.Tree.{Tree}
use Rattle.capnp_wire.specs.Words.{first_fault, words_of}
use Rattle.capnp_wire.specs.Reading.{refusal}
use Rattle.capnp_wire.specs.WellFormed.{IsWellFormed}
use Rattle.capnp_wire.specs.declared.fault.Fault.{Fault}
use Rattle.capnp_schema.specs.Schema.{DataValue, TextValue, Value}
use Rattle.capnp_records.specs.Record as record_value
use Rattle.capnp_records.specs.Part.{which_of}
use Rattle.capnp_records.specs.Record.{Record, Value as RecordValue}
use Rattle.capnp_request.specs.Conversion.{is_untyped_default}
use Rattle.capnp_request.specs.Parts.{request_read_at}
use Rattle.capnp_request.specs.Reading.{by_member, bytes_value, pointer_value, value_kinds, value_said}
use Rattle.capnp_request.specs.Terms.{ListWords, StructWords, UnreadValue, ValueTerm}
use Rattle.capnp_request.specs.Values.{value_stated, words_or_fault, words_that_fit}

-- what member i says, where this is read of it
abbrev pub kind_at : ℕ → RecordValue → ValueTerm
kind_at i = unwrap_or (slice_get value_kinds i) (λ v. UnreadValue UnknownKind)

pub said_by : (r : Record) (m i : ℕ) (v : RecordValue) → which_of r ≡ Some m → m ≡ i → v ≡ request_read_at 22 i r → value_said r ≡ kind_at i v
said_by r m i v which is read = ap (λ o. by_member (UnreadValue UnknownKind) value_kinds 22 o r) (which ∙ ap (λ k. Some k) is) ∙ ap (kind_at i) (sym read)

-- the same of a member that isn't looked at
pub said_so : (r : Record) (m i : ℕ) → which_of r ≡ Some m → m ≡ i → value_said r ≡ kind_at i (request_read_at 22 i r)
said_so r m i which is = said_by r m i (request_read_at 22 i r) which is refl

pub words_of_sound : (t : Tree) (bytes w : List ℕ) → first_fault t ≡ None → suc (words_of t) < 2 ^ 29 → bytes ≡ message_of t → w ≡ drop 8 bytes → words_or_fault (first_fault t) t ≡ Ok w
words_of_sound t bytes w sound few whole rest =
    let fits : nat_lt (suc (words_of t)) 536870912 ≡ true = grind (arith, nat_tests, few) in
    ap (λ o. words_or_fault o t) sound ∙ (ap (λ q. words_that_fit q t) fits ∙ ap (λ (b : List ℕ). Ok b) (sym (rest ∙ ap (drop 8) whole)))

pub words_faulty : (t : Tree) (kind : ErrorKind) → option_map refusal (first_fault t) ≡ Some kind → words_or_fault (first_fault t) t ≡ Err kind
words_faulty t kind = go (first_fault t)
  where
    go : (o : Option Fault) → option_map refusal o ≡ Some kind → words_or_fault o t ≡ Err kind
    go None e = cc
    go (Some fault) e = let same : refusal fault ≡ kind = cc in ap (λ k. Err k) same

pub value_past : (r : Record) (m : ℕ) → which_of r ≡ Some m → 19 ≤ m → value_stated (value_said r) ≡ Err UnknownKind
value_past r m which past =
    ap value_stated (said_so r m m which refl)
    ∙ ap (λ (o : Option (RecordValue → ValueTerm)). value_stated (unwrap_or o (λ (v : RecordValue). UnreadValue UnknownKind) (request_read_at 22 m r))) (slice_get_past value_kinds m past)

-- ---- the words of a message that was written ----

module _ (m t : Tree) (same : m ≡ t) (sound : first_fault t ≡ None) where
  pub words_written : (bytes w : List ℕ) → IsWellFormed m × (suc (words_of m) < 2 ^ 29) → bytes ≡ message_of m → w ≡ drop 8 bytes → words_or_fault (first_fault t) t ≡ Ok w
  words_written bytes w held whole rest = words_of_sound t bytes w sound (subst (λ x. suc (words_of x) < 2 ^ 29) same held.1) (whole ∙ ap message_of same) rest

-- ---- what stands behind a message's table ----

nothing_left : (n : ℕ) (xs : List ℕ) → length xs ≤ n → drop n xs ≡ []
nothing_left zero [] h = refl
nothing_left (suc n) [] h = refl
nothing_left zero (x ∷ xs) h = absurd (omega (arith, h))
nothing_left (suc n) (x ∷ xs) h = nothing_left n xs (omega (arith, h))

pub behind_table : (bytes rest : List ℕ) (start : ℕ) → rest ≡ drop start bytes → start ≡ min (length bytes) 8 → rest ≡ drop 8 bytes
behind_table bytes rest start e is = go (either (length bytes))
  where
    either : (n : ℕ) → (8 ≤ n) ⊎ (n < 8)
    either n = grind arith

    go : (8 ≤ length bytes) ⊎ (length bytes < 8) → rest ≡ drop 8 bytes
    go (inl long) = e ∙ ap (λ n. drop n bytes) (let same : start ≡ 8 = omega (arith, is, long) in same)
    go (inr short) = e ∙ (nothing_left start bytes (omega (arith, is, short)) ∙ sym (nothing_left 8 bytes (omega (arith, short))))

-- ---- which value is an untyped pointer ----

bytes_typed : (f : List ℕ → Value) (v : RecordValue) → is_untyped_default (bytes_value f v) ≡ false
bytes_typed f (record_value.Text bytes) = refl
bytes_typed f (record_value.Data bytes) = refl
bytes_typed f (record_value.Fault kind) = refl
bytes_typed f v = refl

words_typed : (v : RecordValue) → is_untyped_default (pointer_value ListWords v) ≡ false
words_typed (record_value.Untyped t) = refl
words_typed v = refl

struct_typed : (v : RecordValue) → is_untyped_default (pointer_value StructWords v) ≡ false
struct_typed (record_value.Untyped t) = refl
struct_typed v = refl

typed_member : (m : ℕ) (v : RecordValue) → (m ≡ 18 → ⊥) → is_untyped_default (kind_at m v) ≡ false
typed_member zero v other = refl
typed_member (suc zero) v other = refl
typed_member (suc (suc zero)) v other = refl
typed_member (suc (suc (suc zero))) v other = refl
typed_member (suc (suc (suc (suc zero)))) v other = refl
typed_member (suc (suc (suc (suc (suc zero))))) v other = refl
typed_member (suc (suc (suc (suc (suc (suc zero)))))) v other = refl
typed_member (suc (suc (suc (suc (suc (suc (suc zero))))))) v other = refl
typed_member (suc (suc (suc (suc (suc (suc (suc (suc zero)))))))) v other = refl
typed_member (suc (suc (suc (suc (suc (suc (suc (suc (suc zero))))))))) v other = refl
typed_member (suc (suc (suc (suc (suc (suc (suc (suc (suc (suc zero)))))))))) v other = refl
typed_member (suc (suc (suc (suc (suc (suc (suc (suc (suc (suc (suc zero))))))))))) v other = refl
typed_member (suc (suc (suc (suc (suc (suc (suc (suc (suc (suc (suc (suc zero)))))))))))) v other = bytes_typed TextValue v
typed_member (suc (suc (suc (suc (suc (suc (suc (suc (suc (suc (suc (suc (suc zero))))))))))))) v other = bytes_typed DataValue v
typed_member (suc (suc (suc (suc (suc (suc (suc (suc (suc (suc (suc (suc (suc (suc zero)))))))))))))) v other = words_typed v
typed_member (suc (suc (suc (suc (suc (suc (suc (suc (suc (suc (suc (suc (suc (suc (suc zero))))))))))))))) v other = refl
typed_member (suc (suc (suc (suc (suc (suc (suc (suc (suc (suc (suc (suc (suc (suc (suc (suc zero)))))))))))))))) v other = struct_typed v
typed_member (suc (suc (suc (suc (suc (suc (suc (suc (suc (suc (suc (suc (suc (suc (suc (suc (suc zero))))))))))))))))) v other = refl
typed_member (suc (suc (suc (suc (suc (suc (suc (suc (suc (suc (suc (suc (suc (suc (suc (suc (suc (suc zero)))))))))))))))))) v other = absurd (other refl)
typed_member (suc (suc (suc (suc (suc (suc (suc (suc (suc (suc (suc (suc (suc (suc (suc (suc (suc (suc (suc m))))))))))))))))))) v other = refl

pub not_untyped : (r : Record) (m : ℕ) → which_of r ≡ Some m → (m ≡ 18 → ⊥) → is_untyped_default (value_said r) ≡ false
not_untyped r m which other = ap is_untyped_default (said_so r m m which refl) ∙ typed_member m (request_read_at 22 m r) other

pub no_member : (r : Record) → which_of r ≡ None → is_untyped_default (value_said r) ≡ false
no_member r which = ap (λ o. is_untyped_default (by_member (UnreadValue UnknownKind) value_kinds 22 o r)) which
