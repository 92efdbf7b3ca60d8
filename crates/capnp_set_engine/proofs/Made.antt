-- What is made of a request, from what its parts answer.
use Rattle.std.proofs.Common.{IfErr, IfOk, Result, Ok, Err, Option, ◌<◌, length, take, ℕ, ◌+◌, ◌≡◌, ◌∙◌, ◌⊎◌, ap, arith, inl, inr, subst, sym, Bool, List}
use Rattle.std.specs.Io.KnownBytes.{Appends}
use Rattle.capnp_device.specs.declared.error.Error.{Error}
use Rattle.capnp_device.specs.declared.error.ErrorKind.{ErrorKind}
use Rattle.capnp_device.specs.declared.error.ErrorKind.TheVariants.{SizePastFormat, TooLarge, UnknownKind}
use Rattle.capnp_wire.specs.Standing.{struct_levels, struct_of}
use Rattle.capnp_wire.specs.declared.struct_reader.StructReader.{StructReader}
use Rattle.capnp_schema.specs.Accepted.{IsAccepted}
use Rattle.capnp_request.specs.RequestSet.{request_set}
use Rattle.capnp_schema.specs.Schema.{Schemas}
use Rattle.capnp_records.specs.Reading.{struct_record}
use Rattle.capnp_records.specs.Record.{Left, Record}
use Rattle.capnp_wire.specs.Tree.{StructTree}
use Rattle.capnp_request.specs.Conversion.{Note}
use Rattle.capnp_request.specs.Handles.{root_record}
use Rattle.capnp_request.specs.Order.{and_said, conversion_of}
use Rattle.capnp_request.specs.Reading.{request_said}
use Rattle.capnp_request.specs.Refusals.{IsRefusal}
use Rattle.capnp_request.specs.Terms.{Said}
use Rattle.capnp_request.specs.Within.{IsLargeConversion}
use Rattle.capnp_request.specs.declared.conversion.Converted.{Converted}
use Rattle.capnp_set_writer.specs.Limits.{HasFormless, IsPastFormat}
use Rattle.capnp_set_writer.specs.Writes.{IsWriteRefusal}
use Rattle.capnp_show_engine.specs.Command.{IsTold}
use Rattle.capnp_show_engine.specs.Show.{IsRead}
use Rattle.capnp_set_engine.specs.Convert.{HasManyBytes, HasNoSet, IsCutShort, IsLargeFrom, IsRequestUnread, IsRootRead, IsSetOf, IsUnwritten, IsWritten, conversion_from, request_record, set_in}

-- what each answer says, of what it said before
pub each_answer : {T E : Type 0} {P Q : T → Type 0} (r : Result T E) → ((a : T) → P a → Q a) → IfOk r P → IfOk r Q
each_answer (Ok x) f h = f x h
each_answer (Err e) f h = tt

pub each_refusal : {T E : Type 0} {P Q : E → Type 0} (r : Result T E) → ((e : E) → P e → Q e) → IfErr r P → IfErr r Q
each_refusal (Ok x) f h = tt
each_refusal (Err e) f h = f e h

-- what each refusal says, of two things that it said before
pub each_refusal_of : {T E : Type 0} {P O Q : E → Type 0} (r : Result T E) → ((e : E) → P e → O e → Q e) → IfErr r P → IfErr r O → IfErr r Q
each_refusal_of (Ok x) f h g = tt
each_refusal_of (Err e) f h g = f e h g

-- the record of a struct that has 63 levels left is that of a request's root
pub request_seen : (r : StructReader) (n : ℕ) → struct_levels r + 1 ≡ n → n ≡ 64 → root_record r ≡ request_record (struct_of r)
request_seen r n levels levels_are =
    let left : struct_levels r ≡ 63 = omega (arith, levels, levels_are) in
    ap (λ m. struct_record request_set (Left m) (struct_of r) 0) left

-- what is said of that record is what the request stands for
pub conversion_is : (strict : Bool) (r : Record) (root : StructTree) (x : Said (Schemas × List Note)) → r ≡ request_record root → and_said (request_said r) (λ t. conversion_of t strict) ≡ x → conversion_from strict root ≡ x
unfolding conversion_from
conversion_is strict r root x e h = ap (λ (y : Record). and_said (request_said y) (λ t. conversion_of t strict)) (sym e) ∙ h

-- why that record isn't converted within so many bytes, of the request
pub unread_within : (limit : ℕ) (strict : Bool) (bytes : List ℕ) (r : Record) (root : StructTree) (kind : ErrorKind) → r ≡ request_record root → IsRootRead bytes root → IsRefusal strict kind →
    (and_said (request_said r) (λ t. conversion_of t strict) ≡ Err kind) ⊎ ((kind ≡ TooLarge) × IsLargeConversion limit (request_said r) strict) →
    IsRequestUnread strict bytes kind ⊎ ((kind ≡ TooLarge) × HasManyBytes limit strict bytes)
unfolding IsLargeFrom
unread_within limit strict bytes r root kind e is refusal (inl h) = inl (inr (root, is, conversion_is strict r root (Err kind) e h, refusal))
unread_within limit strict bytes r root kind e is refusal (inr (k, large)) = inr (k, record { root = root; request = is; large = subst (λ (x : Record). IsLargeConversion limit (request_said x) strict) e large })

-- a request that isn't converted has no set
pub no_set_within : (limit : ℕ) (strict : Bool) (bytes : List ℕ) (e : Error) → IsRequestUnread strict bytes e.kind ⊎ ((e.kind ≡ TooLarge) × HasManyBytes limit strict bytes) →
    HasNoSet strict bytes e ⊎ ((e.kind ≡ TooLarge) × HasManyBytes limit strict bytes)
no_set_within limit strict bytes e (inl unread) = inl (inl unread)
no_set_within limit strict bytes e (inr large) = inr large

-- a set of a conversion's lists that is accepted and can't be written
pub unwritable : (c : Converted) (s : Schemas) (e : Error) → s ≡ set_in c → IsAccepted (set_in c) → IsWriteRefusal e.kind →
    (e.kind ≡ UnknownKind → HasFormless s) → (e.kind ≡ SizePastFormat → IsPastFormat s) → IsUnwritten c e
unwritable c s e same accepted cause formless past = inr (record {
  accepted = accepted;
  cause = cause;
  formless = λ k. subst HasFormless same (formless k);
  past = λ k. subst IsPastFormat same (past k);
})

-- the same bytes have no set
pub in_bytes : (strict : Bool) (a b : List ℕ) (e : Error) → a ≡ b → HasNoSet strict a e → HasNoSet strict b e
in_bytes strict a b e same h = subst (λ (x : List ℕ). HasNoSet strict x e) same h

-- the message of the bytes that were read was written whole, or a beginning of it
module _ (strict : Bool) (left left' written written' : Option (List ℕ)) (bytes seen message sent lines : List ℕ) (read : IsRead bytes left left') (same : seen ≡ bytes) (whole : sent ≡ message) (set : IsSetOf strict seen message lines) where
  pub all_written : (told told' : Option (List ℕ)) (failures failures' : ℕ) → Appends written written' sent → IsTold lines told told' failures failures' → IsWritten strict left left' written written' told told' failures failures'
  all_written told told' failures failures' wrote notes = record {
    bytes = bytes;
    read = read;
    message = message;
    lines = lines;
    set = subst (λ (b : List ℕ). IsSetOf strict b message lines) same set;
    wrote = subst (λ (b : List ℕ). Appends written written' b) whole wrote;
    notes = notes;
  }

  pub some_written : ((n : ℕ) × (n < length sent) × Appends written written' (take n sent)) → IsCutShort strict left left' written written'
  some_written begun = record {
    bytes = bytes;
    read = read;
    message = message;
    lines = lines;
    set = subst (λ (b : List ℕ). IsSetOf strict b message lines) same set;
    count = begun.0;
    proper = subst (λ (b : List ℕ). begun.0 < length b) whole begun.1;
    wrote = subst (λ (b : List ℕ). Appends written written' (take begun.0 b)) whole begun.2;
  }
