-- What the calls for fields of a known set answer is what the request's record has there.
use Rattle.std.proofs.Common.{ℕ, ◌≡◌, ◌∙◌, ap, inl, inr, sym}
use Rattle.capnp_records.specs.Part.{which_of}
use Rattle.capnp_records.specs.Record.{Record, Value}
use Rattle.capnp_known.specs.Known.{IsActive, read_at, record_in}
use Rattle.capnp_request.specs.Parts.{request_read_at}
use Rattle.capnp_request.specs.RequestSet.{request_set}
use Rattle.capnp_request.specs.Steps.Handles.{IsRequestFieldActive}
use Rattle.capnp_request.specs.Steps.Seen.{IsRequestRecord, record_seen}
use Rattle.capnp_request.specs.declared.handles.RequestRecord.{RequestRecord}

-- a handle's record is that of its sections, under the brand that it is known to have
pub same_record : (s : RequestRecord) (b : ℕ) → IsRequestRecord b s → record_in request_set b s.sections ≡ record_seen s
unfolding record_seen
same_record s b is = ap (λ n. record_in request_set n s.sections) (sym is.number)

pub active_in : (s : RequestRecord) (b i : ℕ) → IsRequestRecord b s → IsRequestFieldActive b i s → IsActive request_set b i s.sections
active_in s b i is (inl plain) = inl plain
active_in s b i is (inr which) = inr (ap which_of (same_record s b is) ∙ which)

pub there : (b i : ℕ) {r q : Record} {v : Value} → r ≡ q → v ≡ read_at request_set b i r → v ≡ request_read_at b i q
unfolding request_read_at read_at
there b i same h = h ∙ ap (read_at request_set b i) same
