-- What the records of types mean.
use Rattle.std.specs.Prelude.{ℕ, ◌≤◌, ◌≡◌, ◌==◌, Bool, true, false, Option, Some, None, slice_get, Ok, Err}
use Rattle.std.specs.Option.{unwrap_or}
use Rattle.capnp_device.specs.declared.error.ErrorKind.TheVariants.{UnknownKind}
use Rattle.capnp_schema.specs.Types.{SchemaType}
use Rattle.capnp_records.specs.Record.{Record, Value}
use Rattle.capnp_request.specs.Reading.{type_kinds}
use Rattle.capnp_request.specs.Terms.{BrandTerm, MemberTerm, MoreScopes, NoScopes, Said, ScopeTerm, TypeTerm, UnreadBrand, UnreadType}
use Rattle.capnp_request.specs.Types.{float32, float64}
use Rattle.capnp_request.specs.Work.{MarkedType, Work}

-- what member m of a type says
abbrev pub type_kind : (Record → TypeTerm) → ℕ → Value → TypeTerm
type_kind inner m = unwrap_or (slice_get (type_kinds inner) m) (λ v. UnreadType UnknownKind)

-- a member that says all of a type
unfoldable pub IsSaidByMember : ℕ → SchemaType → Type 0
IsSaidByMember m t = (inner : Record → TypeTerm) (v : Value) → type_kind inner m v ≡ MemberTerm t

-- the type that a member says, or that it is 10, 11 or 14 and above, of which none is such a member
abbrev pub IsSaidByMemberOr : ℕ → Option SchemaType → Type 0
IsSaidByMemberOr m (Some t) = IsSaidByMember m t
IsSaidByMemberOr m None = (10 ≤ m) × (12 ≤ m → 14 ≤ m)

-- a float of one of two widths
abbrev pub float_type : (is_double strict : Bool) → Work MarkedType
float_type true strict = float64 strict
float_type false strict = float32 strict

-- what a brand says of the first scope of an id in it, none where it doesn't speak of one
abbrev pub says_or : Bool → ScopeTerm → Said (Option ScopeTerm) → Said (Option ScopeTerm)
says_or true says rest = Ok (Some says)
says_or false says rest = rest

abbrev pub scope_in : BrandTerm → ℕ → Said (Option ScopeTerm)
scope_in NoScopes id = Ok None
scope_in (MoreScopes scope says rest) id = says_or (scope == id) says (scope_in rest id)
scope_in (UnreadBrand kind) id = Err kind
