-- What a conversion has named so far, and work that may name more or be refused.
use Rattle.std.specs.Prelude.{ℕ, List, [], ◌∷◌, Bool, true, false, Result, Ok, Err}
use Rattle.capnp_device.specs.declared.error.ErrorKind.{ErrorKind}
use Rattle.capnp_schema.specs.Types.{SchemaType, UIntType}
use Rattle.capnp_request.specs.Terms.{Said}

-- A type as a request says it, where floats are types of their own: what stands for it in the set, and whether the numbers
-- inside its lists are floats.
pub record MarkedType : Type 0 where
  pub type : SchemaType
  pub is_float : Bool

abbrev pub plain : SchemaType → MarkedType
plain t = record { type = t; is_float = false }

-- floats stand as the unsigned integers of their width
abbrev pub float_of : (bytes : ℕ) → MarkedType
float_of bytes = record { type = UIntType bytes; is_float = true }

-- What is bound to the parameters of a scope: so many scopes out, of so many parameters, the types of the first of these.
-- The others are untyped pointers, and the last type here is none.
pub record Bound : Type 0 where
  pub scope : ℕ
  pub distance : ℕ
  pub parameters : ℕ
  pub types : List MarkedType

-- a struct node with bindings, or the group of a field: with the bindings of its parent, an entry for itself
pub data Place : Type 0 where
  Whole : Place
  GroupOf : (parent field : ℕ) → Place

pub record Entry : Type 0 where
  pub node : ℕ
  pub bound : List Bound
  pub place : Place

-- what is noted of a field's type
pub record Seen : Type 0 where
  pub float32 : Bool
  pub float64 : Bool
  pub interface : Bool

abbrev pub nothing_seen : Seen
nothing_seen = record { float32 = false; float64 = false; interface = false }

-- the entries and the ids of the enums, each by its number, and what was seen of the type at hand
pub record Named : Type 0 where
  pub entries : List Entry
  pub enums : List ℕ
  pub seen : Seen

abbrev pub Work : Type 0 → Type 0
Work A = Named → Result (A × Named) ErrorKind

-- a result where a test holds, else a refusal
abbrev pub where_so : {A : Type 0} → Bool → ErrorKind → Result A ErrorKind → Result A ErrorKind
where_so true kind r = r
where_so false kind r = Err kind

abbrev pub where_else : {A : Type 0} → Bool → Result A ErrorKind → Result A ErrorKind → Result A ErrorKind
where_else true r other = r
where_else false r other = other

abbrev pub work_of : {A : Type 0} → A → Work A
work_of a s = Ok (a, s)

abbrev pub work_refused : {A : Type 0} → ErrorKind → Work A
work_refused kind s = Err kind

-- what is said, where it can be read
abbrev pub work_said : {A : Type 0} → Said A → Work A
work_said (Ok a) s = Ok (a, s)
work_said (Err kind) s = Err kind

abbrev pub work_continued : {A B : Type 0} → (A → Work B) → Result (A × Named) ErrorKind → Result (B × Named) ErrorKind
work_continued f (Ok p) = f p.0 p.1
work_continued f (Err kind) = Err kind

-- work, and then what is done with what it gives
infixr 10 ◌>>=◌
abbrev pub ◌>>=◌ : {A B : Type 0} → Work A → (A → Work B) → Work B
(w >>= f) s = work_continued f (w s)

-- work with what was seen in it alone; outside a type nothing is seen
abbrev pub seen_in : {A : Type 0} → Work A → Work (A × Seen)
seen_in w s = (w >>= (λ a t. Ok ((a, t.seen), record t { seen = nothing_seen }))) (record s { seen = nothing_seen })

-- the same where nothing is noted
abbrev pub work_unnoted : {A : Type 0} → Work A → Work A
work_unnoted w = seen_in w >>= (λ p. work_of p.0)

-- the same work for each of a list, from the first on
abbrev pub each : {A B : Type 0} → (A → Work B) → List A → Work (List B)
each f [] s = Ok ([], s)
each f (x ∷ xs) s = (f x >>= (λ y. each f xs >>= (λ ys. work_of (y ∷ ys)))) s

-- the same for what can be read of each
abbrev pub each_read : {A B : Type 0} → (A → Work B) → List (Said A) → Work (List B)
each_read f = each (λ x. work_said x >>= f)
