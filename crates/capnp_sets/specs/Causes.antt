-- What a part of a set's record stands for: a value, or why it stands for none.
use Rattle.std.specs.Prelude.{◌≡◌, ◌⊎◌, Result, Ok, Err}
use Rattle.capnp_device.specs.declared.error.ErrorKind.{ErrorKind}

-- refusals whose causes stand there, at least one
pub data Causes : Type 0 where
  One : ErrorKind → Causes
  Both : Causes → Causes → Causes

abbrev pub SetRead : Type 0 → Type 0
SetRead A = Result A Causes

abbrev pub refused_read : {A : Type 0} → ErrorKind → SetRead A
refused_read kind = Err (One kind)

-- what stands for a part that may stand for none itself
unfoldable pub flat : {A : Type 0} → SetRead (SetRead A) → SetRead A
flat (Ok part) = part
flat (Err causes) = Err causes

-- a refusal is among those whose causes stand there
abbrev pub IsAmong : Causes → ErrorKind → Type 0
IsAmong (One other) kind = other ≡ kind
IsAmong (Both causes others) kind = IsAmong causes kind ⊎ IsAmong others kind

-- a refusal's cause stands in a part
unfoldable pub HasCause : {A : Type 0} → SetRead A → ErrorKind → Type 0
HasCause (Ok a) kind = ⊥
HasCause (Err causes) kind = IsAmong causes kind

-- a function of what a part stands for; where both parts have causes, all of them count
infixl 10 ◌<*>◌
unfoldable pub ◌<*>◌ : {A B : Type 0} → SetRead (A → B) → SetRead A → SetRead B
Ok f <*> Ok a = Ok (f a)
Ok f <*> Err causes = Err causes
Err causes <*> Ok a = Err causes
Err causes <*> Err others = Err (Both causes others)
