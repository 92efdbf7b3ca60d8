-- The next of what follows one another in a source: messages, or texts.
use Rattle.std.specs.Prelude.{ℕ, List, Bool, true, false, Option}
use Rattle.capnp_device.specs.declared.error.ErrorKind.{ErrorKind}
use Rattle.capnp_streams.specs.Received.{IsNotReceived, IsOver, IsReceived}
use Rattle.capnp_streams.specs.Texts.{AreTextsOver, HasEndlessBlanks, IsTextReceived}

-- the next one was read
abbrev pub IsNextRead : (texts : Bool) → (left left' : Option (List ℕ)) → List ℕ → Type 0
IsNextRead false left left' bytes = IsReceived left left' bytes
IsNextRead true left left' bytes = IsTextReceived left left' bytes

-- there is none
abbrev pub IsNoneLeft : (texts : Bool) → (left left' : Option (List ℕ)) → Type 0
IsNoneLeft false left left' = IsOver left left'
IsNoneLeft true left left' = AreTextsOver left left'

-- what is left is none
abbrev pub IsNextRefused : (texts : Bool) → (left left' : Option (List ℕ)) → ErrorKind → Type 0
IsNextRefused false left left' kind = IsNotReceived left left' kind
IsNextRefused true left left' kind = HasEndlessBlanks left left' kind
