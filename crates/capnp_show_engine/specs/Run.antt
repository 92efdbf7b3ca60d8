-- What the program did for a task. What was opened is said by `opened`, of a path and what is so of the file, by `unopened`, and
-- by `not_opened`, of a path; what a file has left by `holds`, and its failures by `fails`; that the message's source is as it
-- was by `untouched`.
use Rattle.std.specs.Prelude.{ℕ, ◌≡◌, ◌⊎◌, List, Option, ⊤}
use Rattle.capnp_device.specs.Device.{HasFailed}
use Rattle.capnp_device.specs.declared.error.Error.{Error}
use Rattle.capnp_device.specs.declared.error.ErrorKind.{ErrorKind}
use Rattle.capnp_device.specs.declared.error.ErrorKind.TheVariants.{ReadFailed, WriteFailed}
use Rattle.capnp_schema.specs.Builtin.{builtin}
use Rattle.capnp_show_engine.specs.Command.{FileTask, ShowTask, built_in, in_file}
use Rattle.capnp_show_engine.specs.Show.{IsTextCutShort, IsOfMessage, IsShowRefused, IsShown}
use Rattle.capnp_show_engine.specs.WithSet.{HasReadFailed, IsRefusedWithSet, IsStructNamed}
use Rattle.capnp_show_engine.specs.declared.request.Request.{Request}

-- a text was shown
abbrev pub IsShownTask : {F : Type 0} → (opened : List ℕ → (F → F → Type 0) → Type 0) → (unopened : Type 0) → (holds : F → Option (List ℕ)) → ShowTask →
    (left left' written written' : Option (List ℕ)) → Type 0
IsShownTask opened unopened holds (built_in r) left left' written written' = unopened × IsShown builtin r.brand r.indented left left' written written'
IsShownTask opened unopened holds (in_file r) left left' written written' =
    opened r.path (λ f f'. IsStructNamed r.name (holds f) (holds f') (λ set b. IsShown set b r.indented left left' written written'))

-- a text under the built-in set was refused with a kind; by what the source had left before and after, what was written, and
-- the counts of failures of source and sink
abbrev pub IsRefusedBuiltIn : Request → ErrorKind → (left left' written written' : Option (List ℕ)) → (reads reads' writes writes' : ℕ) → Type 0
IsRefusedBuiltIn r kind left left' written written' reads reads' writes writes' =
    (IsOfMessage kind → IsShowRefused builtin r.brand r.indented kind left left')
    × (kind ≡ ReadFailed → HasFailed reads reads')
    × (kind ≡ WriteFailed → HasFailed writes writes')
    × (kind ≡ WriteFailed → IsTextCutShort builtin r.brand r.indented left left' written written')

-- a text under a file's set was refused; the message's source is as it was, or the set was read, is accepted and has the name
abbrev pub IsRefusedInFile : {F : Type 0} → (opened : List ℕ → (F → F → Type 0) → Type 0) → (not_opened : List ℕ → Type 0) → (holds : F → Option (List ℕ)) → (fails : F → ℕ) →
    (untouched : Type 0) → FileTask → Error → (left left' written written' : Option (List ℕ)) → (reads reads' writes writes' : ℕ) → Type 0
IsRefusedInFile opened not_opened holds fails untouched r e left left' written written' reads reads' writes writes' =
    (IsOfMessage e.kind → opened r.path (λ f f'. IsRefusedWithSet r.name r.indented e untouched (holds f) (holds f') left left'))
    × (e.kind ≡ ReadFailed → (not_opened r.path × untouched) ⊎ opened r.path (λ f f'. HasReadFailed untouched (fails f) (fails f') reads reads'))
    × (e.kind ≡ WriteFailed → HasFailed writes writes')
    × (e.kind ≡ WriteFailed → opened r.path (λ f f'. IsStructNamed r.name (holds f) (holds f') (λ set b. IsTextCutShort set b r.indented left left' written written')))
    × (untouched ⊎ opened r.path (λ f f'. IsStructNamed r.name (holds f) (holds f') (λ _ _. ⊤)))

-- a task was refused
abbrev pub IsRefusedTask : {F : Type 0} → (opened : List ℕ → (F → F → Type 0) → Type 0) → (not_opened : List ℕ → Type 0) → (unopened : Type 0) → (holds : F → Option (List ℕ)) →
    (fails : F → ℕ) → (untouched : Type 0) → ShowTask → Error → (left left' written written' : Option (List ℕ)) → (reads reads' writes writes' : ℕ) → Type 0
IsRefusedTask opened not_opened unopened holds fails untouched (built_in r) e left left' written written' reads reads' writes writes' =
    unopened × IsRefusedBuiltIn r e.kind left left' written written' reads reads' writes writes'
IsRefusedTask opened not_opened unopened holds fails untouched (in_file r) e left left' written written' reads reads' writes writes' =
    IsRefusedInFile opened not_opened holds fails untouched r e left left' written written' reads reads' writes writes'
