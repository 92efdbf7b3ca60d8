-- What the code's recursion does to trees. The tests of each step are those of the record that the tree reads as.
use Rattle.std.specs.Prelude.{◌≡◌, ◌⊎◌, List, [], ◌∷◌, Option, Some, None, Ok, Err}
use Rattle.capnp_device.specs.declared.error.ErrorKind.{ErrorKind}
use Rattle.capnp_schema.specs.Types.{SchemaType}
use Rattle.capnp_schema.specs.Schema.{Schemas}
use Rattle.capnp_records.specs.Call.{PathStep, Reply, Refused}
use Rattle.capnp_records.specs.Step.{StepTarget, Found, walked_target, fault_of, CanRefuse}
use Rattle.capnp_records.specs.Writes.Stand.{Stand, seen_stand, entered_stand, left_stand, HasElement, IsStepWithin, StepRests}

abbrev pub TreeEnd : Type 1
TreeEnd = SchemaType → Stand → Reply → Stand → Type 0

abbrev pub IsTreeRefused : ErrorKind → Reply → Stand → Stand → Type 0
IsTreeRefused kind reply old new = (reply ≡ Refused kind) × (new ≡ old)

-- a step is refused for sizes or for memory, and only where something has to be filled or extended; nothing has changed
pub record TreeStops (set : Schemas) (t : SchemaType) (old : Stand) (step : PathStep) (x : StepTarget) (reply : Reply) (new : Stand) : Type 0 where
  pub kind : ErrorKind
  pub can : CanRefuse set x kind
  pub moves : StepRests set t old step → ⊥
  pub refused : IsTreeRefused kind reply old new

-- a step goes on into the part that get leaves, and gives it back
pub record TreeGoes (set : Schemas) (further : TreeEnd) (t : SchemaType) (old : Stand) (step : PathStep) (x : StepTarget) (reply : Reply) (new : Stand) : Type 0 where
  pub within : IsStepWithin set t old step
  pub there : HasElement set t old step
  pub inner : Stand
  pub goes_on : further x.type (entered_stand set t old step) reply inner
  pub rest : new ≡ left_stand set t old step inner

abbrev pub TreeEnters : Schemas → TreeEnd → SchemaType → Stand → PathStep → Option ErrorKind → StepTarget → Reply → Stand → Type 0
TreeEnters set further t old step (Some kind) x reply new = IsTreeRefused kind reply old new
TreeEnters set further t old step None x reply new = TreeStops set t old step x reply new ⊎ TreeGoes set further t old step x reply new

abbrev pub TreePasses : Schemas → TreeEnd → SchemaType → Stand → PathStep → Found → Reply → Stand → Type 0
TreePasses set further t old step (Err kind) reply new = IsTreeRefused kind reply old new
TreePasses set further t old step (Ok x) reply new = TreeEnters set further t old step (fault_of x.part) x reply new

abbrev pub TreeWalks : Schemas → TreeEnd → List PathStep → SchemaType → Stand → Reply → Stand → Type 0
TreeWalks set end [] t old reply new = end t old reply new
TreeWalks set end (s ∷ ss) t old reply new = TreePasses set (TreeWalks set end ss) t old s (walked_target set t (seen_stand set t old) s) reply new
