-- Why a text is not made, where it is made one part after another.
use Rattle.std.proofs.Common.{ℕ, Bool, ◌<◌, ◌-◌, List, [], ◌∷◌, ◌++◌, length, length-append, Result, Ok, Err, IfErr, IsErrAnd, ◌≡◌, ◌⊎◌, inl, inr, ⊎_elim, arith, refl, subst, sym}
use Rattle.std.proofs.lemmas.Result.{err_from_is_err_and}
use Rattle.capnp_device.specs.declared.error.Error.{Error}
use Rattle.capnp_device.specs.declared.error.ErrorKind.{ErrorKind}
use Rattle.capnp_device.specs.declared.error.ErrorKind.TheVariants.{TooLarge}
use Rattle.capnp_schema.specs.Annotated.{TypedAnnotation}
use Rattle.capnp_schema.specs.Schema.{Field, Schemas, default_of}
use Rattle.capnp_schema.specs.Types.{SchemaType}
use Rattle.capnp_records.specs.Text.{Out, after, said_text}
use Rattle.capnp_dynamic_readers.specs.Facts.Appended.{both, bytes_put}
use Rattle.capnp_dynamic_readers.specs.Pieces.{IsAppended, IsLonger}
use Rattle.capnp_structs.specs.Limits.{IsFault, IsLong, IsRefused, IsStopped}
use Rattle.capnp_structs.specs.Fields.{annotated_line}
use Rattle.capnp_structs.specs.Values.{annotations_text, default_text, or_words}
use Rattle.capnp_structs.specs.declared.values.Numbers.TheVariants.{Floats}
use Rattle.capnp_structs.proofs.Appended.{IsLeft, of_default}
use Rattle.capnp_structs.proofs.TextsThere.{HasText, said_there}

-- ---- texts that are too long ----

-- a text is, and one is that has it in front or behind
long_front : (limit : ℕ) (x y : Out) (old : List ℕ) → HasText y → IsLong limit old x → IsLong limit old (after x y)
long_front limit x y old (bytes, h) l = record {
  text = l.text ++ bytes;
  put = both x y old l.text (l.text ++ bytes) l.put (bytes, h, refl);
  long = omega (arith, l.long, length-append l.text bytes);
}

long_behind : (limit : ℕ) (x y : Out) (old mid : List ℕ) → IsAppended old x mid → IsLong limit mid y → IsLong limit old (after x y)
long_behind limit x y old mid before l = record { text = l.text; put = both x y old mid l.text before l.put; long = l.long }

-- a printer says so of the room that is left
long_printed : (limit : ℕ) (old : List ℕ) (o : Out) → IsLonger (limit - length old) o → IsLong limit old o ⊎ IsFault o
long_printed limit old (Ok pieces) (bytes, spelled, long) = inl (record { text = old ++ bytes; put = (bytes, spelled, refl); long = omega (arith, long, length-append old bytes) })
long_printed limit old (Err kind) h = inr (kind, refl)

-- ---- what stops a part stops the whole ----

-- the error of a call is handed on
pub handed_on : {B R : Type 0} (r : Result B Error) (e : Error) (limit : ℕ) (old : List ℕ) (o : Out) → IsErrAnd r (λ y. y ≡ e) → IsStopped limit old o R e.kind → IfErr r (λ y. IsStopped limit old o R y.kind)
handed_on {B} {R} r e limit old o h p =
    let q = err_from_is_err_and r h in
    subst (λ (x : Result B Error). IfErr x (λ y. IsStopped limit old o R y.kind)) (sym q.1) (subst (λ (y : Error). IsStopped limit old o R y.kind) (sym q.2) p)

-- and so is that of a last call
pub in_error : {T R S : Type 0} (r : Result T Error) (limit : ℕ) (old old' : List ℕ) (o o' : Out) → IfErr r (λ e. IsStopped limit old o R e.kind) → ((kind : ErrorKind) → IsStopped limit old o R kind → IsStopped limit old' o' S kind) →
    IfErr r (λ e. IsStopped limit old' o' S e.kind)
in_error (Ok x) limit old old' o o' h f = tt {0}
in_error (Err e) limit old old' o o' h f = f e.kind h

-- a string that was made is too long
pub made_long : {T : Type 0} (R : Type 0) (r : Result T Error) (limit : ℕ) (old new : List ℕ) (o : Out) → IsAppended old o new → IfErr r (λ e. (e.kind ≡ TooLarge) × (limit < length new)) → IfErr r (λ e. IsStopped limit old o R e.kind)
made_long R (Ok x) limit old new o put h = tt {0}
made_long R (Err e) limit old new o put (is, long) = λ some. (is, inl (record { text = new; put = put; long = long }))

module _ {R S : Type 0} (limit : ℕ) where
  pub stopped_by : (old old' : List ℕ) (o o' : Out) (kind : ErrorKind) → (IsLong limit old o → IsLong limit old' o') → (R → S) → IsStopped limit old o R kind → IsStopped limit old' o' S kind
  stopped_by old old' o o' kind f g h = λ some. ((h some).0, ⊎_elim (λ l. inl (f l)) (λ r. inr (g r)) (h some).1)

  pub stopped_front : (x y : Out) (old : List ℕ) (kind : ErrorKind) → HasText y → (R → S) → IsStopped limit old x R kind → IsStopped limit old (after x y) S kind
  stopped_front x y old kind there g h = stopped_by old old x (after x y) kind (long_front limit x y old there) g h

  pub stopped_behind : (x y : Out) (old mid : List ℕ) (kind : ErrorKind) → IsAppended old x mid → (R → S) → IsStopped limit mid y R kind → IsStopped limit old (after x y) S kind
  stopped_behind x y old mid kind before g h = stopped_by mid old y (after x y) kind (long_behind limit x y old mid before) g h

  -- behind what is known
  pub stopped_led : (a : List ℕ) (y : Out) (old mid : List ℕ) (kind : ErrorKind) → mid ≡ old ++ a → (R → S) → IsStopped limit mid y R kind → IsStopped limit old (after (said_text a) y) S kind
  stopped_led a y old mid kind e g h = stopped_behind (said_text a) y old mid kind (bytes_put a old mid e) g h

  -- in a loop
  pub stopped_left : (start : List ℕ) (whole x left : Out) (text : List ℕ) (kind : ErrorKind) → IsLeft start whole text (after x left) → HasText left → (R → S) → IsStopped limit text x R kind → IsStopped limit start whole S kind
  stopped_left start whole x left text kind before there g h = stopped_by text start x whole kind go g h
    where
      go : IsLong limit text x → IsLong limit start whole
      go long = let l : IsLong limit text (after x left) = long_front limit x left text there long in record { text = l.text; put = before l.text l.put; long = l.long }

-- ---- a string that is too long ----

module _ {R : Type 0} (limit : ℕ) where
  pub stopped_whole : (old new : List ℕ) (o : Out) (kind : ErrorKind) → IsAppended old o new → (kind ≡ TooLarge) × (limit < length new) → IsStopped limit old o R kind
  stopped_whole old new o kind put (is, long) = λ some. (is, inl (record { text = new; put = put; long = long }))

  pub stopped_loop : (start : List ℕ) (whole left : Out) (text : List ℕ) (kind : ErrorKind) → IsLeft start whole text left → HasText left → (kind ≡ TooLarge) × (limit < length text) → IsStopped limit start whole R kind
  stopped_loop start whole left text kind before (bytes, h) (is, long) = λ some. (is, inl (record { text = text ++ bytes; put = before (text ++ bytes) (bytes, h, refl); long = omega (arith, long, length-append text bytes) }))

-- ---- a default under other names ----

pub default_stopped : (limit : ℕ) (mid : List ℕ) (kind : ErrorKind) (q q' : Bool) (set set' : Schemas) (t t' : SchemaType) (f f' : Field) → q ≡ q' → set ≡ set' → t ≡ t' → f ≡ f' →
    IsStopped limit mid (default_text q set t (default_of f)) (IsRefused (Floats q) set t (default_of f)) kind → IsStopped limit mid (default_text q' set' t' (default_of f')) (IsRefused (Floats q') set' t' (default_of f')) kind
default_stopped limit mid kind q q' set set' t t' f f' same_floats same_set same_type same_field h =
    of_default (λ (p : Bool) (z : Schemas) (u : SchemaType) (g : Field). IsStopped limit mid (default_text p z u (default_of g)) (IsRefused (Floats p) z u (default_of g)) kind) q q' set set' t t' f f' same_floats same_set same_type same_field h

-- ---- the line of a struct's annotations ----

pub head_stopped : {R : Type 0} (limit : ℕ) (set : Schemas) (head : List ℕ) (xs : List TypedAnnotation) (old mid : List ℕ) (kind : ErrorKind) → (length xs ≡ 0 → ⊥) → mid ≡ old ++ head → IsStopped limit mid (annotations_text set xs) R kind →
    IsStopped limit old (annotated_line set head xs) R kind
head_stopped limit set head [] old mid kind some e h = absurd (some refl)
head_stopped limit set head (x ∷ xs) old mid kind some e h =
    stopped_led limit head (after (annotations_text set (x ∷ xs)) (said_text (10 ∷ []))) old mid kind e (λ r. r) (stopped_front limit (annotations_text set (x ∷ xs)) (said_text (10 ∷ [])) mid kind (said_there (10 ∷ [])) (λ r. r) h)

-- ---- values ----

-- a printer stopped at a text that is there
pub stopped_leaf : (limit : ℕ) (old : List ℕ) (o : Out) (kind : ErrorKind) → ((k : ErrorKind) → o ≡ Err k → ⊥) → (kind ≡ TooLarge → IsLonger (limit - length old) o) → kind ≡ TooLarge → IsStopped limit old o ⊥ kind
stopped_leaf limit old o kind there h is = λ some. (is, ⊎_elim (λ l. inl l) (λ f. absurd (there f.0 f.1)) (long_printed limit old o (h is)))

-- or at one that may be refused
pub stopped_printed : (limit : ℕ) (old words : List ℕ) (o : Out) (kind : ErrorKind) → (kind ≡ TooLarge → IsLonger (limit - length old) o) → kind ≡ TooLarge → IsStopped limit old (or_words o words) (IsFault o) kind
stopped_printed limit old words (Ok pieces) kind h is = λ some. (is, long_printed limit old (Ok pieces) (h is))
stopped_printed limit old words (Err k) kind h is = λ some. (is, inr (k, refl))
