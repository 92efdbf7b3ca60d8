-- What a print has put of a struct, and what of it and of the groups around is still to come.
use Rattle.std.proofs.Common.{ℕ, ◌+◌, ◌≡◌, refl, List, [], ◌∷◌, ◌++◌, Bool, true, false, codes, Some, None, Ok, Err, ap, append_assoc, arith, sym, ◌∙◌}
use Rattle.capnp_wire.specs.declared.struct_reader.StructReader.{StructReader}
use Rattle.capnp_schema.specs.GroupWalks.{frames}
use Rattle.capnp_schema.specs.Schema.{Schemas, TypedField}
use Rattle.capnp_records.specs.Facts.Spelled.{said_both}
use Rattle.capnp_records.specs.Text.{Layout, Out, after, bracketed_text, deeper, item, line, more_text, said_text, separator}
use Rattle.capnp_dynamic_readers.specs.Steps.GroupTexts.{closing, name_text, shallower}
use Rattle.capnp_dynamic_readers.specs.Pieces.{Taken}
use Rattle.capnp_dynamic_readers.specs.Steps.Pieces.{IsPut, IsStopped, Leads}
use Rattle.capnp_dynamic_readers.specs.Steps.WalkSteps.{onward}
use Rattle.capnp_dynamic_readers.specs.Styles.{Texts}
use Rattle.capnp_dynamic_readers.specs.declared.walk.output.Stop.{Stop}
use Rattle.capnp_dynamic_readers.proofs.Streams.{first_stopped, same, then}

-- ---- the text that is to come ----

onward_frame : (x : Texts) (left : ℕ) (set : Schemas) (r : StructReader) (at : Layout) (first : Bool) (b i : ℕ) (rest : List (ℕ × ℕ)) →
    onward x left set r at first ((b, i) ∷ rest) ≡ after (more_text at first (x.items left set r at b i)) (after (said_text (closing at)) (onward x left set r (shallower at) false rest))
unfolding onward
onward_frame x left set r at first b i rest = refl

pub onward_end : (x : Texts) (left : ℕ) (set : Schemas) (r : StructReader) (at : Layout) (first : Bool) → onward x left set r at first [] ≡ said_text []
unfolding onward
onward_end x left set r at first = refl

after_assoc : (x y z : Out) → after (after x y) z ≡ after x (after y z)
after_assoc (Err k) y z = refl
after_assoc (Ok a) (Err k) z = refl
after_assoc (Ok a) (Ok b) (Err k) = refl
after_assoc (Ok a) (Ok b) (Ok c) = ap Ok (append_assoc a b c)

after_nothing : (o : Out) → after (said_text []) o ≡ o
after_nothing (Ok a) = refl
after_nothing (Err k) = refl

-- behind the last field of a frame stands its bracket
closing_text : (x : Texts) (left : ℕ) (set : Schemas) (r : StructReader) (at : Layout) (first : Bool) (b i : ℕ) (rest : List (ℕ × ℕ)) → x.items left set r at b i ≡ [] →
    onward x left set r at first ((b, i) ∷ rest) ≡ after (said_text (closing at)) (onward x left set r (shallower at) false rest)
closing_text x left set r at first b i rest none =
    onward_frame x left set r at first b i rest
    ∙ (ap (λ (xs : List Out). after (more_text at first xs) (after (said_text (closing at)) (onward x left set r (shallower at) false rest))) none
    ∙ after_nothing (after (said_text (closing at)) (onward x left set r (shallower at) false rest)))

-- out of the last field of a frame, with its bracket put
pub closes : (x : Texts) (left : ℕ) (set : Schemas) (r : StructReader) (at : Layout) (first : Bool) (b i : ℕ) (rest : List (ℕ × ℕ)) (old new : Taken) → x.items left set r at b i ≡ [] →
    IsPut old (said_text (closing at)) new → Leads old (onward x left set r at first ((b, i) ∷ rest)) new (onward x left set r (shallower at) false rest)
closes x left set r at first b i rest old new none put = λ z k.
    same old (closing_text x left set r at first b i rest none) z (then old new (said_text (closing at)) (onward x left set r (shallower at) false rest) put z k)

-- or not put
pub closes_not : (x : Texts) (left : ℕ) (set : Schemas) (r : StructReader) (at : Layout) (first : Bool) (b i : ℕ) (rest : List (ℕ × ℕ)) (old : Taken) (stop : Stop) → x.items left set r at b i ≡ [] →
    IsStopped old (said_text (closing at)) stop → IsStopped old (onward x left set r at first ((b, i) ∷ rest)) stop
closes_not x left set r at first b i rest old stop none h =
    same old (closing_text x left set r at first b i rest none) (Err stop) (first_stopped old (said_text (closing at)) (onward x left set r (shallower at) false rest) stop h)

-- past a field that has no item
pub skips : (x : Texts) (left : ℕ) (set : Schemas) (r : StructReader) (at : Layout) (first : Bool) (b i : ℕ) (rest : List (ℕ × ℕ)) (old : Taken) → x.items left set r at b i ≡ x.items left set r at b (i + 1) →
    Leads old (onward x left set r at first ((b, i) ∷ rest)) old (onward x left set r at first ((b, i + 1) ∷ rest))
skips x left set r at first b i rest old e = same old
    (onward_frame x left set r at first b i rest
    ∙ (ap (λ (xs : List Out). after (more_text at first xs) (after (said_text (closing at)) (onward x left set r (shallower at) false rest))) e
    ∙ sym (onward_frame x left set r at first b (i + 1) rest)))

-- the text of an item, between what stands before it and what follows
name_first : (at : Layout) (first : Bool) (f : TypedField) (text more behind : Out) →
    after (after (said_text (separator at first)) (after (item f text) more)) behind ≡ after (said_text (separator at first ++ (f.field.name ++ codes " = "))) (after text (after more behind))
name_first at first f text more behind =
    after_assoc (said_text (separator at first)) (after (item f text) more) behind
    ∙ (ap (after (said_text (separator at first))) (after_assoc (item f text) more behind ∙ after_assoc (said_text (f.field.name ++ codes " = ")) text (after more behind))
    ∙ (sym (after_assoc (said_text (separator at first)) (said_text (f.field.name ++ codes " = ")) (after text (after more behind)))
    ∙ ap (λ (o : Out). after o (after text (after more behind))) (said_both (separator at first) (f.field.name ++ codes " = "))))

-- what stands before an item's text is first
named_text : (x : Texts) (left : ℕ) (set : Schemas) (r : StructReader) (at : Layout) (first : Bool) (b i : ℕ) (rest : List (ℕ × ℕ)) (f : TypedField) (text : Out) →
    x.items left set r at b i ≡ item f text ∷ x.items left set r at b (i + 1) →
    onward x left set r at first ((b, i) ∷ rest) ≡ after (said_text (name_text at first f)) (after text (onward x left set r at false ((b, i + 1) ∷ rest)))
named_text x left set r at first b i rest f text e =
    onward_frame x left set r at first b i rest
    ∙ (ap (λ (xs : List Out). after (more_text at first xs) (after (said_text (closing at)) (onward x left set r (shallower at) false rest))) e
    ∙ (name_first at first f text (more_text at false (x.items left set r at b (i + 1))) (after (said_text (closing at)) (onward x left set r (shallower at) false rest))
    ∙ ap (λ (o : Out). after (said_text (name_text at first f)) (after text o)) (sym (onward_frame x left set r at false b (i + 1) rest))))

-- past what stands before an item's text
pub item_named : (x : Texts) (left : ℕ) (set : Schemas) (r : StructReader) (at : Layout) (first : Bool) (b i : ℕ) (rest : List (ℕ × ℕ)) (f : TypedField) (text : Out) (p0 p1 : Taken) →
    x.items left set r at b i ≡ item f text ∷ x.items left set r at b (i + 1) → IsPut p0 (said_text (name_text at first f)) p1 →
    Leads p0 (onward x left set r at first ((b, i) ∷ rest)) p1 (after text (onward x left set r at false ((b, i + 1) ∷ rest)))
item_named x left set r at first b i rest f text p0 p1 e name = λ z k.
    same p0 (named_text x left set r at first b i rest f text e) z (then p0 p1 (said_text (name_text at first f)) (after text (onward x left set r at false ((b, i + 1) ∷ rest))) name z k)

-- or where it was not put
pub item_unnamed : (x : Texts) (left : ℕ) (set : Schemas) (r : StructReader) (at : Layout) (first : Bool) (b i : ℕ) (rest : List (ℕ × ℕ)) (f : TypedField) (text : Out) (p : Taken) (stop : Stop) →
    x.items left set r at b i ≡ item f text ∷ x.items left set r at b (i + 1) → IsStopped p (said_text (name_text at first f)) stop →
    IsStopped p (onward x left set r at first ((b, i) ∷ rest)) stop
item_unnamed x left set r at first b i rest f text p stop e h =
    same p (named_text x left set r at first b i rest f text e) (Err stop) (first_stopped p (said_text (name_text at first f)) (after text (onward x left set r at false ((b, i + 1) ∷ rest))) stop h)

shallow_deep : (at : Layout) → shallower (deeper at) ≡ at
shallow_deep None = refl
shallow_deep (Some n) = ap Some (omega arith)

-- into a group, with its bracket put
pub group_in : (x : Texts) (left : ℕ) (set : Schemas) (r : StructReader) (at : Layout) (g : ℕ) (frames : List (ℕ × ℕ)) (items : List Out) → items ≡ x.items left set r (deeper at) g 0 →
    after (bracketed_text (codes "(") (codes ")") at items) (onward x left set r at false frames) ≡ after (said_text (codes "(")) (onward x left set r (deeper at) true ((g, 0) ∷ frames))
group_in x left set r at g frames items e =
    after_assoc (said_text (codes "(")) (after (more_text (deeper at) true items) (said_text (line at ++ codes ")"))) (onward x left set r at false frames)
    ∙ ap (after (said_text (codes "(")))
    (after_assoc (more_text (deeper at) true items) (said_text (line at ++ codes ")")) (onward x left set r at false frames)
    ∙ (ap (λ (xs : List Out). after (more_text (deeper at) true xs) (after (said_text (line at ++ codes ")")) (onward x left set r at false frames))) e
    ∙ (ap (λ (l : Layout). after (more_text (deeper at) true (x.items left set r (deeper at) g 0)) (after (said_text (line l ++ codes ")")) (onward x left set r l false frames))) (sym (shallow_deep at))
    ∙ sym (onward_frame x left set r (deeper at) true g 0 frames))))
