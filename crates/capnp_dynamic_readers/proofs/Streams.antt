-- Texts one after another.
use Rattle.std.proofs.Common.{ℕ, zero, suc, ◌+◌, ◌*◌, ◌<◌, ◌≤◌, ◌≡◌, refl, List, [], ◌∷◌, ◌++◌, Bool, true, false, codes, length, length-append, Ok, Err, Some, None, Result, IfErr, OnOk, replicate, ap, sym, subst, ◌∙◌, append_assoc, append-nil, arith}
use Rattle.std.specs.Result.{IsErrAnd}
use Rattle.std.proofs.lemmas.Bool.{true≢false}
use Rattle.std.proofs.lemmas.List.{length-replicate}
use Rattle.capnp_device.specs.declared.error.ErrorKind.{ErrorKind}
use Rattle.capnp_records.specs.Facts.Spelled.{both_spelled, both_text, known_spelled, said_both, some_bytes, some_spelled, spelled_known}
use Rattle.capnp_records.specs.Text.{Layout, Out, Pieces, after, deeper, line, said_text, separator}
use Rattle.capnp_dynamic_readers.specs.Pieces.{Taken, Untold, Within}
use Rattle.capnp_dynamic_readers.specs.Steps.Pieces.{Gives, IsFull, IsPast, IsPut, IsStopped, Leads, followed}
use Rattle.capnp_dynamic_readers.specs.declared.walk.output.Stop.{Stop}
use Rattle.capnp_dynamic_readers.specs.declared.walk.output.Stop.TheVariants.{Full, Refused, TooLong}

pub deeper_is : (n : ℕ) → Some (n + 1) ≡ deeper (Some n)
deeper_is n = ap Some (omega arith)

further : (a : Taken) (x y : List ℕ) → followed a (x ++ y) ≡ followed (followed a x) y
further Untold x y = refl
further (Within limit xs) x y = ap (Within limit) (sym (append_assoc xs x y))

more_nil : (a : Taken) → followed a [] ≡ a
more_nil Untold = refl
more_nil (Within limit xs) = ap (Within limit) (append-nil xs)

-- ---- what was put ----

-- nothing
pub nothing_put : (a : Taken) → IsPut a (said_text []) a
nothing_put a = ([], known_spelled [], more_nil a, λ h. h)

-- one text and then another
pub then_put : (a b c : Taken) (x y : Out) → IsPut a x b → IsPut b y c → IsPut a (after x y) c
then_put a b c x y (xs, h, e, p) (ys, i, f, q) =
    (xs ++ ys, both_text x y xs ys h i, further a xs ys ∙ (ap (λ (z : Taken). followed z ys) e ∙ f), λ r. q (p r))

pub two_put : (a b c : Taken) (x y : List ℕ) → IsPut a (said_text x) b → IsPut b (said_text y) c → IsPut a (said_text (x ++ y)) c
two_put a b c x y h i = subst (λ (o : Out). IsPut a o c) (said_both x y) (then_put a b c (said_text x) (said_text y) h i)

pub three_put : (a b c d : Taken) (x y z : List ℕ) → IsPut a (said_text x) b → IsPut b (said_text y) c → IsPut c (said_text z) d → IsPut a (said_text (x ++ (y ++ z))) d
three_put a b c d x y z e f g = two_put a b d x (y ++ z) e (two_put b c d y z f g)

-- a text that is another
pub same_put : (a b : Taken) (x y : Out) → x ≡ y → IsPut a y b → IsPut a x b
same_put a b x y e h = subst (λ (o : Out). IsPut a o b) (sym e) h

-- ---- why a printer stopped ----

-- where there was no room nothing is said of the text
pub full_stopped : (a : Taken) (o : Out) (stop : Stop) → IsFull stop → IsStopped a o stop
full_stopped a o (Refused e) h = absurd h
full_stopped a o Full h = tt {0}
full_stopped a o TooLong h = absurd h

longer_sum : (l m n k : ℕ) → l < m + n → l < m + (n + k)
longer_sum l m n k h = omega (arith, h)

-- what is too long is so with what follows it
first_past : (a : Taken) (x y : Out) → IsPast a x → IsPast a (after x y)
first_past Untold x y h = tt {0}
first_past (Within limit old) (Err k) y h = tt {0}
first_past (Within limit old) (Ok x) (Err k) h = tt {0}
first_past (Within limit old) (Ok x) (Ok y) (bytes, spelled, long) = (
  bytes ++ some_bytes y,
  both_spelled x y bytes (some_bytes y) spelled (some_spelled y),
  subst (λ (n : ℕ). limit < length old + n) (sym (length-append bytes (some_bytes y))) (longer_sum limit (length old) (length bytes) (length (some_bytes y)) long),
)

-- why a text was not put is why it was not with what follows it
pub first_stopped : (a : Taken) (x y : Out) (stop : Stop) → IsStopped a x stop → IsStopped a (after x y) stop
first_stopped a x y (Refused e) h = λ other. ap (λ (o : Out). after o y) (h other)
first_stopped a x y Full h = tt {0}
first_stopped a x y TooLong h = first_past a x y h

-- what is too long after a text is so with it
later_past : (a b : Taken) (x : Pieces) (y : Out) → IsPut a (Ok x) b → IsPast b y → IsPast a (after (Ok x) y)
later_past Untold b x y p h = tt {0}
later_past (Within limit old) b x (Err k) p h = tt {0}
later_past (Within limit old) b x (Ok y) (xs, i, e, p) h = go (subst (λ (z : Taken). IsPast z (Ok y)) (sym e) h)
  where
    go : IsPast (Within limit (old ++ xs)) (Ok y) → IsPast (Within limit old) (Ok (x ++ y))
    go (ys, k, long) = (xs ++ ys, both_spelled x y xs ys i k, omega (arith, long, length-append old xs, length-append xs ys))

-- what follows a text
pub then : (old mid : Taken) (x y : Out) → IsPut old x mid → Leads old (after x y) mid y
then old mid x y h (Ok new) i = then_put old mid new x y h i
then old mid (Ok x) y h (Err (Refused e)) i = λ other. ap (after (Ok x)) (i other)
then old mid (Ok x) y h (Err Full) i = tt {0}
then old mid (Ok x) y h (Err TooLong) i = later_past old mid x y h i
then old mid (Err k) y (bytes, h, e, within) (Err stop) i = absurd h

-- what follows is another text
pub same : (a : Taken) {x y : Out} → x ≡ y → Leads a x a y
same a e r h = subst (λ (o : Out). Gives a o r) (sym e) h

-- why a call stopped, handed on as it is
pub handed_on : {T : Type 0} (r : Result T Stop) (P : Stop → Type 0) (stop : Stop) → IsErrAnd r (λ e. e ≡ stop) → P stop → IfErr r P
handed_on (Ok x) P stop e h = tt {0}
handed_on (Err x) P stop e h = subst P (sym e) h

-- ---- bytes that are known ----

known_refused : (bytes : List ℕ) (k : ErrorKind) → said_text bytes ≡ Err k → ⊥
known_refused bytes k e = cc

longer_than : (l m n k : ℕ) → l < m + n → n ≤ k → l < m + k
longer_than l m n k h i = omega (arith, h, i)

known_past : (a : Taken) (x y : List ℕ) → length x ≤ length y → IsPast a (said_text x) → IsPast a (said_text y)
known_past Untold x y le h = tt {0}
known_past (Within limit old) x y le (bytes, spelled, long) =
    (y, known_spelled y, longer_than limit (length old) (length x) (length y) (subst (λ (z : List ℕ). limit < length old + length z) (spelled_known x bytes spelled) long) le)

-- what stopped at some bytes stops at more
pub known_stopped : (a : Taken) (x y : List ℕ) (stop : Stop) → length x ≤ length y → IsStopped a (said_text x) stop → IsStopped a (said_text y) stop
known_stopped a x y (Refused e) le h = λ other. absurd (known_refused x e.kind (h other))
known_stopped a x y Full le h = tt {0}
known_stopped a x y TooLong le h = known_past a x y le h

-- and after others that were put
pub stopped_inside : (a b : Taken) (x y z : List ℕ) (stop : Stop) → length x + length y ≤ length z → IsPut a (said_text x) b → IsStopped b (said_text y) stop → IsStopped a (said_text z) stop
stopped_inside a b x y z stop le p h =
    known_stopped a (x ++ y) z stop (subst (λ (n : ℕ). n ≤ length z) (sym (length-append x y)) le)
    (subst (λ (o : Out). IsStopped a o stop) (said_both x y) (then a b (said_text x) (said_text y) p (Err stop) h))

-- three, of which the first, the second or the third stopped
module _ (a b c : Taken) (x y z : List ℕ) (stop : Stop) where
  three_length : length (x ++ (y ++ z)) ≡ length x + (length y + length z)
  three_length = omega (arith, length-append x (y ++ z), length-append y z)

  pub first_of_three : IsStopped a (said_text x) stop → IsStopped a (said_text (x ++ (y ++ z))) stop
  first_of_three h = known_stopped a x (x ++ (y ++ z)) stop (omega (arith, three_length)) h

  pub second_of_three : IsPut a (said_text x) b → IsStopped b (said_text y) stop → IsStopped a (said_text (x ++ (y ++ z))) stop
  second_of_three p h = stopped_inside a b x y (x ++ (y ++ z)) stop (omega (arith, three_length)) p h

  pub third_of_three : IsPut a (said_text x) b → IsPut b (said_text y) c → IsStopped c (said_text z) stop → IsStopped a (said_text (x ++ (y ++ z))) stop
  third_of_three p q h = stopped_inside a c (x ++ y) z (x ++ (y ++ z)) stop (omega (arith, three_length, length-append x y)) (two_put a b c x y p q) h

abbrev pub spaces : ℕ → List ℕ
spaces m = replicate m 32

abbrev pub two : List ℕ
two = 32 ∷ 32 ∷ []

two_end : (m : ℕ) → spaces m ++ two ≡ two ++ spaces m
two_end zero = refl
two_end (suc m) = ap (λ (xs : List ℕ). 32 ∷ xs) (two_end m)

-- two spaces more, after a line break and others
more_spaces : (n : ℕ) → (10 ∷ spaces (2 * n)) ++ two ≡ 10 ∷ spaces (2 * (n + 1))
more_spaces n =
    let e : 2 * (n + 1) ≡ suc (suc (2 * n)) = omega arith in
    ap (λ (ys : List ℕ). 10 ∷ ys) (two_end (2 * n) ∙ sym (ap spaces e))

pub two_more : (old mid new : Taken) (n : ℕ) → IsPut old (said_text (10 ∷ replicate (2 * n) 32)) mid → IsPut mid (said_text two) new → IsPut old (said_text (10 ∷ replicate (2 * (n + 1)) 32)) new
two_more old mid new n a b = subst (λ (z : List ℕ). IsPut old (said_text z) new) (more_spaces n) (two_put old mid new (10 ∷ spaces (2 * n)) two a b)

none_some : {m : ℕ} → None ≡ Some m → ⊥
none_some e = cc

-- on one line there are no breaks
pub no_line : (at : Layout) (a : Taken) → ((n : ℕ) → at ≡ Some n → ⊥) → IsPut a (said_text (line at)) a
no_line None a h = nothing_put a
no_line (Some n) a h = absurd (h n refl)

-- a line break, and the spaces after it
pub line_begun : (at : Layout) (n : ℕ) (a : Taken) (stop : Stop) → at ≡ Some n → IsStopped a (said_text (codes "\n")) stop → IsStopped a (said_text (line at)) stop
line_begun (Some m) n a stop e h = known_stopped a (codes "\n") (line (Some m)) stop (omega arith) h
line_begun None n a stop e h = absurd (none_some e)

pub line_inside : (at : Layout) (n step : ℕ) (a b : Taken) (stop : Stop) → at ≡ Some n → step < n → IsPut a (said_text (10 ∷ replicate (2 * step) 32)) b → IsStopped b (said_text two) stop →
    IsStopped a (said_text (line at)) stop
line_inside at n step a b stop e lt p h =
    subst (λ (z : Layout). IsStopped a (said_text (line z)) stop) (sym e)
    (stopped_inside a b (10 ∷ replicate (2 * step) 32) two (10 ∷ replicate (2 * n) 32) stop (omega (arith, lt, length-replicate {A = ℕ} (2 * step) 32, length-replicate {A = ℕ} (2 * n) 32)) p h)

-- what stands before an item that is not the first, on lines
pub separator_begun : (at : Layout) (n : ℕ) (first : Bool) (a : Taken) (stop : Stop) → first ≡ false → at ≡ Some n → IsStopped a (said_text (codes ",")) stop → IsStopped a (said_text (separator at first)) stop
separator_begun (Some m) n false a stop e f h = known_stopped a (codes ",") (separator (Some m) false) stop (omega arith) h
separator_begun (Some m) n true a stop e f h = absurd (true≢false e)
separator_begun None n q a stop e f h = absurd (none_some f)

pub below_stopped : {T : Type 0} (r : Result T Stop) (at : Layout) (n : ℕ) (first : Bool) (a b : Taken) → first ≡ false → at ≡ Some n → IsPut a (said_text (codes ",")) b → IfErr r (IsStopped b (said_text (line at))) →
    IfErr r (IsStopped a (said_text (separator at first)))
below_stopped (Ok x) (Some m) n false a b e f h i = tt {0}
below_stopped (Err stop) (Some m) n false a b e f h i =
    stopped_inside a b (codes ",") (line (Some m)) (codes "," ++ line (Some m)) stop (omega (arith, length-append (codes ",") (line (Some m)))) h i
below_stopped r (Some m) n true a b e f h i = absurd (true≢false e)
below_stopped r None n q a b e f h i = absurd (none_some f)

pub below_put : {T E : Type 0} (r : Result T E) (at : Layout) (n : ℕ) (first : Bool) (a b c : Taken) → first ≡ false → at ≡ Some n → IsPut a (said_text (codes ",")) b → OnOk r (IsPut b (said_text (line at)) c) →
    OnOk r (IsPut a (said_text (separator at first)) c)
below_put (Ok x) (Some m) n false a b c e f h i = two_put a b c (codes ",") (line (Some m)) h i
below_put (Err x) (Some m) n false a b c e f h i = tt {0}
below_put r (Some m) n true a b c e f h i = absurd (true≢false e)
below_put r None n q a b c e f h i = absurd (none_some f)
