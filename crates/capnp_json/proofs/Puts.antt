-- JSON one after another.
use Rattle.std.proofs.Common.{ℕ, ◌+◌, ◌-◌, ◌<◌, ◌≤◌, ◌≡◌, refl, List, [], ◌∷◌, ◌++◌, length, IfErr, Ok, Err, Result, OnOk, ap, append_assoc, append-nil, arith, length-append, sym, subst, ◌∙◌}
use Rattle.capnp_floats.specs.Laws.{OneDecimal}
use Rattle.capnp_floats.specs.Layout.{is_negative, layout, sign_text}
use Rattle.capnp_floats.specs.declared.width.Width.{Width}
use Rattle.capnp_floats.specs.declared.width.Width.TheVariants.{Float64}
use Rattle.capnp_json.specs.Pieces.{Byte, FloatNumber, IsNumberOf, IsSpelled, Out, Pieces, after, known_pieces, said}
use Rattle.capnp_json.specs.Steps.Puts.{Gives, IsMemory, IsPut, IsStopped, Leads, limit_of, made}
use Rattle.capnp_json.specs.declared.error.JsonError.{JsonError}
use Rattle.capnp_json.specs.declared.error.JsonError.TheVariants.{OutOfMemory, Read, TextNotUtf8, TooLarge, UntypedHasNoJson}
use Rattle.capnp_json.specs.declared.output.Output.{Output}
use lib.IntN.{ℤ}

-- ---- bytes of pieces ----

known_spelled : (bytes : List ℕ) → IsSpelled (known_pieces bytes) bytes
unfolding IsSpelled
known_spelled [] = refl
known_spelled (b ∷ bytes) = (bytes, known_spelled bytes, refl)

spelled_known : (known_bytes bytes : List ℕ) → IsSpelled (known_pieces known_bytes) bytes → bytes ≡ known_bytes
unfolding IsSpelled
spelled_known [] bytes h = h
spelled_known (b ∷ bs) bytes (rest, h, e) = e ∙ ap (λ (xs : List ℕ). b ∷ xs) (spelled_known bs rest h)

both_spelled : (a b : Pieces) (xs ys : List ℕ) → IsSpelled a xs → IsSpelled b ys → IsSpelled (a ++ b) (xs ++ ys)
unfolding IsSpelled
both_spelled [] b xs ys h k = subst (λ (zs : List ℕ). IsSpelled b (zs ++ ys)) (sym h) k
both_spelled (Byte c ∷ a) b xs ys (rest, h, e) k = (rest ++ ys, both_spelled a b rest ys h k, ap (λ (zs : List ℕ). zs ++ ys) e)
both_spelled (FloatNumber w bits ∷ a) b xs ys (text, rest, n, h, e) k = (text, rest ++ ys, n, both_spelled a b rest ys h k, ap (λ (zs : List ℕ). zs ++ ys) e ∙ append_assoc text rest ys)

-- two that stand one after the other
record Split (a b : Pieces) (zs : List ℕ) : Type 0 where
  left : List ℕ
  right : List ℕ
  first : IsSpelled a left
  second : IsSpelled b right
  is : zs ≡ left ++ right

split : (a b : Pieces) (zs : List ℕ) → IsSpelled (a ++ b) zs → Split a b zs
unfolding IsSpelled
split [] b zs h = record { left = []; right = zs; first = refl; second = h; is = refl }
split (Byte c ∷ a) b zs (rest, h, e) =
    let s = split a b rest h in
    record { left = c ∷ s.left; right = s.right; first = (s.left, s.first, refl); second = s.second; is = e ∙ ap (λ (xs : List ℕ). c ∷ xs) s.is }
split (FloatNumber w bits ∷ a) b zs (text, rest, n, h, e) =
    let s = split a b rest h in
    record { left = text ++ s.left; right = s.right; first = (text, s.left, n, s.first, refl); second = s.second; is = e ∙ (ap (λ (xs : List ℕ). text ++ xs) s.is ∙ sym (append_assoc text s.left s.right)) }

-- ---- puts ----

fits : (m l x n k : ℕ) → x ≤ l - m → n ≡ m + x → k ≡ l → m ≤ l → n ≤ k
fits m l x n k h e f g = omega (arith, h, e, f, g)

pub bytes_put : (old new : Output) (bytes : List ℕ) → made new ≡ made old ++ bytes → limit_of new ≡ limit_of old → length bytes ≤ limit_of old - length (made old) → IsPut old (said bytes) new
bytes_put old new bytes e l h = record {
  bytes = bytes;
  json = known_spelled bytes;
  only = λ b k. spelled_known bytes b k;
  behind = e;
  limit = l;
  within = fits (length (made old)) (limit_of old) (length bytes) (length (made new)) (limit_of new) h (ap length e ∙ length-append (made old) bytes) l;
}

pub bytes_too_long : (old : Output) (bytes : List ℕ) → limit_of old < length (made old) + length bytes → IsStopped old (said bytes) TooLarge
bytes_too_long old bytes h = λ b k. subst (λ (z : List ℕ). limit_of old < length (made old) + length z) (sym (spelled_known bytes b k)) h

pub nothing_put : (out : Output) → IsPut out (said []) out
nothing_put out = bytes_put out out [] (sym (append-nil (made out))) refl (omega arith)

pub same_number : OneDecimal → (w : Width) (bits : ℕ) (a b : List ℕ) → IsNumberOf w bits a → IsNumberOf w bits b → a ≡ b
same_number one w bits a b (d, k, h, e) (d', k', h', e') =
    let same = one w bits d d' k k' h h' in
    e ∙ (ap (λ (z : ℕ). sign_text (is_negative w bits) ++ layout Float64 z k) same.0 ∙ (ap (λ (z : ℤ). sign_text (is_negative w bits) ++ layout Float64 d' z) same.1 ∙ sym e'))

-- a float's number has one text, since it has one decimal
pub number_put : OneDecimal → (old new : Output) (w : Width) (bits : ℕ) (text : List ℕ) → IsNumberOf w bits text → made new ≡ made old ++ text → limit_of new ≡ limit_of old →
    (length (made old) ≤ limit_of old → length (made new) ≤ limit_of new) → IsPut old (Ok (FloatNumber w bits ∷ [])) new
unfolding IsSpelled
number_put one old new w bits text n e l h = record {
  bytes = text;
  json = (text, [], n, refl, sym (append-nil text));
  only = λ b (t, rest, m, k, is). is ∙ (ap (λ (zs : List ℕ). t ++ zs) k ∙ (append-nil t ∙ same_number one w bits t text m n));
  behind = e;
  limit = l;
  within = h;
}

pub number_too_long : OneDecimal → (old : Output) (w : Width) (bits : ℕ) (text : List ℕ) → IsNumberOf w bits text → limit_of old < length (made old) + length text → IsStopped old (Ok (FloatNumber w bits ∷ [])) TooLarge
unfolding IsSpelled
number_too_long one old w bits text n h = λ b (t, rest, m, k, is).
    subst (λ (z : List ℕ). limit_of old < length (made old) + length z) (sym (is ∙ (ap (λ (zs : List ℕ). t ++ zs) k ∙ (append-nil t ∙ same_number one w bits t text m n)))) h

-- ---- one after another ----

longer : (m l x y z : ℕ) → l < m + x → z ≡ x + y → l < m + z
longer m l x y z h e = omega (arith, h, e)

module _ (old mid new : Output) where
  pub put_after : (x y : Out) → IsPut old x mid → IsPut mid y new → IsPut old (after x y) new
  put_after (Ok a) (Ok b) h k = record {
    bytes = h.bytes ++ k.bytes;
    json = both_spelled a b h.bytes k.bytes h.json k.json;
    only = λ zs i. let s = split a b zs i in s.is ∙ (ap (λ (q : List ℕ). q ++ s.right) (h.only s.left s.first) ∙ ap (λ (q : List ℕ). h.bytes ++ q) (k.only s.right s.second));
    behind = k.behind ∙ (ap (λ (q : List ℕ). q ++ k.bytes) h.behind ∙ append_assoc (made old) h.bytes k.bytes);
    limit = k.limit ∙ h.limit;
    within = λ fit. k.within (h.within fit);
  }
  put_after (Ok a) (Err why) h k = absurd k.json
  put_after (Err why) y h k = absurd h.json

pub stop_first : (old : Output) (x y : Out) (why : JsonError) → IsStopped old x why → IsStopped old (after x y) why
stop_first old x y (Read kind) h = ap (λ (o : Out). after o y) h
stop_first old x y UntypedHasNoJson h = ap (λ (o : Out). after o y) h
stop_first old x y TextNotUtf8 h = ap (λ (o : Out). after o y) h
stop_first old x y OutOfMemory h = tt {0}
stop_first old (Ok a) (Ok b) TooLarge h = λ zs i.
    let s = split a b zs i in
    longer (length (made old)) (limit_of old) (length s.left) (length s.right) (length zs) (h s.left s.first) (ap length s.is ∙ length-append s.left s.right)
stop_first old (Ok a) (Err why) TooLarge h = λ zs i. absurd i
stop_first old (Err why) y TooLarge h = λ zs i. absurd i

further : (o l m b x y z x' : ℕ) → l < m + y → m ≡ o + b → z ≡ x + y → x ≡ b → l < o + z
further o l m b x y z x' h e f g = omega (arith, h, e, f, g)

pub stop_later : (old mid : Output) (x y : Out) (why : JsonError) → IsPut old x mid → IsStopped mid y why → IsStopped old (after x y) why
stop_later old mid (Err k) y why h i = absurd h.json
stop_later old mid (Ok a) y (Read kind) h i = ap (after (Ok a)) i
stop_later old mid (Ok a) y UntypedHasNoJson h i = ap (after (Ok a)) i
stop_later old mid (Ok a) y TextNotUtf8 h i = ap (after (Ok a)) i
stop_later old mid (Ok a) y OutOfMemory h i = tt {0}
stop_later old mid (Ok a) (Err k) TooLarge h i = λ zs j. absurd j
stop_later old mid (Ok a) (Ok b) TooLarge h i = λ zs j.
    let s = split a b zs j in
    further (length (made old)) (limit_of old) (length (made mid)) (length h.bytes) (length s.left) (length s.right) (length zs) 0
    (subst (λ (l : ℕ). l < length (made mid) + length s.right) h.limit (i s.right s.second)) (ap length h.behind ∙ length-append (made old) h.bytes) (ap length s.is ∙ length-append s.left s.right) (ap length (h.only s.left s.first))

-- what follows a JSON
pub then : (old mid : Output) (x y : Out) → IsPut old x mid → Leads old (after x y) mid y
then old mid x y h (Ok new) i = put_after old mid new x y h i
then old mid x y h (Err why) i = stop_later old mid x y why h i

-- what follows is another JSON
pub same : (out : Output) {x y : Out} → x ≡ y → Leads out x out y
same out e r h = subst (λ (o : Out). Gives out o r) (sym e) h

-- ---- known bytes ----

known_both : (a b : List ℕ) → known_pieces (a ++ b) ≡ known_pieces a ++ known_pieces b
known_both [] b = refl
known_both (x ∷ a) b = ap (λ (pieces : Pieces). Byte x ∷ pieces) (known_both a b)

pub said_both : (a b : List ℕ) → after (said a) (said b) ≡ said (a ++ b)
said_both a b = ap Ok (sym (known_both a b))

pub two_put : (old mid new : Output) (x y : List ℕ) → IsPut old (said x) mid → IsPut mid (said y) new → IsPut old (said (x ++ y)) new
two_put old mid new x y h k = subst (λ (o : Out). IsPut old o new) (said_both x y) (put_after old mid new (said x) (said y) h k)

pub two_first : (old : Output) (x y : List ℕ) (why : JsonError) → IsStopped old (said x) why → IsStopped old (said (x ++ y)) why
two_first old x y why h = subst (λ (o : Out). IsStopped old o why) (said_both x y) (stop_first old (said x) (said y) why h)

pub two_later : (old mid : Output) (x y : List ℕ) (why : JsonError) → IsPut old (said x) mid → IsStopped mid (said y) why → IsStopped old (said (x ++ y)) why
two_later old mid x y why h k = subst (λ (o : Out). IsStopped old o why) (said_both x y) (stop_later old mid (said x) (said y) why h k)

pub then_bytes : (old mid : Output) (x y : List ℕ) → IsPut old (said x) mid → Leads old (said (x ++ y)) mid (said y)
then_bytes old mid x y h (Ok new) i = two_put old mid new x y h i
then_bytes old mid x y h (Err why) i = two_later old mid x y why h i

-- ---- answers ----

pub ok_map : {T E P Q : Type 0} (r : Result T E) → (P → Q) → OnOk r P → OnOk r Q
ok_map (Ok x) f h = f h
ok_map (Err e) f h = tt {0}

pub err_map : {T E : Type 0} {F G : E → Type 0} (r : Result T E) → ((e : E) → F e → G e) → IfErr r F → IfErr r G
err_map (Ok x) f h = tt {0}
err_map (Err e) f h = f e h

-- where there was no memory nothing is said
pub memory_stopped : (old : Output) (o : Out) (why : JsonError) → IsMemory why → IsStopped old o why
memory_stopped old o why h = subst (λ (w : JsonError). IsStopped old o w) (sym h) (tt {0})

-- the answer of a part that is last
module _ {T : Type 0} (old mid new : Output) (whole rest : Out) (leads : Leads old whole mid rest) (r : Result T JsonError) where
  pub last_put : OnOk r (IsPut mid rest new) → OnOk r (IsPut old whole new)
  last_put h = ok_map r (λ i. leads (Ok new) i) h

  pub last_stopped : IfErr r (IsStopped mid rest) → IfErr r (IsStopped old whole)
  last_stopped h = err_map r (λ why i. leads (Err why) i) h

-- two parts, of three
pub then_two : (old mid more : Output) (x y z : List ℕ) → IsPut old (said x) mid → IsPut mid (said y) more → Leads old (said (x ++ (y ++ z))) more (said z)
then_two old mid more x y z h k r i = then_bytes old mid x (y ++ z) h r (then_bytes mid more y z k r i)

-- ---- numbers of floats ----

pub number_as : OneDecimal → (old new : Output) (w : Width) (bits : ℕ) (text : List ℕ) → IsNumberOf w bits text → IsPut old (said text) new → IsPut old (Ok (FloatNumber w bits ∷ [])) new
number_as one old new w bits text n h = number_put one old new w bits text n (h.behind ∙ ap (λ (z : List ℕ). made old ++ z) (sym (h.only text (known_spelled text)))) h.limit h.within

pub number_stopped : OneDecimal → (old : Output) (w : Width) (bits : ℕ) (text : List ℕ) → IsNumberOf w bits text → (why : JsonError) → IsStopped old (said text) why → IsStopped old (Ok (FloatNumber w bits ∷ [])) why
number_stopped one old w bits text n (Read kind) h = cc
number_stopped one old w bits text n UntypedHasNoJson h = cc
number_stopped one old w bits text n TextNotUtf8 h = cc
number_stopped one old w bits text n OutOfMemory h = tt {0}
number_stopped one old w bits text n TooLarge h = number_too_long one old w bits text n (h text (known_spelled text))
