-- Reading byte by byte: what may come next, and what stands open around it. Reading ends where a value is whole, or with a fault.
use Rattle.std.specs.Prelude.{ℕ, ◌+◌, Bool, true, false, cond, ◌&&◌, List, [], ◌∷◌, ◌++◌, length, Some, None, codes, Option, ◌==◌, nat_le, nat_lt}
use Rattle.syntax.specs.declared.kinds.Cause.TheVariants.{Malformed, TooDeep, RepeatedName}
use Rattle.syntax.specs.declared.kinds.Fault.{Fault}
use Rattle.syntax.specs.declared.kinds.Literal.{Literal}
use Rattle.syntax.specs.declared.kinds.Literal.TheVariants.{Null, False, True}
use Rattle.syntax.specs.declared.kinds.Digits.{Digits}
use Rattle.syntax.specs.declared.kinds.Digits.TheVariants.{Minus, Zero, Whole, Point, Fraction, Mark, Sign, Power}
use Rattle.syntax.specs.declared.kinds.Letters.{Letters}
use Rattle.syntax.specs.declared.kinds.Letters.TheVariants.{Plain, Escape, Four, Three, Two, One}
use Rattle.syntax.specs.Bytes.{white, digit, hex, escaped, mark, sign}
use Rattle.syntax.specs.Value.{Value, Items, Members, literal, number, string, array, object, none, end, more_items, more_members, has}

-- What is refused besides the grammar: a bracket inside so many others, a name behind such members.
pub record Rules : Type 0 where
  pub deep : ℕ → Bool
  pub twice : List ℕ → Members → Bool

-- the grammar alone
abbrev pub grammar : Rules
grammar = record { deep = λ d. false; twice = λ n ms. false }

-- an array or object may stand inside fifteen others, and not inside sixteen; where names are to be distinct, no object has a name twice
abbrev pub limits : Bool → Rules
limits distinct = record { deep = λ d. nat_le 16 d; twice = λ n ms. distinct && has n ms }

-- an open array with its items so far, or an open object with its members so far and the name that waits for its value
pub data Frame : Type 0 where
  in_array : ℕ → Items → Frame
  in_object : ℕ → Members → ℕ → List ℕ → Frame

-- a string is a value, or a name in the object that opened at a place and has some members
pub data Role : Type 0 where
  as_value : Role
  as_name : ℕ → Members → Role

-- What was read last, and so what may come next: a value; an item or the bracket of the array at a place; what goes on behind a value;
-- a name or the brace of the object at a place; a name; the colon behind a name; the rest of a string, a number or a literal.
pub data Mode : Type 0 where
  value : Mode
  first : ℕ → Mode
  after : Value → Mode
  name1 : ℕ → Mode
  name : ℕ → Members → Mode
  colon : ℕ → Members → ℕ → List ℕ → Mode
  chars : Letters → Role → ℕ → List ℕ → Mode
  digits : Digits → ℕ → List ℕ → Mode
  word : ℕ → List ℕ → Literal → ℕ → Mode

pub data Outcome : Type 0 where
  whole : Value → Outcome
  fault : Fault → Outcome

pub data State : Type 0 where
  live : Mode → List Frame → State
  over : Outcome → State

abbrev pub malformed : ℕ → Fault
malformed i = record { cause = Malformed; place = i }

abbrev pub too_deep : ℕ → Fault
too_deep i = record { cause = TooDeep; place = i }

abbrev pub repeated : ℕ → Fault
repeated i = record { cause = RepeatedName; place = i }

abbrev pub bad : ℕ → State
bad i = over (fault (malformed i))

-- a value is whole: the outermost ends the reading
abbrev pub deliver : Value → List Frame → State
deliver v [] = over (whole v)
deliver v (f ∷ k) = live (after v) (f ∷ k)

-- a byte behind a value, by what the value stands in
abbrev pub step_after : Value → List Frame → ℕ → ℕ → State
step_after v [] b i = over (whole v)
step_after v (in_array p vs ∷ k) b i =
    cond (white b) (live (after v) (in_array p vs ∷ k)) (cond (b == 44) (live value (in_array p (more_items vs v) ∷ k)) (cond (b == 93) (deliver (array p (i + 1) (more_items vs v)) k) (bad i)))
step_after v (in_object p ms q n ∷ k) b i =
    cond (white b) (live (after v) (in_object p ms q n ∷ k)) (cond (b == 44) (live (name p (more_members ms q n v)) k) (cond (b == 125) (deliver (object p (i + 1) (more_members ms q n v)) k) (bad i)))

-- a bracket that opens inside those of k
abbrev pub opened : Rules → List Frame → ℕ → Mode → State
opened r k i m = cond (r.deep (length k)) (over (fault (too_deep i))) (live m k)

-- the first byte of a value
abbrev pub step_first : Rules → List Frame → ℕ → ℕ → State
step_first r k b i =
    cond (b == 34) (live (chars Plain as_value i []) k)
    (cond (b == 91) (opened r k i (first i))
    (cond (b == 123) (opened r k i (name1 i))
    (cond (b == 45) (live (digits Minus i (b ∷ [])) k)
    (cond (b == 48) (live (digits Zero i (b ∷ [])) k)
    (cond (digit b) (live (digits Whole i (b ∷ [])) k)
    (cond (b == 110) (live (word 117 (codes "ll") Null i) k)
    (cond (b == 116) (live (word 114 (codes "ue") True i) k)
    (cond (b == 102) (live (word 97 (codes "lse") False i) k) (bad i)))))))))

abbrev pub step_name : ℕ → Members → List Frame → ℕ → ℕ → State
step_name p ms k b i = cond (b == 34) (live (chars Plain (as_name p ms) i []) k) (bad i)

-- the closing quote, at i, of the string with the bytes n that began at q
abbrev pub closed : Rules → Role → ℕ → List ℕ → List Frame → ℕ → State
closed r as_value q n k i = deliver (string q (i + 1) n) k
closed r (as_name p ms) q n k i = cond (r.twice n ms) (over (fault (repeated i))) (live (colon p ms q n) k)

-- how a number goes on with b, if it does
abbrev pub next_digits : Digits → ℕ → Option Digits
next_digits Minus b = cond (b == 48) (Some Zero) (cond (digit b) (Some Whole) None)
next_digits Zero b = cond (b == 46) (Some Point) (cond (mark b) (Some Mark) None)
next_digits Whole b = cond (digit b) (Some Whole) (cond (b == 46) (Some Point) (cond (mark b) (Some Mark) None))
next_digits Point b = cond (digit b) (Some Fraction) None
next_digits Fraction b = cond (digit b) (Some Fraction) (cond (mark b) (Some Mark) None)
next_digits Mark b = cond (digit b) (Some Power) (cond (sign b) (Some Sign) None)
next_digits Sign b = cond (digit b) (Some Power) None
next_digits Power b = cond (digit b) (Some Power) None

-- a number may end here
abbrev pub ended : Digits → Bool
ended Minus = false
ended Zero = true
ended Whole = true
ended Point = false
ended Fraction = true
ended Mark = false
ended Sign = false
ended Power = true

abbrev pub step_digits : Option Digits → Digits → ℕ → List ℕ → List Frame → ℕ → ℕ → State
step_digits (Some h) g p n k b i = live (digits h p (n ++ b ∷ [])) k
step_digits None g p n k b i = cond (ended g) (step_after (number p i n) k b i) (bad i)

-- how a string goes on with b, if it does; the closing quote is another matter
abbrev pub next_letters : Letters → ℕ → Option Letters
next_letters Plain b = cond (b == 92) (Some Escape) (cond (nat_lt b 32) None (Some Plain))
next_letters Escape b = cond (b == 117) (Some Four) (cond (escaped b) (Some Plain) None)
next_letters Four b = cond (hex b) (Some Three) None
next_letters Three b = cond (hex b) (Some Two) None
next_letters Two b = cond (hex b) (Some One) None
next_letters One b = cond (hex b) (Some Plain) None

abbrev pub plain : Letters → Bool
plain Plain = true
plain Escape = false
plain Four = false
plain Three = false
plain Two = false
plain One = false

abbrev pub step_chars : Option Letters → Role → ℕ → List ℕ → List Frame → ℕ → ℕ → State
step_chars (Some o) r q n k b i = live (chars o r q (n ++ b ∷ [])) k
step_chars None r q n k b i = bad i

-- a literal that began at p, of which the bytes of a list are to come up to the place i
abbrev pub spelled : List ℕ → Literal → ℕ → List Frame → ℕ → State
spelled [] w p k i = deliver (literal p i w) k
spelled (x ∷ xs) w p k i = live (word x xs w p) k

abbrev pub step_live : Rules → Mode → List Frame → ℕ → ℕ → State
step_live r value k b i = cond (white b) (live value k) (step_first r k b i)
step_live r (first p) k b i = cond (white b) (live (first p) k) (cond (b == 93) (deliver (array p (i + 1) none) k) (step_first r (in_array p none ∷ k) b i))
step_live r (after v) k b i = step_after v k b i
step_live r (name1 p) k b i = cond (white b) (live (name1 p) k) (cond (b == 125) (deliver (object p (i + 1) end) k) (step_name p end k b i))
step_live r (name p ms) k b i = cond (white b) (live (name p ms) k) (step_name p ms k b i)
step_live r (colon p ms q n) k b i = cond (white b) (live (colon p ms q n) k) (cond (b == 58) (live value (in_object p ms q n ∷ k)) (bad i))
step_live r (chars o e q n) k b i = cond (plain o && b == 34) (closed r e q n k i) (step_chars (next_letters o b) e q n k b i)
step_live r (digits g p n) k b i = step_digits (next_digits g b) g p n k b i
step_live r (word x xs w p) k b i = cond (b == x) (spelled xs w p k (i + 1)) (bad i)

-- the state past the byte b, which stands at i
abbrev pub step : Rules → State → ℕ → ℕ → State
step r (live m k) b i = step_live r m k b i
step r (over o) b i = over o

-- the bytes end at i behind the value v
abbrev pub ends : Value → List Frame → ℕ → Outcome
ends v [] i = whole v
ends v (f ∷ k) i = fault (malformed i)

-- the bytes end at i
abbrev pub finish : State → ℕ → Outcome
finish (over o) i = o
finish (live value k) i = fault (malformed i)
finish (live (first p) k) i = fault (malformed i)
finish (live (after v) k) i = ends v k i
finish (live (name1 p) k) i = fault (malformed i)
finish (live (name p ms) k) i = fault (malformed i)
finish (live (colon p ms q n) k) i = fault (malformed i)
finish (live (chars o e q n) k) i = fault (malformed i)
finish (live (digits g p n) k) i = cond (ended g) (ends (number p i n) k i) (fault (malformed i))
finish (live (word x xs w p) k) i = fault (malformed i)

-- reading the bytes of a list, the first of which stands at i
unfoldable pub run : Rules → List ℕ → ℕ → State → Outcome
run r [] i a = finish a i
run r (b ∷ bs) i a = run r bs (i + 1) (step r a b i)

abbrev pub start : State
start = live value []
