-- What a scanner says: reading from a place on comes to a value and the place past it, or to a fault, whatever stands around.
use Rattle.std.specs.Prelude.{◌≡◌, ℕ, ◌+◌, ◌<◌, ◌≤◌, List, [], ◌∷◌, length, Ok, Err, Result, slice_index}
use Rattle.std.specs.List.{between}
use Rattle.syntax.specs.declared.kinds.Fault.{Fault}
use Rattle.syntax.specs.declared.kinds.Literal.{Literal}
use Rattle.syntax.specs.declared.kinds.Kind.{Kind}
use Rattle.syntax.specs.declared.kinds.Kind.TheVariants.{Number}
use Rattle.syntax.specs.declared.kinds.Digits.{Digits}
use Rattle.syntax.specs.declared.kinds.Letters.TheVariants.{Plain}
use Rattle.syntax.specs.Value.{Value, Members, number, literal}
use Rattle.syntax.specs.Machine.{Rules, Frame, State, live, Role, as_name, chars, digits, spelled, deliver, value, name, colon, in_object}
use Rattle.syntax.specs.Steps.{Leads, Fails}
use Rattle.text.specs.declared.part.Part.{Part}
use Rattle.text.specs.Part.{part_of}

-- t is a part of the kind c that begins at i, and ends inside s past i
pub record Spans (c : Kind) (s : List ℕ) (i : ℕ) (t : Part) : Type 0 where
  pub kind : t.kind ≡ c
  pub start : t.start ≡ i
  pub past : i < t.end
  pub within : t.end ≤ length s

-- a number whose first byte, at i, brought it to g
abbrev pub Numbers : Digits → List ℕ → ℕ → Result Part Fault → Type 0
Numbers g s i (Ok t) = Spans Number s i t × ((r : Rules) (k : List Frame) → Leads r s (i + 1) (live (digits g i (between i (i + 1) s)) k) t.end (deliver (number i t.end (between i t.end s)) k))
Numbers g s i (Err f) = (r : Rules) (k : List Frame) → Fails r s (i + 1) (live (digits g i (between i (i + 1) s)) k) f

-- a literal whose first byte stands at i, and of which the bytes xs are to come
abbrev pub Words : List ℕ → Kind → List ℕ → ℕ → Result Part Fault → Type 0
Words xs c s i (Ok t) = Spans c s i t × ((r : Rules) (w : Literal) (k : List Frame) → Leads r s (i + 1) (spelled xs w i k (i + 1)) t.end (deliver (literal i t.end w) k))
Words xs c s i (Err f) = (r : Rules) (w : Literal) (k : List Frame) → Fails r s (i + 1) (spelled xs w i k (i + 1)) f

-- the place j of the quote that closes the string whose first byte stands at i
abbrev pub Strings : List ℕ → ℕ → Result ℕ Fault → Type 0
Strings s i (Ok j) = (i ≤ j) × (j < length s) × (slice_index s j ≡ 34) × ((r : Rules) (e : Role) (q : ℕ) (k : List Frame) → Leads r s i (live (chars Plain e q []) k) j (live (chars Plain e q (between i j s)) k))
Strings s i (Err f) = (r : Rules) (e : Role) (q : ℕ) (k : List Frame) → Fails r s i (live (chars Plain e q []) k) f

-- the place j of the quote that closes the name whose quote stands at i
abbrev pub Names : List ℕ → ℕ → Result ℕ Fault → Type 0
Names s i (Ok j) = (i < j) × (j < length s) × (slice_index s j ≡ 34) × ((r : Rules) (p : ℕ) (ms : Members) (k : List Frame) → Leads r s i (live (name p ms) k) j (live (chars Plain (as_name p ms) i (between (i + 1) j s)) k))
Names s i (Err f) = (r : Rules) (p : ℕ) (ms : Members) (k : List Frame) → Fails r s i (live (name p ms) k) f

-- the place j past the colon that comes from i on
abbrev pub Colons : List ℕ → ℕ → Result ℕ Fault → Type 0
Colons s i (Ok j) = (i < j) × (j ≤ length s) × ((r : Rules) (p : ℕ) (ms : Members) (q : ℕ) (n : List ℕ) (k : List Frame) → Leads r s i (live (colon p ms q n) k) j (live value (in_object p ms q n ∷ k)))
Colons s i (Err f) = (r : Rules) (p : ℕ) (ms : Members) (q : ℕ) (n : List ℕ) (k : List Frame) → Fails r s i (live (colon p ms q n) k) f

-- A value from i on, in the state that `from` makes of what stands open around it, so that d more brackets may open.
abbrev pub Reads : Rules → (List Frame → State) → ℕ → List ℕ → ℕ → Result Part Fault → Type 0
Reads r from d s i (Ok t) = (i < t.end) × (t.end ≤ length s) × ((v : Value) × (part_of v ≡ t) × ((k : List Frame) → length k + d ≡ 16 → Leads r s i (from k) t.end (deliver v k)))
Reads r from d s i (Err f) = (k : List Frame) → length k + d ≡ 16 → Fails r s i (from k) f
