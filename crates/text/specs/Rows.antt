-- Names that were read in an object and are compared when it ends.
use Rattle.std.specs.Prelude.{◌≡◌, ℕ, ◌+◌, ◌*◌, ◌<◌, ◌≤◌, Bool, true, false, List, [], ◌∷◌, ◌++◌, length, drop, Some, None, Ok, Err, Option, Result}
use Rattle.syntax.specs.declared.kinds.Fault.{Fault}
use Rattle.syntax.specs.Value.{Value}
use Rattle.syntax.specs.Machine.{limits, Frame, Outcome, fault, repeated, run, live, value, deliver}
use Rattle.names.specs.declared.span.Span.{Span}
use Rattle.names.specs.Repeats.{earliest, Ascending}
use Rattle.text.specs.declared.part.Part.{Part}
use Rattle.text.specs.Part.{part_of}

-- where names are to be distinct, there is room for all the names that can come from i on, and places fit them
abbrev pub Room : Bool → List ℕ → ℕ → ℕ → Type 0
Room b s i free = b ≡ true → (length s ≤ i + 4 * free) × (length s < 4294967296)

-- one more row, for the name with its quotes at i and j, where names are to be distinct
abbrev pub noted : Bool → List Span → ℕ → ℕ → List Span
noted true ns i j = ns ++ record { start = i; end = j } ∷ []
noted false ns i j = ns

-- a repeated name, if there is one, is told before what comes of the rest
abbrev pub ahead : Option ℕ → Outcome → Outcome
ahead (Some p) o = fault (repeated p)
ahead None o = o

abbrev pub checked : List ℕ → List Span → Outcome → Outcome
checked s ns o = ahead (earliest s [] ns) o

-- An object from its brace at i on, whose names were read and not compared.
abbrev pub Gathers : Bool → ℕ → List ℕ → ℕ → List Span → Result Part Fault → Type 0
Gathers b d s i ns (Ok t) =
    (i < t.end) × (t.end ≤ length s)
    × ((v : Value) × (part_of v ≡ t) × ((k : List Frame) → length k + d ≡ 16 → run (limits b) (drop i s) i (live value k) ≡ checked s ns (run (limits b) (drop t.end s) t.end (deliver v k))))
Gathers b d s i ns (Err f) = (k : List Frame) → length k + d ≡ 16 → run (limits b) (drop i s) i (live value k) ≡ checked s ns (fault f)

-- and the same with the names that it leaves behind those that stood there before it
abbrev pub Leaves : Bool → ℕ → List ℕ → ℕ → List Span → List Span → Result Part Fault → Type 0
Leaves b d s i old new r = (ns : List Span) × (new ≡ old ++ ns) × Ascending ns × Gathers b d s i ns r
