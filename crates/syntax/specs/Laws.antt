-- What is claimed of reading.
use Rattle.std.specs.Prelude.{◌≡◌, ℕ, ◌+◌, ◌<◌, ◌≤◌, ◌⊎◌, List, [], ◌∷◌, ◌++◌, length, take, Ok, Err}
use Rattle.syntax.specs.declared.kinds.Cause.{Cause}
use Rattle.syntax.specs.declared.kinds.Cause.TheVariants.{TooLong, Malformed, TooDeep, RepeatedName}
use Rattle.syntax.specs.declared.kinds.Fault.{Fault}
use Rattle.syntax.specs.Value.{Value}
use Rattle.syntax.specs.Grammar.{Text, Begins}
use Rattle.syntax.specs.Limits.{breaks}
use Rattle.syntax.specs.Reading.{reading, longest}

-- the bytes s are within the length and a JSON text that spells v, which breaks no limit
pub record Lawful (s : List ℕ) (v : Value) : Type 0 where
  pub short : length s ≤ longest
  pub text : Text s v
  pub kept : breaks 0 v ≡ []

-- Reading accepts exactly the lawful texts, and answers the value that they spell.
abbrev pub Accepts : Type 0
Accepts = (s : List ℕ) (v : Value) → (Lawful s v → reading s ≡ Ok v) × (reading s ≡ Ok v → Lawful s v)

-- Two derivations spell one value.
abbrev pub OneValue : Type 0
OneValue = (s : List ℕ) (v w : Value) → Text s v → Text s w → v ≡ w

-- Some JSON text begins with the first p bytes, and s ends there and is none, or none begins with the first p + 1.
pub record BreaksOff (s : List ℕ) (p : ℕ) : Type 0 where
  pub begins : Begins (take p s)
  pub stops : ((p ≡ length s) × ((v : Value) → Text s v → ⊥)) ⊎ ((p < length s) × (Begins (take (p + 1) s) → ⊥))

-- the first of the faults, if there is one, stands at p or behind it
abbrev pub Late : ℕ → List Fault → Type 0
Late p [] = Unit {0}
Late p (f ∷ fs) = p ≤ f.place

-- no limit is broken before p by any JSON text that begins with the first p bytes
abbrev pub NoneBefore : List ℕ → ℕ → Type 0
NoneBefore s p = (q : List ℕ) (v : Value) → Text (take p s ++ q) v → Late p (breaks 0 v)

-- The byte at the fault's place belongs to the beginning of a JSON text, and in every JSON text that begins so the fault is the first limit broken.
pub record FirstBreak (s : List ℕ) (f : Fault) : Type 0 where
  pub inside : f.place < length s
  pub begins : Begins (take (f.place + 1) s)
  pub first : (q : List ℕ) (v : Value) → Text (take (f.place + 1) s ++ q) v → (rest : List Fault) × (breaks 0 v ≡ f ∷ rest)

-- what a fault says of the bytes
abbrev pub Says : Cause → List ℕ → ℕ → Type 0
Says TooLong s p = (longest < length s) × (p ≡ 0)
Says Malformed s p = (length s ≤ longest) × BreaksOff s p × NoneBefore s p
Says TooDeep s p = (length s ≤ longest) × FirstBreak s (record { cause = TooDeep; place = p })
Says RepeatedName s p = (length s ≤ longest) × FirstBreak s (record { cause = RepeatedName; place = p })

-- Every fault that is told says so, and only the one that is told.
abbrev pub Tells : Type 0
Tells = (s : List ℕ) (c : Cause) (p : ℕ) → (reading s ≡ Err (record { cause = c; place = p }) → Says c s p) × (Says c s p → reading s ≡ Err (record { cause = c; place = p }))
