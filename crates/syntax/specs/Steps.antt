-- How reading goes on, place by place: the words in which the parts of the reader say what they did.
use Rattle.std.specs.Prelude.{◌≡◌, ℕ, List, [], ◌∷◌, drop}
use Rattle.syntax.specs.declared.kinds.Fault.{Fault}
use Rattle.syntax.specs.Machine.{Rules, State, live, over, run, fault, value, first, after, name1, name, colon, chars, digits, word}

-- reading s on from the place i in one state is reading it on from the place j in another
abbrev pub Leads : Rules → List ℕ → ℕ → State → ℕ → State → Type 0
Leads r s i a j b = run r (drop i s) i a ≡ run r (drop j s) j b

-- reading s on from the place i comes to a fault
abbrev pub Fails : Rules → List ℕ → ℕ → State → Fault → Type 0
Fails r s i a f = run r (drop i s) i a ≡ fault f

-- white space changes nothing there
abbrev pub Loose : State → Type 0
Loose (over o) = Unit {0}
Loose (live value k) = Unit {0}
Loose (live (first p) k) = Unit {0}
Loose (live (after v) []) = ⊥
Loose (live (after v) (f ∷ k)) = Unit {0}
Loose (live (name1 p) k) = Unit {0}
Loose (live (name p ms) k) = Unit {0}
Loose (live (colon p ms q n) k) = Unit {0}
Loose (live (chars o e q n) k) = ⊥
Loose (live (digits g p n) k) = ⊥
Loose (live (word x xs w p) k) = ⊥
