-- Which limits a value breaks, in the order of the text: each bracket that opens inside sixteen others or more, and the closing quote of each name
-- that an earlier member of its object has.
use Rattle.std.specs.Prelude.{ℕ, suc, ◌+◌, cond, List, [], ◌∷◌, ◌++◌, length, nat_le}
use Rattle.syntax.specs.declared.kinds.Fault.{Fault}
use Rattle.syntax.specs.Value.{Value, Items, Members, literal, number, string, array, object, none, item, end, member, more_members, has}
use Rattle.syntax.specs.Machine.{too_deep, repeated}

-- a bracket at i inside d others
abbrev pub bracket : ℕ → ℕ → List Fault
bracket d i = cond (nat_le 16 d) (too_deep i ∷ []) []

-- a name with its opening quote at q, behind the members before it
abbrev pub again : Members → ℕ → List ℕ → List Fault
again before q n = cond (has n before) (repeated (q + 1 + length n) ∷ []) []

-- the breaks in a value that stands inside d others; of members, behind those before them
unfoldable mutual
  pub breaks : ℕ → Value → List Fault
  breaks d (literal i j w) = []
  breaks d (number i j n) = []
  breaks d (string i j n) = []
  breaks d (array i j vs) = bracket d i ++ breaks_items (suc d) vs
  breaks d (object i j ms) = bracket d i ++ breaks_members (suc d) end ms

  pub breaks_items : ℕ → Items → List Fault
  breaks_items d none = []
  breaks_items d (item v vs) = breaks d v ++ breaks_items d vs

  pub breaks_members : ℕ → Members → Members → List Fault
  breaks_members d before end = []
  breaks_members d before (member q n v ms) = again before q n ++ (breaks d v ++ breaks_members d (more_members before q n v) ms)
