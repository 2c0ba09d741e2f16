-- A value that breaks no rule of r, where it stands inside d others; of members, behind those before them.
use Rattle.std.proofs.Common.{◌≡◌, ℕ, suc, false}
use Rattle.syntax.specs.Value.{Value, Items, Members, literal, number, string, array, object, none, item, end, member, more_members}
use Rattle.syntax.specs.Machine.{Rules}

abbrev mutual
  pub Allowed : Rules → ℕ → Value → Type 0
  Allowed r d (literal i j w) = Unit {0}
  Allowed r d (number i j n) = Unit {0}
  Allowed r d (string i j n) = Unit {0}
  Allowed r d (array i j vs) = (r.deep d ≡ false) × AllowedItems r (suc d) vs
  Allowed r d (object i j ms) = (r.deep d ≡ false) × AllowedMembers r (suc d) end ms

  pub AllowedItems : Rules → ℕ → Items → Type 0
  AllowedItems r d none = Unit {0}
  AllowedItems r d (item v vs) = Allowed r d v × AllowedItems r d vs

  pub AllowedMembers : Rules → ℕ → Members → Members → Type 0
  AllowedMembers r d before end = Unit {0}
  AllowedMembers r d before (member q n v ms) = (r.twice n before ≡ false) × Allowed r d v × AllowedMembers r d (more_members before q n v) ms
