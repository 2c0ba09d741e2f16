-- Which values are allowed: all by the grammar, and by the limits those that break none.
use Rattle.std.proofs.Common.{◌≡◌, ℕ, suc, ◌≤◌, Bool, true, false, cond, leb, List, [], ◌∷◌, ◌++◌, refl, arith}
use Rattle.std.proofs.lemmas.Bool.{cond-false, leb-false, lt-leb}
use Rattle.syntax.specs.declared.kinds.Fault.{Fault}
use Rattle.syntax.specs.Value.{Value, Items, Members, literal, number, string, array, object, none, item, end, member, more_members, has}
use Rattle.syntax.specs.Machine.{grammar, limits, too_deep}
use Rattle.syntax.specs.Limits.{bracket, again, breaks, breaks_items, breaks_members}
use Rattle.syntax.proofs.Allowed.{Allowed, AllowedItems, AllowedMembers}

-- The grammar alone allows every value.
mutual
  pub allowed_grammar : (d : ℕ) (v : Value) → Allowed grammar d v
  allowed_grammar d (literal i j w) = tt
  allowed_grammar d (number i j n) = tt
  allowed_grammar d (string i j n) = tt
  allowed_grammar d (array i j vs) = (refl, allowed_grammar_items (suc d) vs)
  allowed_grammar d (object i j ms) = (refl, allowed_grammar_members (suc d) end ms)

  pub allowed_grammar_items : (d : ℕ) (vs : Items) → AllowedItems grammar d vs
  allowed_grammar_items d none = tt
  allowed_grammar_items d (item v vs) = (allowed_grammar d v, allowed_grammar_items d vs)

  pub allowed_grammar_members : (d : ℕ) (before ms : Members) → AllowedMembers grammar d before ms
  allowed_grammar_members d before end = tt
  allowed_grammar_members d before (member q n v ms) = (refl, allowed_grammar d v, allowed_grammar_members d (more_members before q n v) ms)

-- no fault in two lists, and in one that a test decides
nil_parts : (xs ys : List Fault) → xs ++ ys ≡ [] → (xs ≡ []) × (ys ≡ [])
nil_parts [] ys e = (refl, e)
nil_parts (x ∷ xs) ys e = let z : ◌≡◌ {A = ℕ} 0 1 = cc in absurd (omega arith)

nil_both : (xs ys : List Fault) → xs ≡ [] → ys ≡ [] → xs ++ ys ≡ []
nil_both xs ys e f = rw (e, f)

untold : (b : Bool) (f : Fault) → cond b (f ∷ []) [] ≡ [] → b ≡ false
untold true f e = let z : ◌≡◌ {A = ℕ} 0 1 = cc in absurd (omega arith)
untold false f e = refl

-- A value that breaks no limit is allowed by the limits,
mutual
  unfolding breaks breaks_items breaks_members

  pub kept_allowed : (d : ℕ) (v : Value) → breaks d v ≡ [] → Allowed (limits true) d v
  kept_allowed d (literal i j w) e = tt
  kept_allowed d (number i j n) e = tt
  kept_allowed d (string i j n) e = tt
  kept_allowed d (array i j vs) e = let p = nil_parts (bracket d i) (breaks_items (suc d) vs) e in (untold (leb 16 d) (too_deep i) p.0, kept_allowed_items (suc d) vs p.1)
  kept_allowed d (object i j ms) e = let p = nil_parts (bracket d i) (breaks_members (suc d) end ms) e in (untold (leb 16 d) (too_deep i) p.0, kept_allowed_members (suc d) end ms p.1)

  pub kept_allowed_items : (d : ℕ) (vs : Items) → breaks_items d vs ≡ [] → AllowedItems (limits true) d vs
  kept_allowed_items d none e = tt
  kept_allowed_items d (item v vs) e = let p = nil_parts (breaks d v) (breaks_items d vs) e in (kept_allowed d v p.0, kept_allowed_items d vs p.1)

  pub kept_allowed_members : (d : ℕ) (before ms : Members) → breaks_members d before ms ≡ [] → AllowedMembers (limits true) d before ms
  kept_allowed_members d before end e = tt
  kept_allowed_members d before (member q n v ms) e =
      let p = nil_parts (again before q n) (breaks d v ++ breaks_members d (more_members before q n v) ms) e in
      let u = nil_parts (breaks d v) (breaks_members d (more_members before q n v) ms) p.1 in
      (untold (has n before) _ p.0, kept_allowed d v u.0, kept_allowed_members d (more_members before q n v) ms u.1)

-- and the other way round.
mutual
  unfolding breaks breaks_items breaks_members

  pub allowed_kept : (d : ℕ) (v : Value) → Allowed (limits true) d v → breaks d v ≡ []
  allowed_kept d (literal i j w) a = refl
  allowed_kept d (number i j n) a = refl
  allowed_kept d (string i j n) a = refl
  allowed_kept d (array i j vs) a = nil_both (bracket d i) (breaks_items (suc d) vs) (cond-false _ _ _ a.0) (allowed_kept_items (suc d) vs a.1)
  allowed_kept d (object i j ms) a = nil_both (bracket d i) (breaks_members (suc d) end ms) (cond-false _ _ _ a.0) (allowed_kept_members (suc d) end ms a.1)

  pub allowed_kept_items : (d : ℕ) (vs : Items) → AllowedItems (limits true) d vs → breaks_items d vs ≡ []
  allowed_kept_items d none a = refl
  allowed_kept_items d (item v vs) a = nil_both (breaks d v) (breaks_items d vs) (allowed_kept d v a.0) (allowed_kept_items d vs a.1)

  pub allowed_kept_members : (d : ℕ) (before ms : Members) → AllowedMembers (limits true) d before ms → breaks_members d before ms ≡ []
  allowed_kept_members d before end a = refl
  allowed_kept_members d before (member q n v ms) a =
      nil_both (again before q n) (breaks d v ++ breaks_members d (more_members before q n v) ms) (cond-false _ _ _ a.0)
      (nil_both (breaks d v) (breaks_members d (more_members before q n v) ms) (allowed_kept d v a.1) (allowed_kept_members d (more_members before q n v) ms a.2))

-- What the limits allow they allow where names may be repeated.
mutual
  pub limits_less : (d : ℕ) (v : Value) → Allowed (limits true) d v → Allowed (limits false) d v
  limits_less d (literal i j w) a = tt
  limits_less d (number i j n) a = tt
  limits_less d (string i j n) a = tt
  limits_less d (array i j vs) a = (a.0, limits_less_items (suc d) vs a.1)
  limits_less d (object i j ms) a = (a.0, limits_less_members (suc d) end ms a.1)

  pub limits_less_items : (d : ℕ) (vs : Items) → AllowedItems (limits true) d vs → AllowedItems (limits false) d vs
  limits_less_items d none a = tt
  limits_less_items d (item v vs) a = (limits_less d v a.0, limits_less_items d vs a.1)

  pub limits_less_members : (d : ℕ) (before ms : Members) → AllowedMembers (limits true) d before ms → AllowedMembers (limits false) d before ms
  limits_less_members d before end a = tt
  limits_less_members d before (member q n v ms) a = (refl, limits_less d v a.1, limits_less_members d (more_members before q n v) ms a.2)

less_deep : (d e : ℕ) → e ≤ d → leb 16 d ≡ false → leb 16 e ≡ false
less_deep d e h l = lt-leb 16 e (omega (arith, leb-false 16 d l))

-- What they allow inside d brackets they allow inside fewer.
mutual
  pub shallower : (b : Bool) (d e : ℕ) (v : Value) → e ≤ d → Allowed (limits b) d v → Allowed (limits b) e v
  shallower b d e (literal i j w) h a = tt
  shallower b d e (number i j n) h a = tt
  shallower b d e (string i j n) h a = tt
  shallower b d e (array i j vs) h a = (less_deep d e h a.0, shallower_items b (suc d) (suc e) vs (omega arith) a.1)
  shallower b d e (object i j ms) h a = (less_deep d e h a.0, shallower_members b (suc d) (suc e) end ms (omega arith) a.1)

  pub shallower_items : (b : Bool) (d e : ℕ) (vs : Items) → e ≤ d → AllowedItems (limits b) d vs → AllowedItems (limits b) e vs
  shallower_items b d e none h a = tt
  shallower_items b d e (item v vs) h a = (shallower b d e v h a.0, shallower_items b d e vs h a.1)

  pub shallower_members : (b : Bool) (d e : ℕ) (before ms : Members) → e ≤ d → AllowedMembers (limits b) d before ms → AllowedMembers (limits b) e before ms
  shallower_members b d e before end h a = tt
  shallower_members b d e before (member q n v ms) h a = (a.0, shallower b d e v h a.1, shallower_members b d e (more_members before q n v) ms h a.2)
