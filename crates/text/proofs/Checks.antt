-- Comparing names when an object ends comes to the same as comparing each where it is read.
use Rattle.std.proofs.Common.{◌≡◌, ℕ, ◌+◌, ◌<◌, ◌≤◌, Bool, true, false, cond, ◌&&◌, ◌||◌, List, [], ◌∷◌, ◌++◌, length, Some, None, Option, sym, refl, ap, ◌∙◌, append_assoc, arith}
use Rattle.std.proofs.lemmas.List.{append-nil}
use Rattle.std.proofs.ByRecursion.{All-push, All-weaker}
use Rattle.std.specs.List.{AllByRecursion, between}
use Rattle.syntax.specs.Bytes.{same}
use Rattle.syntax.specs.Value.{Value, Members, end, member, more_members, has}
use Rattle.syntax.specs.Machine.{Rules, State, Outcome, over, fault, repeated, run}
use Rattle.syntax.proofs.Runs.{run_over}
use Rattle.names.specs.declared.span.Span.{Span}
use Rattle.names.specs.Repeats.{bytes_of, known, earliest, Ascending}
use Rattle.names.proofs.Rows.{bytes_inside}
use Rattle.names.proofs.Order.{ascending_push}
use Rattle.text.specs.Rows.{noted, ahead, checked}

abbrev later : Option ℕ → Option ℕ → Option ℕ
later (Some p) q = Some p
later None q = q

-- the first repeat among names with one more at the end
earliest_push : (s : List ℕ) (bs ns : List Span) (n : Span) → earliest s bs (ns ++ n ∷ []) ≡ later (earliest s bs ns) (cond (known s n (bs ++ ns)) (Some n.end) None)
earliest_push s bs [] n = ap (λ l. cond (known s n l) (Some n.end) None) (sym (append-nil bs))
earliest_push s bs (m ∷ ns) n =
    split (known s m bs) _ (earliest s (bs ++ m ∷ []) ns) (cond (known s n (bs ++ m ∷ ns)) (Some n.end) None)
    (earliest_push s (bs ++ m ∷ []) ns n ∙ ap (λ l. later (earliest s (bs ++ m ∷ []) ns) (cond (known s n l) (Some n.end) None)) (append_assoc bs (m ∷ []) ns))
  where
    split : (t : Bool) (a b c : Option ℕ) → a ≡ later b c → cond t (Some m.end) a ≡ later (cond t (Some m.end) b) c
    split true a b c e = refl
    split false a b c e = e

-- a name that repeats one of the rows is told where it is read
checked_push : (s : List ℕ) (ns : List Span) (n : Span) (o : Outcome) → checked s (ns ++ n ∷ []) o ≡ checked s ns (cond (known s n ns) (fault (repeated n.end)) o)
checked_push s ns n o = ap (λ e. ahead e o) (earliest_push s [] ns n) ∙ split (earliest s [] ns) (known s n ns)
  where
    split : (e : Option ℕ) (t : Bool) → ahead (later e (cond t (Some n.end) None)) o ≡ ahead e (cond t (fault (repeated n.end)) o)
    split (Some p) t = refl
    split None true = refl
    split None false = refl

or_false : (t : Bool) → (t || false) ≡ t
or_false true = refl
or_false false = refl

or_assoc : (a b c : Bool) → (a || (b || c)) ≡ ((a || b) || c)
or_assoc true b c = refl
or_assoc false b c = refl

known_push : (s : List ℕ) (n : Span) (ns : List Span) (m : Span) → known s n (ns ++ m ∷ []) ≡ (known s n ns || same (bytes_of s m) (bytes_of s n))
known_push s n [] m = or_false (same (bytes_of s m) (bytes_of s n))
known_push s n (x ∷ ns) m = ap (λ t. same (bytes_of s x) (bytes_of s n) || t) (known_push s n ns m) ∙ or_assoc (same (bytes_of s x) (bytes_of s n)) (known s n ns) (same (bytes_of s m) (bytes_of s n))

has_push : (n : List ℕ) (ms : Members) (q : ℕ) (m : List ℕ) (v : Value) → has n (more_members ms q m v) ≡ (has n ms || same m n)
has_push n end q m v = or_false (same m n)
has_push n (member p x w ms) q m v = ap (λ t. same x n || t) (has_push n ms q m v) ∙ or_assoc (same x n) (has n ms) (same m n)

-- the rows have the names of the members, where names are to be distinct
abbrev pub Knows : Bool → List ℕ → List Span → Members → Type 0
Knows b s ns ms = (n : Span) → known s n ns ≡ (b && has (bytes_of s n) ms)

pub knows_none : (b : Bool) (s : List ℕ) → Knows b s [] end
knows_none true s n = refl
knows_none false s n = refl

module _ (s : List ℕ) (i j : ℕ) (below : i < j) (within : j ≤ length s) where
  -- the test at the closing quote
  pub absorb : (b : Bool) (ns : List Span) (ms : Members) (o : Outcome) → Knows b s ns ms → checked s ns (cond (b && has (between (i + 1) j s) ms) (fault (repeated j)) o) ≡ checked s (noted b ns i j) o
  absorb false ns ms o h = refl
  absorb true ns ms o h =
      let n : Span = record { start = i; end = j } in
      ap (λ t. checked s ns (cond t (fault (repeated j)) o)) (ap (λ x. has x ms) (sym (bytes_inside s n below within)) ∙ sym (h n)) ∙ sym (checked_push s ns n o)

  pub knows_more : (b : Bool) (ns : List Span) (ms : Members) (v : Value) → Knows b s ns ms → Knows b s (noted b ns i j) (more_members ms i (between (i + 1) j s) v)
  knows_more false ns ms v h n = h n
  knows_more true ns ms v h n =
      let m : Span = record { start = i; end = j } in
      known_push s n ns m ∙ ap (λ t. t || same (bytes_of s m) (bytes_of s n)) (h n) ∙ ap (λ x. has (bytes_of s n) ms || same x (bytes_of s n)) (bytes_inside s m below within) ∙ sym (has_push (bytes_of s n) ms i (between (i + 1) j s) v)

pub ascending_noted : (b : Bool) (ns : List Span) (i j : ℕ) → i < j → Ascending ns → AllByRecursion (λ m. m.end < i) ns → Ascending (noted b ns i j)
ascending_noted true ns i j h a l = ascending_push ns (record { start = i; end = j }) a h l
ascending_noted false ns i j h a l = a

pub ends_noted : (b : Bool) (ns : List Span) (i j e : ℕ) → i ≤ e → j < e → AllByRecursion (λ m. m.end < i) ns → AllByRecursion (λ m. m.end < e) (noted b ns i j)
ends_noted true ns i j e h l a = All-push (λ m. m.end < e) ns (record { start = i; end = j }) (All-weaker (λ m. m.end < i) (λ m. m.end < e) (λ m w. omega arith) ns a) l
ends_noted false ns i j e h l a = All-weaker (λ m. m.end < i) (λ m. m.end < e) (λ m w. omega arith) ns a

-- reading on from a state that may be a fault
pub run_cond : (r : Rules) (l : List ℕ) (i : ℕ) (t : Bool) (o : Outcome) (a : State) → run r l i (cond t (over o) a) ≡ cond t o (run r l i a)
run_cond r l i true o a = run_over r l i o
run_cond r l i false o a = refl
