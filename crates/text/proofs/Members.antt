-- The members of an object, with their names left to compare.
use Rattle.std.proofs.Common.{◌≡◌, ℕ, ◌+◌, ◌-◌, ◌*◌, ◌<◌, ◌≤◌, Bool, true, false, cond, ◌&&◌, List, ◌∷◌, length, get_or, drop, [], ◌++◌, append_assoc, length-append, Some, None, Ok, Err, Result, sym, refl, ap, ◌∙◌, arith}
use Rattle.std.specs.List.{AllByRecursion, between}
use Rattle.syntax.specs.declared.kinds.Fault.{Fault}
use Rattle.syntax.specs.Bytes.{white, gap}
use Rattle.syntax.specs.Value.{Value, Members, object, end, more_members, has}
use Rattle.syntax.specs.Machine.{limits, run, State, Frame, in_object, live, value, after, name1, name, colon, chars, as_name, malformed, repeated, fault, over, deliver}
use Rattle.syntax.specs.declared.kinds.Kind.TheVariants.{Object}
use Rattle.syntax.specs.Steps.{Leads}
use Rattle.syntax.specs.declared.kinds.Letters.TheVariants.{Plain}
use Rattle.syntax.proofs.Runs.{at_byte}
use Rattle.names.specs.declared.span.Span.{Span}
use Rattle.names.specs.Repeats.{Ascending, FirstRepeat}
use Rattle.names.proofs.Order.{in_order}
use Rattle.text.specs.declared.part.Part.{Part}
use Rattle.text.specs.Scans.{Names, Colons, Reads}
use Rattle.text.specs.Rows.{noted, ahead, checked, Gathers}
use Rattle.text.proofs.Scans.{over_gap}
use Rattle.text.proofs.Nests.{member_out}
use Rattle.text.proofs.Checks.{Knows, knows_none, absorb, knows_more, ascending_noted, ends_noted, run_cond}

-- reading from the brace at p on is reading from i on, once the rows are compared
abbrev pub Goes : Bool → ℕ → List ℕ → ℕ → List Span → ℕ → (List Frame → State) → Type 0
Goes b d s p ns i a = (k : List Frame) → length k + d ≡ 16 → run (limits b) (drop p s) p (live value k) ≡ checked s ns (run (limits b) (drop i s) i (a k))

-- the object around the value of a member
abbrev pub inside : List ℕ → ℕ → Members → ℕ → ℕ → Frame
inside s p ms i j = in_object p ms i (between (i + 1) j s)

-- at the place i of a name, with the names ns of the members so far, and room for so many more
pub record SoFar (b : Bool) (d : ℕ) (s : List ℕ) (p i : ℕ) (ns : List Span) (free : ℕ) : Type 0 where
  pub past : p < i
  pub within : i ≤ length s
  pub solid : i < length s → white (get_or s i 0) ≡ false
  pub room : b ≡ true → length s < i + 4 * free
  pub ends : AllByRecursion (λ m. m.end < i) ns
  pub up : Ascending ns
  pub ms : Members
  pub knows : Knows b s ns ms
  pub reads : Goes b d s p ns i (live (name p ms))

-- the same, where those names stand behind others
pub record Gathering (b : Bool) (d : ℕ) (s : List ℕ) (p i capacity : ℕ) (old now : List Span) : Type 0 where
  pub names : List Span
  pub behind : now ≡ old ++ names
  pub so_far : SoFar b d s p i names (capacity - length now)

-- past the name from i to j, for which there is a row
pub record Named (b : Bool) (d : ℕ) (s : List ℕ) (p i j : ℕ) (ns : List Span) : Type 0 where
  pub ends : (e : ℕ) → i ≤ e → j < e → AllByRecursion (λ m. m.end < e) ns
  pub up : Ascending ns
  pub ms : Members
  pub knows : (v : Value) → Knows b s ns (more_members ms i (between (i + 1) j s) v)
  pub reads : Goes b d s p ns (j + 1) (live (colon p ms i (between (i + 1) j s)))

pub name_read : (b : Bool) (d : ℕ) (s : List ℕ) (p i j : ℕ) (ns : List Span) (free : ℕ) → SoFar b d s p i ns free → Names s i (Ok j) → Named b d s p i j (noted b ns i j)
name_read b d s p i j ns free h n = record {
  ends = λ x l m. ends_noted b ns i j x l m h.ends;
  up = ascending_noted b ns i j n.0 h.up h.ends;
  ms = h.ms;
  knows = λ v. knows_more s i j n.0 (omega (arith, n.1)) b ns h.ms v h.knows;
  reads = λ k l. h.reads k l ∙ ap (checked s ns) (n.3 (limits b) p h.ms k ∙ closes k) ∙ absorb s i j n.0 (omega (arith, n.1)) b ns h.ms _ h.knows;
}
  where
    closes : (k : List Frame) → run (limits b) (drop j s) j (live (chars Plain (as_name p h.ms) i (between (i + 1) j s)) k) ≡ cond (b && has (between (i + 1) j s) h.ms) (fault (repeated j)) (run (limits b) (drop (j + 1) s) (j + 1) (live (colon p h.ms i (between (i + 1) j s)) k))
    closes k = at_byte (limits b) s j 34 _ (cond (b && has (between (i + 1) j s) h.ms) (over (fault (repeated j))) (live (colon p h.ms i (between (i + 1) j s)) k)) n.1 n.2 refl ∙ run_cond (limits b) (drop (j + 1) s) (j + 1) (b && has (between (i + 1) j s) h.ms) (fault (repeated j)) (live (colon p h.ms i (between (i + 1) j s)) k)

module _ (b : Bool) (d : ℕ) (s : List ℕ) (p i j : ℕ) (ns : List Span) (h : Named b d s p i j ns) where
  -- past the colon and the white space behind it
  pub colon_read : (c a : ℕ) → Colons s (j + 1) (Ok c) → a ≡ gap s c → Goes b d s p ns a (λ k. live value (inside s p h.ms i j ∷ k))
  colon_read c a n e = λ k l. h.reads k l ∙ ap (checked s ns) (n.2 (limits b) p h.ms i (between (i + 1) j s) k ∙ over_gap (limits b) s c a (live value (inside s p h.ms i j ∷ k)) tt e)

  pub colon_out : (f : Fault) → Colons s (j + 1) (Err f) → Gathers b d s p ns (Err f)
  colon_out f n = λ k l. h.reads k l ∙ ap (checked s ns) (n (limits b) p h.ms i (between (i + 1) j s) k)

  pub value_out : (a : ℕ) (f : Fault) → 0 < d → Goes b d s p ns a (λ k. live value (inside s p h.ms i j ∷ k)) → Reads (limits b) (live value) (d - 1) s a (Err f) → Gathers b d s p ns (Err f)
  value_out a f m g r = λ k l. g k l ∙ ap (checked s ns) (r (inside s p h.ms i j ∷ k) (omega arith))

  -- past the value and the white space behind it
  pub value_read : (a : ℕ) (t : Part) (e : ℕ) → 0 < d → Goes b d s p ns a (λ k. live value (inside s p h.ms i j ∷ k)) → (r : Reads (limits b) (live value) (d - 1) s a (Ok t)) → e ≡ gap s t.end → Goes b d s p ns e (λ k. live (after r.2.0) (inside s p h.ms i j ∷ k))
  value_read a t e m g r q = λ k l. g k l ∙ ap (checked s ns) (r.2.2 (inside s p h.ms i j ∷ k) (omega arith) ∙ over_gap (limits b) s t.end e (live (after r.2.0) (inside s p h.ms i j ∷ k)) tt q)

  -- the brace that ends the object, a comma with the next name behind it, or neither
  module _ (v : Value) (e : ℕ) (g : Goes b d s p ns e (λ k. live (after v) (inside s p h.ms i j ∷ k))) where
    pub closed : p < e → e < length s → get_or s e 0 ≡ 125 → Gathers b d s p ns (Ok (record { kind = Object; start = p; end = e + 1 }))
    closed l m q =
        (omega arith, omega arith, (object p (e + 1) (more_members h.ms i (between (i + 1) j s) v), refl, λ k n. g k n ∙ ap (checked s ns) (at_byte (limits b) s e 125 _ _ m q refl)))

    pub comma : (a : ℕ) → e < length s → get_or s e 0 ≡ 44 → a ≡ gap s (e + 1) → Goes b d s p ns a (live (name p (more_members h.ms i (between (i + 1) j s) v)))
    comma a m q x = λ k n. g k n ∙ ap (checked s ns) (at_byte (limits b) s e 44 _ (live (name p (more_members h.ms i (between (i + 1) j s) v)) k) m q refl ∙ over_gap (limits b) s (e + 1) a (live (name p (more_members h.ms i (between (i + 1) j s) v)) k) tt x)

    pub neither : (e < length s → white (get_or s e 0) ≡ false) → (e < length s → get_or s e 0 ≡ 125 → ⊥) → (e < length s → get_or s e 0 ≡ 44 → ⊥) → Gathers b d s p ns (Err (malformed e))
    neither w x y = λ k n. g k n ∙ ap (checked s ns) (member_out (limits b) s e k w v p h.ms i (between (i + 1) j s) x y)

-- one member more
pub next_name : (b : Bool) (d : ℕ) (s : List ℕ) (p i j : ℕ) (ns : List Span) (free : ℕ) (h : Named b d s p i j ns) (v : Value) (a : ℕ) → Goes b d s p ns a (live (name p (more_members h.ms i (between (i + 1) j s) v))) → p < a → a ≤ length s → (a < length s → white (get_or s a 0) ≡ false) → (b ≡ true → length s < a + 4 * free) → i ≤ a → j < a → SoFar b d s p a ns free
next_name b d s p i j ns free h v a g l m w r x y = record {
  past = l;
  within = m;
  solid = w;
  room = r;
  ends = h.ends a x y;
  up = h.up;
  ms = more_members h.ms i (between (i + 1) j s) v;
  knows = h.knows v;
  reads = g;
}

-- at the first name no names are there yet
pub no_names : (b : Bool) (d : ℕ) (s : List ℕ) (p i free : ℕ) → p < i → i ≤ length s → (i < length s → white (get_or s i 0) ≡ false) → (b ≡ true → length s < i + 4 * free) → ((k : List Frame) → length k + d ≡ 16 → Leads (limits b) s p (live value k) i (live (name p end) k)) → SoFar b d s p i [] free
no_names b d s p i free l m w r g = record {
  past = l;
  within = m;
  solid = w;
  room = r;
  ends = tt;
  up = tt;
  ms = end;
  knows = knows_none b s;
  reads = g;
}

pub no_members : (b : Bool) (d : ℕ) (s : List ℕ) (p i : ℕ) → p < i → i < length s → get_or s i 0 ≡ 125 → ((k : List Frame) → length k + d ≡ 16 → Leads (limits b) s p (live value k) i (live (name1 p) k)) → Gathers b d s p [] (Ok (record { kind = Object; start = p; end = i + 1 }))
no_members b d s p i l m q g = (omega arith, omega arith, (object p (i + 1) end, refl, λ k n. g k n ∙ at_byte (limits b) s i 125 _ _ m q refl))

-- a name is noted behind the others
pub noted_behind : (b : Bool) (old ns : List Span) (i j : ℕ) → noted b (old ++ ns) i j ≡ old ++ noted b ns i j
noted_behind true old ns i j = append_assoc old ns _
noted_behind false old ns i j = refl

pub noted_length : (b : Bool) (ns : List Span) (i j : ℕ) → length (noted b ns i j) ≤ length ns + 1
noted_length true ns i j = omega (arith, length-append ns (record { start = i; end = j } ∷ []))
noted_length false ns i j = omega arith

-- the rows are compared
pub none_repeats : (b : Bool) (d : ℕ) (s : List ℕ) (p : ℕ) (ns : List Span) (r : Result Part Fault) → Ascending ns → FirstRepeat s ns None → Gathers b d s p ns r → Reads (limits b) (live value) d s p r
none_repeats b d s p ns (Ok t) u f g = (g.0, g.1, (g.2.0, g.2.1, λ k n. g.2.2 k n ∙ ap (λ e. ahead e (run (limits b) (drop t.end s) t.end (deliver g.2.0 k))) (sym (in_order s ns None u f))))
none_repeats b d s p ns (Err x) u f g = λ k n. g k n ∙ ap (λ e. ahead e (fault x)) (sym (in_order s ns None u f))

pub one_repeats : (b : Bool) (d : ℕ) (s : List ℕ) (p : ℕ) (ns : List Span) (r : Result Part Fault) (n : Span) → Ascending ns → FirstRepeat s ns (Some n) → Gathers b d s p ns r → Reads (limits b) (live value) d s p (Err (repeated n.end))
one_repeats b d s p ns (Ok t) m u f g = λ k n. g.2.2 k n ∙ ap (λ e. ahead e (run (limits b) (drop t.end s) t.end (deliver g.2.0 k))) (sym (in_order s ns (Some m) u f))
one_repeats b d s p ns (Err x) m u f g = λ k n. g k n ∙ ap (λ e. ahead e (fault x)) (sym (in_order s ns (Some m) u f))
