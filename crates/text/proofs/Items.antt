-- The items of an array.
use Rattle.std.proofs.Common.{◌≡◌, ℕ, ◌+◌, ◌-◌, ◌<◌, ◌≤◌, Bool, false, List, ◌∷◌, length, get_or, Ok, Err, refl, ◌∙◌, arith}
use Rattle.syntax.specs.declared.kinds.Kind.TheVariants.{Array}
use Rattle.syntax.specs.Bytes.{white, gap}
use Rattle.syntax.specs.Value.{Value, Items, array, none, more_items}
use Rattle.syntax.specs.Machine.{limits, State, Frame, in_array, live, value, first, after, malformed}
use Rattle.syntax.specs.Steps.{Leads}
use Rattle.syntax.proofs.Runs.{at_byte}
use Rattle.text.specs.declared.part.Part.{Part}
use Rattle.text.specs.Scans.{Reads}
use Rattle.text.proofs.Scans.{over_gap}
use Rattle.text.proofs.Nests.{first_item, item_out}

-- reading from the bracket at p on is reading from i on
abbrev pub ComesTo : Bool → ℕ → List ℕ → ℕ → ℕ → (List Frame → State) → Type 0
ComesTo b d s p i a = (k : List Frame) → length k + d ≡ 16 → Leads (limits b) s p (live value k) i (a k)

-- at the place i of an item, behind the items vs
pub record ItemsSoFar (b : Bool) (d : ℕ) (s : List ℕ) (p i : ℕ) : Type 0 where
  pub past : p < i
  pub within : i ≤ length s
  pub solid : i < length s → white (get_or s i 0) ≡ false
  pub vs : Items
  pub reads : ComesTo b d s p i (λ k. live value (in_array p vs ∷ k))

module _ (b : Bool) (d : ℕ) (s : List ℕ) (p : ℕ) where
  module _ (i : ℕ) (l : p < i) (g : ComesTo b d s p i (live (first p))) where
    pub no_items : i < length s → get_or s i 0 ≡ 93 → Reads (limits b) (live value) d s p (Ok (record { kind = Array; start = p; end = i + 1 }))
    no_items m q = (omega arith, omega arith, (array p (i + 1) none, refl, λ k n. g k n ∙ at_byte (limits b) s i 93 _ _ m q refl))

    pub some_items : i ≤ length s → (i < length s → white (get_or s i 0) ≡ false) → (i < length s → get_or s i 0 ≡ 93 → ⊥) → ItemsSoFar b d s p i
    some_items m w q = record { past = l; within = m; solid = w; vs = none; reads = λ k n. g k n ∙ first_item (limits b) s i k w p q }

  -- past the item and the white space behind it
  pub item_read : (i : ℕ) (h : ItemsSoFar b d s p i) (t : Part) (e : ℕ) → 0 < d → (r : Reads (limits b) (live value) (d - 1) s i (Ok t)) → e ≡ gap s t.end → ComesTo b d s p e (λ k. live (after r.2.0) (in_array p h.vs ∷ k))
  item_read i h t e m r q = λ k n. h.reads k n ∙ r.2.2 (in_array p h.vs ∷ k) (omega arith) ∙ over_gap (limits b) s t.end e (live (after r.2.0) (in_array p h.vs ∷ k)) tt q

  -- the bracket that ends the array, a comma with the next item behind it, or neither
  module _ (v : Value) (vs : Items) (e : ℕ) (g : ComesTo b d s p e (λ k. live (after v) (in_array p vs ∷ k))) where
    pub items_end : p < e → e < length s → get_or s e 0 ≡ 93 → Reads (limits b) (live value) d s p (Ok (record { kind = Array; start = p; end = e + 1 }))
    items_end l m q = (omega arith, omega arith, (array p (e + 1) (more_items vs v), refl, λ k n. g k n ∙ at_byte (limits b) s e 93 _ _ m q refl))

    pub next_item : (a : ℕ) → e < length s → get_or s e 0 ≡ 44 → a ≡ gap s (e + 1) → p < a → a ≤ length s → (a < length s → white (get_or s a 0) ≡ false) → ItemsSoFar b d s p a
    next_item a m q x l n w = record {
      past = l;
      within = n;
      solid = w;
      vs = more_items vs v;
      reads = λ k y. g k y ∙ at_byte (limits b) s e 44 _ (live value (in_array p (more_items vs v) ∷ k)) m q refl ∙ over_gap (limits b) s (e + 1) a (live value (in_array p (more_items vs v) ∷ k)) tt x;
    }

    pub no_comma : (e < length s → white (get_or s e 0) ≡ false) → (e < length s → get_or s e 0 ≡ 93 → ⊥) → (e < length s → get_or s e 0 ≡ 44 → ⊥) → Reads (limits b) (live value) d s p (Err (malformed e))
    no_comma w x y = λ k n. g k n ∙ item_out (limits b) s e k w v p vs x y
