-- What the grammar spells is read.
use Rattle.std.proofs.Common.{◌≡◌, ℕ, suc, ◌<◌, ◌≤◌, true, false, eqb, List, [], ◌∷◌, length, get_or, drop, Ok, sym, refl, ap, ◌∙◌, arith}
use Rattle.std.proofs.lemmas.Bool.{cond-false, le-ltb}
use Rattle.std.proofs.lemmas.Bool.Decides.{nat_tests}
use Rattle.syntax.specs.declared.kinds.Literal.{Literal}
use Rattle.syntax.specs.declared.kinds.Literal.TheVariants.{Null, False, True}
use Rattle.syntax.specs.Bytes.{white, gap}
use Rattle.syntax.specs.Value.{Value, Items, Members, from, to, string, array, object, none, item, end, member, more_items, more_members}
use Rattle.syntax.specs.Machine.{Rules, run, live, whole, step_live, Frame, in_array, in_object, as_value, as_name, value, first, name1, name, colon, after, deliver, grammar, limits, start}
use Rattle.syntax.specs.Steps.{Leads}
use Rattle.syntax.specs.Grammar.{Byte, Ws, Word, letter, spelling, Quoted, Int, Spells, Elements, Fields, Text}
use Rattle.syntax.specs.Grammar as g
use Rattle.syntax.specs.Reading.{reading, alone, longest}
use Rattle.syntax.specs.Laws.{Lawful, OneValue}
use Rattle.syntax.proofs.Runs.{alike, run_over}
use Rattle.syntax.proofs.Allowed.{Allowed, AllowedItems, AllowedMembers}
use Rattle.syntax.proofs.Keeps.{allowed_grammar, kept_allowed}
pub use Rattle.syntax.proofs.CompleteParts.{stopper, Stops, ws_order, ws_gap, ws_gap_end}
use Rattle.syntax.proofs.CompleteParts.{ws_stops, byte_stops, byte_on, ws_run, quoted_run, literal_run, number_run, number_order, quoted_order, literal_order}

module _ {s : List ℕ} where
  -- where a value ends, within the bytes
  mutual
    pub spells_order : {v : Value} → Spells s v → (from v < to v) × (to v ≤ length s)
    spells_order (g.literal {w = w} x) = literal_order w x
    spells_order (g.number x e) = number_order x
    spells_order (g.string x) = quoted_order x
    spells_order (g.no_items x w y) = let h = ws_order w in (omega arith, omega arith)
    spells_order (g.array x y) = let h = elements_order y in (omega arith, h.1)
    spells_order (g.no_members x w y) = let h = ws_order w in (omega arith, omega arith)
    spells_order (g.object x y) = let h = fields_order y in (omega arith, h.1)

    elements_order : {i j : ℕ} {vs : Items} → Elements s i j vs → (i < j) × (j ≤ length s)
    elements_order (g.last_item w x y b) = let h = spells_order x in (omega (arith, ws_order w, ws_order y), omega arith)
    elements_order (g.more_items w x y b z) = let h = spells_order x in let e = elements_order z in (omega (arith, ws_order w, ws_order y), e.1)

    fields_order : {i j : ℕ} {ms : Members} → Fields s i j ms → (i < j) × (j ≤ length s)
    fields_order (g.last_field w q u c t x y b) = let h = spells_order x in let o = quoted_order q in (omega (arith, ws_order w, ws_order u, ws_order t, ws_order y), omega arith)
    fields_order (g.more_fields w q u c t x y b z) = let h = spells_order x in let o = quoted_order q in let e = fields_order z in (omega (arith, ws_order w, ws_order u, ws_order t, ws_order y), e.1)

-- a value begins at i: no white space, and no closing bracket
record Begun (s : List ℕ) (i : ℕ) : Type 0 where
  solid : white (get_or s i 0) ≡ false
  item : eqb (get_or s i 0) 93 ≡ false

begun : {s : List ℕ} {i b j : ℕ} → Byte s i b j → white b ≡ false → eqb b 93 ≡ false → Begun s i
begun x w e = record { solid = ap white x.is ∙ w; item = ap (λ y. eqb y 93) x.is ∙ e }

digit_solid : (b : ℕ) → 49 ≤ b → b ≤ 57 → white b ≡ false
digit_solid b h l = grind (arith, nat_tests)

digit_item : (b : ℕ) → 49 ≤ b → b ≤ 57 → eqb b 93 ≡ false
digit_item b h l = grind (arith, nat_tests)

int_begun : {s : List ℕ} {i j : ℕ} → Int s i j → Begun s i
int_begun (g.zero x) = begun x refl refl
int_begun (g.whole {b = b} x h l d) = begun x (digit_solid b h l) (digit_item b h l)

number_begun : {s : List ℕ} {i a j : ℕ} → g.Minus s i a → Int s a j → Begun s i
number_begun g.Minus.none y = int_begun y
number_begun (g.minus x) y = begun x refl refl

literal_begun : {s : List ℕ} {i j : ℕ} (w : Literal) → Word s i j (spelling w) → Begun s i
literal_begun Null (letter x y) = begun x refl refl
literal_begun False (letter x y) = begun x refl refl
literal_begun True (letter x y) = begun x refl refl

spells_begun : {s : List ℕ} {v : Value} → Spells s v → Begun s (from v)
spells_begun (g.literal {w = w} x) = literal_begun w x
spells_begun (g.number x e) = number_begun x.minus x.int
spells_begun (g.string x) = begun x.opens refl refl
spells_begun (g.no_items x w y) = begun x refl refl
spells_begun (g.array x y) = begun x refl refl
spells_begun (g.no_members x w y) = begun x refl refl
spells_begun (g.object x y) = begun x refl refl

-- a value begins with no white space
pub spells_solid : {s : List ℕ} {v : Value} → Spells s v → white (get_or s (from v) 0) ≡ false
spells_solid x = (spells_begun x).solid

-- items and members behind others
abbrev with_items : Items → Items → Items
with_items none vs = vs
with_items (item w ws) vs = item w (with_items ws vs)

abbrev with_members : Members → Members → Members
with_members end ms = ms
with_members (member q n w rest) ms = member q n w (with_members rest ms)

one_item : (ws : Items) (v : Value) → more_items ws v ≡ with_items ws (item v none)
one_item none v = refl
one_item (item w ws) v = ap (item w) (one_item ws v)

next_item : (ws : Items) (v : Value) (vs : Items) → with_items (more_items ws v) vs ≡ with_items ws (item v vs)
next_item none v vs = refl
next_item (item w ws) v vs = ap (item w) (next_item ws v vs)

one_member : (before : Members) (q : ℕ) (n : List ℕ) (v : Value) → more_members before q n v ≡ with_members before (member q n v end)
one_member end q n v = refl
one_member (member p m w ms) q n v = ap (member p m w) (one_member ms q n v)

next_member : (before : Members) (q : ℕ) (n : List ℕ) (v : Value) (ms : Members) → with_members (more_members before q n v) ms ≡ with_members before (member q n v ms)
next_member end q n v ms = refl
next_member (member p m w rest) q n v ms = ap (member p m w) (next_member rest q n v ms)

module _ (r : Rules) (s : List ℕ) where
  -- behind an opening bracket, where an item comes, the array goes on as behind a comma
  first_alike : {v : Value} → Spells s v → (p : ℕ) (k : List Frame) → Leads r s (from v) (live (first p) k) (from v) (live value (in_array p none ∷ k))
  first_alike {v} x p k =
      let h = spells_begun x in
      alike r s (from v) (live (first p) k) (live value (in_array p none ∷ k)) (λ l. cond-false _ _ _ h.solid ∙ cond-false _ _ _ h.item ∙ sym (cond-false _ _ _ h.solid)) (λ l. refl)

  first_elements : {i j : ℕ} {vs : Items} → Elements s i j vs → (p : ℕ) (k : List Frame) → Leads r s i (live (first p) k) i (live value (in_array p none ∷ k))
  first_elements (g.last_item w x y b) p k = ws_run r s w (live (first p) k) tt ∙ first_alike x p k ∙ sym (ws_run r s w (live value (in_array p none ∷ k)) tt)
  first_elements (g.more_items w x y b z) p k = ws_run r s w (live (first p) k) tt ∙ first_alike x p k ∙ sym (ws_run r s w (live value (in_array p none ∷ k)) tt)

  -- the same of an opening brace and a name
  name_alike : {q j : ℕ} {n : List ℕ} → Quoted s q j n → (p : ℕ) (k : List Frame) → Leads r s q (live (name1 p) k) q (live (name p end) k)
  name_alike {q = q} x p k = alike r s q (live (name1 p) k) (live (name p end) k) (λ l. ap (λ b. step_live r (name1 p) k b q) x.opens.is ∙ sym (ap (λ b. step_live r (name p end) k b q) x.opens.is)) (λ l. refl)

  first_fields : {i j : ℕ} {ms : Members} → Fields s i j ms → (p : ℕ) (k : List Frame) → Leads r s i (live (name1 p) k) i (live (name p end) k)
  first_fields (g.last_field w x u c t v y b) p k = ws_run r s w (live (name1 p) k) tt ∙ name_alike x p k ∙ sym (ws_run r s w (live (name p end) k) tt)
  first_fields (g.more_fields w x u c t v y b z) p k = ws_run r s w (live (name1 p) k) tt ∙ name_alike x p k ∙ sym (ws_run r s w (live (name p end) k) tt)

  -- what comes behind an item
  item_comma : {i c a : ℕ} → Ws s i c → Byte s c 44 a → (v : Value) (p : ℕ) (ws : Items) (k : List Frame) → Leads r s i (live (after v) (in_array p ws ∷ k)) a (live value (in_array p (more_items ws v) ∷ k))
  item_comma w b v p ws k = ws_run r s w (live (after v) (in_array p ws ∷ k)) tt ∙ byte_on r s (live (after v) (in_array p ws ∷ k)) _ b refl

  item_close : {i c j : ℕ} → Ws s i c → Byte s c 93 j → (v : Value) (p : ℕ) (ws : Items) (k : List Frame) → Leads r s i (live (after v) (in_array p ws ∷ k)) j (deliver (array p j (with_items ws (item v none))) k)
  item_close {j = j} w b v p ws k =
      ws_run r s w (live (after v) (in_array p ws ∷ k)) tt
      ∙ byte_on r s (live (after v) (in_array p ws ∷ k)) _ b (ap (λ y. deliver (array p y (more_items ws v)) k) (sym b.next) ∙ ap (λ y. deliver (array p j y) k) (one_item ws v))

  -- what comes behind a member
  member_comma : {i c a : ℕ} → Ws s i c → Byte s c 44 a → (v : Value) (p : ℕ) (ms : Members) (q : ℕ) (n : List ℕ) (k : List Frame) → Leads r s i (live (after v) (in_object p ms q n ∷ k)) a (live (name p (more_members ms q n v)) k)
  member_comma w b v p ms q n k = ws_run r s w (live (after v) (in_object p ms q n ∷ k)) tt ∙ byte_on r s (live (after v) (in_object p ms q n ∷ k)) _ b refl

  member_close : {i c j : ℕ} → Ws s i c → Byte s c 125 j → (v : Value) (p : ℕ) (ms : Members) (q : ℕ) (n : List ℕ) (k : List Frame) → Leads r s i (live (after v) (in_object p ms q n ∷ k)) j (deliver (object p j (with_members ms (member q n v end))) k)
  member_close {j = j} w b v p ms q n k =
      ws_run r s w (live (after v) (in_object p ms q n ∷ k)) tt
      ∙ byte_on r s (live (after v) (in_object p ms q n ∷ k)) _ b (ap (λ y. deliver (object p y (more_members ms q n v)) k) (sym b.next) ∙ ap (λ y. deliver (object p j y) k) (one_member ms q n v))

  -- a name and its colon
  name_run : {i q c d e f : ℕ} {n : List ℕ} → Ws s i q → Quoted s q c n → Ws s c d → Byte s d 58 e → Ws s e f → (p : ℕ) (ms : Members) (k : List Frame) → r.twice n ms ≡ false → Leads r s i (live (name p ms) k) f (live value (in_object p ms q n ∷ k))
  name_run {q = q} {n = n} w x u b t p ms k h =
      ws_run r s w (live (name p ms) k) tt
      ∙ quoted_run r s x (live (name p ms) k) (as_name p ms) k (live (colon p ms q n) k) refl (cond-false _ _ _ h)
      ∙ ws_run r s u (live (colon p ms q n) k) tt
      ∙ byte_on r s (live (colon p ms q n) k) _ b refl
      ∙ ws_run r s t (live value (in_object p ms q n ∷ k)) tt

  mutual
    value_run : {v : Value} → Spells s v → (k : List Frame) → Allowed r (length k) v → Stops s (to v) → Leads r s (from v) (live value k) (to v) (deliver v k)
    value_run (g.literal {w = w} x) k a h = literal_run r s w x k
    value_run (g.number x e) k a h = number_run r s x e k h
    value_run (g.string {i = i} {j = j} {n = n} x) k a h = quoted_run r s x (live value k) as_value k (deliver (string i j n) k) refl (ap (λ y. deliver (string i y n) k) (sym x.closes.next))
    value_run (g.no_items {i = i} x w y) k a h =
        byte_on r s (live value k) (live (first i) k) x (cond-false _ _ _ a.0) ∙ ws_run r s w (live (first i) k) tt
        ∙ byte_on r s (live (first i) k) _ y (ap (λ t. deliver (array i t none) k) (sym y.next))
    value_run (g.array {i = i} x y) k a h = byte_on r s (live value k) (live (first i) k) x (cond-false _ _ _ a.0) ∙ first_elements y i k ∙ elements_run y i none k a.1
    value_run (g.no_members {i = i} x w y) k a h =
        byte_on r s (live value k) (live (name1 i) k) x (cond-false _ _ _ a.0) ∙ ws_run r s w (live (name1 i) k) tt
        ∙ byte_on r s (live (name1 i) k) _ y (ap (λ t. deliver (object i t end) k) (sym y.next))
    value_run (g.object {i = i} x y) k a h = byte_on r s (live value k) (live (name1 i) k) x (cond-false _ _ _ a.0) ∙ first_fields y i k ∙ fields_run y i end k a.1

    elements_run : {i j : ℕ} {vs : Items} → Elements s i j vs → (p : ℕ) (ws : Items) (k : List Frame) → AllowedItems r (suc (length k)) vs → Leads r s i (live value (in_array p ws ∷ k)) j (deliver (array p j (with_items ws vs)) k)
    elements_run (g.last_item {w = v} w x y b) p ws k a =
        ws_run r s w (live value (in_array p ws ∷ k)) tt ∙ value_run x (in_array p ws ∷ k) a.0 (ws_stops y (byte_stops b refl)) ∙ item_close y b v p ws k
    elements_run (g.more_items {j = j} {w = v} {vs = vs} w x y b z) p ws k a =
        ws_run r s w (live value (in_array p ws ∷ k)) tt ∙ value_run x (in_array p ws ∷ k) a.0 (ws_stops y (byte_stops b refl)) ∙ item_comma y b v p ws k
        ∙ elements_run z p (more_items ws v) k a.1 ∙ ap (λ t. run r (drop j s) j (deliver (array p j t) k)) (next_item ws v vs)

    fields_run : {i j : ℕ} {ms : Members} → Fields s i j ms → (p : ℕ) (before : Members) (k : List Frame) → AllowedMembers r (suc (length k)) before ms → Leads r s i (live (name p before) k) j (deliver (object p j (with_members before ms)) k)
    fields_run (g.last_field {q = q} {n = n} {w = v} w o u c t x y b) p before k a =
        name_run w o u c t p before k a.0 ∙ value_run x (in_object p before q n ∷ k) a.1 (ws_stops y (byte_stops b refl)) ∙ member_close y b v p before q n k
    fields_run (g.more_fields {q = q} {j = j} {n = n} {w = v} {ms = ms} w o u c t x y b z) p before k a =
        name_run w o u c t p before k a.0 ∙ value_run x (in_object p before q n ∷ k) a.1 (ws_stops y (byte_stops b refl)) ∙ member_comma y b v p before q n k
        ∙ fields_run z p (more_members before q n v) k a.2 ∙ ap (λ t. run r (drop j s) j (deliver (object p j t) k)) (next_member before q n v ms)

-- Reading goes through a value of the grammar that is allowed and has behind it what may stand there, and delivers it.
pub complete : (r : Rules) (s : List ℕ) (v : Value) → Spells s v → (k : List Frame) → Allowed r (length k) v → Stops s (to v) → Leads r s (from v) (live value k) (to v) (deliver v k)
complete r s v x k a h = value_run r s x k a h

-- A text of the grammar that is allowed is read, and nothing comes behind its value.
pub complete_text : (r : Rules) (s : List ℕ) (v : Value) → Text s v → Allowed r 0 v → (run r s 0 start ≡ whole v) × (gap s (to v) ≡ length s)
complete_text r s v x a =
    let h : Stops s (length s) = λ l. absurd (omega arith) in
    (ws_run r s x.before start tt ∙ value_run r s x.spells [] a (ws_stops x.behind h) ∙ run_over r (drop (to v) s) (to v) (whole v), ws_gap_end x.behind)

-- A lawful text is read as the value that it spells.
pub accepts : (s : List ℕ) (v : Value) → Lawful s v → reading s ≡ Ok v
unfolding reading
accepts s v x =
    let c = complete_text (limits true) s v x.text (kept_allowed 0 v x.kept) in
    let e = c.1 in
    cond-false _ _ _ (le-ltb longest (length s) x.short) ∙ ap (alone s) c.0 ∙ cond-false _ _ _ (le-ltb (gap s (to v)) (length s) (omega arith))

-- Two derivations spell one value.
pub one_value : OneValue
one_value s v w x y =
    let a = (complete_text grammar s v x (allowed_grammar 0 v)).0 in
    let b = (complete_text grammar s w y (allowed_grammar 0 w)).0 in
    cc
